-- The end of a label with a plain resource is read as the definitions read it.
use Rattle.std.proofs.Common.{◌≡◌, ◌≢◌, ℕ, ◌==◌, ◌&&◌, ◌||◌, Bool, true, false, List, [], ◌∷◌, ◌++◌, Option, None, Some, refl, sym, ap, subst, ◌∙◌, append_assoc, length, arith}
use Rattle.std.specs.Option.{is_some}
use Rattle.std.proofs.lemmas.Bool.{both_ways, eq-eqb, eqb-true, not-true, or_parts}
use Rattle.markdown_event.proofs.AndParts.{and-left, and-right}
use Rattle.markdown_content.specs.Codes.{Code, is_blank, is_line_ending}
use Rattle.markdown_content.specs.Content.{has_no_blank_line}
use Rattle.markdown_content.specs.ListFunctions.{rest_of}
use Rattle.markdown_content.specs.Place.{Place, ahead_at, code_at, moved, point_of}
use Rattle.markdown_content.specs.Stretch.{is_free, past_stretch, stops, stretch}
use Rattle.markdown_content.specs.Tree.{Forest, leaf, linked, group, leaf_codes, ◌⊕◌}
use Rattle.markdown_event.specs.declared.event.Content.TheVariants as Content
use Rattle.markdown_event.specs.declared.event.Name.{Name}
use Rattle.markdown_event.specs.declared.event.Name.TheVariants as N
use Rattle.markdown_content.proofs.PlaceRules.{IsAhead, ahead_some, code_at_ahead}
use Rattle.markdown_content.proofs.StretchLemmas.{stretch-goes, stretch-stops}
use Rattle.markdown_engine.specs.Operations.{Op, Enter, EnterLink, Exit, ahead, applied, current_of, done, scratched}
use Rattle.markdown_engine.specs.PastTree.{moved_by, passed, past}
use Rattle.markdown_engine.specs.TreeOps.{consumes}
use Rattle.markdown_engine.specs.declared.tokenizer.Tokenizer.{Tokenizer}
use Rattle.markdown_engine.proofs.OperationLemmas.{ahead-done}
use Rattle.markdown_engine.proofs.TreeEvents.{ahead-past, done-append, done-consumes}
use Rattle.markdown_label.specs.LabelEnd.{Ends, end_ops, ended, is_on, made_here}
use Rattle.markdown_label.specs.LabelFields.{AreOrdered}
use Rattle.markdown_label_names.specs.LabelSetting.{setting_in}
use Rattle.markdown_label.specs.Resource.{after_destination, after_destination_of, closes, inside}
use Rattle.markdown_label.proofs.LabelEndReadings.{after-paren}
use Rattle.markdown_label.proofs.ResourceReadings.{grouped, resource-inside}
use Rattle.markdown_model.specs.CodeTests.{is_among, is_between, is_control, is_value, is_whitespace_code, next_is}
use Rattle.markdown_model.specs.Grammar.{escaped_from, gives, one, up_to}
use Rattle.markdown_model.specs.LabelEnd.{shortcut}
use Rattle.markdown_model.specs.Resource.{escaped_between, is_bare_opener, destination, literal_destination, raw_destination, raw_from, resource, resource_names, string_group, title, title_between, title_names}
use Rattle.markdown_model.specs.Setting.{Setting, rules}
use Rattle.markdown_model.specs.TextLines.{lines}
use Rattle.markdown_model.specs.Whitespace.{space_or_tab_eol}
use Rattle.markdown_model.proofs.GrammarSteps.{after-some, bind-none, bind-some, either-second, either-some, if-false, if-true, one-here, one-other, provided-true, span-none, span-takes}
use Rattle.markdown_partial.proofs.WhitespaceReadings.{ending-none, spacing-none, spacing-then}
use Rattle.markdown_partial.specs.LinkedText.{line_of, string}
use Rattle.markdown_partial.specs.LinkedTreeOps.{linked_ops}
use Rattle.markdown_partial.specs.PartialDestination.{enclosed_stops, raw_stops}
use Rattle.markdown_partial.proofs.BoolLemmas.{same-value}
use Rattle.markdown_partial.proofs.EscapedTextReadings.{text-next, text-stops}
use Rattle.markdown_partial.proofs.LinkedTextLines.{lines-data}
use Rattle.markdown_partial.proofs.LinkedTreeLemmas.{CoversRow, Row-group, Row-last, Row-leaf, Row-linked, Row-whole, linked-past}
use Rattle.markdown_partial.proofs.PartialDestinationReadings.{if-here, if-other, raw-next, raw-stop}
use Rattle.markdown_plan.proofs.ByteTestLemmas.{no-control}
use Rattle.markdown_run_text.specs.PlacesPassed.{is_some_value, marker_ops, with_enter, with_exit}
use Rattle.markdown_run_text.specs.PlainResource.{begins_enclosed, between_read, closes_at, closes_behind, destination_at, destination_read, enclosed_read, is_quote, is_some_blank, may_make, past_between, past_destination, past_quoted, past_title}
use Rattle.markdown_run_text.specs.PlainResource.{plain_at, plain_here, quoted_at, quoted_read, raw_read, resource_read, stands_between, tail_at, tail_read, text_read, title_at, title_read, title_stops}
use Rattle.markdown_run_text.proofs.StretchParts.{text-parts, text-passed}
use Rattle.markdown_run_text.proofs.LabelEndReads.{EndFollows, asks-nothing, ends-where}

-- all of it stands on one line
on-line : (ms : List ℕ) (cs : List Code) → line_of (stretch ms cs) ≡ (stretch ms cs, [])
on-line ms [] = refl
on-line ms (c ∷ cs) = grind (arith, stretch-stops, or_parts, stretch-goes, span-takes, on-line ms cs)

line-filled : (d : Code) → is_line_ending d ≡ false → has_no_blank_line true (d ∷ []) ≡ true
line-filled d h = ap (λ b. elim b as (λ _. Bool) [ true ↦ has_no_blank_line false [] | false ↦ has_no_blank_line true [] ]) h

pub no-blank-line : (ms : List ℕ) (cs : List Code) (d : Code) → is_line_ending d ≡ false →
    has_no_blank_line true (stretch ms cs ++ d ∷ []) ≡ true
no-blank-line ms [] d h = line-filled d h
no-blank-line ms (c ∷ cs) d h = grind (arith, line-filled, stretch-stops, stretch-goes, or_parts, no-blank-line ms cs d)

-- A text that these bytes stop, its first code, and the codes behind it.

pub record IsTextStretch (ms : List ℕ) (t : Code) (ts rest : List Code) : Type 0 where
  pub text : stretch ms ((t ∷ ts) ++ rest) ≡ t ∷ ts
  pub first : stops ms t.value ≡ false

-- its leaf is data
pub one-line : (ms : List ℕ) (t : Code) (ts rest : List Code) → IsTextStretch ms t ts rest →
    lines N.Data string (t ∷ ts) ≡ linked N.Data (t ∷ ts)
one-line ms t ts rest k = grind (arith, on-line, or_parts, span-takes, lines-data)

-- A text with escapes, in which none stands.

module _ (stop takes refuses : Code → Bool) (ms : List ℕ) (free : (c : Code) → stops ms c.value ≡ false → (stop c ≡ false) × ((refuses c ≡ false) × ((c.value == 92) ≡ false))) where
  plain-text : (cs rest : List Code) (b : Code) → cs ≡ stretch ms cs ++ b ∷ rest → stop b ≡ true →
      escaped_from stop takes refuses false cs ≡ Some (stretch ms cs, b ∷ rest)
  plain-text [] rest b e h = cc
  plain-text (c ∷ cs) rest b e h = grind (arith, stretch-stops, text-stops, stretch-goes, text-next, plain-text cs rest b)

  pub text-is : (t : Code) (ts : List Code) (b : Code) (rest : List Code) → IsTextStretch ms t ts (b ∷ rest) → stop b ≡ true →
      up_to stop takes refuses ((t ∷ ts) ++ b ∷ rest) ≡ Some (t ∷ ts, b ∷ rest)
  unfolding up_to
  text-is t ts b rest k h = grind (arith, plain-text ((t ∷ ts) ++ b ∷ rest) rest b)

-- The trees, and the operations that pass them.

abbrev pub between_row : Name → Name → Code → List Code → Code → Forest
between_row marker text f w b = leaf marker (f ∷ []) ⊕ (group text (linked N.Data w) ⊕ leaf marker (b ∷ []))

abbrev pub between_tree : Name → Name → Name → Code → List Code → Code → Forest
between_tree whole marker text f w b = group whole (between_row marker text f w b)

abbrev raw_tree : List Code → Forest
raw_tree w = group N.ResourceDestinationRaw (group N.ResourceDestinationString (linked N.Data w))

abbrev enclosed_tree : Code → List Code → Code → Forest
enclosed_tree f w b = between_tree N.ResourceDestinationLiteral N.ResourceDestinationLiteralMarker N.ResourceDestinationString f w b

abbrev title_tree : Code → List Code → Code → Forest
title_tree f w b = between_tree N.ResourceTitle N.ResourceTitleMarker N.ResourceTitleString f w b

between-row : (marker text : Name) (f t : Code) (ts : List Code) (b : Code) →
    CoversRow (between_row marker text f (t ∷ ts) b) (f ∷ ((t ∷ ts) ++ b ∷ []))
between-row marker text f t ts b = grind (arith, Row-leaf marker (f ∷ []) (f ∷ []) ((t ∷ ts) ++ b ∷ []) (group text (linked N.Data (t ∷ ts)) ⊕ leaf marker (b ∷ [])), Row-group text (t ∷ ts) (b ∷ []) (linked N.Data (t ∷ ts)) (leaf marker (b ∷ [])), Row-linked N.Data (t ∷ ts) (t ∷ ts), Row-last marker (b ∷ []) (b ∷ []))

pub between-covers : (whole marker text : Name) (f t : Code) (ts : List Code) (b : Code) →
    CoversRow (between_tree whole marker text f (t ∷ ts) b) (f ∷ ((t ∷ ts) ++ b ∷ []))
between-covers whole marker text f t ts b = grind (arith, Row-whole whole (f ∷ ((t ∷ ts) ++ b ∷ [])) (between_row marker text f (t ∷ ts) b), between-row marker text f t ts b)

ops-group : (n : Name) (t u : Forest) → linked_ops false (group n t ⊕ u) ≡ linked_ops false (group n t) ++ linked_ops false u
ops-group n t u = ap (λ os. Enter n ∷ os) (sym (append_assoc (linked_ops false t) (Exit n ∷ []) (linked_ops false u)))

-- a group, whose inside is passed
group-reads : (n : Name) (t : Forest) (T U : Tokenizer) → U ≡ done (linked_ops false t) (applied (Enter n) T) →
    applied (Exit n) U ≡ done (linked_ops false (group n t)) T
group-reads n t T U e = ap (applied (Exit n)) e ∙ sym (done-append (linked_ops false t) (Exit n ∷ []) (applied (Enter n) T))

abbrev text_front : Name → List Op
text_front name = Enter name ∷ EnterLink N.Data Content.String ∷ []

abbrev text_back : Name → List Op
text_back name = Exit N.Data ∷ Exit name ∷ []

text-reads : (name : Name) (ms : List ℕ) (t : Code) (ts rest : List Code) (T : Tokenizer) → IsTextStretch ms t ts rest →
    ahead T ≡ (t ∷ ts) ++ rest → text_read name ms T ≡ done (linked_ops false (group name (linked N.Data (t ∷ ts)))) T
unfolding passed
text-reads name ms t ts rest T k e =
    let w : List Code = t ∷ ts in
    let U : Tokenizer = done (text_front name) T in
    let V : Place → Tokenizer = λ p. record U { cursor = p } in
    let there : stretch ms (ahead U) ≡ w = ap (stretch ms) (ahead-done (text_front name) T ∙ e) ∙ k.text in
    ap (λ p. done (text_back name) (V p)) (text-passed ms U.cursor ∙ ap (λ xs. moved_by xs U.cursor) there)
    ∙ sym (done-append (text_front name) (consumes w ++ text_back name) T ∙ done-consumes w (text_back name) U)
    ∙ ap (λ os. done (Enter name ∷ EnterLink N.Data Content.String ∷ os) T) (sym (append_assoc (consumes w) (Exit N.Data ∷ []) (Exit name ∷ [])))

-- one part after another
three-done : (xs ys zs : List Op) (T U V : Tokenizer) → U ≡ done xs T → V ≡ done ys U → done zs V ≡ done (xs ++ (ys ++ zs)) T
three-done xs ys zs T U V e h = grind (arith, done-append)

pub between-reads : (whole marker text : Name) (ms : List ℕ) (f t : Code) (ts : List Code) (b : Code) (rest : List Code) (T : Tokenizer) →
    IsTextStretch ms t ts (b ∷ rest) → ahead T ≡ f ∷ ((t ∷ ts) ++ b ∷ rest) →
    between_read whole marker text ms T ≡ done (linked_ops false (between_tree whole marker text f (t ∷ ts) b)) T
between-reads whole marker text ms f t ts b rest T k e =
    let F : List Op = Enter whole ∷ marker_ops marker in
    let B : List Op = marker_ops marker ++ Exit whole ∷ [] in
    let W : Forest = group text (linked N.Data (t ∷ ts)) in
    let there : ahead (done F T) ≡ (t ∷ ts) ++ b ∷ rest = ahead-done F T ∙ ap rest_of e in
    three-done F (linked_ops false W) B T (done F T) _ refl (text-reads text ms t ts (b ∷ rest) (done F T) k there)
    ∙ ap (λ os. done (F ++ os) T) (sym (append_assoc (linked_ops false W) (marker_ops marker) (Exit whole ∷ [])) ∙ ap (λ os. os ++ Exit whole ∷ []) (sym (ops-group text (linked N.Data (t ∷ ts)) (leaf marker (b ∷ [])))))

-- The destination.

-- a destination, and the codes behind it
record IsResourceTarget (cs rest : List Code) : Type 0 where
  tree : Forest
  codes : List Code
  whole : cs ≡ codes ++ rest
  some : codes ≢ []
  blank : next_is is_blank cs ≡ false
  ending : next_is is_line_ending cs ≡ false
  close : next_is (is_value 41) cs ≡ false
  holds : destination 32 resource_names cs ≡ Some (group N.ResourceDestination tree, rest)
  covers : CoversRow tree codes
  reads : (T : Tokenizer) → ahead T ≡ cs → destination_read T ≡ done (linked_ops false (group N.ResourceDestination tree)) T

enclosed-free : (c : Code) → stops enclosed_stops c.value ≡ false →
    (is_value 62 c ≡ false) × ((is_value 60 c || is_line_ending c ≡ false) × ((c.value == 92) ≡ false))
enclosed-free c h = grind (arith, or_parts)

abbrev enclosed_refuses : Code → Bool
enclosed_refuses c = is_value 60 c || is_line_ending c

-- the code at hand, by the codes ahead
here-is : (T : Tokenizer) (c : Code) (cs : List Code) → ahead T ≡ c ∷ cs → current_of T ≡ Some c.value
here-is T c cs e = code_at_ahead T.cursor c cs e

module _ (f t : Code) (ts : List Code) (b : Code) (rest : List Code) (k : IsTextStretch enclosed_stops t ts (b ∷ rest)) (front : is_value 60 f ≡ true) (back : is_value 62 b ≡ true) where
  abbrev enclosed : List Code
  enclosed = f ∷ ((t ∷ ts) ++ b ∷ rest)

  enclosed-holds : destination 32 resource_names enclosed ≡ Some (group N.ResourceDestination (enclosed_tree f (t ∷ ts) b), rest)
  unfolding destination literal_destination gives
  enclosed-holds =
      if-here (is_value 60) _ _ enclosed front
      ∙ bind-some (one (is_value 60)) _ enclosed (f ∷ []) ((t ∷ ts) ++ b ∷ rest) _ (one-here (is_value 60) f ((t ∷ ts) ++ b ∷ rest) front)
      (bind-some (up_to (is_value 62) (is_among (60 ∷ 62 ∷ 92 ∷ [])) enclosed_refuses) _ ((t ∷ ts) ++ b ∷ rest) (t ∷ ts) (b ∷ rest) _
      (text-is (is_value 62) (is_among (60 ∷ 62 ∷ 92 ∷ [])) enclosed_refuses enclosed_stops enclosed-free t ts b rest k back)
      (bind-some (one (is_value 62)) _ (b ∷ rest) (b ∷ []) rest _ (one-here (is_value 62) b rest back) refl))

  enclosed-reads : (T : Tokenizer) → ahead T ≡ enclosed →
      destination_read T ≡ done (linked_ops false (group N.ResourceDestination (enclosed_tree f (t ∷ ts) b))) T
  enclosed-reads T e =
      let U : Tokenizer = applied (Enter N.ResourceDestination) T in
      let here : begins_enclosed T.cursor ≡ true = ap (is_some_value 60) (here-is T f _ e) ∙ front in
      ap (applied (Exit N.ResourceDestination)) (if-true (begins_enclosed T.cursor) (enclosed_read U) (raw_read U) here)
      ∙ group-reads N.ResourceDestination (enclosed_tree f (t ∷ ts) b) T (enclosed_read U)
      (between-reads N.ResourceDestinationLiteral N.ResourceDestinationLiteralMarker N.ResourceDestinationString enclosed_stops f t ts b rest U k (ahead-done (Enter N.ResourceDestination ∷ []) T ∙ e))

  enclosed-target : IsResourceTarget enclosed rest
  enclosed-target =
      let ws : List Code = f ∷ ((t ∷ ts) ++ b ∷ []) in
      record {
        tree = enclosed_tree f (t ∷ ts) b;
        codes = ws;
        whole = ap (λ xs. f ∷ xs) (sym (append_assoc (t ∷ ts) (b ∷ []) rest));
        some = λ e. cc;
        blank = same-value f.value 60 front (λ v. v == 32 || v == 9);
        ending = same-value f.value 60 front (λ v. v == 10);
        close = same-value f.value 60 front (λ v. v == 41);
        holds = enclosed-holds;
        covers = between-covers N.ResourceDestinationLiteral N.ResourceDestinationLiteralMarker N.ResourceDestinationString f t ts b;
        reads = enclosed-reads;
      }

-- a tab is a control
no-tab : (v : ℕ) → is_between 1 31 v ≡ false → (b : Bool) → (v == 9) ≡ b → (v == 9) ≡ false
no-tab v h k e = grind (arith, both_ways, same-value)

-- a code that does not stop a destination without brackets
record IsRawCode (c : Code) : Type 0 where
  blank : is_blank c ≡ false
  ending : is_line_ending c ≡ false
  stays : (is_whitespace_code c || (is_value 41 c && true)) ≡ false
  control : is_control c ≡ false
  opening : is_value 40 c ≡ false
  close : is_value 41 c ≡ false
  slash : (c.value == 92) ≡ false

plain-code : (c : Code) → stops raw_stops c.value ≡ false → IsRawCode c
plain-code c h = grind (arith, or_parts, no-control, no-tab)

-- a code before which it ends
abbrev ends_raw : Code → Bool
ends_raw b = is_whitespace_code b || (is_value 41 b && true)

raw-text : (cs rest : List Code) (b : Code) → cs ≡ stretch raw_stops cs ++ b ∷ rest → ends_raw b ≡ true →
    raw_from 32 false 0 cs ≡ Some (stretch raw_stops cs, b ∷ rest)
raw-text [] rest b e h = cc
raw-text (c ∷ cs) rest b e h = grind (arith, stretch-stops, raw-stop, plain-code, stretch-goes, raw-next, raw-text cs rest b)

module _ (t : Code) (ts : List Code) (b : Code) (rest : List Code) (k : IsTextStretch raw_stops t ts (b ∷ rest)) (bare : is_value 60 t ≡ false) (back : ends_raw b ≡ true) where
  abbrev raw : List Code
  raw = (t ∷ ts) ++ b ∷ rest

  raw-holds : destination 32 resource_names raw ≡ Some (group N.ResourceDestination (raw_tree (t ∷ ts)), b ∷ rest)
  unfolding destination raw_destination gives
  raw-holds =
      if-other (is_value 60) _ _ raw bare
      ∙ bind-some (raw_from 32 false 0) _ raw (t ∷ ts) (b ∷ rest) _
      (raw-text raw rest b (ap (λ xs. xs ++ b ∷ rest) (sym k.text)) back ∙ ap (λ xs. Some (xs, b ∷ rest)) k.text)
      (after-some _ _ (b ∷ rest) [] (b ∷ rest) _ (provided-true true (b ∷ rest) refl) refl)

  raw-reads : (T : Tokenizer) → ahead T ≡ raw →
      destination_read T ≡ done (linked_ops false (group N.ResourceDestination (raw_tree (t ∷ ts)))) T
  raw-reads T e =
      let U : Tokenizer = applied (Enter N.ResourceDestination) T in
      let V : Tokenizer = applied (Enter N.ResourceDestinationRaw) U in
      let here : begins_enclosed T.cursor ≡ false = ap (is_some_value 60) (here-is T t _ e) ∙ bare in
      let there : ahead V ≡ raw = ahead-done (Enter N.ResourceDestination ∷ Enter N.ResourceDestinationRaw ∷ []) T ∙ e in
      let inner : Forest = group N.ResourceDestinationString (linked N.Data (t ∷ ts)) in
      ap (applied (Exit N.ResourceDestination)) (if-false (begins_enclosed T.cursor) (enclosed_read U) (raw_read U) here)
      ∙ group-reads N.ResourceDestination (raw_tree (t ∷ ts)) T (raw_read U)
      (group-reads N.ResourceDestinationRaw inner U (text_read N.ResourceDestinationString raw_stops V)
      (text-reads N.ResourceDestinationString raw_stops t ts (b ∷ rest) V k there))

  raw-target : IsResourceTarget raw (b ∷ rest)
  raw-target =
      let w : List Code = t ∷ ts in
      let inner : Forest = group N.ResourceDestinationString (linked N.Data w) in
      let p : IsRawCode t = plain-code t k.first in
      record {
        tree = raw_tree w;
        codes = w;
        whole = refl;
        some = λ e. cc;
        blank = p.blank;
        ending = p.ending;
        close = p.close;
        holds = raw-holds;
        covers = Row-whole N.ResourceDestinationRaw w inner (λ e. cc) (Row-whole N.ResourceDestinationString w (linked N.Data w) (λ e. cc) (Row-linked N.Data w w refl));
        reads = raw-reads;
      }

-- What stands behind it.

record IsResourceTail (cs : List Code) : Type 0 where
  row : Forest
  codes : List Code
  rest : List Code
  whole : cs ≡ codes ++ rest
  holds : (both : Bool) → after_destination both cs ≡ Some (row, rest)
  covers : CoversRow row codes
  reads : (T : Tokenizer) → ahead T ≡ cs → tail_read T ≡ done (linked_ops false row) T

-- no whitespace begins at such a code
no-spacing : (c : Code) (cs : List Code) → is_blank c ≡ false → is_line_ending c ≡ false → space_or_tab_eol None (c ∷ cs) ≡ None
no-spacing c cs h k = spacing-none None (c ∷ cs) h ∙ ending-none None false (c ∷ cs) k

module _ (b : Code) (rest : List Code) (back : is_value 41 b ≡ true) where
  closes-is : closes (b ∷ rest) ≡ Some (leaf N.ResourceMarker (b ∷ []), rest)
  unfolding gives
  closes-is = bind-some (one (is_value 41)) _ (b ∷ rest) (b ∷ []) rest _ (one-here (is_value 41) b rest back) refl

  closed-here : space_or_tab_eol None (b ∷ rest) ≡ None
  closed-here = no-spacing b rest (same-value b.value 41 back (λ v. v == 32 || v == 9)) (same-value b.value 41 back (λ v. v == 10))

  closing-tail : IsResourceTail (b ∷ rest)
  closing-tail = record {
    row = leaf N.ResourceMarker (b ∷ []);
    codes = b ∷ [];
    rest = rest;
    whole = refl;
    holds = λ both. ap (λ o. after_destination_of both o (b ∷ rest)) closed-here ∙ closes-is;
    covers = Row-last N.ResourceMarker (b ∷ []) (b ∷ []) refl;
    reads = λ (T : Tokenizer) (e : ahead T ≡ b ∷ rest).
        let here : closes_at T.cursor ≡ true = ap (is_some_value 41) (here-is T b rest e) ∙ back in
        ap (done (marker_ops N.ResourceMarker)) (if-true (closes_at T.cursor) T (title_read T) here);
  }

-- Titles.

-- what holds of both quotes
of-quote : (v : ℕ) (P : ℕ → Type 0) → is_quote v ≡ true → P 34 → P 39 → P v
of-quote v P h x y = grind (arith, eqb-true)

title-free : (m : ℕ) (c : Code) → stops (m ∷ 92 ∷ []) c.value ≡ false →
    (is_value m c ≡ false) × ((is_bare_opener false m c ≡ false) × ((c.value == 92) ≡ false))
title-free m c h = grind (arith, or_parts)

module _ (m : ℕ) (f t : Code) (ts : List Code) (b : Code) (rest : List Code) (k : IsTextStretch (m ∷ 92 ∷ []) t ts (b ∷ rest)) (front : is_value m f ≡ true) (back : is_value m b ≡ true) (line : is_line_ending b ≡ false) where
  abbrev quoted : List Code
  quoted = f ∷ ((t ∷ ts) ++ b ∷ rest)

  title-between : title_between false m m title_names quoted ≡ Some (title_tree f (t ∷ ts) b, rest)
  unfolding title_between gives
  title-between =
      let filled : has_no_blank_line true ((t ∷ ts) ++ b ∷ []) ≡ true =
      ap (λ xs. has_no_blank_line true (xs ++ b ∷ [])) (sym k.text) ∙ no-blank-line (m ∷ 92 ∷ []) ((t ∷ ts) ++ b ∷ rest) b line in
      bind-some (one (is_value m)) _ quoted (f ∷ []) ((t ∷ ts) ++ b ∷ rest) _ (one-here (is_value m) f ((t ∷ ts) ++ b ∷ rest) front)
      (bind-some (up_to (is_value m) (escaped_between false m m) (is_bare_opener false m)) _ ((t ∷ ts) ++ b ∷ rest) (t ∷ ts) (b ∷ rest) _
      (text-is (is_value m) (escaped_between false m m) (is_bare_opener false m) (m ∷ 92 ∷ []) (title-free m) t ts b rest k back)
      (bind-some (one (is_value m)) _ (b ∷ rest) (b ∷ []) rest _ (one-here (is_value m) b rest back)
      (after-some _ _ rest [] rest _ (provided-true _ rest filled) refl)))
      ∙ ap (λ u. Some (group N.ResourceTitle (leaf N.ResourceTitleMarker (f ∷ []) ⊕ string_group N.ResourceTitleString u ⊕ leaf N.ResourceTitleMarker (b ∷ [])), rest)) (one-line (m ∷ 92 ∷ []) t ts (b ∷ rest) k)

between-none : (m : ℕ) (f : Code) (cs : List Code) → is_value m f ≡ false → title_between false m m title_names (f ∷ cs) ≡ None
unfolding title_between
between-none m f cs h = bind-none _ _ (f ∷ cs) (one-other (is_value m) f cs h)

TitleIs : Bool → Code → Code → List Code → Code → List Code → ℕ → Type 0
TitleIs both f t ts b rest v =
    IsTextStretch (title_stops v) t ts (b ∷ rest) → is_value v f ≡ true → is_value v b ≡ true →
    title both title_names (f ∷ ((t ∷ ts) ++ b ∷ rest)) ≡ Some (title_tree f (t ∷ ts) b, rest)

title-is : (both : Bool) (f t : Code) (ts : List Code) (b : Code) (rest : List Code) (v : ℕ) → is_quote v ≡ true →
    TitleIs both f t ts b rest v
unfolding TitleIs title
title-is both f t ts b rest v h = grind (arith, of-quote, either-some, title-between, same-value, either-second, between-none)

-- so behind a space or a tab, and before a `)`
module _ (s f t : Code) (ts : List Code) (b z : Code) (rest : List Code) (blank : is_blank s ≡ true) (quote : is_quote f.value ≡ true) (k : IsTextStretch (title_stops f.value) t ts (b ∷ z ∷ rest)) (back : is_value f.value b ≡ true) (close : is_value 41 z ≡ true) where
  abbrev text : List Code
  text = f ∷ ((t ∷ ts) ++ b ∷ z ∷ rest)

  abbrev titled_row : Forest
  titled_row = leaf N.SpaceOrTab (s ∷ []) ⊕ (title_tree f (t ∷ ts) b ⊕ leaf N.ResourceMarker (z ∷ []))

  space-is : space_or_tab_eol None (s ∷ text) ≡ Some (leaf N.SpaceOrTab (s ∷ []), text)
  space-is = grind (arith, of-quote, span-takes, span-none, spacing-then, ending-none)

  titled-holds : (both : Bool) → after_destination both (s ∷ text) ≡ Some (titled_row, rest)
  unfolding TitleIs
  titled-holds both = grind (arith, of-quote, space-is, if-true, title-is, eq-eqb, closed-here, closes-is)

  titled-reads : (T : Tokenizer) → ahead T ≡ s ∷ text →
      tail_read T ≡ done (linked_ops false titled_row) T
  titled-reads T e =
      let F : List Op = marker_ops N.SpaceOrTab in
      let B : List Op = marker_ops N.ResourceMarker in
      let W : Forest = title_tree f (t ∷ ts) b in
      let U : Tokenizer = done F T in
      let other : is_value 41 s ≡ false = of-blank s.value blank in
      let here : closes_at T.cursor ≡ false = ap (is_some_value 41) (here-is T s text e) ∙ other in
      let there : ahead U ≡ text = ahead-done F T ∙ ap rest_of e in
      ap (done B)
      (if-false (closes_at T.cursor) T (title_read T) here
      ∙ ap (λ o. quoted_read o U) (here-is U f _ there))
      ∙ three-done F (linked_ops false W) B T U _ refl (between-reads N.ResourceTitle N.ResourceTitleMarker N.ResourceTitleString (title_stops f.value) f t ts b (z ∷ rest) U k there)
      ∙ ap (λ os. done (F ++ os) T) (sym (ops-group N.ResourceTitle (between_row N.ResourceTitleMarker N.ResourceTitleString f (t ∷ ts) b) (leaf N.ResourceMarker (z ∷ []))))
    where
      of-blank : (v : ℕ) → v == 32 || v == 9 ≡ true → (v == 41) ≡ false
      of-blank v h = by_test (v == 32) (v == 9) refl refl h
        where
          by_test : (a c : Bool) → (v == 32) ≡ a → (v == 9) ≡ c → a || c ≡ true → (v == 41) ≡ false
          by_test true c e h k = same-value v 32 e (λ x. x == 41)
          by_test false true e h k = same-value v 9 h (λ x. x == 41)
          by_test false false e h k = cc

  titled-tail : IsResourceTail (s ∷ text)
  titled-tail =
      let w : List Code = f ∷ ((t ∷ ts) ++ b ∷ []) in
      record {
        row = titled_row;
        codes = s ∷ (w ++ z ∷ []);
        rest = rest;
        whole = ap (λ xs. s ∷ f ∷ xs) (sym (append_assoc ((t ∷ ts) ++ b ∷ []) (z ∷ []) rest ∙ append_assoc (t ∷ ts) (b ∷ []) (z ∷ rest)));
        holds = titled-holds;
        covers = Row-leaf N.SpaceOrTab (s ∷ []) (s ∷ []) (w ++ z ∷ []) (title_tree f (t ∷ ts) b ⊕ leaf N.ResourceMarker (z ∷ [])) refl
            (Row-group N.ResourceTitle w (z ∷ []) (between_row N.ResourceTitleMarker N.ResourceTitleString f (t ∷ ts) b) (leaf N.ResourceMarker (z ∷ [])) (λ e. cc)
            (between-row N.ResourceTitleMarker N.ResourceTitleString f t ts b) (Row-last N.ResourceMarker (z ∷ []) (z ∷ []) refl));
        reads = titled-reads;
      }

-- The resource.

-- a group, with its name among the open ones or not
stack-free : (n : Name) (t : Forest) (T : Tokenizer) →
    with_exit n (past None t (with_enter n None (point_of T.cursor) T)) ≡ applied (Exit n) (past None t (applied (Enter n) T))
unfolding past applied
stack-free n t T = refl

module _ (a : Code) (cs behind_it : List Code) (front : is_value 40 a ≡ true) (target : IsResourceTarget cs behind_it) (tail : IsResourceTail behind_it) where
  abbrev destination_tree : Forest
  destination_tree = group N.ResourceDestination target.tree

  abbrev row : Forest
  row = leaf N.ResourceMarker (a ∷ []) ⊕ (destination_tree ⊕ tail.row)

  spacing-before : space_or_tab_eol None cs ≡ None
  spacing-before = spacing-none None cs target.blank ∙ ending-none None false cs target.ending

  inside-is : (both : Bool) → inside both cs ≡ Some (destination_tree ⊕ tail.row, tail.rest)
  inside-is both = grind (arith, spacing-before, if-false)

  resource-is : (both : Bool) → resource both (a ∷ cs) ≡ Some (group N.Resource row, tail.rest)
  resource-is both = resource-inside both a cs front ∙ ap (grouped a) (inside-is both)

  row-covers : CoversRow row (a ∷ (target.codes ++ tail.codes))
  row-covers = grind (arith, Row-leaf N.ResourceMarker (a ∷ []) (a ∷ []) (target.codes ++ tail.codes) (destination_tree ⊕ tail.row), Row-group N.ResourceDestination target.codes tail.codes target.tree tail.row)

  row-codes : a ∷ cs ≡ leaf_codes row ++ tail.rest
  row-codes =
      ap (λ xs. a ∷ xs) (target.whole ∙ ap (λ xs. target.codes ++ xs) tail.whole ∙ sym (append_assoc target.codes tail.codes tail.rest))
      ∙ ap (λ xs. xs ++ tail.rest) (sym row-covers.1)

  -- the inside of the resource
  row-reads : (T : Tokenizer) → ahead T ≡ a ∷ cs →
      tail_read (destination_read (done (marker_ops N.ResourceMarker) T)) ≡ past None row T
  row-reads T e =
      let F : List Op = marker_ops N.ResourceMarker in
      let D : List Op = linked_ops false destination_tree in
      let L : List Op = linked_ops false tail.row in
      let U : Tokenizer = done F T in
      let V : Tokenizer = destination_read U in
      let there : ahead U ≡ cs = ahead-done F T ∙ ap rest_of e in
      let read : V ≡ done D U = target.reads U there in
      let covered : CoversRow destination_tree target.codes = Row-whole N.ResourceDestination target.codes target.tree target.some target.covers in
      let codes : cs ≡ leaf_codes destination_tree ++ behind_it = target.whole ∙ ap (λ xs. xs ++ behind_it) (sym covered.1) in
      let left : ahead V ≡ behind_it = ap ahead (read ∙ linked-past false destination_tree behind_it U covered.0 (there ∙ codes)) ∙ ahead-past None destination_tree U behind_it (there ∙ codes) in
      tail.reads V left
      ∙ three-done F D L T U V refl read
      ∙ ap (λ os. done (F ++ os) T) (sym (ops-group N.ResourceDestination target.tree tail.row))
      ∙ linked-past false row tail.rest T row-covers.0 (e ∙ row-codes)

  resource-covers : CoversRow (group N.Resource row) (a ∷ (target.codes ++ tail.codes))
  resource-covers = Row-whole N.Resource (a ∷ (target.codes ++ tail.codes)) row (λ e. cc) row-covers

  resource-reads : (T : Tokenizer) → ahead T ≡ a ∷ cs → resource_read T ≡ done (linked_ops false (group N.Resource row)) T
  resource-reads T e =
      let E : Tokenizer = applied (Enter N.Resource) T in
      let there : ahead E ≡ a ∷ cs = ahead-done (Enter N.Resource ∷ []) T ∙ e in
      ap (with_exit N.Resource) (row-reads (with_enter N.Resource None (point_of T.cursor) T) e)
      ∙ stack-free N.Resource row T
      ∙ ap (applied (Exit N.Resource)) (sym (linked-past false row tail.rest E row-covers.0 (there ∙ row-codes)))
      ∙ group-reads N.Resource row T (done (linked_ops false row) E) refl

  resource-follows-by : (s : Setting) → EndFollows s false resource_read (a ∷ cs)
  resource-follows-by s = record {
    tree = group N.Resource row;
    codes = a ∷ (target.codes ++ tail.codes);
    rest = tail.rest;
    whole = ap (λ xs. a ∷ xs) (target.whole ∙ ap (λ xs. target.codes ++ xs) tail.whole ∙ sym (append_assoc target.codes tail.codes tail.rest));
    holds = λ (defined : Bool) none. after-paren s defined (a ∷ cs) front ∙ either-some (resource (rules s).escaped_parentheses) (shortcut defined) (a ∷ cs) (group N.Resource row, tail.rest) (resource-is (rules s).escaped_parentheses);
    covers = resource-covers;
    reads = resource-reads;
  }

-- By what stands at the place.

pub value-here : (n : ℕ) (o : Option ℕ) → is_some_value n o ≡ true → o ≡ Some n
value-here n o h = grind (arith, eqb-true)

-- the code at the place has this value
pub code-here : (n : ℕ) (p : Place) → is_some_value n (code_at p) ≡ true → IsAhead p n
code-here n p h = ahead_some p n (value-here n (code_at p) h)

pub record IsFreeOf (ms : List ℕ) (o : Option ℕ) : Type 0 where
  pub value : ℕ
  pub is : o ≡ Some value
  pub free : stops ms value ≡ false

pub free-here : (ms : List ℕ) (o : Option ℕ) → is_free ms o ≡ true → IsFreeOf ms o
free-here ms o h = grind (arith, not-true)

-- text stands at the place
pub record TextAt (ms : List ℕ) (p : Place) : Type 0 where
  pub first : Code
  pub more : List Code
  pub codes : ahead_at p ≡ (first ∷ more) ++ ahead_at (past_stretch ms p)
  pub text : stretch ms (ahead_at p) ≡ first ∷ more
  pub free : stops ms first.value ≡ false

pub text-at : (ms : List ℕ) (p : Place) → is_free ms (code_at p) ≡ true → TextAt ms p
text-at ms p h =
    let f : IsFreeOf ms (code_at p) = free-here ms (code_at p) h in
    let a : IsAhead p f.value = ahead_some p f.value f.is in
    let free : stops ms a.code.value ≡ false = ap (stops ms) a.value ∙ f.free in
    let more : List Code = stretch ms (ahead_at (moved p)) in
    let text : stretch ms (ahead_at p) ≡ a.code ∷ more = ap (stretch ms) a.codes ∙ stretch-goes ms a.code (ahead_at (moved p)) free in
    record {
      first = a.code;
      more = more;
      codes = text-parts ms p ∙ ap (λ xs. xs ++ ahead_at (past_stretch ms p)) text;
      text = text;
      free = free;
    }

-- the text at the place ends at a code with this value
pub record EndsText (ms : List ℕ) (v : ℕ) (p : Place) : Type 0 where
  pub first : Code
  pub more : List Code
  pub back : Code
  pub behind : ahead_at (past_stretch ms p) ≡ back ∷ ahead_at (moved (past_stretch ms p))
  pub codes : ahead_at p ≡ (first ∷ more) ++ back ∷ ahead_at (moved (past_stretch ms p))
  pub text : IsTextStretch ms first more (back ∷ ahead_at (moved (past_stretch ms p)))
  pub closes : back.value ≡ v

pub ends-text : (ms : List ℕ) (v : ℕ) (p : Place) → is_free ms (code_at p) ≡ true → code_at (past_stretch ms p) ≡ Some v → EndsText ms v p
ends-text ms v p h e = grind (arith, text-at ms p, ahead_some (past_stretch ms p) v)

pub value-is : (c : Code) (n : ℕ) → c.value ≡ n → is_value n c ≡ true
value-is c n e = eq-eqb c.value n e

-- a code with which what stands behind a destination begins
record BeginsTail (p : Place) : Type 0 where
  value : ℕ
  is : code_at p ≡ Some value
  ends : (c : Code) → c.value ≡ value → ends_raw c ≡ true

record IsBlank (o : Option ℕ) : Type 0 where
  value : ℕ
  is : o ≡ Some value
  blank : value == 32 || value == 9 ≡ true

blank-here : (o : Option ℕ) → is_some_blank o ≡ true → IsBlank o
blank-here o h = grind arith

or-true : (a : Bool) → (a || true) ≡ true
or-true a = grind arith

tail-begins : (p : Place) → tail_at p ≡ true → BeginsTail p
tail-begins p h = grind (arith, value-here, value-is, or-true, blank-here, and-left)

target-at : (p : Place) → destination_at p ≡ true → BeginsTail (past_destination p) →
    IsResourceTarget (ahead_at p) (ahead_at (past_destination p))
target-at p h k = by_test (begins_enclosed p) refl
  where
    by_test : (b : Bool) → begins_enclosed p ≡ b → IsResourceTarget (ahead_at p) (ahead_at (past_destination p))
    by_test true t =
        let stands : stands_between enclosed_stops 62 p ≡ true = sym (if-true (begins_enclosed p) _ _ t) ∙ h in
        let past : past_destination p ≡ past_between enclosed_stops p = if-true (begins_enclosed p) _ _ t in
        let f : IsAhead p 60 = code-here 60 p t in
        let x : EndsText enclosed_stops 62 (moved p) = ends-text enclosed_stops 62 (moved p) (and-left _ _ stands) (value-here 62 _ (and-right _ _ stands)) in
        let rest : List Code = ahead_at (past_between enclosed_stops p) in
        subst (λ cs. IsResourceTarget cs (ahead_at (past_destination p))) (sym (f.codes ∙ ap (λ xs. f.code ∷ xs) x.codes))
        (subst (λ q. IsResourceTarget (f.code ∷ ((x.first ∷ x.more) ++ x.back ∷ rest)) (ahead_at q)) (sym past)
        (enclosed-target f.code x.first x.more x.back rest x.text (value-is f.code 60 f.value) (value-is x.back 62 x.closes)))
    by_test false t =
        let free : is_free raw_stops (code_at p) ≡ true = sym (if-false (begins_enclosed p) _ _ t) ∙ h in
        let past : past_destination p ≡ past_stretch raw_stops p = if-false (begins_enclosed p) _ _ t in
        let x : EndsText raw_stops k.value p = ends-text raw_stops k.value p free (ap code_at (sym past) ∙ k.is) in
        let rest : List Code = ahead_at (moved (past_stretch raw_stops p)) in
        let bare : is_value 60 x.first ≡ false = ap (is_some_value 60) (sym (code_at_ahead p x.first _ x.codes)) ∙ t in
        subst (λ cs. IsResourceTarget cs (ahead_at (past_destination p))) (sym x.codes)
        (subst (λ ys. IsResourceTarget ((x.first ∷ x.more) ++ x.back ∷ rest) ys) (sym (ap ahead_at past ∙ x.behind))
        (raw-target x.first x.more x.back rest x.text bare (k.ends x.back x.closes)))

titled-by : (p : Place) (v w : ℕ) (s : IsAhead p w) (f : IsAhead (moved p) v) (x : EndsText (title_stops v) v (moved (moved p))) (z : IsAhead (past_between (title_stops v) (moved p)) 41) →
    w == 32 || w == 9 ≡ true → is_quote v ≡ true → IsResourceTail (ahead_at p)
titled-by p v w s f x z blank quote = grind (arith, titled-tail, value-is)

titled-some : (p : Place) (v : ℕ) → code_at (moved p) ≡ Some v → is_some_blank (code_at p) ≡ true →
    quoted_at (Some v) (moved p) ≡ true → closes_at (past_quoted (Some v) (moved p)) ≡ true → IsResourceTail (ahead_at p)
titled-some p v e blank quote close =
    let b : IsBlank (code_at p) = blank-here (code_at p) blank in
    let stands : stands_between (title_stops v) v (moved p) ≡ true = and-right (is_quote v) _ quote in
    titled-by p v b.value (ahead_some p b.value b.is) (ahead_some (moved p) v e)
    (ends-text (title_stops v) v (moved (moved p)) (and-left _ _ stands) (value-here v _ (and-right _ _ stands)))
    (code-here 41 (past_between (title_stops v) (moved p)) close) b.blank (and-left (is_quote v) _ quote)

quote-some : (o : Option ℕ) (q : Place) → quoted_at o q ≡ true → is_some o ≡ true
quote-some o q h = grind arith

value-of : (o : Option ℕ) → is_some o ≡ true → (v : ℕ) × (o ≡ Some v)
value-of o h = grind arith

titled-at : (p : Place) → title_at p ≡ true → closes_at (past_title p) ≡ true → IsResourceTail (ahead_at p)
titled-at p h close = grind (arith, and-right, value-of, quote-some, titled-some, and-left)

tail-here : (p : Place) → tail_at p ≡ true → IsResourceTail (ahead_at p)
tail-here p h = grind (arith, code-here 41 p, closing-tail, value-is, titled-at p, and-left (title_at p), and-right (title_at p))

-- a resource stands at the place
resource-here : (s : Setting) (p : Place) → is_some_value 40 (code_at p) ≡ true → closes_behind (moved p) ≡ true →
    EndFollows s false resource_read (ahead_at p)
resource-here s p front h = grind (arith, code-here 40 p, and-right (destination_at (moved p)), resource-follows-by, value-is, target-at (moved p), and-left, tail-begins, tail-here)

-- where one stands, it is read
pub plain-ends : (T U : Tokenizer) → plain_here T ≡ true → U ≡ made_here (resource_read (done end_ops (ended T))) → Ends T U
plain-ends T U h left =
    let p : Place = T.cursor in
    let may : may_make T.tokenize_state.label_starts && plain_at p ≡ true = and-right (is_on T) _ h in
    let there : plain_at p ≡ true = and-right (may_make T.tokenize_state.label_starts) _ may in
    let x : IsAhead p 93 = code-here 93 p (and-left _ _ there) in
    let behind : is_some_value 40 (code_at (moved p)) && closes_behind (moved (moved p)) ≡ true = and-right (is_some_value 93 (code_at p)) _ there in
    ends-where T false resource_read x.code (ahead_at (moved p)) (and-left (is_on T) _ h) (value-is x.code 93 x.value) x.codes
    (resource-here (setting_in T) (moved p) (and-left _ _ behind) (and-right (is_some_value 40 (code_at (moved p))) _ behind)) U (and-left (may_make T.tokenize_state.label_starts) _ may) (asks-nothing T x.code T.tokenize_state.label_starts) left

-- so with the number of the end's first event as the call gives it
pub ended-is : (T U : Tokenizer) (n : ℕ) → n ≡ length T.events →
    U ≡ done end_ops (record T { tokenize_state = record T.tokenize_state { end = n } }) → U ≡ done end_ops (ended T)
unfolding scratched
ended-is T U n e k = k ∙ ap (λ m. done end_ops (record T { tokenize_state = record T.tokenize_state { end = m } })) e

-- the resource stands behind the `]`

pub closes-there : (T : Tokenizer) → plain_here T ≡ true →
    is_some_value 40 (code_at (moved T.cursor)) && closes_behind (moved (moved T.cursor)) ≡ true
closes-there T h = grind (arith, and-right)

pub resource-follows : (T U : Tokenizer) → plain_here T ≡ true → U ≡ done end_ops (ended T) →
    is_some_value 40 (current_of U) && closes_behind (moved U.cursor) ≡ true
unfolding applied scratched
resource-follows T U h e = grind (arith, closes-there)

-- and so do its parts

pub destination-follows : (T U : Tokenizer) → is_some_value 40 (current_of T) && closes_behind (moved T.cursor) ≡ true →
    U ≡ done (marker_ops N.ResourceMarker) (with_enter N.Resource None (point_of T.cursor) T) →
    destination_at U.cursor ≡ true
unfolding applied
destination-follows T U h e = grind (arith, and-left, and-right)

past-target : (T : Tokenizer) → (destination_read T).cursor ≡ past_destination T.cursor
unfolding applied
past-target T = grind arith

pub tail-follows : (T U V : Tokenizer) → is_some_value 40 (current_of T) && closes_behind (moved T.cursor) ≡ true →
    U ≡ done (marker_ops N.ResourceMarker) (with_enter N.Resource None (point_of T.cursor) T) → V ≡ destination_read U →
    tail_at V.cursor ≡ true
unfolding applied
tail-follows T U V h e k = grind (arith, past-target, and-right)

-- The scratch fields are kept.

target-state : (T : Tokenizer) → (destination_read T).tokenize_state ≡ T.tokenize_state
unfolding applied
target-state T = grind arith

quoted-state : (o : Option ℕ) (T : Tokenizer) → (quoted_read o T).tokenize_state ≡ T.tokenize_state
unfolding applied
quoted-state o T = grind arith

tail-state : (T : Tokenizer) → (tail_read T).tokenize_state ≡ T.tokenize_state
unfolding applied
tail-state T = grind (arith, quoted-state)

pub resource-state : (T : Tokenizer) → (resource_read T).tokenize_state ≡ T.tokenize_state
unfolding applied
resource-state T = grind (arith, tail-state, target-state)

pub ordered-there : (T U V : Tokenizer) → AreOrdered T.tokenize_state.label_starts → U ≡ done end_ops (ended T) →
    V.tokenize_state ≡ U.tokenize_state → AreOrdered V.tokenize_state.label_starts
unfolding applied scratched
ordered-there T U V k e same = grind arith
