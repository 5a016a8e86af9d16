-- The end of a label with a plain reference is read as the definitions read it.
use Rattle.std.proofs.Common.{◌≡◌, ◌≤◌, ℕ, suc, ◌+◌, ◌-◌, ◌==◌, ◌&&◌, ◌||◌, not, Bool, true, false, if◌then◌else◌, List, [], ◌∷◌, ◌++◌, Option, Some, length, nat_le, refl, sym, ap, subst, ◌∙◌, arith, append_assoc}
use Rattle.std.specs.Prelude.{max, nat_lt, IsUtf8, ◌<◌, is_some, IsTrue}
use Rattle.std.specs.List.{list_any}
use Rattle.std.specs.Str.{IsCharBoundary}
use Rattle.std.proofs.Math.Nat.{le-max_right}
use Rattle.std.proofs.lemmas.Bool.{both_ways, not-true, or_cases, or_parts}
use Rattle.std.proofs.lemmas.Bool.Decides.{nat_tests}
use Rattle.std.proofs.lemmas.Grind.{common_steps}
use Rattle.std.proofs.lemmas.Option.{same_Some}
use Rattle.markdown_event.proofs.AndParts.{and-left, and-right}
use Rattle.markdown_content.proofs.PlaceRules.{IsAhead, code_at_ahead, point_ahead}
use Rattle.markdown_content.specs.Codes.{Code, document_start, is_blank, is_line_ending, stop_of}
use Rattle.markdown_content.specs.Content.{has_no_blank_line}
use Rattle.markdown_content.specs.Place.{Place, ahead_at, code_at, exit_point, moved, point_of}
use Rattle.markdown_content.specs.Stretch.{is_free, stops, stretch}
use Rattle.markdown_content.specs.Tree.{Forest, leaf, group, ◌⊕◌}
use Rattle.markdown_content.specs.declared.label_kind.LabelKind.{LabelKind}
use Rattle.markdown_event.specs.declared.event.Name.TheVariants as N
use Rattle.markdown_event.specs.declared.event.Point.{Point}
use Rattle.markdown_engine.specs.Operations.{ahead, applied, current_of, done, scratched}
use Rattle.markdown_engine.specs.PastTree.{moved_by}
use Rattle.markdown_engine.specs.declared.tokenizer.LabelStart as Kept
use Rattle.markdown_engine.specs.declared.tokenizer.Tokenizer.{Tokenizer}
use Rattle.markdown_engine.proofs.PlaceAfterCodes.{stop-moved}
use Rattle.markdown_label_names.specs.IdentifierFronts.{AreCuts}
use Rattle.markdown_label.specs.LabelEnd.{AllEndBetween, Ends, EndsBetween, LabelEndStartReady, end_ops, ended, is_on, made_here}
use Rattle.markdown_label_names.proofs.BytesBetween.{max-between}
use Rattle.markdown_label_names.specs.LabelNames.{names_itself, place_at}
use Rattle.markdown_label_names.specs.LabelSetting.{setting_in}
use Rattle.markdown_label.proofs.LabelEndReadings.{after-bracket, after-other, full-first}
use Rattle.markdown_model.specs.CodeTests.{is_among, is_between, is_value, is_whitespace_code, next_is}
use Rattle.markdown_model.specs.Grammar.{gives, one, up_to}
use Rattle.markdown_model.specs.LabelEnd.{full_reference, name_between, names_definition, reference_identifier, shortcut}
use Rattle.markdown_model.specs.Resource.{begins_character, counted, label, reference_names, string_group}
use Rattle.markdown_model.specs.Setting.{Setting, defines, rules}
use Rattle.markdown_model.proofs.GrammarSteps.{after-some, bind-some, if-false, if-true, one-here, provided-true, switched-on}
use Rattle.markdown_partial.proofs.BoolLemmas.{same-value}
use Rattle.markdown_plan.specs.Characters.{ReadsText, bytes_of}
use Rattle.markdown_plan.proofs.CharacterPlaces.{code-begins, text-places}
use Rattle.markdown_plan.proofs.CharactersAlongContent.{text-moved}
use Rattle.markdown_run_text.specs.PlacesPassed.{is_some_value}
use Rattle.markdown_run_text.specs.PlainReference.{ends_here, front_stops, is_named, label_stops, name_at, names_at, past_text, reference_here, reference_read, refers_by, text_at}
use Rattle.markdown_run_text.specs.PlainResource.{has_markers, may_make, plain_here}
use Rattle.markdown_run_text.proofs.AttentionReads.{at-moved}
use Rattle.markdown_run_text.proofs.ImageStarts.{first-at, some-value}
use Rattle.markdown_run_text.proofs.LabelEndReads.{AnswersBy, EndFollows, asks-nothing, ends-where}
use Rattle.markdown_run_text.proofs.PlainResourceReads.{EndsText, IsFreeOf, IsTextStretch, between-covers, between-reads, between_tree, closes-there, code-here, ends-text, free-here, no-blank-line, one-line, text-is, value-here, value-is}
use Rattle.markdown_run_text.proofs.StretchParts.{text-passed}
use Rattle.markdown_run_text.proofs.TextsBetween.{label-between, name-between}

-- The label of a full reference.

label-free : (c : Code) → stops label_stops c.value ≡ false →
    (is_value 93 c ≡ false) × ((is_value 91 c ≡ false) × ((c.value == 92) ≡ false))
label-free c h = grind (arith, or_parts)

-- what no plain text begins with, is no part of one or whitespace
front-free : (v : ℕ) → stops front_stops v ≡ false → (stops label_stops v ≡ false) × (((v == 32 || v == 9) || v == 10) ≡ false)
front-free v h = grind (arith, or_parts)

-- each code counts once at most
counted-most : (characters indent : Bool) (cs : List Code) → counted characters indent cs ≤ length cs
counted-most characters indent [] = omega arith
counted-most characters indent (c ∷ cs) =
    by_test (is_line_ending c) (indent && is_blank c) characters (not characters || begins_character c) (counted-most characters true cs) (counted-most characters false cs)
  where
    by_test : (a b x y : Bool) → counted characters true cs ≤ length cs → counted characters false cs ≤ length cs →
        (elim a as (λ _. ℕ) [ true ↦ (if x then 1 else 0) + counted characters true cs | false ↦ elim b as (λ _. ℕ) [ true ↦ counted characters true cs | false ↦ (if y then 1 else 0) + counted characters false cs ] ]) ≤ suc (length cs)
    by_test true b true y j k = omega (arith, j)
    by_test true b false y j k = omega (arith, j)
    by_test false true x y j k = omega (arith, j)
    by_test false false x true j k = omega (arith, k)
    by_test false false x false j k = omega (arith, k)

le-true : (m n o : ℕ) → m ≤ n → nat_le n o ≡ true → nat_le m o ≡ true
le-true m n o h e = grind (arith, nat_tests, common_steps)

abbrev full_tree : Code → List Code → Code → Forest
full_tree f w b = between_tree N.Reference N.ReferenceMarker N.ReferenceString f w b

module _ (f t : Code) (ts : List Code) (b : Code) (rest : List Code) (k : IsTextStretch label_stops t ts (b ∷ rest)) (front : is_value 91 f ≡ true) (back : is_value 93 b ≡ true) (white : is_whitespace_code t ≡ false) (short : nat_le (length (t ∷ ts)) 999 ≡ true) where
  abbrev full : List Code
  full = f ∷ ((t ∷ ts) ++ b ∷ rest)

  label-is : (characters : Bool) → label characters reference_names full ≡ Some (full_tree f (t ∷ ts) b, rest)
  unfolding label gives
  label-is characters =
      let line : is_line_ending b ≡ false = same-value b.value 93 back (λ v. v == 10) in
      let filled : has_no_blank_line true ((t ∷ ts) ++ b ∷ []) ≡ true =
      ap (λ xs. has_no_blank_line true (xs ++ b ∷ [])) (sym k.text) ∙ no-blank-line label_stops ((t ∷ ts) ++ b ∷ rest) b line in
      let some : list_any (λ (c : Code). not (is_whitespace_code c)) (t ∷ ts) ≡ true = ap (λ x. not x || list_any (λ (c : Code). not (is_whitespace_code c)) ts) white in
      let few : nat_le (counted characters false (t ∷ ts)) 999 ≡ true = le-true _ _ 999 (counted-most characters false (t ∷ ts)) short in
      bind-some (one (is_value 91)) _ full (f ∷ []) ((t ∷ ts) ++ b ∷ rest) _ (one-here (is_value 91) f ((t ∷ ts) ++ b ∷ rest) front)
      (bind-some (up_to (is_value 93) (is_among (91 ∷ 92 ∷ 93 ∷ [])) (is_value 91)) _ ((t ∷ ts) ++ b ∷ rest) (t ∷ ts) (b ∷ rest) _
      (text-is (is_value 93) (is_among (91 ∷ 92 ∷ 93 ∷ [])) (is_value 91) label_stops label-free t ts b rest k back)
      (after-some _ _ (b ∷ rest) [] (b ∷ rest) _ (provided-true _ (b ∷ rest) some)
      (after-some _ _ (b ∷ rest) [] (b ∷ rest) _ (provided-true _ (b ∷ rest) few)
      (bind-some (one (is_value 93)) _ (b ∷ rest) (b ∷ []) rest _ (one-here (is_value 93) b rest back)
      (after-some _ _ rest [] rest _ (provided-true _ rest filled) refl)))))
      ∙ ap (λ u. Some (group N.Reference (leaf N.ReferenceMarker (f ∷ []) ⊕ string_group N.ReferenceString u ⊕ leaf N.ReferenceMarker (b ∷ [])), rest)) (one-line label_stops t ts (b ∷ rest) k)

  name-is : (s : Setting) → reference_identifier s (full_tree f (t ∷ ts) b) ≡ name_between s t.start.index (stop_of document_start (t ∷ ts)).index
  unfolding reference_identifier
  name-is s = refl

  full-follows : (s : Setting) → defines s (name_between s t.start.index (stop_of document_start (t ∷ ts)).index) ≡ true →
      EndFollows s false reference_read full
  unfolding full_reference gives
  full-follows s defined =
      let tree : Forest = full_tree f (t ∷ ts) b in
      let found : full_reference s full ≡ Some (tree, rest) =
      bind-some (label (rules s).labels_by_characters reference_names) _ full tree rest _ (label-is (rules s).labels_by_characters) (switched-on (gives tree) _ rest (ap (defines s) (name-is s) ∙ defined)) in
      record {
        tree = tree;
        codes = f ∷ ((t ∷ ts) ++ b ∷ []);
        rest = rest;
        whole = ap (λ xs. f ∷ xs) (sym (append_assoc (t ∷ ts) (b ∷ []) rest));
        holds = λ (d : Bool) none. after-bracket s d full (same-value f.value 91 front (λ v. v == 40)) front ∙ full-first s d full (tree, rest) found;
        covers = between-covers N.Reference N.ReferenceMarker N.ReferenceString f t ts b;
        reads = λ (T : Tokenizer) (e : ahead T ≡ full).
            if-true (is_some_value 91 (current_of T)) _ T (ap (is_some_value 91) (code_at_ahead T.cursor f _ e) ∙ front)
            ∙ between-reads N.Reference N.ReferenceMarker N.ReferenceString label_stops f t ts b rest T k e;
      }

-- A shortcut.

shortcut-follows : (s : Setting) (cs : List Code) → next_is (is_value 40) cs ≡ false → next_is (is_value 91) cs ≡ false →
    EndFollows s true reference_read cs
unfolding shortcut gives
shortcut-follows s cs paren bracket = grind (arith, after-other, switched-on, if-false, first-at)

-- The text at a place.

pub record TextOf (p : Place) : Type 0 where
  pub first : Code
  pub more : List Code
  pub back : Code
  pub rest : List Code
  pub codes : ahead_at p ≡ (first ∷ more) ++ back ∷ rest
  pub text : IsTextStretch label_stops first more (back ∷ rest)
  pub closes : back.value ≡ 93
  pub white : is_whitespace_code first ≡ false
  pub short : nat_le (length (first ∷ more)) 999 ≡ true
  pub from : point_of p ≡ first.start
  pub to : exit_point (past_text p) ≡ stop_of document_start (first ∷ more)

pub text-of : (p : Place) → text_at p ≡ true → TextOf p
text-of p h =
    let f : IsFreeOf front_stops (code_at p) = free-here front_stops (code_at p) (and-left _ _ h) in
    let parts = front-free f.value f.free in
    let free : is_free label_stops (code_at p) ≡ true = ap (is_free label_stops) f.is ∙ ap not parts.0 in
    let ends : is_some_value 93 (code_at (past_text p)) && nat_le ((past_text p).at - p.at) 999 ≡ true = and-right (is_free front_stops (code_at p)) _ h in
    let x : EndsText label_stops 93 p = ends-text label_stops 93 p free (value-here 93 _ (and-left _ _ ends)) in
    let w : List Code = x.first ∷ x.more in
    let value : x.first.value ≡ f.value = same_Some x.first.value f.value (sym (code_at_ahead p x.first _ x.codes) ∙ f.is) in
    let past : past_text p ≡ moved_by w p = text-passed label_stops p ∙ ap (λ cs. moved_by cs p) (ap (stretch label_stops) x.codes ∙ x.text.text) in
    let size : (past_text p).at - p.at ≡ length w = omega (arith, ap (λ (q : Place). q.at) past ∙ at-moved w p) in
    record {
      first = x.first;
      more = x.more;
      back = x.back;
      rest = ahead_at (moved (past_text p));
      codes = x.codes;
      text = x.text;
      closes = x.closes;
      white = ap (λ v. (v == 32 || v == 9) || v == 10) value ∙ parts.1;
      short = subst (λ n. nat_le n 999 ≡ true) size (and-right (is_some_value 93 (code_at (past_text p))) _ ends);
      from = point_ahead p x.first _ x.codes;
      to = ap exit_point past ∙ stop-moved document_start x.first x.more (x.back ∷ ahead_at (moved (past_text p))) p x.codes;
    }

-- Indices of the document: from one place to another, or to the same.

-- both are between characters
cuts-of : (bs : List ℕ) (i j : ℕ) → IsUtf8 bs → IsCharBoundary bs i → IsCharBoundary bs j → (start end : ℕ) → start ≡ i → end ≡ max j start → AreCuts bs start end
cuts-of bs i j text from to start end e h = grind (arith, le-max_right, max-between)

module _ (T : Tokenizer) (text : ReadsText T) (front : is_some_value 91 (code_at (moved T.cursor)) ≡ true) (there : text_at (moved (moved T.cursor)) ≡ true) (start end : ℕ) (from : start ≡ (point_of (moved (moved T.cursor))).index) (to : end ≡ max (exit_point (past_text (moved (moved T.cursor)))).index start) where
  pub full-cuts : AreCuts (bytes_of T) start end
  full-cuts =
      let p : Place = moved T.cursor in
      let k : TextOf (moved p) = text-of (moved p) there in
      let a : IsAhead p 91 = code-here 91 p front in
      let places = text-places (bytes_of T) p a.code k.first k.more k.back k.rest (text-moved (bytes_of T) T.cursor text) (a.codes ∙ ap (λ cs. a.code ∷ cs) k.codes) (ap (λ v. nat_lt v 128) a.value) (ap (is_between 128 191) k.closes) in
      cuts-of (bytes_of T) (point_of (moved p)).index (exit_point (past_text (moved p))).index text.text
      (subst (λ (q : Point). IsCharBoundary (bytes_of T) q.index) (sym k.from) places.0)
      (subst (λ (q : Point). IsCharBoundary (bytes_of T) q.index) (sym k.to) places.1)
      start end from to

  -- what is looked up is the name of the text
  pub full-is : defines (setting_in T) (name_between (setting_in T) start end) ≡ names_at (setting_in T) (moved (moved T.cursor))
  full-is =
      let p : Place = moved (moved T.cursor) in
      ap (defines (setting_in T)) (name-between (setting_in T) (point_of p).index (exit_point (past_text p)).index start end from to)
      ∙ ap (λ b. b && defines (setting_in T) (name_at (setting_in T) p)) (sym there)

module _ (T : Tokenizer) (ready : LabelEndStartReady T) (here : is_some_value 93 (code_at T.cursor) ≡ true) (l : Kept.LabelStart) (ls : List Kept.LabelStart) (top : T.tokenize_state.label_starts ≡ l ∷ ls) where
  last-start : EndsBetween T l
  last-start = (subst (AllEndBetween T) top ready.within.0).0

  pub start-within : l.start.1 < length T.events
  start-within = last-start.within

  module _ (start end : ℕ) (from : start ≡ (place_at T.events l.start.1).index) (to : end ≡ max (point_of T.cursor).index start) where
    pub named-cuts : AreCuts (bytes_of T) start end
    named-cuts =
        let p : Place = T.cursor in
        let a : IsAhead p 93 = code-here 93 p here in
        let begins : IsCharBoundary (bytes_of T) a.code.start.index = code-begins (bytes_of T) p a.code _ ready.text a.codes (ap (is_between 128 191) a.value) in
        cuts-of (bytes_of T) (place_at T.events l.start.1).index (point_of p).index ready.text.text last-start.between
        (subst (λ (q : Point). IsCharBoundary (bytes_of T) q.index) (sym (point_ahead p a.code _ a.codes)) begins)
        start end from to

    pub named-is : names_itself (setting_in T) start end ≡ is_named T.tokenize_state.label_starts T
    named-is =
        ap (names_definition (setting_in T) LabelKind.Link) (label-between (setting_in T) LabelKind.Link (place_at T.events l.start.1).index (point_of T.cursor).index start end from to)
        ∙ sym (ap (λ ks. is_named ks T) top)

-- By what stands behind the `]`.

refers-full : (T : Tokenizer) (o : Option ℕ) → is_some_value 91 o ≡ true → refers_by o T ≡ true →
    names_at (setting_in T) (moved (moved T.cursor)) ≡ true
refers-full T o h k = grind (arith, if-true)

refers-own : (T : Tokenizer) (o : Option ℕ) → is_some_value 91 o ≡ false → refers_by o T ≡ true →
    (is_some_value 40 o ≡ false) × (is_named T.tokenize_state.label_starts T ≡ true)
refers-own T o h k = grind (arith, if-false, not-true, and-left, and-right)

full-here : (T : Tokenizer) → is_some_value 91 (code_at (moved T.cursor)) ≡ true → names_at (setting_in T) (moved (moved T.cursor)) ≡ true →
    EndFollows (setting_in T) false reference_read (ahead_at (moved T.cursor))
full-here T front h =
    let s : Setting = setting_in T in
    let p : Place = moved T.cursor in
    let f : IsAhead p 91 = code-here 91 p front in
    let k : TextOf (moved p) = text-of (moved p) (and-left _ _ h) in
    let defined : defines s (name_at s (moved p)) ≡ true = and-right (text_at (moved p)) _ h in
    subst (EndFollows s false reference_read) (sym (f.codes ∙ ap (λ cs. f.code ∷ cs) k.codes))
    (full-follows f.code k.first k.more k.back k.rest k.text (value-is f.code 91 f.value) (value-is k.back 93 k.closes) k.white k.short s
    (sym (λ i. defines s (name_between s (k.from i).index (k.to i).index)) ∙ defined))

own-answers : (T : Tokenizer) (x : Code) → point_of T.cursor ≡ x.start → (ls : List Kept.LabelStart) → is_named ls T ≡ true → AnswersBy T true x ls
own-answers T x e k h = grind arith

-- where one stands, it is read
pub reference-ends : (T U : Tokenizer) → reference_here T ≡ true → U ≡ made_here (reference_read (done end_ops (ended T))) → Ends T U
reference-ends T U h left = by_test (is_some_value 91 (code_at (moved T.cursor))) refl
  where
    p : Place
    p = T.cursor

    here : ends_here T ≡ true
    here = and-left (ends_here T) _ h

    refers : refers_by (code_at (moved p)) T ≡ true
    refers = and-right (ends_here T) _ h

    may : may_make T.tokenize_state.label_starts ≡ true
    may = and-left (may_make T.tokenize_state.label_starts) _ (and-right (is_on T) _ here)

    x : IsAhead p 93
    x = code-here 93 p (and-right (may_make T.tokenize_state.label_starts) _ (and-right (is_on T) _ here))

    by_test : (b : Bool) → is_some_value 91 (code_at (moved p)) ≡ b → Ends T U
    by_test true e =
        ends-where T false reference_read x.code (ahead_at (moved p)) (and-left (is_on T) _ here) (value-is x.code 93 x.value) x.codes
        (full-here T e (refers-full T (code_at (moved p)) e refers)) U may (asks-nothing T x.code T.tokenize_state.label_starts) left
    by_test false e =
        let own = refers-own T (code_at (moved p)) e refers in
        ends-where T true reference_read x.code (ahead_at (moved p)) (and-left (is_on T) _ here) (value-is x.code 93 x.value) x.codes
        (shortcut-follows (setting_in T) (ahead_at (moved p)) (sym (first-at 40 (moved p)) ∙ own.0) (sym (first-at 91 (moved p)) ∙ e)) U may
        (own-answers T x.code (point_ahead p x.code _ x.codes) T.tokenize_state.label_starts own.1) left

-- so where the end is read: behind a `[` there the text of a full reference stands, and a code
pub markers-there : (T U : Tokenizer) → reference_here T ≡ true → U ≡ done end_ops (ended T) → IsTrue (is_some_value 91 (code_at U.cursor)) →
    has_markers label_stops U.cursor ≡ true
unfolding applied scratched
markers-there T U h e k = grind (arith, refers-full, and-right, and-left, some-value)

-- Which of the two stands where one does, by the code behind the `]`.

-- a `(` there begins no reference
no-reference : (T : Tokenizer) → is_some_value 40 (code_at (moved T.cursor)) ≡ true → reference_here T ≡ true → ⊥
no-reference T h k = grind (arith, both_ways, refers-own, and-right, same-value)

-- a code is there
pub bracket-here : (T : Tokenizer) → plain_here T || reference_here T ≡ true → is_some (current_of T) ≡ true
bracket-here T h = grind (arith, some-value, or_cases, and-left, and-right)

module _ (T U : Tokenizer) (here : plain_here T || reference_here T ≡ true) (read : U ≡ done end_ops (ended T)) where
  next-is : is_some_value 40 (current_of U) ≡ is_some_value 40 (code_at (moved T.cursor))
  unfolding applied scratched
  next-is = ap (λ (x : Tokenizer). is_some_value 40 (code_at x.cursor)) read

  pub plain-there : is_some_value 40 (current_of U) ≡ true → plain_here T ≡ true
  plain-there k = grind (arith, or_cases, no-reference, next-is)

  pub reference-there : is_some_value 40 (current_of U) ≡ false → reference_here T ≡ true
  reference-there k = grind (arith, or_cases, both_ways, next-is, and-left, closes-there)

-- The scratch fields are kept.

pub reference-state : (T : Tokenizer) → (reference_read T).tokenize_state ≡ T.tokenize_state
unfolding applied
reference-state T = grind arith
