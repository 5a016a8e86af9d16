-- Which starts and ends of labels stand at the codes at hand of a text.
use Rattle.std.proofs.Common.{◌≡◌, ℕ, ◌==◌, Bool, true, false, not, ◌&&◌, List, [], ◌∷◌, Option, None, Some, refl, sym, ap, ◌∙◌, subst, arith}
use Rattle.std.specs.Str.{byte}
use Rattle.markdown_label.proofs.BegunStartPlaces.{first-is, two-whole}
use Rattle.markdown_content.specs.Codes.{Code}
use Rattle.markdown_content.specs.ListFunctions.{rest_of}
use Rattle.markdown_engine.specs.Operations.{ahead, current_of}
use Rattle.markdown_engine.specs.PastTree.{Reads}
use Rattle.markdown_content.specs.Tree.{Forest}
use Rattle.markdown_content.specs.declared.label_kind.LabelKind.{LabelKind}
use Rattle.markdown_engine.specs.declared.tokenizer.Tokenizer.{Tokenizer}
use Rattle.markdown_engine.proofs.OperationFields.{BeginsWithValue, ahead-some}
use Rattle.markdown_leaf_gfm.specs.GfmTaskListItemCheck.{check_here}
use Rattle.markdown_label.specs.LabelEnd.{Ends, end_reading, is_on, outcome_by}
use Rattle.markdown_label.specs.LabelStarts.{link_test, link_ends, footnote_test, footnote_ends, footnotes_on, image_test, image_ends}
use Rattle.markdown_label_names.specs.LabelSetting.{setting_in}
use Rattle.markdown_label.proofs.LabelEndStartLaw.{reading-at}
use Rattle.markdown_label.proofs.KeptStartStack.{end-made, end-fails}
use Rattle.markdown_model.proofs.GrammarSteps.{and-left, and-right, bind-some, bind-none, one-here, one-not, before-some, before-other, before-none, either-some, either-second, switched-on, switched-off}
use Rattle.markdown_model.specs.CodeTests.{is_value, next_is}
use Rattle.markdown_model.specs.Elements.{label_start_image, gfm_label_start_footnote, label_start_link, switched}
use Rattle.markdown_model.specs.Grammar.{Reading, ◌>>=◌, gives, one, word, word_of, before}
use Rattle.markdown_model.specs.LabelEnd.{Element, starts, ends, label_end, outcome_of, footnote_call, link_or_image, label_identifier, after_label, reference_after_label, shortcut_before_bracket, full_reference, reference_identifier}
use Rattle.markdown_model.specs.TextLines.{data_up_to}
use Rattle.markdown_run_text.specs.RunOverElements.{AreReadAsData, Advances, StandsAfter}
use Rattle.markdown_run_text.specs.Row.{loses, past_mark}
use Rattle.markdown_run_text.proofs.LabelSteps.{start-advances, end-advances, lost-advances}
use Rattle.markdown_run_text.proofs.LabelMarks.{PastStart, link-past, footnote-past, image-past, end-made-of}
use Rattle.markdown_run_text.specs.TextContent.{text_setting, text_choice_of, StandsAlone}
use Rattle.markdown_run_text.proofs.TextElements.{image-element, no-image-element, bracket-element, no-bracket-element, end-element, no-end-element}
use Rattle.markdown_run_text.proofs.TextTries.{end_in, first-none, read-ahead, value-here}
use Rattle.markdown_run_text.specs.ElementsAsRead.{source_of}

-- Tests, where the first of them holds.

pub later-tests : (a b c : Bool) → a ≡ true → (a && b) && c ≡ false → b && c ≡ false
later-tests a b c h k = grind arith

pub right-test : (a b : Bool) → a ≡ true → a && b ≡ false → b ≡ false
right-test a b h k = grind arith

-- Codes that come next.

is-the : (v : ℕ) (c : Code) → c.value ≡ v → (c.value == v) ≡ (v == v)
is-the v c e = ap (λ x. x == v) e

-- a word of two codes
pair-some : (v w : ℕ) (c d : Code) (cs : List Code) → (c.value == v) ≡ true → (d.value == w) ≡ true →
    word_of (v ∷ w ∷ []) (c ∷ d ∷ cs) ≡ Some (c ∷ d ∷ [], cs)
unfolding word_of
pair-some v w c d cs e f = grind arith

pair-none : (v w : ℕ) (cs : List Code) → next_is (is_value v) cs && next_is (is_value w) (rest_of cs) ≡ false →
    word_of (v ∷ w ∷ []) cs ≡ None
unfolding word_of
pair-none v w cs e = grind arith

-- Switches.

pub on-some : (on : Bool) (a : Reading Element) (cs : List Code) (r : Element × List Code) → on ≡ true → a cs ≡ Some r →
    switched on a cs ≡ Some r
unfolding switched
on-some on a cs r e h = switched-on a on cs e ∙ h

-- it is off, or what is read does not stand here
pub on-none : (on : Bool) (a : Reading Element) (cs : List Code) → (on ≡ true → a cs ≡ None) → switched on a cs ≡ None
unfolding switched
on-none on a cs h = grind (arith, switched-on, switched-off)

-- Starts.

pub footnote-some : (c d : Code) (cs : List Code) → c.value ≡ byte "[" → d.value ≡ byte "^" →
    gfm_label_start_footnote (c ∷ d ∷ cs) ≡ Some (starts LabelKind.GfmFootnote (c ∷ d ∷ []), cs)
unfolding gfm_label_start_footnote word gives
footnote-some c d cs e f =
    bind-some (word "[^") _ (c ∷ d ∷ cs) (c ∷ d ∷ []) cs _ (pair-some (byte "[") (byte "^") c d cs (is-the (byte "[") c e) (is-the (byte "^") d f)) refl

pub footnote-none : (cs : List Code) →
    next_is (is_value (byte "[")) cs && next_is (is_value (byte "^")) (rest_of cs) ≡ false →
    gfm_label_start_footnote cs ≡ None
unfolding gfm_label_start_footnote word
footnote-none cs e = bind-none (word "[^") _ cs (pair-none (byte "[") (byte "^") cs e)

pub link-some : (c : Code) (cs : List Code) → c.value ≡ byte "[" →
    label_start_link (c ∷ cs) ≡ Some (starts LabelKind.Link (c ∷ []), cs)
unfolding label_start_link gives
link-some c cs e =
    bind-some (one (is_value (byte "["))) _ (c ∷ cs) (c ∷ []) cs _ (one-here (is_value (byte "[")) c cs (is-the (byte "[") c e)) refl

pub link-none : (cs : List Code) → next_is (is_value (byte "[")) cs ≡ false → label_start_link cs ≡ None
unfolding label_start_link
link-none cs e = bind-none (one (is_value (byte "["))) _ cs (one-not (is_value (byte "[")) cs e)

pub image-some : (footnotes : Bool) (c d : Code) (cs : List Code) → c.value ≡ byte "!" → d.value ≡ byte "[" →
    not (footnotes && next_is (is_value (byte "^")) cs) ≡ true →
    label_start_image footnotes (c ∷ d ∷ cs) ≡ Some (starts LabelKind.Image (c ∷ d ∷ []), cs)
unfolding label_start_image word gives
image-some footnotes c d cs e f h =
    bind-some (before (word "![") (λ xs. not (footnotes && next_is (is_value (byte "^")) xs))) _ (c ∷ d ∷ cs) (c ∷ d ∷ []) cs _
    (before-some (word "![") (λ xs. not (footnotes && next_is (is_value (byte "^")) xs)) (c ∷ d ∷ cs) (c ∷ d ∷ []) cs (pair-some (byte "!") (byte "[") c d cs (is-the (byte "!") c e) (is-the (byte "[") d f)) h) refl

-- where one of the tests fails
pub image-none : (footnotes : Bool) (cs : List Code) →
    next_is (is_value (byte "!")) cs && (next_is (is_value (byte "[")) (rest_of cs) && not (footnotes && next_is (is_value (byte "^")) (rest_of (rest_of cs)))) ≡ false →
    label_start_image footnotes cs ≡ None
unfolding label_start_image word
image-none footnotes cs e = grind (arith, bind-none, pair-some, is-the, before-other, first-is, and-left, and-right, before-none, pair-none)

-- Past the start of a label.

-- the elements of these codes are those of the codes at hand
abbrev FindsStart : LabelKind → List Code → List Code → Tokenizer → Type 0
FindsStart kind marker rest T =
    (earlier : List Element) (previous : Option Code) → StandsAfter earlier previous T → text_choice_of T earlier previous (ahead T) ≡ Some (starts kind marker, rest)

started : (kind : LabelKind) (marker rest : List Code) (T U : Tokenizer) → PastStart kind marker rest T U →
    FindsStart kind marker rest T → Advances (text_choice_of T) T U
started kind marker rest T U p finds = grind (arith, start-advances)

pub image-advances : (T U : Tokenizer) → image_ends T true U → Advances (text_choice_of T) T U
image-advances T U k =
    let f : BeginsWithValue (byte "!") (ahead T) = first-is (byte "!") (ahead T) (and-right _ _ (and-left _ _ k.holds)) in
    let g : BeginsWithValue (byte "[") (rest_of (ahead T)) = first-is (byte "[") (rest_of (ahead T)) (and-left _ _ (and-right _ _ k.holds)) in
    let rest : List Code = rest_of (rest_of (ahead T)) in
    let whole : ahead T ≡ f.code ∷ g.code ∷ rest = two-whole (byte "!") (byte "[") (ahead T) f g in
    started LabelKind.Image (f.code ∷ g.code ∷ []) rest T U (image-past f.code g.code rest T U whole f.value g.value k)
    (λ earlier previous stands.
    ap (text_choice_of T earlier previous) whole
    ∙ image-element (text_setting T) (end_in T) earlier previous f.code (g.code ∷ rest) (starts LabelKind.Image (f.code ∷ g.code ∷ []), rest) f.value
    (on-some T.parse_state.now.options.now.constructs.label_start_image _ (f.code ∷ g.code ∷ rest) _ (and-left _ _ (and-left _ _ k.holds))
    (image-some (footnotes_on T) f.code g.code rest f.value g.value (and-right _ _ (and-right _ _ k.holds)))))

pub image-alone : (T : Tokenizer) → current_of T ≡ Some (byte "!") → image_test T (ahead T) ≡ false → StandsAlone T
image-alone T e refused earlier previous c cs stands w = grind (arith, no-image-element, value-here, on-none, image-none, later-tests)

pub footnote-advances : (T U : Tokenizer) → check_here T (ahead T) ≡ None → footnote_ends T true U →
    Advances (text_choice_of T) T U
footnote-advances T U none k =
    let f : BeginsWithValue (byte "[") (ahead T) = first-is (byte "[") (ahead T) (and-right _ _ (and-left _ _ k.holds)) in
    let g : BeginsWithValue (byte "^") (rest_of (ahead T)) = first-is (byte "^") (rest_of (ahead T)) (and-right _ _ k.holds) in
    let rest : List Code = rest_of (rest_of (ahead T)) in
    let whole : ahead T ≡ f.code ∷ g.code ∷ rest = two-whole (byte "[") (byte "^") (ahead T) f g in
    let found : Element × List Code = (starts LabelKind.GfmFootnote (f.code ∷ g.code ∷ []), rest) in
    started LabelKind.GfmFootnote (f.code ∷ g.code ∷ []) rest T U (footnote-past f.code g.code rest T U whole f.value g.value k)
    (λ earlier previous stands.
    ap (text_choice_of T earlier previous) whole
    ∙ bracket-element (text_setting T) (end_in T) earlier previous f.code (g.code ∷ rest) found (first-none T earlier previous f.code (g.code ∷ rest) none stands whole) f.value
    (either-some _ _ (f.code ∷ g.code ∷ rest) found (on-some (footnotes_on T) gfm_label_start_footnote (f.code ∷ g.code ∷ rest) found (and-left _ _ (and-left _ _ k.holds)) (footnote-some f.code g.code rest f.value g.value))))

-- no footnote call begins here
no-footnote : (T : Tokenizer) (cs : List Code) → ahead T ≡ cs → footnote_test T (ahead T) ≡ false →
    switched (footnotes_on T) gfm_label_start_footnote cs ≡ None
no-footnote T cs w refused = grind (arith, on-none, footnote-none, later-tests)

pub link-advances : (T U : Tokenizer) → check_here T (ahead T) ≡ None → footnote_test T (ahead T) ≡ false →
    link_ends T true U → Advances (text_choice_of T) T U
link-advances T U none refused k =
    let f : BeginsWithValue (byte "[") (ahead T) = first-is (byte "[") (ahead T) (and-right _ _ k.holds) in
    let rest : List Code = rest_of (ahead T) in
    let found : Element × List Code = (starts LabelKind.Link (f.code ∷ []), rest) in
    started LabelKind.Link (f.code ∷ []) rest T U (link-past f.code rest T U f.whole f.value k)
    (λ earlier previous stands.
    ap (text_choice_of T earlier previous) f.whole
    ∙ bracket-element (text_setting T) (end_in T) earlier previous f.code rest found (first-none T earlier previous f.code rest none stands f.whole) f.value
    (either-second _ _ (f.code ∷ rest) (no-footnote T (f.code ∷ rest) f.whole refused) ∙ on-some T.parse_state.now.options.now.constructs.label_start_link label_start_link (f.code ∷ rest) found (and-left _ _ k.holds) (link-some f.code rest f.value)))

pub bracket-alone : (T : Tokenizer) → check_here T (ahead T) ≡ None → current_of T ≡ Some (byte "[") →
    footnote_test T (ahead T) ≡ false → link_test T (ahead T) ≡ false → StandsAlone T
bracket-alone T none e no_footnote refused earlier previous c cs stands w = grind (arith, no-bracket-element, first-none, value-here, either-second, no-footnote, on-none, link-none, right-test)

-- Ends.

-- the end of a label does not depend on switches, nor on whether the content is the first of a list item
same-end : (T : Tokenizer) (earlier : List Element) (cs : List Code) →
    label_end (text_setting T) earlier cs ≡ label_end (setting_in T) earlier cs
unfolding label_end outcome_of footnote_call link_or_image label_identifier after_label reference_after_label shortcut_before_bracket full_reference reference_identifier
same-end T earlier cs = refl

some-back : (x : List Code) (o : Option ((LabelKind × Forest) × List Code)) (back : List Code) (kind : LabelKind) (tail : Forest) (rest : List Code) → elim o as (λ _. Option ((List Code × (LabelKind × Forest)) × List Code)) [ None ↦ None | Some r ↦ Some ((x, r.0), r.1) ] ≡ Some ((back, (kind, tail)), rest)
    → (x ≡ back) × (o ≡ Some ((kind, tail), rest))
some-back x o back kind tail rest e = grind arith

none-back : (x : List Code) (o : Option ((LabelKind × Forest) × List Code)) →
    elim o as (λ _. Option ((List Code × (LabelKind × Forest)) × List Code)) [ None ↦ None | Some r ↦ Some ((x, r.0), r.1) ] ≡ None →
    o ≡ None
none-back x o e = grind arith

module _ (T : Tokenizer) (here : current_of T ≡ Some (byte "]")) (on : is_on T ≡ true) where
  abbrev B : BeginsWithValue (byte "]") (ahead T)
  B = ahead-some T (byte "]") here

  abbrev behind : List Code
  behind = rest_of (ahead T)

  closes : is_value (byte "]") B.code ≡ true
  closes = is-the (byte "]") B.code B.value

  -- what the end makes, by the last start that is kept
  reads : end_reading T (ahead T) ≡ elim (outcome_by T.tokenize_state.label_starts T (B.code ∷ []) behind) as (λ _. Option ((List Code × (LabelKind × Forest)) × List Code)) [ None ↦ None | Some r ↦ Some ((B.code ∷ [], r.0), r.1) ]
  unfolding ◌>>=◌ gives
  reads = reading-at T B.code behind on B.whole closes

  pub made-advances : (U : Tokenizer) → Ends T U → Advances (text_choice_of T) T U
  made-advances U k =
      let parts = some-back (B.code ∷ []) (outcome_by T.tokenize_state.label_starts T (B.code ∷ []) behind) k.back k.kind k.tail k.rest (sym reads ∙ k.holds) in
      end-advances (text_choice_of T) T U k (end-made-of T k.back k.kind k.tail k.rest k.holds) (λ earlier previous stands.
      ap (text_choice_of T earlier previous) B.whole
      ∙ end-element (text_setting T) (end_in T) earlier previous B.code behind (ends (B.code ∷ []) (Some (k.kind, k.tail)), k.rest) B.value on
      (same-end T earlier (B.code ∷ behind)
      ∙ end-made (setting_in T) earlier T.events T.tokenize_state.label_starts B.code behind k.kind k.tail k.rest stands.keeps closes parts.1)
      ∙ ap (λ ws. Some (ends ws (Some (k.kind, k.tail)), k.rest)) parts.0)

  -- where it makes none, its `]` is the first code of the data behind it
  pub failed-advances : (stops : List Code → Bool) (V : Tokenizer) → AreReadAsData (source_of T) (text_choice_of T) stops T.cursor.codes →
      end_reading T (ahead T) ≡ None →
      (let F : Tokenizer = past_mark loses T in Reads (data_up_to stops) None F.tokenize_state F V) →
      Advances (text_choice_of T) T V
  failed-advances stops V others none k =
      lost-advances (text_choice_of T) stops T V B.code behind B.whole (ap (λ v. v == byte "\n") B.value) k
      (λ earlier previous stands.
      end-element (text_setting T) (end_in T) earlier previous B.code behind (ends (B.code ∷ []) None, behind) B.value on
      (same-end T earlier (B.code ∷ behind)
      ∙ end-fails (setting_in T) earlier T.events T.tokenize_state.label_starts B.code behind stands.keeps closes
      (none-back (B.code ∷ []) _ (sym reads ∙ none))))
      (subst (λ xs. AreReadAsData (source_of T) (text_choice_of T) stops xs) B.whole (read-ahead (source_of T) (text_choice_of T) stops T others))

-- where ends are off
pub end-alone : (T : Tokenizer) → current_of T ≡ Some (byte "]") → is_on T ≡ false → StandsAlone T
end-alone T e off earlier previous c cs stands w = grind (arith, no-end-element, value-here)
