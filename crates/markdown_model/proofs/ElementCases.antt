-- What holds where nothing is read, and of what each construct reads at some codes, holds of the element that is read there.
use Rattle.std.proofs.Common.{◌≡◌, ℕ, Bool, true, false, not, ◌==◌, List, [], ◌∷◌, ◌++◌, refl, subst, Option, Some, None}
use Rattle.std.specs.Prelude.{codes}
use Rattle.std.specs.List.{list_any}
use Rattle.std.specs.Str.{byte}
use Rattle.markdown_content.specs.Codes.{Code}
use Rattle.markdown_content.specs.Tree.{Forest, empty}
use Rattle.markdown_content.specs.declared.label_kind.LabelKind.{LabelKind}
use Rattle.markdown_model.specs.Grammar.{Reading, ◌>>=◌, ◌>>◌, gives, either, provided, word}
use Rattle.markdown_model.specs.Setting.{Setting}
use Rattle.markdown_model.specs.LabelEnd.{Element, starts, Label, is_barred, after_label, footnote_call, link_or_image, outcome_of, label_end}
use Rattle.markdown_model.specs.Elements.{as_plain, switched, line_ending, data_code, attention_run, label_start_image, gfm_label_start_footnote, label_start_link, code_text, math_text, Tries, tries, tried, first_check, text_element, string_element, Choice, AreElementsFrom, code_before}
use Rattle.markdown_model.proofs.NoLinkInConstructs.{PassesValue, Yields, yields_bind, yields_gives, yields_passed, yields_either, yields_before}
use Rattle.markdown_model.proofs.OneLineReadings.{one-line, word-some}
use Rattle.markdown_model.proofs.PlainConstructs.{ReadsPlain, plain_constructs}
use Rattle.markdown_model.proofs.ReadingsCover.{At, Takes, itself, seen_before, takes_one, takes_word_of}
use Rattle.markdown_model.specs.CodeLines.{IsSomeLine}

module _ (P : Option (Element × List Code) → Type 0) (none : P None) (cs : List Code) where
  pub either_has : (a b : Reading Element) → P (a cs) → P (b cs) → P (either a b cs)
  unfolding either
  either_has a b h k = by_answer (a cs) h
    where
      by_answer : (r : Option (Element × List Code)) → P r → P (elim r [ None ↦ b cs | Some x ↦ Some x ])
      by_answer None x = k
      by_answer (Some y) x = x

  switched_has : (on : Bool) (a : Reading Element) → (on ≡ true → P (a cs)) → P (switched on a cs)
  unfolding switched provided ◌>>◌
  switched_has true a h = h refl
  switched_has false a h = none

  abbrev EachHas : Tries → Type 0
  EachHas [] = Unit {0}
  EachHas (row ∷ rows) = P (row.1 cs) × EachHas rows

  tried_has : (rows : Tries) (v : ℕ) → EachHas rows → P (data_code cs) → P (tried rows v cs)
  unfolding tried
  tried_has [] v h k = k
  tried_has (row ∷ rows) v h k = by_test (list_any (λ n. v == n) row.0) (tried_has rows v h.1 k)
    where
      by_test : (b : Bool) → P (tried rows v cs) →
          P ((elim b as (λ _. Reading Element) [ true ↦ row.1 | false ↦ tried rows v ]) cs)
      by_test true more = h.0
      by_test false more = more

  -- starts of labels, each of which is a marker on a line
  module _ (starts_has : (kind : LabelKind) (marker rest : List Code) → IsSomeLine marker → marker ++ rest ≡ cs → P (Some (starts kind marker, rest))) where
    start_has : (kind : LabelKind) (a : Reading (List Code)) → Takes a → Yields IsSomeLine a →
        P ((a >>= λ marker. gives (starts kind marker)) cs)
    unfolding ◌>>=◌ gives
    start_has kind a covers line = by_answer (a cs) (covers.at cs) (line.at cs)
      where
        by_answer : (r : Option (List Code × List Code)) → At itself [] cs r → PassesValue IsSomeLine r
            → P (elim r as (λ _. Option (Element × List Code)) [ None ↦ None | Some x ↦ Some (starts kind x.0, x.1) ])
        by_answer None h k = none
        by_answer (Some x) h k = starts_has kind x.0 x.1 k h

    image_has : (footnotes : Bool) → P (label_start_image footnotes cs)
    unfolding label_start_image word
    image_has footnotes =
        start_has LabelKind.Image _ (seen_before _ _ _ _ (takes_word_of (codes "!["))) (yields_before _ _ _ (word-some (byte "!") (codes "[") refl))

    footnote_has : P (gfm_label_start_footnote cs)
    unfolding gfm_label_start_footnote word
    footnote_has =
        start_has LabelKind.GfmFootnote _ (takes_word_of (codes "[^")) (word-some (byte "[") (codes "^") refl)

    link_has : P (label_start_link cs)
    unfolding label_start_link
    link_has = start_has LabelKind.Link _ (takes_one _) (one-line _ λ c. refl)

  -- what stands by itself, where it is switched on
  module _ (bytes : List ℕ) (plain_has : (a : Reading Forest) → ReadsPlain bytes a → P (as_plain a cs)) where
    switched_plain : (on : Bool) (a : Reading Forest) → ReadsPlain bytes a → P (switched on (as_plain a) cs)
    switched_plain on a h = switched_has on (as_plain a) (λ _. plain_has a h)

  -- in a string
  pub string_has : (s : Setting) → ((a : Reading Forest) → ReadsPlain s.bytes a → P (as_plain a cs))
      → P (either line_ending data_code cs) → P (string_element s cs)
  unfolding string_element
  string_has s plain_has more =
      either_has _ _ (switched_plain s.bytes plain_has _ _ (search plain_constructs))
      (either_has _ _ (switched_plain s.bytes plain_has _ _ (search plain_constructs)) more)

-- It holds of what stands by itself, of starts of labels, of what each other construct reads there but data, and of runs where they are looked for.
pub record EachConstruct (s : Setting) (end : ℕ) (earlier : List Element) (previous : Option Code) (P : Option (Element × List Code) → Type 0) (cs : List Code) : Type 0 where
  pub none : P None
  pub ending : P (line_ending cs)
  pub plain_has : (a : Reading Forest) → ReadsPlain s.bytes a → P (as_plain a cs)
  pub stars : s.options.constructs.attention ≡ true → P (attention_run (byte "*") cs)
  pub underscores : s.options.constructs.attention ≡ true → P (attention_run (byte "_") cs)
  pub tildes : s.options.constructs.gfm_strikethrough ≡ true → P (attention_run (byte "~") cs)
  pub starts_has : (kind : LabelKind) (marker rest : List Code) → IsSomeLine marker → marker ++ rest ≡ cs →
      P (Some (starts kind marker, rest))
  pub ended : P (label_end s earlier cs)

module _ (s : Setting) (end : ℕ) (earlier : List Element) (previous : Option Code) (P : Option (Element × List Code) → Type 0) where
  each_has : (cs : List Code) (h : EachConstruct s end earlier previous P cs) →
      EachHas P h.none cs (tries s end earlier previous)
  unfolding tries code_text math_text
  each_has cs h =
      search (h.ending, h.stars, h.underscores, h.tildes, h.ended, on, own, both, image, footnote, link, plain_constructs) parts 20 depth 30 fits 5000
    where
      on : (b : Bool) (a : Reading Element) → (b ≡ true → P (a cs)) → P (switched b a cs)
      on = switched_has P h.none cs

      own : (b : Bool) (a : Reading Forest) → ReadsPlain s.bytes a → P (switched b (as_plain a) cs)
      own = switched_plain P h.none cs s.bytes h.plain_has

      both : (a e : Reading Element) → P (a cs) → P (e cs) → P (either a e cs)
      both = either_has P h.none cs

      image : (footnotes : Bool) → P (label_start_image footnotes cs)
      image = image_has P h.none cs h.starts_has

      footnote : P (gfm_label_start_footnote cs)
      footnote = footnote_has P h.none cs h.starts_has

      link : P (label_start_link cs)
      link = link_has P h.none cs h.starts_has

  -- in a text, at a code
  pub row_has : (v : ℕ) (cs : List Code) → EachConstruct s end earlier previous P cs → P (data_code cs)
      → P (tried (tries s end earlier previous) v cs)
  row_has v cs h k = tried_has P h.none cs (tries s end earlier previous) v (each_has cs h) k

  pub check_has : (cs : List Code) → EachConstruct s end earlier previous P cs →
      P (first_check s end earlier previous cs)
  unfolding first_check
  check_has cs h = switched_plain P h.none cs s.bytes h.plain_has _ _ (search plain_constructs)

  pub text_has : (cs : List Code) → EachConstruct s end earlier previous P cs → P (data_code cs)
      → P (text_element s end earlier previous cs)
  unfolding text_element
  text_has [] h k = h.none
  text_has (c ∷ cs) h k =
      either_has P h.none (c ∷ cs) _ _ (check_has (c ∷ cs) h) (either_has P h.none (c ∷ cs) _ _ (row_has c.value (c ∷ cs) h k) k)

-- Lists of elements.

abbrev pub AllAre : (Element → Type 0) → List Element → Type 0
AllAre P [] = Unit {0}
AllAre P (e ∷ es) = P e × AllAre P es

pub all_are : (P : Element → Type 0) (choice : Choice)
    → ((earlier : List Element) (previous : Option Code) (cs : List Code) → PassesValue P (choice earlier previous cs))
    → (es earlier : List Element) (previous : Option Code) (cs : List Code) → AreElementsFrom choice earlier previous cs es → AllAre P es
all_are P choice h [] earlier previous cs k = tt
all_are P choice h (e ∷ es) earlier previous cs k =
    (subst (PassesValue P) k.1 (h earlier previous cs), all_are P choice h es (e ∷ earlier) (code_before cs k.0) k.0 k.2)

-- What holds of no tree, and of what is read behind a label, holds of the tree of an outcome.
pub outcome_yields : (Q : Forest → Type 0) → Q empty → (s : Setting)
    → ((defined : Bool) → Yields Q (after_label s defined)) → (l : Option Label) (back : List Code) → Yields (λ o. Q o.1) (outcome_of s l back)
unfolding outcome_of footnote_call link_or_image
outcome_yields Q none s h None back = record { at = λ cs. tt }
outcome_yields Q none s h (Some l) back = record { at = λ cs. whole.at cs }
  where
    whole : Yields (λ (o : LabelKind × Forest). Q o.1) (provided (not (is_barred l)) >> either (footnote_call s l back) (link_or_image s l back))
    whole = yields_passed _ _ _ (yields_either _ _ _ (yields_passed _ _ _ (yields_gives _ _ none)) (yields_bind Q _ _ _ (h _) λ tail k. yields_gives _ _ k))
