-- The elements of a content are on lines.
use Rattle.std.proofs.Common.{◌≡◌, ℕ, ◌==◌, ◌||◌, Bool, true, false, List, [], ◌∷◌, ◌++◌, Option, Some, None, refl, sym, ap, subst, ◌∙◌}
use Rattle.std.specs.List.{list_any}
use Rattle.markdown_content.specs.Codes.{Code, is_line_ending}
use Rattle.markdown_content.specs.Tree.{Forest, leaf, leaf_codes}
use Rattle.markdown_event.specs.declared.event.Name.TheVariants as N
use Rattle.markdown_content.specs.declared.label_kind.LabelKind.{LabelKind}
use Rattle.markdown_model.specs.CodeTests.{is_value}
use Rattle.markdown_model.specs.Elements.{as_plain, line_ending, data_code, attention_run, Tries, tries, tried, first_check, text_element, string_element, text_choice, string_choice, Choice, AreElementsFrom, AreElements, AreStringElements, code_before}
use Rattle.markdown_model.specs.Grammar.{Reading, ◌>>=◌, gives, either, one}
use Rattle.markdown_model.specs.LabelEnd.{Element, plain, starts, ends, Label, label_before, outcome_of, label_end}
use Rattle.markdown_model.specs.Setting.{Setting, within}
use Rattle.markdown_model.proofs.ElementCases.{AllAre, EachConstruct, check_has, either_has, outcome_yields, row_has, string_has}
use Rattle.markdown_model.proofs.ElementsCover.{covers_text_element, covers_string_element}
use Rattle.markdown_model.proofs.LabelsCover.{element_codes, unused}
use Rattle.markdown_model.proofs.NoLinkInConstructs.{PassesValue, Yields, yields_bind, yields_gives, yields_either}
use Rattle.markdown_model.proofs.ReadingsCover.{At, Covers}
use Rattle.markdown_model.specs.CodeLines.{IsSomeLine, AreSpaced}
use Rattle.markdown_innermost.specs.OneLineLeaves.{IsLined, AtStart, IsLinedElement}
use Rattle.markdown_innermost.proofs.OneLineConstructs.{IsLinedTree, one-leaf, line-leaf, plain-lined, after-tree}
use Rattle.markdown_model.proofs.OneLineReadings.{IsOneCode, one-one, one-line, some-line}
use Rattle.markdown_model.proofs.OneLineLiterals.{spaced-both}
use Rattle.markdown_model.proofs.PlainConstructs.{IsPlainTree, ReadsPlain}

module _ (s : Setting) where
  -- on lines, where whitespace stands at each line ending
  abbrev IsOnLines : Element → Type 0
  IsOnLines (plain t) = AreSpaced s.bytes (leaf_codes t) → IsLinedTree t
  IsOnLines (starts kind marker) = IsSomeLine marker
  IsOnLines (ends marker None) = IsSomeLine marker
  IsOnLines (ends marker (Some outcome)) = IsSomeLine marker × IsLined AtStart outcome.1

  abbrev YieldsOnLines : Reading Element → Type 0
  YieldsOnLines a = Yields IsOnLines a

  -- Single elements.

  there-plain : (a : Reading Forest) → ReadsPlain s.bytes a → YieldsOnLines (as_plain a)
  unfolding as_plain
  there-plain a h =
      yields_bind (IsPlainTree s.bytes) _ _ _ h.plain λ tree k. yields_gives _ (plain tree) (plain-lined s.bytes tree k)

  there-ending : YieldsOnLines line_ending
  unfolding line_ending
  there-ending =
      yields_bind IsOneCode _ _ _ (one-one _) λ c h. yields_gives _ (plain (leaf N.LineEnding c)) (λ _. one-leaf N.LineEnding c refl h)

  there-run : (m : ℕ) → (10 == m) ≡ false → YieldsOnLines (attention_run m)
  unfolding attention_run
  there-run m e =
      yields_bind IsSomeLine _ _ _ (some-line (is_value m) (λ c. e)) λ markers h. yields_gives _ (plain (leaf N.AttentionSequence markers)) (λ _. line-leaf N.AttentionSequence markers h.1)

  abbrev LinedOutcome : LabelKind × Forest → Type 0
  LinedOutcome outcome = IsLined AtStart outcome.1

  lined-outcome : (l : Option Label) (back : List Code) → Yields LinedOutcome (outcome_of s l back)
  lined-outcome l back = outcome_yields IsLinedTree tt s (after-tree s) l back

  there-end : (earlier : List Element) → YieldsOnLines (label_end s earlier)
  unfolding label_end
  there-end earlier =
      yields_bind IsSomeLine _ _ _ (one-line _ λ c. refl) λ back b. yields_either _ _ _
      (yields_bind LinedOutcome _ _ _ (lined-outcome (label_before earlier) back) λ outcome k. yields_gives _ (ends back (Some outcome)) (b, k))
      (yields_gives _ (ends back None) b)

  -- At some codes, and at a code.

  no-data : PassesValue IsOnLines (data_code [])
  unfolding data_code one ◌>>=◌
  no-data = tt

  module _ (c : Code) (cs : List Code) where
    abbrev LinedHere : Reading Element → Type 0
    LinedHere a = PassesValue IsOnLines (a (c ∷ cs))

    here-either : (a b : Reading Element) → LinedHere a → LinedHere b → LinedHere (either a b)
    here-either a b h k = either_has (PassesValue IsOnLines) tt (c ∷ cs) a b h k

    -- the first, where it holds
    here-first : (a b : Reading Element) (e : Element) (rest : List Code) → a (c ∷ cs) ≡ Some (e, rest) → IsOnLines e →
        LinedHere (either a b)
    unfolding either
    here-first a b e rest k h =
        subst (λ r. PassesValue IsOnLines (elim r as (λ _. Option (Element × List Code)) [ None ↦ b (c ∷ cs) | Some x ↦ Some x ])) (sym k) h

    here-data : is_line_ending c ≡ false → LinedHere data_code
    unfolding data_code one ◌>>=◌ gives
    here-data h = λ _. line-leaf N.Data (c ∷ []) (ap (λ b. b || false) h)

    ending-read : is_line_ending c ≡ true → line_ending (c ∷ cs) ≡ Some (plain (leaf N.LineEnding (c ∷ [])), cs)
    unfolding line_ending one ◌>>=◌ gives
    ending-read h =
        ap (λ b. elim (elim b as (λ _. Option (List Code × List Code)) [ true ↦ Some (c ∷ [], cs) | false ↦ None ]) as (λ _. Option (Element × List Code)) [ None ↦ None | Some r ↦ Some (plain (leaf N.LineEnding r.0), r.1) ]) h

    ending-there : IsOnLines (plain (leaf N.LineEnding (c ∷ [])))
    ending-there = λ _. one-leaf N.LineEnding (c ∷ []) refl tt

    first-tried : (row : List ℕ × Reading Element) (rows : Tries) (v : ℕ) → list_any (λ n. v == n) row.0 ≡ true →
        tried (row ∷ rows) v (c ∷ cs) ≡ row.1 (c ∷ cs)
    unfolding tried
    first-tried row rows v h =
        ap (λ b. (elim b as (λ _. Reading Element) [ true ↦ row.1 | false ↦ tried rows v ]) (c ∷ cs)) h

    module _ (end : ℕ) (earlier : List Element) (previous : Option Code) where
      each-here : EachConstruct s end earlier previous (PassesValue IsOnLines) (c ∷ cs)
      each-here = record {
        none = tt;
        ending = there-ending.at (c ∷ cs);
        plain_has = λ a h. (there-plain a h).at (c ∷ cs);
        stars = λ _. (there-run 42 refl).at (c ∷ cs);
        underscores = λ _. (there-run 95 refl).at (c ∷ cs);
        tildes = λ _. (there-run 126 refl).at (c ∷ cs);
        starts_has = λ kind marker rest some whole. some;
        ended = (there-end earlier).at (c ∷ cs);
      }

      tried-ending : is_line_ending c ≡ true →
          tried (tries s end earlier previous) c.value (c ∷ cs) ≡ line_ending (c ∷ cs)
      unfolding tries
      tried-ending h = first-tried _ _ c.value (ap (λ b. b || false) h)

      here-row : (b : Bool) → is_line_ending c ≡ b →
          LinedHere (either (tried (tries s end earlier previous) c.value) data_code)
      here-row true h =
          here-first (tried (tries s end earlier previous) c.value) data_code (plain (leaf N.LineEnding (c ∷ []))) cs (tried-ending h ∙ ending-read h) ending-there
      here-row false h =
          here-either (tried (tries s end earlier previous) c.value) data_code (row_has s end earlier previous (PassesValue IsOnLines) c.value (c ∷ cs) each-here (here-data h)) (here-data h)

      here-text : LinedHere (text_element s end earlier previous)
      unfolding text_element
      here-text = here-either (first_check s end earlier previous) (either (tried (tries s end earlier previous) c.value) data_code) (check_has s end earlier previous (PassesValue IsOnLines) (c ∷ cs) each-here) (here-row (is_line_ending c) refl)

    here-plain : (b : Bool) → is_line_ending c ≡ b → LinedHere (either line_ending data_code)
    here-plain true h =
        here-first line_ending data_code (plain (leaf N.LineEnding (c ∷ []))) cs (ending-read h) ending-there
    here-plain false h = here-either line_ending data_code (there-ending.at (c ∷ cs)) (here-data h)

    here-string : LinedHere (string_element s)
    here-string =
        string_has (PassesValue IsOnLines) tt (c ∷ cs) s (λ a h. (there-plain a h).at (c ∷ cs)) (here-plain (is_line_ending c) refl)

  -- Lists of elements.

  lined-there : (d : ℕ) (e : Element) → AreSpaced s.bytes (element_codes d e) → IsOnLines e → IsLinedElement e
  lined-there d (plain t) k h = h k
  lined-there d (starts kind marker) k h = h
  lined-there d (ends marker None) k h = h
  lined-there d (ends marker (Some outcome)) k h = h

  -- where each choice covers its codes, and is on lines at any code
  lined-elements : (choice : Choice) → ((earlier : List Element) (previous : Option Code) → Covers (element_codes (unused earlier)) [] (choice earlier previous))
      → ((earlier : List Element) (previous : Option Code) (cs : List Code) → PassesValue IsOnLines (choice earlier previous cs))
      → (es earlier : List Element) (previous : Option Code) (cs : List Code) → AreSpaced s.bytes cs → AreElementsFrom choice earlier previous cs es → AllAre IsLinedElement es
  lined-elements choice covers there [] earlier previous cs k h = tt
  lined-elements choice covers there (e ∷ es) earlier previous cs k h =
      let d : ℕ = unused earlier in
      let whole : element_codes d e ++ h.0 ≡ cs = subst (λ z. At (element_codes d) [] cs z) h.1 ((covers earlier previous).at cs) in
      let both = spaced-both s.bytes (element_codes d e) h.0 (subst (λ (x : List Code). AreSpaced s.bytes x) (sym whole) k) in
      (lined-there d e both.0 (subst (λ z. PassesValue IsOnLines z) h.1 (there earlier previous cs)), lined-elements choice covers there es (e ∷ earlier) (code_before cs h.0) h.0 both.1 h.2)

  text-there : (end : ℕ) (earlier : List Element) (previous : Option Code) (cs : List Code) →
      PassesValue IsOnLines (text_element s end earlier previous cs)
  unfolding text_element
  text-there end earlier previous [] = tt
  text-there end earlier previous (c ∷ cs) = here-text c cs end earlier previous

  string-none : PassesValue IsOnLines (string_element s [])
  string-none =
      string_has (PassesValue IsOnLines) tt [] s (λ a h. (there-plain a h).at []) (either_has (PassesValue IsOnLines) tt [] line_ending data_code (there-ending.at []) no-data)

  string-there : (earlier : List Element) (previous : Option Code) (cs : List Code) →
      PassesValue IsOnLines (string_choice s earlier previous cs)
  string-there earlier previous [] = string-none
  string-there earlier previous (c ∷ cs) = here-string c cs

pub text-lined : (s : Setting) (cs : List Code) (es : List Element) → AreSpaced s.bytes cs → AreElements s cs es →
    AllAre IsLinedElement es
text-lined s cs es k h =
    lined-elements (within cs s) (text_choice s cs) (λ earlier previous. covers_text_element (within cs s) _ earlier previous) (λ earlier previous ds. text-there (within cs s) _ earlier previous ds) es [] None cs k h

pub string-lined : (s : Setting) (cs : List Code) (es : List Element) → AreSpaced s.bytes cs → AreStringElements s cs es →
    AllAre IsLinedElement es
string-lined s cs es k h =
    lined-elements s (string_choice s) (λ earlier previous. covers_string_element s (unused earlier)) (string-there s) es [] None cs k h
