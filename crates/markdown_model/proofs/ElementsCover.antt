-- The elements of a content cover its codes.
use Rattle.std.proofs.Common.{◌≡◌, ℕ, List, [], ◌∷◌, ◌++◌, refl, sym, ◌∙◌, ap, Option, Some, None}
use Rattle.markdown_event.specs.declared.event.Name.{Name}
use Rattle.markdown_content.specs.Codes.{Code}
use Rattle.markdown_content.specs.Tree.{Forest, leaf}
use Rattle.markdown_model.specs.Grammar.{Reading}
use Rattle.markdown_model.specs.Setting.{Setting}
use Rattle.markdown_model.specs.LabelEnd.{Element, plain}
use Rattle.markdown_model.specs.Elements.{as_plain, line_ending, data_code, attention_run, text_element, string_element, Choice, AreElementsFrom, code_before}
use Rattle.markdown_model.proofs.LeafCodes.{codes-leaf}
use Rattle.markdown_model.proofs.ReadingsCover.{At, Covers, bind, given, one_of, takes_one, takes_some}
use Rattle.markdown_model.proofs.PlainConstructs.{ReadsPlain}
use Rattle.markdown_model.proofs.LabelsCover.{element_codes, elements_codes, unused, covers_label_end}
use Rattle.markdown_model.proofs.ElementCases.{EachConstruct, string_has, text_has}

-- Single elements, where d starts before are unused.

module _ (d : ℕ) where
  covers_plain : (bytes : List ℕ) (a : Reading Forest) → ReadsPlain bytes a → Covers (element_codes d) [] (as_plain a)
  unfolding as_plain
  covers_plain bytes a h = bind _ _ _ _ _ h.covers λ tree. given _ _ (plain tree) refl

  pub covers_line_ending : Covers (element_codes d) [] line_ending
  unfolding line_ending
  covers_line_ending =
      bind _ _ _ _ _ (takes_one _) λ c. given _ _ (plain (leaf Name.LineEnding c)) (codes-leaf Name.LineEnding c)

  pub covers_data_code : Covers (element_codes d) [] data_code
  unfolding data_code
  covers_data_code = bind _ _ _ _ _ (takes_one _) λ c. given _ _ (plain (leaf Name.Data c)) (codes-leaf Name.Data c)

  pub covers_run : (marker : ℕ) → Covers (element_codes d) [] (attention_run marker)
  unfolding attention_run
  covers_run marker =
      bind _ _ _ _ _ (takes_some _) λ markers. given _ _ (plain (leaf Name.AttentionSequence markers)) (codes-leaf Name.AttentionSequence markers)

pub covers_text_element : (s : Setting) (end : ℕ) (earlier : List Element) (previous : Option Code) →
    Covers (element_codes (unused earlier)) [] (text_element s end earlier previous)
covers_text_element s end earlier previous = record { at = λ cs. text_has s end earlier previous (At (element_codes d) [] cs) cs (each cs) ((covers_data_code d).at cs) }
  where
    d : ℕ
    d = unused earlier

    each : (cs : List Code) → EachConstruct s end earlier previous (At (element_codes d) [] cs) cs
    each cs = record {
      none = tt;
      ending = (covers_line_ending d).at cs;
      plain_has = λ a h. (covers_plain d s.bytes a h).at cs;
      stars = λ _. (covers_run d 42).at cs;
      underscores = λ _. (covers_run d 95).at cs;
      tildes = λ _. (covers_run d 126).at cs;
      starts_has = λ kind marker rest some whole. whole;
      ended = (covers_label_end s earlier).at cs;
    }

pub covers_string_element : (s : Setting) (d : ℕ) → Covers (element_codes d) [] (string_element s)
covers_string_element s d =
    record { at = λ cs. string_has (At (element_codes d) [] cs) tt cs s (λ a h. (covers_plain d s.bytes a h).at cs) ((one_of _ _ _ _ (covers_line_ending d) (covers_data_code d)).at cs) }

-- Whole lists.

pub codes-elements : (choice : Choice) → ((earlier : List Element) (previous : Option Code) → Covers (element_codes (unused earlier)) [] (choice earlier previous))
    → (es earlier : List Element) (previous : Option Code) (cs : List Code)
    → AreElementsFrom choice earlier previous cs es → elements_codes (unused earlier) es ≡ cs
codes-elements choice covers [] earlier previous cs h = sym h
codes-elements choice covers (e ∷ es) earlier previous cs h =
    ap (λ x. element_codes (unused earlier) e ++ x) (codes-elements choice covers es (e ∷ earlier) (code_before cs h.0) h.0 h.2)
    ∙ at_some (choice earlier previous cs) h.1 ((covers earlier previous).at cs)
  where
    at_some : (r : Option (Element × List Code)) → r ≡ Some (e, h.0) → At (element_codes (unused earlier)) [] cs r →
        element_codes (unused earlier) e ++ h.0 ≡ cs
    at_some None k x = absurd (cc)
    at_some (Some y) k x = moved
      where
        same : y ≡ (e, h.0)
        same = cc

        moved : element_codes (unused earlier) e ++ h.0 ≡ cs
        moved = ap (λ z. element_codes (unused earlier) z.0 ++ z.1) (sym same) ∙ x
