-- The elements of a content are sound, so its tree of labels is striped.
use Rattle.std.proofs.Common.{◌≡◌, ℕ, false, List, ◌∷◌, ◌++◌, refl, sym, subst, Option, Some, None, inl, inr, arith, []}
use Rattle.markdown_event.specs.declared.event.Name.{Name}
use Rattle.markdown_content.specs.declared.label_kind.LabelKind.{LabelKind}
use Rattle.markdown_content.specs.Codes.{Code}
use Rattle.markdown_content.specs.Tree.{Forest, leaf}
use Rattle.markdown_model.specs.Grammar.{Reading, ◌>>=◌, gives, some}
use Rattle.markdown_model.specs.Setting.{Setting, within}
use Rattle.markdown_model.specs.LabelEnd.{Element, plain, ends, Label, label_before, outcome_of, label_end}
use Rattle.markdown_model.specs.Elements.{as_plain, line_ending, data_code, attention_run, text_element, AreElementsFrom, AreElements, code_before, elements_of}
use Rattle.markdown_model.specs.InlineTree.{label_tree}
use Rattle.markdown_model.proofs.ElementCases.{AllAre, EachConstruct, outcome_yields, text_has}
use Rattle.markdown_model.proofs.ElementsCover.{covers_text_element}
use Rattle.markdown_model.proofs.OneElementList.{text_elements}
use Rattle.markdown_model.proofs.LabelsCover.{element_codes, unused}
use Rattle.markdown_model.proofs.ReadingsCover.{At}
use Rattle.markdown_model.proofs.NoLinkInConstructs.{PassesValue, Yields, yields_bind, yields_gives, yields_either, then_any}
use Rattle.markdown_attention.specs.OpenRuns.{IsMarker}
use Rattle.markdown_attention.proofs.AttentionTreeLabels.{IsGood, IsElementRead, quiet-good, good-run, good-leaf, good-labels}
use Rattle.markdown_model.proofs.PlainTrees.{IsQuiet, plain-quiet, quiet_after_label}
use Rattle.markdown_model.proofs.PlainConstructs.{IsPlainTree, ReadsPlain}
use Rattle.markdown_attention.proofs.MarkerCodes.{AreSingles, singles-back, run-leaf}

-- Readings whose values all pass, at codes of a content.

record YieldsOn (bytes : List ℕ) {A : Type 0} (P : A → Type 0) (a : Reading A) : Type 0 where
  at : (cs : List Code) → AreSingles bytes cs → PassesValue P (a cs)

module _ (bytes : List ℕ) where
  module _ {A : Type 0} (P : A → Type 0) where
    on_any : (a : Reading A) → Yields P a → YieldsOn bytes P a
    on_any a h = record { at = λ cs _. h.at cs }

  -- Single elements.

  abbrev Sound : Reading Element → Type 0
  Sound a = YieldsOn bytes (IsElementRead bytes) a

  sound_plain : (document : List ℕ) (a : Reading Forest) → ReadsPlain document a → Sound (as_plain a)
  unfolding as_plain
  sound_plain document a h =
      on_any _ _ (yields_bind (IsPlainTree document) _ _ _ h.plain λ tree k. yields_gives _ (plain tree) (quiet-good bytes tree (plain-quiet document tree k)))

  sound_line_ending : Sound line_ending
  unfolding line_ending
  sound_line_ending =
      on_any _ _ (then_any _ _ _ λ c. yields_gives _ (plain (leaf Name.LineEnding c)) (good-leaf bytes Name.LineEnding c refl))

  sound_data_code : Sound data_code
  unfolding data_code
  sound_data_code =
      on_any _ _ (then_any _ _ _ λ c. yields_gives _ (plain (leaf Name.Data c)) (good-leaf bytes Name.Data c refl))

  sound_run : (m : ℕ) → IsMarker m → Sound (attention_run m)
  unfolding attention_run ◌>>=◌ gives
  sound_run m k = grind (arith, run-leaf, good-run)

  -- Ends of labels.

  abbrev QuietOutcome : LabelKind × Forest → Type 0
  QuietOutcome outcome = IsQuiet false outcome.1

  quiet_outcome : (s : Setting) (l : Option Label) (back : List Code) → Yields QuietOutcome (outcome_of s l back)
  quiet_outcome s l back = outcome_yields (IsQuiet false) refl s (quiet_after_label s) l back

  sound_label_end : (s : Setting) (earlier : List Element) → Sound (label_end s earlier)
  unfolding label_end
  sound_label_end s earlier =
      on_any _ _ (then_any _ _ _ λ back. yields_either _ _ _
      (yields_bind QuietOutcome _ _ _ (quiet_outcome s (label_before earlier) back) λ outcome k. yields_gives _ (ends back (Some outcome)) k)
      (yields_gives _ (ends back None) tt))

  -- Elements.

  sound_text_element : (s : Setting) (end : ℕ) (earlier : List Element) (previous : Option Code) →
      Sound (text_element s end earlier previous)
  sound_text_element s end earlier previous = record { at = λ cs k. text_has s end earlier previous (PassesValue (IsElementRead bytes)) cs (each cs k) (sound_data_code.at cs k) }
    where
      each : (cs : List Code) → AreSingles bytes cs → EachConstruct s end earlier previous (PassesValue (IsElementRead bytes)) cs
      each cs k = record {
        none = tt;
        ending = sound_line_ending.at cs k;
        plain_has = λ a h. (sound_plain s.bytes a h).at cs k;
        stars = λ _. (sound_run 42 (inl refl)).at cs k;
        underscores = λ _. (sound_run 95 (inr (inl refl))).at cs k;
        tildes = λ _. (sound_run 126 (inr (inr refl))).at cs k;
        starts_has = λ kind marker rest some whole. tt;
        ended = (sound_label_end s earlier).at cs k;
      }

  -- Lists of elements: what is left after an element is the end of the codes.

  all_sound : (s : Setting) (end : ℕ) (es earlier : List Element) (previous : Option Code) (cs : List Code)
      → AreSingles bytes cs → AreElementsFrom (text_element s end) earlier previous cs es → AllAre (IsElementRead bytes) es
  all_sound s end [] earlier previous cs k h = tt
  all_sound s end (e ∷ es) earlier previous cs k h =
      let d : ℕ = unused earlier in
      let whole : element_codes d e ++ h.0 ≡ cs = covered (text_element s end earlier previous cs) h.1 ((covers_text_element s end earlier previous).at cs) in
      let rest : AreSingles bytes h.0 = singles-back bytes (element_codes d e) h.0 (subst (λ (x : List Code). AreSingles bytes x) (sym whole) k) in
      (at_some (text_element s end earlier previous cs) h.1 ((sound_text_element s end earlier previous).at cs k), all_sound s end es (e ∷ earlier) (code_before cs h.0) h.0 rest h.2)
    where
      at_some : (r : Option (Element × List Code)) → r ≡ Some (e, h.0) → PassesValue (IsElementRead bytes) r → IsElementRead bytes e
      at_some r n x = subst (λ z. PassesValue (IsElementRead bytes) z) n x

      covered : (r : Option (Element × List Code)) → r ≡ Some (e, h.0) → At (element_codes (unused earlier)) [] cs r →
          element_codes (unused earlier) e ++ h.0 ≡ cs
      covered r n x = subst (λ z. At (element_codes (unused earlier)) [] cs z) n x

  pub sound-elements : (s : Setting) (cs : List Code) (es : List Element) → AreSingles bytes cs → AreElements s cs es →
      AllAre (IsElementRead bytes) es
  sound-elements s cs es k h = all_sound (within cs s) _ es [] None cs k h

-- The tree of labels.

pub good-tree : (bytes : List ℕ) (s : Setting) (cs : List Code) → AreSingles bytes cs → IsGood bytes (label_tree s cs)
unfolding label_tree
good-tree bytes s cs k =
    good-labels bytes (elements_of s cs) (sound-elements bytes s cs (elements_of s cs) k (text_elements s cs))
