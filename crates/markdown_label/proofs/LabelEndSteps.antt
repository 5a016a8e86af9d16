-- What is done behind a `]`, by what its label is.
use Rattle.std.proofs.Common.{◌≡◌, Bool, true, false, Option, Some, None, List, ◌∷◌, if◌then◌else◌, refl, sym, ap, ◌∙◌}
use Rattle.markdown_engine.specs.Operations.{current_of, scratched}
use Rattle.markdown_engine.specs.StateRuns.{Stepped, stepped}
use Rattle.markdown_event.specs.declared.state.State.TheVariants.{Retry}
use Rattle.markdown_event.specs.declared.state.StateName.TheVariants.{LabelEndOk}
use Rattle.markdown_engine.specs.declared.tokenizer.LabelStart as Kept
use Rattle.markdown_engine.specs.declared.tokenizer.Tokenizer.{Tokenizer}
use Rattle.markdown_label.specs.LabelFields.{as_link}
use Rattle.markdown_label.specs.LabelEnd.{link_tried, tail_at, after_by, after_step}
use Rattle.markdown_label_names.specs.LabelNames.{label_between, link_as}
use Rattle.markdown_label_names.specs.LabelSetting.{setting_in}

-- what follows, by what the label is
abbrev after_found : Option Bool → Tokenizer → Stepped
after_found None T = stepped (Retry LabelEndOk) T
after_found (Some defined) T = tail_at defined (current_of T) (link_tried T)

if-found : (b d : Bool) (T : Tokenizer) →
    after_found (if b then None else Some d) T ≡ (if b then stepped (Retry LabelEndOk) T else tail_at d (current_of T) (link_tried T))
if-found true d T = refl
if-found false d T = refl

module _ (T N : Tokenizer) (l : Kept.LabelStart) (ls : List Kept.LabelStart) (found : Option Bool) (top : T.tokenize_state.label_starts ≡ l ∷ ls) (same : N ≡ T) (holds : found ≡ link_as (setting_in T) l.kind (label_between T l.kind l.start.1 T.tokenize_state.end)) where
  by-found : after_found found N ≡ after_step T
  by-found =
      ap (after_found found) same ∙ ap (λ o. after_found o T) holds
      ∙ if-found _ _ T
      ∙ sym (ap (λ xs. after_by xs T) top)

  -- what follows is tried
  pub after-tries : (defined : Bool) (starts : List Kept.LabelStart) → found ≡ Some defined → starts ≡ as_link N.tokenize_state.label_starts
      → tail_at defined (current_of N) (record N { tokenize_state = record N.tokenize_state { label_starts = starts } }) ≡ after_step T
  unfolding scratched
  after-tries defined starts e s =
      ap (λ ls. tail_at defined (current_of N) (record N { tokenize_state = record N.tokenize_state { label_starts = ls } })) s
      ∙ sym (ap (λ o. after_found o N) e)
      ∙ by-found
