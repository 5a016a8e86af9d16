-- Lists of events and of edits that grew one by one, and whether the edits can be applied.
use Rattle.std.proofs.Common.{◌≡◌, true, List, [], ◌∷◌, ◌++◌, ap, ◌∙◌}
use Rattle.markdown_event.specs.declared.event.Event.{Event}
use Rattle.markdown_engine_events.specs.declared.util.edit_map.Edit.{Edit}
use Rattle.markdown_engine_events.specs.Edits.{CanEdit}
use Rattle.markdown_engine_events.proofs.EditRules.{can_edit, CanEdit-from_test}

-- a list that one item was added to
pub more : {A : Type 0} → (xs ys zs : List A) (x y : A) → xs ≡ ys → x ≡ y → zs ≡ xs ++ x ∷ [] → zs ≡ ys ++ y ∷ []
more xs ys zs x y h k g = g ∙ ap (λ v. v ++ x ∷ []) h ∙ ap (λ v. ys ++ v ∷ []) k

pub tested : (log log' : List Edit) (es es' : List Event) → log ≡ log' → es ≡ es' → can_edit log' es' ≡ true →
    CanEdit log es
tested log log' es es' h k t = CanEdit-from_test log es (ap (λ v. can_edit v es) h ∙ ap (can_edit log') k ∙ t)
