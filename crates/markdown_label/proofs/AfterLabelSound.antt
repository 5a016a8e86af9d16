-- What follows the end of a label is sound, at every place.
use Rattle.std.proofs.Common.{◌≡◌, ℕ, not, Option, Some, List, [], ◌∷◌, subst}
use Rattle.markdown_content.specs.Codes.{Code}
use Rattle.markdown_engine.specs.Operations.{ahead}
use Rattle.markdown_content.specs.Tree.{Forest}
use Rattle.markdown_content.specs.declared.label_kind.LabelKind.{LabelKind}
use Rattle.markdown_engine.specs.declared.tokenizer.LabelStart as Kept
use Rattle.markdown_engine.specs.declared.tokenizer.Tokenizer.{Tokenizer}
use Rattle.markdown_model.specs.Setting.{Setting}
use Rattle.markdown_model.proofs.NoLinkInConstructs.{PassesValue, Yields, yields_bind, yields_gives, yields_passed, yields_either, then_any}
use Rattle.markdown_label.specs.AfterLabel.{IsSoundTail}
use Rattle.markdown_label.proofs.AfterLabelLaws.{sound-after}
use Rattle.markdown_label.specs.LabelFields.{bars}
use Rattle.markdown_label.specs.LabelEnd.{outcome_by, end_reading}
use Rattle.markdown_model.specs.SingleConstructs.{outcome}

sound-outcome : (s : Setting) (kind : LabelKind) (name : Option (List ℕ)) → Yields (λ o. IsSoundTail o.1) (outcome s kind name)
unfolding outcome
sound-outcome s kind name =
    yields_either _ _ _ (yields_passed _ _ _ (yields_gives _ _ (record { tail = tt; lines = tt }))) (yields_bind IsSoundTail _ _ _ (sound-after s _) λ tail k. yields_gives _ _ k)

sound-by : (T : Tokenizer) (back : List Code) (ls : List Kept.LabelStart) →
    Yields (λ o. IsSoundTail o.1) (outcome_by ls T back)
sound-by T back [] = record { at = λ cs. tt }
sound-by T back (l ∷ ls) = record { at = λ cs. (yields_passed _ (not (bars l)) _ (sound-outcome _ l.kind _)).at cs }

sound-end : (T : Tokenizer) → Yields (λ r. IsSoundTail r.1.1) (end_reading T)
sound-end T =
    yields_passed _ _ _ (then_any _ _ _ λ back. yields_bind (λ o. IsSoundTail o.1) _ _ _ (sound-by T back T.tokenize_state.label_starts)
    λ o k. yields_gives _ _ k)

pub tails-are-sound : (T : Tokenizer) (back : List Code) (kind : LabelKind) (tail : Forest) (rest : List Code) →
    end_reading T (ahead T) ≡ Some ((back, (kind, tail)), rest) → IsSoundTail tail
tails-are-sound T back kind tail rest e = subst (λ o. PassesValue (λ r. IsSoundTail r.1.1) o) e ((sound-end T).at (ahead T))
