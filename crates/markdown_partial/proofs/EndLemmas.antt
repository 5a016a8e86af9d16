-- More on how runs end.
use Rattle.std.proofs.Common.{◌≡◌, ℕ, Bool, true, false, Option, Some, None, refl, sym, ap, ◌∙◌}
use Rattle.std.proofs.lemmas.Bool.{false≢true}
use Rattle.markdown_engine.specs.Operations.{ahead}
use Rattle.markdown_engine.specs.PastTree.{EndsAs, TreeReading, past}
use Rattle.markdown_content.specs.Tree.{empty}
use Rattle.markdown_engine.specs.declared.tokenizer.TokenizeState.{TokenizeState}
use Rattle.markdown_engine.specs.declared.tokenizer.Tokenizer.{Tokenizer}
use Rattle.markdown_engine.proofs.ReadingSequences.{scratched-same}
use Rattle.markdown_engine.proofs.TreeEvents.{past-empty}

-- a run that ends as another reading says, which reads the same here
pub EndsAs-same : (r1 r2 : TreeReading) (previous : Option ℕ) (s : TokenizeState) (T : Tokenizer) →
    r1 (ahead T) ≡ r2 (ahead T) → (ok : Bool) (U : Tokenizer) → EndsAs r2 previous s T ok U →
    EndsAs r1 previous s T ok U
EndsAs-same r1 r2 previous s T e true U k =
    record { tree = k.tree; rest = k.rest; holds = e ∙ k.holds; left = k.left; whole = k.whole; after = k.after }
EndsAs-same r1 r2 previous s T e false U k = record { refused = e ∙ k.refused; fails = k.fails }

-- a run that reads nothing
pub EndsAs-here : (r : TreeReading) (T : Tokenizer) → r (ahead T) ≡ Some (empty, ahead T) →
    (ok : Bool) (U : Tokenizer) → (ok ≡ true) × (U ≡ T) → EndsAs r None T.tokenize_state T ok U
EndsAs-here r T e true U k =
    record { tree = empty; rest = ahead T; holds = e; left = k.1 ∙ sym (past-empty None T) ∙ ap (past None empty) (sym (scratched-same T)); whole = refl; after = ap ahead k.1 }
EndsAs-here r T e false U k = absurd (false≢true k.0)
