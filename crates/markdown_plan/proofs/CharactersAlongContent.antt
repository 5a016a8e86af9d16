-- What is known of characters goes on along a content.
use Rattle.std.proofs.Common.{ℕ, ap, List, [], ◌∷◌}
use Rattle.markdown_engine.specs.Operations.{Consume, applied, done, scratched}
use Rattle.markdown_content.specs.Place.{Place, moved}
use Rattle.markdown_content.specs.PlaceInDocument.{IsPlaceOf}
use Rattle.markdown_engine.specs.declared.tokenizer.TokenizeState.{TokenizeState}
use Rattle.markdown_engine.specs.declared.tokenizer.Tokenizer.{Tokenizer}
use Rattle.markdown_plan.specs.Characters.{IsText, ReadsText}

place-moved : (bytes : List ℕ) (p : Place) → IsPlaceOf bytes p → IsPlaceOf bytes (moved p)
unfolding moved
place-moved bytes p k = record { pieces = k.pieces; content = k.content; place = ap moved k.place }

pub text-moved : (bytes : List ℕ) (p : Place) → IsText bytes p → IsText bytes (moved p)
unfolding moved
text-moved bytes p k = record { text = k.text; own = place-moved bytes p k.own; end = k.end; first = k.first; next = k.next; stop = k.stop; byte = k.byte; past = k.past; behind = k.behind }

pub text-consumed : (r : TokenizeState) (T : Tokenizer) → ReadsText T → ReadsText (scratched r (done (Consume ∷ []) T))
unfolding scratched applied
text-consumed r T k = text-moved _ T.cursor k

pub text-passed : (T : Tokenizer) → ReadsText T → ReadsText (done (Consume ∷ []) T)
unfolding applied
text-passed T k = text-moved _ T.cursor k

pub text-scratched : (r : TokenizeState) (T : Tokenizer) → ReadsText T → ReadsText (scratched r T)
unfolding scratched
text-scratched r T k = k
