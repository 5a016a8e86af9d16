-- Codes passed one by one.
use Rattle.std.proofs.Common.{◌≡◌, List, [], ◌∷◌, refl}
use Rattle.markdown_content.specs.Codes.{Code}
use Rattle.markdown_engine.specs.Operations.{Consume, applied, done}
use Rattle.markdown_engine.specs.PastTree.{passed}
use Rattle.markdown_engine.specs.declared.tokenizer.Tokenizer.{Tokenizer}

pub passed-none : (T : Tokenizer) → passed [] T ≡ T
unfolding passed
passed-none T = refl

pub passed-one : (c : Code) (cs : List Code) (T : Tokenizer) → passed (c ∷ cs) T ≡ passed cs (done (Consume ∷ []) T)
unfolding passed applied
passed-one c cs T = refl
