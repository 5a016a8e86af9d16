-- Tests by the code at hand, and what the codes of a content are past some of them.
use Rattle.std.proofs.Common.{◌≡◌, ℕ, ◌==◌, Bool, false, Some, None, List, [], ◌∷◌, refl, ap, ◌∙◌}
use Rattle.markdown_content.specs.Codes.{Code}
use Rattle.markdown_engine.specs.Operations.{ahead, current_of}
use Rattle.markdown_engine.specs.PastTree.{moved_by}
use Rattle.markdown_content.specs.Place.{Place, moved}
use Rattle.markdown_engine.specs.declared.tokenizer.Tokenizer.{Tokenizer}
use Rattle.markdown_engine.proofs.OperationFields.{BeginsWithValue, ahead-none, ahead-some}
use Rattle.markdown_model.specs.CodeTests.{is_value, next_is}

pub at-value : (T : Tokenizer) (c v : ℕ) (b : Bool) → current_of T ≡ Some c → (c == v) ≡ b →
    next_is (is_value v) (ahead T) ≡ b
at-value T c v b e h =
    let x : BeginsWithValue c (ahead T) = ahead-some T c e in
    ap (next_is (is_value v)) x.whole ∙ ap (λ n. n == v) x.value ∙ h

pub at-none : (T : Tokenizer) (v : ℕ) → current_of T ≡ None → next_is (is_value v) (ahead T) ≡ false
at-none T v e = ap (next_is (is_value v)) (ahead-none T e)

-- the codes of a content stay the same past some of them
pub same-codes : (cs : List Code) (p : Place) → (moved_by cs p).codes ≡ p.codes
unfolding moved
same-codes [] p = refl
same-codes (c ∷ cs) p = same-codes cs (moved p)
