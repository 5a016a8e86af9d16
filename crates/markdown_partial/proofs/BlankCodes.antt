-- blank codes at hand
use Rattle.std.proofs.Common.{◌≡◌, ℕ, zero, suc, ◌≤◌, ◌&&◌, nat_lt, Bool, true, false, List, [], ◌∷◌, ◌++◌, length, drop, take, refl, sym, ap, subst, ◌∙◌, arith, length-append}
use Rattle.markdown_content.specs.Codes.{Code, is_blank, is_line_ending}
use Rattle.markdown_content.specs.ListFunctions.{rest_of, first_of}
use Rattle.markdown_engine.specs.Operations.{current_of, consumed, ahead}
use Rattle.markdown_content.specs.Place.{value_of}
use Rattle.markdown_engine.specs.declared.tokenizer.Tokenizer.{Tokenizer}
use Rattle.markdown_engine.proofs.OperationFields.{current-ahead, ahead-consumed}
use Rattle.markdown_model.specs.CodeTests.{next_is}
use Rattle.markdown_model.specs.Grammar.{span}
use Rattle.markdown_model.specs.Whitespace.{begins_filled_line}
use Rattle.markdown_partial.specs.PartialSpaceOrTabEol.{at_line_ending, goes_on_line}
use Rattle.markdown_model.proofs.LeafCodes.{span-append}
use Rattle.markdown_model.proofs.GrammarSteps.{span-takes, span-none}
use Rattle.markdown_plan.specs.ByteTests.{at_blank}

-- Tests on the code at hand, as tests on the codes ahead.

pub record Heads (p : Code → Bool) (cs : List Code) : Type 0 where
  pub code : Code
  pub passes : p code ≡ true
  pub whole : cs ≡ code ∷ rest_of cs

pub heads : (p : Code → Bool) (cs : List Code) → next_is p cs ≡ true → Heads p cs
heads p [] e = cc
heads p (c ∷ cs) e = record { code = c; passes = e; whole = refl }

blank-value : (cs : List Code) → at_blank (value_of (first_of cs)) ≡ next_is is_blank cs
blank-value [] = refl
blank-value (c ∷ cs) = refl

ending-value : (cs : List Code) → at_line_ending (value_of (first_of cs)) ≡ next_is is_line_ending cs
ending-value [] = refl
ending-value (c ∷ cs) = refl

filled-value : (cs : List Code) → goes_on_line (value_of (first_of cs)) ≡ begins_filled_line cs
filled-value [] = refl
filled-value (c ∷ cs) = refl

pub blank-ahead : (T : Tokenizer) → at_blank (current_of T) ≡ next_is is_blank (ahead T)
blank-ahead T = ap at_blank (current-ahead T) ∙ blank-value (ahead T)

pub ending-ahead : (T : Tokenizer) → at_line_ending (current_of T) ≡ next_is is_line_ending (ahead T)
ending-ahead T = ap at_line_ending (current-ahead T) ∙ ending-value (ahead T)

pub filled-ahead : (T : Tokenizer) → goes_on_line (current_of T) ≡ begins_filled_line (ahead T)
filled-ahead T = ap goes_on_line (current-ahead T) ∙ filled-value (ahead T)

-- the code at hand passes, and the others stand behind it
pub record CodePasses (p : Code → Bool) (T : Tokenizer) : Type 0 where
  pub code : Code
  pub passes : p code ≡ true
  pub whole : ahead T ≡ code ∷ ahead (consumed T)

pub here : (p : Code → Bool) (T : Tokenizer) → next_is p (ahead T) ≡ true → CodePasses p T
here p T e =
    let h : Heads p (ahead T) = heads p (ahead T) e in
    record { code = h.code; passes = h.passes; whole = h.whole ∙ ap (λ cs. h.code ∷ cs) (sym (ahead-consumed T)) }

-- Stretches of blank codes, and the first so many of them.

take-parts : (n : ℕ) (xs ys : List Code) → take n xs ++ drop (length (take n xs)) (xs ++ ys) ≡ xs ++ ys
take-parts zero xs ys = refl
take-parts (suc n) [] ys = refl
take-parts (suc n) (x ∷ xs) ys = ap (λ zs. x ∷ zs) (take-parts n xs ys)

pub taken-parts : (n : ℕ) (p : Code → Bool) (cs : List Code) →
    cs ≡ take n (span p cs).0 ++ drop (length (take n (span p cs).0)) cs
taken-parts n p cs =
    let law : take n (span p cs).0 ++ drop (length (take n (span p cs).0)) ((span p cs).0 ++ (span p cs).1) ≡ (span p cs).0 ++ (span p cs).1 = take-parts n (span p cs).0 (span p cs).1 in
    let P : List Code → Type 0 = λ xs. xs ≡ take n (span p cs).0 ++ drop (length (take n (span p cs).0)) xs in
    subst P (span-append p cs) (sym law)

pub taken-first : (n : ℕ) (p : Code → Bool) (c : Code) (cs : List Code) → p c ≡ true →
    take (suc n) (span p (c ∷ cs)).0 ≡ c ∷ take n (span p cs).0
taken-first n p c cs e = ap (λ (s : List Code × List Code). take (suc n) s.0) (span-takes p c cs e)

pub taken-none : (n : ℕ) (p : Code → Bool) (cs : List Code) → next_is p cs && nat_lt 0 n ≡ false →
    take n (span p cs).0 ≡ []
taken-none zero p cs e = refl
taken-none (suc n) p [] e = refl
taken-none (suc n) p (c ∷ cs) e = ap (λ (s : List Code × List Code). take (suc n) s.0) (span-none p (c ∷ cs) (stops (p c) n e)) where
  stops : (b : Bool) (n : ℕ) → b && nat_lt 0 (suc n) ≡ false → b ≡ false
  stops false n e = refl
  stops true n e = let more : nat_lt 0 (suc n) ≡ true = grind arith in cc

take-all : (n : ℕ) (xs : List Code) → length xs ≤ n → take n xs ≡ xs
take-all zero [] h = refl
take-all zero (x ∷ xs) h = absurd (omega arith)
take-all (suc n) [] h = refl
take-all (suc n) (x ∷ xs) h = let k : length xs ≤ n = omega arith in ap (λ ys. x ∷ ys) (take-all n xs k)

-- where there are no more codes than may be taken, all that pass are
pub taken-all : (n : ℕ) (p : Code → Bool) (cs : List Code) → length cs ≤ n → take n (span p cs).0 ≡ (span p cs).0
taken-all n p cs h =
    take-all n (span p cs).0 (omega (arith, h, ap length (span-append p cs), length-append (span p cs).0 (span p cs).1))

drop-append : (xs ys : List Code) → drop (length xs) (xs ++ ys) ≡ ys
drop-append [] ys = refl
drop-append (x ∷ xs) ys = drop-append xs ys

pub dropped : (p : Code → Bool) (cs : List Code) → drop (length (span p cs).0) cs ≡ (span p cs).1
dropped p cs = ap (drop (length (span p cs).0)) (sym (span-append p cs)) ∙ drop-append (span p cs).0 (span p cs).1
