-- The start of an image that stands at hand, by its codes, and how it is read.
use Rattle.std.proofs.Common.{◌≡◌, ℕ, ◌&&◌, Bool, true, false, List, ◌++◌, Option, None, Some, refl, sym, ap, subst, ◌∙◌, arith}
use Rattle.std.specs.Option.{is_some}
use Rattle.std.proofs.lemmas.Bool.{not-true}
use Rattle.markdown_content.specs.ListFunctions.{rest_of}
use Rattle.markdown_content.specs.Place.{Place, ahead_at, code_at, moved}
use Rattle.markdown_event.proofs.AndParts.{and-left, and-right}
use Rattle.markdown_content.proofs.PlaceRules.{IsAhead, ahead-moved, ahead_none, ahead_some}
use Rattle.markdown_engine.specs.Operations.{Op, ahead, applied, current_of, done}
use Rattle.markdown_event.specs.declared.state.State.{State}
use Rattle.markdown_engine.specs.declared.tokenizer.Tokenizer.{Tokenizer}
use Rattle.markdown_label.specs.LabelStarts.{ImageAfterReady, footnotes_on, image_after_step, image_back, image_front, image_test, is_caret}
use Rattle.markdown_label.proofs.LabelStartOps.{written}
use Rattle.markdown_model.specs.CodeTests.{is_value, next_is}
use Rattle.markdown_model.specs.SingleConstructs.{label_start_image_here}
use Rattle.markdown_model.proofs.GrammarSteps.{if-false}
use Rattle.markdown_run_text.proofs.LabelStartConstructs.{image-begins, image-not}
use Rattle.markdown_run_text.specs.PlacesPassed.{image_here, is_some_value}
use Rattle.markdown_run_text.specs.ReaderEnds.{BeginsOrStays, options_here}

-- The code at a place, and those behind it.

pub first-at : (v : ℕ) (p : Place) → is_some_value v (code_at p) ≡ next_is (is_value v) (ahead_at p)
first-at v p = by_code (code_at p) refl
  where
    by_code : (o : Option ℕ) → code_at p ≡ o → is_some_value v o ≡ next_is (is_value v) (ahead_at p)
    by_code None e = sym (ap (next_is (is_value v)) (ahead_none p e))
    by_code (Some c) e =
        let a : IsAhead p c = ahead_some p c e in
        sym (ap (next_is (is_value v)) a.codes ∙ ap (λ n. is_some_value v (Some n)) a.value)

second-at : (v : ℕ) (p : Place) → is_some_value v (code_at (moved p)) ≡ next_is (is_value v) (rest_of (ahead_at p))
second-at v p = first-at v (moved p) ∙ ap (next_is (is_value v)) (ahead-moved p)

third-at : (v : ℕ) (p : Place) → is_some_value v (code_at (moved (moved p))) ≡ next_is (is_value v) (rest_of (rest_of (ahead_at p)))
third-at v p = second-at v (moved p) ∙ ap (λ cs. next_is (is_value v) (rest_of cs)) (ahead-moved p)

pub some-value : (v : ℕ) (o : Option ℕ) → is_some_value v o ≡ true → is_some o ≡ true
some-value v o e = grind arith

caret-is : (o : Option ℕ) → is_caret o ≡ is_some_value 94 o
caret-is o = grind arith

-- Where a start stands.

sorted : (a b c d : Bool) → a && ((b && c) && d) ≡ (a && b) && (c && d)
sorted a b c d = grind arith

pub image-here : (T : Tokenizer) → image_here T ≡ image_test T (ahead T)
image-here T = grind (arith, sorted, first-at, second-at, third-at)

pub image-codes : (T : Tokenizer) → image_test T (ahead T) ≡ true → is_some (code_at T.cursor) && is_some (code_at (moved T.cursor)) ≡ true
image-codes T e = grind (arith, some-value, first-at, and-right, and-left, second-at)

-- How it is read.

abbrev image_ops : List Op
image_ops = image_front ++ image_back

pub image-ready : (T V : Tokenizer) → V ≡ done image_ops T → ImageAfterReady V
image-ready T V e = subst ImageAfterReady (sym e) (omega (arith, written image_ops T))

no-call : (T : Tokenizer) → image_test T (ahead T) ≡ true → (let V : Tokenizer = done image_ops T in footnotes_on V && is_caret (current_of V)) ≡ false
unfolding applied
no-call T e = grind (arith, caret-is, third-at, not-true, and-right)

pub image-reads : (T V U : Tokenizer) (s : State) → image_test T (ahead T) ≡ true → V ≡ done image_ops T → image_after_step V ≡ record { state = s; left = U } →
    BeginsOrStays (label_start_image_here (options_here T)) T true U
image-reads T V U s e k l = grind (arith, if-false, no-call, image-begins)

pub no-image : (T : Tokenizer) → image_test T (ahead T) ≡ false → BeginsOrStays (label_start_image_here (options_here T)) T false T
no-image T e = (image-not T e, refl)
