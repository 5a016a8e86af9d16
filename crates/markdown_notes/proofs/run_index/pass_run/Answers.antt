use Rattle.std.proofs.Common.{◌≡◌, ◌∙◌, ◌==◌, ℕ, nat_eq, true, false, sym, ap, arith, Option, Some, None}
use Rattle.std.proofs.lemmas.Bool.{eqb-true}
use Rattle.std.specs.Option.{option_eq}
use Rattle.markdown_content.specs.Place.{Place, code_at}
use Rattle.markdown_notes.specs.RunIndex.{past_run}
use Rattle.markdown_content.proofs.PlaceRules.{left_moved}
use Rattle.markdown_notes.proofs.RunIndexLemmas.{past-one, past-none}
use Rattle.markdown_notes.proofs.run_index.pass_run.Goals as goal

here : (o : Option ℕ) (v : ℕ) (p : Place) → option_eq nat_eq o (Some v) ≡ true → o ≡ code_at p → code_at p ≡ Some v
here None v p h e = cc
here (Some w) v p h e = sym e ∙ ap (λ k. Some k) (eqb-true w v h)

other : (o : Option ℕ) (v : ℕ) → option_eq nat_eq o (Some v) ≡ false → o ≡ Some v → ⊥
other o v h e = differ v (sym (ap (λ x. option_eq nat_eq x (Some v)) e) ∙ h)
  where
    differ : (k : ℕ) → (k == k) ≡ false → ⊥
    differ k h = grind (arith, h)

pub loop-cursor-smaller : goal.loop-cursor-smaller
loop-cursor-smaller c = grind (arith, left_moved, here)

pub loop-cursor-preserved : goal.loop-cursor-preserved
loop-cursor-preserved c =
    ap (λ (p : Place). past_run c.args.value p) c.consume.ensures ∙ past-one c.args.value c.loop-cursor.cursor (here c.current.result c.args.value c.loop-cursor.cursor (sym c.eq.ensures ∙ c.loop-cursor-test.true) c.current.ensures) ∙ c.loop-cursor.invariant

pub returns : goal.returns
returns c = sym (past-none c.args.value c.loop-cursor.cursor (λ e. other c.current.result c.args.value (sym c.eq.ensures ∙ c.loop-cursor-test.false) (c.current.ensures ∙ e))) ∙ c.loop-cursor.invariant
