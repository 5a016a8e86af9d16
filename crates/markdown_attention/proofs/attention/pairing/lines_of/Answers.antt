use Rattle.std.proofs.Common.{ℕ, ◌≡◌, ◌<◌, ◌≤◌, ◌+◌, ◌∙◌, inl, inr, List, length, get_or, sym, ap, subst, arith}
use Rattle.std.proofs.Math.Nat.{eq-or-lt_of_le}
use Rattle.markdown_attention.specs.NumberedPairs.{row_of, run_at}
use Rattle.markdown_attention.specs.declared.attention.runs.Sequence.{Sequence}
use Rattle.markdown_attention.proofs.attention.pairing.lines_of.Goals as goal

-- the row of each of the first runs has a line
abbrev RowsHaveLines : List Sequence → List ℕ → ℕ → Type 0
RowsHaveLines runs table k = (r : ℕ) → r < k → 0 < get_or table (row_of (run_at runs r).text) 0

lines-more : (runs : List Sequence) (old new : List ℕ) (k row : ℕ) →
    ((a : ℕ) → 0 < get_or old a 0 → 0 < get_or new a 0) → row ≡ row_of (run_at runs k).text → 0 < get_or new row 0 →
    RowsHaveLines runs old k → RowsHaveLines runs new (k + 1)
lines-more runs old new k row kept is here all r low =
    let most : r ≤ k = omega arith in
    elim (eq-or-lt_of_le most) [
      | inl same ↦ subst (λ (j : ℕ). 0 < get_or new (row_of (run_at runs j).text) 0) (sym same) (subst (λ (a : ℕ). 0 < get_or new a 0) is here)
      | inr less ↦ kept (row_of (run_at runs r).text) (all r less)
    ]

pub give-requires-clause-within : goal.give-requires-clause-within
give-requires-clause-within c =
    let row = ap row_of c.text_of.ensures in
    let at : c.loop-index.index < length c.args.runs.now.list = omega (arith, c.loop-index-test.true, c.len-index-end.ensures) in
    let within = c.texts.ensures.containers c.loop-index.index at in
    omega (arith, row, within, c.texts.ensures.is, c.loop-index.invariant.same)

pub loop-index-preserved : goal.loop-index-preserved
loop-index-preserved c = record {
  are = c.give.ensures.are;
  same = c.give.ensures.same ∙ c.loop-index.invariant.same;
  count = omega (arith, c.give.ensures.count, c.loop-index.invariant.count);
  some = lines-more c.args.runs.now.list c.loop-index.lines.of_rows c.give.new.self.of_rows c.loop-index.index (row_of c.text_of.result) c.give.ensures.kept (ap row_of c.text_of.ensures) c.give.ensures.some c.loop-index.invariant.some;
}

pub returns-clause-are : goal.returns-clause-are
returns-clause-are c = c.loop-index.invariant.are

pub returns-clause-within : goal.returns-clause-within
returns-clause-within c r low =
    let within = c.texts.ensures.containers r low in
    omega (arith, within, c.texts.ensures.is, c.loop-index.invariant.same)

pub returns-clause-some : goal.returns-clause-some
returns-clause-some c r low =
    c.loop-index.invariant.some r (omega (arith, low, c.len-index-end.ensures, c.loop-index-test.false))
