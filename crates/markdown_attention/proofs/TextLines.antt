-- Lines for the rows that hold a run.
use Rattle.std.proofs.Common.{◌≡◌, ℕ, ◌+◌, ◌-◌, ◌<◌, cond, eqb, List, get_or, refl, arith}
use Rattle.std.proofs.lemmas.Bool.{cases_lt, eq-eqb, ne_eqb}
use Rattle.markdown_attention.specs.OpenRuns.{AreLines}
use Rattle.markdown_attention.proofs.OpenRunLists.{Layout}

-- the line of a row; the rows that have none are thought to have the lines behind
abbrev pub line_in : List ℕ → ℕ → ℕ → ℕ
line_in table count a = cond (eqb (get_or table a 0) 0) (count + a) (get_or table a 0 - 1)

pub line-some : (table : List ℕ) (count a : ℕ) → 0 < get_or table a 0 → line_in table count a + 1 ≡ get_or table a 0
line-some table count a some = rw (ne_eqb (get_or table a 0) 0 (λ x. omega arith)) (omega arith)

line-none : (table : List ℕ) (count a : ℕ) → get_or table a 0 ≡ 0 → line_in table count a ≡ count + a
line-none table count a none = rw (eq-eqb (get_or table a 0) 0 none) refl

pub line-apart : (table : List ℕ) (count : ℕ) → AreLines table count → (a b : ℕ) → line_in table count a ≡ line_in table count b → a ≡ b
line-apart table count h a b e = grind (arith, cases_lt, line-some, line-none)

abbrev pub layout_of : (table : List ℕ) (count : ℕ) → AreLines table count → Layout
layout_of table count h = record { line = line_in table count; apart = line-apart table count h }
