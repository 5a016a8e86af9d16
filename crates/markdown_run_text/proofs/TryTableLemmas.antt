-- What holds of each row of a table, at each of its codes, holds of what the table says.
use Rattle.std.proofs.Common.{◌≡◌, ℕ, Bool, true, false, not, ◌==◌, List, [], ◌∷◌, ◌++◌, Option, Some, None, refl, arith}
use Rattle.std.specs.List.{list_any}
use Rattle.std.proofs.lemmas.Bool.{eqb-true, or_from, or_parts, or_right}
use Rattle.std.proofs.lemmas.Bool.Decides.{nat_tests}
use Rattle.std.proofs.lemmas.List.Folds.{list_any-append}
use Rattle.markdown_run_text.specs.TryTable.{TriesTable, codes_in, said_at}

-- it holds of each of these
abbrev pub EachOf : (ℕ → Type 0) → List ℕ → Type 0
EachOf P [] = Unit {0}
EachOf P (n ∷ ns) = P n × EachOf P ns

-- then it holds of one that is among them
pub one-of : (P : ℕ → Type 0) (ns : List ℕ) (v : ℕ) → EachOf P ns → list_any (λ n. v == n) ns ≡ true → P v
one-of P [] v h e = cc
one-of P (n ∷ ns) v h e = grind (arith, eqb-true, one-of P ns v)

-- what holds of each implies what it implies
pub each-weaker : (P Q : ℕ → Type 0) → ((v : ℕ) → P v → Q v) → (ns : List ℕ) → EachOf P ns → EachOf Q ns
each-weaker P Q h [] k = tt
each-weaker P Q h (n ∷ ns) k = (h n k.0, each-weaker P Q h ns k.1)

-- and it holds of each, if it holds of what is among them
pub each-among : (P : ℕ → Type 0) (ns : List ℕ) → ((v : ℕ) → list_any (λ n. v == n) ns ≡ true → P v) → EachOf P ns
each-among P [] h = tt
each-among P (n ∷ ns) h = grind (arith, or_right, nat_tests, each-among P ns)

-- a test that none of these passes
pub none-passes : (p : ℕ → Bool) (ns : List ℕ) → list_any p ns ≡ false → (v : ℕ) → list_any (λ n. v == n) ns ≡ true →
    p v ≡ false
none-passes p ns h v e = one-of (λ n. p n ≡ false) ns v (each ns h) e
  where
    each : (ms : List ℕ) → list_any p ms ≡ false → EachOf (λ n. p n ≡ false) ms
    each [] k = tt
    each (m ∷ ms) k = let r = or_parts (p m) (list_any p ms) k in (r.0, each ms r.1)

-- a code that is none of these is none of those that are all among them
pub none-within : (ns known : List ℕ) → list_any (λ n. not (list_any (λ m. n == m) known)) ns ≡ false → (v : ℕ) →
    list_any (λ n. v == n) known ≡ false → list_any (λ n. v == n) ns ≡ false
none-within ns known within v e = grind (arith, none-passes)

-- a code that is not among these is none of them
pub none-of : (ns : List ℕ) (v n : ℕ) → list_any (λ m. v == m) ns ≡ false → list_any (λ m. n == m) ns ≡ true →
    (v == n) ≡ false
none-of ns v n e k = grind (arith, eqb-true)

-- a code that is not among the codes of a table is among those of no row
pub not-in-row : {A : Type 0} (row : List ℕ × A) (rows : TriesTable A) (v : ℕ) →
    list_any (λ n. v == n) (codes_in (row ∷ rows)) ≡ false →
    (list_any (λ n. v == n) row.0 ≡ false) × (list_any (λ n. v == n) (codes_in rows) ≡ false)
not-in-row row rows v e = grind (arith, or_parts, list_any-append)

module _ {A : Type 0} (P : ℕ → Option A → Type 0) where
  abbrev pub EachRowPasses : TriesTable A → Type 0
  EachRowPasses [] = Unit {0}
  EachRowPasses (row ∷ rows) = EachOf (λ v. P v (Some row.1)) row.0 × EachRowPasses rows

  pub by-row : (rows : TriesTable A) (v : ℕ) → EachRowPasses rows → (list_any (λ n. v == n) (codes_in rows) ≡ false → P v None) →
      P v (said_at rows v)
  by-row [] v each none = none refl
  by-row (row ∷ rows) v each none = grind (arith, list_any-append, or_from, one-of, by-row rows v)

  pub rows-append : (front back : TriesTable A) → EachRowPasses front → EachRowPasses back → EachRowPasses (front ++ back)
  rows-append [] back h k = k
  rows-append (row ∷ front) back h k = (h.0, rows-append front back h.1 k)
