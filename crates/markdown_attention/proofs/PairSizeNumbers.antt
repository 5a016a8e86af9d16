-- What pairs take of a run, by its number in all and in its container.
use Rattle.std.proofs.Common.{◌≡◌, ℕ, ◌+◌, ◌<◌, ◌==◌, ◌||◌, Bool, true, false, if◌then◌else◌, cond, List, ◌∷◌, length, map, refl, ap, ◌∙◌, arith, inl, inr, sum_by, []}
use Rattle.std.proofs.lemmas.Bool.{cases_lt, eqb-true, both_ways, cases_Bool, ne_eqb, eq-eqb}
use Rattle.std.proofs.lemmas.List.Sums.{sum_by-cons}
use Rattle.markdown_model.specs.BracketGroups.{closing_sizes, opening_sizes}
use Rattle.markdown_model.specs.Pairs as Model
use Rattle.markdown_attention.specs.RunContainers.{is_in, place_in, placed, ArePairsWithin}
use Rattle.markdown_attention.specs.NumberedPairs.{row_of, run_at, takes, taken, pairs_in}
use Rattle.markdown_attention.specs.declared.attention.pairing.Pair.{Pair}
use Rattle.markdown_attention.specs.declared.attention.runs.Sequence.{Sequence}
use Rattle.markdown_attention.proofs.RunNumbers.{place-order}
use Rattle.markdown_attention.specs.RunEdits.{closed_sizes, opened_sizes}
use Rattle.markdown_attention.specs.RunEvents.{total}

closing-yes : (i : ℕ) (q : Model.Pair) (qs : List Model.Pair) → (q.closer == i) ≡ true →
    closing_sizes i (q ∷ qs) ≡ q.size ∷ closing_sizes i qs
closing-yes i q qs e =
    ap (λ (x : Bool). elim x as (λ y. List ℕ) [ true ↦ q.size ∷ closing_sizes i qs | false ↦ closing_sizes i qs ]) e

closing-no : (i : ℕ) (q : Model.Pair) (qs : List Model.Pair) → (q.closer == i) ≡ false →
    closing_sizes i (q ∷ qs) ≡ closing_sizes i qs
closing-no i q qs e =
    ap (λ (x : Bool). elim x as (λ y. List ℕ) [ true ↦ q.size ∷ closing_sizes i qs | false ↦ closing_sizes i qs ]) e

opening-yes : (i : ℕ) (q : Model.Pair) (qs : List Model.Pair) → (q.opener == i) ≡ true →
    opening_sizes i (q ∷ qs) ≡ q.size ∷ opening_sizes i qs
opening-yes i q qs e =
    ap (λ (x : Bool). elim x as (λ y. List ℕ) [ true ↦ q.size ∷ opening_sizes i qs | false ↦ opening_sizes i qs ]) e

opening-no : (i : ℕ) (q : Model.Pair) (qs : List Model.Pair) → (q.opener == i) ≡ false →
    opening_sizes i (q ∷ qs) ≡ opening_sizes i qs
opening-no i q qs e =
    ap (λ (x : Bool). elim x as (λ y. List ℕ) [ true ↦ q.size ∷ opening_sizes i qs | false ↦ opening_sizes i qs ]) e

closed-by : (g : ℕ) (p : Pair) (ps : List Pair) (b : Bool) → (p.closer == g) ≡ b →
    closed_sizes g (p ∷ ps) ≡ (if b then p.size ∷ closed_sizes g ps else closed_sizes g ps)
closed-by g p ps b e = ap (λ (x : Bool). if x then p.size ∷ closed_sizes g ps else closed_sizes g ps) e

opened-by : (g : ℕ) (p : Pair) (ps : List Pair) (b : Bool) → (p.opener == g) ≡ b →
    opened_sizes g (p ∷ ps) ≡ (if b then p.size ∷ opened_sizes g ps else opened_sizes g ps)
opened-by g p ps b e = ap (λ (x : Bool). if x then p.size ∷ opened_sizes g ps else opened_sizes g ps) e

module _ (k : ℕ) (list : List Sequence) (g : ℕ) (within : g < length list) (inside : is_in k (run_at list g) ≡ true) where
  abbrev in_row : Pair → Bool
  in_row p = row_of (run_at list p.closer).text == k

  abbrev local : List Pair → List Model.Pair
  local ps = map (placed k list) (pairs_in list k ps)

  local-yes : (p : Pair) (ps : List Pair) → in_row p ≡ true → local (p ∷ ps) ≡ placed k list p ∷ local ps
  local-yes p ps e = ap (λ (b : Bool). map (placed k list) (cond b (p ∷ pairs_in list k ps) (pairs_in list k ps))) e

  local-no : (p : Pair) (ps : List Pair) → in_row p ≡ false → local (p ∷ ps) ≡ local ps
  local-no p ps e = ap (λ (b : Bool). map (placed k list) (cond b (p ∷ pairs_in list k ps) (pairs_in list k ps))) e

  apart : (j : ℕ) → j < length list → is_in k (run_at list j) ≡ true → (j ≡ g → ⊥) →
      (place_in k list j == place_in k list g) ≡ false
  apart j l e ne = grind (arith, ne_eqb, cases_lt, place-order)

  pub closing-local : (ps : List Pair) → ArePairsWithin list ps →
      closing_sizes (place_in k list g) (local ps) ≡ closed_sizes g ps
  closing-local [] w = refl
  closing-local (p ∷ ps) w =
      let i : ℕ = place_in k list g in
      let ih : closing_sizes i (local ps) ≡ closed_sizes g ps = closing-local ps w.1 in
      let wp = w.0.within in
      elim (cases_Bool (p.closer == g)) [
        | inl hit ↦ grind (arith, eqb-true, local-yes, closing-yes, eq-eqb, closed-by)
        | inr miss ↦ grind (arith, cases_Bool, local-yes, closing-no, apart, both_ways, eq-eqb, closed-by, local-no)
      ]

  pub opening-local : (ps : List Pair) → ArePairsWithin list ps →
      opening_sizes (place_in k list g) (local ps) ≡ opened_sizes g ps
  opening-local [] w = refl
  opening-local (p ∷ ps) w =
      let i : ℕ = place_in k list g in
      let ih : opening_sizes i (local ps) ≡ opened_sizes g ps = opening-local ps w.1 in
      let wp = w.0.within in
      let wo = w.0.order in
      let within_opener : p.opener < length list = omega (arith, wp, wo) in
      elim (cases_Bool (p.opener == g)) [
        | inl hit ↦ grind (arith, eqb-true, local-yes, opening-yes, eq-eqb, opened-by)
        | inr miss ↦ grind (arith, cases_Bool, local-yes, opening-no, apart, both_ways, eq-eqb, opened-by, local-no)
      ]

  takes-by : (p : Pair) (o c : Bool) → (p.opener == g) ≡ o → (p.closer == g) ≡ c →
      takes g p ≡ (if o || c then p.size else 0)
  takes-by p o c e f = λ i. if e i || f i then p.size else 0

  sum-local : (ps : List Pair) → ArePairsWithin list ps →
      sum_by (takes g) (pairs_in list k ps) ≡ total (closed_sizes g ps) + total (opened_sizes g ps)
  sum-local [] w = refl
  sum-local (p ∷ ps) w =
      let ih = sum-local ps w.1 in
      let in-yes : in_row p ≡ true → sum_by (takes g) (pairs_in list k (p ∷ ps)) ≡ takes g p + sum_by (takes g) (pairs_in list k ps) =
      λ e. ap (λ (b : Bool). sum_by (takes g) (cond b (p ∷ pairs_in list k ps) (pairs_in list k ps))) e ∙ sum_by-cons (takes g) p (pairs_in list k ps) in
      let in-no : in_row p ≡ false → sum_by (takes g) (pairs_in list k (p ∷ ps)) ≡ sum_by (takes g) (pairs_in list k ps) =
      λ e. ap (λ (b : Bool). sum_by (takes g) (cond b (p ∷ pairs_in list k ps) (pairs_in list k ps))) e in
      let wo = w.0.order in
      elim (cases_Bool (p.closer == g)) [
        | inl hit ↦ grind (arith, eqb-true, ne_eqb, takes-by, closed-by, opened-by)
        | inr miss ↦ grind (arith, cases_Bool, eqb-true, takes-by, closed-by, opened-by)
      ]

  pub taken-local : (ps : List Pair) → ArePairsWithin list ps →
      taken (pairs_in list k ps) g ≡ total (closed_sizes g ps) + total (opened_sizes g ps)
  unfolding taken
  taken-local ps w = sum-local ps w
