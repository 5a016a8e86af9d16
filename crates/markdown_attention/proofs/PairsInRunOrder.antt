-- The pairs of a container in the order of its runs: which are open before a run, which it closes and opens.
use Rattle.std.proofs.Common.{◌≡◌, ℕ, suc, ◌+◌, ◌<◌, ◌≤◌, Bool, true, false, ◌&&◌, ◌||◌, ◌==◌, nat_lt, nat_le, if◌then◌else◌, List, ◌∷◌, ◌++◌, length, refl, sym, ap, ◌∙◌, arith, ◌⊎◌, sum_by, []}
use Rattle.markdown_model.proofs.PairListFacts.{within_push}
use Rattle.markdown_event.proofs.AndParts.{and-left, and-right}
use Rattle.std.proofs.lemmas.List.Sums.{sum_by-cons}
use Rattle.std.proofs.lemmas.Bool.{cases_lt, ltb-true, eqb-true, false_from_ne_true, both_ways, and_right, and_left, and_from, ne_eqb, eq-eqb, lt-leb, le-leb, le-ltb, lt-ltb}
use Rattle.std.specs.List.{list_any}
use Rattle.markdown_model.specs.Setting.{Setting}
use Rattle.markdown_model.specs.Runs.{Run, marker_of}
use Rattle.markdown_model.specs.Pairs.{Pair, run_at, taken_by, is_strictly_within, ArePairsFrom, IsPairList}
use Rattle.markdown_model.specs.BracketGroups.{closing_sizes, opening_sizes}
use Rattle.markdown_attention.specs.RunEvents.{total, AreSome}

-- Tests of numbers.

-- f holds where g or h does, and these two not both
abbrev pub Sorts : Bool → Bool → Bool → Type 0
Sorts f g h =
    ((f ≡ true) × ((g ≡ true) × (h ≡ false))) ⊎ (((f ≡ true) × ((g ≡ false) × (h ≡ true))) ⊎ ((f ≡ false) × ((g ≡ false) × (h ≡ false))))

-- Pairs by the runs between theirs.

abbrev pub spans : ℕ → Pair → Bool
spans n p = nat_lt p.opener n && nat_le n p.closer

abbrev pub closes_at : ℕ → Pair → Bool
closes_at n p = p.closer == n

abbrev pub opens_at : ℕ → Pair → Bool
opens_at n p = p.opener == n

abbrev pub passes : ℕ → Pair → Bool
passes n p = nat_lt p.opener n && nat_lt n p.closer

sort-before : (o c n : ℕ) → o < c → Sorts (nat_lt o n && nat_le n c) (c == n) (nat_lt o n && nat_lt n c)
sort-before o c n l = grind (arith, cases_lt, and_from, lt-ltb, le-leb, ne_eqb, and_right, lt-leb, le-ltb, eq-eqb, and_left)

sort-after : (o c n : ℕ) → o < c → Sorts (nat_lt o (suc n) && nat_le (suc n) c) (o == n) (nat_lt o n && nat_lt n c)
sort-after o c n l = grind (arith, cases_lt, and_from, lt-ltb, le-leb, ne_eqb, and_right, lt-leb, le-ltb, and_left, eq-eqb)

abbrev pub with_marker : ℕ → List ℕ → List (ℕ × ℕ)
with_marker m [] = []
with_marker m (k ∷ ks) = (m, k) ∷ with_marker m ks

module _ (R : List Run) where
  pub record IsPlacedPair (p : Pair) : Type 0 where
    pub some : 0 < p.size
    pub order : p.opener < p.closer
    pub within : p.closer < length R
    pub marker : marker_of (run_at R p.opener).codes ≡ marker_of (run_at R p.closer).codes

  -- of a pair and a later one
  abbrev pub IsLaterPair : Pair → Pair → Type 0
  IsLaterPair p q = (p.closer ≤ q.closer) × (is_strictly_within q.opener p ≡ false)

  abbrev pub AllLater : Pair → List Pair → Type 0
  AllLater p [] = Unit {0}
  AllLater p (q ∷ qs) = IsLaterPair p q × AllLater p qs

  abbrev pub AreRanked : List Pair → Type 0
  AreRanked [] = Unit {0}
  AreRanked (p ∷ ps) = IsPlacedPair p × (AllLater p ps × AreRanked ps)

  -- what a pair's brackets are known by
  abbrev pub key : Pair → ℕ × ℕ
  key p = (marker_of (run_at R p.opener).codes, p.size)

  abbrev pub keys_where : (Pair → Bool) → List Pair → List (ℕ × ℕ)
  keys_where f [] = []
  keys_where f (p ∷ ps) = elim (f p) [ true ↦ key p ∷ keys_where f ps | false ↦ keys_where f ps ]

  keys-by : (b : Bool) (f : Pair → Bool) (p : Pair) (ps : List Pair) → f p ≡ b →
      keys_where f (p ∷ ps) ≡ elim b [ true ↦ key p ∷ keys_where f ps | false ↦ keys_where f ps ]
  keys-by b f p ps e =
      ap (λ (x : Bool). elim x as (λ y. List (ℕ × ℕ)) [ true ↦ key p ∷ keys_where f ps | false ↦ keys_where f ps ]) e

  keys-yes : (f : Pair → Bool) (p : Pair) (ps : List Pair) → f p ≡ true →
      keys_where f (p ∷ ps) ≡ key p ∷ keys_where f ps
  keys-yes f p ps e = keys-by true f p ps e

  keys-no : (f : Pair → Bool) (p : Pair) (ps : List Pair) → f p ≡ false → keys_where f (p ∷ ps) ≡ keys_where f ps
  keys-no f p ps e = keys-by false f p ps e

  none-where : (f : Pair → Bool) (ps : List Pair) → AreRanked ps → ((q : Pair) → IsPlacedPair q → f q ≡ false) →
      keys_where f ps ≡ []
  none-where f [] r h = refl
  none-where f (q ∷ qs) r h = keys-no f q qs (h q r.0) ∙ none-where f qs r.1.1 h

  none-later : (g : Pair → Bool) (p : Pair) (ps : List Pair) → AllLater p ps →
      ((q : Pair) → IsLaterPair p q → g q ≡ true → ⊥) → keys_where g ps ≡ []
  none-later g p [] a h = refl
  none-later g p (q ∷ qs) a h = keys-no g q qs (false_from_ne_true (g q) (h q a.0)) ∙ none-later g p qs a.1 h

  split-keys : (f g h : Pair → Bool) (ps : List Pair) → ((p : Pair) → IsPlacedPair p → Sorts (f p) (g p) (h p)) →
      ((p q : Pair) → IsLaterPair p q → h p ≡ true → g q ≡ true → ⊥) → AreRanked ps →
      keys_where f ps ≡ keys_where g ps ++ keys_where h ps
  split-keys f g h [] sorts apart r = refl
  split-keys f g h (p ∷ ps) sorts apart r = grind (arith, split-keys f g h ps sorts apart r.1.1, keys-yes, keys-no, none-later)

  -- before a run: those that it closes, and those around it
  pub before-run : (n : ℕ) (ps : List Pair) → AreRanked ps →
      keys_where (spans n) ps ≡ keys_where (closes_at n) ps ++ keys_where (passes n) ps
  before-run n ps r = grind (arith, split-keys, sort-before, ltb-true, and-right, eqb-true)

  -- after it: those that it opens, and those around it
  pub after-run : (n : ℕ) (ps : List Pair) → AreRanked ps →
      keys_where (spans (suc n)) ps ≡ keys_where (opens_at n) ps ++ keys_where (passes n) ps
  after-run n ps r = grind (arith, split-keys, sort-after, eqb-true, ltb-true, and-left, and-right, both_ways, and_from, lt-ltb)

  -- none is open at the start, nor at the end
  pub none-first : (ps : List Pair) → AreRanked ps → keys_where (spans 0) ps ≡ []
  none-first ps r = none-where (spans 0) ps r (λ q h. and_left _ _ (le-ltb q.opener 0 (omega arith)))

  pub none-last : (n : ℕ) (ps : List Pair) → length R ≤ n → AreRanked ps → keys_where (spans n) ps ≡ []
  none-last n ps l r =
      none-where (spans n) ps r (λ q h. let w = h.within in and_right _ _ (lt-leb n q.closer (omega (arith, w, l))))

  -- Sizes.

  pub closed-keys : (n : ℕ) (ps : List Pair) → AreRanked ps →
      keys_where (closes_at n) ps ≡ with_marker (marker_of (run_at R n).codes) (closing_sizes n ps)
  closed-keys n [] r = refl
  closed-keys n (p ∷ ps) r = grind (arith, closed-keys n ps r.1.1, eqb-true, keys-yes, keys-no)

  pub opened-keys : (n : ℕ) (ps : List Pair) → AreRanked ps →
      keys_where (opens_at n) ps ≡ with_marker (marker_of (run_at R n).codes) (opening_sizes n ps)
  opened-keys n [] r = refl
  opened-keys n (p ∷ ps) r = grind (arith, opened-keys n ps r.1.1, eqb-true, keys-yes, keys-no)

  pub closing-some : (n : ℕ) (ps : List Pair) → AreRanked ps → AreSome (closing_sizes n ps)
  closing-some n [] r = tt
  closing-some n (p ∷ ps) r = grind (arith, closing-some n ps r.1.1)

  pub opening-some : (n : ℕ) (ps : List Pair) → AreRanked ps → AreSome (opening_sizes n ps)
  opening-some n [] r = tt
  opening-some n (p ∷ ps) r = grind (arith, opening-some n ps r.1.1)

  pub total-taken : (n : ℕ) (ps : List Pair) → AreRanked ps →
      total (closing_sizes n ps) + total (opening_sizes n ps) ≡ sum_by (taken_by n) ps
  total-taken n [] r = refl
  total-taken n (p ∷ ps) r =
      by-test (p.opener == n) (p.closer == n) (λ e f. let a = eqb-true p.opener n e in let b = eqb-true p.closer n f in let l = r.0.order in omega (arith, a, b, l)) (total-taken n ps r.1.1)
      ∙ sym (sum_by-cons (taken_by n) p ps)
    where
      by-test : (o c : Bool) → (o ≡ true → c ≡ true → ⊥) → total (closing_sizes n ps) + total (opening_sizes n ps) ≡ sum_by (taken_by n) ps
          → total (elim c as (λ y. List ℕ) [ true ↦ p.size ∷ closing_sizes n ps | false ↦ closing_sizes n ps ]) + total (elim o as (λ y. List ℕ) [ true ↦ p.size ∷ opening_sizes n ps | false ↦ opening_sizes n ps ])
          ≡ (if o || c then p.size else 0) + sum_by (taken_by n) ps
      by-test true true h k = absurd (h refl refl)
      by-test true false h k = omega (arith, k)
      by-test false true h k = omega (arith, k)
      by-test false false h k = omega (arith, k)

-- A pair list is ranked.

module _ (s : Setting) (R : List Run) where
  all-later : (p : Pair) (end : ℕ) (earlier : List Pair) (last : ℕ) (ps : List Pair) →
      ((i : ℕ) → list_any (is_strictly_within i) earlier ≡ false → is_strictly_within i p ≡ false) → p.closer ≤ last →
      ArePairsFrom s R end earlier last ps → AllLater R p ps
  all-later p end earlier last [] h l a = tt
  all-later p end earlier last (q ∷ qs) h l a =
      let f = a.0.forward in
      ((omega (arith, f, l), h q.opener a.0.eligible.not_within), all-later p end (earlier ++ q ∷ []) q.closer qs (λ i e. h i (within_push earlier q i e).0) (omega (arith, f, l)) a.1)

  ranked-from : (end : ℕ) (earlier : List Pair) (last : ℕ) (ps : List Pair) → ArePairsFrom s R end earlier last ps →
      AreRanked R ps
  ranked-from end earlier last [] a = tt
  ranked-from end earlier last (p ∷ ps) a = grind (arith, all-later, within_push, ranked-from end (earlier ++ p ∷ []) p.closer ps a.1)

  pub ranked : (ps : List Pair) → IsPairList s R ps → AreRanked R ps
  ranked ps h = ranked-from (length R) [] 0 ps h
