-- The lists of open runs in step with the pairs.
use Rattle.std.proofs.Common.{◌≡◌, ℕ, ◌+◌, ◌-◌, ◌<◌, ◌≤◌, Bool, true, false, List, ◌∷◌, ◌++◌, length, refl, sym, ◌∙◌, ap, subst, inl, inr, arith, []}
use Rattle.std.proofs.lemmas.Bool.{cases_eq, cases_lt, cases_Bool, and_parts, and_from, and_left, both_ways, ltb-true, lt-ltb, le-ltb, or_parts, not-true, not_from_false, or_from}
use Rattle.std.specs.Prelude.{IsTrue}
use Rattle.markdown_attention.specs.declared.attention.runs.Sequence.{Sequence}
use Rattle.markdown_attention.specs.declared.attention.pairing.Pair.{Pair}
use Rattle.markdown_content.specs.declared.configuration.ParseOptions.{ParseOptions}
use Rattle.markdown_attention.specs.PairScan.{AreRunsAfter, standing}
use Rattle.markdown_attention.specs.NumberedPairs.{row_of, Eligible, left, run_at, pairs_in, lower, after_taking, takes, is_shut, sizes_fit}
use Rattle.markdown_attention.specs.OpenRuns.{IsMarker, HaveMarkers, kind_of, key_of, Newest, list_of, is_open}
use Rattle.markdown_attention.proofs.PairScanInvariant.{in_own, in_other}
use Rattle.markdown_attention.proofs.RemainingSizes.{shut_push, taken_push, takes_opener, takes_closer, takes_other, length_taking, taking_opener, taking_closer, taking_other}

-- which line each row has: no two have one
pub record Layout : Type 0 where
  pub line : ℕ → ℕ
  pub apart : (a b : ℕ) → line a ≡ line b → a ≡ b

-- two markers have one list only if they are equal
abbrev pub ListsByMarker : List Sequence → Type 0
ListsByMarker runs =
    (i j : ℕ) → i < length runs → j < length runs → kind_of (run_at runs i).marker ≡ kind_of (run_at runs j).marker
    → (run_at runs i).marker ≡ (run_at runs j).marker

-- each marker has a list of its own
kind-decides : (m n : ℕ) → IsMarker m → IsMarker n → kind_of m ≡ kind_of n → m ≡ n
kind-decides m n (inl a) (inl b) e = a ∙ sym b
kind-decides m n (inl a) (inr (inl b)) e = absurd (let z : 0 ≡ 1 = sym (ap kind_of a) ∙ e ∙ ap kind_of b in omega arith)
kind-decides m n (inl a) (inr (inr b)) e = absurd (let z : 0 ≡ 2 = sym (ap kind_of a) ∙ e ∙ ap kind_of b in omega arith)
kind-decides m n (inr (inl a)) (inl b) e = absurd (let z : 1 ≡ 0 = sym (ap kind_of a) ∙ e ∙ ap kind_of b in omega arith)
kind-decides m n (inr (inl a)) (inr (inl b)) e = a ∙ sym b
kind-decides m n (inr (inl a)) (inr (inr b)) e =
    absurd (let z : 1 ≡ 2 = sym (ap kind_of a) ∙ e ∙ ap kind_of b in omega arith)
kind-decides m n (inr (inr a)) (inl b) e = absurd (let z : 2 ≡ 0 = sym (ap kind_of a) ∙ e ∙ ap kind_of b in omega arith)
kind-decides m n (inr (inr a)) (inr (inl b)) e =
    absurd (let z : 2 ≡ 1 = sym (ap kind_of a) ∙ e ∙ ap kind_of b in omega arith)
kind-decides m n (inr (inr a)) (inr (inr b)) e = a ∙ sym b

pub by-marker : (runs : List Sequence) → HaveMarkers runs → ListsByMarker runs
by-marker runs h i j l l' e = kind-decides (run_at runs i).marker (run_at runs j).marker (h i l) (h j l') e

abbrev pub own : List Sequence → List Pair → ℕ → List Pair
own runs pairs r = pairs_in runs (row_of (run_at runs r).text) pairs

pub record IsOpenRun (runs : List Sequence) (pairs : List Pair) (r : ℕ) : Type 0 where
  pub may_open : IsTrue (run_at runs r).may_open
  pub some_left : 0 < left runs (own runs pairs r) r
  pub unshut : is_shut (own runs pairs r) r ≡ false

pub open_parts : (runs : List Sequence) (pairs : List Pair) (r : ℕ) → is_open runs pairs r ≡ true → IsOpenRun runs pairs r
unfolding is_open
open_parts runs pairs r e = grind (arith, and_parts, ltb-true, not-true)

pub open_from : (runs : List Sequence) (pairs : List Pair) (r : ℕ) → IsOpenRun runs pairs r → is_open runs pairs r ≡ true
unfolding is_open
open_from runs pairs r o =
    and_from _ _ o.may_open (and_from _ _ (lt-ltb _ _ o.some_left) (not_from_false _ o.unshut))

pub shut_from : (runs : List Sequence) (pairs : List Pair) (r : ℕ) → (IsOpenRun runs pairs r → ⊥) →
    is_open runs pairs r ≡ false
shut_from runs pairs r n =
    elim (cases_Bool (is_open runs pairs r)) [ inl y ↦ absurd (n (open_parts runs pairs r y)) | inr f ↦ f ]

pub kinds : (m : ℕ) → kind_of m < 3
kinds m = grind (arith, cases_Bool)

pub same_container : (layout : Layout) (a b : Sequence) → key_of layout.line a ≡ key_of layout.line b → (row_of a.text) ≡ (row_of b.text)
same_container layout a b e = let k = kinds a.marker in let k' = kinds b.marker in layout.apart (row_of a.text) (row_of b.text) (omega arith)

same_kind : (layout : Layout) (a b : Sequence) → key_of layout.line a ≡ key_of layout.line b → kind_of a.marker ≡ kind_of b.marker
same_kind layout a b e = let k = kinds a.marker in let k' = kinds b.marker in omega arith

pub same_marker : (layout : Layout) (runs : List Sequence) (i j : ℕ) → ListsByMarker runs → i < length runs → j < length runs
    → key_of layout.line (run_at runs i) ≡ key_of layout.line (run_at runs j) → (run_at runs i).marker ≡ (run_at runs j).marker
same_marker layout runs i j by l l' e = by i j l l' (same_kind layout (run_at runs i) (run_at runs j) e)

pub same_key : (layout : Layout) (a b : Sequence) → (row_of a.text) ≡ (row_of b.text) → a.marker ≡ b.marker → key_of layout.line a ≡ key_of layout.line b
same_key layout a b c m = rw (c, m) refl

-- an open run of the closer's list that fits is eligible, and no other is
pub eligible_open : (layout : Layout) (options : ParseOptions) (runs : List Sequence) (pairs : List Pair) (o c : ℕ) → ListsByMarker runs → o < c → c < length runs
    → key_of layout.line (run_at runs o) ≡ key_of layout.line (run_at runs c) → is_open runs pairs o ≡ true → IsTrue (run_at runs c).may_close → 0 < left runs (own runs pairs c) c
    → sizes_fit options (run_at runs o) (run_at runs c) (left runs (own runs pairs o) o) (left runs (own runs pairs c) c) ≡ true
    → Eligible options runs (row_of (run_at runs c).text) (own runs pairs c) o c
eligible_open layout options runs pairs o c by below inside key e closes some fit = grind (arith, open_parts, same_container, same_marker)

pub record OpenFit (layout : Layout) (options : ParseOptions) (runs : List Sequence) (pairs : List Pair) (o c : ℕ) : Type 0 where
  pub key : key_of layout.line (run_at runs o) ≡ key_of layout.line (run_at runs c)
  pub is_open : is_open runs pairs o ≡ true
  pub fit : sizes_fit options (run_at runs o) (run_at runs c) (left runs (own runs pairs o) o) (left runs (own runs pairs c) c) ≡ true

pub open_eligible : (layout : Layout) (options : ParseOptions) (runs : List Sequence) (pairs : List Pair) (o c : ℕ)
    → Eligible options runs (row_of (run_at runs c).text) (own runs pairs c) o c → OpenFit layout options runs pairs o c
open_eligible layout options runs pairs o c e = grind (arith, same_key, open_from)

-- what a pair changes
module _ (runs : List Sequence) (turn : ℕ) (pairs : List Pair) (q : Pair) (at : q.closer ≡ turn) (below : q.opener < turn)
    (one : (row_of (run_at runs q.opener).text) ≡ (row_of (run_at runs turn).text)) where
  abbrev pairs' : List Pair
  pairs' = pairs ++ q ∷ []

  apart_same : (r : ℕ) → ((row_of (run_at runs r).text) ≡ (row_of (run_at runs turn).text) → ⊥) →
      own runs pairs' r ≡ own runs pairs r
  apart_same r ne =
      in_other runs (row_of (run_at runs r).text) pairs q (λ e. ne (sym e ∙ ap (λ x. (row_of (run_at runs x).text)) at))

  own_more : (r : ℕ) → (row_of (run_at runs r).text) ≡ (row_of (run_at runs turn).text) →
      own runs pairs' r ≡ own runs pairs r ++ q ∷ []
  own_more r e = in_own runs (row_of (run_at runs r).text) pairs q (ap (λ x. (row_of (run_at runs x).text)) at ∙ sym e)

  pub left_kept : (r : ℕ) → (r ≡ q.opener → ⊥) → (r ≡ turn → ⊥) →
      left runs (own runs pairs' r) r ≡ left runs (own runs pairs r) r
  left_kept r a b = grind (arith, cases_eq, apart_same, own_more, taken_push, takes_other)

  left_less : (r : ℕ) → left runs (own runs pairs' r) r ≤ left runs (own runs pairs r) r
  left_less r = grind (arith, cases_eq, apart_same, own_more, taken_push)

  -- a run that is still open was, and in the pair's container it is not past the opener
  pub still_open : (r : ℕ) → r < turn → is_open runs pairs' r ≡ true
      → (is_open runs pairs r ≡ true) × ((row_of (run_at runs r).text) ≡ (row_of (run_at runs turn).text) → r ≤ q.opener)
  still_open r l e =
      let p = open_parts runs pairs' r e in
      elim (cases_eq (row_of (run_at runs r).text) (row_of (run_at runs turn).text)) [
        | inr ne ↦ grind (arith, open_from, left_less, apart_same)
        | inl same ↦ grind (arith, or_parts, own_more, shut_push, open_from, left_less, cases_lt, both_ways, and_from, lt-ltb)
      ]

  -- an open run stays open in another container, or up to the opener while markers are left
  pub stays_open : (r : ℕ) → r < turn → is_open runs pairs r ≡ true
      → ((row_of (run_at runs r).text) ≡ (row_of (run_at runs turn).text) → r ≤ q.opener) → 0 < left runs (own runs pairs' r) r → is_open runs pairs' r ≡ true
  stays_open r l e low some = grind (arith, open_parts, cases_eq, open_from, apart_same, and_left, le-ltb, own_more, shut_push, or_from)

  lowered : (list : List Sequence) → AreRunsAfter runs list pairs → (i : ℕ) → i < length runs → (row_of (run_at runs i).text) ≡ (row_of (run_at runs turn).text)
      → takes i q ≡ q.size → lower (run_at list i) q.size ≡ standing runs pairs' i
  lowered list h i inside mine took = grind (arith, own_more, taken_push)

  pub stands_pair : (list : List Sequence) → AreRunsAfter runs list pairs → turn < length runs →
      AreRunsAfter runs (after_taking list q.opener turn q.size) pairs'
  stands_pair list h here =
      let fits : turn < length list = (let e = h.same_length in omega arith) in
      let list' : List Sequence = after_taking list q.opener turn q.size in
      record {
        same_length = length_taking list q.opener turn q.size below fits ∙ h.same_length;
        stands = λ i inside.
            elim (cases_eq i q.opener) [
              | inl e ↦
                  subst (λ x. run_at list' x ≡ standing runs pairs' x) (sym e)
                  (taking_opener list q.opener turn q.size below fits ∙ lowered list h q.opener (omega arith) one (takes_opener q))
              | inr a ↦
                  elim (cases_eq i turn) [
                    | inl e ↦
                        subst (λ x. run_at list' x ≡ standing runs pairs' x) (sym e)
                        (taking_closer list q.opener turn q.size below fits
                        ∙ lowered list h turn here refl (subst (λ x. takes x q ≡ q.size) at (takes_closer q)))
                    | inr b ↦
                        let set_left : ℕ → Sequence = λ x. record (run_at runs i) { remaining = x } in
                        taking_other list q.opener turn q.size below fits i a b ∙ h.stands i inside ∙ ap set_left (sym (left_kept i a b))
                  ]
            ];
      }

  -- the lists after a pair: its container's are cut behind the opener, and a used-up opener leaves its own
  pub newest_other : (layout : Layout) (k h : ℕ) → Newest (list_of layout.line runs) (is_open runs pairs) k turn h
      → ((r : ℕ) → r < turn → key_of layout.line (run_at runs r) ≡ k → (row_of (run_at runs r).text) ≡ (row_of (run_at runs turn).text) → ⊥)
      → Newest (list_of layout.line runs) (is_open runs pairs') k turn h
  newest_other layout k h n apart = grind (arith, shut_from, both_ways, still_open, open_from, stays_open, open_parts, apart_same)

  pub newest_cut : (layout : Layout) (k h : ℕ) → Newest (list_of layout.line runs) (is_open runs pairs) k (q.opener + 1) h
      → ((r : ℕ) → r < turn → key_of layout.line (run_at runs r) ≡ k → (row_of (run_at runs r).text) ≡ (row_of (run_at runs turn).text))
      → (h ≡ q.opener + 1 → 0 < left runs (own runs pairs' q.opener) q.opener)
      → Newest (list_of layout.line runs) (is_open runs pairs') k turn h
  newest_cut layout k h n in_it opener_left =
      record {
        none_above = λ r low high key. shut_from runs pairs' r (λ p.
            let s = still_open r high (open_from runs pairs' r p) in
            let up = s.1 (in_it r high key) in
            both_ways (is_open runs pairs r) (n.none_above r low (omega arith) key) s.0);
        within = λ some. (let w = n.within some in omega arith);
        listed = n.listed;
        is_open = λ some. grind (arith, stays_open, cases_eq, left_kept, open_parts);
      }

  pub newest_used : (layout : Layout) (k h : ℕ) → Newest (list_of layout.line runs) (is_open runs pairs) k q.opener h
      → ((r : ℕ) → r < turn → key_of layout.line (run_at runs r) ≡ k → (row_of (run_at runs r).text) ≡ (row_of (run_at runs turn).text))
      → left runs (own runs pairs' q.opener) q.opener ≡ 0
      → Newest (list_of layout.line runs) (is_open runs pairs') k turn h
  newest_used layout k h n in_it none = grind (arith, shut_from, still_open, open_from, cases_eq, both_ways, stays_open, left_kept, open_parts)

  -- the older run of an open one
  pub newest_older : (layout : Layout) (r h : ℕ) → r < turn → is_open runs pairs' r ≡ true
      → Newest (list_of layout.line runs) (is_open runs pairs) (list_of layout.line runs r) r h
      → Newest (list_of layout.line runs) (is_open runs pairs') (list_of layout.line runs r) r h
  newest_older layout r h l e n =
      record {
        none_above = λ s low high key. shut_from runs pairs' s (λ p.
            both_ways (is_open runs pairs s) (n.none_above s low high key) (still_open s (omega arith) (open_from runs pairs' s p)).0);
        within = n.within;
        listed = n.listed;
        is_open = λ some. grind (arith, still_open, same_container, cases_eq, stays_open, left_kept, open_parts, apart_same);
      }

-- a run's turn ends: it goes on top of its list if it is open
pub newest_next : (key : ℕ → ℕ) (open_at : ℕ → Bool) (q n h : ℕ) → Newest key open_at q n h → (key n ≡ q → open_at n ≡ false)
    → Newest key open_at q (n + 1) h
newest_next key open_at q n h w none = grind (arith, cases_eq)

pub newest_top : (key : ℕ → ℕ) (open_at : ℕ → Bool) (n : ℕ) → open_at n ≡ true →
    Newest key open_at (key n) (n + 1) (n + 1)
newest_top key open_at n e = grind arith
