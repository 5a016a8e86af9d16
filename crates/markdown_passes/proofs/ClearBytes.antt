-- Bytes among which no `@` stands, and what they tell of a stretch.
use Rattle.std.proofs.Common.{◌≡◌, ℕ, ◌+◌, ◌-◌, ◌<◌, ◌≤◌, nat_lt, true, false, List, length, get_or, refl, sym, ap, ◌∙◌, arith, inl, inr}
use Rattle.std.specs.List.{slice_range}
use Rattle.std.proofs.lemmas.Bool.{cases_lt, eq-eqb, eqb-true}
use Rattle.std.proofs.lemmas.Bool.Decides.{nat_tests}
use Rattle.memchr.specs.Find.{NoneBefore, Nowhere, Passes, is_byte}
use Rattle.markdown_event.specs.declared.event.Point.{Point}
use Rattle.markdown_passes.specs.TrimmedData.{between, IsStretch}
use Rattle.markdown_passes.specs.EmailScan.{has_sign}
use Rattle.markdown_passes.proofs.AtSignSearch.{NoSign, in-slice, sign-at, sign-not, slice-length}

-- a byte of a slice that is an `@`
abbrev IsSign : List ℕ → ℕ → ℕ → ℕ → Type 0
IsSign bytes a b k = Passes (is_byte 64) (slice_range bytes a b) k

-- where none is found up to a place of the slice
pub found-none : (bytes : List ℕ) (a b k : ℕ) → a ≤ b → b ≤ length bytes → k ≤ b - a → Nowhere (IsSign bytes a b) 0 k → NoSign bytes a (a + k)
found-none bytes a b k order within few none i low high e =
    let at : a + (i - a) ≡ i = omega (arith, low) in
    none (i - a) (omega arith) (omega (arith, low, high)) (eq-eqb _ 64 (in-slice bytes a b (i - a) within (omega (arith, low, high, few, order)) ∙ ap (λ j. get_or bytes j 0) at ∙ e))

-- where the first is found
pub found-first : (bytes : List ℕ) (a b k : ℕ) → a ≤ b → b ≤ length bytes → NoneBefore (IsSign bytes a b) 0 (length (slice_range bytes a b)) k →
    NoSign bytes a (a + k)
found-first bytes a b k order within first =
    let len : length (slice_range bytes a b) ≡ b - a = slice-length bytes a b order within in
    let high : k < length (slice_range bytes a b) = first.high in
    found-none bytes a b k order within (omega (arith, high, len)) first.before

-- what is found there
pub found-sign : (bytes : List ℕ) (a b k : ℕ) → a ≤ b → b ≤ length bytes → k < length (slice_range bytes a b) → IsSign bytes a b k →
    get_or bytes (a + k) 0 ≡ 64
found-sign bytes a b k order within high sign =
    let len : length (slice_range bytes a b) ≡ b - a = slice-length bytes a b order within in
    sym (in-slice bytes a b k within (omega (arith, len, high))) ∙ eqb-true _ 64 sign

-- where none is found in all of it
pub found-nowhere : (bytes : List ℕ) (a b : ℕ) → a ≤ b → b ≤ length bytes → Nowhere (IsSign bytes a b) 0 (length (slice_range bytes a b)) → NoSign bytes a b
found-nowhere bytes a b order within none i low high =
    let len : length (slice_range bytes a b) ≡ b - a = slice-length bytes a b order within in
    found-none bytes a b (b - a) order within (omega arith) (λ k l h. none k l (omega (arith, h, len))) i low (omega (arith, order, high))

-- A stretch.

pub clear-stretch : (bytes : List ℕ) (p q : Point) (from to : ℕ) → IsStretch bytes p q → NoSign bytes from to → from ≤ p.index → q.index ≤ to →
    has_sign bytes p q ≡ false
clear-stretch bytes p q from to s none low high =
    sign-not bytes (between bytes p q) p q s refl (λ i l h. none i (omega (arith, l, low)) (omega (arith, h, high)))

less-true : (a b : ℕ) → a < b → nat_lt a b ≡ true
less-true a b l = grind (arith, nat_tests)

less-false : (a b : ℕ) → b ≤ a → nat_lt a b ≡ false
less-false a b l = grind (arith, nat_tests)

-- by the first `@` from its start on, or the end of a search past it
pub sign-by : (bytes : List ℕ) (p q : Point) (to end : ℕ) → IsStretch bytes p q → NoSign bytes p.index to → p.index ≤ to → q.index ≤ end →
    (to < end → get_or bytes to 0 ≡ 64) → nat_lt to q.index ≡ has_sign bytes p q
sign-by bytes p q to end s none low past sign =
    elim (cases_lt to q.index) [
      | inl l ↦ less-true to q.index l ∙ sym (sign-at bytes to (between bytes p q) p q s refl low l (sign (omega (arith, l, past))))
      | inr l ↦ less-false to q.index l ∙ sym (clear-stretch bytes p q p.index to s none (omega arith) l)
    ]
