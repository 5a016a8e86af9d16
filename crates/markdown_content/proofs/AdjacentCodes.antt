-- Codes that stand one after another, each at a later place.
use Rattle.std.proofs.Common.{ℕ, Bool, true, false, not, ◌≡◌, List, [], ◌∷◌, ◌++◌, filter, refl, sym, ap, subst, ◌∙◌, arith}
use Rattle.std.proofs.lemmas.Bool.{both_ways}
use Rattle.markdown_event.specs.declared.event.Point.{Point}
use Rattle.markdown_content.specs.Codes.{Code, stop_of, is_code_before, place_of}
use Rattle.markdown_content.proofs.PlaceOrder.{is_before, before-self, not_before-later, not_before-trans, before-asym, before-reach}

-- each code begins where the one before it ends
abbrev pub IsChain : Point → List Code → Type 0
IsChain p [] = Unit {0}
IsChain p (c ∷ cs) = (c.start ≡ p) × (is_before (place_of p) (place_of c.stop) ≡ true) × IsChain c.stop cs

-- the codes before a place, and those from it on
abbrev pub before_in : ℕ × ℕ → List Code → List Code
before_in at cs = filter (is_code_before at) cs

abbrev pub from_in : ℕ × ℕ → List Code → List Code
from_in at cs = filter (λ c. not (is_code_before at c)) cs

filter-pass : (f : Code → Bool) (c : Code) (cs : List Code) → f c ≡ true → filter f (c ∷ cs) ≡ c ∷ filter f cs
filter-pass f c cs h = rw h refl

filter-skip : (f : Code → Bool) (c : Code) (cs : List Code) → f c ≡ false → filter f (c ∷ cs) ≡ filter f cs
filter-skip f c cs h = rw h refl

head-before : (p : Point) (at : ℕ × ℕ) (c : Code) (b : Bool) → c.start ≡ p → is_before (place_of p) at ≡ b →
    is_code_before at c ≡ b
head-before p at c b e h = ap (λ (q : Point). is_before (place_of q) at) e ∙ h

-- from a place on, no code is before it
pub before_in-none : (p : Point) (cs : List Code) (at : ℕ × ℕ) → IsChain p cs → is_before (place_of p) at ≡ false →
    before_in at cs ≡ []
before_in-none p [] at h k = refl
before_in-none p (c ∷ cs) at h k =
    filter-skip (is_code_before at) c cs (head-before p at c false h.0 k) ∙ before_in-none c.stop cs at h.2 (not_before-later (place_of p) (place_of c.stop) at h.1 k)

pub from_in-all : (p : Point) (cs : List Code) (at : ℕ × ℕ) → IsChain p cs → is_before (place_of p) at ≡ false →
    from_in at cs ≡ cs
from_in-all p [] at h k = refl
from_in-all p (c ∷ cs) at h k =
    filter-pass (λ d. not (is_code_before at d)) c cs (ap not (head-before p at c false h.0 k)) ∙ ap (λ ds. c ∷ ds) (from_in-all c.stop cs at h.2 (not_before-later (place_of p) (place_of c.stop) at h.1 k))

-- a chain ends where it begins or later
pub stop-later : (p : Point) (front back : List Code) → IsChain p (front ++ back) →
    is_before (place_of (stop_of p front)) (place_of p) ≡ false
stop-later p [] back h = before-self (place_of p)
stop-later p (c ∷ cs) back h =
    not_before-trans (place_of (stop_of c.stop cs)) (place_of c.stop) (place_of p) (stop-later c.stop cs back h.2) (before-asym (place_of p) (place_of c.stop) h.1)

pub chain-back : (p : Point) (front back : List Code) → IsChain p (front ++ back) → IsChain (stop_of p front) back
chain-back p [] back h = h
chain-back p (c ∷ cs) back h = chain-back c.stop cs back h.2

-- the place of the first code is before the end of a row that has it
head-first : (p : Point) (c : Code) (cs back : List Code) → IsChain p (c ∷ cs ++ back) →
    is_before (place_of p) (place_of (stop_of c.stop cs)) ≡ true
head-first p c cs back h = grind (arith, stop-later, before-reach)

-- a split of a chain is the split at the place there
pub before_in-split : (p : Point) (front back : List Code) → IsChain p (front ++ back) →
    before_in (place_of (stop_of p front)) (front ++ back) ≡ front
before_in-split p [] back h = before_in-none p back (place_of p) h (before-self (place_of p))
before_in-split p (c ∷ cs) back h =
    filter-pass (is_code_before (place_of (stop_of c.stop cs))) c (cs ++ back) (head-before p (place_of (stop_of c.stop cs)) c true h.0 (head-first p c cs back h))
    ∙ ap (λ ds. c ∷ ds) (before_in-split c.stop cs back h.2)

pub from_in-split : (p : Point) (front back : List Code) → IsChain p (front ++ back) →
    from_in (place_of (stop_of p front)) (front ++ back) ≡ back
from_in-split p [] back h = from_in-all p back (place_of p) h (before-self (place_of p))
from_in-split p (c ∷ cs) back h =
    filter-skip (λ d. not (is_code_before (place_of (stop_of c.stop cs)) d)) c (cs ++ back) (ap not (head-before p (place_of (stop_of c.stop cs)) c true h.0 (head-first p c cs back h)))
    ∙ from_in-split c.stop cs back h.2

-- each place splits a chain
split-by : (p : Point) (cs : List Code) (at : ℕ × ℕ) (c : Code) → IsChain p (c ∷ cs) → (b : Bool) →
    is_before (place_of p) at ≡ b → cs ≡ before_in at cs ++ from_in at cs →
    c ∷ cs ≡ before_in at (c ∷ cs) ++ from_in at (c ∷ cs)
split-by p cs at c h true k e =
    let here : is_code_before at c ≡ true = head-before p at c true h.0 k in
    let first : before_in at (c ∷ cs) ≡ c ∷ before_in at cs = filter-pass (is_code_before at) c cs here in
    let second : from_in at (c ∷ cs) ≡ from_in at cs = filter-skip (λ d. not (is_code_before at d)) c cs (ap not here) in
    rw (first, second) (ap (λ ds. c ∷ ds) e)
split-by p cs at c h false k e =
    sym (rw (before_in-none p (c ∷ cs) at h k, from_in-all p (c ∷ cs) at h k) refl)

pub split-at : (p : Point) (cs : List Code) (at : ℕ × ℕ) → IsChain p cs → cs ≡ before_in at cs ++ from_in at cs
split-at p [] at h = refl
split-at p (c ∷ cs) at h = split-by p cs at c h (is_before (place_of p) at) refl (split-at c.stop cs at h.2)

pub head_same : (c d : Code) (cs ds : List Code) → c ∷ cs ≡ d ∷ ds → c ≡ d
head_same c d cs ds e = cc

pub tail_same : (c d : Code) (cs ds : List Code) → c ∷ cs ≡ d ∷ ds → cs ≡ ds
tail_same c d cs ds e = cc

pub cons≢nil : (c : Code) (cs : List Code) → c ∷ cs ≡ [] → ⊥
cons≢nil c cs e = cc

pub first-start : (p : Point) (front : List Code) (c : Code) (back : List Code) → IsChain p (front ++ c ∷ back) →
    c.start ≡ stop_of p front
first-start p front c back h = (chain-back p front (c ∷ back) h).0

-- no code stands across an end of another: one that begins before such a place ends there or before it
pub no_straddle : (p : Point) (front : List Code) (c : Code) (back front2 back2 : List Code) →
    IsChain p (front ++ c ∷ back) → front ++ c ∷ back ≡ front2 ++ back2 →
    is_before (place_of c.start) (place_of (stop_of p front2)) ≡ true →
    is_before (place_of (stop_of p front2)) (place_of c.stop) ≡ false
no_straddle p front c back [] back2 h e k =
    let here : c.start ≡ stop_of p front = first-start p front c back h in
    let late : is_before (place_of c.start) (place_of p) ≡ false = ap (λ (q : Point). is_before (place_of q) (place_of p)) here ∙ stop-later p front (c ∷ back) h in
    absurd (both_ways (is_before (place_of c.start) (place_of p)) late k)
no_straddle p [] c back (d ∷ front2) back2 h e k =
    let same : c ≡ d = head_same c d back (front2 ++ back2) e in
    let rest : back ≡ front2 ++ back2 = tail_same c d back (front2 ++ back2) e in
    let chain : IsChain c.stop (front2 ++ back2) = subst (λ (x : List Code). IsChain c.stop x) rest h.2 in
    let late : is_before (place_of (stop_of c.stop front2)) (place_of c.stop) ≡ false = stop-later c.stop front2 back2 chain in
    ap (λ (x : Code). is_before (place_of (stop_of x.stop front2)) (place_of c.stop)) (sym same) ∙ late
no_straddle p (b ∷ front) c back (d ∷ front2) back2 h e k =
    let same : b ≡ d = head_same b d (front ++ c ∷ back) (front2 ++ back2) e in
    let rest : front ++ c ∷ back ≡ front2 ++ back2 = tail_same b d (front ++ c ∷ back) (front2 ++ back2) e in
    let k2 : is_before (place_of c.start) (place_of (stop_of b.stop front2)) ≡ true = ap (λ (x : Code). is_before (place_of c.start) (place_of (stop_of x.stop front2))) same ∙ k in
    ap (λ (x : Code). is_before (place_of (stop_of x.stop front2)) (place_of c.stop)) (sym same) ∙ no_straddle b.stop front c back front2 back2 h.2 rest k2
