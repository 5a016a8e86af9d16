-- the edits of neighbouring data, one by one
use Rattle.std.proofs.Common.{◌≡◌, ◌≢◌, ℕ, zero, suc, ◌+◌, ◌-◌, ◌<◌, ◌≤◌, ◌&&◌, ◌||◌, not, nat_lt, nat_le, Bool, true, false, List, [], ◌∷◌, ◌++◌, length, drop, get_or, refl, sym, ap, ◌∙◌, arith, append_assoc, append-nil, length-drop, inl, inr}
use Rattle.std.proofs.Math.Bool.{or-false, and-false}
use Rattle.std.proofs.lemmas.Bool.{both_ways, cases_lt, eq-eqb, le-leb, ne_eqb}
use Rattle.std.proofs.lemmas.List.{drop_more}
use Rattle.std.proofs.lemmas.List.Elements.{All-nil, All-cons}
use Rattle.std.proofs.lemmas.Bool.Decides.{nat_tests}
use Rattle.markdown_engine_events.specs.Edits.{removed_at, removed_by, is_removed, CanEdit}
use Rattle.markdown_engine_events.specs.EventChains.{has_link, linked_at}
use Rattle.markdown_content.specs.ListFunctions.{rest_of}
use Rattle.std.specs.List.{All}
use Rattle.markdown_event.specs.declared.event.Event.{Event}
use Rattle.markdown_engine_events.specs.declared.util.edit_map.Edit.{Edit}
use Rattle.markdown_passes.specs.MergedEvents.{is_enter, is_data, opens_data, closes_data, opening, closing, joint, ends_joint, joints, marked, removal}
use Rattle.markdown_content.proofs.PlaceRules.{drop-more}
use Rattle.markdown_passes.proofs.DataSearch.{BeginsNone, event-at}

joint-three : (es : List Event) (i j k : ℕ) (a b c : Event) → j ≡ i + 1 → k ≡ i + 2 → k < length es →
    a ≡ get_or es i a → b ≡ get_or es j b → c ≡ get_or es k c →
    joint (drop i es) ≡ opens_data a && (closes_data b && opens_data c)
joint-three es i j k a b c p q l e f g =
    let first : drop i es ≡ a ∷ drop j es = drop_more es i a (omega arith) ∙ ap (λ x. x ∷ drop (i + 1) es) (sym e) ∙ ap (λ n. a ∷ drop n es) (sym p) in
    let second : drop j es ≡ b ∷ drop k es = drop_more es j b (omega arith) ∙ ap (λ x. x ∷ drop (j + 1) es) (sym f) ∙ ap (λ n. b ∷ drop n es) (omega arith) in
    let third : drop k es ≡ c ∷ drop (k + 1) es = drop_more es k c l ∙ ap (λ x. x ∷ drop (k + 1) es) (sym g) in
    ap joint first ∙ ap (λ xs. opens_data a && closing xs) second ∙ ap (λ xs. opens_data a && (closes_data b && opening xs)) third

and-three : (a b c : Bool) → (a && b) && c ≡ a && (b && c)
and-three true b c = refl
and-three false b c = refl

-- whether three events are a joint
pub joint-found : (es : List Event) (i j k : ℕ) (a b c : Event) (x y z : Bool) → j ≡ i + 1 → k ≡ i + 2 → k < length es →
    a ≡ get_or es i a → b ≡ get_or es j b → c ≡ get_or es k c → x ≡ opens_data a → y ≡ closes_data b →
    z ≡ opens_data c → (x && y) && z ≡ joint (drop i es)
joint-found es i j k a b c x y z p q l e f g u v w =
    and-three x y z ∙ ap (λ t. t && (y && z)) u ∙ ap (λ t. opens_data a && (t && z)) v ∙ ap (λ t. opens_data a && (closes_data b && t)) w ∙ sym (joint-three es i j k a b c p q l e f g)

-- events whose third is no data's Enter are none

third-none : (a b : Bool) → false ≡ a && (b && false)
third-none true true = refl
third-none true false = refl
third-none false b = refl

pub joint-none : (es : List Event) (i k : ℕ) (c : Event) → k ≡ i + 2 → k < length es → c ≡ get_or es k c →
    opens_data c ≡ false → false ≡ joint (drop i es)
joint-none es i k c p l g h =
    let next : i + 1 + 1 ≡ k = omega (arith, p) in
    let third : opening (drop k es) ≡ false = ap opening (drop_more es k c l) ∙ ap opens_data (sym g) ∙ h in
    let second : drop (i + 1) es ≡ get_or es (i + 1) c ∷ drop k es = drop_more es (i + 1) c (omega (arith, p, l)) ∙ ap (λ n. get_or es (i + 1) c ∷ drop n es) next in
    third-none (opens_data (get_or es i c)) (closes_data (get_or es (i + 1) c))
    ∙ ap (λ t. opens_data (get_or es i c) && (closes_data (get_or es (i + 1) c) && t)) (sym third)
    ∙ ap (λ xs. opens_data (get_or es i c) && closing xs) (sym second)
    ∙ ap joint (sym (drop_more es i c (omega (arith, p, l))))

and-last : (t z : Bool) → z ≡ true → t ≡ t && z
and-last true z h = sym h
and-last false z h = refl

-- and others are one by the first two
pub joint-two : (es : List Event) (i j k : ℕ) (a b c : Event) (x y z : Bool) → j ≡ i + 1 → k ≡ i + 2 → k < length es →
    a ≡ get_or es i a → b ≡ get_or es j b → c ≡ get_or es k c → x ≡ opens_data a → y ≡ closes_data b →
    z ≡ opens_data c → z ≡ true → x && y ≡ joint (drop i es)
joint-two es i j k a b c x y z p q l e f g u v w h =
    and-last (x && y) z h ∙ joint-found es i j k a b c x y z p q l e f g u v w

-- too few events for a joint

two-short : (a b : Bool) → a && (b && false) ≡ false
two-short true true = refl
two-short true false = refl
two-short false b = refl

none-marked : (n : ℕ) (b : Bool) (log : List Edit) → b ≡ false → log ≡ [] → marked b n ++ log ≡ []
none-marked n true log e f = cc
none-marked n false log e f = f

few : (n : ℕ) (es : List Event) → length es ≤ 2 → joints n es ≡ []
few n [] l = refl
few n (a ∷ []) l = none-marked (n + 1) (joint (a ∷ [])) [] (and-false (opens_data a)) refl
few n (a ∷ b ∷ []) l =
    none-marked (n + 1) (joint (a ∷ b ∷ [])) (joints (suc n) (b ∷ [])) (two-short (opens_data a) (closes_data b)) (few (suc n) (b ∷ []) (omega arith))
few n (a ∷ b ∷ c ∷ es) l = absurd (omega arith)

joints-end : (i : ℕ) (es : List Event) → length es ≤ i → joints (i - 2) (drop (i - 2) es) ≡ []
joints-end i es l = few (i - 2) (drop (i - 2) es) (omega (arith, length-drop (i - 2) es))

joints-next : (i : ℕ) (es : List Event) → 2 ≤ i → i < length es →
    joints (i - 2) (drop (i - 2) es) ≡ marked (joint (drop (i - 2) es)) (i - 1) ++ joints (i + 1 - 2) (drop (i + 1 - 2) es)
joints-next i es h l = next (drop (i - 2) es) (drop (i + 1 - 2) es) (i - 2) (i - 1) (i + 1 - 2) (omega arith) (omega arith) (omega (arith, length-drop (i - 2) es)) (rest-drop-next (i - 2) (i + 1 - 2) es (omega arith))
  where
    next : (xs ys : List Event) (n m k : ℕ) → m ≡ n + 1 → k ≡ suc n → 0 < length xs → ys ≡ drop 1 xs →
        joints n xs ≡ marked (joint xs) m ++ joints k ys
    next [] ys n m k e f g h = absurd (omega arith)
    next (x ∷ xs) ys n m k e f g h = rw (e, f, h) refl

    rest-drop-next : (n k : ℕ) (xs : List Event) → k ≡ n + 1 → drop k xs ≡ drop 1 (drop n xs)
    rest-drop-next n k xs e = let same : k ≡ suc n = omega (arith, e) in ap (λ m. drop m xs) same ∙ drop-more n xs

-- where no data begins from a place up to another, no joint ends there
joints-pass : (d i k : ℕ) (es : List Event) → k ≡ i + d → k ≤ length es → BeginsNone es i k →
    joints (i - 2) (drop (i - 2) es) ≡ joints (k - 2) (drop (k - 2) es)
joints-pass zero i k es h l none =
    let same : i ≡ k = omega (arith, h) in ap (λ n. joints (n - 2) (drop (n - 2) es)) same
joints-pass (suc d) i k es h l none =
    let rest : joints (i + 1 - 2) (drop (i + 1 - 2) es) ≡ joints (k - 2) (drop (k - 2) es) = joints-pass d (i + 1) k es (omega (arith, h)) l (λ j e low high. none j e (omega (arith, low)) high) in
    elim (cases_lt i 2) [
      | inl low ↦ let same : i - 2 ≡ i + 1 - 2 = omega (arith, low) in ap (λ n. joints n (drop n es)) same ∙ rest
      | inr two ↦
          let there : i < length es = omega (arith, h, l) in
          let at = event-at i es there in
          let no : false ≡ joint (drop (i - 2) es) = joint-none es (i - 2) i at.0 (omega (arith, two)) there at.1 (ap opens_data at.1 ∙ none i at.0 (omega arith) (omega (arith, h))) in
          joints-next i es two there ∙ ap (λ b. marked b (i - 1) ++ joints (i + 1 - 2) (drop (i + 1 - 2) es)) (sym no) ∙ rest
    ]

pub marks-begin : (first k : ℕ) (es : List Event) (log : List Edit) → first ≤ 2 → first ≤ k → k ≤ length es → BeginsNone es first k →
    log ≡ [] → log ++ joints (k - 2) (drop (k - 2) es) ≡ joints 0 es
marks-begin first k es log few l h none e =
    let zeroth : 0 ≡ first - 2 = omega (arith, few) in
    ap (λ x. x ++ joints (k - 2) (drop (k - 2) es)) e
    ∙ sym (joints-pass (k - first) first k es (omega (arith, l)) h none)
    ∙ ap (λ n. joints n (drop n es)) (sym zeroth)

-- none ends at the first two events
pub ends-few : (i : ℕ) (es : List Event) → i < 2 → false ≡ ends_joint i es
ends-few i es l = ap (λ b. b && joint (drop (i - 2) es)) (sym (low i l))
  where
    low : (i : ℕ) → i < 2 → nat_le 2 i ≡ false
    low i l = grind (arith, nat_tests)

ends-late : (i : ℕ) (es : List Event) → 2 ≤ i → joint (drop (i - 2) es) ≡ ends_joint i es
ends-late i es l = ap (λ b. b && joint (drop (i - 2) es)) (sym (le-leb 2 i l))

-- where data begins, one ends by the two events before
pub ends-is : (i j k : ℕ) (es : List Event) (a b : Event) (x y : Bool) → 2 ≤ k → i ≡ k - 2 → j ≡ k - 1 → k < length es → ((e : Event) → opens_data (get_or es k e) ≡ true)
    → a ≡ get_or es i a → b ≡ get_or es j b → x ≡ opens_data a → y ≡ closes_data b → x && y ≡ ends_joint k es
ends-is i j k es a b x y two p q l o e f u v =
    let at = event-at k es l in
    joint-two es i j k a b at.0 x y true (omega (arith, two, p, q)) (omega (arith, two, p)) l e f at.1 u v (sym (ap opens_data at.1 ∙ o at.0)) refl
    ∙ ap (λ n. joint (drop n es)) p
    ∙ ends-late k es two

-- and none without an Exit of data before it
pub ends-not : (j k : ℕ) (es : List Event) (b : Event) (y : Bool) → 2 ≤ k → j ≡ k - 1 → k < length es → ((e : Event) → opens_data (get_or es k e) ≡ true)
    → b ≡ get_or es j b → y ≡ closes_data b → y ≡ false → false ≡ ends_joint k es
ends-not j k es b y two q l o f v off =
    let at = event-at (k - 2) es (omega (arith, two, l)) in
    sym (and-false (opens_data at.0)) ∙ ap (λ z. opens_data at.0 && z) (sym off) ∙ ends-is (k - 2) j k es at.0 b (opens_data at.0) y two refl q l o at.1 f refl v

joints-step : (i : ℕ) (es : List Event) → i < length es →
    joints (i - 2) (drop (i - 2) es) ≡ marked (ends_joint i es) (i - 1) ++ joints (i + 1 - 2) (drop (i + 1 - 2) es)
joints-step i es l =
    let rest : List Edit = joints (i + 1 - 2) (drop (i + 1 - 2) es) in
    elim (cases_lt i 2) [
      | inl low ↦
          let same : i - 2 ≡ i + 1 - 2 = omega (arith, low) in
          ap (λ n. joints n (drop n es)) same ∙ ap (λ b. marked b (i - 1) ++ rest) (ends-few i es low)
      | inr two ↦ joints-next i es two l ∙ ap (λ b. marked b (i - 1) ++ rest) (ends-late i es two)
    ]

-- past one event at which data begins, and others at which none does
pub marks-past : (i k : ℕ) (es : List Event) (old new : List Edit) → i < length es → i + 1 ≤ k → k ≤ length es → BeginsNone es (i + 1) k →
    new ≡ old ++ marked (ends_joint i es) (i - 1) → old ++ joints (i - 2) (drop (i - 2) es) ≡ joints 0 es →
    new ++ joints (k - 2) (drop (k - 2) es) ≡ joints 0 es
marks-past i k es old new here l h none e all =
    let more : List Edit = joints (i + 1 - 2) (drop (i + 1 - 2) es) in
    ap (λ x. new ++ x) (sym (joints-pass (k - (i + 1)) (i + 1) k es (omega (arith, l)) h none))
    ∙ ap (λ x. x ++ more) e
    ∙ append_assoc old (marked (ends_joint i es) (i - 1)) more
    ∙ ap (λ x. old ++ x) (sym (joints-step i es here))
    ∙ all

pub marks-end : (i : ℕ) (es : List Event) (log : List Edit) → length es ≤ i →
    log ++ joints (i - 2) (drop (i - 2) es) ≡ joints 0 es → log ≡ joints 0 es
marks-end i es log l k = sym (append-nil log) ∙ ap (λ x. log ++ x) (sym (joints-end i es l)) ∙ k

-- Which events go.

-- the Exit of a joint goes, and the Enter behind it
abbrev pub removed : List Event → ℕ → Bool
removed es zero = false
removed es (suc zero) = joint es
removed es (suc (suc k)) = joint (drop (suc k) es) || joint (drop k es)

abbrev two : Bool → ℕ
two true = 2
two false = 0

removed_at-marked : (i n : ℕ) (b : Bool) (log : List Edit) → n ≢ i → removed_at i (marked b n ++ log) ≡ removed_at i log
removed_at-marked i n true log h = rw (ne_eqb n i h) (omega arith)
removed_at-marked i n false log h = refl

removed_at-here : (i n : ℕ) (b : Bool) (log : List Edit) → n ≡ i →
    removed_at i (marked b n ++ log) ≡ two b + removed_at i log
removed_at-here i n true log h = rw (eq-eqb n i h) refl
removed_at-here i n false log h = omega arith

none-before : (i n : ℕ) (es : List Event) → i ≤ n → removed_at i (joints n es) ≡ 0
none-before i n [] l = refl
none-before i n (e ∷ es) l =
    removed_at-marked i (n + 1) (joint (e ∷ es)) (joints (suc n) es) (λ h. absurd (omega (arith, h))) ∙ none-before i (suc n) es (omega arith)

at-joint : (i n k : ℕ) (es : List Event) → i ≡ suc (n + k) → removed_at i (joints n es) ≡ two (joint (drop k es))
at-joint i n zero [] e = refl
at-joint i n (suc k) [] e = refl
at-joint i n zero (x ∷ es) e =
    removed_at-here i (n + 1) (joint (x ∷ es)) (joints (suc n) es) (omega (arith, e)) ∙ ap (λ m. two (joint (x ∷ es)) + m) (none-before i (suc n) es (omega (arith, e))) ∙ omega arith
at-joint i n (suc k) (x ∷ es) e =
    removed_at-marked i (n + 1) (joint (x ∷ es)) (joints (suc n) es) (λ h. absurd (omega (arith, e, h))) ∙ at-joint i (suc n) k es (omega (arith, e))

at-place : (p : ℕ) (es : List Event) → removed_at (suc p) (joints 0 es) ≡ two (joint (drop p es))
at-place p es = at-joint (suc p) 0 p es (omega arith)

reach-none : (j p : ℕ) (b : Bool) → p + 2 ≤ j → nat_lt j (p + two b) ≡ false
reach-none j p true l = grind (arith, nat_tests)
reach-none j p false l = grind (arith, nat_tests)

removed_by-far : (es : List Event) (j p : ℕ) → p + 2 ≤ j → removed_by (joints 0 es) j p ≡ false
removed_by-far es j zero l = ap (nat_lt j) (none-before 0 0 es (omega arith)) ∙ reach-none j 0 false l
removed_by-far es j (suc p) l =
    ap (λ m. nat_lt j (suc p + m) || removed_by (joints 0 es) j p) (at-place p es)
    ∙ ap (λ b. b || removed_by (joints 0 es) j p) (reach-none j (suc p) (joint (drop p es)) l)
    ∙ removed_by-far es j p (omega arith)

reach-here : (j p : ℕ) (b : Bool) → p ≤ j → j < p + 2 → nat_lt j (p + two b) ≡ b
reach-here j p true l h = grind (arith, nat_tests)
reach-here j p false l h = grind (arith, nat_tests)

removed_by-step : (es : List Event) (j p : ℕ) → suc p ≤ j → j < suc p + 2 →
    removed_by (joints 0 es) j (suc p) ≡ joint (drop p es) || removed_by (joints 0 es) j p
removed_by-step es j p l h =
    ap (λ m. nat_lt j (suc p + m) || removed_by (joints 0 es) j p) (at-place p es)
    ∙ ap (λ b. b || removed_by (joints 0 es) j p) (reach-here j (suc p) (joint (drop p es)) l h)

pub removed-is : (es : List Event) (j : ℕ) → is_removed (joints 0 es) j ≡ removed es j
removed-is es zero = ap (nat_lt 0) (none-before 0 0 es (omega arith)) ∙ grind (arith, nat_tests)
removed-is es (suc zero) =
    removed_by-step es 1 0 (omega arith) (omega arith)
    ∙ ap (λ b. joint es || b) (ap (nat_lt 1) (none-before 0 0 es (omega arith)) ∙ reach-none-one)
    ∙ or-false (joint es)
  where
    reach-none-one : nat_lt 1 0 ≡ false
    reach-none-one = refl
removed-is es (suc (suc k)) =
    removed_by-step es (suc (suc k)) (suc k) (omega arith) (omega arith)
    ∙ ap (λ b. joint (drop (suc k) es) || b) (removed_by-step es (suc (suc k)) k (omega arith) (omega arith) ∙ ap (λ b. joint (drop k es) || b) (removed_by-far es (suc (suc k)) k (omega arith)) ∙ or-false (joint (drop k es)))

-- What stays, by the event that stands there.

no-joint : (e : Event) (es : List Event) → opens_data e ≡ false → joint (e ∷ es) ≡ false
no-joint e es h = ap (λ b. b && closing es) h

none-after : (a b : Bool) (e : Event) (es : List Event) → opens_data e ≡ false → a && (b && opening (e ∷ es)) ≡ false
none-after a b e es h = ap (λ x. a && (b && x)) h ∙ two-short a b

none-next : (a : Bool) (e : Event) (es : List Event) → closes_data e ≡ false → a && closing (e ∷ es) ≡ false
none-next a e es h = ap (λ x. a && (x && opening es)) h ∙ and-false a

joint-before : (ds : List Event) (e : Event) (es : List Event) → rest_of ds ≡ e ∷ es → closes_data e ≡ false →
    joint ds ≡ false
joint-before [] e es h k = refl
joint-before (a ∷ ds) e es h k = ap (λ x. opens_data a && closing x) h ∙ none-next (opens_data a) e es k

joint-before-two : (ds : List Event) (e : Event) (es : List Event) → rest_of (rest_of ds) ≡ e ∷ es →
    opens_data e ≡ false → joint ds ≡ false
joint-before-two [] e es h k = refl
joint-before-two (a ∷ []) e es h k = cc
joint-before-two (a ∷ b ∷ ds) e es h k =
    ap (λ x. opens_data a && (closes_data b && opening x)) h ∙ none-after (opens_data a) (closes_data b) e es k

-- what is no data stays
pub stays-other : (es : List Event) (k : ℕ) (e : Event) (rest : List Event) → drop k es ≡ e ∷ rest →
    opens_data e ≡ false → closes_data e ≡ false → removed es k ≡ false
stays-other es zero e rest h o c = refl
stays-other es (suc zero) e rest h o c = joint-before es e rest (sym (drop-more 0 es) ∙ h) c
stays-other es (suc (suc k)) e rest h o c =
    ap (λ b. b || joint (drop k es)) (joint-before (drop (suc k) es) e rest (sym (drop-more (suc k) es) ∙ h) c)
    ∙ joint-before-two (drop k es) e rest (ap rest_of (sym (drop-more k es)) ∙ sym (drop-more (suc k) es) ∙ h) o

-- behind an event that is no Exit of data an event goes only with a joint that begins there
pub goes-next : (es : List Event) (k : ℕ) (e : Event) (rest : List Event) → drop k es ≡ e ∷ rest →
    closes_data e ≡ false → removed es (suc k) ≡ joint (e ∷ rest)
goes-next es zero e rest h c = ap joint h
goes-next es (suc k) e rest h c =
    ap (λ b. joint (drop (suc k) es) || b) (joint-before (drop k es) e rest (sym (drop-more k es) ∙ h) c)
    ∙ or-false (joint (drop (suc k) es))
    ∙ ap joint h

-- and so behind two events, of which the second is no Enter of data
pub goes-after : (es : List Event) (k : ℕ) (e x : Event) (rest : List Event) → drop k es ≡ e ∷ x ∷ rest →
    opens_data x ≡ false → removed es (suc (suc k)) ≡ joint (e ∷ x ∷ rest)
goes-after es k e x rest h o =
    ap (λ b. b || joint (drop k es)) (ap joint (drop-more k es ∙ ap rest_of h) ∙ no-joint x rest o) ∙ ap joint h

pub stays-next : (es : List Event) (k : ℕ) (e : Event) (rest : List Event) → drop k es ≡ e ∷ rest →
    opens_data e ≡ false → closes_data e ≡ false → removed es (suc k) ≡ false
stays-next es k e rest h o c = goes-next es k e rest h c ∙ no-joint e rest o

-- The edits may be made.

first_linked : List Event → Bool
first_linked [] = false
first_linked (e ∷ es) = has_link e.link

linked-drop : (es : List Event) (j : ℕ) → linked_at es j ≡ first_linked (drop j es)
unfolding first_linked
linked-drop [] zero = refl
linked-drop [] (suc j) = refl
linked-drop (e ∷ es) zero = refl
linked-drop (e ∷ es) (suc j) = linked-drop es j

linked-opens : (a b l : Bool) → l ≡ true → a && (b && not l) ≡ false
linked-opens a b true h = two-short a b
linked-opens a b false h = cc

stays-linked : (es : List Event) (j : ℕ) (ds : List Event) → drop j es ≡ ds → first_linked ds ≡ true →
    removed es j ≡ false
unfolding first_linked
stays-linked es j [] h l = cc
stays-linked es j (e ∷ ds) h l =
    stays-other es j e ds h (linked-opens (is_enter e.kind) (is_data e.name) (has_link e.link) l) (linked-opens (not (is_enter e.kind)) (is_data e.name) (has_link e.link) l)

not-both : (l r : Bool) → (l ≡ true → r ≡ false) → r ≡ true → l ≡ false
not-both true r h k = absurd (both_ways r (h refl) k)
not-both false r h k = refl

goes-unlinked : (es : List Event) (j : ℕ) → is_removed (joints 0 es) j ≡ true → linked_at es j ≡ false
goes-unlinked es j h =
    linked-drop es j ∙ not-both (first_linked (drop j es)) (removed es j) (λ l. stays-linked es j (drop j es) refl l) (sym (removed-is es j) ∙ h)

-- each place stands within
within-marked : (n m : ℕ) (b : Bool) (log : List Edit) → n ≤ m → All (λ e. e.at ≤ m) log →
    All (λ e. e.at ≤ m) (marked b n ++ log)
within-marked n m true log h a = All-cons (λ e. e.at ≤ m) (removal n) log h a
within-marked n m false log h a = a

within : (n m : ℕ) (es : List Event) → n + length es ≤ m → All (λ e. e.at ≤ m) (joints n es)
within n m [] h = All-nil (λ e. e.at ≤ m)
within n m (e ∷ es) h =
    within-marked (n + 1) m (joint (e ∷ es)) (joints (suc n) es) (omega arith) (within (suc n) m es (omega arith))

pub can-merge : (es : List Event) → CanEdit (joints 0 es) es
can-merge es = record { places = within 0 (length es) es (omega arith); unlinked = goes-unlinked es }
