-- The sequences in codes that are bytes, and the search that finds where each last begins, from the last byte on.
use Rattle.std.proofs.Common.{◌≡◌, ℕ, zero, suc, ◌+◌, ◌-◌, ◌<◌, ◌≤◌, ◌==◌, ◌&&◌, ◌||◌, Bool, true, false, List, [], ◌∷◌, length, drop, take, map, get_or, slice_get, Some, None, refl, sym, ap, ◌∙◌, arith, inl, inr}
use Rattle.std.proofs.lemmas.Bool.{and_parts, cases_Bool}
use Rattle.std.proofs.lemmas.List.{drop-drop, drop-map, length-drop, length-map, length-take-le, get_or-take}
use Rattle.std.proofs.Math.Seq.{take-length}
use Rattle.memchr.specs.Find.{Nowhere, Passes, is_byte2}
use Rattle.markdown_content.specs.Codes.{Code, document_start}
use Rattle.markdown_content.specs.ContentBytes.{AreBytes}
use Rattle.markdown_content.specs.Place.{Place, ahead_at, code_at, moved, value_of}
use Rattle.markdown_content.proofs.PlaceRules.{IsAhead, ahead_some}
use Rattle.markdown_notes.specs.RunIndex.{later_or}
use Rattle.markdown_notes.specs.SequenceIndex.{begins_at, closes_past_spacing, first_bytes, is_w, last_where, stand_next}
use Rattle.markdown_notes.specs.declared.sequence_index.Sequence.{Sequence}
use Rattle.markdown_notes.specs.declared.sequence_index.Sequence.TheVariants.{CommentEnd, SectionEnd, InstructionEnd, DeclarationEnd, ResourceEnd, WwwDot, SpanMark}
use Rattle.markdown_notes.proofs.SequenceIndexLemmas.{later-begin}

abbrev values : List Code → List ℕ
values cs = map (λ (c : Code). c.value) cs

-- the place in some codes after so many of them
abbrev pub place_in : List Code → ℕ → Place
place_in cs n = record { codes = cs; at = n; end = document_start }

-- the code there is the byte there
pub code-in : (bs : List ℕ) (cs : List Code) (i : ℕ) → AreBytes bs cs → i < length bs → code_at (place_in cs i) ≡ Some (get_or bs i 0)
unfolding code_at
code-in bs cs i h lt = found cs i (omega (arith, lt, ap length h, length-map cs (λ (c : Code). c.value))) ∙ ap (λ xs. Some (get_or xs i 0)) h
  where
    found : (cs : List Code) (i : ℕ) → i < length cs → value_of (slice_get cs i) ≡ Some (get_or (values cs) i 0)
    found [] i lt = absurd (omega (arith, lt))
    found (c ∷ cs) zero lt = refl
    found (c ∷ cs) (suc i) lt = found cs i (omega (arith, lt))

-- at the end there is none
pub code-none : (bs : List ℕ) (cs : List Code) (i : ℕ) → AreBytes bs cs → length bs ≤ i → code_at (place_in cs i) ≡ None
unfolding code_at
code-none bs cs i h past = none cs i (omega (arith, past, ap length h, length-map cs (λ (c : Code). c.value)))
  where
    none : (cs : List Code) (i : ℕ) → length cs ≤ i → value_of (slice_get cs i) ≡ None
    none [] i past = refl
    none (c ∷ cs) zero past = absurd (omega (arith, past))
    none (c ∷ cs) (suc i) past = none cs i (omega (arith, past))

-- The search.

twice : (a b : Bool) → (a && b) ≡ true → (a || a) ≡ true
twice a b h = grind arith

-- where a sequence begins, its first code has one of its first bytes
begins-by : (s : Sequence) (c : Code) (cs : List Code) → begins_at s (c ∷ cs) ≡ true →
    is_byte2 (first_bytes s).0 (first_bytes s).1 c.value ≡ true
begins-by CommentEnd c cs h = twice (c.value == 45) (stand_next (45 ∷ 62 ∷ []) cs) h
begins-by SectionEnd c cs h = twice (c.value == 93) (stand_next (93 ∷ 62 ∷ []) cs) h
begins-by InstructionEnd c cs h = twice (c.value == 63) (stand_next (62 ∷ []) cs) h
begins-by DeclarationEnd c cs h = twice (c.value == 62) true h
begins-by ResourceEnd c cs h = twice (c.value == 41) (closes_past_spacing cs) h
begins-by WwwDot c cs h = (and_parts (is_w c.value) (stand_next (46 ∷ []) cs) h).0
begins-by SpanMark c cs h = either (c.value == 96) (c.value == 36) h
  where
    either : (a b : Bool) → (a && true || b && true) ≡ true → (a || b) ≡ true
    either a b h = grind arith

-- it begins nowhere from a place on
abbrev pub BeginsNowhere : Sequence → List Code → ℕ → Type 0
BeginsNowhere s cs n = last_where (begins_at s) (drop n cs) ≡ None

-- none of the bytes that were passed is a first one
abbrev pub PassesNone : Sequence → List ℕ → ℕ → ℕ → Type 0
PassesNone s bs from to = (i : ℕ) → from ≤ i → i < to → is_byte2 (first_bytes s).0 (first_bytes s).1 (get_or bs i 0) ≡ true → ⊥

-- one code further to the front
nowhere-more : (s : Sequence) (bs : List ℕ) (cs : List Code) (i : ℕ) → AreBytes bs cs → i < length bs →
    (is_byte2 (first_bytes s).0 (first_bytes s).1 (get_or bs i 0) ≡ true → ⊥) → BeginsNowhere s cs (i + 1) → BeginsNowhere s cs i
unfolding ahead_at moved
nowhere-more s bs cs i h lt other k =
    let a : IsAhead (place_in cs i) (get_or bs i 0) = ahead_some (place_in cs i) (get_or bs i 0) (code-in bs cs i h lt) in
    ap (last_where (begins_at s)) a.codes
    ∙ ap (λ o. later_or o (begins_at s (a.code ∷ drop (i + 1) cs))) k
    ∙ elim (cases_Bool (begins_at s (a.code ∷ drop (i + 1) cs))) [
      | inl here ↦ absurd (other (ap (λ v. is_byte2 (first_bytes s).0 (first_bytes s).1 v) (sym a.value) ∙ begins-by s a.code (drop (i + 1) cs) here))
      | inr other-code ↦ ap (later_or None) other-code
    ]

pub nowhere-from : (s : Sequence) (bs : List ℕ) (cs : List Code) (from n : ℕ) → AreBytes bs cs → from + n ≤ length bs →
    PassesNone s bs from (from + n) → BeginsNowhere s cs (from + n) → BeginsNowhere s cs from
nowhere-from s bs cs from zero h within none k =
    let same : from + 0 ≡ from = omega arith in ap (λ i. last_where (begins_at s) (drop i cs)) (sym same) ∙ k
nowhere-from s bs cs from (suc n) h within none k =
    let next : from + suc n ≡ from + 1 + n = omega arith in
    let more : BeginsNowhere s cs (from + 1) =
    nowhere-from s bs cs (from + 1) n h (omega (arith, within)) (λ i low high. none i (omega (arith, low)) (omega (arith, high)))
    (ap (λ i. last_where (begins_at s) (drop i cs)) (sym next) ∙ k) in
    nowhere-more s bs cs from h (omega (arith, within)) (none from (omega arith) (omega arith)) more

-- what a search of the bytes before a place tells
pub nowhere-before : (s : Sequence) (bs : List ℕ) (cs : List Code) (w : ℕ × ℕ) (from end : ℕ) → AreBytes bs cs → w ≡ first_bytes s → from ≤ end →
    end ≤ length bs → Nowhere (Passes (is_byte2 w.0 w.1) (take end bs)) from (length (take end bs)) → BeginsNowhere s cs end → BeginsNowhere s cs from
nowhere-before s bs cs w from end h e order within none k =
    let size : length (take end bs) ≡ end = length-take-le end bs within in
    let on : from + (end - from) ≡ end = omega (arith, order) in
    nowhere-from s bs cs from (end - from) h (omega (arith, on, within))
    (λ i low high is. none i low (omega (arith, high, on, size)) (ap (λ v. is_byte2 w.0 w.1 v) (get_or-take end bs i 0 (omega (arith, high, on))) ∙ ap (λ (x : ℕ × ℕ). is_byte2 x.0 x.1 (get_or bs i 0)) e ∙ is))
    (ap (λ i. last_where (begins_at s) (drop i cs)) on ∙ k)

-- whether it begins at a place behind which it begins nowhere
settles : (s : Sequence) (bs : List ℕ) (cs : List Code) (at : ℕ) (b : Bool) → AreBytes bs cs → at < length bs → BeginsNowhere s cs (at + 1) →
    begins_at s (drop at cs) ≡ b → last_where (begins_at s) (drop at cs) ≡ later_or None b
settles s bs cs at b h lt none is =
    by-codes (drop at cs) (drop (at + 1) cs) (drop-drop 1 at cs) none is (omega (arith, lt, length-drop at cs, ap length h, length-map cs (λ (c : Code). c.value)))
  where
    by-codes : (xs ys : List Code) → drop 1 xs ≡ ys → last_where (begins_at s) ys ≡ None → begins_at s xs ≡ b → 0 < length xs →
        last_where (begins_at s) xs ≡ later_or None b
    by-codes [] ys e none is some = absurd (omega (arith, some))
    by-codes (x ∷ xs) ys e none is some =
        ap (λ t. later_or (last_where (begins_at s) xs) t) is ∙ ap (λ zs. later_or (last_where (begins_at s) zs) b) e ∙ ap (λ o. later_or o b) none

pub nowhere-here : (s : Sequence) (bs : List ℕ) (cs : List Code) (at : ℕ) → AreBytes bs cs → at < length bs → BeginsNowhere s cs (at + 1) →
    begins_at s (drop at cs) ≡ false → BeginsNowhere s cs at
nowhere-here s bs cs at h lt none is = settles s bs cs at false h lt none is

-- the last place at which it begins
pub begins-last : (s : Sequence) (bs : List ℕ) (cs : List Code) (at : ℕ) → AreBytes bs cs → at < length bs → BeginsNowhere s cs (at + 1) →
    begins_at s (drop at cs) ≡ true → Some at ≡ last_where (begins_at s) cs
begins-last s bs cs at h lt none is =
    let same : at + 0 ≡ at = omega arith in
    sym (later-begin (begins_at s) at 0 cs (settles s bs cs at true h lt none is) ∙ ap (λ n. Some n) same)

-- the codes behind so many are the bytes behind so many
pub bytes-behind : (bs : List ℕ) (cs : List Code) (n : ℕ) → AreBytes bs cs → AreBytes (take (length bs - n) (drop n bs)) (drop n cs)
bytes-behind bs cs n h =
    sym (drop-map (λ (c : Code). c.value) n cs)
    ∙ ap (drop n) h
    ∙ sym (ap (λ m. take m (drop n bs)) (sym (length-drop n bs)) ∙ take-length (drop n bs))
