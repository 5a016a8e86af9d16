-- The walk that finds where sequences last begin, and what an index of them says of the codes that it was made of.
use Rattle.std.proofs.Common.{◌≡◌, ℕ, zero, suc, ◌+◌, ◌==◌, ◌&&◌, ◌||◌, ◌-◌, nat_lt, Bool, true, false, if◌then◌else◌, cond, slice_get, slice_index_or, length, ◌<◌, ◌≤◌, ◌⊎◌, inl, inr, Option, Some, None, List, [], ◌∷◌, drop, refl, sym, ap, ◌∙◌, arith}
use Rattle.std.proofs.lemmas.Bool.{and_right, eq-eqb, ne_eqb, or_from, or_left, or_parts, or_right}
use Rattle.std.specs.List.{list_any}
use Rattle.std.proofs.lemmas.Bool.Decides.{nat_tests}
use Rattle.std.proofs.lemmas.Grind.{common_steps}
use Rattle.std.proofs.lemmas.List.{drop_more}
use Rattle.markdown_content.specs.Codes.{Code}
use Rattle.markdown_content.specs.Place.{Place, ahead_at, code_at, code_before, last_of, moved, value_of}
use Rattle.markdown_notes.specs.RunIndex.{later_or, begins_before}
use Rattle.markdown_notes.specs.SequenceIndex.{begins_at, begun_at, closes_past_spacing, closes_twice, dots_behind_w, is_behind_w, is_spacing, is_w, last_begins, last_in, last_where, marks_span, rules_out, shows_at, stand_next, stop_bytes, KnowsLastBegins}
use Rattle.markdown_event.specs.declared.event.Point.{Point}
use Rattle.markdown_notes.specs.declared.sequence_index.LastBegins.{LastBegins}
use Rattle.markdown_notes.specs.declared.sequence_index.Sequence.{Sequence}
use Rattle.markdown_notes.specs.declared.sequence_index.Sequence.TheVariants.{CommentEnd, SectionEnd, InstructionEnd, DeclarationEnd, ResourceEnd, WwwDot, SpanMark}
use Rattle.markdown_content.proofs.PlaceRules.{IsAhead, ahead_some, ahead_none, ahead_moved, at_moved, codes_moved}
use Rattle.markdown_content.specs.Stretch.{past_stretch}
use Rattle.markdown_content.proofs.StretchLemmas.{kept}
use Rattle.markdown_notes.proofs.RunIndexFacts.{answer_from, answer-or}

-- Whether values come next.

next-end : (v : ℕ) (vs : List ℕ) (p : Place) → code_at p ≡ None → stand_next (v ∷ vs) (ahead_at p) ≡ false
next-end v vs p h = ap (stand_next (v ∷ vs)) (ahead_none p h)

next-other : (v : ℕ) (vs : List ℕ) (p : Place) (w : ℕ) → code_at p ≡ Some w → (w == v) ≡ false →
    stand_next (v ∷ vs) (ahead_at p) ≡ false
next-other v vs p w h e =
    let a : IsAhead p w = ahead_some p w h in
    ap (stand_next (v ∷ vs)) a.codes ∙ ap (λ b. b && stand_next vs (ahead_at (moved p))) (ap (λ k. k == v) a.value ∙ e)

next-one : (v : ℕ) (vs : List ℕ) (p : Place) (w : ℕ) → code_at p ≡ Some w → (w == v) ≡ true →
    stand_next (v ∷ vs) (ahead_at p) ≡ stand_next vs (ahead_at (moved p))
next-one v vs p w h e =
    let a : IsAhead p w = ahead_some p w h in
    ap (stand_next (v ∷ vs)) a.codes ∙ ap (λ b. b && stand_next vs (ahead_at (moved p))) (ap (λ k. k == v) a.value ∙ e)

pub next-is : (v : ℕ) (p : Place) → code_at p ≡ Some v → stand_next (v ∷ []) (ahead_at p) ≡ true
next-is v p h = next-one v [] p v h (eq-eqb v v refl)

-- Whether the values from one on come next.

-- so many values are passed, which came next
abbrev pub IsPassing : List ℕ → ℕ → Place → Place → Type 0
IsPassing vs i start p = stand_next vs (ahead_at start) ≡ stand_next (drop i vs) (ahead_at p)

pub passing-end : (vs : List ℕ) (i : ℕ) (start p : Place) → i < length vs → IsPassing vs i start p → code_at p ≡ None →
    false ≡ stand_next vs (ahead_at start)
passing-end vs i start p less k h =
    sym (k ∙ ap (λ xs. stand_next xs (ahead_at p)) (drop_more vs i 0 less) ∙ next-end (slice_index_or vs i 0) (drop (i + 1) vs) p h)

pub passing-other : (vs : List ℕ) (i v : ℕ) (start p : Place) → i < length vs → IsPassing vs i start p →
    code_at p ≡ Some v → (v ≡ slice_index_or vs i 0 → ⊥) → false ≡ stand_next vs (ahead_at start)
passing-other vs i v start p less k h e =
    sym (k ∙ ap (λ xs. stand_next xs (ahead_at p)) (drop_more vs i 0 less) ∙ next-other (slice_index_or vs i 0) (drop (i + 1) vs) p v h (ne_eqb v (slice_index_or vs i 0) e))

pub passing-one : (vs : List ℕ) (i v : ℕ) (start p q : Place) → i < length vs → IsPassing vs i start p →
    code_at p ≡ Some v → v ≡ slice_index_or vs i 0 → q ≡ moved p → IsPassing vs (i + 1) start q
passing-one vs i v start p q less k h e f =
    k
    ∙ ap (λ xs. stand_next xs (ahead_at p)) (drop_more vs i 0 less)
    ∙ next-one (slice_index_or vs i 0) (drop (i + 1) vs) p v h (eq-eqb v (slice_index_or vs i 0) e)
    ∙ ap (λ (x : Place). stand_next (drop (i + 1) vs) (ahead_at x)) (sym f)

-- Whether parentheses close.

-- whitespace is passed
abbrev pub IsSpaced : Place → Place → Type 0
IsSpaced start p = closes_past_spacing (ahead_at start) ≡ closes_past_spacing (ahead_at p)

pub spaced-end : (start p : Place) → IsSpaced start p → code_at p ≡ None → false ≡ closes_past_spacing (ahead_at start)
spaced-end start p k h = sym (k ∙ ap closes_past_spacing (ahead_none p h))

spaced-by : (p : Place) (v : ℕ) → code_at p ≡ Some v →
    closes_past_spacing (ahead_at p) ≡ (if is_spacing v then closes_past_spacing (ahead_at (moved p)) else v == 41)
spaced-by p v h =
    let a : IsAhead p v = ahead_some p v h in
    ap closes_past_spacing a.codes ∙ ap (λ w. if is_spacing w then closes_past_spacing (ahead_at (moved p)) else w == 41) a.value

pub spaced-other : (start p : Place) (v : ℕ) → IsSpaced start p → code_at p ≡ Some v → is_spacing v ≡ false →
    (v == 41) ≡ closes_past_spacing (ahead_at start)
spaced-other start p v k h e =
    sym (k ∙ spaced-by p v h ∙ ap (λ b. if b then closes_past_spacing (ahead_at (moved p)) else v == 41) e)

pub spaced-one : (start p q : Place) (v : ℕ) → IsSpaced start p → code_at p ≡ Some v → is_spacing v ≡ true →
    q ≡ moved p → IsSpaced start q
spaced-one start p q v k h e f =
    k ∙ spaced-by p v h ∙ ap (λ b. if b then closes_past_spacing (ahead_at (moved p)) else v == 41) e ∙ ap (λ (x : Place). closes_past_spacing (ahead_at x)) (sym f)

twice-by : (p : Place) (v : ℕ) → code_at p ≡ Some v →
    closes_twice (ahead_at p) ≡ (v == 41 && closes_past_spacing (ahead_at (moved p)))
twice-by p v h =
    let a : IsAhead p v = ahead_some p v h in
    ap closes_twice a.codes ∙ ap (λ w. w == 41 && closes_past_spacing (ahead_at (moved p))) a.value

twice-other : (p : Place) (v : ℕ) → code_at p ≡ Some v → (v == 41) ≡ false → closes_twice (ahead_at p) ≡ false
twice-other p v h e = twice-by p v h ∙ ap (λ b. b && closes_past_spacing (ahead_at (moved p))) e

pub twice-end : (p : Place) → code_at p ≡ None → false ≡ closes_twice (ahead_at p)
twice-end p h = sym (ap closes_twice (ahead_none p h))

pub twice-not : (p : Place) (v : ℕ) → code_at p ≡ Some v → (v ≡ 41 → ⊥) → false ≡ closes_twice (ahead_at p)
twice-not p v h e = sym (twice-other p v h (unlike v e))
  where
    unlike : (a : ℕ) → (a ≡ 41 → ⊥) → (a == 41) ≡ false
    unlike a e = grind (arith, e)

pub twice-some : (p q : Place) (v : ℕ) → code_at p ≡ Some v → v ≡ 41 → q ≡ moved p →
    closes_past_spacing (ahead_at q) ≡ closes_twice (ahead_at p)
twice-some p q v h e f =
    ap (λ (x : Place). closes_past_spacing (ahead_at x)) f ∙ sym (twice-by p v h ∙ ap (λ w. w == 41 && closes_past_spacing (ahead_at (moved p))) e)

-- Where a sequence shows.

-- the walk stops at such a code for the sequence
abbrev pub shows_by : Sequence → ℕ → Bool
shows_by CommentEnd v = v == 45
shows_by SectionEnd v = v == 93
shows_by InstructionEnd v = v == 63
shows_by DeclarationEnd v = v == 62
shows_by ResourceEnd v = v == 41
shows_by WwwDot v = v == 46
shows_by SpanMark v = v == 96 || v == 36

-- at another code it does not
silent : (s : Sequence) (p : Place) (v : ℕ) → code_at p ≡ Some v → shows_by s v ≡ false → shows_at s p ≡ false
silent CommentEnd p v h e = next-other 45 (45 ∷ 62 ∷ []) p v h e
silent SectionEnd p v h e = next-other 93 (93 ∷ 62 ∷ []) p v h e
silent InstructionEnd p v h e = next-other 63 (62 ∷ []) p v h e
silent DeclarationEnd p v h e = next-other 62 [] p v h e
silent ResourceEnd p v h e = twice-other p v h e
silent WwwDot p v h e =
    and_right (is_behind_w (code_before p)) (stand_next (46 ∷ []) (ahead_at p)) (next-other 46 [] p v h e)
silent SpanMark p v h e =
    let parts = or_parts (v == 96) (v == 36) e in
    or_from (stand_next (96 ∷ []) (ahead_at p)) (stand_next (36 ∷ []) (ahead_at p)) (next-other 96 [] p v h parts.0) (next-other 36 [] p v h parts.1)

-- a mark of a span is at hand
pub span-here : (p : Place) (v : ℕ) → code_at p ≡ Some v → (v ≡ 36) ⊎ (v ≡ 96) → marks_span (ahead_at p) ≡ true
span-here p v h (inl e) =
    or_right (stand_next (96 ∷ []) (ahead_at p)) (stand_next (36 ∷ []) (ahead_at p)) (next-is 36 p (h ∙ ap (λ n. Some n) e))
span-here p v h (inr e) =
    or_left (stand_next (96 ∷ []) (ahead_at p)) (stand_next (36 ∷ []) (ahead_at p)) (next-is 96 p (h ∙ ap (λ n. Some n) e))

-- a code stands before, where it is a `w`
pub some-passed : (p : Place) → is_behind_w (code_before p) ≡ true → 1 ≤ p.at
unfolding code_before
some-passed p h = by_count p.codes p.at h
  where
    by_count : (cs : List Code) (n : ℕ) → is_behind_w (value_of (last_of cs n)) ≡ true → 1 ≤ n
    by_count cs zero h = cc
    by_count cs (suc n) h = omega arith

-- The walk.

-- the place from which on it is not settled yet whether the sequence begins
abbrev open_from : Sequence → Place → Place
open_from s p = record p { at = begun_at s p.at }

-- what was found up to a place, and what is ahead of it, is what there is
pub record AreBeginsFound (cs : List Code) (p : Place) (last : LastBegins) : Type 0 where
  pub codes : p.codes ≡ cs
  pub found : (s : Sequence) →
      last_where (begins_at s) cs ≡ answer_from (open_from s p).at (last_where (begins_at s) (ahead_at (open_from s p))) (last_in last s)

-- this was found, with what shows at the place
abbrev pub FoundAt : Place → LastBegins → LastBegins → Type 0
FoundAt p last next = (s : Sequence) → last_in next s ≡ cond (shows_at s p) (Some (begun_at s p.at)) (last_in last s)

nothing-before : (o : Option ℕ) → o ≡ answer_from 0 o None
nothing-before (Some k) = ap (λ n. Some n) (omega arith)
nothing-before None = refl

abbrev nothing : LastBegins
nothing = record { comment_end = None; section_end = None; instruction_end = None; declaration_end = None; resource_end = None; www_dot = None; span_mark = None }

nothing-in : (s : Sequence) → last_in nothing s ≡ None
nothing-in CommentEnd = refl
nothing-in SectionEnd = refl
nothing-in InstructionEnd = refl
nothing-in DeclarationEnd = refl
nothing-in ResourceEnd = refl
nothing-in WwwDot = refl
nothing-in SpanMark = refl

open-start : (s : Sequence) → begun_at s 0 ≡ 0
open-start CommentEnd = refl
open-start SectionEnd = refl
open-start InstructionEnd = refl
open-start DeclarationEnd = refl
open-start ResourceEnd = refl
open-start WwwDot = refl
open-start SpanMark = refl

pub found-start : (p q : Place) → q ≡ record p { at = 0 } → AreBeginsFound p.codes q nothing
unfolding ahead_at
found-start p q e = grind (arith, nothing-before, nothing-in, open-start)

-- one more code is settled
settled : (t : List Code → Bool) (all o next : Option ℕ) (p : Place) (v : ℕ) → code_at p ≡ Some v →
    next ≡ cond (t (ahead_at p)) (Some p.at) o → all ≡ answer_from p.at (last_where t (ahead_at p)) o →
    all ≡ answer_from (moved p).at (last_where t (ahead_at (moved p))) next
settled t all o next p v h step k =
    let a : IsAhead p v = ahead_some p v h in
    let rest : Option ℕ = last_where t (ahead_at (moved p)) in
    let here : Bool = t (ahead_at p) in
    let one : last_where t (ahead_at p) ≡ later_or rest here = ap (last_where t) a.codes ∙ ap (λ ds. later_or rest (t ds)) (sym a.codes) in
    k
    ∙ ap (λ x. answer_from p.at x o) one
    ∙ sym (answer-or p.at rest o here)
    ∙ ap (λ n. answer_from n rest (cond here (Some p.at) o)) (omega (arith, at_moved p))
    ∙ ap (λ x. answer_from (moved p).at rest x) (sym step)

-- what is said of a sequence past the code at a place
abbrev SettlesSequence : List Code → Place → LastBegins → LastBegins → Sequence → Type 0
SettlesSequence cs p last next s =
    last_in next s ≡ cond (shows_at s p) (Some (begun_at s p.at)) (last_in last s)
    → last_where (begins_at s) cs ≡ answer_from (open_from s p).at (last_where (begins_at s) (ahead_at (open_from s p))) (last_in last s)
    → last_where (begins_at s) cs ≡ answer_from (open_from s (moved p)).at (last_where (begins_at s) (ahead_at (open_from s (moved p)))) (last_in next s)

-- a code stands before each code but the first
some-before : (cs : List Code) (n v : ℕ) → value_of (slice_get cs (suc n)) ≡ Some v →
    (w : ℕ) × (value_of (slice_get cs n) ≡ Some w)
some-before [] n v h = cc
some-before (c ∷ cs) zero v h = (c.value, refl)
some-before (c ∷ cs) (suc n) v h = some-before cs n v h

-- at a code it is settled whether the code before it is a `w` with a dot behind it
dot-settles : (cs ds : List Code) (n v : ℕ) (end : Point) (last next : LastBegins) →
    code_at (record { codes = ds; at = n; end = end }) ≡ Some v →
    SettlesSequence cs (record { codes = ds; at = n; end = end }) last next WwwDot
unfolding ahead_at moved code_at code_before
dot-settles cs ds zero v end last next h step k = k ∙ ap (λ o. answer_from 0 (last_where dots_behind_w ds) o) (sym step)
dot-settles cs ds (suc n) v end last next h step k =
    let r : Place = record { codes = ds; at = n; end = end } in
    let w : (w : ℕ) × (value_of (slice_get ds n) ≡ Some w) = some-before ds n v h in
    let a : IsAhead r w.0 = ahead_some r w.0 w.1 in
    let one : suc n ≡ n + 1 = omega arith in
    let back : suc n - 1 ≡ n = omega arith in
    let on : n + 1 ≡ suc n + 1 - 1 = omega arith in
    let shows : shows_at WwwDot (record { codes = ds; at = suc n; end = end }) ≡ dots_behind_w (drop n ds) =
    ap (λ o. is_behind_w o && stand_next (46 ∷ []) (drop (suc n) ds)) w.1
    ∙ ap (λ x. is_w x && stand_next (46 ∷ []) (drop (suc n) ds)) (sym a.value)
    ∙ ap (λ m. is_w a.code.value && stand_next (46 ∷ []) (drop m ds)) one
    ∙ sym (ap dots_behind_w a.codes) in
    settled dots_behind_w (last_where dots_behind_w cs) last.www_dot next.www_dot r w.0 w.1
    (step ∙ ap (λ b. cond b (Some (suc n - 1)) last.www_dot) shows ∙ ap (λ m. cond (dots_behind_w (drop n ds)) (Some m) last.www_dot) back)
    (k ∙ ap (λ m. answer_from m (last_where dots_behind_w (drop m ds)) last.www_dot) back)
    ∙ ap (λ m. answer_from m (last_where dots_behind_w (drop m ds)) next.www_dot) on

-- past a code
pub found-past : (cs : List Code) (p q : Place) (v : ℕ) (last next : LastBegins) → code_at p ≡ Some v → q ≡ moved p →
    FoundAt p last next → AreBeginsFound cs p last → AreBeginsFound cs q next
found-past cs p q v last next h e step k =
    record {
      codes = ap (λ (x : Place). x.codes) e ∙ codes_moved p ∙ k.codes;
      found = λ s.
          each s (step s) (k.found s)
          ∙ ap (λ (x : Place). answer_from (open_from s x).at (last_where (begins_at s) (ahead_at (open_from s x))) (last_in next s)) (sym e);
    }
  where
    each : (s : Sequence) → SettlesSequence cs p last next s
    each CommentEnd =
        settled (begins_at CommentEnd) (last_where (begins_at CommentEnd) cs) last.comment_end next.comment_end p v h
    each SectionEnd =
        settled (begins_at SectionEnd) (last_where (begins_at SectionEnd) cs) last.section_end next.section_end p v h
    each InstructionEnd =
        settled (begins_at InstructionEnd) (last_where (begins_at InstructionEnd) cs) last.instruction_end next.instruction_end p v h
    each DeclarationEnd =
        settled (begins_at DeclarationEnd) (last_where (begins_at DeclarationEnd) cs) last.declaration_end next.declaration_end p v h
    each ResourceEnd =
        settled (begins_at ResourceEnd) (last_where (begins_at ResourceEnd) cs) last.resource_end next.resource_end p v h
    each WwwDot = dot-settles cs p.codes p.at v p.end last next h
    each SpanMark =
        settled (begins_at SpanMark) (last_where (begins_at SpanMark) cs) last.span_mark next.span_mark p v h

-- at a code at which the sequence does not show
pub unmoved : (s : Sequence) (p : Place) (v : ℕ) (last : LastBegins) → code_at p ≡ Some v → shows_by s v ≡ false →
    last_in last s ≡ cond (shows_at s p) (Some (begun_at s p.at)) (last_in last s)
unmoved s p v last h e = ap (λ b. cond b (Some (begun_at s p.at)) (last_in last s)) (sym (silent s p v h e))

-- at a code at which it may show, a test tells
pub told : (b shows : Bool) (n at : ℕ) (o found : Option ℕ) → found ≡ cond b (Some n) o → b ≡ shows → n ≡ at →
    found ≡ cond shows (Some at) o
told b shows n at o found e f g = e ∙ ap (λ m. cond b (Some m) o) g ∙ ap (λ t. cond t (Some at) o) f

pub none-shows : (s : Sequence) (v : ℕ) → list_any (λ n. v == n) stop_bytes ≡ false → shows_by s v ≡ false
none-shows s v e = grind (arith, or_parts, or_from)

-- past a stretch of such codes
pub found-stretch : (cs : List Code) (p : Place) (last : LastBegins) → AreBeginsFound cs p last →
    AreBeginsFound cs (past_stretch stop_bytes p) last
found-stretch cs p last k =
    kept stop_bytes (λ q. AreBeginsFound cs q last) (λ q v h ending free k. found-past cs q (moved q) v last last h refl (λ s. unmoved s q v last h (none-shows s v free)) k) p k

-- at the end
dot-none : (ds : List Code) (n : ℕ) (end : Point) → code_at (record { codes = ds; at = n; end = end }) ≡ None →
    last_where dots_behind_w (drop (n - 1) ds) ≡ None
unfolding ahead_at moved
dot-none ds zero end h = ap (last_where dots_behind_w) (ahead_none (record { codes = ds; at = 0; end = end }) h)
dot-none ds (suc n) end h = let back : suc n - 1 ≡ n = omega arith in ap (λ m. last_where dots_behind_w (drop m ds)) back ∙ by_ahead (drop n ds) refl
  where
    by_ahead : (xs : List Code) → drop n ds ≡ xs → last_where dots_behind_w xs ≡ None
    by_ahead [] e = refl
    by_ahead (c ∷ cs) e =
        let one : n + 1 ≡ suc n = omega arith in
        let none : cs ≡ [] = sym (ahead_moved (record { codes = ds; at = n; end = end }) c cs e) ∙ ap (λ m. drop m ds) one ∙ ahead_none (record { codes = ds; at = suc n; end = end }) h in
        ap (λ xs. last_where dots_behind_w (c ∷ xs)) none ∙ ap (λ b. later_or None b) (and_right (is_w c.value) false refl)

pub found-all : (cs : List Code) (p : Place) (last : LastBegins) → code_at p ≡ None → AreBeginsFound cs p last →
    last ≡ last_begins cs
unfolding ahead_at
found-all cs p last h k =
    λ i. record { comment_end = all CommentEnd i; section_end = all SectionEnd i; instruction_end = all InstructionEnd i; declaration_end = all DeclarationEnd i; resource_end = all ResourceEnd i; www_dot = all WwwDot i; span_mark = all SpanMark i }
  where
    none-left : (s : Sequence) → last_where (begins_at s) (ahead_at (open_from s p)) ≡ None
    none-left WwwDot = dot-none p.codes p.at p.end h
    none-left s = ap (last_where (begins_at s)) (ahead_none p h)

    all : (s : Sequence) → last_in last s ≡ last_where (begins_at s) cs
    all s = sym (k.found s ∙ ap (λ o. answer_from (open_from s p).at o (last_in last s)) (none-left s))

-- After some codes.

last-is : (cs : List Code) (s : Sequence) → last_in (last_begins cs) s ≡ last_where (begins_at s) cs
last-is cs CommentEnd = refl
last-is cs SectionEnd = refl
last-is cs InstructionEnd = refl
last-is cs DeclarationEnd = refl
last-is cs ResourceEnd = refl
last-is cs WwwDot = refl
last-is cs SpanMark = refl

-- a sequence that begins further on begins in the whole
pub later-begin : (p : List Code → Bool) (k a : ℕ) (cs : List Code) → last_where p (drop k cs) ≡ Some a →
    last_where p cs ≡ Some (k + a)
later-begin p zero a cs e = e ∙ ap (λ n. Some n) (omega arith)
later-begin p (suc k) a [] e = cc
later-begin p (suc k) a (c ∷ cs) e =
    ap (λ o. later_or o (p (c ∷ cs))) (later-begin p k a cs e) ∙ ap (λ n. Some n) (omega arith)

none-after : (p : List Code → Bool) (k : ℕ) (cs : List Code) (o : Option ℕ) → begins_before k (last_where p cs) ≡ true →
    last_where p (drop k cs) ≡ o → last_where p (drop k cs) ≡ None
none-after p k cs None b e = e
none-after p k cs (Some a) b e = absurd (too-late (ap (begins_before k) (sym (later-begin p k a cs e)) ∙ b))
  where
    too-late : nat_lt (k + a) k ≡ true → ⊥
    too-late t = grind (arith, nat_tests, common_steps, t)

-- where an index that is right for some codes rules a sequence out after so many, it does not begin there
pub ruled-out : (index : Option LastBegins) (cs : List Code) (s : Sequence) (k : ℕ) → KnowsLastBegins cs index →
    rules_out index s k ≡ true → last_where (begins_at s) (drop k cs) ≡ None
ruled-out None cs s k right h = cc
ruled-out (Some last) cs s k right h =
    none-after (begins_at s) k cs (last_where (begins_at s) (drop k cs)) (ap (begins_before k) (sym (ap (λ l. last_in l s) (right last refl) ∙ last-is cs s)) ∙ h) refl

-- what is made of the codes is right for them, and so is nothing
pub right-made : (cs : List Code) (index : Option LastBegins) → index ≡ Some (last_begins cs) → KnowsLastBegins cs index
right-made cs index e last h = held (sym h ∙ e)
  where
    held : {a b : LastBegins} → Some a ≡ Some b → a ≡ b
    held x = cc

pub right-unknown : (cs : List Code) (index : Option LastBegins) → index ≡ None → KnowsLastBegins cs index
right-unknown cs index e last h = absurd (absent (sym e ∙ h))
  where
    absent : None ≡ Some last → ⊥
    absent x = cc
