-- Past codes that mean themselves.
use Rattle.std.proofs.Common.{ℕ, zero, suc, ◌+◌, ◌-◌, ◌<◌, ◌≤◌, true, false, ◌==◌, ◌≡◌, arith, List, [], ◌∷◌, length, drop, get_or, refl, sym, ap, subst, ◌∙◌, Option, Some, None, inl, inr}
use Rattle.std.specs.List.{list_any}
use Rattle.std.proofs.lemmas.List.{drop_all, length-drop}
use Rattle.std.proofs.lemmas.Bool.{both_ways, cases_lt, not-true, not-false, or_parts}
use Rattle.std.proofs.lemmas.Bool.Decides.{nat_tests}
use Rattle.markdown_event.specs.declared.event.Point.{Point}
use Rattle.markdown_content.specs.declared.parser.Piece.{Piece}
use Rattle.markdown_content.specs.Codes.{Code, line_feed, next_column}
use Rattle.markdown_content.specs.Place.{Place, ahead_at, code_at, moved}
use Rattle.markdown_content.specs.PlaceInDocument.{IsCursor, content_place}
use Rattle.markdown_content.specs.Stretch.{stops, is_free, stretch, walked, past_stretch}
use Rattle.markdown_content.specs.PlainBytes.{is_plain, ArePlain}
use Rattle.markdown_content.proofs.ByteSetLemmas.{plain-above, plain-parts}
use Rattle.markdown_content.proofs.CursorSteps.{moved_is}
use Rattle.markdown_content.proofs.PlaceRules.{ahead_none, ahead_some, ahead_moved, IsAhead, code_at_ahead, code_at_end, codes_moved, at_moved, left_moved}
use Rattle.markdown_content.proofs.PlainByteLemmas.{plain_next, plain_code}

-- One code.

pub stretch-stops : (ms : List ℕ) (c : Code) (cs : List Code) → stops ms c.value ≡ true → stretch ms (c ∷ cs) ≡ []
stretch-stops ms c cs h = rw (h, stretch) refl

pub stretch-goes : (ms : List ℕ) (c : Code) (cs : List Code) → stops ms c.value ≡ false →
    stretch ms (c ∷ cs) ≡ c ∷ stretch ms cs
stretch-goes ms c cs h = rw (h, stretch) refl

none-by : (ms : List ℕ) (p : Place) (o : Option ℕ) → code_at p ≡ o → is_free ms o ≡ false → stretch ms (ahead_at p) ≡ []
none-by ms p None e h = ap (stretch ms) (ahead_none p e)
none-by ms p (Some v) e h =
    let a : IsAhead p v = ahead_some p v e in
    ap (stretch ms) a.codes ∙ stretch-stops ms a.code (ahead_at (moved p)) (ap (stops ms) a.value ∙ not-false (stops ms v) h)

-- where a code stops, the place itself
pub past-none : (ms : List ℕ) (p : Place) → is_free ms (code_at p) ≡ false → past_stretch ms p ≡ p
unfolding past_stretch
past-none ms p h = ap (λ (cs : List Code). walked cs p) (none-by ms p (code_at p) refl h)

past-by : (ms : List ℕ) (p : Place) (o : Option ℕ) → code_at p ≡ o → is_free ms o ≡ true →
    past_stretch ms p ≡ past_stretch ms (moved p)
unfolding past_stretch
past-by ms p None e h = absurd (both_ways false refl h)
past-by ms p (Some v) e h =
    let a : IsAhead p v = ahead_some p v e in
    ap (λ (cs : List Code). walked cs p) (ap (stretch ms) a.codes ∙ stretch-goes ms a.code (ahead_at (moved p)) (ap (stops ms) a.value ∙ not-true (stops ms v) h))

-- past a code that does not stop it is as far
pub past-one : (ms : List ℕ) (p : Place) → is_free ms (code_at p) ≡ true → past_stretch ms p ≡ past_stretch ms (moved p)
past-one ms p h = past-by ms p (code_at p) refl h

at-end : (p : Place) → length p.codes ≤ p.at → ahead_at p ≡ []
unfolding ahead_at
at-end p h = drop_all p.at p.codes h

at-less : (ms : List ℕ) (p : Place) → is_free ms (code_at p) ≡ true → p.at < length p.codes
at-less ms p h = grind (arith, cases_lt, both_ways, code_at_end, at-end)

-- fewer codes are left
pub fewer : (ms : List ℕ) (p q r : Place) → is_free ms (code_at p) ≡ true → q ≡ moved p → r.codes ≡ q.codes →
    q.at ≤ r.at → length r.codes - r.at < length p.codes - p.at
fewer ms p q r h e same forward = grind (arith, at-less, at_moved, codes_moved)

-- What is kept.

-- it is kept past each code that is neither a line ending nor one of the bytes
abbrev pub IsKeptPastCodes : List ℕ → (Place → Type 0) → Type 0
IsKeptPastCodes ms P =
    (p : Place) (v : ℕ) → code_at p ≡ Some v → (v == line_feed) ≡ false → list_any (λ n. v == n) ms ≡ false → P p → P (moved p)

kept-from : (ms : List ℕ) (P : Place → Type 0) → IsKeptPastCodes ms P → (cs : List Code) (p : Place) → ahead_at p ≡ cs → P p →
    P (walked (stretch ms cs) p)
kept-from ms P next [] p e k = k
kept-from ms P next (c ∷ cs) p e k =
    elim (stops ms c.value) as (λ b. stops ms c.value ≡ b → P (walked (stretch ms (c ∷ cs)) p)) [
      | true ↦ λ h. subst (λ (ds : List Code). P (walked ds p)) (sym (stretch-stops ms c cs h)) k
      | false ↦ λ h.
          let free : ((c.value == line_feed) ≡ false) × (list_any (λ n. c.value == n) ms ≡ false) = or_parts (c.value == line_feed) (list_any (λ n. c.value == n) ms) h in
          subst (λ (ds : List Code). P (walked ds p)) (sym (stretch-goes ms c cs h)) (kept-from ms P next cs (moved p) (ahead_moved p c cs e) (next p c.value (code_at_ahead p c cs e) free.0 free.1 k))
    ] refl

-- and so past a stretch
pub kept : (ms : List ℕ) (P : Place → Type 0) → IsKeptPastCodes ms P → (p : Place) → P p → P (past_stretch ms p)
unfolding past_stretch
kept ms P next p k = kept-from ms P next (ahead_at p) p refl k

-- no more codes are left
left-stretch : (ms : List ℕ) (p : Place) → length (ahead_at (past_stretch ms p)) ≤ length (ahead_at p)
left-stretch ms p =
    kept ms (λ q. length (ahead_at q) ≤ length (ahead_at p)) (λ q v h ending free k. let one : length (ahead_at (moved q)) + 1 ≡ length (ahead_at q) = left_moved q v h in omega (arith, one, k)) p (omega arith)

-- fewer are left behind the code where it ends
pub left-behind : (ms : List ℕ) (p q r : Place) (v : ℕ) → q ≡ past_stretch ms p → code_at q ≡ Some v →
    length (ahead_at r) + 1 ≤ length (ahead_at q) → length (ahead_at r) < length (ahead_at p)
left-behind ms p q r v e h less = grind (arith, left-stretch)

-- as few are left, or fewer, where a place in the same codes is not before another
pub left-forward : (p q : Place) → q.codes ≡ p.codes → p.at ≤ q.at → length (ahead_at q) ≤ length (ahead_at p)
unfolding ahead_at
left-forward p q e h = grind (arith, length-drop)

-- fewer are left past a code
pub left-past : (p q : Place) (v : ℕ) → code_at p ≡ Some v → q ≡ moved p → length (ahead_at q) < length (ahead_at p)
left-past p q v h e = grind (arith, left_moved)

-- Ordinary bytes.

not-feed : (b : ℕ) → 13 < b → (b == line_feed) ≡ false
not-feed b h = grind (arith, nat_tests)

free-byte : (ms : List ℕ) (b : ℕ) → is_plain ms b ≡ true → is_free ms (Some b) ≡ true
free-byte ms b h = let p = plain-parts ms b h in rw (not-feed b p.0, p.1) refl

-- a byte above 13 that is not ordinary stops
pub stop-byte : (ms : List ℕ) (b : ℕ) → 13 < b → is_plain ms b ≡ false → is_free ms (Some b) ≡ false
stop-byte ms b above other = grind (arith, not-false, plain-above, not-feed)

-- the place so many columns on
abbrev pub along : Point → ℕ → Point
along p m = record { line = p.line; column = p.column + m; index = p.index + m; vs = 0 }

pub record IsStretchRun (bytes : List ℕ) (pieces : List Piece) (ms : List ℕ) (k : ℕ) (p : Point) (n m : ℕ) : Type 0 where
  pub cursor : IsCursor bytes pieces k (along p m) (along p m) (Some (get_or bytes (p.index + m - 1) 0)) (n + m)
  pub past : past_stretch ms (content_place bytes pieces n) ≡ past_stretch ms (content_place bytes pieces (n + m))

along-more : (p : Point) (m : ℕ) → next_column (along p m) ((along p m).index + 1) 0 ≡ along p (m + 1)
along-more p m = grind (arith)

-- past an ordinary byte it is as far
pub past-byte : {bytes : List ℕ} {pieces : List Piece} {k : ℕ} {p e : Point} {before : Option ℕ} {n : ℕ} (ms : List ℕ) →
    IsCursor bytes pieces k p e before n → (d : Piece) → k < length pieces → p.index < (get_or pieces k d).end.0 →
    is_plain ms (get_or bytes p.index 0) ≡ true →
    past_stretch ms (content_place bytes pieces n) ≡ past_stretch ms (content_place bytes pieces (n + 1))
past-byte {bytes} {pieces} {k} {p} {e} {before} {n} ms h d lt here plain =
    past-one ms (content_place bytes pieces n) (ap (is_free ms) (plain_code h d lt here (plain-parts ms _ plain).0) ∙ free-byte ms (get_or bytes p.index 0) plain)
    ∙ ap (past_stretch ms) (moved_is bytes pieces n)

run-first : {bytes : List ℕ} {pieces : List Piece} {k : ℕ} {p e : Point} {before : Option ℕ} {n : ℕ} (ms : List ℕ) →
    IsCursor bytes pieces k p e before n → (d : Piece) → k < length pieces → p.index + 1 < (get_or pieces k d).end.0 →
    is_plain ms (get_or bytes p.index 0) ≡ true → IsStretchRun bytes pieces ms k p n 1
run-first {bytes} {pieces} {k} {p} {e} {before} {n} ms h d lt fits plain =
    let last : p.index ≡ p.index + 1 - 1 = omega arith in
    record {
      cursor = subst (λ (i : ℕ). IsCursor bytes pieces k (along p 1) (along p 1) (Some (get_or bytes i 0)) (n + 1)) last (plain_next h d lt fits (plain-parts ms _ plain).0);
      past = past-byte ms h d lt (omega (arith, fits)) plain;
    }

run-more : {bytes : List ℕ} {pieces : List Piece} {k : ℕ} {p : Point} {n m : ℕ} (ms : List ℕ) →
    IsStretchRun bytes pieces ms k p n m → (d : Piece) → k < length pieces → p.index + m + 1 < (get_or pieces k d).end.0 →
    is_plain ms (get_or bytes (p.index + m) 0) ≡ true → IsStretchRun bytes pieces ms k p n (m + 1)
run-more {bytes} {pieces} {k} {p} {n} {m} ms h d lt fits plain =
    let last : p.index + m ≡ p.index + (m + 1) - 1 = omega arith in
    let count : n + m + 1 ≡ n + (m + 1) = omega arith in
    let q : Point = along p (m + 1) in
    let here : IsCursor bytes pieces k q q (Some (get_or bytes (p.index + m) 0)) (n + m + 1) =
    subst (λ (x : Point). IsCursor bytes pieces k x x (Some (get_or bytes (p.index + m) 0)) (n + m + 1)) (along-more p m) (plain_next h.cursor d lt fits (plain-parts ms _ plain).0) in
    record {
      cursor = subst (λ (i : ℕ). IsCursor bytes pieces k q q (Some (get_or bytes i 0)) (n + (m + 1))) last (subst (λ (c : ℕ). IsCursor bytes pieces k q q (Some (get_or bytes (p.index + m) 0)) c) count here);
      past = h.past ∙ past-byte ms h.cursor d lt (omega (arith, fits)) plain ∙ ap (λ (c : ℕ). past_stretch ms (content_place bytes pieces c)) count;
    }

-- past m + 1 ordinary bytes that are not the last of their piece
run-suc : {bytes : List ℕ} {pieces : List Piece} {k : ℕ} {p e : Point} {before : Option ℕ} {n : ℕ} (ms : List ℕ) →
    IsCursor bytes pieces k p e before n → (d : Piece) → k < length pieces → (m : ℕ) →
    p.index + (m + 1) < (get_or pieces k d).end.0 → ArePlain ms bytes p.index (p.index + (m + 1)) →
    IsStretchRun bytes pieces ms k p n (m + 1)
run-suc {bytes} {pieces} {k} {p} {e} {before} {n} ms h d lt zero fits plain =
    run-first ms h d lt fits (plain p.index (omega arith) (omega arith))
run-suc {bytes} {pieces} {k} {p} {e} {before} {n} ms h d lt (suc m) fits plain =
    let one : m + 1 ≡ suc m = omega arith in
    subst (λ (x : ℕ). IsStretchRun bytes pieces ms k p n (x + 1)) one
    (run-more ms (run-suc ms h d lt m (omega (arith, fits)) (λ i a b. plain i a (omega (arith, b)))) d lt (omega (arith, fits)) (plain (p.index + (m + 1)) (omega arith) (omega arith)))

pub plain_run : {bytes : List ℕ} {pieces : List Piece} {k : ℕ} {p e : Point} {before : Option ℕ} {n : ℕ} (ms : List ℕ) →
    IsCursor bytes pieces k p e before n → (d : Piece) → k < length pieces → (m : ℕ) → 0 < m →
    p.index + m < (get_or pieces k d).end.0 → ArePlain ms bytes p.index (p.index + m) → IsStretchRun bytes pieces ms k p n m
plain_run {bytes} {pieces} {k} {p} {e} {before} {n} ms h d lt m pos fits plain =
    let same : m - 1 + 1 ≡ m = omega (arith, pos) in
    subst (λ (x : ℕ). IsStretchRun bytes pieces ms k p n x) same
    (run-suc ms h d lt (m - 1) (omega (arith, fits, pos)) (λ i a b. plain i a (omega (arith, b, pos))))
