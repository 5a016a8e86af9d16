-- A piece without the whitespace at its end.
use Rattle.std.proofs.Common.{◌≡◌, ℕ, suc, ◌+◌, ◌-◌, ◌<◌, ◌≤◌, refl, sym, ap, subst, ◌∙◌, List, [], ◌∷◌, ◌++◌, length, filter, get_or, Bool, true, false, ◌&&◌, ◌||◌, not, ◌==◌, nat_lt, if◌then◌else◌, arith, zero, take, drop, IsUtf8, length-drop}
use Rattle.std.specs.List.{list_all}
use Rattle.std.specs.Prelude.{All}
use Rattle.std.specs.Str.{IsCharBoundary}
use Rattle.std.proofs.lemmas.List.{append-nil, take-append-le, take_all}
use Rattle.std.proofs.lemmas.List.Elements.{All-push, All-cons, All-nil, All-drop}
use Rattle.std.proofs.lemmas.Grind.{flat_map-append}
use Rattle.std.proofs.lemmas.Str.{IsCharBoundary-before_ascii}
use Rattle.std.proofs.lemmas.Bool.Decides.{nat_tests}
use Rattle.markdown_event.specs.declared.event.Point.{Point}
use Rattle.markdown_content.specs.declared.parser.Piece.{Piece}
use Rattle.markdown_content.specs.Codes.{Code, codes_of, place_of, point_at, is_code_before, is_at_or_after, is_line_ending, is_line_ending_byte, tab_value, line_feed, space_value}
use Rattle.markdown_content.specs.Content.{is_place, is_piece, are_pieces, is_one_line, ends_line, piece_codes, content_of, IsBetweenCharacters, document_limit, IsTextContent}
use Rattle.markdown_content.specs.DocumentWalk.{codes_after}
use Rattle.markdown_content.proofs.PlaceOrder.{is_before, before-self, before-reach, at_or_after-is}
use Rattle.markdown_content.proofs.AdjacentCodes.{IsChain, before_in, from_in, before_in-none, split-at}
use Rattle.markdown_content.proofs.BytePlaces.{other-place}
use Rattle.markdown_content.proofs.ContentCodes.{piece-codes-is, piece_row}
use Rattle.markdown_content.proofs.LaterPieces.{are-drop}
use Rattle.markdown_content.proofs.DocumentCodes.{codes_at, value_at, stop_at, code_here, HasPlaceNumbers}
use Rattle.markdown_content.proofs.DocumentWalkLemmas.{chain-at, first-of, IsFirstCode}
use Rattle.markdown_content.proofs.DocumentPlaces.{stands-point, stands-there, codes-point, there, IsThere, next, IsNextPlace}
use Rattle.markdown_content.proofs.WalkTargets.{place-point}
use Rattle.markdown_model.specs.CodeTests.{is_whitespace_code, is_empty}
use Rattle.markdown_block_model.specs.TextStarts.{lines_begin, is_line}
use Rattle.markdown_block_model.proofs.TextsAreContents.{front-starts, behind-line, end-starts, end-twice, is-text}
use Rattle.markdown_block_model.specs.LineRests.{onto_end, trimmed_end}
use Rattle.markdown_blocks.specs.TextTrims.{is_space_byte, IsTrimmedPiece, IsPassed, IsTrimming}
use Rattle.markdown_blocks.specs.TextRows.{IsLinePiece, ArePlaced, IsTrimmedText}

and-true : (a b : Bool) → a ≡ true → b ≡ true → (a && b) ≡ true
and-true a b h k = ap (λ v. v && b) h ∙ k

and-first : (a b : Bool) → (a && b) ≡ true → a ≡ true
and-first true b h = refl
and-first false b h = h

and-second : (a b : Bool) → (a && b) ≡ true → b ≡ true
and-second true b h = h
and-second false b h = absurd (cc)

-- Ends of lists.

behind-trimmed : (xs bs : List Code) → list_all is_whitespace_code bs ≡ true → trimmed_end (xs ++ bs) ≡ trimmed_end xs
behind-trimmed [] [] h = refl
behind-trimmed [] (b ∷ bs) h = by_case (is_whitespace_code b) refl h (λ k. behind-trimmed [] bs k)
  where
    by_case : (t : Bool) → is_whitespace_code b ≡ t → (t && list_all is_whitespace_code bs) ≡ true → (list_all is_whitespace_code bs ≡ true → trimmed_end bs ≡ []) → onto_end is_whitespace_code b (trimmed_end bs) ≡ []
    by_case true e k f = ap (onto_end is_whitespace_code b) (f k) ∙ ap (λ v. if v then [] else b ∷ []) e
    by_case false e k f = absurd (cc)
behind-trimmed (a ∷ xs) bs h = ap (onto_end is_whitespace_code a) (behind-trimmed xs bs h)

last-kept : (xs : List Code) (c : Code) → is_whitespace_code c ≡ false → trimmed_end (xs ++ c ∷ []) ≡ xs ++ c ∷ []
last-kept [] c h = ap (λ v. if v then [] else c ∷ []) h
last-kept (a ∷ []) c h = ap (onto_end is_whitespace_code a) (last-kept [] c h)
last-kept (a ∷ b ∷ xs) c h = ap (onto_end is_whitespace_code a) (last-kept (b ∷ xs) c h)

-- Whitespace up to a place.

space-value : (b : ℕ) → is_space_byte b ≡ true → is_line_ending_byte b ≡ false → ((b == 32 || b == 9) || b == 10) ≡ true
space-value b h e = grind (arith, nat_tests)

value-space : (bytes : List ℕ) (p : Point) → is_space_byte (get_or bytes p.index 0) ≡ true → ((value_at bytes p == 32 || value_at bytes p == 9) || value_at bytes p == 10) ≡ true
value-space bytes p h = by_case (is_line_ending_byte b) refl
  where
    b : ℕ
    b = get_or bytes p.index 0

    other : (t : Bool) → ((b == 32 || b == 9) || b == 10) ≡ true
        → (((if t then space_value else b) == 32 || (if t then space_value else b) == 9) || (if t then space_value else b) == 10) ≡ true
    other true k = refl
    other false k = k

    by_case : (t : Bool) → is_line_ending_byte b ≡ t → ((value_at bytes p == 32 || value_at bytes p == 9) || value_at bytes p == 10) ≡ true
    by_case true e = rw e refl
    by_case false e = rw e (other (b == tab_value && nat_lt 0 p.vs) (space-value b h e))

filter-pass : (f : Code → Bool) (c : Code) (cs : List Code) → f c ≡ true → filter f (c ∷ cs) ≡ c ∷ filter f cs
filter-pass f c cs h = rw h refl

filter-skip : (f : Code → Bool) (c : Code) (cs : List Code) → f c ≡ false → filter f (c ∷ cs) ≡ filter f cs
filter-skip f c cs h = rw h refl

-- the byte of a code before a place is one of those that are whitespace
space-there : (bytes : List ℕ) (i v : ℕ) (e : ℕ × ℕ) → ((j : ℕ) → i ≤ j → j < e.0 → is_space_byte (get_or bytes j 0) ≡ true) → (0 < e.1 → is_space_byte (get_or bytes e.0 0) ≡ true)
    → is_before (i, v) e ≡ true → is_space_byte (get_or bytes i 0) ≡ true
space-there bytes i v e f g h = by_case (nat_lt i e.0) refl
  where
    same : nat_lt i e.0 ≡ false → i ≡ e.0
    same k = grind (arith, nat_tests, h, k)

    some : nat_lt i e.0 ≡ false → 0 < e.1
    some k = grind (arith, nat_tests, h, k)

    by_case : (b : Bool) → nat_lt i e.0 ≡ b → is_space_byte (get_or bytes i 0) ≡ true
    by_case true k = f i (omega arith) (grind (arith, nat_tests, k))
    by_case false k = subst (λ j. is_space_byte (get_or bytes j 0) ≡ true) (sym (same k)) (g (some k))

pub spaces-before : (bytes : List ℕ) (p : Point) (cs : List Code) (e : ℕ × ℕ) → HasPlaceNumbers bytes p → codes_at bytes p ≡ cs
    → ((i : ℕ) → p.index ≤ i → i < e.0 → is_space_byte (get_or bytes i 0) ≡ true) → (0 < e.1 → is_space_byte (get_or bytes e.0 0) ≡ true)
    → list_all is_whitespace_code (before_in e cs) ≡ true
spaces-before bytes p [] e s h f g = refl
spaces-before bytes p (c ∷ cs) e s h f g =
    let one : IsFirstCode bytes p c cs = first-of bytes p c cs s h in
    let later : p.index ≤ c.stop.index = grind (arith, nat_tests, one.later) in
    by_case (is_code_before e c) refl one (spaces-before bytes c.stop cs e one.stands (sym one.rest) (λ i k l. f i (omega (arith, k, later)) l) g)
  where
    by_case : (b : Bool) → is_code_before e c ≡ b → IsFirstCode bytes p c cs → list_all is_whitespace_code (before_in e cs) ≡ true → list_all is_whitespace_code (before_in e (c ∷ cs)) ≡ true
    by_case true k one more =
        let here : is_before (place_of p) e ≡ true = ap (λ (x : Code). is_before (place_of x.start) e) (sym one.code) ∙ k in
        let space : is_whitespace_code c ≡ true = ap is_whitespace_code one.code ∙ value-space bytes p (space-there bytes p.index p.vs e f g here) in
        ap (list_all is_whitespace_code) (filter-pass (is_code_before e) c cs k) ∙ and-true (is_whitespace_code c) (list_all is_whitespace_code (before_in e cs)) space more
    by_case false k one more = ap (list_all is_whitespace_code) (filter-skip (is_code_before e) c cs k) ∙ more

-- Splits of the codes from a place on.

filter-append : (f : Code → Bool) (xs ys : List Code) → filter f (xs ++ ys) ≡ filter f xs ++ filter f ys
filter-append f [] ys = refl
filter-append f (x ∷ xs) ys = by_case (f x) refl (filter-append f xs ys)
  where
    by_case : (b : Bool) → f x ≡ b → filter f (xs ++ ys) ≡ filter f xs ++ filter f ys → filter f (x ∷ (xs ++ ys)) ≡ filter f (x ∷ xs) ++ filter f ys
    by_case true e h = filter-pass f x (xs ++ ys) e ∙ ap (λ l. x ∷ l) h ∙ sym (ap (λ l. l ++ filter f ys) (filter-pass f x xs e))
    by_case false e h = filter-skip f x (xs ++ ys) e ∙ h ∙ sym (ap (λ l. l ++ filter f ys) (filter-skip f x xs e))

-- what stands before one place stands before a later one
before-twice : (q e : ℕ × ℕ) → is_before e q ≡ false → (cs : List Code) → before_in e (before_in q cs) ≡ before_in q cs
before-twice q e l [] = refl
before-twice q e l (c ∷ cs) = by_case (is_code_before q c) refl (before-twice q e l cs)
  where
    by_case : (b : Bool) → is_code_before q c ≡ b → before_in e (before_in q cs) ≡ before_in q cs → before_in e (before_in q (c ∷ cs)) ≡ before_in q (c ∷ cs)
    by_case true k h =
        ap (before_in e) (filter-pass (is_code_before q) c cs k) ∙ filter-pass (is_code_before e) c (before_in q cs) (before-reach (place_of c.start) q e k l) ∙ ap (λ l. c ∷ l) h
        ∙ sym (filter-pass (is_code_before q) c cs k)
    by_case false k h = ap (before_in e) (filter-skip (is_code_before q) c cs k) ∙ h ∙ sym (filter-skip (is_code_before q) c cs k)

flip-not : (b : Bool) → not b ≡ true → b ≡ false
flip-not true h = sym h
flip-not false h = refl

-- the codes from a place on are among those from an earlier one on
from-twice : (s q : ℕ × ℕ) → is_before q s ≡ false → (cs : List Code) → from_in q (from_in s cs) ≡ from_in q cs
from-twice s q l [] = refl
from-twice s q l (c ∷ cs) = by_case (is_code_before s c) refl (from-twice s q l cs)
  where
    by_case : (b : Bool) → is_code_before s c ≡ b → from_in q (from_in s cs) ≡ from_in q cs → from_in q (from_in s (c ∷ cs)) ≡ from_in q (c ∷ cs)
    by_case true k h =
        ap (from_in q) (filter-skip (λ d. not (is_code_before s d)) c cs (ap not k)) ∙ h
        ∙ sym (filter-skip (λ d. not (is_code_before q d)) c cs (ap not (before-reach (place_of c.start) s q k l)))
    by_case false k h = ap (from_in q) (filter-pass (λ d. not (is_code_before s d)) c cs (ap not k)) ∙ inner (is_code_before q c) refl h
      where
        inner : (b : Bool) → is_code_before q c ≡ b → from_in q (from_in s cs) ≡ from_in q cs → from_in q (c ∷ from_in s cs) ≡ from_in q (c ∷ cs)
        inner true j g = filter-skip (λ d. not (is_code_before q d)) c (from_in s cs) (ap not j) ∙ g ∙ sym (filter-skip (λ d. not (is_code_before q d)) c cs (ap not j))
        inner false j g = filter-pass (λ d. not (is_code_before q d)) c (from_in s cs) (ap not j) ∙ ap (λ l. c ∷ l) g ∙ sym (filter-pass (λ d. not (is_code_before q d)) c cs (ap not j))

chain-there : (bytes : List ℕ) (s : ℕ × ℕ) → IsThere bytes s → IsChain (point_at bytes s) (codes_after bytes s)
chain-there bytes s t =
    let p : Point = point_at bytes s in
    chain-at bytes p (codes_after bytes s) (stands-point bytes p t.point) (codes-point bytes p t.point ∙ ap (codes_after bytes) t.place)

-- the codes of a piece, cut at a place in it
cut : (bytes : List ℕ) (s q e : ℕ × ℕ) → IsThere bytes s → is_before q s ≡ false → is_before e q ≡ false
    → before_in e (codes_after bytes s) ≡ before_in q (codes_after bytes s) ++ before_in e (codes_after bytes q)
cut bytes s q e t low high =
    let cs : List Code = codes_after bytes s in
    ap (before_in e) (split-at (point_at bytes s) cs q (chain-there bytes s t)) ∙ filter-append (is_code_before e) (before_in q cs) (from_in q cs)
    ∙ ap (λ l. l ++ before_in e (from_in q cs)) (before-twice q e high cs) ∙ ap (λ l. before_in q cs ++ before_in e l) (from-twice s q low (codes_of bytes))

-- The end that is cut.

numbers : (bytes : List ℕ) (s : ℕ × ℕ) → IsThere bytes s → 0 < s.1 → (s.0 < length bytes) × (get_or bytes s.0 0 ≡ tab_value)
numbers bytes s t = subst (λ (x : ℕ × ℕ). 0 < x.1 → (x.0 < length bytes) × (get_or bytes x.0 0 ≡ tab_value)) t.place (stands-point bytes (point_at bytes s) t.point).in_tab

tab-space : (b : ℕ) → b ≡ tab_value → is_space_byte b ≡ true
tab-space b h = grind (arith, nat_tests, h)

last-tab : (bytes : List ℕ) (e : ℕ × ℕ) → is_place bytes e ≡ true → 0 < e.1 → is_space_byte (get_or bytes e.0 0) ≡ true
last-tab bytes e h k = tab-space (get_or bytes e.0 0) (numbers bytes e (there bytes e h) k).1

-- all codes from a place on are whitespace
pub all-spaces : (bytes : List ℕ) (q e : ℕ × ℕ) → is_place bytes q ≡ true → is_place bytes e ≡ true → ((i : ℕ) → q.0 ≤ i → i < e.0 → is_space_byte (get_or bytes i 0) ≡ true)
    → list_all is_whitespace_code (before_in e (codes_after bytes q)) ≡ true
all-spaces bytes q e h k f =
    let t : IsThere bytes q = there bytes q h in
    let p : Point = point_at bytes q in
    let index : p.index ≡ q.0 = ap (λ (x : ℕ × ℕ). x.0) t.place in
    spaces-before bytes p (codes_after bytes q) e (stands-point bytes p t.point) (codes-point bytes p t.point ∙ ap (codes_after bytes) t.place) (λ i a b. f i (omega (arith, index, a)) b) (last-tab bytes e k)

-- nothing but whitespace
pub passed-all : (bytes : List ℕ) (piece : Piece) (index : ℕ) → IsPassed bytes piece.start piece.end index → index ≤ piece.start.0 → trimmed_end (piece_codes (codes_of bytes) piece) ≡ []
passed-all bytes piece index h l =
    ap trimmed_end (piece-codes-is bytes piece)
    ∙ behind-trimmed [] (before_in piece.end (codes_after bytes piece.start)) (all-spaces bytes piece.start piece.end h.start h.end (λ i a b. h.spaces i (omega (arith, l, a)) b))

other-value : (bytes : List ℕ) (p : Point) → is_space_byte (get_or bytes p.index 0) ≡ false → value_at bytes p ≡ get_or bytes p.index 0
other-value bytes p h =
    let plain : is_line_ending_byte (get_or bytes p.index 0) ≡ false = grind (arith, nat_tests, h) in
    let tab : (get_or bytes p.index 0 == tab_value) ≡ false = grind (arith, nat_tests, h) in
    rw (plain, tab) refl

other-stop : (bytes : List ℕ) (p : Point) → is_space_byte (get_or bytes p.index 0) ≡ false → place_of (stop_at bytes p) ≡ (p.index + 1, 0)
other-stop bytes p h =
    let plain : is_line_ending_byte (get_or bytes p.index 0) ≡ false = grind (arith, nat_tests, h) in
    let tab : (get_or bytes p.index 0 == tab_value) ≡ false = grind (arith, nat_tests, h) in
    rw (plain, tab) refl

not-space : (n : ℕ) → is_space_byte n ≡ false → ((n == 32 || n == 9) || n == 10) ≡ false
not-space n h = grind (arith, nat_tests)

-- Numbers of places.

order-index : (a b c d : ℕ) → is_before (c, d) (a, b) ≡ false → a ≤ c
order-index a b c d h = grind (arith, nat_tests)

behind-start : (a b i : ℕ) → a < i → is_before (i, 0) (a, b) ≡ false
behind-start a b i h = grind (arith, nat_tests)

next-behind : (i j : ℕ) → i + 1 ≡ j → is_before (j, 0) (i, 0) ≡ false
next-behind i j h = grind (arith, nat_tests)

next-ahead : (i j : ℕ) → i + 1 ≡ j → is_before (i, 0) (j, 0) ≡ true
next-ahead i j h = grind (arith, nat_tests)

end-behind : (i c d : ℕ) → i ≤ c → is_before (c, d) (i, 0) ≡ false
end-behind i c d h = grind (arith, nat_tests)

at-start : (a b i : ℕ) → a ≤ i → (a ≡ i → b ≤ 0) → is_before (i, 0) (a, b) ≡ false
at-start a b i h k = by_case (nat_lt a i) refl
  where
    by_case : (t : Bool) → nat_lt a i ≡ t → is_before (i, 0) (a, b) ≡ false
    by_case true e = behind-start a b i (grind (arith, nat_tests, e))
    by_case false e =
        let same : a ≡ i = grind (arith, nat_tests, e, h) in
        let low : b ≤ 0 = k same in
        grind (arith, nat_tests, same, low)

true-false : {P : Type 0} → true ≡ false → P
true-false e = absurd (cc)

space-feed : (n : ℕ) → n ≡ line_feed → is_space_byte n ≡ true
space-feed n h = grind (arith, nat_tests, h)

space-small : (n : ℕ) → is_space_byte n ≡ true → n < 128
space-small n h = grind (arith, nat_tests)

-- up to a byte that is no whitespace
pub passed-some : (bytes : List ℕ) (piece : Piece) (index before : ℕ) → IsPassed bytes piece.start piece.end index → before + 1 ≡ index → piece.start.0 < index → is_space_byte (get_or bytes before 0) ≡ false
    → IsTrimmedPiece bytes piece (record { start = piece.start; end = (index, 0) })
passed-some bytes piece index before h i low other =
    let s : ℕ × ℕ = piece.start in
    let e : ℕ × ℕ = piece.end in
    let q : ℕ × ℕ = (index, 0) in
    let ts : IsThere bytes s = there bytes s h.start in
    let within : before < length bytes = omega (arith, i, h.within) in
    let is : is_place bytes (before, 0) ≡ true = sym (other-place bytes before within (λ k. true-false (sym (space-feed (get_or bytes before 0) k) ∙ other))) in
    let tr : IsThere bytes (before, 0) = there bytes (before, 0) is in
    let r : Point = point_at bytes (before, 0) in
    let at : r.index ≡ before = ap (λ (x : ℕ × ℕ). x.0) tr.place in
    let here : is_space_byte (get_or bytes r.index 0) ≡ false = ap (λ j. is_space_byte (get_or bytes j 0)) at ∙ other in
    let step : IsNextPlace bytes r = next bytes r tr.point (omega (arith, at, within)) in
    let u : Point = stop_at bytes r in
    let stop : place_of u ≡ q = other-stop bytes r here ∙ ap (λ (j : ℕ). let x : ℕ × ℕ = (j, 0) in x) (ap (λ j. j + 1) at ∙ i) in
    let q_is : is_place bytes q ≡ true = subst (λ (x : ℕ × ℕ). is_place bytes x ≡ true) stop (place-point bytes u step.point) in
    let first : is_before (before, 0) s ≡ false = at-start s.0 s.1 before (omega (arith, i, low)) (λ same. not-in-tab ts same) in
    let sq : is_before q s ≡ false = behind-start s.0 s.1 index low in
    let eq : is_before e q ≡ false = end-behind index e.0 e.1 h.high in
    let cs : List Code = codes_after bytes s in
    let c : Code = code_here bytes r in
    let none : before_in q (codes_after bytes (place_of u)) ≡ [] =
    before_in-none u (codes_after bytes (place_of u)) q (chain-at bytes u (codes_after bytes (place_of u)) (stands-point bytes u step.point) (codes-point bytes u step.point))
    (ap (λ (x : ℕ × ℕ). is_before x q) stop ∙ before-self q) in
    let ahead : is_before (place_of r) q ≡ true = ap (λ (x : ℕ × ℕ). is_before x q) tr.place ∙ next-ahead before index i in
    let last : before_in q (codes_after bytes (before, 0)) ≡ c ∷ [] =
    ap (before_in q) (ap (codes_after bytes) (sym tr.place) ∙ step.codes) ∙ filter-pass (is_code_before q) c (codes_after bytes (place_of u)) ahead ∙ ap (λ l. c ∷ l) none in
    let value : is_whitespace_code c ≡ false = ap (λ n. (n == 32 || n == 9) || n == 10) (other-value bytes r here) ∙ not-space (get_or bytes r.index 0) here in
    let codes : before_in q cs ≡ before_in (before, 0) cs ++ c ∷ [] = cut bytes s (before, 0) q ts first (next-behind before index i) ∙ ap (λ l. before_in (before, 0) cs ++ l) last in
    let spaces : list_all is_whitespace_code (before_in e (codes_after bytes q)) ≡ true = all-spaces bytes q e q_is h.end h.spaces in
    let short : Piece = record { start = s; end = q } in
    record {
      start = refl;
      is = and-true (is_place bytes s && is_place bytes q) (is_at_or_after s q) (and-true (is_place bytes s) (is_place bytes q) h.start q_is) (at_or_after-is s q ∙ ap not sq);
      codes = piece-codes-is bytes short ∙ codes ∙ sym (last-kept (before_in (before, 0) cs) c value) ∙ ap trimmed_end (sym codes)
          ∙ sym (behind-trimmed (before_in q cs) (before_in e (codes_after bytes q)) spaces) ∙ ap trimmed_end (sym (cut bytes s q e ts sq eq) ∙ sym (piece-codes-is bytes piece));
      some = λ k. not-empty (before_in (before, 0) cs) c (sym codes ∙ sym (piece-codes-is bytes short) ∙ k);
      between_characters = λ u b. (b.0, cut-between (nat_lt index e.0) refl b.1);
    }
  where
    not-in-tab : IsThere bytes piece.start → piece.start.0 ≡ before → piece.start.1 ≤ 0
    not-in-tab ts same = by_case (nat_lt 0 piece.start.1) refl
      where
        by_case : (t : Bool) → nat_lt 0 piece.start.1 ≡ t → piece.start.1 ≤ 0
        by_case true k =
            let some : 0 < piece.start.1 = grind (arith, nat_tests, k) in
            true-false (sym (tab-space (get_or bytes before 0) (ap (λ j. get_or bytes j 0) (sym same) ∙ (numbers bytes piece.start ts some).1)) ∙ other)
        by_case false k = grind (arith, nat_tests, k)

    cut-between : (t : Bool) → nat_lt index piece.end.0 ≡ t → IsCharBoundary bytes piece.end.0 → IsCharBoundary bytes index
    cut-between true k b =
        let lt : index < piece.end.0 = grind (arith, nat_tests, k) in
        let end : piece.end.0 ≤ length bytes = (stands-there bytes piece.end (there bytes piece.end h.end)).0 in
        IsCharBoundary-before_ascii bytes index (omega (arith, lt, end)) (space-small (get_or bytes index 0) (h.spaces index (omega arith) lt))
    cut-between false k b = let same : piece.end.0 ≡ index = grind (arith, nat_tests, k, h.high) in subst (λ n. IsCharBoundary bytes n) same b

    not-empty : (xs : List Code) (c : Code) → xs ++ c ∷ [] ≡ [] → ⊥
    not-empty [] c k = cc
    not-empty (x ∷ xs) c k = cc

pub passed-start : (bytes : List ℕ) (piece : Piece) → is_piece bytes piece ≡ true → IsPassed bytes piece.start piece.end piece.end.0
passed-start bytes piece h =
    let places = and-first (is_place bytes piece.start && is_place bytes piece.end) (is_at_or_after piece.start piece.end) h in
    let end : is_place bytes piece.end ≡ true = and-second (is_place bytes piece.start) (is_place bytes piece.end) places in
    let order : is_before piece.end piece.start ≡ false =
    flip-not (is_before piece.end piece.start) (sym (at_or_after-is piece.start piece.end) ∙ and-second (is_place bytes piece.start && is_place bytes piece.end) (is_at_or_after piece.start piece.end) h) in
    record {
      start = and-first (is_place bytes piece.start) (is_place bytes piece.end) places;
      end = end;
      low = order-index piece.start.0 piece.start.1 piece.end.0 piece.end.1 order;
      high = omega arith;
      within = (stands-there bytes piece.end (there bytes piece.end end)).0;
      spaces = λ i a b. absurd (omega (arith, a, b));
    }

pub passed-less : (bytes : List ℕ) (s e : ℕ × ℕ) (index before : ℕ) → IsPassed bytes s e index → before + 1 ≡ index → s.0 < index → is_space_byte (get_or bytes before 0) ≡ true → IsPassed bytes s e before
passed-less bytes s e index before h i low space = record {
  start = h.start;
  end = h.end;
  low = omega (arith, i, low);
  high = omega (arith, i, h.high);
  within = omega (arith, i, h.within);
  spaces = λ j a b. less j a b (nat_lt before j) refl;
}
  where
    less : (j : ℕ) → before ≤ j → j < e.0 → (t : Bool) → nat_lt before j ≡ t → is_space_byte (get_or bytes j 0) ≡ true
    less j a b true k = h.spaces j (grind (arith, nat_tests, i, k)) b
    less j a b false k = let same : before ≡ j = grind (arith, nat_tests, a, k) in subst (λ n. is_space_byte (get_or bytes n 0) ≡ true) same space

-- A text without the whitespace at its end.

all-space : (cs : List Code) → trimmed_end cs ≡ [] → list_all is_whitespace_code cs ≡ true
all-space [] h = refl
all-space (c ∷ cs) h = by_rest (trimmed_end cs) h (all-space cs)
  where
    by_test : (t : Bool) → (if t then [] else c ∷ []) ≡ [] → t ≡ true
    by_test true e = refl
    by_test false e = absurd (cc)

    by_rest : (r : List Code) → onto_end is_whitespace_code c r ≡ [] → (r ≡ [] → list_all is_whitespace_code cs ≡ true) → (is_whitespace_code c && list_all is_whitespace_code cs) ≡ true
    by_rest [] e f = and-true (is_whitespace_code c) (list_all is_whitespace_code cs) (by_test (is_whitespace_code c) e) (f refl)
    by_rest (d ∷ ds) e f = absurd (cc)

onto-some : (c : Code) (r : List Code) → (r ≡ [] → ⊥) → onto_end is_whitespace_code c r ≡ c ∷ r
onto-some c [] h = absurd (h refl)
onto-some c (d ∷ ds) h = refl

trimmed-behind : (xs ys : List Code) → (trimmed_end ys ≡ [] → ⊥) → trimmed_end (xs ++ ys) ≡ xs ++ trimmed_end ys
trimmed-behind [] ys h = refl
trimmed-behind (x ∷ xs) ys h = ap (onto_end is_whitespace_code x) (trimmed-behind xs ys h) ∙ onto-some x (xs ++ trimmed_end ys) (some xs)
  where
    some : (zs : List Code) → zs ++ trimmed_end ys ≡ [] → ⊥
    some [] k = h k
    some (z ∷ zs) k = cc

abbrev links : List ℕ → Piece → Piece → Bool
links bytes a b = ends_line (piece_codes (codes_of bytes) a) && (is_at_or_after a.end b.start && is_one_line bytes a.end b.start)

front-pieces : (bytes : List ℕ) (ps : List Piece) (p : Piece) → are_pieces bytes (ps ++ p ∷ []) ≡ true → are_pieces bytes ps ≡ true
front-pieces bytes [] p h = refl
front-pieces bytes (a ∷ []) p h =
    let both = and-first (is_piece bytes a && are_pieces bytes (p ∷ [])) (links bytes a p) h in
    and-true (is_piece bytes a && true) true (and-true (is_piece bytes a) true (and-first (is_piece bytes a) (are_pieces bytes (p ∷ [])) both) refl) refl
front-pieces bytes (a ∷ b ∷ rest) p h =
    let both = and-first (is_piece bytes a && are_pieces bytes (b ∷ rest ++ p ∷ [])) (links bytes a b) h in
    and-true (is_piece bytes a && are_pieces bytes (b ∷ rest)) (links bytes a b)
    (and-true (is_piece bytes a) (are_pieces bytes (b ∷ rest)) (and-first (is_piece bytes a) (are_pieces bytes (b ∷ rest ++ p ∷ [])) both)
    (front-pieces bytes (b ∷ rest) p (and-second (is_piece bytes a) (are_pieces bytes (b ∷ rest ++ p ∷ [])) both)))
    (and-second (is_piece bytes a && are_pieces bytes (b ∷ rest ++ p ∷ [])) (links bytes a b) h)

last-piece : (bytes : List ℕ) (ps : List Piece) (p : Piece) → are_pieces bytes (ps ++ p ∷ []) ≡ true → is_piece bytes p ≡ true
last-piece bytes [] p h = and-first (is_piece bytes p) true (and-first (is_piece bytes p && true) true h)
last-piece bytes (a ∷ []) p h =
    last-piece bytes [] p (and-second (is_piece bytes a) (are_pieces bytes (p ∷ [])) (and-first (is_piece bytes a && are_pieces bytes (p ∷ [])) (links bytes a p) h))
last-piece bytes (a ∷ b ∷ rest) p h =
    last-piece bytes (b ∷ rest) p
    (and-second (is_piece bytes a) (are_pieces bytes (b ∷ rest ++ p ∷ [])) (and-first (is_piece bytes a && are_pieces bytes (b ∷ rest ++ p ∷ [])) (links bytes a b) h))

-- with another last piece that starts there
other-last : (bytes : List ℕ) (ps : List Piece) (p q : Piece) → q.start ≡ p.start → is_piece bytes q ≡ true → are_pieces bytes (ps ++ p ∷ []) ≡ true → are_pieces bytes (ps ++ q ∷ []) ≡ true
other-last bytes [] p q e i h = and-true (is_piece bytes q && true) true (and-true (is_piece bytes q) true i refl) refl
other-last bytes (a ∷ []) p q e i h =
    let both = and-first (is_piece bytes a && are_pieces bytes (p ∷ [])) (links bytes a p) h in
    and-true (is_piece bytes a && are_pieces bytes (q ∷ [])) (links bytes a q)
    (and-true (is_piece bytes a) (are_pieces bytes (q ∷ [])) (and-first (is_piece bytes a) (are_pieces bytes (p ∷ [])) both) (other-last bytes [] p q e i refl-pieces))
    (ap (λ (s : ℕ × ℕ). ends_line (piece_codes (codes_of bytes) a) && (is_at_or_after a.end s && is_one_line bytes a.end s)) e
    ∙ and-second (is_piece bytes a && are_pieces bytes (p ∷ [])) (links bytes a p) h)
  where
    refl-pieces : are_pieces bytes ([] ++ p ∷ []) ≡ true
    refl-pieces = and-second (is_piece bytes a) (are_pieces bytes (p ∷ [])) (and-first (is_piece bytes a && are_pieces bytes (p ∷ [])) (links bytes a p) h)
other-last bytes (a ∷ b ∷ rest) p q e i h =
    let both = and-first (is_piece bytes a && are_pieces bytes (b ∷ rest ++ p ∷ [])) (links bytes a b) h in
    and-true (is_piece bytes a && are_pieces bytes (b ∷ rest ++ q ∷ [])) (links bytes a b)
    (and-true (is_piece bytes a) (are_pieces bytes (b ∷ rest ++ q ∷ [])) (and-first (is_piece bytes a) (are_pieces bytes (b ∷ rest ++ p ∷ [])) both)
    (other-last bytes (b ∷ rest) p q e i (and-second (is_piece bytes a) (are_pieces bytes (b ∷ rest ++ p ∷ [])) both)))
    (and-second (is_piece bytes a && are_pieces bytes (b ∷ rest ++ p ∷ [])) (links bytes a b) h)

all-front : (P : Piece → Type 0) (ps : List Piece) (p : Piece) → All P (ps ++ p ∷ []) → All P ps
all-front P [] p h = All-nil P
all-front P (x ∷ xs) p h = All-cons P x xs (h 0 x (omega arith)) (all-front P xs p (λ k d l. h (suc k) d (omega (arith, l))))

all-last : (P : Piece → Type 0) (ps : List Piece) (p : Piece) → All P (ps ++ p ∷ []) → P p
all-last P [] p h = h 0 p (omega arith)
all-last P (x ∷ xs) p h = all-last P xs p (λ k d l. h (suc k) d (omega (arith, l)))

content-push : (bytes : List ℕ) (ps : List Piece) (p : Piece) → content_of bytes (ps ++ p ∷ []) ≡ content_of bytes ps ++ piece_codes (codes_of bytes) p
content-push bytes ps p = flat_map-append (piece_codes (codes_of bytes)) ps (p ∷ []) ∙ ap (λ (xs : List Code). content_of bytes ps ++ xs) (append-nil (piece_codes (codes_of bytes) p))

-- a line without the whitespace at its end is one
end-line : (cs : List Code) → is_line cs ≡ true → is_line (trimmed_end cs) ≡ true
end-line [] h = refl
end-line (c ∷ cs) h = onto (trimmed_end cs) (by_ending (is_line_ending c) (end-line cs) h)
  where
    none : (xs : List Code) → is_empty xs ≡ true → is_empty (trimmed_end xs) ≡ true
    none [] k = refl
    none (x ∷ xs) k = absurd (cc)

    by_ending : (b : Bool) → (is_line cs ≡ true → is_line (trimmed_end cs) ≡ true) → (if b then is_empty cs else is_line cs) ≡ true → (if b then is_empty (trimmed_end cs) else is_line (trimmed_end cs)) ≡ true
    by_ending true more k = none cs k
    by_ending false more k = more k

    by_test : (b : Bool) → is_line (c ∷ []) ≡ true → is_line (if b then [] else c ∷ []) ≡ true
    by_test true k = refl
    by_test false k = k

    onto : (r : List Code) → (if is_line_ending c then is_empty r else is_line r) ≡ true → is_line (onto_end is_whitespace_code c r) ≡ true
    onto [] k = by_test (is_whitespace_code c) k
    onto (d ∷ ds) k = k

pub trimming-start : (bytes : List ℕ) (text : List Piece) → are_pieces bytes text ≡ true → IsTrimming bytes text text
trimming-start bytes text h = record { in_order = h; codes = refl; placed = λ k. k }

-- the last piece has nothing but whitespace
pub trimming-less : (bytes : List ℕ) (text left front : List Piece) (p : Piece) → IsTrimming bytes text left → left ≡ front ++ p ∷ [] → trimmed_end (piece_codes (codes_of bytes) p) ≡ [] → IsTrimming bytes text front
trimming-less bytes text left front p h e n = record {
  in_order = front-pieces bytes front p (subst (λ xs. are_pieces bytes xs ≡ true) e h.in_order);
  codes = sym (behind-trimmed (content_of bytes front) (piece_codes (codes_of bytes) p) (all-space (piece_codes (codes_of bytes) p) n)) ∙ ap trimmed_end (sym (content-push bytes front p))
      ∙ ap (λ xs. trimmed_end (content_of bytes xs)) (sym e) ∙ h.codes;
  placed = λ k. let l = subst (λ xs. ArePlaced bytes xs) e (h.placed k) in
      record {
        in_order = front-pieces bytes front p l.in_order;
        between_characters = λ u. all-front (IsBetweenCharacters bytes) front p (l.between_characters u);
        one_line_each = all-front (IsLinePiece bytes) front p l.one_line_each;
        lines = front-starts true (content_of bytes front) (piece_codes (codes_of bytes) p) (ap (lines_begin true) (sym (content-push bytes front p)) ∙ l.lines);
      };
}

-- it has something else
pub trimming-end : (bytes : List ℕ) (text left front after : List Piece) (p q : Piece) → IsTrimming bytes text left → left ≡ front ++ p ∷ [] → IsTrimmedPiece bytes p q → after ≡ front ++ q ∷ []
    → content_of bytes after ≡ trimmed_end (content_of bytes text)
trimming-end bytes text left front after p q h e t a =
    ap (content_of bytes) a ∙ content-push bytes front q ∙ ap (λ xs. content_of bytes front ++ xs) t.codes
    ∙ sym (trimmed-behind (content_of bytes front) (piece_codes (codes_of bytes) p) (λ k. t.some (t.codes ∙ k))) ∙ ap trimmed_end (sym (content-push bytes front p))
    ∙ ap (λ xs. trimmed_end (content_of bytes xs)) (sym e) ∙ h.codes

pub trimming-text : (bytes : List ℕ) (text left front after : List Piece) (p q : Piece) → IsTrimming bytes text left → left ≡ front ++ p ∷ [] → IsTrimmedPiece bytes p q → after ≡ front ++ q ∷ []
    → ArePlaced bytes text → IsTrimmedText bytes after
trimming-text bytes text left front after p q h e t a k =
    let l = subst (λ xs. ArePlaced bytes xs) e (h.placed k) in
    let codes : content_of bytes (front ++ q ∷ []) ≡ trimmed_end (content_of bytes text) = trimming-end bytes text left front (front ++ q ∷ []) p q h e t refl in
    subst (λ xs. IsTrimmedText bytes xs) (sym a) (record {
      placed = record {
        in_order = other-last bytes front p q t.start t.is l.in_order;
        between_characters = λ u. All-push (IsBetweenCharacters bytes) front q (all-front (IsBetweenCharacters bytes) front p (l.between_characters u))
            (t.between_characters u (all-last (IsBetweenCharacters bytes) front p (l.between_characters u)));
        one_line_each = All-push (IsLinePiece bytes) front q (all-front (IsLinePiece bytes) front p l.one_line_each)
            (ap is_line t.codes ∙ end-line (piece_codes (codes_of bytes) p) (all-last (IsLinePiece bytes) front p l.one_line_each));
        lines = ap (lines_begin true) codes ∙ end-starts is_whitespace_code true (content_of bytes text) k.lines;
      };
      ends = ap trimmed_end codes ∙ end-twice is_whitespace_code (content_of bytes text) ∙ sym codes;
    })

-- so codes are left
pub trimming-some : (bytes : List ℕ) (front after : List Piece) (p q : Piece) → IsTrimmedPiece bytes p q → after ≡ front ++ q ∷ [] → content_of bytes after ≡ [] → after ≡ []
trimming-some bytes front after p q t a e =
    absurd (t.some (last-none (content_of bytes front) (piece_codes (codes_of bytes) q) (sym (content-push bytes front q) ∙ ap (content_of bytes) (sym a) ∙ e)))
  where
    last-none : (xs ys : List Code) → xs ++ ys ≡ [] → ys ≡ []
    last-none [] ys k = k
    last-none (x ∷ xs) ys k = absurd (cc)

pub no-pieces : (ps : List Piece) → length ps ≡ 0 → ps ≡ []
no-pieces [] e = refl
no-pieces (p ∷ ps) e = absurd (omega (arith, e))

-- the last piece is one of the document
pub trimming-last : (bytes : List ℕ) (text left front : List Piece) (p : Piece) → IsTrimming bytes text left → left ≡ front ++ p ∷ [] → is_piece bytes p ≡ true
trimming-last bytes text left front p h e = last-piece bytes front p (subst (λ xs. are_pieces bytes xs ≡ true) e h.in_order)

-- A text behind some of its lines.

tail-lines : (bytes : List ℕ) (p : Piece) (rest : List Piece) → are_pieces bytes (p ∷ rest) ≡ true → lines_begin true (content_of bytes (p ∷ rest)) ≡ true → lines_begin true (content_of bytes rest) ≡ true
tail-lines bytes p [] h l = refl
tail-lines bytes p (q ∷ more) h l =
    behind-line true (piece_codes (codes_of bytes) p) (content_of bytes (q ∷ more))
    (and-first (ends_line (piece_codes (codes_of bytes) p)) (is_at_or_after p.end q.start && is_one_line bytes p.end q.start) (and-second (is_piece bytes p && are_pieces bytes (q ∷ more)) (links bytes p q) h)) l

lines-behind : (bytes : List ℕ) (k : ℕ) (ps : List Piece) → are_pieces bytes ps ≡ true → lines_begin true (content_of bytes ps) ≡ true → lines_begin true (content_of bytes (drop k ps)) ≡ true
lines-behind bytes zero ps h l = l
lines-behind bytes (suc k) [] h l = refl
lines-behind bytes (suc k) (p ∷ rest) h l = lines-behind bytes k rest (piece_row bytes p rest h).others (tail-lines bytes p rest h l)

pub placed-behind : (bytes : List ℕ) (k : ℕ) (ps : List Piece) → ArePlaced bytes ps → ArePlaced bytes (drop k ps)
placed-behind bytes k ps h = record {
  in_order = are-drop bytes k ps h.in_order;
  between_characters = λ u. All-drop (IsBetweenCharacters bytes) k ps (h.between_characters u);
  one_line_each = All-drop (IsLinePiece bytes) k ps h.one_line_each;
  lines = lines-behind bytes k ps h.in_order h.lines;
}

-- the first pieces go to the end, and are cut there
pub rotated : (n k : ℕ) (ps : List Piece) → n ≡ length ps → take (n - k) (drop k ps ++ take k ps) ≡ drop k ps
rotated n k ps e =
    let m : length (drop k ps) ≡ length ps - k = length-drop k ps in
    take-append-le (n - k) (drop k ps) (take k ps) (omega (arith, m, e)) ∙ take_all (n - k) (drop k ps) (omega (arith, m, e))

pub text-content : (bytes : List ℕ) (ps : List Piece) → IsTrimmedText bytes ps → IsUtf8 bytes → length bytes ≤ document_limit → IsTextContent bytes ps
text-content bytes ps h u l = record {
  is_content = record { is_text = u; fits = l; between_characters = h.placed.between_characters u; in_order = h.placed.in_order };
  is_filled = (is-text (content_of bytes ps) h.placed.lines h.ends).filled;
}

-- nothing is left
pub none-content : (bytes : List ℕ) (ps : List Piece) → length ps ≡ 0 → IsUtf8 bytes → length bytes ≤ document_limit → IsTextContent bytes ps
none-content bytes [] e u l = text-content bytes [] (record { placed = record { in_order = refl; between_characters = λ v. All-nil (IsBetweenCharacters bytes); one_line_each = All-nil (IsLinePiece bytes); lines = refl }; ends = refl }) u l
none-content bytes (p ∷ ps) e u l = absurd (omega (arith, e))
