-- The codes of a line from byte to byte.
use Rattle.std.proofs.Common.{◌≡◌, ℕ, zero, suc, ◌+◌, ◌-◌, ◌≤◌, ◌<◌, refl, ap, ◌∙◌, sym, subst, List, [], ◌∷◌, ◌++◌, length, take, drop, get_or, filter, Bool, true, false, ◌&&◌, ◌||◌, not, nat_lt, ◌==◌, if◌then◌else◌, arith, append_assoc, append-nil, drop-cons, add-one}
use Rattle.std.specs.Prelude.{slice_range}
use Rattle.std.proofs.lemmas.Bool.Decides.{nat_tests}
use Rattle.std.proofs.lemmas.Grind.{flat_map-append}
use Rattle.markdown_event.specs.declared.event.Point.{Point}
use Rattle.markdown_content.specs.Codes.{Code, codes_of, place_of, next_column, is_line_ending, is_line_ending_byte, line_ending_len}
use Rattle.markdown_content.specs.Content.{is_in_piece, piece_codes}
use Rattle.markdown_content.specs.DocumentWalk.{IsPoint, codes_after}
use Rattle.markdown_content.specs.declared.parser.Piece.{Piece}
use Rattle.markdown_content.proofs.PlaceOrder.{is_before}
use Rattle.markdown_content.proofs.DocumentCodes.{value_at, stop_at, code_here, tab_left}
use Rattle.markdown_content.proofs.DocumentWalkLemmas.{past-end}
use Rattle.markdown_content.proofs.DocumentPlaces.{next, IsNextPlace, stands-point, codes-point, vs-small}
use Rattle.markdown_model.specs.CodeTests.{values_of}
use Rattle.markdown_model.specs.Grammar.{span}
use Rattle.markdown_block_line.proofs.RestValues.{by_bool}
use Rattle.markdown_block_definitions.specs.TextCopies.{IsSpot, IsRead, codes_left, point_of, spot_place, is_spot_before}
use Rattle.markdown_block_definitions.specs.declared.copy.Spot.{Spot}
use Rattle.markdown_block_definitions.proofs.TextPushes.{keep, leave, inside, nothing-behind, left-more, still-behind}
use Rattle.markdown_html_model.specs.Escaped.{escaped, escaped_byte}
use Rattle.markdown_html_model.specs.Html.{Page}
use Rattle.markdown_page_model.specs.PageTexts.{text_of, is_later_column, ending, own_ending, line_html, block_ending}
use Rattle.markdown_html_model.proofs.NulInHtml.{replaced-append}
use Rattle.markdown_page.specs.CodeLines.{text_as, before_ending, from_ending, kept, begins_before, BeginsAtByte, IsPastColumns, text_behind}

-- Texts.

escaped-append : (xs ys : List ℕ) → escaped (xs ++ ys) ≡ escaped xs ++ escaped ys
unfolding escaped
escaped-append xs ys = flat_map-append escaped_byte xs ys

pub text_as-append : (raw : Bool) (xs ys : List ℕ) → text_as raw (xs ++ ys) ≡ text_as raw xs ++ text_as raw ys
text_as-append true xs ys = replaced-append xs ys
text_as-append false xs ys = escaped-append xs ys

-- the text of a line that begins with a whole code
abbrev pub kept_text : List Code → List ℕ
kept_text cs = values_of (kept (before_ending cs))

pub span-pass : (f : Code → Bool) (c : Code) (cs : List Code) → f c ≡ true → span f (c ∷ cs) ≡ (c ∷ (span f cs).0, (span f cs).1)
span-pass f c cs e = ap (λ (b : Bool). let s : List Code × List Code = elim b [ true ↦ let s = span f cs in (c ∷ s.0, s.1) | false ↦ ([], c ∷ cs) ] in s) e

pub span-stop : (f : Code → Bool) (c : Code) (cs : List Code) → f c ≡ false → span f (c ∷ cs) ≡ ([], c ∷ cs)
span-stop f c cs e = ap (λ (b : Bool). let s : List Code × List Code = elim b [ true ↦ let s = span f cs in (c ∷ s.0, s.1) | false ↦ ([], c ∷ cs) ] in s) e

-- the text of codes of which the first are later columns of a tab
abbrev parts_text : List Code × List Code → List ℕ
parts_text s = values_of s.0 ++ values_of (kept s.1)

pub text-later : (c : Code) (cs : List Code) → is_later_column c ≡ true → text_of (c ∷ cs) ≡ c.value ∷ text_of cs
text-later c cs l = ap parts_text (span-pass is_later_column c cs l)

pub text-first : (c : Code) (cs : List Code) → is_later_column c ≡ false → text_of (c ∷ cs) ≡ values_of (kept (c ∷ cs))
text-first c cs l = ap parts_text (span-stop is_later_column c cs l)

pub keeps : (c : Code) (cs : List Code) → is_later_column c ≡ false → values_of (kept (c ∷ cs)) ≡ c.value ∷ values_of (kept cs)
keeps c cs l = ap values_of (keep (λ d. not (is_later_column d)) c cs (ap not l))

pub drops : (c : Code) (cs : List Code) → is_later_column c ≡ true → values_of (kept (c ∷ cs)) ≡ values_of (kept cs)
drops c cs l = ap values_of (leave (λ d. not (is_later_column d)) c cs (ap not l))

module _ (c : Code) (cs : List Code) where
  before-more : is_line_ending c ≡ false → before_ending (c ∷ cs) ≡ c ∷ before_ending cs
  before-more e = ap (λ (s : List Code × List Code). s.0) (span-pass (λ d. not (is_line_ending d)) c cs (ap not e))

  before-none : is_line_ending c ≡ true → before_ending (c ∷ cs) ≡ []
  before-none e = ap (λ (s : List Code × List Code). s.0) (span-stop (λ d. not (is_line_ending d)) c cs (ap not e))

  pub later-text : is_line_ending c ≡ false → is_later_column c ≡ true → text_of (before_ending (c ∷ cs)) ≡ c.value ∷ text_of (before_ending cs)
  later-text e l = ap text_of (before-more e) ∙ text-later c (before_ending cs) l

  pub other-ending : is_line_ending c ≡ false → from_ending (c ∷ cs) ≡ from_ending cs
  other-ending e = ap (λ (s : List Code × List Code). s.1) (span-pass (λ d. not (is_line_ending d)) c cs (ap not e))

  later-kept : is_line_ending c ≡ false → is_later_column c ≡ true → kept_text (c ∷ cs) ≡ kept_text cs
  later-kept e l = ap (λ (xs : List Code). values_of (kept xs)) (before-more e) ∙ drops c (before_ending cs) l

  whole-kept : is_line_ending c ≡ false → is_later_column c ≡ false → kept_text (c ∷ cs) ≡ c.value ∷ kept_text cs
  whole-kept e l = ap (λ (xs : List Code). values_of (kept xs)) (before-more e) ∙ keeps c (before_ending cs) l

  whole-text : is_later_column c ≡ false → text_of (before_ending (c ∷ cs)) ≡ kept_text (c ∷ cs)
  whole-text l = by_bool (is_line_ending c)
      (λ (e : is_line_ending c ≡ true). ap text_of (before-none e) ∙ sym (ap (λ (xs : List Code). values_of (kept xs)) (before-none e)))
      (λ (e : is_line_ending c ≡ false). ap text_of (before-more e) ∙ text-first c (before_ending cs) l ∙ sym (ap (λ (xs : List Code). values_of (kept xs)) (before-more e)))

  pub ending-text : is_line_ending c ≡ true → kept_text (c ∷ cs) ≡ []
  ending-text e = ap (λ (xs : List Code). values_of (kept xs)) (before-none e)

  pub ending-rest : is_line_ending c ≡ true → from_ending (c ∷ cs) ≡ c ∷ cs
  ending-rest e = ap (λ (s : List Code × List Code). s.1) (span-stop (λ d. not (is_line_ending d)) c cs (ap not e))

-- Codes left of a piece.

pub left-later : (bytes : List ℕ) (s t : Spot) (value : ℕ) (r : IsRead bytes s value t) → is_later_column r.code ≡ nat_lt 0 s.vs
left-later bytes s t value r = ap (λ (x : ℕ × ℕ). nat_lt 0 x.1) r.starts

pub spot-in : (bytes : List ℕ) (s : Spot) → IsSpot bytes s → 0 < s.vs → s.index < length bytes
spot-in bytes s h l = ((stands-point bytes (point_of s h.line h.column) h.is_point).in_tab l).0

-- a column of a tab is a space
pub column-space : (bytes : List ℕ) (s t : Spot) (value : ℕ) → IsSpot bytes s → 0 < s.vs → (r : IsRead bytes s value t) → is_line_ending r.code ≡ false
column-space bytes s t value h l r =
    let p : Point = point_of s h.line h.column in
    let b : get_or bytes s.index 0 ≡ 9 = ((stands-point bytes p h.is_point).in_tab l).1 in
    let one : IsNextPlace bytes p = next bytes p h.is_point (spot-in bytes s h l) in
    let same : r.code ≡ code_here bytes p = let e = sym r.codes ∙ one.codes in cc in
    let later : nat_lt 0 s.vs ≡ true = grind (arith, nat_tests, l) in
    ap is_line_ending same ∙ rw (b, later) refl

-- Bytes that end no line.

record IsPlain (bytes : List ℕ) (piece : Piece) (i : ℕ) (cs : List Code) : Type 0 where
  byte : BeginsAtByte bytes (i + 1)
  text : kept_text cs ≡ kept_text (codes_left bytes piece (i + 1, 0))
  ending : from_ending cs ≡ from_ending (codes_left bytes piece (i + 1, 0))

module _ (bytes : List ℕ) (piece : Piece) where
  pub plain-value : (p : Point) → is_line_ending_byte (get_or bytes p.index 0) ≡ false → is_line_ending (code_here bytes p) ≡ false
  plain-value p e = by_bool (get_or bytes p.index 0 == 9 && nat_lt 0 p.vs)
      (λ (f : (get_or bytes p.index 0 == 9 && nat_lt 0 p.vs) ≡ true). rw (e, f) refl)
      (λ (f : (get_or bytes p.index 0 == 9 && nat_lt 0 p.vs) ≡ false). rw (e, f) (no-feed (get_or bytes p.index 0) e))
    where
      no-feed : (b : ℕ) → is_line_ending_byte b ≡ false → (b == 10) ≡ false
      no-feed b h = grind (arith, nat_tests)

  byte-value : (q : Point) → is_line_ending_byte (get_or bytes q.index 0) ≡ false → q.vs ≡ 0 → value_at bytes q ≡ get_or bytes q.index 0
  byte-value q e z = rw (e, z) (by_bool (get_or bytes q.index 0 == 9)
      (λ (f : (get_or bytes q.index 0 == 9) ≡ true). rw f refl)
      (λ (f : (get_or bytes q.index 0 == 9) ≡ false). rw f refl))

  stop-by : (P : Point → Type 0) (p : Point) → is_line_ending_byte (get_or bytes p.index 0) ≡ false → P (next_column p p.index (p.vs + 1)) → P (next_column p (p.index + 1) 0) → P (stop_at bytes p)
  stop-by P p e x y = by_bool (get_or bytes p.index 0 == 9 && nat_lt 0 (tab_left p))
      (λ (f : (get_or bytes p.index 0 == 9 && nat_lt 0 (tab_left p)) ≡ true). rw (e, f) x)
      (λ (f : (get_or bytes p.index 0 == 9 && nat_lt 0 (tab_left p)) ≡ false). rw (e, f) y)

  -- a later column of a tab leaves the text as it is
  passed : (c : Code) (cs : List Code) → is_line_ending c ≡ false → is_later_column c ≡ true
      → (kept_text (filter (is_in_piece piece) (c ∷ cs)) ≡ kept_text (filter (is_in_piece piece) cs)) × (from_ending (filter (is_in_piece piece) (c ∷ cs)) ≡ from_ending (filter (is_in_piece piece) cs))
  passed c cs e l = by_bool (is_in_piece piece c)
      (λ (f : is_in_piece piece c ≡ true).
      (ap kept_text (keep (is_in_piece piece) c cs f) ∙ later-kept c (filter (is_in_piece piece) cs) e l, ap from_ending (keep (is_in_piece piece) c cs f) ∙ other-ending c (filter (is_in_piece piece) cs) e))
      (λ (f : is_in_piece piece c ≡ false). (ap kept_text (leave (is_in_piece piece) c cs f), ap from_ending (leave (is_in_piece piece) c cs f)))

  at-byte : (i : ℕ) (q : Point) → IsPoint bytes q → place_of q ≡ (i + 1, 0) → IsPlain bytes piece i (codes_left bytes piece (place_of q))
  at-byte i q h e = record {
    byte = record { point = q; is_point = h; place = e };
    text = ap (λ (x : ℕ × ℕ). kept_text (codes_left bytes piece x)) e;
    ending = ap (λ (x : ℕ × ℕ). from_ending (codes_left bytes piece x)) e;
  }

  columns : (n i : ℕ) (q : Point) → IsPoint bytes q → q.index ≡ i → i < length bytes → is_line_ending_byte (get_or bytes i 0) ≡ false → 0 < q.vs → 4 ≤ q.vs + n
      → IsPlain bytes piece i (codes_left bytes piece (place_of q))
  columns zero i q h at lt e l few = absurd (omega (arith, vs-small bytes q (stands-point bytes q h)))
  columns (suc n) i q h at lt e l few =
      let f : is_line_ending_byte (get_or bytes q.index 0) ≡ false = rw at e in
      let one : IsNextPlace bytes q = next bytes q h (omega arith) in
      let later : is_later_column (code_here bytes q) ≡ true = grind (arith, nat_tests, l) in
      let same = passed (code_here bytes q) (codes_after bytes (place_of (stop_at bytes q))) (plain-value q f) later in
      let Here : Point → Type 0 = λ (x : Point). IsPoint bytes x → IsPlain bytes piece i (codes_left bytes piece (place_of x)) in
      let rest : IsPlain bytes piece i (codes_left bytes piece (place_of (stop_at bytes q))) =
      stop-by Here q f (λ k. columns n i (next_column q q.index (q.vs + 1)) k at lt e (omega arith) (omega arith))
      (λ k. at-byte i (next_column q (q.index + 1) 0) k (ap (λ (x : ℕ). (x + 1, 0)) at)) one.point in
      record {
        byte = rest.byte;
        text = ap (λ (cs : List Code). kept_text (filter (is_in_piece piece) cs)) one.codes ∙ same.0 ∙ rest.text;
        ending = ap (λ (cs : List Code). from_ending (filter (is_in_piece piece) cs)) one.codes ∙ same.1 ∙ rest.ending;
      }

  -- the code of a byte is first
  code-at : (i : ℕ) (h : BeginsAtByte bytes i) → i < length bytes → begins_before i piece.start ≡ false → begins_before i piece.end ≡ true
      → codes_left bytes piece (i, 0) ≡ code_here bytes h.point ∷ codes_left bytes piece (place_of (stop_at bytes h.point))
  code-at i h lt started before =
      let p = h.point in
      let one : IsNextPlace bytes p = next bytes p h.is_point (let k = ap (λ (x : ℕ × ℕ). x.0) h.place in omega arith) in
      ap (codes_left bytes piece) (sym h.place) ∙ ap (filter (is_in_piece piece)) one.codes
      ∙ keep (is_in_piece piece) (code_here bytes p) (codes_after bytes (place_of (stop_at bytes p)))
      (inside piece (code_here bytes p) (ap (λ (x : ℕ × ℕ). is_before x piece.start) h.place ∙ started) (ap (λ (x : ℕ × ℕ). is_before x piece.end) h.place ∙ before))

  module _ (i : ℕ) (h : BeginsAtByte bytes i) (lt : i < length bytes) (e : is_line_ending_byte (get_or bytes i 0) ≡ false) (started : begins_before i piece.start ≡ false) (before : begins_before i piece.end ≡ true) where
    abbrev p : Point
    p = h.point

    index : p.index ≡ i
    index = ap (λ (x : ℕ × ℕ). x.0) h.place

    vs : p.vs ≡ 0
    vs = ap (λ (x : ℕ × ℕ). x.1) h.place

    one : IsNextPlace bytes p
    one = next bytes p h.is_point (rw index lt)

    is-plain : is_line_ending_byte (get_or bytes p.index 0) ≡ false
    is-plain = rw index e

    first : codes_left bytes piece (i, 0) ≡ code_here bytes p ∷ codes_left bytes piece (place_of (stop_at bytes p))
    first = code-at i h lt started before

    is-whole : is_later_column (code_here bytes p) ≡ false
    is-whole = ap (λ (n : ℕ). nat_lt 0 n) vs

    value : (code_here bytes p).value ≡ get_or bytes i 0
    value = byte-value p is-plain vs ∙ ap (λ (n : ℕ). get_or bytes n 0) index

    rest : IsPlain bytes piece i (codes_left bytes piece (place_of (stop_at bytes p)))
    rest =
        let Here : Point → Type 0 = λ (x : Point). IsPoint bytes x → IsPlain bytes piece i (codes_left bytes piece (place_of x)) in
        stop-by Here p is-plain (λ k. columns 4 i (next_column p p.index (p.vs + 1)) k index lt e (omega arith) (omega arith))
        (λ k. at-byte i (next_column p (p.index + 1) 0) k (ap (λ (x : ℕ). (x + 1, 0)) index)) one.point

    plain-byte : BeginsAtByte bytes (i + 1)
    plain-byte = rest.byte

    plain-text : kept_text (codes_left bytes piece (i, 0)) ≡ get_or bytes i 0 ∷ kept_text (codes_left bytes piece (i + 1, 0))
    plain-text =
        ap kept_text first ∙ whole-kept (code_here bytes p) (codes_left bytes piece (place_of (stop_at bytes p))) (plain-value p is-plain) is-whole
        ∙ ap (λ (n : ℕ). n ∷ kept_text (codes_left bytes piece (place_of (stop_at bytes p)))) value
        ∙ ap (λ (xs : List ℕ). get_or bytes i 0 ∷ xs) rest.text

    plain-ending : from_ending (codes_left bytes piece (i, 0)) ≡ from_ending (codes_left bytes piece (i + 1, 0))
    plain-ending =
        ap from_ending first ∙ other-ending (code_here bytes p) (codes_left bytes piece (place_of (stop_at bytes p))) (plain-value p is-plain) ∙ rest.ending

-- the bytes of a line before its ending
pub record IsRun (bytes : List ℕ) (piece : Piece) (i n : ℕ) : Type 0 where
  pub byte : BeginsAtByte bytes (i + n)
  pub text : kept_text (codes_left bytes piece (i, 0)) ≡ take n (drop i bytes) ++ kept_text (codes_left bytes piece (i + n, 0))
  pub ending : from_ending (codes_left bytes piece (i, 0)) ≡ from_ending (codes_left bytes piece (i + n, 0))

one-later : (i a b : ℕ) → begins_before i (a, b) ≡ false → begins_before (i + 1) (a, b) ≡ false
one-later i a b h = grind (arith, nat_tests)

pub bytes-run : (bytes : List ℕ) (piece : Piece) (n i : ℕ) → BeginsAtByte bytes i → i + n ≤ length bytes → (i < length bytes → begins_before i piece.start ≡ false)
    → ((j : ℕ) → i ≤ j → j < i + n → is_line_ending_byte (get_or bytes j 0) ≡ false) → ((j : ℕ) → i ≤ j → j < i + n → begins_before j piece.end ≡ true) → IsRun bytes piece i n
bytes-run bytes piece zero i h le started plain before = let e : i + 0 ≡ i = omega arith in record { byte = rw e h; text = rw e refl; ending = rw e refl }
bytes-run bytes piece (suc n) i h le started plain before =
    let lt : i < length bytes = omega arith in
    let e : is_line_ending_byte (get_or bytes i 0) ≡ false = plain i (omega arith) (omega arith) in
    let b : begins_before i piece.end ≡ true = before i (omega arith) (omega arith) in
    let more : IsRun bytes piece (i + 1) n =
    bytes-run bytes piece n (i + 1) (plain-byte bytes piece i h lt e (started lt) b) (omega arith) (λ k. one-later i piece.start.0 piece.start.1 (started lt)) (λ j k l. plain j (omega arith) (omega arith)) (λ j k l. before j (omega arith) (omega arith)) in
    let s : i + suc n ≡ i + 1 + n = omega arith in
    record {
      byte = rw s more.byte;
      text = rw (s, drop-cons bytes i 0, ← add-one i) (plain-text bytes piece i h lt e (started lt) b ∙ ap (λ (xs : List ℕ). get_or bytes i 0 ∷ xs) more.text);
      ending = rw s (plain-ending bytes piece i h lt e (started lt) b ∙ more.ending);
    }

-- Where a line stops.

pub nothing-from : (bytes : List ℕ) (piece : Piece) (i : ℕ) → BeginsAtByte bytes i → (i < length bytes → begins_before i piece.end ≡ false) → codes_left bytes piece (i, 0) ≡ []
nothing-from bytes piece i h e = by_bool (nat_lt i (length bytes))
    (λ (l : nat_lt i (length bytes) ≡ true).
    let lt : i < length bytes = grind (arith, nat_tests, l) in
    nothing-behind bytes piece (record { index = i; vs = 0; phase = 0 }) (e lt))
    (λ (l : nat_lt i (length bytes) ≡ false).
    let le : length bytes ≤ h.point.index = let k = ap (λ (x : ℕ × ℕ). x.0) h.place in grind (arith, nat_tests, l) in
    ap (filter (is_in_piece piece)) (ap (codes_after bytes) (sym h.place) ∙ sym (codes-point bytes h.point h.is_point) ∙ past-end bytes h.point (stands-point bytes h.point h.is_point) le))

-- a line ending at a byte
pub record IsEnding (bytes : List ℕ) (i : ℕ) (cs : List Code) : Type 0 where
  pub code : Code
  pub more : List Code
  pub codes : cs ≡ code ∷ more
  pub ends : is_line_ending code ≡ true
  pub start : code.start.index ≡ i
  pub stop : code.stop.index ≡ i + line_ending_len (get_or bytes i 0) (drop (i + 1) bytes)

pub ending-at : (bytes : List ℕ) (piece : Piece) (i : ℕ) → BeginsAtByte bytes i → i < length bytes → is_line_ending_byte (get_or bytes i 0) ≡ true → begins_before i piece.start ≡ false → begins_before i piece.end ≡ true
    → IsEnding bytes i (codes_left bytes piece (i, 0))
ending-at bytes piece i h lt e started before =
    let p : Point = h.point in
    let index : p.index ≡ i = ap (λ (x : ℕ × ℕ). x.0) h.place in
    let f : is_line_ending_byte (get_or bytes p.index 0) ≡ true = rw index e in
    record {
      code = code_here bytes p;
      more = codes_left bytes piece (place_of (stop_at bytes p));
      codes = code-at bytes piece i h lt started before;
      ends = rw f refl;
      start = index;
      stop = rw (f, index) refl;
    }

-- the text from a byte on begins with a whole code
pub text-whole : (bytes : List ℕ) (piece : Piece) (i : ℕ) → BeginsAtByte bytes i → (i < length bytes → begins_before i piece.start ≡ false) → text_of (before_ending (codes_left bytes piece (i, 0))) ≡ kept_text (codes_left bytes piece (i, 0))
text-whole bytes piece i h started = by_bool (nat_lt i (length bytes) && begins_before i piece.end)
    (λ (l : (nat_lt i (length bytes) && begins_before i piece.end) ≡ true).
    let lt : i < length bytes = grind (arith, nat_tests, l) in
    let before : begins_before i piece.end ≡ true = grind (arith, l) in
    let first = code-at bytes piece i h lt (started lt) before in
    ap (λ (cs : List Code). text_of (before_ending cs)) first
    ∙ whole-text (code_here bytes h.point) (codes_left bytes piece (place_of (stop_at bytes h.point))) (ap (λ (x : ℕ × ℕ). nat_lt 0 x.1) h.place)
    ∙ sym (ap kept_text first))
    (λ (l : (nat_lt i (length bytes) && begins_before i piece.end) ≡ false).
    let none : codes_left bytes piece (i, 0) ≡ [] = nothing-from bytes piece i h (λ k. let lt : nat_lt i (length bytes) ≡ true = grind (arith, nat_tests, k) in grind (arith, l, lt)) in
    ap (λ (cs : List Code). text_of (before_ending cs)) none ∙ sym (ap kept_text none))

-- Columns of a tab that a line begins in.

-- behind the end of a piece there is nothing, from one place to the next
pub column-passed : (bytes : List ℕ) (piece : Piece) (s t : Spot) (value : ℕ) → IsRead bytes s value t → is_spot_before s piece.end ≡ false
    → codes_left bytes piece (spot_place t) ≡ codes_left bytes piece (spot_place s)
column-passed bytes piece s t value r e =
    nothing-behind bytes piece t (still-behind bytes piece s t value r piece.end e) ∙ sym (nothing-behind bytes piece s e)

pub column-written : (bytes : List ℕ) (piece : Piece) (raw : Bool) (s t : Spot) (value : ℕ) → IsSpot bytes s → 0 < s.vs → IsRead bytes s value t → is_spot_before s piece.start ≡ false → is_spot_before s piece.end ≡ true
    → (before after : List ℕ) → after ≡ before ++ text_as raw (value ∷ [])
    → (after ++ text_as raw (text_of (before_ending (codes_left bytes piece (spot_place t)))) ≡ before ++ text_as raw (text_of (before_ending (codes_left bytes piece (spot_place s)))))
    × (from_ending (codes_left bytes piece (spot_place t)) ≡ from_ending (codes_left bytes piece (spot_place s)))
column-written bytes piece raw s t value h l r on before-end before after e =
    let rest : List Code = codes_left bytes piece (spot_place t) in
    let first : codes_left bytes piece (spot_place s) ≡ r.code ∷ rest = left-more bytes piece s t value r on before-end in
    let space : is_line_ending r.code ≡ false = column-space bytes s t value h l r in
    let later : is_later_column r.code ≡ true = left-later bytes s t value r ∙ is-more s.vs l in
    let text : text_of (before_ending (codes_left bytes piece (spot_place s))) ≡ value ∷ text_of (before_ending rest) =
    ap (λ (cs : List Code). text_of (before_ending cs)) first ∙ later-text r.code rest space later ∙ ap (λ (n : ℕ). n ∷ text_of (before_ending rest)) r.values in (
      ap (λ (xs : List ℕ). xs ++ text_as raw (text_of (before_ending rest))) e ∙ append_assoc before (text_as raw (value ∷ [])) (text_as raw (text_of (before_ending rest)))
          ∙ ap (λ (xs : List ℕ). before ++ xs) (sym (text_as-append raw (value ∷ []) (text_of (before_ending rest))) ∙ ap (text_as raw) (sym text)),
      sym (ap from_ending first ∙ other-ending r.code rest space),
    )
  where
    is-more : (n : ℕ) → 0 < n → nat_lt 0 n ≡ true
    is-more n l = grind (arith, nat_tests, l)

pub columns-done : (bytes : List ℕ) (piece : Piece) (raw : Bool) (s : Spot) (at : ℕ × ℕ) (before after : List ℕ) → IsSpot bytes s → s.vs ≤ 0
    → (s.index < length bytes → is_spot_before s piece.start ≡ false)
    → after ++ text_as raw (text_of (before_ending (codes_left bytes piece (spot_place s)))) ≡ before ++ text_as raw (text_of (before_ending (codes_left bytes piece at)))
    → from_ending (codes_left bytes piece (spot_place s)) ≡ from_ending (codes_left bytes piece at)
    → IsPastColumns bytes piece raw at before after s.index
columns-done bytes piece raw s at before after h l g e f =
    let z : s.vs ≡ 0 = omega (arith, l) in
    let place : spot_place s ≡ (s.index, 0) = ap (λ (n : ℕ). (s.index, n)) z in
    record {
      byte = record { point = point_of s h.line h.column; is_point = h.is_point; place = place };
      started = λ k. ap (λ (n : ℕ). is_before (s.index, n) piece.start) (sym z) ∙ g k;
      text = ap (λ (x : ℕ × ℕ). after ++ text_as raw (text_of (before_ending (codes_left bytes piece x)))) (sym place) ∙ e;
      ending = ap (λ (x : ℕ × ℕ). from_ending (codes_left bytes piece x)) (sym place) ∙ f;
    }

-- A line.

pub byte-in : (bytes : List ℕ) (i : ℕ) → BeginsAtByte bytes i → i ≤ length bytes
byte-in bytes i h = let k = (stands-point bytes h.point h.is_point).in_bytes in let e = ap (λ (x : ℕ × ℕ). x.0) h.place in omega arith

later-byte : (i k a b : ℕ) → i ≤ k → begins_before i (a, b) ≡ false → begins_before k (a, b) ≡ false
later-byte i k a b l h = grind (arith, nat_tests)

-- where the text of a line ends, and what stands there
pub record IsTextEnd (bytes : List ℕ) (piece : Piece) (from to stop : ℕ) : Type 0 where
  pub low : from ≤ to
  pub high : to ≤ length bytes
  pub within : stop ≤ length bytes
  pub reached : from < to → to ≤ stop
  pub before : (i : ℕ) → i < stop → begins_before i piece.end ≡ true
  pub behind : (i : ℕ) → stop ≤ i → i < length bytes → begins_before i piece.end ≡ false
  pub plain : (i : ℕ) → from ≤ i → i < to → is_line_ending_byte (get_or bytes i 0) ≡ false
  pub ends : to < stop → is_line_ending_byte (get_or bytes to 0) ≡ true

module _ (bytes : List ℕ) (piece : Piece) (from to stop : ℕ) (byte : BeginsAtByte bytes from) (started : from < length bytes → begins_before from piece.start ≡ false) (h : IsTextEnd bytes piece from to stop) where
  there : from + (to - from) ≡ to
  there = omega (arith, h.low)

  run : IsRun bytes piece from (to - from)
  run =
      let e = there in
      bytes-run bytes piece (to - from) from byte (omega (arith, h.low, h.high)) started (λ j k l. h.plain j k (omega (arith, l, e)))
      (λ j i l. h.before j (let k : from < to = omega (arith, i, l, e) in let m : to ≤ stop = h.reached k in omega (arith, l, e, m)))

  byte-there : BeginsAtByte bytes to
  byte-there = subst (λ (i : ℕ). BeginsAtByte bytes i) there run.byte

  pub line-over : stop ≤ to → codes_left bytes piece (to, 0) ≡ []
  line-over le = nothing-from bytes piece to byte-there (λ lt. h.behind to le lt)

  pub line-ends : to < stop → IsEnding bytes to (codes_left bytes piece (to, 0))
  line-ends lt =
      let in-bytes : to < length bytes = omega (arith, lt, h.within) in
      let begun : from < length bytes = omega (arith, in-bytes, h.low) in
      ending-at bytes piece to byte-there in-bytes (h.ends lt) (later-byte from to piece.start.0 piece.start.1 h.low (started begun)) (h.before to lt)

  -- where its text ends, nothing of it is left
  rest-text : kept_text (codes_left bytes piece (to, 0)) ≡ []
  rest-text = by_bool (nat_lt to stop)
      (λ (l : nat_lt to stop ≡ true).
      let e : IsEnding bytes to (codes_left bytes piece (to, 0)) = line-ends (grind (arith, nat_tests, l)) in
      ap kept_text e.codes ∙ ending-text e.code e.more e.ends)
      (λ (l : nat_lt to stop ≡ false). ap kept_text (line-over (grind (arith, nat_tests, l))))

  pub line-text : text_of (before_ending (codes_left bytes piece (from, 0))) ≡ take (to - from) (drop from bytes)
  line-text =
      text-whole bytes piece from byte started ∙ run.text
      ∙ ap (λ (i : ℕ). take (to - from) (drop from bytes) ++ kept_text (codes_left bytes piece (i, 0))) there
      ∙ ap (λ (xs : List ℕ). take (to - from) (drop from bytes) ++ xs) rest-text ∙ append-nil (take (to - from) (drop from bytes))

  pub line-ending : from_ending (codes_left bytes piece (from, 0)) ≡ from_ending (codes_left bytes piece (to, 0))
  line-ending = run.ending ∙ ap (λ (i : ℕ). from_ending (codes_left bytes piece (i, 0))) there

-- what is written of a line: the columns of a tab, its text, and its ending
pub line-written : (p : Page) (piece : Piece) (raw : Bool) (at : ℕ × ℕ) (from to stop : ℕ) (old columns text out end : List ℕ)
    → piece_codes (codes_of p.bytes) piece ≡ codes_left p.bytes piece at
    → IsPastColumns p.bytes piece raw at old columns from → IsTextEnd p.bytes piece from to stop
    → text ≡ columns ++ text_as raw (take (to - from) (drop from p.bytes))
    → out ≡ text ++ end → end ≡ ending p (from_ending (codes_left p.bytes piece (to, 0)))
    → out ≡ old ++ line_html p (text_as raw) (piece_codes (codes_of p.bytes) piece)
line-written p piece raw at from to stop old columns text out end left past h t o e =
    let bytes = p.bytes in
    o ∙ ap (λ (xs : List ℕ). xs ++ end) (t ∙ ap (λ (xs : List ℕ). columns ++ text_as raw xs) (sym (line-text bytes piece from to stop past.byte past.started h)) ∙ past.text)
    ∙ append_assoc old (text_as raw (text_of (before_ending (codes_left bytes piece at)))) end
    ∙ ap (λ (xs : List ℕ). old ++ (text_as raw (text_of (before_ending (codes_left bytes piece at))) ++ xs)) (e ∙ ap (ending p) (sym (line-ending bytes piece from to stop past.byte past.started h) ∙ past.ending))
    ∙ ap (λ (cs : List Code). old ++ (text_as raw (text_of (before_ending cs)) ++ ending p (from_ending cs))) (sym left)

pub ending-own : (p : Page) (piece : Piece) (from to stop : ℕ) → BeginsAtByte p.bytes from → (from < length p.bytes → begins_before from piece.start ≡ false) → IsTextEnd p.bytes piece from to stop → stop ≤ to
    → own_ending p ≡ ending p (from_ending (codes_left p.bytes piece (to, 0)))
ending-own p piece from to stop byte started h le = ap (λ (cs : List Code). ending p (from_ending cs)) (sym (line-over p.bytes piece from to stop byte started h le))

pub ending-here : (p : Page) (piece : Piece) (from to stop : ℕ) → BeginsAtByte p.bytes from → (from < length p.bytes → begins_before from piece.start ≡ false) → IsTextEnd p.bytes piece from to stop → to < stop
    → block_ending p (slice_range p.bytes to (to + line_ending_len (get_or p.bytes to 0) (drop (to + 1) p.bytes))) ≡ ending p (from_ending (codes_left p.bytes piece (to, 0)))
ending-here p piece from to stop byte started h lt =
    let e : IsEnding p.bytes to (codes_left p.bytes piece (to, 0)) = line-ends p.bytes piece from to stop byte started h lt in
    let ends : (e.code.start.index, e.code.stop.index) ≡ (to, to + line_ending_len (get_or p.bytes to 0) (drop (to + 1) p.bytes)) = let a = e.start in let b = e.stop in rw (a, b) refl in
    sym (ap (λ (cs : List Code). ending p (from_ending cs)) e.codes ∙ ap (ending p) (ending-rest e.code e.more e.ends)
    ∙ ap (λ (x : ℕ × ℕ). block_ending p (slice_range p.bytes x.0 x.1)) ends)

-- the same of bytes that are the page's
pub line-in : (p : Page) (bytes : List ℕ) (piece : Piece) (raw : Bool) → bytes ≡ p.bytes → line_html (record p { bytes = bytes }) (text_as raw) (piece_codes (codes_of bytes) piece) ≡ line_html p (text_as raw) (piece_codes (codes_of p.bytes) piece)
line-in p bytes piece raw e = ap (λ (bs : List ℕ). line_html (record p { bytes = bs }) (text_as raw) (piece_codes (codes_of bs) piece)) e

-- The text of a piece, code by code.

pub code-written : (bytes : List ℕ) (piece : Piece) (s t : Spot) (value : ℕ) (r : IsRead bytes s value t) → is_spot_before s piece.start ≡ false → is_spot_before s piece.end ≡ true
    → (leading more : Bool) (before after : List ℕ) → more ≡ (leading && nat_lt 0 s.vs) → after ≡ before ++ (if more || not (nat_lt 0 s.vs) then value ∷ [] else [])
    → after ++ text_behind more (codes_left bytes piece (spot_place t)) ≡ before ++ text_behind leading (codes_left bytes piece (spot_place s))
code-written bytes piece s t value r on before-end leading more before after m e =
    let rest : List Code = codes_left bytes piece (spot_place t) in
    ap (λ (xs : List ℕ). xs ++ text_behind more rest) e ∙ append_assoc before (if more || not (nat_lt 0 s.vs) then value ∷ [] else []) (text_behind more rest)
    ∙ ap (λ (xs : List ℕ). before ++ xs) (
    by-column leading more (nat_lt 0 s.vs) value r.code rest m (left-later bytes s t value r) r.values
    ∙ ap (text_behind leading) (sym (left-more bytes piece s t value r on before-end))
    )
  where
    by-column : (leading more later : Bool) (value : ℕ) (c : Code) (cs : List Code) → more ≡ (leading && later) → is_later_column c ≡ later → c.value ≡ value
        → (if more || not later then value ∷ [] else []) ++ text_behind more cs ≡ text_behind leading (c ∷ cs)
    by-column true more true value c cs m l v = rw m (sym (text-later c cs l ∙ ap (λ (n : ℕ). n ∷ text_of cs) v))
    by-column true more false value c cs m l v = rw m (sym (text-first c cs l ∙ keeps c cs l ∙ ap (λ (n : ℕ). n ∷ values_of (kept cs)) v))
    by-column false more true value c cs m l v = rw m (sym (drops c cs l))
    by-column false more false value c cs m l v = rw m (sym (keeps c cs l ∙ ap (λ (n : ℕ). n ∷ values_of (kept cs)) v))

pub text-over : (leading : Bool) (before out : List ℕ) (cs : List Code) → cs ≡ [] → out ++ text_behind leading cs ≡ before → out ≡ before
text-over true before out cs e h = sym (ap (λ (xs : List Code). out ++ text_of xs) e ∙ append-nil out) ∙ h
text-over false before out cs e h = sym (ap (λ (xs : List Code). out ++ values_of (kept xs)) e ∙ append-nil out) ∙ h
