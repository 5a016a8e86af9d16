-- Where the pieces of a line stand: between characters, in order, and up to the end of the line.
use Rattle.std.proofs.Common.{◌≡◌, ℕ, ◌+◌, ◌<◌, ◌≤◌, refl, sym, ap, subst, ◌∙◌, List, [], ◌∷◌, ◌++◌, length, drop, get_or, Bool, true, false, ◌&&◌, ◌||◌, not, ◌==◌, nat_lt, if◌then◌else◌, arith, length-append, length-drop, append_assoc}
use Rattle.std.specs.Prelude.{IsUtf8}
use Rattle.std.specs.Str.{IsCharBoundary}
use Rattle.std.specs.List.{list_any, list_all}
use Rattle.std.proofs.lemmas.List.{drop_more, append-nil}
use Rattle.std.proofs.lemmas.List.Elements.{All-push, All-cons, All-nil}
use Rattle.std.proofs.lemmas.Bool.Decides.{nat_tests}
use Rattle.std.proofs.lemmas.Str.{IsCharBoundary-after_ascii, IsCharBoundary-before_ascii, IsCharBoundary-end}
use Rattle.markdown_event.specs.declared.event.Point.{Point}
use Rattle.markdown_content.specs.declared.parser.Piece.{Piece}
use Rattle.markdown_content.specs.Codes.{Code, codes_of, place_of, stop_of, tab_value, carriage_return, line_feed, is_line_ending_byte, line_ending_len, next_column, is_at_or_after, is_line_ending}
use Rattle.markdown_content.specs.Content.{is_place, is_piece, are_pieces, is_one_line, ends_line, piece_codes, content_of, IsBetweenCharacters}
use Rattle.markdown_content.specs.DocumentWalk.{IsPoint, codes_after}
use Rattle.markdown_content.proofs.PlaceOrder.{is_before, at_or_after-is}
use Rattle.markdown_content.proofs.AdjacentCodes.{IsChain, before_in, before_in-split, stop-later, cons≢nil}
use Rattle.markdown_content.proofs.ContentCodes.{piece-codes-is}
use Rattle.markdown_content.proofs.DocumentCodes.{tab_left, codes_at, value_at, stop_at, code_here, HasPlaceNumbers}
use Rattle.markdown_content.proofs.DocumentWalkLemmas.{value-plain, stop-ending, step, chain-at, first-of, IsFirstCode}
use Rattle.markdown_content.proofs.DocumentPlaces.{along, stands-point, codes-point}
use Rattle.markdown_content.proofs.WalkTargets.{place-point}
use Rattle.std.proofs.lemmas.Grind.{flat_map-append}
use Rattle.markdown_block_model.specs.LineRests.{onto_line, lines_of}
use Rattle.markdown_block_model.specs.TextStarts.{lines_begin, is_line}
use Rattle.markdown_block_model.proofs.TextsAreContents.{joined-starts}
use Rattle.markdown_block_line.specs.DocumentLines.{first_line, line_from, IsLine}
use Rattle.markdown_blocks.specs.TextRows.{IsLinePiece, ArePlaced, StandsBetween, is_outer, begins_ascii, line_stop, AreLinePieces, IsLineRest, IsLineEnd, EndAt, LinesEnd}

-- Tests.

and-true : (a b : Bool) → a ≡ true → b ≡ true → (a && b) ≡ true
and-true a b h k = ap (λ v. v && b) h ∙ k

and-first : (a b : Bool) → (a && b) ≡ true → a ≡ true
and-first true b h = refl
and-first false b h = h

and-second : (a b : Bool) → (a && b) ≡ true → b ≡ true
and-second true b h = h
and-second false b h = absurd (cc)

-- Between characters.

small : (n : ℕ) → nat_lt n 128 ≡ true → n < 128
small n h = grind (arith, nat_tests)

ending-small : (b : ℕ) → is_line_ending_byte b ≡ true → b < 128
ending-small b h = grind (arith, nat_tests)

tab-small : (b : ℕ) → (b == tab_value) ≡ true → b < 128
tab-small b h = grind (arith, nat_tests)

feed-is : (c : ℕ) (b : Bool) → (b && c == line_feed) ≡ true → c < 128
feed-is c b h = grind (arith, nat_tests)

-- a code that is ASCII begins with a byte that is
byte-small : (bytes : List ℕ) (p : Point) → value_at bytes p < 128 → get_or bytes p.index 0 < 128
byte-small bytes p h = by_case (is_line_ending_byte (get_or bytes p.index 0)) (get_or bytes p.index 0 == tab_value) refl refl
  where
    by_case : (t u : Bool) → is_line_ending_byte (get_or bytes p.index 0) ≡ t → (get_or bytes p.index 0 == tab_value) ≡ u → get_or bytes p.index 0 < 128
    by_case true u e f = ending-small (get_or bytes p.index 0) e
    by_case false true e f = tab-small (get_or bytes p.index 0) f
    by_case false false e f = subst (λ n. n < 128) (sym (value-plain bytes p e f)) h

-- behind a line ending
behind-ending : (bytes : List ℕ) (i b : ℕ) (rest : List ℕ) → drop (i + 1) bytes ≡ rest → i < length bytes → get_or bytes i 0 < 128 → IsUtf8 bytes → IsCharBoundary bytes (i + line_ending_len b rest)
behind-ending bytes i b [] e lt small u = IsCharBoundary-after_ascii bytes i u lt small
behind-ending bytes i b (c ∷ rest) e lt small u = by_case (b == carriage_return && c == line_feed) refl
  where
    more : i + 1 < length bytes
    more = omega (arith, ap length e, length-drop (i + 1) bytes)

    head : (x : ℕ) (xs : List ℕ) → c ∷ rest ≡ x ∷ xs → c ≡ x
    head x xs k = cc

    next : c ≡ get_or bytes (i + 1) 0
    next = head (get_or bytes (i + 1) 0) (drop (i + 1 + 1) bytes) (sym e ∙ drop_more bytes (i + 1) 0 more)

    by_case : (t : Bool) → (b == carriage_return && c == line_feed) ≡ t → IsCharBoundary bytes (i + (if t then 2 else 1))
    by_case true k =
        let two : i + 1 + 1 ≡ i + 2 = omega arith in
        subst (λ n. IsCharBoundary bytes n) two (IsCharBoundary-after_ascii bytes (i + 1) u more (subst (λ n. n < 128) next (feed-is c (b == carriage_return) k)))
    by_case false k = IsCharBoundary-after_ascii bytes i u lt small

abbrev on_line : Point → Bool → Point
on_line p t = if t then next_column p p.index (p.vs + 1) else next_column p (p.index + 1) 0

-- behind a code that is ASCII
ascii-step : (bytes : List ℕ) (p : Point) → p.index < length bytes → value_at bytes p < 128 → IsUtf8 bytes → IsCharBoundary bytes (stop_at bytes p).index
ascii-step bytes p lt v u = by_case (is_line_ending_byte b) refl
  where
    b : ℕ
    b = get_or bytes p.index 0

    other : (t : Bool) → IsCharBoundary bytes (on_line p t).index
    other true = IsCharBoundary-before_ascii bytes p.index lt (byte-small bytes p v)
    other false = IsCharBoundary-after_ascii bytes p.index u lt (byte-small bytes p v)

    by_case : (t : Bool) → is_line_ending_byte b ≡ t → IsCharBoundary bytes (stop_at bytes p).index
    by_case true e =
        subst (λ (x : Point). IsCharBoundary bytes x.index) (stop-ending bytes p e) (behind-ending bytes p.index b (drop (p.index + 1) bytes) refl lt (byte-small bytes p v) u)
    by_case false e = rw e (other (b == tab_value && nat_lt 0 (tab_left p)))

-- of the first code at a place
first-value : (bytes : List ℕ) (p : Point) (c : Code) (cs : List Code) → IsFirstCode bytes p c cs → nat_lt c.value 128 ≡ true → value_at bytes p < 128
first-value bytes p c cs one h = subst (λ n. n < 128) (ap (λ (x : Code). x.value) one.code) (small c.value h)

first-stop : (bytes : List ℕ) (p : Point) (c : Code) (cs : List Code) → IsFirstCode bytes p c cs → nat_lt c.value 128 ≡ true → StandsBetween bytes c.stop
first-stop bytes p c cs one h = λ u. subst (λ (x : Code). IsCharBoundary bytes x.stop.index) (sym one.code) (ascii-step bytes p one.in_bytes (first-value bytes p c cs one h) u)

between-along : (bytes : List ℕ) (p : Point) (front back : List Code) → HasPlaceNumbers bytes p → codes_at bytes p ≡ front ++ back → list_all is_outer front ≡ true → StandsBetween bytes p → StandsBetween bytes (stop_of p front)
between-along bytes p [] back s e h b = b
between-along bytes p (c ∷ cs) back s e h b =
    let one : IsFirstCode bytes p c (cs ++ back) = first-of bytes p c (cs ++ back) s e in
    between-along bytes c.stop cs back one.stands (sym one.rest) (and-second (is_outer c) (list_all is_outer cs) h)
    (first-stop bytes p c (cs ++ back) one (and-first (nat_lt c.value 128) (not (is_line_ending c)) (and-first (is_outer c) (list_all is_outer cs) h)))

feed-small : (n : ℕ) → (n == 10) ≡ true → nat_lt n 128 ≡ true
feed-small n h = grind (arith, nat_tests)

-- behind a line
between-lines : (bytes : List ℕ) (p : Point) (line more : List Code) → HasPlaceNumbers bytes p → codes_at bytes p ≡ line ++ more → ends_line line ≡ true → StandsBetween bytes (stop_of p line)
between-lines bytes p [] more s e h = absurd (cc)
between-lines bytes p (c ∷ []) more s e h = first-stop bytes p c more (first-of bytes p c more s e) (feed-small c.value h)
between-lines bytes p (c ∷ d ∷ ds) more s e h =
    let one : IsFirstCode bytes p c (d ∷ ds ++ more) = first-of bytes p c (d ∷ ds ++ more) s e in
    between-lines bytes c.stop (d ∷ ds) more one.stands (sym one.rest) h

-- before a code that is ASCII, or at the end
between-before : (bytes : List ℕ) (p : Point) (back : List Code) → HasPlaceNumbers bytes p → codes_at bytes p ≡ back → begins_ascii back ≡ true → StandsBetween bytes p
between-before bytes p [] s e h = λ u. subst (λ n. IsCharBoundary bytes n) (at_end (nat_lt p.index (length bytes)) refl) (IsCharBoundary-end bytes)
  where
    within : p.index ≤ length bytes
    within = s.in_bytes

    at_end : (b : Bool) → nat_lt p.index (length bytes) ≡ b → length bytes ≡ p.index
    at_end true k =
        let lt : p.index < length bytes = grind (arith, nat_tests, k) in
        absurd (cons≢nil (code_here bytes p) (codes_at bytes (stop_at bytes p)) (sym (step bytes p s lt).codes ∙ e))
    at_end false k = grind (arith, nat_tests, k, within)
between-before bytes p (c ∷ cs) s e h =
    let one : IsFirstCode bytes p c cs = first-of bytes p c cs s e in
    λ u. IsCharBoundary-before_ascii bytes p.index one.in_bytes (byte-small bytes p (first-value bytes p c cs one h))

-- A line ends with its line ending, if there is more behind it.

ends-more : (c : Code) (cs : List Code) → ends_line cs ≡ true → ends_line (c ∷ cs) ≡ true
ends-more c [] h = absurd (cc)
ends-more c (d ∷ ds) h = h

first-ends : (cs more : List Code) (d : Code) → cs ≡ first_line (lines_of cs) ++ d ∷ more → ends_line (first_line (lines_of cs)) ≡ true
first-ends [] more d e = absurd (cc)
first-ends (c ∷ cs) more d e = by_lines (lines_of cs) refl (first-ends cs more d) e
  where
    tail : (x y : Code) (xs ys : List Code) → x ∷ xs ≡ y ∷ ys → xs ≡ ys
    tail x y xs ys k = cc

    none : lines_of cs ≡ [] → cs ≡ []
    none = no_lines cs
      where
        onto-some : (c : Code) (ls : List (List Code)) → onto_line c ls ≡ [] → ⊥
        onto-some c [] k = cc
        onto-some c (l ∷ ls) k = by_test (is_line_ending c) k
          where
            by_test : (b : Bool) → (if b then (c ∷ []) ∷ l ∷ ls else (c ∷ l) ∷ ls) ≡ [] → ⊥
            by_test true j = cc
            by_test false j = cc

        no_lines : (xs : List Code) → lines_of xs ≡ [] → xs ≡ []
        no_lines [] k = refl
        no_lines (x ∷ xs) k = absurd (onto-some x (lines_of xs) k)

    by_lines : (ls : List (List Code)) → lines_of cs ≡ ls → (cs ≡ first_line ls ++ d ∷ more → ends_line (first_line ls) ≡ true)
        → c ∷ cs ≡ first_line (onto_line c ls) ++ d ∷ more → ends_line (first_line (onto_line c ls)) ≡ true
    by_lines [] k f g = absurd (cons≢nil d more (sym (tail c c cs (d ∷ more) g) ∙ none k))
    by_lines (l ∷ ls) k f g = by_case (is_line_ending c) refl g
      where
        by_case : (b : Bool) → is_line_ending c ≡ b → c ∷ cs ≡ first_line (if b then (c ∷ []) ∷ l ∷ ls else (c ∷ l) ∷ ls) ++ d ∷ more
            → ends_line (first_line (if b then (c ∷ []) ∷ l ∷ ls else (c ∷ l) ∷ ls)) ≡ true
        by_case true j i = j
        by_case false j i = ends-more c l (f (tail c c cs (l ++ d ∷ more) i))

-- what is left of it too
ends-behind : (front back : List Code) → 0 < length back → ends_line (front ++ back) ≡ true → ends_line back ≡ true
ends-behind [] back n h = h
ends-behind (c ∷ front) back n h = ends-behind front back n (rest (front ++ back) (omega (arith, length-append front back)) h)
  where
    rest : (xs : List Code) → 0 < length xs → ends_line (c ∷ xs) ≡ true → ends_line xs ≡ true
    rest [] m k = absurd (omega arith)
    rest (x ∷ xs) m k = k

no-endings : (cs : List Code) → list_all is_outer cs ≡ true → list_any is_line_ending cs ≡ false
no-endings [] h = refl
no-endings (c ∷ cs) h =
    ap (λ v. v || list_any is_line_ending cs) (flip (is_line_ending c) (and-second (nat_lt c.value 128) (not (is_line_ending c)) (and-first (is_outer c) (list_all is_outer cs) h)))
    ∙ no-endings cs (and-second (is_outer c) (list_all is_outer cs) h)
  where
    flip : (b : Bool) → not b ≡ true → b ≡ false
    flip true k = sym k
    flip false k = refl

-- A piece of a line: the codes before it, its own, those behind it on the line, and those behind the line.

pub record IsPieceOf (bytes : List ℕ) (start p q : Point) (front inside back more : List Code) : Type 0 where
  pub is_point : IsPoint bytes start
  pub first : IsPoint bytes p
  pub last : IsPoint bytes q
  pub whole : codes_after bytes (place_of start) ≡ front ++ (inside ++ (back ++ more))
  pub p_is : p ≡ stop_of start front
  pub q_is : q ≡ stop_of p inside
  pub line : front ++ (inside ++ back) ≡ line_from bytes start
  pub between : StandsBetween bytes start
  pub outer : list_all is_outer front ≡ true

module _ (bytes : List ℕ) (start p q : Point) (front inside back more : List Code) (h : IsPieceOf bytes start p q front inside back more) where
  abbrev here : Piece
  here = record { start = place_of p; end = place_of q }

  at_start : codes_at bytes start ≡ front ++ (inside ++ (back ++ more))
  at_start = codes-point bytes start h.is_point ∙ h.whole

  at_first : codes_at bytes p ≡ inside ++ (back ++ more)
  at_first = ap (λ (x : Point). codes_at bytes x) h.p_is ∙ (along bytes start front (inside ++ (back ++ more)) (stands-point bytes start h.is_point) at_start).0

  at_last : codes_at bytes q ≡ back ++ more
  at_last = ap (λ (x : Point). codes_at bytes x) h.q_is ∙ (along bytes p inside (back ++ more) (stands-point bytes p h.first) at_first).0

  chain-start : IsChain start (front ++ (inside ++ (back ++ more)))
  chain-start = chain-at bytes start (front ++ (inside ++ (back ++ more))) (stands-point bytes start h.is_point) at_start

  chain-first : IsChain p (inside ++ (back ++ more))
  chain-first = chain-at bytes p (inside ++ (back ++ more)) (stands-point bytes p h.first) at_first

  is-piece : is_piece bytes here ≡ true
  is-piece =
      and-true (is_place bytes (place_of p) && is_place bytes (place_of q)) (is_at_or_after (place_of p) (place_of q))
      (and-true (is_place bytes (place_of p)) (is_place bytes (place_of q)) (place-point bytes p h.first) (place-point bytes q h.last))
      (at_or_after-is (place_of p) (place_of q) ∙ ap not (ap (λ (x : Point). is_before (place_of x) (place_of p)) h.q_is ∙ stop-later p inside (back ++ more) chain-first))

  first-between : StandsBetween bytes p
  first-between = subst (λ x. StandsBetween bytes x) (sym h.p_is) (between-along bytes start front (inside ++ (back ++ more)) (stands-point bytes start h.is_point) at_start h.outer h.between)

  stop-twice : (x : Point) (xs ys : List Code) → stop_of x (xs ++ ys) ≡ stop_of (stop_of x xs) ys
  stop-twice x [] ys = refl
  stop-twice x (c ∷ cs) ys = stop-twice c.stop cs ys

  -- at the end of the line
  last-is : back ≡ [] → q ≡ line_stop bytes start
  last-is e =
      h.q_is ∙ ap (λ (x : Point). stop_of x inside) h.p_is ∙ sym (stop-twice start front inside)
      ∙ ap (λ xs. stop_of start (front ++ xs)) (sym (append-nil inside) ∙ ap (λ xs. inside ++ xs) (sym e)) ∙ ap (stop_of start) h.line

  line-codes : codes_at bytes start ≡ line_from bytes start ++ more
  line-codes = at_start ∙ ap (λ xs. front ++ xs) (sym (append_assoc inside back more)) ∙ sym (append_assoc front (inside ++ back) more) ∙ ap (λ xs. xs ++ more) h.line

  line-ends : (c : Code) (cs : List Code) → more ≡ c ∷ cs → ends_line (line_from bytes start) ≡ true
  line-ends c cs e = first-ends (codes_after bytes (place_of start)) cs c (sym (codes-point bytes start h.is_point) ∙ line-codes ∙ ap (λ xs. line_from bytes start ++ xs) e)

  stop-between : (xs : List Code) → more ≡ xs → StandsBetween bytes (line_stop bytes start)
  stop-between [] e =
      let at : codes_at bytes (line_stop bytes start) ≡ more = (along bytes start (line_from bytes start) more (stands-point bytes start h.is_point) line-codes).0 in
      between-before bytes (line_stop bytes start) [] (along bytes start (line_from bytes start) more (stands-point bytes start h.is_point) line-codes).1 (at ∙ e) refl
  stop-between (c ∷ cs) e = between-lines bytes start (line_from bytes start) more (stands-point bytes start h.is_point) line-codes (line-ends c cs e)

  last-between : begins_ascii back ≡ true → StandsBetween bytes q
  last-between k = by_back back refl k
    where
      by_back : (xs : List Code) → back ≡ xs → begins_ascii xs ≡ true → StandsBetween bytes q
      by_back [] e j = subst (λ x. StandsBetween bytes x) (sym (last-is e)) (stop-between more refl)
      by_back (c ∷ cs) e j = between-before bytes q (c ∷ (cs ++ more)) (stands-point bytes q h.last) (at_last ∙ ap (λ xs. xs ++ more) e) j

  pub placed : begins_ascii back ≡ true → lines_begin true (piece_codes (codes_of bytes) (record { start = place_of p; end = place_of q })) ≡ true
      → IsLinePiece bytes (record { start = place_of p; end = place_of q }) → ArePlaced bytes (record { start = place_of p; end = place_of q } ∷ [])
  placed k w m = record {
    one_line_each = All-cons (IsLinePiece bytes) here [] m (All-nil (IsLinePiece bytes));
    in_order = and-true (is_piece bytes here && true) true (and-true (is_piece bytes here) true is-piece refl) refl;
    lines = ap (lines_begin true) (append-nil (piece_codes (codes_of bytes) here)) ∙ w;
    between_characters = λ u. All-cons (IsBetweenCharacters bytes) here [] (first-between u, last-between k u) (All-nil (IsBetweenCharacters bytes));
  }

  pub inside-line : begins_ascii back ≡ true → IsLinePiece bytes (record { start = place_of p; end = place_of q }) → AreLinePieces bytes (record { start = place_of p; end = place_of q } ∷ [])
  inside-line k m = record {
    one_line_each = All-cons (IsLinePiece bytes) here [] m (All-nil (IsLinePiece bytes));
    in_order = and-true (is_piece bytes here && true) true (and-true (is_piece bytes here) true is-piece refl) refl;
    between_characters = λ u. All-cons (IsBetweenCharacters bytes) here [] (first-between u, last-between k u) (All-nil (IsBetweenCharacters bytes));
  }

  -- what stands before a piece has no line ending
  no-end : (xs : List Code) → list_all is_outer xs ≡ true → ends_line xs ≡ true → ⊥
  no-end [] h k = cc
  no-end (c ∷ []) h k = different (is_line_ending c) k (and-second (nat_lt c.value 128) (not (is_line_ending c)) (and-first (is_outer c) true h))
    where
      different : (b : Bool) → b ≡ true → not b ≡ true → ⊥
      different true e f = cc
      different false e f = cc
  no-end (c ∷ d ∷ ds) h k = no-end (d ∷ ds) (and-second (is_outer c) (list_all is_outer (d ∷ ds)) h) k

  pub line-rest : back ≡ [] → start.index < length bytes → piece_codes (codes_of bytes) (record { start = place_of p; end = place_of q }) ≡ inside
      → is_line inside ≡ true → IsLineRest bytes start (record { start = place_of p; end = place_of q })
  line-rest e filled codes m = record {
    is_line = ap is_line codes ∙ m;
    begins = filled;
    is = is-piece;
    between_characters = λ u. (first-between u, last-between (ap begins_ascii e) u);
    after = at_or_after-is (place_of start) (place_of p) ∙ ap not (ap (λ (x : Point). is_before (place_of x) (place_of start)) h.p_is ∙ stop-later start front (inside ++ (back ++ more)) chain-start);
    one_line = ap (λ xs. not (list_any is_line_ending xs)) before ∙ ap not (no-endings front h.outer);
    end = ap place_of (last-is e);
    ends = λ lt. ap ends_line codes ∙ behind inside (by_more more refl lt);
  }
    where
      behind : (xs : List Code) → ends_line (front ++ xs) ≡ true → ends_line xs ≡ true
      behind [] k = absurd (no-end front h.outer (ap ends_line (sym (append-nil front)) ∙ k))
      behind (x ∷ xs) k = ends-behind front (x ∷ xs) (omega arith) k

      before : piece_codes (codes_of bytes) (record { start = place_of start; end = place_of p }) ≡ front
      before =
          piece-codes-is bytes (record { start = place_of start; end = place_of p })
          ∙ ap (λ (x : Point). before_in (place_of x) (codes_after bytes (place_of start))) h.p_is
          ∙ ap (λ xs. before_in (place_of (stop_of start front)) xs) h.whole
          ∙ before_in-split start front (inside ++ (back ++ more)) chain-start

      by_more : (xs : List Code) → more ≡ xs → (line_stop bytes start).index < length bytes → ends_line (front ++ inside) ≡ true
      by_more [] k lt =
          let there = along bytes start (line_from bytes start) more (stands-point bytes start h.is_point) line-codes in
          let some : codes_at bytes (line_stop bytes start) ≡ code_here bytes (line_stop bytes start) ∷ codes_at bytes (stop_at bytes (line_stop bytes start)) = (step bytes (line_stop bytes start) there.1 lt).codes in
          absurd (cons≢nil (code_here bytes (line_stop bytes start)) (codes_at bytes (stop_at bytes (line_stop bytes start))) (sym some ∙ there.0 ∙ k))
      by_more (c ∷ cs) k lt =
          ap (λ xs. ends_line (front ++ xs)) (sym (append-nil inside) ∙ ap (λ xs. inside ++ xs) (sym e)) ∙ ap ends_line h.line ∙ line-ends c cs k

-- A text with a piece more.

abbrev links : List ℕ → Piece → Piece → Bool
links bytes a b = ends_line (piece_codes (codes_of bytes) a) && (is_at_or_after a.end b.start && is_one_line bytes a.end b.start)

next-line : (bytes : List ℕ) (p : Point) (ps : List Piece) (piece : Piece) → IsLineRest bytes p piece → are_pieces bytes ps ≡ true → LinesEnd bytes p ps → are_pieces bytes (ps ++ piece ∷ []) ≡ true
next-line bytes p [] piece l h e = and-true (is_piece bytes piece && true) true (and-true (is_piece bytes piece) true l.is refl) refl
next-line bytes p (a ∷ []) piece l h e =
    and-true (is_piece bytes a && are_pieces bytes (piece ∷ [])) (links bytes a piece)
    (and-true (is_piece bytes a) (are_pieces bytes (piece ∷ [])) (and-first (is_piece bytes a) true (and-first (is_piece bytes a && true) true h))
    (and-true (is_piece bytes piece && true) true (and-true (is_piece bytes piece) true l.is refl) refl))
    (and-true (ends_line (piece_codes (codes_of bytes) a)) (is_at_or_after a.end piece.start && is_one_line bytes a.end piece.start) e.1
    (and-true (is_at_or_after a.end piece.start) (is_one_line bytes a.end piece.start)
    (ap (λ (x : ℕ × ℕ). is_at_or_after x piece.start) e.0 ∙ l.after) (ap (λ (x : ℕ × ℕ). is_one_line bytes x piece.start) e.0 ∙ l.one_line)))
next-line bytes p (a ∷ b ∷ rest) piece l h e =
    let first = and-first (is_piece bytes a && are_pieces bytes (b ∷ rest)) (links bytes a b) h in
    and-true (is_piece bytes a && are_pieces bytes (b ∷ rest ++ piece ∷ [])) (links bytes a b)
    (and-true (is_piece bytes a) (are_pieces bytes (b ∷ rest ++ piece ∷ [])) (and-first (is_piece bytes a) (are_pieces bytes (b ∷ rest)) first)
    (next-line bytes p (b ∷ rest) piece l (and-second (is_piece bytes a) (are_pieces bytes (b ∷ rest)) first) e))
    (and-second (is_piece bytes a && are_pieces bytes (b ∷ rest)) (links bytes a b) h)

pub next-lines : (bytes : List ℕ) (p : Point) (ps : List Piece) (piece : Piece) → AreLinePieces bytes ps → LinesEnd bytes p ps → IsLineRest bytes p piece → AreLinePieces bytes (ps ++ piece ∷ [])
next-lines bytes p ps piece h e l = record {
  one_line_each = All-push (IsLinePiece bytes) ps piece h.one_line_each l.is_line;
  in_order = next-line bytes p ps piece l h.in_order e;
  between_characters = λ u. All-push (IsBetweenCharacters bytes) ps piece (h.between_characters u) (l.between_characters u);
}

pub next-placed : (bytes : List ℕ) (p : Point) (ps : List Piece) (piece : Piece) → ArePlaced bytes ps → EndAt bytes p ps → IsLineEnd bytes p piece → ArePlaced bytes (ps ++ piece ∷ [])
next-placed bytes p ps piece h e l = record {
  one_line_each = All-push (IsLinePiece bytes) ps piece h.one_line_each l.rest.is_line;
  in_order = next-line bytes p ps piece l.rest h.in_order (some ps e);
  lines = ap (lines_begin true) (flat_map-append (piece_codes (codes_of bytes)) ps (piece ∷ []) ∙ ap (λ xs. content_of bytes ps ++ xs) (append-nil (piece_codes (codes_of bytes) piece)))
      ∙ joined-starts true (content_of bytes ps) (piece_codes (codes_of bytes) piece) h.lines l.lines;
  between_characters = λ u. All-push (IsBetweenCharacters bytes) ps piece (h.between_characters u) (l.rest.between_characters u);
}
  where
    some : (ps : List Piece) → EndAt bytes p ps → LinesEnd bytes p ps
    some [] h = absurd h
    some (a ∷ rest) h = h

pub ends-at : (bytes : List ℕ) (p : Point) (ps : List Piece) (piece : Piece) → IsLineRest bytes p piece → (line_stop bytes p).index < length bytes → EndAt bytes (line_stop bytes p) (ps ++ piece ∷ [])
ends-at bytes p [] piece l lt = (l.end, l.ends lt)
ends-at bytes p (a ∷ []) piece l lt = (l.end, l.ends lt)
ends-at bytes p (a ∷ b ∷ rest) piece l lt = ends-at bytes p (b ∷ rest) piece l lt

pub lines-end : (bytes : List ℕ) (p : Point) (ps : List Piece) (piece : Piece) → IsLineRest bytes p piece → (line_stop bytes p).index < length bytes → LinesEnd bytes (line_stop bytes p) (ps ++ piece ∷ [])
lines-end bytes p [] piece l lt = ends-at bytes p [] piece l lt
lines-end bytes p (a ∷ rest) piece l lt = ends-at bytes p (a ∷ rest) piece l lt

-- no line yet
pub no-lines : (bytes : List ℕ) → AreLinePieces bytes []
no-lines bytes = record {
  one_line_each = All-nil (IsLinePiece bytes);
  in_order = refl;
  between_characters = λ u. All-nil (IsBetweenCharacters bytes);
}

pub one-line : (bytes : List ℕ) (p : Point) (piece : Piece) → IsLineRest bytes p piece → AreLinePieces bytes (piece ∷ [])
one-line bytes p piece l = next-lines bytes p [] piece (no-lines bytes) tt l

pub one-placed : (bytes : List ℕ) (p : Point) (piece : Piece) → IsLineEnd bytes p piece → ArePlaced bytes (piece ∷ [])
one-placed bytes p piece l = record {
  one_line_each = All-cons (IsLinePiece bytes) piece [] l.rest.is_line (All-nil (IsLinePiece bytes));
  lines = ap (lines_begin true) (append-nil (piece_codes (codes_of bytes) piece)) ∙ l.lines;
  in_order = and-true (is_piece bytes piece && true) true (and-true (is_piece bytes piece) true l.rest.is refl) refl;
  between_characters = λ u. All-cons (IsBetweenCharacters bytes) piece [] (l.rest.between_characters u) (All-nil (IsBetweenCharacters bytes));
}

-- where a line ends
pub line-between : (bytes : List ℕ) (p q : Point) → IsPoint bytes p → IsLine bytes p q → StandsBetween bytes q
line-between bytes p q h l = by_rest (codes_after bytes (place_of q)) refl
  where
    whole : codes_at bytes p ≡ line_from bytes p ++ codes_after bytes (place_of q)
    whole = codes-point bytes p h ∙ l.codes

    by_rest : (rest : List Code) → codes_after bytes (place_of q) ≡ rest → StandsBetween bytes q
    by_rest [] e = between-before bytes q [] (stands-point bytes q l.is_point) (codes-point bytes q l.is_point ∙ e) refl
    by_rest (c ∷ cs) e =
        subst (λ x. StandsBetween bytes x) l.stop (between-lines bytes p (line_from bytes p) (codes_after bytes (place_of q)) (stands-point bytes p h) whole
        (first-ends (codes_after bytes (place_of p)) cs c (l.codes ∙ ap (λ xs. line_from bytes p ++ xs) e)))
