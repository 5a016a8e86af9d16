-- The codes of a document of UTF-8 spell characters, and so do those of its pieces that stand between characters.
use Rattle.std.proofs.Common.{◌≡◌, ℕ, zero, suc, ◌+◌, ◌-◌, ◌≤◌, refl, sym, ap, subst, ◌∙◌, List, [], ◌∷◌, ◌++◌, length, get_or, Bool, true, false, ◌&&◌, ◌==◌, nat_lt, if◌then◌else◌, arith, inl, inr}
use Rattle.std.specs.List.{All}
use Rattle.std.specs.Str.{IsUtf8, IsCharBoundary}
use Rattle.std.proofs.lemmas.Bool.{cases_lt}
use Rattle.std.proofs.lemmas.Bool.Decides.{nat_tests}
use Rattle.std.proofs.lemmas.List.Elements.{All-head, All-tail}
use Rattle.markdown_event.specs.declared.event.Point.{Point}
use Rattle.markdown_content.specs.declared.parser.Piece.{Piece}
use Rattle.markdown_content.specs.Codes.{Code, codes_of, codes_from, codes_of_byte, codes_of_tab, document_start, is_line_ending_byte, tab_value, tab_width, space_value, next_column, stop_of, place_of, point_at, is_code_before}
use Rattle.markdown_content.specs.Content.{IsBetweenCharacters, is_place, are_pieces, piece_codes, content_of}
use Rattle.markdown_content.specs.DocumentWalk.{codes_after}
use Rattle.markdown_content.proofs.AdjacentCodes.{IsChain, before_in, from_in, split-at}
use Rattle.markdown_content.proofs.ContentCodes.{piece_row, IsPieceRow, piece-codes-is}
use Rattle.markdown_content.proofs.DocumentPlaces.{there, IsThere, next, document-split, stands-point, codes-point}
use Rattle.markdown_content.proofs.DocumentWalkLemmas.{chain-at}
use Rattle.markdown_content.proofs.PlaceOrder.{is_before, before-reach}
use Rattle.markdown_model.specs.CodeTests.{values_of, is_between, is_whitespace_code}
use Rattle.markdown_block_model.specs.LineRests.{trimmed_end, onto_end}
use Rattle.markdown_block_line.proofs.LinesOfDocument.{lines-end}
use Rattle.markdown_block_definitions.proofs.TextPushes.{values-append}
use Rattle.markdown_block_definitions.proofs.CharacterCodes.{AreLow, Replaced, replaced-utf8, replaced-low, replaced-same, is_low, LaterLow, AreCharacters, Early, characters-none, characters-join, later-join, characters-cut, low-early}

-- The codes of a document.

tab-values : (v n : ℕ) (p : Point) → nat_lt v 128 ≡ true → AreLow (values_of (codes_of_tab v n p))
tab-values v zero p h = (h, tt)
tab-values v (suc n) p h = (h, tab-values space_value n (next_column p p.index (p.vs + 1)) refl)

tab-later : (v n : ℕ) (p : Point) → nat_lt v 128 ≡ true → LaterLow (codes_of_tab v n p)
tab-later v zero p h = ((λ _. h), tt)
tab-later v (suc n) p h = ((λ _. h), tab-later space_value n (next_column p p.index (p.vs + 1)) refl)

tab-stop : (v n : ℕ) (p q : Point) → (stop_of q (codes_of_tab v n p)).vs ≡ 0
tab-stop v zero p q = refl
tab-stop v (suc n) p q = tab-stop space_value n (next_column p p.index (p.vs + 1)) (next_column p p.index (p.vs + 1))

ending-low : (b : ℕ) → is_line_ending_byte b ≡ true → nat_lt b 128 ≡ true
ending-low b h = grind (arith, nat_tests)

tab-low : (b : ℕ) → (b == tab_value) ≡ true → nat_lt b 128 ≡ true
tab-low b h = grind (arith, nat_tests)

feed-low : (before b : ℕ) → (before == 13 && b == 10) ≡ true → nat_lt b 128 ≡ true
feed-low before b h = grind (arith, nat_tests)

-- the codes that begin at a byte
byte-replaced : (p : Point) (b : ℕ) (rest ys : List ℕ) → Replaced rest ys → Replaced (b ∷ rest) (values_of (codes_of_byte p b rest) ++ ys)
byte-replaced p b rest ys r = by (is_line_ending_byte b) refl
  where
    other : (t : Bool) → (b == tab_value) ≡ t → Replaced (b ∷ rest) (values_of (if t then codes_of_tab tab_value (tab_width p - 1) p else (record { value = b; start = p; stop = next_column p (p.index + 1) 0 } ∷ [])) ++ ys)
    other true e = replaced-low b rest (values_of (codes_of_tab tab_value (tab_width p - 1) p)) ys (tab-low b e) (tab-values tab_value (tab_width p - 1) p refl) r
    other false e = replaced-same b rest ys r

    by : (t : Bool) → is_line_ending_byte b ≡ t → Replaced (b ∷ rest) (values_of (codes_of_byte p b rest) ++ ys)
    by true e = rw e (replaced-low b rest (10 ∷ []) ys (ending-low b e) (refl, tt) r)
    by false e = rw e (other (b == tab_value) refl)

byte-later : (p : Point) (b : ℕ) (rest : List ℕ) → p.vs ≡ 0 → LaterLow (codes_of_byte p b rest) × ((stop_of p (codes_of_byte p b rest)).vs ≡ 0)
byte-later p b rest h = by (is_line_ending_byte b) refl
  where
    first : nat_lt 0 p.vs ≡ true → nat_lt b 128 ≡ true
    first e = absurd (no (sym e ∙ ap (nat_lt 0) h))
      where
        no : true ≡ false → ⊥
        no k = cc

    other : (t : Bool) → (let cs = if t then codes_of_tab tab_value (tab_width p - 1) p else (record { value = b; start = p; stop = next_column p (p.index + 1) 0 } ∷ []) in LaterLow cs × ((stop_of p cs).vs ≡ 0))
    other true = (tab-later tab_value (tab_width p - 1) p refl, tab-stop tab_value (tab_width p - 1) p p)
    other false = ((first, tt), refl)

    by : (t : Bool) → is_line_ending_byte b ≡ t → LaterLow (codes_of_byte p b rest) × ((stop_of p (codes_of_byte p b rest)).vs ≡ 0)
    by true e = rw e (((λ _. refl), tt), refl)
    by false e = rw e (other (b == tab_value))

codes-replaced : (before : ℕ) (p : Point) (bs : List ℕ) → Replaced bs (values_of (codes_from before p bs))
codes-replaced before p [] = refl
codes-replaced before p (b ∷ rest) = by (before == 13 && b == 10) refl (codes-replaced b p rest) (codes-replaced b (stop_of p (codes_of_byte p b rest)) rest)
  where
    by : (t : Bool) → (before == 13 && b == 10) ≡ t → Replaced rest (values_of (codes_from b p rest)) → Replaced rest (values_of (codes_from b (stop_of p (codes_of_byte p b rest)) rest))
        → Replaced (b ∷ rest) (values_of (elim t as (λ _. List Code) [ true ↦ codes_from b p rest | false ↦ codes_of_byte p b rest ++ codes_from b (stop_of p (codes_of_byte p b rest)) rest ]))
    by true e same more = replaced-low b rest [] (values_of (codes_from b p rest)) (feed-low before b e) tt same
    by false e same more =
        subst (Replaced (b ∷ rest)) (sym (values-append (codes_of_byte p b rest) (codes_from b (stop_of p (codes_of_byte p b rest)) rest)))
        (byte-replaced p b rest (values_of (codes_from b (stop_of p (codes_of_byte p b rest)) rest)) more)

codes-later : (before : ℕ) (p : Point) (bs : List ℕ) → p.vs ≡ 0 → LaterLow (codes_from before p bs)
codes-later before p [] h = tt
codes-later before p (b ∷ rest) h = by (before == 13 && b == 10) (codes-later b p rest h) (codes-later b (stop_of p (codes_of_byte p b rest)) rest (byte-later p b rest h).1)
  where
    by : (t : Bool) → LaterLow (codes_from b p rest) → LaterLow (codes_from b (stop_of p (codes_of_byte p b rest)) rest)
        → LaterLow (elim t as (λ _. List Code) [ true ↦ codes_from b p rest | false ↦ codes_of_byte p b rest ++ codes_from b (stop_of p (codes_of_byte p b rest)) rest ])
    by true same more = same
    by false same more = later-join (codes_of_byte p b rest) (codes_from b (stop_of p (codes_of_byte p b rest)) rest) (byte-later p b rest h).0 more

-- Pieces.

early-value : (b vs : ℕ) → (128 ≤ b → 192 ≤ b) → is_between 128 191 (if is_line_ending_byte b then 10 else (if b == 9 && nat_lt 0 vs then 32 else b)) ≡ false
early-value b vs h = grind (arith, nat_tests)

-- the codes from a place on are among those from an earlier one on
later-codes : (s e : ℕ × ℕ) → is_before e s ≡ false → (cs : List Code) → from_in e (from_in s cs) ≡ from_in e cs
later-codes s e l [] = refl
later-codes s e l (c ∷ cs) = by (is_code_before s c) (is_code_before e c) refl refl (later-codes s e l cs)
  where
    by : (a b : Bool) → is_code_before s c ≡ a → is_code_before e c ≡ b → from_in e (from_in s cs) ≡ from_in e cs → from_in e (from_in s (c ∷ cs)) ≡ from_in e (c ∷ cs)
    by true true j k h = rw (j, k) h
    by true false j k h = absurd (no (sym (before-reach (place_of c.start) s e j l) ∙ k))
      where
        no : true ≡ false → ⊥
        no i = cc
    by false true j k h = rw (j, k) h
    by false false j k h = rw (j, k) (ap (λ ds. c ∷ ds) h)

module _ (bytes : List ℕ) (utf8 : IsUtf8 bytes) where
  document-characters : AreCharacters (codes_of bytes)
  document-characters = record {
    values = replaced-utf8 bytes (values_of (codes_of bytes)) utf8 (codes-replaced 0 document_start bytes);
    later = codes-later 0 document_start bytes refl;
  }

  module _ (at : ℕ × ℕ) (place : is_place bytes at ≡ true) (cuts : IsCharBoundary bytes at.0) where
    early-after : Early (codes_after bytes at)
    early-after =
        elim (cases_lt p.index (length bytes)) [
          | inl lt ↦ subst Early (sym (sym (ap (codes_after bytes) t.place) ∙ (next bytes p t.point lt).codes)) (early-value (get_or bytes p.index 0) p.vs ((subst (IsCharBoundary bytes) (sym index) cuts).1 lt))
          | inr ge ↦ subst Early (sym (sym (ap (codes_after bytes) t.place) ∙ lines-end bytes p t.point ge)) tt
        ]
      where
        p : Point
        p = point_at bytes at

        t : IsThere bytes at
        t = there bytes at place

        index : p.index ≡ at.0
        index = ap (λ (x : ℕ × ℕ). x.0) t.place

    after-characters : AreCharacters (codes_after bytes at)
    after-characters = (characters-cut (before_in at (codes_of bytes)) (codes_after bytes at) (subst AreCharacters (document-split bytes at) document-characters) early-after).1

  piece-characters : (piece : Piece) → is_place bytes piece.start ≡ true → is_place bytes piece.end ≡ true → is_before piece.end piece.start ≡ false → IsBetweenCharacters bytes piece
      → AreCharacters (piece_codes (codes_of bytes) piece)
  piece-characters piece start end order between =
      subst AreCharacters (sym (piece-codes-is bytes piece))
      (characters-cut (before_in piece.end cs) (from_in piece.end cs) (subst AreCharacters (split-at p cs piece.end chain) (after-characters piece.start start between.0)) early).0
    where
      p : Point
      p = point_at bytes piece.start

      cs : List Code
      cs = codes_after bytes piece.start

      t : IsThere bytes piece.start
      t = there bytes piece.start start

      chain : IsChain p cs
      chain = chain-at bytes p cs (stands-point bytes p t.point) (codes-point bytes p t.point ∙ ap (codes_after bytes) t.place)

      early : Early (from_in piece.end cs)
      early =
          subst Early (sym (later-codes piece.start piece.end order (codes_of bytes))) (early-after piece.end end between.1)

  pub content-characters : (pieces : List Piece) → are_pieces bytes pieces ≡ true → All (IsBetweenCharacters bytes) pieces → AreCharacters (content_of bytes pieces)
  content-characters [] h b = characters-none
  content-characters (piece ∷ rest) h b =
      let row : IsPieceRow bytes piece rest = piece_row bytes piece rest h in
      characters-join (piece_codes (codes_of bytes) piece) (content_of bytes rest)
      (piece-characters piece row.start row.end row.in_order (All-head (IsBetweenCharacters bytes) piece rest b))
      (content-characters rest row.others (All-tail (IsBetweenCharacters bytes) piece rest b))

-- Without the whitespace at the end.

space-low : (c : Code) → is_whitespace_code c ≡ true → is_low c ≡ true
space-low c h = grind (arith, nat_tests)

end-cut : (cs : List Code) → (ys : List Code) × (cs ≡ trimmed_end cs ++ ys) × Early ys
end-cut [] = ([], refl, tt)
end-cut (c ∷ cs) = by (trimmed_end cs) (is_whitespace_code c) refl (end-cut cs)
  where
    by : (r : List Code) (b : Bool) → is_whitespace_code c ≡ b → (ys : List Code) × (cs ≡ r ++ ys) × Early ys → (ys : List Code) × (c ∷ cs ≡ onto_end is_whitespace_code c r ++ ys) × Early ys
    by [] true e k = (c ∷ cs, rw e refl, low-early c (space-low c e))
    by [] false e k = (k.0, rw e (ap (λ zs. c ∷ zs) k.1), k.2)
    by (d ∷ ds) b e k = (k.0, ap (λ zs. c ∷ zs) k.1, k.2)

pub trimmed-characters : (cs : List Code) → AreCharacters cs → AreCharacters (trimmed_end cs)
trimmed-characters cs h = let k = end-cut cs in (characters-cut (trimmed_end cs) k.0 (subst AreCharacters k.1 h) k.2).0
