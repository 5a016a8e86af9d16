-- Pieces of a line.
use Rattle.std.proofs.Common.{◌≡◌, ℕ, zero, suc, ◌+◌, ◌<◌, ◌≤◌, ◌*◌, ◌^◌, refl, ap, subst, ◌∙◌, sym, List, [], ◌∷◌, ◌++◌, length, take, drop, Bool, true, false, ◌&&◌, if◌then◌else◌, arith, length-append, length-drop, drop-drop, append_assoc}
use Rattle.std.specs.List.{list_all}
use Rattle.std.proofs.lemmas.List.Folds.{list_all-append}
use Rattle.std.proofs.lemmas.List.{take-append-drop, take-append-le, drop-append-le, drop_all}
use Rattle.markdown_event.specs.declared.event.Point.{Point}
use Rattle.markdown_content.specs.Codes.{Code, codes_of, place_of, stop_of, is_line_ending}
use Rattle.markdown_content.specs.Content.{document_limit, piece_codes}
use Rattle.markdown_content.specs.DocumentWalk.{IsPoint, codes_after}
use Rattle.markdown_content.proofs.AdjacentCodes.{IsChain, before_in, before_in-split}
use Rattle.markdown_content.proofs.DocumentCodes.{codes_at}
use Rattle.markdown_content.proofs.DocumentWalkLemmas.{chain-at, few-at}
use Rattle.markdown_content.proofs.DocumentPlaces.{along, codes-point, stands-point}
use Rattle.markdown_content.proofs.ContentCodes.{piece-codes-is}
use Rattle.markdown_model.specs.CodeTests.{values_of, is_empty}
use Rattle.markdown_block_model.specs.LineRests.{lines_of}
use Rattle.markdown_block_model.specs.TextStarts.{lines_begin, is_line}
use Rattle.markdown_block_model.proofs.TextsAreContents.{AreTextLines, are-lines, drop-line}
use Rattle.markdown_block_line.specs.DocumentLines.{first_line, line_from}
use Rattle.markdown_block_line.specs.declared.breaks.BreakLens.{BreakLens}
use Rattle.markdown_block_line.proofs.BreakPlaces.{breaks-behind}
use Rattle.markdown_block_line.proofs.RestValues.{values-drop, values-length}
use Rattle.markdown_block_line.specs.LineBreaks.{IsBreakLens}
use Rattle.markdown_blocks.specs.LineRest.{IsRest}
use Rattle.markdown_blocks.specs.TextRows.{is_outer, begins_ascii, AreLinePieces, ArePlaced, IsLineRest, IsLineEnd}
use Rattle.markdown_blocks.proofs.PlacedPieces.{IsPieceOf, placed, inside-line, line-rest}

-- the codes from a place on that stands behind so many
after-past : (bytes : List ℕ) (start p : Point) (k : ℕ) → IsPoint bytes start → IsPoint bytes p → p ≡ stop_of start (take k (codes_after bytes (place_of start)))
    → codes_after bytes (place_of p) ≡ drop k (codes_after bytes (place_of start))
after-past bytes start p k h g e =
    let cs : List Code = codes_after bytes (place_of start) in
    let split : codes_at bytes start ≡ take k cs ++ drop k cs = codes-point bytes start h ∙ sym (take-append-drop k cs) in
    sym (codes-point bytes p g) ∙ ap (λ (x : Point). codes_at bytes x) e ∙ (along bytes start (take k cs) (drop k cs) (stands-point bytes start h) split).0

-- the codes of the piece from a place to one behind so many
piece-of : (bytes : List ℕ) (p q : Point) (n : ℕ) → IsPoint bytes p → q ≡ stop_of p (take n (codes_after bytes (place_of p)))
    → piece_codes (codes_of bytes) (record { start = place_of p; end = place_of q }) ≡ take n (codes_after bytes (place_of p))
piece-of bytes p q n h e =
    let cs : List Code = codes_after bytes (place_of p) in
    let whole : take n cs ++ drop n cs ≡ cs = take-append-drop n cs in
    let chain : IsChain p (take n cs ++ drop n cs) = subst (λ (xs : List Code). IsChain p xs) (sym whole) (chain-at bytes p cs (stands-point bytes p h) (codes-point bytes p h)) in
    piece-codes-is bytes (record { start = place_of p; end = place_of q })
    ∙ ap (λ (x : Point). before_in (place_of x) cs) e
    ∙ ap (λ (xs : List Code). before_in (place_of (stop_of p (take n cs))) xs) (sym whole)
    ∙ before_in-split p (take n cs) (drop n cs) chain

-- there are so many codes from the start of a line on
pub codes-within : (bytes : List ℕ) (start : Point) (values : List ℕ) (breaks : BreakLens) (at n : ℕ) → IsRest bytes start values breaks at → at + n ≤ length values
    → at + n ≤ length (codes_after bytes (place_of start))
codes-within bytes start values breaks at n h l =
    let e : length values ≡ length (line_from bytes start) = sym (ap length h.same) ∙ values-length (line_from bytes start) in
    rw h.begins.codes (omega (arith, e, length-append (line_from bytes start) h.begins.rest))

pub later-within : (bytes : List ℕ) (start p : Point) (values : List ℕ) (breaks : BreakLens) (at from len : ℕ) → IsRest bytes start values breaks at → at + from + len ≤ length values
    → IsPoint bytes p → p ≡ stop_of start (take (at + from) (codes_after bytes (place_of start))) → len ≤ length (codes_after bytes (place_of p))
later-within bytes start p values breaks at from len h l g e =
    let w : at + (from + len) ≤ length (codes_after bytes (place_of start)) = codes-within bytes start values breaks at (from + len) h (omega arith) in
    rw (after-past bytes start p (at + from) h.is_point g e) (omega (arith, w, length-drop (at + from) (codes_after bytes (place_of start))))

-- a piece of the rest of a line
pub piece-is : (bytes : List ℕ) (start p q : Point) (values : List ℕ) (breaks : BreakLens) (at from len : ℕ) → IsRest bytes start values breaks at → at + from + len ≤ length values
    → IsPoint bytes p → p ≡ stop_of start (take (at + from) (codes_after bytes (place_of start))) → q ≡ stop_of p (take len (codes_after bytes (place_of p)))
    → piece_codes (codes_of bytes) (record { start = place_of p; end = place_of q }) ≡ take len (drop from (drop at (line_from bytes start)))
piece-is bytes start p q values breaks at from len h l g e f =
    let line : List Code = line_from bytes start in
    let n : length values ≡ length line = sym (ap length h.same) ∙ values-length line in
    piece-of bytes p q len g f
    ∙ ap (take len) (after-past bytes start p (at + from) h.is_point g e ∙ ap (drop (at + from)) h.begins.codes ∙ drop-append-le (at + from) line h.begins.rest (omega (arith, n)))
    ∙ take-append-le len (drop (at + from) line) h.begins.rest (omega (arith, n, length-drop (at + from) line))
    ∙ ap (take len) (sym (drop-drop from at line))

take-none : (n : ℕ) → ◌≡◌ {A = List Code} (take n []) []
take-none zero = refl
take-none (suc n) = refl

-- the front of a line is one
take-line : (n : ℕ) (cs : List Code) → is_line cs ≡ true → is_line (take n cs) ≡ true
take-line zero cs h = refl
take-line (suc n) [] h = refl
take-line (suc n) (c ∷ cs) h = by_ending (is_line_ending c) (take-line n cs) h
  where
    none : (xs : List Code) → is_empty xs ≡ true → is_empty (take n xs) ≡ true
    none [] k = ap is_empty (take-none n)
    none (x ∷ xs) k = absurd (cc)

    by_ending : (b : Bool) → (is_line cs ≡ true → is_line (take n cs) ≡ true) → (if b then is_empty cs else is_line cs) ≡ true → (if b then is_empty (take n cs) else is_line (take n cs)) ≡ true
    by_ending true more k = none cs k
    by_ending false more k = more k

first-is-line : (ls : List (List Code)) → AreTextLines ls → is_line (first_line ls) ≡ true
first-is-line [] h = refl
first-is-line (l ∷ ls) h = h.0

-- the rest of a line is one
pub rest-is-line : (bytes : List ℕ) (start : Point) (at : ℕ) → is_line (drop at (line_from bytes start)) ≡ true
rest-is-line bytes start at =
    drop-line at (line_from bytes start) (first-is-line (lines_of (codes_after bytes (place_of start))) (are-lines (codes_after bytes (place_of start))))

take-both : (a b : ℕ) (xs : List Code) → take (a + b) xs ≡ take a xs ++ take b (drop a xs)
take-both zero b xs = let e : zero + b ≡ b = omega arith in ap (λ n. take n xs) e
take-both (suc a) b [] = take-none (suc a + b) ∙ sym (take-none b)
take-both (suc a) b (x ∷ xs) = let e : suc a + b ≡ suc (a + b) = omega arith in ap (λ n. take n (x ∷ xs)) e ∙ ap (λ l. x ∷ l) (take-both a b xs)

-- the codes before it are outer, those of the line before the rest and those of the rest
pub outer-more : (line : List Code) (at from : ℕ) → list_all is_outer (take at line) ≡ true → list_all is_outer (take from (drop at line)) ≡ true → list_all is_outer (take (at + from) line) ≡ true
outer-more line at from h k =
    ap (list_all is_outer) (take-both at from line) ∙ list_all-append is_outer (take at line) (take from (drop at line)) ∙ ap (λ v. v && list_all is_outer (take from (drop at line))) h ∙ k

piece-split : (bytes : List ℕ) (start p q : Point) (values : List ℕ) (breaks : BreakLens) (at from len : ℕ) (h : IsRest bytes start values breaks at) → at + from + len ≤ length values
    → IsPoint bytes p → p ≡ stop_of start (take (at + from) (codes_after bytes (place_of start))) → IsPoint bytes q → q ≡ stop_of p (take len (codes_after bytes (place_of p)))
    → list_all is_outer (take from (drop at (line_from bytes start))) ≡ true
    → IsPieceOf bytes start p q (take (at + from) (line_from bytes start)) (take len (drop (at + from) (line_from bytes start))) (drop len (drop (at + from) (line_from bytes start))) h.begins.rest
piece-split bytes start p q values breaks at from len h l g e k f o =
    let line : List Code = line_from bytes start in
    let a : ℕ = at + from in
    let n : length values ≡ length line = sym (ap length h.same) ∙ values-length line in
    let whole : take a line ++ (take len (drop a line) ++ drop len (drop a line)) ≡ line = ap (λ xs. take a line ++ xs) (take-append-drop len (drop a line)) ∙ take-append-drop a line in
    record {
      is_point = h.is_point;
      first = g;
      last = k;
      whole = h.begins.codes ∙ ap (λ xs. xs ++ h.begins.rest) (sym whole) ∙ append_assoc (take a line) (take len (drop a line) ++ drop len (drop a line)) h.begins.rest
          ∙ ap (λ xs. take a line ++ xs) (append_assoc (take len (drop a line)) (drop len (drop a line)) h.begins.rest);
      p_is = e ∙ ap (stop_of start) (ap (take a) h.begins.codes ∙ take-append-le a line h.begins.rest (omega (arith, n, l)));
      q_is = f ∙ ap (stop_of p) (ap (take len) (after-past bytes start p a h.is_point g e ∙ ap (drop a) h.begins.codes ∙ drop-append-le a line h.begins.rest (omega (arith, n, l)))
          ∙ take-append-le len (drop a line) h.begins.rest (omega (arith, n, l, length-drop a line)));
      line = whole;
      between = h.between;
      outer = outer-more line at from h.outer o;
    }

pub piece-placed : (bytes : List ℕ) (start p q : Point) (values : List ℕ) (breaks : BreakLens) (at from len : ℕ) → IsRest bytes start values breaks at → at + from + len ≤ length values
    → IsPoint bytes p → p ≡ stop_of start (take (at + from) (codes_after bytes (place_of start))) → IsPoint bytes q → q ≡ stop_of p (take len (codes_after bytes (place_of p)))
    → list_all is_outer (take from (drop at (line_from bytes start))) ≡ true → begins_ascii (drop (from + len) (drop at (line_from bytes start))) ≡ true
    → lines_begin true (take len (drop from (drop at (line_from bytes start)))) ≡ true
    → ArePlaced bytes (record { start = place_of p; end = place_of q } ∷ [])
piece-placed bytes start p q values breaks at from len h l g e k f o b w =
    let line : List Code = line_from bytes start in
    let sum : at + from + len ≡ at + (from + len) = omega arith in
    let same : drop len (drop (at + from) line) ≡ drop (from + len) (drop at line) = drop-drop len (at + from) line ∙ ap (λ n. drop n line) sum ∙ sym (drop-drop (from + len) at line) in
    placed bytes start p q _ _ _ h.begins.rest (piece-split bytes start p q values breaks at from len h l g e k f o) (ap begins_ascii same ∙ b)
    (ap (lines_begin true) (piece-is bytes start p q values breaks at from len h l g e f) ∙ w)
    (ap is_line (piece-is bytes start p q values breaks at from len h l g e f) ∙ take-line len (drop from (drop at line)) (drop-line from (drop at line) (rest-is-line bytes start at)))

pub piece-inside : (bytes : List ℕ) (start p q : Point) (values : List ℕ) (breaks : BreakLens) (at from len : ℕ) → IsRest bytes start values breaks at → at + from + len ≤ length values
    → IsPoint bytes p → p ≡ stop_of start (take (at + from) (codes_after bytes (place_of start))) → IsPoint bytes q → q ≡ stop_of p (take len (codes_after bytes (place_of p)))
    → list_all is_outer (take from (drop at (line_from bytes start))) ≡ true → begins_ascii (drop (from + len) (drop at (line_from bytes start))) ≡ true
    → AreLinePieces bytes (record { start = place_of p; end = place_of q } ∷ [])
piece-inside bytes start p q values breaks at from len h l g e k f o b =
    let line : List Code = line_from bytes start in
    let sum : at + from + len ≡ at + (from + len) = omega arith in
    let same : drop len (drop (at + from) line) ≡ drop (from + len) (drop at line) = drop-drop len (at + from) line ∙ ap (λ n. drop n line) sum ∙ sym (drop-drop (from + len) at line) in
    inside-line bytes start p q _ _ _ h.begins.rest (piece-split bytes start p q values breaks at from len h l g e k f o) (ap begins_ascii same ∙ b)
    (ap is_line (piece-is bytes start p q values breaks at from len h l g e f) ∙ take-line len (drop from (drop at line)) (drop-line from (drop at line) (rest-is-line bytes start at)))

pub piece-rest : (bytes : List ℕ) (start p q : Point) (values : List ℕ) (breaks : BreakLens) (at from len : ℕ) → IsRest bytes start values breaks at → at + from + len ≤ length values
    → IsPoint bytes p → p ≡ stop_of start (take (at + from) (codes_after bytes (place_of start))) → IsPoint bytes q → q ≡ stop_of p (take len (codes_after bytes (place_of p)))
    → list_all is_outer (take from (drop at (line_from bytes start))) ≡ true → from + len ≡ length (drop at (line_from bytes start))
    → IsLineRest bytes start (record { start = place_of p; end = place_of q })
piece-rest bytes start p q values breaks at from len h l g e k f o m =
    let line : List Code = line_from bytes start in
    let n : length values ≡ length line = sym (ap length h.same) ∙ values-length line in
    let left : length (drop (at + from) line) ≡ len = omega (arith, m, n, l, length-drop at line, length-drop (at + from) line) in
    line-rest bytes start p q _ _ _ h.begins.rest (piece-split bytes start p q values breaks at from len h l g e k f o)
    (drop_all len (drop (at + from) line) (omega (arith, left)))
    h.filled
    (piece-is bytes start p q values breaks at from len h l g e f ∙ ap (take len) (drop-drop from at line))
    (take-line len (drop (at + from) line) (rest-is-line bytes start (at + from)))

pub piece-line : (bytes : List ℕ) (start p q : Point) (values : List ℕ) (breaks : BreakLens) (at from len : ℕ) → IsRest bytes start values breaks at → at + from + len ≤ length values
    → IsPoint bytes p → p ≡ stop_of start (take (at + from) (codes_after bytes (place_of start))) → IsPoint bytes q → q ≡ stop_of p (take len (codes_after bytes (place_of p)))
    → list_all is_outer (take from (drop at (line_from bytes start))) ≡ true → from + len ≡ length (drop at (line_from bytes start))
    → lines_begin true (drop from (drop at (line_from bytes start))) ≡ true
    → IsLineEnd bytes start (record { start = place_of p; end = place_of q })
piece-line bytes start p q values breaks at from len h l g e k f o m w =
    let line : List Code = line_from bytes start in
    let n : length values ≡ length line = sym (ap length h.same) ∙ values-length line in
    let left : length (drop from (drop at line)) ≡ len = omega (arith, m, n, l, length-drop at line, length-drop from (drop at line)) in
    let all : take len (drop from (drop at line)) ≡ drop from (drop at line) = take-whole len (drop from (drop at line)) (omega (arith, left)) in
    record {
      rest = piece-rest bytes start p q values breaks at from len h l g e k f o m;
      lines = ap (lines_begin true) (piece-is bytes start p q values breaks at from len h l g e f ∙ all) ∙ w;
    }
  where
    take-whole : (j : ℕ) (xs : List Code) → length xs ≤ j → take j xs ≡ xs
    take-whole zero [] w = refl
    take-whole zero (x ∷ xs) w = absurd (omega arith)
    take-whole (suc j) [] w = refl
    take-whole (suc j) (x ∷ xs) w = ap (λ r. x ∷ r) (take-whole j xs (omega arith))

-- behind so many codes
pub at-within : (bytes : List ℕ) (start : Point) (values : List ℕ) (breaks : BreakLens) (at n : ℕ) → IsRest bytes start values breaks at → n ≤ length (drop at (line_from bytes start)) → at + n ≤ length values
at-within bytes start values breaks at n h l =
    let e : length values ≡ length (line_from bytes start) = sym (ap length h.same) ∙ values-length (line_from bytes start) in
    let w : at ≤ length values = h.within in
    omega (arith, e, w, l, length-drop at (line_from bytes start))

pub codes-fit : (bytes : List ℕ) (start : Point) (values : List ℕ) (breaks : BreakLens) (at n : ℕ) → IsRest bytes start values breaks at → at + n ≤ length values → at + n < 2 ^ 64
codes-fit bytes start values breaks at n h l =
    let cs : List Code = codes_after bytes (place_of start) in
    let few : length cs + 4 * start.index + start.vs ≤ 4 * length bytes = few-at bytes start cs (stands-point bytes start h.is_point) (codes-point bytes start h.is_point) in
    let w : at + n ≤ length cs = codes-within bytes start values breaks at n h l in
    let f : length bytes ≤ document_limit = h.fits in
    omega (arith, few, w, f)

-- of the values of the rest of a line there are as many as of its codes
pub rest-len : (cs : List Code) (ns : List ℕ) → values_of cs ≡ ns → length cs ≡ length ns
rest-len cs ns h = sym (values-length cs) ∙ ap length h

-- what is known of breaks is so of the rest
pub rest-breaks : (bytes : List ℕ) (start : Point) (values : List ℕ) (breaks : BreakLens) (at : ℕ) (ns : List ℕ) → IsRest bytes start values breaks at → values_of (drop at (line_from bytes start)) ≡ ns → IsBreakLens breaks ns
rest-breaks bytes start values breaks at ns h e =
    let x : drop at values ≡ ns = ap (drop at) (sym h.same) ∙ sym (values-drop at (line_from bytes start)) ∙ e in
    subst (λ (xs : List ℕ). IsBreakLens breaks xs) x (breaks-behind breaks values at h.breaks_are)
