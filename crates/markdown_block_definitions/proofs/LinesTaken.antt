-- What definitions take is whole lines, and so are the pieces of a text.
use Rattle.std.proofs.Common.{◌≡◌, ℕ, zero, suc, ◌+◌, ◌≤◌, ◌<◌, refl, ap, ◌∙◌, sym, subst, List, [], ◌∷◌, ◌++◌, length, take, drop, get_or, Bool, true, false, ◌&&◌, arith, length-append, length-drop, append_assoc, append-nil, if◌then◌else◌}
use Rattle.std.specs.Prelude.{All, flat_map, ◌==◌}
use Rattle.std.proofs.lemmas.List.{take-append-le, take_all, drop-append-le, drop_all}
use Rattle.std.proofs.lemmas.Bool.Decides.{nat_tests}
use Rattle.std.proofs.Math.ListN.{drop_of_length-le}
use Rattle.markdown_content.specs.Codes.{Code, codes_of, is_at_or_after, is_line_ending}
use Rattle.markdown_content.specs.Content.{is_piece, are_pieces, is_one_line, ends_line, piece_codes, content_of}
use Rattle.markdown_content.specs.declared.parser.Piece.{Piece}
use Rattle.markdown_content.proofs.ContentCodes.{piece_row}
use Rattle.markdown_model.specs.CodeTests.{values_of}
use Rattle.markdown_block_model.specs.LineRests.{onto_line, lines_of}
use Rattle.markdown_block_model.specs.LinkDefinitions.{definitions_of}
use Rattle.markdown_block_model.specs.TextStarts.{is_line}
use Rattle.markdown_block_model.proofs.LeavesInOrder.{lines-cover}
use Rattle.markdown_block_model.proofs.TextsAreContents.{left-begins}
use Rattle.markdown_block_line.proofs.RestValues.{values-length}
use Rattle.markdown_blocks.specs.TextRows.{IsLinePiece}
use Rattle.markdown_block_definitions.proofs.CodesAt.{by-code}

pub and-first : (a b : Bool) → (a && b) ≡ true → a ≡ true
and-first true b h = refl
and-first false b h = h

pub and-second : (a b : Bool) → (a && b) ≡ true → b ≡ true
and-second true b h = h
and-second false b h = absurd (cc)

-- Lines.

onto-ending : (c : Code) (ls : List (List Code)) → is_line_ending c ≡ true → onto_line c ls ≡ (c ∷ []) ∷ ls
onto-ending c [] h = refl
onto-ending c (l ∷ ls) h = ap (λ b. if b then (c ∷ []) ∷ l ∷ ls else (c ∷ l) ∷ ls) h

pub onto-other : (c : Code) (l : List Code) (ls : List (List Code)) → is_line_ending c ≡ false → onto_line c (l ∷ ls) ≡ (c ∷ l) ∷ ls
onto-other c l ls h = ap (λ b. if b then (c ∷ []) ∷ l ∷ ls else (c ∷ l) ∷ ls) h

-- where codes are, there is a line
record IsSomeLine (ls : List (List Code)) : Type 0 where
  first : List Code
  more : List (List Code)
  is : ls ≡ first ∷ more

onto-some : (c : Code) (ls : List (List Code)) → IsSomeLine (onto_line c ls)
onto-some c [] = record { first = c ∷ []; more = []; is = refl }
onto-some c (l ∷ ls) = by_ending (is_line_ending c)
  where
    by_ending : (b : Bool) → IsSomeLine (if b then (c ∷ []) ∷ l ∷ ls else (c ∷ l) ∷ ls)
    by_ending true = record { first = c ∷ []; more = l ∷ ls; is = refl }
    by_ending false = record { first = c ∷ l; more = ls; is = refl }

onto-append : (c : Code) (ls ks : List (List Code)) → IsSomeLine ls → onto_line c (ls ++ ks) ≡ onto_line c ls ++ ks
onto-append c [] ks s = absurd (cc)
onto-append c (l ∷ ls) ks s = by_ending (is_line_ending c)
  where
    by_ending : (b : Bool) → (if b then (c ∷ []) ∷ l ∷ ls ++ ks else (c ∷ l) ∷ (ls ++ ks)) ≡ (if b then (c ∷ []) ∷ l ∷ ls else (c ∷ l) ∷ ls) ++ ks
    by_ending true = refl
    by_ending false = refl

-- behind a line ending the lines begin anew
lines-split : (front : List Code) (c : Code) (cs : List Code) → is_line_ending c ≡ true → (lines_of (front ++ c ∷ cs) ≡ lines_of (front ++ c ∷ []) ++ lines_of cs) × IsSomeLine (lines_of (front ++ c ∷ []))
lines-split [] c cs h = (onto-ending c (lines_of cs) h, onto-some c [])
lines-split (x ∷ front) c cs h =
    let more = lines-split front c cs h in
    (ap (onto_line x) more.0 ∙ onto-append x (lines_of (front ++ c ∷ [])) (lines_of cs) more.1, onto-some x (lines_of (front ++ c ∷ [])))

-- How many there are.

ending : (c : Code) (v : ℕ) → c.value ≡ v → v ≡ 10 → is_line_ending c ≡ true
ending c v i e = ap (λ n. n == 10) (i ∙ e)

no-ending : (c : Code) (v : ℕ) → c.value ≡ v → (v ≡ 10 → ⊥) → is_line_ending c ≡ false
no-ending c v i e = ap (λ n. n == 10) i ∙ other v e
  where
    other : (v : ℕ) → (v ≡ 10 → ⊥) → (v == 10) ≡ false
    other v e = grind (arith, nat_tests, e)

module _ (cs : List Code) (vs : List ℕ) (k d : ℕ) (h : values_of cs ≡ vs) (l : k < length vs) where
  pub count-last : k + 1 ≡ length vs → length (lines_of (drop k cs)) ≡ 1 + length (lines_of (drop (k + 1) cs))
  count-last e = by-code cs vs k d h l (λ c i v.
      let none : drop (k + 1) cs ≡ [] = drop_of_length-le cs (omega (arith, e, ap length h, values-length cs)) in
      ap (λ xs. length (lines_of xs)) (i ∙ ap (λ xs. c ∷ xs) none) ∙ sym (ap (λ xs. 1 + length (lines_of xs)) none))

  pub count-ending : get_or vs k d ≡ 10 → length (lines_of (drop k cs)) ≡ 1 + length (lines_of (drop (k + 1) cs))
  count-ending e = by-code cs vs k d h l (λ c i v.
      let n : length (onto_line c (lines_of (drop (k + 1) cs))) ≡ suc (length (lines_of (drop (k + 1) cs))) = ap length (onto-ending c (lines_of (drop (k + 1) cs)) (ending c (get_or vs k d) v e)) in
      ap (λ xs. length (lines_of xs)) i ∙ omega (arith, n))

  pub count-other : (k + 1 ≡ length vs → ⊥) → (get_or vs k d ≡ 10 → ⊥) → length (lines_of (drop k cs)) ≡ 0 + length (lines_of (drop (k + 1) cs))
  count-other m e = by-code cs vs k d h l (λ c i v.
      let n : length (onto_line c (lines_of (drop (k + 1) cs))) ≡ length (lines_of (drop (k + 1) cs)) = same c (drop (k + 1) cs) (no-ending c (get_or vs k d) v e) (omega (arith, l, m, ap length h, values-length cs, length-drop (k + 1) cs)) in
      ap (λ xs. length (lines_of xs)) i ∙ omega (arith, n))
    where
      onto : (c : Code) (ls : List (List Code)) → IsSomeLine ls → is_line_ending c ≡ false → length (onto_line c ls) ≡ length ls
      onto c [] s e = absurd (cc)
      onto c (l ∷ ls) s e = ap length (onto-other c l ls e)

      same : (c : Code) (xs : List Code) → is_line_ending c ≡ false → 0 < length xs → length (onto_line c (lines_of xs)) ≡ length (lines_of xs)
      same c [] e l = absurd (omega (arith, l))
      same c (x ∷ xs) e l = onto c (lines_of (x ∷ xs)) (onto-some x (lines_of xs)) e

pub lines-none : (cs : List Code) (vs : List ℕ) (k : ℕ) → values_of cs ≡ vs → k ≡ length vs → length (lines_of (drop k cs)) ≡ 0
lines-none cs vs k h e = ap (λ xs. length (lines_of xs)) (drop_of_length-le cs (omega (arith, e, ap length h, values-length cs)))

pub lines-more : (cs : List Code) (k j n m : ℕ) → k ≡ j + 1 → length (lines_of (drop k cs)) ≡ n → length (lines_of (drop j cs)) ≡ m + length (lines_of (drop (j + 1) cs)) → length (lines_of (drop j cs)) ≡ n + m
lines-more cs k j n m e h i =
    let l : length (lines_of (drop (j + 1) cs)) ≡ n = ap (λ x. length (lines_of (drop x cs))) (sym e) ∙ h in
    omega (arith, i, l)

pub lines-all : (cs : List Code) (k n : ℕ) → k ≡ 0 → length (lines_of (drop k cs)) ≡ n → length (lines_of cs) ≡ n
lines-all cs k n e h = ap (λ x. length (lines_of (drop x cs))) (sym e) ∙ h

-- What definitions leave begins with a line.

record HasFront (whole cs : List Code) : Type 0 where
  front : List Code
  split : whole ≡ front ++ cs

record BeginsAnew (whole cs : List Code) : Type 0 where
  behind : HasFront whole cs
  lines : lines_of whole ≡ lines_of behind.front ++ lines_of cs

left-lines : (text : List Code) → BeginsAnew text (definitions_of text).1
left-lines text =
    left-begins (HasFront text) (BeginsAnew text) later next (record { behind = record { front = text; split = sym (append-nil text) }; lines = sym (append-nil (lines_of text)) }) (λ cs b. b.behind) (length text) text
    (record { behind = record { front = []; split = refl }; lines = refl })
  where
    later : (xs ys : List Code) → HasFront text (xs ++ ys) → HasFront text ys
    later xs ys h = record { front = h.front ++ xs; split = h.split ∙ sym (append_assoc h.front xs ys) }

    next : (c : Code) (cs : List Code) → is_line_ending c ≡ true → HasFront text (c ∷ cs) → BeginsAnew text cs
    next c cs e h = record {
      behind = record { front = h.front ++ c ∷ []; split = h.split ∙ sym (append_assoc h.front (c ∷ []) cs) };
      lines = ap lines_of h.split ∙ (lines-split h.front c cs e).0;
    }

-- as many lines as the codes before it have
pub lines-left : (cs : List Code) (len : ℕ) → (definitions_of cs).1 ≡ drop len cs → len ≤ length cs
    → (lines_of (definitions_of cs).1 ≡ drop (length (lines_of (take len cs))) (lines_of cs)) × (length (lines_of (take len cs)) ≤ length (lines_of cs))
lines-left cs len e l =
    let b = left-lines cs in
    let front = b.behind.front in
    let rest = (definitions_of cs).1 in
    let n : length front ≡ len = omega (arith, l, ap length e, length-drop len cs, ap length b.behind.split, length-append front rest) in
    let same : take len cs ≡ front = ap (take len) b.behind.split ∙ take-append-le len front rest (omega (arith, n)) ∙ take_all len front (omega (arith, n)) in
    let whole : lines_of cs ≡ lines_of (take len cs) ++ lines_of rest = b.lines ∙ ap (λ xs. lines_of xs ++ lines_of rest) (sym same) in
    let many = length (lines_of (take len cs)) in (
      sym (ap (drop many) whole ∙ drop-append-le many (lines_of (take len cs)) (lines_of rest) (omega arith) ∙ ap (λ xs. xs ++ lines_of rest) (drop_all many (lines_of (take len cs)) (omega arith))),
      omega (arith, ap length whole, length-append (lines_of (take len cs)) (lines_of rest)),
    )

-- Texts with the same lines are the same.
lines-same : (xs ys : List Code) → lines_of xs ≡ lines_of ys → xs ≡ ys
lines-same xs ys e = sym (lines-cover xs) ∙ ap (flat_map (λ l. l)) e ∙ lines-cover ys

-- Pieces of one line each.

pub past-ending : (c d : Code) (ds : List Code) → is_line (c ∷ d ∷ ds) ≡ true → (is_line_ending c ≡ false) × (is_line (d ∷ ds) ≡ true)
past-ending c d ds h = by_ending (is_line_ending c) h
  where
    by_ending : (b : Bool) → (if b then false else is_line (d ∷ ds)) ≡ true → (b ≡ false) × (is_line (d ∷ ds) ≡ true)
    by_ending true k = absurd (cc)
    by_ending false k = (refl, k)

whole-line : (l more : List Code) → is_line l ≡ true → ends_line l ≡ true → lines_of (l ++ more) ≡ l ∷ lines_of more
whole-line [] more h e = absurd (cc)
whole-line (c ∷ []) more h e = onto-ending c (lines_of more) e
whole-line (c ∷ d ∷ ds) more h e =
    let k = past-ending c d ds h in
    ap (onto_line c) (whole-line (d ∷ ds) more k.1 e) ∙ onto-other c (d ∷ ds) (lines_of more) k.0

last-line : (l : List Code) → is_line l ≡ true → length (lines_of l) ≤ 1
last-line [] h = omega arith
last-line (c ∷ []) h = omega arith
last-line (c ∷ d ∷ ds) h =
    let k = past-ending c d ds h in
    omega (arith, last-line (d ∷ ds) k.1, onto (lines_of (d ∷ ds)) (onto-some d (lines_of ds)) k.0)
  where
    onto : (ls : List (List Code)) → IsSomeLine ls → is_line_ending c ≡ false → length (onto_line c ls) ≡ length ls
    onto [] s e = absurd (cc)
    onto (l ∷ ls) s e = ap length (onto-other c l ls e)

module _ (bytes : List ℕ) where
  pub first-line : (p q : Piece) (rest : List Piece) → are_pieces bytes (p ∷ q ∷ rest) ≡ true → All (IsLinePiece bytes) (p ∷ q ∷ rest)
      → lines_of (content_of bytes (p ∷ q ∷ rest)) ≡ piece_codes (codes_of bytes) p ∷ lines_of (content_of bytes (q ∷ rest))
  first-line p q rest h a =
      whole-line (piece_codes (codes_of bytes) p) (content_of bytes (q ∷ rest)) (a 0 p (omega arith))
      (and-first (ends_line (piece_codes (codes_of bytes) p)) (is_at_or_after p.end q.start && is_one_line bytes p.end q.start)
      (and-second (is_piece bytes p && are_pieces bytes (q ∷ rest)) (ends_line (piece_codes (codes_of bytes) p) && (is_at_or_after p.end q.start && is_one_line bytes p.end q.start)) h))

  pub others : (p : Piece) (rest : List Piece) → All (IsLinePiece bytes) (p ∷ rest) → All (IsLinePiece bytes) rest
  others p rest a = λ k d l. a (suc k) d (omega (arith, l))

  one-piece : (p : Piece) → All (IsLinePiece bytes) (p ∷ []) → length (lines_of (content_of bytes (p ∷ []))) ≤ 1
  one-piece p a = subst (λ xs. length (lines_of xs) ≤ 1) (sym (append-nil (piece_codes (codes_of bytes) p))) (last-line (piece_codes (codes_of bytes) p) (a 0 p (omega arith)))

  lines-behind : (k : ℕ) (ps : List Piece) → are_pieces bytes ps ≡ true → All (IsLinePiece bytes) ps → lines_of (content_of bytes (drop k ps)) ≡ drop k (lines_of (content_of bytes ps))
  lines-behind zero ps h a = refl
  lines-behind (suc k) [] h a = refl
  lines-behind (suc k) (p ∷ []) h a = none k ∙ sym (drop_all (suc k) (lines_of (content_of bytes (p ∷ []))) (omega (arith, one-piece p a)))
    where
      none : (k : ℕ) → lines_of (content_of bytes (drop k [])) ≡ []
      none zero = refl
      none (suc k) = refl
  lines-behind (suc k) (p ∷ q ∷ rest) h a = lines-behind k (q ∷ rest) (piece_row bytes p (q ∷ rest) h).others (others p (q ∷ rest) a) ∙ sym (ap (drop (suc k)) (first-line p q rest h a))

  -- there are no more lines than pieces
  pub few-lines : (ps : List Piece) → are_pieces bytes ps ≡ true → All (IsLinePiece bytes) ps → length (lines_of (content_of bytes ps)) ≤ length ps
  few-lines [] h a = omega arith
  few-lines (p ∷ []) h a = one-piece p a
  few-lines (p ∷ q ∷ rest) h a =
      omega (arith, ap length (first-line p q rest h a), few-lines (q ∷ rest) (piece_row bytes p (q ∷ rest) h).others (others p (q ∷ rest) a))

  -- the text behind so many lines has the pieces behind so many
  pub pieces-left : (k : ℕ) (ps : List Piece) → are_pieces bytes ps ≡ true → All (IsLinePiece bytes) ps → lines_of (definitions_of (content_of bytes ps)).1 ≡ drop k (lines_of (content_of bytes ps))
      → content_of bytes (drop k ps) ≡ (definitions_of (content_of bytes ps)).1
  pieces-left k ps h a e = lines-same (content_of bytes (drop k ps)) (definitions_of (content_of bytes ps)).1 (lines-behind k ps h a ∙ sym e)
