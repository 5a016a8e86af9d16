-- Pieces of lines, made one after another.
use Rattle.std.proofs.Common.{◌≡◌, ℕ, ◌+◌, ◌<◌, ◌-◌, ◌≤◌, Bool, true, false, ◌==◌, if◌then◌else◌, ap, refl, sym, ◌∙◌, List, [], ◌∷◌, ◌++◌, length, drop, get_or, arith, append_assoc, append-nil, length-drop}
use Rattle.std.proofs.lemmas.List.{drop_all, drop_more}
use Rattle.std.proofs.lemmas.Bool.{eqb-false, eqb-true}
use Rattle.markdown_content.specs.declared.parser.Piece.{Piece}
use Rattle.markdown_lines.specs.PiecesOfLines.{last_piece, line_piece, pieces_of_lines}

abbrev piece_of : List ℕ → ℕ → Bool → Piece
piece_of bytes at is_last = if is_last then last_piece bytes at else line_piece bytes at

-- those of so many lines are made
pub record AreMade (bytes starts : List ℕ) (number : ℕ) (pieces : List Piece) : Type 0 where
  pub parts : pieces_of_lines bytes starts ≡ pieces ++ pieces_of_lines bytes (drop number starts)

pub no_piece : (bytes starts : List ℕ) → AreMade bytes starts 0 []
no_piece bytes starts = record { parts = refl }

-- the first of some lines, where it is known whether it is the last
one-by : (bytes : List ℕ) (at : ℕ) (rest : List ℕ) (b : Bool) → (b ≡ true → length rest ≡ 0) → (b ≡ false → 0 < length rest)
    → pieces_of_lines bytes (at ∷ rest) ≡ piece_of bytes at b ∷ pieces_of_lines bytes rest
one-by bytes at rest b h k = grind arith

one-more : (bytes starts : List ℕ) (number : ℕ) (b : Bool) → number < length starts → (number + 1 == length starts) ≡ b
    → pieces_of_lines bytes (drop number starts) ≡ piece_of bytes (get_or starts number 0) b ∷ pieces_of_lines bytes (drop (number + 1) starts)
one-more bytes starts number b l e =
    let n : length (drop (number + 1) starts) ≡ length starts - (number + 1) = length-drop (number + 1) starts in
    ap (pieces_of_lines bytes) (drop_more starts number 0 l)
    ∙ one-by bytes (get_or starts number 0) (drop (number + 1) starts) b
    (λ t. omega (arith, n, eqb-true (number + 1) (length starts) (e ∙ t)))
    (λ t. omega (arith, n, l, eqb-false (number + 1) (length starts) (e ∙ t)))

pub piece_more : (bytes starts : List ℕ) (number : ℕ) (pieces : List Piece) (piece : Piece) (b : Bool) → number < length starts → AreMade bytes starts number pieces → (number + 1 == length starts) ≡ b
    → piece ≡ (if b then last_piece bytes (get_or starts number 0) else line_piece bytes (get_or starts number 0)) → AreMade bytes starts (number + 1) (pieces ++ piece ∷ [])
piece_more bytes starts number pieces piece b l h e f =
    record {
      parts = h.parts
          ∙ ap (λ (ps : List Piece). pieces ++ ps) (one-more bytes starts number b l e ∙ ap (λ (p : Piece). p ∷ pieces_of_lines bytes (drop (number + 1) starts)) (sym f))
          ∙ sym (append_assoc pieces (piece ∷ []) (pieces_of_lines bytes (drop (number + 1) starts)));
    }

pub all_pieces : (bytes starts : List ℕ) (number : ℕ) (pieces : List Piece) → AreMade bytes starts number pieces → length starts ≤ number → pieces ≡ pieces_of_lines bytes starts
all_pieces bytes starts number pieces h l =
    sym (h.parts ∙ ap (λ (xs : List ℕ). pieces ++ pieces_of_lines bytes xs) (drop_all number starts l) ∙ append-nil pieces)
