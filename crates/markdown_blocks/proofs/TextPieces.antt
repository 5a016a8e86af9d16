-- Texts and lines with a piece more.
use Rattle.std.proofs.Common.{◌≡◌, ℕ, ap, ◌∙◌, sym, List, [], ◌∷◌, ◌++◌, drop, append-nil}
use Rattle.std.proofs.lemmas.Grind.{flat_map-append}
use Rattle.markdown_content.specs.declared.parser.Piece.{Piece}
use Rattle.markdown_content.specs.Codes.{Code, codes_of}
use Rattle.markdown_content.specs.Content.{content_of, piece_codes}
use Rattle.markdown_block_model.specs.LineRests.{indent, trimmed}
use Rattle.markdown_block_line.proofs.RestValues.{trimmed-drop}

pub one-text : (bytes : List ℕ) (ps : List Piece) (piece : Piece) (cs : List Code) → ps ≡ piece ∷ [] → piece_codes (codes_of bytes) piece ≡ cs → content_of bytes ps ≡ cs
one-text bytes ps piece cs e h = ap (content_of bytes) e ∙ append-nil (piece_codes (codes_of bytes) piece) ∙ h

pub text-more : (bytes : List ℕ) (ps qs : List Piece) (piece : Piece) (cs : List Code) → qs ≡ ps ++ piece ∷ [] → piece_codes (codes_of bytes) piece ≡ cs → content_of bytes qs ≡ content_of bytes ps ++ cs
text-more bytes ps qs piece cs e h =
    ap (content_of bytes) e
    ∙ flat_map-append (piece_codes (codes_of bytes)) ps (piece ∷ [])
    ∙ ap (λ (xs : List Code). content_of bytes ps ++ xs) (append-nil (piece_codes (codes_of bytes) piece) ∙ h)

-- from the first code that is not blank
pub trimmed-is : (cs xs : List Code) → xs ≡ drop (indent cs) cs → xs ≡ trimmed cs
trimmed-is cs xs e = e ∙ sym (trimmed-drop cs)
