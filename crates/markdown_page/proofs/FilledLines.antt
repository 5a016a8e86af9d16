-- Lines of code without the blank ones at their end.
use Rattle.std.proofs.Common.{◌≡◌, ℕ, refl, sym, ap, ◌∙◌, List, [], ◌∷◌, ◌++◌, true, false}
use Rattle.std.proofs.lemmas.List.{map-append}
use Rattle.markdown_content.specs.Codes.{Code, codes_of}
use Rattle.markdown_content.specs.Content.{piece_codes}
use Rattle.markdown_content.specs.declared.parser.Piece.{Piece}
use Rattle.markdown_block_model.specs.LineRests.{is_blank_line}
use Rattle.markdown_page_model.specs.PageTexts.{onto_filled, filled}
use Rattle.markdown_page.specs.CodeLines.{lines_in}

onto-some : (l k : List Code) (ls : List (List Code)) → onto_filled l (ls ++ k ∷ []) ≡ l ∷ ls ++ k ∷ []
onto-some l k [] = refl
onto-some l k (m ∷ ls) = refl

filled-blank : (ls : List (List Code)) (l : List Code) → is_blank_line l ≡ true → filled (ls ++ l ∷ []) ≡ filled ls
filled-blank [] l e = rw e refl
filled-blank (k ∷ ls) l e = ap (onto_filled k) (filled-blank ls l e)

filled-ink : (ls : List (List Code)) (l : List Code) → is_blank_line l ≡ false → filled (ls ++ l ∷ []) ≡ ls ++ l ∷ []
filled-ink [] l e = rw e refl
filled-ink (k ∷ ls) l e = ap (onto_filled k) (filled-ink ls l e) ∙ onto-some k l ls

module _ (bytes : List ℕ) (ps qs : List Piece) (p : Piece) (more : qs ≡ ps ++ p ∷ []) where
  lines-more : lines_in bytes qs ≡ lines_in bytes ps ++ piece_codes (codes_of bytes) p ∷ []
  lines-more = ap (lines_in bytes) more ∙ map-append (piece_codes (codes_of bytes)) ps (p ∷ [])

  pub blank-last : is_blank_line (piece_codes (codes_of bytes) p) ≡ true → filled (lines_in bytes qs) ≡ filled (lines_in bytes ps)
  blank-last e = ap filled lines-more ∙ filled-blank (lines_in bytes ps) (piece_codes (codes_of bytes) p) e

  pub ink-last : is_blank_line (piece_codes (codes_of bytes) p) ≡ false → filled (lines_in bytes qs) ≡ lines_in bytes qs
  ink-last e = ap filled lines-more ∙ filled-ink (lines_in bytes ps) (piece_codes (codes_of bytes) p) e ∙ sym lines-more
