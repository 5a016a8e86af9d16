use Rattle.std.proofs.Common.{◌≡◌, ◌+◌, ◌-◌, ℕ, zero, suc, List, [], ◌∷◌, map, length, get_or, ◌∙◌, ap, sym, refl, arith}
use Rattle.markdown_content.specs.declared.parser.Piece.{Piece}
use Rattle.markdown_content.specs.Codes.{Code, codes_of}
use Rattle.markdown_content.specs.Content.{piece_codes}
use Rattle.markdown_block_model.specs.LineRests.{is_blank_line}
use Rattle.markdown_block_model.specs.LooseLists.{last_is_blank}
use Rattle.markdown_page.proofs.lists.ends_with_blank.Goals as goal

last-line : (f : Piece → List Code) (ls : List Piece) (n : ℕ) (d : Piece) → n + 1 ≡ length ls → last_is_blank (map f ls) ≡ is_blank_line (f (get_or ls n d))
last-line f [] n d e = absurd (omega arith)
last-line f (l ∷ []) zero d e = refl
last-line f (l ∷ []) (suc n) d e = absurd (omega arith)
last-line f (l ∷ k ∷ ls) zero d e = absurd (omega arith)
last-line f (l ∷ k ∷ ls) (suc n) d e = last-line f (k ∷ ls) n d (omega arith)

pub returns-in-Some : goal.returns-in-Some
returns-in-Some c =
    let there = rw c.deref.ensures.value at c.in-Some.ensures.item in
    let ls = c.in-IndentedCode.lines.items in
    let n = length ls - 1 in
    rw c.in-IndentedCode.is (c.is_blank_piece.ensures ∙ ap (λ v. is_blank_line (piece_codes (codes_of c.args.document.now) v)) there.1 ∙ sym (last-line (piece_codes (codes_of c.args.document.now)) ls n c.in-Some.line.now (omega (arith, there.3.0))))
