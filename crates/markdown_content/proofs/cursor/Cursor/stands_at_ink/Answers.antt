use Rattle.std.proofs.Common.{◌∙◌, ap, sym, arith}
use Rattle.std.proofs.lemmas.Bool.{ltb-true}
use Rattle.markdown_content.specs.declared.parser.Piece.{Piece}
use Rattle.markdown_content.specs.Place.{code_at}
use Rattle.markdown_content.proofs.ContentLines.{text-ink}
use Rattle.markdown_content.proofs.PlainByteLemmas.{plain_code}
use Rattle.markdown_content.proofs.cursor.Cursor.stands_at_ink.Goals as goal

pub returns : goal.returns
returns c =
    λ ink.
    let d : Piece = record { start = (0, 0); end = (0, 0) } in
    text-ink c.args.self.now _ (ap code_at (sym c.self.view_is) ∙ plain_code c.self.invariant.0 d (omega (arith, c.if-self.false)) (omega (arith, c.if-self-2.false)) (omega (arith, ltb-true 32 _ ink))) (ltb-true 32 _ ink)
