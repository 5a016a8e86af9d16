use Rattle.std.proofs.Common.{◌∙◌, ap, sym, arith}
use Rattle.std.proofs.lemmas.Bool.{not-true}
use Rattle.markdown_content.specs.Place.{code_at}
use Rattle.markdown_content.specs.Stretch.{is_free}
use Rattle.markdown_content.specs.declared.parser.Piece.{Piece}
use Rattle.markdown_content.proofs.PlainByteLemmas.{plain_code, feed_code}
use Rattle.markdown_content.proofs.StretchLemmas.{stop-byte}
use Rattle.markdown_content.proofs.cursor.Cursor.stands_at_stop.Goals as goal

pub returns-then-byte-eq10 : goal.returns-then-byte-eq10
returns-then-byte-eq10 c =
    λ _.
    let d : Piece = record { start = (0, 0); end = (0, 0) } in
    ap (λ p. is_free c.args.stops.now (code_at p)) (sym c.self.view_is)
    ∙ ap (is_free c.args.stops.now) (feed_code c.self.invariant.0 d (omega (arith, c.if-self.false)) (omega (arith, c.if-self-2.false)) c.if-byte-eq10.true)

pub returns-then-byte-gt13 : goal.returns-then-byte-gt13
returns-then-byte-gt13 c =
    λ other.
    let d : Piece = record { start = (0, 0); end = (0, 0) } in
    ap (λ p. is_free c.args.stops.now (code_at p)) (sym c.self.view_is)
    ∙ ap (is_free c.args.stops.now) (plain_code c.self.invariant.0 d (omega (arith, c.if-self.false)) (omega (arith, c.if-self-2.false)) c.if-byte-gt13.true)
    ∙ stop-byte c.args.stops.now _ c.if-byte-gt13.true (sym c.is_plain.ensures ∙ not-true _ other)
