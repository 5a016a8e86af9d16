use Rattle.std.proofs.Common.{◌∙◌, ap}
use Rattle.markdown_content.specs.Place.{Place}
use Rattle.markdown_content.proofs.ContentEnd.{end-index, end-none}
use Rattle.markdown_content.proofs.cursor.Cursor.end_index.Goals as goal

pub returns-then-is_empty : goal.returns-then-is_empty
returns-then-is_empty c =
    end-none c.self.inside.bytes.now c.self.inside.pieces.now c.is_empty.result c.is_empty.ensures c.if-is_empty.true ∙ ap (λ (p : Place). p.end.index) c.self.view_is

pub returns-else-is_empty : goal.returns-else-is_empty
returns-else-is_empty c =
    end-index c.self.inside.bytes.now c.self.inside.pieces.now (record { start = (0, 0); end = (0, 0) }) c.is_empty.result c.self.invariant.0.standing.content.in_order c.is_empty.ensures c.if-is_empty.false ∙ ap (λ (p : Place). p.end.index) c.self.view_is
