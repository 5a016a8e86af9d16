use Rattle.markdown_content.proofs.DocumentPlaces.{point_start}
use Rattle.markdown_content.proofs.LaterPieces.{first_place}
use Rattle.markdown_content.proofs.cursor.start_of_pieces.Goals as goal

pub walk_to-requires-clause-is_point : goal.walk_to-requires-clause-is_point
walk_to-requires-clause-is_point c = point_start c.args.bytes.now

pub walk_to-requires-clause-is_place : goal.walk_to-requires-clause-is_place
walk_to-requires-clause-is_place c =
    first_place c.args.bytes.now c.args.pieces.now (record { start = (0, 0); end = (0, 0) }) c.is_empty.result c.requires.in_order c.is_empty.ensures c.if-is_empty.false
