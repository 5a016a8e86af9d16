use Rattle.markdown_content.proofs.DocumentPlaces.{point_start}
use Rattle.markdown_content.proofs.content.are_pieces.Goals as goal

pub are_pieces_from-requires-clause-is_point : goal.are_pieces_from-requires-clause-is_point
are_pieces_from-requires-clause-is_point c = point_start c.args.bytes.now
