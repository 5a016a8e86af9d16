use Rattle.std.proofs.Common.{nat_lt, rules}
use Rattle.std.proofs.lemmas.List.Sorted.{IsPartitionPoint-from_clause}
use Rattle.markdown_content.specs.declared.parser.Piece.{Piece}
use Rattle.markdown_content.proofs.CodesBeside.{ends-in-order, before-down}
use Rattle.markdown_content.proofs.beside.ending_before.Goals as goal

pub returns : goal.returns
returns c =
    IsPartitionPoint-from_clause (λ (p : Piece). nat_lt p.end.0 c.args.index) c.args.pieces.now c.partition_point.result c.partition_point.ensures.partitioned
    (ends-in-order (λ x. nat_lt x.0 c.args.index) (before-down c.args.index) c.args.bytes.now c.args.pieces.now c.requires.in_order) (λ a r q k. search rules)
