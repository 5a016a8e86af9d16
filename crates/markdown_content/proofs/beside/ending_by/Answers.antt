use Rattle.std.proofs.Common.{not, nat_lt, rules}
use Rattle.std.proofs.lemmas.List.Sorted.{IsPartitionPoint-from_clause}
use Rattle.markdown_content.specs.declared.parser.Piece.{Piece}
use Rattle.markdown_content.proofs.CodesBeside.{ends-in-order, behind-down}
use Rattle.markdown_content.proofs.beside.ending_by.Goals as goal

pub returns : goal.returns
returns c =
    IsPartitionPoint-from_clause (λ (p : Piece). not (nat_lt c.args.index p.end.0)) c.args.pieces.now c.partition_point.result c.partition_point.ensures.partitioned
    (ends-in-order (λ x. not (nat_lt c.args.index x.0)) (behind-down c.args.index) c.args.bytes.now c.args.pieces.now c.requires.in_order) (λ a r q k. search rules)
