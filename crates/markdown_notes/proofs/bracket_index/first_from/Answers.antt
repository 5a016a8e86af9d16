-- The places before an index are those that a search by halving passes.
use Rattle.std.proofs.Common.{nat_lt, rules}
use Rattle.std.proofs.lemmas.List.Sorted.{IsPartitionPoint-from_clause, IsPartitionedBy-ltb}
use Rattle.markdown_notes.proofs.bracket_index.first_from.Goals as goal

pub returns-clause-point : goal.returns-clause-point
returns-clause-point c =
    IsPartitionPoint-from_clause (λ p. nat_lt p c.args.index) c.args.places.now c.partition_point.result c.partition_point.ensures.partitioned (IsPartitionedBy-ltb (λ p. p) c.args.places.now c.args.index c.requires) (λ a r q k. search rules)
