-- The parentheses before a place are those that a search by halving passes.
use Rattle.std.proofs.Common.{nat_lt, rules}
use Rattle.std.proofs.lemmas.List.Sorted.{IsPartitionPoint-from_clause, IsPartitionedBy-ltb}
use Rattle.markdown_notes.specs.declared.title_index.Closer.{Closer}
use Rattle.markdown_notes.proofs.title_index.first_from.Goals as goal

pub returns : goal.returns
returns c = IsPartitionPoint-from_clause (λ (x : Closer). nat_lt x.at c.args.at) c.args.closers.now c.partition_point.result c.partition_point.ensures.partitioned (IsPartitionedBy-ltb (λ (x : Closer). x.at) c.args.closers.now c.args.at c.requires) (λ a r q k. search rules)
