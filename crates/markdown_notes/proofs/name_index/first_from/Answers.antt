-- The names before a text are those that a search by halving passes.
use Rattle.std.proofs.Common.{string_bytes, rules}
use Rattle.std.proofs.lemmas.List.Sorted.{IsPartitionPoint-from_clause}
use Rattle.markdown_notes.specs.NameIndex.{comes_before}
use Rattle.markdown_notes.proofs.NameOrder.{comes-first}
use Rattle.markdown_notes.proofs.name_index.first_from.Goals as goal

pub returns-clause-before : goal.returns-clause-before
returns-clause-before c =
    (IsPartitionPoint-from_clause (λ name. comes_before c.args.text.now (string_bytes name)) c.args.names.now c.partition_point.result c.partition_point.ensures.partitioned (comes-first string_bytes c.args.names.now c.args.text.now c.requires) (λ a r q k. search rules)).0

pub returns-clause-after : goal.returns-clause-after
returns-clause-after c =
    (IsPartitionPoint-from_clause (λ name. comes_before c.args.text.now (string_bytes name)) c.args.names.now c.partition_point.result c.partition_point.ensures.partitioned (comes-first string_bytes c.args.names.now c.args.text.now c.requires) (λ a r q k. search rules)).1
