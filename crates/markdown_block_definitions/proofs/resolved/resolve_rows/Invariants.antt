use Rattle.std.proofs.Common.{◌≡◌, ◌++◌, length, map}
use Rattle.std.specs.Prelude.{flat_map}
use Rattle.std.specs.Vec.Iter.{into_iter_items, into_iter_len}
use Rattle.markdown_block_definitions.specs.DefinitionTexts.{texts_of, texts_in}
use Rattle.markdown_block_definitions.specs.ResolvedRows.{definitions_of_row, AreResolved}
use Rattle.markdown_block_definitions.proofs.resolved.resolve_rows.Given as goal

abbrev pub invariant-loop-row : goal.invariant-loop-row
invariant-loop-row l = record {
  left : l.yielded ++ into_iter_items l.row-iterator ≡ l.fn.rows.items;
  few : into_iter_len l.row-iterator ≡ length (into_iter_items l.row-iterator);
  rows : AreResolved l.document l.yielded l.resolved.items;
  found : map texts_of l.definitions.items ≡ map texts_of l.initial.definitions.items ++ map texts_in (flat_map (definitions_of_row l.document) l.yielded);
}
