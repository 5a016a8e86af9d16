use Rattle.std.proofs.Common.{map, take}
use Rattle.markdown_block_definitions.specs.DefinitionTexts.{texts_of}
use Rattle.markdown_inline_c.specs.FlatDefinitions.{AreWritten}
use Rattle.markdown_inline_c.proofs.definitions.flat_definitions.Given as goal

abbrev pub invariant-loop-definition : goal.invariant-loop-definition
invariant-loop-definition l = record { flat : AreWritten l.how l.found.labels.items (map texts_of (take l.definition-index l.definitions)) l.found.definitions.items l.found.targets.items }
