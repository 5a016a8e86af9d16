use Rattle.std.proofs.Common.{take}
use Rattle.markdown_page.specs.DefinitionStrings.{IsTextual, defined_in}
use Rattle.markdown_page.proofs.DefinitionStringLemmas.{AreMade}
use Rattle.markdown_page.proofs.definitions.targets.Given as goal

abbrev pub invariant-loop-definition : goal.invariant-loop-definition
invariant-loop-definition l = record { made : AreMade (IsTextual l.how) (defined_in l.how) (take l.definition-index l.definitions) l.found }
