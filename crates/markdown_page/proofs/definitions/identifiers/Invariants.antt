use Rattle.std.proofs.Common.{map, take, string_bytes, true, IsUtf8}
use Rattle.markdown_util.specs.Identifier.{identifier_by}
use Rattle.markdown_page.proofs.DefinitionStringLemmas.{AreMade}
use Rattle.markdown_page.proofs.definitions.identifiers.Given as goal

abbrev pub invariant-loop-definition : goal.invariant-loop-definition
invariant-loop-definition l = record { made : AreMade (λ t. IsUtf8 t.label) (λ t. identifier_by true t.label) (take l.definition-index l.definitions) (map string_bytes l.names.items) }
