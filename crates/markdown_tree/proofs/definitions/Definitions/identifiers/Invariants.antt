-- The identifiers so far are copied.
use Rattle.std.proofs.Common.{◌≡◌, map, string_bytes, take}
use Rattle.markdown_tree.proofs.definitions.Definitions.identifiers.Given as goal

abbrev pub invariant-loop-identifier : goal.invariant-loop-identifier
invariant-loop-identifier l = map string_bytes l.identifiers.items ≡ map string_bytes (take l.identifier-index l.identifier-items)
