-- The names so far are kept.
use Rattle.std.proofs.Common.{◌≡◌, map, take, string_bytes}
use Rattle.markdown_notes.proofs.name_index.NameIndex.over.Given as goal

abbrev pub invariant-loop-name : goal.invariant-loop-name
invariant-loop-name l = map string_bytes l.sorted.items ≡ map string_bytes (take l.name-index l.names)
