-- Those of the names so far.
use Rattle.std.proofs.Common.{◌≡◌, map, take, string_bytes}
use Rattle.markdown_notes.specs.BracketIndex.{brackets_of}
use Rattle.markdown_notes.proofs.name_index.counts_of.Given as goal

abbrev pub invariant-loop-name : goal.invariant-loop-name
invariant-loop-name l = l.counts.items ≡ map (λ name. brackets_of (string_bytes name)) (take l.name-index l.names)
