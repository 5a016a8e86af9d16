use Rattle.std.proofs.Common.{◌≡◌, ◌++◌, map, take}
use Rattle.markdown_inline_c.specs.FlatLines.{flat_piece}
use Rattle.markdown_inline_c.proofs.blocks.push_all.Given as goal

abbrev pub invariant-loop-piece : goal.invariant-loop-piece
invariant-loop-piece l = record { found : l.found.items ≡ l.initial.found.items ++ map flat_piece (take l.piece-index l.pieces) }
