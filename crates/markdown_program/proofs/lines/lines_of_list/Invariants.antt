use Rattle.std.proofs.Common.{◌≡◌, ℕ, ◌≤◌, List, ◌++◌, take}
use Rattle.markdown_event.specs.declared.event.Event.{Event}
use Rattle.markdown_program.specs.PrintedLines.{lines_of}
use Rattle.markdown_program.proofs.lines.lines_of_list.Given as goal

-- the lines of these events, the last of which, up to at, are not added to the output yet
pub record IsWritten (text lines : List ℕ) (at : ℕ) (events : List Event) : Type 0 where
  pub fits : at ≤ 4096
  pub so_far : text ++ take at lines ≡ lines_of events

abbrev pub invariant-loop-index : goal.invariant-loop-index
invariant-loop-index l = IsWritten l.text.items l.lines l.at (take l.index l.events)
