use Rattle.std.proofs.Common.{◌≡◌, ◌+◌, ◌*◌, length}
use Rattle.markdown_content.specs.KnownPlaces.{IsMark, AreMarks, mark_stride}
use Rattle.markdown_document.proofs.places.marks_of.Given as goal

abbrev pub invariant-loop-number : goal.invariant-loop-number
invariant-loop-number l = (length l.marks.items ≡ l.number + 1) × AreMarks l.bytes l.marks.items × IsMark l.bytes (l.number * mark_stride) l.last
