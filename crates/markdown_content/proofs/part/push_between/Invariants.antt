-- What is appended, with what the pieces to come have.
use Rattle.std.proofs.Common.{◌≡◌, ◌++◌, drop}
use Rattle.markdown_content.specs.Content.{content_of}
use Rattle.markdown_content.specs.ContentBytes.{bytes_within}
use Rattle.markdown_content.proofs.BytesOfContent.{all_of}
use Rattle.markdown_content.proofs.part.push_between.Given as goal

abbrev pub invariant-loop-at : goal.invariant-loop-at
invariant-loop-at l = l.out.items ++ all_of l.text l.from l.to (drop l.at l.pieces) ≡ l.initial.out.items ++ bytes_within l.text l.from l.to (content_of l.bytes l.pieces)
