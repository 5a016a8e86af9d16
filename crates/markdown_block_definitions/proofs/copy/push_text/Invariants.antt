use Rattle.std.proofs.Common.{take}
use Rattle.markdown_content.specs.Content.{content_of}
use Rattle.markdown_block_definitions.specs.TextCopies.{IsLonger}
use Rattle.markdown_block_definitions.proofs.copy.push_text.Given as goal

abbrev pub invariant-loop-piece : goal.invariant-loop-piece
invariant-loop-piece l = record { longer : IsLonger l.initial.values.items l.initial.firsts.items l.values.items l.firsts.items (content_of l.bytes (take l.piece-index l.text)) }
