use Rattle.markdown_inline_c.proofs.Joined.{AreJoined}
use Rattle.markdown_inline_c.proofs.strings.joined_parts.Given as goal

abbrev pub invariant-loop-part : goal.invariant-loop-part
invariant-loop-part l = AreJoined l.bytes l.parts l.found.items l.part-index
