use Rattle.std.proofs.Common.{◌∙◌, sym}
use Rattle.markdown_notes.proofs.SequenceIndexLemmas.{passing-end, passing-other, passing-one}
use Rattle.markdown_notes.proofs.sequence_index.stand_next.Goals as goal

pub returns-in_default : goal.returns-in_default
returns-in_default c =
    passing-end c.args.bytes.now c.loop-byte.byte-index c.args.cursor.now c.loop-byte.place c.loop-byte-test.true c.loop-byte.invariant (sym c.current.ensures ∙ c.in_default.is)

pub returns-then-code-byte : goal.returns-then-code-byte
returns-then-code-byte c =
    passing-other c.args.bytes.now c.loop-byte.byte-index c.in-Some.code c.args.cursor.now c.loop-byte.place c.loop-byte-test.true c.loop-byte.invariant (sym c.current.ensures ∙ c.in-Some.is) c.if-code-byte.true

pub loop-byte-preserved : goal.loop-byte-preserved
loop-byte-preserved c =
    passing-one c.args.bytes.now c.loop-byte.byte-index c.in-Some.code c.args.cursor.now c.loop-byte.place c.consume.new.self c.loop-byte-test.true c.loop-byte.invariant (sym c.current.ensures ∙ c.in-Some.is) c.if-code-byte.false c.consume.ensures
