-- The code behind the whitespace settles it.
use Rattle.std.proofs.Common.{sym, ◌∙◌, arith}
use Rattle.markdown_content.proofs.PlaceRules.{left_moved}
use Rattle.markdown_notes.proofs.SequenceIndexLemmas.{spaced-end, spaced-other, spaced-one}
use Rattle.markdown_notes.proofs.sequence_index.closes_past_spacing.Goals as goal

pub returns-then-not-is_spacing : goal.returns-then-not-is_spacing
returns-then-not-is_spacing c =
    spaced-other c.args.cursor.now c.loop-code.place c.in-Some.code c.loop-code.invariant (sym c.current.ensures ∙ c.in-Some.is) (sym c.is_spacing.ensures ∙ c.if-not-is_spacing.true)

pub loop-code-smaller : goal.loop-code-smaller
loop-code-smaller c = grind (arith, left_moved)

pub loop-code-preserved : goal.loop-code-preserved
loop-code-preserved c =
    spaced-one c.args.cursor.now c.loop-code.place c.consume.new.self c.in-Some.code c.loop-code.invariant (sym c.current.ensures ∙ c.in-Some.is) (sym c.is_spacing.ensures ∙ c.if-not-is_spacing.false) c.consume.ensures

pub returns : goal.returns
returns c = spaced-end c.args.cursor.now c.loop-code.place c.loop-code.invariant (sym c.current.ensures ∙ c.in_default.is)
