-- The parenthesis at the place, and what stands behind it.
use Rattle.std.proofs.Common.{ap, sym, ◌∙◌}
use Rattle.markdown_content.specs.Place.{moved}
use Rattle.markdown_notes.proofs.SequenceIndexLemmas.{twice-end, twice-not, twice-some}
use Rattle.markdown_notes.proofs.sequence_index.closes_twice.Goals as goal

pub returns-in_default : goal.returns-in_default
returns-in_default c = twice-end c.args.cursor.now (sym c.current.ensures ∙ c.in_default.is)

pub returns-then-code-ne41 : goal.returns-then-code-ne41
returns-then-code-ne41 c =
    twice-not c.args.cursor.now c.in-Some.code (sym c.current.ensures ∙ c.in-Some.is) c.if-code-ne41.true

pub returns : goal.returns
returns c = c.closes_past_spacing.ensures ∙ twice-some c.args.cursor.now c.consume.new.self c.in-Some.code (sym c.current.ensures ∙ c.in-Some.is) c.if-code-ne41.false (c.consume.ensures ∙ ap moved c.save-behind.ensures)
