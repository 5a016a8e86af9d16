use Rattle.std.proofs.Common.{◌∙◌, sym}
use Rattle.markdown_block_definitions.proofs.LineCounts.{counts-ending, counts-indent, counts-one, counts-none, character-is}
use Rattle.markdown_block_definitions.proofs.texts.count_code.Goals as goal

pub returns-then-value-eq10-clause-count : goal.returns-then-value-eq10-clause-count
returns-then-value-eq10-clause-count c = λ d cs i b. counts-ending c.args.indented c.args.value d cs i c.if-value-eq10.true

pub returns-then-is_indent-clause-count : goal.returns-then-is_indent-clause-count
returns-then-is_indent-clause-count c = λ d cs i b. counts-indent c.args.indented c.args.value d cs i c.if-value-eq10.false (sym c.is_indent.ensures ∙ c.if-is_indent.true)

pub returns-then-begins_character-clause-count : goal.returns-then-begins_character-clause-count
returns-then-begins_character-clause-count c = λ d cs i b.
    counts-one c.args.indented c.args.value d cs i c.if-value-eq10.false c.begins_character.result (sym c.is_indent.ensures ∙ c.if-is_indent.false)
    (character-is d c.args.value c.args.first i b ∙ sym c.begins_character.ensures) c.if-begins_character.true

pub returns-clause-count : goal.returns-clause-count
returns-clause-count c = λ d cs i b.
    counts-none c.args.indented c.args.value d cs i c.if-value-eq10.false c.begins_character.result (sym c.is_indent.ensures ∙ c.if-is_indent.false)
    (character-is d c.args.value c.args.first i b ∙ sym c.begins_character.ensures) c.if-begins_character.false
