use Rattle.std.proofs.Common.{◌∙◌, ap, sym, arith, length}
use Rattle.markdown_block_line.proofs.RestValues.{values-length}
use Rattle.markdown_block_definitions.specs.DefinitionParts.{stretch_of}
use Rattle.markdown_block_definitions.proofs.FrontTexts.{part-of, destination-inside, destination-bare}
use Rattle.markdown_block_definitions.proofs.front.destination_inside.Goals as goal

pub returns-then-begins_with-clause-is : goal.returns-then-begins_with-clause-is
returns-then-begins_with-clause-is c = λ cs h.
    let d = c.args.destination in
    c.inside.ensures.is cs (omega (arith, c.requires, values-length cs, ap length h))
    ∙ sym (destination-inside (stretch_of d cs) (c.begins_with.ensures.first (stretch_of d cs) (part-of cs c.args.values.now d.start d.len _ h (omega arith)) ∙ c.if-begins_with.true))

pub returns-clause-is : goal.returns-clause-is
returns-clause-is c = λ cs h.
    let d = c.args.destination in
    sym (destination-bare (stretch_of d cs) (c.begins_with.ensures.first (stretch_of d cs) (part-of cs c.args.values.now d.start d.len _ h (omega arith)) ∙ c.if-begins_with.false))
