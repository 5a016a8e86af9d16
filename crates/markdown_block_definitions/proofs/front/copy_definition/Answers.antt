use Rattle.std.proofs.Common.{◌∙◌, ◌+◌, ap, sym, arith, drop, length}
use Rattle.markdown_model.specs.CodeTests.{values_of}
use Rattle.markdown_page_model.specs.PageTexts.{text_of}
use Rattle.markdown_block_line.proofs.RestValues.{rest-values, values-length}
use Rattle.markdown_block_definitions.specs.DefinitionParts.{stretch_of}
use Rattle.markdown_block_definitions.proofs.CodesAt.{rest-firsts}
use Rattle.markdown_block_definitions.proofs.FrontTexts.{part-of, part-firsts, texts-same}
use Rattle.markdown_block_definitions.proofs.front.copy_definition.Goals as goal

pub returns : goal.returns
returns c = λ cs h b.
    let vs = c.args.values.now in
    let bs = c.args.firsts.now in
    let d = c.args.found.destination in
    let label = c.inside-label.result in
    let target = c.destination_inside-target.result in
    texts-same _ _ _ _ _ _
    (c.in_ok-copy.ensures ∙ sym (part-of cs vs label.start label.len _ h (omega arith)) ∙ ap values_of (c.inside-label.ensures.is cs (omega (arith, c.requires.within.label, c.requires.within.whole, values-length cs, ap length h))))
    (c.in_ok-said.ensures (stretch_of target cs) (part-of cs vs target.start target.len _ h (omega arith)) (part-firsts cs bs target.start target.len _ b (omega arith)) ∙ ap text_of (c.destination_inside-target.ensures.is cs h))
    (c.in_ok-copy_title.ensures (drop (d.start + d.len) cs) (rest-values (d.start + d.len) cs vs h) (rest-firsts (d.start + d.len) cs bs b))
