use Rattle.std.proofs.Common.{◌∙◌, ap, arith}
use Rattle.markdown_content.specs.Content.{content_of}
use Rattle.markdown_block_model.specs.LineRests.{trimmed_end}
use Rattle.markdown_block_definitions.proofs.LinesTaken.{few-lines, pieces-left}
use Rattle.markdown_block_definitions.proofs.ResolvedRowLemmas.{ends-twice, placed-lines}
use Rattle.markdown_block_definitions.proofs.resolved.resolve_text.Goals as goal

pub cut_lines-requires : goal.cut_lines-requires
cut_lines-requires c =
    let front = rw c.as_slice.ensures.value at c.in_ok-front.ensures in
    omega (arith, front.within, few-lines c.args.document.now c.args.text.now.items c.requires.in_order c.requires.one_line_each)

pub returns-clause-codes : goal.returns-clause-codes
returns-clause-codes c =
    let front = rw c.as_slice.ensures.value at c.in_ok-front.ensures in
    c.in_ok-trim_end.ensures.codes
    ∙ ap trimmed_end (ap (content_of c.args.document.now) c.cut_lines.ensures.pieces ∙ pieces-left c.args.document.now c.in_ok-front.front.lines c.args.text.now.items c.requires.in_order c.requires.one_line_each front.rest)

pub returns-clause-content : goal.returns-clause-content
returns-clause-content c = λ u l. c.in_ok-trim_end.ensures.content (c.cut_lines.ensures.placed c.args.document.now c.requires) u l

pub returns-clause-trimmed : goal.returns-clause-trimmed
returns-clause-trimmed c = ends-twice (content_of c.args.document.now c.cut_lines.new.text.items) _ c.in_ok-trim_end.ensures.codes

pub returns-clause-lines : goal.returns-clause-lines
returns-clause-lines c = placed-lines c.args.document.now _ (c.in_ok-trim_end.ensures.text (c.cut_lines.ensures.placed c.args.document.now c.requires)).placed
