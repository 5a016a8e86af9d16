use Rattle.std.proofs.Common.{refl}
use Rattle.markdown_html.specs.View.{page_from}
use Rattle.markdown_html.proofs.BroughtBound.{few_within}
use Rattle.markdown_html.proofs.brought_at_most.is_within_limit.Goals as goal

pub returns-then-are_few : goal.returns-then-are_few
returns-then-are_few c = λ t is.
    let page = page_from c.args.parse_state.now c.args.pieces.now c.args.definitions.now c.args.options in
    (λ _. few_within page t c.args.events.now c.args.limit is (c.if-are_few.ensures refl), λ _. refl)
