use Rattle.std.proofs.Common.{◌∙◌, ap, ◌++◌}
use Rattle.markdown_html_model.specs.Resolved.{is_literal, resolved}
use Rattle.markdown_html_model.proofs.Pieces.{front_more}
use Rattle.markdown_html_model.proofs.ResolvedText.{literal-first, resolved_more, resolved_end}
use Rattle.markdown_html_model.proofs.resolve.push_resolved.Goals as goal

pub loop-first-preserved : goal.loop-first-preserved
loop-first-preserved c =
    let so_far = front_more (resolved c.args.how) is_literal (literal-first c.args.how) _ c.loop-first.out.items c.loop-first.left.now c.split_at.result.0.now c.split_at.result.1.now c.literal_len.result c.loop-first.invariant
    c.literal_len.ensures.len c.split_at.ensures.front c.split_at.ensures.back in
    resolved_more c.args.how _ c.extend_from_slice.new.self.items _ c.split_at.result.1.now c.in-Some.first.now c.in-Some.rest.now c.in_ok-taken.taken _
    (ap (λ bs. bs ++ resolved c.args.how c.split_at.result.1.now) c.in_ok-extend_from_slice.ensures.items ∙ so_far)
    c.in-Some.ensures.cases.0 (c.in_ok-taken.ensures.text, c.in_ok-taken.ensures.taken) c.bytes_from-left.ensures

pub returns-in_default : goal.returns-in_default
returns-in_default c =
    let so_far = front_more (resolved c.args.how) is_literal (literal-first c.args.how) _ c.loop-first.out.items c.loop-first.left.now c.split_at.result.0.now c.split_at.result.1.now c.literal_len.result c.loop-first.invariant
    c.literal_len.ensures.len c.split_at.ensures.front c.split_at.ensures.back in
    resolved_end c.args.how _ c.extend_from_slice.new.self.items c.split_at.result.1.now (ap (λ bs. bs ++ resolved c.args.how c.split_at.result.1.now) c.in_ok-extend_from_slice.ensures.items ∙ so_far) c.in_default.ensures.cases
