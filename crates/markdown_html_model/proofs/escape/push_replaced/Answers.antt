use Rattle.std.proofs.Common.{◌∙◌, ap, ◌++◌}
use Rattle.markdown_html_model.specs.Escaped.{is_no_nul, replaced}
use Rattle.markdown_html_model.proofs.Pieces.{front_more}
use Rattle.markdown_html_model.proofs.NulInHtml.{replaced-kept, nul_more, nul_end}
use Rattle.markdown_html_model.proofs.escape.push_replaced.Goals as goal

pub loop-rest-preserved : goal.loop-rest-preserved
loop-rest-preserved c =
    let so_far = front_more replaced is_no_nul replaced-kept _ c.loop-rest.out.items c.loop-rest.left.now c.split_at.result.0.now c.split_at.result.1.now c.len_before_nul.result c.loop-rest.invariant
    c.len_before_nul.ensures.len c.split_at.ensures.front c.split_at.ensures.back in
    nul_more _ c.extend_from_slice.new.self.items _ c.loop-rest.left.now c.split_at.result.1.now c.in-Some.field-0-0.now c.in-Some.rest.now c.len_before_nul.result
    (ap (λ bs. bs ++ replaced c.split_at.result.1.now) c.in_ok-extend_from_slice.ensures.items ∙ so_far)
    c.len_before_nul.ensures.len c.split_at.ensures.back c.in-Some.ensures.cases.0 c.in_ok-extend_from_slice-2.ensures.items

pub returns-in_default : goal.returns-in_default
returns-in_default c =
    let so_far = front_more replaced is_no_nul replaced-kept _ c.loop-rest.out.items c.loop-rest.left.now c.split_at.result.0.now c.split_at.result.1.now c.len_before_nul.result c.loop-rest.invariant
    c.len_before_nul.ensures.len c.split_at.ensures.front c.split_at.ensures.back in
    nul_end _ c.extend_from_slice.new.self.items c.split_at.result.1.now (ap (λ bs. bs ++ replaced c.split_at.result.1.now) c.in_ok-extend_from_slice.ensures.items ∙ so_far) c.in_default.ensures.cases
