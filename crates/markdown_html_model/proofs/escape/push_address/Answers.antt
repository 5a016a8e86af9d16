use Rattle.std.proofs.Common.{◌∙◌, ap, ◌++◌}
use Rattle.markdown_html_model.specs.Escaped.{addressed, is_address_byte}
use Rattle.markdown_html_model.proofs.Pieces.{front_more, address-kept, address_more, address_end}
use Rattle.markdown_html_model.proofs.escape.push_address.Goals as goal

pub loop-first-preserved : goal.loop-first-preserved
loop-first-preserved c =
    let so_far = front_more addressed is_address_byte address-kept _ c.loop-first.out.items c.loop-first.left.now c.split_at.result.0.now c.split_at.result.1.now c.kept_in_address.result c.loop-first.invariant
    c.kept_in_address.ensures.len c.split_at.ensures.front c.split_at.ensures.back in
    address_more _ c.extend_from_slice.new.self.items _ c.split_at.result.1.now c.in-Some.first.now c.in-Some.rest.now
    (ap (λ bs. bs ++ addressed c.split_at.result.1.now) c.in_ok-extend_from_slice.ensures.items ∙ so_far)
    c.in-Some.ensures.cases.0 c.in_ok-push_address_byte.ensures

pub returns-in_default : goal.returns-in_default
returns-in_default c =
    let so_far = front_more addressed is_address_byte address-kept _ c.loop-first.out.items c.loop-first.left.now c.split_at.result.0.now c.split_at.result.1.now c.kept_in_address.result c.loop-first.invariant
    c.kept_in_address.ensures.len c.split_at.ensures.front c.split_at.ensures.back in
    address_end _ c.extend_from_slice.new.self.items c.split_at.result.1.now (ap (λ bs. bs ++ addressed c.split_at.result.1.now) c.in_ok-extend_from_slice.ensures.items ∙ so_far) c.in_default.ensures.cases
