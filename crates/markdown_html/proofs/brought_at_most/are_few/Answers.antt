use Rattle.std.proofs.Common.{◌≤◌, ◌*◌, length, arith, refl, subst}
use Rattle.std.proofs.Math.Nat.{mul-le-mul_right}
use Rattle.markdown_html.specs.BroughtAtMost.{link_ends}
use Rattle.markdown_html.proofs.BroughtBound.{few_ends}
use Rattle.markdown_html.proofs.brought_at_most.are_few.Goals as goal

pub returns-then-is_within : goal.returns-then-is_within
returns-then-is_within c = λ _.
    let most = c.in-Some.most in
    let ends : link_ends c.args.events.now * most ≤ length c.args.events.now * most = mul-le-mul_right most (few_ends c.args.events.now) in
    let all : length c.args.events.now * most ≤ c.args.limit = subst (λ n. n * most ≤ c.args.limit) c.len.ensures (c.if-is_within.ensures refl) in
    (most, c.in-Some.ensures, omega (arith, ends, all))
