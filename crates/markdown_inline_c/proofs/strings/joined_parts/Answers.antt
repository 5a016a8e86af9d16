use Rattle.std.proofs.Common.{◌∙◌, ap, arith, List, ◌++◌, ℕ}
use Rattle.markdown_inline_c.proofs.Joined.{all_joined, one_more}
use Rattle.markdown_inline_c.proofs.strings.joined_parts.Goals as goal

pub loop-part-preserved : goal.loop-part-preserved
loop-part-preserved c =
    one_more c.args.bytes.now c.args.parts.now c.loop-part.part-index _ c.loop-part.found.items c.push_bytes.new.joined.items c.loop-part-test.true c.loop-part.invariant
    c.in-Some.ensures.some.1
    (c.in_ok-push_bytes.ensures ∙ ap (λ (t : List ℕ). c.loop-part.found.items ++ t) c.in-Some.ensures.some.0)

pub returns-clause-parts : goal.returns-clause-parts
returns-clause-parts c =
    (all_joined c.args.bytes.now c.args.parts.now c.loop-part.found.items c.loop-part.part-index (omega (arith, c.loop-part-test.false)) c.loop-part.invariant).1
