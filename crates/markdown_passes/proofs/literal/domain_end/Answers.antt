use Rattle.std.proofs.Common.{◌≡◌, ◌∙◌, ◌==◌, ◌||◌, sym, ap}
use Rattle.markdown_passes.specs.TrimmedData.{between}
use Rattle.markdown_passes.proofs.TrimWalks.{IsBegun, shorter, stretch-next}
use Rattle.markdown_passes.proofs.EmailDomains.{domain-whole, domain-begun, domain-step, or-first}
use Rattle.markdown_passes.proofs.literal.domain_end.Goals as goal
use Rattle.markdown_passes.proofs.literal.domain_end.Goals.{then-dot, else-dot}

pub loop-letter-init : goal.loop-letter-init
loop-letter-init c =
    (c.requires.stretch, domain-whole c.args.slashes c.args.from (between c.args.bytes.now c.args.from c.args.to))

pub code_from-code-requires-clause-begins : goal.code_from-code-requires-clause-begins
code_from-code-requires-clause-begins c =
    (domain-begun c.args.bytes.now c.loop-letter.point c.args.to c.loop-letter.invariant.0 c.args.slashes c.is_domain_next.result c.is_domain_next.ensures c.loop-letter-test.true).in_bytes

pub past_code-point-requires-clause-begins : goal.past_code-point-requires-clause-begins
past_code-point-requires-clause-begins c =
    (domain-begun c.args.bytes.now c.loop-letter.point c.args.to c.loop-letter.invariant.0 c.args.slashes c.is_domain_next.result c.is_domain_next.ensures c.loop-letter-test.true).in_bytes

pub loop-letter-smaller : goal.loop-letter-smaller
loop-letter-smaller c =
    let b : IsBegun c.args.bytes.now c.loop-letter.point c.args.to = domain-begun c.args.bytes.now c.loop-letter.point c.args.to c.loop-letter.invariant.0 c.args.slashes c.is_domain_next.result c.is_domain_next.ensures c.loop-letter-test.true in
    shorter c.args.bytes.now c.loop-letter.point c.args.to c.past_code-point.result b c.past_code-point.ensures.next

pub loop-letter-preserved : goal.loop-letter-preserved
loop-letter-preserved c =
    let b : IsBegun c.args.bytes.now c.loop-letter.point c.args.to = domain-begun c.args.bytes.now c.loop-letter.point c.args.to c.loop-letter.invariant.0 c.args.slashes c.is_domain_next.result c.is_domain_next.ensures c.loop-letter-test.true in
    let dots : c.if-dot.dot ≡ c.loop-letter.dot || c.code_from-code.result == 46 =
    elim c.if-dot.branch [
      | then-dot w ↦ w.dot-is ∙ or-first c.loop-letter.dot (c.code_from-code.result == 46) w.if-dot.true
      | else-dot w ↦ w.dot-is ∙ ap (λ b. b || c.code_from-code.result == 46) (sym w.if-dot.false)
    ] in (
      stretch-next c.args.bytes.now c.loop-letter.point c.args.to c.past_code-point.result b c.past_code-point.ensures.next,
      domain-step c.args.bytes.now c.loop-letter.point c.args.to c.loop-letter.invariant.0 c.args.slashes c.is_domain_next.result c.loop-letter.dot c.if-dot.dot c.loop-letter.letter c.is_letter-letter.result c.code_from-code.result c.past_code-point.result c.is_domain_next.ensures c.loop-letter-test.true c.code_from-code.ensures c.past_code-point.ensures.next dots c.is_letter-letter.ensures ∙ c.loop-letter.invariant.1,
    )
