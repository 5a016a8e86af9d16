use Rattle.std.proofs.Common.{◌∙◌, ap, arith, List, ◌∷◌, ◌++◌, [], ℕ, map, string_bytes}
use Rattle.markdown_util.specs.Identifier.{identifier_by}
use Rattle.markdown_inline_c.proofs.Labels.{all_read, one_more}
use Rattle.markdown_inline_c.proofs.input.some_identifiers_of.Goals as goal

pub loop-range-preserved : goal.loop-range-preserved
loop-range-preserved c =
    one_more c.args.replaced c.args.labels.now c.args.ranges.now c.loop-range.range-index _ c.loop-range.found.items c.push_identifier.new.found.items c.loop-range-test.true c.loop-range.invariant
    c.in-Some.ensures.some.1
    (c.in_ok-push_identifier.ensures ∙ ap (λ (t : List ℕ). map string_bytes c.loop-range.found.items ++ identifier_by c.args.replaced t ∷ []) c.in-Some.ensures.some.0)

pub returns-clause-labels : goal.returns-clause-labels
returns-clause-labels c =
    (all_read c.args.replaced c.args.labels.now c.args.ranges.now c.loop-range.found.items c.loop-range.range-index (omega (arith, c.loop-range-test.false)) c.loop-range.invariant).1
