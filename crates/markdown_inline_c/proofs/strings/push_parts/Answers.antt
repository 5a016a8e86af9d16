use Rattle.std.proofs.Common.{arith, subst, IfOk, List}
use Rattle.std.specs.List.{All}
use Rattle.markdown_inline_c.specs.FlatInput.{IsLabelRange}
use Rattle.markdown_inline_c.specs.declared.flat.Range.{Range}
use Rattle.markdown_inline_c.proofs.Joined.{one_listed}
use Rattle.markdown_inline_c.proofs.strings.push_parts.Goals as goal

pub returns-in-len1-clause-parts : goal.returns-in-len1-clause-parts
returns-in-len1-clause-parts c =
    subst
    (λ (xs : List Range). IfOk c.push_one.result (λ _. All (IsLabelRange c.args.bytes.now) xs))
    (one_listed c.args.parts.now _ (omega (arith, c.in-len1.len_at_least, c.in-len1.len_below)))
    c.push_one.ensures.parts
