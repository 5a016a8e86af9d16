use Rattle.std.proofs.Common.{rules, ◌≤◌, ◌+◌, ◌*◌, ◌==◌, ◌∙◌, ap, arith, length, take, drop}
use Rattle.std.specs.List.{count_by}
use Rattle.markdown_content.proofs.CodeCounts.{few-taken, groups-more}
use Rattle.markdown_content.proofs.byte_counts.count_in_groups.Goals as goal

pub overflow_add-count : goal.overflow_add-count
overflow_add-count c =
    let few : c.loop-group.count ≤ 16 * c.loop-group.group = omega (arith, c.loop-group.invariant, few-taken c.args.byte (16 * c.loop-group.group) (drop c.args.from c.args.bytes.now)) in
    let more : c.same_among-count.result ≤ 16 = omega (arith, c.same_among-count.ensures, few-taken c.args.byte 16 (drop (c.args.from + 16 * c.loop-group.group) c.args.bytes.now)) in
    let sum : c.loop-group.count + c.same_among-count.result ≤ length c.args.bytes.now = omega (arith, few, more, c.loop-group-test.true, c.requires) in
    search rules

pub loop-group-preserved : goal.loop-group-preserved
loop-group-preserved c =
    ap (λ n. n + c.same_among-count.result) c.loop-group.invariant
    ∙ ap (λ n. count_by (λ b. b == c.args.byte) (take (16 * c.loop-group.group) (drop c.args.from c.args.bytes.now)) + n) c.same_among-count.ensures
    ∙ groups-more c.args.bytes.now c.args.byte c.args.from c.loop-group.group
