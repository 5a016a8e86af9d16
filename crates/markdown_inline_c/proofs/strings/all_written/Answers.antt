use Rattle.markdown_inline_c.specs.FlatStrings.{all_written}
use Rattle.markdown_inline_c.proofs.Written.{all_are, one_more}
use Rattle.markdown_inline_c.proofs.strings.all_written.Goals as goal

pub loop-byte-preserved : goal.loop-byte-preserved
loop-byte-preserved c =
    one_more c.args.how (all_written c.args.how c.args.bytes.now) c.loop-byte.found.items c.push_written.new.out.items c.loop-byte.left.now c.in-Some.byte.now c.in-Some.rest.now
    c.loop-byte.invariant c.in-Some.ensures.cases.0 c.in_ok-push_written.ensures

pub returns-in_default : goal.returns-in_default
returns-in_default c = all_are c.args.how (all_written c.args.how c.args.bytes.now) c.loop-byte.found.items c.loop-byte.left.now c.loop-byte.invariant c.in_default.ensures.cases
