use Rattle.markdown_innermost.specs.InnermostEvents.{lent}
use Rattle.markdown_innermost.proofs.leaf.lend.Goals as goal

pub returns : goal.returns
unfolding lent
returns c = λ i. record {
  name = c.args.enter.name;
  start = c.args.enter.point;
  end = c.args.exit.point;
  bytes = c.from_position.ensures.bytes i;
  before = c.from_position.ensures.before i;
  after = c.from_position.ensures.after i;
}
