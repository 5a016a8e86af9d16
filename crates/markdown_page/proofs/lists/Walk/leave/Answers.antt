use Rattle.std.proofs.Common.{arith}
use Rattle.markdown_page.proofs.ListSteps.{row-within, walked-pass}
use Rattle.markdown_page.proofs.lists.Walk.leave.Goals as goal

pub pass-requires : goal.pass-requires
pass-requires c =
    let before = c.requires.walked in
    row-within before.0 c.loop-self.self c.pop.new.self.items c.in-Some.container (c.loop-self.invariant.walked before.0 before.1) c.in-Some.ensures.items

pub loop-self-preserved-in-Some : goal.loop-self-preserved-in-Some
loop-self-preserved-in-Some c = record {
  walked = λ t h. walked-pass t c.loop-self.self c.pass.new.self c.pop.new.self.items c.in-Some.container (c.loop-self.invariant.walked t h) c.in-Some.ensures.items (cc) (cc) c.pass.ensures.last c.pass.ensures.blank;
  within = rw c.pass.ensures.path (omega (arith, c.in-Some.ensures.len));
}
