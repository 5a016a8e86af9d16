use Rattle.markdown_passes.proofs.ClearBytes.{found-first, found-nowhere, found-sign}
use Rattle.markdown_passes.proofs.clear.clear_from.Goals as goal

pub returns-in-Some-clause-clear : goal.returns-in-Some-clause-clear
returns-in-Some-clause-clear c = record {
  none = found-first c.args.bytes.now c.args.from c.args.end c.in-Some.before c.requires.order c.requires.within c.in-Some.ensures.0;
  within = c.requires.within;
}

pub returns-in-Some-clause-sign : goal.returns-in-Some-clause-sign
returns-in-Some-clause-sign c = λ more.
    found-sign c.args.bytes.now c.args.from c.args.end c.in-Some.before c.requires.order c.requires.within c.in-Some.ensures.0.high c.in-Some.ensures.1

pub returns-in-None-clause-clear : goal.returns-in-None-clause-clear
returns-in-None-clause-clear c = record {
  none = found-nowhere c.args.bytes.now c.args.from c.args.end c.requires.order c.requires.within c.in-None.ensures;
  within = c.requires.within;
}
