-- What is known is kept within the domain, and read anew behind it.
use Rattle.std.proofs.Common.{arith}
use Rattle.markdown_leaf_gfm.proofs.DomainScanLemmas.{reaches-read, barred-known, barred-read}
use Rattle.markdown_leaf_gfm.proofs.domain_outlook.Outlook.over.Goals as goal

pub returns-then-passed-self-clause-here : goal.returns-then-passed-self-clause-here
returns-then-passed-self-clause-here c =
    barred-known c.args.bytes.now c.args.place.now c.args.self (omega (arith, c.if-passed-self.true, c.passed.ensures)) c.requires.known

pub returns-else-passed-self-clause-known : goal.returns-else-passed-self-clause-known
returns-else-passed-self-clause-known c =
    reaches-read c.args.bytes.now c.args.place.now c.at.result c.at.ensures.end c.at.ensures.barred

pub returns-else-passed-self-clause-here : goal.returns-else-passed-self-clause-here
returns-else-passed-self-clause-here c = barred-read c.args.bytes.now c.args.place.now c.at.result c.at.ensures.barred
