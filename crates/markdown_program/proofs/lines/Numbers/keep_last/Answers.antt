use Rattle.markdown_program.proofs.PrintedNumbers.{last-kept}
use Rattle.markdown_program.proofs.lines.Numbers.keep_last.Goals as goal

pub returns : goal.returns
returns c =
    last-kept c.self.inside.start c.args.n c.self.inside.bytes c.args.self.now c.self.invariant c.self.told c.self.view_is c.requires.1
