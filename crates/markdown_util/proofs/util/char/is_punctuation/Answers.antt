use Rattle.std.proofs.Common.{◌∙◌, ◌<◌, sym, arith}
use Rattle.markdown_util.proofs.AsciiClasses.{punctuation_ascii}
use Rattle.markdown_util.proofs.util.char.is_punctuation.Goals as goal

pub returns-then-is_ascii : goal.returns-then-is_ascii
returns-then-is_ascii c =
    let low : c.args.c < 128 = grind arith in
    c.is_ascii_punctuation.ensures.value ∙ sym (punctuation_ascii c.args.c low)
