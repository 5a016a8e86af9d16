use Rattle.markdown_block_line.proofs.BreakPlaces.{lens-of}
use Rattle.markdown_block_line.proofs.breaks.break_lens_of.Goals as goal

pub returns : goal.returns
returns c =
    lens-of c.args.marker c.args.line.now c.len_before-from.result c.third_last-until.result c.len_before-from.ensures.same c.len_before-from.ensures.within c.third_last-until.ensures.within
    c.third_last-until.ensures.thrice
