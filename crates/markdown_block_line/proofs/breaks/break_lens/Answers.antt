use Rattle.std.proofs.Common.{◌≡◌, ◌∙◌, ◌-◌, suc, sym, ap, get_or, arith, refl}
use Rattle.std.specs.Prelude.{◌==◌, ◌||◌}
use Rattle.markdown_block_line.proofs.BreakPlaces.{lens-nowhere, lens-marker}
use Rattle.markdown_block_line.proofs.breaks.break_lens.Goals as goal

pub returns-then-len-eq0 : goal.returns-then-len-eq0
returns-then-len-eq0 c = lens-nowhere c.args.line.now (λ j e. absurd (omega (arith, e, c.len_before-len.ensures.same, c.if-len-eq0.true)))

pub returns-then-not-is_break_marker : goal.returns-then-not-is_break_marker
returns-then-not-is_break_marker c =
    let len = c.len_before-len.result in
    lens-nowhere c.args.line.now (λ j e.
    let i : len - 1 ≡ j = omega (arith, e, c.len_before-len.ensures.same) in
    ap (λ k. get_or c.args.line.now k 0 == 42 || get_or c.args.line.now k 0 == 45 || get_or c.args.line.now k 0 == 95) (sym i) ∙ sym c.is_break_marker.ensures ∙ c.if-not-is_break_marker.true)

pub returns : goal.returns
returns c =
    let len = c.len_before-len.result in
    let s : suc (len - 1) ≡ len = omega (arith, c.if-len-eq0.false) in
    lens-marker c.args.line.now len (len - 1) _ c.break_lens_of.result c.len_before-len.ensures.same s refl (sym c.is_break_marker.ensures ∙ c.if-not-is_break_marker.false) c.break_lens_of.ensures
