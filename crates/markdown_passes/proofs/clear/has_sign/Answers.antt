use Rattle.std.proofs.Common.{◌≤◌, arith, length, sym}
use Rattle.markdown_passes.proofs.AtSignSearch.{inside, IsInside}
use Rattle.markdown_passes.proofs.ClearBytes.{clear-stretch, sign-by}
use Rattle.markdown_passes.proofs.clear.has_sign.Goals as goal

pub returns-then-to-clear-clause-value : goal.returns-then-to-clear-clause-value
returns-then-to-clear-clause-value c =
    sym (clear-stretch c.args.bytes.now c.args.from c.args.to c.args.clear.now.from c.args.clear.now.to c.requires.stretch c.requires.clear.none c.if-clear-from.true c.if-to-clear.true)

pub clear_from-requires-clause-within : goal.clear_from-requires-clause-within
clear_from-requires-clause-within c =
    let w : IsInside c.args.bytes.now c.args.from c.args.to = inside c.args.bytes.now c.args.from c.args.to c.requires.stretch in
    let low : c.args.to.index ≤ length c.args.bytes.now = w.within in
    omega (arith, c.max.ensures, c.requires.clear.within, low)

pub returns-clause-value : goal.returns-clause-value
returns-clause-value c =
    let r = c.clear_from.ensures in
    sign-by c.args.bytes.now c.args.from c.args.to c.clear_from.result.to c.max.result c.requires.stretch (λ i low high. r.clear.none i (omega (arith, r.from, low)) high) r.low (omega (arith, c.max.ensures)) r.sign
