use Rattle.std.proofs.Common.{◌≤◌, length, rules}
use Rattle.markdown_passes.proofs.AtSignSearch.{sign-in, inside, IsInside}
use Rattle.markdown_passes.proofs.literal.has_sign.Goals as goal

pub slice_bounds-contains-end : goal.slice_bounds-contains-end
slice_bounds-contains-end c =
    let w : IsInside c.args.bytes.now c.args.from c.args.to = inside c.args.bytes.now c.args.from c.args.to c.requires.stretch in
    let order : c.args.from.index ≤ c.args.to.index = w.order in
    let low : c.args.to.index ≤ length c.args.bytes.now = w.within in
    search rules

pub returns : goal.returns
returns c = sign-in c.args.bytes.now c.args.from c.args.to c.requires.stretch c.contains.result c.contains.ensures.cases
