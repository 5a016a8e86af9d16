use Rattle.std.proofs.Common.{◌∙◌, arith}
use Rattle.markdown_content.proofs.DocumentPlaces.{stands-point}
use Rattle.markdown_content.proofs.VirtualSpaces.{before-is, after-is, byte_from-in, byte_from-order, index_fits}
use Rattle.markdown_content.proofs.util.slice.Slice.from_position.Goals as goal

pub first_byte-requires : goal.first_byte-requires
first_byte-requires c = index_fits c.args.bytes.now c.args.position.now.start c.requires.start c.requires.fits

pub first_byte-requires-2 : goal.first_byte-requires-2
first_byte-requires-2 c = index_fits c.args.bytes.now c.args.position.now.end c.requires.end c.requires.fits

pub slice_bounds-result-end : goal.slice_bounds-result-end
slice_bounds-result-end c = grind (arith, byte_from-order, byte_from-in)

pub columns_before-requires-clause-from_one : goal.columns_before-requires-clause-from_one
columns_before-requires-clause-from_one c =
    (stands-point c.args.bytes.now c.args.position.now.start c.requires.start).from_one

pub returns-clause-before : goal.returns-clause-before
returns-clause-before c =
    c.columns_before.ensures ∙ before-is c.args.bytes.now c.args.position.now.start c.args.position.now.end c.requires.start c.requires.end c.requires.in_order

pub returns-clause-after : goal.returns-clause-after
returns-clause-after c =
    c.columns_after.ensures ∙ after-is c.args.bytes.now c.args.position.now.start c.args.position.now.end c.requires.start c.requires.end c.requires.in_order
