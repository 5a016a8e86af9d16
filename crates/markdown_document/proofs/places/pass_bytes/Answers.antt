use Rattle.std.proofs.Common.{◌<◌, length, refl, arith}
use Rattle.markdown_content.proofs.NextPlace.{byte_on, feed_on}
use Rattle.markdown_content.proofs.NextPlace.{Fits_point, point_fits}
use Rattle.markdown_document.proofs.places.pass_bytes.Goals as goal

pub overflow_add-point : goal.overflow_add-point
overflow_add-point c =
    let n : Fits_point c.loop-point.point = point_fits c.args.bytes.now c.loop-point.point c.loop-point.invariant.0 c.requires.fits in
    omega (arith, n.column)

pub overflow_add-point-then-byte-eq10 : goal.overflow_add-point-then-byte-eq10
overflow_add-point-then-byte-eq10 c =
    let n : Fits_point c.loop-point.point = point_fits c.args.bytes.now c.loop-point.point c.loop-point.invariant.0 c.requires.fits in
    omega (arith, n.line)

pub loop-point-preserved-then-byte-gt13 : goal.loop-point-preserved-then-byte-gt13
loop-point-preserved-then-byte-gt13 c =
    let lt : c.loop-point.point.index < length c.args.bytes.now = omega (arith, c.loop-point-test.true, c.requires.within) in
    (byte_on c.args.bytes.now c.loop-point.point c.loop-point.invariant.0 lt c.if-byte-gt13.true, refl, omega (arith, c.loop-point-test.true), omega (arith, c.loop-point.invariant.3))

pub loop-point-preserved : goal.loop-point-preserved
loop-point-preserved c =
    let lt : c.loop-point.point.index < length c.args.bytes.now = omega (arith, c.loop-point-test.true, c.requires.within) in
    (feed_on c.args.bytes.now c.loop-point.point c.loop-point.invariant.0 lt c.if-byte-eq10.true, refl, omega (arith, c.loop-point-test.true), omega (arith, c.loop-point.invariant.3))
