use Rattle.std.proofs.Common.{arith}
use Rattle.markdown_content.proofs.GroupWalk.{past-group, told-none, told-some}
use Rattle.markdown_content.proofs.NextPlace.{Fits_point, point_fits}
use Rattle.markdown_document.proofs.places.behind_group.Goals as goal

pub overflow_add-result : goal.overflow_add-result
overflow_add-result c =
    let n : Fits_point c.args.point = point_fits c.args.bytes.now c.args.point c.requires.is_point c.requires.fits in
    omega (arith, n.column, c.requires.few)

pub overflow_add-result-else-feeds-eq0 : goal.overflow_add-result-else-feeds-eq0
overflow_add-result-else-feeds-eq0 c =
    let o = past-group c.args.bytes.now c.args.point c.args.count c.args.group c.requires.is_point c.requires.at_byte c.requires.room c.requires.few
    c.requires.of_lines c.requires.feeds in
    let n : Fits_point o.0 = point_fits c.args.bytes.now o.0 o.1 c.requires.fits in
    omega (arith, n.line, o.2.line)

pub overflow_sub-result : goal.overflow_sub-result
overflow_sub-result c =
    let o = past-group c.args.bytes.now c.args.point c.args.count c.args.group c.requires.is_point c.requires.at_byte c.requires.room c.requires.few
    c.requires.of_lines c.requires.feeds in
    (told-some c.args.bytes.now c.args.point c.args.count _ c.ilog2.result o c.ilog2.ensures.power_le c.ilog2.ensures.next_power_gt).1

pub returns-then-feeds-eq0-clause-is_point : goal.returns-then-feeds-eq0-clause-is_point
returns-then-feeds-eq0-clause-is_point c =
    told-none c.args.bytes.now c.args.point c.args.count _
    (past-group c.args.bytes.now c.args.point c.args.count c.args.group c.requires.is_point c.requires.at_byte c.requires.room c.requires.few
    c.requires.of_lines c.requires.feeds) c.if-feeds-eq0.true

pub returns-else-feeds-eq0-clause-is_point : goal.returns-else-feeds-eq0-clause-is_point
returns-else-feeds-eq0-clause-is_point c =
    (told-some c.args.bytes.now c.args.point c.args.count _ c.ilog2.result
    (past-group c.args.bytes.now c.args.point c.args.count c.args.group c.requires.is_point c.requires.at_byte c.requires.room c.requires.few
    c.requires.of_lines c.requires.feeds) c.ilog2.ensures.power_le c.ilog2.ensures.next_power_gt).0
