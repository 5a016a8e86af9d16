use Rattle.std.proofs.Common.{◌≡◌, false}
use Rattle.markdown_content.specs.declared.content.Stretch.{Stretch}
use Rattle.markdown_event.specs.declared.event.Point.{Point}
use Rattle.markdown_content.proofs.WalkTargets.{reaching-start, reaching-end, both-tests}
use Rattle.markdown_content.proofs.content.reach.Goals as goal

pub returns-then-eq : goal.returns-then-eq
returns-then-eq c =
    let p : Point = c.args.point in
    let s : Stretch = record { point = p; has_line_ending = false; ends_line = false } in
    let same : (p.index ≡ c.args.place.0) × (p.vs ≡ c.args.place.1) = both-tests p.index p.vs c.args.place.0 c.args.place.1 c.eq.result c.eq.ensures c.if-eq.true in
    reaching-end c.args.bytes.now p c.args.place s (reaching-start c.args.bytes.now p c.args.place c.requires.is_point c.requires.forward) same.0 same.1
