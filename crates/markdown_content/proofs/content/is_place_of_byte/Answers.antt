use Rattle.std.proofs.Common.{arith}
use Rattle.markdown_content.proofs.BytePlaces.{end-place, start-place, other-place, feed-place}
use Rattle.markdown_content.proofs.content.is_place_of_byte.Goals as goal

pub returns-then-index-bytes : goal.returns-then-index-bytes
returns-then-index-bytes c = end-place c.args.bytes.now c.args.index (omega (arith, c.if-index-bytes.true))

pub returns-then-index-eq0 : goal.returns-then-index-eq0
returns-then-index-eq0 c = start-place c.args.bytes.now c.args.index c.if-index-eq0.true

pub returns-then-bytes-index-ne10 : goal.returns-then-bytes-index-ne10
returns-then-bytes-index-ne10 c =
    other-place c.args.bytes.now c.args.index (omega (arith, c.if-index-bytes.false)) c.if-bytes-index-ne10.true

pub returns : goal.returns
returns c =
    feed-place c.args.bytes.now c.args.index (omega (arith, c.if-index-eq0.false)) (omega (arith, c.if-index-bytes.false)) (omega (arith, c.if-bytes-index-ne10.false))
