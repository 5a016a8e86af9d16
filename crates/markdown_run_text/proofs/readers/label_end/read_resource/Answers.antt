use Rattle.std.proofs.Common.{arith}
use Rattle.std.proofs.lemmas.Result.{on_ok_weaker}
use Rattle.markdown_run_text.proofs.PlainResourceReads.{destination-follows, tail-follows}
use Rattle.markdown_run_text.proofs.readers.label_end.read_resource.Goals as goal

pub read_destination-requires : goal.read_destination-requires
read_destination-requires c = grind (arith, destination-follows, c.requires, c.in_ok-read_marker.ensures.ok, c.in_ok-append_enter.ensures.ok, c.point.ensures)

pub read_tail-requires : goal.read_tail-requires
read_tail-requires c = grind (arith, tail-follows, c.requires, c.in_ok-read_marker.ensures.ok, c.in_ok-append_enter.ensures.ok, c.point.ensures, c.in_ok-read_destination.ensures.ok)

pub returns-clause-ok : goal.returns-clause-ok
returns-clause-ok c = grind (arith, on_ok_weaker, c.in_ok-read_marker.ensures.ok, c.in_ok-append_enter.ensures.ok, c.point.ensures, c.in_ok-read_tail.ensures.ok, c.in_ok-read_destination.ensures.ok, c.append_exit.ensures.ok)
