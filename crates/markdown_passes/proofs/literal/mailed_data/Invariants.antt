use Rattle.std.proofs.Common.{length}
use Rattle.markdown_passes.specs.TrimmedData.{between}
use Rattle.markdown_passes.specs.EmailScan.{mail_events}
use Rattle.markdown_passes.proofs.EmailAtSign.{IsUnder}
use Rattle.markdown_passes.proofs.literal.mailed_data.Given as goal

-- the events so far and those that are left are those of all the data
abbrev pub invariant-loop-scan : goal.invariant-loop-scan
invariant-loop-scan l = IsUnder l.bytes l.scan l.to l.events.items (mail_events l.bytes l.fn.from l.to)

abbrev pub decreases-loop-scan : goal.decreases-loop-scan
decreases-loop-scan l = length (between l.bytes l.scan.point l.to)
