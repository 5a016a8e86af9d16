use Rattle.std.proofs.Common.{sym}
use Rattle.markdown_passes.proofs.EmailScanLemmas.{scan-start}
use Rattle.markdown_passes.proofs.literal.scan_from.Goals as goal

pub returns : goal.returns
returns c bytes h = sym (scan-start bytes c.args.from h)
