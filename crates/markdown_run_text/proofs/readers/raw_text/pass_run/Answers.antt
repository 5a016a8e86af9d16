use Rattle.std.proofs.Common.{◌≡◌, ◌+◌, ℕ, ap, ◌∙◌, arith}
use Rattle.markdown_content.specs.Place.{Place, ahead_at}
use Rattle.markdown_notes.specs.RunIndex.{leading}
use Rattle.markdown_run_text.specs.PlacesPassed.{past_run}
use Rattle.markdown_run_text.proofs.AttentionReads.{run-at}
use Rattle.markdown_run_text.proofs.readers.raw_text.pass_run.Goals as goal

-- so many codes stand before the place behind the run
behind-at : (m at : ℕ) (start behind : Place) → at ≡ behind.at → behind ≡ past_run m start → at ≡ start.at + leading m (ahead_at start)
behind-at m at start behind e passes = e ∙ ap (λ (p : Place). p.at) passes ∙ run-at m start

pub overflow_sub-result : goal.overflow_sub-result
overflow_sub-result c = grind (arith, behind-at c.args.marker c.passed.result c.args.cursor.now c.pass_markers.new.cursor, c.passed.ensures, c.pass_markers.ensures, c.passed-start.ensures)

pub returns-clause-size : goal.returns-clause-size
returns-clause-size c = grind (arith, behind-at c.args.marker c.passed.result c.args.cursor.now c.pass_markers.new.cursor, c.passed.ensures, c.pass_markers.ensures, c.passed-start.ensures)
