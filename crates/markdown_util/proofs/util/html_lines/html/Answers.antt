use Rattle.std.proofs.Common.{sym, subst, List, ℕ}
use Rattle.markdown_util.specs.Reference.{html_rows}
use Rattle.markdown_util.specs.TableText.{IsSortedText}
use Rattle.markdown_util.proofs.ReferenceTables.{html_text_sorted}
use Rattle.markdown_util.proofs.util.html_lines.html.Goals as goal

pub text_in-requires : goal.text_in-requires
text_in-requires c = subst (λ (t : List ℕ). IsSortedText html_rows t) (sym c.html_lines.ensures) html_text_sorted
