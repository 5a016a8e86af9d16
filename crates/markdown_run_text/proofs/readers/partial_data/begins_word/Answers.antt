use Rattle.std.proofs.Common.{sym, ◌∙◌}
use Rattle.markdown_run_text.proofs.WordLetters.{no-first}
use Rattle.markdown_run_text.proofs.readers.partial_data.begins_word.Goals as goal

pub returns-then-not-may_begin : goal.returns-then-not-may_begin
returns-then-not-may_begin c = sym (no-first c.args.cursor.now (sym c.may_begin.ensures ∙ c.if-not-may_begin.true))
