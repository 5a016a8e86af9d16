use Rattle.std.proofs.Common.{◌≡◌, ◌+◌, ◌&&◌, not, ℕ, ap, sym, ◌∙◌}
use Rattle.markdown_engine.specs.Operations.{ahead}
use Rattle.markdown_engine.specs.declared.tokenizer.Tokenizer.{Tokenizer}
use Rattle.markdown_content.specs.Place.{Place, ahead_at}
use Rattle.markdown_notes.specs.RunIndex.{leading, rules_out}
use Rattle.markdown_run_text.specs.PlacesPassed.{past_run}
use Rattle.markdown_run_text.proofs.AttentionReads.{run-at}
use Rattle.markdown_run_text.proofs.readers.raw_text.is_ruled_out.Goals as goal

pub returns : goal.returns
returns c =
    let T : Tokenizer = c.args.tokenizer.now in
    let m : ℕ = c.args.marker in
    let n : ℕ = leading m (ahead T) in
    let size : c.pass_run-size.result ≡ n = c.pass_run-size.ensures.size ∙ ap (λ (p : Place). leading m (ahead_at p)) c.save-behind.ensures in
    let last : c.passed.result ≡ T.cursor.at + n = c.passed.ensures ∙ ap (λ (p : Place). p.at) (c.pass_run-size.ensures.past ∙ ap (past_run m) c.save-behind.ensures) ∙ run-at m T.cursor in
    c.rules_out.ensures
    ∙ ap (λ k. rules_out T.tokenize_state.runs m k c.passed.result) size
    ∙ ap (λ k. rules_out T.tokenize_state.runs m n k) last
    ∙ ap (λ b. not b && rules_out T.tokenize_state.runs m n (T.cursor.at + n)) (sym (sym c.is_barred.ensures ∙ c.if-is_barred.false))
