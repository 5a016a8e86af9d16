use Rattle.std.proofs.Common.{◌≡◌, ◌&&◌, not, Bool, true, false, sym, ◌∙◌, arith}
use Rattle.markdown_engine.specs.declared.tokenizer.Tokenizer.{Tokenizer}
use Rattle.markdown_run_text.proofs.PlainSpanReads.{walk-reads}
use Rattle.markdown_run_text.proofs.readers.raw_text.read.Goals as goal

both : (a b : Bool) → a ≡ true → b ≡ false → (a && not b) ≡ true
both a b e h = grind arith

pub returns-clause-reads : goal.returns-clause-reads
returns-clause-reads c =
    let T : Tokenizer = c.args.tokenizer.now in
    walk-reads T c.append_span.new.tokenizer c.args.marker c.pass_run-size.new.cursor c.pass_text.new.cursor c.pass_run-closing.new.cursor c.pass_run-size.result c.pass_run-closing.result c.point-start.result c.exit_point-from.result c.exit_point-to.result
    c.requires
    (both _ _ (sym c.opens.ensures ∙ c.if-not-opens.false) (sym c.is_barred.ensures ∙ c.if-is_barred.false))
    (record {
      first = c.pass_run-size.ensures.past;
      second = c.pass_text.ensures;
      third = c.pass_run-closing.ensures.past;
      opening = c.pass_run-size.ensures.size;
      closes = c.pass_run-closing.ensures.size;
      same = c.if-closing-size.false;
      begin = c.point-start.ensures;
      opened = c.exit_point-from.ensures.exit;
      inner = c.exit_point-from.ensures.within_line;
      ended = c.exit_point-to.ensures.exit;
      close = c.exit_point-to.ensures.within_line;
    })
    c.in_ok-append_span.ensures.ok
