use Rattle.std.proofs.Common.{◌≡◌, sym, ◌∙◌}
use Rattle.markdown_engine.specs.declared.tokenizer.Tokenizer.{Tokenizer}
use Rattle.markdown_run.proofs.RunConstructLemmas.{put_back, construct-ready, construct-stays, construct-reads}
use Rattle.markdown_run.proofs.run.construct.Goals as goal

pub run_state-requires-clause-ready : goal.run_state-requires-clause-ready
run_state-requires-clause-ready c =
    construct-ready c.args.name c.args.tokenizer.now (c.requires.construct (sym c.failed.ensures ∙ c.if-failed.false))

pub returns-then-not-held-clause-reads : goal.returns-then-not-held-clause-reads
returns-then-not-held-clause-reads c =
    let T : Tokenizer = c.args.tokenizer.now in
    let U : Tokenizer = c.run_state.new.self in
    let e : c.put_back.new.tokenizer ≡ put_back T U = simp (c.len-events_len.ensures, c.len-map_len.ensures, c.len-stack_len.ensures, c.save-cursor.ensures) at c.put_back.ensures in
    construct-stays c.args.name T U c.put_back.new.tokenizer c.in_ok-held.held (c.requires.construct (sym c.failed.ensures ∙ c.if-failed.false)) c.if-not-held.true c.in_ok-held.ensures.ends e

pub returns-else-not-held-clause-reads : goal.returns-else-not-held-clause-reads
returns-else-not-held-clause-reads c =
    construct-reads c.args.name c.args.tokenizer.now c.run_state.new.self c.in_ok-held.held (c.requires.construct (sym c.failed.ensures ∙ c.if-failed.false)) c.if-not-held.false c.in_ok-held.ensures.ends
