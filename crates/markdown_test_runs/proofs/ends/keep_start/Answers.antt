use Rattle.markdown_inline.specs.markdown_label.LabelEnd.{LabelEndStartReady}
use Rattle.markdown_test_runs.proofs.LabelEndReady.{end-ready, on-ok, with_start}
use Rattle.markdown_test_runs.proofs.ends.keep_start.Goals as goal

pub returns-clause-construct : goal.returns-clause-construct
returns-clause-construct c =
    on-ok c.push-2.result _ (LabelEndStartReady (with_start c.push.new.self c.push-2.new.self c.args.tokenizer.now)) c.push-2.ensures.ok
    (end-ready c.args.tokenizer.now c.push.new.self c.push-2.new.self c.requires.events c.requires.rest c.requires.fits c.requires.text c.in_ok-push.ensures.ok)
