use Rattle.std.proofs.lemmas.Result.{on_ok_weaker}
use Rattle.markdown_run.proofs.ReadyTexts.{learned, learned-nothing}
use Rattle.markdown_run.proofs.elements.learn.Goals as goal

pub index-requires : goal.index-requires
index-requires c = c.requires.may_try.start.ends.text

pub returns-then-not-asks-clause-ok : goal.returns-then-not-asks-clause-ok
returns-then-not-asks-clause-ok c = learned-nothing c.args.tokenizer.now c.requires

pub returns-clause-ok : goal.returns-clause-ok
returns-clause-ok c =
    on_ok_weaker c.index.result (λ e. learned c.args.tokenizer.now c.index.new.tokenizer c.requires e) c.index.ensures.ok
