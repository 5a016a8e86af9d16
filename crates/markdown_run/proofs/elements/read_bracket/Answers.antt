use Rattle.std.proofs.Common.{Bool, false, sym, subst, ◌∙◌}
use Rattle.std.proofs.lemmas.Result.{IfOk-weaker}
use Rattle.markdown_event.specs.declared.state.StateName.TheVariants.{GfmLabelStartFootnoteStart}
use Rattle.markdown_engine.specs.declared.tokenizer.Tokenizer.{Tokenizer}
use Rattle.markdown_run.specs.RunConstruct.{ConstructEnds}
use Rattle.markdown_run.proofs.ElementsRead.{footnote-holds, link-next, link-behind}
use Rattle.markdown_run.proofs.elements.read_bracket.Goals as goal

pub returns-then-not-comes_next-clause-reads : goal.returns-then-not-comes_next-clause-reads
returns-then-not-comes_next-clause-reads c =
    IfOk-weaker c.read.result _ _ (λ ok k. link-next c.args.tokenizer.now c.read.new.tokenizer ok c.requires.ready c.requires.here (sym c.comes_next.ensures ∙ c.if-not-comes_next.true) k) c.read.ensures.reads

pub returns-then-held-clause-reads : goal.returns-then-held-clause-reads
returns-then-held-clause-reads c =
    let T : Tokenizer = c.args.tokenizer.now in
    let U : Tokenizer = c.construct.new.tokenizer in
    footnote-holds T U c.requires.ready (subst (λ (b : Bool). ConstructEnds GfmLabelStartFootnoteStart T b U) c.if-held.true c.in_ok-held.ensures.reads)

pub returns-clause-reads : goal.returns-clause-reads
returns-clause-reads c =
    let T : Tokenizer = c.args.tokenizer.now in
    let U : Tokenizer = c.construct.new.tokenizer in
    let first : ConstructEnds GfmLabelStartFootnoteStart T false U = subst (λ (b : Bool). ConstructEnds GfmLabelStartFootnoteStart T b U) c.if-held.false c.in_ok-held.ensures.reads in
    IfOk-weaker c.read-2.result _ _ (λ ok k. link-behind T U c.read-2.new.tokenizer ok c.requires.ready c.requires.here first k) c.read-2.ensures.reads
