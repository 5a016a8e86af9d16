use Rattle.std.proofs.Common.{Bool, subst}
use Rattle.std.proofs.lemmas.Result.{on_ok_weaker}
use Rattle.markdown_engine.specs.declared.tokenizer.Tokenizer.{Tokenizer}
use Rattle.markdown_run.specs.ElementsOfText.{ReadsElement, ReachesData}
use Rattle.markdown_run.proofs.TextEnds.{stays-data, stays-learned}
use Rattle.markdown_run.proofs.elements.read_element.Goals as goal

pub returns-then-held-clause-ok : goal.returns-then-held-clause-ok
returns-then-held-clause-ok c =
    subst (λ (b : Bool). ReadsElement c.args.tokenizer.now b c.read_construct.new.tokenizer) c.if-held.true c.in_ok-held.ensures.reads

pub learn-requires : goal.learn-requires
learn-requires c =
    let k : ReachesData c.args.tokenizer.now c.read_construct.new.tokenizer = subst (λ (b : Bool). ReadsElement c.args.tokenizer.now b c.read_construct.new.tokenizer) c.if-held.false c.in_ok-held.ensures.reads in
    k.ready

pub read_data-requires-clause-ready : goal.read_data-requires-clause-ready
read_data-requires-clause-ready c = c.in_ok-learn.ensures.ok.ready

pub read_data-requires-clause-some_code : goal.read_data-requires-clause-some_code
read_data-requires-clause-some_code c =
    let T : Tokenizer = c.args.tokenizer.now in
    let U : Tokenizer = c.read_construct.new.tokenizer in
    let k : ReachesData T U = subst (λ (b : Bool). ReadsElement T b U) c.if-held.false c.in_ok-held.ensures.reads in
    (stays-learned T U c.learn.new.tokenizer k c.in_ok-learn.ensures.ok).some_code

pub returns-clause-ok : goal.returns-clause-ok
returns-clause-ok c =
    let T : Tokenizer = c.args.tokenizer.now in
    let U : Tokenizer = c.read_construct.new.tokenizer in
    let W : Tokenizer = c.learn.new.tokenizer in
    let k : ReachesData T U = subst (λ (b : Bool). ReadsElement T b U) c.if-held.false c.in_ok-held.ensures.reads in
    on_ok_weaker c.read_data.result (λ p. stays-data T W c.read_data.new.tokenizer (stays-learned T U W k c.in_ok-learn.ensures.ok) p) c.read_data.ensures.ok
