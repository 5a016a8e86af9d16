use Rattle.std.proofs.Common.{◌≡◌, Bool, true, ap, subst, ◌∙◌, sym}
use Rattle.std.proofs.lemmas.Result.{IfOk-weaker}
use Rattle.markdown_event.specs.declared.state.StateName.TheVariants.{LabelEndStart}
use Rattle.markdown_engine.specs.declared.tokenizer.Tokenizer.{Tokenizer}
use Rattle.markdown_label.specs.LabelEnd.{LabelEndStartReady}
use Rattle.markdown_run_text.specs.PlainResource.{EndsOrStays}
use Rattle.markdown_run.specs.RunConstruct.{ConstructEnds}
use Rattle.markdown_run.proofs.ElementsRead.{end-ends}
use Rattle.markdown_run.proofs.RunConstructLemmas.{ends-made}
use Rattle.markdown_run.proofs.elements.read_end.Goals as goal

pub returns-then-held-clause-reads : goal.returns-then-held-clause-reads
returns-then-held-clause-reads c =
    let T : Tokenizer = c.args.tokenizer.now in
    let U : Tokenizer = c.read.new.tokenizer in
    end-ends T U true c.requires.ready c.requires.here (ends-made T U (subst (λ (b : Bool). EndsOrStays T b U) c.if-held.true c.in_ok-held.ensures.reads))

pub construct-requires-clause-alone : goal.construct-requires-clause-alone
construct-requires-clause-alone c = λ _.
    let T : Tokenizer = c.args.tokenizer.now in
    let U : Tokenizer = c.read.new.tokenizer in
    let same : U ≡ T = subst (λ (b : Bool). EndsOrStays T b U) c.if-held.false c.in_ok-held.ensures.reads in
    ap (λ (x : Tokenizer). x.attempts) same ∙ c.requires.ready.may_try.alone

pub construct-requires-clause-construct : goal.construct-requires-clause-construct
construct-requires-clause-construct c = λ _.
    let T : Tokenizer = c.args.tokenizer.now in
    let U : Tokenizer = c.read.new.tokenizer in
    let same : U ≡ T = subst (λ (b : Bool). EndsOrStays T b U) c.if-held.false c.in_ok-held.ensures.reads in
    subst (λ (x : Tokenizer). LabelEndStartReady x) (sym same) c.requires.ready.may_try.start.ends

pub returns-clause-reads : goal.returns-clause-reads
returns-clause-reads c =
    let T : Tokenizer = c.args.tokenizer.now in
    let U : Tokenizer = c.read.new.tokenizer in
    let V : Tokenizer = c.construct.new.tokenizer in
    let same : U ≡ T = subst (λ (b : Bool). EndsOrStays T b U) c.if-held.false c.in_ok-held.ensures.reads in
    IfOk-weaker c.construct.result _ _ (λ ok k. end-ends T V ok c.requires.ready c.requires.here (subst (λ (x : Tokenizer). ConstructEnds LabelEndStart x ok V) same k)) c.construct.ensures.reads
