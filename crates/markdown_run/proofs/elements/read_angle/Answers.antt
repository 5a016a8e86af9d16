use Rattle.std.proofs.Common.{◌≡◌, Bool, false, sym, ap, subst, ◌∙◌}
use Rattle.std.proofs.lemmas.Result.{IfOk-weaker}
use Rattle.std.specs.Option.{is_some}
use Rattle.markdown_engine.specs.Operations.{current_of}
use Rattle.markdown_event.specs.declared.state.StateName.TheVariants.{AutolinkStart}
use Rattle.markdown_engine.specs.declared.tokenizer.TokenizeState.{TokenizeState}
use Rattle.markdown_engine.specs.declared.tokenizer.Tokenizer.{Tokenizer}
use Rattle.markdown_engine.proofs.ReadingSequences.{scratched-same}
use Rattle.markdown_leaf_html.specs.HtmlText as HtmlText
use Rattle.markdown_run_text.proofs.TextSteps.{html-ready}
use Rattle.markdown_run.specs.RunConstruct.{ConstructEnds}
use Rattle.markdown_run.proofs.ElementsRead.{autolink-holds, html-ends, html-ruled}
use Rattle.markdown_run.proofs.elements.read_angle.Goals as goal

pub construct-requires-clause-construct : goal.construct-requires-clause-construct
construct-requires-clause-construct c = λ _. ap (λ (s : TokenizeState). s.size) c.requires.ready.may_try.start.spans.rest

pub construct-requires-clause-alone : goal.construct-requires-clause-alone
construct-requires-clause-alone c = λ _. c.requires.ready.may_try.alone

pub returns-then-held-clause-reads : goal.returns-then-held-clause-reads
returns-then-held-clause-reads c =
    let T : Tokenizer = c.args.tokenizer.now in
    let U : Tokenizer = c.construct.new.tokenizer in
    autolink-holds T U c.requires.ready c.requires.here (subst (λ (b : Bool). ConstructEnds AutolinkStart T b U) c.if-held.true c.in_ok-held.ensures.reads)

-- no autolink is read
ended : (T U : Tokenizer) (b : Bool) → b ≡ false → ConstructEnds AutolinkStart T b U → ConstructEnds AutolinkStart T false U
ended T U b e k = subst (λ (x : Bool). ConstructEnds AutolinkStart T x U) e k

-- so nothing has changed
same : (T U : Tokenizer) → ConstructEnds AutolinkStart T false U → U ≡ T
same T U k = k.1 ∙ scratched-same T

pub is_ruled_out-requires : goal.is_ruled_out-requires
is_ruled_out-requires c =
    let T : Tokenizer = c.args.tokenizer.now in
    let U : Tokenizer = c.construct.new.tokenizer in
    ap (λ (x : Tokenizer). is_some (current_of x)) (same T U (ended T U _ c.if-held.false c.in_ok-held.ensures.reads)) ∙ ap is_some c.requires.here

pub returns-then-is_ruled_out-clause-reads : goal.returns-then-is_ruled_out-clause-reads
returns-then-is_ruled_out-clause-reads c =
    let T : Tokenizer = c.args.tokenizer.now in
    let U : Tokenizer = c.construct.new.tokenizer in
    html-ruled T U c.requires.ready c.requires.here (ended T U _ c.if-held.false c.in_ok-held.ensures.reads) (sym c.is_ruled_out.ensures ∙ c.if-is_ruled_out.true)

pub construct-requires-2-clause-construct : goal.construct-requires-2-clause-construct
construct-requires-2-clause-construct c = λ _.
    let T : Tokenizer = c.args.tokenizer.now in
    let U : Tokenizer = c.construct.new.tokenizer in
    subst (λ (x : Tokenizer). HtmlText.HtmlStartReady x) (sym (same T U (ended T U _ c.if-held.false c.in_ok-held.ensures.reads))) (html-ready T c.requires.ready.may_try.start)

pub construct-requires-2-clause-alone : goal.construct-requires-2-clause-alone
construct-requires-2-clause-alone c = λ _.
    let T : Tokenizer = c.args.tokenizer.now in
    let U : Tokenizer = c.construct.new.tokenizer in
    ap (λ (x : Tokenizer). x.attempts) (same T U (ended T U _ c.if-held.false c.in_ok-held.ensures.reads)) ∙ c.requires.ready.may_try.alone

pub returns-clause-reads : goal.returns-clause-reads
returns-clause-reads c =
    let T : Tokenizer = c.args.tokenizer.now in
    let U : Tokenizer = c.construct.new.tokenizer in
    let first : ConstructEnds AutolinkStart T false U = ended T U _ c.if-held.false c.in_ok-held.ensures.reads in
    IfOk-weaker c.construct-2.result _ _ (λ ok k. html-ends T U c.construct-2.new.tokenizer ok c.requires.ready c.requires.here first k) c.construct-2.ensures.reads
