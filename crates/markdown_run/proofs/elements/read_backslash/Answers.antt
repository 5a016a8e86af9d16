use Rattle.std.proofs.Common.{Bool, false, ap, subst, ◌∙◌}
use Rattle.std.proofs.lemmas.Result.{IfOk-weaker}
use Rattle.markdown_event.specs.declared.state.StateName.TheVariants.{CharacterEscapeStart}
use Rattle.markdown_engine.specs.declared.tokenizer.Tokenizer.{Tokenizer}
use Rattle.markdown_engine.proofs.ReadingSequences.{scratched-same}
use Rattle.markdown_run.specs.RunConstruct.{ConstructEnds}
use Rattle.markdown_run.proofs.ElementsRead.{escape-holds, break-ends}
use Rattle.markdown_run.proofs.elements.read_backslash.Goals as goal

pub returns-then-held-clause-reads : goal.returns-then-held-clause-reads
returns-then-held-clause-reads c =
    let T : Tokenizer = c.args.tokenizer.now in
    let U : Tokenizer = c.read.new.tokenizer in
    escape-holds T U c.requires.ready c.requires.here (subst (λ (b : Bool). ConstructEnds CharacterEscapeStart T b U) c.if-held.true c.in_ok-held.ensures.reads)

pub construct-requires-clause-alone : goal.construct-requires-clause-alone
construct-requires-clause-alone c = λ _.
    let T : Tokenizer = c.args.tokenizer.now in
    let U : Tokenizer = c.read.new.tokenizer in
    let first : ConstructEnds CharacterEscapeStart T false U = subst (λ (b : Bool). ConstructEnds CharacterEscapeStart T b U) c.if-held.false c.in_ok-held.ensures.reads in
    ap (λ (x : Tokenizer). x.attempts) (first.1 ∙ scratched-same T) ∙ c.requires.ready.may_try.alone

pub returns-clause-reads : goal.returns-clause-reads
returns-clause-reads c =
    let T : Tokenizer = c.args.tokenizer.now in
    let U : Tokenizer = c.read.new.tokenizer in
    let first : ConstructEnds CharacterEscapeStart T false U = subst (λ (b : Bool). ConstructEnds CharacterEscapeStart T b U) c.if-held.false c.in_ok-held.ensures.reads in
    IfOk-weaker c.construct.result _ _ (λ ok k. break-ends T U c.construct.new.tokenizer ok c.requires.ready c.requires.here first k) c.construct.ensures.reads
