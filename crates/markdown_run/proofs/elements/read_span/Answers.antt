use Rattle.std.proofs.Common.{◌≡◌, ◌||◌, Bool, true, false, refl, ap, subst, sym, ◌∙◌}
use Rattle.std.proofs.lemmas.Result.{IfOk-weaker}
use Rattle.markdown_event.specs.declared.state.StateName.TheVariants.{RawTextStart}
use Rattle.markdown_engine.specs.declared.tokenizer.Tokenizer.{Tokenizer}
use Rattle.markdown_leaf.specs.RawText.{RawTextStartReady, is_ruled_out, span_at}
use Rattle.markdown_run_text.specs.ReaderEnds.{ReadsOrLeaves}
use Rattle.markdown_run.specs.ElementsOfText.{ReachesData}
use Rattle.markdown_run.specs.RunConstruct.{ConstructEnds}
use Rattle.markdown_run.proofs.ElementsRead.{span-ends, span-ruled}
use Rattle.markdown_run.proofs.elements.read_span.Goals as goal

either : (a b : Bool) → a || (b || false) ≡ true → b || a ≡ true
either true true h = refl
either true false h = refl
either false true h = refl
either false false h = cc

pub returns-then-held-clause-reads : goal.returns-then-held-clause-reads
returns-then-held-clause-reads c =
    let T : Tokenizer = c.args.tokenizer.now in
    let U : Tokenizer = c.read.new.tokenizer in
    span-ends T U true c.args.marker c.requires.ready c.requires.here (either _ _ c.requires.marks) (subst (λ (b : Bool). ReadsOrLeaves (span_at T) T b U) c.if-held.true c.in_ok-held.ensures.reads)

pub returns-then-is_ruled_out-clause-reads : goal.returns-then-is_ruled_out-clause-reads
returns-then-is_ruled_out-clause-reads c =
    let T : Tokenizer = c.args.tokenizer.now in
    let U : Tokenizer = c.read.new.tokenizer in
    let same : U ≡ T = subst (λ (b : Bool). ReadsOrLeaves (span_at T) T b U) c.if-held.false c.in_ok-held.ensures.reads in
    subst (λ (x : Tokenizer). ReachesData T x) (sym same)
    (span-ruled T c.args.marker c.requires.ready c.requires.here c.requires.marks (ap (λ (x : Tokenizer). is_ruled_out c.args.marker x) (sym same) ∙ sym c.is_ruled_out.ensures ∙ c.if-is_ruled_out.true))

pub construct-requires-clause-alone : goal.construct-requires-clause-alone
construct-requires-clause-alone c = λ _.
    let T : Tokenizer = c.args.tokenizer.now in
    let U : Tokenizer = c.read.new.tokenizer in
    let same : U ≡ T = subst (λ (b : Bool). ReadsOrLeaves (span_at T) T b U) c.if-held.false c.in_ok-held.ensures.reads in
    ap (λ (x : Tokenizer). x.attempts) same ∙ c.requires.ready.may_try.alone

pub construct-requires-clause-construct : goal.construct-requires-clause-construct
construct-requires-clause-construct c = λ _.
    let T : Tokenizer = c.args.tokenizer.now in
    let U : Tokenizer = c.read.new.tokenizer in
    let same : U ≡ T = subst (λ (b : Bool). ReadsOrLeaves (span_at T) T b U) c.if-held.false c.in_ok-held.ensures.reads in
    subst (λ (x : Tokenizer). RawTextStartReady x) (sym same) c.requires.ready.may_try.start.spans

pub returns-clause-reads : goal.returns-clause-reads
returns-clause-reads c =
    let T : Tokenizer = c.args.tokenizer.now in
    let U : Tokenizer = c.read.new.tokenizer in
    let V : Tokenizer = c.construct.new.tokenizer in
    let same : U ≡ T = subst (λ (b : Bool). ReadsOrLeaves (span_at T) T b U) c.if-held.false c.in_ok-held.ensures.reads in
    IfOk-weaker c.construct.result _ _ (λ ok k. span-ends T V ok c.args.marker c.requires.ready c.requires.here (either _ _ c.requires.marks) (subst (λ (x : Tokenizer). ConstructEnds RawTextStart x ok V) same k)) c.construct.ensures.reads
