use Rattle.std.proofs.Common.{[], ◌∷◌, Some, ap, ◌∙◌, refl, arith, inl, inr}
use Rattle.std.proofs.lemmas.Bool.Decides.{nat_tests}
use Rattle.std.proofs.lemmas.Result.{IfOk-weaker}
use Rattle.markdown_notes.specs.RunIndex.{is_asked}
use Rattle.markdown_model.specs.GfmAutolinkLiteral.{first_letters, www}
use Rattle.markdown_engine.specs.declared.tokenizer.Tokenizer.{Tokenizer}
use Rattle.markdown_run_text.specs.TextContent.{other_markers, span_markers}
use Rattle.markdown_run.proofs.ElementsRead.{image-tried, none-among, run-ends}
use Rattle.markdown_run.proofs.elements.read_construct.Goals as goal

pub read_span-requires-clause-marks : goal.read_span-requires-clause-marks
read_span-requires-clause-marks c = elim c.in-96.is [ inl e ↦ ap (is_asked span_markers) e | inr e ↦ ap (is_asked span_markers) e ]

pub returns-in-42-clause-reads : goal.returns-in-42-clause-reads
returns-in-42-clause-reads c =
    let T : Tokenizer = c.args.tokenizer.now in
    let U : Tokenizer = c.read.new.tokenizer in
    IfOk-weaker c.read.result _ _
    (λ ok k.
    elim c.in-42.is [
      | inl e ↦ run-ends T U ok 42 c.requires.ready (c.requires.here ∙ ap (λ n. Some n) e) refl k
      | inr (inl e) ↦ run-ends T U ok 95 c.requires.ready (c.requires.here ∙ ap (λ n. Some n) e) refl k
      | inr (inr e) ↦ run-ends T U ok 126 c.requires.ready (c.requires.here ∙ ap (λ n. Some n) e) refl k
    ])
    c.read.ensures.reads

pub returns-in-33-clause-reads : goal.returns-in-33-clause-reads
returns-in-33-clause-reads c =
    let T : Tokenizer = c.args.tokenizer.now in
    let U : Tokenizer = c.read-in-33.new.tokenizer in
    IfOk-weaker c.read-in-33.result _ _ (λ ok k. image-tried T U ok c.requires.ready (c.requires.here ∙ ap (λ n. Some n) c.in-33.is) k) c.read-in-33.ensures.reads

pub read_www-requires-clause-begins : goal.read_www-requires-clause-begins
read_www-requires-clause-begins c =
    elim c.in-87.is [ inl e ↦ ap (is_asked (first_letters (www ∷ []))) e | inr e ↦ ap (is_asked (first_letters (www ∷ []))) e ]

pub read_sole-requires-clause-sole : goal.read_sole-requires-clause-sole
read_sole-requires-clause-sole c =
    none-among c.args.byte other_markers
    (λ e. omega arith, (λ e. grind (arith, nat_tests), (λ e. grind (arith, nat_tests), (λ e. grind (arith, nat_tests), (λ e. omega arith, (λ e. omega arith, (λ e. omega arith, (λ e. omega arith, tt))))))))
