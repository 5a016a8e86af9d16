use Rattle.std.proofs.Common.{refl}
use Rattle.markdown_engine.specs.declared.tokenizer.Tokenizer.{Tokenizer}
use Rattle.markdown_run_text.specs.TextContent.{text_passed}
use Rattle.markdown_run.specs.ElementsOfText.{forgotten}
use Rattle.markdown_run.proofs.PlainEnds.{both-hold}
use Rattle.markdown_run.proofs.ReadyTexts.{named-leads, named-ready}
use Rattle.markdown_run.proofs.TextEnds.{text-ends}
use Rattle.markdown_run.proofs.elements.read_text.Goals as goal

pub read_check-requires : goal.read_check-requires
read_check-requires c =
    named-ready c.args.tokenizer.now c.index_names.new.tokenizer c.requires.ready c.requires.unknown c.requires.alone c.in_ok-index_names.ensures.ok

pub read_elements-requires : goal.read_elements-requires
read_elements-requires c = c.in_ok-read_check.ensures.ok.ready

pub returns-clause-ok : goal.returns-clause-ok
returns-clause-ok c =
    let T : Tokenizer = c.args.tokenizer.now in
    let U : Tokenizer = c.read_elements.new.tokenizer in
    both-hold c.read_elements.result _ _ _
    (λ goes end.
    text-ends T U (forgotten U) (text_passed (forgotten U)) c.requires.unknown
    (λ s V h. named-leads T c.index_names.new.tokenizer c.in_ok-index_names.ensures.ok s V (c.in_ok-read_check.ensures.ok.leads s V (goes.leads s V h)))
    end refl refl)
    c.read_elements.ensures.ok c.read_elements.ensures.end
