use Rattle.std.proofs.Common.{Bool, sym, ap, subst}
use Rattle.std.specs.Result.{IfOk}
use Rattle.markdown_engine.specs.declared.tokenizer.Tokenizer.{Tokenizer}
use Rattle.markdown_run_text.specs.TextContent.{TextStartReady}
use Rattle.markdown_run.specs.ElementsOfText.{KnowsNothing}
use Rattle.markdown_run.specs.RunWithPasses.{MayPassText, IsFoundInText}
use Rattle.markdown_run.proofs.run.text_from.Goals as goal

-- a tokenizer that is told whether its text is the first of an item
abbrev told : Bool → Tokenizer → Tokenizer
told first T = record T { tokenize_state = record T.tokenize_state { document_at_first_paragraph_of_list_item = first } }

pub text_through-found-requires-clause-ready : goal.text_through-found-requires-clause-ready
text_through-found-requires-clause-ready c =
    subst TextStartReady (sym (ap (told c.args.first_of_item) c.starting_at-tokenizer.ensures)) c.requires.ready

pub text_through-found-requires-clause-alone : goal.text_through-found-requires-clause-alone
text_through-found-requires-clause-alone c = ap (λ (T : Tokenizer). T.attempts) c.starting_at-tokenizer.ensures

pub text_through-found-requires-clause-unknown : goal.text_through-found-requires-clause-unknown
text_through-found-requires-clause-unknown c =
    subst KnowsNothing (sym (ap (told c.args.first_of_item) c.starting_at-tokenizer.ensures)) c.requires.unknown

pub text_through-found-requires-clause-passes : goal.text_through-found-requires-clause-passes
text_through-found-requires-clause-passes c =
    subst MayPassText (sym (ap (told c.args.first_of_item) c.starting_at-tokenizer.ensures)) c.requires.passes

pub returns : goal.returns
returns c =
    subst (λ (T : Tokenizer). IfOk c.text_through-found.result (λ run. IsFoundInText T run)) (ap (told c.args.first_of_item) c.starting_at-tokenizer.ensures) c.text_through-found.ensures
