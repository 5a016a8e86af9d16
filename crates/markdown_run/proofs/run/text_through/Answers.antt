use Rattle.std.proofs.Common.{◌≡◌, ◌∙◌, sym, subst}
use Rattle.std.proofs.lemmas.Result.{IfOk-weaker}
use Rattle.markdown_engine.specs.declared.tokenizer.Tokenizer.{Tokenizer}
use Rattle.markdown_run_text.specs.TextContent.{text_passed}
use Rattle.markdown_run.specs.ElementsOfText.{FinishesAt, forgotten, text_named}
use Rattle.markdown_run.proofs.PlainEnds.{none-there, plain-passes}
use Rattle.markdown_run.proofs.run.text_through.Goals as goal

-- to make room changes nothing that is read from it on
behind-room : {T U V : Tokenizer} → U ≡ T → FinishesAt (text_named U) V → FinishesAt (text_named T) V
behind-room {V = V} e finishes = subst (λ (x : Tokenizer). FinishesAt (text_named x) V) e finishes

pub finish_plain-requires-clause-none : goal.finish_plain-requires-clause-none
finish_plain-requires-clause-none c =
    none-there c.read_text.new.tokenizer.resolvers (sym c.is_empty.ensures ∙ c.if-is_empty.true)

pub finish_plain-requires-clause-passes : goal.finish_plain-requires-clause-passes
finish_plain-requires-clause-passes c =
    plain-passes c.read_text.new.tokenizer (finish_plain-requires-clause-none c) (c.requires.passes (text_passed (forgotten c.read_text.new.tokenizer)) (behind-room c.make_room.ensures c.in_ok-read_text.ensures.ok))

pub resolve_all-requires : goal.resolve_all-requires
resolve_all-requires c =
    c.requires.passes c.end_text.new.tokenizer (subst (λ (x : Tokenizer). FinishesAt (text_named c.args.tokenizer.now) x) (sym c.in_ok-end_text.ensures.ok) (behind-room c.make_room.ensures c.in_ok-read_text.ensures.ok))

pub returns-then-is_empty : goal.returns-then-is_empty
returns-then-is_empty c =
    IfOk-weaker c.finish_plain.result _ _ (λ run found. record { left = text_passed (forgotten c.read_text.new.tokenizer); ends = behind-room c.make_room.ensures c.in_ok-read_text.ensures.ok; found = found }) c.finish_plain.ensures

pub returns : goal.returns
returns c =
    record {
      left = c.end_text.new.tokenizer;
      ends = subst (λ (x : Tokenizer). FinishesAt (text_named c.args.tokenizer.now) x) (sym c.in_ok-end_text.ensures.ok) (behind-room c.make_room.ensures c.in_ok-read_text.ensures.ok);
      found = record {
        passed = c.resolve_all.new.self;
        resolves = c.in_ok-resolve_all.ensures.ok;
        events = c.found_in.ensures.events;
        probes = c.found_in.ensures.probes;
      };
    }
