use Rattle.std.proofs.Common.{◌≡◌, ◌∙◌, ◌==◌, ◌++◌, List, [], length, true, sym, ap}
use Rattle.std.proofs.lemmas.Bool.{eqb-true}
use Rattle.std.proofs.lemmas.List.{append-nil, nil_from_length}
use Rattle.markdown_engine.specs.declared.tokenizer.Attempt.{Attempt}
use Rattle.markdown_engine.proofs.run.hand_over.Goals as goal

none : (fs : List Attempt) → (length fs == 0) ≡ true → fs ≡ []
none fs e = nil_from_length fs (eqb-true (length fs) 0 e)

pub returns-then-is_empty : goal.returns-then-is_empty
returns-then-is_empty c =
    let empty = none c.args.opened.now (sym c.is_empty.ensures ∙ c.if-is_empty.true) in
    record {
      waits = ap (λ (fs : List Attempt). fs ++ c.args.waiting.now) (sym empty);
      none = empty;
    }

pub returns-then-is_empty-2-clause-waits : goal.returns-then-is_empty-2-clause-waits
returns-then-is_empty-2-clause-waits c =
    let empty = none c.args.waiting.now (sym c.is_empty-2.ensures ∙ c.if-is_empty-2.true) in
    c.swap.ensures.x_after ∙ sym (append-nil c.args.opened.now) ∙ ap (λ (fs : List Attempt). c.args.opened.now ++ fs) (sym empty)

pub returns-then-is_empty-2-clause-none : goal.returns-then-is_empty-2-clause-none
returns-then-is_empty-2-clause-none c =
    c.swap.ensures.y_after ∙ none c.args.waiting.now (sym c.is_empty-2.ensures ∙ c.if-is_empty-2.true)
