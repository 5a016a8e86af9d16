use Rattle.std.proofs.Common.{◌≡◌, ap, subst, inr, List, ℕ, map}
use Rattle.std.specs.List.{All}
use Rattle.markdown_inline_c.specs.FlatStrings.{AreStringOptions, IsStringAt, string_text, writing_by}
use Rattle.markdown_inline_c.specs.Many.{AreFound, EndsBy}
use Rattle.markdown_inline_c.specs.Refusals.{AreOptionsRefused}
use Rattle.markdown_inline_c.specs.declared.fault.Fault.{Fault}
use Rattle.markdown_inline_c.specs.declared.flat.Range.{Range}
use Rattle.markdown_inline_c.specs.declared.outcome.Outcome.{Outcome}
use Rattle.markdown_inline_c.specs.declared.strings.Writing.{Writing}
use Rattle.markdown_inline_c.proofs.Errors.{err_and}
use Rattle.markdown_inline_c.proofs.InTurn.{behind_input, input_refused}
use Rattle.markdown_inline_c.proofs.strings.strings.Goals as goal

abbrev refuses : List ℕ → List Range → List Range → Range → Fault → Type 0
refuses bytes parts before s fault = (fault ≡ Fault.NoString) × (IsStringAt bytes parts s → ⊥)

pub returns-in_err-how : goal.returns-in_err-how
returns-in_err-how c =
    let bytes = c.args.bytes.now in
    let parts = c.args.parts.now in
    input_refused (AreStringOptions c.args.options c.args.string_options) (AreOptionsRefused c.args.options c.args.string_options) (All (IsStringAt bytes parts)) (refuses bytes parts) c.args.strings.now _ c.args.texts.now c.args.ends.now
    c.nothing.result c.from_residual.result (ap (λ (o : Outcome). o.done) c.nothing.ensures) (ap (λ (o : Outcome). o.count) c.nothing.ensures)
    (err_and c.from_residual.result c.in_err-how.field-0.0 _ c.from_residual.ensures.1 (inr c.in_err-how.ensures.err))

pub returns : goal.returns
returns c =
    let bytes = c.args.bytes.now in
    let parts = c.args.parts.now in
    let strings = c.args.strings.now in
    behind_input (AreStringOptions c.args.options c.args.string_options) (AreOptionsRefused c.args.options c.args.string_options) (All (IsStringAt bytes parts)) (refuses bytes parts) strings
    (map (string_text (writing_by c.args.options c.args.string_options) bytes parts) strings) c.args.texts.now c.read_all.new.texts c.args.ends.now c.read_all.new.ends c.read_all.new.outcome c.read_all.result
    c.in_ok-how.ensures.ok.0
    (subst
    (λ (how : Writing). AreFound (map (string_text how bytes parts) strings) c.args.texts.now c.read_all.new.texts c.args.ends.now c.read_all.new.ends c.read_all.new.outcome
    (λ read. EndsBy (All (IsStringAt bytes parts)) (refuses bytes parts) strings read c.read_all.result))
    c.in_ok-how.ensures.ok.1 c.read_all.ensures)
