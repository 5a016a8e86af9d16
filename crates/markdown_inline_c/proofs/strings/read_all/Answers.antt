use Rattle.std.proofs.Common.{◌≡◌, arith, List, ℕ}
use Rattle.markdown_inline_c.specs.FlatStrings.{IsStringAt, string_text}
use Rattle.markdown_inline_c.specs.declared.fault.Fault.{Fault}
use Rattle.markdown_inline_c.specs.declared.flat.Range.{Range}
use Rattle.markdown_inline_c.proofs.InTurn.{all_read, is_next, next_refused, next_without_memory, none_read, one_more_read}
use Rattle.markdown_inline_c.proofs.strings.read_all.Goals as goal

abbrev refuses : List ℕ → List Range → List Range → Range → Fault → Type 0
refuses bytes parts before s fault = (fault ≡ Fault.NoString) × (IsStringAt bytes parts s → ⊥)

pub loop-at-init : goal.loop-at-init
loop-at-init c =
    let bytes = c.args.bytes.now in
    let parts = c.args.parts.now in
    none_read (string_text c.args.how bytes parts) (IsStringAt bytes parts) c.args.strings.now c.args.texts.now c.args.ends.now c.args.outcome.now c.requires.none_yet.0 c.requires.none_yet.1

pub loop-at-preserved : goal.loop-at-preserved
loop-at-preserved c =
    let bytes = c.args.bytes.now in
    let parts = c.args.parts.now in
    let l = c.loop-at in
    let next = is_next (string_text c.args.how bytes parts) c.args.strings.now l.at c.loop-at-test.true in
    one_more_read (string_text c.args.how bytes parts) (IsStringAt bytes parts) c.args.strings.now c.in-Ok.text.items c.args.texts.now l.texts c.hand_out.new.array c.args.ends.now l.ends c.hand_out.new.ends l.outcome
    c.hand_out.new.self l.at _ c.loop-at-test.true l.invariant c.in-Ok.ensures.string c.in-Ok.ensures.text (c.in_ok-hand_out-in-Ok.ensures.ok _ _ _ next l.invariant.handed_out)

pub returns-in-Err : goal.returns-in-Err
returns-in-Err c =
    let bytes = c.args.bytes.now in
    let parts = c.args.parts.now in
    let l = c.loop-at in
    next_refused (string_text c.args.how bytes parts) (IsStringAt bytes parts) (refuses bytes parts) c.args.strings.now c.args.texts.now l.texts c.args.ends.now l.ends l.outcome l.at _ c.in-Err.fault c.of.result c.loop-at-test.true
    l.invariant c.in-Err.ensures.err c.of.ensures

pub returns-in_err-hand_out-in-Ok : goal.returns-in_err-hand_out-in-Ok
returns-in_err-hand_out-in-Ok c =
    let bytes = c.args.bytes.now in
    let parts = c.args.parts.now in
    let l = c.loop-at in
    next_without_memory (string_text c.args.how bytes parts) (IsStringAt bytes parts) (refuses bytes parts) c.args.strings.now c.args.texts.now l.texts c.hand_out.new.array c.args.ends.now l.ends c.hand_out.new.ends l.outcome
    c.hand_out.new.self l.at c.from_residual.result l.invariant c.in_err-hand_out-in-Ok.ensures.err c.from_residual.ensures.1

pub returns : goal.returns
returns c =
    let bytes = c.args.bytes.now in
    let parts = c.args.parts.now in
    let l = c.loop-at in
    all_read (string_text c.args.how bytes parts) (IsStringAt bytes parts) (refuses bytes parts) c.args.strings.now c.args.texts.now l.texts c.args.ends.now l.ends l.outcome l.at (omega (arith, c.loop-at-test.false)) l.invariant
