use Rattle.std.proofs.Common.{arith, List, ℕ}
use Rattle.markdown_run_text.specs.RunSetting.{setting_of}
use Rattle.markdown_inline_c.specs.FlatTexts.{IsTextAt, setting_at, text_at}
use Rattle.markdown_inline_c.specs.Statuses.{IsContentAtFault}
use Rattle.markdown_inline_c.specs.declared.fault.Fault.{Fault}
use Rattle.markdown_inline_c.specs.declared.flat.FlatContent.{FlatContent}
use Rattle.markdown_inline_c.specs.declared.flat.FlatPiece.{FlatPiece}
use Rattle.markdown_inline_c.proofs.InTurn.{all_read, is_next, next_refused, next_without_memory, none_read, one_more_read}
use Rattle.markdown_inline_c.proofs.texts.read_all.Goals as goal

abbrev refuses : List ℕ → List FlatPiece → List FlatContent → FlatContent → Fault → Type 0
refuses bytes pieces before at fault = IsContentAtFault bytes pieces at fault

pub loop-at-init : goal.loop-at-init
loop-at-init g c =
    let s = setting_of c.args.given.now.document.now in
    let pieces = c.args.given.now.pieces.now in
    none_read (λ x. g.F.Form.items (setting_at s pieces x) (text_at s pieces x)) (IsTextAt s.bytes pieces) c.args.contents.now c.args.array.now c.args.ends.now c.args.outcome.now c.requires.none_yet.0 c.requires.none_yet.1

pub loop-at-preserved : goal.loop-at-preserved
loop-at-preserved g c =
    let s = setting_of c.args.given.now.document.now in
    let pieces = c.args.given.now.pieces.now in
    let l = c.loop-at in
    let next = is_next (λ x. g.F.Form.items (setting_at s pieces x) (text_at s pieces x)) c.args.contents.now l.at c.loop-at-test.true in
    one_more_read (λ x. g.F.Form.items (setting_at s pieces x) (text_at s pieces x)) (IsTextAt s.bytes pieces) c.args.contents.now _ c.args.array.now l.array c.hand_out.new.array c.args.ends.now l.ends c.hand_out.new.ends
    l.outcome c.hand_out.new.self l.at _ c.loop-at-test.true l.invariant c.in-Ok.ensures.text c.in-Ok.ensures.items (c.in_ok-hand_out-in-Ok.ensures.ok _ _ _ next l.invariant.handed_out)

pub returns-in-Err : goal.returns-in-Err
returns-in-Err g c =
    let s = setting_of c.args.given.now.document.now in
    let pieces = c.args.given.now.pieces.now in
    let l = c.loop-at in
    next_refused (λ x. g.F.Form.items (setting_at s pieces x) (text_at s pieces x)) (IsTextAt s.bytes pieces) (refuses s.bytes pieces) c.args.contents.now c.args.array.now l.array c.args.ends.now l.ends l.outcome l.at _
    c.in-Err.fault c.of.result c.loop-at-test.true l.invariant c.in-Err.ensures.err c.of.ensures

pub returns-in_err-hand_out-in-Ok : goal.returns-in_err-hand_out-in-Ok
returns-in_err-hand_out-in-Ok g c =
    let s = setting_of c.args.given.now.document.now in
    let pieces = c.args.given.now.pieces.now in
    let l = c.loop-at in
    next_without_memory (λ x. g.F.Form.items (setting_at s pieces x) (text_at s pieces x)) (IsTextAt s.bytes pieces) (refuses s.bytes pieces) c.args.contents.now c.args.array.now l.array c.hand_out.new.array c.args.ends.now
    l.ends c.hand_out.new.ends l.outcome c.hand_out.new.self l.at c.from_residual.result l.invariant c.in_err-hand_out-in-Ok.ensures.err c.from_residual.ensures.1

pub returns : goal.returns
returns g c =
    let s = setting_of c.args.given.now.document.now in
    let pieces = c.args.given.now.pieces.now in
    let l = c.loop-at in
    all_read (λ x. g.F.Form.items (setting_at s pieces x) (text_at s pieces x)) (IsTextAt s.bytes pieces) (refuses s.bytes pieces) c.args.contents.now c.args.array.now l.array c.args.ends.now l.ends l.outcome l.at
    (omega (arith, c.loop-at-test.false)) l.invariant
