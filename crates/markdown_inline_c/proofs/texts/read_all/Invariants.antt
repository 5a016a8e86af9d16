use Rattle.markdown_run_text.specs.RunSetting.{setting_of}
use Rattle.markdown_inline_c.specs.FlatTexts.{IsTextAt, setting_at, text_at}
use Rattle.markdown_inline_c.proofs.InTurn.{AreRead}
use Rattle.markdown_inline_c.proofs.texts.read_all.Given as goal

abbrev pub invariant-loop-at : goal.invariant-loop-at
invariant-loop-at g l =
    let s = setting_of l.given.document.now in
    let pieces = l.given.pieces.now in
    AreRead (λ c. g.F.Form.items (setting_at s pieces c) (text_at s pieces c)) (IsTextAt s.bytes pieces) l.contents l.initial.array l.array l.initial.ends l.ends l.outcome l.at
