use Rattle.std.proofs.Common.{◌≡◌, ◌∙◌, sym, ap, if◌then◌else◌}
use Rattle.markdown_plan.specs.ByteTests.{alphanumeric_value}
use Rattle.markdown_passes.specs.EmailScan.{is_email}
use Rattle.markdown_passes.proofs.EmailScanLemmas.{word-stretch, passed-local, passed-other}
use Rattle.markdown_passes.proofs.literal.passed.Goals as goal
use Rattle.markdown_passes.proofs.literal.passed.Goals.{then-is_alphanumeric, else-is_alphanumeric, then-is_email, else-is_email}

pub returns-then-is_local : goal.returns-then-is_local
returns-then-is_local c =
    let word : c.if-is_alphanumeric.word ≡ (if alphanumeric_value c.code_from-code.result then c.args.scan.word else c.past_code-point.result) =
    elim c.if-is_alphanumeric.branch [
      | then-is_alphanumeric w ↦ w.word-is ∙ ap (λ b. if b then c.args.scan.word else c.past_code-point.result) (sym w.if-is_alphanumeric.true ∙ c.is_alphanumeric.ensures)
      | else-is_alphanumeric w ↦ w.word-is ∙ ap (λ b. if b then c.args.scan.word else c.past_code-point.result) (sym w.if-is_alphanumeric.false ∙ c.is_alphanumeric.ensures)
    ] in
    passed-local c.args.bytes.now c.args.scan.from c.args.scan.point c.past_code-point.result c.args.scan c.code_from-code.result c.requires.stretch c.requires.begins c.requires.read c.code_from-code.ensures c.past_code-point.ensures.next c.is_local.result c.if-is_alphanumeric.word c.is_local.ensures c.if-is_local.true word

pub name_behind-name-requires-clause-stretch : goal.name_behind-name-requires-clause-stretch
name_behind-name-requires-clause-stretch c =
    (word-stretch c.args.bytes.now c.args.scan.from c.args.scan.point c.args.scan c.requires.stretch c.requires.read).0

pub returns : goal.returns
returns c =
    let start : c.if-is_email.start ≡ (if is_email c.name_behind-name.result then c.past_code-point.result else c.args.scan.word) =
    elim c.if-is_email.branch [
      | then-is_email w ↦ w.start-is ∙ ap (λ b. if b then c.past_code-point.result else c.args.scan.word) (sym w.if-is_email.true ∙ c.is_email.ensures)
      | else-is_email w ↦ w.start-is ∙ ap (λ b. if b then c.past_code-point.result else c.args.scan.word) (sym w.if-is_email.false ∙ c.is_email.ensures)
    ] in
    passed-other c.args.bytes.now c.args.scan.from c.args.scan.point c.past_code-point.result c.args.scan c.code_from-code.result c.requires.stretch c.requires.begins c.requires.read c.code_from-code.ensures c.past_code-point.ensures.next c.is_local.result c.name_behind-name.result c.if-is_email.start c.is_local.ensures c.if-is_local.false c.name_behind-name.ensures start
