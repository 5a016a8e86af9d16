use Rattle.std.proofs.Common.{◌≡◌, ◌∙◌, ap, subst, refl, inl, inr, List, map}
use Rattle.std.specs.List.{All}
use Rattle.markdown_content.specs.declared.configuration.ParseOptions.{ParseOptions}
use Rattle.markdown_model.specs.Setting.{Setting}
use Rattle.markdown_run_text.specs.RunSetting.{setting_of}
use Rattle.markdown_inline_c.specs.FlatTexts.{AreTextsOptions, IsTextAt, many_setting, setting_at, setting_by, text_at}
use Rattle.markdown_inline_c.specs.Many.{AreFound, EndsBy}
use Rattle.markdown_inline_c.specs.Refusals.{IsInputRefused, IsReady, blames_none}
use Rattle.markdown_inline_c.specs.Statuses.{IsContentAtFault}
use Rattle.markdown_inline_c.specs.declared.fault.Fault.{Fault}
use Rattle.markdown_inline_c.specs.declared.flat.FlatContent.{FlatContent}
use Rattle.markdown_inline_c.specs.declared.flat.Input.{Input}
use Rattle.markdown_inline_c.specs.declared.outcome.Outcome.{Outcome}
use Rattle.markdown_inline_c.proofs.Errors.{err_and}
use Rattle.markdown_inline_c.proofs.InTurn.{behind_input, input_refused}
use Rattle.markdown_inline_c.proofs.texts.texts.Goals as goal

abbrev refuses : Input → List FlatContent → FlatContent → Fault → Type 0
refuses i before at fault = IsContentAtFault i.bytes.now i.pieces.now at fault

pub returns-in_err-check_input : goal.returns-in_err-check_input
returns-in_err-check_input g c =
    let i = c.args.input.now in
    input_refused (IsReady (AreTextsOptions i c.args.contents.now) i) (IsInputRefused (AreTextsOptions i c.args.contents.now) i) (All (IsTextAt i.bytes.now i.pieces.now)) (refuses i) c.args.contents.now _ c.args.array.now c.args.ends.now
    c.nothing.result c.from_residual-in_err-check_input.result (ap (λ (o : Outcome). o.done) c.nothing.ensures) (ap (λ (o : Outcome). o.count) c.nothing.ensures)
    (err_and c.from_residual-in_err-check_input.result c.in_err-check_input.field-0.0 _ c.from_residual-in_err-check_input.ensures.1 (inr (inr (c.in_ok-options.ensures.ok.0, c.in_err-check_input.ensures.err))))

pub returns-in_err-document : goal.returns-in_err-document
returns-in_err-document g c =
    let i = c.args.input.now in
    input_refused (IsReady (AreTextsOptions i c.args.contents.now) i) (IsInputRefused (AreTextsOptions i c.args.contents.now) i) (All (IsTextAt i.bytes.now i.pieces.now)) (refuses i) c.args.contents.now _ c.args.array.now c.args.ends.now
    c.nothing.result c.from_residual-in_err-document.result (ap (λ (o : Outcome). o.done) c.nothing.ensures) (ap (λ (o : Outcome). o.count) c.nothing.ensures)
    (err_and c.from_residual-in_err-document.result (blames_none Fault.Memory) _ c.from_residual-in_err-document.ensures.1 (inl refl))

pub returns-in_err-form : goal.returns-in_err-form
returns-in_err-form g c =
    let i = c.args.input.now in
    input_refused (IsReady (AreTextsOptions i c.args.contents.now) i) (IsInputRefused (AreTextsOptions i c.args.contents.now) i) (All (IsTextAt i.bytes.now i.pieces.now)) (refuses i) c.args.contents.now _ c.args.array.now c.args.ends.now
    c.nothing.result c.from_residual-in_err-form.result (ap (λ (o : Outcome). o.done) c.nothing.ensures) (ap (λ (o : Outcome). o.count) c.nothing.ensures)
    (err_and c.from_residual-in_err-form.result (blames_none Fault.Memory) _ c.from_residual-in_err-form.ensures.1 (inl refl))

pub returns : goal.returns
returns g c =
    let i = c.args.input.now in
    let pieces = i.pieces.now in
    let contents = c.args.contents.now in
    let s = setting_of c.in_ok-document.document in
    let same : s ≡ many_setting i =
    c.in_ok-document.ensures ∙ ap (λ (o : ParseOptions). setting_by i.bytes.now o i.labels.now i.definitions.now i.footnotes.now) c.in_ok-options.ensures.ok.1
    in
    behind_input (IsReady (AreTextsOptions i c.args.contents.now) i) (IsInputRefused (AreTextsOptions i c.args.contents.now) i) (All (IsTextAt i.bytes.now pieces)) (refuses i) contents
    (map (λ x. g.F.Form.items (setting_at (many_setting i) pieces x) (text_at (many_setting i) pieces x)) contents) c.args.array.now c.read_all.new.array c.args.ends.now c.read_all.new.ends c.read_all.new.outcome c.read_all.result
    (record { options = c.in_ok-options.ensures.ok.0; document = c.in_ok-check_input.ensures.document; labels = c.in_ok-check_input.ensures.labels })
    (subst
    (λ (x : Setting). AreFound (map (λ y. g.F.Form.items (setting_at x pieces y) (text_at x pieces y)) contents) c.args.array.now c.read_all.new.array c.args.ends.now c.read_all.new.ends c.read_all.new.outcome
    (λ read. EndsBy (All (IsTextAt x.bytes pieces)) (λ before at fault. IsContentAtFault x.bytes pieces at fault) contents read c.read_all.result))
    same c.read_all.ensures)
