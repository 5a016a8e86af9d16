use Rattle.std.proofs.Common.{◌≡◌, ◌∙◌, ap, subst, refl, inl, inr, ℕ, [], List, length, map, Option}
use Rattle.markdown_content.specs.declared.configuration.ParseOptions.{ParseOptions}
use Rattle.markdown_html.specs.View.{page_from}
use Rattle.markdown_html_model.specs.Html.{Page}
use Rattle.markdown_model.specs.Setting.{Setting}
use Rattle.markdown_run_text.specs.RunSetting.{setting_of}
use Rattle.markdown_inline_c.specs.FlatHtml.{limit_in, page}
use Rattle.markdown_inline_c.specs.FlatHtmls.{AreWritable, IsHtmlFaultAt, html_of_each, htmls_of, tree_at}
use Rattle.markdown_inline_c.specs.FlatTexts.{many_setting, setting_by}
use Rattle.markdown_inline_c.specs.Many.{AreFound, EndsBy}
use Rattle.markdown_inline_c.specs.Refusals.{IsHtmlInputRefused, IsReadyForHtml, blames_none}
use Rattle.markdown_inline_c.specs.declared.fault.Fault.{Fault}
use Rattle.markdown_inline_c.specs.declared.flat.FlatContent.{FlatContent}
use Rattle.markdown_inline_c.specs.declared.flat.FlatTarget.{FlatTarget}
use Rattle.markdown_inline_c.specs.declared.flat.Input.{Input}
use Rattle.markdown_inline_c.specs.declared.outcome.Outcome.{Outcome}
use Rattle.markdown_inline_c.proofs.Errors.{err_and}
use Rattle.markdown_inline_c.proofs.InTurn.{behind_input, input_refused}
use Rattle.markdown_inline_c.proofs.WrittenContents.{same_page}
use Rattle.markdown_inline_c.proofs.htmls.htmls.Goals as goal

abbrev holds : Input → List FlatTarget → ℕ → ℕ → List FlatContent → Type 0
holds i targets options limit = AreWritable (page i targets options) i.pieces.now (tree_at (many_setting i) i.pieces.now) (limit_in limit (length i.bytes.now))

abbrev refuses : Input → List FlatTarget → ℕ → ℕ → List FlatContent → FlatContent → Fault → Type 0
refuses i targets options limit = IsHtmlFaultAt (page i targets options) i.pieces.now (tree_at (many_setting i) i.pieces.now) (limit_in limit (length i.bytes.now))

pub returns-in_err-check_input : goal.returns-in_err-check_input
returns-in_err-check_input c =
    let i = c.args.input.now in
    input_refused (IsReadyForHtml i c.args.targets.now c.args.contents.now c.args.options) (IsHtmlInputRefused i c.args.targets.now c.args.contents.now c.args.options) (holds i c.args.targets.now c.args.options c.args.limit)
    (refuses i c.args.targets.now c.args.options c.args.limit) c.args.contents.now _ c.args.html.now c.args.ends.now
    c.nothing.result c.from_residual-in_err-check_input.result (ap (λ (o : Outcome). o.done) c.nothing.ensures) (ap (λ (o : Outcome). o.count) c.nothing.ensures)
    (err_and c.from_residual-in_err-check_input.result c.in_err-check_input.field-0.0 _ c.from_residual-in_err-check_input.ensures.1 (inr (inl (inr (c.in_ok-asked.ensures.known, c.in_err-check_input.ensures.err)))))

pub returns-in_err-check_targets : goal.returns-in_err-check_targets
returns-in_err-check_targets c =
    let i = c.args.input.now in
    input_refused (IsReadyForHtml i c.args.targets.now c.args.contents.now c.args.options) (IsHtmlInputRefused i c.args.targets.now c.args.contents.now c.args.options) (holds i c.args.targets.now c.args.options c.args.limit)
    (refuses i c.args.targets.now c.args.options c.args.limit) c.args.contents.now _ c.args.html.now c.args.ends.now
    c.nothing.result c.from_residual-in_err-check_targets.result (ap (λ (o : Outcome). o.done) c.nothing.ensures) (ap (λ (o : Outcome). o.count) c.nothing.ensures)
    (err_and c.from_residual-in_err-check_targets.result c.in_err-check_targets.field-0.0 _ c.from_residual-in_err-check_targets.ensures.1
    (inr (inr (
      record { options = c.in_ok-asked.ensures.known; document = c.in_ok-check_input.ensures.document; labels = c.in_ok-check_input.ensures.labels },
      c.in_err-check_targets.ensures.err,
    ))))

pub returns-in_err-document : goal.returns-in_err-document
returns-in_err-document c =
    let i = c.args.input.now in
    input_refused (IsReadyForHtml i c.args.targets.now c.args.contents.now c.args.options) (IsHtmlInputRefused i c.args.targets.now c.args.contents.now c.args.options) (holds i c.args.targets.now c.args.options c.args.limit)
    (refuses i c.args.targets.now c.args.options c.args.limit) c.args.contents.now _ c.args.html.now c.args.ends.now
    c.nothing.result c.from_residual-in_err-document.result (ap (λ (o : Outcome). o.done) c.nothing.ensures) (ap (λ (o : Outcome). o.count) c.nothing.ensures)
    (err_and c.from_residual-in_err-document.result (blames_none Fault.Memory) _ c.from_residual-in_err-document.ensures.1 (inl refl))

pub returns-in_err-definitions : goal.returns-in_err-definitions
returns-in_err-definitions c =
    let i = c.args.input.now in
    input_refused (IsReadyForHtml i c.args.targets.now c.args.contents.now c.args.options) (IsHtmlInputRefused i c.args.targets.now c.args.contents.now c.args.options) (holds i c.args.targets.now c.args.options c.args.limit)
    (refuses i c.args.targets.now c.args.options c.args.limit) c.args.contents.now _ c.args.html.now c.args.ends.now
    c.nothing.result c.from_residual-in_err-definitions.result (ap (λ (o : Outcome). o.done) c.nothing.ensures) (ap (λ (o : Outcome). o.count) c.nothing.ensures)
    (err_and c.from_residual-in_err-definitions.result c.in_err-definitions.field-0.0 _ c.from_residual-in_err-definitions.ensures.1 (inl c.in_err-definitions.ensures.err))

pub returns : goal.returns
returns c =
    let i = c.args.input.now in
    let pieces = i.pieces.now in
    let contents = c.args.contents.now in
    let limit = c.args.limit in
    let targets = c.args.targets.now in
    let d = c.in_ok-document.document in
    let p = page_from d [] c.in_ok-definitions.definitions c.in_ok-asked.allowed in
    let same : setting_of d ≡ many_setting i =
    c.in_ok-document.ensures ∙ ap (λ (o : ParseOptions). setting_by i.bytes.now o i.labels.now i.definitions.now i.footnotes.now) c.in_ok-asked.ensures.ok.0
    in
    let e : p ≡ page i targets c.args.options =
    same_page d i targets c.args.options c.in_ok-definitions.definitions c.in_ok-asked.allowed same c.in_ok-definitions.ensures.ok c.in_ok-asked.ensures.ok.1
    in
    let Of : Page → Setting → Option ℕ → Type 0 = λ x y most.
    AreFound (html_of_each x [] (map (tree_at y pieces) contents)) c.args.html.now c.write_all.new.html c.args.ends.now c.write_all.new.ends c.write_all.new.outcome
    (λ read. EndsBy (AreWritable x pieces (tree_at y pieces) most) (IsHtmlFaultAt x pieces (tree_at y pieces) most) contents read c.write_all.result)
    in
    let most = limit_in limit (length i.bytes.now) in
    behind_input (IsReadyForHtml i targets contents c.args.options) (IsHtmlInputRefused i targets contents c.args.options) (holds i targets c.args.options limit) (refuses i targets c.args.options limit) contents (htmls_of i targets contents c.args.options) c.args.html.now c.write_all.new.html
    c.args.ends.now c.write_all.new.ends c.write_all.new.outcome c.write_all.result
    (record {
      input = record { options = c.in_ok-asked.ensures.known; document = c.in_ok-check_input.ensures.document; labels = c.in_ok-check_input.ensures.labels };
      each_target = c.in_ok-check_targets.ensures.ok;
    })
    (subst (λ (y : Setting). Of (page i targets c.args.options) y most) same
    (subst (λ (x : Page). Of x (setting_of d) most) e (subst (λ (n : Option ℕ). Of p (setting_of d) n) c.limit_in-limit.ensures c.write_all.ensures)))
