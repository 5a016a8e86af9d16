use Rattle.std.proofs.Common.{◌∙◌, ◌++◌, ap, refl}
use Rattle.markdown_content.specs.CommonMark.{rules_of}
use Rattle.markdown_content.specs.declared.configuration.ParseOptions.{ParseOptions}
use Rattle.markdown_html_model.specs.Html.{plain_text_by}
use Rattle.markdown_html.proofs.EventLoop.{text-alone}
use Rattle.markdown_html.proofs.writer.text_by.Goals as goal

pub returns : goal.returns
returns c = λ n previous t is.
    let w = c.in_ok-written.ensures n previous t is in
    w.0
    ∙ ap (λ text. c.new-out.result.items ++ text)
    (text-alone c.args.how c.args.bytes.now _ c.rules.result c.new-definitions.result c.safe.result c.new-calls.result t refl (c.rules.ensures ∙ ap (λ (o : ParseOptions). rules_of o) c.default.ensures) c.new-definitions.ensures c.safe.ensures c.new-calls.ensures)
    ∙ ap (λ out. out ++ plain_text_by c.args.how c.args.bytes.now t) c.new-out.ensures.items
