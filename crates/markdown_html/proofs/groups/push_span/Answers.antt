use Rattle.std.proofs.Common.{◌≡◌, ◌∙◌, sym, ap, subst, ◌++◌, OnOk}
use Rattle.markdown_html_model.specs.Html.{span_html, without_padding}
use Rattle.markdown_html.proofs.Lists.{no_line_feed}
use Rattle.markdown_html.proofs.groups.push_span.Goals as goal

pub returns-then-not-has_line_feed : goal.returns-then-not-has_line_feed
returns-then-not-has_line_feed c =
    subst (λ text. OnOk c.push_span_text.result (c.push_span_text.new.out.items ≡ c.args.out.now.items ++ span_html c.args.within c.args.front.now text))
    (c.without_padding.ensures ∙ ap without_padding (sym (no_line_feed c.args.inside.now (sym c.has_line_feed.ensures ∙ c.if-not-has_line_feed.true)))) c.push_span_text.ensures
