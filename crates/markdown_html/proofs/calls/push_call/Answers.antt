use Rattle.std.proofs.Common.{rules, ◌≡◌, ◌∙◌, ap, subst, ◌++◌, codes, ℕ, List, OnOk}
use Rattle.markdown_html_model.specs.Html.{call_identifier, call_link, footnote_number, tag, times_called}
use Rattle.markdown_html.specs.View.{page_of}
use Rattle.markdown_html.proofs.calls.push_call.Goals as goal

pub returns : goal.returns
returns c =
    let identifier : List ℕ = call_identifier (page_of c.args.given.now) c.args.label in
    let text : c.as_bytes.result.now ≡ identifier = search rules in
    let number : c.footnote-footnote.result.number ≡ footnote_number identifier c.args.calls.now = search rules in
    let times : c.footnote-footnote.result.calls ≡ times_called identifier c.args.calls.now = search rules in
    let numbered : c.as_slice.result.now ≡ codes "<sup>" ++ call_link c.as_bytes.result.now c.footnote-footnote.result.number c.footnote-footnote.result.calls ++ codes "</sup>" = search rules in
    let called =
    numbered
    ∙ ap (λ x. codes "<sup>" ++ call_link x c.footnote-footnote.result.number c.footnote-footnote.result.calls ++ codes "</sup>") text
    ∙ ap (λ n. codes "<sup>" ++ call_link identifier n c.footnote-footnote.result.calls ++ codes "</sup>") number
    ∙ ap (λ n. codes "<sup>" ++ call_link identifier (footnote_number identifier c.args.calls.now) n ++ codes "</sup>") times in
    subst (λ call. OnOk c.push_tag.result (c.push_tag.new.out.items ≡ c.args.out.now.items ++ tag c.args.within call)) called c.push_tag.ensures
