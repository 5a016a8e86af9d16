use Rattle.std.proofs.Common.{◌≡◌, ◌∙◌, ◌++◌, subst, sym, ap, ℕ, List, true, false}
use Rattle.markdown_content.specs.Tree.{Forest, events_of}
use Rattle.markdown_html_model.specs.Html.{html}
use Rattle.markdown_html_model.specs.OwnMarkup.{IsOwnMarkup}
use Rattle.markdown_html_model.proofs.HtmlIsOwn.{html-is-own, html-is-safe}
use Rattle.markdown_html.specs.View.{page_from}
use Rattle.markdown_html.proofs.writer.to_html.Goals as goal

pub returns : goal.returns
returns c =
    let page = page_from c.args.parse_state.now c.args.pieces.now c.args.definitions.now c.args.options in
    let earlier : List (List ℕ) = c.args.calls.now in
    let exact : (t : Forest) → c.args.events.now ≡ events_of t → c.push_html.new.out.items ≡ html page earlier t =
    λ t is. c.in_ok-push_html.ensures.exact t is ∙ ap (λ x. x ++ html page earlier t) c.new-out.ensures.items in
    record {
      exact = exact;
      calls = c.in_ok-push_html.ensures.calls;
      err = tt;
      own = λ t is raw. subst (IsOwnMarkup true) (sym (exact t is)) (html-is-own page earlier t raw);
      safe = λ t is raw any. subst (IsOwnMarkup false) (sym (exact t is)) (html-is-safe page earlier t raw any);
    }
