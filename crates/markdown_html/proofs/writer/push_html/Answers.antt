use Rattle.std.proofs.Common.{rules, ◌≡◌, ◌∙◌, ◌++◌, ap, ℕ, List, None}
use Rattle.markdown_content.specs.declared.configuration.Rules.{Rules}
use Rattle.markdown_util.specs.declared.decoding.Decoding.{Decoding}
use Rattle.markdown_html_model.specs.Html.{html, calls_behind}
use Rattle.markdown_html.specs.View.{page_from}
use Rattle.markdown_html_model.specs.declared.role.Within.{Within}
use Rattle.markdown_html.proofs.WalkTree.{html_within, calls_within}
use Rattle.markdown_html.proofs.writer.push_html.Goals as goal

pub returns : goal.returns
unfolding html calls_behind
returns c =
    let page = page_from c.args.parse_state.now c.args.pieces.now c.args.definitions.now c.args.options in
    let out : List ℕ = c.args.out.now.items in
    let calls : List (List ℕ) = c.args.calls.now in
    let same_out : c.replace-earlier.result.items ≡ out = search rules in
    let same : c.replace-before.result ≡ calls = search rules in
    record {
      exact = λ t is. let w = c.in_ok-writer.ensures 0 None t is in
          w.0 ∙ ap (λ x. x ++ html_within (record page { decoding = c.decoding_of.result; rules = c.rules.result }) c.replace-before.result Within.Outside t) same_out
          ∙ ap (λ (r : Rules). out ++ html_within (record page { decoding = c.decoding_of.result; rules = r }) c.replace-before.result Within.Outside t) c.rules.ensures
          ∙ ap (λ (how : Decoding). out ++ html_within (record page { decoding = how }) c.replace-before.result Within.Outside t) c.decoding_of.ensures
          ∙ ap (λ b. out ++ html_within page b Within.Outside t) same;
      calls = λ t is. let w = c.in_ok-writer.ensures 0 None t is in
          w.1 ∙ ap (λ (r : Rules). calls_within (record page { decoding = c.decoding_of.result; rules = r }) c.replace-before.result Within.Outside t) c.rules.ensures
          ∙ ap (λ (how : Decoding). calls_within (record page { decoding = how }) c.replace-before.result Within.Outside t) c.decoding_of.ensures
          ∙ ap (λ b. calls_within page b Within.Outside t) same;
      err = tt;
    }
