use Rattle.std.proofs.Common.{◌≡◌, ◌∙◌, ◌++◌, ap, sym, List, ℕ, codes}
use Rattle.std.proofs.lemmas.Result.{on_ok_weaker}
use Rattle.markdown_html_model.specs.Escaped.{escaped}
use Rattle.markdown_page.proofs.LeafCases.{class-some}
use Rattle.markdown_page.proofs.code.push_class.Goals as goal

pub returns : goal.returns
returns c = on_ok_weaker c.push_between.result
    (λ (e : c.push_between.new.out.items ≡ c.args.out.now.items ++ (codes " class=\"language-" ++ escaped c.args.language.now ++ codes "\"")).
    e ∙ ap (λ (xs : List ℕ). c.args.out.now.items ++ xs) (class-some c.args.language.now (sym c.is_empty.ensures ∙ c.if-is_empty.false)))
    c.push_between.ensures
