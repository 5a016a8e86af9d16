use Rattle.std.proofs.Common.{◌∙◌, ◌++◌, ◌∷◌, [], ap, sym, List, take, subst}
use Rattle.std.proofs.lemmas.List.{take_more, take_all}
use Rattle.markdown_html.specs.DefinitionView.{defined_of}
use Rattle.markdown_block_definitions.specs.declared.front.Definition.{Definition}
use Rattle.markdown_page.specs.DefinitionStrings.{IsTextual, defined_in}
use Rattle.markdown_page.proofs.DefinitionStringLemmas.{AreMade, made-none, made-more, made-all, defined-same}
use Rattle.markdown_page.proofs.definitions.targets.Goals as goal

pub loop-definition-init : goal.loop-definition-init
loop-definition-init c = record { made = made-none (IsTextual c.args.how) (defined_in c.args.how) _ c.new-found.ensures }

pub loop-definition-preserved : goal.loop-definition-preserved
loop-definition-preserved c =
    let at = c.loop-definition in
    record {
      made = made-more (IsTextual c.args.how) (defined_in c.args.how) (take at.definition-index c.args.definitions.now) _ c.definition-item.result at.found _ (defined_of c.in_ok-target.target)
          (take_more c.args.definitions.now at.definition-index c.definition-item.result c.loop-definition-test.true ∙ ap (λ (x : Definition). take at.definition-index c.args.definitions.now ++ x ∷ []) (sym c.definition-item.is)) at.invariant.made c.in_ok-push.ensures.ok c.in_ok-target.ensures;
    }

pub returns : goal.returns
returns c = λ ds e a.
    let at = c.loop-definition in
    made-all (IsTextual c.args.how) (defined_in c.args.how) c.args.definitions.now ds at.found
    (subst (λ (xs : List Definition). AreMade (IsTextual c.args.how) (defined_in c.args.how) xs at.found) (take_all at.definition-index c.args.definitions.now c.loop-definition-test.false) at.invariant.made) e a
    ∙ defined-same c.args.how ds
