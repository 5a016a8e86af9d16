use Rattle.std.proofs.Common.{◌∙◌, ◌++◌, ◌∷◌, [], ap, sym, subst, List, map, take}
use Rattle.std.proofs.lemmas.List.{map-append, take_more, take_all}
use Rattle.markdown_block_definitions.specs.DefinitionTexts.{HasUtf8Texts, Texts, texts_of}
use Rattle.markdown_block_definitions.specs.declared.front.Definition.{Definition}
use Rattle.markdown_inline_c.specs.FlatDefinitions.{AreWritten}
use Rattle.markdown_inline_c.proofs.definitions.flat_definitions.Goals as goal

pub loop-definition-preserved : goal.loop-definition-preserved
loop-definition-preserved c =
    let at = c.loop-definition in
    let x = c.definition-item.result in
    let found = c.push.new.self in
    let so_far = take at.definition-index c.args.definitions.now in
    let utf8 : HasUtf8Texts x = subst HasUtf8Texts (sym c.definition-item.is) (c.requires at.definition-index x c.loop-definition-test.true) in
    let all = take_more c.args.definitions.now at.definition-index x c.loop-definition-test.true ∙ ap (λ (d : Definition). so_far ++ d ∷ []) (sym c.definition-item.is) in
    record {
      flat = subst (λ (ts : List Texts). AreWritten c.args.how found.labels.items ts found.definitions.items found.targets.items)
          (sym (map-append texts_of so_far (x ∷ [])) ∙ ap (map texts_of) (sym all))
          (c.in_ok-push.ensures (map texts_of so_far) utf8 at.invariant.flat);
    }

pub returns : goal.returns
returns c =
    let at = c.loop-definition in
    subst (λ (ds : List Definition). AreWritten c.args.how at.found.labels.items (map texts_of ds) at.found.definitions.items at.found.targets.items)
    (take_all at.definition-index c.args.definitions.now c.loop-definition-test.false) at.invariant.flat
