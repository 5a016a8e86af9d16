use Rattle.std.proofs.Common.{◌∙◌, ◌++◌, ap, sym, List, ◌∷◌, [], map, take, string_bytes, subst, true, IsUtf8}
use Rattle.std.proofs.lemmas.List.{map-append, take_more, take_all}
use Rattle.markdown_util.specs.Identifier.{identifier_by}
use Rattle.markdown_block_definitions.specs.DefinitionTexts.{Texts}
use Rattle.markdown_block_definitions.specs.declared.front.Definition.{Definition}
use Rattle.markdown_page.proofs.DefinitionStringLemmas.{AreMade, made-none, made-more, made-all}
use Rattle.markdown_page.proofs.definitions.identifiers.Goals as goal

pub loop-definition-init : goal.loop-definition-init
loop-definition-init c = record { made = made-none (λ (t : Texts). IsUtf8 t.label) (λ (t : Texts). identifier_by true t.label) _ (ap (map string_bytes) c.new-names.ensures.items) }

pub loop-definition-preserved : goal.loop-definition-preserved
loop-definition-preserved c =
    let at = c.loop-definition in
    record {
      made = made-more (λ (t : Texts). IsUtf8 t.label) (λ (t : Texts). identifier_by true t.label) (take at.definition-index c.args.definitions.now) _ c.definition-item.result (map string_bytes at.names.items) _ (string_bytes c.in_ok-name.name)
          (take_more c.args.definitions.now at.definition-index c.definition-item.result c.loop-definition-test.true ∙ ap (λ (x : Definition). take at.definition-index c.args.definitions.now ++ x ∷ []) (sym c.definition-item.is)) at.invariant.made
          (ap (map string_bytes) c.in_ok-push.ensures.items ∙ map-append string_bytes at.names.items (c.in_ok-name.name ∷ [])) c.in_ok-name.ensures;
    }

pub returns : goal.returns
returns c = λ ds e a.
    let at = c.loop-definition in
    made-all (λ (t : Texts). IsUtf8 t.label) (λ (t : Texts). identifier_by true t.label) c.args.definitions.now ds (map string_bytes at.names.items)
    (subst (λ (xs : List Definition). AreMade (λ (t : Texts). IsUtf8 t.label) (λ (t : Texts). identifier_by true t.label) xs (map string_bytes at.names.items)) (take_all at.definition-index c.args.definitions.now c.loop-definition-test.false) at.invariant.made) e a
