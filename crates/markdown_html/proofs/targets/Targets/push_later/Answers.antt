-- Of two with one identifier the first is found.
use Rattle.std.proofs.Common.{◌≡◌, ◌∙◌, sym, ap, ℕ, List, ◌++◌, ◌∷◌, [], Some, map, string_bytes}
use Rattle.std.proofs.lemmas.List.{map-append}
use Rattle.markdown_html_model.specs.Html.{Defined}
use Rattle.markdown_html.specs.FirstDefinitions.{first_with}
use Rattle.markdown_html.specs.DefinitionView.{defined_of}
use Rattle.markdown_html.proofs.BroughtBound.{counted_more}
use Rattle.markdown_html.proofs.FirstWith.{first-before}
use Rattle.markdown_html.proofs.targets.Targets.push_later.Goals as goal

pub invariant_of-self-2 : goal.invariant_of-self-2
invariant_of-self-2 c =
    let ds : List Defined = map defined_of c.self.inside.definitions.items in
    let is : first_with (string_bytes c.args.definition.identifier) ds ≡ Some c.requires.0 = ap (first_with (string_bytes c.args.definition.identifier)) c.self.view_is ∙ c.requires.1 in
    let items : map defined_of c.push.new.self.items ≡ ds ++ defined_of c.args.definition ∷ [] = ap (map defined_of) c.in_ok-push.ensures.items ∙ map-append defined_of c.self.inside.definitions.items (c.args.definition ∷ []) in
    let found = λ (q : List ℕ). c.self.invariant.0 q ∙ sym (first-before q ds (defined_of c.args.definition) c.requires.0 is) ∙ ap (first_with q) (sym items) in
    (found, counted_more ds _ (defined_of c.args.definition) _ c.self.inside.longest c.bytes.result _ c.self.invariant.1 c.goal_of.ensures c.bytes.ensures c.max-longest.ensures items)
