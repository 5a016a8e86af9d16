-- The map finds the new identifier, and each other one where it was.
use Rattle.std.proofs.Common.{rules, ◌≡◌, ◌∙◌, sym, ap, ℕ, List, ◌++◌, ◌∷◌, [], None, Some, cond, length, map, string_bytes}
use Rattle.std.specs.BTreeMap.{get_by_text}
use Rattle.std.specs.Str.{bytes_eq}
use Rattle.std.proofs.lemmas.List.{length-map, map-append}
use Rattle.std.proofs.lemmas.Map.Text.{btree_map_updates_text}
use Rattle.markdown_html_model.specs.Html.{Defined}
use Rattle.markdown_html.specs.BroughtAtMost.{BringCounted}
use Rattle.markdown_html.specs.FirstDefinitions.{first_with}
use Rattle.markdown_html.specs.DefinitionView.{defined_of}
use Rattle.markdown_html.proofs.BroughtBound.{counted_more}
use Rattle.markdown_html.proofs.FirstWith.{first-new}
use Rattle.markdown_html.proofs.targets.Targets.push_first.Goals as goal

pub invariant_of-self-in-Ok : goal.invariant_of-self-in-Ok
invariant_of-self-in-Ok c =
    let new : List ℕ = string_bytes c.args.definition.identifier in
    let ds : List Defined = map defined_of c.self.inside.definitions.items in
    let bytes : BringCounted ds c.self.inside.longest = c.self.invariant.1 in
    let is_new : first_with new ds ≡ None = search rules in
    let same : string_bytes c.in_ok-key.key ≡ new = search rules in
    let len : c.len-number.result ≡ length c.self.inside.definitions.items = search rules in
    let count : c.len-number.result ≡ length ds = len ∙ sym (length-map c.self.inside.definitions.items defined_of) in
    let items : map defined_of c.push.new.self.items ≡ ds ++ defined_of c.args.definition ∷ [] = ap (map defined_of) c.in_ok-push.ensures.items ∙ map-append defined_of c.self.inside.definitions.items (c.args.definition ∷ []) in
    let found = λ (q : List ℕ).
    let sets = btree_map_updates_text (string_bytes c.in_ok-key.key) c.self.inside.numbers c.insert.new.self _ c.in-Ok.ensures.updates q in
    sets
    ∙ ap (λ k. cond (bytes_eq k q) (Some c.len-number.result) (get_by_text c.self.inside.numbers q)) same
    ∙ ap (λ o. cond (bytes_eq new q) (Some c.len-number.result) o) (c.self.invariant.0 q)
    ∙ ap (λ n. cond (bytes_eq new q) (Some n) (first_with q ds)) count
    ∙ sym (first-new q ds (defined_of c.args.definition) is_new)
    ∙ ap (first_with q) (sym items)
    in
    (found, counted_more ds _ (defined_of c.args.definition) _ c.self.inside.longest c.bytes.result _ bytes c.goal_of.ensures c.bytes.ensures c.max-longest.ensures items)
