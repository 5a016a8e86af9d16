-- The map finds the new identifier, and each other one where it was.
use Rattle.std.proofs.Common.{rules, ◌≡◌, ◌∙◌, sym, ap, ℕ, List, ◌++◌, ◌∷◌, [], None, Some, cond, length, map, string_bytes}
use Rattle.std.specs.BTreeMap.{get_by_text}
use Rattle.std.specs.Str.{bytes_eq}
use Rattle.std.proofs.lemmas.List.{length-map, map-append}
use Rattle.std.proofs.lemmas.Map.Text.{btree_map_updates_text}
use Rattle.markdown_tree.specs.Numbers.{number_of}
use Rattle.markdown_tree.proofs.NumberLemmas.{number-more}
use Rattle.markdown_tree.proofs.definitions.Definitions.push_first.Goals as goal

pub invariant_of-self-in-Ok : goal.invariant_of-self-in-Ok
invariant_of-self-in-Ok c = λ q.
    let new : List ℕ = string_bytes c.args.identifier in
    let ids : List (List ℕ) = map string_bytes c.self.inside.identifiers.items in
    let is_new : number_of new ids ≡ None = search rules in
    let same : string_bytes c.in_ok-key.key ≡ new = search rules in
    let len : c.len-number.result ≡ length c.self.inside.identifiers.items = search rules in
    let count : c.len-number.result ≡ length ids = len ∙ sym (length-map c.self.inside.identifiers.items string_bytes) in
    let items : map string_bytes c.push.new.self.items ≡ ids ++ new ∷ [] = ap (map string_bytes) c.in_ok-push.ensures.items ∙ map-append string_bytes c.self.inside.identifiers.items (c.args.identifier ∷ []) in
    let sets = btree_map_updates_text (string_bytes c.in_ok-key.key) c.self.inside.numbers c.insert.new.self _ c.in-Ok.ensures.updates q in
    sets
    ∙ ap (λ k. cond (bytes_eq k q) (Some c.len-number.result) (get_by_text c.self.inside.numbers q)) same
    ∙ ap (λ o. cond (bytes_eq new q) (Some c.len-number.result) o) (c.self.invariant q)
    ∙ ap (λ n. cond (bytes_eq new q) (Some n) (number_of q ids)) count
    ∙ sym (number-more q new ids is_new)
    ∙ ap (number_of q) (sym items)
