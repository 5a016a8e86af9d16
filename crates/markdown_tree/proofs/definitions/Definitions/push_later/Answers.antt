-- The map finds each identifier where it was.
use Rattle.std.proofs.Common.{◌≡◌, ◌∙◌, sym, ap, subst, List, ℕ, ◌++◌, ◌∷◌, [], map, string_bytes}
use Rattle.std.specs.Option.{IsSome}
use Rattle.std.proofs.lemmas.List.{map-append}
use Rattle.markdown_tree.specs.Numbers.{number_of}
use Rattle.markdown_tree.proofs.NumberLemmas.{number-later}
use Rattle.markdown_tree.proofs.definitions.Definitions.push_later.Goals as goal

pub invariant_of-self-2 : goal.invariant_of-self-2
invariant_of-self-2 c = λ q.
    let new : List ℕ = string_bytes c.args.identifier in
    let ids : List (List ℕ) = map string_bytes c.self.inside.identifiers.items in
    let is_there : IsSome (number_of new ids) = subst (λ (xs : List (List ℕ)). IsSome (number_of new xs)) (sym c.self.view_is) c.requires in
    let items : map string_bytes c.push.new.self.items ≡ ids ++ new ∷ [] = ap (map string_bytes) c.in_ok-push.ensures.items ∙ map-append string_bytes c.self.inside.identifiers.items (c.args.identifier ∷ []) in
    c.self.invariant q ∙ sym (number-later q new ids is_there) ∙ ap (number_of q) (sym items)
