use Rattle.std.proofs.Common.{rules, ◌≡◌, List, sym, subst}
use Rattle.markdown_engine_events.specs.Edits.{kept, AreBrought, IsRest}
use Rattle.markdown_engine_events.specs.declared.util.edit_map.Entry.{Entry}
use Rattle.std.proofs.lemmas.List.Sorted.{IsNonDecreasingBy-from_sort_by_key, answers_always}
use Rattle.markdown_engine_events.proofs.EditOrder.{adds-unlinked, brought-sorted, rest-sorted, rest-added}
use Rattle.markdown_engine_events.proofs.util.edit_map.by_place.Goals as goal

pub returns-then-is_in_order-clause-rest : goal.returns-then-is_in_order-clause-rest
returns-then-is_in_order-clause-rest c =
    λ comes b. rest-added comes c.args.log.now (adds-unlinked comes c.args.log.now b.unlinked) (c.is_in_order.ensures c.if-is_in_order.true)

pub returns-clause-rest : goal.returns-clause-rest
returns-clause-rest c = λ comes b.
    let up = IsNonDecreasingBy-from_sort_by_key (λ e. e.at) c.sort_by_key.new.self.items c.in_ok-sort_by_key.ensures.sorted (λ a r q k. search rules) in
    let stable = c.sort_by_key.ensures.stable (λ e. e.at) (answers_always _ _ _ (λ f a r g h. search rules)) in
    let filled : c.extend_from_slice.new.self.items ≡ c.args.log.now = search rules in
    let same : c.sort_by_key.new.self.items ≡ c.as_slice.result.now = search rules in
    let P = λ (xs : List Entry). IsRest 0 (kept comes xs) (kept comes c.sort_by_key.new.self.items) in
    let Q = λ (xs : List Entry). IsRest 0 (kept comes c.args.log.now) (kept comes xs) in
    subst Q same (subst P filled (rest-sorted comes c.extend_from_slice.new.self.items c.sort_by_key.new.self.items (adds-unlinked comes _ b.unlinked) c.sort_by_key.ensures.permutation up stable))

pub returns-clause-brought : goal.returns-clause-brought
returns-clause-brought c = λ comes b.
    let filled : c.extend_from_slice.new.self.items ≡ c.args.log.now = search rules in
    let same : c.sort_by_key.new.self.items ≡ c.as_slice.result.now = search rules in
    subst (λ (xs : List Entry). AreBrought comes xs) same (brought-sorted comes c.extend_from_slice.new.self.items c.sort_by_key.new.self.items c.sort_by_key.ensures.permutation (subst (λ (xs : List Entry). AreBrought comes xs) (sym filled) b))
