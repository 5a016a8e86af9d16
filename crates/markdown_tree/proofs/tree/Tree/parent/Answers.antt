use Rattle.std.proofs.Common.{◌≡◌, Option, Some, IfSome, [], length, get_or, sym, ap, subst, ◌∙◌, arith}
use Rattle.markdown_tree.specs.declared.tree.Lists.{Lists}
use Rattle.markdown_tree.specs.Nodes.{enter_at}
use Rattle.markdown_tree.specs.TreeIndex.{exits_of, parents_of}
use Rattle.markdown_tree.proofs.IndexLemmas.{enter-within, length-parents, parent-read}
use Rattle.markdown_tree.proofs.tree.Tree.parent.Goals as goal

pub index-requires : goal.index-requires
index-requires c =
    let h : enter_at c.args.self.now c.args.node ≡ Some c.in_ok-enter.enter = sym c.enter.ensures ∙ c.in_ok-enter.was in
    let lists = subst (λ (o : Option Lists). IfSome o (λ (l : Lists). (l.parents.items ≡ parents_of c.self.inside.events) × (l.exits.items ≡ exits_of c.self.inside.events))) c.in-Some.is c.self.invariant in
    let size : length c.in-Some.lists.parents.items ≡ length c.args.self.now = ap length (lists.0 ∙ ap parents_of c.self.view_is) ∙ length-parents 0 [] c.args.self.now in
    omega (arith, size, enter-within c.args.self.now c.args.node c.in_ok-enter.enter h)

pub enter_around-requires : goal.enter_around-requires
enter_around-requires c =
    let h : enter_at c.args.self.now c.args.node ≡ Some c.in_ok-enter.enter = sym c.enter.ensures ∙ c.in_ok-enter.was in
    omega (arith, ap length c.self.view_is, enter-within c.args.self.now c.args.node c.in_ok-enter.enter h)

pub returns-in-Some : goal.returns-in-Some
returns-in-Some c =
    let h : enter_at c.args.self.now c.args.node ≡ Some c.in_ok-enter.enter = sym c.enter.ensures ∙ c.in_ok-enter.was in
    let lists = subst (λ (o : Option Lists). IfSome o (λ (l : Lists). (l.parents.items ≡ parents_of c.self.inside.events) × (l.exits.items ≡ exits_of c.self.inside.events))) c.in-Some.is c.self.invariant in
    c.index.ensures
    ∙ ap (λ xs. get_or xs c.in_ok-enter.enter c.index.result.now) (lists.0 ∙ ap parents_of c.self.view_is)
    ∙ parent-read c.args.self.now c.args.node c.in_ok-enter.enter c.index.result.now h
