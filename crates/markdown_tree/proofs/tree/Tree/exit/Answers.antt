use Rattle.std.proofs.Common.{◌≡◌, Option, Some, IfSome, length, get_or, sym, ap, subst, ◌∙◌, arith}
use Rattle.std.specs.Option.{option_and_then}
use Rattle.markdown_tree.specs.declared.tree.Lists.{Lists}
use Rattle.markdown_tree.specs.Nodes.{enter_at, own_exit}
use Rattle.markdown_tree.specs.TreeIndex.{exits_of, parents_of}
use Rattle.markdown_tree.proofs.IndexLemmas.{enter-within, length-exits, exit-read, exit-bounds}
use Rattle.markdown_tree.proofs.tree.Tree.exit.Goals as goal

pub index-requires : goal.index-requires
index-requires c =
    let h : enter_at c.args.self.now c.args.node ≡ Some c.in_ok-enter.enter = sym c.enter.ensures ∙ c.in_ok-enter.was in
    let lists = subst (λ (o : Option Lists). IfSome o (λ (l : Lists). (l.parents.items ≡ parents_of c.self.inside.events) × (l.exits.items ≡ exits_of c.self.inside.events))) c.in-Some.is c.self.invariant in
    let size : length c.in-Some.lists.exits.items ≡ length c.args.self.now = ap length (lists.1 ∙ ap exits_of c.self.view_is) ∙ length-exits 0 c.args.self.now in
    omega (arith, size, enter-within c.args.self.now c.args.node c.in_ok-enter.enter h)

pub exit_behind-requires : goal.exit_behind-requires
exit_behind-requires c =
    let h : enter_at c.args.self.now c.args.node ≡ Some c.in_ok-enter.enter = sym c.enter.ensures ∙ c.in_ok-enter.was in
    omega (arith, ap length c.self.view_is, enter-within c.args.self.now c.args.node c.in_ok-enter.enter h)

pub returns-in-Some-clause-exit : goal.returns-in-Some-clause-exit
returns-in-Some-clause-exit c =
    let h : enter_at c.args.self.now c.args.node ≡ Some c.in_ok-enter.enter = sym c.enter.ensures ∙ c.in_ok-enter.was in
    let lists = subst (λ (o : Option Lists). IfSome o (λ (l : Lists). (l.parents.items ≡ parents_of c.self.inside.events) × (l.exits.items ≡ exits_of c.self.inside.events))) c.in-Some.is c.self.invariant in
    c.index.ensures
    ∙ ap (λ xs. get_or xs c.in_ok-enter.enter c.index.result.now) (lists.1 ∙ ap exits_of c.self.view_is)
    ∙ exit-read c.args.self.now c.args.node c.in_ok-enter.enter c.index.result.now h

pub returns-in-Some-clause-within : goal.returns-in-Some-clause-within
returns-in-Some-clause-within c = exit-bounds c.args.self.now c.args.node c.index.result.now (returns-in-Some-clause-exit c)

pub returns-in-None-clause-within : goal.returns-in-None-clause-within
returns-in-None-clause-within c =
    let h : enter_at c.args.self.now c.args.node ≡ Some c.in_ok-enter.enter = sym c.enter.ensures ∙ c.in_ok-enter.was in
    exit-bounds c.args.self.now c.args.node c.exit_behind.result
    (c.exit_behind.ensures ∙ ap (λ xs. own_exit xs c.in_ok-enter.enter) c.self.view_is ∙ sym (ap (option_and_then (own_exit c.args.self.now)) h))
