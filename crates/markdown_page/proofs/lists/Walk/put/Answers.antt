use Rattle.std.proofs.Common.{◌∙◌, ap, sym, arith, ◌++◌, ◌∷◌, []}
use Rattle.markdown_page.specs.declared.lists.Walk.{Walk}
use Rattle.markdown_page.proofs.ListSteps.{loose-put, plain-put, walked-first, last-within, apart-false, apart-not}
use Rattle.markdown_page.proofs.lists.Walk.put.Goals.{in-Some+then-is_apart+then-is_some, in-Some+else-is_apart, else-is_apart-via-then-is_apart+else-is_some, else-is_apart-via-else-is_apart, in_default}
use Rattle.markdown_page.proofs.lists.Walk.put.Goals as goal

pub index_mut-requires : goal.index_mut-requires
index_mut-requires c =
    let w = c.args.self.now in
    let there = rw c.deref.ensures.value at c.in-Some.ensures.item in
    omega (arith, last-within c.requires.0 w c.in-Some.container.now c.requires.1 there.3.0 there.1)

pub returns-clause-places : goal.returns-clause-places
returns-clause-places c = λ t f h a.
    let before = c.args.self.now in
    let push = c.in_ok-push.ensures.items in
    elim c.match-last.branch [
      | in-Some+then-is_apart+then-is_some w ↦ (
          let there = rw c.deref.ensures.value at w.in-Some.ensures.item in
          push ∙ ap (λ (v : Walk). v.places.items ++ c.args.place ∷ []) w.self-is
          ∙ loose-put t f before c.args.place w.index_mut.result.now c.args.is_apart w.in-Some.container.now h there.3.0 there.1 a w.if-is_apart.true (sym w.is_some.ensures ∙ w.if-is_some.true) w.index_mut.ensures.value
          )
      | in-Some+else-is_apart w ↦ (
          let there = rw c.deref.ensures.value at w.in-Some.ensures.item in
          elim w.else-is_apart.branch [
            | else-is_apart-via-then-is_apart+else-is_some v ↦ push ∙ ap (λ (x : Walk). x.places.items ++ c.args.place ∷ []) (w.self-is ∙ v.self-is)
                ∙ plain-put t f before c.args.place c.args.is_apart w.in-Some.container.now h there.3.0 there.1 a (apart-not w.in-Some.container.now c.args.is_apart before.places.items (sym v.is_some.ensures ∙ v.if-is_some.false))
            | else-is_apart-via-else-is_apart v ↦ push ∙ ap (λ (x : Walk). x.places.items ++ c.args.place ∷ []) (w.self-is ∙ v.self-is)
                ∙ plain-put t f before c.args.place c.args.is_apart w.in-Some.container.now h there.3.0 there.1 a (apart-false w.in-Some.container.now c.args.is_apart before.places.items v.if-is_apart.false)
          ]
          )
      | in_default w ↦ (
          let none = rw c.deref.ensures.value at w.in_default.ensures.item in
          push ∙ ap (λ (x : Walk). x.places.items ++ c.args.place ∷ []) w.self-is ∙ walked-first t f before c.args.place c.args.is_apart h (omega (arith, none.3)) a
          )
    ]
