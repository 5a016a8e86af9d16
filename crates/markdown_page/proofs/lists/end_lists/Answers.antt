use Rattle.std.proofs.Common.{◌≡◌, ◌+◌, ◌-◌, refl, subst, arith}
use Rattle.markdown_page.proofs.NextItems.{IsBack, back-step, back-end}
use Rattle.markdown_page.proofs.lists.end_lists.Goals as goal

pub loop-index-preserved : goal.loop-index-preserved
loop-index-preserved c =
    let before = c.loop-index in
    let i = before.index - 1 in
    let next : before.index ≡ i + 1 = omega arith in
    let h : IsBack c.args.rows.now c.args.places.now.items (i + 1) before.nexts.items before.places.items =
    subst (λ n. IsBack c.args.rows.now c.args.places.now.items n before.nexts.items before.places.items) next before.invariant in
    back-step c.args.rows.now c.args.places.now.items before.places.items _ before.nexts.items c.pass_row.new.nexts.items i _ c.index.result.now _ h c.requires c.index-rows-index.is c.index.ensures c.in_ok-places.ensures.place c.in_ok-places.ensures.nexts refl

pub returns : goal.returns
returns c = λ document nested e.
    back-end document c.args.rows.now c.args.places.now.items c.loop-index.places.items c.loop-index.nexts.items c.loop-index.index c.loop-index.invariant (omega arith) nested e
