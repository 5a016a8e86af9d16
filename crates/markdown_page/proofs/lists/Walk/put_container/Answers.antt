use Rattle.std.proofs.Common.{◌∙◌, ◌≡◌, ◌&&◌, refl, subst}
use Rattle.markdown_block_model.specs.BlockTree.{nothing, and_container, quote, item}
use Rattle.markdown_block_line.specs.LineBlocks.{marker_of}
use Rattle.markdown_blocks.specs.TreeDepth.{at_depth}
use Rattle.markdown_page.specs.ListWalks.{IsWalked}
use Rattle.markdown_page.proofs.ListSteps.{appended-quote, appended-item}
use Rattle.markdown_page.proofs.lists.Walk.put_container.Goals.{then-self, else-self}
use Rattle.markdown_page.proofs.lists.Walk.put_container.Goals as goal

pub returns-in_ok-enter-in-Quote-clause-walked : goal.returns-in_ok-enter-in-Quote-clause-walked
returns-in_ok-enter-in-Quote-clause-walked c = λ t h.
    let w = c.leave.ensures.walked t h in
    rw c.in-Quote.is (subst (λ n. IsWalked (at_depth n (λ s. and_container s quote nothing) t) c.enter.new.self) c.leave.ensures.depth (c.in_ok-enter-in-Quote.ensures.walked t quote w refl refl (appended-quote _ _ w.blank)))

pub returns-in_ok-enter-in-Item-clause-walked : goal.returns-in_ok-enter-in-Item-clause-walked
returns-in_ok-enter-in-Item-clause-walked c = λ t h.
    let w = c.leave.ensures.walked t h in
    let m = marker_of c.in-Item.marker in
    let columns = c.in-Item.field-1 in
    let place = c.item_place-place.result in
    let apart : c.if-self.enter ≡ (c.leave.new.self.ends_with_blank && place.begins) =
    elim c.if-self.branch [ then-self v ↦ rw v.if-self.true v.enter-is | else-self v ↦ rw v.if-self.false (v.enter-is ∙ v.if-self.false) ] in
    rw c.in-Item.is (subst (λ n. IsWalked (at_depth n (λ s. and_container s (item m columns) nothing) t) c.enter-in-Item.new.self) c.leave.ensures.depth
    (c.in_ok-enter-in-Item.ensures.walked t (item m columns) w refl refl (appended-item _ m columns _ c.leave.new.self.ends_with_blank c.if-self.enter place w.last w.blank c.item_place-place.ensures apart)))
