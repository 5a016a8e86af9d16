use Rattle.std.proofs.Common.{refl, rules}
use Rattle.markdown_block_model.specs.BlockTree.{nothing, and_container}
use Rattle.markdown_page.specs.declared.lists.OpenContainer.{OpenContainer}
use Rattle.markdown_page.proofs.ListSteps.{walked-container}
use Rattle.markdown_page.proofs.lists.Walk.enter.Goals as goal

pub returns-clause-walked : goal.returns-clause-walked
returns-clause-walked c = λ t d h m n a.
    let o : OpenContainer = record { row = c.len-row.result; marker = c.args.marker } in
    walked-container t c.args.self.now _ o d h (rw c.in_ok-put.ensures.path at c.in_ok-push.ensures.items) (search rules) m (c.in_ok-put.ensures.places t (λ s. and_container s d nothing) h a) refl refl n
