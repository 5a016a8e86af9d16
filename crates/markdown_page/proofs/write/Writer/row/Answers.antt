use Rattle.std.proofs.Common.{ℕ, Option, Result, Ok, Err, IfErr}
use Rattle.std.proofs.lemmas.Result.{on_ok_weaker}
use Rattle.markdown_blocks.specs.BlockRows.{leaf_of}
use Rattle.markdown_page.specs.GivenPage.{page_of, bytes_of, setting_of}
use Rattle.markdown_page.specs.PlacedTree.{PlacedTree, and_leaf, at_depth}
use Rattle.markdown_page.specs.WriterStates.{IsWrittenSoFar, depth}
use Rattle.markdown_page.specs.declared.lists.Place.{Place}
use Rattle.markdown_page.proofs.WriterSteps.{leaf-row, leaf-row-stop}
use Rattle.markdown_page.proofs.write.Writer.row.Goals as goal

pub returns-in_ok-close_to-in-LeafAt-clause-written : goal.returns-in_ok-close_to-in-LeafAt-clause-written
returns-in_ok-close_to-in-LeafAt-clause-written c =
    let g = c.args.given.now in
    let closed = c.close_to.new.self in
    on_ok_weaker c.leaf.result
    (λ (f : (limit : Option ℕ) (t : PlacedTree) (place : Place) → IsWrittenSoFar (setting_of g) (page_of g) limit t closed → IsWrittenSoFar (setting_of g) (page_of g) limit (at_depth (depth closed) (λ x. and_leaf x (leaf_of (bytes_of g) c.in-LeafAt.leaf) place) t) c.leaf.new.self).
    λ limit t h. leaf-row (setting_of g) (page_of g) limit (bytes_of g) c.args.row.now c.in-LeafAt.depth c.in-LeafAt.leaf c.args.place closed c.leaf.new.self t c.in-LeafAt.is c.in_ok-close_to-in-LeafAt.ensures.depth
    (f limit t c.args.place (c.in_ok-close_to-in-LeafAt.ensures.written limit t h)))
    c.leaf.ensures.written

-- what follows for each error
err-more : {T E : Type 0} (r : Result T E) (P Q : E → Type 0) → ((e : E) → P e → Q e) → IfErr r P → IfErr r Q
err-more (Ok x) P Q f h = tt
err-more (Err e) P Q f h = f e h

pub returns-in_ok-close_to-in-LeafAt-clause-stop : goal.returns-in_ok-close_to-in-LeafAt-clause-stop
returns-in_ok-close_to-in-LeafAt-clause-stop c =
    let g = c.args.given.now in
    let closed = c.close_to.new.self in
    err-more c.leaf.result _ _
    (λ stop f limit t h. leaf-row-stop (setting_of g) (page_of g) limit (bytes_of g) c.args.row.now c.in-LeafAt.depth c.in-LeafAt.leaf c.args.place closed t stop c.in-LeafAt.is c.in_ok-close_to-in-LeafAt.ensures.depth
    (f limit t c.args.place (c.in_ok-close_to-in-LeafAt.ensures.written limit t h)))
    c.leaf.ensures.stop
