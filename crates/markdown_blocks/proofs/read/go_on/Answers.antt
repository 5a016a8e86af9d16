use Rattle.std.proofs.Common.{◌≡◌, ◌<◌, sym, arith, suc, ◌∙◌, add-one, ap, drop, Some, Bool, List}
use Rattle.markdown_content.specs.Codes.{Code}
use Rattle.markdown_block_model.specs.DocumentBlocks.{rest_inside}
use Rattle.markdown_block_line.specs.LineBlocks.{container_of}
use Rattle.markdown_blocks.specs.TreeDepth.{inside_at}
use Rattle.markdown_blocks.specs.BlockRows.{depth, whole_tree, container_at}
use Rattle.markdown_blocks.proofs.ReaderTrees.{whole-front, container-at}
use Rattle.markdown_blocks.proofs.ContainerWalks.{walk-step}
use Rattle.markdown_blocks.proofs.OuterCodes.{outside-continued}
use Rattle.markdown_blocks.proofs.read.go_on.Goals as goal

pub loop-depth-preserved : goal.loop-depth-preserved
loop-depth-preserved c =
    let r = c.args.reader.now in
    let bytes = c.args.rest.now.bytes in
    let n = c.leap-depth.result in
    let k : n < depth r = c.leap-depth.ensures.within in
    let is : container_at n r ≡ container_of c.get.result = container-at r.path n c.get.result k ∙ ap container_of (sym c.get.ensures) in
    let some = c.in-Some.ensures.found (inside_at (suc n) (whole_tree bytes r)) (sym (c.holds_nothing.ensures bytes c.requires)) in
    let x : rest_inside (container_at n r) (inside_at (suc n) (whole_tree bytes r)) c.loop-depth.inner.codes ≡ Some (drop c.in-Some.outside c.loop-depth.inner.codes) = rw is some in
    record {
      within = omega arith;
      same_bytes = rw c.behind-inner-in-Some.ensures c.loop-depth.invariant.same_bytes;
      same_extensions = rw c.behind-inner-in-Some.ensures c.loop-depth.invariant.same_extensions;
      same_start = rw c.behind-inner-in-Some.ensures c.loop-depth.invariant.same_start;
      tree = λ (has_text : List Code → Bool).
          let leapt = rw (c.loop-depth.invariant.same_bytes, c.loop-depth.invariant.same_extensions) at (c.leap-depth.ensures.same has_text) in
          rw c.behind-inner-in-Some.ensures (c.loop-depth.invariant.tree has_text ∙ leapt ∙ rw add-one (walk-step c.args.rest.now.extensions has_text n (whole_tree bytes r) r.path _ _ (whole-front bytes r c.requires) k x));
    }

pub returns-in-None-clause-stops : goal.returns-in-None-clause-stops
returns-in-None-clause-stops c =
    let r = c.args.reader.now in
    let bytes = c.args.rest.now.bytes in
    let n = c.leap-depth.result in
    let k : n < depth r = c.leap-depth.ensures.within in
    let is : container_at n r ≡ container_of c.get.result = container-at r.path n c.get.result k ∙ ap container_of (sym c.get.ensures) in
    let none = c.in-None.ensures.found (inside_at (suc n) (whole_tree bytes r)) (sym (c.holds_nothing.ensures bytes c.requires)) in
    λ _. rw is none

pub returns-in-None-clause-tree : goal.returns-in-None-clause-tree
returns-in-None-clause-tree c = λ (has_text : List Code → Bool).
    let leapt = rw (c.loop-depth.invariant.same_bytes, c.loop-depth.invariant.same_extensions) at (c.leap-depth.ensures.same has_text) in
    c.loop-depth.invariant.tree has_text ∙ leapt

pub behind-inner-requires-in-Some-clause-outer : goal.behind-inner-requires-in-Some-clause-outer
behind-inner-requires-in-Some-clause-outer c =
    let r = c.args.reader.now in
    let inside = inside_at (suc c.leap-depth.result) (whole_tree c.args.rest.now.bytes r) in
    outside-continued (container_of c.get.result) inside c.loop-depth.inner.codes c.in-Some.outside c.in-Some.ensures.within
    (c.in-Some.ensures.found inside (sym (c.holds_nothing.ensures c.args.rest.now.bytes c.requires)))
