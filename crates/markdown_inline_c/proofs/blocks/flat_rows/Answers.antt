use Rattle.std.proofs.Common.{◌∙◌, ◌≡◌, ◌+◌, ◌∷◌, ◌++◌, ap, sym, subst, List, drop, arith}
use Rattle.markdown_blocks.specs.declared.block.Row.{Row}
use Rattle.markdown_inline_c.specs.FlatBlocks.{flat_blocks, flat_pieces}
use Rattle.markdown_inline_c.proofs.FlatBlockLemmas.{first-behind, one-more-block, one-more-row}
use Rattle.markdown_inline_c.proofs.blocks.flat_rows.Goals as goal

pub loop-index-preserved : goal.loop-index-preserved
loop-index-preserved c =
    let at = c.loop-index in
    let lt = c.loop-index-test.true in
    let rows = c.args.rows.now in
    let places = c.args.places.now in
    let lines = c.args.lines.now in
    let r = c.index-rows-index.result in
    let here : drop at.index rows ≡ r ∷ drop (at.index + 1) rows = first-behind rows at.index r lt ∙ ap (λ (x : Row). x ∷ drop (at.index + 1) rows) (sym c.index-rows-index.is) in
    let blocks = at.found.blocks.items in
    let pieces = at.found.pieces.items in
    record {
      blocks =
          one-more-block (flat_blocks 0 rows places lines) blocks c.push.new.self.blocks.items pieces c.push.new.self.pieces.items r (drop at.index rows) (drop (at.index + 1) rows)
          _ (drop at.index places) (drop (at.index + 1) places) _ (drop at.index lines) (drop (at.index + 1) lines) c.in_ok-push.ensures.blocks c.in_ok-push.ensures.pieces here
          (first-behind places at.index _ (omega (arith, lt, c.requires.places))) (first-behind lines at.index _ (omega (arith, lt, c.requires.lines))) at.invariant.blocks;
      pieces =
          one-more-row (flat_pieces rows) pieces c.push.new.self.pieces.items r (drop (at.index + 1) rows) c.in_ok-push.ensures.pieces
          (subst (λ (rs : List Row). pieces ++ flat_pieces rs ≡ flat_pieces rows) here at.invariant.pieces);
    }
