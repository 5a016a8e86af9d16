use Rattle.std.proofs.Common.{◌∙◌, ◌++◌, ◌∷◌, [], ap, sym, List, map, append-nil}
use Rattle.std.proofs.lemmas.List.{take_all}
use Rattle.markdown_content.specs.declared.parser.Piece.{Piece}
use Rattle.markdown_inline_c.specs.FlatLines.{flat_piece}
use Rattle.markdown_inline_c.specs.declared.flat.FlatPiece.{FlatPiece}
use Rattle.markdown_inline_c.proofs.FlatBlockLemmas.{one-more-piece}
use Rattle.markdown_inline_c.proofs.blocks.push_all.Goals as goal

pub loop-piece-init : goal.loop-piece-init
loop-piece-init c = record { found = sym (append-nil c.args.found.now.items) }

pub loop-piece-preserved : goal.loop-piece-preserved
loop-piece-preserved c =
    let at = c.loop-piece in
    record {
      found = one-more-piece c.args.found.now.items at.found.items c.push.new.self.items c.args.pieces.now at.piece-index _ c.loop-piece-test.true at.invariant.found
          (c.in_ok-push.ensures.items ∙ ap (λ (x : FlatPiece). at.found.items ++ x ∷ []) c.flat_piece.ensures);
    }

pub returns : goal.returns
returns c =
    let at = c.loop-piece in
    at.invariant.found ∙ ap (λ (ps : List Piece). c.args.found.now.items ++ map flat_piece ps) (take_all at.piece-index c.args.pieces.now c.loop-piece-test.false)
