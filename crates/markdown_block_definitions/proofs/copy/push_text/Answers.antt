use Rattle.std.proofs.Common.{take, ◌+◌, List, subst}
use Rattle.std.proofs.lemmas.List.{take_more, take_all}
use Rattle.markdown_content.specs.Content.{content_of}
use Rattle.markdown_content.specs.declared.parser.Piece.{Piece}
use Rattle.markdown_block_definitions.specs.TextCopies.{IsLonger}
use Rattle.markdown_block_definitions.proofs.TextPushes.{longer-none, longer-more}
use Rattle.markdown_block_definitions.proofs.copy.push_text.Goals as goal

pub loop-piece-init : goal.loop-piece-init
loop-piece-init c = record { longer = longer-none _ _ }

pub loop-piece-preserved : goal.loop-piece-preserved
loop-piece-preserved c = record {
  longer = longer-more _ _ _ _ _ _ c.args.bytes.now (take c.loop-piece.piece-index c.args.text.now) (take (c.loop-piece.piece-index + 1) c.args.text.now) _ c.loop-piece.invariant.longer c.in_ok-push_piece.ensures
      (take_more c.args.text.now c.loop-piece.piece-index _ c.loop-piece-test.true);
}

pub returns : goal.returns
returns c =
    subst (λ (ps : List Piece). IsLonger c.args.values.now.items c.args.firsts.now.items c.loop-piece.values.items c.loop-piece.firsts.items (content_of c.args.bytes.now ps)) (take_all c.loop-piece.piece-index c.args.text.now c.loop-piece-test.false)
    c.loop-piece.invariant.longer
