use Rattle.std.proofs.Common.{◌∙◌, ◌++◌, sym, ap, arith}
use Rattle.markdown_block_definitions.proofs.SpotReads.{spot-small}
use Rattle.markdown_block_definitions.proofs.TextPushes.{nothing-behind, nothing-left, still-behind}
use Rattle.markdown_page_model.specs.PageTexts.{text_of}
use Rattle.markdown_page.proofs.LineTexts.{code-written, text-over}
use Rattle.markdown_page.proofs.lines.push_piece_text.Goals as goal

pub loop-spot-init : goal.loop-spot-init
loop-spot-init c = record {
  stands = c.first_spot-spot.ensures.stands;
  started = c.first_spot-spot.ensures.started;
  text = ap (λ cs. c.args.out.now.items ++ text_of cs) (sym c.first_spot-spot.ensures.left);
}

pub returns-then-not-is_before : goal.returns-then-not-is_before
returns-then-not-is_before c = text-over c.loop-spot.leading _ _ _ (nothing-behind c.args.bytes.now c.args.piece c.loop-spot.spot (sym c.is_before.ensures ∙ c.if-not-is_before.true)) c.loop-spot.invariant.text

pub loop-spot-smaller : goal.loop-spot-smaller
loop-spot-smaller c = omega (arith, c.read-value.ensures.later, c.loop-spot-test.true, (spot-small c.args.bytes.now c.loop-spot.spot c.loop-spot.invariant.stands).0)

pub loop-spot-preserved : goal.loop-spot-preserved
loop-spot-preserved c =
    let l = c.loop-spot in
    let r = c.read-value.ensures in
    let on = l.invariant.started c.loop-spot-test.true in
    record {
      stands = r.stands;
      started = λ k. still-behind c.args.bytes.now c.args.piece l.spot c.read-value.result.1 c.read-value.result.0 r c.args.piece.start on;
      text = code-written c.args.bytes.now c.args.piece l.spot c.read-value.result.1 c.read-value.result.0 r on (sym c.is_before.ensures ∙ c.if-not-is_before.false) l.leading c.is_leading-leading.result _ _ c.is_leading-leading.ensures c.in_ok-push_code.ensures
          ∙ l.invariant.text;
    }

pub returns : goal.returns
returns c = text-over c.loop-spot.leading _ _ _ (nothing-left c.args.bytes.now c.args.piece c.loop-spot.spot c.loop-spot.invariant.stands c.loop-spot-test.false) c.loop-spot.invariant.text
