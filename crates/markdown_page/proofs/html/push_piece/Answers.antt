use Rattle.std.proofs.Common.{◌≡◌, ◌∙◌, ◌++◌, sym, ap, arith, List, ℕ}
use Rattle.markdown_content.specs.Codes.{Code, codes_of}
use Rattle.markdown_content.specs.Content.{piece_codes}
use Rattle.markdown_block_definitions.proofs.SpotReads.{spot-small}
use Rattle.markdown_block_definitions.proofs.TextPushes.{nothing-behind, nothing-left}
use Rattle.markdown_page.specs.GivenPage.{page_of, bytes_of}
use Rattle.markdown_page.specs.LinesByCode.{lines_from}
use Rattle.markdown_page.proofs.html.push_piece.Goals as goal

pub loop-spot-init : goal.loop-spot-init
loop-spot-init c =
    let same : c.parse_state.result.now.bytes.now ≡ bytes_of c.args.given.now = let e = c.parse_state.ensures in cc in
    record {
      stands = c.first_spot-spot.ensures.stands;
      started = c.first_spot-spot.ensures.started;
      text = λ cs. ap (λ (xs : List Code). c.args.out.now.items ++ lines_from (page_of c.args.given.now) c.args.given.now.options.raw_html c.args.line (xs ++ cs))
          (sym c.first_spot-spot.ensures.left ∙ ap (λ (bs : List ℕ). piece_codes (codes_of bs) c.args.piece) same);
    }

pub returns-then-not-is_before : goal.returns-then-not-is_before
returns-then-not-is_before c = λ cs.
    let bytes = c.parse_state.result.now.bytes.now in
    ap (λ (xs : List Code). c.loop-spot.out.items ++ lines_from (page_of c.args.given.now) c.args.given.now.options.raw_html c.loop-spot.line (xs ++ cs))
    (sym (nothing-behind bytes c.args.piece c.loop-spot.spot (sym c.is_before.ensures ∙ c.if-not-is_before.true)))
    ∙ c.loop-spot.invariant.text cs

pub loop-spot-smaller : goal.loop-spot-smaller
loop-spot-smaller c = omega (arith, c.in_ok-next.ensures.later, c.loop-spot-test.true, (spot-small _ c.loop-spot.spot c.loop-spot.invariant.stands).0)

pub loop-spot-preserved : goal.loop-spot-preserved
loop-spot-preserved c = record {
  stands = c.in_ok-next.ensures.stands;
  started = λ k. c.in_ok-next.ensures.started;
  text = λ cs. c.in_ok-next.ensures.text cs ∙ c.loop-spot.invariant.text cs;
}

pub returns : goal.returns
returns c = λ cs.
    let bytes = c.parse_state.result.now.bytes.now in
    ap (λ (xs : List Code). c.loop-spot.out.items ++ lines_from (page_of c.args.given.now) c.args.given.now.options.raw_html c.loop-spot.line (xs ++ cs))
    (sym (nothing-left bytes c.args.piece c.loop-spot.spot c.loop-spot.invariant.stands c.loop-spot-test.false))
    ∙ c.loop-spot.invariant.text cs
