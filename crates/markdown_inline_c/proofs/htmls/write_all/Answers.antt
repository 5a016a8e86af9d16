use Rattle.std.proofs.Common.{arith}
use Rattle.markdown_inline_c.specs.FlatHtmls.{tree_at}
use Rattle.markdown_inline_c.specs.HtmlsState.{page_of, setting}
use Rattle.markdown_inline_c.proofs.WrittenContents.{all_written, is_next, next_refused, next_without_memory, none_written, one_more}
use Rattle.markdown_inline_c.proofs.htmls.write_all.Goals as goal

pub loop-at-init : goal.loop-at-init
loop-at-init c =
    let g = c.args.given.now in
    let pieces = g.contents.pieces.now in
    none_written (page_of g) pieces (tree_at (setting g) pieces) c.args.limit c.args.contents.now c.args.html.now c.args.ends.now c.args.outcome.now _ _ c.requires.0 c.requires.1
    c.nothing-carried.ensures.calls c.nothing-carried.ensures.left

pub loop-at-preserved : goal.loop-at-preserved
loop-at-preserved c =
    let g = c.args.given.now in
    let pieces = g.contents.pieces.now in
    let tree = tree_at (setting g) pieces in
    let l = c.loop-at in
    let next = is_next (page_of g) tree c.args.contents.now l.at c.loop-at-test.true in
    one_more (page_of g) pieces tree c.args.limit c.args.contents.now c.in-Ok.written.items c.args.html.now l.html c.hand_out.new.array c.args.ends.now l.ends c.hand_out.new.ends l.outcome
    c.hand_out.new.self l.carried.calls c.html_of.new.self.calls l.carried.left c.html_of.new.self.left l.at _ c.loop-at-test.true l.invariant c.in-Ok.ensures.text c.in-Ok.ensures.html
    c.in-Ok.ensures.calls c.in-Ok.ensures.left (c.in_ok-hand_out-in-Ok.ensures.ok _ _ _ next l.invariant.handed_out)

pub returns-in-Err : goal.returns-in-Err
returns-in-Err c =
    let g = c.args.given.now in
    let pieces = g.contents.pieces.now in
    let l = c.loop-at in
    next_refused (page_of g) pieces (tree_at (setting g) pieces) c.args.limit c.args.contents.now c.args.html.now l.html c.args.ends.now l.ends l.outcome l.carried.calls l.carried.left l.at _
    c.in-Err.fault c.of.result c.loop-at-test.true l.invariant c.in-Err.ensures.err c.of.ensures

pub returns-in_err-hand_out-in-Ok : goal.returns-in_err-hand_out-in-Ok
returns-in_err-hand_out-in-Ok c =
    let g = c.args.given.now in
    let pieces = g.contents.pieces.now in
    let l = c.loop-at in
    next_without_memory (page_of g) pieces (tree_at (setting g) pieces) c.args.limit c.args.contents.now c.args.html.now l.html c.hand_out.new.array c.args.ends.now l.ends c.hand_out.new.ends
    l.outcome c.hand_out.new.self l.carried.calls l.carried.left l.at c.from_residual.result l.invariant c.in_err-hand_out-in-Ok.ensures.err c.from_residual.ensures.1

pub returns : goal.returns
returns c =
    let g = c.args.given.now in
    let pieces = g.contents.pieces.now in
    let l = c.loop-at in
    all_written (page_of g) pieces (tree_at (setting g) pieces) c.args.limit c.args.contents.now c.args.html.now l.html c.args.ends.now l.ends l.outcome l.carried.calls l.carried.left l.at
    (omega (arith, c.loop-at-test.false)) l.invariant
