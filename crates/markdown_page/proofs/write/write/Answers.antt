use Rattle.std.proofs.Common.{◌∙◌, arith, false, get_or, refl}
use Rattle.markdown_block_model.specs.BlockTree as model
use Rattle.markdown_blocks.specs.BlockRows.{rows_from}
use Rattle.markdown_page.specs.DocumentBrought.{tree_brought}
use Rattle.markdown_page.specs.BroughtSoFar.{IsStop}
use Rattle.markdown_page.specs.GivenPage.{page_of, bytes_of, setting_of}
use Rattle.markdown_page.specs.ListPlaces.{no_place}
use Rattle.markdown_page.specs.PlacedTree.{nothing}
use Rattle.markdown_page.proofs.BroughtRows.{spent_nothing}
use Rattle.markdown_page.proofs.PlacedRows.{count-places, rows-html}
use Rattle.markdown_page.proofs.WriterSteps.{here, item-here, row-within, reached-more, reached-stop, all-within, all-written, stopped-by}
use Rattle.markdown_page.proofs.write.write.Goals as goal

pub loop-index-init : goal.loop-index-init
loop-index-init c =
    let opened = c.new-2.ensures.items in
    record {
      tree = nothing;
      written = record { containers = rw opened refl; html = rw opened c.new.ensures.items; line = rw opened refl; first = rw opened refl; spent = spent_nothing c.args.limit };
      rest = refl;
      nested = rw opened c.requires.nested;
    }

pub bounds-places-index : goal.bounds-places-index
bounds-places-index c = omega (arith, c.loop-index-test.true, count-places (bytes_of c.args.given.now) c.args.rows.now c.args.places.now c.requires.nested c.requires.places)

pub row-requires-clause-within : goal.row-requires-clause-within
row-requires-clause-within c =
    row-within (setting_of c.args.given.now) (page_of c.args.given.now) c.args.limit (bytes_of c.args.given.now) c.args.rows.now c.args.places.now c.loop-index.writer c.loop-index.index c.loop-index.invariant c.index-rows-index.result no_place
    (item-here c.args.rows.now c.loop-index.index c.index-rows-index.result c.loop-index-test.true c.index-rows-index.is)

pub loop-index-preserved : goal.loop-index-preserved
loop-index-preserved c =
    let lt = c.loop-index-test.true in
    let many = count-places (bytes_of c.args.given.now) c.args.rows.now c.args.places.now c.requires.nested c.requires.places in
    reached-more (setting_of c.args.given.now) (page_of c.args.given.now) c.args.limit (bytes_of c.args.given.now) c.args.rows.now c.args.places.now c.loop-index.writer c.loop-index.index c.loop-index.invariant c.index-rows-index.result
    (get_or c.args.places.now c.loop-index.index no_place)
    (item-here c.args.rows.now c.loop-index.index c.index-rows-index.result lt c.index-rows-index.is)
    c.row.new.self (here c.args.places.now c.loop-index.index no_place (omega (arith, lt, many))) c.in_ok-row.ensures.written c.in_ok-row.ensures.depth

pub returns-in_err-row-clause-stop : goal.returns-in_err-row-clause-stop
returns-in_err-row-clause-stop c =
    let g = c.args.given.now in
    let lt = c.loop-index-test.true in
    let many = count-places (bytes_of g) c.args.rows.now c.args.places.now c.requires.nested c.requires.places in
    let reached = c.loop-index.invariant in
    let at = get_or c.args.places.now c.loop-index.index no_place in
    stopped-by c.from_residual.result c.in_err-row.field-0.0 (IsStop c.args.limit (tree_brought (setting_of g) (page_of g) false (rows_from (bytes_of g) model.nothing c.args.rows.now))) c.from_residual.ensures.1
    (reached-stop (setting_of g) (page_of g) c.args.limit (bytes_of g) c.args.rows.now c.args.places.now c.loop-index.writer c.loop-index.index reached c.index-rows-index.result at
    (item-here c.args.rows.now c.loop-index.index c.index-rows-index.result lt c.index-rows-index.is)
    (here c.args.places.now c.loop-index.index no_place (omega (arith, lt, many))) c.in_err-row.field-0.0 (c.in_err-row.ensures.stop c.args.limit reached.tree reached.written))

pub returns-clause-html : goal.returns-clause-html
returns-clause-html c =
    all-written (setting_of c.args.given.now) (page_of c.args.given.now) c.args.limit (bytes_of c.args.given.now) c.args.rows.now c.args.places.now c.loop-index.writer c.close_to.new.self c.loop-index.index c.loop-index.invariant c.loop-index-test.false
    c.in_ok-close_to.ensures.written c.in_ok-close_to.ensures.depth
    ∙ rows-html (setting_of c.args.given.now) (page_of c.args.given.now) (bytes_of c.args.given.now) c.args.rows.now c.args.places.now c.requires.nested c.requires.places

pub returns-clause-within : goal.returns-clause-within
returns-clause-within c =
    all-within (setting_of c.args.given.now) (page_of c.args.given.now) c.args.limit (bytes_of c.args.given.now) c.args.rows.now c.args.places.now c.loop-index.writer c.loop-index.index c.loop-index.invariant c.loop-index-test.false
