use Rattle.std.proofs.Common.{◌≡◌, ◌∙◌, ap, List, None}
use Rattle.std.specs.Prelude.{All}
use Rattle.markdown_block_definitions.specs.ResolvedRows.{IsTextRow, IsLineRow}
use Rattle.markdown_block_definitions.proofs.RowPieceLemmas.{pieces-of-rows}
use Rattle.markdown_block_model.specs.BlockTree.{Extensions, nothing}
use Rattle.markdown_block_model.specs.BlockLines.{begins_of}
use Rattle.markdown_block_model.specs.LinkDefinitions.{document_tree, has_text}
use Rattle.markdown_blocks.specs.BlockRows.{rows_from}
use Rattle.markdown_blocks.specs.NestedRows.{AreNested}
use Rattle.markdown_inline_c.specs.FlatExtensions.{extensions_in}
use Rattle.markdown_inline_c.specs.FlatBlocks.{flat_blocks}
use Rattle.markdown_page.specs.ListPlaces.{places_in}
use Rattle.markdown_page.specs.declared.lists.Place.{Place}
use Rattle.markdown_page.proofs.PlacedRows.{count-places}
use Rattle.markdown_inline_c.proofs.blocks.found_blocks.Goals as goal

pub flat_rows-requires : goal.flat_rows-requires
flat_rows-requires c =
    let nested : AreNested 0 c.as_slice-rows.result.now = rw c.as_slice-rows.ensures.value c.in_ok-found.ensures.nested in
    record {
      places = rw c.as_slice.ensures.value (count-places c.args.bytes.now c.as_slice-rows.result.now c.in_ok-places.places.items nested c.in_ok-places.ensures);
      lines = rw (c.as_slice-lines.ensures.value, c.as_slice-rows.ensures.value) c.in_ok-found.ensures.lined;
    }

pub returns-clause-blocks : goal.returns-clause-blocks
returns-clause-blocks c =
    let bytes = c.args.bytes.now in
    let rows = c.as_slice-rows.result.now in
    let same : rows ≡ c.in_ok-found.found.blocks.rows.items = c.as_slice-rows.ensures.value in
    let texts : All (IsTextRow bytes) rows = rw same (c.in_ok-found.ensures.texts c.in_default.ensures.ok.0) in
    let lines : All (IsLineRow bytes) rows = rw same c.in_ok-found.ensures.lines in
    let asked = c.in_ok-extensions.ensures.ok in
    let tree = ap (rows_from bytes nothing) same ∙ c.in_ok-found.ensures.tree ∙ ap (λ (x : Extensions). document_tree x bytes) asked in
    record {
      rows = rows;
      tree = tree;
      nested = rw same c.in_ok-found.ensures.nested;
      texts = texts;
      lines = lines;
      stand = pieces-of-rows bytes rows texts lines;
      blocks_are =
          c.in_ok-blocks.ensures.blocks
          ∙ ap (λ (ps : List Place). flat_blocks 0 rows ps c.as_slice-lines.result.now) (c.as_slice.ensures.value ∙ c.in_ok-places.ensures ∙ ap (places_in None) tree)
          ∙ ap (flat_blocks 0 rows (places_in None (document_tree (extensions_in c.args.bits) bytes))) (c.as_slice-lines.ensures.value ∙ c.in_ok-found.ensures.begins ∙ ap (λ (x : Extensions). begins_of x has_text bytes) asked);
      pieces_are = c.in_ok-blocks.ensures.pieces;
    }
