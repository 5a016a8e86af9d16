use Rattle.std.proofs.Common.{◌≡◌, ℕ, ◌+◌, ◌++◌, ◌∷◌, [], ap, subst, sym, ◌∙◌, take, drop, length, List}
use Rattle.std.proofs.lemmas.List.{take_more, drop_more}
use Rattle.markdown_block_model.specs.BlockTree.{nothing}
use Rattle.markdown_blocks.specs.BlockRows.{rows_from, with_row}
use Rattle.markdown_blocks.specs.declared.block.Row.{Row}
use Rattle.markdown_blocks.specs.declared.block.Row.TheVariants.{LeafAt, ContainerAt}
use Rattle.markdown_blocks.proofs.ReaderTrees.{rows_from-push}
use Rattle.markdown_blocks.specs.NestedRows.{AreNested}
use Rattle.markdown_page.specs.ListWalks.{IsWalked}
use Rattle.markdown_page.proofs.lists.places_so_far.Goals as goal

nested-first : (n : ℕ) (r : Row) (rs : List Row) → AreNested n (r ∷ rs) → AreNested n (r ∷ [])
nested-first n (LeafAt d l) rs h = (h.0, tt)
nested-first n (ContainerAt d x) rs h = (h.0, tt)

pub put_row-requires : goal.put_row-requires
put_row-requires c =
    let rows = c.args.rows.now in
    let i = c.loop-row.row-index in
    let r = c.row-item.result in
    let split : drop i rows ≡ r ∷ drop (i + 1) rows = drop_more rows i r c.loop-row-test.true ∙ ap (λ v. v ∷ drop (i + 1) rows) (sym c.row-item.is) in
    record {
      walked = (_, c.loop-row.invariant.walked);
      nested = nested-first _ r (drop (i + 1) rows) (subst (λ v. AreNested (length c.loop-row.walk.path.items) v) split c.loop-row.invariant.nested);
    }

pub loop-row-preserved : goal.loop-row-preserved
loop-row-preserved c =
    let rows = c.args.rows.now in
    let i = c.loop-row.row-index in
    let r = c.row-item.result in
    let split : drop i rows ≡ r ∷ drop (i + 1) rows = drop_more rows i r c.loop-row-test.true ∙ ap (λ v. v ∷ drop (i + 1) rows) (sym c.row-item.is) in
    let tree : rows_from c.args.document.now nothing (take (i + 1) rows) ≡ with_row c.args.document.now r (rows_from c.args.document.now nothing (take i rows)) =
    ap (rows_from c.args.document.now nothing) (take_more rows i r c.loop-row-test.true ∙ ap (λ v. take i rows ++ v ∷ []) (sym c.row-item.is)) ∙ rows_from-push c.args.document.now (take i rows) r nothing in
    record {
      walked = subst (λ v. IsWalked v c.put_row.new.self) (sym tree) (c.in_ok-put_row.ensures.walked _ c.loop-row.invariant.walked);
      nested = c.in_ok-put_row.ensures.nested (drop (i + 1) rows) (subst (λ v. AreNested (length c.loop-row.walk.path.items) v) split c.loop-row.invariant.nested);
    }
