use Rattle.std.proofs.Common.{◌≡◌, ◌∙◌, ◌∷◌, ◌++◌, [], List, length, map, ap, sym, subst, append_assoc, append-nil, arith}
use Rattle.std.specs.Prelude.{All, flat_map}
use Rattle.std.specs.Vec.Iter.{into_iter_items}
use Rattle.markdown_blocks.specs.TextRows.{IsPlacedRow}
use Rattle.markdown_blocks.specs.declared.block.Row.{Row}
use Rattle.markdown_block_definitions.specs.DefinitionTexts.{Texts, texts_of, texts_in}
use Rattle.markdown_block_definitions.specs.ResolvedRows.{definitions_of_row, AreResolved}
use Rattle.markdown_block_definitions.proofs.ResolvedRowLemmas.{resolved-more, found-more, all-middle, nothing-left}
use Rattle.markdown_block_definitions.proofs.resolved.resolve_rows.Goals as goal

pub loop-row-init : goal.loop-row-init
loop-row-init c =
    let all = c.into_iter-row-iterator.ensures.into_iter_gives in
    record {
      left = all.0;
      few = all.1 ∙ c.args.rows.ok.0 ∙ ap length (sym all.0);
      rows = rw c.new-resolved.ensures.items tt;
      found = sym (append-nil (map texts_of c.args.definitions.now.items));
    }

pub resolve_row-requires-clause-placed : goal.resolve_row-requires-clause-placed
resolve_row-requires-clause-placed c =
    let at = c.loop-row in
    let whole = rw c.in-Some.ensures.steps.0 at at.invariant.left in
    all-middle (IsPlacedRow c.args.document.now) at.yielded _ c.in-Some.row (subst (λ xs. All (IsPlacedRow c.args.document.now) xs) (sym whole) c.requires.placed)

pub loop-row-preserved : goal.loop-row-preserved
loop-row-preserved c =
    let at = c.loop-row in
    let x = c.in-Some.row in
    let steps : into_iter_items at.row-iterator ≡ x ∷ into_iter_items c.next.new.self = c.in-Some.ensures.steps.0 in
    record {
      left = append_assoc at.yielded (x ∷ []) _ ∙ rw (← steps) at.invariant.left;
      few = let was = at.invariant.few in let gone = c.in-Some.ensures.steps.1 in let short = ap length steps in omega arith;
      rows = rw c.in_ok-push.ensures.items (resolved-more c.args.document.now at.yielded at.resolved.items x _ at.invariant.rows c.in_ok-row.ensures.row);
      found = c.in_ok-row.ensures.found ∙ ap (λ (ts : List Texts). ts ++ map texts_in (definitions_of_row c.args.document.now x)) at.invariant.found ∙ found-more c.args.document.now (map texts_of c.args.definitions.now.items) at.yielded x;
    }

pub returns-clause-rows : goal.returns-clause-rows
returns-clause-rows c =
    let at = c.loop-row in
    let none : into_iter_items at.row-iterator ≡ [] = nothing-left (into_iter_items at.row-iterator) (sym at.invariant.few ∙ c.in-None.ensures.steps.0) in
    let all = sym (append-nil at.yielded) ∙ rw none at at.invariant.left in
    subst (λ xs. AreResolved c.args.document.now xs at.resolved.items) all at.invariant.rows

pub returns-clause-found : goal.returns-clause-found
returns-clause-found c =
    let at = c.loop-row in
    let none : into_iter_items at.row-iterator ≡ [] = nothing-left (into_iter_items at.row-iterator) (sym at.invariant.few ∙ c.in-None.ensures.steps.0) in
    let all = sym (append-nil at.yielded) ∙ rw none at at.invariant.left in
    at.invariant.found ∙ ap (λ (xs : List Row). map texts_of c.args.definitions.now.items ++ map texts_in (flat_map (definitions_of_row c.args.document.now) xs)) all
