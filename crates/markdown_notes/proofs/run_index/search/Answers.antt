-- A search by halving ends at the entry, or at the gap for it.
use Rattle.std.proofs.Common.{rules}
use Rattle.std.proofs.lemmas.List.Sorted.{answers_always}
use Rattle.markdown_notes.proofs.RunIndexOrder.{searched}
use Rattle.markdown_notes.proofs.run_index.search.Goals as goal

pub returns-clause-found : goal.returns-clause-found
returns-clause-found c =
    (searched c.args.last.now c.args.run c.binary_search_by_key.result c.requires c.binary_search_by_key.ensures.bound (c.binary_search_by_key.ensures.position (λ e. e.0) (answers_always _ _ _ (λ f a r g called. search rules)))).0

pub returns-clause-absent : goal.returns-clause-absent
returns-clause-absent c =
    (searched c.args.last.now c.args.run c.binary_search_by_key.result c.requires c.binary_search_by_key.ensures.bound (c.binary_search_by_key.ensures.position (λ e. e.0) (answers_always _ _ _ (λ f a r g called. search rules)))).1
