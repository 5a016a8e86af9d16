use Rattle.std.proofs.Common.{drop}
use Rattle.markdown_inline.specs.markdown_engine.PassesInOrder.{MayResolve}
use Rattle.markdown_inline.specs.markdown_run_text.ContentPasses.{may_resolve_of, resolves_of}
use Rattle.markdown_test_runs.proofs.passes.resolve_named.Given as goal

abbrev pub invariant-loop-name : goal.invariant-loop-name
invariant-loop-name l = MayResolve may_resolve_of resolves_of (drop l.name-index l.name-items) l.tokenizer
