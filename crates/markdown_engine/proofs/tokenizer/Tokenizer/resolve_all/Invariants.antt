use Rattle.std.proofs.Common.{drop}
use Rattle.markdown_engine.specs.PassesInOrder.{MayResolve, Resolves, unregistered}
use Rattle.markdown_engine.specs.declared.tokenizer.Tokenizer.{Tokenizer}
use Rattle.markdown_engine.proofs.tokenizer.Tokenizer.resolve_all.Given as goal

abbrev pub invariant-loop-name : goal.invariant-loop-name
invariant-loop-name g l = record {
  may : MayResolve g.L.Layer.may_resolve g.L.Layer.resolves (drop l.name-index l.name-items) l.self;
  leads : (U : Tokenizer) → Resolves g.L.Layer.resolves (drop l.name-index l.name-items) l.self U →
      Resolves g.L.Layer.resolves l.fn.self.resolvers (unregistered l.fn.self) U;
}
