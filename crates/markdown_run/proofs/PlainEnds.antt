-- How a text ends that has registered no pass: its passes are called at once, whatever is known of the content.
use Rattle.std.proofs.Common.{◌≡◌, ◌∷◌, ◌==◌, ◌∙◌, [], suc, inl, inr, true, length, List, OnOk, Result, refl, sym, ap, subst, arith}
use Rattle.std.proofs.lemmas.Bool.{false≢true}
use Rattle.std.proofs.lemmas.Bool.Decides.{eqb_tells}
use Rattle.markdown_engine_events.specs.EventChains.{chained}
use Rattle.markdown_engine.specs.Operations.{registered, scratched}
use Rattle.markdown_engine.specs.PassesInOrder.{MayResolve, unregistered}
use Rattle.markdown_event.specs.declared.resolve.ResolveName.{ResolveName}
use Rattle.markdown_event.specs.declared.resolve.ResolveName.TheVariants as R
use Rattle.markdown_engine.specs.declared.tokenizer.Tokenizer.{Tokenizer}
use Rattle.markdown_run_text.specs.ContentPasses.{may_resolve_of, FinishesText, MayFinish, MergesData, resolves_of}
use Rattle.markdown_run_text.specs.TextContent.{text_passed}
use Rattle.markdown_run.specs.ElementsOfText.{forgotten}
use Rattle.markdown_run.specs.RunWithPasses.{IsFoundBehind, MayFinishPlain}
use Rattle.markdown_run.specs.declared.run.ListRun.{ListRun}

-- both hold of what a call leaves
pub both-hold : {A E : Type 0} (o : Result A E) (P Q S : Type 0) → (P → Q → S) → OnOk o P → OnOk o Q → OnOk o S
both-hold o P Q S f p q = grind arith

pub none-there : (names : List ResolveName) → (length names == 0) ≡ true → names ≡ []
none-there [] e = refl
none-there (n ∷ names) e =
    absurd (elim (eqb_tells (suc (length names)) 0) [ inl t ↦ omega arith | inr f ↦ false≢true (sym f.0 ∙ e) ])

-- The passes, whatever is known.

merges-forgotten : (T U : Tokenizer) → MergesData T U → MergesData (forgotten T) (forgotten U)
unfolding scratched
merges-forgotten T U m = record { same = ap forgotten m.same; merges = m.merges }

finishes-forgotten : (T U : Tokenizer) → FinishesText T U → FinishesText (forgotten T) (forgotten U)
unfolding scratched
finishes-forgotten T U f = record { same = ap forgotten f.same; trims = f.trims }

may-finish : (T : Tokenizer) → MayFinish (forgotten T) → MayFinish T
unfolding scratched
may-finish T m = record { map = m.map; fits = m.fits; tree = m.tree }

pub plain-merge : (T : Tokenizer) → MayFinishPlain T → T.map ≡ []
unfolding scratched
plain-merge T may = may.0

pub plain-may : (T U : Tokenizer) → MayFinishPlain T → MergesData T U → MayFinish U
plain-may T U may m = may-finish U (may.1 (forgotten U) (merges-forgotten T U m)).0

-- where none is registered
bare : Tokenizer → Tokenizer
bare T = record (forgotten T) { resolvers = [] }

forgotten-bare : (T : Tokenizer) → T.resolvers ≡ [] → forgotten T ≡ bare T
unfolding scratched bare
forgotten-bare T none = ap (λ (names : List ResolveName). record (forgotten T) { resolvers = names }) none

pub plain-passes : (T : Tokenizer) → T.resolvers ≡ [] →
    MayResolve may_resolve_of resolves_of (text_passed (forgotten T)).resolvers (unregistered (text_passed (forgotten T))) → MayFinishPlain T
unfolding registered unregistered bare
plain-passes T none may =
    subst (λ (x : Tokenizer). MayResolve may_resolve_of resolves_of (R.Data ∷ R.Text ∷ []) x) (sym (forgotten-bare T none)) (of-bare (subst (λ (x : Tokenizer). MayResolve may_resolve_of resolves_of (text_passed x).resolvers (unregistered (text_passed x))) (forgotten-bare T none) may))
  where
    of-bare : MayResolve may_resolve_of resolves_of (text_passed (bare T)).resolvers (unregistered (text_passed (bare T)))
        → MayResolve may_resolve_of resolves_of (R.Data ∷ R.Text ∷ []) (bare T)
    of-bare h = h

pub plain-found : (T U V : Tokenizer) (run : ListRun) → T.resolvers ≡ [] → MergesData T U → FinishesText U V →
    run.events ≡ chained V.events → run.probes ≡ V.tokenize_state.probes → IsFoundBehind (text_passed (forgotten T)) run
unfolding registered unregistered scratched bare
plain-found T U V run none merged finished events probes =
    subst (λ (x : Tokenizer). IsFoundBehind (text_passed x) run) (sym (forgotten-bare T none)) there
  where
    first : MergesData (bare T) (forgotten U)
    first = subst (λ (x : Tokenizer). MergesData x (forgotten U)) (forgotten-bare T none) (merges-forgotten T U merged)

    there : IsFoundBehind (text_passed (bare T)) run
    there = record {
      passed = forgotten V;
      resolves = (forgotten U, (first, (forgotten V, (finishes-forgotten U V finished, refl))));
      events = events;
      probes = probes;
    }
