-- Past one tree and then another, and past a tree of which it is known whether a run of markers stands in it.
use Rattle.std.proofs.Common.{◌≡◌, Bool, true, false, ◌||◌, if◌then◌else◌, List, [], ◌∷◌, ◌++◌, length, None, refl, sym, ap, ◌∙◌, arith}
use Rattle.std.proofs.lemmas.Bool.{or_parts, or_right}
use Rattle.markdown_content.specs.Codes.{Code}
use Rattle.markdown_engine.specs.Operations.{ahead, is_registered, registered}
use Rattle.markdown_engine.specs.PastTree.{past, last_link}
use Rattle.markdown_content.specs.Tree.{Forest, empty, leaf_then, group_then, leaf, ◌⊕◌}
use Rattle.markdown_event.specs.declared.event.Name.{Name}
use Rattle.markdown_event.specs.declared.resolve.ResolveName.{ResolveName}
use Rattle.markdown_event.specs.declared.resolve.ResolveName.TheVariants as R
use Rattle.markdown_engine.specs.declared.tokenizer.Tokenizer.{Tokenizer}
use Rattle.markdown_engine.proofs.TreeEvents.{past-empty, past-past}
use Rattle.markdown_attention.specs.RunsRead.{is_run}
use Rattle.markdown_attention.specs.RunsOfTree.{has_run}
use Rattle.markdown_run_text.specs.RowTreeNames.{HasNoDataOrRuns, IsRunless, HasOuterRuns}
use Rattle.markdown_run_text.specs.Row.{passes_after, past_tree}

-- Whether a run stands in a row.

pub or-apart : (a b c : Bool) → (a || (b || c)) ≡ ((a || b) || c)
or-apart a b c = grind arith

pub has_run-row : (t u : Forest) → has_run (t ⊕ u) ≡ (has_run t || has_run u)
has_run-row empty u = refl
has_run-row (leaf_then name link cs rest) u = grind (arith, or-apart, has_run-row rest u)
has_run-row (group_then name a b inside rest) u = has_run-row rest u

pub quiet-runless : (t : Forest) → HasNoDataOrRuns t → IsRunless t
quiet-runless empty h = tt
quiet-runless (leaf_then name link cs rest) h = (h.1.0, quiet-runless rest h.1.1)
quiet-runless (group_then name enter exit inside rest) h = (quiet-runless inside h.1.0, quiet-runless rest h.1.1)

pub leaf-runless : (name : Name) (cs : List Code) → is_run name ≡ false → IsRunless (leaf name cs)
leaf-runless name cs e = grind arith

pub runless-no-run : (t : Forest) → IsRunless t → has_run t ≡ false
runless-no-run empty h = refl
runless-no-run (leaf_then name link cs rest) h = λ i. h.0 i || runless-no-run rest h.1 i
runless-no-run (group_then name a b inside rest) h = runless-no-run rest h.1

pub runless-outer : (t : Forest) → IsRunless t → HasOuterRuns t
runless-outer empty h = tt
runless-outer (leaf_then name link cs rest) h = runless-outer rest h.1
runless-outer (group_then name a b inside rest) h = (h.0, runless-outer rest h.1)

pub quiet-no-run : (t : Forest) → HasNoDataOrRuns t → has_run t ≡ false
quiet-no-run t h = runless-no-run t (quiet-runless t h)

pub quiet-outer : (t : Forest) → HasNoDataOrRuns t → HasOuterRuns t
quiet-outer t h = runless-outer t (quiet-runless t h)

pub outer-row : (t u : Forest) → HasOuterRuns t → HasOuterRuns u → HasOuterRuns (t ⊕ u)
outer-row empty u h k = k
outer-row (leaf_then name link cs rest) u h k = outer-row rest u h k
outer-row (group_then name a b inside rest) u h k = (h.0, outer-row rest u h.1 k)

-- a row whose groups have no run has none where none stands in it
pub outer-runless : (t : Forest) → HasOuterRuns t → has_run t ≡ false → IsRunless t
outer-runless empty h e = tt
outer-runless (leaf_then name link cs rest) h e = grind (arith, or_parts, outer-runless rest)
outer-runless (group_then name a b inside rest) h e = (h.0, outer-runless rest h.1 e)

-- The passes registered.

registered-last : (ns : List ResolveName) → is_registered R.Attention (ns ++ R.Attention ∷ []) ≡ true
registered-last [] = refl
registered-last (n ∷ ns) = grind (arith, or_right, registered-last ns)

once : (b : Bool) (ns : List ResolveName) → is_registered R.Attention ns ≡ b →
    is_registered R.Attention (if b then ns else ns ++ R.Attention ∷ []) ≡ true
once b ns e = grind (arith, registered-last)

stays : (ns : List ResolveName) → is_registered R.Attention ns ≡ true → passes_after true ns ≡ ns
stays ns e = ap (λ b. if b then ns else ns ++ R.Attention ∷ []) e

passes-both : (a b : Bool) (ns : List ResolveName) → passes_after b (passes_after a ns) ≡ passes_after (a || b) ns
passes-both a b ns = grind (arith, stays, once)

-- Past a tree.

-- one tree and then another
pub past-both : (t u : Forest) (T : Tokenizer) → last_link (length T.events) None t ≡ None →
    past_tree u (past_tree t T) ≡ past_tree (t ⊕ u) T
unfolding past past_tree
past-both t u T e = grind (arith, past-past, passes-both, has_run-row)

pub past_tree-without : (t : Forest) (T : Tokenizer) → has_run t ≡ false → past None t T ≡ past_tree t T
unfolding past past_tree
past_tree-without t T e = λ i. record (past None t T) { resolvers = passes_after (sym e i) T.resolvers }

pub past_tree-empty : (T : Tokenizer) → T ≡ past_tree empty T
past_tree-empty T = sym (past-empty None T) ∙ past_tree-without empty T refl

-- the pass of runs is registered past a run
registers : (b : Bool) (T : Tokenizer) (ns : List ResolveName) →
    (if b then T else record T { resolvers = T.resolvers ++ R.Attention ∷ [] }) ≡ record T { resolvers = if b then T.resolvers else T.resolvers ++ R.Attention ∷ [] }
registers b T ns = grind arith

pub past_tree-with : (t : Forest) (T : Tokenizer) → has_run t ≡ true →
    registered R.Attention (past None t T) ≡ past_tree t T
unfolding past past_tree registered
past_tree-with t T e = grind (arith, registers)

registered-ahead : (b : Bool) (T U : Tokenizer) → ahead U ≡ ahead T → ahead (if b then T else U) ≡ ahead T
registered-ahead b T U e = grind arith

pub ahead-registered : (n : ResolveName) (T : Tokenizer) → ahead (registered n T) ≡ ahead T
unfolding registered
ahead-registered n T = grind (arith, registered-ahead)
