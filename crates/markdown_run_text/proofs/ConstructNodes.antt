-- Constructs read nodes, and pass at least one code.
use Rattle.std.proofs.Common.{◌≡◌, ◌≢◌, ℕ, ◌+◌, ◌≤◌, ◌==◌, ◌∙◌, arith, Bool, true, false, List, [], ◌∷◌, length, None, Some, refl, sym, ap, subst}
use Rattle.std.specs.List.{list_any}
use Rattle.std.proofs.lemmas.Bool.{eqb-true, or_from}
use Rattle.markdown_content.specs.Codes.{Code, is_line_ending}
use Rattle.markdown_engine.specs.PastTree.{last_link}
use Rattle.markdown_content.specs.Tree.{Forest, empty, leaf_then, group_then, leaf}
use Rattle.markdown_event.specs.declared.event.Name.{Name}
use Rattle.markdown_event.specs.declared.event.Name.TheVariants as N
use Rattle.markdown_model.specs.SingleConstructs.{is_escape}
use Rattle.markdown_model.specs.CodeTests.{is_value}
use Rattle.markdown_model.specs.Elements.{attention_run, switched}
use Rattle.markdown_model.specs.LabelEnd.{Element, plain, starts, ends}
use Rattle.markdown_model.specs.Grammar.{Reading, some, span}
use Rattle.markdown_model.proofs.LeafRows.{Leaves}
use Rattle.markdown_model.proofs.NoLinkInConstructs.{PassesValue, Yields, yields_bind, yields_gives, yields_passed}
use Rattle.markdown_model.proofs.PlainConstructs.{is_own, is_leaf_name, is_group_name, leaf-own, group-own, IsOwnLeaf, IsPlainTree, ReadsPlain, plain-takes}
use Rattle.markdown_passes.specs.MergedEvents.{is_data}
use Rattle.markdown_passes.specs.TrimmedEvents.{is_ending}
use Rattle.markdown_attention.specs.RunsRead.{is_run}
use Rattle.markdown_run_text.specs.RowTreeNames.{IsNode, IsRunLeaf, HasNoDataOrRuns, IsSingle, HasRowLines}

-- Quiet trees.

pub quiet-lines-of : (t : Forest) → HasNoDataOrRuns t → HasRowLines t
quiet-lines-of empty h = tt
quiet-lines-of (leaf_then name link cs rest) h = grind (arith, quiet-lines-of rest)
quiet-lines-of (group_then name enter exit inside rest) h = grind (arith, quiet-lines-of inside, quiet-lines-of rest)

pub quiet-node-unlinked : (t : Forest) → IsSingle t → (n : ℕ) → last_link n None t ≡ None
quiet-node-unlinked empty h n = absurd h
quiet-node-unlinked (leaf_then name None cs rest) h n = ap (last_link (n + 2) None) h.1.1
quiet-node-unlinked (leaf_then name (Some c) cs rest) h n = grind arith
quiet-node-unlinked (group_then name enter exit inside rest) h n = ap (last_link _ None) h

-- What stands by itself.

own-quiet : (name : Name) → is_own name ≡ true → (is_data name ≡ false) × (is_run name ≡ false)
own-quiet N.Data e = cc
own-quiet N.AttentionSequence e = cc
own-quiet _ e = (refl, refl)

leaf-no-escape : (name : Name) → is_leaf_name name ≡ true → is_escape name ≡ false
leaf-no-escape name e = grind arith

group-no-ending : (name : Name) → is_group_name name ≡ true → is_ending name ≡ false
group-no-ending name e = grind arith

leaves-quiet : (bytes : List ℕ) (t : Forest) → Leaves (IsOwnLeaf bytes) t → HasNoDataOrRuns t
leaves-quiet bytes empty h = tt
leaves-quiet bytes (leaf_then name link cs rest) h = grind (arith, own-quiet, leaf-own, leaves-quiet bytes rest)
leaves-quiet bytes (group_then name enter exit inside rest) h = absurd h

quiet-none : (t : Forest) → t ≡ empty → HasNoDataOrRuns t
quiet-none t e = subst HasNoDataOrRuns (sym e) tt

pub plain-node : (bytes : List ℕ) (t : Forest) → IsPlainTree bytes t → IsNode t
plain-node bytes empty h = absurd h
plain-node bytes (leaf_then name link cs rest) h = grind (arith, own-quiet, leaf-own, leaf-no-escape, quiet-none)
plain-node bytes (group_then name enter exit inside rest) h = grind (arith, own-quiet, group-own, group-no-ending, leaves-quiet, quiet-none)

-- what is read by itself is one, and passes a code at least
pub node-of : (bytes : List ℕ) (a : Reading Forest) → ReadsPlain bytes a →
    (cs : List Code) (t : Forest) (rest : List Code) → a cs ≡ Some (t, rest) → IsNode t × (1 + length rest ≤ length cs)
node-of bytes a h cs t rest e = grind (arith, plain-node bytes t, plain-takes bytes a)

-- Runs of markers.

-- some codes, none of them a line ending
abbrev AreMarkers : List Code → Type 0
AreMarkers cs = (cs ≢ []) × (list_any is_line_ending cs ≡ false)

-- a marker that is no line ending
other-ending : (m : ℕ) (c : Code) → (m == 10) ≡ false → (c.value == m) ≡ true → is_line_ending c ≡ false
other-ending m c e h = ap (λ v. v == 10) (eqb-true c.value m h) ∙ e

span-lines : (m : ℕ) (cs : List Code) → (m == 10) ≡ false → list_any is_line_ending (span (is_value m) cs).0 ≡ false
span-lines m [] e = refl
span-lines m (c ∷ cs) e = grind (arith, or_from, other-ending, span-lines m cs)

some_yields : (m : ℕ) → (m == 10) ≡ false → Yields AreMarkers (some (is_value m))
unfolding some
some_yields m e = grind (arith, span-lines)

abbrev IsRunElement : Element → Type 0
IsRunElement (plain tree) = IsRunLeaf tree
IsRunElement (starts kind marker) = ⊥
IsRunElement (ends marker outcome) = ⊥

run-leaf : (cs : List Code) → AreMarkers cs → IsRunLeaf (leaf N.AttentionSequence cs)
run-leaf cs h = grind arith

attention_yields : (m : ℕ) → (m == 10) ≡ false → Yields IsRunElement (attention_run m)
unfolding attention_run
attention_yields m e =
    yields_bind AreMarkers _ _ _ (some_yields m e) λ markers h. yields_gives _ (plain (leaf N.AttentionSequence markers)) (run-leaf markers h)

switched_yields : (on : Bool) (m : ℕ) → (m == 10) ≡ false → Yields IsRunElement (switched on (attention_run m))
unfolding switched
switched_yields on m e = yields_passed _ _ _ (attention_yields m e)

pub run-node : (m : ℕ) (on : Bool) (cs : List Code) (t : Forest) (rest : List Code) → (m == 10) ≡ false →
    switched on (attention_run m) cs ≡ Some (plain t, rest) → IsRunLeaf t
run-node m on cs t rest e h = subst (λ o. PassesValue IsRunElement o) h ((switched_yields on m e).at cs)
