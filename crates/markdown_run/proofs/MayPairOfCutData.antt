-- What the pass of runs asks of a tree does not look at how data is cut.
use Rattle.std.proofs.Common.{◌≡◌, ℕ, ◌||◌, Option, Some, None, List, [], ◌∷◌, refl, ap, ◌∙◌, arith}
use Rattle.markdown_content.specs.Codes.{Code}
use Rattle.markdown_content.specs.Tree.{Forest, empty, leaf_then, group_then}
use Rattle.markdown_event.specs.declared.event.Content.{Content}
use Rattle.markdown_event.specs.declared.event.Name.{Name}
use Rattle.markdown_event.specs.declared.event.Name.TheVariants as N
use Rattle.markdown_attention.specs.RunsRead.{is_run}
use Rattle.markdown_attention.specs.RunsOfTree.{has_run, HasRuns}
use Rattle.markdown_run_text.specs.CutData.{each_code, split}
use Rattle.markdown_attention.specs.AttentionTrees.{HasStripes}
use Rattle.markdown_attention.specs.TokenWord.{IsUnlinkedRow}
use Rattle.markdown_attention.proofs.AttentionTreeLabels.{EachRun, IsGood}

-- Whether a run stands in a row.

run-each : (cs : List Code) (t : Forest) → has_run (each_code cs t) ≡ has_run t
run-each [] t = refl
run-each (c ∷ cs) t = run-each cs t

run-leaf : (name : Name) (link : Option Content) (cs : List Code) (rest : Forest) →
    has_run (split rest) ≡ has_run rest →
    has_run (split (leaf_then name link cs rest)) ≡ has_run (leaf_then name link cs rest)
run-leaf N.Data None cs rest e = run-each cs (split rest) ∙ e
run-leaf N.Data (Some c) cs rest e = e
run-leaf name link cs rest e = ap (λ b. is_run name || b) e

pub has_run-split : (t : Forest) → has_run (split t) ≡ has_run t
has_run-split empty = refl
has_run-split (leaf_then name link cs rest) = run-leaf name link cs rest (has_run-split rest)
has_run-split (group_then name a b inside rest) = has_run-split rest

-- Rows without linked leaves.

unlinked-each : (cs : List Code) (t : Forest) → IsUnlinkedRow t → IsUnlinkedRow (each_code cs t)
unlinked-each [] t h = h
unlinked-each (c ∷ cs) t h = (refl, unlinked-each cs t h)

unlinked-rest : (cs : List Code) (t : Forest) → IsUnlinkedRow (each_code cs t) → IsUnlinkedRow t
unlinked-rest [] t h = h
unlinked-rest (c ∷ cs) t h = unlinked-rest cs t h.1

unlinked-leaf : (name : Name) (link : Option Content) (cs : List Code) (rest : Forest) → link ≡ None →
    IsUnlinkedRow (split rest) → IsUnlinkedRow (split (leaf_then name link cs rest))
unlinked-leaf N.Data None cs rest e h = unlinked-each cs (split rest) h
unlinked-leaf N.Data (Some c) cs rest e h = (e, h)
unlinked-leaf name link cs rest e h = (e, h)

unlinked-cut : (t : Forest) → IsUnlinkedRow t → IsUnlinkedRow (split t)
unlinked-cut empty h = tt
unlinked-cut (leaf_then name link cs rest) h = unlinked-leaf name link cs rest h.0 (unlinked-cut rest h.1)
unlinked-cut (group_then name a b inside rest) h = unlinked-cut rest h

unlinked-whole-leaf : (name : Name) (link : Option Content) (cs : List Code) (rest : Forest) →
    IsUnlinkedRow (split (leaf_then name link cs rest)) → (link ≡ None) × IsUnlinkedRow (split rest)
unlinked-whole-leaf N.Data None cs rest h = (refl, unlinked-rest cs (split rest) h)
unlinked-whole-leaf N.Data (Some c) cs rest h = h
unlinked-whole-leaf name link cs rest h = h

unlinked-whole : (t : Forest) → IsUnlinkedRow (split t) → IsUnlinkedRow t
unlinked-whole empty h = tt
unlinked-whole (leaf_then name link cs rest) h = grind (arith, unlinked-whole-leaf, unlinked-whole rest)
unlinked-whole (group_then name a b inside rest) h = unlinked-whole rest h

-- Runs as leaves over markers.

stripes-each : (cs : List Code) (t : Forest) → HasStripes t → HasStripes (each_code cs t)
stripes-each [] t h = h
stripes-each (c ∷ cs) t h = ((λ e. cc), stripes-each cs t h)

stripes-rest : (cs : List Code) (t : Forest) → HasStripes (each_code cs t) → HasStripes t
stripes-rest [] t h = h
stripes-rest (c ∷ cs) t h = stripes-rest cs t h.1

stripes-leaf : (name : Name) (link : Option Content) (cs : List Code) (rest : Forest) →
    HasStripes (leaf_then name link cs rest) → HasStripes (split rest) →
    HasStripes (split (leaf_then name link cs rest))
stripes-leaf N.Data None cs rest h k = stripes-each cs (split rest) k
stripes-leaf N.Data (Some c) cs rest h k = (h.0, k)
stripes-leaf name link cs rest h k = (h.0, k)

stripes-cut : (t : Forest) → HasStripes t → HasStripes (split t)
stripes-cut empty h = tt
stripes-cut (leaf_then name link cs rest) h = stripes-leaf name link cs rest h (stripes-cut rest h.1)
stripes-cut (group_then name a b inside rest) h = grind (arith, unlinked-cut, has_run-split, stripes-cut inside, stripes-cut rest)

stripes-whole-leaf : (name : Name) (link : Option Content) (cs : List Code) (rest : Forest) →
    HasStripes (split (leaf_then name link cs rest)) → (HasStripes (split rest) → HasStripes rest) →
    HasStripes (leaf_then name link cs rest)
stripes-whole-leaf N.Data None cs rest h k = ((λ e. cc), k (stripes-rest cs (split rest) h))
stripes-whole-leaf N.Data (Some c) cs rest h k = (h.0, k h.1)
stripes-whole-leaf name link cs rest h k = (h.0, k h.1)

stripes-whole : (t : Forest) → HasStripes (split t) → HasStripes t
stripes-whole empty h = tt
stripes-whole (leaf_then name link cs rest) h = stripes-whole-leaf name link cs rest h (stripes-whole rest)
stripes-whole (group_then name a b inside rest) h = grind (arith, unlinked-whole, has_run-split, stripes-whole inside, stripes-whole rest)

module _ (bytes : List ℕ) where
  -- Runs of the document, in the row or in the text of a label.

  runs-each : (cs : List Code) (t : Forest) → HasRuns bytes t → HasRuns bytes (each_code cs t)
  runs-each [] t h = h
  runs-each (c ∷ cs) t h = ((refl, λ e. cc), runs-each cs t h)

  runs-rest : (cs : List Code) (t : Forest) → HasRuns bytes (each_code cs t) → HasRuns bytes t
  runs-rest [] t h = h
  runs-rest (c ∷ cs) t h = runs-rest cs t h.1

  runs-leaf : (name : Name) (link : Option Content) (cs : List Code) (rest : Forest) →
      HasRuns bytes (leaf_then name link cs rest) → HasRuns bytes (split rest) →
      HasRuns bytes (split (leaf_then name link cs rest))
  runs-leaf N.Data None cs rest h k = runs-each cs (split rest) k
  runs-leaf N.Data (Some c) cs rest h k = (h.0, k)
  runs-leaf name link cs rest h k = (h.0, k)

  runs-cut : (t : Forest) → HasRuns bytes t → HasRuns bytes (split t)
  runs-cut empty h = tt
  runs-cut (leaf_then name link cs rest) h = runs-leaf name link cs rest h (runs-cut rest h.1)
  runs-cut (group_then name a b inside rest) h = grind (arith, has_run-split, runs-cut inside, runs-cut rest)

  runs-whole-leaf : (name : Name) (link : Option Content) (cs : List Code) (rest : Forest) →
      HasRuns bytes (split (leaf_then name link cs rest)) → (HasRuns bytes (split rest) → HasRuns bytes rest) →
      HasRuns bytes (leaf_then name link cs rest)
  runs-whole-leaf N.Data None cs rest h k = ((refl, λ e. cc), k (runs-rest cs (split rest) h))
  runs-whole-leaf N.Data (Some c) cs rest h k = (h.0, k h.1)
  runs-whole-leaf name link cs rest h k = (h.0, k h.1)

  runs-whole : (t : Forest) → HasRuns bytes (split t) → HasRuns bytes t
  runs-whole empty h = tt
  runs-whole (leaf_then name link cs rest) h = runs-whole-leaf name link cs rest h (runs-whole rest)
  runs-whole (group_then name a b inside rest) h = grind (arith, has_run-split, runs-whole inside, runs-whole rest)

-- What is said of each run.

module _ (P : List Code → Type 0) where
  each-each : (cs : List Code) (t : Forest) → EachRun P t → EachRun P (each_code cs t)
  each-each [] t h = h
  each-each (c ∷ cs) t h = ((λ e. cc), each-each cs t h)

  each-rest : (cs : List Code) (t : Forest) → EachRun P (each_code cs t) → EachRun P t
  each-rest [] t h = h
  each-rest (c ∷ cs) t h = each-rest cs t h.1

  each-leaf : (name : Name) (link : Option Content) (cs : List Code) (rest : Forest) →
      EachRun P (leaf_then name link cs rest) → EachRun P (split rest) → EachRun P (split (leaf_then name link cs rest))
  each-leaf N.Data None cs rest h k = each-each cs (split rest) k
  each-leaf N.Data (Some c) cs rest h k = (h.0, k)
  each-leaf name link cs rest h k = (h.0, k)

  each-cut : (t : Forest) → EachRun P t → EachRun P (split t)
  each-cut empty h = tt
  each-cut (leaf_then name link cs rest) h = each-leaf name link cs rest h (each-cut rest h.1)
  each-cut (group_then name a b inside rest) h = (each-cut inside h.0, each-cut rest h.1)

  each-whole-leaf : (name : Name) (link : Option Content) (cs : List Code) (rest : Forest) →
      EachRun P (split (leaf_then name link cs rest)) → (EachRun P (split rest) → EachRun P rest) →
      EachRun P (leaf_then name link cs rest)
  each-whole-leaf N.Data None cs rest h k = ((λ e. cc), k (each-rest cs (split rest) h))
  each-whole-leaf N.Data (Some c) cs rest h k = (h.0, k h.1)
  each-whole-leaf name link cs rest h k = (h.0, k h.1)

  each-whole : (t : Forest) → EachRun P (split t) → EachRun P t
  each-whole empty h = tt
  each-whole (leaf_then name link cs rest) h = each-whole-leaf name link cs rest h (each-whole rest)
  each-whole (group_then name a b inside rest) h = (each-whole inside h.0, each-whole rest h.1)

-- a tree that is another but for how data is cut
pub good-alike : (bytes : List ℕ) (t u : Forest) → split t ≡ split u → IsGood bytes u → IsGood bytes t
good-alike bytes t u e h = grind (arith, runs-whole, runs-cut, stripes-whole, stripes-cut, unlinked-whole, unlinked-cut, each-whole, each-cut)
