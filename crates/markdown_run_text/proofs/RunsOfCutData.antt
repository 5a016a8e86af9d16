-- The runs of a tree's containers are those of the tree whose data is cut.
use Rattle.std.proofs.Common.{◌≡◌, Option, Some, None, List, [], ◌∷◌, ◌++◌, refl, sym, ap, ◌∙◌, arith}
use Rattle.markdown_content.specs.Codes.{Code}
use Rattle.markdown_content.specs.Tree.{Forest, empty, leaf_then, group_then, leaf_codes}
use Rattle.markdown_event.specs.declared.event.Content.{Content}
use Rattle.markdown_event.specs.declared.event.Name.{Name}
use Rattle.markdown_event.specs.declared.event.Name.TheVariants as N
use Rattle.markdown_model.specs.Runs.{rows_inside, rows_of, containers_of}
use Rattle.markdown_model.specs.Setting.{Setting, within}
use Rattle.markdown_run_text.specs.CutData.{each_code, split}
use Rattle.markdown_run_text.proofs.PairsOfCutData.{runs-split}

each-rows : (s : Setting) (cs : List Code) (t : Forest) → rows_inside s (each_code cs t) ≡ rows_inside s t
unfolding rows_inside
each-rows s [] t = refl
each-rows s (c ∷ cs) t = each-rows s cs t

leaf-rows : (s : Setting) (name : Name) (link : Option Content) (cs : List Code) (rest : Forest) →
    rows_inside s (split rest) ≡ rows_inside s rest →
    rows_inside s (split (leaf_then name link cs rest)) ≡ rows_inside s rest
unfolding rows_inside
leaf-rows s N.Data None cs rest h = each-rows s cs (split rest) ∙ h
leaf-rows s N.Data (Some c) cs rest h = h
leaf-rows s _ link cs rest h = h

rows-split : (s : Setting) (t : Forest) → rows_inside s (split t) ≡ rows_inside s t
unfolding rows_inside
rows-split s empty = refl
rows-split s (leaf_then name link cs rest) = leaf-rows s name link cs rest (rows-split s rest)
rows-split s (group_then name a b inside rest) = grind (arith, runs-split, rows-split s inside, rows-split s rest)

containers-split : (s : Setting) (t : Forest) → rows_of s (split t) ≡ rows_of s t
unfolding rows_of
containers-split s t = λ i. runs-split s t i ∷ rows-split s t i

-- the codes of a tree do not show how its data is cut
each-codes : (cs : List Code) (t : Forest) → leaf_codes (each_code cs t) ≡ cs ++ leaf_codes t
each-codes [] t = refl
each-codes (c ∷ cs) t = ap (λ xs. c ∷ xs) (each-codes cs t)

leaf-codes : (name : Name) (link : Option Content) (cs : List Code) (rest : Forest) → leaf_codes (split rest) ≡ leaf_codes rest →
    leaf_codes (split (leaf_then name link cs rest)) ≡ cs ++ leaf_codes rest
leaf-codes N.Data None cs rest h = each-codes cs (split rest) ∙ ap (λ xs. cs ++ xs) h
leaf-codes N.Data (Some c) cs rest h = ap (λ xs. cs ++ xs) h
leaf-codes _ link cs rest h = ap (λ xs. cs ++ xs) h

codes-split : (t : Forest) → leaf_codes (split t) ≡ leaf_codes t
codes-split empty = refl
codes-split (leaf_then name link cs rest) = leaf-codes name link cs rest (codes-split rest)
codes-split (group_then name a b inside rest) = λ i. codes-split inside i ++ codes-split rest i

pub codes-same : (t u : Forest) → split t ≡ split u → leaf_codes t ≡ leaf_codes u
codes-same t u e = sym (codes-split t) ∙ ap leaf_codes e ∙ codes-split u

pub containers-same : (s : Setting) (t u : Forest) → split t ≡ split u → containers_of s t ≡ containers_of s u
containers-same s t u e = grind (arith, codes-same t u, containers-split (within (leaf_codes u) s) t, containers-split (within (leaf_codes u) s) u)
