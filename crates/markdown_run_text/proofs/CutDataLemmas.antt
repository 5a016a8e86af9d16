-- Cutting data into its codes goes through rows, and merging undoes it.
use Rattle.std.proofs.Common.{◌≡◌, ◌≢◌, Bool, true, Option, Some, None, List, [], ◌∷◌, refl, sym, ap, ◌∙◌, arith}
use Rattle.markdown_passes.proofs.MergePassLaw.{data-name, merged-data, merged-linked, merged-other, merged-group}
use Rattle.markdown_content.specs.Codes.{Code}
use Rattle.markdown_content.specs.Tree.{Forest, empty, leaf_then, group_then, ◌⊕◌}
use Rattle.markdown_event.specs.declared.event.Content.{Content}
use Rattle.markdown_event.specs.declared.event.Name.{Name}
use Rattle.markdown_event.specs.declared.event.Name.TheVariants as N
use Rattle.markdown_model.specs.Passes.{merged, data_onto}
use Rattle.markdown_passes.specs.MergedEvents.{is_data}
use Rattle.markdown_run_text.specs.CutData.{each_code, cut_leaf, split, HasCodes}

-- Rows.

pub row-assoc : (t u v : Forest) → (t ⊕ u) ⊕ v ≡ t ⊕ (u ⊕ v)
row-assoc empty u v = refl
row-assoc (leaf_then n l cs rest) u v = ap (leaf_then n l cs) (row-assoc rest u v)
row-assoc (group_then n a b inside rest) u v = ap (group_then n a b inside) (row-assoc rest u v)

each-join : (cs : List Code) (t u : Forest) → each_code cs (t ⊕ u) ≡ each_code cs t ⊕ u
each-join [] t u = refl
each-join (c ∷ cs) t u = ap (leaf_then N.Data None (c ∷ [])) (each-join cs t u)

leaf-join : (b : Bool) (name : Name) (link : Option Content) (cs : List Code) (t u : Forest) →
    cut_leaf b name link cs (t ⊕ u) ≡ cut_leaf b name link cs t ⊕ u
leaf-join b name link cs t u = grind (arith, each-join)

pub split-join : (t u : Forest) → split (t ⊕ u) ≡ split t ⊕ split u
split-join empty u = refl
split-join (leaf_then name link cs rest) u = grind (arith, leaf-join, split-join rest u)
split-join (group_then name a b inside rest) u = ap (group_then name a b (split inside)) (split-join rest u)

-- Merging.

onto-leaf : (c : Code) (cs : List Code) (b : Bool) (name : Name) (ds : List Code) (rest : Forest) → is_data name ≡ b →
    data_onto (c ∷ []) (data_onto cs (leaf_then name None ds rest)) ≡ data_onto (c ∷ cs) (leaf_then name None ds rest)
onto-leaf c cs b N.Data ds rest e = refl
onto-leaf c cs b _ ds rest e = refl

onto-linked : (c : Code) (cs : List Code) (name : Name) (l : Content) (ds : List Code) (rest : Forest) →
    data_onto (c ∷ []) (data_onto cs (leaf_then name (Some l) ds rest)) ≡ data_onto (c ∷ cs) (leaf_then name (Some l) ds rest)
onto-linked c cs N.Data l ds rest = refl
onto-linked c cs _ l ds rest = refl

onto-onto : (c : Code) (cs : List Code) (t : Forest) → data_onto (c ∷ []) (data_onto cs t) ≡ data_onto (c ∷ cs) t
onto-onto c cs empty = refl
onto-onto c cs (leaf_then name None ds rest) = onto-leaf c cs (is_data name) name ds rest refl
onto-onto c cs (leaf_then name (Some l) ds rest) = onto-linked c cs name l ds rest
onto-onto c cs (group_then name a b inside rest) = refl

merged-each : (c : Code) (cs : List Code) (rest : Forest) →
    merged (each_code (c ∷ cs) rest) ≡ data_onto (c ∷ cs) (merged rest)
merged-each c [] rest = merged-data (c ∷ []) rest
merged-each c (d ∷ ds) rest = grind (arith, merged-data, onto-onto, merged-each d ds rest)

merged-some : (cs : List Code) (rest : Forest) → cs ≢ [] → merged (each_code cs rest) ≡ data_onto cs (merged rest)
merged-some [] rest h = absurd (h refl)
merged-some (c ∷ cs) rest h = merged-each c cs rest

leaf-split : (b : Bool) (name : Name) (link : Option Content) (cs : List Code) (rest more : Forest) → is_data name ≡ b →
    (b ≡ true → link ≡ None → cs ≢ []) → merged more ≡ merged rest →
    merged (cut_leaf b name link cs more) ≡ merged (leaf_then name link cs rest)
leaf-split b name link cs rest more e h k = grind (arith, merged-some, merged-data, data-name, merged-linked, merged-other)

-- how data is cut is no matter to merging
pub merged-split : (t : Forest) → HasCodes t → merged (split t) ≡ merged t
merged-split empty h = refl
merged-split (leaf_then name link cs rest) h = grind (arith, leaf-split, merged-split rest)
merged-split (group_then name a b inside rest) h = grind (arith, merged-group, merged-split inside, merged-split rest)

-- Cutting twice is cutting once.

each-split : (cs : List Code) (t : Forest) → split (each_code cs t) ≡ each_code cs (split t)
each-split [] t = refl
each-split (c ∷ cs) t = ap (leaf_then N.Data None (c ∷ [])) (each-split cs t)

leaf-twice : (b : Bool) (name : Name) (link : Option Content) (cs : List Code) (t : Forest) → is_data name ≡ b →
    split (cut_leaf b name link cs t) ≡ cut_leaf b name link cs (split t)
leaf-twice b name link cs t e = grind (arith, each-split)

pub split-twice : (t : Forest) → split (split t) ≡ split t
split-twice empty = refl
split-twice (leaf_then name link cs rest) = grind (arith, leaf-twice, split-twice rest)
split-twice (group_then name a b inside rest) = grind (arith, split-twice inside, split-twice rest)

-- trees that differ only in how data is cut are merged to one
pub merged-same : (t u : Forest) → HasCodes t → HasCodes u → split t ≡ split u → merged t ≡ merged u
merged-same t u g h e = sym (merged-split t g) ∙ ap merged e ∙ merged-split u h
