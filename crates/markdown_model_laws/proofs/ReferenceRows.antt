-- Rows of trees with references as they are read.
use Rattle.std.proofs.Common.{◌≡◌, true, List, [], ◌∷◌, Option, None, refl, arith}
use Rattle.markdown_event.specs.declared.event.Name.{Name}
use Rattle.markdown_event.specs.declared.event.Name.TheVariants as N
use Rattle.markdown_event.specs.declared.event.Content.{Content}
use Rattle.markdown_event.specs.declared.event.Point.{Point}
use Rattle.markdown_content.specs.Codes.{Code}
use Rattle.markdown_content.specs.Tree.{Forest, empty, leaf_then, group_then, leaf, linked, group, ◌⊕◌}
use Rattle.markdown_model.specs.Resource.{string_group}
use Rattle.markdown_model.specs.TextLines.{linked_leaf, line_leaf, line_leaves, lines}
use Rattle.markdown_model.proofs.LeafRows.{Leaves, leaves-lines}
use Rattle.markdown_model_laws.proofs.ReferenceTrees.{is_free, HasReferences}

pub row : (t u : Forest) → HasReferences t → HasReferences u → HasReferences (t ⊕ u)
row empty u h k = k
row (leaf_then name link cs rest) u h k = (h.0, row rest u h.1 k)
row (group_then N.CharacterReference a b inside rest) u h k = (h.0, row rest u h.1 k)
row (group_then name a b inside rest) u h k = (h.0, (h.1.0, row rest u h.1.1 k))

pub free-leaf : (name : Name) (cs : List Code) → is_free name ≡ true → HasReferences (leaf name cs)
free-leaf name [] h = tt
free-leaf name (c ∷ cs) h = (h, tt)

pub free-linked_leaf : (name : Name) (link : Option Content) (cs : List Code) → is_free name ≡ true →
    HasReferences (linked_leaf name link cs)
free-linked_leaf name link [] h = tt
free-linked_leaf name link (c ∷ cs) h = (h, tt)

pub free-linked : (name : Name) (cs : List Code) → is_free name ≡ true → HasReferences (linked name cs)
free-linked name [] h = tt
free-linked name (c ∷ cs) h = (h, tt)

pub free-between : (name : Name) (a b : Point) (inside : Forest) → is_free name ≡ true → HasReferences inside →
    HasReferences (group_then name a b inside empty)
free-between N.CharacterReference a b inside h k = cc
free-between name a b inside h k = (h, (k, tt))

pub free-group : (name : Name) (inside : Forest) → is_free name ≡ true → HasReferences inside →
    HasReferences (group name inside)
free-group name inside h k = free-between name _ _ inside h k

pub free-string : (name : Name) (t : Forest) → is_free name ≡ true → HasReferences t → HasReferences (string_group name t)
free-string name t h k = grind (arith, free-group)

free-leaves : (t : Forest) → Leaves (λ name link cs. is_free name ≡ true) t → HasReferences t
free-leaves empty h = tt
free-leaves (leaf_then name link cs rest) h = (h.0, free-leaves rest h.1)
free-leaves (group_then name a b inside rest) h = absurd h

pub free-lines : (name : Name) (link : Option Content) (cs : List Code) → is_free name ≡ true →
    HasReferences (lines name link cs)
free-lines name link cs h =
    free-leaves (lines name link cs) (leaves-lines (λ name link cs. is_free name ≡ true) name link (λ s _. h) (λ s _ _. refl) (λ s _. refl) cs)

free-line_leaf : (name : Name) (s : List Code) → is_free name ≡ true → HasReferences (line_leaf name None s)
free-line_leaf name s h = grind (arith, free-linked_leaf)

pub free-line_leaves : (name : Name) (ss : List (List Code)) → is_free name ≡ true → HasReferences (line_leaves name ss)
free-line_leaves name [] h = tt
free-line_leaves name (s ∷ ss) h = grind (arith, row, free-line_leaf, free-line_leaves name ss h)
