-- The codes that the leaves of trees cover.
use Rattle.std.proofs.Common.{◌≡◌, ◌++◌, refl, sym, ap, ◌∙◌, append_assoc}
use Rattle.markdown_content.specs.Tree.{Forest, empty, leaf_then, group_then, ◌⊕◌, leaf_codes}

pub leaf_codes-row : (t u : Forest) → leaf_codes (t ⊕ u) ≡ leaf_codes t ++ leaf_codes u
leaf_codes-row empty u = refl
leaf_codes-row (leaf_then n l cs r) u =
    ap (λ x. cs ++ x) (leaf_codes-row r u) ∙ sym (append_assoc cs (leaf_codes r) (leaf_codes u))
leaf_codes-row (group_then n a b i r) u =
    ap (λ x. leaf_codes i ++ x) (leaf_codes-row r u) ∙ sym (append_assoc (leaf_codes i) (leaf_codes r) (leaf_codes u))
