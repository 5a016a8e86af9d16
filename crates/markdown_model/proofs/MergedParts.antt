-- Data, merged in parts.
use Rattle.std.proofs.Common.{◌≡◌, List, ◌++◌, refl, sym, ap, None}
use Rattle.std.proofs.lemmas.List.{append_assoc}
use Rattle.markdown_event.specs.declared.event.Name.{Name}
use Rattle.markdown_content.specs.Codes.{Code}
use Rattle.markdown_content.specs.Tree.{Forest, leaf_then}
use Rattle.markdown_model.specs.Passes.{data_onto}

-- two data in a row are one
pub data_onto-twice : (cs ds : List Code) (f : Forest) → data_onto cs (data_onto ds f) ≡ data_onto (cs ++ ds) f
data_onto-twice cs ds (leaf_then Name.Data None more rest) =
    ap (λ x. leaf_then Name.Data None x rest) (sym (append_assoc cs ds more))
data_onto-twice cs ds rest = refl
