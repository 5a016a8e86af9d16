-- Trees whose data is cut into its codes, so that it is no matter how data was cut before.
use Rattle.std.specs.Prelude.{◌≡◌, ◌≢◌, Bool, true, Option, None, List, [], ◌∷◌}
use Rattle.markdown_content.specs.Codes.{Code}
use Rattle.markdown_content.specs.Tree.{Forest, empty, leaf_then, group_then}
use Rattle.markdown_event.specs.declared.event.Content.{Content}
use Rattle.markdown_event.specs.declared.event.Name.{Name}
use Rattle.markdown_event.specs.declared.event.Name.TheVariants as N
use Rattle.markdown_passes.specs.MergedEvents.{is_data}

-- a data for each code, before further siblings
abbrev pub each_code : List Code → Forest → Forest
each_code [] rest = rest
each_code (c ∷ cs) rest = leaf_then N.Data None (c ∷ []) (each_code cs rest)

-- a leaf before further siblings, cut where it is data without a link
abbrev pub cut_leaf : Bool → Name → Option Content → List Code → Forest → Forest
cut_leaf true name None cs rest = each_code cs rest
cut_leaf _ name link cs rest = leaf_then name link cs rest

-- a tree with its data cut into codes, all inside it included
abbrev pub split : Forest → Forest
split empty = empty
split (leaf_then name link cs rest) = cut_leaf (is_data name) name link cs (split rest)
split (group_then name a b inside rest) = group_then name a b (split inside) (split rest)

-- no data of the tree without a link is empty
abbrev pub HasCodes : Forest → Type 0
HasCodes empty = Unit {0}
HasCodes (leaf_then name link cs rest) = (is_data name ≡ true → link ≡ None → cs ≢ []) × HasCodes rest
HasCodes (group_then name a b inside rest) = HasCodes inside × HasCodes rest
