-- After merging no two data without a link are neighbours.
use Rattle.std.proofs.Common.{List, refl, None}
use Rattle.markdown_event.specs.declared.event.Name.{Name}
use Rattle.markdown_content.specs.Codes.{Code}
use Rattle.markdown_content.specs.Tree.{Forest, empty, leaf_then, group_then}
use Rattle.markdown_model.specs.Passes.{data_onto, merged}
use Rattle.markdown_model.specs.Laws.{IsDataApart, MergedDataIsApart}

apart-data_onto : (cs : List Code) (f : Forest) → IsDataApart f → IsDataApart (data_onto cs f)
apart-data_onto cs empty h = (refl, h)
apart-data_onto cs (leaf_then Name.Data None more rest) h = h
apart-data_onto cs (leaf_then name link more rest) h = (refl, h)
apart-data_onto cs (group_then name enter exit inside rest) h = (refl, h)

pub merged_data_is_apart : MergedDataIsApart
unfolding merged
merged_data_is_apart empty = tt
merged_data_is_apart (leaf_then Name.Data None cs rest) = apart-data_onto cs (merged rest) (merged_data_is_apart rest)
merged_data_is_apart (leaf_then name link cs rest) = merged_data_is_apart rest
merged_data_is_apart (group_then name enter exit inside rest) = (merged_data_is_apart inside, merged_data_is_apart rest)
