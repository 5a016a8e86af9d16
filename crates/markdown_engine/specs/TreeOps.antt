-- The operations that pass a tree and append its events.
use Rattle.std.specs.Prelude.{◌≡◌, ◌≢◌, List, [], ◌∷◌, ◌++◌, None}
use Rattle.markdown_content.specs.Codes.{Code, stop_of, document_start}
use Rattle.markdown_engine.specs.Operations.{Op, Enter, Exit, Consume}
use Rattle.markdown_content.specs.Tree.{Forest, empty, leaf_then, group_then, leaf_codes, start_of}

abbrev pub consumes : List Code → List Op
consumes [] = []
consumes (c ∷ cs) = Consume ∷ consumes cs

-- of a tree without linked leaves
abbrev pub ops_of : Forest → List Op
ops_of empty = []
ops_of (leaf_then name link cs rest) = Enter name ∷ (consumes cs ++ Exit name ∷ ops_of rest)
ops_of (group_then name enter exit inside rest) = Enter name ∷ (ops_of inside ++ Exit name ∷ ops_of rest)

-- no leaf is empty or linked, and each group reaches from its first code to its last
abbrev pub IsSolid : Forest → Type 0
IsSolid empty = Unit {0}
IsSolid (leaf_then name link cs rest) = (link ≡ None) × ((cs ≢ []) × IsSolid rest)
IsSolid (group_then name enter exit inside rest) =
    (leaf_codes inside ≢ [])
    × ((enter ≡ start_of (leaf_codes inside)) × ((exit ≡ stop_of document_start (leaf_codes inside)) × (IsSolid inside × IsSolid rest)))
