-- Text of several lines: which leaves cover it.
use Rattle.std.specs.Prelude.{Bool, true, false, ◌&&◌, ◌||◌, not, List, [], ◌∷◌, Option, Some, None}
use Rattle.markdown_content.specs.Codes.{Code, is_line_ending, is_blank}
use Rattle.markdown_content.specs.Tree.{Forest, empty, ◌⊕◌, leaf, leaf_then}
use Rattle.markdown_event.specs.declared.event.Name.{Name}
use Rattle.markdown_event.specs.declared.event.Content.{Content}
use Rattle.markdown_model.specs.CodeTests.{next_is}
use Rattle.markdown_model.specs.Grammar.{Reading, span, until}

-- a code joins the stretch after it where both pass or both fail, and neither is a line ending
abbrev pub joins : (Code → Bool) → Code → Code → Bool
joins p c d = not (is_line_ending c || is_line_ending d) && ((p c && p d) || not (p c || p d))

abbrev pub onto_stretch : (Code → Bool) → Code → List (List Code) → List (List Code)
onto_stretch p c [] = (c ∷ []) ∷ []
onto_stretch p c ([] ∷ more) = (c ∷ []) ∷ more
onto_stretch p c ((d ∷ ds) ∷ more) = elim (joins p c d) [ true ↦ (c ∷ d ∷ ds) ∷ more | false ↦ (c ∷ []) ∷ (d ∷ ds) ∷ more ]

-- the codes cut into line endings and the longest stretches that all pass or all fail
abbrev pub stretches : (Code → Bool) → List Code → List (List Code)
stretches p [] = []
stretches p (c ∷ cs) = onto_stretch p c (stretches p cs)

-- the line endings, and what stands between them
abbrev pub lines_of : List Code → List (List Code)
lines_of cs = stretches (λ c. true) cs

-- one leaf with this link, or none: a line ending, or of the given name
abbrev pub linked_leaf : Name → Option Content → List Code → Forest
linked_leaf name link [] = empty
linked_leaf name link (c ∷ cs) = leaf_then name link (c ∷ cs) empty

abbrev pub line_leaf : Name → Option Content → List Code → Forest
line_leaf name link s = elim (next_is is_line_ending s) [ true ↦ linked_leaf Name.LineEnding link s | false ↦ linked_leaf name link s ]

-- a leaf for each stretch
abbrev pub line_leaves : Name → List (List Code) → Forest
line_leaves name [] = empty
line_leaves name (s ∷ ss) = line_leaf name None s ⊕ line_leaves name ss

-- Lines: leaves of the given name, line endings, and the blank codes at the start of each later line.
-- `later` says that a line ending stands before.
abbrev pub lines_from : Name → Option Content → Bool → List (List Code) → Forest
lines_from name link later [] = empty
lines_from name link later (s ∷ ss) =
    elim (later && not (next_is is_line_ending s)) [
      | true ↦ linked_leaf Name.SpaceOrTab link (span is_blank s).0 ⊕ linked_leaf name link (span is_blank s).1 ⊕ lines_from name link false ss
      | false ↦ line_leaf name link s ⊕ lines_from name link (next_is is_line_ending s) ss
    ]

abbrev pub lines : Name → Option Content → List Code → Forest
lines name link cs = lines_from name link false (lines_of cs)

-- Data: the code at hand, if there is one, and all up to the next place at which data stops, by what comes
-- there, a leaf for each line and each line ending.
unfoldable pub data_up_to : (List Code → Bool) → Reading Forest
data_up_to stops [] = Some (empty, [])
data_up_to stops (c ∷ cs) =
    let s = until stops cs in
    Some (line_leaves Name.Data (lines_of (c ∷ s.0)), s.1)

-- a leaf for each code: a line ending or data
abbrev pub code_leaf : Code → Forest
code_leaf c = elim (is_line_ending c) [ true ↦ leaf Name.LineEnding (c ∷ []) | false ↦ leaf Name.Data (c ∷ []) ]
