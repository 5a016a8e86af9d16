-- Where the markers of runs stand in the end.
use Rattle.std.specs.Prelude.{◌≡◌, Bool, true, false, ◌||◌, List, [], ◌∷◌, ◌++◌, map}
use Rattle.markdown_event.specs.declared.event.Name.{Name}
use Rattle.markdown_content.specs.Codes.{Code}
use Rattle.markdown_content.specs.Tree.{Forest, empty, leaf_then, group_then}
use Rattle.markdown_model.specs.Setting.{Setting}
use Rattle.markdown_model.specs.InlineTree.{label_tree, text_tree}
use Rattle.markdown_model.specs.Laws.{is_run}
use Rattle.markdown_model_laws.specs.EmailsInData.{is_email}
use Rattle.markdown_model_laws.specs.PairGroups.{is_sequence}

-- for each code of a tree, in order, whether the name of the leaf that covers it passes
abbrev pub by_code : (Name → Bool) → Forest → List Bool
by_code passes empty = []
by_code passes (leaf_then name link cs rest) = map (λ c. passes name) cs ++ by_code passes rest
by_code passes (group_then name enter exit inside rest) = by_code passes inside ++ by_code passes rest

abbrev pub is_data : Name → Bool
is_data Name.Data = true
is_data _ = false

-- what a marker of a run may become: a marker of a pair, data, or, where email literals are cut from data, part of one
abbrev pub may_hold_marker : Name → Bool
may_hold_marker name = is_sequence name || (is_data name || is_email name)

-- the lists are equally long, and where the first has true the second has too
abbrev pub AreAlso : List Bool → List Bool → Type 0
AreAlso [] [] = Unit {0}
AreAlso (a ∷ more) (b ∷ others) = (a ≡ true → b ≡ true) × AreAlso more others
AreAlso _ _ = ⊥

-- each code that a run covers in the tree of labels of a text is covered by such a leaf in its inline tree
abbrev pub EachMarkerIsHeld : Type 0
EachMarkerIsHeld = (s : Setting) (cs : List Code) → AreAlso (by_code is_run (label_tree s cs)) (by_code may_hold_marker (text_tree s cs))
