-- Data of a text beside line endings.
use Rattle.std.specs.Prelude.{◌≡◌, Bool, true, false, ◌&&◌, ◌||◌, not, List, None}
use Rattle.markdown_event.specs.declared.event.Name.{Name}
use Rattle.markdown_content.specs.Codes.{Code, is_blank}
use Rattle.markdown_content.specs.Tree.{Forest, empty, leaf_then, group_then}
use Rattle.markdown_model.specs.CodeTests.{is_empty, next_is, is_some_code, last_code}
use Rattle.markdown_model.specs.Setting.{Setting, rules}
use Rattle.markdown_model.specs.Passes.{begins_line_ending, is_nothing}
use Rattle.markdown_model.specs.InlineTree.{text_tree, string_tree}

-- Each data without a link has a code; its first code is not blank where a line ending stands just before, and its last
-- one is not where a line ending stands just behind and `back` says that blank codes go there. `front` says that the first tree counts as
-- behind a line ending, and `whole` that the last one counts as before one.
abbrev pub IsTight : Bool → Bool → Bool → Forest → Type 0
IsTight back front whole empty = Unit {0}
IsTight back front whole (leaf_then Name.Data None cs rest) =
    (is_empty cs ≡ false)
    × (front ≡ true → next_is is_blank cs ≡ false)
    × (back && (begins_line_ending rest || (whole && is_nothing rest)) ≡ true → is_some_code is_blank (last_code cs) ≡ false)
    × IsTight back false whole rest
IsTight back front whole (leaf_then Name.LineEnding link cs rest) = IsTight back true whole rest
IsTight back front whole (leaf_then name link cs rest) = IsTight back false whole rest
IsTight back front whole (group_then name enter exit inside rest) = IsTight back false false inside × IsTight back false whole rest

-- no blank code stands in data beside a line ending, nor first or last in a text; before a line ending of a string one may by CommonMark's rule
abbrev pub DataIsTight : Type 0
DataIsTight =
    (s : Setting) (cs : List Code)
    → IsTight true true true (text_tree s cs) × IsTight (not (rules s).titles_keep_spaces) false false (string_tree s cs)
