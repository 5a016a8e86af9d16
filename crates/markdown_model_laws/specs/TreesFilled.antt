-- Nothing in the inline tree is empty but the texts of labels.
use Rattle.std.specs.Prelude.{◌≡◌, Bool, true, false, List}
use Rattle.markdown_event.specs.declared.event.Name.{Name}
use Rattle.markdown_content.specs.Codes.{Code}
use Rattle.markdown_content.specs.Tree.{Forest, empty, leaf_then, group_then}
use Rattle.markdown_model.specs.CodeTests.{is_empty}
use Rattle.markdown_model.specs.Passes.{is_nothing}
use Rattle.markdown_model.specs.Setting.{Setting}
use Rattle.markdown_model.specs.InlineTree.{text_tree, string_tree}

abbrev pub is_label_text : Name → Bool
is_label_text Name.LabelText = true
is_label_text _ = false

-- each leaf has a code, and a group around nothing is the text of a label
abbrev pub IsFilled : Forest → Type 0
IsFilled empty = Unit {0}
IsFilled (leaf_then name link cs rest) = (is_empty cs ≡ false) × IsFilled rest
IsFilled (group_then name enter exit inside rest) = (is_nothing inside ≡ true → is_label_text name ≡ true) × IsFilled inside × IsFilled rest

-- the inline tree of each text and each string is so
abbrev pub TreesAreFilled : Type 0
TreesAreFilled = (s : Setting) (cs : List Code) → IsFilled (text_tree s cs) × IsFilled (string_tree s cs)
