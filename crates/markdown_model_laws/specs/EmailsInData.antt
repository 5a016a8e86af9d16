-- Where email literals stand: in data, and in no link.
use Rattle.std.specs.Prelude.{◌≡◌, Bool, true, false, ◌||◌, if◌then◌else◌, List, Some, None}
use Rattle.markdown_event.specs.declared.event.Name.{Name}
use Rattle.markdown_content.specs.Codes.{Code}
use Rattle.markdown_content.specs.Tree.{Forest, empty, leaf_then, group_then}
use Rattle.markdown_model.specs.CodeTests.{is_empty}
use Rattle.markdown_model.specs.InlineTree.{text_tree, string_tree}
use Rattle.markdown_model.specs.Passes.{merged, with_emails_apart}
use Rattle.markdown_model.specs.Setting.{Setting}

abbrev pub is_email : Name → Bool
is_email Name.GfmAutolinkLiteralEmail = true
is_email Name.GfmAutolinkLiteralMailto = true
is_email Name.GfmAutolinkLiteralXmpp = true
is_email _ = false

-- the email literals of a tree named data
abbrev pub as_data : Forest → Forest
as_data empty = empty
as_data (leaf_then name None cs rest) = leaf_then (if is_email name then Name.Data else name) None cs (as_data rest)
as_data (leaf_then name (Some link) cs rest) = leaf_then name (Some link) cs (as_data rest)
as_data (group_then name enter exit inside rest) = group_then name enter exit (as_data inside) (as_data rest)

-- each data without a link has a code
abbrev pub HasFullData : Forest → Type 0
HasFullData empty = Unit {0}
HasFullData (leaf_then Name.Data None cs rest) = (is_empty cs ≡ false) × HasFullData rest
HasFullData (leaf_then name link cs rest) = HasFullData rest
HasFullData (group_then name enter exit inside rest) = HasFullData inside × HasFullData rest

-- Finding emails cuts data and does nothing else: where the literals are named data and merged with the data beside
-- them, the tree is as it was before.
abbrev pub EmailsStandInData : Type 0
EmailsStandInData = (tree : Forest) → HasFullData tree → merged (as_data (with_emails_apart tree)) ≡ merged (as_data tree)

-- an email literal is one of the siblings, or stands inside one
abbrev pub holds_email : Forest → Bool
holds_email empty = false
holds_email (leaf_then name link cs rest) = is_email name || holds_email rest
holds_email (group_then name enter exit inside rest) = holds_email inside || holds_email rest

-- none stands inside a link or an autolink, be that one of the siblings or inside one, however deep
abbrev pub HasPlainLinks : Forest → Type 0
HasPlainLinks empty = Unit {0}
HasPlainLinks (leaf_then name link cs rest) = HasPlainLinks rest
HasPlainLinks (group_then Name.Link enter exit inside rest) = (holds_email inside ≡ false) × HasPlainLinks rest
HasPlainLinks (group_then Name.Autolink enter exit inside rest) = (holds_email inside ≡ false) × HasPlainLinks rest
HasPlainLinks (group_then name enter exit inside rest) = HasPlainLinks inside × HasPlainLinks rest

-- in the inline tree of a text no email literal stands in a link or an autolink, and in that of a string none stands at all
abbrev pub LinksHoldNoEmail : Type 0
LinksHoldNoEmail = (s : Setting) (cs : List Code) → HasPlainLinks (text_tree s cs) × (holds_email (string_tree s cs) ≡ false)
