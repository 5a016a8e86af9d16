-- From elements to a tree: labels, merging, trimming and emails, each of all siblings and all inside them.
use Rattle.std.specs.Prelude.{Bool, true, false, ◌&&◌, ◌||◌, not, ℕ, nat_le, List, [], ◌∷◌, ◌++◌, length, take, drop, reverse, map, Option, Some, None}
use Rattle.std.specs.List.{list_all}
use Rattle.markdown_event.specs.declared.event.Name.{Name}
use Rattle.markdown_content.specs.declared.configuration.Rules.{Rules}
use Rattle.markdown_content.specs.declared.label_kind.LabelKind.{LabelKind}
use Rattle.markdown_content.specs.Codes.{Code, is_blank, stop_of, document_start}
use Rattle.markdown_content.specs.Tree.{Forest, empty, leaf_then, group_then, leaf, ◌⊕◌, group, text_group, start_of}
use Rattle.markdown_model.specs.CodeTests.{is_real_space}
use Rattle.markdown_model.specs.Grammar.{span}
use Rattle.markdown_model.specs.GfmEmailLiteral.{with_emails}
use Rattle.markdown_model.specs.LabelEnd.{Element, plain, starts, ends}
use Rattle.markdown_model.specs.Setting.{Setting, rules}
use Rattle.markdown_model.specs.BracketGroups.{Bracketed, item, opens, closes, nested, joined, loose}

-- Labels: a group for each start and the end that it succeeds with; other starts and ends are data.

abbrev pub Start : Type 0
Start = LabelKind × List Code

abbrev pub End : Type 0
End = List Code × Option (LabelKind × Forest)

abbrev pub as_bracket : Element → Bracketed Start End Forest
as_bracket (plain t) = item t
as_bracket (starts kind marker) = opens (kind, marker)
as_bracket (ends marker outcome) = closes (marker, outcome)

-- the marker of a start; the caret of a footnote that is not defined belongs to the text
abbrev pub start_marker : LabelKind → List Code → List Code
start_marker LabelKind.GfmUndefinedFootnote cs = take 1 cs
start_marker _ cs = cs

abbrev pub start_tree : LabelKind → List Code → Forest
start_tree LabelKind.Image cs = group Name.LabelImage (leaf Name.LabelImageMarker (take 1 cs) ⊕ leaf Name.LabelMarker (drop 1 cs))
start_tree LabelKind.GfmFootnote cs = group Name.GfmFootnoteCallLabel (leaf Name.LabelMarker (take 1 cs) ⊕ leaf Name.GfmFootnoteCallMarker (drop 1 cs))
start_tree _ cs = group Name.LabelLink (leaf Name.LabelMarker cs)

abbrev pub label_name : LabelKind → Name
label_name LabelKind.Image = Name.Image
label_name LabelKind.GfmFootnote = Name.GfmFootnoteCall
label_name _ = Name.Link

-- the text begins where the start ends, and ends at the `]`, also where it is empty
abbrev pub label_group : LabelKind → List Code → Forest → List Code → Forest → Forest
label_group kind marker inside back tail =
    let front = start_marker kind marker in
    let caret = drop (length front) marker in
    group (label_name kind) (group Name.Label
    (start_tree kind front
    ⊕ text_group Name.LabelText (stop_of document_start front) (start_of back) (leaf Name.Data caret ⊕ inside)
    ⊕ group Name.LabelEnd (leaf Name.LabelMarker back))
    ⊕ tail)

abbrev pub loose_start : Start → List Forest
loose_start start = loose start.1

abbrev pub loose_end : End → List Forest
loose_end end = loose end.0

-- a start, the trees inside it, and its end
abbrev pub labelled : Start → List Forest → End → List Forest
labelled start inside end =
    elim (end.1) [
      | None ↦ loose_start start ++ inside ++ loose_end end
      | Some outcome ↦ label_group outcome.0 start.1 (joined inside) end.0 outcome.1 ∷ []
    ]

unfoldable pub labels_of : List Element → Forest
labels_of es = joined (nested labelled loose_start loose_end (map as_bracket es))

-- Merging: neighbouring data without a link become one.

abbrev pub data_onto : List Code → Forest → Forest
data_onto cs (leaf_then Name.Data None more rest) = leaf_then Name.Data None (cs ++ more) rest
data_onto cs rest = leaf_then Name.Data None cs rest

unfoldable pub merged : Forest → Forest
merged empty = empty
merged (leaf_then Name.Data None cs rest) = data_onto cs (merged rest)
merged (leaf_then name link cs rest) = leaf_then name link cs (merged rest)
merged (group_then name enter exit inside rest) = group_then name enter exit (merged inside) (merged rest)

-- Trimming (CommonMark 6.7 and 6.8): data beside a line ending loses its blank codes there, and so do, in
-- a text, the first and the last of the whole. Blank codes before a line ending are a hard break if the last
-- two are spaces; by the crate's rule all of them have to be spaces. A string, as a title is one, keeps those before a line ending by
-- CommonMark's rule (6.3): what stands behind a line ending a paragraph has lost before. Neighbours are those of the merged tree.

abbrev pub begins_line_ending : Forest → Bool
begins_line_ending (leaf_then Name.LineEnding link cs rest) = true
begins_line_ending _ = false

abbrev pub is_nothing : Forest → Bool
is_nothing empty = true
is_nothing _ = false

-- Hard breaks by spaces: whether they are looked for, and whether the last two codes alone decide, as CommonMark says. Where `keeps` is
-- true the data keeps the blank codes at its back, and none are looked for.
pub record HardBreaks : Type 0 where
  pub on : Bool
  pub two_last : Bool
  pub keeps : Bool

-- where they are looked for, as the rules say; `whole` says that this is a whole text, and no string
abbrev pub hard_breaks : Bool → Bool → Rules → HardBreaks
hard_breaks on whole rules = record { on = on; two_last = on && rules.two_last_spaces; keeps = not whole && rules.titles_keep_spaces }

abbrev pub breaks : Setting → HardBreaks
breaks s = hard_breaks s.options.constructs.hard_break_trailing true (rules s)

-- in a string there are none
abbrev pub no_breaks : Rules → HardBreaks
no_breaks rules = hard_breaks false false rules

-- the same, and none where the place is none for a hard break
abbrev pub breaks_where : HardBreaks → Bool → HardBreaks
breaks_where hard here = record { on = hard.on && here; two_last = hard.two_last; keeps = hard.keeps }

-- how many spaces stand at the end of codes
abbrev pub last_spaces : List Code → ℕ
last_spaces cs = length (span is_real_space (reverse cs)).0

-- A trailing hard break (CommonMark 6.7), where it may be one before a line ending: codes that end in two or more real spaces, and, unless
-- the last two alone decide, have no other code.
abbrev pub is_hard_break_trailing : Bool → List Code → Bool
is_hard_break_trailing two_last cs = (two_last || list_all is_real_space cs) && nat_le 2 (last_spaces cs)

abbrev pub blank_name : HardBreaks → List Code → Name
blank_name hard cs = elim (hard.on && is_hard_break_trailing hard.two_last cs) [ true ↦ Name.HardBreakTrailing | false ↦ Name.SpaceOrTab ]

-- the leaves of a data that loses its blank codes in front, at its back, or both, the back first; `hard`
-- says that those at its back may be a hard break, or are kept
abbrev pub trimmed_data : Bool → Bool → HardBreaks → List Code → Forest
trimmed_data front back hard cs =
    let cut : List Code × List Code = elim (back && not hard.keeps) [ true ↦ span is_blank (reverse cs) | false ↦ ([], reverse cs) ] in
    let kept = reverse cut.1 in
    let lead : List Code × List Code = elim front [ true ↦ span is_blank kept | false ↦ ([], kept) ] in
    leaf Name.SpaceOrTab lead.0 ⊕ leaf Name.Data lead.1 ⊕ leaf (blank_name hard (reverse cut.0)) (reverse cut.0)

-- `front` says that a line ending or the whole's start stands before, `whole` that the whole's end is
-- trimmed too
module _ (hard : HardBreaks) where
  unfoldable pub trimmed : Bool → Bool → Forest → Forest
  trimmed front whole empty = empty
  trimmed front whole (leaf_then Name.Data None cs rest) =
      trimmed_data front (begins_line_ending rest || (whole && is_nothing rest)) (breaks_where hard (begins_line_ending rest)) cs
      ⊕ trimmed false whole rest
  trimmed front whole (leaf_then Name.LineEnding link cs rest) = leaf_then Name.LineEnding link cs (trimmed true whole rest)
  trimmed front whole (leaf_then name link cs rest) = leaf_then name link cs (trimmed false whole rest)
  trimmed front whole (group_then name enter exit inside rest) =
      group_then name enter exit (trimmed false false inside) (trimmed false whole rest)

-- Emails: in data without a link, outside links.

unfoldable pub with_emails_apart : Forest → Forest
with_emails_apart empty = empty
with_emails_apart (leaf_then Name.Data None cs rest) = with_emails cs ⊕ with_emails_apart rest
with_emails_apart (leaf_then name link cs rest) = leaf_then name link cs (with_emails_apart rest)
with_emails_apart (group_then Name.Link enter exit inside rest) = group_then Name.Link enter exit inside (with_emails_apart rest)
with_emails_apart (group_then name enter exit inside rest) = group_then name enter exit (with_emails_apart inside) (with_emails_apart rest)
