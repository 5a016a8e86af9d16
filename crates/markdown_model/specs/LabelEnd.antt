-- Label ends (CommonMark 6.3 and 6.4; footnote calls): which start a `]` belongs to, and what it makes.
use Rattle.std.specs.Prelude.{ℕ, zero, suc, ◌+◌, ◌==◌, Bool, true, false, ◌&&◌, ◌||◌, not, nat_lt, if◌then◌else◌, List, [], ◌∷◌, slice_range, Option, Some, None}
use Rattle.std.specs.Str.{byte}
use Rattle.std.specs.List.{list_any}
use Rattle.markdown_event.specs.declared.event.Name.{Name}
use Rattle.markdown_content.specs.declared.label_kind.LabelKind.{LabelKind}
use Rattle.markdown_content.specs.Codes.{Code, stop_of, document_start, is_line_ending_byte, line_feed, carriage_return, space_value, tab_value}
use Rattle.markdown_content.specs.ContentBytes.{bytes_within}
use Rattle.markdown_content.specs.Tree.{Forest, empty, leaf_then, group_then, leaf, ◌⊕◌, group, start_of}
use Rattle.markdown_util.specs.Identifier.{identifier_by, identifier_of}
use Rattle.markdown_model.specs.CodeTests.{is_between, is_value}
use Rattle.markdown_model.specs.Grammar.{Reading, ◌>>=◌, ◌>>◌, gives, either, provided, unless, if_next, one}
use Rattle.markdown_model.specs.Resource.{resource, label, reference_names}
use Rattle.markdown_model.specs.Setting.{Setting, defines, is_defined, rules}

-- An element of a content: a tree that stands by itself, the start of a label, or its end with the
-- outcome: the kind of the label and what follows it, or none where the end fails.
pub data Element : Type 0 where
  plain : Forest → Element
  starts : LabelKind → List Code → Element
  ends : List Code → Option (LabelKind × Forest) → Element

-- Matching: starts and ends are brackets. An end belongs to the start before it between which and it the
-- brackets are balanced. So each end uses up a start, whether it fails or not.

-- a start, and the elements between it and its end
pub record Label : Type 0 where
  pub kind : LabelKind
  pub marker : List Code
  pub inside : List Element

-- the elements before, last one first; `inside` are those passed so far, `depth` of whose ends want a start
abbrev pub label_back : ℕ → List Element → List Element → Option Label
label_back depth inside [] = None
label_back depth inside (starts kind marker ∷ earlier) =
    elim depth [
      | zero ↦ Some (record { kind = kind; marker = marker; inside = inside })
      | suc d ↦ label_back d (starts kind marker ∷ inside) earlier
    ]
label_back depth inside (ends marker outcome ∷ earlier) = label_back (suc depth) (ends marker outcome ∷ inside) earlier
label_back depth inside (plain tree ∷ earlier) = label_back depth (plain tree ∷ inside) earlier

-- the label that an end after these elements, last one first, would close
unfoldable pub label_before : List Element → Option Label
label_before earlier = label_back 0 [] earlier

-- Links do not stand in links: a start that is no image's is barred where an end inside it made a link
-- or a footnote call.

abbrev pub is_image : LabelKind → Bool
is_image LabelKind.Image = true
is_image _ = false

abbrev pub is_footnote : LabelKind → Bool
is_footnote LabelKind.GfmFootnote = true
is_footnote _ = false

abbrev pub makes_link : Element → Bool
makes_link (ends marker (Some outcome)) = not (is_image outcome.0)
makes_link _ = false

unfoldable pub is_barred : Label → Bool
is_barred l = not (is_image l.kind) && list_any makes_link l.inside

-- Identifiers (CommonMark 4.7 and 6.3). That of a label is made of its text.

-- The text between two places. By CommonMark it is the content's; here it is the document's, so bytes at the
-- starts of later lines are in it that the content leaves out.
abbrev pub text_between : Setting → ℕ → ℕ → List ℕ
text_between s from to = if (rules s).labels_by_text then bytes_within s.bytes from to s.content else slice_range s.bytes from to

-- the identifier of that text, in which by CommonMark NUL is read as U+FFFD
abbrev pub name_between : Setting → ℕ → ℕ → List ℕ
name_between s from to = identifier_by (rules s).nul_is_replaced (text_between s from to)

-- How many characters a text has, without blank ones that stand at the front of a later line; a line ending is
-- one. `indent` says that a line ending and blank ones alone stand before, `returned` that a carriage return
-- does, of whose line ending a line feed is a part.

abbrev pub is_blank_byte : ℕ → Bool
is_blank_byte b = b == space_value || b == tab_value

-- the byte begins a character that counts
abbrev pub begins_counted : Bool → Bool → ℕ → Bool
begins_counted indent returned b =
    if is_line_ending_byte b then not (returned && b == line_feed)
    else (not (indent && is_blank_byte b) && not (is_between 128 191 b))

abbrev pub characters_of : Bool → Bool → List ℕ → ℕ
characters_of indent returned [] = 0
characters_of indent returned (b ∷ bs) =
    (if begins_counted indent returned b then 1 else 0)
    + characters_of (is_line_ending_byte b || (indent && is_blank_byte b)) (b == carriage_return) bs

-- a text between brackets is too long for a link label (CommonMark 6.3)
abbrev pub is_too_long : List ℕ → Bool
is_too_long text = nat_lt 999 (characters_of false false text)

-- with the caret of a footnote start, which stands between the brackets too, before the text of the label
abbrev pub with_caret : LabelKind → List ℕ → List ℕ
with_caret kind text = elim (is_footnote kind) [ true ↦ byte "^" ∷ text | false ↦ text ]

-- the identifier of the text of a label itself; none where it is no link label, as by CommonMark it has to be
abbrev pub label_name : Setting → LabelKind → ℕ → ℕ → Option (List ℕ)
label_name s kind from to =
    if (rules s).definitions_have_labels && is_too_long (with_caret kind (text_between s from to)) then None else Some (name_between s from to)

-- a label's own identifier: from the end of its start to its `]`
unfoldable pub label_identifier : Setting → Label → List Code → Option (List ℕ)
label_identifier s l back = label_name s l.kind (stop_of document_start l.marker).index (start_of back).index

-- a full reference's: that of its text, from Enter to Exit
unfoldable pub reference_identifier : Setting → Forest → List ℕ
reference_identifier s (group_then name enter exit (leaf_then n l cs (group_then text from to inside rest)) more) =
    name_between s from.index to.index
reference_identifier s _ = identifier_of []

-- What may follow the end of a label (CommonMark 6.3: inline links and full, collapsed and shortcut
-- references). Here a defined label before a `[` that begins neither `[]` nor a label with a definition
-- gives nothing, unless the option asks for CommonMark's shortcut.

unfoldable pub full_reference : Setting → Reading Forest
full_reference s = do
  tree ← label (rules s).labels_by_characters reference_names
  provided (defines s (reference_identifier s tree))
  gives tree

unfoldable pub collapsed_reference : Reading Forest
collapsed_reference = do
  front ← one (is_value (byte "["))
  back ← one (is_value (byte "]"))
  gives (group Name.Reference (leaf Name.ReferenceMarker front ⊕ leaf Name.ReferenceMarker back))

-- nothing follows a shortcut
unfoldable pub shortcut : Bool → Reading Forest
shortcut defined = provided defined >> gives empty

-- the shortcut of a label before a `[` that begins no reference
unfoldable pub shortcut_before_bracket : Setting → Bool → Reading Forest
shortcut_before_bracket s defined =
    unless (either collapsed_reference (label (rules s).labels_by_characters reference_names)) (shortcut (defined && (rules s).shortcut_before_bracket))

-- where a `[` follows; `defined` says that the label's own identifier is
unfoldable pub reference_after_label : Setting → Bool → Reading Forest
reference_after_label s defined =
    either (full_reference s) (either (provided defined >> collapsed_reference) (shortcut_before_bracket s defined))

unfoldable pub after_label : Setting → Bool → Reading Forest
after_label s defined =
    if_next (is_value (byte "(")) (either (resource (rules s).escaped_parentheses) (shortcut defined))
    (if_next (is_value (byte "[")) (reference_after_label s defined)
    (shortcut defined))

-- Outcomes. A footnote start with a defined footnote makes a call, and nothing follows it. With an
-- undefined one it is a link's start, and its caret stands before the identifier. A label without an
-- identifier names nothing.

abbrev pub link_kind : LabelKind → LabelKind
link_kind kind = elim (is_footnote kind) [ true ↦ LabelKind.GfmUndefinedFootnote | false ↦ kind ]

abbrev pub names_footnote : Setting → Option (List ℕ) → Bool
names_footnote s None = false
names_footnote s (Some name) = is_defined s.footnotes name

abbrev pub names_definition : Setting → LabelKind → Option (List ℕ) → Bool
names_definition s kind None = false
names_definition s kind (Some name) = defines s (with_caret kind name)

unfoldable pub footnote_call : Setting → Label → List Code → Reading (LabelKind × Forest)
footnote_call s l back = provided (is_footnote l.kind && names_footnote s (label_identifier s l back)) >> gives (LabelKind.GfmFootnote, empty)

unfoldable pub link_or_image : Setting → Label → List Code → Reading (LabelKind × Forest)
link_or_image s l back = do
  tail ← after_label s (names_definition s l.kind (label_identifier s l back))
  gives (link_kind l.kind, tail)

-- what the end `back` of a label makes, with what follows it
unfoldable pub outcome_of : Setting → Option Label → List Code → Reading (LabelKind × Forest)
outcome_of s None back cs = None
outcome_of s (Some l) back cs = (provided (not (is_barred l)) >> either (footnote_call s l back) (link_or_image s l back)) cs

-- a failed end covers its `]` alone
unfoldable pub label_end : Setting → List Element → Reading Element
label_end s earlier = do
  back ← one (is_value (byte "]"))
  either
      (outcome_of s (label_before earlier) back >>= λ outcome. gives (ends back (Some outcome)))
      (gives (ends back None))
