-- What a run over a text leaves of labels: starts and ends among other trees, and the lists of labels and of unused starts.
use Rattle.std.specs.Prelude.{◌≡◌, ℕ, zero, suc, ◌+◌, ◌-◌, ◌<◌, ◌≤◌, List, [], ◌∷◌, ◌++◌, None, false}
use Rattle.markdown_content.specs.Codes.{Code, document_start}
use Rattle.markdown_engine.specs.PastTree.{appended_from, last_link}
use Rattle.markdown_content.specs.Tree.{Forest, empty, group_then, leaf, ◌⊕◌, group, event, event_count}
use Rattle.markdown_event.specs.declared.event.Event.{Event}
use Rattle.markdown_event.specs.declared.event.Kind.{Kind}
use Rattle.markdown_event.specs.declared.event.Name.{Name}
use Rattle.markdown_event.specs.declared.event.Point.{Point}
use Rattle.markdown_engine.specs.declared.tokenizer.Label.{Label}
use Rattle.markdown_content.specs.declared.label_kind.LabelKind.{LabelKind}
use Rattle.markdown_content.specs.declared.label_kind.LabelKind.TheVariants as K
use Rattle.markdown_engine_events.specs.declared.util.edit_map.Edit.{Edit}
use Rattle.markdown_model.specs.Passes.{start_tree, label_name, label_group}
use Rattle.markdown_engine.specs.OrderedEdits.{EditPart, comes, goes, stays}

-- the start of a label with its codes: `[`, `![`, `[^` of a call, `[^` of a link whose text begins with the caret
pub data Front : Type 0 where
  link_front : Code → Front
  image_front : Code → Code → Front
  call_front : Code → Code → Front
  caret_front : Code → Code → Front

abbrev pub kind_of : Front → LabelKind
kind_of (link_front c) = K.Link
kind_of (image_front c d) = K.Image
kind_of (call_front c d) = K.GfmFootnote
kind_of (caret_front c d) = K.GfmUndefinedFootnote

abbrev pub codes_of : Front → List Code
codes_of (link_front c) = c ∷ []
codes_of (image_front c d) = c ∷ d ∷ []
codes_of (call_front c d) = c ∷ d ∷ []
codes_of (caret_front c d) = c ∷ d ∷ []

-- the tree of a start as the run leaves it: one with a caret is a call's
abbrev pub start_row : Front → Forest
start_row (link_front c) = start_tree K.Link (c ∷ [])
start_row (image_front c d) = start_tree K.Image (c ∷ d ∷ [])
start_row (call_front c d) = start_tree K.GfmFootnote (c ∷ d ∷ [])
start_row (caret_front c d) = start_tree K.GfmFootnote (c ∷ d ∷ [])

abbrev pub end_row : Code → Forest
end_row c = group Name.LabelEnd (leaf Name.LabelMarker (c ∷ []))

-- what follows the end of a label: nothing, or a resource or reference
pub data Tail : Type 0 where
  no_tail : Tail
  one_tail : Name → Point → Point → Forest → Tail

abbrev pub tail_row : Tail → Forest
tail_row no_tail = empty
tail_row (one_tail name a b inside) = group_then name a b inside empty

-- Labels, starts that no end used, and starts whose end failed, with what stands between such a start and its end; the failed end itself is
-- part of the trees behind it.
pub data Brackets : Type 0 where
  nothing : Brackets
  tree_then : Forest → Brackets → Brackets
  label_then : Front → Brackets → Code → Tail → Brackets → Brackets
  unused_then : Front → Brackets → Brackets
  failed_then : Front → Brackets → Brackets → Brackets

-- as the run leaves them
abbrev pub flat : Brackets → Forest
flat nothing = empty
flat (tree_then t rest) = t ⊕ flat rest
flat (label_then f inside back tail rest) = start_row f ⊕ (flat inside ⊕ (end_row back ⊕ (tail_row tail ⊕ flat rest)))
flat (unused_then f rest) = start_row f ⊕ flat rest
flat (failed_then f inside rest) = start_row f ⊕ (flat inside ⊕ flat rest)

-- as they are to be
abbrev pub grouped : Brackets → Forest
grouped nothing = empty
grouped (tree_then t rest) = t ⊕ grouped rest
grouped (label_then f inside back tail rest) = label_group (kind_of f) (codes_of f) (grouped inside) (back ∷ []) (tail_row tail) ⊕ grouped rest
grouped (unused_then f rest) = leaf Name.Data (codes_of f) ⊕ grouped rest
grouped (failed_then f inside rest) = leaf Name.Data (codes_of f) ⊕ (grouped inside ⊕ grouped rest)

-- no tree among them is linked with one behind it
abbrev pub IsApart : Brackets → Type 0
IsApart nothing = Unit {0}
IsApart (tree_then t rest) = ((n : ℕ) → last_link n None t ≡ None) × IsApart rest
IsApart (label_then f inside back tail rest) = IsApart inside × IsApart rest
IsApart (unused_then f rest) = IsApart rest
IsApart (failed_then f inside rest) = IsApart inside × IsApart rest

-- Event numbers.

-- how many events a start has, less one
abbrev pub last_of : Front → ℕ
last_of (link_front c) = 3
last_of f = 5

abbrev pub count : Brackets → ℕ
count nothing = 0
count (tree_then t rest) = event_count t + count rest
count (label_then f inside back tail rest) = suc (last_of f) + (count inside + (4 + (event_count (tail_row tail) + count rest)))
count (unused_then f rest) = suc (last_of f) + count rest
count (failed_then f inside rest) = suc (last_of f) + (count inside + count rest)

-- the numbers of the first and the last event of a start
abbrev pub numbers_of : ℕ → Front → ℕ × ℕ
numbers_of n f = (n, n + last_of f)

-- the labels, in the order of their ends; the first event has this number
abbrev pub labels_at : ℕ → Brackets → List Label
labels_at n nothing = []
labels_at n (tree_then t rest) = labels_at (n + event_count t) rest
labels_at n (label_then f inside back tail rest) =
    let e = n + suc (last_of f) + count inside in
    let x = e + 4 + event_count (tail_row tail) in
    labels_at (n + suc (last_of f)) inside
    ++ (record { kind = kind_of f; start = numbers_of n f; end = (e, x - 1) })
    ∷ labels_at x rest
labels_at n (unused_then f rest) = labels_at (n + suc (last_of f)) rest
labels_at n (failed_then f inside rest) =
    labels_at (n + suc (last_of f)) inside ++ labels_at (n + suc (last_of f) + count inside) rest

-- the starts that no end used, the last one first
abbrev pub unused_at : ℕ → Brackets → List (ℕ × ℕ)
unused_at n nothing = []
unused_at n (tree_then t rest) = unused_at (n + event_count t) rest
unused_at n (label_then f inside back tail rest) =
    unused_at (n + suc (last_of f) + count inside + 4 + event_count (tail_row tail)) rest ++ unused_at (n + suc (last_of f)) inside
unused_at n (unused_then f rest) = unused_at (n + suc (last_of f)) rest ++ numbers_of n f ∷ []
unused_at n (failed_then f inside rest) =
    unused_at (n + suc (last_of f) + count inside) rest ++ unused_at (n + suc (last_of f)) inside

-- the starts whose ends failed, in the order of the ends
abbrev pub failed_at : ℕ → Brackets → List (ℕ × ℕ)
failed_at n nothing = []
failed_at n (tree_then t rest) = failed_at (n + event_count t) rest
failed_at n (label_then f inside back tail rest) =
    failed_at (n + suc (last_of f)) inside ++ failed_at (n + suc (last_of f) + count inside + 4 + event_count (tail_row tail)) rest
failed_at n (unused_then f rest) = failed_at (n + suc (last_of f)) rest
failed_at n (failed_then f inside rest) =
    failed_at (n + suc (last_of f)) inside ++ numbers_of n f ∷ failed_at (n + suc (last_of f) + count inside) rest

-- Edits.

-- where an event stands
abbrev pub place_at : List Event → ℕ → Point
place_at [] i = document_start
place_at (e ∷ es) zero = e.point
place_at (e ∷ es) (suc i) = place_at es i

-- what comes in place of a start's events: the label's groups, the start, and the text's group; the points are those of the start's first
-- event, its third and fourth, and its last
abbrev pub opened : LabelKind → Point → Point → Point → Point → List Event
opened K.Link a b c d =
    event Kind.Enter Name.Link a ∷ event Kind.Enter Name.Label a
    ∷ event Kind.Enter Name.LabelLink a ∷ event Kind.Enter Name.LabelMarker a ∷ event Kind.Exit Name.LabelMarker b ∷ event Kind.Exit Name.LabelLink b
    ∷ event Kind.Enter Name.LabelText b ∷ []
opened K.Image a b c d =
    event Kind.Enter Name.Image a ∷ event Kind.Enter Name.Label a
    ∷ event Kind.Enter Name.LabelImage a ∷ event Kind.Enter Name.LabelImageMarker a ∷ event Kind.Exit Name.LabelImageMarker b
    ∷ event Kind.Enter Name.LabelMarker c ∷ event Kind.Exit Name.LabelMarker d ∷ event Kind.Exit Name.LabelImage d
    ∷ event Kind.Enter Name.LabelText d ∷ []
opened K.GfmFootnote a b c d =
    event Kind.Enter Name.GfmFootnoteCall a ∷ event Kind.Enter Name.Label a
    ∷ event Kind.Enter Name.GfmFootnoteCallLabel a ∷ event Kind.Enter Name.LabelMarker a ∷ event Kind.Exit Name.LabelMarker b
    ∷ event Kind.Enter Name.GfmFootnoteCallMarker c ∷ event Kind.Exit Name.GfmFootnoteCallMarker d ∷ event Kind.Exit Name.GfmFootnoteCallLabel d
    ∷ event Kind.Enter Name.LabelText d ∷ []
opened K.GfmUndefinedFootnote a b c d =
    event Kind.Enter Name.Link a ∷ event Kind.Enter Name.Label a
    ∷ event Kind.Enter Name.LabelLink a ∷ event Kind.Enter Name.LabelMarker a ∷ event Kind.Exit Name.LabelMarker b ∷ event Kind.Exit Name.LabelLink b
    ∷ event Kind.Enter Name.LabelText b ∷ event Kind.Enter Name.Data c ∷ event Kind.Exit Name.Data d ∷ []

-- what comes in place of an end's events: the text's group ends, and behind the end the label's
abbrev pub ended : Point → Point → List Event
ended a b =
    event Kind.Exit Name.LabelText a
    ∷ event Kind.Enter Name.LabelEnd a ∷ event Kind.Enter Name.LabelMarker a ∷ event Kind.Exit Name.LabelMarker b ∷ event Kind.Exit Name.LabelEnd b
    ∷ event Kind.Exit Name.Label b ∷ []

abbrev pub closed : LabelKind → Point → List Event
closed kind a = event Kind.Exit (label_name kind) a ∷ []

abbrev pub as_data : Point → Point → List Event
as_data a b = event Kind.Enter Name.Data a ∷ event Kind.Exit Name.Data b ∷ []

abbrev pub replacing : ℕ → ℕ → List Event → Edit
replacing n k es = record { at = n; remove = k; events = es; before = false }

-- the edits of a label
abbrev pub label_edits : List Event → Label → List Edit
label_edits es l =
    replacing l.start.0 (l.start.1 + 1 - l.start.0)
    (opened l.kind (place_at es l.start.0) (place_at es (l.start.0 + 2)) (place_at es (l.start.0 + 3)) (place_at es l.start.1))
    ∷ replacing l.end.0 4 (ended (place_at es l.end.0) (place_at es (l.end.0 + 3)))
    ∷ replacing (l.end.1 + 1) 0 (closed l.kind (place_at es l.end.1))
    ∷ []

abbrev pub labels_edits : List Event → List Label → List Edit
labels_edits es [] = []
labels_edits es (l ∷ ls) = label_edits es l ++ labels_edits es ls

-- the edit of a start that becomes data
abbrev pub loose_edit : List Event → ℕ × ℕ → Edit
loose_edit es s = replacing s.0 (s.1 + 1 - s.0) (as_data (place_at es s.0) (place_at es s.1))

abbrev pub loose_edits : List Event → List (ℕ × ℕ) → List Edit
loose_edits es [] = []
loose_edits es (s ∷ ss) = loose_edit es s ∷ loose_edits es ss

-- The parts.

abbrev pub opened_of : Front → List Event
opened_of (link_front c) = opened K.Link c.start c.stop c.stop c.stop
opened_of (image_front c d) = opened K.Image c.start c.stop d.start d.stop
opened_of (call_front c d) = opened K.GfmFootnote c.start c.stop d.start d.stop
opened_of (caret_front c d) = opened K.GfmUndefinedFootnote c.start c.stop d.start d.stop

abbrev pub first_start : Front → Point
first_start (link_front c) = c.start
first_start (image_front c d) = c.start
first_start (call_front c d) = c.start
first_start (caret_front c d) = c.start

abbrev pub last_stop : Front → Point
last_stop (link_front c) = c.stop
last_stop (image_front c d) = d.stop
last_stop (call_front c d) = d.stop
last_stop (caret_front c d) = d.stop

abbrev pub going_of : List Event → EditPart
going_of [] = comes []
going_of (e ∷ es) = goes e es

-- the events of siblings without links
abbrev pub start_events : Front → List Event
start_events f = appended_from 0 None (start_row f)

abbrev pub end_events : Code → List Event
end_events c = appended_from 0 None (end_row c)

abbrev pub tail_stop : Code → Tail → Point
tail_stop back no_tail = back.stop
tail_stop back (one_tail name a b inside) = b

abbrev pub parts_of : Brackets → List EditPart
parts_of nothing = []
parts_of (tree_then t rest) = stays t ∷ parts_of rest
parts_of (label_then f inside back tail rest) =
    comes (opened_of f) ∷ going_of (start_events f)
    ∷ parts_of inside
    ++ comes (ended back.start back.stop) ∷ going_of (end_events back)
    ∷ stays (tail_row tail) ∷ comes (closed (kind_of f) (tail_stop back tail)) ∷ parts_of rest
parts_of (unused_then f rest) = comes (as_data (first_start f) (last_stop f)) ∷ going_of (start_events f) ∷ parts_of rest
parts_of (failed_then f inside rest) =
    comes (as_data (first_start f) (last_stop f)) ∷ going_of (start_events f) ∷ parts_of inside ++ parts_of rest

-- The edits of all: of the labels, of the starts that no end used, and of those whose ends failed.
abbrev pub all_edits : List Event → List Label → List (ℕ × ℕ) → List (ℕ × ℕ) → List Edit
all_edits es labels unused failed = labels_edits es labels ++ (loose_edits es unused ++ loose_edits es failed)

-- the numbers of a label are those of events, of which there are so many
pub record IsLabelWithin (n : ℕ) (l : Label) : Type 0 where
  pub start : l.start.0 + 3 ≤ l.start.1
  pub before : l.start.1 < n
  pub end : l.end.0 + 3 ≤ l.end.1
  pub last : l.end.1 < n

abbrev pub IsStartWithin : ℕ → ℕ × ℕ → Type 0
IsStartWithin n s = (s.0 ≤ s.1) × (s.1 < n)
