-- Laws on the definitions.
use Rattle.std.specs.Prelude.{◌≡◌, ◌↔◌, ℕ, zero, suc, ◌*◌, ◌<◌, ◌≤◌, List, [], ◌∷◌, ◌++◌, length, reverse, map, sum_by, Bool, true, false, ◌&&◌, ◌||◌, not, drop, Contains, Option, Some, None}
use Rattle.std.specs.Str.{byte}
use Rattle.markdown_event.specs.declared.event.Name.{Name}
use Rattle.markdown_event.specs.declared.event.Event.{Event}
use Rattle.markdown_event.specs.declared.event.Kind.{Kind}
use Rattle.markdown_content.specs.declared.label_kind.LabelKind.{LabelKind}
use Rattle.markdown_content.specs.Codes.{Code}
use Rattle.markdown_content.specs.Tree.{Forest, empty, leaf_then, group_then, leaf_codes, events_of}
use Rattle.markdown_model.specs.CodeTests.{is_value}
use Rattle.markdown_model.specs.Grammar.{Reading, one, ◌then_◌, repeatedly}
use Rattle.markdown_model.specs.Resource.{StringNames, DestinationNames, label, title, destination, resource}
use Rattle.markdown_model.specs.LeafConstructs.{domain_label}
use Rattle.markdown_model.specs.HtmlText.{spaces, attribute}
use Rattle.markdown_model.specs.GfmEmailLiteral.{email_leaves, with_emails}
use Rattle.markdown_model.specs.Setting.{Setting, rules}
use Rattle.markdown_model.specs.LabelEnd.{Element, plain, starts, ends, Label, label_before, is_image, makes_link, is_barred, after_label}
use Rattle.markdown_model.specs.Elements.{AreElements, AreStringElements, elements_of, string_elements_of}
use Rattle.markdown_model.specs.Runs.{Run, marker_of}
use Rattle.markdown_model.specs.Pairs.{Pair, run_at, taken_by, IsPairList, pair_list}
use Rattle.markdown_model.specs.Passes.{merged, with_emails_apart}
use Rattle.markdown_model.specs.InlineTree.{IsTextTree, IsStringTree, text_tree, string_tree}

-- it holds of x, and of nothing else
abbrev pub HoldsAtOne : {A : Type 0} → (A → Type 0) → A → Type 0
HoldsAtOne {A} P x = P x × ((y : A) → P y → y ≡ x)

-- each container has exactly one pair list, whatever sizes the rule of three reads
abbrev pub OnePairList : Type 0
OnePairList = (s : Setting) (runs : List Run) → HoldsAtOne (IsPairList s runs) (pair_list s runs)

-- each content has exactly one list of elements, read as text and read as a string
abbrev pub OneElementList : Type 0
OneElementList = (s : Setting) (cs : List Code) → HoldsAtOne (AreElements s cs) (elements_of s cs) × HoldsAtOne (AreStringElements s cs) (string_elements_of s cs)

-- each content has exactly one inline tree, as text and as a string
abbrev pub OneTree : Type 0
OneTree = (s : Setting) (cs : List Code) → HoldsAtOne (IsTextTree s cs) (text_tree s cs) × HoldsAtOne (IsStringTree s cs) (string_tree s cs)

-- After events with these names are open, innermost first, these events end them all, each Exit the
-- innermost one, whose name it has.
abbrev pub AreNestedIn : List Name → List Event → Type 0
AreNestedIn outer [] = outer ≡ []
AreNestedIn outer (e ∷ es) =
    elim e.kind [
      | Kind.Enter ↦ AreNestedIn (e.name ∷ outer) es
      | Kind.Exit ↦ (rest : List Name) × (outer ≡ e.name ∷ rest) × AreNestedIn rest es
    ]

-- the events of a tree are balanced, nested, and agree in name
abbrev pub EventsNest : Type 0
EventsNest = (tree : Forest) → AreNestedIn [] (events_of tree)

-- the leaves of an inline tree cover each code of the content once, in order
abbrev pub LeavesCover : Type 0
LeavesCover = (s : Setting) (cs : List Code) → (leaf_codes (text_tree s cs) ≡ cs) × (leaf_codes (string_tree s cs) ≡ cs)

-- where a construct begins it has one end and one tree at most, and the tree covers the codes up to the end
abbrev pub HasOneEnd : Reading Forest → Type 0
HasOneEnd a =
    (cs : List Code) (tree other : Forest) (rest more : List Code)
    → a cs ≡ Some (tree, rest) → a cs ≡ Some (other, more) → (tree ≡ other) × (rest ≡ more) × (leaf_codes tree ++ rest ≡ cs)

pub record OneEnd : Type 0 where
  pub a_label : (characters : Bool) (names : StringNames) → HasOneEnd (label characters names)
  pub a_title : (both : Bool) (names : StringNames) → HasOneEnd (title both names)
  pub a_destination : (depth : ℕ) (names : DestinationNames) → HasOneEnd (destination depth names)
  pub a_resource : (both : Bool) → HasOneEnd (resource both)
  pub what_follows_a_label : (s : Setting) → HasOneEnd (after_label s true) × HasOneEnd (after_label s false)

-- where the reading holds it reads a code at least
abbrev pub ReadsACode : Reading (List Code) → Type 0
ReadsACode a = (cs text rest : List Code) → a cs ≡ Some (text, rest) → length rest < length cs

-- The numbers of steps that definitions count down are enough.
pub record CountsSuffice : Type 0 where
  -- what is repeated stops only where it no longer holds
  pub repeats : (a : Reading (List Code)) → ReadsACode a → (cs text rest : List Code) → repeatedly a cs ≡ Some (text, rest) → a rest ≡ None
  -- so do the attributes of a tag, and the labels of an address
  pub an_attribute : (slashes : Bool) → ReadsACode (spaces then_ attribute slashes)
  pub a_label : ReadsACode (one (is_value (byte ".")) then_ domain_label)
  -- with more steps no more emails are found
  pub emails : (n : ℕ) (cs : List Code) → length cs ≤ n → email_leaves n [] cs ≡ with_emails cs

-- Labels: after these elements, last one first, an end closes this label. What stands inside it is
-- balanced: it has as many ends as starts, and no end before its start.

-- how many starts are unused after these elements, where d were before; none where an end finds none
abbrev pub unused_after : ℕ → List Element → Option ℕ
unused_after d [] = Some d
unused_after d (plain tree ∷ es) = unused_after d es
unused_after d (starts kind marker ∷ es) = unused_after (suc d) es
unused_after zero (ends marker outcome ∷ es) = None
unused_after (suc d) (ends marker outcome ∷ es) = unused_after d es

pub record Closes (earlier : List Element) (l : Label) : Type 0 where
  pub balanced : unused_after 0 l.inside ≡ Some 0
  pub before : List Element
  pub stands : earlier ≡ reverse l.inside ++ starts l.kind l.marker ∷ before

-- an end closes the start before it between which and it the starts and ends are balanced, and no other
abbrev pub LabelsMatch : Type 0
LabelsMatch = (earlier : List Element) (l : Label) → (label_before earlier ≡ Some l) ↔ Closes earlier l

-- a start that no end has used up, and whether a link or a footnote call ended after it
pub record UnusedStart : Type 0 where
  pub kind : LabelKind
  pub marker : List Code
  pub before_link : Bool

abbrev pub with_link : Bool → UnusedStart → UnusedStart
with_link link u = record u { before_link = u.before_link || link }

-- the unused starts after these elements, last one first: an end uses up the nearest
abbrev pub unused_starts : List Element → List UnusedStart
unused_starts [] = []
unused_starts (plain tree ∷ earlier) = unused_starts earlier
unused_starts (starts kind marker ∷ earlier) = record { kind = kind; marker = marker; before_link = false } ∷ unused_starts earlier
unused_starts (ends marker outcome ∷ earlier) = map (with_link (makes_link (ends marker outcome))) (drop 1 (unused_starts earlier))

-- the label that an end closes begins with this start, if there is one
abbrev pub IsLabelOf : List UnusedStart → Option Label → Type 0
IsLabelOf [] l = l ≡ None
IsLabelOf (u ∷ more) l = (label : Label) × (l ≡ Some label) × (label.kind ≡ u.kind) × (label.marker ≡ u.marker) × (is_barred label ≡ (not (is_image u.kind) && u.before_link))

-- an end takes the nearest unused start, which is barred if it is no image's and a link or a call ended after it
abbrev pub EndsTakeTheNearest : Type 0
EndsTakeTheNearest = (earlier : List Element) → IsLabelOf (unused_starts earlier) (label_before earlier)

-- Links: a link or a footnote call does not stand inside another.

abbrev pub is_link : Name → Bool
is_link Name.Link = true
is_link Name.GfmFootnoteCall = true
is_link _ = false

-- a link or a footnote call is one of the siblings, or stands inside one
abbrev pub holds_link : Forest → Bool
holds_link empty = false
holds_link (leaf_then name link cs rest) = holds_link rest
holds_link (group_then name enter exit inside rest) = is_link name || (holds_link inside || holds_link rest)

abbrev pub AreApart : Forest → Type 0
AreApart empty = Unit {0}
AreApart (leaf_then name link cs rest) = AreApart rest
AreApart (group_then name enter exit inside rest) = (is_link name ≡ true → holds_link inside ≡ false) × AreApart inside × AreApart rest

abbrev pub LinksDoNotNest : Type 0
LinksDoNotNest = (s : Setting) (cs : List Code) → AreApart (text_tree s cs)

-- Passes.

abbrev pub begins_data : Forest → Bool
begins_data (leaf_then Name.Data None cs rest) = true
begins_data _ = false

-- no two data without a link are neighbours, among the siblings or inside them
abbrev pub IsDataApart : Forest → Type 0
IsDataApart empty = Unit {0}
IsDataApart (leaf_then Name.Data None cs rest) = (begins_data rest ≡ false) × IsDataApart rest
IsDataApart (leaf_then name link cs rest) = IsDataApart rest
IsDataApart (group_then name enter exit inside rest) = IsDataApart inside × IsDataApart rest

-- after merging no two data without a link are neighbours
abbrev pub MergedDataIsApart : Type 0
MergedDataIsApart = (tree : Forest) → IsDataApart (merged tree)

abbrev pub is_run : Name → Bool
is_run Name.AttentionSequence = true
is_run _ = false

-- no leaf is a run of markers
abbrev pub HasNoRun : Forest → Type 0
HasNoRun empty = Unit {0}
HasNoRun (leaf_then name link cs rest) = (is_run name ≡ false) × HasNoRun rest
HasNoRun (group_then name enter exit inside rest) = HasNoRun inside × HasNoRun rest

-- in the inline tree of a text no run of markers is left: its markers are sequences of pairs, or data
abbrev pub NoRunIsLeft : Type 0
NoRunIsLeft = (s : Setting) (cs : List Code) → HasNoRun (text_tree s cs)

-- what stands inside each link that is in no other
abbrev pub insides_of_links : Forest → List Forest
insides_of_links empty = []
insides_of_links (leaf_then name link cs rest) = insides_of_links rest
insides_of_links (group_then Name.Link enter exit inside rest) = inside ∷ insides_of_links rest
insides_of_links (group_then name enter exit inside rest) = insides_of_links inside ++ insides_of_links rest

-- finding emails leaves what stands in a link as it is
abbrev pub LinksAreNotMailed : Type 0
LinksAreNotMailed = (tree : Forest) → insides_of_links (with_emails_apart tree) ≡ insides_of_links tree

-- Pairs.

-- two pairs overlap, and neither stands inside the other
abbrev pub Cross : Pair → Pair → Type 0
Cross p q = (p.opener < q.opener) × (q.opener < p.closer) × (p.closer < q.closer)

-- each marker is taken once at most, pairs do not cross, and they are at most half as many as the markers
pub record AreSound (runs : List Run) (pairs : List Pair) : Type 0 where
  pub taken_once : (i : ℕ) → sum_by (taken_by i) pairs ≤ length (run_at runs i).codes
  pub do_not_cross : (p q : Pair) → Contains pairs p → Contains pairs q → Cross p q → ⊥
  pub half : 2 * length pairs ≤ sum_by (λ r. length r.codes) runs

abbrev pub PairsAreSound : Type 0
PairsAreSound = (s : Setting) (runs : List Run) (pairs : List Pair) → IsPairList s runs pairs → AreSound runs pairs

-- what pairs depend on in a run
pub record Shape : Type 0 where
  pub marker : ℕ
  pub size : ℕ
  pub may_open : Bool
  pub may_close : Bool

abbrev pub shape_of : Run → Shape
shape_of r = record { marker = marker_of r.codes; size = length r.codes; may_open = r.may_open; may_close = r.may_close }

-- two settings agree in the options that pairs depend on
pub record ReadsPairsAlike (s other : Setting) : Type 0 where
  pub lengths : (rules s).whole_lengths ≡ (rules other).whole_lengths
  pub tildes : s.options.gfm_strikethrough_single_tilde ≡ other.options.gfm_strikethrough_single_tilde

-- containers whose runs agree in marker, size, and what they may do have the same pair list, also in two documents
abbrev pub PairsAreLocal : Type 0
PairsAreLocal =
    (s other : Setting) (runs others : List Run) (pairs : List Pair)
    → ReadsPairsAlike s other → map shape_of runs ≡ map shape_of others → IsPairList s runs pairs → IsPairList other others pairs
