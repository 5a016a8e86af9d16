-- The words of worked examples: settings, contents and events.
use Rattle.std.specs.Prelude.{ℕ, Bool, false, List, [], ◌∷◌, Option, Some, None}
use Rattle.markdown_content.specs.DefaultOptions.{default_options}
use Rattle.markdown_content.specs.declared.configuration.ParseOptions.{ParseOptions}
use Rattle.markdown_event.specs.declared.event.Name.{Name}
use Rattle.markdown_event.specs.declared.event.Content.{Content}
use Rattle.markdown_event.specs.declared.event.Event.{Event}
use Rattle.markdown_event.specs.declared.event.Kind.{Kind}
use Rattle.markdown_event.specs.declared.event.Point.{Point}
use Rattle.markdown_content.specs.declared.parser.Piece.{Piece}
use Rattle.markdown_content.specs.Codes.{codes_of}
use Rattle.markdown_content.specs.Content.{content_of}
use Rattle.markdown_content.specs.Tree.{Forest, empty, leaf_then, group_then, events_of}
use Rattle.markdown_model.specs.Grammar.{Reading}
use Rattle.markdown_model.specs.CodeTests.{is_among, next_is}
use Rattle.markdown_model.specs.TextLines.{data_up_to}
use Rattle.markdown_model.specs.Whitespace.{space_or_tab_eol, space_or_tab}
use Rattle.markdown_model.specs.Resource.{label, reference_names, title, title_names, destination, resource_names}
use Rattle.markdown_model.specs.Setting.{Setting, references_of}
use Rattle.markdown_model.specs.InlineTree.{text_tree, string_tree, label_tree, run_count, pair_count, probe_bound, opener_count, closer_count, list_probe_bound}

-- what an example says of its setting: the options, and what is defined
pub record RowSetting : Type 0 where
  pub options : ParseOptions
  pub first_of_item : Bool
  pub definitions : List (List ℕ)
  pub footnotes : List (List ℕ)

-- the default options, and nothing defined
abbrev pub default : RowSetting
default = record {
  options = default_options;
  first_of_item = false;
  definitions = [];
  footnotes = [];
}

-- with the options of the example, and the references that they choose
abbrev pub setting : RowSetting → List ℕ → Setting
setting r bytes = record {
  bytes = bytes;
  options = r.options;
  references = references_of r.options;
  definitions = r.definitions;
  footnotes = r.footnotes;
  first_of_item = r.first_of_item;
  content = [];
}

-- from an index and codes of the tab there to another
abbrev pub piece : ℕ → ℕ → ℕ → ℕ → Piece
piece i v j w = record { start = (i, v); end = (j, w) }

abbrev pub point : ℕ → ℕ → ℕ → ℕ → Point
point l c i v = record { line = l; column = c; index = i; vs = v }

-- an event at a line, a column, an index and codes of the tab there
abbrev pub enter : Name → ℕ → ℕ → ℕ → ℕ → Event
enter name l c i v = record { kind = Kind.Enter; name = name; point = point l c i v; link = None }

abbrev pub exit : Name → ℕ → ℕ → ℕ → ℕ → Event
exit name l c i v = record { kind = Kind.Exit; name = name; point = point l c i v; link = None }

-- on a chain, between the events with these numbers
abbrev pub chained : Name → ℕ → ℕ → ℕ → ℕ → Option ℕ → Option ℕ → Event
chained name l c i v previous next = record { kind = Kind.Enter; name = name; point = point l c i v; link = Some (record { previous = previous; next = next; content = Content.String }) }

-- siblings alone, without what is inside their groups
abbrev pub outermost : Forest → Forest
outermost empty = empty
outermost (leaf_then name link cs rest) = leaf_then name link cs (outermost rest)
outermost (group_then name from to inside rest) = group_then name from to empty (outermost rest)

abbrev pub text_answer : RowSetting → List ℕ → List Piece → List Event
text_answer r bytes pieces = events_of (text_tree (setting r bytes) (content_of bytes pieces))

abbrev pub string_answer : RowSetting → List ℕ → List Piece → List Event
string_answer r bytes pieces = events_of (string_tree (setting r bytes) (content_of bytes pieces))

abbrev pub text_outline : RowSetting → List ℕ → List Piece → List Event
text_outline r bytes pieces = events_of (outermost (text_tree (setting r bytes) (content_of bytes pieces)))

abbrev pub string_outline : RowSetting → List ℕ → List Piece → List Event
string_outline r bytes pieces = events_of (outermost (string_tree (setting r bytes) (content_of bytes pieces)))

-- the runs and the pairs of all containers, and the bound on the probes
abbrev pub counts_answer : RowSetting → List ℕ → List Piece → List ℕ
counts_answer r bytes pieces =
    let s = setting r bytes in
    let tree = label_tree s (content_of bytes pieces) in
    run_count s tree ∷ pair_count s tree ∷ probe_bound s tree ∷ []

-- the runs of all containers that may open, those that may close, and the sharper bound on the probes
abbrev pub looks_answer : RowSetting → List ℕ → List Piece → List ℕ
looks_answer r bytes pieces =
    let s = setting r bytes in
    let tree = label_tree s (content_of bytes pieces) in
    opener_count s tree ∷ closer_count s tree ∷ list_probe_bound s tree ∷ []

-- One construct, read at the start of a document.

abbrev pub read_at_start : Reading Forest → List ℕ → Option (List Event)
read_at_start a bytes = elim (a (codes_of bytes)) [ None ↦ None | Some r ↦ Some (events_of r.0) ]

-- a label or a title, by CommonMark's rules if `commonmark` says so
abbrev pub label_answer : Bool → List ℕ → Option (List Event)
label_answer commonmark bytes = read_at_start (label commonmark reference_names) bytes

abbrev pub title_answer : Bool → List ℕ → Option (List Event)
title_answer commonmark bytes = read_at_start (title commonmark title_names) bytes

abbrev pub destination_answer : List ℕ → Option (List Event)
destination_answer bytes = read_at_start (destination 32 resource_names) bytes

abbrev pub spacing_answer : Option Content → List ℕ → Option (List Event)
spacing_answer link bytes = read_at_start (space_or_tab_eol link) bytes

abbrev pub bounded_answer : Option Content → ℕ → ℕ → List ℕ → Option (List Event)
bounded_answer link min max bytes = read_at_start (space_or_tab Name.SpaceOrTab link min max) bytes

abbrev pub data_answer : List ℕ → List ℕ → Option (List Event)
data_answer markers bytes = read_at_start (data_up_to (next_is (is_among markers))) bytes
