-- Where links, images, autolinks, literals and footnote calls lead (CommonMark 6.3 to 6.5; GFM 6.9; footnote calls).
use Rattle.std.specs.Prelude.{ℕ, Bool, true, false, ◌&&◌, nat_le, if◌then◌else◌, List, [], ◌∷◌, ◌++◌, length, codes, slice_range, Option, None, Some}
use Rattle.std.specs.List.{list_any}
use Rattle.std.specs.Option.{option_and_then, option_map}
use Rattle.std.specs.Str.{byte}
use Rattle.markdown_event.specs.declared.event.Event.{Event}
use Rattle.markdown_event.specs.declared.event.Kind.{Kind}
use Rattle.markdown_event.specs.declared.event.Kind.TheVariants.{Enter, Exit}
use Rattle.markdown_event.specs.declared.event.Name.{Name}
use Rattle.markdown_html_model.specs.Resolved.{resolved}
use Rattle.markdown_util.specs.declared.decoding.Decoding.{Decoding}
use Rattle.markdown_tree.specs.declared.node.Node.{Node}
use Rattle.markdown_tree.specs.Nodes.{events_at, node_at}
use Rattle.markdown_tree.specs.Referred.{Given, met, second_inside}
use Rattle.markdown_targets.specs.declared.strings.Part.{Part}

-- an address with a title, that stands in the document; or the number of the definition, or of the footnote, that is referred to
pub data Led : Type 0 where
  address : List ℕ → Option (List ℕ) → Led
  definition : ℕ → Led
  footnote : ℕ → Led

-- Strings of a resource. Its events have their text in parts: data, and line endings between them.

abbrev pub stretch : List ℕ → ℕ → ℕ → List ℕ
stretch bytes from to = if nat_le from to && nat_le to (length bytes) then slice_range bytes from to else []

-- where the first of these events stands
abbrev pub next_index : List Event → ℕ
next_index [] = 0
next_index (e ∷ es) = e.point.index

abbrev pub part_text : List ℕ → Name → ℕ → ℕ → List ℕ
part_text bytes Name.Data from to = stretch bytes from to
part_text bytes Name.LineEnding from to = byte "\n" ∷ []
part_text bytes name from to = []

abbrev pub is_enter : Kind → Bool
is_enter Enter = true
is_enter Exit = false

-- what an event gives to the string that it stands in, by where the next of the rest stands
abbrev pub part : List ℕ → Bool → Event → List Event → List ℕ
part bytes is_in e rest = if is_in && is_enter e.kind then part_text bytes e.name e.point.index (next_index rest) else []

abbrev pub is_string : Part → Name → Bool
is_string Part.Destination Name.ResourceDestinationString = true
is_string Part.Title Name.ResourceTitleString = true
is_string string name = false

-- what follows an event stands inside the string
abbrev pub is_in_behind : Part → Event → Bool → Bool
is_in_behind string e is_in = if is_string string e.name then is_enter e.kind else is_in

abbrev pub text_inside : List ℕ → Part → Bool → List Event → List ℕ
text_inside bytes string is_in [] = []
text_inside bytes string is_in (e ∷ rest) = part bytes is_in e rest ++ text_inside bytes string (is_in_behind string e is_in) rest

-- the string, with escapes and references resolved
abbrev pub string_in : Decoding → List ℕ → Part → List Event → List ℕ
string_in how bytes string es = resolved how (text_inside bytes string false es)

abbrev pub is_title_name : Name → Bool
is_title_name Name.ResourceTitle = true
is_title_name name = false

abbrev pub is_title : Event → Bool
is_title e = is_title_name e.name

abbrev pub has_title : List Event → Bool
has_title es = list_any is_title es

abbrev pub title_in : Decoding → List ℕ → List Event → Option (List ℕ)
title_in how bytes es = if has_title es then Some (string_in how bytes Part.Title es) else None

-- by the events of a resource
abbrev pub resource_target : Decoding → List ℕ → List Event → Led
resource_target how bytes es = address (string_in how bytes Part.Destination es) (title_in how bytes es)

-- Addresses that are their own text, with this before it.

abbrev pub written : List ℕ → List ℕ → Node → Led
written bytes before node = address (before ++ stretch bytes node.start.index node.end.index) None

-- Nodes.

abbrev pub referred : Given → List Event → Node → Option Led
referred g es node = option_map definition (met g es node.enter)

abbrev pub called : Given → List Event → Node → Option Led
called g es node = option_map footnote (met g es node.enter)

-- by what follows the label
abbrev pub tail_target : Decoding → Given → List Event → Node → Name → Node → Option Led
tail_target how g es node Name.Resource tail = Some (resource_target how g.bytes (events_at es tail.enter))
tail_target how g es node name tail = referred g es node

abbrev pub link_target : Decoding → Given → List Event → Node → Option Node → Option Led
link_target how g es node None = referred g es node
link_target how g es node (Some tail) = tail_target how g es node tail.name tail

-- by what stands between the angle brackets
abbrev pub between_target : List ℕ → Name → Node → Option Led
between_target bytes Name.AutolinkProtocol node = Some (written bytes [] node)
between_target bytes Name.AutolinkEmail node = Some (written bytes (codes "mailto:") node)
between_target bytes name node = None

abbrev pub autolink_target : List ℕ → Option Node → Option Led
autolink_target bytes None = None
autolink_target bytes (Some node) = between_target bytes node.name node

abbrev pub node_target : Decoding → Given → List Event → Name → Node → Option Led
node_target how g es Name.Link node = link_target how g es node (second_inside es node)
node_target how g es Name.Image node = link_target how g es node (second_inside es node)
node_target how g es Name.GfmFootnoteCall node = called g es node
node_target how g es Name.Autolink node = autolink_target g.bytes (second_inside es node)
node_target how g es Name.GfmAutolinkLiteralProtocol node = Some (written g.bytes [] node)
node_target how g es Name.GfmAutolinkLiteralMailto node = Some (written g.bytes [] node)
node_target how g es Name.GfmAutolinkLiteralXmpp node = Some (written g.bytes [] node)
node_target how g es Name.GfmAutolinkLiteralWww node = Some (written g.bytes (codes "http://") node)
node_target how g es Name.GfmAutolinkLiteralEmail node = Some (written g.bytes (codes "mailto:") node)
node_target how g es name node = None

-- where the node of a number leads, where references are decoded in this way
abbrev pub target_at : Decoding → Given → List Event → ℕ → Option Led
target_at how g es n = option_and_then (λ (node : Node). node_target how g es node.name node) (node_at es n)
