-- Which definition a link or an image refers to, and which footnote a call (CommonMark 6.3 and 6.4; footnote calls).
use Rattle.std.specs.Prelude.{ℕ, Bool, false, ◌&&◌, ◌==◌, nat_le, if◌then◌else◌, List, ◌∷◌, length, codes, drop, slice_range, Option, None, Some}
use Rattle.std.specs.List.{starts_with}
use Rattle.std.specs.Option.{option_and_then, option_map}
use Rattle.std.specs.Str.{byte, is_utf8}
use Rattle.markdown_event.specs.declared.event.Event.{Event}
use Rattle.markdown_event.specs.declared.event.Name.{Name}
use Rattle.markdown_content.specs.Codes.{Code}
use Rattle.markdown_content.specs.ContentBytes.{bytes_within}
use Rattle.markdown_content.specs.declared.configuration.Rules.{Rules}
use Rattle.markdown_util.specs.Identifier.{identifier_by}
use Rattle.markdown_tree.specs.declared.node.Node.{Node}
use Rattle.markdown_tree.specs.Nodes.{first_child_at, next_sibling_at, node_at}
use Rattle.markdown_tree.specs.Numbers.{number_of}

-- the document, the content that was read, the rules, whether footnotes are looked for, and the identifiers of the definitions and of those of footnotes
pub record Given : Type 0 where
  pub bytes : List ℕ
  pub content : List Code
  pub rules : Rules
  pub footnotes_on : Bool
  pub definitions : List (List ℕ)
  pub footnotes : List (List ℕ)

-- Nodes beside a node.

abbrev pub first_inside : List Event → Node → Option Node
first_inside es node = option_and_then (node_at es) (first_child_at es node.enter)

abbrev pub behind : List Event → Node → Option Node
behind es node = option_and_then (node_at es) (next_sibling_at es node.enter)

-- what stands inside a node behind its start: the text of a label, and that of a reference
abbrev pub second_inside : List Event → Node → Option Node
second_inside es node = option_and_then (behind es) (first_inside es node)

-- Texts.

-- The text from an index of the document to another. By CommonMark it is the content's; else it is the document's, so prefixes of later lines are in it.
abbrev pub text_between : Given → ℕ → ℕ → List ℕ
text_between g from to = if g.rules.labels_by_text then bytes_within g.bytes from to g.content else slice_range g.bytes from to

-- the text from where a node begins to where it ends
abbrev pub bytes_of : Given → Node → Option (List ℕ)
bytes_of g node =
    if nat_le node.start.index node.end.index && nat_le node.end.index (length g.bytes) then Some (text_between g node.start.index node.end.index) else None

abbrev pub if_utf8 : List ℕ → Option (List ℕ)
if_utf8 text = if is_utf8 text then Some text else None

-- that text, which is UTF-8 as the document is
abbrev pub text_of : Given → Node → Option (List ℕ)
text_of g node = option_and_then if_utf8 (bytes_of g node)

-- Identifiers. By CommonMark NUL is read as U+FFFD in them.

abbrev pub behind_caret : List ℕ → Option (List ℕ)
behind_caret text = if starts_with (◌==◌) text (codes "^") then Some (drop 1 text) else None

-- where a start with a caret has no footnote, the caret stands before the identifier of what follows it
abbrev pub undefined_footnote : Bool → List ℕ → List ℕ
undefined_footnote nul_is_replaced text =
    elim (behind_caret text) [ None ↦ identifier_by nul_is_replaced text | Some rest ↦ byte "^" ∷ identifier_by nul_is_replaced rest ]

-- the identifier of a text, where it is that of a label, before whose text a caret may stand, or another
abbrev pub label_identifier : (has_caret nul_is_replaced : Bool) → List ℕ → List ℕ
label_identifier has_caret nul_is_replaced text = if has_caret then undefined_footnote nul_is_replaced text else identifier_by nul_is_replaced text

-- the identifier of bytes, where they are a text
abbrev pub identifier_in : Given → Bool → List ℕ → Option (List ℕ)
identifier_in g has_caret bytes = option_map (label_identifier has_caret g.rules.nul_is_replaced) (if_utf8 bytes)

-- that of the text of a node
abbrev pub node_identifier : Given → Bool → Node → Option (List ℕ)
node_identifier g has_caret node = option_map (label_identifier has_caret g.rules.nul_is_replaced) (text_of g node)

-- Links and images.

-- the definition that the text of the label names
abbrev pub named_by_label : Given → List Event → Node → Option ℕ
named_by_label g es label =
    option_and_then (λ identifier. number_of identifier g.definitions) (option_and_then (node_identifier g g.footnotes_on) (second_inside es label))

-- the definition that the text of a reference names
abbrev pub named_by_text : Given → Node → Option ℕ
named_by_text g node = option_and_then (λ identifier. number_of identifier g.definitions) (node_identifier g false node)

-- by what stands behind the bracket of a reference: a full one has a text, a collapsed one goes by the label
abbrev pub named_by_part : Given → List Event → Node → Name → Node → Option ℕ
named_by_part g es label Name.ReferenceString node = named_by_text g node
named_by_part g es label name node = named_by_label g es label

abbrev pub named_by_reference : Given → List Event → Node → Option Node → Option ℕ
named_by_reference g es label None = None
named_by_reference g es label (Some node) = named_by_part g es label node.name node

-- by what follows the label: a resource names no definition
abbrev pub named_by_tail : Given → List Event → Node → Name → Node → Option ℕ
named_by_tail g es label Name.Reference tail = named_by_reference g es label (second_inside es tail)
named_by_tail g es label name tail = None

-- a shortcut has nothing behind its label
abbrev pub definition_of : Given → List Event → Node → Option Node → Option ℕ
definition_of g es label None = named_by_label g es label
definition_of g es label (Some tail) = named_by_tail g es label tail.name tail

-- Footnote calls.

abbrev pub footnote_of : Given → List Event → Node → Option ℕ
footnote_of g es label =
    option_and_then (λ identifier. number_of identifier g.footnotes) (option_and_then (node_identifier g false) (second_inside es label))

-- by the name of a node, and its label
abbrev pub met_by : Given → List Event → Name → Node → Option ℕ
met_by g es Name.Link label = definition_of g es label (behind es label)
met_by g es Name.Image label = definition_of g es label (behind es label)
met_by g es Name.GfmFootnoteCall label = footnote_of g es label
met_by g es name label = None

-- the number of the definition or of the footnote that a node refers to
abbrev pub met : Given → List Event → ℕ → Option ℕ
met g es n = option_and_then (λ (node : Node). option_and_then (met_by g es node.name) (first_inside es node)) (node_at es n)
