-- Which events refer to definitions.
use Rattle.std.proofs.Common.{◌≡◌, ap, refl, ℕ, false, List, [], Option, None, Some}
use Rattle.std.specs.Option.{option_and_then}
use Rattle.markdown_tree.specs.Numbers.{number_of}
use Rattle.markdown_tree.specs.Referred.{Given, behind, definition_of, first_inside, met, met_by, named_by_label, named_by_part, named_by_reference, named_by_tail, named_by_text, node_identifier, second_inside}
use Rattle.markdown_event.specs.declared.event.Event.{Event}
use Rattle.markdown_event.specs.declared.event.Name.{Name}
use Rattle.markdown_tree.specs.Nodes.{node_at}
use Rattle.markdown_tree.specs.declared.node.Node.{Node}
use Rattle.markdown_inline_c.specs.ShortEvents.{HasNone}

-- a step that never finds anything
pub and-none : {A B : Type 0} (f : A → Option B) (o : Option A) → ((a : A) → f a ≡ None) → option_and_then f o ≡ None
and-none f None h = refl
and-none f (Some a) h = h a

-- Without definitions nothing refers to one.

by-label : (g : Given) (es : List Event) (label : Node) → g.definitions ≡ [] → named_by_label g es label ≡ None
by-label g es label e =
    and-none (λ identifier. number_of identifier g.definitions) (option_and_then (node_identifier g g.footnotes_on) (second_inside es label))
    (λ identifier. ap (number_of identifier) e)

by-text : (g : Given) (node : Node) → g.definitions ≡ [] → named_by_text g node ≡ None
by-text g node e = and-none (λ identifier. number_of identifier g.definitions) (node_identifier g false node) (λ identifier. ap (number_of identifier) e)

by-part : (g : Given) (es : List Event) (label : Node) (name : Name) (node : Node) → g.definitions ≡ [] → named_by_part g es label name node ≡ None
by-part g es label Name.ReferenceString node e = by-text g node e
by-part g es label name node e = by-label g es label e

by-reference : (g : Given) (es : List Event) (label : Node) (part : Option Node) → g.definitions ≡ [] → named_by_reference g es label part ≡ None
by-reference g es label None e = refl
by-reference g es label (Some node) e = by-part g es label node.name node e

by-tail : (g : Given) (es : List Event) (label : Node) (name : Name) (tail : Node) → g.definitions ≡ [] → named_by_tail g es label name tail ≡ None
by-tail g es label Name.Reference tail e = by-reference g es label (second_inside es tail) e
by-tail g es label name tail e = refl

by-definition : (g : Given) (es : List Event) (label : Node) (tail : Option Node) → g.definitions ≡ [] → definition_of g es label tail ≡ None
by-definition g es label None e = by-label g es label e
by-definition g es label (Some tail) e = by-tail g es label tail.name tail e

by-name : (g : Given) (es : List Event) (name : Name) (label : Node) → HasNone g → met_by g es name label ≡ None
by-name g es Name.Link label none = by-definition g es label (behind es label) none.definitions
by-name g es Name.Image label none = by-definition g es label (behind es label) none.definitions
by-name g es Name.GfmFootnoteCall label none =
    and-none (λ identifier. number_of identifier g.footnotes) (option_and_then (node_identifier g false) (second_inside es label)) (λ identifier. ap (number_of identifier) none.footnotes)
by-name g es name label none = refl

pub none_met : (g : Given) (es : List Event) (n : ℕ) → HasNone g → met g es n ≡ None
none_met g es n none =
    and-none (λ (node : Node). option_and_then (met_by g es node.name) (first_inside es node)) (node_at es n)
    (λ (node : Node). and-none (met_by g es node.name) (first_inside es node) (λ label. by-name g es node.name label none))
