-- The innermost events of a list, in order, what is lent for each, and the leaves of a tree.
use Rattle.std.specs.Prelude.{◌≡◌, ℕ, Bool, true, false, if◌then◌else◌, ◌<◌, ◌-◌, List, [], ◌∷◌, ◌++◌, length, drop, slice_index_or}
use Rattle.markdown_content.specs.Codes.{Code, stop_of, document_start}
use Rattle.markdown_content.specs.Slices.{position_bytes, spaces_before, spaces_after}
use Rattle.markdown_content.specs.Tree.{Forest, empty, leaf_then, group_then, start_of}
use Rattle.markdown_content.specs.DocumentWalk.{IsPoint}
use Rattle.markdown_event.specs.declared.event.Event.{Event}
use Rattle.markdown_event.specs.declared.event.Kind.{Kind}
use Rattle.markdown_event.specs.declared.event.Kind.TheVariants.{Enter, Exit}
use Rattle.markdown_event.specs.declared.event.Name.{Name}
use Rattle.markdown_event.specs.declared.event.Point.{Point}
use Rattle.markdown_passes.specs.TrimmedData.{between, IsStretch}
use Rattle.markdown_passes.specs.TrimmedEvents.{AreDocumentCodes}

-- a name, where it begins and where it ends
pub record Span : Type 0 where
  pub name : Name
  pub start : Point
  pub end : Point

abbrev pub span_of : Event → Event → Span
span_of e x = record { name = e.name; start = e.point; end = x.point }

-- an Enter with its Exit right behind it
abbrev pub has_nothing_inside : Kind → Kind → Bool
has_nothing_inside Enter Exit = true
has_nothing_inside _ _ = false

-- the innermost events
abbrev pub innermost : List Event → List Span
innermost [] = []
innermost (e ∷ []) = []
innermost (e ∷ x ∷ es) = (if has_nothing_inside e.kind x.kind then span_of e x ∷ [] else []) ++ innermost (x ∷ es)

-- a name with its places, and what is lent of the document from the one to the other
pub record Lent : Type 0 where
  pub name : Name
  pub start : Point
  pub end : Point
  pub bytes : List ℕ
  pub before : ℕ
  pub after : ℕ

unfoldable pub lent : List ℕ → Span → Lent
lent bytes s = record {
  name = s.name;
  start = s.start;
  end = s.end;
  bytes = position_bytes bytes s.start s.end;
  before = spaces_before bytes s.start s.end;
  after = spaces_after bytes s.start s.end;
}

-- it begins and ends at places of the document, its end not before its start
abbrev pub IsSpanInOrder : List ℕ → Span → Type 0
IsSpanInOrder bytes s = IsStretch bytes s.start s.end

-- the first innermost event ends at the event of this number, and the others follow from there on
pub record BeginsInnermost (es : List Event) (n : ℕ) : Type 0 where
  pub from_one : 0 < n
  pub within : n < length es
  pub first : (d : Event) → innermost es ≡ span_of (slice_index_or es (n - 1) d) (slice_index_or es n d) ∷ innermost (drop n es)

-- the leaves of a tree, and its groups around nothing
abbrev pub leaves_of : Forest → List Span
leaves_of empty = []
leaves_of (leaf_then name link cs rest) = record { name = name; start = start_of cs; end = stop_of document_start cs } ∷ leaves_of rest
leaves_of (group_then name a b empty rest) = record { name = name; start = a; end = b } ∷ leaves_of rest
leaves_of (group_then name a b inside rest) = leaves_of inside ++ leaves_of rest

-- the codes from the start to the end of each
abbrev pub covered : List ℕ → List Lent → List Code
covered bytes [] = []
covered bytes (l ∷ ls) = between bytes l.start l.end ++ covered bytes ls

-- each leaf covers codes that follow one another in the document, and a group around nothing stands at one place
abbrev pub HasLeaves : List ℕ → Forest → Type 0
HasLeaves bytes empty = Unit {0}
HasLeaves bytes (leaf_then name link cs rest) = AreDocumentCodes bytes cs × HasLeaves bytes rest
HasLeaves bytes (group_then name a b empty rest) = (IsPoint bytes a × (a ≡ b)) × HasLeaves bytes rest
HasLeaves bytes (group_then name a b inside rest) = HasLeaves bytes inside × HasLeaves bytes rest
