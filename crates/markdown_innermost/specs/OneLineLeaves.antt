-- Trees whose leaves stand on lines, and whose groups around nothing stand at one place.
use Rattle.std.specs.Prelude.{◌≡◌, Bool, true, false, List, [], ◌∷◌, ◌++◌, Some, None, ◌⊎◌}
use Rattle.markdown_content.specs.Codes.{Code, document_start, stop_of}
use Rattle.markdown_content.specs.Tree.{Forest, empty, leaf_then, group_then, leaf_codes}
use Rattle.markdown_event.specs.declared.event.Name.{Name}
use Rattle.markdown_event.specs.declared.event.Name.TheVariants as N
use Rattle.markdown_event.specs.declared.event.Point.{Point}
use Rattle.markdown_model.specs.CodeLines.{IsLine, IsSomeLine, IsOnLine}
use Rattle.markdown_model.specs.LabelEnd.{Element, plain, starts, ends}

-- data, or a run of markers: what no pair takes of it is data
abbrev pub makes_data : Name → Bool
makes_data N.Data = true
makes_data N.AttentionSequence = true
makes_data _ = false

-- these codes stand in that list one after another
abbrev pub IsIn : List Code → List Code → Type 0
IsIn xs cs = (a : List Code) × (b : List Code) × (cs ≡ a ++ (xs ++ b))

-- each leaf stands on a line, data and runs without a line ending, and of each group without a code this is said of its places
abbrev pub IsLined : (Point → Point → Type 0) → Forest → Type 0
IsLined E empty = Unit {0}
IsLined E (leaf_then name link cs rest) = (IsOnLine cs × (makes_data name ≡ true → IsLine cs)) × IsLined E rest
IsLined E (group_then name enter exit inside rest) = (leaf_codes inside ≡ [] → E enter exit) × (IsLined E inside × IsLined E rest)

-- both are the document's start
abbrev pub AtStart : Point → Point → Type 0
AtStart a b = (a ≡ document_start) × (b ≡ document_start)

-- the first is where some codes of the list end that are on a line, and the second where the code behind them begins
pub record StandsBetween (cs : List Code) (a b : Point) : Type 0 where
  pub front : List Code
  pub next : Code
  pub line : IsSomeLine front
  pub stands : IsIn (front ++ next ∷ []) cs
  pub from : a ≡ stop_of document_start front
  pub to : b ≡ next.start

-- this is said of the two, or they stand between codes of the list
abbrev pub HoldsOrIsBetween : (Point → Point → Type 0) → List Code → Point → Point → Type 0
HoldsOrIsBetween B cs a b = B a b ⊎ StandsBetween cs a b

-- a tree whose groups without a code stand so between its own codes
abbrev pub IsApartTree : (Point → Point → Type 0) → Forest → Type 0
IsApartTree B t = IsLined (HoldsOrIsBetween B (leaf_codes t)) t

-- an element whose trees and markers are on lines
abbrev pub IsLinedElement : Element → Type 0
IsLinedElement (plain t) = IsLined AtStart t
IsLinedElement (starts kind marker) = IsSomeLine marker
IsLinedElement (ends marker None) = IsSomeLine marker
IsLinedElement (ends marker (Some outcome)) = IsSomeLine marker × IsLined AtStart outcome.1
