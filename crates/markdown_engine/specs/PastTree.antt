-- A tokenizer past a tree, with the tree's events.
use Rattle.std.specs.Prelude.{◌≡◌, ℕ, ◌+◌, ◌-◌, Bool, true, false, List, [], ◌∷◌, ◌++◌, length, Option, Some, None, if◌then◌else◌}
use Rattle.markdown_content.specs.Codes.{Code, stop_of, document_start}
use Rattle.markdown_engine.specs.FailedRun.{Fails}
use Rattle.markdown_engine.specs.Operations.{ahead, applied, Enter, EnterLink, EnterConnected, link_back, scratched}
use Rattle.markdown_content.specs.Place.{Place, moved}
use Rattle.markdown_content.specs.Tree.{Forest, empty, leaf_then, group_then, ◌⊕◌, event_count, event, start_of, leaf_codes}
use Rattle.markdown_event.specs.declared.event.Content.{Content}
use Rattle.markdown_event.specs.declared.event.Event.{Event}
use Rattle.markdown_event.specs.declared.event.Kind.TheVariants as Kind
use Rattle.markdown_event.specs.declared.event.Link.{Link}
use Rattle.markdown_event.specs.declared.event.Name.{Name}
use Rattle.markdown_engine.specs.declared.tokenizer.TokenizeState.{TokenizeState}
use Rattle.markdown_engine.specs.declared.tokenizer.Tokenizer.{Tokenizer}

-- past as many codes
abbrev pub moved_by : List Code → Place → Place
moved_by [] p = p
moved_by (c ∷ cs) p = moved_by cs (moved p)

abbrev pub link_of : Option ℕ → Option Content → Option Link
link_of previous None = None
link_of previous (Some c) = Some (link_back previous c)

-- The events of siblings as they are appended, each linked back: the first has this number, and that is
-- the linked sibling before them. Where each link goes on to follows.
abbrev pub appended_from : ℕ → Option ℕ → Forest → List Event
appended_from n previous empty = []
appended_from n previous (leaf_then name None codes rest) =
    event Kind.Enter name (start_of codes) ∷ event Kind.Exit name (stop_of document_start codes) ∷ appended_from (n + 2) previous rest
appended_from n previous (leaf_then name (Some c) codes rest) =
    record { kind = Kind.Enter; name = name; point = start_of codes; link = Some (link_back previous c) }
    ∷ event Kind.Exit name (stop_of document_start codes)
    ∷ appended_from (n + 2) (Some n) rest
appended_from n previous (group_then name enter exit inside rest) =
    event Kind.Enter name enter
    ∷ appended_from (n + 1) None inside
    ++ event Kind.Exit name exit
    ∷ appended_from (n + 2 + event_count inside) previous rest

-- the last linked one of siblings whose first event has this number, where that is the one before
abbrev pub last_link : ℕ → Option ℕ → Forest → Option ℕ
last_link n previous empty = previous
last_link n previous (leaf_then name None codes rest) = last_link (n + 2) previous rest
last_link n previous (leaf_then name (Some c) codes rest) = last_link (n + 2) (Some n) rest
last_link n previous (group_then name enter exit inside rest) = last_link (n + 2 + event_count inside) previous rest

-- past a tree whose first linked sibling is linked back so
unfoldable pub past : Option ℕ → Forest → Tokenizer → Tokenizer
past previous tree T =
    record T { events = T.events ++ appended_from (length T.events) previous tree; cursor = moved_by (leaf_codes tree) T.cursor }

-- Leaves: entered, some codes passed, exited.

abbrev pub entered_leaf : Name → Option Content → Bool → Tokenizer → Tokenizer
entered_leaf n None connect T = applied (Enter n) T
entered_leaf n (Some c) connect T = if connect then applied (EnterConnected n c) T else applied (EnterLink n c) T

-- the event that a leaf entered now is linked back to
abbrev pub link_before : Bool → Tokenizer → Option ℕ
link_before connect T = if connect then Some (length T.events - 2) else None

unfoldable pub passed : List Code → Tokenizer → Tokenizer
passed cs T = record T { cursor = moved_by cs T.cursor }

-- How a run ends that reads a tree.

-- a reading of codes: a tree and the codes after it, or none
abbrev pub TreeReading : Type 0
TreeReading = List Code → Option (Forest × List Code)

-- the codes from T on are read so: U is T past the tree, with these scratch fields
pub record Reads (reading : TreeReading) (previous : Option ℕ) (s : TokenizeState) (T U : Tokenizer) : Type 0 where
  pub tree : Forest
  pub rest : List Code
  pub holds : reading (ahead T) ≡ Some (tree, rest)
  pub left : U ≡ past previous tree (scratched s T)
  pub whole : ahead T ≡ leaf_codes tree ++ rest
  pub after : ahead U ≡ rest

-- they are not: U has only grown from T, with these scratch fields
pub record Refuses (reading : TreeReading) (s : TokenizeState) (T U : Tokenizer) : Type 0 where
  pub refused : reading (ahead T) ≡ None
  pub fails : Fails s T U

-- a run that ends as this reading says
abbrev pub EndsAs : TreeReading → Option ℕ → TokenizeState → Tokenizer → Bool → Tokenizer → Type 0
EndsAs reading previous s T true U = Reads reading previous s T U
EndsAs reading previous s T false U = Refuses reading s T U

-- a reading whose tree stands behind another
abbrev pub behind : Forest → Option (Forest × List Code) → Option (Forest × List Code)
behind tree None = None
behind tree (Some r) = Some (tree ⊕ r.0, r.1)
