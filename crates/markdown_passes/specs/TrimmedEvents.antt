-- Trimming a list of events: which data loses its blank codes, and of which lists and trees this is said.
use Rattle.std.specs.Prelude.{◌≡◌, ◌≢◌, ℕ, zero, suc, Bool, true, false, ◌&&◌, not, List, [], ◌∷◌, ◌++◌, None, if◌then◌else◌}
use Rattle.markdown_engine_events.specs.EventChains.{IsUnlinked}
use Rattle.markdown_content.specs.Codes.{Code, codes_of}
use Rattle.markdown_content.specs.Tree.{Forest, empty, leaf_then, group_then}
use Rattle.markdown_event.specs.declared.event.Event.{Event}
use Rattle.markdown_event.specs.declared.event.Name.{Name}
use Rattle.markdown_event.specs.declared.event.Name.TheVariants as N
use Rattle.markdown_event.specs.declared.event.Point.{Point}
use Rattle.markdown_engine_events.specs.declared.util.edit_map.Edit.{Edit}
use Rattle.markdown_model.specs.Passes.{HardBreaks, breaks_where}
use Rattle.markdown_passes.specs.MergedEvents.{is_data, is_enter, opens_data}
use Rattle.markdown_passes.specs.declared.partial_whitespace.Breaks.{Breaks}
use Rattle.markdown_passes.specs.TrimmedData.{IsStretch, between, loses_blank, trimmed_events}

abbrev pub is_ending : Name → Bool
is_ending N.LineEnding = true
is_ending _ = false

abbrev pub opens_ending : Event → Bool
opens_ending e = is_enter e.kind && is_ending e.name

abbrev pub closes_ending : Event → Bool
closes_ending e = not (is_enter e.kind) && is_ending e.name

-- blank codes before these events go: a line ending follows, or nothing does and the whole is trimmed
abbrev pub goes_before : Bool → List Event → Bool
goes_before whole [] = whole
goes_before whole (e ∷ es) = opens_ending e

-- which blank codes are a hard break, as the pass has it
abbrev pub breaks_of : Breaks → HardBreaks
breaks_of hard = record { on = hard.on; two_last = hard.two_last; keeps = hard.keeps }

-- the Enter and the Exit of data go, and the events of what is left of it come; a hard break stands before a line ending alone, not at
-- the whole's end
abbrev pub trim : List ℕ → HardBreaks → Bool → ℕ → Bool → Event → Event → List Event → Edit
trim bytes hard whole n front e x es =
    record {
      at = n;
      remove = 2;
      events = trimmed_events front (goes_before whole es) (breaks_where hard (goes_before false es)) bytes e.point x.point;
      before = false;
    }

-- data from one place to another that loses codes, where blank ones go in front, at its back, or both
abbrev pub loses : Bool → Bool → List ℕ → Point → Point → Bool
loses front back bytes from to = loses_blank front back (between bytes from to)

-- the first two events are data that loses codes; `front` says that blank codes behind what stands before them go
abbrev pub loses_first : List ℕ → Bool → Bool → List Event → Bool
loses_first bytes whole front [] = false
loses_first bytes whole front (e ∷ []) = false
loses_first bytes whole front (e ∷ x ∷ es) = opens_data e && loses front (goes_before whole es) bytes e.point x.point

-- the edit of the first two events, where they are data that loses codes; the first has this number, and `front` says that blank codes
-- behind what stands before it go
abbrev pub trim_first : List ℕ → HardBreaks → Bool → ℕ → Bool → List Event → List Edit
trim_first bytes hard whole n front [] = []
trim_first bytes hard whole n front (e ∷ []) = []
trim_first bytes hard whole n front (e ∷ x ∷ es) =
    if opens_data e && loses front (goes_before whole es) bytes e.point x.point then trim bytes hard whole n front e x es ∷ [] else []

-- whether blank codes behind what stands before the event of this number go; `front` says so of the first
abbrev pub flag : ℕ → Bool → List Event → Bool
flag zero front es = front
flag (suc k) front [] = front
flag (suc k) front (e ∷ es) = flag k (closes_ending e) es

-- one edit for each data that loses codes
abbrev pub trims : List ℕ → HardBreaks → Bool → ℕ → Bool → List Event → List Edit
trims bytes hard whole n front [] = []
trims bytes hard whole n front (e ∷ es) = trim_first bytes hard whole n front (e ∷ es) ++ trims bytes hard whole (suc n) (closes_ending e) es

-- an Exit without a link stands behind the Enter of data, and the two are places of the document in order
abbrev pub ClosesAt : List ℕ → Event → List Event → Type 0
ClosesAt bytes e [] = ⊥
ClosesAt bytes e (x ∷ es) = IsStretch bytes e.point x.point × IsUnlinked x

abbrev pub FirstDataHasPlaces : List ℕ → List Event → Type 0
FirstDataHasPlaces bytes [] = Unit {0}
FirstDataHasPlaces bytes (e ∷ es) = opens_data e ≡ true → ClosesAt bytes e es

-- and so behind each
abbrev pub HasPlaces : List ℕ → List Event → Type 0
HasPlaces bytes [] = Unit {0}
HasPlaces bytes (e ∷ es) = FirstDataHasPlaces bytes (e ∷ es) × HasPlaces bytes es

-- codes that follow one another in the document, at least one
pub record AreDocumentCodes (bytes : List ℕ) (cs : List Code) : Type 0 where
  pub before : List Code
  pub after : List Code
  pub whole : codes_of bytes ≡ before ++ (cs ++ after)
  pub some : cs ≢ []

-- each data of the tree is part of the document, and no group is named as data or as a line ending
abbrev pub HasParts : List ℕ → Forest → Type 0
HasParts bytes empty = Unit {0}
HasParts bytes (leaf_then name link cs rest) = (is_data name ≡ true → link ≡ None → AreDocumentCodes bytes cs) × HasParts bytes rest
HasParts bytes (group_then name enter exit inside rest) = ((is_data name ≡ false) × (is_ending name ≡ false)) × (HasParts bytes inside × HasParts bytes rest)
