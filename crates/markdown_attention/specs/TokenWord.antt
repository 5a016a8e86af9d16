-- The events of a word of brackets, one token after another.
use Rattle.std.specs.Prelude.{◌≡◌, ◌≢◌, ℕ, ◌+◌, ◌-◌, suc, List, [], ◌∷◌, ◌++◌, length, take, drop, reverse, sum_by, Option, None, Bool, true, false, ◌⊎◌, if◌then◌else◌}
use Rattle.markdown_content.specs.Codes.{Code, stop_of, document_start}
use Rattle.markdown_engine.specs.PastTree.{appended_from, last_link}
use Rattle.markdown_content.specs.Tree.{Forest, empty, leaf_then, group_then, event, event_count, start_of}
use Rattle.markdown_event.specs.declared.event.Event.{Event}
use Rattle.markdown_event.specs.declared.event.Kind.TheVariants as Kind
use Rattle.markdown_event.specs.declared.event.Name.{Name}
use Rattle.markdown_model.specs.BracketGroups.{item, opens, closes, Token, pair_names, closing_sizes, opening_sizes, cut_front}
use Rattle.markdown_model.specs.Pairs.{Pair}
use Rattle.markdown_model.specs.BracketGroups.{tokens_of}
use Rattle.markdown_model.specs.Runs.{marker_of, Run, runs_of}
use Rattle.markdown_model.specs.Setting.{Setting}
use Rattle.markdown_attention.specs.RunsRead.{is_run, opens_run}
use Rattle.markdown_engine_events.specs.Edits.{added_at, removed_at}
use Rattle.markdown_engine_events.specs.declared.util.edit_map.Edit.{Edit}

-- the events of an opening bracket, of a pair with these names: its group and its text begin
abbrev pub opened_as : Name × Name × Name → List Code → List Event
opened_as names cs =
    event Kind.Enter names.0 (start_of cs)
    ∷ event Kind.Enter names.1 (start_of cs)
    ∷ event Kind.Exit names.1 (stop_of document_start cs)
    ∷ event Kind.Enter names.2 (stop_of document_start cs)
    ∷ []

-- and of a closing one
abbrev pub closed_as : Name × Name × Name → List Code → List Event
closed_as names cs =
    event Kind.Exit names.2 (start_of cs)
    ∷ event Kind.Enter names.1 (start_of cs)
    ∷ event Kind.Exit names.1 (stop_of document_start cs)
    ∷ event Kind.Exit names.0 (stop_of document_start cs)
    ∷ []

unfoldable pub names_of : List Code → Name × Name × Name
names_of cs = pair_names (marker_of cs) (length cs)

abbrev pub opened_events : List Code → List Event
opened_events cs = opened_as (names_of cs) cs

abbrev pub closed_events : List Code → List Event
closed_events cs = closed_as (names_of cs) cs

-- how many events the tokens have
abbrev pub word_count : List Token → ℕ
word_count [] = 0
word_count (item f ∷ w) = event_count f + word_count w
word_count (opens cs ∷ w) = 4 + word_count w
word_count (closes cs ∷ w) = 4 + word_count w

-- the last linked sibling after them
abbrev pub word_link : ℕ → Option ℕ → List Token → Option ℕ
word_link n previous [] = previous
word_link n previous (item f ∷ w) = word_link (n + event_count f) (last_link n previous f) w
word_link n previous (opens cs ∷ w) = word_link (n + 4) previous w
word_link n previous (closes cs ∷ w) = word_link (n + 4) previous w

-- the events of tokens, the first of which has this number, after this linked sibling
abbrev pub word_events : ℕ → Option ℕ → List Token → List Event
word_events n previous [] = []
word_events n previous (item f ∷ w) = appended_from n previous f ++ word_events (n + event_count f) (last_link n previous f) w
word_events n previous (opens cs ∷ w) = opened_events cs ++ word_events (n + 4) previous w
word_events n previous (closes cs ∷ w) = closed_events cs ++ word_events (n + 4) previous w

-- no leaf among the siblings is linked, whatever stands inside them
abbrev pub IsUnlinkedRow : Forest → Type 0
IsUnlinkedRow empty = Unit {0}
IsUnlinkedRow (leaf_then name link cs rest) = (link ≡ None) × IsUnlinkedRow rest
IsUnlinkedRow (group_then name enter exit inside rest) = IsUnlinkedRow rest

-- what a bracket is known by: its marker and its size
abbrev pub key_of : List Code → ℕ × ℕ
key_of cs = (marker_of cs, length cs)

-- after open brackets with these keys, the innermost first, each closing bracket meets an opening one
-- with its key, and none is left; no item is linked
abbrev pub Matches : List (ℕ × ℕ) → List Token → Type 0
Matches keys [] = keys ≡ []
Matches keys (item f ∷ w) = IsUnlinkedRow f × Matches keys w
Matches keys (opens cs ∷ w) = (cs ≢ []) × Matches (key_of cs ∷ keys) w
Matches [] (closes cs ∷ w) = ⊥
Matches (key ∷ keys) (closes cs ∷ w) = (cs ≢ []) × ((key ≡ key_of cs) × Matches keys w)

-- there is no bracket
abbrev pub AreItems : List Token → Type 0
AreItems [] = Unit {0}
AreItems (item f ∷ w) = AreItems w
AreItems (opens cs ∷ w) = ⊥
AreItems (closes cs ∷ w) = ⊥

-- each code is this marker
abbrev pub HasMarker : ℕ → List Code → Type 0
HasMarker m [] = Unit {0}
HasMarker m (c ∷ cs) = (c.value ≡ m) × HasMarker m cs

-- The events of a run, cut into these closing brackets, what is left, and these opening brackets.

abbrev pub closed_all : List (List Code) → List Event
closed_all [] = []
closed_all (cs ∷ more) = closed_events cs ++ closed_all more

abbrev pub opened_all : List (List Code) → List Event
opened_all [] = []
opened_all (cs ∷ more) = opened_events cs ++ opened_all more

abbrev pub left_over : List Code → List Event
left_over [] = []
left_over (c ∷ cs) = event Kind.Enter Name.Data c.start ∷ event Kind.Exit Name.Data (stop_of c.stop cs) ∷ []

abbrev pub cut_events : List (List Code) → List Code → List (List Code) → List Event
cut_events front kept back = closed_all front ++ (left_over kept ++ opened_all back)

-- the events of a run of which pairs take these sizes, as a closer and as an opener
abbrev pub sized_events : List ℕ → List ℕ → List Code → List Event
sized_events fronts backs codes =
    let front = cut_front fronts codes in
    let sizes = reverse backs in
    let kept = length front.1 - sum_by (λ n. n) sizes in
    let back = cut_front sizes (drop kept front.1) in
    cut_events front.0 (take kept front.1) back.0

-- the events of run i of a container with these pairs
unfoldable pub run_events : List Pair → ℕ → List Code → List Event
run_events pairs i codes = sized_events (closing_sizes i pairs) (opening_sizes i pairs) codes

-- The edits of the pass.

-- a run begins here
abbrev pub begins_run : List Event → Bool
begins_run [] = false
begins_run (e ∷ es) = opens_run e

-- one edit for each run: in place of its two events come these, by the number of its Enter
pub record IsPassLog (es : List Event) (log : List Edit) (comes : ℕ → List Event) : Type 0 where
  pub added : (k : ℕ) → added_at k log ≡ (if begins_run (drop k es) then comes k else [])
  pub removed : (k : ℕ) → removed_at k log ≡ (if begins_run (drop k es) then 2 else 0)

-- brackets that match, or none
abbrev pub IsFlat : List Token → Type 0
IsFlat w = Matches [] w ⊎ AreItems w

module _ (s : Setting) (pairs_of : List Run → List Pair) where
  -- no run is linked, no group is a run, and the tokens inside each group are flat
  abbrev pub IsPairable : Forest → Type 0
  IsPairable empty = Unit {0}
  IsPairable (leaf_then name link cs rest) = (is_run name ≡ true → link ≡ None) × IsPairable rest
  IsPairable (group_then name enter exit inside rest) =
      ((is_run name ≡ false) × IsFlat (tokens_of s pairs_of inside (pairs_of (runs_of s inside)) 0)) × (IsPairable inside × IsPairable rest)

  -- what comes for each run among siblings, with i runs and n events before them, are the events of its tokens
  abbrev pub IsLogged : (ℕ → List Event) → ℕ → List Pair → ℕ → Forest → Type 0
  IsLogged comes n pairs i empty = Unit {0}
  IsLogged comes n pairs i (leaf_then name link cs rest) =
      (is_run name ≡ true → comes n ≡ run_events pairs i cs)
      × ((is_run name ≡ true → IsLogged comes (n + 2) pairs (suc i) rest)
      × (is_run name ≡ false → IsLogged comes (n + 2) pairs i rest))
  IsLogged comes n pairs i (group_then name enter exit inside rest) =
      IsLogged comes (n + 1) (pairs_of (runs_of s inside)) 0 inside × IsLogged comes (n + 2 + event_count inside) pairs i rest
