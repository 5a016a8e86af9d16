-- Runs of one code, and where the last one of each length begins.
use Rattle.std.specs.Prelude.{◌≡◌, ℕ, suc, ◌+◌, ◌<◌, ◌≤◌, nat_lt, Bool, true, false, ◌&&◌, not, ◌==◌, if◌then◌else◌, List, [], ◌∷◌, length, slice_index_or, slice_set, Option, Some, None}
use Rattle.std.specs.BTreeMap.{insert_entry, is_at}
use Rattle.std.specs.List.{insert, list_any}
use Rattle.std.specs.List.Sorted.{IsStrictlySortedBy}
use Rattle.std.specs.Map.{keys_of, lookup}
use Rattle.std.specs.Ordering.{nat_cmp, ordering_then}
use Rattle.std.specs.declared.cmp.Ordering.{Ordering}
use Rattle.markdown_content.specs.Codes.{Code}
use Rattle.markdown_content.specs.Place.{Place, ahead_at}

-- how many codes of this value come next
abbrev pub leading : ℕ → List Code → ℕ
leading value [] = 0
leading value (c ∷ cs) = if c.value == value then suc (leading value cs) else 0

-- The last run of one value and one size.

-- a later answer, one code further on; where there is none, the first code if it is one
abbrev pub later_or : Option ℕ → Bool → Option ℕ
later_or (Some k) here = Some (suc k)
later_or None true = Some 0
later_or None false = None

-- `inside` says that a code of this value stands before
abbrev pub last_run_from : ℕ → ℕ → Bool → List Code → Option ℕ
last_run_from value size inside [] = None
last_run_from value size inside (c ∷ cs) =
    later_or (last_run_from value size (c.value == value) cs) (not inside && (c.value == value && leading value (c ∷ cs) == size))

-- how many codes stand before the last run of exactly so many codes of this value: no code of the value stands before it or after it
abbrev pub last_run : ℕ → ℕ → List Code → Option ℕ
last_run value size cs = last_run_from value size false cs

-- The last runs of some values.

-- a value and a size
abbrev pub Key : Type 0
Key = ℕ × ℕ

abbrev pub key_cmp : Key → Key → Ordering
key_cmp a b = ordering_then (nat_cmp a.0 b.0) (nat_cmp a.1 b.1)

-- the values whose runs are known; and by value and size in order, how many codes stand before the last run
pub record LastRuns : Type 0 where
  pub asked : List ℕ
  pub entries : List (Key × ℕ)

abbrev pub is_asked : List ℕ → ℕ → Bool
is_asked asked value = list_any (λ a. value == a) asked

abbrev pub is_same : Option ℕ → ℕ → Bool
is_same None value = false
is_same (Some v) value = v == value

abbrev pub with_run : Bool → Key → ℕ → List (Key × ℕ) → List (Key × ℕ)
with_run true key at entries = insert_entry key_cmp entries key at
with_run false key at entries = entries

-- these entries, with the runs of the codes from here on. So many codes stand before, the last of them with this value
abbrev pub entries_from : List ℕ → Option ℕ → ℕ → List Code → List (Key × ℕ) → List (Key × ℕ)
entries_from asked before at [] entries = entries
entries_from asked before at (c ∷ cs) entries =
    entries_from asked (Some c.value) (suc at) cs (with_run (not (is_same before c.value) && is_asked asked c.value) (c.value, leading c.value (c ∷ cs)) at entries)

-- the runs of these values
abbrev pub last_runs : List ℕ → List Code → LastRuns
last_runs asked cs = record { asked = asked; entries = entries_from asked None 0 cs [] }

-- no run of these values stands anywhere
abbrev pub without_runs : List ℕ → LastRuns
without_runs asked = record { asked = asked; entries = [] }

-- nothing is known
abbrev pub no_runs : LastRuns
no_runs = without_runs []

abbrev pub entry_at : Key → List (Key × ℕ) → Option ℕ
entry_at key entries = lookup (is_at (key_cmp key)) entries

abbrev pub begins_before : ℕ → Option ℕ → Bool
begins_before at None = true
begins_before at (Some k) = nat_lt k at

-- it is known that no run of this value and size begins after so many codes
abbrev pub rules_out : LastRuns → ℕ → ℕ → ℕ → Bool
rules_out runs value size at = is_asked runs.asked value && begins_before at (entry_at (value, size) runs.entries)

-- past all codes of this value that come next
abbrev pub past_run : ℕ → Place → Place
past_run value p = record p { at = p.at + leading value (ahead_at p) }

-- Where an entry stands.

-- each value and size comes once, in their order
abbrev pub AreEntriesInOrder : List (Key × ℕ) → Type 0
AreEntriesInOrder entries = IsStrictlySortedBy key_cmp (keys_of entries)

-- the entry of this value and size stands at place i
pub record IsAt (entries : List (Key × ℕ)) (key : Key) (i : ℕ) : Type 0 where
  pub in_range : i < length entries
  pub holds : (d : Key × ℕ) → entry_at key entries ≡ Some (slice_index_or entries i d).1
  pub takes : (at : ℕ) → slice_set entries i (key, at) ≡ insert_entry key_cmp entries key at

-- there is none of this value and size, and it would go to place i
pub record IsGapFor (entries : List (Key × ℕ)) (key : Key) (i : ℕ) : Type 0 where
  pub in_range : i ≤ length entries
  pub lacks : entry_at key entries ≡ None
  pub takes : (at : ℕ) → insert entries i (key, at) ≡ insert_entry key_cmp entries key at
