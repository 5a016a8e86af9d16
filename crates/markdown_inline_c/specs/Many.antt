-- What a call leaves in what its caller lends, where it finds something in each of many, one after another.
use Rattle.std.specs.Prelude.{◌≡◌, ◌⊎◌, ℕ, ◌+◌, ◌<◌, ◌≤◌, ◌==◌, if◌then◌else◌, List, [], ◌∷◌, ◌++◌, length, take, drop, None, Result, Ok, Err}
use Rattle.std.specs.List.{flat_map}
use Rattle.markdown_inline_c.specs.FlatEvents.{number_or_max}
use Rattle.markdown_inline_c.specs.Refusals.{blames, blames_none}
use Rattle.markdown_inline_c.specs.Statuses.{fault_status}
use Rattle.markdown_inline_c.specs.declared.fault.Fault.{Fault}
use Rattle.markdown_inline_c.specs.declared.outcome.Outcome.{Outcome}
use Rattle.markdown_inline_c.specs.declared.refusal.Refusal.{Refusal}

-- lists one after another
abbrev pub one_list : {X : Type 0} → List (List X) → List X
one_list lists = flat_map (λ list. list) lists

-- where each of these lists ends, if they stand one after another behind so many elements
abbrev pub ends_behind : {X : Type 0} → ℕ → List (List X) → List ℕ
ends_behind n [] = []
ends_behind n (list ∷ lists) = (n + length list) ∷ ends_behind (n + length list) lists

-- as many of the first as have room whole, each with an end
pub record IsFront {X : Type 0} (found : List (List X)) (room room_of_ends done : ℕ) : Type 0 where
  pub within : done ≤ length found
  pub fits : length (one_list (take done found)) ≤ room
  pub has_ends : done ≤ room_of_ends
  pub most : (done ≡ length found) ⊎ ((room < length (one_list (take (done + 1) found))) ⊎ (room_of_ends ≡ done))

-- what was found in each: as many of the first as have room stand at the fronts of both arrays, and what follows there is as before; all elements are counted
pub record AreHandedOut {X : Type 0} (found : List (List X)) (old new : List X) (ends_old ends_new : List ℕ) (o : Outcome) : Type 0 where
  pub done : IsFront found (length old) (length ends_old) o.done
  pub count : o.count ≡ length (one_list found)
  pub array : new ≡ one_list (take o.done found) ++ drop (length (one_list (take o.done found))) old
  pub ends : ends_new ≡ ends_behind 0 (take o.done found) ++ drop o.done ends_old

-- the first of many that is refused, behind others that are not
pub record IsFirstRefused {A : Type 0} (holds : List A → Type 0) (refuses : List A → A → Fault → Type 0) (all : List A) (read : ℕ) (r : Refusal) : Type 0 where
  pub before : List A
  pub first : A
  pub after : List A
  pub all_are : all ≡ before ++ first ∷ after
  pub read_is : read ≡ length before
  pub hold : holds before
  pub fault : Fault
  pub refusal_is : r ≡ blames fault read
  pub fault_holds : refuses before first fault

-- so many of the first are read, and then it ends: they are all, or one is refused; memory may be refused at any time
abbrev pub EndsBy : {A T : Type 0} → (holds : List A → Type 0) (refuses : List A → A → Fault → Type 0) → List A → ℕ → Result T Refusal → Type 0
EndsBy holds refuses all read (Ok _) = (read ≡ length all) × holds all
EndsBy holds refuses all read (Err r) = (r ≡ blames_none Fault.Memory) ⊎ IsFirstRefused holds refuses all read r

-- so many of the first are read, which end so, and what is found in them is handed out
pub record AreFound {X : Type 0} (found : List (List X)) (old new : List X) (ends_old ends_new : List ℕ) (o : Outcome) (ends : ℕ → Type 0) : Type 0 where
  pub read : ℕ
  pub handed_out : AreHandedOut (take read found) old new ends_old ends_new o
  pub ends_by : ends read

-- as it ends, where an input comes first that may be refused: then nothing is read
abbrev pub EndsByInput : {A T : Type 0} → (ready : Type 0) (refuses_input : Refusal → Type 0) (holds : List A → Type 0) (refuses : List A → A → Fault → Type 0) → List A → ℕ → Result T Refusal → Type 0
EndsByInput ready refuses_input holds refuses all read (Ok _) = ready × ((read ≡ length all) × holds all)
EndsByInput ready refuses_input holds refuses all read (Err r) =
    (r ≡ blames_none Fault.Memory)
    ⊎ (((read ≡ 0) × refuses_input r)
    ⊎ (ready × IsFirstRefused holds refuses all read r))

-- the status of a call for so many, of which so many are written
abbrev pub status_of : {T : Type 0} → ℕ → ℕ → Result T Refusal → ℕ
status_of many done (Ok _) = if done == many then 0 else 6
status_of many done (Err r) = fault_status r.fault

abbrev pub blamed_by : {T : Type 0} → Result T Refusal → ℕ
blamed_by (Ok _) = number_or_max None
blamed_by (Err r) = number_or_max r.at

-- what a call for so many leaves: what is found in those that are read, how it ends, its status, and what is to blame
pub record IsAnswerOfMany {X : Type 0} (many : ℕ) (found : List (List X)) (ends_by : Result (Unit {0}) Refusal → ℕ → Type 0) (old new : List X) (ends_old ends_new : List ℕ) (o : Outcome) (status : ℕ)
    : Type 0 where
  pub end : Result (Unit {0}) Refusal
  pub are_found : AreFound found old new ends_old ends_new o (ends_by end)
  pub status_is : status ≡ status_of many o.done end
  pub blamed_is : o.blamed ≡ blamed_by end
