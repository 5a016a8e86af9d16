-- What a call leaves in what its caller lends.
use Rattle.std.specs.Prelude.{◌≡◌, ℕ, ◌<◌, ◌⊎◌, List, ◌++◌, length, drop}
use Rattle.markdown_inline_c.specs.Statuses.{fault_status}
use Rattle.markdown_inline_c.specs.declared.fault.Fault.{Fault}

-- a fault that holds, and its status
pub record IsRefused (holds : Fault → Type 0) (status : ℕ) : Type 0 where
  pub fault : Fault
  pub status_is : status ≡ fault_status fault
  pub fault_holds : holds fault

-- a test that holds, or a fault that does
abbrev pub IsTested : Type 0 → (Fault → Type 0) → ℕ → Type 0
IsTested holds refuses status = ((status ≡ 0) × holds) ⊎ IsRefused refuses status

-- an array with what was found at its front; what follows there is as before
abbrev pub over : {X : Type 0} → (old found : List X) → List X
over old found = found ++ drop (length found) old

-- what was found stands at the front of the array, and what follows there is as before
pub record IsDone {X : Type 0} (found old new : List X) (count status : ℕ) : Type 0 where
  pub status_is : status ≡ 0
  pub count_is : count ≡ length found
  pub array : new ≡ found ++ drop (length found) old

-- more was found than there is room for
pub record IsTooSmall {X : Type 0} (found old new : List X) (count status : ℕ) : Type 0 where
  pub status_is : status ≡ 6
  pub count_is : count ≡ length found
  pub no_room : length old < length found
  pub array : new ≡ old

abbrev pub IsHandedOut : {X : Type 0} → (found old new : List X) (count status : ℕ) → Type 0
IsHandedOut found old new count status = IsDone found old new count status ⊎ IsTooSmall found old new count status

-- the input can be read and what was found is handed out, or it is refused and nothing is written
abbrev pub IsAnswer : {X : Type 0} → (found : List X) (readable : Type 0) (refuses : Fault → Type 0) (old new : List X) (count_old count_new status : ℕ) → Type 0
IsAnswer found readable refuses old new count_old count_new status =
    (readable × IsHandedOut found old new count_new status)
    ⊎ (IsRefused refuses status × ((new ≡ old) × (count_new ≡ count_old)))
