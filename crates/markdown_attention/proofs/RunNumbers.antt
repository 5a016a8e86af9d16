-- The number of a run in its container.
use Rattle.std.proofs.Common.{◌≡◌, ℕ, zero, suc, ◌<◌, Bool, true, false, cond, List, [], ◌∷◌, length, map, refl, sym, ◌∙◌, ap, arith}
use Rattle.std.proofs.lemmas.List.{length-map}
use Rattle.markdown_model.specs.Laws.{Shape, shape_of}
use Rattle.markdown_model.specs.Pairs as Model
use Rattle.markdown_model.specs.Runs.{Run}
use Rattle.markdown_attention.specs.RunContainers.{whole_shape, is_in, runs_in, place_in}
use Rattle.markdown_attention.specs.NumberedPairs.{run_at}
use Rattle.markdown_attention.specs.declared.attention.runs.Sequence.{Sequence}

-- a run of the container stands at its number
pub record StandsAtNumber (k : ℕ) (list : List Sequence) (i : ℕ) : Type 0 where
  pub within : place_in k list i < length (runs_in k list)
  pub is : run_at (runs_in k list) (place_in k list i) ≡ run_at list i

place-later : (k : ℕ) (r : Sequence) (rs : List Sequence) (i : ℕ) → StandsAtNumber k rs i → (b : Bool) → is_in k r ≡ b →
    StandsAtNumber k (r ∷ rs) (suc i)
place-later k r rs i rest true h = record { within = rw h (let w = rest.within in omega arith); is = rw h rest.is }
place-later k r rs i rest false h = record { within = rw h rest.within; is = rw h rest.is }

pub place : (k : ℕ) (list : List Sequence) (i : ℕ) → i < length list → is_in k (run_at list i) ≡ true → StandsAtNumber k list i
place k [] i l e = absurd (omega arith)
place k (r ∷ rs) zero l e = record { within = rw e (omega arith); is = rw e refl }
place k (r ∷ rs) (suc i) l e = place-later k r rs i (place k rs i (omega arith) e) (is_in k r) refl

-- each number in the container is that of a run
pub record IsRunNumber (k : ℕ) (list : List Sequence) (j : ℕ) : Type 0 where
  pub run : ℕ
  pub within : run < length list
  pub inside : is_in k (run_at list run) ≡ true
  pub is : place_in k list run ≡ j

later : (k : ℕ) (r : Sequence) (rs : List Sequence) (j j' : ℕ) (x : IsRunNumber k rs j) →
    place_in k (r ∷ rs) (suc x.run) ≡ j' → IsRunNumber k (r ∷ rs) j'
later k r rs j j' x e =
    record { run = suc x.run; within = (let w = x.within in omega arith); inside = x.inside; is = e }

find-later : (k : ℕ) (r : Sequence) (rs : List Sequence) → ((j : ℕ) → j < length (runs_in k rs) → IsRunNumber k rs j)
    → (b : Bool) → is_in k r ≡ b → (j : ℕ) → j < length (cond b (r ∷ runs_in k rs) (runs_in k rs)) → IsRunNumber k (r ∷ rs) j
find-later k r rs rest true h zero l = record { run = 0; within = omega arith; inside = h; is = refl }
find-later k r rs rest true h (suc j) l = let x = rest j (omega arith) in later k r rs j (suc j) x (rw h (ap suc x.is))
find-later k r rs rest false h j l = let x = rest j l in later k r rs j j x (rw h x.is)

pub find : (k : ℕ) (list : List Sequence) (j : ℕ) → j < length (runs_in k list) → IsRunNumber k list j
find k [] j l = absurd (omega arith)
find k (r ∷ rs) j l = find-later k r rs (find k rs) (is_in k r) refl j l

order-later : (k : ℕ) (r : Sequence) (rs : List Sequence) (i j : ℕ) → place_in k rs i < place_in k rs j → (b : Bool) → is_in k r ≡ b
    → place_in k (r ∷ rs) (suc i) < place_in k (r ∷ rs) (suc j)
order-later k r rs i j rest true h = rw h (omega (arith, rest))
order-later k r rs i j rest false h = rw h rest

pub place-order : (k : ℕ) (list : List Sequence) (i j : ℕ) → i < j → j < length list → is_in k (run_at list i) ≡ true →
    place_in k list i < place_in k list j
place-order k [] i j l m e = absurd (omega arith)
place-order k (r ∷ rs) i zero l m e = absurd (omega arith)
place-order k (r ∷ rs) zero (suc j) l m e = rw e (omega arith)
place-order k (r ∷ rs) (suc i) (suc j) l m e =
    order-later k r rs i j (place-order k rs i j (omega arith) (omega arith) e) (is_in k r) refl

-- Runs of equal shapes, one by one.

abbrev shape_at : List Shape → ℕ → Shape
shape_at [] i = record { marker = 0; size = 0; may_open = false; may_close = false }
shape_at (x ∷ xs) zero = x
shape_at (x ∷ xs) (suc i) = shape_at xs i

shape-run : (runs : List Run) (i : ℕ) → shape_of (Model.run_at runs i) ≡ shape_at (map shape_of runs) i
shape-run [] i = refl
shape-run (r ∷ rs) zero = refl
shape-run (r ∷ rs) (suc i) = shape-run rs i

shape-sequence : (list : List Sequence) (i : ℕ) → whole_shape (run_at list i) ≡ shape_at (map whole_shape list) i
shape-sequence [] i = refl
shape-sequence (r ∷ rs) zero = refl
shape-sequence (r ∷ rs) (suc i) = shape-sequence rs i

pub same-shape : (runs : List Run) (list : List Sequence) → map shape_of runs ≡ map whole_shape list → (i : ℕ) →
    shape_of (Model.run_at runs i) ≡ whole_shape (run_at list i)
same-shape runs list e i = shape-run runs i ∙ ap (λ x. shape_at x i) e ∙ sym (shape-sequence list i)

pub same-length : (runs : List Run) (list : List Sequence) → map shape_of runs ≡ map whole_shape list →
    length runs ≡ length list
same-length runs list e = sym (length-map runs shape_of) ∙ ap length e ∙ length-map list whole_shape
