-- Many that are read in turn, and what is found in them.
use Rattle.std.proofs.Common.{◌≡◌, ◌∙◌, sym, ap, subst, refl, ◌⊎◌, inl, inr, ℕ, ◌+◌, ◌<◌, List, [], ◌∷◌, ◌++◌, get_or, length, map, take, drop, append_assoc, arith, Result, Ok, Err, IsErrAnd}
use Rattle.std.specs.List.{All}
use Rattle.std.proofs.lemmas.List.{length-map, length-take-le, map-append, take-append-drop, take-map, take_all, take_more}
use Rattle.std.proofs.lemmas.List.Elements.{All-more, All-nil}
use Rattle.markdown_inline_c.specs.Many.{AreFound, AreHandedOut, EndsBy, EndsByInput}
use Rattle.markdown_inline_c.specs.Refusals.{IsFirstOther, blames, blames_none}
use Rattle.markdown_inline_c.specs.declared.fault.Fault.{Fault}
use Rattle.markdown_inline_c.specs.declared.outcome.Outcome.{Outcome}
use Rattle.markdown_inline_c.specs.declared.refusal.Refusal.{Refusal}
use Rattle.markdown_inline_c.proofs.HandedOut.{none_handed_out}

-- How it ends.

-- a list by its front, one of it, and what follows
pub parts_at : {A : Type 0} (all : List A) (i : ℕ) (d : A) → i < length all → all ≡ take i all ++ get_or all i d ∷ drop (i + 1) all
parts_at all i d h =
    sym (take-append-drop (i + 1) all)
    ∙ ap (λ xs. xs ++ drop (i + 1) all) (take_more all i d h)
    ∙ append_assoc (take i all) (get_or all i d ∷ []) (drop (i + 1) all)

-- the first of a list of which something does not hold
pub first_other : {X : Type 0} (P : X → Type 0) (xs : List X) (i : ℕ) (d : X) → i < length xs → All P (take i xs) → (P (get_or xs i d) → ⊥) → IsFirstOther P xs i
first_other P xs i d h hold fails = record {
  before = take i xs;
  other = get_or xs i d;
  after = drop (i + 1) xs;
  parts = parts_at xs i d h;
  number_is = sym (length-take-le i xs (omega (arith, h)));
  hold = hold;
  fails = fails;
}

pub one_refused : {A : Type 0} (holds : List A → Type 0) (refuses : List A → A → Fault → Type 0) (all : List A) (i : ℕ) (d : A) (fault : Fault) (r : Refusal)
    → i < length all → holds (take i all) → (fault ≡ Fault.Memory) ⊎ refuses (take i all) (get_or all i d) fault → r ≡ blames fault i → EndsBy {T = Unit {0}} holds refuses all i (Err r)
one_refused holds refuses all i d fault r h before (inl e) is = inl (is ∙ ap (λ (f : Fault). blames f i) e)
one_refused holds refuses all i d fault r h before (inr refused) is = inr (record {
  before = take i all;
  first = get_or all i d;
  after = drop (i + 1) all;
  all_are = parts_at all i d h;
  read_is = sym (length-take-le i all (omega (arith, h)));
  hold = before;
  fault = fault;
  refusal_is = is;
  fault_holds = refused;
})

pub out_of_memory : {A : Type 0} (holds : List A → Type 0) (refuses : List A → A → Fault → Type 0) (all : List A) (i : ℕ) (end : Result (Unit {0}) Refusal)
    → IsErrAnd end (λ r. r ≡ blames_none Fault.Memory) → EndsBy holds refuses all i end
out_of_memory holds refuses all i (Ok x) h = absurd h
out_of_memory holds refuses all i (Err r) h = inl h

ends-behind : {A : Type 0} (ready : Type 0) (refuses_input : Refusal → Type 0) (holds : List A → Type 0) (refuses : List A → A → Fault → Type 0) (all : List A) (i : ℕ) (end : Result (Unit {0}) Refusal)
    → ready → EndsBy holds refuses all i end → EndsByInput ready refuses_input holds refuses all i end
ends-behind ready refuses_input holds refuses all i (Ok x) is h = (is, h)
ends-behind ready refuses_input holds refuses all i (Err r) is (inl m) = inl m
ends-behind ready refuses_input holds refuses all i (Err r) is (inr h) = inr (inr (is, h))

-- those of an input that is not refused
pub behind_input : {A X : Type 0} (ready : Type 0) (refuses_input : Refusal → Type 0) (holds : List A → Type 0) (refuses : List A → A → Fault → Type 0) (all : List A) (found : List (List X))
    (old array : List X) (ends_old ends : List ℕ) (o : Outcome) (end : Result (Unit {0}) Refusal) → ready → AreFound found old array ends_old ends o (λ read. EndsBy holds refuses all read end)
    → AreFound found old array ends_old ends o (λ read. EndsByInput ready refuses_input holds refuses all read end)
behind_input ready refuses_input holds refuses all found old array ends_old ends o end is are = record {
  read = are.read;
  handed_out = are.handed_out;
  ends_by = ends-behind ready refuses_input holds refuses all are.read end is are.ends_by;
}

-- an input that is refused, before anything is read
pub input_refused : {A X : Type 0} (ready : Type 0) (refuses_input : Refusal → Type 0) (holds : List A → Type 0) (refuses : List A → A → Fault → Type 0) (all : List A) (found : List (List X))
    (old : List X) (ends_old : List ℕ) (o : Outcome) (end : Result (Unit {0}) Refusal) → o.done ≡ 0 → o.count ≡ 0 → IsErrAnd end (λ r. (r ≡ blames_none Fault.Memory) ⊎ refuses_input r)
    → AreFound found old old ends_old ends_old o (λ read. EndsByInput ready refuses_input holds refuses all read end)
input_refused ready refuses_input holds refuses all found old ends_old o (Ok x) done count h = absurd h
input_refused ready refuses_input holds refuses all found old ends_old o (Err r) done count (inl m) = record { read = 0; handed_out = none_handed_out old ends_old o done count; ends_by = inl m }
input_refused ready refuses_input holds refuses all found old ends_old o (Err r) done count (inr h) =
    record { read = 0; handed_out = none_handed_out old ends_old o done count; ends_by = inr (inl (refl, h)) }

-- Those of which each is found by itself.

pub record AreRead {A X : Type 0} (f : A → List X) (P : A → Type 0) (all : List A) (old array : List X) (ends_old ends : List ℕ) (o : Outcome) (i : ℕ) : Type 0 where
  pub handed_out : AreHandedOut (map f (take i all)) old array ends_old ends o
  pub each : All P (take i all)

pub none_read : {A X : Type 0} (f : A → List X) (P : A → Type 0) (all : List A) (old : List X) (ends_old : List ℕ) (o : Outcome) → o.done ≡ 0 → o.count ≡ 0 → AreRead f P all old old ends_old ends_old o 0
none_read f P all old ends_old o done count = record { handed_out = none_handed_out old ends_old o done count; each = All-nil P }

pub is_next : {A X : Type 0} (f : A → List X) (all : List A) (i : ℕ) → i < length all → length (map f (take i all)) ≡ i
is_next f all i h = length-map (take i all) f ∙ length-take-le i all (omega (arith, h))

pub one_more_read : {A X : Type 0} (f : A → List X) (P : A → Type 0) (all : List A) (x old array array' : List X) (ends_old ends ends' : List ℕ) (o o' : Outcome) (i : ℕ) (d : A)
    → i < length all → AreRead f P all old array ends_old ends o i → P (get_or all i d) → x ≡ f (get_or all i d) → AreHandedOut (map f (take i all) ++ x ∷ []) old array' ends_old ends' o'
    → AreRead f P all old array' ends_old ends' o' (i + 1)
one_more_read f P all x old array array' ends_old ends ends' o o' i d h read is_right e handed =
    let all_are : map f (take i all) ++ x ∷ [] ≡ map f (take (i + 1) all) =
    ap (λ y. map f (take i all) ++ y ∷ []) e ∙ sym (map-append f (take i all) (get_or all i d ∷ [])) ∙ ap (map f) (sym (take_more all i d h))
    in
    record {
      handed_out = subst (λ found. AreHandedOut found old array' ends_old ends' o') all_are handed;
      each = All-more P all i d h read.each is_right;
    }

read-so-far : {A X : Type 0} (f : A → List X) (P : A → Type 0) (all : List A) (old array : List X) (ends_old ends : List ℕ) (o : Outcome) (i : ℕ) (Ends : ℕ → Type 0)
    → AreRead f P all old array ends_old ends o i → Ends i → AreFound (map f all) old array ends_old ends o Ends
read-so-far f P all old array ends_old ends o i Ends read h = record {
  read = i;
  handed_out = subst (λ found. AreHandedOut found old array ends_old ends o) (sym (take-map f i all)) read.handed_out;
  ends_by = h;
}

-- all are read
pub all_read : {A X : Type 0} (f : A → List X) (P : A → Type 0) (refuses : List A → A → Fault → Type 0) (all : List A) (old array : List X) (ends_old ends : List ℕ) (o : Outcome) (i : ℕ)
    → i ≡ length all → AreRead f P all old array ends_old ends o i → AreFound (map f all) old array ends_old ends o (λ read. EndsBy (All P) refuses all read (Ok (tt {0})))
all_read f P refuses all old array ends_old ends o i e read =
    read-so-far f P all old array ends_old ends o i (λ n. EndsBy (All P) refuses all n (Ok (tt {0}))) read (e, subst (λ xs. All P xs) (take_all i all (omega (arith, e))) read.each)

-- the next one is refused
pub next_refused : {A X : Type 0} (f : A → List X) (P : A → Type 0) (refuses : List A → A → Fault → Type 0) (all : List A) (old array : List X) (ends_old ends : List ℕ) (o : Outcome) (i : ℕ) (d : A)
    (fault : Fault) (r : Refusal) → i < length all → AreRead f P all old array ends_old ends o i → (fault ≡ Fault.Memory) ⊎ refuses (take i all) (get_or all i d) fault → r ≡ blames fault i
    → AreFound (map f all) old array ends_old ends o (λ read. EndsBy {T = Unit {0}} (All P) refuses all read (Err r))
next_refused f P refuses all old array ends_old ends o i d fault r h read refused is =
    read-so-far f P all old array ends_old ends o i (λ n. EndsBy {T = Unit {0}} (All P) refuses all n (Err r)) read (one_refused (All P) refuses all i d fault r h read.each refused is)

-- there is no memory for what is found in the next one, and nothing is changed
pub next_without_memory : {A X : Type 0} (f : A → List X) (P : A → Type 0) (refuses : List A → A → Fault → Type 0) (all : List A) (old array array' : List X) (ends_old ends ends' : List ℕ) (o o' : Outcome) (i : ℕ)
    (end : Result (Unit {0}) Refusal) → AreRead f P all old array ends_old ends o i → (array' ≡ array) × ((ends' ≡ ends) × (o' ≡ o)) → IsErrAnd end (λ r. r ≡ blames_none Fault.Memory)
    → AreFound (map f all) old array' ends_old ends' o' (λ read. EndsBy (All P) refuses all read end)
next_without_memory {X = X} f P refuses all old array array' ends_old ends ends' o o' i end read same is =
    let Of : List X → List ℕ → Outcome → Type 0 = λ a e p. AreRead f P all old a ends_old e p i in
    let read' : Of array' ends' o' = subst (λ p. Of array' ends' p) (sym same.1.1) (subst (λ e. Of array' e o) (sym same.1.0) (subst (λ a. Of a ends o) (sym same.0) read)) in
    read-so-far f P all old array' ends_old ends' o' i (λ n. EndsBy (All P) refuses all n end) read' (out_of_memory (All P) refuses all i end is)
