-- Edits in the order of their places leave the events of their parts.
use Rattle.std.proofs.Common.{◌≡◌, ◌≢◌, ℕ, zero, suc, ◌+◌, ◌-◌, ◌<◌, ◌≤◌, ◌==◌, ◌&&◌, inl, inr, Bool, true, false, cond, Option, Some, None, List, [], ◌∷◌, ◌++◌, length, refl, sym, ap, ◌∙◌, arith, append_assoc}
use Rattle.std.specs.List.{All}
use Rattle.std.specs.Option.{option_map}
use Rattle.std.proofs.lemmas.List.{length-append, append-nil}
use Rattle.std.proofs.lemmas.List.Elements.{All-nil, All-cons}
use Rattle.std.proofs.lemmas.Bool.{ne_eqb, both_ways, eq-eqb}
use Rattle.std.proofs.lemmas.Bool.Decides.{leb_tells, eqb_tells}
use Rattle.markdown_engine_events.specs.EventChains.{has_link, linked_at}
use Rattle.markdown_content.specs.Codes.{stop_of, document_start}
use Rattle.markdown_engine_events.specs.Edits.{removed_at, back_at, added_at, is_removed, moved_number, moved, edited_from, edited, CanEdit}
use Rattle.markdown_engine.specs.PastTree.{appended_from, link_of}
use Rattle.markdown_content.specs.Tree.{Forest, empty, leaf_then, group_then, event, event_count, start_of}
use Rattle.markdown_event.specs.declared.event.Event.{Event}
use Rattle.markdown_event.specs.declared.event.Kind.{Kind}
use Rattle.markdown_event.specs.declared.event.Name.{Name}
use Rattle.markdown_event.specs.declared.event.Point.{Point}
use Rattle.markdown_engine_events.specs.declared.util.edit_map.Edit.{Edit}
use Rattle.markdown_engine_events.proofs.EditRules.{stays-where, goes-where, back-none, removed-none}
use Rattle.markdown_engine_events.proofs.EditLemmas.{start, moved-start, start-kept}
use Rattle.markdown_engine.proofs.TreeEvents.{length-appended_from}
use Rattle.markdown_engine.specs.OrderedEdits.{EditPart, comes, goes, stays, keeps, before_from, after_from, coming, going, edits_from, Does, AreUnlinked, GoUnlinked}

-- One edit.

pub back-here : (n : ℕ) (es : List Event) (log : List Edit) → back_at n (coming n es ∷ log) ≡ es ++ back_at n log
back-here n es log = ap (λ b. cond (b && true) es [] ++ back_at n log) (eq-eqb n n refl)

pub back-other : (i n : ℕ) (es : List Event) (log : List Edit) → n ≢ i → back_at i (coming n es ∷ log) ≡ back_at i log
back-other i n es log h = ap (λ b. cond (b && true) es [] ++ back_at i log) (ne_eqb n i h)

abbrev no-events : List Event
no-events = []

nothing : (b : Bool) → cond b no-events no-events ≡ no-events
nothing true = refl
nothing false = refl

pub back-going : (i n k : ℕ) (log : List Edit) → back_at i (going n k ∷ log) ≡ back_at i log
back-going i n k log = ap (λ x. x ++ back_at i log) (nothing ((n == i) && true))

none-of : (b : Bool) (k : ℕ) → cond b 0 0 + k ≡ k
none-of true k = omega arith
none-of false k = omega arith

pub removed-coming : (i n : ℕ) (es : List Event) (log : List Edit) → removed_at i (coming n es ∷ log) ≡ removed_at i log
removed-coming i n es log = none-of (n == i) (removed_at i log)

pub removed-here : (n k : ℕ) (log : List Edit) → removed_at n (going n k ∷ log) ≡ k + removed_at n log
removed-here n k log = ap (λ b. cond b k 0 + removed_at n log) (eq-eqb n n refl)

pub removed-other : (i n k : ℕ) (log : List Edit) → n ≢ i → removed_at i (going n k ∷ log) ≡ removed_at i log
removed-other i n k log h = ap (λ b. cond b k 0 + removed_at i log) (ne_eqb n i h) ∙ omega arith

-- No edit stands before the first place.

apart : (n i : ℕ) → i < n → n ≢ i
apart n i l = λ e. omega (arith, e)

not-below : (n i : ℕ) (parts : List EditPart) → i < n → All (λ e. e.at ≢ i) (edits_from n parts)
not-below n i [] l = All-nil (λ e. e.at ≢ i)
not-below n i (comes es ∷ parts) l =
    All-cons (λ e. e.at ≢ i) (coming n es) (edits_from n parts) (apart n i l) (not-below n i parts l)
not-below n i (goes e es ∷ parts) l =
    All-cons (λ e. e.at ≢ i) (going n (suc (length es))) (edits_from (n + suc (length es)) parts) (apart n i l) (not-below (n + suc (length es)) i parts (omega arith))
not-below n i (stays t ∷ parts) l = not-below (n + event_count t) i parts (omega arith)
not-below n i (keeps kind name p ∷ parts) l = not-below (n + 1) i parts (omega arith)

back-below : (n i : ℕ) (parts : List EditPart) → i < n → back_at i (edits_from n parts) ≡ []
back-below n i parts l = back-none i (edits_from n parts) (not-below n i parts l)

removed-below : (n i : ℕ) (parts : List EditPart) → i < n → removed_at i (edits_from n parts) ≡ 0
removed-below n i parts l = removed-none i (edits_from n parts) (not-below n i parts l)

-- Stretches.

all_moved : List Edit → List Event → List Event
all_moved log [] = []
all_moved log (e ∷ es) = moved log e ∷ all_moved log es

moved-append : (log : List Edit) (xs ys : List Event) → all_moved log (xs ++ ys) ≡ all_moved log xs ++ all_moved log ys
unfolding all_moved
moved-append log [] ys = refl
moved-append log (x ∷ xs) ys = ap (λ zs. moved log x ∷ zs) (moved-append log xs ys)

-- nothing comes and nothing goes
record NothingIsEdited (log : List Edit) (n k : ℕ) : Type 0 where
  none : (j : ℕ) → n ≤ j → j < n + k → added_at j log ≡ []
  stay : (j : ℕ) → n ≤ j → j < n + k → is_removed log j ≡ false

quiet : (log : List Edit) (n : ℕ) (xs tail : List Event) → NothingIsEdited log n (length xs) →
    edited_from log n (xs ++ tail) ≡ all_moved log xs ++ edited_from log (n + length xs) tail
unfolding all_moved
quiet log n [] tail q = ap (λ i. edited_from log i tail) (omega arith)
quiet log n (x ∷ xs) tail q =
    let next : suc n + length xs ≡ n + suc (length xs) = omega arith in
    ap (λ ys. ys ++ (cond (is_removed log n) [] (moved log x ∷ []) ++ edited_from log (suc n) (xs ++ tail))) (q.none n (omega arith) (omega arith))
    ∙ ap (λ b. cond b [] (moved log x ∷ []) ++ edited_from log (suc n) (xs ++ tail)) (q.stay n (omega arith) (omega arith))
    ∙ ap (λ ys. moved log x ∷ ys) (quiet log (suc n) xs tail (record { none = λ j l h. q.none j (omega arith) (omega arith); stay = λ j l h. q.stay j (omega arith) (omega arith) }))
    ∙ ap (λ i. moved log x ∷ all_moved log xs ++ edited_from log i tail) next

-- some events stay, and nothing comes between them
stretch : (log : List Edit) (n : ℕ) (pre xs tail : List Event) → 0 < length xs → added_at n log ≡ pre →
    ((j : ℕ) → n < j → j < n + length xs → added_at j log ≡ []) →
    ((j : ℕ) → n ≤ j → j < n + length xs → is_removed log j ≡ false) →
    edited_from log n (xs ++ tail) ≡ pre ++ (all_moved log xs ++ edited_from log (n + length xs) tail)
unfolding all_moved
stretch log n pre [] tail l a b c = absurd (omega arith)
stretch log n pre (x ∷ xs) tail l a b c =
    let next : suc n + length xs ≡ n + suc (length xs) = omega arith in
    ap (λ ys. ys ++ (cond (is_removed log n) [] (moved log x ∷ []) ++ edited_from log (suc n) (xs ++ tail))) a
    ∙ ap (λ b. pre ++ (cond b [] (moved log x ∷ []) ++ edited_from log (suc n) (xs ++ tail))) (c n (omega arith) (omega arith))
    ∙ ap (λ ys. pre ++ (moved log x ∷ ys)) (quiet log (suc n) xs tail (record { none = λ j l h. b j (omega arith) (omega arith); stay = λ j l h. c j (omega arith) (omega arith) }))
    ∙ ap (λ i. pre ++ (moved log x ∷ all_moved log xs ++ edited_from log i tail)) next

-- some events go, and nothing comes between them
gone-rest : (log : List Edit) (n : ℕ) (xs tail : List Event) →
    ((j : ℕ) → n ≤ j → j < n + length xs → added_at j log ≡ []) →
    ((j : ℕ) → n ≤ j → j < n + length xs → is_removed log j ≡ true) →
    edited_from log n (xs ++ tail) ≡ edited_from log (n + length xs) tail
gone-rest log n [] tail a b = ap (λ i. edited_from log i tail) (omega arith)
gone-rest log n (x ∷ xs) tail a b =
    let next : suc n + length xs ≡ n + suc (length xs) = omega arith in
    ap (λ ys. ys ++ (cond (is_removed log n) [] (moved log x ∷ []) ++ edited_from log (suc n) (xs ++ tail))) (a n (omega arith) (omega arith))
    ∙ ap (λ b. cond b [] (moved log x ∷ []) ++ edited_from log (suc n) (xs ++ tail)) (b n (omega arith) (omega arith))
    ∙ gone-rest log (suc n) xs tail (λ j l h. a j (omega arith) (omega arith)) (λ j l h. b j (omega arith) (omega arith))
    ∙ ap (λ i. edited_from log i tail) next

gone : (log : List Edit) (n : ℕ) (pre : List Event) (x : Event) (xs tail : List Event) → added_at n log ≡ pre →
    ((j : ℕ) → n < j → j < n + suc (length xs) → added_at j log ≡ []) →
    ((j : ℕ) → n ≤ j → j < n + suc (length xs) → is_removed log j ≡ true) →
    edited_from log n ((x ∷ xs) ++ tail) ≡ pre ++ edited_from log (n + suc (length xs)) tail
gone log n pre x xs tail a b c =
    let next : suc n + length xs ≡ n + suc (length xs) = omega arith in
    ap (λ ys. ys ++ (cond (is_removed log n) [] (moved log x ∷ []) ++ edited_from log (suc n) (xs ++ tail))) a
    ∙ ap (λ b. pre ++ (cond b [] (moved log x ∷ []) ++ edited_from log (suc n) (xs ++ tail))) (c n (omega arith) (omega arith))
    ∙ ap (λ ys. pre ++ ys) (gone-rest log (suc n) xs tail (λ j l h. b j (omega arith) (omega arith)) (λ j l h. c j (omega arith) (omega arith)) ∙ ap (λ i. edited_from log i tail) next)

-- the numbers of a stretch that stays
numbers : (log : List Edit) (n m k j : ℕ) → moved_number log n ≡ m →
    ((j : ℕ) → n < j → j < n + k → added_at j log ≡ []) → ((j : ℕ) → n ≤ j → j < n + k → is_removed log j ≡ false) →
    j < k → moved_number log (n + j) ≡ m + j
numbers log n m k zero a b c l = let e : n + 0 ≡ n = omega arith in ap (moved_number log) e ∙ a ∙ omega arith
numbers log n m k (suc j) a b c l =
    let e : n + suc j ≡ suc (n + j) = omega arith in
    let r : moved_number log (n + j) ≡ m + j = numbers log n m k j a b c (omega arith) in
    let s : start log (suc (n + j)) ≡ suc (moved_number log (n + j)) = start-kept log (n + j) (c (n + j) (omega arith) (omega arith)) in
    let z : length (added_at (suc (n + j)) log) ≡ 0 = ap length (b (suc (n + j)) (omega arith) (omega arith)) in
    ap (moved_number log) e ∙ moved-start log (suc (n + j)) ∙ omega (arith, r, s, z)

-- a row that is moved
shift : (log : List Edit) (n m : ℕ) (p : Option ℕ) (t : Forest) →
    ((j : ℕ) → j < event_count t → moved_number log (n + j) ≡ m + j) →
    all_moved log (appended_from n p t) ≡ appended_from m (option_map (moved_number log) p) t
unfolding all_moved
shift log n m p empty h = refl
shift log n m p (leaf_then name None cs rest) h =
    ap (λ xs. event Kind.Enter name (start_of cs) ∷ event Kind.Exit name (stop_of document_start cs) ∷ xs) (shift log (n + 2) (m + 2) p rest (λ j l. let e : n + 2 + j ≡ n + (2 + j) = omega arith in ap (moved_number log) e ∙ h (2 + j) (omega arith) ∙ omega arith))
shift log n m p (leaf_then name (Some c) cs rest) h =
    let q : Option ℕ = option_map (moved_number log) p in
    let z : moved_number log n ≡ m = let e : n ≡ n + 0 = omega arith in ap (moved_number log) e ∙ h 0 (omega arith) ∙ omega arith in
    ap (λ xs. moved log (record { kind = Kind.Enter; name = name; point = start_of cs; link = link_of p (Some c) }) ∷ event Kind.Exit name (stop_of document_start cs) ∷ xs) (shift log (n + 2) (m + 2) (Some n) rest (λ j l. let e : n + 2 + j ≡ n + (2 + j) = omega arith in ap (moved_number log) e ∙ h (2 + j) (omega arith) ∙ omega arith))
    ∙ ap (λ i. moved log (record { kind = Kind.Enter; name = name; point = start_of cs; link = link_of p (Some c) }) ∷ event Kind.Exit name (stop_of document_start cs) ∷ appended_from (m + 2) (Some i) rest) z
shift log n m p (group_then name a b inside rest) h =
    let c : ℕ = event_count inside in
    let in_is = shift log (n + 1) (m + 1) None inside (λ j l. let e : n + 1 + j ≡ n + (1 + j) = omega arith in ap (moved_number log) e ∙ h (1 + j) (omega arith) ∙ omega arith) in
    let rest_is = shift log (n + 2 + c) (m + 2 + c) p rest (λ j l. let e : n + 2 + c + j ≡ n + (2 + c + j) = omega arith in ap (moved_number log) e ∙ h (2 + c + j) (omega arith) ∙ omega arith) in
    ap (λ xs. event Kind.Enter name a ∷ xs)
    (moved-append log (appended_from (n + 1) None inside) (event Kind.Exit name b ∷ appended_from (n + 2 + c) p rest)
    ∙ ap (λ xs. xs ++ (event Kind.Exit name b ∷ all_moved log (appended_from (n + 2 + c) p rest))) in_is
    ∙ ap (λ xs. appended_from (m + 1) None inside ++ (event Kind.Exit name b ∷ xs)) rest_is)

-- What is still to come.

-- from place n on the edits do what the parts say; at place n these events come before, and the event there is to have number m
record Rest (log : List Edit) (n m : ℕ) (pre : List Event) (parts : List EditPart) : Type 0 where
  here : added_at n log ≡ pre ++ back_at n (edits_from n parts)
  later : (i : ℕ) → n < i → added_at i log ≡ back_at i (edits_from n parts)
  cuts : (i : ℕ) → n ≤ i → removed_at i log ≡ removed_at i (edits_from n parts)
  short : (p : ℕ) → p < n → p + removed_at p log ≤ n
  number : start log n + length pre ≡ m

-- the same of no event before
record After (log : List Edit) (n m : ℕ) (parts : List EditPart) : Type 0 where
  later : (i : ℕ) → n ≤ i → added_at i log ≡ back_at i (edits_from n parts)
  cuts : (i : ℕ) → n ≤ i → removed_at i log ≡ removed_at i (edits_from n parts)
  short : (p : ℕ) → p < n → p + removed_at p log ≤ n
  number : start log n ≡ m

rest-after : (log : List Edit) (n m : ℕ) (parts : List EditPart) → After log n m parts → Rest log n m [] parts
rest-after log n m parts a =
    record { here = a.later n (omega arith); later = λ i l. a.later i (omega arith); cuts = a.cuts; short = a.short; number = omega (arith, a.number) }

rest-comes : (log : List Edit) (n m : ℕ) (pre es : List Event) (parts : List EditPart) →
    Rest log n m pre (comes es ∷ parts) → Rest log n (m + length es) (pre ++ es) parts
rest-comes log n m pre es parts r = record {
  here = r.here ∙ ap (λ x. pre ++ x) (back-here n es (edits_from n parts)) ∙ sym (append_assoc pre es (back_at n (edits_from n parts)));
  later = λ i l. r.later i l ∙ back-other i n es (edits_from n parts) (λ e. omega (arith, e));
  cuts = λ i l. r.cuts i l ∙ removed-coming i n es (edits_from n parts);
  short = r.short;
  number = omega (arith, r.number, length-append pre es);
}

-- no range of a place before reaches past n, and none begins from n up to n + k
stay-of : (log : List Edit) (n k : ℕ) → ((p : ℕ) → p < n → p + removed_at p log ≤ n) →
    ((p : ℕ) → n ≤ p → p < n + k → removed_at p log ≡ 0) → (j : ℕ) → n ≤ j → j < n + k → is_removed log j ≡ false
stay-of log n k a b j l h = stays-where log j (λ p g. elim (leb_tells n p) [
  | inl t ↦ omega (arith, b p t.1 (omega arith))
  | inr f ↦ omega (arith, a p f.1)
])

goes-of : (log : List Edit) (n k : ℕ) → removed_at n log ≡ k → (j : ℕ) → n ≤ j → j < n + k → is_removed log j ≡ true
goes-of log n k a j l h = goes-where log j n l (omega (arith, a))

-- a row that stays
record Block (log : List Edit) (n m k : ℕ) (pre : List Event) (parts : List EditPart) : Type 0 where
  first : added_at n log ≡ pre
  none : (j : ℕ) → n < j → j < n + k → added_at j log ≡ []
  stay : (j : ℕ) → n ≤ j → j < n + k → is_removed log j ≡ false
  number : moved_number log n ≡ m
  after : After log (n + k) (m + k) parts

block : (log : List Edit) (n m k : ℕ) (pre : List Event) (parts : List EditPart) → 0 < k →
    added_at n log ≡ pre ++ back_at n (edits_from (n + k) parts) →
    ((i : ℕ) → n < i → added_at i log ≡ back_at i (edits_from (n + k) parts)) →
    ((i : ℕ) → n ≤ i → removed_at i log ≡ removed_at i (edits_from (n + k) parts)) →
    ((p : ℕ) → p < n → p + removed_at p log ≤ n) → start log n + length pre ≡ m → Block log n m k pre parts
block log n m k pre parts l here later cuts short counted =
    let first : added_at n log ≡ pre = here ∙ ap (λ x. pre ++ x) (back-below (n + k) n parts (omega arith)) ∙ append-nil pre in
    let none : (j : ℕ) → n < j → j < n + k → added_at j log ≡ [] = λ j h g. later j h ∙ back-below (n + k) j parts g in
    let zero-cut : (j : ℕ) → n ≤ j → j < n + k → removed_at j log ≡ 0 = λ j h g. cuts j h ∙ removed-below (n + k) j parts g in
    let stay : (j : ℕ) → n ≤ j → j < n + k → is_removed log j ≡ false = stay-of log n k short zero-cut in
    let number : moved_number log n ≡ m = moved-start log n ∙ ap (λ x. start log n + length x) first ∙ counted in
    let last : moved_number log (n + (k - 1)) ≡ m + (k - 1) = numbers log n m k (k - 1) number none stay (omega arith) in
    let e : n + k ≡ suc (n + (k - 1)) = omega arith in
    record {
      first = first;
      none = none;
      stay = stay;
      number = number;
      after = record {
        later = λ i h. later i (omega arith);
        cuts = λ i h. cuts i (omega arith);
        short = λ p h. elim (leb_tells n p) [
          | inl t ↦ omega (arith, zero-cut p t.1 h)
          | inr f ↦ omega (arith, short p f.1)
        ];
        number = ap (start log) e ∙ start-kept log (n + (k - 1)) (stay (n + (k - 1)) (omega arith) (omega arith)) ∙ omega (arith, last);
      };
    }

row-block : (log : List Edit) (n m : ℕ) (pre : List Event) (t : Forest) (parts : List EditPart) → 0 < event_count t →
    Rest log n m pre (stays t ∷ parts) → Block log n m (event_count t) pre parts
row-block log n m pre t parts l r = block log n m (event_count t) pre parts l r.here r.later r.cuts r.short r.number

one-block : (log : List Edit) (n m : ℕ) (pre : List Event) (kind : Kind) (name : Name) (p : Point) (parts : List EditPart) →
    Rest log n m pre (keeps kind name p ∷ parts) → Block log n m 1 pre parts
one-block log n m pre kind name p parts r =
    block log n m 1 pre parts (omega arith) r.here r.later r.cuts r.short r.number

start-gone : (log : List Edit) (i : ℕ) → is_removed log i ≡ true →
    start log (suc i) ≡ start log i + length (added_at i log)
start-gone log i h = ap (λ b. start log i + length (added_at i log) + cond b 0 1) h ∙ omega arith

-- the numbers of a stretch that goes
start-goes : (log : List Edit) (n k j : ℕ) → ((j : ℕ) → n < j → j < n + k → added_at j log ≡ []) →
    ((j : ℕ) → n ≤ j → j < n + k → is_removed log j ≡ true) → j < k →
    start log (n + suc j) ≡ start log n + length (added_at n log)
start-goes log n k zero a b l =
    let e : n + 1 ≡ suc n = omega arith in ap (start log) e ∙ start-gone log n (b n (omega arith) (omega arith))
start-goes log n k (suc j) a b l =
    let e : n + suc (suc j) ≡ suc (n + suc j) = omega arith in
    ap (start log) e
    ∙ start-gone log (n + suc j) (b (n + suc j) (omega arith) (omega arith))
    ∙ omega (arith, start-goes log n k j a b (omega arith), ap length (a (n + suc j) (omega arith) (omega arith)))

record Gone (log : List Edit) (n m k : ℕ) (pre : List Event) (parts : List EditPart) : Type 0 where
  first : added_at n log ≡ pre
  none : (j : ℕ) → n < j → j < n + k → added_at j log ≡ []
  goes : (j : ℕ) → n ≤ j → j < n + k → is_removed log j ≡ true
  after : After log (n + k) m parts

gone-block : (log : List Edit) (n m : ℕ) (pre : List Event) (e : Event) (es : List Event) (parts : List EditPart) →
    Rest log n m pre (goes e es ∷ parts) → Gone log n m (suc (length es)) pre parts
gone-block log n m pre e es parts r =
    let k : ℕ = suc (length es) in
    let later : List Edit = edits_from (n + k) parts in
    let first : added_at n log ≡ pre = r.here ∙ ap (λ x. pre ++ x) (back-going n n k later ∙ back-below (n + k) n parts (omega arith)) ∙ append-nil pre in
    let none : (j : ℕ) → n < j → j < n + k → added_at j log ≡ [] = λ j h g. r.later j h ∙ back-going j n k later ∙ back-below (n + k) j parts g in
    let cut : removed_at n log ≡ k = r.cuts n (omega arith) ∙ removed-here n k later ∙ ap (λ x. k + x) (removed-below (n + k) n parts (omega arith)) ∙ omega arith in
    let other : (j : ℕ) → n < j → removed_at j log ≡ removed_at j later = λ j h. r.cuts j (omega arith) ∙ removed-other j n k later (λ q. omega (arith, q)) in
    let goes : (j : ℕ) → n ≤ j → j < n + k → is_removed log j ≡ true = goes-of log n k cut in
    let last : start log (n + suc (length es)) ≡ start log n + length (added_at n log) = start-goes log n k (length es) none goes (omega arith) in
    record {
      first = first;
      none = none;
      goes = goes;
      after = record {
        later = λ i h. r.later i (omega arith) ∙ back-going i n k later;
        cuts = λ i h. other i (omega arith);
        short = λ p h. elim (leb_tells n p) [
          | inl t ↦ within p t.1 h cut other
          | inr f ↦ omega (arith, r.short p f.1)
        ];
        number = last ∙ ap (λ x. start log n + length x) first ∙ r.number;
      };
    }
  where
    within : (p : ℕ) → n ≤ p → p < n + suc (length es) → removed_at n log ≡ suc (length es) →
        ((j : ℕ) → n < j → removed_at j log ≡ removed_at j (edits_from (n + suc (length es)) parts)) →
        p + removed_at p log ≤ n + suc (length es)
    within p l h cut other = elim (leb_tells p n) [
      | inl t ↦ let q : p ≡ n = omega (arith, t.1) in omega (arith, ap (λ i. removed_at i log) q, cut)
      | inr f ↦ omega (arith, other p f.1, removed-below (n + suc (length es)) p parts h)
    ]

-- The whole.

EditsLeave : List Edit → List EditPart → Type 0
EditsLeave log parts =
    (n m : ℕ) (pre : List Event) → Rest log n m pre parts → edited_from log n (before_from n parts) ≡ pre ++ after_from m parts

rest-nothing : (log : List Edit) (n m : ℕ) (pre : List Event) (parts : List EditPart) →
    Rest log n m pre (stays empty ∷ parts) → Rest log n m pre parts
rest-nothing log n m pre parts r =
    let e : n + 0 ≡ n = omega arith in
    record {
      here = r.here ∙ ap (λ i. pre ++ back_at n (edits_from i parts)) e;
      later = λ i l. r.later i l ∙ ap (λ j. back_at i (edits_from j parts)) e;
      cuts = λ i l. r.cuts i l ∙ ap (λ j. removed_at i (edits_from j parts)) e;
      short = r.short;
      number = r.number;
    }

leaves-nothing : (log : List Edit) (t : Forest) (parts : List EditPart) → event_count t ≡ 0 → EditsLeave log parts →
    EditsLeave log (stays t ∷ parts)
unfolding EditsLeave
leaves-nothing log empty parts z law n m pre r =
    let e : n + 0 ≡ n = omega arith in
    let d : m ≡ m + 0 = omega arith in
    ap (λ i. edited_from log n (before_from i parts)) e ∙ law n m pre (rest-nothing log n m pre parts r) ∙ ap (λ i. pre ++ after_from i parts) d
leaves-nothing log (leaf_then name link cs rest) parts z law n m pre r = absurd (omega (arith, z))
leaves-nothing log (group_then name a b inside rest) parts z law n m pre r = absurd (omega (arith, z))

leaves-row : (log : List Edit) (t : Forest) (parts : List EditPart) → 0 < event_count t → EditsLeave log parts →
    EditsLeave log (stays t ∷ parts)
unfolding EditsLeave
leaves-row log t parts l law n m pre r =
    let b = row-block log n m pre t parts l r in
    let k : ℕ = event_count t in
    let len : length (appended_from n None t) ≡ k = length-appended_from n None t in
    let tail : List Event = before_from (n + k) parts in
    stretch log n pre (appended_from n None t) tail (omega (arith, len)) b.first (λ j h g. b.none j h (omega (arith, len, g))) (λ j h g. b.stay j h (omega (arith, len, g)))
    ∙ ap (λ i. pre ++ (all_moved log (appended_from n None t) ++ edited_from log (n + i) tail)) len
    ∙ ap (λ xs. pre ++ (xs ++ edited_from log (n + k) tail)) (shift log n m None t (λ j h. numbers log n m k j b.number b.none b.stay h))
    ∙ ap (λ xs. pre ++ (appended_from m None t ++ xs)) (law (n + k) (m + k) [] (rest-after log (n + k) (m + k) parts b.after))

positive : (k : ℕ) → k ≢ 0 → 0 < k
positive k h = omega (arith, h)

leaves : (log : List Edit) (parts : List EditPart) → EditsLeave log parts
unfolding EditsLeave all_moved
leaves log [] n m pre r = r.here
leaves log (comes es ∷ parts) n m pre r =
    leaves log parts n (m + length es) (pre ++ es) (rest-comes log n m pre es parts r) ∙ append_assoc pre es (after_from (m + length es) parts)
leaves log (goes e es ∷ parts) n m pre r =
    let g = gone-block log n m pre e es parts r in
    gone log n pre e es (before_from (n + suc (length es)) parts) g.first g.none g.goes
    ∙ ap (λ xs. pre ++ xs) (leaves log parts (n + suc (length es)) m [] (rest-after log (n + suc (length es)) m parts g.after))
leaves log (stays t ∷ parts) n m pre r = elim (eqb_tells (event_count t) 0) [
  | inl z ↦ leaves-nothing log t parts z.1 (leaves log parts) n m pre r
  | inr z ↦ leaves-row log t parts (positive (event_count t) z.1) (leaves log parts) n m pre r
]
leaves log (keeps kind name p ∷ parts) n m pre r =
    let b = one-block log n m pre kind name p parts r in
    stretch log n pre (event kind name p ∷ []) (before_from (n + 1) parts) (omega arith) b.first b.none b.stay
    ∙ ap (λ xs. pre ++ (event kind name p ∷ xs)) (leaves log parts (n + 1) (m + 1) [] (rest-after log (n + 1) (m + 1) parts b.after))

rest-whole : (log : List Edit) (parts : List EditPart) → Does log parts → Rest log 0 0 [] parts
rest-whole log parts d =
    record { here = d.added 0; later = λ i l. d.added i; cuts = λ i l. d.removed i; short = λ p l. absurd (omega (arith, l)); number = refl }

-- edits that do what the parts say leave their events
pub parts-edited : (log : List Edit) (parts : List EditPart) → Does log parts →
    edited log (before_from 0 parts) ≡ after_from 0 parts
unfolding EditsLeave
parts-edited log parts d = leaves log parts 0 0 [] (rest-whole log parts d)

-- They may be made.

linked-skip : (xs ys : List Event) (i j : ℕ) → i ≡ length xs + j → linked_at (xs ++ ys) i ≡ linked_at ys j
linked-skip [] ys i j e = let same : i ≡ j = omega (arith, e) in ap (linked_at ys) same
linked-skip (x ∷ xs) ys zero j e = absurd (omega (arith, e))
linked-skip (x ∷ xs) ys (suc i) j e = linked-skip xs ys i j (omega (arith, e))

linked-none : (xs ys : List Event) (i : ℕ) → i < length xs → AreUnlinked xs → linked_at (xs ++ ys) i ≡ false
linked-none [] ys i l u = absurd (omega (arith, l))
linked-none (x ∷ xs) ys zero l u = ap has_link u.0
linked-none (x ∷ xs) ys (suc i) l u = linked-none xs ys i (omega (arith, l)) u.1

goes-unlinked : (log : List Edit) (parts : List EditPart) (n m : ℕ) (pre : List Event) → Rest log n m pre parts →
    GoUnlinked parts → (i j : ℕ) → i ≡ n + j → is_removed log i ≡ true → linked_at (before_from n parts) j ≡ false
goes-unlinked log [] n m pre r u i j e h = refl
goes-unlinked log (comes es ∷ parts) n m pre r u i j e h =
    goes-unlinked log parts n (m + length es) (pre ++ es) (rest-comes log n m pre es parts r) u i j e h
goes-unlinked log (goes x es ∷ parts) n m pre r u i j e h =
    let g = gone-block log n m pre x es parts r in
    let k : ℕ = suc (length es) in
    elim (leb_tells k j) [
      | inl t ↦
          linked-skip (x ∷ es) (before_from (n + k) parts) j (j - k) (omega (arith, t.1))
          ∙ goes-unlinked log parts (n + k) m [] (rest-after log (n + k) m parts g.after) u.1 i (j - k) (omega (arith, e, t.1)) h
      | inr f ↦ linked-none (x ∷ es) (before_from (n + k) parts) j f.1 u.0
    ]
goes-unlinked log (keeps kind name p ∷ parts) n m pre r u i j e h =
    let b = one-block log n m pre kind name p parts r in
    elim (leb_tells 1 j) [
      | inl t ↦
          linked-skip (event kind name p ∷ []) (before_from (n + 1) parts) j (j - 1) (omega (arith, t.1))
          ∙ goes-unlinked log parts (n + 1) (m + 1) [] (rest-after log (n + 1) (m + 1) parts b.after) u i (j - 1) (omega (arith, e, t.1)) h
      | inr f ↦ absurd (both_ways (is_removed log i) (b.stay i (omega (arith, e)) (omega (arith, e, f.1))) h)
    ]
goes-unlinked log (stays t ∷ parts) n m pre r u i j e h = elim (eqb_tells (event_count t) 0) [
  | inl z ↦ none t z.1 r (λ q. goes-unlinked log parts n m pre q u i j e h)
  | inr z ↦
      let b = row-block log n m pre t parts (positive (event_count t) z.1) r in
      let k : ℕ = event_count t in
      let len : length (appended_from n None t) ≡ k = length-appended_from n None t in
      elim (leb_tells k j) [
        | inl l ↦
            linked-skip (appended_from n None t) (before_from (n + k) parts) j (j - k) (omega (arith, l.1, len))
            ∙ goes-unlinked log parts (n + k) (m + k) [] (rest-after log (n + k) (m + k) parts b.after) u i (j - k) (omega (arith, e, l.1)) h
        | inr f ↦ absurd (both_ways (is_removed log i) (b.stay i (omega (arith, e)) (omega (arith, e, f.1))) h)
      ]
]
  where
    none : (t : Forest) → event_count t ≡ 0 → Rest log n m pre (stays t ∷ parts) →
        (Rest log n m pre parts → linked_at (before_from n parts) j ≡ false) →
        linked_at (before_from n (stays t ∷ parts)) j ≡ false
    none empty z r more =
        let e0 : n + 0 ≡ n = omega arith in ap (λ k. linked_at (before_from k parts) j) e0 ∙ more (rest-nothing log n m pre parts r)
    none (leaf_then name link cs rest) z r more = absurd (omega (arith, z))
    none (group_then name a b inside rest) z r more = absurd (omega (arith, z))

pub parts-may : (log : List Edit) (parts : List EditPart) → Does log parts →
    All (λ e. e.at ≤ length (before_from 0 parts)) log → GoUnlinked parts → CanEdit log (before_from 0 parts)
parts-may log parts d places u =
    record { places = places; unlinked = λ j h. goes-unlinked log parts 0 0 [] (rest-whole log parts d) u j j (omega arith) h }
