-- the edits of brackets, label by label, do at each place what the parts say
use Rattle.std.proofs.Common.{◌≡◌, ◌≢◌, ℕ, suc, ◌+◌, ◌<◌, ◌≤◌, ◌==◌, ◌&&◌, not, inl, inr, Bool, true, false, cond, List, [], ◌∷◌, ◌++◌, refl, sym, ap, ◌∙◌, arith, append_assoc}
use Rattle.std.proofs.Math.Bool.{and-false}
use Rattle.std.specs.List.{All}
use Rattle.std.proofs.lemmas.List.{append-nil}
use Rattle.std.proofs.lemmas.List.Elements.{All-nil, All-cons}
use Rattle.std.proofs.lemmas.Bool.{ne_eqb}
use Rattle.std.proofs.lemmas.Bool.Decides.{leb_tells}
use Rattle.markdown_engine_events.specs.Edits.{removed_at, front_at, back_at}
use Rattle.markdown_content.specs.Codes.{Code}
use Rattle.markdown_content.specs.Tree.{Forest, event_count}
use Rattle.markdown_event.specs.declared.event.Event.{Event}
use Rattle.markdown_engine_events.specs.declared.util.edit_map.Edit.{Edit}
use Rattle.markdown_engine_events.proofs.EditRules.{back-append, removed-append}
use Rattle.markdown_engine.specs.OrderedEdits.{EditPart, comes, stays, edits_from, coming, going, Does}
use Rattle.markdown_label.specs.Brackets.{Front, link_front, image_front, call_front, caret_front, kind_of, tail_row, Tail, Brackets, nothing, tree_then, label_then, unused_then, failed_then, last_of, count, replacing, opened_of, ended, closed, as_data, first_start, last_stop, going_of, start_events, tail_stop, parts_of}
use Rattle.markdown_engine.proofs.OrderedEditLaws.{back-going, removed-coming}
use Rattle.markdown_label.proofs.EventsOfBrackets.{behind_end}

-- The edits, with their events.

abbrev pub opening_edit : ℕ → Front → Edit
opening_edit n f = replacing n (suc (last_of f)) (opened_of f)

abbrev pub data_edit : ℕ → Front → Edit
data_edit n f = replacing n (suc (last_of f)) (as_data (first_start f) (last_stop f))

abbrev pub own_labels : ℕ → Brackets → List Edit
own_labels n nothing = []
own_labels n (tree_then t rest) = own_labels (n + event_count t) rest
own_labels n (label_then f inside back tail rest) =
    let e = n + suc (last_of f) + count inside in
    let x = e + 4 + event_count (tail_row tail) in
    own_labels (n + suc (last_of f)) inside
    ++ opening_edit n f ∷ replacing e 4 (ended back.start back.stop) ∷ replacing x 0 (closed (kind_of f) (tail_stop back tail)) ∷ own_labels x rest
own_labels n (unused_then f rest) = own_labels (n + suc (last_of f)) rest
own_labels n (failed_then f inside rest) =
    own_labels (n + suc (last_of f)) inside ++ own_labels (n + suc (last_of f) + count inside) rest

-- of the starts that become data, in the order of their places
abbrev pub own_loose : ℕ → Brackets → List Edit
own_loose n nothing = []
own_loose n (tree_then t rest) = own_loose (n + event_count t) rest
own_loose n (label_then f inside back tail rest) =
    own_loose (n + suc (last_of f)) inside ++ own_loose (n + suc (last_of f) + count inside + 4 + event_count (tail_row tail)) rest
own_loose n (unused_then f rest) = data_edit n f ∷ own_loose (n + suc (last_of f)) rest
own_loose n (failed_then f inside rest) =
    data_edit n f ∷ own_loose (n + suc (last_of f)) inside ++ own_loose (n + suc (last_of f) + count inside) rest

-- of those that no end used, the last one first
abbrev pub own_unused : ℕ → Brackets → List Edit
own_unused n nothing = []
own_unused n (tree_then t rest) = own_unused (n + event_count t) rest
own_unused n (label_then f inside back tail rest) =
    own_unused (n + suc (last_of f) + count inside + 4 + event_count (tail_row tail)) rest ++ own_unused (n + suc (last_of f)) inside
own_unused n (unused_then f rest) = own_unused (n + suc (last_of f)) rest ++ data_edit n f ∷ []
own_unused n (failed_then f inside rest) =
    own_unused (n + suc (last_of f) + count inside) rest ++ own_unused (n + suc (last_of f)) inside

-- of those whose ends failed, in the order of the ends
abbrev pub own_failed : ℕ → Brackets → List Edit
own_failed n nothing = []
own_failed n (tree_then t rest) = own_failed (n + event_count t) rest
own_failed n (label_then f inside back tail rest) =
    own_failed (n + suc (last_of f)) inside ++ own_failed (n + suc (last_of f) + count inside + 4 + event_count (tail_row tail)) rest
own_failed n (unused_then f rest) = own_failed (n + suc (last_of f)) rest
own_failed n (failed_then f inside rest) =
    own_failed (n + suc (last_of f)) inside ++ data_edit n f ∷ own_failed (n + suc (last_of f) + count inside) rest

-- Where they stand.

-- each stands from one place on, and before another; none puts its events before others
abbrev pub EditsWithin : ℕ → ℕ → List Edit → Type 0
EditsWithin lo hi [] = Unit {0}
EditsWithin lo hi (e ∷ log) = ((lo ≤ e.at) × ((e.at < hi) × (e.before ≡ false))) × EditsWithin lo hi log

within-append : (lo hi : ℕ) (a b : List Edit) → EditsWithin lo hi a → EditsWithin lo hi b → EditsWithin lo hi (a ++ b)
within-append lo hi [] b g h = h
within-append lo hi (e ∷ a) b g h = (g.0, within-append lo hi a b g.1 h)

within-wider : (lo hi low high : ℕ) (a : List Edit) → low ≤ lo → hi ≤ high → EditsWithin lo hi a → EditsWithin low high a
within-wider lo hi low high [] l h g = tt
within-wider lo hi low high (e ∷ a) l h g =
    ((omega (arith, g.0.0), (omega (arith, g.0.1.0), g.0.1.1)), within-wider lo hi low high a l h g.1)

abbrev come : ℕ → ℕ → List Event → List Event
come n i es = cond (n == i && true) es []

come-off : (n i : ℕ) (es : List Event) → n ≢ i → come n i es ≡ []
come-off n i es h = ap (λ b. cond (b && true) es []) (ne_eqb n i h)

back-low : (lo hi i : ℕ) (a : List Edit) → EditsWithin lo hi a → i < lo → back_at i a ≡ []
back-low lo hi i [] g l = refl
back-low lo hi i (e ∷ a) g l =
    let off : (e.at == i) ≡ false = ne_eqb e.at i (λ q. omega (arith, q, g.0.0)) in
    ap (λ b. cond (b && not e.before) e.events [] ++ back_at i a) off ∙ back-low lo hi i a g.1 l

back-high : (lo hi i : ℕ) (a : List Edit) → EditsWithin lo hi a → hi ≤ i → back_at i a ≡ []
back-high lo hi i [] g l = refl
back-high lo hi i (e ∷ a) g l =
    let off : (e.at == i) ≡ false = ne_eqb e.at i (λ q. omega (arith, q, g.0.1.0)) in
    ap (λ b. cond (b && not e.before) e.events [] ++ back_at i a) off ∙ back-high lo hi i a g.1 l

pub front-within : (lo hi i : ℕ) (a : List Edit) → EditsWithin lo hi a → front_at i a ≡ []
front-within lo hi i [] g = refl
front-within lo hi i (e ∷ a) g =
    ap (λ x. x ++ cond (e.at == i && e.before) e.events []) (front-within lo hi i a g.1)
    ∙ ap (λ b. cond (e.at == i && b) e.events []) g.0.1.1
    ∙ ap (λ b. cond b e.events []) (and-false (e.at == i))

pub within-labels : (n : ℕ) (b : Brackets) → EditsWithin n (n + count b + 1) (own_labels n b)
within-labels n nothing = tt
within-labels n (tree_then t rest) =
    within-wider (n + event_count t) (n + event_count t + count rest + 1) n (n + (event_count t + count rest) + 1) (own_labels (n + event_count t) rest) (omega arith) (omega arith) (within-labels (n + event_count t) rest)
within-labels n (label_then f inside back tail rest) =
    let i : ℕ = n + suc (last_of f) in
    let e : ℕ = i + count inside in
    let x : ℕ = e + 4 + event_count (tail_row tail) in
    let hi : ℕ = n + (suc (last_of f) + (count inside + (4 + (event_count (tail_row tail) + count rest)))) + 1 in
    within-append n hi (own_labels i inside) (opening_edit n f ∷ replacing e 4 (ended back.start back.stop) ∷ replacing x 0 (closed (kind_of f) (tail_stop back tail)) ∷ own_labels x rest)
    (within-wider i (e + 1) n hi (own_labels i inside) (omega arith) (omega arith) (within-labels i inside))
    ((omega arith, (omega arith, refl)), ((omega arith, (omega arith, refl)), ((omega arith, (omega arith, refl)), within-wider x (x + count rest + 1) n hi (own_labels x rest) (omega arith) (omega arith) (within-labels x rest))))
within-labels n (unused_then f rest) =
    within-wider (n + suc (last_of f)) (n + suc (last_of f) + count rest + 1) n (n + (suc (last_of f) + count rest) + 1) (own_labels (n + suc (last_of f)) rest) (omega arith) (omega arith) (within-labels (n + suc (last_of f)) rest)
within-labels n (failed_then f inside rest) =
    let i : ℕ = n + suc (last_of f) in
    let e : ℕ = i + count inside in
    let hi : ℕ = n + (suc (last_of f) + (count inside + count rest)) + 1 in
    within-append n hi (own_labels i inside) (own_labels e rest)
    (within-wider i (e + 1) n hi (own_labels i inside) (omega arith) (omega arith) (within-labels i inside))
    (within-wider e (e + count rest + 1) n hi (own_labels e rest) (omega arith) (omega arith) (within-labels e rest))

-- two stretches, one after the other
two-within : (n i e hi : ℕ) (inside rest : Brackets) (a b : List Edit) → n ≤ i → i + count inside ≤ e →
    e + count rest ≤ hi → EditsWithin i (i + count inside) a → EditsWithin e (e + count rest) b → EditsWithin n hi (a ++ b)
two-within n i e hi inside rest a b g h k u v =
    within-append n hi a b (within-wider i (i + count inside) n hi a g (omega arith) u) (within-wider e (e + count rest) n hi b (omega arith) k v)

pub within-loose : (n : ℕ) (b : Brackets) → EditsWithin n (n + count b) (own_loose n b)
within-loose n nothing = tt
within-loose n (tree_then t rest) =
    within-wider (n + event_count t) (n + event_count t + count rest) n (n + (event_count t + count rest)) (own_loose (n + event_count t) rest) (omega arith) (omega arith) (within-loose (n + event_count t) rest)
within-loose n (label_then f inside back tail rest) =
    let i : ℕ = n + suc (last_of f) in
    let x : ℕ = i + count inside + 4 + event_count (tail_row tail) in
    two-within n i x (n + (suc (last_of f) + (count inside + (4 + (event_count (tail_row tail) + count rest))))) inside rest (own_loose i inside) (own_loose x rest) (omega arith) (omega arith) (omega arith) (within-loose i inside) (within-loose x rest)
within-loose n (unused_then f rest) =
    let i : ℕ = n + suc (last_of f) in
    ((omega arith, (omega arith, refl)), within-wider i (i + count rest) n (n + (suc (last_of f) + count rest)) (own_loose i rest) (omega arith) (omega arith) (within-loose i rest))
within-loose n (failed_then f inside rest) =
    let i : ℕ = n + suc (last_of f) in
    let e : ℕ = i + count inside in
    ((omega arith, (omega arith, refl)), two-within n i e (n + (suc (last_of f) + (count inside + count rest))) inside rest (own_loose i inside) (own_loose e rest) (omega arith) (omega arith) (omega arith) (within-loose i inside) (within-loose e rest))

-- two stretches, the later one first
two-back : (n i e hi : ℕ) (inside rest : Brackets) (a b : List Edit) → n ≤ i → i + count inside ≤ e →
    e + count rest ≤ hi → EditsWithin i (i + count inside) a → EditsWithin e (e + count rest) b → EditsWithin n hi (b ++ a)
two-back n i e hi inside rest a b g h k u v =
    within-append n hi b a (within-wider e (e + count rest) n hi b (omega arith) k v) (within-wider i (i + count inside) n hi a g (omega arith) u)

pub within-unused : (n : ℕ) (b : Brackets) → EditsWithin n (n + count b) (own_unused n b)
within-unused n nothing = tt
within-unused n (tree_then t rest) =
    within-wider (n + event_count t) (n + event_count t + count rest) n (n + (event_count t + count rest)) (own_unused (n + event_count t) rest) (omega arith) (omega arith) (within-unused (n + event_count t) rest)
within-unused n (label_then f inside back tail rest) =
    let i : ℕ = n + suc (last_of f) in
    let x : ℕ = i + count inside + 4 + event_count (tail_row tail) in
    two-back n i x (n + (suc (last_of f) + (count inside + (4 + (event_count (tail_row tail) + count rest))))) inside rest (own_unused i inside) (own_unused x rest) (omega arith) (omega arith) (omega arith) (within-unused i inside) (within-unused x rest)
within-unused n (unused_then f rest) =
    let i : ℕ = n + suc (last_of f) in
    let hi : ℕ = n + (suc (last_of f) + count rest) in
    within-append n hi (own_unused i rest) (data_edit n f ∷ []) (within-wider i (i + count rest) n hi (own_unused i rest) (omega arith) (omega arith) (within-unused i rest)) ((omega arith, (omega arith, refl)), tt)
within-unused n (failed_then f inside rest) =
    let i : ℕ = n + suc (last_of f) in
    let e : ℕ = i + count inside in
    two-back n i e (n + (suc (last_of f) + (count inside + count rest))) inside rest (own_unused i inside) (own_unused e rest) (omega arith) (omega arith) (omega arith) (within-unused i inside) (within-unused e rest)

pub within-failed : (n : ℕ) (b : Brackets) → EditsWithin n (n + count b) (own_failed n b)
within-failed n nothing = tt
within-failed n (tree_then t rest) =
    within-wider (n + event_count t) (n + event_count t + count rest) n (n + (event_count t + count rest)) (own_failed (n + event_count t) rest) (omega arith) (omega arith) (within-failed (n + event_count t) rest)
within-failed n (label_then f inside back tail rest) =
    let i : ℕ = n + suc (last_of f) in
    let x : ℕ = i + count inside + 4 + event_count (tail_row tail) in
    two-within n i x (n + (suc (last_of f) + (count inside + (4 + (event_count (tail_row tail) + count rest))))) inside rest (own_failed i inside) (own_failed x rest) (omega arith) (omega arith) (omega arith) (within-failed i inside) (within-failed x rest)
within-failed n (unused_then f rest) =
    let i : ℕ = n + suc (last_of f) in
    within-wider i (i + count rest) n (n + (suc (last_of f) + count rest)) (own_failed i rest) (omega arith) (omega arith) (within-failed i rest)
within-failed n (failed_then f inside rest) =
    let i : ℕ = n + suc (last_of f) in
    let e : ℕ = i + count inside in
    let hi : ℕ = n + (suc (last_of f) + (count inside + count rest)) in
    within-append n hi (own_failed i inside) (data_edit n f ∷ own_failed e rest)
    (within-wider i e n hi (own_failed i inside) (omega arith) (omega arith) (within-failed i inside))
    ((omega arith, (omega arith, refl)), within-wider e (e + count rest) n hi (own_failed e rest) (omega arith) (omega arith) (within-failed e rest))

-- What comes at a place.

-- a start's edit, as parts
opens-come : (n i : ℕ) (f : Front) (es : List Event) (parts : List EditPart) →
    back_at i (edits_from n (comes es ∷ going_of (start_events f) ∷ parts)) ≡ come n i es ++ back_at i (edits_from (n + suc (last_of f)) parts)
opens-come n i (link_front c) es parts = ap (λ x. come n i es ++ x) (back-going i n 4 (edits_from (n + 4) parts))
opens-come n i (image_front c d) es parts = ap (λ x. come n i es ++ x) (back-going i n 6 (edits_from (n + 6) parts))
opens-come n i (call_front c d) es parts = ap (λ x. come n i es ++ x) (back-going i n 6 (edits_from (n + 6) parts))
opens-come n i (caret_front c d) es parts = ap (λ x. come n i es ++ x) (back-going i n 6 (edits_from (n + 6) parts))

-- the edits of an end, as parts
ends-come : (e i : ℕ) (f : Front) (back : Code) (tail : Tail) (parts : List EditPart) →
    back_at i (edits_from e (behind_end f back tail parts)) ≡ come e i (ended back.start back.stop) ++ (come (e + 4 + event_count (tail_row tail)) i (closed (kind_of f) (tail_stop back tail)) ++ back_at i (edits_from (e + 4 + event_count (tail_row tail)) parts))
ends-come e i f back tail parts =
    ap (λ x. come e i (ended back.start back.stop) ++ x) (back-going i e 4 (edits_from (e + 4) (stays (tail_row tail) ∷ comes (closed (kind_of f) (tail_stop back tail)) ∷ parts)))

abbrev KeepEventOrder : (a d o e c r s m : List Event) → Type 0
KeepEventOrder a d o e c r s m =
    o ++ ((a ++ d) ++ (e ++ (c ++ ((r ++ s) ++ m)))) ≡ ((a ++ (o ++ (e ++ (c ++ r)))) ++ (d ++ s)) ++ m

whole-one : (a d o e c r s m : List Event) → a ≡ [] → d ≡ [] → KeepEventOrder a d o e c r s m
whole-one a d o e c r s m g h = rw (g, h) (simp append_assoc refl)

whole-two : (a d o e c r s m : List Event) → o ≡ [] → e ≡ [] → c ≡ [] → r ≡ [] → s ≡ [] → KeepEventOrder a d o e c r s m
whole-two a d o e c r s m g h k l q = rw (g, h, k, l, q) (simp (append_assoc, append-nil) refl)

whole-three : (a d o e c r s m : List Event) → o ≡ [] → d ≡ [] → KeepEventOrder a d o e c r s m
whole-three a d o e c r s m g h = rw (g, h) (simp (append_assoc, append-nil) refl)

abbrev Comes : Brackets → Type 0
Comes b = (n i : ℕ) (more : List EditPart) → back_at i (edits_from n (parts_of b ++ more)) ≡ (back_at i (own_labels n b) ++ back_at i (own_loose n b)) ++ back_at i (edits_from (n + count b) more)

label-comes : (f : Front) (inside : Brackets) (back : Code) (tail : Tail) (rest : Brackets) → Comes inside →
    Comes rest → Comes (label_then f inside back tail rest)
label-comes f inside back tail rest in_law rest_law n i more =
    let k : ℕ = n + suc (last_of f) in
    let e : ℕ = k + count inside in
    let x : ℕ = e + 4 + event_count (tail_row tail) in
    let last : x + count rest ≡ n + (suc (last_of f) + (count inside + (4 + (event_count (tail_row tail) + count rest)))) = omega arith in
    let o : List Event = come n i (opened_of f) in
    let a : List Event = back_at i (own_labels k inside) in
    let d : List Event = back_at i (own_loose k inside) in
    let p : List Event = come e i (ended back.start back.stop) in
    let c : List Event = come x i (closed (kind_of f) (tail_stop back tail)) in
    let r : List Event = back_at i (own_labels x rest) in
    let s : List Event = back_at i (own_loose x rest) in
    let m : List Event = back_at i (edits_from (n + (suc (last_of f) + (count inside + (4 + (event_count (tail_row tail) + count rest))))) more) in
    let whole : KeepEventOrder a d o p c r s m = elim (leb_tells i n) [
      | inl t ↦ whole-one a d o p c r s m (back-low k (e + 1) i (own_labels k inside) (within-labels k inside) (omega (arith, t.1))) (back-low k e i (own_loose k inside) (within-loose k inside) (omega (arith, t.1)))
      | inr u ↦ elim (leb_tells e i) [
        | inl t ↦ whole-three a d o p c r s m (come-off n i (opened_of f) (λ q. omega (arith, q, u.1))) (back-high k e i (own_loose k inside) (within-loose k inside) t.1)
        | inr v ↦
            whole-two a d o p c r s m
            (come-off n i (opened_of f) (λ q. omega (arith, q, u.1)))
            (come-off e i (ended back.start back.stop) (λ q. omega (arith, q, v.1)))
            (come-off x i (closed (kind_of f) (tail_stop back tail)) (λ q. omega (arith, q, v.1)))
            (back-low x (x + count rest + 1) i (own_labels x rest) (within-labels x rest) (omega (arith, v.1)))
            (back-low x (x + count rest) i (own_loose x rest) (within-loose x rest) (omega (arith, v.1)))
      ]
    ] in
    opens-come n i f (opened_of f) ((parts_of inside ++ behind_end f back tail (parts_of rest)) ++ more)
    ∙ ap (λ ps. o ++ back_at i (edits_from k ps)) (append_assoc (parts_of inside) (behind_end f back tail (parts_of rest)) more)
    ∙ ap (λ xs. o ++ xs) (in_law k i (behind_end f back tail (parts_of rest ++ more)))
    ∙ ap (λ xs. o ++ ((a ++ d) ++ xs)) (ends-come e i f back tail (parts_of rest ++ more) ∙ ap (λ xs. p ++ (c ++ xs)) (rest_law x i more ∙ ap (λ j. (r ++ s) ++ back_at i (edits_from j more)) last))
    ∙ whole
    ∙ ap (λ xs. (xs ++ (d ++ s)) ++ m) (sym (back-append i (own_labels k inside) (opening_edit n f ∷ replacing e 4 (ended back.start back.stop) ∷ replacing x 0 (closed (kind_of f) (tail_stop back tail)) ∷ own_labels x rest)))
    ∙ ap (λ xs. (back_at i (own_labels n (label_then f inside back tail rest)) ++ xs) ++ m) (sym (back-append i (own_loose k inside) (own_loose x rest)))

tree-comes : (t : Forest) (rest : Brackets) → Comes rest → Comes (tree_then t rest)
tree-comes t rest law n i more =
    law (n + event_count t) i more
    ∙ ap (λ j. (back_at i (own_labels (n + event_count t) rest) ++ back_at i (own_loose (n + event_count t) rest)) ++ back_at i (edits_from j more)) (omega arith)

unused-join : (a d o m : List Event) → o ≡ [] → o ++ ((a ++ d) ++ m) ≡ (a ++ (o ++ d)) ++ m
unused-join a d o m h = rw h (simp append_assoc refl)

unused-first : (a d o m : List Event) → a ≡ [] → o ++ ((a ++ d) ++ m) ≡ (a ++ (o ++ d)) ++ m
unused-first a d o m h = rw h (simp append_assoc refl)

unused-comes : (f : Front) (rest : Brackets) → Comes rest → Comes (unused_then f rest)
unused-comes f rest law n i more =
    let k : ℕ = n + suc (last_of f) in
    let o : List Event = come n i (as_data (first_start f) (last_stop f)) in
    let a : List Event = back_at i (own_labels k rest) in
    let d : List Event = back_at i (own_loose k rest) in
    let last : k + count rest ≡ n + (suc (last_of f) + count rest) = omega arith in
    let m : List Event = back_at i (edits_from (n + (suc (last_of f) + count rest)) more) in
    opens-come n i f (as_data (first_start f) (last_stop f)) (parts_of rest ++ more)
    ∙ ap (λ xs. o ++ xs) (law k i more ∙ ap (λ j. (a ++ d) ++ back_at i (edits_from j more)) last)
    ∙ elim (leb_tells i n) [
      | inl t ↦ unused-first a d o m (back-low k (k + count rest + 1) i (own_labels k rest) (within-labels k rest) (omega (arith, t.1)))
      | inr u ↦ unused-join a d o m (come-off n i (as_data (first_start f) (last_stop f)) (λ q. omega (arith, q, u.1)))
    ]

abbrev Failed : (a d o r s m : List Event) → Type 0
Failed a d o r s m = o ++ ((a ++ d) ++ ((r ++ s) ++ m)) ≡ ((a ++ r) ++ (o ++ (d ++ s))) ++ m

failed-one : (a d o r s m : List Event) → a ≡ [] → d ≡ [] → r ≡ [] → Failed a d o r s m
failed-one a d o r s m g h k = rw (g, h, k) (simp append_assoc refl)

failed-two : (a d o r s m : List Event) → o ≡ [] → r ≡ [] → Failed a d o r s m
failed-two a d o r s m g h = rw (g, h) (simp (append_assoc, append-nil) refl)

failed-three : (a d o r s m : List Event) → o ≡ [] → d ≡ [] → Failed a d o r s m
failed-three a d o r s m g h = rw (g, h) (simp (append_assoc, append-nil) refl)

failed-comes : (f : Front) (inside rest : Brackets) → Comes inside → Comes rest → Comes (failed_then f inside rest)
failed-comes f inside rest in_law rest_law n i more =
    let k : ℕ = n + suc (last_of f) in
    let e : ℕ = k + count inside in
    let last : e + count rest ≡ n + (suc (last_of f) + (count inside + count rest)) = omega arith in
    let o : List Event = come n i (as_data (first_start f) (last_stop f)) in
    let a : List Event = back_at i (own_labels k inside) in
    let d : List Event = back_at i (own_loose k inside) in
    let r : List Event = back_at i (own_labels e rest) in
    let s : List Event = back_at i (own_loose e rest) in
    let m : List Event = back_at i (edits_from (n + (suc (last_of f) + (count inside + count rest))) more) in
    let whole : Failed a d o r s m = elim (leb_tells i n) [
      | inl t ↦
          failed-one a d o r s m
          (back-low k (e + 1) i (own_labels k inside) (within-labels k inside) (omega (arith, t.1)))
          (back-low k e i (own_loose k inside) (within-loose k inside) (omega (arith, t.1)))
          (back-low e (e + count rest + 1) i (own_labels e rest) (within-labels e rest) (omega (arith, t.1)))
      | inr u ↦ elim (leb_tells e i) [
        | inl t ↦ failed-three a d o r s m (come-off n i (as_data (first_start f) (last_stop f)) (λ q. omega (arith, q, u.1))) (back-high k e i (own_loose k inside) (within-loose k inside) t.1)
        | inr v ↦ failed-two a d o r s m (come-off n i (as_data (first_start f) (last_stop f)) (λ q. omega (arith, q, u.1))) (back-low e (e + count rest + 1) i (own_labels e rest) (within-labels e rest) v.1)
      ]
    ] in
    opens-come n i f (as_data (first_start f) (last_stop f)) ((parts_of inside ++ parts_of rest) ++ more)
    ∙ ap (λ ps. o ++ back_at i (edits_from k ps)) (append_assoc (parts_of inside) (parts_of rest) more)
    ∙ ap (λ xs. o ++ xs) (in_law k i (parts_of rest ++ more))
    ∙ ap (λ xs. o ++ ((a ++ d) ++ xs)) (rest_law e i more ∙ ap (λ j. (r ++ s) ++ back_at i (edits_from j more)) last)
    ∙ whole
    ∙ ap (λ xs. (xs ++ (o ++ (d ++ s))) ++ m) (sym (back-append i (own_labels k inside) (own_labels e rest)))
    ∙ ap (λ xs. (back_at i (own_labels n (failed_then f inside rest)) ++ (o ++ xs)) ++ m) (sym (back-append i (own_loose k inside) (own_loose e rest)))

pub comes-all : (b : Brackets) → Comes b
comes-all nothing n i more = ap (λ j. back_at i (edits_from j more)) (omega arith)
comes-all (tree_then t rest) n i more = tree-comes t rest (comes-all rest) n i more
comes-all (label_then f inside back tail rest) n i more =
    label-comes f inside back tail rest (comes-all inside) (comes-all rest) n i more
comes-all (unused_then f rest) n i more = unused-comes f rest (comes-all rest) n i more
comes-all (failed_then f inside rest) n i more = failed-comes f inside rest (comes-all inside) (comes-all rest) n i more

-- What goes at a place.

abbrev go : ℕ → ℕ → ℕ → ℕ
go n i k = cond (n == i) k 0

opens-go : (n i : ℕ) (f : Front) (es : List Event) (parts : List EditPart) →
    removed_at i (edits_from n (comes es ∷ going_of (start_events f) ∷ parts)) ≡ go n i (suc (last_of f)) + removed_at i (edits_from (n + suc (last_of f)) parts)
opens-go n i (link_front c) es parts = removed-coming i n es (going n 4 ∷ edits_from (n + 4) parts)
opens-go n i (image_front c d) es parts = removed-coming i n es (going n 6 ∷ edits_from (n + 6) parts)
opens-go n i (call_front c d) es parts = removed-coming i n es (going n 6 ∷ edits_from (n + 6) parts)
opens-go n i (caret_front c d) es parts = removed-coming i n es (going n 6 ∷ edits_from (n + 6) parts)

go-none : (n i : ℕ) → go n i 0 ≡ 0
go-none n i = zero-of (n == i)
  where
    zero-of : (b : Bool) → ◌≡◌ {A = ℕ} (cond b 0 0) 0
    zero-of true = refl
    zero-of false = refl

ends-go : (e i : ℕ) (f : Front) (back : Code) (tail : Tail) (parts : List EditPart) →
    removed_at i (edits_from e (behind_end f back tail parts)) ≡ go e i 4 + removed_at i (edits_from (e + 4 + event_count (tail_row tail)) parts)
ends-go e i f back tail parts =
    let x : ℕ = e + 4 + event_count (tail_row tail) in
    removed-coming i e (ended back.start back.stop) (going e 4 ∷ coming x (closed (kind_of f) (tail_stop back tail)) ∷ edits_from x parts)
    ∙ ap (λ k. go e i 4 + k) (removed-coming i x (closed (kind_of f) (tail_stop back tail)) (edits_from x parts))

abbrev RemovalsAddUp : Brackets → Type 0
RemovalsAddUp b = (n i : ℕ) (more : List EditPart) → removed_at i (edits_from n (parts_of b ++ more)) ≡ (removed_at i (own_labels n b) + removed_at i (own_loose n b)) + removed_at i (edits_from (n + count b) more)

pub goes-all : (b : Brackets) → RemovalsAddUp b
goes-all nothing n i more =
    let e : n ≡ n + 0 = omega arith in ap (λ j. removed_at i (edits_from j more)) e ∙ omega arith
goes-all (tree_then t rest) n i more =
    goes-all rest (n + event_count t) i more
    ∙ ap (λ j. (removed_at i (own_labels (n + event_count t) rest) + removed_at i (own_loose (n + event_count t) rest)) + removed_at i (edits_from j more)) (omega arith)
goes-all (label_then f inside back tail rest) n i more =
    let k : ℕ = n + suc (last_of f) in
    let e : ℕ = k + count inside in
    let x : ℕ = e + 4 + event_count (tail_row tail) in
    let last : x + count rest ≡ n + (suc (last_of f) + (count inside + (4 + (event_count (tail_row tail) + count rest)))) = omega arith in
    let one = opens-go n i f (opened_of f) ((parts_of inside ++ behind_end f back tail (parts_of rest)) ++ more) in
    let two : removed_at i (edits_from k ((parts_of inside ++ behind_end f back tail (parts_of rest)) ++ more)) ≡ removed_at i (edits_from k (parts_of inside ++ behind_end f back tail (parts_of rest ++ more))) = ap (λ ps. removed_at i (edits_from k ps)) (append_assoc (parts_of inside) (behind_end f back tail (parts_of rest)) more) in
    let three = goes-all inside k i (behind_end f back tail (parts_of rest ++ more)) in
    let four = ends-go e i f back tail (parts_of rest ++ more) in
    let five = goes-all rest x i more in
    let six : removed_at i (edits_from (x + count rest) more) ≡ removed_at i (edits_from (n + (suc (last_of f) + (count inside + (4 + (event_count (tail_row tail) + count rest))))) more) = ap (λ j. removed_at i (edits_from j more)) last in
    let seven = removed-append i (own_labels k inside) (opening_edit n f ∷ replacing e 4 (ended back.start back.stop) ∷ replacing x 0 (closed (kind_of f) (tail_stop back tail)) ∷ own_labels x rest) in
    let eight = removed-append i (own_loose k inside) (own_loose x rest) in
    let nine = go-none x i in
    omega (arith, one, two, three, four, five, six, seven, eight, nine)
goes-all (unused_then f rest) n i more =
    let k : ℕ = n + suc (last_of f) in
    let last : k + count rest ≡ n + (suc (last_of f) + count rest) = omega arith in
    let one = opens-go n i f (as_data (first_start f) (last_stop f)) (parts_of rest ++ more) in
    let two = goes-all rest k i more in
    let three : removed_at i (edits_from (k + count rest) more) ≡ removed_at i (edits_from (n + (suc (last_of f) + count rest)) more) = ap (λ j. removed_at i (edits_from j more)) last in
    omega (arith, one, two, three)
goes-all (failed_then f inside rest) n i more =
    let k : ℕ = n + suc (last_of f) in
    let e : ℕ = k + count inside in
    let last : e + count rest ≡ n + (suc (last_of f) + (count inside + count rest)) = omega arith in
    let one = opens-go n i f (as_data (first_start f) (last_stop f)) ((parts_of inside ++ parts_of rest) ++ more) in
    let two : removed_at i (edits_from k ((parts_of inside ++ parts_of rest) ++ more)) ≡ removed_at i (edits_from k (parts_of inside ++ (parts_of rest ++ more))) = ap (λ ps. removed_at i (edits_from k ps)) (append_assoc (parts_of inside) (parts_of rest) more) in
    let three = goes-all inside k i (parts_of rest ++ more) in
    let four = goes-all rest e i more in
    let five : removed_at i (edits_from (e + count rest) more) ≡ removed_at i (edits_from (n + (suc (last_of f) + (count inside + count rest))) more) = ap (λ j. removed_at i (edits_from j more)) last in
    let six = removed-append i (own_labels k inside) (own_labels e rest) in
    let seven = removed-append i (own_loose k inside) (own_loose e rest) in
    omega (arith, one, two, three, four, five, six, seven)

-- Unused starts and then those of failed ends, or all in the order of their places: at each place they do the same.

loose-late : (b c r s : List Event) → b ≡ [] → c ≡ [] → (r ++ b) ++ (c ++ s) ≡ (b ++ c) ++ (r ++ s)
loose-late b c r s g h = rw (g, h) (simp append-nil refl)

loose-early : (b c r s : List Event) → r ≡ [] → s ≡ [] → (r ++ b) ++ (c ++ s) ≡ (b ++ c) ++ (r ++ s)
loose-early b c r s g h = rw (g, h) (simp (append_assoc, append-nil) refl)

unused-place : (r s o : List Event) → r ≡ [] → (r ++ (o ++ [])) ++ s ≡ o ++ (r ++ s)
unused-place r s o g = rw g (simp append-nil refl)

unused-off : (r s o : List Event) → o ≡ [] → (r ++ (o ++ [])) ++ s ≡ o ++ (r ++ s)
unused-off r s o g = rw g (simp append-nil refl)

failed-place : (b c r s o : List Event) → b ≡ [] → c ≡ [] → r ≡ [] →
    (r ++ b) ++ (c ++ (o ++ s)) ≡ o ++ ((b ++ c) ++ (r ++ s))
failed-place b c r s o g h k = rw (g, h, k) refl

failed-off : (b c r s o : List Event) → o ≡ [] → (r ++ b) ++ (c ++ s) ≡ (b ++ c) ++ (r ++ s) →
    (r ++ b) ++ (c ++ (o ++ s)) ≡ o ++ ((b ++ c) ++ (r ++ s))
failed-off b c r s o g h = rw g h

abbrev LooseComes : Brackets → Type 0
LooseComes b = (n i : ℕ) → back_at i (own_unused n b) ++ back_at i (own_failed n b) ≡ back_at i (own_loose n b)

two-loose : (k x i : ℕ) (inside rest : Brackets) → k + count inside ≤ x →
    (back_at i (own_unused x rest) ++ back_at i (own_unused k inside)) ++ (back_at i (own_failed k inside) ++ back_at i (own_failed x rest)) ≡ (back_at i (own_unused k inside) ++ back_at i (own_failed k inside)) ++ (back_at i (own_unused x rest) ++ back_at i (own_failed x rest))
two-loose k x i inside rest l = elim (leb_tells (k + count inside) i) [
  | inl t ↦
      loose-late (back_at i (own_unused k inside)) (back_at i (own_failed k inside)) (back_at i (own_unused x rest)) (back_at i (own_failed x rest))
      (back-high k (k + count inside) i (own_unused k inside) (within-unused k inside) t.1)
      (back-high k (k + count inside) i (own_failed k inside) (within-failed k inside) t.1)
  | inr u ↦
      loose-early (back_at i (own_unused k inside)) (back_at i (own_failed k inside)) (back_at i (own_unused x rest)) (back_at i (own_failed x rest))
      (back-low x (x + count rest) i (own_unused x rest) (within-unused x rest) (omega (arith, u.1, l)))
      (back-low x (x + count rest) i (own_failed x rest) (within-failed x rest) (omega (arith, u.1, l)))
]

pub loose-comes : (b : Brackets) → LooseComes b
loose-comes nothing n i = refl
loose-comes (tree_then t rest) n i = loose-comes rest (n + event_count t) i
loose-comes (label_then f inside back tail rest) n i =
    let k : ℕ = n + suc (last_of f) in
    let x : ℕ = k + count inside + 4 + event_count (tail_row tail) in
    ap (λ xs. xs ++ back_at i (own_failed k inside ++ own_failed x rest)) (back-append i (own_unused x rest) (own_unused k inside))
    ∙ ap (λ xs. (back_at i (own_unused x rest) ++ back_at i (own_unused k inside)) ++ xs) (back-append i (own_failed k inside) (own_failed x rest))
    ∙ two-loose k x i inside rest (omega arith)
    ∙ ap (λ xs. xs ++ (back_at i (own_unused x rest) ++ back_at i (own_failed x rest))) (loose-comes inside k i)
    ∙ ap (λ xs. back_at i (own_loose k inside) ++ xs) (loose-comes rest x i)
    ∙ sym (back-append i (own_loose k inside) (own_loose x rest))
loose-comes (unused_then f rest) n i =
    let k : ℕ = n + suc (last_of f) in
    let o : List Event = come n i (as_data (first_start f) (last_stop f)) in
    let r : List Event = back_at i (own_unused k rest) in
    let s : List Event = back_at i (own_failed k rest) in
    let moved : (r ++ (o ++ [])) ++ s ≡ o ++ (r ++ s) = elim (leb_tells i n) [
      | inl t ↦ unused-place r s o (back-low k (k + count rest) i (own_unused k rest) (within-unused k rest) (omega (arith, t.1)))
      | inr u ↦ unused-off r s o (come-off n i (as_data (first_start f) (last_stop f)) (λ q. omega (arith, q, u.1)))
    ] in
    ap (λ xs. xs ++ s) (back-append i (own_unused k rest) (data_edit n f ∷ [])) ∙ moved ∙ ap (λ xs. o ++ xs) (loose-comes rest k i)
loose-comes (failed_then f inside rest) n i =
    let k : ℕ = n + suc (last_of f) in
    let e : ℕ = k + count inside in
    let o : List Event = come n i (as_data (first_start f) (last_stop f)) in
    let b : List Event = back_at i (own_unused k inside) in
    let c : List Event = back_at i (own_failed k inside) in
    let r : List Event = back_at i (own_unused e rest) in
    let s : List Event = back_at i (own_failed e rest) in
    let moved : (r ++ b) ++ (c ++ (o ++ s)) ≡ o ++ ((b ++ c) ++ (r ++ s)) = elim (leb_tells i n) [
      | inl t ↦
          failed-place b c r s o
          (back-low k e i (own_unused k inside) (within-unused k inside) (omega (arith, t.1)))
          (back-low k e i (own_failed k inside) (within-failed k inside) (omega (arith, t.1)))
          (back-low e (e + count rest) i (own_unused e rest) (within-unused e rest) (omega (arith, t.1)))
      | inr u ↦ failed-off b c r s o (come-off n i (as_data (first_start f) (last_stop f)) (λ q. omega (arith, q, u.1))) (two-loose k e i inside rest (omega arith))
    ] in
    ap (λ xs. xs ++ back_at i (own_failed k inside ++ data_edit n f ∷ own_failed e rest)) (back-append i (own_unused e rest) (own_unused k inside))
    ∙ ap (λ xs. (r ++ b) ++ xs) (back-append i (own_failed k inside) (data_edit n f ∷ own_failed e rest))
    ∙ moved
    ∙ ap (λ xs. o ++ (xs ++ (r ++ s))) (loose-comes inside k i)
    ∙ ap (λ xs. o ++ (back_at i (own_loose k inside) ++ xs)) (loose-comes rest e i)
    ∙ ap (λ xs. o ++ xs) (sym (back-append i (own_loose k inside) (own_loose e rest)))

pub loose-goes : (b : Brackets) (n i : ℕ) →
    removed_at i (own_unused n b) + removed_at i (own_failed n b) ≡ removed_at i (own_loose n b)
loose-goes nothing n i = refl
loose-goes (tree_then t rest) n i = loose-goes rest (n + event_count t) i
loose-goes (label_then f inside back tail rest) n i =
    let k : ℕ = n + suc (last_of f) in
    let x : ℕ = k + count inside + 4 + event_count (tail_row tail) in
    omega (arith, loose-goes inside k i, loose-goes rest x i, removed-append i (own_unused x rest) (own_unused k inside), removed-append i (own_failed k inside) (own_failed x rest), removed-append i (own_loose k inside) (own_loose x rest))
loose-goes (unused_then f rest) n i =
    let k : ℕ = n + suc (last_of f) in
    omega (arith, loose-goes rest k i, removed-append i (own_unused k rest) (data_edit n f ∷ []))
loose-goes (failed_then f inside rest) n i =
    let k : ℕ = n + suc (last_of f) in
    let e : ℕ = k + count inside in
    omega (arith, loose-goes inside k i, loose-goes rest e i, removed-append i (own_unused e rest) (own_unused k inside), removed-append i (own_failed k inside) (data_edit n f ∷ own_failed e rest), removed-append i (own_loose k inside) (own_loose e rest))

-- The whole.

abbrev pub own : Brackets → List Edit
own b = own_labels 0 b ++ (own_unused 0 b ++ own_failed 0 b)

own-within : (b : Brackets) → EditsWithin 0 (count b + 1) (own b)
own-within b =
    within-append 0 (count b + 1) (own_labels 0 b) (own_unused 0 b ++ own_failed 0 b)
    (within-wider 0 (0 + count b + 1) 0 (count b + 1) (own_labels 0 b) (omega arith) (omega arith) (within-labels 0 b))
    (within-append 0 (count b + 1) (own_unused 0 b) (own_failed 0 b)
    (within-wider 0 (0 + count b) 0 (count b + 1) (own_unused 0 b) (omega arith) (omega arith) (within-unused 0 b))
    (within-wider 0 (0 + count b) 0 (count b + 1) (own_failed 0 b) (omega arith) (omega arith) (within-failed 0 b)))

own-comes : (b : Brackets) (i : ℕ) → back_at i (own b) ≡ back_at i (edits_from 0 (parts_of b))
own-comes b i =
    back-append i (own_labels 0 b) (own_unused 0 b ++ own_failed 0 b)
    ∙ ap (λ xs. back_at i (own_labels 0 b) ++ xs) (back-append i (own_unused 0 b) (own_failed 0 b) ∙ loose-comes b 0 i)
    ∙ sym (append-nil (back_at i (own_labels 0 b) ++ back_at i (own_loose 0 b)))
    ∙ sym (comes-all b 0 i [])
    ∙ ap (λ ps. back_at i (edits_from 0 ps)) (append-nil (parts_of b))

own-goes : (b : Brackets) (i : ℕ) → removed_at i (own b) ≡ removed_at i (edits_from 0 (parts_of b))
own-goes b i =
    let one = removed-append i (own_labels 0 b) (own_unused 0 b ++ own_failed 0 b) in
    let two = removed-append i (own_unused 0 b) (own_failed 0 b) in
    let three = loose-goes b 0 i in
    let four = goes-all b 0 i [] in
    let five : removed_at i (edits_from 0 (parts_of b ++ [])) ≡ removed_at i (edits_from 0 (parts_of b)) = ap (λ ps. removed_at i (edits_from 0 ps)) (append-nil (parts_of b)) in
    omega (arith, one, two, three, four, five)

pub own-does : (b : Brackets) → Does (own b) (parts_of b)
own-does b =
    record { added = λ i. ap (λ xs. xs ++ back_at i (own b)) (front-within 0 (count b + 1) i (own b) (own-within b)) ∙ own-comes b i; removed = own-goes b }

within-places : (hi : ℕ) (log : List Edit) → EditsWithin 0 (hi + 1) log → All (λ e. e.at ≤ hi) log
within-places hi [] h = All-nil (λ e. e.at ≤ hi)
within-places hi (e ∷ log) h = All-cons (λ e. e.at ≤ hi) e log (omega (arith, h.0.1.0)) (within-places hi log h.1)

pub own-places : (b : Brackets) → All (λ e. e.at ≤ count b) (own b)
own-places b = within-places (count b) (own b) (own-within b)
