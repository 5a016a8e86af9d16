-- Brackets appended one after another.
use Rattle.std.proofs.Common.{◌≡◌, ℕ, ◌+◌, ◌<◌, ◌≤◌, List, ◌∷◌, ◌++◌, length, take, drop, get_or, reverse, refl, sym, ap, ◌∙◌, arith, append_assoc, append-nil, []}
use Rattle.std.proofs.lemmas.List.{take_more, take-append-drop, drop_all, drop_more, reverse-append}
use Rattle.markdown_event.specs.declared.event.Event.{Event}
use Rattle.markdown_event.specs.declared.event.Point.{Point}
use Rattle.markdown_attention.specs.RunEvents.{shifted, total, closing_at, opening_at, closings_from, openings_from, data_at, marker_events}

pub shift-shift : (p : Point) (a b : ℕ) → shifted (shifted p a) b ≡ shifted p (a + b)
shift-shift p a b = grind arith

pub shift-none : (p : Point) → p ≡ shifted p 0
shift-none p = grind arith

pub total-append : (ns ms : List ℕ) → total (ns ++ ms) ≡ total ns + total ms
total-append [] ms = omega arith
total-append (n ∷ ns) ms = let r = total-append ns ms in omega (arith, r)

total-push : (ns : List ℕ) (n : ℕ) → total (ns ++ n ∷ []) ≡ total ns + n
total-push ns n = let a = total-append ns (n ∷ []) in omega (arith, a)

closings-push : (m : ℕ) (p : Point) (ns : List ℕ) (n : ℕ) →
    closings_from m p (ns ++ n ∷ []) ≡ closings_from m p ns ++ closing_at m (shifted p (total ns)) n
closings-push m p [] n = append-nil (closing_at m p n) ∙ ap (λ q. closing_at m q n) (shift-none p)
closings-push m p (k ∷ ns) n =
    ap (λ es. closing_at m p k ++ es) (closings-push m (shifted p k) ns n ∙ ap (λ q. closings_from m (shifted p k) ns ++ closing_at m q n) (shift-shift p k (total ns)))

pub record Pushed (m : ℕ) (from : Point) (sizes : List ℕ) (k : ℕ) (old : List Event) (point : Point) (now : List Event) : Type 0 where
  pub place : point ≡ shifted from (total (take k sizes))
  pub events : now ≡ old ++ closings_from m from (take k sizes)

pub pushed-none : (m : ℕ) (from : Point) (sizes : List ℕ) (old : List Event) → Pushed m from sizes 0 old from old
pushed-none m from sizes old = record { place = shift-none from; events = sym (append-nil old) }

pub pushed-more : (m : ℕ) (from point next : Point) (sizes : List ℕ) (k x : ℕ) (old now new : List Event) →
    k < length sizes → x ≡ get_or sizes k 0 → Pushed m from sizes k old point now → next ≡ shifted point x →
    new ≡ now ++ closing_at m point x → Pushed m from sizes (k + 1) old next new
pushed-more m from point next sizes k x old now new l h p e f =
    let more : take (k + 1) sizes ≡ take k sizes ++ x ∷ [] = take_more sizes k 0 l ∙ ap (λ y. take k sizes ++ y ∷ []) (sym h) in
    let sum : total (take k sizes) + x ≡ total (take (k + 1) sizes) = sym (ap total more ∙ total-push (take k sizes) x) in
    record {
      place = e ∙ ap (λ q. shifted q x) p.place ∙ shift-shift from (total (take k sizes)) x ∙ ap (shifted from) sum;
      events = grind (arith, append_assoc, closings-push);
    }

-- there is room for the next
pub room-more : (from point : Point) (sizes : List ℕ) (k x : ℕ) → k < length sizes → x ≡ get_or sizes k 0 →
    point ≡ shifted from (total (take k sizes)) →
    (point.column + x ≤ from.column + total sizes) × (point.index + x ≤ from.index + total sizes)
room-more from point sizes k x l h e =
    let more : take (k + 1) sizes ≡ take k sizes ++ x ∷ [] = take_more sizes k 0 l ∙ ap (λ y. take k sizes ++ y ∷ []) (sym h) in
    let a = ap total more ∙ total-push (take k sizes) x in
    let b = ap total (sym (take-append-drop (k + 1) sizes)) ∙ total-append (take (k + 1) sizes) (drop (k + 1) sizes) in
    let c = ap (λ (q : Point). q.column) e in
    let d = ap (λ (q : Point). q.index) e in
    (omega (arith, a, b, c), omega (arith, a, b, d))

-- Opening brackets, from the last size on.

openings-push : (m : ℕ) (p : Point) (ns : List ℕ) (n : ℕ) →
    openings_from m p (ns ++ n ∷ []) ≡ openings_from m p ns ++ opening_at m (shifted p (total ns)) n
openings-push m p [] n = append-nil (opening_at m p n) ∙ ap (λ q. opening_at m q n) (shift-none p)
openings-push m p (k ∷ ns) n =
    ap (λ es. opening_at m p k ++ es) (openings-push m (shifted p k) ns n ∙ ap (λ q. openings_from m (shifted p k) ns ++ opening_at m q n) (shift-shift p k (total ns)))

pub record OpenedBrackets (m : ℕ) (from : Point) (sizes : List ℕ) (k : ℕ) (old : List Event) (point : Point) (now : List Event) : Type 0 where
  pub place : point ≡ shifted from (total (reverse (drop k sizes)))
  pub events : now ≡ old ++ openings_from m from (reverse (drop k sizes))

pub opened-none : (m : ℕ) (from : Point) (sizes : List ℕ) (k : ℕ) (old : List Event) → length sizes ≤ k →
    OpenedBrackets m from sizes k old from old
opened-none m from sizes k old l = grind (arith, drop_all, shift-none, append-nil)

pub opened-all : (m : ℕ) (from point : Point) (sizes : List ℕ) (k : ℕ) (old now : List Event) → k ≡ 0 →
    OpenedBrackets m from sizes k old point now → now ≡ old ++ openings_from m from (reverse sizes)
opened-all m from point sizes k old now e h =
    h.events ∙ ap (λ j. old ++ openings_from m from (reverse (drop j sizes))) e

reverse-more : (sizes : List ℕ) (j x : ℕ) → j < length sizes → x ≡ get_or sizes j 0 →
    reverse (drop j sizes) ≡ reverse (drop (j + 1) sizes) ++ x ∷ []
reverse-more sizes j x l h =
    ap reverse (drop_more sizes j 0 l ∙ ap (λ y. y ∷ drop (j + 1) sizes) (sym h)) ∙ reverse-append (x ∷ []) (drop (j + 1) sizes)

pub opened-more : (m : ℕ) (from point next : Point) (sizes : List ℕ) (k j x : ℕ) (old now new : List Event) →
    k ≡ j + 1 → j < length sizes → x ≡ get_or sizes j 0 → OpenedBrackets m from sizes k old point now → next ≡ shifted point x →
    new ≡ now ++ opening_at m point x → OpenedBrackets m from sizes j old next new
opened-more m from point next sizes k j x old now new s l h p e f =
    let more : reverse (drop j sizes) ≡ reverse (drop k sizes) ++ x ∷ [] = reverse-more sizes j x l h ∙ ap (λ i. reverse (drop i sizes) ++ x ∷ []) (sym s) in
    let sum : total (reverse (drop k sizes)) + x ≡ total (reverse (drop j sizes)) = sym (ap total more ∙ total-push (reverse (drop k sizes)) x) in
    record {
      place = e ∙ ap (λ q. shifted q x) p.place ∙ shift-shift from (total (reverse (drop k sizes))) x ∙ ap (shifted from) sum;
      events = grind (arith, append_assoc, openings-push);
    }

pub total-reverse : (ns : List ℕ) → total (reverse ns) ≡ total ns
total-reverse [] = refl
total-reverse (n ∷ ns) =
    let a = ap total (reverse-append (n ∷ []) ns) ∙ total-push (reverse ns) n in let r = total-reverse ns in omega (arith, a, r)

pub room-open : (from point : Point) (sizes : List ℕ) (k j x : ℕ) → k ≡ j + 1 → j < length sizes →
    x ≡ get_or sizes j 0 → point ≡ shifted from (total (reverse (drop k sizes))) →
    (point.column + x ≤ from.column + total sizes) × (point.index + x ≤ from.index + total sizes)
room-open from point sizes k j x s l h e =
    let more : reverse (drop j sizes) ≡ reverse (drop k sizes) ++ x ∷ [] = reverse-more sizes j x l h ∙ ap (λ i. reverse (drop i sizes) ++ x ∷ []) (sym s) in
    let a = ap total more ∙ total-push (reverse (drop k sizes)) x in
    let b = ap total (sym (take-append-drop j sizes)) ∙ total-append (take j sizes) (drop j sizes) in
    let z = total-reverse (drop j sizes) in
    let c = ap (λ (q : Point). q.column) e in
    let d = ap (λ (q : Point). q.index) e in
    (omega (arith, a, b, c, z), omega (arith, a, b, d, z))

pub all-events : (m : ℕ) (from middle openings : Point) (fronts backs : List ℕ) (kept : ℕ) (none closed left all : List Event) → none ≡ [] → middle ≡ shifted from (total fronts) → openings ≡ shifted middle kept
    → closed ≡ none ++ closings_from m from fronts → left ≡ closed ++ data_at middle kept → all ≡ left ++ openings_from m openings (reverse backs) → all ≡ marker_events m from fronts kept backs
unfolding marker_events
all-events m from middle openings fronts backs kept none closed left all n d o c l a = grind (arith, shift-shift, append_assoc)
