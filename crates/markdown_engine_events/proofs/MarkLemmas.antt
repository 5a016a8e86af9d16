-- Events of marks, packed one after another.
use Rattle.std.proofs.Common.{◌≡◌, ◌<◌, ◌≤◌, ◌+◌, ◌++◌, ◌∷◌, ℕ, zero, suc, List, [], Option, None, length, take, get_or, map, ap, refl, sym, ◌∙◌, arith}
use Rattle.std.proofs.Math.ListN.{set}
use Rattle.std.specs.List.{All}
use Rattle.std.proofs.lemmas.List.{map-append, take_all, take_more, take_more_set}
use Rattle.std.proofs.lemmas.List.Elements.{All-nil, All-cons}
use Rattle.markdown_event.specs.declared.event.Content.{Content}
use Rattle.markdown_event.specs.declared.event.Event.{Event}
use Rattle.markdown_event.specs.declared.event.Kind.{Kind}
use Rattle.markdown_event.specs.declared.event.Point.{Point}
use Rattle.markdown_engine_events.specs.declared.util.edit_map.Mark.{Mark}
use Rattle.markdown_engine_events.specs.declared.packed.Packed.{Packed}
use Rattle.markdown_engine_events.specs.MarkedEvents.{bare_at, marked, marked_at, nowhere}
use Rattle.markdown_engine_events.specs.EventChains.{IsUnlinked}
use Rattle.markdown_engine_events.specs.declared.packed.Shape.{Shape}
use Rattle.markdown_engine_events.specs.Packed.{all_unpacked, content_of, kind_of, link_kept, next_kept, previous_kept, unpacked, unpacked_from}
use Rattle.markdown_engine_events.proofs.EventViewLemmas.{all-unlinked-alone}
use Rattle.markdown_engine_events.proofs.PackedLemmas.{plain-anywhere, view-extended}

-- one more is written
pub written-more : {A : Type 0} (f : A → Event) (ps : List Packed) (xs : List A) (i : ℕ) (p : Packed) (d : A) → i < length ps → i < length xs →
    all_unpacked (take i ps) ≡ map f (take i xs) → unpacked 0 p ≡ f (get_or xs i d) →
    all_unpacked (take (i + 1) (set ps i p)) ≡ map f (take (i + 1) xs)
written-more f ps xs i p d l m h q =
    ap all_unpacked (take_more_set ps i p l)
    ∙ map-append (unpacked 0) (take i ps) (p ∷ [])
    ∙ ap (λ es. es ++ unpacked 0 p ∷ []) h
    ∙ ap (λ e. map f (take i xs) ++ e ∷ []) q
    ∙ sym (map-append f (take i xs) (get_or xs i d ∷ []))
    ∙ ap (map f) (sym (take_more xs i d m))

-- all are written
pub written-all : {A : Type 0} (f : A → Event) (ps : List Packed) (xs : List A) (i : ℕ) → length ps ≤ i → length xs ≤ i →
    all_unpacked (take i ps) ≡ map f (take i xs) → all_unpacked ps ≡ map f xs
written-all f ps xs i l m h = ap all_unpacked (sym (take_all i ps l)) ∙ h ∙ ap (map f) (take_all i xs m)

-- the place of this number
place-packed : (ps : List Packed) (points : List Point) (i : ℕ) (p : Packed) (d : Point) → i < length ps → all_unpacked ps ≡ map bare_at points →
    unpacked 0 (get_or ps i p) ≡ bare_at (get_or points i d)
place-packed [] points i p d l h = elim l [ ]
place-packed (x ∷ ps) [] i p d l h = grind (arith, h)
place-packed (x ∷ ps) (point ∷ points) zero p d l h = grind (arith, h)
place-packed (x ∷ ps) (point ∷ points) (suc i) p d l h = place-packed ps points i p d (omega (arith, l)) (grind (arith, h))

-- an event at a place, of another name and without a link
mark-packed : (q : Packed) (point : Point) (s : Shape) (m : Mark) → unpacked 0 q ≡ bare_at point → kind_of s ≡ m.kind → content_of s ≡ None →
    unpacked 0 (record q { name = m.name; shape = s }) ≡ record { point = point; kind = m.kind; name = m.name; link = None }
mark-packed q point s m there kind plain = grind (arith)

-- the next event is that of its mark
pub marks-more : (ps : List Packed) (points : List Point) (marks : List Mark) (events : List Packed) (n i : ℕ) (m : Mark) (p : Packed) (s : Shape) →
    All (λ mark. mark.place < n) marks → length ps ≡ n → i < length events → i < length marks → all_unpacked ps ≡ map bare_at points →
    all_unpacked (take i events) ≡ map (marked_at points) (take i marks) →
    let mark = get_or marks i m in
    kind_of s ≡ mark.kind → content_of s ≡ None →
    all_unpacked (take (i + 1) (set events i (record (get_or ps mark.place p) { name = mark.name; shape = s })))
    ≡ map (marked_at points) (take (i + 1) marks)
marks-more ps points marks events n i m p s within k l h there before kind plain = grind (arith, written-more, mark-packed, place-packed)

-- the events of marks carry no link
pub marked-plain : (points : List Point) (marks : List Mark) → All IsUnlinked (marked points marks)
marked-plain points [] = All-nil IsUnlinked
marked-plain points (m ∷ marks) = All-cons IsUnlinked (marked_at points m) (marked points marks) refl (marked-plain points marks)

-- a list with the events of marks behind it
pub view-marked : (ps qs rs : List Packed) (es : List Event) (points : List Point) (marks : List Mark) → unpacked_from 0 ps ≡ es →
    all_unpacked qs ≡ marked points marks → rs ≡ ps ++ qs → unpacked_from 0 rs ≡ es ++ marked points marks
view-marked ps qs rs es points marks v w h =
    let alone = all-unlinked-alone (marked points marks) (marked-plain points marks) in
    view-extended ps qs rs es (marked points marks) 0 v (plain-anywhere qs (marked points marks) 0 w alone) alone h
