-- Events of runs, one list behind another.
use Rattle.std.proofs.Common.{◌≡◌, ℕ, ◌+◌, ◌-◌, ◌^◌, ◌<◌, ◌≤◌, true, List, [], ◌∷◌, ◌++◌, length, get_or, refl, sym, ap, subst, ◌∙◌, append_assoc, arith}
use Rattle.std.specs.Prelude.{OnOk, Result, Ok, Err}
use Rattle.std.specs.Str.{IsAscii}
use Rattle.std.proofs.lemmas.Str.{IsCharBoundary-from_ascii}
use Rattle.markdown_content.specs.Tree.{event}
use Rattle.markdown_event.specs.declared.event.Event.{Event}
use Rattle.markdown_event.specs.declared.event.Kind.TheVariants as Kind
use Rattle.markdown_event.specs.declared.event.Name.{Name}
use Rattle.markdown_event.specs.declared.event.Point.{Point}
use Rattle.markdown_attention.specs.OpenRuns.{IsMarker}
use Rattle.markdown_attention.specs.RunsRead.{is_run, HaveRunPlaces}
use Rattle.markdown_test_parts.specs.Fixtures.{HaveRuns}
use Rattle.markdown_attention.specs.RunEvents.{shifted}
use Rattle.markdown_attention.specs.RunEdits.{HaveRunEnds, HaveRunRoom}

places-join : (bytes : List ℕ) (es fs : List Event) → HaveRunPlaces bytes es → HaveRunPlaces bytes fs →
    HaveRunPlaces bytes (es ++ fs)
places-join bytes [] fs h k = k
places-join bytes (e ∷ []) fs h k = (λ o. absurd (h.0 o), k)
places-join bytes (e ∷ x ∷ es) fs h k = (h.0, places-join bytes (x ∷ es) fs h.1 k)

ends-join : (es fs : List Event) → HaveRunEnds es → HaveRunEnds fs → HaveRunEnds (es ++ fs)
ends-join [] fs h k = k
ends-join (e ∷ []) fs h k = (λ o. absurd (h.0 o).1, k)
ends-join (e ∷ x ∷ es) fs h k = (h.0, ends-join (x ∷ es) fs h.1 k)

room-join : (es fs : List Event) → HaveRunRoom es → HaveRunRoom fs → HaveRunRoom (es ++ fs)
room-join [] fs h k = k
room-join (e ∷ []) fs h k = (λ o. absurd (h.0 o), k)
room-join (e ∷ x ∷ es) fs h k = (h.0, room-join (x ∷ es) fs h.1 k)

pub runs-join : (bytes : List ℕ) (es fs : List Event) → HaveRuns bytes es → HaveRuns bytes fs →
    HaveRuns bytes (es ++ fs)
runs-join bytes es fs h k =
    record { places = places-join bytes es fs h.places k.places; ends = ends-join es fs h.ends k.ends; room = room-join es fs h.room k.room }

-- the place before a byte of a text of one line
abbrev pub at : ℕ → Point
at i = record { line = 1; column = i + 1; index = i; vs = 0 }

further : (from to : ℕ) → from < to → at to ≡ shifted (at from) (to - from)
further from to l =
    let c : to + 1 ≡ from + 1 + (to - from) = omega (arith, l) in
    let i : to ≡ from + (to - from) = omega (arith, l) in
    λ z. record { line = 1; column = c z; index = i z; vs = 0 }

-- a leaf of a text of one line
pub runs-leaf : (bytes : List ℕ) (name : Name) (from to : ℕ) → IsAscii bytes → from < to → to ≤ length bytes → to + 1 < 2 ^ 64 → (is_run name ≡ true → IsMarker (get_or bytes from 0))
    → HaveRuns bytes (event Kind.Enter name (at from) ∷ event Kind.Exit name (at to) ∷ [])
runs-leaf bytes name from to a l w f m =
    record {
      places = (
        (λ o. record {
          from_between = IsCharBoundary-from_ascii bytes from a (omega (arith, l, w));
          to_between = IsCharBoundary-from_ascii bytes to a w;
          within = omega (arith, l, w);
          marker = m o;
          forward = omega (arith, l);
        }),
        ((λ o. cc), tt),
      );
      ends = ((λ o. (refl, (refl, further from to l, o))), ((λ o. cc), tt));
      room = ((λ o. (f, omega (arith, f))), ((λ o. cc), tt));
    }

-- after the two events of a leaf
pub leaf-pushed : (bytes : List ℕ) (name : Name) (from to : ℕ) (p q : Point) (es middle all : List Event) → IsAscii bytes → from < to → to ≤ length bytes → to + 1 < 2 ^ 64 → (is_run name ≡ true → IsMarker (get_or bytes from 0))
    → p ≡ at from → q ≡ at to → HaveRuns bytes es → middle ≡ es ++ event Kind.Enter name p ∷ [] → all ≡ middle ++ event Kind.Exit name q ∷ [] → HaveRuns bytes all
leaf-pushed bytes name from to p q es middle all a l w f m here there h e x =
    let is : all ≡ es ++ (event Kind.Enter name (at from) ∷ event Kind.Exit name (at to) ∷ []) =
    x
    ∙ ap (λ ys. ys ++ event Kind.Exit name q ∷ []) e
    ∙ append_assoc es (event Kind.Enter name p ∷ []) (event Kind.Exit name q ∷ [])
    ∙ (λ z. es ++ (event Kind.Enter name (here z) ∷ event Kind.Exit name (there z) ∷ [])) in
    subst (HaveRuns bytes) (sym is) (runs-join bytes es (event Kind.Enter name (at from) ∷ event Kind.Exit name (at to) ∷ []) h (runs-leaf bytes name from to a l w f m))

pub if-ok : {T E P Q : Type 0} → (r : Result T E) → (P → Q) → OnOk r P → OnOk r Q
if-ok (Ok v) f h = f h
if-ok (Err e) f h = tt
