use Rattle.std.proofs.Common.{◌≡◌, ℕ, ◌<◌, ◌≤◌, List, Some, length, get_or, slice_get, sym, ap, ◌∙◌, arith}
use Rattle.markdown_event.specs.declared.event.Event.{Event}
use Rattle.markdown_event.specs.declared.event.Name.{Name}
use Rattle.markdown_event.specs.declared.event.Name.TheVariants.{Label, Resource}
use Rattle.markdown_content.specs.Nesting.{IsNamedBack}
use Rattle.markdown_test_parts.proofs.events.find_names.Goals as goal

-- a name at a place of the list of names, and the event that has it
found : (names : List Name) (es : List Event) (i k n : ℕ) (e : Event) (m : Name) → k ≤ i → slice_get es k ≡ Some e →
    e.name ≡ m → n < length names → ((d : Name) → get_or names n d ≡ m) → IsNamedBack names es i
found names es i k n e m l at is w h = (k, (l, (e, (at, (n, w, h e.name ∙ sym is)))))

pub to_back-nearest-requires-clause-some : goal.to_back-nearest-requires-clause-some
to_back-nearest-requires-clause-some c =
    let size = ap length c.as_slice-2.ensures in
    found c.as_slice-2.result.now c.as_slice.result.now 3 2 1 c.plain-3.result Resource (omega arith) (ap (λ (xs : List Event). slice_get xs 2) c.as_slice.ensures) (ap (λ (e : Event). e.name) c.plain-3.ensures) (omega arith) (λ d. ap (λ (xs : List Name). get_or xs 1 d) c.as_slice-2.ensures)

pub to_back-other-requires-clause-some : goal.to_back-other-requires-clause-some
to_back-other-requires-clause-some c =
    let size = ap length c.as_slice-4.ensures in
    found c.as_slice-4.result.now c.as_slice-3.result.now 1 0 0 c.plain.result Label (omega arith) (ap (λ (xs : List Event). slice_get xs 0) c.as_slice-3.ensures) (ap (λ (e : Event). e.name) c.plain.ensures) (omega arith) (λ d. ap (λ (xs : List Name). get_or xs 0 d) c.as_slice-4.ensures)
