use Rattle.std.proofs.Common.{ℕ, ◌≡◌, ◌<◌, ◌≤◌, ◌+◌, inl, inr, List, length, get_or, None, sym, subst, arith}
use Rattle.std.proofs.Math.Nat.{eq-or-lt_of_le}
use Rattle.markdown_event.specs.declared.event.Event.{Event}
use Rattle.markdown_engine_events.specs.EventChains.{link_previous, next_link}
use Rattle.markdown_engine_events.proofs.events.alone_among_four.Goals as goal

-- so many events from a place on
abbrev HoldsFrom : (Event → Type 0) → List Event → ℕ → ℕ → Type 0
HoldsFrom P es at n = (i : ℕ) (e : Event) → at ≤ i → i < at + n → P (get_or es i e)

from-more : (P : Event → Type 0) (es : List Event) (at n : ℕ) → at + n < length es → HoldsFrom P es at n →
    ((d : Event) → P (get_or es (at + n) d)) → HoldsFrom P es at (n + 1)
from-more P es at n within all here i e low high =
    let most : i ≤ at + n = omega arith in
    elim (eq-or-lt_of_le most) [
      | inl same ↦ subst (λ (k : ℕ). P (get_or es k e)) (sym same) (here e)
      | inr less ↦ all i e low less
    ]

pub loop-count-preserved : goal.loop-count-preserved
loop-count-preserved c =
    let within : c.args.at + c.loop-count.count < length c.args.items.now = omega arith in
    record {
      previous = from-more (λ (e : Event). link_previous e.link ≡ None) c.args.items.now c.args.at c.loop-count.count within c.loop-count.invariant.previous (c.is_alone.ensures.previous c.if-not-is_alone.false);
      next = from-more (λ (e : Event). next_link None e.link ≡ e.link) c.args.items.now c.args.at c.loop-count.count within c.loop-count.invariant.next (c.is_alone.ensures.next c.if-not-is_alone.false);
    }

pub returns-then-not-is_alone-clause-previous : goal.returns-then-not-is_alone-clause-previous
returns-then-not-is_alone-clause-previous c = c.loop-count.invariant.previous

pub returns-then-not-is_alone-clause-next : goal.returns-then-not-is_alone-clause-next
returns-then-not-is_alone-clause-next c = c.loop-count.invariant.next

pub returns-clause-previous : goal.returns-clause-previous
returns-clause-previous c i e low high = c.loop-count.invariant.previous i e low (omega (arith, high))

pub returns-clause-next : goal.returns-clause-next
returns-clause-next c i e low high = c.loop-count.invariant.next i e low (omega (arith, high))
