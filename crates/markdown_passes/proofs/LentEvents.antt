-- Events of a list that is lent, each with the event after on its chain: what is looked at is what the list without these has.
use Rattle.std.proofs.Common.{◌≡◌, ℕ, zero, suc, ◌<◌, ◌&&◌, not, List, [], ◌∷◌, Option, Some, None, length, get_or, refl, ap, ◌∙◌, arith}
use Rattle.markdown_engine_events.specs.EventChains.{chained, chained_from, follower, has_link, next_link, with_next}
use Rattle.markdown_engine_events.proofs.EventChainLemmas.{length-chained}
use Rattle.markdown_event.specs.declared.event.Event.{Event}
use Rattle.markdown_event.specs.declared.event.Link.{Link}
use Rattle.markdown_passes.specs.MergedEvents.{is_data, is_enter, opens_data, closes_data}

pub lent-length : (es items : List Event) → items ≡ chained es → length items ≡ length es
lent-length es items h = ap length h ∙ length-chained 0 es

-- an event of a list, and what of it is seen where it is lent
pub record Seen (es : List Event) (i : ℕ) (x : Event) : Type 0 where
  pub event : Event
  pub at : event ≡ get_or es i event
  pub opens : opens_data x ≡ opens_data event
  pub closes : closes_data x ≡ closes_data event

has-next : (k : Option ℕ) (l : Option Link) → has_link (next_link k l) ≡ has_link l
has-next k None = refl
has-next k (Some l) = refl

seen-first : (k : Option ℕ) (e x : Event) (es : List Event) → x ≡ with_next k e → Seen (e ∷ es) 0 x
seen-first k e x es h = record {
  event = e;
  at = refl;
  opens = ap opens_data h ∙ ap (λ b. is_enter e.kind && (is_data e.name && not b)) (has-next k e.link);
  closes = ap closes_data h ∙ ap (λ b. not (is_enter e.kind) && (is_data e.name && not b)) (has-next k e.link);
}

seen-more : (i : ℕ) (e x : Event) (es : List Event) → Seen es i x → Seen (e ∷ es) (suc i) x
seen-more i e x es s = record {
  event = s.event;
  at = s.at;
  opens = s.opens;
  closes = s.closes;
}

seen-from : (n i : ℕ) (es : List Event) (x : Event) → i < length es → x ≡ get_or (chained_from n es) i x → Seen es i x
seen-from n i [] x l h = absurd (omega (arith, l))
seen-from n zero (e ∷ es) x l h = seen-first (follower n (suc n) es) e x es h
seen-from n (suc i) (e ∷ es) x l h = seen-more i e x es (seen-from (suc n) i es x (omega (arith, l)) h)

-- what is seen of a lent event
pub seen : (es items : List Event) (i : ℕ) (x : Event) → items ≡ chained es → i < length es → x ≡ get_or items i x → Seen es i x
seen es items i x h l at = seen-from 0 i es x l (at ∙ ap (λ ys. get_or ys i x) h)
