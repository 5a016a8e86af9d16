use Rattle.std.proofs.Common.{◌≡◌, ◌≤◌, ◌<◌, ◌+◌, ◌-◌, ℕ, List, None, length, take, drop, ap, sym, refl, subst, ◌∙◌, arith}
use Rattle.std.specs.List.{All}
use Rattle.markdown_event.specs.declared.event.Event.{Event}
use Rattle.markdown_engine_events.specs.EventChains.{bares, link_previous, EndsChain, IsAlone, IsChainedList, IsFresh}
use Rattle.markdown_engine_events.proofs.EventViewLemmas.{filled-of, part-alone, part-seen, part-fresh, part-ends, view-length, AreBare}
use Rattle.markdown_engine_events.proofs.events.Events.alone.Goals as goal

module _ (xs vs ss rs : List Event) (n m k : ℕ) (v : bares xs ≡ vs) (s : ss ≡ take m (drop n xs)) (r : rs ≡ take k ss) (l : k ≤ length ss) (u : AreBare (take k ss)) where
  part : rs ≡ take k (take m (drop n xs))
  part = r ∙ ap (take k) s

  within : k ≤ length (take m (drop n xs))
  within = subst (λ (ys : List Event). k ≤ length ys) s l

  plain : AreBare (take k (take m (drop n xs)))
  plain = let P : List Event → Type 0 = λ ys. AreBare (take k ys) in subst P s u

  here : rs ≡ take (length rs) (drop n vs)
  here = subst (λ (ys : List Event). ys ≡ take (length ys) (drop n vs)) (sym part) (part-seen xs vs xs n m k v refl within plain)

  fresh : IsChainedList xs → All (λ e. link_previous e.link ≡ None) (take k ss) → All IsFresh rs
  fresh f none =
      let P : List Event → Type 0 = λ ys. All (λ e. link_previous e.link ≡ None) (take k ys) in
      subst (λ (ys : List Event). All IsFresh ys) (sym part) (part-fresh xs vs xs n m k v refl within plain f (subst P s none))

  ends : IsChainedList xs → (j : ℕ) → n ≤ j → j < n + length rs → EndsChain j vs
  ends f j low high =
      part-ends xs vs xs n m k v refl within plain f j low (subst (λ (ys : List Event). j < n + length ys) part high)

pub slice-items-requires-clause-within : goal.slice-items-requires-clause-within
slice-items-requires-clause-within c = let size = view-length _ _ c.self.view_is in omega arith

pub alone_front-requires : goal.alone_front-requires
alone_front-requires c off =
    subst (λ (ys : List Event). All IsAlone ys) (sym c.slice-items.ensures) (part-alone c.self.inside.chains c.self.inside.items c.self.inside.items c.args.from (c.args.to - c.args.from) refl c.self.invariant off)

pub returns-clause-here : goal.returns-clause-here
returns-clause-here c =
    here c.self.inside.items _ c.slice-items.result _ c.args.from (c.args.to - c.args.from) c.alone_front.result c.self.view_is c.slice-items.ensures c.front.ensures c.alone_front.ensures.within c.alone_front.ensures.next

pub returns-clause-fresh : goal.returns-clause-fresh
returns-clause-fresh c =
    fresh c.self.inside.items _ c.slice-items.result _ c.args.from (c.args.to - c.args.from) c.alone_front.result c.self.view_is c.slice-items.ensures c.front.ensures c.alone_front.ensures.within c.alone_front.ensures.next (filled-of _ _ c.self.invariant) c.alone_front.ensures.previous

pub returns-clause-ends : goal.returns-clause-ends
returns-clause-ends c =
    ends c.self.inside.items _ c.slice-items.result _ c.args.from (c.args.to - c.args.from) c.alone_front.result c.self.view_is c.slice-items.ensures c.front.ensures c.alone_front.ensures.within c.alone_front.ensures.next (filled-of _ _ c.self.invariant)
