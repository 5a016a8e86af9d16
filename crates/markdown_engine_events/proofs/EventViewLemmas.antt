-- What a change of the kept events does to the events that contracts see, and that their links stay filled in.
use Rattle.markdown_event.proofs.PastedParts.{take-take-le, part-same}
use Rattle.std.proofs.Common.{◌≡◌, ℕ, zero, suc, ◌+◌, ◌-◌, ◌<◌, ◌≤◌, Option, Some, None, List, [], ◌∷◌, ◌++◌, length, take, drop, get_or, Bool, true, false, refl, append_assoc, sym, ap, subst, ◌∙◌, arith}
use Rattle.std.proofs.lemmas.Bool.{both_ways}
use Rattle.std.proofs.lemmas.List.{take_at, same_from_push, length_push, append-nil, length-take, get_or-take, get_or-drop, get_or_append_left, get_or_push}
use Rattle.std.proofs.lemmas.List.Elements.{All-append, All-drop, All-push, All-take}
use Rattle.std.specs.List.{All}
use Rattle.markdown_event.specs.declared.event.Link.{Link}
use Rattle.markdown_event.specs.declared.event.Event.{Event}
use Rattle.markdown_engine_events.specs.EventChains.{with_next, with_previous, bare, bares, previous_of, NamesNone, IsUnlinked, chained, changed_at, previous_at, linked_at, EndsChain, IsLinked, IsFresh, IsAlone, IsChainedList, IsNoted, OnlyEnters, MayLink, link_previous, next_link}
use Rattle.markdown_engine_events.proofs.EventChainLemmas.{unlinked-fresh, length-changed_at, changed_at-append, length-bares, bares-append, bares-next, bares-previous, get-bares, chained-fresh, chained-push, chained-end, chained-link, IsLinked-prefix}
use Rattle.markdown_engine_events.proofs.EventChainLemmas.{some-none, IsLinked-push, OnlyEnters-part, bare-fresh, fresh-of, chained-ends, fresh-unnamed, ends-before, last-earlier, IsLinked-connect, previous_of-bare, within-linked, changed_at-twice}

-- the kept events at their view
pub filled-at : (xs vs : List Event) → bares xs ≡ vs → IsChainedList xs → xs ≡ chained vs
filled-at xs vs v f = f.filled ∙ ap chained v

filled-from : (ys vs : List Event) → bares ys ≡ vs → ys ≡ chained vs → IsLinked vs → IsChainedList ys
filled-from ys vs v h w = record { filled = h ∙ ap chained (sym v); linked = subst IsLinked (sym v) w }

pub view-one : (xs vs ys : List Event) (e : Event) → bares xs ≡ vs → bare e ≡ e → ys ≡ xs ++ e ∷ [] →
    bares ys ≡ vs ++ e ∷ []
view-one xs vs ys e v b h = grind (arith, bares-append)

-- an event added that names none

pub view-push : (xs vs ys : List Event) (e : Event) → bares xs ≡ vs → IsFresh e → ys ≡ xs ++ e ∷ [] →
    bares ys ≡ vs ++ e ∷ []
view-push xs vs ys e v f h = view-one xs vs ys e v (bare-fresh e f) h

pub kept-plain : (xs vs ys : List Event) (e : Event) → bares xs ≡ vs → IsChainedList xs → bare e ≡ e → previous_of e ≡ None →
    IsLinked (vs ++ e ∷ []) → ys ≡ xs ++ e ∷ [] → IsChainedList ys
kept-plain xs vs ys e v k b n w h = grind (arith, filled-at, chained-fresh, filled-from, view-one)

pub kept-push : (xs vs ys : List Event) (e : Event) → bares xs ≡ vs → IsChainedList xs → IsFresh e → ys ≡ xs ++ e ∷ [] →
    IsChainedList ys
kept-push xs vs ys e v k f h =
    kept-plain xs vs ys e v k (bare-fresh e f) (fresh-unnamed e f) (IsLinked-push vs e (subst IsLinked v k.linked) f) h

-- an event added that names an earlier one

pub view-named : (xs vs ys zs : List Event) (e : Event) (p : ℕ) (k : Option ℕ) → bares xs ≡ vs → bare e ≡ e →
    ys ≡ xs ++ e ∷ [] → zs ≡ changed_at (with_next k) p ys → bares zs ≡ vs ++ e ∷ []
view-named xs vs ys zs e p k v b h g = ap bares g ∙ bares-next k p ys ∙ view-one xs vs ys e v b h

pub kept-named : (xs vs ys zs : List Event) (e : Event) (p m : ℕ) → bares xs ≡ vs → IsChainedList xs → bare e ≡ e →
    previous_of e ≡ Some p → IsLinked (vs ++ e ∷ []) → m ≡ length xs → ys ≡ xs ++ e ∷ [] →
    zs ≡ changed_at (with_next (Some m)) p ys → IsChainedList zs
kept-named xs vs ys zs e p m v k b n w s h g =
    let less : p < length vs = last-earlier vs e p w n in
    let size : length xs ≡ length vs = sym (length-bares xs) ∙ ap length v in
    let near : p < length xs = omega arith in
    let there : m ≡ 0 + length vs = omega arith in
    let here : p ≡ 0 + p = omega arith in
    let front : changed_at (with_next (Some m)) p xs ≡ changed_at (with_next (Some m)) p (chained vs) = ap (changed_at (with_next (Some m)) p) (filled-at xs vs v k) in
    let made : changed_at (with_next (Some m)) p (xs ++ e ∷ []) ≡ chained (vs ++ e ∷ []) =
    changed_at-append (with_next (Some m)) p xs (e ∷ []) near ∙ ap (λ x. x ++ e ∷ []) front ∙ ap (λ x. changed_at (with_next (Some m)) p (chained vs) ++ x ∷ []) (sym b) ∙ sym (chained-push 0 p p m vs e here there less n (ends-before vs e p w n)) in
    filled-from zs (vs ++ e ∷ []) (view-named xs vs ys zs e p (Some m) v b h g) (g ∙ ap (changed_at (with_next (Some m)) p) h ∙ made) w

-- the last event taken off

front : (ys : List Event) (e : Event) → take (length (ys ++ e ∷ []) - 1) (ys ++ e ∷ []) ≡ ys
front ys e = take_at ys (e ∷ []) (length (ys ++ e ∷ []) - 1) (omega (arith, length_push ys e))

view-front : (xs vs ys : List Event) (e : Event) → bares xs ≡ vs → xs ≡ ys ++ e ∷ [] →
    bares ys ≡ take (length vs - 1) vs
view-front xs vs ys e v h = grind (arith, bares-append, front)

pub view-dropped : (xs vs ys zs : List Event) (e : Event) (p : ℕ) (k : Option ℕ) → bares xs ≡ vs → xs ≡ ys ++ e ∷ [] →
    zs ≡ changed_at (with_next k) p ys → bares zs ≡ take (length vs - 1) vs
view-dropped xs vs ys zs e p k v h g = ap bares g ∙ bares-next k p ys ∙ view-front xs vs ys e v h

pub view-popped : (xs vs ys : List Event) (e : Event) → bares xs ≡ vs → xs ≡ ys ++ e ∷ [] →
    bares ys ≡ take (length vs - 1) vs
view-popped xs vs ys e v h = view-front xs vs ys e v h

split-linked : (xs ys : List Event) (e : Event) → IsChainedList xs → xs ≡ ys ++ e ∷ [] → IsLinked (bares ys ++ bare e ∷ [])
split-linked xs ys e k h = subst IsLinked (ap bares h ∙ bares-append ys (e ∷ [])) k.linked

split-filled : (xs ys : List Event) (e : Event) → IsChainedList xs → xs ≡ ys ++ e ∷ [] →
    ys ++ e ∷ [] ≡ chained (bares ys ++ bare e ∷ [])
split-filled xs ys e k h = sym h ∙ k.filled ∙ ap chained (ap bares h ∙ bares-append ys (e ∷ []))

pub kept-popped : (xs ys : List Event) (e : Event) → IsChainedList xs → xs ≡ ys ++ e ∷ [] → previous_of e ≡ None →
    IsChainedList ys
kept-popped xs ys e k h n =
    let none : previous_of (bare e) ≡ None = previous_of-bare e ∙ n in
    let made : ys ++ e ∷ [] ≡ chained (bares ys) ++ bare (bare e) ∷ [] = split-filled xs ys e k h ∙ chained-fresh 0 (bares ys) (bare e) none in
    record { filled = (same_from_push ys (chained (bares ys)) e (bare (bare e)) made).0; linked = IsLinked-prefix (bares ys) (bare e ∷ []) (split-linked xs ys e k h) }

module _ (xs ys : List Event) (e : Event) (p : ℕ) (k : IsChainedList xs) (h : xs ≡ ys ++ e ∷ []) (n : previous_of e ≡ Some p) where
  named : previous_of (bare e) ≡ Some p
  named = previous_of-bare e ∙ n

  pub dropped-within : p < length ys
  dropped-within = omega (arith, length-bares ys, last-earlier (bares ys) (bare e) p (split-linked xs ys e k h) named)

  kept-front : ys ≡ changed_at (with_next (Some (length (bares ys)))) p (chained (bares ys))
  kept-front =
      let less : p < length (bares ys) = last-earlier (bares ys) (bare e) p (split-linked xs ys e k h) named in
      let there : length (bares ys) ≡ 0 + length (bares ys) = omega arith in
      let here : p ≡ 0 + p = omega arith in
      let made : ys ++ e ∷ [] ≡ changed_at (with_next (Some (length (bares ys)))) p (chained (bares ys)) ++ bare (bare e) ∷ [] =
      split-filled xs ys e k h ∙ chained-push 0 p p (length (bares ys)) (bares ys) (bare e) here there less named (ends-before (bares ys) (bare e) p (split-linked xs ys e k h) named) in
      (same_from_push ys (changed_at (with_next (Some (length (bares ys)))) p (chained (bares ys))) e (bare (bare e)) made).0

  pub kept-dropped : (zs : List Event) → zs ≡ changed_at (with_next None) p ys → IsChainedList zs
  kept-dropped zs g =
      let here : p ≡ 0 + p = omega arith in
      let clear : zs ≡ chained (bares ys) = g ∙ ap (changed_at (with_next None) p) kept-front ∙ changed_at-twice (Some (length (bares ys))) None p (chained (bares ys)) ∙ chained-end 0 p p (bares ys) here (ends-before (bares ys) (bare e) p (split-linked xs ys e k h) named) in
      filled-from zs (bares ys) (ap bares g ∙ bares-next None p ys) clear (IsLinked-prefix (bares ys) (bare e ∷ []) (split-linked xs ys e k h))

-- two events linked

pub view-linked : (xs vs ys zs : List Event) (p i : ℕ) → bares xs ≡ vs → ys ≡ changed_at (with_next (Some i)) p xs →
    zs ≡ changed_at (with_previous (Some p)) i ys → bares zs ≡ changed_at (with_previous (Some p)) i vs
view-linked xs vs ys zs p i v h g = grind (arith, bares-previous, bares-next)

pub kept-linked : (xs vs ys zs : List Event) (p i : ℕ) → bares xs ≡ vs → IsChainedList xs → p < i → linked_at vs p ≡ true →
    linked_at vs i ≡ true → previous_at vs i ≡ None → EndsChain p vs → ys ≡ changed_at (with_next (Some i)) p xs →
    zs ≡ changed_at (with_previous (Some p)) i ys → IsChainedList zs
kept-linked xs vs ys zs p i v k l a b n u h g = grind (arith, filled-at, chained-link, filled-from, view-linked, IsLinked-connect)

-- an index in the list that contracts see is one in the list that is kept
pub view-length : (xs vs : List Event) → bares xs ≡ vs → length xs ≡ length vs
view-length xs vs v = sym (length-bares xs) ∙ ap length v

pub linked-within : (xs vs : List Event) (i : ℕ) → bares xs ≡ vs → linked_at vs i ≡ true → i < length xs
linked-within xs vs i v h = let l = within-linked vs i h in omega (arith, view-length xs vs v)

pub linked-within-changed : (xs vs ys : List Event) (f : Event → Event) (p i : ℕ) → bares xs ≡ vs →
    linked_at vs i ≡ true → ys ≡ changed_at f p xs → i < length ys
linked-within-changed xs vs ys f p i v h g = omega (arith, ap length g ∙ length-changed_at f p xs, linked-within xs vs i v h)

-- an event read, without the event after
pub bare-read : (xs vs : List Event) (i : ℕ) (d r : Event) → bares xs ≡ vs → d ≡ get_or xs i d → r ≡ bare d →
    r ≡ get_or vs i r
bare-read xs vs i d r v h k = grind (arith, get-bares)

-- events that are linked to no other

-- with no event after
abbrev pub AreBare : List Event → Type 0
AreBare xs = All (λ e. next_link None e.link ≡ e.link) xs

pub bares-same : (xs : List Event) → AreBare xs → bares xs ≡ xs
bares-same [] u = refl
bares-same (x ∷ xs) u =
    ap (λ (l : Option Link). record x { link = l } ∷ bares xs) (u 0 x (omega arith)) ∙ ap (λ ys. x ∷ ys) (bares-same xs (λ k d l. u (suc k) d (omega arith)))

bares-part : (n k : ℕ) (xs : List Event) → take k (drop n (bares xs)) ≡ bares (take k (drop n xs))
bares-part zero zero xs = refl
bares-part zero (suc k) [] = refl
bares-part zero (suc k) (x ∷ xs) = ap (λ ys. bare x ∷ ys) (bares-part zero k xs)
bares-part (suc n) zero [] = refl
bares-part (suc n) (suc k) [] = refl
bares-part (suc n) zero (x ∷ xs) = bares-part n zero xs
bares-part (suc n) (suc k) (x ∷ xs) = bares-part n (suc k) xs

pub enters-each : (xs : List Event) → OnlyEnters xs → All (λ e. MayLink e.kind e.link) xs
enters-each [] h = λ k d l. absurd (omega arith)
enters-each (x ∷ xs) h = grind (arith, enters-each xs h.1)

some-event : (xs : List Event) (i : ℕ) → i < length xs → Event
some-event [] i l = absurd (omega arith)
some-event (x ∷ xs) i l = x

module _ (xs vs ws : List Event) (n m k : ℕ) (v : bares xs ≡ vs) (w : ws ≡ xs) (l : k ≤ length (take m (drop n ws))) (u : AreBare (take k (take m (drop n ws)))) where
  size : length (take k (take m (drop n ws))) ≡ k
  size = omega (arith, length-take k (take m (drop n ws)))

  once : take k (take m (drop n ws)) ≡ take k (drop n ws)
  once = take-take-le k m (drop n ws) (omega (arith, length-take m (drop n ws)))

  pub part-seen : take k (take m (drop n ws)) ≡ take (length (take k (take m (drop n ws)))) (drop n vs)
  part-seen = grind (arith, once, bares-same, bares-part, size)

  pub part-fresh : IsChainedList xs → All (λ e. link_previous e.link ≡ None) (take k (take m (drop n ws))) →
      All IsFresh (take k (take m (drop n ws)))
  part-fresh f none j d h = grind (arith, part-seen, OnlyEnters-part, fresh-of, enters-each)

  pub part-ends : IsChainedList xs → (j : ℕ) → n ≤ j → j < n + length (take k (take m (drop n ws))) → EndsChain j vs
  part-ends f j low high =
      let ys : List Event = take k (take m (drop n ws)) in
      let lt : j - n < k = omega (arith, size, low, high) in
      let d : Event = some-event ys (j - n) (omega (arith, size, lt)) in
      let there : n + (j - n) ≡ j = omega (arith, low) in
      let same : get_or ys (j - n) d ≡ get_or (chained vs) j d = grind (arith, once, get_or-take, get_or-drop, filled-at) in
      let P : Event → Type 0 = λ e. next_link None e.link ≡ e.link in
      chained-ends j vs d (subst IsLinked v f.linked) (subst P same (u (j - n) d (omega (arith, size, lt))))

pub view-extended : (xs vs ys zs : List Event) → bares xs ≡ vs → All IsFresh ys → zs ≡ xs ++ ys → bares zs ≡ vs ++ ys
view-extended xs vs ys zs v u h = grind (arith, bares-append, bares-same, bare-fresh)

extended : (xs ys : List Event) → IsChainedList xs → All IsFresh ys → IsChainedList (xs ++ ys)
extended xs [] k u = subst IsChainedList (sym (append-nil xs)) k
extended xs (y ∷ ys) k u =
    let one : IsChainedList (xs ++ y ∷ []) = kept-push xs (bares xs) (xs ++ y ∷ []) y refl k (u 0 y (omega arith)) refl in
    subst IsChainedList (append_assoc xs (y ∷ []) ys) (extended (xs ++ y ∷ []) ys one (λ j d l. u (suc j) d (omega arith)))

pub kept-extended : (xs ys zs : List Event) → IsChainedList xs → All IsFresh ys → zs ≡ xs ++ ys → IsChainedList zs
kept-extended xs ys zs k u h = subst IsChainedList (sym h) (extended xs ys k u)

-- where no chain is noted

pub filled-of : (b : Bool) (xs : List Event) → IsNoted b xs → IsChainedList xs
filled-of b xs n = record { filled = n.filled; linked = n.linked }

pub noted : (b : Bool) (xs : List Event) → IsChainedList xs → (b ≡ false → All IsAlone xs) → IsNoted b xs
noted b xs f a = record { filled = f.filled; linked = f.linked; alone = a }

pub noted-chain : (xs : List Event) → IsChainedList xs → IsNoted true xs
noted-chain xs f = noted true xs f (λ off. absurd (both_ways true off refl))

pub part-alone : (b : Bool) (xs ws : List Event) (n m : ℕ) → ws ≡ xs → IsNoted b xs → b ≡ false → All IsAlone (take m (drop n ws))
part-alone b xs ws n m w h off =
    subst (λ (ys : List Event). All IsAlone (take m (drop n ys))) (sym w) (All-take IsAlone m (drop n xs) (All-drop IsAlone n xs (h.alone off)))

pub fresh-alone : (e : Event) → IsFresh e → IsAlone e
fresh-alone e f = (fresh-unnamed e f, ap (λ (x : Event). x.link) (bare-fresh e f))

alone-one : (b : Bool) (xs ys : List Event) (e : Event) → IsNoted b xs → IsAlone e → ys ≡ xs ++ e ∷ [] → b ≡ false → All IsAlone ys
alone-one b xs ys e n a h off = subst (All IsAlone) (sym h) (All-push IsAlone xs e (n.alone off) a)

pub noted-push : (b : Bool) (xs vs ys : List Event) (e : Event) → bares xs ≡ vs → IsNoted b xs → IsFresh e → ys ≡ xs ++ e ∷ [] →
    IsNoted b ys
noted-push b xs vs ys e v n f h = noted b ys (kept-push xs vs ys e v (filled-of b xs n) f h) (alone-one b xs ys e n (fresh-alone e f) h)

pub noted-plain : (b : Bool) (xs vs ys : List Event) (e : Event) → bares xs ≡ vs → IsNoted b xs → bare e ≡ e → previous_of e ≡ None →
    IsLinked (vs ++ e ∷ []) → ys ≡ xs ++ e ∷ [] → IsNoted b ys
noted-plain b xs vs ys e v n bs p w h =
    noted b ys (kept-plain xs vs ys e v (filled-of b xs n) bs p w h) (alone-one b xs ys e n (p, ap (λ (x : Event). x.link) bs) h)

pub noted-extended : (b : Bool) (xs ys zs : List Event) → IsNoted b xs → All IsFresh ys → zs ≡ xs ++ ys → IsNoted b zs
noted-extended b xs ys zs n u h =
    noted b zs (kept-extended xs ys zs (filled-of b xs n) u h)
    (λ off. subst (All IsAlone) (sym h) (All-append IsAlone xs ys (n.alone off) (λ k d l. fresh-alone (get_or ys k d) (u k d l))))

-- an event taken off

pub noted-popped : (b : Bool) (xs ys : List Event) (e : Event) → IsNoted b xs → xs ≡ ys ++ e ∷ [] → previous_of e ≡ None → IsNoted b ys
noted-popped b xs ys e n h p =
    noted b ys (kept-popped xs ys e (filled-of b xs n) h p)
    (λ off. λ k d l. subst IsAlone (get_or_append_left ys (e ∷ []) d k l) (subst (All IsAlone) h (n.alone off) k d (omega (arith, l, length_push ys e))))

pub noted-dropped : (b : Bool) (xs ys zs : List Event) (e : Event) (p : ℕ) → IsNoted b xs → xs ≡ ys ++ e ∷ [] → previous_of e ≡ Some p →
    zs ≡ changed_at (with_next None) p ys → IsNoted b zs
noted-dropped b xs ys zs e p n h s g =
    noted b zs (kept-dropped xs ys e p (filled-of b xs n) h s zs g)
    (λ off. grind (arith, get_or_push, length_push, some-none))

-- events that are linked to no other

pub all-fresh-alone : (xs : List Event) → All IsFresh xs → All IsAlone xs
all-fresh-alone xs u = λ k d l. fresh-alone (get_or xs k d) (u k d l)

pub all-unlinked-alone : (xs : List Event) → All IsUnlinked xs → All IsAlone xs
all-unlinked-alone xs u = λ k d l. fresh-alone (get_or xs k d) (unlinked-fresh (get_or xs k d) (u k d l))

pub all-alone-unnamed : (xs : List Event) → All IsAlone xs → All NamesNone xs
all-alone-unnamed xs a = λ k d l. (a k d l).0

pub alone-part : (xs : List Event) (n m : ℕ) → All IsAlone xs → All IsAlone (take n (drop m xs))
alone-part xs n m a = All-take IsAlone n (drop m xs) (All-drop IsAlone m xs a)

pub alone-front-part : (xs ys : List Event) (n m : ℕ) → n ≤ m → take m xs ≡ take m ys → All IsAlone ys → All IsAlone (take (m - n) (drop n xs))
alone-front-part xs ys n m l h a = subst (All IsAlone) (sym (part-same xs ys n m l h)) (alone-part ys (m - n) n a)
