-- The links of a list of events, as it grows, shrinks and gains a link.
use Rattle.std.proofs.Common.{◌≡◌, ◌≢◌, ℕ, zero, suc, ◌+◌, ◌<◌, ◌≤◌, ◌⊎◌, inl, inr, true, false, cond, Option, Some, None, List, [], ◌∷◌, ◌++◌, ◌-◌, min, length, take, drop, set, get_or, refl, sym, ap, subst, ◌∙◌, arith}
use Rattle.std.proofs.lemmas.Option.{same_Some}
use Rattle.std.specs.List.{All}
use Rattle.std.proofs.lemmas.List.{get_or-take, length-take}
use Rattle.std.proofs.lemmas.Bool.{cases_lt, ne_eqb, eq-eqb, false≢true}
use Rattle.std.proofs.lemmas.Bool.Decides.{eqb_tells}
use Rattle.markdown_event.specs.declared.event.Event.{Event}
use Rattle.markdown_event.specs.declared.event.Kind.{Kind}
use Rattle.markdown_event.specs.declared.event.Kind.TheVariants.{Enter, Exit}
use Rattle.markdown_event.specs.declared.event.Link.{Link}
use Rattle.markdown_engine_events.specs.EventChains.{next_link, with_next, previous_link, with_previous, bare, bares, link_previous, previous_of, has_link, is_number, follower, chained_from, chained, changed_at, previous_at, linked_at, MayLink, OnlyEnters, EndsChain, IsLinked, IsFreshLink, IsFresh, IsUnlinked}

-- what holds of events at the front, and of those behind them
pub more-each : (P : Event → Type 0) (xs : List Event) (n m : ℕ) → All P (take n xs) →
    ((i : ℕ) (e : Event) → n ≤ i → i < n + m → P (get_or xs i e)) → All P (take (n + m) xs)
more-each P xs n m front more k d l = grind (arith, length-take, get_or-take, cases_lt)

-- one event changed

pub set-changed : {A : Type 0} → (f : A → A) (xs : List A) (i : ℕ) (d r : A) → d ≡ get_or xs i d → r ≡ f d →
    set xs i r ≡ changed_at f i xs
set-changed f [] i d r h k = refl
set-changed f (x ∷ xs) zero d r h k = ap (λ e. e ∷ xs) (k ∙ ap f h)
set-changed f (x ∷ xs) (suc i) d r h k = ap (λ es. x ∷ es) (set-changed f xs i d r h k)

pub length-changed_at : {A : Type 0} → (f : A → A) (i : ℕ) (xs : List A) → length (changed_at f i xs) ≡ length xs
length-changed_at f i [] = refl
length-changed_at f zero (x ∷ xs) = refl
length-changed_at f (suc i) (x ∷ xs) = ap suc (length-changed_at f i xs)

pub changed_at-append : {A : Type 0} → (f : A → A) (i : ℕ) (xs ys : List A) → i < length xs →
    changed_at f i (xs ++ ys) ≡ changed_at f i xs ++ ys
changed_at-append f i [] ys h = absurd (omega arith)
changed_at-append f zero (x ∷ xs) ys h = refl
changed_at-append f (suc i) (x ∷ xs) ys h =
    let k : i < length xs = omega arith in ap (λ es. x ∷ es) (changed_at-append f i xs ys k)

next-next : (j k : Option ℕ) (l : Option Link) → next_link k (next_link j l) ≡ next_link k l
next-next j k None = refl
next-next j k (Some l) = refl

pub with_next-with_next : (j k : Option ℕ) (e : Event) → with_next k (with_next j e) ≡ with_next k e
with_next-with_next j k e = ap (λ (l : Option Link). record e { link = l }) (next-next j k e.link)

next-previous : (j k : Option ℕ) (l : Option Link) → next_link k (previous_link j l) ≡ previous_link j (next_link k l)
next-previous j k None = refl
next-previous j k (Some l) = refl

pub with_next-with_previous : (j k : Option ℕ) (e : Event) →
    with_next k (with_previous j e) ≡ with_previous j (with_next k e)
with_next-with_previous j k e = ap (λ (l : Option Link). record e { link = l }) (next-previous j k e.link)

previous-next : (k : Option ℕ) (l : Option Link) → link_previous (next_link k l) ≡ link_previous l
previous-next k None = refl
previous-next k (Some l) = refl

-- what the list keeps

pub length-bares : (xs : List Event) → length (bares xs) ≡ length xs
length-bares [] = refl
length-bares (x ∷ xs) = ap suc (length-bares xs)

pub bares-append : (xs ys : List Event) → bares (xs ++ ys) ≡ bares xs ++ bares ys
bares-append [] ys = refl
bares-append (x ∷ xs) ys = ap (λ es. bare x ∷ es) (bares-append xs ys)

pub bares-next : (k : Option ℕ) (i : ℕ) (xs : List Event) → bares (changed_at (with_next k) i xs) ≡ bares xs
bares-next k i [] = refl
bares-next k zero (x ∷ xs) = ap (λ e. e ∷ bares xs) (with_next-with_next k None x)
bares-next k (suc i) (x ∷ xs) = ap (λ es. bare x ∷ es) (bares-next k i xs)

pub bares-previous : (k : Option ℕ) (i : ℕ) (xs : List Event) →
    bares (changed_at (with_previous k) i xs) ≡ changed_at (with_previous k) i (bares xs)
bares-previous k i [] = refl
bares-previous k zero (x ∷ xs) = ap (λ e. e ∷ bares xs) (with_next-with_previous k None x)
bares-previous k (suc i) (x ∷ xs) = ap (λ es. bare x ∷ es) (bares-previous k i xs)

pub get-bares : (xs : List Event) (i : ℕ) (d : Event) → bare (get_or xs i d) ≡ get_or (bares xs) i (bare d)
get-bares [] i d = refl
get-bares (x ∷ xs) zero d = refl
get-bares (x ∷ xs) (suc i) d = get-bares xs i d

-- lookups

pub previous_at-end : (xs : List Event) (e : Event) → previous_at (xs ++ e ∷ []) (length xs) ≡ previous_of e
previous_at-end [] e = refl
previous_at-end (x ∷ xs) e = previous_at-end xs e

pub previous_at-before : (xs ys : List Event) (j : ℕ) → j < length xs → previous_at (xs ++ ys) j ≡ previous_at xs j
previous_at-before [] ys j h = absurd (omega arith)
previous_at-before (x ∷ xs) ys zero h = refl
previous_at-before (x ∷ xs) ys (suc j) h = let k : j < length xs = omega arith in previous_at-before xs ys j k

pub linked_at-before : (xs ys : List Event) (j : ℕ) → j < length xs → linked_at (xs ++ ys) j ≡ linked_at xs j
linked_at-before [] ys j h = absurd (omega arith)
linked_at-before (x ∷ xs) ys zero h = refl
linked_at-before (x ∷ xs) ys (suc j) h = let k : j < length xs = omega arith in linked_at-before xs ys j k

pub linked_at-past : (xs : List Event) (j : ℕ) → length xs ≤ j → linked_at xs j ≡ false
linked_at-past [] j h = refl
linked_at-past (x ∷ xs) zero h = absurd (omega arith)
linked_at-past (x ∷ xs) (suc j) h = let k : length xs ≤ j = omega arith in linked_at-past xs j k

pub linked_at-after : (xs ys : List Event) (j : ℕ) → linked_at (xs ++ ys) (length xs + j) ≡ linked_at ys j
linked_at-after [] ys j = ap (linked_at ys) (omega arith)
linked_at-after (x ∷ xs) ys j = grind (arith, linked_at-after xs ys j)

pub some-none : (p : ℕ) → None ≡ Some p → ⊥
some-none p h = cc

within-previous : (xs : List Event) (j p : ℕ) → previous_at xs j ≡ Some p → j < length xs
within-previous [] j p h = absurd (some-none p h)
within-previous (x ∷ xs) zero p h = omega arith
within-previous (x ∷ xs) (suc j) p h = let k = within-previous xs j p h in omega arith

pub within-linked : (xs : List Event) (j : ℕ) → linked_at xs j ≡ true → j < length xs
within-linked [] j h = absurd (false≢true h)
within-linked (x ∷ xs) zero h = omega arith
within-linked (x ∷ xs) (suc j) h = let k = within-linked xs j h in omega arith

-- followers

number-yes : (p : ℕ) (o : Option ℕ) → o ≡ Some p → is_number p o ≡ true
number-yes p o h = rw h (eq-eqb p p refl)

number-no : (p : ℕ) (o : Option ℕ) → o ≢ Some p → is_number p o ≡ false
number-no p None h = refl
number-no p (Some q) h = ne_eqb q p (λ e. h (ap (λ x. Some x) e))

pub follower-skip : (p n : ℕ) (e : Event) (es : List Event) → previous_of e ≢ Some p →
    follower p n (e ∷ es) ≡ follower p (suc n) es
follower-skip p n e es h = rw (number-no p (previous_of e) h) refl

pub follower-here : (p n : ℕ) (e : Event) (es : List Event) → previous_of e ≡ Some p → follower p n (e ∷ es) ≡ Some n
follower-here p n e es h = rw (number-yes p (previous_of e) h) refl

-- the follower is told by the first event alone
follower-step : (p n : ℕ) (e : Event) (es fs : List Event) → follower p (suc n) es ≡ follower p (suc n) fs →
    follower p n (e ∷ es) ≡ follower p n (e ∷ fs)
follower-step p n e es fs h = ap (λ o. cond (is_number p (previous_of e)) (Some n) o) h

tail-ends : (p : ℕ) (e : Event) (es : List Event) → EndsChain p (e ∷ es) → EndsChain p es
tail-ends p e es h = λ j. h (suc j)

pub follower-none : (p n : ℕ) (es : List Event) → EndsChain p es → follower p n es ≡ None
follower-none p n [] h = refl
follower-none p n (e ∷ es) h = follower-skip p n e es (h 0) ∙ follower-none p (suc n) es (tail-ends p e es h)

pub follower-push : (p n : ℕ) (es : List Event) (e : Event) → previous_of e ≢ Some p →
    follower p n (es ++ e ∷ []) ≡ follower p n es
follower-push p n [] e h = follower-skip p n e [] h
follower-push p n (x ∷ es) e h = follower-step p n x (es ++ e ∷ []) es (follower-push p (suc n) es e h)

pub follower-pushed : (p n m : ℕ) (es : List Event) (e : Event) → m ≡ n + length es → previous_of e ≡ Some p →
    EndsChain p es → follower p n (es ++ e ∷ []) ≡ Some m
follower-pushed p n m [] e k h u = follower-here p n e [] h ∙ ap (λ x. Some x) (omega arith)
follower-pushed p n m (x ∷ es) e k h u =
    let next : m ≡ suc n + length es = omega arith in
    follower-skip p n x (es ++ e ∷ []) (u 0) ∙ follower-pushed p (suc n) m es e next h (tail-ends p x es u)

-- where there is no follower, no event names the one before
pub follower-ends : (p n : ℕ) (es : List Event) → follower p n es ≡ None → EndsChain p es
follower-ends p n [] h j e = some-none p e
follower-ends p n (x ∷ es) h zero e = some-none n (sym h ∙ follower-here p n x es e)
follower-ends p n (x ∷ es) h (suc j) e =
    elim (is_number p (previous_of x)) as (λ b. is_number p (previous_of x) ≡ b → ⊥) [
      | true ↦ λ t. some-none n (sym h ∙ ap (λ b. cond b (Some n) (follower p (suc n) es)) t)
      | false ↦ λ f. follower-ends p (suc n) es (sym (ap (λ b. cond b (Some n) (follower p (suc n) es)) f) ∙ h) j e
    ] refl

previous-behind : (i k : ℕ) (es : List Event) → i ≤ k → previous_at (drop i es) (k - i) ≡ previous_at es k
previous-behind zero k es h = ap (previous_at es) (omega arith)
previous-behind (suc i) k [] h = refl
previous-behind (suc i) zero (e ∷ es) h = absurd (omega arith)
previous-behind (suc i) (suc k) (e ∷ es) h = grind (arith, previous-behind i k es (omega arith))

abbrev link_next : Option Link → Option ℕ
link_next None = None
link_next (Some l) = l.next

none-next : (k : Option ℕ) (l : Option Link) → has_link l ≡ true → next_link None (next_link k l) ≡ next_link k l →
    k ≡ None
none-next k None h e = absurd (false≢true h)
none-next k (Some l) h e = sym (ap link_next e)

follower-at : (n i p : ℕ) (es : List Event) (d : Event) → p ≡ n + i → linked_at es i ≡ true →
    next_link None (get_or (chained_from n es) i d).link ≡ (get_or (chained_from n es) i d).link →
    follower p (suc p) (drop (suc i) es) ≡ None
follower-at n i p [] d at h e = absurd (false≢true h)
follower-at n zero p (x ∷ es) d at h e = grind (arith, none-next)
follower-at n (suc i) p (x ∷ es) d at h e = follower-at (suc n) i p es d (omega (arith, at)) h e

-- an event with no event after ends its chain
pub chained-ends : (p : ℕ) (es : List Event) (d : Event) → IsLinked es →
    next_link None (get_or (chained es) p d).link ≡ (get_or (chained es) p d).link → EndsChain p es
chained-ends p es d w e j named =
    let later : p < j = w.earlier j p named in
    let none : follower p (suc p) (drop (suc p) es) ≡ None = follower-at 0 p p es d (omega arith) (w.linked j p named) e in
    follower-ends p (suc p) (drop (suc p) es) none (j - suc p) (previous-behind (suc p) j es (omega (arith, later)) ∙ named)

-- an event added at the end

pub chained-fresh : (n : ℕ) (es : List Event) (e : Event) → previous_of e ≡ None →
    chained_from n (es ++ e ∷ []) ≡ chained_from n es ++ with_next None e ∷ []
chained-fresh n [] e h = refl
chained-fresh n (x ∷ es) e h = grind (arith, some-none, follower-push, chained-fresh (suc n) es e h)

other-none : (p q : ℕ) (o : Option ℕ) → o ≡ Some p → p ≢ q → o ≢ Some q
other-none p q o h n = λ k. n cc

-- the event that a new last event names is before these: nothing changes
pub chained-push-older : (n p : ℕ) (es : List Event) (e : Event) → previous_of e ≡ Some p → p < n →
    chained_from n (es ++ e ∷ []) ≡ chained_from n es ++ with_next None e ∷ []
chained-push-older n p [] e h l = refl
chained-push-older n p (x ∷ es) e h l = grind (arith, other-none, follower-push, chained-push-older (suc n) p es e h (omega arith))

pub chained-push : (n i p m : ℕ) (es : List Event) (e : Event) → p ≡ n + i → m ≡ n + length es → i < length es →
    previous_of e ≡ Some p → EndsChain p es →
    chained_from n (es ++ e ∷ []) ≡ changed_at (with_next (Some m)) i (chained_from n es) ++ with_next None e ∷ []
chained-push n i p m [] e at size l h u = absurd (omega arith)
chained-push n zero p m (x ∷ es) e at size l h u =
    let here : p ≡ n = omega arith in
    let next : m ≡ suc n + length es = omega arith in
    let named : previous_of e ≡ Some n = h ∙ ap (λ k. Some k) here in
    let free : EndsChain n es = subst (λ k. EndsChain k es) here (tail-ends p x es u) in
    let there : follower n (suc n) (es ++ e ∷ []) ≡ Some m = follower-pushed n (suc n) m es e next named free in
    ap (λ k. with_next k x ∷ chained_from (suc n) (es ++ e ∷ [])) there ∙ ap (λ y. y ∷ chained_from (suc n) (es ++ e ∷ [])) (sym (with_next-with_next (follower n (suc n) es) (Some m) x)) ∙ ap (λ r. with_next (Some m) (with_next (follower n (suc n) es) x) ∷ r) (chained-push-older (suc n) p es e h (omega arith))
chained-push n (suc i) p m (x ∷ es) e at size l h u =
    let next : m ≡ suc n + length es = omega arith in
    let more : p ≡ suc n + i = omega arith in
    let within : i < length es = omega arith in
    let no : previous_of e ≢ Some n = other-none p n (previous_of e) h (omega arith) in
    ap (λ k. with_next k x ∷ chained_from (suc n) (es ++ e ∷ [])) (follower-push n (suc n) es e no) ∙ ap (λ r. with_next (follower n (suc n) es) x ∷ r) (chained-push (suc n) i p m es e more next within h (tail-ends p x es u))

-- the end of a chain has no event after, so taking it away changes nothing
pub chained-end : (n i p : ℕ) (es : List Event) → p ≡ n + i → EndsChain p es →
    changed_at (with_next None) i (chained_from n es) ≡ chained_from n es
chained-end n i p [] at u = refl
chained-end n zero p (x ∷ es) at u =
    let here : p ≡ n = omega arith in
    let none : follower n (suc n) es ≡ None = follower-none n (suc n) es (subst (λ k. EndsChain k es) here (tail-ends p x es u)) in
    ap (λ y. y ∷ chained_from (suc n) es) (with_next-with_next (follower n (suc n) es) None x ∙ ap (λ k. with_next k x) (sym none))
chained-end n (suc i) p (x ∷ es) at u =
    let more : p ≡ suc n + i = omega arith in
    ap (λ r. with_next (follower n (suc n) es) x ∷ r) (chained-end (suc n) i p es more (tail-ends p x es u))

pub length-chained : (n : ℕ) (es : List Event) → length (chained_from n es) ≡ length es
length-chained n [] = refl
length-chained n (x ∷ es) = ap suc (length-chained (suc n) es)

-- a link between two events

previous-same : (k : Option ℕ) (l : Option Link) → has_link l ≡ true → link_previous (previous_link k l) ≡ k
previous-same k None h = absurd (false≢true h)
previous-same k (Some l) h = refl

previous-either : (k : Option ℕ) (l : Option Link) →
    (link_previous (previous_link k l) ≡ k) ⊎ (link_previous (previous_link k l) ≡ None)
previous-either k None = inr refl
previous-either k (Some l) = inl refl

previous-other : (p q : ℕ) (l : Option Link) → p ≢ q → link_previous (previous_link (Some p) l) ≢ Some q
previous-other p q l n = λ h. grind (arith, previous-either, some-none)

-- the followers of the other events stay
pub follower-link : (q p n i : ℕ) (es : List Event) → p ≢ q → previous_at es i ≡ None →
    follower q n (changed_at (with_previous (Some p)) i es) ≡ follower q n es
follower-link q p n i [] d h = refl
follower-link q p n zero (e ∷ es) d h = grind (arith, follower-skip, previous-other, some-none)
follower-link q p n (suc i) (e ∷ es) d h = simp (follower-step, follower-link q p (suc n) i es d h)

pub follower-linked : (p n i m : ℕ) (es : List Event) → m ≡ n + i → linked_at es i ≡ true → EndsChain p es →
    follower p n (changed_at (with_previous (Some p)) i es) ≡ Some m
follower-linked p n i m [] at h u = absurd (false≢true h)
follower-linked p n zero m (e ∷ es) at h u = grind (arith, follower-here, previous-same)
follower-linked p n (suc i) m (e ∷ es) at h u =
    let more : m ≡ suc n + i = omega arith in
    follower-skip p n e (changed_at (with_previous (Some p)) i es) (u 0) ∙ follower-linked p (suc n) i m es more h (tail-ends p e es u)

pub chained-link-older : (n p i : ℕ) (es : List Event) → p < n → previous_at es i ≡ None →
    chained_from n (changed_at (with_previous (Some p)) i es) ≡ changed_at (with_previous (Some p)) i (chained_from n es)
chained-link-older n p i [] l h = refl
chained-link-older n p zero (e ∷ es) l h = simp with_next-with_previous
chained-link-older n p (suc i) (e ∷ es) l h = grind (arith, follower-link, chained-link-older (suc n) p i es (omega arith) h)

pub chained-link : (n p j i m : ℕ) (es : List Event) → p ≡ n + j → m ≡ n + i → j < i → previous_at es i ≡ None →
    linked_at es i ≡ true → EndsChain p es →
    chained_from n (changed_at (with_previous (Some p)) i es) ≡ changed_at (with_previous (Some p)) i (changed_at (with_next (Some m)) j (chained_from n es))
chained-link n p j i m [] a b l h k u = refl
chained-link n p j zero m (e ∷ es) a b l h k u = absurd (omega arith)
chained-link n p zero (suc i) m (e ∷ es) a b l h k u =
    let here : p ≡ n = omega arith in
    let next : m ≡ suc n + i = omega arith in
    let free : EndsChain n es = subst (λ x. EndsChain x es) here (tail-ends p e es u) in
    let there : follower n (suc n) (changed_at (with_previous (Some p)) i es) ≡ Some m = ap (λ x. follower n (suc n) (changed_at (with_previous (Some x)) i es)) here ∙ follower-linked n (suc n) i m es next k free in
    ap (λ x. with_next x e ∷ chained_from (suc n) (changed_at (with_previous (Some p)) i es)) there ∙ ap (λ y. y ∷ chained_from (suc n) (changed_at (with_previous (Some p)) i es)) (sym (with_next-with_next (follower n (suc n) es) (Some m) e)) ∙ ap (λ r. with_next (Some m) (with_next (follower n (suc n) es) e) ∷ r) (chained-link-older (suc n) p i es (omega arith) h)
chained-link n p (suc j) (suc i) m (e ∷ es) a b l h k u =
    let next : m ≡ suc n + i = omega arith in
    let more : p ≡ suc n + j = omega arith in
    let less : j < i = omega arith in
    ap (λ x. with_next x e ∷ chained_from (suc n) (changed_at (with_previous (Some p)) i es)) (follower-link n p (suc n) i es (omega arith) h) ∙ ap (λ r. with_next (follower n (suc n) es) e ∷ r) (chained-link (suc n) p j i m es more next less h k (tail-ends p e es u))

-- chains stay chains

pub OnlyEnters-prefix : (xs ys : List Event) → OnlyEnters (xs ++ ys) → OnlyEnters xs
OnlyEnters-prefix [] ys h = tt
OnlyEnters-prefix (x ∷ xs) ys h = (h.0, OnlyEnters-prefix xs ys h.1)

pub OnlyEnters-append : (xs ys : List Event) → OnlyEnters xs → OnlyEnters ys → OnlyEnters (xs ++ ys)
OnlyEnters-append [] ys h k = k
OnlyEnters-append (x ∷ xs) ys h k = (h.0, OnlyEnters-append xs ys h.1 k)

OnlyEnters-drop : (n : ℕ) (xs : List Event) → OnlyEnters xs → OnlyEnters (drop n xs)
OnlyEnters-drop zero xs h = h
OnlyEnters-drop (suc n) [] h = tt
OnlyEnters-drop (suc n) (x ∷ xs) h = OnlyEnters-drop n xs h.1

OnlyEnters-take : (n : ℕ) (xs : List Event) → OnlyEnters xs → OnlyEnters (take n xs)
OnlyEnters-take zero xs h = tt
OnlyEnters-take (suc n) [] h = tt
OnlyEnters-take (suc n) (x ∷ xs) h = (h.0, OnlyEnters-take n xs h.1)

pub OnlyEnters-part : (n k : ℕ) (xs : List Event) → OnlyEnters xs → OnlyEnters (take k (drop n xs))
OnlyEnters-part n k xs h = OnlyEnters-take k (drop n xs) (OnlyEnters-drop n xs h)

pub IsLinked-prefix : (xs ys : List Event) → IsLinked (xs ++ ys) → IsLinked xs
IsLinked-prefix xs ys w = grind (arith, previous_at-before, within-previous, linked_at-before, OnlyEnters-prefix)

fresh-none : (k : Kind) (l : Option Link) → IsFreshLink k l → link_previous l ≡ None
fresh-none k None h = refl
fresh-none Enter (Some l) h = h.0
fresh-none Exit (Some l) h = absurd h

fresh-bare : (k : Kind) (l : Option Link) → IsFreshLink k l → next_link None l ≡ l
fresh-bare k None h = refl
fresh-bare Enter (Some l) h = ap (λ n. Some (record l { next = n })) (sym h.1)
fresh-bare Exit (Some l) h = absurd h

fresh-may : (k : Kind) (l : Option Link) → IsFreshLink k l → MayLink k l
fresh-may k None h = tt
fresh-may Enter (Some l) h = tt
fresh-may Exit (Some l) h = absurd h

pub fresh-of : (k : Kind) (l : Option Link) → MayLink k l → link_previous l ≡ None → next_link None l ≡ l →
    IsFreshLink k l
fresh-of k None m p e = tt
fresh-of Enter (Some l) m p e = (p, sym (ap link_next e))
fresh-of Exit (Some l) m p e = absurd m

pub unlinked-fresh : (e : Event) → IsUnlinked e → IsFresh e
unlinked-fresh e u = let P : Option Link → Type 0 = λ l. IsFreshLink e.kind l in subst P (sym u) tt

pub bare-fresh : (e : Event) → IsFresh e → bare e ≡ e
bare-fresh e h = ap (λ (l : Option Link). record e { link = l }) (fresh-bare e.kind e.link h)

previous_at-fresh : (xs : List Event) (e : Event) (j : ℕ) → previous_of e ≡ None →
    previous_at (xs ++ e ∷ []) j ≡ previous_at xs j
previous_at-fresh [] e zero h = h
previous_at-fresh [] e (suc j) h = refl
previous_at-fresh (x ∷ xs) e zero h = refl
previous_at-fresh (x ∷ xs) e (suc j) h = previous_at-fresh xs e j h

pub IsLinked-push : (xs : List Event) (e : Event) → IsLinked xs → IsFresh e → IsLinked (xs ++ e ∷ [])
IsLinked-push xs e w f = grind (arith, fresh-none, previous_at-fresh, linked_at-before, within-linked, OnlyEnters-append, fresh-may)

-- what a last event that names another says of the others
pub ends-before : (xs : List Event) (e : Event) (p : ℕ) → IsLinked (xs ++ e ∷ []) → previous_of e ≡ Some p →
    EndsChain p xs
ends-before xs e p w h = λ j k.
    let l : j < length xs = within-previous xs j p k in
    let same : j ≡ length xs = w.single j (length xs) p (previous_at-before xs (e ∷ []) j l ∙ k) (previous_at-end xs e ∙ h) in
    omega arith

pub last-earlier : (xs : List Event) (e : Event) (p : ℕ) → IsLinked (xs ++ e ∷ []) → previous_of e ≡ Some p →
    p < length xs
last-earlier xs e p w h = w.earlier (length xs) p (previous_at-end xs e ∙ h)

pub has-previous : (k : Option ℕ) (l : Option Link) → has_link (previous_link k l) ≡ has_link l
has-previous k None = refl
has-previous k (Some l) = refl

pub linked_at-changed : (k : Option ℕ) (i j : ℕ) (xs : List Event) →
    linked_at (changed_at (with_previous k) i xs) j ≡ linked_at xs j
linked_at-changed k i j [] = refl
linked_at-changed k zero zero (x ∷ xs) = has-previous k x.link
linked_at-changed k zero (suc j) (x ∷ xs) = refl
linked_at-changed k (suc i) zero (x ∷ xs) = refl
linked_at-changed k (suc i) (suc j) (x ∷ xs) = linked_at-changed k i j xs

pub previous_at-same : (k : Option ℕ) (i : ℕ) (xs : List Event) → linked_at xs i ≡ true →
    previous_at (changed_at (with_previous k) i xs) i ≡ k
previous_at-same k i [] h = absurd (false≢true h)
previous_at-same k zero (x ∷ xs) h = previous-same k x.link h
previous_at-same k (suc i) (x ∷ xs) h = previous_at-same k i xs h

pub previous_at-other : (k : Option ℕ) (i j : ℕ) (xs : List Event) → j ≢ i →
    previous_at (changed_at (with_previous k) i xs) j ≡ previous_at xs j
previous_at-other k i j [] h = refl
previous_at-other k zero zero (x ∷ xs) h = absurd (h refl)
previous_at-other k zero (suc j) (x ∷ xs) h = refl
previous_at-other k (suc i) zero (x ∷ xs) h = refl
previous_at-other k (suc i) (suc j) (x ∷ xs) h = previous_at-other k i j xs (λ e. h (ap suc e))

pub may-previous : (k : Kind) (p : Option ℕ) (l : Option Link) → MayLink k l → MayLink k (previous_link p l)
may-previous k p None h = tt
may-previous Enter p (Some l) h = tt
may-previous Exit p (Some l) h = h

OnlyEnters-changed : (p : Option ℕ) (i : ℕ) (xs : List Event) → OnlyEnters xs →
    OnlyEnters (changed_at (with_previous p) i xs)
OnlyEnters-changed p i [] h = tt
OnlyEnters-changed p zero (x ∷ xs) h = (may-previous x.kind p x.link h.0, h.1)
OnlyEnters-changed p (suc i) (x ∷ xs) h = (h.0, OnlyEnters-changed p i xs h.1)

same_number : (a b : ℕ) → (a ≡ b) ⊎ (a ≢ b)
same_number a b = elim (eqb_tells a b) [ inl t ↦ inl t.1 | inr f ↦ inr f.1 ]

-- an event of the list with the new link names what it named, or is the one that was linked
connected : (xs : List Event) (p i j q : ℕ) → linked_at xs i ≡ true →
    previous_at (changed_at (with_previous (Some p)) i xs) j ≡ Some q →
    ((j ≡ i) × (p ≡ q)) ⊎ ((j ≢ i) × (previous_at xs j ≡ Some q))
connected xs p i j q h k = grind (arith, same_number, same_Some, previous_at-same, previous_at-other)

pub IsLinked-connect : (xs : List Event) (p i : ℕ) → IsLinked xs → p < i → linked_at xs p ≡ true →
    linked_at xs i ≡ true → EndsChain p xs → IsLinked (changed_at (with_previous (Some p)) i xs)
IsLinked-connect xs p i w l a b u = grind (arith, connected, linked_at-changed, OnlyEnters-changed)

pub fresh-unnamed : (e : Event) → IsFresh e → previous_of e ≡ None
fresh-unnamed e f = fresh-none e.kind e.link f

pub previous_of-bare : (e : Event) → previous_of (bare e) ≡ previous_of e
previous_of-bare e = previous-next None e.link

pub changed_at-twice : (j k : Option ℕ) (i : ℕ) (xs : List Event) →
    changed_at (with_next k) i (changed_at (with_next j) i xs) ≡ changed_at (with_next k) i xs
changed_at-twice j k i [] = refl
changed_at-twice j k zero (x ∷ xs) = ap (λ e. e ∷ xs) (with_next-with_next j k x)
changed_at-twice j k (suc i) (x ∷ xs) = ap (λ es. x ∷ es) (changed_at-twice j k i xs)

-- the Enter before a last Enter ends its chain, since the two events after it name nothing
pub ends-last : (es : List Event) (p : ℕ) → IsLinked es → length es ≡ p + 3 → previous_at es (p + 1) ≡ None →
    previous_at es (p + 2) ≡ None → EndsChain p es
ends-last es p w size one two = grind (arith, within-previous, same_number, some-none)

-- the number of the event after is all that the kept events add

pub chained-point : (n i : ℕ) (es : List Event) (d : Event) →
    (get_or (chained_from n es) i d).point ≡ (get_or es i d).point
chained-point n i [] d = refl
chained-point n zero (x ∷ es) d = refl
chained-point n (suc i) (x ∷ es) d = chained-point (suc n) i es d
