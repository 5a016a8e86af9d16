-- What is noted in short events.
use Rattle.std.proofs.Common.{◌≡◌, ◌∙◌, sym, ap, refl, ℕ, zero, suc, ◌+◌, ◌-◌, ◌<◌, ◌≤◌, List, [], ◌∷◌, ◌++◌, get_or, set, length, map, take, drop, append_assoc, arith, inl, inr, Option, None, Some}
use Rattle.std.proofs.lemmas.List.{drop_more, length-map, length-take-le, take_more}
use Rattle.std.proofs.lemmas.Option.{slice_get_cases}
use Rattle.markdown_engine_events.specs.EventChains.{changed_at}
use Rattle.markdown_event.specs.declared.event.Event.{Event}
use Rattle.markdown_inline_c.specs.FlatEvents.{telling, short_event}
use Rattle.markdown_inline_c.specs.ShortEvents.{noted, short_from, with_told}
use Rattle.markdown_inline_c.specs.declared.flat.ShortEvent.{ShortEvent}

-- One element that is changed.

length-changed : {A : Type 0} (f : A → A) (i : ℕ) (xs : List A) → length (changed_at f i xs) ≡ length xs
length-changed f i [] = refl
length-changed f zero (x ∷ xs) = refl
length-changed f (suc i) (x ∷ xs) = ap suc (length-changed f i xs)

pub changed_in : {A : Type 0} (f : A → A) (i : ℕ) (xs : List A) (d : A) → i < length xs → set xs i (f (get_or xs i d)) ≡ changed_at f i xs
changed_in f i [] d l = absurd (omega arith)
changed_in f zero (x ∷ xs) d l = refl
changed_in f (suc i) (x ∷ xs) d l = ap (λ ys. x ∷ ys) (changed_in f i xs d (omega arith))

pub changed_out : {A : Type 0} (f : A → A) (i : ℕ) (xs : List A) → length xs ≤ i → xs ≡ changed_at f i xs
changed_out f i [] l = refl
changed_out f zero (x ∷ xs) l = absurd (omega arith)
changed_out f (suc i) (x ∷ xs) l = ap (λ ys. x ∷ ys) (changed_out f i xs (omega arith))

changed-seam : {A : Type 0} (f : A → A) (front : List A) (x : A) (rest : List A) → changed_at f (length front) (front ++ x ∷ rest) ≡ front ++ f x ∷ rest
changed-seam f [] x rest = refl
changed-seam f (y ∷ front) x rest = ap (λ ys. y ∷ ys) (changed-seam f front x rest)

-- Pairs that are noted one after another.

length-noted : (ms : List (ℕ × ℕ)) (es : List ShortEvent) → length (noted ms es) ≡ length es
length-noted [] es = refl
length-noted (pair ∷ ms) es = length-noted ms (changed_at (telling pair.1) pair.0 es) ∙ length-changed (telling pair.1) pair.0 es

pub length_noted : (ms : List (ℕ × ℕ)) (es : List Event) → length (noted ms (map (short_event None) es)) ≡ length es
length_noted ms es = length-noted ms (map (short_event None) es) ∙ length-map es (short_event None)

noted-push : (ms : List (ℕ × ℕ)) (pair : ℕ × ℕ) (es : List ShortEvent) → noted (ms ++ pair ∷ []) es ≡ changed_at (telling pair.1) pair.0 (noted ms es)
noted-push [] pair es = refl
noted-push (m ∷ ms) pair es = noted-push ms pair (changed_at (telling m.1) m.0 es)

pub noted_more : (ms : List (ℕ × ℕ)) (old array new : List ShortEvent) (at : ℕ) (d : ℕ × ℕ) → at < length ms → array ≡ noted (take at ms) old →
    new ≡ changed_at (telling (get_or ms at d).1) (get_or ms at d).0 array → new ≡ noted (take (at + 1) ms) old
noted_more ms old array new at d l so_far is =
    is
    ∙ ap (changed_at (telling (get_or ms at d).1) (get_or ms at d).0) so_far
    ∙ sym (noted-push (take at ms) (get_or ms at d) old)
    ∙ ap (λ xs. noted xs old) (sym (take_more ms at d l))

-- Short events, with what they tell up to some event.

length-short : (m : ℕ → Option ℕ) (n : ℕ) (es : List Event) → length (short_from m n es) ≡ length es
length-short m n [] = refl
length-short m n (e ∷ es) = ap suc (length-short m (suc n) es)

short-push : (m : ℕ → Option ℕ) (n : ℕ) (es : List Event) (e : Event) → short_from m n (es ++ e ∷ []) ≡ short_from m n es ++ short_event (m (n + length es)) e ∷ []
short-push m n [] e = ap (λ k. short_event (m k) e ∷ []) (omega arith)
short-push m n (x ∷ es) e = ap (λ xs. short_event (m n) x ∷ xs) (short-push m (suc n) es e ∙ ap (λ k. short_from m (suc n) es ++ short_event (m k) e ∷ []) (omega arith))

abbrev pub up-to : (ℕ → Option ℕ) → List Event → ℕ → List ShortEvent
up-to m es i = short_from m 0 (take i es) ++ map (short_event None) (drop i es)

up-to-here : (m : ℕ → Option ℕ) (es : List Event) (i : ℕ) (d : Event) → i < length es →
    up-to m es i ≡ short_from m 0 (take i es) ++ short_event None (get_or es i d) ∷ map (short_event None) (drop (i + 1) es)
up-to-here m es i d l = ap (λ xs. short_from m 0 (take i es) ++ map (short_event None) xs) (drop_more es i d l)

up-to-more : (m : ℕ → Option ℕ) (es : List Event) (i : ℕ) (d : Event) → i < length es →
    up-to m es (i + 1) ≡ short_from m 0 (take i es) ++ short_event (m i) (get_or es i d) ∷ map (short_event None) (drop (i + 1) es)
up-to-more m es i d l =
    let at : 0 + length (take i es) ≡ i = omega (arith, length-take-le i es (omega (arith, l))) in
    ap (λ xs. short_from m 0 xs ++ map (short_event None) (drop (i + 1) es)) (take_more es i d l)
    ∙ ap (λ xs. xs ++ map (short_event None) (drop (i + 1) es)) (short-push m 0 (take i es) (get_or es i d))
    ∙ ap (λ n. (short_from m 0 (take i es) ++ short_event (m n) (get_or es i d) ∷ []) ++ map (short_event None) (drop (i + 1) es)) at
    ∙ append_assoc (short_from m 0 (take i es)) (short_event (m i) (get_or es i d) ∷ []) (map (short_event None) (drop (i + 1) es))

pub pass_none : (m : ℕ → Option ℕ) (es : List Event) (i : ℕ) (d : Event) → i < length es → m i ≡ None → up-to m es i ≡ up-to m es (i + 1)
pass_none m es i d l none =
    up-to-here m es i d l
    ∙ ap (λ o. short_from m 0 (take i es) ++ short_event o (get_or es i d) ∷ map (short_event None) (drop (i + 1) es)) (sym none)
    ∙ sym (up-to-more m es i d l)

pub pass_met : (m : ℕ → Option ℕ) (es : List Event) (ms : List (ℕ × ℕ)) (i k : ℕ) (d : Event) → i < length es → m i ≡ Some k →
    noted ms (map (short_event None) es) ≡ up-to m es i → noted (ms ++ (i, k) ∷ []) (map (short_event None) es) ≡ up-to m es (i + 1)
pass_met m es ms i k d l is so_far =
    let front = short_from m 0 (take i es) in
    let rest = map (short_event None) (drop (i + 1) es) in
    let at : length front ≡ i = length-short m 0 (take i es) ∙ length-take-le i es (omega (arith, l)) in
    noted-push ms (i, k) (map (short_event None) es)
    ∙ ap (changed_at (telling k) i) (so_far ∙ up-to-here m es i d l)
    ∙ ap (λ n. changed_at (telling k) n (front ++ short_event None (get_or es i d) ∷ rest)) (sym at)
    ∙ changed-seam (telling k) front (short_event None (get_or es i d)) rest
    ∙ ap (λ o. front ++ short_event o (get_or es i d) ∷ rest) (sym is)
    ∙ sym (up-to-more m es i d l)

pub one_more : (m : ℕ → Option ℕ) (es : List Event) (ms more : List (ℕ × ℕ)) (i : ℕ) (d : Event) (o : Option ℕ) → i < length es → o ≡ m i → more ≡ with_told i o ms →
    noted ms (map (short_event None) es) ≡ up-to m es i → noted more (map (short_event None) es) ≡ up-to m es (i + 1)
one_more m es ms more i d None l is e so_far = ap (λ xs. noted xs (map (short_event None) es)) e ∙ so_far ∙ pass_none m es i d l (sym is)
one_more m es ms more i d (Some k) l is e so_far = ap (λ xs. noted xs (map (short_event None) es)) e ∙ pass_met m es ms i k d l (sym is) so_far

-- past events that tell nothing
pass-nones : (m : ℕ → Option ℕ) (es : List Event) (i n : ℕ) → i + n ≤ length es → ((k : ℕ) → i ≤ k → k < i + n → m k ≡ None) → up-to m es i ≡ up-to m es (i + n)
pass-nones m es i zero l h = ap (up-to m es) (omega arith)
pass-nones m es i (suc n) l h =
    elim (slice_get_cases es i).1 [
      | inl x ↦ pass_none m es i x.0 x.1 (h i (omega arith) (omega arith)) ∙ pass-nones m es (i + 1) n (omega (arith, l)) (λ k low high. h k (omega (arith, low)) (omega (arith, high))) ∙ ap (up-to m es) (omega arith)
      | inr past ↦ absurd (omega (arith, l, past.0))
    ]

pub pass_nones : (m : ℕ → Option ℕ) (es : List Event) (i j : ℕ) → i ≤ j → j ≤ length es → ((k : ℕ) → i ≤ k → k < j → m k ≡ None) → up-to m es i ≡ up-to m es j
pass_nones m es i j low high h =
    pass-nones m es i (j - i) (omega (arith, low, high)) (λ k l u. h k l (omega (arith, low, u))) ∙ ap (up-to m es) (omega (arith, low))

-- Where nothing is told, there is nothing to note.

none-from : (m : ℕ → Option ℕ) (n : ℕ) (es : List Event) → ((i : ℕ) → i < length es → m (n + i) ≡ None) → map (short_event None) es ≡ short_from m n es
none-from m n [] h = refl
none-from m n (e ∷ es) h =
    ap (λ o. short_event o e ∷ map (short_event None) es) (sym (h 0 (omega arith)) ∙ ap m (omega arith))
    ∙ ap (λ xs. short_event (m n) e ∷ xs) (none-from m (suc n) es (λ i l. ap m (omega arith) ∙ h (suc i) (omega arith)))

pub none_noted : (m : ℕ → Option ℕ) (es : List Event) → ((i : ℕ) → i < length es → m i ≡ None) → noted [] (map (short_event None) es) ≡ short_from m 0 es
none_noted m es h = none-from m 0 es (λ i l. ap m (omega arith) ∙ h i l)
