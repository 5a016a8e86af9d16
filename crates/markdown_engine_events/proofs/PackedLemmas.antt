-- Lists of events that stand packed.
use Rattle.std.proofs.Common.{◌≡◌, ◌<◌, ◌≤◌, ◌+◌, ◌-◌, ◌++◌, ◌∷◌, ℕ, zero, suc, Bool, true, List, [], Option, Some, None, length, take, drop, get_or, ap, subst, refl, sym, ◌∙◌, arith, length-append, MatchOption, is_some}
use Rattle.std.proofs.Math.ListN.{set}
use Rattle.std.proofs.Math.Seq.{paste}
use Rattle.std.specs.List.{All}
use Rattle.std.proofs.lemmas.List.{length-take, length-drop, take_all}
use Rattle.std.proofs.lemmas.List.Edits.{length-paste}
use Rattle.std.proofs.lemmas.Option.{none-some}
use Rattle.markdown_event.proofs.PastedParts.{take-take-le}
use Rattle.markdown_event.specs.declared.event.Event.{Event}
use Rattle.markdown_event.specs.declared.event.Link.{Link}
use Rattle.markdown_event.specs.declared.event.Content.{Content}
use Rattle.markdown_engine_events.specs.EventChains.{changed_at, link_previous, next_link, previous_link, with_next, with_previous, IsAlone}
use Rattle.markdown_engine_events.specs.declared.packed.Packed.{Packed}
use Rattle.markdown_engine_events.specs.declared.packed.Chain.{Chain}
use Rattle.markdown_engine_events.specs.declared.packed.Chain.TheVariants.{Alone, First, Inner, Last}
use Rattle.markdown_engine_events.specs.Packed.{all_unpacked, content_of, link_kept, link_next, next_if, next_kept, previous_if, previous_kept, unpacked, unpacked_from}

-- the parts of a link
link-next : (c : Option Content) (p n k : Option ℕ) → link_kept c p k ≡ next_link k (link_kept c p n)
link-next None p n k = refl
link-next (Some c) p n k = refl

link-previous : (c : Option Content) (p n k : Option ℕ) → link_kept c k n ≡ previous_link k (link_kept c p n)
link-previous None p n k = refl
link-previous (Some c) p n k = refl

-- an event on another place of its chain
packed-next : (n : ℕ) (p : Packed) (c : Chain) (k : Option ℕ) → previous_kept c n ≡ previous_kept p.chain n → next_kept c n ≡ k →
    unpacked n (record p { chain = c }) ≡ with_next k (unpacked n p)
packed-next n p c k h g = grind (arith, link-next)

packed-previous : (n : ℕ) (p : Packed) (c : Chain) (k : Option ℕ) → previous_kept c n ≡ k → next_kept c n ≡ next_kept p.chain n →
    unpacked n (record p { chain = c }) ≡ with_previous k (unpacked n p)
packed-previous n p c k h g = grind (arith, link-previous)

none-before : (n : ℕ) → 0 + n ≡ n
none-before n = omega arith

-- a list in parts

pub length_unpacked : (n : ℕ) (ps : List Packed) → length (unpacked_from n ps) ≡ length ps
length_unpacked n [] = refl
length_unpacked n (p ∷ ps) = ap suc (length_unpacked (suc n) ps)

pub length-seen : (n : ℕ) (ps : List Packed) (es : List Event) → unpacked_from n ps ≡ es → length ps ≡ length es
length-seen n ps es v = sym (length_unpacked n ps) ∙ ap length v

pub unpacked-append : (n : ℕ) (ps qs : List Packed) → unpacked_from n (ps ++ qs) ≡ unpacked_from n ps ++ unpacked_from (n + length ps) qs
unpacked-append n [] qs = ap (λ m. unpacked_from m qs) (omega arith)
unpacked-append n (p ∷ ps) qs = grind (arith, unpacked-append (suc n) ps qs)

append-first : (ps qs : List Packed) → unpacked_from 0 (ps ++ qs) ≡ unpacked_from 0 ps ++ unpacked_from (length ps) qs
append-first ps qs = unpacked-append 0 ps qs ∙ ap (λ k. unpacked_from 0 ps ++ unpacked_from k qs) (none-before (length ps))

pub unpacked-take : (n k : ℕ) (ps : List Packed) → unpacked_from n (take k ps) ≡ take k (unpacked_from n ps)
unpacked-take n zero ps = refl
unpacked-take n (suc k) [] = refl
unpacked-take n (suc k) (p ∷ ps) = ap (λ es. unpacked n p ∷ es) (unpacked-take (suc n) k ps)

pub unpacked-drop : (n k : ℕ) (ps : List Packed) → unpacked_from (n + k) (drop k ps) ≡ drop k (unpacked_from n ps)
unpacked-drop n zero ps = ap (λ m. unpacked_from m ps) (omega arith)
unpacked-drop n (suc k) [] = refl
unpacked-drop n (suc k) (p ∷ ps) = ap (λ m. unpacked_from m (drop k ps)) (omega arith) ∙ unpacked-drop (suc n) k ps

pub unpacked-part : (n k m : ℕ) (ps : List Packed) → unpacked_from (n + m) (take k (drop m ps)) ≡ take k (drop m (unpacked_from n ps))
unpacked-part n k m ps = unpacked-take (n + m) k (drop m ps) ∙ ap (take k) (unpacked-drop n m ps)

pub unpacked-at : (n : ℕ) (ps : List Packed) (i : ℕ) (d : Packed) (e : Event) → i < length ps →
    unpacked (n + i) (get_or ps i d) ≡ get_or (unpacked_from n ps) i e
unpacked-at n [] i d e l = absurd (omega arith)
unpacked-at n (x ∷ ps) zero d e l = ap (λ m. unpacked m x) (omega arith)
unpacked-at n (x ∷ ps) (suc i) d e l = ap (λ m. unpacked m (get_or ps i d)) (omega arith) ∙ unpacked-at (suc n) ps i d e (omega arith)

-- what is written
unpacked-set : (f : Event → Event) (n : ℕ) (ps : List Packed) (i : ℕ) (p q : Packed) → p ≡ get_or ps i p →
    unpacked (n + i) q ≡ f (unpacked (n + i) p) → unpacked_from n (set ps i q) ≡ changed_at f i (unpacked_from n ps)
unpacked-set f n [] i p q h k = refl
unpacked-set f n (x ∷ ps) zero p q h k = grind arith
unpacked-set f n (x ∷ ps) (suc i) p q h k =
    ap (λ es. unpacked n x ∷ es)
    (unpacked-set f (suc n) ps i p q h (ap (λ m. unpacked m q) (omega arith) ∙ k ∙ ap (λ m. f (unpacked m p)) (omega arith)))

-- Events that are linked to no other stand for the same at each number.

chain-anywhere : (c : Content) (chain : Chain) (n m : ℕ) → previous_kept chain n ≡ None → None ≡ next_kept chain n →
    link_kept (Some c) (previous_kept chain m) (next_kept chain m) ≡ link_kept (Some c) (previous_kept chain n) (next_kept chain n)
chain-anywhere c Alone n m h g = refl
chain-anywhere c First n m h g = absurd (none-some (n + 2) g)
chain-anywhere c Inner n m h g = absurd (none-some (n + 2) g)
chain-anywhere c Last n m h g = absurd (none-some (n - 2) (sym h))

link-anywhere : (c : Option Content) (chain : Chain) (n m : ℕ) → link_previous (link_kept c (previous_kept chain n) (next_kept chain n)) ≡ None →
    next_link None (link_kept c (previous_kept chain n) (next_kept chain n)) ≡ link_kept c (previous_kept chain n) (next_kept chain n) →
    link_kept c (previous_kept chain m) (next_kept chain m) ≡ link_kept c (previous_kept chain n) (next_kept chain n)
link-anywhere None chain n m h g = refl
link-anywhere (Some c) chain n m h g = chain-anywhere c chain n m h (ap link_next g)

alone-anywhere : (p : Packed) (n m : ℕ) → IsAlone (unpacked n p) → unpacked m p ≡ unpacked n p
alone-anywhere p n m h = ap (λ (l : Option Link). record (unpacked n p) { link = l }) (link-anywhere (content_of p.shape) p.chain n m h.0 h.1)

pub all-anywhere : (n m : ℕ) (ps : List Packed) → All IsAlone (unpacked_from n ps) → unpacked_from m ps ≡ unpacked_from n ps
all-anywhere n m [] h = refl
all-anywhere n m (p ∷ ps) h =
    ap (λ e. e ∷ unpacked_from (suc m) ps) (alone-anywhere p n m (h 0 (unpacked n p) (omega arith)))
    ∙ ap (λ es. unpacked n p ∷ es) (all-anywhere (suc n) (suc m) ps (λ k d l. h (suc k) d (omega arith)))

-- and where they stand packed
pub plain-anywhere : (ps : List Packed) (es : List Event) (n : ℕ) → all_unpacked ps ≡ es → All IsAlone es → unpacked_from n ps ≡ es
plain-anywhere ps es n h a = from-plain ps n (subst (All IsAlone) (sym h) a) ∙ h
  where
    from-plain : (ps : List Packed) (n : ℕ) → All IsAlone (all_unpacked ps) → unpacked_from n ps ≡ all_unpacked ps
    from-plain [] n a = refl
    from-plain (p ∷ ps) n a =
        ap (λ e. e ∷ unpacked_from (suc n) ps) (alone-anywhere p 0 n (a 0 (unpacked 0 p) (omega arith)))
        ∙ ap (λ es. unpacked 0 p ∷ es) (from-plain ps (suc n) (λ k d l. a (suc k) d (omega arith)))

-- the list with some of its events written over: by others that stand for the same everywhere
unpacked-paste : (ps qs : List Packed) (es : List Event) (at k m : ℕ) → unpacked_from m (take k qs) ≡ es → All IsAlone es → at ≤ length ps →
    length (take k qs) ≡ k → unpacked_from 0 (paste ps at qs k) ≡ paste (unpacked_from 0 ps) at es k
unpacked-paste ps qs es at k m h a l s =
    let front : length (take at ps) ≡ at = omega (arith, length-take at ps) in
    let both = append-first (take at ps ++ take k qs) (drop (at + k) ps) in
    let first = append-first (take at ps) (take k qs) in
    let size : length es ≡ k = sym (length-seen m (take k qs) es h) ∙ s in
    both
    ∙ ap (λ xs. xs ++ unpacked_from (length (take at ps ++ take k qs)) (drop (at + k) ps)) first
    ∙ ap (λ xs. (xs ++ unpacked_from (length (take at ps)) (take k qs)) ++ unpacked_from (length (take at ps ++ take k qs)) (drop (at + k) ps)) (unpacked-take 0 at ps)
    ∙ ap (λ xs. (take at (unpacked_from 0 ps) ++ xs) ++ unpacked_from (length (take at ps ++ take k qs)) (drop (at + k) ps))
    (all-anywhere m (length (take at ps)) (take k qs) (subst (All IsAlone) (sym h) a) ∙ h)
    ∙ ap (λ n. (take at (unpacked_from 0 ps) ++ es) ++ unpacked_from n (drop (at + k) ps)) (omega (arith, front, s, length-append (take at ps) (take k qs)))
    ∙ ap (λ n. (take at (unpacked_from 0 ps) ++ es) ++ unpacked_from n (drop (at + k) ps)) (sym (none-before (at + k)))
    ∙ ap (λ xs. (take at (unpacked_from 0 ps) ++ es) ++ xs) (unpacked-drop 0 (at + k) ps)
    ∙ ap (λ xs. (take at (unpacked_from 0 ps) ++ xs) ++ drop (at + k) (unpacked_from 0 ps)) (sym (take_all k es (omega (arith, size))))

-- the list after a call, from what the call says of the packed ones

pub view-added : (ps qs : List Packed) (es : List Event) (p : Packed) (e : Event) (n : ℕ) → unpacked_from 0 ps ≡ es → n ≡ length ps → unpacked n p ≡ e →
    qs ≡ ps ++ p ∷ [] → unpacked_from 0 qs ≡ es ++ e ∷ []
view-added ps qs es p e n v c u h = grind (arith, append-first)

pub view-truncated : (ps qs : List Packed) (es : List Event) (n : ℕ) → unpacked_from 0 ps ≡ es → qs ≡ take n ps → unpacked_from 0 qs ≡ take n es
view-truncated ps qs es n v h = ap (unpacked_from 0) h ∙ unpacked-take 0 n ps ∙ ap (take n) v

pub view-popped : (ps qs : List Packed) (es : List Event) (p : Packed) (e : Event) (n : ℕ) → unpacked_from 0 ps ≡ es → ps ≡ qs ++ p ∷ [] →
    n ≡ length qs → e ≡ unpacked n p → es ≡ unpacked_from 0 qs ++ e ∷ []
view-popped ps qs es p e n v h c u = sym v ∙ view-added qs ps (unpacked_from 0 qs) p e n refl c (sym u) h

pub view-rest : (ps qs : List Packed) (es : List Event) → unpacked_from 0 ps ≡ es → qs ≡ take (length ps - 1) ps → unpacked_from 0 qs ≡ take (length es - 1) es
view-rest ps qs es v h = view-truncated ps qs es (length ps - 1) v h ∙ ap (λ n. take (n - 1) es) (length-seen 0 ps es v)

pub view-part : (ps qs : List Packed) (es : List Event) (from n m : ℕ) → unpacked_from from ps ≡ es → qs ≡ ps →
    unpacked_from (from + m) (take n (drop m qs)) ≡ take n (drop m es)
view-part ps qs es from n m v h = unpacked-part from n m qs ∙ ap (λ xs. take n (drop m (unpacked_from from xs))) h ∙ ap (λ xs. take n (drop m xs)) v

pub view-lent : (ps qs : List Packed) (es : List Event) (n m : ℕ) → unpacked_from 0 ps ≡ es → qs ≡ ps →
    unpacked_from m (take n (drop m qs)) ≡ take n (drop m es)
view-lent ps qs es n m v h = ap (λ k. unpacked_from k (take n (drop m qs))) (sym (none-before m)) ∙ view-part ps qs es 0 n m v h

pub view-at : (from : ℕ) (ps : List Packed) (es : List Event) (i : ℕ) (d : Packed) (e : Event) → unpacked_from from ps ≡ es →
    i < length ps → unpacked (from + i) (get_or ps i d) ≡ get_or es i e
view-at from ps es i d e v l = unpacked-at from ps i d e l ∙ ap (λ xs. get_or xs i e) v

pub view-first : (ps : List Packed) (es : List Event) (i : ℕ) (p : Packed) (e : Event) → unpacked_from 0 ps ≡ es → p ≡ get_or ps i p →
    i < length ps → unpacked i p ≡ get_or es i e
view-first ps es i p e v h l =
    ap (λ n. unpacked n p) (sym (none-before i)) ∙ ap (unpacked (0 + i)) h ∙ view-at 0 ps es i p e v l

pub view-next : (ps qs : List Packed) (es : List Event) (i : ℕ) (k : Option ℕ) (p q : Packed) → unpacked_from 0 ps ≡ es →
    p ≡ get_or ps i p → ((n : ℕ) → previous_kept q.chain n ≡ previous_kept p.chain n) → next_kept q.chain i ≡ k → q ≡ record p { chain = q.chain } →
    qs ≡ set ps i q → unpacked_from 0 qs ≡ changed_at (with_next k) i es
view-next ps qs es i k p q v h before behind made put = grind (arith, unpacked-set, none-before, packed-next)

pub next-if-near : (next : Option ℕ) (i : ℕ) (b : Bool) → b ≡ is_some next → MatchOption next (Unit {0}) (λ n. n ≡ i + 2) → next_if b i ≡ next
next-if-near None i b h near = ap (λ x. next_if x i) h
next-if-near (Some n) i b h near = ap (λ x. next_if x i) h ∙ ap (λ (x : ℕ). Some x) (sym near)

pub previous-near : (previous i : ℕ) → previous + 2 ≡ i → previous_if true i ≡ Some previous
previous-near previous i near = ap (λ (x : ℕ). Some x) (omega (arith, near))

pub view-previous : (ps qs : List Packed) (es : List Event) (i : ℕ) (k : Option ℕ) (p q : Packed) → unpacked_from 0 ps ≡ es →
    p ≡ get_or ps i p → previous_kept q.chain i ≡ k → ((n : ℕ) → next_kept q.chain n ≡ next_kept p.chain n) → q ≡ record p { chain = q.chain } →
    qs ≡ set ps i q → unpacked_from 0 qs ≡ changed_at (with_previous k) i es
view-previous ps qs es i k p q v h before behind made put = grind (arith, unpacked-set, none-before, packed-previous)

pub view-extended : (ps qs rs : List Packed) (es fs : List Event) (from : ℕ) → unpacked_from 0 ps ≡ es → unpacked_from from qs ≡ fs → All IsAlone fs →
    rs ≡ ps ++ qs → unpacked_from 0 rs ≡ es ++ fs
view-extended ps qs rs es fs from v w a h = grind (arith, append-first, all-anywhere)

pub view-moved : (ps qs : List Packed) (es : List Event) (at from n : ℕ) → unpacked_from 0 ps ≡ es → qs ≡ paste ps at (drop from ps) n →
    from + n ≤ length es → at + n ≤ length es → All IsAlone (take n (drop from es)) → unpacked_from 0 qs ≡ paste es at (drop from es) n
view-moved ps qs es at from n v h within room a =
    let size = length-seen 0 ps es v in
    let part : unpacked_from from (take n (drop from ps)) ≡ take n (drop from es) =
    ap (λ k. unpacked_from k (take n (drop from ps))) (sym (none-before from)) ∙ view-part ps ps es 0 n from v refl in
    let long : length (take n (drop from ps)) ≡ n = omega (arith, size, length-take n (drop from ps), length-drop from ps) in
    ap (unpacked_from 0) h
    ∙ unpacked-paste ps (drop from ps) (take n (drop from es)) at n from part a (omega (arith, size)) long
    ∙ ap (λ xs. paste xs at (take n (drop from es)) n) v
    ∙ ap (λ xs. take at es ++ xs ++ drop (at + n) es) (take-take-le n n (drop from es) (omega arith))

pub length-moved : (ps qs : List Packed) (at from n : ℕ) → qs ≡ paste ps at (drop from ps) n → from + n ≤ length ps → at + n ≤ length ps → length qs ≡ length ps
length-moved ps qs at from n h within room = grind (arith, length-paste, length-drop)

pub length-written : (ps qs rs : List Packed) (at : ℕ) → rs ≡ paste ps at qs (length qs) → at + length qs ≤ length ps → length rs ≡ length ps
length-written ps qs rs at h room = ap length h ∙ length-paste ps at qs (length qs) room (omega arith)

pub view-written : (ps qs rs : List Packed) (es fs : List Event) (at from : ℕ) → unpacked_from 0 ps ≡ es → unpacked_from from qs ≡ fs →
    rs ≡ paste ps at qs (length qs) → at + length fs ≤ length es → All IsAlone fs → unpacked_from 0 rs ≡ paste es at fs (length fs)
view-written ps qs rs es fs at from v w h room a = grind (arith, length-seen, take_all, unpacked-paste, paste)

-- an event that stands alone

link-alone : (c : Option Content) (p n : Option ℕ) → p ≡ None → n ≡ None →
    (link_previous (link_kept c p n) ≡ None) × (next_link None (link_kept c p n) ≡ link_kept c p n)
link-alone None p n h g = (refl, refl)
link-alone (Some c) p n h g = (h, ap (λ (x : Option ℕ). link_kept (Some c) p x) (sym g))

packed-alone : (n : ℕ) (p : Packed) → p.chain ≡ Alone → IsAlone (unpacked n p)
packed-alone n p h = link-alone (content_of p.shape) (previous_kept p.chain n) (next_kept p.chain n) (ap (λ (x : Chain). previous_kept x n) h) (ap (λ (x : Chain). next_kept x n) h)

pub view-alone : (from : ℕ) (ps : List Packed) (es : List Event) (i : ℕ) (d : Packed) (e : Event) → unpacked_from from ps ≡ es →
    i < length ps → (get_or ps i d).chain ≡ Alone → IsAlone (get_or es i e)
view-alone from ps es i d e v l h = subst IsAlone (view-at from ps es i d e v l) (packed-alone (from + i) (get_or ps i d) h)
