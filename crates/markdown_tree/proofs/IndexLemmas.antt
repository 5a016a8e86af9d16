-- What an index has for one event.
use Rattle.std.proofs.Common.{◌≡◌, ℕ, zero, suc, ◌+◌, ◌<◌, ◌≤◌, Option, Some, None, IfSome, List, [], ◌∷◌, length, take, drop, get_or, slice_get, refl, sym, ap, ◌∙◌, arith}
use Rattle.markdown_content.specs.Nesting.{outer, opened, open_after, own_enter}
use Rattle.markdown_event.specs.declared.event.Event.{Event}
use Rattle.markdown_event.specs.declared.event.Kind.{Kind}
use Rattle.markdown_event.specs.declared.event.Kind.TheVariants.{Enter, Exit}
use Rattle.std.specs.Option.{option_and_then}
use Rattle.std.proofs.lemmas.List.{length-drop}
use Rattle.std.proofs.lemmas.Option.{option_and_then_some, none-some, slice_get_within}
use Rattle.markdown_tree.specs.Nodes.{closed, exits_ahead, own_exit, if_enter, enter_at, exit_at, parent_at}
use Rattle.markdown_tree.specs.TreeIndex.{parents_from, parents_of, exits_from, exits_of}

pub length-parents : (n : ℕ) (o : List ℕ) (es : List Event) → length (parents_from n o es) ≡ length es
length-parents n o [] = refl
length-parents n o (e ∷ es) = ap suc (length-parents (suc n) (opened n e.kind o) es)

pub length-exits : (n : ℕ) (es : List Event) → length (exits_from n es) ≡ length es
length-exits n [] = refl
length-exits n (e ∷ es) = ap suc (length-exits (suc n) es)

pub get-parents : (n : ℕ) (o : List ℕ) (es : List Event) (i : ℕ) (d : Option ℕ) → i < length es →
    get_or (parents_from n o es) i d ≡ slice_get (open_after n o (take i es)) 0
get-parents n o [] i d l = absurd (omega arith)
get-parents n o (e ∷ es) zero d l = refl
get-parents n o (e ∷ es) (suc i) d l = get-parents (suc n) (opened n e.kind o) es i d (omega arith)

pub get-exits : (n : ℕ) (es : List Event) (i : ℕ) (d : Option ℕ) → i < length es →
    get_or (exits_from n es) i d ≡ slice_get (exits_ahead (n + i + 1) (drop (i + 1) es)) 0
get-exits n [] i d l = absurd (omega arith)
get-exits n (e ∷ es) zero d l = let s : suc n ≡ n + 0 + 1 = omega arith in ap (λ m. slice_get (exits_ahead m es) 0) s
get-exits n (e ∷ es) (suc i) d l =
    let s : suc n + i + 1 ≡ n + suc i + 1 = omega arith in
    let a : i + 1 ≡ suc i = omega arith in
    let b : suc i + 1 ≡ suc (suc i) = omega arith in
    get-exits (suc n) es i d (omega arith)
    ∙ ap (λ m. slice_get (exits_ahead m (drop (i + 1) es)) 0) s
    ∙ ap (λ k. slice_get (exits_ahead (n + suc i + 1) (drop k es)) 0) a
    ∙ ap (λ k. slice_get (exits_ahead (n + suc i + 1) (drop k (e ∷ es))) 0) (sym b)

pub own-enter : (es : List Event) (i : ℕ) (d : Option ℕ) → i < length es → get_or (parents_of es) i d ≡ own_enter es i
own-enter es i d l = get-parents 0 [] es i d l

pub own-exit : (es : List Event) (i : ℕ) (d : Option ℕ) → i < length es → get_or (exits_of es) i d ≡ own_exit es i
own-exit es i d l = grind (arith, get-exits 0 es i d l)

same-number : (x y : ℕ) → Some x ≡ Some y → y ≡ x
same-number x y g = cc

-- a number of an Enter is its own, and that of an event
is-enter : (k : Kind) (i n : ℕ) → if_enter k i ≡ Some n → n ≡ i
is-enter Enter i n h = same-number i n h
is-enter Exit i n h = absurd (none-some n h)

pub enter-own : (es : List Event) (i n : ℕ) → enter_at es i ≡ Some n → n ≡ i
enter-own es i n h = grind (arith, option_and_then_some, is-enter)

pub enter-within : (es : List Event) (i n : ℕ) → enter_at es i ≡ Some n → n < length es
enter-within es i n h = grind (arith, option_and_then_some, slice_get_within, enter-own es i n h)

-- the entry of a node in the index
pub exit-read : (es : List Event) (i n : ℕ) (d : Option ℕ) → enter_at es i ≡ Some n → get_or (exits_of es) n d ≡ exit_at es i
exit-read es i n d h = own-exit es n d (enter-within es i n h) ∙ sym (ap (option_and_then (own_exit es)) h)

pub parent-read : (es : List Event) (i n : ℕ) (d : Option ℕ) → enter_at es i ≡ Some n → get_or (parents_of es) n d ≡ parent_at es i
parent-read es i n d h = own-enter es n d (enter-within es i n h) ∙ sym (ap (option_and_then (own_enter es)) h)

-- no Enter stands behind the events
-- an Exit that is ahead is one of the events
pub past-outer : (o : List ℕ) (d : ℕ) → slice_get (outer o) d ≡ slice_get o (suc d)
past-outer [] d = refl
past-outer (x ∷ o) d = refl

pub ahead-within : (n : ℕ) (es : List Event) (d k : ℕ) → slice_get (exits_ahead n es) d ≡ Some k → (n ≤ k) × (k < n + length es)
ahead-within n [] d k h = absurd (none-some k h)
ahead-within n (e ∷ es) d k h = by-kind e.kind d h (λ c g. ahead-within (suc n) es c k g)
  where
    by-kind : (y : Kind) (d : ℕ) → slice_get (closed n y (exits_ahead (suc n) es)) d ≡ Some k →
        ((c : ℕ) → slice_get (exits_ahead (suc n) es) c ≡ Some k → (suc n ≤ k) × (k < suc n + length es)) → (n ≤ k) × (k < n + suc (length es))
    by-kind y d g rest = grind (arith, past-outer, same-number)

-- a node ends behind its Enter, within the events
pub exit-within : (es : List Event) (i k : ℕ) → exit_at es i ≡ Some k → (i < k) × (k < length es)
exit-within es i k h = grind (arith, option_and_then_some, ahead-within, enter-own, enter-within, length-drop)

pub exit-bounds : (es : List Event) (i : ℕ) (o : Option ℕ) → o ≡ exit_at es i → IfSome o (λ k. (i < k) × (k < length es))
exit-bounds es i None h = tt
exit-bounds es i (Some k) h = exit-within es i k (sym h)
