-- The events of a run's tokens are those of its marker, place and sizes.
use Rattle.std.proofs.Common.{◌≡◌, ℕ, zero, suc, ◌+◌, ◌-◌, ◌<◌, ◌≤◌, List, ◌∷◌, ◌++◌, length, take, drop, reverse, refl, sym, ap, subst, ◌∙◌, arith, sum_by, []}
use Rattle.markdown_attention.proofs.BracketAppends.{shift-shift}
use Rattle.std.proofs.lemmas.List.{length-take-le, length-drop}
use Rattle.markdown_content.specs.Codes.{Code, stop_of, document_start}
use Rattle.markdown_content.specs.Tree.{start_of, event}
use Rattle.markdown_event.specs.declared.event.Kind.TheVariants as Kind
use Rattle.markdown_event.specs.declared.event.Name.{Name}
use Rattle.markdown_event.specs.declared.event.Point.{Point}
use Rattle.markdown_model.specs.BracketGroups.{cut_front, pair_names}
use Rattle.markdown_attention.specs.RunEvents.{shifted, total, closing_at, opening_at, closings_from, openings_from, data_at, marker_events, IsStripe, AreSome}
use Rattle.markdown_attention.specs.TokenWord.{names_of, closed_events, opened_events, closed_all, opened_all, left_over, cut_events, sized_events, HasMarker}

pub shift-none : (p : Point) → shifted p 0 ≡ p
shift-none p = grind arith

pub shift-same : (p : Point) (a b : ℕ) → a ≡ b → shifted p a ≡ shifted p b
shift-same p a b e = ap (shifted p) e

pub stripe-marker : (m : ℕ) (p : Point) (cs : List Code) → IsStripe m p cs → HasMarker m cs
stripe-marker m p [] h = tt
stripe-marker m p (c ∷ cs) h = (h.0, stripe-marker m (shifted p 1) cs h.1.1.1)

stripe-at : (m : ℕ) (p q : Point) (cs : List Code) → p ≡ q → IsStripe m p cs → IsStripe m q cs
stripe-at m p q cs e h = subst (λ (x : Point). IsStripe m x cs) e h

stripe-drop : (k m : ℕ) (p : Point) (cs : List Code) → k ≤ length cs → IsStripe m p cs →
    IsStripe m (shifted p k) (drop k cs)
stripe-drop zero m p cs l h = stripe-at m p (shifted p 0) cs (sym (shift-none p)) h
stripe-drop (suc k) m p [] l h = tt
stripe-drop (suc k) m p (c ∷ cs) l h =
    stripe-at m (shifted (shifted p 1) k) (shifted p (suc k)) (drop k cs) (shift-shift p 1 k ∙ shift-same p (1 + k) (suc k) (omega arith)) (stripe-drop k m (shifted p 1) cs (omega (arith, l)) h.1.1.1)

stripe-take : (k m : ℕ) (p : Point) (cs : List Code) → IsStripe m p cs → IsStripe m p (take k cs)
stripe-take zero m p cs h = tt
stripe-take (suc k) m p [] h = tt
stripe-take (suc k) m p (c ∷ cs) h = (h.0, (h.1.0, (h.1.1.0, stripe-take k m (shifted p 1) cs h.1.1.1)))

pub stripe-stop : (m : ℕ) (p q : Point) (cs : List Code) → IsStripe m p cs → q ≡ p →
    stop_of q cs ≡ shifted p (length cs)
stripe-stop m p q [] h e = e ∙ sym (shift-none p)
stripe-stop m p q (c ∷ cs) h e =
    stripe-stop m (shifted p 1) c.stop cs h.1.1.1 h.1.1.0 ∙ shift-shift p 1 (length cs) ∙ shift-same p (1 + length cs) (suc (length cs)) (omega arith)

-- a bracket over a stripe

-- what a stripe of k codes shows
record Bracket (m : ℕ) (p : Point) (k : ℕ) (cs : List Code) : Type 0 where
  names : names_of cs ≡ pair_names m k
  from : start_of cs ≡ p
  to : stop_of document_start cs ≡ shifted p k

bracket : (m : ℕ) (p : Point) (k : ℕ) (cs : List Code) → IsStripe m p cs → length cs ≡ k → 0 < k → Bracket m p k cs
unfolding names_of
bracket m p k [] h l o = absurd (omega (arith, l, o))
bracket m p k (c ∷ cs) h l o = grind (arith, stripe-stop, shift-shift, shift-same)

closing-is : (m : ℕ) (p : Point) (k : ℕ) (cs : List Code) → Bracket m p k cs → closed_events cs ≡ closing_at m p k
closing-is m p k cs b =
    λ i. event Kind.Exit (b.names i).2 (b.from i) ∷ event Kind.Enter (b.names i).1 (b.from i) ∷ event Kind.Exit (b.names i).1 (b.to i) ∷ event Kind.Exit (b.names i).0 (b.to i) ∷ []

opening-is : (m : ℕ) (p : Point) (k : ℕ) (cs : List Code) → Bracket m p k cs → opened_events cs ≡ opening_at m p k
opening-is m p k cs b =
    λ i. event Kind.Enter (b.names i).0 (b.from i) ∷ event Kind.Enter (b.names i).1 (b.from i) ∷ event Kind.Exit (b.names i).1 (b.to i) ∷ event Kind.Enter (b.names i).2 (b.to i) ∷ []

-- brackets cut from a stripe, and what is left of it

closings-are : (ks : List ℕ) (m : ℕ) (p : Point) (cs : List Code) → AreSome ks → total ks ≤ length cs →
    IsStripe m p cs → closed_all (cut_front ks cs).0 ≡ closings_from m p ks
closings-are [] m p cs a l h = refl
closings-are (k ∷ ks) m p cs a l h =
    let here : k ≤ length cs = omega (arith, l) in
    let d = length-drop k cs in
    let b : Bracket m p k (take k cs) = bracket m p k (take k cs) (stripe-take k m p cs h) (length-take-le k cs here) a.0 in
    λ i. closing-is m p k (take k cs) b i ++ closings-are ks m (shifted p k) (drop k cs) a.1 (omega (arith, l, d)) (stripe-drop k m p cs here h) i

openings-are : (ks : List ℕ) (m : ℕ) (p : Point) (cs : List Code) → AreSome ks → total ks ≤ length cs →
    IsStripe m p cs → opened_all (cut_front ks cs).0 ≡ openings_from m p ks
openings-are [] m p cs a l h = refl
openings-are (k ∷ ks) m p cs a l h =
    let here : k ≤ length cs = omega (arith, l) in
    let d = length-drop k cs in
    let b : Bracket m p k (take k cs) = bracket m p k (take k cs) (stripe-take k m p cs h) (length-take-le k cs here) a.0 in
    λ i. opening-is m p k (take k cs) b i ++ openings-are ks m (shifted p k) (drop k cs) a.1 (omega (arith, l, d)) (stripe-drop k m p cs here h) i

rest-stripe : (ks : List ℕ) (m : ℕ) (p : Point) (cs : List Code) → total ks ≤ length cs → IsStripe m p cs →
    IsStripe m (shifted p (total ks)) (cut_front ks cs).1
rest-stripe [] m p cs l h = stripe-at m p (shifted p 0) cs (sym (shift-none p)) h
rest-stripe (k ∷ ks) m p cs l h =
    let d = length-drop k cs in
    stripe-at m (shifted (shifted p k) (total ks)) (shifted p (k + total ks)) (cut_front ks (drop k cs)).1 (shift-shift p k (total ks)) (rest-stripe ks m (shifted p k) (drop k cs) (omega (arith, l, d)) (stripe-drop k m p cs (omega (arith, l)) h))

rest-length : (ks : List ℕ) (cs : List Code) → total ks ≤ length cs → length (cut_front ks cs).1 ≡ length cs - total ks
rest-length [] cs l = omega arith
rest-length (k ∷ ks) cs l =
    let d = length-drop k cs in let r = rest-length ks (drop k cs) (omega (arith, l, d)) in omega (arith, l, d, r)

data-is : (m : ℕ) (p : Point) (k : ℕ) (cs : List Code) → IsStripe m p cs → length cs ≡ k → left_over cs ≡ data_at p k
data-is m p zero [] h l = refl
data-is m p zero (c ∷ cs) h l = absurd (omega (arith, l))
data-is m p (suc k) [] h l = absurd (omega (arith, l))
data-is m p (suc k) (c ∷ cs) h l =
    let to : stop_of c.stop cs ≡ shifted p (suc k) = stripe-stop m (shifted p 1) c.stop cs h.1.1.1 h.1.1.0 ∙ shift-shift p 1 (length cs) ∙ shift-same p (1 + length cs) (suc k) (omega (arith, l)) in
    λ i. event Kind.Enter Name.Data (h.1.0 i) ∷ event Kind.Exit Name.Data (to i) ∷ []

-- `cut` says where the rest is cut
pub stripe-events : (m : ℕ) (p : Point) (fronts backs : List ℕ) (kept : ℕ) (cs : List Code) → IsStripe m p cs → AreSome fronts → AreSome (reverse backs) → total fronts + kept + total (reverse backs) ≡ length cs → sum_by (λ n. n) (reverse backs) ≡ total (reverse backs)
    → sized_events fronts backs cs ≡ marker_events m p fronts kept backs
unfolding marker_events
stripe-events m p fronts backs kept cs h a b e sum =
    let front : List (List Code) × List Code = cut_front fronts cs in
    let sizes : List ℕ = reverse backs in
    let most : total fronts ≤ length cs = omega (arith, e) in
    let long : length front.1 ≡ length cs - total fronts = rest-length fronts cs most in
    let same : length front.1 - sum_by (λ n. n) sizes ≡ kept = omega (arith, e, long, sum) in
    let rest : IsStripe m (shifted p (total fronts)) front.1 = rest-stripe fronts m p cs most h in
    let here : kept ≤ length front.1 = omega (arith, e, long) in
    let d = length-drop kept front.1 in
    let back : IsStripe m (shifted p (total fronts + kept)) (drop kept front.1) =
    stripe-at m (shifted (shifted p (total fronts)) kept) (shifted p (total fronts + kept)) (drop kept front.1) (shift-shift p (total fronts) kept) (stripe-drop kept m (shifted p (total fronts)) front.1 here rest) in
    ap (λ j. cut_events front.0 (take j front.1) (cut_front sizes (drop j front.1)).0) same
    ∙ (λ i. closings-are fronts m p cs a most h i
    ++ (data-is m (shifted p (total fronts)) kept (take kept front.1) (stripe-take kept m (shifted p (total fronts)) front.1 rest) (length-take-le kept front.1 here) i
    ++ openings-are sizes m (shifted p (total fronts + kept)) (drop kept front.1) b (omega (arith, e, long, d)) back i))
