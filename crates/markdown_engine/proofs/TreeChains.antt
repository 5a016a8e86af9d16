-- where the links of a tree's events go on to follows from where they go back to
use Rattle.std.proofs.Common.{◌≡◌, ◌≢◌, ℕ, suc, ◌+◌, ◌<◌, ◌≤◌, ◌==◌, false, Option, Some, None, List, [], ◌∷◌, ◌++◌, refl, sym, ap, subst, ◌∙◌, arith, append_assoc, append-nil}
use Rattle.std.proofs.lemmas.Bool.{eq-eqb}
use Rattle.markdown_engine_events.specs.EventChains.{chained, chained_from, follower, is_number}
use Rattle.markdown_content.specs.Codes.{stop_of, document_start}
use Rattle.markdown_engine.specs.PastTree.{appended_from}
use Rattle.markdown_content.specs.Tree.{Forest, empty, leaf_then, group_then, event_count, event, events_from, events_of, next_linked, start_of}
use Rattle.markdown_event.specs.declared.event.Event.{Event}
use Rattle.markdown_event.specs.declared.event.Kind.TheVariants as Kind

-- a number before n, or none
abbrev pub IsBefore : ℕ → Option ℕ → Type 0
IsBefore n None = Unit {0}
IsBefore n (Some q) = q < n

-- none of these events is linked back to event p
abbrev pub NoneNames : ℕ → List Event → Type 0
NoneNames p es = (k : ℕ) → follower p k es ≡ None

abbrev or_else : Option ℕ → Option ℕ → Option ℕ
or_else None b = b
or_else (Some a) b = Some a

or-none : (a : Option ℕ) → or_else a None ≡ a
or-none None = refl
or-none (Some a) = refl

differs : (p q : ℕ) → p ≢ q → (q == p) ≡ false
differs p q h = grind arith

not-named : (p n : ℕ) (previous : Option ℕ) → n ≤ p → IsBefore n previous → is_number p previous ≡ false
not-named p n None h b = refl
not-named p n (Some q) h b = differs p q (λ e. absurd (omega (arith, e)))

step-two : (k m : ℕ) → suc (suc k) + m ≡ k + (2 + m)
step-two k m = omega arith

-- none of a tree's events names an earlier one, but its first linked siblings the one before
follower-other : (p k m : ℕ) (previous : Option ℕ) (t : Forest) (es : List Event) → p < m →
    is_number p previous ≡ false → follower p k (appended_from m previous t ++ es) ≡ follower p (k + event_count t) es
follower-other p k m previous empty es h e = ap (λ j. follower p j es) (omega arith)
follower-other p k m previous (leaf_then name None cs rest) es h e =
    follower-other p (suc (suc k)) (m + 2) previous rest es (omega arith) e ∙ ap (λ j. follower p j es) (step-two k (event_count rest))
follower-other p k m previous (leaf_then name (Some c) cs rest) es h e =
    rw e (follower-other p (suc (suc k)) (m + 2) (Some m) rest es (omega arith) (differs p m (λ x. absurd (omega (arith, x)))) ∙ ap (λ j. follower p j es) (step-two k (event_count rest)))
follower-other p k m previous (group_then name a b inside rest) es h e =
    let after : List Event = event Kind.Exit name b ∷ appended_from (m + 2 + event_count inside) previous rest in
    ap (λ xs. follower p (suc k) xs) (append_assoc (appended_from (m + 1) None inside) after es)
    ∙ follower-other p (suc k) (m + 1) None inside (after ++ es) (omega arith) refl
    ∙ follower-other p (suc (suc k + event_count inside)) (m + 2 + event_count inside) previous rest es (omega arith) e
    ∙ ap (λ j. follower p j es) (omega arith)

follower-next : (p k m : ℕ) (t : Forest) (es : List Event) → p < m →
    follower p k (appended_from m (Some p) t ++ es) ≡ or_else (next_linked k t) (follower p (k + event_count t) es)
follower-next p k m empty es h = ap (λ j. follower p j es) (omega arith)
follower-next p k m (leaf_then name None cs rest) es h =
    follower-next p (suc (suc k)) (m + 2) rest es (omega arith)
    ∙ ap (λ j. or_else (next_linked j rest) (follower p (suc (suc k) + event_count rest) es)) (omega arith)
    ∙ ap (λ j. or_else (next_linked (k + 2) rest) (follower p j es)) (step-two k (event_count rest))
follower-next p k m (leaf_then name (Some c) cs rest) es h = rw (eq-eqb p p refl) refl
follower-next p k m (group_then name a b inside rest) es h =
    let after : List Event = event Kind.Exit name b ∷ appended_from (m + 2 + event_count inside) (Some p) rest in
    ap (λ xs. follower p (suc k) xs) (append_assoc (appended_from (m + 1) None inside) after es)
    ∙ follower-other p (suc k) (m + 1) None inside (after ++ es) (omega arith) refl
    ∙ follower-next p (suc (suc k + event_count inside)) (m + 2 + event_count inside) rest es (omega arith)
    ∙ ap (λ j. or_else (next_linked j rest) (follower p (suc (suc k + event_count inside) + event_count rest) es)) (omega arith)
    ∙ ap (λ j. or_else (next_linked (k + 2 + event_count inside) rest) (follower p j es)) (omega arith)

before-more : (n k : ℕ) (q : Option ℕ) → IsBefore n q → IsBefore (n + k) q
before-more n k None b = tt
before-more n k (Some q) b = omega arith

-- what a tree appends, seen with the links on, where no later event is linked back to one of it
pub chained-tree : (n : ℕ) (previous : Option ℕ) (t : Forest) (es : List Event) → IsBefore n previous →
    ((p : ℕ) → n ≤ p → p < n + event_count t → NoneNames p es) →
    chained_from n (appended_from n previous t ++ es) ≡ events_from n previous t ++ chained_from (n + event_count t) es
chained-tree n previous empty es b h = ap (λ k. chained_from k es) (omega arith)
chained-tree n previous (leaf_then name None cs rest) es b h =
    ap (λ xs. event Kind.Enter name (start_of cs) ∷ event Kind.Exit name (stop_of document_start cs) ∷ xs)
    (ap (λ k. chained_from k (appended_from (n + 2) previous rest ++ es)) (omega arith)
    ∙ chained-tree (n + 2) previous rest es (before-more n 2 previous b) (λ p low high. h p (omega arith) (omega arith))
    ∙ ap (λ k. events_from (n + 2) previous rest ++ chained_from k es) (omega arith))
chained-tree n previous (leaf_then name (Some c) cs rest) es b h =
    let none : follower n (suc (suc n) + event_count rest) es ≡ None = h n (omega arith) (omega arith) _ in
    let next : follower n (suc (suc n)) (appended_from (n + 2) (Some n) rest ++ es) ≡ next_linked (n + 2) rest =
    follower-next n (suc (suc n)) (n + 2) rest es (omega arith)
    ∙ ap (or_else (next_linked (suc (suc n)) rest)) none
    ∙ or-none (next_linked (suc (suc n)) rest)
    ∙ ap (λ k. next_linked k rest) (omega arith) in
    let tail : chained_from (suc (suc n)) (appended_from (n + 2) (Some n) rest ++ es) ≡ events_from (n + 2) (Some n) rest ++ chained_from (n + (2 + event_count rest)) es =
    ap (λ k. chained_from k (appended_from (n + 2) (Some n) rest ++ es)) (omega arith)
    ∙ chained-tree (n + 2) (Some n) rest es (omega arith) (λ p low high. h p (omega arith) (omega arith))
    ∙ ap (λ k. events_from (n + 2) (Some n) rest ++ chained_from k es) (omega arith) in
    ap (λ k. record { kind = Kind.Enter; name = name; point = start_of cs; link = Some (record { previous = previous; next = k; content = c }) } ∷ event Kind.Exit name (stop_of document_start cs) ∷ chained_from (suc (suc n)) (appended_from (n + 2) (Some n) rest ++ es)) next
    ∙ ap (λ xs. record { kind = Kind.Enter; name = name; point = start_of cs; link = Some (record { previous = previous; next = next_linked (n + 2) rest; content = c }) } ∷ event Kind.Exit name (stop_of document_start cs) ∷ xs) tail
chained-tree n previous (group_then name a b inside rest) es before h =
    let m : ℕ = n + 2 + event_count inside in
    let after : List Event = event Kind.Exit name b ∷ appended_from m previous rest in
    let unnamed : (p : ℕ) → n + 1 ≤ p → p < n + 1 + event_count inside → NoneNames p (after ++ es) =
    λ p low high k. follower-other p (suc k) m previous rest es (omega arith) (not-named p n previous (omega arith) before) ∙ h p (omega arith) (omega arith) _ in
    let inner : chained_from (suc n) (appended_from (n + 1) None inside ++ (after ++ es)) ≡ events_from (n + 1) None inside ++ chained_from (n + 1 + event_count inside) (after ++ es) =
    ap (λ k. chained_from k (appended_from (n + 1) None inside ++ (after ++ es))) (omega arith) ∙ chained-tree (n + 1) None inside (after ++ es) tt unnamed in
    let within : IsBefore m previous = subst (λ k. IsBefore k previous) (omega arith) (before-more n (2 + event_count inside) previous before) in
    let tail : chained_from (suc (n + 1 + event_count inside)) (appended_from m previous rest ++ es) ≡ events_from m previous rest ++ chained_from (n + (2 + event_count inside + event_count rest)) es =
    ap (λ k. chained_from k (appended_from m previous rest ++ es)) (omega arith)
    ∙ chained-tree m previous rest es within (λ p low high. h p (omega arith) (omega arith))
    ∙ ap (λ k. events_from m previous rest ++ chained_from k es) (omega arith) in
    ap (λ xs. event Kind.Enter name a ∷ chained_from (suc n) xs) (append_assoc (appended_from (n + 1) None inside) after es)
    ∙ ap (λ xs. event Kind.Enter name a ∷ xs) (inner ∙ ap (λ xs. events_from (n + 1) None inside ++ event Kind.Exit name b ∷ xs) tail ∙ sym (append_assoc (events_from (n + 1) None inside) (event Kind.Exit name b ∷ events_from m previous rest) (chained_from (n + (2 + event_count inside + event_count rest)) es)))

-- the events of a whole tree
pub chained-whole : (t : Forest) → chained (appended_from 0 None t) ≡ events_of t
chained-whole t =
    ap chained (sym (append-nil (appended_from 0 None t)))
    ∙ chained-tree 0 None t [] tt (λ p low high k. refl)
    ∙ append-nil (events_of t)
