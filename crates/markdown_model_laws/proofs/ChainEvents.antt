-- The events of a tree with linked leaves in groups of their own: a chain is events that stand one after another.
use Rattle.std.proofs.Common.{◌≡◌, ℕ, zero, suc, ◌+◌, List, [], ◌∷◌, ◌++◌, slice_get, Option, Some, None, option_map, ap, subst, ◌∙◌, arith, append_assoc, append-nil, inl, inr}
use Rattle.markdown_content.specs.Codes.{Code, document_start, stop_of}
use Rattle.markdown_content.specs.Content.{content_of}
use Rattle.markdown_content.specs.Tree.{Forest, empty, leaf_then, group_then, event, event_count, events_from, events_of, next_linked, start_of}
use Rattle.markdown_event.specs.declared.event.Content.{Content}
use Rattle.markdown_event.specs.declared.event.Event.{Event}
use Rattle.markdown_event.specs.declared.event.Kind.{Kind}
use Rattle.markdown_event.specs.declared.event.Link.{Link}
use Rattle.markdown_event.specs.declared.event.Name.{Name}
use Rattle.markdown_event.specs.declared.event.Point.{Point}
use Rattle.markdown_model.specs.InlineTree.{text_tree, string_tree}
use Rattle.markdown_model_laws.specs.UnbrokenChains.{AreUnbroken, ChainsAreUnbroken}
use Rattle.markdown_model_laws.proofs.ChainTrees.{AreLinkedLeaves, HasChains}
use Rattle.markdown_model_laws.proofs.ChainPasses.{trees-have-chains}

-- What stands behind an event with this number and link.

abbrev FirstExits : List Event → Type 0
FirstExits [] = ⊥
FirstExits (x ∷ es) = x.kind ≡ Kind.Exit

record ExitStands (n : ℕ) (l : Link) (es : List Event) : Type 0 where
  exit : FirstExits es
  next : (m : ℕ) → l.next ≡ Some m → m ≡ n + 2

-- of each event, from this number on
abbrev Go : ℕ → List Event → Type 0
Go n [] = Unit {0}
Go n (e ∷ es) = ((l : Link) → e.link ≡ Some l → ExitStands n l es) × Go (n + 1) es

no-link : {A : Type 0} (l : Link) → None ≡ Some l → A
no-link l e = cc

two : (n : ℕ) → n + 2 ≡ n + 1 + 1
two n = omega arith

-- a leaf without a link
plain-leaf : (n : ℕ) (name : Name) (a b : Point) (es : List Event) → Go (n + 2) es →
    Go n (event Kind.Enter name a ∷ event Kind.Exit name b ∷ es)
plain-leaf n name a b es h = ((λ l e. no-link l e), ((λ l e. no-link l e), subst (λ k. Go k es) (two n) h))

-- the first of linked leaves is the next one
first-linked : (n m : ℕ) (t : Forest) → AreLinkedLeaves t → next_linked n t ≡ Some m → m ≡ n
first-linked n m empty h e = cc
first-linked n m (leaf_then name None cs rest) h e = absurd h
first-linked n m (leaf_then name (Some link) cs rest) h e = grind arith
first-linked n m (group_then name a b inside rest) h e = absurd h

linked-leaf : (n : ℕ) (name : Name) (p : Option ℕ) (content : Content) (cs : List Code) (t : Forest) (es : List Event) → AreLinkedLeaves t → Go (n + 2) es →
    Go n (record { kind = Kind.Enter; name = name; point = start_of cs; link = Some (record { previous = p; next = next_linked (n + 2) t; content = content }) } ∷ event Kind.Exit name (stop_of document_start cs) ∷ es)
linked-leaf n name p content cs t es linked h = grind (arith, first-linked, no-link, two)

-- The events of siblings, in front of others.

none : (n : ℕ) → n + 0 ≡ n
none n = omega arith

linked-go : (t : Forest) → AreLinkedLeaves t → (n : ℕ) (p : Option ℕ) (more : List Event) → Go (n + event_count t) more → Go n (events_from n p t ++ more)
linked-go empty h n p more k = subst (λ i. Go i more) (none n) k
linked-go (leaf_then name (Some link) cs rest) h n p more k =
    linked-leaf n name p link cs rest (events_from (n + 2) (Some n) rest ++ more) h.1
    (linked-go rest h.1 (n + 2) (Some n) more (subst (λ i. Go i more) (further n (event_count rest)) k))
  where
    further : (a b : ℕ) → a + (2 + b) ≡ a + 2 + b
    further a b = omega arith
linked-go t h n p more k = absurd h

group-go : (name : Name) (a b : Point) (inner outer : List Event) (n count : ℕ) (more : List Event) → Go (n + 1) (inner ++ (event Kind.Exit name b ∷ (outer ++ more))) →
    Go n ((event Kind.Enter name a ∷ inner ++ event Kind.Exit name b ∷ outer) ++ more)
group-go name a b inner outer n count more h = grind (arith, no-link, append_assoc)

exit-go : (name : Name) (b : Point) (n : ℕ) (es : List Event) → Go (n + 1) es → Go n (event Kind.Exit name b ∷ es)
exit-go name b n es h = ((λ l e. no-link l e), h)

inner-number : (n c : ℕ) → n + 2 + c ≡ n + 1 + c + 1
inner-number n c = omega arith

outer-number : (n c d : ℕ) → n + (2 + c + d) ≡ n + 2 + c + d
outer-number n c d = omega arith

chains-go : (t : Forest) → HasChains t → (n : ℕ) (p : Option ℕ) (more : List Event) → Go (n + event_count t) more → Go n (events_from n p t ++ more)
chains-go empty h n p more k = subst (λ i. Go i more) (none n) k
chains-go (leaf_then name None cs rest) h n p more k =
    plain-leaf n name (start_of cs) (stop_of document_start cs) (events_from (n + 2) p rest ++ more)
    (chains-go rest h.1 (n + 2) p more (subst (λ i. Go i more) (further n (event_count rest)) k))
  where
    further : (a b : ℕ) → a + (2 + b) ≡ a + 2 + b
    further a b = omega arith
chains-go (leaf_then name (Some link) cs rest) h n p more k = let no : Some link ≡ None = h.0 in cc
chains-go (group_then name a b inside rest) (inl h, others) n p more k =
    let c : ℕ = event_count inside in
    let outer : List Event = events_from (n + 2 + c) p rest in
    let behind : Go (n + 2 + c) (outer ++ more) = chains-go rest others (n + 2 + c) p more (subst (λ i. Go i more) (outer-number n c (event_count rest)) k) in
    group-go name a b (events_from (n + 1) None inside) outer n c more
    (chains-go inside h (n + 1) None (event Kind.Exit name b ∷ (outer ++ more)) (exit-go name b (n + 1 + c) (outer ++ more) (subst (λ i. Go i (outer ++ more)) (inner-number n c) behind)))
chains-go (group_then name a b inside rest) (inr h, others) n p more k =
    let c : ℕ = event_count inside in
    let outer : List Event = events_from (n + 2 + c) p rest in
    let behind : Go (n + 2 + c) (outer ++ more) = chains-go rest others (n + 2 + c) p more (subst (λ i. Go i more) (outer-number n c (event_count rest)) k) in
    group-go name a b (events_from (n + 1) None inside) outer n c more
    (linked-go inside h (n + 1) None (event Kind.Exit name b ∷ (outer ++ more)) (exit-go name b (n + 1 + c) (outer ++ more) (subst (λ i. Go i (outer ++ more)) (inner-number n c) behind)))

-- By number.

no-event : (e : Event) → None ≡ Some e → ⊥
no-event e h = cc

same-event : (e f : Event) → Some e ≡ Some f → e ≡ f
same-event e f h = cc

first-exit : (es : List Event) → FirstExits es → option_map (λ (x : Event). x.kind) (slice_get es 0) ≡ Some Kind.Exit
first-exit [] h = absurd h
first-exit (x ∷ es) h = ap Some h

at-number : (es : List Event) (b n : ℕ) (e : Event) (l : Link) → Go b es → slice_get es n ≡ Some e → e.link ≡ Some l →
    (option_map (λ (x : Event). x.kind) (slice_get es (n + 1)) ≡ Some Kind.Exit) × ((m : ℕ) → l.next ≡ Some m → m ≡ b + n + 2)
at-number [] b n e l h k q = absurd (no-event e k)
at-number (f ∷ es) b zero e l h k q = grind (arith, same-event, first-exit)
at-number (f ∷ es) b (suc n) e l h k q = grind (arith, at-number es (b + 1) n e l h.1 k q)

tree-unbroken : (t : Forest) → HasChains t → AreUnbroken (events_of t)
tree-unbroken t h n e l k q =
    let go : Go 0 (events_of t) = subst (Go 0) (append-nil (events_of t)) (chains-go t h 0 None [] tt) in
    let r = at-number (events_of t) 0 n e l go k q in
    record { exit = r.0; next = λ m g. r.1 m g ∙ front n }
  where
    front : (i : ℕ) → 0 + i + 2 ≡ i + 2
    front i = omega arith

pub chains-are-unbroken : ChainsAreUnbroken
chains-are-unbroken s pieces =
    let h = trees-have-chains s (content_of s.bytes pieces) in
    (tree-unbroken (text_tree s (content_of s.bytes pieces)) h.0, tree-unbroken (string_tree s (content_of s.bytes pieces)) h.1)
