-- linking on from the linked content just before
use Rattle.std.proofs.Common.{◌≡◌, ℕ, zero, suc, ◌+◌, ◌-◌, ◌≤◌, ◌&&◌, not, true, List, [], ◌∷◌, ◌++◌, length, Option, Some, None, refl, sym, ap, subst, ◌∙◌, arith, length-append}
use Rattle.markdown_engine_events.specs.EventChains.{chained, IsLinked, previous_at, linked_at, previous_of, has_link, changed_at, with_previous}
use Rattle.markdown_engine.specs.Operations.{ends_linked, link_back}
use Rattle.markdown_event.specs.declared.event.Content.{Content}
use Rattle.markdown_event.specs.declared.event.Event.{Event}
use Rattle.markdown_event.specs.declared.event.Kind.TheVariants as Kind
use Rattle.markdown_event.specs.declared.event.Link.{Link}
use Rattle.markdown_event.specs.declared.event.Name.{Name}
use Rattle.markdown_event.specs.declared.event.Point.{Point}
use Rattle.markdown_engine.proofs.OperationFields.{op_rules}
use Rattle.markdown_event.proofs.AndParts.{and-left, and-right}
use Rattle.markdown_engine_events.proofs.EventChainLemmas.{length-chained, IsLinked-push, IsLinked-connect, ends-last, linked_at-before, linked_at-after, previous_at-before, previous_at-end}

unlinked : (l : Option Link) → not (has_link l) ≡ true → l ≡ None
unlinked None h = refl
unlinked (Some l) h = cc

-- what it says of the last two events
pub record EndsLinked (es : List Event) : Type 0 where
  pub front : ℕ
  pub size : length es ≡ front + 2
  pub enter : linked_at es front ≡ true
  pub exit : previous_at es (front + 1) ≡ None

next : (n : ℕ) → suc n + 1 ≡ suc (n + 1)
next n = omega arith

pub ends-linked : (es : List Event) → ends_linked es ≡ true → EndsLinked es
ends-linked [] h = cc
ends-linked (e ∷ []) h = cc
ends-linked (e ∷ x ∷ []) h =
    record { front = 0; size = refl; enter = and-left _ _ h; exit = ap (λ (l : Option Link). previous_of (record x { link = l })) (unlinked x.link (and-right _ _ h)) }
ends-linked (e ∷ x ∷ y ∷ es) h =
    let r = ends-linked (x ∷ y ∷ es) h in
    record { front = suc r.front; size = omega (arith, r.size); enter = r.enter; exit = ap (previous_at (e ∷ x ∷ y ∷ es)) (next r.front) ∙ r.exit }

changed-last : {A : Type 0} → (f : A → A) (xs : List A) (x : A) (i : ℕ) → i ≡ length xs →
    changed_at f i (xs ++ x ∷ []) ≡ xs ++ f x ∷ []
changed-last f [] x i e = rw e refl
changed-last f (y ∷ ys) x zero e = absurd (omega (arith, e))
changed-last f (y ∷ ys) x (suc i) e = ap (λ zs. y ∷ zs) (changed-last f ys x i (omega (arith, e)))

-- an Enter linked back to the linked content just before keeps the chains
pub connected-linked : (es : List Event) (n : Name) (p : Point) (c : Content) → IsLinked es → ends_linked es ≡ true →
    IsLinked (es ++ record { kind = Kind.Enter; name = n; point = p; link = Some (link_back (Some (length es - 2)) c) } ∷ [])
connected-linked es n p c h e =
    let r = ends-linked es e in
    let fresh : Event = record { kind = Kind.Enter; name = n; point = p; link = Some (link_back None c) } in
    let grown : IsLinked (es ++ fresh ∷ []) = IsLinked-push es fresh h (refl, refl) in
    let size : length (es ++ fresh ∷ []) ≡ r.front + 3 = omega (arith, length-append es (fresh ∷ []), r.size) in
    let end : r.front + 2 ≡ length es = sym r.size in
    let from : linked_at (es ++ fresh ∷ []) r.front ≡ true = linked_at-before es (fresh ∷ []) r.front (omega (arith, r.size)) ∙ r.enter in
    let to : linked_at (es ++ fresh ∷ []) (r.front + 2) ≡ true = ap (linked_at (es ++ fresh ∷ [])) (omega (arith, end)) ∙ linked_at-after es (fresh ∷ []) 0 in
    let one : previous_at (es ++ fresh ∷ []) (r.front + 1) ≡ None = previous_at-before es (fresh ∷ []) (r.front + 1) (omega (arith, r.size)) ∙ r.exit in
    let two : previous_at (es ++ fresh ∷ []) (r.front + 2) ≡ None = ap (previous_at (es ++ fresh ∷ [])) end ∙ previous_at-end es fresh in
    let linked = IsLinked-connect (es ++ fresh ∷ []) r.front (r.front + 2) grown (omega arith) from to (ends-last (es ++ fresh ∷ []) r.front grown size one two) in
    let whole = changed-last (with_previous (Some r.front)) es fresh (r.front + 2) end in
    let number : r.front ≡ length es - 2 = omega (arith, r.size) in
    subst (λ k. IsLinked (es ++ record { kind = Kind.Enter; name = n; point = p; link = Some (link_back (Some k) c) } ∷ [])) number (subst (λ xs. IsLinked xs) whole linked)

pub ends-linked-size : (es : List Event) → ends_linked es ≡ true → 2 ≤ length es
ends-linked-size es h = omega (arith, (ends-linked es h).size)

-- an Enter with a link and an Exit behind any events are linked content just before
pub ends_linked-append : (es : List Event) (a b : Event) →
    ends_linked ((es ++ a ∷ []) ++ b ∷ []) ≡ has_link a.link && not (has_link b.link)
ends_linked-append [] a b = refl
ends_linked-append (e ∷ []) a b = refl
ends_linked-append (e ∷ x ∷ []) a b = ends_linked-append (x ∷ []) a b
ends_linked-append (e ∷ x ∷ y ∷ es) a b = ends_linked-append (x ∷ y ∷ es) a b

pub length-chained-all : (es : List Event) → length (chained es) ≡ length es
length-chained-all es = length-chained 0 es

pub ruleset connect_rules = (connected-linked, ends-linked-size, length-chained-all)

pub ruleset leaf_rules = (op_rules, ends_linked-append)
