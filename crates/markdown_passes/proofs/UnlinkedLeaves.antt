-- rows of leaves without links, and the leaves of a data with its literals
use Rattle.std.proofs.Common.{◌≡◌, ℕ, zero, suc, ◌+◌, Bool, true, false, ◌&&◌, ◌||◌, not, Option, Some, None, List, [], ◌∷◌, ◌++◌, length, reverse, refl, ap, ◌∙◌, sym, append_assoc, append-nil}
use Rattle.std.specs.Str.{byte}
use Rattle.std.specs.List.{All, list_any}
use Rattle.std.proofs.lemmas.List.{reverse-append}
use Rattle.std.proofs.lemmas.List.Elements.{All-nil, All-cons}
use Rattle.markdown_engine_events.specs.EventChains.{IsUnlinked}
use Rattle.markdown_content.specs.Codes.{Code, stop_of, document_start}
use Rattle.markdown_engine.specs.PastTree.{appended_from, last_link}
use Rattle.markdown_content.specs.Tree.{Forest, empty, leaf_then, group_then, leaf, ◌⊕◌, event, event_count, start_of}
use Rattle.markdown_event.specs.declared.event.Event.{Event}
use Rattle.markdown_event.specs.declared.event.Kind.{Kind}
use Rattle.markdown_event.specs.declared.event.Name.{Name}
use Rattle.markdown_engine.proofs.TreeEvents.{appended_from-row}
use Rattle.markdown_model.specs.CodeTests.{is_value, is_empty, next_is}
use Rattle.markdown_model.specs.GfmEmailLiteral.{is_local, email_protocol, is_xmpp, email_domain, is_email_domain, email_at, email_leaves, with_emails}
use Rattle.markdown_model.specs.Grammar.{span}

abbrev pub AreUnlinkedLeaves : Forest → Type 0
AreUnlinkedLeaves empty = Unit {0}
AreUnlinkedLeaves (leaf_then name None cs rest) = AreUnlinkedLeaves rest
AreUnlinkedLeaves (leaf_then name (Some c) cs rest) = ⊥
AreUnlinkedLeaves (group_then name a b inside rest) = ⊥

pub plain-leaf : (name : Name) (cs : List Code) → AreUnlinkedLeaves (leaf name cs)
plain-leaf name [] = tt
plain-leaf name (c ∷ cs) = tt

pub plain-row : (t u : Forest) → AreUnlinkedLeaves t → AreUnlinkedLeaves u → AreUnlinkedLeaves (t ⊕ u)
plain-row empty u g h = h
plain-row (leaf_then name None cs rest) u g h = plain-row rest u g h
plain-row (leaf_then name (Some c) cs rest) u g h = absurd g
plain-row (group_then name a b inside rest) u g h = absurd g

-- their events are the same wherever they stand
pub plain-events : (n k : ℕ) (p q : Option ℕ) (t : Forest) → AreUnlinkedLeaves t → appended_from n p t ≡ appended_from k q t
plain-events n k p q empty h = refl
plain-events n k p q (leaf_then name None cs rest) h =
    λ i. event Kind.Enter name (start_of cs) ∷ event Kind.Exit name (stop_of document_start cs) ∷ plain-events (n + 2) (k + 2) p q rest h i
plain-events n k p q (leaf_then name (Some c) cs rest) h = absurd h
plain-events n k p q (group_then name a b inside rest) h = absurd h

pub plain-last : (n : ℕ) (p : Option ℕ) (t : Forest) → AreUnlinkedLeaves t → last_link n p t ≡ p
plain-last n p empty h = refl
plain-last n p (leaf_then name None cs rest) h = plain-last (n + 2) p rest h
plain-last n p (leaf_then name (Some c) cs rest) h = absurd h
plain-last n p (group_then name a b inside rest) h = absurd h

pub plain-unlinked : (n : ℕ) (p : Option ℕ) (t : Forest) → AreUnlinkedLeaves t → All IsUnlinked (appended_from n p t)
plain-unlinked n p empty h = All-nil IsUnlinked
plain-unlinked n p (leaf_then name None cs rest) h =
    let enter : Event = event Kind.Enter name (start_of cs) in
    let exit : Event = event Kind.Exit name (stop_of document_start cs) in
    All-cons IsUnlinked enter (exit ∷ appended_from (n + 2) p rest) refl (All-cons IsUnlinked exit (appended_from (n + 2) p rest) refl (plain-unlinked (n + 2) p rest h))
plain-unlinked n p (leaf_then name (Some c) cs rest) h = absurd h
plain-unlinked n p (group_then name a b inside rest) h = absurd h

-- two rows, the second plain
pub plain-join : (t u : Forest) → AreUnlinkedLeaves u →
    appended_from 0 None (t ⊕ u) ≡ appended_from 0 None t ++ appended_from 0 None u
plain-join t u h =
    appended_from-row 0 None t u ∙ ap (λ es. appended_from 0 None t ++ es) (plain-events (0 + event_count t) 0 (last_link 0 None t) None u h)

-- Literals.

IsPlainFound : Option (List Code × Forest × List Code) → Type 0
IsPlainFound None = Unit {0}
IsPlainFound (Some r) = AreUnlinkedLeaves r.1

found-test : (b : Bool) (xs : List Code) (name : Name) (cs ds : List Code) →
    IsPlainFound (elim b [ true ↦ Some (xs, leaf name cs, ds) | false ↦ None ])
unfolding IsPlainFound
found-test true xs name cs ds = plain-leaf name cs
found-test false xs name cs ds = tt

plain-found : (before : List Code) (c : Code) (cs : List Code) → IsPlainFound (email_at before c cs)
unfolding email_at
plain-found before c cs =
    let local : List Code × List Code = span is_local before in
    let protocol : Name × List Code × List Code = email_protocol local.1 in
    let domain : List Code × List Code = email_domain (is_xmpp protocol.0) cs in
    found-test (is_value (byte "@") c && (not (is_empty local.0) && not (next_is (is_value (byte "/")) local.1)) && is_email_domain domain.0) (reverse protocol.2) protocol.0 (reverse (local.0 ++ protocol.1) ++ c ∷ domain.0) domain.1

by-found : (n : ℕ) (before : List Code) (c : Code) (cs : List Code) (o : Option (List Code × Forest × List Code)) →
    IsPlainFound o → ((xs : List Code) → AreUnlinkedLeaves (email_leaves n [] xs)) → AreUnlinkedLeaves (email_leaves n (c ∷ before) cs) →
    AreUnlinkedLeaves (elim o [ None ↦ email_leaves n (c ∷ before) cs | Some r ↦ leaf Name.Data r.0 ⊕ r.1 ⊕ email_leaves n [] r.2 ])
unfolding IsPlainFound
by-found n before c cs None f g h = h
by-found n before c cs (Some r) f g h =
    plain-row (leaf Name.Data r.0) (r.1 ⊕ email_leaves n [] r.2) (plain-leaf Name.Data r.0) (plain-row r.1 (email_leaves n [] r.2) f (g r.2))

pub plain-leaves : (n : ℕ) (before cs : List Code) → AreUnlinkedLeaves (email_leaves n before cs)
unfolding email_leaves
plain-leaves n before [] = plain-leaf Name.Data (reverse before)
plain-leaves zero before (c ∷ cs) = plain-leaf Name.Data (reverse before ++ c ∷ cs)
plain-leaves (suc n) before (c ∷ cs) =
    by-found n before c cs (email_at before c cs) (plain-found before c cs) (λ xs. plain-leaves n [] xs) (plain-leaves n (c ∷ before) cs)

pub plain-emails : (cs : List Code) → AreUnlinkedLeaves (with_emails cs)
unfolding with_emails
plain-emails cs = plain-leaves (length cs) [] cs

-- Codes without an `@` hold no literal.

unsigned-at : (before : List Code) (c : Code) (cs : List Code) → is_value (byte "@") c ≡ false →
    email_at before c cs ≡ None
unfolding email_at
unsigned-at before c cs h =
    let local : List Code × List Code = span is_local before in
    let protocol : Name × List Code × List Code = email_protocol local.1 in
    let domain : List Code × List Code = email_domain (is_xmpp protocol.0) cs in
    ap (λ b. elim (b && (not (is_empty local.0) && not (next_is (is_value (byte "/")) local.1)) && is_email_domain domain.0) as (λ _. Option (List Code × Forest × List Code)) [
      | true ↦ Some (reverse protocol.2, leaf protocol.0 (reverse (local.0 ++ protocol.1) ++ c ∷ domain.0), domain.1)
      | false ↦ None
    ]) h

unsigned-leaves : (n : ℕ) (before cs : List Code) → list_any (is_value (byte "@")) cs ≡ false →
    email_leaves n before cs ≡ leaf Name.Data (reverse before ++ cs)
unfolding email_leaves
unsigned-leaves n before [] h = ap (leaf Name.Data) (sym (append-nil (reverse before)))
unsigned-leaves zero before (c ∷ cs) h = refl
unsigned-leaves (suc n) before (c ∷ cs) h =
    ap (λ (o : Option (List Code × Forest × List Code)). elim o as (λ _. Forest) [ None ↦ email_leaves n (c ∷ before) cs | Some r ↦ leaf Name.Data r.0 ⊕ r.1 ⊕ email_leaves n [] r.2 ]) (unsigned-at before c cs (first-false (is_value (byte "@") c) (list_any (is_value (byte "@")) cs) h))
    ∙ unsigned-leaves n (c ∷ before) cs (rest-false (is_value (byte "@") c) (list_any (is_value (byte "@")) cs) h)
    ∙ ap (leaf Name.Data) (ap (λ xs. xs ++ cs) (reverse-append (c ∷ []) before) ∙ append_assoc (reverse before) (c ∷ []) cs)
  where
    first-false : (a b : Bool) → a || b ≡ false → a ≡ false
    first-false true b k = cc
    first-false false b k = refl

    rest-false : (a b : Bool) → a || b ≡ false → b ≡ false
    rest-false true b k = cc
    rest-false false b k = k

pub unsigned-emails : (cs : List Code) → list_any (is_value (byte "@")) cs ≡ false → with_emails cs ≡ leaf Name.Data cs
unfolding with_emails
unsigned-emails cs h = unsigned-leaves (length cs) [] cs h
