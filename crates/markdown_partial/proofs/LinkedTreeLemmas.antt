-- Trees with linked leaves: what their operations leave.
use Rattle.std.proofs.Common.{◌≡◌, ◌≢◌, ℕ, ◌+◌, ◌-◌, Bool, true, false, Option, Some, None, List, [], ◌∷◌, ◌++◌, length, refl, sym, ap, subst, ◌∙◌, arith, append_assoc, append-nil, length-append}
use Rattle.markdown_content.specs.Codes.{Code, stop_of, document_start}
use Rattle.markdown_engine.specs.Operations.{Op, Enter, Exit, ahead, applied, done, scratched}
use Rattle.markdown_engine.specs.PastTree.{past, passed, moved_by, entered_leaf, link_before, last_link, TreeReading, EndsAs}
use Rattle.markdown_content.specs.Place.{exit_point}
use Rattle.markdown_content.specs.Tree.{Forest, empty, leaf_then, group_then, ◌⊕◌, leaf, linked, group, leaf_codes, start_of, enter_of, exit_after}
use Rattle.markdown_event.specs.declared.event.Content.{Content}
use Rattle.markdown_event.specs.declared.event.Name.{Name}
use Rattle.markdown_event.specs.declared.event.Point.{Point}
use Rattle.markdown_engine.specs.declared.tokenizer.TokenizeState.{TokenizeState}
use Rattle.markdown_engine.specs.declared.tokenizer.Tokenizer.{Tokenizer}
use Rattle.markdown_engine.proofs.ReadingSequences.{row-empty}
use Rattle.markdown_engine.proofs.OperationFields.{ahead-applied}
use Rattle.markdown_engine.proofs.SolidTrees.{stop_of-append, stop_of-some, start-append}
use Rattle.markdown_engine.proofs.TreeEvents.{done-consumes, done-append, leaf-past, group-past, past-past, past-empty, ahead-past, solid-start, solid-stop}
use Rattle.markdown_plan.specs.Plan.{DoesAs}
use Rattle.markdown_model.proofs.DefinitionSteps.{read-codes}
use Rattle.markdown_model.proofs.NoLinkInConstructs.{PassesValue, Yields}
use Rattle.markdown_model.proofs.OneLineReadings.{some-join}
use Rattle.markdown_model.proofs.ReadingsCover.{Covers}
use Rattle.markdown_model.specs.Resource.{string_group}
use Rattle.markdown_plan.proofs.PlanSteps.{ahead-scratched}
use Rattle.markdown_partial.specs.LinkedTreeOps.{enter_op, has_content, linked_ops, tree_ops, plan_of, IsLinkedInOrder}

-- One leaf.

entered-by : (linked : Bool) (n : Name) (link : Option Content) (T : Tokenizer) →
    applied (enter_op linked n link) T ≡ entered_leaf n link linked T
entered-by linked n None T = refl
entered-by true n (Some c) T = refl
entered-by false n (Some c) T = refl

leaf-by : (linked : Bool) (n : Name) (link : Option Content) (cs rest : List Code) (T : Tokenizer) → cs ≢ [] →
    ahead T ≡ cs ++ rest →
    applied (Exit n) (passed cs (applied (enter_op linked n link) T)) ≡ past (link_before linked T) (leaf_then n link cs empty) T
leaf-by linked n link [] rest T some e = absurd (some refl)
leaf-by linked n link (c ∷ cs) rest T some e =
    ap (λ (x : Tokenizer). applied (Exit n) (passed (c ∷ cs) x)) (entered-by linked n link T) ∙ leaf-past n link linked c cs rest T e

-- the leaf behind it is linked back to it, where it is linked
next-link : (linked : Bool) (n : Name) (link : Option Content) (cs : List Code) (T U : Tokenizer) →
    (linked ≡ true → has_content link ≡ true) → U ≡ past (link_before linked T) (leaf_then n link cs empty) T →
    link_before (has_content link) U ≡ last_link (length T.events) (link_before linked T) (leaf_then n link cs empty)
unfolding past
next-link true n None cs T U h e = let no : false ≡ true = h refl in cc
next-link false n None cs T U h e = refl
next-link linked n (Some x) cs T U h e =
    let size : length U.events ≡ length T.events + 2 = ap (λ (t : Tokenizer). length t.events) e ∙ length-append T.events _ in
    let number : length U.events - 2 ≡ length T.events = omega (arith, size) in
    ap Some number

-- One group.

group-by : (n : Name) (a b : Point) (inside : Forest) (rest : List Code) (T : Tokenizer) → leaf_codes inside ≢ [] →
    a ≡ start_of (leaf_codes inside) → b ≡ stop_of document_start (leaf_codes inside) →
    ahead T ≡ leaf_codes inside ++ rest →
    applied (Exit n) (past None inside (applied (Enter n) T)) ≡ past None (group_then n a b inside empty) T
group-by n a b inside rest T some f g e =
    group-past n None inside T
    ∙ ap (λ p. past None (group_then n p (exit_point (moved_by (leaf_codes inside) T.cursor)) inside empty) T) (solid-start (leaf_codes inside) rest T some e ∙ sym f)
    ∙ ap (λ p. past None (group_then n a p inside empty) T) (solid-stop (leaf_codes inside) rest T some e ∙ sym g)

-- one tree and then a row
row-then : (previous q : Option ℕ) (t rest : Forest) (T U : Tokenizer) → q ≡ last_link (length T.events) previous t →
    U ≡ past previous t T → past q rest U ≡ past previous (t ⊕ rest) T
row-then previous q t rest T U h e =
    ap (past q rest) e ∙ ap (λ k. past k rest (past previous t T)) h ∙ past-past previous t rest T

-- The operations of a row leave the tokenizer past it, its leaves linked.
pub linked-past : (linked : Bool) (t : Forest) (rest : List Code) (T : Tokenizer) → IsLinkedInOrder linked t →
    ahead T ≡ leaf_codes t ++ rest → done (linked_ops linked t) T ≡ past (link_before linked T) t T
linked-past linked empty rest T s e = sym (past-empty (link_before linked T) T)
linked-past linked (leaf_then n link cs more) rest T s e =
    let here : ahead T ≡ cs ++ (leaf_codes more ++ rest) = e ∙ append_assoc cs (leaf_codes more) rest in
    let E : Tokenizer = applied (enter_op linked n link) T in
    let U : Tokenizer = applied (Exit n) (passed cs E) in
    let t : Forest = leaf_then n link cs empty in
    let is : U ≡ past (link_before linked T) t T = leaf-by linked n link cs (leaf_codes more ++ rest) T s.1.0 here in
    let left : ahead U ≡ leaf_codes more ++ rest = ap ahead is ∙ ahead-past (link_before linked T) t T (leaf_codes more ++ rest) (here ∙ ap (λ xs. xs ++ (leaf_codes more ++ rest)) (sym (append-nil cs))) in
    done-consumes cs (Exit n ∷ linked_ops (has_content link) more) E
    ∙ linked-past (has_content link) more rest U s.1.1 left
    ∙ row-then (link_before linked T) (link_before (has_content link) U) t more T U (next-link linked n link cs T U s.0 is) is
linked-past true (group_then n a b inside more) rest T s e = let no : true ≡ false = s.0 in cc
linked-past false (group_then n a b inside more) rest T s e =
    let here : ahead T ≡ leaf_codes inside ++ (leaf_codes more ++ rest) = e ∙ append_assoc (leaf_codes inside) (leaf_codes more) rest in
    let E : Tokenizer = applied (Enter n) T in
    let inner : done (linked_ops false inside) E ≡ past None inside E = linked-past false inside (leaf_codes more ++ rest) E s.1.1.1.1.0 (ahead-applied (Enter n) T ∙ here) in
    let G : Forest = group_then n a b inside empty in
    let U : Tokenizer = applied (Exit n) (done (linked_ops false inside) E) in
    let is : U ≡ past None G T = ap (applied (Exit n)) inner ∙ group-by n a b inside (leaf_codes more ++ rest) T s.1.0 s.1.1.0 s.1.1.1.0 here in
    let left : ahead U ≡ leaf_codes more ++ rest = ap ahead is ∙ ahead-past None G T (leaf_codes more ++ rest) (here ∙ ap (λ xs. xs ++ (leaf_codes more ++ rest)) (sym (append-nil (leaf_codes inside)))) in
    done-append (linked_ops false inside) (Exit n ∷ linked_ops false more) E
    ∙ linked-past false more rest U s.1.1.1.1.1 left
    ∙ row-then None None G more T U refl is

-- Rows as they are made.

row-enter : (linked : Bool) (t : Forest) → IsLinkedInOrder linked t → enter_of t ≡ start_of (leaf_codes t)
row-enter linked empty s = refl
row-enter linked (leaf_then n link cs more) s = sym (start-append cs (leaf_codes more) s.1.0)
row-enter linked (group_then n a b inside more) s =
    s.1.1.0 ∙ sym (start-append (leaf_codes inside) (leaf_codes more) s.1.0)

row-exit : (linked : Bool) (p : Point) (t : Forest) → IsLinkedInOrder linked t → exit_after p t ≡ stop_of p (leaf_codes t)
row-exit linked p empty s = refl
row-exit linked p (leaf_then n link cs more) s =
    row-exit (has_content link) (stop_of p cs) more s.1.1 ∙ sym (stop_of-append p cs (leaf_codes more))
row-exit linked p (group_then n a b inside more) s =
    row-exit false b more s.1.1.1.1.1
    ∙ ap (λ q. stop_of q (leaf_codes more)) (s.1.1.1.0 ∙ stop_of-some document_start p (leaf_codes inside) s.1.0)
    ∙ sym (stop_of-append p (leaf_codes inside) (leaf_codes more))

-- the tree is such a row, and its leaves cover the codes
abbrev pub CoversRow : Forest → List Code → Type 0
CoversRow t ws = IsLinkedInOrder false t × (leaf_codes t ≡ ws)

row-leaf : (n : Name) (xs ys : List Code) (u : Forest) → CoversRow u ys → CoversRow (leaf n xs ⊕ u) (xs ++ ys)
row-leaf n [] ys u k = k
row-leaf n (x ∷ xs) ys u k = ((λ e. e, (λ e. cc, k.0)), ap (λ zs. x ∷ xs ++ zs) k.1)

pub Row-leaf : (n : Name) (x xs ys : List Code) (u : Forest) → x ≡ xs → CoversRow u ys →
    CoversRow (leaf n x ⊕ u) (xs ++ ys)
Row-leaf n x xs ys u e k = subst (λ zs. CoversRow (leaf n x ⊕ u) (zs ++ ys)) e (row-leaf n x ys u k)

pub Row-last : (n : Name) (x xs : List Code) → x ≡ xs → CoversRow (leaf n x) (xs ++ [])
Row-last n x xs e = subst (λ t. CoversRow t (xs ++ [])) (row-empty (leaf n x)) (Row-leaf n x xs [] empty e (tt, refl))

-- linked leaves
pub Row-linked : (n : Name) (x xs : List Code) → x ≡ xs → CoversRow (linked n x) xs
Row-linked n [] xs e = (tt, e)
Row-linked n (c ∷ cs) xs e = ((λ h. refl, (λ h. cc, tt)), append-nil (c ∷ cs) ∙ e)

pub Row-group : (n : Name) (xs ys : List Code) (t u : Forest) → xs ≢ [] → CoversRow t xs → CoversRow u ys →
    CoversRow (group n t ⊕ u) (xs ++ ys)
Row-group n xs ys t u some k l =
    let filled : leaf_codes t ≢ [] = λ e. some (sym k.1 ∙ e) in (
      (refl, (filled, (row-enter false t k.0, (row-exit false (enter_of t) t k.0 ∙ stop_of-some (enter_of t) document_start (leaf_codes t) filled, (k.0, l.0))))),
      ap (λ zs. zs ++ leaf_codes u) k.1 ∙ ap (λ zs. xs ++ zs) l.1,
    )

-- the group of a text, which may be empty
pub Row-string : (n : Name) (xs ys : List Code) (t u : Forest) → CoversRow t xs → CoversRow u ys →
    CoversRow (string_group n t ⊕ u) (xs ++ ys)
Row-string n xs ys empty u k l = subst (λ zs. CoversRow u (zs ++ ys)) k.1 l
Row-string n xs ys (leaf_then m link cs more) u k l =
    Row-group n xs ys (leaf_then m link cs more) u (λ e. some-join cs (leaf_codes more) k.0.1.0 (k.1 ∙ e)) k l
Row-string n xs ys (group_then m a b inside more) u k l =
    Row-group n xs ys (group_then m a b inside more) u (λ e. some-join (leaf_codes inside) (leaf_codes more) k.0.1.0 (k.1 ∙ e)) k l

-- a group alone
pub Row-whole : (n : Name) (xs : List Code) (t : Forest) → xs ≢ [] → CoversRow t xs → CoversRow (group n t) xs
Row-whole n xs t some k =
    let filled : leaf_codes t ≢ [] = λ e. some (sym k.1 ∙ e) in (
      (refl, (filled, (row-enter false t k.0, (row-exit false (enter_of t) t k.0 ∙ stop_of-some (enter_of t) document_start (leaf_codes t) filled, (k.0, tt))))),
      append-nil (leaf_codes t) ∙ k.1,
    )

-- Whole constructs.

ops-read : (o : Option (Forest × List Code)) (os : List Op) → tree_ops o ≡ Some os →
    (r : Forest × List Code) × ((o ≡ Some r) × (os ≡ linked_ops false r.0))
ops-read None os e = cc
ops-read (Some r) os e = (r, (refl, cc))

none-read : (o : Option (Forest × List Code)) → tree_ops o ≡ None → o ≡ None
none-read None e = refl
none-read (Some r) e = cc

-- a run that does what the tree of a reading asks for ends as the reading
pub record ReadsLinked (r : TreeReading) : Type 0 where
  pub covers : Covers leaf_codes [] r
  pub linked : Yields (IsLinkedInOrder false) r

pub EndsAs-linked : (r : TreeReading) → ReadsLinked r →
    (s : TokenizeState) (T : Tokenizer) (ok : Bool) (U : Tokenizer) → DoesAs 0 (plan_of r) s T ok U →
    EndsAs r None s T ok U
EndsAs-linked r whole s T true U k =
    let x = ops-read (r (ahead T)) k.ops k.holds in
    let codes : ahead T ≡ leaf_codes x.0.0 ++ x.0.1 = read-codes leaf_codes r whole.covers (ahead T) x.0.1 x.0.0 x.1.0 in
    let linked : IsLinkedInOrder false x.0.0 = subst (PassesValue (IsLinkedInOrder false)) x.1.0 (whole.linked.at (ahead T)) in
    let same : ahead (scratched s T) ≡ leaf_codes x.0.0 ++ x.0.1 = ahead-scratched s T ∙ codes in
    let left : U ≡ past None x.0.0 (scratched s T) = k.left ∙ ap (λ os. done os (scratched s T)) x.1.1 ∙ linked-past false x.0.0 x.0.1 (scratched s T) linked same in
    record { tree = x.0.0; rest = x.0.1; holds = x.1.0; left = left; whole = codes; after = ap ahead left ∙ ahead-past None x.0.0 (scratched s T) x.0.1 same }
EndsAs-linked r whole s T false U k =
    record { refused = none-read (r (ahead T)) k.none; fails = record { grown = k.grown; scratch = k.scratch } }
