-- The places of trees: wherever the codes that a tree of labels covers stand one after another, so do the places of its groups among them.
use Rattle.std.proofs.Common.{◌≡◌, ◌==◌, Bool, true, false, ◌&&◌, not, List, [], ◌∷◌, ◌++◌, length, drop, refl, sym, ap, subst, ◌∙◌, append_assoc, append-nil, None, arith}
use Rattle.std.proofs.lemmas.Bool.{and_parts, eqb-true, not-true}
use Rattle.markdown_content.specs.Codes.{Code, stop_of, document_start, place_of}
use Rattle.markdown_content.specs.Tree.{Forest, empty, leaf_then, group_then, leaf, group, text_group, ◌⊕◌, start_of, enter_of, exit_after, leaf_codes}
use Rattle.markdown_event.specs.declared.event.Name.{Name}
use Rattle.markdown_event.specs.declared.event.Point.{Point}
use Rattle.markdown_content.specs.declared.label_kind.LabelKind.{LabelKind}
use Rattle.markdown_content.proofs.TreeCodes.{leaf_codes-row}
use Rattle.markdown_model.specs.CodeTests.{is_empty}
use Rattle.markdown_model.specs.LabelEnd.{Element}
use Rattle.markdown_model.specs.Passes.{start_marker, start_tree, label_name, label_group, labels_of, is_nothing}
use Rattle.markdown_model.proofs.LeafCodes.{codes-leaf}
use Rattle.markdown_model_laws.specs.EmailsInData.{is_email}
use Rattle.markdown_model_laws.proofs.AfterLabelTrees.{IsSome}
use Rattle.markdown_model_laws.proofs.MadeConstructs.{IsMadeTree, is_at, is_single, reaches, made}
use Rattle.markdown_model_laws.proofs.MadeElements.{AllGood, IsMadeElement}
use Rattle.markdown_model.proofs.LabelTreeFacts.{labels-have}
use Rattle.markdown_model_laws.proofs.PlacesInOrder.{BytePlace, last_of, last-join, Allows, allows-itself, allows-then, allows-join, allows-behind, allows-same, allows-around, allows-between}

-- where each code begins and ends
abbrev pub ends_of : List Code → List BytePlace
ends_of [] = []
ends_of (c ∷ cs) = place_of c.start ∷ place_of c.stop ∷ ends_of cs

pub ends-join : (xs ys : List Code) → ends_of (xs ++ ys) ≡ ends_of xs ++ ends_of ys
ends-join [] ys = refl
ends-join (c ∷ cs) ys = ap (λ x. place_of c.start ∷ place_of c.stop ∷ x) (ends-join cs ys)

pub ends-last : (p : Point) (cs : List Code) → last_of (place_of p) (ends_of cs) ≡ place_of (stop_of p cs)
ends-last p [] = refl
ends-last p (c ∷ cs) = ends-last c.stop cs

-- where each code and each group of a tree begins and ends
abbrev pub places_of : Forest → List BytePlace
places_of empty = []
places_of (leaf_then name link cs rest) = ends_of cs ++ places_of rest
places_of (group_then name enter exit inside rest) =
    place_of enter ∷ (places_of inside ++ (place_of exit ∷ places_of rest))

pub places-join : (a b : Forest) → places_of (a ⊕ b) ≡ places_of a ++ places_of b
places-join empty b = refl
places-join (leaf_then name link cs rest) b = grind (arith, places-join rest b, append_assoc)
places-join (group_then name enter exit inside rest) b = grind (arith, places-join rest b, append_assoc)

pub places-leaf : (name : Name) (cs : List Code) → places_of (leaf name cs) ≡ ends_of cs
places-leaf name [] = refl
places-leaf name (c ∷ cs) = append-nil (ends_of (c ∷ cs))

-- a tree ends at the last of its places
pub places-last : (p : Point) (f : Forest) → last_of (place_of p) (places_of f) ≡ place_of (exit_after p f)
places-last p empty = refl
places-last p (leaf_then name link cs rest) = grind (arith, last-join, ends-last, places-last (stop_of p cs) rest)
places-last p (group_then name enter exit inside rest) = grind (arith, last-join, places-last exit rest)

-- and begins at the first
pub record BeginsAtItsEnter (f : Forest) : Type 0 where
  pub more : List BytePlace
  pub places : places_of f ≡ place_of (enter_of f) ∷ more

begins-made : (texts : Bool) (f : Forest) → made texts f ≡ true → is_nothing f ≡ false → BeginsAtItsEnter f
begins-made texts (leaf_then name link (c ∷ cs) rest) h k =
    record { more = place_of c.stop ∷ (ends_of cs ++ places_of rest); places = refl }
begins-made texts (group_then name enter exit inside rest) h k =
    record { more = places_of inside ++ (place_of exit ∷ places_of rest); places = refl }
begins-made texts f h k = cc

-- Wherever the codes go on, all places do.

abbrev pub IsFit : Forest → Type 0
IsFit f = Allows (ends_of (leaf_codes f)) (places_of f)

pub fit-join : (a b : Forest) → IsFit a → IsFit b → IsFit (a ⊕ b)
fit-join a b h k = grind (arith, leaf_codes-row a b, ends-join (leaf_codes a) (leaf_codes b), places-join a b, allows-join (ends_of (leaf_codes a)) (places_of a) (ends_of (leaf_codes b)) (places_of b) h k)

pub fit-leaf : (name : Name) (cs : List Code) → IsFit (leaf name cs)
fit-leaf name cs = grind (arith, allows-same, codes-leaf, places-leaf)

-- the places of a group that reaches from the first place inside to the last
pub places-around : (f : Forest) (enter exit : Point) → BeginsAtItsEnter f → place_of enter ≡ place_of (enter_of f) →
    place_of exit ≡ place_of (exit_after (enter_of f) f)
    → Allows (places_of f) (place_of enter ∷ (places_of f ++ (place_of exit ∷ [])))
places-around f enter exit b h k = grind (arith, allows-around (place_of (enter_of f)) b.more, places-last (enter_of f) f)

fit-group_then : (name : Name) (enter exit : Point) (f : Forest) → BeginsAtItsEnter f → place_of enter ≡ place_of (enter_of f) → place_of exit ≡ place_of (exit_after (enter_of f) f) → IsFit f
    → IsFit (group_then name enter exit f empty)
fit-group_then name enter exit f b h k g =
    subst (λ x. Allows (ends_of x) (place_of enter ∷ (places_of f ++ (place_of exit ∷ [])))) (sym (append-nil (leaf_codes f)))
    (allows-then (ends_of (leaf_codes f)) (places_of f) (place_of enter ∷ (places_of f ++ (place_of exit ∷ []))) g (places-around f enter exit b h k))

pub fit-group : (name : Name) (f : Forest) → BeginsAtItsEnter f → IsFit f → IsFit (group name f)
fit-group name f b g = fit-group_then name (enter_of f) (exit_after (enter_of f) f) f b refl refl g

same-place : (p q : Point) → is_at p q ≡ true → place_of p ≡ place_of q
same-place p q h = grind (arith, and_parts (p.index == q.index) (p.vs == q.vs) h, eqb-true)

-- what constructs make is so
pub fit-made : (f : Forest) → IsMadeTree f → IsFit f
fit-made empty h = allows-itself []
fit-made (leaf_then name link cs rest) h =
    let p = and_parts (not (is_empty cs)) (not (is_email name) && made false rest) h in
    let q = and_parts (not (is_email name)) (made false rest) p.1 in
    subst (λ x. Allows x (ends_of cs ++ places_of rest)) (sym (ends-join cs (leaf_codes rest))) (allows-behind (ends_of cs) (ends_of (leaf_codes rest)) (places_of rest) (fit-made rest q.1))
fit-made (group_then name enter exit inside rest) h =
    let p = and_parts (reaches enter exit inside) (is_single name inside && (made false inside && made false rest)) h in
    let q = and_parts (is_single name inside) (made false inside && made false rest) p.1 in
    let r = and_parts (made false inside) (made false rest) q.1 in
    let a = and_parts (not (is_nothing inside)) (is_at enter (enter_of inside) && is_at exit (exit_after (enter_of inside) inside)) p.0 in
    let b = and_parts (is_at enter (enter_of inside)) (is_at exit (exit_after (enter_of inside) inside)) a.1 in
    fit-join (group_then name enter exit inside empty) rest
    (fit-group_then name enter exit inside (begins-made false inside r.0 (not-true (is_nothing inside) a.0)) (same-place enter (enter_of inside) b.0) (same-place exit (exit_after (enter_of inside) inside) b.1) (fit-made inside r.0))
    (fit-made rest r.1)

-- A text between two markers: it begins where the first ends, and ends where the second begins.

pub record EndsAtPoint (f : Forest) (p : Point) : Type 0 where
  pub first : BytePlace
  pub more : List BytePlace
  pub places : places_of f ≡ first ∷ more
  pub last : last_of first more ≡ place_of p

pub places-between : (name : Name) (a : Forest) (enter exit : Point) (inside b : Forest) → EndsAtPoint a enter → BeginsAtItsEnter b → enter_of b ≡ exit
    → Allows (places_of a ++ (places_of inside ++ places_of b)) (places_of (a ⊕ (text_group name enter exit inside ⊕ b)))
places-between name a enter exit inside b x y e = grind (arith, allows-between, places-join)

fit-between : (name : Name) (a : Forest) (enter exit : Point) (inside b : Forest) → EndsAtPoint a enter → BeginsAtItsEnter b → enter_of b ≡ exit → IsFit a → IsFit inside → IsFit b
    → IsFit (a ⊕ (text_group name enter exit inside ⊕ b))
fit-between name a enter exit inside b x y e f g h = grind (arith, allows-then, allows-join, places-between, leaf_codes-row, ends-join)

-- Labels.

exit-leaf : (p : Point) (name : Name) (cs : List Code) → exit_after p (leaf name cs) ≡ stop_of p cs
exit-leaf p name [] = refl
exit-leaf p name (c ∷ cs) = refl

group-ends : (name : Name) (f : Forest) (p : Point) → exit_after (enter_of f) f ≡ p → EndsAtPoint (group name f) p
group-ends name f p e = record {
  first = place_of (enter_of f);
  more = places_of f ++ (place_of (exit_after (enter_of f) f) ∷ []);
  places = refl;
  last = last-join (place_of (enter_of f)) (places_of f) (place_of (exit_after (enter_of f) f) ∷ []) ∙ ap place_of e;
}

start-ends : (kind : LabelKind) (cs : List Code) → IsSome cs → EndsAtPoint (start_tree kind cs) (stop_of document_start cs)
start-ends kind cs h0 = grind (arith, group-ends, exit-leaf)

pub begins-leaf : (name : Name) (c : Code) (cs : List Code) (f : Forest) → BeginsAtItsEnter (leaf_then name None (c ∷ cs) f)
begins-leaf name c cs f = record { more = place_of c.stop ∷ (ends_of cs ++ places_of f); places = refl }

fit-start : (kind : LabelKind) (cs : List Code) → IsSome cs → IsFit (start_tree kind cs)
fit-start kind [] h = cc
fit-start LabelKind.Image (c ∷ cs) h =
    fit-group Name.LabelImage (leaf_then Name.LabelImageMarker None (c ∷ []) (leaf Name.LabelMarker cs)) (begins-leaf Name.LabelImageMarker c [] (leaf Name.LabelMarker cs))
    (fit-join (leaf Name.LabelImageMarker (c ∷ [])) (leaf Name.LabelMarker cs) (fit-leaf Name.LabelImageMarker (c ∷ [])) (fit-leaf Name.LabelMarker cs))
fit-start LabelKind.GfmFootnote (c ∷ cs) h =
    fit-group Name.GfmFootnoteCallLabel (leaf_then Name.LabelMarker None (c ∷ []) (leaf Name.GfmFootnoteCallMarker cs)) (begins-leaf Name.LabelMarker c [] (leaf Name.GfmFootnoteCallMarker cs))
    (fit-join (leaf Name.LabelMarker (c ∷ [])) (leaf Name.GfmFootnoteCallMarker cs) (fit-leaf Name.LabelMarker (c ∷ [])) (fit-leaf Name.GfmFootnoteCallMarker cs))
fit-start kind (c ∷ cs) h =
    fit-group Name.LabelLink (leaf Name.LabelMarker (c ∷ cs)) (begins-leaf Name.LabelMarker c cs empty) (fit-leaf Name.LabelMarker (c ∷ cs))

front-some : (kind : LabelKind) (cs : List Code) → IsSome cs → IsSome (start_marker kind cs)
front-some kind cs h0 = grind arith

fit-end : (back : List Code) → IsSome back → IsFit (group Name.LabelEnd (leaf Name.LabelMarker back))
fit-end [] h = cc
fit-end (c ∷ cs) h =
    fit-group Name.LabelEnd (leaf Name.LabelMarker (c ∷ cs)) (begins-leaf Name.LabelMarker c cs empty) (fit-leaf Name.LabelMarker (c ∷ cs))

begins-end : (back : List Code) → BeginsAtItsEnter (group Name.LabelEnd (leaf Name.LabelMarker back))
begins-end back =
    record { more = places_of (leaf Name.LabelMarker back) ++ (place_of (exit_after (enter_of (leaf Name.LabelMarker back)) (leaf Name.LabelMarker back)) ∷ []); places = refl }

end-enter : (back : List Code) → IsSome back →
    enter_of (group Name.LabelEnd (leaf Name.LabelMarker back)) ≡ start_of back
end-enter [] h = cc
end-enter (c ∷ cs) h = refl

begins-start : (kind : LabelKind) (cs : List Code) (f : Forest) → BeginsAtItsEnter (start_tree kind cs ⊕ f)
begins-start LabelKind.Image cs f = record { more = _; places = refl }
begins-start kind cs f = record { more = _; places = refl }

fit-label : (kind : LabelKind) (marker : List Code) (inside : Forest) (back : List Code) (tail : Forest) →
    IsSome marker → IsFit inside → IsSome back → IsFit tail → IsFit (label_group kind marker inside back tail)
fit-label kind marker inside back tail h k l m =
    fit-group (label_name kind) (group Name.Label row ⊕ tail) (record { more = _; places = refl })
    (fit-join (group Name.Label row) tail (fit-group Name.Label row (begins-start kind front (text ⊕ end)) fit-row) m)
  where
    front : List Code
    front = start_marker kind marker

    inner : Forest
    inner = leaf Name.Data (drop (length front) marker) ⊕ inside

    end : Forest
    end = group Name.LabelEnd (leaf Name.LabelMarker back)

    text : Forest
    text = text_group Name.LabelText (stop_of document_start front) (start_of back) inner

    row : Forest
    row = start_tree kind front ⊕ text ⊕ end

    fit-row : IsFit row
    fit-row =
        fit-between Name.LabelText (start_tree kind front) (stop_of document_start front) (start_of back) inner end (start-ends kind front (front-some kind marker h)) (begins-end back) (end-enter back l)
        (fit-start kind front (front-some kind marker h)) (fit-join (leaf Name.Data (drop (length front) marker)) inside (fit-leaf Name.Data (drop (length front) marker)) k) (fit-end back l)

-- The tree of labels.

pub fit-labels : (es : List Element) → AllGood es → IsFit (labels_of es)
fit-labels es h =
    labels-have IsFit IsMadeElement (allows-itself []) fit-join fit-made (λ kind marker _. fit-leaf Name.Data marker)
    (λ marker outcome _. fit-leaf Name.Data marker)
    (λ kind marker inside back outcome m i e. fit-label outcome.0 marker inside back outcome.1 m i e.0 (fit-made outcome.1 e.1)) es h
