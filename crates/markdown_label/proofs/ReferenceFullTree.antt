-- The tree of a full reference, and where its text stands among the events.
use Rattle.std.proofs.Common.{◌≡◌, ◌≢◌, ℕ, suc, ◌+◌, ◌-◌, Bool, true, false, Option, Some, None, List, [], ◌∷◌, ◌++◌, length, slice_get, refl, sym, ap, subst, ◌∙◌, arith, length-append, append_assoc}
use Rattle.std.specs.List.{list_any}
use Rattle.markdown_model.proofs.LinksDoNotNest.{yields_passed_if}
use Rattle.markdown_content.specs.Codes.{Code, is_line_ending, stop_of, document_start}
use Rattle.markdown_engine.specs.PastTree.{appended_from}
use Rattle.markdown_content.specs.Tree.{Forest, empty, leaf_then, group_then, leaf, group, ◌⊕◌, event, start_of}
use Rattle.markdown_event.specs.declared.event.Content.{Content}
use Rattle.markdown_event.specs.declared.event.Event.{Event}
use Rattle.markdown_event.specs.declared.event.Kind.TheVariants as Kind
use Rattle.markdown_event.specs.declared.event.Name.{Name}
use Rattle.markdown_event.specs.declared.event.Name.TheVariants as N
use Rattle.markdown_event.specs.declared.event.Point.{Point}
use Rattle.markdown_plan.proofs.FirstStretch.{BeginsWith, stretches-begin}
use Rattle.markdown_model.specs.Grammar.{one}
use Rattle.markdown_model.specs.LabelEnd.{name_between, reference_identifier}
use Rattle.markdown_model.specs.TextLines.{lines, lines_from, lines_of, linked_leaf}
use Rattle.markdown_model.specs.Resource.{label, reference_names, between_markers, string_group}
use Rattle.markdown_model.specs.Setting.{Setting}
use Rattle.markdown_model.proofs.NoLinkInConstructs.{PassesValue, Yields, yields_bind, yields_gives, yields_passed, then_any}
use Rattle.markdown_label_names.specs.LabelNames.{point_or, place_at}

-- a group of a marker, a text and a marker
pub record IsReferenceGroup (t : Forest) : Type 0 where
  pub a : Point
  pub b : Point
  pub from : Point
  pub to : Point
  pub front : List Code
  pub inside : Forest
  pub back : List Code
  pub is : t ≡ group_then N.Reference a b (leaf_then N.ReferenceMarker None front (group_then N.ReferenceString from to inside (leaf_then N.ReferenceMarker None back empty))) empty

-- What a label gives.

some-one : (p : Code → Bool) → Yields (λ x. x ≢ []) (one p)
unfolding one
some-one p = record { at = at }
  where
    by-test : (b : Bool) (c : Code) (cs : List Code) →
        PassesValue (λ x. x ≢ []) (elim b as (λ _. Option (List Code × List Code)) [ true ↦ Some (c ∷ [], cs) | false ↦ None ])
    by-test true c cs = λ e. cc
    by-test false c cs = tt

    at : (cs : List Code) → PassesValue (λ x. x ≢ []) (one p cs)
    at [] = tt
    at (c ∷ cs) = by-test (p c) c cs

-- the lines of a text are some leaves
record IsSomeLeaf (t : Forest) : Type 0 where
  name : Name
  link : Option Content
  codes : List Code
  rest : Forest
  is : t ≡ leaf_then name link codes rest

line-some : (b : Bool) (name : Name) (link : Option Content) (c : Code) (cs : List Code) (more : Forest) →
    IsSomeLeaf ((elim b as (λ _. Forest) [ true ↦ linked_leaf N.LineEnding link (c ∷ cs) | false ↦ linked_leaf name link (c ∷ cs) ]) ⊕ more)
line-some true name link c cs more = record { name = N.LineEnding; link = link; codes = c ∷ cs; rest = more; is = refl }
line-some false name link c cs more = record { name = name; link = link; codes = c ∷ cs; rest = more; is = refl }

lines-some : (name : Name) (link : Option Content) (text : List Code) → text ≢ [] → IsSomeLeaf (lines name link text)
lines-some name link [] h = absurd (h refl)
lines-some name link (c ∷ cs) h =
    let b : BeginsWith c (lines_of (c ∷ cs)) = stretches-begin (λ x. true) c cs in
    subst (λ ss. IsSomeLeaf (lines_from name link false ss)) (sym b.whole) (line-some (is_line_ending c) name link c b.more _)

any-some : (p : Code → Bool) (text : List Code) → list_any p text ≡ true → text ≢ []
any-some p [] e = cc
any-some p (c ∷ cs) e = λ h. cc

shape : (front text back : List Code) → front ≢ [] → text ≢ [] → back ≢ [] →
    IsReferenceGroup (between_markers reference_names front text back)
shape [] text back f t b = absurd (f refl)
shape (x ∷ xs) text [] f t b = absurd (b refl)
shape (x ∷ xs) text (y ∷ ys) f t b =
    let k : IsSomeLeaf (lines N.Data (Some Content.String) text) = lines-some N.Data (Some Content.String) text t in
    let X : Forest = leaf_then k.name k.link k.codes k.rest in
    let made : Forest → Forest = λ z. leaf N.ReferenceMarker (x ∷ xs) ⊕ string_group N.ReferenceString z ⊕ leaf N.ReferenceMarker (y ∷ ys) in
    subst (λ z. IsReferenceGroup (group N.Reference (made z))) (sym k.is)
    (record { a = _; b = _; from = _; to = _; front = x ∷ xs; inside = X; back = y ∷ ys; is = refl })

pub label-shape : (characters : Bool) → Yields IsReferenceGroup (label characters reference_names)
unfolding label
label-shape characters =
    yields_bind _ _ _ _ (some-one _) λ front f.
    then_any _ _ _ λ text.
    yields_passed_if _ _ _ λ t.
    yields_passed _ _ _
    (yields_bind _ _ _ _ (some-one _) λ back b.
    yields_passed _ _ _
    (yields_gives _ (between_markers reference_names front text back) (shape front text back f (any-some _ text t) b)))

-- Where its text stands.

pub get-after : {A : Type 0} → (xs ys : List A) (n : ℕ) → slice_get (xs ++ ys) (length xs + n) ≡ slice_get ys n
get-after [] ys n = let e : 0 + n ≡ n = omega arith in ap (slice_get ys) e
get-after (x ∷ xs) ys n = next (length xs) n ∙ get-after xs ys n
  where
    next : (m n : ℕ) → slice_get (x ∷ (xs ++ ys)) (suc m + n) ≡ slice_get (xs ++ ys) (m + n)
    next m n = let e : suc m + n ≡ suc (m + n) = omega arith in ap (slice_get (x ∷ (xs ++ ys))) e

-- the bytes of the text, by the numbers of its Enter and Exit
pub name-there : (s : Setting) (es : List Event) (t : Forest) (enter exit : ℕ) → IsReferenceGroup t → enter ≡ length es + 3 → exit ≡ length (es ++ appended_from (length es) None t) - 4
    → name_between s (place_at (es ++ appended_from (length es) None t) enter).index (place_at (es ++ appended_from (length es) None t) exit).index ≡ reference_identifier s t
unfolding reference_identifier
name-there s es t enter exit k at_enter at_exit =
    let n : ℕ = length es in
    let A : List Event = appended_from (n + 1 + 2 + 1) None k.inside in
    let first : List Event = event Kind.Enter N.Reference k.a ∷ event Kind.Enter N.ReferenceMarker (start_of k.front) ∷ event Kind.Exit N.ReferenceMarker (stop_of document_start k.front) ∷ event Kind.Enter N.ReferenceString k.from ∷ A in
    let last : List Event = event Kind.Enter N.ReferenceMarker (start_of k.back) ∷ event Kind.Exit N.ReferenceMarker (stop_of document_start k.back) ∷ event Kind.Exit N.Reference k.b ∷ [] in
    let close : Event = event Kind.Exit N.ReferenceString k.to in
    let whole : es ++ appended_from n None t ≡ (es ++ first) ++ close ∷ last =
    ap (λ x. es ++ appended_from n None x) k.is
    ∙ ap (λ x. es ++ (event Kind.Enter N.Reference k.a ∷ event Kind.Enter N.ReferenceMarker (start_of k.front) ∷ event Kind.Exit N.ReferenceMarker (stop_of document_start k.front) ∷ event Kind.Enter N.ReferenceString k.from ∷ x)) (append_assoc A (close ∷ event Kind.Enter N.ReferenceMarker (start_of k.back) ∷ event Kind.Exit N.ReferenceMarker (stop_of document_start k.back) ∷ []) (event Kind.Exit N.Reference k.b ∷ []))
    ∙ sym (append_assoc es first (close ∷ last)) in
    let size : exit ≡ length (es ++ first) + 0 = omega (arith, at_exit, ap length whole, length-append (es ++ first) (close ∷ last)) in
    let enters : place_at (es ++ appended_from n None t) enter ≡ k.from =
    (λ i. place_at (whole i) (at_enter i)) ∙ ap (λ x. place_at x (n + 3)) (append_assoc es first (close ∷ last)) ∙ ap point_or (get-after es (first ++ close ∷ last) 3) in
    let exits : place_at (es ++ appended_from n None t) exit ≡ k.to =
    (λ i. place_at (whole i) (size i)) ∙ ap point_or (get-after (es ++ first) (close ∷ last) 0) in
    (λ i. name_between s (enters i).index (exits i).index) ∙ sym (ap (reference_identifier s) k.is)
