-- Where the text of a full reference begins and ends.
use Rattle.std.proofs.Common.{◌≡◌, ℕ, Bool, true, false, ◌&&◌, not, Option, Some, None, List, [], ◌∷◌, ◌++◌, refl, sym, ap, subst, ◌∙◌, append-nil}
use Rattle.std.specs.List.{list_any}
use Rattle.std.proofs.lemmas.Bool.{eqb-true}
use Rattle.markdown_model.proofs.LinksDoNotNest.{yields_passed_if}
use Rattle.markdown_engine.proofs.SolidTrees.{stop_of-append}
use Rattle.markdown_content.specs.Codes.{Code, is_line_ending, is_blank, stop_of, document_start}
use Rattle.markdown_content.specs.Tree.{Forest, empty, leaf_then, group_then, leaf, group, leaf_codes, enter_of, exit_after, ◌⊕◌}
use Rattle.markdown_event.specs.declared.event.Content.{Content}
use Rattle.markdown_event.specs.declared.event.Name.{Name}
use Rattle.markdown_event.specs.declared.event.Name.TheVariants as N
use Rattle.markdown_event.specs.declared.event.Point.{Point}
use Rattle.markdown_plan.proofs.FirstStretch.{BeginsWith, stretches-begin}
use Rattle.markdown_model.specs.CodeTests.{is_value, next_is}
use Rattle.markdown_model.specs.Grammar.{one, span}
use Rattle.markdown_model.specs.TextLines.{lines, lines_from, lines_of, line_leaf, linked_leaf}
use Rattle.markdown_model.specs.Resource.{label, reference_names, between_markers, string_group}
use Rattle.markdown_model.proofs.NoLinkInConstructs.{PassesValue, Yields, yields_bind, yields_gives, yields_passed, then_any}
use Rattle.markdown_model.proofs.ReadingsCover.{codes-lines}
use Rattle.markdown_label.proofs.ReferenceFullTree.{IsReferenceGroup}

-- Rows of leaves.

HasLeavesAlone : Forest → Type 0
HasLeavesAlone empty = Unit {0}
HasLeavesAlone (leaf_then name link cs rest) = HasLeavesAlone rest
HasLeavesAlone (group_then name enter exit inside rest) = ⊥

leaves-exit : (p : Point) (t : Forest) → HasLeavesAlone t → exit_after p t ≡ stop_of p (leaf_codes t)
unfolding HasLeavesAlone
leaves-exit p empty k = refl
leaves-exit p (leaf_then name link cs rest) k =
    leaves-exit (stop_of p cs) rest k ∙ sym (stop_of-append p cs (leaf_codes rest))
leaves-exit p (group_then name enter exit inside rest) k = absurd k

leaves-row : (t u : Forest) → HasLeavesAlone t → HasLeavesAlone u → HasLeavesAlone (t ⊕ u)
unfolding HasLeavesAlone
leaves-row empty u h k = k
leaves-row (leaf_then name link cs rest) u h k = leaves-row rest u h k
leaves-row (group_then name enter exit inside rest) u h k = absurd h

leaves-linked : (name : Name) (link : Option Content) (cs : List Code) → HasLeavesAlone (linked_leaf name link cs)
unfolding HasLeavesAlone
leaves-linked name link [] = tt
leaves-linked name link (c ∷ cs) = tt

leaves-line : (name : Name) (link : Option Content) (s : List Code) → HasLeavesAlone (line_leaf name link s)
leaves-line name link s =
    elim (next_is is_line_ending s) as (λ b. HasLeavesAlone (elim b as (λ _. Forest) [ true ↦ linked_leaf N.LineEnding link s | false ↦ linked_leaf name link s ])) [ true ↦ leaves-linked N.LineEnding link s | false ↦ leaves-linked name link s ]

leaves-none : HasLeavesAlone empty
unfolding HasLeavesAlone
leaves-none = tt

leaves-from : (name : Name) (link : Option Content) (later : Bool) (ss : List (List Code)) →
    HasLeavesAlone (lines_from name link later ss)
leaves-from name link later [] = leaves-none
leaves-from name link later (s ∷ ss) =
    elim (later && not (next_is is_line_ending s)) as (λ b. HasLeavesAlone (elim b as (λ _. Forest) [ true ↦ linked_leaf N.SpaceOrTab link (span is_blank s).0 ⊕ linked_leaf name link (span is_blank s).1 ⊕ lines_from name link false ss | false ↦ line_leaf name link s ⊕ lines_from name link (next_is is_line_ending s) ss ])) [
      | true ↦ leaves-row _ _ (leaves-linked N.SpaceOrTab link (span is_blank s).0) (leaves-row _ _ (leaves-linked name link (span is_blank s).1) (leaves-from name link false ss))
      | false ↦ leaves-row _ _ (leaves-line name link s) (leaves-from name link (next_is is_line_ending s) ss)
    ]

-- the lines of a text: some leaves, from its first code to its last
record IsLines (c : Code) (cs : List Code) (t : Forest) : Type 0 where
  name : Name
  link : Option Content
  codes : List Code
  rest : Forest
  is : t ≡ leaf_then name link codes rest
  enter : enter_of t ≡ c.start
  exit : (p : Point) → exit_after p t ≡ stop_of document_start (c ∷ cs)
  whole : leaf_codes t ≡ c ∷ cs

record BeginsWithLeaf (c : Code) (t : Forest) : Type 0 where
  name : Name
  link : Option Content
  codes : List Code
  rest : Forest
  is : t ≡ leaf_then name link codes rest
  enter : enter_of t ≡ c.start

begun-by : (b : Bool) (name : Name) (link : Option Content) (c : Code) (cs : List Code) (more : Forest) →
    BeginsWithLeaf c ((elim b as (λ _. Forest) [ true ↦ linked_leaf N.LineEnding link (c ∷ cs) | false ↦ linked_leaf name link (c ∷ cs) ]) ⊕ more)
begun-by true name link c cs more =
    record { name = N.LineEnding; link = link; codes = c ∷ cs; rest = more; is = refl; enter = refl }
begun-by false name link c cs more =
    record { name = name; link = link; codes = c ∷ cs; rest = more; is = refl; enter = refl }

lines-begun : (name : Name) (link : Option Content) (c : Code) (cs : List Code) → BeginsWithLeaf c (lines name link (c ∷ cs))
lines-begun name link c cs =
    let b : BeginsWith c (lines_of (c ∷ cs)) = stretches-begin (λ x. true) c cs in
    subst (λ ss. BeginsWithLeaf c (lines_from name link false ss)) (sym b.whole) (begun-by (is_line_ending c) name link c b.more _)

lines-text : (name : Name) (link : Option Content) (c : Code) (cs : List Code) → IsLines c cs (lines name link (c ∷ cs))
lines-text name link c cs =
    let k : BeginsWithLeaf c (lines name link (c ∷ cs)) = lines-begun name link c cs in
    let whole : leaf_codes (lines name link (c ∷ cs)) ≡ c ∷ cs = codes-lines name link (c ∷ cs) in
    record {
      name = k.name;
      link = k.link;
      codes = k.codes;
      rest = k.rest;
      is = k.is;
      enter = k.enter;
      whole = whole;
      exit = λ p. leaves-exit p (lines name link (c ∷ cs)) (leaves-from name link false (lines_of (c ∷ cs))) ∙ ap (stop_of p) whole;
    }

-- What a label gives.

-- a `[`, a text that is not empty, and a `]`; the text's group stands from its first code to its last
pub record HasText (t : Forest) : Type 0 where
  pub c : Code
  pub x : Code
  pub xs : List Code
  pub d : Code
  pub shape : IsReferenceGroup t
  pub from : shape.from ≡ x.start
  pub to : shape.to ≡ stop_of document_start (x ∷ xs)
  pub whole : leaf_codes t ≡ c ∷ x ∷ (xs ++ d ∷ [])
  pub opens : c.value ≡ 91
  pub closes : d.value ≡ 93

pub record IsOneOfValue (v : ℕ) (cs : List Code) : Type 0 where
  pub code : Code
  pub is : cs ≡ code ∷ []
  pub value : code.value ≡ v

one-value : (v : ℕ) → Yields (IsOneOfValue v) (one (is_value v))
unfolding one
one-value v = record { at = at }
  where
    by-test : (b : Bool) (c : Code) (cs : List Code) → is_value v c ≡ b →
        PassesValue (IsOneOfValue v) (elim b as (λ _. Option (List Code × List Code)) [ true ↦ Some (c ∷ [], cs) | false ↦ None ])
    by-test true c cs e = record { code = c; is = refl; value = eqb-true c.value v e }
    by-test false c cs e = tt

    at : (cs : List Code) → PassesValue (IsOneOfValue v) (one (is_value v) cs)
    at [] = tt
    at (c ∷ cs) = by-test (is_value v c) c cs refl

made : (c x : Code) (xs : List Code) (d : Code) → c.value ≡ 91 → d.value ≡ 93 →
    HasText (between_markers reference_names (c ∷ []) (x ∷ xs) (d ∷ []))
made c x xs d o e =
    let L : Forest = lines N.Data (Some Content.String) (x ∷ xs) in
    let k : IsLines x xs L = lines-text N.Data (Some Content.String) x xs in
    of-leaf L k.name k.link k.codes k.rest k.is k.enter (k.exit (enter_of L)) k.whole
  where
    whole : Forest → Forest
    whole z = group N.Reference (leaf N.ReferenceMarker (c ∷ []) ⊕ string_group N.ReferenceString z ⊕ leaf N.ReferenceMarker (d ∷ []))

    of-leaf : (z : Forest) (name : Name) (link : Option Content) (codes : List Code) (rest : Forest) → z ≡ leaf_then name link codes rest → enter_of z ≡ x.start → exit_after (enter_of z) z ≡ stop_of document_start (x ∷ xs) → leaf_codes z ≡ x ∷ xs
        → HasText (group N.Reference (leaf N.ReferenceMarker (c ∷ []) ⊕ string_group N.ReferenceString z ⊕ leaf N.ReferenceMarker (d ∷ [])))
    of-leaf (leaf_then n l cs more) name link codes rest is enter exit all =
        record {
          c = c;
          x = x;
          xs = xs;
          d = d;
          shape = record { a = _; b = _; from = _; to = _; front = c ∷ []; inside = leaf_then n l cs more; back = d ∷ []; is = refl };
          from = enter;
          to = exit;
          whole = ap (λ ys. c ∷ (ys ++ d ∷ []) ++ []) all ∙ append-nil (c ∷ (x ∷ xs) ++ d ∷ []);
          opens = o;
          closes = e;
        }
    of-leaf empty name link codes rest is enter exit all = cc
    of-leaf (group_then n a b inside more) name link codes rest is enter exit all = cc

text-some : (p : Code → Bool) (text : List Code) → list_any p text ≡ true →
    (x : Code) × (xs : List Code) × (text ≡ x ∷ xs)
text-some p [] e = cc
text-some p (x ∷ xs) e = (x, xs, refl)

pub label-text : (characters : Bool) → Yields HasText (label characters reference_names)
unfolding label
label-text characters =
    yields_bind (IsOneOfValue 91) _ _ _ (one-value 91) λ front f.
    then_any _ _ _ λ text.
    yields_passed_if _ _ _ λ t.
    yields_passed _ _ _
    (yields_bind (IsOneOfValue 93) _ _ _ (one-value 93) λ back b.
    yields_passed _ _ _
    (yields_gives _ (between_markers reference_names front text back)
    (let s = text-some _ text t in
    subst (λ ys. HasText (between_markers reference_names ys text back)) (sym f.is)
    (subst (λ ys. HasText (between_markers reference_names (f.code ∷ []) ys back)) (sym s.2)
    (subst (λ ys. HasText (between_markers reference_names (f.code ∷ []) (s.0 ∷ s.1) ys)) (sym b.is) (made f.code s.0 s.1 b.code f.value b.value))))))
