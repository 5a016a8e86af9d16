-- the events of a tree, with its neighbouring data merged
use Rattle.std.proofs.Common.{◌≡◌, ◌≢◌, ℕ, suc, ◌+◌, ◌==◌, ◌≤◌, nat_le, ◌&&◌, Bool, true, false, List, [], ◌∷◌, ◌++◌, length, drop, Option, Some, None, if◌then◌else◌, refl, sym, ap, subst, ◌∙◌, arith, append_assoc, append-nil}
use Rattle.std.proofs.Math.Bool.{and-false}
use Rattle.std.proofs.lemmas.Bool.{both_ways}
use Rattle.std.specs.Option.{option_map}
use Rattle.markdown_content.specs.Codes.{Code, stop_of, document_start}
use Rattle.markdown_engine_events.proofs.EditRules.{edited-nil}
use Rattle.markdown_engine_events.proofs.EditSteps.{drop-part}
use Rattle.markdown_engine_events.specs.Edits.{is_removed, removed_before, added_up_to, added_at, front_at, back_at, moved_number, moved, edited_from, edited}
use Rattle.markdown_content.specs.ListFunctions.{rest_of}
use Rattle.markdown_engine.specs.Operations.{link_back}
use Rattle.markdown_engine.specs.PastTree.{appended_from}
use Rattle.markdown_content.specs.Tree.{Forest, empty, leaf_then, group_then, event, event_count, start_of}
use Rattle.markdown_event.specs.declared.event.Content.{Content}
use Rattle.markdown_event.specs.declared.event.Event.{Event}
use Rattle.markdown_event.specs.declared.event.Kind.TheVariants as Kind
use Rattle.markdown_event.specs.declared.event.Name.{Name}
use Rattle.markdown_event.specs.declared.event.Name.TheVariants as N
use Rattle.markdown_event.specs.declared.event.Point.{Point}
use Rattle.markdown_engine_events.specs.declared.util.edit_map.Edit.{Edit}
use Rattle.markdown_engine.proofs.TreeEvents.{length-appended_from}
use Rattle.markdown_engine.proofs.SolidTrees.{start-append}
use Rattle.markdown_content.proofs.PlaceRules.{drop-more}
use Rattle.markdown_model.specs.Passes.{merged, data_onto}
use Rattle.markdown_passes.specs.MergedEvents.{is_data, opens_data, closes_data, opening, closing, joint, marked, joints, HasData}
use Rattle.markdown_passes.proofs.MergeEdits.{removed, removed-is, stays-other, goes-next, goes-after, stays-next}

-- Names.

pub data-name : (n : Name) → is_data n ≡ true → n ≡ N.Data
data-name N.Data e = refl
data-name _ e = cc

-- Merging, step by step.

pub merged-data : (cs : List Code) (rest : Forest) → merged (leaf_then N.Data None cs rest) ≡ data_onto cs (merged rest)
unfolding merged
merged-data cs rest = refl

pub merged-linked : (n : Name) (c : Content) (cs : List Code) (rest : Forest) →
    merged (leaf_then n (Some c) cs rest) ≡ leaf_then n (Some c) cs (merged rest)
unfolding merged
merged-linked N.Data c cs rest = refl
merged-linked _ c cs rest = refl

pub merged-other : (n : Name) (cs : List Code) (rest : Forest) → is_data n ≡ false →
    merged (leaf_then n None cs rest) ≡ leaf_then n None cs (merged rest)
unfolding merged
merged-other N.Data cs rest e = cc
merged-other _ cs rest e = refl

pub merged-group : (n : Name) (p q : Point) (inside rest : Forest) →
    merged (group_then n p q inside rest) ≡ group_then n p q (merged inside) (merged rest)
unfolding merged
merged-group n p q inside rest = refl

onto-linked : (cs : List Code) (n : Name) (c : Content) (ds : List Code) (rest : Forest) →
    data_onto cs (leaf_then n (Some c) ds rest) ≡ leaf_then N.Data None cs (leaf_then n (Some c) ds rest)
onto-linked cs N.Data c ds rest = refl
onto-linked cs _ c ds rest = refl

onto-other : (cs : List Code) (n : Name) (ds : List Code) (rest : Forest) → is_data n ≡ false →
    data_onto cs (leaf_then n None ds rest) ≡ leaf_then N.Data None cs (leaf_then n None ds rest)
onto-other cs N.Data ds rest e = cc
onto-other cs _ ds rest e = refl

-- a row that begins with data that has codes
record BeginsWithData (t : Forest) : Type 0 where
  codes : List Code
  rest : Forest
  is : t ≡ leaf_then N.Data None codes rest
  some : codes ≢ []

some-append : (cs ds : List Code) → cs ≢ [] → cs ++ ds ≢ []
some-append [] ds h = absurd (h refl)
some-append (c ∷ cs) ds h = λ e. cc

onto-name : (cs : List Code) (n : Name) (ds : List Code) (rest : Forest) (b : Bool) → is_data n ≡ b → cs ≢ [] →
    BeginsWithData (data_onto cs (leaf_then n None ds rest))
onto-name cs n ds rest true e h =
    subst (λ m. BeginsWithData (data_onto cs (leaf_then m None ds rest))) (sym (data-name n e)) (record { codes = cs ++ ds; rest = rest; is = refl; some = some-append cs ds h })
onto-name cs n ds rest false e h =
    record { codes = cs; rest = leaf_then n None ds rest; is = onto-other cs n ds rest e; some = h }

onto-begun : (cs : List Code) (t : Forest) → cs ≢ [] → BeginsWithData (data_onto cs t)
onto-begun cs empty h = record { codes = cs; rest = empty; is = refl; some = h }
onto-begun cs (leaf_then n None ds rest) h = onto-name cs n ds rest (is_data n) refl h
onto-begun cs (leaf_then n (Some c) ds rest) h =
    record { codes = cs; rest = leaf_then n (Some c) ds rest; is = onto-linked cs n c ds rest; some = h }
onto-begun cs (group_then n p q inside rest) h =
    record { codes = cs; rest = group_then n p q inside rest; is = refl; some = h }

-- whether the events of a row begin with data tells how it merges with data before it

on-true : (b : Bool) → b && true ≡ true → b ≡ true
on-true true e = refl
on-true false e = cc

on-false : (b : Bool) → b && true ≡ false → b ≡ false
on-false true e = cc
on-false false e = refl

clash : {A : Type 0} → (b : Bool) → b && false ≡ true → A
clash true e = cc
clash false e = cc

begun : (k : ℕ) (p : Option ℕ) (t : Forest) (tail : List Event) → HasData t → opening tail ≡ false →
    opening (appended_from k p t ++ tail) ≡ true → BeginsWithData (merged t)
begun k p empty tail d c o = absurd (both_ways (opening tail) c o)
begun k p (leaf_then n None cs rest) tail d c o =
    let name : is_data n ≡ true = on-true (is_data n) o in
    subst (λ m. BeginsWithData (merged (leaf_then m None cs rest))) (sym (data-name n name))
    (subst (λ t. BeginsWithData t) (sym (merged-data cs rest)) (onto-begun cs (merged rest) (d.0 name refl)))
begun k p (leaf_then n (Some x) cs rest) tail d c o = clash (is_data n) o
begun k p (group_then n a b inside rest) tail d c o = absurd (both_ways (is_data n) d.0 (on-true (is_data n) o))

apart : (k : ℕ) (p : Option ℕ) (cs : List Code) (t : Forest) (tail : List Event) →
    opening (appended_from k p t ++ tail) ≡ false → data_onto cs (merged t) ≡ leaf_then N.Data None cs (merged t)
unfolding merged
apart k p cs empty tail o = refl
apart k p cs (leaf_then n None ds rest) tail o =
    let name : is_data n ≡ false = on-false (is_data n) o in
    let e = merged-other n ds rest name in
    ap (data_onto cs) e ∙ onto-other cs n ds (merged rest) name ∙ ap (leaf_then N.Data None cs) (sym e)
apart k p cs (leaf_then n (Some c) ds rest) tail o =
    let e = merged-linked n c ds rest in
    ap (data_onto cs) e ∙ onto-linked cs n c ds (merged rest) ∙ ap (leaf_then N.Data None cs) (sym e)
apart k p cs (group_then n a b inside rest) tail o = refl

-- What the edits leave.

abbrev one : Bool → ℕ
one true = 1
one false = 0

-- an event that goes or stays
abbrev kept : Bool → Event → List Event
kept true e = []
kept false e = e ∷ []

-- a row whose first event stands there already
abbrev after : Bool → List Event → List Event
after true es = rest_of es
after false es = es

kept-after : (f : Bool) (e : Event) (es : List Event) → kept f e ++ es ≡ after f (e ∷ es)
kept-after true e es = refl
kept-after false e es = refl

abbrev no-events : List Event
no-events = []

nothing : (b : Bool) → (if b then no-events else no-events) ≡ no-events
nothing true = refl
nothing false = refl

no-front : (i n : ℕ) (b : Bool) (log : List Edit) → front_at i log ≡ [] → front_at i (marked b n ++ log) ≡ []
no-front i n true log e =
    ap (λ x. x ++ (if (n == i) && false then no-events else no-events)) e ∙ nothing ((n == i) && false)
no-front i n false log e = e

no-back : (i n : ℕ) (b : Bool) (log : List Edit) → back_at i log ≡ [] → back_at i (marked b n ++ log) ≡ []
no-back i n true log e =
    ap (λ x. (if (n == i) && true then no-events else no-events) ++ x) e ∙ append-nil (if (n == i) && true then no-events else no-events) ∙ nothing ((n == i) && true)
no-back i n false log e = e

front-none : (i n : ℕ) (es : List Event) → front_at i (joints n es) ≡ []
front-none i n [] = refl
front-none i n (e ∷ es) = no-front i (n + 1) (joint (e ∷ es)) (joints (suc n) es) (front-none i (suc n) es)

back-none : (i n : ℕ) (es : List Event) → back_at i (joints n es) ≡ []
back-none i n [] = refl
back-none i n (e ∷ es) = no-back i (n + 1) (joint (e ∷ es)) (joints (suc n) es) (back-none i (suc n) es)

abbrev zero_if : Bool → ℕ
zero_if b = if b then 0 else 0

zero-or : (b : Bool) → zero_if b ≡ 0
zero-or true = refl
zero-or false = refl

no-more : (i n : ℕ) (b : Bool) (log : List Edit) → added_up_to log i ≡ 0 → added_up_to (marked b n ++ log) i ≡ 0
no-more i n true log e = omega (arith, e, zero-or (nat_le n i))
no-more i n false log e = e

more-none : (i n : ℕ) (es : List Event) → added_up_to (joints n es) i ≡ 0
more-none i n [] = refl
more-none i n (e ∷ es) = no-more i (n + 1) (joint (e ∷ es)) (joints (suc n) es) (more-none i (suc n) es)

added-none : (i n : ℕ) (es : List Event) → added_at i (joints n es) ≡ []
added-none i n es = ap (λ x. x ++ back_at i (joints n es)) (front-none i n es) ∙ back-none i n es

abbrev log_of : List Event → List Edit
log_of es = joints 0 es

step-kept : (b : Bool) (e : Event) (es : List Event) → (if b then [] else e ∷ []) ++ es ≡ kept b e ++ es
step-kept true e es = refl
step-kept false e es = refl

edited-step : (es : List Event) (i : ℕ) (e : Event) (xs : List Event) (b : Bool) → removed es i ≡ b →
    edited_from (log_of es) i (e ∷ xs) ≡ kept b (moved (log_of es) e) ++ edited_from (log_of es) (suc i) xs
edited-step es i e xs b h =
    let m : Event = moved (log_of es) e in
    let rest : List Event = edited_from (log_of es) (suc i) xs in
    ap (λ x. x ++ ((if is_removed (log_of es) i then [] else m ∷ []) ++ rest)) (added-none i 0 es)
    ∙ ap (λ x. (if x then [] else m ∷ []) ++ rest) (removed-is es i ∙ h)
    ∙ step-kept b m rest

edited-end : (es : List Event) (i : ℕ) → edited_from (log_of es) i [] ≡ []
edited-end es i = added-none i 0 es

abbrev one_if : Bool → ℕ
one_if b = if b then 1 else 0

one-if : (b : Bool) → one_if b ≡ one b
one-if true = refl
one-if false = refl

count-step : (es : List Event) (i : ℕ) (b : Bool) → removed es i ≡ b →
    removed_before (log_of es) (suc i) ≡ removed_before (log_of es) i + one b
count-step es i b h =
    ap (λ x. removed_before (log_of es) i + (if x then 1 else 0)) (removed-is es i ∙ h) ∙ ap (λ k. removed_before (log_of es) i + k) (one-if b)

-- two events
pair : (es : List Event) (n : ℕ) (e x : Event) (rest : List Event) (f g : Bool) → removed es n ≡ f →
    removed es (suc n) ≡ g →
    edited_from (log_of es) n (e ∷ x ∷ rest) ≡ kept f (moved (log_of es) e) ++ (kept g (moved (log_of es) x) ++ edited_from (log_of es) (n + 2) rest)
pair es n e x rest f g h k =
    let same : suc (suc n) ≡ n + 2 = omega arith in
    edited-step es n e (x ∷ rest) f h
    ∙ ap (λ y. kept f (moved (log_of es) e) ++ y) (edited-step es (suc n) x rest g k ∙ ap (λ i. kept g (moved (log_of es) x) ++ edited_from (log_of es) i rest) same)

pair-count : (es : List Event) (n : ℕ) (f g : Bool) → removed es n ≡ f → removed es (suc n) ≡ g →
    removed_before (log_of es) (n + 2) ≡ removed_before (log_of es) n + one f + one g
pair-count es n f g h k =
    let same : suc (suc n) ≡ n + 2 = omega arith in
    ap (removed_before (log_of es)) (sym same) ∙ count-step es (suc n) g k ∙ ap (λ i. i + one g) (count-step es n f h)

-- Rows.

-- a row of the events: those from n on, followed by others; its first event is to have number m, where
-- `f` says that it goes, since an earlier one stands for it
record MergeRowHere (es : List Event) (n m : ℕ) (f : Bool) (previous : Option ℕ) (row : Forest) (tail : List Event) : Type 0 where
  there : drop n es ≡ appended_from n previous row ++ tail
  flag : removed es n ≡ f
  counted : n ≡ removed_before (log_of es) n + m + one f
  first : f ≡ true → opening (appended_from n previous row ++ tail) ≡ true
  closed : opening tail ≡ false
  has_data : HasData row

-- what the edits leave of it are the events of the merged row
record Merges (es : List Event) (n m : ℕ) (f : Bool) (previous : Option ℕ) (row : Forest) (tail : List Event) : Type 0 where
  events : edited_from (log_of es) n (appended_from n previous row ++ tail) ≡ after f (appended_from m (option_map (moved_number (log_of es)) previous) (merged row)) ++ edited_from (log_of es) (n + event_count row) tail
  count : n + event_count row ≡ removed_before (log_of es) (n + event_count row) + m + event_count (merged row)

abbrev MergeRowLaw : List Event → Forest → Type 0
MergeRowLaw es row =
    (n m : ℕ) (f : Bool) (previous : Option ℕ) (tail : List Event) → MergeRowHere es n m f previous row tail → Merges es n m f previous row tail

law-empty : (es : List Event) → MergeRowLaw es empty
unfolding merged
law-empty es n m true previous tail h = absurd (both_ways (opening tail) h.closed (h.first refl))
law-empty es n m false previous tail h =
    let same : n ≡ n + 0 = omega arith in
    record { events = ap (λ i. edited_from (log_of es) i tail) same; count = subst (λ i. i ≡ removed_before (log_of es) i + m + 0) same (omega (arith, h.counted)) }

-- A leaf whose data is not merged.

-- after two events of which the first opens no data
record Next (es : List Event) (n m : ℕ) (f : Bool) (previous : Option ℕ) (e x : Event) (row : Forest) (tail : List Event) : Type 0 where
  stays : f ≡ false
  here : MergeRowHere es (n + 2) (m + 2) false previous row tail
  events : edited_from (log_of es) n (e ∷ x ∷ appended_from (n + 2) previous row ++ tail) ≡ moved (log_of es) e ∷ moved (log_of es) x ∷ edited_from (log_of es) (n + 2) (appended_from (n + 2) previous row ++ tail)
  number : moved_number (log_of es) n ≡ m

drop-two : (es : List Event) (n : ℕ) (e x : Event) (rest : List Event) → drop n es ≡ e ∷ x ∷ rest →
    drop (n + 2) es ≡ rest
drop-two es n e x rest h =
    let same : n + 2 ≡ suc (suc n) = omega arith in
    ap (λ i. drop i es) same ∙ drop-more (suc n) es ∙ ap rest_of (drop-more n es ∙ ap rest_of h)

number-is : (es : List Event) (n m : ℕ) → n ≡ removed_before (log_of es) n + m + 0 → moved_number (log_of es) n ≡ m
number-is es n m h = omega (arith, h, more-none n 0 es)

next-of : (es : List Event) (n m : ℕ) (f : Bool) (previous : Option ℕ) (e x : Event) (row : Forest) (tail : List Event) →
    drop n es ≡ e ∷ x ∷ appended_from (n + 2) previous row ++ tail → opens_data e ≡ false → closes_data e ≡ false →
    opens_data x ≡ false → removed es n ≡ f → n ≡ removed_before (log_of es) n + m + one f → opening tail ≡ false →
    HasData row → Next es n m f previous e x row tail
next-of es n m f previous e x row tail h o c y flag counted closed d =
    let rest : List Event = appended_from (n + 2) previous row ++ tail in
    let stay : removed es n ≡ false = stays-other es n e (x ∷ rest) h o c in
    let no : joint (e ∷ x ∷ rest) ≡ false = ap (λ b. b && closing (x ∷ rest)) o in
    let one-on : removed es (suc n) ≡ false = goes-next es n e (x ∷ rest) h c ∙ no in
    let same : n + 2 ≡ suc (suc n) = omega arith in
    let f-is : f ≡ false = sym flag ∙ stay in
    let count : n ≡ removed_before (log_of es) n + m + 0 = subst (λ b. n ≡ removed_before (log_of es) n + m + one b) f-is counted in
    record {
      stays = f-is;
      here = record {
        there = drop-two es n e x rest h;
        flag = ap (removed es) same ∙ goes-after es n e x rest h y ∙ no;
        counted = omega (arith, count, pair-count es n false false stay one-on);
        first = λ b. absurd (both_ways false refl b);
        closed = closed;
        has_data = d;
      };
      events = pair es n e x rest false false stay one-on;
      number = number-is es n m count;
    }

after-is : (f : Bool) (es : List Event) → f ≡ false → after f es ≡ es
after-is false es e = refl
after-is true es e = absurd (both_ways true e refl)

two-more : (es : List Event) (n k : ℕ) (tail : List Event) →
    edited_from (log_of es) (n + 2 + k) tail ≡ edited_from (log_of es) (n + (2 + k)) tail
two-more es n k tail = let same : n + 2 + k ≡ n + (2 + k) = omega arith in ap (λ i. edited_from (log_of es) i tail) same

count-two : (es : List Event) (n k m j : ℕ) → n + 2 + k ≡ removed_before (log_of es) (n + 2 + k) + (m + 2) + j →
    n + (2 + k) ≡ removed_before (log_of es) (n + (2 + k)) + m + (2 + j)
count-two es n k m j h =
    let same : n + 2 + k ≡ n + (2 + k) = omega arith in subst (λ i. i ≡ removed_before (log_of es) i + m + (2 + j)) same (omega (arith, h))

leaf-other : (es : List Event) (name : Name) (cs : List Code) (rest : Forest) → is_data name ≡ false → MergeRowLaw es rest →
    MergeRowLaw es (leaf_then name None cs rest)
leaf-other es name cs rest other law n m f previous tail h =
    let e : Event = event Kind.Enter name (start_of cs) in
    let x : Event = event Kind.Exit name (stop_of document_start cs) in
    let k = next-of es n m f previous e x rest tail h.there (ap (λ b. b && true) other) refl refl h.flag h.counted h.closed h.has_data.1 in
    let r = law (n + 2) (m + 2) false previous tail k.here in
    let is = merged-other name cs rest other in
    let q : Option ℕ = option_map (moved_number (log_of es)) previous in
    record {
      events = k.events
          ∙ ap (λ y. e ∷ x ∷ y) (r.events ∙ ap (λ y. appended_from (m + 2) q (merged rest) ++ y) (two-more es n (event_count rest) tail))
          ∙ ap (λ t. appended_from m q t ++ edited_from (log_of es) (n + (2 + event_count rest)) tail) (sym is)
          ∙ ap (λ y. y ++ edited_from (log_of es) (n + (2 + event_count rest)) tail) (sym (after-is f (appended_from m q (merged (leaf_then name None cs rest))) k.stays));
      count = count-two es n (event_count rest) m (event_count (merged rest)) r.count ∙ ap (λ t. removed_before (log_of es) (n + (2 + event_count rest)) + m + event_count t) (sym is);
    }

leaf-linked : (es : List Event) (name : Name) (c : Content) (cs : List Code) (rest : Forest) → MergeRowLaw es rest →
    MergeRowLaw es (leaf_then name (Some c) cs rest)
leaf-linked es name c cs rest law n m f previous tail h =
    let e : Event = record { kind = Kind.Enter; name = name; point = start_of cs; link = Some (link_back previous c) } in
    let x : Event = event Kind.Exit name (stop_of document_start cs) in
    let k = next-of es n m f (Some n) e x rest tail h.there (and-false (is_data name)) refl refl h.flag h.counted h.closed h.has_data.1 in
    let r = law (n + 2) (m + 2) false (Some n) tail k.here in
    let is = merged-linked name c cs rest in
    let q : Option ℕ = option_map (moved_number (log_of es)) previous in
    let e2 : Event = record { kind = Kind.Enter; name = name; point = start_of cs; link = Some (link_back q c) } in
    record {
      events = k.events
          ∙ ap (λ y. e2 ∷ x ∷ y) (r.events ∙ ap (λ i. appended_from (m + 2) (Some i) (merged rest) ++ edited_from (log_of es) (n + 2 + event_count rest) tail) k.number ∙ ap (λ y. appended_from (m + 2) (Some m) (merged rest) ++ y) (two-more es n (event_count rest) tail))
          ∙ ap (λ t. appended_from m q t ++ edited_from (log_of es) (n + (2 + event_count rest)) tail) (sym is)
          ∙ ap (λ y. y ++ edited_from (log_of es) (n + (2 + event_count rest)) tail) (sym (after-is f (appended_from m q (merged (leaf_then name (Some c) cs rest))) k.stays));
      count = count-two es n (event_count rest) m (event_count (merged rest)) r.count ∙ ap (λ t. removed_before (log_of es) (n + (2 + event_count rest)) + m + event_count t) (sym is);
    }

-- Data.

stop-append : (p : Point) (cs ds : List Code) → ds ≢ [] → stop_of p (cs ++ ds) ≡ stop_of document_start ds
stop-append p [] [] h = absurd (h refl)
stop-append p [] (d ∷ ds) h = refl
stop-append p (c ∷ cs) ds h = stop-append c.stop cs ds h

-- where such data stands behind it: the two are one, whose Exit is that of the second
leaf-joined : (es : List Event) (cs : List Code) (rest : Forest) → MergeRowLaw es rest →
    (n m : ℕ) (f : Bool) (previous : Option ℕ) (tail : List Event) →
    MergeRowHere es n m f previous (leaf_then N.Data None cs rest) tail →
    opening (appended_from (n + 2) previous rest ++ tail) ≡ true →
    Merges es n m f previous (leaf_then N.Data None cs rest) tail
leaf-joined es cs rest law n m f previous tail h o =
    let more : List Event = appended_from (n + 2) previous rest ++ tail in
    let e : Event = event Kind.Enter N.Data (start_of cs) in
    let x : Event = event Kind.Exit N.Data (stop_of document_start cs) in
    let q : Option ℕ = option_map (moved_number (log_of es)) previous in
    let one-on : removed es (suc n) ≡ true = goes-next es n e (x ∷ more) h.there refl ∙ o in
    let same : n + 2 ≡ suc (suc n) = omega arith in
    let two-on : removed es (n + 2) ≡ true = ap (removed es) same ∙ goes-after es n e x more h.there refl ∙ o in
    let r = law (n + 2) m true previous tail (record {
      there = drop-two es n e x more h.there;
      flag = two-on;
      counted = omega (arith, h.counted, pair-count es n f true h.flag one-on);
      first = λ b. o;
      closed = h.closed;
      has_data = h.has_data.1;
    }) in
    let b = begun (n + 2) previous rest tail h.has_data.1 h.closed o in
    let is : merged (leaf_then N.Data None cs rest) ≡ leaf_then N.Data None (cs ++ b.codes) b.rest = merged-data cs rest ∙ ap (data_onto cs) b.is in
    let last : Event = event Kind.Exit N.Data (stop_of document_start b.codes) in
    let Z : List Event = edited_from (log_of es) (n + (2 + event_count rest)) tail in
    let W : List Event = last ∷ appended_from (m + 2) q b.rest in
    let whole : appended_from m q (leaf_then N.Data None (cs ++ b.codes) b.rest) ≡ e ∷ W =
    ap (λ p. event Kind.Enter N.Data p ∷ event Kind.Exit N.Data (stop_of document_start (cs ++ b.codes)) ∷ appended_from (m + 2) q b.rest) (start-append cs b.codes (h.has_data.0 refl refl))
    ∙ ap (λ p. e ∷ event Kind.Exit N.Data p ∷ appended_from (m + 2) q b.rest) (stop-append document_start cs b.codes b.some) in
    let tail-is : edited_from (log_of es) (n + 2) more ≡ W ++ Z =
    r.events
    ∙ ap (λ t. rest_of (appended_from m q t) ++ edited_from (log_of es) (n + 2 + event_count rest) tail) b.is
    ∙ ap (λ y. W ++ y) (two-more es n (event_count rest) tail) in
    let size : event_count (merged rest) ≡ 2 + event_count b.rest = ap event_count b.is in
    let counts : n + (2 + event_count rest) ≡ removed_before (log_of es) (n + (2 + event_count rest)) + m + (2 + event_count b.rest) = joined-count es n (event_count rest) m (event_count (merged rest)) (2 + event_count b.rest) size r.count in
    record {
      events = pair es n e x more f true h.flag one-on
          ∙ ap (λ y. kept f e ++ y) tail-is
          ∙ sym (append_assoc (kept f e) W Z)
          ∙ ap (λ y. y ++ Z) (kept-after f e W ∙ ap (after f) (sym whole ∙ ap (appended_from m q) (sym is)));
      count = counts ∙ ap (λ t. removed_before (log_of es) (n + (2 + event_count rest)) + m + event_count t) (sym is);
    }
  where
    joined-count : (es : List Event) (n k m j i : ℕ) → j ≡ i →
        n + 2 + k ≡ removed_before (log_of es) (n + 2 + k) + m + j →
        n + (2 + k) ≡ removed_before (log_of es) (n + (2 + k)) + m + i
    joined-count es n k m j i e h =
        let same : n + 2 + k ≡ n + (2 + k) = omega arith in subst (λ a. a ≡ removed_before (log_of es) a + m + i) same (omega (arith, h, e))

-- where none does: it stays as it is
leaf-apart : (es : List Event) (cs : List Code) (rest : Forest) → MergeRowLaw es rest →
    (n m : ℕ) (f : Bool) (previous : Option ℕ) (tail : List Event) →
    MergeRowHere es n m f previous (leaf_then N.Data None cs rest) tail →
    opening (appended_from (n + 2) previous rest ++ tail) ≡ false →
    Merges es n m f previous (leaf_then N.Data None cs rest) tail
leaf-apart es cs rest law n m f previous tail h o =
    let more : List Event = appended_from (n + 2) previous rest ++ tail in
    let e : Event = event Kind.Enter N.Data (start_of cs) in
    let x : Event = event Kind.Exit N.Data (stop_of document_start cs) in
    let q : Option ℕ = option_map (moved_number (log_of es)) previous in
    let one-on : removed es (suc n) ≡ false = goes-next es n e (x ∷ more) h.there refl ∙ o in
    let same : n + 2 ≡ suc (suc n) = omega arith in
    let two-on : removed es (n + 2) ≡ false = ap (removed es) same ∙ goes-after es n e x more h.there refl ∙ o in
    let r = law (n + 2) (m + 2) false previous tail (record {
      there = drop-two es n e x more h.there;
      flag = two-on;
      counted = omega (arith, h.counted, pair-count es n f false h.flag one-on);
      first = λ b. absurd (both_ways false refl b);
      closed = h.closed;
      has_data = h.has_data.1;
    }) in
    let is : merged (leaf_then N.Data None cs rest) ≡ leaf_then N.Data None cs (merged rest) = merged-data cs rest ∙ apart (n + 2) previous cs rest tail o in
    let Z : List Event = edited_from (log_of es) (n + (2 + event_count rest)) tail in
    let W : List Event = x ∷ appended_from (m + 2) q (merged rest) in
    let tail-is : edited_from (log_of es) (n + 2) more ≡ appended_from (m + 2) q (merged rest) ++ Z =
    r.events ∙ ap (λ y. appended_from (m + 2) q (merged rest) ++ y) (two-more es n (event_count rest) tail) in
    record {
      events = pair es n e x more f false h.flag one-on
          ∙ ap (λ y. kept f e ++ (x ∷ y)) tail-is
          ∙ sym (append_assoc (kept f e) W Z)
          ∙ ap (λ y. y ++ Z) (kept-after f e W ∙ ap (λ t. after f (appended_from m q t)) (sym is));
      count = count-two es n (event_count rest) m (event_count (merged rest)) r.count ∙ ap (λ t. removed_before (log_of es) (n + (2 + event_count rest)) + m + event_count t) (sym is);
    }

leaf-data : (es : List Event) (cs : List Code) (rest : Forest) → MergeRowLaw es rest → MergeRowLaw es (leaf_then N.Data None cs rest)
leaf-data es cs rest law n m f previous tail h = by-next (opening (appended_from (n + 2) previous rest ++ tail)) refl
  where
    by-next : (b : Bool) → opening (appended_from (n + 2) previous rest ++ tail) ≡ b →
        Merges es n m f previous (leaf_then N.Data None cs rest) tail
    by-next true o = leaf-joined es cs rest law n m f previous tail h o
    by-next false o = leaf-apart es cs rest law n m f previous tail h o

leaf-plain : (es : List Event) (name : Name) (cs : List Code) (rest : Forest) (b : Bool) → is_data name ≡ b →
    MergeRowLaw es rest → MergeRowLaw es (leaf_then name None cs rest)
leaf-plain es name cs rest true e law =
    subst (λ n. MergeRowLaw es (leaf_then n None cs rest)) (sym (data-name name e)) (leaf-data es cs rest law)
leaf-plain es name cs rest false e law = leaf-other es name cs rest e law

-- Groups.

law-group : (es : List Event) (name : Name) (a b : Point) (inside rest : Forest) → MergeRowLaw es inside → MergeRowLaw es rest →
    MergeRowLaw es (group_then name a b inside rest)
law-group es name a b inside rest law_inside law_rest n m f previous tail h =
    let e : Event = event Kind.Enter name a in
    let x : Event = event Kind.Exit name b in
    let ci : ℕ = event_count inside in
    let mi : ℕ = event_count (merged inside) in
    let q : Option ℕ = option_map (moved_number (log_of es)) previous in
    let other : is_data name ≡ false = h.has_data.0 in
    let opens : opens_data e ≡ false = ap (λ c. c && true) other in
    let more : List Event = appended_from (n + 2 + ci) previous rest ++ tail in
    let inner : List Event = appended_from (n + 1) None inside in
    let there : drop n es ≡ e ∷ inner ++ x ∷ more = h.there ∙ ap (λ y. e ∷ y) (append_assoc inner (x ∷ appended_from (n + 2 + ci) previous rest) tail) in
    let stay : removed es n ≡ false = stays-other es n e (inner ++ x ∷ more) there opens refl in
    let f-is : f ≡ false = sym h.flag ∙ stay in
    let count : n ≡ removed_before (log_of es) n + m + 0 = subst (λ c. n ≡ removed_before (log_of es) n + m + one c) f-is h.counted in
    let n1 : n + 1 ≡ suc n = omega arith in
    let there1 : drop (n + 1) es ≡ inner ++ x ∷ more = ap (λ i. drop i es) n1 ∙ drop-more n es ∙ ap rest_of there in
    let count1 : removed_before (log_of es) (n + 1) ≡ removed_before (log_of es) n + 0 = ap (removed_before (log_of es)) n1 ∙ count-step es n false stay in
    let r = law_inside (n + 1) (m + 1) false None (x ∷ more) (record {
      there = there1;
      flag = ap (removed es) n1 ∙ stays-next es n e (inner ++ x ∷ more) there opens refl;
      counted = omega (arith, count, count1);
      first = λ c. absurd (both_ways false refl c);
      closed = refl;
      has_data = h.has_data.1.0;
    }) in
    let k : ℕ = n + 1 + ci in
    let there2 : drop k es ≡ x ∷ more = drop-part (n + 1) ci es inner (x ∷ more) there1 (length-appended_from (n + 1) None inside) in
    let closes : closes_data x ≡ false = ap (λ c. c && true) other in
    let stay2 : removed es k ≡ false = stays-other es k x more there2 refl closes in
    let n2 : n + 2 + ci ≡ suc k = omega arith in
    let m2 : m + 1 + mi + 1 ≡ m + 2 + mi = omega arith in
    let count2 : removed_before (log_of es) (n + 2 + ci) ≡ removed_before (log_of es) k + 0 = ap (removed_before (log_of es)) n2 ∙ count-step es k false stay2 in
    let t = law_rest (n + 2 + ci) (m + 2 + mi) false previous tail (record {
      there = ap (λ i. drop i es) n2 ∙ drop-more k es ∙ ap rest_of there2;
      flag = ap (removed es) n2 ∙ stays-next es k x more there2 refl closes;
      counted = omega (arith, r.count, count2);
      first = λ c. absurd (both_ways false refl c);
      closed = h.closed;
      has_data = h.has_data.1.1;
    }) in
    let cr : ℕ = event_count rest in
    let n3 : n + 2 + ci + cr ≡ n + (2 + ci + cr) = omega arith in
    let Z : List Event = edited_from (log_of es) (n + (2 + ci + cr)) tail in
    let is = merged-group name a b inside rest in
    let whole : List Event = e ∷ appended_from (m + 1) None (merged inside) ++ x ∷ appended_from (m + 2 + mi) q (merged rest) in
    let behind_x : edited_from (log_of es) (n + 2 + ci) more ≡ appended_from (m + 2 + mi) q (merged rest) ++ Z = t.events ∙ ap (λ i. appended_from (m + 2 + mi) q (merged rest) ++ edited_from (log_of es) i tail) n3 in
    let from_x : edited_from (log_of es) k (x ∷ more) ≡ x ∷ appended_from (m + 2 + mi) q (merged rest) ++ Z =
    edited-step es k x more false stay2 ∙ ap (λ i. x ∷ edited_from (log_of es) i more) (sym n2) ∙ ap (λ y. x ∷ y) behind_x in
    let from_inner : edited_from (log_of es) (suc n) (inner ++ x ∷ more) ≡ appended_from (m + 1) None (merged inside) ++ (x ∷ appended_from (m + 2 + mi) q (merged rest) ++ Z) =
    ap (λ i. edited_from (log_of es) i (inner ++ x ∷ more)) (sym n1) ∙ r.events ∙ ap (λ y. appended_from (m + 1) None (merged inside) ++ y) from_x in
    let now : edited_from (log_of es) n (e ∷ inner ++ x ∷ more) ≡ whole ++ Z =
    edited-step es n e (inner ++ x ∷ more) false stay
    ∙ ap (λ y. e ∷ y) (from_inner ∙ sym (append_assoc (appended_from (m + 1) None (merged inside)) (x ∷ appended_from (m + 2 + mi) q (merged rest)) Z)) in
    record {
      events = ap (λ y. edited_from (log_of es) n (e ∷ y)) (append_assoc inner (x ∷ appended_from (n + 2 + ci) previous rest) tail)
          ∙ now
          ∙ ap (λ u. appended_from m q u ++ Z) (sym is)
          ∙ ap (λ y. y ++ Z) (sym (after-is f (appended_from m q (merged (group_then name a b inside rest))) f-is));
      count = subst (λ i. i ≡ removed_before (log_of es) i + m + (2 + mi + event_count (merged rest))) n3 (omega (arith, t.count)) ∙ ap (λ u. removed_before (log_of es) (n + (2 + ci + cr)) + m + event_count u) (sym is);
    }

law : (es : List Event) (row : Forest) → MergeRowLaw es row
law es empty = law-empty es
law es (leaf_then name None cs rest) = leaf-plain es name cs rest (is_data name) refl (law es rest)
law es (leaf_then name (Some c) cs rest) = leaf-linked es name c cs rest (law es rest)
law es (group_then name a b inside rest) = law-group es name a b inside rest (law es inside) (law es rest)

-- merging the events of a tree leaves those of the merged tree
pub merged-events : (t : Forest) → HasData t → (es : List Event) → es ≡ appended_from 0 None t →
    edited (joints 0 es) es ≡ appended_from 0 None (merged t)
merged-events t d es e =
    let whole : es ≡ appended_from 0 None t ++ [] = e ∙ sym (append-nil (appended_from 0 None t)) in
    let r = law es t 0 0 false None [] (record { there = whole; flag = refl; counted = refl; first = λ c. absurd (both_ways false refl c); closed = refl; has_data = d }) in
    ap (edited_from (log_of es) 0) whole
    ∙ r.events
    ∙ ap (λ y. appended_from 0 None (merged t) ++ y) (edited-end es (0 + event_count t))
    ∙ append-nil (appended_from 0 None (merged t))

-- two events or fewer are no neighbouring data

none-joined : (es : List Event) → length es ≤ 2 → joints 0 es ≡ []
none-joined [] h = refl
none-joined (e ∷ []) h = ap (λ b. marked b 1 ++ []) (and-false (opens_data e))
none-joined (e ∷ x ∷ []) h =
    ap (λ b. marked (opens_data e && b) 1 ++ joints 1 (x ∷ [])) (and-false (closes_data x))
    ∙ ap (λ b. marked b 1 ++ joints 1 (x ∷ [])) (and-false (opens_data e))
    ∙ ap (λ b. marked b 2 ++ []) (and-false (opens_data x))
none-joined (e ∷ x ∷ y ∷ es) h = absurd (omega (arith, h))

pub few-merged : (t : Forest) → HasData t → (es : List Event) → es ≡ appended_from 0 None t → length es ≤ 2 →
    es ≡ appended_from 0 None (merged t)
few-merged t d es e few =
    sym (edited-nil es) ∙ ap (λ log. edited log es) (sym (none-joined es few)) ∙ merged-events t d es e
