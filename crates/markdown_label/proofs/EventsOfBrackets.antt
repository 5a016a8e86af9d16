-- the parts of brackets: their events before are those of the flat tree, and after those of the grouped one
use Rattle.std.proofs.Common.{◌≡◌, ℕ, suc, ◌+◌, Option, Some, None, List, [], ◌∷◌, ◌++◌, length, drop, refl, sym, ap, ◌∙◌, arith, append_assoc}
use Rattle.std.proofs.lemmas.List.{append-nil}
use Rattle.markdown_content.specs.Codes.{Code, stop_of, document_start}
use Rattle.markdown_engine.specs.PastTree.{appended_from, last_link}
use Rattle.markdown_content.specs.Tree.{Forest, empty, leaf_then, group_then, leaf, ◌⊕◌, group, text_group, start_of, event, event_count}
use Rattle.markdown_event.specs.declared.event.Event.{Event}
use Rattle.markdown_event.specs.declared.event.Kind.{Kind}
use Rattle.markdown_event.specs.declared.event.Name.{Name}
use Rattle.markdown_engine.proofs.TreeEvents.{appended_from-row}
use Rattle.markdown_model.specs.Passes.{label_group, label_name, start_marker, start_tree}
use Rattle.markdown_engine.specs.OrderedEdits.{EditPart, comes, stays, before_from, after_from}
use Rattle.markdown_label.specs.Brackets.{Front, link_front, image_front, call_front, caret_front, kind_of, codes_of, start_row, end_row, Tail, no_tail, one_tail, tail_row, Brackets, nothing, tree_then, label_then, unused_then}
use Rattle.markdown_label.specs.Brackets.{failed_then, flat, grouped, IsApart, last_of, count, opened_of, ended, closed, as_data, first_start, last_stop, going_of, start_events, end_events, tail_stop, parts_of}

-- Rows.

pub count-join : (t u : Forest) → event_count (t ⊕ u) ≡ event_count t + event_count u
count-join empty u = omega arith
count-join (leaf_then name link cs rest) u = omega (arith, count-join rest u)
count-join (group_then name a b inside rest) u = omega (arith, count-join rest u)

pub last-join : (n : ℕ) (p : Option ℕ) (t u : Forest) →
    last_link n p (t ⊕ u) ≡ last_link (n + event_count t) (last_link n p t) u
last-join n p empty u = ap (λ i. last_link i p u) (omega arith)
last-join n p (leaf_then name None cs rest) u =
    last-join (n + 2) p rest u ∙ ap (λ i. last_link i (last_link (n + 2) p rest) u) (omega arith)
last-join n p (leaf_then name (Some c) cs rest) u =
    last-join (n + 2) (Some n) rest u ∙ ap (λ i. last_link i (last_link (n + 2) (Some n) rest) u) (omega arith)
last-join n p (group_then name a b inside rest) u =
    last-join (n + 2 + event_count inside) p rest u ∙ ap (λ i. last_link i (last_link (n + 2 + event_count inside) p rest) u) (omega arith)

-- a row behind one that is linked with none behind it, and other events
pub row-then : (n : ℕ) (t u : Forest) (zs : List Event) → last_link n None t ≡ None →
    appended_from n None (t ⊕ u) ++ zs ≡ appended_from n None t ++ (appended_from (n + event_count t) None u ++ zs)
row-then n t u zs h =
    ap (λ xs. xs ++ zs) (appended_from-row n None t u ∙ ap (λ p. appended_from n None t ++ appended_from (n + event_count t) p u) h)
    ∙ append_assoc (appended_from n None t) (appended_from (n + event_count t) None u) zs

-- Starts, ends and tails.

pub start-count : (f : Front) → event_count (start_row f) ≡ suc (last_of f)
start-count (link_front c) = refl
start-count (image_front c d) = refl
start-count (call_front c d) = refl
start-count (caret_front c d) = refl

pub start-last : (n : ℕ) (f : Front) → last_link n None (start_row f) ≡ None
start-last n (link_front c) = refl
start-last n (image_front c d) = refl
start-last n (call_front c d) = refl
start-last n (caret_front c d) = refl

pub start-is : (n : ℕ) (f : Front) → appended_from n None (start_row f) ≡ start_events f
start-is n (link_front c) = refl
start-is n (image_front c d) = refl
start-is n (call_front c d) = refl
start-is n (caret_front c d) = refl

pub tail-last : (n : ℕ) (t : Tail) → last_link n None (tail_row t) ≡ None
tail-last n no_tail = refl
tail-last n (one_tail name a b inside) = refl

before-going : (n : ℕ) (f : Front) (parts : List EditPart) →
    before_from n (going_of (start_events f) ∷ parts) ≡ start_events f ++ before_from (n + suc (last_of f)) parts
before-going n (link_front c) parts = refl
before-going n (image_front c d) parts = refl
before-going n (call_front c d) parts = refl
before-going n (caret_front c d) parts = refl

after-going : (m : ℕ) (f : Front) (parts : List EditPart) →
    after_from m (going_of (start_events f) ∷ parts) ≡ after_from m parts
after-going m (link_front c) parts = refl
after-going m (image_front c d) parts = refl
after-going m (call_front c d) parts = refl
after-going m (caret_front c d) parts = refl

-- a row behind a start
pub start-then : (n : ℕ) (f : Front) (u : Forest) (zs : List Event) →
    appended_from n None (start_row f ⊕ u) ++ zs ≡ start_events f ++ (appended_from (n + suc (last_of f)) None u ++ zs)
start-then n f u zs =
    row-then n (start_row f) u zs (start-last n f)
    ∙ ap (λ i. appended_from n None (start_row f) ++ (appended_from (n + i) None u ++ zs)) (start-count f)
    ∙ ap (λ xs. xs ++ (appended_from (n + suc (last_of f)) None u ++ zs)) (start-is n f)

-- Counts.

pub count-is : (b : Brackets) → event_count (flat b) ≡ count b
count-is nothing = refl
count-is (tree_then t rest) = omega (arith, count-join t (flat rest), count-is rest)
count-is (label_then f inside back tail rest) =
    omega (arith, count-join (start_row f) (flat inside ⊕ (end_row back ⊕ (tail_row tail ⊕ flat rest))), start-count f, count-join (flat inside) (end_row back ⊕ (tail_row tail ⊕ flat rest)), count-is inside, count-join (end_row back) (tail_row tail ⊕ flat rest), count-join (tail_row tail) (flat rest), count-is rest)
count-is (unused_then f rest) = omega (arith, count-join (start_row f) (flat rest), start-count f, count-is rest)
count-is (failed_then f inside rest) =
    omega (arith, count-join (start_row f) (flat inside ⊕ flat rest), start-count f, count-join (flat inside) (flat rest), count-is inside, count-is rest)

-- no row is linked with one behind it
pub flat-last : (n : ℕ) (b : Brackets) → IsApart b → last_link n None (flat b) ≡ None
flat-last n nothing h = refl
flat-last n (tree_then t rest) h =
    last-join n None t (flat rest) ∙ ap (λ p. last_link (n + event_count t) p (flat rest)) (h.0 n) ∙ flat-last (n + event_count t) rest h.1
flat-last n (label_then f inside back tail rest) h =
    let u : Forest = tail_row tail ⊕ flat rest in
    let i : ℕ = n + event_count (start_row f) in
    let e : ℕ = i + event_count (flat inside) in
    last-join n None (start_row f) (flat inside ⊕ (end_row back ⊕ u))
    ∙ ap (λ p. last_link i p (flat inside ⊕ (end_row back ⊕ u))) (start-last n f)
    ∙ last-join i None (flat inside) (end_row back ⊕ u)
    ∙ ap (λ p. last_link e p (end_row back ⊕ u)) (flat-last i inside h.0)
    ∙ last-join e None (end_row back) u
    ∙ last-join (e + event_count (end_row back)) None (tail_row tail) (flat rest)
    ∙ ap (λ p. last_link (e + event_count (end_row back) + event_count (tail_row tail)) p (flat rest)) (tail-last (e + event_count (end_row back)) tail)
    ∙ flat-last (e + event_count (end_row back) + event_count (tail_row tail)) rest h.1
flat-last n (unused_then f rest) h =
    last-join n None (start_row f) (flat rest) ∙ ap (λ p. last_link (n + event_count (start_row f)) p (flat rest)) (start-last n f) ∙ flat-last (n + event_count (start_row f)) rest h
flat-last n (failed_then f inside rest) h =
    let i : ℕ = n + event_count (start_row f) in
    last-join n None (start_row f) (flat inside ⊕ flat rest)
    ∙ ap (λ p. last_link i p (flat inside ⊕ flat rest)) (start-last n f)
    ∙ last-join i None (flat inside) (flat rest)
    ∙ ap (λ p. last_link (i + event_count (flat inside)) p (flat rest)) (flat-last i inside h.0)
    ∙ flat-last (i + event_count (flat inside)) rest h.1

-- a row behind brackets
pub flat-then : (n : ℕ) (b : Brackets) (u : Forest) (zs : List Event) → IsApart b →
    appended_from n None (flat b ⊕ u) ++ zs ≡ appended_from n None (flat b) ++ (appended_from (n + count b) None u ++ zs)
flat-then n b u zs h =
    row-then n (flat b) u zs (flat-last n b h) ∙ ap (λ i. appended_from n None (flat b) ++ (appended_from (n + i) None u ++ zs)) (count-is b)

-- Before.

abbrev BeforeLaw : Brackets → Type 0
BeforeLaw b =
    (n : ℕ) (more : List EditPart) → before_from n (parts_of b ++ more) ≡ appended_from n None (flat b) ++ before_from (n + count b) more

abbrev pub behind_end : Front → Code → Tail → List EditPart → List EditPart
behind_end f back tail parts =
    comes (ended back.start back.stop) ∷ going_of (end_events back) ∷ stays (tail_row tail) ∷ comes (closed (kind_of f) (tail_stop back tail)) ∷ parts

before-end : (e : ℕ) (f : Front) (back : Code) (tail : Tail) (rest : Brackets) (more : List EditPart) → BeforeLaw rest →
    before_from e (behind_end f back tail (parts_of rest ++ more)) ≡ appended_from e None (end_row back ⊕ (tail_row tail ⊕ flat rest)) ++ before_from (e + (4 + (event_count (tail_row tail) + count rest))) more
before-end e f back tail rest more law =
    let g : ℕ = e + 4 in
    let x : ℕ = g + event_count (tail_row tail) in
    let last : x + count rest ≡ e + (4 + (event_count (tail_row tail) + count rest)) = omega arith in
    let zs : List Event = before_from (e + (4 + (event_count (tail_row tail) + count rest))) more in
    ap (λ xs. end_events back ++ (appended_from g None (tail_row tail) ++ xs)) (law x more ∙ ap (λ i. appended_from x None (flat rest) ++ before_from i more) last)
    ∙ ap (λ xs. end_events back ++ xs) (sym (row-then g (tail_row tail) (flat rest) zs (tail-last g tail)))
    ∙ sym (row-then e (end_row back) (tail_row tail ⊕ flat rest) zs refl)

pub before : (b : Brackets) → IsApart b → BeforeLaw b
before nothing h n more = ap (λ i. before_from i more) (omega arith)
before (tree_then t rest) h n more =
    let last : n + event_count t + count rest ≡ n + (event_count t + count rest) = omega arith in
    let zs : List Event = before_from (n + (event_count t + count rest)) more in
    ap (λ xs. appended_from n None t ++ xs) (before rest h.1 (n + event_count t) more ∙ ap (λ i. appended_from (n + event_count t) None (flat rest) ++ before_from i more) last)
    ∙ sym (row-then n t (flat rest) zs (h.0 n))
before (label_then f inside back tail rest) h n more =
    let i : ℕ = n + suc (last_of f) in
    let e : ℕ = i + count inside in
    let size : ℕ = 4 + (event_count (tail_row tail) + count rest) in
    let last : e + size ≡ n + (suc (last_of f) + (count inside + size)) = omega arith in
    let zs : List Event = before_from (n + (suc (last_of f) + (count inside + size))) more in
    let u : Forest = end_row back ⊕ (tail_row tail ⊕ flat rest) in
    before-going n f ((parts_of inside ++ behind_end f back tail (parts_of rest)) ++ more)
    ∙ ap (λ ps. start_events f ++ before_from i ps) (append_assoc (parts_of inside) (behind_end f back tail (parts_of rest)) more)
    ∙ ap (λ xs. start_events f ++ xs) (before inside h.0 i (behind_end f back tail (parts_of rest ++ more)))
    ∙ ap (λ xs. start_events f ++ (appended_from i None (flat inside) ++ xs)) (before-end e f back tail rest more (before rest h.1) ∙ ap (λ j. appended_from e None u ++ before_from j more) last)
    ∙ ap (λ xs. start_events f ++ xs) (sym (flat-then i inside u zs h.0))
    ∙ sym (start-then n f (flat inside ⊕ u) zs)
before (unused_then f rest) h n more =
    let last : n + suc (last_of f) + count rest ≡ n + (suc (last_of f) + count rest) = omega arith in
    let zs : List Event = before_from (n + (suc (last_of f) + count rest)) more in
    before-going n f (parts_of rest ++ more)
    ∙ ap (λ xs. start_events f ++ xs) (before rest h (n + suc (last_of f)) more ∙ ap (λ i. appended_from (n + suc (last_of f)) None (flat rest) ++ before_from i more) last)
    ∙ sym (start-then n f (flat rest) zs)
before (failed_then f inside rest) h n more =
    let i : ℕ = n + suc (last_of f) in
    let last : i + count inside + count rest ≡ n + (suc (last_of f) + (count inside + count rest)) = omega arith in
    let zs : List Event = before_from (n + (suc (last_of f) + (count inside + count rest))) more in
    before-going n f ((parts_of inside ++ parts_of rest) ++ more)
    ∙ ap (λ ps. start_events f ++ before_from i ps) (append_assoc (parts_of inside) (parts_of rest) more)
    ∙ ap (λ xs. start_events f ++ xs) (before inside h.0 i (parts_of rest ++ more))
    ∙ ap (λ xs. start_events f ++ (appended_from i None (flat inside) ++ xs)) (before rest h.1 (i + count inside) more ∙ ap (λ j. appended_from (i + count inside) None (flat rest) ++ before_from j more) last)
    ∙ ap (λ xs. start_events f ++ xs) (sym (flat-then i inside (flat rest) zs h.0))
    ∙ sym (start-then n f (flat inside ⊕ flat rest) zs)

-- the events before are those of the flat tree
pub before-parts : (b : Brackets) → IsApart b → before_from 0 (parts_of b) ≡ appended_from 0 None (flat b)
before-parts b h =
    ap (before_from 0) (sym (append-nil (parts_of b))) ∙ before b h 0 [] ∙ append-nil (appended_from 0 None (flat b))

-- After.

regroup : (us es ts : List Event) (x y : Event) →
    ((us ++ es) ++ (x ∷ ts)) ++ (y ∷ []) ≡ us ++ (es ++ (x ∷ (ts ++ (y ∷ []))))
regroup us es ts x y = append_assoc (us ++ es) (x ∷ ts) (y ∷ []) ∙ append_assoc us es (x ∷ (ts ++ (y ∷ [])))

-- the number of what follows the end
abbrev behind : ℕ → Front → Forest → ℕ
behind m f inside = m + length (opened_of f) + event_count inside + 6

label-size : (f : Front) (inside : Forest) (back : Code) (tail : Tail) →
    event_count (label_group (kind_of f) (codes_of f) inside (back ∷ []) (tail_row tail)) ≡ length (opened_of f) + event_count inside + 6 + event_count (tail_row tail) + 1
label-size (link_front c) inside back no_tail = omega arith
label-size (link_front c) inside back (one_tail name a b t) = omega arith
label-size (image_front c d) inside back no_tail = omega arith
label-size (image_front c d) inside back (one_tail name a b t) = omega arith
label-size (call_front c d) inside back no_tail = omega arith
label-size (call_front c d) inside back (one_tail name a b t) = omega arith
label-size (caret_front c d) inside back no_tail = omega arith
label-size (caret_front c d) inside back (one_tail name a b t) = omega arith

-- what stands in a label
abbrev label_body : Front → Forest → Code → Forest
label_body f inside back =
    let front = start_marker (kind_of f) (codes_of f) in
    start_tree (kind_of f) front
    ⊕ text_group Name.LabelText (stop_of document_start front) (start_of (back ∷ [])) (leaf Name.Data (drop (length front) (codes_of f)) ⊕ inside)
    ⊕ group Name.LabelEnd (leaf Name.LabelMarker (back ∷ []))

abbrev ending : Code → List Event
ending back =
    event Kind.Exit Name.LabelText back.start
    ∷ event Kind.Enter Name.LabelEnd back.start ∷ event Kind.Enter Name.LabelMarker back.start ∷ event Kind.Exit Name.LabelMarker back.stop ∷ event Kind.Exit Name.LabelEnd back.stop
    ∷ []

spread : (m i j : ℕ) (f : Front) (inside : Forest) (back : Code) (tail : Tail) → i ≡ m + length (opened_of f) →
    j ≡ behind m f inside →
    opened_of f ++ (((appended_from i None inside ++ ending back) ++ (event Kind.Exit Name.Label back.stop ∷ appended_from j None (tail_row tail))) ++ closed (kind_of f) (tail_stop back tail)) ≡ opened_of f ++ (appended_from (m + length (opened_of f)) None inside ++ (ended back.start back.stop ++ (appended_from (behind m f inside) None (tail_row tail) ++ closed (kind_of f) (tail_stop back tail))))
spread m i j f inside back tail h k =
    let y : Event = event Kind.Exit (label_name (kind_of f)) (tail_stop back tail) in
    let x : Event = event Kind.Exit Name.Label back.stop in
    ap (λ xs. opened_of f ++ xs) (regroup (appended_from i None inside) (ending back) (appended_from j None (tail_row tail)) x y)
    ∙ ap (λ n. opened_of f ++ (appended_from n None inside ++ (ended back.start back.stop ++ (appended_from j None (tail_row tail) ++ closed (kind_of f) (tail_stop back tail))))) h
    ∙ ap (λ n. opened_of f ++ (appended_from (m + length (opened_of f)) None inside ++ (ended back.start back.stop ++ (appended_from n None (tail_row tail) ++ closed (kind_of f) (tail_stop back tail))))) k

-- the events of a label
label-events : (m : ℕ) (f : Front) (inside : Forest) (back : Code) (tail : Tail) →
    appended_from m None (label_group (kind_of f) (codes_of f) inside (back ∷ []) (tail_row tail)) ≡ opened_of f ++ (appended_from (m + length (opened_of f)) None inside ++ (ended back.start back.stop ++ (appended_from (behind m f inside) None (tail_row tail) ++ closed (kind_of f) (tail_stop back tail))))
label-events m (link_front c) inside back no_tail =
    spread m (m + 1 + 1 + 2 + 2 + 1) (m + 1 + 2 + event_count (label_body (link_front c) inside back)) (link_front c) inside back no_tail (omega arith) (omega arith)
label-events m (link_front c) inside back (one_tail name a b t) =
    spread m (m + 1 + 1 + 2 + 2 + 1) (m + 1 + 2 + event_count (label_body (link_front c) inside back)) (link_front c) inside back (one_tail name a b t) (omega arith) (omega arith)
label-events m (image_front c d) inside back no_tail =
    spread m (m + 1 + 1 + 2 + 4 + 1) (m + 1 + 2 + event_count (label_body (image_front c d) inside back)) (image_front c d) inside back no_tail (omega arith) (omega arith)
label-events m (image_front c d) inside back (one_tail name a b t) =
    spread m (m + 1 + 1 + 2 + 4 + 1) (m + 1 + 2 + event_count (label_body (image_front c d) inside back)) (image_front c d) inside back (one_tail name a b t) (omega arith) (omega arith)
label-events m (call_front c d) inside back no_tail =
    spread m (m + 1 + 1 + 2 + 4 + 1) (m + 1 + 2 + event_count (label_body (call_front c d) inside back)) (call_front c d) inside back no_tail (omega arith) (omega arith)
label-events m (call_front c d) inside back (one_tail name a b t) =
    spread m (m + 1 + 1 + 2 + 4 + 1) (m + 1 + 2 + event_count (label_body (call_front c d) inside back)) (call_front c d) inside back (one_tail name a b t) (omega arith) (omega arith)
label-events m (caret_front c d) inside back no_tail =
    spread m (m + 1 + 1 + 2 + 2 + 1 + 2) (m + 1 + 2 + event_count (label_body (caret_front c d) inside back)) (caret_front c d) inside back no_tail (omega arith) (omega arith)
label-events m (caret_front c d) inside back (one_tail name a b t) =
    spread m (m + 1 + 1 + 2 + 2 + 1 + 2) (m + 1 + 2 + event_count (label_body (caret_front c d) inside back)) (caret_front c d) inside back (one_tail name a b t) (omega arith) (omega arith)

data-then : (m : ℕ) (f : Front) (u : Forest) (zs : List Event) →
    appended_from m None (leaf Name.Data (codes_of f) ⊕ u) ++ zs ≡ as_data (first_start f) (last_stop f) ++ (appended_from (m + 2) None u ++ zs)
data-then m (link_front c) u zs = refl
data-then m (image_front c d) u zs = refl
data-then m (call_front c d) u zs = refl
data-then m (caret_front c d) u zs = refl

data-count : (f : Front) (u : Forest) → event_count (leaf Name.Data (codes_of f) ⊕ u) ≡ 2 + event_count u
data-count (link_front c) u = refl
data-count (image_front c d) u = refl
data-count (call_front c d) u = refl
data-count (caret_front c d) u = refl

data-last : (n : ℕ) (f : Front) (u : Forest) →
    last_link n None (leaf Name.Data (codes_of f) ⊕ u) ≡ last_link (n + 2) None u
data-last n (link_front c) u = refl
data-last n (image_front c d) u = refl
data-last n (call_front c d) u = refl
data-last n (caret_front c d) u = refl

grouped-last : (n : ℕ) (b : Brackets) → IsApart b → last_link n None (grouped b) ≡ None
grouped-last n nothing h = refl
grouped-last n (tree_then t rest) h =
    last-join n None t (grouped rest) ∙ ap (λ p. last_link (n + event_count t) p (grouped rest)) (h.0 n) ∙ grouped-last (n + event_count t) rest h.1
grouped-last n (label_then f inside back tail rest) h =
    let u : Forest = label_group (kind_of f) (codes_of f) (grouped inside) (back ∷ []) (tail_row tail) in
    last-join n None u (grouped rest) ∙ grouped-last (n + event_count u) rest h.1
grouped-last n (unused_then f rest) h = data-last n f (grouped rest) ∙ grouped-last (n + 2) rest h
grouped-last n (failed_then f inside rest) h =
    data-last n f (grouped inside ⊕ grouped rest)
    ∙ last-join (n + 2) None (grouped inside) (grouped rest)
    ∙ ap (λ p. last_link (n + 2 + event_count (grouped inside)) p (grouped rest)) (grouped-last (n + 2) inside h.0)
    ∙ grouped-last (n + 2 + event_count (grouped inside)) rest h.1

abbrev AfterLaw : Brackets → Type 0
AfterLaw b =
    (m : ℕ) (more : List EditPart) → after_from m (parts_of b ++ more) ≡ appended_from m None (grouped b) ++ after_from (m + event_count (grouped b)) more

four : (a b c d e z : List Event) → (a ++ (b ++ (c ++ (d ++ e)))) ++ z ≡ a ++ (b ++ (c ++ (d ++ (e ++ z))))
four a b c d e z =
    append_assoc a (b ++ (c ++ (d ++ e))) z
    ∙ ap (λ x. a ++ x) (append_assoc b (c ++ (d ++ e)) z ∙ ap (λ x. b ++ x) (append_assoc c (d ++ e) z ∙ ap (λ x. c ++ x) (append_assoc d e z)))

pub after : (b : Brackets) → IsApart b → AfterLaw b
after nothing h m more = ap (λ i. after_from i more) (omega arith)
after (tree_then t rest) h m more =
    let last : m + event_count t + event_count (grouped rest) ≡ m + event_count (t ⊕ grouped rest) = omega (arith, count-join t (grouped rest)) in
    let zs : List Event = after_from (m + event_count (t ⊕ grouped rest)) more in
    ap (λ xs. appended_from m None t ++ xs) (after rest h.1 (m + event_count t) more ∙ ap (λ i. appended_from (m + event_count t) None (grouped rest) ++ after_from i more) last)
    ∙ sym (row-then m t (grouped rest) zs (h.0 m))
after (label_then f inside back tail rest) h m more =
    let o : List Event = opened_of f in
    let r : Forest = tail_row tail in
    let g : Forest = label_group (kind_of f) (codes_of f) (grouped inside) (back ∷ []) r in
    let m1 : ℕ = m + length o in
    let m2 : ℕ = m1 + event_count (grouped inside) in
    let m3 : ℕ = m2 + 6 + event_count r + 1 in
    let e : List Event = ended back.start back.stop in
    let c : List Event = closed (kind_of f) (tail_stop back tail) in
    let size = label-size f (grouped inside) back tail in
    let there : m3 ≡ m + event_count g = omega (arith, size) in
    let last : m3 + event_count (grouped rest) ≡ m + event_count (g ⊕ grouped rest) = omega (arith, size, count-join g (grouped rest)) in
    let zs : List Event = after_from (m + event_count (g ⊕ grouped rest)) more in
    let ai : List Event = appended_from m1 None (grouped inside) in
    let at : List Event = appended_from (m2 + 6) None r in
    ap (λ xs. o ++ xs) (after-going m1 f ((parts_of inside ++ behind_end f back tail (parts_of rest)) ++ more))
    ∙ ap (λ ps. o ++ after_from m1 ps) (append_assoc (parts_of inside) (behind_end f back tail (parts_of rest)) more)
    ∙ ap (λ xs. o ++ xs) (after inside h.0 m1 (behind_end f back tail (parts_of rest ++ more)))
    ∙ ap (λ xs. o ++ (ai ++ (e ++ (at ++ (c ++ xs))))) (after rest h.1 m3 more ∙ ap (λ i. appended_from m3 None (grouped rest) ++ after_from i more) last ∙ ap (λ i. appended_from i None (grouped rest) ++ zs) there)
    ∙ sym (four o ai e at c (appended_from (m + event_count g) None (grouped rest) ++ zs))
    ∙ ap (λ xs. xs ++ (appended_from (m + event_count g) None (grouped rest) ++ zs)) (sym (label-events m f (grouped inside) back tail))
    ∙ sym (row-then m g (grouped rest) zs refl)
after (unused_then f rest) h m more =
    let last : m + 2 + event_count (grouped rest) ≡ m + event_count (leaf Name.Data (codes_of f) ⊕ grouped rest) = omega (arith, data-count f (grouped rest)) in
    let zs : List Event = after_from (m + event_count (leaf Name.Data (codes_of f) ⊕ grouped rest)) more in
    ap (λ xs. as_data (first_start f) (last_stop f) ++ xs) (after-going (m + 2) f (parts_of rest ++ more) ∙ after rest h (m + 2) more ∙ ap (λ i. appended_from (m + 2) None (grouped rest) ++ after_from i more) last)
    ∙ sym (data-then m f (grouped rest) zs)
after (failed_then f inside rest) h m more =
    let u : Forest = grouped inside ⊕ grouped rest in
    let k : ℕ = m + 2 + event_count (grouped inside) in
    let last : k + event_count (grouped rest) ≡ m + event_count (leaf Name.Data (codes_of f) ⊕ u) = omega (arith, data-count f u, count-join (grouped inside) (grouped rest)) in
    let zs : List Event = after_from (m + event_count (leaf Name.Data (codes_of f) ⊕ u)) more in
    ap (λ xs. as_data (first_start f) (last_stop f) ++ xs)
    (after-going (m + 2) f ((parts_of inside ++ parts_of rest) ++ more)
    ∙ ap (after_from (m + 2)) (append_assoc (parts_of inside) (parts_of rest) more)
    ∙ after inside h.0 (m + 2) (parts_of rest ++ more)
    ∙ ap (λ xs. appended_from (m + 2) None (grouped inside) ++ xs) (after rest h.1 k more ∙ ap (λ i. appended_from k None (grouped rest) ++ after_from i more) last)
    ∙ sym (row-then (m + 2) (grouped inside) (grouped rest) zs (grouped-last (m + 2) inside h.0)))
    ∙ sym (data-then m f u zs)

-- the events after are those of the grouped tree
pub after-parts : (b : Brackets) → IsApart b → after_from 0 (parts_of b) ≡ appended_from 0 None (grouped b)
after-parts b h =
    ap (after_from 0) (sym (append-nil (parts_of b))) ∙ after b h 0 [] ∙ append-nil (appended_from 0 None (grouped b))
