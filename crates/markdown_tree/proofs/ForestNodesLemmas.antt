-- The nodes of a forest's events are its trees.
use Rattle.std.proofs.Common.{◌≡◌, ℕ, zero, suc, ◌+◌, Option, Some, None, List, [], ◌∷◌, ◌++◌, length, take, drop, map, slice_get, refl, sym, ap, subst, ◌∙◌, arith}
use Rattle.std.specs.List.{All}
use Rattle.std.specs.Option.{option_and_then}
use Rattle.std.proofs.lemmas.List.{append-nil, append_assoc, length-append, take_at, drop_at, map-append}
use Rattle.std.proofs.lemmas.List.Elements.{All-nil, All-cons, All-append}
use Rattle.markdown_content.specs.Codes.{stop_of, document_start}
use Rattle.markdown_content.specs.Nesting.{outer, opened, open_after}
use Rattle.markdown_content.specs.Tree.{Forest, empty, leaf_then, group_then, start_of, event, event_count, next_linked, events_from, events_of}
use Rattle.markdown_event.specs.declared.event.Event.{Event}
use Rattle.markdown_event.specs.declared.event.Kind.TheVariants.{Enter, Exit}
use Rattle.markdown_event.specs.declared.event.Name.{Name}
use Rattle.markdown_event.specs.declared.event.Point.{Point}
use Rattle.markdown_tree.specs.Nodes.{closed, exits_ahead, if_enter, enter_at, exit_at, parent_at, node_of, node_at}
use Rattle.markdown_tree.specs.ForestNodes.{Placed, first_of, placed_leaf, placed_group, placed_from, placed_of, StandsIn, enters_from, NodesAreTrees}

-- Events of siblings open and end alike.

pub length-events : (n : ℕ) (p : Option ℕ) (f : Forest) → length (events_from n p f) ≡ event_count f
length-events n p empty = refl
length-events n p (leaf_then name None codes rest) = grind (arith, length-events (n + 2) p rest)
length-events n p (leaf_then name (Some content) codes rest) = grind (arith, length-events (n + 2) (Some n) rest)
length-events n p (group_then name enter exit inside rest) = grind (arith, length-events (n + 1) None inside, length-events (n + 2 + event_count inside) p rest, length-append)

-- read from the end, what is open before siblings is open behind them
pub ahead-past : (n m : ℕ) (p : Option ℕ) (f : Forest) (r : List Event) →
    exits_ahead n (events_from m p f ++ r) ≡ exits_ahead (n + event_count f) r
ahead-past n m p empty r = let s : n ≡ n + 0 = omega arith in ap (λ k. exits_ahead k r) s
ahead-past n m p (leaf_then name None codes rest) r = grind (arith, ahead-past (suc (suc n)) (m + 2) p rest r)
ahead-past n m p (leaf_then name (Some content) codes rest) r = grind (arith, ahead-past (suc (suc n)) (m + 2) (Some m) rest r)
ahead-past n m p (group_then name enter exit inside rest) r =
    let c = event_count inside in
    let i = events_from (m + 1) None inside in
    let b = events_from (m + 2 + c) p rest in
    let s : suc (suc n + c) + event_count rest ≡ n + (2 + c + event_count rest) = omega arith in
    ap (λ es. outer (exits_ahead (suc n) es)) (append_assoc i (event Exit name exit ∷ b) r)
    ∙ ap outer (ahead-past (suc n) (m + 1) None inside (event Exit name exit ∷ (b ++ r)))
    ∙ ahead-past (suc (suc n + c)) (m + 2 + c) p rest r
    ∙ ap (λ k. exits_ahead k r) s

-- what is open before siblings is open behind them
pub open-past : (n m : ℕ) (o : List ℕ) (p : Option ℕ) (f : Forest) (r : List Event) →
    open_after n o (events_from m p f ++ r) ≡ open_after (n + event_count f) o r
open-past n m o p empty r = let s : n ≡ n + 0 = omega arith in ap (λ k. open_after k o r) s
open-past n m o p (leaf_then name None codes rest) r = grind (arith, open-past (suc (suc n)) (m + 2) o p rest r)
open-past n m o p (leaf_then name (Some content) codes rest) r = grind (arith, open-past (suc (suc n)) (m + 2) o (Some m) rest r)
open-past n m o p (group_then name enter exit inside rest) r =
    let c = event_count inside in
    let i = events_from (m + 1) None inside in
    let b = events_from (m + 2 + c) p rest in
    let s : suc (suc n + c) + event_count rest ≡ n + (2 + c + event_count rest) = omega arith in
    ap (λ es. open_after (suc n) (n ∷ o) es) (append_assoc i (event Exit name exit ∷ b) r)
    ∙ open-past (suc n) (m + 1) (n ∷ o) None inside (event Exit name exit ∷ (b ++ r))
    ∙ open-past (suc (suc n + c)) (m + 2 + c) o p rest r
    ∙ ap (λ k. open_after k o r) s

pub open-append : (n : ℕ) (o : List ℕ) (a b : List Event) → open_after n o (a ++ b) ≡ open_after (n + length a) (open_after n o a) b
open-append n o [] b = let s : n ≡ n + 0 = omega arith in ap (λ k. open_after k o b) s
open-append n o (e ∷ a) b = grind (arith, open-append (suc n) (opened n e.kind o) a b)

-- One node among other events.

pub seam-get : (b : List Event) (e : Event) (t : List Event) (n : ℕ) → length b ≡ n → slice_get (b ++ e ∷ t) n ≡ Some e
seam-get (x ∷ b) e t (suc n) h = seam-get b e t n (omega (arith, h))
seam-get b e t n h = cc

seam-end : (b : List Event) (n : ℕ) → length b ≡ n → slice_get (b ++ []) n ≡ None
seam-end [] n h = refl
seam-end (x ∷ b) zero h = absurd (omega (arith, h))
seam-end (x ∷ b) (suc n) h = seam-end b n (omega (arith, h))

pub enter-here : (b : List Event) (e : Event) (t : List Event) (n : ℕ) → length b ≡ n → e.kind ≡ Enter → enter_at (b ++ e ∷ t) n ≡ Some n
enter-here b e t n h k = grind (arith, seam-get)

-- behind siblings stands no Enter
abbrev EndsThere : List Event → Type 0
EndsThere [] = Unit {0}
EndsThere (e ∷ es) = e.kind ≡ Exit

pub first-here : (b a : List Event) (n : ℕ) (p : Option ℕ) (f : Forest) → length b ≡ n → EndsThere a →
    enter_at (b ++ (events_from n p f ++ a)) n ≡ first_of n f
first-here b a n p f h k = grind (arith, seam-end, seam-get, enter-here)

exit-here : (b : List Event) (e : Event) (t : List Event) (n : ℕ) (k : ℕ) (ks : List ℕ) → length b ≡ n → e.kind ≡ Enter →
    exits_ahead (n + 1) t ≡ k ∷ ks → exit_at (b ++ e ∷ t) n ≡ Some k
exit-here b e t n k ks h d x = grind (arith, length-append b (e ∷ []), append_assoc b (e ∷ []) t, drop_at, enter-here b e t n h d)

node-here : (b : List Event) (e : Event) (t : List Event) (x : Event) (n k : ℕ) → length b ≡ n →
    exit_at (b ++ e ∷ t) n ≡ Some k → slice_get (b ++ e ∷ t) k ≡ Some x → node_at (b ++ e ∷ t) n ≡ Some (node_of n k e x)
node-here b e t x n k h d g = grind (arith, seam-get b e t n h)

parent-here : (b : List Event) (e : Event) (t : List Event) (n : ℕ) (p : Option ℕ) → length b ≡ n → e.kind ≡ Enter →
    slice_get (open_after 0 [] b) 0 ≡ p → parent_at (b ++ e ∷ t) n ≡ p
parent-here b e t n p h d g = grind (arith, enter-here b e t n h d, take_at b (e ∷ t) n h)

own-events : (b a : List Event) (n : ℕ) (p : Option ℕ) (f : Forest) → length b ≡ n →
    take (event_count f) (drop n (b ++ (events_from n p f ++ a))) ≡ events_from n p f
own-events b a n p f h =
    ap (take (event_count f)) (drop_at b (events_from n p f ++ a) n h)
    ∙ take_at (events_from n p f) a (event_count f) (length-events n p f)

-- the numbers of the Enters are those of the trees
pub enters-are : (k n : ℕ) (q p : Option ℕ) (f : Forest) (r : List Event) → k ≡ n →
    enters_from k (events_from n p f ++ r) ≡ map (λ (t : Placed). t.node.enter) (placed_from n q p f) ++ enters_from (k + event_count f) r
enters-are k n q p empty r h = let s : k ≡ k + 0 = omega arith in ap (λ j. enters_from j r) s
enters-are k n q p (leaf_then name None codes rest) r h = grind (arith, enters-are (suc (suc k)) (n + 2) q p rest r (omega (arith, h)))
enters-are k n q p (leaf_then name (Some content) codes rest) r h = grind (arith, enters-are (suc (suc k)) (n + 2) q (Some n) rest r (omega (arith, h)))
enters-are k n q p (group_then name enter exit inside rest) r h =
    let c = event_count inside in
    let i = events_from (n + 1) None inside in
    let b = events_from (n + 2 + c) p rest in
    let number : Placed → ℕ = λ t. t.node.enter in
    let inner = placed_from (n + 1) (Some n) None inside in
    let later = placed_from (n + 2 + c) q p rest in
    let s : suc (suc k + c) + event_count rest ≡ k + (2 + c + event_count rest) = omega arith in
    let last = enters_from (k + (2 + c + event_count rest)) r in
    let tail : enters_from (suc (suc k + c)) (b ++ r) ≡ map number later ++ last =
    enters-are (suc (suc k + c)) (n + 2 + c) q p rest r (omega (arith, h)) ∙ ap (λ j. map number later ++ enters_from j r) s
    in
    let joined : enters_from (suc k) ((i ++ event Exit name exit ∷ b) ++ r) ≡ map number (inner ++ later) ++ last =
    ap (enters_from (suc k)) (append_assoc i (event Exit name exit ∷ b) r)
    ∙ enters-are (suc k) (n + 1) (Some n) None inside (event Exit name exit ∷ (b ++ r)) (omega (arith, h))
    ∙ ap (λ xs. map number inner ++ xs) tail
    ∙ sym (append_assoc (map number inner) (map number later) last)
    ∙ ap (λ xs. xs ++ last) (sym (map-append number inner later))
    in
    ap (λ xs. k ∷ xs) joined ∙ ap (λ j. j ∷ (map number (inner ++ later) ++ last)) h

-- what stands around one node
node-stands : (b : List Event) (e : Event) (t : List Event) (x : Event) (n k : ℕ) (ks : List ℕ) (q child next p : Option ℕ) (f : Forest) →
    length b ≡ n → e.kind ≡ Enter → slice_get (open_after 0 [] b) 0 ≡ q → exits_ahead (n + 1) t ≡ k ∷ ks →
    slice_get (b ++ e ∷ t) k ≡ Some x → enter_at (b ++ e ∷ t) (n + 1) ≡ child → enter_at (b ++ e ∷ t) (k + 1) ≡ next →
    take (event_count f) (drop n (b ++ e ∷ t)) ≡ events_from n p f →
    StandsIn (b ++ e ∷ t) (record { node = node_of n k e x; parent = q; child = child; next = next; linked = p; trees = f })
node-stands b e t x n k ks q child next p f h d g a s i j w = grind (arith, enter-here b e t n h d, exit-here b e t n k ks h d a, node-here, parent-here b e t n q h d g)

-- a leaf whose two events these are
leaf-stands : (b : List Event) (e x : Event) (n : ℕ) (q p linked : Option ℕ) (rest f : Forest) (a : List Event) →
    length b ≡ n → e.kind ≡ Enter → x.kind ≡ Exit → slice_get (open_after 0 [] b) 0 ≡ q → EndsThere a →
    events_from n p f ≡ e ∷ x ∷ events_from (n + 2) linked rest → event_count f ≡ 2 + event_count rest →
    StandsIn (b ++ e ∷ x ∷ (events_from (n + 2) linked rest ++ a))
    (record { node = node_of n (n + 1) e x; parent = q; child = None; next = first_of (n + 2) rest; linked = p; trees = f })
leaf-stands b e x n q p linked rest f a h d y g l v z =
    let tail = events_from (n + 2) linked rest ++ a in
    let es = b ++ e ∷ x ∷ tail in
    let size : length (b ++ e ∷ []) ≡ n + 1 = omega (arith, h, length-append b (e ∷ [])) in
    let size2 : length (b ++ e ∷ x ∷ []) ≡ n + 2 = omega (arith, h, length-append b (e ∷ x ∷ [])) in
    let exit : slice_get es (n + 1) ≡ Some x =
    ap (λ ys. slice_get ys (n + 1)) (sym (append_assoc b (e ∷ []) (x ∷ tail))) ∙ seam-get (b ++ e ∷ []) x tail (n + 1) size
    in
    let none : enter_at es (n + 1) ≡ None =
    ap (option_and_then (λ (w : Event). if_enter w.kind (n + 1))) exit ∙ ap (λ w. if_enter w (n + 1)) y
    in
    let two : n + 1 + 1 ≡ n + 2 = omega arith in
    let next : enter_at es (n + 1 + 1) ≡ first_of (n + 2) rest =
    ap (enter_at es) two
    ∙ ap (λ ys. enter_at ys (n + 2)) (sym (append_assoc b (e ∷ x ∷ []) tail))
    ∙ first-here (b ++ e ∷ x ∷ []) a (n + 2) linked rest size2 l
    in
    let own : take (event_count f) (drop n es) ≡ events_from n p f =
    ap (λ ys. take (event_count f) (drop n (b ++ (ys ++ a)))) (sym v) ∙ own-events b a n p f h
    in
    let closes : exits_ahead (n + 1) (x ∷ tail) ≡ (n + 1) ∷ exits_ahead (suc (n + 1)) tail =
    ap (λ w. closed (n + 1) w (exits_ahead (suc (n + 1)) tail)) y
    in
    node-stands b e (x ∷ tail) x n (n + 1) (exits_ahead (suc (n + 1)) tail) q None (first_of (n + 2) rest) p f h d g closes exit none next own

-- the events of a group with what stands around them, parted in three ways
group-parts : (b : List Event) (e x : Event) (i r a : List Event) →
    (b ++ e ∷ ((i ++ x ∷ r) ++ a) ≡ (b ++ e ∷ []) ++ (i ++ (x ∷ (r ++ a))))
    × ((b ++ e ∷ ((i ++ x ∷ r) ++ a) ≡ (b ++ e ∷ i) ++ x ∷ (r ++ a))
    × (b ++ e ∷ ((i ++ x ∷ r) ++ a) ≡ (b ++ e ∷ (i ++ x ∷ [])) ++ (r ++ a)))
group-parts b e x i r a = grind (arith, append_assoc i (x ∷ r) a, append_assoc b (e ∷ []) (i ++ (x ∷ (r ++ a))), append_assoc b (e ∷ i) (x ∷ (r ++ a)), append_assoc i (x ∷ []) (r ++ a), append_assoc b (e ∷ (i ++ x ∷ [])) (r ++ a))

group-stands : (b a : List Event) (n : ℕ) (q p : Option ℕ) (name : Name) (enter exit : Point) (inside rest : Forest) →
    length b ≡ n → slice_get (open_after 0 [] b) 0 ≡ q → EndsThere a →
    StandsIn (b ++ (events_from n p (group_then name enter exit inside rest) ++ a)) (placed_group n q p name enter exit inside rest)
group-stands b a n q p name enter exit inside rest h g l =
    let c = event_count inside in
    let f = group_then name enter exit inside rest in
    let e = event Enter name enter in
    let x = event Exit name exit in
    let i = events_from (n + 1) None inside in
    let r = events_from (n + 2 + c) p rest in
    let t = (i ++ x ∷ r) ++ a in
    let es = b ++ e ∷ t in
    let parts = group-parts b e x i r a in
    let size : length (b ++ e ∷ []) ≡ n + 1 = omega (arith, h, length-append b (e ∷ [])) in
    let size-i : length i ≡ c = length-events (n + 1) None inside in
    let size2 : length (b ++ e ∷ i) ≡ n + 1 + c = omega (arith, h, size-i, length-append b (e ∷ i)) in
    let size3 : length (b ++ e ∷ (i ++ x ∷ [])) ≡ n + 2 + c =
    omega (arith, h, size-i, length-append b (e ∷ (i ++ x ∷ [])), length-append i (x ∷ []))
    in
    let closes : exits_ahead (n + 1) t ≡ (n + 1 + c) ∷ exits_ahead (suc (n + 1 + c)) (r ++ a) =
    ap (exits_ahead (n + 1)) (append_assoc i (x ∷ r) a) ∙ ahead-past (n + 1) (n + 1) None inside (x ∷ (r ++ a))
    in
    let at : slice_get es (n + 1 + c) ≡ Some x =
    ap (λ ys. slice_get ys (n + 1 + c)) parts.1.0 ∙ seam-get (b ++ e ∷ i) x (r ++ a) (n + 1 + c) size2
    in
    let child : enter_at es (n + 1) ≡ first_of (n + 1) inside =
    ap (λ ys. enter_at ys (n + 1)) parts.0 ∙ first-here (b ++ e ∷ []) (x ∷ (r ++ a)) (n + 1) None inside size refl
    in
    let two : n + 1 + c + 1 ≡ n + 2 + c = omega arith in
    let next : enter_at es (n + 1 + c + 1) ≡ first_of (n + 2 + c) rest =
    ap (enter_at es) two
    ∙ ap (λ ys. enter_at ys (n + 2 + c)) parts.1.1
    ∙ first-here (b ++ e ∷ (i ++ x ∷ [])) a (n + 2 + c) p rest size3 l
    in
    node-stands b e t x n (n + 1 + c) (exits_ahead (suc (n + 1 + c)) (r ++ a)) q (first_of (n + 1) inside) (first_of (n + 2 + c) rest) p f
    h refl g closes at child next (own-events b a n p f h)

pub stands : (b a : List Event) (n : ℕ) (q p : Option ℕ) (f : Forest) → length b ≡ n → slice_get (open_after 0 [] b) 0 ≡ q →
    EndsThere a → All (StandsIn (b ++ (events_from n p f ++ a))) (placed_from n q p f)
stands b a n q p empty h g l = All-nil (StandsIn (b ++ a))
stands b a n q p (leaf_then name None codes rest) h g l =
    let e = event Enter name (start_of codes) in
    let x = event Exit name (stop_of document_start codes) in
    let tail = events_from (n + 2) p rest ++ a in
    let size : length (b ++ e ∷ x ∷ []) ≡ n + 2 = omega (arith, h, length-append b (e ∷ x ∷ [])) in
    let opens : slice_get (open_after 0 [] (b ++ e ∷ x ∷ [])) 0 ≡ q = ap (λ o. slice_get o 0) (open-append 0 [] b (e ∷ x ∷ [])) ∙ g in
    let later = stands (b ++ e ∷ x ∷ []) a (n + 2) q p rest size opens l in
    All-cons (StandsIn (b ++ e ∷ x ∷ tail)) (placed_leaf n q p name None codes rest) (placed_from (n + 2) q p rest)
    (leaf-stands b e x n q p p rest (leaf_then name None codes rest) a h refl refl g l refl refl)
    (subst (λ ys. All (StandsIn ys) (placed_from (n + 2) q p rest)) (append_assoc b (e ∷ x ∷ []) tail) later)
stands b a n q p (leaf_then name (Some content) codes rest) h g l =
    let e : Event =
    record { kind = Enter; name = name; point = start_of codes; link = Some (record { previous = p; next = next_linked (n + 2) rest; content = content }) }
    in
    let x = event Exit name (stop_of document_start codes) in
    let tail = events_from (n + 2) (Some n) rest ++ a in
    let size : length (b ++ e ∷ x ∷ []) ≡ n + 2 = omega (arith, h, length-append b (e ∷ x ∷ [])) in
    let opens : slice_get (open_after 0 [] (b ++ e ∷ x ∷ [])) 0 ≡ q = ap (λ o. slice_get o 0) (open-append 0 [] b (e ∷ x ∷ [])) ∙ g in
    let later = stands (b ++ e ∷ x ∷ []) a (n + 2) q (Some n) rest size opens l in
    All-cons (StandsIn (b ++ e ∷ x ∷ tail)) (placed_leaf n q p name (Some content) codes rest) (placed_from (n + 2) q (Some n) rest)
    (leaf-stands b e x n q p (Some n) rest (leaf_then name (Some content) codes rest) a h refl refl g l refl refl)
    (subst (λ ys. All (StandsIn ys) (placed_from (n + 2) q (Some n) rest)) (append_assoc b (e ∷ x ∷ []) tail) later)
stands b a n q p (group_then name enter exit inside rest) h g l =
    let c = event_count inside in
    let e = event Enter name enter in
    let x = event Exit name exit in
    let i = events_from (n + 1) None inside in
    let r = events_from (n + 2 + c) p rest in
    let es = b ++ e ∷ ((i ++ x ∷ r) ++ a) in
    let parts = group-parts b e x i r a in
    let m = 0 + length b in
    let o = open_after 0 [] b in
    let size : length (b ++ e ∷ []) ≡ n + 1 = omega (arith, h, length-append b (e ∷ [])) in
    let size-i : length i ≡ c = length-events (n + 1) None inside in
    let size3 : length (b ++ e ∷ (i ++ x ∷ [])) ≡ n + 2 + c =
    omega (arith, h, size-i, length-append b (e ∷ (i ++ x ∷ [])), length-append i (x ∷ []))
    in
    let number : m ≡ n = omega (arith, h) in
    let inner-opens : slice_get (open_after 0 [] (b ++ e ∷ [])) 0 ≡ Some n =
    ap (λ y. slice_get y 0) (open-append 0 [] b (e ∷ [])) ∙ ap (λ (y : ℕ). Some y) number
    in
    let later-opens : slice_get (open_after 0 [] (b ++ e ∷ (i ++ x ∷ []))) 0 ≡ q =
    ap (λ y. slice_get y 0) (open-append 0 [] b (e ∷ (i ++ x ∷ [])) ∙ open-past (suc m) (n + 1) (m ∷ o) None inside (x ∷ [])) ∙ g
    in
    let inner = stands (b ++ e ∷ []) (x ∷ (r ++ a)) (n + 1) (Some n) None inside size inner-opens refl in
    let later = stands (b ++ e ∷ (i ++ x ∷ [])) a (n + 2 + c) q p rest size3 later-opens l in
    let inner-placed = placed_from (n + 1) (Some n) None inside in
    let later-placed = placed_from (n + 2 + c) q p rest in
    All-cons (StandsIn es) (placed_group n q p name enter exit inside rest) (inner-placed ++ later-placed)
    (group-stands b a n q p name enter exit inside rest h g l)
    (All-append (StandsIn es) inner-placed later-placed
    (subst (λ ys. All (StandsIn ys) inner-placed) (sym parts.0) inner)
    (subst (λ ys. All (StandsIn ys) later-placed) (sym parts.1.1) later))

pub nodes-are-trees : NodesAreTrees
nodes-are-trees f =
    let es = events_of f in
    let enters : enters_from 0 es ≡ map (λ (t : Placed). t.node.enter) (placed_of f) =
    ap (enters_from 0) (sym (append-nil es)) ∙ enters-are 0 0 None None f [] refl ∙ append-nil (map (λ (t : Placed). t.node.enter) (placed_of f))
    in
    (enters, subst (λ ys. All (StandsIn ys) (placed_of f)) (append-nil es) (stands [] [] 0 None None f refl refl tt))
