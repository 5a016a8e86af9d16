-- The walk over the events of a tree takes what definitions bring to the tree.
use Rattle.std.proofs.Common.{◌≡◌, ◌∙◌, sym, ap, refl, ℕ, ◌+◌, add-zero, arith, Bool, true, false, ◌||◌, if◌then◌else◌, List, [], ◌∷◌, ◌++◌, append-nil, append_assoc, Option, None, Some}
use Rattle.std.specs.Option.{is_some}
use Rattle.std.proofs.lemmas.Bool.Decides.{nat_tests}
use Rattle.markdown_content.specs.Codes.{stop_of, document_start}
use Rattle.markdown_content.specs.Tree.{Forest, empty, leaf_then, group_then, start_of, event, event_count, events_from, events_of, next_linked}
use Rattle.markdown_event.specs.declared.event.Event.{Event}
use Rattle.markdown_event.specs.declared.event.Kind.{Kind}
use Rattle.markdown_event.specs.declared.event.Link.{Link}
use Rattle.markdown_event.specs.declared.event.Name.{Name}
use Rattle.markdown_event.specs.declared.event.Point.{Point}
use Rattle.markdown_html_model.specs.Html.{Page, PartsSoFar, around, innermost, joined_parts, no_parts, or_else, own_parts, reference_target, target_of, within_of, written}
use Rattle.markdown_html_model.specs.Roles.{role_of}
use Rattle.markdown_html_model.specs.declared.role.Role.{Role}
use Rattle.markdown_html_model.specs.declared.role.Within.{Within}
use Rattle.markdown_html.specs.Brought.{brought, left_of, own_brought, parts_inside, target_bytes}
use Rattle.markdown_html.specs.BroughtWalk.{Counted, count_begun, counted, counted_apart, joined_seen, nothing_seen, own_seen, seen_brought, seen_of}
use Rattle.markdown_html.specs.EventWalk.{is_apart}
use Rattle.markdown_html.specs.declared.brought.Before.{Before}
use Rattle.markdown_html.specs.declared.brought.Seen.{Seen}
use Rattle.markdown_html.proofs.WalkTree.{enter_event, or_else-none, or_else-assoc}

-- What is seen.

seen_with : Bool → Option (ℕ × ℕ) → Option (ℕ × ℕ) → Seen
seen_with has label reference = record { has_destination = has; label = label; reference = reference }

same-seen : (a b : Bool) (c d e f : Option (ℕ × ℕ)) → a ≡ b → c ≡ d → e ≡ f → seen_with a c e ≡ seen_with b d f
same-seen a b c d e f g h k = ap (λ x. seen_with x c e) g ∙ ap (λ x. seen_with b x e) h ∙ ap (λ x. seen_with b d x) k

or-false : (b : Bool) → (b || false) ≡ b
or-false true = refl
or-false false = refl

or-assoc : (a b c : Bool) → (a || (b || c)) ≡ ((a || b) || c)
or-assoc true b c = refl
or-assoc false b c = refl

joined-first : (x : Seen) → joined_seen nothing_seen x ≡ x
unfolding seen_with
joined-first x = same-seen _ _ _ _ _ _ (or-false x.has_destination) (or_else-none x.label) (or_else-none x.reference)

joined-assoc : (x y z : Seen) → joined_seen (joined_seen x y) z ≡ joined_seen x (joined_seen y z)
unfolding seen_with
joined-assoc x y z = grind (arith, same-seen, or-assoc, or_else-assoc)

-- of parts that are joined
is_some-or_else : (x y : Option (List ℕ)) → is_some (or_else x y) ≡ (is_some x || is_some y)
is_some-or_else None y = refl
is_some-or_else (Some x) y = refl

seen-joined : (x y : PartsSoFar) → seen_of (joined_parts x y) ≡ joined_seen (seen_of x) (seen_of y)
unfolding seen_with
seen-joined x y = same-seen _ _ _ _ _ _ (is_some-or_else y.destination x.destination) refl refl

-- of parts that something has of its own
seen-own : (role : Role) (a b : Point) (string : List ℕ) (inside : PartsSoFar) → seen_of (own_parts role a b string inside) ≡ own_seen role a.index b.index (seen_of inside)
seen-own Role.Destination a b string inside = refl
seen-own role a b string inside = refl

-- What trees show to what is around them.

pub shown : Forest → Seen
shown empty = nothing_seen
shown (leaf_then name link cs rest) = let b = stop_of document_start cs in let a = start_of cs in joined_seen (own_seen (role_of name) a.index b.index nothing_seen) (shown rest)
shown (group_then name a b inside rest) = joined_seen (own_seen (role_of name) a.index b.index (shown inside)) (shown rest)

abbrev parts_within : Page → List (List ℕ) → Within → Forest → PartsSoFar
parts_within p before within t = let w = written p before within t in w.parts

-- siblings, of which the first has parts of its own by these
one-shown : (role : Role) (a b : Point) (string : List ℕ) (inside others : PartsSoFar) (i r : Seen) → seen_of inside ≡ i → seen_of others ≡ r
    → seen_of (joined_parts (own_parts role a b string inside) others) ≡ joined_seen (own_seen role a.index b.index i) r
one-shown role a b string inside others i r e f = grind (arith, seen-joined, seen-own)

-- the parts that trees give show the same, wherever they stand and whatever calls come before them
shown-is : (p : Page) (t : Forest) (before : List (List ℕ)) (within : Within) → seen_of (parts_within p before within t) ≡ shown t
unfolding shown
shown-is p empty before within = refl
shown-is p (leaf_then name link cs rest) before within =
    let w = innermost p before within (role_of name) (start_of cs) (stop_of document_start cs) in
    let calls = w.calls ++ before in
    one-shown (role_of name) (start_of cs) (stop_of document_start cs) _ no_parts (parts_within p calls within rest) nothing_seen (shown rest) refl (shown-is p rest calls within)
shown-is p (group_then name a b empty rest) before within =
    let w = innermost p before within (role_of name) a b in
    let calls = w.calls ++ before in
    one-shown (role_of name) a b _ no_parts (parts_within p calls within rest) nothing_seen (shown rest) refl (shown-is p rest calls within)
shown-is p (group_then name a b (leaf_then x link cs more) rest) before within =
    let inside = leaf_then x link cs more in
    let under = within_of within (role_of name) in
    let w = around p before within (role_of name) a b (written p before under inside) in
    let calls = w.calls ++ before in
    one-shown (role_of name) a b _ (parts_within p before under inside) (parts_within p calls within rest) (shown inside) (shown rest)
    (shown-is p (leaf_then x link cs more) before under) (shown-is p rest calls within)
shown-is p (group_then name a b (group_then x c d more others) rest) before within =
    let inside = group_then x c d more others in
    let under = within_of within (role_of name) in
    let w = around p before within (role_of name) a b (written p before under inside) in
    let calls = w.calls ++ before in
    one-shown (role_of name) a b _ (parts_within p before under inside) (parts_within p calls within rest) (shown inside) (shown rest)
    (shown-is p (group_then x c d more others) before under) (shown-is p rest calls within)

-- What is brought.

by-resource : (p : Page) (d title : Option (List ℕ)) (label reference : Option (ℕ × ℕ))
    → (if is_some d then 0 else target_bytes (target_of p (record { destination = d; title = title; label = label; reference = reference })))
    ≡ (if is_some d then 0 else target_bytes (reference_target p label reference))
by-resource p None title label reference = refl
by-resource p (Some d) title label reference = refl

own-brought : (p : Page) (role : Role) (parts : PartsSoFar) → own_brought p role parts ≡ seen_brought p role (seen_of parts)
own-brought p role parts = grind (arith, by-resource)

none-brought : (p : Page) (role : Role) → seen_brought p role nothing_seen ≡ 0
none-brought p role = grind arith

not-apart-brought : (p : Page) (role : Role) (seen : Seen) → is_apart role ≡ false → seen_brought p role seen ≡ 0
not-apart-brought p role seen e = grind arith

not-apart-seen : (role : Role) (a b : ℕ) (seen : Seen) → is_apart role ≡ false → own_seen role a b seen ≡ seen
not-apart-seen role a b seen e = grind arith

-- What is left.

pub left-none : (left : Option ℕ) → left_of left 0 ≡ left
left-none None = refl
left-none (Some n) = grind (arith, nat_tests)

pub left-more : (left : Option ℕ) (a b : ℕ) → left_of (left_of left a) b ≡ left_of left (a + b)
left-more None a b = refl
left-more (Some n) a b = grind (arith, nat_tests)

-- The walk.

-- what follows a state where this is seen, and so much is taken
abbrev inside-of : Counted → Seen → ℕ → Counted
inside-of s seen taken = record { seen = joined_seen s.seen seen; opened = s.opened; left = left_of s.left taken }

count_with : Seen → List Before → Option ℕ → Counted
count_with seen opened left = record { seen = seen; opened = opened; left = left }

same-count : (a b : Seen) (opened : List Before) (c d : Option ℕ) → a ≡ b → c ≡ d → count_with a opened c ≡ count_with b opened d
same-count a b opened c d e f = ap (λ x. count_with x opened c) e ∙ ap (λ x. count_with b opened x) f

inside-none : (s : Counted) → s ≡ inside-of s nothing_seen 0
unfolding count_with
inside-none s = same-count s.seen (joined_seen s.seen nothing_seen) s.opened s.left (left_of s.left 0) refl (sym (left-none s.left))

inside-more : (s : Counted) (i j : Seen) (m n total : ℕ) → m + n ≡ total → inside-of (inside-of s i m) j n ≡ inside-of s (joined_seen i j) total
unfolding count_with
inside-more s i j m n total e = same-count _ _ s.opened _ _ (joined-assoc s.seen i j) (left-more s.left m n ∙ ap (left_of s.left) e)

abbrev stepped-by : Page → Counted → Role → Kind → ℕ → Bool → Counted
stepped-by p s role kind at x = if x then counted_apart p s role kind at else s

-- the Enter of something, what is inside it, and its Exit
around-by : (p : Page) (s : Counted) (role : Role) (a b : ℕ) (i : Seen) (n : ℕ) (x : Bool) → is_apart role ≡ x
    → stepped-by p (inside-of (stepped-by p s role Kind.Enter a x) i n) role Kind.Exit b x ≡ inside-of s (own_seen role a b i) (n + seen_brought p role i)
unfolding count_with
around-by p s role a b i n true e = grind (arith, same-count, joined-first, left-more)
around-by p s role a b i n false e = grind (arith, same-count, not-apart-seen, add-zero, not-apart-brought)

around-all : (p : Page) (s : Counted) (role : Role) (a b : ℕ) (i : Seen) (n : ℕ)
    → stepped-by p (inside-of (stepped-by p s role Kind.Enter a (is_apart role)) i n) role Kind.Exit b (is_apart role) ≡ inside-of s (own_seen role a b i) (n + seen_brought p role i)
around-all p s role a b i n = around-by p s role a b i n (is_apart role) refl

-- around nothing
around-nothing : (p : Page) (s : Counted) (role : Role) (a b : ℕ)
    → stepped-by p (stepped-by p s role Kind.Enter a (is_apart role)) role Kind.Exit b (is_apart role) ≡ inside-of s (own_seen role a b nothing_seen) 0
around-nothing p s role a b = grind (arith, inside-none, around-all, none-brought)

-- the walk over the events of these trees takes what is brought to them, whatever comes after
abbrev Counts : Page → Forest → Type 0
Counts p t = (n : ℕ) (previous : Option ℕ) (s : Counted) (rest : List Event) → counted p s (events_from n previous t ++ rest) ≡ counted p (inside-of s (shown t) (brought p t)) rest

leaf-counts : (p : Page) (name : Name) (a b : Point) (t : Forest) → Counts p t → (n : ℕ) (previous : Option ℕ) (s : Counted) (link : Option Link) (rest : List Event)
    → counted p s (enter_event name a link ∷ event Kind.Exit name b ∷ events_from n previous t ++ rest)
    ≡ counted p (inside-of s (joined_seen (own_seen (role_of name) a.index b.index nothing_seen) (shown t)) (brought p t)) rest
leaf-counts p name a b t ih n previous s link rest = grind (arith, around-nothing, inside-more)

pub count-tree : (p : Page) (t : Forest) → Counts p t
unfolding shown brought
count-tree p empty n previous s rest = ap (λ x. counted p x rest) (inside-none s)
count-tree p (leaf_then name None cs t) n previous s rest = leaf-counts p name (start_of cs) (stop_of document_start cs) t (count-tree p t) (n + 2) previous s None rest
count-tree p (leaf_then name (Some content) cs t) n previous s rest =
    leaf-counts p name (start_of cs) (stop_of document_start cs) t (count-tree p t) (n + 2) (Some n) s (Some (record { previous = previous; next = next_linked (n + 2) t; content = content })) rest
count-tree p (group_then name a b inside t) n previous s rest =
    let role = role_of name in
    let m = n + 2 + event_count inside in
    let behind = events_from m previous t ++ rest in
    let exit = event Kind.Exit name b in
    let entered = stepped-by p s role Kind.Enter a.index (is_apart role) in
    let own = own_seen role a.index b.index (shown inside) in
    let taken = brought p inside + seen_brought p role (shown inside) in
    let same : own_brought p role (parts_inside p inside) ≡ seen_brought p role (shown inside) =
    own-brought p role (parts_inside p inside) ∙ ap (seen_brought p role) (shown-is p inside [] Within.Outside)
    in
    ap (λ es. counted p entered es) (append_assoc (events_from (n + 1) None inside) (exit ∷ events_from m previous t) rest)
    ∙ count-tree p inside (n + 1) None entered (exit ∷ behind)
    ∙ ap (λ x. counted p x behind) (around-all p s role a.index b.index (shown inside) (brought p inside))
    ∙ count-tree p t m previous (inside-of s own taken) rest
    ∙ ap (λ x. counted p x rest) (inside-more s own (shown t) taken (brought p t) (own_brought p role (parts_inside p inside) + (brought p inside + brought p t)) (omega (arith, same)))

-- all events
pub all_counted : (p : Page) (limit : ℕ) (t : Forest) (events : List Event) (s : Counted) (left : List Event) → left ≡ []
    → counted p s left ≡ counted p (count_begun (Some limit)) events → events ≡ events_of t → Counted.left s ≡ left_of (Some limit) (brought p t)
all_counted p limit t events s left none so_far is =
    ap (λ x. Counted.left x)
    (ap (counted p s) (sym none)
    ∙ so_far
    ∙ ap (counted p (count_begun (Some limit))) (is ∙ sym (append-nil (events_of t)))
    ∙ count-tree p t 0 None (count_begun (Some limit)) [])
