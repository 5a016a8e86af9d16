-- The walk over the events of a tree writes the tree's HTML.
use Rattle.std.proofs.Common.{◌≡◌, ◌∙◌, sym, ap, refl, ℕ, ◌+◌, Bool, true, false, if◌then◌else◌, ◌&&◌, ◌||◌, List, [], ◌∷◌, ◌++◌, append-nil, append_assoc, length, take, drop, get_or, ◌<◌, Option, None, Some, arith}
use Rattle.std.specs.Option.{is_some}
use Rattle.markdown_html.proofs.Lists.{drop_at}
use Rattle.std.proofs.Math.Seq.{drop-append_seam, take-append_seam}
use Rattle.markdown_content.specs.Codes.{stop_of, document_start}
use Rattle.markdown_content.specs.Tree.{Forest, empty, leaf_then, group_then, start_of, event, event_count, events_from, next_linked}
use Rattle.markdown_event.specs.declared.event.Event.{Event}
use Rattle.markdown_event.specs.declared.event.Kind.{Kind}
use Rattle.markdown_event.specs.declared.event.Link.{Link}
use Rattle.markdown_event.specs.declared.event.Name.{Name}
use Rattle.markdown_event.specs.declared.event.Point.{Point}
use Rattle.markdown_html_model.specs.Html.{Page, PartsSoFar, Written, no_parts, joined_parts, or_else, own_calls, own_parts, string_of, text_between, leaf_html, within_of, opening, closing, group_html, written, innermost, around, beside, nothing}
use Rattle.markdown_html_model.specs.Roles.{role_of}
use Rattle.markdown_html_model.specs.declared.role.Role.{Role}
use Rattle.markdown_html_model.specs.declared.role.Within.{Within}
use Rattle.markdown_html.specs.EventWalk.{State, OpenPart, open_of, opened_by, has_parts, entered, filled, closed, closed_apart, closed_around, closed_out, exited, stepped, walked, beginning, keeps_inside, is_light, is_apart, is_leaf, is_bare, is_silent, filled_before}

-- the state after this is written
abbrev pub after : State → Written → State
after s w = record s { out = s.out ++ w.html; parts = joined_parts s.parts w.parts; calls = w.calls ++ s.calls }

pub or_else-none : {A : Type 0} (x : Option A) → or_else x None ≡ x
or_else-none None = refl
or_else-none (Some x) = refl

pub or_else-assoc : {A : Type 0} (x y z : Option A) → or_else x (or_else y z) ≡ or_else (or_else x y) z
or_else-assoc None y z = refl
or_else-assoc (Some x) y z = refl

parts_with : Option (List ℕ) → Option (List ℕ) → Option (ℕ × ℕ) → Option (ℕ × ℕ) → PartsSoFar
parts_with destination title label reference = record { destination = destination; title = title; label = label; reference = reference }

same-parts : (a b c d : Option (List ℕ)) (e f i j : Option (ℕ × ℕ)) → a ≡ b → c ≡ d → e ≡ f → i ≡ j → parts_with a c e i ≡ parts_with b d f j
same-parts a b c d e f i j g h k l = cc

-- parts read one after the other
joined-assoc : (x y z : PartsSoFar) → joined_parts (joined_parts x y) z ≡ joined_parts x (joined_parts y z)
unfolding parts_with
joined-assoc x y z = grind (arith, same-parts, or_else-assoc)

pub joined_first : (x : PartsSoFar) → joined_parts no_parts x ≡ x
unfolding parts_with
joined_first x = same-parts _ _ _ _ _ _ _ _ (or_else-none x.destination) (or_else-none x.title) (or_else-none x.label) (or_else-none x.reference)

state_with : State → List ℕ → PartsSoFar → List (List ℕ) → State
state_with s out parts calls = record s { out = out; parts = parts; calls = calls }

same-state : (s : State) (a b : List ℕ) (c d : PartsSoFar) (e f : List (List ℕ)) → a ≡ b → c ≡ d → e ≡ f → state_with s a c e ≡ state_with s b d f
same-state s a b c d e f g h k = ap (λ x. state_with s x c e) g ∙ ap (λ x. state_with s b x e) h ∙ ap (λ x. state_with s b d x) k

pub after-nothing : (s : State) → s ≡ after s nothing
unfolding state_with
after-nothing s = same-state s s.out (s.out ++ []) s.parts s.parts s.calls s.calls (sym (append-nil s.out)) refl refl

pub after-after : (s : State) (v w : Written) → after (after s v) w ≡ after s (beside v w)
unfolding state_with
after-after s v w = same-state s _ _ _ _ _ _ (append_assoc s.out v.html w.html) (joined-assoc s.parts v.parts w.parts) (sym (append_assoc w.calls v.calls s.calls))

-- What is done at an Exit.

kept : (p : Page) (before : List (List ℕ)) (within : Within) (role : Role) (a b : Point) (inside : List ℕ) (parts : PartsSoFar) → keeps_inside role ≡ true → group_html p before within role a b inside parts ≡ opening within role ++ inside ++ closing within role
kept p before within Role.Check a b inside parts e = cc
kept p before within Role.Code a b inside parts e = cc
kept p before within Role.Math a b inside parts e = cc
kept p before within Role.Reference a b inside parts e = cc
kept p before within Role.Link a b inside parts e = cc
kept p before within Role.Image a b inside parts e = cc
kept p before within Role.Footnote a b inside parts e = cc
kept p before within Role.Destination a b inside parts e = cc
kept p before within Role.TitleText a b inside parts e = cc
kept p before within Role.Resource a b inside parts e = cc
kept p before within Role.Tail a b inside parts e = cc
kept p before within role a b inside parts e = refl

no-opening : (within : Within) (role : Role) → is_light role ≡ false → opening within role ≡ []
no-opening within role e = grind arith

-- of something light
light-within : (within : Within) (role : Role) → is_light role ≡ true → within_of within role ≡ within
light-within within role e = grind arith

light-keeps : (role : Role) → is_light role ≡ true → keeps_inside role ≡ true
light-keeps Role.Check e = cc
light-keeps Role.Code e = cc
light-keeps Role.Math e = cc
light-keeps Role.Reference e = cc
light-keeps Role.Link e = cc
light-keeps Role.Image e = cc
light-keeps Role.Footnote e = cc
light-keeps Role.Destination e = cc
light-keeps Role.TitleText e = cc
light-keeps Role.Resource e = cc
light-keeps Role.Tail e = cc
light-keeps role e = refl

light-not-apart : (role : Role) → is_light role ≡ true → is_apart role ≡ false
light-not-apart Role.Link e = cc
light-not-apart Role.Image e = cc
light-not-apart Role.Footnote e = cc
light-not-apart Role.Label e = cc
light-not-apart Role.FullReference e = cc
light-not-apart Role.Destination e = cc
light-not-apart Role.TitleText e = cc
light-not-apart Role.Title e = cc
light-not-apart Role.Resource e = cc
light-not-apart role e = refl

-- what gives all that was found inside it
own-same : (role : Role) (a b : Point) (string : List ℕ) (parts : PartsSoFar) → is_apart role ≡ false → own_parts role a b string parts ≡ parts
own-same Role.Link a b string parts e = cc
own-same Role.Image a b string parts e = cc
own-same Role.Footnote a b string parts e = cc
own-same Role.Label a b string parts e = cc
own-same Role.FullReference a b string parts e = cc
own-same Role.Destination a b string parts e = cc
own-same Role.TitleText a b string parts e = cc
own-same Role.Title a b string parts e = cc
own-same Role.Resource a b string parts e = cc
own-same role a b string parts e = refl

no-calls : (p : Page) (role : Role) (parts : PartsSoFar) → is_apart role ≡ false → own_calls p role parts ≡ []
no-calls p Role.Footnote parts e = cc
no-calls p role parts e = refl

closed_out-kept : (p : Page) (before : List (List ℕ)) (o : OpenPart) (role : Role) (b : Point) (out : List ℕ) (parts : PartsSoFar) → keeps_inside role ≡ true → closed_out p before o role b out parts ≡ out ++ closing o.within role
unfolding closed_out
closed_out-kept p before o role b out parts k = ap (λ x. elim x [ true ↦ out ++ closing o.within role | false ↦ take o.start out ++ group_html p before o.within role o.point b (drop o.start out) parts ]) k

closed_out-replaced : (p : Page) (before : List (List ℕ)) (o : OpenPart) (role : Role) (b : Point) (out : List ℕ) (parts : PartsSoFar) →
    keeps_inside role ≡ false
    → closed_out p before o role b out parts ≡ take o.start out ++ group_html p before o.within role o.point b (drop o.start out) parts
unfolding closed_out
closed_out-replaced p before o role b out parts k = ap (λ x. elim x [ true ↦ out ++ closing o.within role | false ↦ take o.start out ++ group_html p before o.within role o.point b (drop o.start out) parts ]) k

out-closed : (p : Page) (before : List (List ℕ)) (s : State) (role : Role) (a b : Point) (k : Bool) (w : List ℕ) (parts : PartsSoFar) → is_light role ≡ false → (keeps : Bool) → keeps_inside role ≡ keeps
    → closed_out p before (open_of s a k) role b (s.out ++ w) parts ≡ s.out ++ group_html p before s.within role a b w parts
out-closed p before s role a b k w parts heavy true e = grind (arith, closed_out-kept, append_assoc, no-opening, kept)
out-closed p before s role a b k w parts heavy false e = grind (arith, closed_out-replaced, take-append_seam, drop-append_seam)

-- What an Enter leaves.

entered-light : (s : State) (role : Role) (a : Point) → is_light role ≡ true → entered s role a ≡ record s { out = s.out ++ opening s.within role }
unfolding entered
entered-light s role a l = ap (λ x. if x then record s { out = s.out ++ opening s.within role } else opened_by s role a (is_apart role && has_parts s.parts)) l

entered-heavy : (s : State) (role : Role) (a : Point) → is_light role ≡ false → entered s role a ≡ opened_by s role a (is_apart role && has_parts s.parts)
unfolding entered
entered-heavy s role a l = ap (λ x. if x then record s { out = s.out ++ opening s.within role } else opened_by s role a (is_apart role && has_parts s.parts)) l

entered-by : (s : State) (role : Role) (a : Point) (x : Bool) → is_light role ≡ false → is_apart role && has_parts s.parts ≡ x → entered s role a ≡ opened_by s role a x
entered-by s role a x l is = entered-heavy s role a l ∙ ap (opened_by s role a) is

within-by : (s : State) (role : Role) (a : Point) (l : Bool) → is_light role ≡ l → (State.within (entered s role a) ≡ within_of s.within role) × (State.calls (entered s role a) ≡ s.calls)
within-by s role a true l = (ap (λ x. State.within x) (entered-light s role a l) ∙ sym (light-within s.within role l), ap (λ x. State.calls x) (entered-light s role a l))
within-by s role a false l = (ap (λ x. State.within x) (entered-heavy s role a l), ap (λ x. State.calls x) (entered-heavy s role a l))

entered-within : (s : State) (role : Role) (a : Point) → State.within (entered s role a) ≡ within_of s.within role
entered-within s role a = let w = within-by s role a (is_light role) refl in w.0

entered-calls : (s : State) (role : Role) (a : Point) → State.calls (entered s role a) ≡ s.calls
entered-calls s role a = let w = within-by s role a (is_light role) refl in w.1

-- What an Exit leaves.

exited-light : (p : Page) (s : State) (role : Role) (b : Point) → is_light role ≡ true → exited p s role b ≡ record s { out = s.out ++ closing s.within role }
unfolding exited
exited-light p s role b l = ap (λ x. if x then record s { out = s.out ++ closing s.within role } else closed p s s.opened role b) l

exited-heavy : (p : Page) (s : State) (role : Role) (b : Point) → is_light role ≡ false → exited p s role b ≡ closed p s s.opened role b
unfolding exited
exited-heavy p s role b l = ap (λ x. if x then record s { out = s.out ++ closing s.within role } else closed p s s.opened role b) l

abbrev closed-by : Page → State → OpenPart → List OpenPart → Role → Point → Bool → State
closed-by p s o opened role b x =
    let left = record s { opened = opened } in
    if x then closed_apart p left o role b else closed_around p left o role b

closed-is : (p : Page) (s : State) (o : OpenPart) (opened : List OpenPart) (role : Role) (b : Point) (x : Bool) → is_apart role ≡ x → closed p s (o ∷ opened) role b ≡ closed-by p s o opened role b x
closed-is p s o opened role b x is = ap (closed-by p s o opened role b) is

light-around : (p : Page) (s : State) (role : Role) (a b : Point) (w : Written) → is_light role ≡ true → exited p (after (entered s role a) w) role b ≡ after s (around p s.calls s.within role a b w)
unfolding state_with
light-around p s role a b w l =
    let apart = light-not-apart role l in
    ap (λ x. exited p (after x w) role b) (entered-light s role a l)
    ∙ exited-light p (after (record s { out = s.out ++ opening s.within role }) w) role b l
    ∙ same-state s _ _ _ _ _ _
    (ap (λ x. x ++ closing s.within role) (append_assoc s.out (opening s.within role) w.html)
    ∙ append_assoc s.out (opening s.within role ++ w.html) (closing s.within role)
    ∙ ap (λ x. s.out ++ x) (sym (kept p (w.calls ++ s.calls) s.within role a b w.html w.parts (light-keeps role l))))
    (ap (joined_parts s.parts) (sym (own-same role a b (string_of p.decoding role w.html) w.parts apart)))
    (ap (λ x. (x ++ w.calls) ++ s.calls) (sym (no-calls p role w.parts apart)))

no-parts : (d t : Option (List ℕ)) (l r : Option (ℕ × ℕ)) → is_some d || is_some t || is_some l || is_some r ≡ false → parts_with d t l r ≡ parts_with None None None None
no-parts d t l r e = grind arith

nothing-found : (x : PartsSoFar) → has_parts x ≡ false → x ≡ no_parts
unfolding parts_with
nothing-found x e = no-parts x.destination x.title x.label x.reference e

apart-around : (p : Page) (s : State) (role : Role) (a b : Point) (w : Written) (k : Bool) → is_light role ≡ false → is_apart role ≡ true → has_parts s.parts ≡ k → exited p (after (entered s role a) w) role b ≡ after s (around p s.calls s.within role a b w)
unfolding closed_apart state_with
apart-around p s role a b w true l is found = grind (arith, entered-by, exited-heavy, closed-is, same-state, joined_first, out-closed, drop-append_seam, append_assoc)
apart-around p s role a b w false l is found =
    let before = w.calls ++ s.calls in
    let inner = after (opened_by s role a false) w in
    let none : s.parts ≡ no_parts = nothing-found s.parts found in
    let inside : joined_parts s.parts w.parts ≡ w.parts = ap (λ q. joined_parts q w.parts) none ∙ joined_first w.parts in
    ap (λ x. exited p (after x w) role b) (entered-by s role a false l (ap (λ x. x && has_parts s.parts) is ∙ found))
    ∙ exited-heavy p inner role b l
    ∙ closed-is p inner (open_of s a false) s.opened role b true is
    ∙ same-state s _ _ _ _ _ _
    (ap (λ q. closed_out p before (open_of s a false) role b (s.out ++ w.html) q) inside ∙ out-closed p before s role a b false w.html w.parts l (keeps_inside role) refl)
    (ap (λ q. joined_parts no_parts (own_parts role a b (string_of p.decoding role (drop (length s.out) (s.out ++ w.html))) q)) inside
    ∙ ap (λ x. joined_parts no_parts (own_parts role a b (string_of p.decoding role x) w.parts)) (drop-append_seam s.out w.html)
    ∙ ap (λ q. joined_parts q (own_parts role a b (string_of p.decoding role w.html) w.parts)) (sym none))
    (ap (λ q. own_calls p role q ++ before) inside ∙ sym (append_assoc (own_calls p role w.parts) w.calls s.calls))

-- parts of what gives all that was found inside it are not read
unread-parts : (p : Page) (before : List (List ℕ)) (within : Within) (role : Role) (a b : Point) (inside : List ℕ) (x y : PartsSoFar) → is_apart role ≡ false → group_html p before within role a b inside x ≡ group_html p before within role a b inside y
unread-parts p before within role a b inside x y e = grind arith

same-around : (p : Page) (s : State) (role : Role) (a b : Point) (w : Written) → is_light role ≡ false → is_apart role ≡ false → exited p (after (entered s role a) w) role b ≡ after s (around p s.calls s.within role a b w)
unfolding state_with
same-around p s role a b w l is = grind (arith, entered-by, exited-heavy, closed-is, same-state, out-closed, unread-parts, own-same, no-calls)

around-by : (p : Page) (s : State) (role : Role) (a b : Point) (w : Written) (l x : Bool) → is_light role ≡ l → is_apart role ≡ x → exited p (after (entered s role a) w) role b ≡ after s (around p s.calls s.within role a b w)
around-by p s role a b w _ x l is = grind (arith, light-around, apart-around, same-around)

pub close-around : (p : Page) (s : State) (role : Role) (a b : Point) (w : Written) → exited p (after (entered s role a) w) role b ≡ after s (around p s.calls s.within role a b w)
close-around p s role a b w = around-by p s role a b w (is_light role) (is_apart role) refl refl

-- What is not written.

leaf-is-light : (role : Role) → is_bare role ≡ true → is_light role ≡ true
leaf-is-light Role.Check e = cc
leaf-is-light Role.Code e = cc
leaf-is-light Role.Math e = cc
leaf-is-light Role.Reference e = cc
leaf-is-light Role.Link e = cc
leaf-is-light Role.Image e = cc
leaf-is-light Role.Footnote e = cc
leaf-is-light Role.Label e = cc
leaf-is-light Role.FullReference e = cc
leaf-is-light Role.Destination e = cc
leaf-is-light Role.TitleText e = cc
leaf-is-light Role.Title e = cc
leaf-is-light Role.Resource e = cc
leaf-is-light Role.Tail e = cc
leaf-is-light role e = refl

leaf-is-bare : (role : Role) → is_leaf role ≡ true → is_bare role ≡ true
leaf-is-bare Role.Silent e = cc
leaf-is-bare role e = e

bare-opening : (within : Within) (role : Role) → is_bare role ≡ true → opening within role ≡ []
bare-opening within role e = grind arith

bare-closing : (within : Within) (role : Role) → is_bare role ≡ true → closing within role ≡ []
bare-closing within role e = grind arith

no-text : (p : Page) (within : Within) (role : Role) (text : List ℕ) → is_leaf role ≡ false → leaf_html p within role text ≡ []
no-text p within Role.Plain text e = cc
no-text p within Role.LineEnd text e = cc
no-text p within Role.Break text e = cc
no-text p within Role.Raw text e = cc
no-text p within Role.Uri text e = cc
no-text p within Role.Email text e = cc
no-text p within Role.UriLiteral text e = cc
no-text p within Role.WwwLiteral text e = cc
no-text p within Role.EmailLiteral text e = cc
no-text p within role text e = refl

with-nothing : (s : State) (written : List ℕ) → written ≡ [] → record s { out = s.out ++ written } ≡ s
with-nothing s written e = ap (λ x. record s { out = s.out ++ x }) e ∙ ap (λ x. record s { out = x }) (append-nil s.out)

entered-bare : (s : State) (role : Role) (a : Point) → is_bare role ≡ true → entered s role a ≡ s
entered-bare s role a e = entered-light s role a (leaf-is-light role e) ∙ with-nothing s (opening s.within role) (bare-opening s.within role e)

exited-bare : (p : Page) (s : State) (role : Role) (b : Point) → is_bare role ≡ true → exited p s role b ≡ s
exited-bare p s role b e = exited-light p s role b (leaf-is-light role e) ∙ with-nothing s (closing s.within role) (bare-closing s.within role e)

filled-none : (p : Page) (s : State) (role : Role) (a b : Point) → is_leaf role ≡ false → filled p s role a b ≡ s
unfolding filled
filled-none p s role a b e = with-nothing s _ (no-text p s.within role (text_between p.bytes a b) e)

unfilled : (p : Page) (s : State) (role : Role) (a : Point) (rest : List Event) → is_leaf role ≡ false → filled_before p s role a rest ≡ s
unfilled p s role a [] e = refl
unfilled p s role a (x ∷ rest) e = grind (arith, filled-none)

abbrev stepped-by : Page → State → Event → List Event → Kind → Role → State
stepped-by p s e rest k role = elim k [
  | Kind.Enter ↦ filled_before p (entered s role e.point) role e.point rest
  | Kind.Exit ↦ exited p s role e.point
]

-- an event that is an Exit
pub step-exit : (p : Page) (s : State) (e : Event) (rest : List Event) (role : Role) → role ≡ role_of e.name → e.kind ≡ Kind.Exit → stepped p s e rest ≡ exited p s role e.point
step-exit p s e rest role is k = ap (λ x. stepped-by p s e rest x (role_of e.name)) k ∙ ap (λ x. exited p s x e.point) (sym is)

-- an Enter of what has no text of its own
pub step-enter : (p : Page) (s : State) (e : Event) (rest : List Event) (role : Role) → role ≡ role_of e.name → e.kind ≡ Kind.Enter → is_leaf role ≡ false → stepped p s e rest ≡ entered s role e.point
step-enter p s e rest role is k none = grind (arith, unfilled)

-- an Enter of a text
pub step-leaf : (p : Page) (s : State) (e : Event) (rest : List Event) (role : Role) → role ≡ role_of e.name → e.kind ≡ Kind.Enter → is_leaf role ≡ true → stepped p s e rest ≡ filled_before p s role e.point rest
step-leaf p s e rest role is k leaf = grind (arith, entered-bare, leaf-is-bare)

silent-role : (role : Role) → is_silent role ≡ true → role ≡ Role.Silent
silent-role Role.Silent e = refl
silent-role role e = cc

-- an event of what is not written at all
pub step-silent : (p : Page) (s : State) (e : Event) (rest : List Event) (role : Role) → role ≡ role_of e.name → role ≡ Role.Silent → stepped p s e rest ≡ s
step-silent p s e rest role is silent = grind (arith, unfilled, entered-bare, exited-bare)

exit-done : (p : Page) (s : State) (x : Event) (rest : List Event) (skips : Bool) → x.kind ≡ Kind.Exit → skips ≡ is_bare (role_of x.name) → walked p s (if skips then rest else x ∷ rest) ≡ walked p s (x ∷ rest)
exit-done p s x rest true k e = ap (λ y. walked p y rest) (sym (exited-bare p s (role_of x.name) x.point (sym e)) ∙ sym (step-exit p s x rest (role_of x.name) refl k))
exit-done p s x rest false k e = refl

-- a text, and its Exit where that is done too
leaf-written : (p : Page) (s new : State) (role : Role) (a : Point) (x : Event) (rest : List Event) → x.kind ≡ Kind.Exit → new ≡ record s { out = s.out ++ leaf_html p s.within role (text_between p.bytes a x.point) }
    → walked p new (if is_bare (role_of x.name) then rest else x ∷ rest) ≡ walked p (filled_before p s role a (x ∷ rest)) (x ∷ rest)
unfolding filled
leaf-written p s new role a x rest k is = grind (arith, exit-done)

drop-either : (events : List Event) (i : ℕ) (x : Event) (skips : Bool) → drop i events ≡ x ∷ drop (i + 1) events
    → drop (if skips then i + 1 else i) events ≡ (if skips then drop (i + 1) events else x ∷ drop (i + 1) events)
drop-either events i x true e = refl
drop-either events i x false e = e

-- the same, where the Exit stands at an index
pub leaf-done : (p : Page) (s new : State) (role : Role) (a : Point) (events : List Event) (i next : ℕ) (x : Event) → i < length events → x ≡ get_or events i x → x.kind ≡ Kind.Exit
    → next ≡ (if is_bare (role_of x.name) then i + 1 else i) → new ≡ record s { out = s.out ++ leaf_html p s.within role (text_between p.bytes a x.point) }
    → walked p new (drop next events) ≡ walked p (filled_before p s role a (drop i events)) (drop i events)
leaf-done p s new role a events i next x low at k n is = grind (arith, drop_at events i x low at, drop-either, leaf-written p s new role a x (drop (i + 1) events) k is)

-- one event, at an index
pub passed : (p : Page) (s new : State) (events : List Event) (i : ℕ) (e : Event) → i < length events → e ≡ get_or events i e → stepped p s e (drop (i + 1) events) ≡ new
    → walked p new (drop (i + 1) events) ≡ walked p s (drop i events)
passed p s new events i e low at is = ap (λ x. walked p x (drop (i + 1) events)) (sym is) ∙ ap (walked p s) (sym (drop_at events i e low at))

-- one event of what is not written at all
pub silent-passed : (p : Page) (s : State) (events : List Event) (i : ℕ) (e : Event) (role : Role) (b : Bool) → i < length events → e ≡ get_or events i e → role ≡ role_of e.name → b ≡ is_silent role → b ≡ true
    → walked p s (drop (i + 1) events) ≡ walked p s (drop i events)
silent-passed p s events i e role b low at is silent so = grind (arith, passed, step-silent, silent-role)

-- Trees.

abbrev pub enter_event : Name → Point → Option Link → Event
enter_event name a link = record { kind = Kind.Enter; name = name; point = a; link = link }

leaf-step : (p : Page) (s : State) (name : Name) (a b : Point) (link : Option Link) (r : List Event)
    → stepped p (stepped p s (enter_event name a link) (event Kind.Exit name b ∷ r)) (event Kind.Exit name b) r ≡ after s (innermost p s.calls s.within (role_of name) a b)
unfolding filled
leaf-step p s name a b link r =
    let role = role_of name in
    ap (λ within. exited p (after (entered s role a) (record { html = leaf_html p within role (text_between p.bytes a b); parts = no_parts; calls = [] })) role b) (entered-within s role a)
    ∙ close-around p s role a b (record { html = leaf_html p (within_of s.within role) role (text_between p.bytes a b); parts = no_parts; calls = [] })

-- the walk over the events of these trees writes them, whatever comes after
abbrev pub WritesTree : Page → Forest → Type 0
WritesTree p t = (n : ℕ) (previous : Option ℕ) (s : State) (rest : List Event) → walked p s (events_from n previous t ++ rest) ≡ walked p (after s (written p s.calls s.within t)) rest

leaf-walk : (p : Page) (name : Name) (a b : Point) (link : Option Link) (t : Forest) → WritesTree p t →
    (n : ℕ) (previous : Option ℕ) (s : State) (rest : List Event)
    → (let w = innermost p s.calls s.within (role_of name) a b in
    walked p s (enter_event name a link ∷ event Kind.Exit name b ∷ events_from n previous t ++ rest) ≡ walked p (after s (beside w (written p (w.calls ++ s.calls) s.within t))) rest)
leaf-walk p name a b link t ih n previous s rest =
    let w = innermost p s.calls s.within (role_of name) a b in
    ap (λ x. walked p x (events_from n previous t ++ rest)) (leaf-step p s name a b link (events_from n previous t ++ rest))
    ∙ ih n previous (after s w) rest
    ∙ ap (λ x. walked p x rest) (after-after s w (written p (w.calls ++ s.calls) s.within t))

-- a group around something: its Enter is not filled
group-walk : (p : Page) (name : Name) (a b : Point) (inside t : Forest) → WritesTree p inside → WritesTree p t → (n : ℕ) (previous : Option ℕ) (s : State) (rest : List Event)
    → ((more : List Event) → stepped p s (enter_event name a None) (events_from (n + 1) None inside ++ more) ≡ entered s (role_of name) a)
    → (let w = around p s.calls s.within (role_of name) a b (written p s.calls (within_of s.within (role_of name)) inside) in
    written p s.calls s.within (group_then name a b inside t) ≡ beside w (written p (w.calls ++ s.calls) s.within t))
    → walked p s (events_from n previous (group_then name a b inside t) ++ rest) ≡ walked p (after s (written p s.calls s.within (group_then name a b inside t))) rest
group-walk p name a b inside t inner later n previous s rest not_filled whole =
    let role = role_of name in
    let m = n + 2 + event_count inside in
    let behind = events_from m previous t ++ rest in
    let exit = event Kind.Exit name b in
    let w = written p s.calls (within_of s.within role) inside in
    let done = around p s.calls s.within role a b w in
    ap (λ es. walked p s (enter_event name a None ∷ es)) (append_assoc (events_from (n + 1) None inside) (exit ∷ events_from m previous t) rest)
    ∙ ap (λ x. walked p x (events_from (n + 1) None inside ++ exit ∷ behind)) (not_filled (exit ∷ behind))
    ∙ inner (n + 1) None (entered s role a) (exit ∷ behind)
    ∙ ap (λ within. walked p (after (entered s role a) (written p (State.calls (entered s role a)) within inside)) (exit ∷ behind)) (entered-within s role a)
    ∙ ap (λ calls. walked p (after (entered s role a) (written p calls (within_of s.within role) inside)) (exit ∷ behind)) (entered-calls s role a)
    ∙ ap (λ x. walked p x behind) (close-around p s role a b w)
    ∙ later m previous (after s done) rest
    ∙ ap (λ x. walked p x rest) (after-after s done (written p (done.calls ++ s.calls) s.within t))
    ∙ ap (λ x. walked p (after s x) rest) (sym whole)

group-cases : (p : Page) (name : Name) (a b : Point) (inside t : Forest) → WritesTree p inside → WritesTree p t → WritesTree p (group_then name a b inside t)
group-cases p name a b empty t inner later n previous s rest = leaf-walk p name a b None t later (n + 2 + 0) previous s rest
group-cases p name a b (leaf_then x None cs more) t inner later n previous s rest =
    group-walk p name a b (leaf_then x None cs more) t inner later n previous s rest (λ es. refl) refl
group-cases p name a b (leaf_then x (Some content) cs more) t inner later n previous s rest =
    group-walk p name a b (leaf_then x (Some content) cs more) t inner later n previous s rest (λ es. refl) refl
group-cases p name a b (group_then x c d more others) t inner later n previous s rest =
    group-walk p name a b (group_then x c d more others) t inner later n previous s rest (λ es. refl) refl

pub walk-tree : (p : Page) (t : Forest) → WritesTree p t
walk-tree p empty n previous s rest = ap (λ x. walked p x rest) (after-nothing s)
walk-tree p (leaf_then name None cs t) n previous s rest = leaf-walk p name (start_of cs) (stop_of document_start cs) None t (walk-tree p t) (n + 2) previous s rest
walk-tree p (leaf_then name (Some content) cs t) n previous s rest =
    leaf-walk p name (start_of cs) (stop_of document_start cs) (Some (record { previous = previous; next = next_linked (n + 2) t; content = content })) t (walk-tree p t) (n + 2) (Some n) s rest
walk-tree p (group_then name a b inside t) n previous s rest = group-cases p name a b inside t (walk-tree p inside) (walk-tree p t) n previous s rest

-- the walk over all events of trees
pub walk-whole : (p : Page) (out : List ℕ) (before : List (List ℕ)) (within : Within) (n : ℕ) (previous : Option ℕ) (t : Forest)
    → walked p (beginning out before within) (events_from n previous t) ≡ after (beginning out before within) (written p before within t)
walk-whole p out before within n previous t =
    ap (walked p (beginning out before within)) (sym (append-nil (events_from n previous t))) ∙ walk-tree p t n previous (beginning out before within) []

abbrev pub html_within : Page → List (List ℕ) → Within → Forest → List ℕ
html_within p before within t = let w = written p before within t in w.html

abbrev pub calls_within : Page → List (List ℕ) → Within → Forest → List (List ℕ)
calls_within p before within t = let w = written p before within t in w.calls ++ before

-- what is written of trees behind this, and the calls up to their end
abbrev pub IsWrittenAs : Page → List ℕ → List (List ℕ) → Within → Forest → State → Type 0
IsWrittenAs p out before within t s = (s.out ≡ out ++ html_within p before within t) × (s.calls ≡ calls_within p before within t)

pub walk-html : (p : Page) (out : List ℕ) (before : List (List ℕ)) (within : Within) (n : ℕ) (previous : Option ℕ) (t : Forest) (s : State)
    → walked p (beginning out before within) (events_from n previous t) ≡ s → IsWrittenAs p out before within t s
walk-html p out before within n previous t s e = grind (arith, walk-whole)
