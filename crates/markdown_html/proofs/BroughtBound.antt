-- Where even the longest definition at each link and image brings no more than a limit, something is left of the limit.
use Rattle.std.proofs.Common.{◌≡◌, sym, ap, refl, subst, ℕ, suc, nat_le, ◌+◌, ◌-◌, ◌*◌, ◌≤◌, ◌<◌, ◌^◌, min, max, arith, Bool, true, false, if◌then◌else◌, List, [], ◌∷◌, ◌++◌, length, Option, None, Some}
use Rattle.std.specs.Str.{bytes_eq}
use Rattle.std.proofs.Math.Nat.{add-mul}
use Rattle.std.proofs.lemmas.Bool.Decides.{nat_tests}
use Rattle.markdown_content.specs.Tree.{Forest, events_of}
use Rattle.markdown_event.specs.declared.event.Event.{Event}
use Rattle.markdown_event.specs.declared.event.Kind.{Kind}
use Rattle.markdown_html_model.specs.Html.{Defined, Page, Target, defined, label_target, nowhere, reference_target}
use Rattle.markdown_html_model.specs.Roles.{role_of}
use Rattle.markdown_html_model.specs.declared.role.Role.{Role}
use Rattle.markdown_html.specs.Brought.{brought, left_of, target_bytes}
use Rattle.markdown_html.specs.BroughtAtMost.{AreFew, BringAtMost, BringCounted, is_brought_to, link_ends}
use Rattle.markdown_html.specs.BroughtWalk.{Counted, brought_where, count_begun, counted, counted_apart, counted_close, counted_step, seen_brought}
use Rattle.markdown_html.specs.EventWalk.{is_apart}
use Rattle.markdown_html.specs.FirstDefinitions.{target_with}
use Rattle.markdown_html.specs.declared.brought.Before.{Before}
use Rattle.markdown_html.specs.declared.brought.Seen.{Seen}
use Rattle.markdown_html.proofs.BroughtTree.{all_counted}

-- Definitions.

picked : (b : Bool) (x y : Target) (most : ℕ) → target_bytes x ≤ most → target_bytes y ≤ most → target_bytes (if b then x else y) ≤ most
picked true x y most h k = h
picked false x y most h k = k

picked-more : (b : Bool) (x y z : Target) (most : ℕ) → (target_bytes y ≤ most → target_bytes z ≤ most) → target_bytes (if b then x else y) ≤ most → target_bytes (if b then x else z) ≤ most
picked-more true x y z most f h = h
picked-more false x y z most f h = f h

-- one more definition that brings no more
more_defined : (q : List ℕ) (ds : List Defined) (d : Defined) (most : ℕ) → target_bytes (defined q ds) ≤ most → target_bytes (target_with d) ≤ most
    → target_bytes (defined q (ds ++ d ∷ [])) ≤ most
more_defined q [] d most h k = picked (bytes_eq d.identifier q) (target_with d) nowhere most k (omega arith)
more_defined q (e ∷ ds) d most h k =
    picked-more (bytes_eq e.identifier q) (target_with e) (defined q ds) (defined q (ds ++ d ∷ [])) most (λ m. more_defined q ds d most m k) h

-- the most bytes of all definitions, where one more has so many
pub counted_more : (ds all : List Defined) (d : Defined) (to : Target) (most bytes larger : ℕ) → BringCounted ds most → to ≡ target_with d → bytes ≡ min (target_bytes to) (2 ^ 64 - 1)
    → larger ≡ max most bytes → all ≡ ds ++ d ∷ [] → BringCounted all larger
counted_more ds all d to most bytes larger before leads is grown more = λ q small.
    let same : target_bytes to ≡ target_bytes (target_with d) = ap target_bytes leads in
    let low : most + 1 < 2 ^ 64 = omega (arith, small, grown) in
    let earlier : target_bytes (defined q ds) ≤ most = before q low in
    let later : target_bytes (defined q (ds ++ d ∷ [])) ≤ larger = more_defined q ds d larger (omega (arith, earlier, grown)) (omega (arith, same, is, small, grown)) in
    subst (λ x. target_bytes (defined q x) ≤ larger) (sym more) later

-- What a definition brings.

-- What is left.

-- no less than so much is left
abbrev LeavesAtLeast : Option ℕ → ℕ → Type 0
LeavesAtLeast None least = ⊥
LeavesAtLeast (Some n) least = least ≤ n

less-left : (left : Option ℕ) (least less : ℕ) → LeavesAtLeast left least → less ≤ least → LeavesAtLeast left less
less-left None least less h k = h
less-left (Some n) least less h k = omega (arith, h, k)

step-left : (p : Page) (most : ℕ) → BringAtMost p.definitions most → (s : Counted) (role : Role) (kind : Kind) (at least : ℕ) (x : Bool)
    → LeavesAtLeast s.left ((if is_brought_to role then 1 else 0) * most + least) → LeavesAtLeast (Counted.left (if x then counted_apart p s role kind at else s)) least
step-left p most few s role kind at least x h = grind (arith, less-left)

walk-left : (p : Page) (most : ℕ) → BringAtMost p.definitions most → (events : List Event) (s : Counted) → LeavesAtLeast s.left (link_ends events * most) → LeavesAtLeast (Counted.left (counted p s events)) 0
walk-left p most few [] s h = less-left s.left _ 0 h (omega arith)
walk-left p most few (e ∷ rest) s h =
    let role = role_of e.name in
    let one = if is_brought_to role then 1 else 0 in
    let sum : (one + link_ends rest) * most ≡ one * most + link_ends rest * most = add-mul one (link_ends rest) most in
    walk-left p most few rest (counted_step p s e) (step-left p most few s role e.kind e.point.index (link_ends rest * most) (is_apart role) (subst (LeavesAtLeast s.left) sum h))

tested : (b : Bool) (n taken : ℕ) → nat_le taken n ≡ b → LeavesAtLeast (if b then Some (n - taken) else None) 0 → taken ≤ n
tested true n taken e h = grind (arith, nat_tests, e)
tested false n taken e h = absurd h

-- definitions bring no more than a limit, where even the longest at each link and image brings no more
pub few_within : (p : Page) (t : Forest) (events : List Event) (limit : ℕ) → events ≡ events_of t → AreFew events p.definitions limit → brought p t ≤ limit
few_within p t events limit is few =
    let end = counted p (count_begun (Some limit)) events in
    let left : LeavesAtLeast end.left 0 = walk-left p few.0 few.1 events (count_begun (Some limit)) few.2 in
    let same : end.left ≡ left_of (Some limit) (brought p t) = all_counted p limit t events end [] refl refl is in
    tested (nat_le (brought p t) limit) limit (brought p t) refl (subst (λ o. LeavesAtLeast o 0) same left)

-- The events.

one-more : (b : Bool) (m n : ℕ) → m ≤ n → (if b then 1 else 0) + m ≤ suc n
one-more true m n h = omega (arith, h)
one-more false m n h = omega (arith, h)

pub few_ends : (events : List Event) → link_ends events ≤ length events
few_ends [] = omega arith
few_ends (e ∷ rest) = one-more (is_brought_to (role_of e.name)) (link_ends rest) (length rest) (few_ends rest)
