-- What pairs take of a run, and edits run by run.
use Rattle.std.proofs.Common.{◌≡◌, ℕ, zero, suc, ◌+◌, ◌-◌, ◌<◌, ◌≤◌, ◌^◌, ◌==◌, Bool, true, false, if◌then◌else◌, List, ◌∷◌, ◌++◌, length, take, drop, get_or, set, length-set, reverse, inl, inr, refl, sym, ap, subst, ◌∙◌, arith, []}
use Rattle.std.proofs.lemmas.Bool.{cases_eq, eq-eqb, ne_eqb}
use Rattle.std.proofs.lemmas.List.{take_more, drop_more, get_or-set_same, get_or-set_other}
use Rattle.std.proofs.lemmas.List.Elements.{All-nil, All-cons, All-append}
use Rattle.std.specs.List.{All}
use Rattle.markdown_engine_events.specs.EventChains.{IsUnlinked}
use Rattle.markdown_content.specs.Tree.{event}
use Rattle.markdown_event.specs.declared.event.Event.{Event}
use Rattle.markdown_event.specs.declared.event.Kind.TheVariants as Kind
use Rattle.markdown_event.specs.declared.event.Name.{Name}
use Rattle.markdown_model.specs.BracketGroups.{pair_names}
use Rattle.markdown_event.specs.declared.event.Point.{Point}
use Rattle.markdown_engine_events.specs.declared.util.edit_map.Edit.{Edit}
use Rattle.markdown_attention.specs.declared.attention.pairing.Pair.{Pair}
use Rattle.markdown_attention.specs.declared.attention.runs.Sequence.{Sequence}
use Rattle.markdown_attention.specs.RunEvents.{shifted, total, closing_at, opening_at, closings_from, openings_from, data_at, marker_events}
use Rattle.markdown_attention.specs.RunEdits.{edits_by, run_edits, point_in, opened_sizes}
use Rattle.markdown_attention.specs.PairSizes.{AreSizes, added_for, HasRoom, HasRoomFor}

-- The sizes of the runs, with those of one pair more before them.

module _ (pairs : List Pair) (count i : ℕ) (d : Pair) (sizes new : List (List ℕ)) (some : 0 < i) (within : i ≤ length pairs)
    (few : All (λ p. p.opener < count) pairs) (long : length sizes ≡ count)
    (is : new ≡ set sizes (get_or pairs (i - 1) d).opener ((get_or pairs (i - 1) d).size ∷ get_or sizes (get_or pairs (i - 1) d).opener [])) where
  abbrev before : Pair
  before = get_or pairs (i - 1) d

  next : drop (i - 1) pairs ≡ before ∷ drop i pairs
  next = grind (arith, drop_more)

  pub sizes-long : length new ≡ count
  sizes-long = ap length is ∙ length-set sizes before.opener (before.size ∷ get_or sizes before.opener []) ∙ long

  run-in : before.opener < length sizes
  run-in = let f : before.opener < count = few (i - 1) d (omega arith) in omega (arith, long, f)

  -- by whether the pair's opener is the run
  by-test : (g : ℕ) (b : Bool) → (before.opener == g) ≡ b → opened_sizes g (drop (i - 1) pairs) ≡ (if b then before.size ∷ opened_sizes g (drop i pairs) else opened_sizes g (drop i pairs))
  by-test g b e =
      ap (opened_sizes g) next ∙ ap (λ (t : Bool). if t then before.size ∷ opened_sizes g (drop i pairs) else opened_sizes g (drop i pairs)) e

  pub sizes-before : ((g : ℕ) → get_or sizes g [] ≡ opened_sizes g (drop i pairs)) → (g : ℕ) → get_or new g [] ≡ opened_sizes g (drop (i - 1) pairs)
  sizes-before h g =
      let run : ℕ = before.opener in
      let more : List ℕ = before.size ∷ get_or sizes run [] in
      elim (cases_eq g run) [
        | inl own ↦
            ap (λ (xs : List (List ℕ)). get_or xs g []) is
            ∙ ap (λ j. get_or (set sizes run more) j []) own
            ∙ get_or-set_same sizes run more [] run-in
            ∙ ap (λ xs. before.size ∷ xs) (h run ∙ ap (λ j. opened_sizes j (drop i pairs)) (sym own))
            ∙ sym (by-test g true (eq-eqb run g (sym own)))
        | inr other ↦
            ap (λ (xs : List (List ℕ)). get_or xs g []) is
            ∙ get_or-set_other sizes run g more [] other
            ∙ h g
            ∙ sym (by-test g false (ne_eqb run g (λ e. other (sym e))))
      ]

-- No event that comes is linked.

four : (a b c d : Event) → IsUnlinked a → IsUnlinked b → IsUnlinked c → IsUnlinked d →
    All IsUnlinked (a ∷ b ∷ c ∷ d ∷ [])
four a b c d h i j k =
    All-cons IsUnlinked a (b ∷ c ∷ d ∷ []) h (All-cons IsUnlinked b (c ∷ d ∷ []) i (All-cons IsUnlinked c (d ∷ []) j (All-cons IsUnlinked d [] k (All-nil IsUnlinked))))

closing-plain : (m : ℕ) (p : Point) (k : ℕ) → All IsUnlinked (closing_at m p k)
closing-plain m p k =
    four (event Kind.Exit (pair_names m k).2 p) (event Kind.Enter (pair_names m k).1 p) (event Kind.Exit (pair_names m k).1 (shifted p k)) (event Kind.Exit (pair_names m k).0 (shifted p k)) refl refl refl refl

opening-plain : (m : ℕ) (p : Point) (k : ℕ) → All IsUnlinked (opening_at m p k)
opening-plain m p k =
    four (event Kind.Enter (pair_names m k).0 p) (event Kind.Enter (pair_names m k).1 p) (event Kind.Exit (pair_names m k).1 (shifted p k)) (event Kind.Enter (pair_names m k).2 (shifted p k)) refl refl refl refl

closings-plain : (m : ℕ) (p : Point) (ks : List ℕ) → All IsUnlinked (closings_from m p ks)
closings-plain m p [] = All-nil IsUnlinked
closings-plain m p (k ∷ ks) =
    All-append IsUnlinked (closing_at m p k) (closings_from m (shifted p k) ks) (closing-plain m p k) (closings-plain m (shifted p k) ks)

openings-plain : (m : ℕ) (p : Point) (ks : List ℕ) → All IsUnlinked (openings_from m p ks)
openings-plain m p [] = All-nil IsUnlinked
openings-plain m p (k ∷ ks) =
    All-append IsUnlinked (opening_at m p k) (openings_from m (shifted p k) ks) (opening-plain m p k) (openings-plain m (shifted p k) ks)

data-plain : (p : Point) (k : ℕ) → All IsUnlinked (data_at p k)
data-plain p zero = All-nil IsUnlinked
data-plain p (suc k) =
    All-cons IsUnlinked (event Kind.Enter Name.Data p) (event Kind.Exit Name.Data (shifted p (suc k)) ∷ []) refl (All-cons IsUnlinked (event Kind.Exit Name.Data (shifted p (suc k))) [] refl (All-nil IsUnlinked))

pub events-plain : (m : ℕ) (p : Point) (fronts : List ℕ) (kept : ℕ) (backs : List ℕ) (es : List Event) →
    es ≡ marker_events m p fronts kept backs → All IsUnlinked es
unfolding marker_events
events-plain m p fronts kept backs es e =
    let F : List Event = closings_from m p fronts in
    let D : List Event = data_at (shifted p (total fronts)) kept in
    let B : List Event = openings_from m (shifted p (total fronts + kept)) (reverse backs) in
    subst (λ (xs : List Event). All IsUnlinked xs) (sym e) (All-append IsUnlinked F (D ++ B) (closings-plain m p fronts) (All-append IsUnlinked D B (data-plain (shifted p (total fronts)) kept) (openings-plain m (shifted p (total fronts + kept)) (reverse backs))))

-- Edits.

pub point-read : (es : List Event) (i : ℕ) (e : Event) → i < length es → e ≡ get_or es i e → e.point ≡ point_in es i
point-read [] i e l h = absurd (omega (arith, l))
point-read (x ∷ es) zero e l h = ap (λ (y : Event). y.point) h
point-read (x ∷ es) (suc i) e l h = point-read es i e (omega (arith, l)) h

edits-push : (f : Sequence → List Event) (rs : List Sequence) (r : Sequence) →
    edits_by f (rs ++ r ∷ []) ≡ edits_by f rs ++ (record { at = r.event; remove = 2; events = f r; before = false }) ∷ []
edits-push f [] r = refl
edits-push f (x ∷ rs) r =
    ap (λ es. (record { at = x.event; remove = 2; events = f x; before = false }) ∷ es) (edits-push f rs r)

pub edits-more : (f : Sequence → List Event) (rs : List Sequence) (k : ℕ) (d : Sequence) (now new : List Edit) (es : List Event) → k < length rs → now ≡ edits_by f (take k rs) → es ≡ f (get_or rs k d)
    → new ≡ now ++ (record { at = (get_or rs k d).event; remove = 2; events = es; before = false }) ∷ [] → new ≡ edits_by f (take (k + 1) rs)
edits-more f rs k d now new es l h e n =
    let r : Sequence = get_or rs k d in
    n
    ∙ (λ i. h i ++ (record { at = r.event; remove = 2; events = e i; before = false }) ∷ [])
    ∙ sym (ap (edits_by f) (take_more rs k d l) ∙ edits-push f (take k rs) r)

-- there is room, by what was read
pub room-read : (p q : Point) (f g b d : List ℕ) (k : ℕ) → p ≡ q → f ≡ g → b ≡ d → (q.column + (total g + k + total d) < 2 ^ 64) × (q.index + (total g + k + total d) < 2 ^ 64)
    → (p.column + (total f + k + total b) < 2 ^ 64) × (p.index + (total f + k + total b) < 2 ^ 64)
room-read p q f g b d k e h j r = grind arith

-- By the pairs.

edits-alike : (f g : Sequence → List Event) (rs : List Sequence) → ((r : Sequence) → f r ≡ g r) →
    edits_by f rs ≡ edits_by g rs
edits-alike f g [] h = refl
edits-alike f g (r ∷ rs) h =
    λ i. (record { at = r.event; remove = 2; events = h r i; before = false }) ∷ edits-alike f g rs h i

pub edits-are : (es : List Event) (pairs : List Pair) (backs : List (List ℕ)) (rs : List Sequence) → AreSizes pairs backs →
    edits_by (added_for es pairs backs) rs ≡ run_edits (point_in es) pairs rs
edits-are es pairs backs rs b = grind (arith, edits-alike)

pub room-by : (es : List Event) (count : ℕ) (pairs : List Pair) (backs : List (List ℕ)) (r : Sequence) → AreSizes pairs backs → length backs ≡ count →
    HasRoomFor es count pairs r → HasRoom es pairs backs r
room-by es count pairs backs r b m h = grind (arith, room-read)
