-- the edits of data, one by one
use Rattle.std.proofs.Common.{◌≡◌, ℕ, zero, suc, ◌+◌, ◌-◌, ◌<◌, ◌≤◌, ◌&&◌, not, Bool, true, false, List, [], ◌∷◌, ◌++◌, length, drop, get_or, refl, sym, ap, subst, ◌∙◌, arith, append_assoc, append-nil, inl, inr, if◌then◌else◌}
use Rattle.std.proofs.lemmas.List.{drop_more, drop_all}
use Rattle.std.proofs.Math.Bool.{and-false}
use Rattle.markdown_content.specs.ListFunctions.{rest_of}
use Rattle.markdown_content.proofs.PlaceRules.{drop-more}
use Rattle.markdown_model.specs.Passes.{HardBreaks, breaks_where}
use Rattle.std.proofs.lemmas.Bool.{cases_lt, cases_Bool, both_ways, and_parts}
use Rattle.markdown_engine_events.specs.EventChains.{has_link, linked_at}
use Rattle.markdown_engine_events.specs.Edits.{removed_at, added_at, CanEdit}
use Rattle.markdown_event.specs.declared.event.Event.{Event}
use Rattle.markdown_engine_events.specs.declared.util.edit_map.Edit.{Edit}
use Rattle.markdown_engine_events.proofs.EditSteps.{AreOfTwo}
use Rattle.markdown_engine_events.proofs.WalkedEdits.{walked, state_at, of-two, can-walk}
use Rattle.markdown_passes.specs.MergedEvents.{is_enter, is_data, opens_data}
use Rattle.markdown_passes.specs.TrimmedData.{IsStretch, trimmed_events}
use Rattle.markdown_passes.proofs.DataSearch.{BeginsNone, event-at}
use Rattle.markdown_passes.specs.TrimmedEvents.{closes_ending, flag, goes_before, trim, trim_first, trims, ClosesAt, FirstDataHasPlaces, HasPlaces, loses, loses_first}

-- At the first event.

pub head-drop : (i : ℕ) (es : List Event) (e : Event) → i < length es → e ≡ get_or es i e →
    drop i es ≡ e ∷ drop (i + 1) es
head-drop i es e l h = drop_more es i e l ∙ ap (λ x. x ∷ drop (i + 1) es) (sym h)

pub closes-first : (bytes : List ℕ) (i : ℕ) (es : List Event) (e : Event) → i < length es → e ≡ get_or es i e →
    opens_data e ≡ true → FirstDataHasPlaces bytes (drop i es) → ClosesAt bytes e (drop (i + 1) es)
closes-first bytes i es e l h o p =
    let q = subst (λ (xs : List Event). FirstDataHasPlaces bytes xs) (head-drop i es e l h) p in q o

-- the same of an event that is known by its number
pub data-closes : (bytes : List ℕ) (i : ℕ) (es : List Event) (e : Event) → i < length es → e ≡ get_or es i e →
    ((x : Event) → opens_data (get_or es i x) ≡ true) → FirstDataHasPlaces bytes (drop i es) → ClosesAt bytes e (drop (i + 1) es)
data-closes bytes i es e l h o p = closes-first bytes i es e l h (ap opens_data h ∙ o e) p

some-left : (bytes : List ℕ) (e : Event) (xs : List Event) → ClosesAt bytes e xs → 0 < length xs
some-left bytes e [] h = absurd h
some-left bytes e (x ∷ xs) h = omega arith

pub next-within : (bytes : List ℕ) (i : ℕ) (es : List Event) (e : Event) → ClosesAt bytes e (drop (i + 1) es) →
    i + 1 < length es
next-within bytes i es e h =
    elim (cases_lt (i + 1) (length es)) [
      | inl l ↦ l
      | inr l ↦ absurd (let m = some-left bytes e (drop (i + 1) es) h in let none = ap length (drop_all (i + 1) es l) in omega (arith, none, m))
    ]

-- One after the other.

pub places-more : (bytes : List ℕ) (i : ℕ) (es : List Event) (e : Event) → i < length es → e ≡ get_or es i e →
    HasPlaces bytes (drop i es) → HasPlaces bytes (drop (i + 1) es)
places-more bytes i es e l h p = (subst (λ (xs : List Event). HasPlaces bytes xs) (head-drop i es e l h) p).1

pub trims-more : (bytes : List ℕ) (hard : HardBreaks) (whole : Bool) (i : ℕ) (front more : Bool) (es : List Event) (e : Event) (old new all : List Edit) →
    i < length es → e ≡ get_or es i e → more ≡ closes_ending e →
    new ≡ old ++ trim_first bytes hard whole i front (drop i es) →
    old ++ trims bytes hard whole i front (drop i es) ≡ all →
    new ++ trims bytes hard whole (i + 1) more (drop (i + 1) es) ≡ all
trims-more bytes hard whole i front more es e old new all l h c g k =
    let here : List Edit = trim_first bytes hard whole i front (drop i es) in
    let rest : List Edit = trims bytes hard whole (i + 1) more (drop (i + 1) es) in
    let one : suc i ≡ i + 1 = omega arith in
    let step : trims bytes hard whole i front (drop i es) ≡ here ++ rest =
    ap (trims bytes hard whole i front) (head-drop i es e l h)
    ∙ ap (λ ys. trim_first bytes hard whole i front ys ++ trims bytes hard whole (suc i) (closes_ending e) (drop (i + 1) es)) (sym (head-drop i es e l h))
    ∙ ap (λ j. here ++ trims bytes hard whole j (closes_ending e) (drop (i + 1) es)) one
    ∙ ap (λ b. here ++ trims bytes hard whole (i + 1) b (drop (i + 1) es)) (sym c) in
    ap (λ ys. ys ++ rest) g ∙ append_assoc old here rest ∙ ap (λ ys. old ++ ys) (sym step) ∙ k

-- behind an event that is passed
pub flag-next : (k : ℕ) (front : Bool) (es : List Event) (e : Event) → k < length es → e ≡ get_or es k e →
    flag (suc k) front es ≡ closes_ending e
flag-next k front [] e l h = absurd (omega (arith, l))
flag-next zero front (x ∷ es) e l h = ap closes_ending (sym h)
flag-next (suc k) front (x ∷ es) e l h = flag-next k (closes_ending x) es e (omega (arith, l)) h

pub places-on : (bytes : List ℕ) (i : ℕ) (es : List Event) → i < length es → HasPlaces bytes (drop i es) →
    HasPlaces bytes (drop (i + 1) es)
places-on bytes i es l p = let at = event-at i es l in places-more bytes i es at.0 l at.1 p

trims-on : (bytes : List ℕ) (hard : HardBreaks) (whole : Bool) (i : ℕ) (es : List Event) (old new all : List Edit) →
    i < length es → new ≡ old ++ trim_first bytes hard whole i (flag i whole es) (drop i es) →
    old ++ trims bytes hard whole i (flag i whole es) (drop i es) ≡ all →
    new ++ trims bytes hard whole (i + 1) (flag (i + 1) whole es) (drop (i + 1) es) ≡ all
trims-on bytes hard whole i es old new all l g k =
    let at = event-at i es l in
    let one : i + 1 ≡ suc i = omega arith in
    trims-more bytes hard whole i (flag i whole es) (flag (i + 1) whole es) es at.0 old new all l at.1 (ap (λ j. flag j whole es) one ∙ flag-next i whole es at.0 l at.1) g k

-- Past events that begin no data.

pub places-pass : (bytes : List ℕ) (d i k : ℕ) (es : List Event) → k ≡ i + d → k ≤ length es → HasPlaces bytes (drop i es) →
    HasPlaces bytes (drop k es)
places-pass bytes zero i k es h l p =
    let same : i ≡ k = omega (arith, h) in subst (λ n. HasPlaces bytes (drop n es)) same p
places-pass bytes (suc d) i k es h l p =
    places-pass bytes d (i + 1) k es (omega (arith, h)) l (places-on bytes i es (omega (arith, h, l)) p)

trim-other : (bytes : List ℕ) (hard : HardBreaks) (whole : Bool) (n : ℕ) (front : Bool) (e : Event) (es : List Event) → opens_data e ≡ false →
    trim_first bytes hard whole n front (e ∷ es) ≡ []
trim-other bytes hard whole n front e [] h = refl
trim-other bytes hard whole n front e (x ∷ es) h =
    ap (λ b. if b && loses front (goes_before whole es) bytes e.point x.point then trim bytes hard whole n front e x es ∷ [] else []) h

-- The first data loses codes where it is trimmed.

losing-other : (bytes : List ℕ) (whole front : Bool) (e : Event) (es : List Event) → opens_data e ≡ false → loses_first bytes whole front (e ∷ es) ≡ false
losing-other bytes whole front e [] h = refl
losing-other bytes whole front e (x ∷ es) h = ap (λ b. b && loses front (goes_before whole es) bytes e.point x.point) h

pub loses-other : (bytes : List ℕ) (whole front : Bool) (i : ℕ) (es : List Event) (e : Event) → i < length es → e ≡ get_or es i e →
    opens_data e ≡ false → loses_first bytes whole front (drop i es) ≡ false
loses-other bytes whole front i es e l h o =
    ap (loses_first bytes whole front) (head-drop i es e l h) ∙ losing-other bytes whole front e (drop (i + 1) es) o

losing-none : (bytes : List ℕ) (whole front : Bool) (es : List Event) → front ≡ false → goes_before whole (rest_of (rest_of es)) ≡ false →
    loses_first bytes whole front es ≡ false
losing-none bytes whole front [] h k = refl
losing-none bytes whole front (e ∷ []) h k = refl
losing-none bytes whole front (e ∷ x ∷ es) h k =
    ap (λ f. opens_data e && loses f (goes_before whole es) bytes e.point x.point) h
    ∙ ap (λ g. opens_data e && loses false g bytes e.point x.point) k
    ∙ and-false (opens_data e)

pub loses-none : (bytes : List ℕ) (whole front : Bool) (i : ℕ) (es : List Event) → front ≡ false →
    goes_before whole (drop (i + 2) es) ≡ false → loses_first bytes whole front (drop i es) ≡ false
loses-none bytes whole front i es h k =
    let more : i + 2 ≡ suc (suc i) = omega arith in
    let behind : drop (i + 2) es ≡ rest_of (rest_of (drop i es)) = ap (λ m. drop m es) more ∙ drop-more (suc i) es ∙ ap rest_of (drop-more i es) in
    losing-none bytes whole front (drop i es) h (ap (goes_before whole) (sym behind) ∙ k)

-- of two events that follow one another
pub loses-is : (bytes : List ℕ) (whole front : Bool) (i : ℕ) (es : List Event) (e x : Event) → i + 1 < length es → e ≡ get_or es i e →
    x ≡ get_or es (i + 1) x → opens_data e ≡ true →
    loses_first bytes whole front (drop i es) ≡ loses front (goes_before whole (drop (i + 2) es)) bytes e.point x.point
loses-is bytes whole front i es e x l h k o =
    let two : i + 1 + 1 ≡ i + 2 = omega arith in
    ap (loses_first bytes whole front) (head-drop i es e (omega (arith, l)) h ∙ ap (λ xs. e ∷ xs) (head-drop (i + 1) es x l k))
    ∙ ap (λ b. b && loses front (goes_before whole (drop (i + 1 + 1) es)) bytes e.point x.point) o
    ∙ ap (λ m. loses front (goes_before whole (drop m es)) bytes e.point x.point) two

-- so its edit is none where it loses none, and else that of its two events
pub kept-edit : (bytes : List ℕ) (hard : HardBreaks) (whole : Bool) (n : ℕ) (front : Bool) (es : List Event) → loses_first bytes whole front es ≡ false →
    trim_first bytes hard whole n front es ≡ []
kept-edit bytes hard whole n front [] h = refl
kept-edit bytes hard whole n front (e ∷ []) h = refl
kept-edit bytes hard whole n front (e ∷ x ∷ es) h = ap (λ b. if b then trim bytes hard whole n front e x es ∷ [] else []) h

pub keeps-first : (bytes : List ℕ) (hard : HardBreaks) (whole : Bool) (n : ℕ) (front : Bool) (es : List Event) (old : List Edit) →
    loses_first bytes whole front es ≡ false → old ≡ old ++ trim_first bytes hard whole n front es
keeps-first bytes hard whole n front es old h =
    sym (append-nil old) ∙ ap (λ xs. old ++ xs) (sym (kept-edit bytes hard whole n front es h))

pub opens-first : (bytes : List ℕ) (whole front : Bool) (i : ℕ) (es : List Event) (e : Event) → i < length es → e ≡ get_or es i e →
    loses_first bytes whole front (drop i es) ≡ true → opens_data e ≡ true
opens-first bytes whole front i es e l h k =
    elim (cases_Bool (opens_data e)) [
      | inl o ↦ o
      | inr o ↦ absurd (both_ways (loses_first bytes whole front (drop i es)) (loses-other bytes whole front i es e l h o) k)
    ]

pub stretch-first : (bytes : List ℕ) (i : ℕ) (es : List Event) (e x : Event) → i + 1 < length es → x ≡ get_or es (i + 1) x →
    ClosesAt bytes e (drop (i + 1) es) → IsStretch bytes e.point x.point
stretch-first bytes i es e x l k c = (subst (λ (xs : List Event). ClosesAt bytes e xs) (head-drop (i + 1) es x l k) c).0

pub edit-first : (bytes : List ℕ) (hard : HardBreaks) (whole : Bool) (n : ℕ) (front : Bool) (i : ℕ) (es : List Event) (e x : Event) → i + 1 < length es →
    e ≡ get_or es i e → x ≡ get_or es (i + 1) x → loses_first bytes whole front (drop i es) ≡ true →
    trim_first bytes hard whole n front (drop i es) ≡ trim bytes hard whole n front e x (drop (i + 2) es) ∷ []
edit-first bytes hard whole n front i es e x l h k losing =
    let two : i + 1 + 1 ≡ i + 2 = omega arith in
    let rest : List Event = drop (i + 2) es in
    let both : drop i es ≡ e ∷ x ∷ rest = head-drop i es e (omega (arith, l)) h ∙ ap (λ xs. e ∷ xs) (head-drop (i + 1) es x l k) ∙ ap (λ m. e ∷ x ∷ drop m es) two in
    let on : opens_data e && loses front (goes_before whole rest) bytes e.point x.point ≡ true = ap (loses_first bytes whole front) (sym both) ∙ losing in
    ap (trim_first bytes hard whole n front) both ∙ ap (λ b. if b then trim bytes hard whole n front e x rest ∷ [] else []) on

trims-pass : (bytes : List ℕ) (hard : HardBreaks) (whole : Bool) (d i k : ℕ) (es : List Event) → k ≡ i + d → k ≤ length es → BeginsNone es i k →
    trims bytes hard whole i (flag i whole es) (drop i es) ≡ trims bytes hard whole k (flag k whole es) (drop k es)
trims-pass bytes hard whole zero i k es h l none =
    let same : i ≡ k = omega (arith, h) in ap (λ n. trims bytes hard whole n (flag n whole es) (drop n es)) same
trims-pass bytes hard whole (suc d) i k es h l none =
    let there : i < length es = omega (arith, h, l) in
    let at = event-at i es there in
    let first : trim_first bytes hard whole i (flag i whole es) (drop i es) ≡ [] = ap (trim_first bytes hard whole i (flag i whole es)) (head-drop i es at.0 there at.1) ∙ trim-other bytes hard whole i (flag i whole es) at.0 (drop (i + 1) es) (ap opens_data at.1 ∙ none i at.0 (omega arith) (omega (arith, h))) in
    sym (trims-on bytes hard whole i es [] [] (trims bytes hard whole i (flag i whole es) (drop i es)) there (sym first) refl)
    ∙ trims-pass bytes hard whole d (i + 1) k es (omega (arith, h)) l (λ j e low high. none j e (omega (arith, low)) high)

pub trims-begin : (bytes : List ℕ) (hard : HardBreaks) (whole : Bool) (k : ℕ) (es : List Event) (log : List Edit) → k ≤ length es → BeginsNone es 0 k → log ≡ [] →
    log ++ trims bytes hard whole k (flag k whole es) (drop k es) ≡ trims bytes hard whole 0 whole es
trims-begin bytes hard whole k es log l none e =
    ap (λ x. x ++ trims bytes hard whole k (flag k whole es) (drop k es)) e ∙ sym (trims-pass bytes hard whole k 0 k es (omega arith) l none)

pub trims-next : (bytes : List ℕ) (hard : HardBreaks) (whole : Bool) (i k : ℕ) (es : List Event) (old new all : List Edit) →
    i < length es → i + 1 ≤ k → k ≤ length es → BeginsNone es (i + 1) k → new ≡ old ++ trim_first bytes hard whole i (flag i whole es) (drop i es) →
    old ++ trims bytes hard whole i (flag i whole es) (drop i es) ≡ all →
    new ++ trims bytes hard whole k (flag k whole es) (drop k es) ≡ all
trims-next bytes hard whole i k es old new all here l h none e a =
    ap (λ x. new ++ x) (sym (trims-pass bytes hard whole (k - (i + 1)) (i + 1) k es (omega (arith, l)) h none)) ∙ trims-on bytes hard whole i es old new all here e a

pub trims-end : (bytes : List ℕ) (hard : HardBreaks) (whole : Bool) (i : ℕ) (es : List Event) (log all : List Edit) → length es ≤ i →
    log ++ trims bytes hard whole i (flag i whole es) (drop i es) ≡ all → log ≡ all
trims-end bytes hard whole i es log all l k =
    sym (append-nil log) ∙ ap (λ ys. log ++ trims bytes hard whole i (flag i whole es) ys) (sym (drop_all i es l)) ∙ k

-- The edits are those of a walk.

abbrev pub comes : List ℕ → HardBreaks → Bool → Bool → List Event → List Event
comes bytes hard whole front [] = []
comes bytes hard whole front (e ∷ []) = []
comes bytes hard whole front (e ∷ x ∷ es) = trimmed_events front (goes_before whole es) (breaks_where hard (goes_before false es)) bytes e.point x.point

pub opens-unlinked : (a b l : Bool) → a && (b && not l) ≡ true → l ≡ false
opens-unlinked true true true h = cc
opens-unlinked true true false h = refl
opens-unlinked true false l h = cc
opens-unlinked false b l h = cc

pub places-drop : (bytes : List ℕ) (j : ℕ) (es : List Event) → HasPlaces bytes es → HasPlaces bytes (drop j es)
places-drop bytes zero es h = h
places-drop bytes (suc j) [] h = h
places-drop bytes (suc j) (e ∷ es) h = places-drop bytes j es h.1

module _ (bytes : List ℕ) (hard : HardBreaks) (whole : Bool) where
  abbrev flag_next : Bool → Event → Bool
  flag_next front e = closes_ending e

  abbrev walk : ℕ → Bool → List Event → List Edit
  walk n front es = walked flag_next (loses_first bytes whole) (comes bytes hard whole) (λ f. refl) n front es

  abbrev flag_at : ℕ → Bool → List Event → Bool
  flag_at k front es = state_at flag_next (loses_first bytes whole) (comes bytes hard whole) (λ f. refl) k front es

  trims-walk : (n : ℕ) (front : Bool) (es : List Event) → trims bytes hard whole n front es ≡ walk n front es
  trims-walk n front [] = refl
  trims-walk n front (e ∷ []) = refl
  trims-walk n front (e ∷ x ∷ es) =
      ap (λ log. trim_first bytes hard whole n front (e ∷ x ∷ es) ++ log) (trims-walk (suc n) (closes_ending e) (x ∷ es))

  flag-walk : (k : ℕ) (front : Bool) (es : List Event) → flag_at k front es ≡ flag k front es
  flag-walk zero front es = refl
  flag-walk (suc k) front [] = refl
  flag-walk (suc k) front (e ∷ es) = flag-walk k (closes_ending e) es

  abbrev pub log_of : List Event → List Edit
  log_of es = trims bytes hard whole 0 whole es

  abbrev pub loses_at : List Event → ℕ → Bool
  loses_at es k = loses_first bytes whole (flag k whole es) (drop k es)

  abbrev pub comes_at : List Event → ℕ → List Event
  comes_at es k = comes bytes hard whole (flag k whole es) (drop k es)

  pub trims-of-two : (es : List Event) → AreOfTwo (log_of es) (loses_at es) (comes_at es)
  trims-of-two es =
      let w = of-two flag_next (loses_first bytes whole) (comes bytes hard whole) (λ f. refl) whole es in
      record {
        added = λ k. ap (added_at k) (trims-walk 0 whole es) ∙ w.added k ∙ ap (λ f. if loses_first bytes whole f (drop k es) then comes bytes hard whole f (drop k es) else []) (flag-walk k whole es);
        removed = λ k. ap (removed_at k) (trims-walk 0 whole es) ∙ w.removed k ∙ ap (λ f. if loses_first bytes whole f (drop k es) then 2 else 0) (flag-walk k whole es);
      }

  -- The edits may be made.

  unlinked : (front : Bool) (xs : List Event) → HasPlaces bytes xs → loses_first bytes whole front xs ≡ true →
      (linked_at xs 0 ≡ false) × (linked_at xs 1 ≡ false)
  unlinked front [] p h = cc
  unlinked front (e ∷ []) p h = cc
  unlinked front (e ∷ x ∷ xs) p h =
      let opens : opens_data e ≡ true = (and_parts (opens_data e) (loses front (goes_before whole xs) bytes e.point x.point) h).0 in
      (opens-unlinked (is_enter e.kind) (is_data e.name) (has_link e.link) opens, ap has_link (p.0 opens).1)

  pub can-trim : (es : List Event) → HasPlaces bytes es → CanEdit (log_of es) es
  can-trim es p =
      subst (λ (log : List Edit). CanEdit log es) (sym (trims-walk 0 whole es))
      (can-walk flag_next (loses_first bytes whole) (comes bytes hard whole) (λ f. refl) whole es (λ k h. unlinked (flag_at k whole es) (drop k es) (places-drop bytes k es p) h))
