-- Events whose runs stand in order over a document may be given to the pass.
use Rattle.std.proofs.Common.{◌≡◌, ◌≢◌, ℕ, suc, ◌+◌, ◌-◌, ◌*◌, ◌<◌, ◌≤◌, Bool, true, false, ◌&&◌, not, if◌then◌else◌, List, [], ◌∷◌, ◌++◌, length, drop, get_or, refl, sym, ap, subst, ◌∙◌, arith, inl, inr}
use Rattle.std.specs.Prelude.{IsUtf8}
use Rattle.markdown_content.specs.declared.configuration.ParseOptions.{ParseOptions}
use Rattle.markdown_attention.proofs.BracketAppends.{shift-shift}
use Rattle.std.specs.Str.{IsCharBoundary}
use Rattle.std.proofs.lemmas.Str.{IsCharBoundary-before_ascii, IsCharBoundary-after_ascii}
use Rattle.std.proofs.lemmas.Bool.{cases_Bool}
use Rattle.std.proofs.lemmas.List.Sums.{sum_by-cons}
use Rattle.markdown_content.specs.Codes.{Code, place_of, point_at}
use Rattle.markdown_content.specs.Content.{document_limit}
use Rattle.markdown_content.specs.Slices.{codes_between}
use Rattle.markdown_content.specs.DocumentWalk.{IsPoint}
use Rattle.markdown_event.specs.declared.event.Event.{Event}
use Rattle.markdown_event.specs.declared.event.Point.{Point}
use Rattle.markdown_engine.specs.declared.tokenizer.Tokenizer.{Tokenizer}
use Rattle.markdown_content.proofs.CodesBetween.{codes_to, first-to}
use Rattle.markdown_content.proofs.AdjacentCodes.{head_same, tail_same, cons≢nil}
use Rattle.markdown_content.proofs.PlaceOrder.{is_before, same_place, before-asym}
use Rattle.markdown_content.proofs.DocumentPlaces.{stands-point, there-point, toward, same-pair}
use Rattle.markdown_content.proofs.ContentCodes.{none-before, piece-codes-is}
use Rattle.markdown_content.proofs.DocumentCodes.{stop_at, code_here, HasPlaceNumbers}
use Rattle.markdown_attention.specs.OpenRuns.{IsMarker}
use Rattle.markdown_attention.specs.NumberedPairs.{markers_left}
use Rattle.markdown_attention.specs.RunsRead.{Around, is_run, is_enter, opens_run, closes_run, sequence_at, where_after, outermost, first_run, runs_from, IsRunPlace, HaveRunPlaces}
use Rattle.markdown_attention.specs.declared.attention.runs.Sequence.{Sequence}
use Rattle.markdown_attention.specs.RunsInOrder.{IsRunOver, HaveRunsInOrder}
use Rattle.markdown_attention.specs.RunEvents.{shifted}
use Rattle.markdown_attention.specs.AttentionPass.{MayPair}
use Rattle.markdown_attention.specs.RunEdits.{point_in, HaveRunEnds, HaveRunRoom}
use Rattle.markdown_attention.specs.TokenWord.{HasMarker, begins_run}
use Rattle.markdown_attention.proofs.MarkerCodes.{marker-here, marker-ascii}
use Rattle.markdown_attention.proofs.TokenEvents.{shift-none, shift-same}

-- One run.

-- a place n columns further on in the document
record IsFurther (bytes : List ℕ) (p q : Point) (n : ℕ) : Type 0 where
  end : q ≡ shifted p n
  between : IsCharBoundary bytes p.index → IsCharBoundary bytes q.index

module _ (bytes : List ℕ) (u : IsUtf8 bytes) (m : ℕ) (is : IsMarker m) where
  same-point : (p q : Point) → IsPoint bytes p → IsPoint bytes q → (p.index ≡ q.index) × (p.vs ≡ q.vs) → p ≡ q
  same-point p q h k e =
      sym h.here ∙ ap (λ (x : ℕ × ℕ). point_at bytes x) (same-pair p.index p.vs (place_of q) e.0 e.1) ∙ k.here

  -- a marker at a place on the way to another, and what follows it
  record IsFirstMarker (p q : Point) (cs : List Code) : Type 0 where
    within : p.index < length bytes
    byte : IsMarker (get_or bytes p.index 0)
    stop : stop_at bytes p ≡ shifted p 1
    rest : codes_to bytes (stop_at bytes p) q ≡ cs
    point : IsPoint bytes (stop_at bytes p)
    reached : is_before (place_of q) (place_of (stop_at bytes p)) ≡ false

  first-marker : (p q : Point) (c : Code) (cs : List Code) → codes_to bytes p q ≡ c ∷ cs → c.value ≡ m →
      IsPoint bytes p → IsPoint bytes q → is_before (place_of p) (place_of q) ≡ true → IsFirstMarker p q cs
  first-marker p q c cs e v h k before = grind (arith, first-to, toward, there-point, head_same, marker-here, stands-point, tail_same)

  -- equal markers up to a place are as many columns
  along-markers : (p q : Point) (cs : List Code) → codes_to bytes p q ≡ cs → HasMarker m cs → IsPoint bytes p →
      IsPoint bytes q → is_before (place_of q) (place_of p) ≡ false → IsFurther bytes p q (length cs)
  along-markers p q [] e marks h k l =
      elim (cases_Bool (is_before (place_of p) (place_of q))) [
        | inl before ↦ absurd (cons≢nil (code_here bytes p) (codes_to bytes (stop_at bytes p) q) (sym (first-to bytes p q h k before).codes ∙ e))
        | inr there ↦
            let same : p ≡ q = same-point p q h k (same_place (place_of p) (place_of q) there l) in
            record { end = sym same ∙ sym (shift-none p); between = λ b. subst (λ (x : Point). IsCharBoundary bytes x.index) same b }
      ]
  along-markers p q (c ∷ cs) e marks h k l =
      elim (cases_Bool (is_before (place_of p) (place_of q))) [
        | inl before ↦
            let f : IsFirstMarker p q cs = first-marker p q c cs e marks.0 h k before in
            let more : IsFurther bytes (stop_at bytes p) q (length cs) = along-markers (stop_at bytes p) q cs f.rest marks.1 f.point k f.reached in
            let past : IsCharBoundary bytes (p.index + 1) = IsCharBoundary-after_ascii bytes p.index u f.within (marker-ascii (get_or bytes p.index 0) f.byte) in
            record {
              end = more.end ∙ ap (λ (x : Point). shifted x (length cs)) f.stop ∙ shift-shift p 1 (length cs) ∙ shift-same p (1 + length cs) (length (c ∷ cs)) (omega arith);
              between = λ b. more.between (subst (λ (x : Point). IsCharBoundary bytes x.index) (sym f.stop) past);
            }
        | inr there ↦ absurd (cons≢nil c cs (sym e ∙ none-before bytes p (place_of q) h there))
      ]

-- what the pass asks of one run
record IsFitRun (bytes : List ℕ) (p q : Point) : Type 0 where
  place : IsRunPlace bytes p q
  end : q ≡ shifted p (q.index - p.index)
  some : p.index < q.index
  within : q.index ≤ length bytes
  column : q.column ≤ 4 * q.index + 4

module _ (bytes : List ℕ) (u : IsUtf8 bytes) where
  fit-codes : (m : ℕ) → IsMarker m → (p q : Point) (cs : List Code) → codes_to bytes p q ≡ cs → cs ≢ [] →
      HasMarker m cs → IsPoint bytes p → IsPoint bytes q → IsFitRun bytes p q
  fit-codes m is p q [] e some marks h k = absurd (some refl)
  fit-codes m is p q (c ∷ cs) e some marks h k =
      elim (cases_Bool (is_before (place_of p) (place_of q))) [
        | inl before ↦
            let f : IsFirstMarker bytes u m is p q cs = first-marker bytes u m is p q c cs e marks.0 h k before in
            let from : IsCharBoundary bytes p.index = IsCharBoundary-before_ascii bytes p.index f.within (marker-ascii (get_or bytes p.index 0) f.byte) in
            let x : IsFurther bytes p q (length (c ∷ cs)) = along-markers bytes u m is p q (c ∷ cs) e marks h k (before-asym (place_of p) (place_of q) before) in
            let by : q.index ≡ p.index + length (c ∷ cs) = ap (λ (z : Point). z.index) x.end in
            let s : HasPlaceNumbers bytes q = stands-point bytes q k in
            record {
              place = record { from_between = from; to_between = x.between from; within = f.within; marker = f.byte; forward = omega (arith, by) };
              end = x.end ∙ shift-same p (length (c ∷ cs)) (q.index - p.index) (omega (arith, by));
              some = omega (arith, by);
              within = s.in_bytes;
              column = omega (arith, s.inside, s.columns);
            }
        | inr there ↦ absurd (cons≢nil c cs (sym e ∙ none-before bytes p (place_of q) h there))
      ]

  fit : (enter exit : Event) → IsRunOver bytes enter exit → IsFitRun bytes enter.point exit.point
  fit enter exit r =
      fit-codes r.markers.marker r.markers.is_marker enter.point exit.point (codes_between bytes enter.point exit.point)
      (sym (piece-codes-is bytes (record { start = place_of enter.point; end = place_of exit.point })))
      r.markers.some r.markers.equal r.begins r.ends

-- All runs.

behind : (bytes : List ℕ) (e : Event) (es : List Event) → HaveRunsInOrder bytes (e ∷ es) → HaveRunsInOrder bytes es
behind bytes e es h =
    record { runs = λ i b. h.runs (suc i) b; order = λ i j l a b. h.order (suc i) (suc j) (omega (arith, l)) a b }

-- each run of these events begins at this byte or later
abbrev BeginFrom : ℕ → List Event → Type 0
BeginFrom low es = (j : ℕ) → begins_run (drop j es) ≡ true → low ≤ (point_in es j).index

-- the event behind its Enter is its Exit
closes : {bytes : List ℕ} {enter exit : Event} → IsRunOver bytes enter exit → closes_run exit ≡ true
closes r = λ i. not (is_enter (r.kind i)) && is_run (r.name i)

module _ (bytes : List ℕ) (u : IsUtf8 bytes) where
  places-in : (es : List Event) → HaveRunsInOrder bytes es → HaveRunPlaces bytes es
  places-in [] h = tt
  places-in (e ∷ []) h = (λ o. absurd (h.runs 0 o), tt)
  places-in (e ∷ x ∷ es) h = (λ o. (fit bytes u e x (h.runs 0 o)).place, places-in (x ∷ es) (behind bytes e (x ∷ es) h))

  ends-in : (es : List Event) → HaveRunsInOrder bytes es → HaveRunEnds es
  ends-in [] h = tt
  ends-in (e ∷ []) h = (λ o. absurd (h.runs 0 o), tt)
  ends-in (e ∷ x ∷ es) h =
      (λ o. let r : IsRunOver bytes e x = h.runs 0 o in (r.enter_unlinked, (r.exit_unlinked, (fit bytes u e x r).end, closes r)), ends-in (x ∷ es) (behind bytes e (x ∷ es) h))

  room-in : length bytes ≤ document_limit → (es : List Event) → HaveRunsInOrder bytes es → HaveRunRoom es
  room-in few [] h = tt
  room-in few (e ∷ []) h = (λ o. absurd (h.runs 0 o), tt)
  room-in few (e ∷ x ∷ es) h =
      (λ o. let f : IsFitRun bytes e.point x.point = fit bytes u e x (h.runs 0 o) in (omega (arith, f.column, f.within, few), omega (arith, f.within, few)), room-in few (x ∷ es) (behind bytes e (x ∷ es) h))

  -- runs from this byte on have at most as many markers as bytes follow, and are at most as many
  abbrev AreFew : ℕ → List Sequence → Type 0
  AreFew low list = (markers_left list + low ≤ length bytes) × (length list + low ≤ length bytes)

  few-in : (options : ParseOptions) (content : List Code) (es : List Event) (n i : ℕ) (w : Around) (low : ℕ) → HaveRunsInOrder bytes es →
      BeginFrom low es → low ≤ length bytes → AreFew low (runs_from options bytes content n i w es)
  few-in options content [] n i w low h b l = (omega (arith, l), omega (arith, l))
  few-in options content (e ∷ []) n i w low h b l = (omega (arith, l), omega (arith, l))
  few-in options content (e ∷ x ∷ es) n i w low h b l =
      elim (cases_Bool (opens_run e)) [
        | inl o ↦
            let f : IsFitRun bytes e.point x.point = fit bytes u e x (h.runs 0 o) in
            let more : AreFew x.point.index (rest (q ∷ [])) =
            few-in options content (x ∷ es) (n + 1) (suc i) next x.point.index later (λ j c. h.order 0 (suc j) (omega arith) o c) f.within in
            let first : low ≤ e.point.index = b 0 o in
            let sum : markers_left (q ∷ rest (q ∷ [])) ≡ q.remaining + markers_left (rest (q ∷ [])) = sum_by-cons (λ (r : Sequence). r.remaining) q (rest (q ∷ [])) in
            subst (λ (xs : List Sequence). AreFew low (xs ++ rest xs)) (sym (by_test true o)) (omega (arith, sum, first, f.some, more.0), omega (arith, first, f.some, more.1))
        | inr o ↦
            subst (λ (xs : List Sequence). AreFew low (xs ++ rest xs)) (sym (by_test false o))
            (few-in options content (x ∷ es) (n + 0) (suc i) next low later (λ j c. b (suc j) c) l)
      ]
    where
      next : Around
      next = where_after i e w

      later : HaveRunsInOrder bytes (x ∷ es)
      later = behind bytes e (x ∷ es) h

      q : Sequence
      q = sequence_at options bytes content n i w.container e.point x.point

      rest : List Sequence → List Sequence
      rest xs = runs_from options bytes content (n + length xs) (suc i) next (x ∷ es)

      by_test : (t : Bool) → opens_run e ≡ t →
          first_run options bytes content n i w.container (e ∷ x ∷ es) ≡ (if t then q ∷ [] else [])
      by_test t o = ap (λ (z : Bool). if z then q ∷ [] else []) o

pub in-order-may_pair : (T : Tokenizer) → T.map ≡ [] → IsUtf8 T.parse_state.now.bytes.now → length T.parse_state.now.bytes.now ≤ document_limit
    → HaveRunsInOrder T.parse_state.now.bytes.now T.events → MayPair T
in-order-may_pair T map u few h =
    let bytes : List ℕ = T.parse_state.now.bytes.now in
    let all = few-in bytes u T.parse_state.now.options.now T.cursor.codes T.events 0 0 outermost 0 h (λ j c. omega arith) (omega arith) in
    record {
      map = map;
      utf8 = u;
      places = places-in bytes u T.events h;
      ends = ends-in bytes u T.events h;
      room = room-in bytes u few T.events h;
      small = record { markers = omega (arith, all.0, few); count = omega (arith, all.1, few) };
    }
