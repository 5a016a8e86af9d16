-- The invariant of the scan by lists, and its steps.
use Rattle.std.proofs.Common.{◌≡◌, ℕ, zero, suc, ◌+◌, ◌-◌, ◌*◌, ◌<◌, ◌≤◌, Bool, true, false, eqb, List, ◌∷◌, ◌++◌, length, get_or, refl, sym, ◌∙◌, ap, subst, inl, inr, ◌⊎◌, arith, add-one, []}
use Rattle.std.proofs.lemmas.Bool.{cases_eq, cases_lt, cases_Bool, both_ways}
use Rattle.std.proofs.lemmas.List.{length_push, get_or_append_left, get_or_push}
use Rattle.std.specs.Prelude.{IsTrue, All}
use Rattle.markdown_attention.specs.declared.attention.runs.Sequence.{Sequence}
use Rattle.markdown_attention.specs.declared.attention.pairing.Pair.{Pair}
use Rattle.markdown_content.specs.declared.configuration.ParseOptions.{ParseOptions}
use Rattle.markdown_attention.specs.NumberedPairs.{row_of, Eligible, IsNextNumbered, left, run_at, pairs_in, size_of_pair, after_taking, markers_left, taken, sizes_fit}
use Rattle.markdown_attention.specs.PairScan.{AreRunsAfter, standing, AreUntaken}
use Rattle.markdown_attention.proofs.ProbePotential.{upto, count_if, openers, closers}
use Rattle.markdown_attention.specs.OpenRuns.{class_of, Newest, list_of, is_open, RefusesCloser, Refused, CutFrom, IsCut, WalkFound, WalkEnded, mark_of}
use Rattle.markdown_attention.proofs.OpenRunLists.{Layout, ListsByMarker}
use Rattle.markdown_attention.proofs.PairScanInvariant.{Scanned, scanned_none, scanned_next, scanned_pair}
use Rattle.markdown_attention.proofs.RemainingSizes.{not_shut_past, markers_taking, taking_opener, fits_size}
use Rattle.std.proofs.lemmas.List.Elements.{All-filter}
use Rattle.markdown_attention.proofs.RefusalClasses.{class_decides, class_small}
use Rattle.markdown_attention.proofs.ProbePotential.{kept, kept_le, pay_none, pay_pair}
use Rattle.markdown_attention.proofs.OpenRunLists.{own, open_parts, open_from, shut_from, same_container, same_marker, eligible_open, open_eligible, left_kept, still_open, stands_pair, newest_other, newest_cut, newest_used, newest_older, newest_next, newest_top, kinds}
use Rattle.markdown_attention.proofs.OpenRunWalks.{FoundOpen, found_open, none_open}

pub record Lists (line : ℕ → ℕ) (options : ParseOptions) (runs : List Sequence) (turn : ℕ) (pairs : List Pair) (heads older marks : List ℕ) : Type 0 where
  pub older_length : length older ≡ turn
  pub older_down : (r : ℕ) → r < turn → get_or older r 0 ≤ r
  pub heads_le : (k : ℕ) → k < length heads → get_or heads k 0 ≤ turn
  pub heads_are : (k : ℕ) → k < length heads → Newest (list_of line runs) (is_open runs pairs) k turn (get_or heads k 0)
  pub older_are : (r : ℕ) → r < turn → is_open runs pairs r ≡ true →
      Newest (list_of line runs) (is_open runs pairs) (list_of line runs r) r (get_or older r 0)
  pub marks_le : (k c : ℕ) → k < length heads → c < 6 → mark_of marks k c ≤ turn
  pub refusals : (r c : ℕ) → r < turn → c < 6 → is_open runs pairs r ≡ true → r < mark_of marks (list_of line runs r) c
      → RefusesCloser options (run_at runs r) (left runs (own runs pairs r) r) c

pub record Inv (line : ℕ → ℕ) (options : ParseOptions) (runs list : List Sequence) (turn : ℕ) (pairs : List Pair) (probes : ℕ) (heads older marks : List ℕ) : Type 0 where
  pub stands : AreRunsAfter runs list pairs
  pub scanned : Scanned options runs turn pairs
  pub within : turn ≤ length runs
  pub half : 2 * length pairs + markers_left list ≤ markers_left runs
  pub least : length pairs ≤ probes
  pub most : probes ≤ (turn + length pairs) * length runs
  pub paid : probes + upto (kept (list_of line runs) (is_open runs pairs) (mark_of marks)) turn ≤ 6 * openers runs turn + closers runs turn + 7 * length pairs
  pub lists : Lists line options runs turn pairs heads older marks

more_probes : (turn pairs n probes probes' : ℕ) → probes ≤ (turn + pairs) * n → turn < n → probes' ≤ probes + turn
    → probes' ≤ (turn + pairs + 1) * n
more_probes turn pairs n probes probes' a b c = omega arith

-- the run in turn is not shut
pub open_turn : (runs : List Sequence) (pairs : List Pair) (turn : ℕ) → All (λ p. p.closer ≤ turn) pairs
    → IsTrue (run_at runs turn).may_open → 0 < left runs (own runs pairs turn) turn → is_open runs pairs turn ≡ true
open_turn runs pairs turn up may some =
    open_from runs pairs turn (record {
      may_open = may;
      some_left = some;
      unshut = not_shut_past turn (own runs pairs turn) (All-filter (λ p. eqb (row_of (run_at runs p.closer).text) (row_of (run_at runs turn).text)) (λ p. p.closer ≤ turn) pairs up);
    })

-- the test on two runs as they stand
pub standing_fit : (options : ParseOptions) (runs list : List Sequence) (pairs : List Pair) (o c : ℕ) → AreRunsAfter runs list pairs → o < length runs → c < length runs
    → sizes_fit options (run_at list o) (run_at list c) (run_at list o).remaining (run_at list c).remaining
    ≡ sizes_fit options (run_at runs o) (run_at runs c) (left runs (own runs pairs o) o) (left runs (own runs pairs c) c)
unfolding sizes_fit
standing_fit options runs list pairs o c h lo lc = rw (h.stands o lo, h.stands c lc) refl

pub standing_class : (options : ParseOptions) (runs list : List Sequence) (pairs : List Pair) (c : ℕ) → AreRunsAfter runs list pairs → c < length runs
    → class_of options (run_at list c) (run_at list c).remaining ≡ class_of options (run_at runs c) (left runs (own runs pairs c) c)
unfolding class_of
standing_class options runs list pairs c h lc = rw (h.stands c lc) refl

module _ (older : List ℕ) (turn : ℕ) (key : ℕ → ℕ) (open_at : ℕ → Bool) (q o : ℕ)
    (older_are : (r : ℕ) → r < turn → open_at r ≡ true → Newest key open_at (key r) r (get_or older r 0)) where
  record CutNewest (next : ℕ) : Type 0 where
    pub bound : ℕ
    pub low : o + 1 ≤ bound
    pub high : bound ≤ turn
    pub newest : Newest key open_at q bound next

  cut_from : (head n next : ℕ) → o < turn → Newest key open_at q turn head → CutFrom older o head n next →
      CutNewest next
  cut_from head zero next l top c =
      record { bound = turn; low = omega arith; high = omega arith; newest = subst (λ x. Newest key open_at q turn x) (sym c) top }
  cut_from head (suc n) next l top c =
      let r = c.0 in
      let s = cut_from head n (suc r) l top c.1 in
      let w = s.newest.within (omega arith) in
      let up = s.high in
      let same : r ≡ suc r - 1 = omega arith in
      let at : key r ≡ q = ap key same ∙ s.newest.listed (omega arith) in
      let is : open_at r ≡ true = ap open_at same ∙ s.newest.is_open (omega arith) in
      record {
        bound = r;
        low = (let x = c.2 in omega arith);
        high = omega arith;
        newest = subst (λ x. Newest key open_at q r x) (sym c.3) (subst (λ x. Newest key open_at x r (get_or older r 0)) at (older_are r (omega arith) is));
      }

  pub cut_newest : (head next : ℕ) → o < turn → Newest key open_at q turn head → IsCut older o head next →
      Newest key open_at q (o + 1) next
  cut_newest head next l top c = grind (arith, cut_from)

module _ (layout : Layout) (options : ParseOptions) (runs list : List Sequence) (turn : ℕ) (pairs : List Pair) (probes : ℕ) (heads older marks : List ℕ)
    (h : Inv layout.line options runs list turn pairs probes heads older marks) (here : turn < length runs) (by : ListsByMarker runs)
    (keys : (r : ℕ) → r < length runs → list_of layout.line runs r < length heads) where
  abbrev k : ℕ
  k = list_of layout.line runs turn

  -- the end of a turn, with the marks as they are then
  pub next_with : (probes' : ℕ) (heads' marks' : List ℕ) → probes ≤ probes' → probes' ≤ probes + turn
      → ((o : ℕ) → Eligible options runs (row_of (run_at runs turn).text) (own runs pairs turn) o turn → ⊥)
      → length heads' ≡ length heads
      → ((i : ℕ) → i < length heads → (i ≡ k → ⊥) → get_or heads' i 0 ≡ get_or heads i 0)
      → (is_open runs pairs turn ≡ true → get_or heads' k 0 ≡ turn + 1)
      → (is_open runs pairs turn ≡ false → get_or heads' k 0 ≡ get_or heads k 0)
      → ((i c : ℕ) → i < length heads → c < 6 → mark_of marks' i c ≤ turn)
      → ((r c : ℕ) → r < turn → c < 6 → is_open runs pairs r ≡ true → r < mark_of marks' (list_of layout.line runs r) c
      → RefusesCloser options (run_at runs r) (left runs (own runs pairs r) r) c)
      → probes' + upto (kept (list_of layout.line runs) (is_open runs pairs) (mark_of marks')) turn
      ≤ 6 * openers runs turn + closers runs turn + 7 * length pairs + count_if (run_at runs turn).may_close
      → Inv layout.line options runs list (turn + 1) pairs probes' heads' (older ++ get_or heads k 0 ∷ []) marks'
  next_with probes' heads' marks' low high none same_length others top kept_head marks_up refuse paid' =
      let l = h.lists in
      let mine : k < length heads = keys turn here in
      let topmost : (i : ℕ) → i < length heads → Newest (list_of layout.line runs) (is_open runs pairs) i (turn + 1) (get_or heads' i 0) =
      λ i li. elim (cases_eq i k) [
        | inl e ↦ elim (cases_Bool (is_open runs pairs turn)) [
          | inl is ↦
              subst (λ x. Newest (list_of layout.line runs) (is_open runs pairs) x (turn + 1) (get_or heads' x 0)) (sym e)
              (subst (λ x. Newest (list_of layout.line runs) (is_open runs pairs) k (turn + 1) x) (sym (top is))
              (newest_top (list_of layout.line runs) (is_open runs pairs) turn is))
          | inr off ↦
              subst (λ x. Newest (list_of layout.line runs) (is_open runs pairs) x (turn + 1) (get_or heads' x 0)) (sym e)
              (subst (λ x. Newest (list_of layout.line runs) (is_open runs pairs) k (turn + 1) x) (sym (kept_head off))
              (newest_next (list_of layout.line runs) (is_open runs pairs) k turn (get_or heads k 0) (l.heads_are k mine) (λ _. off)))
        ]
        | inr ne ↦
            subst (λ x. Newest (list_of layout.line runs) (is_open runs pairs) i (turn + 1) x) (sym (others i li ne))
            (newest_next (list_of layout.line runs) (is_open runs pairs) i turn (get_or heads i 0) (l.heads_are i li) (λ e. absurd (ne (sym e))))
      ] in
      let back : length older ≡ turn = l.older_length in
      record {
        stands = h.stands;
        scanned = scanned_next options runs turn pairs h.scanned none;
        within = omega arith;
        half = h.half;
        least = (let e = h.least in omega arith);
        most = (let e = more_probes turn (length pairs) (length runs) probes probes' h.most here high in omega arith);
        paid = rw add-one (
            let in_list : kept (list_of layout.line runs) (is_open runs pairs) (mark_of marks') turn ≤ 6 * count_if (run_at runs turn).may_open =
            elim (cases_Bool (run_at runs turn).may_open) [
              | inl may ↦ rw may (kept_le (list_of layout.line runs) (is_open runs pairs) (mark_of marks') turn)
              | inr not_may ↦
                  let off : is_open runs pairs turn ≡ false = shut_from runs pairs turn (λ p. both_ways (run_at runs turn).may_open not_may p.may_open) in
                  rw (off, not_may) (omega arith)
            ] in
            omega arith);
        lists = record {
          older_length = length_push older (get_or heads k 0) ∙ ap (λ x. x + 1) back;
          older_down = λ r lr. elim (cases_eq r turn) [
            | inl e ↦
                let is : get_or (older ++ get_or heads k 0 ∷ []) r 0 ≡ get_or heads k 0 = get_or_push older (get_or heads k 0) 0 r (back ∙ sym e) in
                let up = l.heads_le k mine in omega arith
            | inr ne ↦
                let inside : r < length older = omega arith in
                let is = get_or_append_left older (get_or heads k 0 ∷ []) 0 r inside in
                let down = l.older_down r (omega arith) in omega arith
          ];
          heads_le = λ i li.
              (let n = topmost i (omega arith) in
              elim (cases_lt 0 (get_or heads' i 0)) [ inl some ↦ n.within some | inr nil ↦ omega arith ]);
          heads_are = λ i li. topmost i (omega arith);
          older_are = λ r lr e. elim (cases_eq r turn) [
            | inl at ↦
                subst (λ x. Newest (list_of layout.line runs) (is_open runs pairs) (list_of layout.line runs x) x (get_or (older ++ get_or heads k 0 ∷ []) x 0)) (sym at)
                (subst (λ x. Newest (list_of layout.line runs) (is_open runs pairs) k turn x) (sym (get_or_push older (get_or heads k 0) 0 turn back)) (l.heads_are k mine))
            | inr ne ↦
                let inside : r < length older = omega arith in
                subst (λ x. Newest (list_of layout.line runs) (is_open runs pairs) (list_of layout.line runs r) r x) (sym (get_or_append_left older (get_or heads k 0 ∷ []) 0 r inside))
                (l.older_are r (omega arith) e)
          ];
          marks_le = λ i c li lc. (let m = marks_up i c (omega arith) lc in omega arith);
          refusals = λ r c lr lc e low'. elim (cases_eq r turn) [
            | inl at ↦ absurd (let m = marks_up (list_of layout.line runs r) c (keys r (omega arith)) lc in omega arith)
            | inr ne ↦ refuse r c (omega arith) lc e low'
          ];
        };
      }

  -- a run that closes nothing
  pub inv_idle : (heads' : List ℕ) → (IsTrue (run_at runs turn).may_close → 0 < left runs (own runs pairs turn) turn → ⊥)
      → length heads' ≡ length heads
      → ((i : ℕ) → i < length heads → (i ≡ k → ⊥) → get_or heads' i 0 ≡ get_or heads i 0)
      → (is_open runs pairs turn ≡ true → get_or heads' k 0 ≡ turn + 1)
      → (is_open runs pairs turn ≡ false → get_or heads' k 0 ≡ get_or heads k 0)
      → Inv layout.line options runs list (turn + 1) pairs probes heads' (older ++ get_or heads k 0 ∷ []) marks
  inv_idle heads' idle same_length others top kept_head =
      next_with probes heads' marks (omega arith) (omega arith) (λ o e. idle e.may_close e.closer_left) same_length others top kept_head
      h.lists.marks_le h.lists.refusals (let p = h.paid in omega arith)

  abbrev class : ℕ
  class = class_of options (run_at list turn) (run_at list turn).remaining

  class_is : class_of options (run_at runs turn) (left runs (own runs pairs turn) turn) ≡ class
  class_is = sym (standing_class options runs list pairs turn h.stands here)

  -- a refused run refuses the whole class
  refuses : (r : ℕ) → r < turn → list_of layout.line runs r ≡ k
      → sizes_fit options (run_at runs r) (run_at runs turn) (left runs (own runs pairs r) r) (left runs (own runs pairs turn) turn) ≡ false
      → RefusesCloser options (run_at runs r) (left runs (own runs pairs r) r) class
  refuses r l key unfit = λ b y m e. grind (arith, class_decides, same_marker, class_is)

  unfit_of : (mark r : ℕ) → r < turn → Refused options list mark turn r
      → sizes_fit options (run_at runs r) (run_at runs turn) (left runs (own runs pairs r) r) (left runs (own runs pairs turn) turn) ≡ false
  unfit_of mark r l f = sym (standing_fit options runs list pairs r turn h.stands (omega arith) here) ∙ f.unfit

  refused_class : (r : ℕ) → r < turn → list_of layout.line runs r ≡ k → RefusesCloser options (run_at runs r) (left runs (own runs pairs r) r) class
      → sizes_fit options (run_at runs r) (run_at runs turn) (left runs (own runs pairs r) r) (left runs (own runs pairs turn) turn) ≡ false
  refused_class r l key f =
      f (run_at runs turn) (left runs (own runs pairs turn) turn) (sym (same_marker layout runs r turn by (omega arith) here key)) class_is

  -- a closer whose walk found no opener
  pub inv_walked : (looks : ℕ) (heads' marks' : List ℕ) → IsTrue (run_at runs turn).may_close
      → WalkEnded options list older (mark_of marks k class) turn (get_or heads k 0) looks
      → looks ≤ turn
      → mark_of marks' k class ≡ turn
      → ((c : ℕ) → c < 6 → (c ≡ class → ⊥) → mark_of marks' k c ≡ mark_of marks k c)
      → ((i c : ℕ) → c < 6 → (i ≡ k → ⊥) → mark_of marks' i c ≡ mark_of marks i c)
      → length heads' ≡ length heads
      → ((i : ℕ) → i < length heads → (i ≡ k → ⊥) → get_or heads' i 0 ≡ get_or heads i 0)
      → (is_open runs pairs turn ≡ true → get_or heads' k 0 ≡ turn + 1)
      → (is_open runs pairs turn ≡ false → get_or heads' k 0 ≡ get_or heads k 0)
      → Inv layout.line options runs list (turn + 1) pairs (probes + looks) heads' (older ++ get_or heads k 0 ∷ []) marks'
  inv_walked looks heads' marks' closes walk up marked same_class same_list same_length others top kept_head =
      let n = none_open options list older (mark_of marks k class) turn (list_of layout.line runs) (is_open runs pairs) k h.lists.older_are (get_or heads k 0) looks
      (h.lists.heads_are k (keys turn here)) walk in
      let small : class < 6 = class_small options (run_at list turn) (run_at list turn).remaining in
      let refused_all : (r : ℕ) → r < turn → list_of layout.line runs r ≡ k → is_open runs pairs r ≡ true → RefusesCloser options (run_at runs r) (left runs (own runs pairs r) r) class =
      λ r l key e. elim (cases_lt r (mark_of marks k class)) [
        | inl below ↦ h.lists.refusals r class l small e (subst (λ x. r < mark_of marks x class) (sym key) below)
        | inr above ↦ refuses r l key (unfit_of (mark_of marks k class) r l (n.refused r above l key e))
      ] in
      next_with (probes + looks) heads' marks' (omega arith) (omega arith)
      (λ o e.
      let f = open_eligible layout options runs pairs o turn e in
      both_ways _ (refused_class o e.before f.key (refused_all o e.before f.key f.is_open)) f.fit)
      same_length others top kept_head
      (λ i c li lc. elim (cases_eq i k) [
        | inr ne ↦ (let m = h.lists.marks_le i c li lc in let s = same_list i c lc ne in omega arith)
        | inl e ↦ elim (cases_eq c class) [
          | inl e' ↦ (let z : mark_of marks' i c ≡ turn = rw (e, e') marked in omega arith)
          | inr ne ↦ (let m = h.lists.marks_le i c li lc in let s : mark_of marks' i c ≡ mark_of marks i c = rw e (same_class c lc ne) in omega arith)
        ]
      ])
      (λ r c lr lc e low. elim (cases_eq (list_of layout.line runs r) k) [
        | inr ne ↦ h.lists.refusals r c lr lc e (let s = same_list (list_of layout.line runs r) c lc ne in omega arith)
        | inl key ↦ elim (cases_eq c class) [
          | inl e' ↦ subst (λ x. RefusesCloser options (run_at runs r) (left runs (own runs pairs r) r) x) (sym e') (refused_all r lr key e)
          | inr ne ↦ h.lists.refusals r c lr lc e (let s : mark_of marks' (list_of layout.line runs r) c ≡ mark_of marks (list_of layout.line runs r) c = rw key (same_class c lc ne) in omega arith)
        ]
      ])
      (let p = h.paid in
      let pay = pay_none (list_of layout.line runs) (is_open runs pairs) (mark_of marks) (mark_of marks') turn k class small same_list same_class marked in
      let one : count_if (run_at runs turn).may_close ≡ 1 = rw closes refl in
      let count = n.count in
      omega arith)

  -- a closer whose walk found the opener o
  module _ (o looks size : ℕ) (walk : WalkFound options list older (mark_of marks k class) turn (get_or heads k 0) o looks)
      (closes : IsTrue (run_at runs turn).may_close) (some : 0 < (run_at list turn).remaining)
      (is_size : size ≡ size_of_pair (run_at list o).remaining (run_at list turn).remaining) where
    abbrev q : Pair
    q = record { opener = o; closer = turn; size = size }

    found : FoundOpen options list older (mark_of marks k class) turn (list_of layout.line runs) (is_open runs pairs) k h.lists.older_are (get_or heads k 0) o looks
    found = found_open options list older (mark_of marks k class) turn (list_of layout.line runs) (is_open runs pairs) k h.lists.older_are (get_or heads k 0) o looks
        (h.lists.heads_are k (keys turn here)) walk

    some_left : 0 < left runs (own runs pairs turn) turn
    some_left = subst (λ x. 0 < x.remaining) (h.stands.stands turn here) some

    eligible : Eligible options runs (row_of (run_at runs turn).text) (own runs pairs turn) o turn
    eligible =
        let before : o < turn = found.before in
        eligible_open layout options runs pairs o turn by before here found.listed found.is_open closes some_left
        (sym (standing_fit options runs list pairs o turn h.stands (omega arith) here) ∙ walk.fit)

    is_next : IsNextNumbered options runs (row_of (run_at runs turn).text) (own runs pairs turn) turn q
    is_next =
        let before : o < turn = found.before in
        let c_is : run_at list turn ≡ standing runs pairs turn = h.stands.stands turn here in
        let o_is : run_at list o ≡ standing runs pairs o = h.stands.stands o (omega arith) in
        record {
          eligible = eligible;
          size = is_size
              ∙ ap (λ x. size_of_pair x.remaining (run_at list turn).remaining) o_is
              ∙ ap (λ x. size_of_pair (standing runs pairs o).remaining x.remaining) c_is
              ∙ ap (λ x. size_of_pair (left runs (pairs_in runs x pairs) o) (left runs (own runs pairs turn) turn)) eligible.opener_in;
          forward = omega arith;
          leftmost = λ o' c low high e. absurd (omega arith);
          nearest = λ o' above e.
              let f = open_eligible layout options runs pairs o' turn e in
              let r = found.refused o' above e.before f.key f.is_open in
              both_ways _ (unfit_of (mark_of marks k class) o' e.before r) f.fit;
        }

    pub taking_fits : (0 < size) × (size ≤ (run_at list o).remaining) × (size ≤ (run_at list turn).remaining)
    taking_fits = grind (arith, found, open_parts, fits_size)

    abbrev container : ℕ
    container = row_of (run_at runs turn).text

    abbrev line : ℕ
    line = layout.line container

    in_container : (r i : ℕ) → list_of layout.line runs r ≡ i → line * 3 ≤ i → i < line * 3 + 3 →
        (row_of (run_at runs r).text) ≡ container
    in_container r i e low high =
        let z = kinds (run_at runs r).marker in layout.apart (row_of (run_at runs r).text) container (omega arith)

    not_in_container : (r i : ℕ) → list_of layout.line runs r ≡ i → (i < line * 3) ⊎ (line * 3 + 3 ≤ i) →
        (row_of (run_at runs r).text) ≡ container → ⊥
    not_in_container r i e far c = grind (arith, kinds)

    pub inv_pair : (heads' marks' : List ℕ) → looks ≤ turn → length heads' ≡ length heads
        → ((i : ℕ) → i < length heads → (i < line * 3) ⊎ (line * 3 + 3 ≤ i) → get_or heads' i 0 ≡ get_or heads i 0)
        → ((i : ℕ) → line * 3 ≤ i → i < line * 3 + 3 → (i ≡ k → ⊥) → IsCut older o (get_or heads i 0) (get_or heads' i 0))
        → (0 < (run_at list o).remaining - size → IsCut older o (get_or heads k 0) (get_or heads' k 0))
        → ((run_at list o).remaining - size ≡ 0 → get_or heads' k 0 ≡ get_or older o 0)
        → ((c : ℕ) → c < 6 → mark_of marks k c ≤ o → mark_of marks' k c ≡ mark_of marks k c)
        → ((c : ℕ) → c < 6 → o < mark_of marks k c → mark_of marks' k c ≡ o)
        → ((i c : ℕ) → c < 6 → (i ≡ k → ⊥) → mark_of marks' i c ≡ mark_of marks i c)
        → Inv layout.line options runs (after_taking list o turn size) turn (pairs ++ q ∷ []) (probes + looks) heads' older marks'
    inv_pair heads' marks' up same_length far cut cut_own used low_same high_same same_list =
        let before : o < turn = found.before in
        let one : (row_of (run_at runs o).text) ≡ container = eligible.opener_in in
        let n = length_push pairs q in
        let f = taking_fits in
        let fits : turn < length list = (let e' = h.stands.same_length in omega arith) in
        let m = markers_taking list o turn size before fits f.1 f.2 in
        let small : class < 6 = class_small options (run_at list turn) (run_at list turn).remaining in
        let stands' = stands_pair runs turn pairs q refl before one list h.stands here in
        let o_left : (run_at list o).remaining - size ≡ left runs (own runs (pairs ++ q ∷ []) o) o =
        ap (λ x. x.remaining) (sym (taking_opener list o turn size before fits)) ∙ ap (λ x. x.remaining) (stands'.stands o (omega arith)) in
        let newest' : (i : ℕ) → i < length heads → Newest (list_of layout.line runs) (is_open runs (pairs ++ q ∷ [])) i turn (get_or heads' i 0) =
        λ i li. elim (cases_lt i (line * 3)) [
          | inl below ↦
              subst (λ x. Newest (list_of layout.line runs) (is_open runs (pairs ++ q ∷ [])) i turn x) (sym (far i li (inl below)))
              (newest_other runs turn pairs q refl before one layout i (get_or heads i 0) (h.lists.heads_are i li) (λ r l e. not_in_container r i e (inl below)))
          | inr from ↦ elim (cases_lt i (line * 3 + 3)) [
            | inr above ↦
                subst (λ x. Newest (list_of layout.line runs) (is_open runs (pairs ++ q ∷ [])) i turn x) (sym (far i li (inr above)))
                (newest_other runs turn pairs q refl before one layout i (get_or heads i 0) (h.lists.heads_are i li) (λ r l e. not_in_container r i e (inr above)))
            | inl within ↦ elim (cases_eq i k) [
              | inr ne ↦
                  newest_cut runs turn pairs q refl before one layout i (get_or heads' i 0)
                  (cut_newest older turn (list_of layout.line runs) (is_open runs pairs) i o h.lists.older_are (get_or heads i 0) (get_or heads' i 0) before (h.lists.heads_are i li) (cut i from within ne))
                  (λ r l e. in_container r i e from within)
                  (λ top.
                  let c = cut_newest older turn (list_of layout.line runs) (is_open runs pairs) i o h.lists.older_are (get_or heads i 0) (get_or heads' i 0) before (h.lists.heads_are i li) (cut i from within ne) in
                  let same : o ≡ get_or heads' i 0 - 1 = omega arith in
                  absurd (ne (sym (ap (λ x. list_of layout.line runs x) same ∙ c.listed (omega arith)) ∙ found.listed)))
              | inl e ↦
                  let li' : k < length heads = keys turn here in
                  let z = kinds (run_at runs turn).marker in
                  subst (λ x. Newest (list_of layout.line runs) (is_open runs (pairs ++ q ∷ [])) x turn (get_or heads' x 0)) (sym e)
                  (elim (cases_lt 0 ((run_at list o).remaining - size)) [
                    | inl more ↦
                        newest_cut runs turn pairs q refl before one layout k (get_or heads' k 0)
                        (cut_newest older turn (list_of layout.line runs) (is_open runs pairs) k o h.lists.older_are (get_or heads k 0) (get_or heads' k 0) before (h.lists.heads_are k li') (cut_own more))
                        (λ r l e'. in_container r k e' (omega arith) (omega arith))
                        (λ top. omega arith)
                    | inr nil ↦
                        subst (λ x. Newest (list_of layout.line runs) (is_open runs (pairs ++ q ∷ [])) k turn x) (sym (used (omega arith)))
                        (newest_used runs turn pairs q refl before one layout k (get_or older o 0)
                        (subst (λ x. Newest (list_of layout.line runs) (is_open runs pairs) x o (get_or older o 0)) found.listed (h.lists.older_are o before found.is_open))
                        (λ r l e'. in_container r k e' (omega arith) (omega arith))
                        (omega arith))
                  ])
            ]
          ]
        ] in
        record {
          stands = stands';
          scanned = scanned_pair options runs turn pairs q h.scanned refl is_next;
          within = h.within;
          half = (let e' = h.half in let g = f.0 in omega arith);
          least = (let e' = h.least in let w = walk.counted in omega arith);
          most = rw n (let e' = more_probes turn (length pairs) (length runs) probes (probes + looks) h.most here (omega arith) in omega arith);
          paid =
              (let p = h.paid in
              let count = found.count in
              let pay = pay_pair (list_of layout.line runs) (is_open runs pairs) (mark_of marks) (mark_of marks') turn k class small same_list
              (is_open runs (pairs ++ q ∷ [])) o before
              (λ r l ne e.
              let s = still_open runs turn pairs q refl before one r l e in
              (s.0, λ key. let u = s.1 (same_container layout (run_at runs r) (run_at runs turn) key) in omega arith))
              low_same high_same
              (λ r low high key e. (found.refused r low high key e).unmarked) in
              omega arith);
          lists = record {
            older_length = h.lists.older_length;
            older_down = h.lists.older_down;
            heads_le = λ i li.
                (let w = newest' i (omega arith) in elim (cases_lt 0 (get_or heads' i 0)) [ inl pos' ↦ w.within pos' | inr nil ↦ omega arith ]);
            heads_are = λ i li. newest' i (omega arith);
            older_are = λ r l e. newest_older runs turn pairs q refl before one layout r (get_or older r 0) l e
                (h.lists.older_are r l (still_open runs turn pairs q refl before one r l e).0);
            marks_le = λ i c li lc. elim (cases_eq i k) [
              | inr ne ↦ (let a = h.lists.marks_le i c (omega arith) lc in let s = same_list i c lc ne in omega arith)
              | inl e ↦ elim (cases_lt o (mark_of marks k c)) [
                | inl high ↦ (let s : mark_of marks' i c ≡ o = rw e (high_same c lc high) in omega arith)
                | inr low ↦ (let a = h.lists.marks_le i c (omega arith) lc in let s : mark_of marks' i c ≡ mark_of marks i c = rw e (low_same c lc low) in omega arith)
              ]
            ];
            refusals = λ r c l lc e low.
                let s = still_open runs turn pairs q refl before one r l e in
                let old : (r ≡ o → ⊥) → r < mark_of marks (list_of layout.line runs r) c → RefusesCloser options (run_at runs r) (left runs (own runs (pairs ++ q ∷ []) r) r) c =
                (λ ne lm. rw (left_kept runs turn pairs q refl before one r ne (λ x. omega arith)) (h.lists.refusals r c l lc s.0 lm)) in
                elim (cases_eq (list_of layout.line runs r) k) [
                  | inr ne ↦ old (λ at. ne (ap (λ x. list_of layout.line runs x) at ∙ found.listed)) (let t = same_list (list_of layout.line runs r) c lc ne in omega arith)
                  | inl key ↦ elim (cases_lt o (mark_of marks k c)) [
                    | inl high ↦
                        let t : mark_of marks' (list_of layout.line runs r) c ≡ o = rw key (high_same c lc high) in
                        old (λ at. omega arith) (subst (λ x. r < mark_of marks x c) (sym key) (omega arith))
                    | inr below ↦
                        let t : mark_of marks' (list_of layout.line runs r) c ≡ mark_of marks k c = rw key (low_same c lc below) in
                        old (λ at. omega arith) (subst (λ x. r < mark_of marks x c) (sym key) (omega arith))
                  ]
                ];
          };
        }

-- the start
pub inv_start : (layout : Layout) (options : ParseOptions) (runs : List Sequence) (heads marks : List ℕ) → AreUntaken runs
    → ((i : ℕ) → get_or heads i 0 ≡ 0) → ((i : ℕ) → get_or marks i 0 ≡ 0) → Inv layout.line options runs runs 0 [] 0 heads [] marks
unfolding taken
inv_start layout options runs heads marks whole no_heads no_marks = grind (arith, scanned_none)
