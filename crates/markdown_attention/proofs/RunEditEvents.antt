-- What comes for each run of a tree are the events of its tokens.
use Rattle.std.proofs.Common.{◌≡◌, ℕ, suc, ◌+◌, ◌-◌, ◌<◌, ◌≤◌, Bool, true, false, cond, if◌then◌else◌, List, ◌∷◌, ◌++◌, length, map, reverse, Option, None, refl, sym, ap, subst, ◌∙◌, arith, append_assoc, append-nil, length-append, inl, inr, sum_by, []}
use Rattle.markdown_content.specs.declared.configuration.ParseOptions.{ParseOptions}
use Rattle.markdown_attention.proofs.BracketAppends.{total-reverse}
use Rattle.std.proofs.lemmas.Bool.{eq-eqb, both_ways, cases_Bool, or_parts}
use Rattle.markdown_content.specs.Codes.{Code, stop_of, document_start}
use Rattle.markdown_content.specs.Tree.{Forest, empty, leaf_then, group_then, event_count, start_of}
use Rattle.markdown_event.specs.declared.event.Event.{Event}
use Rattle.markdown_event.specs.declared.event.Point.{Point}
use Rattle.markdown_model.specs.BracketGroups.{closing_sizes, opening_sizes}
use Rattle.markdown_model.specs.Laws.{Shape, shape_of}
use Rattle.markdown_model.specs.Pairs as Model
use Rattle.markdown_model.specs.Runs.{Run, marker_of, runs_of}
use Rattle.markdown_model.specs.Setting.{Setting}
use Rattle.markdown_model.proofs.PairListFacts.{pairs_are_sound}
use Rattle.markdown_model.proofs.OnePairList.{some_pair_list, same_pair_list}
use Rattle.markdown_attention.specs.RunContainers.{whole_shape, is_in, runs_in, place_in, pairs_of, ArePairsWithin}
use Rattle.markdown_attention.specs.NumberedPairs.{row_of, run_at, left, pairs_in}
use Rattle.markdown_attention.specs.RunsRead.{Container, text_around, row_around, is_run, sequence_at}
use Rattle.markdown_attention.specs.RunsOfTree.{IsRun, HasRuns, has_run, inner, as_text, text_count, leaf_run, tree_runs}
use Rattle.markdown_attention.specs.declared.attention.pairing.Pair.{Pair}
use Rattle.markdown_attention.specs.declared.attention.runs.Sequence.{Sequence}
use Rattle.markdown_attention.proofs.RunNumbers.{StandsAtNumber, place, same-shape}
use Rattle.markdown_attention.proofs.RunsOfTreeLemmas.{filters, none-in, leaf-out, inner-row, others, row-is}
use Rattle.markdown_attention.specs.RunEvents.{IsStripe, AreSome, marker_events, total}
use Rattle.markdown_attention.specs.AttentionTrees.{HasStripes, HavePoints}
use Rattle.markdown_attention.specs.RunEdits.{closed_sizes, opened_sizes, left_of}
use Rattle.markdown_attention.specs.TokenWord.{IsLogged, run_events, sized_events}
use Rattle.markdown_attention.proofs.PairsInRunOrder.{ranked, closing-some, opening-some, total-taken}
use Rattle.markdown_attention.proofs.ContainerBrackets.{total-sum, some-reverse}
use Rattle.markdown_attention.proofs.PairSizeNumbers.{closing-local, opening-local, taken-local}
use Rattle.markdown_attention.proofs.TokenEvents.{stripe-events}

-- Places in lists.

at-behind : (front : List Sequence) (r : Sequence) (back : List Sequence) →
    run_at (front ++ r ∷ back) (length front) ≡ r
at-behind [] r back = refl
at-behind (x ∷ front) r back = at-behind front r back

place-behind : (k : ℕ) (front : List Sequence) (r : Sequence) (back : List Sequence) →
    place_in k (front ++ r ∷ back) (length front) ≡ length (runs_in k front)
place-behind k [] r back = refl
place-behind k (x ∷ front) r back = grind (arith, place-behind k front r back)

no-shapes : (xs : List Sequence) → map whole_shape xs ≡ [] → xs ≡ []
no-shapes [] e = refl
no-shapes (x ∷ xs) e = cc

-- a row without runs is logged whatever its pairs are
module _ (s : Setting) (comes : ℕ → List Event) where
  logged-any : (t : Forest) (n i j : ℕ) (ps qs : List Model.Pair) → has_run t ≡ false →
      IsLogged s (Model.pair_list s) comes n ps i t → IsLogged s (Model.pair_list s) comes n qs j t
  logged-any empty n i j ps qs h l = tt
  logged-any (leaf_then name link cs rest) n i j ps qs h l =
      let other : is_run name ≡ false = (or_parts (is_run name) (has_run rest) h).0 in (
        (λ y. absurd (both_ways (is_run name) other y)),
        ((λ y. absurd (both_ways (is_run name) other y)), λ y. logged-any rest (n + 2) i j ps qs (or_parts (is_run name) (has_run rest) h).1 (l.1.1 other)),
      )
  logged-any (group_then name a b inside rest) n i j ps qs h l =
      (l.0, logged-any rest (n + 2 + event_count inside) i j ps qs h l.1)

module _ (s : Setting) (options : ParseOptions) (bytes : List ℕ) (content : List Code) (same : s.bytes ≡ bytes) (given : s.options ≡ options) (held : s.content ≡ content) (at : ℕ → Point) (pairs : List Pair) (list : List Sequence) (comes : ℕ → List Event) where
  -- what the runs and pairs are known to be
  pub record RunsAreRead : Type 0 where
    pub comes_are : (g : ℕ) → g < length list → comes (run_at list g).event
        ≡ marker_events (run_at list g).marker (at (run_at list g).event) (closed_sizes g pairs) (left_of list pairs g) (opened_sizes g pairs)
    pub lists : (k : Option ℕ) (runs : List Run) → map shape_of runs ≡ map whole_shape (runs_in (row_of k) list) →
        Model.IsPairList s runs (pairs_of (row_of k) list pairs)
    pub within : ArePairsWithin list pairs

  abbrev own : Container → List Model.Pair
  own k = pairs_of (row_around k) list pairs

  abbrev Shapes : Container → List Run → Type 0
  Shapes k R = map shape_of R ≡ map whole_shape (runs_in (row_around k) list)

  module _ (read : RunsAreRead) where
    -- one run
    leaf-logged : (front back : List Sequence) (r : Sequence) (k : Container) (n : ℕ) (cs : List Code) (R : List Run) → Shapes k R → list ≡ front ++ r ∷ back
        → r ≡ sequence_at options bytes content (length front) n k (start_of cs) (stop_of document_start cs) → IsRun bytes cs → IsStripe (marker_of cs) (start_of cs) cs → at n ≡ start_of cs
        → comes n ≡ run_events (own k) (length (runs_in (row_around k) front)) cs
    unfolding run_events
    leaf-logged front back r k n [] R shapes whole is h stripe place_is = absurd h
    leaf-logged front back r k n (c ∷ ds) R shapes whole is h stripe place_is =
        let cs : List Code = c ∷ ds in
        let q : ℕ = row_around k in
        let g : ℕ = length front in
        let here : run_at list g ≡ r = ap (λ xs. run_at xs g) whole ∙ at-behind front r back in
        let long : length list ≡ g + suc (length back) = ap length whole ∙ length-append front (r ∷ back) in
        let inside_list : g < length list = omega (arith, long) in
        let row : is_in q (run_at list g) ≡ true = ap (λ x. is_in q x) (here ∙ is) ∙ eq-eqb q q refl in
        let i : ℕ = place_in q list g in
        let number : i ≡ length (runs_in q front) = ap (λ xs. place_in q xs g) whole ∙ place-behind q front r back in
        let f : List ℕ = closed_sizes g pairs in
        let b : List ℕ = opened_sizes g pairs in
        let fronts : closing_sizes i (own k) ≡ f = closing-local q list g inside_list row pairs read.within in
        let backs : opening_sizes i (own k) ≡ b = opening-local q list g inside_list row pairs read.within in
        let is_list : Model.IsPairList s R (own k) = read.lists (text_around k) R shapes in
        let ranks = ranked s R (own k) is_list in
        let once : sum_by (Model.taken_by i) (own k) ≤ length (Model.run_at R i).codes = (pairs_are_sound s R (own k) is_list).taken_once i in
        let sum : total (closing_sizes i (own k)) + total (opening_sizes i (own k)) ≡ sum_by (Model.taken_by i) (own k) = total-taken R i (own k) ranks in
        let p : StandsAtNumber q list g = place q list g inside_list row in
        let shape : shape_of (Model.run_at R i) ≡ whole_shape (run_at list g) = same-shape R (runs_in q list) shapes i ∙ ap whole_shape p.is in
        let size : length (Model.run_at R i).codes ≡ (run_at list g).size = ap (λ (x : Shape). x.size) shape in
        let event_is : (run_at list g).event ≡ n = ap (λ (x : Sequence). x.event) (here ∙ is) in
        let marker_is : (run_at list g).marker ≡ marker_of cs = ap (λ (x : Sequence). x.marker) (here ∙ is) ∙ h.0 in
        let size_is : (run_at list g).size ≡ length cs = ap (λ (x : Sequence). x.size) (here ∙ is) ∙ (let e = h.1 in omega (arith, e)) in
        let key_is : row_of (run_at list g).text ≡ q = ap (λ (x : Sequence). row_of x.text) (here ∙ is) in
        let left_is : left_of list pairs g ≡ (run_at list g).size - (total f + total b) =
        ap (λ j. left list (pairs_in list j pairs) g) key_is ∙ ap (λ j. (run_at list g).size - j) (taken-local q list g inside_list row pairs read.within) in
        let kept : ℕ = left_of list pairs g in
        let f_total : total (closing_sizes i (own k)) ≡ total f = ap total fronts in
        let b_total : total (opening_sizes i (own k)) ≡ total b = ap total backs in
        let reversed : total (reverse b) ≡ total b = total-reverse b in
        let all : total f + kept + total (reverse b) ≡ length cs = omega (arith, once, sum, size, size_is, left_is, f_total, b_total, reversed) in
        let some_f : AreSome f = subst (λ (xs : List ℕ). AreSome xs) fronts (closing-some R i (own k) ranks) in
        let some_b : AreSome (reverse b) = some-reverse b (subst (λ (xs : List ℕ). AreSome xs) backs (opening-some R i (own k) ranks)) in
        ap comes (sym event_is)
        ∙ read.comes_are g inside_list
        ∙ (λ z. marker_events (marker_is z) ((ap at event_is ∙ place_is) z) f kept b)
        ∙ sym (stripe-events (marker_of cs) (start_of cs) f b kept cs stripe some_f some_b all (total-sum (reverse b)))
        ∙ (λ z. sized_events (sym fronts z) (sym backs z) cs)
        ∙ ap (λ j. sized_events (closing_sizes j (own k)) (opening_sizes j (own k)) cs) number

    Lacks : ℕ → ℕ → List Sequence → Type 0
    Lacks low high xs = (r : ℕ) → low < r → r ≤ high → runs_in r xs ≡ []

    abbrev runs : ℕ → ℕ → ℕ → Container → Forest → List Sequence
    runs g n m k t = tree_runs options bytes content g n m k t

    abbrev Logged : ℕ → List Model.Pair → ℕ → Forest → Type 0
    Logged n ps i t = IsLogged s (Model.pair_list s) comes n ps i t

    abbrev split : (r : ℕ) (xs ys : List Sequence) → runs_in r (xs ++ ys) ≡ runs_in r xs ++ runs_in r ys
    split r xs ys = filters s options bytes content same given held r xs ys

    -- a run in front counts in its own container, other leaves do not
    logged : (t : Forest) (n m : ℕ) (k : Container) (R : List Run) (front back : List Sequence) → Shapes k R → HasRuns bytes t → HasStripes t → HavePoints at n t → row_around k ≤ m
        → list ≡ front ++ (runs (length front) n m k t ++ back) → Lacks m (m + text_count t) front → Lacks m (m + text_count t) back
        → Logged n (own k) (length (runs_in (row_around k) front)) t
    unfolding Lacks
    logged empty n m k R front back shapes h st pt low whole f b = tt
    logged (leaf_then name link cs rest) n m k R front back shapes h st pt low whole f b = elim (cases_Bool (is_run name)) [
      | inr e ↦
          let here : leaf_run options bytes content (length front) n k name (start_of cs) (stop_of document_start cs) ≡ [] = ap (λ (y : Bool). if y then sequence_at options bytes content (length front) n k (start_of cs) (stop_of document_start cs) ∷ [] else []) e in
          let none : length front + 0 ≡ length front = omega arith in
          let whole' : list ≡ front ++ (runs (length front) (n + 2) m k rest ++ back) =
          whole ∙ ap (λ xs. front ++ ((xs ++ runs (length front + length xs) (n + 2) m k rest) ++ back)) here ∙ ap (λ g. front ++ (runs g (n + 2) m k rest ++ back)) none in (
            (λ y. absurd (both_ways (is_run name) e y)),
            ((λ y. absurd (both_ways (is_run name) e y)), λ y. logged rest (n + 2) m k R front back shapes h.1 st.1 pt.1 low whole' f b),
          )
      | inl e ↦
          let r : Sequence = sequence_at options bytes content (length front) n k (start_of cs) (stop_of document_start cs) in
          let here : leaf_run options bytes content (length front) n k name (start_of cs) (stop_of document_start cs) ≡ r ∷ [] = ap (λ (y : Bool). if y then r ∷ [] else []) e in
          let one : length (front ++ r ∷ []) ≡ length front + 1 = length-append front (r ∷ []) in
          let more : List Sequence = runs (length front + 1) (n + 2) m k rest in
          let whole1 : list ≡ front ++ r ∷ (more ++ back) = whole ∙ ap (λ xs. front ++ ((xs ++ runs (length front + length xs) (n + 2) m k rest) ++ back)) here in
          let whole2 : list ≡ (front ++ r ∷ []) ++ (runs (length (front ++ r ∷ [])) (n + 2) m k rest ++ back) =
          whole1 ∙ sym (append_assoc front (r ∷ []) (more ++ back)) ∙ ap (λ g. (front ++ r ∷ []) ++ (runs g (n + 2) m k rest ++ back)) (sym one) in
          let q : ℕ = row_around k in
          let mine : runs_in q (r ∷ []) ≡ r ∷ [] = ap (λ (y : Bool). cond y (r ∷ []) []) (eq-eqb q q refl) in
          let count : length (runs_in q (front ++ r ∷ [])) ≡ suc (length (runs_in q front)) =
          ap length (split q front (r ∷ []) ∙ ap (λ xs. runs_in q front ++ xs) mine) ∙ (let y = length-append (runs_in q front) (r ∷ []) in omega (arith, y)) in
          let front' : Lacks m (m + text_count rest) (front ++ r ∷ []) =
          λ j l u. split j front (r ∷ []) ∙ ap (λ xs. xs ++ runs_in j (r ∷ [])) (f j l u)
          ∙ ap (λ xs. runs_in j xs) (sym here) ∙ leaf-out s options bytes content same given held (length front) n k j name (start_of cs) (stop_of document_start cs) (λ y. omega (arith, y, l, low)) in (
            (λ y. leaf-logged front (more ++ back) r k n cs R shapes whole1 refl (h.0.1 e) (st.0 e).1.1 (pt.0 e)),
            (
              (λ y. subst (λ (j : ℕ). Logged (n + 2) (own k) j rest) count (logged rest (n + 2) m k R (front ++ r ∷ []) back shapes h.1 st.1 pt.1 low whole2 front' b)),
              λ y. absurd (both_ways (is_run name) y e),
            ),
          )
    ]
    logged (group_then name a c inside rest) n m k R front back shapes h st pt low whole f b =
        let m' : ℕ = m + as_text name in
        let past : ℕ = m' + text_count inside in
        let of : List Sequence = runs (length front) (n + 1) m' (inner n m k name) inside in
        let g : ℕ = length front + length of in
        let j : ℕ = n + 2 + event_count inside in
        let more : List Sequence = runs g j past k rest in
        let q : ℕ = row_around k in
        let whole1 : list ≡ front ++ (of ++ (more ++ back)) = whole ∙ ap (λ xs. front ++ xs) (append_assoc of more back) in
        let size : length (front ++ of) ≡ g = length-append front of in
        let whole2 : list ≡ (front ++ of) ++ (runs (length (front ++ of)) j past k rest ++ back) =
        whole1 ∙ sym (append_assoc front of (more ++ back)) ∙ ap (λ x. (front ++ of) ++ (runs x j past k rest ++ back)) (sym size) in
        let behind : (r : ℕ) → m < r → r ≤ past → runs_in r (more ++ back) ≡ [] =
        λ r l u. split r more back ∙ ap (λ zs. zs ++ runs_in r back) (others s options bytes content same given held rest g j past k r (λ e. omega (arith, e, l, low)) (inl u)) ∙ b r l (omega (arith, u)) in
        let inner_low : row_around (inner n m k name) ≤ m' = elim (inner-row s options bytes content same given held n m k name) [ inl x ↦ omega (arith, x.1.0, x.1.1) | inr x ↦ (let y = ap row_around x.1 in omega (arith, y, low)) ] in
        let front_in : Lacks m' past front = λ r l u. f r (omega (arith, l)) (omega (arith, u)) in
        let back_in : Lacks m' past (more ++ back) = λ r l u. behind r (omega (arith, l)) u in
        let none : runs_in q of ≡ [] = elim (inner-row s options bytes content same given held n m k name) [
          | inl x ↦ others s options bytes content same given held inside (length front) (n + 1) m' (inner n m k name) q (λ y. omega (arith, y, x.1.0, low)) (inl (omega (arith, low)))
          | inr x ↦
              no-shapes (runs_in q of) (sym (row-is s options bytes content same given held inside (length front) (n + 1) m' (inner n m k name) q h.1.0 (ap row_around x.1) (omega (arith, low)))
              ∙ ap (map shape_of) (none-in s options bytes content same given held inside (h.0.1 x.0)))
        ] in
        let count : length (runs_in q (front ++ of)) ≡ length (runs_in q front) = ap length (split q front of ∙ ap (λ xs. runs_in q front ++ xs) none ∙ append-nil (runs_in q front)) in
        let front_after : Lacks past (past + text_count rest) (front ++ of) =
        λ r l u. split r front of ∙ ap (λ zs. zs ++ runs_in r of) (f r (omega (arith, l)) (omega (arith, u)))
        ∙ others s options bytes content same given held inside (length front) (n + 1) m' (inner n m k name) r (λ e. omega (arith, inner_low, e, l)) (inr l) in
        let back_after : Lacks past (past + text_count rest) back = λ r l u. b r (omega (arith, l)) (omega (arith, u)) in
        let first : Logged (n + 1) (Model.pair_list s (runs_of s inside)) 0 inside = elim (inner-row s options bytes content same given held n m k name) [
          | inl x ↦
              let key : row_around (inner n m k name) ≡ m + 1 = x.1.0 in
              let one : as_text name ≡ 1 = x.1.1 in
              let none_front : runs_in (m + 1) front ≡ [] = f (m + 1) (omega arith) (omega (arith, one)) in
              let middle : runs_in (m + 1) list ≡ runs_in (m + 1) of =
              ap (runs_in (m + 1)) whole1
              ∙ split (m + 1) front (of ++ (more ++ back)) ∙ ap (λ xs. xs ++ runs_in (m + 1) (of ++ (more ++ back))) none_front
              ∙ split (m + 1) of (more ++ back) ∙ ap (λ xs. runs_in (m + 1) of ++ xs) (behind (m + 1) (omega arith) (omega (arith, one))) ∙ append-nil (runs_in (m + 1) of) in
              let shapes_in : Shapes (inner n m k name) (runs_of s inside) =
              row-is s options bytes content same given held inside (length front) (n + 1) m' (inner n m k name) (m + 1) h.1.0 key (omega (arith, one))
              ∙ ap (map whole_shape) (sym middle)
              ∙ ap (λ r. map whole_shape (runs_in r list)) (sym key) in
              let pairs_are : own (inner n m k name) ≡ Model.pair_list s (runs_of s inside) =
              same_pair_list s (runs_of s inside) (own (inner n m k name)) (Model.pair_list s (runs_of s inside)) (read.lists (text_around (inner n m k name)) (runs_of s inside) shapes_in) (some_pair_list s (runs_of s inside)) in
              let start : length (runs_in (row_around (inner n m k name)) front) ≡ 0 = ap (λ r. length (runs_in r front)) key ∙ ap length none_front in
              let here : Logged (n + 1) (own (inner n m k name)) (length (runs_in (row_around (inner n m k name)) front)) inside =
              logged inside (n + 1) m' (inner n m k name) (runs_of s inside) front (more ++ back) shapes_in h.1.0 st.1.0 pt.0 inner_low whole1 front_in back_in in
              subst (λ (i : ℕ). Logged (n + 1) (Model.pair_list s (runs_of s inside)) i inside) start
              (subst (λ (ps : List Model.Pair). Logged (n + 1) ps (length (runs_in (row_around (inner n m k name)) front)) inside) pairs_are here)
          | inr x ↦
              let shapes_in : Shapes (inner n m k name) R = shapes ∙ ap (λ o. map whole_shape (runs_in (row_around o) list)) (sym x.1) in
              let here : Logged (n + 1) (own (inner n m k name)) (length (runs_in (row_around (inner n m k name)) front)) inside =
              logged inside (n + 1) m' (inner n m k name) R front (more ++ back) shapes_in h.1.0 st.1.0 pt.0 inner_low whole1 front_in back_in in
              logged-any s comes inside (n + 1) (length (runs_in (row_around (inner n m k name)) front)) 0 (own (inner n m k name)) (Model.pair_list s (runs_of s inside)) (h.0.1 x.0) here
        ] in
        (first, subst (λ (i : ℕ). Logged j (own k) i rest) count (logged rest j past k R (front ++ of) back shapes h.1.1 st.1.1 pt.1 (omega (arith, low)) whole2 front_after back_after))

    -- the whole tree
    pub all-logged : (t : Forest) → HasRuns bytes t → HasStripes t → HavePoints at 0 t → list ≡ runs 0 0 0 None t →
        IsLogged s (Model.pair_list s) comes 0 (Model.pair_list s (runs_of s t)) 0 t
    unfolding Lacks
    all-logged t h st pt e =
        let shapes : Shapes None (runs_of s t) = row-is s options bytes content same given held t 0 0 0 None 0 h refl (omega arith) ∙ ap (λ xs. map whole_shape (runs_in 0 xs)) (sym e) in
        let pairs_are : own None ≡ Model.pair_list s (runs_of s t) =
        same_pair_list s (runs_of s t) (own None) (Model.pair_list s (runs_of s t)) (read.lists None (runs_of s t) shapes) (some_pair_list s (runs_of s t)) in
        subst (λ (ps : List Model.Pair). Logged 0 ps 0 t) pairs_are
        (logged t 0 0 None (runs_of s t) [] [] shapes h st pt (omega arith) (e ∙ sym (append-nil (runs 0 0 0 None t))) (λ r l u. refl) (λ r l u. refl))
