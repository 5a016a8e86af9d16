-- The pairs of a container, by the numbers in it, are its pair list of the definition.
use Rattle.std.proofs.Common.{◌≡◌, ℕ, ◌+◌, ◌-◌, ◌%◌, ◌<◌, ◌≤◌, Bool, true, false, not, cond, ◌&&◌, ◌||◌, eqb, ltb, List, ◌∷◌, ◌++◌, length, map, refl, sym, ◌∙◌, ap, subst, inl, inr, ◌⊎◌, arith, []}
use Rattle.std.proofs.lemmas.Bool.{cases_eq, cases_lt, cases_order, cases_Bool, eq-eqb, eqb-true, ne_eqb, lt-ltb, le-ltb, and_parts, not-false, not_from_false, not-true}
use Rattle.std.proofs.lemmas.List.{map_push}
use Rattle.std.proofs.lemmas.List.Elements.{All-head, All-tail, All-push, All-nil}
use Rattle.std.proofs.lemmas.List.Sums.{sum_by-cons}
use Rattle.std.specs.Prelude.{All, sum_by, min}
use Rattle.std.proofs.Math.Bool.{and-false}
use Rattle.std.specs.List.{list_any}
use Rattle.markdown_content.specs.CommonMark.{rules_of}
use Rattle.markdown_content.specs.declared.configuration.ParseOptions.{ParseOptions}
use Rattle.markdown_model.specs.Laws.{shape_of}
use Rattle.markdown_model.specs.Pairs as Model
use Rattle.markdown_model.specs.Runs.{Run, marker_of}
use Rattle.markdown_model.specs.Setting.{Setting, rules}
use Rattle.markdown_attention.specs.RunContainers.{whole_shape, is_in, runs_in, place_in, placed, ArePairLists}
use Rattle.markdown_attention.specs.NumberedPairs.{row_of, Eligible, IsNextNumbered, PairsFrom, left, run_at, taken, takes, is_shut, is_around, sizes_fit, ruled_size, size_of_pair, is_tilde_pair, is_refused_by_three, AreItsPairs, pairs_in}
use Rattle.markdown_attention.specs.declared.attention.pairing.Pair.{Pair}
use Rattle.markdown_attention.specs.declared.attention.runs.Sequence.{Sequence}
use Rattle.markdown_attention.proofs.RemainingSizes.{taken_push, takes_opener, takes_closer, takes_other}
use Rattle.markdown_attention.proofs.RunNumbers.{StandsAtNumber, place, find, place-order, same-shape, same-length}

-- The two rules on sizes.

-- the rule of three and the rule for tildes, as the definition has them, of x and y markers left
abbrev three : ParseOptions → Sequence → Sequence → ℕ → ℕ → Bool
three options a b x y =
    (a.may_close || b.may_open)
    && (not (eqb (ruled_size options b.size y % 3) 0) && eqb ((ruled_size options a.size x + ruled_size options b.size y) % 3) 0)

abbrev tilde : ParseOptions → ℕ → ℕ → ℕ → Bool
tilde options marker x y =
    eqb marker 126 && not (eqb x y && (eqb x 2 || (eqb x 1 && options.gfm_strikethrough_single_tilde)))

and-assoc : (a b c : Bool) → ((a && b) && c) ≡ (a && (b && c))
and-assoc true b c = refl
and-assoc false b c = refl

-- a run of tildes is whole or used up
abbrev IsTildeWhole : Sequence → ℕ → Type 0
IsTildeWhole r x = r.marker ≡ 126 → 0 < x → x ≡ r.size

-- the size read of a whole run
read-whole : (options : ParseOptions) (size x : ℕ) → x ≡ size → ruled_size options size x ≡ x
read-whole options size x e =
    elim (cases_Bool (rules_of options).whole_lengths) [ inl w ↦ rw w (sym e) | inr r ↦ rw r refl ]

-- what sizes of tildes the rule for them allows
tilde-sizes : (options : ParseOptions) (x y : ℕ) → is_tilde_pair options x y ≡ true → (x ≡ y) × ((y ≡ 2) ⊎ (y ≡ 1))
tilde-sizes options x y h = grind (arith, and_parts, eqb-true, cases_eq, ne_eqb)

three-equal : (x y : ℕ) → x ≡ y → (y ≡ 2) ⊎ (y ≡ 1) → ((x + y) % 3 ≡ 0) → ⊥
three-equal x y e (inl two) = λ z. omega arith
three-equal x y e (inr one) = λ z. omega arith

-- the rule of three never refuses what the rule for tildes allows
three-tilde : (options : ParseOptions) (a b : Sequence) (x y : ℕ) → x ≡ a.size → y ≡ b.size →
    is_tilde_pair options x y ≡ true → three options a b x y ≡ false
three-tilde options a b x y ea eb h = grind (arith, tilde-sizes, read-whole, ne_eqb, three-equal, and-false)

tilde-same : (options : ParseOptions) (x y : ℕ) →
    (eqb x y && (eqb x 2 || (eqb x 1 && options.gfm_strikethrough_single_tilde))) ≡ is_tilde_pair options x y
tilde-same options x y = grind (arith, cases_eq, eq-eqb, ne_eqb)

-- the sizes fit where neither rule refuses
pub fit-rules : (options : ParseOptions) (a b : Sequence) (x y : ℕ) → a.marker ≡ b.marker → 0 < x → 0 < y → IsTildeWhole a x → IsTildeWhole b y
    → sizes_fit options a b x y ≡ true → (three options a b x y ≡ false) × (tilde options a.marker x y ≡ false)
unfolding sizes_fit
fit-rules options a b x y m lx ly wa wb h = grind (arith, cases_eq, eq-eqb, three-tilde, tilde-same, ne_eqb, and-assoc, not-true)

pub rules-fit : (options : ParseOptions) (a b : Sequence) (x y : ℕ) → a.marker ≡ b.marker
    → three options a b x y ≡ false → tilde options a.marker x y ≡ false → sizes_fit options a b x y ≡ true
unfolding sizes_fit
rules-fit options a b x y m no_three no_tilde = grind (arith, cases_eq, eq-eqb, tilde-same, not-false, ne_eqb, not_from_false, and-assoc)

-- After pairs that follow each other, a run of tildes is whole or used up.

size-all : (x y : ℕ) → x ≡ y → (y ≡ 2) ⊎ (y ≡ 1) → size_of_pair x y ≡ x
size-all x y e (inl two) = rw (e, two) refl
size-all x y e (inr one) = rw (e, one) refl

module _ (options : ParseOptions) (runs : List Sequence) (k : ℕ) where
  abbrev AreTildesWhole : List Pair → Type 0
  AreTildesWhole done = (i : ℕ) → IsTildeWhole (run_at runs i) (left runs done i)

  whole-start : AreTildesWhole []
  unfolding taken
  whole-start i t l = omega arith

  sizes-pair : (done : List Pair) (last : ℕ) (p : Pair) → IsNextNumbered options runs k done last p → (run_at runs p.closer).marker ≡ 126
      → (p.size ≡ left runs done p.opener) × (p.size ≡ left runs done p.closer)
  unfolding sizes_fit
  sizes-pair done last p n is = grind (arith, eq-eqb, tilde-sizes, size-all)

  whole-pair : (done : List Pair) (last : ℕ) (p : Pair) → IsNextNumbered options runs k done last p → AreTildesWhole done →
      AreTildesWhole (done ++ p ∷ [])
  whole-pair done last p n w i is some =
      elim (cases_eq i p.opener) [
        | inl opens ↦
            let z = sizes-pair done last p n (sym n.eligible.one_marker ∙ ap (λ x. (run_at runs x).marker) (sym opens) ∙ is) in
            let taken' : taken (done ++ p ∷ []) i ≡ taken done i + p.size = taken_push done p i ∙ ap (λ x. taken done i + x) (ap (λ x. takes x p) opens ∙ takes_opener p) in
            let all : p.size ≡ (run_at runs i).size - taken done i = z.0 ∙ ap (λ x. left runs done x) (sym opens) in
            absurd (omega (arith, taken', all, some))
        | inr not_opens ↦ elim (cases_eq i p.closer) [
          | inl closes ↦
              let z = sizes-pair done last p n (ap (λ x. (run_at runs x).marker) (sym closes) ∙ is) in
              let taken' : taken (done ++ p ∷ []) i ≡ taken done i + p.size = taken_push done p i ∙ ap (λ x. taken done i + x) (ap (λ x. takes x p) closes ∙ takes_closer p) in
              let all : p.size ≡ (run_at runs i).size - taken done i = z.1 ∙ ap (λ x. left runs done x) (sym closes) in
              absurd (omega (arith, taken', all, some))
          | inr not_closes ↦
              let taken' : taken (done ++ p ∷ []) i ≡ taken done i + 0 = taken_push done p i ∙ ap (λ x. taken done i + x) (takes_other p i not_opens not_closes) in
              let same : left runs (done ++ p ∷ []) i ≡ left runs done i = omega (arith, taken') in
              same ∙ w i is (subst (λ x. 0 < x) same some)
        ]
      ]

-- Runs and pairs by the numbers in the container.

-- run j of the definition's is run i
pub record IsSameRun (runs : List Sequence) (rs : List Run) (i j : ℕ) : Type 0 where
  pub marker : marker_of (Model.run_at rs j).codes ≡ (run_at runs i).marker
  pub size : length (Model.run_at rs j).codes ≡ (run_at runs i).size
  pub may_open : (Model.run_at rs j).may_open ≡ (run_at runs i).may_open
  pub may_close : (Model.run_at rs j).may_close ≡ (run_at runs i).may_close

module _ (s : Setting) (runs : List Sequence) (k : ℕ) (rs : List Run) (shapes : map shape_of rs ≡ map whole_shape (runs_in k runs)) where
  abbrev f : ℕ → ℕ
  f i = place_in k runs i

  record Member (i : ℕ) : Type 0 where
    pub within : i < length runs
    pub inside : row_of (run_at runs i).text ≡ k

  record AreBothMembers (p : Pair) : Type 0 where
    pub opener : Member p.opener
    pub closer : Member p.closer

  in-row : (i : ℕ) → Member i → is_in k (run_at runs i) ≡ true
  in-row i a = eq-eqb (row_of (run_at runs i).text) k a.inside

  at-place : (i : ℕ) → Member i → StandsAtNumber k runs i
  at-place i a = place k runs i a.within (in-row i a)

  stands : (i : ℕ) → Member i → IsSameRun runs rs i (f i)
  stands i a =
      let e : shape_of (Model.run_at rs (f i)) ≡ whole_shape (run_at runs i) = same-shape rs (runs_in k runs) shapes (f i) ∙ ap whole_shape (at-place i a).is in
      record { marker = ap (λ x. x.marker) e; size = ap (λ x. x.size) e; may_open = ap (λ x. x.may_open) e; may_close = ap (λ x. x.may_close) e }

  inside : (i : ℕ) → Member i → f i < length rs
  inside i a = rw (same-length rs (runs_in k runs) shapes) (at-place i a).within

  lt_to : (i j : ℕ) → Member i → Member j → i < j → f i < f j
  lt_to i j a b l = place-order k runs i j l b.within (in-row i a)

  le_to : (i j : ℕ) → Member i → Member j → i ≤ j → f i ≤ f j
  le_to i j a b l =
      elim (cases_eq i j) [ inl e ↦ (let e' = ap f e in omega arith) | inr n ↦ (let m = lt_to i j a b (omega arith) in omega arith) ]

  lt_from : (i j : ℕ) → Member i → Member j → f i < f j → i < j
  lt_from i j a b l =
      elim (cases_lt i j) [ inl below ↦ below | inr above ↦ absurd (let m = le_to j i b a above in omega arith) ]

  le_from : (i j : ℕ) → Member i → Member j → f i ≤ f j → i ≤ j
  le_from i j a b l =
      elim (cases_lt j i) [ inl below ↦ absurd (let m = lt_to j i b a below in omega arith) | inr above ↦ above ]

  eqb_same : (i j : ℕ) → Member i → Member j → eqb (f i) (f j) ≡ eqb i j
  eqb_same i j a b = grind (arith, cases_order, eq-eqb, ne_eqb, lt_to)

  ltb_same : (i j : ℕ) → Member i → Member j → ltb (f i) (f j) ≡ ltb i j
  ltb_same i j a b = grind (arith, cases_lt, lt-ltb, lt_to, le-ltb, le_to)

  abbrev moved : List Pair → List Model.Pair
  moved done = map (placed k runs) done

  takes_same : (i : ℕ) (p : Pair) → Member i → AreBothMembers p → Model.taken_by (f i) (placed k runs p) ≡ takes i p
  takes_same i p a b = rw (eqb_same p.opener i b.opener a, eqb_same p.closer i b.closer a)

  around_same : (i : ℕ) (p : Pair) → Member i → AreBothMembers p →
      Model.is_strictly_within (f i) (placed k runs p) ≡ is_around i p
  around_same i p a b = rw (ltb_same p.opener i b.opener a, ltb_same i p.closer a b.closer)

  taken_same : (done : List Pair) (i : ℕ) → Member i → All AreBothMembers done →
      sum_by (Model.taken_by (f i)) (moved done) ≡ taken done i
  unfolding taken
  taken_same [] i a h = refl
  taken_same (p ∷ ps) i a h =
      sum_by-cons (Model.taken_by (f i)) (placed k runs p) (moved ps)
      ∙ ap (λ x. x + sum_by (Model.taken_by (f i)) (moved ps)) (takes_same i p a (All-head AreBothMembers p ps h))
      ∙ ap (λ x. takes i p + x) (taken_same ps i a (All-tail AreBothMembers p ps h))
      ∙ sym (sum_by-cons (takes i) p ps)

  shut_same : (done : List Pair) (i : ℕ) → Member i → All AreBothMembers done →
      list_any (Model.is_strictly_within (f i)) (moved done) ≡ is_shut done i
  unfolding is_shut
  shut_same [] i a h = refl
  shut_same (p ∷ ps) i a h =
      ap (λ x. x || list_any (Model.is_strictly_within (f i)) (moved ps)) (around_same i p a (All-head AreBothMembers p ps h))
      ∙ ap (λ x. is_around i p || x) (shut_same ps i a (All-tail AreBothMembers p ps h))

  left_same : (done : List Pair) (i : ℕ) → Member i → All AreBothMembers done →
      Model.remaining rs (moved done) (f i) ≡ left runs done i
  left_same done i a h = rw ((stands i a).size, taken_same done i a h) refl

  ruled_same : (done : List Pair) (i : ℕ) → Member i → All AreBothMembers done →
      Model.ruled_size s rs (moved done) (f i) ≡ ruled_size s.options (run_at runs i).size (left runs done i)
  ruled_same done i a h = λ z. cond (rules s).whole_lengths ((stands i a).size z) (left_same done i a h z)

  three_same : (done : List Pair) (o c : ℕ) → Member o → Member c → All AreBothMembers done
      → Model.is_refused_by_three s rs (moved done) (f o) (f c) ≡ three s.options (run_at runs o) (run_at runs c) (left runs done o) (left runs done c)
  three_same done o c a b h = λ z.
      ((stands o a).may_close z || (stands c b).may_open z)
      && (not (eqb (ruled_same done c b h z % 3) 0) && eqb ((ruled_same done o a h z + ruled_same done c b h z) % 3) 0)

  tilde_same : (done : List Pair) (o c : ℕ) → Member o → Member c → All AreBothMembers done
      → Model.is_refused_as_tilde s rs (moved done) (f o) (f c) ≡ tilde s.options (run_at runs o).marker (left runs done o) (left runs done c)
  tilde_same done o c a b h = λ z.
      eqb ((stands o a).marker z) 126
      && not (eqb (left_same done o a h z) (left_same done c b h z)
      && (eqb (left_same done o a h z) 2 || (eqb (left_same done o a h z) 1 && s.options.gfm_strikethrough_single_tilde)))

  opener_of : (done : List Pair) (o c : ℕ) → Eligible s.options runs k done o c → Member o
  opener_of done o c e = record { within = (let a = e.before in let b = e.within in omega arith); inside = e.opener_in }

  closer_of : (done : List Pair) (o c : ℕ) → Eligible s.options runs k done o c → Member c
  closer_of done o c e = record { within = e.within; inside = e.closer_in }

  eligible_to : (done : List Pair) (o c : ℕ) → All AreBothMembers done → AreTildesWhole s.options runs k done → Eligible s.options runs k done o c
      → Model.IsEligible s rs (moved done) (f o) (f c)
  eligible_to done o c h w e =
      let a = opener_of done o c e in
      let b = closer_of done o c e in
      let r = fit-rules s.options (run_at runs o) (run_at runs c) (left runs done o) (left runs done c) e.one_marker e.opener_left e.closer_left (w o) (w c) e.fit in
      record {
        in_order = lt_to o c a b e.before;
        in_container = inside c b;
        one_marker = (stands o a).marker ∙ e.one_marker ∙ sym (stands c b).marker;
        may_open = (stands o a).may_open ∙ e.may_open;
        may_close = (stands c b).may_close ∙ e.may_close;
        opener_left = rw (left_same done o a h) e.opener_left;
        closer_left = rw (left_same done c b h) e.closer_left;
        not_within = shut_same done o a h ∙ e.not_between;
        three = three_same done o c a b h ∙ r.0;
        tilde = tilde_same done o c a b h ∙ r.1;
      }

  eligible_from : (done : List Pair) (o c : ℕ) → All AreBothMembers done → Member o → Member c
      → Model.IsEligible s rs (moved done) (f o) (f c) → Eligible s.options runs k done o c
  eligible_from done o c h a b e = grind (arith, stands, lt_from, left_same, shut_same, rules-fit, three_same, tilde_same)

  -- the run that has a number in the container
  record Source (j : ℕ) : Type 0 where
    pub run : ℕ
    pub member : Member run
    pub is : f run ≡ j

  source : (j : ℕ) → j < length rs → Source j
  source j l =
      let x = find k runs j (subst (λ n. j < n) (same-length rs (runs_in k runs) shapes) l) in
      record { run = x.run; member = record { within = x.within; inside = eqb-true (row_of (run_at runs x.run).text) k x.inside }; is = x.is }

  record Back (done : List Pair) (o c : ℕ) : Type 0 where
    pub opener : Source o
    pub closer : Source c
    pub eligible : Eligible s.options runs k done opener.run closer.run

  back : (done : List Pair) (o c : ℕ) → All AreBothMembers done → Model.IsEligible s rs (moved done) o c → Back done o c
  back done o c h e =
      let a : Source o = source o (let x = e.in_order in let y = e.in_container in omega arith) in
      let b : Source c = source c e.in_container in
      let e' : Model.IsEligible s rs (moved done) (f a.run) (f b.run) = grind arith in
      record { opener = a; closer = b; eligible = eligible_from done a.run b.run h a.member b.member e' }

  -- two places from which closers count
  record SamePlace (last last' : ℕ) : Type 0 where
    pub to : (c : ℕ) → Member c → last ≤ c → last' ≤ f c
    pub from : (c : ℕ) → Member c → last' ≤ f c → last ≤ c

  pair_sizes : (x y : ℕ) → 0 < x → 0 < y → size_of_pair x y ≡ min 2 (min x y)
  pair_sizes x y a b = grind (arith, cases_lt, lt-ltb, le-ltb)

  next_to : (done : List Pair) (last last' : ℕ) (p : Pair) → All AreBothMembers done → AreTildesWhole s.options runs k done → SamePlace last last' →
      AreBothMembers p
      → IsNextNumbered s.options runs k done last p → Model.IsNextPair s rs (moved done) last' (placed k runs p)
  next_to done last last' p h w at b n =
      record {
        eligible = eligible_to done p.opener p.closer h w n.eligible;
        size = n.size ∙ pair_sizes (left runs done p.opener) (left runs done p.closer) n.eligible.opener_left n.eligible.closer_left
            ∙ sym (λ z. min 2 (min (left_same done p.opener b.opener h z) (left_same done p.closer b.closer h z)));
        forward = at.to p.closer b.closer n.forward;
        leftmost = λ o c low high e.
            let z = back done o c h e in
            let low' : last' ≤ f z.closer.run = (let i = z.closer.is in omega arith) in
            let high' : f z.closer.run < f p.closer = (let i = z.closer.is in omega arith) in
            n.leftmost z.opener.run z.closer.run (at.from z.closer.run z.closer.member low')
            (lt_from z.closer.run p.closer z.closer.member b.closer high') z.eligible;
        nearest = λ o above e.
            let a : Source o = source o (let x = e.in_order in let y = e.in_container in omega arith) in
            let e' : Eligible s.options runs k done a.run p.closer =
            eligible_from done a.run p.closer h a.member b.closer
            (subst (λ x. Model.IsEligible s rs (moved done) x (f p.closer)) (sym a.is) e) in
            let above' : f p.opener < f a.run = (let i = a.is in omega arith) in
            n.nearest a.run (lt_from p.opener a.run b.opener a.member above') e';
      }

  pairs_to : (done : List Pair) (last last' : ℕ) (ps : List Pair) → All AreBothMembers done → AreTildesWhole s.options runs k done → SamePlace last last'
      → PairsFrom s.options runs k (length runs) done last ps
      → Model.ArePairsFrom s rs (length rs) (moved done) last' (moved ps)
  pairs_to done last last' [] h w at n =
      λ o c low high e.
      let z = back done o c h e in
      let low' : last' ≤ f z.closer.run = (let i = z.closer.is in omega arith) in
      n z.opener.run z.closer.run (at.from z.closer.run z.closer.member low') z.closer.member.within z.eligible
  pairs_to done last last' (p ∷ ps) h w at n =
      let b : AreBothMembers p = record { opener = opener_of done p.opener p.closer n.0.eligible; closer = closer_of done p.opener p.closer n.0.eligible } in
      let at' : SamePlace p.closer (f p.closer) = grind (arith, le_to, le_from) in (
        next_to done last last' p h w at b n.0,
        subst (λ x. Model.ArePairsFrom s rs (length rs) x (f p.closer) (moved ps)) (map_push (placed k runs) done p)
            (pairs_to (done ++ p ∷ []) p.closer (f p.closer) ps (All-push AreBothMembers done p h b) (whole-pair s.options runs k done last p n.0 w) at' n.1),
      )

  pub to-model : (pairs : List Pair) → AreItsPairs s.options runs k pairs → Model.IsPairList s rs (moved pairs)
  to-model pairs h =
      pairs_to [] 0 0 pairs (All-nil AreBothMembers) (whole-start s.options runs k) (record { to = λ c m l. omega arith; from = λ c m l. omega arith }) h

pub are-pair-lists : (options : ParseOptions) (runs : List Sequence) (pairs : List Pair)
    → ((k : ℕ) → AreItsPairs options runs k (pairs_in runs k pairs)) → ArePairLists options runs pairs
are-pair-lists options runs pairs h s container rs same shapes = grind (arith, to-model)
