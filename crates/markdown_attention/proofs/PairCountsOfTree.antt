-- The pairs of all containers of a tree are as many as those of one scan over all runs.
use Rattle.std.proofs.Common.{◌≡◌, ℕ, zero, suc, ◌+◌, ◌<◌, ◌≤◌, ◌==◌, Bool, true, false, if◌then◌else◌, List, ◌∷◌, ◌++◌, length, map, Option, Some, None, refl, sym, ap, subst, ◌∙◌, arith, inl, inr, ◌⊎◌, sum_by, []}
use Rattle.std.specs.Prelude.{All}
use Rattle.std.proofs.lemmas.Bool.{cases_lt, eq-eqb, ne_eqb, cases_Bool}
use Rattle.std.proofs.lemmas.List.{length-map}
use Rattle.std.proofs.lemmas.List.Elements.{All-head, All-tail}
use Rattle.std.proofs.lemmas.List.Sums.{sum_by-append, sum_by-cons}
use Rattle.markdown_content.specs.Codes.{stop_of, document_start, Code}
use Rattle.markdown_content.specs.Tree.{Forest, empty, leaf_then, group_then, event_count, start_of}
use Rattle.markdown_content.specs.declared.configuration.ParseOptions.{ParseOptions}
use Rattle.markdown_event.specs.declared.event.Name.{Name}
use Rattle.markdown_event.specs.declared.event.Point.{Point}
use Rattle.markdown_model.specs.Laws.{shape_of}
use Rattle.markdown_model.specs.Pairs.{pair_list}
use Rattle.markdown_model.specs.Runs.{Run, runs_of, rows_inside, rows_of}
use Rattle.markdown_model.specs.Setting.{Setting}
use Rattle.markdown_model.proofs.PairListFacts.{pairs_are_sound}
use Rattle.markdown_model.proofs.OnePairList.{some_pair_list, same_pair_list}
use Rattle.markdown_attention.specs.RunContainers.{whole_shape, runs_in, placed, pairs_of, ArePairLists, ArePairsWithin}
use Rattle.markdown_attention.specs.NumberedPairs.{row_of, run_at, pairs_in}
use Rattle.markdown_attention.specs.RunsRead.{Container, row_around, is_run, is_text}
use Rattle.markdown_attention.specs.RunsOfTree.{HasRows, leaf_run, inner, as_text, text_count, tree_runs, texts_of, HasRuns}
use Rattle.markdown_attention.specs.declared.attention.pairing.Pair.{Pair}
use Rattle.markdown_attention.specs.declared.attention.runs.Sequence.{Sequence}
use Rattle.markdown_attention.proofs.RunsOfTreeLemmas.{none-in, has-rows}
use Rattle.markdown_attention.proofs.RunCounts.{rows-empty, rows-leaf, rows-group, leaf-run-yes, leaf-run-no}

-- Sums over the rows of texts.

abbrev Texts : Type 0
Texts = List (ℕ × Forest)

-- of a number for each row
abbrev sums : (ℕ → ℕ) → Texts → ℕ
sums f [] = 0
sums f (x ∷ xs) = f (x.0 + 1) + sums f xs

abbrev is_row : ℕ → ℕ → ℕ
is_row r m = if r == m then 1 else 0

-- how many texts have this row
abbrev hits : ℕ → Texts → ℕ
hits r xs = sums (is_row r) xs

row-yes : (r m : ℕ) → r ≡ m → is_row r m ≡ 1
row-yes r m e = ap (λ (b : Bool). if b then 1 else 0) (eq-eqb r m e)

row-no : (r m : ℕ) → (r ≡ m → ⊥) → is_row r m ≡ 0
row-no r m e = ap (λ (b : Bool). if b then 1 else 0) (ne_eqb r m e)

row-few : (r m : ℕ) → is_row r m ≤ 1
row-few r m = grind arith

sums-append : (f : ℕ → ℕ) (xs ys : Texts) → sums f (xs ++ ys) ≡ sums f xs + sums f ys
sums-append f [] ys = omega arith
sums-append f (x ∷ xs) ys = omega (arith, sums-append f xs ys)

sums-same : (f g : ℕ → ℕ) (xs : Texts) → ((m : ℕ) → f m ≡ g m) → sums f xs ≡ sums g xs
sums-same f g [] h = refl
sums-same f g (x ∷ xs) h = λ i. h (x.0 + 1) i + sums-same f g xs h i

sums-plus : (f g : ℕ → ℕ) (xs : Texts) → sums (λ m. f m + g m) xs ≡ sums f xs + sums g xs
sums-plus f g [] = omega arith
sums-plus f g (x ∷ xs) = omega (arith, sums-plus f g xs)

sums-none : (f : ℕ → ℕ) (xs : Texts) → ((m : ℕ) → f m ≡ 0) → sums f xs ≡ 0
sums-none f [] h = refl
sums-none f (x ∷ xs) h = omega (arith, h (x.0 + 1), sums-none f xs h)

-- the text of a group itself
abbrev own : ℕ → Name → Forest → Texts
own m name inside = if is_text name then (m, inside) ∷ [] else []

own-yes : (f : ℕ → ℕ) (m : ℕ) (name : Name) (inside : Forest) → is_text name ≡ true →
    sums f (own m name inside) ≡ f (m + 1) + 0
own-yes f m name inside e = ap (λ (b : Bool). sums f (if b then (m, inside) ∷ [] else [])) e

own-no : (f : ℕ → ℕ) (m : ℕ) (name : Name) (inside : Forest) → is_text name ≡ false → sums f (own m name inside) ≡ 0
own-no f m name inside e = ap (λ (b : Bool). sums f (if b then (m, inside) ∷ [] else [])) e

group-sums : (f : ℕ → ℕ) (m : ℕ) (name : Name) (a b : Point) (inside rest : Forest)
    → sums f (texts_of m (group_then name a b inside rest))
    ≡ sums f (own m name inside) + (sums f (texts_of (m + as_text name) inside) + sums f (texts_of (m + as_text name + text_count inside) rest))
group-sums f m name a b inside rest = grind (arith, sums-append)

-- its row is the next, if it is a text
own-out : (r m : ℕ) (name : Name) (inside : Forest) → (r ≤ m) ⊎ (m + as_text name < r) → hits r (own m name inside) ≡ 0
own-out r m name inside far = grind (arith, cases_Bool, own-yes, row-no, own-no)

own-few : (r m : ℕ) (name : Name) (inside : Forest) → hits r (own m name inside) ≤ 1
own-few r m name inside = grind (arith, cases_Bool, own-yes, row-few, own-no)

-- Rows of texts are different: texts are counted.

hits-low : (t : Forest) (m r : ℕ) → r ≤ m → hits r (texts_of m t) ≡ 0
hits-low empty m r l = refl
hits-low (leaf_then name link cs rest) m r l = hits-low rest m r l
hits-low (group_then name a b inside rest) m r l =
    let past : ℕ = m + as_text name + text_count inside in
    let x : hits r (own m name inside) ≡ 0 = own-out r m name inside (inl l) in
    let y : hits r (texts_of (m + as_text name) inside) ≡ 0 = hits-low inside (m + as_text name) r (omega (arith, l)) in
    let z : hits r (texts_of past rest) ≡ 0 = hits-low rest past r (omega (arith, l)) in
    omega (arith, group-sums (is_row r) m name a b inside rest, x, y, z)

hits-high : (t : Forest) (m r : ℕ) → m + text_count t < r → hits r (texts_of m t) ≡ 0
hits-high empty m r l = refl
hits-high (leaf_then name link cs rest) m r l = hits-high rest m r l
hits-high (group_then name a b inside rest) m r l =
    let past : ℕ = m + as_text name + text_count inside in
    let x : hits r (own m name inside) ≡ 0 = own-out r m name inside (inr (omega (arith, l))) in
    let y : hits r (texts_of (m + as_text name) inside) ≡ 0 = hits-high inside (m + as_text name) r (omega (arith, l)) in
    let z : hits r (texts_of past rest) ≡ 0 = hits-high rest past r (omega (arith, l)) in
    omega (arith, group-sums (is_row r) m name a b inside rest, x, y, z)

cases-le : (a b : ℕ) → (a ≤ b) ⊎ (b < a)
cases-le a b = grind (arith, cases_lt)

hits-once : (t : Forest) (m r : ℕ) → hits r (texts_of m t) ≤ 1
hits-once empty m r = omega arith
hits-once (leaf_then name link cs rest) m r = hits-once rest m r
hits-once (group_then name a b inside rest) m r =
    let m' : ℕ = m + as_text name in
    let past : ℕ = m' + text_count inside in
    let parts = group-sums (is_row r) m name a b inside rest in
    let in_own : hits r (own m name inside) ≤ 1 = own-few r m name inside in
    let in_front : hits r (texts_of m' inside) ≤ 1 = hits-once inside m' r in
    let in_back : hits r (texts_of past rest) ≤ 1 = hits-once rest past r in
    elim (cases-le r m') [
      | inl l ↦
          let y : hits r (texts_of m' inside) ≡ 0 = hits-low inside m' r l in
          let z : hits r (texts_of past rest) ≡ 0 = hits-low rest past r (omega (arith, l)) in
          omega (arith, parts, in_own, y, z)
      | inr l ↦ grind (arith, own-out, cases-le, hits-low, hits-high)
    ]

-- The row of each run is that of the whole or of a text.

abbrev Every : (Sequence → Type 0) → List Sequence → Type 0
Every P [] = Unit {0}
Every P (x ∷ xs) = P x × Every P xs

every-append : (P : Sequence → Type 0) (xs ys : List Sequence) → Every P xs → Every P ys → Every P (xs ++ ys)
every-append P [] ys h k = k
every-append P (x ∷ xs) ys h k = (h.0, every-append P xs ys h.1 k)

every-map : (P Q : Sequence → Type 0) (xs : List Sequence) → ((x : Sequence) → P x → Q x) → Every P xs → Every Q xs
every-map P Q [] f h = tt
every-map P Q (x ∷ xs) f h = (f x h.0, every-map P Q xs f h.1)

every-at : (P : Sequence → Type 0) (xs : List Sequence) (i : ℕ) → i < length xs → Every P xs → P (run_at xs i)
every-at P [] i l h = absurd (omega (arith, l))
every-at P (x ∷ xs) zero l h = h.0
every-at P (x ∷ xs) (suc i) l h = every-at P xs i (omega (arith, l)) h.1

-- in this row, or in that of one of the texts
abbrev IsInRowOrTexts : ℕ → Texts → Sequence → Type 0
IsInRowOrTexts r xs q = (row_of q.text ≡ r) ⊎ (1 ≤ hits (row_of q.text) xs)

module _ (options : ParseOptions) (bytes : List ℕ) (content : List Code) where
  stays-tree : (t : Forest) (n i m : ℕ) (k : Container) →
      Every (IsInRowOrTexts (row_around k) (texts_of m t)) (tree_runs options bytes content n i m k t)
  stays-tree empty n i m k = tt
  stays-tree (leaf_then name link cs rest) n i m k =
      let here : List Sequence = leaf_run options bytes content n i k name (start_of cs) (stop_of document_start cs) in
      let P : Sequence → Type 0 = IsInRowOrTexts (row_around k) (texts_of m rest) in
      let one : Every P here = elim (cases_Bool (is_run name)) [
        | inl e ↦ subst (λ (xs : List Sequence). Every P xs) (sym (leaf-run-yes options bytes content n i k name (start_of cs) (stop_of document_start cs) e)) (inl refl, tt)
        | inr e ↦ subst (λ (xs : List Sequence). Every P xs) (sym (leaf-run-no options bytes content n i k name (start_of cs) (stop_of document_start cs) e)) tt
      ] in
      every-append P here (tree_runs options bytes content (n + length here) (i + 2) m k rest) one (stays-tree rest (n + length here) (i + 2) m k)
  stays-tree (group_then name a b inside rest) n i m k =
      let j : ℕ = i + 2 + event_count inside in
      let m' : ℕ = m + as_text name in
      let past : ℕ = m' + text_count inside in
      let whole : Texts = texts_of m (group_then name a b inside rest) in
      let front : List Sequence = tree_runs options bytes content n (i + 1) m' (inner i m k name) inside in
      let back : List Sequence = tree_runs options bytes content (n + length front) j past k rest in
      let P : Sequence → Type 0 = IsInRowOrTexts (row_around k) whole in
      let parts : (r : ℕ) → hits r whole ≡ hits r (own m name inside) + (hits r (texts_of m' inside) + hits r (texts_of past rest)) = λ r. group-sums (is_row r) m name a b inside rest in
      let outer : (q : Sequence) → row_of q.text ≡ row_around (inner i m k name) → P q = λ q e. elim (cases_Bool (is_text name)) [
        | inl x ↦
            let at : row_around (inner i m k name) ≡ m + 1 = ap (λ (b : Bool). row_around (if b then Some (record { event = i; number = m }) else k)) x in
            let one : hits (row_of q.text) (own m name inside) ≡ is_row (row_of q.text) (m + 1) + 0 = own-yes (is_row (row_of q.text)) m name inside x in
            inr (omega (arith, parts (row_of q.text), one, row-yes (row_of q.text) (m + 1) (e ∙ at)))
        | inr x ↦ inl (e ∙ ap (λ (b : Bool). row_around (if b then Some (record { event = i; number = m }) else k)) x)
      ] in
      let from_front : (q : Sequence) → IsInRowOrTexts (row_around (inner i m k name)) (texts_of m' inside) q → P q = λ q h. elim h [
        | inl e ↦ outer q e
        | inr l ↦ inr (omega (arith, parts (row_of q.text), l))
      ] in
      let from_back : (q : Sequence) → IsInRowOrTexts (row_around k) (texts_of past rest) q → P q = λ q h. elim h [
        | inl e ↦ inl e
        | inr l ↦ inr (omega (arith, parts (row_of q.text), l))
      ] in
      every-append P front back
      (every-map (IsInRowOrTexts (row_around (inner i m k name)) (texts_of m' inside)) P front from_front (stays-tree inside n (i + 1) m' (inner i m k name)))
      (every-map (IsInRowOrTexts (row_around k) (texts_of past rest)) P back from_back (stays-tree rest (n + length front) j past k))

-- Pairs by rows.

module _ (list : List Sequence) (texts : Texts) where
  abbrev row_in : Pair → ℕ
  row_in p = row_of (run_at list p.closer).text

  abbrev in_row : List Pair → ℕ → ℕ
  in_row ps m = length (pairs_in list m ps)

  one-more : (p : Pair) (ps : List Pair) (m : ℕ) → in_row (p ∷ ps) m ≡ is_row (row_in p) m + in_row ps m
  one-more p ps m = grind arith

  -- each pair is of one container
  abbrev AreOnce : List Pair → Type 0
  AreOnce [] = Unit {0}
  AreOnce (p ∷ ps) = (is_row (row_in p) 0 + hits (row_in p) texts ≡ 1) × AreOnce ps

  pairs-once : (ps : List Pair) → AreOnce ps → in_row ps 0 + sums (in_row ps) texts ≡ length ps
  pairs-once [] h = let x : sums (in_row []) texts ≡ 0 = sums-none (in_row []) texts (λ m. refl) in omega (arith, x)
  pairs-once (p ∷ ps) h =
      let first : in_row (p ∷ ps) 0 ≡ is_row (row_in p) 0 + in_row ps 0 = one-more p ps 0 in
      let more : sums (in_row (p ∷ ps)) texts ≡ hits (row_in p) texts + sums (in_row ps) texts =
      sums-same (in_row (p ∷ ps)) (λ m. is_row (row_in p) m + in_row ps m) texts (one-more p ps) ∙ sums-plus (is_row (row_in p)) (in_row ps) texts in
      omega (arith, first, more, h.0, pairs-once ps h.1)

-- Containers.

empty-list : (s : Setting) → length (pair_list s []) ≡ 0
empty-list s = let x = (pairs_are_sound s [] (pair_list s []) (some_pair_list s [])).half in omega (arith, x)

module _ (s : Setting) (options : ParseOptions) (bytes : List ℕ) (content : List Code) (same : s.bytes ≡ bytes) (given : s.options ≡ options) (held : s.content ≡ content) (list : List Sequence) (pairs : List Pair) where
  abbrev count_of : List Run → ℕ
  count_of rs = length (pair_list s rs)

  abbrev of_row : ℕ → ℕ
  of_row m = length (pairs_in list m pairs)

  abbrev IsCounted : ℕ × Forest → Type 0
  IsCounted text = count_of (runs_of s text.1) ≡ of_row (text.0 + 1)

  abbrev EachText : Texts → Type 0
  EachText [] = Unit {0}
  EachText (x ∷ xs) = IsCounted x × EachText xs

  each-front : (xs ys : Texts) → EachText (xs ++ ys) → EachText xs × EachText ys
  each-front [] ys h = (tt, h)
  each-front (x ∷ xs) ys h = let r = each-front xs ys h.1 in ((h.0, r.0), r.1)

  rows-paired : (t : Forest) (m : ℕ) → HasRuns bytes t → EachText (texts_of m t) →
      sum_by count_of (rows_inside s t) ≡ sums of_row (texts_of m t)
  rows-paired empty m h k = ap (λ x. sum_by count_of x) (rows-empty s)
  rows-paired (leaf_then name link cs rest) m h k =
      ap (λ x. sum_by count_of x) (rows-leaf s name link cs rest) ∙ rows-paired rest m h.1 k
  rows-paired (group_then name a b inside rest) m h k =
      let m' : ℕ = m + as_text name in
      let past : ℕ = m' + text_count inside in
      let x = each-front (own m name inside) (texts_of m' inside ++ texts_of past rest) k in
      let y = each-front (texts_of m' inside) (texts_of past rest) x.1 in
      let front : sum_by count_of (rows_inside s inside) ≡ sums of_row (texts_of m' inside) = rows-paired inside m' h.1.0 y.0 in
      let back : sum_by count_of (rows_inside s rest) ≡ sums of_row (texts_of past rest) = rows-paired rest past h.1.1 y.1 in
      let rows : sum_by count_of (rows_inside s (group_then name a b inside rest)) ≡ sum_by count_of (runs_of s inside ∷ rows_inside s inside) + sum_by count_of (rows_inside s rest) =
      ap (λ z. sum_by count_of z) (rows-group s name a b inside rest) ∙ sum_by-append count_of (runs_of s inside ∷ rows_inside s inside) (rows_inside s rest) in
      let first : sum_by count_of (runs_of s inside ∷ rows_inside s inside) ≡ count_of (runs_of s inside) + sum_by count_of (rows_inside s inside) = sum_by-cons count_of (runs_of s inside) (rows_inside s inside) in
      let it : count_of (runs_of s inside) ≡ sums of_row (own m name inside) = grind (arith, cases_Bool, own-yes, none-in, empty-list, own-no) in
      omega (arith, front, back, rows, first, it, group-sums of_row m name a b inside rest)

module _ (s : Setting) (options : ParseOptions) (bytes : List ℕ) (content : List Code) (same : s.bytes ≡ bytes) (given : s.options ≡ options) (held : s.content ≡ content) (t : Forest) (h : HasRuns bytes t)
    (pairs : List Pair) where
  abbrev all_runs : List Sequence
  all_runs = tree_runs options bytes content 0 0 0 None t

  module _ (lists : ArePairLists options all_runs pairs) (within : ArePairsWithin all_runs pairs) where
    counted : (k : Option ℕ) (rs : List Run) → map shape_of rs ≡ map whole_shape (runs_in (row_of k) all_runs) →
        length (pair_list s rs) ≡ length (pairs_in all_runs (row_of k) pairs)
    counted k rs e =
        ap length (same_pair_list s rs (pair_list s rs) (pairs_of (row_of k) all_runs pairs) (some_pair_list s rs) (lists s k rs given e))
        ∙ length-map (pairs_in all_runs (row_of k) pairs) (placed (row_of k) all_runs)

    abbrev IsShaped : ℕ × Forest → Type 0
    IsShaped text = map shape_of (runs_of s text.1) ≡ map whole_shape (runs_in (text.0 + 1) all_runs)

    each-counted : (xs : Texts) → All IsShaped xs → EachText s options bytes content same given held all_runs pairs xs
    each-counted [] a = tt
    each-counted (x ∷ xs) a =
        (counted (Some x.0) (runs_of s x.1) (All-head IsShaped x xs a), each-counted xs (All-tail IsShaped x xs a))

    once-all : (ps : List Pair) → ArePairsWithin all_runs ps → AreOnce all_runs (texts_of 0 t) ps
    once-all [] w = tt
    once-all (p ∷ ps) w = grind (arith, hits-once, every-at, stays-tree, hits-low, row-yes, row-no, once-all ps w.1)

    pub pair-count : sum_by (λ rs. length (pair_list s rs)) (rows_of s t) ≡ length pairs
    unfolding rows_of
    pair-count =
        let rows : HasRows s t all_runs = has-rows s options bytes content same given held t h in
        let whole : length (pair_list s (runs_of s t)) ≡ length (pairs_in all_runs 0 pairs) = counted None (runs_of s t) rows.whole in
        let inside : sum_by (λ rs. length (pair_list s rs)) (rows_inside s t) ≡ sums (λ m. length (pairs_in all_runs m pairs)) (texts_of 0 t) =
        rows-paired s options bytes content same given held all_runs pairs t 0 h (each-counted (texts_of 0 t) rows.texts) in
        let sum : sum_by (λ rs. length (pair_list s rs)) (rows_of s t) ≡ length (pair_list s (runs_of s t)) + sum_by (λ rs. length (pair_list s rs)) (rows_inside s t) = sum_by-cons (λ rs. length (pair_list s rs)) (runs_of s t) (rows_inside s t) in
        omega (arith, whole, inside, sum, pairs-once all_runs (texts_of 0 t) pairs (once-all pairs within))
