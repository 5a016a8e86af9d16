-- The runs of a tree's events, counted by its containers, and by its codes.
use Rattle.std.proofs.Common.{◌≡◌, ℕ, ◌+◌, ◌≤◌, Bool, true, false, List, ◌∷◌, ◌++◌, length, filter, Option, None, refl, sym, ap, ◌∙◌, arith, inl, inr, sum_by, length-append, []}
use Rattle.std.proofs.lemmas.Bool.{cases_Bool}
use Rattle.std.specs.List.{count_by}
use Rattle.std.proofs.lemmas.List.Sums.{sum_by-append, sum_by-cons, length-filter}
use Rattle.std.proofs.lemmas.List.Elements.{filter-append}
use Rattle.markdown_content.specs.declared.configuration.ParseOptions.{ParseOptions}
use Rattle.markdown_content.specs.Codes.{Code, stop_of, document_start}
use Rattle.markdown_content.specs.Tree.{Forest, empty, leaf_then, group_then, leaf_codes, event_count, start_of}
use Rattle.markdown_event.specs.declared.event.Content.{Content}
use Rattle.markdown_event.specs.declared.event.Name.{Name}
use Rattle.markdown_event.specs.declared.event.Point.{Point}
use Rattle.markdown_model.specs.Laws.{Shape, shape_of}
use Rattle.markdown_model.specs.Runs.{Run, run_of, runs_of, rows_inside, rows_of}
use Rattle.markdown_model.specs.Setting.{Setting}
use Rattle.markdown_attention.specs.RunContainers.{whole_shape}
use Rattle.markdown_attention.specs.NumberedPairs.{markers_left}
use Rattle.markdown_attention.specs.RunsRead.{Container, is_run, sequence_at}
use Rattle.markdown_attention.specs.RunsOfTree.{leaf_run, inner, as_text, text_count, tree_runs, IsRun, HasRuns}
use Rattle.markdown_attention.specs.declared.attention.runs.Sequence.{Sequence}
use Rattle.markdown_attention.proofs.RunsOfTreeLemmas.{leaf-shape}
use Rattle.markdown_attention.proofs.ContainerBrackets.{runs-empty, runs-run, runs-leaf, runs-group, run-name}

-- a number that adds up over lists
pub record AddsUp {A : Type 0} (F : List A → ℕ) : Type 0 where
  pub none : F [] ≡ 0
  pub append : (xs ys : List A) → F (xs ++ ys) ≡ F xs + F ys

pub length-adds : {A : Type 0} → AddsUp (λ (xs : List A). length xs)
length-adds {A} = record { none = refl; append = λ xs ys. length-append xs ys }

pub count-adds : {A : Type 0} (p : A → Bool) → AddsUp (λ (xs : List A). count_by p xs)
count-adds {A} p = record { none = sym (length-filter p []); append = both }
  where
    both : (xs ys : List A) → count_by p (xs ++ ys) ≡ count_by p xs + count_by p ys
    both xs ys =
        sym (length-filter p (xs ++ ys)) ∙ ap length (filter-append p xs ys) ∙ length-append (filter p xs) (filter p ys)
        ∙ (λ i. length-filter p xs i + length-filter p ys i)

pub leaf-run-yes : (options : ParseOptions) (bytes : List ℕ) (content : List Code) (n i : ℕ) (k : Container) (name : Name) (p q : Point) →
    is_run name ≡ true → leaf_run options bytes content n i k name p q ≡ sequence_at options bytes content n i k p q ∷ []
leaf-run-yes options bytes content n i k name p q e = rw e refl

pub leaf-run-no : (options : ParseOptions) (bytes : List ℕ) (content : List Code) (n i : ℕ) (k : Container) (name : Name) (p q : Point) →
    is_run name ≡ false → leaf_run options bytes content n i k name p q ≡ []
leaf-run-no options bytes content n i k name p q e = rw e refl

pub rows-empty : (s : Setting) → rows_inside s empty ≡ []
unfolding rows_inside
rows-empty s = refl

pub rows-leaf : (s : Setting) (name : Name) (link : Option Content) (cs : List Code) (rest : Forest) →
    rows_inside s (leaf_then name link cs rest) ≡ rows_inside s rest
unfolding rows_inside
rows-leaf s name link cs rest = refl

pub rows-group : (s : Setting) (name : Name) (a b : Point) (inside rest : Forest) →
    rows_inside s (group_then name a b inside rest) ≡ (runs_of s inside ∷ rows_inside s inside) ++ rows_inside s rest
unfolding rows_inside
rows-group s name a b inside rest = refl

-- Codes and markers.

module _ (options : ParseOptions) (bytes : List ℕ) (content : List Code) where
  abbrev at : ℕ → ℕ → ℕ → Container → Forest → List Sequence
  at n i m k t = tree_runs options bytes content n i m k t

  -- a run has as many markers as codes, and some
  leaf-few : (n i : ℕ) (k : Container) (cs : List Code) → IsRun bytes cs
      → let q : Sequence = sequence_at options bytes content n i k (start_of cs) (stop_of document_start cs) in (q.remaining ≡ length cs) × (1 ≤ length cs)
  leaf-few n i k [] h = absurd h
  leaf-few n i k (c ∷ cs) h = (omega (arith, h.1), omega arith)

  pub tree-few : (t : Forest) (n i m : ℕ) (k : Container) → HasRuns bytes t →
      (markers_left (at n i m k t) ≤ length (leaf_codes t)) × (length (at n i m k t) ≤ length (leaf_codes t))
  tree-few empty n i m k h = (omega arith, omega arith)
  tree-few (leaf_then name link cs rest) n i m k h =
      let here : List Sequence = leaf_run options bytes content n i k name (start_of cs) (stop_of document_start cs) in
      let more : List Sequence = at (n + length here) (i + 2) m k rest in
      let r = tree-few rest (n + length here) (i + 2) m k h.1 in
      let codes : length (cs ++ leaf_codes rest) ≡ length cs + length (leaf_codes rest) = length-append cs (leaf_codes rest) in
      let sum : markers_left (here ++ more) ≡ markers_left here + markers_left more = sum_by-append (λ (q : Sequence). q.remaining) here more in
      let size : length (here ++ more) ≡ length here + length more = length-append here more in
      let one : (markers_left here ≤ length cs) × (length here ≤ length cs) = elim (cases_Bool (is_run name)) [
        | inl e ↦
            let q : Sequence = sequence_at options bytes content n i k (start_of cs) (stop_of document_start cs) in
            let is : here ≡ q ∷ [] = leaf-run-yes options bytes content n i k name (start_of cs) (stop_of document_start cs) e in
            let few = leaf-few n i k cs (h.0.1 e) in
            let a : markers_left here ≡ q.remaining + 0 = ap markers_left is ∙ sum_by-cons (λ (x : Sequence). x.remaining) q [] in
            let b : length here ≡ 1 = ap length is in
            (omega (arith, a, few.0), omega (arith, b, few.1))
        | inr e ↦
            let is : here ≡ [] = leaf-run-no options bytes content n i k name (start_of cs) (stop_of document_start cs) e in
            let a : markers_left here ≡ 0 = ap markers_left is in
            let b : length here ≡ 0 = ap length is in
            (omega (arith, a), omega (arith, b))
      ] in
      (omega (arith, codes, sum, one.0, r.0), omega (arith, codes, size, one.1, r.1))
  tree-few (group_then name a b inside rest) n i m k h =
      let front : List Sequence = at n (i + 1) (m + as_text name) (inner i m k name) inside in
      let back : List Sequence = at (n + length front) (i + 2 + event_count inside) (m + as_text name + text_count inside) k rest in
      let x = tree-few inside n (i + 1) (m + as_text name) (inner i m k name) h.1.0 in
      let y = tree-few rest (n + length front) (i + 2 + event_count inside) (m + as_text name + text_count inside) k h.1.1 in
      let codes : length (leaf_codes inside ++ leaf_codes rest) ≡ length (leaf_codes inside) + length (leaf_codes rest) = length-append (leaf_codes inside) (leaf_codes rest) in
      let sum : markers_left (front ++ back) ≡ markers_left front + markers_left back = sum_by-append (λ (q : Sequence). q.remaining) front back in
      let size : length (front ++ back) ≡ length front + length back = length-append front back in
      (omega (arith, codes, sum, x.0, y.0), omega (arith, codes, size, x.1, y.1))

-- Containers.

module _ (s : Setting) (options : ParseOptions) (bytes : List ℕ) (content : List Code) (same : s.bytes ≡ bytes) (given : s.options ≡ options) (held : s.content ≡ content)
    (F : List Run → ℕ) (G : List Sequence → ℕ) (f : AddsUp F) (g : AddsUp G) (one : (r : Run) (q : Sequence) → shape_of r ≡ whole_shape q → F (r ∷ []) ≡ G (q ∷ [])) where
  abbrev in_rows : Forest → ℕ
  in_rows t = F (runs_of s t) + sum_by F (rows_inside s t)

  rows-counted : (t : Forest) (n i m : ℕ) (k : Container) → HasRuns bytes t →
      in_rows t ≡ G (tree_runs options bytes content n i m k t)
  rows-counted empty n i m k h = grind (arith, runs-empty, rows-empty)
  rows-counted (leaf_then name link cs rest) n i m k h =
      let here : List Sequence = leaf_run options bytes content n i k name (start_of cs) (stop_of document_start cs) in
      let more : List Sequence = tree_runs options bytes content (n + length here) (i + 2) m k rest in
      let r : in_rows rest ≡ G more = rows-counted rest (n + length here) (i + 2) m k h.1 in
      let b : sum_by F (rows_inside s (leaf_then name link cs rest)) ≡ sum_by F (rows_inside s rest) = ap (λ x. sum_by F x) (rows-leaf s name link cs rest) in
      let sum : G (here ++ more) ≡ G here + G more = g.append here more in
      let first : F (runs_of s (leaf_then name link cs rest)) ≡ G here + F (runs_of s rest) = elim (cases_Bool (is_run name)) [
        | inl e ↦
            let is : here ≡ sequence_at options bytes content n i k (start_of cs) (stop_of document_start cs) ∷ [] = leaf-run-yes options bytes content n i k name (start_of cs) (stop_of document_start cs) e in
            let a : F (runs_of s (leaf_then name link cs rest)) ≡ F (run_of s cs ∷ []) + F (runs_of s rest) =
            ap (λ (x : Name). F (runs_of s (leaf_then x link cs rest))) (run-name name e) ∙ ap F (runs-run s link cs rest) ∙ f.append (run_of s cs ∷ []) (runs_of s rest) in
            let c : F (run_of s cs ∷ []) ≡ G here = one _ _ (leaf-shape s options bytes content same given held n i k cs (h.0.1 e)) ∙ ap G (sym is) in
            a ∙ ap (λ x. x + F (runs_of s rest)) c
        | inr e ↦
            let is : here ≡ [] = leaf-run-no options bytes content n i k name (start_of cs) (stop_of document_start cs) e in
            let a : F (runs_of s (leaf_then name link cs rest)) ≡ F (runs_of s rest) = ap F (runs-leaf s name link cs rest e) in
            let c : G here ≡ 0 = ap G is ∙ g.none in
            omega (arith, a, c)
      ] in
      omega (arith, r, b, sum, first)
  rows-counted (group_then name a b inside rest) n i m k h =
      let front : List Sequence = tree_runs options bytes content n (i + 1) (m + as_text name) (inner i m k name) inside in
      let back : List Sequence = tree_runs options bytes content (n + length front) (i + 2 + event_count inside) (m + as_text name + text_count inside) k rest in
      let x : in_rows inside ≡ G front = rows-counted inside n (i + 1) (m + as_text name) (inner i m k name) h.1.0 in
      let y : in_rows rest ≡ G back = rows-counted rest (n + length front) (i + 2 + event_count inside) (m + as_text name + text_count inside) k h.1.1 in
      let first : F (runs_of s (group_then name a b inside rest)) ≡ F (runs_of s rest) = ap F (runs-group s name a b inside rest) in
      let rows : sum_by F (rows_inside s (group_then name a b inside rest)) ≡ sum_by F (runs_of s inside ∷ rows_inside s inside) + sum_by F (rows_inside s rest) =
      ap (λ z. sum_by F z) (rows-group s name a b inside rest) ∙ sum_by-append F (runs_of s inside ∷ rows_inside s inside) (rows_inside s rest) in
      let own : sum_by F (runs_of s inside ∷ rows_inside s inside) ≡ F (runs_of s inside) + sum_by F (rows_inside s inside) = sum_by-cons F (runs_of s inside) (rows_inside s inside) in
      let sum : G (front ++ back) ≡ G front + G back = g.append front back in
      omega (arith, x, y, first, rows, own, sum)

  pub containers-counted : (t : Forest) → HasRuns bytes t →
      sum_by F (rows_of s t) ≡ G (tree_runs options bytes content 0 0 0 None t)
  unfolding rows_of
  containers-counted t h = sum_by-cons F (runs_of s t) (rows_inside s t) ∙ rows-counted t 0 0 0 None h

count-one : {A B : Type 0} (p : A → Bool) (q : B → Bool) (x : A) (y : B) → p x ≡ q y →
    count_by p (x ∷ []) ≡ count_by q (y ∷ [])
count-one {A} {B} p q x y e = grind (arith, length-filter)

module _ (s : Setting) (options : ParseOptions) (bytes : List ℕ) (content : List Code) (same : s.bytes ≡ bytes) (given : s.options ≡ options) (held : s.content ≡ content) (t : Forest) (h : HasRuns bytes t) where
  abbrev all_runs : List Sequence
  all_runs = tree_runs options bytes content 0 0 0 None t

  pub run-count : sum_by (λ xs. length xs) (rows_of s t) ≡ length all_runs
  run-count = containers-counted s options bytes content same given held (λ xs. length xs) (λ xs. length xs) length-adds length-adds (λ r q e. refl) t h

  pub opener-count : sum_by (count_by (λ r. r.may_open)) (rows_of s t) ≡ count_by (λ r. r.may_open) all_runs
  opener-count =
      containers-counted s options bytes content same given held (λ xs. count_by (λ r. r.may_open) xs) (λ xs. count_by (λ r. r.may_open) xs) (count-adds _) (count-adds _)
      (λ r q e. count-one (λ (x : Run). x.may_open) (λ (x : Sequence). x.may_open) r q (ap (λ (x : Shape). x.may_open) e)) t h

  pub closer-count : sum_by (count_by (λ r. r.may_close)) (rows_of s t) ≡ count_by (λ r. r.may_close) all_runs
  closer-count =
      containers-counted s options bytes content same given held (λ xs. count_by (λ r. r.may_close) xs) (λ xs. count_by (λ r. r.may_close) xs) (count-adds _) (count-adds _)
      (λ r q e. count-one (λ (x : Run). x.may_close) (λ (x : Sequence). x.may_close) r q (ap (λ (x : Shape). x.may_close) e)) t h
