-- The runs of a tree's events are those of its rows.
use Rattle.std.proofs.Common.{◌≡◌, ℕ, ◌+◌, ◌-◌, ◌<◌, ◌≤◌, Bool, true, false, cond, ◌||◌, List, ◌∷◌, ◌++◌, length, map, Option, Some, None, refl, sym, ap, subst, ◌∙◌, arith, append_assoc, append-nil, length-append, inl, inr, ◌⊎◌, []}
use Rattle.std.proofs.lemmas.Bool.{both_ways, cases_Bool, eq-eqb, ne_eqb}
use Rattle.std.proofs.lemmas.List.{map-append}
use Rattle.std.proofs.lemmas.List.Elements.{filter-append, All-append, All-nil, All-cons}
use Rattle.std.specs.Prelude.{All}
use Rattle.markdown_content.specs.declared.configuration.ParseOptions.{ParseOptions}
use Rattle.markdown_content.specs.Codes.{Code, stop_of, document_start}
use Rattle.markdown_engine.specs.PastTree.{appended_from, link_of}
use Rattle.markdown_content.specs.Tree.{Forest, empty, leaf_then, group_then, event, event_count, start_of}
use Rattle.markdown_event.specs.declared.event.Event.{Event}
use Rattle.markdown_event.specs.declared.event.Kind.TheVariants as Kind
use Rattle.markdown_event.specs.declared.event.Link.{Link}
use Rattle.markdown_event.specs.declared.event.Name.{Name}
use Rattle.markdown_event.specs.declared.event.Name.TheVariants as N
use Rattle.markdown_event.specs.declared.event.Point.{Point}
use Rattle.markdown_model.specs.Laws.{shape_of}
use Rattle.markdown_model.specs.Runs.{Run, run_of, runs_of}
use Rattle.markdown_event.specs.declared.event.Content.{Content}
use Rattle.markdown_model.specs.Setting.{Setting}
use Rattle.markdown_attention.specs.RunContainers.{whole_shape, is_in, runs_in}
use Rattle.markdown_attention.specs.RunsRead.{Container, row_around, outermost, is_run, is_text, opens_run, sequence_at, where_after, first_run, runs_from}
use Rattle.markdown_attention.specs.RunsOfTree.{HasRows, leaf_run, inner, as_text, text_count, tree_runs, texts_of, IsRun, has_run, HasRuns}
use Rattle.markdown_attention.specs.declared.attention.reading.Where.{Where}
use Rattle.markdown_attention.specs.declared.attention.runs.Sequence.{Sequence}

-- From events to the tree.

module _ (options : ParseOptions) (bytes : List ℕ) (content : List Code) where
  abbrev from : ℕ → ℕ → Where → List Event → List Sequence
  from n i w es = runs_from options bytes content n i w es

  -- an event that begins no run
  no-first : (n i : ℕ) (k : Container) (e : Event) (es : List Event) → opens_run e ≡ false →
      first_run options bytes content n i k (e ∷ es) ≡ []
  no-first n i k e [] h = refl
  no-first n i k e (x ∷ es) h = rw h refl

  passes : (n i : ℕ) (w : Where) (e : Event) (es : List Event) → opens_run e ≡ false →
      from n i w (e ∷ es) ≡ from n (i + 1) (where_after i e w) es
  passes n i w e es h = grind (arith, no-first)

  stays : (i : ℕ) (e : Event) (w : Where) → is_text e.name ≡ false → where_after i e w ≡ w
  stays i e w h = rw h refl

  leaf-runs : (n i : ℕ) (w : Where) (name : Name) (p q : Point) (link : Option Link) (es : List Event) → is_text name ≡ false
      → from n i w (record { kind = Kind.Enter; name = name; point = p; link = link } ∷ event Kind.Exit name q ∷ es)
      ≡ leaf_run options bytes content n i w.container name p q ++ from (n + length (leaf_run options bytes content n i w.container name p q)) (i + 2) w es
  leaf-runs n i w name p q link es h = grind (arith, stays, passes)

  -- with so many texts begun
  abbrev counted : ℕ → Where → Where
  counted m w = record { container = w.container; outer = w.outer; texts = m }

  -- runs, and those behind them
  behind : (here more : List Sequence) (n j j' m m' : ℕ) (w : Where) (es : List Event) → j ≡ j' → m ≡ m'
      → here ++ (more ++ from (n + length here + length more) j (counted m w) es) ≡ (here ++ more) ++ from (n + length (here ++ more)) j' (counted m' w) es
  behind here more n j j' m m' w es e u = grind (arith, length-append, append_assoc)

  within-is : (i : ℕ) (name : Name) (p : Point) (w : Where) →
      (where_after i (event Kind.Enter name p) w).container ≡ inner i w.texts w.container name
  within-is i name p w = elim (cases_Bool (is_text name)) [ inl t ↦ rw t refl | inr f ↦ rw f refl ]

  texts-within : (i : ℕ) (name : Name) (p : Point) (w : Where) →
      (where_after i (event Kind.Enter name p) w).texts ≡ w.texts + as_text name
  texts-within i name p w = elim (cases_Bool (is_text name)) [ inl t ↦ rw t refl | inr f ↦ rw f (omega arith) ]

  back-out : (i j m : ℕ) (name : Name) (p q : Point) (w : Where) →
      where_after j (event Kind.Exit name q) (counted m (where_after i (event Kind.Enter name p) w)) ≡ counted m w
  back-out i j m name p q w = elim (cases_Bool (is_text name)) [ inl t ↦ rw t refl | inr f ↦ rw f refl ]

  pub tree-runs : (t : Forest) (n i : ℕ) (previous : Option ℕ) (w : Where) (es : List Event) → HasRuns bytes t
      → from n i w (appended_from i previous t ++ es)
      ≡ tree_runs options bytes content n i w.texts w.container t ++ from (n + length (tree_runs options bytes content n i w.texts w.container t)) (i + event_count t) (counted (w.texts + text_count t) w) es
  tree-runs empty n i previous w es h = grind arith
  tree-runs (leaf_then name None cs rest) n i previous w es h =
      let here : List Sequence = leaf_run options bytes content n i w.container name (start_of cs) (stop_of document_start cs) in
      leaf-runs n i w name (start_of cs) (stop_of document_start cs) None (appended_from (i + 2) previous rest ++ es) h.0.0
      ∙ ap (λ xs. here ++ xs) (tree-runs rest (n + length here) (i + 2) previous w es h.1)
      ∙ behind here (tree_runs options bytes content (n + length here) (i + 2) w.texts w.container rest) n (i + 2 + event_count rest) (i + (2 + event_count rest)) _ _ w es (omega arith) refl
  tree-runs (leaf_then name (Some c) cs rest) n i previous w es h =
      let here : List Sequence = leaf_run options bytes content n i w.container name (start_of cs) (stop_of document_start cs) in
      leaf-runs n i w name (start_of cs) (stop_of document_start cs) (link_of previous (Some c)) (appended_from (i + 2) (Some i) rest ++ es) h.0.0
      ∙ ap (λ xs. here ++ xs) (tree-runs rest (n + length here) (i + 2) (Some i) w es h.1)
      ∙ behind here (tree_runs options bytes content (n + length here) (i + 2) w.texts w.container rest) n (i + 2 + event_count rest) (i + (2 + event_count rest)) _ _ w es (omega arith) refl
  tree-runs (group_then name enter exit inside rest) n i previous w es h =
      let a : Event = event Kind.Enter name enter in
      let c : Event = event Kind.Exit name exit in
      let w' : Where = where_after i a w in
      let front : List Event = appended_from (i + 1) None inside in
      let back : List Event = appended_from (i + 2 + event_count inside) previous rest in
      let of : ℕ → Container → List Sequence = λ m k. tree_runs options bytes content n (i + 1) m k inside in
      let k : Container = inner i w.texts w.container name in
      let m : ℕ = w.texts + as_text name in
      let past : ℕ = m + text_count inside in
      let l : ℕ = n + length (of m k) in
      let j : ℕ = i + 1 + event_count inside in
      let total : past + text_count rest ≡ w.texts + (as_text name + text_count inside + text_count rest) = omega arith in
      passes n i w a ((front ++ c ∷ back) ++ es) h.0.0
      ∙ ap (from n (i + 1) w') (append_assoc front (c ∷ back) es)
      ∙ tree-runs inside n (i + 1) None w' (c ∷ (back ++ es)) h.1.0
      ∙ (let y : ℕ → Container → List Sequence = λ m k. of m k ++ from (n + length (of m k)) j (counted (m + text_count inside) w') (c ∷ (back ++ es)) in λ z. y (texts-within i name enter w z) (within-is i name enter w z))
      ∙ ap (λ xs. of m k ++ xs) (
      passes l j (counted past w') c (back ++ es) refl
      ∙ (let e : j + 1 ≡ i + 2 + event_count inside = omega arith in λ z. from l (e z) (back-out i j past name enter exit w z) (back ++ es))
      ∙ tree-runs rest l (i + 2 + event_count inside) previous (counted past w) es h.1.1)
      ∙ behind (of m k) (tree_runs options bytes content l (i + 2 + event_count inside) past w.container rest) n (i + 2 + event_count inside + event_count rest)
      (i + (2 + event_count inside + event_count rest)) _ _ w es (omega arith) total

-- From the tree to its rows.

module _ (s : Setting) (options : ParseOptions) (bytes : List ℕ) (content : List Code) (same : s.bytes ≡ bytes) (given : s.options ≡ options) (held : s.content ≡ content) where
  abbrev runs : ℕ → ℕ → ℕ → Container → Forest → List Sequence
  runs n i m k t = tree_runs options bytes content n i m k t

  abbrev HaveWholeShapes : Forest → List Sequence → Type 0
  HaveWholeShapes t list = map shape_of (runs_of s t) ≡ map whole_shape list

  pub filters : (k : ℕ) (xs ys : List Sequence) → runs_in k (xs ++ ys) ≡ runs_in k xs ++ runs_in k ys
  filters k xs ys = filter-append (is_in k) xs ys

  pub leaf-shape : (n i : ℕ) (k : Container) (cs : List Code) → IsRun bytes cs →
      shape_of (run_of s cs) ≡ whole_shape (sequence_at options bytes content n i k (start_of cs) (stop_of document_start cs))
  unfolding run_of
  leaf-shape n i k [] h = absurd h
  leaf-shape n i k (c ∷ cs) h = grind arith

  runs-leaf : (name : Name) (link : Option Content) (cs : List Code) (rest : Forest) →
      runs_of s (leaf_then name link cs rest) ≡ cond (is_run name) (run_of s cs ∷ runs_of s rest) (runs_of s rest)
  unfolding runs_of
  runs-leaf N.AttentionSequence link cs rest = refl
  runs-leaf name link cs rest = refl

  runs-group : (name : Name) (p q : Point) (inside rest : Forest) →
      runs_of s (group_then name p q inside rest) ≡ runs_of s rest
  unfolding runs_of
  runs-group name p q inside rest = refl

  pub none-in : (t : Forest) → has_run t ≡ false → runs_of s t ≡ []
  unfolding runs_of
  none-in empty h = refl
  none-in (leaf_then name link cs rest) h =
      runs-leaf name link cs rest ∙ elim (cases_Bool (is_run name)) [
        | inl is ↦ absurd (both_ways (is_run name || has_run rest) h (rw is refl))
        | inr off ↦ rw off (none-in rest (let e : has_run rest ≡ false = (let f = h in rw off at f) in e))
      ]
  none-in (group_then name p q inside rest) h = none-in rest h

  -- a leaf's run, in a row and in others
  pub leaf-in : (n i : ℕ) (k : Container) (r : ℕ) (name : Name) (p q : Point) → row_around k ≡ r →
      runs_in r (leaf_run options bytes content n i k name p q) ≡ leaf_run options bytes content n i k name p q
  leaf-in n i k r name p q e =
      elim (cases_Bool (is_run name)) [ inl is ↦ rw (is, eq-eqb (row_around k) r e) refl | inr off ↦ rw off refl ]

  pub leaf-out : (n i : ℕ) (k : Container) (r : ℕ) (name : Name) (p q : Point) → (row_around k ≡ r → ⊥) →
      runs_in r (leaf_run options bytes content n i k name p q) ≡ []
  leaf-out n i k r name p q e =
      elim (cases_Bool (is_run name)) [ inl is ↦ rw (is, ne_eqb (row_around k) r e) refl | inr off ↦ rw off refl ]

  -- the row of what stands inside a group
  pub inner-row : (i m : ℕ) (k : Container) (name : Name)
      → ((is_text name ≡ true) × ((row_around (inner i m k name) ≡ m + 1) × (as_text name ≡ 1))) ⊎ ((is_text name ≡ false) × (inner i m k name ≡ k))
  inner-row i m k name =
      elim (cases_Bool (is_text name)) [ inl is ↦ inl (is, (rw is refl, rw is refl)) | inr off ↦ inr (off, rw off refl) ]

  -- texts have numbers of their own: no run of another row
  pub others : (t : Forest) (n i m : ℕ) (k : Container) (r : ℕ) → (row_around k ≡ r → ⊥) →
      (r ≤ m) ⊎ (m + text_count t < r) → runs_in r (runs n i m k t) ≡ []
  others empty n i m k r ne far = refl
  others (leaf_then name link cs rest) n i m k r ne far =
      let here : List Sequence = leaf_run options bytes content n i k name (start_of cs) (stop_of document_start cs) in
      filters r here _ ∙ ap (λ xs. xs ++ runs_in r (runs (n + length here) (i + 2) m k rest)) (leaf-out n i k r name (start_of cs) (stop_of document_start cs) ne)
      ∙ others rest (n + length here) (i + 2) m k r ne far
  others (group_then name p q inside rest) n i m k r ne far =
      let front : List Sequence = runs n (i + 1) (m + as_text name) (inner i m k name) inside in
      let past : ℕ = m + as_text name + text_count inside in
      let apart : row_around (inner i m k name) ≡ r → ⊥ = λ e. elim (inner-row i m k name) [
        | inl x ↦ (let y = x.1.0 in let one = x.1.1 in elim far [ inl low ↦ omega arith | inr high ↦ omega arith ])
        | inr x ↦ ne (ap row_around (sym x.1) ∙ e)
      ] in
      filters r front _
      ∙ ap (λ xs. xs ++ runs_in r (runs (n + length front) (i + 2 + event_count inside) past k rest))
      (others inside n (i + 1) (m + as_text name) (inner i m k name) r apart (elim far [ inl low ↦ inl (omega arith) | inr high ↦ inr (omega arith) ]))
      ∙ others rest (n + length front) (i + 2 + event_count inside) past k r ne (elim far [ inl low ↦ inl (omega arith) | inr high ↦ inr (omega arith) ])

  leaf-row : (b : Bool) (r : Run) (x : Sequence) (rs : List Run) (xs : List Sequence) → (b ≡ true → shape_of r ≡ whole_shape x) → map shape_of rs ≡ map whole_shape xs
      → map shape_of (cond b (r ∷ rs) rs) ≡ map whole_shape (cond b (x ∷ []) [] ++ xs)
  leaf-row true r x rs xs h next = λ z. h refl z ∷ next z
  leaf-row false r x rs xs h next = next

  -- the runs of a row, in its container
  pub row-is : (t : Forest) (n i m : ℕ) (k : Container) (r : ℕ) → HasRuns bytes t → row_around k ≡ r → r ≤ m →
      HaveWholeShapes t (runs_in r (runs n i m k t))
  unfolding runs_of
  row-is empty n i m k r h e low = refl
  row-is (leaf_then name link cs rest) n i m k r h e low =
      let p : Point = start_of cs in
      let q : Point = stop_of document_start cs in
      let here : List Sequence = leaf_run options bytes content n i k name p q in
      let more : List Sequence = runs (n + length here) (i + 2) m k rest in
      let next : HaveWholeShapes rest (runs_in r more) = row-is rest (n + length here) (i + 2) m k r h.1 e low in
      let split : runs_in r (here ++ more) ≡ here ++ runs_in r more = filters r here more ∙ ap (λ xs. xs ++ runs_in r more) (leaf-in n i k r name p q e) in
      ap (map shape_of) (runs-leaf name link cs rest)
      ∙ leaf-row (is_run name) (run_of s cs) (sequence_at options bytes content n i k p q) (runs_of s rest) (runs_in r more) (λ is. leaf-shape n i k cs (h.0.1 is)) next
      ∙ ap (map whole_shape) (sym split)
  row-is (group_then name p q inside rest) n i m k r h e low =
      let m' : ℕ = m + as_text name in
      let front : List Sequence = runs n (i + 1) m' (inner i m k name) inside in
      let l : ℕ = n + length front in
      let past : ℕ = m' + text_count inside in
      let more : List Sequence = runs l (i + 2 + event_count inside) past k rest in
      let next : HaveWholeShapes rest (runs_in r more) = row-is rest l (i + 2 + event_count inside) past k r h.1.1 e (omega arith) in
      let none : map whole_shape (runs_in r front) ≡ [] = elim (inner-row i m k name) [
        | inl x ↦ ap (map whole_shape) (others inside n (i + 1) m' (inner i m k name) r (λ y. let z = x.1.0 in omega arith) (inl (omega arith)))
        | inr x ↦ sym (row-is inside n (i + 1) m' (inner i m k name) r h.1.0 (ap row_around x.1 ∙ e) (omega arith)) ∙ ap (map shape_of) (none-in inside (h.0.1 x.0))
      ] in
      ap (map shape_of) (runs-group name p q inside rest) ∙ next
      ∙ ap (λ xs. xs ++ map whole_shape (runs_in r more)) (sym none)
      ∙ sym (map-append whole_shape (runs_in r front) (runs_in r more)) ∙ ap (map whole_shape) (sym (filters r front more))

  -- no run of these rows
  Lacks : ℕ → ℕ → List Sequence → Type 0
  Lacks low high xs = (r : ℕ) → low < r → r ≤ high → runs_in r xs ≡ []

  between : (r : ℕ) (front here back : List Sequence) → runs_in r front ≡ [] → runs_in r back ≡ [] →
      runs_in r (front ++ (here ++ back)) ≡ runs_in r here
  between r front here back f b = grind (arith, filters, append-nil)

  all-one : (P : ℕ × Forest → Type 0) (x : ℕ × Forest) (b : Bool) → (b ≡ true → P x) → All P (cond b (x ∷ []) [])
  all-one P x true h = All-cons P x [] (h refl) (All-nil P)
  all-one P x false h = All-nil P

  -- the runs of each label's text
  abbrev TextHasRuns : List Sequence → ℕ × Forest → Type 0
  TextHasRuns list text = HaveWholeShapes text.1 (runs_in (text.0 + 1) list)

  abbrev TextsHaveRuns : List Sequence → List (ℕ × Forest) → Type 0
  TextsHaveRuns list texts = All (TextHasRuns list) texts

  texts-are : (t : Forest) (n i m : ℕ) (k : Container) (front back : List Sequence) → HasRuns bytes t → row_around k ≤ m
      → Lacks m (m + text_count t) front → Lacks m (m + text_count t) back → TextsHaveRuns (front ++ (runs n i m k t ++ back)) (texts_of m t)
  unfolding Lacks
  texts-are empty n i m k front back h low f b = All-nil (TextHasRuns (front ++ back))
  texts-are (leaf_then name link cs rest) n i m k front back h low f b =
      let p : Point = start_of cs in
      let q : Point = stop_of document_start cs in
      let here : List Sequence = leaf_run options bytes content n i k name p q in
      let more : List Sequence = runs (n + length here) (i + 2) m k rest in
      let apart : front ++ ((here ++ more) ++ back) ≡ (front ++ here) ++ (more ++ back) = ap (λ xs. front ++ xs) (append_assoc here more back) ∙ sym (append_assoc front here (more ++ back)) in
      subst (λ xs. TextsHaveRuns xs (texts_of m rest)) (sym apart)
      (texts-are rest (n + length here) (i + 2) m k (front ++ here) back h.1 low
      (λ r l u. filters r front here ∙ ap (λ zs. zs ++ runs_in r here) (f r l u) ∙ leaf-out n i k r name p q (λ e. omega arith)) b)
  texts-are (group_then name p q inside rest) n i m k front back h low f b =
      let m' : ℕ = m + as_text name in
      let of : List Sequence = runs n (i + 1) m' (inner i m k name) inside in
      let l : ℕ = n + length of in
      let past : ℕ = m' + text_count inside in
      let more : List Sequence = runs l (i + 2 + event_count inside) past k rest in
      let apart : front ++ ((of ++ more) ++ back) ≡ front ++ (of ++ (more ++ back)) = ap (λ xs. front ++ xs) (append_assoc of more back) in
      let behind : (r : ℕ) → m < r → r ≤ past → runs_in r (more ++ back) ≡ [] =
      λ r l' u. filters r more back ∙ ap (λ zs. zs ++ runs_in r back) (others rest l (i + 2 + event_count inside) past k r (λ e. omega arith) (inl u)) ∙ b r (omega arith) (omega arith) in
      let first : TextsHaveRuns (front ++ (of ++ (more ++ back))) (cond (is_text name) ((m, inside) ∷ []) []) =
      all-one (TextHasRuns (front ++ (of ++ (more ++ back)))) (m, inside) (is_text name) (λ is.
      let one : as_text name ≡ 1 = rw is refl in
      row-is inside n (i + 1) m' (inner i m k name) (m + 1) h.1.0 (rw is refl) (omega arith)
      ∙ ap (map whole_shape) (sym (between (m + 1) front of (more ++ back) (f (m + 1) (omega arith) (omega arith)) (behind (m + 1) (omega arith) (omega arith))))) in
      let inner_low : row_around (inner i m k name) ≤ m' = elim (inner-row i m k name) [ inl x ↦ (let y = x.1.0 in let one = x.1.1 in omega arith) | inr x ↦ (let y = ap row_around x.1 in omega arith) ] in
      let middle : TextsHaveRuns (front ++ (of ++ (more ++ back))) (texts_of m' inside) =
      texts-are inside n (i + 1) m' (inner i m k name) front (more ++ back) h.1.0 inner_low
      (λ r l' u. f r (omega arith) (omega arith)) (λ r l' u. behind r (omega arith) u) in
      let last : TextsHaveRuns ((front ++ of) ++ (more ++ back)) (texts_of past rest) =
      texts-are rest l (i + 2 + event_count inside) past k (front ++ of) back h.1.1 (omega arith)
      (λ r l' u. filters r front of ∙ ap (λ zs. zs ++ runs_in r of) (f r (omega arith) (omega arith))
      ∙ others inside n (i + 1) m' (inner i m k name) r (λ e. omega (arith, inner_low, e)) (inr l'))
      (λ r l' u. b r (omega arith) (omega arith)) in
      let here : List (ℕ × Forest) = cond (is_text name) ((m, inside) ∷ []) [] in
      let texts : List (ℕ × Forest) = texts_of m' inside in
      let later : List (ℕ × Forest) = texts_of past rest in
      let all : List Sequence = front ++ (of ++ (more ++ back)) in
      subst (λ xs. TextsHaveRuns xs (here ++ (texts ++ later))) (sym apart)
      (All-append (TextHasRuns all) here (texts ++ later) first
      (All-append (TextHasRuns all) texts later middle (subst (λ xs. TextsHaveRuns xs later) (append_assoc front of (more ++ back)) last)))

  pub has-rows : (t : Forest) → HasRuns bytes t → HasRows s t (runs 0 0 0 None t)
  unfolding Lacks
  has-rows t h = record {
    whole = row-is t 0 0 0 None 0 h refl (omega arith);
    texts = subst (λ xs. TextsHaveRuns xs (texts_of 0 t)) (append-nil (runs 0 0 0 None t)) (texts-are t 0 0 0 None [] [] h (omega arith) (λ r l u. refl) (λ r l u. refl));
  }

-- the runs of a tree's events
pub rows-of-events : (s : Setting) (options : ParseOptions) (bytes : List ℕ) (content : List Code) → s.bytes ≡ bytes → s.options ≡ options → s.content ≡ content → (t : Forest) → HasRuns bytes t
    → (es : List Event) → es ≡ appended_from 0 None t → HasRows s t (runs_from options bytes content 0 0 outermost es)
rows-of-events s options bytes content same given held t h es e =
    let runs : List Sequence = tree_runs options bytes content 0 0 0 None t in
    let is : runs_from options bytes content 0 0 outermost es ≡ runs =
    ap (runs_from options bytes content 0 0 outermost) (e ∙ sym (append-nil _)) ∙ tree-runs options bytes content t 0 0 None outermost [] h ∙ append-nil runs in
    subst (HasRows s t) (sym is) (has-rows s options bytes content same given held t h)
