-- What codes say: a tab is a tab, and not its columns.
use Rattle.std.proofs.Common.{◌≡◌, ℕ, suc, ◌+◌, ◌≤◌, ◌<◌, refl, ap, ◌∙◌, sym, List, [], ◌∷◌, ◌++◌, length, take, drop, get_or, Bool, true, false, not, nat_lt, ◌==◌, arith, if◌then◌else◌, append_assoc, append-nil}
use Rattle.std.proofs.lemmas.Bool.Decides.{nat_tests}
use Rattle.std.proofs.Math.Seq.{take-add}
use Rattle.std.proofs.Math.ListN.{drop_of_length-le}
use Rattle.markdown_content.specs.Codes.{Code}
use Rattle.markdown_model.specs.CodeTests.{values_of}
use Rattle.markdown_model.specs.Grammar.{span}
use Rattle.markdown_page_model.specs.PageTexts.{is_later_column, text_of}
use Rattle.markdown_block_line.proofs.RestValues.{values-length}
use Rattle.markdown_block_definitions.specs.TextReadings.{is_first, firsts_of, first_columns}
use Rattle.markdown_block_definitions.proofs.CodesAt.{by-both}
use Rattle.markdown_block_definitions.proofs.TextPushes.{values-append}

later : (n : ℕ) → (n == 0) ≡ false → nat_lt 0 n ≡ true
later n e = grind (arith, nat_tests, e)

not-later : (n : ℕ) → (n == 0) ≡ true → nat_lt 0 n ≡ false
not-later n e = grind (arith, nat_tests, e)

-- one code more, by whether it is a later column
abbrev said_with : Bool → Code → List Code → List ℕ
said_with b c cs =
    let s : List Code × List Code = elim b as (λ _. List Code × List Code) [ true ↦ let r = span is_later_column cs in (c ∷ r.0, r.1) | false ↦ ([], c ∷ cs) ] in
    values_of s.0 ++ values_of (first_columns s.1)

said-later : (c : Code) (cs : List Code) → is_first c ≡ false → text_of (c ∷ cs) ≡ c.value ∷ text_of cs
said-later c cs e = ap (λ b. said_with b c cs) (later c.start.vs e)

said-first : (c : Code) (cs : List Code) → is_first c ≡ true → text_of (c ∷ cs) ≡ values_of (first_columns (c ∷ cs))
said-first c cs e = ap (λ b. said_with b c cs) (not-later c.start.vs e)

firsts-length : (cs : List Code) → length (firsts_of cs) ≡ length (values_of cs)
firsts-length [] = refl
firsts-length (c ∷ cs) = ap suc (firsts-length cs)

module _ (cs : List Code) (bs : List Bool) (k : ℕ) (e : Bool) (b : firsts_of cs ≡ bs) where
  in-values : k < length bs → k < length (values_of cs)
  in-values l = omega (arith, l, ap length b, firsts-length cs)

  pub said-more : k < length bs → get_or bs k e ≡ false → text_of cs ≡ values_of (take k cs) ++ text_of (drop k cs) → text_of cs ≡ values_of (take (k + 1) cs) ++ text_of (drop (k + 1) cs)
  said-more l f h = by-both cs (values_of cs) bs k 0 e refl b (in-values l) (λ c i v w.
      let rest = drop (k + 1) cs in
      let front : values_of (take (k + 1) cs) ≡ values_of (take k cs) ++ c.value ∷ [] =
      ap values_of (take-add k 1 cs ∙ ap (λ xs. take k cs ++ take 1 xs) i) ∙ values-append (take k cs) (c ∷ []) in
      h ∙ ap (λ xs. values_of (take k cs) ++ text_of xs) i ∙ ap (λ ts. values_of (take k cs) ++ ts) (said-later c rest (w ∙ f))
      ∙ sym (append_assoc (values_of (take k cs)) (c.value ∷ []) (text_of rest)) ∙ ap (λ vs. vs ++ text_of rest) (sym front))

  pub said-stops : k < length bs → get_or bs k e ≡ true → text_of (drop k cs) ≡ values_of (first_columns (drop k cs))
  said-stops l f = by-both cs (values_of cs) bs k 0 e refl b (in-values l) (λ c i v w.
      ap text_of i ∙ said-first c (drop (k + 1) cs) (w ∙ f) ∙ sym (ap (λ xs. values_of (first_columns xs)) i))

  pub said-over : length bs ≤ k → text_of (drop k cs) ≡ values_of (first_columns (drop k cs))
  said-over l =
      let none : drop k cs ≡ [] = drop_of_length-le cs (omega (arith, l, ap length b, firsts-length cs, values-length cs)) in
      ap text_of none ∙ sym (ap (λ xs. values_of (first_columns xs)) none)

first-append : (xs ys : List Code) → first_columns (xs ++ ys) ≡ first_columns xs ++ first_columns ys
first-append [] ys = refl
first-append (x ∷ xs) ys = by_test (not (is_later_column x)) (first-append xs ys)
  where
    by_test : (b : Bool) → first_columns (xs ++ ys) ≡ first_columns xs ++ first_columns ys
        → (if b then x ∷ first_columns (xs ++ ys) else first_columns (xs ++ ys)) ≡ (if b then x ∷ first_columns xs else first_columns xs) ++ first_columns ys
    by_test true h = ap (λ zs. x ∷ zs) h
    by_test false h = h

pub firsts-pushed : (cs : List Code) (vs : List ℕ) (bs : List Bool) (k d : ℕ) (e : Bool) (t0 t1 s : List ℕ) → values_of cs ≡ vs → firsts_of cs ≡ bs → k < length vs
    → t1 ≡ (if get_or bs k e then t0 ++ get_or vs k d ∷ [] else t0) → t0 ≡ s ++ values_of (first_columns (take k cs)) → t1 ≡ s ++ values_of (first_columns (take (k + 1) cs))
firsts-pushed cs vs bs k d e t0 t1 s h b l p i = by-both cs vs bs k d e h b l (λ c j v w.
    let front : first_columns (take (k + 1) cs) ≡ first_columns (take k cs) ++ first_columns (c ∷ []) =
    ap first_columns (take-add k 1 cs ∙ ap (λ xs. take k cs ++ take 1 xs) j) ∙ first-append (take k cs) (c ∷ []) in
    let before = values_of (first_columns (take k cs)) in
    p ∙ ap (λ (t : List ℕ). if get_or bs k e then t ++ get_or vs k d ∷ [] else t) i ∙ by_first c (get_or bs k e) w before (get_or vs k d) v
    ∙ ap (λ ts. s ++ ts) (sym (ap values_of front ∙ values-append (first_columns (take k cs)) (first_columns (c ∷ [])))))
  where
    one : (c : Code) (f : Bool) → is_first c ≡ f → first_columns (c ∷ []) ≡ (if f then c ∷ [] else [])
    one c true w = ap (λ x. if not x then c ∷ [] else []) (not-later c.start.vs w)
    one c false w = ap (λ x. if not x then c ∷ [] else []) (later c.start.vs w)

    by_first : (c : Code) (f : Bool) → is_first c ≡ f → (before : List ℕ) (v : ℕ) → c.value ≡ v → (if f then (s ++ before) ++ v ∷ [] else s ++ before) ≡ s ++ (before ++ values_of (first_columns (c ∷ [])))
    by_first c true w before v j = append_assoc s before (v ∷ []) ∙ ap (λ n. s ++ (before ++ n ∷ [])) (sym j) ∙ ap (λ xs. s ++ (before ++ values_of xs)) (sym (one c true w))
    by_first c false w before v j = ap (λ ts. s ++ ts) (sym (append-nil before)) ∙ ap (λ xs. s ++ (before ++ values_of xs)) (sym (one c false w))
