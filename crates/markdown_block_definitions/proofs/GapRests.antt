-- Whitespace between the parts of a definition.
use Rattle.std.proofs.Common.{◌≡◌, ℕ, ◌+◌, ◌≤◌, ◌<◌, refl, ap, ◌∙◌, sym, List, [], ◌∷◌, length, drop, get_or, true, false, not, Some, None, arith, drop-drop, length-drop}
use Rattle.std.specs.Prelude.{◌==◌}
use Rattle.std.proofs.lemmas.Bool.Decides.{nat_tests}
use Rattle.std.proofs.Math.ListN.{drop_of_length-le}
use Rattle.markdown_content.specs.Codes.{Code, is_blank, is_line_ending}
use Rattle.markdown_model.specs.CodeTests.{values_of, next_is, is_empty}
use Rattle.markdown_model.specs.Grammar.{provided, before, one, some, any_number, span}
use Rattle.markdown_model.specs.Whitespace.{space_or_tab_eol, spaces_across, spaces_on_line, begins_filled_line}
use Rattle.markdown_model.proofs.GrammarSteps.{any-number-is, some-span, some-nothing, provided-true, provided-false}
use Rattle.markdown_block_model.specs.LineRests.{indent}
use Rattle.markdown_block_model.specs.LinkDefinitions.{line_end}
use Rattle.markdown_block_line.proofs.RestValues.{by_bool, next-at, values-length, span-pass, span-stop}
use Rattle.markdown_block_definitions.specs.TextReadings.{left_by}
use Rattle.markdown_block_definitions.proofs.ReadingRests.{left-any, left-bind-none, left-after, left-gives, left-first, left-second, left-one, left-one-none, left-before, left-before-other, left-before-none}

span-rest : (cs : List Code) → (span is_blank cs).1 ≡ drop (indent cs) cs
span-rest [] = refl
span-rest (c ∷ cs) = by_bool (is_blank c)
    (λ (e : is_blank c ≡ true). rw (span-pass is_blank c cs e) (span-rest cs))
    (λ (e : is_blank c ≡ false). rw (span-stop is_blank c cs e) refl)

-- the blanks that stand first
left-blanks : (cs : List Code) (n : ℕ) → n ≡ indent cs → left_by (any_number is_blank cs) ≡ Some (drop n cs)
left-blanks cs n e = ap left_by (any-number-is is_blank cs) ∙ ap (λ (r : List Code). Some r) (span-rest cs ∙ ap (λ m. drop m cs) (sym e))

left-some : (cs : List Code) (n : ℕ) → n ≡ indent cs → 0 < n → left_by (some is_blank cs) ≡ Some (drop n cs)
left-some cs n e l = by_front (span is_blank cs) refl
  where
    by_front : (s : List Code × List Code) → span is_blank cs ≡ s → left_by (some is_blank cs) ≡ Some (drop n cs)
    by_front ([], rest) h = absurd (omega (arith, l, e, ap (λ (t : List Code × List Code). length t.0) h))
    by_front (c ∷ more, rest) h = ap left_by (some-span is_blank cs c more rest h) ∙ ap (λ (r : List Code). Some r) (ap (λ (t : List Code × List Code). t.1) (sym h) ∙ span-rest cs ∙ ap (λ m. drop m cs) (sym e))

left-none : (cs : List Code) (n : ℕ) → n ≡ indent cs → n ≡ 0 → left_by (some is_blank cs) ≡ None
left-none cs n e z = by_front (span is_blank cs) refl
  where
    by_front : (s : List Code × List Code) → span is_blank cs ≡ s → left_by (some is_blank cs) ≡ None
    by_front ([], rest) h = ap left_by (some-nothing is_blank cs rest h)
    by_front (c ∷ more, rest) h = absurd (omega (arith, z, e, ap (λ (t : List Code × List Code). length t.0) h))

-- Across a line ending.

module _ (cs : List Code) (n : ℕ) (is : n ≡ indent cs) where
  across-none : next_is is_line_ending (drop n cs) ≡ false → left_by (spaces_across None cs) ≡ None
  unfolding spaces_across
  across-none e = left-any (any_number is_blank) _ cs (drop n cs) None (left-blanks cs n is) (λ front. left-bind-none (one is_line_ending) _ (drop n cs) (left-one-none is_line_ending (drop n cs) e))

  on-line : next_is is_line_ending (drop n cs) ≡ false → 0 < n → left_by (spaces_on_line None cs) ≡ Some (drop n cs)
  unfolding spaces_on_line
  on-line e l = left-any (before (some is_blank) (λ cs. not (next_is is_line_ending cs))) _ cs (drop n cs) _ (left-before (some is_blank) (λ cs. not (next_is is_line_ending cs)) cs (drop n cs) (left-some cs n is l) (ap not e)) (λ blank. left-gives _ (drop n cs))

  on-line-none : n ≡ 0 → left_by (spaces_on_line None cs) ≡ None
  unfolding spaces_on_line
  on-line-none z = left-bind-none (before (some is_blank) (λ cs. not (next_is is_line_ending cs))) _ cs (left-before-none (some is_blank) (λ cs. not (next_is is_line_ending cs)) cs (left-none cs n is z))

  on-line-other : next_is is_line_ending (drop n cs) ≡ true → left_by (spaces_on_line None cs) ≡ None
  unfolding spaces_on_line
  on-line-other e = by_bool (n == 0)
      (λ (z : (n == 0) ≡ true). on-line-none (grind (arith, nat_tests, z)))
      (λ (z : (n == 0) ≡ false).
      left-bind-none (before (some is_blank) (λ cs. not (next_is is_line_ending cs))) _ cs (left-before-other (some is_blank) (λ cs. not (next_is is_line_ending cs)) cs (drop n cs) (left-some cs n is (grind (arith, nat_tests, z))) (ap not e)))

  module _ (m : ℕ) (back : m ≡ indent (drop (n + 1) cs)) (ending : next_is is_line_ending (drop n cs) ≡ true) where
    behind-ending : drop 1 (drop n cs) ≡ drop (n + 1) cs
    behind-ending = drop-drop 1 n cs

    behind-all : drop m (drop (n + 1) cs) ≡ drop (n + 1 + m) cs
    behind-all = drop-drop m (n + 1) cs

    across : begins_filled_line (drop (n + 1 + m) cs) ≡ true → left_by (spaces_across None cs) ≡ Some (drop (n + 1 + m) cs)
    unfolding spaces_across
    across e =
        left-any (any_number is_blank) _ cs (drop n cs) _ (left-blanks cs n is) λ front.
        left-any (one is_line_ending) _ (drop n cs) (drop (n + 1) cs) _ (left-one is_line_ending (drop n cs) ending ∙ ap (λ (r : List Code). Some r) behind-ending) λ ends.
        left-any (before (any_number is_blank) begins_filled_line) _ (drop (n + 1) cs) (drop (n + 1 + m) cs) _ (left-before (any_number is_blank) begins_filled_line (drop (n + 1) cs) (drop (n + 1 + m) cs) (left-blanks (drop (n + 1) cs) m back ∙ ap (λ (r : List Code). Some r) behind-all) e) λ more.
        left-gives _ (drop (n + 1 + m) cs)

    across-not : begins_filled_line (drop (n + 1 + m) cs) ≡ false → left_by (spaces_across None cs) ≡ None
    unfolding spaces_across
    across-not e =
        left-any (any_number is_blank) _ cs (drop n cs) _ (left-blanks cs n is) λ front.
        left-any (one is_line_ending) _ (drop n cs) (drop (n + 1) cs) _ (left-one is_line_ending (drop n cs) ending ∙ ap (λ (r : List Code). Some r) behind-ending) λ ends.
        left-bind-none (before (any_number is_blank) begins_filled_line) _ (drop (n + 1) cs) (left-before-other (any_number is_blank) begins_filled_line (drop (n + 1) cs) (drop (n + 1 + m) cs) (left-blanks (drop (n + 1) cs) m back ∙ ap (λ (r : List Code). Some r) behind-all) e)

    pub gap-across : begins_filled_line (drop (n + 1 + m) cs) ≡ true → left_by (space_or_tab_eol None cs) ≡ Some (drop (n + 1 + m) cs)
    unfolding space_or_tab_eol
    gap-across e = left-first (spaces_across None) (spaces_on_line None) cs (drop (n + 1 + m) cs) (across e)

    pub gap-not : begins_filled_line (drop (n + 1 + m) cs) ≡ false → left_by (space_or_tab_eol None cs) ≡ None
    unfolding space_or_tab_eol
    gap-not e = left-second (spaces_across None) (spaces_on_line None) cs None (across-not e) (on-line-other ending)

  pub gap-line : next_is is_line_ending (drop n cs) ≡ false → 0 < n → left_by (space_or_tab_eol None cs) ≡ Some (drop n cs)
  unfolding space_or_tab_eol
  gap-line e l = left-second (spaces_across None) (spaces_on_line None) cs (Some (drop n cs)) (across-none e) (on-line e l)

  pub gap-none : next_is is_line_ending (drop n cs) ≡ false → n ≡ 0 → left_by (space_or_tab_eol None cs) ≡ None
  unfolding space_or_tab_eol
  gap-none e z = left-second (spaces_across None) (spaces_on_line None) cs None (across-none e) (on-line-none z)

  -- The end of the line.

  pub ends-line : next_is is_line_ending (drop n cs) ≡ true → left_by (line_end cs) ≡ Some (drop (n + 1) cs)
  unfolding line_end
  ends-line e =
      left-after (any_number is_blank) _ cs (drop n cs) _ (left-blanks cs n is)
      (left-first (one is_line_ending) (λ cs. provided (is_empty cs) cs) (drop n cs) _ (left-one is_line_ending (drop n cs) e ∙ ap (λ (r : List Code). Some r) (drop-drop 1 n cs)))

  pub ends-text : next_is is_line_ending (drop n cs) ≡ false → is_empty (drop n cs) ≡ true → left_by (line_end cs) ≡ Some (drop n cs)
  unfolding line_end
  ends-text e z =
      left-after (any_number is_blank) _ cs (drop n cs) _ (left-blanks cs n is)
      (left-second (one is_line_ending) (λ cs. provided (is_empty cs) cs) (drop n cs) _ (left-one-none is_line_ending (drop n cs) e) (ap left_by (provided-true (is_empty (drop n cs)) (drop n cs) z)))

  pub ends-not : next_is is_line_ending (drop n cs) ≡ false → is_empty (drop n cs) ≡ false → left_by (line_end cs) ≡ None
  unfolding line_end
  ends-not e z =
      left-after (any_number is_blank) _ cs (drop n cs) _ (left-blanks cs n is)
      (left-second (one is_line_ending) (λ cs. provided (is_empty cs) cs) (drop n cs) _ (left-one-none is_line_ending (drop n cs) e) (ap left_by (provided-false (is_empty (drop n cs)) (drop n cs) z)))

-- whether a line goes on at a place
pub filled-at : (cs : List Code) (vs : List ℕ) (k d : ℕ) → values_of cs ≡ vs → k < length vs → begins_filled_line (drop k cs) ≡ not (get_or vs k d == 10)
filled-at cs vs k d h l = by_first (drop k cs) refl
  where
    by_first : (ds : List Code) → drop k cs ≡ ds → begins_filled_line ds ≡ not (get_or vs k d == 10)
    by_first [] e = absurd (omega (arith, l, ap length h, values-length cs, ap length e, length-drop k cs))
    by_first (c ∷ ds) e = ap not (ap (next_is is_line_ending) (sym e) ∙ next-at (λ v. v == 10) cs vs k d h l)

pub filled-end : (cs : List Code) (vs : List ℕ) (k : ℕ) → values_of cs ≡ vs → length vs ≤ k → begins_filled_line (drop k cs) ≡ false
filled-end cs vs k h l = ap begins_filled_line (drop_of_length-le cs (omega (arith, l, ap length h, values-length cs)))

pub empty-end : (cs : List Code) (vs : List ℕ) (k : ℕ) → values_of cs ≡ vs → k ≡ length vs → is_empty (drop k cs) ≡ true
empty-end cs vs k h e = ap is_empty (drop_of_length-le cs (omega (arith, e, ap length h, values-length cs)))

pub empty-not : (cs : List Code) (vs : List ℕ) (k : ℕ) → values_of cs ≡ vs → k < length vs → is_empty (drop k cs) ≡ false
empty-not cs vs k h l = by_first (drop k cs) refl
  where
    by_first : (ds : List Code) → drop k cs ≡ ds → is_empty ds ≡ false
    by_first [] e = absurd (omega (arith, l, ap length h, values-length cs, ap length e, length-drop k cs))
    by_first (c ∷ ds) e = refl

pub ends-here : (cs : List Code) (vs : List ℕ) (k d : ℕ) → values_of cs ≡ vs → k < length vs → get_or vs k d ≡ 10 → begins_filled_line (drop k cs) ≡ false
ends-here cs vs k d h l e = filled-at cs vs k d h l ∙ grind (arith, nat_tests, e)

pub goes-on : (cs : List Code) (vs : List ℕ) (k d : ℕ) → values_of cs ≡ vs → k < length vs → (get_or vs k d ≡ 10 → ⊥) → begins_filled_line (drop k cs) ≡ true
goes-on cs vs k d h l e = filled-at cs vs k d h l ∙ other (get_or vs k d) e
  where
    other : (v : ℕ) → (v ≡ 10 → ⊥) → not (v == 10) ≡ true
    other v e = grind (arith, nat_tests, e)
