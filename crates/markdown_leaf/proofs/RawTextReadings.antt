-- What the reading of a span gives, by what stands there.
use Rattle.std.proofs.Common.{◌≡◌, ℕ, ◌+◌, ◌==◌, Bool, true, false, ◌&&◌, ◌||◌, not, nat_lt, if◌then◌else◌, Option, Some, None, List, [], ◌∷◌, ◌++◌, length, refl, sym, ap, ◌∙◌, arith, append_assoc}
use Rattle.std.proofs.Math.Bool.{and-false}
use Rattle.std.proofs.lemmas.Bool.{eqb-true, and_left}
use Rattle.std.proofs.lemmas.Bool.Decides.{nat_tests}
use Rattle.std.proofs.lemmas.Grind.{common_steps}
use Rattle.markdown_content.specs.Codes.{Code, is_line_ending}
use Rattle.markdown_engine.specs.Operations.{Op, Enter, Exit, Consume}
use Rattle.markdown_engine.specs.PastTree.{TreeReading}
use Rattle.markdown_content.specs.Tree.{Forest, empty, leaf_then, ◌⊕◌, leaf, group}
use Rattle.markdown_engine.specs.TreeOps.{consumes, ops_of}
use Rattle.markdown_event.specs.declared.event.Name.{Name}
use Rattle.markdown_event.specs.declared.event.Name.TheVariants as N
use Rattle.markdown_model.specs.CodeTests.{is_value, next_is, is_empty, is_some_code}
use Rattle.markdown_model.specs.Grammar.{◌>>=◌, ◌>>◌, gives, provided, either, some, span}
use Rattle.markdown_model.specs.TextLines.{joins, stretches, line_leaf, line_leaves}
use Rattle.markdown_model.specs.LeafConstructs.{SpanNames, code_names, math_names, closing_run, closing, span_of, span_here}
use Rattle.markdown_model.proofs.GrammarSteps.{bind-some, bind-none, switched-on, switched-off, either-first, either-second, span-takes, span-none}
use Rattle.markdown_plan.proofs.FirstStretch.{stretch-alone, stretch-span}
use Rattle.markdown_plan.specs.Plan.{preceded, tree_ops, plan_of}
use Rattle.markdown_leaf.specs.RawText.{closed_ops, inside_plan, is_data, data_plan, run_naming, opens, opening_plan}
use Rattle.markdown_plan.specs.LateNames.{opened, under, preceded_by}

-- Tests.

joined-value : (a b x y : Bool) → x ≡ true → a ≡ false → (y ≡ true → b ≡ false) →
    (not (a || b) && ((x && y) || not (x || y))) ≡ y
joined-value true b x y e f g = cc
joined-value false b false y e f g = cc
joined-value false true true true e f g = sym (g refl)
joined-value false false true true e f g = refl
joined-value false true true false e f g = refl
joined-value false false true false e f g = refl

joined-data : (a b x y : Bool) → not (a || x) ≡ true → (not (a || b) && ((x && y) || not (x || y))) ≡ not (b || y)
joined-data true b x y e = cc
joined-data false b true y e = cc
joined-data false true false y e = refl
joined-data false false false true e = refl
joined-data false false false false e = refl

joined-ending : (a b x y : Bool) → a ≡ true → (not (a || b) && ((x && y) || not (x || y))) ≡ false
joined-ending true b x y e = refl
joined-ending false b x y e = cc

not-left : (a b : Bool) → not (a || b) ≡ true → a ≡ false
not-left true b e = cc
not-left false b e = refl

pub not-right : (a b : Bool) → not (a || b) ≡ true → b ≡ false
not-right true b e = cc
not-right false true e = cc
not-right false false e = refl

and-second : (a b : Bool) → a ≡ true → a && b ≡ b
and-second true b e = refl
and-second false b e = cc

-- a code of one value has no other
pub other-value : (v m n : ℕ) → (m == n) ≡ false → (v == m) ≡ true → (v == n) ≡ false
other-value v m n e h = ap (λ k. k == n) (eqb-true v m h) ∙ e

pub flipped : (a b : ℕ) → (a == b) ≡ false → (b == a) ≡ false
flipped a b e = grind (arith, common_steps)

pub one-more : (cs : List Code) (c : Code) → length (c ∷ cs) ≡ 1 + length cs
one-more cs c = omega arith

pub none-more : (n : ℕ) → n + 0 ≡ n
none-more n = omega arith

pub counted : (n : ℕ) (cs : List Code) (c : Code) → n + length (c ∷ cs) ≡ n + 1 + length cs
counted n cs c = omega arith

left-false : (a : Bool) → a && true ≡ false → a ≡ false
left-false true e = e
left-false false e = refl

-- Operations in a row.

pub preceded-twice : (xs ys : List Op) (o : Option (List Op)) → preceded xs (preceded ys o) ≡ preceded (xs ++ ys) o
preceded-twice xs ys None = refl
preceded-twice xs ys (Some os) = ap (λ os. Some os) (sym (append_assoc xs ys os))

module _ (m : ℕ) (names : SpanNames) (size : ℕ) where
  -- At the content's end no span ends.
  pub inside-none : inside_plan m names size [] ≡ None
  unfolding closing_run
  inside-none = refl

  -- A stretch that is not the closing run.

  past-leaf : (x : Name) (c : Code) (front : List Code) (ss : List (List Code)) (run : List Code) →
      line_leaf names.text None (c ∷ front) ≡ leaf_then x None (c ∷ front) empty →
      ops_of (line_leaves names.text ((c ∷ front) ∷ ss) ⊕ leaf names.sequence run) ++ Exit names.whole ∷ [] ≡ (Enter x ∷ Consume ∷ consumes front ++ Exit x ∷ []) ++ (ops_of (line_leaves names.text ss ⊕ leaf names.sequence run) ++ Exit names.whole ∷ [])
  past-leaf x c front ss run e =
      let after : Forest = line_leaves names.text ss ⊕ leaf names.sequence run in
      ap (λ t. ops_of ((t ⊕ line_leaves names.text ss) ⊕ leaf names.sequence run) ++ Exit names.whole ∷ []) e
      ∙ ap (λ os. Enter x ∷ Consume ∷ os) (append_assoc (consumes front) (Exit x ∷ ops_of after) (Exit names.whole ∷ []) ∙ sym (append_assoc (consumes front) (Exit x ∷ []) (ops_of after ++ Exit names.whole ∷ [])))

  closed-past : (x : Name) (c : Code) (front : List Code) (ss : List (List Code)) →
      line_leaf names.text None (c ∷ front) ≡ leaf_then x None (c ∷ front) empty →
      (next_is (is_value m) (c ∷ front) && length (c ∷ front) == size) ≡ false →
      closed_ops names (closing_run (is_value m) size ((c ∷ front) ∷ ss)) ≡ preceded (Enter x ∷ Consume ∷ consumes front ++ Exit x ∷ []) (closed_ops names (closing_run (is_value m) size ss))
  unfolding closing_run
  closed-past x c front ss e h =
      rw (h, closing_run) (elim (closing_run (is_value m) size ss) as (λ o. closed_ops names (elim o as (λ _. Option ((List (List Code) × List Code) × List Code)) [ None ↦ None | Some r ↦ Some (((c ∷ front) ∷ r.0.0, r.0.1), r.1) ]) ≡ preceded (Enter x ∷ Consume ∷ consumes front ++ Exit x ∷ []) (closed_ops names o)) [
        | None ↦ refl
        | Some r ↦ ap (λ os. Some os) (past-leaf x c front r.0.0 r.0.1 e)
      ])

  -- What stands inside.

  not-newline : (m == 10) ≡ false → (c : Code) → is_value m c ≡ true → is_line_ending c ≡ false
  not-newline e c h = other-value c.value m 10 e h

  pub agree-marker : (m == 10) ≡ false → (c d : Code) → is_value m c ≡ true → joins (is_value m) c d ≡ is_value m d
  agree-marker e c d h =
      joined-value (is_line_ending c) (is_line_ending d) (is_value m c) (is_value m d) h (not-newline e c h) (λ k. not-newline e d k)

  pub agree-data : (c d : Code) → is_data m names size c ≡ true → joins (is_value m) c d ≡ is_data m names size d
  agree-data c d h = joined-data (is_line_ending c) (is_line_ending d) (is_value m c) (is_value m d) h

  text-leaf : (c : Code) (front : List Code) → is_line_ending c ≡ false →
      line_leaf names.text None (c ∷ front) ≡ leaf_then names.text None (c ∷ front) empty
  text-leaf c front e = rw (e, line_leaf) refl

  ending-leaf : (c : Code) (front : List Code) → is_line_ending c ≡ true →
      line_leaf names.text None (c ∷ front) ≡ leaf_then N.LineEnding None (c ∷ front) empty
  ending-leaf c front e = rw (e, line_leaf) refl

  pub ending-alone : (c : Code) (cs : List Code) → is_line_ending c ≡ true → next_is (joins (is_value m) c) cs ≡ false
  ending-alone c [] e = refl
  ending-alone c (d ∷ ds) e = joined-ending (is_line_ending c) (is_line_ending d) (is_value m c) (is_value m d) e

  pub inside-ending : (m == 10) ≡ false → (c : Code) (cs : List Code) → is_line_ending c ≡ true →
      inside_plan m names size (c ∷ cs) ≡ preceded (Enter N.LineEnding ∷ Consume ∷ Exit N.LineEnding ∷ []) (inside_plan m names size cs)
  inside-ending e c cs h =
      let other : (10 == m) ≡ false = flipped m 10 e in
      ap (λ ss. closed_ops names (closing_run (is_value m) size ss)) (stretch-alone (is_value m) c cs (ending-alone c cs h))
      ∙ closed-past N.LineEnding c [] (stretches (is_value m) cs) (ending-leaf c [] h) (and_left (is_value m c) (length (c ∷ []) == size) (other-value c.value 10 m other h))

  pub inside-data : (c : Code) (cs : List Code) → is_data m names size c ≡ true →
      inside_plan m names size (c ∷ cs) ≡ preceded (Enter names.text ∷ Consume ∷ []) (data_plan m names size cs)
  inside-data c cs h =
      let s : List Code × List Code = span (is_data m names size) cs in
      ap (λ ss. closed_ops names (closing_run (is_value m) size ss)) (stretch-span (is_value m) (is_data m names size) (λ a b k. agree-data a b k) c cs h)
      ∙ closed-past names.text c s.0 (stretches (is_value m) s.1) (text-leaf c s.0 (not-left (is_line_ending c) (is_value m c) h)) (and_left (is_value m c) (length (c ∷ s.0) == size) (not-right (is_line_ending c) (is_value m c) h))
      ∙ sym (preceded-twice (Enter names.text ∷ Consume ∷ []) (consumes s.0 ++ Exit names.text ∷ []) (inside_plan m names size s.1))

  closed-here : (c : Code) (front : List Code) (ss : List (List Code)) →
      (next_is (is_value m) (c ∷ front) && length (c ∷ front) == size) ≡ true →
      closed_ops names (closing_run (is_value m) size ((c ∷ front) ∷ ss)) ≡ Some (Enter names.sequence ∷ Consume ∷ (consumes front ++ Exit names.sequence ∷ Exit names.whole ∷ []))
  unfolding closing_run
  closed-here c front ss h =
      rw (h, closing_run) (ap (λ os. Some (Enter names.sequence ∷ Consume ∷ os)) (append_assoc (consumes front) (Exit names.sequence ∷ []) (Exit names.whole ∷ [])))

  opened-under : (n : Name) (os : List Op) (o : Option (List Op)) →
      preceded (Enter n ∷ Consume ∷ os) o ≡ opened (preceded_by (Consume ∷ []) (under n (preceded os o)))
  opened-under n os None = refl
  opened-under n os (Some r) = refl

  pub inside-run : (m == 10) ≡ false → (c : Code) (cs : List Code) → is_value m c ≡ true →
      inside_plan m names size (c ∷ cs) ≡ opened (preceded_by (Consume ∷ []) (run_naming m names size 1 cs))
  inside-run e c cs h =
      let s : List Code × List Code = span (is_value m) cs in
      let same : (is_value m c && length (c ∷ s.0) == size) ≡ (1 + length s.0 == size) = and-second (is_value m c) (length (c ∷ s.0) == size) h ∙ ap (λ k. k == size) (one-more s.0 c) in
      ap (λ ss. closed_ops names (closing_run (is_value m) size ss)) (stretch-span (is_value m) (is_value m) (λ a b k. agree-marker e a b k) c cs h)
      ∙ elim (1 + length s.0 == size) as (λ b. (1 + length s.0 == size) ≡ b → closed_ops names (closing_run (is_value m) size ((c ∷ s.0) ∷ stretches (is_value m) s.1)) ≡ opened (preceded_by (Consume ∷ []) (if b then Some (names.sequence, consumes s.0 ++ Exit names.sequence ∷ Exit names.whole ∷ []) else under names.text (preceded (consumes s.0 ++ Exit names.text ∷ []) (inside_plan m names size s.1))))) [
        | true ↦ λ k. closed-here c s.0 (stretches (is_value m) s.1) (same ∙ k)
        | false ↦ λ k. closed-past names.text c s.0 (stretches (is_value m) s.1) (text-leaf c s.0 (not-newline e c h)) (same ∙ k) ∙ opened-under names.text (consumes s.0 ++ Exit names.text ∷ []) (inside_plan m names size s.1)
      ] refl

  -- Inside data and inside a run, by the next code.

  pub data-more : (c : Code) (cs : List Code) → is_data m names size c ≡ true →
      data_plan m names size (c ∷ cs) ≡ preceded (Consume ∷ []) (data_plan m names size cs)
  data-more c cs h =
      let s : List Code × List Code = span (is_data m names size) cs in
      ap (λ (r : List Code × List Code). preceded (consumes r.0 ++ Exit names.text ∷ []) (inside_plan m names size r.1)) (span-takes (is_data m names size) c cs h)
      ∙ sym (preceded-twice (Consume ∷ []) (consumes s.0 ++ Exit names.text ∷ []) (inside_plan m names size s.1))

  pub data-end : (cs : List Code) → next_is (is_data m names size) cs ≡ false →
      data_plan m names size cs ≡ preceded (Exit names.text ∷ []) (inside_plan m names size cs)
  data-end cs h =
      ap (λ (r : List Code × List Code). preceded (consumes r.0 ++ Exit names.text ∷ []) (inside_plan m names size r.1)) (span-none (is_data m names size) cs h)

  -- the answer after a run
  abbrev run_answer : ℕ → List Code × List Code → Option (Name × List Op)
  run_answer passed s =
      if passed + length s.0 == size
      then Some (names.sequence, consumes s.0 ++ Exit names.sequence ∷ Exit names.whole ∷ [])
      else under names.text (preceded (consumes s.0 ++ Exit names.text ∷ []) (inside_plan m names size s.1))

  answer-more : (b : Bool) (front : List Code) (o : Option (List Op)) →
      (if b then Some (names.sequence, Consume ∷ (consumes front ++ Exit names.sequence ∷ Exit names.whole ∷ [])) else under names.text (preceded (Consume ∷ (consumes front ++ Exit names.text ∷ [])) o)) ≡ preceded_by (Consume ∷ []) (if b then Some (names.sequence, consumes front ++ Exit names.sequence ∷ Exit names.whole ∷ []) else under names.text (preceded (consumes front ++ Exit names.text ∷ []) o))
  answer-more true front o = refl
  answer-more false front None = refl
  answer-more false front (Some os) = refl

  pub run-more : (passed : ℕ) (c : Code) (cs : List Code) → is_value m c ≡ true →
      run_naming m names size passed (c ∷ cs) ≡ preceded_by (Consume ∷ []) (run_naming m names size (passed + 1) cs)
  run-more passed c cs h =
      let s : List Code × List Code = span (is_value m) cs in
      ap (λ (r : List Code × List Code). run_answer passed r) (span-takes (is_value m) c cs h)
      ∙ ap (λ n. if n == size then Some (names.sequence, Consume ∷ (consumes s.0 ++ Exit names.sequence ∷ Exit names.whole ∷ [])) else under names.text (preceded (Consume ∷ (consumes s.0 ++ Exit names.text ∷ [])) (inside_plan m names size s.1))) (counted passed s.0 c)
      ∙ answer-more (passed + 1 + length s.0 == size) s.0 (inside_plan m names size s.1)

  pub run-closed : (passed : ℕ) (cs : List Code) → next_is (is_value m) cs ≡ false → (passed == size) ≡ true →
      run_naming m names size passed cs ≡ Some (names.sequence, Exit names.sequence ∷ Exit names.whole ∷ [])
  run-closed passed cs h k =
      ap (λ (r : List Code × List Code). run_answer passed r) (span-none (is_value m) cs h)
      ∙ ap (λ b. if b then Some (names.sequence, Exit names.sequence ∷ Exit names.whole ∷ []) else under names.text (preceded (Exit names.text ∷ []) (inside_plan m names size cs))) (ap (λ n. n == size) (none-more passed) ∙ k)

  pub run-other : (passed : ℕ) (cs : List Code) → next_is (is_value m) cs ≡ false → (passed == size) ≡ false →
      run_naming m names size passed cs ≡ under names.text (preceded (Exit names.text ∷ []) (inside_plan m names size cs))
  run-other passed cs h k =
      ap (λ (r : List Code × List Code). run_answer passed r) (span-none (is_value m) cs h)
      ∙ ap (λ b. if b then Some (names.sequence, Exit names.sequence ∷ Exit names.whole ∷ []) else under names.text (preceded (Exit names.text ∷ []) (inside_plan m names size cs))) (ap (λ n. n == size) (none-more passed) ∙ k)

-- Inside the opening run.
module _ (single : Bool) (m : ℕ) (names : SpanNames) where
  abbrev opening_answer : ℕ → List Code × List Code → Option (List Op)
  opening_answer passed s =
      if opens single m (passed + length s.0)
      then preceded (consumes s.0 ++ Exit names.sequence ∷ []) (inside_plan m names (passed + length s.0) s.1)
      else None

  opening-more : (b : Bool) (front : List Code) (o : Option (List Op)) →
      (if b then preceded (Consume ∷ (consumes front ++ Exit names.sequence ∷ [])) o else None) ≡ preceded (Consume ∷ []) (if b then preceded (consumes front ++ Exit names.sequence ∷ []) o else None)
  opening-more true front None = refl
  opening-more true front (Some os) = refl
  opening-more false front o = refl

  pub open-more : (passed : ℕ) (c : Code) (cs : List Code) → is_value m c ≡ true →
      opening_plan single m names passed (c ∷ cs) ≡ preceded (Consume ∷ []) (opening_plan single m names (passed + 1) cs)
  open-more passed c cs h =
      let s : List Code × List Code = span (is_value m) cs in
      ap (λ (r : List Code × List Code). opening_answer passed r) (span-takes (is_value m) c cs h)
      ∙ ap (λ n. if opens single m n then preceded (Consume ∷ (consumes s.0 ++ Exit names.sequence ∷ [])) (inside_plan m names n s.1) else None) (counted passed s.0 c)
      ∙ opening-more (opens single m (passed + 1 + length s.0)) s.0 (inside_plan m names (passed + 1 + length s.0) s.1)

  pub open-end : (passed : ℕ) (cs : List Code) → next_is (is_value m) cs ≡ false →
      opening_plan single m names passed cs ≡ (if opens single m passed then preceded (Exit names.sequence ∷ []) (inside_plan m names passed cs) else None)
  open-end passed cs h =
      ap (λ (r : List Code × List Code). opening_answer passed r) (span-none (is_value m) cs h)
      ∙ ap (λ n. if opens single m n then preceded (Exit names.sequence ∷ []) (inside_plan m names n cs) else None) (none-more passed)

-- The whole reading.

pub some-here : (p : Code → Bool) (c : Code) (cs : List Code) → p c ≡ true →
    some p (c ∷ cs) ≡ Some (c ∷ (span p cs).0, (span p cs).1)
unfolding some
some-here p c cs h =
    ap (λ (r : List Code × List Code). elim (is_empty r.0) as (λ _. Option (List Code × List Code)) [ true ↦ None | false ↦ Some r ]) (span-takes p c cs h)

pub some-none : (p : Code → Bool) (cs : List Code) → next_is p cs ≡ false → some p cs ≡ None
unfolding some
some-none p cs h =
    ap (λ (r : List Code × List Code). elim (is_empty r.0) as (λ _. Option (List Code × List Code)) [ true ↦ None | false ↦ Some r ]) (span-none p cs h)

whole-ops : (names : SpanNames) (c : Code) (front : List Code) (r : (List (List Code) × List Code) × List Code) →
    ops_of (group names.whole (leaf names.sequence (c ∷ front) ⊕ line_leaves names.text r.0.0 ⊕ leaf names.sequence r.0.1)) ≡ (Enter names.whole ∷ Enter names.sequence ∷ Consume ∷ []) ++ ((consumes front ++ Exit names.sequence ∷ []) ++ (ops_of (line_leaves names.text r.0.0 ⊕ leaf names.sequence r.0.1) ++ Exit names.whole ∷ []))
whole-ops names c front r =
    let after : List Op = ops_of (line_leaves names.text r.0.0 ⊕ leaf names.sequence r.0.1) in
    ap (λ os. Enter names.whole ∷ Enter names.sequence ∷ Consume ∷ os) (append_assoc (consumes front) (Exit names.sequence ∷ after) (Exit names.whole ∷ []) ∙ sym (append_assoc (consumes front) (Exit names.sequence ∷ []) (after ++ Exit names.whole ∷ [])))

module _ (single : Bool) (m : ℕ) (names : SpanNames) (allowed : ℕ → Bool) where
  -- past the opening run
  after-run : (c : Code) (front rest : List Code) (b : Bool) → allowed (length (c ∷ front)) ≡ b →
      tree_ops ((provided (allowed (length (c ∷ front))) >> (closing (is_value m) (length (c ∷ front)) >>= λ inside. gives (group names.whole (leaf names.sequence (c ∷ front) ⊕ line_leaves names.text inside.0 ⊕ leaf names.sequence inside.1)))) rest) ≡ preceded (Enter names.whole ∷ Enter names.sequence ∷ Consume ∷ []) (if b then preceded (consumes front ++ Exit names.sequence ∷ []) (inside_plan m names (length (c ∷ front)) rest) else None)
  unfolding gives
  after-run c front rest true h =
      ap tree_ops (switched-on _ (allowed (length (c ∷ front))) rest h)
      ∙ elim (closing (is_value m) (length (c ∷ front)) rest) as (λ o. closing (is_value m) (length (c ∷ front)) rest ≡ o → tree_ops ((closing (is_value m) (length (c ∷ front)) >>= λ inside. gives (group names.whole (leaf names.sequence (c ∷ front) ⊕ line_leaves names.text inside.0 ⊕ leaf names.sequence inside.1))) rest) ≡ preceded (Enter names.whole ∷ Enter names.sequence ∷ Consume ∷ []) (preceded (consumes front ++ Exit names.sequence ∷ []) (closed_ops names o))) [
        | None ↦ λ k. ap tree_ops (bind-none _ _ rest k)
        | Some r ↦ λ k. ap tree_ops (bind-some _ _ rest r.0 r.1 _ k refl) ∙ ap (λ os. Some os) (whole-ops names c front r)
      ] refl
  after-run c front rest false h = ap tree_ops (switched-off _ (allowed (length (c ∷ front))) rest h)

  pub span-opens : ((n : ℕ) → allowed (1 + n) ≡ opens single m (1 + n)) → (c : Code) (cs : List Code) →
      is_value m c ≡ true →
      plan_of (span_of m names allowed) (c ∷ cs) ≡ preceded (Enter names.whole ∷ Enter names.sequence ∷ Consume ∷ []) (opening_plan single m names 1 cs)
  unfolding span_of
  span-opens agree c cs h =
      let s : List Code × List Code = span (is_value m) cs in
      let same : allowed (length (c ∷ s.0)) ≡ opens single m (1 + length s.0) = ap allowed (one-more s.0 c) ∙ agree (length s.0) in
      ap tree_ops (bind-some _ _ (c ∷ cs) (c ∷ s.0) s.1 _ (some-here (is_value m) c cs h) refl)
      ∙ after-run c s.0 s.1 (opens single m (1 + length s.0)) same
      ∙ ap (λ n. preceded (Enter names.whole ∷ Enter names.sequence ∷ Consume ∷ []) (if opens single m (1 + length s.0) then preceded (consumes s.0 ++ Exit names.sequence ∷ []) (inside_plan m names n s.1) else None)) (one-more s.0 c)

  pub span-none-here : (cs : List Code) → next_is (is_value m) cs ≡ false → span_of m names allowed cs ≡ None
  unfolding span_of
  span-none-here cs h = bind-none _ _ cs (some-none (is_value m) cs h)

  -- where it is on, and behind the marker alone
  pub here-on : (on escaped : Bool) (previous : Option Code) (cs : List Code) → on ≡ true →
      (escaped || not (is_some_code (is_value m) previous)) ≡ true →
      (provided on >> span_here m names allowed escaped previous) cs ≡ span_of m names allowed cs
  unfolding span_here
  here-on on escaped previous cs e h =
      switched-on _ on cs e ∙ switched-on _ (escaped || not (is_some_code (is_value m) previous)) cs h

  pub here-off : (on escaped : Bool) (previous : Option Code) (cs : List Code) →
      (next_is (is_value m) cs && (on && (escaped || not (is_some_code (is_value m) previous)))) ≡ false →
      (provided on >> span_here m names allowed escaped previous) cs ≡ None
  unfolding span_here
  here-off false escaped previous cs h = switched-off _ false cs refl
  here-off true escaped previous cs h =
      switched-on _ true cs refl
      ∙ elim (escaped || not (is_some_code (is_value m) previous)) as (λ b. (next_is (is_value m) cs && b) ≡ false → (provided b >> span_of m names allowed) cs ≡ None) [
        | true ↦ λ k. switched-on _ true cs refl ∙ span-none-here cs (left-false (next_is (is_value m) cs) k)
        | false ↦ λ k. switched-off _ false cs refl
      ] h

math-opens : (single : Bool) (n : ℕ) → (single || nat_lt 1 (1 + n)) ≡ opens single 36 (1 + n)
math-opens true n = sym (ap not (and-false (1 + n == 1)))
math-opens false n = grind (arith, nat_tests, common_steps)

-- the readings of both kinds of span
module _ (on_code on_math single escaped : Bool) (previous : Option Code) where
  abbrev pub both : TreeReading
  both =
      either (provided on_code >> span_here 96 code_names (λ n. true) escaped previous)
      (provided on_math >> span_here 36 math_names (λ n. single || nat_lt 1 n) escaped previous)

  pub code-opens : (c : Code) (cs : List Code) → (c.value == 96) ≡ true → on_code ≡ true →
      (escaped || not (is_some_code (is_value 96) previous)) ≡ true →
      plan_of both (c ∷ cs) ≡ preceded (Enter N.CodeText ∷ Enter N.CodeTextSequence ∷ Consume ∷ []) (opening_plan single 96 code_names 1 cs)
  code-opens c cs h on free =
      ap tree_ops (either-first _ _ (c ∷ cs) (here-off single 36 math_names (λ n. single || nat_lt 1 n) on_math escaped previous (c ∷ cs) (and_left _ _ (other-value c.value 96 36 refl h)))
      ∙ here-on single 96 code_names (λ n. true) on_code escaped previous (c ∷ cs) on free)
      ∙ span-opens single 96 code_names (λ n. true) (λ n. refl) c cs h

  pub math-opens-here : (c : Code) (cs : List Code) → (c.value == 36) ≡ true → on_math ≡ true →
      (escaped || not (is_some_code (is_value 36) previous)) ≡ true →
      plan_of both (c ∷ cs) ≡ preceded (Enter N.MathText ∷ Enter N.MathTextSequence ∷ Consume ∷ []) (opening_plan single 36 math_names 1 cs)
  math-opens-here c cs h on free =
      ap tree_ops (either-second _ _ (c ∷ cs) (here-off single 96 code_names (λ n. true) on_code escaped previous (c ∷ cs) (and_left _ _ (other-value c.value 36 96 refl h)))
      ∙ here-on single 36 math_names (λ n. single || nat_lt 1 n) on_math escaped previous (c ∷ cs) on free)
      ∙ span-opens single 36 math_names (λ n. single || nat_lt 1 n) (λ n. math-opens single n) c cs h

  pub no-span : (cs : List Code) →
      (next_is (is_value 96) cs && (on_code && (escaped || not (is_some_code (is_value 96) previous)))) ≡ false →
      (next_is (is_value 36) cs && (on_math && (escaped || not (is_some_code (is_value 36) previous)))) ≡ false →
      plan_of both cs ≡ None
  no-span cs h k =
      ap tree_ops (either-second _ _ cs (here-off single 96 code_names (λ n. true) on_code escaped previous cs h)
      ∙ here-off single 36 math_names (λ n. single || nat_lt 1 n) on_math escaped previous cs k)
