-- Trailing punctuation, code by code.
use Rattle.std.proofs.Common.{◌≡◌, ℕ, zero, suc, ◌==◌, ◌≤◌, Bool, true, false, ◌&&◌, ◌||◌, not, Option, Some, None, List, [], ◌∷◌, ◌++◌, length, refl, sym, ap, ◌∙◌, arith}
use Rattle.std.specs.Prelude.{codes}
use Rattle.std.specs.List.{list_any}
use Rattle.std.proofs.lemmas.Bool.{eqb-true}
use Rattle.std.proofs.lemmas.Bool.Decides.{nat_tests}
use Rattle.std.specs.Str.{byte}
use Rattle.markdown_content.specs.Codes.{Code}
use Rattle.markdown_model.specs.CodeTests.{is_value, is_among, is_empty, next_is, is_letter, is_whitespace_code}
use Rattle.markdown_model.specs.Grammar.{Reading, one, some, span, ◌then_◌}
use Rattle.markdown_model.specs.GfmAutolinkLiteral.{trailing, ends_trail, trails_within, trails, is_space}
use Rattle.markdown_util.specs.Neighbours.{class_of, after_index}
use Rattle.std.proofs.lemmas.List.{length-append}
use Rattle.markdown_leaf_gfm.specs.Trails.{trails_in}
use Rattle.markdown_model.proofs.LeafCodes.{span-append}
use Rattle.markdown_model.proofs.GrammarSteps.{one-here, one-other, one-end, some-span, some-nothing, span-takes, span-none, then-some, then-none, then-other, either-some, either-second}

-- One code, by its value.

abbrev marks : List ℕ
marks = codes "!\"'),*.:;?_~"

abbrev all_marks : List ℕ
all_marks = codes "!\"'),*.:;?]_~"

abbrev beginnings : List ℕ
beginnings = codes "!\"&'),*.:;?]_~"

abbrev among : List ℕ → ℕ → Bool
among ns v = list_any (λ n. v == n) ns

mark-all : (v : ℕ) → among marks v ≡ true → among all_marks v ≡ true
mark-all v e = grind (arith, nat_tests)

mark-begins : (v : ℕ) → among marks v ≡ true → among beginnings v ≡ true
mark-begins v e = grind (arith, nat_tests)

mark-angle : (v : ℕ) → among marks v ≡ true → (v == 60) ≡ false
mark-angle v e = grind (arith, nat_tests)

mark-bracket : (v : ℕ) → among marks v ≡ true → (v == 93) ≡ false
mark-bracket v e = grind (arith, nat_tests)

other-all : (v : ℕ) → among marks v ≡ false → (v == 93) ≡ false → among all_marks v ≡ false
other-all v e h = grind (arith, nat_tests)

other-begins : (v : ℕ) → among marks v ≡ false → (v == 38) ≡ false → (v == 93) ≡ false → among beginnings v ≡ false
other-begins v e h k = grind (arith, nat_tests)

-- where it ends, by the value
abbrev ends_by : Bool → Bool → Bool → Bool → Bool → Bool
ends_by angle bracket shut begins space = angle || (bracket && shut) || (not begins && space)

ends-none : (a b s g w : Bool) → a ≡ false → b ≡ false → g ≡ true → ends_by a b s g w ≡ false
ends-none true b s g w e h k = cc
ends-none false true s g w e h k = cc
ends-none false false s true w e h k = refl
ends-none false false s false w e h k = cc

ends-angle : (a b s g w : Bool) → a ≡ true → ends_by a b s g w ≡ true
ends-angle true b s g w e = refl
ends-angle false b s g w e = cc

ends-bracket : (a b s g w : Bool) → a ≡ false → b ≡ true → g ≡ true → ends_by a b s g w ≡ s
ends-bracket false true true true w e h k = refl
ends-bracket false true false true w e h k = refl
ends-bracket true b s g w e h k = cc
ends-bracket false false s g w e h k = cc
ends-bracket false true true false w e h k = cc
ends-bracket false true false false w e h k = cc

ends-space : (a b s g w : Bool) → a ≡ false → b ≡ false → g ≡ false → ends_by a b s g w ≡ w
ends-space false false s false w e h k = refl
ends-space true b s g w e h k = cc
ends-space false true s g w e h k = cc
ends-space false false s true w e h k = cc

or-false : (a : Bool) → a || false ≡ a
or-false true = refl
or-false false = refl

or-true : (a : Bool) → a || true ≡ true
or-true true = refl
or-true false = refl

-- Pieces.

trailing-end : trailing [] ≡ None
unfolding trailing
trailing-end = either-second _ _ [] (one-end _) ∙ then-none _ _ [] (one-end _)

trailing-mark : (c : Code) (cs : List Code) → is_among all_marks c ≡ true → trailing (c ∷ cs) ≡ Some (c ∷ [], cs)
unfolding trailing
trailing-mark c cs e = either-some _ _ (c ∷ cs) (c ∷ [], cs) (one-here _ c cs e)

trailing-none : (c : Code) (cs : List Code) → is_among all_marks c ≡ false → (c.value == 38) ≡ false → trailing (c ∷ cs) ≡ None
unfolding trailing
trailing-none c cs e h = either-second _ _ (c ∷ cs) (one-other _ c cs e) ∙ then-none _ _ (c ∷ cs) (one-other _ c cs h)

-- what stands behind the `&` of a reference
abbrev reference : Reading (List Code)
reference = some is_letter then_ one (is_value (byte ";"))

trailing-reference : (c : Code) (cs x r : List Code) → is_among all_marks c ≡ false → (c.value == 38) ≡ true →
    reference cs ≡ Some (x, r) → trailing (c ∷ cs) ≡ Some (c ∷ x, r)
unfolding trailing
trailing-reference c cs x r e h k =
    either-second _ _ (c ∷ cs) (one-other _ c cs e) ∙ then-some (one (is_value (byte "&"))) reference (c ∷ cs) (c ∷ []) cs x r (one-here _ c cs h) k

trailing-open : (c : Code) (cs : List Code) → is_among all_marks c ≡ false → (c.value == 38) ≡ true →
    reference cs ≡ None → trailing (c ∷ cs) ≡ None
unfolding trailing
trailing-open c cs e h k =
    either-second _ _ (c ∷ cs) (one-other _ c cs e) ∙ then-other (one (is_value (byte "&"))) reference (c ∷ cs) (c ∷ []) cs (one-here _ c cs h) k

module _ (bytes : List ℕ) (end : ℕ) where
  abbrev looked : Option Bool → List Code → Bool
  looked = trails_in bytes end

  -- What stands behind a `&`.

  -- behind letters, if there are some
  abbrev closed : Bool → List Code → Bool
  closed some [] = false
  closed some (c ∷ cs) = (some && c.value == 59) && looked None cs

  abbrev behind_letters : Bool → List Code × List Code → Bool
  behind_letters seen s = closed (seen || not (is_empty s.0)) s.1

  looked-name : (seen : Bool) (cs : List Code) → looked (Some seen) cs ≡ behind_letters seen (span is_letter cs)
  unfolding trails_in
  looked-name seen [] = refl
  looked-name seen (c ∷ cs) = by_letter (is_letter c) refl (looked-name true cs)
    where
      by_letter : (b : Bool) → is_letter c ≡ b → looked (Some true) cs ≡ behind_letters true (span is_letter cs) → looked (Some seen) (c ∷ cs) ≡ behind_letters seen (span is_letter (c ∷ cs))
      by_letter true e more =
          rw (e, trails_in) refl ∙ more ∙ ap (λ b. closed b (span is_letter cs).1) (sym (or-true seen)) ∙ ap (behind_letters seen) (sym (span-takes is_letter c cs e))
      by_letter false e more =
          rw (e, trails_in) refl ∙ ap (λ b. closed b (c ∷ cs)) (sym (or-false seen)) ∙ ap (behind_letters seen) (sym (span-none is_letter (c ∷ cs) e))

  -- With so many pieces at most.

  abbrev within : ℕ → List Code → Bool
  within = trails_within bytes end

  behind : ℕ → Option (List Code × List Code) → Bool
  behind n None = false
  behind n (Some r) = within n r.1

  within-next : (n : ℕ) (cs : List Code) (ends : Bool) (o : Option (List Code × List Code)) → ends_trail bytes end cs ≡ ends →
      trailing cs ≡ o → within (suc n) cs ≡ (ends || behind n o)
  unfolding trails_within behind
  within-next n cs ends o e h = rw (e, h, trails_within) (by_option o)
    where
      by_option : (o : Option (List Code × List Code)) →
          (ends || elim o as (λ _. Bool) [ None ↦ false | Some r ↦ within n r.1 ]) ≡ (ends || behind n o)
      by_option None = refl
      by_option (Some r) = refl

  shut : List Code → Bool
  shut cs = is_empty cs || next_is (λ d. is_whitespace_code d || is_among (codes "([") d) cs

  -- so many pieces are as many as there are
  abbrev AllWithin : ℕ → Type 0
  AllWithin n = (cs : List Code) → length cs ≤ n → within n cs ≡ looked None cs

  module _ (n : ℕ) (fewer : AllWithin n) (c : Code) (cs : List Code) (few : length cs ≤ n) where
    space : Bool
    space = is_space (class_of (after_index bytes c.start.index))

    at-mark : is_among marks c ≡ true → within (suc n) (c ∷ cs) ≡ looked None (c ∷ cs)
    unfolding trails_in behind shut space
    at-mark e =
        within-next n (c ∷ cs) false (Some (c ∷ [], cs)) (ends-none (c.value == 60) (c.value == 93) (shut cs) (is_among beginnings c) space (mark-angle c.value e) (mark-bracket c.value e) (mark-begins c.value e)) (trailing-mark c cs (mark-all c.value e))
        ∙ fewer cs few ∙ sym (rw (e, trails_in) refl)

    at-bracket : is_among marks c ≡ false → c.value ≡ 93 → within (suc n) (c ∷ cs) ≡ looked None (c ∷ cs)
    unfolding trails_in behind shut space
    at-bracket e h =
        within-next n (c ∷ cs) (shut cs) (Some (c ∷ [], cs)) (ends-bracket (c.value == 60) (c.value == 93) (shut cs) (is_among beginnings c) space (ap (λ v. v == 60) h) (ap (λ v. v == 93) h) (ap (among beginnings) h)) (trailing-mark c cs (ap (among all_marks) h))
        ∙ ap (λ b. shut cs || b) (fewer cs few) ∙ sym (rw (e, ap (λ v. v == 38) h, ap (λ v. v == 60) h, ap (λ v. v == 93) h, trails_in) refl)

    at-angle : is_among marks c ≡ false → c.value ≡ 60 → within (suc n) (c ∷ cs) ≡ looked None (c ∷ cs)
    unfolding trails_in behind shut space
    at-angle e h =
        within-next n (c ∷ cs) true (trailing (c ∷ cs)) (ends-angle (c.value == 60) (c.value == 93) (shut cs) (is_among beginnings c) space (ap (λ v. v == 60) h)) refl
        ∙ sym (rw (e, ap (λ v. v == 38) h, ap (λ v. v == 60) h, trails_in) refl)

    at-other : is_among marks c ≡ false → (c.value == 38) ≡ false → (c.value == 60) ≡ false → (c.value == 93) ≡ false →
        within (suc n) (c ∷ cs) ≡ looked None (c ∷ cs)
    unfolding trails_in behind shut space
    at-other e h k l =
        within-next n (c ∷ cs) space None (ends-space (c.value == 60) (c.value == 93) (shut cs) (is_among beginnings c) space k l (other-begins c.value e h l)) (trailing-none c cs (other-all c.value e l) h)
        ∙ or-false space ∙ sym (rw (e, h, k, l, trails_in) refl)

    -- At a `&`.

    module _ (e : is_among marks c ≡ false) (h : c.value ≡ 38) where
      no-mark : is_among all_marks c ≡ false
      no-mark = ap (among all_marks) h

      ends-and : ends_trail bytes end (c ∷ cs) ≡ false
      unfolding shut space
      ends-and = ends-none (c.value == 60) (c.value == 93) (shut cs) (is_among beginnings c) space (ap (λ v. v == 60) h) (ap (λ v. v == 93) h) (ap (among beginnings) h)

      looked-and : looked None (c ∷ cs) ≡ behind_letters false (span is_letter cs)
      unfolding trails_in
      looked-and = rw (e, ap (λ v. v == 38) h, trails_in) refl ∙ looked-name false cs

      -- no reference stands here
      open-and : reference cs ≡ None → behind_letters false (span is_letter cs) ≡ false → within (suc n) (c ∷ cs) ≡ looked None (c ∷ cs)
      unfolding behind
      open-and k l =
          within-next n (c ∷ cs) false None ends-and (trailing-open c cs no-mark (ap (λ v. v == 38) h) k) ∙ sym (looked-and ∙ l)

      by-letters : (x r : List Code) → ◌≡◌ {A = List Code × List Code} (span is_letter cs) (x, r) → length r ≤ n →
          within (suc n) (c ∷ cs) ≡ looked None (c ∷ cs)
      unfolding behind
      by-letters [] r k less = open-and (then-none _ _ cs (some-nothing is_letter cs r k)) (ap (behind_letters false) k ∙ by_rest r)
        where
          by_rest : (r : List Code) → behind_letters false ([], r) ≡ false
          by_rest [] = refl
          by_rest (d ∷ ds) = refl
      by-letters (d ∷ ds) [] k less =
          open-and (then-other _ _ cs (d ∷ ds) [] (some-span is_letter cs d ds [] k) (one-end _)) (ap (behind_letters false) k)
      by-letters (d ∷ ds) (x ∷ xs) k less = by_end (x.value == 59) refl
        where
          by_end : (b : Bool) → (x.value == 59) ≡ b → within (suc n) (c ∷ cs) ≡ looked None (c ∷ cs)
          by_end true l =
              within-next n (c ∷ cs) false (Some (c ∷ (d ∷ ds) ++ x ∷ [], xs)) ends-and
              (trailing-reference c cs ((d ∷ ds) ++ x ∷ []) xs no-mark (ap (λ v. v == 38) h) (then-some _ _ cs (d ∷ ds) (x ∷ xs) (x ∷ []) xs (some-span is_letter cs d ds (x ∷ xs) k) (one-here _ x xs l)))
              ∙ fewer xs (omega (arith, less)) ∙ sym (looked-and ∙ ap (behind_letters false) k ∙ ap (λ b. b && looked None xs) l)
          by_end false l =
              open-and (then-other _ _ cs (d ∷ ds) (x ∷ xs) (some-span is_letter cs d ds (x ∷ xs) k) (one-other _ x xs l)) (ap (behind_letters false) k ∙ ap (λ b. b && looked None xs) l)

      at-and : within (suc n) (c ∷ cs) ≡ looked None (c ∷ cs)
      at-and = by-letters (span is_letter cs).0 (span is_letter cs).1 refl (omega (arith, span-fewer cs, few))
        where
          span-fewer : (cs : List Code) → length (span is_letter cs).1 ≤ length cs
          span-fewer cs = omega (arith, ap length (span-append is_letter cs), length-append (span is_letter cs).0 (span is_letter cs).1)

    at-code : within (suc n) (c ∷ cs) ≡ looked None (c ∷ cs)
    at-code =
        elim (is_among marks c) as (λ b. is_among marks c ≡ b → within (suc n) (c ∷ cs) ≡ looked None (c ∷ cs)) [
          | true ↦ λ e. at-mark e
          | false ↦ λ e. elim (c.value == 38) as (λ b. (c.value == 38) ≡ b → within (suc n) (c ∷ cs) ≡ looked None (c ∷ cs)) [
            | true ↦ λ h. at-and e (eqb-true c.value 38 h)
            | false ↦ λ h. elim (c.value == 60) as (λ b. (c.value == 60) ≡ b → within (suc n) (c ∷ cs) ≡ looked None (c ∷ cs)) [
              | true ↦ λ k. at-angle e (eqb-true c.value 60 k)
              | false ↦ λ k. elim (c.value == 93) as (λ b. (c.value == 93) ≡ b → within (suc n) (c ∷ cs) ≡ looked None (c ∷ cs)) [
                | true ↦ λ l. at-bracket e (eqb-true c.value 93 l)
                | false ↦ λ l. at-other e h k l
              ] refl
            ] refl
          ] refl
        ] refl

  within-looked : (n : ℕ) → AllWithin n
  unfolding trails_within trails_in behind
  within-looked zero [] few = refl
  within-looked zero (c ∷ cs) few = absurd (omega (arith, few))
  within-looked (suc n) [] few = within-next n [] (is_space (class_of (after_index bytes end))) None refl trailing-end ∙ or-false _
  within-looked (suc n) (c ∷ cs) few = at-code n (within-looked n) c cs (omega (arith, few))

  -- code by code it is what the pieces say
  pub trails-looked : (cs : List Code) → trails bytes end cs ≡ trails_in bytes end None cs
  unfolding trails
  trails-looked cs = within-looked (length cs) cs (omega arith)
