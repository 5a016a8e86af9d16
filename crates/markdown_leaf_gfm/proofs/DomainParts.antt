-- The last two parts of a domain, read from its front on.
use Rattle.std.proofs.Common.{◌≡◌, ℕ, zero, suc, ◌+◌, ◌-◌, ◌==◌, ◌&&◌, not, nat_lt, if◌then◌else◌, Bool, true, false, List, [], ◌∷◌, reverse, append-nil, refl, sym, ap, ◌∙◌, arith}
use Rattle.std.proofs.lemmas.Bool.Decides.{nat_tests}
use Rattle.std.proofs.lemmas.Grind.{common_steps}
use Rattle.markdown_content.specs.Codes.{Code}
use Rattle.markdown_model.specs.GfmAutolinkLiteral.{last_parts_plain}
use Rattle.markdown_model.proofs.GrammarSteps.{if-false}
use Rattle.markdown_leaf_gfm.specs.DomainScans.{dots_in, is_few, barred_with, barred_in, barred_by}
use Rattle.markdown_leaf_gfm.proofs.GfmAutolinkLiteralReadings.{turned, turned-is}

-- one code more in front, by whether it is a dot
abbrev more_dots : Bool → ℕ → ℕ
more_dots dot n = if dot then suc n else n

-- a dot is no `_`
never-both : (v : ℕ) → (v == 95) ≡ true → (v == 46) ≡ true → ⊥
never-both v e h = grind (arith, nat_tests, e, h)

-- What it says of the definition's test.

-- what the codes before ask for, where so many dots stand behind them
rest_plain : ℕ → List Code → Bool
rest_plain zero before = last_parts_plain 0 before
rest_plain (suc zero) before = last_parts_plain 1 before
rest_plain (suc (suc n)) before = true

dot-rest : (n : ℕ) (c : Code) (before : List Code) → (c.value == 46) ≡ true →
    rest_plain n (c ∷ before) ≡ rest_plain (suc n) before
unfolding rest_plain
dot-rest zero c before e = rw (e, last_parts_plain) refl
dot-rest (suc zero) c before e = rw (e, last_parts_plain) refl
dot-rest (suc (suc n)) c before e = refl

under-rest : (n : ℕ) (c : Code) (before : List Code) → (c.value == 46) ≡ false → (c.value == 95) ≡ true →
    rest_plain n (c ∷ before) ≡ not (is_few n)
unfolding rest_plain
under-rest zero c before e h = rw (e, h, last_parts_plain) refl
under-rest (suc zero) c before e h = rw (e, h, last_parts_plain) refl
under-rest (suc (suc n)) c before e h = refl

other-rest : (n : ℕ) (c : Code) (before : List Code) → (c.value == 46) ≡ false → (c.value == 95) ≡ false →
    rest_plain n (c ∷ before) ≡ rest_plain n before
unfolding rest_plain
other-rest zero c before e h = rw (e, h, last_parts_plain) refl
other-rest (suc zero) c before e h = rw (e, h, last_parts_plain) refl
other-rest (suc (suc n)) c before e h = refl

-- codes in which so much is barred, with so many dots, behind these
abbrev plain_by : ℕ → ℕ → List Code → Bool
plain_by zero n before = rest_plain n before
plain_by (suc b) n before = false

plain-dot : (b n : ℕ) (c : Code) (before : List Code) → (c.value == 46) ≡ true →
    plain_by b n (c ∷ before) ≡ plain_by (barred_with false b n) (more_dots true n) before
plain-dot zero n c before e = dot-rest n c before e
plain-dot (suc b) n c before e = refl

plain-under : (b n : ℕ) (c : Code) (before : List Code) → (c.value == 46) ≡ false → (c.value == 95) ≡ true →
    plain_by b n (c ∷ before) ≡ plain_by (barred_with true b n) (more_dots false n) before
unfolding rest_plain
plain-under zero zero c before e h = under-rest zero c before e h
plain-under zero (suc zero) c before e h = under-rest (suc zero) c before e h
plain-under zero (suc (suc n)) c before e h = refl
plain-under (suc b) n c before e h = refl

plain-other : (b n : ℕ) (c : Code) (before : List Code) → (c.value == 46) ≡ false → (c.value == 95) ≡ false →
    plain_by b n (c ∷ before) ≡ plain_by (barred_with false b n) (more_dots false n) before
plain-other zero n c before e h = other-rest n c before e h
plain-other (suc b) n c before e h = refl

plain-first : (under dot : Bool) (b n : ℕ) (c : Code) (before : List Code) → (c.value == 95) ≡ under →
    (c.value == 46) ≡ dot → plain_by b n (c ∷ before) ≡ plain_by (barred_with under b n) (more_dots dot n) before
plain-first true true b n c before e h = absurd (never-both c.value e h)
plain-first true false b n c before e h = plain-under b n c before h e
plain-first false true b n c before e h = plain-dot b n c before h
plain-first false false b n c before e h = plain-other b n c before h e

plain-turned : (cs before : List Code) →
    last_parts_plain 0 (turned cs before) ≡ plain_by (barred_in cs) (dots_in cs) before
unfolding turned rest_plain
plain-turned [] before = refl
plain-turned (c ∷ cs) before =
    plain-turned cs (c ∷ before) ∙ plain-first (c.value == 95) (c.value == 46) (barred_in cs) (dots_in cs) c before refl refl

nothing-before : (n : ℕ) → rest_plain n [] ≡ true
unfolding rest_plain
nothing-before zero = refl
nothing-before (suc zero) = refl
nothing-before (suc (suc n)) = refl

some-barred : (b : ℕ) → nat_lt 0 (suc b) ≡ true
some-barred b = grind (arith, nat_tests)

all-plain : (b n : ℕ) → not (plain_by b n []) ≡ nat_lt 0 b
all-plain zero n = ap not (nothing-before n)
all-plain (suc b) n = sym (some-barred b)

-- a domain has its last two parts plain where nothing in it is barred
pub plain-is : (cs : List Code) → not (last_parts_plain 0 (reverse cs)) ≡ nat_lt 0 (barred_in cs)
plain-is cs =
    ap (λ xs. not (last_parts_plain 0 xs)) (sym (turned-is cs [] ∙ append-nil (reverse cs)))
    ∙ ap not (plain-turned cs [])
    ∙ all-plain (barred_in cs) (dots_in cs)

-- What a walk from the front on finds.

-- where so many codes stand before, and so much is known of them
abbrev found_by : ℕ → ℕ → ℕ → ℕ → ℕ → ℕ
found_by at behind dots zero n = if nat_lt (dots + n) 2 then behind else 0
found_by at behind dots (suc b) n = at + suc b

many-dots : (d n : ℕ) → nat_lt (d + suc (suc n)) 2 ≡ false
many-dots d n = grind (arith, nat_tests, common_steps)

found-under : (at behind dots b n : ℕ) →
    found_by (suc at) (suc at) 0 b n ≡ found_by at behind dots (barred_with true b n) (more_dots false n)
found-under at behind dots (suc b) n = omega arith
found-under at behind dots zero zero = omega arith
found-under at behind dots zero (suc zero) = omega arith
found-under at behind dots zero (suc (suc n)) = if-false _ _ _ (many-dots 0 n) ∙ sym (if-false _ _ _ (many-dots dots n))

found-dot : (at behind dots b n : ℕ) →
    found_by (suc at) behind (dots + 1) b n ≡ found_by at behind dots (barred_with false b n) (more_dots true n)
found-dot at behind dots (suc b) n = omega arith
found-dot at behind dots zero n = ap (λ k. if nat_lt k 2 then behind else 0) (omega arith)

found-far : (at behind dots b n : ℕ) → nat_lt dots 2 ≡ false →
    found_by (suc at) behind dots b n ≡ found_by at behind dots (barred_with false b n) (more_dots true n)
found-far at behind dots (suc b) n e = omega arith
found-far at behind dots zero n e = if-false _ _ _ (many n e) ∙ sym (if-false _ _ _ (many (suc n) e))
  where
    many : (n : ℕ) → nat_lt dots 2 ≡ false → nat_lt (dots + n) 2 ≡ false
    many n e = grind (arith, nat_tests, common_steps, e)

found-other : (at behind dots b n : ℕ) →
    found_by (suc at) behind dots b n ≡ found_by at behind dots (barred_with false b n) (more_dots false n)
found-other at behind dots (suc b) n = omega arith
found-other at behind dots zero n = refl

abbrev behind_by : Bool → Bool → Bool → ℕ → ℕ → ℕ → ℕ × ℕ
behind_by under dot few at behind dots =
    if under then (at, 0) else (if dot && few then (behind, dots + 1) else (behind, dots))

found-first : (under dot few : Bool) (at behind dots : ℕ) (v : ℕ) (cs : List Code) → (v == 95) ≡ under →
    (v == 46) ≡ dot → nat_lt dots 2 ≡ few →
    ((a x d : ℕ) → barred_by a x d cs ≡ found_by a x d (barred_in cs) (dots_in cs)) →
    barred_by (suc at) (behind_by under dot few (suc at) behind dots).0 (behind_by under dot few (suc at) behind dots).1 cs ≡ found_by at behind dots (barred_with under (barred_in cs) (dots_in cs)) (more_dots dot (dots_in cs))
found-first true true few at behind dots v cs e h f ih = absurd (never-both v e h)
found-first true false few at behind dots v cs e h f ih =
    ih (suc at) (suc at) 0 ∙ found-under at behind dots (barred_in cs) (dots_in cs)
found-first false true true at behind dots v cs e h f ih =
    ih (suc at) behind (dots + 1) ∙ found-dot at behind dots (barred_in cs) (dots_in cs)
found-first false true false at behind dots v cs e h f ih =
    ih (suc at) behind dots ∙ found-far at behind dots (barred_in cs) (dots_in cs) f
found-first false false few at behind dots v cs e h f ih =
    ih (suc at) behind dots ∙ found-other at behind dots (barred_in cs) (dots_in cs)

found-is : (cs : List Code) (at behind dots : ℕ) →
    barred_by at behind dots cs ≡ found_by at behind dots (barred_in cs) (dots_in cs)
found-is [] at behind dots = ap (λ k. if nat_lt k 2 then behind else 0) (omega arith)
found-is (c ∷ cs) at behind dots =
    found-first (c.value == 95) (c.value == 46) (nat_lt dots 2) at behind dots c.value cs refl refl refl (λ a x d. found-is cs a x d)

-- as many codes from the front on are barred
pub front-barred : (cs : List Code) (at : ℕ) → barred_by at 0 0 cs - at ≡ barred_in cs
front-barred cs at = ap (λ k. k - at) (found-is cs at 0 0) ∙ by-barred (barred_in cs) (dots_in cs)
  where
    none-by : (few : Bool) → (if few then 0 else 0) - at ≡ 0
    none-by true = omega arith
    none-by false = omega arith

    by-barred : (b n : ℕ) → found_by at 0 0 b n - at ≡ b
    by-barred (suc b) n = omega arith
    by-barred zero n = none-by (nat_lt (0 + n) 2)

-- and one less behind the first
pub barred-past : (c : Code) (cs : List Code) → barred_in cs ≡ barred_in (c ∷ cs) - 1
barred-past c cs = one-less (c.value == 95) (barred_in cs) (dots_in cs)
  where
    by-few : (few : Bool) → 0 ≡ (if few then 1 else 0) - 1
    by-few true = refl
    by-few false = refl

    one-less : (under : Bool) (b n : ℕ) → b ≡ barred_with under b n - 1
    one-less under (suc b) n = omega arith
    one-less under zero n = by-few (under && is_few n)
