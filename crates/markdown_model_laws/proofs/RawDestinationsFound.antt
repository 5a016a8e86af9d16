-- Destinations without brackets: where their reading holds.
use Rattle.std.proofs.Common.{◌≡◌, ◌==◌, ◌⊎◌, inl, ℕ, zero, suc, ◌+◌, ◌-◌, ◌≤◌, ◌<◌, nat_lt, ◌&&◌, ◌||◌, not, Bool, true, false, if◌then◌else◌, codes, Some, None, List, [], ◌∷◌, ◌++◌, refl, sym, ap, subst, ◌∙◌, arith}
use Rattle.std.proofs.lemmas.Bool.{eqb-true, and_right, or_from, or_parts, or_right, or_left}
use Rattle.std.proofs.lemmas.Grind.{common_steps}
use Rattle.std.proofs.lemmas.Bool.Decides.{nat_tests}
use Rattle.std.specs.List.{list_any}
use Rattle.markdown_content.specs.Codes.{Code}
use Rattle.markdown_model.specs.CodeTests.{is_value, is_among, next_is, is_whitespace_code, is_control}
use Rattle.markdown_model.specs.Grammar.{with_first}
use Rattle.markdown_model.specs.Resource.{raw_from}
use Rattle.markdown_model.proofs.GrammarSteps.{and-left, and-right}
use Rattle.markdown_partial.proofs.PartialDestinationReadings.{raw-end, raw-open-end, raw-taken, raw-bare, raw-stop, raw-space, raw-control, raw-open, raw-deep, raw-close, raw-next}
use Rattle.markdown_partial.proofs.EscapedTextReadings.{Behind, first-some}
use Rattle.markdown_model_laws.specs.LinkParts.{bare_after}
use Rattle.markdown_model_laws.proofs.BoolParts.{or-parts, or-last, other}
use Rattle.markdown_model_laws.proofs.EscapedTexts.{turned, slash_after, after-last, escapes-after, taken-turned, next-turned}

abbrev one_if : Bool → ℕ
one_if b = if b then 1 else 0

-- the codes with a value that are not escaped, from the front
abbrev pub bare_from : ℕ → Bool → List Code → ℕ
bare_from n slash [] = 0
bare_from n slash (c ∷ cs) = one_if (is_value n c && not slash) + bare_from n (turned slash c) cs

pub bare-from : (n : ℕ) (slash : Bool) (before cs : List Code) → slash_after false before ≡ slash →
    bare_after n before cs ≡ bare_from n slash cs
bare-from n slash before [] e = refl
bare-from n slash before (c ∷ cs) e =
    (λ i. one_if (is_value n c && not ((escapes-after before ∙ e) i)) + bare-from n (turned slash c) (before ++ (c ∷ [])) cs (after-last false before c ∙ ap (λ b. turned b c) e) i)

abbrev parens : Code → Bool
parens c = is_among (codes "()\\") c

abbrev pub no_part : Code → Bool
no_part c = is_whitespace_code c || is_control c

-- what a raw destination ends before
abbrev pub EndsRawDestination : Bool → List Code → Type 0
EndsRawDestination slash rest =
    rest ≡ [] ⊎ (next_is is_whitespace_code rest ≡ true ⊎ (next_is (is_value 41) rest ≡ true) × (slash ≡ false))

-- the codes from here on; `slash` says that the first is escaped, and `depth` parentheses are open before it
pub record RawFrom (max : ℕ) (slash : Bool) (depth : ℕ) (text rest : List Code) : Type 0 where
  pub plain : list_any no_part text ≡ false
  pub nested : (before after : List Code) → text ≡ before ++ after →
      (bare_from 41 slash before ≤ depth + bare_from 40 slash before) × (depth + bare_from 40 slash before ≤ bare_from 41 slash before + max)
  pub balanced : depth + bare_from 40 slash text ≡ bare_from 41 slash text
  pub ends : EndsRawDestination (slash_after slash text) rest

-- Tests on values.

by-parens : (P : ℕ → Type 0) (c : Code) → parens c ≡ true → P 40 → P 41 → P 92 → P c.value
by-parens P c h p q r = grind (arith, or-parts, eqb-true, or-last)

is-paren : (c : Code) (n : ℕ) → is_value n c ≡ true → ((n == 40) || ((n == 41) || ((n == 92) || false))) ≡ true →
    parens c ≡ true
is-paren c n h k = subst (λ v. ((v == 40) || ((v == 41) || ((v == 92) || false))) ≡ true) (sym (eqb-true c.value n h)) k

slashes : (c : Code) → is_value 92 c ≡ true → parens c ≡ true
slashes c h = is-paren c 92 h refl

paren-part : (c : Code) → parens c ≡ true → no_part c ≡ false
paren-part c h = grind (arith, by-parens)

-- a code of these, where the first is escaped or not, is not escaped
not-escaped : (slash : Bool) (c : Code) → slash && parens c ≡ false → parens c ≡ true → slash ≡ false
not-escaped true c e h = cc
not-escaped false c e h = refl

counts-none : (slash : Bool) (n : ℕ) (c : Code) → slash ≡ true → one_if (is_value n c && not slash) ≡ 0
counts-none slash n c e = ap one_if (and_right (is_value n c) (not slash) (ap not e))

counts-other : (slash : Bool) (n : ℕ) (c : Code) → is_value n c ≡ false → one_if (is_value n c && not slash) ≡ 0
counts-other slash n c e = ap (λ b. one_if (b && not slash)) e

counts-one : (slash : Bool) (n : ℕ) (c : Code) → slash ≡ false → is_value n c ≡ true →
    one_if (is_value n c && not slash) ≡ 1
counts-one slash n c e h = λ i. one_if (h i && not (e i))

module _ (max : ℕ) where
  abbrev stops : ℕ → Code → Bool
  stops depth c = is_whitespace_code c || (is_value 41 c && depth == 0)

  -- one code more in front
  onto : (slash : Bool) (c : Code) (depth more : ℕ) (text rest : List Code) → no_part c ≡ false → depth ≤ max
      → depth + one_if (is_value 40 c && not slash) ≡ more + one_if (is_value 41 c && not slash) → RawFrom max (turned slash c) more text rest → RawFrom max slash depth (c ∷ text) rest
  onto slash c depth more text rest p d e r = record {
    plain = or_from (no_part c) (list_any no_part text) p r.plain;
    nested = nested;
    balanced = omega (arith, e, r.balanced);
    ends = r.ends;
  }
    where
      nested : (before after : List Code) → c ∷ text ≡ before ++ after →
          (bare_from 41 slash before ≤ depth + bare_from 40 slash before) × (depth + bare_from 40 slash before ≤ bare_from 41 slash before + max)
      nested [] after k = (omega arith, omega (arith, d))
      nested (x ∷ xs) after k = grind arith

  -- one code less
  off : (slash : Bool) (c : Code) (depth more : ℕ) (text rest : List Code)
      → depth + one_if (is_value 40 c && not slash) ≡ more + one_if (is_value 41 c && not slash) → RawFrom max slash depth (c ∷ text) rest → RawFrom max (turned slash c) more text rest
  off slash c depth more text rest e r = record {
    plain = (or_parts (no_part c) (list_any no_part text) r.plain).1;
    nested = λ before after k.
        let h : (bare_from 41 slash (c ∷ before) ≤ depth + bare_from 40 slash (c ∷ before)) × (depth + bare_from 40 slash (c ∷ before) ≤ bare_from 41 slash (c ∷ before) + max) = r.nested (c ∷ before) after (ap (λ xs. c ∷ xs) k) in
        (omega (arith, e, h.0), omega (arith, e, h.1));
    balanced = omega (arith, e, r.balanced);
    ends = r.ends;
  }

  -- a code that is not escaped is read as where nothing stands before
  plain-start : (slash : Bool) (depth : ℕ) (c : Code) (cs : List Code) → slash && parens c ≡ false →
      raw_from max slash depth (c ∷ cs) ≡ raw_from max false depth (c ∷ cs)
  plain-start true depth c cs e = raw-bare max depth c cs e
  plain-start false depth c cs e = refl

  nothing : (slash : Bool) (depth : ℕ) (rest : List Code) → (depth == 0) ≡ true → depth ≤ max → EndsRawDestination slash rest →
      RawFrom max slash depth [] rest
  nothing slash depth rest e d h = record { plain = refl; nested = nested; balanced = omega (arith, eqb-true depth 0 e); ends = h }
    where
      nested : (before after : List Code) → [] ≡ before ++ after →
          (bare_from 41 slash before ≤ depth + bare_from 40 slash before) × (depth + bare_from 40 slash before ≤ bare_from 41 slash before + max)
      nested [] after k = (omega arith, omega (arith, d))
      nested (x ∷ xs) after k = cc

  -- What the reading gives is such a text.

  abbrev pub ReadsRaw : List Code → Type 0
  ReadsRaw cs = (slash : Bool) (depth : ℕ) (r : List Code × List Code) → depth ≤ max → raw_from max slash depth cs ≡ Some r → RawFrom max slash depth r.0 r.1

  first : (slash after : Bool) (depth more : ℕ) (c : Code) (cs : List Code) (r : List Code × List Code) → with_first c (raw_from max after more cs) ≡ Some r → depth ≤ max → more ≤ max → no_part c ≡ false
      → depth + one_if (is_value 40 c && not slash) ≡ more + one_if (is_value 41 c && not slash) → turned slash c ≡ after → ReadsRaw cs → RawFrom max slash depth r.0 r.1
  first slash after depth more c cs r e d m p k t f =
      let b : Behind c (raw_from max after more cs) r = first-some c (raw_from max after more cs) r e in
      subst (λ (q : List Code × List Code). RawFrom max slash depth q.0 q.1) (sym b.is)
      (onto slash c depth more b.others.0 b.others.1 p d k (subst (λ s. RawFrom max s more b.others.0 b.others.1) (sym t) (f after more b.others m b.gives)))

  stopped : (slash : Bool) (depth : ℕ) (c : Code) (cs : List Code) → slash && parens c ≡ false → stops depth c ≡ true →
      EndsRawDestination slash (c ∷ cs)
  stopped slash depth c cs e h = grind (arith, or-parts (is_whitespace_code c) _ h, and-left, not-escaped, is-paren)

  by-tests : (t u v w x y z : Bool) (slash : Bool) (depth : ℕ) (c : Code) (cs : List Code) (r : List Code × List Code) → depth ≤ max → raw_from max slash depth (c ∷ cs) ≡ Some r → ReadsRaw cs
      → slash && parens c ≡ t → stops depth c ≡ u → is_control c ≡ v → is_value 40 c ≡ w → nat_lt depth max ≡ x → is_value 41 c ≡ y → (depth == 0) ≡ z → RawFrom max slash depth r.0 r.1
  by-tests true u v w x y z slash depth c cs r d e f t1 t2 t3 t4 t5 t6 t7 =
      let on : slash ≡ true = and-left _ _ t1 in
      let g : raw_from max slash depth (c ∷ cs) ≡ with_first c (raw_from max false depth cs) = ap (λ s. raw_from max s depth (c ∷ cs)) on ∙ raw-taken max depth c cs (and-right _ _ t1) in
      first slash false depth depth c cs r (sym g ∙ e) d d (paren-part c (and-right _ _ t1)) (λ i. depth + (counts-none slash 40 c on ∙ sym (counts-none slash 41 c on)) i) (taken-turned parens slash c t1) f
  by-tests false true v w x y true slash depth c cs r d e f t1 t2 t3 t4 t5 t6 t7 =
      let same : ([], c ∷ cs) ≡ r = (let s : Some ([], c ∷ cs) ≡ Some r = sym (plain-start slash depth c cs t1 ∙ raw-stop max depth c cs t2 t7) ∙ e in cc) in
      subst (λ (q : List Code × List Code). RawFrom max slash depth q.0 q.1) same (nothing slash depth (c ∷ cs) t7 d (stopped slash depth c cs t1 t2))
  by-tests false true v w x y false slash depth c cs r d e f t1 t2 t3 t4 t5 t6 t7 = grind (arith, plain-start, raw-space)
  by-tests false false true w x y z slash depth c cs r d e f t1 t2 t3 t4 t5 t6 t7 = grind (arith, plain-start, raw-control)
  by-tests false false false true true y z slash depth c cs r d e f t1 t2 t3 t4 t5 t6 t7 =
      let off : slash ≡ false = not-escaped slash c t1 (is-paren c 40 t4 refl) in
      let below : depth < max = grind (arith, nat_tests, common_steps) in
      first slash false depth (suc depth) c cs r (sym (plain-start slash depth c cs t1 ∙ raw-open max depth c cs t2 t3 t4 t5) ∙ e) d (omega (arith, below)) (or_from _ _ (or_parts _ _ t2).0 t3)
      (omega (arith, counts-one slash 40 c off t4, counts-other slash 41 c (other 40 41 c refl t4))) (next-turned parens slashes slash c t1 ∙ other 40 92 c refl t4) f
  by-tests false false false true false y z slash depth c cs r d e f t1 t2 t3 t4 t5 t6 t7 = grind (arith, plain-start, raw-deep)
  by-tests false false false false x true true slash depth c cs r d e f t1 t2 t3 t4 t5 t6 t7 = grind (arith, or_parts)
  by-tests false false false false x true false slash zero c cs r d e f t1 t2 t3 t4 t5 t6 t7 = cc
  by-tests false false false false x true false slash (suc n) c cs r d e f t1 t2 t3 t4 t5 t6 t7 =
      let off : slash ≡ false = not-escaped slash c t1 (is-paren c 41 t6 refl) in
      first slash false (suc n) (suc n - 1) c cs r (sym (plain-start slash (suc n) c cs t1 ∙ raw-close max (suc n) c cs t2 t3 t4 t6) ∙ e) d (omega (arith, d)) (or_from _ _ (or_parts _ _ t2).0 t3)
      (omega (arith, counts-one slash 41 c off t6, counts-other slash 40 c t4)) (next-turned parens slashes slash c t1 ∙ other 41 92 c refl t6) f
  by-tests false false false false x false z slash depth c cs r d e f t1 t2 t3 t4 t5 t6 t7 =
      first slash (c.value == 92) depth depth c cs r (sym (plain-start slash depth c cs t1 ∙ raw-next max depth c cs t2 t3 t4 t6) ∙ e) d d (or_from _ _ (or_parts _ _ t2).0 t3)
      (λ i. depth + (counts-other slash 40 c t4 ∙ sym (counts-other slash 41 c t6)) i) (next-turned parens slashes slash c t1) f

  pub raw-reads : (cs : List Code) → ReadsRaw cs
  raw-reads [] slash depth r d e = by_test (depth == 0) refl
    where
      by_test : (b : Bool) → (depth == 0) ≡ b → RawFrom max slash depth r.0 r.1
      by_test true h =
          let same : ([], []) ≡ r = (let s : Some ([], []) ≡ Some r = sym (raw-end max slash depth h) ∙ e in cc) in
          subst (λ (q : List Code × List Code). RawFrom max slash depth q.0 q.1) same (nothing slash depth [] h d (inl refl))
      by_test false h = let no : None ≡ Some r = sym (raw-open-end max slash depth h) ∙ e in cc
  raw-reads (c ∷ cs) slash depth r d e =
      by-tests (slash && parens c) (stops depth c) (is_control c) (is_value 40 c) (nat_lt depth max) (is_value 41 c) (depth == 0) slash depth c cs r d e (raw-reads cs) refl refl refl refl refl refl refl

  -- And each such text is read.

  goes-on : (after : Bool) (more : ℕ) (c : Code) (text rest : List Code) →
      raw_from max after more (text ++ rest) ≡ Some (text, rest) →
      with_first c (raw_from max after more (text ++ rest)) ≡ Some (c ∷ text, rest)
  goes-on after more c text rest e = ap (with_first c) e

  abbrev FindsRaw : List Code → List Code → Type 0
  FindsRaw text rest =
      (slash : Bool) (depth : ℕ) → RawFrom max slash depth text rest → raw_from max slash depth (text ++ rest) ≡ Some (text, rest)

  by-parts : (t w y : Bool) (slash : Bool) (depth : ℕ) (c : Code) (text rest : List Code) → RawFrom max slash depth (c ∷ text) rest → FindsRaw text rest
      → slash && parens c ≡ t → is_value 40 c ≡ w → is_value 41 c ≡ y → raw_from max slash depth (c ∷ (text ++ rest)) ≡ Some (c ∷ text, rest)
  by-parts true w y slash depth c text rest r f t1 t4 t6 =
      let on : slash ≡ true = and-left _ _ t1 in
      ap (λ s. raw_from max s depth (c ∷ (text ++ rest))) on
      ∙ raw-taken max depth c (text ++ rest) (and-right _ _ t1)
      ∙ goes-on false depth c text rest (f false depth (subst (λ s. RawFrom max s depth text rest) (taken-turned parens slash c t1) (off slash c depth depth text rest (λ i. depth + (counts-none slash 40 c on ∙ sym (counts-none slash 41 c on)) i) r)))
  by-parts false true y slash depth c text rest r f t1 t4 t6 =
      let bare : slash ≡ false = not-escaped slash c t1 (is-paren c 40 t4 refl) in
      let one : one_if (is_value 40 c && not slash) ≡ 1 = counts-one slash 40 c bare t4 in
      let none : one_if (is_value 41 c && not slash) ≡ 0 = counts-other slash 41 c (other 40 41 c refl t4) in
      let bound : depth + (one_if (is_value 40 c && not slash) + 0) ≤ (one_if (is_value 41 c && not slash) + 0) + max = (r.nested (c ∷ []) text refl).1 in
      let below : depth < max = omega (arith, one, none, bound) in
      let part : (is_whitespace_code c ≡ false) × (is_control c ≡ false) = or_parts _ _ (or_parts _ _ r.plain).0 in
      plain-start slash depth c (text ++ rest) t1
      ∙ raw-open max depth c (text ++ rest) (or_from _ _ part.0 (ap (λ b. b && depth == 0) (other 40 41 c refl t4))) part.1 t4 (is_below depth below)
      ∙ goes-on false (suc depth) c text rest (f false (suc depth) (subst (λ s. RawFrom max s (suc depth) text rest) (next-turned parens slashes slash c t1 ∙ other 40 92 c refl t4) (off slash c depth (suc depth) text rest (omega (arith, one, none)) r)))
    where
      is_below : (n : ℕ) → n < max → nat_lt n max ≡ true
      is_below n h = grind (arith, nat_tests, common_steps)
  by-parts false false true slash zero c text rest r f t1 t4 t6 =
      let bare : slash ≡ false = not-escaped slash c t1 (is-paren c 41 t6 refl) in
      let one : one_if (is_value 41 c && not slash) ≡ 1 = counts-one slash 41 c bare t6 in
      let none : one_if (is_value 40 c && not slash) ≡ 0 = counts-other slash 40 c t4 in
      let bound : one_if (is_value 41 c && not slash) + 0 ≤ 0 + (one_if (is_value 40 c && not slash) + 0) = (r.nested (c ∷ []) text refl).0 in
      absurd (omega (arith, one, none, bound))
  by-parts false false true slash (suc n) c text rest r f t1 t4 t6 =
      let bare : slash ≡ false = not-escaped slash c t1 (is-paren c 41 t6 refl) in
      let one : one_if (is_value 41 c && not slash) ≡ 1 = counts-one slash 41 c bare t6 in
      let none : one_if (is_value 40 c && not slash) ≡ 0 = counts-other slash 40 c t4 in
      let part : (is_whitespace_code c ≡ false) × (is_control c ≡ false) = or_parts _ _ (or_parts _ _ r.plain).0 in
      plain-start slash (suc n) c (text ++ rest) t1
      ∙ raw-close max (suc n) c (text ++ rest) (or_from _ _ part.0 (and_right (is_value 41 c) (suc n == 0) (not-zero n))) part.1 t4 t6
      ∙ goes-on false (suc n - 1) c text rest (f false (suc n - 1) (subst (λ s. RawFrom max s (suc n - 1) text rest) (next-turned parens slashes slash c t1 ∙ other 41 92 c refl t6) (off slash c (suc n) (suc n - 1) text rest (omega (arith, one, none)) r)))
    where
      not-zero : (n : ℕ) → (suc n == 0) ≡ false
      not-zero n = grind (arith, nat_tests, common_steps)
  by-parts false false false slash depth c text rest r f t1 t4 t6 =
      let part : (is_whitespace_code c ≡ false) × (is_control c ≡ false) = or_parts _ _ (or_parts _ _ r.plain).0 in
      plain-start slash depth c (text ++ rest) t1
      ∙ raw-next max depth c (text ++ rest) (or_from _ _ part.0 (ap (λ b. b && depth == 0) t6)) part.1 t4 t6
      ∙ goes-on (c.value == 92) depth c text rest (f (c.value == 92) depth (subst (λ s. RawFrom max s depth text rest) (next-turned parens slashes slash c t1) (off slash c depth depth text rest (λ i. depth + (counts-other slash 40 c t4 ∙ sym (counts-other slash 41 c t6)) i) r)))

  -- whitespace is no parenthesis and no backslash
  white-plain : (c : Code) → is_whitespace_code c ≡ true → parens c ≡ false
  white-plain c h = grind (arith, or_parts, paren-part)

  pub raw-found : (text rest : List Code) → FindsRaw text rest
  raw-found [] [] slash depth r = grind (arith, raw-end)
  raw-found [] (c ∷ cs) slash depth r = grind (arith, plain-start, and_right, white-plain, raw-stop, or_left, or_right)
  raw-found (c ∷ text) rest slash depth r = grind (arith, by-parts, raw-found text rest)
