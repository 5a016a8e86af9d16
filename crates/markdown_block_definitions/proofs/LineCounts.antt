-- Lines that are filled, and characters, from the values of codes.
use Rattle.std.proofs.Common.{◌≡◌, ℕ, ◌+◌, ◌≤◌, ◌<◌, refl, ap, ◌∙◌, sym, List, ◌∷◌, length, drop, get_or, Bool, true, false, ◌&&◌, not, arith}
use Rattle.std.specs.Prelude.{◌==◌, if◌then◌else◌}
use Rattle.std.proofs.lemmas.Bool.Decides.{nat_tests}
use Rattle.std.proofs.Math.ListN.{drop_of_length-le}
use Rattle.markdown_content.specs.Codes.{Code, is_blank, is_line_ending}
use Rattle.markdown_content.specs.Content.{has_no_blank_line}
use Rattle.markdown_model.specs.CodeTests.{values_of, is_between}
use Rattle.markdown_model.specs.Resource.{counted, begins_character}
use Rattle.markdown_block_line.specs.LineValues.{is_blank_value}
use Rattle.markdown_block_line.proofs.RestValues.{values-length}
use Rattle.markdown_block_definitions.specs.TextReadings.{is_first, firsts_of}
use Rattle.markdown_block_definitions.proofs.CodesAt.{by-code, by-both}

ending : (c : Code) (v : ℕ) → c.value ≡ v → v ≡ 10 → is_line_ending c ≡ true
ending c v i e = ap (λ n. n == 10) (i ∙ e)

no-ending : (c : Code) (v : ℕ) → c.value ≡ v → (v ≡ 10 → ⊥) → is_line_ending c ≡ false
no-ending c v i e = ap (λ n. n == 10) i ∙ other v e
  where
    other : (v : ℕ) → (v ≡ 10 → ⊥) → (v == 10) ≡ false
    other v e = grind (arith, nat_tests, e)

-- Lines.

pub blank-ends : (filled : Bool) (v : ℕ) (c : Code) (cs : List Code) → c.value ≡ v → v ≡ 10 → filled ≡ false → has_no_blank_line filled (c ∷ cs) ≡ false
blank-ends true v c cs i e f = absurd (grind (arith, f))
blank-ends false v c cs i e f = let x : is_line_ending c ≡ true = ending c v i e in rw (x, has_no_blank_line) refl

pub filled-ends : (filled : Bool) (v : ℕ) (c : Code) (cs : List Code) → c.value ≡ v → v ≡ 10 → filled ≡ true → has_no_blank_line filled (c ∷ cs) ≡ has_no_blank_line false cs
filled-ends false v c cs i e f = absurd (grind (arith, f))
filled-ends true v c cs i e f = let x : is_line_ending c ≡ true = ending c v i e in rw (x, has_no_blank_line) refl

pub filled-stays : (filled : Bool) (v : ℕ) (c : Code) (cs : List Code) → c.value ≡ v → (v ≡ 10 → ⊥) → filled ≡ true → has_no_blank_line filled (c ∷ cs) ≡ has_no_blank_line true cs
filled-stays false v c cs i e f = absurd (grind (arith, f))
filled-stays true v c cs i e f = let x : is_line_ending c ≡ false = no-ending c v i e in rw (x, has_no_blank_line) refl

pub blank-goes : (filled b : Bool) (v : ℕ) (c : Code) (cs : List Code) → c.value ≡ v → (v ≡ 10 → ⊥) → filled ≡ false → b ≡ is_blank_value v → has_no_blank_line filled (c ∷ cs) ≡ has_no_blank_line (not b) cs
blank-goes true b v c cs i e f g = absurd (grind (arith, f))
blank-goes false b v c cs i e f g =
    let x : is_line_ending c ≡ false = no-ending c v i e in
    let y : is_blank c ≡ b = ap is_blank_value i ∙ sym g in
    rw (x, has_no_blank_line) (ap (λ w. has_no_blank_line (not w) cs) y)

module _ (filled : Bool) (cs : List Code) (vs : List ℕ) (k d : ℕ) (h : values_of cs ≡ vs) where
  pub line-goes : (now : Bool) → k < length vs → ((c : Code) (ds : List Code) → c.value ≡ get_or vs k d → has_no_blank_line filled (c ∷ ds) ≡ has_no_blank_line now ds) → has_no_blank_line filled (drop k cs) ≡ has_no_blank_line now (drop (k + 1) cs)
  line-goes now l f = by-code cs vs k d h l (λ c e v. ap (has_no_blank_line filled) e ∙ f c (drop (k + 1) cs) v)

  pub line-blank : k < length vs → ((c : Code) (ds : List Code) → c.value ≡ get_or vs k d → has_no_blank_line filled (c ∷ ds) ≡ false) → has_no_blank_line filled (drop k cs) ≡ false
  line-blank l f = by-code cs vs k d h l (λ c e v. ap (has_no_blank_line filled) e ∙ f c (drop (k + 1) cs) v)

  pub line-over : length vs ≤ k → has_no_blank_line filled (drop k cs) ≡ filled
  line-over l = ap (has_no_blank_line filled) (drop_of_length-le cs (omega (arith, l, ap length h, values-length cs)))

-- Characters.

pub counts-ending : (indented : Bool) (v : ℕ) (c : Code) (cs : List Code) → c.value ≡ v → v ≡ 10 → counted true indented (c ∷ cs) ≡ 1 + counted true true cs
counts-ending indented v c cs i e = let x : is_line_ending c ≡ true = ending c v i e in rw (x, counted) refl

module _ (indented : Bool) (v : ℕ) (c : Code) (cs : List Code) (i : c.value ≡ v) (e : v ≡ 10 → ⊥) where
  pub counts-indent : (indented && is_blank_value v) ≡ true → counted true indented (c ∷ cs) ≡ 0 + counted true true cs
  counts-indent f =
      let x : is_line_ending c ≡ false = no-ending c v i e in
      let y : (indented && is_blank c) ≡ true = ap (λ n. indented && is_blank_value n) i ∙ f in
      let z : counted true indented (c ∷ cs) ≡ counted true true cs = rw (x, y, counted) refl in
      omega (arith, z)

  counts-other : (indented && is_blank_value v) ≡ false → (b : Bool) → begins_character c ≡ b → counted true indented (c ∷ cs) ≡ (if b then 1 else 0) + counted true false cs
  counts-other f b g =
      let x : is_line_ending c ≡ false = no-ending c v i e in
      let y : (indented && is_blank c) ≡ false = ap (λ n. indented && is_blank_value n) i ∙ f in
      rw (x, y, counted) (ap (λ w. (if w then 1 else 0) + counted true false cs) g)

  pub counts-one : (b : Bool) → (indented && is_blank_value v) ≡ false → begins_character c ≡ b → b ≡ true → counted true indented (c ∷ cs) ≡ 1 + counted true false cs
  counts-one b f g t = counts-other f true (g ∙ t)

  pub counts-none : (b : Bool) → (indented && is_blank_value v) ≡ false → begins_character c ≡ b → b ≡ false → counted true indented (c ∷ cs) ≡ 0 + counted true false cs
  counts-none b f g t = counts-other f false (g ∙ t)

pub character-is : (c : Code) (v : ℕ) (b : Bool) → c.value ≡ v → is_first c ≡ b → begins_character c ≡ (not (is_between 128 191 v) && b)
character-is c v b i e = ap (λ n. not (is_between 128 191 n) && is_first c) i ∙ ap (λ x. not (is_between 128 191 v) && x) e

pub count-more : (cs : List Code) (vs : List ℕ) (bs : List Bool) (k d n m : ℕ) (e i j : Bool) → values_of cs ≡ vs → firsts_of cs ≡ bs → k < length vs
    → ((c : Code) (ds : List Code) → c.value ≡ get_or vs k d → is_first c ≡ get_or bs k e → counted true i (c ∷ ds) ≡ m + counted true j ds)
    → counted true false cs ≡ n + counted true i (drop k cs) → counted true false cs ≡ n + m + counted true j (drop (k + 1) cs)
count-more cs vs bs k d n m e i j h b l f g = by-both cs vs bs k d e h b l (λ c x v w.
    let y : counted true i (drop k cs) ≡ m + counted true j (drop (k + 1) cs) = ap (counted true i) x ∙ f c (drop (k + 1) cs) v w in
    omega (arith, g, y))

pub count-over : (cs : List Code) (vs : List ℕ) (k n : ℕ) (i : Bool) → values_of cs ≡ vs → length vs ≤ k → counted true false cs ≡ n + counted true i (drop k cs) → counted true false cs ≡ n
count-over cs vs k n i h l g =
    let x : counted true i (drop k cs) ≡ 0 = ap (counted true i) (drop_of_length-le cs (omega (arith, l, ap length h, values-length cs))) in
    omega (arith, g, x)
