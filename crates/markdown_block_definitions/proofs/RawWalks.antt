-- Raw destinations, from the values of codes.
use Rattle.std.proofs.Common.{◌≡◌, ℕ, zero, suc, ◌+◌, ◌-◌, ◌≤◌, ◌<◌, refl, ap, ◌∙◌, sym, List, [], ◌∷◌, length, drop, get_or, add-one, Bool, true, false, ◌&&◌, ◌||◌, Some, None, arith}
use Rattle.std.specs.Prelude.{◌==◌, nat_lt, codes}
use Rattle.std.proofs.lemmas.Bool.Decides.{nat_tests}
use Rattle.std.proofs.Math.ListN.{drop_of_length-le}
use Rattle.markdown_content.specs.Codes.{Code}
use Rattle.markdown_model.specs.CodeTests.{values_of, is_value, is_among, is_control, is_whitespace_code}
use Rattle.markdown_model.specs.Grammar.{with_first}
use Rattle.markdown_model.specs.Resource.{raw_from}
use Rattle.markdown_block_line.specs.LineTags.{code_of}
use Rattle.markdown_block_line.specs.LineValues.{is_whitespace_value}
use Rattle.markdown_block_line.proofs.RestValues.{by_bool, values-length}
use Rattle.markdown_block_definitions.specs.TextReadings.{left_by, DoesToRaw}
use Rattle.markdown_block_definitions.specs.declared.destinations.RawStep.{RawStep}
use Rattle.markdown_block_definitions.specs.declared.destinations.RawStep.TheVariants.{Goes, Stops, Breaks}
use Rattle.markdown_block_definitions.proofs.CodesAt.{by-code, left-with}

-- One code.

raw-escaped : (slash : Bool) (depth : ℕ) (c : Code) (cs : List Code) → (slash && is_among (codes "()\\") c) ≡ true → raw_from 32 slash depth (c ∷ cs) ≡ with_first c (raw_from 32 false depth cs)
unfolding raw_from
raw-escaped slash depth c cs e = rw (e, raw_from) refl

raw-bare : (slash : Bool) (depth : ℕ) (c : Code) (cs : List Code) → (slash && is_among (codes "()\\") c) ≡ false → raw_from 32 slash depth (c ∷ cs) ≡ raw_from 32 false depth (c ∷ cs)
unfolding raw_from
raw-bare slash depth c cs e = rw (e, raw_from) refl

raw-stops : (c : Code) (cs : List Code) → (is_whitespace_code c || (is_value 41 c && true)) ≡ true → raw_from 32 false 0 (c ∷ cs) ≡ Some ([], c ∷ cs)
unfolding raw_from
raw-stops c cs e = rw (e, raw_from) refl

raw-breaks : (d : ℕ) (c : Code) (cs : List Code) → (is_whitespace_code c || (is_value 41 c && suc d == 0)) ≡ true → raw_from 32 false (suc d) (c ∷ cs) ≡ None
unfolding raw_from
raw-breaks d c cs e = rw (e, raw_from) refl

module _ (depth : ℕ) (c : Code) (cs : List Code) (on : (is_whitespace_code c || (is_value 41 c && depth == 0)) ≡ false) where
  raw-control : is_control c ≡ true → raw_from 32 false depth (c ∷ cs) ≡ None
  unfolding raw_from
  raw-control e = rw (on, e, raw_from) refl

  module _ (ink : is_control c ≡ false) where
    raw-opens : is_value 40 c ≡ true → nat_lt depth 32 ≡ true → raw_from 32 false depth (c ∷ cs) ≡ with_first c (raw_from 32 false (suc depth) cs)
    unfolding raw_from
    raw-opens e l = rw (on, ink, e, l, raw_from) refl

    raw-deep : is_value 40 c ≡ true → nat_lt depth 32 ≡ false → raw_from 32 false depth (c ∷ cs) ≡ None
    unfolding raw_from
    raw-deep e l = rw (on, ink, e, l, raw_from) refl

    raw-closes : is_value 40 c ≡ false → is_value 41 c ≡ true → raw_from 32 false depth (c ∷ cs) ≡ with_first c (raw_from 32 false (depth - 1) cs)
    unfolding raw_from
    raw-closes e f = rw (on, ink, e, f, raw_from) refl

    raw-other : (s : Bool) → is_value 40 c ≡ false → is_value 41 c ≡ false → is_value 92 c ≡ s → raw_from 32 false depth (c ∷ cs) ≡ with_first c (raw_from 32 s depth cs)
    unfolding raw_from
    raw-other s e f g = rw (on, ink, e, f, g, raw_from) refl

and-off : (a : Bool) → (a && false) ≡ false
and-off true = refl
and-off false = refl

-- by the value

pub does-escaped : (slash : Bool) (depth v : ℕ) → (slash && is_among (codes "()\\") (code_of v)) ≡ true → DoesToRaw slash depth v (Goes false depth)
does-escaped slash depth v e c cs i = raw-escaped slash depth c cs (ap (λ n. slash && is_among (codes "()\\") (code_of n)) i ∙ e)

pub does-bare : (slash : Bool) (depth v : ℕ) (s : RawStep) → (slash && is_among (codes "()\\") (code_of v)) ≡ false → DoesToRaw false depth v s → DoesToRaw slash depth v s
does-bare slash depth v (Goes x y) e h = λ c cs i. raw-bare slash depth c cs (ap (λ n. slash && is_among (codes "()\\") (code_of n)) i ∙ e) ∙ h c cs i
does-bare slash depth v Stops e h = λ c cs i. raw-bare slash depth c cs (ap (λ n. slash && is_among (codes "()\\") (code_of n)) i ∙ e) ∙ h c cs i
does-bare slash depth v Breaks e h = λ c cs i. raw-bare slash depth c cs (ap (λ n. slash && is_among (codes "()\\") (code_of n)) i ∙ e) ∙ h c cs i

space-stops : (v : ℕ) (b : Bool) → is_whitespace_value v ≡ true → (is_whitespace_value v || (v == 41 && b)) ≡ true
space-stops v b e = ap (λ x. x || (v == 41 && b)) e

pub does-stop : (depth v : ℕ) → is_whitespace_value v ≡ true → depth ≡ 0 → DoesToRaw false depth v Stops
does-stop zero v e z c cs i = raw-stops c cs (ap (λ n. is_whitespace_value n || (n == 41 && true)) i ∙ space-stops v true e)
does-stop (suc d) v e z c cs i = absurd (omega (arith, z))

pub does-break : (depth v : ℕ) → is_whitespace_value v ≡ true → (depth ≡ 0 → ⊥) → DoesToRaw false depth v Breaks
does-break zero v e z c cs i = absurd (z refl)
does-break (suc d) v e z c cs i = raw-breaks d c cs (ap (λ n. is_whitespace_value n || (n == 41 && suc d == 0)) i ∙ space-stops v (suc d == 0) e)

pub does-stop-closer : (depth v : ℕ) → is_whitespace_value v ≡ false → v ≡ 41 → depth ≡ 0 → DoesToRaw false depth v Stops
does-stop-closer zero v e f z c cs i = raw-stops c cs (ap (λ n. is_whitespace_value n || (n == 41 && true)) (i ∙ f))
does-stop-closer (suc d) v e f z c cs i = absurd (omega (arith, z))

goes-on : (depth v : ℕ) → is_whitespace_value v ≡ false → ((v ≡ 41) → depth ≡ 0 → ⊥) → (is_whitespace_value v || (v == 41 && depth == 0)) ≡ false
goes-on depth v e f = ap (λ x. x || (v == 41 && depth == 0)) e ∙ by_bool (v == 41)
    (λ (a : (v == 41) ≡ true). let x : v ≡ 41 = grind (arith, nat_tests, a) in let y : (depth == 0) ≡ false = other depth (f x) in ap (λ b. (v == 41) && b) y ∙ and-off (v == 41))
    (λ (a : (v == 41) ≡ false). ap (λ b. b && depth == 0) a)
  where
    other : (depth : ℕ) → (depth ≡ 0 → ⊥) → (depth == 0) ≡ false
    other depth f = grind (arith, nat_tests, f)

module _ (depth v : ℕ) (space : is_whitespace_value v ≡ false) where
  -- the code is neither whitespace nor a parenthesis that closes nothing
  bare : (c : Code) → c.value ≡ v → ((v ≡ 41) → depth ≡ 0 → ⊥) → (is_whitespace_code c || (is_value 41 c && depth == 0)) ≡ false
  bare c i f = ap (λ n. is_whitespace_value n || (n == 41 && depth == 0)) i ∙ goes-on depth v space f

  pub does-control : is_control (code_of v) ≡ true → DoesToRaw false depth v Breaks
  does-control e c cs i = raw-control depth c cs (bare c i (λ f z. absurd (not-closer f))) (ap (λ n. is_control (code_of n)) i ∙ e)
    where
      not-closer : v ≡ 41 → ⊥
      not-closer f = grind (arith, e, ap (λ n. is_control (code_of n)) f)

  module _ (ink : is_control (code_of v) ≡ false) where
    inked : (c : Code) → c.value ≡ v → is_control c ≡ false
    inked c i = ap (λ n. is_control (code_of n)) i ∙ ink

    pub does-open : v ≡ 40 → depth < 32 → DoesToRaw false depth v (Goes false (depth + 1))
    does-open e l c cs i =
        raw-opens depth c cs (bare c i (λ f z. absurd (grind (arith, e, f)))) (inked c i) (ap (λ n. n == 40) (i ∙ e)) (grind (arith, nat_tests, l))
        ∙ ap (λ m. with_first c (raw_from 32 false m cs)) (sym (add-one depth))

    pub does-deep : v ≡ 40 → 32 ≤ depth → DoesToRaw false depth v Breaks
    does-deep e l c cs i = raw-deep depth c cs (bare c i (λ f z. absurd (grind (arith, e, f)))) (inked c i) (ap (λ n. n == 40) (i ∙ e)) (grind (arith, nat_tests, l))

    pub does-close : v ≡ 41 → (depth ≡ 0 → ⊥) → DoesToRaw false depth v (Goes false (depth - 1))
    does-close e z c cs i = raw-closes depth c cs (bare c i (λ f. z)) (inked c i) (ap (λ n. n == 40) (i ∙ e)) (ap (λ n. n == 41) (i ∙ e))

    pub does-go : (s : Bool) → (v ≡ 40 → ⊥) → (v ≡ 41 → ⊥) → s ≡ (v == 92) → DoesToRaw false depth v (Goes s depth)
    does-go s e f g c cs i =
        raw-other depth c cs (bare c i (λ x z. f x)) (inked c i) s (ap (λ n. n == 40) i ∙ apart v 40 e) (ap (λ n. n == 41) i ∙ apart v 41 f) (ap (λ n. n == 92) i ∙ sym g)
      where
        apart : (a b : ℕ) → (a ≡ b → ⊥) → (a == b) ≡ false
        apart a b h = grind (arith, nat_tests, h)

-- The loop.

module _ (slash : Bool) (depth : ℕ) (cs : List Code) (vs : List ℕ) (k d : ℕ) (h : values_of cs ≡ vs) where
  pub raw-goes : (s : Bool) (n : ℕ) → k < length vs → DoesToRaw slash depth (get_or vs k d) (Goes s n) → left_by (raw_from 32 slash depth (drop k cs)) ≡ left_by (raw_from 32 s n (drop (k + 1) cs))
  raw-goes s n l f = by-code cs vs k d h l (λ c e v. ap (λ (ds : List Code). left_by (raw_from 32 slash depth ds)) e ∙ ap left_by (f c (drop (k + 1) cs) v) ∙ left-with c (raw_from 32 s n (drop (k + 1) cs)))

  pub raw-stopped : k < length vs → DoesToRaw slash depth (get_or vs k d) Stops → left_by (raw_from 32 slash depth (drop k cs)) ≡ Some (drop k cs)
  raw-stopped l f = by-code cs vs k d h l (λ c e v. ap (λ (ds : List Code). left_by (raw_from 32 slash depth ds)) e ∙ ap left_by (f c (drop (k + 1) cs) v) ∙ ap (λ (ds : List Code). Some ds) (sym e))

  pub raw-broken : k < length vs → DoesToRaw slash depth (get_or vs k d) Breaks → left_by (raw_from 32 slash depth (drop k cs)) ≡ None
  raw-broken l f = by-code cs vs k d h l (λ c e v. ap (λ (ds : List Code). left_by (raw_from 32 slash depth ds)) e ∙ ap left_by (f c (drop (k + 1) cs) v))

raw-end : (slash : Bool) (depth : ℕ) → depth ≡ 0 → left_by (raw_from 32 slash depth []) ≡ Some []
unfolding raw_from
raw-end slash zero e = refl
raw-end slash (suc d) e = absurd (omega (arith, e))

raw-end-open : (slash : Bool) (depth : ℕ) → 0 < depth → left_by (raw_from 32 slash depth []) ≡ None
unfolding raw_from
raw-end-open slash zero e = absurd (omega (arith, e))
raw-end-open slash (suc d) e = refl

module _ (slash : Bool) (depth : ℕ) (cs : List Code) (vs : List ℕ) (k : ℕ) (h : values_of cs ≡ vs) (l : length vs ≤ k) where
  nothing-left : drop k cs ≡ []
  nothing-left = drop_of_length-le cs (omega (arith, l, ap length h, values-length cs))

  pub raw-over : depth ≤ 0 → left_by (raw_from 32 slash depth (drop k cs)) ≡ Some (drop k cs)
  raw-over z = ap (λ (ds : List Code). left_by (raw_from 32 slash depth ds)) nothing-left ∙ raw-end slash depth (omega (arith, z)) ∙ ap (λ (ds : List Code). Some ds) (sym nothing-left)

  pub raw-open : 0 < depth → left_by (raw_from 32 slash depth (drop k cs)) ≡ None
  raw-open z = ap (λ (ds : List Code). left_by (raw_from 32 slash depth ds)) nothing-left ∙ raw-end-open slash depth z
