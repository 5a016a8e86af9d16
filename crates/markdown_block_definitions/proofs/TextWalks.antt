-- Texts up to what ends them, from the values of codes.
use Rattle.std.proofs.Common.{◌≡◌, ℕ, ◌+◌, ◌≤◌, ◌<◌, refl, ap, ◌∙◌, sym, List, length, drop, get_or, Bool, true, false, ◌&&◌, Some, None, arith}
use Rattle.std.specs.Prelude.{◌==◌}
use Rattle.std.proofs.lemmas.Bool.Decides.{nat_tests}
use Rattle.std.proofs.Math.ListN.{drop_of_length-le}
use Rattle.markdown_content.specs.Codes.{Code}
use Rattle.markdown_model.specs.CodeTests.{values_of, is_value, next_is}
use Rattle.markdown_model.specs.Grammar.{escaped_from}
use Rattle.markdown_block_line.proofs.RestValues.{next-at, values-length}
use Rattle.markdown_block_definitions.specs.TextReadings.{left_by, closer, is_escapable, is_refused, text_from, DoesToText}
use Rattle.markdown_block_definitions.specs.declared.texts.Text.{Text}
use Rattle.markdown_block_definitions.specs.declared.texts.Step.TheVariants.{Passes, Ends, Fails}
use Rattle.markdown_block_definitions.proofs.CodesAt.{by-code, left-with}

-- One code.

pub does-escaped : (t : Text) (slash : Bool) (v : ℕ) → (slash && is_escapable t v) ≡ true → DoesToText t slash v (Passes false)
unfolding escaped_from
does-escaped t slash v e c cs i = let f : (slash && is_escapable t c.value) ≡ true = ap (λ n. slash && is_escapable t n) i ∙ e in rw (f, escaped_from) refl

module _ (t : Text) (slash : Bool) (v : ℕ) (bare : (slash && is_escapable t v) ≡ false) where
  pub does-end : v ≡ closer t → DoesToText t slash v Ends
  unfolding escaped_from
  does-end h =
      let g : (v == closer t) ≡ true = grind (arith, nat_tests, h) in (
        g,
        λ c cs i.
            let e : (slash && is_escapable t c.value) ≡ false = ap (λ n. slash && is_escapable t n) i ∙ bare in
            let f : (c.value == closer t) ≡ true = ap (λ n. n == closer t) i ∙ g in
            rw (e, f, escaped_from) refl,
      )

  pub does-fail : (v ≡ closer t → ⊥) → is_refused t v ≡ true → DoesToText t slash v Fails
  unfolding escaped_from
  does-fail h r c cs i =
      let e : (slash && is_escapable t c.value) ≡ false = ap (λ n. slash && is_escapable t n) i ∙ bare in
      let x : (v == closer t) ≡ false = grind (arith, nat_tests, h) in
      let f : (c.value == closer t) ≡ false = ap (λ n. n == closer t) i ∙ x in
      let g : is_refused t c.value ≡ true = ap (is_refused t) i ∙ r in
      rw (e, f, g, escaped_from) refl

  pub does-pass : (s : Bool) → (v ≡ closer t → ⊥) → is_refused t v ≡ false → s ≡ (v == 92) → DoesToText t slash v (Passes s)
  unfolding escaped_from
  does-pass s h r w c cs i =
      let e : (slash && is_escapable t c.value) ≡ false = ap (λ n. slash && is_escapable t n) i ∙ bare in
      let x : (v == closer t) ≡ false = grind (arith, nat_tests, h) in
      let f : (c.value == closer t) ≡ false = ap (λ n. n == closer t) i ∙ x in
      let g : is_refused t c.value ≡ false = ap (is_refused t) i ∙ r in
      let b : (c.value == 92) ≡ s = ap (λ n. n == 92) i ∙ sym w in
      rw (e, f, g, b, escaped_from) refl

-- The loop.

module _ (t : Text) (slash : Bool) (cs : List Code) (vs : List ℕ) (k d : ℕ) (h : values_of cs ≡ vs) where
  pub text-passes : (s : Bool) → k < length vs → DoesToText t slash (get_or vs k d) (Passes s) → left_by (text_from t slash (drop k cs)) ≡ left_by (text_from t s (drop (k + 1) cs))
  text-passes s l f = by-code cs vs k d h l (λ c e v. ap (λ (ds : List Code). left_by (text_from t slash ds)) e ∙ ap left_by (f c (drop (k + 1) cs) v) ∙ left-with c (text_from t s (drop (k + 1) cs)))

  pub text-ends : k < length vs → DoesToText t slash (get_or vs k d) Ends → left_by (text_from t slash (drop k cs)) ≡ Some (drop k cs)
  text-ends l f = by-code cs vs k d h l (λ c e v. ap (λ (ds : List Code). left_by (text_from t slash ds)) e ∙ ap left_by (f.1 c (drop (k + 1) cs) v) ∙ ap (λ (ds : List Code). Some ds) (sym e))

  pub text-closes : k < length vs → DoesToText t slash (get_or vs k d) Ends → next_is (is_value (closer t)) (drop k cs) ≡ true
  text-closes l f = next-at (λ v. v == closer t) cs vs k d h l ∙ f.0

  pub text-fails : k < length vs → DoesToText t slash (get_or vs k d) Fails → left_by (text_from t slash (drop k cs)) ≡ None
  text-fails l f = by-code cs vs k d h l (λ c e v. ap (λ (ds : List Code). left_by (text_from t slash ds)) e ∙ ap left_by (f c (drop (k + 1) cs) v))

  pub text-over : length vs ≤ k → left_by (text_from t slash (drop k cs)) ≡ None
  unfolding escaped_from
  text-over l = ap (λ (ds : List Code). left_by (text_from t slash ds)) (drop_of_length-le cs (omega (arith, l, ap length h, values-length cs)))
