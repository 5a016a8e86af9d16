-- What is known of trails in a path is so behind each code too.
use Rattle.std.proofs.Common.{◌≡◌, ℕ, ◌==◌, ◌&&◌, ◌||◌, Bool, true, false, if◌then◌else◌, Some, None, List, ◌∷◌, refl, sym, ap, ◌∙◌}
use Rattle.std.proofs.lemmas.Bool.{eqb-true, or_parts}
use Rattle.markdown_content.specs.Codes.{Code}
use Rattle.markdown_model.specs.CodeTests.{is_letter}
use Rattle.markdown_leaf_gfm.specs.Trails.{trails_in}
use Rattle.markdown_model.proofs.GrammarSteps.{and-left, and-right}
use Rattle.markdown_plan.specs.ByteTests.{letter_value}
use Rattle.markdown_leaf_gfm.specs.GfmAutolinkLiteral.{trail_value, is_known, known_after, Knows}
use Rattle.markdown_leaf_gfm.proofs.TrailChecks.{trails-mark, trails-and, trails-bracket, name-letter, name-closed}

module _ (bytes : List ℕ) (end : ℕ) where
  pub knows-nothing : (cs : List Code) → Knows bytes end 0 cs
  knows-nothing cs = record { mark = λ e. cc; sign = λ e. cc; name = λ e. cc }

  pub knows-mark : (cs : List Code) → trails_in bytes end None cs ≡ false → Knows bytes end 46 cs
  knows-mark cs e = record { mark = λ _. e; sign = λ h. cc; name = λ h. cc }

  knows-sign : (cs : List Code) → trails_in bytes end (Some false) cs ≡ false → Knows bytes end 38 cs
  knows-sign cs e = record { mark = λ h. cc; sign = λ _. e; name = λ h. cc }

  knows-name : (cs : List Code) → trails_in bytes end (Some true) cs ≡ false → Knows bytes end 97 cs
  knows-name cs e = record { mark = λ h. cc; sign = λ h. cc; name = λ _. e }

  knows-if : (cs : List Code) (b : Bool) (m n : ℕ) → (b ≡ true → Knows bytes end m cs) →
      (b ≡ false → Knows bytes end n cs) → Knows bytes end (if b then m else n) cs
  knows-if cs true m n p q = p refl
  knows-if cs false m n p q = q refl

  bracket-past : (c : Code) (cs : List Code) → trail_value c.value ≡ false → (c.value == 93) ≡ true →
      trails_in bytes end None (c ∷ cs) ≡ false → trails_in bytes end None cs ≡ false
  bracket-past c cs h f e =
      let is : c.value ≡ 93 = eqb-true c.value 93 f in
      (or_parts _ (trails_in bytes end None cs) (sym (trails-bracket bytes end c cs h (ap (λ v. v == 38) is) (ap (λ v. v == 60) is) f) ∙ e)).1

  -- behind a mark
  pub mark-past : (c : Code) (cs : List Code) → trail_value c.value || (c.value == 93) ≡ true →
      trails_in bytes end None (c ∷ cs) ≡ false → trails_in bytes end None cs ≡ false
  mark-past c cs h e =
      elim (trail_value c.value) as (λ b. trail_value c.value ≡ b → b || (c.value == 93) ≡ true → trails_in bytes end None cs ≡ false) [
        | true ↦ λ t _. sym (trails-mark bytes end c cs t) ∙ e
        | false ↦ λ t f. bracket-past c cs t f e
      ] refl h

  -- behind a letter of a reference
  letter-past : (known : ℕ) (c : Code) (cs : List Code) → (known == 38 || known == 97) ≡ true → is_letter c ≡ true →
      Knows bytes end known (c ∷ cs) → trails_in bytes end (Some true) cs ≡ false
  letter-past known c cs h l k =
      elim (known == 38) as (λ b. (known == 38) ≡ b → b || known == 97 ≡ true → trails_in bytes end (Some true) cs ≡ false) [
        | true ↦ λ e _. sym (name-letter bytes end false c cs l) ∙ k.sign (eqb-true known 38 e)
        | false ↦ λ _ e. sym (name-letter bytes end true c cs l) ∙ k.name (eqb-true known 97 e)
      ] refl h

  -- behind the end of a reference
  closed-past : (known : ℕ) (c : Code) (cs : List Code) → (known == 97) && (c.value == 59) ≡ true →
      Knows bytes end known (c ∷ cs) → trails_in bytes end None cs ≡ false
  closed-past known c cs h k =
      let closes : (c.value == 59) ≡ true = and-right (known == 97) (c.value == 59) h in
      sym (name-closed bytes end c cs (ap letter_value (eqb-true c.value 59 closes)) closes) ∙ k.name (eqb-true known 97 (and-left (known == 97) (c.value == 59) h))

  pub known-past : (known : ℕ) (c : Code) (cs : List Code) → Knows bytes end known (c ∷ cs) →
      Knows bytes end (known_after known c.value) cs
  known-past known c cs k =
      let v : ℕ = c.value in
      knows-if cs ((known == 46) && (v == 38)) 38 _
      (λ h. let sign : (v == 38) ≡ true = and-right (known == 46) (v == 38) h in
      knows-sign cs (sym (trails-and bytes end c cs (ap trail_value (eqb-true v 38 sign)) sign) ∙ k.mark (eqb-true known 46 (and-left (known == 46) (v == 38) h))))
      (λ _. knows-if cs ((known == 46) && (trail_value v || v == 93)) 46 _
      (λ h. knows-mark cs (mark-past c cs (and-right (known == 46) (trail_value v || v == 93) h) (k.mark (eqb-true known 46 (and-left (known == 46) (trail_value v || v == 93) h)))))
      (λ _. knows-if cs ((known == 38 || known == 97) && letter_value v) 97 _
      (λ h. knows-name cs (letter-past known c cs (and-left (known == 38 || known == 97) (letter_value v) h) (and-right (known == 38 || known == 97) (letter_value v) h) k))
      (λ _. knows-if cs ((known == 97) && (v == 59)) 46 0 (λ h. knows-mark cs (closed-past known c cs h k)) (λ _. knows-nothing cs))))

  -- no trail begins at a code that is known to begin none
  pub known-here : (known : ℕ) (c : Code) (cs : List Code) → is_known known c.value ≡ true →
      Knows bytes end known (c ∷ cs) → trails_in bytes end None (c ∷ cs) ≡ false
  known-here known c cs h k =
      let v : ℕ = c.value in
      elim (known == 46) as (λ b. (known == 46) ≡ b → b || ((known == 97) && (v == 59)) ≡ true → trails_in bytes end None (c ∷ cs) ≡ false) [
        | true ↦ λ e _. k.mark (eqb-true known 46 e)
        | false ↦ λ _ e. trails-mark bytes end c cs (ap trail_value (eqb-true v 59 (and-right (known == 97) (v == 59) e))) ∙ closed-past known c cs e k
      ] refl h
