-- A look for trailing punctuation, code by code.
use Rattle.std.proofs.Common.{◌≡◌, ℕ, ◌==◌, ◌||◌, nat_lt, Bool, true, false, Option, Some, None, List, [], ◌∷◌, refl, sym, ap, subst, ◌∙◌, arith}
use Rattle.std.specs.Prelude.{codes}
use Rattle.std.proofs.lemmas.Bool.Decides.{nat_tests}
use Rattle.markdown_content.specs.Codes.{Code}
use Rattle.markdown_content.specs.Place.{Place, ahead_at, code_at, moved, point_of}
use Rattle.markdown_content.proofs.PlaceRules.{IsAhead, ahead_none, ahead_some, code_at_ahead, code_at_end, point_ahead, point_end, end_moved}
use Rattle.markdown_model.specs.CodeTests.{is_among, is_empty, next_is, is_whitespace_code}
use Rattle.markdown_model.specs.GfmAutolinkLiteral.{is_space}
use Rattle.markdown_leaf_gfm.specs.Trails.{trails_in}
use Rattle.markdown_util.specs.Neighbours.{class_of, after_index}
use Rattle.markdown_plan.specs.ByteTests.{letter_value}
use Rattle.markdown_plan.specs.Characters.{IsText, at_later}
use Rattle.markdown_plan.proofs.CharactersAlongContent.{text-moved}
use Rattle.markdown_leaf_gfm.specs.GfmAutolinkLiteral.{trail_value, ends_bracket}
use Rattle.markdown_leaf_gfm.specs.DomainScans.{IsLook, name_look}
use Rattle.markdown_leaf_gfm.specs.declared.domain_outlook.Look.{Look}
use Rattle.markdown_leaf_gfm.specs.declared.domain_outlook.Look.TheVariants.{GoesOn, Ends}
use Rattle.markdown_leaf_gfm.proofs.TrailChecks.{begins-by, trails-mark, trails-and, trails-angle, trails-bracket, trails-else, trails-end, name-letter, name-closed, name-other, name-none, name-end, low-by, trail-low}
use Rattle.markdown_model.proofs.GrammarSteps.{if-true, if-false}

-- these codes are ASCII
letter-low : (v : ℕ) → letter_value v ≡ true → nat_lt v 128 ≡ true
letter-low v e = grind (arith, nat_tests)

-- At a mark.

module _ (bytes : List ℕ) (p : Place) (v : ℕ) (here : code_at p ≡ Some v) where
  abbrev looked : Option Bool → List Code → Bool
  looked = trails_in bytes p.end.index

  abbrev at : IsAhead p v
  at = ahead_some p v here

  pub look-mark : trail_value v ≡ true → IsLook bytes None p v (GoesOn None)
  look-mark h =
      (ap (looked None) at.codes ∙ trails-mark bytes p.end.index at.code (ahead_at (moved p)) (ap trail_value at.value ∙ h), trail-low v h)

  pub look-and : trail_value v ≡ false → (v == 38) ≡ true → IsLook bytes None p v (GoesOn (Some false))
  look-and h e =
      (ap (looked None) at.codes ∙ trails-and bytes p.end.index at.code (ahead_at (moved p)) (ap trail_value at.value ∙ h) (ap (λ w. w == 38) at.value ∙ e), low-by v 38 e refl)

  pub look-angle : trail_value v ≡ false → (v == 38) ≡ false → (v == 60) ≡ true → IsLook bytes None p v (Ends true)
  look-angle h e f =
      ap (looked None) at.codes
      ∙ trails-angle bytes p.end.index at.code (ahead_at (moved p)) (ap trail_value at.value ∙ h) (ap (λ w. w == 38) at.value ∙ e) (ap (λ w. w == 60) at.value ∙ f)

  pub look-else : trail_value v ≡ false → (v == 38) ≡ false → (v == 60) ≡ false → (v == 93) ≡ false →
      IsLook bytes None p v (Ends (is_space (class_of (after_index bytes (point_of p).index))))
  look-else h e f g =
      ap (looked None) at.codes
      ∙ trails-else bytes p.end.index at.code (ahead_at (moved p)) (ap trail_value at.value ∙ h) (ap (λ w. w == 38) at.value ∙ e) (ap (λ w. w == 60) at.value ∙ f) (ap (λ w. w == 93) at.value ∙ g)
      ∙ ap (λ q. is_space (class_of (after_index bytes q.index))) (sym (point_ahead p at.code (ahead_at (moved p)) at.codes))

  -- whether a bracket ends here
  bracket-by : (q : Place) (cs : List Code) → ahead_at q ≡ cs →
      ends_bracket (code_at q) ≡ (is_empty cs || next_is (λ d. is_whitespace_code d || is_among (codes "([") d) cs)
  bracket-by q [] e = ap ends_bracket (code_at_end q e)
  bracket-by q (c ∷ cs) e = ap ends_bracket (code_at_ahead q c cs e)

  or-by : (a b c : Bool) → a ≡ b → b || c ≡ a || c
  or-by a b c e = ap (λ x. x || c) (sym e)

  look-bracket : trail_value v ≡ false → (v == 38) ≡ false → (v == 60) ≡ false → (v == 93) ≡ true →
      looked None (ahead_at p) ≡ ends_bracket (code_at (moved p)) || looked None (ahead_at (moved p))
  look-bracket h e f g =
      ap (looked None) at.codes
      ∙ trails-bracket bytes p.end.index at.code (ahead_at (moved p)) (ap trail_value at.value ∙ h) (ap (λ w. w == 38) at.value ∙ e) (ap (λ w. w == 60) at.value ∙ f) (ap (λ w. w == 93) at.value ∙ g)
      ∙ or-by _ _ _ (bracket-by (moved p) (ahead_at (moved p)) refl)

  pub look-closed : trail_value v ≡ false → (v == 38) ≡ false → (v == 60) ≡ false → (v == 93) ≡ true →
      ends_bracket (code_at (moved p)) ≡ true → IsLook bytes None p v (Ends true)
  look-closed h e f g k = look-bracket h e f g ∙ ap (λ b. b || looked None (ahead_at (moved p))) k

  pub look-open : trail_value v ≡ false → (v == 38) ≡ false → (v == 60) ≡ false → (v == 93) ≡ true →
      ends_bracket (code_at (moved p)) ≡ false → IsLook bytes None p v (GoesOn None)
  look-open h e f g k = (look-bracket h e f g ∙ ap (λ b. b || looked None (ahead_at (moved p))) k, low-by v 93 g refl)

  -- Behind a `&`.

  look-by : (seen : Bool) (l : Look) → name_look seen v ≡ l → IsLook bytes (Some seen) p v l →
      IsLook bytes (Some seen) p v (name_look seen v)
  look-by seen l e k = subst (λ x. IsLook bytes (Some seen) p v x) (sym e) k

  name-by : (seen letter closed : Bool) → letter_value v ≡ letter → (v == 59) ≡ closed →
      IsLook bytes (Some seen) p v (name_look seen v)
  name-by seen true closed e f =
      look-by seen (GoesOn (Some true)) (if-true _ _ _ e) (ap (looked (Some seen)) at.codes ∙ name-letter bytes p.end.index seen at.code (ahead_at (moved p)) (ap letter_value at.value ∙ e), letter-low v e)
  name-by true false true e f =
      look-by true (GoesOn None) (if-false _ _ _ e ∙ if-true _ _ _ f)
      (ap (looked (Some true)) at.codes ∙ name-closed bytes p.end.index at.code (ahead_at (moved p)) (ap letter_value at.value ∙ e) (ap (λ w. w == 59) at.value ∙ f), low-by v 59 f refl)
  name-by true false false e f =
      look-by true (Ends false) (if-false _ _ _ e ∙ if-false _ _ _ f)
      (ap (looked (Some true)) at.codes ∙ name-other bytes p.end.index at.code (ahead_at (moved p)) (ap letter_value at.value ∙ e) (ap (λ w. w == 59) at.value ∙ f))
  name-by false false closed e f =
      look-by false (Ends false) (if-false _ _ _ e) (ap (looked (Some false)) at.codes ∙ name-none bytes p.end.index at.code (ahead_at (moved p)) (ap letter_value at.value ∙ e))

  pub look-name : (seen : Bool) → IsLook bytes (Some seen) p v (name_look seen v)
  look-name seen = name-by seen (letter_value v) (v == 59) refl refl

-- Along the codes.

-- what is looked for from the start on is what is looked for from here
pub record Looking (bytes : List ℕ) (start : Place) (name : Option Bool) (p : Place) : Type 0 where
  pub text : IsText bytes p
  pub begins : at_later (code_at p) ≡ false
  pub same : trails_in bytes start.end.index None (ahead_at start) ≡ trails_in bytes p.end.index name (ahead_at p)

pub looking-start : (bytes : List ℕ) (start p : Place) → p ≡ start → IsText bytes start →
    at_later (code_at start) ≡ false → Looking bytes start None p
looking-start bytes start p e text begins =
    subst (λ (q : Place). Looking bytes start None q) (sym e) (record { text = text; begins = begins; same = refl })

pub looking-on : (bytes : List ℕ) (start p q : Place) (name next : Option Bool) (v : ℕ) → code_at p ≡ Some v →
    q ≡ moved p → IsLook bytes name p v (GoesOn next) → Looking bytes start name p → Looking bytes start next q
looking-on bytes start p q name next v here e look k =
    subst (λ (x : Place). Looking bytes start next x) (sym e)
    (record {
      text = text-moved bytes p k.text;
      begins = begins-by bytes p v k.text here look.1;
      same = k.same ∙ look.0 ∙ ap (λ (x : _). trails_in bytes x.index next (ahead_at (moved p))) (sym (end_moved p));
    })

pub looking-ends : (bytes : List ℕ) (start p : Place) (name : Option Bool) (v : ℕ) (answer : Bool) →
    IsLook bytes name p v (Ends answer) → Looking bytes start name p →
    answer ≡ trails_in bytes start.end.index None (ahead_at start)
looking-ends bytes start p name v answer look k = sym (k.same ∙ look)

pub looking-none : (bytes : List ℕ) (start p : Place) → code_at p ≡ None → Looking bytes start None p →
    is_space (class_of (after_index bytes (point_of p).index)) ≡ trails_in bytes start.end.index None (ahead_at start)
looking-none bytes start p h k =
    ap (λ q. is_space (class_of (after_index bytes q.index))) (point_end p (ahead_none p h)) ∙ sym (trails-end bytes p.end.index) ∙ sym (k.same ∙ ap (trails_in bytes p.end.index None) (ahead_none p h))

pub looking-some : (bytes : List ℕ) (start p : Place) (seen : Bool) → code_at p ≡ None →
    Looking bytes start (Some seen) p → false ≡ trails_in bytes start.end.index None (ahead_at start)
looking-some bytes start p seen h k =
    sym (k.same ∙ ap (trails_in bytes p.end.index (Some seen)) (ahead_none p h) ∙ name-end bytes p.end.index seen)
