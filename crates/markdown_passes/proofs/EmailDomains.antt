-- the domain of an email, code by code
use Rattle.std.proofs.Common.{◌≡◌, ℕ, ◌==◌, ◌&&◌, ◌||◌, Bool, true, false, if◌then◌else◌, Option, Some, None, List, [], ◌∷◌, refl, sym, ap, ◌∙◌, inl, inr}
use Rattle.std.proofs.lemmas.Bool.{both_ways}
use Rattle.std.specs.List.{list_any}
use Rattle.markdown_plan.specs.ByteTests.{letter_value, alphanumeric_value}
use Rattle.markdown_content.specs.Codes.{Code, stop_of}
use Rattle.markdown_content.specs.DocumentWalk.{next_point, value_from}
use Rattle.markdown_event.specs.declared.event.Point.{Point}
use Rattle.markdown_content.proofs.DocumentCodes.{code_here}
use Rattle.markdown_model.specs.CodeTests.{is_value, is_letter, is_alphanumeric, is_some_code, last_code, next_is}
use Rattle.markdown_model.specs.GfmEmailLiteral.{email_domain}
use Rattle.markdown_passes.specs.TrimmedData.{between, is_same_place, IsStretch}
use Rattle.markdown_passes.proofs.TrimWalks.{IsBegun, begun-where, ended-where, stretch-cases}
use Rattle.markdown_passes.specs.EmailScan.{domain_value, passes, domain_end}

-- the last code is a letter; where there is none, what was before
abbrev ends_letter : Bool → List Code → Bool
ends_letter b [] = b
ends_letter b (c ∷ cs) = ends_letter (is_letter c) cs

-- where the domain ends that goes on with these codes: whether a dot stands in it so far, and a letter last
abbrev pub domain_on : Bool → Bool → Bool → Point → List Code → Option Point
domain_on slashes dot letter p cs =
    let d = email_domain slashes cs in
    if (dot || list_any (is_value 46) d.0) && ends_letter letter d.0 then Some (stop_of p d.0) else None

ends-last : (c : Code) (cs : List Code) → ends_letter (is_letter c) cs ≡ is_some_code is_letter (last_code (c ∷ cs))
ends-last c [] = refl
ends-last c (d ∷ ds) = ends-last d ds

ends-is : (cs : List Code) → ends_letter false cs ≡ is_some_code is_letter (last_code cs)
ends-is [] = refl
ends-is (c ∷ cs) = ends-last c cs

pub domain-whole : (slashes : Bool) (p : Point) (cs : List Code) →
    domain_on slashes false false p cs ≡ domain_end slashes p cs
unfolding domain_end
domain-whole slashes p cs =
    let d = email_domain slashes cs in
    ap (λ b. if list_any (is_value 46) d.0 && b then Some (stop_of p d.0) else None) (ends-is d.0)

abbrev CutCodes : Type 0
CutCodes = List Code × List Code

domain-takes : (slashes : Bool) (c : Code) (cs : List Code) → passes slashes (c ∷ cs) ≡ true →
    ◌≡◌ {A = CutCodes} (email_domain slashes (c ∷ cs)) (c ∷ (email_domain slashes cs).0, (email_domain slashes cs).1)
domain-takes slashes c cs h =
    ap (λ b. elim b as (λ _. CutCodes) [ true ↦ (c ∷ (email_domain slashes cs).0, (email_domain slashes cs).1) | false ↦ ([], c ∷ cs) ]) h

or-assoc : (a b c : Bool) → (a || b) || c ≡ a || (b || c)
or-assoc true b c = refl
or-assoc false b c = refl

domain-more : (slashes dot letter : Bool) (p : Point) (c : Code) (cs : List Code) → passes slashes (c ∷ cs) ≡ true →
    domain_on slashes (dot || is_value 46 c) (is_letter c) c.stop cs ≡ domain_on slashes dot letter p (c ∷ cs)
domain-more slashes dot letter p c cs h =
    let d = email_domain slashes cs in
    ap (λ b. if b && ends_letter (is_letter c) d.0 then Some (stop_of c.stop d.0) else None) (or-assoc dot (is_value 46 c) (list_any (is_value 46) d.0))
    ∙ ap (λ (e : CutCodes). if (dot || list_any (is_value 46) e.0) && ends_letter letter e.0 then Some (stop_of p e.0) else None)
    (sym (domain-takes slashes c cs h))

-- Along a stretch.

module _ (bytes : List ℕ) (p q : Point) (stretch : IsStretch bytes p q) where
  value-is : (v : ℕ) → IsBegun bytes p q → value_from bytes p ≡ Some v → v ≡ (code_here bytes p).value
  value-is v b e = let same : Some v ≡ Some (code_here bytes p).value = sym e ∙ b.value in cc

  pub word-next : (v : ℕ) → is_same_place p q ≡ false → value_from bytes p ≡ Some v →
      next_is is_alphanumeric (between bytes p q) ≡ alphanumeric_value v
  word-next v h e =
      let b : IsBegun bytes p q = begun-where bytes p q stretch h in ap (next_is is_alphanumeric) b.codes ∙ ap alphanumeric_value (sym (value-is v b e))

  pub no-word_next : is_same_place p q ≡ true → next_is is_alphanumeric (between bytes p q) ≡ false
  no-word_next h = ap (next_is is_alphanumeric) (ended-where bytes p q stretch h).none

  pub domain-next : (slashes : Bool) (v : ℕ) (r : Point) → is_same_place p q ≡ false → value_from bytes p ≡ Some v →
      r ≡ next_point bytes p →
      passes slashes (between bytes p q) ≡ domain_value slashes (next_is is_alphanumeric (between bytes r q)) v
  domain-next slashes v r h e f =
      let b : IsBegun bytes p q = begun-where bytes p q stretch h in
      ap (passes slashes) b.codes
      ∙ ap (λ (x : Point). domain_value slashes (next_is is_alphanumeric (between bytes x q)) (code_here bytes p).value) (sym (f ∙ b.next))
      ∙ ap (domain_value slashes (next_is is_alphanumeric (between bytes r q))) (sym (value-is v b e))

  pub no-domain_next : (slashes : Bool) → is_same_place p q ≡ true → passes slashes (between bytes p q) ≡ false
  no-domain_next slashes h = ap (passes slashes) (ended-where bytes p q stretch h).none

  -- a code that belongs to it stands there
  pub domain-begun : (slashes t : Bool) → t ≡ passes slashes (between bytes p q) → t ≡ true → IsBegun bytes p q
  domain-begun slashes t e h =
      elim (stretch-cases bytes p q stretch) [
        | inl b ↦ b
        | inr d ↦ absurd (both_ways t (e ∙ ap (passes slashes) d.none) h)
      ]

  pub domain-step : (slashes t dot dots letter letters : Bool) (v : ℕ) (r : Point) →
      t ≡ passes slashes (between bytes p q) → t ≡ true → value_from bytes p ≡ Some v → r ≡ next_point bytes p →
      dots ≡ dot || v == 46 → letters ≡ letter_value v →
      domain_on slashes dots letters r (between bytes r q) ≡ domain_on slashes dot letter p (between bytes p q)
  domain-step slashes t dot dots letter letters v r e h f g d l =
      let b : IsBegun bytes p q = domain-begun slashes t e h in
      let c : Code = code_here bytes p in
      let value : v ≡ c.value = value-is v b f in
      let there : r ≡ c.stop = g ∙ b.next in
      let first : passes slashes (c ∷ between bytes c.stop q) ≡ true = ap (passes slashes) (sym b.codes) ∙ sym e ∙ h in
      ap (λ (x : Point). domain_on slashes dots letters x (between bytes x q)) there
      ∙ ap (λ y. domain_on slashes y letters c.stop (between bytes c.stop q)) (d ∙ ap (λ w. dot || w == 46) value)
      ∙ ap (λ y. domain_on slashes (dot || is_value 46 c) y c.stop (between bytes c.stop q)) (l ∙ ap letter_value value)
      ∙ domain-more slashes dot letter p c (between bytes c.stop q) first
      ∙ ap (domain_on slashes dot letter p) (sym b.codes)

pub or-first : (b x : Bool) → b ≡ true → b ≡ b || x
or-first true x h = refl
or-first false x h = cc
