-- Definitions with their targets, one after another.
use Rattle.std.proofs.Common.{◌≡◌, ◌∙◌, sym, ap, subst, ◌⊎◌, inl, inr, pred, ℕ, ◌+◌, ◌<◌, ◌≤◌, Bool, List, [], ◌∷◌, ◌++◌, get_or, length, take, arith, refl}
use Rattle.std.specs.List.{All}
use Rattle.std.proofs.lemmas.List.{take_more, take_all, length-take-le}
use Rattle.std.proofs.lemmas.List.Elements.{All-get_or, All-more}
use Rattle.markdown_html_model.specs.Html.{Defined}
use Rattle.markdown_inline_c.specs.FlatHtml.{IsTarget, defined_at, defined_by}
use Rattle.markdown_inline_c.specs.declared.fault.Fault.{Fault}
use Rattle.markdown_inline_c.specs.declared.flat.FlatTarget.{FlatTarget}
use Rattle.markdown_inline_c.specs.declared.flat.Range.{Range}

-- what is found are the definitions of the first labels, whose targets are targets
pub record AreDefined (replaced : Bool) (labels : List ℕ) (ranges : List Range) (targets : List FlatTarget) (found : List Defined) (i : ℕ) : Type 0 where
  pub defined : found ≡ defined_by replaced labels (take i ranges) (take i targets)
  pub are_targets : All (IsTarget labels) (take i targets)

defined_push : (replaced : Bool) (labels : List ℕ) (ranges : List Range) (targets : List FlatTarget) (r : Range) (t : FlatTarget) → length targets ≡ length ranges
    → defined_by replaced labels (ranges ++ r ∷ []) (targets ++ t ∷ []) ≡ defined_by replaced labels ranges targets ++ defined_at replaced labels r t ∷ []
defined_push replaced labels [] [] r t h = refl
defined_push replaced labels [] (t' ∷ targets) r t h = absurd (omega (arith, h))
defined_push replaced labels (r' ∷ ranges) [] r t h = absurd (omega (arith, h))
defined_push replaced labels (r' ∷ ranges) (t' ∷ targets) r t h = ap (λ xs. defined_at replaced labels r' t' ∷ xs) (defined_push replaced labels ranges targets r t (ap pred h))

pub one_more : (replaced : Bool) (labels : List ℕ) (ranges : List Range) (targets : List FlatTarget) (found more : List Defined) (next : Defined) (i : ℕ) (r : Range) (t : FlatTarget)
    → length targets ≡ length ranges → i < length targets → AreDefined replaced labels ranges targets found i → IsTarget labels (get_or targets i t)
    → next ≡ defined_at replaced labels (get_or ranges i r) (get_or targets i t) → more ≡ found ++ next ∷ []
    → AreDefined replaced labels ranges targets more (i + 1)
one_more replaced labels ranges targets found more next i r t one_each h so_far is_target e m =
    let long : length (take i targets) ≡ length (take i ranges) =
    length-take-le i targets (omega (arith, h)) ∙ sym (length-take-le i ranges (omega (arith, h, one_each)))
    in
    record {
      defined =
          m
          ∙ ap (λ xs. xs ++ next ∷ []) so_far.defined
          ∙ ap (λ x. defined_by replaced labels (take i ranges) (take i targets) ++ x ∷ []) e
          ∙ sym (defined_push replaced labels (take i ranges) (take i targets) (get_or ranges i r) (get_or targets i t) long)
          ∙ ap (λ xs. defined_by replaced labels xs (take i targets ++ get_or targets i t ∷ [])) (sym (take_more ranges i r (omega (arith, h, one_each))))
          ∙ ap (λ xs. defined_by replaced labels (take (i + 1) ranges) xs) (sym (take_more targets i t h));
      are_targets = All-more (IsTarget labels) targets i t h so_far.are_targets is_target;
    }

pub all_defined : (replaced : Bool) (labels : List ℕ) (ranges : List Range) (targets : List FlatTarget) (found : List Defined) (i : ℕ)
    → length targets ≡ length ranges → length targets ≤ i → AreDefined replaced labels ranges targets found i
    → (found ≡ defined_by replaced labels ranges targets) × All (IsTarget labels) targets
all_defined replaced labels ranges targets found i one_each h all =
    let e : take i targets ≡ targets = take_all i targets h in
    let e' : take i ranges ≡ ranges = take_all i ranges (omega (arith, h, one_each)) in
    (all.defined ∙ ap (λ xs. defined_by replaced labels xs (take i targets)) e' ∙ ap (defined_by replaced labels ranges) e, subst (λ (x : List FlatTarget). All (IsTarget labels) x) e all.are_targets)

-- one that is none
pub not_all : (labels : List ℕ) (targets : List FlatTarget) (i : ℕ) (t : FlatTarget) (fault : Fault) → i < length targets
    → (fault ≡ Fault.Memory) ⊎ ((fault ≡ Fault.Definition) × (IsTarget labels (get_or targets i t) → ⊥))
    → (fault ≡ Fault.Memory) ⊎ ((fault ≡ Fault.Definition) × (All (IsTarget labels) targets → ⊥))
not_all labels targets i t fault h (inl e) = inl e
not_all labels targets i t fault h (inr found) = inr (found.0, λ all. found.1 (All-get_or (IsTarget labels) targets i t h all))
