-- Email literals stand in data.
use Rattle.std.proofs.Common.{◌≡◌, ℕ, zero, suc, List, [], ◌∷◌, ◌++◌, reverse, refl, sym, ap, ◌∙◌, append-nil, Option, Some, None, arith}
use Rattle.markdown_event.specs.declared.event.Name.{Name}
use Rattle.markdown_content.specs.Codes.{Code}
use Rattle.markdown_content.specs.Tree.{Forest, empty, leaf_then, group_then, leaf, ◌⊕◌, leaf_codes}
use Rattle.markdown_model.specs.GfmEmailLiteral.{email_at, email_leaves, with_emails}
use Rattle.markdown_model.specs.Passes.{data_onto, merged, with_emails_apart}
use Rattle.markdown_model.proofs.LiteralCodes.{HasCodesAround, found, reverse-first}
use Rattle.markdown_model.proofs.MergedParts.{data_onto-twice}
use Rattle.markdown_model_laws.specs.EmailsInData.{as_data, EmailsStandInData}
use Rattle.markdown_model_laws.proofs.EmailLeaves.{IsEmailLeaf, AnswerIsEmail, answer-email}

-- codes as data before a merged row, where there are any
abbrev onto : List Code → Forest → Forest
onto [] f = f
onto (c ∷ cs) f = data_onto (c ∷ cs) f

onto-twice : (cs ds : List Code) (f : Forest) → onto cs (onto ds f) ≡ onto (cs ++ ds) f
onto-twice cs ds f = grind (arith, append-nil, data_onto-twice)

data-first : (cs : List Code) (f : Forest) → merged (as_data (leaf Name.Data cs ⊕ f)) ≡ onto cs (merged (as_data f))
unfolding merged
data-first [] f = refl
data-first (c ∷ cs) f = refl

email-first : (e f : Forest) → IsEmailLeaf e → merged (as_data (e ⊕ f)) ≡ onto (leaf_codes e) (merged (as_data f))
unfolding merged
email-first e f h = grind (arith, append-nil)

emails-data : (n : ℕ) (before cs : List Code) (f : Forest) →
    merged (as_data (email_leaves n before cs ⊕ f)) ≡ onto (reverse before ++ cs) (merged (as_data f))
unfolding email_leaves
emails-data n before [] f =
    data-first (reverse before) f ∙ ap (λ xs. onto xs (merged (as_data f))) (sym (append-nil (reverse before)))
emails-data zero before (c ∷ cs) f = data-first (reverse before ++ c ∷ cs) f
emails-data (suc n) before (c ∷ cs) f = by_answer (email_at before c cs) (found before c cs) (answer-email before c cs) (λ front ds. emails-data n front ds f)
  where
    by_answer : (r : Option (List Code × Forest × List Code)) → HasCodesAround before c cs r → AnswerIsEmail r
        → ((front ds : List Code) → merged (as_data (email_leaves n front ds ⊕ f)) ≡ onto (reverse front ++ ds) (merged (as_data f)))
        → merged (as_data ((elim r as (λ _. Forest) [ None ↦ email_leaves n (c ∷ before) cs | Some x ↦ leaf Name.Data x.0 ⊕ x.1 ⊕ email_leaves n [] x.2 ]) ⊕ f)) ≡ onto (reverse before ++ c ∷ cs) (merged (as_data f))
    by_answer None h k more = more (c ∷ before) cs ∙ ap (λ xs. onto xs (merged (as_data f))) (reverse-first c before cs)
    by_answer (Some x) h k more =
        ap (λ t. merged (as_data t)) (three (leaf Name.Data x.0) x.1 (email_leaves n [] x.2))
        ∙ data-first x.0 (x.1 ⊕ (email_leaves n [] x.2 ⊕ f))
        ∙ ap (onto x.0) (email-first x.1 (email_leaves n [] x.2 ⊕ f) k ∙ ap (onto (leaf_codes x.1)) (more [] x.2) ∙ onto-twice (leaf_codes x.1) x.2 (merged (as_data f)))
        ∙ onto-twice x.0 (leaf_codes x.1 ++ x.2) (merged (as_data f))
        ∙ ap (λ xs. onto xs (merged (as_data f))) h
      where
        join-assoc : (a b d : Forest) → (a ⊕ b) ⊕ d ≡ a ⊕ (b ⊕ d)
        join-assoc empty b d = refl
        join-assoc (leaf_then name link es rest) b d = ap (leaf_then name link es) (join-assoc rest b d)
        join-assoc (group_then name enter exit inside rest) b d = grind (arith, join-assoc rest b d)

        three : (a b d : Forest) → (a ⊕ b ⊕ d) ⊕ f ≡ a ⊕ (b ⊕ (d ⊕ f))
        three a b d = join-assoc a (b ⊕ d) f ∙ ap (λ t. a ⊕ t) (join-assoc b d f)

other-leaf : (name : Name) (cs : List Code) (f g : Forest) → merged f ≡ merged g →
    merged (leaf_then name None cs f) ≡ merged (leaf_then name None cs g)
unfolding merged
other-leaf Name.Data cs f g h = ap (data_onto cs) h
other-leaf name cs f g h = ap (leaf_then name None cs) h

pub emails_stand_in_data : EmailsStandInData
unfolding merged with_emails_apart with_emails
emails_stand_in_data empty h = refl
emails_stand_in_data (leaf_then Name.Data None [] rest) h = cc
emails_stand_in_data (leaf_then Name.Data None (c ∷ cs) rest) h = grind (arith, emails-data, emails_stand_in_data rest h.1)
emails_stand_in_data (leaf_then name None cs rest) h = grind (arith, other-leaf, emails_stand_in_data rest h)
emails_stand_in_data (leaf_then Name.Data (Some link) cs rest) h = grind (arith, emails_stand_in_data rest h)
emails_stand_in_data (leaf_then name (Some link) cs rest) h = grind (arith, emails_stand_in_data rest h)
emails_stand_in_data (group_then Name.Link enter exit inside rest) h = grind (arith, emails_stand_in_data rest h.1)
emails_stand_in_data (group_then name enter exit inside rest) h =
    λ i. group_then name enter exit (emails_stand_in_data inside h.0 i) (emails_stand_in_data rest h.1 i)
