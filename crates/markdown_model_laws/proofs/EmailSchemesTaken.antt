-- Which scheme belongs to an email literal.
use Rattle.std.proofs.Common.{◌≡◌, Bool, true, false, ◌&&◌, List, [], ◌∷◌, ◌++◌, reverse, refl, ap, ◌∙◌, append_assoc, Some, None, if◌then◌else◌, arith}
use Rattle.std.proofs.lemmas.List.{reverse-append, reverse-reverse}
use Rattle.markdown_event.specs.declared.event.Name.{Name}
use Rattle.markdown_content.specs.Codes.{Code}
use Rattle.markdown_model.specs.CodeTests.{is_value, is_alphanumeric}
use Rattle.markdown_model.specs.GfmEmailLiteral.{is_word, email_protocol}
use Rattle.markdown_model_laws.specs.BlanksApart.{EndsIn}
use Rattle.markdown_model_laws.specs.EmailSchemes.{scheme_name, literal_behind, SchemesAreTaken}
use Rattle.markdown_model_laws.proofs.CodesAtEnds.{end-found}

scheme-taken : (before front word : List Code) (colon : Code) → EndsIn is_alphanumeric before front word →
    email_protocol (reverse (before ++ (colon ∷ []))) ≡ literal_behind (if is_value 58 colon then scheme_name word else None) front (word ++ (colon ∷ []))
unfolding email_protocol
scheme-taken before front word colon e =
    ap email_protocol (reverse-append before (colon ∷ []))
    ∙ ap by_cut (end-found is_alphanumeric before front word e)
    ∙ by_tests (is_value 58 colon) (is_word "mailto" (reverse (reverse word))) (is_word "xmpp" (reverse (reverse word)))
    ∙ (λ i. literal_behind (if is_value 58 colon then scheme_name (reverse-reverse word i) else None) front (word ++ (colon ∷ [])))
  where
    choice : Bool → Bool → Bool → List Code × List Code → Name × List Code × List Code
    choice a b c s = elim (a && b) [
      | true ↦ (Name.GfmAutolinkLiteralMailto, colon ∷ s.0, s.1)
      | false ↦ elim (a && c) [ true ↦ (Name.GfmAutolinkLiteralXmpp, colon ∷ s.0, s.1) | false ↦ (Name.GfmAutolinkLiteralEmail, [], colon ∷ reverse before) ]
    ]

    by_cut : List Code × List Code → Name × List Code × List Code
    by_cut s = choice (is_value 58 colon) (is_word "mailto" (reverse s.0)) (is_word "xmpp" (reverse s.0)) s

    by_tests : (a b c : Bool) → choice a b c (reverse word, reverse front) ≡ literal_behind (if a then (if b then Some Name.GfmAutolinkLiteralMailto else if c then Some Name.GfmAutolinkLiteralXmpp else None) else None) front (word ++ (colon ∷ []))
    by_tests a b c = grind (arith, reverse-append, e.stands, append_assoc)

pub schemes_are_taken : SchemesAreTaken
unfolding email_protocol
schemes_are_taken = (refl, scheme-taken)
