-- What literals read, and what emails make of data, covers it.
use Rattle.std.proofs.Common.{◌≡◌, ℕ, zero, suc, Bool, true, false, ◌&&◌, not, List, [], ◌∷◌, ◌++◌, length, reverse, refl, sym, ◌∙◌, ap, Option, Some, None}
use Rattle.std.proofs.lemmas.List.{append_assoc, append-nil, reverse-append}
use Rattle.markdown_event.specs.declared.event.Name.{Name}
use Rattle.markdown_content.specs.Codes.{Code}
use Rattle.markdown_content.specs.Tree.{Forest, leaf, ◌⊕◌, leaf_codes}
use Rattle.markdown_model.specs.CodeTests.{is_value, is_empty, next_is, is_alphanumeric}
use Rattle.markdown_model.specs.Grammar.{span}
use Rattle.markdown_model.specs.GfmAutolinkLiteral.{letters, one_word_of, domain, path, path_from, ends_path, count_if, domain_from, is_domain, is_domain_code}
use Rattle.markdown_model.specs.GfmEmailLiteral.{is_local, is_word, email_protocol, is_xmpp, email_domain, is_email_domain, email_at, email_leaves, with_emails}
use Rattle.markdown_model.proofs.LeafCodes.{codes-leaf, span-append}
use Rattle.markdown_model.proofs.ReadingsCover.{Takes, itself, bind, given, one_of, chosen_at, takes_one}
use Rattle.markdown_content.proofs.TreeCodes.{leaf_codes-row}

takes_letters : (ns : List ℕ) → Takes (letters ns)
unfolding letters
takes_letters [] = given _ _ [] refl
takes_letters (n ∷ ns) =
    bind _ _ _ _ _ (takes_one _) λ a. bind _ _ _ _ _ (takes_letters ns) λ b. given _ _ (a ++ b) refl

pub takes_one_word : (words : List (List ℕ)) → Takes (one_word_of words)
unfolding one_word_of
takes_one_word [] = record { at = λ cs. tt }
takes_one_word (word ∷ words) = one_of _ _ _ _ (takes_letters word) (takes_one_word words)

-- a front, and the rest
abbrev pub IsSplit : List Code → List Code × List Code → Type 0
IsSplit cs s = s.0 ++ s.1 ≡ cs

split_first : (c : Code) (cs : List Code) (b : Bool) (s : List Code × List Code) → IsSplit cs s
    → IsSplit (c ∷ cs) (elim b [ true ↦ (c ∷ s.0, s.1) | false ↦ ([], c ∷ cs) ])
split_first c cs true s h = ap (λ x. c ∷ x) h
split_first c cs false s h = refl

split_stop : (c : Code) (cs : List Code) (b : Bool) (s : List Code × List Code) → IsSplit cs s
    → IsSplit (c ∷ cs) (elim b [ true ↦ ([], c ∷ cs) | false ↦ (c ∷ s.0, s.1) ])
split_stop c cs true s h = refl
split_stop c cs false s h = ap (λ x. c ∷ x) h

module _ (bytes : List ℕ) (end : ℕ) where
  pub domain_split : (cs : List Code) → IsSplit cs (domain_from bytes end cs)
  domain_split [] = refl
  domain_split (c ∷ cs) =
      split_first c cs (is_domain_code bytes end (c ∷ cs)) (domain_from bytes end cs) (domain_split cs)

  pub takes_domain : Takes (domain bytes end)
  unfolding domain
  takes_domain =
      record { at = λ cs. chosen_at itself [] cs (is_domain (domain_from bytes end cs).0) (Some (domain_from bytes end cs)) None (domain_split cs) tt }

  path_split : (opened closed : ℕ) (cs : List Code) → IsSplit cs (path_from bytes end opened closed cs)
  path_split opened closed [] = refl
  path_split opened closed (c ∷ cs) =
      split_stop c cs (ends_path bytes end opened closed (c ∷ cs)) (path_from bytes end (count_if 40 c opened) (count_if 41 c closed) cs)
      (path_split (count_if 40 c opened) (count_if 41 c closed) cs)

  pub takes_path : Takes (path bytes end)
  unfolding path
  takes_path = record { at = λ cs. path_split 0 0 cs }

-- Emails.

pub domain_of_split : (slashes : Bool) (cs : List Code) → IsSplit cs (email_domain slashes cs)
domain_of_split slashes [] = refl
domain_of_split slashes (c ∷ cs) = split_first c cs _ (email_domain slashes cs) (domain_of_split slashes cs)

-- the codes before a local part, last one first, are those that belong to the literal and the others
pub protocol_split : (cs : List Code) → (email_protocol cs).1 ++ (email_protocol cs).2 ≡ cs
unfolding email_protocol
protocol_split [] = refl
protocol_split (c ∷ cs) =
    by_tests (is_value 58 c && is_word "mailto" (reverse (span is_alphanumeric cs).0)) (is_value 58 c && is_word "xmpp" (reverse (span is_alphanumeric cs).0))
  where
    by_tests : (a b : Bool) →
        let r : Name × List Code × List Code = elim a [
          | true ↦ (Name.GfmAutolinkLiteralMailto, c ∷ (span is_alphanumeric cs).0, (span is_alphanumeric cs).1)
          | false ↦ elim b [
            | true ↦ (Name.GfmAutolinkLiteralXmpp, c ∷ (span is_alphanumeric cs).0, (span is_alphanumeric cs).1)
            | false ↦ (Name.GfmAutolinkLiteralEmail, [], c ∷ cs)
          ]
        ] in r.1 ++ r.2 ≡ c ∷ cs
    by_tests true b = ap (λ x. c ∷ x) (span-append is_alphanumeric cs)
    by_tests false true = ap (λ x. c ∷ x) (span-append is_alphanumeric cs)
    by_tests false false = refl

-- the parts of an answer at an `@` are the codes before, the `@` and the codes after
abbrev pub HasCodesAround : List Code → Code → List Code → Option (List Code × Forest × List Code) → Type 0
HasCodesAround before at after None = Unit {0}
HasCodesAround before at after (Some r) = r.0 ++ (leaf_codes r.1 ++ r.2) ≡ reverse before ++ at ∷ after

pub found : (before : List Code) (at : Code) (after : List Code) → HasCodesAround before at after (email_at before at after)
unfolding email_at
found before at after = by_test (is_value 64 at && (not (is_empty local.0) && not (next_is (is_value 47) local.1)) && is_email_domain domain.0)
  where
    local : List Code × List Code
    local = span is_local before

    protocol : Name × List Code × List Code
    protocol = email_protocol local.1

    domain : List Code × List Code
    domain = email_domain (is_xmpp protocol.0) after

    kept : reverse protocol.2 ++ reverse (local.0 ++ protocol.1) ≡ reverse before
    kept = sym (reverse-append (local.0 ++ protocol.1) protocol.2)
        ∙ ap reverse (append_assoc local.0 protocol.1 protocol.2 ∙ ap (λ x. local.0 ++ x) (protocol_split local.1) ∙ span-append is_local before)

    whole : reverse protocol.2 ++ (leaf_codes (leaf protocol.0 (reverse (local.0 ++ protocol.1) ++ at ∷ domain.0)) ++ domain.1) ≡ reverse before ++ at ∷ after
    whole =
        ap (λ x. reverse protocol.2 ++ (x ++ domain.1)) (codes-leaf protocol.0 (reverse (local.0 ++ protocol.1) ++ at ∷ domain.0))
        ∙ ap (λ x. reverse protocol.2 ++ x) (append_assoc (reverse (local.0 ++ protocol.1)) (at ∷ domain.0) domain.1)
        ∙ sym (append_assoc (reverse protocol.2) (reverse (local.0 ++ protocol.1)) (at ∷ (domain.0 ++ domain.1)))
        ∙ (λ i. kept i ++ at ∷ domain_of_split (is_xmpp protocol.0) after i)

    by_test : (b : Bool) → HasCodesAround before at after (elim b
        [ true ↦ Some (reverse protocol.2, leaf protocol.0 (reverse (local.0 ++ protocol.1) ++ at ∷ domain.0), domain.1) | false ↦ None ])
    by_test true = whole
    by_test false = tt

pub reverse-first : (c : Code) (before cs : List Code) → reverse (c ∷ before) ++ cs ≡ reverse before ++ c ∷ cs
reverse-first c before cs =
    ap (λ x. x ++ cs) (reverse-append (c ∷ []) before) ∙ append_assoc (reverse before) (c ∷ []) cs

pub codes-email_leaves : (n : ℕ) (before cs : List Code) → leaf_codes (email_leaves n before cs) ≡ reverse before ++ cs
unfolding email_leaves
codes-email_leaves n before [] = codes-leaf Name.Data (reverse before) ∙ sym (append-nil (reverse before))
codes-email_leaves zero before (c ∷ cs) = codes-leaf Name.Data (reverse before ++ c ∷ cs)
codes-email_leaves (suc n) before (c ∷ cs) = by_answer (email_at before c cs) (found before c cs) (codes-email_leaves n)
  where
    by_answer : (r : Option (List Code × Forest × List Code)) → HasCodesAround before c cs r
        → ((front ds : List Code) → leaf_codes (email_leaves n front ds) ≡ reverse front ++ ds)
        → leaf_codes (elim r [ None ↦ email_leaves n (c ∷ before) cs | Some x ↦ leaf Name.Data x.0 ⊕ x.1 ⊕ email_leaves n [] x.2 ]) ≡ reverse before ++ c ∷ cs
    by_answer None h more = more (c ∷ before) cs ∙ reverse-first c before cs
    by_answer (Some x) h more =
        leaf_codes-row (leaf Name.Data x.0) (x.1 ⊕ email_leaves n [] x.2)
        ∙ (λ i. codes-leaf Name.Data x.0 i ++ (leaf_codes-row x.1 (email_leaves n [] x.2) ∙ ap (λ z. leaf_codes x.1 ++ z) (more [] x.2)) i)
        ∙ h

pub codes-with_emails : (cs : List Code) → leaf_codes (with_emails cs) ≡ cs
unfolding with_emails
codes-with_emails cs = codes-email_leaves (length cs) [] cs
