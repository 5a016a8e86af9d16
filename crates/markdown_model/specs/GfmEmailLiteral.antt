-- Email literals (GFM 6.9): addresses that stand bare, found in the codes of one data from the left.
use Rattle.std.specs.Prelude.{ℕ, zero, suc, Bool, true, false, ◌&&◌, ◌||◌, not, List, [], ◌∷◌, ◌++◌, length, reverse, Option, Some, None, codes}
use Rattle.std.specs.Str.{byte}
use Rattle.std.specs.List.{list_any}
use Prim.Native.String.{String}
use Rattle.markdown_content.specs.Codes.{Code}
use Rattle.markdown_content.specs.Tree.{Forest, leaf, ◌⊕◌}
use Rattle.markdown_event.specs.declared.event.Name.{Name}
use Rattle.markdown_model.specs.CodeTests.{is_value, is_among, is_empty, next_is, is_letter, is_alphanumeric, last_code, is_some_code}
use Rattle.markdown_model.specs.Grammar.{span}
use Rattle.markdown_model.specs.GfmAutolinkLiteral.{letters}

-- Before an `@`: letters, digits and `+-._`, one at least and as many as there are, but not after a `/`.
-- `mailto:` or `xmpp:` before these, as a whole word, belongs to the literal. Neither reaches into the
-- literal before.

abbrev pub is_local : Code → Bool
is_local c = is_alphanumeric c || is_among (codes "+-._") c

abbrev pub is_word : String → List Code → Bool
is_word text cs = elim (letters (codes text) cs) [ None ↦ false | Some r ↦ is_empty r.1 ]

-- The name of the literal, and the codes before its local part, cut into those that belong to the
-- literal and those that do not. All lists of codes before are last one first.
unfoldable pub email_protocol : List Code → Name × List Code × List Code
email_protocol [] = (Name.GfmAutolinkLiteralEmail, [], [])
email_protocol (c ∷ cs) =
    let s = span is_alphanumeric cs in
    elim (is_value (byte ":") c && is_word "mailto" (reverse s.0)) [
      | true ↦ (Name.GfmAutolinkLiteralMailto, c ∷ s.0, s.1)
      | false ↦ elim (is_value (byte ":") c && is_word "xmpp" (reverse s.0)) [
        | true ↦ (Name.GfmAutolinkLiteralXmpp, c ∷ s.0, s.1)
        | false ↦ (Name.GfmAutolinkLiteralEmail, [], c ∷ cs)
      ]
    ]

abbrev pub is_xmpp : Name → Bool
is_xmpp Name.GfmAutolinkLiteralXmpp = true
is_xmpp _ = false

-- After the `@`: letters, digits, `-`, `_`, a `.` before a letter or digit, and with `xmpp:` also `/`, as
-- many as there are, with a `.` among them and a letter last. GFM asks that neither `-` nor `_` is last.

abbrev pub email_domain : Bool → List Code → List Code × List Code
email_domain slashes [] = ([], [])
email_domain slashes (c ∷ cs) =
    elim ((is_alphanumeric c || is_among (codes "-_") c) || ((slashes && is_value (byte "/") c) || (is_value (byte ".") c && next_is is_alphanumeric cs))) [
      | true ↦ let s = email_domain slashes cs in (c ∷ s.0, s.1)
      | false ↦ ([], c ∷ cs)
    ]

abbrev pub is_email_domain : List Code → Bool
is_email_domain cs = list_any (is_value (byte ".")) cs && is_some_code is_letter (last_code cs)

-- where the code at hand is the `@` of a literal, with these codes before it and after it: the codes
-- before the literal, the literal, and the codes after it
unfoldable pub email_at : List Code → Code → List Code → Option (List Code × Forest × List Code)
email_at before at after =
    let local = span is_local before in
    let protocol = email_protocol local.1 in
    let domain = email_domain (is_xmpp protocol.0) after in
    elim (is_value (byte "@") at && (not (is_empty local.0) && not (next_is (is_value (byte "/")) local.1)) && is_email_domain domain.0) [
      | true ↦ Some (reverse protocol.2, leaf protocol.0 (reverse (local.0 ++ protocol.1) ++ at ∷ domain.0), domain.1)
      | false ↦ None
    ]

-- the leaves of a data from here on, after these codes of it; n bounds the steps
unfoldable pub email_leaves : ℕ → List Code → List Code → Forest
email_leaves n before [] = leaf Name.Data (reverse before)
email_leaves zero before (c ∷ cs) = leaf Name.Data (reverse before ++ c ∷ cs)
email_leaves (suc n) before (c ∷ cs) =
    elim (email_at before c cs) [
      | None ↦ email_leaves n (c ∷ before) cs
      | Some r ↦ leaf Name.Data r.0 ⊕ r.1 ⊕ email_leaves n [] r.2
    ]

-- the leaves of a data with these codes: email literals, and data between them
unfoldable pub with_emails : List Code → Forest
with_emails cs = email_leaves (length cs) [] cs
