-- What holds of each of the names that a tree may give a pair, blank codes before a line ending, or an email literal, holds of those that it gives.
use Rattle.std.proofs.Common.{◌==◌, ℕ, Bool, true, false, ◌&&◌, List, [], ◌∷◌, reverse}
use Rattle.std.specs.Str.{byte}
use Rattle.markdown_event.specs.declared.event.Name.{Name}
use Rattle.markdown_content.specs.Codes.{Code}
use Rattle.markdown_model.specs.CodeTests.{is_value, is_alphanumeric}
use Rattle.markdown_model.specs.GfmEmailLiteral.{email_protocol, is_word}
use Rattle.markdown_model.specs.Grammar.{span}
use Rattle.markdown_model.specs.BracketGroups.{pair_names}
use Rattle.markdown_model.specs.Passes.{HardBreaks, is_hard_break_trailing, blank_name}

-- of strikethrough, of strong emphasis and of emphasis
pub pair-named : (P : Name × Name × Name → Type 0) → P (Name.GfmStrikethrough, Name.GfmStrikethroughSequence, Name.GfmStrikethroughText)
    → P (Name.Strong, Name.StrongSequence, Name.StrongText) → P (Name.Emphasis, Name.EmphasisSequence, Name.EmphasisText) → (marker size : ℕ) → P (pair_names marker size)
pair-named P struck strong emphasis marker size = by_tests (marker == 126) (size == 2)
  where
    by_tests : (a b : Bool) → P (elim a as (λ _. Name × Name × Name) [
      | true ↦ (Name.GfmStrikethrough, Name.GfmStrikethroughSequence, Name.GfmStrikethroughText)
      | false ↦ elim b [ true ↦ (Name.Strong, Name.StrongSequence, Name.StrongText) | false ↦ (Name.Emphasis, Name.EmphasisSequence, Name.EmphasisText) ]
    ])
    by_tests true b = struck
    by_tests false true = strong
    by_tests false false = emphasis

-- of a hard break and of other spaces and tabs
pub blank-named : (P : Name → Type 0) → P Name.HardBreakTrailing → P Name.SpaceOrTab → (hard : HardBreaks) (cs : List Code) →
    P (blank_name hard cs)
blank-named P break blank hard cs = by_test (hard.on && is_hard_break_trailing hard.two_last cs)
  where
    by_test : (b : Bool) → P (elim b as (λ _. Name) [ true ↦ Name.HardBreakTrailing | false ↦ Name.SpaceOrTab ])
    by_test true = break
    by_test false = blank

-- of an address, and of one behind `mailto:` or `xmpp:`
pub email-named : (P : Name → Type 0) → P Name.GfmAutolinkLiteralEmail → P Name.GfmAutolinkLiteralMailto →
    P Name.GfmAutolinkLiteralXmpp → (before : List Code) → P (email_protocol before).0
unfolding email_protocol
email-named P bare mailto xmpp [] = bare
email-named P bare mailto xmpp (c ∷ cs) = by_tests (is_value (byte ":") c && is_word "mailto" (reverse s.0)) (is_value (byte ":") c && is_word "xmpp" (reverse s.0))
  where
    s : List Code × List Code
    s = span is_alphanumeric cs

    by_tests : (a b : Bool) → P (elim a as (λ _. Name × List Code × List Code) [
      | true ↦ (Name.GfmAutolinkLiteralMailto, c ∷ s.0, s.1)
      | false ↦ elim b [ true ↦ (Name.GfmAutolinkLiteralXmpp, c ∷ s.0, s.1) | false ↦ (Name.GfmAutolinkLiteralEmail, [], c ∷ cs) ]
    ]).0
    by_tests true b = mailto
    by_tests false true = xmpp
    by_tests false false = bare
