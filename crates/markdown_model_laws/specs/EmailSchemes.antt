-- Which scheme belongs to an email literal.
use Rattle.std.specs.Prelude.{◌≡◌, List, [], ◌∷◌, ◌++◌, reverse, Option, Some, None, if◌then◌else◌}
use Rattle.std.specs.Str.{byte}
use Rattle.markdown_event.specs.declared.event.Name.{Name}
use Rattle.markdown_content.specs.Codes.{Code}
use Rattle.markdown_model.specs.CodeTests.{is_value, is_alphanumeric}
use Rattle.markdown_model.specs.GfmEmailLiteral.{is_word, email_protocol}
use Rattle.markdown_model_laws.specs.BlanksApart.{EndsIn}

-- what these letters, in either case, and a `:` name a literal
abbrev pub scheme_name : List Code → Option Name
scheme_name word =
    if is_word "mailto" word then Some Name.GfmAutolinkLiteralMailto else if is_word "xmpp" word then Some Name.GfmAutolinkLiteralXmpp else None

-- what a literal behind these codes is named, which of them belong to it and which do not, last one first
abbrev pub literal_behind : Option Name → List Code → List Code → Name × List Code × List Code
literal_behind None front scheme = (Name.GfmAutolinkLiteralEmail, [], reverse (front ++ scheme))
literal_behind (Some name) front scheme = (name, reverse scheme, reverse front)

-- Before an email literal (GFM 6.9) `mailto:` or `xmpp:` belongs to it, as a whole word: the word is all letters and digits right before a `:`.
abbrev pub SchemesAreTaken : Type 0
SchemesAreTaken =
    (email_protocol [] ≡ literal_behind None [] [])
    × ((before front word : List Code) (colon : Code) → EndsIn is_alphanumeric before front word
    → email_protocol (reverse (before ++ (colon ∷ []))) ≡ literal_behind (if is_value (byte ":") colon then scheme_name word else None) front (word ++ (colon ∷ [])))
