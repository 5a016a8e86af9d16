-- HTML in text (CommonMark 6.6): its six kinds, each over one or more lines.
use Rattle.std.specs.Prelude.{ℕ, Bool, ◌&&◌, ◌||◌, not, List, None, codes}
use Rattle.std.specs.Str.{byte}
use Rattle.markdown_content.specs.Codes.{Code}
use Rattle.markdown_content.specs.Tree.{Forest, group}
use Rattle.markdown_event.specs.declared.event.Name.{Name}
use Rattle.markdown_model.specs.CodeTests.{is_value, is_among, next_is, is_whitespace_code, is_letter, is_alphanumeric}
use Rattle.markdown_model.specs.Grammar.{Reading, ◌>>=◌, gives, either, one, some, any_number, before, word, through, ◌then_◌, repeatedly, optional}
use Rattle.markdown_model.specs.TextLines.{lines}

-- whitespace: spaces, tabs and line endings; blank lines cannot stand in text
unfoldable pub spaces : Reading (List Code)
spaces = some is_whitespace_code

unfoldable pub optional_spaces : Reading (List Code)
optional_spaces = any_number is_whitespace_code

unfoldable pub tag_name : Reading (List Code)
tag_name = one is_letter then_ any_number (λ c. is_alphanumeric c || is_value (byte "-") c)

unfoldable pub attribute_name : Reading (List Code)
attribute_name =
    one (λ c. is_letter c || is_among (codes ":_") c)
    then_ any_number (λ c. is_alphanumeric c || is_among (codes "-.:_") c)

unfoldable pub quoted_value : ℕ → Reading (List Code)
quoted_value quote = one (is_value quote) then_ any_number (λ c. not (is_value quote c)) then_ one (is_value quote)

-- what no unquoted value holds
abbrev pub ends_value : Code → Bool
ends_value c = is_whitespace_code c || is_among (codes "\"'<=>`") c

-- a code of an unquoted value after its first; `/` is one where slashes may stand in values, as CommonMark says
abbrev pub is_later_code : Bool → Code → Bool
is_later_code slashes c = not (ends_value c || (is_value (byte "/") c && not slashes))

unfoldable pub unquoted_value : Bool → Reading (List Code)
unquoted_value slashes =
    before (one (λ c. not (ends_value c)) then_ any_number (is_later_code slashes))
    (next_is (λ c. is_whitespace_code c || is_among (codes "/>") c))

unfoldable pub attribute_value : Bool → Reading (List Code)
attribute_value slashes = either (quoted_value (byte "\"")) (either (quoted_value (byte "'")) (unquoted_value slashes))

unfoldable pub attribute : Bool → Reading (List Code)
attribute slashes =
    attribute_name then_ optional (optional_spaces then_ one (is_value (byte "=")) then_ optional_spaces then_ attribute_value slashes)

unfoldable pub open_tag : Bool → Reading (List Code)
open_tag slashes = word "<" then_ tag_name then_ repeatedly (spaces then_ attribute slashes) then_ optional_spaces then_ optional (word "/") then_ word ">"

unfoldable pub closing_tag : Reading (List Code)
closing_tag = word "</" then_ tag_name then_ optional_spaces then_ word ">"

-- the dashes that end a comment may be those that began it
unfoldable pub comment : Reading (List Code)
comment = either (word "<!-->") (either (word "<!--->") (word "<!--" then_ through "-->"))

unfoldable pub instruction : Reading (List Code)
instruction = word "<?" then_ through "?>"

unfoldable pub declaration : Reading (List Code)
declaration = word "<!" then_ one is_letter then_ through ">"

unfoldable pub cdata : Reading (List Code)
cdata = word "<![CDATA[" then_ through "]]>"

unfoldable pub html_codes : Bool → Reading (List Code)
html_codes slashes = either (open_tag slashes) (either closing_tag (either comment (either instruction (either declaration cdata))))

-- by the Bool slashes may stand in unquoted values
unfoldable pub html_text : Bool → Reading Forest
html_text slashes = do
  text ← html_codes slashes
  gives (group Name.HtmlText (lines Name.HtmlTextData None text))
