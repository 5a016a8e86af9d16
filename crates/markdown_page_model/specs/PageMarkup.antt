-- Markup of a page that the writer alone makes: elements of blocks, from a list, balanced and nested, with own markup of texts between and inside them.
use Rattle.std.specs.Prelude.{ℕ, ◌≡◌, Bool, true, List, [], ◌++◌, codes, decimal, Option, None, Some}
use Rattle.markdown_model.specs.CodeTests.{is_between}
use Rattle.markdown_html_model.specs.OwnMarkup.{Markup, bytes_of, HasNoMarkup, IsOwn}

-- elements that hold markup of texts alone: a paragraph, a heading of a level from 1 to 6, and code in a language, if it names one
pub data TextElement : Type 0 where
  paragraph : TextElement
  heading : ℕ → TextElement
  code : Option (List ℕ) → TextElement

-- elements that hold blocks; of an ordered list the number of its first item, if it is told
pub data BlockElement : Type 0 where
  quote : BlockElement
  bullet_list : BlockElement
  ordered_list : Option ℕ → BlockElement
  item : BlockElement

pub data PageMarkup : Type 0 where
  nothing : PageMarkup
  markup_then : Markup → PageMarkup → PageMarkup
  break_then : PageMarkup → PageMarkup
  text_element_then : TextElement → Markup → PageMarkup → PageMarkup
  block_element_then : BlockElement → PageMarkup → PageMarkup → PageMarkup

-- Bytes.

abbrev pub class_bytes : Option (List ℕ) → List ℕ
class_bytes None = []
class_bytes (Some language) = codes " class=\"language-" ++ language ++ codes "\""

abbrev pub text_element_bytes : TextElement → List ℕ → List ℕ
text_element_bytes paragraph inside = codes "<p>" ++ inside ++ codes "</p>"
text_element_bytes (heading level) inside = codes "<h" ++ decimal level ++ codes ">" ++ inside ++ codes "</h" ++ decimal level ++ codes ">"
text_element_bytes (code language) inside = codes "<pre><code" ++ class_bytes language ++ codes ">" ++ inside ++ codes "</code></pre>"

abbrev pub start_bytes : Option ℕ → List ℕ
start_bytes None = []
start_bytes (Some number) = codes " start=\"" ++ decimal number ++ codes "\""

abbrev pub block_element_bytes : BlockElement → List ℕ → List ℕ
block_element_bytes quote inside = codes "<blockquote>" ++ inside ++ codes "</blockquote>"
block_element_bytes bullet_list inside = codes "<ul>" ++ inside ++ codes "</ul>"
block_element_bytes (ordered_list start) inside = codes "<ol" ++ start_bytes start ++ codes ">" ++ inside ++ codes "</ol>"
block_element_bytes item inside = codes "<li>" ++ inside ++ codes "</li>"

abbrev pub page_bytes : PageMarkup → List ℕ
page_bytes nothing = []
page_bytes (markup_then markup rest) = bytes_of markup ++ page_bytes rest
page_bytes (break_then rest) = codes "<hr />" ++ page_bytes rest
page_bytes (text_element_then element inside rest) = text_element_bytes element (bytes_of inside) ++ page_bytes rest
page_bytes (block_element_then element inside rest) = block_element_bytes element (page_bytes inside) ++ page_bytes rest

-- What each text, each value of an attribute and each address is. With `any` an address may lead anywhere.

abbrev pub IsOwnTextElement : TextElement → Type 0
IsOwnTextElement (heading level) = is_between 1 6 level ≡ true
IsOwnTextElement (code (Some language)) = HasNoMarkup language
IsOwnTextElement element = Unit {0}

abbrev pub IsOwnPageMarkup : Bool → PageMarkup → Type 0
IsOwnPageMarkup any nothing = Unit {0}
IsOwnPageMarkup any (markup_then markup rest) = IsOwn any markup × IsOwnPageMarkup any rest
IsOwnPageMarkup any (break_then rest) = IsOwnPageMarkup any rest
IsOwnPageMarkup any (text_element_then element inside rest) = IsOwnTextElement element × IsOwn any inside × IsOwnPageMarkup any rest
IsOwnPageMarkup any (block_element_then element inside rest) = IsOwnPageMarkup any inside × IsOwnPageMarkup any rest

-- the bytes are such markup
abbrev pub IsOwnPage : Bool → List ℕ → Type 0
IsOwnPage any bytes = (markup : PageMarkup) × IsOwnPageMarkup any markup × (bytes ≡ page_bytes markup)
