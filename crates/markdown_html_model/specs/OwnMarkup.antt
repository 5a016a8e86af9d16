-- Markup that the writer alone makes: text without markup, and elements of a list with their attributes, balanced and nested.
use Rattle.std.specs.Prelude.{ℕ, ◌≡◌, Bool, true, ◌||◌, List, [], ◌++◌, codes, Option, None, Some}
use Rattle.markdown_html_model.specs.Escaped.{has_no_markup}
use Rattle.markdown_html_model.specs.Schemes.{link_schemes, image_schemes}
use Rattle.markdown_html_model.specs.BrowserScheme.{is_safe_value}

-- elements that hold others
pub data HoldingElement : Type 0 where
  emphasis : HoldingElement
  strong : HoldingElement
  deleted : HoldingElement
  code : HoldingElement
  math : HoldingElement
  superscript : HoldingElement
  link : List ℕ → Option (List ℕ) → HoldingElement
  call : List ℕ → List ℕ → HoldingElement

-- elements that hold nothing
pub data Void : Type 0 where
  line_break : Void
  unchecked : Void
  checked : Void
  image : List ℕ → List ℕ → Option (List ℕ) → Void

pub data Markup : Type 0 where
  nothing : Markup
  text_then : List ℕ → Markup → Markup
  void_then : Void → Markup → Markup
  element_then : HoldingElement → Markup → Markup → Markup

-- Bytes.

abbrev pub title_bytes : Option (List ℕ) → List ℕ
title_bytes None = []
title_bytes (Some title) = codes " title=\"" ++ title ++ codes "\""

abbrev pub element_bytes : HoldingElement → List ℕ → List ℕ
element_bytes emphasis inside = codes "<em>" ++ inside ++ codes "</em>"
element_bytes strong inside = codes "<strong>" ++ inside ++ codes "</strong>"
element_bytes deleted inside = codes "<del>" ++ inside ++ codes "</del>"
element_bytes code inside = codes "<code>" ++ inside ++ codes "</code>"
element_bytes math inside = codes "<code class=\"language-math math-inline\">" ++ inside ++ codes "</code>"
element_bytes superscript inside = codes "<sup>" ++ inside ++ codes "</sup>"
element_bytes (link href title) inside = codes "<a href=\"" ++ href ++ codes "\"" ++ title_bytes title ++ codes ">" ++ inside ++ codes "</a>"
element_bytes (call href id) inside =
    codes "<a href=\"" ++ href ++ codes "\" id=\"" ++ id ++ codes "\" data-footnote-ref=\"\" aria-describedby=\"footnote-label\">" ++ inside ++ codes "</a>"

abbrev pub void_bytes : Void → List ℕ
void_bytes line_break = codes "<br />"
void_bytes unchecked = codes "<input type=\"checkbox\" disabled=\"\" />"
void_bytes checked = codes "<input type=\"checkbox\" disabled=\"\" checked=\"\" />"
void_bytes (image src alt title) = codes "<img src=\"" ++ src ++ codes "\" alt=\"" ++ alt ++ codes "\"" ++ title_bytes title ++ codes " />"

abbrev pub bytes_of : Markup → List ℕ
bytes_of nothing = []
bytes_of (text_then text rest) = text ++ bytes_of rest
bytes_of (void_then void rest) = void_bytes void ++ bytes_of rest
bytes_of (element_then element inside rest) = element_bytes element (bytes_of inside) ++ bytes_of rest

-- What each text and each value of an attribute is. With `any` an address may lead anywhere.

abbrev pub HasNoMarkup : List ℕ → Type 0
HasNoMarkup text = has_no_markup text ≡ true

abbrev pub IsQuietTitle : Option (List ℕ) → Type 0
IsQuietTitle None = Unit {0}
IsQuietTitle (Some title) = HasNoMarkup title

abbrev pub IsAddress : Bool → List (List ℕ) → List ℕ → Type 0
IsAddress any schemes value = HasNoMarkup value × ((any || is_safe_value schemes value) ≡ true)

abbrev pub IsOwnElement : Bool → HoldingElement → Type 0
IsOwnElement any (link href title) = IsAddress any link_schemes href × IsQuietTitle title
IsOwnElement any (call href id) = IsAddress any link_schemes href × HasNoMarkup id
IsOwnElement any element = Unit {0}

abbrev pub IsOwnVoid : Bool → Void → Type 0
IsOwnVoid any (image src alt title) = IsAddress any image_schemes src × HasNoMarkup alt × IsQuietTitle title
IsOwnVoid any void = Unit {0}

abbrev pub IsOwn : Bool → Markup → Type 0
IsOwn any nothing = Unit {0}
IsOwn any (text_then text rest) = HasNoMarkup text × IsOwn any rest
IsOwn any (void_then void rest) = IsOwnVoid any void × IsOwn any rest
IsOwn any (element_then element inside rest) = IsOwnElement any element × IsOwn any inside × IsOwn any rest

-- the bytes are such markup
abbrev pub IsOwnMarkup : Bool → List ℕ → Type 0
IsOwnMarkup any bytes = (markup : Markup) × IsOwn any markup × (bytes ≡ bytes_of markup)
