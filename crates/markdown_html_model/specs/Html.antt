-- The HTML of an inline tree (CommonMark 0.31, chapter 6; GFM's strikethrough, literals, task checks and footnote calls; math spans).
use Rattle.std.specs.Prelude.{ℕ, zero, suc, ◌-◌, Bool, false, not, ◌&&◌, ◌||◌, ◌==◌, if◌then◌else◌, List, [], ◌∷◌, ◌++◌, length, map, take, drop, replicate, codes, decimal, Option, None, Some}
use Rattle.std.specs.List.{list_any}
use Rattle.std.specs.Str.{byte, bytes_eq, is_utf8}
use Rattle.markdown_content.specs.Codes.{Code, stop_of, document_start}
use Rattle.markdown_content.specs.CommonMark.{rules_of}
use Rattle.markdown_content.specs.ContentBytes.{bytes_within}
use Rattle.markdown_content.specs.DefaultOptions.{default_options}
use Rattle.markdown_content.specs.Slices.{position_bytes, spaces_before, spaces_after}
use Rattle.markdown_content.specs.Tree.{Forest, empty, leaf_then, group_then, start_of}
use Rattle.markdown_content.specs.declared.configuration.Rules.{Rules}
use Rattle.markdown_event.specs.declared.event.Point.{Point}
use Rattle.markdown_util.specs.Identifier.{identifier_by}
use Rattle.markdown_util.specs.Reference.{shipped_decoding}
use Rattle.markdown_util.specs.declared.decoding.Decoding.{Decoding}
use Rattle.markdown_html_model.specs.Escaped.{escaped, replaced, addressed}
use Rattle.markdown_html_model.specs.Resolved.{resolved}
use Rattle.markdown_html_model.specs.Schemes.{is_safe, link_schemes, image_schemes}
use Rattle.markdown_html_model.specs.Roles.{role_of}
use Rattle.markdown_html_model.specs.declared.options.HtmlOptions.{HtmlOptions}
use Rattle.markdown_html_model.specs.declared.options.LineEnds.{LineEnds}
use Rattle.markdown_html_model.specs.declared.role.Role.{Role}
use Rattle.markdown_html_model.specs.declared.role.Within.{Within}

-- what a label is defined to be
pub record Defined : Type 0 where
  pub identifier : List ℕ
  pub destination : List ℕ
  pub title : Option (List ℕ)

-- what stands beside the tree: the document, the content that was read, by which rules, whether footnotes were looked for, how references are decoded,
-- what labels are defined to be, and what may be written
pub record Page : Type 0 where
  pub bytes : List ℕ
  pub content : List Code
  pub rules : Rules
  pub footnotes_on : Bool
  pub decoding : Decoding
  pub definitions : List Defined
  pub options : HtmlOptions

-- the page of a tree of this content
abbrev pub page_of_content : List Code → Page → Page
page_of_content cs p = record p { content = cs }

-- Texts of the document.

-- from a place to a place, with the columns of a tab of which the first lie outside as spaces
unfoldable pub text_between : List ℕ → Point → Point → List ℕ
text_between bytes a b = replicate (spaces_before bytes a b) (byte " ") ++ position_bytes bytes a b ++ replicate (spaces_after bytes a b) (byte " ")

-- all bytes from an index to an index
abbrev pub bytes_from : List ℕ → ℕ → ℕ → List ℕ
bytes_from bytes from to = take (to - from) (drop from bytes)

-- Where a link or an image leads.

-- what has been read of a link or an image so far: its destination and title, and where the text of its label stands, and that of a full reference
pub record PartsSoFar : Type 0 where
  pub destination : Option (List ℕ)
  pub title : Option (List ℕ)
  pub label : Option (ℕ × ℕ)
  pub reference : Option (ℕ × ℕ)

abbrev pub no_parts : PartsSoFar
no_parts = record { destination = None; title = None; label = None; reference = None }

abbrev pub or_else : {A : Type 0} → Option A → Option A → Option A
or_else None y = y
or_else (Some x) y = Some x

-- the parts of siblings: what comes later counts
abbrev pub joined_parts : PartsSoFar → PartsSoFar → PartsSoFar
joined_parts x y = record {
  destination = or_else y.destination x.destination;
  title = or_else y.title x.title;
  label = or_else y.label x.label;
  reference = or_else y.reference x.reference;
}

abbrev pub or_empty : Option (List ℕ) → List ℕ
or_empty None = []
or_empty (Some xs) = xs

-- the string that a destination or a title is, of the text inside it (CommonMark 2.4 and 2.5)
abbrev pub string_of : Decoding → Role → List ℕ → List ℕ
string_of how Role.Destination inside = resolved how inside
string_of how Role.TitleText inside = resolved how inside
string_of how role inside = []

-- the parts that something from one place to another gives, by its string and the parts inside it; a link and an image use theirs up
abbrev pub own_parts : Role → Point → Point → List ℕ → PartsSoFar → PartsSoFar
own_parts Role.Destination a b string inside = record no_parts { destination = Some string }
own_parts Role.TitleText a b string inside = record no_parts { title = Some string }
own_parts Role.Title a b string inside = record inside { title = Some (or_empty inside.title) }
own_parts Role.Resource a b string inside = record inside { destination = Some (or_empty inside.destination) }
own_parts Role.Label a b string inside = record no_parts { label = Some (a.index, b.index) }
own_parts Role.FullReference a b string inside = record no_parts { reference = Some (a.index, b.index) }
own_parts Role.Link a b string inside = no_parts
own_parts Role.Image a b string inside = no_parts
own_parts Role.Footnote a b string inside = no_parts
own_parts role a b string inside = inside

pub record Target : Type 0 where
  pub destination : List ℕ
  pub title : Option (List ℕ)

abbrev pub nowhere : Target
nowhere = record { destination = []; title = None }

-- the first definition with this identifier (CommonMark 4.7)
abbrev pub defined : List ℕ → List Defined → Target
defined identifier [] = nowhere
defined identifier (d ∷ ds) = if bytes_eq d.identifier identifier then record { destination = d.destination; title = d.title } else defined identifier ds

-- The text of a label, from a byte to a byte. By CommonMark it is the content's; else it is the document's, so prefixes of later lines are in it.
abbrev pub label_text : Page → ℕ × ℕ → List ℕ
label_text p place = if p.rules.labels_by_text then bytes_within p.bytes place.0 place.1 p.content else bytes_from p.bytes place.0 place.1

-- the identifier of a text, which is UTF-8 as the document is; by CommonMark NUL is read as U+FFFD in it
abbrev pub text_identifier : Page → List ℕ → List ℕ
text_identifier p text = identifier_by p.rules.nul_is_replaced (if is_utf8 text then text else [])

-- what follows a caret
abbrev pub behind_caret : List ℕ → Option (List ℕ)
behind_caret [] = None
behind_caret (b ∷ bs) = if b == byte "^" then Some bs else None

-- where a start with a caret has no footnote, the caret stands before the identifier of what follows it
abbrev pub undefined_footnote : Page → List ℕ → List ℕ
undefined_footnote p text = elim (behind_caret text) [ None ↦ text_identifier p text | Some name ↦ byte "^" ∷ text_identifier p name ]

-- the identifier of a text, where it is that of a label, before whose text a caret may stand, or another
abbrev pub label_identifier : Page → (has_caret : Bool) → List ℕ → List ℕ
label_identifier p has_caret text = if has_caret then undefined_footnote p text else text_identifier p text

-- the target that a label has by its text
abbrev pub label_target : Page → Option (ℕ × ℕ) → Target
label_target p None = nowhere
label_target p (Some place) = defined (label_identifier p p.footnotes_on (label_text p place)) p.definitions

-- that of a full reference, and else that of the label
abbrev pub reference_target : Page → Option (ℕ × ℕ) → Option (ℕ × ℕ) → Target
reference_target p label None = label_target p label
reference_target p label (Some place) = defined (label_identifier p false (label_text p place)) p.definitions

-- the target in a resource, and else that of the definition that is referred to (CommonMark 6.3)
abbrev pub target_of : Page → PartsSoFar → Target
target_of p parts =
    elim (parts.destination) [
      | Some destination ↦ record { destination = destination; title = parts.title }
      | None ↦ reference_target p parts.label parts.reference
    ]

-- Footnote calls (GFM). Each is known by the identifier of its label. Of those so far the latest comes first.

-- they call the footnote
abbrev pub is_called : List ℕ → List (List ℕ) → Bool
is_called identifier [] = false
is_called identifier (call ∷ before) = bytes_eq call identifier || is_called identifier before

-- how often they call the footnote
abbrev pub times_called : List ℕ → List (List ℕ) → ℕ
times_called identifier [] = 0
times_called identifier (call ∷ before) = if bytes_eq call identifier then suc (times_called identifier before) else times_called identifier before

-- how many footnotes they call
abbrev pub footnotes_called : List (List ℕ) → ℕ
footnotes_called [] = 0
footnotes_called (call ∷ before) = if is_called call before then footnotes_called before else suc (footnotes_called before)

-- the number of a footnote: how many are called up to its first call, which comes next where they call it not
abbrev pub footnote_number : List ℕ → List (List ℕ) → ℕ
footnote_number identifier [] = 1
footnote_number identifier (call ∷ before) =
    if is_called identifier (call ∷ before) then footnote_number identifier before
    else suc (footnotes_called (call ∷ before))

-- the identifier of a call, by its label
abbrev pub call_identifier : Page → Option (ℕ × ℕ) → List ℕ
call_identifier p None = []
call_identifier p (Some place) = label_identifier p false (label_text p place)

-- the calls that something is
abbrev pub own_calls : Page → Role → PartsSoFar → List (List ℕ)
own_calls p Role.Footnote parts = call_identifier p parts.label ∷ []
own_calls p role parts = []

-- Tags and text.

-- what is written of a text: escaped, or as it is where it is escaped later
abbrev pub text_html : Within → List ℕ → List ℕ
text_html Within.InText text = text
text_html within text = escaped text

-- a tag, where tags are written
abbrev pub tag : Within → List ℕ → List ℕ
tag Within.InText written = []
tag within written = written

-- an address as an attribute has it, nothing where it may not be
abbrev pub address : Page → List (List ℕ) → List ℕ → List ℕ
address p schemes a = if p.options.any_link || is_safe schemes a then addressed a else []

abbrev pub title_attribute : Option (List ℕ) → List ℕ
title_attribute None = []
title_attribute (Some title) = codes " title=\"" ++ escaped title ++ codes "\""

-- a link whose text is its address, with this before it
abbrev pub own_link : Page → Within → List ℕ → List ℕ → List ℕ
own_link p Within.InText before text = text
own_link p within before text = codes "<a href=\"" ++ address p link_schemes (before ++ text) ++ codes "\">" ++ escaped text ++ codes "</a>"

-- links do not stand in links
abbrev pub own_link_outside : Page → Within → List ℕ → List ℕ → List ℕ
own_link_outside p Within.Outside before text = own_link p Within.Outside before text
own_link_outside p within before text = text_html within text

-- raw HTML (CommonMark 6.6), in which NUL is U+FFFD too (2.3)
abbrev pub raw_html : Page → Within → List ℕ → List ℕ
raw_html p Within.InText text = text
raw_html p within text = if p.options.raw_html then replaced text else escaped text

-- a line ending of the text; one line feed where text alone is written
abbrev pub line_ending : LineEnds → List ℕ → List ℕ
line_ending LineEnds.Kept text = escaped text
line_ending LineEnds.Lf text = codes "\n"
line_ending LineEnds.CrLf text = codes "\r\n"

abbrev pub line_end : Page → Within → List ℕ → List ℕ
line_end p Within.InText text = codes "\n"
line_end p within text = line_ending p.options.line_ends text

-- Innermost things, by the text of the document that they cover.
abbrev pub leaf_html : Page → Within → Role → List ℕ → List ℕ
leaf_html p within Role.Plain text = text_html within text
leaf_html p within Role.LineEnd text = line_end p within text
leaf_html p within Role.Break text = tag within (codes "<br />")
leaf_html p within Role.Raw text = raw_html p within text
leaf_html p within Role.Uri text = own_link p within [] text
leaf_html p within Role.Email text = own_link p within (codes "mailto:") text
leaf_html p within Role.UriLiteral text = own_link_outside p within [] text
leaf_html p within Role.WwwLiteral text = own_link_outside p within (codes "http://") text
leaf_html p within Role.EmailLiteral text = own_link_outside p within (codes "mailto:") text
leaf_html p within role text = []

-- What holds others.

-- where that stands which is inside
abbrev pub within_of : Within → Role → Within
within_of within Role.Code = Within.InText
within_of within Role.Math = Within.InText
within_of within Role.Image = Within.InText
within_of within Role.Check = Within.InText
within_of within Role.Destination = Within.InText
within_of within Role.TitleText = Within.InText
within_of Within.Outside Role.Link = Within.InLink
within_of within role = within

-- what is written before and after the inside
abbrev pub opening : Within → Role → List ℕ
opening within Role.Emphasis = tag within (codes "<em>")
opening within Role.Strong = tag within (codes "<strong>")
opening within Role.Strikethrough = tag within (codes "<del>")
opening within role = []

abbrev pub closing : Within → Role → List ℕ
closing within Role.Emphasis = tag within (codes "</em>")
closing within Role.Strong = tag within (codes "</strong>")
closing within Role.Strikethrough = tag within (codes "</del>")
closing within role = []

abbrev pub begins_with_space : List ℕ → Bool
begins_with_space [] = false
begins_with_space (b ∷ bs) = b == byte " "

abbrev pub ends_with_space : List ℕ → Bool
ends_with_space bs = begins_with_space (drop (length bs - 1) bs)

-- without one space at each end, where both are there and not all are spaces
abbrev pub without_padding : List ℕ → List ℕ
without_padding bs =
    if begins_with_space bs && ends_with_space bs && list_any (λ b. not (b == byte " ")) bs then take (length bs - 2) (drop 1 bs)
    else bs

-- the text of a span (CommonMark 6.1): line endings are spaces, and padding goes
abbrev pub span_text : List ℕ → List ℕ
span_text inside = without_padding (map (λ b. if b == byte "\n" then byte " " else b) inside)

abbrev pub span_html : Within → List ℕ → List ℕ → List ℕ
span_html Within.InText front text = text
span_html within front text = front ++ escaped text ++ codes "</code>"

abbrev pub link_html : Page → Within → Target → List ℕ → List ℕ
link_html p Within.InText to inside = inside
link_html p within to inside = codes "<a href=\"" ++ address p link_schemes to.destination ++ codes "\"" ++ title_attribute to.title ++ codes ">" ++ inside ++ codes "</a>"

-- the text of the label describes the image
abbrev pub image_html : Page → Within → Target → List ℕ → List ℕ
image_html p Within.InText to inside = inside
image_html p within to inside = codes "<img src=\"" ++ address p image_schemes to.destination ++ codes "\" alt=\"" ++ escaped inside ++ codes "\"" ++ title_attribute to.title ++ codes " />"

-- the check of a task (GFM 5.3), which is done where a text stands between its brackets
abbrev pub check_html : Within → List ℕ → List ℕ
check_html within [] = tag within (codes "<input type=\"checkbox\" disabled=\"\" />")
check_html within (b ∷ bs) = tag within (codes "<input type=\"checkbox\" disabled=\"\" checked=\"\" />")

-- behind the id of a footnote's second call and of later ones
abbrev pub call_suffix : ℕ → List ℕ
call_suffix zero = []
call_suffix times = codes "-" ++ decimal (suc times)

-- the link from a call to its footnote. It has an id, so that the footnote can lead back.
abbrev pub call_link : List ℕ → ℕ → ℕ → List ℕ
call_link identifier number times =
    codes "<a href=\"" ++ addressed (codes "#user-content-fn-" ++ identifier) ++ codes "\" id=\""
    ++ addressed (codes "user-content-fnref-" ++ identifier ++ call_suffix times)
    ++ codes "\" data-footnote-ref=\"\" aria-describedby=\"footnote-label\">" ++ escaped (decimal number) ++ codes "</a>"

-- a footnote call behind these calls
abbrev pub call_html : Within → List ℕ → List (List ℕ) → List ℕ
call_html within identifier before = tag within (codes "<sup>" ++ call_link identifier (footnote_number identifier before) (times_called identifier before) ++ codes "</sup>")

-- what is from one place to another, by what is inside, behind these calls
abbrev pub group_html : Page → List (List ℕ) → Within → Role → Point → Point → List ℕ → PartsSoFar → List ℕ
group_html p before within Role.Code a b inside parts = span_html within (codes "<code>") (span_text inside)
group_html p before within Role.Math a b inside parts = span_html within (codes "<code class=\"language-math math-inline\">") (span_text inside)
group_html p before within Role.Reference a b inside parts = text_html within (resolved p.decoding (bytes_from p.bytes a.index b.index))
group_html p before within Role.Footnote a b inside parts = call_html within (call_identifier p parts.label) before
group_html p before within Role.Link a b inside parts = link_html p within (target_of p parts) inside
group_html p before within Role.Image a b inside parts = image_html p within (target_of p parts) inside
group_html p before within Role.Check a b inside parts = check_html within inside
group_html p before within Role.Destination a b inside parts = []
group_html p before within Role.TitleText a b inside parts = []
group_html p before within Role.Resource a b inside parts = []
group_html p before within Role.Tail a b inside parts = []
group_html p before within role a b inside parts = opening within role ++ inside ++ closing within role

-- Trees.

-- what is written of trees, what they give of a link or an image around them, and the calls in them
pub record Written : Type 0 where
  pub html : List ℕ
  pub parts : PartsSoFar
  pub calls : List (List ℕ)

abbrev pub nothing : Written
nothing = record { html = []; parts = no_parts; calls = [] }

abbrev pub beside : Written → Written → Written
beside x y = record { html = x.html ++ y.html; parts = joined_parts x.parts y.parts; calls = y.calls ++ x.calls }

-- something from one place to another, around this, behind these calls
abbrev pub around : Page → List (List ℕ) → Within → Role → Point → Point → Written → Written
around p before within role a b inside = record {
  html = group_html p (inside.calls ++ before) within role a b inside.html inside.parts;
  parts = own_parts role a b (string_of p.decoding role inside.html) inside.parts;
  calls = own_calls p role inside.parts ++ inside.calls;
}

-- something innermost: its inside is what the text of the document gives
abbrev pub innermost : Page → List (List ℕ) → Within → Role → Point → Point → Written
innermost p before within role a b =
    around p before within role a b (record { html = leaf_html p (within_of within role) role (text_between p.bytes a b); parts = no_parts; calls = [] })

-- sibling trees behind these calls; a leaf and a group around nothing are alike
abbrev pub written : Page → List (List ℕ) → Within → Forest → Written
written p before within empty = nothing
written p before within (leaf_then name link cs rest) =
    let w = innermost p before within (role_of name) (start_of cs) (stop_of document_start cs) in
    beside w (written p (w.calls ++ before) within rest)
written p before within (group_then name a b empty rest) =
    let w = innermost p before within (role_of name) a b in
    beside w (written p (w.calls ++ before) within rest)
written p before within (group_then name a b inside rest) =
    let w = around p before within (role_of name) a b (written p before (within_of within (role_of name)) inside) in
    beside w (written p (w.calls ++ before) within rest)

-- the HTML of a tree of a document, behind the calls of the trees before it
unfoldable pub html : Page → List (List ℕ) → Forest → List ℕ
html p before tree = let w = written p before Within.Outside tree in w.html

-- the calls of a document up to the end of a tree, where these stand before the tree
unfoldable pub calls_behind : Page → List (List ℕ) → Forest → List (List ℕ)
calls_behind p before tree = let w = written p before Within.Outside tree in w.calls ++ before

-- a document alone, and how references are decoded: text asks for nothing else
abbrev pub text_page : Decoding → List ℕ → Page
text_page how bytes = record { bytes = bytes; content = []; rules = rules_of default_options; footnotes_on = false; decoding = how; definitions = []; options = record { raw_html = false; any_link = false; line_ends = LineEnds.Kept } }

-- the text of trees over a document, as the description of an image has it
unfoldable pub plain_text_by : Decoding → List ℕ → Forest → List ℕ
plain_text_by how bytes trees = let w = written (text_page how bytes) [] Within.InText trees in w.html

-- that text where references are decoded as without any option
abbrev pub plain_text : List ℕ → Forest → List ℕ
plain_text bytes trees = plain_text_by shipped_decoding bytes trees
