-- What a caller in C hands in beside an input, and the HTML that it gets.
use Rattle.std.specs.Prelude.{◌≡◌, ◌⊎◌, ℕ, ◌≤◌, max, bit_and, Bool, not, ◌&&◌, ◌==◌, if◌then◌else◌, IsTrue, List, [], ◌∷◌, length, Option, None, Some}
use Rattle.std.specs.List.{All, list_all}
use Rattle.markdown_content.specs.CommonMark.{rules_of}
use Rattle.markdown_content.specs.Content.{content_of}
use Rattle.markdown_content.specs.DefaultOptions.{has_option, options_of}
use Rattle.markdown_content.specs.Tree.{Forest}
use Rattle.markdown_html.specs.Brought.{brought}
use Rattle.markdown_html_model.specs.Html.{Defined, Page, html, page_of_content}
use Rattle.markdown_html_model.specs.Resolved.{decoding_of}
use Rattle.markdown_html_model.specs.declared.options.HtmlOptions.{HtmlOptions}
use Rattle.markdown_html_model.specs.declared.options.LineEnds.{LineEnds}
use Rattle.markdown_model.specs.InlineTree.{text_tree}
use Rattle.markdown_util.specs.Identifier.{identifier_by}
use Rattle.markdown_inline_c.specs.FlatInput.{IsLabelRange, IsTextInput, pieces_of, range_bytes, replaces_nul, text_setting}
use Rattle.markdown_inline_c.specs.declared.flat.FlatTarget.{FlatTarget}
use Rattle.markdown_inline_c.specs.declared.flat.Input.{Input}
use Rattle.markdown_inline_c.specs.declared.flat.Range.{Range}

-- What may be written, each by a bit.

-- the reserved words of targets are 0
abbrev pub reserve_nothing : List FlatTarget → Bool
reserve_nothing targets = list_all (λ t. t.reserved == 0) targets

-- each bit is one of raw HTML, any link, LF and CRLF, and line endings are not written both as LF and as CRLF
abbrev pub is_known_for_html : ℕ → Bool
is_known_for_html o = (bit_and o 0x63 == o) && not (has_option o 0x20 && has_option o 0x40)

-- each bit is known, and the reserved words of targets are 0
abbrev pub AreKnownForHtml : ℕ → List FlatTarget → Type 0
AreKnownForHtml options targets = IsTrue (is_known_for_html options) × IsTrue (reserve_nothing targets)

abbrev pub line_ends_of : ℕ → LineEnds
line_ends_of o = if has_option o 0x20 then LineEnds.Lf else (if has_option o 0x40 then LineEnds.CrLf else LineEnds.Kept)

abbrev pub html_options_of : ℕ → HtmlOptions
html_options_of o = record { raw_html = has_option o 0x1; any_link = has_option o 0x2; line_ends = line_ends_of o }

-- Where definitions lead.

abbrev pub title_of : List ℕ → FlatTarget → Option (List ℕ)
title_of labels t = if t.has_title == 0 then None else Some (range_bytes labels t.title)

-- there is no title, or it stands among the labels
abbrev pub IsTitleRange : List ℕ → FlatTarget → Type 0
IsTitleRange labels t = (t.has_title ≡ 0) ⊎ IsLabelRange labels t.title

-- where a definition leads stands among the labels
pub record IsTarget (labels : List ℕ) (t : FlatTarget) : Type 0 where
  pub destination : IsLabelRange labels t.destination
  pub title : IsTitleRange labels t

-- each definition has a target
pub record AreTargets (i : Input) (targets : List FlatTarget) : Type 0 where
  pub one_each : length targets ≡ length i.definitions.now
  pub each : All (IsTarget i.labels.now) targets

abbrev pub defined_at : Bool → List ℕ → Range → FlatTarget → Defined
defined_at replaced labels r t = record { identifier = identifier_by replaced (range_bytes labels r); destination = range_bytes labels t.destination; title = title_of labels t }

-- each label with its target
abbrev pub defined_by : Bool → List ℕ → List Range → List FlatTarget → List Defined
defined_by replaced labels [] targets = []
defined_by replaced labels (r ∷ ranges) [] = []
defined_by replaced labels (r ∷ ranges) (t ∷ targets) = defined_at replaced labels r t ∷ defined_by replaced labels ranges targets

-- the definitions of an input, each with its target
abbrev pub definitions_in : Input → List FlatTarget → List Defined
definitions_in i targets = defined_by (replaces_nul (options_of i.options)) i.labels.now i.definitions.now targets

-- whether footnotes are looked for
abbrev pub footnotes_on : Input → Bool
footnotes_on i = let o = options_of i.options in o.constructs.gfm_label_start_footnote

-- what stands beside the trees of all contents: each tree has a content of its own
abbrev pub page : Input → List FlatTarget → ℕ → Page
page i targets options = record {
  bytes = i.bytes.now;
  content = [];
  rules = rules_of (options_of i.options);
  footnotes_on = footnotes_on i;
  decoding = decoding_of (options_of i.options);
  definitions = definitions_in i targets;
  options = html_options_of options;
}

-- the tree of the input's pieces as a text
abbrev pub tree_of : Input → Forest
tree_of i = text_tree (text_setting i) (content_of i.bytes.now (pieces_of i.pieces.now))

-- what stands beside that tree
abbrev pub own_page : Input → List FlatTarget → ℕ → Page
own_page i targets options = page_of_content (content_of i.bytes.now (pieces_of i.pieces.now)) (page i targets options)

-- its HTML, with no footnote calls before it
abbrev pub html_of : Input → List FlatTarget → ℕ → List ℕ
html_of i targets options = html (own_page i targets options) [] (tree_of i)

-- the limit on what definitions bring to a document of this length: 0 is the default, the larger of 100000 and the length, and the highest number is no limit
abbrev pub limit_in : (limit length : ℕ) → Option ℕ
limit_in limit n = if limit == 0 then Some (max n 100000) else (if limit == 18446744073709551615 then None else Some limit)

-- n is no more than the limit, if there is one
abbrev pub IsWithinLimit : Option ℕ → ℕ → Type 0
IsWithinLimit None n = Unit {0}
IsWithinLimit (Some limit) n = n ≤ limit

-- what definitions bring to the tree is no more than the limit
abbrev pub IsBroughtWithin : Input → List FlatTarget → (options limit : ℕ) → Type 0
IsBroughtWithin i targets options limit = IsWithinLimit (limit_in limit (length i.bytes.now)) (brought (own_page i targets options) (tree_of i))

-- an input that can be written as HTML
pub record IsHtmlInput (i : Input) (targets : List FlatTarget) (options limit : ℕ) : Type 0 where
  pub options_known : AreKnownForHtml options targets
  pub is_text : IsTextInput i
  pub are_targets : AreTargets i targets
  pub within_limit : IsBroughtWithin i targets options limit
