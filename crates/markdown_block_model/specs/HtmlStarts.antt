-- HTML blocks (CommonMark 4.6): seven kinds, each with the condition under which a line begins it, and the one under which a line ends it.
use Rattle.std.specs.Prelude.{ℕ, Bool, true, false, ◌&&◌, ◌||◌, not, nat_le, ◌==◌, List, [], ◌∷◌, Option, Some, None, codes, is_some, drop, if◌then◌else◌}
use Rattle.std.specs.Str.{byte}
use Rattle.std.specs.List.{list_any}
use Rattle.markdown_content.specs.Codes.{Code}
use Rattle.markdown_model.specs.CodeTests.{is_value, is_empty, next_is, is_letter}
use Rattle.markdown_model.specs.Grammar.{Reading, either, one, word, ◌then_◌}
use Rattle.markdown_model.specs.HtmlText.{tag_name, open_tag, closing_tag}
use Rattle.markdown_model.specs.GfmAutolinkLiteral.{letters, one_word_of}
use Rattle.markdown_block_model.specs.LineRests.{trimmed, is_blank_line, is_gap, only_if}
use Rattle.markdown_block_model.specs.BlockTree.{Leaf, html}

-- the names of tags whose content is no HTML
abbrev pub raw_tags : List (List ℕ)
raw_tags = codes "script" ∷ codes "pre" ∷ codes "style" ∷ codes "textarea" ∷ []

abbrev pub raw_ends : List (List ℕ)
raw_ends = codes "</script>" ∷ codes "</pre>" ∷ codes "</style>" ∷ codes "</textarea>" ∷ []

-- the names of the tags of blocks
abbrev pub block_tags : List (List ℕ)
block_tags = codes "address" ∷ codes "article" ∷ codes "aside" ∷ codes "base" ∷ codes "basefont" ∷ codes "blockquote" ∷ codes "body" ∷ codes "caption" ∷ codes "center" ∷ codes "col" ∷ codes "colgroup" ∷ codes "dd" ∷ codes "details" ∷ codes "dialog" ∷ codes "dir" ∷ codes "div" ∷ codes "dl" ∷ codes "dt" ∷ codes "fieldset" ∷ codes "figcaption" ∷ codes "figure" ∷ codes "footer" ∷ codes "form" ∷ codes "frame" ∷ codes "frameset" ∷ codes "h1" ∷ codes "h2" ∷ codes "h3" ∷ codes "h4" ∷ codes "h5" ∷ codes "h6" ∷ codes "head" ∷ codes "header" ∷ codes "hr" ∷ codes "html" ∷ codes "iframe" ∷ codes "legend" ∷ codes "li" ∷ codes "link" ∷ codes "main" ∷ codes "menu" ∷ codes "menuitem" ∷ codes "nav" ∷ codes "noframes" ∷ codes "ol" ∷ codes "optgroup" ∷ codes "option" ∷ codes "p" ∷ codes "param" ∷ codes "search" ∷ codes "section" ∷ codes "summary" ∷ codes "table" ∷ codes "tbody" ∷ codes "td" ∷ codes "tfoot" ∷ codes "th" ∷ codes "thead" ∷ codes "title" ∷ codes "tr" ∷ codes "track" ∷ codes "ul" ∷ []

-- the reading reads all of it
abbrev pub leaves_nothing : Option (List Code × List Code) → Bool
leaves_nothing None = false
leaves_nothing (Some r) = is_empty r.1

-- a name of a tag is one of these, its letters in either case
abbrev pub is_named : List (List ℕ) → List Code → Bool
is_named names name = list_any (λ n. leaves_nothing (letters n name)) names

-- behind the name of a raw tag, and behind that of a block's
abbrev pub ends_raw_tag : List Code → Bool
ends_raw_tag cs = is_gap cs || next_is (is_value (byte ">")) cs

abbrev pub ends_block_tag : List Code → Bool
ends_block_tag cs = ends_raw_tag cs || is_some (word "/>" cs)

-- the name of a tag that was read is one of these, and what follows it passes
abbrev pub is_tag_among : List (List ℕ) → (List Code → Bool) → Option (List Code × List Code) → Bool
is_tag_among names ends None = false
is_tag_among names ends (Some r) = is_named names r.0 && ends r.1

-- nothing but whitespace follows
abbrev pub fills_line : Option (List Code × List Code) → Bool
fills_line None = false
fills_line (Some r) = is_blank_line r.1

-- What follows the `<` of the kinds 1 to 6.

abbrev pub begins_raw : List Code → Bool
begins_raw cs = is_tag_among raw_tags ends_raw_tag (tag_name cs)

abbrev pub begins_block_tag : List Code → Bool
begins_block_tag cs = is_tag_among block_tags ends_block_tag (tag_name (drop (if next_is (is_value (byte "/")) cs then 1 else 0) cs))

abbrev pub kind_behind : List Code → ℕ
kind_behind cs =
    if begins_raw cs then 1 else (
    if is_some (word "!--" cs) then 2 else (
    if is_some (word "?" cs) then 3 else (
    if is_some ((word "!" then_ one is_letter) cs) then 4 else (
    if is_some (word "![CDATA[" cs) then 5 else (
    if begins_block_tag cs then 6 else 0)))))

-- an opening tag of another name than those of raw tags, or a closing tag, and nothing else
abbrev pub is_other_tag : List Code → Bool
is_other_tag cs = fills_line (either (open_tag true) closing_tag cs) && not (is_tag_among raw_tags (λ rest. true) (tag_name (drop 1 cs)))

-- the kind that this begins, by the kind that stands behind its `<`; else a tag that stands alone on its line begins kind 7; 0 for none
abbrev pub kind_of : ℕ → List Code → ℕ
kind_of k cs = if nat_le 1 k then k else (if is_other_tag cs then 7 else 0)

abbrev pub html_kind : List Code → ℕ
html_kind cs = if next_is (is_value (byte "<")) cs then kind_of (kind_behind (drop 1 cs)) cs else 0

-- the reading holds somewhere among the codes
abbrev pub holds_within : Reading (List Code) → List Code → Bool
holds_within a [] = false
holds_within a (c ∷ cs) = is_some (a (c ∷ cs)) || holds_within a cs

-- a line ends HTML of this kind; the kinds 6 and 7 end before a blank line
abbrev pub ends_html : ℕ → List Code → Bool
ends_html k cs =
    if k == 1 then holds_within (one_word_of raw_ends) cs else (
    if k == 2 then holds_within (word "-->") cs else (
    if k == 3 then holds_within (word "?>") cs else (
    if k == 4 then holds_within (word ">") cs else (
    if k == 5 then holds_within (word "]]>") cs else false))))

-- kind 7 does not interrupt a paragraph
abbrev pub html_of : Bool → ℕ → List Code → Option Leaf
html_of after_text k cs = only_if (not (k == 0 || (k == 7 && after_text))) (html k cs (ends_html k cs))

-- the HTML that a whole line begins; `after_text` says that a paragraph is open before it
abbrev pub html_at : Bool → List Code → Option Leaf
html_at after_text cs = html_of after_text (html_kind (trimmed cs)) cs
