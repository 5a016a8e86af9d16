-- The words of rows of pages: the HTML of a document by some options.
use Rattle.std.specs.Prelude.{ℕ, true, false, List}
use Rattle.markdown_content.specs.declared.configuration.ParseOptions.{ParseOptions}
use Rattle.markdown_html_model.specs.declared.options.HtmlOptions.{HtmlOptions}
use Rattle.markdown_html_model.specs.declared.options.LineEnds.{LineEnds}
use Rattle.markdown_block_model.specs.BlockTree.{Extensions, no_extensions}
use Rattle.markdown_page_model.specs.PageHtml.{commonmark, document_html}

-- how a row's document is read: the options of its texts, and the extensions of its blocks
pub record Reading : Type 0 where
  pub texts : ParseOptions
  pub blocks : Extensions

abbrev pub standard : Reading
standard = record { texts = commonmark; blocks = no_extensions }

abbrev pub html_by : HtmlOptions → Reading → List ℕ → List ℕ
html_by options how bytes = document_html how.texts how.blocks options bytes

-- as the standard writes it: HTML stays HTML, and links lead anywhere
abbrev pub page_by : Reading → List ℕ → List ℕ
page_by how bytes = html_by (record { raw_html = true; any_link = true; line_ends = LineEnds.Kept }) how bytes

abbrev pub page_answer : List ℕ → List ℕ
page_answer bytes = page_by standard bytes

-- the same with one line ending
abbrev pub lf_by : Reading → List ℕ → List ℕ
lf_by how bytes = html_by (record { raw_html = true; any_link = true; line_ends = LineEnds.Lf }) how bytes

abbrev pub lf_answer : List ℕ → List ℕ
lf_answer bytes = lf_by standard bytes

abbrev pub crlf_by : Reading → List ℕ → List ℕ
crlf_by how bytes = html_by (record { raw_html = true; any_link = true; line_ends = LineEnds.CrLf }) how bytes

abbrev pub crlf_answer : List ℕ → List ℕ
crlf_answer bytes = crlf_by standard bytes

-- with nothing that runs
abbrev pub safe_by : Reading → List ℕ → List ℕ
safe_by how bytes = html_by (record { raw_html = false; any_link = false; line_ends = LineEnds.Kept }) how bytes

abbrev pub safe_answer : List ℕ → List ℕ
safe_answer bytes = safe_by standard bytes

-- Other options of texts and extensions of blocks.

abbrev pub strikethrough : Reading → Reading
strikethrough how = record how { texts = record how.texts { constructs = record how.texts.constructs { gfm_strikethrough = true } } }

abbrev pub two_tildes : Reading → Reading
two_tildes how = record how { texts = record how.texts { gfm_strikethrough_single_tilde = false } }

abbrev pub bare_urls : Reading → Reading
bare_urls how = record how { texts = record how.texts { constructs = record how.texts.constructs { gfm_autolink_literal = true } } }

abbrev pub tasks : Reading → Reading
tasks how = record how { texts = record how.texts { constructs = record how.texts.constructs { gfm_task_list_item = true } } }

-- both math in texts and fences of math
abbrev pub math : Reading → Reading
math how =
    record how { texts = record how.texts { constructs = record how.texts.constructs { math_text = true } }; blocks = record how.blocks { math = true } }

abbrev pub two_dollars : Reading → Reading
two_dollars how = record how { texts = record how.texts { math_text_single_dollar = false } }

abbrev pub front_matter : Reading → Reading
front_matter how = record how { blocks = record how.blocks { front_matter = true } }

abbrev pub calls : Reading → Reading
calls how = record how { texts = record how.texts { constructs = record how.texts.constructs { gfm_label_start_footnote = true } } }

-- the rules of the crate that is ported, in place of CommonMark's
abbrev pub crate_rules : Reading → Reading
crate_rules how = record how { texts = record how.texts { commonmark = false } }
