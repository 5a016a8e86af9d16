-- What is given beside the blocks of a document, as the definitions see it.
use Rattle.std.specs.Prelude.{◌≡◌, List, ℕ, [], Bool, false, map, string_bytes}
use Rattle.markdown_content.specs.declared.parser.ParseState.{ParseState}
use Rattle.markdown_model.specs.Setting.{Setting}
use Rattle.markdown_run_text.specs.RunSetting.{text_setting_of}
use Rattle.markdown_html_model.specs.Html.{Defined, Page}
use Rattle.markdown_html_model.specs.Resolved.{decoding_of}
use Rattle.markdown_block_model.specs.BlockTree as model
use Rattle.markdown_block_model.specs.LinkDefinitions.{definitions, document_tree, identifier}
use Rattle.markdown_blocks.specs.BlockRows.{rows_from}
use Rattle.markdown_blocks.specs.declared.block.Row.{Row}
use Rattle.markdown_page_model.specs.PageHtml.{defined_by}
use Rattle.markdown_html.specs.View.{page_from}
use Rattle.markdown_page.specs.declared.given.Given.{Given}

abbrev pub bytes_of : Given → List ℕ
bytes_of g = g.document.now.bytes.now

abbrev pub setting_of : Given → Setting
setting_of g = text_setting_of g.document.now false

-- the setting of a text, which may be the first block of an item
abbrev pub setting_at : Given → (first : Bool) → Setting
setting_at g first = text_setting_of g.document.now first

abbrev pub page_of : Given → Page
page_of g = page_from g.document.now [] g.targets.now g.options

-- what was read of a document with these extensions: the names of its definitions, what they define, and its rows
pub record IsReadBy (extensions : model.Extensions) (s : ParseState) (targets : List Defined) (rows : List Row) : Type 0 where
  pub names : map string_bytes s.definitions.items ≡ map identifier (definitions extensions s.bytes.now)
  pub defined : targets ≡ map (defined_by (decoding_of s.options.now)) (definitions extensions s.bytes.now)
  pub tree : rows_from s.bytes.now model.nothing rows ≡ document_tree extensions s.bytes.now
