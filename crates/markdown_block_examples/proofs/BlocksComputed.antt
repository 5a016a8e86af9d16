-- What a row has to open to compute: the definitions that are not unfolded by themselves.
use Rattle.std.specs.Prelude.{Bool, true}
use Rattle.markdown_model.specs.Grammar.{◌>>=◌, ◌>>◌, gives, provided, either, if_next, before, one, any_number, some, word_of, word, ◌then_◌, repeated, repeatedly, optional, optional_tree, escaped_from, up_to}
use Rattle.markdown_model.specs.Whitespace.{spaces_on_line, spaces_across, space_or_tab_eol}
use Rattle.markdown_model.specs.Resource.{label, title_between, title, literal_destination, raw_from, raw_destination, destination}
use Rattle.markdown_model.specs.HtmlText.{spaces, optional_spaces, tag_name, attribute_name, quoted_value, unquoted_value, attribute_value, attribute, open_tag, closing_tag}
use Rattle.markdown_model.specs.GfmAutolinkLiteral.{letters, one_word_of}
use Rattle.markdown_block_model.specs.LinkDefinitions.{line_end, title_of_definition, definition}

unfoldable pub blocks_computed : Bool
unfolding ◌>>=◌ ◌>>◌ gives provided either if_next before one any_number some word_of word ◌then_◌ repeated repeatedly optional optional_tree escaped_from up_to spaces_on_line spaces_across space_or_tab_eol label title_between title literal_destination raw_from raw_destination destination spaces optional_spaces tag_name attribute_name quoted_value unquoted_value attribute_value attribute open_tag closing_tag letters one_word_of line_end title_of_definition definition
blocks_computed = true
