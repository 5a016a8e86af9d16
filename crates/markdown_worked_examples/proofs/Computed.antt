-- What an example has to open to compute: the definitions, and the tables of characters.
use Rattle.std.specs.Prelude.{Bool, true}
use Rattle.std.specs.Str.{chars}
use Rattle.std.specs.Char.{encode_utf8}
use Rattle.unicode.specs.Binary.{is_white_space}
use Rattle.ucd_props.specs.Ranges.{white_space_ranges}
use Rattle.ucd_table.specs.Rows.{in_ranges, value_in}
use Rattle.ucd_category.specs.GeneralCategory.{general_category}
use Rattle.ucd_category.specs.GeneralCategoryRows.{general_category_rows}
use Rattle.ucd_case.specs.CaseFolding.{full_folding}
use Rattle.ucd_case.specs.FullFoldingRows.{full_folding_rows}
use Rattle.caseless.specs.Caseless.{default_case_fold}
use Rattle.markdown_content.specs.CommonMark.{rules_of}
use Rattle.markdown_util.specs.Reference.{html_5_rows, html_5_capitals, html_5_a_to_d, html_5_e_to_l, html_5_m_to_r, html_5_s_to_z, html_rows}
use Rattle.markdown_util.specs.Neighbours.{class_of, listed_class_of}
use Rattle.markdown_util.specs.Identifier.{identifier_of}
use Rattle.markdown_model.specs.Grammar.{◌>>=◌, ◌>>◌, gives, provided, either, unless, if_next, before, one, any_number, some, word_of, word, up_to_word, through, ◌then_◌, repeated, repeatedly, optional, optional_tree, escaped_from, up_to}
use Rattle.markdown_model.specs.TextLines.{data_up_to}
use Rattle.markdown_model.specs.Whitespace.{space_or_tab, spaces_on_line, spaces_across, space_or_tab_eol}
use Rattle.markdown_model.specs.Resource.{label, title_between, title, literal_destination, raw_from, raw_destination, destination, spaced_title, destination_and_title, resource}
use Rattle.markdown_model.specs.LeafConstructs.{character_escape, hard_break_escape, named_parts, decimal_parts, hexadecimal_parts, character_reference, closing_run, span_of, span_here, scheme, domain_label, uri, email_address, in_angle_brackets, autolink, gfm_task_list_item_check}
use Rattle.markdown_model.specs.HtmlText.{spaces, optional_spaces, tag_name, attribute_name, quoted_value, unquoted_value, attribute_value, attribute, open_tag, closing_tag, comment, instruction, declaration, cdata, html_codes, html_text}
use Rattle.markdown_model.specs.GfmAutolinkLiteral.{letters, one_word_of, trailing, trails_within, trails, domain, path, gfm_autolink_literal_protocol, www_from_here, gfm_autolink_literal_www}
use Rattle.markdown_model.specs.GfmEmailLiteral.{email_protocol, email_at, email_leaves, with_emails}
use Rattle.markdown_model.specs.LabelEnd.{label_before, is_barred, label_identifier, reference_identifier, full_reference, collapsed_reference, shortcut, shortcut_before_bracket, reference_after_label, after_label, footnote_call, link_or_image, outcome_of, label_end}
use Rattle.markdown_model.specs.Elements.{as_plain, switched, line_ending, data_code, attention_run, label_start_image, gfm_label_start_footnote, label_start_link, code_text, math_text, tries, tried, first_check, text_element, string_element, elements_from, elements_of, string_elements_of}
use Rattle.markdown_model.specs.Runs.{run_of, runs_of, rows_inside, class_beside, rows_of}
use Rattle.markdown_model.specs.Pairs.{is_eligible, opener_below, next_pair_from, pairs_after, pair_list}
use Rattle.markdown_model.specs.BracketGroups.{tokens_of, paired}
use Rattle.markdown_model.specs.Passes.{labels_of, merged, trimmed, with_emails_apart}
use Rattle.markdown_model.specs.InlineTree.{label_tree, raw_tree, finished_text, finished_string, text_tree, string_tree}

unfoldable pub computed : Bool
unfolding rules_of encode_utf8 chars is_white_space in_ranges white_space_ranges general_category general_category_rows value_in default_case_fold full_folding full_folding_rows html_5_rows html_5_capitals html_5_a_to_d html_5_e_to_l html_5_m_to_r html_5_s_to_z html_rows class_of listed_class_of identifier_of ◌>>=◌ ◌>>◌ gives provided either unless if_next before one any_number some word_of word up_to_word through ◌then_◌ repeated repeatedly optional optional_tree escaped_from up_to data_up_to space_or_tab spaces_on_line spaces_across space_or_tab_eol label title_between title literal_destination raw_from raw_destination destination spaced_title destination_and_title resource character_escape hard_break_escape named_parts decimal_parts hexadecimal_parts character_reference closing_run span_of span_here scheme domain_label uri email_address in_angle_brackets autolink gfm_task_list_item_check spaces optional_spaces tag_name attribute_name quoted_value unquoted_value attribute_value attribute open_tag closing_tag comment instruction declaration cdata html_codes html_text letters one_word_of trailing trails_within trails domain path gfm_autolink_literal_protocol www_from_here gfm_autolink_literal_www email_protocol email_at email_leaves with_emails label_before is_barred label_identifier reference_identifier full_reference collapsed_reference shortcut shortcut_before_bracket reference_after_label after_label footnote_call link_or_image outcome_of label_end as_plain switched line_ending data_code attention_run label_start_image gfm_label_start_footnote label_start_link code_text math_text tries tried first_check text_element string_element elements_from elements_of string_elements_of run_of runs_of rows_inside class_beside rows_of is_eligible opener_below next_pair_from pairs_after pair_list tokens_of paired labels_of merged trimmed with_emails_apart label_tree raw_tree finished_text finished_string text_tree string_tree
computed = true
