-- The rules in which the crate that is ported departs from CommonMark 0.31.2, side by side: each field of a
-- `Rules` is one departure, and is true where the standard's rule holds.
use Rattle.std.specs.Prelude.{true, false, if◌then◌else◌}
use Rattle.markdown_content.specs.declared.configuration.ParseOptions.{ParseOptions}
use Rattle.markdown_content.specs.declared.configuration.Rules.{Rules}

-- the rules of CommonMark
abbrev pub commonmark_rules : Rules
commonmark_rules = record {
  whole_lengths = true;
  shortcut_before_bracket = true;
  markers_are_punctuation = true;
  listed_spaces = true;
  escaped_parentheses = true;
  labels_by_characters = true;
  definitions_have_labels = true;
  all_address_marks = true;
  two_last_spaces = true;
  nul_is_replaced = true;
  html_names = true;
  controls_are_kept = true;
  slashes_in_values = true;
  titles_keep_spaces = true;
  neighbours_in_content = true;
  labels_by_text = true;
}

-- the crate's rules, of which three are options by themselves
abbrev pub crate_rules : ParseOptions → Rules
crate_rules o = record {
  whole_lengths = o.attention_first_lengths;
  shortcut_before_bracket = o.label_shortcut_before_bracket;
  markers_are_punctuation = false;
  listed_spaces = false;
  escaped_parentheses = false;
  labels_by_characters = false;
  definitions_have_labels = false;
  all_address_marks = false;
  two_last_spaces = false;
  nul_is_replaced = false;
  html_names = o.html_references;
  controls_are_kept = false;
  slashes_in_values = false;
  titles_keep_spaces = false;
  neighbours_in_content = false;
  labels_by_text = false;
}

-- the rules that options choose
unfoldable pub rules_of : ParseOptions → Rules
rules_of o = if o.commonmark then commonmark_rules else crate_rules o
