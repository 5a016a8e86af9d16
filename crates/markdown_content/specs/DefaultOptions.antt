-- The options by default: the constructs of CommonMark, and the crate's other settings; and the options that bits ask for.
use Rattle.std.specs.Prelude.{ℕ, ◌<◌, Bool, true, false, not, ◌==◌, bit_and}
use Rattle.markdown_content.specs.declared.configuration.Constructs.{Constructs}
use Rattle.markdown_content.specs.declared.configuration.ParseOptions.{ParseOptions}

abbrev pub default_constructs : Constructs
default_constructs = record {
  attention = true;
  autolink = true;
  character_escape = true;
  character_reference = true;
  code_text = true;
  gfm_autolink_literal = false;
  gfm_label_start_footnote = false;
  gfm_strikethrough = false;
  gfm_task_list_item = false;
  hard_break_escape = true;
  hard_break_trailing = true;
  html_text = true;
  label_start_image = true;
  label_start_link = true;
  label_end = true;
  math_text = false;
}

abbrev pub default_options : ParseOptions
default_options = record {
  constructs = default_constructs;
  gfm_strikethrough_single_tilde = true;
  math_text_single_dollar = true;
  attention_first_lengths = false;
  label_shortcut_before_bracket = false;
  commonmark = false;
  html_references = false;
}

-- Options, each by a bit.

abbrev pub has_option : ℕ → ℕ → Bool
has_option options bit = not (bit_and options bit == 0)

-- each bit is one of an option, or says that a text is the first of a list item
abbrev pub AreKnown : ℕ → Type 0
AreKnown options = options < 0x80_0000

abbrev pub constructs_of : ℕ → Constructs
constructs_of o = record {
  attention = has_option o 0x1;
  autolink = has_option o 0x2;
  character_escape = has_option o 0x4;
  character_reference = has_option o 0x8;
  code_text = has_option o 0x10;
  gfm_autolink_literal = has_option o 0x20;
  gfm_label_start_footnote = has_option o 0x40;
  gfm_strikethrough = has_option o 0x80;
  gfm_task_list_item = has_option o 0x100;
  hard_break_escape = has_option o 0x200;
  hard_break_trailing = has_option o 0x400;
  html_text = has_option o 0x800;
  label_start_image = has_option o 0x1000;
  label_start_link = has_option o 0x2000;
  label_end = has_option o 0x4000;
  math_text = has_option o 0x8000;
}

abbrev pub options_of : ℕ → ParseOptions
options_of o = record {
  constructs = constructs_of o;
  gfm_strikethrough_single_tilde = has_option o 0x1_0000;
  math_text_single_dollar = has_option o 0x2_0000;
  attention_first_lengths = has_option o 0x4_0000;
  label_shortcut_before_bracket = has_option o 0x8_0000;
  commonmark = has_option o 0x20_0000;
  html_references = has_option o 0x40_0000;
}
