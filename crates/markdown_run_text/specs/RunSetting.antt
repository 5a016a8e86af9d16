-- What a run is given, as the definitions see it.
use Rattle.std.specs.Prelude.{Bool}
use Rattle.markdown_content.specs.declared.parser.ParseState.{ParseState}
use Rattle.markdown_model.specs.Setting.{Setting}
pub use Rattle.markdown_label_names.specs.LabelSetting.{setting_of}

-- the setting of a run over a text, which may be the first of a list item
abbrev pub text_setting_of : ParseState → Bool → Setting
text_setting_of p first = record (setting_of p) { first_of_item = first }
