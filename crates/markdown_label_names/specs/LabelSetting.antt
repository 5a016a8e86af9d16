-- What a run is given, and what an end of a label reads by, as the definitions see it.
use Rattle.std.specs.Prelude.{◌≡◌, Some, false, [], map, string_bytes}
use Rattle.markdown_notes.specs.BracketIndex.{brackets_between}
use Rattle.markdown_notes.specs.NameIndex.{names_in_order}
use Rattle.markdown_notes.specs.declared.name_index.Names.{Names}
use Rattle.markdown_content.specs.declared.parser.ParseState.{ParseState}
use Rattle.markdown_engine.specs.declared.tokenizer.Tokenizer.{Tokenizer}
use Rattle.markdown_model.specs.Setting.{Setting, references_of, within}

-- the setting of a run over a content that is not the first of a list item
abbrev pub setting_of : ParseState → Setting
setting_of p = record {
  bytes = p.bytes.now;
  options = p.options.now;
  references = references_of p.options.now;
  definitions = map string_bytes p.definitions.items;
  footnotes = map string_bytes p.gfm_footnote_definitions.items;
  first_of_item = false;
  content = [];
}

-- with the content that is read
abbrev pub setting_in : Tokenizer → Setting
setting_in T = within T.cursor.codes (setting_of T.parse_state.now)

-- these are the names that are defined, and the brackets of a part of the document
abbrev pub AreListed : Setting → Names → Type 0
AreListed s names = names ≡ names_in_order s.definitions s.footnotes (brackets_between s.bytes names.brackets.start names.brackets.end)

-- what is known of the names that are defined, if anything, is right
abbrev pub IsListed : Tokenizer → Type 0
IsListed T = (names : Names) → T.tokenize_state.names ≡ Some names → AreListed (setting_in T) names
