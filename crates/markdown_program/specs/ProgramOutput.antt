-- What the program finds in a document, and prints.
use Rattle.std.specs.Prelude.{ℕ, List, [], ◌∷◌, ◌&&◌, codes, if◌then◌else◌}
use Rattle.std.specs.declared.alloc.Global.{Global}
use Rattle.std.specs.declared.string.String.{String}
use Rattle.markdown_event.specs.declared.event.Event.{Event}
use Rattle.markdown_model.specs.InlineTree.{string_events, text_events}
use Rattle.markdown_model.specs.Setting.{Setting, references_of}
use Rattle.markdown_program.specs.PrintedLines.{lines_of}
use Rattle.markdown_program.specs.ProgramWords.{reads_text, has_word, options_of, defined_by, whole_piece, without_line_ending}

-- the setting that the words ask for
abbrev pub setting_by : List (String Global) → List ℕ → Setting
setting_by words bytes = record {
  bytes = bytes;
  options = options_of words;
  references = references_of (options_of words);
  definitions = defined_by (codes "label=") words;
  footnotes = defined_by (codes "note=") words;
  first_of_item = reads_text words && has_word (codes "task") words;
  content = [];
}

-- the events of the document's inline tree, as a text or as a string
abbrev pub found_events : List (String Global) → List ℕ → List Event
found_events words bytes =
    if reads_text words then text_events (setting_by words bytes) (whole_piece bytes ∷ [])
    else string_events (setting_by words bytes) (whole_piece bytes ∷ [])

-- the lines of the events of what was read, without one final line ending
abbrev pub printed : List (String Global) → List ℕ → List ℕ
printed words bytes = lines_of (found_events words (without_line_ending bytes))
