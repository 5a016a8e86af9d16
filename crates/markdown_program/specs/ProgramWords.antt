-- The words that the program is given, and the content that it reads.
use Rattle.std.specs.Prelude.{◌≡◌, ℕ, ◌-◌, Bool, true, false, ◌&&◌, ◌||◌, List, [], ◌∷◌, length, ◌++◌, take, drop, codes, nat_eq, string_bytes, IsUtf8, if◌then◌else◌, Option, None, Some}
use Rattle.std.specs.List.{list_any, list_all, starts_with, ends_with}
use Rattle.std.specs.Str.{bytes_eq}
use Rattle.std.specs.declared.alloc.Global.{Global}
use Rattle.std.specs.declared.string.String.{String}
use Rattle.markdown_content.specs.Content.{IsTextContent}
use Rattle.markdown_content.specs.DefaultOptions.{default_constructs, default_options}
use Rattle.markdown_content.specs.declared.configuration.ParseOptions.{ParseOptions}
use Rattle.markdown_content.specs.declared.parser.Piece.{Piece}
use Rattle.markdown_util.specs.Identifier.{identifier_of}

-- a word that switches constructs on, sets an option, or defines a label or a footnote
abbrev pub is_option : List ℕ → Bool
is_option word =
    bytes_eq word (codes "gfm") || bytes_eq word (codes "math") || bytes_eq word (codes "task")
    || bytes_eq word (codes "cm-lengths") || bytes_eq word (codes "cm-shortcut")
    || bytes_eq word (codes "html-references") || bytes_eq word (codes "commonmark")
    || starts_with nat_eq word (codes "label=") || starts_with nat_eq word (codes "note=")

-- a word that says how the content is read
abbrev pub is_mode : List ℕ → Bool
is_mode word = bytes_eq word (codes "text") || bytes_eq word (codes "string")

-- a mode, and then options
abbrev pub are_known : List (String Global) → Bool
are_known [] = false
are_known (mode ∷ options) = is_mode (string_bytes mode) && list_all (λ word. is_option (string_bytes word)) options

-- the content is read as text
abbrev pub reads_text : List (String Global) → Bool
reads_text [] = false
reads_text (mode ∷ options) = bytes_eq (string_bytes mode) (codes "text")

-- from a document's start to its end
abbrev pub whole_piece : List ℕ → Piece
whole_piece bytes = record { start = (0, 0); end = (length bytes, 0) }

-- the whole document is a text: no line of it is blank
abbrev pub IsTextDocument : List ℕ → Type 0
IsTextDocument bytes = IsTextContent bytes (whole_piece bytes ∷ [])

-- the document may be read so: it is UTF-8, and a text where it is read as one
pub record MayRead (words : List (String Global)) (bytes : List ℕ) : Type 0 where
  pub is_utf_8 : IsUtf8 bytes
  pub is_text : reads_text words ≡ true → IsTextDocument bytes

-- the bytes without one final line ending: CR LF, LF or CR
abbrev pub without_line_ending : List ℕ → List ℕ
without_line_ending bytes =
    if ends_with nat_eq bytes (13 ∷ 10 ∷ []) then take (length bytes - 2) bytes
    else (if ends_with nat_eq bytes (10 ∷ []) || ends_with nat_eq bytes (13 ∷ []) then take (length bytes - 1) bytes
    else bytes)

abbrev pub has_word : List ℕ → List (String Global) → Bool
has_word word words = list_any (λ w. bytes_eq (string_bytes w) word) words

-- the defaults, and what the words switch on
abbrev pub options_of : List (String Global) → ParseOptions
options_of words =
    let gfm = has_word (codes "gfm") words in
    record default_options {
      constructs = record default_constructs { gfm_autolink_literal = gfm; gfm_label_start_footnote = gfm; gfm_strikethrough = gfm; gfm_task_list_item = gfm; math_text = has_word (codes "math") words };
      attention_first_lengths = has_word (codes "cm-lengths") words;
      label_shortcut_before_bracket = has_word (codes "cm-shortcut") words;
      commonmark = has_word (codes "commonmark") words;
      html_references = has_word (codes "html-references") words;
    }

-- the identifier of what follows the prefix, if the word has it
abbrev pub defined_word : List ℕ → List ℕ → Option (List ℕ)
defined_word prefix word =
    if starts_with nat_eq word prefix then Some (identifier_of (drop (length prefix) word)) else None

abbrev pub listed : Option (List ℕ) → List (List ℕ)
listed None = []
listed (Some x) = x ∷ []

-- the identifiers that the words with this prefix define, in order
abbrev pub defined_by : List ℕ → List (String Global) → List (List ℕ)
defined_by prefix [] = []
defined_by prefix (word ∷ words) = listed (defined_word prefix (string_bytes word)) ++ defined_by prefix words
