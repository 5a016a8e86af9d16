-- Escaping a text and reading it as a string gives the text back.
use Rattle.std.specs.Prelude.{◌≡◌, ℕ, Bool, true, false, not, ◌==◌, List, [], ◌∷◌, ◌++◌, length, map, codes, IsTrue, if◌then◌else◌}
use Rattle.std.specs.Str.{byte}
use Rattle.std.specs.List.{list_any, list_all}
use Rattle.markdown_event.specs.declared.event.Name.{Name}
use Rattle.markdown_content.specs.declared.parser.Piece.{Piece}
use Rattle.markdown_content.specs.Codes.{is_line_ending_byte}
use Rattle.markdown_model.specs.Setting.{Setting}
use Rattle.markdown_model.specs.InlineTree.{string_events}
use Rattle.markdown_innermost.specs.InnermostEvents.{Lent, lent, innermost}

-- the ASCII punctuation characters, as CommonMark 2.1 lists them
abbrev pub punctuation : List ℕ
punctuation = codes "!\"#$%&'()*+,-./:;<=>?@[\\]^_`{|}~"

abbrev pub is_punctuation : ℕ → Bool
is_punctuation b = list_any (λ n. b == n) punctuation

-- the text with a backslash before each of them
abbrev pub escaped : List ℕ → List ℕ
escaped [] = []
escaped (b ∷ bs) = (if is_punctuation b then byte "\\" ∷ b ∷ [] else b ∷ []) ++ escaped bs

abbrev pub has_one_line : List ℕ → Bool
has_one_line text = list_all (λ b. not (is_line_ending_byte b)) text

-- the whole document as one piece
abbrev pub whole : List ℕ → List Piece
whole bytes = record { start = (0, 0); end = (length bytes, 0) } ∷ []

-- data, and what an escape stands for
abbrev pub is_text : Name → Bool
is_text Name.Data = true
is_text Name.CharacterEscapeValue = true
is_text _ = false

-- what is lent for these, joined
abbrev pub text_of : List Lent → List ℕ
text_of [] = []
text_of (l ∷ ls) = (if is_text l.name then l.bytes else []) ++ text_of ls

-- a one-line text that is escaped, read as a string with escapes on, and given back by the events
abbrev pub Escapes : Type 0
Escapes =
    (s : Setting) (text : List ℕ)
    → IsTrue (has_one_line text) → IsTrue s.options.constructs.character_escape → s.bytes ≡ escaped text
    → text_of (map (lent s.bytes) (innermost (string_events s (whole s.bytes)))) ≡ text
