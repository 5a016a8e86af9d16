-- Identifiers of labels and definitions (CommonMark 0.31, section 4.7: matching labels).
use Rattle.std.specs.Prelude.{ℕ, Bool, true, false, ◌||◌, ◌==◌, if◌then◌else◌, List, [], ◌∷◌, filter, map, chars, encode_utf8_all}
use Rattle.std.specs.Str.{byte}
use Rattle.std.specs.List.{slice_split, join_with_byte}
use Rattle.caseless.specs.Caseless.{default_case_fold}

-- TAB, LF, CR and space
abbrev pub separates_words : ℕ → Bool
separates_words c = ((c == byte "\t" || c == byte "\n") || c == byte "\r") || c == byte " "

abbrev pub is_nonempty : List ℕ → Bool
is_nonempty [] = false
is_nonempty (c ∷ cs) = true

-- the words between runs of TAB, LF, CR and space
abbrev pub words : List ℕ → List (List ℕ)
words cs = filter is_nonempty (slice_split separates_words cs)

-- the words joined by one space
abbrev pub joined_words : List ℕ → List ℕ
joined_words cs = join_with_byte (byte " ") (words cs)

-- the identifier of a text, both in UTF-8: its words joined by one space, fully case folded
unfoldable pub identifier_of : List ℕ → List ℕ
identifier_of bytes = encode_utf8_all (default_case_fold (joined_words (chars bytes)))

-- NUL may be read as U+FFFD (CommonMark 2.3).

abbrev pub replaced_nul : ℕ → ℕ
replaced_nul c = if c == 0 then 0xFFFD else c

-- a text as it is read
abbrev pub read_text : Bool → List ℕ → List ℕ
read_text nul_is_replaced bytes = if nul_is_replaced then encode_utf8_all (map replaced_nul (chars bytes)) else bytes

-- the identifier of a text that is read so
abbrev pub identifier_by : Bool → List ℕ → List ℕ
identifier_by nul_is_replaced bytes = identifier_of (read_text nul_is_replaced bytes)
