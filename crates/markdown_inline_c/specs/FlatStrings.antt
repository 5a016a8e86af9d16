-- What a caller in C hands in to have the texts of strings, and what it gets (CommonMark 0.31, sections 2.4 and 2.5).
use Rattle.std.specs.Prelude.{ℕ, ◌<◌, ◌≤◌, ◌&&◌, ◌==◌, if◌then◌else◌, List, [], ◌∷◌, ◌++◌, length, slice_range}
use Rattle.std.specs.List.{All, flat_map}
use Rattle.std.specs.Str.{byte}
use Rattle.std.specs.Str.Lossy.{replacement_bytes}
use Rattle.markdown_content.specs.DefaultOptions.{AreKnown, has_option}
use Rattle.markdown_html_model.specs.Resolved.{begins_with, resolved}
use Rattle.markdown_inline_c.specs.FlatInput.{IsLabelRange, range_bytes}
use Rattle.markdown_inline_c.specs.References.{decoding_by}
use Rattle.markdown_inline_c.specs.declared.flat.Range.{Range}
use Rattle.markdown_inline_c.specs.declared.strings.Writing.{Writing}

-- A string is a range of numbers of parts, and each part is a range of the bytes.

abbrev pub parts_at : List Range → Range → List Range
parts_at parts s = slice_range parts s.start s.end

-- there are such parts, and each stands among the bytes and is UTF-8
pub record IsStringAt (bytes : List ℕ) (parts : List Range) (s : Range) : Type 0 where
  pub in_order : s.start ≤ s.end
  pub within : s.end ≤ length parts
  pub each : All (IsLabelRange bytes) (parts_at parts s)

-- the bytes of parts, one after another
abbrev pub joined : List ℕ → List Range → List ℕ
joined bytes parts = flat_map (range_bytes bytes) parts

-- How texts are written.

-- each bit is one of an option, or of how strings are written
abbrev pub AreStringOptions : (options string_options : ℕ) → Type 0
AreStringOptions options string_options = AreKnown options × (string_options < 4)

abbrev pub writing_by : (options string_options : ℕ) → Writing
writing_by options string_options = record { decoding = decoding_by options; line_feeds = has_option string_options 0x1; nul_is_replaced = has_option string_options 0x2 }

-- what is written of a byte in front of others: of a line ending a line feed (CommonMark 0.31, section 2.1), so nothing of a carriage return in front of one;
-- and of NUL the replacement character (section 2.3)
abbrev pub written : Writing → ℕ → List ℕ → List ℕ
written how b rest =
    if how.line_feeds && b == byte "\r" then (if begins_with (λ c. c == byte "\n") rest then [] else byte "\n" ∷ [])
    else (if how.nul_is_replaced && b == 0 then replacement_bytes
    else b ∷ [])

abbrev pub all_written : Writing → List ℕ → List ℕ
all_written how [] = []
all_written how (b ∷ rest) = written how b rest ++ all_written how rest

-- the text of a string: its parts are one text, which is written so, and then its escapes and references are resolved
abbrev pub string_text : Writing → List ℕ → List Range → Range → List ℕ
string_text how bytes parts s = resolved how.decoding (all_written how (joined bytes (parts_at parts s)))
