-- The codes of a document's text, each with its place in the file.
use Rattle.std.specs.Prelude.{ℕ, ◌==◌, List, [], ◌∷◌, drop, if◌then◌else◌}
use Rattle.std.specs.List.{starts_with}
use Rattle.markdown_content.specs.Codes.{Code, codes_of}

-- U+FEFF in UTF-8. At the front of a file it says how the file is encoded, and is no text.
abbrev pub byte_order_mark : List ℕ
byte_order_mark = 239 ∷ 187 ∷ 191 ∷ []

-- how many bytes, each of which is a code, stand before the text
abbrev pub mark_len : List ℕ → ℕ
mark_len bytes = if starts_with (λ b m. b == m) bytes byte_order_mark then 3 else 0

abbrev pub document_codes : List ℕ → List Code
document_codes bytes = drop (mark_len bytes) (codes_of bytes)
