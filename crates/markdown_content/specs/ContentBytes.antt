-- The bytes of a document that codes of a content stand for.
use Rattle.std.specs.Prelude.{◌≡◌, ℕ, List, flat_map, map, max, min, slice_range}
use Rattle.markdown_content.specs.Codes.{Code}

-- A code stands for the bytes from its start to its stop; a tab's byte is that of its last column.

-- those bytes of a code that stand from an index of the document to another
abbrev pub bytes_of_code : List ℕ → ℕ → ℕ → Code → List ℕ
bytes_of_code bytes from to c = slice_range bytes (max from c.start.index) (min to c.stop.index)

-- those of all codes, one after another
abbrev pub bytes_within : List ℕ → ℕ → ℕ → List Code → List ℕ
bytes_within bytes from to cs = flat_map (bytes_of_code bytes from to) cs

-- the codes are these bytes, one after another
abbrev pub AreBytes : List ℕ → List Code → Type 0
AreBytes bytes cs = map (λ (c : Code). c.value) cs ≡ bytes
