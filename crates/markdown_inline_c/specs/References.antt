-- What a character reference stands for (CommonMark 0.31, section 2.5).
use Rattle.std.specs.Prelude.{ℕ, ◌==◌, if◌then◌else◌, IsTrue, List, [], ◌∷◌, length, Option, None, Some}
use Rattle.std.specs.Option.{is_some, option_and_then}
use Rattle.std.specs.Str.{byte, chars}
use Rattle.markdown_content.specs.DefaultOptions.{AreKnown, options_of}
use Rattle.markdown_html_model.specs.Resolved.{decoding_of, reference_ahead}
use Rattle.markdown_util.specs.declared.decoding.Decoding.{Decoding}

-- the text of a reference that takes so many bytes
abbrev pub text_taking : ℕ → Option (List ℕ × ℕ) → Option (List ℕ)
text_taking n None = None
text_taking n (Some read) = if read.1 == n then Some read.0 else None

-- the text of bytes that are a whole reference, with its `&` and its `;`, and nothing more
abbrev pub reference_value : Decoding → List ℕ → Option (List ℕ)
reference_value how [] = None
reference_value how (b ∷ after) = if b == byte "&" then text_taking (length after) (reference_ahead how after) else None

abbrev pub text_or_nothing : Option (List ℕ) → List ℕ
text_or_nothing None = []
text_or_nothing (Some text) = text

-- how references are decoded by options, each of them a bit
abbrev pub decoding_by : ℕ → Decoding
decoding_by options = decoding_of (options_of options)

abbrev pub reference_text : ℕ → List ℕ → List ℕ
reference_text options bytes = text_or_nothing (reference_value (decoding_by options) bytes)

-- the options are known, and the bytes are a reference by them
abbrev pub IsReference : ℕ → List ℕ → Type 0
IsReference options bytes = AreKnown options × IsTrue (is_some (reference_value (decoding_by options) bytes))

-- the only one of these characters
abbrev pub only : List ℕ → Option ℕ
only [] = None
only (c ∷ []) = Some c
only (c ∷ d ∷ cs) = None

-- the code point of the character that the reference stands for which begins these bytes; none where it stands for several
abbrev pub character_ahead : Decoding → List ℕ → Option ℕ
character_ahead how [] = None
character_ahead how (b ∷ after) = if b == byte "&" then option_and_then (λ read. only (chars read.0)) (reference_ahead how after) else None
