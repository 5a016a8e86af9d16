-- Escapes and character references of a text, resolved (CommonMark 0.31, sections 2.4 and 2.5).
use Rattle.std.specs.Prelude.{ℕ, zero, suc, ◌+◌, Bool, false, not, ◌&&◌, ◌||◌, ◌==◌, if◌then◌else◌, List, [], ◌∷◌, ◌++◌, take, drop, Option, None, Some, String, string_bytes}
use Rattle.std.specs.Global.{Global}
use Rattle.std.specs.Char.{is_ascii_punctuation}
use Rattle.std.specs.List.{prefix_len}
use Rattle.std.specs.Str.{byte}
use Rattle.markdown_content.specs.CommonMark.{rules_of}
use Rattle.markdown_content.specs.declared.configuration.ParseOptions.{ParseOptions}
use Rattle.markdown_util.specs.Reference.{decoded_by, is_value, is_value_byte, known_names}
use Rattle.markdown_util.specs.declared.decoding.Decoding.{Decoding}

-- how references are decoded under these options (CommonMark 2.5)
abbrev pub decoding_of : ParseOptions → Decoding
decoding_of o = record { names = known_names (rules_of o).html_names; controls_are_kept = (rules_of o).controls_are_kept }

abbrev pub is_semicolon : ℕ → Bool
is_semicolon b = b == byte ";"

abbrev pub begins_with : (ℕ → Bool) → List ℕ → Bool
begins_with p [] = false
begins_with p (b ∷ bs) = p b

-- a text and how many bytes it takes, as the program has them
abbrev pub text_of : String Global × ℕ → List ℕ × ℕ
text_of r = (string_bytes r.0, r.1)

-- the marker of a reference behind its `&`: `#` before a decimal number, `x` before a hexadecimal one, else `&` before a name;
-- and how many bytes stand before the value
abbrev pub marker_ahead : List ℕ → ℕ × ℕ
marker_ahead after =
    if begins_with (λ b. b == byte "#") after
    then (if begins_with (λ b. b == byte "x" || b == byte "X") (drop 1 after) then (byte "x", 2) else (byte "#", 1))
    else (byte "&", 0)

-- the text of the reference with this marker whose value begins here, where a `;` ends it, and how many bytes the value and the `;` take
abbrev pub value_ahead : Decoding → ℕ → List ℕ → Option (List ℕ × ℕ)
value_ahead how marker body =
    let n = prefix_len (is_value_byte marker) body in
    if is_value marker (take n body) && begins_with is_semicolon (drop n body)
    then elim (decoded_by how (take n body) marker) [ None ↦ None | Some text ↦ Some (text, n + 1) ]
    else None

-- the text of the whole reference that an `&` begins in front of these bytes, and how many of them it takes
unfoldable pub reference_ahead : Decoding → List ℕ → Option (List ℕ × ℕ)
reference_ahead how after =
    let m = marker_ahead after in
    elim (value_ahead how m.0 (drop m.1 after)) [ None ↦ None | Some r ↦ Some (r.0, m.1 + r.1) ]

-- the text of what stands first, and how many further bytes that takes: an escape, a whole reference, or the byte alone
abbrev pub first_text : Decoding → ℕ → List ℕ → List ℕ × ℕ
first_text how b rest =
    if b == byte "\\" && begins_with is_ascii_punctuation rest then (take 1 rest, 1)
    else (if b == byte "&" then elim (reference_ahead how rest) [ None ↦ (b ∷ [], 0) | Some r ↦ r ]
    else (b ∷ [], 0))

-- a byte that begins neither an escape nor a reference
abbrev pub is_literal : ℕ → Bool
is_literal b = not (b == byte "\\" || b == byte "&")

-- the text, from the left; `skipped` more bytes belong to what was read last
abbrev pub resolved_after : Decoding → ℕ → List ℕ → List ℕ
resolved_after how skipped [] = []
resolved_after how (suc skipped) (b ∷ rest) = resolved_after how skipped rest
resolved_after how zero (b ∷ rest) = let first = first_text how b rest in first.0 ++ resolved_after how first.1 rest

-- a text with each escaped punctuation mark in place of its escape, and the text of each reference in its place
unfoldable pub resolved : Decoding → List ℕ → List ℕ
resolved how text = resolved_after how 0 text
