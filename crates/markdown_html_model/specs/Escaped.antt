-- Text and addresses as HTML.
use Rattle.std.specs.Prelude.{ℕ, ◌+◌, ◌/◌, ◌%◌, Bool, false, not, ◌&&◌, ◌||◌, ◌==◌, nat_lt, if◌then◌else◌, List, [], ◌∷◌, ◌++◌, codes}
use Rattle.std.specs.Char.{is_ascii_alphanumeric}
use Rattle.std.specs.List.{flat_map, list_all, list_any}

-- `&`, `<`, `>` and `"` as references, NUL as U+FFFD, and every other byte as it is
abbrev pub escaped_byte : ℕ → List ℕ
escaped_byte b =
    if b == 38 then codes "&amp;"
    else (if b == 60 then codes "&lt;"
    else (if b == 62 then codes "&gt;"
    else (if b == 34 then codes "&quot;"
    else (if b == 0 then 239 ∷ 191 ∷ 189 ∷ []
    else b ∷ []))))

unfoldable pub escaped : List ℕ → List ℕ
escaped text = flat_map escaped_byte text

abbrev pub is_no_nul : ℕ → Bool
is_no_nul b = not (b == 0)

-- NUL as U+FFFD, and every other byte as it is (CommonMark 2.3)
abbrev pub replaced_byte : ℕ → List ℕ
replaced_byte b = if is_no_nul b then b ∷ [] else 239 ∷ 191 ∷ 189 ∷ []

unfoldable pub replaced : List ℕ → List ℕ
replaced text = flat_map replaced_byte text

-- a byte that stands in HTML as it is
abbrev pub is_kept : ℕ → Bool
is_kept b = not (b == 38 || b == 60 || b == 62 || b == 34 || b == 0)

-- a letter, a digit, or one of these marks
abbrev pub is_address_byte : ℕ → Bool
is_address_byte b = is_ascii_alphanumeric b || list_any (λ n. b == n) (codes "!#$'()*+,-./:;=?@_~")

-- two letters or digits stand first, as behind the `%` of a byte that is encoded already
abbrev pub begins_encoded : List ℕ → Bool
begins_encoded (a ∷ b ∷ rest) = is_ascii_alphanumeric a && is_ascii_alphanumeric b
begins_encoded _ = false

abbrev pub hexadecimal : ℕ → ℕ
hexadecimal d = if nat_lt d 10 then 48 + d else 55 + d

-- a byte of an address before these
abbrev pub address_byte : ℕ → List ℕ → List ℕ
address_byte b rest =
    if b == 38 then codes "&amp;"
    else (if b == 0 then codes "%EF%BF%BD"
    else (if (b == 37 && begins_encoded rest) || is_address_byte b then b ∷ []
    else 37 ∷ hexadecimal (b / 16) ∷ hexadecimal (b % 16) ∷ []))

-- an address with all percent-encoded that may not stand in one
unfoldable pub addressed : List ℕ → List ℕ
addressed [] = []
addressed (b ∷ rest) = address_byte b rest ++ addressed rest

-- it is none of `<`, `>` and `"`
abbrev pub is_no_markup : ℕ → Bool
is_no_markup b = not (b == 60 || b == 62 || b == 34)

-- nothing in it begins or ends a tag or the value of an attribute
abbrev pub has_no_markup : List ℕ → Bool
has_no_markup text = list_all is_no_markup text
