-- Schemes of addresses: which lead to nothing that runs.
use Rattle.std.specs.Prelude.{ℕ, Bool, true, false, ◌||◌, ◌==◌, if◌then◌else◌, List, [], ◌∷◌, map, take, drop, codes, Option, None, Some}
use Rattle.std.specs.Char.{to_ascii_lowercase}
use Rattle.std.specs.List.{list_any, prefix_len}
use Rattle.std.specs.Str.{byte, bytes_eq}

-- schemes that a link may lead to
abbrev pub link_schemes : List (List ℕ)
link_schemes = codes "http" ∷ codes "https" ∷ codes "irc" ∷ codes "ircs" ∷ codes "mailto" ∷ codes "xmpp" ∷ []

-- schemes that an image may come from
abbrev pub image_schemes : List (List ℕ)
image_schemes = codes "http" ∷ codes "https" ∷ []

-- it ends what may be a scheme: a colon, or the start of a path, a query or a fragment
abbrev pub ends_scheme : ℕ → Bool
ends_scheme b = b == byte ":" || b == byte "/" || b == byte "?" || b == byte "#"

abbrev pub goes_on_scheme : ℕ → Bool
goes_on_scheme b = if ends_scheme b then false else true

abbrev pub begins_with_colon : List ℕ → Bool
begins_with_colon [] = false
begins_with_colon (b ∷ rest) = b == byte ":"

-- what stands before the first colon; none where no colon stands, or one of `/`, `?` and `#` before it
unfoldable pub scheme_of : List ℕ → Option (List ℕ)
scheme_of address = let n = prefix_len goes_on_scheme address in if begins_with_colon (drop n address) then Some (take n address) else None

-- the two are equal in all but case
abbrev pub is_scheme : List ℕ → List ℕ → Bool
is_scheme name scheme = bytes_eq (map to_ascii_lowercase name) (map to_ascii_lowercase scheme)

abbrev pub is_listed : List (List ℕ) → Option (List ℕ) → Bool
is_listed schemes None = true
is_listed schemes (Some scheme) = list_any (λ name. is_scheme name scheme) schemes

-- an address without a scheme, as one within the same site, or with one of these
unfoldable pub is_safe : List (List ℕ) → List ℕ → Bool
is_safe schemes address = is_listed schemes (scheme_of address)
