-- Bytes over which text goes on at once.
use Rattle.std.specs.Prelude.{◌≡◌, ℕ, suc, ◌+◌, ◌*◌, ◌<◌, ◌≤◌, Bool, true, not, ◌&&◌, ◌||◌, nat_lt, nat_le, ◌==◌, if◌then◌else◌, List, [], ◌∷◌, get_or}
use Rattle.std.specs.List.{list_any}
use Rattle.std.specs.Str.{byte}
use Rattle.std.specs.Int.{w64, trailing_zeros}

-- neither a tab nor of a line ending, and none of these bytes
abbrev pub is_plain : List ℕ → ℕ → Bool
is_plain set b = nat_lt 13 b && not (list_any (λ n. b == n) set)

abbrev pub same : Bool → Bool → Bool
same b c = if b then c else not c

-- of each byte from i on, up to the last
abbrev pub is_plain_from : ℕ → List ℕ → List Bool → Bool
is_plain_from i set [] = i == 256
is_plain_from i set (b ∷ bs) = same b (is_plain set i) && is_plain_from (suc i) set bs

-- the table says so, of each byte from 0 on
abbrev pub is_plain_table : List ℕ → List Bool → Bool
is_plain_table set table = is_plain_from 0 set table

-- all bytes of a range are such
abbrev pub ArePlain : List ℕ → List ℕ → ℕ → ℕ → Type 0
ArePlain set bytes from to = (i : ℕ) → from ≤ i → i < to → is_plain set (get_or bytes i 0) ≡ true

-- what words are of, and what stands between most of them: a letter, the space, or a byte beyond ASCII
abbrev pub is_word : ℕ → Bool
is_word b = b == byte " " || (nat_le (byte "A") b && nat_le b (byte "Z")) || (nat_le (byte "a") b && nat_le b (byte "z")) || nat_le 128 b

-- none of these bytes is such
abbrev pub spares_words : List ℕ → Bool
spares_words set = not (list_any is_word set)

-- the place of the lowest bit that is set among sixteen, or sixteen
abbrev pub first_set : ℕ → ℕ
first_set mask = if mask == 0 then 16 else trailing_zeros w64 mask

-- a line feed, or a byte above 13
abbrev pub is_of_line : ℕ → Bool
is_of_line b = b == 10 || nat_lt 13 b

-- which of these bytes are line feeds: a bit for each, the lowest for the first
abbrev pub feed_bits : List ℕ → ℕ
feed_bits [] = 0
feed_bits (b ∷ bs) = (if b == 10 then 1 else 0) + 2 * feed_bits bs
