-- The first byte that passes, found byte by byte; line endings; and blanks before an index.
use Rattle.std.proofs.Common.{◌≡◌, ℕ, ◌+◌, ◌-◌, ◌<◌, ◌≤◌, Bool, true, false, ◌==◌, ap, refl, ◌∙◌, List, ◌∷◌, length, take, drop, get_or, arith}
use Rattle.std.proofs.lemmas.List.{drop_all, drop_more}
use Rattle.std.proofs.lemmas.List.Sums.{suffix_len-take_no, suffix_len-take_yes}
use Rattle.std.specs.List.{position_or_len, suffix_len}
use Rattle.markdown_content.specs.Codes.{carriage_return, line_feed}
use Rattle.markdown_lines.specs.PiecesOfLines.{ending_len, first_from}

position-no : (p : ℕ → Bool) (x : ℕ) (xs : List ℕ) → p x ≡ false → position_or_len p (x ∷ xs) ≡ 1 + position_or_len p xs
position-no p x xs h = rw h refl

position-yes : (p : ℕ → Bool) (x : ℕ) (xs : List ℕ) → p x ≡ true → position_or_len p (x ∷ xs) ≡ 0
position-yes p x xs h = rw h refl

-- past a byte that does not pass
pub passed : (p : ℕ → Bool) (bytes : List ℕ) (i : ℕ) → i < length bytes → p (get_or bytes i 0) ≡ false → first_from p bytes i ≡ first_from p bytes (i + 1)
passed p bytes i l h = grind (arith, drop_more, position-no)

pub found : (p : ℕ → Bool) (bytes : List ℕ) (i : ℕ) → i < length bytes → p (get_or bytes i 0) ≡ true → first_from p bytes i ≡ i
found p bytes i l h = grind (arith, drop_more, position-yes)

pub at_end : (p : ℕ → Bool) (bytes : List ℕ) (i : ℕ) → length bytes ≤ i → first_from p bytes i ≡ i
at_end p bytes i h = grind (arith, drop_all)

-- Of how many bytes a line ending is.

pub no_byte : (bytes : List ℕ) (i : ℕ) → length bytes ≤ i → ending_len (drop i bytes) ≡ 0
no_byte bytes i h = ap ending_len (drop_all i bytes h)

pub last_byte : (bytes : List ℕ) (i : ℕ) → length bytes ≡ i + 1 → ending_len (drop i bytes) ≡ 1
last_byte bytes i h = grind (arith, drop_more bytes i 0, drop_all (i + 1) bytes)

both : (bytes : List ℕ) (i : ℕ) → i + 1 < length bytes → drop i bytes ≡ get_or bytes i 0 ∷ get_or bytes (i + 1) 0 ∷ drop (i + 1 + 1) bytes
both bytes i h = grind (arith, drop_more)

pub two_bytes : (bytes : List ℕ) (i : ℕ) → i + 1 < length bytes → get_or bytes i 0 ≡ carriage_return → get_or bytes (i + 1) 0 ≡ line_feed → ending_len (drop i bytes) ≡ 2
two_bytes bytes i h cr lf = ap ending_len (both bytes i h) ∙ rw (cr, lf) refl

one-by : (b c : ℕ) (rest : List ℕ) (s t : Bool) → (b == carriage_return) ≡ s → (c == line_feed) ≡ t → (s ≡ true → t ≡ true → ⊥) → ending_len (b ∷ c ∷ rest) ≡ 1
one-by b c rest s t e f h = grind arith

pub one_byte : (bytes : List ℕ) (i : ℕ) → i + 1 < length bytes → ((get_or bytes i 0 == carriage_return) ≡ true → (get_or bytes (i + 1) 0 == line_feed) ≡ true → ⊥) → ending_len (drop i bytes) ≡ 1
one_byte bytes i h other = grind (arith, both, one-by)

-- Blanks before an index.

pub one_blank : (p : ℕ → Bool) (bytes : List ℕ) (n : ℕ) → 0 < n → n ≤ length bytes → p (get_or bytes (n - 1) 0) ≡ true → n - suffix_len p (take n bytes) ≡ (n - 1) - suffix_len p (take (n - 1) bytes)
one_blank p bytes n pos l h = omega (arith, suffix_len-take_yes p bytes n 0 pos l h)

pub no_blank : (p : ℕ → Bool) (bytes : List ℕ) (n : ℕ) → 0 < n → n ≤ length bytes → p (get_or bytes (n - 1) 0) ≡ false → n - suffix_len p (take n bytes) ≡ n
no_blank p bytes n pos l h = omega (arith, suffix_len-take_no p bytes n 0 pos l h)
