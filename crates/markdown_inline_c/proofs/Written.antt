-- What is written of the bytes of a string.
use Rattle.std.proofs.Common.{◌≡◌, ◌∙◌, ap, Bool, false, ◌&&◌, ◌==◌, if◌then◌else◌, List, [], ◌∷◌, ◌++◌, ℕ, length, refl, sym, append-nil, append_assoc, arith}
use Rattle.std.specs.Str.{byte}
use Rattle.std.specs.Str.Lossy.{replacement_bytes}
use Rattle.markdown_html_model.specs.Resolved.{begins_with}
use Rattle.markdown_inline_c.specs.FlatStrings.{all_written, written}
use Rattle.markdown_inline_c.specs.declared.strings.Writing.{Writing}

-- of each byte itself, without options
itself : (how : Writing) (b : ℕ) (rest : List ℕ) → how.line_feeds ≡ false → how.nul_is_replaced ≡ false → written how b rest ≡ b ∷ []
itself how b rest l n =
    ap (λ (x : Bool). if x && b == byte "\r" then (if begins_with (λ c. c == byte "\n") rest then [] else byte "\n" ∷ []) else (if how.nul_is_replaced && b == 0 then replacement_bytes else b ∷ [])) l
    ∙ ap (λ (x : Bool). if x && b == 0 then replacement_bytes else b ∷ []) n

-- of bytes themselves
pub as_they_stand : (how : Writing) (bytes : List ℕ) → how.line_feeds ≡ false → how.nul_is_replaced ≡ false → all_written how bytes ≡ bytes
as_they_stand how [] l n = refl
as_they_stand how (b ∷ rest) l n = ap (λ xs. xs ++ all_written how rest) (itself how b rest l n) ∙ ap (λ xs. b ∷ xs) (as_they_stand how rest l n)

-- Bytes that are written one after another.

pub one_more : (how : Writing) (whole found more left : List ℕ) (b : ℕ) (rest : List ℕ)
    → found ++ all_written how left ≡ whole → left ≡ b ∷ rest → more ≡ found ++ written how b rest → more ++ all_written how rest ≡ whole
one_more how whole found more left b rest so_far first is =
    ap (λ xs. xs ++ all_written how rest) is
    ∙ append_assoc found (written how b rest) (all_written how rest)
    ∙ ap (λ xs. found ++ all_written how xs) (sym first)
    ∙ so_far

pub all_are : (how : Writing) (whole found left : List ℕ) → found ++ all_written how left ≡ whole → length left ≡ 0 → found ≡ whole
all_are how whole found [] so_far none = sym (append-nil found) ∙ so_far
all_are how whole found (b ∷ left) so_far none = absurd (omega (arith, none))
