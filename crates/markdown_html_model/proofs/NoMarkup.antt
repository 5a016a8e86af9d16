-- No markup stands in what is escaped, nor in an address as it is written.
use Rattle.std.proofs.Common.{◌≡◌, ◌∙◌, ap, refl, ℕ, List, [], ◌∷◌, true, false, Bool, not, ◌&&◌, ◌||◌, ◌==◌, ◌/◌, ◌%◌, if◌then◌else◌, arith}
use Rattle.std.specs.List.{flat_map}
use Rattle.std.proofs.lemmas.Bool.Decides.{nat_tests}
use Rattle.std.proofs.lemmas.List.Folds.{list_all-append}
use Rattle.markdown_html_model.specs.Escaped.{escaped, escaped_byte, addressed, address_byte, is_address_byte, begins_encoded, is_no_markup, has_no_markup, hexadecimal}

either : (c : Bool) (x y : List ℕ) → (c ≡ true → has_no_markup x ≡ true) → (c ≡ false → has_no_markup y ≡ true) → has_no_markup (if c then x else y) ≡ true
either true x y f g = f refl
either false x y f g = g refl

none : (x y z : Bool) → x ≡ false → y ≡ false → z ≡ false → (not ((x || y) || z) && true) ≡ true
none x y z e f g = ap (λ w. not ((w || y) || z) && true) e ∙ ap (λ w. not ((false || w) || z) && true) f ∙ ap (λ w. not ((false || false) || w) && true) g

escaped_byte_quiet : (b : ℕ) → has_no_markup (escaped_byte b) ≡ true
escaped_byte_quiet b = grind (arith, either, none)

all_quiet : (f : ℕ → List ℕ) → ((b : ℕ) → has_no_markup (f b) ≡ true) → (text : List ℕ) → has_no_markup (flat_map f text) ≡ true
all_quiet f each [] = refl
all_quiet f each (b ∷ text) = grind (arith, list_all-append, all_quiet f each text)

pub escaped_quiet : (text : List ℕ) → has_no_markup (escaped text) ≡ true
unfolding escaped
escaped_quiet text = all_quiet escaped_byte escaped_byte_quiet text

digit_quiet : (d : ℕ) → is_no_markup (hexadecimal d) ≡ true
digit_quiet d = grind (arith, nat_tests)

encoded_quiet : (b : ℕ) → has_no_markup (37 ∷ hexadecimal (b / 16) ∷ hexadecimal (b % 16) ∷ []) ≡ true
encoded_quiet b = grind (arith, digit_quiet)

kept_quiet : (b : ℕ) (rest : List ℕ) → ((b == 37 && begins_encoded rest) || is_address_byte b) ≡ true → has_no_markup (b ∷ []) ≡ true
kept_quiet b rest h = grind (arith, nat_tests)

address_byte_quiet : (b : ℕ) (rest : List ℕ) → has_no_markup (address_byte b rest) ≡ true
address_byte_quiet b rest =
    either (b == 38) _ _ (λ _. refl) (λ _.
    either (b == 0) _ _ (λ _. refl) (λ _.
    either ((b == 37 && begins_encoded rest) || is_address_byte b) _ _ (kept_quiet b rest) (λ _. encoded_quiet b)))

pub addressed_quiet : (address : List ℕ) → has_no_markup (addressed address) ≡ true
unfolding addressed
addressed_quiet [] = refl
addressed_quiet (b ∷ rest) = grind (arith, list_all-append, address_byte_quiet, addressed_quiet rest)
