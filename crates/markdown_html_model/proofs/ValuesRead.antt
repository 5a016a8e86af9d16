-- An address as it is written, byte by byte: as it stands, and with its references read.
use Rattle.std.proofs.Common.{◌≡◌, ◌∙◌, sym, ap, refl, subst, ℕ, ◌/◌, ◌%◌, Bool, true, false, not, nat_lt, if◌then◌else◌, ◌&&◌, ◌||◌, ◌==◌, List, [], ◌∷◌, ◌++◌, codes, arith, ◌⊎◌, inl, inr}
use Rattle.std.specs.List.{list_all}
use Rattle.std.proofs.lemmas.Bool.Decides.{nat_tests}
use Rattle.std.proofs.lemmas.List.Folds.{list_all-append}
use Rattle.markdown_html_model.specs.Escaped.{addressed, address_byte, begins_encoded, hexadecimal, is_address_byte}
use Rattle.markdown_html_model.specs.BrowserScheme.{has_ampersands_alone, is_scheme_byte, read_after, value_read}

pick : (P : List ℕ → Type 0) (c : Bool) (x y : List ℕ) → (c ≡ true → P x) → (c ≡ false → P y) → P (if c then x else y)
pick P true x y f g = f refl
pick P false x y f g = g refl

abbrev pub encoded : ℕ → List ℕ
encoded b = 37 ∷ hexadecimal (b / 16) ∷ hexadecimal (b % 16) ∷ []

-- the byte stands for itself
abbrev pub stays : ℕ → List ℕ → Bool
stays b rest = (b == 37 && begins_encoded rest) || is_address_byte b

each-byte : (P : List ℕ → Type 0) (b : ℕ) (rest : List ℕ) → ((b == 38) ≡ true → P (codes "&amp;")) → ((b == 38) ≡ false → P (codes "%EF%BF%BD"))
    → ((b == 38) ≡ false → stays b rest ≡ true → P (b ∷ [])) → ((b == 38) ≡ false → P (encoded b)) → P (address_byte b rest)
each-byte P b rest f g h k =
    pick P (b == 38) _ _ f (λ e.
    pick P (b == 0) _ _ (λ _. g e) (λ _.
    pick P (stays b rest) _ _ (h e) (λ _. k e)))

-- how a byte is written with references read
abbrev pub short_byte : ℕ → List ℕ → List ℕ
short_byte b rest = if b == 38 then 38 ∷ [] else address_byte b rest

-- all bytes, each before these
abbrev pub spelled : (ℕ → List ℕ → List ℕ) → List ℕ → List ℕ
spelled f [] = []
spelled f (b ∷ rest) = f b rest ++ spelled f rest

pub addressed-spelled : (a : List ℕ) → addressed a ≡ spelled address_byte a
unfolding addressed
addressed-spelled [] = refl
addressed-spelled (b ∷ rest) = ap (λ x. address_byte b rest ++ x) (addressed-spelled rest)

-- References.

abbrev pub has_no_ampersand : List ℕ → Bool
has_no_ampersand bs = list_all (λ c. not (c == 38)) bs

stays-no_ampersand : (b : ℕ) → (b == 38) ≡ false → has_no_ampersand (b ∷ []) ≡ true
stays-no_ampersand b e = ap (λ c. not c && true) e

digit-no_ampersand : (d : ℕ) → not (hexadecimal d == 38) ≡ true
digit-no_ampersand d = grind (arith, nat_tests)

encoded-no_ampersand : (b : ℕ) → has_no_ampersand (encoded b) ≡ true
encoded-no_ampersand b = grind (arith, digit-no_ampersand)

-- what `&` does not begin is read as it stands
plain-read : (xs ys : List ℕ) → has_no_ampersand xs ≡ true → read_after 0 (xs ++ ys) ≡ xs ++ read_after 0 ys
plain-read [] ys h = refl
plain-read (c ∷ xs) ys h = grind (arith, plain-read xs ys)

plain-alone : (xs ys : List ℕ) → has_no_ampersand xs ≡ true → has_ampersands_alone (xs ++ ys) ≡ has_ampersands_alone ys
plain-alone [] ys h = refl
plain-alone (c ∷ xs) ys h = grind (arith, plain-alone xs ys)

-- what a byte is written as, beside how it is read
abbrev pub IsReadBackAs : List ℕ → List ℕ → Type 0
IsReadBackAs bytes read = (ys : List ℕ) → (read_after 0 (bytes ++ ys) ≡ read ++ read_after 0 ys) ×
    (has_ampersands_alone (bytes ++ ys) ≡ has_ampersands_alone ys)

plain-is : (xs : List ℕ) → has_no_ampersand xs ≡ true → IsReadBackAs xs xs
plain-is xs h ys = (plain-read xs ys h, plain-alone xs ys h)

others-plain : (b : ℕ) (rest : List ℕ) → (b == 38) ≡ false → has_no_ampersand (address_byte b rest) ≡ true
others-plain b rest e =
    each-byte (λ bs. has_no_ampersand bs ≡ true) b rest
    (λ g. absurd (no (sym g ∙ e))) (λ _. refl) (λ _ _. stays-no_ampersand b e) (λ _. encoded-no_ampersand b)
  where
    no : true ≡ false → ⊥
    no e = cc

ampersand-written : (b : ℕ) (rest : List ℕ) → (b == 38) ≡ true → address_byte b rest ≡ codes "&amp;"
ampersand-written b rest e = grind arith

byte-read : (b : ℕ) (rest : List ℕ) → IsReadBackAs (address_byte b rest) (short_byte b rest)
byte-read b rest =
    pick (IsReadBackAs (address_byte b rest)) (b == 38) (38 ∷ []) (address_byte b rest)
    (λ e. subst (λ bs. IsReadBackAs bs (38 ∷ [])) (sym (ampersand-written b rest e)) (λ ys. (refl, refl)))
    (λ e. plain-is (address_byte b rest) (others-plain b rest e))

pub value-read : (a : List ℕ) → value_read (spelled address_byte a) ≡ spelled short_byte a
value-read [] = refl
value-read (b ∷ rest) = grind (arith, byte-read, value-read rest)

pub ampersands-alone : (a : List ℕ) → has_ampersands_alone (spelled address_byte a) ≡ true
ampersands-alone [] = refl
ampersands-alone (b ∷ rest) =
    let r = byte-read b rest (spelled address_byte rest) in
    r.1 ∙ ampersands-alone rest

-- No control character and no space is written.

abbrev pub is_visible : List ℕ → Bool
is_visible bs = list_all (λ c. nat_lt 32 c) bs

digit-visible : (d : ℕ) → nat_lt 32 (hexadecimal d) ≡ true
digit-visible d = grind (arith, nat_tests)

encoded-visible : (b : ℕ) → is_visible (encoded b) ≡ true
encoded-visible b = grind (arith, digit-visible)

stays-visible : (b : ℕ) (rest : List ℕ) → stays b rest ≡ true → is_visible (b ∷ []) ≡ true
stays-visible b rest h = grind (arith, nat_tests)

pub address-visible : (b : ℕ) (rest : List ℕ) → is_visible (address_byte b rest) ≡ true
address-visible b rest =
    each-byte (λ bs. is_visible bs ≡ true) b rest (λ _. refl) (λ _. refl) (λ _ h. stays-visible b rest h) (λ _. encoded-visible b)

pub short-visible : (b : ℕ) (rest : List ℕ) → is_visible (short_byte b rest) ≡ true
short-visible b rest = pick (λ bs. is_visible bs ≡ true) (b == 38) _ _ (λ _. refl) (λ _. address-visible b rest)

pub all-visible : (f : ℕ → List ℕ → List ℕ) → ((b : ℕ) (rest : List ℕ) → is_visible (f b rest) ≡ true) → (a : List ℕ) → is_visible (spelled f a) ≡ true
all-visible f each [] = refl
all-visible f each (b ∷ rest) = grind (arith, list_all-append, all-visible f each rest)

-- A byte stands for itself, or what is written begins with a byte that no scheme has.

abbrev pub IsSpelling : ℕ → List ℕ → Type 0
IsSpelling b bytes = (bytes ≡ b ∷ []) ⊎ ((c : ℕ) × (more : List ℕ) × (bytes ≡ c ∷ more) × (is_scheme_byte c ≡ false) × ((c == 58) ≡ false))

pub address-spelling : (b : ℕ) (rest : List ℕ) → IsSpelling b (address_byte b rest)
address-spelling b rest =
    each-byte (IsSpelling b) b rest
    (λ _. inr (38, codes "amp;", refl, refl, refl)) (λ _. inr (37, codes "EF%BF%BD", refl, refl, refl)) (λ _ _. inl refl)
    (λ _. inr (37, hexadecimal (b / 16) ∷ hexadecimal (b % 16) ∷ [], refl, refl, refl))

pub short-spelling : (b : ℕ) (rest : List ℕ) → IsSpelling b (short_byte b rest)
short-spelling b rest = pick (IsSpelling b) (b == 38) _ _ (λ _. inr (38, [], refl, refl, refl)) (λ _. address-spelling b rest)
