-- What stands before a colon, read byte by byte.
use Rattle.std.proofs.Common.{◌≡◌, ◌∙◌, sym, ap, refl, ℕ, suc, ◌+◌, Bool, true, false, cond, if◌then◌else◌, ◌&&◌, ◌==◌, List, [], ◌∷◌, take, drop, Option, None, Some, arith}
use Rattle.std.specs.Option.{option_map}
use Rattle.std.specs.List.{prefix_len}
use Rattle.std.proofs.lemmas.Bool.Decides.{nat_tests}
use Rattle.markdown_html_model.specs.Schemes.{begins_with_colon, goes_on_scheme, is_listed, scheme_of}
use Rattle.markdown_html_model.specs.BrowserScheme.{is_scheme_byte, scheme_of_input}

-- the bytes before the first that does not go on, where that is a colon
abbrev pub before_colon : (ℕ → Bool) → List ℕ → Option (List ℕ)
before_colon goes_on [] = None
before_colon goes_on (b ∷ rest) = if goes_on b then option_map (λ s. b ∷ s) (before_colon goes_on rest) else (if b == 58 then Some [] else None)

abbrev pub by_len : ℕ → List ℕ → Option (List ℕ)
by_len n bs = if begins_with_colon (drop n bs) then Some (take n bs) else None

suc-is : (n : ℕ) → 1 + n ≡ suc n
suc-is n = omega arith

one-more : (b : ℕ) (bs : List ℕ) (n : ℕ) → by_len (suc n) (b ∷ bs) ≡ option_map (λ s. b ∷ s) (by_len n bs)
one-more b bs n = grind arith

len-step : (b n : ℕ) (bs : List ℕ) (c : Bool) (rest : Option (List ℕ)) → by_len n bs ≡ rest
    → by_len (cond c (1 + n) 0) (b ∷ bs) ≡ (if c then option_map (λ s. b ∷ s) rest else (if b == 58 then Some [] else None))
len-step b n bs true rest h = ap (λ k. by_len k (b ∷ bs)) (suc-is n) ∙ one-more b bs n ∙ ap (option_map (λ s. b ∷ s)) h
len-step b n bs false rest h = refl

by_len-is : (goes_on : ℕ → Bool) (bs : List ℕ) → by_len (prefix_len goes_on bs) bs ≡ before_colon goes_on bs
by_len-is goes_on [] = refl
by_len-is goes_on (b ∷ bs) = len-step b (prefix_len goes_on bs) bs (goes_on b) (before_colon goes_on bs) (by_len-is goes_on bs)

pub scheme_of-is : (a : List ℕ) → scheme_of a ≡ before_colon goes_on_scheme a
unfolding scheme_of
scheme_of-is a = by_len-is goes_on_scheme a

listed-if : (schemes : List (List ℕ)) (text : List ℕ) (letter colon : Bool) → is_listed schemes (if colon then Some text else None) ≡ true
    → is_listed schemes (if letter && colon then Some text else None) ≡ true
listed-if schemes text true colon h = h
listed-if schemes text false colon h = refl

-- a scheme that no letter begins is none
pub input-listed : (schemes : List (List ℕ)) (input : List ℕ) → is_listed schemes (before_colon is_scheme_byte input) ≡ true → is_listed schemes (scheme_of_input input) ≡ true
input-listed schemes input h = listed-if schemes _ _ _ (ap (is_listed schemes) (by_len-is is_scheme_byte input) ∙ h)

-- A scheme that is read in one is that of the other.

abbrev pub IsSameIfSome : Option (List ℕ) → Option (List ℕ) → Type 0
IsSameIfSome None y = Unit {0}
IsSameIfSome (Some s) y = y ≡ Some s

pub follows-listed : (schemes : List (List ℕ)) (x y : Option (List ℕ)) → IsSameIfSome x y → is_listed schemes y ≡ true → is_listed schemes x ≡ true
follows-listed schemes None y f h = refl
follows-listed schemes (Some s) y f h = ap (is_listed schemes) (sym f) ∙ h

scheme_byte-goes_on : (b : ℕ) → is_scheme_byte b ≡ true → goes_on_scheme b ≡ true
scheme_byte-goes_on b h = grind (arith, nat_tests)

colon-ends : (b : ℕ) → (b == 58) ≡ true → goes_on_scheme b ≡ false
colon-ends b h = grind (arith, nat_tests)

mapped : (b : ℕ) (x y : Option (List ℕ)) → IsSameIfSome x y → IsSameIfSome (option_map (λ s. b ∷ s) x) (option_map (λ s. b ∷ s) y)
mapped b None y f = tt
mapped b (Some s) y f = ap (option_map (λ s. b ∷ s)) f

step-follows : (x y : Option (List ℕ)) (c d k : Bool) → (c ≡ true → d ≡ true) → (k ≡ true → d ≡ false) → IsSameIfSome x y
    → IsSameIfSome (if c then x else (if k then Some [] else None)) (if d then y else (if k then Some [] else None))
step-follows x y true true k g h f = f
step-follows x y false false true g h f = refl
step-follows x y false d false g h f = tt
step-follows x y c d k g h f = grind arith

-- a byte that stands for itself
pub same-follows : (b : ℕ) (rest more : List ℕ) → IsSameIfSome (before_colon is_scheme_byte rest) (before_colon goes_on_scheme more)
    → IsSameIfSome (before_colon is_scheme_byte (b ∷ rest)) (before_colon goes_on_scheme (b ∷ more))
same-follows b rest more f = grind (arith, step-follows, scheme_byte-goes_on, colon-ends, mapped)
