-- Names of character references: of which bytes they are, and how long one may be.
use Rattle.std.proofs.Common.{◌≡◌, ℕ, zero, suc, ◌<◌, ◌≤◌, ◌||◌, is_some, Bool, true, false, Option, Some, List, [], ◌∷◌, length, refl, ap, subst, arith}
use Rattle.std.proofs.lemmas.Bool.{leb-true}
use Rattle.std.proofs.lemmas.Grind.{common_steps}
use Rattle.std.proofs.lemmas.Slice.Eq.{bytes_eq-Decides}
use Rattle.std.proofs.lemmas.Str.{IsUtf8-from_ascii}
use Rattle.std.specs.Char.{is_ascii_alphanumeric}
use Rattle.std.specs.List.{list_all, slice_index}
use Rattle.std.specs.Str.{IsUtf8, IsAscii, bytes_eq}
use Rattle.markdown_content.specs.Codes.{Code}
use Rattle.markdown_leaf.specs.CharacterReference.{is_value_code, has_value}
use Rattle.markdown_model.proofs.GrammarSteps.{and-left, and-right}
use Rattle.markdown_model.specs.CodeTests.{is_between, is_alphanumeric, values_of}
use Rattle.markdown_util.specs.Reference.{Table, IsTable, is_value, named_value}

ascii-code : (b : ℕ) → is_ascii_alphanumeric b ≡ true → b < 128
ascii-code b e = grind (arith, common_steps)

first-or-later : (b : ℕ) (bs : List ℕ) (i : ℕ) → b < 128 → IsAscii bs → slice_index (b ∷ bs) i < 128
first-or-later b bs zero h k = h
first-or-later b bs (suc i) h k = k i

name-ascii : (bs : List ℕ) → list_all is_ascii_alphanumeric bs ≡ true → IsAscii bs
name-ascii [] e = λ i. omega arith
name-ascii (b ∷ bs) e = λ i. first-or-later b bs i (ascii-code b (and-left _ _ e)) (name-ascii bs (and-right _ _ e))

-- Names of the table are short, and of letters and digits.

eq-bytes : (xs ys : List ℕ) → bytes_eq xs ys ≡ true → xs ≡ ys
eq-bytes xs ys e = (bytes_eq-Decides xs ys).0 e

later-row : (b : Bool) (x : List ℕ) (o : Option (List ℕ)) →
    is_some (elim b as (λ _. Option (List ℕ)) [ true ↦ Some x | false ↦ o ]) ≡ true → b ≡ false → is_some o ≡ true
later-row true x o e h = cc
later-row false x o e h = e

name-by : (rows : Table) (name : List ℕ) → list_all (λ (row : List ℕ × List ℕ). is_value 38 row.0) rows ≡ true →
    has_value rows name ≡ true → is_value 38 name ≡ true
name-by [] name e h = cc
name-by (row ∷ rows) name e h =
    elim (bytes_eq row.0 name) as (λ b. bytes_eq row.0 name ≡ b → is_value 38 name ≡ true) [
      | true ↦ λ k. subst (λ bs. is_value 38 bs ≡ true) (eq-bytes row.0 name k) (and-left _ _ e)
      | false ↦ λ k. name-by rows name (and-right _ _ e) (later-row (bytes_eq row.0 name) row.1 (named_value rows name) h k)
    ] refl

pub name-value : (names : Table) → IsTable names → (name : List ℕ) → has_value names name ≡ true → is_value 38 name ≡ true
name-value names sound name h = name-by names name sound.names h

pub name-short : (names : Table) → IsTable names → (name : List ℕ) → has_value names name ≡ true → length name ≤ 31
name-short names sound name h = leb-true (length name) 31 (and-right _ _ (and-left _ _ (name-value names sound name h)))

pub name-utf8 : (names : Table) → IsTable names → (name : List ℕ) → has_value names name ≡ true → IsUtf8 name
name-utf8 names sound name h = IsUtf8-from_ascii name (name-ascii name (and-right _ _ (name-value names sound name h)))

-- what is no text is no name
pub no-text : (names : Table) → IsTable names → (name : List ℕ) → (IsUtf8 name → ⊥) → has_value names name ≡ false
no-text names sound name other =
    elim (has_value names name) as (λ b. has_value names name ≡ b → has_value names name ≡ false) [
      | true ↦ λ h. absurd (other (name-utf8 names sound name h))
      | false ↦ λ h. h
    ] refl

-- Codes.

or-turned : (a b d : Bool) → (a || b) || d ≡ (d || a) || b
or-turned true b true = refl
or-turned true b false = refl
or-turned false true true = refl
or-turned false true false = refl
or-turned false false true = refl
or-turned false false false = refl

pub same-code : (c : Code) → is_alphanumeric c ≡ is_value_code 38 c
same-code c = or-turned (is_between 65 90 c.value) (is_between 97 122 c.value) (is_between 48 57 c.value)

pub length-values : (cs : List Code) → length (values_of cs) ≡ length cs
length-values [] = refl
length-values (c ∷ cs) = ap suc (length-values cs)
