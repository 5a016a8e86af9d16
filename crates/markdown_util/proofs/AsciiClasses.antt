-- Which ASCII characters are whitespace and punctuation, computed over Unicode's tables.
use Rattle.std.proofs.Common.{◌≡◌, refl, ap, ℕ, ◌<◌, nat_le, ◌==◌, ◌&&◌, ◌||◌}
use Rattle.std.specs.Bool.{beq}
use Rattle.std.specs.Char.{is_ascii_punctuation}
use Rattle.ucd_table.proofs.Computing.{tables}
use Rattle.ucd_table.proofs.Facts.{Stepped-below, same_from_beq}
use Rattle.ucd_category.specs.GeneralCategory.{general_category}
use Rattle.ucd_category.specs.GeneralCategoryGroup.{in_group}
use Rattle.ucd_category.specs.declared.GeneralCategoryGroup.TheVariants.{Punctuation, Symbol}
use Rattle.ucd_category.proofs.GeneralCategoryLemmas.{general_category_stepped}
use Rattle.ucd_props.specs.Binary.{is_white_space}
use Rattle.ucd_props.proofs.BinaryLemmas.{is_white_space_stepped}
use Rattle.markdown_util.specs.Neighbours.{is_listed_space, is_punctuation, is_zs}

-- TAB, LF, VT, FF, CR and space
pub white_space_ascii : (c : ℕ) → c < 128 → is_white_space c ≡ ((nat_le 9 c && nat_le c 13) || c == 32)
unfolding tables is_white_space_stepped
white_space_ascii c h =
    same_from_beq _ _ (Stepped-below is_white_space is_white_space_stepped (λ x v. beq v ((nat_le 9 x && nat_le x 13) || x == 32)) 128 refl c h)

pub space_separator_ascii : (c : ℕ) → c < 128 → is_zs (general_category c) ≡ (c == 32)
unfolding tables general_category_stepped
space_separator_ascii c h =
    same_from_beq _ _ (Stepped-below general_category general_category_stepped (λ x g. beq (is_zs g) (x == 32)) 128 refl c h)

-- TAB, LF, FF, CR and space
pub listed_space_ascii : (c : ℕ) → c < 128 → is_listed_space c ≡ ((c == 9 || (c == 10 || (c == 12 || c == 13))) || c == 32)
listed_space_ascii c h = ap (λ b. (c == 9 || (c == 10 || (c == 12 || c == 13))) || b) (space_separator_ascii c h)

pub punctuation_ascii : (c : ℕ) → c < 128 → is_punctuation c ≡ is_ascii_punctuation c
unfolding tables general_category_stepped
punctuation_ascii c h =
    same_from_beq _ _
    (Stepped-below general_category general_category_stepped (λ x g. beq (in_group Punctuation g || in_group Symbol g) (is_ascii_punctuation x)) 128 refl c h)
