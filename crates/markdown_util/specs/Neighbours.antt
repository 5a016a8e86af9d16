-- The characters beside an index of a text, and their classes (CommonMark 0.31, sections 2.1 and 6.2).
use Rattle.std.specs.Prelude.{ℕ, ◌-◌, ◌==◌, Bool, true, false, ◌||◌, List, length, take, drop, chars, Option, Some, None, slice_get}
use Rattle.unicode.specs.Binary.{is_white_space}
use Rattle.unicode.specs.GeneralCategory.{general_category}
use Rattle.unicode.specs.GeneralCategoryGroup.{in_group}
use Rattle.unicode.specs.declared.properties.GeneralCategory.{GeneralCategory}
use Rattle.unicode.specs.declared.properties.GeneralCategory.TheVariants.{SpaceSeparator}
use Rattle.unicode.specs.declared.properties.GeneralCategoryGroup.TheVariants.{Punctuation, Symbol}
use Rattle.markdown_util.specs.declared.util.char.Kind.{Kind}

-- the character just before an index, none at the start
abbrev pub before_index : List ℕ → ℕ → Option ℕ
before_index bytes i = let front = chars (take i bytes) in slice_get front (length front - 1)

-- the character at an index, none at the end
abbrev pub after_index : List ℕ → ℕ → Option ℕ
after_index bytes i = slice_get (chars (drop i bytes)) 0

-- general category P or S
abbrev pub is_punctuation : ℕ → Bool
is_punctuation c = in_group Punctuation (general_category c) || in_group Symbol (general_category c)

-- the class of a character, by what whitespace is; a missing character is whitespace
abbrev pub class_by : (ℕ → Bool) → Option ℕ → Kind
class_by is_space None = Kind.Whitespace
class_by is_space (Some c) =
    elim (is_space c) [
      | true ↦ Kind.Whitespace
      | false ↦ elim (is_punctuation c) [ true ↦ Kind.Punctuation | false ↦ Kind.Other ]
    ]

-- whitespace is Unicode's White_Space
unfoldable pub class_of : Option ℕ → Kind
class_of c = class_by is_white_space c

abbrev pub is_zs : GeneralCategory → Bool
is_zs SpaceSeparator = true
is_zs _ = false

-- what CommonMark lists as whitespace (2.1): TAB, LF, FF, CR, and general category Zs
abbrev pub is_listed_space : ℕ → Bool
is_listed_space c = (c == 9 || (c == 10 || (c == 12 || c == 13))) || is_zs (general_category c)

-- whitespace is what CommonMark lists
unfoldable pub listed_class_of : Option ℕ → Kind
listed_class_of c = class_by is_listed_space c
