-- Trees whose character references hold their markers and their value alone, and in which no such leaf stands elsewhere.
use Rattle.std.specs.Prelude.{◌≡◌, ◌≢◌, ◌≤◌, Bool, true, false, List, [], length, None, ◌⊎◌}
use Rattle.std.specs.List.{list_all}
use Rattle.markdown_event.specs.declared.event.Name.{Name}
use Rattle.markdown_event.specs.declared.event.Name.TheVariants as N
use Rattle.markdown_content.specs.Codes.{Code}
use Rattle.markdown_content.specs.Tree.{Forest, empty, leaf_then, group_then}
use Rattle.markdown_model.specs.CodeTests.{is_digit, is_hex_digit, is_alphanumeric}
use Rattle.markdown_model.specs.InlineTree.{text_tree, string_tree}
use Rattle.markdown_model.specs.Setting.{Setting}

-- no name of a reference, nor of what tells its kind, nor of its value
abbrev pub is_free : Name → Bool
is_free N.CharacterReference = false
is_free N.CharacterReferenceMarkerNumeric = false
is_free N.CharacterReferenceMarkerHexadecimal = false
is_free N.CharacterReferenceValue = false
is_free _ = true

abbrev pub named_row : List Code → List Code → List Code → Forest
named_row front value back =
    leaf_then N.CharacterReferenceMarker None front
    (leaf_then N.CharacterReferenceValue None value (leaf_then N.CharacterReferenceMarkerSemi None back empty))

abbrev pub decimal_row : List Code → List Code → List Code → List Code → Forest
decimal_row front number value back =
    leaf_then N.CharacterReferenceMarker None front
    (leaf_then N.CharacterReferenceMarkerNumeric None number
    (leaf_then N.CharacterReferenceValue None value (leaf_then N.CharacterReferenceMarkerSemi None back empty)))

abbrev pub hexadecimal_row : List Code → List Code → List Code → List Code → List Code → Forest
hexadecimal_row front number x value back =
    leaf_then N.CharacterReferenceMarker None front
    (leaf_then N.CharacterReferenceMarkerNumeric None number
    (leaf_then N.CharacterReferenceMarkerHexadecimal None x
    (leaf_then N.CharacterReferenceValue None value (leaf_then N.CharacterReferenceMarkerSemi None back empty))))

pub record IsNamedReference (t : Forest) : Type 0 where
  pub front : List Code
  pub value : List Code
  pub back : List Code
  pub row : t ≡ named_row front value back
  pub letters : list_all is_alphanumeric value ≡ true

pub record IsDecimalTree (t : Forest) : Type 0 where
  pub front : List Code
  pub number : List Code
  pub value : List Code
  pub back : List Code
  pub row : t ≡ decimal_row front number value back
  pub some : value ≢ []
  pub few : length value ≤ 7
  pub digits : list_all is_digit value ≡ true

pub record IsHexadecimalTree (t : Forest) : Type 0 where
  pub front : List Code
  pub number : List Code
  pub x : List Code
  pub value : List Code
  pub back : List Code
  pub row : t ≡ hexadecimal_row front number x value back
  pub some : value ≢ []
  pub few : length value ≤ 6
  pub digits : list_all is_hex_digit value ≡ true

abbrev pub IsReference : Forest → Type 0
IsReference t = IsNamedReference t ⊎ (IsDecimalTree t ⊎ IsHexadecimalTree t)

abbrev pub HasReferences : Forest → Type 0
HasReferences empty = Unit {0}
HasReferences (leaf_then name link cs rest) = (is_free name ≡ true) × HasReferences rest
HasReferences (group_then N.CharacterReference a b inside rest) = IsReference inside × HasReferences rest
HasReferences (group_then name a b inside rest) = (is_free name ≡ true) × (HasReferences inside × HasReferences rest)

abbrev pub ReferencesAreKnown : Type 0
ReferencesAreKnown = (s : Setting) (cs : List Code) → HasReferences (text_tree s cs) × HasReferences (string_tree s cs)
