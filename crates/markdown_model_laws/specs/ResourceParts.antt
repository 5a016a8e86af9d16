-- Where resources stand, and what may follow a label, made of the parts of links.
use Rattle.std.specs.Prelude.{◌≡◌, ◌⊎◌, ℕ, ◌<◌, Bool, true, List, [], ◌∷◌, ◌++◌, length, None}
use Rattle.std.specs.Str.{byte}
use Rattle.std.specs.List.{list_all}
use Rattle.markdown_content.specs.Codes.{Code, is_line_ending, is_blank}
use Rattle.markdown_content.specs.Tree.{Forest, empty, ◌⊕◌, leaf, group}
use Rattle.markdown_event.specs.declared.event.Name.{Name}
use Rattle.markdown_model.specs.CodeTests.{is_value, next_is}
use Rattle.markdown_model.specs.LabelEnd.{after_label, reference_identifier}
use Rattle.markdown_model.specs.TextLines.{linked_leaf}
use Rattle.markdown_model.specs.Resource.{title_names, resource_names, reference_names, between_markers, resource}
use Rattle.markdown_model.specs.Setting.{Setting, defines, rules}
use Rattle.markdown_model_laws.specs.LinkParts.{IsTitle, IsLabel, IsDestination, Marked, Finds}

-- A relation between the codes from a place on, the tree of a part that stands there, and the codes after it.
abbrev pub Part : Type 1
Part = List Code → Forest → List Code → Type 0

-- no code
abbrev pub Nothing : Part
Nothing cs tree rest = (cs ≡ rest) × (tree ≡ empty)

-- one of the two
abbrev pub EitherOf : Part → Part → Part
EitherOf Is Other cs tree rest = Is cs tree rest ⊎ Other cs tree rest

-- the one, and the other right behind it
pub record InTurn (Is More : Part) (cs : List Code) (tree : Forest) (rest : List Code) : Type 0 where
  pub first : Forest
  pub second : Forest
  pub between : List Code
  pub is : Is cs first between
  pub more : More between second rest
  pub tree_is : tree ≡ first ⊕ second

-- a group around it
pub record InGroup (name : Name) (Is : Part) (cs : List Code) (tree : Forest) (rest : List Code) : Type 0 where
  pub inside : Forest
  pub is : Is cs inside rest
  pub tree_is : tree ≡ group name inside

-- one code with this value
pub record OneMark (name : Name) (value : ℕ) (cs : List Code) (tree : Forest) (rest : List Code) : Type 0 where
  pub code : Code
  pub stands : cs ≡ code ∷ rest
  pub is : is_value value code ≡ true
  pub tree_is : tree ≡ leaf name (code ∷ [])

-- Spaces, tabs and up to one line ending (CommonMark 6.3, inline link).
pub record Spacing (cs : List Code) (tree : Forest) (rest : List Code) : Type 0 where
  pub front : List Code
  pub ending : List Code
  pub back : List Code
  pub stands : cs ≡ front ++ (ending ++ (back ++ rest))
  pub front_blank : list_all is_blank front ≡ true
  pub up_to_one : ((ending ≡ []) × (back ≡ [])) ⊎ ((e : Code) × (ending ≡ e ∷ []) × (is_line_ending e ≡ true))
  pub back_blank : list_all is_blank back ≡ true
  pub tree_is : tree ≡ linked_leaf Name.SpaceOrTab None front ⊕ linked_leaf Name.LineEnding None ending ⊕ linked_leaf Name.SpaceOrTab None back

-- one code of them at least
abbrev pub SomeSpacing : Part
SomeSpacing cs tree rest = Spacing cs tree rest × (length rest < length cs)

-- behind a destination: a title with whitespace before it, or none; `both` is that of the title
abbrev pub AfterDestination : Bool → Part
AfterDestination both = EitherOf (InTurn SomeSpacing (InTurn (Marked (IsTitle both) (between_markers title_names)) Spacing)) Spacing

-- Resources (CommonMark 6.3, inline link): `(`, whitespace, a destination with what may stand behind it, or nothing, and `)`. Parentheses of the destination nest
-- at most 32 deep.
abbrev pub IsResource : Bool → Part
IsResource both =
    InGroup Name.Resource
    (InTurn (OneMark Name.ResourceMarker (byte "("))
    (InTurn Spacing (InTurn (EitherOf Nothing (InTurn (IsDestination 32 resource_names) (AfterDestination both))) (OneMark Name.ResourceMarker (byte ")")))))

abbrev pub ResourcesAreFound : Type 0
ResourcesAreFound = (both : Bool) → Finds (resource both) (IsResource both)

-- no such part stands here
abbrev pub NoneHere : Part → List Code → Type 0
NoneHere Is cs = (tree : Forest) (rest : List Code) → Is cs tree rest → ⊥

-- a label, as the rules ask for it
abbrev pub ALabel : Setting → Part
ALabel s = Marked (IsLabel (rules s).labels_by_characters) (between_markers reference_names)

-- The label of a full reference (CommonMark 6.3): one whose identifier has a definition.
pub record IsFull (s : Setting) (cs : List Code) (tree : Forest) (rest : List Code) : Type 0 where
  pub is : ALabel s cs tree rest
  pub defined : defines s (reference_identifier s tree) ≡ true

-- The `[]` of a collapsed reference (CommonMark 6.3).
abbrev pub IsCollapsed : Part
IsCollapsed = InGroup Name.Reference (InTurn (OneMark Name.ReferenceMarker (byte "[")) (OneMark Name.ReferenceMarker (byte "]")))

-- What follows a shortcut reference (CommonMark 6.3): nothing, where no resource stands; and before a `[` an option asks for it, and neither `[]` nor a label stands.
pub record IsShortcut (s : Setting) (cs : List Code) (tree : Forest) (rest : List Code) : Type 0 where
  pub is : Nothing cs tree rest
  pub no_resource : NoneHere (IsResource (rules s).escaped_parentheses) cs
  pub before_bracket : next_is (is_value (byte "[")) cs ≡ true → ((rules s).shortcut_before_bracket ≡ true) × NoneHere IsCollapsed cs × NoneHere (ALabel s) cs

-- What may follow a label; `defined` says that the label's own identifier has a definition.
abbrev pub FollowsLabel : Setting → Bool → Part
FollowsLabel s defined cs tree rest = IsResource (rules s).escaped_parentheses cs tree rest ⊎ (IsFull s cs tree rest ⊎ (defined ≡ true) × (IsCollapsed cs tree rest ⊎ IsShortcut s cs tree rest))

abbrev pub WhatFollowsIsFound : Type 0
WhatFollowsIsFound = (s : Setting) (defined : Bool) → Finds (after_label s defined) (FollowsLabel s defined)
