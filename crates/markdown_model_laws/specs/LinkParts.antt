-- Where the parts of links stand, said of the codes of each.
use Rattle.std.specs.Prelude.{◌≡◌, ◌↔◌, ◌⊎◌, ℕ, zero, suc, ◌+◌, ◌≤◌, Bool, true, false, ◌&&◌, ◌||◌, not, List, [], ◌∷◌, ◌++◌, length, reverse, codes, Some, if◌then◌else◌}
use Rattle.std.specs.Str.{byte}
use Rattle.std.specs.List.{list_any}
use Rattle.markdown_content.specs.Codes.{Code, is_line_ending}
use Rattle.markdown_event.specs.declared.event.Name.{Name}
use Rattle.markdown_content.specs.Content.{has_no_blank_line}
use Rattle.markdown_content.specs.Tree.{Forest, ◌⊕◌, leaf, group, linked, leaf_codes}
use Rattle.markdown_model.specs.CodeTests.{is_value, is_among, is_empty, next_is, is_whitespace_code, is_control}
use Rattle.markdown_model.specs.Grammar.{Reading, span}
use Rattle.markdown_model.specs.Resource.{StringNames, DestinationNames, string_group, between_markers, counted, is_bare_opener, label, title, destination}

-- Escapes (CommonMark 2.4): a code is escaped where an odd number of backslashes stands right before it.

abbrev pub is_odd : ℕ → Bool
is_odd zero = false
is_odd (suc n) = not (is_odd n)

-- whether a code right behind these is escaped
abbrev pub escapes_next : List Code → Bool
escapes_next before = is_odd (length (span (is_value (byte "\\")) (reverse before)).0)

-- each of these codes in a text is escaped, and the code behind the text is not
pub record IsEscapedIn (marks : Code → Bool) (text : List Code) : Type 0 where
  pub inside : (before after : List Code) (c : Code) → text ≡ before ++ (c ∷ after) → marks c ≡ true → escapes_next before ≡ true
  pub behind : escapes_next text ≡ false

-- Labels (CommonMark 6.3, link label): `[`, codes with no bracket but escaped ones, some of which is no whitespace and at most 999 of which
-- count, and `]`, with no blank line. Whether characters count or codes is said by `characters`.
pub record IsLabel (characters : Bool) (front : Code) (text : List Code) (back : Code) : Type 0 where
  pub opens : is_value (byte "[") front ≡ true
  pub closes : is_value (byte "]") back ≡ true
  pub escaped : IsEscapedIn (is_among (codes "[]")) text
  pub filled : list_any (λ c. not (is_whitespace_code c)) text ≡ true
  pub size : counted characters false text ≤ 999
  pub lines : has_no_blank_line true (text ++ (back ∷ [])) ≡ true

-- an opening marker, codes with no closing one but escaped ones, and a closing one, with no blank line; `both` says that of the opening marker
-- too none but escaped ones stand there
pub record IsBetween (both : Bool) (opener closer : ℕ) (front : Code) (text : List Code) (back : Code) : Type 0 where
  pub opens : is_value opener front ≡ true
  pub closes : is_value closer back ≡ true
  pub escaped : IsEscapedIn (λ c. is_value closer c || is_bare_opener both opener c) text
  pub lines : has_no_blank_line true (text ++ (back ∷ [])) ≡ true

-- Titles (CommonMark 6.3, link title): between two `"`, between two `'`, or between `(` and `)`, where `both` may ask that each `(` is escaped too.
abbrev pub IsTitle : Bool → Code → List Code → Code → Type 0
IsTitle both front text back =
    IsBetween false (byte "\"") (byte "\"") front text back ⊎ (IsBetween false (byte "'") (byte "'") front text back ⊎ IsBetween both (byte "(") (byte ")") front text back)

-- Destinations in angle brackets (CommonMark 6.3, link destination): `<`, codes with no line ending and no angle bracket but escaped ones, and `>`.
pub record IsEnclosed (front : Code) (text : List Code) (back : Code) : Type 0 where
  pub opens : is_value (byte "<") front ≡ true
  pub closes : is_value (byte ">") back ≡ true
  pub escaped : IsEscapedIn (is_among (codes "<>")) text
  pub one_line : list_any is_line_ending text ≡ false

-- how many of these codes have the value and are not escaped; `before` stands before them
abbrev pub bare_after : ℕ → List Code → List Code → ℕ
bare_after n before [] = 0
bare_after n before (c ∷ cs) = (if is_value n c && not (escapes_next before) then 1 else 0) + bare_after n (before ++ (c ∷ [])) cs

abbrev pub opening : List Code → ℕ
opening text = bare_after (byte "(") [] text

abbrev pub closing : List Code → ℕ
closing text = bare_after (byte ")") [] text

-- Destinations without brackets (CommonMark 6.3, link destination): codes of which none is whitespace or a control and the first is no `<`, in which the
-- parentheses that are not escaped are balanced and nest at most `max` deep. It goes on up to whitespace, the end, or a `)`
-- that is not escaped.
pub record IsRaw (max : ℕ) (text rest : List Code) : Type 0 where
  pub some : is_empty text ≡ false
  pub first : next_is (is_value (byte "<")) text ≡ false
  pub plain : list_any (λ c. is_whitespace_code c || is_control c) text ≡ false
  pub nested : (before after : List Code) → text ≡ before ++ after → (closing before ≤ opening before) × (opening before ≤ closing before + max)
  pub balanced : opening text ≡ closing text
  pub ends : rest ≡ [] ⊎ (next_is is_whitespace_code rest ≡ true ⊎ (next_is (is_value (byte ")")) rest ≡ true) × (escapes_next text ≡ false))

-- What a reading finds: the tree and the codes after it.

-- three parts one after another, of which this is said, with the tree of the three
pub record Marked (Is : Code → List Code → Code → Type 0) (tree_of : List Code → List Code → List Code → Forest) (cs : List Code) (tree : Forest) (rest : List Code) : Type 0 where
  pub front : Code
  pub text : List Code
  pub back : Code
  pub stands : cs ≡ front ∷ (text ++ (back ∷ rest))
  pub is : Is front text back
  pub tree_is : tree ≡ tree_of (front ∷ []) text (back ∷ [])

-- the tree of a destination in angle brackets, and of one without
abbrev pub enclosed_tree : DestinationNames → List Code → List Code → List Code → Forest
enclosed_tree names front text back = group names.whole (group names.literal (leaf names.marker front ⊕ string_group names.text (linked Name.Data text) ⊕ leaf names.marker back))

abbrev pub raw_tree_of : DestinationNames → List Code → Forest
raw_tree_of names text = group names.whole (group names.raw (group names.text (linked Name.Data text)))

pub record Raw (max : ℕ) (names : DestinationNames) (cs : List Code) (tree : Forest) (rest : List Code) : Type 0 where
  pub text : List Code
  pub stands : cs ≡ text ++ rest
  pub is : IsRaw max text rest
  pub tree_is : tree ≡ raw_tree_of names text

-- the reading finds a tree and the codes after it exactly where this holds, and then the leaves are the codes up to there
pub record Finds (a : Reading Forest) (Is : List Code → Forest → List Code → Type 0) : Type 0 where
  pub found : (cs : List Code) (tree : Forest) (rest : List Code) → (a cs ≡ Some (tree, rest)) ↔ Is cs tree rest
  pub covers : (cs : List Code) (tree : Forest) (rest : List Code) → Is cs tree rest → cs ≡ leaf_codes tree ++ rest

abbrev pub TitlesAreFound : Type 0
TitlesAreFound = (both : Bool) (names : StringNames) → Finds (title both names) (Marked (IsTitle both) (between_markers names))

abbrev pub LabelsAreFound : Type 0
LabelsAreFound = (characters : Bool) (names : StringNames) → Finds (label characters names) (Marked (IsLabel characters) (between_markers names))

-- a destination of either kind
abbrev pub IsDestination : ℕ → DestinationNames → List Code → Forest → List Code → Type 0
IsDestination max names cs tree rest = Marked IsEnclosed (enclosed_tree names) cs tree rest ⊎ Raw max names cs tree rest

abbrev pub DestinationsAreFound : Type 0
DestinationsAreFound = (max : ℕ) (names : DestinationNames) → Finds (destination max names) (IsDestination max names)
