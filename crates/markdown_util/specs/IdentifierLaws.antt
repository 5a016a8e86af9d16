-- Laws of the definitions.
use Rattle.std.specs.Prelude.{◌≡◌, ◌≢◌, ℕ, List, [], ◌∷◌, ◌++◌, All, Bool, ◌&&◌, IsTrue, chars, map}
use Rattle.std.specs.List.{list_all, list_any}
use Rattle.std.specs.Str.{byte, bytes_eq}
use Rattle.markdown_util.specs.Identifier.{separates_words, identifier_of}
use Rattle.markdown_util.specs.Reference.{Table, html_4_rows, html_5_rows, parsed}
use Rattle.markdown_util.specs.declared.util.constant.TheConstants.{CHARACTER_REFERENCES, CHARACTER_REFERENCES_HTML_4}

-- nothing but TAB, LF, CR and space
abbrev pub AreSpaces : List ℕ → Type 0
AreSpaces cs = IsTrue (list_all separates_words cs)

-- what two texts have alike, and after it a run of spaces in each of them
pub record Gap : Type 0 where
  pub before : List ℕ
  pub left : List ℕ
  pub right : List ℕ

pub record AreRuns (gap : Gap) : Type 0 where
  pub left : AreSpaces gap.left
  pub right : AreSpaces gap.right
  pub left_nonempty : gap.left ≢ []
  pub right_nonempty : gap.right ≢ []

-- the two texts, which end alike
abbrev pub left_text : List Gap → List ℕ → List ℕ
left_text [] end = end
left_text (gap ∷ gaps) end = gap.before ++ (gap.left ++ left_text gaps end)

abbrev pub right_text : List Gap → List ℕ → List ℕ
right_text [] end = end
right_text (gap ∷ gaps) end = gap.before ++ (gap.right ++ right_text gaps end)

-- a text between spaces, which may be none
pub record IsBetweenSpaces (text whole : List ℕ) : Type 0 where
  pub front : List ℕ
  pub back : List ℕ
  pub front_spaces : AreSpaces front
  pub back_spaces : AreSpaces back
  pub is : whole ≡ front ++ (text ++ back)

-- the two texts differ only in the kind and length of runs of TAB, LF, CR and space, and in such runs at the ends
pub record DifferInSpaces (xs ys : List ℕ) : Type 0 where
  pub gaps : List Gap
  pub end : List ℕ
  pub runs : All AreRuns gaps
  pub left : IsBetweenSpaces (left_text gaps end) xs
  pub right : IsBetweenSpaces (right_text gaps end) ys

-- such texts have one identifier
abbrev pub IdentifierLaw : Type 0
IdentifierLaw = (xs ys : List ℕ) → DifferInSpaces (chars xs) (chars ys) → identifier_of xs ≡ identifier_of ys

-- a text without `&` is parsed to itself, whichever the table
abbrev pub UnchangedLaw : Type 0
UnchangedLaw = (table : Table) (text : List ℕ) → All (λ b. b ≢ byte "&") text → parsed table text ≡ text

-- each line of the first table is one of the second
abbrev pub are_lines_of : Table → Table → Bool
are_lines_of rows others = list_all (λ row. list_any (λ r. bytes_eq r.0 row.0 && bytes_eq r.1 row.1) others) rows

-- the constants of the crate's surface hold the lines of the tables
pub record ConstantsHoldRows : Type 0 where
  pub html_4 : map (λ row. (row.0.now, row.1.now)) CHARACTER_REFERENCES_HTML_4 ≡ html_4_rows
  pub html_5 : map (λ row. (row.0.now, row.1.now)) CHARACTER_REFERENCES ≡ html_5_rows
