-- Codes on one line, and codes at whose line endings the document has whitespace.
use Rattle.std.specs.Prelude.{◌≡◌, ◌≢◌, ℕ, true, false, List, [], ◌∷◌}
use Rattle.std.specs.List.{list_any}
use Rattle.markdown_content.specs.Codes.{Code, is_line_ending}
use Rattle.markdown_util.specs.Neighbours.{class_of, after_index}
use Rattle.markdown_model.specs.GfmAutolinkLiteral.{is_space}

-- no line ending stands among these codes
abbrev pub IsLine : List Code → Type 0
IsLine cs = list_any is_line_ending cs ≡ false

-- some codes, and no line ending among them
abbrev pub IsSomeLine : List Code → Type 0
IsSomeLine cs = (cs ≢ []) × IsLine cs

-- one code, or some codes without a line ending
abbrev pub IsOnLine : List Code → Type 0
IsOnLine [] = ⊥
IsOnLine (c ∷ []) = Unit {0}
IsOnLine (c ∷ d ∷ cs) = IsLine (c ∷ d ∷ cs)

-- where one of these codes is a line ending, the document has whitespace
abbrev pub AreSpaced : List ℕ → List Code → Type 0
AreSpaced bytes [] = Unit {0}
AreSpaced bytes (c ∷ cs) = (is_line_ending c ≡ true → is_space (class_of (after_index bytes c.start.index)) ≡ true) × AreSpaced bytes cs
