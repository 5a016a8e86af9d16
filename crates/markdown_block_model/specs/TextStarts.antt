-- Lines of a text.
use Rattle.std.specs.Prelude.{Bool, true, false, ◌&&◌, not, List, [], ◌∷◌, if◌then◌else◌}
use Rattle.markdown_content.specs.Codes.{Code, is_line_ending}
use Rattle.markdown_model.specs.CodeTests.{is_empty, is_whitespace_code}

-- each line begins with a code that is no whitespace; the Bool says that a line begins here
abbrev pub lines_begin : Bool → List Code → Bool
lines_begin b [] = true
lines_begin true (c ∷ cs) = not (is_whitespace_code c) && lines_begin false cs
lines_begin false (c ∷ cs) = lines_begin (is_line_ending c) cs

-- no code stands behind a line ending
abbrev pub is_line : List Code → Bool
is_line [] = true
is_line (c ∷ cs) = if is_line_ending c then is_empty cs else is_line cs
