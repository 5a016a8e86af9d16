-- Which blank codes of data are set apart, and which of them are a hard break.
use Rattle.std.specs.Prelude.{◌≡◌, ◌↔◌, Bool, true, false, ◌&&◌, not, List, [], ◌∷◌, ◌++◌}
use Rattle.std.specs.List.{list_all}
use Rattle.markdown_event.specs.declared.event.Name.{Name}
use Rattle.markdown_content.specs.Codes.{Code, is_blank}
use Rattle.markdown_content.specs.Tree.{leaf, ◌⊕◌}
use Rattle.markdown_model.specs.CodeTests.{is_real_space, is_some_code, last_code}
use Rattle.markdown_model.specs.Grammar.{span}
use Rattle.markdown_model.specs.Passes.{HardBreaks, is_hard_break_trailing, blank_name, trimmed_data}

-- a text cut before its last codes that pass, as many as there are
pub record EndsIn (p : Code → Bool) (text front back : List Code) : Type 0 where
  pub stands : text ≡ front ++ back
  pub pass : list_all p back ≡ true
  pub longest : is_some_code p (last_code front) ≡ false

-- Hard breaks (CommonMark 6.7): codes that end in two spaces, and before these, unless the last two alone decide, are spaces too.
pub record IsHardBreak (two_last : Bool) (cs : List Code) : Type 0 where
  pub front : List Code
  pub space : Code
  pub last : Code
  pub stands : cs ≡ front ++ (space ∷ last ∷ [])
  pub two : (is_real_space space ≡ true) × (is_real_space last ≡ true)
  pub others : two_last ≡ false → list_all is_real_space front ≡ true

-- Trimming (CommonMark 6.7 and 6.8): where a line ends behind data, its last blank codes are set apart, and where a line starts before it, the
-- first of those that are kept. `each` says that each text has such last codes.
pub record BlanksAreSetApart : Type 0 where
  pub breaks : (two_last : Bool) (cs : List Code) → (is_hard_break_trailing two_last cs ≡ true) ↔ IsHardBreak two_last cs
  pub parts : (starts ends : Bool) (hard : HardBreaks) (cs kept back front text : List Code) →
      EndsIn (λ c. (ends && not hard.keeps) && is_blank c) cs kept back → span (λ c. starts && is_blank c) kept ≡ (front, text) →
      trimmed_data starts ends hard cs ≡ leaf Name.SpaceOrTab front ⊕ leaf Name.Data text ⊕ leaf (blank_name hard back) back
  pub each : (p : Code → Bool) (cs : List Code) → (front : List Code) × (back : List Code) × EndsIn p cs front back
