-- What the states in what may be trailing punctuation look for.
use Rattle.std.specs.Prelude.{ℕ, Bool, true, false, ◌&&◌, ◌||◌, Option, Some, None, List, [], ◌∷◌, codes}
use Rattle.std.specs.Str.{byte}
use Rattle.markdown_content.specs.Codes.{Code}
use Rattle.markdown_model.specs.CodeTests.{is_value, is_among, is_empty, next_is, is_letter, is_whitespace_code}
use Rattle.markdown_model.specs.GfmAutolinkLiteral.{stands_before_space}

module _ (bytes : List ℕ) (end : ℕ) where
  -- What stands here trails. With `Some seen` a `&` stands before, and what stands here is the rest of a reference and then trailing
  -- punctuation; `seen` says that letters stand between the `&` and here.
  unfoldable pub trails_in : Option Bool → List Code → Bool
  trails_in None [] = stands_before_space bytes end []
  trails_in (Some seen) [] = false
  trails_in None (c ∷ cs) =
      elim (is_among (codes "!\"'),*.:;?_~") c) [
        | true ↦ trails_in None cs
        | false ↦ elim (is_value (byte "&") c) [
          | true ↦ trails_in (Some false) cs
          | false ↦ elim (is_value (byte "<") c) [
            | true ↦ true
            | false ↦ elim (is_value (byte "]") c) [
              | true ↦ (is_empty cs || next_is (λ d. is_whitespace_code d || is_among (codes "([") d) cs) || trails_in None cs
              | false ↦ stands_before_space bytes end (c ∷ cs)
            ]
          ]
        ]
      ]
  trails_in (Some seen) (c ∷ cs) =
      elim (is_letter c) [
        | true ↦ trails_in (Some true) cs
        | false ↦ (seen && is_value (byte ";") c) && trails_in None cs
      ]
