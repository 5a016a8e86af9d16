-- Where a text is cut into lines and stretches.
use Rattle.std.specs.Prelude.{◌≡◌, ◌⊎◌, Bool, true, false, List, [], ◌∷◌, ◌++◌, Option}
use Rattle.std.specs.List.{list_all, list_any}
use Rattle.markdown_event.specs.declared.event.Name.{Name}
use Rattle.markdown_event.specs.declared.event.Content.{Content}
use Rattle.markdown_content.specs.Codes.{Code, is_line_ending, is_blank}
use Rattle.markdown_content.specs.Tree.{◌⊕◌}
use Rattle.markdown_model.specs.CodeTests.{next_is}
use Rattle.markdown_model.specs.TextLines.{linked_leaf, stretches, lines}

-- one line ending; or codes in one line, of which all pass or all fail
abbrev pub IsUnmixed : (Code → Bool) → List Code → Type 0
IsUnmixed p cs = ((c : Code) × (cs ≡ c ∷ []) × (is_line_ending c ≡ true)) ⊎ ((list_any is_line_ending cs ≡ false) × ((list_all p cs ≡ true) ⊎ (list_any p cs ≡ false)))

-- Stretches go on as long as they can.
abbrev pub StretchesAreCut : Type 0
StretchesAreCut =
    (p : Code → Bool) (c : Code) (cs rest : List Code) → IsUnmixed p (c ∷ cs)
    → ((d : Code) (ds : List Code) → rest ≡ d ∷ ds → IsUnmixed p (c ∷ (cs ++ (d ∷ []))) → ⊥)
    → stretches p (c ∷ (cs ++ rest)) ≡ (c ∷ cs) ∷ stretches p rest

-- Lines have a leaf each, and so have the line endings between them and the blank codes at the start of each line but the first.
pub record LinesAreCut : Type 0 where
  pub stretch : StretchesAreCut
  pub last : (name : Name) (link : Option Content) (line : List Code) → list_any is_line_ending line ≡ false → lines name link line ≡ linked_leaf name link line
  pub line : (name : Name) (link : Option Content) (line blank rest : List Code) (ending : Code)
      → list_any is_line_ending line ≡ false → is_line_ending ending ≡ true → list_all is_blank blank ≡ true → next_is is_blank rest ≡ false
      → lines name link (line ++ (ending ∷ (blank ++ rest)))
      ≡ linked_leaf name link line ⊕ linked_leaf Name.LineEnding link (ending ∷ []) ⊕ linked_leaf Name.SpaceOrTab link blank ⊕ lines name link rest
