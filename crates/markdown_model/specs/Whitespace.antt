-- Whitespace on one line, and whitespace with a line ending.
use Rattle.std.specs.Prelude.{ℕ, Bool, true, false, not, nat_le, List, [], ◌∷◌, length, take, drop, Option, Some, None}
use Rattle.markdown_content.specs.Codes.{Code, is_line_ending, is_blank}
use Rattle.markdown_content.specs.Tree.{Forest, ◌⊕◌}
use Rattle.markdown_event.specs.declared.event.Name.{Name}
use Rattle.markdown_event.specs.declared.event.Content.{Content}
use Rattle.markdown_model.specs.CodeTests.{next_is}
use Rattle.markdown_model.specs.Grammar.{Reading, ◌>>=◌, gives, either, one, some, any_number, before, span}
use Rattle.markdown_model.specs.TextLines.{linked_leaf}

-- Bounded whitespace: as many blank codes as stand there, `max` at most; it holds where they are `min`
-- at least, and gives no leaf where there is none.
unfoldable pub space_or_tab : Name → Option Content → ℕ → ℕ → Reading Forest
space_or_tab name link min max cs =
    let taken = take max (span is_blank cs).0 in
    elim (nat_le min (length taken)) [
      | true ↦ Some (linked_leaf name link taken, drop (length taken) cs)
      | false ↦ None
    ]

-- The whitespace between the parts of a resource (CommonMark 6.3: "spaces, tabs, and up to one line ending").

-- blank codes, as many as stand there, and no line ending after them
unfoldable pub spaces_on_line : Option Content → Reading Forest
spaces_on_line link = do
  blank ← before (some is_blank) (λ cs. not (next_is is_line_ending cs))
  gives (linked_leaf Name.SpaceOrTab link blank)

-- there is a code, and it is no line ending
abbrev pub begins_filled_line : List Code → Bool
begins_filled_line [] = false
begins_filled_line (c ∷ cs) = not (is_line_ending c)

-- one line ending with all blank codes around it, and then a code that is no line ending
unfoldable pub spaces_across : Option Content → Reading Forest
spaces_across link = do
  front ← any_number is_blank
  ending ← one is_line_ending
  back ← before (any_number is_blank) begins_filled_line
  gives (linked_leaf Name.SpaceOrTab link front ⊕ linked_leaf Name.LineEnding link ending ⊕ linked_leaf Name.SpaceOrTab link back)

-- `link` says how the whitespace is to be read where it is part of a linked text
unfoldable pub space_or_tab_eol : Option Content → Reading Forest
space_or_tab_eol link = either (spaces_across link) (spaces_on_line link)
