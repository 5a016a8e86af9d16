-- The parts of a link reference definition, as places in a text.
use Rattle.std.specs.Prelude.{ℕ, ◌+◌, ◌<◌, ◌≤◌, List, take, drop, Option, None, option_map, IfSome}
use Rattle.markdown_content.specs.Codes.{Code}
use Rattle.markdown_model.specs.Grammar.{Reading, ◌>>◌, gives, either}
use Rattle.markdown_block_model.specs.LinkDefinitions.{Definition, between, destination_text, line_end, title_of_definition}
use Rattle.markdown_block_definitions.specs.declared.definition.Stretch.{Stretch}
use Rattle.markdown_block_definitions.specs.declared.definition.Ending.{Ending}
use Rattle.markdown_block_definitions.specs.declared.definition.Found.{Found}

abbrev pub stretch_of : Stretch → List Code → List Code
stretch_of s cs = take s.len (drop s.start cs)

-- what stands behind the destination: a title, or the end of the line
unfoldable pub ending : Reading (Option (List Code))
ending = either title_of_definition (line_end >> gives None)

abbrev pub title_of : Ending → List Code → Option (List Code)
title_of e cs = option_map (λ s. between (stretch_of s cs)) e.title

-- how many codes stand before what ends a definition, and how many it has
abbrev pub before_ending : Found → ℕ
before_ending f = f.destination.start + f.destination.len

abbrev pub len_of : Found → ℕ
len_of f = before_ending f + f.ending.len

-- so many codes are enough for them
abbrev pub IsEndingWithin : ℕ → Ending → Type 0
IsEndingWithin n e = (e.len ≤ n) × IfSome e.title (λ s. s.start + s.len ≤ e.len)

pub record IsWithin (n : ℕ) (f : Found) : Type 0 where
  pub some : 0 < f.label
  pub label : f.label ≤ f.destination.start
  pub title : IfSome f.ending.title (λ s. s.start + s.len ≤ f.ending.len)
  pub whole : len_of f ≤ n

-- the definition that stands first
abbrev pub definition_of : Found → List Code → Definition
definition_of f cs = record {
  label = between (take f.label cs);
  destination = destination_text (stretch_of f.destination cs);
  title = title_of f.ending (drop (before_ending f) cs);
}
