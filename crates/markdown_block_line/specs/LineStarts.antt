-- What begins with the rest of a line.
use Rattle.std.specs.Prelude.{◌≡◌, ℕ, ◌+◌, ◌<◌, ◌≤◌, List, [], ◌∷◌, take, drop, false}
use Rattle.std.specs.Str.{byte}
use Rattle.markdown_content.specs.Codes.{Code}
use Rattle.markdown_block_model.specs.LineRests.{indent, trimmed, count_first, first_value}
use Rattle.markdown_block_model.specs.BlockTree.{thematic_break, heading, fenced_code, html, indented_code}
use Rattle.markdown_block_model.specs.BlockStarts as block_starts
use Rattle.markdown_block_line.specs.declared.begins.Begun.{Begun}
use Rattle.markdown_block_line.specs.declared.begins.Begun.TheVariants.{ThematicBreak, Heading, FencedCode, Html, IndentedCode, Container}
use Rattle.markdown_block_line.specs.LineBlocks.{container_of, fence_of}

abbrev pub begun_of : List Code → Begun → block_starts.Begun
begun_of cs ThematicBreak = block_starts.leaf_begins thematic_break
begun_of cs (Heading h) = block_starts.leaf_begins (heading h.level (take h.len (drop h.start cs)))
begun_of cs (FencedCode f) = block_starts.leaf_begins (fenced_code (fence_of f.fence) (take f.len (drop f.start cs)) [] false)
begun_of cs (Html h) = block_starts.leaf_begins (html h.kind cs h.ended)
begun_of cs IndentedCode = block_starts.leaf_begins (indented_code (drop 4 cs ∷ []))
begun_of cs (Container c k) = block_starts.container_begins (container_of c) (drop k cs)

-- its places stand within so many codes; a container takes one at least
abbrev pub IsWithin : ℕ → Begun → Type 0
IsWithin n ThematicBreak = Unit {0}
IsWithin n (Heading h) = h.start + h.len ≤ n
IsWithin n (FencedCode f) = f.start + f.len ≤ n
IsWithin n (Html h) = Unit {0}
IsWithin n IndentedCode = 4 ≤ n
IsWithin n (Container c k) = (0 < k) × (k ≤ n)

-- how many codes stand before the text of a heading: its markers, and the blanks behind them
abbrev pub heading_start : List Code → ℕ
heading_start cs = count_first (byte "#") cs + indent (drop (count_first (byte "#") cs) cs)

-- and before an info string: the fence, and the blanks behind it
abbrev pub fence_start : List Code → ℕ
fence_start cs = count_first (first_value cs) cs + indent (drop (count_first (first_value cs) cs) cs)

-- a heading's text and an info string stand there, also where they are empty
abbrev pub StandsWhere : List Code → Begun → Type 0
StandsWhere cs ThematicBreak = Unit {0}
StandsWhere cs (Heading h) = h.start ≡ indent cs + heading_start (trimmed cs)
StandsWhere cs (FencedCode f) = f.start ≡ indent cs + fence_start (trimmed cs)
StandsWhere cs (Html h) = Unit {0}
StandsWhere cs IndentedCode = Unit {0}
StandsWhere cs (Container c k) = Unit {0}
