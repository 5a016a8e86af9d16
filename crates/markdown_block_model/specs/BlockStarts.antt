-- What a line begins (CommonMark 3.1, 4 and 5, and footnote definitions): which block, by the order in which they take precedence, and what the rest of the line
-- begins inside it.
use Rattle.std.specs.Prelude.{ℕ, zero, suc, Bool, false, ◌||◌, nat_lt, List, [], ◌∷◌, length, Option, Some, None, if◌then◌else◌}
use Rattle.markdown_content.specs.Codes.{Code}
use Rattle.markdown_block_model.specs.LineRests.{indent, trimmed, is_blank_line, skip, only_if}
use Rattle.markdown_block_model.specs.BlockTree.{Extensions, Container, Leaf, blank, thematic_break, paragraph, indented_code, Tree, nothing, and_leaf, and_container}
use Rattle.markdown_block_model.specs.LeafStarts.{is_break, heading_at, fence_at}
use Rattle.markdown_block_model.specs.HtmlStarts.{html_at}
use Rattle.markdown_block_model.specs.ContainerStarts.{quote_at, footnote_at, item_at}

-- what begins: a leaf, which takes the line, or a container, with the rest of the line
pub data Begun : Type 0 where
  leaf_begins : Leaf → Begun
  container_begins : Container → List Code → Begun

abbrev pub leaf_begun : Option Leaf → Option Begun
leaf_begun None = None
leaf_begun (Some l) = Some (leaf_begins l)

abbrev pub container_begun : Option (Container × List Code) → Option Begun
container_begun None = None
container_begun (Some r) = Some (container_begins r.0 r.1)

abbrev pub first_of : List (Option Begun) → Option Begun
first_of [] = None
first_of (None ∷ bs) = first_of bs
first_of (Some b ∷ bs) = Some b

-- `in_paragraph` says that a paragraph stands right before among the siblings; `after_text`, that a paragraph is open here or further inside

-- what begins behind three columns at most; a break takes precedence over an item (4.1)
abbrev pub begun_near : Extensions → Bool → Bool → List Code → Option Begun
begun_near e in_paragraph after_text cs =
    first_of (
    container_begun (quote_at cs)
    ∷ leaf_begun (heading_at (trimmed cs))
    ∷ leaf_begun (fence_at e (indent cs) (trimmed cs))
    ∷ leaf_begun (html_at after_text cs)
    ∷ leaf_begun (only_if (is_break (trimmed cs)) thematic_break)
    ∷ container_begun (if e.footnotes then footnote_at (trimmed cs) else None)
    ∷ container_begun (item_at in_paragraph (indent cs) (trimmed cs)) ∷ [])

-- what begins behind four columns: indented code, which does not interrupt a paragraph (4.4)
abbrev pub begun_far : Bool → List Code → Option Begun
begun_far after_text cs = if after_text || is_blank_line cs then None else Some (leaf_begins (indented_code (skip 4 cs ∷ [])))

abbrev pub begun : Extensions → Bool → Bool → List Code → Option Begun
begun e in_paragraph after_text cs = if nat_lt (indent cs) 4 then begun_near e in_paragraph after_text cs else begun_far after_text cs

-- Siblings with a line behind them.

-- by what was found to begin there, else with a paragraph (4.8); `inner` is what the rest of the line begins inside a container
abbrev pub with_found : (List Code → Tree) → List Code → Tree → Option Begun → Tree
with_found inner cs siblings None = if is_blank_line cs then siblings else and_leaf siblings (paragraph (trimmed cs))
with_found inner cs siblings (Some (leaf_begins l)) = and_leaf siblings l
with_found inner cs siblings (Some (container_begins c rest)) = and_container siblings c (inner rest)

-- a block inside each container; so many of them at most
abbrev pub with_rest : Extensions → ℕ → List Code → Tree → Tree
with_rest e zero cs siblings = siblings
with_rest e (suc n) cs siblings = with_found (λ rest. with_rest e n rest nothing) cs siblings (begun e false false cs)

-- there are no more containers than codes
abbrev pub with_begun : Extensions → Begun → Tree → Tree
with_begun e (leaf_begins l) siblings = and_leaf siblings l
with_begun e (container_begins c rest) siblings = and_container siblings c (with_rest e (suc (length rest)) rest nothing)

abbrev pub with_line : Extensions → List Code → Tree → Tree
with_line e cs siblings = if is_blank_line cs then and_leaf siblings blank else with_rest e (suc (length cs)) cs siblings
