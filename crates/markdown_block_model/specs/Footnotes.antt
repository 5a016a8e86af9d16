-- The footnote definitions of a tree, at any depth.
use Rattle.std.specs.Prelude.{ℕ, true, List, [], ◌∷◌, ◌++◌}
use Rattle.markdown_content.specs.Codes.{Code}
use Rattle.markdown_util.specs.Identifier.{identifier_by}
use Rattle.markdown_model.specs.CodeTests.{values_of}
use Rattle.markdown_block_model.specs.BlockTree.{quote, item, footnote, Tree, nothing, and_leaf, and_container}

-- its identifier and its blocks; of several with one identifier the first counts
pub record Footnote : Type 0 where
  pub identifier : List ℕ
  pub inside : Tree

abbrev pub footnote_of : List Code → Tree → Footnote
footnote_of label inside = record { identifier = identifier_by true (values_of label); inside = inside }

-- in order; one comes before those inside it
abbrev pub footnotes_within : Tree → List Footnote
footnotes_within nothing = []
footnotes_within (and_leaf before leaf) = footnotes_within before
footnotes_within (and_container before quote inside) = footnotes_within before ++ footnotes_within inside
footnotes_within (and_container before (item m columns) inside) = footnotes_within before ++ footnotes_within inside
footnotes_within (and_container before (footnote label) inside) = footnotes_within before ++ footnote_of label inside ∷ footnotes_within inside
