-- The blocks that are read beside CommonMark's, each asked for by a bit, and what is wrong with a document that is refused.
use Rattle.std.specs.Prelude.{ℕ, ◌==◌, bit_and, IsTrue, false, List}
use Rattle.markdown_content.specs.DefaultOptions.{has_option}
use Rattle.markdown_block_model.specs.BlockTree.{Extensions}
use Rattle.markdown_inline_c.specs.Statuses.{IsReadFault}
use Rattle.markdown_inline_c.specs.declared.fault.Fault.{Fault}

-- each bit is one of a block
abbrev pub AreKnownBlocks : ℕ → Type 0
AreKnownBlocks bits = IsTrue (bit_and bits 3 == bits)

-- code fenced with dollars, which is math, and front matter
abbrev pub extensions_in : ℕ → Extensions
extensions_in bits = record { tables = false; footnotes = false; math = has_option bits 1; front_matter = has_option bits 2 }

-- what is wrong with the bits, or else with the document
abbrev pub IsBlocksFault : ℕ → List ℕ → Fault → Type 0
IsBlocksFault bits bytes Fault.UnknownOption = AreKnownBlocks bits → ⊥
IsBlocksFault bits bytes fault = AreKnownBlocks bits × IsReadFault bytes fault
