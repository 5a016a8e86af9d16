-- Leaves that begin a line, and classes that name a language.
use Rattle.std.proofs.Common.{◌≡◌, ℕ, refl, Bool, true, false, List, [], ◌∷◌, ◌++◌, length, codes, Vec, Global}
use Rattle.std.specs.Prelude.{◌==◌}
use Rattle.markdown_content.specs.declared.parser.Piece.{Piece}
use Rattle.markdown_model.specs.Setting.{Setting}
use Rattle.markdown_html_model.specs.Escaped.{escaped}
use Rattle.markdown_html_model.specs.Html.{Page}
use Rattle.markdown_blocks.specs.BlockRows.{leaf_of}
use Rattle.markdown_blocks.specs.declared.block.Leaf.{Leaf}
use Rattle.markdown_blocks.specs.declared.block.Leaf.TheVariants.{Blank, ThematicBreak, Heading, Underlined, Paragraph, IndentedCode, FencedCode, Html, FrontMatter}
use Rattle.markdown_page_model.specs.PageHtml.{leaf_html, leaf_setting, language_class}
use Rattle.markdown_page.specs.DocumentBrought.{block_brought, leaf_brought}
use Rattle.markdown_page.specs.PlacedTree.{line_start, leaf_written}

-- no blank line, and no paragraph
abbrev pub begins_line : Leaf → Bool
begins_line Blank = false
begins_line (Paragraph text) = false
begins_line leaf = true

pub not-others : (l : Leaf) → (l ≡ Blank → ⊥) → ((text : Vec Piece Global) → l ≡ Paragraph text → ⊥) → begins_line l ≡ true
not-others Blank e f = absurd (e refl)
not-others (Paragraph text) e f = absurd (f text refl)
not-others ThematicBreak e f = refl
not-others (Heading n text) e f = refl
not-others (Underlined n text) e f = refl
not-others (IndentedCode ls) e f = refl
not-others (FencedCode g info ls ended) e f = refl
not-others (Html k text ended) e f = refl
not-others (FrontMatter ls) e f = refl

pub other-leaf : (s : Setting) (p : Page) (tight in_line first : Bool) (bytes : List ℕ) (l : Leaf) → begins_line l ≡ true
    → leaf_written s p tight in_line first (leaf_of bytes l) ≡ line_start p in_line ++ leaf_html (leaf_setting s first (leaf_of bytes l)) p (leaf_of bytes l)
other-leaf s p tight in_line first bytes Blank e = absurd (cc)
other-leaf s p tight in_line first bytes ThematicBreak e = refl
other-leaf s p tight in_line first bytes (Heading n text) e = refl
other-leaf s p tight in_line first bytes (Underlined n text) e = refl
other-leaf s p tight in_line first bytes (Paragraph text) e = absurd (cc)
other-leaf s p tight in_line first bytes (IndentedCode ls) e = refl
other-leaf s p tight in_line first bytes (FencedCode f info ls ended) e = refl
other-leaf s p tight in_line first bytes (Html k text ended) e = refl
other-leaf s p tight in_line first bytes (FrontMatter ls) e = refl

pub other-brought : (s : Setting) (p : Page) (bytes : List ℕ) (l : Leaf) → begins_line l ≡ true → leaf_brought s p (leaf_of bytes l) ≡ block_brought s p (leaf_of bytes l)
other-brought s p bytes Blank e = absurd (cc)
other-brought s p bytes ThematicBreak e = refl
other-brought s p bytes (Heading n text) e = refl
other-brought s p bytes (Underlined n text) e = refl
other-brought s p bytes (Paragraph text) e = absurd (cc)
other-brought s p bytes (IndentedCode ls) e = refl
other-brought s p bytes (FencedCode f info ls ended) e = refl
other-brought s p bytes (Html k text ended) e = refl
other-brought s p bytes (FrontMatter ls) e = refl

pub class-some : (language : List ℕ) → (length language == 0) ≡ false → codes " class=\"language-" ++ escaped language ++ codes "\"" ≡ language_class language
class-some [] e = absurd (cc)
class-some (b ∷ bs) e = refl
