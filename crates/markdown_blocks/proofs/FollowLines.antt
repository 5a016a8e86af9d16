-- A line behind the newest siblings, or in the newest leaf.
use Rattle.std.proofs.Common.{◌≡◌, ℕ, refl, ap, ◌∙◌, sym, List, ◌++◌, Bool, true, false, Some, None}
use Rattle.std.specs.Prelude.{if◌then◌else◌}
use Rattle.markdown_content.specs.Codes.{Code}
use Rattle.markdown_block_model.specs.LineRests.{is_blank_line, trimmed}
use Rattle.markdown_block_model.specs.BlockTree as model
use Rattle.markdown_block_model.specs.BlockTree.{Tree, and_leaf}
use Rattle.markdown_block_model.specs.BlockStarts as block_starts
use Rattle.markdown_block_model.specs.BlockStarts.{with_begun, with_line, begun}
use Rattle.markdown_block_model.specs.DocumentBlocks.{read_line, with_leaf_line, with_text_line, with_text_level, with_text_begun, with_next, with_next_or_line, heading_level}
use Rattle.markdown_blocks.specs.TreeDepth.{inside_at, at_depth}
use Rattle.markdown_blocks.specs.BlockRows.{leaf_of, closed_tree, whole_tree, depth, IsBetween}
use Rattle.markdown_blocks.specs.declared.reader.Reader.{Reader}
use Rattle.markdown_blocks.specs.declared.block.Leaf.{Leaf}
use Rattle.markdown_blocks.specs.declared.block.Leaf.TheVariants.{Blank}
use Rattle.markdown_blocks.proofs.DepthLemmas.{at_depth-same, at_depth-twice}
use Rattle.markdown_block_line.specs.LineBlocks.{extensions_of}
use Rattle.markdown_block_line.specs.declared.extensions.Extensions.{Extensions}

-- a line where no leaf is open, and where one is
pub follow-none : (ext : Extensions) (has_text : List Code → Bool) (bytes : List ℕ) (line : List Code) (r : Reader) → IsBetween bytes r → r.open ≡ None
    → at_depth (depth r) (with_line (extensions_of ext) line) (closed_tree bytes r) ≡ at_depth (depth r) (read_line (extensions_of ext) has_text line) (whole_tree bytes r)
follow-none ext has_text bytes line r h o = rw o (at_depth-same (depth r) (with_line (extensions_of ext) line) (read_line (extensions_of ext) has_text line) (closed_tree bytes r) (rw (h.empty o) refl))

pub follow-some : (ext : Extensions) (has_text : List Code → Bool) (bytes : List ℕ) (line : List Code) (r : Reader) (l : Leaf) → r.open ≡ Some l
    → at_depth (depth r) (λ s. with_leaf_line (extensions_of ext) has_text line s (leaf_of bytes l)) (closed_tree bytes r) ≡ at_depth (depth r) (read_line (extensions_of ext) has_text line) (whole_tree bytes r)
follow-some ext has_text bytes line r l o = rw o (sym (at_depth-twice (depth r) (read_line (extensions_of ext) has_text line) (λ s. and_leaf s (leaf_of bytes l)) (closed_tree bytes r)))

pub next-none : (ext : Extensions) (bytes : List ℕ) (line : List Code) (r a : Reader) (l k : Leaf) → with_next (extensions_of ext) (leaf_of bytes l) line ≡ None → k ≡ l → a.path ≡ r.path
    → closed_tree bytes a ≡ at_depth (depth r) (λ s. and_leaf s (leaf_of bytes k)) (closed_tree bytes r)
    → at_depth (depth a) (with_line (extensions_of ext) line) (closed_tree bytes a) ≡ at_depth (depth r) (λ s. with_next_or_line (extensions_of ext) line s (leaf_of bytes l) (with_next (extensions_of ext) (leaf_of bytes l) line)) (closed_tree bytes r)
next-none ext bytes line r a l k h e p t =
    let x : at_depth (depth r) (λ s. with_next_or_line (extensions_of ext) line s (leaf_of bytes l) None) (closed_tree bytes r)
    ≡ at_depth (depth r) (λ s. with_next_or_line (extensions_of ext) line s (leaf_of bytes l) (with_next (extensions_of ext) (leaf_of bytes l) line)) (closed_tree bytes r)
    = ap (λ o. at_depth (depth r) (λ s. with_next_or_line (extensions_of ext) line s (leaf_of bytes l) o) (closed_tree bytes r)) (sym h) in
    rw (p, t, e) (at_depth-twice (depth r) (with_line (extensions_of ext) line) (λ s. and_leaf s (leaf_of bytes l)) (closed_tree bytes r) ∙ x)

-- a line and a paragraph

text-line-blank : (ext : Extensions) (has_text : List Code → Bool) (line text : List Code) (s : Tree) → is_blank_line line ≡ true → and_leaf (and_leaf s (model.paragraph text)) model.blank ≡ with_text_line (extensions_of ext) has_text line s text
text-line-blank ext has_text line text s h =
    sym (ap (λ b. if b then and_leaf (and_leaf s (model.paragraph text)) model.blank else with_text_level (extensions_of ext) line s text (heading_level has_text line text)) h)

text-line-level : (ext : Extensions) (has_text : List Code → Bool) (line text : List Code) (s : Tree) → is_blank_line line ≡ false → with_text_level (extensions_of ext) line s text (heading_level has_text line text) ≡ with_text_line (extensions_of ext) has_text line s text
text-line-level ext has_text line text s h =
    sym (ap (λ b. if b then and_leaf (and_leaf s (model.paragraph text)) model.blank else with_text_level (extensions_of ext) line s text (heading_level has_text line text)) h)

pub text-blank : (ext : Extensions) (has_text : List Code → Bool) (bytes : List ℕ) (line text : List Code) (r a : Reader) → is_blank_line line ≡ true → a.path ≡ r.path
    → closed_tree bytes a ≡ at_depth (depth r) (λ s. and_leaf s (model.paragraph text)) (closed_tree bytes r)
    → whole_tree bytes (record a { «open» = Some Blank }) ≡ at_depth (depth r) (λ s. with_text_line (extensions_of ext) has_text line s text) (closed_tree bytes r)
text-blank ext has_text bytes line text r a h p t =
    rw (p, t) (at_depth-twice (depth r) (λ s. and_leaf s model.blank) (λ s. and_leaf s (model.paragraph text)) (closed_tree bytes r)
    ∙ at_depth-same (depth r) (λ s. and_leaf (and_leaf s (model.paragraph text)) model.blank) (λ s. with_text_line (extensions_of ext) has_text line s text) (closed_tree bytes r)
    (text-line-blank ext has_text line text (inside_at (depth r) (closed_tree bytes r)) h))

pub text-longer : (ext : Extensions) (has_text : List Code → Bool) (bytes : List ℕ) (line text : List Code) (r : Reader) (l : Leaf) → is_blank_line line ≡ false → heading_level has_text line text ≡ None → begun (extensions_of ext) true true line ≡ None
    → leaf_of bytes l ≡ model.paragraph (text ++ trimmed line) → whole_tree bytes (record r { «open» = Some l }) ≡ at_depth (depth r) (λ s. with_text_line (extensions_of ext) has_text line s text) (closed_tree bytes r)
text-longer ext has_text bytes line text r l h e b k =
    let s : Tree = inside_at (depth r) (closed_tree bytes r) in
    at_depth-same (depth r) (λ s. and_leaf s (leaf_of bytes l)) (λ s. with_text_line (extensions_of ext) has_text line s text) (closed_tree bytes r)
    (ap (λ x. and_leaf s x) k ∙ sym (ap (with_text_level (extensions_of ext) line s text) e ∙ ap (with_text_begun (extensions_of ext) line s text) b) ∙ text-line-level ext has_text line text s h)

text-line-begun : (ext : Extensions) (has_text : List Code → Bool) (line text : List Code) (s : Tree) (m : block_starts.Begun) → is_blank_line line ≡ false → heading_level has_text line text ≡ None → begun (extensions_of ext) true true line ≡ Some m
    → with_begun (extensions_of ext) m (and_leaf s (model.paragraph text)) ≡ with_text_line (extensions_of ext) has_text line s text
text-line-begun ext has_text line text s m h e b =
    sym (ap (with_text_level (extensions_of ext) line s text) e ∙ ap (with_text_begun (extensions_of ext) line s text) b) ∙ text-line-level ext has_text line text s h

pub text-begun : (ext : Extensions) (has_text : List Code → Bool) (bytes : List ℕ) (line text : List Code) (r a b : Reader) (m : block_starts.Begun) → is_blank_line line ≡ false → heading_level has_text line text ≡ None → begun (extensions_of ext) true true line ≡ Some m
    → a.path ≡ r.path → closed_tree bytes a ≡ at_depth (depth r) (λ s. and_leaf s (model.paragraph text)) (closed_tree bytes r) → whole_tree bytes b ≡ at_depth (depth a) (with_begun (extensions_of ext) m) (closed_tree bytes a)
    → whole_tree bytes b ≡ at_depth (depth r) (λ s. with_text_line (extensions_of ext) has_text line s text) (closed_tree bytes r)
text-begun ext has_text bytes line text r a b m h l e p t q =
    q ∙ rw (p, t) (at_depth-twice (depth r) (with_begun (extensions_of ext) m) (λ s. and_leaf s (model.paragraph text)) (closed_tree bytes r)
    ∙ at_depth-same (depth r) (λ s. with_begun (extensions_of ext) m (and_leaf s (model.paragraph text))) (λ s. with_text_line (extensions_of ext) has_text line s text) (closed_tree bytes r)
    (text-line-begun ext has_text line text (inside_at (depth r) (closed_tree bytes r)) m h l e))
