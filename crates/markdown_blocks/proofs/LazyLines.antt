-- A line that goes on lazily.
use Rattle.std.proofs.Common.{◌≡◌, ℕ, ◌≤◌, refl, ap, ◌∙◌, sym, List, length, Bool, true, false, not, ◌&&◌, ◌||◌, Some, None}
use Rattle.std.specs.Prelude.{is_some}
use Rattle.markdown_content.specs.Codes.{Code}
use Rattle.markdown_block_model.specs.LineRests.{is_blank_line}
use Rattle.markdown_block_model.specs.BlockTree.{Tree, and_leaf, Leaf, blank, thematic_break, heading, underlined, paragraph, indented_code, fenced_code, html, table, front_matter}
use Rattle.markdown_block_model.specs.BlockStarts.{begun}
use Rattle.markdown_block_model.specs.DocumentBlocks.{is_lazy, ends_in_text, with_lazy_line}
use Rattle.markdown_blocks.specs.TreeDepth.{spine, inside_at, at_depth}
use Rattle.markdown_blocks.specs.BlockRows.{leaf_of, closed_tree, whole_tree, depth, IsBetween, is_text, lazy_leaf}
use Rattle.markdown_blocks.specs.declared.reader.Reader.{Reader}
use Rattle.markdown_blocks.specs.declared.block.Leaf.{Leaf as Written}
use Rattle.markdown_blocks.proofs.DepthLemmas.{at_depth-same, at_depth-twice, at_depth-id, inside-at_depth}
use Rattle.markdown_blocks.proofs.ReaderTrees.{closed-le, whole-le}
use Rattle.markdown_blocks.proofs.ContainerWalks.{lazy-deep, ends-deep}
use Rattle.markdown_block_line.specs.LineBlocks.{extensions_of}
use Rattle.markdown_block_line.specs.declared.extensions.Extensions.{Extensions}

ends-leaf : (s : Tree) (l : Leaf) → ends_in_text (and_leaf s l) ≡ is_text l
ends-leaf s blank = refl
ends-leaf s thematic_break = refl
ends-leaf s (heading n t) = refl
ends-leaf s (underlined n t) = refl
ends-leaf s (paragraph t) = refl
ends-leaf s (indented_code ls) = refl
ends-leaf s (fenced_code f i ls e) = refl
ends-leaf s (html k t e) = refl
ends-leaf s (table columns rows) = refl
ends-leaf s (front_matter ls) = refl

lazy-leaf : (cs : List Code) (s : Tree) (l : Leaf) → with_lazy_line cs (and_leaf s l) ≡ and_leaf s (lazy_leaf cs l)
lazy-leaf cs s blank = refl
lazy-leaf cs s thematic_break = refl
lazy-leaf cs s (heading n t) = refl
lazy-leaf cs s (underlined n t) = refl
lazy-leaf cs s (paragraph t) = refl
lazy-leaf cs s (indented_code ls) = refl
lazy-leaf cs s (fenced_code f i ls e) = refl
lazy-leaf cs s (html k t e) = refl
lazy-leaf cs s (table columns rows) = refl
lazy-leaf cs s (front_matter ls) = refl

ends-none : (bytes : List ℕ) (r : Reader) → IsBetween bytes r → r.open ≡ None → ends_in_text (whole_tree bytes r) ≡ false
ends-none bytes r h o = rw o (ends-deep (depth r) (closed_tree bytes r) (closed-le bytes r h.is_front) ∙ ap ends_in_text (h.empty o))

ends-some : (bytes : List ℕ) (r : Reader) (l : Written) → IsBetween bytes r → r.open ≡ Some l → ends_in_text (whole_tree bytes r) ≡ is_text (leaf_of bytes l)
ends-some bytes r l h o =
    ends-deep (depth r) (whole_tree bytes r) (whole-le bytes r h)
    ∙ rw o (ap ends_in_text (inside-at_depth (depth r) (λ s. and_leaf s (leaf_of bytes l)) (closed_tree bytes r) (closed-le bytes r h.is_front)) ∙ ends-leaf (inside_at (depth r) (closed_tree bytes r)) (leaf_of bytes l))

lazy-by : (ext : Extensions) (bytes : List ℕ) (r : Reader) (cs : List Code) (b : Bool) → ends_in_text (whole_tree bytes r) ≡ b → is_lazy (extensions_of ext) cs (whole_tree bytes r) ≡ (b && not (is_blank_line cs || is_some (begun (extensions_of ext) false true cs)))
lazy-by ext bytes r cs b h = ap (λ v. v && not (is_blank_line cs || is_some (begun (extensions_of ext) false true cs))) h

pub lazy-where-text : (ext : Extensions) (bytes : List ℕ) (r : Reader) (l : Written) (cs : List Code) → IsBetween bytes r → r.open ≡ Some l → is_text (leaf_of bytes l) ≡ true
    → not (is_blank_line cs || is_some (begun (extensions_of ext) false true cs)) ≡ is_lazy (extensions_of ext) cs (whole_tree bytes r)
lazy-where-text ext bytes r l cs h o t = sym (lazy-by ext bytes r cs true (ends-some bytes r l h o ∙ t))

pub not-lazy-where-other : (ext : Extensions) (bytes : List ℕ) (r : Reader) (l : Written) (cs : List Code) → IsBetween bytes r → r.open ≡ Some l → is_text (leaf_of bytes l) ≡ false → false ≡ is_lazy (extensions_of ext) cs (whole_tree bytes r)
not-lazy-where-other ext bytes r l cs h o t = sym (lazy-by ext bytes r cs false (ends-some bytes r l h o ∙ t))

pub not-lazy-where-none : (ext : Extensions) (bytes : List ℕ) (r : Reader) (cs : List Code) → IsBetween bytes r → r.open ≡ None → false ≡ is_lazy (extensions_of ext) cs (whole_tree bytes r)
not-lazy-where-none ext bytes r cs h o = sym (lazy-by ext bytes r cs false (ends-none bytes r h o))

pub joined-none : (bytes : List ℕ) (r : Reader) (cs : List Code) → IsBetween bytes r → r.open ≡ None → closed_tree bytes r ≡ with_lazy_line cs (whole_tree bytes r)
joined-none bytes r cs h o =
    let e : with_lazy_line cs (inside_at (depth r) (closed_tree bytes r)) ≡ inside_at (depth r) (closed_tree bytes r) = rw (h.empty o) refl in
    rw o (sym (lazy-deep (depth r) (closed_tree bytes r) cs (closed-le bytes r h.is_front) ∙ at_depth-same (depth r) (with_lazy_line cs) (λ s. s) (closed_tree bytes r) e ∙ at_depth-id (depth r) (closed_tree bytes r)))

pub joined-some : (bytes : List ℕ) (r : Reader) (l m : Written) (cs : List Code) → IsBetween bytes r → r.open ≡ Some l → leaf_of bytes m ≡ lazy_leaf cs (leaf_of bytes l)
    → whole_tree bytes (record r { «open» = Some m }) ≡ with_lazy_line cs (whole_tree bytes r)
joined-some bytes r l m cs h o e =
    let le : depth r ≤ length (spine (at_depth (depth r) (λ s. and_leaf s (leaf_of bytes l)) (closed_tree bytes r))) = rw o at (whole-le bytes r h) in
    rw o (sym (lazy-deep (depth r) (at_depth (depth r) (λ s. and_leaf s (leaf_of bytes l)) (closed_tree bytes r)) cs le
    ∙ at_depth-twice (depth r) (with_lazy_line cs) (λ s. and_leaf s (leaf_of bytes l)) (closed_tree bytes r)
    ∙ at_depth-same (depth r) (λ s. with_lazy_line cs (and_leaf s (leaf_of bytes l))) (λ s. and_leaf s (leaf_of bytes m)) (closed_tree bytes r)
    (lazy-leaf cs (inside_at (depth r) (closed_tree bytes r)) (leaf_of bytes l) ∙ ap (λ x. and_leaf (inside_at (depth r) (closed_tree bytes r)) x) (sym e))))

-- such a line is not blank
pub lazy-filled : (ext : Extensions) (cs : List Code) (t : Tree) → is_lazy (extensions_of ext) cs t ≡ true → is_blank_line cs ≡ false
lazy-filled ext cs t h = by_tests (ends_in_text t) (is_blank_line cs) (is_some (begun (extensions_of ext) false true cs)) h
  where
    by_tests : (a b d : Bool) → (a && not (b || d)) ≡ true → b ≡ false
    by_tests true true d h = sym h
    by_tests true false d h = refl
    by_tests false b d h = absurd (cc)

-- and goes on with a paragraph
pub lazy-text : (ext : Extensions) (bytes : List ℕ) (r : Reader) (l : Written) (cs : List Code) → IsBetween bytes r → r.open ≡ Some l → is_lazy (extensions_of ext) cs (whole_tree bytes r) ≡ true → is_text (leaf_of bytes l) ≡ true
lazy-text ext bytes r l cs h o e = sym (ends-some bytes r l h o) ∙ by_tests (ends_in_text (whole_tree bytes r)) (not (is_blank_line cs || is_some (begun (extensions_of ext) false true cs))) e
  where
    by_tests : (a b : Bool) → (a && b) ≡ true → a ≡ true
    by_tests true b k = refl
    by_tests false b k = k
