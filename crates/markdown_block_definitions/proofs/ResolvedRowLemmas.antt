-- Rows without their definitions.
use Rattle.std.proofs.Common.{◌≡◌, ℕ, zero, suc, ◌≤◌, refl, ap, sym, subst, ◌∙◌, List, [], ◌∷◌, ◌++◌, length, map, arith, append_assoc, append-nil, IsUtf8}
use Rattle.std.specs.Prelude.{All, flat_map}
use Rattle.std.specs.Global.{Vec}
use Rattle.std.proofs.lemmas.Grind.{flat_map-append}
use Rattle.std.proofs.lemmas.List.{map-append}
use Rattle.std.proofs.lemmas.List.Elements.{All-cons, All-nil}
use Rattle.markdown_content.specs.Codes.{Code}
use Rattle.markdown_content.specs.Content.{document_limit}
use Rattle.markdown_content.specs.declared.parser.Piece.{Piece}
use Rattle.markdown_model.specs.CodeTests.{is_whitespace_code}
use Rattle.markdown_block_model.specs.BlockTree as model
use Rattle.markdown_block_model.specs.BlockTree.{Extensions, Tree, nothing, and_leaf, and_container}
use Rattle.markdown_block_model.specs.DocumentBlocks.{blocks_of}
use Rattle.markdown_block_model.specs.LineRests.{trimmed_end}
use Rattle.markdown_block_model.specs.LinkDefinitions.{has_text, text_of_leaf, resolved, definitions_of, definitions_in, definitions_within, definitions, document_tree}
use Rattle.markdown_block_model.proofs.TextsAreContents.{left-ends, end-twice}
use Rattle.markdown_block_line.specs.LineBlocks.{container_of}
use Rattle.markdown_block_line.specs.declared.containers.Container.{Container}
use Rattle.markdown_blocks.specs.BlockRows.{leaf_of, with_row, rows_from, tree_of}
use Rattle.markdown_blocks.specs.NestedRows.{AreNested}
use Rattle.markdown_blocks.specs.TreeDepth.{spine, at_depth}
use Rattle.markdown_blocks.specs.declared.block.Blocks.{Blocks}
use Rattle.markdown_blocks.specs.TextRows.{AreLinePieces, ArePlaced, HasPlacedText}
use Rattle.markdown_blocks.specs.declared.block.Leaf.{Leaf}
use Rattle.markdown_blocks.specs.declared.block.Leaf.TheVariants.{Blank, ThematicBreak, Heading, Underlined, Paragraph, IndentedCode, FencedCode, Html, FrontMatter}
use Rattle.markdown_blocks.specs.declared.block.Row.{Row}
use Rattle.markdown_blocks.specs.declared.block.Row.TheVariants.{LeafAt, ContainerAt}
use Rattle.markdown_blocks.proofs.NestedRowLemmas.{spine-leaf, spine-container}
use Rattle.markdown_blocks.proofs.TextEndLemmas.{text-content}
use Rattle.markdown_block_definitions.specs.DefinitionTexts.{Texts, texts_in}
use Rattle.markdown_block_definitions.specs.ResolvedRows.{IsTextRow, IsLineRow, definitions_of_row, IsResolvedLeaf, IsResolvedRow, AreResolved}

-- Leaves.

-- what is trimmed has nothing left to trim
pub ends-twice : (cs left : List Code) → left ≡ trimmed_end cs → trimmed_end left ≡ left
ends-twice cs left e = ap trimmed_end e ∙ end-twice is_whitespace_code cs ∙ sym e

-- a text that was trimmed before
pub trimmed-left : (cs left cut : List Code) → cut ≡ trimmed_end cs → left ≡ trimmed_end (definitions_of cut).1 → trimmed_end left ≡ (definitions_of (trimmed_end cs)).1
trimmed-left cs left cut e f =
    let ends : trimmed_end (definitions_of (trimmed_end cs)).1 ≡ (definitions_of (trimmed_end cs)).1 = left-ends (trimmed_end cs) (end-twice is_whitespace_code cs) in
    let same : left ≡ (definitions_of (trimmed_end cs)).1 = f ∙ ap (λ x. trimmed_end (definitions_of x).1) e ∙ ends in
    ap trimmed_end same ∙ ends

pub placed-lines : (bytes : List ℕ) (ps : List Piece) → ArePlaced bytes ps → AreLinePieces bytes ps
placed-lines bytes ps h = record { in_order = h.in_order; between_characters = h.between_characters; one_line_each = h.one_line_each }

-- a leaf whose text has no definitions
pub other-leaf : (bytes : List ℕ) (l : Leaf) → length bytes ≤ document_limit → HasPlacedText bytes l → ((n : ℕ) (text : Vec Piece) → l ≡ Underlined n text → ⊥) → ((text : Vec Piece) → l ≡ Paragraph text → ⊥)
    → IsResolvedLeaf bytes l l × (definitions_in (leaf_of bytes l) ≡ [])
other-leaf bytes Blank f p u t = (record { leaf = refl; text = λ b. tt; lines = tt }, refl)
other-leaf bytes ThematicBreak f p u t = (record { leaf = refl; text = λ b. tt; lines = tt }, refl)
other-leaf bytes (Heading n piece) f p u t = (record { leaf = refl; text = λ b. text-content bytes (piece ∷ []) p b f; lines = placed-lines bytes (piece ∷ []) p.placed }, refl)
other-leaf bytes (Underlined n text) f p u t = absurd (u n text refl)
other-leaf bytes (Paragraph text) f p u t = absurd (t text refl)
other-leaf bytes (IndentedCode ls) f p u t = (record { leaf = refl; text = λ b. tt; lines = p }, refl)
other-leaf bytes (FencedCode fence info ls ended) f p u t = (record { leaf = refl; text = λ b. tt; lines = p }, refl)
other-leaf bytes (Html k text ended) f p u t = (record { leaf = refl; text = λ b. tt; lines = p }, refl)
other-leaf bytes (FrontMatter ls) f p u t = (record { leaf = refl; text = λ b. tt; lines = p }, refl)

-- Rows.

pub nothing-left : (rs : List Row) → length rs ≡ 0 → rs ≡ []
nothing-left [] e = refl
nothing-left (r ∷ rs) e = absurd (omega (arith, e))

pub all-middle : (P : Row → Type 0) (rs ss : List Row) (r : Row) → All P (rs ++ r ∷ ss) → P r
all-middle P [] ss r h = h 0 r (omega arith)
all-middle P (q ∷ rs) ss r h = all-middle P rs ss r (λ k d l. h (suc k) d (omega (arith, l)))

pub found-more : (bytes : List ℕ) (before : List Texts) (rs : List Row) (r : Row)
    → (before ++ map texts_in (flat_map (definitions_of_row bytes) rs)) ++ map texts_in (definitions_of_row bytes r) ≡ before ++ map texts_in (flat_map (definitions_of_row bytes) (rs ++ r ∷ []))
found-more bytes before rs r =
    let f = definitions_of_row bytes in
    append_assoc before (map texts_in (flat_map f rs)) (map texts_in (f r))
    ∙ ap (λ ts. before ++ ts) (sym (map-append texts_in (flat_map f rs) (f r)) ∙ ap (map texts_in) (sym (flat_map-append f rs (r ∷ []) ∙ ap (λ ds. flat_map f rs ++ ds) (append-nil (f r)))))

-- one row more
pub resolved-more : (bytes : List ℕ) (rs ss : List Row) (r s : Row) → AreResolved bytes rs ss → IsResolvedRow bytes r s → AreResolved bytes (rs ++ r ∷ []) (ss ++ s ∷ [])
resolved-more bytes [] [] r s h k = (k, tt)
resolved-more bytes (q ∷ rs) (p ∷ ss) r s h k = (h.0, resolved-more bytes rs ss r s h.1 k)
resolved-more bytes [] (p ∷ ss) r s h k = absurd h
resolved-more bytes (q ∷ rs) [] r s h k = absurd h

-- Trees.

resolved-leaf : (n : ℕ) (l : model.Leaf) (t : Tree) → at_depth n (λ s. and_leaf s (text_of_leaf l)) (resolved t) ≡ resolved (at_depth n (λ s. and_leaf s l) t)
resolved-leaf zero l t = refl
resolved-leaf (suc n) l nothing = refl
resolved-leaf (suc n) l (and_leaf b m) = refl
resolved-leaf (suc n) l (and_container b c i) = ap (λ s. and_container (resolved b) c s) (resolved-leaf n l i)

resolved-container : (n : ℕ) (c : model.Container) (t : Tree) → at_depth n (λ s. and_container s c nothing) (resolved t) ≡ resolved (at_depth n (λ s. and_container s c nothing) t)
resolved-container zero c t = refl
resolved-container (suc n) c nothing = refl
resolved-container (suc n) c (and_leaf b m) = refl
resolved-container (suc n) c (and_container b d i) = ap (λ s. and_container (resolved b) d s) (resolved-container n c i)

module _ (bytes : List ℕ) where
  resolved-row : (r s : Row) (t : Tree) → IsResolvedRow bytes r s → with_row bytes s (resolved t) ≡ resolved (with_row bytes r t)
  resolved-row (LeafAt d l) (LeafAt e m) t h =
      ap (λ n. at_depth n (λ s. and_leaf s (leaf_of bytes m)) (resolved t)) h.0 ∙ ap (λ (x : model.Leaf). at_depth d (λ s. and_leaf s x) (resolved t)) h.1.leaf ∙ resolved-leaf d (leaf_of bytes l) t
  resolved-row (ContainerAt d c) (ContainerAt e b) t h =
      ap (λ n. at_depth n (λ s. and_container s (container_of b) nothing) (resolved t)) h.0 ∙ ap (λ (x : Container). at_depth d (λ s. and_container s (container_of x) nothing) (resolved t)) h.1
      ∙ resolved-container d (container_of c) t
  resolved-row (LeafAt d l) (ContainerAt e b) t h = absurd h
  resolved-row (ContainerAt d c) (LeafAt e m) t h = absurd h

  resolved-rows : (rs ss : List Row) (t : Tree) → AreResolved bytes rs ss → rows_from bytes (resolved t) ss ≡ resolved (rows_from bytes t rs)
  resolved-rows [] [] t h = refl
  resolved-rows (r ∷ rs) (s ∷ ss) t h = ap (λ x. rows_from bytes x ss) (resolved-row r s t h.0) ∙ resolved-rows rs ss (with_row bytes r t) h.1
  resolved-rows [] (s ∷ ss) t h = absurd h
  resolved-rows (r ∷ rs) [] t h = absurd h

  -- as deep as before
  nested-rows : (n : ℕ) (rs ss : List Row) → AreResolved bytes rs ss → AreNested n rs → AreNested n ss
  nested-rows n [] [] h k = tt
  nested-rows n (LeafAt d l ∷ rs) (LeafAt e m ∷ ss) h k =
      (subst (λ x. x ≤ n) (sym h.0.0) k.0, subst (λ x. AreNested x ss) (sym h.0.0) (nested-rows d rs ss h.1 k.1))
  nested-rows n (ContainerAt d c ∷ rs) (ContainerAt e b ∷ ss) h k =
      (subst (λ x. x ≤ n) (sym h.0.0) k.0, subst (λ x. AreNested (suc x) ss) (sym h.0.0) (nested-rows (suc d) rs ss h.1 k.1))
  nested-rows n (LeafAt d l ∷ rs) (ContainerAt e b ∷ ss) h k = absurd h.0
  nested-rows n (ContainerAt d c ∷ rs) (LeafAt e m ∷ ss) h k = absurd h.0
  nested-rows n [] (s ∷ ss) h k = absurd h
  nested-rows n (r ∷ rs) [] h k = absurd h

  row-text : IsUtf8 bytes → (r s : Row) → IsResolvedRow bytes r s → IsTextRow bytes s
  row-text u (LeafAt d l) (LeafAt e m) h = h.1.text u
  row-text u r (ContainerAt e b) h = tt
  row-text u (ContainerAt d c) (LeafAt e m) h = absurd h

  text-rows : IsUtf8 bytes → (rs ss : List Row) → AreResolved bytes rs ss → All (IsTextRow bytes) ss
  text-rows u [] [] h = All-nil (IsTextRow bytes)
  text-rows u (r ∷ rs) (s ∷ ss) h = All-cons (IsTextRow bytes) s ss (row-text u r s h.0) (text-rows u rs ss h.1)
  text-rows u [] (s ∷ ss) h = absurd h
  text-rows u (r ∷ rs) [] h = absurd h

  row-lines : (r s : Row) → IsResolvedRow bytes r s → IsLineRow bytes s
  row-lines (LeafAt d l) (LeafAt e m) h = h.1.lines
  row-lines r (ContainerAt e b) h = tt
  row-lines (ContainerAt d c) (LeafAt e m) h = absurd h

  pub line-rows : (rs ss : List Row) → AreResolved bytes rs ss → All (IsLineRow bytes) ss
  line-rows [] [] h = All-nil (IsLineRow bytes)
  line-rows (r ∷ rs) (s ∷ ss) h = All-cons (IsLineRow bytes) s ss (row-lines r s h.0) (line-rows rs ss h.1)
  line-rows [] (s ∷ ss) h = absurd h
  line-rows (r ∷ rs) [] h = absurd h

-- Definitions.

within-leaf : (n : ℕ) (l : model.Leaf) (t : Tree) → n ≤ length (spine t) → definitions_within (at_depth n (λ s. and_leaf s l) t) ≡ definitions_within t ++ definitions_in l
within-leaf zero l t h = refl
within-leaf (suc n) l nothing h = absurd (omega arith)
within-leaf (suc n) l (and_leaf b m) h = absurd (omega arith)
within-leaf (suc n) l (and_container b c i) h = ap (λ ds. definitions_within b ++ ds) (within-leaf n l i (omega arith)) ∙ sym (append_assoc (definitions_within b) (definitions_within i) (definitions_in l))

within-container : (n : ℕ) (c : model.Container) (t : Tree) → n ≤ length (spine t) → definitions_within (at_depth n (λ s. and_container s c nothing) t) ≡ definitions_within t
within-container zero c t h = append-nil (definitions_within t)
within-container (suc n) c nothing h = absurd (omega arith)
within-container (suc n) c (and_leaf b m) h = absurd (omega arith)
within-container (suc n) c (and_container b d i) h = ap (λ ds. definitions_within b ++ ds) (within-container n c i (omega arith))

within-rows : (bytes : List ℕ) (rs : List Row) (t : Tree) → AreNested (length (spine t)) rs → definitions_within (rows_from bytes t rs) ≡ definitions_within t ++ flat_map (definitions_of_row bytes) rs
within-rows bytes [] t h = sym (append-nil (definitions_within t))
within-rows bytes (LeafAt d l ∷ rs) t h =
    let e : length (spine (with_row bytes (LeafAt d l) t)) ≡ d = spine-leaf d (leaf_of bytes l) t h.0 in
    within-rows bytes rs (with_row bytes (LeafAt d l) t) (subst (λ n. AreNested n rs) (sym e) h.1) ∙ ap (λ ds. ds ++ flat_map (definitions_of_row bytes) rs) (within-leaf d (leaf_of bytes l) t h.0)
    ∙ append_assoc (definitions_within t) (definitions_in (leaf_of bytes l)) (flat_map (definitions_of_row bytes) rs)
within-rows bytes (ContainerAt d c ∷ rs) t h =
    let e : length (spine (with_row bytes (ContainerAt d c) t)) ≡ suc d = spine-container d (container_of c) t h.0 in
    within-rows bytes rs (with_row bytes (ContainerAt d c) t) (subst (λ n. AreNested n rs) (sym e) h.1) ∙ ap (λ ds. ds ++ flat_map (definitions_of_row bytes) rs) (within-container d (container_of c) t h.0)

-- The document.

module _ (x : Extensions) (bytes : List ℕ) (found : Blocks) (is : tree_of bytes found ≡ blocks_of x has_text bytes) (nested : AreNested 0 found.rows.items) where
  pub document-definitions : flat_map (definitions_of_row bytes) found.rows.items ≡ definitions x bytes
  document-definitions = sym (within-rows bytes found.rows.items nothing nested) ∙ ap definitions_within is

  module _ (ss : List Row) (h : AreResolved bytes found.rows.items ss) where
    pub document-tree : rows_from bytes nothing ss ≡ document_tree x bytes
    document-tree = resolved-rows bytes found.rows.items ss nothing h ∙ ap resolved is

    pub document-nested : AreNested 0 ss
    document-nested = nested-rows bytes 0 found.rows.items ss h nested

    pub document-texts : IsUtf8 bytes → All (IsTextRow bytes) ss
    document-texts u = text-rows bytes u found.rows.items ss h

-- each row stays one
pub resolved-length : (bytes : List ℕ) (rs ss : List Row) → AreResolved bytes rs ss → length rs ≡ length ss
resolved-length bytes [] [] h = refl
resolved-length bytes (r ∷ rs) (s ∷ ss) h = ap suc (resolved-length bytes rs ss h.1)
resolved-length bytes [] (s ∷ ss) h = absurd h
resolved-length bytes (r ∷ rs) [] h = absurd h
