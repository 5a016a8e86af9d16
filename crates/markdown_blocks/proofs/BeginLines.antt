-- What a line begins, on the rows.
use Rattle.std.proofs.Common.{◌≡◌, ℕ, zero, suc, ◌≤◌, ◌<◌, refl, ap, ◌∙◌, sym, List, length, true, false, Option, Some, None, arith, drop, length-drop}
use Rattle.std.specs.Prelude.{if◌then◌else◌, MatchOption}
use Rattle.markdown_content.specs.Codes.{Code}
use Rattle.markdown_block_model.specs.LineRests.{is_blank_line, trimmed}
use Rattle.markdown_block_model.specs.BlockTree as model
use Rattle.markdown_block_model.specs.BlockTree.{Tree, nothing, and_leaf, and_container}
use Rattle.markdown_block_model.specs.BlockStarts as block_starts
use Rattle.markdown_block_model.specs.BlockStarts.{with_rest, with_found, with_begun, begun}
use Rattle.markdown_blocks.specs.TreeDepth.{inside_at, at_depth}
use Rattle.markdown_blocks.specs.BlockRows.{leaf_of, closed_tree, whole_tree, depth, IsStanding, HasLeaf, HasContainer, IsFinished, IsEntered, Begins}
use Rattle.markdown_blocks.specs.declared.block.Leaf.{Leaf as Written}
use Rattle.markdown_blocks.specs.declared.reader.Reader.{Reader}
use Rattle.markdown_blocks.proofs.DepthLemmas.{at_depth-same, at_depth-deeper, at_depth-id}
use Rattle.markdown_block_line.specs.LineBlocks.{extensions_of}
use Rattle.markdown_block_line.specs.declared.extensions.Extensions.{Extensions}

rest-blank : (ext : Extensions) (n : ℕ) (cs : List Code) (s : Tree) → begun (extensions_of ext) false false cs ≡ None → is_blank_line cs ≡ true → with_rest (extensions_of ext) (suc n) cs s ≡ s
rest-blank ext n cs s h k = ap (with_found (λ rest. with_rest (extensions_of ext) n rest nothing) cs s) h ∙ ap (λ b. if b then s else and_leaf s (model.paragraph (trimmed cs))) k

rest-leaf : (ext : Extensions) (n : ℕ) (cs : List Code) (s : Tree) (l : model.Leaf) → begun (extensions_of ext) false false cs ≡ Some (block_starts.leaf_begins l) → with_rest (extensions_of ext) (suc n) cs s ≡ and_leaf s l
rest-leaf ext n cs s l h = ap (with_found (λ rest. with_rest (extensions_of ext) n rest nothing) cs s) h

rest-container : (ext : Extensions) (n : ℕ) (cs rest : List Code) (s : Tree) (c : model.Container) → begun (extensions_of ext) false false cs ≡ Some (block_starts.container_begins c rest)
    → with_rest (extensions_of ext) (suc n) cs s ≡ and_container s c (with_rest (extensions_of ext) n rest nothing)
rest-container ext n cs rest s c h = ap (with_found (λ r. with_rest (extensions_of ext) n r nothing) cs s) h

pub finished-leaf : (ext : Extensions) (bytes : List ℕ) (line : List Code) (r a : Reader) (m : block_starts.Begun) → begun (extensions_of ext) false false line ≡ Some m → HasLeaf bytes m r a → IsFinished ext bytes line r a
finished-leaf ext bytes line r a m h l = record {
  tree = λ n. l.tree ∙ at_depth-same (depth r) (λ s. and_leaf s l.leaf) (with_rest (extensions_of ext) (suc n) line) (closed_tree bytes r) (sym (rest-leaf ext n line (inside_at (depth r) (closed_tree bytes r)) l.leaf (h ∙ ap (λ x. Some x) l.is)));
  between = l.between;
}

pub finished-blank : (ext : Extensions) (bytes : List ℕ) (line : List Code) (r : Reader) → IsStanding bytes r → inside_at (depth r) (closed_tree bytes r) ≡ nothing → begun (extensions_of ext) false false line ≡ None → is_blank_line line ≡ true
    → IsFinished ext bytes line r r
finished-blank ext bytes line r f e h k = record {
  tree = λ n. rw f.open_none (sym (at_depth-same (depth r) (with_rest (extensions_of ext) (suc n) line) (λ s. s) (closed_tree bytes r) (rest-blank ext n line (inside_at (depth r) (closed_tree bytes r)) h k) ∙ at_depth-id (depth r) (closed_tree bytes r)));
  between = record { is_front = f.is_front; empty = λ _. e };
}

pub entered : (ext : Extensions) (bytes : List ℕ) (line : List Code) (k : ℕ) (r a : Reader) (m : block_starts.Begun) → begun (extensions_of ext) false false line ≡ Some m → 0 < k → k ≤ length line → HasContainer bytes m (drop k line) r a
    → IsEntered ext bytes line (drop k line) r a
entered ext bytes line k r a m h low high c = record {
  shorter = omega (arith, length-drop k line);
  standing = c.deeper.standing;
  empty = c.deeper.empty;
  tree = λ n. rw (c.deeper.deeper, c.deeper.tree) (at_depth-deeper (depth r) (with_rest (extensions_of ext) n (drop k line)) c.container (closed_tree bytes r)
      ∙ at_depth-same (depth r) (λ s. and_container s c.container (with_rest (extensions_of ext) n (drop k line) nothing)) (with_rest (extensions_of ext) (suc n) line) (closed_tree bytes r)
      (sym (rest-container ext n line (drop k line) (inside_at (depth r) (closed_tree bytes r)) c.container (h ∙ ap (λ x. Some x) c.is))));
}

pub begins-all : (ext : Extensions) (bytes : List ℕ) (line : List Code) (r : Reader) → IsStanding bytes r → (is_blank_line line ≡ true → inside_at (depth r) (closed_tree bytes r) ≡ nothing)
    → Begins ext bytes line r (at_depth (depth r) (with_rest (extensions_of ext) (suc (length line)) line) (closed_tree bytes r))
begins-all ext bytes line r f e = record { steps = suc (length line); enough = omega arith; standing = f; empty = e; tree = refl }

finished-with : (ext : Extensions) (bytes : List ℕ) (line : List Code) (r a : Reader) (t : Tree) (k : ℕ) → length line < k → at_depth (depth r) (with_rest (extensions_of ext) k line) (closed_tree bytes r) ≡ t → IsFinished ext bytes line r a → whole_tree bytes a ≡ t
finished-with ext bytes line r a t zero h e f = absurd (omega arith)
finished-with ext bytes line r a t (suc n) h e f = f.tree n ∙ e

pub begins-finished : (ext : Extensions) (bytes : List ℕ) (line : List Code) (r a : Reader) (t : Tree) → Begins ext bytes line r t → IsFinished ext bytes line r a → whole_tree bytes a ≡ t
begins-finished ext bytes line r a t g f = finished-with ext bytes line r a t g.steps g.enough g.tree f

entered-with : (ext : Extensions) (bytes : List ℕ) (line rest : List Code) (r a : Reader) (t : Tree) (k : ℕ) → length line < k → at_depth (depth r) (with_rest (extensions_of ext) k line) (closed_tree bytes r) ≡ t → IsEntered ext bytes line rest r a
    → Begins ext bytes rest a t
entered-with ext bytes line rest r a t zero h e f = absurd (omega arith)
entered-with ext bytes line rest r a t (suc n) h e f =
    let s : length rest < length line = f.shorter in record { steps = n; enough = omega arith; standing = f.standing; empty = λ _. f.empty; tree = f.tree n ∙ e }

pub begins-entered : (ext : Extensions) (bytes : List ℕ) (line rest : List Code) (r a : Reader) (t : Tree) → Begins ext bytes line r t → IsEntered ext bytes line rest r a → Begins ext bytes rest a t
begins-entered ext bytes line rest r a t g f = entered-with ext bytes line rest r a t g.steps g.enough g.tree f

-- a leaf or a container has begun
pub next-begun : (ext : Extensions) (bytes : List ℕ) (line : List Code) (r a : Reader) (m : block_starts.Begun) (o : Option ℕ) → begun (extensions_of ext) false false line ≡ Some m
    → MatchOption o (HasLeaf bytes m r a) (λ k. (0 < k) × (k ≤ length line) × HasContainer bytes m (drop k line) r a)
    → MatchOption o (IsFinished ext bytes line r a) (λ k. (k ≤ length line) × IsEntered ext bytes line (drop k line) r a)
next-begun ext bytes line r a m None h e = finished-leaf ext bytes line r a m h e
next-begun ext bytes line r a m (Some k) h e = (e.1, entered ext bytes line k r a m h e.0 e.1 e.2)

-- What begins, and what the line begins inside it.

pub all-container : (ext : Extensions) (bytes : List ℕ) (rest : List Code) (r a b : Reader) (m : block_starts.Begun) → HasContainer bytes m rest r a
    → whole_tree bytes b ≡ at_depth (depth a) (with_rest (extensions_of ext) (suc (length rest)) rest) (closed_tree bytes a) → whole_tree bytes b ≡ at_depth (depth r) (with_begun (extensions_of ext) m) (closed_tree bytes r)
all-container ext bytes rest r a b m c e =
    e ∙ rw (c.deeper.deeper, c.deeper.tree) (at_depth-deeper (depth r) (with_rest (extensions_of ext) (suc (length rest)) rest) c.container (closed_tree bytes r)
    ∙ at_depth-same (depth r) (λ s. and_container s c.container (with_rest (extensions_of ext) (suc (length rest)) rest nothing)) (with_begun (extensions_of ext) m) (closed_tree bytes r)
    (ap (λ x. with_begun (extensions_of ext) x (inside_at (depth r) (closed_tree bytes r))) (sym c.is)))

-- a leaf is opened
pub opened-leaf : (bytes : List ℕ) (r a : Reader) (l : Written) (m : model.Leaf) (b : block_starts.Begun) → a ≡ record r { «open» = Some l } → IsStanding bytes r → b ≡ block_starts.leaf_begins m → leaf_of bytes l ≡ m
    → HasLeaf bytes b r a
opened-leaf bytes r a l m b e s i k = record {
  leaf = m;
  is = i;
  tree = rw e (ap (λ x. at_depth (depth r) (λ t. and_leaf t x) (closed_tree bytes r)) k);
  between = rw e (record { is_front = record { front = s.is_front.front }; empty = λ o. absurd (cc) });
}
