-- What begins with the rest of a line, from what each block's start is.
use Rattle.std.proofs.Common.{◌≡◌, ℕ, min, ap, ◌∙◌, sym, List, [], ◌∷◌, drop, Bool, true, false, ◌||◌, Some, None, Option, arith}
use Rattle.std.specs.Prelude.{if◌then◌else◌, nat_lt}
use Rattle.std.proofs.lemmas.Bool.Decides.{nat_tests}
use Rattle.markdown_content.specs.Codes.{Code}
use Rattle.markdown_block_model.specs.LineRests.{indent, trimmed, skip, is_blank_line, only_if}
use Rattle.markdown_block_model.specs.BlockTree.{Container, Leaf, thematic_break, indented_code}
use Rattle.markdown_block_model.specs.LeafStarts.{is_break, heading_at, fence_at}
use Rattle.markdown_block_model.specs.HtmlStarts.{html_at}
use Rattle.markdown_block_model.specs.ContainerStarts.{behind_quote, in_quote, item_at}
use Rattle.markdown_block_model.specs.BlockStarts.{Begun, leaf_begins, leaf_begun, container_begun, first_of, begun_near, begun_far, begun}
use Rattle.markdown_block_line.specs.declared.extensions.Extensions.{Extensions}
use Rattle.markdown_block_line.specs.LineBlocks.{extensions_of}
use Rattle.markdown_block_line.proofs.RestValues.{skip-drop, trimmed-drop}

begun-deep : (x : Extensions) (p a : Bool) (cs : List Code) (k : ℕ) → k ≡ min 4 (indent cs) → k ≡ 4 → begun (extensions_of x) p a cs ≡ begun_far a cs
begun-deep x p a cs k h e =
    let near : nat_lt (indent cs) 4 ≡ false = grind (arith, nat_tests) in
    ap (λ v. if v then begun_near (extensions_of x) p a cs else begun_far a cs) near

pub begun-code : (x : Extensions) (p a : Bool) (cs : List Code) (k : ℕ) → k ≡ min 4 (indent cs) → k ≡ 4 → a ≡ false → is_blank_line cs ≡ false → begun (extensions_of x) p a cs ≡ Some (leaf_begins (indented_code (drop 4 cs ∷ [])))
begun-code x p a cs k h e f b =
    begun-deep x p a cs k h e ∙ ap (λ v. if v || is_blank_line cs then None else Some (leaf_begins (indented_code (skip 4 cs ∷ [])))) f
    ∙ ap (λ v. if v then None else Some (leaf_begins (indented_code (skip 4 cs ∷ [])))) b
    ∙ ap (λ (r : List Code). Some (leaf_begins (indented_code (r ∷ [])))) (skip-drop 4 cs ∙ ap (λ n. drop n cs) (sym h ∙ e))

-- the first of those that may begin, in the order in which they take precedence
abbrev pub first_begun : Option (List Code) → Option Leaf → Option Leaf → Option Leaf → Bool → Option (Container × List Code) → Option Begun
first_begun quoted heading fence html is_break item =
    first_of (container_begun (in_quote quoted) ∷ leaf_begun heading ∷ leaf_begun fence ∷ leaf_begun html ∷ leaf_begun (only_if is_break thematic_break) ∷ None ∷ container_begun item ∷ [])

pub begun-first : (x : Extensions) (p a : Bool) (cs : List Code) (k : ℕ) (quoted : Option (List Code)) (heading fence html : Option Leaf) (breaks : Bool) (item : Option (Container × List Code))
    → k ≡ min 4 (indent cs) → (k ≡ 4 → ⊥) → behind_quote cs ≡ quoted → heading_at (drop k cs) ≡ heading → fence_at (extensions_of x) k (drop k cs) ≡ fence → html_at a cs ≡ html → is_break (drop k cs) ≡ breaks → item_at p k (drop k cs) ≡ item
    → begun (extensions_of x) p a cs ≡ first_begun quoted heading fence html breaks item
begun-first x p a cs k quoted heading fence html breaks item h e q1 q2 q3 q4 q5 q6 =
    let near : nat_lt (indent cs) 4 ≡ true = grind (arith, nat_tests) in
    let i : indent cs ≡ k = omega arith in
    let t : trimmed cs ≡ drop k cs = trimmed-drop cs ∙ ap (λ j. drop j cs) i in
    ap (λ v. if v then begun_near (extensions_of x) p a cs else begun_far a cs) near
    ∙ ap (λ (r : List Code). first_begun (behind_quote cs) (heading_at r) (fence_at (extensions_of x) (indent cs) r) (html_at a cs) (is_break r) (item_at p (indent cs) r)) t
    ∙ ap (λ n. first_begun (behind_quote cs) (heading_at (drop k cs)) (fence_at (extensions_of x) n (drop k cs)) (html_at a cs) (is_break (drop k cs)) (item_at p n (drop k cs))) i
    ∙ ap (λ v. first_begun v (heading_at (drop k cs)) (fence_at (extensions_of x) k (drop k cs)) (html_at a cs) (is_break (drop k cs)) (item_at p k (drop k cs))) q1
    ∙ ap (λ v. first_begun quoted v (fence_at (extensions_of x) k (drop k cs)) (html_at a cs) (is_break (drop k cs)) (item_at p k (drop k cs))) q2
    ∙ ap (λ v. first_begun quoted heading v (html_at a cs) (is_break (drop k cs)) (item_at p k (drop k cs))) q3
    ∙ ap (λ v. first_begun quoted heading fence v (is_break (drop k cs)) (item_at p k (drop k cs))) q4
    ∙ ap (λ v. first_begun quoted heading fence html v (item_at p k (drop k cs))) q5
    ∙ ap (first_begun quoted heading fence html breaks) q6
