-- Items, and what stands inside a container, from the parts of a line.
use Rattle.std.proofs.Common.{◌≡◌, ℕ, ◌+◌, ◌<◌, ◌≤◌, min, ap, ◌∙◌, sym, List, drop, Bool, true, false, Some, None, arith, drop-drop}
use Rattle.std.specs.Prelude.{nat_le}
use Rattle.std.proofs.lemmas.Bool.Decides.{nat_tests}
use Rattle.markdown_content.specs.Codes.{Code}
use Rattle.markdown_block_model.specs.LineRests.{indent, trimmed, skip, is_blank_line, only_if}
use Rattle.markdown_block_model.specs.BlockTree.{Marker, item}
use Rattle.markdown_block_model.specs.ContainerStarts.{marker_at, padding, may_begin, item_by, item_at}
use Rattle.markdown_block_model.specs.DocumentBlocks.{rest_in_item}
use Rattle.markdown_block_line.proofs.RestValues.{skip-drop, trimmed-drop}

-- Items.

pub item-not : (p : Bool) (columns k : ℕ) (m : Marker) (cs : List Code) → marker_at cs ≡ Some (m, k) → may_begin p m (drop k cs) ≡ false → item_at p columns cs ≡ None
item-not p columns k m cs e b =
    ap (item_by p columns cs) e ∙ ap (λ v. only_if v (item m (columns + k + padding (drop k cs)), skip (padding (drop k cs)) (drop k cs))) b

pub item-here : (p : Bool) (columns k i j : ℕ) (m : Marker) (cs : List Code) → marker_at cs ≡ Some (m, k) → may_begin p m (drop k cs) ≡ true → i ≡ padding (drop k cs) → j ≡ min i (indent (drop k cs))
    → item_at p columns cs ≡ Some (item m (columns + k + i), drop (k + j) cs)
item-here p columns k i j m cs e b h l =
    ap (item_by p columns cs) e ∙ ap (λ v. only_if v (item m (columns + k + padding (drop k cs)), skip (padding (drop k cs)) (drop k cs))) b
    ∙ ap (λ n. Some (item m (columns + k + n), skip n (drop k cs))) (sym h)
    ∙ ap (λ (r : List Code). Some (item m (columns + k + i), r)) (skip-drop i (drop k cs) ∙ ap (λ n. drop n (drop k cs)) (sym l) ∙ drop-drop j k cs)

-- Inside an item.

pub inside-deep : (columns k : ℕ) (cs : List Code) → k ≡ min columns (indent cs) → columns ≤ k → rest_in_item (nat_le columns (indent cs)) columns cs ≡ Some (drop k cs)
inside-deep columns k cs h e =
    let x : nat_le columns (indent cs) ≡ true = grind (arith, nat_tests) in
    ap (λ v. rest_in_item v columns cs) x ∙ ap (λ (r : List Code). Some r) (skip-drop columns cs ∙ ap (λ n. drop n cs) (sym h))

pub inside-by : (columns k : ℕ) (cs : List Code) (b : Bool) → k ≡ min columns (indent cs) → k < columns → is_blank_line cs ≡ b
    → rest_in_item (nat_le columns (indent cs)) columns cs ≡ only_if b (drop k cs)
inside-by columns k cs b h e f =
    let x : nat_le columns (indent cs) ≡ false = grind (arith, nat_tests) in
    let i : indent cs ≡ k = omega arith in
    let t : trimmed cs ≡ drop k cs = trimmed-drop cs ∙ ap (λ j. drop j cs) i in
    ap (λ v. rest_in_item v columns cs) x ∙ ap (λ v. only_if v (trimmed cs)) f ∙ ap (λ (r : List Code). only_if b r) t
