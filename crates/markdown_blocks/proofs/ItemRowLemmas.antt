-- A bare line continues a row of items at once.
use Rattle.std.proofs.Common.{◌≡◌, ℕ, zero, suc, ◌+◌, ◌-◌, ◌≤◌, ◌<◌, min, refl, ap, ◌∙◌, List, [], ◌∷◌, length, take, map, get_or, Bool, true, false, ◌&&◌, Some, None, arith}
use Rattle.std.specs.Prelude.{nat_le, if◌then◌else◌}
use Rattle.markdown_content.specs.Codes.{Code, is_blank}
use Rattle.markdown_model.specs.CodeTests.{values_of, is_whitespace_code}
use Rattle.markdown_block_model.specs.LineRests.{indent, trimmed, is_blank_line, skip, only_if}
use Rattle.markdown_block_model.specs.BlockTree.{Container, quote, item, footnote, Tree}
use Rattle.markdown_block_model.specs.DocumentBlocks.{read_line, rest_inside, rest_in_item, is_nothing}
use Rattle.markdown_block_line.specs.LineBlocks.{extensions_of, container_of}
use Rattle.markdown_block_line.specs.declared.containers.Container.{Container as Written}
use Rattle.markdown_block_line.specs.declared.containers.Container.TheVariants.{Quote, Item}
use Rattle.markdown_block_line.proofs.RestValues.{by_bool, skip-drop, span-stop, trimmed-drop}
use Rattle.markdown_blocks.specs.TreeDepth.{spine, inside_at, at_depth}
use Rattle.markdown_blocks.specs.BlockRows.{container_in, IsBetween, depth, whole_tree}
use Rattle.markdown_blocks.specs.ItemRows.{is_list_item, IsBare}
use Rattle.markdown_blocks.specs.PathItems.{EndsWithItems, is_item_at}
use Rattle.markdown_blocks.specs.declared.reader.Reader.{Reader}
use Rattle.markdown_blocks.proofs.ContainerWalks.{walk-step}
use Rattle.markdown_blocks.proofs.ReaderTrees.{whole-front, nothing-outside}
use Rattle.markdown_block_line.specs.declared.extensions.Extensions.{Extensions}

-- it continues an item that holds something, and is left as it is
item-kept : (c : Container) (inside : Tree) (cs : List Code) → is_list_item c ≡ true → is_nothing inside ≡ false → IsBare cs → rest_inside c inside cs ≡ Some cs
item-kept quote inside cs i n b = absurd (cc)
item-kept (footnote label) inside cs i n b = absurd (cc)
item-kept (item m columns) inside cs i n b =
    ap (λ v. if (v && is_blank_line cs) then None else rest_in_item (nat_le columns (indent cs)) columns cs) n
    ∙ by_bool (nat_le columns (indent cs))
    (λ (e : nat_le columns (indent cs) ≡ true). ap (λ v. rest_in_item v columns cs) e ∙ ap (λ r. Some r) (b.skip_is columns))
    (λ (e : nat_le columns (indent cs) ≡ false).
    ap (λ v. rest_in_item v columns cs) e ∙ ap (λ v. only_if v (trimmed cs)) b.blank ∙ ap (λ r. Some r) b.trimmed_is)

pub items-row : (ext : Extensions) (has_text : List Code → Bool) (m n : ℕ) (t : Tree) (ps : List Written) (cs : List Code) → take (length ps) (spine t) ≡ map container_of ps → n + m ≤ length ps
    → ((k : ℕ) → k < m → is_list_item (container_in (n + k) ps) ≡ true) → ((k : ℕ) → k < m → is_nothing (inside_at (suc (n + k)) t) ≡ false)
    → IsBare cs → at_depth n (read_line (extensions_of ext) has_text cs) t ≡ at_depth (n + m) (read_line (extensions_of ext) has_text cs) t
items-row ext has_text zero n t ps cs h l i f b = let x : n + 0 ≡ n = omega arith in rw x refl
items-row ext has_text (suc m) n t ps cs h l i f b =
    let a : n + m < length ps = omega arith in
    let y : n + suc m ≡ suc (n + m) = omega arith in
    let k : m < suc m = omega arith in
    items-row ext has_text m n t ps cs h (omega arith) (λ j q. i j (omega (arith, q))) (λ j q. f j (omega (arith, q))) b
    ∙ rw y (walk-step ext has_text (n + m) t ps cs cs h a (item-kept (container_in (n + m) ps) (inside_at (suc (n + m)) t) cs (i m k) (f m k) b))

skip-nil : (j : ℕ) → skip j [] ≡ []
skip-nil zero = refl
skip-nil (suc j) = skip-nil j

bare-nil : IsBare []
bare-nil = record { blank = refl; trimmed_is = refl; skip_is = skip-nil }

bare-code : (c : Code) → c.value ≡ 10 → IsBare (c ∷ [])
bare-code c h =
    let w : is_whitespace_code c ≡ true = rw h refl in
    let b : is_blank c ≡ false = rw h refl in
    let z : indent (c ∷ []) ≡ 0 = ap (λ (s : List Code × List Code). length s.0) (span-stop is_blank c [] b) in
    record {
      blank = ap (λ v. v && true) w;
      trimmed_is = trimmed-drop (c ∷ []) ∙ rw z refl;
      skip_is = λ j. let m : min j (indent (c ∷ [])) ≡ 0 = omega (arith, z) in skip-drop j (c ∷ []) ∙ rw m refl;
    }

pub bare-none : (cs : List Code) (ns : List ℕ) → length ns ≡ 0 → values_of cs ≡ ns → IsBare cs
bare-none [] ns h e = bare-nil
bare-none (c ∷ cs) ns h e = absurd (omega (arith, ap length e))

pub bare-one : (cs : List Code) (ns : List ℕ) (d : ℕ) → length ns ≡ 1 → get_or ns 0 d ≡ 10 → values_of cs ≡ ns → IsBare cs
bare-one [] ns d h e v = absurd (omega (arith, ap length v))
bare-one (c ∷ []) [] d h e v = absurd (omega arith)
bare-one (c ∷ []) (n ∷ ns) d h e v = bare-code c (let x : c.value ≡ n = cc in x ∙ e)
bare-one (c ∷ k ∷ cs) ns d h e v = absurd (omega (arith, ap length v))

item-in : (ps : List Written) (k : ℕ) → k < length ps → is_item_at k ps ≡ true → is_list_item (container_in k ps) ≡ true
item-in [] k h e = absurd (omega arith)
item-in (Quote ∷ ps) zero h e = absurd (cc)
item-in (Item m columns ∷ ps) zero h e = refl
item-in (p ∷ ps) (suc k) h e = item-in ps k (omega arith) e

-- a bare line continues the last row but its last item at once
pub leap : (ext : Extensions) (has_text : List Code → Bool) (bytes : List ℕ) (r : Reader) (cs : List Code) (n row : ℕ) → IsBetween bytes r → IsBare cs → EndsWithItems row r.path → n < depth r → depth r ≤ n + row
    → at_depth n (read_line (extensions_of ext) has_text cs) (whole_tree bytes r) ≡ at_depth (depth r - 1) (read_line (extensions_of ext) has_text cs) (whole_tree bytes r)
leap ext has_text bytes r cs n row h q e l m =
    let x : n + (depth r - 1 - n) ≡ depth r - 1 = omega arith in
    rw (← x) (items-row ext has_text (depth r - 1 - n) n (whole_tree bytes r) r.path cs (whole-front bytes r h) (omega arith)
    (λ k i. item-in r.path (n + k) (omega (arith, i)) (e.items (n + k) (omega (arith, m)) (omega (arith, i))))
    (λ k i. nothing-outside bytes r (n + k) h (omega (arith, i))) q)
