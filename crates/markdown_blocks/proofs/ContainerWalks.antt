-- A line walks down the newest containers.
use Rattle.std.proofs.Common.{◌≡◌, ℕ, zero, suc, ◌≤◌, ◌<◌, refl, ap, ◌∙◌, List, [], ◌∷◌, length, take, map, Bool, true, false, Some, None, arith}
use Rattle.std.specs.Prelude.{if◌then◌else◌}
use Rattle.markdown_content.specs.Codes.{Code}
use Rattle.markdown_block_model.specs.BlockTree.{Tree, nothing, and_leaf, and_container}
use Rattle.markdown_block_model.specs.BlockStarts.{with_line}
use Rattle.markdown_block_model.specs.DocumentBlocks.{read_line, with_rest_inside, rest_inside, is_lazy, with_lazy_line, ends_in_text, is_nothing}
use Rattle.markdown_block_line.specs.LineBlocks.{extensions_of, container_of}
use Rattle.markdown_block_line.specs.declared.containers.Container.{Container as Written}
use Rattle.markdown_blocks.specs.TreeDepth.{spine, inside_at, at_depth}
use Rattle.markdown_blocks.specs.BlockRows.{container_in}
use Rattle.markdown_block_line.specs.declared.extensions.Extensions.{Extensions}

-- the line continues the container that stands so deep
pub walk-step : (ext : Extensions) (has_text : List Code → Bool) (n : ℕ) (t : Tree) (ps : List Written) (cs r : List Code) → take (length ps) (spine t) ≡ map container_of ps → n < length ps
    → rest_inside (container_in n ps) (inside_at (suc n) t) cs ≡ Some r → at_depth n (read_line (extensions_of ext) has_text cs) t ≡ at_depth (suc n) (read_line (extensions_of ext) has_text r) t
walk-step ext has_text n t [] cs r h k e = absurd (omega arith)
walk-step ext has_text n nothing (p ∷ ps) cs r h k e = absurd (omega (arith, ap length h))
walk-step ext has_text n (and_leaf b l) (p ∷ ps) cs r h k e = absurd (omega (arith, ap length h))
walk-step ext has_text zero (and_container b c i) (p ∷ ps) cs r h k e =
    let q : c ≡ container_of p = cc in
    let x : rest_inside c i cs ≡ Some r = rw q e in
    ap (with_rest_inside (extensions_of ext) (λ rest. read_line (extensions_of ext) has_text rest i) cs b c i) x
walk-step ext has_text (suc n) (and_container b c i) (p ∷ ps) cs r h k e =
    ap (λ s. and_container b c s) (walk-step ext has_text n i ps cs r (cc) (omega arith) e)

-- the line does not continue it
pub walk-lazy : (ext : Extensions) (has_text : List Code → Bool) (n : ℕ) (t : Tree) (ps : List Written) (cs : List Code) → take (length ps) (spine t) ≡ map container_of ps → n < length ps
    → rest_inside (container_in n ps) (inside_at (suc n) t) cs ≡ None → is_lazy (extensions_of ext) cs t ≡ true → at_depth n (read_line (extensions_of ext) has_text cs) t ≡ with_lazy_line cs t
walk-lazy ext has_text n t [] cs h k e z = absurd (omega arith)
walk-lazy ext has_text n nothing (p ∷ ps) cs h k e z = absurd (omega (arith, ap length h))
walk-lazy ext has_text n (and_leaf b l) (p ∷ ps) cs h k e z = absurd (omega (arith, ap length h))
walk-lazy ext has_text zero (and_container b c i) (p ∷ ps) cs h k e z =
    let q : c ≡ container_of p = cc in
    let x : rest_inside c i cs ≡ None = rw q e in
    ap (with_rest_inside (extensions_of ext) (λ rest. read_line (extensions_of ext) has_text rest i) cs b c i) x ∙ ap (λ v. if v then and_container b c (with_lazy_line cs i) else with_line (extensions_of ext) cs (and_container b c i)) z
walk-lazy ext has_text (suc n) (and_container b c i) (p ∷ ps) cs h k e z =
    ap (λ s. and_container b c s) (walk-lazy ext has_text n i ps cs (cc) (omega arith) e z)

pub walk-stand : (ext : Extensions) (has_text : List Code → Bool) (n : ℕ) (t : Tree) (ps : List Written) (cs : List Code) → take (length ps) (spine t) ≡ map container_of ps → n < length ps
    → rest_inside (container_in n ps) (inside_at (suc n) t) cs ≡ None → is_lazy (extensions_of ext) cs t ≡ false → at_depth n (read_line (extensions_of ext) has_text cs) t ≡ at_depth n (with_line (extensions_of ext) cs) t
walk-stand ext has_text n t [] cs h k e z = absurd (omega arith)
walk-stand ext has_text n nothing (p ∷ ps) cs h k e z = absurd (omega (arith, ap length h))
walk-stand ext has_text n (and_leaf b l) (p ∷ ps) cs h k e z = absurd (omega (arith, ap length h))
walk-stand ext has_text zero (and_container b c i) (p ∷ ps) cs h k e z =
    let q : c ≡ container_of p = cc in
    let x : rest_inside c i cs ≡ None = rw q e in
    ap (with_rest_inside (extensions_of ext) (λ rest. read_line (extensions_of ext) has_text rest i) cs b c i) x ∙ ap (λ v. if v then and_container b c (with_lazy_line cs i) else with_line (extensions_of ext) cs (and_container b c i)) z
walk-stand ext has_text (suc n) (and_container b c i) (p ∷ ps) cs h k e z =
    ap (λ s. and_container b c s) (walk-stand ext has_text n i ps cs (cc) (omega arith) e z)

-- a line that goes on lazily, at any depth
pub lazy-deep : (n : ℕ) (t : Tree) (cs : List Code) → n ≤ length (spine t) → with_lazy_line cs t ≡ at_depth n (with_lazy_line cs) t
lazy-deep zero t cs h = refl
lazy-deep (suc n) nothing cs h = refl
lazy-deep (suc n) (and_leaf b l) cs h = absurd (omega arith)
lazy-deep (suc n) (and_container b c i) cs h = ap (λ s. and_container b c s) (lazy-deep n i cs (omega arith))

pub ends-deep : (n : ℕ) (t : Tree) → n ≤ length (spine t) → ends_in_text t ≡ ends_in_text (inside_at n t)
ends-deep zero t h = refl
ends-deep (suc n) nothing h = refl
ends-deep (suc n) (and_leaf b l) h = absurd (omega arith)
ends-deep (suc n) (and_container b c i) h = ends-deep n i (omega arith)

-- what holds another container holds something
pub filled-outside : (n : ℕ) (t : Tree) → n < length (spine t) → is_nothing (inside_at n t) ≡ false
filled-outside n nothing h = absurd (omega arith)
filled-outside n (and_leaf b l) h = absurd (omega arith)
filled-outside zero (and_container b c i) h = refl
filled-outside (suc n) (and_container b c i) h = filled-outside n i (omega arith)
