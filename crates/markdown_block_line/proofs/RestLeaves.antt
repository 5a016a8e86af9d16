-- What a further line makes of code.
use Rattle.std.proofs.Common.{◌≡◌, ℕ, ◌≤◌, ◌<◌, min, ap, ◌∙◌, sym, List, [], ◌∷◌, ◌++◌, drop, true, false, Some, arith}
use Rattle.std.specs.Prelude.{nat_le}
use Rattle.std.proofs.lemmas.Bool.Decides.{nat_tests}
use Rattle.markdown_content.specs.Codes.{Code}
use Rattle.markdown_block_model.specs.LineRests.{indent, trimmed, is_blank_line, only_if}
use Rattle.markdown_block_model.specs.BlockTree.{no_extensions, Fence, indented_code, fenced_code}
use Rattle.markdown_block_model.specs.LeafStarts.{is_closing}
use Rattle.markdown_block_model.specs.DocumentBlocks.{with_fenced_line, with_indented_line, with_next}
use Rattle.markdown_block_line.proofs.RestValues.{skip-drop, trimmed-drop}

pub fenced-open : (f : Fence) (info : List Code) (ls : List (List Code)) (cs : List Code) (k : ℕ) → is_closing f cs ≡ false → k ≡ min f.columns (indent cs)
    → with_next no_extensions (fenced_code f info ls false) cs ≡ Some (fenced_code f info (ls ++ drop k cs ∷ []) false)
fenced-open f info ls cs k e h =
    ap (λ b. Some (with_fenced_line b f info ls cs)) e
    ∙ ap (λ (r : List Code). Some (fenced_code f info (ls ++ r ∷ []) false)) (skip-drop f.columns cs ∙ ap (λ n. drop n cs) (sym h))

pub code-deep : (ls : List (List Code)) (cs : List Code) (k : ℕ) → k ≡ min 4 (indent cs) → 4 ≤ k → with_indented_line (nat_le 4 (indent cs)) ls cs ≡ Some (indented_code (ls ++ drop k cs ∷ []))
code-deep ls cs k h e =
    let x : nat_le 4 (indent cs) ≡ true = grind (arith, nat_tests) in
    ap (λ b. with_indented_line b ls cs) x
    ∙ ap (λ (r : List Code). Some (indented_code (ls ++ r ∷ []))) (skip-drop 4 cs ∙ ap (λ n. drop n cs) (sym h))

pub code-blank : (ls : List (List Code)) (cs : List Code) (k : ℕ) → k ≡ min 4 (indent cs) → k < 4 → is_blank_line cs ≡ true → with_indented_line (nat_le 4 (indent cs)) ls cs ≡ Some (indented_code (ls ++ drop k cs ∷ []))
code-blank ls cs k h e b =
    let x : nat_le 4 (indent cs) ≡ false = grind (arith, nat_tests) in
    let i : indent cs ≡ k = omega arith in
    ap (λ v. with_indented_line v ls cs) x ∙ ap (λ v. only_if v (indented_code (ls ++ trimmed cs ∷ []))) b
    ∙ ap (λ (r : List Code). Some (indented_code (ls ++ r ∷ []))) (trimmed-drop cs ∙ ap (λ n. drop n cs) i)
