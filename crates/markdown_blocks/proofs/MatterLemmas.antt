-- Front matter, line by line.
use Rattle.std.proofs.Common.{◌≡◌, ℕ, ◌∙◌, refl, ap, sym, List, [], ◌∷◌, ◌++◌, append_assoc, append-nil, true, false, Option, Some, None, if◌then◌else◌}
use Rattle.markdown_content.specs.Codes.{Code}
use Rattle.markdown_block_model.specs.FrontMatter.{is_matter_fence, onto_matter, matter_before}

-- lines that stand before those that are left
abbrev pub onto_lines : List (List Code) → Option (List (List Code) × List (List Code)) → Option (List (List Code) × List (List Code))
onto_lines ls None = None
onto_lines ls (Some r) = Some (ls ++ r.0, r.1)

pub onto-none : (o : Option (List (List Code) × List (List Code))) → o ≡ onto_lines [] o
onto-none None = refl
onto-none (Some r) = refl

onto-more : (ls : List (List Code)) (l : List Code) (o : Option (List (List Code) × List (List Code))) → onto_lines ls (onto_matter l o) ≡ onto_lines (ls ++ l ∷ []) o
onto-more ls l None = refl
onto-more ls l (Some r) = ap (λ x. Some (x, r.1)) (sym (append_assoc ls (l ∷ []) r.0))

pub before-line : (n : ℕ) (left ls rest : List (List Code)) (l : List Code) → left ≡ l ∷ rest → is_matter_fence n l ≡ false → onto_lines ls (matter_before n left) ≡ onto_lines (ls ++ l ∷ []) (matter_before n rest)
before-line n left ls rest l e f =
    ap (λ x. onto_lines ls (matter_before n x)) e ∙ ap (λ b. onto_lines ls (if b then Some ([], rest) else onto_matter l (matter_before n rest))) f ∙ onto-more ls l (matter_before n rest)

pub before-fence : (n : ℕ) (left ls rest : List (List Code)) (l : List Code) → left ≡ l ∷ rest → is_matter_fence n l ≡ true → onto_lines ls (matter_before n left) ≡ Some (ls, rest)
before-fence n left ls rest l e f =
    ap (λ x. onto_lines ls (matter_before n x)) e ∙ ap (λ b. onto_lines ls (if b then Some ([], rest) else onto_matter l (matter_before n rest))) f ∙ ap (λ x. Some (x, rest)) (append-nil ls)

pub before-end : (n : ℕ) (left ls : List (List Code)) → left ≡ [] → onto_lines ls (matter_before n left) ≡ None
before-end n left ls e = ap (λ x. onto_lines ls (matter_before n x)) e
