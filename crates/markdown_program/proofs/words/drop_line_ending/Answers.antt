use Rattle.std.proofs.Common.{◌≡◌, ◌∙◌, ap, ℕ, ◌≤◌, ◌-◌, Bool, true, false, ◌||◌, List, [], ◌∷◌, length, take, nat_eq, if◌then◌else◌, arith}
use Rattle.std.specs.List.{ends_with}
use Rattle.std.proofs.Math.Seq.{take-length}
use Rattle.std.proofs.lemmas.List.{length-take-le}
use Rattle.markdown_program.specs.ProgramWords.{without_line_ending}
use Rattle.markdown_program.proofs.words.drop_line_ending.Goals as goal

-- what the bytes begin with is taken of them by its length
abbrev BeginWith : List ℕ → List ℕ → Type 0
BeginWith bytes xs = take (length xs) bytes ≡ xs

either : (b : Bool) (bytes xs ys : List ℕ) → BeginWith bytes xs → BeginWith bytes ys → BeginWith bytes (if b then xs else ys)
either true bytes xs ys h k = h
either false bytes xs ys h k = k

begins : (n : ℕ) (bytes : List ℕ) → n ≤ length bytes → BeginWith bytes (take n bytes)
begins n bytes h = ap (λ k. take k bytes) (length-take-le n bytes h)

without-taken : (bytes : List ℕ) → BeginWith bytes (without_line_ending bytes)
without-taken bytes =
    either (ends_with nat_eq bytes (13 ∷ 10 ∷ [])) bytes _ _ (begins (length bytes - 2) bytes (omega arith))
    (either (ends_with nat_eq bytes (10 ∷ []) || ends_with nat_eq bytes (13 ∷ [])) bytes _ _ (begins (length bytes - 1) bytes (omega arith)) (take-length bytes))

pub returns : goal.returns
returns c =
    c.truncate.ensures.items
    ∙ ap (λ xs. take (length xs) c.args.bytes.now.items) (c.without_line_ending-len.ensures ∙ ap without_line_ending c.as_slice.ensures.value)
    ∙ without-taken c.args.bytes.now.items
