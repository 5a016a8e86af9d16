use Rattle.std.proofs.Common.{◌≡◌, ◌∙◌, sym, ap, ℕ, ◌-◌, List, ◌++◌, codes, decimal, drop, length, append_assoc, arith}
use Rattle.std.proofs.lemmas.Fmt.{decimal_digit}
use Rattle.markdown_program.specs.PrintedLines.{rest_text}
use Rattle.markdown_event.specs.declared.event.Point.{Point}
use Rattle.markdown_program.proofs.PrintedNumbers.{last-of}
use Rattle.markdown_program.proofs.lines.turn_codes.Goals as goal

-- where there are no such codes, these are the last two bytes
none-last : (p : Point) (rest : List ℕ) → rest ≡ rest_text p → p.vs ≡ 0 →
    drop (length rest - 2) rest ≡ codes " " ++ decimal 0
none-last p rest e none =
    let before : List ℕ = codes " " ++ decimal p.column ++ codes " " ++ decimal p.index in
    ap (λ bs. drop (length bs - 2) bs) (e ∙ ap (λ n. before ++ codes " " ++ decimal n) none ∙ append_assoc before (codes " ") (decimal 0))
    ∙ last-of 2 before (codes " " ++ decimal 0) (ap (λ bs. length (codes " " ++ bs)) (decimal_digit 0 (omega arith)))

pub returns-then-vs-eq0-clause-codes : goal.returns-then-vs-eq0-clause-codes
returns-then-vs-eq0-clause-codes c =
    c.keep_last.ensures ∙ none-last c.args.other c.args.rest.now c.requires c.if-other-eq0.true ∙ ap (λ n. codes " " ++ decimal n) (sym c.if-vs-eq0.true)
