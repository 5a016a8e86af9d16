use Rattle.std.proofs.Common.{◌≡◌, ◌+◌, ◌-◌, ◌<◌, ◌∙◌, ◌∷◌, ◌++◌, [], sym, ap, arith, ℕ, List, take, length, get_or}
use Rattle.std.proofs.lemmas.List.{take_more}
use Rattle.markdown_content.specs.declared.parser.Piece.{Piece}
use Rattle.markdown_page.proofs.FilledLines.{blank-last, ink-last}
use Rattle.markdown_page.proofs.code.filled_len.Goals as goal

-- the lines up to one
with-last : (n : ℕ) (xs : List Piece) (d : Piece) → 0 < n → n - 1 < length xs → take n xs ≡ take (n - 1) xs ++ get_or xs (n - 1) d ∷ []
with-last n xs d h l = let e : n ≡ n - 1 + 1 = omega arith in ap (λ (k : ℕ). take k xs) e ∙ take_more xs (n - 1) d l

pub returns-then-not-is_blank_piece-clause-filled : goal.returns-then-not-is_blank_piece-clause-filled
returns-then-not-is_blank_piece-clause-filled c =
    let l = c.loop-len in
    let d : Piece = record { start = (0, 0); end = (0, 0) } in
    let more = with-last l.len c.args.lines.now d c.loop-len-test.true (omega (arith, l.invariant.within, c.loop-len-test.true)) in
    sym (ink-last c.args.bytes.now (take (l.len - 1) c.args.lines.now) (take l.len c.args.lines.now) (get_or c.args.lines.now (l.len - 1) d) more (sym c.is_blank_piece.ensures ∙ c.if-not-is_blank_piece.true))
    ∙ l.invariant.left

pub loop-len-preserved : goal.loop-len-preserved
loop-len-preserved c =
    let l = c.loop-len in
    let d : Piece = record { start = (0, 0); end = (0, 0) } in
    let more = with-last l.len c.args.lines.now d c.loop-len-test.true (omega (arith, l.invariant.within, c.loop-len-test.true)) in
    record {
      within = omega (arith, l.invariant.within);
      left = sym (blank-last c.args.bytes.now (take (l.len - 1) c.args.lines.now) (take l.len c.args.lines.now) (get_or c.args.lines.now (l.len - 1) d) more (sym c.is_blank_piece.ensures ∙ c.if-not-is_blank_piece.false)) ∙ l.invariant.left;
    }
