use Rattle.std.proofs.Common.{◌≡◌, ◌∙◌, refl, ap, ℕ, ◌+◌, ◌-◌, ◌≤◌, List, ◌∷◌, ◌++◌, decimal, drop, take, length, set, arith}
use Rattle.std.proofs.Math.Seq.{take-append-add}
use Rattle.std.proofs.lemmas.Fmt.{length-decimal-le}
use Rattle.std.proofs.lemmas.Grind.{drop-set_at}
use Rattle.std.proofs.lemmas.List.{length-append}
use Rattle.markdown_program.proofs.PrintedNumbers.{length-kept}
use Rattle.markdown_program.proofs.lines.Numbers.push_first.Goals as goal

-- a space and digits, written before it
pushed : (s r : ℕ) (bytes new digits kept : List ℕ)
    → s ≤ 64 → r + length digits ≡ s → 1 ≤ r → r ≤ length new → drop r new ≡ digits ++ drop s bytes → take (64 - s) (drop s bytes) ≡ kept
    → take (64 - (r - 1)) (drop (r - 1) (set new (r - 1) 32)) ≡ 32 ∷ (digits ++ kept)
pushed s r bytes new digits kept h before some fits written e =
    let back : r - 1 + 1 ≡ r = omega (arith, some) in
    let all : 64 - (r - 1) ≡ length (32 ∷ digits) + (64 - s) = omega (arith, h, before, some) in
    ap (take (64 - (r - 1))) (drop-set_at new (r - 1) (r - 1) 32 refl (omega (arith, some, fits)) ∙ ap (λ n. 32 ∷ drop n new) back ∙ ap (λ bs. 32 ∷ bs) written)
    ∙ ap (λ n. take n (32 ∷ (digits ++ drop s bytes))) all
    ∙ take-append-add (32 ∷ digits) (drop s bytes) (64 - s)
    ∙ ap (λ bs. 32 ∷ (digits ++ bs)) e

pub write_digits-at-requires : goal.write_digits-at-requires
write_digits-at-requires c =
    let short = length-decimal-le 20 c.args.number (omega arith) (omega (arith, c.ranges.number.fits)) c.ranges.number.fits in
    let kept = length-kept c.self.inside.start c.self.inside.bytes c.args.self.now c.self.invariant c.self.told c.self.view_is in
    (omega (arith, short, kept, c.requires, c.self.invariant), omega (arith, c.self.invariant, c.self.told))

pub overflow_sub-at : goal.overflow_sub-at
overflow_sub-at c =
    let short = length-decimal-le 20 c.args.number (omega arith) (omega (arith, c.ranges.number.fits)) c.ranges.number.fits in
    let kept = length-kept c.self.inside.start c.self.inside.bytes c.args.self.now c.self.invariant c.self.told c.self.view_is in
    omega (arith, short, kept, c.requires, c.self.invariant, c.write_digits-at.ensures.start)

pub returns-clause-first : goal.returns-clause-first
returns-clause-first c =
    let short = length-decimal-le 20 c.args.number (omega arith) (omega (arith, c.ranges.number.fits)) c.ranges.number.fits in
    let kept = length-kept c.self.inside.start c.self.inside.bytes c.args.self.now c.self.invariant c.self.told c.self.view_is in
    let start = c.write_digits-at.ensures.start in
    pushed c.self.inside.start c.write_digits-at.result c.self.inside.bytes c.write_digits-at.new.buf (decimal c.args.number) c.args.self.now
    c.self.invariant start (omega (arith, short, kept, c.requires, c.self.invariant, start))
    (omega (arith, start, c.self.invariant, c.self.told, c.write_digits-at.auto.buf)) c.write_digits-at.ensures.written c.self.view_is

pub returns-clause-short : goal.returns-clause-short
returns-clause-short c =
    let short = length-decimal-le 20 c.args.number (omega arith) (omega (arith, c.ranges.number.fits)) c.ranges.number.fits in
    omega (arith, ap length (returns-clause-first c), length-append (decimal c.args.number) c.args.self.now, short)
