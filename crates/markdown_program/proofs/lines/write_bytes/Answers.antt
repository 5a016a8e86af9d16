use Rattle.std.proofs.Common.{◌≡◌, ◌∙◌, sym, ap, ℕ, ◌+◌, ◌-◌, ◌≤◌, List, ◌++◌, length, take, arith}
use Rattle.std.proofs.Math.Seq.{take-append-add}
use Rattle.std.proofs.lemmas.List.{length-take-le, take-take}
use Rattle.std.proofs.lemmas.Slice.{take-put_mid}
use Rattle.markdown_program.proofs.lines.write_bytes.Goals as goal

-- the first bytes of those that were written
part-written : (at n : ℕ) (old bytes new : List ℕ)
    → n ≤ length bytes → at ≤ length old → take (at + length bytes) new ≡ take at old ++ bytes → take (at + n) new ≡ take at old ++ take n bytes
part-written at n old bytes new few h written =
    sym (take-take (at + n) (at + length bytes) new (omega (arith, few)))
    ∙ ap (take (at + n)) written
    ∙ ap (λ k. take (k + n) (take at old ++ bytes)) (sym (length-take-le at old h))
    ∙ take-append-add (take at old) bytes n

pub returns-clause-written : goal.returns-clause-written
returns-clause-written c =
    let enough : c.args.at ≤ length c.args.lines.now = omega (arith, c.requires.1) in
    let same = c.copy_from_slice.ensures.after in
    part-written c.args.at c.args.n c.args.lines.now c.args.bytes.now _ c.requires.0 enough
    (take-put_mid c.args.at (c.args.at + length c.args.bytes.now - c.args.at) c.args.lines.now c.copy_from_slice.new.self (c.args.at + length c.args.bytes.now)
    (ap (λ bs. c.args.at + length bs) (sym same)) enough
    ∙ ap (λ bs. take c.args.at c.args.lines.now ++ bs) same)
