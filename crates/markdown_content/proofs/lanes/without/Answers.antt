use Rattle.std.proofs.Common.{◌≡◌, suc, ◌-◌, ◌*◌, ◌%◌, ◌^◌, ◌<◌, sym, ap, subst, ◌∙◌, arith, w64, bit_and, pow_pos, pow_mono}
use Rattle.std.proofs.lemmas.Nat.Bits.{bit_at_clear_other, and_pow}
use Rattle.std.proofs.lemmas.Nat.{and-not, and_comm}
use Rattle.std.proofs.Math.Nat.{two-pow-succ}
use Rattle.markdown_content.proofs.lanes.without.Goals as goal

pub returns-clause-others : goal.returns-clause-others
returns-clause-others c i l apart =
    bit_at_clear_other w64 c.args.mask c.args.bit (omega (arith, c.requires.within)) i (omega (arith, l)) apart

pub returns-clause-less : goal.returns-clause-less
returns-clause-less c =
    let m = c.args.mask in
    let k = c.args.bit in
    let small : 2 ^ k < 2 ^ 64 = omega (arith, two-pow-succ k, pow_pos k, pow_mono {i = suc k} {j = 64} (omega (arith, c.requires.within))) in
    let one : 1 * 2 ^ k % 2 ^ 64 ≡ 2 ^ k = omega arith in
    let parts = and-not 64 (2 ^ k) m small c.ranges.mask.fits in
    let there : bit_and (2 ^ k) m ≡ 1 * 2 ^ k = and_comm _ _ ∙ and_pow m k ∙ ap (λ x. x * 2 ^ k) c.requires.set in
    subst (λ x. bit_and m (2 ^ 64 - 1 - x) < m) (sym one) (omega (arith, and_comm m (2 ^ 64 - 1 - 2 ^ k), pow_pos k))
