use Rattle.std.proofs.Common.{◌≡◌, ℕ, suc, ◌<◌, ◌≤◌, get_or, length, subst, arith}
use Rattle.markdown_attention.specs.OpenRuns.{CutFrom}
use Rattle.std.proofs.lemmas.List.{get_or_read}
use Rattle.markdown_attention.proofs.attention.pairing.cut.Goals as goal

pub loop-run-preserved : goal.loop-run-preserved
loop-run-preserved c =
    let i = c.loop-run.invariant in
    let r : ℕ = c.in-Some.run' in
    let at : c.loop-run.at ≡ suc r = omega (arith, c.in-Some.ensures.number) in
    let past : c.args.opener < r = omega (arith, c.in-Some.ensures.past) in
    let in' = i.within in
    let inside : r < length c.args.older.now = omega (arith, at, in', c.requires.head) in
    let next : c.index-older-run.result ≡ get_or c.args.older.now r 0 = get_or_read c.args.older.now r c.index-older-run.result inside c.index-older-run.is 0 in
    let low : get_or c.args.older.now r 0 ≤ r = c.requires.down r inside in
    record {
      within = omega (arith, low, next, in', at);
      cut = (suc i.cut.0, (r, subst (λ (x : ℕ). CutFrom c.args.older.now c.args.opener c.args.head i.cut.0 x) at i.cut.1, past, next));
    }
