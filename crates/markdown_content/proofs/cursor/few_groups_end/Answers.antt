use Rattle.std.proofs.Common.{ℕ, ◌≡◌, ◌<◌, ◌≤◌, ◌+◌, ◌-◌, ◌∷◌, [], ◌==◌, ◌||◌, ◌&&◌, nat_lt, Bool, true, false, not, List, length, get_or, subst, arith}
use Rattle.std.proofs.lemmas.Bool.{cases_lt}
use Rattle.markdown_content.specs.PlainBytes.{ArePlain, is_plain}
use Rattle.markdown_content.proofs.cursor.few_groups_end.Goals as goal

-- the first and the last of one or two stops are all of them
few-plain : (set : List ℕ) (x : ℕ) → 0 < length set → length set ≤ 2 →
    is_plain (get_or set 0 0 ∷ get_or set (length set - 1) 0 ∷ []) x ≡ true → is_plain set x ≡ true
few-plain [] x some few h = absurd (omega (arith, some))
few-plain (a ∷ []) x some few h = once (nat_lt 13 x) (x == a) h
  where
    once : (b s : Bool) → (b && not (s || (s || false))) ≡ true → (b && not (s || false)) ≡ true
    once b true h = h
    once b false h = h
few-plain (a ∷ b ∷ []) x some few h = h
few-plain (a ∷ b ∷ d ∷ set) x some few h = absurd (omega (arith, few))

few-more : (set bytes : List ℕ) (from at n : ℕ) → 0 < length set → length set ≤ 2 → ArePlain set bytes from at →
    ArePlain (get_or set 0 0 ∷ get_or set (length set - 1) 0 ∷ []) bytes at (at + n) → ArePlain set bytes from (at + n)
few-more set bytes from at n some few before here i low high = grind (arith, cases_lt, few-plain)

pub loop-index-preserved : goal.loop-index-preserved
loop-index-preserved c =
    let at : ℕ = c.loop-index.index in
    let n : ℕ = c.others_among-count.result in
    record {
      from = omega (arith, c.loop-index.invariant.from);
      to = omega (arith, c.loop-index-test.true, c.others_among-count.ensures.within);
      plain = few-more c.args.stops.now c.args.bytes.now c.args.from at n c.requires.some c.requires.few c.loop-index.invariant.plain (subst (λ (s : List ℕ). ArePlain (get_or s 0 0 ∷ get_or s (length s - 1) 0 ∷ []) c.args.bytes.now at (at + n)) c.as_slice-set.ensures c.others_among-count.ensures.others);
    }

pub returns-then-count-lt-LANES-clause-plain : goal.returns-then-count-lt-LANES-clause-plain
returns-then-count-lt-LANES-clause-plain c =
    let at : ℕ = c.loop-index.index in
    let n : ℕ = c.others_among-count.result in
    few-more c.args.stops.now c.args.bytes.now c.args.from at n c.requires.some c.requires.few c.loop-index.invariant.plain (subst (λ (s : List ℕ). ArePlain (get_or s 0 0 ∷ get_or s (length s - 1) 0 ∷ []) c.args.bytes.now at (at + n)) c.as_slice-set.ensures c.others_among-count.ensures.others)

pub returns-clause-plain : goal.returns-clause-plain
returns-clause-plain c = c.loop-index.invariant.plain
