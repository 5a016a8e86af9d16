use Rattle.std.proofs.Common.{◌∙◌, ◌+◌, ◌<◌, sym, arith, drop, length, refl}
use Rattle.markdown_block_line.specs.LineBlocks.{extensions_of}
use Rattle.markdown_block_line.proofs.RestValues.{rest-values}
use Rattle.markdown_block_line.proofs.RestStarts.{fence-none, fence-short, fence-not, fence-here, fence-starts}
use Rattle.markdown_block_line.proofs.starts.fence_at.Goals as goal

pub returns-then-line-eq0-clause-found : goal.returns-then-line-eq0-clause-found
returns-then-line-eq0-clause-found c = λ cs h. fence-none (extensions_of c.args.extensions) c.args.columns cs c.args.line.now h c.if-line-eq0.true

pub returns-then-count-fence_least-clause-found : goal.returns-then-count-fence_least-clause-found
returns-then-count-fence_least-clause-found c = λ cs h.
    let l : 0 < length c.args.line.now = omega (arith, c.if-line-eq0.false) in
    fence-short (extensions_of c.args.extensions) c.args.columns _ c.count_first-count.result 0 cs c.args.line.now h l refl (c.count_first-count.ensures.count cs h) (omega (arith, c.if-count-fence_least.true, c.fence_least.ensures))

pub returns-then-not-may_be_info-clause-found : goal.returns-then-not-may_be_info-clause-found
returns-then-not-may_be_info-clause-found c = λ cs h.
    let l : 0 < length c.args.line.now = omega (arith, c.if-line-eq0.false) in
    let k = c.count_first-count.result in
    fence-not (extensions_of c.args.extensions) c.args.columns _ k 0 cs c.args.line.now h l refl (c.count_first-count.ensures.count cs h)
    (sym (c.may_be_info.ensures (drop k cs) (rest-values k cs c.args.line.now h)) ∙ c.if-not-may_be_info.true)

pub returns-clause-found : goal.returns-clause-found
returns-clause-found c = λ cs h.
    let l : 0 < length c.args.line.now = omega (arith, c.if-line-eq0.false) in
    let k = c.count_first-count.result in
    let i = c.indent.result in
    fence-here (extensions_of c.args.extensions) c.args.columns _ k i c.trimmed_len-len.result 0 cs c.args.line.now h l refl (c.count_first-count.ensures.count cs h) (omega (arith, c.if-count-fence_least.false, c.fence_least.ensures))
    (sym (c.may_be_info.ensures (drop k cs) (rest-values k cs c.args.line.now h)) ∙ c.if-not-may_be_info.false)
    (c.indent.ensures.count (drop k cs) (rest-values k cs c.args.line.now h))
    (c.trimmed_len-len.ensures.same (drop (k + i) cs) (rest-values (k + i) cs c.args.line.now h))

pub returns-clause-start : goal.returns-clause-start
returns-clause-start c = λ cs h.
    let l : 0 < length c.args.line.now = omega (arith, c.if-line-eq0.false) in
    let k = c.count_first-count.result in
    fence-starts _ k c.indent.result 0 cs c.args.line.now h l refl (c.count_first-count.ensures.count cs h) (c.indent.ensures.count (drop k cs) (rest-values k cs c.args.line.now h))
