use Rattle.std.proofs.Common.{◌≡◌, length, arith}
use Rattle.markdown_blocks.proofs.TextEndLemmas.{trimming-start, trimming-last, trimming-less, trimming-end, trimming-text, trimming-some, no-pieces, text-content, none-content}
use Rattle.markdown_blocks.proofs.ends.trim_end.Goals as goal

pub loop-last-init : goal.loop-last-init
loop-last-init c = trimming-start c.args.document.now c.args.text.now.items c.requires

pub trimmed-requires : goal.trimmed-requires
trimmed-requires c = trimming-last c.args.document.now c.args.text.now.items c.loop-last.text.items c.pop.new.self.items c.in-Some.last c.loop-last.invariant c.in-Some.ensures.items

pub loop-last-preserved : goal.loop-last-preserved
loop-last-preserved c =
    trimming-less c.args.document.now c.args.text.now.items c.loop-last.text.items c.pop.new.self.items c.in-Some.last c.loop-last.invariant c.in-Some.ensures.items c.in_default-trimmed.ensures

pub returns-in-Some-trimmed-clause-codes : goal.returns-in-Some-trimmed-clause-codes
returns-in-Some-trimmed-clause-codes c =
    trimming-end c.args.document.now c.args.text.now.items c.loop-last.text.items c.pop.new.self.items _ c.in-Some.last c.in-Some-trimmed.piece c.loop-last.invariant c.in-Some.ensures.items c.in-Some-trimmed.ensures
    c.in_ok-push.ensures.items

pub returns-in-Some-trimmed-clause-text : goal.returns-in-Some-trimmed-clause-text
returns-in-Some-trimmed-clause-text c =
    trimming-text c.args.document.now c.args.text.now.items c.loop-last.text.items c.pop.new.self.items _ c.in-Some.last c.in-Some-trimmed.piece c.loop-last.invariant c.in-Some.ensures.items c.in-Some-trimmed.ensures
    c.in_ok-push.ensures.items

pub returns-in-Some-trimmed-clause-content : goal.returns-in-Some-trimmed-clause-content
returns-in-Some-trimmed-clause-content c = λ k u l.
    text-content c.args.document.now _
    (trimming-text c.args.document.now c.args.text.now.items c.loop-last.text.items c.pop.new.self.items _ c.in-Some.last c.in-Some-trimmed.piece c.loop-last.invariant c.in-Some.ensures.items c.in-Some-trimmed.ensures
    c.in_ok-push.ensures.items k)
    u l

pub returns-clause-content : goal.returns-clause-content
returns-clause-content c = λ k u l.
    let e : length c.pop.new.self.items ≡ 0 = omega (arith, (rw c.in_default.is at c.pop.ensures.cases).1) in
    none-content c.args.document.now c.pop.new.self.items e u l

pub returns-in-Some-trimmed-clause-empty : goal.returns-in-Some-trimmed-clause-empty
returns-in-Some-trimmed-clause-empty c = λ e. trimming-some c.args.document.now c.pop.new.self.items _ c.in-Some.last c.in-Some-trimmed.piece c.in-Some-trimmed.ensures c.in_ok-push.ensures.items e

pub returns-clause-empty : goal.returns-clause-empty
returns-clause-empty c =
    let e : length c.pop.new.self.items ≡ 0 = omega (arith, (rw c.in_default.is at c.pop.ensures.cases).1) in
    λ _. no-pieces c.pop.new.self.items e
