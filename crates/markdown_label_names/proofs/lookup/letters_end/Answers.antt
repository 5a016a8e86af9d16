-- Each byte that is passed is a letter.
use Rattle.std.proofs.Common.{◌≡◌, ◌∙◌, sym, subst, arith}
use Rattle.markdown_label_names.proofs.IdentifierLetters.{IsWord, word-none, word-more, word-kept}
use Rattle.markdown_label_names.proofs.lookup.letters_end.Goals as goal

pub loop-at-init : goal.loop-at-init
loop-at-init c = word-none c.args.bytes.now c.args.start c.args.end c.requires

pub returns-then-not-is_ascii_lowercase-clause-cuts : goal.returns-then-not-is_ascii_lowercase-clause-cuts
returns-then-not-is_ascii_lowercase-clause-cuts c = c.loop-at.invariant.cuts

pub returns-then-not-is_ascii_lowercase-clause-identifier : goal.returns-then-not-is_ascii_lowercase-clause-identifier
returns-then-not-is_ascii_lowercase-clause-identifier c =
    word-kept c.args.bytes.now c.args.start c.loop-at.at c.loop-at.invariant

pub loop-at-preserved : goal.loop-at-preserved
loop-at-preserved c =
    word-more c.args.bytes.now c.args.start c.loop-at.at c.loop-at.invariant (omega (arith, c.loop-at-test.true, c.requires.last.0)) (sym c.is_ascii_lowercase.ensures.value ∙ c.if-not-is_ascii_lowercase.false)

pub returns-clause-identifier : goal.returns-clause-identifier
returns-clause-identifier c =
    let all : c.loop-at.at ≡ c.args.end = omega (arith, c.loop-at-test.false, c.loop-at.auto.at-end c.requires.in_order) in
    word-kept c.args.bytes.now c.args.start c.args.end (subst (IsWord c.args.bytes.now c.args.start) all c.loop-at.invariant)
