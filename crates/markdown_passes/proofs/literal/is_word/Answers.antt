use Rattle.std.proofs.Common.{◌∙◌, sym}
use Rattle.markdown_passes.proofs.TrimWalks.{IsBegun, IsEnded, begun-where, ended-where, stretch-next}
use Rattle.markdown_passes.proofs.WordsInEitherCase.{word-too_long, word-differs, word-goes_on, word-all}
use Rattle.markdown_passes.proofs.literal.is_word.Goals as goal
use Rattle.markdown_passes.proofs.literal.is_word.Goals.{then-is_same_place-via-then-is_same_place, then-is_same_place-via-else-is_same_place+then-not-is_letter_of}

pub code_from-requires-clause-begins : goal.code_from-requires-clause-begins
code_from-requires-clause-begins c =
    (begun-where c.args.bytes.now c.loop-letter.point c.args.to c.loop-letter.invariant.0 (sym c.is_same_place.ensures ∙ c.if-is_same_place.false)).in_bytes

pub returns-then-is_same_place : goal.returns-then-is_same_place
returns-then-is_same_place c =
    elim c.then-is_same_place.branch [
      | then-is_same_place-via-then-is_same_place w ↦
          let e : IsEnded c.args.bytes.now c.loop-letter.point c.args.to = ended-where c.args.bytes.now c.loop-letter.point c.args.to c.loop-letter.invariant.0 (sym c.is_same_place.ensures ∙ w.if-is_same_place.true) in
          sym (word-too_long c.args.bytes.now c.args.word.now c.loop-letter.point c.args.to c.loop-letter.letter-index c.loop-letter-test.true e) ∙ c.loop-letter.invariant.1
      | then-is_same_place-via-else-is_same_place+then-not-is_letter_of w ↦
          let b : IsBegun c.args.bytes.now c.loop-letter.point c.args.to = begun-where c.args.bytes.now c.loop-letter.point c.args.to c.loop-letter.invariant.0 (sym c.is_same_place.ensures ∙ w.if-is_same_place.false) in
          sym (word-differs c.args.bytes.now c.args.word.now c.loop-letter.point c.args.to c.loop-letter.letter-index c.loop-letter-test.true w.code_from.result w.is_letter_of.result b w.code_from.ensures w.is_letter_of.ensures w.if-not-is_letter_of.true) ∙ c.loop-letter.invariant.1
    ]

pub past_code-point-requires-clause-begins : goal.past_code-point-requires-clause-begins
past_code-point-requires-clause-begins c =
    (begun-where c.args.bytes.now c.loop-letter.point c.args.to c.loop-letter.invariant.0 (sym c.is_same_place.ensures ∙ c.if-is_same_place.false)).in_bytes

pub loop-letter-preserved : goal.loop-letter-preserved
loop-letter-preserved c =
    let b : IsBegun c.args.bytes.now c.loop-letter.point c.args.to = begun-where c.args.bytes.now c.loop-letter.point c.args.to c.loop-letter.invariant.0 (sym c.is_same_place.ensures ∙ c.if-is_same_place.false) in (
      stretch-next c.args.bytes.now c.loop-letter.point c.args.to c.past_code-point.result b c.past_code-point.ensures.next,
      word-goes_on c.args.bytes.now c.args.word.now c.loop-letter.point c.args.to c.loop-letter.letter-index c.loop-letter-test.true c.code_from.result c.is_letter_of.result c.past_code-point.result b c.code_from.ensures c.is_letter_of.ensures c.if-not-is_letter_of.false c.past_code-point.ensures.next ∙ c.loop-letter.invariant.1,
    )

pub returns : goal.returns
returns c =
    word-all c.args.bytes.now c.args.word.now c.loop-letter.point c.args.to c.loop-letter.letter-index c.is_same_place-2.result c.loop-letter.invariant.0 c.loop-letter-test.false c.is_same_place-2.ensures ∙ c.loop-letter.invariant.1
