use Rattle.std.proofs.Common.{◌+◌, ap, sym, drop, get_or, arith, ◌∙◌}
use Rattle.std.proofs.lemmas.List.{at_drop_more, drop_all}
use Rattle.markdown_run_text.proofs.WordLetters.{some-letter, word-ends, word-goes, word-stops}
use Rattle.markdown_run_text.specs.PlacesPassed.{is_some_letter, is_word}
use Rattle.markdown_run_text.proofs.readers.partial_data.stands.Goals as goal

pub returns-then-not-is_same : goal.returns-then-not-is_same
returns-then-not-is_same c =
    let word = c.args.word.now in
    let at = c.loop-letter.letter-index in
    sym (word-stops (get_or word at 0) (drop (at + 1) word) c.loop-letter.place (ap (is_some_letter (get_or word at 0)) (sym c.current.ensures) ∙ sym c.is_same.ensures ∙ c.if-not-is_same.true))
    ∙ sym (at_drop_more (λ ns. is_word ns c.loop-letter.place) word at 0 c.loop-letter-test.true)
    ∙ c.loop-letter.invariant

pub consume-requires : goal.consume-requires
consume-requires c = grind (arith, some-letter, c.current.ensures, c.is_same.ensures, c.if-not-is_same.false)

pub loop-letter-preserved : goal.loop-letter-preserved
loop-letter-preserved c =
    let word = c.args.word.now in
    let at = c.loop-letter.letter-index in
    ap (is_word (drop (at + 1) word)) c.consume.ensures
    ∙ sym (word-goes (get_or word at 0) (drop (at + 1) word) c.loop-letter.place (ap (is_some_letter (get_or word at 0)) (sym c.current.ensures) ∙ sym c.is_same.ensures ∙ c.if-not-is_same.false))
    ∙ sym (at_drop_more (λ ns. is_word ns c.loop-letter.place) word at 0 c.loop-letter-test.true)
    ∙ c.loop-letter.invariant

pub returns : goal.returns
returns c = grind (arith, word-ends, drop_all, c.loop-letter-test.false, c.loop-letter.invariant)
