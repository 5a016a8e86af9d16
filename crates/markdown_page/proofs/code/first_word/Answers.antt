use Rattle.std.proofs.Common.{◌-◌, take, drop, length, length-drop}
use Rattle.std.proofs.Math.Seq.{take-length}
use Rattle.markdown_page.proofs.FirstWords.{word-of}
use Rattle.markdown_page.proofs.code.first_word.Goals as goal

pub returns : goal.returns
returns c = word-of c.args.text.now (take (length c.args.text.now - c.word_start.result) (drop c.word_start.result c.args.text.now)) c.word_start.result c.word_len.result
    (simp (← length-drop c.word_start.result c.args.text.now) (take-length (drop c.word_start.result c.args.text.now)))
    c.word_start.ensures.within c.word_start.ensures.same c.word_start.ensures.begins c.word_len.ensures.within c.word_len.ensures.word c.word_len.ensures.ends
