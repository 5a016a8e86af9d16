use Rattle.std.proofs.Common.{◌<◌, ◌≤◌, ◌∙◌, true, length, sym, arith}
use Rattle.markdown_content.specs.Place.{ahead_at}
use Rattle.markdown_content.proofs.ContentLines.{text-within, text-ended}
use Rattle.markdown_content.proofs.StretchLemmas.{left-forward, left-past}
use Rattle.markdown_content.proofs.cursor.Cursor.pass_filled_lines.Goals as goal

pub returns-then-not-stands_at_ink-clause-lines : goal.returns-then-not-stands_at_ink-clause-lines
returns-then-not-stands_at_ink-clause-lines c = grind (arith, text-ended, text-within)

pub returns-then-not-stands_at_ink-clause-left : goal.returns-then-not-stands_at_ink-clause-left
returns-then-not-stands_at_ink-clause-left c = grind (arith, left-forward, left-past)

pub loop-self-smaller : goal.loop-self-smaller
loop-self-smaller c =
    let fed : length (ahead_at c.pass_line_feed.new.self) < length (ahead_at c.loop-self.self) = left-past c.loop-self.self c.pass_line_feed.new.self 10 (c.pass_line_feed.ensures.passed c.loop-self-test.true).0 (c.pass_line_feed.ensures.passed c.loop-self-test.true).1 in
    let more : length (ahead_at c.pass_plain-in-loop-self.new.self) ≤ length (ahead_at c.pass_line_feed.new.self) = left-forward c.pass_line_feed.new.self c.pass_plain-in-loop-self.new.self c.pass_plain-in-loop-self.ensures.codes c.pass_plain-in-loop-self.ensures.forward in
    omega (arith, fed, more)

pub loop-self-preserved : goal.loop-self-preserved
loop-self-preserved c =
    let fed : length (ahead_at c.pass_line_feed.new.self) < length (ahead_at c.loop-self.self) = left-past c.loop-self.self c.pass_line_feed.new.self 10 (c.pass_line_feed.ensures.passed c.loop-self-test.true).0 (c.pass_line_feed.ensures.passed c.loop-self-test.true).1 in
    let more : length (ahead_at c.pass_plain-in-loop-self.new.self) ≤ length (ahead_at c.pass_line_feed.new.self) = left-forward c.pass_line_feed.new.self c.pass_plain-in-loop-self.new.self c.pass_plain-in-loop-self.ensures.codes c.pass_plain-in-loop-self.ensures.forward in
    record {
      lines =
          text-within c.new-in-loop-self.result c.pass_line_feed.new.self c.pass_plain-in-loop-self.new.self c.pass_plain-in-loop-self.ensures.past
          ∙ sym (c.stands_at_ink.ensures c.if-not-stands_at_ink.false)
          ∙ text-ended c.loop-self.self c.pass_line_feed.new.self (c.pass_line_feed.ensures.passed c.loop-self-test.true).0 (c.pass_line_feed.ensures.passed c.loop-self-test.true).1
          ∙ c.loop-self.invariant.lines;
      left = omega (arith, fed, more, c.loop-self.invariant.left);
    }

pub returns-clause-lines : goal.returns-clause-lines
returns-clause-lines c = grind (arith, text-within)

pub returns-clause-left : goal.returns-clause-left
returns-clause-left c = grind (arith, left-forward)
