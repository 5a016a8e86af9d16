use Rattle.std.proofs.Common.{◌≤◌, ◌+◌, length, take, drop, arith, ap}
use Rattle.markdown_block_line.proofs.RestValues.{rest-values, values-length}
use Rattle.markdown_block_definitions.specs.DefinitionParts.{len_of, definition_of}
use Rattle.markdown_block_definitions.proofs.CodesAt.{rest-firsts}
use Rattle.markdown_block_definitions.proofs.FrontTexts.{part-of, collected-start, collected-more, collected-end}
use Rattle.markdown_block_definitions.proofs.front.read_front.Goals as goal

pub loop-found-init : goal.loop-found-init
loop-found-init c = record { within = omega arith; collected = λ cs h b. collected-start cs _ c.new-definitions.ensures.items }

pub loop-found-preserved : goal.loop-found-preserved
loop-found-preserved c =
    let len = c.loop-found.len in
    let found = c.in-Some.found in
    let more = c.in-Some.ensures.within in
    record {
      within = omega (arith, more.whole, c.loop-found.invariant.within);
      collected = λ cs h b.
          let l : len + len_of found ≤ length cs = omega (arith, more.whole, c.loop-found.invariant.within, values-length cs, ap length h) in
          collected-more cs len (len_of found) (definition_of found (drop len cs)) _ _ _ (c.loop-found.invariant.collected cs h b) (c.in-Some.ensures.read (drop len cs) (rest-values len cs c.args.values.now h) (rest-firsts len cs c.args.firsts.now b)) (omega (arith, more.some, more.label)) l
          c.in_ok-push.ensures.items (c.in_ok-definition.ensures (drop len cs) (rest-values len cs c.args.values.now h) (rest-firsts len cs c.args.firsts.now b));
    }

pub returns : goal.returns
returns c = λ cs h b.
    let len = c.loop-found.len in
    let l : len ≤ length cs = omega (arith, c.loop-found.invariant.within, values-length cs, ap length h) in
    collected-end cs len _ (c.loop-found.invariant.collected cs h b) (c.in_default.ensures.read (drop len cs) (rest-values len cs c.args.values.now h) (rest-firsts len cs c.args.firsts.now b)) l
    (c.count_lines.ensures (take len cs) (part-of cs c.args.values.now 0 len _ h (omega arith)))
