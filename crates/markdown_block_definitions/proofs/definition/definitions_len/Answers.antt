use Rattle.std.proofs.Common.{◌≤◌, ◌+◌, length, drop, arith, ap}
use Rattle.markdown_block_line.proofs.RestValues.{rest-values, values-length}
use Rattle.markdown_block_definitions.specs.DefinitionParts.{len_of, definition_of}
use Rattle.markdown_block_definitions.proofs.CodesAt.{rest-firsts}
use Rattle.markdown_block_definitions.proofs.DefinitionReads.{front-start, front-more, front-end}
use Rattle.markdown_block_definitions.proofs.definition.definitions_len.Goals as goal

pub loop-found-init : goal.loop-found-init
loop-found-init c = record { within = omega arith; front = λ cs h b. front-start cs }

pub loop-found-preserved : goal.loop-found-preserved
loop-found-preserved c =
    let len = c.loop-found.len in
    let found = c.in-Some.found in
    let more = c.in-Some.ensures.within in
    record {
      within = omega (arith, more.whole, c.loop-found.invariant.within);
      front = λ cs h b.
          let l : len + len_of found ≤ length cs = omega (arith, more.whole, c.loop-found.invariant.within, values-length cs, ap length h) in
          (front-more cs len (len_of found) (definition_of found (drop len cs)) (c.loop-found.invariant.front cs h b) (c.in-Some.ensures.read (drop len cs) (rest-values len cs c.args.values.now h) (rest-firsts len cs c.args.firsts.now b)) (omega (arith, more.some, more.label)) l).0;
    }

pub returns-clause-same : goal.returns-clause-same
returns-clause-same c = λ cs h b. front-end cs c.loop-found.len (c.loop-found.invariant.front cs h b) (c.in_default.ensures.read (drop c.loop-found.len cs) (rest-values c.loop-found.len cs c.args.values.now h) (rest-firsts c.loop-found.len cs c.args.firsts.now b))
