use Rattle.std.proofs.Common.{◌+◌, ◌≤◌, ap, sym, arith, length, drop-drop, List}
use Rattle.markdown_content.specs.Codes.{Code}
use Rattle.markdown_block_line.specs.DocumentLines.{line_from}
use Rattle.markdown_blocks.specs.LineRest.{LineRest}
use Rattle.markdown_blocks.proofs.LinePieces.{at-within, codes-fit, outer-more}
use Rattle.markdown_blocks.proofs.rest.Rest.behind.Goals as goal

pub overflow_add-result : goal.overflow_add-result
overflow_add-result c =
    let w : c.self.inside.at + c.args.count ≤ length c.self.inside.values.now = at-within _ _ _ _ _ c.args.count c.self.invariant (rw (← c.self.view_is) at c.requires.within) in
    omega (arith, codes-fit _ _ _ _ _ c.args.count c.self.invariant w)

pub invariant_of-result : goal.invariant_of-result
invariant_of-result c =
    let i = c.self.invariant in
    record {
      fits = i.fits;
      is_point = i.is_point;
      filled = i.filled;
      begins = i.begins;
      same = i.same;
      breaks_are = i.breaks_are;
      within = at-within _ _ _ _ _ c.args.count i (rw (← c.self.view_is) at c.requires.within);
      between = i.between;
      outer = outer-more _ c.self.inside.at c.args.count i.outer (rw (← c.self.view_is) at c.requires.outer);
    }

pub returns : goal.returns
returns c =
    let line = line_from c.self.inside.document.now c.self.inside.start in
    rw (← c.self.view_is) (ap (λ (cs : List Code). let r : LineRest = record { extensions = c.self.inside.extensions; bytes = c.self.inside.document.now; start = c.self.inside.start; codes = cs } in r) (sym (drop-drop c.args.count c.self.inside.at line)))
