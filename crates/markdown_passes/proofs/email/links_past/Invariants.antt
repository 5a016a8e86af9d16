use Rattle.std.proofs.Common.{◌≡◌, ◌≤◌, ◌-◌, take, drop}
use Rattle.markdown_passes.specs.EmailEdits.{links_past}
use Rattle.markdown_passes.proofs.email.links_past.Given as goal

abbrev pub invariant-loop-index : goal.invariant-loop-index
invariant-loop-index l = record {
  past : l.links ≡ links_past l.before (take (l.index - l.from) (drop l.from l.events));
  few : l.links ≤ l.index;
}
