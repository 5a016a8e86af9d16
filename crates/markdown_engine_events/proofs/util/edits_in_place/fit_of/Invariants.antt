use Rattle.std.proofs.Common.{◌≡◌, ◌≤◌, ℕ, drop, true}
use Rattle.markdown_engine_events.specs.Edits.{edits_of, grown, AreGrowing, StandApart}
use Rattle.markdown_engine_events.proofs.util.edits_in_place.fit_of.Given as goal

abbrev pub invariant-loop-index : goal.invariant-loop-index
invariant-loop-index l =
    let behind = drop l.index (edits_of l.edits) in
    record {
      apart : (n : ℕ) → n ≤ l.next → StandApart n l.count behind;
      more : l.fit.more ≡ grown behind;
      growing : l.fit.growing ≡ true → AreGrowing behind;
    }
