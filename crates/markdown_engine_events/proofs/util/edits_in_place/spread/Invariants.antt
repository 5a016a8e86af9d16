use Rattle.std.proofs.Common.{◌≡◌, ◌≤◌, ◌+◌, length, take, drop, ℕ}
use Rattle.std.specs.List.{All}
use Rattle.markdown_engine_events.specs.Edits.{kept, edited_from, grown, StandApart}
use Rattle.markdown_engine_events.proofs.util.edits_in_place.spread.Given as goal

abbrev pub invariant-loop-index : goal.invariant-loop-index
invariant-loop-index l =
    let log = kept l.comes l.entries in
    let es = take l.count l.initial.items in
    record {
      size : length l.items ≡ l.count + grown log;
      front : take l.read l.items ≡ take l.read es;
      back : drop l.end l.items ≡ edited_from (drop l.index log) l.read (drop l.read es);
      gap : l.end ≡ l.read + grown (take l.index log);
      within : l.read ≤ l.count;
      ahead : All (λ x. l.read ≤ x.at) (drop l.index log);
      next : (k : ℕ) → k ≤ l.count → StandApart k l.count (drop l.index log) → k ≤ l.read;
    }
