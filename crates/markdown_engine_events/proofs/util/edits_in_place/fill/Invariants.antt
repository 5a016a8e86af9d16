use Rattle.std.proofs.Common.{◌≡◌, ◌≤◌, ◌+◌, ◌++◌, length, take, drop}
use Rattle.std.specs.List.{All}
use Rattle.markdown_engine_events.specs.Edits.{kept, edited, edited_from, grown}
use Rattle.markdown_engine_events.proofs.util.edits_in_place.fill.Given as goal

abbrev pub invariant-loop-edit : goal.invariant-loop-edit
invariant-loop-edit l =
    let log = kept l.comes l.entries in
    let es = drop l.room l.initial.items in
    record {
      size : length l.items ≡ l.count + l.room;
      front : take l.end l.items ++ edited_from (drop l.edit-index log) l.read (drop l.read es) ≡ edited log es;
      back : drop (l.room + l.read) l.items ≡ drop l.read es;
      order : l.end + grown (drop l.edit-index log) ≤ l.room + l.read;
      within : l.read ≤ l.count;
      ahead : All (λ x. l.read ≤ x.at) (drop l.edit-index log);
    }
