use Rattle.std.proofs.Common.{◌≡◌, ◌≤◌, ◌-◌, ◌++◌, None, drop, length, map, take}
use Rattle.markdown_html_model.specs.Resolved.{decoding_of}
use Rattle.markdown_tree.specs.LabelsView.{given_of}
use Rattle.markdown_inline_c.specs.FlatEvents.{short_event}
use Rattle.markdown_inline_c.specs.ShortEvents.{noted, short_from, told}
use Rattle.markdown_inline_c.proofs.form.all_told.Given as goal

abbrev pub invariant-loop-number : goal.invariant-loop-number
invariant-loop-number l = record {
  tree : l.tree ≡ l.events;
  within : l.number ≤ length l.events;
  noted : noted l.found.items (map (short_event None) l.events)
      ≡ short_from (told (given_of l.labels) (decoding_of l.labels.options.now) l.events) 0 (take l.number l.events) ++ map (short_event None) (drop l.number l.events);
}

abbrev pub decreases-loop-number : goal.decreases-loop-number
decreases-loop-number l = length l.events - l.number
