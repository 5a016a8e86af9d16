use Rattle.std.proofs.Common.{◌≡◌, ◌≤◌, take, vec_len, vec_capacity}
use Rattle.markdown_engine_events.proofs.packed.PackedSlice.to_vec.Given as goal

abbrev pub invariant-loop-index : goal.invariant-loop-index
invariant-loop-index l = record {
  events : l.events.items ≡ take l.index l.self;
  length : vec_len l.events ≡ l.index;
  room : l.count ≤ vec_capacity l.events;
}
