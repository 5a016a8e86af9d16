-- The runs of a tokenizer's events.
use Rattle.std.specs.Prelude.{List}
use Rattle.markdown_engine.specs.declared.tokenizer.Tokenizer.{Tokenizer}
use Rattle.markdown_attention.specs.RunsRead.{outermost, runs_from}
use Rattle.markdown_attention.specs.declared.attention.runs.Sequence.{Sequence}

abbrev pub runs_of_events : Tokenizer → List Sequence
runs_of_events T = runs_from T.parse_state.now.options.now T.parse_state.now.bytes.now T.cursor.codes 0 0 outermost T.events
