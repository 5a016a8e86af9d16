-- A run before its first step.
use Rattle.std.specs.Prelude.{List, [], false}
use Rattle.std.specs.Borrow.{Bor}
use Rattle.std.specs.declared.alloc.Global.{Global}
use Rattle.markdown_content.specs.Place.{Place, start_of_content}
use Rattle.markdown_engine.specs.RestingFields.{at_rest}
use Rattle.markdown_content.specs.declared.parser.ParseState.{ParseState}
use Rattle.markdown_content.specs.declared.parser.Piece.{Piece}
use Rattle.markdown_engine.specs.declared.tokenizer.Tokenizer.{Tokenizer}

-- at a place in a content: no events, nothing open, all scratch fields at rest
abbrev pub begun_at : Global → Bor ParseState → Place → Tokenizer
begun_at alloc parse_state place = record {
  alloc = alloc;
  parse_state = parse_state;
  events = [];
  map = [];
  stack = [];
  cursor = place;
  tokenize_state = at_rest;
  resolvers = [];
  attempts = [];
  failed = false;
}

-- at the start of the content of these pieces
abbrev pub begun : Global → Bor ParseState → List Piece → Tokenizer
begun alloc parse_state pieces = begun_at alloc parse_state (start_of_content parse_state.now.bytes.now pieces)
