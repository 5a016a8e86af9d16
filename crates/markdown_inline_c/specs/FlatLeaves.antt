-- Leaves as a caller in C gets them.
use Rattle.std.specs.Prelude.{List, length, map}
use Rattle.markdown_model.specs.InlineTree.{text_events}
use Rattle.markdown_innermost.specs.InnermostEvents.{Lent, innermost, lent}
use Rattle.markdown_event.specs.EventNames.{name_number}
use Rattle.markdown_inline_c.specs.FlatInput.{pieces_of, text_setting}
use Rattle.markdown_inline_c.specs.declared.flat.FlatLeaf.{FlatLeaf}
use Rattle.markdown_inline_c.specs.declared.flat.Input.{Input}

abbrev pub flat_leaf : Lent → FlatLeaf
flat_leaf l = record {
  name = name_number l.name;
  start_line = l.start.line;
  start_column = l.start.column;
  start = l.start.index;
  start_vs = l.start.vs;
  end_line = l.end.line;
  end_column = l.end.column;
  end = l.end.index;
  end_vs = l.end.vs;
  before = l.before;
  bytes_len = length l.bytes;
  after = l.after;
}

-- what the document lends for the innermost events of the input as a text
abbrev pub leaves_of : Input → List FlatLeaf
leaves_of i = map flat_leaf (map (lent i.bytes.now) (innermost (text_events (text_setting i) (pieces_of i.pieces.now))))
