-- What contracts see of an innermost event that is lent.
use Rattle.markdown_innermost.specs.InnermostEvents.{Lent}
use Rattle.markdown_innermost.specs.declared.leaf.Leaf.{Leaf}

abbrev pub lent_by : Leaf → Lent
lent_by l = record { name = l.name; start = l.start; end = l.end; bytes = l.slice.bytes.now; before = l.slice.before; after = l.slice.after }
