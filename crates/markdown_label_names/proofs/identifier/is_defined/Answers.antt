-- Whether a text is one of these is whether its bytes are.
use Rattle.std.proofs.Common.{string_bytes, sym, ◌∙◌}
use Rattle.std.specs.Str.{bytes_eq}
use Rattle.markdown_notes.proofs.NameOrder.{any_map}
use Rattle.markdown_label_names.proofs.identifier.is_defined.Goals as goal

pub returns : goal.returns
returns c = c.has.ensures ∙ sym (any_map (bytes_eq c.args.name.now) string_bytes c.args.definitions.now)
