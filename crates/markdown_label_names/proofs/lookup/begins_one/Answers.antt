-- Whether one of these texts begins so is whether one of their bytes do.
use Rattle.std.proofs.Common.{◌==◌, string_bytes, sym, ◌∙◌}
use Rattle.std.specs.List.{starts_with}
use Rattle.markdown_notes.proofs.NameOrder.{any_map}
use Rattle.markdown_label_names.proofs.lookup.begins_one.Goals as goal

pub returns : goal.returns
returns c = c.one_begins.ensures ∙ sym (any_map (λ definition. starts_with (◌==◌) definition c.args.front.now) string_bytes c.args.definitions.now)
