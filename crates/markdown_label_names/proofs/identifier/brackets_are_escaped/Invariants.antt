-- What the bytes before the place leave to be asked of those from it on.
use Rattle.std.proofs.Common.{◌≡◌, false, drop}
use Rattle.markdown_model.specs.Setting.{brackets_are_escaped}
use Rattle.markdown_label_names.proofs.identifier.brackets_are_escaped.Given as goal

abbrev pub invariant-loop-byte : goal.invariant-loop-byte
invariant-loop-byte l = brackets_are_escaped false l.name ≡ brackets_are_escaped l.taken (drop l.byte-index l.name)
