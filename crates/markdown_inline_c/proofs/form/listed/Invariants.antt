use Rattle.std.proofs.Common.{◌≡◌, map, string_bytes, take}
use Rattle.markdown_inline_c.proofs.form.listed.Given as goal

abbrev pub invariant-loop-identifier : goal.invariant-loop-identifier
invariant-loop-identifier l = l.found ≡ map string_bytes (take l.identifier-index l.identifiers)
