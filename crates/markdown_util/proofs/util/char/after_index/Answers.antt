use Rattle.std.proofs.Common.{◌-◌, length, drop, arith}
use Rattle.std.proofs.lemmas.Str.{IsUtf8-drop}
use Rattle.std.proofs.lemmas.List.{take_all, length-drop}
use Rattle.markdown_util.proofs.util.char.after_index.Goals as goal

pub from_utf8_unchecked-rest-requires : goal.from_utf8_unchecked-rest-requires
from_utf8_unchecked-rest-requires c =
    let bytes = c.args.bytes.now in
    let index = c.args.index in
    rw (take_all (length bytes - index) (drop index bytes) (omega (arith, length-drop index bytes)))
    (IsUtf8-drop bytes index c.requires.utf8 c.requires.boundary)
