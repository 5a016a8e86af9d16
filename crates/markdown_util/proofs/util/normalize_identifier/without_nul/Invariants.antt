use Rattle.std.proofs.Common.{◌≡◌, ◌++◌, chars, encode_utf8_all, map, string_bytes, drop, length}
use Rattle.markdown_util.specs.Identifier.{replaced_nul}
use Rattle.markdown_util.proofs.util.normalize_identifier.without_nul.Given as goal

-- what is read so far, and what is still to come
abbrev pub invariant-loop-c : goal.invariant-loop-c
invariant-loop-c l =
    string_bytes l.text ++ encode_utf8_all (map replaced_nul (drop (length l.yielded) (chars l.value)))
    ≡ encode_utf8_all (map replaced_nul (chars l.value))
