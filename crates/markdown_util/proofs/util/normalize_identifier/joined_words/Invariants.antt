use Rattle.std.proofs.Common.{◌≡◌, ◌==◌, ◌++◌, drop, length, string_bytes, string_len}
use Rattle.std.specs.Str.{chars, encode_utf8_all}
use Rattle.markdown_util.specs.Identifier.{joined_words}
use Rattle.markdown_util.proofs.JoinedWords.{to_come}
use Rattle.markdown_util.proofs.util.normalize_identifier.joined_words.Given as goal

-- what is joined so far, and what the characters still to come add
abbrev pub invariant-loop-c : goal.invariant-loop-c
invariant-loop-c l =
    string_bytes l.joined ++ encode_utf8_all (to_come (string_len l.joined == 0) l.pending (drop (length l.yielded) (chars l.value)))
    ≡ encode_utf8_all (joined_words (chars l.value))
