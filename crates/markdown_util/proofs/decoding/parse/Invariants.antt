use Rattle.std.proofs.Common.{◌≡◌, ◌++◌, length, string_bytes}
use Rattle.std.specs.Str.{IsUtf8}
use Rattle.markdown_util.specs.Reference.{html_4_rows, parsed}
use Rattle.markdown_util.proofs.decoding.parse.Given as goal

-- the rest is text, and what is parsed so far makes the whole with what the rest gives
abbrev pub invariant-loop-before : goal.invariant-loop-before
invariant-loop-before l = record {
  utf8 : IsUtf8 l.rest;
  whole : string_bytes l.parsed ++ parsed html_4_rows l.rest ≡ parsed html_4_rows l.value;
}

abbrev pub decreases-loop-before : goal.decreases-loop-before
decreases-loop-before l = length l.rest
