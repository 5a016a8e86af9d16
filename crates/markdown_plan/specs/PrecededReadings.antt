-- What stands before the codes that a reading gives.
use Rattle.std.specs.Prelude.{List, ◌++◌, Option, Some, None}
use Rattle.markdown_content.specs.Codes.{Code}

-- these codes, and then those of a reading
abbrev pub after : List Code → Option (List Code × List Code) → Option (List Code × List Code)
after front None = None
after front (Some r) = Some (front ++ r.0, r.1)
