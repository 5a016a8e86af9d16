-- The closing parentheses at which titles may end, and whether a resource may end behind them.
use Rattle.std.specs.Prelude.{◌≡◌, ℕ, suc, nat_lt, Bool, false, ◌&&◌, not, ◌==◌, if◌then◌else◌, List, [], ◌∷◌, Option, Some, None}
use Rattle.std.specs.Str.{byte}
use Rattle.markdown_content.specs.Codes.{Code}
use Rattle.markdown_notes.specs.SequenceIndex.{closes_past_spacing}
use Rattle.markdown_notes.specs.declared.title_index.Closer.{Closer}

-- A backslash escapes a backslash or a closing parenthesis that comes next. So of these two the one is escaped, and the other is not,
-- where `slash` says that a backslash stands before that is not escaped itself.

abbrev pub closes : Bool → ℕ → Bool
closes slash v = v == byte ")" && not slash

abbrev pub escapes : Bool → ℕ → Bool
escapes slash v = v == byte "\\" && not slash

-- the two bytes that a walk has to look at
abbrev pub title_bytes : List ℕ
title_bytes = byte ")" ∷ byte "\\" ∷ []

-- a resource ends behind a title in parentheses of which these codes are the rest: the first closing parenthesis that is not escaped has
-- another one behind it, past whitespace
abbrev pub closes_resource : Bool → List Code → Bool
closes_resource slash [] = false
closes_resource slash (c ∷ cs) = if closes slash c.value then closes_past_spacing cs else closes_resource (escapes slash c.value) cs

-- the closing parentheses that are not escaped, where so many codes stand before
abbrev pub closers_from : ℕ → Bool → List Code → List Closer
closers_from at slash [] = []
closers_from at slash (c ∷ cs) =
    let next = closers_from (suc at) (escapes slash c.value) cs in
    if closes slash c.value then record { at = at; twice = closes_past_spacing cs } ∷ next else next

abbrev pub closers_of : List Code → List Closer
closers_of cs = closers_from 0 false cs

-- the first of these that does not stand before so many codes has another one behind it
abbrev pub first_twice : ℕ → List Closer → Bool
first_twice at [] = false
first_twice at (c ∷ cs) = if nat_lt c.at at then first_twice at cs else c.twice

-- it is known that no resource ends behind a title in parentheses that begins after so many codes; nothing is known of `None`
abbrev pub rules_out : Option (List Closer) → ℕ → Bool
rules_out None at = false
rules_out (Some closers) at = not (first_twice at closers)

-- what is known, if anything, is right for these codes
abbrev pub KnowsClosers : List Code → Option (List Closer) → Type 0
KnowsClosers cs index = (closers : List Closer) → index ≡ Some closers → closers ≡ closers_of cs
