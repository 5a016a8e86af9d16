-- Email literals in a stretch: what an `@` needs to know of the codes before it, and what it makes of those behind it.
use Rattle.std.specs.Prelude.{ℕ, ◌+◌, ◌==◌, Bool, true, false, ◌&&◌, ◌||◌, not, List, [], ◌∷◌, ◌++◌, reverse, Option, Some, None, if◌then◌else◌, codes}
use Rattle.std.specs.Str.{byte}
use Rattle.std.specs.List.{list_any}
use Rattle.std.specs.Option.{option_map}
use Rattle.markdown_plan.specs.ByteTests.{letter_value, alphanumeric_value, among_values}
use Rattle.markdown_content.specs.Codes.{Code, stop_of}
use Rattle.markdown_engine.specs.PastTree.{appended_from}
use Rattle.markdown_event.specs.declared.event.Event.{Event}
use Rattle.markdown_event.specs.declared.event.Name.{Name}
use Rattle.markdown_event.specs.declared.event.Name.TheVariants as N
use Rattle.markdown_event.specs.declared.event.Point.{Point}
use Rattle.markdown_model.specs.CodeTests.{is_value, is_empty, next_is, is_alphanumeric}
use Rattle.markdown_model.specs.GfmEmailLiteral.{is_local, is_word, email_protocol, is_xmpp, email_domain, is_email_domain, with_emails}
use Rattle.markdown_model.specs.Grammar.{span}
use Rattle.markdown_model.specs.GfmAutolinkLiteral.{letters}
use Rattle.markdown_passes.specs.TrimmedData.{between, leaf_events}
use Rattle.markdown_passes.specs.declared.literal.Scan.{Scan}
use Rattle.markdown_passes.specs.declared.literal.Literal.{Literal}

-- an `@` stands between the two places
unfoldable pub has_sign : List ℕ → Point → Point → Bool
has_sign bytes from to = list_any (is_value (byte "@")) (between bytes from to)

-- Tests on the value of a code, as those of codes.

abbrev pub local_value : ℕ → Bool
local_value v = alphanumeric_value v || among_values (codes "+-._") v

-- the letter, which is lower case, in either case
abbrev pub is_letter_of : ℕ → ℕ → Bool
is_letter_of letter v = v == letter || (letter_value v && v + 32 == letter)

-- these codes are the word, in either case
unfoldable pub is_word_of : List ℕ → List Code → Bool
is_word_of word cs = elim (letters word cs) [ None ↦ false | Some r ↦ is_empty r.1 ]

-- the name of a literal whose local part stands after these codes and a colon
unfoldable pub word_name : List Code → Name
word_name cs = if is_word "mailto" cs then N.GfmAutolinkLiteralMailto else (if is_word "xmpp" cs then N.GfmAutolinkLiteralXmpp else N.GfmAutolinkLiteralEmail)

-- a literal without a protocol
abbrev pub is_email : Name → Bool
is_email N.GfmAutolinkLiteralEmail = true
is_email _ = false

-- Past the codes of a data that begins here, last one first: the letters and digits right before, whether a local part stands there,
-- whether a `/` stands before that, and the name and the start of its literal.
unfoldable pub scan_of : Point → Point → List Code → Scan
scan_of from point before =
    let local = span is_local before in
    let protocol = email_protocol local.1 in
    record {
      from = from;
      point = point;
      word = stop_of from (reverse (span is_alphanumeric before).1);
      local = not (is_empty local.0);
      after_slash = next_is (is_value (byte "/")) local.1;
      name = protocol.0;
      start = stop_of from (reverse protocol.2);
    }

-- so far in the data that begins here
unfoldable pub scan_at : List ℕ → Point → Point → Scan
scan_at bytes from point = scan_of from point (reverse (between bytes from point))

-- a code of a domain, of which this is said: slashes may stand in it, and a letter or digit follows
abbrev pub domain_value : Bool → Bool → ℕ → Bool
domain_value slashes follows v = (alphanumeric_value v || among_values (codes "-_") v) || ((slashes && v == byte "/") || (v == byte "." && follows))

-- the first of these codes belongs to a domain
abbrev pub passes : Bool → List Code → Bool
passes slashes [] = false
passes slashes (c ∷ cs) = domain_value slashes (next_is is_alphanumeric cs) c.value

-- where the domain ends that these codes begin with; none where it is none of an email
unfoldable pub domain_end : Bool → Point → List Code → Option Point
domain_end slashes from cs = if is_email_domain (email_domain slashes cs).0 then Some (stop_of from (email_domain slashes cs).0) else None

-- an `@` with a local part before it that stands after no `/`
abbrev pub is_sign : Scan → ℕ → Bool
is_sign scan v = v == byte "@" && (scan.local && not scan.after_slash)

abbrev pub literal_to : Scan → Point → Literal
literal_to scan end = record { name = scan.name; start = scan.start; end = end }

-- the literal whose `@` is the first of these codes
unfoldable pub literal_here : Scan → List Code → Option Literal
literal_here scan [] = None
literal_here scan (c ∷ cs) =
    if is_sign scan c.value
    then option_map (literal_to scan) (domain_end (is_xmpp scan.name) c.stop cs)
    else None

-- the events of a literal and of the data before it
unfoldable pub literal_events : Point → Literal → List Event
literal_events from l = leaf_events N.Data from l.start ++ leaf_events l.name l.start l.end

-- the events of data from one place to another, with its literals
unfoldable pub mail_events : List ℕ → Point → Point → List Event
mail_events bytes from to = appended_from 0 None (with_emails (between bytes from to))
