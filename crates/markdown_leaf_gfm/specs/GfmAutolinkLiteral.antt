-- What the states of autolink literals do, and how runs from them end.
use Rattle.std.specs.Prelude.{◌≡◌, ◌<◌, ◌≤◌, ◌+◌, ℕ, Bool, true, false, ◌&&◌, ◌||◌, not, ◌-◌, ◌==◌, nat_lt, if◌then◌else◌, Option, Some, None, is_some, List, [], ◌∷◌, ◌++◌, drop, length, codes, IsUtf8}
use Rattle.std.specs.Str.{IsCharBoundary, byte}
use Rattle.std.specs.List.{list_all, list_any, slice_range}
use Rattle.markdown_content.specs.Codes.{Code}
use Rattle.markdown_engine.specs.FailedRun.{Grown}
use Rattle.markdown_engine.specs.Operations.{Op, Enter, Exit, Consume, HasCode, ahead, attempted, done, current_of, previous_of, scratched, IsOpen}
use Rattle.markdown_engine.specs.PastTree.{EndsAs, TreeReading}
use Rattle.markdown_content.specs.Place.{point_of, last_of}
use Rattle.markdown_engine.specs.StateRuns.{Stepped, stepped}
use Rattle.markdown_engine.specs.TreeOps.{consumes}
use Rattle.markdown_engine.specs.Weights.{codes_left}
use Rattle.markdown_model.specs.CodeTests.{is_empty, next_is, is_whitespace_code, is_among, is_between}
use Rattle.markdown_model.specs.Grammar.{Reading, ◌then_◌}
use Rattle.markdown_model.specs.GfmAutolinkLiteral.{schemes, first_letters, letters, one_word_of, is_other, is_space, domain, domain_from, path, path_from, count_if}
use Rattle.markdown_leaf_gfm.specs.Trails.{trails_in}
use Rattle.markdown_model.specs.SingleConstructs as SingleConstructs
use Rattle.markdown_util.specs.Neighbours.{class_of, after_index}
use Rattle.markdown_util.specs.declared.util.char.Kind.{Kind}
use Rattle.markdown_plan.specs.ByteTests.{letter_value, among_values}
use Rattle.markdown_plan.specs.Characters.{bytes_of, later_value, at_later, ReadsText}
use Rattle.markdown_plan.specs.Plan.{Plan, preceded, DoesAs}
use Rattle.markdown_partial.specs.PartialSpaceOrTab.{most}
use Rattle.markdown_leaf_gfm.specs.DomainOutlook.{rules_out, KnowsNoDomains}
use Rattle.markdown_event.specs.declared.event.Name.{Name}
use Rattle.markdown_event.specs.declared.event.Name.TheVariants as N
use Rattle.markdown_event.specs.declared.state.State.TheVariants.{Next, Retry, Nok}
use Rattle.markdown_event.specs.declared.state.State.TheVariants as State
use Rattle.markdown_event.specs.declared.state.StateName.{StateName}
use Rattle.markdown_event.specs.declared.state.StateName.TheVariants.{GfmAutolinkLiteralDomainAfter, GfmAutolinkLiteralDomainAtPunctuation, GfmAutolinkLiteralDomainInside, GfmAutolinkLiteralPathAfter, GfmAutolinkLiteralPathAtPunctuation, GfmAutolinkLiteralPathInside, GfmAutolinkLiteralProtocolAfter, GfmAutolinkLiteralProtocolPrefixInside, GfmAutolinkLiteralProtocolSlashesInside}
use Rattle.markdown_event.specs.declared.state.StateName.TheVariants.{GfmAutolinkLiteralTrail, GfmAutolinkLiteralTrailBracketAfter, GfmAutolinkLiteralTrailCharRefInside, GfmAutolinkLiteralTrailCharRefStart, GfmAutolinkLiteralWwwAfter, GfmAutolinkLiteralWwwPrefixAfter, GfmAutolinkLiteralWwwPrefixInside, GfmAutolinkLiteralProtocolStart, GfmAutolinkLiteralWwwStart}
use Rattle.markdown_engine.specs.declared.tokenizer.TokenizeState.{TokenizeState}
use Rattle.markdown_engine.specs.declared.tokenizer.Tokenizer.{Tokenizer}
use Rattle.markdown_engine.specs.StateWords.{StateWords}

-- What is looked at.

-- the index where the content ends
abbrev pub end_of : Tokenizer → ℕ
end_of T = T.cursor.end.index

-- the class of the document's character at the place
abbrev pub kind_here : Tokenizer → Kind
kind_here T = class_of (after_index (bytes_of T) (point_of T.cursor).index)

-- Words of letters. The code at hand is known by its value.

-- a letter that is given in lower case, in either case
abbrev pub stands_for : ℕ → ℕ → Bool
stands_for letter v = v == letter || (letter_value v && v + 32 == letter)

abbrev pub begins_scheme : ℕ → Bool
begins_scheme v = list_any (λ n. v == n) (first_letters schemes)

-- what is left of the word behind this name, if it begins so
abbrev pub behind_name : List ℕ → List ℕ → Option (List ℕ)
behind_name [] word = Some word
behind_name (v ∷ vs) [] = None
behind_name (v ∷ vs) (letter ∷ rest) = if stands_for letter v then behind_name vs rest else None

abbrev pub some_before : Option (List ℕ) → List (List ℕ) → List (List ℕ)
some_before None words = words
some_before (Some word) words = word ∷ words

-- what is left so of each of these words
abbrev pub words_behind : List ℕ → List (List ℕ) → List (List ℕ)
words_behind vs [] = []
words_behind vs (word ∷ words) = some_before (behind_name vs word) (words_behind vs words)

-- the word has this name before its colon
abbrev pub is_named : List ℕ → List ℕ → Bool
is_named vs [] = false
is_named [] (n ∷ ns) = n == byte ":"
is_named (v ∷ vs) (n ∷ ns) = stands_for n v && is_named vs ns

-- one of these words has it
abbrev pub one_named : List (List ℕ) → List ℕ → Bool
one_named words vs = list_any (is_named vs) words

-- the codes of a word before its colon
abbrev pub name_size : List ℕ → ℕ
name_size [] = 0
name_size (n ∷ ns) = if n == byte ":" then 0 else name_size ns + 1

-- most of them in one of these words
abbrev pub longest : List (List ℕ) → ℕ
longest [] = 0
longest (word ∷ words) = if nat_lt (longest words) (name_size word) then name_size word else longest words

-- Schemes: lower-case letters, and `://`.

abbrev pub is_slashes : List ℕ → Bool
is_slashes (n ∷ m ∷ []) = (n == byte "/") && (m == byte "/")
is_slashes _ = false

abbrev pub is_scheme : List ℕ → Bool
is_scheme [] = false
is_scheme (n ∷ ns) = if n == byte ":" then is_slashes ns else is_between (byte "a") (byte "z") n && is_scheme ns

abbrev pub are_schemes : List (List ℕ) → Bool
are_schemes [] = true
are_schemes (word ∷ words) = is_scheme word && are_schemes words

-- trailing punctuation that is one code
abbrev pub trail_value : ℕ → Bool
trail_value v = among_values (codes "!\"'),*.:;?_~") v

-- a code at which a path may end
abbrev pub mark_value : ℕ → Bool
mark_value v = among_values (codes "!\"&'),*.:;<?]_~") v

-- a `.` or a `_` is at hand: a domain may end there
abbrev pub at_domain_mark : Option ℕ → Bool
at_domain_mark None = false
at_domain_mark (Some v) = among_values (codes "._") v

-- The scratch fields: the codes of a word passed, or the parentheses opened and closed; the last part of a domain and the one
-- before hold `_`; a character of class other was seen. In a path the marker says what is known of trails: by `.` none begins here,
-- by `&` none goes on here behind a `&`, by `a` none goes on here behind a `&` and letters; by 0 nothing is known.

-- what is known behind this code, where so much was known before it
abbrev pub known_after : ℕ → ℕ → ℕ
known_after known v =
    if (known == byte ".") && (v == byte "&") then byte "&"
    else (if (known == byte ".") && (trail_value v || v == byte "]") then byte "."
    else (if (known == byte "&" || known == byte "a") && letter_value v then byte "a"
    else (if (known == byte "a") && (v == byte ";") then byte "." else 0)))

-- this code is known to begin no trail
abbrev pub is_known : ℕ → ℕ → Bool
is_known known v = known == byte "." || ((known == byte "a") && (v == byte ";"))

-- one more where this is the code that is counted
abbrev pub count_value : ℕ → ℕ → ℕ → ℕ
count_value n v k = elim (v == n) [ true ↦ k + 1 | false ↦ k ]

abbrev pub rested : TokenizeState → TokenizeState
rested s = record s { start = 0; marker = 0; marker_b = 0; size = 0; size_b = 0; seen = false }

abbrev pub sized : ℕ → TokenizeState → TokenizeState
sized n s = record s { size = n }

-- a literal with a protocol begins at this index
abbrev pub started : ℕ → TokenizeState → TokenizeState
started i s = record s { start = i }

-- behind the name of its protocol
abbrev pub named : TokenizeState → TokenizeState
named s = record s { start = 0 }

abbrev pub saw : TokenizeState → TokenizeState
saw s = record s { seen = true }

abbrev pub underscored : TokenizeState → TokenizeState
underscored s = record s { marker = byte "_" }

abbrev pub dotted : TokenizeState → TokenizeState
dotted s = record s { marker = 0; marker_b = s.marker }

-- the fields after a `.` or a `_` of a domain
abbrev pub marked : Option ℕ → TokenizeState → TokenizeState
marked None s = dotted s
marked (Some v) s = if v == byte "_" then underscored s else dotted s

abbrev pub domain_rested : TokenizeState → TokenizeState
domain_rested s = record s { marker = 0; marker_b = 0; seen = false }

-- the fields after a code of a path, where so much was known before it
abbrev pub path_passed : ℕ → ℕ → TokenizeState → TokenizeState
path_passed known v s =
    record s { marker = known_after known v; size = count_value (byte "(") v s.size; size_b = count_value (byte ")") v s.size_b }

-- The states.

abbrev pub is_on : Tokenizer → Bool
is_on T = T.parse_state.now.options.now.constructs.gfm_autolink_literal

abbrev pub refused : Tokenizer → Stepped
refused T = stepped Nok (scratched (rested T.tokenize_state) T)

abbrev pub is_letter_before : Option ℕ → Bool
is_letter_before None = false
is_letter_before (Some v) = letter_value v

abbrev pub may_begin : Tokenizer → Bool
may_begin T = is_on T && not (is_letter_before (previous_of T))

abbrev pub entered_literal : Name → Tokenizer → Tokenizer
entered_literal name T = done (Enter name ∷ []) T

-- the literal is entered, and its start noted
abbrev pub protocol_entered : Tokenizer → Tokenizer
protocol_entered T = scratched (started (point_of T.cursor).index T.tokenize_state) (entered_literal N.GfmAutolinkLiteralProtocol T)

-- the protocol is attempted, and then the address
abbrev pub protocol_opened : Tokenizer → Tokenizer
protocol_opened T =
    attempted false (Next GfmAutolinkLiteralDomainInside) Nok (attempted false (Next GfmAutolinkLiteralProtocolAfter) Nok (protocol_entered T))

abbrev pub protocol_start_at : Bool → Option ℕ → Tokenizer → Stepped
protocol_start_at may None T = stepped Nok T
protocol_start_at may (Some c) T =
    if may && begins_scheme c then stepped (Retry GfmAutolinkLiteralProtocolPrefixInside) (protocol_opened T) else stepped Nok T

abbrev pub protocol_start_step : Tokenizer → Stepped
protocol_start_step T = protocol_start_at (may_begin T) (current_of T) T

abbrev pub protocol_after_step : Tokenizer → Stepped
protocol_after_step T = stepped State.Ok (done (Exit N.GfmAutolinkLiteralProtocol ∷ []) T)

-- the bytes from the start of a literal on
abbrev pub name_of : Tokenizer → List ℕ
name_of T = slice_range (bytes_of T) T.tokenize_state.start (point_of T.cursor).index

-- so many of them that a name of a scheme may go on
abbrev pub is_short_name : Tokenizer → Bool
is_short_name T = nat_lt ((point_of T.cursor).index - T.tokenize_state.start) (longest schemes)

abbrev pub unnamed : Tokenizer → Stepped
unnamed T = stepped Nok (scratched (named T.tokenize_state) T)

abbrev pub prefix_at : Option ℕ → Tokenizer → Stepped
prefix_at None T = unnamed T
prefix_at (Some c) T =
    if letter_value c && is_short_name T then stepped (Next GfmAutolinkLiteralProtocolPrefixInside) (done (Consume ∷ []) T)
    else (if (c == byte ":") && one_named schemes (name_of T)
    then stepped (Next GfmAutolinkLiteralProtocolSlashesInside) (scratched (named T.tokenize_state) (done (Consume ∷ []) T))
    else unnamed T)

abbrev pub prefix_step : Tokenizer → Stepped
prefix_step T = prefix_at (current_of T) T

abbrev pub slashes_at : Option ℕ → Tokenizer → Stepped
slashes_at None T = refused T
slashes_at (Some c) T =
    let s = T.tokenize_state in
    if c == byte "/"
    then (if s.size == 0
    then stepped (Next GfmAutolinkLiteralProtocolSlashesInside) (scratched (sized 1 s) (done (Consume ∷ []) T))
    else stepped State.Ok (scratched (sized 0 s) (done (Consume ∷ []) T)))
    else refused T

abbrev pub slashes_step : Tokenizer → Stepped
slashes_step T = slashes_at (current_of T) T

-- the trail is looked at
abbrev pub looked : StateName → StateName → Tokenizer → Stepped
looked held failed T = stepped (Retry GfmAutolinkLiteralTrail) (attempted true (Next held) (Next failed) T)

abbrev pub domain_at : Option ℕ → Tokenizer → Stepped
domain_at None T = stepped (Retry GfmAutolinkLiteralDomainAfter) T
domain_at (Some c) T =
    if among_values (codes "._") c then looked GfmAutolinkLiteralDomainAfter GfmAutolinkLiteralDomainAtPunctuation T
    else (if c == byte "-" then stepped (Next GfmAutolinkLiteralDomainInside) (done (Consume ∷ []) T)
    else (if later_value c || is_other (kind_here T)
    then stepped (Next GfmAutolinkLiteralDomainInside) (scratched (saw T.tokenize_state) (done (Consume ∷ []) T))
    else stepped (Retry GfmAutolinkLiteralDomainAfter) T))

abbrev pub domain_step : Tokenizer → Stepped
domain_step T = domain_at (current_of T) T

-- behind a mark that does not trail the next mark does not either
abbrev pub domain_on : Tokenizer → StateName
domain_on T = if at_domain_mark (current_of T) then GfmAutolinkLiteralDomainAtPunctuation else GfmAutolinkLiteralDomainInside

abbrev pub domain_punctuation_step : Tokenizer → Stepped
domain_punctuation_step T =
    let V = scratched (marked (current_of T) T.tokenize_state) (done (Consume ∷ []) T) in
    stepped (Next (domain_on V)) V

-- a domain with these fields is one
abbrev pub is_well : TokenizeState → Bool
is_well s = s.seen && (not (s.marker == byte "_") && not (s.marker_b == byte "_"))

abbrev pub domain_after_step : Tokenizer → Stepped
domain_after_step T =
    if is_well T.tokenize_state then stepped (Retry GfmAutolinkLiteralPathInside) (scratched (domain_rested T.tokenize_state) T) else refused T

-- the path goes on behind this code
abbrev pub passing : ℕ → ℕ → Tokenizer → Stepped
passing known v T = stepped (Next GfmAutolinkLiteralPathInside) (scratched (path_passed known v T.tokenize_state) (done (Consume ∷ []) T))

-- whitespace
abbrev pub is_space_at : ℕ → Tokenizer → Bool
is_space_at v T = not (later_value v) && is_space (kind_here T)

-- a mark that closes no parenthesis of the path
abbrev pub is_open_mark : ℕ → TokenizeState → Bool
is_open_mark v s = mark_value v && not ((v == byte ")") && nat_lt s.size_b s.size)

abbrev pub path_at : Option ℕ → Tokenizer → Stepped
path_at None T = stepped (Retry GfmAutolinkLiteralPathAfter) T
path_at (Some c) T =
    let s = T.tokenize_state in
    if is_space_at c T then stepped (Retry GfmAutolinkLiteralPathAfter) T
    else (if is_open_mark c s && not (is_known s.marker c)
    then looked GfmAutolinkLiteralPathAfter GfmAutolinkLiteralPathAtPunctuation T
    else passing s.marker c T)

abbrev pub path_step : Tokenizer → Stepped
path_step T = path_at (current_of T) T

abbrev pub path_punctuation_at : Option ℕ → Tokenizer → Stepped
path_punctuation_at None T = stepped (Retry GfmAutolinkLiteralPathInside) T
path_punctuation_at (Some c) T = passing (byte ".") c T

abbrev pub path_punctuation_step : Tokenizer → Stepped
path_punctuation_step T = path_punctuation_at (current_of T) T

abbrev pub path_after_step : Tokenizer → Stepped
path_after_step T = stepped State.Ok (scratched (rested T.tokenize_state) T)

abbrev pub ended : Bool → Tokenizer → Stepped
ended b T = if b then stepped State.Ok T else stepped Nok T

abbrev pub trail_at : Option ℕ → Tokenizer → Stepped
trail_at None T = ended (is_space (kind_here T)) T
trail_at (Some c) T =
    if trail_value c then stepped (Next GfmAutolinkLiteralTrail) (done (Consume ∷ []) T)
    else (if c == byte "&" then stepped (Next GfmAutolinkLiteralTrailCharRefStart) (done (Consume ∷ []) T)
    else (if c == byte "<" then stepped State.Ok T
    else (if c == byte "]" then stepped (Next GfmAutolinkLiteralTrailBracketAfter) (done (Consume ∷ []) T)
    else ended (is_space (kind_here T)) T)))

abbrev pub trail_step : Tokenizer → Stepped
trail_step T = trail_at (current_of T) T

-- after a closing bracket whitespace, the end, or what begins a resource or a reference
abbrev pub ends_bracket : Option ℕ → Bool
ends_bracket None = true
ends_bracket (Some c) = ((c == byte " " || c == byte "\t") || c == byte "\n") || among_values (codes "([") c

abbrev pub bracket_after_step : Tokenizer → Stepped
bracket_after_step T = if ends_bracket (current_of T) then stepped State.Ok T else stepped (Retry GfmAutolinkLiteralTrail) T

abbrev pub reference_start_at : Option ℕ → Tokenizer → Stepped
reference_start_at None T = stepped Nok T
reference_start_at (Some c) T = if letter_value c then stepped (Retry GfmAutolinkLiteralTrailCharRefInside) T else stepped Nok T

abbrev pub reference_start_step : Tokenizer → Stepped
reference_start_step T = reference_start_at (current_of T) T

abbrev pub reference_at : Option ℕ → Tokenizer → Stepped
reference_at None T = stepped Nok T
reference_at (Some c) T =
    if letter_value c then stepped (Next GfmAutolinkLiteralTrailCharRefInside) (done (Consume ∷ []) T)
    else (if c == byte ";" then stepped (Next GfmAutolinkLiteralTrail) (done (Consume ∷ []) T) else stepped Nok T)

abbrev pub reference_step : Tokenizer → Stepped
reference_step T = reference_at (current_of T) T

-- whitespace and some punctuation may stand before `www.`
abbrev pub precedes_www : Option ℕ → Bool
precedes_www None = true
precedes_www (Some v) = ((v == byte " " || v == byte "\t") || v == byte "\n") || among_values (codes "(*_[]~") v

-- the code of this number of `www.`, the letters in either case
abbrev pub www_letter : ℕ → ℕ → Bool
www_letter n v = if nat_lt n 3 then v == byte "w" || v == byte "W" else ((n == 3) && (v == byte "."))

abbrev pub may_begin_www : Tokenizer → Bool
may_begin_www T = is_on T && precedes_www (previous_of T)

-- the literal is entered, and the word is looked at
abbrev pub www_opened : Tokenizer → Tokenizer
www_opened T =
    attempted true (Next GfmAutolinkLiteralDomainInside) Nok (attempted false (Next GfmAutolinkLiteralWwwAfter) Nok (entered_literal N.GfmAutolinkLiteralWww T))

abbrev pub www_start_at : Bool → Option ℕ → Tokenizer → Stepped
www_start_at may None T = stepped Nok T
www_start_at may (Some c) T =
    if may && (c == byte "w" || c == byte "W") then stepped (Retry GfmAutolinkLiteralWwwPrefixInside) (www_opened T) else stepped Nok T

abbrev pub www_start_step : Tokenizer → Stepped
www_start_step T = www_start_at (may_begin_www T) (current_of T) T

abbrev pub unworded : Tokenizer → Stepped
unworded T = stepped Nok (scratched (sized 0 T.tokenize_state) T)

abbrev pub www_prefix_at : Option ℕ → Tokenizer → Stepped
www_prefix_at None T = unworded T
www_prefix_at (Some c) T =
    let s = T.tokenize_state in
    if www_letter s.size c
    then (if s.size == 3
    then stepped (Next GfmAutolinkLiteralWwwPrefixAfter) (scratched (sized 0 s) (done (Consume ∷ []) T))
    else stepped (Next GfmAutolinkLiteralWwwPrefixInside) (scratched (sized (s.size + 1) s) (done (Consume ∷ []) T)))
    else unworded T

abbrev pub www_prefix_step : Tokenizer → Stepped
www_prefix_step T = www_prefix_at (current_of T) T

abbrev pub www_prefix_after_step : Tokenizer → Stepped
www_prefix_after_step T = ended (is_some (current_of T)) T

abbrev pub www_after_step : Tokenizer → Stepped
www_after_step T = stepped State.Ok (done (Exit N.GfmAutolinkLiteralWww ∷ []) T)

-- When they may be called.

-- the class of the character at hand may be asked for, unless a later byte is at hand
pub record MayClass (T : Tokenizer) : Type 0 where
  pub text : IsUtf8 (bytes_of T)
  pub begins : at_later (current_of T) ≡ false → IsCharBoundary (bytes_of T) (point_of T.cursor).index

pub record TrailReady (T : Tokenizer) : Type 0 where
  pub class : MayClass T
  pub begins : at_later (current_of T) ≡ false

-- a parenthesis at hand may be counted
pub record MayCount (T : Tokenizer) : Type 0 where
  pub opened : HasCode T → T.tokenize_state.size < most
  pub closed : HasCode T → T.tokenize_state.size_b < most

-- behind the name of a protocol
pub record WordReady (T : Tokenizer) : Type 0 where
  pub text : ReadsText T
  pub fresh : sized 0 T.tokenize_state ≡ rested T.tokenize_state
  pub short : codes_left T ≤ most

-- the bytes from the start of the literal on may be looked at
pub record MayName (T : Tokenizer) : Type 0 where
  pub order : T.tokenize_state.start ≤ (point_of T.cursor).index
  pub within : (point_of T.cursor).index ≤ length (bytes_of T)

-- in the name of a protocol: letters stand from the start of the literal on
pub record ProtocolSchemeReady (T : Tokenizer) : Type 0 where
  pub text : ReadsText T
  pub fresh : named T.tokenize_state ≡ rested T.tokenize_state
  pub short : codes_left T ≤ most
  pub name : MayName T
  pub letters : list_all letter_value (name_of T) ≡ true

-- in a domain or a path: the parentheses that are left may be counted
pub record LiteralReady (T : Tokenizer) : Type 0 where
  pub text : ReadsText T
  pub opened : T.tokenize_state.size + codes_left T ≤ most
  pub closed : T.tokenize_state.size_b + codes_left T ≤ most

-- what is known of trails is so
pub record Knows (bytes : List ℕ) (end known : ℕ) (cs : List Code) : Type 0 where
  pub mark : known ≡ byte "." → trails_in bytes end None cs ≡ false
  pub sign : known ≡ byte "&" → trails_in bytes end (Some false) cs ≡ false
  pub name : known ≡ byte "a" → trails_in bytes end (Some true) cs ≡ false

-- in a path
pub record PathReady (T : Tokenizer) : Type 0 where
  pub literal : LiteralReady T
  pub knows : Knows (bytes_of T) (end_of T) T.tokenize_state.marker (ahead T)

-- at a code of it that begins no trail
pub record CodeReady (T : Tokenizer) : Type 0 where
  pub goes_on : LiteralReady T
  pub code : HasCode T
  pub stays : trails_in (bytes_of T) (end_of T) None (ahead T) ≡ false

-- and this code is a `.` or a `_`
pub record MarkReady (T : Tokenizer) : Type 0 where
  pub here : CodeReady T
  pub mark : at_domain_mark (current_of T) ≡ true

-- in a trail, at no later byte of a character
pub record LookReady (T : Tokenizer) : Type 0 where
  pub text : ReadsText T
  pub begins : at_later (current_of T) ≡ false

-- at the start of a literal
pub record LiteralStartReady (T : Tokenizer) : Type 0 where
  pub text : ReadsText T
  pub resting : rested T.tokenize_state ≡ T.tokenize_state
  pub short : codes_left T ≤ most

-- What rules a literal from `www.` on out before it is tried.

-- what is known of domains is right for the content
abbrev pub KnowsDomains : Tokenizer → Type 0
KnowsDomains T = KnowsNoDomains (bytes_of T) (end_of T) T.cursor.codes T.tokenize_state.no_domains

-- it is known that no domain begins at the place
abbrev pub is_ruled_out : Tokenizer → Bool
is_ruled_out T = rules_out T.tokenize_state.no_domains T.cursor.at

-- How runs end.

-- a run that only looks: it answers this, and has grown nothing that stays
pub record Looks (test : Bool) (T : Tokenizer) (ok : Bool) (U : Tokenizer) : Type 0 where
  pub answer : ok ≡ test
  pub grown : Grown 0 T U
  pub scratch : U.tokenize_state ≡ T.tokenize_state

abbrev pub trail_ends : Tokenizer → Bool → Tokenizer → Type 0
trail_ends T ok U = Looks (trails_in (bytes_of T) (end_of T) None (ahead T)) T ok U

-- a trail, after a closing bracket of it
abbrev pub trails_on : List ℕ → ℕ → List Code → Bool
trails_on bytes end cs =
    (is_empty cs || next_is (λ d. is_whitespace_code d || is_among (codes "([") d) cs) || trails_in bytes end None cs

abbrev pub bracket_after_ends : Tokenizer → Bool → Tokenizer → Type 0
bracket_after_ends T ok U = Looks (trails_on (bytes_of T) (end_of T) (ahead T)) T ok U

abbrev pub reference_start_ends : Tokenizer → Bool → Tokenizer → Type 0
reference_start_ends T ok U = Looks (trails_in (bytes_of T) (end_of T) (Some false) (ahead T)) T ok U

abbrev pub reference_ends : Tokenizer → Bool → Tokenizer → Type 0
reference_ends T ok U = Looks (trails_in (bytes_of T) (end_of T) (Some true) (ahead T)) T ok U

-- the codes of a reading are passed
abbrev pub pass_ops : Option (List Code × List Code) → Option (List Op)
pass_ops None = None
pass_ops (Some r) = Some (consumes r.0)

-- the fields after a code of a domain
abbrev pub passed_code : Code → TokenizeState → TokenizeState
passed_code c s = if c.value == byte "." then dotted s else (if c.value == byte "_" then underscored s else (if c.value == byte "-" then s else saw s))

abbrev pub fields_after : List Code → TokenizeState → TokenizeState
fields_after [] s = s
fields_after (c ∷ cs) s = fields_after cs (passed_code c s)

module _ (bytes : List ℕ) (end : ℕ) where
  -- the rest of a path, with so many parentheses
  abbrev pub path_plan : ℕ → ℕ → Plan
  path_plan opened closed cs = Some (consumes (path_from bytes end opened closed cs).0)

  -- at punctuation of a path
  abbrev pub path_punctuation_plan : ℕ → ℕ → Plan
  path_punctuation_plan opened closed [] = None
  path_punctuation_plan opened closed (c ∷ cs) =
      preceded (Consume ∷ []) (path_plan (count_if (byte "(") c opened) (count_if (byte ")") c closed) cs)

  -- after a domain
  abbrev pub domain_after_plan : TokenizeState → Plan
  domain_after_plan s cs = if is_well s then path_plan s.size s.size_b cs else None

  -- the rest of a domain, and a path
  abbrev pub domain_plan : TokenizeState → Plan
  domain_plan s cs =
      let d = domain_from bytes end cs in
      if is_well (fields_after d.0 s) then Some (consumes d.0 ++ consumes (path_from bytes end s.size s.size_b d.1).0) else None

  abbrev pub address : Reading (List Code)
  address = domain bytes end then_ path bytes end

  -- a scheme, and the address
  abbrev pub protocol_reading : Reading (List Code)
  protocol_reading = one_word_of schemes then_ address

-- the slashes of which so many are passed
abbrev pub slashes_plan : ℕ → Plan
slashes_plan n cs = pass_ops (letters (if n == 0 then codes "//" else codes "/") cs)

-- the rest of a scheme behind this front of it
abbrev pub prefix_plan : List ℕ → Plan
prefix_plan vs cs = pass_ops (one_word_of (words_behind vs schemes) cs)

-- the code before the place
abbrev pub before_of : Tokenizer → Option Code
before_of T = last_of T.cursor.codes T.cursor.at

-- the codes at hand read as a literal with a protocol, where literals are on
abbrev pub protocol_here : Tokenizer → TreeReading
protocol_here T = SingleConstructs.gfm_autolink_literal_protocol_here T.parse_state.now.options.now (bytes_of T) (end_of T) (before_of T)

abbrev pub protocol_start_ends : Tokenizer → Bool → Tokenizer → Type 0
protocol_start_ends T ok U = EndsAs (protocol_here T) None T.tokenize_state T ok U

abbrev pub protocol_after_ends : Tokenizer → Bool → Tokenizer → Type 0
protocol_after_ends T ok U = (ok ≡ true) × (U ≡ done (Exit N.GfmAutolinkLiteralProtocol ∷ []) T)

abbrev pub prefix_ends : Tokenizer → Bool → Tokenizer → Type 0
prefix_ends T ok U = DoesAs 0 (prefix_plan (name_of T)) (rested T.tokenize_state) T ok U

abbrev pub slashes_ends : Tokenizer → Bool → Tokenizer → Type 0
slashes_ends T ok U = DoesAs 0 (slashes_plan T.tokenize_state.size) (rested T.tokenize_state) T ok U

abbrev pub domain_ends : Tokenizer → Bool → Tokenizer → Type 0
domain_ends T ok U = DoesAs 0 (domain_plan (bytes_of T) (end_of T) T.tokenize_state) (rested T.tokenize_state) T ok U

abbrev pub domain_after_ends : Tokenizer → Bool → Tokenizer → Type 0
domain_after_ends T ok U = DoesAs 0 (domain_after_plan (bytes_of T) (end_of T) T.tokenize_state) (rested T.tokenize_state) T ok U

abbrev pub path_ends : Tokenizer → Bool → Tokenizer → Type 0
path_ends T ok U = DoesAs 0 (path_plan (bytes_of T) (end_of T) T.tokenize_state.size T.tokenize_state.size_b) (rested T.tokenize_state) T ok U

abbrev pub path_punctuation_ends : Tokenizer → Bool → Tokenizer → Type 0
path_punctuation_ends T ok U =
    DoesAs 0 (path_punctuation_plan (bytes_of T) (end_of T) T.tokenize_state.size T.tokenize_state.size_b) (rested T.tokenize_state) T ok U

-- it ends here
abbrev pub nothing_more : Plan
nothing_more cs = Some []

abbrev pub path_after_ends : Tokenizer → Bool → Tokenizer → Type 0
path_after_ends T ok U = DoesAs 0 nothing_more (rested T.tokenize_state) T ok U

-- the codes of `www.` that are left stand here, and a code after them
abbrev pub www_test : ℕ → List Code → Bool
www_test n cs = elim (letters (drop n (codes "www.")) cs) [ None ↦ false | Some r ↦ not (is_empty r.1) ]

-- a run that only looks, and puts the count to rest
pub record OnlyLooks (test : Bool) (T : Tokenizer) (ok : Bool) (U : Tokenizer) : Type 0 where
  pub answer : ok ≡ test
  pub grown : Grown 0 T U
  pub scratch : U.tokenize_state ≡ sized 0 T.tokenize_state

-- in `www.`
pub record WwwReady (T : Tokenizer) : Type 0 where
  pub few : T.tokenize_state.size ≤ 3

abbrev pub www_prefix_ends : Tokenizer → Bool → Tokenizer → Type 0
www_prefix_ends T ok U = OnlyLooks (www_test T.tokenize_state.size (ahead T)) T ok U

-- a code stands behind it
abbrev pub www_prefix_after_ends : Tokenizer → Bool → Tokenizer → Type 0
www_prefix_after_ends T ok U = Looks (not (is_empty (ahead T))) T ok U

abbrev pub www_after_ends : Tokenizer → Bool → Tokenizer → Type 0
www_after_ends T ok U = (ok ≡ true) × (U ≡ done (Exit N.GfmAutolinkLiteralWww ∷ []) T)

-- the codes at hand read as a literal from `www.` on, where literals are on
abbrev pub www_here : Tokenizer → TreeReading
www_here T = SingleConstructs.gfm_autolink_literal_www_here T.parse_state.now.options.now (bytes_of T) (end_of T) (before_of T)

abbrev pub www_start_ends : Tokenizer → Bool → Tokenizer → Type 0
www_start_ends T ok U = EndsAs (www_here T) None T.tokenize_state T ok U

-- The states.

abbrev pub protocol_start_words : StateWords
protocol_start_words = record { ready = LiteralStartReady; step = protocol_start_step; ends = protocol_start_ends; rank = λ T. 7 }

abbrev pub prefix_words : StateWords
prefix_words = record { ready = ProtocolSchemeReady; step = prefix_step; ends = prefix_ends; rank = λ T. 1 }

abbrev pub slashes_words : StateWords
slashes_words = record { ready = WordReady; step = slashes_step; ends = slashes_ends; rank = λ T. 1 }

abbrev pub protocol_after_words : StateWords
protocol_after_words = record { ready = IsOpen N.GfmAutolinkLiteralProtocol; step = protocol_after_step; ends = protocol_after_ends; rank = λ T. 1 }

abbrev pub www_start_words : StateWords
www_start_words = record { ready = LiteralStartReady; step = www_start_step; ends = www_start_ends; rank = λ T. 7 }

abbrev pub www_prefix_words : StateWords
www_prefix_words = record { ready = WwwReady; step = www_prefix_step; ends = www_prefix_ends; rank = λ T. 1 }

abbrev pub www_prefix_after_words : StateWords
www_prefix_after_words = record { ready = λ T. Unit {0}; step = www_prefix_after_step; ends = www_prefix_after_ends; rank = λ T. 1 }

abbrev pub www_after_words : StateWords
www_after_words = record { ready = IsOpen N.GfmAutolinkLiteralWww; step = www_after_step; ends = www_after_ends; rank = λ T. 1 }

abbrev pub domain_words : StateWords
domain_words = record { ready = LiteralReady; step = domain_step; ends = domain_ends; rank = λ T. 5 }

abbrev pub domain_punctuation_words : StateWords
domain_punctuation_words = record { ready = MarkReady; step = domain_punctuation_step; ends = domain_ends; rank = λ T. 1 }

abbrev pub domain_after_words : StateWords
domain_after_words = record { ready = LiteralReady; step = domain_after_step; ends = domain_after_ends; rank = λ T. 4 }

abbrev pub path_words : StateWords
path_words = record { ready = PathReady; step = path_step; ends = path_ends; rank = λ T. 3 }

abbrev pub path_punctuation_words : StateWords
path_punctuation_words = record { ready = CodeReady; step = path_punctuation_step; ends = path_punctuation_ends; rank = λ T. 1 }

abbrev pub path_after_words : StateWords
path_after_words = record { ready = λ T. Unit {0}; step = path_after_step; ends = path_after_ends; rank = λ T. 1 }

abbrev pub trail_words : StateWords
trail_words = record { ready = LookReady; step = trail_step; ends = trail_ends; rank = λ T. 1 }

abbrev pub bracket_after_words : StateWords
bracket_after_words = record { ready = LookReady; step = bracket_after_step; ends = bracket_after_ends; rank = λ T. 2 }

abbrev pub reference_start_words : StateWords
reference_start_words = record { ready = ReadsText; step = reference_start_step; ends = reference_start_ends; rank = λ T. 2 }

abbrev pub reference_words : StateWords
reference_words = record { ready = ReadsText; step = reference_step; ends = reference_ends; rank = λ T. 1 }

-- a part of what is said of these states, and of any other as it is given
abbrev pub said {ℓ} : {A : Type ℓ} → (StateWords → A) → (StateName → A) → StateName → A
said part other GfmAutolinkLiteralProtocolStart = part protocol_start_words
said part other GfmAutolinkLiteralProtocolPrefixInside = part prefix_words
said part other GfmAutolinkLiteralProtocolSlashesInside = part slashes_words
said part other GfmAutolinkLiteralProtocolAfter = part protocol_after_words
said part other GfmAutolinkLiteralWwwStart = part www_start_words
said part other GfmAutolinkLiteralWwwPrefixInside = part www_prefix_words
said part other GfmAutolinkLiteralWwwPrefixAfter = part www_prefix_after_words
said part other GfmAutolinkLiteralWwwAfter = part www_after_words
said part other GfmAutolinkLiteralDomainInside = part domain_words
said part other GfmAutolinkLiteralDomainAtPunctuation = part domain_punctuation_words
said part other GfmAutolinkLiteralDomainAfter = part domain_after_words
said part other GfmAutolinkLiteralPathInside = part path_words
said part other GfmAutolinkLiteralPathAtPunctuation = part path_punctuation_words
said part other GfmAutolinkLiteralPathAfter = part path_after_words
said part other GfmAutolinkLiteralTrail = part trail_words
said part other GfmAutolinkLiteralTrailBracketAfter = part bracket_after_words
said part other GfmAutolinkLiteralTrailCharRefStart = part reference_start_words
said part other GfmAutolinkLiteralTrailCharRefInside = part reference_words
said part other s = other s

-- all of it
abbrev pub states : (StateName → StateWords) → StateName → StateWords
states other s = said (λ (w : StateWords). w) other s
