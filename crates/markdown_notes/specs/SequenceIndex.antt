-- Sequences of codes without which constructs do not stand, and where the last one of each begins.
use Rattle.std.specs.Prelude.{◌≡◌, ℕ, ◌-◌, Bool, true, false, ◌&&◌, ◌||◌, ◌==◌, not, if◌then◌else◌, List, [], ◌∷◌, Option, Some, None, codes}
use Rattle.std.specs.Str.{byte}
use Rattle.markdown_content.specs.Codes.{Code}
use Rattle.markdown_content.specs.Place.{Place, ahead_at, code_before}
use Rattle.markdown_notes.specs.RunIndex.{later_or, begins_before}
use Rattle.markdown_notes.specs.declared.sequence_index.LastBegins.{LastBegins}
use Rattle.markdown_notes.specs.declared.sequence_index.Sequence.{Sequence}
use Rattle.markdown_notes.specs.declared.sequence_index.Sequence.TheVariants.{CommentEnd, SectionEnd, InstructionEnd, DeclarationEnd, ResourceEnd, WwwDot, SpanMark}

-- codes of these values come next, one after another
abbrev pub stand_next : List ℕ → List Code → Bool
stand_next [] cs = true
stand_next (v ∷ vs) [] = false
stand_next (v ∷ vs) (c ∷ cs) = c.value == v && stand_next vs cs

-- a space, a tab or a line ending
abbrev pub is_spacing : ℕ → Bool
is_spacing v = v == byte " " || (v == byte "\t" || v == byte "\n")

-- a closing parenthesis comes next, past whitespace
abbrev pub closes_past_spacing : List Code → Bool
closes_past_spacing [] = false
closes_past_spacing (c ∷ cs) = if is_spacing c.value then closes_past_spacing cs else c.value == byte ")"

-- a closing parenthesis comes next, and another one behind it, past whitespace
abbrev pub closes_twice : List Code → Bool
closes_twice [] = false
closes_twice (c ∷ cs) = c.value == byte ")" && closes_past_spacing cs

-- a `w`, in either case
abbrev pub is_w : ℕ → Bool
is_w v = v == byte "w" || v == byte "W"

-- a `w` comes next, and a dot behind it
abbrev pub dots_behind_w : List Code → Bool
dots_behind_w [] = false
dots_behind_w (c ∷ cs) = is_w c.value && stand_next (codes ".") cs

-- a mark of a span comes next
abbrev pub marks_span : List Code → Bool
marks_span cs = stand_next (codes "`") cs || stand_next (codes "$") cs

-- the sequence begins with the first of these codes
abbrev pub begins_at : Sequence → List Code → Bool
begins_at CommentEnd = stand_next (codes "-->")
begins_at SectionEnd = stand_next (codes "]]>")
begins_at InstructionEnd = stand_next (codes "?>")
begins_at DeclarationEnd = stand_next (codes ">")
begins_at ResourceEnd = closes_twice
begins_at WwwDot = dots_behind_w
begins_at SpanMark = marks_span

-- the values of which it is one that its first code has
abbrev pub first_bytes : Sequence → ℕ × ℕ
first_bytes CommentEnd = (byte "-", byte "-")
first_bytes SectionEnd = (byte "]", byte "]")
first_bytes InstructionEnd = (byte "?", byte "?")
first_bytes DeclarationEnd = (byte ">", byte ">")
first_bytes ResourceEnd = (byte ")", byte ")")
first_bytes WwwDot = (byte "w", byte "W")
first_bytes SpanMark = (byte "`", byte "$")

-- how many codes stand before the last code from which on the codes pass
abbrev pub last_where : (List Code → Bool) → List Code → Option ℕ
last_where p [] = None
last_where p (c ∷ cs) = later_or (last_where p cs) (p (c ∷ cs))

-- A walk that looks for the sequences stops at their first codes, but for `w.`, which it finds at its dot: `w` is too frequent.
abbrev pub stop_bytes : List ℕ
stop_bytes = codes "-]?>).`$"

-- the code before is a `w`
abbrev pub is_behind_w : Option ℕ → Bool
is_behind_w None = false
is_behind_w (Some v) = is_w v

-- the walk finds the sequence at this place
abbrev pub shows_at : Sequence → Place → Bool
shows_at CommentEnd p = begins_at CommentEnd (ahead_at p)
shows_at SectionEnd p = begins_at SectionEnd (ahead_at p)
shows_at InstructionEnd p = begins_at InstructionEnd (ahead_at p)
shows_at DeclarationEnd p = begins_at DeclarationEnd (ahead_at p)
shows_at ResourceEnd p = begins_at ResourceEnd (ahead_at p)
shows_at WwwDot p = is_behind_w (code_before p) && stand_next (codes ".") (ahead_at p)
shows_at SpanMark p = begins_at SpanMark (ahead_at p)

-- where a sequence begins that is found after so many codes
abbrev pub begun_at : Sequence → ℕ → ℕ
begun_at CommentEnd at = at
begun_at SectionEnd at = at
begun_at InstructionEnd at = at
begun_at DeclarationEnd at = at
begun_at ResourceEnd at = at
begun_at WwwDot at = at - 1
begun_at SpanMark at = at

-- what is held of a sequence
abbrev pub last_in : LastBegins → Sequence → Option ℕ
last_in last CommentEnd = last.comment_end
last_in last SectionEnd = last.section_end
last_in last InstructionEnd = last.instruction_end
last_in last DeclarationEnd = last.declaration_end
last_in last ResourceEnd = last.resource_end
last_in last WwwDot = last.www_dot
last_in last SpanMark = last.span_mark

-- where the last of each sequence begins
abbrev pub last_begins : List Code → LastBegins
last_begins cs = record {
  comment_end = last_where (begins_at CommentEnd) cs;
  section_end = last_where (begins_at SectionEnd) cs;
  instruction_end = last_where (begins_at InstructionEnd) cs;
  declaration_end = last_where (begins_at DeclarationEnd) cs;
  resource_end = last_where (begins_at ResourceEnd) cs;
  www_dot = last_where (begins_at WwwDot) cs;
  span_mark = last_where (begins_at SpanMark) cs;
}

-- it is known that the sequence does not begin after so many codes; nothing is known of `None`
abbrev pub rules_out : Option LastBegins → Sequence → ℕ → Bool
rules_out None sequence at = false
rules_out (Some last) sequence at = begins_before at (last_in last sequence)

-- the sequence begins somewhere in these codes
abbrev pub holds : Sequence → List Code → Bool
holds sequence cs = not (rules_out (Some (last_begins cs)) sequence 0)

-- what is known, if anything, is right for these codes
abbrev pub KnowsLastBegins : List Code → Option LastBegins → Type 0
KnowsLastBegins cs index = (last : LastBegins) → index ≡ Some last → last ≡ last_begins cs
