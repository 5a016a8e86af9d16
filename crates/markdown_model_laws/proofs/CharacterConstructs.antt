-- Each leaf that a construct reads begins with a character, and so do the codes behind the construct.
use Rattle.std.proofs.Common.{◌≡◌, ◌≢◌, ◌==◌, ◌+◌, ◌&&◌, ◌||◌, not, nat_lt, ℕ, Bool, true, false, List, [], ◌∷◌, ◌++◌, length, Option, Some, None, refl, sym, subst, arith, ◌⊎◌, inl, inr, rules}
use Rattle.std.specs.Prelude.{codes}
use Rattle.std.specs.Str.{byte}
use Rattle.std.proofs.lemmas.Bool.{and_parts, or_cases}
use Rattle.std.proofs.lemmas.Bool.Decides.{nat_tests}
use Rattle.markdown_event.specs.declared.event.Name.{Name}
use Rattle.markdown_event.specs.declared.event.Name.TheVariants as N
use Rattle.markdown_event.specs.declared.event.Content.{Content}
use Rattle.markdown_content.specs.Codes.{Code, is_blank, is_line_ending}
use Rattle.markdown_content.specs.declared.configuration.Rules.{Rules}
use Rattle.markdown_content.specs.Tree.{Forest, empty, leaf_then, group_then, leaf, linked, ◌⊕◌}
use Rattle.markdown_util.specs.Reference.{Table}
use Rattle.markdown_model.specs.CodeTests.{is_value, is_among, next_is, is_digit, is_hex_digit, is_letter, is_alphanumeric, is_ascii_punctuation, is_whitespace_code, is_later_byte}
use Rattle.markdown_model.specs.Grammar.{Reading, ◌>>◌, provided, one, some, span, word_of, word, up_to_word, through, ◌then_◌, optional_tree}
use Rattle.markdown_model.specs.GfmAutolinkLiteral.{schemes, letters, one_word_of, domain_from, is_domain, domain, ends_path, path_from, path, count_if, gfm_autolink_literal_protocol, www_from_here, gfm_autolink_literal_www, may_precede_www, begins_with_www}
use Rattle.markdown_model.specs.HtmlText.{html_codes, html_text, open_tag, closing_tag, comment, instruction, declaration, cdata}
use Rattle.markdown_model.specs.LabelEnd.{full_reference, collapsed_reference, shortcut, shortcut_before_bracket, reference_after_label, after_label}
use Rattle.markdown_model.specs.Laws.{is_run}
use Rattle.markdown_model.specs.LeafConstructs.{Parts, named_parts, decimal_parts, hexadecimal_parts, reference_tree, character_reference, joined_codes, closing_run, closing, SpanNames, code_names, math_names, span_of, span_here, scheme, is_local_code, uri, email_address, in_angle_brackets, autolink, gfm_task_list_item_check}
use Rattle.markdown_model.specs.Resource.{string_group, StringNames, between_markers, label, title_between, title, title_names, literal_destination, raw_destination, destination, resource_names, spaced_title, destination_and_title, resource, reference_names}
use Rattle.markdown_model.specs.Setting.{Setting}
use Rattle.markdown_model.specs.TextLines.{joins, onto_stretch, stretches, lines_of, linked_leaf, line_leaf, line_leaves, lines_from, lines}
use Rattle.markdown_model.specs.Whitespace.{space_or_tab_eol, spaces_across, spaces_on_line}
use Rattle.markdown_model.proofs.GivenByReadings.{IfGiven, given-any, given-map, given-both, given-then, given-word, given-up-to-word}
use Rattle.markdown_model.proofs.DefinitionSteps.{span-all}
use Rattle.markdown_model.proofs.LeafCodes.{span-append}
use Rattle.markdown_model.proofs.LiteralCodes.{takes_one_word, takes_domain, takes_path}
use Rattle.markdown_model.proofs.NoLinkInConstructs.{PassesValue, Yields, yields_bind, yields_gives, yields_passed, yields_either}
use Rattle.markdown_model.proofs.OneLineReadings.{yields-weaker}
use Rattle.markdown_model.proofs.OneLineLiterals.{IsSomeLineThere, domain-line}
use Rattle.markdown_model.proofs.GrammarSteps.{and-left}
use Rattle.markdown_model.proofs.ReadingsCover.{Splits, At, Takes, itself, takes_any_number, takes_uri, takes_email_address, takes_html_text, takes_up_to, takes_raw, joined_codes-stretches, covers_closing, span_codes}
use Rattle.markdown_model_laws.proofs.CharacterRows.{is_low, low-early, Early, HasNoStrays, ToSound, AllLow, Lows, EndsLow, Starts, lows-all, all-early, early-front, sound-back, sound-front, low-behind, ends-behind, ends-cons, ends-more, lows-ends, all-join, IsLowTest, value-low, among-low}
use Rattle.markdown_model_laws.proofs.CharacterRows.{low-list, one-lows, some-lows, any-low, GoesTo, ReadsFrom, reads_bind, reads_gives, reads_passed, reads_either, reads_before, reads_next, reads_unless, reads_weaker, reads_anywhere, reads_lows, reads_ends, reads_some, reads_starts, reads_one, reads_some_low, reads_any_low}

-- Trees.

abbrev pub IsLead : Name → List Code → Type 0
IsLead name cs = Early cs × ((cs ≢ []) × (is_run name ≡ false))

-- each leaf begins with a character, and none is a run
abbrev pub HasLeads : Forest → Type 0
HasLeads empty = Unit {0}
HasLeads (leaf_then name link cs rest) = IsLead name cs × HasLeads rest
HasLeads (group_then name a b inside rest) = HasLeads inside × HasLeads rest

pub leads-row : (t u : Forest) → HasLeads t → HasLeads u → HasLeads (t ⊕ u)
leads-row empty u h k = k
leads-row (leaf_then name link cs rest) u h k = (h.0, leads-row rest u h.1 k)
leads-row (group_then name a b inside rest) u h k = (h.0, leads-row rest u h.1 k)

pub leads-leaf : (name : Name) (cs : List Code) → is_run name ≡ false → Early cs → HasLeads (leaf name cs)
leads-leaf name [] n h = tt
leads-leaf name (c ∷ cs) n h = ((h, ((λ e. cc), n)), tt)

pub low-leaf : (name : Name) (cs : List Code) → is_run name ≡ false → AllLow cs → HasLeads (leaf name cs)
low-leaf name cs n h = leads-leaf name cs n (all-early cs h)

pub marker-leaf : (name : Name) (cs : List Code) → is_run name ≡ false → Lows cs → HasLeads (leaf name cs)
marker-leaf name cs n h = low-leaf name cs n (lows-all cs h)

leads-linked_leaf : (name : Name) (link : Option Content) (cs : List Code) → is_run name ≡ false → Early cs →
    HasLeads (linked_leaf name link cs)
leads-linked_leaf name link [] n h = tt
leads-linked_leaf name link (c ∷ cs) n h = ((h, ((λ e. cc), n)), tt)

leads-linked : (cs : List Code) → Early cs → HasLeads (linked N.Data cs)
leads-linked [] h = tt
leads-linked (c ∷ cs) h = ((h, ((λ e. cc), refl)), tt)

leads-string : (name : Name) (t : Forest) → HasLeads t → HasLeads (string_group name t)
leads-string name t h = grind arith

-- Stretches.

abbrev EachEarly : List (List Code) → Type 0
EachEarly [] = Unit {0}
EachEarly (s ∷ ss) = Early s × EachEarly ss

abbrev LaterEarly : List (List Code) → Type 0
LaterEarly [] = Unit {0}
LaterEarly (s ∷ ss) = EachEarly ss

-- where two codes do not join, one is ASCII
abbrev CutsLow : (Code → Bool) → Type 0
CutsLow p = (c d : Code) → joins p c d ≡ false → (is_low c ≡ true) ⊎ (is_low d ≡ true)

ending-low : (c : Code) → is_line_ending c ≡ true → is_low c ≡ true
ending-low c h = value-low 10 refl c h

pub blank-low : (c : Code) → is_blank c ≡ true → is_low c ≡ true
blank-low c h = grind (arith, nat_tests)

cuts-by : (a b x y : Bool) → (not (a || b) && ((x && y) || not (x || y))) ≡ false → ((a ≡ true) ⊎ (x ≡ true)) ⊎ ((b ≡ true) ⊎ (y ≡ true))
cuts-by a b x y h0 = grind arith

cuts-marked : (p : Code → Bool) → IsLowTest p → CutsLow p
cuts-marked p test c d h = grind (arith, cuts-by, ending-low)

cuts-line : (a b : Bool) → (not (a || b) && ((true && true) || not (true || true))) ≡ false → (a ≡ true) ⊎ (b ≡ true)
cuts-line a b h = grind arith

cuts-lines : CutsLow (λ c. true)
cuts-lines c d h = grind (arith, cuts-line, ending-low)

onto-early : (p : Code → Bool) → CutsLow p → (c : Code) (ss : List (List Code)) → LaterEarly ss → (is_low c ≡ true → Early (joined_codes ss)) →
    LaterEarly (onto_stretch p c ss)
onto-early p c ss h0 h1 h2 = grind (arith, low-early)

later-early : (p : Code → Bool) → CutsLow p → (cs : List Code) → HasNoStrays cs → LaterEarly (stretches p cs)
later-early p cut [] s = tt
later-early p cut (c ∷ cs) s = grind (arith, onto-early, later-early p cut cs s.1, joined_codes-stretches)

first-early : (ss : List (List Code)) → Early (joined_codes ss) → LaterEarly ss → EachEarly ss
first-early [] e h = tt
first-early (s ∷ ss) e h = (early-front s (joined_codes ss) e, h)

each-early : (p : Code → Bool) → CutsLow p → (cs : List Code) → Starts cs → EachEarly (stretches p cs)
each-early p cut cs h =
    first-early (stretches p cs) (subst Early (sym (joined_codes-stretches p cs)) h.0) (later-early p cut cs h.1)

leads-line_leaf : (name : Name) (link : Option Content) (s : List Code) → is_run name ≡ false → Early s → HasLeads (line_leaf name link s)
leads-line_leaf name link s n h = grind (arith, leads-linked_leaf)

leads-line_leaves : (name : Name) (ss : List (List Code)) → is_run name ≡ false → EachEarly ss → HasLeads (line_leaves name ss)
leads-line_leaves name [] n h = tt
leads-line_leaves name (s ∷ ss) n h = grind (arith, leads-row, leads-line_leaf, leads-line_leaves name ss n h.1)

leads-lines_from : (name : Name) (link : Option Content) → is_run name ≡ false → (later : Bool) (ss : List (List Code)) → HasNoStrays (joined_codes ss) → EachEarly ss →
    HasLeads (lines_from name link later ss)
leads-lines_from name link n later [] s h = tt
leads-lines_from name link n later (x ∷ ss) s h =
    by_test (later && not (next_is is_line_ending x)) (λ b. leads-lines_from name link n b ss (sound-back x (joined_codes ss) s) h.1)
  where
    front : List Code
    front = (span is_blank x).0

    back : List Code
    back = (span is_blank x).1

    split : front ++ back ≡ x
    split = span-append is_blank x

    low : AllLow front
    low = low-list is_blank blank-low front (span-all is_blank x)

    behind : Early back
    behind = low-behind front back low (subst HasNoStrays (sym split) (sound-front x (joined_codes ss) s)) (subst Early (sym split) h.0)

    by_test : (b : Bool) → ((f : Bool) → HasLeads (lines_from name link f ss)) → HasLeads (elim b as (λ _. Forest) [
      | true ↦ linked_leaf N.SpaceOrTab link front ⊕ linked_leaf name link back ⊕ lines_from name link false ss
      | false ↦ line_leaf name link x ⊕ lines_from name link (next_is is_line_ending x) ss
    ])
    by_test true more =
        leads-row (linked_leaf N.SpaceOrTab link front) (linked_leaf name link back ⊕ lines_from name link false ss) (leads-linked_leaf N.SpaceOrTab link front refl (all-early front low))
        (leads-row (linked_leaf name link back) (lines_from name link false ss) (leads-linked_leaf name link back n behind) (more false))
    by_test false more =
        leads-row (line_leaf name link x) (lines_from name link (next_is is_line_ending x) ss) (leads-line_leaf name link x n h.0) (more (next_is is_line_ending x))

leads-lines : (name : Name) (link : Option Content) (cs : List Code) → is_run name ≡ false → Starts cs → HasLeads (lines name link cs)
leads-lines name link cs n h =
    leads-lines_from name link n false (lines_of cs) (subst HasNoStrays (sym (joined_codes-stretches (λ c. true) cs)) h.1)
    (each-early (λ c. true) cuts-lines cs h)

-- What stands by itself.

abbrev pub ReadsLeads : Reading Forest → Type 0
ReadsLeads a = ReadsFrom true true HasLeads a

-- one ASCII code at hand
pub a-one : (p : Code → Bool) → IsLowTest p → ReadsFrom true true Lows (one p)
a-one p test = reads_anywhere Lows true true (one p) (reads_one p test)

a-some : (p : Code → Bool) → IsLowTest p → ReadsFrom true true Lows (some p)
a-some p test = reads_anywhere Lows true true (some p) (reads_some_low p test)

pub punctuation-low : (c : Code) → is_ascii_punctuation c ≡ true → is_low c ≡ true
punctuation-low c h = grind (arith, nat_tests)

digit-low : (c : Code) → is_digit c ≡ true → is_low c ≡ true
digit-low c h = grind (arith, nat_tests)

hex-low : (c : Code) → is_hex_digit c ≡ true → is_low c ≡ true
hex-low c h = grind (arith, nat_tests)

letter-low : (c : Code) → is_letter c ≡ true → is_low c ≡ true
letter-low c h = grind (arith, nat_tests)

pub alphanumeric-low : (c : Code) → is_alphanumeric c ≡ true → is_low c ≡ true
alphanumeric-low c h = grind (arith, nat_tests)

pub either-low : (p q : Code → Bool) → IsLowTest p → IsLowTest q → IsLowTest (λ c. p c || q c)
either-low p q h k c e = elim (or_cases (p c) (q c) e) [ inl x ↦ h c x | inr x ↦ k c x ]

record ArePartsLow (p : Parts) : Type 0 where
  front : Lows p.front
  number : AllLow p.number
  hexadecimal : AllLow p.hexadecimal
  value : Lows p.value
  back : Lows p.back

parts-named : (table : Table) → ReadsFrom true true ArePartsLow (named_parts table)
unfolding named_parts
parts-named table =
    reads_bind true true true Lows ArePartsLow _ _ (a-one _ (value-low 38 refl)) λ front f. reads_bind true true true Lows ArePartsLow _ _ (a-some _ alphanumeric-low) λ value v. reads_passed ArePartsLow true true _ _ (
    reads_bind true true true Lows ArePartsLow _ _ (a-one _ (value-low 59 refl)) λ back b. reads_gives ArePartsLow true _ (record { front = f; number = tt; hexadecimal = tt; value = v; back = b }))

parts-decimal : ReadsFrom true true ArePartsLow decimal_parts
unfolding decimal_parts
parts-decimal =
    reads_bind true true true Lows ArePartsLow _ _ (a-one _ (value-low 38 refl)) λ front f. reads_bind true true true Lows ArePartsLow _ _ (a-one _ (value-low 35 refl)) λ number n.
    reads_bind true true true Lows ArePartsLow _ _ (a-some _ digit-low) λ value v. reads_passed ArePartsLow true true _ _ (
    reads_bind true true true Lows ArePartsLow _ _ (a-one _ (value-low 59 refl)) λ back b. reads_gives ArePartsLow true _ (record { front = f; number = lows-all number n; hexadecimal = tt; value = v; back = b }))

parts-hexadecimal : ReadsFrom true true ArePartsLow hexadecimal_parts
unfolding hexadecimal_parts
parts-hexadecimal =
    reads_bind true true true Lows ArePartsLow _ _ (a-one _ (value-low 38 refl)) λ front f. reads_bind true true true Lows ArePartsLow _ _ (a-one _ (value-low 35 refl)) λ number n.
    reads_bind true true true Lows ArePartsLow _ _ (a-one _ (among-low (codes "xX") refl)) λ x k. reads_bind true true true Lows ArePartsLow _ _ (a-some _ hex-low) λ value v. reads_passed ArePartsLow true true _ _ (
    reads_bind true true true Lows ArePartsLow _ _ (a-one _ (value-low 59 refl)) λ back b. reads_gives ArePartsLow true _ (record { front = f; number = lows-all number n; hexadecimal = lows-all x k; value = v; back = b }))

leads-reference : (p : Parts) → ArePartsLow p → HasLeads (reference_tree p)
leads-reference p h = grind (arith, leads-row, marker-leaf, low-leaf)

pub leads_character_reference : (table : Table) → ReadsLeads (character_reference table)
unfolding character_reference
leads_character_reference table =
    reads_bind true true true ArePartsLow HasLeads _ _ (reads_either ArePartsLow true true _ _ (parts-named table) (reads_either ArePartsLow true true _ _ parts-decimal parts-hexadecimal)) λ p h.
    reads_gives HasLeads true _ (leads-reference p h)

-- Autolinks.

abbrev HasFirst : List Code → Type 0
HasFirst cs = (cs ≢ []) × Early cs

then-by : (P : List Code → Type 0) → ((xs ys : List Code) → P xs → HasFirst (xs ++ ys)) → (a b : Reading (List Code)) → Yields P a → Yields HasFirst (a then_ b)
then-by P first a b h =
    record { at = λ cs. given-then (λ x _. P x) (λ x _. HasFirst x) a b cs (h.at cs) (λ x rest l. given-map (λ _ _. Unit {0}) (λ y _. HasFirst (x ++ y)) (b rest) (λ y left _. first x y l) (given-any (b rest))) }

then-first : (a b : Reading (List Code)) → Yields Lows a → Yields HasFirst (a then_ b)
then-first = grind (arith, then-by, low-early)

more-first : (a b : Reading (List Code)) → Yields HasFirst a → Yields HasFirst (a then_ b)
more-first = grind (arith, then-by)

scheme-first : Yields HasFirst scheme
unfolding scheme
scheme-first =
    yields_bind HasFirst _ _ _ (then-first _ _ (one-lows _ letter-low)) λ text h. yields_passed _ _ _ (yields_gives _ _ h)

uri-first : (replaced : Bool) → Yields HasFirst (uri replaced)
unfolding uri
uri-first replaced = more-first _ _ scheme-first

mark-low : (all : Bool) (c : Code) → is_value (byte "!") c && all ≡ true → is_low c ≡ true
mark-low all c h = value-low 33 refl c (and-left (is_value 33 c) all h)

local-low : (all : Bool) (c : Code) → is_local_code all c ≡ true → is_low c ≡ true
local-low all =
    either-low (λ c. is_alphanumeric c || is_among (codes "#$%&'*+-./=?^_`{|}~") c) (λ c. is_value (byte "!") c && all)
    (either-low is_alphanumeric (is_among (codes "#$%&'*+-./=?^_`{|}~")) alphanumeric-low (among-low (codes "#$%&'*+-./=?^_`{|}~") refl)) (mark-low all)

email-first : (all : Bool) → Yields HasFirst (email_address all)
unfolding email_address
email-first all = then-first _ _ (some-lows _ (local-low all))

leads_in_angle_brackets : (inside : Reading (List Code)) (name : Name) → is_run name ≡ false → Takes inside → Yields HasFirst inside →
    ReadsLeads (in_angle_brackets inside name)
unfolding in_angle_brackets
leads_in_angle_brackets inside name n takes first =
    reads_bind true false true Lows HasLeads _ _ (reads_weaker Lows true false _ (a-one _ (value-low 60 refl))) λ front f. reads_bind false false true HasFirst HasLeads _ _ (reads_some inside takes HasFirst first) λ text h.
    reads_bind false true true Lows HasLeads _ _ (reads_one _ (value-low 62 refl)) λ back b. reads_gives HasLeads true _
    (leads-row (leaf N.AutolinkMarker front) _ (marker-leaf N.AutolinkMarker front refl f) (leads-row (leaf name text) (leaf N.AutolinkMarker back) (leads-leaf name text n h.1) (marker-leaf N.AutolinkMarker back refl b)), tt)

pub leads_autolink : (rules : Rules) → ReadsLeads (autolink rules)
unfolding autolink
leads_autolink rules =
    reads_either HasLeads true true _ _ (leads_in_angle_brackets (uri rules.nul_is_replaced) N.AutolinkProtocol refl (takes_uri _) (uri-first _)) (leads_in_angle_brackets (email_address rules.all_address_marks) N.AutolinkEmail refl (takes_email_address _) (email-first _))

-- Spans.

-- a stretch that begins with a marker is markers alone
abbrev IsEven : (Code → Bool) → List Code → Type 0
IsEven p s = next_is p s ≡ true → Lows s

abbrev AreEven : (Code → Bool) → List (List Code) → Type 0
AreEven p [] = Unit {0}
AreEven p (s ∷ ss) = IsEven p s × AreEven p ss

both-pass : (x a b : Bool) → (not x && ((a && b) || not (a || b))) ≡ true → a ≡ true → b ≡ true
both-pass x a b h0 h1 = grind arith

even-onto : (p : Code → Bool) → IsLowTest p → (c : Code) (ss : List (List Code)) → AreEven p ss → AreEven p (onto_stretch p c ss)
even-onto p c ss h0 h1 = grind (arith, both-pass)

even-stretches : (p : Code → Bool) → IsLowTest p → (cs : List Code) → AreEven p (stretches p cs)
even-stretches p test [] = tt
even-stretches p test (c ∷ cs) = even-onto p test c (stretches p cs) (even-stretches p test cs)

abbrev IsClosingRun : List (List Code) × List Code → Type 0
IsClosingRun r = EachEarly r.0 × Lows r.1

closing-found : (p : Code → Bool) (n : ℕ) (ss : List (List Code)) → EachEarly ss → AreEven p ss → PassesValue IsClosingRun (closing_run p n ss)
unfolding closing_run
closing-found p n [] h k = tt
closing-found p n (s ∷ ss) h k = grind (arith, closing-found p n ss h.1 k.1)

reads_closing : (p : Code → Bool) → IsLowTest p → (n : ℕ) → ReadsFrom true true IsClosingRun (closing p n)
reads_closing p test n =
    record { at = λ cs s w. given-both (Splits span_codes cs) (λ x _. IsClosingRun x) (ToSound true IsClosingRun) (closing p n cs) (λ x rest k l. parts x rest (subst HasNoStrays (sym k) s) l) ((covers_closing p n).at cs) (closing-found p n (stretches p cs) (each-early p (cuts-marked p test) cs (w, s)) (even-stretches p test cs)) }
  where
    parts : (x : List (List Code) × List Code) (rest : List Code) → HasNoStrays ((joined_codes x.0 ++ x.1) ++ rest) → IsClosingRun x → ToSound true IsClosingRun x rest
    parts x rest sound l =
        (l, (sound-back (joined_codes x.0 ++ x.1) rest sound, ends-behind (joined_codes x.0 ++ x.1) rest (ends-more (joined_codes x.0) x.1 (lows-ends x.1 l.1)) sound))

record AreNoRuns (names : SpanNames) : Type 0 where
  sequence : is_run names.sequence ≡ false
  text : is_run names.text ≡ false

leads_span : (marker : ℕ) → nat_lt marker 128 ≡ true → (names : SpanNames) (allowed : ℕ → Bool) (escaped : Bool) (previous : Option Code) → AreNoRuns names →
    ReadsLeads (span_here marker names allowed escaped previous)
unfolding span_here span_of
leads_span marker low names allowed escaped previous n =
    reads_passed HasLeads true true _ _
    (reads_bind true true true Lows HasLeads _ _ (a-some _ (value-low marker low)) λ front f. reads_passed HasLeads true true _ _ (
    reads_bind true true true IsClosingRun HasLeads _ _ (reads_closing (is_value marker) (value-low marker low) (length front))
    λ inside h. reads_gives HasLeads true _
    (leads-row (leaf names.sequence front) _ (marker-leaf names.sequence front n.sequence f) (leads-row (line_leaves names.text inside.0) (leaf names.sequence inside.1) (leads-line_leaves names.text inside.0 n.text h.0) (marker-leaf names.sequence inside.1 n.sequence h.1)), tt)))

pub leads_code_text : (allowed : ℕ → Bool) (escaped : Bool) (previous : Option Code) →
    ReadsLeads (span_here (byte "`") code_names allowed escaped previous)
leads_code_text allowed escaped previous = leads_span (byte "`") refl code_names allowed escaped previous (record { sequence = refl; text = refl })

pub leads_math_text : (allowed : ℕ → Bool) (escaped : Bool) (previous : Option Code) →
    ReadsLeads (span_here (byte "$") math_names allowed escaped previous)
leads_math_text allowed escaped previous = leads_span (byte "$") refl math_names allowed escaped previous (record { sequence = refl; text = refl })

-- HTML.

ends_then : (a b : Reading (List Code)) → Yields EndsLow b → Yields EndsLow (a then_ b)
ends_then a b h =
    record { at = λ cs. given-then (λ _ _. Unit {0}) (λ x _. EndsLow x) a b cs (given-any (a cs)) (λ x rest _. given-map (λ y _. EndsLow y) (λ y _. EndsLow (x ++ y)) (b rest) (λ y left k. ends-more x y k) (h.at rest)) }

abbrev pub AllBelow : List ℕ → Type 0
AllBelow [] = Unit {0}
AllBelow (n ∷ ns) = (nat_lt n 128 ≡ true) × AllBelow ns

-- what holds of a word of these values
abbrev OfLowWord : List ℕ → List Code → List Code → Type 0
OfLowWord ns x rest = (ns ≢ [] → x ≢ []) × (AllBelow ns → AllLow x)

word-given : (ns : List ℕ) (cs : List Code) → IfGiven (OfLowWord ns) (word_of ns cs)
word-given =
    given-word (λ ns cs. OfLowWord ns) (λ cs. (λ e. absurd (e refl), λ l. tt)) (λ n ns c cs x rest v k. (λ e. (λ i. cc), λ l. (value-low n l.0 c v, k.1 l.1)))

some-low : (cs : List Code) → cs ≢ [] → AllLow cs → Lows cs
some-low [] e h = absurd (e refl)
some-low (c ∷ cs) e h = h

pub word-lows : (n : ℕ) (ns : List ℕ) → AllBelow (n ∷ ns) → Yields Lows (word_of (n ∷ ns))
word-lows n ns l =
    record { at = λ cs. given-map (OfLowWord (n ∷ ns)) (λ x _. Lows x) (word_of (n ∷ ns) cs) (λ x rest k. some-low x (k.0 (λ e. cc)) (k.1 l)) (word-given (n ∷ ns) cs) }

through-ends : (ns : List ℕ) → Yields EndsLow (word_of ns) → (cs : List Code) → PassesValue EndsLow (up_to_word ns cs)
through-ends ns h = given-up-to-word (λ _ x _. EndsLow x) ns h.at (λ c cs x rest k. ends-cons c x k)

word-ends : (n : ℕ) (ns : List ℕ) → AllBelow (n ∷ ns) → Yields EndsLow (word_of (n ∷ ns))
word-ends n ns l = yields-weaker Lows EndsLow lows-ends _ (word-lows n ns l)

html-ends : (slashes : Bool) → Yields EndsLow (html_codes slashes)
unfolding html_codes open_tag closing_tag comment instruction declaration cdata word through
html-ends slashes = grind (arith, yields_either, ends_then, word-ends, through-ends)

reads_html : (slashes : Bool) → ReadsFrom true true Starts (html_codes slashes)
reads_html slashes =
    record { at = λ cs s w. given-both (ToSound false Starts) (ToSound true EndsLow) (ToSound true Starts) (html_codes slashes cs) (λ x rest h k. (h.0, k.1)) ((reads_starts (html_codes slashes) (takes_html_text slashes)).at cs s w) ((reads_ends (html_codes slashes) (takes_html_text slashes) (html-ends slashes)).at cs s tt) }

pub leads_html_text : (slashes : Bool) → ReadsLeads (html_text slashes)
unfolding html_text
leads_html_text slashes =
    reads_bind true true true Starts HasLeads _ _ (reads_html slashes) λ text h. reads_gives HasLeads true _ (leads-lines N.HtmlTextData None text refl h, tt)

-- Checks of list items.

white-low : (c : Code) → is_whitespace_code c ≡ true → is_low c ≡ true
white-low = either-low is_blank is_line_ending blank-low ending-low

leads-check : (b : Bool) (cs : List Code) → Lows cs
    → HasLeads (leaf (elim b as (λ _. Name) [ true ↦ N.GfmTaskListItemValueChecked | false ↦ N.GfmTaskListItemValueUnchecked ]) cs)
leads-check true cs h = marker-leaf N.GfmTaskListItemValueChecked cs refl h
leads-check false cs h = marker-leaf N.GfmTaskListItemValueUnchecked cs refl h

pub leads_gfm_task_list_item_check : ReadsLeads gfm_task_list_item_check
unfolding gfm_task_list_item_check
leads_gfm_task_list_item_check =
    reads_bind true true true Lows HasLeads _ _ (a-one _ (value-low 91 refl)) λ front f. reads_bind true true true Lows HasLeads _ _ (a-one _ (either-low is_whitespace_code (is_among (codes "xX")) white-low (among-low (codes "xX") refl))) λ value v.
    reads_bind true true true Lows HasLeads _ _ (reads_before Lows true true _ _ (a-one _ (value-low 93 refl))) λ back b. reads_gives HasLeads true _
    (leads-row (leaf N.GfmTaskListItemMarker front) _ (marker-leaf N.GfmTaskListItemMarker front refl f) (leads-row _ (leaf N.GfmTaskListItemMarker back) (leads-check (next_is (is_among (codes "xX")) value) value v) (marker-leaf N.GfmTaskListItemMarker back refl b)), tt)

-- Literals.

letters-low : (ns : List ℕ) → AllBelow ns → Yields AllLow (letters ns)
unfolding letters
letters-low [] l = yields_gives _ _ tt
letters-low (n ∷ ns) l =
    yields_bind Lows _ _ _ (one-lows _ (either-low (λ c. c.value == n) (λ c. is_letter c && c.value + 32 == n) (value-low n l.0) (λ c h. letter-low c (and_parts (is_letter c) (c.value + 32 == n) h).0))) λ a h.
    yields_bind AllLow _ _ _ (letters-low ns l.1) λ b k. yields_gives _ _ (all-join a b (lows-all a h) k)

letters-lows : (n : ℕ) (ns : List ℕ) → AllBelow (n ∷ ns) → Yields Lows (letters (n ∷ ns))
unfolding letters
letters-lows n ns l =
    yields_bind Lows _ _ _ (one-lows _ (either-low (λ c. c.value == n) (λ c. is_letter c && c.value + 32 == n) (value-low n l.0) (λ c h. letter-low c (and_parts (is_letter c) (c.value + 32 == n) h).0))) λ a h.
    yields_bind AllLow _ _ _ (letters-low ns l.1) λ b k. yields_gives _ _ (join a b h k)
  where
    join : (a b : List Code) → Lows a → AllLow b → Lows (a ++ b)
    join [] b h k = absurd h
    join (c ∷ cs) b h k = (h.0, all-join cs b h.1 k)

schemes-lows : Yields Lows (one_word_of schemes)
unfolding one_word_of
schemes-lows = record {
  at = λ cs. (yields_either _ _ _ (letters-lows 104 (codes "ttps://") (refl, (refl, (refl, (refl, (refl, (refl, (refl, (refl, tt)))))))))
      (record { at = λ ds. (yields_either _ _ _ (letters-lows 104 (codes "ttp://") (refl, (refl, (refl, (refl, (refl, (refl, (refl, tt)))))))) (record { at = λ es. tt })).at ds })).at cs;
}

module _ (bytes : List ℕ) (end : ℕ) where
  not-later : (a b d : Bool) → ((a || b) || d) ≡ false → b ≡ false
  not-later a b d h = grind arith

  domain-early : (cs : List Code) → Early (domain_from bytes end cs).1
  domain-early [] = tt
  domain-early (c ∷ cs) = grind (arith, domain-early cs, low-early, among-low, not-later)

  reads_domain : ReadsFrom false true (λ cs. cs ≢ []) (domain bytes end)
  unfolding domain
  reads_domain = record { at = λ cs s w. by_test cs s (is_domain (domain_from bytes end cs).0) ((takes_domain bytes end).at cs) ((domain-line bytes end).at cs) }
    where
      by_test : (cs : List Code) → HasNoStrays cs → (b : Bool) →
          (let o : Option (List Code × List Code) = elim b [ true ↦ Some (domain_from bytes end cs) | false ↦ None ] in At itself [] cs o → PassesValue (IsSomeLineThere bytes) o → GoesTo true (λ (ds : List Code). ds ≢ []) o)
      by_test cs s true k l =
          let d : List Code × List Code = domain_from bytes end cs in
          (l.0, (sound-back d.0 d.1 (subst HasNoStrays (sym k) s), domain-early cs))
      by_test cs s false k l = tt

  path-early : (opened closed : ℕ) (cs : List Code) → Early (path_from bytes end opened closed cs).1
  path-early opened closed [] = tt
  path-early opened closed (c ∷ cs) =
      by_test (ends_path bytes end opened closed (c ∷ cs)) refl (path-early (count_if (byte "(") c opened) (count_if (byte ")") c closed) cs)
    where
      by_kind : (l a b d e : Bool) → ((not l && a) || ((b && d) && e)) ≡ true → is_later_byte c ≡ l → is_among (codes "!\"&'),*.:;<?]_~") c ≡ b → is_later_byte c ≡ false
      by_kind l a b d e h k m = grind (arith, low-early, among-low)

      by_test : (b : Bool) → ends_path bytes end opened closed (c ∷ cs) ≡ b → Early (path_from bytes end (count_if (byte "(") c opened) (count_if (byte ")") c closed) cs).1 →
          (let r : List Code × List Code = elim b [ true ↦ ([], c ∷ cs) | false ↦ let s = path_from bytes end (count_if (byte "(") c opened) (count_if (byte ")") c closed) cs in (c ∷ s.0, s.1) ] in Early r.1)
      by_test true e more = grind (arith, by_kind)
      by_test false e more = more

  reads_path : ReadsFrom false true (λ _. Unit {0}) (path bytes end)
  unfolding path
  reads_path = record { at = λ cs s w. (tt, (sound-back (path_from bytes end 0 0 cs).0 (path_from bytes end 0 0 cs).1 (subst HasNoStrays (sym ((takes_path bytes end).at cs)) s), path-early 0 0 cs)) }

  with-scheme : (a b d : List Code) → Lows a → HasLeads (leaf N.GfmAutolinkLiteralProtocol (a ++ b ++ d))
  with-scheme [] b d h = absurd h
  with-scheme (c ∷ cs) b d h = ((low-early c h.0, ((λ e. cc), refl)), tt)

  with-host : (a b : List Code) → a ≢ [] → Early a → HasLeads (leaf N.GfmAutolinkLiteralWww (a ++ b))
  with-host [] b n h = absurd (n refl)
  with-host (c ∷ cs) b n h = ((h, ((λ e. cc), refl)), tt)

  pub leads_gfm_autolink_literal_protocol : (previous : Option Code) → ReadsLeads (gfm_autolink_literal_protocol bytes end previous)
  unfolding gfm_autolink_literal_protocol
  leads_gfm_autolink_literal_protocol previous =
      reads_passed HasLeads true true _ _ (reads_bind true true true Lows HasLeads _ _ (reads_anywhere Lows true true _ (reads_lows (one_word_of schemes) (takes_one_word schemes) schemes-lows)) λ scheme h.
      reads_bind true true true (λ cs. cs ≢ []) HasLeads _ _ (reads_anywhere (λ cs. cs ≢ []) true true _ reads_domain) λ host n.
      reads_bind true true true (λ _. Unit {0}) HasLeads _ _ (reads_anywhere (λ _. Unit {0}) true true _ reads_path) λ further k. reads_gives HasLeads true _ (with-scheme scheme host further h))

  reads_host : ReadsFrom true true (λ cs. (cs ≢ []) × Early cs) (domain bytes end)
  reads_host = record { at = λ cs s w. by_answer (domain bytes end cs) (reads_domain.at cs s tt) ((reads_starts (domain bytes end) (takes_domain bytes end)).at cs s w) }
    where
      by_answer : (o : Option (List Code × List Code)) → GoesTo true (λ (ds : List Code). ds ≢ []) o → GoesTo false Starts o → GoesTo true (λ (ds : List Code). (ds ≢ []) × Early ds) o
      by_answer None h k = tt
      by_answer (Some x) h k = ((h.0, k.0.0), h.1)

  leads_www_from_here : ReadsLeads (www_from_here bytes end)
  unfolding www_from_here
  leads_www_from_here =
      reads_bind true true true (λ cs. (cs ≢ []) × Early cs) HasLeads _ _ reads_host λ host h.
      reads_bind true true true (λ _. Unit {0}) HasLeads _ _ (reads_anywhere (λ _. Unit {0}) true true _ reads_path) λ further k. reads_gives HasLeads true _ (with-host host further h.0 h.1)

  pub leads_gfm_autolink_literal_www : (previous : Option Code) → ReadsLeads (gfm_autolink_literal_www bytes end previous)
  unfolding gfm_autolink_literal_www
  leads_gfm_autolink_literal_www previous = record { at = λ cs. (here cs).at cs }
    where
      here : (cs : List Code) → ReadsLeads (provided (may_precede_www previous && begins_with_www cs) >> www_from_here bytes end)
      here cs = reads_passed HasLeads true true _ _ leads_www_from_here

-- What follows a label.

leads_spacing : (link : Option Content) → ReadsFrom false true HasLeads (space_or_tab_eol link)
unfolding space_or_tab_eol spaces_across spaces_on_line
leads_spacing link = reads_either HasLeads false true _ _
    (reads_bind false false true AllLow HasLeads _ _ (reads_some _ (takes_any_number _) AllLow (any-low _ blank-low)) λ front f. reads_bind false true true Lows HasLeads _ _ (reads_one _ ending-low) λ ending e.
    reads_bind true true true AllLow HasLeads _ _ (reads_before AllLow true true _ _ (reads_any_low _ blank-low)) λ back b. reads_gives HasLeads true _
    (leads-row (linked_leaf N.SpaceOrTab link front) _ (leads-linked_leaf N.SpaceOrTab link front refl (all-early front f)) (leads-row (linked_leaf N.LineEnding link ending) (linked_leaf N.SpaceOrTab link back) (leads-linked_leaf N.LineEnding link ending refl (all-early ending (lows-all ending e))) (leads-linked_leaf N.SpaceOrTab link back refl (all-early back b)))))
    (reads_bind false true true Lows HasLeads _ _ (reads_before Lows false true _ _ (reads_some_low _ blank-low)) λ blank h. reads_gives HasLeads true _ (leads-linked_leaf N.SpaceOrTab link blank refl (all-early blank (lows-all blank h))))

optional-here : (link : Option Content) → ReadsFrom true true HasLeads (optional_tree (space_or_tab_eol link))
unfolding optional_tree
optional-here link = reads_either HasLeads true true _ _ (reads_anywhere HasLeads true true _ (leads_spacing link)) (reads_gives HasLeads true _ tt)

optional-there : (link : Option Content) → ReadsFrom false false HasLeads (optional_tree (space_or_tab_eol link))
unfolding optional_tree
optional-there link = reads_either HasLeads false false _ _ (reads_weaker HasLeads false false _ (leads_spacing link)) (reads_gives HasLeads false _ tt)

record AreTextNames (names : StringNames) : Type 0 where
  marker : is_run names.marker ≡ false

leads-between : (names : StringNames) (front text back : List Code) → AreTextNames names → Lows front → Starts text → Lows back →
    HasLeads (between_markers names front text back)
leads-between names front text back n f t b = grind (arith, leads-row, marker-leaf, leads-string, leads-lines)

leads_label : (characters : Bool) → ReadsFrom false true HasLeads (label characters reference_names)
unfolding label
leads_label characters =
    reads_bind false true true Lows HasLeads _ _ (reads_one _ (value-low 91 refl)) λ front f. reads_bind true false true Starts HasLeads _ _ (reads_starts _ (takes_up_to _ _ _)) λ text t. reads_passed HasLeads false true _ _ (reads_passed HasLeads false true _ _ (
    reads_bind false true true Lows HasLeads _ _ (reads_one _ (value-low 93 refl)) λ back b. reads_passed HasLeads true true _ _ (reads_gives HasLeads true _ (leads-between reference_names front text back (record { marker = refl }) f t b))))

leads_title_between : (both : Bool) (opener closer : ℕ) → nat_lt opener 128 ≡ true → nat_lt closer 128 ≡ true → ReadsFrom false true HasLeads (title_between both opener closer title_names)
unfolding title_between
leads_title_between both opener closer o c =
    reads_bind false true true Lows HasLeads _ _ (reads_one _ (value-low opener o)) λ front f. reads_bind true false true Starts HasLeads _ _ (reads_starts _ (takes_up_to _ _ _)) λ text t.
    reads_bind false true true Lows HasLeads _ _ (reads_one _ (value-low closer c)) λ back b. reads_passed HasLeads true true _ _ (reads_gives HasLeads true _ (leads-between title_names front text back (record { marker = refl }) f t b))

leads_title : (both : Bool) → ReadsFrom false true HasLeads (title both title_names)
unfolding title
leads_title both =
    reads_either HasLeads false true _ _ (leads_title_between _ _ _ refl refl) (reads_either HasLeads false true _ _ (leads_title_between _ _ _ refl refl) (leads_title_between _ _ _ refl refl))

leads_literal_destination : ReadsFrom false true HasLeads (literal_destination resource_names)
unfolding literal_destination
leads_literal_destination =
    reads_bind false true true Lows HasLeads _ _ (reads_one _ (value-low 60 refl)) λ front f. reads_bind true false true Starts HasLeads _ _ (reads_starts _ (takes_up_to _ _ _)) λ text t.
    reads_bind false true true Lows HasLeads _ _ (reads_one _ (value-low 62 refl)) λ back b. reads_gives HasLeads true _
    (((leads-row (leaf N.ResourceDestinationLiteralMarker front) _ (marker-leaf N.ResourceDestinationLiteralMarker front refl f) (leads-row (string_group N.ResourceDestinationString (linked N.Data text)) (leaf N.ResourceDestinationLiteralMarker back) (leads-string N.ResourceDestinationString (linked N.Data text) (leads-linked text t.0)) (marker-leaf N.ResourceDestinationLiteralMarker back refl b)), tt), tt))

leads_raw_destination : (max : ℕ) → ReadsFrom true false HasLeads (raw_destination max resource_names)
unfolding raw_destination
leads_raw_destination max =
    reads_bind true false false Starts HasLeads _ _ (reads_starts _ (takes_raw max)) λ text t. reads_passed HasLeads false false _ _ (reads_gives HasLeads false _ (((leads-linked text t.0, tt), tt), tt))

leads_destination : (max : ℕ) → ReadsFrom true false HasLeads (destination max resource_names)
unfolding destination
leads_destination max = reads_next HasLeads true false _ _ _ (reads_weaker HasLeads true false _ (reads_anywhere HasLeads true true _ leads_literal_destination)) (leads_raw_destination max)

leads_spaced_title : (both : Bool) → ReadsFrom false true HasLeads (spaced_title both)
unfolding spaced_title
leads_spaced_title both =
    reads_bind false true true HasLeads HasLeads _ _ (reads_before HasLeads false true _ _ (leads_spacing None)) λ space h. reads_bind true true true HasLeads HasLeads _ _ (reads_anywhere HasLeads true true _ (leads_title both)) λ text k.
    reads_bind true true true HasLeads HasLeads _ _ (optional-here None) λ back l. reads_gives HasLeads true _ (leads-row space _ h (leads-row text back k l))

leads_destination_and_title : (both : Bool) → ReadsFrom true false HasLeads (destination_and_title both)
unfolding destination_and_title
leads_destination_and_title both =
    reads_bind true false false HasLeads HasLeads _ _ (leads_destination 32) λ target h. reads_bind false false false HasLeads HasLeads _ _ (reads_either HasLeads false false _ _ (reads_weaker HasLeads false false _ (leads_spaced_title both)) (optional-there None)) λ after k.
    reads_gives HasLeads false _ (leads-row target after h k)

leads_resource : (both : Bool) → ReadsFrom false true HasLeads (resource both)
unfolding resource
leads_resource both =
    reads_bind false true true Lows HasLeads _ _ (reads_one _ (value-low 40 refl)) λ front f. reads_bind true true true HasLeads HasLeads _ _ (optional-here None) λ space h.
    reads_bind true false true HasLeads HasLeads _ _ (reads_next HasLeads true false _ _ _ (reads_weaker HasLeads true false _ (reads_gives HasLeads true _ tt)) (leads_destination_and_title both)) λ inside k.
    reads_bind false true true Lows HasLeads _ _ (reads_one _ (value-low 41 refl)) λ back b. reads_gives HasLeads true _
    (leads-row (leaf N.ResourceMarker front) _ (marker-leaf N.ResourceMarker front refl f) (leads-row space _ h (leads-row inside (leaf N.ResourceMarker back) k (marker-leaf N.ResourceMarker back refl b))), tt)

leads_full_reference : (s : Setting) → ReadsFrom false true HasLeads (full_reference s)
unfolding full_reference
leads_full_reference s =
    reads_bind false true true HasLeads HasLeads _ _ (leads_label _) λ tree h. reads_passed HasLeads true true _ _ (reads_gives HasLeads true _ h)

leads_collapsed_reference : ReadsFrom false true HasLeads collapsed_reference
unfolding collapsed_reference
leads_collapsed_reference =
    reads_bind false true true Lows HasLeads _ _ (reads_one _ (value-low 91 refl)) λ front f. reads_bind true true true Lows HasLeads _ _ (a-one _ (value-low 93 refl)) λ back b. reads_gives HasLeads true _
    (leads-row (leaf N.ReferenceMarker front) (leaf N.ReferenceMarker back) (marker-leaf N.ReferenceMarker front refl f) (marker-leaf N.ReferenceMarker back refl b), tt)

leads_shortcut : (defined : Bool) → ReadsLeads (shortcut defined)
unfolding shortcut
leads_shortcut defined = reads_passed HasLeads true true _ _ (reads_gives HasLeads true _ tt)

pub leads_after_label : (s : Setting) (defined : Bool) → ReadsLeads (after_label s defined)
unfolding after_label reference_after_label shortcut_before_bracket
leads_after_label s defined =
    reads_next HasLeads true true _ _ _ (reads_either HasLeads true true _ _ (reads_anywhere HasLeads true true _ (leads_resource _)) (leads_shortcut defined))
    (reads_next HasLeads true true _ _ _
    (reads_either HasLeads true true _ _ (reads_anywhere HasLeads true true _ (leads_full_reference s)) (reads_either HasLeads true true _ _ (reads_passed HasLeads true true _ _ (reads_anywhere HasLeads true true _ leads_collapsed_reference)) (reads_unless HasLeads true true _ _ (leads_shortcut _))))
    (leads_shortcut defined))
