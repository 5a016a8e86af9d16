-- What stands by itself: each of these constructs reads one leaf, or one group around leaves, which covers the codes that it reads.
use Rattle.std.proofs.Common.{◌≡◌, ◌≢◌, ℕ, ◌+◌, ◌≤◌, ◌==◌, Bool, true, false, ◌&&◌, ◌||◌, List, [], ◌∷◌, ◌++◌, length, Option, Some, None, refl, sym, ap, ◌∙◌, arith}
use Rattle.std.specs.Prelude.{codes}
use Rattle.std.specs.Str.{byte}
use Rattle.std.proofs.lemmas.List.{append_assoc, append-nil, length-append}
use Rattle.markdown_event.specs.declared.event.Name.{Name}
use Rattle.markdown_event.specs.declared.event.Content.{Content}
use Rattle.markdown_event.specs.declared.event.Point.{Point}
use Rattle.markdown_content.specs.Codes.{Code}
use Rattle.markdown_content.specs.declared.configuration.Rules.{Rules}
use Rattle.markdown_content.specs.Tree.{Forest, empty, leaf_then, group_then, leaf, group, ◌⊕◌, leaf_codes, enter_of, exit_after}
use Rattle.markdown_util.specs.Reference.{Table}
use Rattle.markdown_model.specs.CodeLines.{IsLine, IsSomeLine, IsOnLine, AreSpaced}
use Rattle.markdown_model.specs.CodeTests.{is_value, is_among, next_is}
use Rattle.markdown_model.specs.Grammar.{Reading, ◌>>◌, provided, either}
use Rattle.markdown_model.specs.GfmAutolinkLiteral.{schemes, gfm_autolink_literal_protocol, www_from_here, gfm_autolink_literal_www, may_precede_www, begins_with_www}
use Rattle.markdown_model.specs.HtmlText.{html_codes, html_text}
use Rattle.markdown_model.specs.LeafConstructs.{character_escape, hard_break_escape, Parts, named_parts, decimal_parts, hexadecimal_parts, character_reference, closing_run, joined_codes, SpanNames, code_names, math_names, span_of, span_here, scheme, domain_label, uri, email_address, in_angle_brackets, autolink, gfm_task_list_item_check}
use Rattle.markdown_model.specs.Passes.{is_nothing}
use Rattle.markdown_model.specs.TextLines.{stretches, line_leaves, lines}
use Rattle.markdown_model.proofs.LeafRows.{Leaves, leaves-row, leaves-leaf, IsOnLineIfAny, AreFine, fine-stretches, leaves-lines, leaves-stretches}
use Rattle.markdown_model.proofs.LiteralCodes.{takes_one_word, takes_domain, takes_path}
use Rattle.markdown_model.proofs.NoLinkInConstructs.{PassesValue, Yields, yields_bind, yields_gives, yields_passed, yields_either, yields_before}
use Rattle.markdown_model.proofs.OneLineLiterals.{IsLineThere, IsSomeLineThere, domain-line, path-line, join-there}
use Rattle.markdown_model.proofs.OneLineReadings.{Skips, not-ending, on-line, some-join, some-any, IsOneCode, one-some, one-one, one-line, some-line, any-line, then-line, repeatedly-line, one-word-some}
use Rattle.markdown_model.proofs.ReadingsCover.{At, Covers, codes_laws, bind, given, if_passed, one_of, seen_before, Takes, takes_one, takes_some, takes_uri, takes_email_address, takes_html_text, codes-line_leaves, codes-lines, covers_closing}
use Rattle.markdown_model.proofs.ReadsACode.{Left, Consumes, html_text_takes}

-- Trees.

-- no name of data, of a run, or of what labels, pairs and emails make
abbrev pub is_own : Name → Bool
is_own Name.Data = false
is_own Name.AttentionSequence = false
is_own Name.LabelText = false
is_own Name.Link = false
is_own Name.GfmFootnoteCall = false
is_own Name.Emphasis = false
is_own Name.Strong = false
is_own Name.GfmStrikethrough = false
is_own Name.GfmAutolinkLiteralEmail = false
is_own Name.GfmAutolinkLiteralMailto = false
is_own Name.GfmAutolinkLiteralXmpp = false
is_own _ = true

-- of leaves, none of which is an escape
abbrev pub is_leaf_name : Name → Bool
is_leaf_name Name.CharacterEscape = false
is_leaf_name name = is_own name

-- of groups, none of which is a line ending
abbrev pub is_group_name : Name → Bool
is_group_name Name.LineEnding = false
is_group_name name = is_own name

pub leaf-own : (name : Name) → is_leaf_name name ≡ true → is_own name ≡ true
leaf-own Name.CharacterEscape e = refl
leaf-own _ e = e

pub group-own : (name : Name) → is_group_name name ≡ true → is_own name ≡ true
group-own Name.LineEnding e = refl
group-own _ e = e

-- a leaf without a link over some codes, which stand on one line where the document has whitespace at each line ending
pub record IsOwnLeaf (bytes : List ℕ) (name : Name) (link : Option Content) (cs : List Code) : Type 0 where
  pub named : is_leaf_name name ≡ true
  pub unlinked : link ≡ None
  pub some : cs ≢ []
  pub line : AreSpaced bytes cs → IsOnLine cs

-- a group around such leaves, from the first to the last
pub record IsOwnGroup (bytes : List ℕ) (name : Name) (enter exit : Point) (inside : Forest) : Type 0 where
  pub named : is_group_name name ≡ true
  pub some : is_nothing inside ≡ false
  pub enters : enter ≡ enter_of inside
  pub exits : exit ≡ exit_after (enter_of inside) inside
  pub leaves : Leaves (IsOwnLeaf bytes) inside

-- one such leaf, or one such group
abbrev pub IsPlainTree : List ℕ → Forest → Type 0
IsPlainTree bytes empty = ⊥
IsPlainTree bytes (leaf_then name link cs rest) = IsOwnLeaf bytes name link cs × (rest ≡ empty)
IsPlainTree bytes (group_then name enter exit inside rest) = IsOwnGroup bytes name enter exit inside × (rest ≡ empty)

-- what a construct that stands by itself reads, in a document of these bytes
pub record ReadsPlain (bytes : List ℕ) (a : Reading Forest) : Type 0 where
  pub covers : Covers leaf_codes [] a
  pub plain : Yields (IsPlainTree bytes) a

-- so it takes a code at least

pub leaves-some : (bytes : List ℕ) (t : Forest) → Leaves (IsOwnLeaf bytes) t → is_nothing t ≡ false →
    1 ≤ length (leaf_codes t)
leaves-some bytes empty h e = cc
leaves-some bytes (leaf_then name link [] rest) h e = absurd (h.0.some refl)
leaves-some bytes (leaf_then name link (c ∷ cs) rest) h e = omega (arith)
leaves-some bytes (group_then name enter exit inside rest) h e = absurd h

plain-some : (bytes : List ℕ) (t : Forest) → IsPlainTree bytes t → 1 ≤ length (leaf_codes t)
plain-some bytes empty h = absurd h
plain-some bytes (leaf_then name link [] rest) h = absurd (h.0.some refl)
plain-some bytes (leaf_then name link (c ∷ cs) rest) h = omega (arith)
plain-some bytes (group_then name enter exit inside rest) h =
    omega (arith, leaves-some bytes inside h.0.leaves h.0.some, length-append (leaf_codes inside) (leaf_codes rest))

pub plain-takes : (bytes : List ℕ) (a : Reading Forest) → ReadsPlain bytes a → Consumes 1 a
plain-takes bytes a h = record { at = λ cs. by_answer cs (a cs) (h.covers.at cs) (h.plain.at cs) }
  where
    by_answer : (cs : List Code) (r : Option (Forest × List Code)) → At leaf_codes [] cs r →
        PassesValue (IsPlainTree bytes) r → Left 1 cs r
    by_answer cs None k p = tt
    by_answer cs (Some x) k p = omega (arith, plain-some bytes x.0 p, length-append (leaf_codes x.0) x.1, ap length k)

-- Readings by a switch, and one after the other.

pub reads_switched : (bytes : List ℕ) (on : Bool) (a : Reading Forest) → ReadsPlain bytes a →
    ReadsPlain bytes (provided on >> a)
reads_switched bytes on a h =
    record { covers = if_passed leaf_codes [] on a h.covers; plain = yields_passed (IsPlainTree bytes) on a h.plain }

pub reads_either : (bytes : List ℕ) (a b : Reading Forest) → ReadsPlain bytes a → ReadsPlain bytes b →
    ReadsPlain bytes (either a b)
reads_either bytes a b h k =
    record { covers = one_of leaf_codes [] a b h.covers k.covers; plain = yields_either (IsPlainTree bytes) a b h.plain k.plain }

-- Leaves and groups.

one-on : (cs : List Code) → IsOneCode cs → IsOnLine cs
one-on [] h = absurd h
one-on (c ∷ []) h = tt
one-on (c ∷ d ∷ cs) h = absurd h

module _ (bytes : List ℕ) where
  abbrev OwnLeaves : Forest → Type 0
  OwnLeaves t = Leaves (IsOwnLeaf bytes) t

  row : (t u : Forest) → OwnLeaves t → OwnLeaves u → OwnLeaves (t ⊕ u)
  row t u h k = leaves-row (IsOwnLeaf bytes) t u h k

  own-leaf : (name : Name) (cs : List Code) → is_leaf_name name ≡ true → (cs ≢ [] → AreSpaced bytes cs → IsOnLine cs) →
      OwnLeaves (leaf name cs)
  own-leaf name cs n h =
      leaves-leaf (IsOwnLeaf bytes) name cs (λ some. record { named = n; unlinked = refl; some = some; line = h some })

  -- over one code, and over codes of a line
  one-leaf : (name : Name) (cs : List Code) → is_leaf_name name ≡ true → IsOneCode cs → OwnLeaves (leaf name cs)
  one-leaf name cs n h = own-leaf name cs n (λ some spaced. one-on cs h)

  line-leaf : (name : Name) (cs : List Code) → is_leaf_name name ≡ true → IsLine cs → OwnLeaves (leaf name cs)
  line-leaf name cs n h = own-leaf name cs n (λ some spaced. on-line cs (some, h))

  -- a leaf by itself
  leaf-alone : (name : Name) (cs : List Code) → cs ≢ [] → OwnLeaves (leaf name cs) → IsPlainTree bytes (leaf name cs)
  leaf-alone name [] some h = absurd (some refl)
  leaf-alone name (c ∷ cs) some h = (h.0, refl)

  -- a group by itself, of which the first leaf is one over some codes
  group-alone : (name n : Name) (cs : List Code) (more : Forest) → is_group_name name ≡ true → cs ≢ [] → OwnLeaves (leaf n cs)
      → OwnLeaves more → IsPlainTree bytes (group name (leaf n cs ⊕ more))
  group-alone name n [] more g some h k = absurd (some refl)
  group-alone name n (c ∷ cs) more g some h k =
      (record { named = g; some = refl; enters = refl; exits = refl; leaves = (h.0, k) }, refl)

  -- or one over one code
  marked : (name n : Name) (cs : List Code) (more : Forest) → is_group_name name ≡ true → is_leaf_name n ≡ true
      → IsOneCode cs → OwnLeaves more → IsPlainTree bytes (group name (leaf n cs ⊕ more))
  marked name n cs more g l h k = group-alone name n cs more g (one-some cs h) (one-leaf n cs l h) k

  -- Escapes and hard breaks.

  pub reads_character_escape : ReadsPlain bytes character_escape
  unfolding character_escape
  reads_character_escape = record {
    covers = bind _ _ _ _ _ (takes_one _) λ slash. bind _ _ _ _ _ (takes_one _) λ value. given _ _ _ (simp codes_laws);
    plain = yields_bind IsOneCode _ _ _ (one-one _) λ slash h. yields_bind IsOneCode _ _ _ (one-one _) λ value k. yields_gives _ _
        (marked Name.CharacterEscape Name.CharacterEscapeMarker slash (leaf Name.CharacterEscapeValue value) refl refl h (one-leaf Name.CharacterEscapeValue value refl k));
  }

  pub reads_hard_break_escape : ReadsPlain bytes hard_break_escape
  unfolding hard_break_escape
  reads_hard_break_escape = record {
    covers = bind _ _ _ _ _ (seen_before _ _ _ _ (takes_one _)) λ slash. given _ _ _ (simp codes_laws);
    plain = yields_bind IsOneCode _ _ _ (yields_before _ _ _ (one-one _)) λ slash h. yields_gives _ _
        (leaf-alone Name.HardBreakEscape slash (one-some slash h) (one-leaf Name.HardBreakEscape slash refl h));
  }

-- Character references.

abbrev part_codes : Parts → List Code
part_codes p = p.front ++ (p.number ++ (p.hexadecimal ++ (p.value ++ p.back)))

record ArePartsLined (p : Parts) : Type 0 where
  front : IsSomeLine p.front
  number : IsLine p.number
  hexadecimal : IsLine p.hexadecimal
  value : IsLine p.value
  back : IsLine p.back

record ReadsParts (a : Reading Parts) : Type 0 where
  covers : Covers part_codes [] a
  lined : Yields ArePartsLined a

reads_named : (table : Table) → ReadsParts (named_parts table)
unfolding named_parts
reads_named table = record {
  covers = bind _ _ _ _ _ (takes_one _) λ front. bind _ _ _ _ _ (takes_some _) λ value.
      if_passed _ _ _ _ (bind _ _ _ _ _ (takes_one _) λ back. given _ _ _ (simp append_assoc));
  lined = yields_bind IsSomeLine _ _ _ (one-line _ λ c. refl) λ front f.
      yields_bind IsSomeLine _ _ _ (some-line _ λ c. refl) λ value v. yields_passed _ _ _ (
      yields_bind IsSomeLine _ _ _ (one-line _ λ c. refl) λ back b.
      yields_gives _ _ (record { front = f; number = refl; hexadecimal = refl; value = v.1; back = b.1 })
      );
}

reads_decimal : ReadsParts decimal_parts
unfolding decimal_parts
reads_decimal = record {
  covers = bind _ _ _ _ _ (takes_one _) λ front. bind _ _ _ _ _ (takes_one _) λ number. bind _ _ _ _ _ (takes_some _) λ value.
      if_passed _ _ _ _ (bind _ _ _ _ _ (takes_one _) λ back. given _ _ _ (simp append_assoc));
  lined = yields_bind IsSomeLine _ _ _ (one-line _ λ c. refl) λ front f.
      yields_bind IsSomeLine _ _ _ (one-line _ λ c. refl) λ number n.
      yields_bind IsSomeLine _ _ _ (some-line _ λ c. refl) λ value v. yields_passed _ _ _ (
      yields_bind IsSomeLine _ _ _ (one-line _ λ c. refl) λ back b.
      yields_gives _ _ (record { front = f; number = n.1; hexadecimal = refl; value = v.1; back = b.1 })
      );
}

reads_hexadecimal : ReadsParts hexadecimal_parts
unfolding hexadecimal_parts
reads_hexadecimal = record {
  covers = bind _ _ _ _ _ (takes_one _) λ front. bind _ _ _ _ _ (takes_one _) λ number. bind _ _ _ _ _ (takes_one _) λ x.
      bind _ _ _ _ _ (takes_some _) λ value. if_passed _ _ _ _ (bind _ _ _ _ _ (takes_one _) λ back. given _ _ _ (simp append_assoc));
  lined = yields_bind IsSomeLine _ _ _ (one-line _ λ c. refl) λ front f.
      yields_bind IsSomeLine _ _ _ (one-line _ λ c. refl) λ number n. yields_bind IsSomeLine _ _ _ (one-line _ λ c. refl) λ x h.
      yields_bind IsSomeLine _ _ _ (some-line _ λ c. refl) λ value v. yields_passed _ _ _ (
      yields_bind IsSomeLine _ _ _ (one-line _ λ c. refl) λ back b.
      yields_gives _ _ (record { front = f; number = n.1; hexadecimal = h.1; value = v.1; back = b.1 })
      );
}

module _ (bytes : List ℕ) where
  pub reads_character_reference : (table : Table) → ReadsPlain bytes (character_reference table)
  unfolding character_reference
  reads_character_reference table = record {
    covers = bind _ _ _ _ _ (one_of _ _ _ _ (reads_named table).covers (one_of _ _ _ _ reads_decimal.covers reads_hexadecimal.covers)) λ parts. given _ _ _ (simp codes_laws);
    plain = yields_bind ArePartsLined _ _ _ (yields_either _ _ _ (reads_named table).lined (yields_either _ _ _ reads_decimal.lined reads_hexadecimal.lined)) λ p h. yields_gives _ _
        (group-alone bytes Name.CharacterReference Name.CharacterReferenceMarker p.front _ refl h.front.0 (line-leaf bytes Name.CharacterReferenceMarker p.front refl h.front.1)
        (row bytes (leaf Name.CharacterReferenceMarkerNumeric p.number) _ (line-leaf bytes Name.CharacterReferenceMarkerNumeric p.number refl h.number)
        (row bytes (leaf Name.CharacterReferenceMarkerHexadecimal p.hexadecimal) _ (line-leaf bytes Name.CharacterReferenceMarkerHexadecimal p.hexadecimal refl h.hexadecimal)
        (row bytes (leaf Name.CharacterReferenceValue p.value) _ (line-leaf bytes Name.CharacterReferenceValue p.value refl h.value) (line-leaf bytes Name.CharacterReferenceMarkerSemi p.back refl h.back)))));
  }

-- Autolinks.

scheme-line : Yields IsLine scheme
unfolding scheme
scheme-line =
    yields_bind IsLine _ _ _ (then-line _ _ (some-any _ (one-line _ λ c. refl)) (some-any _ (some-line _ λ c. refl))) λ text h. yields_passed _ _ _ (yields_gives _ _ h)

label-line : Yields IsLine domain_label
unfolding domain_label
label-line = yields_bind IsSomeLine _ _ _ (some-line _ λ c. refl) λ text h. yields_passed _ _ _ (yields_gives _ _ h.1)

uri-line : (replaced : Bool) → Yields IsLine (uri replaced)
unfolding uri
uri-line replaced = then-line _ _ scheme-line (then-line _ _ (some-any _ (one-line _ λ c. refl)) (any-line _ λ c. refl))

email-line : (all : Bool) → Yields IsLine (email_address all)
unfolding email_address
email-line all =
    then-line _ _ (some-any _ (some-line _ λ c. refl)) (then-line _ _ (some-any _ (one-line _ λ c. refl)) (then-line _ _ label-line (repeatedly-line _ (then-line _ _ (some-any _ (one-line _ λ c. refl)) label-line))))

module _ (bytes : List ℕ) where
  reads_in_angle_brackets : (inside : Reading (List Code)) (name : Name) → is_leaf_name name ≡ true → Takes inside
      → Yields IsLine inside → ReadsPlain bytes (in_angle_brackets inside name)
  unfolding in_angle_brackets
  reads_in_angle_brackets inside name n takes line = record {
    covers = bind _ _ _ _ _ (takes_one _) λ front. bind _ _ _ _ _ takes λ text. bind _ _ _ _ _ (takes_one _) λ back.
        given _ _ _ (simp codes_laws);
    plain = yields_bind IsOneCode _ _ _ (one-one _) λ front f. yields_bind IsLine _ _ _ line λ text t.
        yields_bind IsOneCode _ _ _ (one-one _) λ back b. yields_gives _ _
        (marked bytes Name.Autolink Name.AutolinkMarker front _ refl refl f (row bytes (leaf name text) _ (line-leaf bytes name text n t) (one-leaf bytes Name.AutolinkMarker back refl b)));
  }

  pub reads_autolink : (rules : Rules) → ReadsPlain bytes (autolink rules)
  unfolding autolink
  reads_autolink rules =
      reads_either bytes _ _ (reads_in_angle_brackets (uri rules.nul_is_replaced) Name.AutolinkProtocol refl (takes_uri _) (uri-line _)) (reads_in_angle_brackets (email_address rules.all_address_marks) Name.AutolinkEmail refl (takes_email_address _) (email-line _))

-- Spans.

abbrev AreClosedStretches : List (List Code) × List Code → Type 0
AreClosedStretches r = AreFine r.0 × IsLine r.1

marked-line : (p : Code → Bool) → Skips p → (s : List Code) → IsOnLineIfAny s → next_is p s ≡ true → IsLine s
marked-line p skips [] h e = refl
marked-line p skips (c ∷ []) h e = ap (λ b. b || false) (not-ending p skips c e)
marked-line p skips (c ∷ d ∷ cs) h e = h

closing-lined : (p : Code → Bool) → Skips p → (n : ℕ) (ss : List (List Code)) → AreFine ss →
    PassesValue AreClosedStretches (closing_run p n ss)
unfolding closing_run
closing-lined p skips n [] h = tt
closing-lined p skips n (s ∷ ss) h = by_test (next_is p s) (length s == n) refl (closing-lined p skips n ss h.1)
  where
    by_rest : (r : Option ((List (List Code) × List Code) × List Code)) → PassesValue AreClosedStretches r
        → PassesValue AreClosedStretches (elim r [ None ↦ None | Some r ↦ Some ((s ∷ r.0.0, r.0.1), r.1) ])
    by_rest None k = tt
    by_rest (Some r) k = ((h.0, k.0), k.1)

    by_test : (a b : Bool) → next_is p s ≡ a → PassesValue AreClosedStretches (closing_run p n ss)
        → PassesValue AreClosedStretches (elim (a && b) [ true ↦ Some (([], s), joined_codes ss) | false ↦ elim (closing_run p n ss) [ None ↦ None | Some r ↦ Some ((s ∷ r.0.0, r.0.1), r.1) ] ])
    by_test true true e k = (tt, marked-line p skips s h.0 e)
    by_test true false e k = by_rest (closing_run p n ss) k
    by_test false b e k = by_rest (closing_run p n ss) k

record AreOwnNames (names : SpanNames) : Type 0 where
  whole : is_group_name names.whole ≡ true
  sequence : is_leaf_name names.sequence ≡ true
  text : is_leaf_name names.text ≡ true

module _ (bytes : List ℕ) where
  -- texts cut into stretches and line endings
  line-said : (name : Name) → is_leaf_name name ≡ true → (s : List Code) → IsSomeLine s → IsOwnLeaf bytes name None s
  line-said name n s h = record { named = n; unlinked = refl; some = h.0; line = λ spaced. on-line s h }

  ending-said : (s : List Code) → s ≢ [] → IsOnLine s → IsOwnLeaf bytes Name.LineEnding None s
  ending-said s some h = record { named = refl; unlinked = refl; some = some; line = λ spaced. h }

  reads_span : (marker : ℕ) (names : SpanNames) (allowed : ℕ → Bool) (escaped : Bool) (previous : Option Code)
      → AreOwnNames names → Skips (is_value marker) → ReadsPlain bytes (span_here marker names allowed escaped previous)
  unfolding span_here span_of
  reads_span marker names allowed escaped previous n skips = record {
    covers = if_passed _ _ _ _ (bind _ _ _ _ _ (takes_some _) λ front.
        if_passed _ _ _ _ (bind _ _ _ _ _ (covers_closing (is_value marker) (length front)) λ inside.
        given _ _ (group names.whole (leaf names.sequence front ⊕ line_leaves names.text inside.0 ⊕ leaf names.sequence inside.1)) (simp (codes_laws, codes-line_leaves))));
    plain = yields_passed _ _ _ (yields_bind IsSomeLine _ _ _ (some-line (is_value marker) skips) λ front f. yields_passed _ _ _ (
        yields_bind AreClosedStretches _ _ _ (record { at = λ cs. closing-lined (is_value marker) skips (length front) (stretches (is_value marker) cs) (fine-stretches (is_value marker) cs) }) λ inside h. yields_gives _ _
        (group-alone bytes names.whole names.sequence front _ n.whole f.0 (line-leaf bytes names.sequence front n.sequence f.1)
        (row bytes (line_leaves names.text inside.0) _ (leaves-stretches (IsOwnLeaf bytes) names.text (line-said names.text n.text) ending-said inside.0 h.0) (line-leaf bytes names.sequence inside.1 n.sequence h.1)))
        ));
  }

  pub reads_code_text : (allowed : ℕ → Bool) (escaped : Bool) (previous : Option Code)
      → ReadsPlain bytes (span_here (byte "`") code_names allowed escaped previous)
  reads_code_text allowed escaped previous =
      reads_span (byte "`") code_names allowed escaped previous (record { whole = refl; sequence = refl; text = refl }) (λ c. refl)

  pub reads_math_text : (allowed : ℕ → Bool) (escaped : Bool) (previous : Option Code)
      → ReadsPlain bytes (span_here (byte "$") math_names allowed escaped previous)
  reads_math_text allowed escaped previous =
      reads_span (byte "$") math_names allowed escaped previous (record { whole = refl; sequence = refl; text = refl }) (λ c. refl)

  -- HTML, each kind of which begins with a word.

  html-around : (text : List Code) → text ≢ [] →
      IsPlainTree bytes (group Name.HtmlText (lines Name.HtmlTextData None text))
  html-around text some = (
    record {
      named = refl;
      some = some-lines (lines Name.HtmlTextData None text) (λ e. some (sym (codes-lines Name.HtmlTextData None text) ∙ ap leaf_codes e));
      enters = refl;
      exits = refl;
      leaves = leaves-lines (IsOwnLeaf bytes) Name.HtmlTextData None (line-said Name.HtmlTextData refl) ending-said (line-said Name.SpaceOrTab refl) text;
    },
    refl,
  )
    where
      some-lines : (t : Forest) → t ≢ empty → is_nothing t ≡ false
      some-lines empty h = absurd (h refl)
      some-lines (leaf_then name link cs rest) h = refl
      some-lines (group_then name enter exit inside rest) h = refl

  html-some : (slashes : Bool) → Yields (λ (cs : List Code). cs ≢ []) (html_codes slashes)
  html-some slashes =
      record { at = λ cs. by_answer cs (html_codes slashes cs) ((takes_html_text slashes).at cs) ((html_text_takes slashes).at cs) }
    where
      none : (xs cs rest : List Code) → xs ≡ [] → xs ++ rest ≡ cs → 1 + length rest ≤ length cs → ⊥
      none xs cs rest e f l = omega (arith, l, ap length (sym f ∙ ap (λ ys. ys ++ rest) e))

      by_answer : (cs : List Code) (r : Option (List Code × List Code)) → At (λ xs. xs) [] cs r → Left 1 cs r
          → PassesValue (λ (xs : List Code). xs ≢ []) r
      by_answer cs None k l = tt
      by_answer cs (Some x) k l = λ e. none x.0 cs x.1 e k l

  pub reads_html_text : (slashes : Bool) → ReadsPlain bytes (html_text slashes)
  unfolding html_text
  reads_html_text slashes = record {
    covers = bind _ _ _ _ _ (takes_html_text slashes) λ text. given _ _ _ (append-nil _ ∙ codes-lines Name.HtmlTextData None text);
    plain = yields_bind (λ (cs : List Code). cs ≢ []) _ _ _ (html-some slashes) λ text some. yields_gives _ _ (html-around text some);
  }

  -- Checks of list items.

  check-leaf : (b : Bool) (cs : List Code) → IsOneCode cs
      → Leaves (IsOwnLeaf bytes) (leaf (elim b as (λ _. Name) [ true ↦ Name.GfmTaskListItemValueChecked | false ↦ Name.GfmTaskListItemValueUnchecked ]) cs)
  check-leaf true cs h = one-leaf bytes Name.GfmTaskListItemValueChecked cs refl h
  check-leaf false cs h = one-leaf bytes Name.GfmTaskListItemValueUnchecked cs refl h

  pub reads_gfm_task_list_item_check : ReadsPlain bytes gfm_task_list_item_check
  unfolding gfm_task_list_item_check
  reads_gfm_task_list_item_check = record {
    covers = bind _ _ _ _ _ (takes_one _) λ front. bind _ _ _ _ _ (takes_one _) λ value.
        bind _ _ _ _ _ (seen_before _ _ _ _ (takes_one _)) λ back. given _ _ _ (simp codes_laws);
    plain = yields_bind IsOneCode _ _ _ (one-one _) λ front f. yields_bind IsOneCode _ _ _ (one-one _) λ value v.
        yields_bind IsOneCode _ _ _ (yields_before _ _ _ (one-one _)) λ back b. yields_gives _ _
        (marked bytes Name.GfmTaskListItemCheck Name.GfmTaskListItemMarker front _ refl refl f
        (row bytes _ (leaf Name.GfmTaskListItemMarker back) (check-leaf (next_is (is_among (codes "xX")) value) value v) (one-leaf bytes Name.GfmTaskListItemMarker back refl b)));
  }

  -- Literals, in a document of these bytes.

  literal-alone : (name : Name) (cs : List Code) → is_leaf_name name ≡ true → cs ≢ [] → IsLineThere bytes cs
      → IsPlainTree bytes (leaf name cs)
  literal-alone name cs n some h =
      leaf-alone bytes name cs some (own-leaf bytes name cs n (λ k spaced. on-line cs (k, h spaced)))

  pub reads_gfm_autolink_literal_protocol : (end : ℕ) (previous : Option Code)
      → ReadsPlain bytes (gfm_autolink_literal_protocol bytes end previous)
  unfolding gfm_autolink_literal_protocol
  reads_gfm_autolink_literal_protocol end previous = record {
    covers = if_passed _ _ _ _ (bind _ _ _ _ _ (takes_one_word schemes) λ scheme. bind _ _ _ _ _ (takes_domain bytes end) λ host.
        bind _ _ _ _ _ (takes_path bytes end) λ further.
        given _ _ (leaf Name.GfmAutolinkLiteralProtocol (scheme ++ host ++ further)) (simp codes_laws));
    plain = yields_passed _ _ _ (yields_bind IsSomeLine _ _ _ (one-word-some schemes refl) λ scheme h.
        yields_bind (IsSomeLineThere bytes) _ _ _ (domain-line bytes end) λ host l.
        yields_bind (IsLineThere bytes) _ _ _ (path-line bytes end) λ further m. yields_gives _ _
        (literal-alone Name.GfmAutolinkLiteralProtocol (scheme ++ host ++ further) refl (some-join (scheme ++ host) further (some-join scheme host h.0))
        (join-there bytes (scheme ++ host) further (join-there bytes scheme host (λ _. h.1) l.1) m)));
  }

  reads_www_from_here : (end : ℕ) → ReadsPlain bytes (www_from_here bytes end)
  unfolding www_from_here
  reads_www_from_here end = record {
    covers = bind _ _ _ _ _ (takes_domain bytes end) λ host. bind _ _ _ _ _ (takes_path bytes end) λ further.
        given _ _ (leaf Name.GfmAutolinkLiteralWww (host ++ further)) (simp codes_laws);
    plain = yields_bind (IsSomeLineThere bytes) _ _ _ (domain-line bytes end) λ host l.
        yields_bind (IsLineThere bytes) _ _ _ (path-line bytes end) λ further m. yields_gives _ _
        (literal-alone Name.GfmAutolinkLiteralWww (host ++ further) refl (some-join host further l.0) (join-there bytes host further l.1 m));
  }

  pub reads_gfm_autolink_literal_www : (end : ℕ) (previous : Option Code) →
      ReadsPlain bytes (gfm_autolink_literal_www bytes end previous)
  unfolding gfm_autolink_literal_www
  reads_gfm_autolink_literal_www end previous = record {
    covers = record { at = λ cs. (here cs).covers.at cs };
    plain = record { at = λ cs. (here cs).plain.at cs };
  }
    where
      here : (cs : List Code) →
          ReadsPlain bytes (provided (may_precede_www previous && begins_with_www cs) >> www_from_here bytes end)
      here cs = reads_switched bytes (may_precede_www previous && begins_with_www cs) (www_from_here bytes end) (reads_www_from_here end)

-- All of them, also by a switch or one after the other.
pub ruleset plain_constructs = (
  reads_character_escape,
  reads_hard_break_escape,
  reads_character_reference,
  reads_autolink,
  reads_code_text,
  reads_math_text,
  reads_html_text,
  reads_gfm_task_list_item_check,
  reads_gfm_autolink_literal_protocol,
  reads_gfm_autolink_literal_www,
  reads_switched,
  reads_either,
)
