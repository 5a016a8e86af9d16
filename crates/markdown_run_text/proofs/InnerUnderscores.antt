-- An underscore between two letters or digits of a text.
use Rattle.std.proofs.Common.{◌≡◌, ℕ, ◌+◌, ◌<◌, ◌==◌, ◌&&◌, ◌||◌, nat_le, Bool, true, false, suc, List, [], ◌∷◌, ◌++◌, length, drop, take, get_or, Option, Some, if◌then◌else◌, not, refl, sym, ap, ◌∙◌, arith, append_assoc, inl, inr}
use Rattle.std.specs.Prelude.{IsUtf8, slice_get}
use Rattle.std.specs.Char.{is_ascii_punctuation}
use Rattle.std.specs.Str.{byte}
use Rattle.std.proofs.Math.Bool.{and-false}
use Rattle.std.proofs.lemmas.Bool.Decides.{nat_tests}
use Rattle.std.proofs.lemmas.Bool.{and_parts, eqb-true, ltb-true, ltb-false, lt-ltb, le-ltb}
use Rattle.std.proofs.lemmas.List.{drop_more, take_more, get_or_past}
use Rattle.std.proofs.lemmas.Str.{IsUtf8-drop, IsUtf8-take, IsCharBoundary-before_ascii, IsCharBoundary-after_ascii, chars_past_char, encode_ascii}
use Rattle.std.proofs.Math.Utf8.{encode}
use Rattle.markdown_content.specs.Codes.{Code, document_start, stop_of}
use Rattle.markdown_content.specs.declared.configuration.Rules.{Rules}
use Rattle.markdown_content.specs.Place.{Place, start_or}
use Rattle.markdown_content.specs.Tree.{leaf}
use Rattle.markdown_event.specs.declared.event.Name.TheVariants as N
use Rattle.markdown_model.specs.CodeTests.{is_alphanumeric, is_some_code, is_value, last_code, next_is}
use Rattle.markdown_model.specs.Elements.{attention_run, code_before, switched, text_choice, text_element}
use Rattle.markdown_model.proofs.DefinitionSteps.{code_before-append}
use Rattle.markdown_run_text.proofs.TextDataElements.{text-single}
use Rattle.markdown_run_text.specs.TextStops.{is_inner_underscore, reader_stops, text_stops}
use Rattle.markdown_run_text.specs.ElementsAsRead.{IsIntraword, IsReadAs}
use Rattle.markdown_run_text.specs.RunOverElements.{AreReadAsData}
use Rattle.markdown_run_text.proofs.TextElements.{run-element, run-off}
use Rattle.markdown_model.specs.GfmAutolinkLiteral.{is_other}
use Rattle.markdown_model.specs.Grammar.{gives, some}
use Rattle.markdown_model.specs.LabelEnd.{Element, plain}
use Rattle.markdown_model.specs.Runs.{as_read, class_beside}
use Rattle.markdown_model.specs.Setting.{Setting}
use Rattle.markdown_model.specs.TextLines.{code_leaf}
use Rattle.markdown_model.proofs.GrammarSteps.{bind-some, some-span, span-none, span-takes, switched-off, switched-on}
use Rattle.markdown_plan.specs.ByteTests.{alphanumeric_value}
use Rattle.markdown_plan.specs.Characters.{IsText}
use Rattle.markdown_util.specs.Neighbours.{after_index, before_index, class_of, listed_class_of}
use Rattle.markdown_util.specs.declared.util.char.Kind.{Kind}
use Rattle.markdown_util.proofs.AsciiClasses.{white_space_ascii, listed_space_ascii, punctuation_ascii}
use Rattle.markdown_util.proofs.LastChar.{last_char}
use Rattle.markdown_content.specs.Beside.{has_code_before, has_code_behind}
use Rattle.std.proofs.lemmas.List.Folds.{list_any-append}
use Rattle.std.specs.List.{list_any}

-- Letters and digits.

-- a letter or digit is an ASCII character above the space
bounds : (v : ℕ) → alphanumeric_value v ≡ true → (32 < v) × (v < 128)
bounds v h = grind (arith, nat_tests)

no-space : (v : ℕ) → alphanumeric_value v ≡ true → ((nat_le 9 v && nat_le v 13) || v == 32) ≡ false
no-space v h = grind (arith, nat_tests)

no-punctuation : (v : ℕ) → alphanumeric_value v ≡ true → is_ascii_punctuation v ≡ false
no-punctuation v h = grind (arith, nat_tests)

other-by : (space punctuation : Bool) → space ≡ false → punctuation ≡ false →
    is_other (elim space as (λ _. Kind) [ true ↦ Kind.Whitespace | false ↦ elim punctuation as (λ _. Kind) [ true ↦ Kind.Punctuation | false ↦ Kind.Other ] ]) ≡ true
other-by space p e f = grind arith

no-listed : (v : ℕ) → alphanumeric_value v ≡ true → ((v == 9 || (v == 10 || (v == 12 || v == 13))) || v == 32) ≡ false
no-listed v h = grind (arith, nat_tests)

no-nul : (v : ℕ) → alphanumeric_value v ≡ true → (v == 0) ≡ false
no-nul v h = grind (arith, nat_tests)

-- so it is of class other, where whitespace is White_Space
other-class : (v : ℕ) → alphanumeric_value v ≡ true → is_other (class_of (Some v)) ≡ true
unfolding class_of
other-class v h = grind (arith, bounds, other-by, white_space_ascii, no-space, punctuation_ascii, no-punctuation)

-- and where whitespace is what CommonMark lists
other-listed : (v : ℕ) → alphanumeric_value v ≡ true → is_other (listed_class_of (Some v)) ≡ true
unfolding listed_class_of
other-listed v h = grind (arith, bounds, other-by, listed_space_ascii, no-listed, punctuation_ascii, no-punctuation)

-- it is read as itself
read-itself : (r : Rules) (v : ℕ) → alphanumeric_value v ≡ true → as_read r (Some v) ≡ Some v
read-itself r v h = ap (λ b. Some (if r.nul_is_replaced && b then 0xFFFD else v)) (no-nul v h) ∙ ap (λ b. Some (if b then 0xFFFD else v)) (and-false r.nul_is_replaced)

other-beside : (r : Rules) (v : ℕ) → alphanumeric_value v ≡ true → is_other (class_beside r (Some v)) ≡ true
unfolding class_beside
other-beside r v h = grind (arith, read-itself, other-listed, other-class)

-- Bytes.

-- an ASCII byte is the character that begins at it
first-char : (bytes : List ℕ) (i v : ℕ) → IsUtf8 bytes → i < length bytes → v < 128 → get_or bytes i 0 ≡ v →
    after_index bytes i ≡ Some v
first-char bytes i v u lt low e =
    let rest : IsUtf8 (drop i bytes) = IsUtf8-drop bytes i u (IsCharBoundary-before_ascii bytes i lt (omega (arith, e, low))) in
    let split : drop i bytes ≡ encode v ++ drop (i + 1) bytes = drop_more bytes i 0 lt ∙ ap (λ x. x ∷ drop (i + 1) bytes) e ∙ ap (λ x. x ++ drop (i + 1) bytes) (sym (encode_ascii v low)) in
    ap (λ x. slice_get x 0) (chars_past_char (drop i bytes) (drop (i + 1) bytes) v rest split)

-- and the character that ends behind it
last-char : (bytes : List ℕ) (i v : ℕ) → IsUtf8 bytes → i < length bytes → v < 128 → get_or bytes i 0 ≡ v →
    before_index bytes (i + 1) ≡ Some v
last-char bytes i v u lt low e =
    let front : IsUtf8 (take (i + 1) bytes) = IsUtf8-take bytes (i + 1) u (IsCharBoundary-after_ascii bytes i u lt (omega (arith, e, low))) in
    let split : take (i + 1) bytes ≡ take i bytes ++ encode v = take_more bytes i 0 lt ∙ ap (λ x. take i bytes ++ x ∷ []) e ∙ ap (λ x. take i bytes ++ x) (sym (encode_ascii v low)) in
    last_char (take (i + 1) bytes) (take i bytes) v front (grind (arith, nat_tests)) split

-- a byte that is not 0 is one of the text
within : (bytes : List ℕ) (i v : ℕ) → get_or bytes i 0 ≡ v → 32 < v → i < length bytes
within bytes i v e h = grind (arith, ltb-true, ltb-false, get_or_past)

-- Codes.

-- the last of some codes
record EndsWith (cs : List Code) (b : Code) : Type 0 where
  front : List Code
  whole : cs ≡ front ++ b ∷ []

ends-with : (cs : List Code) → is_some_code is_alphanumeric (last_code cs) ≡ true → (b : Code) × (EndsWith cs b × (is_alphanumeric b ≡ true))
ends-with [] h = cc
ends-with (c ∷ []) h = (c, (record { front = []; whole = refl }, h))
ends-with (c ∷ d ∷ cs) h =
    let more = ends-with (d ∷ cs) h in
    (more.0, (record { front = c ∷ more.1.0.front; whole = ap (λ xs. c ∷ xs) more.1.0.whole }, more.1.1))

there : (front : List Code) (c : Code) (cs : List Code) → slice_get (front ++ c ∷ cs) (length front) ≡ Some c
there [] c cs = refl
there (d ∷ front) c cs = there front c cs

after : (front : List Code) (b c : Code) (cs : List Code) → slice_get (front ++ b ∷ c ∷ cs) (suc (length front)) ≡ Some c
after [] b c cs = refl
after (d ∷ front) b c cs = after front b c cs

third : (front : List Code) (b c d : Code) (cs : List Code) → slice_get (front ++ b ∷ c ∷ d ∷ cs) (suc (suc (length front))) ≡ Some d
third [] b c d cs = refl
third (e ∷ front) b c d cs = third front b c d cs

-- The codes beside it.

or-true : (b : Bool) → (b || true) ≡ true
or-true b = grind arith

and-both : (a b : Bool) → a ≡ true → b ≡ true → (a && b) ≡ true
and-both a b h k = λ i. h i && k i

any-front : (f : Code → Bool) (front : List Code) (b : Code) (rest : List Code) → f b ≡ true → list_any f (front ++ b ∷ rest) ≡ true
any-front f front b rest h = grind (arith, list_any-append, or-true)

joins-before : (front : List Code) (b : Code) (rest all : List Code) → all ≡ front ++ b ∷ rest → (i : ℕ) → i ≡ b.start.index + 1 →
    b.stop.index ≡ b.start.index + 1 → has_code_before all i ≡ true
joins-before front b rest all whole i from past = grind (arith, any-front, and-both, lt-ltb, le-ltb)

joins-behind : (front : List Code) (a : Code) (rest all : List Code) → all ≡ front ++ a ∷ rest → (i : ℕ) → a.start.index ≡ i →
    a.stop.index ≡ a.start.index + 1 → has_code_behind all i ≡ true
joins-behind front a rest all whole i from past = grind (arith, any-front, and-both, le-ltb, lt-ltb)

module _ (bytes : List ℕ) (p : Place) (text : IsText bytes p) where
  -- what stands at a letter or digit
  record ByteStands (b : Code) : Type 0 where
    in_bytes : b.start.index < length bytes
    byte_is : get_or bytes b.start.index 0 ≡ b.value

  stands : (n : ℕ) (b : Code) → slice_get p.codes n ≡ Some b → is_alphanumeric b ≡ true → ByteStands b
  stands n b at h = grind (arith, bounds b.value, within bytes b.start.index b.value)

  inner-from : (front : List Code) (b c a : Code) (cs : List Code) → p.codes ≡ front ++ b ∷ c ∷ a ∷ cs →
      c.value ≡ byte "_" → is_alphanumeric b ≡ true → is_alphanumeric a ≡ true → IsIntraword (record { bytes = bytes; content = p.codes }) c
  inner-from front b c a cs whole marker h k =
      let at_b : slice_get p.codes (length front) ≡ Some b = ap (λ xs. slice_get xs (length front)) whole ∙ there front b (c ∷ a ∷ cs) in
      let at_c : slice_get p.codes (suc (length front)) ≡ Some c = ap (λ xs. slice_get xs (suc (length front))) whole ∙ after front b c (a ∷ cs) in
      let at_a : slice_get p.codes (suc (suc (length front))) ≡ Some a = ap (λ xs. slice_get xs (suc (suc (length front)))) whole ∙ third front b c a cs in
      let from : c.start.index ≡ b.start.index + 1 = ap (λ o. (start_or o p.end).index) (sym at_c) ∙ text.behind (length front) b at_b (bounds b.value h).0 in
      let past : a.start.index ≡ c.start.index + 1 = ap (λ o. (start_or o p.end).index) (sym at_a) ∙ text.behind (suc (length front)) c at_c (omega (arith, marker)) in
      let sb : ByteStands b = stands (length front) b at_b h in
      let sa : ByteStands a = stands (suc (suc (length front))) a at_a k in
      record {
        marker = marker;
        before = λ r. ap (λ i. is_other (class_beside r (before_index bytes i))) from
            ∙ ap (λ o. is_other (class_beside r o)) (last-char bytes b.start.index b.value text.text sb.in_bytes (bounds b.value h).1 sb.byte_is)
            ∙ other-beside r b.value h;
        after = λ r. ap (λ i. is_other (class_beside r (after_index bytes i))) (sym past)
            ∙ ap (λ o. is_other (class_beside r o)) (first-char bytes a.start.index a.value text.text sa.in_bytes (bounds a.value k).1 sa.byte_is)
            ∙ other-beside r a.value k;
        joined_before = joins-before front b (c ∷ a ∷ cs) p.codes whole c.start.index from (text.past (length front) b at_b (bounds b.value h).0);
        joined_behind = joins-behind (front ++ b ∷ c ∷ []) a cs p.codes (whole ∙ sym (append_assoc front (b ∷ c ∷ []) (a ∷ cs))) (c.start.index + 1) past (text.past (suc (suc (length front))) a at_a (bounds a.value k).0);
      }

  -- where the test holds, neither whitespace nor punctuation is beside the underscore
  inner-found : (front : List Code) (c : Code) (cs : List Code) → p.codes ≡ front ++ c ∷ cs →
      is_inner_underscore p.codes (c ∷ cs) ≡ true → IsIntraword (record { bytes = bytes; content = p.codes }) c
  inner-found front c cs whole h = behind cs whole parts.1.1
    where
      parts : (is_value (byte "_") c ≡ true) × ((is_some_code is_alphanumeric (code_before p.codes (c ∷ cs)) ≡ true) × (next_is is_alphanumeric cs ≡ true))
      parts =
          let one = and_parts (is_value (byte "_") c) _ h in
          (one.0, and_parts (is_some_code is_alphanumeric (code_before p.codes (c ∷ cs))) (next_is is_alphanumeric cs) one.1)

      last : (b : Code) × (EndsWith front b × (is_alphanumeric b ≡ true))
      last = ends-with front (ap (is_some_code is_alphanumeric) (sym (ap (λ xs. code_before xs (c ∷ cs)) whole ∙ code_before-append front (c ∷ cs))) ∙ parts.1.0)

      behind : (cs : List Code) → p.codes ≡ front ++ c ∷ cs → next_is is_alphanumeric cs ≡ true → IsIntraword (record { bytes = bytes; content = p.codes }) c
      behind [] e k = cc
      behind (a ∷ cs) e k =
          inner-from last.1.0.front last.0 c a cs
          (e ∙ ap (λ xs. xs ++ c ∷ a ∷ cs) last.1.0.whole ∙ append_assoc last.1.0.front (last.0 ∷ []) (c ∷ a ∷ cs))
          (eqb-true c.value (byte "_") parts.0) last.1.1 k

-- Elements.

-- an underscore with no other behind it is a run by itself
run-alone : (c : Code) (cs : List Code) → is_value (byte "_") c ≡ true → next_is (is_value (byte "_")) cs ≡ false →
    attention_run (byte "_") (c ∷ cs) ≡ Some (plain (leaf N.AttentionSequence (c ∷ [])), cs)
unfolding attention_run gives
run-alone c cs e none =
    bind-some (some (is_value (byte "_"))) _ (c ∷ cs) (c ∷ []) cs (Some (plain (leaf N.AttentionSequence (c ∷ [])), cs))
    (some-span (is_value (byte "_")) (c ∷ cs) c [] cs
    (span-takes (is_value (byte "_")) c cs e ∙ ap (λ (s : List Code × List Code). (c ∷ s.0, s.1)) (span-none (is_value (byte "_")) cs none)))
    refl

no-marker : (cs : List Code) → next_is is_alphanumeric cs ≡ true → next_is (is_value (byte "_")) cs ≡ false
no-marker cs h = grind (arith, nat_tests)

underscore-leaf : (c : Code) → c.value ≡ byte "_" → code_leaf c ≡ leaf N.Data (c ∷ [])
underscore-leaf c e = grind arith

-- an element of one code that is read as data
abbrev IsReadOne : Setting → List Code → ℕ → List Element → Option Code → Code → List Code → Type 0
IsReadOne s content end earlier previous c cs =
    (e : Element) × ((text_element s end earlier previous (c ∷ cs) ≡ Some (e, cs)) × IsReadAs (record { bytes = s.bytes; content = content }) e (plain (code_leaf c)))

inner-read : (s : Setting) (content : List Code) (end : ℕ) (earlier : List Element) (previous : Option Code) (c : Code) (cs : List Code) →
    IsIntraword (record { bytes = s.bytes; content = content }) c → next_is (is_value (byte "_")) cs ≡ false → IsReadOne s content end earlier previous c cs
unfolding switched
inner-read s content end earlier previous c cs inner none = by_switch s.options.constructs.attention refl
  where
    by_switch : (b : Bool) → s.options.constructs.attention ≡ b → IsReadOne s content end earlier previous c cs
    by_switch true on = (
      plain (leaf N.AttentionSequence (c ∷ [])),
      (
        run-element s end earlier previous (byte "_") c cs (leaf N.AttentionSequence (c ∷ [])) cs refl inner.marker
            (switched-on (attention_run (byte "_")) s.options.constructs.attention (c ∷ cs) on ∙ run-alone c cs (ap (λ v. v == byte "_") inner.marker) none),
        inr (c, (inner, (refl, ap plain (underscore-leaf c inner.marker)))),
      ),
    )
    by_switch false off = (
      plain (code_leaf c),
      (
        run-off s end earlier previous (byte "_") c cs refl inner.marker (switched-off (attention_run (byte "_")) s.options.constructs.attention (c ∷ cs) off),
        inl refl,
      ),
    )

-- each code where the reader of data does not stop is read as data
pub text-read : (s : Setting) (p : Place) (on : Bool) → IsText s.bytes p → on ≡ s.options.constructs.gfm_autolink_literal →
    AreReadAsData (record { bytes = s.bytes; content = p.codes }) (text_choice s p.codes) (reader_stops p.codes on) p.codes
text-read s p on text same front earlier previous c cs whole free = by_stop (text_stops on (c ∷ cs)) refl free
  where
    by_inner : (b : Bool) → is_inner_underscore p.codes (c ∷ cs) ≡ b → not b ≡ false →
        IsReadOne (record s { content = p.codes }) p.codes (stop_of document_start p.codes).index earlier previous c cs
    by_inner false e k = cc
    by_inner true e k =
        inner-read (record s { content = p.codes }) p.codes (stop_of document_start p.codes).index earlier previous c cs (inner-found s.bytes p text front c cs whole e)
        (no-marker cs (and_parts (is_some_code is_alphanumeric (code_before p.codes (c ∷ cs))) (next_is is_alphanumeric cs) (and_parts (is_value (byte "_") c) _ e).1).1)

    by_stop : (b : Bool) → text_stops on (c ∷ cs) ≡ b → (b && not (is_inner_underscore p.codes (c ∷ cs))) ≡ false →
        IsReadOne (record s { content = p.codes }) p.codes (stop_of document_start p.codes).index earlier previous c cs
    by_stop false e k = (plain (code_leaf c), (text-single s on p.codes same front earlier previous c cs whole e, inl refl))
    by_stop true e k = by_inner (is_inner_underscore p.codes (c ∷ cs)) refl k
