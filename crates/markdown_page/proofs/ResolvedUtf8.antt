-- A UTF-8 text with its escapes and references resolved is UTF-8.
use Rattle.std.proofs.Common.{◌≡◌, ◌∙◌, sym, ap, refl, subst, ℕ, zero, suc, ◌+◌, ◌<◌, ◌≤◌, Bool, true, false, ◌&&◌, ◌==◌, nat_lt, if◌then◌else◌, List, [], ◌∷◌, ◌++◌, append_assoc, length, take, drop, get_or, Option, None, Some, encode_utf8, arith}
use Rattle.std.specs.Prelude.{IfSome}
use Rattle.std.specs.Char.{is_ascii_punctuation, IsScalar}
use Rattle.std.specs.List.{list_all, prefix_len}
use Rattle.std.specs.Str.{IsUtf8, is_utf8, bytes_eq, chars}
use Rattle.std.specs.Str.Parse.{digits_value}
use Rattle.std.proofs.Math.Seq.{drop-append-add, get_or-append_seam, take-append_seam}
use Rattle.std.proofs.Math.Utf8.{encode}
use Rattle.std.proofs.lemmas.Bool.{and_parts}
use Rattle.std.proofs.lemmas.Bool.Decides.{nat_tests}
use Rattle.std.proofs.lemmas.List.{drop-drop, length-append, length-drop, take-append-drop}
use Rattle.std.proofs.lemmas.Option.{IfSome_then}
use Rattle.std.proofs.lemmas.Str.{encode_ascii, IsUtf8-append, IsUtf8-drop, IsUtf8-encode, IsUtf8-from_is_utf8, IsUtf8-take, IsCharBoundary-after_ascii, IsCharBoundary-before_ascii}
use Rattle.markdown_util.specs.Reference.{Table, character_by, decoded_by, is_value, is_value_byte, named_value, radix_of, rows_named, html_rows, html_4_rows, html_5_rows}
use Rattle.markdown_util.specs.Reference.{html_4_capitals, html_4_a_to_d, html_4_e_to_l, html_4_m_to_r, html_4_s_to_z, html_5_capitals, html_5_a_to_d, html_5_e_to_l, html_5_m_to_r, html_5_s_to_z}
use Rattle.markdown_util.specs.declared.decoding.Decoding.{Decoding}
use Rattle.markdown_util.specs.declared.util.character_reference.Names.{Names}
use Rattle.markdown_util.specs.declared.util.character_reference.Names.TheVariants.{Html4, Html5, Html}
use Rattle.markdown_html_model.specs.Resolved.{begins_with, first_text, is_semicolon, marker_ahead, reference_ahead, resolved, resolved_after, value_ahead}
use Rattle.markdown_block_definitions.specs.DefinitionTexts.{Texts}
use Rattle.markdown_page.specs.DefinitionStrings.{IsTextual}

-- What references stand for.

abbrev are_utf8 : Table → Bool
are_utf8 rows = list_all (λ row. is_utf8 row.1) rows

html_4_utf8 : are_utf8 html_4_rows ≡ true
unfolding html_4_rows html_4_capitals html_4_a_to_d html_4_e_to_l html_4_m_to_r html_4_s_to_z is_utf8 chars encode
html_4_utf8 = refl

html_5_utf8 : are_utf8 html_5_rows ≡ true
unfolding html_5_rows html_5_capitals html_5_a_to_d html_5_e_to_l html_5_m_to_r html_5_s_to_z is_utf8 chars encode
html_5_utf8 = refl

html_utf8 : are_utf8 html_rows ≡ true
unfolding html_rows is_utf8 chars encode
html_utf8 = refl

names-utf8 : (names : Names) → are_utf8 (rows_named names) ≡ true
names-utf8 Html4 = html_4_utf8
names-utf8 Html5 = html_5_utf8
names-utf8 Html = html_utf8

named-utf8 : (rows : Table) (name text : List ℕ) → are_utf8 rows ≡ true → named_value rows name ≡ Some text → IsUtf8 text
named-utf8 [] name text h e = absurd (cc)
named-utf8 (row ∷ rows) name text h e =
    let parts = and_parts (is_utf8 row.1) (are_utf8 rows) h in
    either (bytes_eq row.0 name) (IsUtf8-from_is_utf8 row.1 parts.0) (named-utf8 rows name text parts.1) e
  where
    either : (found : Bool) → IsUtf8 row.1 → (named_value rows name ≡ Some text → IsUtf8 text) → elim found [ true ↦ Some row.1 | false ↦ named_value rows name ] ≡ Some text → IsUtf8 text
    either true u others e = let same : row.1 ≡ text = cc in subst IsUtf8 same u
    either false u others e = others e

character-scalar : (kept : Bool) (n : ℕ) → IsScalar (character_by kept n)
character-scalar true n = grind (arith, nat_tests)
character-scalar false n = grind (arith, nat_tests)

decoded-utf8 : (how : Decoding) (value : List ℕ) (marker : ℕ) (text : List ℕ) → decoded_by how value marker ≡ Some text → IsUtf8 text
decoded-utf8 how value marker text e = either (marker == 38) e
  where
    either : (name : Bool) → elim name [ true ↦ named_value (rows_named how.names) value | false ↦ Some (encode_utf8 (character_by how.controls_are_kept (digits_value (radix_of marker) value))) ] ≡ Some text → IsUtf8 text
    either true e = named-utf8 (rows_named how.names) value text (names-utf8 how.names) e
    either false e =
        let c = character_by how.controls_are_kept (digits_value (radix_of marker) value) in
        let same : encode_utf8 c ≡ text = cc in
        subst IsUtf8 same (IsUtf8-encode c (character-scalar how.controls_are_kept (digits_value (radix_of marker) value)))

-- A text on the two sides of an ASCII byte.

module _ (front : List ℕ) (b : ℕ) (rest : List ℕ) (low : b < 128) (u : IsUtf8 (front ++ b ∷ rest)) where
  ascii-inside : length front < length (front ++ b ∷ rest)
  ascii-inside = omega (arith, length-append front (b ∷ rest))

  ascii-seam : get_or (front ++ b ∷ rest) (length front) 0 < 128
  ascii-seam = omega (arith, low, get_or-append_seam front b rest 0)

  before-ascii : IsUtf8 front
  before-ascii =
      subst IsUtf8 (take-append_seam front (b ∷ rest))
      (IsUtf8-take (front ++ b ∷ rest) (length front) u (IsCharBoundary-before_ascii (front ++ b ∷ rest) (length front) ascii-inside ascii-seam))

  behind-ascii : IsUtf8 rest
  behind-ascii =
      subst IsUtf8 (drop-append-add front (b ∷ rest) 1)
      (IsUtf8-drop (front ++ b ∷ rest) (length front + 1) u (IsCharBoundary-after_ascii (front ++ b ∷ rest) (length front) u ascii-inside ascii-seam))

-- What is read first.

ascii-utf8 : (b : ℕ) → b < 128 → IsUtf8 (b ∷ [])
ascii-utf8 b low = let is : IsScalar b = grind (arith, nat_tests) in subst IsUtf8 (encode_ascii b low) (IsUtf8-encode b is)

-- what is read and what is left behind it
abbrev AreUtf8 : List ℕ × ℕ → List ℕ → Type 0
AreUtf8 read text = IsUtf8 read.0 × IsUtf8 (drop read.1 text)

behind-semicolon : (n : ℕ) (text : List ℕ) → IsUtf8 text → begins_with is_semicolon (drop n text) ≡ true → IsUtf8 (drop (n + 1) text)
behind-semicolon n text u e = ends (drop n text) refl e
  where
    ends : (rest : List ℕ) → drop n text ≡ rest → begins_with is_semicolon rest ≡ true → IsUtf8 (drop (n + 1) text)
    ends [] same e = absurd (cc)
    ends (b ∷ rest) same e =
        let low : b < 128 = grind (arith, nat_tests) in
        let whole : text ≡ take n text ++ b ∷ rest = sym (take-append-drop n text) ∙ ap (λ bs. take n text ++ bs) same in
        let left : drop (n + 1) text ≡ rest = sym (drop-drop 1 n text) ∙ ap (drop 1) same in
        subst IsUtf8 (sym left) (behind-ascii (take n text) b rest low (subst IsUtf8 whole u))

value-utf8 : (how : Decoding) (marker m : ℕ) (after : List ℕ) (r : List ℕ × ℕ) → IsUtf8 after → value_ahead how marker (drop m after) ≡ Some r → AreUtf8 (r.0, m + r.1) after
value-utf8 how marker m after r u e = either _ refl e
  where
    n : ℕ
    n = prefix_len (is_value_byte marker) (drop m after)

    value : List ℕ
    value = take n (drop m after)

    known : is_value marker value && begins_with is_semicolon (drop n (drop m after)) ≡ true → (text : Option (List ℕ)) → decoded_by how value marker ≡ text
        → elim text [ None ↦ None | Some text ↦ Some (text, n + 1) ] ≡ Some r → AreUtf8 (r.0, m + r.1) after
    known whole None is e = absurd (cc)
    known whole (Some text) is e =
        let same : (text, n + 1) ≡ r = cc in
        let ends = (and_parts (is_value marker value) (begins_with is_semicolon (drop n (drop m after))) whole).1 in
        let left : IsUtf8 (drop ((m + n) + 1) after) = behind-semicolon (m + n) after u (ap (begins_with is_semicolon) (sym (drop-drop n m after)) ∙ ends) in
        let place : (m + n) + 1 ≡ m + (n + 1) = omega arith in
        subst (λ (x : List ℕ × ℕ). AreUtf8 (x.0, m + x.1) after) same (decoded-utf8 how value marker text is, subst (λ k. IsUtf8 (drop k after)) place left)

    either : (whole : Bool) → (is_value marker value && begins_with is_semicolon (drop n (drop m after))) ≡ whole
        → (if whole then elim (decoded_by how value marker) [ None ↦ None | Some text ↦ Some (text, n + 1) ] else None) ≡ Some r → AreUtf8 (r.0, m + r.1) after
    either true whole e = known whole (decoded_by how value marker) refl e
    either false whole e = absurd (cc)

reference-utf8 : (how : Decoding) (after : List ℕ) (r : List ℕ × ℕ) → IsUtf8 after → reference_ahead how after ≡ Some r → AreUtf8 r after
unfolding reference_ahead
reference-utf8 how after r u e = either (value_ahead how (marker_ahead after).0 (drop (marker_ahead after).1 after)) refl e
  where
    either : (v : Option (List ℕ × ℕ)) → value_ahead how (marker_ahead after).0 (drop (marker_ahead after).1 after) ≡ v
        → elim v [ None ↦ None | Some x ↦ Some (x.0, (marker_ahead after).1 + x.1) ] ≡ Some r → AreUtf8 r after
    either None is e = absurd (cc)
    either (Some x) is e = let same : (x.0, (marker_ahead after).1 + x.1) ≡ r = cc in subst (λ y. AreUtf8 y after) same (value-utf8 how (marker_ahead after).0 (marker_ahead after).1 after x u is)

escape-utf8 : (rest : List ℕ) → IsUtf8 rest → begins_with is_ascii_punctuation rest ≡ true → AreUtf8 (take 1 rest, 1) rest
escape-utf8 [] u e = absurd (cc)
escape-utf8 (b ∷ rest) u e = let low : b < 128 = grind (arith, nat_tests) in (ascii-utf8 b low, behind-ascii [] b rest low u)

first-utf8 : (how : Decoding) (b : ℕ) (rest : List ℕ) → b < 128 → IsUtf8 rest → AreUtf8 (first_text how b rest) rest
first-utf8 how b rest low u = pick (b == 92) (begins_with is_ascii_punctuation rest) (b == 38) refl
  where
    alone : AreUtf8 (b ∷ [], 0) rest
    alone = (ascii-utf8 b low, u)

    referred : (r : Option (List ℕ × ℕ)) → reference_ahead how rest ≡ r → AreUtf8 (elim r [ None ↦ (b ∷ [], 0) | Some x ↦ x ]) rest
    referred None is = alone
    referred (Some x) is = reference-utf8 how rest x u is

    pick : (p c q : Bool) → begins_with is_ascii_punctuation rest ≡ c
        → AreUtf8 (if p && c then (take 1 rest, 1) else (if q then elim (reference_ahead how rest) [ None ↦ (b ∷ [], 0) | Some r ↦ r ] else (b ∷ [], 0))) rest
    pick true true q e = escape-utf8 rest u e
    pick true false true e = referred (reference_ahead how rest) refl
    pick true false false e = alone
    pick false c true e = referred (reference_ahead how rest) refl
    pick false c false e = alone

-- The whole text.

resolved_after-drop : (how : Decoding) (n : ℕ) (rest : List ℕ) → resolved_after how n rest ≡ resolved how (drop n rest)
unfolding resolved
resolved_after-drop how (suc n) (b ∷ rest) = resolved_after-drop how n rest
resolved_after-drop how n rest = refl

resolved-first : (how : Decoding) (b : ℕ) (rest : List ℕ) → (let first = first_text how b rest in resolved how (b ∷ rest) ≡ first.0 ++ resolved how (drop first.1 rest))
unfolding resolved
resolved-first how b rest = ap (λ bs. (first_text how b rest).0 ++ bs) (resolved_after-drop how (first_text how b rest).1 rest)

-- a byte that is not ASCII stands as it is
high-read : (how : Decoding) (b : ℕ) (rest : List ℕ) → nat_lt b 128 ≡ false → resolved how (b ∷ rest) ≡ b ∷ resolved how rest
high-read how b rest e =
    let no_escape : (b == 92) ≡ false = grind (arith, nat_tests) in
    let no_reference : (b == 38) ≡ false = grind (arith, nat_tests) in
    let alone : first_text how b rest ≡ (b ∷ [], 0) = rw (no_escape, no_reference) refl in
    resolved-first how b rest ∙ ap (λ (f : List ℕ × ℕ). f.0 ++ resolved how (drop f.1 rest)) alone

-- what stands in front stays
abbrev IsKept : Decoding → ℕ → Type 0
IsKept how n = (front text : List ℕ) → length text ≤ n → IsUtf8 (front ++ text) → IsUtf8 (front ++ resolved how text)

kept-step : (how : Decoding) (n : ℕ) → IsKept how n → (front : List ℕ) (b : ℕ) (rest : List ℕ) → length rest ≤ n → IsUtf8 (front ++ b ∷ rest)
    → (low : Bool) → nat_lt b 128 ≡ low → IsUtf8 (front ++ resolved how (b ∷ rest))
kept-step how n shorter front b rest fits u true e =
    let low : b < 128 = grind (arith, nat_tests) in
    let read = first_text how b rest in
    let first = first-utf8 how b rest low (behind-ascii front b rest low u) in
    let others = shorter [] (drop read.1 rest) (omega (arith, fits, length-drop read.1 rest)) first.1 in
    subst (λ bs. IsUtf8 (front ++ bs)) (sym (resolved-first how b rest))
    (IsUtf8-append front (read.0 ++ resolved how (drop read.1 rest)) (before-ascii front b rest low u) (IsUtf8-append read.0 (resolved how (drop read.1 rest)) first.0 others))
kept-step how n shorter front b rest fits u false e =
    subst (λ bs. IsUtf8 (front ++ bs)) (sym (high-read how b rest e))
    (subst IsUtf8 (append_assoc front (b ∷ []) (resolved how rest))
    (shorter (front ++ b ∷ []) rest fits (subst IsUtf8 (sym (append_assoc front (b ∷ []) rest)) u)))

kept-utf8 : (how : Decoding) (n : ℕ) → IsKept how n
unfolding resolved
kept-utf8 how n front [] fits u = u
kept-utf8 how zero front (b ∷ rest) fits u = absurd (omega (arith, fits))
kept-utf8 how (suc n) front (b ∷ rest) fits u = kept-step how n (kept-utf8 how n) front b rest (omega (arith, fits)) u (nat_lt b 128) refl

pub resolved-utf8 : (how : Decoding) (text : List ℕ) → IsUtf8 text → IsUtf8 (resolved how text)
resolved-utf8 how text u = kept-utf8 how (length text) [] text (omega arith) u

-- the texts of a definition
pub utf8-textual : (how : Decoding) (t : Texts) → IsUtf8 t.label → IsUtf8 t.destination → IfSome t.title IsUtf8 → IsTextual how t
utf8-textual how t label destination title = (label, (resolved-utf8 how t.destination destination, IfSome_then t.title title (resolved-utf8 how)))
