-- Labels: what their reading gives, by the next code.
use Rattle.std.proofs.Common.{◌≡◌, ℕ, ◌+◌, ◌==◌, ◌&&◌, ◌||◌, not, nat_le, codes, Bool, true, false, if◌then◌else◌, Option, Some, None, List, [], ◌∷◌, ◌++◌, refl, sym, ap, ◌∙◌, arith}
use Rattle.std.proofs.Math.Bool.{or-true, or-false}
use Rattle.std.proofs.lemmas.Bool.{eqb-true}
use Rattle.std.proofs.lemmas.Bool.Decides.{nat_tests}
use Rattle.std.proofs.lemmas.Grind.{common_steps}
use Rattle.std.specs.List.{list_any}
use Rattle.markdown_content.specs.Codes.{Code, is_line_ending, is_blank}
use Rattle.markdown_content.specs.Content.{has_no_blank_line}
use Rattle.markdown_content.specs.Tree.{Forest}
use Rattle.markdown_event.specs.declared.event.Name.TheVariants as N
use Rattle.markdown_model.specs.CodeTests.{is_value, is_among, is_whitespace_code, next_is}
use Rattle.markdown_model.specs.Grammar.{Reading, ◌>>=◌, ◌>>◌, gives, provided, one, up_to}
use Rattle.markdown_model.specs.Resource.{StringNames, begins_character, counted, label, between_markers}
use Rattle.markdown_plan.specs.Plan.{preceded}
use Rattle.markdown_model.proofs.NoLinkInConstructs.{yields_bind, yields_gives, yields_passed, then_any}
use Rattle.markdown_model.proofs.OneLineReadings.{IsOneCode, one-one, one-some}
use Rattle.markdown_model.proofs.ReadingsCover.{covers_label}
use Rattle.markdown_partial.specs.LinkedTreeOps.{tree_ops, plan_of}
use Rattle.markdown_partial.specs.LinkedText.{ending, break_ops, ends_filled, answer}
use Rattle.markdown_partial.specs.PartialLabel.{opening, counted_up, text_from, fits, break_plan}
use Rattle.markdown_partial.proofs.EscapedTextReadings.{text}
use Rattle.markdown_partial.proofs.LinkedTreeLemmas.{ReadsLinked}
use Rattle.markdown_partial.proofs.LinkedTextLines.{BeginsWithText, AreBlank, between-linked}
use Rattle.markdown_partial.proofs.LinkedTextReadings.{filled-data, filled-ending, filled-none}
use Rattle.markdown_partial.proofs.PartialTitleReadings.{of-white, filled-back, between-ops}
use Rattle.markdown_model.proofs.GrammarSteps.{bind-some, bind-none, after-some, after-none, one-here, one-not, provided-true, provided-false}

-- whitespace is no bracket and no backslash
pub label-plain : (c : Code) → is_whitespace_code c ≡ true →
    (is_value 93 c ≡ false) × ((is_value 91 c ≡ false) × ((c.value == 92) ≡ false))
label-plain c h =
    let Q : ℕ → ℕ → Type 0 = λ n v. (v == n) ≡ false in
    (of-white c (Q 93) h refl refl refl, (of-white c (Q 91) h refl refl refl, of-white c (Q 92) h refl refl refl))

-- The tests of a label, by its first code.

abbrev is_filled : Code → Bool
is_filled c = not (is_whitespace_code c)

abbrev any_filled : List Code → Bool
any_filled text = list_any is_filled text

or-assoc : (a b c : Bool) → a || (b || c) ≡ (a || b) || c
or-assoc true b c = refl
or-assoc false b c = refl

-- what a code counts that is no line ending
abbrev pub counts : Bool → Code → Bool
counts characters c = not characters || begins_character c

module _ (characters : Bool) where
  abbrev elsewhere : Bool → Code → List Code → ℕ
  elsewhere blank c cs =
      elim blank as (λ _. ℕ) [
        | true ↦ counted characters true cs
        | false ↦ (if counts characters c then 1 else 0) + counted characters false cs
      ]

  counted-ending : (indent : Bool) (c : Code) (cs : List Code) → is_line_ending c ≡ true →
      counted characters indent (c ∷ cs) ≡ (if characters then 1 else 0) + counted characters true cs
  counted-ending indent c cs e =
      ap (λ b. elim b as (λ _. ℕ) [ true ↦ (if characters then 1 else 0) + counted characters true cs | false ↦ elsewhere (indent && is_blank c) c cs ]) e

  counted-blank : (c : Code) (cs : List Code) → is_line_ending c ≡ false → is_blank c ≡ true →
      counted characters true (c ∷ cs) ≡ counted characters true cs
  counted-blank c cs e h =
      ap (λ b. elim b as (λ _. ℕ) [ true ↦ (if characters then 1 else 0) + counted characters true cs | false ↦ elsewhere (is_blank c) c cs ]) e
      ∙ ap (λ b. elsewhere b c cs) h

  counted-data : (indent : Bool) (c : Code) (cs : List Code) → is_line_ending c ≡ false → indent && is_blank c ≡ false →
      counted characters indent (c ∷ cs) ≡ (if counts characters c then 1 else 0) + counted characters false cs
  counted-data indent c cs e h =
      ap (λ b. elim b as (λ _. ℕ) [ true ↦ (if characters then 1 else 0) + counted characters true cs | false ↦ elsewhere (indent && is_blank c) c cs ]) e
      ∙ ap (λ b. elsewhere b c cs) h

one-more : (b : Bool) (m n : ℕ) → m + ((if b then 1 else 0) + n) ≡ counted_up b m + n
one-more true m n = omega arith
one-more false m n = omega arith

all-three : (a b c x y z : Bool) → a ≡ x → b ≡ y → c ≡ z → a && (b && c) ≡ (x && (y && z))
all-three a b c x y z e f g = ap (λ p. p && (b && c)) e ∙ ap (λ p. x && (p && c)) f ∙ ap (λ p. x && (y && p)) g

white-code : (c : Code) → is_line_ending c ≡ false → is_whitespace_code c ≡ is_blank c
white-code c e = ap (λ b. is_blank c || b) e ∙ or-false (is_blank c)

-- data begins or goes on
pub fits-data : (characters : Bool) (size : ℕ) (seen : Bool) (c : Code) (text : List Code) → is_line_ending c ≡ false →
    fits characters size seen (c ∷ text) ≡ fits characters (counted_up (counts characters c) size) (seen || not (is_blank c)) text
fits-data characters size seen c text e =
    all-three (seen || (is_filled c || any_filled text)) (nat_le (size + counted characters false (c ∷ text)) 999) (ends_filled true (c ∷ text)) ((seen || not (is_blank c)) || any_filled text) (nat_le (counted_up (counts characters c) size + counted characters false text) 999) (ends_filled true text)
    (or-assoc seen (is_filled c) (any_filled text) ∙ ap (λ b. (seen || not b) || any_filled text) (white-code c e))
    (ap (λ n. nat_le n 999) (ap (λ n. size + n) (counted-data characters false c text e refl) ∙ one-more (counts characters c) size (counted characters false text)))
    (filled-data c text e)

any-blank : (ws text : List Code) → AreBlank ws → any_filled (ws ++ text) ≡ any_filled text
any-blank [] text k = refl
any-blank (w ∷ ws) text k =
    ap (λ b. not b || any_filled (ws ++ text)) (white-code w k.0.1 ∙ k.0.0) ∙ any-blank ws text k.1

counted-blanks : (characters : Bool) (ws text : List Code) → AreBlank ws →
    counted characters true (ws ++ text) ≡ counted characters true text
counted-blanks characters [] text k = refl
counted-blanks characters (w ∷ ws) text k =
    counted-blank characters w (ws ++ text) k.0.1 k.0.0 ∙ counted-blanks characters ws text k.1

counted-begins : (characters : Bool) (text : List Code) → BeginsWithText text →
    counted characters true text ≡ counted characters false text
counted-begins characters [] b = refl
counted-begins characters (c ∷ text) b =
    counted-data characters true c text b.0 b.1 ∙ sym (counted-data characters false c text b.0 refl)

ending-white : (c : Code) → is_line_ending c ≡ true → is_whitespace_code c ≡ true
ending-white c e = ap (λ b. is_blank c || b) e ∙ or-true (is_blank c)

-- a line ending, and the blank codes behind it
pub fits-ending : (characters : Bool) (size : ℕ) (seen : Bool) (c : Code) (ws text : List Code) → is_line_ending c ≡ true → AreBlank ws →
    BeginsWithText text →
    fits characters size seen (c ∷ ws ++ text) ≡ fits characters (counted_up characters size) seen text
fits-ending characters size seen c ws text e k b =
    all-three (seen || (is_filled c || any_filled (ws ++ text))) (nat_le (size + counted characters false (c ∷ ws ++ text)) 999) (ends_filled true (c ∷ ws ++ text)) (seen || any_filled text) (nat_le (counted_up characters size + counted characters false text) 999) (ends_filled true text)
    (ap (λ x. seen || (not x || any_filled (ws ++ text))) (ending-white c e) ∙ ap (λ x. seen || x) (any-blank ws text k))
    (ap (λ n. nat_le (size + n) 999) (counted-ending characters false c (ws ++ text) e ∙ ap (λ n. (if characters then 1 else 0) + n) (counted-blanks characters ws text k ∙ counted-begins characters text b))
    ∙ ap (λ n. nat_le n 999) (one-more characters size (counted characters false text)))
    (filled-ending c ws text e k b)

none-more : (n : ℕ) → n ≡ 0 + n
none-more n = omega arith

and-none : (a b : Bool) → a && (b && false) ≡ false
and-none true true = refl
and-none true false = refl
and-none false b = refl

-- a blank line
pub fits-none : (characters : Bool) (size : ℕ) (seen : Bool) (c : Code) (ws : List Code) (d : Code) (text : List Code) →
    is_line_ending c ≡ true → AreBlank ws → is_line_ending d ≡ true →
    fits characters size seen (c ∷ ws ++ d ∷ text) ≡ false
fits-none characters size seen c ws d text e k h =
    ap (λ b. (seen || any_filled (c ∷ ws ++ d ∷ text)) && (nat_le (size + counted characters false (c ∷ ws ++ d ∷ text)) 999 && b)) (filled-none c ws d text e k h)
    ∙ and-none (seen || any_filled (c ∷ ws ++ d ∷ text)) (nat_le (size + counted characters false (c ∷ ws ++ d ∷ text)) 999)

over : (n m k : ℕ) → nat_le n k ≡ false → nat_le (n + m) k ≡ false
over n m k h = grind (arith, nat_tests, common_steps)

and-middle : (a b c : Bool) → b ≡ false → a && (b && c) ≡ false
and-middle true false c e = refl
and-middle false false c e = refl
and-middle a true c e = cc

-- too many codes
pub fits-long : (characters : Bool) (size : ℕ) (seen : Bool) (text : List Code) → nat_le size 999 ≡ false →
    fits characters size seen text ≡ false
fits-long characters size seen text h =
    and-middle (seen || any_filled text) _ (ends_filled true text) (over size (counted characters false text) 999 h)

-- the end of the text
pub fits-seen : (characters : Bool) (size : ℕ) → nat_le size 999 ≡ true → fits characters size true [] ≡ true
fits-seen characters size h = let n : size + 0 ≡ size = omega arith in ap (λ k. nat_le k 999 && true) n ∙ ap (λ b. b && true) h

pub fits-unseen : (characters : Bool) (size : ℕ) → fits characters size false [] ≡ false
fits-unseen characters size = refl

-- From the bracket.

module _ (characters : Bool) (names : StringNames) where
  -- behind the text
  back_of : Code → List Code → Reading Forest
  back_of c text1 =
      one (is_value 93) >>= λ back. provided (has_no_blank_line true (text1 ++ back)) >> gives (between_markers names (c ∷ []) text1 back)

  tests_of : Code → List Code → Reading Forest
  tests_of c text1 = provided (any_filled text1) >> (provided (nat_le (counted characters false text1) 999) >> back_of c text1)

  rest_of_label : Code → Reading Forest
  rest_of_label c = up_to (is_value 93) (is_among (codes "[\\]")) (is_value 91) >>= λ text1. tests_of c text1

  back-by : (b : Bool) (c t : Code) (text1 : List Code) (d : Code) (rest : List Code) →
      ends_filled true (t ∷ text1) ≡ b → is_value 93 d ≡ true →
      tree_ops (back_of c (t ∷ text1) (d ∷ rest)) ≡ preceded (opening names) (if b then Some (break_ops false (t ∷ text1) ++ ending names) else None)
  unfolding gives back_of
  back-by b c t text1 d rest e h =
      let line : is_line_ending d ≡ false = ap (λ v. v == 10) (eqb-true d.value 93 h) in
      let blank : is_blank d ≡ false = ap (λ v. v == 32 || v == 9) (eqb-true d.value 93 h) in
      let same : has_no_blank_line true (t ∷ text1 ++ d ∷ []) ≡ b = filled-back true (t ∷ text1) d line blank ∙ e in
      ap tree_ops (bind-some _ _ (d ∷ rest) (d ∷ []) rest _ (one-here (is_value 93) d rest h) refl)
      ∙ elim b as (λ x. has_no_blank_line true (t ∷ text1 ++ d ∷ []) ≡ x → tree_ops ((provided (has_no_blank_line true (t ∷ text1 ++ d ∷ [])) >> gives (between_markers names (c ∷ []) (t ∷ text1) (d ∷ []))) rest) ≡ preceded (opening names) (if x then Some (break_ops false (t ∷ text1) ++ ending names) else None)) [
        | true ↦ λ x. ap tree_ops (after-some _ _ rest [] rest _ (provided-true _ rest x) refl) ∙ ap (λ os. Some os) (between-ops names c t d text1)
        | false ↦ λ x. ap tree_ops (after-none _ _ rest (provided-false _ rest x))
      ] same

  tests-by : (a b : Bool) (c t : Code) (text1 : List Code) (d : Code) (rest : List Code) → any_filled (t ∷ text1) ≡ a →
      nat_le (counted characters false (t ∷ text1)) 999 ≡ b → is_value 93 d ≡ true →
      tree_ops (tests_of c (t ∷ text1) (d ∷ rest)) ≡ preceded (opening names) (if a && (b && ends_filled true (t ∷ text1)) then Some (break_ops false (t ∷ text1) ++ ending names) else None)
  unfolding tests_of
  tests-by true true c t text1 d rest e f h =
      ap tree_ops (after-some _ _ (d ∷ rest) [] (d ∷ rest) _ (provided-true _ (d ∷ rest) e) (after-some _ _ (d ∷ rest) [] (d ∷ rest) _ (provided-true _ (d ∷ rest) f) refl))
      ∙ back-by (ends_filled true (t ∷ text1)) c t text1 d rest refl h
  tests-by true false c t text1 d rest e f h =
      ap tree_ops (after-some _ _ (d ∷ rest) [] (d ∷ rest) _ (provided-true _ (d ∷ rest) e) (after-none _ _ (d ∷ rest) (provided-false _ (d ∷ rest) f)))
  tests-by false b c t text1 d rest e f h = ap tree_ops (after-none _ _ (d ∷ rest) (provided-false _ (d ∷ rest) e))

  rest-by : (c : Code) (cs : List Code) (o : Option (List Code × List Code)) → text_from false cs ≡ o →
      tree_ops (rest_of_label c cs) ≡ preceded (opening names) (answer (fits characters 0 false) (break_ops false) (ending names) o)
  unfolding rest_of_label tests_of up_to
  rest-by c cs None e = ap tree_ops (bind-none _ _ cs e)
  rest-by c cs (Some ([], rest)) e =
      ap tree_ops (bind-some _ _ cs [] rest _ e (after-none _ _ rest (provided-false _ rest refl)))
  rest-by c cs (Some (t ∷ text1, [])) e =
      let no : false ≡ true = (text (is_value 93) (is_among (codes "[\\]")) (is_value 91) false cs (t ∷ text1, []) e).stops in
      cc
  rest-by c cs (Some (t ∷ text1, d ∷ rest)) e =
      let closes : is_value 93 d ≡ true = (text (is_value 93) (is_among (codes "[\\]")) (is_value 91) false cs (t ∷ text1, d ∷ rest) e).stops in
      ap tree_ops (bind-some _ _ cs (t ∷ text1) (d ∷ rest) _ e refl)
      ∙ tests-by (any_filled (t ∷ text1)) (nat_le (counted characters false (t ∷ text1)) 999) c t text1 d rest refl refl closes
      ∙ ap (λ n. preceded (opening names) (if any_filled (t ∷ text1) && (nat_le n 999 && ends_filled true (t ∷ text1)) then Some (break_ops false (t ∷ text1) ++ ending names) else None)) (none-more (counted characters false (t ∷ text1)))

  pub label-here : (c : Code) (cs : List Code) → is_value 91 c ≡ true →
      plan_of (label characters names) (c ∷ cs) ≡ preceded (opening names) (break_plan characters names 0 false false cs)
  unfolding label rest_of_label tests_of back_of
  label-here c cs h =
      ap tree_ops (bind-some _ _ (c ∷ cs) (c ∷ []) cs _ (one-here (is_value 91) c cs h) refl) ∙ rest-by c cs (text_from false cs) refl

  pub label-none : (cs : List Code) → next_is (is_value 91) cs ≡ false → plan_of (label characters names) cs ≡ None
  unfolding label
  label-none cs h = ap tree_ops (bind-none _ _ cs (one-not (is_value 91) cs h))

  pub label-linked : ReadsLinked (label characters names)
  unfolding label
  label-linked = record {
    covers = covers_label characters names;
    linked = yields_bind IsOneCode _ _ _ (one-one _) λ front f. then_any _ _ _ λ text1. yields_passed _ _ _ (yields_passed _ _ _
        (then_any _ _ _ λ back. yields_passed _ _ _ (yields_gives _ _ (between-linked names front text1 back (one-some front f)))));
  }
