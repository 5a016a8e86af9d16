-- Titles: what their readings give, by the next code.
use Rattle.std.proofs.Common.{◌≡◌, ℕ, ◌==◌, ◌&&◌, ◌||◌, not, Bool, true, false, if◌then◌else◌, Option, Some, None, List, [], ◌∷◌, ◌++◌, refl, sym, ap, subst, ◌∙◌, append_assoc}
use Rattle.std.proofs.Math.Bool.{or-true, and-false}
use Rattle.std.proofs.lemmas.Bool.{eqb-true}
use Rattle.markdown_content.specs.Codes.{Code, is_line_ending, is_blank}
use Rattle.markdown_content.specs.Content.{has_no_blank_line}
use Rattle.markdown_engine.specs.Operations.{Enter, Exit, Consume}
use Rattle.markdown_content.specs.Tree.{Forest, leaf}
use Rattle.markdown_event.specs.declared.event.Name.TheVariants as N
use Rattle.markdown_model.specs.CodeTests.{is_value, is_whitespace_code, next_is}
use Rattle.markdown_model.specs.Grammar.{Reading, ◌>>=◌, ◌>>◌, gives, provided, one, up_to}
use Rattle.markdown_model.specs.Resource.{StringNames, title, title_between, between_markers, escaped_between, is_bare_opener}
use Rattle.markdown_plan.specs.Plan.{preceded}
use Rattle.markdown_model.proofs.NoLinkInConstructs.{Yields, yields_bind, yields_gives, yields_passed, yields_either, then_any}
use Rattle.markdown_model.proofs.OneLineReadings.{IsOneCode, one-one, one-some}
use Rattle.markdown_model.proofs.ReadingsCover.{covers_title}
use Rattle.markdown_partial.specs.LinkedTreeOps.{IsLinkedInOrder, linked_ops, tree_ops, plan_of}
use Rattle.markdown_partial.specs.LinkedText.{closing, ending, break_ops, ends_filled, answer}
use Rattle.markdown_partial.specs.PartialTitle.{opening, is_closer, text_from, begin_plan}
use Rattle.markdown_partial.proofs.EscapedTextReadings.{Text, text-stops, text}
use Rattle.markdown_partial.proofs.LinkedTreeLemmas.{ReadsLinked}
use Rattle.markdown_partial.proofs.LinkedTextLines.{text-group, between-linked}
use Rattle.markdown_partial.proofs.BoolLemmas.{same-value}
use Rattle.markdown_model.proofs.GrammarSteps.{bind-some, bind-none, after-some, after-none, one-here, one-not, provided-true, provided-false, either-first, either-second}

-- The closing markers.

closer-by : (a b c : Bool) (m : ℕ) (P : ℕ → Type 0) → (m == 34) ≡ a → (m == 39) ≡ b → (m == 41) ≡ c →
    a || (b || c) ≡ true → P 34 → P 39 → P 41 → P m
closer-by true b c m P e f g h x y z = subst P (sym (eqb-true m 34 e)) x
closer-by false true c m P e f g h x y z = subst P (sym (eqb-true m 39 f)) y
closer-by false false true m P e f g h x y z = subst P (sym (eqb-true m 41 g)) z
closer-by false false false m P e f g h x y z = cc

-- what holds of each of them
pub of-closer : (m : ℕ) (P : ℕ → Type 0) → is_closer m ≡ true → P 34 → P 39 → P 41 → P m
of-closer m P h x y z = closer-by (m == 34) (m == 39) (m == 41) m P refl refl refl h x y z

white-by : (a b c : Bool) (v : ℕ) (P : ℕ → Type 0) → (v == 32) ≡ a → (v == 9) ≡ b → (v == 10) ≡ c →
    (a || b) || c ≡ true → P 32 → P 9 → P 10 → P v
white-by true b c v P e f g h x y z = subst P (sym (eqb-true v 32 e)) x
white-by false true c v P e f g h x y z = subst P (sym (eqb-true v 9 f)) y
white-by false false true v P e f g h x y z = subst P (sym (eqb-true v 10 g)) z
white-by false false false v P e f g h x y z = cc

-- what holds of the value of whitespace
pub of-white : (c : Code) (P : ℕ → Type 0) → is_whitespace_code c ≡ true → P 32 → P 9 → P 10 → P c.value
of-white c P h x y z = white-by (c.value == 32) (c.value == 9) (c.value == 10) c.value P refl refl refl h x y z

-- whitespace does not end a title
pub title-plain : (both : Bool) (m : ℕ) → is_closer m ≡ true → (c : Code) → is_whitespace_code c ≡ true →
    (is_value m c ≡ false) × ((is_bare_opener both 40 c ≡ false) × ((c.value == 92) ≡ false))
title-plain both m k c h =
    let P : ℕ → Type 0 = λ n. (c.value == n) ≡ false in
    let Q : ℕ → ℕ → Type 0 = λ n v. (v == n) ≡ false in
    (of-closer m P k (of-white c (Q 34) h refl refl refl) (of-white c (Q 39) h refl refl refl) (of-white c (Q 41) h refl refl refl), (of-white c (λ v. (both && v == 40) ≡ false) h (and-false both) (and-false both) (and-false both), of-white c (Q 92) h refl refl refl))

-- a closing marker is no line ending, and not blank
pub closer-line : (m : ℕ) → is_closer m ≡ true → (c : Code) → is_value m c ≡ true → is_line_ending c ≡ false
closer-line m k c h = same-value c.value m h (λ v. v == 10) ∙ of-closer m (λ n. (n == 10) ≡ false) k refl refl refl

pub closer-blank : (m : ℕ) → is_closer m ≡ true → (c : Code) → is_value m c ≡ true → is_blank c ≡ false
closer-blank m k c h =
    same-value c.value m h (λ v. v == 32 || v == 9) ∙ of-closer m (λ n. (n == 32 || n == 9) ≡ false) k refl refl refl

-- The test for blank lines.

filled-by : (b filled : Bool) (c : Code) (text : List Code) (d : Code) → is_line_ending c ≡ b →
    ((f : Bool) → has_no_blank_line f (text ++ d ∷ []) ≡ ends_filled f text) →
    has_no_blank_line filled (c ∷ text ++ d ∷ []) ≡ ends_filled filled (c ∷ text)
filled-by true filled c text d e k =
    ap (λ b. elim b as (λ _. Bool) [ true ↦ filled && has_no_blank_line false (text ++ d ∷ []) | false ↦ has_no_blank_line (filled || not (is_blank c)) (text ++ d ∷ []) ]) e ∙ ap (λ x. filled && x) (k false) ∙ ap (λ b. elim b as (λ _. Bool) [ true ↦ filled && ends_filled false text | false ↦ ends_filled (filled || not (is_blank c)) text ]) (sym e)
filled-by false filled c text d e k =
    ap (λ b. elim b as (λ _. Bool) [ true ↦ filled && has_no_blank_line false (text ++ d ∷ []) | false ↦ has_no_blank_line (filled || not (is_blank c)) (text ++ d ∷ []) ]) e ∙ k (filled || not (is_blank c)) ∙ ap (λ b. elim b as (λ _. Bool) [ true ↦ filled && ends_filled false text | false ↦ ends_filled (filled || not (is_blank c)) text ]) (sym e)

-- before a code that is not blank
pub filled-back : (filled : Bool) (text : List Code) (d : Code) → is_line_ending d ≡ false → is_blank d ≡ false →
    has_no_blank_line filled (text ++ d ∷ []) ≡ ends_filled filled text
filled-back filled [] d e h =
    ap (λ b. elim b as (λ _. Bool) [ true ↦ filled && false | false ↦ filled || not (is_blank d) ]) e ∙ ap (λ b. filled || not b) h ∙ or-true filled
filled-back filled (c ∷ text) d e h = filled-by (is_line_ending c) filled c text d refl (λ f. filled-back f text d e h)

-- From the opening marker.

-- the operations of a text between its markers
pub between-ops : (names : StringNames) (c t d : Code) (text : List Code) →
    linked_ops false (between_markers names (c ∷ []) (t ∷ text) (d ∷ [])) ≡ opening names ++ ((Enter names.text ∷ []) ++ (break_ops false (t ∷ text) ++ ending names))
between-ops names c t d text =
    ap (λ os. Enter names.whole ∷ ((Enter names.marker ∷ Consume ∷ Exit names.marker ∷ os) ++ Exit names.whole ∷ [])) (text-group names.text t text (leaf names.marker (d ∷ [])))
    ∙ ap (λ os. opening names ++ Enter names.text ∷ os) (append_assoc (break_ops false (t ∷ text)) (Exit names.text ∷ Enter names.marker ∷ Consume ∷ Exit names.marker ∷ []) (Exit names.whole ∷ []))

module _ (both : Bool) (opener m : ℕ) (names : StringNames) (k : is_closer m ≡ true) where
  rest_of_title : Code → Reading Forest
  rest_of_title c =
      up_to (is_value m) (escaped_between both opener m) (is_bare_opener both opener) >>= λ text. one (is_value m) >>= λ back. provided (has_no_blank_line true (text ++ back)) >> gives (between_markers names (c ∷ []) text back)

  -- behind the text
  back-by : (b : Bool) (c t : Code) (text : List Code) (d : Code) (rest : List Code) → ends_filled true (t ∷ text) ≡ b →
      is_value m d ≡ true →
      tree_ops ((one (is_value m) >>= λ back. provided (has_no_blank_line true ((t ∷ text) ++ back)) >> gives (between_markers names (c ∷ []) (t ∷ text) back)) (d ∷ rest)) ≡ preceded (opening names) (preceded (Enter names.text ∷ []) (if b then Some (break_ops false (t ∷ text) ++ ending names) else None))
  unfolding gives
  back-by true c t text d rest e h =
      ap tree_ops (bind-some _ _ (d ∷ rest) (d ∷ []) rest _ (one-here (is_value m) d rest h) (after-some _ _ rest [] rest _ (provided-true _ rest (filled-back true (t ∷ text) d (closer-line m k d h) (closer-blank m k d h) ∙ e)) refl))
      ∙ ap (λ os. Some os) (between-ops names c t d text)
  back-by false c t text d rest e h =
      ap tree_ops (bind-some _ _ (d ∷ rest) (d ∷ []) rest _ (one-here (is_value m) d rest h) (after-none _ _ rest (provided-false _ rest (filled-back true (t ∷ text) d (closer-line m k d h) (closer-blank m k d h) ∙ e))))

  rest-by : (c : Code) (cs : List Code) (b : Bool) (o : Option (List Code × List Code)) → next_is (is_value m) cs ≡ b →
      text_from both opener m names false cs ≡ o →
      tree_ops (rest_of_title c cs) ≡ preceded (opening names) (if b then Some (closing names) else preceded (Enter names.text ∷ []) (answer (ends_filled true) (break_ops false) (ending names) o))
  unfolding rest_of_title gives up_to
  rest-by c [] true o h e = cc
  rest-by c (d ∷ cs) true o h e =
      ap tree_ops (bind-some _ _ (d ∷ cs) [] (d ∷ cs) _ (text-stops (is_value m) (escaped_between both opener m) (is_bare_opener both opener) false d cs refl h) (bind-some _ _ (d ∷ cs) (d ∷ []) cs _ (one-here (is_value m) d cs h) (after-some _ _ cs [] cs _ (provided-true _ cs (filled-back true [] d (closer-line m k d h) (closer-blank m k d h))) refl)))
  rest-by c cs false None h e = ap tree_ops (bind-none _ _ cs e)
  rest-by c cs false (Some ([], rest)) h e =
      let t : Text (is_value m) cs ([], rest) = text (is_value m) (escaped_between both opener m) (is_bare_opener both opener) false cs ([], rest) e in
      let no : true ≡ false = sym t.stops ∙ ap (next_is (is_value m)) (sym t.whole) ∙ h in
      cc
  rest-by c cs false (Some (t ∷ text1, [])) h e =
      let no : false ≡ true = (text (is_value m) (escaped_between both opener m) (is_bare_opener both opener) false cs (t ∷ text1, []) e).stops in
      cc
  rest-by c cs false (Some (t ∷ text1, d ∷ rest)) h e =
      let closes : is_value m d ≡ true = (text (is_value m) (escaped_between both opener m) (is_bare_opener both opener) false cs (t ∷ text1, d ∷ rest) e).stops in
      ap tree_ops (bind-some _ _ cs (t ∷ text1) (d ∷ rest) _ e refl) ∙ back-by (ends_filled true (t ∷ text1)) c t text1 d rest refl closes

  between-here : (c : Code) (cs : List Code) → is_value opener c ≡ true →
      plan_of (title_between both opener m names) (c ∷ cs) ≡ preceded (opening names) (begin_plan both opener m names cs)
  unfolding title_between rest_of_title
  between-here c cs h =
      ap tree_ops (bind-some _ _ (c ∷ cs) (c ∷ []) cs _ (one-here (is_value opener) c cs h) refl) ∙ rest-by c cs (next_is (is_value m) cs) (text_from both opener m names false cs) refl refl

between-yields : (both : Bool) (opener closer : ℕ) (names : StringNames) →
    Yields (IsLinkedInOrder false) (title_between both opener closer names)
unfolding title_between
between-yields both opener closer names =
    yields_bind IsOneCode _ _ _ (one-one _) λ front f. then_any _ _ _ λ text. then_any _ _ _ λ back. yields_passed _ _ _ (yields_gives _ _ (between-linked names front text back (one-some front f)))

between-none : (both : Bool) (opener closer : ℕ) (names : StringNames) (cs : List Code) →
    next_is (is_value opener) cs ≡ false → title_between both opener closer names cs ≡ None
unfolding title_between
between-none both opener closer names cs h = bind-none _ _ cs (one-not (is_value opener) cs h)

-- Whole titles.

pub title-none : (both : Bool) (names : StringNames) (cs : List Code) → next_is (is_value 34) cs ≡ false →
    next_is (is_value 39) cs ≡ false → next_is (is_value 40) cs ≡ false → plan_of (title both names) cs ≡ None
unfolding title
title-none both names cs e h k =
    ap tree_ops (either-second _ _ cs (between-none false 34 34 names cs e) ∙ either-second _ _ cs (between-none false 39 39 names cs h) ∙ between-none both 40 41 names cs k)

pub title-double : (both : Bool) (names : StringNames) (c : Code) (cs : List Code) → is_value 34 c ≡ true →
    plan_of (title both names) (c ∷ cs) ≡ preceded (opening names) (begin_plan false 40 34 names cs)
unfolding title
title-double both names c cs h =
    ap tree_ops (either-first _ _ (c ∷ cs) (either-second _ _ (c ∷ cs) (between-none false 39 39 names (c ∷ cs) (same-value c.value 34 h (λ v. v == 39))) ∙ between-none both 40 41 names (c ∷ cs) (same-value c.value 34 h (λ v. v == 40))))
    ∙ between-here false 34 34 names refl c cs h

pub title-single : (both : Bool) (names : StringNames) (c : Code) (cs : List Code) → is_value 39 c ≡ true →
    plan_of (title both names) (c ∷ cs) ≡ preceded (opening names) (begin_plan false 40 39 names cs)
unfolding title
title-single both names c cs h =
    ap tree_ops (either-second _ _ (c ∷ cs) (between-none false 34 34 names (c ∷ cs) (same-value c.value 39 h (λ v. v == 34)))
    ∙ either-first _ _ (c ∷ cs) (between-none both 40 41 names (c ∷ cs) (same-value c.value 39 h (λ v. v == 40))))
    ∙ between-here false 39 39 names refl c cs h

pub title-paren : (both : Bool) (names : StringNames) (c : Code) (cs : List Code) → is_value 40 c ≡ true →
    plan_of (title both names) (c ∷ cs) ≡ preceded (opening names) (begin_plan both 40 41 names cs)
unfolding title
title-paren both names c cs h =
    ap tree_ops (either-second _ _ (c ∷ cs) (between-none false 34 34 names (c ∷ cs) (same-value c.value 40 h (λ v. v == 34)))
    ∙ either-second _ _ (c ∷ cs) (between-none false 39 39 names (c ∷ cs) (same-value c.value 40 h (λ v. v == 39))))
    ∙ between-here both 40 41 names refl c cs h

pub title-linked : (both : Bool) (names : StringNames) → ReadsLinked (title both names)
unfolding title
title-linked both names = record {
  covers = covers_title both names;
  linked = yields_either _ _ _ (between-yields false 34 34 names) (yields_either _ _ _ (between-yields false 39 39 names) (between-yields both 40 41 names));
}
