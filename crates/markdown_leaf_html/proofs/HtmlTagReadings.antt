-- What is still to be read of opening tags, from one code on.
use Rattle.std.proofs.Common.{◌≡◌, ℕ, zero, suc, ◌==◌, Bool, true, false, ◌||◌, not, Option, Some, None, List, [], ◌∷◌, ◌++◌, length, refl, sym, ap, subst, ◌∙◌}
use Rattle.std.specs.Prelude.{codes}
use Rattle.std.proofs.lemmas.Bool.{eqb-true, or_from, or_parts}
use Rattle.markdown_content.specs.Codes.{Code}
use Rattle.markdown_model.specs.CodeTests.{is_value, is_among, is_letter, is_alphanumeric, is_whitespace_code, next_is}
use Rattle.markdown_model.specs.Grammar.{Reading, either, one, any_number, before, span, with_first, word, gives, repeated, repeatedly, optional, ◌then_◌}
use Rattle.markdown_model.specs.HtmlText.{spaces, optional_spaces, attribute_name, quoted_value, unquoted_value, attribute_value, attribute, ends_value, is_later_code}
use Rattle.markdown_model.proofs.ReadingsCover.{Covers, itself, by_next, takes_one, takes_any_number, takes_then, takes_word, takes_optional, takes_repeatedly, takes_spaces, takes_optional_spaces, takes_attribute, takes_attribute_value}
use Rattle.markdown_model.proofs.ReadsACode.{Consumes, one_takes, some_takes, any_takes, then_takes, text_takes, takes_no_more, weaker}
use Rattle.markdown_model.proofs.DefinitionSteps.{and_then, repeatedly-next}
use Rattle.markdown_plan.specs.PrecededReadings.{after}
use Rattle.markdown_plan.specs.ByteTests.{among_values}
use Rattle.markdown_plan.proofs.PrecededReadingLemmas.{then-after, after-more, after-none}
use Rattle.markdown_leaf_html.specs.HtmlTextRests.{is_attribute_first, is_attribute_code, tag_end, tag_rest, tag_next, tag_between, initializer, name_rest, value_rest, name_next, name_after, quoted_rest, is_after_value, unquoted_rest}
use Rattle.markdown_leaf_html.specs.HtmlByteTests.{whitespace_value}
use Rattle.markdown_leaf_html.specs.HtmlText.{starts_no_value, quote_value}
use Rattle.markdown_leaf_html.proofs.HtmlLineBreaks.{PassesItsCodes}
use Rattle.markdown_leaf_html.proofs.HtmlCodeReadings.{after-twice, then-first, then-nothing, then-same, either-left, either-right, either-none, either-here, next-here, next-other, before-first, one-on, one-none, any-on, any-none, word-none, word-here, second_takes, next_takes, whitespace-other}
use Rattle.markdown_leaf_html.proofs.HtmlKindReadings.{end-none, spaces-first, spaces-none}
use Rattle.markdown_model.proofs.GrammarSteps.{span-takes, span-none, one-here, one-not, then-none, some-span, some-nothing, before-some, before-other}

-- Tests.

abbrev pub EachByte : (ℕ → Type 0) → List ℕ → Type 0
EachByte P [] = Unit {0}
EachByte P (n ∷ ns) = P n × EachByte P ns

among-by : (P : ℕ → Type 0) (v n : ℕ) (ns : List ℕ) (b : Bool) → (v == n) ≡ b → b || among_values ns v ≡ true → P n →
    (among_values ns v ≡ true → P v) → P v
among-by P v n ns true e h p more = subst P (sym (eqb-true v n e)) p
among-by P v n ns false e h p more = more h

-- what holds of each of some values
pub among-each : (P : ℕ → Type 0) (v : ℕ) (ns : List ℕ) → among_values ns v ≡ true → EachByte P ns → P v
among-each P v [] h k = cc
among-each P v (n ∷ ns) h k = among-by P v n ns (v == n) refl h k.0 (λ e. among-each P v ns e k.1)

-- no attribute's name goes on, so none starts
not-first : (c : Code) → is_attribute_code c ≡ false → is_attribute_first c ≡ false
not-first c e =
    or_from (is_letter c) (is_among (codes ":_") c) (or_parts (is_letter c) _ (or_parts (is_alphanumeric c) _ e).0).0
    (or_parts (c.value == 46) _ (or_parts (c.value == 45) _ (or_parts (is_alphanumeric c) _ e).1).1).1

not-first-next : (cs : List Code) → next_is is_attribute_code cs ≡ false → next_is is_attribute_first cs ≡ false
not-first-next [] e = refl
not-first-next (c ∷ cs) e = not-first c e

-- The end of a tag.

optional-not : (a : Reading (List Code)) (cs : List Code) → a cs ≡ None → optional a cs ≡ Some ([], cs)
unfolding optional gives
optional-not a cs e = either-right a (gives []) cs e

optional-read : (a : Reading (List Code)) (cs : List Code) (r : List Code × List Code) →
    ◌≡◌ {A = Option (List Code × List Code)} (a cs) (Some r) → optional a cs ≡ Some r
unfolding optional
optional-read a cs r e = either-here a (gives []) cs r e ∙ e

pub tag-end-slash : (c : Code) (cs : List Code) → is_value 47 c ≡ true → tag_end (c ∷ cs) ≡ with_first c (word ">" cs)
unfolding word
tag-end-slash c cs e =
    then-after (optional (word "/")) (word ">") (c ∷ cs) (c ∷ []) cs (optional-read (word "/") (c ∷ cs) (c ∷ [], cs) (word-here 47 c cs e))
    ∙ after-more c [] (word ">" cs) ∙ ap (with_first c) (after-none (word ">" cs))

pub tag-end-other : (cs : List Code) → next_is (is_value 47) cs ≡ false → tag_end cs ≡ word ">" cs
unfolding word
tag-end-other cs e =
    then-nothing (optional (word "/")) (word ">") cs (optional-not (word "/") cs (word-none 47 [] cs e))

-- Rounds.

record HasAnswer (o : Option (List Code × List Code)) : Type 0 where
  codes : List Code
  rest : List Code
  is : o ≡ Some (codes, rest)

repeated-found : (n : ℕ) (a : Reading (List Code)) (cs : List Code) → HasAnswer (repeated n a cs)
unfolding repeated
repeated-found zero a cs = record { codes = []; rest = cs; is = refl }
repeated-found (suc n) a cs = by-first (a cs)
  where
    by-rounds : (x : List Code × List Code) (o : Option (List Code × List Code)) →
        HasAnswer (elim o as (λ _. Option (List Code × List Code)) [ None ↦ Some x | Some s ↦ Some (x.0 ++ s.0, s.1) ])
    by-rounds x None = record { codes = x.0; rest = x.1; is = refl }
    by-rounds x (Some s) = record { codes = x.0 ++ s.0; rest = s.1; is = refl }

    by-first : (o : Option (List Code × List Code)) →
        HasAnswer (elim o as (λ _. Option (List Code × List Code)) [ None ↦ Some ([], cs) | Some x ↦ elim (repeated n a x.1) as (λ _. Option (List Code × List Code)) [ None ↦ Some x | Some s ↦ Some (x.0 ++ s.0, s.1) ] ])
    by-first None = record { codes = []; rest = cs; is = refl }
    by-first (Some x) = by-rounds x (repeated n a x.1)

repeatedly-found : (a : Reading (List Code)) (cs : List Code) → HasAnswer (repeatedly a cs)
unfolding repeatedly
repeatedly-found a cs = repeated-found (length cs) a cs

module _ (a : Reading (List Code)) (takes : Consumes 1 a) where
  rounds-none : (b : Reading (List Code)) (cs : List Code) → a cs ≡ None → (repeatedly a then_ b) cs ≡ b cs
  rounds-none b cs e = then-nothing (repeatedly a) b cs (repeatedly-next a takes cs ∙ ap (and_then (repeatedly a) cs) e)

  rounds-more : (b : Reading (List Code)) (cs x q : List Code) →
      ◌≡◌ {A = Option (List Code × List Code)} (a cs) (Some (x, q)) →
      (repeatedly a then_ b) cs ≡ after x ((repeatedly a then_ b) q)
  rounds-more b cs x q e =
      let k : HasAnswer (repeatedly a q) = repeatedly-found a q in
      let whole : repeatedly a cs ≡ Some (x ++ k.codes, k.rest) =
      repeatedly-next a takes cs ∙ ap (and_then (repeatedly a) cs) e ∙ ap (λ (o : Option (List Code × List Code)). elim o as (λ _. Option (List Code × List Code)) [ None ↦ Some (x, q) | Some y ↦ Some (x ++ y.0, y.1) ]) k.is in
      then-after (repeatedly a) b cs (x ++ k.codes) k.rest whole ∙ after-twice x k.codes (b k.rest) ∙ ap (after x) (sym (then-after (repeatedly a) b q k.codes k.rest k.is))

-- Whitespace.

abbrev front : List Code → List Code
front cs = (span is_whitespace_code cs).0

abbrev behind : List Code → List Code
behind cs = (span is_whitespace_code cs).1

optional-spaces-are : (cs : List Code) → optional_spaces cs ≡ Some (front cs, behind cs)
unfolding optional_spaces any_number
optional-spaces-are cs = refl

spaces-are : (cs : List Code) → next_is is_whitespace_code cs ≡ true → spaces cs ≡ Some (front cs, behind cs)
unfolding spaces
spaces-are [] e = cc
spaces-are (c ∷ cs) e =
    let s = span-takes is_whitespace_code c cs e in
    some-span is_whitespace_code (c ∷ cs) c (front cs) (behind cs) s ∙ ap (λ (x : List Code × List Code). Some x) (sym s)

spaces-are-none : (cs : List Code) → next_is is_whitespace_code cs ≡ false → spaces cs ≡ None
unfolding spaces
spaces-are-none cs e = some-nothing is_whitespace_code cs cs (span-none is_whitespace_code cs e)

spaced-is : (b : Reading (List Code)) (cs : List Code) → (optional_spaces then_ b) cs ≡ after (front cs) (b (behind cs))
spaced-is b cs = then-after optional_spaces b cs (front cs) (behind cs) (optional-spaces-are cs)

-- Attributes; the Bool says that slashes may stand in unquoted values.

module _ (slashes : Bool) where
  attribute-name-is : (c : Code) (cs : List Code) → is_attribute_first c ≡ true →
      attribute_name (c ∷ cs) ≡ with_first c (any_number is_attribute_code cs)
  unfolding attribute_name
  attribute-name-is c cs e = one-on is_attribute_first (any_number is_attribute_code) c cs e

  attribute-none : (cs : List Code) → next_is is_attribute_first cs ≡ false → attribute slashes cs ≡ None
  unfolding attribute attribute_name
  attribute-none cs e =
      then-none attribute_name (optional (initializer slashes)) cs (one-none is_attribute_first (any_number is_attribute_code) cs e)

  attribute-first : (c : Code) (cs : List Code) → is_attribute_first c ≡ true →
      attribute slashes (c ∷ cs) ≡ with_first c ((any_number is_attribute_code then_ optional (initializer slashes)) cs)
  unfolding attribute
  attribute-first c cs e =
      then-first attribute_name (any_number is_attribute_code) (optional (initializer slashes)) c cs (attribute-name-is c cs e)

  optional-found : (a : Reading (List Code)) (cs : List Code) (o : Option (List Code × List Code)) → a cs ≡ o →
      HasAnswer (optional a cs)
  optional-found a cs None e = record { codes = []; rest = cs; is = optional-not a cs e }
  optional-found a cs (Some r) e = record { codes = r.0; rest = r.1; is = optional-read a cs r e }

  any-found : (p : Code → Bool) (b : Reading (List Code)) (cs : List Code) → ((ds : List Code) → HasAnswer (b ds)) →
      HasAnswer ((any_number p then_ b) cs)
  unfolding any_number
  any-found p b cs found =
      let s : List Code × List Code = span p cs in
      let k : HasAnswer (b s.1) = found s.1 in
      record { codes = s.0 ++ k.codes; rest = k.rest; is = then-after (any_number p) b cs s.0 s.1 refl ∙ ap (after s.0) k.is }

  attribute-found : (cs : List Code) → next_is is_attribute_first cs ≡ true → HasAnswer (attribute slashes cs)
  attribute-found [] e = cc
  attribute-found (c ∷ cs) e =
      let k : HasAnswer ((any_number is_attribute_code then_ optional (initializer slashes)) cs) = any-found is_attribute_code (optional (initializer slashes)) cs (λ ds. optional-found (initializer slashes) ds (initializer slashes ds) refl) in
      record { codes = c ∷ k.codes; rest = k.rest; is = attribute-first c cs e ∙ ap (with_first c) k.is }

  -- After a name or a value.

  abbrev spaced : Reading (List Code)
  spaced = spaces then_ attribute slashes

  attribute-takes : Consumes 0 (attribute slashes)
  attribute-takes = takes_no_more itself (attribute slashes) (takes_attribute slashes)

  spaced-takes : Consumes 1 spaced
  unfolding spaces
  spaced-takes = then_takes _ _ (some_takes is_whitespace_code) attribute-takes

  spaced-none : (cs : List Code) → next_is is_whitespace_code cs ≡ false → spaced cs ≡ None
  spaced-none cs e = then-none spaces (attribute slashes) cs (spaces-are-none cs e)

  rest-none : (cs : List Code) → next_is is_whitespace_code cs ≡ false → tag_rest slashes cs ≡ tag_end cs
  rest-none cs e =
      rounds-none spaced spaced-takes (optional_spaces then_ tag_end) cs (spaced-none cs e) ∙ spaces-none tag_end cs e

  between-by : (space first : Bool) (cs : List Code) → next_is is_whitespace_code cs ≡ space →
      next_is is_attribute_first (behind cs) ≡ first → next_is is_attribute_first cs ≡ false →
      tag_rest slashes cs ≡ tag_between slashes cs
  between-by false first cs e h k =
      rest-none cs e ∙ sym (spaces-none (tag_next slashes) cs e ∙ next-other is_attribute_first (attribute slashes then_ tag_rest slashes) tag_end cs k)
  between-by true false cs e h k =
      let none : spaced cs ≡ None = then-after spaces (attribute slashes) cs (front cs) (behind cs) (spaces-are cs e) ∙ ap (after (front cs)) (attribute-none (behind cs) h) in
      rounds-none spaced spaced-takes (optional_spaces then_ tag_end) cs none
      ∙ spaced-is tag_end cs
      ∙ ap (after (front cs)) (sym (next-other is_attribute_first (attribute slashes then_ tag_rest slashes) tag_end (behind cs) h))
      ∙ sym (spaced-is (tag_next slashes) cs)
  between-by true true cs e h k =
      let f : HasAnswer (attribute slashes (behind cs)) = attribute-found (behind cs) h in
      let here : spaced cs ≡ Some (front cs ++ f.codes, f.rest) = then-after spaces (attribute slashes) cs (front cs) (behind cs) (spaces-are cs e) ∙ ap (after (front cs)) f.is in
      rounds-more spaced spaced-takes (optional_spaces then_ tag_end) cs (front cs ++ f.codes) f.rest here
      ∙ after-twice (front cs) f.codes (tag_rest slashes f.rest)
      ∙ ap (after (front cs)) (sym (then-after (attribute slashes) (tag_rest slashes) (behind cs) f.codes f.rest f.is) ∙ sym (next-here is_attribute_first (attribute slashes then_ tag_rest slashes) tag_end (behind cs) h))
      ∙ sym (spaced-is (tag_next slashes) cs)

  -- where no attribute's name starts at hand
  pub rest-between : (cs : List Code) → next_is is_attribute_first cs ≡ false → tag_rest slashes cs ≡ tag_between slashes cs
  rest-between cs e = between-by (next_is is_whitespace_code cs) (next_is is_attribute_first (behind cs)) cs refl refl e

  pub rest-refused : (cs : List Code) → next_is is_whitespace_code cs ≡ false → next_is (is_value 47) cs ≡ false →
      next_is (is_value 62) cs ≡ false → tag_rest slashes cs ≡ None
  rest-refused cs e h k = rest-none cs e ∙ tag-end-other cs h ∙ end-none cs k

  pub between-none : (cs : List Code) → next_is is_whitespace_code cs ≡ false → next_is is_attribute_first cs ≡ false →
      next_is (is_value 47) cs ≡ false → tag_between slashes cs ≡ word ">" cs
  between-none cs e h k =
      spaces-none (tag_next slashes) cs e ∙ next-other is_attribute_first (attribute slashes then_ tag_rest slashes) tag_end cs h ∙ tag-end-other cs k

  pub between-slash : (c : Code) (cs : List Code) → is_value 47 c ≡ true →
      tag_between slashes (c ∷ cs) ≡ with_first c (word ">" cs)
  between-slash c cs e =
      let v : c.value ≡ 47 = eqb-true c.value 47 e in
      spaces-none (tag_next slashes) (c ∷ cs) (ap whitespace_value v)
      ∙ next-other is_attribute_first (attribute slashes then_ tag_rest slashes) tag_end (c ∷ cs) (ap (λ x. is_attribute_first (record { value = x; start = c.start; stop = c.stop })) v)
      ∙ tag-end-slash c cs e

  pub between-first : (c : Code) (cs : List Code) → is_whitespace_code c ≡ false → is_attribute_first c ≡ true →
      tag_between slashes (c ∷ cs) ≡ with_first c (name_rest slashes cs)
  between-first c cs e h =
      spaces-none (tag_next slashes) (c ∷ cs) e
      ∙ next-here is_attribute_first (attribute slashes then_ tag_rest slashes) tag_end (c ∷ cs) h
      ∙ then-first (attribute slashes) (any_number is_attribute_code then_ optional (initializer slashes)) (tag_rest slashes) c cs (attribute-first c cs h)

  -- The name of an attribute.

  pub name-rest-on : (c : Code) (cs : List Code) → is_attribute_code c ≡ true →
      name_rest slashes (c ∷ cs) ≡ with_first c (name_rest slashes cs)
  name-rest-on c cs e =
      then-first (any_number is_attribute_code then_ optional (initializer slashes)) (any_number is_attribute_code then_ optional (initializer slashes)) (tag_rest slashes) c cs
      (then-first (any_number is_attribute_code) (any_number is_attribute_code) (optional (initializer slashes)) c cs (any-on is_attribute_code c cs e))

  abbrev value_here : Reading (List Code)
  value_here = optional_spaces then_ attribute_value slashes

  abbrev equals : Reading (List Code)
  equals = one (is_value 61) then_ value_here

  -- after the name, where it has no value
  plain-by : (cs : List Code) → initializer slashes cs ≡ None → next_is is_attribute_first cs ≡ false →
      (optional (initializer slashes) then_ tag_rest slashes) cs ≡ after (front cs) (tag_next slashes (behind cs))
  plain-by cs e k =
      then-nothing (optional (initializer slashes)) (tag_rest slashes) cs (optional-not (initializer slashes) cs e) ∙ rest-between cs k ∙ spaced-is (tag_next slashes) cs

  equals-none : (c : Code) (cs : List Code) → is_value 61 c ≡ true → tag_next slashes (c ∷ cs) ≡ None
  equals-none c cs e =
      let v : c.value ≡ 61 = eqb-true c.value 61 e in
      next-other is_attribute_first (attribute slashes then_ tag_rest slashes) tag_end (c ∷ cs) (ap (λ x. is_attribute_first (record { value = x; start = c.start; stop = c.stop })) v)
      ∙ tag-end-other (c ∷ cs) (ap (λ x. x == 47) v)
      ∙ end-none (c ∷ cs) (ap (λ x. x == 62) v)

  value-by : (cs : List Code) (e : Code) (r : List Code) (o : Option (List Code × List Code)) → behind cs ≡ e ∷ r →
      is_value 61 e ≡ true → value_here r ≡ o → next_is is_attribute_first cs ≡ false →
      (optional (initializer slashes) then_ tag_rest slashes) cs ≡ after (front cs) (with_first e (value_rest slashes r))
  value-by cs e r None b h k first =
      let none : initializer slashes cs ≡ None = spaced-is equals cs ∙ ap (λ x. after (front cs) (equals x)) b ∙ ap (after (front cs)) (one-on (is_value 61) value_here e r h ∙ ap (with_first e) k) in
      plain-by cs none first
      ∙ ap (λ x. after (front cs) (tag_next slashes x)) b
      ∙ ap (after (front cs)) (equals-none e r h)
      ∙ ap (λ x. after (front cs) (with_first e x)) (sym (then-none value_here (tag_rest slashes) r k))
  value-by cs e r (Some v) b h k first =
      let found : initializer slashes cs ≡ Some (front cs ++ e ∷ v.0, v.1) = spaced-is equals cs ∙ ap (λ x. after (front cs) (equals x)) b ∙ ap (after (front cs)) (one-on (is_value 61) value_here e r h ∙ ap (with_first e) k) in
      then-after (optional (initializer slashes)) (tag_rest slashes) cs (front cs ++ e ∷ v.0) v.1 (optional-read (initializer slashes) cs (front cs ++ e ∷ v.0, v.1) found)
      ∙ after-twice (front cs) (e ∷ v.0) (tag_rest slashes v.1)
      ∙ ap (after (front cs)) (after-more e v.0 (tag_rest slashes v.1) ∙ ap (with_first e) (sym (then-after value_here (tag_rest slashes) r v.0 v.1 k)))

  after-by : (cs ds : List Code) → behind cs ≡ ds → (b : Bool) → next_is (is_value 61) ds ≡ b →
      next_is is_attribute_first cs ≡ false → (optional (initializer slashes) then_ tag_rest slashes) cs ≡ after (front cs) (name_next slashes ds)
  after-by cs ds e false h first =
      let none : initializer slashes cs ≡ None = spaced-is equals cs ∙ ap (λ x. after (front cs) (equals x)) e ∙ ap (after (front cs)) (one-none (is_value 61) value_here ds h) in
      plain-by cs none first
      ∙ ap (λ x. after (front cs) (tag_next slashes x)) e
      ∙ ap (after (front cs)) (sym (next-other (is_value 61) (one (is_value 61) then_ value_rest slashes) (tag_next slashes) ds h))
  after-by cs [] e true h first = cc
  after-by cs (d ∷ ds) e true h first =
      value-by cs d ds (value_here ds) e h refl first
      ∙ ap (after (front cs)) (sym (next-here (is_value 61) (one (is_value 61) then_ value_rest slashes) (tag_next slashes) (d ∷ ds) h ∙ one-on (is_value 61) (value_rest slashes) d ds h))

  -- the name ends
  pub name-rest-end : (cs : List Code) → next_is is_attribute_code cs ≡ false → name_rest slashes cs ≡ name_after slashes cs
  name-rest-end cs e =
      then-same (any_number is_attribute_code then_ optional (initializer slashes)) (optional (initializer slashes)) (tag_rest slashes) cs (then-nothing (any_number is_attribute_code) (optional (initializer slashes)) cs (any-none is_attribute_code cs e))
      ∙ after-by cs (behind cs) refl (next_is (is_value 61) (behind cs)) refl (not-first-next cs e)
      ∙ sym (spaced-is (name_next slashes) cs)

  pub name-after-equals : (c : Code) (cs : List Code) → is_value 61 c ≡ true →
      name_after slashes (c ∷ cs) ≡ with_first c (value_rest slashes cs)
  name-after-equals c cs e =
      spaces-none (name_next slashes) (c ∷ cs) (ap whitespace_value (eqb-true c.value 61 e))
      ∙ next-here (is_value 61) (one (is_value 61) then_ value_rest slashes) (tag_next slashes) (c ∷ cs) e
      ∙ one-on (is_value 61) (value_rest slashes) c cs e

  pub name-after-other : (cs : List Code) → next_is is_whitespace_code cs ≡ false → next_is (is_value 61) cs ≡ false →
      name_after slashes cs ≡ tag_between slashes cs
  name-after-other cs e h =
      spaces-none (name_next slashes) cs e ∙ next-other (is_value 61) (one (is_value 61) then_ value_rest slashes) (tag_next slashes) cs h ∙ sym (spaces-none (tag_next slashes) cs e)

  -- Values.

  value-here-is : (cs : List Code) → next_is is_whitespace_code cs ≡ false →
      value_rest slashes cs ≡ (attribute_value slashes then_ tag_rest slashes) cs
  value-here-is cs e = then-same value_here (attribute_value slashes) (tag_rest slashes) cs (spaces-none (attribute_value slashes) cs e)

  pub value-space : (c : Code) (cs : List Code) → is_whitespace_code c ≡ true →
      value_rest slashes (c ∷ cs) ≡ with_first c (value_rest slashes cs)
  value-space c cs e = then-first value_here value_here (tag_rest slashes) c cs (spaces-first (attribute_value slashes) c cs e)

  quote-none : (q : ℕ) (cs : List Code) → next_is (is_value q) cs ≡ false → quoted_value q cs ≡ None
  unfolding quoted_value
  quote-none q cs e = one-none (is_value q) (any_number (λ c. not (is_value q c)) then_ one (is_value q)) cs e

  quote-first : (q : ℕ) (c : Code) (cs : List Code) → is_value q c ≡ true →
      quoted_value q (c ∷ cs) ≡ with_first c ((any_number (λ d. not (is_value q d)) then_ one (is_value q)) cs)
  unfolding quoted_value
  quote-first q c cs e = one-on (is_value q) (any_number (λ d. not (is_value q d)) then_ one (is_value q)) c cs e

  unquoted-none-first : (cs : List Code) → next_is (λ c. not (ends_value c)) cs ≡ false → unquoted_value slashes cs ≡ None
  unfolding unquoted_value before
  unquoted-none-first cs e =
      ap (λ (o : Option (List Code × List Code)). elim o as (λ _. Option (List Code × List Code)) [ None ↦ None | Some r ↦ elim (next_is is_after_value r.1) as (λ _. Option (List Code × List Code)) [ true ↦ Some r | false ↦ None ] ]) (one-none (λ c. not (ends_value c)) (any_number (is_later_code slashes)) cs e)

  value-double : (c : Code) (cs : List Code) → is_value 34 c ≡ true →
      attribute_value slashes (c ∷ cs) ≡ with_first c ((any_number (λ d. not (is_value 34 d)) then_ one (is_value 34)) cs)
  unfolding attribute_value
  value-double c cs e =
      let v : c.value ≡ 34 = eqb-true c.value 34 e in
      either-left (quoted_value 34) (either (quoted_value 39) (unquoted_value slashes)) (c ∷ cs)
      (either-none (quoted_value 39) (unquoted_value slashes) (c ∷ cs) (quote-none 39 (c ∷ cs) (ap (λ x. x == 39) v)) (unquoted-none-first (c ∷ cs) (ap (λ x. not (ends_value (record { value = x; start = c.start; stop = c.stop }))) v)))
      ∙ quote-first 34 c cs e

  value-single : (c : Code) (cs : List Code) → is_value 39 c ≡ true →
      attribute_value slashes (c ∷ cs) ≡ with_first c ((any_number (λ d. not (is_value 39 d)) then_ one (is_value 39)) cs)
  unfolding attribute_value
  value-single c cs e =
      let v : c.value ≡ 39 = eqb-true c.value 39 e in
      either-right (quoted_value 34) (either (quoted_value 39) (unquoted_value slashes)) (c ∷ cs) (quote-none 34 (c ∷ cs) (ap (λ x. x == 34) v))
      ∙ either-left (quoted_value 39) (unquoted_value slashes) (c ∷ cs) (unquoted-none-first (c ∷ cs) (ap (λ x. not (ends_value (record { value = x; start = c.start; stop = c.stop }))) v))
      ∙ quote-first 39 c cs e

  abbrev Quoted : Code → List Code → ℕ → Type 0
  Quoted c cs q = is_value q c ≡ true → value_rest slashes (c ∷ cs) ≡ with_first c (quoted_rest slashes q cs)

  pub value-quote : (q : ℕ) (c : Code) (cs : List Code) → quote_value q ≡ true → is_value q c ≡ true →
      value_rest slashes (c ∷ cs) ≡ with_first c (quoted_rest slashes q cs)
  value-quote q c cs h =
      among-each (Quoted c cs) q (codes "\"'") h (
        λ e. value-here-is (c ∷ cs) (ap whitespace_value (eqb-true c.value 34 e)) ∙ then-first (attribute_value slashes) (any_number (λ d. not (is_value 34 d)) then_ one (is_value 34)) (tag_rest slashes) c cs (value-double c cs e),
        (λ e. value-here-is (c ∷ cs) (ap whitespace_value (eqb-true c.value 39 e)) ∙ then-first (attribute_value slashes) (any_number (λ d. not (is_value 39 d)) then_ one (is_value 39)) (tag_rest slashes) c cs (value-single c cs e), tt),
      )

  value-refused : (cs : List Code) → next_is is_whitespace_code cs ≡ false → next_is (is_value 34) cs ≡ false →
      next_is (is_value 39) cs ≡ false → next_is (λ c. not (ends_value c)) cs ≡ false → value_rest slashes cs ≡ None
  unfolding attribute_value
  value-refused cs e h k l =
      value-here-is cs e
      ∙ then-none (attribute_value slashes) (tag_rest slashes) cs (either-none (quoted_value 34) (either (quoted_value 39) (unquoted_value slashes)) cs (quote-none 34 cs h) (either-none (quoted_value 39) (unquoted_value slashes) cs (quote-none 39 cs k) (unquoted-none-first cs l)))

  pub value-end : value_rest slashes [] ≡ None
  value-end = value-refused [] refl refl refl refl

  pub value-none : (c : Code) (cs : List Code) → starts_no_value c.value ≡ true → value_rest slashes (c ∷ cs) ≡ None
  value-none c cs h =
      let P : ℕ → Type 0 = λ v. (whitespace_value v ≡ false) × ((v == 34) ≡ false) × ((v == 39) ≡ false) × (not (ends_value (record { value = v; start = c.start; stop = c.stop })) ≡ false) in
      let k : P c.value = among-each P c.value (codes "<=>`") h ((refl, refl, refl, refl), ((refl, refl, refl, refl), ((refl, refl, refl, refl), ((refl, refl, refl, refl), tt)))) in
      value-refused (c ∷ cs) k.0 k.1 k.2 k.3

  -- no test keeps it from an unquoted value
  plain-value : (c : Code) → is_whitespace_code c ≡ false → quote_value c.value ≡ false →
      starts_no_value c.value ≡ false → ends_value c ≡ false
  plain-value c e h k =
      or_from (is_whitespace_code c) _ e
      (or_from (c.value == 34) _ (or_parts (c.value == 34) _ h).0 (or_from (c.value == 39) _ (or_parts (c.value == 39) _ (or_parts (c.value == 34) _ h).1).0 k))

  pub value-plain : (c : Code) (cs : List Code) → is_whitespace_code c ≡ false → quote_value c.value ≡ false →
      starts_no_value c.value ≡ false → value_rest slashes (c ∷ cs) ≡ with_first c (unquoted_rest slashes cs)
  unfolding attribute_value unquoted_value
  value-plain c cs e h k =
      value-here-is (c ∷ cs) e
      ∙ then-first (attribute_value slashes) (before (any_number (is_later_code slashes)) (next_is is_after_value)) (tag_rest slashes) c cs (
      either-right (quoted_value 34) (either (quoted_value 39) (unquoted_value slashes)) (c ∷ cs) (quote-none 34 (c ∷ cs) (or_parts (c.value == 34) _ h).0)
      ∙ either-right (quoted_value 39) (unquoted_value slashes) (c ∷ cs) (quote-none 39 (c ∷ cs) (or_parts (c.value == 39) _ (or_parts (c.value == 34) _ h).1).0)
      ∙ before-first (one (λ d. not (ends_value d)) then_ any_number (is_later_code slashes)) (any_number (is_later_code slashes)) (next_is is_after_value) c cs
      (one-on (λ d. not (ends_value d)) (any_number (is_later_code slashes)) c cs (ap not (plain-value c e h k))))

  -- Quoted values.

  abbrev quoted_inside : ℕ → Reading (List Code)
  quoted_inside q = any_number (λ c. not (is_value q c)) then_ one (is_value q)

  pub quoted-end : (q : ℕ) → quoted_rest slashes q [] ≡ None
  quoted-end q =
      then-none (quoted_inside q) (tag_rest slashes) [] (then-nothing (any_number (λ c. not (is_value q c))) (one (is_value q)) [] (any-none (λ c. not (is_value q c)) [] refl) ∙ one-not (is_value q) [] refl)

  pub quoted-close : (q : ℕ) (c : Code) (cs : List Code) → is_value q c ≡ true →
      quoted_rest slashes q (c ∷ cs) ≡ with_first c (tag_rest slashes cs)
  quoted-close q c cs e =
      then-after (quoted_inside q) (tag_rest slashes) (c ∷ cs) (c ∷ []) cs (then-nothing (any_number (λ d. not (is_value q d))) (one (is_value q)) (c ∷ cs) (any-none (λ d. not (is_value q d)) (c ∷ cs) (ap not e)) ∙ one-here (is_value q) c cs e)
      ∙ after-more c [] (tag_rest slashes cs) ∙ ap (with_first c) (after-none (tag_rest slashes cs))

  pub quoted-more : (q : ℕ) (c : Code) (cs : List Code) → is_value q c ≡ false →
      quoted_rest slashes q (c ∷ cs) ≡ with_first c (quoted_rest slashes q cs)
  quoted-more q c cs e =
      then-first (quoted_inside q) (quoted_inside q) (tag_rest slashes) c cs
      (then-first (any_number (λ d. not (is_value q d))) (any_number (λ d. not (is_value q d))) (one (is_value q)) c cs (any-on (λ d. not (is_value q d)) c cs (ap not e)))

  -- Unquoted values.

  pub unquoted-more : (c : Code) (cs : List Code) → is_later_code slashes c ≡ true →
      unquoted_rest slashes (c ∷ cs) ≡ with_first c (unquoted_rest slashes cs)
  unquoted-more c cs e =
      then-first (before (any_number (is_later_code slashes)) (next_is is_after_value)) (before (any_number (is_later_code slashes)) (next_is is_after_value)) (tag_rest slashes) c cs
      (before-first (any_number (is_later_code slashes)) (any_number (is_later_code slashes)) (next_is is_after_value) c cs (any-on (is_later_code slashes) c cs e))

  pub unquoted-after : (cs : List Code) → next_is (is_later_code slashes) cs ≡ false → next_is is_after_value cs ≡ true →
      unquoted_rest slashes cs ≡ tag_rest slashes cs
  unquoted-after cs e h =
      then-nothing (before (any_number (is_later_code slashes)) (next_is is_after_value)) (tag_rest slashes) cs
      (before-some (any_number (is_later_code slashes)) (next_is is_after_value) cs [] cs (any-none (is_later_code slashes) cs e) h)

  pub unquoted-none : (cs : List Code) → next_is (is_later_code slashes) cs ≡ false → next_is is_after_value cs ≡ false →
      unquoted_rest slashes cs ≡ None
  unquoted-none cs e h =
      then-none (before (any_number (is_later_code slashes)) (next_is is_after_value)) (tag_rest slashes) cs
      (before-other (any_number (is_later_code slashes)) (next_is is_after_value) cs [] cs (any-none (is_later_code slashes) cs e) h)

  -- Where a line may end.

  end-takes : Consumes 1 (word ">")
  end-takes = text_takes ">" 62 [] refl

  tag-end-takes : Consumes 1 tag_end
  tag-end-takes = second_takes _ _ (takes_no_more itself _ (takes_optional _ (takes_word "/"))) end-takes

  takes-tag-end : Covers itself [] tag_end
  takes-tag-end = takes_then _ _ (takes_optional _ (takes_word "/")) (takes_word ">")

  takes-tag-rest : Covers itself [] (tag_rest slashes)
  takes-tag-rest =
      takes_then _ _ (takes_repeatedly _ (takes_then _ _ takes_spaces (takes_attribute slashes))) (takes_then _ _ takes_optional_spaces takes-tag-end)

  optional-spaces-take : Consumes 0 optional_spaces
  unfolding optional_spaces
  optional-spaces-take = any_takes is_whitespace_code

  tag-rest-takes : Consumes 1 (tag_rest slashes)
  tag-rest-takes =
      second_takes _ _ (takes_no_more itself _ (takes_repeatedly _ (takes_then _ _ takes_spaces (takes_attribute slashes)))) (second_takes _ _ optional-spaces-take tag-end-takes)

  attribute-consumes : Consumes 1 (attribute slashes)
  unfolding attribute attribute_name
  attribute-consumes = then_takes _ _ (then_takes _ _ (one_takes is_attribute_first) (any_takes is_attribute_code)) (takes_no_more itself _ (takes_optional _ takes-initializer))
    where
      takes-initializer : Covers itself [] (initializer slashes)
      takes-initializer =
          takes_then _ _ takes_optional_spaces (takes_then _ _ (takes_one (is_value 61)) (takes_then _ _ takes_optional_spaces (takes_attribute_value slashes)))

  takes-next : Covers itself [] (tag_next slashes)
  takes-next = by_next _ _ is_attribute_first _ _ (takes_then _ _ (takes_attribute slashes) takes-tag-rest) takes-tag-end

  next-takes : Consumes 1 (tag_next slashes)
  next-takes =
      next_takes is_attribute_first _ _ (then_takes _ _ attribute-consumes (weaker _ tag-rest-takes)) tag-end-takes

  takes-value : Covers itself [] (value_rest slashes)
  takes-value = takes_then _ _ (takes_then _ _ takes_optional_spaces (takes_attribute_value slashes)) takes-tag-rest

  value-takes : Consumes 1 (value_rest slashes)
  value-takes =
      second_takes _ _ (takes_no_more itself _ (takes_then _ _ takes_optional_spaces (takes_attribute_value slashes))) tag-rest-takes

  pub between-goes : PassesItsCodes (tag_between slashes)
  between-goes =
      record { takes = takes_then _ _ takes_optional_spaces takes-next; consumes = second_takes _ _ optional-spaces-take next-takes; skips = λ c cs e. spaces-first (tag_next slashes) c cs e }

  pub name-after-goes : PassesItsCodes (name_after slashes)
  name-after-goes =
      record {
        takes = takes_then _ _ takes_optional_spaces (by_next _ _ (is_value 61) _ _ (takes_then _ _ (takes_one (is_value 61)) takes-value) takes-next);
        consumes = second_takes _ _ optional-spaces-take (next_takes (is_value 61) _ _ (then_takes _ _ (one_takes (is_value 61)) (weaker _ value-takes)) next-takes);
        skips = λ c cs e. spaces-first (name_next slashes) c cs e;
      }

  pub value-goes : PassesItsCodes (value_rest slashes)
  value-goes = record { takes = takes-value; consumes = value-takes; skips = λ c cs e. value-space c cs e }

  pub quoted-goes : (q : ℕ) → whitespace_value q ≡ false → PassesItsCodes (quoted_rest slashes q)
  quoted-goes q h =
      record {
        takes = takes_then _ _ (takes_then _ _ (takes_any_number _) (takes_one _)) takes-tag-rest;
        consumes = second_takes _ _ (takes_no_more itself _ (takes_then _ _ (takes_any_number _) (takes_one _))) tag-rest-takes;
        skips = λ c cs e. quoted-more q c cs (whitespace-other q c h e);
      }
