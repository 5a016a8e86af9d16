-- Where the first closing parenthesis behind a title's start that is not escaped has no other one behind it, no resource ends behind that title.
use Rattle.std.proofs.Common.{◌≡◌, ℕ, Bool, true, false, ◌&&◌, ◌||◌, ◌==◌, if◌then◌else◌, Option, Some, None, List, [], ◌∷◌, refl, sym, ap, subst, ◌∙◌}
use Rattle.std.proofs.lemmas.Bool.{eqb-true, or_cases, or_parts}
use Rattle.std.proofs.Common.{inl, inr}
use Rattle.markdown_content.proofs.AdjacentCodes.{tail_same}
use Rattle.std.proofs.Math.Bool.{and-false, and-true}
use Rattle.markdown_content.specs.Codes.{Code, is_blank, is_line_ending}
use Rattle.markdown_engine.specs.PastTree.{behind}
use Rattle.markdown_notes.specs.SequenceIndex.{closes_past_spacing, closes_twice, is_spacing, last_where}
use Rattle.markdown_notes.specs.TitleIndex as Titles
use Rattle.markdown_notes.specs.TitleIndex.{closes_resource, escapes}
use Rattle.markdown_content.specs.Tree.{Forest}
use Rattle.markdown_notes.proofs.RunIndexFacts.{later-none}
use Rattle.markdown_model.specs.CodeTests.{is_empty, is_value, next_is}
use Rattle.markdown_model.specs.Grammar.{Reading, with_first, ◌>>=◌, ◌>>◌, gives, either, provided, before, one, some, any_number, span, escaped_from, up_to}
use Rattle.markdown_model.specs.Resource.{begins_title, escaped_between, is_bare_opener, title, title_between, title_names}
use Rattle.markdown_model.specs.Whitespace.{space_or_tab_eol, spaces_across, spaces_on_line, begins_filled_line}
use Rattle.markdown_model.proofs.GivenByReadings.{IfGiven, given-bind, given-passed, given-gives, given-either, given-before}
use Rattle.markdown_model.proofs.GrammarSteps.{if-true, and-left}
use Rattle.markdown_partial.proofs.EscapedTextReadings.{text-end, text-next, text-refused, text-stops, text-taken}
use Rattle.markdown_label.specs.Resource.{closes, or_without, and_then, after_title, between}
use Rattle.markdown_label.proofs.ResourceReadings.{closes-none}

-- What a reading leaves.

-- the codes after what was read, if anything was
abbrev Rests : {A : Type 0} → (List Code → Type 0) → Option (A × List Code) → Type 0
Rests P o = IfGiven (λ _ rest. P rest) o

rests-bind : {A B : Type 0} (P Q : List Code → Type 0) (a : Reading A) (next : A → Reading B) (cs : List Code) →
    Rests P (a cs) → ((x : A) (rest : List Code) → P rest → Rests Q (next x rest)) → Rests Q ((a >>= next) cs)
rests-bind P Q a next cs h k = given-bind (λ _ rest. P rest) (λ _ rest. Q rest) a next cs h k

module _ {A : Type 0} (Q : List Code → Type 0) where
  rests-passed : (test : Bool) (b : Reading A) (cs : List Code) → Rests Q (b cs) → Rests Q ((provided test >> b) cs)
  rests-passed test b cs h = given-passed (λ _ rest. Q rest) test b cs (λ _. h)

  rests-gives : (x : A) (cs : List Code) → Q cs → Rests Q (gives x cs)
  rests-gives x cs h = given-gives (λ _ rest. Q rest) x cs h

  rests-either : (a b : Reading A) (cs : List Code) → Rests Q (a cs) → Rests Q (b cs) → Rests Q (either a b cs)
  rests-either a b cs h k = given-either (λ _ rest. Q rest) a b cs h k

  rests-before : (a : Reading A) (p : List Code → Bool) (cs : List Code) → Rests Q (a cs) → Rests Q (before a p cs)
  rests-before a p cs h = given-before (λ _ rest. Q rest) a p cs h

rests-one : (Q : List Code → Type 0) (p : Code → Bool) (cs : List Code) →
    ((c : Code) (ds : List Code) → cs ≡ c ∷ ds → p c ≡ true → Q ds) → Rests Q (one p cs)
unfolding one
rests-one Q p [] k = tt
rests-one Q p (c ∷ cs) k =
    elim (p c) as (λ b. p c ≡ b → Rests Q (elim b as (λ _. Option (List Code × List Code)) [ true ↦ Some (c ∷ [], cs) | false ↦ None ])) [ true ↦ λ e. k c cs refl e | false ↦ λ e. tt ] refl

-- No parenthesis, past whitespace.

abbrev Unclosed : List Code → Type 0
Unclosed cs = closes_past_spacing cs ≡ false

unclosed-past : (c : Code) (cs : List Code) → is_spacing c.value ≡ true → Unclosed (c ∷ cs) → Unclosed cs
unclosed-past c cs e h = sym (ap (λ b. if b then closes_past_spacing cs else c.value == 41) e) ∙ h

blank-spacing : (c : Code) → is_blank c ≡ true → is_spacing c.value ≡ true
blank-spacing c e = by-parts (c.value == 32) (c.value == 9) (c.value == 10) e
  where
    by-parts : (a b d : Bool) → a || b ≡ true → a || (b || d) ≡ true
    by-parts true b d e = refl
    by-parts false true d e = refl
    by-parts false false d e = cc

ending-spacing : (c : Code) → is_line_ending c ≡ true → is_spacing c.value ≡ true
ending-spacing c e = ap (λ v. is_spacing v) (eqb-true c.value 10 e)

span-rest : (cs : List Code) → Unclosed cs → Unclosed (span is_blank cs).1
span-rest [] h = h
span-rest (c ∷ cs) h =
    elim (is_blank c) as (λ b. is_blank c ≡ b → Unclosed (elim b as (λ _. List Code × List Code) [ true ↦ (c ∷ (span is_blank cs).0, (span is_blank cs).1) | false ↦ ([], c ∷ cs) ]).1) [
      | true ↦ λ e. span-rest cs (unclosed-past c cs (blank-spacing c e) h)
      | false ↦ λ e. h
    ] refl

any-rest : (cs : List Code) → Unclosed cs → Rests Unclosed (any_number is_blank cs)
unfolding any_number
any-rest cs h = span-rest cs h

some-rest : (cs : List Code) → Unclosed cs → Rests Unclosed (some is_blank cs)
unfolding some
some-rest cs h =
    elim (is_empty (span is_blank cs).0) as (λ b. Rests Unclosed (elim b as (λ _. Option (List Code × List Code)) [ true ↦ None | false ↦ Some (span is_blank cs) ])) [ true ↦ tt | false ↦ span-rest cs h ]

spacing-rest : (cs : List Code) → Unclosed cs → Rests Unclosed (space_or_tab_eol None cs)
unfolding space_or_tab_eol spaces_across spaces_on_line
spacing-rest cs h =
    rests-either Unclosed _ _ cs
    (rests-bind Unclosed Unclosed (any_number is_blank) _ cs (any-rest cs h) λ front r k.
    rests-bind Unclosed Unclosed (one is_line_ending) _ r (rests-one Unclosed is_line_ending r (λ c ds e t. unclosed-past c ds (ending-spacing c t) (subst Unclosed e k))) λ ending r k.
    rests-bind Unclosed Unclosed (before (any_number is_blank) begins_filled_line) _ r (rests-before Unclosed (any_number is_blank) begins_filled_line r (any-rest r k)) λ back r k. rests-gives Unclosed _ r k)
    (rests-bind Unclosed Unclosed (before (some is_blank) _) _ cs (rests-before Unclosed (some is_blank) _ cs (some-rest cs h)) λ blank r k. rests-gives Unclosed _ r k)

spacing-other : (v : ℕ) → is_spacing v ≡ true → (v == 41) ≡ false
spacing-other v h =
    elim (or_cases (v == 32) _ h) [
      | inl e ↦ ap (λ x. x == 41) (eqb-true v 32 e)
      | inr k ↦ elim (or_cases (v == 9) (v == 10) k) [ inl e ↦ ap (λ x. x == 41) (eqb-true v 9 e) | inr e ↦ ap (λ x. x == 41) (eqb-true v 10 e) ]
    ]

next-unclosed : (cs : List Code) → Unclosed cs → next_is (is_value 41) cs ≡ false
next-unclosed [] h = refl
next-unclosed (c ∷ cs) h =
    elim (is_spacing c.value) as (λ b. is_spacing c.value ≡ b → (if b then closes_past_spacing cs else c.value == 41) ≡ false → (c.value == 41) ≡ false) [
      | true ↦ λ e k. spacing-other c.value e
      | false ↦ λ e k. k
    ] refl h

after-none : (cs : List Code) → Unclosed cs → after_title cs ≡ None
after-none cs h = by-space (space_or_tab_eol None cs) refl
  where
    by-space : (o : Option (Forest × List Code)) → space_or_tab_eol None cs ≡ o → after_title cs ≡ None
    by-space None e = ap (λ x. or_without x closes cs) e ∙ closes-none cs (next-unclosed cs h)
    by-space (Some r) e =
        ap (λ x. or_without x closes cs) e ∙ ap (behind r.0) (closes-none r.1 (next-unclosed r.1 (subst (λ o. Rests Unclosed o) e (spacing-rest cs h))))

-- No two parentheses with nothing but whitespace between them.

abbrev NoEnd : List Code → Type 0
NoEnd cs = closes_twice cs ≡ false

no-end-closed : (c : Code) (cs : List Code) → is_value 41 c ≡ true → NoEnd (c ∷ cs) → Unclosed cs
no-end-closed c cs e h = sym (ap (λ b. b && closes_past_spacing cs) e) ∙ h

rests-first : (Q : List Code → Type 0) (c : Code) (o : Option (List Code × List Code)) → Rests Q o →
    Rests Q (with_first c o)
rests-first Q c None h = tt
rests-first Q c (Some r) h = h

-- What a title takes behind a backslash, where it stops, and what it refuses; `both` says that the opening parenthesis has to be escaped too.

module _ (both : Bool) where
  abbrev takes : Code → Bool
  takes = escaped_between both 40 41

  abbrev bare : Code → Bool
  bare = is_bare_opener both 40

  abbrev titled : Bool → Reading (List Code)
  titled = escaped_from (is_value 41) takes bare

  behind-slash : (c : Code) (cs : List Code) → closes_resource true (c ∷ cs) ≡ false → closes_resource false cs ≡ false
  behind-slash c cs h =
      sym (ap (λ b. if b then closes_past_spacing cs else closes_resource (escapes true c.value) cs) (and-false (c.value == 41)) ∙ ap (λ b. closes_resource b cs) (and-false (c.value == 92)))
      ∙ h

  past-slash : (c : Code) (cs : List Code) (b : Bool) → takes c ≡ b → Rests NoEnd (titled false cs) →
      Rests NoEnd (titled true (c ∷ cs))
  past-slash c cs true e k =
      subst (Rests NoEnd) (sym (text-taken (is_value 41) takes bare true c cs e)) (rests-first NoEnd c (titled false cs) k)
  past-slash c cs false e k =
      let slash = or_parts (c.value == 92) (c.value == 41 || bare c) e in
      let other = or_parts (c.value == 41) (bare c) slash.1 in
      subst (Rests NoEnd) (sym (text-next (is_value 41) takes bare true c cs e other.0 other.1 ∙ ap (λ b. with_first c (titled b cs)) slash.0))
      (rests-first NoEnd c (titled false cs) k)

  past-other : (c : Code) (cs : List Code) (b r : Bool) → (c.value == 41) ≡ b → bare c ≡ r → closes_resource false (c ∷ cs) ≡ false →
      ((slash : Bool) → closes_resource slash cs ≡ false → Rests NoEnd (titled slash cs)) →
      Rests NoEnd (titled false (c ∷ cs))
  past-other c cs true r e f h k =
      subst (Rests NoEnd) (sym (text-stops (is_value 41) takes bare false c cs refl e))
      (ap (λ b. b && closes_past_spacing cs) e ∙ sym (ap (λ b. if b && true then closes_past_spacing cs else closes_resource (escapes false c.value) cs) e) ∙ h)
  past-other c cs false true e f h k =
      subst (Rests NoEnd) (sym (text-refused (is_value 41) takes bare false c cs refl e f)) tt
  past-other c cs false false e f h k =
      subst (Rests NoEnd) (sym (text-next (is_value 41) takes bare false c cs refl e f))
      (rests-first NoEnd c (titled (c.value == 92) cs)
      (k (c.value == 92)
      (ap (λ b. closes_resource b cs) (sym (and-true (c.value == 92))) ∙ sym (ap (λ b. if b && true then closes_past_spacing cs else closes_resource (escapes false c.value) cs) e) ∙ h)))

  text-rest : (slash : Bool) (cs : List Code) → closes_resource slash cs ≡ false → Rests NoEnd (titled slash cs)
  text-rest slash [] h = subst (Rests NoEnd) (sym (text-end (is_value 41) takes bare slash)) tt
  text-rest true (c ∷ cs) h = past-slash c cs (takes c) refl (text-rest false cs (behind-slash c cs h))
  text-rest false (c ∷ cs) h = past-other c cs (c.value == 41) (bare c) refl refl h (λ slash k. text-rest slash cs k)

  whole-rest : (cs : List Code) → closes_resource false cs ≡ false →
      Rests NoEnd (up_to (is_value 41) takes bare cs)
  unfolding up_to
  whole-rest cs h = text-rest false cs h

other-value : (n m : ℕ) (c : Code) (cs ds : List Code) (d : Code) → (n == m) ≡ false → is_value n c ≡ true →
    c ∷ cs ≡ d ∷ ds → is_value m d ≡ true → ⊥
other-value n m c cs ds d other e same k = differ (sym (ap (λ v. v == m) (eqb-true c.value n e) ∙ other) ∙ ap (λ xs. next_is (is_value m) xs) same ∙ k)
  where
    differ : false ≡ true → ⊥
    differ x = cc

title-rest : (both : Bool) (c : Code) (cs : List Code) → is_value 40 c ≡ true → closes_resource false cs ≡ false →
    Rests Unclosed (title both title_names (c ∷ cs))
unfolding title title_between
title-rest both c cs e h =
    rests-either Unclosed _ _ (c ∷ cs)
    (rests-bind (λ _. ⊥) Unclosed (one (is_value 34)) _ (c ∷ cs) (rests-one (λ _. ⊥) (is_value 34) (c ∷ cs) (λ d ds same k. other-value 40 34 c cs ds d refl e same k)) λ x r k. absurd k)
    (rests-either Unclosed _ _ (c ∷ cs)
    (rests-bind (λ _. ⊥) Unclosed (one (is_value 39)) _ (c ∷ cs) (rests-one (λ _. ⊥) (is_value 39) (c ∷ cs) (λ d ds same k. other-value 40 39 c cs ds d refl e same k)) λ x r k. absurd k)
    (rests-bind (λ r. closes_resource false r ≡ false) Unclosed (one (is_value 40)) _ (c ∷ cs) (rests-one (λ r. closes_resource false r ≡ false) (is_value 40) (c ∷ cs) (λ d ds same k. subst (λ r. closes_resource false r ≡ false) (tail_same c d cs ds same) h)) λ front r k.
    rests-bind NoEnd Unclosed (up_to (is_value 41) (takes both) (bare both)) _ r (whole-rest both r k) λ inside r k.
    rests-bind Unclosed Unclosed (one (is_value 41)) _ r (rests-one Unclosed (is_value 41) r (λ d ds same t. no-end-closed d ds t (subst NoEnd same k))) λ back r k. rests-passed Unclosed _ _ r (rests-gives Unclosed _ r k)))

pub no-title : (both : Bool) (c : Code) (cs : List Code) → is_value 40 c ≡ true → closes_resource false cs ≡ false →
    between both (c ∷ cs) ≡ None
no-title both c cs e h = if-true (begins_title (c ∷ cs)) _ _ (ap (λ v. v == 34 || (v == 39 || (v == 40 || false))) (eqb-true c.value 40 e)) ∙ by-title (title both title_names (c ∷ cs)) refl
  where
    by-title : (o : Option (Forest × List Code)) → title both title_names (c ∷ cs) ≡ o → and_then o after_title ≡ None
    by-title None g = refl
    by-title (Some r) g = ap (behind r.0) (after-none r.1 (subst (λ o. Rests Unclosed o) g (title-rest both c cs e h)))

-- so it is where no closing parenthesis further on has another one behind it

none-by : (b slash : Bool) (c : Code) (cs : List Code) → Titles.closes slash c.value ≡ b →
    closes_twice (c ∷ cs) ≡ false → closes_resource (escapes slash c.value) cs ≡ false →
    (if b then closes_past_spacing cs else closes_resource (escapes slash c.value) cs) ≡ false
none-by true slash c cs e h k = sym (ap (λ b. b && closes_past_spacing cs) (and-left (c.value == 41) _ e)) ∙ h
none-by false slash c cs e h k = k

none-from : (slash : Bool) (cs : List Code) → last_where closes_twice cs ≡ None → closes_resource slash cs ≡ false
none-from slash [] h = refl
none-from slash (c ∷ cs) h =
    let here = later-none (last_where closes_twice cs) (closes_twice (c ∷ cs)) h in
    none-by (Titles.closes slash c.value) slash c cs refl here.1 (none-from (escapes slash c.value) cs here.0)

pub none-twice : (c : Code) (cs : List Code) → last_where closes_twice (c ∷ cs) ≡ None →
    closes_resource false cs ≡ false
none-twice c cs h = none-from false cs (later-none (last_where closes_twice cs) (closes_twice (c ∷ cs)) h).0
