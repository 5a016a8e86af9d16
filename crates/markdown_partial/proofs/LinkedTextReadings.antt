-- Texts that are read as strings: the operations that they ask for, by the next code.
use Rattle.std.proofs.Common.{◌≡◌, ◌==◌, ◌||◌, not, Bool, true, false, if◌then◌else◌, Option, Some, None, List, [], ◌∷◌, ◌++◌, refl, sym, ap, subst, ◌∙◌, append_assoc}
use Rattle.std.proofs.lemmas.Bool.{not-false, not-true, or_right, or_left}
use Rattle.markdown_content.specs.Codes.{Code, is_line_ending, is_blank}
use Rattle.markdown_engine.specs.Operations.{Op, Exit, Consume}
use Rattle.markdown_event.specs.declared.event.Name.TheVariants as N
use Rattle.markdown_model.specs.CodeTests.{is_whitespace_code, next_is}
use Rattle.markdown_model.specs.Grammar.{with_first, escaped_from, span}
use Rattle.markdown_model.specs.Whitespace.{begins_filled_line}
use Rattle.markdown_plan.specs.Plan.{preceded}
use Rattle.markdown_partial.specs.LinkedTreeOps.{linked_ops}
use Rattle.markdown_partial.specs.LinkedText.{enter_text, break_ops, inside_ops, ends_filled, answer}
use Rattle.markdown_partial.proofs.EscapedTextReadings.{Behind, first-some, text-end, text-taken, text-stops, text-refused, text-next, text-bare, text}
use Rattle.markdown_partial.proofs.LinkedTextLines.{BeginsWithText, AreBlank, IsLineEnded, break-data, ending_leaves, break-ending, inside-more, inside-end}
use Rattle.markdown_partial.proofs.BoolLemmas.{same-value}
use Rattle.markdown_model.proofs.LeafCodes.{span-append}
use Rattle.markdown_model.proofs.GrammarSteps.{span-takes, span-none}

-- Answers behind some codes.

-- with these before what was read
abbrev pub with_all : List Code → Option (List Code × List Code) → Option (List Code × List Code)
with_all [] o = o
with_all (w ∷ ws) o = with_first w (with_all ws o)

all-none : (ws : List Code) → with_all ws None ≡ None
all-none [] = refl
all-none (w ∷ ws) = ap (with_first w) (all-none ws)

all-some : (ws : List Code) (r : List Code × List Code) → with_all ws (Some r) ≡ Some (ws ++ r.0, r.1)
all-some [] r = refl
all-some (w ∷ ws) r = ap (with_first w) (all-some ws r)

answer-by : (a b : Bool) (xs ys os ending : List Op) → a ≡ b → xs ≡ os ++ ys →
    (if a then Some (xs ++ ending) else None) ≡ preceded os (if b then Some (ys ++ ending) else None)
answer-by true true xs ys os ending e h =
    ap (λ zs. Some (zs ++ ending)) h ∙ ap (λ zs. Some zs) (append_assoc os ys ending)
answer-by false false xs ys os ending e h = refl
answer-by true false xs ys os ending e h = cc
answer-by false true xs ys os ending e h = cc

pub answer-many : (check further : List Code → Bool) (ops more : List Code → List Op) (os ending : List Op) (ws : List Code) (o : Option (List Code × List Code)) →
    ((r : List Code × List Code) → o ≡ Some r → (check (ws ++ r.0) ≡ further r.0) × (ops (ws ++ r.0) ≡ os ++ more r.0)) →
    answer check ops ending (with_all ws o) ≡ preceded os (answer further more ending o)
answer-many check further ops more os ending ws None h = ap (answer check ops ending) (all-none ws)
answer-many check further ops more os ending ws (Some r) h =
    let k = h r refl in
    ap (answer check ops ending) (all-some ws r) ∙ answer-by (check (ws ++ r.0)) (further r.0) (ops (ws ++ r.0)) (more r.0) os ending k.0 k.1

answer-false : (b : Bool) (xs : List Op) → b ≡ false → (if b then Some xs else None) ≡ None
answer-false false xs e = refl
answer-false true xs e = cc

pub answer-none : (check : List Code → Bool) (ops : List Code → List Op) (ending : List Op) (ws : List Code) (o : Option (List Code × List Code)) →
    ((r : List Code × List Code) → o ≡ Some r → check (ws ++ r.0) ≡ false) →
    answer check ops ending (with_all ws o) ≡ None
answer-none check ops ending ws None h = ap (answer check ops ending) (all-none ws)
answer-none check ops ending ws (Some r) h =
    ap (answer check ops ending) (all-some ws r) ∙ answer-false (check (ws ++ r.0)) (ops (ws ++ r.0) ++ ending) (h r refl)

-- Blank codes.

value-or : (a b c : Bool) → a || b ≡ true → (a ≡ true → c ≡ false) → (b ≡ true → c ≡ false) → c ≡ false
value-or true b c h f g = f refl
value-or false b c h f g = g h

pub blank-line : (c : Code) → is_blank c ≡ true → is_line_ending c ≡ false
blank-line c h =
    value-or (c.value == 32) (c.value == 9) (is_line_ending c) h (λ e. same-value c.value 32 e (λ v. v == 10)) (λ e. same-value c.value 9 e (λ v. v == 10))

blank-by : (b : Bool) (c : Code) (cs : List Code) → is_blank c ≡ b → AreBlank (span is_blank cs).0 →
    AreBlank (span is_blank (c ∷ cs)).0
blank-by true c cs e k =
    subst (λ (s : List Code × List Code). AreBlank s.0) (sym (span-takes is_blank c cs e)) ((e, blank-line c e), k)
blank-by false c cs e k = subst (λ (s : List Code × List Code). AreBlank s.0) (sym (span-none is_blank (c ∷ cs) e)) tt

pub blank-front : (cs : List Code) → AreBlank (span is_blank cs).0
blank-front [] = tt
blank-front (c ∷ cs) = blank-by (is_blank c) c cs refl (blank-front cs)

behind-by : (b : Bool) (c : Code) (cs : List Code) → is_blank c ≡ b → next_is is_blank (span is_blank cs).1 ≡ false →
    next_is is_blank (span is_blank (c ∷ cs)).1 ≡ false
behind-by true c cs e k = ap (λ (s : List Code × List Code). next_is is_blank s.1) (span-takes is_blank c cs e) ∙ k
behind-by false c cs e k = ap (λ (s : List Code × List Code). next_is is_blank s.1) (span-none is_blank (c ∷ cs) e) ∙ e

blank-behind : (cs : List Code) → next_is is_blank (span is_blank cs).1 ≡ false
blank-behind [] = refl
blank-behind (c ∷ cs) = behind-by (is_blank c) c cs refl (blank-behind cs)

-- the front of codes of which a line with another code begins
front-begins : (xs ys cs : List Code) → cs ≡ xs ++ ys → begins_filled_line cs ≡ true → next_is is_blank cs ≡ false →
    BeginsWithText xs
front-begins [] ys cs e h k = tt
front-begins (x ∷ xs) ys cs e h k =
    (not-true (is_line_ending x) (sym (ap begins_filled_line e) ∙ h), sym (ap (next_is is_blank) e) ∙ k)

-- What holds of the test for blank lines.

if-ending : (c : Code) (x y : Bool) (b : Bool) → is_line_ending c ≡ b →
    elim (is_line_ending c) as (λ _. Bool) [ true ↦ x | false ↦ y ] ≡ elim b as (λ _. Bool) [ true ↦ x | false ↦ y ]
if-ending c x y b e = ap (λ z. elim z as (λ _. Bool) [ true ↦ x | false ↦ y ]) e

pub filled-data : (c : Code) (text : List Code) → is_line_ending c ≡ false →
    ends_filled true (c ∷ text) ≡ ends_filled true text
filled-data c text e = if-ending c _ _ false e

filled-blank : (ws text : List Code) → AreBlank ws → ends_filled false (ws ++ text) ≡ ends_filled false text
filled-blank [] text k = refl
filled-blank (w ∷ ws) text k =
    if-ending w _ _ false k.0.1 ∙ ap (λ b. ends_filled (not b) (ws ++ text)) k.0.0 ∙ filled-blank ws text k.1

filled-begins : (text : List Code) → BeginsWithText text → ends_filled false text ≡ ends_filled true text
filled-begins [] b = refl
filled-begins (c ∷ text) b =
    if-ending c _ _ false b.0 ∙ ap (λ x. ends_filled (not x) text) b.1 ∙ sym (filled-data c text b.0)

pub filled-ending : (c : Code) (ws text : List Code) → is_line_ending c ≡ true → AreBlank ws → BeginsWithText text →
    ends_filled true (c ∷ ws ++ text) ≡ ends_filled true text
filled-ending c ws text e k b = if-ending c _ _ true e ∙ filled-blank ws text k ∙ filled-begins text b

pub filled-none : (c : Code) (ws : List Code) (d : Code) (text : List Code) → is_line_ending c ≡ true → AreBlank ws →
    is_line_ending d ≡ true → ends_filled true (c ∷ ws ++ d ∷ text) ≡ false
filled-none c ws d text e k h = if-ending c _ _ true e ∙ filled-blank ws (d ∷ text) k ∙ if-ending d _ _ true h

-- Plans in the middle of a text, by the next code.

-- a text in which whitespace is neither stopped at, nor refused
module _ (stop takes refuses : Code → Bool) (plain : (c : Code) → is_whitespace_code c ≡ true → (stop c ≡ false) × ((refuses c ≡ false) × ((c.value == 92) ≡ false))) (ending : List Op) where
  abbrev pub reads : Bool → List Code → Option (List Code × List Code)
  reads slash cs = escaped_from stop takes refuses slash cs

  abbrev pub breaks : (List Code → Bool) → Bool → List Code → Option (List Op)
  breaks check connect cs = answer check (break_ops connect) ending (reads false cs)

  abbrev pub insides : (List Code → Bool) → Bool → List Code → Option (List Op)
  insides check slash cs = answer check inside_ops ending (reads slash cs)

  -- the end

  pub breaks-end : (check : List Code → Bool) (connect : Bool) → breaks check connect [] ≡ None
  breaks-end check connect = ap (answer check (break_ops connect) ending) (text-end stop takes refuses false)

  pub insides-end : (check : List Code → Bool) (slash : Bool) → insides check slash [] ≡ None
  insides-end check slash = ap (answer check inside_ops ending) (text-end stop takes refuses slash)

  -- the closing marker
  pub breaks-stop : (check : List Code → Bool) (connect : Bool) (c : Code) (cs : List Code) → stop c ≡ true →
      check [] ≡ true → breaks check connect (c ∷ cs) ≡ Some ending
  breaks-stop check connect c cs h k =
      ap (answer check (break_ops connect) ending) (text-stops stop takes refuses false c cs refl h) ∙ ap (λ b. if b then Some ending else None) k

  pub breaks-unfit : (check : List Code → Bool) (connect : Bool) (c : Code) (cs : List Code) → stop c ≡ true →
      check [] ≡ false → breaks check connect (c ∷ cs) ≡ None
  breaks-unfit check connect c cs h k =
      ap (answer check (break_ops connect) ending) (text-stops stop takes refuses false c cs refl h) ∙ ap (λ b. if b then Some ending else None) k

  -- a code that refuses the text
  pub breaks-refused : (check : List Code → Bool) (connect : Bool) (c : Code) (cs : List Code) → stop c ≡ false →
      refuses c ≡ true → breaks check connect (c ∷ cs) ≡ None
  breaks-refused check connect c cs h k =
      ap (answer check (break_ops connect) ending) (text-refused stop takes refuses false c cs refl h k)

  -- data begins
  pub breaks-data : (check further : List Code → Bool) (connect slash : Bool) (c : Code) (cs : List Code) →
      stop c ≡ false → refuses c ≡ false → is_line_ending c ≡ false → (c.value == 92) ≡ slash →
      ((text : List Code) → check (c ∷ text) ≡ further text) →
      breaks check connect (c ∷ cs) ≡ preceded (enter_text connect ∷ Consume ∷ []) (insides further slash cs)
  breaks-data check further connect slash c cs h k l e f =
      ap (answer check (break_ops connect) ending) (text-next stop takes refuses false c cs refl h k)
      ∙ answer-many check further (break_ops connect) inside_ops (enter_text connect ∷ Consume ∷ []) ending (c ∷ []) (reads (c.value == 92) cs) (λ r x. (f r.0, break-data connect c r.0 l))
      ∙ ap (λ b. preceded (enter_text connect ∷ Consume ∷ []) (insides further b cs)) e

  -- data goes on
  pub insides-next : (check further : List Code → Bool) (slash : Bool) (c : Code) (cs : List Code) → stop c ≡ false →
      refuses c ≡ false → is_line_ending c ≡ false → (c.value == 92) ≡ slash →
      ((text : List Code) → check (c ∷ text) ≡ further text) →
      insides check false (c ∷ cs) ≡ preceded (Consume ∷ []) (insides further slash cs)
  insides-next check further slash c cs h k l e f =
      ap (answer check inside_ops ending) (text-next stop takes refuses false c cs refl h k)
      ∙ answer-many check further inside_ops inside_ops (Consume ∷ []) ending (c ∷ []) (reads (c.value == 92) cs) (λ r x. (f r.0, inside-more c r.0 l))
      ∙ ap (λ b. preceded (Consume ∷ []) (insides further b cs)) e

  pub insides-taken : (check further : List Code → Bool) (c : Code) (cs : List Code) → takes c ≡ true →
      is_line_ending c ≡ false → ((text : List Code) → check (c ∷ text) ≡ further text) →
      insides check true (c ∷ cs) ≡ preceded (Consume ∷ []) (insides further false cs)
  insides-taken check further c cs h l f =
      ap (answer check inside_ops ending) (text-taken stop takes refuses true c cs h)
      ∙ answer-many check further inside_ops inside_ops (Consume ∷ []) ending (c ∷ []) (reads false cs) (λ r x. (f r.0, inside-more c r.0 l))

  pub insides-bare : (check : List Code → Bool) (c : Code) (cs : List Code) → takes c ≡ false →
      insides check true (c ∷ cs) ≡ insides check false (c ∷ cs)
  insides-bare check c cs h = ap (answer check inside_ops ending) (text-bare stop takes refuses c cs h)

  -- data ends
  insides-leave : (check : List Code → Bool) (cs : List Code) →
      ((r : List Code × List Code) → reads false cs ≡ Some r → IsLineEnded r.0) →
      insides check false cs ≡ preceded (Exit N.Data ∷ []) (breaks check true cs)
  insides-leave check cs h =
      answer-many check check inside_ops (break_ops true) (Exit N.Data ∷ []) ending [] (reads false cs) (λ r x. (refl, inside-end r.0 (h r x)))

  pub leave-end : (check : List Code → Bool) →
      insides check false [] ≡ preceded (Exit N.Data ∷ []) (breaks check true [])
  leave-end check = insides-end check false ∙ ap (preceded (Exit N.Data ∷ [])) (sym (breaks-end check true))

  pub leave-stop : (check : List Code → Bool) (c : Code) (cs : List Code) → stop c ≡ true →
      insides check false (c ∷ cs) ≡ preceded (Exit N.Data ∷ []) (breaks check true (c ∷ cs))
  leave-stop check c cs h =
      insides-leave check (c ∷ cs) (λ r x.
      let same : ([], c ∷ cs) ≡ r = (let s : Some ([], c ∷ cs) ≡ Some r = sym (text-stops stop takes refuses false c cs refl h) ∙ x in cc) in
      subst (λ (y : List Code × List Code). IsLineEnded y.0) same tt)

  pub leave-refused : (check : List Code → Bool) (c : Code) (cs : List Code) → stop c ≡ false → refuses c ≡ true →
      insides check false (c ∷ cs) ≡ preceded (Exit N.Data ∷ []) (breaks check true (c ∷ cs))
  leave-refused check c cs h k =
      insides-leave check (c ∷ cs) (λ r x. let no : None ≡ Some r = sym (text-refused stop takes refuses false c cs refl h k) ∙ x in cc)

  ended-front : (c : Code) (cs xs ys : List Code) → c ∷ cs ≡ xs ++ ys → is_line_ending c ≡ true → IsLineEnded xs
  ended-front c cs [] ys e h = tt
  ended-front c cs (x ∷ xs) ys e h = sym (ap (next_is is_line_ending) e) ∙ h

  pub leave-ending : (check : List Code → Bool) (c : Code) (cs : List Code) → is_line_ending c ≡ true →
      insides check false (c ∷ cs) ≡ preceded (Exit N.Data ∷ []) (breaks check true (c ∷ cs))
  leave-ending check c cs h =
      insides-leave check (c ∷ cs) (λ r x. ended-front c cs r.0 r.1 (text stop takes refuses false (c ∷ cs) r x).whole h)

  -- a line ending

  reads-white : (c : Code) (cs : List Code) → is_whitespace_code c ≡ true →
      reads false (c ∷ cs) ≡ with_first c (reads false cs)
  reads-white c cs h =
      let k = plain c h in
      text-next stop takes refuses false c cs refl k.0 k.1.0 ∙ ap (λ b. with_first c (reads b cs)) k.1.1

  reads-blank : (ws cs : List Code) → AreBlank ws → reads false (ws ++ cs) ≡ with_all ws (reads false cs)
  reads-blank [] cs k = refl
  reads-blank (w ∷ ws) cs k =
      reads-white w (ws ++ cs) (or_left (is_blank w) (is_line_ending w) k.0.0) ∙ ap (with_first w) (reads-blank ws cs k.1)

  reads-ending : (c : Code) (cs : List Code) → is_line_ending c ≡ true →
      reads false (c ∷ cs) ≡ with_all (c ∷ (span is_blank cs).0) (reads false (span is_blank cs).1)
  reads-ending c cs h =
      let s : List Code × List Code = span is_blank cs in
      ap (λ xs. reads false (c ∷ xs)) (sym (span-append is_blank cs))
      ∙ reads-white c (s.0 ++ s.1) (or_right (is_blank c) (is_line_ending c) h)
      ∙ ap (with_first c) (reads-blank s.0 s.1 (blank-front cs))

  pub breaks-ending : (check further : List Code → Bool) (connect : Bool) (c : Code) (cs : List Code) →
      is_line_ending c ≡ true → begins_filled_line (span is_blank cs).1 ≡ true →
      ((ws text : List Code) → AreBlank ws → BeginsWithText text → check (c ∷ ws ++ text) ≡ further text) →
      breaks check connect (c ∷ cs) ≡ preceded (linked_ops connect (ending_leaves c (span is_blank cs).0)) (breaks further true (span is_blank cs).1)
  breaks-ending check further connect c cs h filled f =
      let s : List Code × List Code = span is_blank cs in
      ap (answer check (break_ops connect) ending) (reads-ending c cs h)
      ∙ answer-many check further (break_ops connect) (break_ops true) (linked_ops connect (ending_leaves c s.0)) ending (c ∷ s.0) (reads false s.1) (λ r x.
      let b : BeginsWithText r.0 = front-begins r.0 r.1 s.1 (text stop takes refuses false s.1 r x).whole filled (blank-behind cs) in
      (f s.0 r.0 (blank-front cs) b, break-ending connect c s.0 r.0 h (blank-front cs) b))

  -- the codes behind blank ones are read so that a blank line shows
  blank-check : (check : List Code → Bool) (c : Code) (ws rest : List Code) → begins_filled_line rest ≡ false →
      ((d : Code) (text : List Code) → is_line_ending d ≡ true → check (c ∷ ws ++ d ∷ text) ≡ false) →
      (r : List Code × List Code) → reads false rest ≡ Some r → check (c ∷ ws ++ r.0) ≡ false
  blank-check check c ws [] unfilled f r x = let no : None ≡ Some r = sym (text-end stop takes refuses false) ∙ x in cc
  blank-check check c ws (d ∷ rest) unfilled f r x =
      let h : is_line_ending d ≡ true = not-false (is_line_ending d) unfilled in
      let b : Behind d (reads false rest) r = first-some d (reads false rest) r (sym (reads-white d rest (or_right (is_blank d) (is_line_ending d) h)) ∙ x) in
      ap (λ (y : List Code × List Code). check (c ∷ ws ++ y.0)) b.is ∙ f d b.others.0 h

  pub breaks-blank : (check : List Code → Bool) (connect : Bool) (c : Code) (cs : List Code) → is_line_ending c ≡ true →
      begins_filled_line (span is_blank cs).1 ≡ false →
      ((ws : List Code) (d : Code) (text : List Code) → AreBlank ws → is_line_ending d ≡ true → check (c ∷ ws ++ d ∷ text) ≡ false) →
      breaks check connect (c ∷ cs) ≡ None
  breaks-blank check connect c cs h unfilled f =
      let s : List Code × List Code = span is_blank cs in
      ap (answer check (break_ops connect) ending) (reads-ending c cs h)
      ∙ answer-none check (break_ops connect) ending (c ∷ s.0) (reads false s.1) (blank-check check c s.0 s.1 unfilled (λ d text e. f s.0 d text (blank-front cs) e))
