-- What data passes that goes on past inner underscores, those between letters or digits.
use Rattle.std.proofs.Common.{◌≡◌, ℕ, zero, suc, ◌-◌, ◌<◌, ◌≤◌, ◌&&◌, ◌||◌, ◌==◌, Bool, true, false, not, List, [], ◌∷◌, length, drop, take, Option, Some, refl, sym, ap, ◌∙◌, arith, add-one}
use Rattle.std.specs.Prelude.{IsSome}
use Rattle.std.specs.List.{list_any}
use Rattle.std.specs.Str.{byte}
use Rattle.std.proofs.Math.Bool.{and-false}
use Rattle.std.proofs.lemmas.Bool.{and_parts, eqb-true}
use Rattle.std.proofs.lemmas.List.{length-drop}
use Rattle.markdown_content.specs.Codes.{Code, is_line_ending, line_feed}
use Rattle.markdown_content.specs.ListFunctions.{rest_of}
use Rattle.markdown_content.specs.Place.{Place, ahead_at, code_at, code_before, last_of, moved, value_of}
use Rattle.markdown_content.proofs.PlaceRules.{ahead-moved, ahead_moved, code_at_ahead, code_at_end, codes_moved, left_moved}
use Rattle.markdown_engine.specs.PastTree.{moved_by}
use Rattle.markdown_label.proofs.NextCodeTests.{same-codes}
use Rattle.markdown_model.specs.CodeTests.{first_code, is_among, is_alphanumeric, is_some_code, is_value, last_code, next_is}
use Rattle.markdown_model.specs.Elements.{code_before as model_before}
use Rattle.markdown_model.specs.Grammar.{until}
use Rattle.markdown_model.proofs.GrammarSteps.{until-goes, until-stops}
use Rattle.markdown_partial.specs.PartialData.{ends_stretch}
use Rattle.markdown_run_text.proofs.PassedData.{data-goes, data-stops}
use Rattle.markdown_run_text.specs.PlacesPassed.{goes_on, goes_past, is_some_alphanumeric, is_some_value, past_data, past_inner}
use Rattle.markdown_run_text.specs.TextStops.{is_inner_underscore, reader_stops, text_stops}
use Rattle.markdown_run_text.specs.TextContent.{plain_markers}

-- The code before a place.

first-some : {A : Type 0} (n : ℕ) (xs : List A) (x : A) (ys : List A) → drop n xs ≡ x ∷ ys → n ≤ length xs
first-some zero xs x ys e = omega arith
first-some (suc n) [] x ys e = cc
first-some (suc n) (y ∷ xs) x ys e = omega (arith, first-some n xs x ys e)

-- the last of the first so many
last-taken : (n : ℕ) (cs : List Code) → n ≤ length cs → last_of cs n ≡ last_code (take n cs)
last-taken zero cs h = refl
last-taken (suc zero) [] h = absurd (omega (arith, h))
last-taken (suc zero) (c ∷ cs) h = refl
last-taken (suc (suc n)) [] h = absurd (omega (arith, h))
last-taken (suc (suc n)) (c ∷ []) h = absurd (omega (arith, h))
last-taken (suc (suc n)) (c ∷ d ∷ cs) h = last-taken (suc n) (d ∷ cs) (omega (arith, h))

before-ahead : (p : Place) (c : Code) (cs : List Code) → ahead_at p ≡ c ∷ cs →
    model_before p.codes (ahead_at p) ≡ last_of p.codes p.at
unfolding ahead_at
before-ahead p c cs e =
    let within : p.at ≤ length p.codes = first-some p.at p.codes c cs e in
    let count : length p.codes - length (drop p.at p.codes) ≡ p.at = omega (arith, length-drop p.at p.codes, within) in
    ap (λ n. last_code (take n p.codes)) count ∙ sym (last-taken p.at p.codes within)

-- Underscores between letters or digits.

tested : (o : Option Code) → is_some_alphanumeric (value_of o) ≡ is_some_code is_alphanumeric o
tested o = grind arith

code-first : (p : Place) (cs : List Code) → ahead_at p ≡ cs → code_at p ≡ value_of (first_code cs)
code-first p cs e = grind (arith, code_at_end, code_at_ahead)

-- an inner underscore is at the place
abbrev inner_at : Place → Bool
inner_at p =
    is_some_value (byte "_") (code_at p) && (is_some_alphanumeric (code_before p) && is_some_alphanumeric (code_at (moved p)))

-- the test of a place, and the one of the codes that are left there
pub inner-here : (p : Place) → inner_at p ≡ is_inner_underscore p.codes (ahead_at p)
unfolding code_before
inner-here p = by_codes (ahead_at p) refl
  where
    by_codes : (cs : List Code) → ahead_at p ≡ cs → inner_at p ≡ is_inner_underscore p.codes (ahead_at p)
    by_codes [] e =
        ap (λ o. is_some_value (byte "_") o && (is_some_alphanumeric (code_before p) && is_some_alphanumeric (code_at (moved p)))) (code_at_end p e)
        ∙ ap (λ xs. next_is (is_value (byte "_")) xs && (is_some_code is_alphanumeric (model_before p.codes (ahead_at p)) && next_is is_alphanumeric (rest_of (ahead_at p)))) (sym e)
    by_codes (c ∷ cs) e =
        ap (λ o. is_some_value (byte "_") o && (is_some_alphanumeric (code_before p) && is_some_alphanumeric (code_at (moved p)))) (code_at_ahead p c cs e)
        ∙ ap (λ b. is_value (byte "_") c && (b && is_some_alphanumeric (code_at (moved p)))) (tested (last_of p.codes p.at) ∙ ap (is_some_code is_alphanumeric) (sym (before-ahead p c cs e)))
        ∙ ap (λ b. is_value (byte "_") c && (is_some_code is_alphanumeric (model_before p.codes (ahead_at p)) && b)) (ap is_some_alphanumeric (code-first (moved p) (rest_of (ahead_at p)) (ahead-moved p)) ∙ tested (first_code (rest_of (ahead_at p))))
        ∙ ap (λ xs. next_is (is_value (byte "_")) xs && (is_some_code is_alphanumeric (model_before p.codes (ahead_at p)) && next_is is_alphanumeric (rest_of (ahead_at p)))) (sym e)

-- Where the reader stops.

without : (line stop inner : Bool) → (line || stop) ≡ false → (line || (stop && not inner)) ≡ false
without line stop inner e = grind arith

other : (line stop inner : Bool) → (line || stop) ≡ true → inner ≡ false → (line || (stop && not inner)) ≡ true
other line stop inner e f = grind arith

stays : (stop inner : Bool) → inner ≡ false → not stop ≡ not (stop && not inner)
stays stop inner e = grind arith

passes : (line stop inner : Bool) → line ≡ false → inner ≡ true → (line || (stop && not inner)) ≡ false
passes line stop inner e f = grind arith

module _ (whole : List Code) (literals : Bool) where
  abbrev ends : List Code → Bool
  ends cs = ends_stretch (reader_stops whole literals) cs

  -- the same place as `past_inner` of a content with these codes
  abbrev inner_from : Place → Place
  inner_from p = moved_by (until ends (ahead_at p)).0 p

  inner-stop : (p : Place) (c : Code) (cs : List Code) → ahead_at p ≡ c ∷ cs → ends (c ∷ cs) ≡ true → inner_from p ≡ p
  inner-stop p c cs e h = grind (arith, until-stops)

  inner-go : (p : Place) (c : Code) (cs : List Code) → ahead_at p ≡ c ∷ cs → ends (c ∷ cs) ≡ false →
      inner_from p ≡ inner_from (moved p)
  inner-go p c cs e h = grind (arith, until-goes, ahead_moved)

  inner-none : (p : Place) → ahead_at p ≡ [] → inner_from p ≡ p
  inner-none p e = ap (λ xs. moved_by (until ends xs).0 p) e

  -- from a place and from behind data of its line the reader comes to one place
  inner-on-from : (cs : List Code) (p : Place) → ahead_at p ≡ cs → inner_from p ≡ inner_from (past_data literals p)
  inner-on-from [] p e = ap inner_from (sym (ap (λ xs. moved_by (until (ends_stretch (text_stops literals)) xs).0 p) e))
  inner-on-from (c ∷ cs) p e = grind (arith, ahead_moved p c cs, data-stops literals, inner-go p c cs, without (is_line_ending c) (text_stops literals (c ∷ cs)) (is_inner_underscore whole (c ∷ cs)), data-goes literals p, code_at_ahead p c cs, inner-on-from cs (moved p))

  -- behind data of the line it stops where no such underscore is
  inner-stop-from : (cs : List Code) (p : Place) → ahead_at p ≡ cs →
      is_inner_underscore whole (ahead_at (past_data literals p)) ≡ false → inner_from (past_data literals p) ≡ past_data literals p
  inner-stop-from [] p e none = grind (arith, inner-none)
  inner-stop-from (c ∷ cs) p e none =
      by_test (ends_stretch (text_stops literals) (c ∷ cs)) refl (inner-stop-from cs (moved p) (ahead_moved p c cs e))
    where
      by_test : (b : Bool) → ends_stretch (text_stops literals) (c ∷ cs) ≡ b →
          (is_inner_underscore whole (ahead_at (past_data literals (moved p))) ≡ false → inner_from (past_data literals (moved p)) ≡ past_data literals (moved p)) →
          inner_from (past_data literals p) ≡ past_data literals p
      by_test true h more =
          let here : past_data literals p ≡ p = data-stops literals p (ap (ends_stretch (text_stops literals)) e ∙ h) in
          let no : is_inner_underscore whole (c ∷ cs) ≡ false = ap (is_inner_underscore whole) (sym e ∙ ap ahead_at (sym here)) ∙ none in
          ap inner_from here
          ∙ inner-stop p c cs e (other (is_line_ending c) (text_stops literals (c ∷ cs)) (is_inner_underscore whole (c ∷ cs)) h no)
          ∙ sym here
      by_test false h more =
          let here : past_data literals p ≡ past_data literals (moved p) = data-goes literals p c.value (code_at_ahead p c cs e) (ap (ends_stretch (text_stops literals)) e ∙ h) in
          ap inner_from here ∙ more (ap (λ q. is_inner_underscore whole (ahead_at q)) (sym here) ∙ none) ∙ sym here

  -- and from behind an inner underscore
  inner-past-from : (cs : List Code) (p : Place) → ahead_at p ≡ cs → is_inner_underscore whole cs ≡ true →
      inner_from p ≡ inner_from (moved p)
  inner-past-from cs p e h = grind (arith, eqb-true, and_parts, inner-go, passes)

  pub goes-from : (cs : List Code) → is_inner_underscore whole cs ≡ false → goes_on literals cs ≡ goes_past whole literals cs
  goes-from cs h = grind (arith, stays)

-- some code is where such an underscore is
some-from : (whole : List Code) (cs : List Code) (p : Place) → ahead_at p ≡ cs → is_inner_underscore whole cs ≡ true →
    IsSome (code_at p)
some-from whole cs p e h = grind (arith, code_at_ahead)

rest-less : {A : Type 0} (xs : List A) → length (rest_of xs) ≤ length xs
rest-less xs = grind arith

left-by : (cs : List Code) (p : Place) → length (ahead_at (moved_by cs p)) ≤ length (ahead_at p)
left-by [] p = omega arith
left-by (c ∷ cs) p = grind (arith, ahead-moved, rest-less, left-by cs (moved p))

-- What `pass_inner` does, turn by turn.

no-mark : (c : Code) (rest : Bool) → c.value ≡ byte "_" → not (not (is_among plain_markers c || rest)) ≡ true
no-mark c rest e = ap (λ v. not (not (list_any (λ n. v == n) plain_markers || rest))) e

-- where data goes on no underscore is at hand
pub held-is : (whole : List Code) (literals on : Bool) (cs : List Code) → on ≡ goes_on literals cs →
    (not on && is_inner_underscore whole cs) ≡ is_inner_underscore whole cs
held-is whole literals on cs e = grind (arith, no-mark, eqb-true, and_parts, and-false)

-- from behind data of the line the reader comes to the same place
pub inner-on : (literals : Bool) (p q : Place) → q ≡ past_data literals p → past_inner literals q ≡ past_inner literals p
inner-on literals p q e =
    let codes : q.codes ≡ p.codes = ap (λ (x : Place). x.codes) e ∙ same-codes (until (ends_stretch (text_stops literals)) (ahead_at p)).0 p in
    ap (λ w. inner_from w literals q) codes ∙ ap (inner_from p.codes literals) e ∙ sym (inner-on-from p.codes literals (ahead_at p) p refl)

-- and past an underscore between letters or digits
pub inner-over : (literals : Bool) (q : Place) → is_inner_underscore q.codes (ahead_at q) ≡ true →
    past_inner literals (moved q) ≡ past_inner literals q
inner-over literals q h =
    ap (λ w. inner_from w literals (moved q)) (codes_moved q) ∙ sym (inner-past-from q.codes literals (ahead_at q) q refl h)

-- elsewhere it stops
pub inner-end : (literals : Bool) (p q : Place) → q ≡ past_data literals p → is_inner_underscore q.codes (ahead_at q) ≡ false →
    past_inner literals q ≡ q
inner-end literals p q e none =
    ap (inner_from q.codes literals) e
    ∙ inner-stop-from q.codes literals (ahead_at p) p refl (ap (λ x. is_inner_underscore q.codes (ahead_at x)) (sym e) ∙ none)
    ∙ sym e

pub inner-some : (q : Place) → is_inner_underscore q.codes (ahead_at q) ≡ true → IsSome (code_at q)
inner-some q h = some-from q.codes (ahead_at q) q refl h

-- fewer codes are left
pub inner-less : (literals : Bool) (p q : Place) → IsSome (code_at p) → q ≡ past_data literals (moved p) →
    length (ahead_at q) < length (ahead_at p)
inner-less literals p q some e = grind (arith, left_moved, left-by)

-- Behind a line ending.

before-moved : (p : Place) → code_before (moved p) ≡ code_at p
unfolding code_at code_before moved
before-moved p = rw add-one refl

none-behind : (o : Option ℕ) (a b : Bool) → o ≡ Some line_feed → (a && (is_some_alphanumeric o && b)) ≡ false
none-behind o a b e = ap (λ x. a && (is_some_alphanumeric x && b)) e ∙ and-false a

-- no such underscore is behind a line ending
pub ending-past : (literals : Bool) (p : Place) → code_at p ≡ Some line_feed →
    goes_on literals (ahead_at (moved p)) ≡ goes_past (moved p).codes literals (ahead_at (moved p))
ending-past literals p e =
    goes-from (moved p).codes literals (ahead_at (moved p))
    (sym (inner-here (moved p))
    ∙ none-behind (code_before (moved p)) (is_some_value (byte "_") (code_at (moved p))) (is_some_alphanumeric (code_at (moved (moved p)))) (before-moved p ∙ e))
