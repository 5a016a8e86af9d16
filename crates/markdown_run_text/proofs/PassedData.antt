-- What data passes, code by code and by stretches.
use Rattle.std.proofs.Common.{◌≡◌, ℕ, ◌+◌, ◌<◌, ◌&&◌, ◌||◌, ◌==◌, Bool, true, false, not, List, [], ◌∷◌, length, Option, None, Some, refl, sym, ap, ◌∙◌, arith}
use Rattle.std.specs.Prelude.{codes}
use Rattle.std.specs.List.{list_any}
use Rattle.std.specs.Option.{is_some}
use Rattle.std.proofs.lemmas.Bool.{eqb-true, or_parts, or_from, not-false}
use Rattle.std.proofs.lemmas.List.Folds.{list_any-append}
use Rattle.markdown_content.specs.Codes.{Code, is_line_ending, line_feed}
use Rattle.markdown_content.specs.Place.{Place, ahead_at, code_at, code_before, moved}
use Rattle.markdown_content.specs.Stretch.{is_free, past_stretch, stops, stretch, walked}
use Rattle.markdown_content.proofs.PlaceRules.{IsAhead, ahead_some, ahead_none, ahead_moved, code_at_ahead, code_at_end, left_moved}
use Rattle.markdown_content.proofs.StretchLemmas.{past-none, past-one, left-behind, stretch-goes, stretch-stops}
use Rattle.markdown_engine.specs.PastTree.{moved_by}
use Rattle.markdown_model.specs.CodeTests.{is_among}
use Rattle.markdown_model.specs.Grammar.{until}
use Rattle.markdown_model.proofs.GrammarSteps.{until-goes, until-stops}
use Rattle.markdown_partial.specs.PartialData.{ends_stretch, is_some_mark}
use Rattle.markdown_run_text.proofs.WordLetters.{no-first}
use Rattle.markdown_run_text.proofs.WordsAndSigns.{no-word}
use Rattle.markdown_run_text.specs.PlacesPassed.{goes_in_line, goes_on, holds_sign, line_stops, markers_and_signs, past_data, sign_at, signs}
use Rattle.markdown_run_text.specs.TextStops.{begins_word, text_stops}
use Rattle.markdown_run_text.specs.TextContent.{plain_markers}
use Rattle.markdown_run_text.proofs.TryTableLemmas.{none-passes}

-- One code.

module _ (literals : Bool) where
  -- a line ending comes, or data stops
  abbrev ends : List Code → Bool
  ends cs = ends_stretch (text_stops literals) cs

  stop-by : (cs : List Code) (p : Place) → ahead_at p ≡ cs → ends cs ≡ true → past_data literals p ≡ p
  stop-by cs p e h = grind (arith, until-stops)

  pub data-stops : (p : Place) → ends (ahead_at p) ≡ true → past_data literals p ≡ p
  data-stops p h = stop-by (ahead_at p) p refl h

  pub data-ends : (p : Place) → code_at p ≡ None → past_data literals p ≡ p
  data-ends p e = ap (λ xs. moved_by (until ends xs).0 p) (ahead_none p e)

  pub data-goes : (p : Place) (v : ℕ) → code_at p ≡ Some v → ends (ahead_at p) ≡ false →
      past_data literals p ≡ past_data literals (moved p)
  data-goes p v e h = grind (arith, ahead_some p v, until-goes ends)

-- Where no literal is on, a stretch.

or-false : (b : Bool) → (b || false) ≡ b
or-false b = grind arith

ends-plain : (c : Code) (cs : List Code) → ends false (c ∷ cs) ≡ stops plain_markers c.value
ends-plain c cs = ap (λ b. is_line_ending c || b) (or-false (is_among plain_markers c))

plain-from : (cs : List Code) (p : Place) → walked (stretch plain_markers cs) p ≡ moved_by (until (ends false) cs).0 p
plain-from [] p = refl
plain-from (c ∷ cs) p = grind (arith, stretch-stops, until-stops, ends-plain, stretch-goes, until-goes, plain-from cs (moved p))

pub plain-stretch : (p : Place) → past_stretch plain_markers p ≡ past_data false p
unfolding past_stretch
plain-stretch p = plain-from (ahead_at p) p

-- Where literals are on, a stretch up to a marker or a sign.

abbrev stretch_end : Place → Place
stretch_end p = past_stretch markers_and_signs p

module _ (v : ℕ) (free : stops markers_and_signs v ≡ false) where
  free-parts : (list_any (λ n. v == n) plain_markers ≡ false) × (list_any (λ n. v == n) signs ≡ false)
  free-parts = grind (arith, or_parts, list_any-append)

  free-line : (v == line_feed) ≡ false
  free-line = (or_parts (v == line_feed) (list_any (λ n. v == n) markers_and_signs) free).0

-- a code at which data with literals does not stop
goes-by : (p : Place) (v : ℕ) → code_at p ≡ Some v → (v == line_feed) ≡ false →
    list_any (λ n. v == n) plain_markers ≡ false → begins_word (ahead_at p) ≡ false → ends true (ahead_at p) ≡ false
goes-by p v e line plain none = grind (arith, ahead_some p v, or_from)

-- no word stands in a stretch that ends at no sign of words, so data goes as far
skips-from : (cs : List Code) (p : Place) → ahead_at p ≡ cs → sign_at (stretch_end p) ≡ false →
    past_data true p ≡ past_data true (stretch_end p)
skips-from [] p e none = grind (arith, past-none, code_at_end)
skips-from (c ∷ cs) p e none =
    by_test (stops markers_and_signs c.value) refl (λ h. skips-from cs (moved p) (ahead_moved p c cs e) h)
  where
    at : code_at p ≡ Some c.value
    at = code_at_ahead p c cs e

    by_test : (b : Bool) → stops markers_and_signs c.value ≡ b → (sign_at (stretch_end (moved p)) ≡ false → past_data true (moved p) ≡ past_data true (stretch_end (moved p)))
        → past_data true p ≡ past_data true (stretch_end p)
    by_test true h more =
        ap (past_data true) (sym (past-none markers_and_signs p (ap (is_free markers_and_signs) at ∙ ap not h)))
    by_test false h more =
        let one : stretch_end p ≡ stretch_end (moved p) = past-one markers_and_signs p (ap (is_free markers_and_signs) at ∙ ap not h) in
        data-goes true p c.value at (goes-by p c.value at (free-line c.value h) (free-parts c.value h).0 (no-word p none))
        ∙ more (ap sign_at (sym one) ∙ none)
        ∙ ap (past_data true) (sym one)

pub data-skips : (p : Place) → sign_at (stretch_end p) ≡ false → past_data true p ≡ past_data true (stretch_end p)
data-skips p none = skips-from (ahead_at p) p refl none

-- the end of a stretch is not free
end-from : (ms : List ℕ) (cs : List Code) (p : Place) → ahead_at p ≡ cs → is_free ms (code_at (past_stretch ms p)) ≡ false
end-from ms [] p e = grind (arith, code_at_end, past-none)
end-from ms (c ∷ cs) p e = grind (arith, ahead_moved, past-one, past-none, end-from ms cs (moved p))

-- a code that stops, and is no sign, is a line ending or a marker
without : (a b s x : Bool) → (a || (b || s)) ≡ true → s ≡ false → (a || (b || x)) ≡ true
without a b s x e f = grind arith

-- Behind a stretch that ends at no sign of words.

module _ (p q : Place) (end : q ≡ stretch_end p) (none : sign_at q ≡ false) where
  pub part-past : past_data true q ≡ past_data true p
  part-past = ap (past_data true) end ∙ sym (data-skips p (ap sign_at (sym end) ∙ none))

  held : is_free markers_and_signs (code_at q) ≡ false
  held = ap (λ x. is_free markers_and_signs (code_at x)) end ∙ end-from markers_and_signs (ahead_at p) p refl

  -- at another sign data goes on
  pub sign-goes : is_some_mark signs (code_at q) ≡ true → past_data true (moved q) ≡ past_data true q
  sign-goes h = by_code (code_at q) refl h
    where
      by_code : (o : Option ℕ) → code_at q ≡ o → is_some_mark signs o ≡ true → past_data true (moved q) ≡ past_data true q
      by_code None e k = cc
      by_code (Some v) e k =
          let stays : stretch_end q ≡ q = past-none markers_and_signs q held in
          let line : (v == line_feed) ≡ false = none-passes (λ n. n == line_feed) signs refl v k in
          let plain : list_any (λ m. v == m) plain_markers ≡ false = none-passes (λ n. list_any (λ m. n == m) plain_markers) signs refl v k in
          sym (data-goes true q v e (goes-by q v e line plain (no-word q (ap sign_at stays ∙ none))))

  -- and elsewhere it stops
  pub other-stops : is_some_mark signs (code_at q) ≡ false → past_data true q ≡ q
  other-stops h = by_code (code_at q) refl h
    where
      by_code : (o : Option ℕ) → code_at q ≡ o → is_some_mark signs o ≡ false → past_data true q ≡ q
      by_code None e k = data-ends true q e
      by_code (Some v) e k =
          let a : IsAhead q v = ahead_some q v e in
          let stop : stops markers_and_signs v ≡ true = not-false (stops markers_and_signs v) (ap (is_free markers_and_signs) (sym e) ∙ held) in
          let some : ((v == line_feed) || (list_any (λ n. v == n) plain_markers || list_any (λ n. v == n) signs)) ≡ true = ap (λ b. (v == line_feed) || b) (sym (list_any-append (λ n. v == n) plain_markers signs)) ∙ stop in
          data-stops true q
          (ap (ends true) a.codes
          ∙ ap (λ x. (x == line_feed) || (list_any (λ n. x == n) plain_markers || begins_word (a.code ∷ ahead_at (moved q)))) a.value
          ∙ without (v == line_feed) (list_any (λ n. v == n) plain_markers) (list_any (λ n. v == n) signs) (begins_word (a.code ∷ ahead_at (moved q))) some k)

-- Code by code.

both-false : (a b : Bool) → (not (a || false) && not b) ≡ false → (a || b) ≡ true
both-false a b e = grind arith

both-true : (a b : Bool) → (not (a || false) && not b) ≡ true → (a || b) ≡ false
both-true a b e = grind arith

nowhere : (b : Bool) → (b && false) ≡ true → ⊥
nowhere b e = grind arith

-- a line ending is at the place
abbrev at_ending : Place → Bool
at_ending p = is_some_mark (codes "\n") (code_at p)

line-stops-from : (cs : List Code) (p : Place) → ahead_at p ≡ cs → not (at_ending p) && goes_on true cs ≡ false → past_data true p ≡ p
line-stops-from cs p e h = grind (arith, data-ends, code_at_end, code_at_ahead, data-stops, both-false)

pub line-stops : (p : Place) → goes_in_line p ≡ false → past_data true p ≡ p
line-stops p h = line-stops-from (ahead_at p) p refl h

-- past a code
pub record OneCode (p : Place) : Type 0 where
  pub some : is_some (code_at p) ≡ true
  pub same : past_data true p ≡ past_data true (moved p)
  pub left : length (ahead_at (moved p)) + 1 ≡ length (ahead_at p)

line-goes-from : (cs : List Code) (p : Place) → ahead_at p ≡ cs → not (at_ending p) && goes_on true cs ≡ true → OneCode p
line-goes-from cs p e h = grind (arith, nowhere, code_at_ahead, data-goes, both-true, left_moved)

pub line-goes : (p : Place) → goes_in_line p ≡ true → OneCode p
line-goes p h = line-goes-from (ahead_at p) p refl h

-- whether data goes on, by the code at the place
pub goes-none : (literals : Bool) (p : Place) → code_at p ≡ None → goes_on literals (ahead_at p) ≡ false
goes-none literals p e = ap (goes_on literals) (ahead_none p e)

pub goes-some : (literals : Bool) (p : Place) (v : ℕ) → code_at p ≡ Some v
    → not (list_any (λ n. v == n) plain_markers || (literals && begins_word (ahead_at p))) ≡ goes_on literals (ahead_at p)
goes-some literals p v e = grind (arith, ahead_some p v)

-- a sign in a word of literals is a sign
no-sign : (before here next : Option ℕ) → is_some_mark signs here ≡ false → holds_sign before here next ≡ false
no-sign before here next h = grind arith

-- What ends a line that is passed at once.

neither : (a b : Bool) → b ≡ false → (a && b) ≡ false
neither a b e = grind arith

-- data goes on at a line ending
ending-goes : (literals : Bool) (p : Place) → code_at p ≡ Some line_feed → goes_on literals (ahead_at p) ≡ true
ending-goes literals p e = grind (arith, goes-some literals p line_feed, or_from, neither literals (begins_word (ahead_at p)), no-first p)

second : (a b : Bool) → (a || b) ≡ true → a ≡ false → b ≡ true
second a b e f = grind arith

first : (a b : Bool) → (a || b) ≡ true → b ≡ false → a ≡ true
first a b e f = grind arith

-- a code that stops, and is no line ending and no sign, is a marker
marked : (literals : Bool) (v : ℕ) → stops (line_stops literals) v ≡ true → (v == line_feed) ≡ false → list_any (λ n. v == n) signs ≡ false →
    list_any (λ n. v == n) plain_markers ≡ true
marked literals v h line none = grind (arith, second, first, list_any-append)

-- where a code stops that is no sign, data goes on at a line ending alone
goes-behind : (literals : Bool) (q : Place) → is_free (line_stops literals) (code_at q) ≡ false →
    is_some_mark signs (code_at q) ≡ false → at_ending q ≡ goes_on literals (ahead_at q)
goes-behind literals q held none = by_code (code_at q) refl held none
  where
    by_line : (v : ℕ) → code_at q ≡ Some v → stops (line_stops literals) v ≡ true → list_any (λ n. v == n) signs ≡ false →
        (b : Bool) → (v == line_feed) ≡ b → b ≡ goes_on literals (ahead_at q)
    by_line v e h k true line = sym (ending-goes literals q (e ∙ ap Some (eqb-true v line_feed line)))
    by_line v e h k false line =
        sym (ap (λ b. not (b || (literals && begins_word (ahead_at q)))) (marked literals v h line k)) ∙ goes-some literals q v e

    by_code : (o : Option ℕ) → code_at q ≡ o → is_free (line_stops literals) o ≡ false → is_some_mark signs o ≡ false →
        is_some_mark (codes "\n") o ≡ goes_on literals (ahead_at q)
    by_code None e h k = sym (goes-none literals q e)
    by_code (Some v) e h k =
        or-false (v == line_feed) ∙ by_line v e (not-false (stops (line_stops literals) v) h) k (v == line_feed) refl

pub line-goes-on : (literals : Bool) (p q : Place) → q ≡ past_stretch (line_stops literals) p → is_some_mark signs (code_at q) ≡ false →
    at_ending q ≡ goes_on literals (ahead_at q)
line-goes-on literals p q end none = grind (arith, goes-behind, end-from)

-- a stretch that ends at no sign is the data of the line
pub line-passed : (literals : Bool) (p q : Place) → q ≡ past_stretch (line_stops literals) p → is_some_mark signs (code_at q) ≡ false →
    q ≡ past_data literals p
line-passed true p q end none =
    let at : sign_at q ≡ false = no-sign (code_before q) (code_at q) (code_at (moved q)) none in
    sym (other-stops p q end at none) ∙ part-past p q end at
line-passed false p q end none = end ∙ plain-stretch p

-- data goes on past a sign in no word
pub sign-passed : (literals : Bool) (p q : Place) → literals ≡ true → q ≡ past_stretch (line_stops literals) p →
    is_some_mark signs (code_at q) ≡ true → sign_at q ≡ false → past_data literals (moved q) ≡ past_data literals p
sign-passed literals p q on end is none = grind (arith, sign-goes, part-past)

-- fewer codes are left behind a sign that stands at the end of a stretch
pub fewer-behind : (p q : Place) → q ≡ stretch_end p → is_some_mark signs (code_at q) ≡ true →
    length (ahead_at (moved q)) < length (ahead_at p)
fewer-behind p q e h = grind (arith, left-behind, left_moved)

-- what a reader of a part leaves, which goes past a sign where one stands behind the stretch
pub record PartEnds (p r : Place) (found : Bool) : Type 0 where
  pub past : past_data true r ≡ past_data true p
  pub stops : found ≡ false → past_data true r ≡ r
  pub on : found ≡ true → length (ahead_at r) < length (ahead_at p)

pub part-ends : (p q r : Place) (found : Bool) → q ≡ stretch_end p → sign_at q ≡ false → found ≡ is_some_mark signs (code_at q) →
    (found ≡ true → r ≡ moved q) → (found ≡ false → r ≡ q) → PartEnds p r found
part-ends p q r found end none is goes stays = grind (arith, sign-goes, part-past, fewer-behind, other-stops)

-- a reader of a part that finds no sign behind the stretch, and one that goes past a sign in no word
pub part-stops : (p q : Place) → q ≡ stretch_end p → is_some_mark signs (code_at q) ≡ false → PartEnds p q false
part-stops p q end none = grind (arith, part-ends p q q false, no-sign (code_before q) (code_at q) (code_at (moved q)))

pub part-goes : (p q r : Place) → q ≡ stretch_end p → is_some_mark signs (code_at q) ≡ true → sign_at q ≡ false → r ≡ moved q → PartEnds p r true
part-goes p q r end is none goes = part-ends p q r true end none (sym is) (λ _. goes) (λ e. cc)
