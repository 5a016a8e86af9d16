-- Data read line by line is data as the definition reads it.
use Rattle.std.proofs.Common.{◌≡◌, ℕ, ◌<◌, ◌==◌, ◌||◌, Bool, true, false, Option, None, Some, List, [], ◌∷◌, ◌++◌, length, refl, sym, ap, subst, ◌∙◌, arith, append-nil, length-append}
use Rattle.std.specs.Prelude.{codes, IfOk, IsSome, OnOk, Result}
use Rattle.std.proofs.lemmas.Bool.{not-false, not-true}
use Rattle.markdown_content.specs.Codes.{Code, line_feed}
use Rattle.markdown_content.specs.ListFunctions.{rest_of}
use Rattle.markdown_content.specs.Place.{moved}
use Rattle.markdown_content.specs.Tree.{Forest, empty, leaf, leaf_codes}
use Rattle.markdown_event.specs.declared.event.Name.{Name}
use Rattle.markdown_event.specs.declared.event.Name.TheVariants as N
use Rattle.markdown_content.proofs.PlaceRules.{code_at_ahead, codes_moved}
use Rattle.markdown_engine.specs.Operations.{HasCode, ahead, applied, current_of, done, exited}
use Rattle.markdown_engine.specs.PastTree.{Reads, behind, passed, past}
use Rattle.markdown_engine.specs.declared.tokenizer.TokenizeState.{TokenizeState}
use Rattle.markdown_engine.specs.declared.tokenizer.Tokenizer.{Tokenizer}
use Rattle.markdown_engine.proofs.OperationFields.{BeginsWithValue, ahead-some}
use Rattle.markdown_engine.proofs.OperationLemmas.{ahead-done}
use Rattle.markdown_engine.proofs.ReadingSequences.{EndsAs-then, scratched-same}
use Rattle.markdown_engine.proofs.TreeEvents.{ahead-past, done-leaf, leaf-past}
use Rattle.markdown_label.proofs.NextCodeTests.{same-codes}
use Rattle.markdown_model.specs.TextLines.{data_up_to}
use Rattle.markdown_model.proofs.GrammarSteps.{if-false, if-true}
use Rattle.markdown_model.proofs.LeafCodes.{until-append}
use Rattle.markdown_partial.specs.PartialData.{ending, ends_stretch, is_some_mark, more_data, opening}
use Rattle.markdown_partial.proofs.EndLemmas.{EndsAs-here, EndsAs-same}
use Rattle.markdown_partial.proofs.LineCuts.{data-then, ending-then, more-goes, more-stops, up_to_break}
use Rattle.markdown_run_text.proofs.InnerPassed.{ending-past}
use Rattle.markdown_run_text.specs.PlacesPassed.{data_read, goes_on, goes_past, line_read}
use Rattle.markdown_run_text.specs.TextStops.{reader_stops}

-- the code at hand, by whether it is a line ending
or-false : (b : Bool) → (b || false) ≡ b
or-false b = grind arith

mark-value : (o : Option ℕ) → is_some_mark (codes "\n") o ≡ true → (v : ℕ) × ((o ≡ Some v) × ((v == 10) ≡ true))
mark-value o h = grind (arith, or-false)

other-value : (o : Option ℕ) → IsSome o → is_some_mark (codes "\n") o ≡ false →
    (v : ℕ) × ((o ≡ Some v) × ((v == 10) ≡ false))
other-value o some h = grind (arith, or-false)

module _ (whole : List Code) (literals : Bool) where
  abbrev stops : List Code → Bool
  stops = reader_stops whole literals

  -- where more data is read from U on, data is read from T on
  abbrev pub DataGoesOn : TokenizeState → Tokenizer → Tokenizer → Type 0
  DataGoesOn s T U = (V : Tokenizer) → Reads (more_data stops) None s U V → Reads (data_up_to stops) None s T V

  -- U is T past a line ending or data of one line
  pub record Line (T U : Tokenizer) : Type 0 where
    pub on : (s : TokenizeState) → DataGoesOn s T U
    pub scratch : U.tokenize_state ≡ T.tokenize_state
    pub codes : U.cursor.codes ≡ T.cursor.codes
    pub less : length (ahead U) < length (ahead T)

  leaf-line : (n : Name) (c : Code) (w rest : List Code) (T U : Tokenizer) → U ≡ past None (leaf n (c ∷ w)) T →
      ahead T ≡ (c ∷ w) ++ rest → data_up_to stops (ahead T) ≡ behind (leaf n (c ∷ w)) (more_data stops rest) → Line T U
  unfolding past
  leaf-line n c w rest T U e left_to reads = record {
    on = λ s V k.
        EndsAs-then (data_up_to stops) (more_data stops) None None t T.tokenize_state s T U
        (e ∙ ap (past None t) (sym (scratched-same T)))
        (to ∙ ap (λ cs. leaf_codes t ++ cs) (sym left))
        refl
        (reads ∙ ap (λ cs. behind t (more_data stops cs)) (sym left))
        true V k;
    scratch = ap (λ (x : Tokenizer). x.tokenize_state) e;
    codes = ap (λ (x : Tokenizer). x.cursor.codes) e ∙ same-codes (leaf_codes t) T.cursor;
    less = omega (arith, ap length left_to, ap length left, length-append w rest);
  }
    where
      t : Forest
      t = leaf n (c ∷ w)

      to : ahead T ≡ leaf_codes t ++ rest
      to = left_to ∙ ap (λ xs. xs ++ rest) (sym (append-nil (c ∷ w)))

      left : ahead U ≡ rest
      left = ap ahead e ∙ ahead-past None t T rest to

  ending-line : (T U : Tokenizer) (v : ℕ) → current_of T ≡ Some v → (v == 10) ≡ true → U ≡ done ending T → Line T U
  ending-line T U v e h k =
      let b : BeginsWithValue v (ahead T) = ahead-some T v e in
      let cs : List Code = rest_of (ahead T) in
      leaf-line N.LineEnding b.code [] cs T U (k ∙ done-leaf N.LineEnding None false b.code [] cs T b.whole) b.whole
      (ap (data_up_to stops) b.whole ∙ ending-then stops b.code cs (ap (λ x. x == 10) b.value ∙ h))

  data-past : (c : Code) (cs rest : List Code) (T : Tokenizer) → ahead T ≡ (c ∷ cs) ++ rest →
      exited N.Data (passed cs (done opening T)) ≡ past None (leaf N.Data (c ∷ cs)) T
  unfolding passed applied
  data-past c cs rest T e = leaf-past N.Data None false c cs rest T e

  ahead-opening : (T : Tokenizer) → ahead (done opening T) ≡ rest_of (ahead T)
  ahead-opening T = ahead-done opening T

  codes-opening : (T : Tokenizer) → (done opening T).cursor.codes ≡ T.cursor.codes
  unfolding applied
  codes-opening T = codes_moved T.cursor

  data-passed : (T : Tokenizer) → T.cursor.codes ≡ whole →
      data_read literals T ≡ exited N.Data (passed (up_to_break stops (rest_of (ahead T))).0 (done opening T))
  unfolding passed
  data-passed T same = grind (arith, codes-opening, ahead-opening)

  stretch-line : (T U : Tokenizer) (v : ℕ) → T.cursor.codes ≡ whole → current_of T ≡ Some v → (v == 10) ≡ false →
      U ≡ data_read literals T → Line T U
  stretch-line T U v same e h k =
      let b : BeginsWithValue v (ahead T) = ahead-some T v e in
      let cs : List Code = rest_of (ahead T) in
      let w : List Code × List Code = up_to_break stops cs in
      let codes : ahead T ≡ (b.code ∷ w.0) ++ w.1 = b.whole ∙ ap (λ xs. b.code ∷ xs) (sym (until-append (ends_stretch stops) cs)) in
      leaf-line N.Data b.code w.0 w.1 T U (k ∙ data-passed T same ∙ data-past b.code w.0 w.1 T codes) codes
      (ap (data_up_to stops) b.whole ∙ data-then stops b.code cs (ap (λ x. x == 10) b.value ∙ h))

  pub line-is : (T U : Tokenizer) → T.cursor.codes ≡ whole → HasCode T → U ≡ line_read literals T → Line T U
  line-is T U same some k = grind (arith, mark-value (current_of T), ending-line T U, if-true (is_some_mark (codes "\n") (current_of T)) (done ending T) (data_read literals T), other-value (current_of T), stretch-line T U, if-false (is_some_mark (codes "\n") (current_of T)) (done ending T) (data_read literals T))

  more-here : (cs : List Code) → goes_past whole literals cs ≡ true → more_data stops cs ≡ data_up_to stops cs
  more-here [] h = cc
  more-here (c ∷ cs) h = more-goes stops c cs (not-true (stops (c ∷ cs)) h)

  -- where data is read from U on, data is read from T on
  abbrev pub Continues : Tokenizer → Tokenizer → Type 0
  Continues T U =
      (V : Tokenizer) → Reads (data_up_to stops) None T.tokenize_state U V → Reads (data_up_to stops) None T.tokenize_state T V

  pub more-lines : (S T U : Tokenizer) → Continues S T → goes_past whole literals (ahead U) ≡ true → Line T U → Continues S U
  more-lines S T U g h line V k = grind (arith, EndsAs-same, more-here)

  nothing : (cs : List Code) → goes_past whole literals cs ≡ false → more_data stops cs ≡ Some (empty, cs)
  nothing cs h = grind (arith, more-stops, not-false)

  pub last-line : (S T U : Tokenizer) → Continues S T → T.tokenize_state ≡ S.tokenize_state → Line T U →
      goes_past whole literals (ahead U) ≡ false → Reads (data_up_to stops) None S.tokenize_state S U
  last-line S T U g e line h =
      g U (line.on S.tokenize_state U
      (subst (λ s. Reads (more_data stops) None s U U) (line.scratch ∙ e) (EndsAs-here (more_data stops) U (nothing (ahead U) h) true U (refl, refl))))

  code-from : (cs : List Code) (T : Tokenizer) → ahead T ≡ cs → goes_past whole literals cs ≡ true → HasCode T
  code-from cs T e h = grind (arith, code_at_ahead)

  -- what the reader of a line says of its codes holds of the content's
  pub on-past : (T U : Tokenizer) (on : Bool) → T.cursor.codes ≡ whole → Line T U → on ≡ goes_past U.cursor.codes literals (ahead U) →
      on ≡ goes_past whole literals (ahead U)
  on-past T U on same line e = e ∙ ap (λ ws. goes_past ws literals (ahead U)) (line.codes ∙ same)

  pub has-code : (T : Tokenizer) → goes_past whole literals (ahead T) ≡ true → HasCode T
  has-code T h = code-from (ahead T) T refl h

-- Behind a line ending.

ending-place : (T : Tokenizer) → (done ending T).cursor ≡ moved T.cursor
unfolding applied
ending-place T = refl

ending-on : (literals : Bool) (T U : Tokenizer) → current_of T ≡ Some line_feed → U ≡ done ending T →
    goes_on literals (ahead U) ≡ goes_past U.cursor.codes literals (ahead U)
ending-on literals T U e k = grind (arith, ending-place, ending-past)

-- so its reader tells what this one does
pub ending-tells : {E : Type 0} (literals : Bool) (T U : Tokenizer) (r : Result Bool E) → current_of T ≡ Some line_feed →
    OnOk r (U ≡ done ending T) → IfOk r (λ on. on ≡ goes_on literals (ahead U)) →
    IfOk r (λ on. on ≡ goes_past U.cursor.codes literals (ahead U))
ending-tells literals T U r e k h = grind (arith, ending-on)
