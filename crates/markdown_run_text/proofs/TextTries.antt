-- What is tried at a code of a text: where it holds, it is the element at hand, and where nothing holds, the code is one by itself.
use Rattle.markdown_model.specs.Elements.{Choice, first_check}
use Rattle.markdown_model.specs.Grammar.{Reading, ◌>>◌, provided, one}
use Rattle.std.proofs.Common.{◌≡◌, ℕ, zero, suc, drop, ◌==◌, ◌||◌, true, false, Option, Some, None, List, ◌∷◌, refl, sym, ap, ◌∙◌, Bool, ◌&&◌, is_none, [], take, ◌++◌, append_assoc, arith}
use Rattle.std.proofs.lemmas.Option.{same_Some}
use Rattle.std.specs.Str.{byte}
use Rattle.std.specs.List.{list_any}
use Rattle.std.proofs.lemmas.List.{take-append-drop}
use Rattle.markdown_content.specs.Codes.{Code, stop_of, document_start}
use Rattle.markdown_content.specs.ListFunctions.{first_of, rest_of}
use Rattle.markdown_engine.specs.Operations.{ahead, current_of}
use Rattle.markdown_engine.specs.PastTree.{TreeReading}
use Rattle.markdown_content.specs.Place.{ahead_at, value_of, code_before}
use Rattle.markdown_content.specs.Tree.{Forest}
use Rattle.markdown_engine.specs.declared.tokenizer.Tokenizer.{Tokenizer}
use Rattle.markdown_engine.proofs.OperationFields.{BeginsWithValue, ahead-some, current-ahead, ahead-none}
use Rattle.markdown_plan.specs.Characters.{bytes_of}
use Rattle.markdown_leaf_gfm.specs.GfmAutolinkLiteral.{is_on, end_of, protocol_here, www_here}
use Rattle.markdown_leaf_gfm.specs.GfmTaskListItemCheck.{check_here, may_begin}
use Rattle.markdown_leaf.specs.RawText.{span_at}
use Rattle.markdown_model.specs.TextLines.{code_leaf}
use Rattle.markdown_model.specs.LeafConstructs.{gfm_task_list_item_check}
use Rattle.markdown_model.specs.GfmAutolinkLiteral.{schemes, www, first_letters, gfm_autolink_literal_protocol, gfm_autolink_literal_www}
use Rattle.markdown_model.specs.LabelEnd.{Element, plain}
use Rattle.markdown_partial.specs.PartialData.{stops_of}
use Rattle.markdown_run_text.specs.RunOverElements.{AreSingle, AreReadAsData, StandsAfter}
use Rattle.markdown_run_text.specs.RowTreeNames.{IsRunLeaf}
use Rattle.markdown_run_text.proofs.TryTableLemmas.{one-of}
use Rattle.markdown_run_text.specs.TextContent.{text_markers, text_setting, text_choice_of, EndsWithCodes, StandsAlone, StopsAtElements}
use Rattle.markdown_attention.specs.Attention.{switches_of, run_tree}
use Rattle.markdown_model.specs.SingleConstructs.{begins_run}
use Rattle.markdown_attention.proofs.AttentionLaws.{run-some, run-none, run-at, run-ahead}
use Rattle.markdown_run_text.proofs.ConstructNodes.{run-node}
use Rattle.markdown_run_text.proofs.ElementSteps.{single-read}
use Rattle.markdown_run_text.proofs.TextElements.{is_marker, run_markers, run-element, run-off, plain_of, plain-switched, off-or-none, check-element, span-element, IsRowOfOne, only-element, IsRowOfTwo, first-element, second-element, other-element, protocol-element, www-element}
use Rattle.markdown_model.proofs.GrammarSteps.{bind-none}
use Rattle.markdown_run_text.specs.ElementsAsRead.{Source, source_of}

-- what a construct reads is the element at hand
abbrev pub ReadsElements : TreeReading → Tokenizer → Type 0
ReadsElements reading T =
    (t : Forest) (rest : List Code) → reading (ahead T) ≡ Some (t, rest) → (earlier : List Element) (previous : Option Code) → StandsAfter earlier previous T → text_choice_of T earlier previous (ahead T) ≡ Some (plain t, rest)

-- where it does not hold, the code is an element by itself
abbrev pub OrStandsAlone : TreeReading → Tokenizer → Type 0
OrStandsAlone reading T = reading (ahead T) ≡ None → StandsAlone T

-- where the content of a tokenizer ends
abbrev pub end_in : Tokenizer → ℕ
end_in T = (stop_of document_start T.cursor.codes).index

pub value-here : (T : Tokenizer) (v : ℕ) (c : Code) (cs : List Code) → current_of T ≡ Some v → ahead T ≡ c ∷ cs →
    c.value ≡ v
value-here T v c cs e w = same_Some c.value v (sym (current-ahead T ∙ ap (λ xs. value_of (first_of xs)) w) ∙ e)

-- from the codes ahead as they begin, to those codes
at-hand : (reading : TreeReading) (T : Tokenizer) (v : ℕ) → current_of T ≡ Some v
    → ((c : Code) (cs : List Code) (t : Forest) (rest : List Code) → c.value ≡ v → reading (c ∷ cs) ≡ Some (t, rest) → (earlier : List Element) (previous : Option Code) → StandsAfter earlier previous T → text_choice_of T earlier previous (c ∷ cs) ≡ Some (plain t, rest))
    → ReadsElements reading T
at-hand reading T v e h t rest holds earlier previous stands = grind (arith, ahead-some T v)

alone-at : (reading : TreeReading) (T : Tokenizer) (v : ℕ) → current_of T ≡ Some v
    → ((c : Code) (cs : List Code) → c.value ≡ v → reading (c ∷ cs) ≡ None → (earlier : List Element) (previous : Option Code) → StandsAfter earlier previous T → text_choice_of T earlier previous (c ∷ cs) ≡ Some (plain (code_leaf c), cs))
    → OrStandsAlone reading T
alone-at reading T v e h none earlier previous c cs stands w = grind (arith, value-here)

-- One construct at a code.

abbrev pub IsTriedAt : Tokenizer → ℕ → Bool → Reading Forest → Type 0
IsTriedAt T v on a =
    (earlier : List Element) (previous : Option Code) → IsRowOfOne (text_setting T) (end_in T) earlier previous v on a

module _ (T : Tokenizer) (v : ℕ) (on : Bool) (a : Reading Forest) (row : IsTriedAt T v on a) (e : current_of T ≡ Some v) where
  pub only-reads : ReadsElements (provided on >> a) T
  only-reads =
      at-hand (provided on >> a) T v e (λ c cs t rest k holds earlier previous stands. only-element (text_setting T) (end_in T) earlier previous v on a (row earlier previous) c cs k (Some (t, rest)) holds)

  pub only-alone : OrStandsAlone (provided on >> a) T
  only-alone =
      alone-at (provided on >> a) T v e (λ c cs k none earlier previous stands. only-element (text_setting T) (end_in T) earlier previous v on a (row earlier previous) c cs k None none)

-- Two constructs at one code.

-- the first of them, and the second where that does not hold
abbrev pub AreTriedAt : Tokenizer → ℕ → Bool → Bool → Reading Forest → Reading Forest → Type 0
AreTriedAt T v on other a b =
    (earlier : List Element) (previous : Option Code) → IsRowOfTwo (text_setting T) (end_in T) earlier previous v on other a b

module _ (T : Tokenizer) (v : ℕ) (on other : Bool) (a b : Reading Forest) (row : AreTriedAt T v on other a b) (e : current_of T ≡ Some v) where
  pub first-reads : ReadsElements (provided on >> a) T
  first-reads =
      at-hand (provided on >> a) T v e (λ c cs t rest k holds earlier previous stands. first-element (text_setting T) (end_in T) earlier previous v on other a b (row earlier previous) c cs k t rest holds)

  module _ (none : (provided on >> a) (ahead T) ≡ None) where
    none-at : (c : Code) (cs : List Code) → ahead T ≡ c ∷ cs → (provided on >> a) (c ∷ cs) ≡ None
    none-at c cs w = ap (provided on >> a) (sym w) ∙ none

    pub second-reads : ReadsElements (provided other >> b) T
    second-reads t rest holds earlier previous stands =
        let k : BeginsWithValue v (ahead T) = ahead-some T v e in
        ap (text_choice_of T earlier previous) k.whole
        ∙ second-element (text_setting T) (end_in T) earlier previous v on other a b (row earlier previous) k.code (rest_of (ahead T)) k.value (Some (t, rest)) (none-at k.code (rest_of (ahead T)) k.whole) (ap (provided other >> b) (sym k.whole) ∙ holds)

    pub second-alone : OrStandsAlone (provided other >> b) T
    second-alone refused earlier previous c cs stands w =
        second-element (text_setting T) (end_in T) earlier previous v on other a b (row earlier previous) c cs (value-here T v c cs e w) None (none-at c cs w) (ap (provided other >> b) (sym w) ∙ refused)

-- Spans.

is-span : (v n : ℕ) → v ≡ n → (n == byte "$" || n == byte "`") ≡ true → (v == byte "$" || v == byte "`") ≡ true
is-span v n e h = ap (λ x. x == byte "$" || x == byte "`") e ∙ h

pub span-reads : (T : Tokenizer) (v : ℕ) → current_of T ≡ Some v → (v == byte "$" || v == byte "`") ≡ true →
    ReadsElements (span_at T) T
span-reads T v e h =
    at-hand (span_at T) T v e (λ c cs t rest k holds earlier previous stands.
    span-element (text_setting T) (end_in T) earlier previous T c cs (Some (t, rest)) refl stands (is-span c.value v k h) holds)

pub span-alone : (T : Tokenizer) (v : ℕ) → current_of T ≡ Some v → (v == byte "$" || v == byte "`") ≡ true →
    OrStandsAlone (span_at T) T
span-alone T v e h =
    alone-at (span_at T) T v e (λ c cs k none earlier previous stands.
    span-element (text_setting T) (end_in T) earlier previous T c cs None refl stands (is-span c.value v k h) none)

-- Literals.

-- where a code is at hand, the content ends with its last code
end-here : (T : Tokenizer) (v : ℕ) → EndsWithCodes T.cursor → current_of T ≡ Some v → end_of T ≡ end_in T
unfolding ahead_at
end-here T v last e = last (λ none. no-code T.cursor.at T.cursor.codes none (ahead-some T v e).whole)
  where
    no-code : {b : Code} {rest : List Code} (n : ℕ) (cs : List Code) → cs ≡ [] → drop n cs ≡ b ∷ rest → ⊥
    no-code zero [] none h = cc
    no-code (suc n) [] none h = cc
    no-code n (c ∷ cs) none h = cc

-- what is read of a literal, as the definition reads it
protocol-so : (T : Tokenizer) (v : ℕ) (earlier : List Element) (previous : Option Code) (cs : List Code) → EndsWithCodes T.cursor → current_of T ≡ Some v → StandsAfter earlier previous T
    → (provided (is_on T) >> gfm_autolink_literal_protocol (bytes_of T) (end_in T) previous) cs ≡ protocol_here T cs
protocol-so T v earlier previous cs last e k =
    λ i. (provided (is_on T) >> gfm_autolink_literal_protocol (bytes_of T) (sym (end-here T v last e) i) (sym k.before i)) cs

pub protocol-reads : (T : Tokenizer) (v : ℕ) → EndsWithCodes T.cursor → current_of T ≡ Some v →
    list_any (λ n. v == n) (first_letters schemes) ≡ true → ReadsElements (protocol_here T) T
protocol-reads T v last e h =
    at-hand (protocol_here T) T v e (λ c cs t rest k holds earlier previous stands.
    protocol-element (text_setting T) (end_in T) earlier previous v c cs (Some (t, rest)) k h (protocol-so T v earlier previous (c ∷ cs) last e stands ∙ holds))

pub protocol-alone : (T : Tokenizer) (v : ℕ) → EndsWithCodes T.cursor → current_of T ≡ Some v →
    list_any (λ n. v == n) (first_letters schemes) ≡ true → OrStandsAlone (protocol_here T) T
protocol-alone T v last e h =
    alone-at (protocol_here T) T v e (λ c cs k none earlier previous stands.
    protocol-element (text_setting T) (end_in T) earlier previous v c cs None k h (protocol-so T v earlier previous (c ∷ cs) last e stands ∙ none))

www-so : (T : Tokenizer) (v : ℕ) (earlier : List Element) (previous : Option Code) (cs : List Code) → EndsWithCodes T.cursor → current_of T ≡ Some v → StandsAfter earlier previous T
    → (provided (is_on T) >> gfm_autolink_literal_www (bytes_of T) (end_in T) previous) cs ≡ www_here T cs
www-so T v earlier previous cs last e k =
    λ i. (provided (is_on T) >> gfm_autolink_literal_www (bytes_of T) (sym (end-here T v last e) i) (sym k.before i)) cs

pub www-reads : (T : Tokenizer) (v : ℕ) → EndsWithCodes T.cursor → current_of T ≡ Some v →
    list_any (λ n. v == n) (first_letters (www ∷ [])) ≡ true → ReadsElements (www_here T) T
www-reads T v last e h =
    at-hand (www_here T) T v e (λ c cs t rest k holds earlier previous stands.
    www-element (text_setting T) (end_in T) earlier previous v c cs (Some (t, rest)) k h (www-so T v earlier previous (c ∷ cs) last e stands ∙ holds))

pub www-alone : (T : Tokenizer) (v : ℕ) → EndsWithCodes T.cursor → current_of T ≡ Some v →
    list_any (λ n. v == n) (first_letters (www ∷ [])) ≡ true → OrStandsAlone (www_here T) T
www-alone T v last e h =
    alone-at (www_here T) T v e (λ c cs k none earlier previous stands.
    www-element (text_setting T) (end_in T) earlier previous v c cs None k h (www-so T v earlier previous (c ∷ cs) last e stands ∙ none))

-- Runs of markers.

pub run-reads : (T : Tokenizer) (v : ℕ) → current_of T ≡ Some v → is_marker v ≡ true → ReadsElements (run_tree T) T
run-reads T v e m = grind (arith, at-hand (run_tree T) T v, run-element (text_setting T) (end_in T), run-some, run-at T v)

pub run-alone : (T : Tokenizer) (v : ℕ) → current_of T ≡ Some v → is_marker v ≡ true → OrStandsAlone (run_tree T) T
run-alone T v e m = grind (arith, alone-at (run_tree T) T v, run-off (text_setting T) (end_in T), run-none v (begins_run (switches_of T) v), run-at T v)

-- and it is a leaf that stands by itself
pub run-leaf : (T : Tokenizer) (v : ℕ) (t : Forest) (rest : List Code) → current_of T ≡ Some v → is_marker v ≡ true →
    run_tree T (ahead T) ≡ Some (t, rest) → IsRunLeaf t
run-leaf T v t rest e m holds =
    run-node v (begins_run (switches_of T) v) (ahead T) t rest (no-ending v m) (run-some t rest v (begins_run (switches_of T) v) (ahead T) (sym (run-ahead T v e) ∙ holds))
  where
    no-ending : (n : ℕ) → is_marker n ≡ true → (n == byte "\n") ≡ false
    no-ending n h = one-of (λ x. (x == byte "\n") ≡ false) run_markers n (refl, (refl, (refl, tt))) h

-- Checks.

and-turned : (a b c : Bool) → (a && b) && c ≡ c && (b && a)
and-turned a b c = grind arith

pub none-valued : (o : Option Code) → is_none (value_of o) ≡ is_none o
none-valued o = grind arith

-- where a check may begin
check-is : (T : Tokenizer) (earlier : List Element) (previous : Option Code) → StandsAfter earlier previous T →
    (is_none previous && (text_setting T).first_of_item) && (text_setting T).options.constructs.gfm_task_list_item ≡ may_begin T
unfolding code_before
check-is T earlier previous k = grind (arith, and-turned, none-valued)

checks-so : (T : Tokenizer) (earlier : List Element) (previous : Option Code) (cs : List Code) →
    StandsAfter earlier previous T →
    (provided ((is_none previous && (text_setting T).first_of_item) && (text_setting T).options.constructs.gfm_task_list_item) >> gfm_task_list_item_check) cs ≡ check_here T cs
checks-so T earlier previous cs k = grind (arith, check-is)

pub check-reads : (T : Tokenizer) (v : ℕ) → current_of T ≡ Some v → ReadsElements (check_here T) T
check-reads T v e =
    at-hand (check_here T) T v e (λ c cs t rest k holds earlier previous stands.
    check-element (text_setting T) (end_in T) earlier previous c cs t rest (checks-so T earlier previous (c ∷ cs) stands ∙ holds))

-- no check is read at no code
pub no-check-at-end : (T : Tokenizer) → current_of T ≡ None → ReadsElements (check_here T) T
unfolding gfm_task_list_item_check one
no-check-at-end T e t rest holds earlier previous stands = grind (arith, off-or-none, bind-none, ahead-none)

-- no check stands here
pub first-none : (T : Tokenizer) (earlier : List Element) (previous : Option Code) (c : Code) (cs : List Code) →
    check_here T (ahead T) ≡ None → StandsAfter earlier previous T → ahead T ≡ c ∷ cs →
    first_check (text_setting T) (end_in T) earlier previous (c ∷ cs) ≡ None
unfolding first_check plain_of
first-none T earlier previous c cs none k w = grind (arith, plain-switched, checks-so)

-- Codes at which nothing is tried.

pub other-alone : (T : Tokenizer) (v : ℕ) → current_of T ≡ Some v → list_any (λ n. v == n) text_markers ≡ false →
    StandsAlone T
other-alone T v e h earlier previous c cs stands w = grind (arith, other-element (text_setting T) (end_in T), value-here T v c cs)

-- each other code of data

whole-ahead : (T : Tokenizer) (front : List Code) (c : Code) (cs : List Code) → ahead T ≡ front ++ c ∷ cs →
    T.cursor.codes ≡ (take T.cursor.at T.cursor.codes ++ front) ++ c ∷ cs
unfolding ahead_at
whole-ahead T front c cs w =
    sym (take-append-drop T.cursor.at T.cursor.codes) ∙ ap (λ xs. take T.cursor.at T.cursor.codes ++ xs) w ∙ sym (append_assoc (take T.cursor.at T.cursor.codes) front (c ∷ cs))

pub single-ahead : (choice : Choice) (stops : List Code → Bool) (T : Tokenizer) → AreSingle choice stops T.cursor.codes →
    AreSingle choice stops (ahead T)
single-ahead choice stops T single front earlier previous c cs w free = grind (arith, whole-ahead T front c cs)

pub read-ahead : (source : Source) (choice : Choice) (stops : List Code → Bool) (T : Tokenizer) →
    AreReadAsData source choice stops T.cursor.codes → AreReadAsData source choice stops (ahead T)
read-ahead source choice stops T others front earlier previous c cs w free =
    others (take T.cursor.at T.cursor.codes ++ front) earlier previous c cs (whole-ahead T front c cs w) free

pub other-data : (T : Tokenizer) → StopsAtElements T →
    AreReadAsData (source_of T) (text_choice_of T) (stops_of T.tokenize_state) (ahead T)
other-data T stops =
    single-read (source_of T) (text_choice_of T) (stops_of T.tokenize_state) (ahead T) (single-ahead (text_choice_of T) (stops_of T.tokenize_state) T stops)
