-- Which element of a text stands at the codes at hand.
use Rattle.std.proofs.Common.{◌≡◌, ℕ, Bool, true, false, ◌&&◌, ◌||◌, ◌==◌, List, [], ◌∷◌, ◌++◌, Option, None, Some, refl, sym, ap, ◌∙◌, arith}
use Rattle.std.specs.Prelude.{codes, is_none, nat_lt, take, drop}
use Rattle.std.specs.Str.{byte}
use Rattle.std.specs.List.{list_any}
use Rattle.std.proofs.lemmas.Bool.{or_parts, or_from, eqb-true}
use Rattle.markdown_content.specs.Codes.{Code, is_line_ending}
use Rattle.markdown_content.specs.Tree.{Forest, leaf}
use Rattle.markdown_event.specs.declared.event.Name.TheVariants as N
use Rattle.markdown_content.specs.declared.configuration.ParseOptions.{ParseOptions}
use Rattle.markdown_engine.specs.declared.tokenizer.Tokenizer.{Tokenizer}
use Rattle.markdown_leaf.specs.RawText.{span_at}
use Rattle.markdown_leaf.proofs.RawTextReadings.{here-off}
use Rattle.markdown_model.specs.CodeTests.{is_among}
use Rattle.markdown_model.specs.SingleConstructs.{begins_run}
use Rattle.markdown_model.specs.Elements.{attention_run, as_plain, switched, line_ending, data_code, code_text, math_text, Tries, tries, tried, first_check, text_element, ends_escaped, label_start_image, gfm_label_start_footnote, label_start_link}
use Rattle.markdown_model.specs.Grammar.{Reading, ◌>>◌, ◌>>=◌, provided, either, gives, one}
use Rattle.markdown_model.specs.LabelEnd.{Element, plain, label_end}
use Rattle.markdown_model.specs.TextLines.{data_up_to, code_leaf}
use Rattle.markdown_model.specs.GfmAutolinkLiteral.{schemes, www, first_letters, gfm_autolink_literal_protocol, gfm_autolink_literal_www}
use Rattle.markdown_model.specs.LeafConstructs.{gfm_task_list_item_check, span_here, code_names, math_names}
use Rattle.markdown_model.specs.Setting.{Setting}
use Rattle.markdown_run_text.specs.RunOverElements.{StandsAfter}
use Rattle.markdown_run_text.specs.TryTable.{codes_in}
use Rattle.markdown_run_text.specs.TextContent.{text_markers}
use Rattle.markdown_run_text.proofs.TryTableLemmas.{one-of, none-of, none-passes, none-within, not-in-row}
use Rattle.markdown_model.proofs.GrammarSteps.{bind-some, bind-none, one-here, one-other, either-first, either-second, either-some, switched-on, switched-off}

-- the element of what a construct reads here, or of the code by itself
abbrev pub element_here : Code → List Code → Option (Forest × List Code) → Option (Element × List Code)
element_here c cs None = Some (plain (code_leaf c), cs)
element_here c cs (Some r) = Some (plain r.0, r.1)

-- Readings that give plain elements.

unfoldable pub plain_of : Option (Forest × List Code) → Option (Element × List Code)
plain_of o = elim o [ None ↦ None | Some r ↦ Some (plain r.0, r.1) ]

pub plain-switched : (on : Bool) (a : Reading Forest) (cs : List Code) →
    switched on (as_plain a) cs ≡ plain_of ((provided on >> a) cs)
unfolding switched as_plain ◌>>◌ ◌>>=◌ provided gives plain_of
plain-switched on a cs = grind arith

pub off-or-none : (on : Bool) (a : Reading Forest) (cs : List Code) → a cs ≡ None → (provided on >> a) cs ≡ None
off-or-none on a cs e = grind (arith, switched-on, switched-off)

-- a code by itself

leaf-by : (b : Bool) (c : Code) → is_line_ending c ≡ b →
    code_leaf c ≡ elim b as (λ _. Forest) [ true ↦ leaf N.LineEnding (c ∷ []) | false ↦ leaf N.Data (c ∷ []) ]
leaf-by b c e = ap (λ x. elim x as (λ _. Forest) [ true ↦ leaf N.LineEnding (c ∷ []) | false ↦ leaf N.Data (c ∷ []) ]) e

pub data-alone : (c : Code) (cs : List Code) → is_line_ending c ≡ false →
    data_code (c ∷ cs) ≡ Some (plain (code_leaf c), cs)
unfolding data_code ◌>>=◌ one gives
data-alone c cs e = ap (λ t. Some (plain t, cs)) (sym (leaf-by false c e))

pub ending-alone : (c : Code) (cs : List Code) → is_line_ending c ≡ true →
    line_ending (c ∷ cs) ≡ Some (plain (code_leaf c), cs)
unfolding line_ending gives
ending-alone c cs e =
    bind-some (one is_line_ending) _ (c ∷ cs) (c ∷ []) cs (Some (plain (leaf N.LineEnding (c ∷ [])), cs)) (one-here is_line_ending c cs e) refl
    ∙ ap (λ t. Some (plain t, cs)) (sym (leaf-by true c e))

-- data holds everywhere
pub data-holds : (stops : List Code → Bool) (cs : List Code) → data_up_to stops cs ≡ None → ⊥
unfolding data_up_to
data-holds stops cs e = grind arith

-- a row and data behind it
plain-or-data : (row : Reading Element) (c : Code) (cs : List Code) (o : Option (Forest × List Code)) →
    is_line_ending c ≡ false → row (c ∷ cs) ≡ plain_of o → either row data_code (c ∷ cs) ≡ element_here c cs o
unfolding plain_of
plain-or-data row c cs o e k = grind (arith, either-second, data-alone, either-some)

-- a code without a row is data
tried-data : (rows : Tries) (v : ℕ) → list_any (λ n. v == n) (codes_in rows) ≡ false → tried rows v ≡ data_code
unfolding tried
tried-data [] v h = refl
tried-data (row ∷ rows) v h = let k = not-in-row row rows v h in rw (k.0, tried) (tried-data rows v k.1)

-- a code of a row, and of none before it
tried-at : (front : Tries) (row : List ℕ × Reading Element) (behind : Tries) (v : ℕ) →
    list_any (λ n. v == n) (codes_in front) ≡ false → list_any (λ n. v == n) row.0 ≡ true →
    tried (front ++ row ∷ behind) v ≡ row.1
unfolding tried
tried-at [] row behind v none h = rw (h, tried) refl
tried-at (other ∷ front) row behind v none h = grind (arith, not-in-row, tried-at front row behind v)

-- The markers of runs.

abbrev pub run_markers : List ℕ
run_markers = codes "*_~"

abbrev pub is_marker : ℕ → Bool
is_marker v = list_any (λ n. v == n) run_markers

-- Spans of both kinds.

abbrev spans_by : ParseOptions → Bool → Option Code → Reading Forest
spans_by p escaped previous =
    either (provided p.constructs.code_text >> span_here (byte "`") code_names (λ n. true) escaped previous)
    (provided p.constructs.math_text >> span_here (byte "$") math_names (λ n. p.math_text_single_dollar || nat_lt 1 n) escaped previous)

-- one of them begins at its marker only
only-code : (p : ParseOptions) (escaped : Bool) (previous : Option Code) (c : Code) (cs : List Code) → c.value ≡ byte "`"
    → spans_by p escaped previous (c ∷ cs) ≡ (provided p.constructs.code_text >> span_here (byte "`") code_names (λ n. true) escaped previous) (c ∷ cs)
only-code p escaped previous c cs e = grind (arith, either-first, here-off)

only-math : (p : ParseOptions) (escaped : Bool) (previous : Option Code) (c : Code) (cs : List Code) → c.value ≡ byte "$"
    → spans_by p escaped previous (c ∷ cs) ≡ (provided p.constructs.math_text >> span_here (byte "$") math_names (λ n. p.math_text_single_dollar || nat_lt 1 n) escaped previous) (c ∷ cs)
only-math p escaped previous c cs e = grind (arith, either-second, here-off)

module _ (s : Setting) (end : ℕ) (earlier : List Element) (previous : Option Code) where
  -- a check begins with a bracket
  no-check : (c : Code) (cs : List Code) → (c.value == byte "[") ≡ false →
      first_check s end earlier previous (c ∷ cs) ≡ None
  unfolding first_check plain_of gfm_task_list_item_check
  no-check c cs e = grind (arith, plain-switched, off-or-none, bind-none, one-other)

  -- where a check begins
  pub check-element : (c : Code) (cs : List Code) (t : Forest) (rest : List Code)
      → (provided ((is_none previous && s.first_of_item) && s.options.constructs.gfm_task_list_item) >> gfm_task_list_item_check) (c ∷ cs) ≡ Some (t, rest) → text_element s end earlier previous (c ∷ cs) ≡ Some (plain t, rest)
  unfolding text_element first_check plain_of
  check-element c cs t rest h = grind (arith, either-some, plain-switched)

  -- the row of the code, and data behind it
  pub text-at : (row : Reading Element) (c : Code) (cs : List Code) →
      first_check s end earlier previous (c ∷ cs) ≡ None → tried (tries s end earlier previous) c.value ≡ row →
      text_element s end earlier previous (c ∷ cs) ≡ either row data_code (c ∷ cs)
  unfolding text_element
  text-at row c cs none e = grind (arith, either-second)

  -- the same, of a code with this value, which is no bracket
  text-row : (v : ℕ) (row : Reading Element) (c : Code) (cs : List Code) → c.value ≡ v → (v == byte "[") ≡ false →
      tried (tries s end earlier previous) v ≡ row →
      text_element s end earlier previous (c ∷ cs) ≡ either row data_code (c ∷ cs)
  text-row v row c cs e n k = grind (arith, text-at, no-check)

  value-other : (v : ℕ) (c : Code) → c.value ≡ v → (v == byte "\n") ≡ false → is_line_ending c ≡ false
  value-other v c e k = ap (λ n. n == byte "\n") e ∙ k

  -- a row of one construct
  one-row : (v : ℕ) (on : Bool) (a : Reading Forest) (c : Code) (cs : List Code) (o : Option (Forest × List Code)) → c.value ≡ v → (v == byte "\n") ≡ false → (v == byte "[") ≡ false
      → tried (tries s end earlier previous) v ≡ switched on (as_plain a) → (provided on >> a) (c ∷ cs) ≡ o → text_element s end earlier previous (c ∷ cs) ≡ element_here c cs o
  one-row v on a c cs o e k n row h = grind (arith, text-row v (switched on (as_plain a)) c cs, plain-or-data (switched on (as_plain a)) c cs o, value-other v c, plain-switched on a (c ∷ cs))

  -- Spans.

  pub code-element : (c : Code) (cs : List Code) (o : Option (Forest × List Code)) → c.value ≡ byte "`"
      → (provided s.options.constructs.code_text >> span_here (byte "`") code_names (λ n. true) (ends_escaped earlier) previous) (c ∷ cs) ≡ o → text_element s end earlier previous (c ∷ cs) ≡ element_here c cs o
  unfolding tries tried code_text
  code-element c cs o e h =
      one-row (byte "`") s.options.constructs.code_text (span_here (byte "`") code_names (λ n. true) (ends_escaped earlier) previous) c cs o e refl refl refl h

  pub math-element : (c : Code) (cs : List Code) (o : Option (Forest × List Code)) → c.value ≡ byte "$"
      → (provided s.options.constructs.math_text >> span_here (byte "$") math_names (λ n. s.options.math_text_single_dollar || nat_lt 1 n) (ends_escaped earlier) previous) (c ∷ cs) ≡ o
      → text_element s end earlier previous (c ∷ cs) ≡ element_here c cs o
  unfolding tries tried math_text
  math-element c cs o e h =
      one-row (byte "$") s.options.constructs.math_text (span_here (byte "$") math_names (λ n. s.options.math_text_single_dollar || nat_lt 1 n) (ends_escaped earlier) previous) c cs o e refl refl refl h

  -- what `span_at` reads, of a tokenizer with these switches of spans and this before it
  pub span-element : (T : Tokenizer) (c : Code) (cs : List Code) (o : Option (Forest × List Code)) → spans_by s.options ≡ spans_by T.parse_state.now.options.now → StandsAfter earlier previous T
      → (c.value == byte "$" || c.value == byte "`") ≡ true → span_at T (c ∷ cs) ≡ o → text_element s end earlier previous (c ∷ cs) ≡ element_here c cs o
  span-element T c cs o same stands e h = by_test (c.value == byte "$") refl e
    where
      given : spans_by s.options (ends_escaped earlier) previous (c ∷ cs) ≡ o
      given = (λ i. same i (sym stands.escaped i) (sym stands.before i) (c ∷ cs)) ∙ h

      by_test : (b : Bool) → (c.value == byte "$") ≡ b → (b || c.value == byte "`") ≡ true →
          text_element s end earlier previous (c ∷ cs) ≡ element_here c cs o
      by_test true k f =
          let v = eqb-true c.value (byte "$") k in math-element c cs o v (sym (only-math s.options (ends_escaped earlier) previous c cs v) ∙ given)
      by_test false k f =
          let v = eqb-true c.value (byte "`") f in code-element c cs o v (sym (only-code s.options (ends_escaped earlier) previous c cs v) ∙ given)

  -- A row of one construct.

  abbrev pub IsRowOfOne : ℕ → Bool → Reading Forest → Type 0
  IsRowOfOne v on a =
      ((v == byte "\n") ≡ false) × (((v == byte "[") ≡ false) × (tried (tries s end earlier previous) v ≡ switched on (as_plain a)))

  pub only-element : (v : ℕ) (on : Bool) (a : Reading Forest) → IsRowOfOne v on a → (c : Code) (cs : List Code) → c.value ≡ v →
      (o : Option (Forest × List Code)) → (provided on >> a) (c ∷ cs) ≡ o → text_element s end earlier previous (c ∷ cs) ≡ element_here c cs o
  only-element v on a row c cs e o h = one-row v on a c cs o e row.0 row.1.0 row.1.1 h

  -- A row of two constructs: the first, and the second where that does not hold.

  abbrev pub IsRowOfTwo : ℕ → Bool → Bool → Reading Forest → Reading Forest → Type 0
  IsRowOfTwo v on other a b =
      ((v == byte "\n") ≡ false) × (((v == byte "[") ≡ false) × (tried (tries s end earlier previous) v ≡ either (switched on (as_plain a)) (switched other (as_plain b))))

  module _ (v : ℕ) (on other : Bool) (a b : Reading Forest) (row : IsRowOfTwo v on other a b) (c : Code) (cs : List Code) (e : c.value ≡ v) where
    pub first-element : (t : Forest) (rest : List Code) → (provided on >> a) (c ∷ cs) ≡ Some (t, rest) →
        text_element s end earlier previous (c ∷ cs) ≡ Some (plain t, rest)
    unfolding plain_of
    first-element t rest h = grind (arith, text-row v, plain-or-data (either (switched on (as_plain a)) (switched other (as_plain b))) c cs (Some (t, rest)), value-other v c, either-some (switched on (as_plain a)), plain-switched on a (c ∷ cs))

    pub second-element : (o : Option (Forest × List Code)) → (provided on >> a) (c ∷ cs) ≡ None →
        (provided other >> b) (c ∷ cs) ≡ o → text_element s end earlier previous (c ∷ cs) ≡ element_here c cs o
    unfolding plain_of
    second-element o none h = grind (arith, text-row v, plain-or-data (either (switched on (as_plain a)) (switched other (as_plain b))) c cs o, value-other v c, either-second (switched on (as_plain a)), plain-switched on a (c ∷ cs), plain-switched other b (c ∷ cs))

  -- Runs of markers.

  -- the row of a marker: its run, where that is read
  abbrev IsRunRow : ℕ → Type 0
  IsRunRow v =
      ((v == byte "\n") ≡ false) × (((v == byte "[") ≡ false) × (tried (tries s end earlier previous) v ≡ switched (begins_run s.options.constructs v) (attention_run v)))

  run-row : (v : ℕ) → is_marker v ≡ true → IsRunRow v
  unfolding tries tried
  run-row v h = grind (arith, one-of)

  pub run-element : (v : ℕ) (c : Code) (cs : List Code) (t : Forest) (rest : List Code) → is_marker v ≡ true → c.value ≡ v → switched (begins_run s.options.constructs v) (attention_run v) (c ∷ cs) ≡ Some (plain t, rest)
      → text_element s end earlier previous (c ∷ cs) ≡ Some (plain t, rest)
  run-element v c cs t rest m e h = grind (arith, run-row v, text-row v (switched (begins_run s.options.constructs v) (attention_run v)) c cs, either-some (switched (begins_run s.options.constructs v) (attention_run v)) data_code (c ∷ cs) (plain t, rest))

  -- a row that does not hold
  row-none : (v : ℕ) (row : Reading Element) (c : Code) (cs : List Code) → c.value ≡ v → (v == byte "\n") ≡ false → (v == byte "[") ≡ false → tried (tries s end earlier previous) v ≡ row → row (c ∷ cs) ≡ None
      → text_element s end earlier previous (c ∷ cs) ≡ Some (plain (code_leaf c), cs)
  row-none v row c cs e k n r h = grind (arith, text-row, either-second, data-alone, value-other)

  -- a marker that begins no run
  pub run-off : (v : ℕ) (c : Code) (cs : List Code) → is_marker v ≡ true → c.value ≡ v → switched (begins_run s.options.constructs v) (attention_run v) (c ∷ cs) ≡ None
      → text_element s end earlier previous (c ∷ cs) ≡ Some (plain (code_leaf c), cs)
  run-off v c cs m e h = grind (arith, run-row, row-none)

  -- Literals, by the letters that they begin with.

  -- a code of a row of one construct, by the rows before and behind it
  letter-row : (front behind : Tries) (letters : List ℕ) (on : Bool) (k : Reading Forest) → tries s end earlier previous ≡ front ++ (letters, switched on (as_plain k)) ∷ behind
      → list_any (λ n. list_any (λ m. n == m) (byte "\n" ∷ byte "[" ∷ codes_in front)) letters ≡ false
      → (v : ℕ) (c : Code) (cs : List Code) (o : Option (Forest × List Code)) → c.value ≡ v → list_any (λ n. v == n) letters ≡ true → (provided on >> k) (c ∷ cs) ≡ o → text_element s end earlier previous (c ∷ cs) ≡ element_here c cs o
  letter-row front behind letters on k rows apart v c cs o e h read = grind (arith, none-passes, or_parts (v == byte "\n"), or_parts, one-row v on k c cs o, tried-at front (letters, switched on (as_plain k)) behind v)

  pub protocol-element : (v : ℕ) (c : Code) (cs : List Code) (o : Option (Forest × List Code)) → c.value ≡ v → list_any (λ n. v == n) (first_letters schemes) ≡ true
      → (provided s.options.constructs.gfm_autolink_literal >> gfm_autolink_literal_protocol s.bytes end previous) (c ∷ cs) ≡ o → text_element s end earlier previous (c ∷ cs) ≡ element_here c cs o
  unfolding tries
  protocol-element = grind (arith, letter-row (take 9 (tries s end earlier previous)) (drop 10 (tries s end earlier previous)) (first_letters schemes) s.options.constructs.gfm_autolink_literal (gfm_autolink_literal_protocol s.bytes end previous))

  pub www-element : (v : ℕ) (c : Code) (cs : List Code) (o : Option (Forest × List Code)) → c.value ≡ v → list_any (λ n. v == n) (first_letters (www ∷ [])) ≡ true
      → (provided s.options.constructs.gfm_autolink_literal >> gfm_autolink_literal_www s.bytes end previous) (c ∷ cs) ≡ o → text_element s end earlier previous (c ∷ cs) ≡ element_here c cs o
  unfolding tries
  www-element = grind (arith, letter-row (take 10 (tries s end earlier previous)) (drop 11 (tries s end earlier previous)) (first_letters (www ∷ [])) s.options.constructs.gfm_autolink_literal (gfm_autolink_literal_www s.bytes end previous))

  -- Starts and ends of labels.

  -- what the row of a code gives
  row-some : (v : ℕ) (row : Reading Element) (c : Code) (cs : List Code) (r : Element × List Code) → c.value ≡ v → first_check s end earlier previous (c ∷ cs) ≡ None → tried (tries s end earlier previous) v ≡ row → row (c ∷ cs) ≡ Some r
      → text_element s end earlier previous (c ∷ cs) ≡ Some r
  row-some v row c cs r e none is h = grind (arith, text-at row c cs, either-some row data_code (c ∷ cs) r)

  row-data : (v : ℕ) (row : Reading Element) (c : Code) (cs : List Code) → c.value ≡ v → (v == byte "\n") ≡ false → first_check s end earlier previous (c ∷ cs) ≡ None → tried (tries s end earlier previous) v ≡ row → row (c ∷ cs) ≡ None
      → text_element s end earlier previous (c ∷ cs) ≡ Some (plain (code_leaf c), cs)
  row-data v row c cs e k none is h = grind (arith, text-at row c cs, either-second row data_code (c ∷ cs), data-alone c cs, value-other v c)

  -- a `!`
  abbrev pub bang_row : Reading Element
  bang_row = switched s.options.constructs.label_start_image (label_start_image s.options.constructs.gfm_label_start_footnote)

  pub image-element : (c : Code) (cs : List Code) (r : Element × List Code) → c.value ≡ byte "!" →
      bang_row (c ∷ cs) ≡ Some r → text_element s end earlier previous (c ∷ cs) ≡ Some r
  unfolding tries tried
  image-element c cs r e h = row-some (byte "!") bang_row c cs r e (no-check c cs (ap (λ x. x == byte "[") e)) refl h

  pub no-image-element : (c : Code) (cs : List Code) → c.value ≡ byte "!" → bang_row (c ∷ cs) ≡ None →
      text_element s end earlier previous (c ∷ cs) ≡ Some (plain (code_leaf c), cs)
  unfolding tries tried
  no-image-element c cs e h = grind (arith, row-data, no-check)

  -- a `[`
  abbrev pub bracket_row : Reading Element
  bracket_row =
      either (switched s.options.constructs.gfm_label_start_footnote gfm_label_start_footnote) (switched s.options.constructs.label_start_link label_start_link)

  pub bracket-element : (c : Code) (cs : List Code) (r : Element × List Code) →
      first_check s end earlier previous (c ∷ cs) ≡ None → c.value ≡ byte "[" → bracket_row (c ∷ cs) ≡ Some r →
      text_element s end earlier previous (c ∷ cs) ≡ Some r
  unfolding tries tried
  bracket-element c cs r none e h = row-some (byte "[") bracket_row c cs r e none refl h

  pub no-bracket-element : (c : Code) (cs : List Code) → first_check s end earlier previous (c ∷ cs) ≡ None →
      c.value ≡ byte "[" → bracket_row (c ∷ cs) ≡ None →
      text_element s end earlier previous (c ∷ cs) ≡ Some (plain (code_leaf c), cs)
  unfolding tries tried
  no-bracket-element c cs none e h = row-data (byte "[") bracket_row c cs e refl none refl h

  -- a `]`
  pub end-element : (c : Code) (cs : List Code) (r : Element × List Code) → c.value ≡ byte "]" →
      s.options.constructs.label_end ≡ true → label_end s earlier (c ∷ cs) ≡ Some r →
      text_element s end earlier previous (c ∷ cs) ≡ Some r
  unfolding tries tried switched
  end-element c cs r e on h = grind (arith, row-some, no-check c cs, switched-on (label_end s earlier) s.options.constructs.label_end (c ∷ cs))

  pub no-end-element : (c : Code) (cs : List Code) → c.value ≡ byte "]" → s.options.constructs.label_end ≡ false →
      text_element s end earlier previous (c ∷ cs) ≡ Some (plain (code_leaf c), cs)
  unfolding tries tried switched
  no-end-element c cs e off = grind (arith, row-data, no-check c cs, switched-off (label_end s earlier) s.options.constructs.label_end (c ∷ cs))

  -- Codes that begin no construct.

  -- the codes of the definition's rows are line endings, and those at which something is tried
  plain-tried : (v : ℕ) → (v == byte "\n") ≡ false → list_any (λ n. v == n) text_markers ≡ false →
      tried (tries s end earlier previous) v ≡ data_code
  unfolding tries
  plain-tried v e h = grind (arith, tried-data (tries s end earlier previous) v, none-within (codes_in (tries s end earlier previous)) (byte "\n" ∷ text_markers), or_from (v == byte "\n"))

  ending-at : (c : Code) (cs : List Code) → is_line_ending c ≡ true →
      text_element s end earlier previous (c ∷ cs) ≡ Some (plain (code_leaf c), cs)
  unfolding tries tried
  ending-at c cs e = grind (arith, text-row (byte "\n") line_ending c cs, eqb-true c.value (byte "\n") e, either-some line_ending data_code (c ∷ cs) (plain (code_leaf c), cs), ending-alone c cs)

  data-at : (c : Code) (cs : List Code) → is_line_ending c ≡ false → is_among text_markers c ≡ false →
      text_element s end earlier previous (c ∷ cs) ≡ Some (plain (code_leaf c), cs)
  data-at c cs e h =
      text-at data_code c cs (no-check c cs (none-of text_markers c.value (byte "[") h refl)) (plain-tried c.value e h) ∙ either-some data_code data_code (c ∷ cs) (plain (code_leaf c), cs) (data-alone c cs e)

  pub other-element : (c : Code) (cs : List Code) → is_among text_markers c ≡ false →
      text_element s end earlier previous (c ∷ cs) ≡ Some (plain (code_leaf c), cs)
  other-element c cs h = grind (arith, ending-at, data-at)
