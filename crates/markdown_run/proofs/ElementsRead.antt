-- What a construct that is tried in a text leads to, and data.
use Rattle.std.proofs.Common.{◌≡◌, ◌≢◌, ℕ, ◌<◌, ◌≤◌, ◌==◌, ◌||◌, not, Bool, true, false, Option, Some, None, List, [], ◌∷◌, refl, sym, ap, subst, ◌∙◌, arith}
use Rattle.std.specs.List.{list_any}
use Rattle.std.proofs.lemmas.Bool.{eqb-true, ne_eqb}
use Rattle.std.specs.Prelude.{is_some, ◌&&◌}
use Rattle.std.specs.Str.{byte}
use Rattle.markdown_content.specs.ListFunctions.{rest_of}
use Rattle.markdown_content.specs.Place.{code_at, moved}
use Rattle.markdown_content.proofs.PlaceRules.{ahead-moved}
use Rattle.markdown_engine.specs.Operations.{HasCode, ahead, current_of, scratched}
use Rattle.markdown_engine.specs.PastTree.{past, Reads, TreeReading}
use Rattle.markdown_engine.specs.StateWords.{StateWords}
use Rattle.markdown_engine.specs.Weights.{codes_left}
use Rattle.markdown_event.specs.declared.state.StateName.{StateName}
use Rattle.markdown_notes.specs.RunIndex.{is_asked}
use Rattle.markdown_event.specs.declared.state.StateName.TheVariants.{AttentionStart, AutolinkStart, CharacterEscapeStart, GfmAutolinkLiteralWwwStart, GfmLabelStartFootnoteStart}
use Rattle.markdown_event.specs.declared.state.StateName.TheVariants.{HardBreakEscapeStart, HtmlTextStart, LabelEndStart, LabelStartImageStart, LabelStartLinkStart, RawTextStart}
use Rattle.markdown_engine.specs.declared.tokenizer.TokenizeState.{TokenizeState}
use Rattle.markdown_engine.specs.declared.tokenizer.Tokenizer.{Tokenizer}
use Rattle.markdown_engine.proofs.ReadingSequences.{scratched-same}
use Rattle.markdown_attention.specs.Attention.{run_tree}
use Rattle.markdown_label.specs.LabelEnd.{AreStartsWithin}
use Rattle.markdown_label.specs.LabelEnd as LabelEnd
use Rattle.markdown_label.specs.LabelStarts.{footnote_test, image_ends, link_ends, footnote_ends}
use Rattle.markdown_label.proofs.NextCodeTests.{at-none, at-value}
use Rattle.markdown_label.proofs.BegunStartPlaces.{link-within, footnote-within, image-within}
use Rattle.markdown_leaf.specs.Autolink.{link_here}
use Rattle.markdown_leaf.specs.CharacterEscape.{escape_here}
use Rattle.markdown_leaf.specs.HardBreakEscape.{break_here}
use Rattle.markdown_leaf.specs.RawText as RawText
use Rattle.markdown_leaf.proofs.RawTextWithoutEnd.{code-ruled-out, math-ruled-out}
use Rattle.markdown_leaf_gfm.proofs.GfmAutolinkLiteralWwwLaws.{www-ruled-out}
use Rattle.markdown_leaf_html.proofs.HtmlWithoutEnd.{html-ruled-out}
use Rattle.markdown_leaf_gfm.specs.GfmAutolinkLiteral as GfmAutolinkLiteral
use Rattle.markdown_leaf_gfm.specs.GfmTaskListItemCheck as GfmTaskListItemCheck
use Rattle.markdown_leaf_html.specs.HtmlText as HtmlText
use Rattle.markdown_model.specs.CodeTests.{is_value, next_is}
use Rattle.markdown_model.specs.GfmAutolinkLiteral.{www, first_letters}
use Rattle.markdown_model.specs.TextLines.{data_up_to}
use Rattle.markdown_model.proofs.PlainConstructs.{ReadsPlain, plain_constructs}
use Rattle.markdown_plan.specs.Characters.{bytes_of}
use Rattle.markdown_run_text.specs.Row.{loses, past_mark}
use Rattle.markdown_run_text.specs.RunOverElements.{AreReadAsData, Advances, DataFinishes, Finishes}
use Rattle.markdown_run_text.proofs.ConstructNodes.{node-of}
use Rattle.markdown_run_text.proofs.ElementSteps.{some-ahead, advances-finishes, data-advances, node-advances, run-advances}
use Rattle.markdown_run_text.proofs.RowFields.{lost-within}
use Rattle.markdown_run_text.specs.TextContent.{StandsAlone, other_markers, sole_try, span_markers, text_choice_of, text_passed, text_setting}
use Rattle.markdown_run_text.proofs.TextContentLaws.{SoleBy, SoleOrAlone, sole-or-alone, angle-row, slash-row}
use Rattle.markdown_run_text.proofs.TextElements.{is_marker}
use Rattle.markdown_run_text.proofs.TextLabelTries.{image-advances, image-alone, footnote-advances, link-advances, bracket-alone, made-advances, failed-advances, end-alone}
use Rattle.markdown_run_text.proofs.TextSteps.{KeepsTheRest, same-row, choice-same, indexed-past, domains-past, ready-past, no-check-past, tree-kept, registered-kept, made-kept, some-none, ends-on, lost-there, not-lost, lost-left, lost-current, same-lost}
use Rattle.markdown_run_text.proofs.TextTries.{ReadsElements, read-ahead, single-ahead, first-reads, second-reads, second-alone, span-reads, span-alone, run-reads, run-alone, run-leaf, www-reads, www-alone}
use Rattle.markdown_run_text.specs.PlacesPassed.{goes_on}
use Rattle.markdown_run_text.proofs.InnerUnderscores.{text-read}
use Rattle.markdown_run_text.proofs.TextDataElements.{text-single}
use Rattle.markdown_run_text.specs.TextStops.{reader_stops, text_stops}
use Rattle.markdown_run.specs.ElementsOfText.{indexed, data_stops, MayTry, IsReady, FinishesAt, EndsByData, LeadsTo, PassesSome, ReachesData, ReadsElement}
use Rattle.markdown_run.specs.Layer.{inline}
use Rattle.markdown_run.proofs.RunConstructLemmas.{ready-tried}
use Rattle.markdown_run.specs.RunConstruct.{IsConstruct, EndsBy, ConstructEnds}
use Rattle.markdown_run_text.specs.ReaderEnds.{ReadsOrStays}
use Rattle.markdown_run.proofs.IndexedRows.{advances-indexed, mark-indexed, row-alone}
use Rattle.markdown_run.proofs.StartsAndEnds.{image-begun, link-begun, footnote-begun, image-fails, link-fails, footnote-fails, end-made}
use Rattle.markdown_run_text.specs.ElementsAsRead.{source_of}

-- An element is read.

data-stops-same : (T U : Tokenizer) → KeepsTheRest T U → data_stops U ≡ data_stops T
data-stops-same T U e i = reader_stops (e.codes i) (e.input i).now.options.now.constructs.gfm_autolink_literal

-- each code of the content where data does not stop is read as data
as-data : (T : Tokenizer) → MayTry T → AreReadAsData (source_of T) (text_choice_of T) (data_stops T) T.cursor.codes
as-data T r = text-read (text_setting T) T.cursor T.parse_state.now.options.now.constructs.gfm_autolink_literal r.start.ends.text refl

pub may-past : (T U : Tokenizer) → KeepsTheRest T U → codes_left U ≤ codes_left T → AreStartsWithin U U.tokenize_state.label_starts →
    U.attempts ≡ [] → MayTry T → MayTry U
may-past T U e l within alone r = grind (arith, ready-past, indexed-past, domains-past)

pub element-passes : (T U : Tokenizer) → MayTry T → AreStartsWithin U U.tokenize_state.label_starts →
    Advances (text_choice_of T) T U → PassesSome T U
unfolding scratched
element-passes T U r within a =
    let e : KeepsTheRest T U = same-row a.row T U a.left a.is_row r.start.ends in
    let less : codes_left U < codes_left T = a.less in
    record {
      ready = record { may_try = may-past T U e (omega (arith, less)) within (ap (λ (x : Tokenizer). x.attempts) a.left ∙ row-alone a.row T ∙ r.alone) r; unchecked = no-check-past T U a };
      less = less;
      leads = leads e;
    }
  where
    leads : KeepsTheRest T U → LeadsTo T U
    leads e s V h =
        advances-finishes (text_choice_of T) text_passed (indexed s T) (indexed s U) V (advances-indexed s (text_choice_of T) T U a) (subst (λ c. Finishes c text_passed (indexed s U) V) (choice-same T U e) h)

-- None is, and the code at hand is data.

alone-ends : (T : Tokenizer) → AreReadAsData (source_of T) (text_choice_of T) (data_stops T) T.cursor.codes → current_of T ≢ None →
    StandsAlone T → (V : Tokenizer) → EndsByData T V → FinishesAt T V
alone-ends T read some alone V k =
    let a = some-ahead T (ahead T) refl some in
    advances-finishes (text_choice_of T) text_passed T k.behind V
    (data-advances (text_choice_of T) (data_stops T) T k.behind a.0 a.1.0 a.1.1 k.data_read (λ earlier previous stands. alone earlier previous a.0 a.1.0 stands a.1.1)
    (subst (λ xs. AreReadAsData (source_of T) (text_choice_of T) (data_stops T) xs) a.1.1 (read-ahead (source_of T) (text_choice_of T) (data_stops T) T read)))
    k.finishes

has-code : (T : Tokenizer) (v : ℕ) → current_of T ≡ Some v → HasCode T
has-code T v e = ap is_some e

pub alone-stays : (T U : Tokenizer) (v : ℕ) → IsReady T → current_of T ≡ Some v → U ≡ T → StandsAlone T → ReachesData T U
unfolding scratched
alone-stays T U v r here same alone = subst (λ (x : Tokenizer). ReachesData T x) (sym same) there
  where
    leads : (s : TokenizeState) (V : Tokenizer) → EndsByData (indexed s T) V → FinishesAt (indexed s T) V
    leads s V k =
        alone-ends (indexed s T) (as-data T r.may_try) (some-none (current_of T) v here) (λ earlier previous c cs stands w. alone earlier previous c cs (record { escaped = stands.escaped; before = stands.before; keeps = stands.keeps }) w) V k

    there : ReachesData T T
    there = record { ready = r; some_code = has-code T v here; left = omega arith; leads = leads }

-- A construct is tried.

plain-ends : (T U : Tokenizer) (ok : Bool) (v : ℕ) (reading : TreeReading) → IsReady T → current_of T ≡ Some v →
    ReadsOrStays None reading None T.tokenize_state T ok U → ReadsPlain (bytes_of T) reading → ReadsElements reading T →
    (reading (ahead T) ≡ None → StandsAlone T) → ReadsElement T ok U
plain-ends T U true v reading r here k own elements alone =
    let node = node-of (bytes_of T) reading own (ahead T) k.tree k.rest k.holds in
    element-passes T U r.may_try (tree-kept T U k.tree (k.left ∙ ap (past None k.tree) (scratched-same T)) r.may_try.start.ends.within)
    (node-advances (text_choice_of T) reading T U k node.0 node.1 (elements k.tree k.rest k.holds))
plain-ends T U false v reading r here k own elements alone =
    alone-stays T U v r here (k.1 ∙ scratched-same T) (alone k.0)

pub span-ends : (T U : Tokenizer) (ok : Bool) (v : ℕ) → IsReady T → current_of T ≡ Some v →
    (v == byte "$" || v == byte "`") ≡ true → ConstructEnds RawTextStart T ok U → ReadsElement T ok U
span-ends T U ok v r here h k =
    plain-ends T U ok v (RawText.span_at T) r here k (search plain_constructs) (span-reads T v here h) (span-alone T v here h)

-- it is known that none closes
pub span-ruled : (T : Tokenizer) (v : ℕ) → IsReady T → current_of T ≡ Some v → is_asked span_markers v ≡ true →
    RawText.is_ruled_out v T ≡ true → ReachesData T T
span-ruled T v r here h k = by_marker (v == 96) refl
  where
    other : (b : Bool) → (false || (b || false)) ≡ b
    other true = refl
    other false = refl

    by_marker : (b : Bool) → (v == 96) ≡ b → ReachesData T T
    by_marker true e =
        let code : v ≡ 96 = eqb-true v 96 e in
        let there : current_of T ≡ Some 96 = here ∙ ap (λ n. Some n) code in
        alone-stays T T 96 r there refl (span-alone T 96 there refl (code-ruled-out T r.may_try.runs there (ap (λ n. RawText.is_ruled_out n T) (sym code) ∙ k)))
    by_marker false e =
        let math : v ≡ 36 = eqb-true v 36 (sym (other (v == 36)) ∙ ap (λ b. b || ((v == 36) || false)) (sym e) ∙ h) in
        let there : current_of T ≡ Some 36 = here ∙ ap (λ n. Some n) math in
        alone-stays T T 36 r there refl (span-alone T 36 there refl (math-ruled-out T r.may_try.runs there (ap (λ n. RawText.is_ruled_out n T) (sym math) ∙ k)))

-- data goes on at the code at hand

not-true : (b : Bool) → not b ≡ true → b ≡ false
not-true b e = grind arith

pub data-stays : (T : Tokenizer) (v : ℕ) → IsReady T → current_of T ≡ Some v →
    goes_on T.parse_state.now.options.now.constructs.gfm_autolink_literal (ahead T) ≡ true → ReachesData T T
data-stays T v r here on =
    let literals : Bool = T.parse_state.now.options.now.constructs.gfm_autolink_literal in
    alone-stays T T v r here refl
    (λ earlier previous c cs stands w. single-ahead (text_choice_of T) (text_stops literals) T (text-single (text_setting T) literals T.cursor.codes refl) [] earlier previous c cs w (not-true (text_stops literals (c ∷ cs)) (sym (ap (goes_on literals) w) ∙ on)))

-- what alone is tried at the code at hand

sole-ends-by : (o : Option (Tokenizer → TreeReading)) (w : StateWords) (name : StateName) (T U : Tokenizer) (ok : Bool) (v : ℕ) → IsReady T →
    current_of T ≡ Some v → SoleBy T w o → EndsBy o name T ok U → ReadsElement T ok U
sole-ends-by None w name T U ok v r here h k = absurd h
sole-ends-by (Some reading) w name T U ok v r here h k = plain-ends T U ok v (reading T) r here k h.own h.reads h.alone

-- a code at which nothing else is tried
module _ (T : Tokenizer) (v : ℕ) (r : IsReady T) (here : current_of T ≡ Some v) (other : list_any (λ n. v == n) other_markers ≡ false) where
  sole-here : SoleOrAlone inline T (sole_try v)
  sole-here = sole-or-alone inline T r.may_try.start v here other

  pub sole-asks : (name : StateName) → sole_try v ≡ Some name → IsConstruct name T
  sole-asks name e = grind (arith, sole-here, ready-tried)

  pub sole-ends : (name : StateName) (U : Tokenizer) (ok : Bool) → sole_try v ≡ Some name → ConstructEnds name T ok U →
      ReadsElement T ok U
  sole-ends name U ok e k = grind (arith, sole-ends-by, sole-here)

  pub none-tried : sole_try v ≡ None → ReachesData T T
  none-tried e = alone-stays T T v r here refl (subst (λ (o : Option StateName). SoleOrAlone inline T o) e sole-here)

pub www-ends : (T U : Tokenizer) (ok : Bool) (v : ℕ) → IsReady T → current_of T ≡ Some v →
    list_any (λ n. v == n) (first_letters (www ∷ [])) ≡ true → ConstructEnds GfmAutolinkLiteralWwwStart T ok U → ReadsElement T ok U
www-ends T U ok v r here h k =
    plain-ends T U ok v (GfmAutolinkLiteral.www_here T) r here k (search plain_constructs) (www-reads T v r.may_try.start.last here h) (www-alone T v r.may_try.start.last here h)

-- it is known that no domain begins
pub www-ruled : (T : Tokenizer) (v : ℕ) → IsReady T → current_of T ≡ Some v → list_any (λ n. v == n) (first_letters (www ∷ [])) ≡ true →
    GfmAutolinkLiteral.is_ruled_out T ≡ true → ReachesData T T
www-ruled T v r here h k = grind (arith, alone-stays T T v, www-alone T v, www-ruled-out T)

-- Two constructs are tried, one behind the other.

plain-holds : (T U : Tokenizer) (reading : TreeReading) → IsReady T → Reads reading None T.tokenize_state T U → ReadsPlain (bytes_of T) reading →
    ReadsElements reading T → PassesSome T U
plain-holds T U reading r k own elements =
    let node = node-of (bytes_of T) reading own (ahead T) k.tree k.rest k.holds in
    element-passes T U r.may_try (tree-kept T U k.tree (k.left ∙ ap (past None k.tree) (scratched-same T)) r.may_try.start.ends.within)
    (node-advances (text_choice_of T) reading T U k node.0 node.1 (elements k.tree k.rest k.holds))

pub autolink-holds : (T U : Tokenizer) → IsReady T → current_of T ≡ Some (byte "<") → ConstructEnds AutolinkStart T true U → PassesSome T U
autolink-holds T U r here k = plain-holds T U (link_here T) r k (search plain_constructs) (first-reads T (byte "<") _ _ _ _ (angle-row T) here)

pub html-ends : (T U V : Tokenizer) (ok : Bool) → IsReady T → current_of T ≡ Some (byte "<") → ConstructEnds AutolinkStart T false U →
    ConstructEnds HtmlTextStart U ok V → ReadsElement T ok V
html-ends T U V ok r here k h =
    let same : U ≡ T = k.1 ∙ scratched-same T in
    let there : ConstructEnds HtmlTextStart T ok V = subst (λ (x : Tokenizer). ConstructEnds HtmlTextStart x ok V) same h in
    plain-ends T V ok (byte "<") (HtmlText.html_here T) r here there (search plain_constructs) (second-reads T (byte "<") _ _ _ _ (angle-row T) here k.0) (second-alone T (byte "<") _ _ _ _ (angle-row T) here k.0)

-- it is known that HTML does not end
pub html-ruled : (T U : Tokenizer) → IsReady T → current_of T ≡ Some (byte "<") → ConstructEnds AutolinkStart T false U →
    HtmlText.is_ruled_out U ≡ true → ReachesData T U
html-ruled T U r here k h =
    let same : U ≡ T = k.1 ∙ scratched-same T in
    alone-stays T U (byte "<") r here same
    (second-alone T (byte "<") _ _ _ _ (angle-row T) here k.0 (html-ruled-out T r.may_try.start.ends.part.indexed here (ap (λ (x : Tokenizer). HtmlText.is_ruled_out x) (sym same) ∙ h)))

pub escape-holds : (T U : Tokenizer) → IsReady T → current_of T ≡ Some (byte "\\") → ConstructEnds CharacterEscapeStart T true U → PassesSome T U
escape-holds T U r here k = plain-holds T U (escape_here T) r k (search plain_constructs) (first-reads T (byte "\\") _ _ _ _ (slash-row T) here)

pub break-ends : (T U V : Tokenizer) (ok : Bool) → IsReady T → current_of T ≡ Some (byte "\\") → ConstructEnds CharacterEscapeStart T false U →
    ConstructEnds HardBreakEscapeStart U ok V → ReadsElement T ok V
break-ends T U V ok r here k h =
    let same : U ≡ T = k.1 ∙ scratched-same T in
    let there : ConstructEnds HardBreakEscapeStart T ok V = subst (λ (x : Tokenizer). ConstructEnds HardBreakEscapeStart x ok V) same h in
    plain-ends T V ok (byte "\\") (break_here T) r here there (search plain_constructs) (second-reads T (byte "\\") _ _ _ _ (slash-row T) here k.0) (second-alone T (byte "\\") _ _ _ _ (slash-row T) here k.0)

-- Runs of markers.

pub run-ends : (T U : Tokenizer) (ok : Bool) (v : ℕ) → IsReady T → current_of T ≡ Some v → is_marker v ≡ true →
    ConstructEnds AttentionStart T ok U → ReadsElement T ok U
run-ends T U true v r here h k =
    let reads : Reads (run_tree T) None T.tokenize_state T k.0 = k.1.0 in
    element-passes T U r.may_try
    (registered-kept T U k.0 reads.tree (reads.left ∙ ap (past None reads.tree) (scratched-same T)) k.1.1 r.may_try.start.ends.within)
    (run-advances (text_choice_of T) (run_tree T) T U k.0 reads k.1.1 (run-leaf T v reads.tree reads.rest here h reads.holds) (run-reads T v here h reads.tree reads.rest reads.holds))
run-ends T U false v r here h k = alone-stays T U v r here (k.1 ∙ scratched-same T) (run-alone T v here h k.0)

-- Starts of labels.

-- a later test that fails
last-fails : (a b : Bool) → b ≡ false → a && b ≡ false
last-fails a b e = grind arith

-- the code behind the one at hand
pub next-some : (T : Tokenizer) (v n : ℕ) → code_at (moved T.cursor) ≡ Some n →
    (n == v) ≡ next_is (is_value v) (rest_of (ahead T))
next-some T v n e = grind (arith, at-value (record T { cursor = moved T.cursor }) n v (n == v), ahead-moved T.cursor)

pub next-none : (T : Tokenizer) (v : ℕ) → code_at (moved T.cursor) ≡ None → false ≡ next_is (is_value v) (rest_of (ahead T))
next-none T v e = grind (arith, at-none (record T { cursor = moved T.cursor }) v, ahead-moved T.cursor)

-- where no `^` comes next, no footnote call does
no-caret : (T : Tokenizer) → next_is (is_value (byte "^")) (rest_of (ahead T)) ≡ false → footnote_test T (ahead T) ≡ false
no-caret T none = grind (arith, last-fails)

pub image-tried : (T U : Tokenizer) (ok : Bool) → IsReady T → current_of T ≡ Some (byte "!") → ConstructEnds LabelStartImageStart T ok U →
    ReadsElement T ok U
image-tried T U true r here k =
    let h : image_ends T true U = image-begun T U k in
    element-passes T U r.may_try
    (subst (λ (x : Tokenizer). AreStartsWithin x x.tokenize_state.label_starts) (sym h.left) (image-within T r.may_try.start.ends.text r.may_try.start.ends.within h.holds)) (image-advances T U h)
image-tried T U false r here k = alone-stays T U (byte "!") r here k.1 (image-alone T here (image-fails T k.0))

pub footnote-holds : (T U : Tokenizer) → IsReady T → ConstructEnds GfmLabelStartFootnoteStart T true U → PassesSome T U
footnote-holds T U r k =
    let h : footnote_ends T true U = footnote-begun T U k in
    element-passes T U r.may_try
    (subst (λ (x : Tokenizer). AreStartsWithin x x.tokenize_state.label_starts) (sym h.left) (footnote-within T r.may_try.start.ends.text r.may_try.start.ends.within h.holds)) (footnote-advances T U r.unchecked h)

pub link-tried : (T U : Tokenizer) (ok : Bool) → IsReady T → current_of T ≡ Some (byte "[") → footnote_test T (ahead T) ≡ false →
    ConstructEnds LabelStartLinkStart T ok U → ReadsElement T ok U
link-tried T U true r here none k =
    let h : link_ends T true U = link-begun T U k in
    element-passes T U r.may_try
    (subst (λ (x : Tokenizer). AreStartsWithin x x.tokenize_state.label_starts) (sym h.left) (link-within T r.may_try.start.ends.text r.may_try.start.ends.within h.holds)) (link-advances T U r.unchecked none h)
link-tried T U false r here none k =
    alone-stays T U (byte "[") r here k.1 (bracket-alone T r.unchecked here none (link-fails T k.0))

pub link-next : (T U : Tokenizer) (ok : Bool) → IsReady T → current_of T ≡ Some (byte "[") → next_is (is_value (byte "^")) (rest_of (ahead T)) ≡ false →
    ConstructEnds LabelStartLinkStart T ok U → ReadsElement T ok U
link-next T U ok r here none k = link-tried T U ok r here (no-caret T none) k

pub link-behind : (T U V : Tokenizer) (ok : Bool) → IsReady T → current_of T ≡ Some (byte "[") → ConstructEnds GfmLabelStartFootnoteStart T false U →
    ConstructEnds LabelStartLinkStart U ok V → ReadsElement T ok V
link-behind T U V ok r here k h = grind (arith, link-tried, footnote-fails)

-- Ends of labels.

lost-ends : (T : Tokenizer) → current_of T ≡ Some (byte "]") → LabelEnd.is_on T ≡ true → LabelEnd.end_reading T (ahead T) ≡ None →
    AreReadAsData (source_of T) (text_choice_of T) (data_stops T) T.cursor.codes → (F : Tokenizer) → F ≡ past_mark loses T →
    text_choice_of F ≡ text_choice_of T → data_stops F ≡ data_stops T → (V : Tokenizer) → EndsByData F V → FinishesAt T V
lost-ends T here on none read F left choice stops V k =
    let there : DataFinishes (text_choice_of T) (data_up_to (data_stops T)) text_passed F V =
    subst (λ c. DataFinishes c (data_up_to (data_stops T)) text_passed F V) choice (subst (λ stop. DataFinishes (text_choice_of F) (data_up_to stop) text_passed F V) stops k) in
    advances-finishes (text_choice_of T) text_passed T there.behind V
    (failed-advances T here on (data_stops T) there.behind read none (subst (λ (x : Tokenizer). Reads (data_up_to (data_stops T)) None x.tokenize_state x there.behind) left there.data_read)) there.finishes

lost-stays : (T : Tokenizer) → IsReady T → current_of T ≡ Some (byte "]") → LabelEnd.is_on T ≡ true → LabelEnd.end_reading T (ahead T) ≡ None →
    ReachesData T (past_mark loses T)
unfolding past_mark scratched
lost-stays T r here on none =
    let F : Tokenizer = past_mark loses T in
    let e : KeepsTheRest T F = same-lost T r.may_try.start.ends in
    record {
      ready = record { may_try = may-past T F e (lost-left T) (lost-within T r.may_try.start.ends.within) (lost-alone ∙ r.may_try.alone) r.may_try; unchecked = lost-unchecked };
      some_code = has-code F (byte "]") (lost-current T ∙ here);
      left = lost-left T;
      leads = leads e;
    }
  where
    lost-alone : (past_mark loses T).attempts ≡ T.attempts
    lost-alone = refl

    lost-unchecked : (let F : Tokenizer = past_mark loses T in GfmTaskListItemCheck.check_here F (ahead F) ≡ None)
    lost-unchecked =
        ap (λ (s : TokenizeState). GfmTaskListItemCheck.check_here (record T { tokenize_state = record T.tokenize_state { document_at_first_paragraph_of_list_item = s.document_at_first_paragraph_of_list_item } }) (ahead T)) (same-lost T r.may_try.start.ends).fields
        ∙ r.unchecked

    leads : KeepsTheRest T (past_mark loses T) → (s : TokenizeState) (V : Tokenizer) → EndsByData (indexed s (past_mark loses T)) V → FinishesAt (indexed s T) V
    leads e s V k =
        lost-ends (indexed s T) here on none (as-data T r.may_try) (indexed s (past_mark loses T)) (sym (mark-indexed s loses T)) (choice-same T (past_mark loses T) e) (data-stops-same T (past_mark loses T) e) V k

pub end-ends : (T U : Tokenizer) (ok : Bool) → IsReady T → current_of T ≡ Some (byte "]") → ConstructEnds LabelEndStart T ok U →
    ReadsElement T ok U
end-ends T U true r here k =
    let h : LabelEnd.Ends T U = end-made T U k in
    element-passes T U r.may_try (made-kept T U h r.may_try.start.ends.within) (made-advances T here (ends-on T U h) U h)
end-ends T U false r here k = by_switch (LabelEnd.is_on T) refl
  where
    by_switch : (b : Bool) → LabelEnd.is_on T ≡ b → ReachesData T U
    by_switch true on = subst (λ (x : Tokenizer). ReachesData T x) (sym (k.1 ∙ lost-there T here on)) (lost-stays T r here on k.0)
    by_switch false off = alone-stays T U (byte "]") r here (k.1 ∙ not-lost T off) (end-alone T here off)

-- Other codes.

abbrev IsNone : ℕ → List ℕ → Type 0
IsNone v [] = Unit {0}
IsNone v (n ∷ ns) = (v ≢ n) × IsNone v ns

or-none : (a b : Bool) → a ≡ false → b ≡ false → (a || b) ≡ false
or-none a b e h = grind arith

-- a code that is none of these
pub none-among : (v : ℕ) (ns : List ℕ) → IsNone v ns → list_any (λ n. v == n) ns ≡ false
none-among v [] h = refl
none-among v (n ∷ ns) h = or-none (v == n) (list_any (λ m. v == m) ns) (ne_eqb v n h.0) (none-among v ns h.1)
