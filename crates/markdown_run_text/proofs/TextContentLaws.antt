-- The laws of the states of a text.
use Rattle.std.proofs.Common.{◌≡◌, ◌≢◌, ℕ, ◌*◌, ◌<◌, ◌==◌, ◌||◌, Bool, true, false, Option, Some, None, List, [], ◌∷◌, refl, sym, ap, subst, ◌∙◌, arith}
use Rattle.std.specs.List.{list_any}
use Rattle.std.specs.Prelude.{codes}
use Rattle.std.specs.Str.{byte}
use Rattle.std.proofs.lemmas.Bool.{or_from}
use Rattle.std.proofs.lemmas.List.Folds.{list_any-append}
use Rattle.markdown_content.specs.CommonMark.{rules_of}
use Rattle.markdown_content.specs.Codes.{Code}
use Rattle.markdown_engine.specs.Operations.{ahead, current_of, scratched}
use Rattle.markdown_engine.specs.PastTree.{past, EndsAs, Reads, Refuses, TreeReading}
use Rattle.markdown_engine.specs.StateRuns.{Stepped, stepped}
use Rattle.markdown_engine.specs.StateWords.{StateWords, Words, words_in, GoesIn, Law}
use Rattle.markdown_content.specs.Tree.{leaf_codes}
use Rattle.markdown_engine.specs.Weights.{codes_left, weight_at}
use Rattle.markdown_event.specs.declared.state.State.TheVariants.{Next, Retry, Nok}
use Rattle.markdown_event.specs.declared.state.StateName.{StateName}
use Rattle.markdown_event.specs.declared.state.StateName.TheVariants as H
use Rattle.markdown_event.specs.declared.state.StateName.TheVariants.{AttentionStart, AutolinkStart, CharacterEscapeStart, CharacterReferenceStart, DataStart, GfmAutolinkLiteralProtocolStart, GfmAutolinkLiteralWwwStart, GfmLabelStartFootnoteStart, GfmTaskListItemCheckStart}
use Rattle.markdown_event.specs.declared.state.StateName.TheVariants.{HardBreakEscapeStart, HtmlTextStart, LabelEndStart, LabelStartImageStart, LabelStartLinkStart, RawTextStart, TextBefore, TextBeforeData, TextBeforeHardBreakEscape, TextBeforeHtml, TextBeforeLabelStartLink}
use Rattle.markdown_engine.specs.declared.tokenizer.TokenizeState.{TokenizeState}
use Rattle.markdown_engine.specs.declared.tokenizer.Tokenizer.{Tokenizer}
use Rattle.markdown_engine.proofs.ReadingSequences.{scratched-same}
use Rattle.markdown_engine.proofs.LawSteps.{code-step, restored-fails}
use Rattle.markdown_engine.proofs.OperationFields.{attempts-scratched}
use Rattle.markdown_leaf_gfm.specs.GfmAutolinkLiteral as GfmAutolinkLiteral
use Rattle.markdown_leaf_gfm.specs.GfmTaskListItemCheck as GfmTaskListItemCheck
use Rattle.markdown_leaf_html.specs.HtmlText as HtmlText
use Rattle.markdown_attention.specs.Attention as Attention
use Rattle.markdown_attention.specs.Attention.{ReadsRun, run_tree}
use Rattle.markdown_plan.specs.Characters.{bytes_of}
use Rattle.markdown_plan.specs.LayerEquation.{EqualsLayer, AreLawful}
use Rattle.markdown_plan.proofs.LawStepsOfLayer.{FollowsIn, Goes-plain, Goes-end, Goes-attempt, follows}
use Rattle.markdown_label.specs.LabelEnd as LabelEnd
use Rattle.markdown_label.specs.LabelEnd.{AreStartsWithin}
use Rattle.markdown_label.specs.LabelStarts.{image_ends, footnote_ends, link_ends, image_words, footnote_words, link_words}
use Rattle.markdown_label.proofs.BegunStartPlaces.{link-within, footnote-within, image-within}
use Rattle.markdown_leaf.specs.Autolink as Autolink
use Rattle.markdown_leaf.specs.Autolink.{link_here}
use Rattle.markdown_leaf.specs.CharacterEscape as CharacterEscape
use Rattle.markdown_leaf.specs.CharacterEscape.{escape_here}
use Rattle.markdown_leaf.specs.CharacterReference as CharacterReference
use Rattle.markdown_leaf.specs.CharacterReference.{reference_here, references_here}
use Rattle.markdown_leaf.specs.HardBreakEscape as HardBreakEscape
use Rattle.markdown_leaf.specs.HardBreakEscape.{break_here}
use Rattle.markdown_leaf.specs.RawText as RawText
use Rattle.markdown_model.specs.GfmAutolinkLiteral.{schemes, www, first_letters}
use Rattle.markdown_model.specs.TextLines.{data_up_to}
use Rattle.markdown_partial.specs.PartialData as PartialData
use Rattle.markdown_partial.specs.PartialData.{stops_of}
use Rattle.markdown_run_text.specs.RunOverElements.{Advances, DataFinishes, Finishes}
use Rattle.markdown_run_text.specs.Row.{loses, row_end, past_mark, kinds_of}
use Rattle.markdown_run_text.proofs.RowFields.{row-cursor, tree-within, lost-within}
use Rattle.markdown_run_text.specs.StringContent.{is_on}
use Rattle.markdown_run_text.specs.TryTable.{TriesTable, codes_in}
use Rattle.markdown_run_text.specs.TextContent.{states, TextStartReady, sole_tries, other_tries, or_data, other_markers, sole_try, tried_reading, text_tries, text_markers, marked_fields, text_marked, text_passed, attempt_step, start_step}
use Rattle.markdown_run_text.specs.TextContent.{first_try, tries_at, before_at, before_step, text_choice_of, IsReadyWithMarkers, TextBeforeReady, StandsAlone, before_ends, data_ends, start_words, before_words, before_html_words, before_hard_break_escape_words, before_label_start_link_words, before_data_words}
use Rattle.markdown_run_text.proofs.TryTableLemmas.{EachOf, each-among, each-weaker, EachRowPasses, by-row, rows-append}
use Rattle.markdown_run_text.proofs.ConstructNodes.{node-of}
use Rattle.markdown_model.proofs.PlainConstructs.{ReadsPlain, plain_constructs}
use Rattle.markdown_model.specs.Elements.{tries, tried}
use Rattle.markdown_model.specs.LeafConstructs.{character_escape, hard_break_escape, character_reference, autolink}
use Rattle.markdown_model.specs.HtmlText.{html_text}
use Rattle.markdown_run_text.proofs.TextElements.{is_marker, data-holds}
use Rattle.markdown_run_text.proofs.TextTries.{ReadsElements, AreTriedAt, first-reads, second-reads, second-alone, IsTriedAt, OrStandsAlone, only-reads, only-alone, span-reads, span-alone, run-reads, run-alone, run-leaf, protocol-reads, protocol-alone, www-reads, www-alone, other-alone}
use Rattle.markdown_run_text.proofs.ElementSteps.{DataRead, data-read, some-ahead, advances-finishes, node-advances, run-advances, single-read}
use Rattle.markdown_run_text.proofs.TextLabelTries.{image-advances, image-alone, footnote-advances, link-advances, bracket-alone, made-advances, failed-advances, end-alone}
use Rattle.markdown_run_text.proofs.TextSteps.{KeepsTheRest, same-row, choice-same, stops-same, marked-past, no-check-behind, no-check-past, advances-ends, alone-ends, tree-kept, registered-kept, made-kept}
use Rattle.markdown_run_text.proofs.TextSteps.{some-none, weight-marked, at-rest-reference, run-ready, passed-attempts, at-end, ends-on, lost-there, not-lost, lost-left, lost-current, same-lost, html-ready, marked-ready, marked-start, check-elements}
use Rattle.markdown_run_text.specs.ElementsAsRead.{source_of}

-- the starts of what is tried, as they are said, and any other as it is given
abbrev pub called : (StateName → StateWords) → StateName → StateWords
called other GfmTaskListItemCheckStart = GfmTaskListItemCheck.start_words
called other LabelStartImageStart = image_words
called other RawTextStart = RawText.start_words
called other CharacterReferenceStart = CharacterReference.start_words
called other AttentionStart = Attention.start_words
called other AutolinkStart = Autolink.start_words
called other HtmlTextStart = HtmlText.start_words
called other GfmAutolinkLiteralProtocolStart = GfmAutolinkLiteral.protocol_start_words
called other GfmAutolinkLiteralWwwStart = GfmAutolinkLiteral.www_start_words
called other GfmLabelStartFootnoteStart = footnote_words
called other LabelStartLinkStart = link_words
called other CharacterEscapeStart = CharacterEscape.start_words
called other HardBreakEscapeStart = HardBreakEscape.start_words
called other LabelEndStart = LabelEnd.start_words
called other DataStart = PartialData.start_words
called other s = other s

-- these states, and those that they try
abbrev pub states_and_called : (StateName → StateWords) → StateName → StateWords
states_and_called other s = states (called other) s

-- what is said of a construct that is tried: it ends with its reading
abbrev EndsOf : StateWords → TreeReading → Tokenizer → Type 0
EndsOf w reading T = (ok : Bool) (U : Tokenizer) → w.ends T ok U → EndsAs reading None T.tokenize_state T ok U

-- What alone is tried at its codes.

-- what is said of a construct of this start and this reading, at the code at hand: it may be tried, and ends as its reading says, which reads the
-- element there; where it does not hold, the code is one by itself
pub record IsSoleTry (T : Tokenizer) (w : StateWords) (reading : TreeReading) : Type 0 where
  pub ready : w.ready T
  pub light : w.rank T < 8
  pub ends : EndsOf w reading T
  pub own : ReadsPlain (bytes_of T) reading
  pub reads : ReadsElements reading T
  pub alone : OrStandsAlone reading T

abbrev pub SoleBy : Tokenizer → StateWords → Option (Tokenizer → TreeReading) → Type 0
SoleBy T w None = ⊥
SoleBy T w (Some reading) = IsSoleTry T w (reading T)

-- of what is said of a code
abbrev pub SoleOrAlone : Words → Tokenizer → Option StateName → Type 0
SoleOrAlone W T None = StandsAlone T
SoleOrAlone W T (Some name) = SoleBy T (states_and_called (words_in W) name) (tried_reading name)

abbrev pub IsSoleAt : Words → Tokenizer → ℕ → Option StateName → Type 0
IsSoleAt W T v o = current_of T ≡ Some v → SoleOrAlone W T o

reference-row : (T : Tokenizer) →
    IsTriedAt T (byte "&") (is_on T).character_reference (character_reference (references_here T))
unfolding tries tried
reference-row T earlier previous = (refl, (refl, refl))

module _ (T : Tokenizer) (ready : TextStartReady T) where
  sole-protocol : (v : ℕ) → list_any (λ n. v == n) (first_letters schemes) ≡ true → current_of T ≡ Some v →
      IsSoleTry T GfmAutolinkLiteral.protocol_start_words (GfmAutolinkLiteral.protocol_here T)
  sole-protocol v h e =
      record { ready = ready.literals; light = omega arith; ends = λ ok U g. g; own = search plain_constructs; reads = protocol-reads T v ready.last e h; alone = protocol-alone T v ready.last e h }

  sole-www : (v : ℕ) → list_any (λ n. v == n) (first_letters (www ∷ [])) ≡ true → current_of T ≡ Some v →
      IsSoleTry T GfmAutolinkLiteral.www_start_words (GfmAutolinkLiteral.www_here T)
  sole-www v h e =
      record { ready = ready.literals; light = omega arith; ends = λ ok U g. g; own = search plain_constructs; reads = www-reads T v ready.last e h; alone = www-alone T v ready.last e h }

  sole-span : (v : ℕ) → (v == byte "$" || v == byte "`") ≡ true → current_of T ≡ Some v →
      IsSoleTry T RawText.start_words (RawText.span_at T)
  sole-span v h e =
      record { ready = ready.spans; light = omega arith; ends = λ ok U g. g; own = search plain_constructs; reads = span-reads T v e h; alone = span-alone T v e h }

  sole-reference : current_of T ≡ Some (byte "&") → IsSoleTry T CharacterReference.start_words (reference_here T)
  sole-reference e =
      record { ready = at-rest-reference T ready.spans; light = omega arith; ends = λ ok U g. g; own = search plain_constructs; reads = only-reads T (byte "&") _ _ (reference-row T) e; alone = only-alone T (byte "&") _ _ (reference-row T) e }

  -- by the rows of the table
  pub soles : (W : Words) → EachRowPasses (IsSoleAt W T) sole_tries
  soles W = (
    each-among (λ v. IsSoleAt W T v (Some GfmAutolinkLiteralProtocolStart)) (first_letters schemes) sole-protocol,
    (
      each-among (λ v. IsSoleAt W T v (Some GfmAutolinkLiteralWwwStart)) (first_letters (www ∷ [])) sole-www,
      ((sole-span (byte "$") refl, (sole-span (byte "`") refl, tt)), ((sole-reference, tt), tt)),
    ),
  )

-- and nothing begins where neither that nor anything else is tried
pub sole-or-alone : (W : Words) (T : Tokenizer) → TextStartReady T → (v : ℕ) → current_of T ≡ Some v →
    list_any (λ n. v == n) other_markers ≡ false → SoleOrAlone W T (sole_try v)
sole-or-alone W T ready v here other =
    by-row (IsSoleAt W T) sole_tries v (soles T ready W)
    (λ h e. other-alone T v e (list_any-append (λ n. v == n) (codes_in sole_tries) other_markers ∙ or_from (list_any (λ n. v == n) (codes_in sole_tries)) (list_any (λ n. v == n) other_markers) h other))
    here

-- An autolink or HTML, and an escape or a hard break.

pub angle-row : (T : Tokenizer) →
    AreTriedAt T (byte "<") (is_on T).autolink (is_on T).html_text (autolink (rules_of T.parse_state.now.options.now)) (html_text (rules_of T.parse_state.now.options.now).slashes_in_values)
unfolding tries tried
angle-row T earlier previous = (refl, (refl, refl))

pub slash-row : (T : Tokenizer) →
    AreTriedAt T (byte "\\") (is_on T).character_escape (is_on T).hard_break_escape character_escape hard_break_escape
unfolding tries tried
slash-row T earlier previous = (refl, (refl, refl))

module _ (W : Words) (within : EqualsLayer states_and_called W) where
  -- past an element the run goes on before the next
  on-before : (n : ℕ) (T U : Tokenizer) → codes_left T * 256 < n → IsReadyWithMarkers T →
      AreStartsWithin U U.tokenize_state.label_starts → Advances (text_choice_of T) T U →
      FollowsIn W n (before_ends T) (Next TextBefore) U
  on-before n T U room r kept a =
      let e : KeepsTheRest T U = same-row a.row T U a.left a.is_row r.ends in
      let less : codes_left U < codes_left T = a.less in
      follows W n (before_ends T) (Next TextBefore) (within TextBefore) U
      (record { marked = marked-past T U e (omega (arith, less)) kept r; unchecked = no-check-past T U a })
      (omega (arith, less, room))
      (λ ok V h. advances-ends T U e a ok V h)

  -- A construct is tried: it holds and is an element, or the run goes on with another state at the same place.

  try-law : (rank : ℕ) (T : Tokenizer) (construct otherwise : StateName) {w : StateWords} → words_in W construct ≡ w →
      (reading : TreeReading) → T.attempts ≡ [] → w.ready T → weight_at (w.rank T) T < weight_at rank T → IsReadyWithMarkers T →
      EndsOf w reading T → ReadsPlain (bytes_of T) reading → ReadsElements reading T →
      (reading (ahead T) ≡ None → FollowsIn W (weight_at rank T) (before_ends T) (Next otherwise) T) →
      GoesIn W (weight_at rank T) (before_ends T) (attempt_step construct otherwise T)
  try-law rank T construct otherwise {w} say reading alone on falls ready ends own elements fails =
      Goes-attempt W (weight_at rank T) (before_ends T) (Retry construct) {w = w} say (Next TextBefore) (Next otherwise) T alone on falls
      (λ U now h.
      let k : Reads reading None T.tokenize_state T U = ends true U h in
      let node = node-of (bytes_of T) reading own (ahead T) k.tree k.rest k.holds in
      on-before (weight_at rank T) T U (omega arith) ready (tree-kept T U k.tree (k.left ∙ ap (past None k.tree) (scratched-same T)) ready.ends.within)
      (node-advances (text_choice_of T) reading T U k node.0 node.1 (elements k.tree k.rest k.holds)))
      (λ U now h.
      let k : Refuses reading T.tokenize_state T U = ends false U h in
      rw (restored-fails false (Next TextBefore) (Next otherwise) T.tokenize_state T U k.fails, scratched-same T) (fails k.refused))

  to-data : (rank : ℕ) (T : Tokenizer) (v : ℕ) → 5 < rank → TextBeforeReady T → current_of T ≡ Some v → StandsAlone T →
      FollowsIn W (weight_at rank T) (before_ends T) (Next TextBeforeData) T
  to-data rank T v l ready e alone =
      let some : current_of T ≢ None = some-none (current_of T) v e in
      follows W (weight_at rank T) (before_ends T) (Next TextBeforeData) (within TextBeforeData) T (record { marked = ready.marked; some_code = some }) (omega (arith, l)) (λ ok V h. alone-ends T ready.marked.stops some alone ok V h)

  module _ (T : Tokenizer) (alone : T.attempts ≡ []) (ready : TextBeforeReady T) where
    abbrev Before : Stepped → Type 0
    Before r = GoesIn W (weight_at 8 T) (before_ends T) r

    -- what alone is tried at the code at hand
    tries-sole : (v : ℕ) → current_of T ≡ Some v → (name : StateName) (o : Option (Tokenizer → TreeReading)) →
        SoleBy T (states_and_called (words_in W) name) o → Before (attempt_step name TextBeforeData T)
    tries-sole v e name k h = grind (arith, try-law 8 T name TextBeforeData, to-data 8 T v)

    each-sole : (rows : TriesTable StateName) → EachRowPasses (IsSoleAt W T) rows →
        EachRowPasses (λ (v : ℕ) (o : Option (StateName × StateName)). current_of T ≡ Some v → Before (tries_at o T)) (or_data rows)
    each-sole [] h = tt
    each-sole (row ∷ rows) h =
        (each-weaker (λ v. IsSoleAt W T v (Some row.1)) (λ v. current_of T ≡ Some v → Before (attempt_step row.1 TextBeforeData T)) (λ v k e. tries-sole v e row.1 (tried_reading row.1) (k e)) row.0 h.0, each-sole rows h.1)

    tries-autolink : current_of T ≡ Some (byte "<") → Before (attempt_step AutolinkStart TextBeforeHtml T)
    tries-autolink d =
        try-law 8 T AutolinkStart TextBeforeHtml (within AutolinkStart) (link_here T) alone (at-rest-reference T ready.marked.spans).size (omega arith) ready.marked (λ ok U g. g) (search plain_constructs) (first-reads T (byte "<") _ _ _ _ (angle-row T) d)
        (λ none. follows W (weight_at 8 T) (before_ends T) (Next TextBeforeHtml) (within TextBeforeHtml) T (record { before = ready; angle = d; no_autolink = none }) (omega arith) (λ ok V h. h))

    tries-escape : current_of T ≡ Some (byte "\\") →
        Before (attempt_step CharacterEscapeStart TextBeforeHardBreakEscape T)
    tries-escape d =
        try-law 8 T CharacterEscapeStart TextBeforeHardBreakEscape (within CharacterEscapeStart) (escape_here T) alone tt (omega arith) ready.marked (λ ok U g. g) (search plain_constructs) (first-reads T (byte "\\") _ _ _ _ (slash-row T) d)
        (λ none. follows W (weight_at 8 T) (before_ends T) (Next TextBeforeHardBreakEscape) (within TextBeforeHardBreakEscape) T (record { before = ready; slash = d; no_escape = none }) (omega arith) (λ ok V h. h))

    -- a run of markers, past which its pass is registered
    tries-run : (v : ℕ) → current_of T ≡ Some v → is_marker v ≡ true →
        Before (attempt_step AttentionStart TextBeforeData T)
    tries-run v e h =
        Goes-attempt W (weight_at 8 T) (before_ends T) (Retry AttentionStart) (within AttentionStart) (Next TextBefore) (Next TextBeforeData) T alone (run-ready T ready.marked.spans) (omega arith)
        (λ U now k. let r : ReadsRun T U = k in
        on-before (weight_at 8 T) T U (omega arith) ready.marked
        (registered-kept T U r.there r.reads.tree (r.reads.left ∙ ap (past None r.reads.tree) (scratched-same T)) r.left ready.marked.ends.within)
        (run-advances (text_choice_of T) (run_tree T) T U r.there r.reads r.left (run-leaf T v r.reads.tree r.reads.rest e h r.reads.holds) (run-reads T v e h r.reads.tree r.reads.rest r.reads.holds)))
        (λ U now k. let r : Refuses (run_tree T) T.tokenize_state T U = k in
        rw (restored-fails false (Next TextBefore) (Next TextBeforeData) T.tokenize_state T U r.fails, scratched-same T) (to-data 8 T v (omega arith) ready e (run-alone T v e h r.refused)))

    tries-image : current_of T ≡ Some (byte "!") → Before (attempt_step LabelStartImageStart TextBeforeData T)
    tries-image d =
        Goes-attempt W (weight_at 8 T) (before_ends T) (Retry LabelStartImageStart) (within LabelStartImageStart) (Next TextBefore) (Next TextBeforeData) T alone tt (omega arith)
        (λ U now k. let r : image_ends T true U = k in
        on-before (weight_at 8 T) T U (omega arith) ready.marked
        (subst (λ (x : Tokenizer). AreStartsWithin x x.tokenize_state.label_starts) (sym r.left) (image-within T ready.marked.ends.text ready.marked.ends.within r.holds)) (image-advances T U r))
        (λ U now k. let r : image_ends T false U = k in
        rw (restored-fails false (Next TextBefore) (Next TextBeforeData) T.tokenize_state T U (record { grown = r.grown; scratch = r.scratch }), scratched-same T) (to-data 8 T (byte "!") (omega arith) ready d (image-alone T d r.refused)))

    tries-footnote : current_of T ≡ Some (byte "[") →
        Before (attempt_step GfmLabelStartFootnoteStart TextBeforeLabelStartLink T)
    tries-footnote d =
        Goes-attempt W (weight_at 8 T) (before_ends T) (Retry GfmLabelStartFootnoteStart) (within GfmLabelStartFootnoteStart) (Next TextBefore) (Next TextBeforeLabelStartLink) T alone tt (omega arith)
        (λ U now k. let r : footnote_ends T true U = k in
        on-before (weight_at 8 T) T U (omega arith) ready.marked
        (subst (λ (x : Tokenizer). AreStartsWithin x x.tokenize_state.label_starts) (sym r.left) (footnote-within T ready.marked.ends.text ready.marked.ends.within r.holds)) (footnote-advances T U ready.unchecked r))
        (λ U now k. let r : footnote_ends T false U = k in
        rw (restored-fails false (Next TextBefore) (Next TextBeforeLabelStartLink) T.tokenize_state T U (record { grown = r.grown; scratch = r.scratch }), scratched-same T)
        (follows W (weight_at 8 T) (before_ends T) (Next TextBeforeLabelStartLink) (within TextBeforeLabelStartLink) T (record { before = ready; bracket = d; no_footnote = r.refused }) (omega arith) (λ ok V h. h)))

    -- an end that makes no label uses up its start, and its `]` begins data
    to-lost : current_of T ≡ Some (byte "]") → LabelEnd.is_on T ≡ true → LabelEnd.end_reading T (ahead T) ≡ None →
        (let F : Tokenizer = past_mark loses T in FollowsIn W (weight_at 8 T) (before_ends T) (Next TextBeforeData) F)
    to-lost d on none =
        let F : Tokenizer = past_mark loses T in
        let e : KeepsTheRest T F = same-lost T ready.marked.ends in
        follows W (weight_at 8 T) (before_ends T) (Next TextBeforeData) (within TextBeforeData) F
        (record { marked = marked-past T F e (lost-left T) (lost-within T ready.marked.ends.within) ready.marked; some_code = λ h. some-none (current_of T) (byte "]") d (sym (lost-current T) ∙ h) })
        (omega (arith, lost-left T))
        (λ ok V h. lost-ends e ok V h)
      where
        lost-ends : (let F : Tokenizer = past_mark loses T in KeepsTheRest T F → (ok : Bool) (V : Tokenizer) → data_ends F ok V → before_ends T ok V)
        lost-ends e true V k =
            let F : Tokenizer = past_mark loses T in
            let stops : List Code → Bool = stops_of T.tokenize_state in
            let there : DataFinishes (text_choice_of T) (data_up_to stops) text_passed F V =
            subst (λ c. DataFinishes c (data_up_to stops) text_passed F V) (choice-same T F e) (subst (λ stop. DataFinishes (text_choice_of F) (data_up_to stop) text_passed F V) (stops-same T F e) k) in
            advances-finishes (text_choice_of T) text_passed T there.behind V (failed-advances T d on stops there.behind (single-read (source_of T) (text_choice_of T) stops T.cursor.codes ready.marked.stops) none there.data_read) there.finishes
        lost-ends e false V k = k

    tries-end : current_of T ≡ Some (byte "]") → Before (attempt_step LabelEndStart TextBeforeData T)
    tries-end d =
        Goes-attempt W (weight_at 8 T) (before_ends T) (Retry LabelEndStart) (within LabelEndStart) (Next TextBefore) (Next TextBeforeData) T alone ready.marked.ends (omega arith)
        (λ U now k. let r : LabelEnd.Ends T U = k in
        on-before (weight_at 8 T) T U (omega arith) ready.marked (made-kept T U r ready.marked.ends.within) (made-advances T d (ends-on T U r) U r))
        (λ U now k. let r : LabelEnd.EndFails T U = k in
        subst (λ (x : Tokenizer). FollowsIn W (weight_at 8 T) (before_ends T) (Next TextBeforeData) x) (sym (restored-fails false (Next TextBefore) (Next TextBeforeData) (LabelEnd.lost_fields T) T U r.fails))
        (by_switch (LabelEnd.is_on T) refl r.refused))
      where
        by_switch : (b : Bool) → LabelEnd.is_on T ≡ b → LabelEnd.end_reading T (ahead T) ≡ None →
            FollowsIn W (weight_at 8 T) (before_ends T) (Next TextBeforeData) (scratched (LabelEnd.lost_fields T) T)
        by_switch true on none =
            subst (λ (x : Tokenizer). FollowsIn W (weight_at 8 T) (before_ends T) (Next TextBeforeData) x) (sym (lost-there T d on)) (to-lost d on none)
        by_switch false off none =
            subst (λ (x : Tokenizer). FollowsIn W (weight_at 8 T) (before_ends T) (Next TextBeforeData) x) (sym (not-lost T off)) (to-data 8 T (byte "]") (omega arith) ready d (end-alone T d off))

    tries-none : (v : ℕ) → current_of T ≡ Some v → list_any (λ n. v == n) text_markers ≡ false →
        Before (stepped (Retry TextBeforeData) T)
    tries-none v e h = grind (arith, to-data 8 T v, other-alone T v, Goes-plain W (weight_at 8 T) (before_ends T))

    -- By the rows of the table.

    abbrev IsTried : StateName → StateName → ℕ → Type 0
    IsTried construct otherwise v = current_of T ≡ Some v → Before (attempt_step construct otherwise T)

    at-runs : EachOf (IsTried AttentionStart TextBeforeData) (codes "*_~")
    at-runs = (λ e. tries-run (byte "*") e refl, (λ e. tries-run (byte "_") e refl, (λ e. tries-run (byte "~") e refl, tt)))

    tries-by-code : (v : ℕ) → current_of T ≡ Some v → Before (tries_at (first_try v) T)
    tries-by-code v =
        by-row (λ (n : ℕ) (o : Option (StateName × StateName)). current_of T ≡ Some n → Before (tries_at o T)) text_tries v
        (rows-append (λ (n : ℕ) (o : Option (StateName × StateName)). current_of T ≡ Some n → Before (tries_at o T)) (or_data sole_tries) other_tries (each-sole sole_tries (soles T (marked-ready T ready.marked) W))
        ((tries-image, tt), (at-runs, ((tries-autolink, tt), ((tries-footnote, tt), ((tries-escape, tt), ((tries-end, tt), tt)))))))
        (λ h e. tries-none v e h)

    before-goes : GoesIn W (weight_at 8 T) (before_ends T) (before_step T)
    before-goes =
        code-step Before (current_of T) (λ o. before_at o T)
        (λ e. Goes-end W (weight_at 8 T) (before_ends T) true (text_passed T) (passed-attempts T alone) (omega arith) (at-end T e))
        (λ v e. tries-by-code v e)

  pub before-law : Law W before_words
  before-law T alone ready = before-goes T alone ready

  pub before_html-law : Law W before_html_words
  before_html-law T alone r =
      try-law 6 T HtmlTextStart TextBeforeData (within HtmlTextStart) (HtmlText.html_here T) alone (html-ready T (marked-ready T r.before.marked)) (omega arith) r.before.marked (λ ok U g. g) (search plain_constructs) (second-reads T (byte "<") _ _ _ _ (angle-row T) r.angle r.no_autolink)
      (λ none. to-data 6 T (byte "<") (omega arith) r.before r.angle (second-alone T (byte "<") _ _ _ _ (angle-row T) r.angle r.no_autolink none))

  pub before_label_start_link-law : Law W before_label_start_link_words
  before_label_start_link-law T alone r =
      Goes-attempt W (weight_at 6 T) (before_ends T) (Retry LabelStartLinkStart) (within LabelStartLinkStart) (Next TextBefore) (Next TextBeforeData) T alone tt (omega arith)
      (λ U now k. let h : link_ends T true U = k in
      on-before (weight_at 6 T) T U (omega arith) r.before.marked
      (subst (λ (x : Tokenizer). AreStartsWithin x x.tokenize_state.label_starts) (sym h.left) (link-within T r.before.marked.ends.text r.before.marked.ends.within h.holds)) (link-advances T U r.before.unchecked r.no_footnote h))
      (λ U now k. let h : link_ends T false U = k in
      rw (restored-fails false (Next TextBefore) (Next TextBeforeData) T.tokenize_state T U (record { grown = h.grown; scratch = h.scratch }), scratched-same T)
      (to-data 6 T (byte "[") (omega arith) r.before r.bracket (bracket-alone T r.before.unchecked r.bracket r.no_footnote h.refused)))

  pub before_hard_break_escape-law : Law W before_hard_break_escape_words
  before_hard_break_escape-law T alone r =
      try-law 6 T HardBreakEscapeStart TextBeforeData (within HardBreakEscapeStart) (break_here T) alone tt (omega arith) r.before.marked (λ ok U g. g) (search plain_constructs) (second-reads T (byte "\\") _ _ _ _ (slash-row T) r.slash r.no_escape)
      (λ none. to-data 6 T (byte "\\") (omega arith) r.before r.slash (second-alone T (byte "\\") _ _ _ _ (slash-row T) r.slash r.no_escape none))

  pub before_data-law : Law W before_data_words
  before_data-law T alone r =
      let a = some-ahead T (ahead T) refl r.some_code in
      Goes-attempt W (weight_at 5 T) (data_ends T) (Retry DataStart) (within DataStart) (Next TextBefore) Nok T alone tt (omega arith)
      (λ U now k.
      let stops : List Code → Bool = stops_of T.tokenize_state in
      let read : Reads (data_up_to stops) None T.tokenize_state T U = k in
      let d : DataRead stops T U a.0 a.1.0 = data-read stops T U a.0 a.1.0 a.1.1 read in
      let e : KeepsTheRest T U = same-row (row_end d.tree) T U d.left d.part r.marked.ends in
      let kept : AreStartsWithin U U.tokenize_state.label_starts = subst (λ (x : Tokenizer). AreStartsWithin x x.tokenize_state.label_starts) (sym d.left) (tree-within d.tree T r.marked.ends.within) in
      let less : codes_left U < codes_left T = d.less in
      follows W (weight_at 5 T) (data_ends T) (Next TextBefore) (within TextBefore) U
      (record {
        marked = marked-past T U e (omega (arith, less)) kept r.marked;
        unchecked = no-check-behind (leaf_codes d.tree) T U (ap (λ (x : Tokenizer). x.cursor) d.left ∙ row-cursor (kinds_of T) (row_end d.tree) T d.part) d.whole less;
      })
      (omega (arith, less))
      (λ ok V h. data-then T U e read ok V h))
      (λ U now k. absurd (data-holds (stops_of T.tokenize_state) (ahead T) k.refused))
    where
      data-then : (T U : Tokenizer) → KeepsTheRest T U →
          Reads (data_up_to (stops_of T.tokenize_state)) None T.tokenize_state T U → (ok : Bool) (V : Tokenizer) →
          before_ends U ok V → data_ends T ok V
      data-then T U e read true V h =
          record { behind = U; data_read = read; finishes = subst (λ c. Finishes c text_passed U V) (choice-same T U e) h }
      data-then T U e read false V h = h

  pub start-law : Law W start_words
  start-law T alone r =
      let M : Tokenizer = text_marked T in
      let s : TokenizeState = marked_fields T.cursor T.parse_state.now T.tokenize_state in
      let marked : IsReadyWithMarkers M = marked-start T r in
      subst (λ n. GoesIn W n (before_ends M) (start_step T)) (weight-marked T)
      (try-law 9 M GfmTaskListItemCheckStart TextBefore (within GfmTaskListItemCheckStart) (GfmTaskListItemCheck.check_here M) (attempts-scratched s T ∙ alone) marked.look (omega arith) marked (λ ok U g. g)
      (search plain_constructs) (check-elements M (current_of M) refl)
      (λ none. follows W (weight_at 9 M) (before_ends M) (Next TextBefore) (within TextBefore) M (record { marked = marked; unchecked = none }) (omega arith) (λ ok V h. h)))

-- of these states, and of any other as it is given
pub laws : (W : Words) → EqualsLayer states_and_called W → (t : StateName → StateWords) → AreLawful W t →
    AreLawful W (states t)
laws W within t other H.TextStart = start-law W within
laws W within t other H.TextBefore = before-law W within
laws W within t other H.TextBeforeHtml = before_html-law W within
laws W within t other H.TextBeforeHardBreakEscape = before_hard_break_escape-law W within
laws W within t other H.TextBeforeLabelStartLink = before_label_start_link-law W within
laws W within t other H.TextBeforeData = before_data-law W within
laws W within t other s = other s
