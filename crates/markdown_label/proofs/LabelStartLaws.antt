-- The laws of the states of the starts of labels.
use Rattle.std.proofs.Common.{◌≡◌, ℕ, ◌+◌, ◌<◌, ◌≤◌, ◌==◌, Bool, true, false, ◌&&◌, not, Option, Some, None, List, [], ◌++◌, length, drop, refl, sym, ap, subst, ◌∙◌, arith}
use Rattle.std.proofs.lemmas.Bool.{false≢true, true≢false}
use Rattle.std.proofs.Math.Bool.{and-false}
use Rattle.markdown_content.specs.Codes.{Code}
use Rattle.markdown_engine.specs.FailedRun.{Grown}
use Rattle.markdown_content.specs.ListFunctions.{rest_of}
use Rattle.markdown_engine.specs.Operations.{Op, ahead, current_of, done, moves, stays}
use Rattle.markdown_engine.specs.StateRuns.{Stepped, stepped}
use Rattle.markdown_engine.specs.StateWords.{StateWords, Words, words_in, Law, GoesIn}
use Rattle.markdown_engine.specs.Weights.{weight_at}
use Rattle.markdown_event.specs.declared.resolve.ResolveName.TheVariants as R
use Rattle.markdown_event.specs.declared.state.State.TheVariants.{Next, Ok, Nok}
use Rattle.markdown_event.specs.declared.state.StateName.{StateName}
use Rattle.markdown_event.specs.declared.state.StateName.TheVariants as H
use Rattle.markdown_event.specs.declared.state.StateName.TheVariants.{GfmLabelStartFootnoteOpen, LabelStartImageOpen, LabelStartImageAfter}
use Rattle.markdown_content.specs.declared.label_kind.LabelKind.{LabelKind}
use Rattle.markdown_engine.specs.declared.tokenizer.Tokenizer.{Tokenizer}
use Rattle.markdown_engine.proofs.LawSteps.{Grown-refl, if-step, code-step}
use Rattle.markdown_engine.proofs.OperationFields.{attempts-scratched, some-codes}
use Rattle.markdown_engine.proofs.OperationLemmas.{ahead-done, attempts-done, left-done, scratch-done, input-done}
use Rattle.markdown_engine.proofs.TreeEvents.{done-append}
use Rattle.markdown_plan.specs.Plan.{depth_after}
use Rattle.markdown_plan.specs.LayerEquation.{EqualsLayer, AreLawful}
use Rattle.markdown_plan.proofs.PlanSteps.{Grown-after}
use Rattle.markdown_plan.proofs.LawStepsOfLayer.{Goes-end, Goes-ops}
use Rattle.markdown_model.specs.CodeTests.{is_value, next_is}
use Rattle.markdown_label.specs.LabelStarts.{kept_start, link_ops, links_on, link_at, footnote_front, footnote_back, footnotes_on, footnote_at, footnote_open_at, image_front, image_back, images_on, image_at, image_open_at, is_caret, begins_as, link_test, link_ends, footnote_open_test}
use Rattle.markdown_label.specs.LabelStarts.{footnote_open_ends, footnote_test, footnote_ends, image_after_test, image_after_ends, image_open_test, image_open_ends, image_test, image_ends, states, link_words, footnote_words, footnote_open_words, image_words, image_open_words, image_after_words}
use Rattle.markdown_label.proofs.LabelEndLemmas.{attempts-before}
use Rattle.markdown_label.proofs.LabelStartOps.{footnote-open-ready, image-open-ready, image-after-ready}
use Rattle.markdown_label.proofs.NextCodeTests.{at-value, at-none}

attempts-kept : (kind : LabelKind) (size : ℕ) (T : Tokenizer) → T.attempts ≡ [] → (kept_start kind size T).attempts ≡ []
attempts-kept kind size T alone = attempts-before R.Label _ ∙ attempts-scratched _ T ∙ alone

-- tests on the codes ahead go on past operations
begins-then : (d : ℕ) (kind : LabelKind) (size : ℕ) (os ps : List Op) (p q : List Code → Bool) (T : Tokenizer) →
    stays d os ≡ true → p (ahead T) ≡ q (ahead (done os T)) → (ok : Bool) (U : Tokenizer) →
    begins_as (depth_after d os) kind size ps q (done os T) ok U → begins_as d kind size (os ++ ps) p T ok U
begins-then d kind size os ps p q T st e true U k =
    record { holds = e ∙ k.holds; left = k.left ∙ ap (kept_start kind size) (sym (done-append os ps T)) }
begins-then d kind size os ps p q T st e false U k =
    record { refused = e ∙ k.refused; grown = Grown-after d os T U st k.grown; scratch = k.scratch ∙ scratch-done os T }

module _ (W : Words) where
  -- it does not hold
  goes-not : (n d : ℕ) (kind : LabelKind) (size : ℕ) (os : List Op) (p : List Code → Bool) (T : Tokenizer) →
      T.attempts ≡ [] → 0 < n → p (ahead T) ≡ false → GoesIn W n (begins_as d kind size os p T) (stepped Nok T)
  goes-not n d kind size os p T alone some e = Goes-end W n (begins_as d kind size os p T) false T alone some fails
    where
      fails : (ok : Bool) (U : Tokenizer) → (ok ≡ false) × (U ≡ T) → begins_as d kind size os p T ok U
      fails true U h = absurd (true≢false h.0)
      fails false U h =
          record { refused = e; grown = subst (λ (x : Tokenizer). Grown d T x) (sym h.1) (Grown-refl d T); scratch = ap (λ (x : Tokenizer). x.tokenize_state) h.1 }

  -- it holds
  goes-kept : (n d : ℕ) (kind : LabelKind) (size : ℕ) (os : List Op) (p : List Code → Bool) (T : Tokenizer) →
      T.attempts ≡ [] → 0 < n → p (ahead T) ≡ true →
      GoesIn W n (begins_as d kind size os p T) (stepped Ok (kept_start kind size (done os T)))
  goes-kept n d kind size os p T alone some e = Goes-end W n (begins_as d kind size os p T) true (kept_start kind size (done os T)) (attempts-kept kind size (done os T) (attempts-done os T ∙ alone)) some holds
    where
      holds : (ok : Bool) (U : Tokenizer) → (ok ≡ true) × (U ≡ kept_start kind size (done os T)) →
          begins_as d kind size os p T ok U
      holds true U h = record { holds = e; left = h.1 }
      holds false U h = absurd (false≢true h.0)

  -- on with a state
  goes-next : (k d : ℕ) (kind : LabelKind) (size : ℕ) (os ps : List Op) (p q : List Code → Bool) (T : Tokenizer) (st : StateName) {w : StateWords} → words_in W st ≡ w → T.attempts ≡ [] → stays d os ≡ true → moves os ≡ 1 → 1 ≤ length (ahead T) → w.rank (done os T) < 256 + k → w.ready (done os T) → p (ahead T) ≡ q (ahead (done os T)) → ((ok : Bool) (U : Tokenizer) → w.ends (done os T) ok U → begins_as (depth_after d os) kind size ps q (done os T) ok U)
      → GoesIn W (weight_at k T) (begins_as d kind size (os ++ ps) p T) (stepped (Next st) (done os T))
  goes-next k d kind size os ps p q T st {w} say alone stay one some less on e closed =
      Goes-ops W (weight_at k T) (begins_as d kind size (os ++ ps) p T) (Next st) {w = w} say os T alone on (omega (arith, left-done os T (omega (arith, one, some)), one, less)) (λ ok U x. begins-then d kind size os ps p q T stay e ok U (closed ok U x))

and-both : (a b : Bool) → a && b ≡ true → (c : Bool) → (a && b) && c ≡ c
and-both a b e c = ap (λ x. x && c) e

and-not : (a b : Bool) → a && b ≡ false → (c : Bool) → (a && b) && c ≡ false
and-not a b e c = ap (λ x. x && c) e

-- one code further
ahead-one : (os : List Op) (T : Tokenizer) → moves os ≡ 1 → ahead (done os T) ≡ rest_of (ahead T)
ahead-one os T e = ahead-done os T ∙ ap (λ n. drop n (ahead T)) e

footnotes-done : (os : List Op) (T : Tokenizer) → footnotes_on (done os T) ≡ footnotes_on T
footnotes-done os T = ap (λ p. p.now.options.now.constructs.gfm_label_start_footnote) (input-done os T)

caret-is : (T : Tokenizer) (o : Option ℕ) → current_of T ≡ o → is_caret o ≡ next_is (is_value 94) (ahead T)
caret-is T None e = sym (at-none T 94 e)
caret-is T (Some c) e = sym (at-value T c 94 (c == 94) e refl)

module _ (W : Words) (within : EqualsLayer states W) where
  pub link-law : Law W link_words
  link-law T alone _ =
      let P : Stepped → Type 0 = GoesIn W (weight_at 1 T) (link_ends T) in
      code-step P (current_of T) (λ o. link_at o T)
      (λ e. goes-not W (weight_at 1 T) 0 LabelKind.Link 4 link_ops (link_test T) T alone (omega arith) (ap (λ b. links_on T && b) (at-none T 91 e) ∙ and-false (links_on T)))
      (λ c e. let same : link_test T (ahead T) ≡ (links_on T && (c == 91)) = ap (λ b. links_on T && b) (at-value T c 91 (c == 91) e refl) in
      if-step P (links_on T && (c == 91)) _ _
      (λ h. goes-kept W (weight_at 1 T) 0 LabelKind.Link 4 link_ops (link_test T) T alone (omega arith) (same ∙ h))
      (λ h. goes-not W (weight_at 1 T) 0 LabelKind.Link 4 link_ops (link_test T) T alone (omega arith) (same ∙ h)))

  pub footnote_open-law : Law W footnote_open_words
  footnote_open-law T alone _ =
      let P : Stepped → Type 0 = GoesIn W (weight_at 1 T) (footnote_open_ends T) in
      code-step P (current_of T) (λ o. footnote_open_at o T)
      (λ e. goes-not W (weight_at 1 T) 1 LabelKind.GfmFootnote 6 footnote_back footnote_open_test T alone (omega arith) (at-none T 94 e))
      (λ c e. if-step P (c == 94) _ _
      (λ h. goes-kept W (weight_at 1 T) 1 LabelKind.GfmFootnote 6 footnote_back footnote_open_test T alone (omega arith) (at-value T c 94 true e h))
      (λ h. goes-not W (weight_at 1 T) 1 LabelKind.GfmFootnote 6 footnote_back footnote_open_test T alone (omega arith) (at-value T c 94 false e h)))

  pub footnote-law : Law W footnote_words
  footnote-law T alone _ =
      let n : ℕ = weight_at 2 T in
      let os : List Op = footnote_front ++ footnote_back in
      let P : Stepped → Type 0 = GoesIn W n (footnote_ends T) in
      let after : Bool = footnote_open_test (rest_of (ahead T)) in
      code-step P (current_of T) (λ o. footnote_at o T)
      (λ e. goes-not W n 0 LabelKind.GfmFootnote 6 os (footnote_test T) T alone (omega arith) (and-not (footnotes_on T) _ (ap (λ b. footnotes_on T && b) (at-none T 91 e) ∙ and-false (footnotes_on T)) after))
      (λ c e. let same : (footnotes_on T && next_is (is_value 91) (ahead T)) ≡ (footnotes_on T && (c == 91)) = ap (λ b. footnotes_on T && b) (at-value T c 91 (c == 91) e refl) in
      if-step P (footnotes_on T && (c == 91)) _ _
      (λ h. goes-next W 2 0 LabelKind.GfmFootnote 6 footnote_front footnote_back (footnote_test T) footnote_open_test T GfmLabelStartFootnoteOpen (within GfmLabelStartFootnoteOpen) alone refl refl (some-codes T c e) (omega arith) (footnote-open-ready T)
      (and-both (footnotes_on T) _ (same ∙ h) after ∙ ap footnote_open_test (sym (ahead-one footnote_front T refl)))
      (λ ok U x. x))
      (λ h. goes-not W n 0 LabelKind.GfmFootnote 6 os (footnote_test T) T alone (omega arith) (and-not (footnotes_on T) _ (same ∙ h) after)))

  pub image_after-law : Law W image_after_words
  image_after-law T alone _ =
      let same : image_after_test T (ahead T) ≡ not (footnotes_on T && is_caret (current_of T)) = ap (λ b. not (footnotes_on T && b)) (sym (caret-is T (current_of T) refl)) in
      if-step (GoesIn W (weight_at 1 T) (image_after_ends T)) (footnotes_on T && is_caret (current_of T)) _ _
      (λ h. goes-not W (weight_at 1 T) 0 LabelKind.Image 6 [] (image_after_test T) T alone (omega arith) (same ∙ ap not h))
      (λ h. goes-kept W (weight_at 1 T) 0 LabelKind.Image 6 [] (image_after_test T) T alone (omega arith) (same ∙ ap not h))

  after-same : (T : Tokenizer) →
      image_after_test T (rest_of (ahead T)) ≡ image_after_test (done image_back T) (ahead (done image_back T))
  after-same T =
      let a = sym (ahead-one image_back T refl) in let f = sym (footnotes-done image_back T) in (λ i. not (f i && next_is (is_value 94) (a i)))

  pub image_open-law : Law W image_open_words
  image_open-law T alone k =
      let n : ℕ = weight_at 1 T in
      let P : Stepped → Type 0 = GoesIn W n (image_open_ends T) in
      let after : Bool = image_after_test T (rest_of (ahead T)) in
      code-step P (current_of T) (λ o. image_open_at o T)
      (λ e. goes-not W n 1 LabelKind.Image 6 image_back (image_open_test T) T alone (omega arith) (ap (λ b. b && after) (at-none T 91 e)))
      (λ c e. if-step P (c == 91) _ _
      (λ h. goes-next W 1 1 LabelKind.Image 6 image_back [] (image_open_test T) (image_after_test (done image_back T)) T LabelStartImageAfter (within LabelStartImageAfter) alone refl refl (some-codes T c e) (omega arith) (image-after-ready T k)
      (ap (λ b. b && after) (at-value T c 91 true e h) ∙ after-same T)
      (λ ok U x. x))
      (λ h. goes-not W n 1 LabelKind.Image 6 image_back (image_open_test T) T alone (omega arith) (ap (λ b. b && after) (at-value T c 91 false e h))))

  pub image-law : Law W image_words
  image-law T alone _ =
      let n : ℕ = weight_at 2 T in
      let os : List Op = image_front ++ image_back in
      let P : Stepped → Type 0 = GoesIn W n (image_ends T) in
      let after : Bool = image_open_test T (rest_of (ahead T)) in
      code-step P (current_of T) (λ o. image_at o T)
      (λ e. goes-not W n 0 LabelKind.Image 6 os (image_test T) T alone (omega arith) (and-not (images_on T) _ (ap (λ b. images_on T && b) (at-none T 33 e) ∙ and-false (images_on T)) after))
      (λ c e. let same : (images_on T && next_is (is_value 33) (ahead T)) ≡ (images_on T && (c == 33)) = ap (λ b. images_on T && b) (at-value T c 33 (c == 33) e refl) in
      if-step P (images_on T && (c == 33)) _ _
      (λ h. goes-next W 2 0 LabelKind.Image 6 image_front image_back (image_test T) (image_open_test (done image_front T)) T LabelStartImageOpen (within LabelStartImageOpen) alone refl refl (some-codes T c e) (omega arith) (image-open-ready T)
      (and-both (images_on T) _ (same ∙ h) after ∙ open-same T)
      (λ ok U x. x))
      (λ h. goes-not W n 0 LabelKind.Image 6 os (image_test T) T alone (omega arith) (and-not (images_on T) _ (same ∙ h) after)))
    where
      open-same : (T : Tokenizer) →
          image_open_test T (rest_of (ahead T)) ≡ image_open_test (done image_front T) (ahead (done image_front T))
      open-same T =
          let a = sym (ahead-one image_front T refl) in let f = sym (footnotes-done image_front T) in (λ i. next_is (is_value 91) (a i) && not (f i && next_is (is_value 94) (rest_of (a i))))

-- of these states, and of any other as it is given
pub laws : (W : Words) → EqualsLayer states W → (t : StateName → StateWords) → AreLawful W t → AreLawful W (states t)
laws W within t other H.GfmLabelStartFootnoteOpen = footnote_open-law W within
laws W within t other H.LabelStartImageOpen = image_open-law W within
laws W within t other H.LabelStartImageAfter = image_after-law W within
laws W within t other H.GfmLabelStartFootnoteStart = footnote-law W within
laws W within t other H.LabelStartImageStart = image-law W within
laws W within t other H.LabelStartLinkStart = link-law W within
laws W within t other s = other s
