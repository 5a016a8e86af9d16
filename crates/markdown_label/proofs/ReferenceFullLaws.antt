-- The laws of the states of a full reference.
use Rattle.std.proofs.Common.{◌≡◌, ℕ, ◌+◌, Bool, true, false, if◌then◌else◌, Some, None, List, [], ◌∷◌, ◌++◌, length, nat_lt, refl, sym, ap, subst, ◌∙◌, arith, append_assoc}
use Rattle.std.proofs.lemmas.Bool.{true≢false}
use Rattle.std.proofs.Math.Bool.{and-true, and-false}
use Rattle.std.specs.Prelude.{◌&&◌, is_some, IsUtf8}
use Rattle.std.specs.Str.{IsCharBoundary}
use Rattle.markdown_content.specs.Codes.{Code, stop_of, document_start}
use Rattle.markdown_content.specs.PlaceInDocument.{IsPlaceOf}
use Rattle.markdown_engine.specs.FailedRun.{Fails}
use Rattle.markdown_engine.specs.Operations.{ahead, scratched}
use Rattle.markdown_engine.specs.PastTree.{Reads, EndsAs, moved_by, past}
use Rattle.markdown_engine.specs.StateWords.{Words, Law, GoesIn}
use Rattle.markdown_content.specs.Tree.{Forest, leaf_codes}
use Rattle.markdown_engine.specs.Weights.{codes_left, weight_at}
use Rattle.markdown_event.specs.declared.state.State.TheVariants.{Next, Retry}
use Rattle.markdown_event.specs.declared.state.StateName.TheVariants.{LabelEndReferenceFullAfter, LabelEndReferenceFullMissing, LabelStart}
use Rattle.markdown_engine.specs.declared.tokenizer.TokenizeState.{TokenizeState}
use Rattle.markdown_engine.specs.declared.tokenizer.Tokenizer.{Tokenizer}
use Rattle.markdown_engine.proofs.ReadingSequences.{left-read, scratched-same}
use Rattle.markdown_engine.proofs.LawSteps.{Grown-refl, if-step, restored-fails}
use Rattle.markdown_engine.proofs.OperationFields.{attempts-scratched, left-scratched}
use Rattle.markdown_engine.proofs.TreeEvents.{Fails-past}
use Rattle.markdown_plan.specs.LayerEquation.{EqualsLayer}
use Rattle.markdown_plan.specs.Characters.{bytes_of, later_value}
use Rattle.markdown_plan.proofs.LawStepsOfLayer.{FollowsIn, follows, Goes-attempt, Goes-end}
use Rattle.markdown_plan.proofs.ContentCharacters.{text-past}
use Rattle.markdown_plan.proofs.CharacterPlaces.{text-places}
use Rattle.markdown_model.specs.Grammar.{gives}
use Rattle.markdown_model.specs.LabelEnd.{full_reference, reference_identifier}
use Rattle.markdown_model.specs.Resource.{label, reference_names}
use Rattle.markdown_model.specs.Setting.{Setting, defines, rules, within}
use Rattle.markdown_model.proofs.NoLinkInConstructs.{PassesValue}
use Rattle.markdown_model.proofs.GrammarSteps.{bind-some, bind-none, switched-on, switched-off}
use Rattle.markdown_partial.specs.LinkedText.{rules_in}
use Rattle.markdown_partial.specs.PartialLabel as PartialLabel
use Rattle.markdown_label.specs.LabelEnd.{names_set, label_seen, label_matters, reference_name, ReferenceIsAround, FullReady, FullFails, reference_full_ends, reference_full_after_ends, reference_full_missing_ends, states_and_called, reference_full_words, reference_full_after_words, reference_full_missing_words}
use Rattle.markdown_label.specs.AfterLabelParts.{names_rested, rested, PartReady}
use Rattle.markdown_label_names.specs.LabelSetting.{setting_in, setting_of, IsListed}
use Rattle.markdown_label.proofs.NextCodeTests.{same-codes}
use Rattle.markdown_label.proofs.ReferenceFullText.{reference-around}
use Rattle.markdown_label.proofs.ReferenceFullPlaces.{HasText, label-text}
use Rattle.markdown_label.proofs.ReferenceFullTree.{IsReferenceGroup, label-shape, name-there}

-- The scratch fields.

names-back : (s : TokenizeState) → rested s ≡ s → names_rested (names_set s) ≡ s
names-back s e = ap names_rested (sym e) ∙ e

seen-rest : (s : TokenizeState) → rested s ≡ s → label_seen false s ≡ s
seen-rest s e = ap (label_seen false) (sym e) ∙ e

label-rest : (s : TokenizeState) → rested s ≡ s → PartialLabel.rested (names_set s) ≡ names_set s
label-rest s e = ap (λ q. PartialLabel.rested (names_set q)) (sym e) ∙ ap names_set e

label-ready : (T : Tokenizer) → PartReady T → PartialLabel.LabelStartReady (scratched (names_set T.tokenize_state) T)
unfolding scratched
label-ready T k =
    record {
      text = record { short = k.short; resting = record { space = ap names_set k.spaces.space; eol = ap names_set k.spaces.eol } };
      rest = label-rest T.tokenize_state k.rest;
    }

shape-of : (characters : Bool) (cs : List Code) (t : Forest) (rest : List Code) → label characters reference_names cs ≡ Some (t, rest) → IsReferenceGroup t
shape-of characters cs t rest e = subst (λ o. PassesValue IsReferenceGroup o) e ((label-shape characters).at cs)

-- What is read.

full-defined : (s : Setting) (cs : List Code) (t : Forest) (rest : List Code) →
    label (rules s).labels_by_characters reference_names cs ≡ Some (t, rest) → defines s (reference_identifier s t) ≡ true →
    full_reference s cs ≡ Some (t, rest)
unfolding full_reference gives
full-defined s cs t rest e h = bind-some (label (rules s).labels_by_characters reference_names) _ cs t rest _ e (switched-on (gives t) _ rest h)

full-undefined : (s : Setting) (cs : List Code) (t : Forest) (rest : List Code) →
    label (rules s).labels_by_characters reference_names cs ≡ Some (t, rest) → defines s (reference_identifier s t) ≡ false →
    full_reference s cs ≡ None
unfolding full_reference gives
full-undefined s cs t rest e h = bind-some (label (rules s).labels_by_characters reference_names) _ cs t rest _ e (switched-off (gives t) _ rest h)

full-missing : (s : Setting) (cs : List Code) → label (rules s).labels_by_characters reference_names cs ≡ None → full_reference s cs ≡ None
unfolding full_reference
full-missing s cs e = bind-none (label (rules s).labels_by_characters reference_names) _ cs e

-- the label as it is read with the names set
LabelRead : Tokenizer → Tokenizer → Type 0
LabelRead T U =
    Reads (label (rules_in T).labels_by_characters reference_names) None (names_set T.tokenize_state) (scratched (names_set T.tokenize_state) T) U

label-read : (T U : Tokenizer) → PartialLabel.start_ends (scratched (names_set T.tokenize_state) T) true U →
    Reads (label (rules_in T).labels_by_characters reference_names) None (names_set T.tokenize_state) (scratched (names_set T.tokenize_state) T) U
unfolding scratched
label-read T U k = k

label-refused : (T U : Tokenizer) → PartialLabel.start_ends (scratched (names_set T.tokenize_state) T) false U →
    (label (rules_in T).labels_by_characters reference_names (ahead T) ≡ None) × Fails (names_set T.tokenize_state) (scratched (names_set T.tokenize_state) T) U
unfolding scratched
label-refused T U k = (k.refused, k.fails)

-- past the label, with the names put to rest
past-back : (t : Forest) (T U : Tokenizer) (b : Bool) → rested T.tokenize_state ≡ T.tokenize_state →
    U ≡ past None t (scratched (names_set T.tokenize_state) (scratched (names_set T.tokenize_state) T)) →
    (V : Tokenizer) → V ≡ scratched (label_seen b (names_rested U.tokenize_state)) U →
    V ≡ past None t (scratched (label_seen b T.tokenize_state) T)
unfolding past scratched
past-back t T U b rest left V e =
    e
    ∙ ap (λ (x : Tokenizer). scratched (label_seen b (names_rested x.tokenize_state)) x) left
    ∙ ap (λ q. past None t (scratched (label_seen b q) T)) (names-back T.tokenize_state rest)

kept-back : (t : Forest) (T U : Tokenizer) → rested T.tokenize_state ≡ T.tokenize_state →
    U ≡ past None t (scratched (names_set T.tokenize_state) (scratched (names_set T.tokenize_state) T)) →
    (V : Tokenizer) → V ≡ scratched (names_rested U.tokenize_state) U → V ≡ past None t (scratched T.tokenize_state T)
unfolding past scratched
kept-back t T U rest left V e =
    e
    ∙ ap (λ (x : Tokenizer). scratched (names_rested x.tokenize_state) x) left
    ∙ ap (λ q. past None t (scratched q T)) (names-back T.tokenize_state rest)

name-is : (t : Forest) (T U : Tokenizer) → IsReferenceGroup t → length T.events ≡ T.tokenize_state.end + 4 →
    U ≡ past None t (scratched (names_set T.tokenize_state) (scratched (names_set T.tokenize_state) T)) →
    reference_name U ≡ reference_identifier (setting_in T) t
unfolding past scratched
name-is t T U k end left =
    let there : Setting = within (moved_by (leaf_codes t) T.cursor).codes (setting_of T.parse_state.now) in
    ap reference_name left
    ∙ name-there there T.events t (T.tokenize_state.end + 7) _ k (omega (arith, end)) refl
    ∙ ap (λ cs. reference_identifier (within cs (setting_of T.parse_state.now)) t) (same-codes (leaf_codes t) T.cursor)

setting-past : (t : Forest) (T U : Tokenizer) →
    U ≡ past None t (scratched (names_set T.tokenize_state) (scratched (names_set T.tokenize_state) T)) →
    setting_in U ≡ setting_in T
unfolding past scratched
setting-past t T U left =
    ap setting_in left ∙ ap (λ cs. within cs (setting_of T.parse_state.now)) (same-codes (leaf_codes t) T.cursor)

matters-past : (t : Forest) (T U : Tokenizer) →
    U ≡ past None t (scratched (names_set T.tokenize_state) (scratched (names_set T.tokenize_state) T)) →
    label_matters U ≡ label_matters T
unfolding past scratched
matters-past t T U left = ap label_matters left

as-label : (T U : Tokenizer) →
    Reads (label (rules_in T).labels_by_characters reference_names) None (names_set T.tokenize_state) (scratched (names_set T.tokenize_state) T) U →
    LabelRead T U
unfolding LabelRead
as-label T U k = k

-- what stands between its brackets is whole characters
text-around : (T U : Tokenizer) → FullReady T →
    (r : Reads (label (rules_in T).labels_by_characters reference_names) None (names_set T.tokenize_state) (scratched (names_set T.tokenize_state) T) U) →
    ReferenceIsAround U
unfolding past scratched
text-around T U f r =
    let k : HasText r.tree = subst (λ o. PassesValue HasText o) r.holds ((label-text (rules_in T).labels_by_characters).at (ahead T)) in
    let codes : ahead T ≡ k.c ∷ k.x ∷ (k.xs ++ k.d ∷ r.rest) = r.whole ∙ ap (λ cs. cs ++ r.rest) k.whole ∙ ap (λ cs. k.c ∷ k.x ∷ cs) (append_assoc k.xs (k.d ∷ []) r.rest) in
    let places = text-places (bytes_of T) T.cursor k.c k.x k.xs k.d r.rest f.text codes (ap (λ v. nat_lt v 128) k.opens) (ap later_value k.closes) in
    let same : bytes_of U ≡ bytes_of T = ap bytes_of r.left in
    reference-around T U r.tree k (subst IsListed (sym r.left) f.listed) (subst IsUtf8 (sym same) f.text.text) (subst (λ (x : Tokenizer). IsPlaceOf (bytes_of x) x.cursor) (sym r.left) (text-past None r.tree T.tokenize_state T f.text).own) (ap (λ (x : Tokenizer). x.events) r.left) (f.end ∙ ap (λ (x : Tokenizer). x.tokenize_state.end + 4) (sym r.left))
    (subst (λ bs. IsCharBoundary bs k.x.start.index) (sym same) places.0)
    (subst (λ bs. IsCharBoundary bs (stop_of document_start (k.x ∷ k.xs)).index) (sym same) places.1)

whole-read : (T U V : Tokenizer) → FullReady T →
    (r : Reads (label (rules_in T).labels_by_characters reference_names) None (names_set T.tokenize_state) (scratched (names_set T.tokenize_state) T) U) →
    defines (setting_in T) (reference_identifier (setting_in T) r.tree) ≡ true →
    V ≡ scratched (names_rested U.tokenize_state) U →
    EndsAs (full_reference (setting_in T)) None T.tokenize_state T true V
unfolding scratched
whole-read T U V k r found e =
    record {
      tree = r.tree;
      rest = r.rest;
      holds = full-defined (setting_in T) (ahead T) r.tree r.rest r.holds found;
      left = kept-back r.tree T U k.part.rest r.left V e;
      whole = r.whole;
      after = ap ahead e ∙ r.after;
    }

whole-refused : (T U V : Tokenizer) → FullReady T →
    (r : Reads (label (rules_in T).labels_by_characters reference_names) None (names_set T.tokenize_state) (scratched (names_set T.tokenize_state) T) U) →
    defines (setting_in T) (reference_identifier (setting_in T) r.tree) ≡ false →
    V ≡ scratched (label_seen (label_matters U) (names_rested U.tokenize_state)) U → FullFails T V
unfolding scratched
whole-refused T U V k r found e =
    let m : Bool = label_matters T in
    let left : V ≡ scratched (label_seen m (names_rested U.tokenize_state)) U = subst (λ b. V ≡ scratched (label_seen b (names_rested U.tokenize_state)) U) (matters-past r.tree T U r.left) e in
    record {
      refused = full-undefined (setting_in T) (ahead T) r.tree r.rest r.holds found;
      fails = subst (λ b. Fails (label_seen b T.tokenize_state) T V) (sym (ap (λ o. m && is_some o) r.holds ∙ and-true m)) (Fails-past None r.tree (label_seen m T.tokenize_state) T V (past-back r.tree T U m k.part.rest r.left V left));
    }

-- no label stands there
none-there : (T V : Tokenizer) → FullReady T → label (rules_in T).labels_by_characters reference_names (ahead T) ≡ None →
    V ≡ scratched (names_rested (names_set T.tokenize_state)) T → FullFails T V
none-there T V k none e =
    let same : V ≡ T = e ∙ ap (λ q. scratched q T) (names-back T.tokenize_state k.part.rest) ∙ scratched-same T in
    record {
      refused = full-missing (setting_in T) (ahead T) none;
      fails = subst (λ s. Fails s T V) (sym (ap (λ o. label_seen (label_matters T && is_some o) T.tokenize_state) none ∙ ap (λ b. label_seen b T.tokenize_state) (and-false (label_matters T)) ∙ seen-rest T.tokenize_state k.part.rest)) (subst (λ x. Fails T.tokenize_state T x) (sym same) (record { grown = Grown-refl 0 T; scratch = refl }));
    }

missing-ends : (T : Tokenizer) → FullReady T → label (rules_in T).labels_by_characters reference_names (ahead T) ≡ None → (ok : Bool) (V : Tokenizer) →
    reference_full_missing_ends (scratched (names_set T.tokenize_state) (scratched (names_set T.tokenize_state) T)) ok V →
    reference_full_ends T ok V
unfolding scratched
missing-ends T k none true V h = absurd (true≢false h.0)
missing-ends T k none false V h = none-there T V k none h.1

module _ (W : Words) (within : EqualsLayer states_and_called W) where
  pub reference_full_missing-law : Law W reference_full_missing_words
  reference_full_missing-law T alone _ =
      Goes-end W (weight_at 1 T) (reference_full_missing_ends T) false (scratched (names_rested T.tokenize_state) T) (attempts-scratched _ T ∙ alone) (omega arith) (λ ok U h. h)

  pub reference_full_after-law : Law W reference_full_after_words
  reference_full_after-law T alone _ =
      let n : ℕ = weight_at 1 T in
      let s : TokenizeState = names_rested T.tokenize_state in
      let b : Bool = defines (setting_in T) (reference_name T) in
      let left : Bool → Tokenizer = λ ok. scratched (if ok then s else label_seen (label_matters T) s) T in
      if-step (GoesIn W n (reference_full_after_ends T)) b _ _
      (λ h. Goes-end W n (reference_full_after_ends T) true (scratched s T) (attempts-scratched _ T ∙ alone) (omega arith) (λ ok U x. (x.0 ∙ sym h, x.1 ∙ ap left (sym x.0))))
      (λ h. Goes-end W n (reference_full_after_ends T) false (scratched (label_seen (label_matters T) s) T) (attempts-scratched _ T ∙ alone) (omega arith) (λ ok U x. (x.0 ∙ sym h, x.1 ∙ ap left (sym x.0))))

  -- behind a label
  defined-ends : (T U : Tokenizer) → FullReady T → LabelRead T U → (ok : Bool) (V : Tokenizer) →
      reference_full_after_ends U ok V → reference_full_ends T ok V
  unfolding LabelRead
  defined-ends T U k r true V h =
      let found : defines (setting_in T) (reference_identifier (setting_in T) r.tree) ≡ true =
      sym (h.0 ∙ (λ i. defines (setting-past r.tree T U r.left i) (name-is r.tree T U (shape-of _ _ r.tree r.rest r.holds) k.end r.left i))) in
      whole-read T U V k r found h.1
  defined-ends T U k r false V h =
      let found : defines (setting_in T) (reference_identifier (setting_in T) r.tree) ≡ false =
      sym (h.0 ∙ (λ i. defines (setting-past r.tree T U r.left i) (name-is r.tree T U (shape-of _ _ r.tree r.rest r.holds) k.end r.left i))) in
      whole-refused T U V k r found h.1

  missing-goes : (T : Tokenizer) → FullReady T → label (rules_in T).labels_by_characters reference_names (ahead T) ≡ None →
      FollowsIn W (weight_at 12 T) (reference_full_ends T) (Next LabelEndReferenceFullMissing) (scratched (names_set T.tokenize_state) (scratched (names_set T.tokenize_state) T))
  missing-goes T k none =
      let q : TokenizeState = names_set T.tokenize_state in
      follows W (weight_at 12 T) (reference_full_ends T) (Next LabelEndReferenceFullMissing) (within LabelEndReferenceFullMissing) (scratched q (scratched q T)) tt (omega (arith, left-scratched q (scratched q T), left-scratched q T)) (missing-ends T k none)

  pub reference_full-law : Law W reference_full_words
  reference_full-law T alone k =
      let s : TokenizeState = T.tokenize_state in
      let M : Tokenizer = scratched (names_set s) T in
      let n : ℕ = weight_at 12 T in
      let same : codes_left M ≡ codes_left T = left-scratched _ T in
      Goes-attempt W n (reference_full_ends T) (Retry LabelStart) (within LabelStart) (Next LabelEndReferenceFullAfter) (Next LabelEndReferenceFullMissing) M (attempts-scratched _ T ∙ alone)
      (label-ready T k.part)
      (omega (arith, same))
      (λ U now h.
      let r = label-read T U h in
      follows W n (reference_full_ends T) (Next LabelEndReferenceFullAfter) (within LabelEndReferenceFullAfter) U (text-around T U k r) (omega (arith, same, left-read _ _ _ M U r)) (defined-ends T U k (as-label T U r)))
      (λ U now h.
      let r = label-refused T U h in
      subst (λ (y : Tokenizer). FollowsIn W n (reference_full_ends T) (Next LabelEndReferenceFullMissing) y) (sym (restored-fails false (Next LabelEndReferenceFullAfter) (Next LabelEndReferenceFullMissing) (names_set s) M U r.1))
      (missing-goes T k r.0))
