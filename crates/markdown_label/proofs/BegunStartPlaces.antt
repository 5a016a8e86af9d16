-- A start that is begun ends between characters, as the kept starts before it do.
use Rattle.std.proofs.Common.{◌≡◌, ℕ, ◌+◌, ◌-◌, ◌≤◌, nat_lt, true, None, List, [], ◌∷◌, ◌++◌, length, refl, sym, ap, subst, ◌∙◌, arith, length-append, append-nil, append_assoc}
use Rattle.std.proofs.lemmas.Bool.{eqb-true}
use Rattle.std.specs.Str.{IsCharBoundary}
use Rattle.markdown_content.specs.Codes.{Code}
use Rattle.markdown_content.specs.ListFunctions.{rest_of}
use Rattle.markdown_engine.specs.Operations.{ahead, done, scratched}
use Rattle.markdown_engine.specs.PastTree.{past, appended_from}
use Rattle.markdown_content.specs.Place.{moved}
use Rattle.markdown_content.specs.Tree.{Forest, leaf, group, ◌⊕◌}
use Rattle.markdown_engine.specs.TreeOps.{ops_of}
use Rattle.markdown_event.specs.declared.event.Event.{Event}
use Rattle.markdown_event.specs.declared.event.Name.{Name}
use Rattle.markdown_event.specs.declared.event.Name.TheVariants as N
use Rattle.markdown_event.specs.declared.event.Point.{Point}
use Rattle.markdown_event.specs.declared.resolve.ResolveName.TheVariants as R
use Rattle.markdown_content.specs.declared.label_kind.LabelKind.{LabelKind}
use Rattle.markdown_engine.specs.declared.tokenizer.LabelStart as Kept
use Rattle.markdown_engine.specs.declared.tokenizer.TokenizeState.{TokenizeState}
use Rattle.markdown_engine.specs.declared.tokenizer.Tokenizer.{Tokenizer}
use Rattle.markdown_engine.proofs.OperationFields.{BeginsWithValue}
use Rattle.markdown_content.proofs.PlaceRules.{ahead-moved}
use Rattle.markdown_event.proofs.AndParts.{and-left, and-right}
use Rattle.markdown_engine.proofs.SolidTrees.{IsSolid-group, IsSolid-leaf, IsSolid-row}
use Rattle.markdown_engine.proofs.TreeEvents.{ops-past}
use Rattle.markdown_plan.specs.Characters.{bytes_of, ReadsText}
use Rattle.markdown_plan.proofs.CharactersAlongContent.{text-moved}
use Rattle.markdown_plan.proofs.CharacterPlaces.{marker-ends}
use Rattle.markdown_model.specs.CodeTests.{is_value, next_is}
use Rattle.markdown_label.specs.LabelFields.{begun}
use Rattle.markdown_label.specs.LabelEnd.{AreStartsWithin}
use Rattle.markdown_label_names.specs.LabelNames.{place_at, point_or}
use Rattle.markdown_label.specs.LabelStarts.{kept_start, link_ops, link_test, footnote_front, footnote_back, footnote_test, image_front, image_back, image_test}
use Rattle.markdown_label.proofs.LabelEndLemmas.{events-before, scratch-before, input-before}
use Rattle.markdown_label.proofs.ReferenceFullTree.{get-after}
use Rattle.markdown_label.proofs.KeptStartPlaces.{within-grown}

-- where nothing changes that they speak of
within-same : (T U : Tokenizer) → bytes_of U ≡ bytes_of T → U.events ≡ T.events → (ls : List Kept.LabelStart) →
    AreStartsWithin T ls → AreStartsWithin U ls
within-same T U bytes events ls k = within-grown T U [] bytes (events ∙ sym (append-nil T.events)) ls k

-- a start is kept whose last event is the last one
within-kept : (kind : LabelKind) (size : ℕ) (V : Tokenizer) → 1 ≤ length V.events → IsCharBoundary (bytes_of V) (place_at V.events (length V.events - 1)).index → AreStartsWithin V V.tokenize_state.label_starts
    → AreStartsWithin (kept_start kind size V) (kept_start kind size V).tokenize_state.label_starts
unfolding scratched
within-kept kind size V some b k =
    let S : Tokenizer = scratched (begun kind (length V.events - size) (length V.events - 1) V.tokenize_state) V in
    let all : AreStartsWithin S S.tokenize_state.label_starts =
    (let before = within-same V S refl refl V.tokenize_state.label_starts k in ((record { within = omega (arith, some); between = b }, before.0), (λ e. cc, before.1))) in
    subst (λ (s : TokenizeState). AreStartsWithin (kept_start kind size V) s.label_starts) (sym (scratch-before R.Label S))
    (within-same S (kept_start kind size V) (ap (λ p. p.now.bytes.now) (input-before R.Label S)) (events-before R.Label S) S.tokenize_state.label_starts all)

-- past the tree of a start
within-past : (kind : LabelKind) (size : ℕ) (t : Forest) (es : List Event) (last : Event) (T : Tokenizer) → appended_from (length T.events) None t ≡ es ++ last ∷ [] → IsCharBoundary (bytes_of T) last.point.index → AreStartsWithin T T.tokenize_state.label_starts
    → AreStartsWithin (kept_start kind size (past None t T)) (kept_start kind size (past None t T)).tokenize_state.label_starts
unfolding past
within-past kind size t es last T whole b k =
    let V : Tokenizer = past None t T in
    let events : V.events ≡ (T.events ++ es) ++ last ∷ [] = ap (λ xs. T.events ++ xs) whole ∙ sym (append_assoc T.events es (last ∷ [])) in
    let number : length V.events - 1 ≡ length (T.events ++ es) + 0 = omega (arith, ap length events, length-append (T.events ++ es) (last ∷ [])) in
    let place : place_at V.events (length V.events - 1) ≡ last.point = (λ i. place_at (events i) (number i)) ∙ ap point_or (get-after (T.events ++ es) (last ∷ []) 0) in
    within-kept kind size V (omega (arith, ap length events, length-append (T.events ++ es) (last ∷ []))) (subst (λ (p : Point). IsCharBoundary (bytes_of T) p.index) (sym place) b)
    (within-grown T V (appended_from (length T.events) None t) refl refl T.tokenize_state.label_starts k)

-- The codes of a start.

pub first-is : (v : ℕ) (cs : List Code) → next_is (is_value v) cs ≡ true → BeginsWithValue v cs
first-is v [] e = cc
first-is v (c ∷ cs) e = record { code = c; value = eqb-true c.value v e; whole = refl }

-- one marker
one-within : (c : Code) (rest : List Code) (T : Tokenizer) → ReadsText T → AreStartsWithin T T.tokenize_state.label_starts →
    ahead T ≡ c ∷ rest → nat_lt c.value 128 ≡ true →
    (let U : Tokenizer = kept_start LabelKind.Link 4 (done link_ops T) in AreStartsWithin U U.tokenize_state.label_starts)
one-within c rest T text k codes low =
    let t : Forest = group N.LabelLink (leaf N.LabelMarker (c ∷ [])) in
    let is : done link_ops T ≡ past None t T = ops-past t rest T (IsSolid-group N.LabelLink (leaf N.LabelMarker (c ∷ [])) (λ x. cc) (IsSolid-leaf N.LabelMarker (c ∷ []))) codes in
    subst (λ (V : Tokenizer). AreStartsWithin (kept_start LabelKind.Link 4 V) (kept_start LabelKind.Link 4 V).tokenize_state.label_starts) (sym is)
    (within-past LabelKind.Link 4 t (_ ∷ _ ∷ _ ∷ []) _ T refl (marker-ends (bytes_of T) T.cursor c rest text codes low) k)

pub link-within : (T : Tokenizer) → ReadsText T → AreStartsWithin T T.tokenize_state.label_starts →
    link_test T (ahead T) ≡ true →
    (let U : Tokenizer = kept_start LabelKind.Link 4 (done link_ops T) in AreStartsWithin U U.tokenize_state.label_starts)
link-within T text k e =
    let f : BeginsWithValue 91 (ahead T) = first-is 91 (ahead T) (and-right _ _ e) in
    one-within f.code (rest_of (ahead T)) T text k f.whole (ap (λ v. nat_lt v 128) f.value)

-- two markers
abbrev two_markers : Name → Name → Name → Code → Code → Forest
two_markers whole a b c d = group whole (leaf a (c ∷ []) ⊕ leaf b (d ∷ []))

pair-within : (kind : LabelKind) (whole a b : Name) (c d : Code) (rest : List Code) (T : Tokenizer) → ReadsText T → AreStartsWithin T T.tokenize_state.label_starts → ahead T ≡ c ∷ d ∷ rest → nat_lt d.value 128 ≡ true
    → (let U : Tokenizer = kept_start kind 6 (done (ops_of (two_markers whole a b c d)) T) in AreStartsWithin U U.tokenize_state.label_starts)
pair-within kind whole a b c d rest T text k codes low =
    let t : Forest = two_markers whole a b c d in
    let is : done (ops_of t) T ≡ past None t T =
    ops-past t rest T (IsSolid-group whole (leaf a (c ∷ []) ⊕ leaf b (d ∷ [])) (λ x. cc) (IsSolid-row (leaf a (c ∷ [])) (leaf b (d ∷ [])) (IsSolid-leaf a (c ∷ [])) (IsSolid-leaf b (d ∷ [])))) codes in
    subst (λ (V : Tokenizer). AreStartsWithin (kept_start kind 6 V) (kept_start kind 6 V).tokenize_state.label_starts) (sym is)
    (within-past kind 6 t (_ ∷ _ ∷ _ ∷ _ ∷ _ ∷ []) _ T refl (marker-ends (bytes_of T) (moved T.cursor) d rest (text-moved (bytes_of T) T.cursor text) (ahead-moved T.cursor ∙ ap rest_of codes) low) k)

pub two-whole : (v w : ℕ) (cs : List Code) (f : BeginsWithValue v cs) (g : BeginsWithValue w (rest_of cs)) →
    cs ≡ f.code ∷ g.code ∷ rest_of (rest_of cs)
two-whole v w cs f g = f.whole ∙ ap (λ xs. f.code ∷ xs) g.whole

pub footnote-within : (T : Tokenizer) → ReadsText T → AreStartsWithin T T.tokenize_state.label_starts → footnote_test T (ahead T) ≡ true
    → (let U : Tokenizer = kept_start LabelKind.GfmFootnote 6 (done (footnote_front ++ footnote_back) T) in AreStartsWithin U U.tokenize_state.label_starts)
footnote-within T text k e =
    let f : BeginsWithValue 91 (ahead T) = first-is 91 (ahead T) (and-right _ _ (and-left _ _ e)) in
    let g : BeginsWithValue 94 (rest_of (ahead T)) = first-is 94 (rest_of (ahead T)) (and-right _ _ e) in
    pair-within LabelKind.GfmFootnote N.GfmFootnoteCallLabel N.LabelMarker N.GfmFootnoteCallMarker f.code g.code (rest_of (rest_of (ahead T))) T text k (two-whole 91 94 (ahead T) f g) (ap (λ v. nat_lt v 128) g.value)

pub image-within : (T : Tokenizer) → ReadsText T → AreStartsWithin T T.tokenize_state.label_starts → image_test T (ahead T) ≡ true
    → (let U : Tokenizer = kept_start LabelKind.Image 6 (done (image_front ++ image_back) T) in AreStartsWithin U U.tokenize_state.label_starts)
image-within T text k e =
    let f : BeginsWithValue 33 (ahead T) = first-is 33 (ahead T) (and-right _ _ (and-left _ _ e)) in
    let g : BeginsWithValue 91 (rest_of (ahead T)) = first-is 91 (rest_of (ahead T)) (and-left _ _ (and-right _ _ e)) in
    pair-within LabelKind.Image N.LabelImage N.LabelImageMarker N.LabelMarker f.code g.code (rest_of (rest_of (ahead T))) T text k (two-whole 33 91 (ahead T) f g) (ap (λ v. nat_lt v 128) g.value)
