-- A relation of trees is given that holds where a run is read as data, and that a group may be put around. Then it holds of the tree of labels of
-- elements and of that of what they are read as.
use Rattle.std.proofs.Common.{◌≡◌, ℕ, ◌+◌, List, [], ◌∷◌, None, drop, length, refl, sym, subst, inl, inr, ap, ◌∙◌, arith}
use Rattle.markdown_engine.proofs.ReadingSequences.{row-empty}
use Rattle.markdown_content.specs.Codes.{Code, stop_of, document_start}
use Rattle.markdown_content.specs.Tree.{Forest, empty, leaf_then, group_then, leaf, ◌⊕◌, group, text_group, start_of, enter_of, exit_after}
use Rattle.markdown_event.specs.declared.event.Name.{Name}
use Rattle.markdown_event.specs.declared.event.Name.TheVariants as N
use Rattle.markdown_event.specs.declared.event.Point.{Point}
use Rattle.markdown_content.specs.declared.label_kind.LabelKind.{LabelKind}
use Rattle.markdown_attention.proofs.AttentionTreeLabels.{IsElementRead}
use Rattle.markdown_model.specs.LabelEnd.{Element, plain, starts, ends}
use Rattle.markdown_model.specs.Passes.{End, label_group, label_name, start_marker, start_tree, labels_of}
use Rattle.markdown_model.proofs.ElementCases.{AllAre}
use Rattle.markdown_run_text.specs.ElementsAsRead.{IsIntraword, IsReadAs, AreReadAs, Source}
use Rattle.markdown_run_text.proofs.CutDataLemmas.{row-assoc}
use Rattle.markdown_run_text.proofs.PairsOfCutData.{enter-same, exit-same}
use Rattle.markdown_run_text.proofs.RowElements.{FoundLabels, wrapped, opened, read, word_of, finish, labels-read}

-- the code of an underscore that is read as data covers one byte
stop-sound : (bytes : List ℕ) (c : Code) → IsElementRead bytes (plain (leaf N.AttentionSequence (c ∷ []))) →
    c.stop.index ≡ c.start.index + 1
stop-sound bytes c h = ap (λ (p : Point). p.index) (h.1.0.0 refl).1.1.1.1.0

module _ (K : Forest → Forest → Type 0) (same : (t : Forest) → K t t) (trans : (t u v : Forest) → K t u → K u v → K t v)
    (group-step : (a : Forest) (name : Name) (p q : Point) (t u rest : Forest) → K t u → K (a ⊕ group_then name p q t rest) (a ⊕ group_then name p q u rest)) where
  -- as parts of any row
  abbrev InRows : Forest → Forest → Type 0
  InRows t u = (a b : Forest) → K (a ⊕ (t ⊕ b)) (a ⊕ (u ⊕ b))

  rows : (t u v w : Forest) → InRows t u → InRows v w → InRows (t ⊕ v) (u ⊕ w)
  rows t u v w h k a b = grind (arith, row-assoc t v b, row-assoc u w b, row-assoc a u (v ⊕ b), row-assoc a u (w ⊕ b))

  itself : (t : Forest) → InRows t t
  itself t a b = same (a ⊕ (t ⊕ b))

  whole-row : (t u : Forest) → InRows t u → K t u
  whole-row t u h = subst (λ x. K x u) (row-empty t) (subst (λ x. K (t ⊕ empty) x) (row-empty u) (h empty empty))

  inside : (name : Name) (p q : Point) (t u rest : Forest) → InRows t u →
      InRows (group_then name p q t rest) (group_then name p q u rest)
  inside name p q t u rest h a b = group-step a name p q t u (rest ⊕ b) (whole-row t u h)

  -- Labels.

  module _ (kind : LabelKind) (marker : List Code) (back : List Code) (tail : Forest) where
    abbrev front : List Code
    front = start_marker kind marker

    abbrev caret : Forest
    caret = leaf N.Data (drop (length front) marker)

    abbrev inner : Forest → Forest
    inner x =
        start_tree kind front
        ⊕ (text_group N.LabelText (stop_of document_start front) (start_of back) (caret ⊕ x)
        ⊕ group N.LabelEnd (leaf N.LabelMarker back))

    label-alike : (x y : Forest) → InRows x y →
        InRows (label_group kind marker x back tail) (label_group kind marker y back tail)
    label-alike x y h =
        let a : Forest = start_tree kind front in
        let p : Point = stop_of document_start front in
        let q : Point = start_of back in
        let b : Forest = group N.LabelEnd (leaf N.LabelMarker back) in
        let enter : enter_of (inner x) ≡ enter_of (inner y) = enter-same a N.LabelText p q (caret ⊕ x) (caret ⊕ y) b in
        let exit : exit_after (enter_of (inner x)) (inner x) ≡ exit_after (enter_of (inner y)) (inner y) = exit-same (enter_of (inner x)) a N.LabelText p q (caret ⊕ x) (caret ⊕ y) b ∙ ap (λ r. exit_after r (inner y)) enter in
        let text : InRows (inner x) (inner y) = rows a a (group_then N.LabelText p q (caret ⊕ x) b) (group_then N.LabelText p q (caret ⊕ y) b) (itself a) (inside N.LabelText p q (caret ⊕ x) (caret ⊕ y) b (rows caret caret x y (itself caret) h)) in
        let from : Point = enter_of (inner x) in
        let to : Point = exit_after (enter_of (inner x)) (inner x) in
        subst (InRows (label_group kind marker x back tail))
        (λ i. group_then (label_name kind) (enter i) (exit_after (exit i) tail) (group_then N.Label (enter i) (exit i) (inner y) tail) empty)
        (inside (label_name kind) from (exit_after to tail) (group_then N.Label from to (inner x) tail) (group_then N.Label from to (inner y) tail) empty
        (inside N.Label from to (inner x) (inner y) tail text))

  -- Words: what is read of two, up to an end without a start, and behind each such end.

  abbrev EndsAlike : List (End × Forest) → List (End × Forest) → Type 0
  EndsAlike [] [] = Unit {0}
  EndsAlike (c ∷ more) (d ∷ others) = (c.0 ≡ d.0) × (InRows c.1 d.1 × EndsAlike more others)
  EndsAlike _ _ = ⊥

  abbrev Alike : FoundLabels → FoundLabels → Type 0
  Alike p q = InRows p.0 q.0 × EndsAlike p.1 q.1

  data-alike : (m : List Code) (x y : Forest) → InRows x y → InRows (leaf N.Data m ⊕ x) (leaf N.Data m ⊕ y)
  data-alike m x y h = rows (leaf N.Data m) (leaf N.Data m) x y (itself (leaf N.Data m)) h

  wrapped-alike : (m : List Code) (x y : Forest) (end : End) → InRows x y → InRows (wrapped m x end) (wrapped m y end)
  wrapped-alike m x y end h = grind (arith, data-alike, rows, itself, label-alike)

  opened-alike : (m : List Code) (x y : Forest) (more others : List (End × Forest)) → InRows x y → EndsAlike more others →
      Alike (opened m x more) (opened m y others)
  opened-alike m x y more others h k = grind (arith, data-alike, rows, wrapped-alike)

  finish-alike : (more others : List (End × Forest)) → EndsAlike more others → InRows (finish more) (finish others)
  finish-alike [] [] k = itself empty
  finish-alike (c ∷ more) (d ∷ others) k = grind (arith, data-alike, rows, finish-alike more others)
  finish-alike [] (d ∷ others) k = absurd k
  finish-alike (c ∷ more) [] k = absurd k

  -- Elements.

  itself-alike : (e : Element) (es fs : List Element) → Alike (read (word_of es)) (read (word_of fs)) →
      Alike (read (word_of (e ∷ es))) (read (word_of (e ∷ fs)))
  itself-alike (plain t) es fs h = (rows t t (read (word_of es)).0 (read (word_of fs)).0 (itself t) h.0, h.1)
  itself-alike (starts kind marker) es fs h =
      opened-alike marker (read (word_of es)).0 (read (word_of fs)).0 (read (word_of es)).1 (read (word_of fs)).1 h.0 h.1
  itself-alike (ends back outcome) es fs h = (itself empty, (refl, (h.0, h.1)))

  module _ (source : Source) (run-step : (a : Forest) (c : Code) (b : Forest) → IsIntraword source c → c.stop.index ≡ c.start.index + 1 →
      K (a ⊕ leaf_then N.AttentionSequence None (c ∷ []) b) (a ⊕ leaf_then N.Data None (c ∷ []) b)) where
    run-alike : (c : Code) (e f : Element) (es fs : List Element) → IsIntraword source c →
        e ≡ plain (leaf N.AttentionSequence (c ∷ [])) → f ≡ plain (leaf N.Data (c ∷ [])) → IsElementRead source.bytes e →
        Alike (read (word_of es)) (read (word_of fs)) → Alike (read (word_of (e ∷ es))) (read (word_of (f ∷ fs)))
    run-alike c e f es fs h x y k r =
        subst (λ z. Alike (read (word_of (z ∷ es))) (read (word_of (f ∷ fs)))) (sym x)
        (subst (λ z. Alike (read (word_of (plain (leaf N.AttentionSequence (c ∷ [])) ∷ es))) (read (word_of (z ∷ fs)))) (sym y)
        (rows (leaf N.AttentionSequence (c ∷ [])) (leaf N.Data (c ∷ [])) (read (word_of es)).0 (read (word_of fs)).0 (λ a b. run-step a c b h (stop-sound source.bytes c (subst (IsElementRead source.bytes) x k))) r.0, r.1))

    first-alike : (e f : Element) (es fs : List Element) → IsReadAs source e f → IsElementRead source.bytes e →
        Alike (read (word_of es)) (read (word_of fs)) → Alike (read (word_of (e ∷ es))) (read (word_of (f ∷ fs)))
    first-alike e f es fs (inl x) k r = grind (arith, itself-alike e es fs)
    first-alike e f es fs (inr x) k r = run-alike x.0 e f es fs x.1.0 x.1.1.0 x.1.1.1 k r

    words-alike : (es fs : List Element) → AreReadAs source es fs → AllAre (IsElementRead source.bytes) es →
        Alike (read (word_of es)) (read (word_of fs))
    words-alike [] [] h k = (itself empty, tt)
    words-alike (e ∷ es) (f ∷ fs) h k = first-alike e f es fs h.0 k.0 (words-alike es fs h.1 k.1)
    words-alike [] (f ∷ fs) h k = absurd h
    words-alike (e ∷ es) [] h k = absurd h

    -- each inner underscore may be a run here and data there
    pub labels-as-read : (es fs : List Element) → AreReadAs source es fs → AllAre (IsElementRead source.bytes) es → K (labels_of es) (labels_of fs)
    labels-as-read es fs h k = grind (arith, words-alike, labels-read, whole-row, rows, finish-alike)
