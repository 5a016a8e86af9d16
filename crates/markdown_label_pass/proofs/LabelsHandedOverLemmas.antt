-- what the pass of labels takes from the lists of a run
use Rattle.std.proofs.Common.{◌≡◌, ℕ, zero, suc, ◌+◌, ◌<◌, ◌≤◌, None, List, [], ◌∷◌, ◌++◌, length, take, get_or, refl, sym, ap, subst, ◌∙◌, arith, append_assoc}
use Rattle.std.specs.List.{All}
use Rattle.std.proofs.lemmas.List.{append-nil, take_more}
use Rattle.markdown_engine_events.specs.Edits.{edited, CanEdit}
use Rattle.markdown_engine.specs.PastTree.{appended_from}
use Rattle.markdown_event.specs.declared.event.Event.{Event}
use Rattle.markdown_engine.specs.declared.tokenizer.Label.{Label}
use Rattle.markdown_engine.specs.declared.tokenizer.LabelStart.{LabelStart}
use Rattle.markdown_engine.specs.declared.tokenizer.TokenizeState.{TokenizeState}
use Rattle.markdown_engine_events.specs.declared.util.edit_map.Edit.{Edit}
use Rattle.markdown_engine.proofs.TreeEvents.{length-appended_from}
use Rattle.markdown_label.specs.Brackets.{Brackets, flat, grouped, count, labels_at, unused_at, failed_at, label_edits, labels_edits, loose_edit, loose_edits, all_edits, IsLabelWithin, IsStartWithin}
use Rattle.markdown_label.specs.LabelsHandedOver.{HasBrackets, starts_of}
use Rattle.markdown_label.proofs.EventsOfBrackets.{count-is}
use Rattle.markdown_label_pass.proofs.BracketEditsRead.{labels_edits-append, loose_edits-append}
use Rattle.markdown_label_pass.proofs.LabelPassLaw.{edits-group, edits-may, labels-within, unused-within, failed-within}

-- Lists, one item more.

pub labels-more : (es : List Event) (ls : List Label) (k : ℕ) (l : Label) → k < length ls → l ≡ get_or ls k l →
    labels_edits es (take (k + 1) ls) ≡ labels_edits es (take k ls) ++ label_edits es l
labels-more es ls k l h r =
    ap (labels_edits es) (take_more ls k l h ∙ ap (λ x. take k ls ++ x ∷ []) (sym r))
    ∙ labels_edits-append es (take k ls) (l ∷ [])
    ∙ ap (λ x. labels_edits es (take k ls) ++ x) (append-nil (label_edits es l))

pub labels-next : (es : List Event) (ls : List Label) (k : ℕ) (l : Label) (old here new : List Edit) → k < length ls →
    l ≡ get_or ls k l → here ≡ old ++ labels_edits es (take k ls) → new ≡ here ++ label_edits es l →
    new ≡ old ++ labels_edits es (take (k + 1) ls)
labels-next es ls k l old here new h r g m =
    m ∙ ap (λ x. x ++ label_edits es l) g ∙ append_assoc old (labels_edits es (take k ls)) (label_edits es l) ∙ ap (λ x. old ++ x) (sym (labels-more es ls k l h r))

starts_of-append : (a b : List LabelStart) → starts_of (a ++ b) ≡ starts_of a ++ starts_of b
starts_of-append [] b = refl
starts_of-append (s ∷ a) b = ap (λ x. s.start ∷ x) (starts_of-append a b)

pub starts-next : (es : List Event) (ss : List LabelStart) (k : ℕ) (s : LabelStart) (old here new : List Edit) →
    k < length ss → s ≡ get_or ss k s → here ≡ old ++ loose_edits es (starts_of (take k ss)) →
    new ≡ here ++ loose_edit es s.start ∷ [] → new ≡ old ++ loose_edits es (starts_of (take (k + 1) ss))
starts-next es ss k s old here new h r g m =
    let cut : take (k + 1) ss ≡ take k ss ++ s ∷ [] = take_more ss k s h ∙ ap (λ x. take k ss ++ x ∷ []) (sym r) in
    let more : loose_edits es (starts_of (take (k + 1) ss)) ≡ loose_edits es (starts_of (take k ss)) ++ loose_edit es s.start ∷ [] = ap (λ x. loose_edits es (starts_of x)) cut ∙ ap (loose_edits es) (starts_of-append (take k ss) (s ∷ [])) ∙ loose_edits-append es (starts_of (take k ss)) (s.start ∷ []) in
    m ∙ ap (λ x. x ++ loose_edit es s.start ∷ []) g ∙ append_assoc old (loose_edits es (starts_of (take k ss))) (loose_edit es s.start ∷ []) ∙ ap (λ x. old ++ x) (sym more)

pub start-at : (n : ℕ) (ss : List LabelStart) (k : ℕ) (s : LabelStart) → All (IsStartWithin n) (starts_of ss) →
    k < length ss → s ≡ get_or ss k s → IsStartWithin n s.start
start-at n [] k s h g r = absurd (omega (arith, g))
start-at n (x ∷ ss) zero s h g r =
    subst (λ (y : LabelStart). IsStartWithin n y.start) (sym r) (h 0 x.start (omega arith))
start-at n (x ∷ ss) (suc k) s h g r = start-at n ss k s (λ i d l. h (suc i) d (omega (arith, l))) (omega (arith, g)) r

-- the top of a stack
pub starts-top : (es : List Event) (s : LabelStart) (ss all : List LabelStart) (old here new : List Edit) →
    all ≡ s ∷ ss → here ++ loose_edits es (starts_of all) ≡ old → new ≡ here ++ loose_edit es s.start ∷ [] →
    new ++ loose_edits es (starts_of ss) ≡ old
starts-top es s ss all old here new r g m =
    ap (λ x. x ++ loose_edits es (starts_of ss)) m ∙ append_assoc here (loose_edit es s.start ∷ []) (loose_edits es (starts_of ss)) ∙ ap (λ x. here ++ loose_edits es (starts_of x)) (sym r) ∙ g

pub rest-within : (n : ℕ) (s : LabelStart) (ss all : List LabelStart) → all ≡ s ∷ ss →
    All (IsStartWithin n) (starts_of all) → All (IsStartWithin n) (starts_of ss)
rest-within n s ss all r h =
    let there : All (IsStartWithin n) (starts_of (s ∷ ss)) = subst (λ (x : List LabelStart). All (IsStartWithin n) (starts_of x)) r h in λ i d l. there (suc i) d (omega (arith, l))

-- The whole.

module _ (b : Brackets) (s : TokenizeState) (es : List Event) (h : HasBrackets b s es) where
  sized : 0 + count b ≤ length es
  sized = omega (arith, ap length h.events, length-appended_from 0 None (flat b), count-is b)

  pub has-labels : All (IsLabelWithin (length es)) s.labels
  has-labels =
      subst (λ (ls : List Label). All (IsLabelWithin (length es)) ls) (sym h.labels) (labels-within 0 (length es) b sized)

  pub has-unused : All (IsStartWithin (length es)) (starts_of s.label_starts)
  has-unused =
      subst (λ (ss : List (ℕ × ℕ)). All (IsStartWithin (length es)) ss) (sym h.unused) (unused-within 0 (length es) b sized)

  pub has-failed : All (IsStartWithin (length es)) (starts_of s.label_starts_loose)
  has-failed =
      subst (λ (ss : List (ℕ × ℕ)). All (IsStartWithin (length es)) ss) (sym h.failed) (failed-within 0 (length es) b sized)

  log-is : all_edits es s.labels (starts_of s.label_starts) (starts_of s.label_starts_loose) ≡ all_edits es (labels_at 0 b) (unused_at 0 b) (failed_at 0 b)
  log-is =
      ap (λ ls. all_edits es ls (starts_of s.label_starts) (starts_of s.label_starts_loose)) h.labels
      ∙ ap (λ ss. all_edits es (labels_at 0 b) ss (starts_of s.label_starts_loose)) h.unused
      ∙ ap (λ ss. all_edits es (labels_at 0 b) (unused_at 0 b) ss) h.failed

  pub has-may : (log : List Edit) →
      log ≡ all_edits es s.labels (starts_of s.label_starts) (starts_of s.label_starts_loose) → CanEdit log es
  has-may log e = subst (λ (x : List Edit). CanEdit x es) (sym (e ∙ log-is)) (edits-may b es h.apart h.events)

  pub has-group : (log : List Edit) →
      log ≡ all_edits es s.labels (starts_of s.label_starts) (starts_of s.label_starts_loose) →
      edited log es ≡ appended_from 0 None (grouped b)
  has-group log e = ap (λ (x : List Edit). edited x es) (e ∙ log-is) ∙ edits-group b es h.apart h.events

-- the edits asked for, one list after another
pub asked : (es : List Event) (labels ls : List Label) (unused failed fs : List (ℕ × ℕ)) (m0 m1 m2 m3 : List Edit) →
    m0 ≡ [] → m1 ≡ m0 ++ labels_edits es ls → ls ≡ labels → m2 ≡ m1 ++ loose_edits es unused →
    m3 ≡ m2 ++ loose_edits es fs → fs ≡ failed → m3 ≡ all_edits es labels unused failed
asked es labels ls unused failed fs m0 m1 m2 m3 e0 e1 l e2 e3 f =
    e3
    ∙ ap (λ x. m2 ++ loose_edits es x) f
    ∙ ap (λ x. x ++ loose_edits es failed) (e2 ∙ ap (λ x. x ++ loose_edits es unused) (e1 ∙ ap (λ x. x ++ labels_edits es ls) e0 ∙ ap (labels_edits es) l))
    ∙ append_assoc (labels_edits es labels) (loose_edits es unused) (loose_edits es failed)

-- The items of loops.

get-own : {X : Type 0} (xs : List X) (k : ℕ) (d : X) → k < length xs → get_or xs k d ≡ get_or xs k (get_or xs k d)
get-own [] k d h = absurd (omega (arith, h))
get-own (x ∷ xs) zero d h = refl
get-own (x ∷ xs) (suc k) d h = get-own xs k d (omega (arith, h))

pub labels-step : (es : List Event) (ls : List Label) (k : ℕ) (d : Label) (old here new : List Edit) → k < length ls →
    here ≡ old ++ labels_edits es (take k ls) → new ≡ here ++ label_edits es (get_or ls k d) →
    new ≡ old ++ labels_edits es (take (k + 1) ls)
labels-step es ls k d old here new h g m = labels-next es ls k (get_or ls k d) old here new h (get-own ls k d h) g m

pub starts-step : (es : List Event) (ss : List LabelStart) (k : ℕ) (d : LabelStart) (old here new : List Edit) →
    k < length ss → here ≡ old ++ loose_edits es (starts_of (take k ss)) →
    new ≡ here ++ loose_edit es (get_or ss k d).start ∷ [] → new ≡ old ++ loose_edits es (starts_of (take (k + 1) ss))
starts-step es ss k d old here new h g m = starts-next es ss k (get_or ss k d) old here new h (get-own ss k d h) g m

pub start-within : (n : ℕ) (ss : List LabelStart) (k : ℕ) (d : LabelStart) → All (IsStartWithin n) (starts_of ss) →
    k < length ss → IsStartWithin n (get_or ss k d).start
start-within n ss k d h g = start-at n ss k (get_or ss k d) h g (get-own ss k d g)
