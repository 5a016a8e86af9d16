-- the edits of a run's labels and starts leave the events of the grouped tree
use Rattle.std.proofs.Common.{◌≡◌, ℕ, zero, suc, ◌+◌, ◌<◌, ◌≤◌, None, List, [], ◌∷◌, ◌++◌, length, drop, get_or, refl, sym, ap, subst, ◌∙◌, arith}
use Rattle.std.specs.List.{All}
use Rattle.std.proofs.lemmas.List.{append-nil}
use Rattle.std.proofs.lemmas.List.Elements.{All-nil, All-cons, All-append}
use Rattle.markdown_engine_events.specs.Edits.{edited, CanEdit}
use Rattle.markdown_engine.specs.PastTree.{appended_from}
use Rattle.markdown_content.specs.Tree.{event_count}
use Rattle.markdown_event.specs.declared.event.Event.{Event}
use Rattle.markdown_engine_events.specs.declared.util.edit_map.Edit.{Edit}
use Rattle.markdown_engine.proofs.TreeEvents.{length-appended_from}
use Rattle.markdown_engine.specs.OrderedEdits.{EditPart, comes, goes, stays, keeps, before_from, GoUnlinked}
use Rattle.markdown_label.specs.Brackets.{Front, link_front, image_front, call_front, caret_front, tail_row, Brackets, nothing, tree_then, label_then, unused_then, failed_then, flat, grouped, IsApart, last_of, count, numbers_of, labels_at, unused_at, failed_at, place_at, loose_edits, start_events, going_of, parts_of, all_edits, IsLabelWithin, IsStartWithin}
use Rattle.markdown_engine.proofs.OrderedEditLaws.{parts-edited, parts-may}
use Rattle.markdown_label.proofs.EventsOfBrackets.{count-is, before-parts, after-parts}
use Rattle.markdown_label_pass.proofs.BracketEdits.{own, own_labels, own_unused, own-does, own-places}
use Rattle.markdown_label_pass.proofs.BracketEditsRead.{labels-read, unused-read, failed-read}

-- No event that goes carries a link.

going-unlinked : (f : Front) (parts : List EditPart) → GoUnlinked parts → GoUnlinked (going_of (start_events f) ∷ parts)
going-unlinked (link_front c) parts h = ((refl, (refl, (refl, (refl, tt)))), h)
going-unlinked (image_front c d) parts h = ((refl, (refl, (refl, (refl, (refl, (refl, tt)))))), h)
going-unlinked (call_front c d) parts h = ((refl, (refl, (refl, (refl, (refl, (refl, tt)))))), h)
going-unlinked (caret_front c d) parts h = ((refl, (refl, (refl, (refl, (refl, (refl, tt)))))), h)

go-append : (a b : List EditPart) → GoUnlinked a → GoUnlinked b → GoUnlinked (a ++ b)
go-append [] b g h = h
go-append (comes es ∷ a) b g h = go-append a b g h
go-append (goes e es ∷ a) b g h = (g.0, go-append a b g.1 h)
go-append (stays t ∷ a) b g h = go-append a b g h
go-append (keeps kind name p ∷ a) b g h = go-append a b g h

go-unlinked : (b : Brackets) → GoUnlinked (parts_of b)
go-unlinked nothing = tt
go-unlinked (tree_then t rest) = go-unlinked rest
go-unlinked (label_then f inside back tail rest) =
    going-unlinked f _ (go-append (parts_of inside) _ (go-unlinked inside) ((refl, (refl, (refl, (refl, tt)))), go-unlinked rest))
go-unlinked (unused_then f rest) = going-unlinked f (parts_of rest) (go-unlinked rest)
go-unlinked (failed_then f inside rest) =
    going-unlinked f _ (go-append (parts_of inside) (parts_of rest) (go-unlinked inside) (go-unlinked rest))

-- The whole.

module _ (b : Brackets) (es : List Event) (h : IsApart b) (there : es ≡ appended_from 0 None (flat b)) where
  whole : drop 0 es ≡ appended_from 0 None (flat b) ++ []
  whole = there ∙ sym (append-nil (appended_from 0 None (flat b)))

  are-own : all_edits es (labels_at 0 b) (unused_at 0 b) (failed_at 0 b) ≡ own b
  are-own =
      ap (λ xs. xs ++ (loose_edits es (unused_at 0 b) ++ loose_edits es (failed_at 0 b))) (labels-read es 0 b [] h whole)
      ∙ ap (λ xs. own_labels 0 b ++ (xs ++ loose_edits es (failed_at 0 b))) (unused-read es 0 b [] h whole)
      ∙ ap (λ xs. own_labels 0 b ++ (own_unused 0 b ++ xs)) (failed-read es 0 b [] h whole)

  is-before : es ≡ before_from 0 (parts_of b)
  is-before = there ∙ sym (before-parts b h)

  pub edits-group : edited (all_edits es (labels_at 0 b) (unused_at 0 b) (failed_at 0 b)) es ≡ appended_from 0 None (grouped b)
  edits-group =
      ap (λ (log : List Edit). edited log es) are-own
      ∙ ap (edited (own b)) is-before
      ∙ parts-edited (own b) (parts_of b) (own-does b)
      ∙ after-parts b h

  size : length es ≡ count b
  size = ap length there ∙ length-appended_from 0 None (flat b) ∙ count-is b

  pub edits-may : CanEdit (all_edits es (labels_at 0 b) (unused_at 0 b) (failed_at 0 b)) es
  edits-may =
      let sized : length (before_from 0 (parts_of b)) ≡ count b = ap length (sym is-before) ∙ size in
      let places : All (λ (e : Edit). e.at ≤ length (before_from 0 (parts_of b))) (own b) = subst (λ n. All (λ (e : Edit). e.at ≤ n) (own b)) (sym sized) (own-places b) in
      let may : CanEdit (own b) (before_from 0 (parts_of b)) = parts-may (own b) (parts_of b) (own-does b) places (go-unlinked b) in
      let one : CanEdit (own b) es = subst (λ (xs : List Event). CanEdit (own b) xs) (sym is-before) may in
      subst (λ (log : List Edit). CanEdit log es) (sym are-own) one

-- Numbers are those of events.

pub labels-within : (n hi : ℕ) (b : Brackets) → n + count b ≤ hi → All (IsLabelWithin hi) (labels_at n b)
labels-within n hi nothing l = All-nil (IsLabelWithin hi)
labels-within n hi (tree_then t rest) l = labels-within (n + event_count t) hi rest (omega arith)
labels-within n hi (label_then f inside back tail rest) l =
    let k : ℕ = n + suc (last_of f) in
    let e : ℕ = k + count inside in
    let x : ℕ = e + 4 + event_count (tail_row tail) in
    All-append (IsLabelWithin hi) (labels_at k inside) _ (labels-within k hi inside (omega arith))
    (All-cons (IsLabelWithin hi) _ (labels_at x rest) (record { start = start-long n f; before = omega arith; end = omega arith; last = omega arith }) (labels-within x hi rest (omega arith)))
  where
    start-long : (n : ℕ) (f : Front) → n + 3 ≤ n + last_of f
    start-long n (link_front c) = omega arith
    start-long n (image_front c d) = omega arith
    start-long n (call_front c d) = omega arith
    start-long n (caret_front c d) = omega arith
labels-within n hi (unused_then f rest) l = labels-within (n + suc (last_of f)) hi rest (omega arith)
labels-within n hi (failed_then f inside rest) l =
    All-append (IsLabelWithin hi) (labels_at (n + suc (last_of f)) inside) (labels_at (n + suc (last_of f) + count inside) rest) (labels-within (n + suc (last_of f)) hi inside (omega arith)) (labels-within (n + suc (last_of f) + count inside) hi rest (omega arith))

pub unused-within : (n hi : ℕ) (b : Brackets) → n + count b ≤ hi → All (IsStartWithin hi) (unused_at n b)
unused-within n hi nothing l = All-nil (IsStartWithin hi)
unused-within n hi (tree_then t rest) l = unused-within (n + event_count t) hi rest (omega arith)
unused-within n hi (label_then f inside back tail rest) l =
    let k : ℕ = n + suc (last_of f) in
    let x : ℕ = k + count inside + 4 + event_count (tail_row tail) in
    All-append (IsStartWithin hi) (unused_at x rest) (unused_at k inside) (unused-within x hi rest (omega arith)) (unused-within k hi inside (omega arith))
unused-within n hi (unused_then f rest) l =
    let k : ℕ = n + suc (last_of f) in
    All-append (IsStartWithin hi) (unused_at k rest) (numbers_of n f ∷ []) (unused-within k hi rest (omega arith)) (All-cons (IsStartWithin hi) (numbers_of n f) [] (omega arith, omega arith) (All-nil (IsStartWithin hi)))
unused-within n hi (failed_then f inside rest) l =
    let k : ℕ = n + suc (last_of f) in
    let e : ℕ = k + count inside in
    All-append (IsStartWithin hi) (unused_at e rest) (unused_at k inside) (unused-within e hi rest (omega arith)) (unused-within k hi inside (omega arith))

pub failed-within : (n hi : ℕ) (b : Brackets) → n + count b ≤ hi → All (IsStartWithin hi) (failed_at n b)
failed-within n hi nothing l = All-nil (IsStartWithin hi)
failed-within n hi (tree_then t rest) l = failed-within (n + event_count t) hi rest (omega arith)
failed-within n hi (label_then f inside back tail rest) l =
    let k : ℕ = n + suc (last_of f) in
    let x : ℕ = k + count inside + 4 + event_count (tail_row tail) in
    All-append (IsStartWithin hi) (failed_at k inside) (failed_at x rest) (failed-within k hi inside (omega arith)) (failed-within x hi rest (omega arith))
failed-within n hi (unused_then f rest) l = failed-within (n + suc (last_of f)) hi rest (omega arith)
failed-within n hi (failed_then f inside rest) l =
    let k : ℕ = n + suc (last_of f) in
    let e : ℕ = k + count inside in
    All-append (IsStartWithin hi) (failed_at k inside) (numbers_of n f ∷ failed_at e rest) (failed-within k hi inside (omega arith)) (All-cons (IsStartWithin hi) (numbers_of n f) (failed_at e rest) (omega arith, omega arith) (failed-within e hi rest (omega arith)))

-- Events that come carry no link.

pub place-get : (es : List Event) (i : ℕ) (e : Event) → i < length es → e ≡ get_or es i e → e.point ≡ place_at es i
place-get [] i e l h = absurd (omega (arith, l))
place-get (x ∷ es) zero e l h = ap (λ (y : Event). y.point) h
place-get (x ∷ es) (suc i) e l h = place-get es i e (omega (arith, l)) h
