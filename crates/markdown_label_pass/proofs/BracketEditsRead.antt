-- the edits of labels and starts, read off the events, are those of the brackets
use Rattle.std.proofs.Common.{◌≡◌, ℕ, zero, suc, ◌+◌, ◌-◌, None, List, [], ◌∷◌, ◌++◌, length, drop, refl, ap, ◌∙◌, arith, append_assoc}
use Rattle.markdown_engine_events.proofs.EditSteps.{drop-part}
use Rattle.markdown_content.specs.Codes.{Code}
use Rattle.markdown_engine.specs.PastTree.{appended_from}
use Rattle.markdown_content.specs.Tree.{Forest, empty, group_then, ◌⊕◌, event, event_count}
use Rattle.markdown_event.specs.declared.event.Event.{Event}
use Rattle.markdown_event.specs.declared.event.Kind.{Kind}
use Rattle.markdown_engine.specs.declared.tokenizer.Label.{Label}
use Rattle.markdown_engine_events.specs.declared.util.edit_map.Edit.{Edit}
use Rattle.markdown_engine.proofs.TreeEvents.{length-appended_from}
use Rattle.markdown_label.specs.Brackets.{Front, link_front, image_front, call_front, caret_front, kind_of, end_row, Tail, no_tail, one_tail, tail_row, Brackets, nothing, tree_then, label_then, unused_then, failed_then, flat, IsApart, last_of, count, numbers_of}
use Rattle.markdown_label.specs.Brackets.{labels_at, unused_at, failed_at, place_at, opened, opened_of, ended, closed, as_data, first_start, last_stop, start_events, end_events, tail_stop, replacing, label_edits, labels_edits, loose_edit, loose_edits}
use Rattle.markdown_label.proofs.EventsOfBrackets.{row-then, start-then, flat-then, tail-last, count-is}
use Rattle.markdown_label_pass.proofs.BracketEdits.{opening_edit, data_edit, own_labels, own_unused, own_failed}

-- Places.

pub place-drop : (es : List Event) (n i j : ℕ) → i ≡ n + j → place_at es i ≡ place_at (drop n es) j
place-drop es zero i j e = let same : i ≡ j = omega (arith, e) in ap (place_at es) same
place-drop [] (suc n) i j e = refl
place-drop (x ∷ es) (suc n) zero j e = absurd (omega (arith, e))
place-drop (x ∷ es) (suc n) (suc i) j e = place-drop es n i j (omega (arith, e))

place-skip : (xs ys : List Event) (i j : ℕ) → i ≡ length xs + j → place_at (xs ++ ys) i ≡ place_at ys j
place-skip [] ys i j e = let same : i ≡ j = omega (arith, e) in ap (place_at ys) same
place-skip (x ∷ xs) ys zero j e = absurd (omega (arith, e))
place-skip (x ∷ xs) ys (suc i) j e = place-skip xs ys i j (omega (arith, e))

-- Starts, ends and tails.

start-length : (f : Front) → length (start_events f) ≡ suc (last_of f)
start-length (link_front c) = refl
start-length (image_front c d) = refl
start-length (call_front c d) = refl
start-length (caret_front c d) = refl

opened-read : (f : Front) (ys : List Event) →
    opened (kind_of f) (place_at (start_events f ++ ys) 0) (place_at (start_events f ++ ys) 2) (place_at (start_events f ++ ys) 3) (place_at (start_events f ++ ys) (last_of f)) ≡ opened_of f
opened-read (link_front c) ys = refl
opened-read (image_front c d) ys = refl
opened-read (call_front c d) ys = refl
opened-read (caret_front c d) ys = refl

data-read : (f : Front) (ys : List Event) →
    as_data (place_at (start_events f ++ ys) 0) (place_at (start_events f ++ ys) (last_of f)) ≡ as_data (first_start f) (last_stop f)
data-read (link_front c) ys = refl
data-read (image_front c d) ys = refl
data-read (call_front c d) ys = refl
data-read (caret_front c d) ys = refl

edit-is : (n m k j : ℕ) (xs ys : List Event) → n ≡ m → k ≡ j → xs ≡ ys → replacing n k xs ≡ replacing m j ys
edit-is n m k j xs ys g h l =
    ap (λ i. replacing i k xs) g ∙ ap (λ i. replacing m i xs) h ∙ ap (λ zs. replacing m j zs) l

-- where events begin with those of a start
module _ (es : List Event) (n : ℕ) (f : Front) (ys : List Event) (there : drop n es ≡ start_events f ++ ys) where
  here : (i j : ℕ) → i ≡ n + j → place_at es i ≡ place_at (start_events f ++ ys) j
  here i j e = place-drop es n i j e ∙ ap (λ xs. place_at xs j) there

  opening-read : replacing n (n + last_of f + 1 - n) (opened (kind_of f) (place_at es n) (place_at es (n + 2)) (place_at es (n + 3)) (place_at es (n + last_of f))) ≡ opening_edit n f
  opening-read =
      edit-is n n (n + last_of f + 1 - n) (suc (last_of f)) (opened (kind_of f) (place_at es n) (place_at es (n + 2)) (place_at es (n + 3)) (place_at es (n + last_of f))) (opened_of f) refl (omega arith)
      (ap (λ p. opened (kind_of f) p (place_at es (n + 2)) (place_at es (n + 3)) (place_at es (n + last_of f))) (here n 0 (omega arith))
      ∙ ap (λ p. opened (kind_of f) (place_at (start_events f ++ ys) 0) p (place_at es (n + 3)) (place_at es (n + last_of f))) (here (n + 2) 2 refl)
      ∙ ap (λ p. opened (kind_of f) (place_at (start_events f ++ ys) 0) (place_at (start_events f ++ ys) 2) p (place_at es (n + last_of f))) (here (n + 3) 3 refl)
      ∙ ap (λ p. opened (kind_of f) (place_at (start_events f ++ ys) 0) (place_at (start_events f ++ ys) 2) (place_at (start_events f ++ ys) 3) p) (here (n + last_of f) (last_of f) refl)
      ∙ opened-read f ys)

  loose-read : loose_edit es (numbers_of n f) ≡ data_edit n f
  loose-read =
      edit-is n n (n + last_of f + 1 - n) (suc (last_of f)) (as_data (place_at es n) (place_at es (n + last_of f))) (as_data (first_start f) (last_stop f)) refl (omega arith)
      (ap (λ p. as_data p (place_at es (n + last_of f))) (here n 0 (omega arith))
      ∙ ap (λ p. as_data (place_at (start_events f ++ ys) 0) p) (here (n + last_of f) (last_of f) refl)
      ∙ data-read f ys)

  behind-start : drop (n + suc (last_of f)) es ≡ ys
  behind-start = drop-part n (suc (last_of f)) es (start_events f) ys there (start-length f)

-- where events begin with those of an end
module _ (es : List Event) (e : ℕ) (back : Code) (ys : List Event) (there : drop e es ≡ end_events back ++ ys) where
  ending-read : replacing e 4 (ended (place_at es e) (place_at es (e + 3))) ≡ replacing e 4 (ended back.start back.stop)
  ending-read =
      ap (λ p. replacing e 4 (ended p (place_at es (e + 3)))) (place-drop es e e 0 (omega arith) ∙ ap (λ xs. place_at xs 0) there)
      ∙ ap (λ p. replacing e 4 (ended back.start p)) (place-drop es e (e + 3) 3 refl ∙ ap (λ xs. place_at xs 3) there)

  behind-end : drop (e + 4) es ≡ ys
  behind-end = drop-part e 4 es (end_events back) ys there refl

-- where the last event of a label stands
last-place : (es : List Event) (e : ℕ) (back : Code) (tail : Tail) (ys : List Event) →
    drop e es ≡ end_events back ++ (appended_from (e + 4) None (tail_row tail) ++ ys) →
    place_at es (e + 4 + event_count (tail_row tail) - 1) ≡ tail_stop back tail
last-place es e back no_tail ys there = place-drop es e (e + 4 + 0 - 1) 3 (omega arith) ∙ ap (λ xs. place_at xs 3) there
last-place es e back (one_tail name a b inside) ys there =
    let inner : List Event = appended_from (e + 4 + 1) None inside in
    let x : Event = event Kind.Exit name b in
    let behind : drop (e + 4) es ≡ event Kind.Enter name a ∷ ((inner ++ x ∷ []) ++ ys) = drop-part e 4 es (end_events back) (appended_from (e + 4) None (group_then name a b inside empty) ++ ys) there refl in
    let split : (inner ++ x ∷ []) ++ ys ≡ inner ++ (x ∷ ys) = append_assoc inner (x ∷ []) ys in
    let here : place_at (inner ++ (x ∷ ys)) (event_count inside) ≡ b = place-skip inner (x ∷ ys) (event_count inside) 0 (omega (arith, length-appended_from (e + 4 + 1) None inside)) in
    place-drop es (e + 4) (e + 4 + (2 + event_count inside + 0) - 1) (suc (event_count inside)) (omega arith)
    ∙ ap (λ xs. place_at xs (suc (event_count inside))) behind
    ∙ ap (λ xs. place_at xs (event_count inside)) split
    ∙ here

closing-read : (es : List Event) (e : ℕ) (f : Front) (back : Code) (tail : Tail) (ys : List Event) →
    drop e es ≡ end_events back ++ (appended_from (e + 4) None (tail_row tail) ++ ys) →
    replacing (e + 4 + event_count (tail_row tail) - 1 + 1) 0 (closed (kind_of f) (place_at es (e + 4 + event_count (tail_row tail) - 1))) ≡ replacing (e + 4 + event_count (tail_row tail)) 0 (closed (kind_of f) (tail_stop back tail))
closing-read es e f back tail ys there =
    edit-is (e + 4 + event_count (tail_row tail) - 1 + 1) (e + 4 + event_count (tail_row tail)) 0 0 (closed (kind_of f) (place_at es (e + 4 + event_count (tail_row tail) - 1))) (closed (kind_of f) (tail_stop back tail)) (omega arith) refl (ap (closed (kind_of f)) (last-place es e back tail ys there))

-- Where brackets stand.

-- the events from n on are those of a label and others
record LabelThere (es : List Event) (n : ℕ) (f : Front) (inside : Brackets) (back : Code) (tail : Tail) (rest : Brackets) (ys : List Event) : Type 0 where
  more : List Event
  start : drop n es ≡ start_events f ++ more
  behind : List Event
  inner : drop (n + suc (last_of f)) es ≡ appended_from (n + suc (last_of f)) None (flat inside) ++ behind
  after : List Event
  end : drop (n + suc (last_of f) + count inside) es ≡ end_events back ++ (appended_from (n + suc (last_of f) + count inside + 4) None (tail_row tail) ++ after)
  rest_there : drop (n + suc (last_of f) + count inside + 4 + event_count (tail_row tail)) es ≡ appended_from (n + suc (last_of f) + count inside + 4 + event_count (tail_row tail)) None (flat rest) ++ ys

label-there : (es : List Event) (n : ℕ) (f : Front) (inside : Brackets) (back : Code) (tail : Tail) (rest : Brackets) (ys : List Event) →
    IsApart inside → drop n es ≡ appended_from n None (flat (label_then f inside back tail rest)) ++ ys →
    LabelThere es n f inside back tail rest ys
label-there es n f inside back tail rest ys h there =
    let k : ℕ = n + suc (last_of f) in
    let e : ℕ = k + count inside in
    let g : ℕ = e + 4 in
    let x : ℕ = g + event_count (tail_row tail) in
    let w : Forest = tail_row tail ⊕ flat rest in
    let z : Forest = end_row back ⊕ w in
    let last : List Event = appended_from x None (flat rest) ++ ys in
    let from_tail : appended_from g None w ++ ys ≡ appended_from g None (tail_row tail) ++ last = row-then g (tail_row tail) (flat rest) ys (tail-last g tail) in
    let from_end : appended_from e None z ++ ys ≡ end_events back ++ (appended_from g None (tail_row tail) ++ last) = row-then e (end_row back) w ys refl ∙ ap (λ xs. end_events back ++ xs) from_tail in
    let from_in : appended_from k None (flat inside ⊕ z) ++ ys ≡ appended_from k None (flat inside) ++ (appended_from e None z ++ ys) = flat-then k inside z ys h in
    let start : drop n es ≡ start_events f ++ (appended_from k None (flat inside ⊕ z) ++ ys) = there ∙ start-then n f (flat inside ⊕ z) ys in
    let inner : drop k es ≡ appended_from k None (flat inside) ++ (appended_from e None z ++ ys) = behind-start es n f (appended_from k None (flat inside ⊕ z) ++ ys) start ∙ from_in in
    let size : length (appended_from k None (flat inside)) ≡ count inside = length-appended_from k None (flat inside) ∙ count-is inside in
    let end : drop e es ≡ end_events back ++ (appended_from g None (tail_row tail) ++ last) = drop-part k (count inside) es (appended_from k None (flat inside)) (appended_from e None z ++ ys) inner size ∙ from_end in
    record {
      more = appended_from k None (flat inside ⊕ z) ++ ys;
      start = start;
      behind = appended_from e None z ++ ys;
      inner = inner;
      after = last;
      end = end;
      rest_there =
          drop-part g (event_count (tail_row tail)) es (appended_from g None (tail_row tail)) last (behind-end es e back (appended_from g None (tail_row tail) ++ last) end) (length-appended_from g None (tail_row tail));
    }

tree-there : (es : List Event) (n : ℕ) (t : Forest) (rest : Brackets) (ys : List Event) → IsApart (tree_then t rest) →
    drop n es ≡ appended_from n None (t ⊕ flat rest) ++ ys →
    drop (n + event_count t) es ≡ appended_from (n + event_count t) None (flat rest) ++ ys
tree-there es n t rest ys h there =
    drop-part n (event_count t) es (appended_from n None t) (appended_from (n + event_count t) None (flat rest) ++ ys) (there ∙ row-then n t (flat rest) ys (h.0 n)) (length-appended_from n None t)

record FailedThere (es : List Event) (n : ℕ) (f : Front) (inside rest : Brackets) (ys : List Event) : Type 0 where
  more : List Event
  start : drop n es ≡ start_events f ++ more
  behind : List Event
  inner : drop (n + suc (last_of f)) es ≡ appended_from (n + suc (last_of f)) None (flat inside) ++ behind
  rest_there : drop (n + suc (last_of f) + count inside) es ≡ appended_from (n + suc (last_of f) + count inside) None (flat rest) ++ ys

failed-there : (es : List Event) (n : ℕ) (f : Front) (inside rest : Brackets) (ys : List Event) → IsApart inside →
    drop n es ≡ appended_from n None (flat (failed_then f inside rest)) ++ ys → FailedThere es n f inside rest ys
failed-there es n f inside rest ys h there =
    let k : ℕ = n + suc (last_of f) in
    let e : ℕ = k + count inside in
    let from_in : appended_from k None (flat inside ⊕ flat rest) ++ ys ≡ appended_from k None (flat inside) ++ (appended_from e None (flat rest) ++ ys) = flat-then k inside (flat rest) ys h in
    let start : drop n es ≡ start_events f ++ (appended_from k None (flat inside ⊕ flat rest) ++ ys) = there ∙ start-then n f (flat inside ⊕ flat rest) ys in
    let inner : drop k es ≡ appended_from k None (flat inside) ++ (appended_from e None (flat rest) ++ ys) = behind-start es n f (appended_from k None (flat inside ⊕ flat rest) ++ ys) start ∙ from_in in
    record {
      more = appended_from k None (flat inside ⊕ flat rest) ++ ys;
      start = start;
      behind = appended_from e None (flat rest) ++ ys;
      inner = inner;
      rest_there =
          drop-part k (count inside) es (appended_from k None (flat inside)) (appended_from e None (flat rest) ++ ys) inner (length-appended_from k None (flat inside) ∙ count-is inside);
    }

record UnusedThere (es : List Event) (n : ℕ) (f : Front) (rest : Brackets) (ys : List Event) : Type 0 where
  more : List Event
  start : drop n es ≡ start_events f ++ more
  rest_there : drop (n + suc (last_of f)) es ≡ appended_from (n + suc (last_of f)) None (flat rest) ++ ys

unused-there : (es : List Event) (n : ℕ) (f : Front) (rest : Brackets) (ys : List Event) →
    drop n es ≡ appended_from n None (flat (unused_then f rest)) ++ ys → UnusedThere es n f rest ys
unused-there es n f rest ys there =
    let k : ℕ = n + suc (last_of f) in
    let start : drop n es ≡ start_events f ++ (appended_from k None (flat rest) ++ ys) = there ∙ start-then n f (flat rest) ys in
    record { more = appended_from k None (flat rest) ++ ys; start = start; rest_there = behind-start es n f (appended_from k None (flat rest) ++ ys) start }

-- The lists.

pub labels_edits-append : (es : List Event) (a b : List Label) →
    labels_edits es (a ++ b) ≡ labels_edits es a ++ labels_edits es b
labels_edits-append es [] b = refl
labels_edits-append es (l ∷ a) b = ap (λ xs. label_edits es l ++ xs) (labels_edits-append es a b)

pub loose_edits-append : (es : List Event) (a b : List (ℕ × ℕ)) →
    loose_edits es (a ++ b) ≡ loose_edits es a ++ loose_edits es b
loose_edits-append es [] b = refl
loose_edits-append es (s ∷ a) b = ap (λ xs. loose_edit es s ∷ xs) (loose_edits-append es a b)

three : (a b c d e f : Edit) (xs ys : List Edit) → a ≡ d → b ≡ e → c ≡ f → xs ≡ ys → a ∷ b ∷ c ∷ xs ≡ d ∷ e ∷ f ∷ ys
three a b c d e f xs ys g h k l = cc

pub labels-read : (es : List Event) (n : ℕ) (b : Brackets) (ys : List Event) → IsApart b →
    drop n es ≡ appended_from n None (flat b) ++ ys → labels_edits es (labels_at n b) ≡ own_labels n b
labels-read es n nothing ys h there = refl
labels-read es n (tree_then t rest) ys h there =
    labels-read es (n + event_count t) rest ys h.1 (tree-there es n t rest ys h there)
labels-read es n (label_then f inside back tail rest) ys h there =
    let l = label-there es n f inside back tail rest ys h.0 there in
    let k : ℕ = n + suc (last_of f) in
    let e : ℕ = k + count inside in
    let x : ℕ = e + 4 + event_count (tail_row tail) in
    let label : Label = record { kind = kind_of f; start = numbers_of n f; end = (e, x - 1) } in
    labels_edits-append es (labels_at k inside) (label ∷ labels_at x rest)
    ∙ ap (λ xs. xs ++ labels_edits es (label ∷ labels_at x rest)) (labels-read es k inside l.behind h.0 l.inner)
    ∙ ap (λ xs. own_labels k inside ++ xs)
    (three _ _ _ _ _ _ _ _ (opening-read es n f l.more l.start) (ending-read es e back (appended_from (e + 4) None (tail_row tail) ++ l.after) l.end) (closing-read es e f back tail l.after l.end) (labels-read es x rest ys h.1 l.rest_there))
labels-read es n (unused_then f rest) ys h there =
    let l = unused-there es n f rest ys there in
    labels-read es (n + suc (last_of f)) rest ys h l.rest_there
labels-read es n (failed_then f inside rest) ys h there =
    let l = failed-there es n f inside rest ys h.0 there in
    let k : ℕ = n + suc (last_of f) in
    let e : ℕ = k + count inside in
    labels_edits-append es (labels_at k inside) (labels_at e rest)
    ∙ ap (λ xs. xs ++ labels_edits es (labels_at e rest)) (labels-read es k inside l.behind h.0 l.inner)
    ∙ ap (λ xs. own_labels k inside ++ xs) (labels-read es e rest ys h.1 l.rest_there)

pub unused-read : (es : List Event) (n : ℕ) (b : Brackets) (ys : List Event) → IsApart b →
    drop n es ≡ appended_from n None (flat b) ++ ys → loose_edits es (unused_at n b) ≡ own_unused n b
unused-read es n nothing ys h there = refl
unused-read es n (tree_then t rest) ys h there =
    unused-read es (n + event_count t) rest ys h.1 (tree-there es n t rest ys h there)
unused-read es n (label_then f inside back tail rest) ys h there =
    let l = label-there es n f inside back tail rest ys h.0 there in
    let k : ℕ = n + suc (last_of f) in
    let x : ℕ = k + count inside + 4 + event_count (tail_row tail) in
    loose_edits-append es (unused_at x rest) (unused_at k inside)
    ∙ ap (λ xs. xs ++ loose_edits es (unused_at k inside)) (unused-read es x rest ys h.1 l.rest_there)
    ∙ ap (λ xs. own_unused x rest ++ xs) (unused-read es k inside l.behind h.0 l.inner)
unused-read es n (unused_then f rest) ys h there =
    let l = unused-there es n f rest ys there in
    let k : ℕ = n + suc (last_of f) in
    loose_edits-append es (unused_at k rest) (numbers_of n f ∷ [])
    ∙ ap (λ x. loose_edits es (unused_at k rest) ++ (x ∷ [])) (loose-read es n f l.more l.start)
    ∙ ap (λ xs. xs ++ data_edit n f ∷ []) (unused-read es k rest ys h l.rest_there)
unused-read es n (failed_then f inside rest) ys h there =
    let l = failed-there es n f inside rest ys h.0 there in
    let k : ℕ = n + suc (last_of f) in
    let e : ℕ = k + count inside in
    loose_edits-append es (unused_at e rest) (unused_at k inside)
    ∙ ap (λ xs. xs ++ loose_edits es (unused_at k inside)) (unused-read es e rest ys h.1 l.rest_there)
    ∙ ap (λ xs. own_unused e rest ++ xs) (unused-read es k inside l.behind h.0 l.inner)

pub failed-read : (es : List Event) (n : ℕ) (b : Brackets) (ys : List Event) → IsApart b →
    drop n es ≡ appended_from n None (flat b) ++ ys → loose_edits es (failed_at n b) ≡ own_failed n b
failed-read es n nothing ys h there = refl
failed-read es n (tree_then t rest) ys h there =
    failed-read es (n + event_count t) rest ys h.1 (tree-there es n t rest ys h there)
failed-read es n (label_then f inside back tail rest) ys h there =
    let l = label-there es n f inside back tail rest ys h.0 there in
    let k : ℕ = n + suc (last_of f) in
    let x : ℕ = k + count inside + 4 + event_count (tail_row tail) in
    loose_edits-append es (failed_at k inside) (failed_at x rest)
    ∙ ap (λ xs. xs ++ loose_edits es (failed_at x rest)) (failed-read es k inside l.behind h.0 l.inner)
    ∙ ap (λ xs. own_failed k inside ++ xs) (failed-read es x rest ys h.1 l.rest_there)
failed-read es n (unused_then f rest) ys h there =
    let l = unused-there es n f rest ys there in
    failed-read es (n + suc (last_of f)) rest ys h l.rest_there
failed-read es n (failed_then f inside rest) ys h there =
    let l = failed-there es n f inside rest ys h.0 there in
    let k : ℕ = n + suc (last_of f) in
    let e : ℕ = k + count inside in
    loose_edits-append es (failed_at k inside) (numbers_of n f ∷ failed_at e rest)
    ∙ ap (λ xs. xs ++ loose_edits es (numbers_of n f ∷ failed_at e rest)) (failed-read es k inside l.behind h.0 l.inner)
    ∙ ap (λ x. own_failed k inside ++ (x ∷ loose_edits es (failed_at e rest))) (loose-read es n f l.more l.start)
    ∙ ap (λ xs. own_failed k inside ++ (data_edit n f ∷ xs)) (failed-read es e rest ys h.1 l.rest_there)
