-- Past a row a tokenizer hands over the row's brackets.
use Rattle.std.proofs.Common.{◌≡◌, ℕ, suc, ◌+◌, ◌-◌, Bool, if◌then◌else◌, None, List, [], ◌∷◌, ◌++◌, length, refl, sym, ap, subst, ◌∙◌, arith, length-append}
use Rattle.markdown_content.specs.Codes.{Code}
use Rattle.markdown_engine.specs.Operations.{scratched}
use Rattle.markdown_engine.specs.PastTree.{past, appended_from, last_link}
use Rattle.markdown_content.specs.Tree.{Forest, ◌⊕◌, event_count}
use Rattle.markdown_event.specs.declared.event.Event.{Event}
use Rattle.markdown_event.specs.declared.resolve.ResolveName.TheVariants as R
use Rattle.markdown_content.specs.declared.label_kind.LabelKind.{LabelKind}
use Rattle.markdown_engine.specs.declared.tokenizer.LabelStart.{LabelStart}
use Rattle.markdown_engine.specs.declared.tokenizer.TokenizeState.{TokenizeState}
use Rattle.markdown_engine.specs.declared.tokenizer.Tokenizer.{Tokenizer}
use Rattle.markdown_engine.proofs.TreeEvents.{appended_from-row, length-appended_from}
use Rattle.markdown_label.specs.LabelFields.{begun, with_kind, as_link, marked, labelled as with_label, loosened}
use Rattle.markdown_label.specs.LabelEnd.{end_tree, ended_at, starts_set, made, end_made, lost_by}
use Rattle.markdown_label.specs.LabelStarts.{kept_start}
use Rattle.markdown_label.proofs.LabelEndLemmas.{events-before, scratch-before}
use Rattle.markdown_model.specs.Passes.{start_tree}
use Rattle.markdown_label.specs.Brackets.{Front, kind_of, start_row, end_row, Tail, tail_row, Brackets, nothing, tree_then, label_then, unused_then, failed_then, flat, IsApart, last_of, count, numbers_of, labels_at, unused_at, failed_at}
use Rattle.markdown_label.specs.LabelsHandedOver.{starts_of, HasBrackets}
use Rattle.markdown_label.specs.BracketsJoined.{behind, IsClosed}
use Rattle.markdown_label.proofs.BracketJoinLemmas.{row-assoc, closed-unused, flat-behind, labels-behind, failed-behind, count-behind, apart-behind, waiting, labelled, failed, started, passed, labelled-flat, labelled-labels, labelled-unused, labelled-failed}
use Rattle.markdown_label.proofs.BracketJoinLemmas.{waiting-unused, failed-flat, failed-labels, failed-unused, failed-failed, started-flat, started-labels, started-unused, started-failed, passed-flat, passed-labels, passed-unused, passed-failed}
use Rattle.markdown_label.proofs.EventsOfBrackets.{count-is, flat-last, start-count}
use Rattle.markdown_run_text.specs.Row.{Mark, begins, makes, loses, Row, row_end, row_then, past_tree, past_mark, past_row, IsMarkAt, IsRowAt, kinds_past}
use Rattle.markdown_run_text.specs.RowStart.{IsFreshRow}
use Rattle.markdown_run_text.specs.OpenStarts.{Opened, none_waits, waits, assembled, put, put_tree, made_front, tail_of, marked_with, opened_by, brackets_of}
use Rattle.markdown_run_text.proofs.OpenStartLemmas.{kinds_in, IsClosedIn, assembled-put, kinds-put, closed-put, begins-as, makes-as, kinds-marked, closed-marked}

-- Events.

-- a tree behind the events of brackets
events-then : (b : Brackets) (t : Forest) (es : List Event) → IsApart b → es ≡ appended_from 0 None (flat b) →
    es ++ appended_from (length es) None t ≡ appended_from 0 None (flat b ⊕ t)
events-then b t es apart e = grind (arith, length-appended_from, flat-last, appended_from-row)

long-events : (b : Brackets) (es : List Event) → es ≡ appended_from 0 None (flat b) → length es ≡ count b
long-events b es e = ap length e ∙ length-appended_from 0 None (flat b) ∙ count-is b

-- A tree.

pub tree-step : (b : Brackets) (t : Forest) (T : Tokenizer) → ((n : ℕ) → last_link n None t ≡ None) → HasBrackets b T.tokenize_state T.events
    → HasBrackets (passed b t) (past_tree t T).tokenize_state (past_tree t T).events
unfolding past past_tree
tree-step b t T apart h = grind (arith, apart-behind, events-then, passed-flat, passed-labels, passed-unused, passed-failed)

-- A start.

begun-step : (b : Brackets) (f : Front) (T : Tokenizer) → HasBrackets b T.tokenize_state T.events
    → (let U : Tokenizer = kept_start (kind_of f) (event_count (start_row f)) (past None (start_row f) T) in HasBrackets (started b f) U.tokenize_state U.events)
unfolding past scratched
begun-step b f T h =
    let V : Tokenizer = past None (start_row f) T in
    let m : ℕ = length V.events - event_count (start_row f) in
    let n : ℕ = length V.events - 1 in
    let S : Tokenizer = scratched (begun (kind_of f) m n T.tokenize_state) V in
    let state = scratch-before R.Label S in
    let long : length V.events ≡ count b + suc (last_of f) = omega (arith, length-append T.events (appended_from (length T.events) None (start_row f)), long-events b T.events h.events, length-appended_from (length T.events) None (start_row f), start-count f) in
    let first : m ≡ count b = omega (arith, long, start-count f) in
    let last : n ≡ count b + last_of f = omega (arith, long) in
    record {
      apart = apart-behind b (unused_then f nothing) h.apart tt;
      events = events-before R.Label S ∙ events-then b (start_row f) T.events h.apart h.events ∙ ap (appended_from 0 None) (sym (started-flat b f));
      labels = ap (λ s. s.labels) state ∙ h.labels ∙ sym (started-labels b f);
      unused = ap (λ s. starts_of s.label_starts) state ∙ (λ i. (first i, last i) ∷ h.unused i) ∙ sym (started-unused b f);
      failed = ap (λ s. starts_of s.label_starts_loose) state ∙ h.failed ∙ sym (started-failed b f);
    }

-- An end.

-- as it leaves the events
abbrev ended_events : List Event → Forest → Forest → List Event
ended_events es t u =
    (es ++ appended_from (length es) None t) ++ appended_from (length (es ++ appended_from (length es) None t)) None u

-- two trees behind the events of brackets
rows-then : (b : Brackets) (t u : Forest) (es : List Event) → IsApart b → ((n : ℕ) → last_link n None t ≡ None) →
    es ≡ appended_from 0 None (flat b) → ended_events es t u ≡ appended_from 0 None (flat b ⊕ (t ⊕ u))
rows-then b t u es apart last e = grind (arith, events-then b t es, events-then (passed b t) u, passed-flat b t, apart-behind b (tree_then t nothing), row-assoc (flat b) t u)

long-ended : (es : List Event) (t u : Forest) → length (ended_events es t u) ≡ length es + event_count t + event_count u
long-ended es t u =
    let xs : List Event = es ++ appended_from (length es) None t in
    omega (arith, length-append xs (appended_from (length xs) None u), length-append es (appended_from (length es) None t), length-appended_from (length es) None t, length-appended_from (length xs) None u)

made-events : (back : List Code) (kind : LabelKind) (tail : Forest) (T : Tokenizer) →
    (end_made back kind tail T).events ≡ ended_events T.events (end_tree back) tail
unfolding past scratched made end_made
made-events back kind tail T = events-before R.Label _

abbrev made_state : LabelKind → ℕ → ℕ → TokenizeState → TokenizeState
made_state kind n last s =
    let starts = with_kind kind s.label_starts in with_label starts last (starts_set starts (ended_at n s))

made-fields : (back : List Code) (kind : LabelKind) (tail : Forest) (T : Tokenizer) →
    (end_made back kind tail T).tokenize_state ≡ made_state kind (length T.events) (length (ended_events T.events (end_tree back) tail) - 1) T.tokenize_state
unfolding past scratched made end_made
made-fields back kind tail T = scratch-before R.Label _

-- the fields, where the last start that waits has these numbers
record HasMade (kind : LabelKind) (x y : ℕ × ℕ) (ns : List (ℕ × ℕ)) (s U : TokenizeState) : Type 0 where
  labels : U.labels ≡ s.labels ++ record { kind = kind; start = x; end = y } ∷ []
  unused : starts_of U.label_starts ≡ ns
  failed : U.label_starts_loose ≡ s.label_starts_loose

starts-marked : (ls : List LabelStart) → starts_of (marked ls) ≡ starts_of ls
starts-marked [] = refl
starts-marked (l ∷ ls) = ap (λ ns. l.start ∷ ns) (starts-marked ls)

starts-barred : (b : Bool) (ls : List LabelStart) → starts_of (if b then ls else marked ls) ≡ starts_of ls
starts-barred b ls = grind (arith, starts-marked)

first-of : (a b : ℕ × ℕ) (xs ys : List (ℕ × ℕ)) → a ∷ xs ≡ b ∷ ys → a ≡ b
first-of a b xs ys e = cc

rest-same : (a b : ℕ × ℕ) (xs ys : List (ℕ × ℕ)) → a ∷ xs ≡ b ∷ ys → xs ≡ ys
rest-same a b xs ys e = cc

none-then : (x : ℕ × ℕ) (ns : List (ℕ × ℕ)) → ◌≡◌ {A = List (ℕ × ℕ)} [] (x ∷ ns) → ⊥
none-then x ns e = cc

has-made : (kind : LabelKind) (x : ℕ × ℕ) (ns : List (ℕ × ℕ)) (n last : ℕ) (s : TokenizeState) (ls : List LabelStart) → starts_of ls ≡ x ∷ ns
    → HasMade kind x (n, last) ns s (with_label (with_kind kind ls) last (starts_set (with_kind kind ls) (ended_at n s)))
has-made kind x ns n last s ls e = grind (arith, none-then, first-of, starts-barred, rest-same)

-- a start that waits as one with the same codes
module _ (a : Brackets) (f g : Front) (inside : Brackets) (last : last_of g ≡ last_of f) where
  same-flat : start_row g ≡ start_row f → flat (waiting a g inside) ≡ flat (waiting a f inside)
  same-flat tree = grind (arith, flat-behind)

  same-labels : labels_at 0 (waiting a g inside) ≡ labels_at 0 (waiting a f inside)
  same-labels = grind (arith, labels-behind)

  same-failed : failed_at 0 (waiting a g inside) ≡ failed_at 0 (waiting a f inside)
  same-failed = grind (arith, failed-behind)

  same-number : numbers_of (count a) f ≡ numbers_of (count a) g
  same-number = ap (λ n. (count a, count a + n)) (sym last)

count-waiting : (a : Brackets) (f : Front) (inside : Brackets) →
    count (waiting a f inside) ≡ count a + (suc (last_of f) + count inside)
count-waiting a f inside = count-behind a (unused_then f inside)

-- a label is made
made-step : (a : Brackets) (f g : Front) (inside : Brackets) (c : Code) (tail : Tail) (T : Tokenizer) → start_row g ≡ start_row f → last_of g ≡ last_of f → IsApart a → IsApart inside → IsClosed inside
    → HasBrackets (waiting a f inside) T.tokenize_state T.events
    → (let U : Tokenizer = end_made (c ∷ []) (kind_of g) (tail_row tail) T in HasBrackets (labelled a g inside c tail) U.tokenize_state U.events)
made-step a f g inside c tail T tree last aparta apart closed h =
    let b : Brackets = waiting a f inside in
    let u : Forest = tail_row tail in
    let both : ended_events T.events (end_row c) u ≡ appended_from 0 None (flat b ⊕ (end_row c ⊕ u)) = rows-then b (end_row c) u T.events h.apart (λ n. refl) h.events in
    let long : length T.events ≡ count a + suc (last_of g) + count inside = omega (arith, long-events b T.events h.events, count-waiting a f inside, last) in
    let n : ℕ = length (ended_events T.events (end_row c) u) - 1 in
    let end : n ≡ count a + suc (last_of g) + count inside + 4 + event_count u - 1 = omega (arith, long, long-ended T.events (end_row c) u) in
    let waits : starts_of T.tokenize_state.label_starts ≡ numbers_of (count a) g ∷ unused_at 0 a = h.unused ∙ waiting-unused a f inside closed ∙ ap (λ p. p ∷ unused_at 0 a) (same-number a f g inside last) in
    let state = made-fields (c ∷ []) (kind_of g) u T in
    let m = has-made (kind_of g) (numbers_of (count a) g) (unused_at 0 a) (length T.events) n T.tokenize_state T.tokenize_state.label_starts waits in
    record {
      apart = apart-behind a (label_then g inside c tail nothing) aparta (apart, tt);
      events = made-events (c ∷ []) (kind_of g) u T ∙ both ∙ ap (λ t. appended_from 0 None (t ⊕ (end_row c ⊕ u))) (sym (same-flat a f g inside last tree)) ∙ ap (appended_from 0 None) (sym (labelled-flat a g inside c tail));
      labels = ap (λ s. s.labels) state ∙ m.labels ∙ (λ i. (h.labels ∙ sym (same-labels a f g inside last)) i ++ record { kind = kind_of g; start = numbers_of (count a) g; end = (long i, end i) } ∷ []) ∙ sym (labelled-labels a g inside c tail);
      unused = ap (λ s. starts_of s.label_starts) state ∙ m.unused ∙ sym (labelled-unused a g inside c tail closed);
      failed = ap (λ s. starts_of s.label_starts_loose) state ∙ ap starts_of m.failed ∙ h.failed ∙ sym (same-failed a f g inside last) ∙ sym (labelled-failed a g inside c tail);
    }

-- an end makes none: its fields

record HasLost (x : ℕ × ℕ) (ns : List (ℕ × ℕ)) (s U : TokenizeState) : Type 0 where
  labels : U.labels ≡ s.labels
  unused : starts_of U.label_starts ≡ ns
  failed : starts_of U.label_starts_loose ≡ starts_of s.label_starts_loose ++ x ∷ []

starts-more : (ls : List LabelStart) (l : LabelStart) → starts_of (ls ++ l ∷ []) ≡ starts_of ls ++ l.start ∷ []
starts-more [] l = refl
starts-more (k ∷ ls) l = ap (λ ns. k.start ∷ ns) (starts-more ls l)

has-lost-by : (b : Bool) (x : ℕ × ℕ) (ns : List (ℕ × ℕ)) (s : TokenizeState) (l : LabelStart) (ls : List LabelStart) → l.start ∷ starts_of ls ≡ x ∷ ns
    → HasLost x ns s (loosened (if b then l ∷ ls else as_link (l ∷ ls)) s)
has-lost-by b x ns s l ls e = grind (arith, rest-same, starts-more, first-of)

has-lost : (x : ℕ × ℕ) (ns : List (ℕ × ℕ)) (s : TokenizeState) (ls : List LabelStart) → starts_of ls ≡ x ∷ ns →
    HasLost x ns s (lost_by ls s)
has-lost x ns s ls e = grind (arith, none-then, has-lost-by)

-- and all of it
loosened-step : (a : Brackets) (f : Front) (inside : Brackets) (T : Tokenizer) → IsApart a → IsApart inside → IsClosed inside → HasBrackets (waiting a f inside) T.tokenize_state T.events
    → (let U : Tokenizer = scratched (lost_by T.tokenize_state.label_starts T.tokenize_state) T in HasBrackets (failed a f inside) U.tokenize_state U.events)
unfolding scratched
loosened-step a f inside T aparta apart closed h = grind (arith, has-lost, waiting-unused, apart-behind, failed-flat, failed-labels, failed-unused, failed-failed)

-- Marks and rows.

apart-left : (b c : Brackets) → IsApart (behind b c) → IsApart b
apart-left nothing c h = tt
apart-left (tree_then t rest) c h = (h.0, apart-left rest c h.1)
apart-left (label_then f inside back tail rest) c h = (h.0, apart-left rest c h.1)
apart-left (unused_then f rest) c h = apart-left rest c h
apart-left (failed_then f inside rest) c h = (h.0, apart-left rest c h.1)

apart-right : (b c : Brackets) → IsApart (behind b c) → IsApart c
apart-right nothing c h = h
apart-right (tree_then t rest) c h = apart-right rest c h.1
apart-right (label_then f inside back tail rest) c h = apart-right rest c h.1
apart-right (unused_then f rest) c h = apart-right rest c h
apart-right (failed_then f inside rest) c h = apart-right rest c h.1

abbrev HasOpened : Opened → Tokenizer → Type 0
HasOpened o T = HasBrackets (assembled o) T.tokenize_state T.events

put-step : (c : Brackets) (o : Opened) (U : Tokenizer) →
    HasBrackets (behind (assembled o) c) U.tokenize_state U.events → HasOpened (put c o) U
put-step c o U h = subst (λ b. HasBrackets b U.tokenize_state U.events) (sym (assembled-put c o)) h

lost-nothing : (ls : List LabelStart) (s : TokenizeState) → starts_of ls ≡ [] → lost_by ls s ≡ s
lost-nothing ls s e = grind (arith, none-then)

same-step : (b : Brackets) (T : Tokenizer) → HasOpened (none_waits b) T → HasOpened (none_waits b) (scratched T.tokenize_state T)
unfolding scratched
same-step b T h = h

-- a mark
mark-step : (mark : Mark) (o : Opened) (T : Tokenizer) → IsMarkAt (kinds_in o) mark → IsClosedIn o → HasOpened o T →
    HasOpened (marked_with mark o) (past_mark mark T)
unfolding past_mark
mark-step (begins kind marker) o T at closed h =
    let b = begins-as kind marker at.0 in
    let here : HasOpened (waits o b.front nothing) (kept_start (kind_of b.front) (event_count (start_row b.front)) (past None (start_row b.front) T)) = begun-step (assembled o) b.front T h in
    let there : HasOpened (waits o b.front nothing) (kept_start kind (event_count (start_tree kind marker)) (past None (start_tree kind marker) T)) =
    subst (λ k. HasOpened (waits o b.front nothing) (kept_start k (event_count (start_tree kind marker)) (past None (start_tree kind marker) T)))
    (sym b.is_kind)
    (subst (λ t. HasOpened (waits o b.front nothing) (kept_start (kind_of b.front) (event_count t) (past None t T))) (sym b.tree) here) in
    subst (λ p. HasOpened p (past_mark (begins kind marker) T)) (sym (b.opens o)) there
mark-step (makes back kind tail) o T at closed h =
    let m = makes-as back kind tail o at in
    let g : Front = made_front kind m.start in
    let a : Brackets = assembled m.before in
    let held : HasBrackets (waiting a m.start m.inside) T.tokenize_state T.events = subst (λ p. HasOpened p T) m.waiting h in
    let shut = subst IsClosedIn m.waiting closed in
    let here : HasBrackets (labelled a g m.inside m.code (tail_of tail)) (end_made (m.code ∷ []) (kind_of g) (tail_row (tail_of tail)) T).tokenize_state (end_made (m.code ∷ []) (kind_of g) (tail_row (tail_of tail)) T).events =
    made-step a m.start g m.inside m.code (tail_of tail) T m.tree m.last (apart-left a (unused_then m.start m.inside) held.apart) (apart-right a (unused_then m.start m.inside) held.apart) shut.1 held in
    let p : Opened = put (label_then g m.inside m.code (tail_of tail) nothing) m.before in
    let there : HasOpened p (end_made (m.code ∷ []) (kind_of g) (tail_row (tail_of tail)) T) =
    put-step (label_then g m.inside m.code (tail_of tail) nothing) m.before (end_made (m.code ∷ []) (kind_of g) (tail_row (tail_of tail)) T) here in
    subst (λ q. HasOpened q (end_made back kind tail T)) (sym m.closes)
    (subst (λ xs. HasOpened p (end_made xs kind tail T)) (sym m.one)
    (subst (λ k. HasOpened p (end_made (m.code ∷ []) k tail T)) (sym m.is_kind)
    (subst (λ t. HasOpened p (end_made (m.code ∷ []) (kind_of g) t T)) (sym m.is_tail) there)))
mark-step loses (none_waits b) T at closed h = grind (arith, lost-nothing, closed-unused, same-step)
mark-step loses (waits o f inside) T at closed h = grind (arith, put-step (failed_then f inside nothing) o (scratched (lost_by T.tokenize_state.label_starts T.tokenize_state) T), loosened-step (assembled o) f inside T, apart-left (assembled o) (unused_then f inside), apart-right (assembled o) (unused_then f inside))

-- Rows.

pub tree-put : (t : Forest) (o : Opened) (T : Tokenizer) → ((n : ℕ) → last_link n None t ≡ None) → HasOpened o T →
    HasOpened (put_tree t o) (past_tree t T)
tree-put t o T apart h = put-step (tree_then t nothing) o (past_tree t T) (tree-step (assembled o) t T apart h)

pub row-step : (row : Row) (o : Opened) (T : Tokenizer) → IsRowAt (kinds_in o) row → IsClosedIn o → HasOpened o T →
    HasOpened (opened_by row o) (past_row row T)
row-step (row_end t) o T at closed h = tree-put t o T at.apart h
row-step (row_then t mark rest) o T at closed h =
    let p : Opened = put_tree t o in
    let same : kinds_in p ≡ kinds_in o = kinds-put (tree_then t nothing) o in
    let here : IsMarkAt (kinds_in p) mark = subst (λ ks. IsMarkAt ks mark) (sym same) at.1.0 in
    let shut : IsClosedIn p = closed-put (tree_then t nothing) o tt closed in
    let next : kinds_in (marked_with mark p) ≡ kinds_past mark (kinds_in o) = kinds-marked mark p here ∙ ap (kinds_past mark) same in
    row-step rest (marked_with mark p) (past_mark mark (past_tree t T)) (subst (λ ks. IsRowAt ks rest) (sym next) at.1.1) (closed-marked mark p here shut)
    (mark-step mark p (past_tree t T) here shut (tree-put t o T at.0.apart h))

-- from a run's start on
pub row-brackets : (row : Row) (T : Tokenizer) → IsRowAt [] row → IsFreshRow T →
    HasBrackets (brackets_of row) (past_row row T).tokenize_state (past_row row T).events
row-brackets row T at h = grind (arith, row-step row (none_waits nothing) T)
