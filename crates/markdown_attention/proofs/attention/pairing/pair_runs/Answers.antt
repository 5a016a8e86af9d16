use Rattle.std.proofs.Common.{◌≡◌, ℕ, ◌+◌, ◌-◌, ◌*◌, ◌<◌, ◌≤◌, ◌⊎◌, ◌&&◌, cond, true, false, eqb, ltb, set, length, replicate, take, drop, get_or, refl, sym, ◌∙◌, ap, subst, arith, List, inl, inr}
use Rattle.std.proofs.lemmas.Bool.{cases_lt}
use Rattle.std.proofs.lemmas.List.{drop-replicate, get_or_read, length-replicate, take-replicate}
use Rattle.markdown_attention.specs.NumberedPairs.{row_of, run_at, markers_left, after_taking}
use Rattle.markdown_attention.specs.declared.attention.runs.Sequence.{Sequence}
use Rattle.markdown_attention.specs.OpenRuns.{class_of, kind_of, list_of, mark_of, WalkFound, WalkEnded, IsCut, IsClosing}
use Rattle.markdown_attention.proofs.OpenRunLists.{by-marker}
use Rattle.markdown_attention.proofs.TextLines.{layout_of, line_in, line-some}
use Rattle.markdown_attention.proofs.RemainingSizes.{markers_taking, length_taking}
use Rattle.markdown_attention.proofs.PairScanByLists.{inv_start}
use Rattle.markdown_attention.proofs.PairScanInvariant.{all-within, all-once}
use Rattle.markdown_attention.proofs.PairScanTurns.{scanned-all, paid-all, looks-all, end_turn, pair_turn, fits, key_is, small_runs, some_key, zeros, length_if, less}
use Rattle.markdown_attention.proofs.PairTables.{InTables, line-small, in-tables, list-small, mark-small, lists-small, probes-room, number-small, still-in-turn, still-earlier, fewer-turns, lent-long, lent-down, lent-down-all, lent-has, lent-above}
use Rattle.markdown_attention.proofs.attention.pairing.pair_runs.Goals as goal
use Rattle.markdown_attention.proofs.attention.pairing.pair_runs.Goals.{After-walk, After-index-marks-at, After-class_number-class}

pub loop-closer-init : goal.loop-closer-init
loop-closer-init c =
    let count : ℕ = c.count-count.result in
    let all : c.deref_mut.result.now ≡ replicate (count * 21) 0 = c.deref_mut.ensures.value ∙ c.in_ok-tables.ensures in
    let low : count * 3 ≤ count * 21 = omega arith in
    let rest : count * 21 - count * 3 ≡ c.in_ok-found.found.count * 18 = omega (arith, c.count-count.ensures) in
    let hs : c.split_at_mut-heads.result.0.now ≡ replicate (c.in_ok-found.found.count * 3) 0 =
    c.split_at_mut-heads.ensures.front ∙ ap (λ (xs : List ℕ). take (count * 3) xs) all ∙ take-replicate (count * 3) (count * 21) 0 low ∙ ap (λ (n : ℕ). replicate (n * 3) 0) c.count-count.ensures in
    let ms : c.split_at_mut-heads.result.1.now ≡ replicate (c.in_ok-found.found.count * 18) 0 =
    c.split_at_mut-heads.ensures.back ∙ ap (λ (xs : List ℕ). drop (count * 3) xs) all ∙ drop-replicate (count * 3) (count * 21) 0 ∙ ap (λ (n : ℕ). replicate n 0) rest in
    rw (hs, ms, c.in_ok-older.ensures.items, c.in_ok-pairs.ensures.items, c.requires.start, c.requires.unread)
    (record {
      inv = inv_start (layout_of c.in_ok-found.found.of_rows c.in_ok-found.found.count c.in_ok-found.ensures.are) c.args.options c.args.runs.now.list _ _ c.requires.whole (zeros (c.in_ok-found.found.count * 3)) (zeros (c.in_ok-found.found.count * 18));
      heads_length = length-replicate (c.in_ok-found.found.count * 3) 0;
      marks_length = length-replicate (c.in_ok-found.found.count * 18) 0;
    })

here : (c : After-index-marks-at) → c.loop-closer.runs.turn < length c.args.runs.now.list
here c =
    let e = c.loop-closer.invariant.inv.stands.same_length in
    let w = c.in-Some.ensures.within.0 refl in
    omega (arith, e, w)

-- the line of each run is one of those
below : (c : After-index-marks-at) → (r : ℕ) → r < length c.args.runs.now.list →
    line_in c.in_ok-found.found.of_rows c.in_ok-found.found.count (row_of (run_at c.args.runs.now.list r).text) < c.in_ok-found.found.count
below c r inside =
    let row : ℕ = row_of (run_at c.args.runs.now.list r).text in
    let s = line-some c.in_ok-found.found.of_rows c.in_ok-found.found.count row (c.in_ok-found.ensures.some r inside) in
    let w = c.in_ok-found.ensures.are.within row in
    omega arith

keys : (c : After-index-marks-at) → (r : ℕ) → r < length c.args.runs.now.list →
    list_of (line_in c.in_ok-found.found.of_rows c.in_ok-found.found.count) c.args.runs.now.list r < length c.loop-closer.heads
keys c = some_key (layout_of c.in_ok-found.found.of_rows c.in_ok-found.found.count c.in_ok-found.ensures.are) c.args.runs.now.list c.in_ok-found.found.count c.loop-closer.heads c.loop-closer.invariant.heads_length (below c)

marks_six : (c : After-index-marks-at) → length c.loop-closer.marks ≡ length c.loop-closer.heads * 6
marks_six c =
    let a = c.loop-closer.invariant.heads_length in let b = c.loop-closer.invariant.marks_length in omega arith

line_is : (c : After-index-marks-at) → c.line_of-line.result ≡ line_in c.in_ok-found.found.of_rows c.in_ok-found.found.count (row_of c.in-Some.closer.text)
line_is c =
    let some : 0 < get_or c.in_ok-found.found.of_rows (row_of c.in-Some.closer.text) 0 = omega (arith, c.line_of-line.ensures) in
    let s = line-some c.in_ok-found.found.of_rows c.in_ok-found.found.count (row_of c.in-Some.closer.text) some in
    omega (arith, s, c.line_of-line.ensures)

list_is : (c : After-index-marks-at) → c.list_of-list.result ≡ list_of (line_in c.in_ok-found.found.of_rows c.in_ok-found.found.count) c.args.runs.now.list c.loop-closer.runs.turn
list_is c =
    c.list_of-list.ensures
    ∙ ap (λ x. x * 3 + kind_of c.in-Some.closer.marker) (line_is c)
    ∙ key_is (layout_of c.in_ok-found.found.of_rows c.in_ok-found.found.count c.in_ok-found.ensures.are) c.args.options c.args.runs.now.list c.loop-closer.runs.list c.loop-closer.runs.turn c.loop-closer.pairs.items c.loop-closer.runs.probes
    c.loop-closer.heads c.loop-closer.older.items c.loop-closer.marks c.loop-closer.invariant.inv (here c) (by-marker c.args.runs.now.list c.requires.markers) (keys c) (marks_six c)
    c.in-Some.closer c.in-Some.ensures.run

class_is : (c : After-index-marks-at) → c.class_number-class.result
    ≡ class_of c.args.options (run_at c.loop-closer.runs.list c.loop-closer.runs.turn) (run_at c.loop-closer.runs.list c.loop-closer.runs.turn).remaining
class_is c = c.class_number-class.ensures.is ∙ ap (λ r. class_of c.args.options r r.remaining) c.in-Some.ensures.run

head_is : (c : After-index-marks-at) →
    c.index-heads-list.result ≡ get_or c.loop-closer.heads (list_of (line_in c.in_ok-found.found.of_rows c.in_ok-found.found.count) c.args.runs.now.list c.loop-closer.runs.turn) 0
head_is c =
    let inside : c.list_of-list.result < length c.loop-closer.heads = rw (list_is c) (keys c c.loop-closer.runs.turn (here c)) in
    get_or_read c.loop-closer.heads c.list_of-list.result c.index-heads-list.result inside c.index-heads-list.is 0
    ∙ ap (λ x. get_or c.loop-closer.heads x 0) (list_is c)

mark_is : (c : After-index-marks-at) → c.index-marks-at.result
    ≡ mark_of c.loop-closer.marks (list_of (line_in c.in_ok-found.found.of_rows c.in_ok-found.found.count) c.args.runs.now.list c.loop-closer.runs.turn)
    (class_of c.args.options (run_at c.loop-closer.runs.list c.loop-closer.runs.turn) (run_at c.loop-closer.runs.list c.loop-closer.runs.turn).remaining)
mark_is c =
    let inside : c.list_of-list.result < length c.loop-closer.heads = rw (list_is c) (keys c c.loop-closer.runs.turn (here c)) in
    let six = marks_six c in
    let small = c.class_number-class.ensures.small in
    let in_marks : c.list_of-list.result * 6 + c.class_number-class.result < length c.loop-closer.marks = omega arith in
    get_or_read c.loop-closer.marks (c.list_of-list.result * 6 + c.class_number-class.result) c.index-marks-at.result in_marks c.index-marks-at.is 0
    ∙ ap (λ x. get_or c.loop-closer.marks (x * 6 + c.class_number-class.result) 0) (list_is c)
    ∙ ap (λ x. get_or c.loop-closer.marks (list_of (line_in c.in_ok-found.found.of_rows c.in_ok-found.found.count) c.args.runs.now.list c.loop-closer.runs.turn * 6 + x) 0) (class_is c)

pub line_of-line-requires-clause-row : goal.line_of-line-requires-clause-row
line_of-line-requires-clause-row c =
    let e = c.loop-closer.invariant.inv.stands.same_length in
    let w = c.in-Some.ensures.within.0 refl in
    let here : c.loop-closer.runs.turn < length c.args.runs.now.list = omega (arith, e, w) in
    let text = ap (λ (r : Sequence). r.text) (c.in-Some.ensures.run ∙ c.loop-closer.invariant.inv.stands.stands c.loop-closer.runs.turn here) in
    subst (λ x. row_of x < length c.in_ok-found.found.of_rows) (sym text) (c.in_ok-found.ensures.within c.loop-closer.runs.turn here)

pub line_of-line-requires-clause-some : goal.line_of-line-requires-clause-some
line_of-line-requires-clause-some c =
    let e = c.loop-closer.invariant.inv.stands.same_length in
    let w = c.in-Some.ensures.within.0 refl in
    let here : c.loop-closer.runs.turn < length c.args.runs.now.list = omega (arith, e, w) in
    let text = ap (λ (r : Sequence). r.text) (c.in-Some.ensures.run ∙ c.loop-closer.invariant.inv.stands.stands c.loop-closer.runs.turn here) in
    subst (λ x. 0 < get_or c.in_ok-found.found.of_rows (row_of x) 0) (sym text) (c.in_ok-found.ensures.some c.loop-closer.runs.turn here)

pub list_of-list-requires : goal.list_of-list-requires
list_of-list-requires c =
    line-small c.line_of-line.result c.in_ok-found.found.count (get_or c.in_ok-found.found.of_rows (row_of c.in-Some.closer.text) 0) (length c.in_ok-tables.tables.items) c.in_ok-tables.tables.len c.in_ok-tables.tables.cap c.line_of-line.ensures (c.in_ok-found.ensures.are.within (row_of c.in-Some.closer.text))
    (ap length c.in_ok-tables.ensures ∙ length-replicate (c.count-count.result * 21) 0 ∙ ap (λ (n : ℕ). n * 21) c.count-count.ensures) c.in_ok-tables.tables.ok c.in_ok-tables.tables.small

-- the run in turn has its lists and its mark in the tables
tables : (c : After-class_number-class) → InTables c.line_of-line.result c.list_of-list.result c.class_number-class.result (length c.loop-closer.heads) (length c.loop-closer.marks)
tables c =
    in-tables c.line_of-line.result c.list_of-list.result c.class_number-class.result c.in_ok-found.found.count (get_or c.in_ok-found.found.of_rows (row_of c.in-Some.closer.text) 0) c.in-Some.closer.marker (length c.loop-closer.heads) (length c.loop-closer.marks) (length c.in_ok-tables.tables.items) c.in_ok-tables.tables.len c.in_ok-tables.tables.cap c.line_of-line.ensures (c.in_ok-found.ensures.are.within (row_of c.in-Some.closer.text)) c.list_of-list.ensures c.class_number-class.ensures.small c.loop-closer.invariant.heads_length c.loop-closer.invariant.marks_length
    (ap length c.in_ok-tables.ensures ∙ length-replicate (c.count-count.result * 21) 0 ∙ ap (λ (n : ℕ). n * 21) c.count-count.ensures) c.in_ok-tables.tables.ok c.in_ok-tables.tables.small

pub overflow_mul-at : goal.overflow_mul-at
overflow_mul-at c = list-small _ _ _ _ _ (tables c)

pub overflow_add-at : goal.overflow_add-at
overflow_add-at c = mark-small _ _ _ _ _ (tables c)

pub walk-requires-clause-run : goal.walk-requires-clause-run
walk-requires-clause-run c = c.in-Some.ensures.run

pub walk-requires-clause-in_turn : goal.walk-requires-clause-in_turn
walk-requires-clause-in_turn c = c.in-Some.ensures.within.0 refl

pub walk-requires-clause-older : goal.walk-requires-clause-older
walk-requires-clause-older c =
    lent-long c.loop-closer.older.items c.deref.result.now c.loop-closer.runs.turn c.deref.ensures.value c.loop-closer.invariant.inv.lists.older_length

pub walk-requires-clause-down : goal.walk-requires-clause-down
walk-requires-clause-down c =
    lent-down c.loop-closer.older.items c.deref.result.now c.loop-closer.runs.turn c.deref.ensures.value c.loop-closer.invariant.inv.lists.older_length c.loop-closer.invariant.inv.lists.older_down

pub walk-requires-clause-head : goal.walk-requires-clause-head
walk-requires-clause-head c =
    rw (head_is c) (c.loop-closer.invariant.inv.lists.heads_le (list_of (line_in c.in_ok-found.found.of_rows c.in_ok-found.found.count) c.args.runs.now.list c.loop-closer.runs.turn) (keys c c.loop-closer.runs.turn (here c)))

pub walk-requires-clause-small : goal.walk-requires-clause-small
walk-requires-clause-small c =
    small_runs (layout_of c.in_ok-found.found.of_rows c.in_ok-found.found.count c.in_ok-found.ensures.are) c.args.options c.args.runs.now.list c.loop-closer.runs.list c.loop-closer.runs.turn c.loop-closer.pairs.items c.loop-closer.runs.probes
    c.loop-closer.heads c.loop-closer.older.items c.loop-closer.marks c.loop-closer.invariant.inv c.requires.whole c.requires.small

pub walk-requires-clause-room : goal.walk-requires-clause-room
walk-requires-clause-room c =
    let inv = c.loop-closer.invariant.inv in
    probes-room c.loop-closer.runs.probes c.loop-closer.runs.turn (length c.loop-closer.pairs.items) (length c.args.runs.now.list) (markers_left c.loop-closer.runs.list) (markers_left c.args.runs.now.list) inv.most inv.within c.requires.count inv.half c.requires.small

pub note_run-requires-clause-at : goal.note_run-requires-clause-at
note_run-requires-clause-at c = (tables (goal.at.note_run-requires-clause-at c).After-class_number-class).mark_in

pub note_run-requires-clause-list : goal.note_run-requires-clause-list
note_run-requires-clause-list c = (tables (goal.at.note_run-requires-clause-list c).After-class_number-class).list_in

pub note_run-requires-clause-number : goal.note_run-requires-clause-number
note_run-requires-clause-number c =
    number-small c.in-Some.closer.number c.loop-closer.runs.turn (length c.args.runs.now.list) c.in-Some.ensures.number c.loop-closer.invariant.inv.within c.requires.count

pub advance-requires : goal.advance-requires
advance-requires c = still-in-turn c.loop-closer.runs c.walk.new.runs c.walk.ensures.list c.walk.ensures.turn (c.in-Some.ensures.within.0 refl)

pub loop-closer-smaller-in-None : goal.loop-closer-smaller-in-None
loop-closer-smaller-in-None c =
    fewer-turns c.loop-closer.runs c.walk.new.runs c.walk.ensures.list c.walk.ensures.turn c.advance.new.self (c.in-Some.ensures.within.0 refl) c.advance.ensures

pub loop-closer-preserved-in-None : goal.loop-closer-preserved-in-None
loop-closer-preserved-in-None c =
    let b = (goal.at.loop-closer-preserved-in-None c).After-walk.before in
    let k : ℕ = list_of (line_in c.in_ok-found.found.of_rows c.in_ok-found.found.count) c.args.runs.now.list c.loop-closer.runs.turn in
    let class : ℕ = class_of c.args.options (run_at c.loop-closer.runs.list c.loop-closer.runs.turn) (run_at c.loop-closer.runs.list c.loop-closer.runs.turn).remaining in
    let heads' : c.note_run.new.heads
    ≡ cond (c.in-Some.closer.may_open && ltb 0 c.in-Some.closer.remaining) (set c.loop-closer.heads k (c.loop-closer.runs.turn + 1)) c.loop-closer.heads =
    subst (λ n. c.note_run.new.heads
    ≡ cond (c.in-Some.closer.may_open && ltb 0 c.in-Some.closer.remaining) (set c.loop-closer.heads k (n + 1)) c.loop-closer.heads) c.in-Some.ensures.number
    (subst (λ n. c.note_run.new.heads
    ≡ cond (c.in-Some.closer.may_open && ltb 0 c.in-Some.closer.remaining) (set c.loop-closer.heads n (c.in-Some.closer.number + 1)) c.loop-closer.heads) (list_is b)
    c.note_run.ensures.heads) in
    let marks' : c.note_run.new.marks
    ≡ cond (c.in-Some.closer.may_close && ltb 0 c.in-Some.closer.remaining) (set c.loop-closer.marks (k * 6 + class) c.loop-closer.runs.turn) c.loop-closer.marks =
    subst (λ n. c.note_run.new.marks
    ≡ cond (c.in-Some.closer.may_close && ltb 0 c.in-Some.closer.remaining) (set c.loop-closer.marks (k * 6 + class) n) c.loop-closer.marks) c.in-Some.ensures.number
    (subst (λ n. c.note_run.new.marks
    ≡ cond (c.in-Some.closer.may_close && ltb 0 c.in-Some.closer.remaining) (set c.loop-closer.marks (k * 6 + n) c.in-Some.closer.number) c.loop-closer.marks) (class_is b)
    (subst (λ n. c.note_run.new.marks
    ≡ cond (c.in-Some.closer.may_close && ltb 0 c.in-Some.closer.remaining) (set c.loop-closer.marks (n * 6 + c.class_number-class.result) c.in-Some.closer.number) c.loop-closer.marks) (list_is b)
    c.note_run.ensures.marks)) in
    let walked : IsClosing c.in-Some.closer → WalkEnded c.args.options c.loop-closer.runs.list c.loop-closer.older.items (mark_of c.loop-closer.marks k class)
    c.loop-closer.runs.turn c.index-heads-list.result (c.walk.new.runs.probes - c.loop-closer.runs.probes) =
    λ x. subst (λ m. WalkEnded c.args.options c.loop-closer.runs.list c.loop-closer.older.items m
    c.loop-closer.runs.turn c.index-heads-list.result (c.walk.new.runs.probes - c.loop-closer.runs.probes)) (mark_is b)
    (subst (λ o. WalkEnded c.args.options c.loop-closer.runs.list o c.index-marks-at.result
    c.loop-closer.runs.turn c.index-heads-list.result (c.walk.new.runs.probes - c.loop-closer.runs.probes)) c.deref.ensures.value (c.in-None.ensures.none x)) in
    let inv' = end_turn (layout_of c.in_ok-found.found.of_rows c.in_ok-found.found.count c.in_ok-found.ensures.are) c.args.options c.args.runs.now.list c.loop-closer.runs.list c.loop-closer.runs.turn c.loop-closer.pairs.items c.loop-closer.runs.probes
    c.loop-closer.heads c.loop-closer.older.items c.loop-closer.marks c.loop-closer.invariant.inv (here b) (by-marker c.args.runs.now.list c.requires.markers) (keys b) (marks_six b)
    c.in-Some.closer c.in-Some.ensures.run c.walk.new.runs.probes c.index-heads-list.result c.note_run.new.heads c.note_run.new.marks
    (head_is b) heads' marks' c.in-None.ensures.idle walked c.in-None.ensures.at_least c.in-None.ensures.at_most in
    record {
      inv = rw (c.advance.ensures, c.in-None.ensures.list, c.in-None.ensures.turn, c.in_ok-push-in-None.ensures.items) inv';
      heads_length =
          ap length heads' ∙ length_if _ c.loop-closer.heads k (c.loop-closer.runs.turn + 1) ∙ c.loop-closer.invariant.heads_length;
      marks_length =
          ap length marks' ∙ length_if _ c.loop-closer.marks (k * 6 + class) c.loop-closer.runs.turn ∙ c.loop-closer.invariant.marks_length;
    }

pub take-requires-clause-opener_has : goal.take-requires-clause-opener_has
take-requires-clause-opener_has c =
    let b = (goal.at.take-requires-clause-opener_has c).After-walk.before in
    let k : ℕ = list_of (line_in c.in_ok-found.found.of_rows c.in_ok-found.found.count) c.args.runs.now.list c.loop-closer.runs.turn in
    let class : ℕ = class_of c.args.options (run_at c.loop-closer.runs.list c.loop-closer.runs.turn) (run_at c.loop-closer.runs.list c.loop-closer.runs.turn).remaining in
    let o : ℕ = c.in-Some-walk.opener.number in
    let walk : WalkFound c.args.options c.loop-closer.runs.list c.loop-closer.older.items (mark_of c.loop-closer.marks k class)
    c.loop-closer.runs.turn c.index-heads-list.result o (c.walk.new.runs.probes - c.loop-closer.runs.probes) =
    subst (λ m. WalkFound c.args.options c.loop-closer.runs.list c.loop-closer.older.items m
    c.loop-closer.runs.turn c.index-heads-list.result o (c.walk.new.runs.probes - c.loop-closer.runs.probes)) (mark_is b)
    (subst (λ l. WalkFound c.args.options c.loop-closer.runs.list l c.index-marks-at.result
    c.loop-closer.runs.turn c.index-heads-list.result o (c.walk.new.runs.probes - c.loop-closer.runs.probes)) c.deref.ensures.value c.in-Some-walk.ensures.found) in
    let f = fits (layout_of c.in_ok-found.found.of_rows c.in_ok-found.found.count c.in_ok-found.ensures.are) c.args.options c.args.runs.now.list c.loop-closer.runs.list c.loop-closer.runs.turn c.loop-closer.pairs.items c.loop-closer.runs.probes
    c.loop-closer.heads c.loop-closer.older.items c.loop-closer.marks c.loop-closer.invariant.inv (here b) (by-marker c.args.runs.now.list c.requires.markers) (keys b) (marks_six b)
    c.in-Some.closer c.in-Some.ensures.run o c.pair_size-size.result c.walk.new.runs.probes c.index-heads-list.result c.in-Some-walk.opener
    c.in-Some-walk.ensures.run (head_is b) c.in-Some-walk.ensures.closes walk c.pair_size-size.ensures in
    rw c.walk.ensures.list f.1

pub take-requires-clause-closer_has : goal.take-requires-clause-closer_has
take-requires-clause-closer_has c =
    let b = (goal.at.take-requires-clause-closer_has c).After-walk.before in
    let k : ℕ = list_of (line_in c.in_ok-found.found.of_rows c.in_ok-found.found.count) c.args.runs.now.list c.loop-closer.runs.turn in
    let class : ℕ = class_of c.args.options (run_at c.loop-closer.runs.list c.loop-closer.runs.turn) (run_at c.loop-closer.runs.list c.loop-closer.runs.turn).remaining in
    let o : ℕ = c.in-Some-walk.opener.number in
    let walk : WalkFound c.args.options c.loop-closer.runs.list c.loop-closer.older.items (mark_of c.loop-closer.marks k class)
    c.loop-closer.runs.turn c.index-heads-list.result o (c.walk.new.runs.probes - c.loop-closer.runs.probes) =
    subst (λ m. WalkFound c.args.options c.loop-closer.runs.list c.loop-closer.older.items m
    c.loop-closer.runs.turn c.index-heads-list.result o (c.walk.new.runs.probes - c.loop-closer.runs.probes)) (mark_is b)
    (subst (λ l. WalkFound c.args.options c.loop-closer.runs.list l c.index-marks-at.result
    c.loop-closer.runs.turn c.index-heads-list.result o (c.walk.new.runs.probes - c.loop-closer.runs.probes)) c.deref.ensures.value c.in-Some-walk.ensures.found) in
    let f = fits (layout_of c.in_ok-found.found.of_rows c.in_ok-found.found.count c.in_ok-found.ensures.are) c.args.options c.args.runs.now.list c.loop-closer.runs.list c.loop-closer.runs.turn c.loop-closer.pairs.items c.loop-closer.runs.probes
    c.loop-closer.heads c.loop-closer.older.items c.loop-closer.marks c.loop-closer.invariant.inv (here b) (by-marker c.args.runs.now.list c.requires.markers) (keys b) (marks_six b)
    c.in-Some.closer c.in-Some.ensures.run o c.pair_size-size.result c.walk.new.runs.probes c.index-heads-list.result c.in-Some-walk.opener
    c.in-Some-walk.ensures.run (head_is b) c.in-Some-walk.ensures.closes walk c.pair_size-size.ensures in
    rw (c.walk.ensures.list, c.walk.ensures.turn) f.2

pub take-requires-clause-in_turn : goal.take-requires-clause-in_turn
take-requires-clause-in_turn c =
    still-in-turn c.loop-closer.runs c.walk.new.runs c.walk.ensures.list c.walk.ensures.turn (c.in-Some.ensures.within.0 refl)

pub take-requires-clause-earlier : goal.take-requires-clause-earlier
take-requires-clause-earlier c =
    still-earlier c.loop-closer.runs c.walk.new.runs c.walk.ensures.list c.walk.ensures.turn c.in-Some-walk.opener.number c.in-Some-walk.ensures.before

pub overflow_mul-line : goal.overflow_mul-line
overflow_mul-line c = lists-small _ _ _ _ _ (tables (goal.at.overflow_mul-line c).After-class_number-class) (sym (marks_six (goal.at.overflow_mul-line c).After-walk.before))

pub cut_for_pair-requires-clause-lists : goal.cut_for_pair-requires-clause-lists
cut_for_pair-requires-clause-lists c = (tables (goal.at.cut_for_pair-requires-clause-lists c).After-class_number-class).lists_in

pub cut_for_pair-requires-clause-list : goal.cut_for_pair-requires-clause-list
cut_for_pair-requires-clause-list c = (tables (goal.at.cut_for_pair-requires-clause-list c).After-class_number-class).list_in

pub cut_for_pair-requires-clause-opener : goal.cut_for_pair-requires-clause-opener
cut_for_pair-requires-clause-opener c =
    lent-has c.loop-closer.older.items c.deref-in-Some-walk.result.now c.loop-closer.runs.turn c.deref-in-Some-walk.ensures.value c.loop-closer.invariant.inv.lists.older_length c.in-Some-walk.opener.number c.in-Some-walk.ensures.before

pub cut_for_pair-requires-clause-down : goal.cut_for_pair-requires-clause-down
cut_for_pair-requires-clause-down c =
    lent-down-all c.loop-closer.older.items c.deref-in-Some-walk.result.now c.loop-closer.runs.turn c.deref-in-Some-walk.ensures.value c.loop-closer.invariant.inv.lists.older_length c.loop-closer.invariant.inv.lists.older_down

pub cut_for_pair-requires-clause-heads : goal.cut_for_pair-requires-clause-heads
cut_for_pair-requires-clause-heads c =
    lent-above c.loop-closer.older.items c.deref-in-Some-walk.result.now c.loop-closer.runs.turn c.deref-in-Some-walk.ensures.value c.loop-closer.invariant.inv.lists.older_length c.loop-closer.heads c.loop-closer.invariant.inv.lists.heads_le

pub overflow_mul-list : goal.overflow_mul-list
overflow_mul-list c = list-small _ _ _ _ _ (tables (goal.at.overflow_mul-list c).After-class_number-class)

pub lower_marks-requires : goal.lower_marks-requires
lower_marks-requires c = (tables (goal.at.lower_marks-requires c).After-class_number-class).marks_in

pub loop-closer-smaller : goal.loop-closer-smaller
loop-closer-smaller c =
    let b = (goal.at.loop-closer-smaller c).After-walk.before in
    let k : ℕ = list_of (line_in c.in_ok-found.found.of_rows c.in_ok-found.found.count) c.args.runs.now.list c.loop-closer.runs.turn in
    let class : ℕ = class_of c.args.options (run_at c.loop-closer.runs.list c.loop-closer.runs.turn) (run_at c.loop-closer.runs.list c.loop-closer.runs.turn).remaining in
    let o : ℕ = c.in-Some-walk.opener.number in
    let walk : WalkFound c.args.options c.loop-closer.runs.list c.loop-closer.older.items (mark_of c.loop-closer.marks k class)
    c.loop-closer.runs.turn c.index-heads-list.result o (c.walk.new.runs.probes - c.loop-closer.runs.probes) =
    subst (λ m. WalkFound c.args.options c.loop-closer.runs.list c.loop-closer.older.items m
    c.loop-closer.runs.turn c.index-heads-list.result o (c.walk.new.runs.probes - c.loop-closer.runs.probes)) (mark_is b)
    (subst (λ l. WalkFound c.args.options c.loop-closer.runs.list l c.index-marks-at.result
    c.loop-closer.runs.turn c.index-heads-list.result o (c.walk.new.runs.probes - c.loop-closer.runs.probes)) c.deref.ensures.value c.in-Some-walk.ensures.found) in
    let f = fits (layout_of c.in_ok-found.found.of_rows c.in_ok-found.found.count c.in_ok-found.ensures.are) c.args.options c.args.runs.now.list c.loop-closer.runs.list c.loop-closer.runs.turn c.loop-closer.pairs.items c.loop-closer.runs.probes
    c.loop-closer.heads c.loop-closer.older.items c.loop-closer.marks c.loop-closer.invariant.inv (here b) (by-marker c.args.runs.now.list c.requires.markers) (keys b) (marks_six b)
    c.in-Some.closer c.in-Some.ensures.run o c.pair_size-size.result c.walk.new.runs.probes c.index-heads-list.result c.in-Some-walk.opener
    c.in-Some-walk.ensures.run (head_is b) c.in-Some-walk.ensures.closes walk c.pair_size-size.ensures in
    let inside : c.loop-closer.runs.turn < length c.loop-closer.runs.list = c.in-Some.ensures.within.0 refl in
    let below : o < c.loop-closer.runs.turn = c.in-Some-walk.ensures.before in
    let m = markers_taking c.loop-closer.runs.list o c.loop-closer.runs.turn c.pair_size-size.result below inside f.1 f.2 in
    let n = length_taking c.loop-closer.runs.list o c.loop-closer.runs.turn c.pair_size-size.result below inside in
    let list' : c.take.new.self.list ≡ after_taking c.loop-closer.runs.list o c.loop-closer.runs.turn c.pair_size-size.result =
    rw (c.take.ensures, c.walk.ensures.list, c.walk.ensures.turn) refl in
    let turn' : c.take.new.self.turn ≡ c.loop-closer.runs.turn = rw (c.take.ensures, c.walk.ensures.turn) refl in
    let goal' : (length c.take.new.self.list - c.take.new.self.turn) + markers_left c.take.new.self.list
    < (length c.loop-closer.runs.list - c.loop-closer.runs.turn) + markers_left c.loop-closer.runs.list =
    rw (list', turn', n) (less _ _ _ _ m f.0) in
    goal'

pub loop-closer-preserved : goal.loop-closer-preserved
loop-closer-preserved c =
    let b = (goal.at.loop-closer-preserved c).After-walk.before in
    let k : ℕ = list_of (line_in c.in_ok-found.found.of_rows c.in_ok-found.found.count) c.args.runs.now.list c.loop-closer.runs.turn in
    let class : ℕ = class_of c.args.options (run_at c.loop-closer.runs.list c.loop-closer.runs.turn) (run_at c.loop-closer.runs.list c.loop-closer.runs.turn).remaining in
    let o : ℕ = c.in-Some-walk.opener.number in
    let walk : WalkFound c.args.options c.loop-closer.runs.list c.loop-closer.older.items (mark_of c.loop-closer.marks k class)
    c.loop-closer.runs.turn c.index-heads-list.result o (c.walk.new.runs.probes - c.loop-closer.runs.probes) =
    subst (λ m. WalkFound c.args.options c.loop-closer.runs.list c.loop-closer.older.items m
    c.loop-closer.runs.turn c.index-heads-list.result o (c.walk.new.runs.probes - c.loop-closer.runs.probes)) (mark_is b)
    (subst (λ l. WalkFound c.args.options c.loop-closer.runs.list l c.index-marks-at.result
    c.loop-closer.runs.turn c.index-heads-list.result o (c.walk.new.runs.probes - c.loop-closer.runs.probes)) c.deref.ensures.value c.in-Some-walk.ensures.found) in
    let hs : List ℕ = c.loop-closer.heads in
    let hs' : List ℕ = c.cut_for_pair.new.heads in
    let ms : List ℕ = c.loop-closer.marks in
    let ms' : List ℕ = c.lower_marks.new.marks in
    let row : ℕ = line_in c.in_ok-found.found.of_rows c.in_ok-found.found.count (row_of c.in-Some.closer.text) in
    let old : List ℕ = c.loop-closer.older.items in
    let cut : (i : ℕ) → row * 3 ≤ i → i < row * 3 + 3 → (i ≡ k → ⊥) → IsCut old o (get_or hs i 0) (get_or hs' i 0) =
    subst (λ f. (i : ℕ) → f * 3 ≤ i → i < f * 3 + 3 → (i ≡ k → ⊥) → IsCut old o (get_or hs i 0) (get_or hs' i 0)) (line_is b)
    (λ i low high ne. subst (λ x. IsCut x o (get_or hs i 0) (get_or hs' i 0)) c.deref-in-Some-walk.ensures.value
    (c.cut_for_pair.ensures.cut i low high (λ e. ne (e ∙ list_is b)))) in
    let own : eqb c.in-Some-walk.opener.remaining c.pair_size-size.result ≡ false → row * 3 ≤ k → k < row * 3 + 3 → IsCut old o (get_or hs k 0) (get_or hs' k 0) =
    subst (λ f. eqb c.in-Some-walk.opener.remaining c.pair_size-size.result ≡ false → f * 3 ≤ k → k < f * 3 + 3 → IsCut old o (get_or hs k 0) (get_or hs' k 0)) (line_is b)
    (λ e low high. subst (λ x. IsCut x o (get_or hs k 0) (get_or hs' k 0)) c.deref-in-Some-walk.ensures.value
    (subst (λ x. c.line_of-line.result * 3 ≤ x → x < c.line_of-line.result * 3 + 3 → IsCut c.deref-in-Some-walk.result.now o (get_or hs x 0) (get_or hs' x 0)) (list_is b)
    (c.cut_for_pair.ensures.own e) low high)) in
    let used : eqb c.in-Some-walk.opener.remaining c.pair_size-size.result ≡ true → get_or hs' k 0 ≡ get_or old o 0 =
    λ e. ap (λ x. get_or hs' x 0) (sym (list_is b)) ∙ c.cut_for_pair.ensures.used e ∙ ap (λ x. get_or x o 0) c.deref-in-Some-walk.ensures.value in
    let others : (i : ℕ) → (i < row * 3) ⊎ (row * 3 + 3 ≤ i) → (i ≡ k → ⊥) → get_or hs' i 0 ≡ get_or hs i 0 =
    subst (λ f. (i : ℕ) → (i < f * 3) ⊎ (f * 3 + 3 ≤ i) → (i ≡ k → ⊥) → get_or hs' i 0 ≡ get_or hs i 0) (line_is b)
    (λ i far ne. c.cut_for_pair.ensures.others i far (λ e. ne (e ∙ list_is b))) in
    let low : (i : ℕ) → k * 6 ≤ i → i < k * 6 + 6 → get_or ms i 0 ≤ o → get_or ms' i 0 ≡ get_or ms i 0 =
    subst (λ x. (i : ℕ) → x * 6 ≤ i → i < x * 6 + 6 → get_or ms i 0 ≤ o → get_or ms' i 0 ≡ get_or ms i 0) (list_is b) c.lower_marks.ensures.low in
    let high : (i : ℕ) → k * 6 ≤ i → i < k * 6 + 6 → o < get_or ms i 0 → get_or ms' i 0 ≡ o =
    subst (λ x. (i : ℕ) → x * 6 ≤ i → i < x * 6 + 6 → o < get_or ms i 0 → get_or ms' i 0 ≡ o) (list_is b) c.lower_marks.ensures.high in
    let rest : (i : ℕ) → (i < k * 6) ⊎ (k * 6 + 6 ≤ i) → get_or ms' i 0 ≡ get_or ms i 0 =
    subst (λ x. (i : ℕ) → (i < x * 6) ⊎ (x * 6 + 6 ≤ i) → get_or ms' i 0 ≡ get_or ms i 0) (list_is b) c.lower_marks.ensures.others in
    let inv' = pair_turn (layout_of c.in_ok-found.found.of_rows c.in_ok-found.found.count c.in_ok-found.ensures.are) c.args.options c.args.runs.now.list c.loop-closer.runs.list c.loop-closer.runs.turn c.loop-closer.pairs.items c.loop-closer.runs.probes
    c.loop-closer.heads c.loop-closer.older.items c.loop-closer.marks c.loop-closer.invariant.inv (here b) (by-marker c.args.runs.now.list c.requires.markers) (keys b) (marks_six b)
    c.in-Some.closer c.in-Some.ensures.run o c.pair_size-size.result c.walk.new.runs.probes c.index-heads-list.result c.in-Some-walk.opener
    c.in-Some-walk.ensures.run (head_is b) c.in-Some-walk.ensures.closes walk c.pair_size-size.ensures
    hs' ms' c.walk.ensures.at_least c.walk.ensures.at_most c.cut_for_pair.ensures.same cut own used others low high rest in
    record {
      inv = rw (c.take.ensures, c.walk.ensures.list, c.walk.ensures.turn, c.in_ok-push-in-Some-walk.ensures.items, c.in-Some.ensures.number) inv';
      heads_length = c.cut_for_pair.ensures.same ∙ c.loop-closer.invariant.heads_length;
      marks_length = c.lower_marks.ensures.same ∙ c.loop-closer.invariant.marks_length;
    }

never : {A : Type 0} → false ≡ true → A
never e = absurd (let x : ⊥ = cc in x)

pub returns : goal.returns
returns c =
    let last : length c.loop-closer.runs.list ≤ c.loop-closer.runs.turn = elim (cases_lt c.loop-closer.runs.turn (length c.loop-closer.runs.list)) [
      | inl more ↦ never (c.in_default.ensures.within.1 more)
      | inr none ↦ none
    ] in
    let inv = c.loop-closer.invariant.inv in
    record {
      lists = scanned-all (layout_of c.in_ok-found.found.of_rows c.in_ok-found.found.count c.in_ok-found.ensures.are) c.args.options c.args.runs.now.list c.loop-closer.runs.list c.loop-closer.runs.turn c.loop-closer.pairs.items c.loop-closer.runs.probes
          c.loop-closer.heads c.loop-closer.older.items c.loop-closer.marks inv last;
      within = all-within c.args.options c.args.runs.now.list c.loop-closer.runs.turn c.loop-closer.pairs.items inv.scanned;
      once = all-once c.args.options c.args.runs.now.list c.loop-closer.runs.turn c.loop-closer.pairs.items inv.scanned;
      order = inv.scanned.order;
      left = inv.stands;
      at_most = paid-all (layout_of c.in_ok-found.found.of_rows c.in_ok-found.found.count c.in_ok-found.ensures.are) c.args.options c.args.runs.now.list c.loop-closer.runs.list c.loop-closer.runs.turn c.loop-closer.pairs.items c.loop-closer.runs.probes
          c.loop-closer.heads c.loop-closer.older.items c.loop-closer.marks inv last;
      at_least = inv.least;
      scan = looks-all (layout_of c.in_ok-found.found.of_rows c.in_ok-found.found.count c.in_ok-found.ensures.are) c.args.options c.args.runs.now.list c.loop-closer.runs.list c.loop-closer.runs.turn c.loop-closer.pairs.items c.loop-closer.runs.probes
          c.loop-closer.heads c.loop-closer.older.items c.loop-closer.marks inv last;
      half = omega (arith, inv.half);
    }
