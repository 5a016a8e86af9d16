use Rattle.std.proofs.Common.{ℕ, ◌≡◌, ◌<◌, ◌+◌, ◌∙◌, ◌∷◌, ◌++◌, [], Bool, true, List, length, drop, get_or, cond, sym, ap, subst, append-nil, arith, Result, Ok, Err, OnOk}
use Rattle.markdown_content.specs.declared.configuration.ParseOptions.{ParseOptions}
use Rattle.markdown_event.specs.declared.event.Event.{Event}
use Rattle.markdown_attention.specs.RunsRead.{Container, first_run, is_text, opens_run, sequence_at, where_after}
use Rattle.markdown_attention.specs.declared.attention.runs.Sequence.{Sequence}
use Rattle.markdown_attention.proofs.RunsReadLemmas.{exit-within, exit-place, first-event}
use Rattle.markdown_attention.proofs.RunSearch.{first-none, one-event, run-no-text, where-same}
use Rattle.markdown_attention.proofs.attention.reading.read_event.Goals as goal
use Rattle.markdown_content.specs.Codes.{Code}

-- where the first event begins a run, that is the one that is read
run-read : (options : ParseOptions) (bytes : List ℕ) (content : List Code) (n i : ℕ) (k : Container) (es : List Event) (e x : Event) → i < length es →
    e ≡ get_or es i e → i + 1 < length es → x ≡ get_or es (i + 1) x → opens_run e ≡ true →
    first_run options bytes content n i k (drop i es) ≡ sequence_at options bytes content n i k e.point x.point ∷ []
run-read options bytes content n i k es e x l h m g opens =
    ap (λ (ys : List Event). first_run options bytes content n i k ys) (first-event es i e l h ∙ ap (λ (ys : List Event). e ∷ ys) (first-event es (i + 1) x m g))
    ∙ ap (λ (b : Bool). cond b (sequence_at options bytes content n i k e.point x.point ∷ []) []) opens

if-ok : {A E P : Type 0} (r : Result A E) → P → OnOk r P
if-ok (Ok a) p = p
if-ok (Err e) p = tt

pub bare_at-exit-requires : goal.bare_at-exit-requires
bare_at-exit-requires c =
    let opens : opens_run c.bare_at-enter.result ≡ true = sym c.opens_run.ensures ∙ c.if-opens_run.true in
    exit-within c.args.bytes.now c.args.events.now c.args.index c.bare_at-enter.result c.requires.within c.bare_at-enter.ensures.event c.requires.places opens

pub sequence_at-run-requires-clause-place : goal.sequence_at-run-requires-clause-place
sequence_at-run-requires-clause-place c =
    let opens : opens_run c.bare_at-enter.result ≡ true = sym c.opens_run.ensures ∙ c.if-opens_run.true in
    exit-place c.args.bytes.now c.args.events.now c.args.index c.bare_at-enter.result c.requires.within c.bare_at-enter.ensures.event c.requires.places opens
    c.bare_at-exit.result c.bare_at-exit.ensures.event

pub returns-then-opens_run-clause-list : goal.returns-then-opens_run-clause-list
returns-then-opens_run-clause-list c =
    let es = c.args.events.now in
    let bytes = c.args.bytes.now in
    let e : Event = c.bare_at-enter.result in
    let x : Event = c.bare_at-exit.result in
    let k : Container = c.args.place.now.container in
    let opens : opens_run e ≡ true = sym c.opens_run.ensures ∙ c.if-opens_run.true in
    let within : c.args.index + 1 < length es = exit-within bytes es c.args.index e c.requires.within c.bare_at-enter.ensures.event c.requires.places opens in
    let number : c.len-number.result ≡ length c.args.list.now.items = omega (arith, c.len-number.ensures, c.args.list.now.ok.0) in
    let run : c.sequence_at-run.result ≡ sequence_at c.args.options bytes c.args.cursor.now.codes (length c.args.list.now.items) c.args.index k e.point x.point =
    c.sequence_at-run.ensures ∙ ap (λ (n : ℕ). sequence_at c.args.options bytes c.args.cursor.now.codes n c.args.index k e.point x.point) number in
    c.in_ok-push.ensures.items
    ∙ ap (λ (r : Sequence). c.args.list.now.items ++ r ∷ []) run
    ∙ sym (ap (λ (rs : List Sequence). c.args.list.now.items ++ rs) (run-read c.args.options bytes c.args.cursor.now.codes (length c.args.list.now.items) c.args.index k es e x c.requires.within c.bare_at-enter.ensures.event within c.bare_at-exit.ensures.event opens))

pub returns-then-opens_run-clause-place : goal.returns-then-opens_run-clause-place
returns-then-opens_run-clause-place c = λ e h.
    let opens : opens_run c.bare_at-enter.result ≡ true = sym c.opens_run.ensures ∙ c.if-opens_run.true in
    let same : c.bare_at-enter.result ≡ e = one-event c.args.events.now c.args.index c.bare_at-enter.result e c.requires.within c.bare_at-enter.ensures.event h in
    where-same c.args.index e c.args.place.now (ap (λ (x : Event). is_text x.name) (sym same) ∙ run-no-text c.bare_at-enter.result opens)

pub returns-clause-list : goal.returns-clause-list
returns-clause-list c =
    let es = c.args.events.now in
    let e : Event = c.bare_at-enter.result in
    let n : ℕ = length c.args.list.now.items in
    let k : Container = c.args.place.now.container in
    let first = first-event es c.args.index e c.requires.within c.bare_at-enter.ensures.event in
    let none : first_run c.args.options c.args.bytes.now c.args.cursor.now.codes n c.args.index k (drop c.args.index es) ≡ [] =
    ap (λ (ys : List Event). first_run c.args.options c.args.bytes.now c.args.cursor.now.codes n c.args.index k ys) first
    ∙ first-none c.args.options c.args.bytes.now c.args.cursor.now.codes n c.args.index k e (drop (c.args.index + 1) es) (sym c.opens_run.ensures ∙ c.if-opens_run.false) in
    if-ok c.pass.result (sym (ap (λ (rs : List Sequence). c.args.list.now.items ++ rs) none ∙ append-nil c.args.list.now.items))

pub returns-clause-place : goal.returns-clause-place
returns-clause-place c = λ e h.
    let same : c.bare_at-enter.result ≡ e = one-event c.args.events.now c.args.index c.bare_at-enter.result e c.requires.within c.bare_at-enter.ensures.event h in
    subst (λ (x : Event). OnOk c.pass.result (c.pass.new.self ≡ where_after c.args.index x c.args.place.now)) same c.pass.ensures
