use Rattle.std.proofs.Common.{ℕ, ◌≡◌, ◌<◌, ◌≤◌, ◌-◌, ◌+◌, ◌==◌, ◌&&◌, ◌∙◌, ◌++◌, ◌∷◌, [], Bool, true, false, cond, List, length, drop, sym, ap, append-nil, append_assoc, arith}
use Rattle.std.proofs.lemmas.Bool.{ne_eqb, eq-eqb}
use Rattle.std.proofs.lemmas.List.{drop_all, drop_more}
use Rattle.markdown_event.specs.declared.event.Event.{Event}
use Rattle.markdown_engine_events.specs.declared.util.edit_map.Entry.{Entry}
use Rattle.markdown_engine_events.specs.Edits.{edit_of, front_at, kept}
use Rattle.markdown_engine_events.proofs.EditOrder.{entry, fresh-read, none}
use Rattle.markdown_engine_events.proofs.util.edit_map.push_fronts.Goals as goal
use Rattle.markdown_engine_events.proofs.util.edit_map.push_fronts.Goals.{else-edit-at-via-then-edit-at+else-edit, else-edit-at-via-else-edit-at}

no-front : (p b : Bool) (xs ys : List Event) → b ≡ false → ys ≡ ys ++ cond (p && b) xs []
no-front true b xs ys h = rw h (sym (append-nil ys))
no-front false b xs ys h = sym (append-nil ys)

fronts-none : (cs xs : List Event) (i : ℕ) (es : List Entry) →
    xs ≡ xs ++ front_at i (kept cs (drop (length es) es))
fronts-none cs xs i es =
    sym (ap (λ (ds : List Entry). xs ++ front_at i (kept cs ds)) (drop_all (length es) es (omega arith)) ∙ append-nil xs)

fronts-more : (cs xs ys zs : List Event) (i : ℕ) (es : List Entry) (k : ℕ) → 0 < k → k ≤ length es →
    ys ≡ xs ++ front_at i (kept cs (drop k es)) →
    zs ≡ ys ++ cond ((entry es (k - 1)).at == i && (entry es (k - 1)).before) (edit_of cs (entry es (k - 1))).events [] →
    zs ≡ xs ++ front_at i (kept cs (drop (k - 1) es))
fronts-more cs xs ys zs i es k some within h more =
    let e : Entry = entry es (k - 1) in
    let part : List Event = cond (e.at == i && e.before) (edit_of cs e).events [] in
    let next : k - 1 + 1 ≡ k = omega arith in
    let split : drop (k - 1) es ≡ e ∷ drop k es = drop_more es (k - 1) none (omega arith) ∙ ap (λ (n : ℕ). e ∷ drop n es) next in
    more ∙ ap (λ (x : List Event). x ++ part) h ∙ append_assoc xs (front_at i (kept cs (drop k es))) part ∙ sym (ap (λ (ds : List Entry). xs ++ front_at i (kept cs ds)) split)

pub loop-index-init : goal.loop-index-init
loop-index-init c = fronts-none c.args.edits.now.comes.now c.args.done.now c.args.at c.args.edits.now.entries.now

pub extend_fresh-requires : goal.extend_fresh-requires
extend_fresh-requires c =
    fresh-read c.args.edits.now.comes.now (entry c.args.edits.now.entries.now (c.loop-index.index - 1)) _ c.requires.unlinked c.brought.ensures

pub loop-index-preserved-then-edit : goal.loop-index-preserved-then-edit
loop-index-preserved-then-edit c =
    let cs = c.args.edits.now.comes.now in
    let es = c.args.edits.now.entries.now in
    let i = c.args.at in
    let ys = c.loop-index.done in
    let e : Entry = entry es (c.loop-index.index - 1) in
    fronts-more cs c.args.done.now ys c.extend_fresh.new.self i es c.loop-index.index c.loop-index-test.true c.loop-index.auto.index c.loop-index.invariant
    (c.in_ok-extend_fresh.ensures.ok ∙ ap (λ (x : List Event). ys ++ x) (c.brought.ensures ∙ sym (ap (λ (x : Bool). cond (x && e.before) (edit_of cs e).events []) (eq-eqb e.at i c.if-edit-at.true) ∙ ap (λ (x : Bool). cond x (edit_of cs e).events []) c.if-edit.true)))

pub loop-index-preserved : goal.loop-index-preserved
loop-index-preserved c =
    let cs = c.args.edits.now.comes.now in
    let es = c.args.edits.now.entries.now in
    let i = c.args.at in
    let ys = c.loop-index.done in
    let e : Entry = entry es (c.loop-index.index - 1) in
    fronts-more cs c.args.done.now ys ys i es c.loop-index.index c.loop-index-test.true c.loop-index.auto.index c.loop-index.invariant
    (elim c.else-edit-at.branch [
      | else-edit-at-via-then-edit-at+else-edit w ↦ no-front (e.at == i) e.before (edit_of cs e).events ys w.if-edit.false
      | else-edit-at-via-else-edit-at w ↦ rw (ne_eqb e.at i w.if-edit-at.false) (sym (append-nil ys))
    ])

pub returns : goal.returns
returns c =
    let none_left : c.loop-index.index ≡ 0 = omega (arith, c.loop-index-test.false) in
    c.loop-index.invariant ∙ ap (λ (k : ℕ). c.args.done.now ++ front_at c.args.at (kept c.args.edits.now.comes.now (drop k c.args.edits.now.entries.now))) none_left
