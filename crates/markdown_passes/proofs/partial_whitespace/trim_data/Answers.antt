use Rattle.std.proofs.Common.{◌≡◌, ℕ, ◌<◌, ◌+◌, ◌∷◌, ◌++◌, [], Bool, List, true, false, length, get_or, drop, ap, sym, ◌∙◌, arith}
use Rattle.markdown_event.specs.declared.event.Event.{Event}
use Rattle.markdown_passes.specs.TrimmedData.{trimmed_events}
use Rattle.markdown_passes.specs.TrimmedEvents.{breaks_of, ClosesAt, FirstDataHasPlaces, flag, goes_before, loses_first}
use Rattle.markdown_passes.proofs.TrimEdits.{next-within, closes-first, edit-first, opens-first, stretch-first}
use Rattle.markdown_passes.proofs.TrimmedLeaves.{trimmed-unlinked}
use Rattle.markdown_passes.proofs.partial_whitespace.trim_data.Goals as goal

-- another event follows
ahead : (bytes : List ℕ) (whole : Bool) (i : ℕ) (es : List Event) (e : Event) → i < length es → e ≡ get_or es i e →
    loses_first bytes whole (flag i whole es) (drop i es) ≡ true → FirstDataHasPlaces bytes (drop i es) → i + 1 < length es
ahead bytes whole i es e l h k p = next-within bytes i es e (closes-first bytes i es e l h (opens-first bytes whole (flag i whole es) i es e l h k) p)

pub overflow_add-index : goal.overflow_add-index
overflow_add-index c = omega (arith, c.requires.within, c.requires.counted)

pub bare_at-exit-requires : goal.bare_at-exit-requires
bare_at-exit-requires c = ahead c.args.bytes.now c.args.trimming.whole c.args.index c.args.events.now c.bare_at-enter.result c.requires.within c.bare_at-enter.ensures.event c.requires.loses c.requires.places

pub overflow_add-index-2 : goal.overflow_add-index-2
overflow_add-index-2 c = omega (arith, ahead c.args.bytes.now c.args.trimming.whole c.args.index c.args.events.now c.bare_at-enter.result c.requires.within c.bare_at-enter.ensures.event c.requires.loses c.requires.places, c.requires.counted)

pub goes_before-back-requires : goal.goes_before-back-requires
goes_before-back-requires c = omega (arith, ahead c.args.bytes.now c.args.trimming.whole c.args.index c.args.events.now c.bare_at-enter.result c.requires.within c.bare_at-enter.ensures.event c.requires.loses c.requires.places)

pub overflow_add-index-3 : goal.overflow_add-index-3
overflow_add-index-3 c = omega (arith, ahead c.args.bytes.now c.args.trimming.whole c.args.index c.args.events.now c.bare_at-enter.result c.requires.within c.bare_at-enter.ensures.event c.requires.loses c.requires.places, c.requires.counted)

pub trimmed_data-requires-clause-stretch : goal.trimmed_data-requires-clause-stretch
trimmed_data-requires-clause-stretch c =
    let es : List Event = c.args.events.now in
    let closes : ClosesAt c.args.bytes.now c.bare_at-enter.result (drop (c.args.index + 1) es) = closes-first c.args.bytes.now c.args.index es c.bare_at-enter.result c.requires.within c.bare_at-enter.ensures.event (opens-first c.args.bytes.now c.args.trimming.whole _ c.args.index es c.bare_at-enter.result c.requires.within c.bare_at-enter.ensures.event c.requires.loses) c.requires.places in
    stretch-first c.args.bytes.now c.args.index es c.bare_at-enter.result c.bare_at-exit.result (next-within c.args.bytes.now c.args.index es c.bare_at-enter.result closes) c.bare_at-exit.ensures.event closes

pub add_slice-requires : goal.add_slice-requires
add_slice-requires c = trimmed-unlinked _ _ _ _ _ _ _ (c.deref.ensures.value ∙ c.in_ok-trimmed_data.ensures)

pub returns : goal.returns
returns c =
    let es : List Event = c.args.events.now in
    let bytes = c.args.bytes.now in
    let hard = breaks_of c.args.trimming.hard in
    let e : Event = c.bare_at-enter.result in
    let x : Event = c.bare_at-exit.result in
    let front = flag c.args.index c.args.trimming.whole es in
    let back = goes_before c.args.trimming.whole (drop (c.args.index + 2) es) in
    let closes : ClosesAt bytes e (drop (c.args.index + 1) es) = closes-first bytes c.args.index es e c.requires.within c.bare_at-enter.ensures.event (opens-first bytes c.args.trimming.whole _ c.args.index es e c.requires.within c.bare_at-enter.ensures.event c.requires.loses) c.requires.places in
    let within : c.args.index + 1 < length es = next-within bytes c.args.index es e closes in
    c.in_ok-add_slice.ensures.ok
    ∙ ap (λ (xs : List Event). c.args.map.now ++ record { at = c.args.index; remove = 2; events = xs; before = false } ∷ [])
    (c.deref.ensures.value ∙ c.in_ok-trimmed_data.ensures
    ∙ ap (λ f. trimmed_events f c.goes_before-back.result (breaks_of c.breaks_before-hard.result) bytes e.point x.point) c.front_goes-front.ensures
    ∙ ap (λ b. trimmed_events front b (breaks_of c.breaks_before-hard.result) bytes e.point x.point) c.goes_before-back.ensures
    ∙ ap (λ b. trimmed_events front back b bytes e.point x.point) c.breaks_before-hard.ensures)
    ∙ ap (λ xs. c.args.map.now ++ xs) (sym (edit-first bytes hard c.args.trimming.whole c.args.index front c.args.index es e x within c.bare_at-enter.ensures.event c.bare_at-exit.ensures.event c.requires.loses))
