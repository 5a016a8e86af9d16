use Rattle.std.proofs.Common.{◌≡◌, ◌∙◌, sym, ap, ℕ, ◌+◌, ◌<◌, List, [], ◌∷◌, ◌++◌, append-nil, append_assoc, get_or, length, take, arith}
use Rattle.std.proofs.lemmas.Grind.{flat_map-append}
use Rattle.std.proofs.lemmas.List.{take_more, take_all}
use Rattle.markdown_event.specs.declared.event.Event.{Event}
use Rattle.markdown_program.specs.PrintedLines.{line_of, lines_of}
use Rattle.markdown_program.proofs.lines.lines_of_list.Goals as goal

one-more : (es : List Event) (i : ℕ) (d : Event) (old : List ℕ) → i < length es → old ≡ lines_of (take i es) →
    old ++ line_of (get_or es i d) ≡ lines_of (take (i + 1) es)
unfolding lines_of
one-more es i d old h so_far =
    ap (λ bs. bs ++ line_of (get_or es i d)) so_far ∙ sym (
    ap lines_of (take_more es i d h)
    ∙ flat_map-append line_of (take i es) (get_or es i d ∷ [])
    ∙ ap (λ bs. lines_of (take i es) ++ bs) (append-nil (line_of (get_or es i d)))
    )

pub loop-index-init : goal.loop-index-init
unfolding lines_of
loop-index-init c =
    record { fits = omega arith; so_far = append-nil c.in_ok-text.text.items ∙ c.in_ok-text.ensures.items }

pub loop-index-preserved : goal.loop-index-preserved
loop-index-preserved c =
    let kept = c.in_ok-at.ensures in
    let written = c.write_event-at.ensures in
    let text = c.make_room.new.text.items in
    record {
      fits = omega (arith, written.short, kept.room.0);
      so_far =
          ap (λ bs. text ++ bs) written.written
          ∙ sym (append_assoc text (take c.in_ok-at.at c.loop-index.lines) _)
          ∙ ap (λ (e : Event). (text ++ take c.in_ok-at.at c.loop-index.lines) ++ line_of e) c.at-event.ensures
          ∙ one-more c.args.events.now c.loop-index.index c.at-event.result _ (omega (arith, c.len-count.ensures, c.loop-index-test.true)) (kept.kept ∙ c.loop-index.invariant.so_far);
    }

pub returns : goal.returns
returns c =
    c.in_ok-extend_from_slice.ensures.items ∙ c.loop-index.invariant.so_far
    ∙ ap lines_of (take_all c.loop-index.index c.args.events.now (omega (arith, c.len-count.ensures, c.loop-index-test.false)))
