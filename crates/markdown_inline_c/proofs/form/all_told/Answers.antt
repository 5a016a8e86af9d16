use Rattle.std.proofs.Common.{◌∙◌, ◌+◌, ◌<◌, ap, arith, length, map, refl, slice_get, None}
use Rattle.std.proofs.lemmas.Option.{slice_get_read}
use Rattle.markdown_html_model.specs.Resolved.{decoding_of}
use Rattle.markdown_tree.specs.LabelsView.{given_of}
use Rattle.markdown_inline_c.specs.FlatEvents.{short_event}
use Rattle.markdown_inline_c.specs.ShortEvents.{noted, told}
use Rattle.markdown_inline_c.proofs.Noted.{one_more}
use Rattle.markdown_inline_c.proofs.Told.{up_to_next}
use Rattle.markdown_inline_c.proofs.form.all_told.Goals as goal

pub loop-number-init : goal.loop-number-init
loop-number-init c =
    let es = c.args.events.now in
    let next = c.next_telling-number in
    record {
      tree = c.over-tree.ensures;
      within = next.ensures.high;
      noted =
          ap (λ ms. noted ms (map (short_event None) es)) c.new-found.ensures.items
          ∙ up_to_next (given_of c.args.labels.now) (decoding_of c.args.labels.now.options.now) es 0 next.result next.ensures.low next.ensures.high next.ensures.others;
    }

pub told-requires-clause-event : goal.told-requires-clause-event
told-requires-clause-event c =
    let es = c.args.events.now in
    ap (λ tree. slice_get tree c.loop-number.number) c.loop-number.invariant.tree
    ∙ slice_get_read es (length es) c.loop-number.number c.at-event.result refl (omega (arith, c.loop-number-test.true, c.len.ensures)) c.at-event.ensures

pub loop-number-preserved : goal.loop-number-preserved
loop-number-preserved c =
    let g = given_of c.args.labels.now in
    let how = decoding_of c.args.labels.now.options.now in
    let es = c.args.events.now in
    let number = c.loop-number.number in
    let next = c.next_telling-number-in-loop-number in
    let within : number < length es = omega (arith, c.loop-number-test.true, c.len.ensures) in
    record {
      tree = c.in_ok-told.ensures.tree ∙ c.loop-number.invariant.tree;
      within = next.ensures.high;
      noted =
          one_more (told g how es) es c.loop-number.found.items c.add_told.new.found.items number c.at-event.result c.in_ok-told.told within
          (c.in_ok-told.ensures.found ∙ ap (λ tree. told g how tree number) c.loop-number.invariant.tree) c.in_ok-add_told.ensures c.loop-number.invariant.noted
          ∙ up_to_next g how es (number + 1) next.result next.ensures.low next.ensures.high next.ensures.others;
    }
