use Rattle.std.proofs.Common.{◌≡◌, sym, ap, subst, ◌∙◌, arith}
use Rattle.markdown_content.specs.Place.{Place}
use Rattle.markdown_notes.specs.SequenceIndex.{stop_bytes}
use Rattle.markdown_content.specs.Stretch.{past_stretch}
use Rattle.markdown_content.proofs.PlaceRules.{left_moved}
use Rattle.markdown_notes.proofs.SequenceIndexLemmas.{AreBeginsFound, found-start, found-past, found-stretch, found-all}
use Rattle.markdown_content.proofs.StretchLemmas.{left-behind}
use Rattle.markdown_notes.proofs.sequence_index.last_in_codes.Goals as goal

pub loop-code-init : goal.loop-code-init
loop-code-init c = found-start c.args.cursor.now c.restart-place.result c.restart-place.ensures

pub loop-code-smaller : goal.loop-code-smaller
loop-code-smaller c = grind (arith, left_moved, left-behind)

pub loop-code-preserved : goal.loop-code-preserved
loop-code-preserved c =
    let q : Place = c.seek.new.self in
    let at : q ≡ past_stretch stop_bytes c.loop-code.place = c.seek.ensures.place ∙ ap (λ ms. past_stretch ms c.loop-code.place) c.stop_bytes-stops.ensures in
    found-past c.args.cursor.now.codes q c.consume.new.self c.in-Some.code c.loop-code.last c.found_at-last.result (sym c.seek.ensures.code ∙ c.in-Some.is) c.consume.ensures c.found_at-last.ensures
    (subst (λ (p : Place). AreBeginsFound c.args.cursor.now.codes p c.loop-code.last) (sym at) (found-stretch c.args.cursor.now.codes c.loop-code.place c.loop-code.last c.loop-code.invariant))

pub returns : goal.returns
returns c =
    let at : c.seek.new.self ≡ past_stretch stop_bytes c.loop-code.place = c.seek.ensures.place ∙ ap (λ ms. past_stretch ms c.loop-code.place) c.stop_bytes-stops.ensures in
    found-all c.args.cursor.now.codes c.seek.new.self c.loop-code.last (sym c.seek.ensures.code ∙ c.in_default.is)
    (subst (λ (p : Place). AreBeginsFound c.args.cursor.now.codes p c.loop-code.last) (sym at) (found-stretch c.args.cursor.now.codes c.loop-code.place c.loop-code.last c.loop-code.invariant))
