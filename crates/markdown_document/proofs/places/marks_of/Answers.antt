use Rattle.std.proofs.Common.{◌≡◌, ◌∙◌, ◌++◌, ◌∷◌, [], List, length, ap, sym, subst}
use Rattle.markdown_event.specs.declared.event.Point.{Point}
use Rattle.markdown_content.specs.Codes.{document_start}
use Rattle.markdown_content.specs.KnownPlaces.{AreMarks}
use Rattle.markdown_content.proofs.KnownPlacesLemmas.{marks-start, mark-start}
use Rattle.markdown_document.proofs.places.marks_of.Goals as goal

pub loop-number-init : goal.loop-number-init
loop-number-init c =
    let one : c.push.new.self.items ≡ document_start ∷ [] = c.in_ok-push.ensures.items ∙ ap (λ (ms : List Point). ms ++ document_start ∷ []) c.in_ok-marks.ensures.items in
    (ap (λ (ms : List Point). length ms) one, subst (λ (ms : List Point). AreMarks c.args.bytes.now ms) (sym one) (marks-start c.args.bytes.now), mark-start c.args.bytes.now)
