use Rattle.std.proofs.Common.{◌≡◌, ◌∙◌, ◌&&◌, not, List, ◌++◌, ap, sym, if◌then◌else◌}
use Rattle.markdown_event.specs.declared.event.Event.{Event}
use Rattle.markdown_event.specs.declared.event.Name.TheVariants as N
use Rattle.markdown_passes.specs.TrimmedData.{between, end_of_kept, end_of_lead, leaf_events}
use Rattle.markdown_passes.specs.TrimmedEvents.{breaks_of}
use Rattle.markdown_passes.proofs.TrimmedLeaves.{chosen-yes, chosen-no, end-stretch, back-stretch, trimmed-is}
use Rattle.markdown_passes.proofs.partial_whitespace.trimmed_data.Goals as goal
use Rattle.markdown_passes.proofs.partial_whitespace.trimmed_data.Goals.{then-back, else-back, then-goes, else-goes, then-front, else-front}

pub lead_end-start-requires-clause-stretch : goal.lead_end-start-requires-clause-stretch
lead_end-start-requires-clause-stretch c =
    let cs = between c.args.bytes.now c.args.from c.args.to in
    let goes : c.if-back.goes ≡ (c.args.back && not c.args.hard.keeps) =
    elim c.if-back.branch [
      | then-back w ↦ w.goes-is ∙ ap (λ b. b && not c.args.hard.keeps) (sym w.if-back.true)
      | else-back w ↦ w.goes-is ∙ w.if-back.false ∙ ap (λ b. b && not c.args.hard.keeps) (sym w.if-back.false)
    ] in
    let end : c.if-goes.end ≡ (if c.args.back && not c.args.hard.keeps then end_of_kept c.args.from cs else c.args.to) =
    elim c.if-goes.branch [
      | then-goes w ↦ chosen-yes (c.args.back && not c.args.hard.keeps) c.if-goes.end (end_of_kept c.args.from cs) c.args.to _ (sym goes ∙ w.if-goes.true) w.end-is w.kept_end-end.ensures
      | else-goes w ↦ chosen-no (c.args.back && not c.args.hard.keeps) c.if-goes.end (end_of_kept c.args.from cs) c.args.to (sym goes ∙ w.if-goes.false) w.end-is
    ] in
    end-stretch c.args.bytes.now c.args.from c.args.to c.if-goes.end (c.args.back && not c.args.hard.keeps) c.requires.stretch end

pub blank_name-requires-clause-stretch : goal.blank_name-requires-clause-stretch
blank_name-requires-clause-stretch c =
    let cs = between c.args.bytes.now c.args.from c.args.to in
    let goes : c.if-back.goes ≡ (c.args.back && not c.args.hard.keeps) =
    elim c.if-back.branch [
      | then-back w ↦ w.goes-is ∙ ap (λ b. b && not c.args.hard.keeps) (sym w.if-back.true)
      | else-back w ↦ w.goes-is ∙ w.if-back.false ∙ ap (λ b. b && not c.args.hard.keeps) (sym w.if-back.false)
    ] in
    let end : c.if-goes.end ≡ (if c.args.back && not c.args.hard.keeps then end_of_kept c.args.from cs else c.args.to) =
    elim c.if-goes.branch [
      | then-goes w ↦ chosen-yes (c.args.back && not c.args.hard.keeps) c.if-goes.end (end_of_kept c.args.from cs) c.args.to _ (sym goes ∙ w.if-goes.true) w.end-is w.kept_end-end.ensures
      | else-goes w ↦ chosen-no (c.args.back && not c.args.hard.keeps) c.if-goes.end (end_of_kept c.args.from cs) c.args.to (sym goes ∙ w.if-goes.false) w.end-is
    ] in
    back-stretch c.args.bytes.now c.args.from c.args.to c.if-goes.end (c.args.back && not c.args.hard.keeps) c.requires.stretch end

pub returns : goal.returns
returns c =
    let cs = between c.args.bytes.now c.args.from c.args.to in
    let ds = between c.args.bytes.now c.args.from c.if-goes.end in
    let goes : c.if-back.goes ≡ (c.args.back && not c.args.hard.keeps) =
    elim c.if-back.branch [
      | then-back w ↦ w.goes-is ∙ ap (λ b. b && not c.args.hard.keeps) (sym w.if-back.true)
      | else-back w ↦ w.goes-is ∙ w.if-back.false ∙ ap (λ b. b && not c.args.hard.keeps) (sym w.if-back.false)
    ] in
    let end : c.if-goes.end ≡ (if c.args.back && not c.args.hard.keeps then end_of_kept c.args.from cs else c.args.to) =
    elim c.if-goes.branch [
      | then-goes w ↦ chosen-yes (c.args.back && not c.args.hard.keeps) c.if-goes.end (end_of_kept c.args.from cs) c.args.to _ (sym goes ∙ w.if-goes.true) w.end-is w.kept_end-end.ensures
      | else-goes w ↦ chosen-no (c.args.back && not c.args.hard.keeps) c.if-goes.end (end_of_kept c.args.from cs) c.args.to (sym goes ∙ w.if-goes.false) w.end-is
    ] in
    let start : c.if-front.start ≡ (if c.args.front then end_of_lead c.args.from ds else c.args.from) =
    elim c.if-front.branch [
      | then-front w ↦ chosen-yes c.args.front c.if-front.start (end_of_lead c.args.from ds) c.args.from _ w.if-front.true w.start-is w.lead_end-start.ensures
      | else-front w ↦ chosen-no c.args.front c.if-front.start (end_of_lead c.args.from ds) c.args.from w.if-front.false w.start-is
    ] in
    let one : List Event = leaf_events N.SpaceOrTab c.args.from c.if-front.start in
    let two : List Event = leaf_events N.Data c.if-front.start c.if-goes.end in
    let three : List Event = leaf_events c.blank_name.result c.if-goes.end c.args.to in
    c.in_ok-push_leaf-3.ensures
    ∙ ap (λ xs. xs ++ three) (c.in_ok-push_leaf-2.ensures ∙ ap (λ xs. xs ++ two) (c.in_ok-push_leaf.ensures ∙ ap (λ xs. xs ++ one) c.clear.ensures.items))
    ∙ trimmed-is c.args.bytes.now c.args.from c.args.to c.if-goes.end c.if-front.start c.args.front c.args.back (breaks_of c.args.hard) c.blank_name.result c.requires.stretch end start c.blank_name.ensures
