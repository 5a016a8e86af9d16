-- At each such place one fewer is left to be found.
use Rattle.std.proofs.Common.{◌≡◌, ◌+◌, ◌≤◌, Some, length, sym, ap, subst, ◌∙◌, arith}
use Rattle.markdown_content.specs.Place.{Place, ahead_at, moved, code_at}
use Rattle.markdown_content.specs.Stretch.{past_stretch}
use Rattle.markdown_content.proofs.PlaceRules.{left_moved}
use Rattle.markdown_content.proofs.StretchLemmas.{left-behind}
use Rattle.markdown_leaf_gfm.specs.DomainScans.{underscores}
use Rattle.markdown_leaf_gfm.proofs.DomainOutlookLemmas.{OpeningsAreLeft, left-start, left-stretch, left-none, opening-one, opening-none}
use Rattle.markdown_leaf_gfm.proofs.domain_outlook.opens_often.Goals as goal

pub loop-left-init : goal.loop-left-init
loop-left-init c = left-start c.args.times c.args.cursor.now c.restart-place.result c.restart-place.ensures

pub returns-in_default : goal.returns-in_default
returns-in_default c =
    let q : Place = c.seek.new.place in
    let at : q ≡ past_stretch underscores c.loop-left.place = c.seek.ensures.place ∙ ap (λ ms. past_stretch ms c.loop-left.place) c.underscores-marks.ensures in
    left-none c.args.times c.args.cursor.now.codes c.loop-left.left q
    (subst (λ (p : Place). OpeningsAreLeft c.args.times c.args.cursor.now.codes c.loop-left.left p) (sym at) (left-stretch c.args.times c.args.cursor.now.codes c.loop-left.left c.loop-left.place c.loop-left.invariant))
    c.loop-left-test.true (sym c.seek.ensures.code ∙ c.in_default.is)

pub loop-left-smaller-then-opens : goal.loop-left-smaller-then-opens
loop-left-smaller-then-opens c =
    let q : Place = c.seek.new.place in
    let here : code_at q ≡ Some c.in-Some.code = sym c.seek.ensures.code ∙ c.in-Some.is in
    let one : length (ahead_at (moved q)) + 1 ≡ length (ahead_at q) = left_moved q c.in-Some.code here in
    left-behind c.underscores-marks.result c.loop-left.place q c.consume.new.self c.in-Some.code c.seek.ensures.place here
    (subst (λ (p : Place). length (ahead_at p) + 1 ≤ length (ahead_at q)) (sym c.consume.ensures) (omega (arith, one)))

pub loop-left-smaller : goal.loop-left-smaller
loop-left-smaller c =
    let q : Place = c.seek.new.place in
    let here : code_at q ≡ Some c.in-Some.code = sym c.seek.ensures.code ∙ c.in-Some.is in
    let one : length (ahead_at (moved q)) + 1 ≡ length (ahead_at q) = left_moved q c.in-Some.code here in
    left-behind c.underscores-marks.result c.loop-left.place q c.consume.new.self c.in-Some.code c.seek.ensures.place here
    (subst (λ (p : Place). length (ahead_at p) + 1 ≤ length (ahead_at q)) (sym c.consume.ensures) (omega (arith, one)))

pub loop-left-preserved-then-opens : goal.loop-left-preserved-then-opens
loop-left-preserved-then-opens c =
    let q : Place = c.seek.new.place in
    let here : code_at q ≡ Some c.in-Some.code = sym c.seek.ensures.code ∙ c.in-Some.is in
    let at : q ≡ past_stretch underscores c.loop-left.place = c.seek.ensures.place ∙ ap (λ ms. past_stretch ms c.loop-left.place) c.underscores-marks.ensures in
    let k : OpeningsAreLeft c.args.times c.args.cursor.now.codes c.loop-left.left q =
    subst (λ (p : Place). OpeningsAreLeft c.args.times c.args.cursor.now.codes c.loop-left.left p) (sym at) (left-stretch c.args.times c.args.cursor.now.codes c.loop-left.left c.loop-left.place c.loop-left.invariant) in
    opening-one c.args.times c.args.cursor.now.codes c.loop-left.left c.in-Some.code q c.consume.new.self k c.loop-left-test.true here (sym c.opens.ensures ∙ c.if-opens.true) c.consume.ensures

pub loop-left-preserved : goal.loop-left-preserved
loop-left-preserved c =
    let q : Place = c.seek.new.place in
    let here : code_at q ≡ Some c.in-Some.code = sym c.seek.ensures.code ∙ c.in-Some.is in
    let at : q ≡ past_stretch underscores c.loop-left.place = c.seek.ensures.place ∙ ap (λ ms. past_stretch ms c.loop-left.place) c.underscores-marks.ensures in
    let k : OpeningsAreLeft c.args.times c.args.cursor.now.codes c.loop-left.left q =
    subst (λ (p : Place). OpeningsAreLeft c.args.times c.args.cursor.now.codes c.loop-left.left p) (sym at) (left-stretch c.args.times c.args.cursor.now.codes c.loop-left.left c.loop-left.place c.loop-left.invariant) in
    opening-none c.args.times c.args.cursor.now.codes c.loop-left.left c.in-Some.code q c.consume.new.self k here (sym c.opens.ensures ∙ c.if-opens.false) c.consume.ensures
