-- From one `_` to the next.
use Rattle.std.proofs.Common.{◌≡◌, refl, ◌+◌, ◌≤◌, Some, length, sym, ap, subst, ◌∙◌, arith}
use Rattle.markdown_content.specs.Place.{Place, ahead_at, moved, code_at}
use Rattle.markdown_content.specs.Stretch.{past_stretch}
use Rattle.markdown_content.proofs.PlaceRules.{left_moved}
use Rattle.markdown_content.proofs.StretchLemmas.{left-behind}
use Rattle.markdown_plan.specs.Characters.{IsText}
use Rattle.markdown_plan.proofs.CharactersAlongContent.{text-moved}
use Rattle.markdown_leaf_gfm.specs.DomainScans.{underscores}
use Rattle.markdown_leaf_gfm.proofs.DomainScanLemmas.{reaches-past}
use Rattle.markdown_leaf_gfm.proofs.DomainOutlookLemmas.{Finding, finding-start, finding-stretch, finding-closed, finding-plain, finding-barred, finding-all, found-rises}
use Rattle.markdown_leaf_gfm.proofs.domain_outlook.no_domains.Goals as goal

pub loop-code-init : goal.loop-code-init
loop-code-init c =
    finding-start c.args.bytes.now c.args.cursor.now c.restart-place.result c.new-places.result.items (record { end = 0; barred = 0 }) c.restart-place.ensures c.new-places.ensures.items refl c.requires

pub over-outlook-requires-clause-text : goal.over-outlook-requires-clause-text
over-outlook-requires-clause-text c =
    let q : Place = c.seek.new.place in
    let r : Place = c.consume.new.self in
    let here : code_at q ≡ Some c.in-Some.code = sym c.seek.ensures.code ∙ c.in-Some.is in
    let at : q ≡ past_stretch underscores c.loop-code.place = c.seek.ensures.place ∙ ap (λ ms. past_stretch ms c.loop-code.place) c.underscores-marks.ensures in
    let k : Finding c.args.bytes.now c.args.cursor.now q c.loop-code.places.items c.loop-code.outlook =
    subst (λ (p : Place). Finding c.args.bytes.now c.args.cursor.now p c.loop-code.places.items c.loop-code.outlook) (sym at) (finding-stretch c.args.bytes.now c.args.cursor.now c.loop-code.place c.loop-code.places.items c.loop-code.outlook c.loop-code.invariant) in
    subst (λ (p : Place). IsText c.args.bytes.now p) (sym c.consume.ensures) (text-moved c.args.bytes.now q k.text)

pub over-outlook-requires-clause-known : goal.over-outlook-requires-clause-known
over-outlook-requires-clause-known c =
    let q : Place = c.seek.new.place in
    let r : Place = c.consume.new.self in
    let here : code_at q ≡ Some c.in-Some.code = sym c.seek.ensures.code ∙ c.in-Some.is in
    let at : q ≡ past_stretch underscores c.loop-code.place = c.seek.ensures.place ∙ ap (λ ms. past_stretch ms c.loop-code.place) c.underscores-marks.ensures in
    let k : Finding c.args.bytes.now c.args.cursor.now q c.loop-code.places.items c.loop-code.outlook =
    subst (λ (p : Place). Finding c.args.bytes.now c.args.cursor.now p c.loop-code.places.items c.loop-code.outlook) (sym at) (finding-stretch c.args.bytes.now c.args.cursor.now c.loop-code.place c.loop-code.places.items c.loop-code.outlook c.loop-code.invariant) in
    reaches-past c.args.bytes.now q r c.in-Some.code c.loop-code.outlook here c.consume.ensures k.reaches

pub loop-code-smaller-in-Continue-1 : goal.loop-code-smaller-in-Continue-1
loop-code-smaller-in-Continue-1 c =
    let q : Place = c.seek.new.place in
    let here : code_at q ≡ Some c.in-Some.code = sym c.seek.ensures.code ∙ c.in-Some.is in
    let one : length (ahead_at (moved q)) + 1 ≡ length (ahead_at q) = left_moved q c.in-Some.code here in
    left-behind c.underscores-marks.result c.loop-code.place q c.consume.new.self c.in-Some.code c.seek.ensures.place here
    (subst (λ (p : Place). length (ahead_at p) + 1 ≤ length (ahead_at q)) (sym c.consume.ensures) (omega (arith, one)))

pub loop-code-smaller-else-at-outlook : goal.loop-code-smaller-else-at-outlook
loop-code-smaller-else-at-outlook c =
    let q : Place = c.seek.new.place in
    let here : code_at q ≡ Some c.in-Some.code = sym c.seek.ensures.code ∙ c.in-Some.is in
    let one : length (ahead_at (moved q)) + 1 ≡ length (ahead_at q) = left_moved q c.in-Some.code here in
    left-behind c.underscores-marks.result c.loop-code.place q c.consume.new.self c.in-Some.code c.seek.ensures.place here
    (subst (λ (p : Place). length (ahead_at p) + 1 ≤ length (ahead_at q)) (sym c.consume.ensures) (omega (arith, one)))

pub loop-code-smaller : goal.loop-code-smaller
loop-code-smaller c =
    let q : Place = c.seek.new.place in
    let here : code_at q ≡ Some c.in-Some.code = sym c.seek.ensures.code ∙ c.in-Some.is in
    let one : length (ahead_at (moved q)) + 1 ≡ length (ahead_at q) = left_moved q c.in-Some.code here in
    left-behind c.underscores-marks.result c.loop-code.place q c.consume.new.self c.in-Some.code c.seek.ensures.place here
    (subst (λ (p : Place). length (ahead_at p) + 1 ≤ length (ahead_at q)) (sym c.consume.ensures) (omega (arith, one)))

pub loop-code-preserved-in-Continue-1 : goal.loop-code-preserved-in-Continue-1
loop-code-preserved-in-Continue-1 c =
    let q : Place = c.seek.new.place in
    let r : Place = c.consume.new.self in
    let here : code_at q ≡ Some c.in-Some.code = sym c.seek.ensures.code ∙ c.in-Some.is in
    let at : q ≡ past_stretch underscores c.loop-code.place = c.seek.ensures.place ∙ ap (λ ms. past_stretch ms c.loop-code.place) c.underscores-marks.ensures in
    let k : Finding c.args.bytes.now c.args.cursor.now q c.loop-code.places.items c.loop-code.outlook =
    subst (λ (p : Place). Finding c.args.bytes.now c.args.cursor.now p c.loop-code.places.items c.loop-code.outlook) (sym at) (finding-stretch c.args.bytes.now c.args.cursor.now c.loop-code.place c.loop-code.places.items c.loop-code.outlook c.loop-code.invariant) in
    finding-barred c.args.bytes.now c.args.cursor.now q r c.in-Some.code c.passed-at.result c.loop-code.places.items c.push.new.self.items c.loop-code.outlook c.over-outlook.result here c.consume.ensures
    (sym c.opens.ensures ∙ c.if-opens.true) c.over-outlook.ensures.known c.over-outlook.ensures.here c.passed-at.ensures c.if-at-outlook.true c.in_ok-push.ensures.items k

pub loop-code-preserved-else-at-outlook : goal.loop-code-preserved-else-at-outlook
loop-code-preserved-else-at-outlook c =
    let q : Place = c.seek.new.place in
    let r : Place = c.consume.new.self in
    let here : code_at q ≡ Some c.in-Some.code = sym c.seek.ensures.code ∙ c.in-Some.is in
    let at : q ≡ past_stretch underscores c.loop-code.place = c.seek.ensures.place ∙ ap (λ ms. past_stretch ms c.loop-code.place) c.underscores-marks.ensures in
    let k : Finding c.args.bytes.now c.args.cursor.now q c.loop-code.places.items c.loop-code.outlook =
    subst (λ (p : Place). Finding c.args.bytes.now c.args.cursor.now p c.loop-code.places.items c.loop-code.outlook) (sym at) (finding-stretch c.args.bytes.now c.args.cursor.now c.loop-code.place c.loop-code.places.items c.loop-code.outlook c.loop-code.invariant) in
    finding-plain c.args.bytes.now c.args.cursor.now q r c.in-Some.code c.passed-at.result c.loop-code.places.items c.loop-code.outlook c.over-outlook.result here c.consume.ensures
    (sym c.opens.ensures ∙ c.if-opens.true) c.over-outlook.ensures.known c.over-outlook.ensures.here c.passed-at.ensures c.if-at-outlook.false k

pub loop-code-preserved : goal.loop-code-preserved
loop-code-preserved c =
    let q : Place = c.seek.new.place in
    let r : Place = c.consume.new.self in
    let here : code_at q ≡ Some c.in-Some.code = sym c.seek.ensures.code ∙ c.in-Some.is in
    let at : q ≡ past_stretch underscores c.loop-code.place = c.seek.ensures.place ∙ ap (λ ms. past_stretch ms c.loop-code.place) c.underscores-marks.ensures in
    let k : Finding c.args.bytes.now c.args.cursor.now q c.loop-code.places.items c.loop-code.outlook =
    subst (λ (p : Place). Finding c.args.bytes.now c.args.cursor.now p c.loop-code.places.items c.loop-code.outlook) (sym at) (finding-stretch c.args.bytes.now c.args.cursor.now c.loop-code.place c.loop-code.places.items c.loop-code.outlook c.loop-code.invariant) in
    finding-closed c.args.bytes.now c.args.cursor.now q r c.in-Some.code c.loop-code.places.items c.loop-code.outlook here c.consume.ensures (sym c.opens.ensures ∙ c.if-opens.false) k

pub new-requires : goal.new-requires
new-requires c =
    found-rises c.args.bytes.now c.args.cursor.now.end.index c.args.cursor.now.codes c.loop-code.places.items (
    let at : c.seek.new.place ≡ past_stretch underscores c.loop-code.place = c.seek.ensures.place ∙ ap (λ ms. past_stretch ms c.loop-code.place) c.underscores-marks.ensures in
    finding-all c.args.bytes.now c.args.cursor.now c.seek.new.place c.loop-code.places.items c.loop-code.outlook (sym c.seek.ensures.code ∙ c.in_default.is)
    (subst (λ (p : Place). Finding c.args.bytes.now c.args.cursor.now p c.loop-code.places.items c.loop-code.outlook) (sym at) (finding-stretch c.args.bytes.now c.args.cursor.now c.loop-code.place c.loop-code.places.items c.loop-code.outlook c.loop-code.invariant)))

pub returns : goal.returns
returns c =
    c.new.ensures ∙ (
    let at : c.seek.new.place ≡ past_stretch underscores c.loop-code.place = c.seek.ensures.place ∙ ap (λ ms. past_stretch ms c.loop-code.place) c.underscores-marks.ensures in
    finding-all c.args.bytes.now c.args.cursor.now c.seek.new.place c.loop-code.places.items c.loop-code.outlook (sym c.seek.ensures.code ∙ c.in_default.is)
    (subst (λ (p : Place). Finding c.args.bytes.now c.args.cursor.now p c.loop-code.places.items c.loop-code.outlook) (sym at) (finding-stretch c.args.bytes.now c.args.cursor.now c.loop-code.place c.loop-code.places.items c.loop-code.outlook c.loop-code.invariant)))
