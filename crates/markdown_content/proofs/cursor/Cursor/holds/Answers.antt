-- At each code among the bytes one fewer is left to be found.
use Rattle.std.proofs.Common.{◌≡◌, Some, sym, subst, ◌∙◌, arith}
use Rattle.markdown_content.specs.Place.{Place, code_at}
use Rattle.markdown_content.proofs.ByteCounts.{AreLeftToFind, left-start, left-one, left-other, left-stretch, left-none}
use Rattle.markdown_content.proofs.PlaceRules.{left_moved}
use Rattle.markdown_content.proofs.StretchLemmas.{left-behind}
use Rattle.markdown_content.proofs.cursor.Cursor.holds.Goals.{then-contains, else-contains}
use Rattle.markdown_content.proofs.cursor.Cursor.holds.Goals as goal

pub loop-left-init : goal.loop-left-init
loop-left-init c =
    left-start c.args.bytes.now c.args.times c.args.self.now c.restart-place.result c.restart-place.ensures

pub returns-in_default : goal.returns-in_default
returns-in_default c =
    left-none c.args.bytes.now c.args.times c.args.self.now.codes c.loop-left.left c.seek.new.self
    (left-stretch c.args.bytes.now c.args.times c.args.self.now.codes c.loop-left.left c.loop-left.place c.seek.new.self c.seek.ensures.place c.loop-left.invariant)
    c.loop-left-test.true (sym c.seek.ensures.code ∙ c.in_default.is)

pub loop-left-smaller : goal.loop-left-smaller
loop-left-smaller c = grind (arith, left_moved, left-behind)

pub loop-left-preserved : goal.loop-left-preserved
loop-left-preserved c =
    let q : Place = c.seek.new.self in
    let here : code_at q ≡ Some c.in-Some.code = sym c.seek.ensures.code ∙ c.in-Some.is in
    let k : AreLeftToFind c.args.bytes.now c.args.times c.args.self.now.codes c.loop-left.left q =
    left-stretch c.args.bytes.now c.args.times c.args.self.now.codes c.loop-left.left c.loop-left.place q c.seek.ensures.place c.loop-left.invariant in
    elim c.if-contains.branch [
      | then-contains w ↦ subst (λ n. AreLeftToFind c.args.bytes.now c.args.times c.args.self.now.codes n c.consume.new.self) (sym w.left-is) (left-one c.args.bytes.now c.args.times c.args.self.now.codes c.loop-left.left c.in-Some.code q c.consume.new.self k c.loop-left-test.true here (sym c.contains.ensures ∙ w.if-contains.true) c.consume.ensures)
      | else-contains w ↦ subst (λ n. AreLeftToFind c.args.bytes.now c.args.times c.args.self.now.codes n c.consume.new.self) (sym w.left-is) (left-other c.args.bytes.now c.args.times c.args.self.now.codes c.loop-left.left c.in-Some.code q c.consume.new.self k here (sym c.contains.ensures ∙ w.if-contains.false) c.consume.ensures)
    ]
