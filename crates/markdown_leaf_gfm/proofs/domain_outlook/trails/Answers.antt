-- Code by code.
use Rattle.std.proofs.Common.{◌≡◌, ◌+◌, ◌<◌, ◌∙◌, length, Option, Bool, sym, subst, arith}
use Rattle.markdown_content.specs.Place.{Place, ahead_at, moved}
use Rattle.markdown_content.proofs.PlaceRules.{left_moved}
use Rattle.markdown_leaf_gfm.specs.DomainScans.{IsLook}
use Rattle.markdown_leaf_gfm.specs.declared.domain_outlook.Look.{Look}
use Rattle.markdown_leaf_gfm.proofs.TrailScans.{Looking, looking-start, looking-on, looking-ends, looking-none, looking-some}
use Rattle.markdown_leaf_gfm.proofs.domain_outlook.trails.Goals as goal

pub loop-code-init : goal.loop-code-init
loop-code-init c =
    looking-start c.args.bytes.now c.args.cursor.now c.save-place.result c.save-place.ensures c.requires.text c.requires.begins

pub returns-in-Ends : goal.returns-in-Ends
returns-in-Ends c =
    looking-ends c.args.bytes.now c.args.cursor.now c.loop-code.place c.loop-code.name c.in-Some.code c.in-Ends.answer
    (subst (λ (l : Look). IsLook c.args.bytes.now c.loop-code.name c.loop-code.place c.in-Some.code l) c.in-Ends.is c.look_at.ensures) c.loop-code.invariant

pub loop-code-smaller : goal.loop-code-smaller
loop-code-smaller c =
    let less : length (ahead_at (moved c.loop-code.place)) + 1 ≡ length (ahead_at c.loop-code.place) = left_moved c.loop-code.place c.in-Some.code (sym c.current.ensures ∙ c.in-Some.is) in
    subst (λ (p : Place). length (ahead_at p) < length (ahead_at c.loop-code.place)) (sym c.consume.ensures) (omega (arith, less))

pub loop-code-preserved : goal.loop-code-preserved
loop-code-preserved c =
    looking-on c.args.bytes.now c.args.cursor.now c.loop-code.place c.consume.new.self c.loop-code.name c.in-GoesOn.next c.in-Some.code (sym c.current.ensures ∙ c.in-Some.is) c.consume.ensures
    (subst (λ (l : Look). IsLook c.args.bytes.now c.loop-code.name c.loop-code.place c.in-Some.code l) c.in-GoesOn.is c.look_at.ensures) c.loop-code.invariant

pub returns-in-None : goal.returns-in-None
returns-in-None c =
    c.is_at_space.ensures
    ∙ looking-none c.args.bytes.now c.args.cursor.now c.loop-code.place (sym c.current.ensures ∙ c.in_default.is)
    (subst (λ (n : Option Bool). Looking c.args.bytes.now c.args.cursor.now n c.loop-code.place) c.in-None.is c.loop-code.invariant)

pub returns : goal.returns
returns c =
    looking-some c.args.bytes.now c.args.cursor.now c.loop-code.place c.in-Some-name.field-0 (sym c.current.ensures ∙ c.in_default.is)
    (subst (λ (n : Option Bool). Looking c.args.bytes.now c.args.cursor.now n c.loop-code.place) c.in-Some-name.is c.loop-code.invariant)
