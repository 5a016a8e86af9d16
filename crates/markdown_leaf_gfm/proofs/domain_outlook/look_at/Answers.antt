-- By what stands before.
use Rattle.std.proofs.Common.{sym, subst, Option, Bool, Some}
use Rattle.markdown_leaf_gfm.specs.DomainScans.{IsLook}
use Rattle.markdown_leaf_gfm.specs.declared.domain_outlook.Look.{Look}
use Rattle.markdown_leaf_gfm.proofs.TrailScans.{look-name}
use Rattle.markdown_leaf_gfm.proofs.domain_outlook.look_at.Goals as goal

pub returns-in-None : goal.returns-in-None
returns-in-None c =
    subst (λ (n : Option Bool). IsLook c.args.bytes.now n c.args.place.now c.args.code c.look_at_mark.result) (sym c.in-None.is) c.look_at_mark.ensures

pub returns-in-Some : goal.returns-in-Some
returns-in-Some c =
    subst (λ (n : Option Bool). IsLook c.args.bytes.now n c.args.place.now c.args.code c.look_at_name.result) (sym c.in-Some.is)
    (subst (λ (l : Look). IsLook c.args.bytes.now (Some c.in-Some.seen) c.args.place.now c.args.code l) (sym c.look_at_name.ensures) (look-name c.args.bytes.now c.args.place.now c.args.code c.requires.code c.in-Some.seen))
