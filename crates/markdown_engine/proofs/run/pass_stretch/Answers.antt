use Rattle.std.proofs.Common.{sym, subst}
use Rattle.markdown_content.specs.Place.{Place}
use Rattle.markdown_engine.specs.Steady.{Onward}
use Rattle.markdown_engine.proofs.SteadyLemmas.{onward-stretch}
use Rattle.markdown_engine.proofs.run.pass_stretch.Goals as goal

pub returns-in-Some : goal.returns-in-Some
returns-in-Some g c =
    let law = g.L.Layer in
    subst (λ (p : Place). Onward law.ready law.step law.ends law.weight c.args.name c.args.tokenizer.now (record c.args.tokenizer.now { cursor = p })) (sym c.consume_stretch.ensures)
    (onward-stretch law.ready law.step law.ends law.weight law.stops g.met.L.Layer.laws g.met.L.Layer.steady c.args.name c.in-Some.stops c.args.tokenizer.now c.requires.alone c.requires.ready (sym c.in-Some.ensures))
