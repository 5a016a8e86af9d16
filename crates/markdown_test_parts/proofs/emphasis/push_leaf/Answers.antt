use Rattle.std.proofs.Common.{◌≡◌, ◌++◌, ◌∷◌, []}
use Rattle.markdown_content.specs.Tree.{event}
use Rattle.markdown_event.specs.declared.event.Kind.TheVariants as Kind
use Rattle.markdown_test_parts.proofs.JoinedEvents.{leaf-pushed, if-ok}
use Rattle.markdown_test_parts.proofs.emphasis.push_leaf.Goals as goal

pub returns : goal.returns
returns c =
    if-ok c.push-2.result
    (λ (x : c.push-2.new.self ≡ c.push.new.self ++ event Kind.Exit c.args.name c.place-2.result ∷ []).
    leaf-pushed c.args.bytes.now c.args.name c.args.from c.args.to c.place.result c.place-2.result c.args.events.now c.push.new.self c.push-2.new.self
    c.requires.ascii c.requires.forward c.requires.within c.requires.fits c.requires.marker c.place.ensures c.place-2.ensures c.requires.runs c.in_ok-push.ensures.ok x)
    c.push-2.ensures.ok
