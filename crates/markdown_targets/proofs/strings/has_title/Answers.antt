use Rattle.std.proofs.Common.{rules, tests}
use Rattle.std.proofs.lemmas.Iterator.Consumers.{YieldsList-from_first}
use Rattle.std.proofs.lemmas.Iterator.Search.{any_from_yields_List}
use Rattle.markdown_targets.specs.LinkTargets.{is_title}
use Rattle.markdown_targets.proofs.strings.has_title.Goals as goal

pub returns : goal.returns
returns c =
    any_from_yields_List is_title _ _ _ c.any.ensures.ran
    (YieldsList-from_first (λ x. x) (λ rest. rest) c.args.events.now c.iter.ensures) (λ x b q k. search (rules, tests))
