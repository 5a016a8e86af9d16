-- What definitions see of a `Target`.
use Rattle.std.specs.Option.{option_map}
use Rattle.markdown_targets.specs.LinkTargets.{Led, address, definition, footnote}
use Rattle.markdown_targets.specs.declared.target.Target.{Target}

abbrev pub led_of : Target → Led
led_of (Target.Here a) = address a.destination.items (option_map (λ t. t.items) a.title)
led_of (Target.Definition n) = definition n
led_of (Target.Footnote n) = footnote n
