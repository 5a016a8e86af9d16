-- What definitions are, as the model sees them.
use Rattle.std.specs.Prelude.{string_bytes}
use Rattle.std.specs.Option.{option_map}
use Rattle.markdown_html_model.specs.Html.{Defined}
use Rattle.markdown_html_model.specs.declared.options.Definition.{Definition}

abbrev pub defined_of : Definition → Defined
defined_of d = record { identifier = string_bytes d.identifier; destination = string_bytes d.destination; title = option_map string_bytes d.title }
