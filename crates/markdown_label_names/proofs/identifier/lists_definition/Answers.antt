-- The names in order are those that are defined.
use Rattle.std.proofs.Common.{◌∙◌}
use Rattle.std.specs.Str.{bytes_eq}
use Rattle.markdown_label_names.proofs.NameIndexSearch.{any-definition}
use Rattle.markdown_label_names.proofs.identifier.lists_definition.Goals as goal

pub returns-in-Some : goal.returns-in-Some
returns-in-Some c =
    c.has.ensures ∙ any-definition c.args.tokenizer.now c.in-Some.names c.requires c.in-Some.is (bytes_eq c.args.name.now)
