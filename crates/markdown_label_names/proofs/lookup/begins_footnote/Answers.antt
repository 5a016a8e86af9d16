-- The names in order are those that are defined.
use Rattle.std.proofs.Common.{◌==◌, ◌∙◌}
use Rattle.std.specs.List.{starts_with}
use Rattle.markdown_label_names.proofs.NameIndexSearch.{any-footnote}
use Rattle.markdown_label_names.proofs.lookup.begins_footnote.Goals as goal

pub returns-in-Some : goal.returns-in-Some
returns-in-Some c =
    c.begins.ensures ∙ any-footnote c.args.tokenizer.now c.in-Some.names c.requires c.in-Some.is (λ name. starts_with (◌==◌) name c.args.front.now)
