-- The first name that does not come before a front settles it.
use Rattle.std.proofs.Common.{◌==◌, ◌∙◌, ℕ, Bool, List, ap, length, string_bytes}
use Rattle.std.specs.List.{starts_with}
use Rattle.std.proofs.lemmas.Bool.{le-ltb}
use Rattle.markdown_notes.proofs.NameOrder.{begins-after, begins-between, found, none}
use Rattle.markdown_notes.proofs.name_index.one_begins.Goals as goal

pub returns-then-at-names : goal.returns-then-at-names
returns-then-at-names c =
    let p : List ℕ → Bool = λ name. starts_with (◌==◌) name c.args.front.now in
    c.starts_with.ensures.value ∙ (λ i. starts_with (◌==◌) (c.as_bytes.ensures.value i) (c.as_bytes-then-at-names.ensures.value i))
    ∙ ap (λ x. p (string_bytes x)) c.index-names-at.is
    ∙ found string_bytes c.args.names.now c.first_from-at.result c.args.front.now c.requires c.first_from-at.ensures.before c.first_from-at.ensures.after p (begins-after c.args.front.now) (begins-between c.args.front.now) c.index-names-at.result c.if-at-names.true

pub returns-else-at-names : goal.returns-else-at-names
returns-else-at-names c =
    let p : List ℕ → Bool = λ name. starts_with (◌==◌) name c.args.front.now in
    le-ltb c.first_from-at.result (length c.args.names.now) c.if-at-names.false
    ∙ none string_bytes c.args.names.now c.first_from-at.result c.args.front.now c.requires c.first_from-at.ensures.before c.first_from-at.ensures.after p (begins-after c.args.front.now) (begins-between c.args.front.now) c.if-at-names.false
