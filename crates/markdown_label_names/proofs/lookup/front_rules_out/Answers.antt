-- A front that no definition begins with rules the whole label out.
use Rattle.std.proofs.Common.{refl, sym, ◌∙◌}
use Rattle.markdown_label_names.proofs.IdentifierFrontLemmas.{front-cuts}
use Rattle.markdown_label_names.proofs.TextParts.{unknown-from}
use Rattle.markdown_label_names.proofs.lookup.front_rules_out.Goals as goal

pub front_begins-requires-clause-cuts : goal.front_begins-requires-clause-cuts
front_begins-requires-clause-cuts c =
    front-cuts _ c.args.start c.boundary-middle.result c.args.end _ c.requires.cuts c.boundary-middle.ensures.after c.boundary-middle.ensures.boundary

pub returns-then-not-branch : goal.returns-then-not-branch
returns-then-not-branch c = λ _.
    unknown-from c.args.tokenizer.now c.requires.own c.args.kind _ c.args.start c.boundary-middle.result c.args.end
    (front-cuts _ c.args.start c.boundary-middle.result c.args.end _ c.requires.cuts c.boundary-middle.ensures.after c.boundary-middle.ensures.boundary) c.boundary-middle.ensures.before refl (sym c.in_ok-front_begins.ensures ∙ c.if-not-branch.true)
