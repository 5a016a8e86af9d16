-- The bytes between two events are a text, and theirs is the identifier.
use Rattle.std.proofs.Common.{◌≡◌, IfOk, sym, ap, subst, ◌∙◌}
use Rattle.std.proofs.lemmas.Result.{IfOk-weaker}
use Rattle.markdown_engine.specs.declared.tokenizer.Tokenizer.{Tokenizer}
use Rattle.markdown_label_names.specs.LabelNames.{link_as, label_between}
use Rattle.markdown_label_names.specs.LabelSetting.{setting_in}
use Rattle.markdown_label_names.proofs.BytesBetween.{lent-cuts, lent-label}
use Rattle.markdown_label_names.proofs.identifier.link_between.Goals as goal

pub link_from-link-requires-clause-cuts : goal.link_from-link-requires-clause-cuts
link_from-link-requires-clause-cuts c =
    lent-cuts c.args.tokenizer.now c.args.from c.args.to c.at-start.result c.at.result c.requires c.at-start.ensures c.at.ensures c.max-end.result c.max-end.ensures

pub returns-clause-link : goal.returns-clause-link
returns-clause-link c =
    let T : Tokenizer = c.args.tokenizer.now in
    let name = lent-label T c.args.from c.args.to c.at-start.result c.at.result c.requires c.at-start.ensures c.at.ensures c.args.kind c.max-end.result c.max-end.ensures in
    subst (λ found. IfOk found (λ link. link ≡ link_as (setting_in T) c.args.kind (label_between T c.args.kind c.args.from c.args.to)))
    (sym c.noted.ensures.same)
    (IfOk-weaker c.link_from-link.result _ _ (λ link k. k ∙ ap (link_as (setting_in T) c.args.kind) name) c.link_from-link.ensures)
