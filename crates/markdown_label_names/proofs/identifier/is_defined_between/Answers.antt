-- The bytes between two events are a text, and theirs is the identifier.
use Rattle.std.proofs.Common.{ap, ◌∙◌}
use Rattle.std.proofs.lemmas.Result.{IfOk-weaker}
use Rattle.markdown_label_names.specs.LabelSetting.{setting_in}
use Rattle.markdown_model.specs.Setting.{defines}
use Rattle.markdown_label_names.proofs.BytesBetween.{lent-cuts, lent-name}
use Rattle.markdown_label_names.proofs.identifier.is_defined_between.Goals as goal

pub is_defined_from-requires-clause-cuts : goal.is_defined_from-requires-clause-cuts
is_defined_from-requires-clause-cuts c =
    lent-cuts c.args.tokenizer.now c.args.from c.args.to c.at-start.result c.at.result c.requires c.at-start.ensures c.at.ensures c.max-end.result c.max-end.ensures

pub returns-clause-defined : goal.returns-clause-defined
returns-clause-defined c =
    IfOk-weaker c.is_defined_from.result _ _
    (λ defined k. k ∙ ap (defines (setting_in c.args.tokenizer.now)) (lent-name c.args.tokenizer.now c.args.from c.args.to c.at-start.result c.at.result c.requires c.at-start.ensures c.at.ensures c.max-end.result c.max-end.ensures))
    c.is_defined_from.ensures.defined
