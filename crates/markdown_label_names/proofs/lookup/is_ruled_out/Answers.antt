-- What rules a label out by itself.
use Rattle.markdown_label_names.specs.LabelSetting.{setting_in}
use Rattle.markdown_label_names.proofs.IdentifierFrontLemmas.{unknown-nothing}
use Rattle.markdown_label_names.proofs.lookup.is_ruled_out.Goals as goal

pub returns-then-defines_nothing : goal.returns-then-defines_nothing
returns-then-defines_nothing c =
    λ _. unknown-nothing (setting_in c.args.tokenizer.now) c.args.kind _ (c.defines_nothing.ensures.definitions c.if-defines_nothing.true) (c.defines_nothing.ensures.footnotes c.if-defines_nothing.true)

pub returns-then-brackets_rule_out : goal.returns-then-brackets_rule_out
returns-then-brackets_rule_out c = λ _. c.brackets_rule_out.ensures c.if-brackets_rule_out.true
