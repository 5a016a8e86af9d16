-- Of another number of brackets nothing is defined.
use Rattle.std.proofs.Common.{◌∙◌, sym, subst, List, ℕ}
use Rattle.markdown_engine.specs.declared.tokenizer.Tokenizer.{Tokenizer}
use Rattle.markdown_model.specs.Setting.{rules}
use Rattle.markdown_util.specs.Identifier.{identifier_by}
use Rattle.markdown_label_names.specs.IdentifierFronts.{IsUnknown}
use Rattle.markdown_label_names.specs.LabelSetting.{setting_in}
use Rattle.markdown_label_names.proofs.IdentifierBrackets.{lacks-unknown}
use Rattle.markdown_label_names.proofs.lookup.brackets_rule_out.Goals as goal

pub returns-then-lacks_count : goal.returns-then-lacks_count
returns-then-lacks_count c = λ whole.
    let T : Tokenizer = c.args.tokenizer.now in
    subst (λ (text : List ℕ). IsUnknown (setting_in T) c.args.kind (identifier_by (rules (setting_in T)).nul_is_replaced text)) (sym (c.is_whole.ensures.whole whole))
    (lacks-unknown T c.in-Some.names c.requires.listed c.in-Some.is (rules (setting_in T)).nul_is_replaced c.args.kind c.args.start c.args.end c.requires.cuts (sym c.lacks_count.ensures ∙ c.if-lacks_count.true))
