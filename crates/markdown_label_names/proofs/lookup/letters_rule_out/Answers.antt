-- The letters that a label begins with are a front of it, and their own identifier.
use Rattle.std.proofs.Common.{subst, sym, ap, ◌∙◌}
use Rattle.std.specs.Str.{IsUtf8}
use Rattle.std.proofs.lemmas.Bool.{not-true}
use Rattle.markdown_engine.specs.declared.tokenizer.Tokenizer.{Tokenizer}
use Rattle.markdown_plan.specs.Characters.{bytes_of}
use Rattle.markdown_model.specs.Setting.{rules}
use Rattle.markdown_util.specs.Identifier.{identifier_by}
use Rattle.markdown_label_names.specs.LabelSetting.{setting_in}
use Rattle.markdown_label_names.proofs.IdentifierFrontLemmas.{cuts-text}
use Rattle.markdown_label_names.proofs.TextParts.{unknown-from}
use Rattle.markdown_label_names.proofs.lookup.letters_rule_out.Goals as goal

pub as_str-requires : goal.as_str-requires
as_str-requires c =
    subst IsUtf8 (sym c.from_indices-front.ensures.bytes) (cuts-text (bytes_of c.args.tokenizer.now) c.args.start c.letters_end-middle.result c.letters_end-middle.ensures.cuts)

pub returns : goal.returns
returns c = λ out.
    let T : Tokenizer = c.args.tokenizer.now in
    let middle = c.letters_end-middle.ensures in
    unknown-from T c.requires.own c.args.kind c.as_str.result.now c.args.start c.letters_end-middle.result c.args.end middle.cuts middle.before
    (c.as_str.ensures ∙ c.from_indices-front.ensures.bytes ∙ sym (middle.identifier (rules (setting_in T)).nul_is_replaced)
    ∙ ap (identifier_by (rules (setting_in T)).nul_is_replaced) (sym (c.is_whole.ensures.whole c.if-not-is_whole.false)))
    (sym c.in_ok-begins.ensures ∙ not-true _ out)
