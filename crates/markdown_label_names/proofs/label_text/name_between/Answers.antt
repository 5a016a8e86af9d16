-- The text between two places that may be cut is a text.
use Rattle.std.proofs.Common.{◌≡◌, ◌∙◌, sym, subst}
use Rattle.std.specs.Str.{IsUtf8}
use Rattle.std.proofs.lemmas.Result.{IfOk-weaker}
use Rattle.markdown_engine.specs.declared.tokenizer.Tokenizer.{Tokenizer}
use Rattle.markdown_model.specs.LabelEnd.{text_between}
use Rattle.markdown_plan.specs.Characters.{bytes_of}
use Rattle.markdown_util.specs.Identifier.{identifier_by}
use Rattle.markdown_label_names.specs.LabelSetting.{setting_in}
use Rattle.markdown_label_names.proofs.IdentifierFrontLemmas.{cuts-text}
use Rattle.markdown_label_names.proofs.TextParts.{text-utf8}
use Rattle.markdown_label_names.proofs.label_text.name_between.Goals as goal

pub as_str-requires : goal.as_str-requires
as_str-requires c =
    subst IsUtf8 (sym c.from_indices-between.ensures.bytes) (cuts-text (bytes_of c.args.tokenizer.now) c.args.start c.args.end c.requires.cuts)

pub returns : goal.returns
returns c =
    let T : Tokenizer = c.args.tokenizer.now in
    let u : IsUtf8 c.as_slice.result.now = subst IsUtf8 (sym (c.as_slice.ensures.value ∙ c.in_ok-text.ensures)) (text-utf8 T c.requires.own c.args.start c.args.end c.requires.cuts) in
    let same : c.utf8_text.result.now ≡ text_between (setting_in T) c.args.start c.args.end = c.utf8_text.ensures u ∙ c.as_slice.ensures.value ∙ c.in_ok-text.ensures in
    IfOk-weaker c.identifier_by-2.result _ _ (λ name k. k ∙ (λ i. identifier_by (c.rules-replaced.ensures i).nul_is_replaced (same i))) c.identifier_by-2.ensures
