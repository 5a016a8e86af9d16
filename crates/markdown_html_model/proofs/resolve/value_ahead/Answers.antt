use Rattle.std.proofs.Common.{◌∙◌, sym, subst}
use Rattle.markdown_util.specs.Reference.{IsNumber, radix_of}
use Rattle.markdown_util.proofs.WholeReference.{number_from_value}
use Rattle.markdown_html_model.proofs.ReferenceValues.{value_utf8, ok_of, value_of}
use Rattle.markdown_html_model.proofs.resolve.value_ahead.Goals as goal

pub unwrap-text-requires : goal.unwrap-text-requires
unwrap-text-requires c =
    ok_of c.from_utf8.result c.split_at.result.0.now _ c.from_utf8.ensures.cases (value_utf8 c.args.marker c.split_at.result.0.now (sym c.is_value.ensures ∙ c.if-not-is_value.false))

pub decode_by-requires-clause-number : goal.decode_by-requires-clause-number
decode_by-requires-clause-number c off =
    let value = value_of c.from_utf8.result c.unwrap-text.result c.split_at.result.0.now _ c.from_utf8.ensures.cases c.unwrap-text.ensures in
    subst (λ v. IsNumber (radix_of c.args.marker) v) (sym value)
    (number_from_value c.args.marker c.split_at.result.0.now c.requires (sym c.is_value.ensures ∙ c.if-not-is_value.false) off)
