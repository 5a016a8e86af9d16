-- A front with a bare bracket makes the whole label bare.
use Rattle.std.proofs.Common.{◌∙◌, ap, false, sym}
use Rattle.std.proofs.lemmas.Bool.{not-true}
use Rattle.markdown_content.specs.declared.configuration.Rules.{Rules}
use Rattle.markdown_model.specs.Setting.{brackets_are_escaped}
use Rattle.markdown_label_names.specs.LabelSetting.{setting_in}
use Rattle.markdown_label_names.proofs.BareBrackets.{bare-front, bare-label}
use Rattle.markdown_label_names.proofs.IdentifierFrontLemmas.{front-cuts}
use Rattle.markdown_label_names.proofs.TextParts.{name-front}
use Rattle.markdown_label_names.proofs.lookup.bare_bracket_rules_out.Goals as goal

pub name_between-requires-clause-cuts : goal.name_between-requires-clause-cuts
name_between-requires-clause-cuts c =
    front-cuts _ c.args.start c.boundary-middle.result c.args.end _ c.requires.cuts c.boundary-middle.ensures.after c.boundary-middle.ensures.boundary

pub returns : goal.returns
returns c = λ out.
    bare-label (setting_in c.args.tokenizer.now) c.args.kind c.args.start c.args.end (sym c.is_footnote.ensures ∙ c.if-is_footnote.false) (ap (λ (r : Rules). r.definitions_have_labels) (sym c.rules-limited.ensures) ∙ c.if-not-limited.false)
    (bare-front _ _
    (name-front c.args.tokenizer.now c.requires.own c.args.start c.boundary-middle.result c.args.end (front-cuts _ c.args.start c.boundary-middle.result c.args.end _ c.requires.cuts c.boundary-middle.ensures.after c.boundary-middle.ensures.boundary) c.boundary-middle.ensures.before)
    (ap (brackets_are_escaped false) (sym (c.as_bytes.ensures.value ∙ c.in_ok-front.ensures)) ∙ sym c.brackets_are_escaped.ensures ∙ not-true _ out))
