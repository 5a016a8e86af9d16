-- What definitions see of the fields of `Labels`.
use Rattle.markdown_content.specs.CommonMark.{rules_of}
use Rattle.markdown_content.specs.Content.{content_of}
use Rattle.markdown_tree.specs.Referred.{Given}
use Rattle.markdown_tree.specs.declared.labels.Labels.{Labels}

abbrev pub given_of : Labels → Given
given_of l = record {
  bytes = l.bytes.now;
  content = content_of l.bytes.now l.pieces.now;
  rules = rules_of l.options.now;
  footnotes_on = l.options.now.constructs.gfm_label_start_footnote;
  definitions = l.definitions.now;
  footnotes = l.footnotes.now;
}
