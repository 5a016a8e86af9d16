-- What an example of HTML has to open to compute, beside what its tree does.
use Rattle.std.specs.Prelude.{Bool, true}
use Rattle.std.specs.Fmt.{digits}
use Rattle.std.specs.Str.{is_utf8}
use Rattle.markdown_content.specs.Slices.{spaces_before, spaces_after}
use Rattle.markdown_html_model.specs.Escaped.{escaped, replaced, addressed}
use Rattle.markdown_html_model.specs.Resolved.{resolved, reference_ahead}
use Rattle.markdown_html_model.specs.Schemes.{is_safe, scheme_of}
use Rattle.markdown_html_model.specs.Html.{calls_behind, html, plain_text_by, text_between}
use Rattle.markdown_worked_examples.proofs.Computed.{computed}

unfoldable pub html_computed : Bool
unfolding computed escaped replaced addressed resolved reference_ahead is_safe scheme_of html calls_behind plain_text_by text_between spaces_before spaces_after is_utf8 digits
html_computed = true
