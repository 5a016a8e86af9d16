-- What a row has to open to compute, beside what its blocks and its inline trees do.
use Rattle.std.specs.Prelude.{Bool, true}
use Rattle.std.specs.Fmt.{digits}
use Rattle.std.specs.Str.{is_utf8}
use Rattle.markdown_content.specs.Slices.{spaces_before, spaces_after}
use Rattle.markdown_html_model.specs.Escaped.{escaped, replaced, addressed}
use Rattle.markdown_html_model.specs.Resolved.{resolved, reference_ahead}
use Rattle.markdown_html_model.specs.Schemes.{is_safe, scheme_of}
use Rattle.markdown_html_model.specs.Html.{html, text_between}
use Rattle.markdown_worked_examples.proofs.Computed.{computed}
use Rattle.markdown_block_examples.proofs.BlocksComputed.{blocks_computed}
use Rattle.markdown_page_model.specs.PageHtml.{document_html}

unfoldable pub page_computed : Bool
unfolding computed blocks_computed escaped replaced addressed resolved reference_ahead is_safe scheme_of html text_between spaces_before spaces_after is_utf8 digits document_html
page_computed = true
