use Rattle.std.proofs.Common.{ℕ, List, sym, subst, true, false, Result, Ok, Err, Option, IfOk}
use Rattle.markdown_content.specs.declared.configuration.ParseOptions.{ParseOptions}
use Rattle.markdown_html_model.specs.declared.options.HtmlOptions.{HtmlOptions}
use Rattle.markdown_page_model.specs.PageHtml.{document_html}
use Rattle.markdown_page_model.specs.PageMarkup.{IsOwnPage}
use Rattle.markdown_block_model.specs.BlockTree.{Extensions}
use Rattle.markdown_block_line.specs.LineBlocks.{extensions_of}
use Rattle.markdown_page.specs.DocumentBrought.{HoldsOfHtml, IsPage}
use Rattle.markdown_page.specs.declared.document.Page.{Page}
use Rattle.markdown_page.proofs.document.to_html_within.Goals as goal

-- what holds of the HTML of a document holds of what was written
of-page : (P : List ℕ → Type 0) (reading : ParseOptions) (x : Extensions) (options : HtmlOptions) (bytes : List ℕ) (limit : Option ℕ) {E : Type 0} (r : Result Page E) → P (document_html reading x options bytes)
    → IfOk r (IsPage reading x options bytes limit) → IfOk r (HoldsOfHtml P)
of-page P reading x options bytes limit (Ok (Page.Html html)) own h = subst P (sym h.2) own
of-page P reading x options bytes limit (Ok Page.NoDocument) own h = tt
of-page P reading x options bytes limit (Ok Page.BeyondLimit) own h = tt
of-page P reading x options bytes limit (Err e) own h = tt

pub returns-clause-own : goal.returns-clause-own
returns-clause-own c = λ raw.
    of-page (IsOwnPage true) c.args.reading.now (extensions_of c.args.extensions) c.args.options c.args.bytes.now c.args.limit c.html_of.result (c.no_markup_from_document.ensures c.args.reading.now (extensions_of c.args.extensions) c.args.options c.args.bytes.now raw) c.html_of.ensures

pub returns-clause-safe : goal.returns-clause-safe
returns-clause-safe c = λ raw link.
    of-page (IsOwnPage false) c.args.reading.now (extensions_of c.args.extensions) c.args.options c.args.bytes.now c.args.limit c.html_of.result (c.no_script_from_document.ensures c.args.reading.now (extensions_of c.args.extensions) c.args.options c.args.bytes.now raw link) c.html_of.ensures
