use Rattle.std.proofs.Common.{◌≡◌, ◌∙◌, ℕ, List, ap, sym, subst, map, string_bytes, Option, Some, MatchOption}
use Rattle.markdown_content.specs.declared.parser.ParseState.{ParseState}
use Rattle.markdown_util.specs.declared.decoding.Decoding.{Decoding}
use Rattle.markdown_html_model.specs.Resolved.{decoding_of}
use Rattle.markdown_html_model.specs.Html.{Defined}
use Rattle.markdown_block_model.specs.BlockTree as model
use Rattle.markdown_block_model.specs.LinkDefinitions.{definitions, document_tree, identifier}
use Rattle.markdown_blocks.specs.BlockRows.{rows_from}
use Rattle.markdown_blocks.specs.declared.block.Row.{Row}
use Rattle.markdown_block_definitions.specs.DefinitionTexts.{texts_of}
use Rattle.markdown_page_model.specs.PageHtml.{defined_by, document_html}
use Rattle.markdown_block_line.specs.LineBlocks.{extensions_of}
use Rattle.markdown_page.specs.GivenPage.{IsReadBy}
use Rattle.markdown_page.specs.DocumentBrought.{IsBeyond, document_brought}
use Rattle.markdown_page.proofs.NothingBrought.{beyond_with, within_with}
use Rattle.markdown_page.proofs.DefinitionUtf8.{labels-utf8, texts-utf8}
use Rattle.markdown_page.proofs.document.html_of.Goals as goal

-- what is said of a value that is there
of-some : {A : Type 0} (P : Type 0) (Q : A → Type 0) (o : Option A) (a : A) → o ≡ Some a → MatchOption o P Q → Q a
of-some {A} P Q o a e m = subst (λ (x : Option A). MatchOption x P Q) e m

-- what was read is given, where the state has it
read-by : (x : model.Extensions) (s t : ParseState) (targets : List Defined) (rows : List Row) → s ≡ t → map string_bytes t.definitions.items ≡ map identifier (definitions x t.bytes.now)
    → targets ≡ map (defined_by (decoding_of t.options.now)) (definitions x t.bytes.now) → rows_from t.bytes.now model.nothing rows ≡ document_tree x t.bytes.now → IsReadBy x s targets rows
read-by x s t targets rows e n d r = subst (λ (u : ParseState). IsReadBy x u targets rows) (sym e) (record { names = n; defined = d; tree = r })

pub returns-in-Ok : goal.returns-in-Ok
returns-in-Ok c =
    let x = extensions_of c.args.extensions in
    let ds = definitions x c.args.bytes.now in
    let read = c.in_ok-found.ensures in
    let found = of-some _ _ _ _ c.in-Some.is c.in_ok-document.ensures in
    let texts = ap (map texts_of) c.as_slice-definitions.ensures.value ∙ read.definitions in
    let is = read-by x _ _ c.in_ok-targets.targets c.as_slice-rows.result.now found.1
    (c.in_ok-identifiers.ensures ds texts (labels-utf8 _ ds read.definitions (read.utf8 found.0.is_text)))
    (c.in_ok-targets.ensures ds texts (texts-utf8 _ ds read.definitions (read.utf8 found.0.is_text) c.decoding_of.result) ∙ ap (λ (h : Decoding). map (defined_by h) ds) c.decoding_of.ensures)
    (rw c.as_slice-rows.ensures.value read.tree) in (
      found.0,
      within_with c.args.reading.now x c.args.options c.args.bytes.now c.as_slice-definitions.result.now texts c.args.limit
          (subst (λ (l : Option ℕ). IsBeyond l (document_brought c.args.reading.now x c.args.options c.args.bytes.now) → ⊥) c.limit_with-limit.ensures
          (subst (λ (s : ParseState). IsBeyond c.limit_with-limit.result (document_brought s.options.now x c.args.options s.bytes.now) → ⊥) found.1 (c.in-Ok.ensures.within x is))),
      c.in-Ok.ensures.html x is ∙ ap (λ (s : ParseState). document_html s.options.now x c.args.options s.bytes.now) found.1,
    )

pub returns-in-Err-BeyondLimit : goal.returns-in-Err-BeyondLimit
returns-in-Err-BeyondLimit c =
    let x = extensions_of c.args.extensions in
    let ds = definitions x c.args.bytes.now in
    let read = c.in_ok-found.ensures in
    let found = of-some _ _ _ _ c.in-Some.is c.in_ok-document.ensures in
    let texts = ap (map texts_of) c.as_slice-definitions.ensures.value ∙ read.definitions in
    let is = read-by x _ _ c.in_ok-targets.targets c.as_slice-rows.result.now found.1
    (c.in_ok-identifiers.ensures ds texts (labels-utf8 _ ds read.definitions (read.utf8 found.0.is_text)))
    (c.in_ok-targets.ensures ds texts (texts-utf8 _ ds read.definitions (read.utf8 found.0.is_text) c.decoding_of.result) ∙ ap (λ (h : Decoding). map (defined_by h) ds) c.decoding_of.ensures)
    (rw c.as_slice-rows.ensures.value read.tree) in (
      found.0,
      beyond_with c.args.reading.now x c.args.options c.args.bytes.now c.as_slice-definitions.result.now texts c.args.limit
          (subst (λ (l : Option ℕ). IsBeyond l (document_brought c.args.reading.now x c.args.options c.args.bytes.now)) c.limit_with-limit.ensures
          (subst (λ (s : ParseState). IsBeyond c.limit_with-limit.result (document_brought s.options.now x c.args.options s.bytes.now)) found.1 (c.in-Err-BeyondLimit.ensures.stop x is c.in-Err-BeyondLimit.field-0-is))),
    )
