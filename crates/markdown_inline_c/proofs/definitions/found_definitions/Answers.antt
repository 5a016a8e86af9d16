use Rattle.std.proofs.Common.{◌∙◌, ap, subst, List, map, true, sym}
use Rattle.std.specs.Prelude.{All}
use Rattle.markdown_block_definitions.specs.DefinitionTexts.{HasUtf8Texts, Texts, texts_in, texts_of}
use Rattle.markdown_block_definitions.specs.declared.front.Definition.{Definition}
use Rattle.markdown_block_model.specs.BlockTree.{Extensions}
use Rattle.markdown_block_model.specs.LinkDefinitions.{definitions}
use Rattle.markdown_content.specs.declared.configuration.ParseOptions.{ParseOptions}
use Rattle.markdown_html_model.specs.Resolved.{decoding_of}
use Rattle.markdown_inline_c.specs.FlatExtensions.{extensions_in}
use Rattle.markdown_inline_c.specs.FlatDefinitions.{AreWritten}
use Rattle.markdown_util.specs.declared.decoding.Decoding.{Decoding}
use Rattle.markdown_inline_c.proofs.definitions.found_definitions.Goals as goal

pub flat_definitions-requires : goal.flat_definitions-requires
flat_definitions-requires c = subst (λ (ds : List Definition). All HasUtf8Texts ds) (sym c.as_slice.ensures.value) (c.in_ok-found.ensures.utf8 c.in_default.ensures.ok.0)

pub returns-clause-definitions : goal.returns-clause-definitions
returns-clause-definitions c =
    let found = c.in_ok-definitions.definitions in
    let how = c.decoding_of.ensures ∙ ap (λ (o : ParseOptions). decoding_of (record o { commonmark = true })) c.default.ensures in
    let texts =
    ap (map texts_of) c.as_slice.ensures.value ∙ c.in_ok-found.ensures.definitions
    ∙ ap (λ (x : Extensions). map texts_in (definitions x c.args.bytes.now)) c.in_ok-extensions.ensures.ok in
    subst (λ (h : Decoding). AreWritten h found.labels.items (map texts_in (definitions (extensions_in c.args.bits) c.args.bytes.now)) found.definitions.items found.targets.items) how
    (subst (λ (ts : List Texts). AreWritten c.decoding_of.result found.labels.items ts found.definitions.items found.targets.items) texts c.in_ok-definitions.ensures)
