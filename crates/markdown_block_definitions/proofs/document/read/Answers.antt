use Rattle.std.proofs.Common.{◌∙◌, ◌++◌, List, ap, map, sym}
use Rattle.std.specs.Prelude.{flat_map}
use Rattle.markdown_block_definitions.specs.DefinitionTexts.{AreUtf8Texts, texts_of, texts_in}
use Rattle.markdown_block_definitions.specs.ResolvedRows.{definitions_of_row}
use Rattle.markdown_block_definitions.specs.declared.front.Definition.{Definition}
use Rattle.markdown_block_definitions.proofs.ResolvedRowLemmas.{document-definitions, document-tree, document-nested, document-texts, line-rows, resolved-length}
use Rattle.markdown_block_definitions.proofs.DefinitionCharacters.{definitions-utf8, all-alike}
use Rattle.markdown_block_line.specs.LineBlocks.{extensions_of}
use Rattle.markdown_block_definitions.proofs.document.read.Goals as goal

pub returns-clause-tree : goal.returns-clause-tree
returns-clause-tree c = document-tree (extensions_of c.args.extensions) c.args.bytes.now c.in_ok-found.found c.in_ok-found.ensures.tree c.in_ok-found.ensures.nested _ c.in_ok-rows.ensures.rows

pub returns-clause-definitions : goal.returns-clause-definitions
returns-clause-definitions c =
    let bytes = c.args.bytes.now in
    let found = c.in_ok-found.found in
    c.in_ok-rows.ensures.found ∙ ap (λ (ds : List Definition). map texts_of ds ++ map texts_in (flat_map (definitions_of_row bytes) found.rows.items)) c.new-definitions.ensures.items
    ∙ ap (map texts_in) (document-definitions (extensions_of c.args.extensions) bytes found c.in_ok-found.ensures.tree c.in_ok-found.ensures.nested)

pub returns-clause-texts : goal.returns-clause-texts
returns-clause-texts c = λ u. document-texts (extensions_of c.args.extensions) c.args.bytes.now c.in_ok-found.found c.in_ok-found.ensures.tree c.in_ok-found.ensures.nested _ c.in_ok-rows.ensures.rows u

pub returns-clause-utf8 : goal.returns-clause-utf8
returns-clause-utf8 c = λ u.
    let bytes = c.args.bytes.now in
    let found = c.in_ok-found.found in
    all-alike AreUtf8Texts texts_in texts_of (flat_map (definitions_of_row bytes) found.rows.items) _
    (sym (c.in_ok-rows.ensures.found ∙ ap (λ (ds : List Definition). map texts_of ds ++ map texts_in (flat_map (definitions_of_row bytes) found.rows.items)) c.new-definitions.ensures.items))
    (definitions-utf8 bytes u found.rows.items c.in_ok-found.ensures.texts)

pub returns-clause-nested : goal.returns-clause-nested
returns-clause-nested c = document-nested (extensions_of c.args.extensions) c.args.bytes.now c.in_ok-found.found c.in_ok-found.ensures.tree c.in_ok-found.ensures.nested _ c.in_ok-rows.ensures.rows

pub returns-clause-lined : goal.returns-clause-lined
returns-clause-lined c = c.in_ok-found.ensures.lined ∙ resolved-length c.args.bytes.now c.in_ok-found.found.rows.items _ c.in_ok-rows.ensures.rows

pub returns-clause-lines : goal.returns-clause-lines
returns-clause-lines c = line-rows c.args.bytes.now c.in_ok-found.found.rows.items _ c.in_ok-rows.ensures.rows
