use Rattle.std.proofs.Common.{◌∙◌, ap, sym, List, ◌++◌, map, append-nil}
use Rattle.markdown_content.specs.Codes.{Code}
use Rattle.markdown_content.specs.Content.{content_of}
use Rattle.markdown_block_model.specs.BlockTree.{underlined}
use Rattle.markdown_block_model.specs.LinkDefinitions.{Definition}
use Rattle.markdown_block_definitions.specs.DefinitionTexts.{texts_of, texts_in}
use Rattle.markdown_block_definitions.proofs.ResolvedRowLemmas.{trimmed-left, other-leaf}
use Rattle.markdown_block_definitions.proofs.resolved.resolve_leaf.Goals as goal

pub returns-in_ok-resolve_text-in-Underlined-clause-leaf : goal.returns-in_ok-resolve_text-in-Underlined-clause-leaf
returns-in_ok-resolve_text-in-Underlined-clause-leaf c =
    let left = c.in_ok-resolve_text-in-Underlined.ensures in
    rw c.in-Underlined.is (record {
      leaf = ap (λ (cs : List Code). underlined c.in-Underlined.level cs) (trimmed-left (content_of c.args.document.now c.in-Underlined.text.items) _ _ c.in_ok-trim_end-in-Underlined.ensures.codes left.codes);
      text = λ u. record { content = left.content u c.requires.fits; trimmed = left.trimmed; none = left.none };
      lines = left.lines;
    })

pub returns-in_default : goal.returns-in_default
returns-in_default c =
    let other = other-leaf c.args.document.now c.args.leaf c.requires.fits c.requires.placed c.in_default.not-Underlined c.in_default.not-Paragraph in
    let texts = map texts_of c.args.definitions.now.items in
    record { leaf = other.0; found = sym (ap (λ (ds : List Definition). texts ++ map texts_in ds) other.1 ∙ append-nil texts) }
