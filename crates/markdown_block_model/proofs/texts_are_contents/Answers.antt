use Rattle.markdown_block_model.proofs.TextsAreContents.{texts_are_contents}
use Rattle.markdown_block_model.proofs.texts_are_contents.Goals as goal

pub returns : goal.returns
returns c = texts_are_contents
