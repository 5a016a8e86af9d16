use Rattle.markdown_util.proofs.WordsAcrossSpaces.{identifier_law}
use Rattle.markdown_util.proofs.laws.identifier.Goals as goal

pub returns : goal.returns
returns c = identifier_law
