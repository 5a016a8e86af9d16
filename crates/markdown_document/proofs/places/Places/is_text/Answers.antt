use Rattle.markdown_content.proofs.KnownPlacesLemmas.{text-is}
use Rattle.markdown_document.proofs.places.Places.is_text.Goals as goal

pub returns-in-Some : goal.returns-in-Some
returns-in-Some c = text-is c.args.self.now c.args.pieces.now c.in-Some.cursor c.has_text_lines.result c.in-Some.ensures.1 c.has_text_lines.ensures c.in-Some.ensures.0
