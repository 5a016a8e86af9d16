use Rattle.std.proofs.Common.{◌∙◌, ap, subst}
use Rattle.markdown_content.specs.Content.{IsContent}
use Rattle.markdown_content.specs.Place.{start_of_content}
use Rattle.markdown_content.proofs.KnownPlacesLemmas.{text-is}
use Rattle.markdown_document.specs.ContentOfDocument.{ContentOf}
use Rattle.markdown_document.proofs.document.Content.is_text.Goals as goal

pub returns : goal.returns
returns c =
    let v : ContentOf = c.args.self.now in
    let content : IsContent v.parse_state.bytes.now v.pieces = subst (λ (x : ContentOf). IsContent x.parse_state.bytes.now x.pieces) c.self.view_is c.self.invariant.0 in
    text-is v.parse_state.bytes.now v.pieces c.self.inside.cursor c.has_text_lines.result (c.self.invariant.1 ∙ ap (λ (x : ContentOf). start_of_content x.parse_state.bytes.now x.pieces) c.self.view_is) c.has_text_lines.ensures content
