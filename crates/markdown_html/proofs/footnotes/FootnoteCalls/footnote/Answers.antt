use Rattle.std.proofs.Common.{◌≡◌, rules, None, List, ℕ, suc}
use Rattle.markdown_html_model.specs.Html.{footnotes_called}
use Rattle.markdown_html.specs.KnownFootnotes.{known_of}
use Rattle.markdown_html.proofs.OneMoreCall.{footnote-next}
use Rattle.markdown_html.proofs.footnotes.FootnoteCalls.footnote.Goals as goal

pub returns-in-None : goal.returns-in-None
returns-in-None c =
    let q : List ℕ = c.args.identifier.now in
    let calls : List (List ℕ) = c.args.self.now in
    let none : known_of q calls ≡ None = search rules in
    let next : c.self.inside.next ≡ suc (footnotes_called calls) = search rules in
    footnote-next q calls c.self.inside.next none next
