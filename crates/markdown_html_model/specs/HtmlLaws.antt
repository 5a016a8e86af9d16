-- What a page's options promise of its HTML.
use Rattle.std.specs.Prelude.{◌≡◌, ℕ, List, true, false}
use Rattle.markdown_content.specs.Tree.{Forest}
use Rattle.markdown_html_model.specs.Html.{Page, html}
use Rattle.markdown_html_model.specs.OwnMarkup.{IsOwnMarkup}

-- with raw HTML off the HTML of a tree is the writer's own markup, whatever calls stand before it
abbrev pub NoMarkupFromText : Type 0
NoMarkupFromText = (p : Page) (before : List (List ℕ)) (t : Forest) → p.options.raw_html ≡ false → IsOwnMarkup true (html p before t)

-- where links may not lead anywhere either, each address in it is relative or of a listed scheme, as a browser reads it
abbrev pub NoScriptFromLinks : Type 0
NoScriptFromLinks = (p : Page) (before : List (List ℕ)) (t : Forest) → p.options.raw_html ≡ false → p.options.any_link ≡ false → IsOwnMarkup false (html p before t)
