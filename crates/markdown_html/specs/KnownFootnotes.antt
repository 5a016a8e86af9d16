-- What is known of a footnote that is called.
use Rattle.std.specs.Prelude.{ℕ, if◌then◌else◌, List, Option, None, Some}
use Rattle.markdown_html_model.specs.Html.{footnote_number, is_called, times_called}
use Rattle.markdown_html.specs.declared.footnotes.Footnote.{Footnote}

abbrev pub footnote_of : List ℕ → List (List ℕ) → Footnote
footnote_of identifier calls = record { number = footnote_number identifier calls; calls = times_called identifier calls }

abbrev pub known_of : List ℕ → List (List ℕ) → Option Footnote
known_of identifier calls = if is_called identifier calls then Some (footnote_of identifier calls) else None
