-- Lines of HTML, code by code (CommonMark 4.6).
use Rattle.std.specs.Prelude.{ℕ, Bool, true, false, not, ◌&&◌, ◌||◌, if◌then◌else◌, List, [], ◌∷◌, ◌++◌, slice_range}
use Rattle.markdown_content.specs.Codes.{Code, is_line_ending}
use Rattle.markdown_html_model.specs.Html.{Page}
use Rattle.markdown_page_model.specs.PageTexts.{own_ending, is_later_column, block_ending}
use Rattle.markdown_page.specs.CodeLines.{text_as}
use Rattle.markdown_page.specs.declared.html.Line.{Line}

-- what is written of the codes of lines behind a line so far
abbrev pub lines_from : Page → Bool → Line → List Code → List ℕ
lines_from p raw line [] = if line.has_begun then own_ending p else []
lines_from p raw line (c ∷ cs) =
    if is_line_ending c
    then block_ending p (slice_range p.bytes c.start.index c.stop.index) ++ lines_from p raw (record { has_begun = false; is_leading = true }) cs
    else (if line.is_leading || not (is_later_column c) then text_as raw (c.value ∷ []) else [])
    ++ lines_from p raw (record { has_begun = true; is_leading = line.is_leading && is_later_column c }) cs
