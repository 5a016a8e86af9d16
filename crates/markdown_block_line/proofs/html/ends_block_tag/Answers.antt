use Rattle.std.proofs.Common.{◌∙◌, ◌||◌, ap, sym, is_some}
use Rattle.std.specs.Prelude.{◌||◌}
use Rattle.markdown_model.specs.Grammar.{word}
use Rattle.markdown_block_line.proofs.HtmlBegins.{empty-end}
use Rattle.markdown_block_line.proofs.html.ends_block_tag.Goals as goal

pub returns-else-ends_raw_tag : goal.returns-else-ends_raw_tag
returns-else-ends_raw_tag c = λ cs h.
    sym (ap (λ b. b || is_some (word "/>" cs)) (sym (c.ends_raw_tag.ensures cs h) ∙ c.if-ends_raw_tag.false) ∙ empty-end cs _ c.starts_with.result h c.starts_with.ensures.value)
