use Rattle.markdown_inline_c.proofs.markdown_inline_html_of.Goals as goal

pub returns : goal.returns
returns c = record { input = c.whole_input-input.result; is_whole = c.whole_input-input.ensures; is_answer = c.markdown_inline_html.ensures }
