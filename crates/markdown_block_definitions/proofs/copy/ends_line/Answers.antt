use Rattle.std.proofs.Common.{◌∙◌, sym}
use Rattle.std.proofs.lemmas.Bool.{eqb-true}
use Rattle.markdown_block_definitions.proofs.copy.ends_line.Goals as goal

pub returns : goal.returns
returns c = λ e. record { byte = sym c.is_line_ending.ensures ∙ c.if-not-is_line_ending.false; whole = sym c.line_ending_len.ensures ∙ eqb-true c.line_ending_len.result 1 e }
