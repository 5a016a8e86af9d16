-- Where data of a text stops: at each other place the code is an element by itself.
use Rattle.std.proofs.Common.{ℕ, List, arith}
use Rattle.std.proofs.lemmas.Bool.{or_parts}
use Rattle.markdown_content.specs.Codes.{Code}
use Rattle.markdown_model.specs.CodeTests.{is_among, next_is}
use Rattle.markdown_model.specs.Elements.{text_element}
use Rattle.markdown_model.specs.Setting.{Setting}
use Rattle.markdown_run_text.specs.RunOverElements.{AreSingle}
use Rattle.markdown_run_text.specs.TextContent.{data_markers}
use Rattle.markdown_run_text.proofs.TextElements.{other-element}

-- each code where data does not stop
pub stops-where : (s : Setting) (end : ℕ) (whole : List Code) → AreSingle (text_element s end) (next_is (is_among data_markers)) whole
stops-where s end whole front earlier previous c cs w free = grind (arith, other-element, or_parts)
