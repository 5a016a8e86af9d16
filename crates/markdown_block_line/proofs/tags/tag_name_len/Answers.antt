use Rattle.std.proofs.Common.{subst, List}
use Rattle.markdown_content.specs.Codes.{Code}
use Rattle.markdown_model.specs.Grammar.{Reading}
use Rattle.markdown_block_line.specs.LineTags.{Reads}
use Rattle.markdown_block_line.proofs.TagReadings.{tag-name-is}
use Rattle.markdown_block_line.proofs.tags.tag_name_len.Goals as goal

pub returns-clause-read : goal.returns-clause-read
returns-clause-read c = λ cs h. subst (λ (r : Reading (List Code)). Reads r cs c.name_len.result) tag-name-is (c.name_len.ensures.read cs h)
