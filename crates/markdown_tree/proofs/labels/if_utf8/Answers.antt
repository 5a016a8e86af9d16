use Rattle.markdown_tree.proofs.TextLemmas.{utf8_read, utf8_unread}
use Rattle.markdown_tree.proofs.labels.if_utf8.Goals as goal

pub returns-in-Ok : goal.returns-in-Ok
returns-in-Ok c = utf8_read c.from_utf8.result c.in-Ok.text _ _ c.from_utf8.ensures.cases c.in-Ok.is

pub returns-in-Err : goal.returns-in-Err
returns-in-Err c = utf8_unread c.from_utf8.result c.in-Err.field-0 _ _ _ c.from_utf8.ensures.cases c.in-Err.is
