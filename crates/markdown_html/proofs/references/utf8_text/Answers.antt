use Rattle.markdown_html.proofs.EventLoop.{label_read, label_unread}
use Rattle.markdown_html.proofs.references.utf8_text.Goals as goal

pub returns-in-Ok : goal.returns-in-Ok
returns-in-Ok c = label_read c.from_utf8.result c.in-Ok.text _ _ c.from_utf8.ensures.cases c.in-Ok.is

pub returns-in-Err : goal.returns-in-Err
returns-in-Err c = label_unread c.from_utf8.result c.in-Err.field-0 _ _ _ c.from_utf8.ensures.cases c.in-Err.is
