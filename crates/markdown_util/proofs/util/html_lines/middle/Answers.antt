use Rattle.markdown_util.proofs.TableTextCuts.{IsStart, nameless, textless, line-of, start-boundary}
use Rattle.markdown_util.proofs.util.html_lines.middle.Goals as goal

pub split_at-requires : goal.split_at-requires
split_at-requires c = start-boundary c.utf8.lines (record { near = c.line_start.ensures.near; starts = c.line_start.ensures.starts })

pub returns-in_err-name : goal.returns-in_err-name
returns-in_err-name c = λ rows t.
    let s : IsStart c.args.lines.now c.line_start.result = record { near = c.line_start.ensures.near; starts = c.line_start.ensures.starts } in
    rw c.from_residual.ensures (nameless rows t s c.split_at.ensures.back c.in_err-name.ensures)

pub returns-in_err-text : goal.returns-in_err-text
returns-in_err-text c = λ rows t.
    let s : IsStart c.args.lines.now c.line_start.result = record { near = c.line_start.ensures.near; starts = c.line_start.ensures.starts } in
    rw c.from_residual-in_err-text.ensures (textless rows t s c.split_at.ensures.back c.in_ok-name.ensures c.in_err-text.ensures)

pub returns : goal.returns
returns c = λ rows t.
    let s : IsStart c.args.lines.now c.line_start.result = record { near = c.line_start.ensures.near; starts = c.line_start.ensures.starts } in
    line-of rows t s c.split_at.ensures.front c.split_at.ensures.back c.in_ok-name.ensures c.in_ok-text.ensures
