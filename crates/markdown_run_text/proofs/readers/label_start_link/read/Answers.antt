use Rattle.std.proofs.Common.{sym, ◌∙◌}
use Rattle.markdown_run_text.proofs.LinkStarts.{link-code, link-long, link-reads, no-link}
use Rattle.markdown_run_text.proofs.readers.label_start_link.read.Goals as goal

pub returns-then-not-is_here-clause-reads : goal.returns-then-not-is_here-clause-reads
returns-then-not-is_here-clause-reads c = no-link c.args.tokenizer.now (sym c.is_here.ensures ∙ c.if-not-is_here.true)

pub read_marker_in-requires : goal.read_marker_in-requires
read_marker_in-requires c = link-code c.args.tokenizer.now (sym c.is_here.ensures ∙ c.if-not-is_here.false)

pub keep_start-requires-clause-within : goal.keep_start-requires-clause-within
keep_start-requires-clause-within c = link-long c.args.tokenizer.now c.read_marker_in.new.tokenizer c.in_ok-read_marker_in.ensures.ok

pub returns-clause-reads : goal.returns-clause-reads
returns-clause-reads c =
    link-reads c.args.tokenizer.now c.read_marker_in.new.tokenizer c.keep_start.new.tokenizer (sym c.is_here.ensures ∙ c.if-not-is_here.false) c.in_ok-read_marker_in.ensures.ok c.in_ok-keep_start.ensures.ok
