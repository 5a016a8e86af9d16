use Rattle.markdown_passes.proofs.TrimPassLaw.{places-of}
use Rattle.markdown_run.proofs.TextPassLaw.{places-there, finishes-with}
use Rattle.markdown_run.proofs.text.resolve.Goals as goal

pub resolve_whitespace-requires-clause-places : goal.resolve_whitespace-requires-clause-places
resolve_whitespace-requires-clause-places c = places-of _ c.requires.tree.0 _ c.requires.tree.1.0 c.requires.tree.1.1

pub resolve-requires-clause-places : goal.resolve-requires-clause-places
resolve-requires-clause-places c =
    places-there c.args.tokenizer.now c.resolve_whitespace.new.tokenizer c.in_ok-resolve_whitespace.ensures.same c.in_ok-resolve_whitespace.ensures.trimmed c.requires.tree.0 c.requires.tree.1.0 c.requires.tree.1.1

pub returns-in_ok-resolve-clause-ok : goal.returns-in_ok-resolve-clause-ok
returns-in_ok-resolve-clause-ok c =
    finishes-with c.args.tokenizer.now c.resolve_whitespace.new.tokenizer c.in_ok-resolve_whitespace.ensures.same c.in_ok-resolve_whitespace.ensures.trimmed c.resolve.new.tokenizer c.in_ok-resolve.ensures.same c.in_ok-resolve.ensures.mailed c.if-emails.true
