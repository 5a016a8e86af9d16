use Rattle.std.proofs.Common.{◌∙◌, sym, false}
use Rattle.markdown_blocks.proofs.BeginLines.{finished-blank, next-begun}
use Rattle.markdown_blocks.proofs.read.begin_next.Goals as goal

pub returns-then-is_blank-clause-begun : goal.returns-then-is_blank-clause-begun
returns-then-is_blank-clause-begun c =
    let is = sym c.is_blank.ensures ∙ c.if-is_blank.true in
    finished-blank c.args.rest.now.extensions c.args.rest.now.bytes c.args.rest.now.codes c.args.reader.now c.requires.standing (c.requires.empty is) c.in-None.ensures.found is

pub returns-in_ok-outside-in-Some-clause-begun : goal.returns-in_ok-outside-in-Some-clause-begun
returns-in_ok-outside-in-Some-clause-begun c =
    next-begun c.args.rest.now.extensions c.args.rest.now.bytes c.args.rest.now.codes c.args.reader.now _ _ _ c.in-Some.ensures.found c.in_ok-outside-in-Some.ensures.begun

pub begin-requires-clause-is : goal.begin-requires-clause-is
begin-requires-clause-is c = record { in_paragraph = false; after_text = false; is = c.in-Some.ensures.found; stands = c.in-Some.ensures.start }
