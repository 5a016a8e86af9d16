use Rattle.std.proofs.Common.{◌∙◌, sym, subst, refl}
use Rattle.markdown_attention.specs.RunsOfTree.{HasRows}
use Rattle.markdown_attention.proofs.RunsOfTreeLemmas.{rows-of-events}
use Rattle.markdown_attention.proofs.RunsReadLemmas.{all-read}
use Rattle.markdown_attention.proofs.RunsWithoutContent.{same-runs}
use Rattle.std.proofs.Common.{arith}
use Rattle.markdown_attention.proofs.attention.runs.Runs.new.Goals as goal
use Rattle.markdown_model.specs.Setting.{within}
use Rattle.markdown_content.specs.Tree.{leaf_codes}

pub invariant_of-result : goal.invariant_of-result
invariant_of-result c =
    let texts = c.in-Ok.ensures.texts in (
      omega arith,
      (
        c.in-Ok.ensures.numbered,
        λ i l.
            let row =
            (all-read c.args.tokenizer.now.parse_state.now.options.now c.args.tokenizer.now.parse_state.now.bytes.now c.args.tokenizer.now.cursor.codes c.args.tokenizer.now.events
            c.in-Ok.found.list.items c.requires.places c.in-Ok.ensures.is i l).row in
            omega (arith, row, texts),
      ),
    )

pub returns-in-Ok-clause-whole : goal.returns-in-Ok-clause-whole
returns-in-Ok-clause-whole c = λ i l.
    (all-read c.args.tokenizer.now.parse_state.now.options.now c.args.tokenizer.now.parse_state.now.bytes.now c.args.tokenizer.now.cursor.codes c.args.tokenizer.now.events
    c.in-Ok.found.list.items c.requires.places c.in-Ok.ensures.is i l).whole

pub returns-in-Ok-clause-markers : goal.returns-in-Ok-clause-markers
returns-in-Ok-clause-markers c = λ i l.
    (all-read c.args.tokenizer.now.parse_state.now.options.now c.args.tokenizer.now.parse_state.now.bytes.now c.args.tokenizer.now.cursor.codes c.args.tokenizer.now.events
    c.in-Ok.found.list.items c.requires.places c.in-Ok.ensures.is i l).marker

pub returns-in-Ok-clause-containers : goal.returns-in-Ok-clause-containers
returns-in-Ok-clause-containers c = λ i l.
    (all-read c.args.tokenizer.now.parse_state.now.options.now c.args.tokenizer.now.parse_state.now.bytes.now c.args.tokenizer.now.cursor.codes c.args.tokenizer.now.events
    c.in-Ok.found.list.items c.requires.places c.in-Ok.ensures.is i l).row

pub returns-in-Ok-clause-rows : goal.returns-in-Ok-clause-rows
returns-in-Ok-clause-rows c = λ s t given has is.
    let options = c.args.tokenizer.now.parse_state.now.options.now in
    let bytes = c.args.tokenizer.now.parse_state.now.bytes.now in
    let events = c.args.tokenizer.now.events in
    subst (λ list. HasRows (within (leaf_codes t) s) t list)
    (sym (c.in-Ok.ensures.is ∙ same-runs options bytes c.args.tokenizer.now.cursor.codes (leaf_codes t) events (λ on. sym (given.codes on))))
    (rows-of-events (within (leaf_codes t) s) options bytes (leaf_codes t) given.bytes given.options refl t has events is)
