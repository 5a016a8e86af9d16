use Rattle.std.proofs.Common.{◌+◌, drop, ◌∙◌}
use Rattle.markdown_block_line.proofs.RestValues.{rest-values}
use Rattle.markdown_block_definitions.specs.DefinitionParts.{title_of}
use Rattle.markdown_block_definitions.proofs.DefinitionReads.{defined-none, defined-not, defined-bare, defined-open, defined-reads}
use Rattle.markdown_block_definitions.proofs.definition.definition_at.Goals as goal

pub returns-in_default-clause-read : goal.returns-in_default-clause-read
returns-in_default-clause-read c = λ cs h b. defined-none cs (c.in_default.ensures.read cs h b)

pub returns-then-not-begins_with-clause-read : goal.returns-then-not-begins_with-clause-read
returns-then-not-begins_with-clause-read c = λ cs h b.
    let l = c.in-Some.label in
    defined-not cs l (c.in-Some.ensures.read cs h b) (c.begins_with.ensures.first (drop l cs) (rest-values l cs c.args.values.now h) ∙ c.if-not-begins_with.true)

pub returns-in_default-destination_len-clause-read : goal.returns-in_default-destination_len-clause-read
returns-in_default-destination_len-clause-read c = λ cs h b.
    let l = c.in-Some.label in
    let g = c.optional_gap_len.result in
    let vs = c.args.values.now in
    defined-bare cs l (c.in-Some.ensures.read cs h b) (c.begins_with.ensures.first (drop l cs) (rest-values l cs vs h) ∙ c.if-not-begins_with.false) g (c.optional_gap_len.ensures.read (drop (l + 1) cs) (rest-values (l + 1) cs vs h))
    (c.in_default-destination_len.ensures.read (drop (l + 1 + g) cs) (rest-values (l + 1 + g) cs vs h))

pub returns-in_default-ending_at-clause-read : goal.returns-in_default-ending_at-clause-read
returns-in_default-ending_at-clause-read c = λ cs h b.
    let l = c.in-Some.label in
    let g = c.optional_gap_len.result in
    let n = c.in-Some-destination_len.len in
    let vs = c.args.values.now in
    defined-open cs l (c.in-Some.ensures.read cs h b) (c.begins_with.ensures.first (drop l cs) (rest-values l cs vs h) ∙ c.if-not-begins_with.false) g (c.optional_gap_len.ensures.read (drop (l + 1) cs) (rest-values (l + 1) cs vs h))
    n (c.in-Some-destination_len.ensures.read (drop (l + 1 + g) cs) (rest-values (l + 1 + g) cs vs h)) (c.in_default-ending_at.ensures.read (drop (l + 1 + g + n) cs) (rest-values (l + 1 + g + n) cs vs h))

pub returns-clause-read : goal.returns-clause-read
returns-clause-read c = λ cs h b.
    let l = c.in-Some.label in
    let g = c.optional_gap_len.result in
    let n = c.in-Some-destination_len.len in
    let vs = c.args.values.now in
    defined-reads cs l (c.in-Some.ensures.read cs h b) (c.begins_with.ensures.first (drop l cs) (rest-values l cs vs h) ∙ c.if-not-begins_with.false) g (c.optional_gap_len.ensures.read (drop (l + 1) cs) (rest-values (l + 1) cs vs h))
    n (c.in-Some-destination_len.ensures.read (drop (l + 1 + g) cs) (rest-values (l + 1 + g) cs vs h)) (title_of c.in-Some-ending_at.ending (drop (l + 1 + g + n) cs)) c.in-Some-ending_at.ending.len (c.in-Some-ending_at.ensures.read (drop (l + 1 + g + n) cs) (rest-values (l + 1 + g + n) cs vs h))
