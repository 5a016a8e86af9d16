use Rattle.std.proofs.Common.{◌∙◌, sym, ap}
use Rattle.markdown_passes.proofs.TrimWalks.{begun-where, stretch-next}
use Rattle.markdown_passes.specs.EmailScan.{domain_value}
use Rattle.markdown_passes.proofs.EmailDomains.{domain-next, no-domain_next}
use Rattle.markdown_passes.proofs.literal.is_domain_next.Goals as goal

pub returns-then-is_same_place : goal.returns-then-is_same_place
returns-then-is_same_place c =
    sym (no-domain_next c.args.bytes.now c.args.point c.args.to c.requires.stretch c.args.slashes (sym c.is_same_place.ensures ∙ c.if-is_same_place.true))

pub past_code-requires-clause-begins : goal.past_code-requires-clause-begins
past_code-requires-clause-begins c =
    (begun-where c.args.bytes.now c.args.point c.args.to c.requires.stretch (sym c.is_same_place.ensures ∙ c.if-is_same_place.false)).in_bytes

pub is_word_next-follows-requires-clause-stretch : goal.is_word_next-follows-requires-clause-stretch
is_word_next-follows-requires-clause-stretch c =
    stretch-next c.args.bytes.now c.args.point c.args.to c.past_code.result (begun-where c.args.bytes.now c.args.point c.args.to c.requires.stretch (sym c.is_same_place.ensures ∙ c.if-is_same_place.false)) c.past_code.ensures.next

pub code_from-requires-clause-begins : goal.code_from-requires-clause-begins
code_from-requires-clause-begins c =
    (begun-where c.args.bytes.now c.args.point c.args.to c.requires.stretch (sym c.is_same_place.ensures ∙ c.if-is_same_place.false)).in_bytes

pub returns : goal.returns
returns c =
    c.is_domain.ensures
    ∙ ap (λ b. domain_value c.args.slashes b c.code_from.result) c.is_word_next-follows.ensures
    ∙ sym (domain-next c.args.bytes.now c.args.point c.args.to c.requires.stretch c.args.slashes c.code_from.result c.past_code.result (sym c.is_same_place.ensures ∙ c.if-is_same_place.false) c.code_from.ensures c.past_code.ensures.next)
