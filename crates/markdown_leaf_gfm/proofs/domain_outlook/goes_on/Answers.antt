-- By the code at hand.
use Rattle.std.proofs.Common.{◌||◌, sym, ap, ◌∙◌}
use Rattle.std.proofs.lemmas.Bool.{or_parts}
use Rattle.markdown_plan.specs.Characters.{at_later}
use Rattle.markdown_model.specs.GfmAutolinkLiteral.{is_other}
use Rattle.markdown_content.specs.Place.{point_of}
use Rattle.markdown_util.specs.Neighbours.{class_of, after_index}
use Rattle.markdown_leaf_gfm.proofs.DomainScanLemmas.{go-mark, go-plain}
use Rattle.markdown_leaf_gfm.proofs.domain_outlook.goes_on.Goals as goal

pub returns-then-is_domain_mark : goal.returns-then-is_domain_mark
returns-then-is_domain_mark c =
    c.mark_goes_on.ensures ∙ sym (go-mark c.args.bytes.now c.args.place.now c.args.code c.requires.code (sym c.is_domain_mark.ensures ∙ c.if-is_domain_mark.true))

pub returns-then-is_plain : goal.returns-then-is_plain
returns-then-is_plain c =
    sym (go-plain c.args.bytes.now c.args.place.now c.args.code c.requires.code (sym c.is_domain_mark.ensures ∙ c.if-is_domain_mark.false)
    ∙ ap (λ b. b || is_other (class_of (after_index c.args.bytes.now (point_of c.args.place.now).index))) (sym c.is_plain.ensures ∙ c.if-is_plain.true))

pub returns-else-is_plain : goal.returns-else-is_plain
returns-else-is_plain c =
    c.is_at_other.ensures
    ∙ sym (go-plain c.args.bytes.now c.args.place.now c.args.code c.requires.code (sym c.is_domain_mark.ensures ∙ c.if-is_domain_mark.false)
    ∙ ap (λ b. b || is_other (class_of (after_index c.args.bytes.now (point_of c.args.place.now).index))) (sym c.is_plain.ensures ∙ c.if-is_plain.false))

pub is_at_other-requires-clause-begins : goal.is_at_other-requires-clause-begins
is_at_other-requires-clause-begins c =
    ap at_later c.requires.code ∙ (or_parts _ _ (sym c.is_plain.ensures ∙ c.if-is_plain.false)).1
