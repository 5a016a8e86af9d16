-- By the code at hand.
use Rattle.std.proofs.Common.{◌∙◌, sym}
use Rattle.std.proofs.lemmas.Bool.{eq-eqb, ne_eqb}
use Rattle.markdown_leaf_gfm.proofs.TrailScans.{look-mark, look-and, look-angle, look-else, look-closed, look-open}
use Rattle.markdown_leaf_gfm.proofs.domain_outlook.look_at_mark.Goals as goal

pub returns-then-is_trail : goal.returns-then-is_trail
returns-then-is_trail c =
    look-mark c.args.bytes.now c.args.place.now c.args.code c.requires.code (sym c.is_trail.ensures ∙ c.if-is_trail.true)

pub returns-then-code-eq38 : goal.returns-then-code-eq38
returns-then-code-eq38 c =
    look-and c.args.bytes.now c.args.place.now c.args.code c.requires.code (sym c.is_trail.ensures ∙ c.if-is_trail.false) (eq-eqb c.args.code 38 c.if-code-eq38.true)

pub returns-then-code-eq60 : goal.returns-then-code-eq60
returns-then-code-eq60 c =
    look-angle c.args.bytes.now c.args.place.now c.args.code c.requires.code (sym c.is_trail.ensures ∙ c.if-is_trail.false) (ne_eqb c.args.code 38 c.if-code-eq38.false) (eq-eqb c.args.code 60 c.if-code-eq60.true)

pub returns-then-code-ne93 : goal.returns-then-code-ne93
returns-then-code-ne93 c =
    look-else c.args.bytes.now c.args.place.now c.args.code c.requires.code (sym c.is_trail.ensures ∙ c.if-is_trail.false) (ne_eqb c.args.code 38 c.if-code-eq38.false) (ne_eqb c.args.code 60 c.if-code-eq60.false)
    (ne_eqb c.args.code 93 c.if-code-ne93.true)
    ∙ sym c.is_at_space.ensures

pub returns-then-closes : goal.returns-then-closes
returns-then-closes c =
    look-closed c.args.bytes.now c.args.place.now c.args.code c.requires.code (sym c.is_trail.ensures ∙ c.if-is_trail.false) (ne_eqb c.args.code 38 c.if-code-eq38.false) (ne_eqb c.args.code 60 c.if-code-eq60.false)
    (eq-eqb c.args.code 93 c.if-code-ne93.false) (sym c.closes.ensures ∙ c.if-closes.true)

pub returns-else-closes : goal.returns-else-closes
returns-else-closes c =
    look-open c.args.bytes.now c.args.place.now c.args.code c.requires.code (sym c.is_trail.ensures ∙ c.if-is_trail.false) (ne_eqb c.args.code 38 c.if-code-eq38.false) (ne_eqb c.args.code 60 c.if-code-eq60.false)
    (eq-eqb c.args.code 93 c.if-code-ne93.false) (sym c.closes.ensures ∙ c.if-closes.false)
