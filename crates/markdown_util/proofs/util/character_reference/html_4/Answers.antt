use Rattle.std.proofs.Common.{sym, ◌∙◌}
use Rattle.markdown_util.specs.Reference.{html_4_rows}
use Rattle.markdown_util.proofs.ReferenceTables.{html_4_parted, in_capitals, in_a_to_d, in_e_to_l, in_m_to_r, in_s_to_z}
use Rattle.markdown_util.proofs.util.character_reference.html_4.Goals as goal

pub returns-then-lt : goal.returns-then-lt
unfolding html_4_rows
returns-then-lt c =
    in_capitals html_4_parted _ c.args.name.now c.html_4_capitals.ensures (sym c.lt.ensures ∙ c.if-lt.true)

pub returns-then-lt-2 : goal.returns-then-lt-2
unfolding html_4_rows
returns-then-lt-2 c =
    in_a_to_d html_4_parted _ c.args.name.now c.html_4_a_to_d.ensures (sym c.lt.ensures ∙ c.if-lt.false) (sym c.lt-else-lt.ensures ∙ c.if-lt-2.true)

pub returns-then-lt-3 : goal.returns-then-lt-3
unfolding html_4_rows
returns-then-lt-3 c =
    in_e_to_l html_4_parted _ c.args.name.now c.html_4_e_to_l.ensures (sym c.lt.ensures ∙ c.if-lt.false) (sym c.lt-else-lt.ensures ∙ c.if-lt-2.false) (sym c.lt-else-lt-2.ensures ∙ c.if-lt-3.true)

pub returns-then-lt-4 : goal.returns-then-lt-4
unfolding html_4_rows
returns-then-lt-4 c =
    in_m_to_r html_4_parted _ c.args.name.now c.html_4_m_to_r.ensures (sym c.lt.ensures ∙ c.if-lt.false) (sym c.lt-else-lt.ensures ∙ c.if-lt-2.false) (sym c.lt-else-lt-2.ensures ∙ c.if-lt-3.false) (sym c.lt-else-lt-3.ensures ∙ c.if-lt-4.true)

pub returns-else-lt-4 : goal.returns-else-lt-4
unfolding html_4_rows
returns-else-lt-4 c =
    in_s_to_z html_4_parted _ c.args.name.now c.html_4_s_to_z.ensures (sym c.lt.ensures ∙ c.if-lt.false) (sym c.lt-else-lt.ensures ∙ c.if-lt-2.false) (sym c.lt-else-lt-2.ensures ∙ c.if-lt-3.false) (sym c.lt-else-lt-3.ensures ∙ c.if-lt-4.false)
