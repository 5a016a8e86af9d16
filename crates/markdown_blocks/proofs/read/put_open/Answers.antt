use Rattle.std.proofs.Common.{sym}
use Rattle.markdown_blocks.proofs.PlacedTexts.{open-some}
use Rattle.markdown_blocks.proofs.read.put_open.Goals as goal

pub returns-in_ok-put_leaf-in-Some-clause-texts : goal.returns-in_ok-put_leaf-in-Some-clause-texts
returns-in_ok-put_leaf-in-Some-clause-texts c = λ bytes p b h.
    c.in_ok-put_leaf-in-Some.ensures.texts bytes (record { is_front = record { front = b.is_front.front }; open_none = c.take.ensures.after }) h.0
    (open-some bytes p _ c.in-Some.leaf (sym c.in-Some.ensures.value) h.1).0
