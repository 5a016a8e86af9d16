use Rattle.std.proofs.Common.{◌≡◌, ◌∙◌, ◌&&◌, ◌||◌, Bool, true, false, sym, ap, arith}
use Rattle.markdown_run_text.proofs.text.order_pays.Goals as goal
use Rattle.markdown_run_text.proofs.text.order_pays.Goals.{then-names_pay, else-names_pay}

-- the names of one list or of the other, of which the second is looked at where the first is not enough
first-pays : (v a b r : Bool) → v ≡ r → r ≡ true → r ≡ a → v ≡ (a || b)
first-pays v a b r e is same = e ∙ is ∙ ap (λ x. x || b) (sym is ∙ same)

second-pays : (v a b r q : Bool) → v ≡ q → q ≡ b → r ≡ false → r ≡ a → v ≡ (a || b)
second-pays v a b r q e said is same = e ∙ said ∙ ap (λ x. x || b) (sym is ∙ same)

-- and labels may end
both-pay : (v w n r : Bool) → v ≡ true → v ≡ w → r ≡ n → r ≡ (w && n)
both-pay v w n r is same said = said ∙ ap (λ x. x && n) (sym is ∙ same)

none-pays : (v w n : Bool) → v ≡ false → v ≡ w → v ≡ (w && n)
none-pays v w n is same = is ∙ ap (λ x. x && n) (sym is ∙ same)

pub returns-then-names_pay-2 : goal.returns-then-names_pay-2
returns-then-names_pay-2 c = grind (arith, both-pay, first-pays, second-pays, c.if-names_pay-2.true, c.as_slice.ensures.value, c.names_pay.ensures, c.new.ensures, c.holds.ensures)

pub returns-else-names_pay-2 : goal.returns-else-names_pay-2
returns-else-names_pay-2 c = grind (arith, none-pays, first-pays, second-pays, c.if-names_pay-2.false, c.as_slice.ensures.value, c.names_pay.ensures)
