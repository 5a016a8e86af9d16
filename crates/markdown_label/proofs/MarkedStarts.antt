-- Starts that are marked already.
use Rattle.std.proofs.Common.{◌≡◌, ℕ, zero, suc, true, List, [], ◌∷◌, ◌++◌, take, drop, slice_index_or, sym, ap, refl, ◌∙◌}
use Rattle.markdown_engine.specs.declared.tokenizer.LabelStart.{LabelStart}
use Rattle.markdown_label.specs.LabelFields.{AreInactive, AreOrdered, marked}

marked-again : (ls : List LabelStart) → AreInactive ls → marked ls ≡ ls
marked-again [] k = refl
marked-again (l ∷ ls) k = λ i. (record l { inactive = sym k.0 i }) ∷ marked-again ls k.1 i

-- from a marked one on
pub marked-from : (ls : List LabelStart) (n : ℕ) (l : LabelStart) → l ≡ slice_index_or ls n l → l.inactive ≡ true →
    AreOrdered (drop n ls) → take n ls ++ marked (drop n ls) ≡ ls
marked-from [] zero l e i o = refl
marked-from [] (suc n) l e i o = refl
marked-from (x ∷ ls) zero l e i o =
    let on : x.inactive ≡ true = ap (λ (y : LabelStart). y.inactive) (sym e) ∙ i in marked-again (x ∷ ls) (on, o.0 on)
marked-from (x ∷ ls) (suc n) l e i o = ap (λ xs. x ∷ xs) (marked-from ls n l e i o)
