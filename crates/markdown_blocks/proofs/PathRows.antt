-- Rows of items at the end of a path.
use Rattle.std.proofs.Common.{◌≡◌, ℕ, zero, suc, ◌+◌, ◌-◌, ◌≤◌, ◌<◌, refl, ◌∙◌, List, [], ◌∷◌, ◌++◌, length, get_or, true, false, arith, length-append}
use Rattle.std.proofs.Common.{nat_lt}
use Rattle.std.specs.Prelude.{nat_le}
use Rattle.std.proofs.lemmas.Bool.Decides.{nat_tests}
use Rattle.markdown_block_line.specs.declared.containers.Container.{Container}
use Rattle.markdown_block_line.proofs.RestValues.{by_bool}
use Rattle.markdown_blocks.specs.PathItems.{EndsWithItems, is_item, is_item_at}

pub item-at : (cs : List Container) (k : ℕ) (d : Container) → k < length cs → is_item_at k cs ≡ is_item (get_or cs k d)
item-at [] k d h = absurd (omega arith)
item-at (c ∷ cs) zero d h = refl
item-at (c ∷ cs) (suc k) d h = item-at cs k d (omega arith)

item-kept : (cs : List Container) (c : Container) (k : ℕ) → k < length cs → is_item_at k (cs ++ c ∷ []) ≡ is_item_at k cs
item-kept [] c k h = absurd (omega arith)
item-kept (d ∷ cs) c zero h = refl
item-kept (d ∷ cs) c (suc k) h = item-kept cs c k (omega arith)

item-last : (cs : List Container) (c : Container) → is_item_at (length cs) (cs ++ c ∷ []) ≡ is_item c
item-last [] c = refl
item-last (d ∷ cs) c = item-last cs c

pub row-more : (cs : List Container) (r n : ℕ) (d : Container) → n ≡ r + 1 → EndsWithItems r cs → r < length cs → is_item (get_or cs (length cs - 1 - r) d) ≡ true → EndsWithItems n cs
row-more cs r n d e h l i = record {
  within = omega (arith, e, l);
  items = λ k a b. by_bool (nat_le (length cs) (k + r))
      (λ (t : nat_le (length cs) (k + r) ≡ true). h.items k (grind (arith, nat_tests, t)) b)
      (λ (t : nat_le (length cs) (k + r) ≡ false). let q : length cs - 1 - r ≡ k = grind (arith, nat_tests, t, a, b, e) in item-at cs k d b ∙ rw (← q) i);
}

pub row-push : (cs : List Container) (c : Container) (r n : ℕ) → n ≡ r + 1 → EndsWithItems r cs → is_item c ≡ true → EndsWithItems n (cs ++ c ∷ [])
row-push cs c r n e h i =
    let w : r ≤ length cs = h.within in
    let m : length (cs ++ c ∷ []) ≡ suc (length cs) = omega (arith, length-append cs (c ∷ [])) in
    record {
      within = omega (arith, m, e, w);
      items = λ k a b. by_bool (nat_lt k (length cs))
          (λ (t : nat_lt k (length cs) ≡ true). let q : k < length cs = grind (arith, nat_tests, t) in item-kept cs c k q ∙ h.items k (omega (arith, m, e, a)) q)
          (λ (t : nat_lt k (length cs) ≡ false). let q : length cs ≡ k = grind (arith, nat_tests, t, b, m) in rw (← q) (item-last cs c ∙ i));
    }
