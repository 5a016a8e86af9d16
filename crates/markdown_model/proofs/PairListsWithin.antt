-- Which runs pair does not depend on the content that they stand in.
use Rattle.std.proofs.Common.{◌≡◌, ℕ, zero, suc, ◌-◌, true, false, List, [], ◌∷◌, ◌++◌, length, Option, Some, None, refl, sum_by, sym}
use Rattle.markdown_content.specs.Codes.{Code}
use Rattle.markdown_model.specs.Setting.{Setting, within}
use Rattle.markdown_model.specs.Runs.{Run}
use Rattle.markdown_model.specs.Pairs.{Pair, is_eligible, opener_below, next_pair_from, pairs_after, pair_list, pair_size}
use Rattle.markdown_content.specs.Tree.{Forest, leaf_codes}
use Rattle.markdown_model.specs.BracketGroups.{paired}
use Rattle.markdown_model.specs.InlineTree.{paired_whole}

module _ (content : List Code) (s : Setting) (runs : List Run) where
  abbrev there : Setting
  there = within content s

  eligible-within : (earlier : List Pair) (o c : ℕ) → is_eligible there runs earlier o c ≡ is_eligible s runs earlier o c
  unfolding is_eligible
  eligible-within earlier o c = refl

  opener-within : (earlier : List Pair) (c o : ℕ) → opener_below there runs earlier c o ≡ opener_below s runs earlier c o
  unfolding opener_below
  opener-within earlier c zero = refl
  opener-within earlier c (suc o) = λ i.
      elim (eligible-within earlier o c i) as (λ _. Option ℕ) [ true ↦ Some o | false ↦ opener-within earlier c o i ]

  next-within : (earlier : List Pair) (c n : ℕ) → next_pair_from there runs earlier c n ≡ next_pair_from s runs earlier c n
  unfolding next_pair_from
  next-within earlier c zero = refl
  next-within earlier c (suc n) = λ i.
      elim (opener-within earlier c c i) as (λ _. Option Pair) [
        | Some o ↦ Some (record { opener = o; closer = c; size = pair_size runs earlier o c })
        | None ↦ next-within earlier (suc c) n i
      ]

  pairs-within : (n : ℕ) (earlier : List Pair) (last : ℕ) → pairs_after there runs n earlier last ≡ pairs_after s runs n earlier last
  unfolding pairs_after
  pairs-within zero earlier last = refl
  pairs-within (suc n) earlier last = λ i.
      elim (next-within earlier last (length runs - last) i) as (λ _. List Pair) [
        | None ↦ []
        | Some p ↦ p ∷ pairs-within n (earlier ++ p ∷ []) p.closer i
      ]

pub lists-within : (content : List Code) (s : Setting) → pair_list (within content s) ≡ pair_list s
unfolding pair_list
lists-within content s = λ i runs. pairs-within content s runs (sum_by (λ r. length r.codes) runs) [] 0 i

-- so the pairs of a whole content may be listed in the setting of the content
pub whole-pairs : (s : Setting) (tree : Forest) →
    paired_whole s (pair_list s) tree ≡ paired (within (leaf_codes tree) s) (pair_list (within (leaf_codes tree) s)) tree
whole-pairs s tree = λ i. paired (within (leaf_codes tree) s) (sym (lists-within (leaf_codes tree) s) i) tree
