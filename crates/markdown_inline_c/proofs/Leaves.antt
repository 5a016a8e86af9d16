-- What is lent, one after another.
use Rattle.std.proofs.Common.{◌≡◌, ◌∙◌, sym, ap, List, [], ◌∷◌, ◌++◌, map, append_assoc, append-nil}
use Rattle.markdown_innermost.specs.InnermostEvents.{Lent}
use Rattle.markdown_inline_c.specs.FlatLeaves.{flat_leaf}
use Rattle.markdown_inline_c.specs.declared.flat.FlatLeaf.{FlatLeaf}

-- what was found, and what is left
pub record AreLent (all : List FlatLeaf) (found : List FlatLeaf) (left : List Lent) : Type 0 where
  pub parts : all ≡ found ++ map flat_leaf left

pub one_more : (all found : List FlatLeaf) (l : Lent) (left : List Lent) → AreLent all found (l ∷ left) → AreLent all (found ++ flat_leaf l ∷ []) left
one_more all found l left h = record { parts = h.parts ∙ sym (append_assoc found (flat_leaf l ∷ []) (map flat_leaf left)) }

pub all_lent : (all found : List FlatLeaf) (left : List Lent) → left ≡ [] → AreLent all found left → found ≡ all
all_lent all found left e h = sym (h.parts ∙ ap (λ (x : List Lent). found ++ map flat_leaf x) e ∙ append-nil found)
