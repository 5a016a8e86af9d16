-- What holds of the items of a bracket word, and of what its brackets make, holds of the grouped items.
use Rattle.std.proofs.Common.{List, [], ◌∷◌, ◌++◌, arith}
use Rattle.markdown_content.specs.Tree.{Forest, empty, ◌⊕◌}
use Rattle.markdown_model.specs.BracketGroups.{Bracketed, item, opens, closes, nest, nested, onto, after_loose, joined}

-- it holds of each tree
abbrev pub AllHave : (Forest → Type 0) → List Forest → Type 0
AllHave P [] = Unit {0}
AllHave P (t ∷ ts) = P t × AllHave P ts

pub all-append : (P : Forest → Type 0) (a b : List Forest) → AllHave P a → AllHave P b → AllHave P (a ++ b)
all-append P [] b g h = h
all-append P (t ∷ a) b g h = (g.0, all-append P a b g.1 h)

-- and so of their row, if it holds of nothing and of two rows
pub joined-has : (P : Forest → Type 0) → P empty → ((t u : Forest) → P t → P u → P (t ⊕ u)) → (ts : List Forest) →
    AllHave P ts → P (joined ts)
joined-has P none row [] h = none
joined-has P none row (t ∷ ts) h = row t (joined ts) h.0 (joined-has P none row ts h.1)

module _ {O C : Type 0} (P : Forest → Type 0) (IsOpen : O → Type 0) (IsClose : C → Type 0) where
  -- of the items, and of opening and closing brackets what is said of them
  abbrev pub WordHas : List (Bracketed O C Forest) → Type 0
  WordHas [] = Unit {0}
  WordHas (item t ∷ w) = P t × WordHas w
  WordHas (opens o ∷ w) = IsOpen o × WordHas w
  WordHas (closes c ∷ w) = IsClose c × WordHas w

  pub word-append : (a b : List (Bracketed O C Forest)) → WordHas a → WordHas b → WordHas (a ++ b)
  word-append [] b g h = h
  word-append (item t ∷ a) b g h = (g.0, word-append a b g.1 h)
  word-append (opens o ∷ a) b g h = (g.0, word-append a b g.1 h)
  word-append (closes c ∷ a) b g h = (g.0, word-append a b g.1 h)

  abbrev CutsHave : List (C × List Forest) → Type 0
  CutsHave [] = Unit {0}
  CutsHave (c ∷ more) = (IsClose c.0 × AllHave P c.1) × CutsHave more

  module _ (wrap : O → List Forest → C → List Forest) (loose_open : O → List Forest) (loose_close : C → List Forest)
      (wrap-has : (o : O) (inside : List Forest) (c : C) → IsOpen o → AllHave P inside → IsClose c → AllHave P (wrap o inside c))
      (open-has : (o : O) → IsOpen o → AllHave P (loose_open o)) (close-has : (c : C) → IsClose c → AllHave P (loose_close c)) where
    onto-has : (o : O) (inside : List Forest) (more : List (C × List Forest)) → IsOpen o → AllHave P inside → CutsHave more
        → AllHave P (onto wrap loose_open loose_close o inside more).0 × CutsHave (onto wrap loose_open loose_close o inside more).1
    onto-has o inside [] l g h = (all-append P (loose_open o) inside (open-has o l) g, tt)
    onto-has o inside (c ∷ more) l g h =
        (all-append P (wrap o inside c.0) c.1 (wrap-has o inside c.0 l g h.0.0) h.0.1, h.1)

    nest-has : (w : List (Bracketed O C Forest)) → WordHas w →
        AllHave P (nest wrap loose_open loose_close w).0 × CutsHave (nest wrap loose_open loose_close w).1
    nest-has [] h = (tt, tt)
    nest-has (item t ∷ w) h = let r = nest-has w h.1 in ((h.0, r.0), r.1)
    nest-has (closes c ∷ w) h = let r = nest-has w h.1 in (tt, ((h.0, r.0), r.1))
    nest-has (opens o ∷ w) h =
        let r = nest-has w h.1 in onto-has o (nest wrap loose_open loose_close w).0 (nest wrap loose_open loose_close w).1 h.0 r.0 r.1

    after-has : (more : List (C × List Forest)) → CutsHave more →
        AllHave P (after_loose wrap loose_open loose_close more)
    after-has [] h = tt
    after-has (c ∷ more) h =
        all-append P (loose_close c.0 ++ c.1) (after_loose wrap loose_open loose_close more) (all-append P (loose_close c.0) c.1 (close-has c.0 h.0.0) h.0.1) (after-has more h.1)

    -- of all that the word is grouped to
    pub nested-has : (w : List (Bracketed O C Forest)) → WordHas w → AllHave P (nested wrap loose_open loose_close w)
    nested-has w h = grind (arith, nest-has, all-append, after-has)
