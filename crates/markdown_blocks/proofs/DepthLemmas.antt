-- Trees by depth.
use Rattle.std.proofs.Common.{◌≡◌, ℕ, zero, suc, ◌≤◌, refl, ap, List, [], ◌∷◌, ◌++◌, length, take, arith}
use Rattle.markdown_block_model.specs.BlockTree.{Container, Tree, nothing, and_leaf, and_container}
use Rattle.markdown_blocks.specs.TreeDepth.{spine, inside_at, at_depth}

pub inside-at_depth : (n : ℕ) (f : Tree → Tree) (t : Tree) → n ≤ length (spine t) → inside_at n (at_depth n f t) ≡ f (inside_at n t)
inside-at_depth zero f t h = refl
inside-at_depth (suc n) f nothing h = absurd (omega arith)
inside-at_depth (suc n) f (and_leaf b l) h = absurd (omega arith)
inside-at_depth (suc n) f (and_container b c i) h = inside-at_depth n f i (omega arith)

pub at_depth-twice : (n : ℕ) (f g : Tree → Tree) (t : Tree) → at_depth n f (at_depth n g t) ≡ at_depth n (λ s. f (g s)) t
at_depth-twice zero f g t = refl
at_depth-twice (suc n) f g nothing = refl
at_depth-twice (suc n) f g (and_leaf b l) = refl
at_depth-twice (suc n) f g (and_container b c i) = ap (λ s. and_container b c s) (at_depth-twice n f g i)

-- a change inside a container that has just begun
pub at_depth-deeper : (n : ℕ) (f : Tree → Tree) (c : Container) (t : Tree)
    → at_depth (suc n) f (at_depth n (λ s. and_container s c nothing) t) ≡ at_depth n (λ s. and_container s c (f nothing)) t
at_depth-deeper zero f c t = refl
at_depth-deeper (suc n) f c nothing = refl
at_depth-deeper (suc n) f c (and_leaf b l) = refl
at_depth-deeper (suc n) f c (and_container b d i) = ap (λ s. and_container b d s) (at_depth-deeper n f c i)

pub inside-deeper : (n : ℕ) (c : Container) (t : Tree) → n ≤ length (spine t) → inside_at (suc n) (at_depth n (λ s. and_container s c nothing) t) ≡ nothing
inside-deeper zero c t h = refl
inside-deeper (suc n) c nothing h = absurd (omega arith)
inside-deeper (suc n) c (and_leaf b l) h = absurd (omega arith)
inside-deeper (suc n) c (and_container b d i) h = inside-deeper n c i (omega arith)

-- two changes that are the same on the siblings there
pub at_depth-same : (n : ℕ) (f g : Tree → Tree) (t : Tree) → f (inside_at n t) ≡ g (inside_at n t) → at_depth n f t ≡ at_depth n g t
at_depth-same zero f g t h = h
at_depth-same (suc n) f g nothing h = refl
at_depth-same (suc n) f g (and_leaf b l) h = refl
at_depth-same (suc n) f g (and_container b c i) h = ap (λ s. and_container b c s) (at_depth-same n f g i h)

pub take-spine : (n : ℕ) (f : Tree → Tree) (t : Tree) → take n (spine (at_depth n f t)) ≡ take n (spine t)
take-spine zero f t = refl
take-spine (suc n) f nothing = refl
take-spine (suc n) f (and_leaf b l) = refl
take-spine (suc n) f (and_container b c i) = ap (λ s. c ∷ s) (take-spine n f i)

pub take-spine-deeper : (n : ℕ) (c : Container) (t : Tree) → n ≤ length (spine t)
    → take (suc n) (spine (at_depth n (λ s. and_container s c nothing) t)) ≡ take n (spine t) ++ c ∷ []
take-spine-deeper zero c t h = refl
take-spine-deeper (suc n) c nothing h = absurd (omega arith)
take-spine-deeper (suc n) c (and_leaf b l) h = absurd (omega arith)
take-spine-deeper (suc n) c (and_container b d i) h = ap (λ s. d ∷ s) (take-spine-deeper n c i (omega arith))

pub at_depth-id : (n : ℕ) (t : Tree) → at_depth n (λ s. s) t ≡ t
at_depth-id zero t = refl
at_depth-id (suc n) nothing = refl
at_depth-id (suc n) (and_leaf b l) = refl
at_depth-id (suc n) (and_container b c i) = ap (λ s. and_container b c s) (at_depth-id n i)

-- as many containers as can be taken
pub length-front : (n : ℕ) (s p : List Container) → take n s ≡ p → n ≡ length p → n ≤ length s
length-front zero s p h e = omega arith
length-front (suc n) [] p h e = absurd (omega (arith, ap length h))
length-front (suc n) (c ∷ s) [] h e = absurd (omega arith)
length-front (suc n) (c ∷ s) (d ∷ p) h e = let k : n ≤ length s = length-front n s p (cc) (omega arith) in omega arith
