-- Sizes put into one list of nodes, and read from it.
use Rattle.std.proofs.Common.{◌≡◌, ℕ, zero, suc, ◌+◌, ◌<◌, ◌≤◌, ◌==◌, Bool, true, false, if◌then◌else◌, List, ◌∷◌, length, map, replicate, get_or, set, refl, ap, ◌∙◌, arith, []}
use Rattle.std.proofs.lemmas.Bool.{ne_eqb, eq-eqb}
use Rattle.std.proofs.lemmas.List.{get_or-map, map-set, length-map}
use Rattle.std.proofs.lemmas.List.Elements.{All-head, All-tail}
use Rattle.std.specs.List.{All}
use Rattle.markdown_attention.specs.SizeNodes.{sizes_from, AreLinked}
use Rattle.markdown_attention.specs.declared.attention.sizes.SizeNode.{SizeNode}

from-by : (x : SizeNode) (xs : List SizeNode) (n : ℕ) (b : Bool) → (n == suc (length xs)) ≡ b →
    sizes_from (x ∷ xs) n ≡ (if b then x.size ∷ sizes_from xs x.next else sizes_from xs n)
from-by x xs n b e = ap (λ (t : Bool). if t then x.size ∷ sizes_from xs x.next else sizes_from xs n) e

-- a node put in later changes nothing
from-older : (x : SizeNode) (xs : List SizeNode) (n : ℕ) → n ≤ length xs → sizes_from (x ∷ xs) n ≡ sizes_from xs n
from-older x xs n l = from-by x xs n false (ne_eqb n (suc (length xs)) (λ e. omega (arith, l, e)))

from-newest : (x : SizeNode) (xs : List SizeNode) (n : ℕ) → n ≡ suc (length xs) →
    sizes_from (x ∷ xs) n ≡ x.size ∷ sizes_from xs x.next
from-newest x xs n e = from-by x xs n true (eq-eqb n (suc (length xs)) e)

pub from-none : (xs : List SizeNode) → sizes_from xs 0 ≡ []
from-none [] = refl
from-none (x ∷ xs) = from-older x xs 0 (omega arith) ∙ from-none xs

pub all-none : (n : ℕ) → map (sizes_from []) (replicate n 0) ≡ replicate n []
all-none zero = refl
all-none (suc n) = ap (λ (xs : List (List ℕ)). [] ∷ xs) (all-none n)

all-older : (x : SizeNode) (xs : List SizeNode) (ns : List ℕ) → All (λ n. n ≤ length xs) ns →
    map (sizes_from (x ∷ xs)) ns ≡ map (sizes_from xs) ns
all-older x xs [] h = refl
all-older x xs (n ∷ ns) h =
    λ i. from-older x xs n (All-head (λ n. n ≤ length xs) n ns h) i ∷ all-older x xs ns (All-tail (λ n. n ≤ length xs) n ns h) i

pub put-first : (x : SizeNode) (xs : List SizeNode) (ns : List ℕ) (run d : ℕ) → run < length ns → All (λ n. n ≤ length xs) ns → x.next ≡ get_or ns run d
    → map (sizes_from (x ∷ xs)) (set ns run (suc (length xs))) ≡ set (map (sizes_from xs) ns) run (x.size ∷ get_or (map (sizes_from xs) ns) run [])
put-first x xs ns run d l h e = grind (arith, get_or-map, from-newest, map-set, all-older)

-- the sizes of a run, whose first node is d
pub sizes-of-run : (xs : List SizeNode) (ns : List ℕ) (lists : List (List ℕ)) (run d : ℕ) → map (sizes_from xs) ns ≡ lists → run < length lists → d ≡ get_or ns run d
    → get_or lists run [] ≡ sizes_from xs d
sizes-of-run xs ns lists run d v l e = grind (arith, length-map, get_or-map)

pub record SizesFollow (xs : List SizeNode) (n : ℕ) (x : SizeNode) : Type 0 where
  pub sizes : sizes_from xs n ≡ x.size ∷ sizes_from xs x.next
  pub before : x.next < n

-- node n, which stands so many nodes below the newest
pub read-node : (xs : List SizeNode) (n k : ℕ) (d : SizeNode) → AreLinked xs → 0 < n → k + n ≡ length xs →
    SizesFollow xs n (get_or xs k d)
read-node [] n k d linked p h = absurd (omega (arith, p, h))
read-node (x ∷ xs) n zero d linked p h = grind (arith, from-newest, from-older)
read-node (x ∷ xs) n (suc k) d linked p h = grind (arith, read-node xs n k d linked.1 p (omega (arith, h)), from-older)
