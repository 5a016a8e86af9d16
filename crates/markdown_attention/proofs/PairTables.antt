-- That a turn of the scan stays within its tables, and its numbers within those of the machine.
use Rattle.std.proofs.Common.{◌≡◌, ℕ, ◌+◌, ◌-◌, ◌*◌, ◌^◌, ◌<◌, ◌≤◌, List, length, get_or, sym, ap, ◌∙◌, subst, arith, mul-le-mul, Fits, w64}
use Rattle.markdown_attention.specs.NumberedPairs.{markers_left}
use Rattle.markdown_attention.specs.OpenRuns.{kind_of}
use Rattle.markdown_attention.specs.PairScan.{Walk}
use Rattle.markdown_attention.proofs.OpenRunLists.{kinds}

-- of so many lists and marks, the lists of a line, one of them, and its mark for a class
pub record InTables (line list class lists marks : ℕ) : Type 0 where
  pub lists_in : line * 3 + 3 ≤ lists
  pub list_in : list < lists
  pub marks_in : list * 6 + 6 ≤ marks
  pub mark_in : list * 6 + class < marks
  pub small : marks < 2 ^ 63

-- a line below the number of lines
pub line-small : (line count entry cells len cap : ℕ) → line + 1 ≡ entry → entry ≤ count → cells ≡ count * 21 → (len ≡ cells) × (len ≤ cap) →
    cap < 2 ^ 63 → line * 3 + 3 < 2 ^ 64
line-small line count entry cells len cap e w m v s = let a = v.0 in let b = v.1 in omega (arith, a, b)

pub in-tables : (line list class count entry marker lists marks cells len cap : ℕ) → line + 1 ≡ entry → entry ≤ count → list ≡ line * 3 + kind_of marker → class < 6 →
    lists ≡ count * 3 → marks ≡ count * 18 → cells ≡ count * 21 → (len ≡ cells) × (len ≤ cap) → cap < 2 ^ 63 → InTables line list class lists marks
in-tables line list class count entry marker lists marks cells len cap e w l c h m t v s = grind (arith, kinds)

pub list-small : (line list class lists marks : ℕ) → InTables line list class lists marks → Fits w64 (list * 6)
list-small line list class lists marks t = let a = t.marks_in in let b = t.small in omega arith

pub mark-small : (line list class lists marks : ℕ) → InTables line list class lists marks → Fits w64 (list * 6 + class)
mark-small line list class lists marks t = let a = t.mark_in in let b = t.small in omega arith

pub lists-small : (line list class lists marks : ℕ) → InTables line list class lists marks → lists * 6 ≡ marks → Fits w64 (line * 3)
lists-small line list class lists marks t six = let a = t.lists_in in let b = t.small in omega arith

-- the looks that a walk may still take are counted
pub probes-room : (probes turn pairs count left all : ℕ) → probes ≤ (turn + pairs) * count → turn ≤ count → count < 2 ^ 63 → 2 * pairs + left ≤ all →
    all < 2 ^ 63 → probes + turn < 2 ^ 128
probes-room probes turn pairs count left all most within few half small = grind (arith, mul-le-mul)

pub number-small : (number turn count : ℕ) → number ≡ turn → turn ≤ count → count < 2 ^ 63 → number + 1 < 2 ^ 64
number-small number turn count e w s = omega arith

-- the runs as a walk leaves them

module _ (v w : Walk) (list : w.list ≡ v.list) (turn : w.turn ≡ v.turn) where
  pub still-in-turn : v.turn < length v.list → w.turn < length w.list
  still-in-turn l = rw (turn, list) l

  pub still-earlier : (o : ℕ) → o < v.turn → o < w.turn
  still-earlier o l = rw turn l

  -- one turn fewer is left
  pub fewer-turns : (u : Walk) → v.turn < length v.list → u ≡ record w { turn = w.turn + 1 } →
      (length u.list - u.turn) + markers_left u.list < (length v.list - v.turn) + markers_left v.list
  fewer-turns u l e = grind arith

-- the list of older runs, as it is lent

module _ (older lent : List ℕ) (turn : ℕ) (same : lent ≡ older) (long : length older ≡ turn) where
  pub lent-long : length lent ≡ turn
  lent-long = ap length same ∙ long

  pub lent-down : ((r : ℕ) → r < turn → get_or older r 0 ≤ r) → (r : ℕ) → r < turn → get_or lent r 0 ≤ r
  lent-down down r l = rw same (down r l)

  pub lent-down-all : ((r : ℕ) → r < turn → get_or older r 0 ≤ r) → (r : ℕ) → r < length lent → get_or lent r 0 ≤ r
  lent-down-all down r l = lent-down down r (subst (λ n. r < n) lent-long l)

  pub lent-has : (o : ℕ) → o < turn → o < length lent
  lent-has o l = subst (λ n. o < n) (sym lent-long) l

  pub lent-above : (heads : List ℕ) → ((k : ℕ) → k < length heads → get_or heads k 0 ≤ turn) → (i : ℕ) → i < length heads → get_or heads i 0 ≤ length lent
  lent-above heads le i l = subst (λ n. get_or heads i 0 ≤ n) (sym lent-long) (le i l)
