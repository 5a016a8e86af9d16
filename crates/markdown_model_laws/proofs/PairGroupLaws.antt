-- Each pair of a container's list is a group of the tree.
use Rattle.std.proofs.Common.{◌≡◌, ℕ, zero, suc, ◌+◌, ◌-◌, ◌<◌, ◌≤◌, nat_lt, nat_le, ◌==◌, Bool, true, false, ◌&&◌, List, [], ◌∷◌, ◌++◌, length, take, drop, reverse, map, sum_by, if◌then◌else◌, refl, sym, ap, subst, ◌∙◌, arith, append_assoc}
use Rattle.std.proofs.lemmas.List.{length-reverse}
use Rattle.std.proofs.lemmas.List.Sums.{sum_by-append, sum_by-cons}
use Rattle.std.proofs.lemmas.Bool.Decides.{nat_tests}
use Rattle.markdown_model.proofs.GivenNames.{pair-named}
use Rattle.markdown_event.specs.declared.event.Name.{Name}
use Rattle.markdown_content.specs.Codes.{Code, stop_of, document_start}
use Rattle.markdown_content.specs.Tree.{Forest, empty, leaf_then, group_then, leaf, ◌⊕◌, start_of, leaf_codes}
use Rattle.markdown_model.specs.Setting.{Setting}
use Rattle.markdown_model.specs.Runs.{Run, runs_of, run_of, marker_of, rows_inside, rows_of}
use Rattle.markdown_model.specs.Pairs.{Pair, pair_list, ArePairsFrom}
use Rattle.markdown_model.specs.BracketGroups.{Token, item, opens, closes, nested, joined, loose, pair_names, pair_group, closing_sizes, opening_sizes, cut_front, run_tokens, assembled, tokens_of, paired}
use Rattle.markdown_model.specs.InlineTree.{pair_count, paired_whole}
use Rattle.markdown_model.proofs.OnePairList.{some_pair_list}
use Rattle.markdown_model.proofs.BracketSums.{Adds, sum_of, sum-joined, sum-nested, word_sum}
use Rattle.markdown_model_laws.specs.PairGroups.{is_pair, pair_groups}
use Rattle.markdown_model.proofs.PairListsWithin.{lists-within}

-- Groups of rows.

pub groups-leaf : (name : Name) (cs : List Code) → pair_groups (leaf name cs) ≡ 0
groups-leaf name [] = refl
groups-leaf name (c ∷ cs) = refl

pub groups-join : (a b : Forest) → pair_groups (a ⊕ b) ≡ pair_groups a + pair_groups b
groups-join empty b = omega arith
groups-join (leaf_then name link cs rest) b = groups-join rest b
groups-join (group_then name enter exit inside rest) b = omega (arith, groups-join rest b)

abbrev groups_add : Adds ℕ
groups_add = record {
  none = 0;
  plus = ◌+◌;
  of = pair_groups;
  assoc = λ a b c. omega arith;
  left = λ a. omega arith;
  right = λ a. omega arith;
  nothing = refl;
  row = groups-join;
}

abbrev all_groups : List Forest → ℕ
all_groups fs = sum_of groups_add fs

groups-loose : (cs : List Code) → all_groups (loose cs) ≡ 0
groups-loose cs = omega (arith, groups-leaf Name.Data cs)

-- the group of a pair is one, and its text is none
record ArePairNames (names : Name × Name × Name) : Type 0 where
  whole : is_pair names.0 ≡ true
  text : is_pair names.2 ≡ false

named : (marker size : ℕ) → ArePairNames (pair_names marker size)
named = pair-named ArePairNames (record { whole = refl; text = refl }) (record { whole = refl; text = refl }) (record { whole = refl; text = refl })

groups-pair_group : (front : List Code) (inside : List Forest) (back : List Code) →
    all_groups (pair_group front inside back) ≡ 1 + all_groups inside
groups-pair_group front inside back =
    omega (arith, ap one n.whole, groups-join (leaf names.1 front) (group_then names.2 (stop_of document_start front) (start_of back) (joined inside) empty ⊕ leaf names.1 back), groups-leaf names.1 front, ap one n.text, sum-joined groups_add inside, groups-leaf names.1 back)
  where
    names : Name × Name × Name
    names = pair_names (marker_of front) (length front)

    n : ArePairNames names
    n = named (marker_of front) (length front)

    one : Bool → ℕ
    one b = if b then 1 else 0

-- Bracket words, where so many opening brackets stand before.

abbrev made : ℕ → List Token → ℕ
made d w = word_sum groups_add loose (λ o. 0) (λ c. 1) d w

made-assembled : (w : List Token) → pair_groups (assembled w) ≡ made zero w
made-assembled w =
    sum-joined groups_add (nested pair_group loose loose w)
    ∙ sum-nested groups_add pair_group loose loose (λ o. 0) (λ c. 1) (λ front inside back. omega (arith, groups-pair_group front inside back)) groups-loose w

-- The tokens of a run.

made-closes : (cs : List (List Code)) (d e : ℕ) (w : List Token) → d ≡ e + length cs →
    made d (map closes cs ++ w) ≡ length cs + made e w
made-closes [] d e w h = subst (λ n. made n w ≡ 0 + made e w) (sym same) (omega arith)
  where
    same : d ≡ e
    same = omega arith
made-closes (c ∷ cs) zero e w h = absurd (omega arith)
made-closes (c ∷ cs) (suc d) e w h = omega (arith, made-closes cs d e w (omega arith))

made-opens : (os : List (List Code)) (d e : ℕ) (w : List Token) → e ≡ d + length os →
    made d (map opens os ++ w) ≡ made e w
made-opens [] d e w h = ap (λ n. made n w) (sym same)
  where
    same : e ≡ d
    same = omega arith
made-opens (o ∷ os) d e w h = omega (arith, made-opens os (suc d) e w (omega arith))

cut-length : (ns : List ℕ) (cs : List Code) → length (cut_front ns cs).0 ≡ length ns
cut-length [] cs = refl
cut-length (n ∷ ns) cs = ap suc (cut-length ns (drop n cs))

made-run : (pairs : List Pair) (i : ℕ) (r : Run) (d e m : ℕ) (w : List Token) → d ≡ m + length (closing_sizes i pairs) → e ≡ m + length (opening_sizes i pairs)
    → made d (run_tokens pairs i r ++ w) ≡ length (closing_sizes i pairs) + made e w
made-run pairs i r d e m w h k =
    ap (made d) (append_assoc (map closes front.0) (item (leaf Name.Data (take kept front.1)) ∷ map opens back.0) w)
    ∙ made-closes front.0 d m (item (leaf Name.Data (take kept front.1)) ∷ (map opens back.0 ++ w)) (omega (arith, h, cut-length (closing_sizes i pairs) r.codes))
    ∙ omega (arith, cut-length (closing_sizes i pairs) r.codes, groups-leaf Name.Data (take kept front.1), made-opens back.0 m e w (omega (arith, k, cut-length sizes (drop kept front.1), length-reverse (opening_sizes i pairs))))
  where
    front : List (List Code) × List Code
    front = cut_front (closing_sizes i pairs) r.codes

    sizes : List ℕ
    sizes = reverse (opening_sizes i pairs)

    kept : ℕ
    kept = length front.1 - sum_by (λ n. n) sizes

    back : List (List Code) × List Code
    back = cut_front sizes (drop kept front.1)

-- Pairs by the runs that they stand between.

-- each opens before it closes, and closes at one of so many runs
abbrev ArePairsBelow : ℕ → List Pair → Type 0
ArePairsBelow n [] = Unit {0}
ArePairsBelow n (p ∷ ps) = (p.opener < p.closer) × (p.closer < n) × ArePairsBelow n ps

within : (s : Setting) (runs : List Run) (end : ℕ) (earlier : List Pair) (last : ℕ) (ps : List Pair) →
    ArePairsFrom s runs end earlier last ps → ArePairsBelow (length runs) ps
within s runs end earlier last [] h = tt
within s runs end earlier last (p ∷ ps) h = grind (arith, within s runs end (earlier ++ p ∷ []) p.closer ps h.1)

-- the pairs that are open before run n, and those that close there or later
abbrev open_at : ℕ → List Pair → ℕ
open_at n [] = 0
open_at n (p ∷ ps) = (if nat_lt p.opener n && nat_le n p.closer then 1 else 0) + open_at n ps

abbrev closed_from : ℕ → List Pair → ℕ
closed_from n [] = 0
closed_from n (p ∷ ps) = (if nat_le n p.closer then 1 else 0) + closed_from n ps

length-closing : (i : ℕ) (p : Pair) (ps : List Pair) →
    length (closing_sizes i (p ∷ ps)) ≡ (if p.closer == i then 1 else 0) + length (closing_sizes i ps)
length-closing i p ps = grind arith

length-opening : (i : ℕ) (p : Pair) (ps : List Pair) →
    length (opening_sizes i (p ∷ ps)) ≡ (if p.opener == i then 1 else 0) + length (opening_sizes i ps)
length-opening i p ps = grind arith

one-balance : (o c n : ℕ) → o < c →
    (if nat_lt o n && nat_le n c then 1 else 0) + (if o == n then 1 else 0) ≡ (if nat_lt o (suc n) && nat_le (suc n) c then 1 else 0) + (if c == n then 1 else 0)
one-balance o c n h = grind (arith, nat_tests)

balance : (n m : ℕ) (ps : List Pair) → ArePairsBelow m ps →
    open_at n ps + length (opening_sizes n ps) ≡ open_at (suc n) ps + length (closing_sizes n ps)
balance n m [] h = refl
balance n m (p ∷ ps) h = grind (arith, one-balance, n, balance n m ps h.2, length-opening, length-closing)

one-open : (o c n : ℕ) → o < c → (if c == n then 1 else 0) ≤ (if nat_lt o n && nat_le n c then 1 else 0)
one-open o c n h = grind (arith, nat_tests)

closed-open : (n m : ℕ) (ps : List Pair) → ArePairsBelow m ps → length (closing_sizes n ps) ≤ open_at n ps
closed-open n m [] h = omega arith
closed-open n m (p ∷ ps) h = grind (arith, one-open, n, closed-open n m ps h.2, length-closing)

one-closed : (c n : ℕ) → (if nat_le n c then 1 else 0) ≡ (if c == n then 1 else 0) + (if nat_le (suc n) c then 1 else 0)
one-closed c n = grind (arith, nat_tests)

closed-next : (n : ℕ) (ps : List Pair) → closed_from n ps ≡ length (closing_sizes n ps) + closed_from (suc n) ps
closed-next n [] = refl
closed-next n (p ∷ ps) = omega (arith, one-closed p.closer n, closed-next n ps, length-closing n p ps)

one-past : (c n : ℕ) → c < n → ◌≡◌ {A = ℕ} (if nat_le n c then 1 else 0) 0
one-past c n h = grind (arith, nat_tests)

none-past : (n : ℕ) (ps : List Pair) → ArePairsBelow n ps → closed_from n ps ≡ 0
none-past n [] h = refl
none-past n (p ∷ ps) h = omega (arith, one-past p.closer n h.1, none-past n ps h.2)

one-left : (c : ℕ) → ◌≡◌ {A = ℕ} (if nat_le 0 c then 1 else 0) 1
one-left c = grind (arith, nat_tests)

all-closed : (ps : List Pair) → closed_from 0 ps ≡ length ps
all-closed [] = refl
all-closed (p ∷ ps) = omega (arith, one-left p.closer, all-closed ps)

one-shut : (o c : ℕ) → ◌≡◌ {A = ℕ} (if nat_lt o 0 && nat_le 0 c then 1 else 0) 0
one-shut o c = grind (arith, nat_tests)

none-open : (ps : List Pair) → open_at 0 ps ≡ 0
none-open [] = refl
none-open (p ∷ ps) = omega (arith, one-shut p.opener p.closer, none-open ps)

-- Rows.

module _ (s : Setting) where
  abbrev pairs_in : List (List Run) → ℕ
  pairs_in rows = sum_by (λ runs. length (pair_list s runs)) rows

  abbrev PairGroupLaw : Forest → Type 0
  PairGroupLaw f = (pairs : List Pair) (n total : ℕ) → ArePairsBelow total pairs → n + length (runs_of s f) ≡ total
      → made (open_at n pairs) (tokens_of s (pair_list s) f pairs n) ≡ pair_groups f + pairs_in (rows_inside s f) + closed_from n pairs

  whole-row : (f : Forest) → PairGroupLaw f →
      pair_groups (assembled (tokens_of s (pair_list s) f (pair_list s (runs_of s f)) 0)) ≡ pair_groups f + pairs_in (rows_inside s f) + length (pair_list s (runs_of s f))
  whole-row f law =
      made-assembled (tokens_of s (pair_list s) f pairs 0) ∙ ap (λ d. made d (tokens_of s (pair_list s) f pairs 0)) (sym (none-open pairs))
      ∙ law pairs 0 (length (runs_of s f)) (within s (runs_of s f) (length (runs_of s f)) [] 0 pairs (some_pair_list s (runs_of s f))) (omega arith)
      ∙ ap (λ k. pair_groups f + pairs_in (rows_inside s f) + k) (all-closed pairs)
    where
      pairs : List Pair
      pairs = pair_list s (runs_of s f)

  law : (f : Forest) → PairGroupLaw f
  unfolding tokens_of runs_of rows_inside
  law empty pairs n total h k = grind (arith, none-past, n)
  law (leaf_then Name.AttentionSequence link cs rest) pairs n total h k =
      made-run pairs n (run_of s cs) (open_at n pairs) (open_at (suc n) pairs) (open_at n pairs - length (closing_sizes n pairs)) (tokens_of s (pair_list s) rest pairs (suc n))
      (omega (arith, closed-open n total pairs h)) (omega (arith, closed-open n total pairs h, balance n total pairs h))
      ∙ omega (arith, law rest pairs (suc n) total h (omega arith), closed-next n pairs)
  law (leaf_then name link cs rest) pairs n total h k = omega (arith, law rest pairs n total h k)
  law (group_then name enter exit inside rest) pairs n total h k =
      omega (arith, whole-row inside (law inside), law rest pairs n total h k, sum_by-append (λ runs. length (pair_list s runs)) (runs_of s inside ∷ rows_inside s inside) (rows_inside s rest), sum_by-cons (λ runs. length (pair_list s runs)) (runs_of s inside) (rows_inside s inside))

-- grouping the pairs of all rows makes one group for each
groups-rows : (s : Setting) (tree : Forest) →
    pair_groups (paired s (pair_list s) tree) ≡ pair_groups tree + sum_by (λ runs. length (pair_list s runs)) (rows_of s tree)
unfolding paired rows_of
groups-rows s tree =
    omega (arith, whole-row s tree (law s tree), sum_by-cons (λ runs. length (pair_list s runs)) (runs_of s tree) (rows_inside s tree))

-- and so it does with all containers of a whole content
pub groups-paired : (s : Setting) (tree : Forest) →
    pair_groups (paired_whole s (pair_list s) tree) ≡ pair_groups tree + pair_count s tree
groups-paired s tree = grind (arith, lists-within (leaf_codes tree) s, groups-rows)
