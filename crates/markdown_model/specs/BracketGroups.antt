-- Groups from brackets: of labels, and of the markers that pairs take.
use Rattle.std.specs.Prelude.{ℕ, suc, ◌-◌, true, false, ◌==◌, List, [], ◌∷◌, ◌++◌, length, take, drop, reverse, sum_by, map}
use Rattle.std.specs.Str.{byte}
use Rattle.markdown_event.specs.declared.event.Name.{Name}
use Rattle.markdown_content.specs.Codes.{Code, stop_of, document_start}
use Rattle.markdown_content.specs.Tree.{Forest, empty, leaf_then, group_then, leaf, ◌⊕◌, group, text_group, start_of}
use Rattle.markdown_model.specs.Setting.{Setting}
use Rattle.markdown_model.specs.Runs.{Run, marker_of, run_of, runs_of}
use Rattle.markdown_model.specs.Pairs.{Pair}

-- A bracket word: items, with opening and closing brackets among them.
pub data Bracketed (O C I : Type 0) : Type 0 where
  item : I → Bracketed O C I
  opens : O → Bracketed O C I
  closes : C → Bracketed O C I

-- `wrap` makes the items of two brackets that match and of the items between them; a bracket without a
-- partner becomes items by itself.
module _ {O C I : Type 0} (wrap : O → List I → C → List I) (loose_open : O → List I) (loose_close : C → List I) where
  abbrev pub onto : O → List I → List (C × List I) → List I × List (C × List I)
  onto o inside [] = (loose_open o ++ inside, [])
  onto o inside (c ∷ more) = (wrap o inside c.0 ++ c.1, more)

  -- the items up to the first closing bracket without a partner, and each such bracket with the items after it
  abbrev pub nest : List (Bracketed O C I) → List I × List (C × List I)
  nest [] = ([], [])
  nest (item i ∷ rest) = let r = nest rest in (i ∷ r.0, r.1)
  nest (closes c ∷ rest) = let r = nest rest in ([], (c, r.0) ∷ r.1)
  nest (opens o ∷ rest) = let r = nest rest in onto o r.0 r.1

  abbrev pub after_loose : List (C × List I) → List I
  after_loose [] = []
  after_loose (c ∷ more) = (loose_close c.0 ++ c.1) ++ after_loose more

  abbrev pub nested : List (Bracketed O C I) → List I
  nested word = let r = nest word in r.0 ++ after_loose r.1

abbrev pub joined : List Forest → Forest
joined [] = empty
joined (f ∷ fs) = f ⊕ joined fs

abbrev pub loose : List Code → List Forest
loose cs = leaf Name.Data cs ∷ []

-- Pairs.

-- the names of a pair's group, its sequences and its text
abbrev pub pair_names : ℕ → ℕ → Name × Name × Name
pair_names marker size =
    elim (marker == byte "~") [
      | true ↦ (Name.GfmStrikethrough, Name.GfmStrikethroughSequence, Name.GfmStrikethroughText)
      | false ↦ elim (size == 2) [
        | true ↦ (Name.Strong, Name.StrongSequence, Name.StrongText)
        | false ↦ (Name.Emphasis, Name.EmphasisSequence, Name.EmphasisText)
      ]
    ]

-- the text begins where its front markers end, and ends where its back markers begin
abbrev pub pair_group : List Code → List Forest → List Code → List Forest
pair_group front inside back =
    let names = pair_names (marker_of front) (length front) in
    group names.0 (leaf names.1 front
    ⊕ text_group names.2 (stop_of document_start front) (start_of back) (joined inside)
    ⊕ leaf names.1 back) ∷ []

abbrev pub Token : Type 0
Token = Bracketed (List Code) (List Code) Forest

-- Markers used: a run gives to its pairs as closer from its front, and as opener from its back, each in
-- the order of the pairs. What is left is data.

abbrev pub closing_sizes : ℕ → List Pair → List ℕ
closing_sizes i [] = []
closing_sizes i (p ∷ ps) = elim (p.closer == i) [ true ↦ p.size ∷ closing_sizes i ps | false ↦ closing_sizes i ps ]

abbrev pub opening_sizes : ℕ → List Pair → List ℕ
opening_sizes i [] = []
opening_sizes i (p ∷ ps) = elim (p.opener == i) [ true ↦ p.size ∷ opening_sizes i ps | false ↦ opening_sizes i ps ]

-- the codes of a run cut by these sizes, and the codes that are left
abbrev pub cut_front : List ℕ → List Code → List (List Code) × List Code
cut_front [] cs = ([], cs)
cut_front (n ∷ ns) cs = let r = cut_front ns (drop n cs) in (take n cs ∷ r.0, r.1)

abbrev pub run_tokens : List Pair → ℕ → Run → List Token
run_tokens pairs i r =
    let front = cut_front (closing_sizes i pairs) r.codes in
    let sizes = reverse (opening_sizes i pairs) in
    let kept = length front.1 - sum_by (λ n. n) sizes in
    let back = cut_front sizes (drop kept front.1) in
    map closes front.0 ++ (item (leaf Name.Data (take kept front.1)) ∷ map opens back.0)

abbrev pub assembled : List Token → Forest
assembled tokens = joined (nested pair_group loose loose tokens)

-- `pairs_of` gives the pairs of a container's runs
module _ (s : Setting) (pairs_of : List Run → List Pair) where
  -- siblings as a bracket word, whose runs are cut by these pairs, and where n runs stand before them; the
  -- siblings inside each group have their own pairs
  unfoldable pub tokens_of : Forest → List Pair → ℕ → List Token
  tokens_of empty pairs n = []
  tokens_of (leaf_then Name.AttentionSequence link cs rest) pairs n = run_tokens pairs n (run_of s cs) ++ tokens_of rest pairs (suc n)
  tokens_of (leaf_then name link cs rest) pairs n = item (leaf_then name link cs empty) ∷ tokens_of rest pairs n
  tokens_of (group_then name enter exit inside rest) pairs n =
      item (group_then name enter exit (assembled (tokens_of inside (pairs_of (runs_of s inside)) 0)) empty)
      ∷ tokens_of rest pairs n

  -- a tree with the pairs of all its containers grouped
  unfoldable pub paired : Forest → Forest
  paired tree = assembled (tokens_of tree (pairs_of (runs_of s tree)) 0)
