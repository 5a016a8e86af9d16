-- A run that may neither open nor close is data: the tree with its pairs is that of the tree with data in its place.
use Rattle.std.proofs.Common.{◌≡◌, ℕ, suc, ◌+◌, ◌-◌, ◌≤◌, Bool, true, false, not, ◌&&◌, ◌||◌, List, [], ◌∷◌, ◌++◌, length, take, drop, reverse, map, Option, None, refl, ◌∙◌, ap, arith, sum_by, if◌then◌else◌}
use Rattle.std.proofs.lemmas.List.{length-map, take_all}
use Rattle.std.proofs.lemmas.Bool.{eq-eqb, ne_eqb}
use Rattle.markdown_model.specs.Setting.{Setting}
use Rattle.markdown_event.specs.declared.event.Name.{Name}
use Rattle.markdown_event.specs.declared.event.Content.{Content}
use Rattle.markdown_event.specs.declared.event.Point.{Point}
use Rattle.markdown_content.specs.Codes.{Code}
use Rattle.markdown_content.specs.Tree.{Forest, empty, leaf_then, group_then, leaf, ◌⊕◌}
use Rattle.std.proofs.Math.Bool.{and-false}
use Rattle.markdown_model.specs.Runs.{Run, run_of, runs_of}
use Rattle.markdown_model.specs.Pairs.{Pair, pair_list}
use Rattle.markdown_model.specs.BracketGroups.{Token, item, opens, closes, closing_sizes, opening_sizes, cut_front, run_tokens, tokens_of, paired}
use Rattle.markdown_model.proofs.PassesKeepCodes.{codes-run_of}
use Rattle.markdown_run_text.specs.ElementsAsRead.{IsIntraword}
use Rattle.markdown_run_text.proofs.NeutralRunPairs.{raised, raised-below, raised-from, raised_other, raised-eqb, raised_pair, raised_pairs, neutral_pair_list}

-- The tokens of a run by either numbers.

raised-closing : (k i : ℕ) (ps : List Pair) →
    closing_sizes (raised k i) (raised_pairs k ps) ≡ closing_sizes i ps
raised-closing k i [] = refl
raised-closing k i (p ∷ ps) = grind (arith, raised-eqb, raised-closing k i ps)

raised-opening : (k i : ℕ) (ps : List Pair) →
    opening_sizes (raised k i) (raised_pairs k ps) ≡ opening_sizes i ps
raised-opening k i [] = refl
raised-opening k i (p ∷ ps) = grind (arith, raised-eqb, raised-opening k i ps)

new-closing : (k : ℕ) (ps : List Pair) → closing_sizes k (raised_pairs k ps) ≡ []
new-closing k [] = refl
new-closing k (p ∷ ps) = grind (arith, ne_eqb, raised_other, new-closing k ps)

new-opening : (k : ℕ) (ps : List Pair) → opening_sizes k (raised_pairs k ps) ≡ []
new-opening k [] = refl
new-opening k (p ∷ ps) = grind (arith, ne_eqb, raised_other, new-opening k ps)

-- a run's tokens by the sizes that it gives
abbrev tokens_by : List ℕ → List ℕ → Run → List Token
tokens_by closing opening r =
    let front = cut_front closing r.codes in
    let sizes = reverse opening in
    let kept = length front.1 - sum_by (λ n. n) sizes in
    let back = cut_front sizes (drop kept front.1) in
    map closes front.0 ++ (item (leaf Name.Data (take kept front.1)) ∷ map opens back.0)

raised-tokens : (k i : ℕ) (ps : List Pair) (r : Run) → run_tokens (raised_pairs k ps) (raised k i) r ≡ run_tokens ps i r
raised-tokens k i ps r = λ j. tokens_by (raised-closing k i ps j) (raised-opening k i ps j) r

-- a run that no pair takes is one data
unpaired-tokens : (r : Run) → tokens_by [] [] r ≡ item (leaf Name.Data r.codes) ∷ []
unpaired-tokens r = ap (λ x. item (leaf Name.Data x) ∷ []) (take_all (length r.codes - 0) r.codes (omega arith))

new-tokens : (k : ℕ) (ps : List Pair) (r : Run) →
    run_tokens (raised_pairs k ps) k r ≡ item (leaf Name.Data r.codes) ∷ []
new-tokens k ps r = (λ j. tokens_by (new-closing k ps j) (new-opening k ps j) r) ∙ unpaired-tokens r

-- Trees.

pub runs-row : (s : Setting) (t u : Forest) → runs_of s (t ⊕ u) ≡ runs_of s t ++ runs_of s u
unfolding runs_of
runs-row s empty u = refl
runs-row s (leaf_then Name.AttentionSequence link cs rest) u = ap (λ x. run_of s cs ∷ x) (runs-row s rest u)
runs-row s (leaf_then name link cs rest) u = runs-row s rest u
runs-row s (group_then name enter exit inside rest) u = runs-row s rest u

module _ (s : Setting) (pairs_of : List Run → List Pair) where
  -- after the new run each number is one more
  tokens-after : (t : Forest) (k n : ℕ) (ps : List Pair) → k ≤ n →
      tokens_of s pairs_of t (raised_pairs k ps) (suc n) ≡ tokens_of s pairs_of t ps n
  unfolding tokens_of
  tokens-after empty k n ps l = refl
  tokens-after (leaf_then Name.AttentionSequence link cs rest) k n ps l = grind (arith, raised-from k n, raised-tokens k n ps (run_of s cs), tokens-after rest k (suc n) ps)
  tokens-after (leaf_then name link cs rest) k n ps l = grind (arith, tokens-after rest k n ps)
  tokens-after (group_then name enter exit inside rest) k n ps l = grind (arith, tokens-after rest k n ps)

  module _ (link : Option Content) (c : Code) (cs : List Code) (b : Forest) where
    tokens-new : (k n : ℕ) (ps : List Pair) → n ≡ k →
        tokens_of s pairs_of (leaf_then Name.AttentionSequence link (c ∷ cs) b) (raised_pairs k ps) n
        ≡ tokens_of s pairs_of (leaf_then Name.Data None (c ∷ cs) b) ps n
    unfolding tokens_of
    tokens-new k n ps e = grind (arith, new-tokens, codes-run_of, tokens-after)

    tokens-neutral : (a : Forest) (k n : ℕ) (ps : List Pair) → n + length (runs_of s a) ≡ k →
        tokens_of s pairs_of (a ⊕ leaf_then Name.AttentionSequence link (c ∷ cs) b) (raised_pairs k ps) n
        ≡ tokens_of s pairs_of (a ⊕ leaf_then Name.Data None (c ∷ cs) b) ps n
    unfolding tokens_of runs_of
    tokens-neutral empty k n ps e = tokens-new k n ps (omega arith)
    tokens-neutral (leaf_then Name.AttentionSequence to ds rest) k n ps e = grind (arith, raised-below k n, raised-tokens k n ps (run_of s ds), tokens-neutral rest k (suc n) ps)
    tokens-neutral (leaf_then name to ds rest) k n ps e = grind (arith, tokens-neutral rest k n ps)
    tokens-neutral (group_then name enter exit inside rest) k n ps e = grind (arith, tokens-neutral rest k n ps)

-- The run of these codes may neither open nor close.
pub record IsNeutral (s : Setting) (cs : List Code) : Type 0 where
  pub may_not_open : (run_of s cs).may_open ≡ false
  pub may_not_close : (run_of s cs).may_close ≡ false

module _ (s : Setting) (a : Forest) (link : Option Content) (c : Code) (cs : List Code) (b : Forest) (h : IsNeutral s (c ∷ cs)) where
  -- a row with a run, and the same row with data in its place
  abbrev with_run : Forest
  with_run = a ⊕ leaf_then Name.AttentionSequence link (c ∷ cs) b

  abbrev with_data : Forest
  with_data = a ⊕ leaf_then Name.Data None (c ∷ cs) b

  neutral_row_pairs : pair_list s (runs_of s with_run) ≡ raised_pairs (length (runs_of s a)) (pair_list s (runs_of s with_data))
  unfolding runs_of
  neutral_row_pairs = grind (arith, runs-row, neutral_pair_list)

  pub neutral_is_data : paired s (pair_list s) with_run ≡ paired s (pair_list s) with_data
  unfolding paired
  neutral_is_data = grind (arith, neutral_row_pairs, tokens-neutral)

  pub neutral_row_count : length (pair_list s (runs_of s with_run)) ≡ length (pair_list s (runs_of s with_data))
  neutral_row_count = ap length neutral_row_pairs ∙ length-map (pair_list s (runs_of s with_data)) (raised_pair (length (runs_of s a)))

-- What stands inside a group.

pub runs-inside : (s : Setting) (name : Name) (enter exit : Point) (inside other rest a : Forest) →
    runs_of s (a ⊕ group_then name enter exit inside rest) ≡ runs_of s (a ⊕ group_then name enter exit other rest)
unfolding runs_of
runs-inside s name enter exit inside other rest a = grind (arith, runs-row)

module _ (s : Setting) (pairs_of : List Run → List Pair) (name : Name) (enter exit : Point) (inside other rest : Forest) (alike : paired s pairs_of inside ≡ paired s pairs_of other) where
  tokens-inside : (a : Forest) (ps : List Pair) (n : ℕ) →
      tokens_of s pairs_of (a ⊕ group_then name enter exit inside rest) ps n ≡ tokens_of s pairs_of (a ⊕ group_then name enter exit other rest) ps n
  unfolding tokens_of paired
  tokens-inside empty ps n = ap (λ x. item (group_then name enter exit x empty) ∷ tokens_of s pairs_of rest ps n) alike
  tokens-inside (leaf_then Name.AttentionSequence link cs more) ps n = grind (arith, tokens-inside more ps (suc n))
  tokens-inside (leaf_then one link cs more) ps n = grind (arith, tokens-inside more ps n)
  tokens-inside (group_then one from to within more) ps n = grind (arith, tokens-inside more ps n)

  pub paired-inside : (a : Forest) →
      paired s pairs_of (a ⊕ group_then name enter exit inside rest) ≡ paired s pairs_of (a ⊕ group_then name enter exit other rest)
  unfolding paired
  paired-inside a = grind (arith, runs-inside, tokens-inside)

-- Which runs these are.

shut_by : (here there u other : Bool) → there ≡ true → u ≡ true → other ≡ true →
    (here && (not u || (not other || not there))) ≡ false
shut_by here there u other e f g = grind (arith, and-false)

-- a character that stands in the content is read by all rules
kept : (on has : Bool) (x : Option ℕ) → has ≡ true → (if on && not has then None else x) ≡ x
kept on has x h = grind arith

-- an underscore between two characters of class other, as letters and digits are
pub intraword-neutral : (s : Setting) (c : Code) → IsIntraword (record { bytes = s.bytes; content = s.content }) c → c.stop.index ≡ c.start.index + 1 →
    IsNeutral s (c ∷ [])
unfolding run_of
intraword-neutral s c h e = grind (arith, shut_by, eq-eqb, kept)
