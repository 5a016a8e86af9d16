-- No data is empty behind the pairs either; so texts that differ only in how data is cut are merged to one tree.
use Rattle.std.proofs.Common.{◌≡◌, ◌≢◌, ℕ, true, Option, None, List, [], ◌∷◌, ◌++◌, map, arith}
use Rattle.markdown_content.specs.Codes.{Code}
use Rattle.markdown_content.specs.Tree.{Forest, empty, leaf_then, group_then, leaf, ◌⊕◌}
use Rattle.markdown_event.specs.declared.event.Content.{Content}
use Rattle.markdown_event.specs.declared.event.Name.{Name}
use Rattle.markdown_model.specs.BracketGroups.{item, opens, closes, onto, nest, after_loose, joined, loose, pair_group, Token, run_tokens, assembled, tokens_of, paired}
use Rattle.markdown_model.specs.Pairs.{Pair}
use Rattle.markdown_model.specs.Passes.{merged}
use Rattle.markdown_model.specs.Runs.{Run, runs_of}
use Rattle.markdown_model.specs.Setting.{Setting}
use Rattle.markdown_passes.specs.MergedEvents.{is_data}
use Rattle.markdown_run_text.specs.CutData.{split, HasCodes}
use Rattle.markdown_run_text.proofs.CutDataLemmas.{merged-same}
use Rattle.markdown_run_text.proofs.PairsOfCutData.{paired-same}

pub has-join : (t u : Forest) → HasCodes t → HasCodes u → HasCodes (t ⊕ u)
has-join empty u g h = h
has-join (leaf_then name link cs rest) u g h = (g.0, has-join rest u g.1 h)
has-join (group_then name a b inside rest) u g h = (g.0, has-join rest u g.1 h)

pub has-leaf : (name : Name) (cs : List Code) → HasCodes (leaf name cs)
has-leaf name cs = grind arith

abbrev AllHaveCodes : List Forest → Type 0
AllHaveCodes [] = Unit {0}
AllHaveCodes (t ∷ ts) = HasCodes t × AllHaveCodes ts

all-append : (a b : List Forest) → AllHaveCodes a → AllHaveCodes b → AllHaveCodes (a ++ b)
all-append [] b g h = h
all-append (t ∷ a) b g h = (g.0, all-append a b g.1 h)

has-joined : (ts : List Forest) → AllHaveCodes ts → HasCodes (joined ts)
has-joined [] h = tt
has-joined (t ∷ ts) h = has-join t (joined ts) h.0 (has-joined ts h.1)

abbrev CutsHaveCodes : List (List Code × List Forest) → Type 0
CutsHaveCodes [] = Unit {0}
CutsHaveCodes (c ∷ more) = AllHaveCodes c.1 × CutsHaveCodes more

abbrev WordHasCodes : List Token → Type 0
WordHasCodes [] = Unit {0}
WordHasCodes (item f ∷ w) = HasCodes f × WordHasCodes w
WordHasCodes (opens o ∷ w) = WordHasCodes w
WordHasCodes (closes c ∷ w) = WordHasCodes w

word-append : (a b : List Token) → WordHasCodes a → WordHasCodes b → WordHasCodes (a ++ b)
word-append [] b g h = h
word-append (item f ∷ a) b g h = (g.0, word-append a b g.1 h)
word-append (opens o ∷ a) b g h = word-append a b g h
word-append (closes c ∷ a) b g h = word-append a b g h

pair-has : (front : List Code) (inside : List Forest) (back : List Code) → AllHaveCodes inside →
    AllHaveCodes (pair_group front inside back)
pair-has front inside back h = grind (arith, has-join, has-leaf, has-joined)

onto-has : (o : List Code) (inside : List Forest) (more : List (List Code × List Forest)) → AllHaveCodes inside →
    CutsHaveCodes more →
    AllHaveCodes (onto pair_group loose loose o inside more).0 × CutsHaveCodes (onto pair_group loose loose o inside more).1
onto-has o inside more g h = grind (arith, has-leaf, all-append, pair-has)

nest-has : (w : List Token) → WordHasCodes w →
    AllHaveCodes (nest pair_group loose loose w).0 × CutsHaveCodes (nest pair_group loose loose w).1
nest-has [] h = (tt, tt)
nest-has (item f ∷ w) h = let r = nest-has w h.1 in ((h.0, r.0), r.1)
nest-has (closes c ∷ w) h = let r = nest-has w h in (tt, (r.0, r.1))
nest-has (opens o ∷ w) h = grind (arith, onto-has, nest-has w)

after-has : (more : List (List Code × List Forest)) → CutsHaveCodes more → AllHaveCodes (after_loose pair_group loose loose more)
after-has [] h = tt
after-has (c ∷ more) h = grind (arith, has-leaf, all-append, after-has more)

assembled-has : (w : List Token) → WordHasCodes w → HasCodes (assembled w)
assembled-has w h = grind (arith, nest-has, has-joined, all-append, after-has)

closes-has : (cs : List (List Code)) (w : List Token) → WordHasCodes w → WordHasCodes (map closes cs ++ w)
closes-has [] w h = h
closes-has (c ∷ cs) w h = closes-has cs w h

opens-has : (cs : List (List Code)) → WordHasCodes (map opens cs)
opens-has [] = tt
opens-has (c ∷ cs) = opens-has cs

run-has : (ps : List Pair) (n : ℕ) (r : Run) → WordHasCodes (run_tokens ps n r)
run-has ps n r = grind (arith, has-leaf, opens-has, closes-has)

module _ (s : Setting) (pairs_of : List Run → List Pair) where
  leaf-has : (name : Name) (link : Option Content) (cs : List Code) (rest : Forest) (ps : List Pair) (n : ℕ) →
      (is_data name ≡ true → link ≡ None → cs ≢ []) → ((m : ℕ) → WordHasCodes (tokens_of s pairs_of rest ps m)) →
      WordHasCodes (tokens_of s pairs_of (leaf_then name link cs rest) ps n)
  unfolding tokens_of
  leaf-has name link cs rest ps n g h = grind (arith, word-append, run-has)

  tokens-has : (t : Forest) (ps : List Pair) (n : ℕ) → HasCodes t → WordHasCodes (tokens_of s pairs_of t ps n)
  unfolding tokens_of
  tokens-has empty ps n h = tt
  tokens-has (leaf_then name link cs rest) ps n h = leaf-has name link cs rest ps n h.0 (λ m. tokens-has rest ps m h.1)
  tokens-has (group_then name a b inside rest) ps n h = grind (arith, assembled-has, tokens-has inside (pairs_of (runs_of s inside)) 0, tokens-has rest ps n)

  pub paired-has : (t : Forest) → HasCodes t → HasCodes (paired s pairs_of t)
  unfolding paired
  paired-has t h = grind (arith, assembled-has, tokens-has)

  -- texts whose trees of labels differ only in how data is cut come to one merged tree
  pub merged-paired : (t u : Forest) → HasCodes t → HasCodes u → split t ≡ split u →
      merged (paired s pairs_of t) ≡ merged (paired s pairs_of u)
  merged-paired t u g h e = grind (arith, merged-same, paired-has, paired-same)
