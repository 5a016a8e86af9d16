-- The places of a tree with its pairs grouped: wherever those of the tree go on, so do these.
use Rattle.std.proofs.Common.{◌≡◌, ◌≢◌, ℕ, suc, List, [], ◌∷◌, ◌++◌, length, refl, sym, ap, subst, ◌∙◌, append_assoc, append-nil, inl, inr, arith}
use Rattle.markdown_content.specs.Codes.{Code, place_of, stop_of}
use Rattle.markdown_content.specs.Tree.{Forest, empty, leaf_then, group_then, leaf, group, text_group, ◌⊕◌, enter_of, exit_after}
use Rattle.markdown_event.specs.declared.event.Name.{Name}
use Rattle.markdown_attention.specs.TokenWord.{Matches, AreItems, IsFlat, IsPairable}
use Rattle.markdown_model.specs.BracketGroups.{item, opens, closes, nest, nested, onto, after_loose, joined, loose, pair_names, pair_group, Token, assembled, run_tokens, tokens_of, paired}
use Rattle.markdown_model.specs.Pairs.{Pair}
use Rattle.markdown_model.specs.Runs.{Run, marker_of, run_of, runs_of}
use Rattle.markdown_model.specs.Setting.{Setting}
use Rattle.markdown_model.proofs.PassesKeepCodes.{codes-run_of}
use Rattle.markdown_model.proofs.BracketSums.{Adds, sum_of, sum-joined, sum-append}
use Rattle.markdown_model.proofs.PairSums.{token_sum, token-append, sum-run}
use Rattle.markdown_model_laws.proofs.AfterLabelTrees.{IsSome}
use Rattle.markdown_model_laws.proofs.PlacesInOrder.{BytePlace, last_of, Allows, allows-itself, allows-then, allows-join, allows-behind}
use Rattle.markdown_model_laws.proofs.TreePlaces.{ends_of, ends-join, ends-last, places_of, places-join, places-leaf, places-around, places-between, EndsAtPoint, begins-leaf}

-- Lists of trees.

abbrev places_add : Adds (List BytePlace)
places_add = record {
  none = [];
  plus = ◌++◌;
  of = places_of;
  assoc = append_assoc;
  left = λ a. refl;
  right = append-nil;
  nothing = refl;
  row = places-join;
}

abbrev all_places : List Forest → List BytePlace
all_places fs = sum_of places_add fs

-- Bracket words.

abbrev word_places : List Token → List BytePlace
word_places w = token_sum places_add ends_of (places-leaf Name.Data) w

-- each bracket has a marker
abbrev AreSomeBrackets : List Token → Type 0
AreSomeBrackets [] = Unit {0}
AreSomeBrackets (item f ∷ w) = AreSomeBrackets w
AreSomeBrackets (opens o ∷ w) = IsSome o × AreSomeBrackets w
AreSomeBrackets (closes c ∷ w) = IsSome c × AreSomeBrackets w

is-some : (cs : List Code) → cs ≢ [] → IsSome cs
is-some [] h = absurd (h refl)
is-some (c ∷ cs) h = refl

matches-some : (keys : List (ℕ × ℕ)) (w : List Token) → Matches keys w → AreSomeBrackets w
matches-some keys [] m = tt
matches-some keys (item f ∷ w) m = matches-some keys w m.1
matches-some keys (opens o ∷ w) m = (is-some o m.0, matches-some _ w m.1)
matches-some [] (closes c ∷ w) m = absurd m
matches-some (key ∷ keys) (closes c ∷ w) m = (is-some c m.0, matches-some keys w m.1.1)

items-some : (w : List Token) → AreItems w → AreSomeBrackets w
items-some (item f ∷ w) m = items-some w m
items-some w m = grind arith

flat-some : (w : List Token) → IsFlat w → AreSomeBrackets w
flat-some w (inl m) = matches-some [] w m
flat-some w (inr m) = items-some w m

-- Groups of pairs.

marker-ends : (name : Name) (c : Code) (cs : List Code) → EndsAtPoint (leaf name (c ∷ cs)) (stop_of c.stop cs)
marker-ends name c cs = record {
  first = place_of c.start;
  more = place_of c.stop ∷ (ends_of cs ++ []);
  places = refl;
  last = ap (last_of (place_of c.stop)) (append-nil (ends_of cs)) ∙ ends-last c.stop cs;
}

pair-allows : (front : List Code) (inside : List Forest) (back : List Code) → IsSome front → IsSome back →
    Allows (ends_of front ++ (all_places inside ++ ends_of back)) (all_places (pair_group front inside back))
pair-allows (c ∷ cs) inside (d ∷ ds) h k =
    allows-then (ends_of (c ∷ cs) ++ (all_places inside ++ ends_of (d ∷ ds))) (places_of row) (all_places (pair_group (c ∷ cs) inside (d ∷ ds)))
    (subst (λ x. Allows x (places_of row)) parts (places-between names.2 (leaf names.1 (c ∷ cs)) (stop_of c.stop cs) d.start (joined inside) (leaf names.1 (d ∷ ds)) (marker-ends names.1 c cs) (begins-leaf names.1 d ds empty) refl))
    (subst (Allows (places_of row)) (sym (append-nil (places_of (group names.0 row)))) (places-around row (enter_of row) (exit_after (enter_of row) row) (begins-leaf names.1 c cs (text ⊕ leaf names.1 (d ∷ ds))) refl refl))
  where
    names : Name × Name × Name
    names = pair_names (marker_of (c ∷ cs)) (length (c ∷ cs))

    text : Forest
    text = text_group names.2 (stop_of c.stop cs) d.start (joined inside)

    row : Forest
    row = leaf names.1 (c ∷ cs) ⊕ text ⊕ leaf names.1 (d ∷ ds)

    parts : places_of (leaf names.1 (c ∷ cs)) ++ (places_of (joined inside) ++ places_of (leaf names.1 (d ∷ ds))) ≡ ends_of (c ∷ cs) ++ (all_places inside ++ ends_of (d ∷ ds))
    parts = λ i. places-leaf names.1 (c ∷ cs) i ++ (sum-joined places_add inside i ++ places-leaf names.1 (d ∷ ds) i)
pair-allows front inside back h k = cc

-- Nesting.

abbrev PlaceFrames : Type 0
PlaceFrames = List (List Code × List Forest)

abbrev frame_places : PlaceFrames → List BytePlace
frame_places [] = []
frame_places (f ∷ fs) = ends_of f.0 ++ (all_places f.1 ++ frame_places fs)

abbrev AreFilledFrames : PlaceFrames → Type 0
AreFilledFrames [] = Unit {0}
AreFilledFrames (f ∷ fs) = IsSome f.0 × AreFilledFrames fs

abbrev nest_pairs : List Token → List Forest × PlaceFrames
nest_pairs w = nest pair_group loose loose w

abbrev nest_places : List Forest × PlaceFrames → List BytePlace
nest_places r = all_places r.0 ++ frame_places r.1

onto-allows : (o : List Code) (inside : List Forest) (more : PlaceFrames) (source : List BytePlace) → IsSome o → AreFilledFrames more → Allows source (all_places inside ++ frame_places more)
    → let r : List Forest × PlaceFrames = onto pair_group loose loose o inside more in
    Allows (ends_of o ++ source) (nest_places r) × AreFilledFrames r.1
onto-allows o inside [] source h k g = grind (arith, places-leaf, append_assoc, allows-behind)
onto-allows o inside (c ∷ more) source h k g = (
  allows-then (ends_of o ++ source) (ends_of o ++ (all_places inside ++ (ends_of c.0 ++ rest))) (all_places (pair_group o inside c.0 ++ c.1) ++ frame_places more)
      (allows-behind (ends_of o) source (all_places inside ++ (ends_of c.0 ++ rest)) g)
      (subst (λ x. Allows x (all_places (pair_group o inside c.0 ++ c.1) ++ frame_places more)) regroup
      (subst (Allows ((ends_of o ++ (all_places inside ++ ends_of c.0)) ++ rest)) joins
      (allows-join (ends_of o ++ (all_places inside ++ ends_of c.0)) (all_places (pair_group o inside c.0)) rest rest (pair-allows o inside c.0 h k.0) (allows-itself rest)))),
  k.1,
)
  where
    rest : List BytePlace
    rest = all_places c.1 ++ frame_places more

    regroup : (ends_of o ++ (all_places inside ++ ends_of c.0)) ++ rest ≡ ends_of o ++ (all_places inside ++ (ends_of c.0 ++ rest))
    regroup = append_assoc (ends_of o) (all_places inside ++ ends_of c.0) rest ∙ ap (λ x. ends_of o ++ x) (append_assoc (all_places inside) (ends_of c.0) rest)

    joins : all_places (pair_group o inside c.0) ++ rest ≡ all_places (pair_group o inside c.0 ++ c.1) ++ frame_places more
    joins = sym (append_assoc (all_places (pair_group o inside c.0)) (all_places c.1) (frame_places more)) ∙ ap (λ x. x ++ frame_places more) (sym (sum-append places_add (pair_group o inside c.0) c.1))

nest-allows : (w : List Token) → AreSomeBrackets w →
    Allows (word_places w) (nest_places (nest_pairs w)) × AreFilledFrames (nest_pairs w).1
nest-allows [] h = (allows-itself [], tt)
nest-allows (item f ∷ w) h = grind (arith, nest-allows w h, append_assoc, allows-behind)
nest-allows (closes c ∷ w) h = grind (arith, nest-allows w h.1, allows-behind)
nest-allows (opens o ∷ w) h =
    let r = nest-allows w h.1 in onto-allows o (nest_pairs w).0 (nest_pairs w).1 (word_places w) h.0 r.1 r.0

after-places : (fs : PlaceFrames) → all_places (after_loose pair_group loose loose fs) ≡ frame_places fs
after-places [] = refl
after-places (f ∷ fs) =
    sum-append places_add (loose f.0 ++ f.1) (after_loose pair_group loose loose fs)
    ∙ (λ i. (places-leaf Name.Data f.0 i ++ all_places f.1) ++ after-places fs i)
    ∙ append_assoc (ends_of f.0) (all_places f.1) (frame_places fs)

assembled-allows : (w : List Token) → AreSomeBrackets w → Allows (word_places w) (places_of (assembled w))
assembled-allows w h = grind (arith, sum-joined places_add (nested pair_group loose loose w), sum-append, after-places, nest-allows w h)

-- Trees.

module _ (s : Setting) (pairs_of : List Run → List Pair) where
  tokens-allow : (t : Forest) (pairs : List Pair) (n : ℕ) → IsPairable s pairs_of t →
      Allows (places_of t) (word_places (tokens_of s pairs_of t pairs n))
  unfolding tokens_of
  tokens-allow empty pairs n r = allows-itself []
  tokens-allow (leaf_then Name.AttentionSequence link cs rest) pairs n r =
      subst (Allows (ends_of cs ++ places_of rest)) (sym (token-append places_add ends_of (places-leaf Name.Data) (run_tokens pairs n (run_of s cs)) (tokens_of s pairs_of rest pairs (suc n)) ∙ ap (λ x. x ++ word_places (tokens_of s pairs_of rest pairs (suc n))) (sum-run places_add ends_of (places-leaf Name.Data) refl ends-join pairs n (run_of s cs) ∙ ap ends_of (codes-run_of s cs))))
      (allows-behind (ends_of cs) (places_of rest) (word_places (tokens_of s pairs_of rest pairs (suc n))) (tokens-allow rest pairs (suc n) r.1))
  tokens-allow (leaf_then name link cs rest) pairs n r = grind (arith, append-nil, allows-behind, tokens-allow rest pairs n r.1)
  tokens-allow (group_then name enter exit inside rest) pairs n r =
      subst (λ x. Allows (place_of enter ∷ (places_of inside ++ (place_of exit ∷ places_of rest))) (place_of enter ∷ x)) (sym (append_assoc (places_of (assembled word)) (place_of exit ∷ []) tail))
      (allows-behind (place_of enter ∷ []) (places_of inside ++ (place_of exit ∷ places_of rest)) (places_of (assembled word) ++ (place_of exit ∷ tail))
      (allows-join (places_of inside) (places_of (assembled word)) (place_of exit ∷ places_of rest) (place_of exit ∷ tail)
      (allows-then (places_of inside) (word_places word) (places_of (assembled word)) (tokens-allow inside (pairs_of (runs_of s inside)) 0 r.1.0) (assembled-allows word (flat-some word r.0.1)))
      (allows-behind (place_of exit ∷ []) (places_of rest) tail (tokens-allow rest pairs n r.1.1))))
    where
      word : List Token
      word = tokens_of s pairs_of inside (pairs_of (runs_of s inside)) 0

      tail : List BytePlace
      tail = word_places (tokens_of s pairs_of rest pairs n)

  pub paired-allows : (t : Forest) → IsFlat (tokens_of s pairs_of t (pairs_of (runs_of s t)) 0) → IsPairable s pairs_of t →
      Allows (places_of t) (places_of (paired s pairs_of t))
  unfolding paired
  paired-allows t m r =
      allows-then (places_of t) (word_places (tokens_of s pairs_of t (pairs_of (runs_of s t)) 0)) (places_of (assembled (tokens_of s pairs_of t (pairs_of (runs_of s t)) 0)))
      (tokens-allow t (pairs_of (runs_of s t)) 0 r) (assembled-allows (tokens_of s pairs_of t (pairs_of (runs_of s t)) 0) (flat-some (tokens_of s pairs_of t (pairs_of (runs_of s t)) 0) m))
