-- The sides of each pair's group are markers of the pair's two runs, and something stands between them: the markers that pairs take nest, each
-- closes the pair that it belongs to, and runs of one marker are no neighbours.
use Rattle.std.proofs.Common.{◌≡◌, ℕ, suc, ◌+◌, ◌-◌, ◌<◌, ◌≤◌, nat_lt, nat_le, ◌==◌, Bool, true, false, ◌&&◌, ◌||◌, List, [], ◌∷◌, ◌++◌, length, take, drop, reverse, map, sum_by, if◌then◌else◌, refl, sym, ap, subst, ◌∙◌, arith, append_assoc, append-nil, rules}
use Rattle.std.specs.List.{list_any, list_all, Contains}
use Rattle.std.proofs.lemmas.Bool.{both_ways, and_parts, eqb-true, eq-eqb}
use Rattle.std.proofs.lemmas.Bool.Decides.{nat_tests}
use Rattle.std.proofs.lemmas.List.{reverse-append, reverse-reverse, length-drop, length-take-le, take-append-drop}
use Rattle.std.proofs.lemmas.List.Elements.{Contains-append_left, Contains-append_right}
use Rattle.std.proofs.lemmas.List.Folds.{list_all-append}
use Rattle.std.proofs.lemmas.List.Sums.{sum_by-append, sum_by-cons}
use Rattle.markdown_model.proofs.GivenNames.{pair-named}
use Rattle.markdown_event.specs.declared.event.Name.{Name}
use Rattle.markdown_content.specs.Codes.{Code}
use Rattle.markdown_content.specs.Tree.{Forest, empty, leaf_then, group_then, leaf, ◌⊕◌, leaf_codes}
use Rattle.markdown_model.specs.CodeTests.{is_value}
use Rattle.markdown_model.specs.Setting.{Setting, within}
use Rattle.markdown_model.specs.Runs.{Run, runs_of, run_of, marker_of, rows_inside, rows_of, containers_of}
use Rattle.markdown_model.specs.Pairs.{Pair, run_at, taken_by, is_strictly_within, pair_list, ArePairsFrom}
use Rattle.markdown_model.specs.BracketGroups.{Token, item, opens, closes, nest, onto, after_loose, joined, loose, pair_names, pair_group, closing_sizes, opening_sizes, cut_front, run_tokens, assembled, tokens_of, paired}
use Rattle.markdown_model.specs.Passes.{is_nothing}
use Rattle.markdown_model.proofs.PassesKeepCodes.{codes-run_of}
use Rattle.markdown_model.proofs.PairListFacts.{pairs_are_sound, within_push}
use Rattle.markdown_model.proofs.OnePairList.{some_pair_list}
use Rattle.markdown_model.proofs.PassedTrees.{HoldsByParts, walks-row}
use Rattle.markdown_model.proofs.BracketGroupFacts.{AllHave, all-append, joined-has}
use Rattle.markdown_model_laws.specs.TreesFilled.{IsFilled}
use Rattle.markdown_model_laws.specs.PairGroups.{is_pair, is_sequence, pair_groups, HasSides, EachPairHas, IsPartOf, AreOfPair}
use Rattle.markdown_model_laws.proofs.FilledTrees.{filled-leaf, filled-join, nothing-assembled}
use Rattle.markdown_model_laws.proofs.LabelTreeRuns.{IsMarkerStripe, HasApartRuns}

-- Rows in which this is said of the sides of each pair, and nothing is empty but texts of labels.

record AreSideNames (names : Name × Name × Name) : Type 0 where
  text : is_pair names.2 ≡ false
  sequence : is_sequence names.1 ≡ true

named : (marker size : ℕ) → AreSideNames (pair_names marker size)
named = pair-named AreSideNames (record { text = refl; sequence = refl }) (record { text = refl; sequence = refl }) (record { text = refl; sequence = refl })

module _ (P : List Code → List Code → Type 0) where
  abbrev IsRight : Forest → Type 0
  IsRight f = EachPairHas P f × IsFilled f

  right-leaf : (name : Name) (cs : List Code) → IsRight (leaf name cs)
  right-leaf name [] = (tt, tt)
  right-leaf name (c ∷ cs) = (tt, filled-leaf name (c ∷ cs))

  pub pairs : HoldsByParts (EachPairHas P) (λ name link cs. Unit {0}) (λ name a b inside. is_pair name ≡ true → HasSides P inside)
  pairs = grind arith

  pub pairs-join : (a b : Forest) → EachPairHas P a → EachPairHas P b → EachPairHas P (a ⊕ b)
  pairs-join a b h k = walks-row pairs a b h k

  abbrev AllRight : List Forest → Type 0
  AllRight fs = AllHave IsRight fs

  right-joined : (fs : List Forest) → AllRight fs → IsRight (joined fs)
  right-joined fs h = joined-has IsRight (tt, tt) (λ a b x y. (pairs-join a b x.0 y.0, filled-join a b x.1 y.1)) fs h

  right-group : (front : List Code) (inside : List Forest) (back : List Code) → 0 < length front → 0 < length back → P front back → is_nothing (joined inside) ≡ false → AllRight inside
      → AllRight (pair_group front inside back)
  right-group front inside back h0 h1 h2 h3 h4 = grind (arith, named, right-joined, both_ways)

-- Codes among others.

-- the codes that a pair takes of a run
record IsSide (whole : List Code) (p : Pair) (cs : List Code) : Type 0 where
  size : length cs ≡ p.size
  some : 0 < p.size
  part : IsPartOf cs whole
  marker : marker_of cs ≡ marker_of whole

part-marker : (m : ℕ) (before part after : List Code) → list_all (is_value m) (before ++ (part ++ after)) ≡ true →
    0 < length part → marker_of part ≡ m
part-marker m before part after h0 h1 = grind (arith, and_parts, list_all-append, eqb-true)

-- Lists of pairs.

abbrev AllOf : (Pair → Type 0) → List Pair → Type 0
AllOf R [] = Unit {0}
AllOf R (p ∷ ps) = R p × AllOf R ps

abbrev sizes_of : List Pair → List ℕ
sizes_of ps = map (λ p. p.size) ps

abbrev total : List ℕ → ℕ
total ns = sum_by (λ n. n) ns

-- the codes that these pairs take, each of what the function says
abbrev AreSides : (Pair → List Code) → List (List Code) → List Pair → Type 0
AreSides of [] [] = Unit {0}
AreSides of [] (p ∷ ps) = ⊥
AreSides of (c ∷ cs) [] = ⊥
AreSides of (c ∷ cs) (p ∷ ps) = IsSide (of p) p c × AreSides of cs ps

-- a run is cut into as many markers as are asked for, where it has them
module _ (whole : List Code) (stripe : IsMarkerStripe (marker_of whole) whole) (of : Pair → List Code) where
  cut-sides : (ps : List Pair) (before cs after : List Code) → whole ≡ before ++ (cs ++ after) → AllOf (λ p. (0 < p.size) × (of p ≡ whole)) ps → total (sizes_of ps) ≤ length cs
      → AreSides of (cut_front (sizes_of ps) cs).0 ps
  cut-sides [] before cs after e h k = tt
  cut-sides (p ∷ ps) before cs after e h k = (
    record {
      size = here;
      some = h.0.0;
      part = (before, drop p.size cs ++ after, h.0.1 ∙ parts);
      marker = part-marker (marker_of whole) before (take p.size cs) (drop p.size cs ++ after) (subst (λ x. list_all (is_value (marker_of whole)) x ≡ true) parts stripe.all) (omega (arith, here, h.0.0)) ∙ ap marker_of (sym h.0.1);
    },
    cut-sides ps (before ++ take p.size cs) (drop p.size cs) after (parts ∙ sym (append_assoc before (take p.size cs) (drop p.size cs ++ after))) h.1 (omega (arith, k, counted, length-drop p.size cs)),
  )
    where
      counted : total (p.size ∷ sizes_of ps) ≡ p.size + total (sizes_of ps)
      counted = sum_by-cons (λ n. n) p.size (sizes_of ps)

      here : length (take p.size cs) ≡ p.size
      here = length-take-le p.size cs (omega (arith, k, counted))

      parts : whole ≡ before ++ (take p.size cs ++ (drop p.size cs ++ after))
      parts = e ∙ ap (λ x. before ++ x) (ap (λ x. x ++ after) (sym (take-append-drop p.size cs)) ∙ append_assoc (take p.size cs) (drop p.size cs) after)

-- a list ends with what such a cut leaves
cut-behind : (ns : List ℕ) (cs : List Code) → (before : List Code) × (cs ≡ before ++ (cut_front ns cs).1)
cut-behind [] cs = ([], refl)
cut-behind (n ∷ ns) cs =
    let r = cut-behind ns (drop n cs) in
    (take n cs ++ r.0, sym (take-append-drop n cs) ∙ ap (λ x. take n cs ++ x) r.1 ∙ sym (append_assoc (take n cs) r.0 (cut_front ns (drop n cs)).1))

no-sides : (of : Pair → List Code) (ps : List Pair) → AreSides of [] ps → ps ≡ []
no-sides of [] h = refl
no-sides of (p ∷ ps) h = absurd h

cut-rest : (ns : List ℕ) (cs : List Code) → length (cut_front ns cs).1 ≡ length cs - total ns
cut-rest [] cs = omega arith
cut-rest (n ∷ ns) cs = omega (arith, cut-rest ns (drop n cs), length-drop n cs, sum_by-cons (λ m. m) n ns)

total-reverse : (ns : List ℕ) → total (reverse ns) ≡ total ns
total-reverse [] = refl
total-reverse (n ∷ ns) =
    ap total (reverse-append (n ∷ []) ns) ∙ omega (arith, sum_by-append (λ m. m) (reverse ns) (n ∷ []), total-reverse ns, sum_by-cons (λ m. m) n ns, sum_by-cons (λ m. m) n [])

-- The pairs that a run closes and opens, and those that are pending.

abbrev if_so : Bool → Pair → List Pair → List Pair
if_so b p ps = if b then p ∷ ps else ps

abbrev closing : ℕ → List Pair → List Pair
closing i [] = []
closing i (p ∷ ps) = if_so (p.closer == i) p (closing i ps)

abbrev opening : ℕ → List Pair → List Pair
opening i [] = []
opening i (p ∷ ps) = if_so (p.opener == i) p (opening i ps)

closing-is : (i : ℕ) (ps : List Pair) → closing_sizes i ps ≡ sizes_of (closing i ps)
closing-is i [] = refl
closing-is i (p ∷ ps) = grind (arith, closing-is i ps)

opening-is : (i : ℕ) (ps : List Pair) → opening_sizes i ps ≡ sizes_of (opening i ps)
opening-is i [] = refl
opening-is i (p ∷ ps) = grind (arith, opening-is i ps)

all-closing : (R : Pair → Type 0) (i : ℕ) (ps : List Pair) → AllOf R ps →
    AllOf (λ p. R p × (p.closer ≡ i)) (closing i ps)
all-closing R i [] h = tt
all-closing R i (p ∷ ps) h = grind (arith, all-closing R i ps h.1, eqb-true)

all-opening : (R : Pair → Type 0) (i : ℕ) (ps : List Pair) → AllOf R ps →
    AllOf (λ p. R p × (p.opener ≡ i)) (opening i ps)
all-opening R i [] h = tt
all-opening R i (p ∷ ps) h = grind (arith, all-opening R i ps h.1, eqb-true)

all-as : (R T : Pair → Type 0) → ((p : Pair) → R p → T p) → (ps : List Pair) → AllOf R ps → AllOf T ps
all-as R T f [] h = tt
all-as R T f (p ∷ ps) h = (f p h.0, all-as R T f ps h.1)

pairs-append : (R : Pair → Type 0) (ps qs : List Pair) → AllOf R ps → AllOf R qs → AllOf R (ps ++ qs)
pairs-append R [] qs h k = k
pairs-append R (p ∷ ps) qs h k = (h.0, pairs-append R ps qs h.1 k)

all-reverse : (R : Pair → Type 0) (ps : List Pair) → AllOf R ps → AllOf R (reverse ps)
all-reverse R [] h = tt
all-reverse R (p ∷ ps) h =
    subst (AllOf R) (sym (reverse-append (p ∷ []) ps)) (pairs-append R (reverse ps) (p ∷ []) (all-reverse R ps h.1) (h.0, tt))

sizes-append : (ps qs : List Pair) → sizes_of (ps ++ qs) ≡ sizes_of ps ++ sizes_of qs
sizes-append [] qs = refl
sizes-append (p ∷ ps) qs = ap (λ ns. p.size ∷ ns) (sizes-append ps qs)

sizes-reverse : (ps : List Pair) → reverse (sizes_of ps) ≡ sizes_of (reverse ps)
sizes-reverse [] = refl
sizes-reverse (p ∷ ps) = grind (arith, reverse-append (p.size ∷ []) (sizes_of ps), sizes-reverse ps, sizes-append (reverse ps) (p ∷ []), reverse-append (p ∷ []) ps)

reversed-onto : (x : Pair) (xs ys : List Pair) → reverse (x ∷ xs) ++ ys ≡ reverse xs ++ x ∷ ys
reversed-onto x xs ys = ap (λ z. z ++ ys) (reverse-append (x ∷ []) xs) ∙ append_assoc (reverse xs) (x ∷ []) ys

-- Pairs in the order of their list.

-- a later pair does not close before this one, and opens nowhere within it
abbrev AreLater : Pair → List Pair → Type 0
AreLater p [] = Unit {0}
AreLater p (q ∷ qs) = (p.closer ≤ q.closer) × (is_strictly_within q.opener p ≡ false) × AreLater p qs

abbrev AreOrderedPairs : ℕ → List Pair → Type 0
AreOrderedPairs n [] = Unit {0}
AreOrderedPairs n (p ∷ ps) = (0 < p.size) × (p.opener < p.closer) × (p.closer < n) × AreLater p ps × AreOrderedPairs n ps

module _ (s : Setting) (runs : List Run) (end : ℕ) where
  later : (p : Pair) (earlier : List Pair) (last : ℕ) (ps : List Pair) → p.closer ≤ last → ((i : ℕ) → list_any (is_strictly_within i) earlier ≡ false → is_strictly_within i p ≡ false)
      → ArePairsFrom s runs end earlier last ps → AreLater p ps
  later p earlier last [] l among h = tt
  later p earlier last (q ∷ qs) l among h =
      let forward = h.0.forward in
      (omega arith, among q.opener h.0.eligible.not_within, later p (earlier ++ q ∷ []) q.closer qs (omega arith) (λ i e. among i (within_push earlier q i e).0) h.1)

  ordered : (earlier : List Pair) (last : ℕ) (ps : List Pair) → ArePairsFrom s runs end earlier last ps →
      AreOrderedPairs (length runs) ps
  ordered earlier last [] h = tt
  ordered earlier last (p ∷ ps) h = grind (arith, later, within_push, ordered (earlier ++ p ∷ []) p.closer ps h.1)

  abbrev HasOneMarker : Pair → Type 0
  HasOneMarker p = marker_of (run_at runs p.opener).codes ≡ marker_of (run_at runs p.closer).codes

  one-marker : (earlier : List Pair) (last : ℕ) (ps : List Pair) → ArePairsFrom s runs end earlier last ps →
      AllOf HasOneMarker ps
  one-marker earlier last [] h = tt
  one-marker earlier last (p ∷ ps) h = (h.0.eligible.one_marker, one-marker (earlier ++ p ∷ []) p.closer ps h.1)

all-listed : (whole front ps : List Pair) → whole ≡ front ++ ps → AllOf (Contains whole) ps
all-listed whole front [] h = tt
all-listed whole front (p ∷ ps) h =
    (subst (λ x. Contains x p) (sym h) (Contains-append_right front (p ∷ ps) p (0, omega arith, refl)), all-listed whole (front ++ p ∷ []) ps (h ∙ sym (append_assoc front (p ∷ []) ps)))

all-both : (R T : Pair → Type 0) (ps : List Pair) → AllOf R ps → AllOf T ps → AllOf (λ p. R p × T p) ps
all-both R T [] h k = tt
all-both R T (p ∷ ps) h k = ((h.0, k.0), all-both R T ps h.1 k.1)

all-sized : (n : ℕ) (ps : List Pair) → AreOrderedPairs n ps → AllOf (λ p. 0 < p.size) ps
all-sized n [] h = tt
all-sized n (p ∷ ps) h = (h.0, all-sized n ps h.4)

-- the pairs that are pending before run n, and those that are pending before and behind it
abbrev open_pairs : ℕ → List Pair → List Pair
open_pairs n [] = []
open_pairs n (p ∷ ps) = if_so (nat_lt p.opener n && nat_le n p.closer) p (open_pairs n ps)

abbrev across : ℕ → List Pair → List Pair
across n [] = []
across n (p ∷ ps) = if_so (nat_lt p.opener n && nat_le (suc n) p.closer) p (across n ps)

no-closing : (n : ℕ) (p : Pair) (ps : List Pair) → AreLater p ps → n < p.closer → closing n ps ≡ []
no-closing n p [] h l = refl
no-closing n p (q ∷ qs) h l = λ i. if_so (other q.closer n (omega (arith, h.0)) i) q (no-closing n p qs h.2 l i)
  where
    other : (c m : ℕ) → m < c → c == m ≡ false
    other c m k = grind (arith, nat_tests)

no-opening : (n : ℕ) (p : Pair) (ps : List Pair) → AreLater p ps → p.opener < n → n < p.closer → opening n ps ≡ []
no-opening n p [] h l m = refl
no-opening n p (q ∷ qs) h l m = λ i. if_so (other p.opener p.closer q.opener n l m h.1 i) q (no-opening n p qs h.2 l m i)
  where
    other : (o c x m : ℕ) → o < m → m < c → (nat_lt o x && nat_lt x c) ≡ false → x == m ≡ false
    other o c x m a b k = grind (arith, nat_tests)

-- one more pair on two of three lists, or on none
split-step : (a b c : Bool) (p : Pair) (xs ys zs : List Pair) → xs ≡ ys ++ zs → (b ≡ true → (a ≡ true) × (c ≡ false)) → (b ≡ false → a ≡ c) → (c ≡ true → ys ≡ [])
    → if_so a p xs ≡ if_so b p ys ++ if_so c p zs
split-step a b c p xs ys zs h0 h1 h2 h3 = grind (arith, both_ways)

close-split : (n m : ℕ) (ps : List Pair) → AreOrderedPairs m ps → open_pairs n ps ≡ closing n ps ++ across n ps
close-split n m [] h = refl
close-split n m (p ∷ ps) h = grind (arith, split-step, close-split n m ps h.4, no-closing, nat_tests)

open-split : (n m : ℕ) (ps : List Pair) → AreOrderedPairs m ps → open_pairs (suc n) ps ≡ opening n ps ++ across n ps
open-split n m [] h = refl
open-split n m (p ∷ ps) h = grind (arith, split-step, open-split n m ps h.4, no-opening, nat_tests)

none-open : (ps : List Pair) → open_pairs 0 ps ≡ []
none-open [] = refl
none-open (p ∷ ps) = λ i. if_so (shut p.opener p.closer i) p (none-open ps i)
  where
    shut : (o c : ℕ) → (nat_lt o 0 && nat_le 0 c) ≡ false
    shut o c = grind (arith, nat_tests)

none-left : (n : ℕ) (ps : List Pair) → AreOrderedPairs n ps → open_pairs n ps ≡ []
none-left n [] h = refl
none-left n (p ∷ ps) h = λ i. if_so (past p.opener p.closer h.2 i) p (none-left n ps h.4 i)
  where
    past : (o c : ℕ) → c < n → (nat_lt o n && nat_le n c) ≡ false
    past o c l = grind (arith, nat_tests)

-- what pairs take of a run as its closer and as its opener is what they take of it
taken-sizes : (n m : ℕ) (ps : List Pair) → AreOrderedPairs m ps →
    total (sizes_of (closing n ps)) + total (sizes_of (opening n ps)) ≤ sum_by (taken_by n) ps
taken-sizes n m [] h = omega arith
taken-sizes n m (p ∷ ps) h =
    omega (arith, first (p.closer == n) (closing n ps), first (p.opener == n) (opening n ps), one p.opener p.closer p.size h.1, taken-sizes n m ps h.4, sum_by-cons (taken_by n) p ps)
  where
    first : (b : Bool) (qs : List Pair) →
        total (sizes_of (if_so b p qs)) ≡ (if b then p.size else 0) + total (sizes_of qs)
    first true qs = sum_by-cons (λ k. k) p.size (sizes_of qs)
    first false qs = omega arith

    one : (o c k : ℕ) → o < c →
        (if c == n then k else 0) + (if o == n then k else 0) ≤ (if o == n || c == n then k else 0)
    one o c k l = grind (arith, nat_tests)

-- Bracket words.

-- what closes before anything else does not have this marker
abbrev NextIsNot : ℕ → List Token → Type 0
NextIsNot m [] = Unit {0}
NextIsNot m (item empty ∷ w) = NextIsNot m w
NextIsNot m (item f ∷ w) = Unit {0}
NextIsNot m (opens o ∷ w) = Unit {0}
NextIsNot m (closes c ∷ w) = (marker_of c == m) ≡ false

abbrev SideFrames : Type 0
SideFrames = List (List Code × List Forest)

abbrev nest_pairs : List Token → List Forest × SideFrames
nest_pairs w = nest pair_group loose loose w

abbrev FirstIsNot : ℕ → SideFrames → Type 0
FirstIsNot m [] = Unit {0}
FirstIsNot m (f ∷ fs) = (marker_of f.0 == m) ≡ false

first-onto : (m : ℕ) (o : List Code) (inside : List Forest) (more : SideFrames) →
    let r : List Forest × SideFrames = onto pair_group loose loose o inside more in
    is_nothing (joined r.0) ≡ true → FirstIsNot m r.1
first-onto m o inside [] h = tt
first-onto m o inside (c ∷ more) h = cc

next-nest : (m : ℕ) (w : List Token) → NextIsNot m w → is_nothing (joined (nest_pairs w).0) ≡ true →
    FirstIsNot m (nest_pairs w).1
next-nest m (item empty ∷ w) h k = next-nest m w h k
next-nest m w h k = grind (arith, first-onto)

next-opens : (n : ℕ) (os : List (List Code)) (w : List Token) → NextIsNot n w → NextIsNot n (map opens os ++ w)
next-opens n [] w h = h
next-opens n (o ∷ os) w h = tt

-- The pairs of one container.
module _ (s : Setting) (tree : Forest) (runs : List Run) (container : Contains (containers_of s tree) runs) where
  abbrev P : List Code → List Code → Type 0
  P front back = AreOfPair s tree front back

  abbrev opened : Pair → List Code
  opened p = (run_at runs p.opener).codes

  abbrev closed : Pair → List Code
  closed p = (run_at runs p.closer).codes

  abbrev Q : Pair → Type 0
  Q p = Contains (pair_list s runs) p × (marker_of (opened p) ≡ marker_of (closed p))

  -- what opens first closes last, and each of a pair has its markers; these pairs are pending
  abbrev IsPairWord : List Pair → List Token → Type 0
  IsPairWord pending [] = pending ≡ []
  IsPairWord pending (item f ∷ w) = IsRight P f × IsPairWord pending w
  IsPairWord pending (opens o ∷ w) =
      (p : Pair) × Q p × IsSide (opened p) p o × NextIsNot (marker_of o) w × IsPairWord (p ∷ pending) w
  IsPairWord [] (closes c ∷ w) = ⊥
  IsPairWord (p ∷ pending) (closes c ∷ w) = IsSide (closed p) p c × IsPairWord pending w

  abbrev AreSideFrames : List Pair → SideFrames → Type 0
  AreSideFrames [] [] = Unit {0}
  AreSideFrames [] (f ∷ fs) = ⊥
  AreSideFrames (p ∷ pending) [] = ⊥
  AreSideFrames (p ∷ pending) (f ∷ fs) = IsSide (closed p) p f.0 × AllRight P f.1 × AreSideFrames pending fs

  of-pair : (p : Pair) (front back : List Code) → Q p → IsSide (opened p) p front → IsSide (closed p) p back →
      P front back
  of-pair p front back q h k = search (rules)

  word-onto : (o : List Code) (inside : List Forest) (more : SideFrames) (p : Pair) (pending : List Pair) → Q p → IsSide (opened p) p o → (is_nothing (joined inside) ≡ true → FirstIsNot (marker_of o) more)
      → AllRight P inside → AreSideFrames (p ∷ pending) more →
      let r : List Forest × SideFrames = onto pair_group loose loose o inside more in
      AllRight P r.0 × AreSideFrames pending r.1
  word-onto o inside more p pending h0 h1 h2 h3 h4 = grind (arith, all-append, right-group, of-pair, eq-eqb, both_ways)

  word-nest : (pending : List Pair) (w : List Token) → IsPairWord pending w →
      AllRight P (nest_pairs w).0 × AreSideFrames pending (nest_pairs w).1
  word-nest pending [] h = (tt, subst (λ x. AreSideFrames x []) (sym h) tt)
  word-nest pending (item f ∷ w) h = let r = word-nest pending w h.1 in ((h.0, r.0), r.1)
  word-nest pending (opens o ∷ w) h =
      let r = word-nest (h.0 ∷ pending) w h.4 in
      word-onto o (nest_pairs w).0 (nest_pairs w).1 h.0 pending h.1 h.2 (λ e. next-nest (marker_of o) w h.3 e) r.0 r.1
  word-nest [] (closes c ∷ w) h = absurd h
  word-nest (p ∷ pending) (closes c ∷ w) h = let r = word-nest pending w h.1 in (tt, (h.0, r.0, r.1))

  no-frames : (fs : SideFrames) → AreSideFrames [] fs → AllRight P (after_loose pair_group loose loose fs)
  no-frames [] h = tt
  no-frames (f ∷ fs) h = absurd h

  word-assembled : (w : List Token) → IsPairWord [] w → IsRight P (assembled w)
  word-assembled w h =
      let r = word-nest [] w h in
      right-joined P _ (all-append (IsRight P) (nest_pairs w).0 (after_loose pair_group loose loose (nest_pairs w).1) r.0 (no-frames (nest_pairs w).1 r.1))

  word-closes : (cs : List (List Code)) (ps pending : List Pair) (w : List Token) → AreSides closed cs ps →
      IsPairWord pending w → IsPairWord (ps ++ pending) (map closes cs ++ w)
  word-closes (c ∷ cs) (p ∷ ps) pending w h k = (h.0, word-closes cs ps pending w h.1 k)
  word-closes cs ps pending w h k = grind arith

  word-opens : (m : ℕ) (os : List (List Code)) (ps pending : List Pair) (w : List Token) → AreSides opened os ps → AllOf (λ p. Q p × (marker_of (opened p) ≡ m)) ps → NextIsNot m w
      → IsPairWord (reverse ps ++ pending) w → IsPairWord pending (map opens os ++ w)
  word-opens m (o ∷ os) (p ∷ ps) pending w h q n k = (
    p,
    q.0.0,
    h.0,
    next-opens (marker_of o) os w (subst (λ x. NextIsNot x w) (sym (h.0.marker ∙ q.0.1)) n),
    word-opens m os ps (p ∷ pending) w h.1 q.1 n (subst (λ x. IsPairWord x w) (reversed-onto p ps pending) k),
  )
  word-opens m os ps pending w h q n k = grind arith

  -- The tokens of a run.
  module _ (pairs : List Pair) (all : AllOf Q pairs) (sized : AllOf (λ p. 0 < p.size) pairs) (i : ℕ) (r : Run) (here : run_at runs i ≡ r) (stripe : IsMarkerStripe (marker_of r.codes) r.codes)
      (enough : total (sizes_of (closing i pairs)) + total (sizes_of (opening i pairs)) ≤ length r.codes) where
    abbrev front : List (List Code) × List Code
    front = cut_front (closing_sizes i pairs) r.codes

    abbrev sizes : List ℕ
    sizes = reverse (opening_sizes i pairs)

    abbrev kept : ℕ
    kept = length front.1 - sum_by (λ n. n) sizes

    abbrev back : List (List Code) × List Code
    back = cut_front sizes (drop kept front.1)

    closer-here : AllOf (λ p. (0 < p.size) × (closed p ≡ r.codes)) (closing i pairs)
    closer-here = grind (arith, all-as, here, pairs, all-closing)

    opener-here : AllOf (λ p. (0 < p.size) × (opened p ≡ r.codes)) (opening i pairs)
    opener-here = grind (arith, all-as, here, pairs, all-opening)

    sizes-are : sizes ≡ sizes_of (reverse (opening i pairs))
    sizes-are = ap reverse (opening-is i pairs) ∙ sizes-reverse (opening i pairs)

    total-sizes : total sizes ≡ total (sizes_of (opening i pairs))
    total-sizes = total-reverse (opening_sizes i pairs) ∙ ap total (opening-is i pairs)

    left : length front.1 ≡ length r.codes - total (sizes_of (closing i pairs))
    left = cut-rest (closing_sizes i pairs) r.codes ∙ ap (λ ns. length r.codes - total ns) (closing-is i pairs)

    close-sides : AreSides closed front.0 (closing i pairs)
    close-sides =
        subst (λ ns. AreSides closed (cut_front ns r.codes).0 (closing i pairs)) (sym (closing-is i pairs))
        (cut-sides r.codes stripe closed (closing i pairs) [] r.codes [] (sym (append-nil r.codes)) closer-here (omega (arith, enough)))

    behind : (before : List Code) × (r.codes ≡ before ++ front.1)
    behind = cut-behind (closing_sizes i pairs) r.codes

    open-sides : AreSides opened back.0 (reverse (opening i pairs))
    open-sides =
        subst (λ ns. AreSides opened (cut_front ns (drop kept front.1)).0 (reverse (opening i pairs))) (sym sizes-are)
        (cut-sides r.codes stripe opened (reverse (opening i pairs)) (behind.0 ++ take kept front.1) (drop kept front.1) [] parts (all-reverse (λ p. (0 < p.size) × (opened p ≡ r.codes)) (opening i pairs) opener-here)
        (omega (arith, enough, left, total-sizes, ap total sizes-are, length-drop kept front.1)))
      where
        parts : r.codes ≡ (behind.0 ++ take kept front.1) ++ (drop kept front.1 ++ [])
        parts = grind (arith, behind, take-append-drop, append_assoc, append-nil)

    word-run : (pending : List Pair) (w : List Token) → NextIsNot (marker_of r.codes) w →
        IsPairWord (opening i pairs ++ pending) w → IsPairWord (closing i pairs ++ pending) (run_tokens pairs i r ++ w)
    word-run pending w n h =
        subst (IsPairWord (closing i pairs ++ pending))
        (sym (append_assoc (map closes front.0) (item (leaf Name.Data (take kept front.1)) ∷ map opens back.0) w))
        (word-closes front.0 (closing i pairs) pending (item (leaf Name.Data (take kept front.1)) ∷ (map opens back.0 ++ w)) close-sides
        (right-leaf P Name.Data (take kept front.1), word-opens (marker_of r.codes) back.0 (reverse (opening i pairs)) pending w open-sides marked n (subst (λ x. IsPairWord (x ++ pending) w) (sym (reverse-reverse (opening i pairs))) h)))
      where
        marked : AllOf (λ p. Q p × (marker_of (opened p) ≡ marker_of r.codes)) (reverse (opening i pairs))
        marked = grind (arith, all-reverse, pairs, all-as, here, all-opening)

    -- a token of the run is no empty data
    something : front.0 ≡ [] → take kept front.1 ≡ [] → back.0 ≡ [] → ⊥
    something e f g = grind (arith, left, length-take-le, total-sizes, sizes-are, pairs, no-sides, close-sides, open-sides)

    next-run : (m : ℕ) (w : List Token) → (marker_of r.codes == m) ≡ false → NextIsNot m (run_tokens pairs i r ++ w)
    next-run m w h = by_parts front.0 (take kept front.1) back.0 (closing i pairs) close-sides closer-here something
      where
        by_parts : (cs : List (List Code)) (ds : List Code) (os : List (List Code)) (ps : List Pair) → AreSides closed cs ps → AllOf (λ p. (0 < p.size) × (closed p ≡ r.codes)) ps → (cs ≡ [] → ds ≡ [] → os ≡ [] → ⊥)
            → NextIsNot m ((map closes cs ++ (item (leaf Name.Data ds) ∷ map opens os)) ++ w)
        by_parts [] [] [] ps k l n = absurd (n refl refl refl)
        by_parts cs ds os ps k l n = grind arith

-- Rows.

module _ (s : Setting) where
  abbrev words : Forest → List Run → ℕ → List Token
  words f runs n = tokens_of s (pair_list s) f (pair_list s runs) n

  -- these runs have the row's from number n on
  abbrev HaveRunsFrom : List Run → ℕ → Forest → Type 0
  HaveRunsFrom runs n f = (j i : ℕ) → i ≡ n + j → run_at runs i ≡ run_at (runs_of s f) j

  stripe-of : (cs : List Code) → IsMarkerStripe (marker_of cs) cs →
      IsMarkerStripe (marker_of (run_of s cs).codes) (run_of s cs).codes
  stripe-of cs h = subst (λ x. IsMarkerStripe (marker_of x) x) (sym (codes-run_of s cs)) h

  module _ (tree : Forest) where
    -- what a container's pairs are
    module _ (runs : List Run) where
      ordered-pairs : AreOrderedPairs (length runs) (pair_list s runs)
      ordered-pairs = ordered s runs (length runs) [] 0 (pair_list s runs) (some_pair_list s runs)

      known-pairs : AllOf (λ p. Contains (pair_list s runs) p × (marker_of (run_at runs p.opener).codes ≡ marker_of (run_at runs p.closer).codes)) (pair_list s runs)
      known-pairs =
          all-both (Contains (pair_list s runs)) (HasOneMarker s runs (length runs)) (pair_list s runs) (all-listed (pair_list s runs) [] (pair_list s runs) refl)
          (one-marker s runs (length runs) [] 0 (pair_list s runs) (some_pair_list s runs))

      enough-markers : (n : ℕ) (r : Run) → run_at runs n ≡ r →
          total (sizes_of (closing n (pair_list s runs))) + total (sizes_of (opening n (pair_list s runs))) ≤ length r.codes
      enough-markers n r e =
          omega (arith, taken-sizes n (length runs) (pair_list s runs) ordered-pairs, (pairs_are_sound s runs (pair_list s runs) (some_pair_list s runs)).taken_once n, ap (λ x. length x.codes) e)

    abbrev HasContainersWithin : Forest → Type 0
    HasContainersWithin f = (runs : List Run) → Contains (rows_inside s f) runs → Contains (containers_of s tree) runs

    next-tokens : (f : Forest) (runs : List Run) (container : Contains (containers_of s tree) runs) (m n : ℕ) →
        HaveRunsFrom runs n f → HasApartRuns m f → NextIsNot m (words f runs n)
    unfolding tokens_of runs_of
    next-tokens (leaf_then Name.AttentionSequence link cs rest) runs container m n k h =
        let here : run_at runs n ≡ run_of s cs = k 0 n (omega arith) in
        next-run s tree runs container (pair_list s runs) (known-pairs runs) (all-sized (length runs) (pair_list s runs) (ordered-pairs runs)) n (run_of s cs) here (stripe-of cs h.0) (enough-markers runs n (run_of s cs) here) m
        (words rest runs (suc n)) (ap (λ x. marker_of x == m) (codes-run_of s cs) ∙ h.1)
    next-tokens f runs container m n k h = tt

    abbrev PairWordLaw : Forest → Type 0
    PairWordLaw f = (runs : List Run) (container : Contains (containers_of s tree) runs) (m n : ℕ) → HaveRunsFrom runs n f → n + length (runs_of s f) ≡ length runs → pair_groups f ≡ 0 → IsFilled f → HasApartRuns m f → HasContainersWithin f
        → IsPairWord s tree runs container (open_pairs n (pair_list s runs)) (words f runs n)

    whole-row : (f : Forest) → PairWordLaw f → Contains (containers_of s tree) (runs_of s f) → pair_groups f ≡ 0 → IsFilled f → HasApartRuns 0 f →
        HasContainersWithin f
        → IsRight (AreOfPair s tree) (assembled (words f (runs_of s f) 0))
    whole-row f law container h k l m =
        word-assembled s tree (runs_of s f) container (words f (runs_of s f) 0)
        (subst (λ x. IsPairWord s tree (runs_of s f) container x (words f (runs_of s f) 0)) (none-open (pair_list s (runs_of s f)))
        (law (runs_of s f) container 0 0 (λ j i e. ap (run_at (runs_of s f)) (same i j e)) (omega arith) h k l m))
      where
        same : (i j : ℕ) → i ≡ 0 + j → i ≡ j
        same i j e = omega arith

    law : (f : Forest) → PairWordLaw f
    unfolding tokens_of runs_of rows_inside
    law empty runs container m n st k g f a w = grind (arith, none-left, ordered-pairs)
    law (leaf_then Name.AttentionSequence link cs rest) runs container m n st k g f a w =
        subst (λ x. IsPairWord s tree runs container x (run_tokens (pair_list s runs) n (run_of s cs) ++ words rest runs (suc n))) (sym (close-split n (length runs) (pair_list s runs) (ordered-pairs runs)))
        (word-run s tree runs container (pair_list s runs) (known-pairs runs) (all-sized (length runs) (pair_list s runs) (ordered-pairs runs)) n (run_of s cs) here (stripe-of cs a.0) (enough-markers runs n (run_of s cs) here)
        (across n (pair_list s runs)) (words rest runs (suc n)) (subst (λ x. NextIsNot (marker_of x) (words rest runs (suc n))) (sym (codes-run_of s cs)) (next-tokens rest runs container (marker_of cs) (suc n) later_stands a.2))
        (subst (λ x. IsPairWord s tree runs container x (words rest runs (suc n))) (open-split n (length runs) (pair_list s runs) (ordered-pairs runs)) (law rest runs container (marker_of cs) (suc n) later_stands (omega (arith, k)) g f.1 a.2 w)))
      where
        here : run_at runs n ≡ run_of s cs
        here = st 0 n (omega arith)

        later_stands : HaveRunsFrom runs (suc n) rest
        later_stands j i e = st (suc j) i (omega (arith, e))
    law (leaf_then name link cs rest) runs container m n st k g f a w =
        ((tt, (f.0, tt)), law rest runs container 0 n st k g f.1 a w)
    law (group_then name enter exit inside rest) runs container m n st k g f a w = (
      (
        ((λ e. absurd (by_name (is_pair name) g e)), (row (law inside)).0, tt),
        ((λ e. f.0 (nothing-assembled s inside (pair_list s (runs_of s inside)) 0 f.1 e)), (row (law inside)).1, tt),
      ),
      law rest runs container 0 n st k (omega (arith, g)) f.2 a.1 (λ rs h. w rs (Contains-append_right (runs_of s inside ∷ rows_inside s inside) (rows_inside s rest) rs h)),
    )
      where
        by_name : (b : Bool) → (if b then 1 else 0) + pair_groups inside + pair_groups rest ≡ 0 → b ≡ true → ⊥
        by_name true h e = omega (arith, h)
        by_name false h e = both_ways false refl e

        row : PairWordLaw inside → IsRight (AreOfPair s tree) (assembled (words inside (runs_of s inside) 0))
        row l =
            whole-row inside l (w (runs_of s inside) (Contains-append_left (runs_of s inside ∷ rows_inside s inside) (rows_inside s rest) (runs_of s inside) (0, omega arith, refl))) (omega (arith, g)) f.1 a.0
            (λ rs h. w rs (Contains-append_left (runs_of s inside ∷ rows_inside s inside) (rows_inside s rest) rs (Contains-append_right (runs_of s inside ∷ []) (rows_inside s inside) rs h)))

-- of the tree of a whole content that has no group of a pair yet
pub right-paired : (s : Setting) (tree : Forest) → pair_groups tree ≡ 0 → IsFilled tree → HasApartRuns 0 tree →
    (let there : Setting = within (leaf_codes tree) s in IsRight (AreOfPair there tree) (paired there (pair_list there) tree))
unfolding paired rows_of
right-paired s tree g f a =
    let there : Setting = within (leaf_codes tree) s in
    whole-row there tree tree (law there tree tree) (0, omega arith, refl) g f a
    (λ rs h. Contains-append_right (runs_of there tree ∷ []) (rows_inside there tree) rs h)
