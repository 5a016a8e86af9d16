-- The events of the groups that brackets make are those of the brackets, one after another.
use Rattle.std.proofs.Common.{◌≡◌, ◌≢◌, ℕ, ◌+◌, List, ◌∷◌, ◌++◌, length, Option, Some, None, refl, sym, ap, ◌∙◌, arith, append_assoc, append-nil, length-append, inl, inr, ◌⊎◌, []}
use Rattle.markdown_content.specs.Codes.{Code, stop_of, document_start}
use Rattle.markdown_engine.specs.PastTree.{appended_from, last_link}
use Rattle.markdown_content.specs.Tree.{Forest, empty, leaf_then, group_then, leaf, group, text_group, ◌⊕◌, event, event_count, start_of}
use Rattle.markdown_event.specs.declared.event.Event.{Event}
use Rattle.markdown_event.specs.declared.event.Kind.TheVariants as Kind
use Rattle.markdown_engine.proofs.TreeEvents.{appended_from-row}
use Rattle.markdown_event.specs.declared.event.Name.{Name}
use Rattle.markdown_engine.proofs.TreeEvents.{length-appended_from}
use Rattle.markdown_model.specs.BracketGroups.{item, opens, closes, Token, pair_names, pair_group, loose, nest, onto, after_loose, joined, assembled}
use Rattle.markdown_attention.specs.TokenWord.{opened_as, closed_as, names_of, opened_events, closed_events, word_count, word_link, word_events, IsUnlinkedRow, key_of, Matches, AreItems}

-- Rows.

pub count-row : (t u : Forest) → event_count (t ⊕ u) ≡ event_count t + event_count u
count-row empty u = omega arith
count-row (leaf_then name link cs rest) u = let r = count-row rest u in omega arith
count-row (group_then name p q inside rest) u = let r = count-row rest u in omega arith

-- Rows without links.

pub unlinked-events : (t : Forest) (n : ℕ) (p : Option ℕ) → IsUnlinkedRow t →
    appended_from n p t ≡ appended_from n None t
unlinked-events empty n p h = refl
unlinked-events (leaf_then name None cs rest) n p h =
    ap (λ es. event Kind.Enter name (start_of cs) ∷ event Kind.Exit name (stop_of document_start cs) ∷ es) (unlinked-events rest (n + 2) p h.1)
unlinked-events (leaf_then name (Some c) cs rest) n p h = cc
unlinked-events (group_then name a b inside rest) n p h =
    ap (λ es. event Kind.Enter name a ∷ (appended_from (n + 1) None inside ++ event Kind.Exit name b ∷ es)) (unlinked-events rest (n + 2 + event_count inside) p h)

pub unlinked-last : (t : Forest) (n : ℕ) (p : Option ℕ) → IsUnlinkedRow t → last_link n p t ≡ p
unlinked-last empty n p h = refl
unlinked-last (leaf_then name None cs rest) n p h = unlinked-last rest (n + 2) p h.1
unlinked-last (leaf_then name (Some c) cs rest) n p h = cc
unlinked-last (group_then name a b inside rest) n p h = unlinked-last rest (n + 2 + event_count inside) p h

pub unlinked-row : (t u : Forest) → IsUnlinkedRow t → IsUnlinkedRow u → IsUnlinkedRow (t ⊕ u)
unlinked-row empty u h k = k
unlinked-row (leaf_then name link cs rest) u h k = (h.0, unlinked-row rest u h.1 k)
unlinked-row (group_then name a b inside rest) u h k = unlinked-row rest u h k

pub unlinked-both : (t u : Forest) (n : ℕ) → IsUnlinkedRow t →
    appended_from n None (t ⊕ u) ≡ appended_from n None t ++ appended_from (n + event_count t) None u
unlinked-both t u n h =
    appended_from-row n None t u ∙ ap (λ p. appended_from n None t ++ appended_from (n + event_count t) p u) (unlinked-last t n None h)

-- Frames: closing brackets without a partner, each with the items after it.

abbrev Frame : Type 0
Frame = List Code × List Forest

abbrev nest_word : List Token → List Forest × List Frame
nest_word w = nest pair_group loose loose w

abbrev frames_events : ℕ → List Frame → List Event
frames_events n [] = []
frames_events n (f ∷ fs) =
    closed_events f.0 ++ (appended_from (n + 4) None (joined f.1) ++ frames_events (n + 4 + event_count (joined f.1)) fs)

-- the frames close brackets with these keys
abbrev AreBracketFrames : List (ℕ × ℕ) → List Frame → Type 0
AreBracketFrames [] [] = Unit {0}
AreBracketFrames [] (f ∷ fs) = ⊥
AreBracketFrames (key ∷ keys) [] = ⊥
AreBracketFrames (key ∷ keys) (f ∷ fs) = (f.0 ≢ []) × ((key ≡ key_of f.0) × (IsUnlinkedRow (joined f.1) × AreBracketFrames keys fs))

abbrev group_at : Name × Name × Name → List Code → List Forest → List Code → List Forest
group_at names front inside back =
    group names.0 (leaf names.1 front
    ⊕ text_group names.2 (stop_of document_start front) (start_of back) (joined inside)
    ⊕ leaf names.1 back) ∷ []

-- a group with its events
group-by : (N : Name × Name × Name) (n : ℕ) (x : Code) (xs : List Code) (y : Code) (ys : List Code) (I A : Forest)
    → appended_from n None (group_then N.0 x.start (stop_of y.stop ys) (leaf_then N.1 None (x ∷ xs) (group_then N.2 (stop_of x.stop xs) y.start I (leaf_then N.1 None (y ∷ ys) empty))) A)
    ≡ opened_as N (x ∷ xs) ++ (appended_from (n + 4) None I ++ (closed_as N (y ∷ ys) ++ appended_from (n + 4 + event_count I + 4) None A))
group-by N n x xs y ys I A = grind (arith, append_assoc)

names-same : (front back : List Code) → key_of front ≡ key_of back → names_of front ≡ names_of back
unfolding names_of
names-same front back e = ap (λ k. pair_names k.0 k.1) e

group-names : (front : List Code) (inside : List Forest) (back : List Code) →
    pair_group front inside back ≡ group_at (names_of front) front inside back
unfolding names_of
group-names front inside back = refl

-- the events of a pair's group, and of what follows
group-events : (n : ℕ) (front back : List Code) (inside after : List Forest) → front ≢ [] → back ≢ [] → key_of front ≡ key_of back
    → appended_from n None (joined (pair_group front inside back ++ after))
    ≡ opened_events front ++ (appended_from (n + 4) None (joined inside) ++ (closed_events back ++ appended_from (n + 4 + event_count (joined inside) + 4) None (joined after)))
group-events n [] back inside after f b e = absurd (f refl)
group-events n (x ∷ xs) [] inside after f b e = absurd (b refl)
group-events n (x ∷ xs) (y ∷ ys) inside after f b e =
    ap (λ g. appended_from n None (joined (g ++ after))) (group-names (x ∷ xs) inside (y ∷ ys))
    ∙ group-by (names_of (x ∷ xs)) n x xs y ys (joined inside) (joined after)
    ∙ ap (λ N. opened_events (x ∷ xs) ++ (appended_from (n + 4) None (joined inside) ++ (closed_as N (y ∷ ys) ++ appended_from (n + 4 + event_count (joined inside) + 4) None (joined after)))) (names-same (x ∷ xs) (y ∷ ys) e)

-- Words.

record Nested (keys : List (ℕ × ℕ)) (w : List Token) : Type 0 where
  first : IsUnlinkedRow (joined (nest_word w).0)
  frames : AreBracketFrames keys (nest_word w).1
  events : (n : ℕ) →
      appended_from n None (joined (nest_word w).0) ++ frames_events (n + event_count (joined (nest_word w).0)) (nest_word w).1 ≡ word_events n None w

nested-item : (keys : List (ℕ × ℕ)) (f : Forest) (w : List Token) → IsUnlinkedRow f → Nested keys w →
    Nested keys (item f ∷ w)
nested-item keys f w h k = grind (arith, unlinked-row, count-row, unlinked-both, append_assoc, unlinked-last)

nested-closes : (key : ℕ × ℕ) (keys : List (ℕ × ℕ)) (c : List Code) (w : List Token) → c ≢ [] → key ≡ key_of c →
    Nested keys w → Nested (key ∷ keys) (closes c ∷ w)
nested-closes key keys c w h e k = grind arith

-- an opening bracket takes the first frame
record Onto (keys : List (ℕ × ℕ)) (o : List Code) (inside : List Forest) (fs : List Frame) : Type 0 where
  first : IsUnlinkedRow (joined (onto pair_group loose loose o inside fs).0)
  frames : AreBracketFrames keys (onto pair_group loose loose o inside fs).1
  events : (n : ℕ) → appended_from n None (joined (onto pair_group loose loose o inside fs).0) ++ frames_events (n + event_count (joined (onto pair_group loose loose o inside fs).0)) (onto pair_group loose loose o inside fs).1
      ≡ opened_events o ++ (appended_from (n + 4) None (joined inside) ++ frames_events (n + 4 + event_count (joined inside)) fs)

group-count : (front back : List Code) (inside after : List Forest) → front ≢ [] → back ≢ [] →
    event_count (joined (pair_group front inside back ++ after)) ≡ 8 + event_count (joined inside) + event_count (joined after)
group-count [] back inside after f b = absurd (f refl)
group-count (x ∷ xs) [] inside after f b = absurd (b refl)
group-count (x ∷ xs) (y ∷ ys) inside after f b = omega arith

regroup : (a b c d e : List Event) → (a ++ (b ++ (c ++ d))) ++ e ≡ a ++ (b ++ (c ++ (d ++ e)))
regroup a b c d e =
    append_assoc a (b ++ (c ++ d)) e ∙ ap (λ es. a ++ es) (append_assoc b (c ++ d) e ∙ ap (λ es. b ++ es) (append_assoc c d e))

onto-word : (keys : List (ℕ × ℕ)) (o : List Code) (inside : List Forest) (fs : List Frame) → o ≢ [] →
    AreBracketFrames (key_of o ∷ keys) fs → Onto keys o inside fs
onto-word keys o inside [] h k = absurd k
onto-word keys o inside (f ∷ fs) h k =
    let J : Forest = joined inside in
    let A : Forest = joined f.1 in
    record {
      first = unlinked-group o f.0 inside f.1 k.1.1.0;
      frames = k.1.1.1;
      events = λ n.
          let G : Forest = joined (pair_group o inside f.0 ++ f.1) in
          let size : n + event_count G ≡ n + 4 + event_count J + 4 + event_count A = (let c = group-count o f.0 inside f.1 h k.0 in omega (arith, c)) in
          ap (λ i. appended_from n None G ++ frames_events i fs) size
          ∙ ap (λ es. es ++ frames_events (n + 4 + event_count J + 4 + event_count A) fs) (group-events n o f.0 inside f.1 h k.0 k.1.0)
          ∙ regroup (opened_events o) (appended_from (n + 4) None J) (closed_events f.0) (appended_from (n + 4 + event_count J + 4) None A) (frames_events (n + 4 + event_count J + 4 + event_count A) fs);
    }
  where
    unlinked-group : (front back : List Code) (inside after : List Forest) → IsUnlinkedRow (joined after) →
        IsUnlinkedRow (joined (pair_group front inside back ++ after))
    unlinked-group front back inside after h = h

nested-opens : (keys : List (ℕ × ℕ)) (o : List Code) (w : List Token) → o ≢ [] → Nested (key_of o ∷ keys) w →
    Nested keys (opens o ∷ w)
nested-opens keys o w h k = grind (arith, onto-word)

nested-word : (w : List Token) (keys : List (ℕ × ℕ)) → Matches keys w → Nested keys w
nested-word [] [] h = record { first = tt; frames = tt; events = λ n. refl }
nested-word [] (key ∷ keys) h = cc
nested-word (item f ∷ w) keys h = nested-item keys f w h.0 (nested-word w keys h.1)
nested-word (opens o ∷ w) keys h = nested-opens keys o w h.0 (nested-word w (key_of o ∷ keys) h.1)
nested-word (closes c ∷ w) [] h = absurd h
nested-word (closes c ∷ w) (key ∷ keys) h = nested-closes key keys c w h.0 h.1.0 (nested-word w keys h.1.1)

word-any : (w : List Token) (keys : List (ℕ × ℕ)) (n : ℕ) (p : Option ℕ) → Matches keys w →
    word_events n p w ≡ word_events n None w
word-any [] keys n p h = refl
word-any (item f ∷ w) keys n p h =
    ap (λ es. es ++ word_events (n + event_count f) (last_link n p f) w) (unlinked-events f n p h.0)
    ∙ ap (λ es. appended_from n None f ++ es) (word-any w keys (n + event_count f) (last_link n p f) h.1 ∙ sym (word-any w keys (n + event_count f) (last_link n None f) h.1))
word-any (opens o ∷ w) keys n p h = ap (λ es. opened_events o ++ es) (word-any w (key_of o ∷ keys) (n + 4) p h.1)
word-any (closes c ∷ w) [] n p h = absurd h
word-any (closes c ∷ w) (key ∷ keys) n p h = ap (λ es. closed_events c ++ es) (word-any w keys (n + 4) p h.1.1)

-- no frame is left
record Closed (first : List Forest) (fs : List Frame) : Type 0 where
  all : first ++ after_loose pair_group loose loose fs ≡ first
  events : (n : ℕ) → frames_events n fs ≡ []

closed : (first : List Forest) (fs : List Frame) → AreBracketFrames [] fs → Closed first fs
closed first [] h = record { all = append-nil first; events = λ n. refl }
closed first (f ∷ fs) h = absurd h

pub matched-unlinked : (w : List Token) → Matches [] w → IsUnlinkedRow (assembled w)
matched-unlinked w h = grind (arith, nested-word, closed)

pub matched-events : (w : List Token) (n : ℕ) (p : Option ℕ) → Matches [] w →
    appended_from n p (assembled w) ≡ word_events n p w
matched-events w n p h = grind (arith, nested-word, closed, unlinked-events, matched-unlinked, append-nil, word-any)

-- Without brackets.

items-none : (w : List Token) → AreItems w → (nest_word w).1 ≡ []
items-none [] h = refl
items-none (item f ∷ w) h = items-none w h
items-none (opens o ∷ w) h = absurd h
items-none (closes c ∷ w) h = absurd h

items-joined : (w : List Token) (n : ℕ) (p : Option ℕ) → AreItems w →
    appended_from n p (joined (nest_word w).0) ≡ word_events n p w
items-joined [] n p h = refl
items-joined (item f ∷ w) n p h =
    appended_from-row n p f (joined (nest_word w).0) ∙ ap (λ es. appended_from n p f ++ es) (items-joined w (n + event_count f) (last_link n p f) h)
items-joined (opens o ∷ w) n p h = absurd h
items-joined (closes c ∷ w) n p h = absurd h

pub items-events : (w : List Token) (n : ℕ) (p : Option ℕ) → AreItems w →
    appended_from n p (assembled w) ≡ word_events n p w
items-events w n p h = grind (arith, items-none, append-nil, items-joined)

-- Both.

pub flat-events : (w : List Token) (n : ℕ) (p : Option ℕ) → Matches [] w ⊎ AreItems w →
    appended_from n p (assembled w) ≡ word_events n p w
flat-events w n p (inl h) = matched-events w n p h
flat-events w n p (inr h) = items-events w n p h

pub length-word : (w : List Token) (n : ℕ) (p : Option ℕ) → length (word_events n p w) ≡ word_count w
length-word [] n p = refl
length-word (item f ∷ w) n p =
    let a = length-append (appended_from n p f) (word_events (n + event_count f) (last_link n p f) w) in let b = length-appended_from n p f in let c = length-word w (n + event_count f) (last_link n p f) in omega (arith, a, b, c)
length-word (opens o ∷ w) n p = let c = length-word w (n + 4) p in omega (arith, c)
length-word (closes o ∷ w) n p = let c = length-word w (n + 4) p in omega (arith, c)

pub flat-count : (w : List Token) → Matches [] w ⊎ AreItems w → event_count (assembled w) ≡ word_count w
flat-count w h =
    sym (length-appended_from 0 None (assembled w)) ∙ ap length (flat-events w 0 None h) ∙ length-word w 0 None

-- words behind words
pub word-append : (v w : List Token) (n : ℕ) (p : Option ℕ) →
    word_events n p (v ++ w) ≡ word_events n p v ++ word_events (n + word_count v) (word_link n p v) w
word-append [] w n p = let z : n ≡ n + 0 = omega arith in ap (λ i. word_events i p w) z
word-append (item f ∷ v) w n p = grind (arith, word-append v w (n + event_count f) (last_link n p f), append_assoc)
word-append (opens o ∷ v) w n p = grind (arith, word-append v w (n + 4) p)
word-append (closes o ∷ v) w n p = grind (arith, word-append v w (n + 4) p)
