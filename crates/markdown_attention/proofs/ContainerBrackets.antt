-- The tokens of a row, cut by its pair list, are a word of brackets that match.
use Rattle.std.proofs.Common.{◌≡◌, ◌≢◌, ℕ, zero, suc, ◌+◌, ◌-◌, ◌<◌, ◌≤◌, true, false, List, [], ◌∷◌, ◌++◌, length, take, drop, reverse, map, Option, refl, sym, ap, subst, ◌∙◌, arith, append_assoc, inl, inr, sum_by}
use Rattle.markdown_attention.proofs.BracketAppends.{total-reverse}
use Rattle.std.proofs.lemmas.Bool.{cases_Bool, or_parts}
use Rattle.std.proofs.lemmas.List.{length-take-le, length-drop, reverse-append}
use Rattle.std.proofs.lemmas.List.Sums.{sum_by-cons}
use Rattle.markdown_content.specs.Codes.{Code}
use Rattle.markdown_content.specs.Tree.{Forest, empty, leaf_then, group_then, leaf}
use Rattle.markdown_event.specs.declared.event.Content.{Content}
use Rattle.markdown_event.specs.declared.event.Name.{Name}
use Rattle.markdown_event.specs.declared.event.Name.TheVariants as N
use Rattle.markdown_event.specs.declared.event.Point.{Point}
use Rattle.markdown_model.specs.Setting.{Setting}
use Rattle.markdown_model.specs.Runs.{Run, marker_of, run_of, runs_of}
use Rattle.markdown_model.specs.Pairs.{Pair, run_at, taken_by}
use Rattle.markdown_model.specs.BracketGroups.{item, opens, closes, Token, closing_sizes, opening_sizes, cut_front, run_tokens, assembled, tokens_of}
use Rattle.markdown_attention.specs.RunsRead.{is_run}
use Rattle.markdown_attention.specs.RunsOfTree.{has_run}
use Rattle.markdown_attention.specs.TokenWord.{IsUnlinkedRow, key_of, Matches, AreItems, HasMarker}
use Rattle.markdown_attention.specs.RunEvents.{total, AreSome}
use Rattle.markdown_attention.proofs.PairsInRunOrder.{spans, passes, AreRanked, keys_where, before-run, after-run, none-first, none-last, with_marker, closed-keys, opened-keys, closing-some, opening-some, total-taken}

-- Pieces of a run.

marker-drop : (k : ℕ) (m : ℕ) (cs : List Code) → HasMarker m cs → HasMarker m (drop k cs)
marker-drop zero m cs h = h
marker-drop (suc k) m [] h = h
marker-drop (suc k) m (c ∷ cs) h = marker-drop k m cs h.1

take-some : (k : ℕ) (cs : List Code) → 0 < k → k ≤ length cs → take k cs ≢ []
take-some k cs h l = λ e. (let a = ap length e in let b = length-take-le k cs l in omega (arith, a, b, h))

take-marker : (k m : ℕ) (cs : List Code) → 0 < k → k ≤ length cs → HasMarker m cs → marker_of (take k cs) ≡ m
take-marker zero m cs h l a = absurd (omega (arith, h))
take-marker (suc k) m [] h l a = absurd (omega (arith, l))
take-marker (suc k) m (c ∷ cs) h l a = a.0

take-key : (k m : ℕ) (cs : List Code) → 0 < k → k ≤ length cs → HasMarker m cs → (m, k) ≡ key_of (take k cs)
take-key k m cs h l a = λ i. (sym (take-marker k m cs h l a) i, sym (length-take-le k cs l) i)

cut-length : (ns : List ℕ) (cs : List Code) → total ns ≤ length cs → length (cut_front ns cs).1 ≡ length cs - total ns
cut-length [] cs l = omega arith
cut-length (n ∷ ns) cs l =
    let d = length-drop n cs in let r = cut-length ns (drop n cs) (omega (arith, l, d)) in omega (arith, l, d, r)

cut-marker : (ns : List ℕ) (m : ℕ) (cs : List Code) → HasMarker m cs → HasMarker m (cut_front ns cs).1
cut-marker [] m cs h = h
cut-marker (n ∷ ns) m cs h = cut-marker ns m (drop n cs) (marker-drop n m cs h)

pub total-sum : (ns : List ℕ) → sum_by (λ n. n) ns ≡ total ns
total-sum [] = refl
total-sum (n ∷ ns) = let r = total-sum ns in let c = sum_by-cons (λ (k : ℕ). k) n ns in omega (arith, r, c)

reverse-first : (n : ℕ) (ns : List ℕ) → reverse (n ∷ ns) ≡ reverse ns ++ n ∷ []
reverse-first n ns = reverse-append (n ∷ []) ns

some-append : (ns ms : List ℕ) → AreSome ns → AreSome ms → AreSome (ns ++ ms)
some-append [] ms h k = k
some-append (n ∷ ns) ms h k = (h.0, some-append ns ms h.1 k)

pub some-reverse : (ns : List ℕ) → AreSome ns → AreSome (reverse ns)
some-reverse [] h = tt
some-reverse (n ∷ ns) h =
    subst (λ (xs : List ℕ). AreSome xs) (sym (reverse-first n ns)) (some-append (reverse ns) (n ∷ []) (some-reverse ns h.1) (h.0, tt))

-- Brackets of a run.

closes-match : (m : ℕ) (ns : List ℕ) (cs : List Code) (keys : List (ℕ × ℕ)) (w : List Token) → AreSome ns →
    total ns ≤ length cs → HasMarker m cs → Matches keys w →
    Matches (with_marker m ns ++ keys) (map closes (cut_front ns cs).0 ++ w)
closes-match m [] cs keys w s l h k = k
closes-match m (n ∷ ns) cs keys w s l h k =
    let d = length-drop n cs in
    let here : n ≤ length cs = omega (arith, l) in
    (take-some n cs s.0 here, (take-key n m cs s.0 here h, closes-match m ns (drop n cs) keys w s.1 (omega (arith, l, d)) (marker-drop n m cs h) k))

-- these keys, pushed one by one
abbrev pushed : ℕ → List ℕ → List (ℕ × ℕ) → List (ℕ × ℕ)
pushed m [] keys = keys
pushed m (n ∷ ns) keys = pushed m ns ((m, n) ∷ keys)

pushed-append : (m : ℕ) (ns ms : List ℕ) (keys : List (ℕ × ℕ)) →
    pushed m (ns ++ ms) keys ≡ pushed m ms (pushed m ns keys)
pushed-append m [] ms keys = refl
pushed-append m (n ∷ ns) ms keys = pushed-append m ns ms ((m, n) ∷ keys)

pushed-reverse : (m : ℕ) (ns : List ℕ) (keys : List (ℕ × ℕ)) → pushed m (reverse ns) keys ≡ with_marker m ns ++ keys
pushed-reverse m [] keys = refl
pushed-reverse m (n ∷ ns) keys =
    ap (λ xs. pushed m xs keys) (reverse-first n ns) ∙ pushed-append m (reverse ns) (n ∷ []) keys ∙ ap (λ xs. (m, n) ∷ xs) (pushed-reverse m ns keys)

opens-match : (m : ℕ) (ns : List ℕ) (cs : List Code) (keys : List (ℕ × ℕ)) (w : List Token) → AreSome ns →
    total ns ≤ length cs → HasMarker m cs → Matches (pushed m ns keys) w →
    Matches keys (map opens (cut_front ns cs).0 ++ w)
opens-match m [] cs keys w s l h k = k
opens-match m (n ∷ ns) cs keys w s l h k =
    let d = length-drop n cs in
    let here : n ≤ length cs = omega (arith, l) in
    let more : Matches ((m, n) ∷ keys) (map opens (cut_front ns (drop n cs)).0 ++ w) = opens-match m ns (drop n cs) ((m, n) ∷ keys) w s.1 (omega (arith, l, d)) (marker-drop n m cs h) k in
    (take-some n cs s.0 here, subst (λ (x : ℕ × ℕ). Matches (x ∷ keys) (map opens (cut_front ns (drop n cs)).0 ++ w)) (take-key n m cs s.0 here h) more)

unlinked-leaf : (cs : List Code) → IsUnlinkedRow (leaf N.Data cs)
unlinked-leaf [] = tt
unlinked-leaf (c ∷ cs) = (refl, tt)

-- the tokens of a run, before others
run-match : (m : ℕ) (ps : List Pair) (n : ℕ) (r : Run) (keys : List (ℕ × ℕ)) (w : List Token) → HasMarker m r.codes → AreSome (closing_sizes n ps) → AreSome (opening_sizes n ps) → total (closing_sizes n ps) + total (opening_sizes n ps) ≤ length r.codes
    → Matches (with_marker m (opening_sizes n ps) ++ keys) w → Matches (with_marker m (closing_sizes n ps) ++ keys) (run_tokens ps n r ++ w)
run-match m ps n r keys w h s t l k =
    let ns : List ℕ = closing_sizes n ps in
    let os : List ℕ = opening_sizes n ps in
    let sizes : List ℕ = reverse os in
    let front : List (List Code) × List Code = cut_front ns r.codes in
    let kept : ℕ = length front.1 - sum_by (λ x. x) sizes in
    let back : List (List Code) × List Code = cut_front sizes (drop kept front.1) in
    let here : List Code = take kept front.1 in
    let long : length front.1 ≡ length r.codes - total ns = cut-length ns r.codes (omega (arith, l)) in
    let sum : sum_by (λ x. x) sizes ≡ total os = total-sum sizes ∙ total-reverse os in
    let rest : length (drop kept front.1) ≡ length front.1 - kept = length-drop kept front.1 in
    let fits : total sizes ≤ length (drop kept front.1) = (let z = total-reverse os in omega (arith, l, long, sum, rest, z)) in
    let after : Matches keys (map opens back.0 ++ w) = opens-match m sizes (drop kept front.1) keys w (some-reverse os t) fits (marker-drop kept m front.1 (cut-marker ns m r.codes h)) (subst (λ (x : List (ℕ × ℕ)). Matches x w) (sym (pushed-reverse m os keys)) k) in
    let whole : Matches (with_marker m ns ++ keys) (map closes front.0 ++ (item (leaf N.Data here) ∷ (map opens back.0 ++ w))) = closes-match m ns r.codes keys (item (leaf N.Data here) ∷ (map opens back.0 ++ w)) s (omega (arith, l)) h (unlinked-leaf here, after) in
    subst (λ (x : List Token). Matches (with_marker m ns ++ keys) x) (sym (append_assoc (map closes front.0) (item (leaf N.Data here) ∷ map opens back.0) w)) whole

-- Rows.

pub run-name : (n : Name) → is_run n ≡ true → n ≡ N.AttentionSequence
run-name N.AttentionSequence e = refl
run-name _ e = cc

module _ (s : Setting) (pairs_of : List Run → List Pair) where
  abbrev tokens : Forest → List Pair → ℕ → List Token
  tokens t ps n = tokens_of s pairs_of t ps n

  pub tokens-empty : (ps : List Pair) (n : ℕ) → tokens empty ps n ≡ []
  unfolding tokens_of
  tokens-empty ps n = refl

  pub tokens-run : (link : Option Content) (cs : List Code) (rest : Forest) (ps : List Pair) (n : ℕ) →
      tokens (leaf_then N.AttentionSequence link cs rest) ps n ≡ run_tokens ps n (run_of s cs) ++ tokens rest ps (suc n)
  unfolding tokens_of
  tokens-run link cs rest ps n = refl

  pub tokens-leaf : (name : Name) (link : Option Content) (cs : List Code) (rest : Forest) (ps : List Pair) (n : ℕ) →
      is_run name ≡ false →
      tokens (leaf_then name link cs rest) ps n ≡ item (leaf_then name link cs empty) ∷ tokens rest ps n
  unfolding tokens_of
  tokens-leaf N.AttentionSequence link cs rest ps n e = cc
  tokens-leaf _ link cs rest ps n e = refl

  pub tokens-group : (name : Name) (a b : Point) (inside rest : Forest) (ps : List Pair) (n : ℕ)
      → tokens (group_then name a b inside rest) ps n ≡ item (group_then name a b (assembled (tokens inside (pairs_of (runs_of s inside)) 0)) empty) ∷ tokens rest ps n
  unfolding tokens_of
  tokens-group name a b inside rest ps n = refl

  -- without runs there are no brackets
  pub no-brackets : (t : Forest) (ps : List Pair) (n : ℕ) → has_run t ≡ false → AreItems (tokens t ps n)
  no-brackets empty ps n h = subst (λ (w : List Token). AreItems w) (sym (tokens-empty ps n)) tt
  no-brackets (leaf_then name link cs rest) ps n h =
      subst (λ (w : List Token). AreItems w) (sym (tokens-leaf name link cs rest ps n (or_parts (is_run name) (has_run rest) h).0)) (no-brackets rest ps n (or_parts (is_run name) (has_run rest) h).1)
  no-brackets (group_then name a b inside rest) ps n h =
      subst (λ (w : List Token). AreItems w) (sym (tokens-group name a b inside rest ps n)) (no-brackets rest ps n h)

pub runs-empty : (s : Setting) → runs_of s empty ≡ []
unfolding runs_of
runs-empty s = refl

pub runs-run : (s : Setting) (link : Option Content) (cs : List Code) (rest : Forest) →
    runs_of s (leaf_then N.AttentionSequence link cs rest) ≡ run_of s cs ∷ runs_of s rest
unfolding runs_of
runs-run s link cs rest = refl

pub runs-leaf : (s : Setting) (name : Name) (link : Option Content) (cs : List Code) (rest : Forest) →
    is_run name ≡ false → runs_of s (leaf_then name link cs rest) ≡ runs_of s rest
unfolding runs_of
runs-leaf s N.AttentionSequence link cs rest e = cc
runs-leaf s _ link cs rest e = refl

pub runs-group : (s : Setting) (name : Name) (a b : Point) (inside rest : Forest) →
    runs_of s (group_then name a b inside rest) ≡ runs_of s rest
unfolding runs_of
runs-group s name a b inside rest = refl

drop-first : (R : List Run) (n : ℕ) (r : Run) (rs : List Run) → r ∷ rs ≡ drop n R →
    (run_at R n ≡ r) × (rs ≡ drop (suc n) R)
drop-first [] zero r rs e = cc
drop-first [] (suc n) r rs e = cc
drop-first (x ∷ R) zero r rs e = (cc, cc)
drop-first (x ∷ R) (suc n) r rs e = drop-first R n r rs e

drop-none : (R : List Run) (n : ℕ) → [] ≡ drop n R → length R ≤ n
drop-none [] n e = omega arith
drop-none (x ∷ R) zero e = cc
drop-none (x ∷ R) (suc n) e = let l = drop-none R n e in omega (arith, l)

-- Of a row's runs R and its pairs: they are ranked, take each marker once at most, and each run repeats one marker.
pub record AreCut (R : List Run) (ps : List Pair) : Type 0 where
  pub ranked : AreRanked R ps
  pub once : (i : ℕ) → sum_by (taken_by i) ps ≤ length (run_at R i).codes
  pub marked : (i : ℕ) → HasMarker (marker_of (run_at R i).codes) (run_at R i).codes

module _ (s : Setting) (pairs_of : List Run → List Pair) (R : List Run) (ps : List Pair) (cut : AreCut R ps) where
  abbrev open_at : ℕ → List (ℕ × ℕ)
  open_at n = keys_where R (spans n) ps

  abbrev around : ℕ → List (ℕ × ℕ)
  around n = keys_where R (passes n) ps

  row-match : (t : Forest) (n : ℕ) → IsUnlinkedRow t → runs_of s t ≡ drop n R →
      Matches (open_at n) (tokens s pairs_of t ps n)
  row-match empty n h e =
      subst (λ (w : List Token). Matches (open_at n) w) (sym (tokens-empty s pairs_of ps n)) (none-last R n ps (drop-none R n (sym (runs-empty s) ∙ e)) cut.ranked)
  row-match (leaf_then name link cs rest) n h e = elim (cases_Bool (is_run name)) [
    | inr k ↦
        subst (λ (w : List Token). Matches (open_at n) w) (sym (tokens-leaf s pairs_of name link cs rest ps n k))
        ((h.0, tt), row-match rest n h.1 (sym (runs-leaf s name link cs rest k) ∙ e))
    | inl k ↦
        let is : name ≡ N.AttentionSequence = run-name name k in
        let f = drop-first R n (run_of s cs) (runs_of s rest) (sym (runs-run s link cs rest) ∙ ap (λ (x : Name). runs_of s (leaf_then x link cs rest)) (sym is) ∙ e) in
        let r : Run = run_of s cs in
        let m : ℕ = marker_of (run_at R n).codes in
        let more : Matches (open_at (suc n)) (tokens s pairs_of rest ps (suc n)) = row-match rest (suc n) h.1 f.1 in
        let more' : Matches (with_marker m (opening_sizes n ps) ++ around n) (tokens s pairs_of rest ps (suc n)) =
        subst (λ (x : List (ℕ × ℕ)). Matches x (tokens s pairs_of rest ps (suc n))) (after-run R n ps cut.ranked ∙ ap (λ xs. xs ++ around n) (opened-keys R n ps cut.ranked)) more in
        let t = total-taken R n ps cut.ranked in
        let o = cut.once n in
        let size : length (run_at R n).codes ≡ length r.codes = ap (λ (x : Run). length x.codes) f.0 in
        let word : Matches (with_marker m (closing_sizes n ps) ++ around n) (run_tokens ps n r ++ tokens s pairs_of rest ps (suc n)) =
        run-match m ps n r (around n) (tokens s pairs_of rest ps (suc n)) (subst (λ (x : Run). HasMarker m x.codes) f.0 (cut.marked n)) (closing-some R n ps cut.ranked) (opening-some R n ps cut.ranked) (omega (arith, t, o, size)) more' in
        subst (λ (x : Name). Matches (open_at n) (tokens s pairs_of (leaf_then x link cs rest) ps n)) (sym is)
        (subst (λ (w : List Token). Matches (open_at n) w) (sym (tokens-run s pairs_of link cs rest ps n))
        (subst (λ (x : List (ℕ × ℕ)). Matches x (run_tokens ps n r ++ tokens s pairs_of rest ps (suc n))) (sym (before-run R n ps cut.ranked ∙ ap (λ xs. xs ++ around n) (closed-keys R n ps cut.ranked))) word))
  ]
  row-match (group_then name a b inside rest) n h e =
      subst (λ (w : List Token). Matches (open_at n) w) (sym (tokens-group s pairs_of name a b inside rest ps n)) (tt, row-match rest n h (sym (runs-group s name a b inside rest) ∙ e))

-- the tokens of a row match
pub row-matches : (s : Setting) (pairs_of : List Run → List Pair) (t : Forest) (ps : List Pair) →
    AreCut (runs_of s t) ps → IsUnlinkedRow t → Matches [] (tokens_of s pairs_of t ps 0)
row-matches s pairs_of t ps cut h =
    subst (λ (x : List (ℕ × ℕ)). Matches x (tokens_of s pairs_of t ps 0)) (none-first (runs_of s t) ps cut.ranked) (row-match s pairs_of (runs_of s t) ps cut t 0 h refl)
