-- What an index of runs says of the codes that it was made of.
use Rattle.std.proofs.Common.{◌≡◌, ℕ, zero, suc, ◌+◌, ◌==◌, ◌&&◌, not, nat_lt, Bool, true, false, cond, if◌then◌else◌, Option, Some, None, List, [], ◌∷◌, drop, refl, sym, ap, subst, ◌∙◌, arith}
use Rattle.std.proofs.lemmas.Bool.{and_right, eqb-true, eq-eqb, or_parts}
use Rattle.std.proofs.lemmas.Bool.Decides.{nat_tests}
use Rattle.std.proofs.lemmas.Grind.{common_steps}
use Rattle.std.specs.BTreeMap.{insert_entry}
use Rattle.std.specs.List.{list_any}
use Rattle.std.specs.Cmp.{both_tied, unsigned_ties}
use Rattle.std.specs.Ordering.{is_eq, nat_cmp, match_ordering}
use Rattle.std.specs.declared.cmp.Ordering.TheVariants.{Less, Equal, Greater}
use Rattle.markdown_content.specs.Codes.{Code}
use Rattle.markdown_notes.specs.RunIndex.{leading, later_or, last_run_from, last_run, Key, key_cmp, LastRuns, is_asked, is_same, with_run, entries_from, last_runs, no_runs, without_runs, entry_at, begins_before, rules_out}

-- Entries.

-- the same value and the same size
key-same : (a b : Key) → (a.0 == b.0 && a.1 == b.1) ≡ is_eq (key_cmp a b)
key-same a b =
    both_tied (a.0 == b.0) (a.1 == b.1) (nat_cmp a.0 b.0) (nat_cmp a.1 b.1) (unsigned_ties a.0 b.0) (unsigned_ties a.1 b.1)

and-left : (a b : Bool) → (a && b) ≡ true → a ≡ true
and-left true b e = refl
and-left false b e = cc

and-right : (a b : Bool) → (a && b) ≡ true → b ≡ true
and-right true b e = e
and-right false b e = cc

tied-key : (a b : Key) → is_eq (key_cmp a b) ≡ true → a ≡ b
tied-key a b e = grind (arith, key-same, eqb-true, and-left, and-right)

pub equal-key : (a b : Key) → key_cmp a b ≡ Equal → a ≡ b
equal-key a b e = tied-key a b (ap is_eq e)

-- an entry that was put in
pub entry-put : (q k : Key) (at : ℕ) (es : List (Key × ℕ)) →
    entry_at q (insert_entry key_cmp es k at) ≡ cond (is_eq (key_cmp q k)) (Some at) (entry_at q es)
entry-put q k at [] = refl
entry-put q k at (e ∷ es) =
    elim (key_cmp k e.0) as (λ o. key_cmp k e.0 ≡ o → entry_at q (match_ordering o ((k, at) ∷ e ∷ es) ((e.0, at) ∷ es) (e ∷ insert_entry key_cmp es k at)) ≡ cond (is_eq (key_cmp q k)) (Some at) (entry_at q (e ∷ es))) [
      | Less ↦ λ h. refl
      | Equal ↦ λ h. in-place (is_eq (key_cmp q e.0)) (is_eq (key_cmp q k)) (ap (λ x. is_eq (key_cmp q x)) (sym (equal-key k e.0 h)))
      | Greater ↦ λ h. ap (λ o. cond (is_eq (key_cmp q e.0)) (Some e.1) o) (entry-put q k at es) ∙ behind (is_eq (key_cmp q e.0)) (is_eq (key_cmp q k)) (λ s t. other h (sym (tied-key q k t) ∙ tied-key q e.0 s))
    ] refl
  where
    in-place : (s t : Bool) → s ≡ t →
        cond s (Some at) (entry_at q es) ≡ cond t (Some at) (cond s (Some e.1) (entry_at q es))
    in-place true true h = refl
    in-place false false h = refl
    in-place true false h = cc
    in-place false true h = cc

    behind : (s t : Bool) → (s ≡ true → t ≡ true → ⊥) →
        cond s (Some e.1) (cond t (Some at) (entry_at q es)) ≡ cond t (Some at) (cond s (Some e.1) (entry_at q es))
    behind true true h = absurd (h refl refl)
    behind true false h = refl
    behind false t h = refl

    other : key_cmp k e.0 ≡ Greater → k ≡ e.0 → ⊥
    other h s = differ (sym (key-same k e.0) ∙ same) (ap is_eq h)
      where
        same : (k.0 == e.0.0 && k.1 == e.0.1) ≡ true
        same = subst (λ (x : Key). (k.0 == x.0 && k.1 == x.1) ≡ true) s (ap (λ b. b && k.1 == k.1) (eq-eqb k.0 k.0 refl) ∙ eq-eqb k.1 k.1 refl)

        differ : {b : Bool} → b ≡ true → b ≡ false → ⊥
        differ h g = cc

-- The last run.

-- an answer so many codes further on, or an earlier one
abbrev pub answer_from : ℕ → Option ℕ → Option ℕ → Option ℕ
answer_from at (Some k) o = Some (at + k)
answer_from at None o = o

abbrev pub asked_run : List ℕ → ℕ → ℕ → Bool → List Code → Option ℕ
asked_run asked m n inside cs = if is_asked asked m then last_run_from m n inside cs else None

pub answer-or : (at : ℕ) (x o : Option ℕ) (b : Bool) →
    answer_from (suc at) x (cond b (Some at) o) ≡ answer_from at (later_or x b) o
answer-or at (Some k) o b = ap (λ n. Some n) (omega arith)
answer-or at None o true = ap (λ n. Some n) (omega arith)
answer-or at None o false = refl

answer-asked : (a : Bool) (at : ℕ) (x o : Option ℕ) (b : Bool) →
    answer_from (suc at) (if a then x else None) (cond (a && b) (Some at) o) ≡ answer_from at (if a then later_or x b else None) o
answer-asked true at x o b = answer-or at x o b
answer-asked false at x o b = refl

nothing-asked : (a : Bool) (at : ℕ) (o : Option ℕ) → o ≡ answer_from at (if a then None else None) o
nothing-asked true at o = refl
nothing-asked false at o = refl

entry-with : (b : Bool) (q k : Key) (at : ℕ) (es : List (Key × ℕ)) →
    entry_at q (with_run b k at es) ≡ cond (b && is_eq (key_cmp q k)) (Some at) (entry_at q es)
entry-with true q k at es = entry-put q k at es
entry-with false q k at es = refl

-- the run at hand is the one that is asked for
run-here : (asked : List ℕ) (before : Option ℕ) (m n : ℕ) (c : Code) (cs : List Code) →
    ((not (is_same before c.value) && is_asked asked c.value) && is_eq (key_cmp (m, n) (c.value, leading c.value (c ∷ cs)))) ≡ (is_asked asked m && (not (is_same before m) && (c.value == m && leading m (c ∷ cs) == n)))
run-here asked before m n c cs =
    ap (λ b. (not (is_same before c.value) && is_asked asked c.value) && b) (sym (key-same (m, n) (c.value, leading c.value (c ∷ cs))))
    ∙ elim (c.value == m) as (λ b. (c.value == m) ≡ b → ((not (is_same before c.value) && is_asked asked c.value) && (m == c.value && n == leading c.value (c ∷ cs))) ≡ (is_asked asked m && (not (is_same before m) && (b && leading m (c ∷ cs) == n)))) [
      | true ↦ λ h. subst (λ v. ((not (is_same before v) && is_asked asked v) && (m == v && n == leading v (c ∷ cs))) ≡ (is_asked asked m && (not (is_same before m) && (true && leading m (c ∷ cs) == n)))) (sym (eqb-true c.value m h)) (shuffled (not (is_same before m)) (is_asked asked m) (m == m) (n == leading m (c ∷ cs)) (leading m (c ∷ cs) == n) (eq-eqb m m refl) (flipped n (leading m (c ∷ cs))))
      | false ↦ λ h. ap (λ b. (not (is_same before c.value) && is_asked asked c.value) && (b && n == leading c.value (c ∷ cs))) (flipped m c.value ∙ h) ∙ none (not (is_same before c.value) && is_asked asked c.value) (is_asked asked m) (not (is_same before m))
    ] refl
  where
    flipped : (a b : ℕ) → (a == b) ≡ (b == a)
    flipped a b = grind (arith, nat_tests, common_steps)

    shuffled : (x a e s t : Bool) → e ≡ true → s ≡ t → ((x && a) && (e && s)) ≡ (a && (x && (true && t)))
    shuffled true true e s t h k = ap (λ b. b && s) h ∙ k
    shuffled true false e s t h k = refl
    shuffled false true e s t h k = refl
    shuffled false false e s t h k = refl

    none : (x a y : Bool) → (x && false) ≡ (a && (y && false))
    none true true true = refl
    none true true false = refl
    none true false y = refl
    none false true true = refl
    none false true false = refl
    none false false y = refl

entries-are : (asked : List ℕ) (before : Option ℕ) (at : ℕ) (cs : List Code) (es : List (Key × ℕ)) (m n : ℕ) →
    entry_at (m, n) (entries_from asked before at cs es) ≡ answer_from at (asked_run asked m n (is_same before m) cs) (entry_at (m, n) es)
entries-are asked before at [] es m n = nothing-asked (is_asked asked m) at (entry_at (m, n) es)
entries-are asked before at (c ∷ cs) es m n =
    let key : Key = (c.value, leading c.value (c ∷ cs)) in
    let put : Bool = not (is_same before c.value) && is_asked asked c.value in
    entries-are asked (Some c.value) (suc at) cs (with_run put key at es) m n
    ∙ ap (λ o. answer_from (suc at) (asked_run asked m n (c.value == m) cs) o) (entry-with put (m, n) key at es ∙ ap (λ b. cond b (Some at) (entry_at (m, n) es)) (run-here asked before m n c cs))
    ∙ answer-asked (is_asked asked m) at (last_run_from m n (c.value == m) cs) (entry_at (m, n) es) (not (is_same before m) && (c.value == m && leading m (c ∷ cs) == n))

-- an index holds the last run of each value that was asked for
pub entry-is : (asked : List ℕ) (cs : List Code) (m n : ℕ) → is_asked asked m ≡ true →
    entry_at (m, n) (last_runs asked cs).entries ≡ last_run m n cs
entry-is asked cs m n h = entries-are asked None 0 cs [] m n ∙ ap (λ b. answer_from 0 (if b then last_run m n cs else None) None) h ∙ whole (last_run m n cs)
  where
    whole : (o : Option ℕ) → answer_from 0 o None ≡ o
    whole (Some k) = ap (λ n. Some n) (omega arith)
    whole None = refl

-- of codes none of which is asked for
pub without-known : (asked : List ℕ) (cs : List Code) → list_any (λ (c : Code). is_asked asked c.value) cs ≡ false →
    without_runs asked ≡ last_runs asked cs
without-known asked cs h = ap (λ es. record { asked = asked; entries = es }) (sym (stays None 0 cs h))
  where
    stays : (before : Option ℕ) (at : ℕ) (cs : List Code) → list_any (λ (c : Code). is_asked asked c.value) cs ≡ false →
        entries_from asked before at cs [] ≡ []
    stays before at [] h = refl
    stays before at (c ∷ cs) h =
        let parts = or_parts (is_asked asked c.value) (list_any (λ (d : Code). is_asked asked d.value) cs) h in
        ap (λ b. entries_from asked (Some c.value) (suc at) cs (with_run b (c.value, leading c.value (c ∷ cs)) at [])) (and_right (not (is_same before c.value)) (is_asked asked c.value) parts.0) ∙ stays (Some c.value) (suc at) cs parts.1

-- where nothing is asked for, nothing is known
pub none-known : (cs : List Code) → no_runs ≡ last_runs [] cs
none-known cs = without-known [] cs (none cs)
  where
    none : (cs : List Code) → list_any (λ (c : Code). is_asked [] c.value) cs ≡ false
    none [] = refl
    none (c ∷ cs) = none cs

-- no later answer, and none here
pub later-none : (o : Option ℕ) (b : Bool) → later_or o b ≡ None → (o ≡ None) × (b ≡ false)
later-none (Some k) b e = cc
later-none None true e = cc
later-none None false e = (refl, refl)

-- After some codes.

absent : (k : ℕ) → None ≡ Some k → ⊥
absent k e = cc

-- a run further on is a run of the whole, where it does not go on with the codes before
pub later-run : (m n a k : ℕ) (inside : Bool) (cs : List Code) → leading m (drop k cs) ≡ 0 →
    last_run m n (drop k cs) ≡ Some a → last_run_from m n inside cs ≡ Some (k + a)
later-run m n a zero inside [] h e = absurd (absent a e)
later-run m n a zero inside (c ∷ cs) h e =
    let other : (c.value == m) ≡ false = begins (c.value == m) h in
    ap (λ b. later_or (last_run_from m n (c.value == m) cs) (not inside && (b && leading m (c ∷ cs) == n))) other
    ∙ ap (λ b. later_or (last_run_from m n (c.value == m) cs) b) (never (not inside) (leading m (c ∷ cs) == n))
    ∙ sym (ap (λ b. later_or (last_run_from m n (c.value == m) cs) (b && leading m (c ∷ cs) == n)) other)
    ∙ e
    ∙ ap (λ x. Some x) (omega arith)
  where
    begins : (b : Bool) → (if b then suc (leading m cs) else 0) ≡ 0 → b ≡ false
    begins true h = cc
    begins false h = refl

    never : (x t : Bool) → (x && (false && t)) ≡ (false && t)
    never true t = refl
    never false t = refl
later-run m n a (suc k) inside [] h e = absurd (absent a e)
later-run m n a (suc k) inside (c ∷ cs) h e =
    ap (λ o. later_or o (not inside && (c.value == m && leading m (c ∷ cs) == n))) (later-run m n a k (c.value == m) cs h e) ∙ ap (λ x. Some x) (omega arith)

pub none-after : (m n k : ℕ) (cs : List Code) (o : Option ℕ) → leading m (drop k cs) ≡ 0 →
    begins_before k (last_run m n cs) ≡ true → last_run m n (drop k cs) ≡ o → last_run m n (drop k cs) ≡ None
none-after m n k cs None h b e = e
none-after m n k cs (Some a) h b e = absurd (too-late (ap (λ o. begins_before k o) (sym (later-run m n a k false cs h e)) ∙ b))
  where
    too-late : nat_lt (k + a) k ≡ true → ⊥
    too-late t = grind (arith, nat_tests, common_steps, t)

-- where the index of some codes rules a run out after a place that no such code follows, there is none
pub ruled-out : (runs : LastRuns) (cs : List Code) (m n k : ℕ) → runs ≡ last_runs runs.asked cs →
    rules_out runs m n k ≡ true → leading m (drop k cs) ≡ 0 → last_run m n (drop k cs) ≡ None
ruled-out runs cs m n k e r h = grind (arith, and-left, and-right, none-after, entry-is)
