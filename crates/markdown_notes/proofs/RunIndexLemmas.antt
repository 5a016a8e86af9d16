-- Runs of one code: a walk from run to run.
use Rattle.std.proofs.Common.{◌≡◌, ℕ, suc, ◌+◌, ◌-◌, ◌<◌, ◌==◌, ◌&&◌, not, Bool, true, false, Option, Some, None, List, [], ◌∷◌, length, drop, refl, sym, ap, subst, ◌∙◌, arith}
use Rattle.std.proofs.lemmas.Bool.{eqb-true, ne_eqb, eq-eqb}
use Rattle.std.proofs.lemmas.List.{drop-drop, length-drop}
use Rattle.markdown_content.specs.Codes.{Code}
use Rattle.markdown_content.specs.Place.{Place, ahead_at, moved, code_at}
use Rattle.markdown_notes.specs.RunIndex.{leading, Key, LastRuns, is_asked, with_run, entries_from, last_runs, entry_at, begins_before, rules_out, past_run}
use Rattle.markdown_content.specs.Stretch.{past_stretch}
use Rattle.markdown_content.proofs.PlaceRules.{IsAhead, ahead_some, ahead_none, at_moved, codes_moved, left_moved}
use Rattle.markdown_content.proofs.StretchLemmas.{kept}

-- The first run.

leading-more : (v : ℕ) (c : Code) (cs : List Code) → (c.value == v) ≡ true → leading v (c ∷ cs) ≡ suc (leading v cs)
leading-more v c cs h = rw (h, leading) refl

leading-none : (v : ℕ) (c : Code) (cs : List Code) → (c.value == v) ≡ false → leading v (c ∷ cs) ≡ 0
leading-none v c cs h = rw (h, leading) refl

-- One code of a run is passed, and its end.

pub past-one : (v : ℕ) (p : Place) → code_at p ≡ Some v → past_run v (moved p) ≡ past_run v p
unfolding moved
past-one v p h =
    let a : IsAhead p v = ahead_some p v h in
    let more : leading v (ahead_at p) ≡ suc (leading v (ahead_at (moved p))) = ap (leading v) a.codes ∙ leading-more v a.code (ahead_at (moved p)) (ap (λ k. k == v) a.value ∙ eq-eqb v v refl) in
    ap (λ n. record p { at = n }) (omega (arith, more))

no-run : (v : ℕ) (p : Place) (o : Option ℕ) → code_at p ≡ o → (o ≡ Some v → ⊥) → leading v (ahead_at p) ≡ 0
no-run v p None h other = ap (leading v) (ahead_none p h)
no-run v p (Some w) h other =
    let a : IsAhead p w = ahead_some p w h in
    ap (leading v) a.codes ∙ leading-none v a.code (ahead_at (moved p)) (ap (λ k. k == v) a.value ∙ ne_eqb w v (λ e. other (ap (λ k. Some k) e)))

pub past-none : (v : ℕ) (p : Place) → (code_at p ≡ Some v → ⊥) → past_run v p ≡ p
past-none v p other = ap (λ n. record p { at = n }) (omega (arith, no-run v p (code_at p) refl other))

-- Past a whole run.

-- a code further on inside a run
entries-inside : (asked : List ℕ) (v at : ℕ) (cs : List Code) (es : List (Key × ℕ)) →
    entries_from asked (Some v) at cs es ≡ entries_from asked None (at + leading v cs) (drop (leading v cs) cs) es
entries-inside asked v at [] es = refl
entries-inside asked v at (c ∷ cs) es =
    elim (c.value == v) as (λ b. (c.value == v) ≡ b → entries_from asked (Some v) at (c ∷ cs) es ≡ entries_from asked None (at + leading v (c ∷ cs)) (drop (leading v (c ∷ cs)) (c ∷ cs)) es) [
      | true ↦ λ h.
          let same : c.value ≡ v = eqb-true c.value v h in
          let key : Key = (c.value, leading c.value (c ∷ cs)) in
          ap (λ b. entries_from asked (Some c.value) (suc at) cs (with_run (not b && is_asked asked c.value) key at es)) (flipped v c.value true h)
          ∙ ap (λ w. entries_from asked (Some w) (suc at) cs es) same
          ∙ entries-inside asked v (suc at) cs es
          ∙ ap (λ n. entries_from asked None n (drop (leading v cs) cs) es) (omega arith)
          ∙ ap (λ r. entries_from asked None (at + r) (drop r (c ∷ cs)) es) (sym (leading-more v c cs h))
      | false ↦ λ h.
          let key : Key = (c.value, leading c.value (c ∷ cs)) in
          ap (λ b. entries_from asked (Some c.value) (suc at) cs (with_run (not b && is_asked asked c.value) key at es)) (flipped v c.value false h)
          ∙ ap (λ n. entries_from asked None n (c ∷ cs) es) (omega arith)
          ∙ ap (λ r. entries_from asked None (at + r) (drop r (c ∷ cs)) es) (sym (leading-none v c cs h))
    ] refl
  where
    flipped : (a b : ℕ) (t : Bool) → (b == a) ≡ t → (a == b) ≡ t
    flipped a b t h = grind (arith, h)

-- a run is passed that comes first
pub entries-past : (asked : List ℕ) (v at : ℕ) (c : Code) (cs : List Code) (es : List (Key × ℕ)) → c.value ≡ v →
    entries_from asked None at (c ∷ cs) es ≡ entries_from asked None (at + leading v (c ∷ cs)) (drop (leading v (c ∷ cs)) (c ∷ cs)) (with_run (is_asked asked v) (v, leading v (c ∷ cs)) at es)
entries-past asked v at c cs es e = grind (arith, eq-eqb, entries-inside, leading-more)

ahead-past : (v : ℕ) (p : Place) → ahead_at (past_run v p) ≡ drop (leading v (ahead_at p)) (ahead_at p)
unfolding ahead_at
ahead-past v p = sym (drop-drop (leading v (ahead_at p)) p.at p.codes)

-- what the walk has to show
pub run-past : (asked : List ℕ) (v : ℕ) (p : Place) (es : List (Key × ℕ)) → code_at p ≡ Some v →
    entries_from asked None p.at (ahead_at p) es ≡ entries_from asked None (past_run v p).at (ahead_at (past_run v p)) (with_run (is_asked asked v) (v, (past_run v p).at - p.at) p.at es)
run-past asked v p es h =
    let a : IsAhead p v = ahead_some p v h in
    let size : ℕ = leading v (ahead_at p) in
    ap (λ cs. entries_from asked None p.at cs es) a.codes
    ∙ entries-past asked v p.at a.code (ahead_at (moved p)) es a.value
    ∙ ap (λ cs. entries_from asked None (p.at + leading v cs) (drop (leading v cs) cs) (with_run (is_asked asked v) (v, leading v cs) p.at es)) (sym a.codes)
    ∙ ap (λ n. entries_from asked None (p.at + size) (drop size (ahead_at p)) (with_run (is_asked asked v) (v, n) p.at es)) (omega arith)
    ∙ ap (λ cs. entries_from asked None (p.at + size) cs (with_run (is_asked asked v) (v, (p.at + size) - p.at) p.at es)) (sym (ahead-past v p))

pub run-left : (v : ℕ) (p : Place) → code_at p ≡ Some v → length (ahead_at (past_run v p)) < length (ahead_at p)
run-left v p h =
    let a : IsAhead p v = ahead_some p v h in
    let more : leading v (ahead_at p) ≡ suc (leading v (ahead_at (moved p))) = ap (leading v) a.codes ∙ leading-more v a.code (ahead_at (moved p)) (ap (λ k. k == v) a.value ∙ eq-eqb v v refl) in
    let some : length (ahead_at (moved p)) + 1 ≡ length (ahead_at p) = left_moved p v h in
    let left : length (ahead_at (past_run v p)) ≡ length (ahead_at p) - leading v (ahead_at p) = ap length (ahead-past v p) ∙ length-drop (leading v (ahead_at p)) (ahead_at p) in
    omega (arith, more, some, left)

pub start-entries : (asked : List ℕ) (p q : Place) (es : List (Key × ℕ)) → q ≡ record p { at = 0 } → es ≡ [] →
    (q.codes ≡ p.codes) × (entries_from asked None 0 p.codes [] ≡ entries_from asked None q.at (ahead_at q) es)
unfolding ahead_at
start-entries asked p q es e h =
    (ap (λ (x : Place). x.codes) e, ap (λ xs. entries_from asked None 0 p.codes xs) (sym h) ∙ ap (λ (x : Place). entries_from asked None x.at (ahead_at x) es) (sym e))

-- after a run
pub found-past : (asked : List ℕ) (v : ℕ) (p q : Place) (cs : List Code) (es fs : List (Key × ℕ)) → code_at p ≡ Some v →
    q ≡ past_run v p → fs ≡ with_run (is_asked asked v) (v, q.at - p.at) p.at es →
    (p.codes ≡ cs) × (entries_from asked None 0 cs [] ≡ entries_from asked None p.at (ahead_at p) es) →
    (q.codes ≡ cs) × (entries_from asked None 0 cs [] ≡ entries_from asked None q.at (ahead_at q) fs)
found-past asked v p q cs es fs h e f k =
    (ap (λ (x : Place). x.codes) e ∙ k.0, k.1 ∙ run-past asked v p es h ∙ ap (λ (x : Place). entries_from asked None x.at (ahead_at x) (with_run (is_asked asked v) (v, x.at - p.at) p.at es)) (sym e) ∙ ap (λ xs. entries_from asked None q.at (ahead_at q) xs) (sym f))

-- a code that is not asked for stands before
entries-behind : (asked : List ℕ) (v at : ℕ) (cs : List Code) (es : List (Key × ℕ)) → is_asked asked v ≡ false →
    entries_from asked (Some v) at cs es ≡ entries_from asked None at cs es
entries-behind asked v at [] es h = refl
entries-behind asked v at (c ∷ cs) es h =
    let key : Key = (c.value, leading c.value (c ∷ cs)) in
    elim (v == c.value) as (λ b. (v == c.value) ≡ b → entries_from asked (Some c.value) (suc at) cs (with_run (not b && is_asked asked c.value) key at es) ≡ entries_from asked (Some c.value) (suc at) cs (with_run (is_asked asked c.value) key at es)) [
      | true ↦ λ e. ap (λ b. entries_from asked (Some c.value) (suc at) cs (with_run b key at es)) (sym (ap (is_asked asked) (sym (eqb-true v c.value e)) ∙ h))
      | false ↦ λ e. refl
    ] refl

none-asked : (asked : List ℕ) (v : ℕ) (p : Place) (es : List (Key × ℕ)) → code_at p ≡ Some v →
    is_asked asked v ≡ false →
    entries_from asked None p.at (ahead_at p) es ≡ entries_from asked None (moved p).at (ahead_at (moved p)) es
none-asked asked v p es h free =
    let a : IsAhead p v = ahead_some p v h in
    let key : Key = (a.code.value, leading a.code.value (a.code ∷ ahead_at (moved p))) in
    let other : is_asked asked a.code.value ≡ false = ap (is_asked asked) a.value ∙ free in
    ap (λ cs. entries_from asked None p.at cs es) a.codes
    ∙ ap (λ b. entries_from asked (Some a.code.value) (suc p.at) (ahead_at (moved p)) (with_run b key p.at es)) other
    ∙ entries-behind asked a.code.value (suc p.at) (ahead_at (moved p)) es other
    ∙ ap (λ n. entries_from asked None n (ahead_at (moved p)) es) (add-one-sym p.at ∙ sym (at_moved p))
  where
    add-one-sym : (n : ℕ) → suc n ≡ n + 1
    add-one-sym n = omega arith

-- past a stretch of such codes
found-stretch : (asked : List ℕ) (p : Place) (cs : List Code) (es : List (Key × ℕ)) →
    (p.codes ≡ cs) × (entries_from asked None 0 cs [] ≡ entries_from asked None p.at (ahead_at p) es) →
    ((past_stretch asked p).codes ≡ cs) × (entries_from asked None 0 cs [] ≡ entries_from asked None (past_stretch asked p).at (ahead_at (past_stretch asked p)) es)
found-stretch asked p cs es k =
    kept asked (λ q. (q.codes ≡ cs) × (entries_from asked None 0 cs [] ≡ entries_from asked None q.at (ahead_at q) es)) (λ q v h ending free k. (codes_moved q ∙ k.0, k.1 ∙ none-asked asked v q es h free)) p k

-- the same, of where it leads
pub found-at : (asked : List ℕ) (p q : Place) (cs : List Code) (es : List (Key × ℕ)) → q ≡ past_stretch asked p →
    (p.codes ≡ cs) × (entries_from asked None 0 cs [] ≡ entries_from asked None p.at (ahead_at p) es) →
    (q.codes ≡ cs) × (entries_from asked None 0 cs [] ≡ entries_from asked None q.at (ahead_at q) es)
found-at asked p q cs es e k =
    subst (λ (x : Place). (x.codes ≡ cs) × (entries_from asked None 0 cs [] ≡ entries_from asked None x.at (ahead_at x) es)) (sym e) (found-stretch asked p cs es k)

pub run-shorter : (v : ℕ) (p q : Place) → code_at p ≡ Some v → q ≡ past_run v p →
    length (ahead_at q) < length (ahead_at p)
run-shorter v p q h e = subst (λ (x : Place). length (ahead_at x) < length (ahead_at p)) (sym e) (run-left v p h)

pub found-all : (asked : List ℕ) (p : Place) (cs : List Code) (es : List (Key × ℕ)) → code_at p ≡ None →
    (p.codes ≡ cs) × (entries_from asked None 0 cs [] ≡ entries_from asked None p.at (ahead_at p) es) →
    ◌≡◌ {A = LastRuns} (record { asked = asked; entries = es }) (last_runs asked cs)
found-all asked p cs es h k =
    ap (λ xs. record { asked = asked; entries = xs }) (sym (k.1 ∙ ap (λ ys. entries_from asked None p.at ys es) (ahead_none p h)))

-- What the calls answer.

pub asked-entries : (asked : List ℕ) (v n at : ℕ) (b : Bool) (es : List (Key × ℕ)) → b ≡ is_asked asked v →
    with_run b (v, n) at es ≡ with_run (is_asked asked v) (v, n) at es
asked-entries asked v n at b es e = ap (λ t. with_run t (v, n) at es) e

pub answered : (runs : LastRuns) (v n at : ℕ) (o : Option ℕ) → is_asked runs.asked v ≡ true →
    entry_at (v, n) runs.entries ≡ o → begins_before at o ≡ rules_out runs v n at
answered runs v n at o h e =
    sym (ap (λ b. b && begins_before at (entry_at (v, n) runs.entries)) h ∙ ap (λ x. begins_before at x) e)
