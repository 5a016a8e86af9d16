-- The walk that finds closing parentheses, and what an index of them says of the codes that it was made of.
use Rattle.std.proofs.Common.{◌≡◌, ℕ, zero, suc, ◌+◌, ◌<◌, ◌≤◌, nat_lt, Bool, true, false, ◌==◌, ◌&&◌, ◌||◌, IsSome, if◌then◌else◌, Option, Some, None, List, [], ◌∷◌, ◌++◌, length, drop, get_or, refl, sym, ap, subst, ◌∙◌, append-nil, arith}
use Rattle.std.specs.List.{AllWithin}
use Rattle.std.specs.List.Sorted.{IsNonDecreasingBy}
use Rattle.std.proofs.lemmas.Bool.{le-ltb, lt-ltb, not-true, or_parts}
use Rattle.std.proofs.lemmas.List.{append_assoc}
use Rattle.markdown_content.specs.Codes.{Code}
use Rattle.markdown_content.specs.Place.{Place, ahead_at, moved, code_at}
use Rattle.markdown_notes.specs.SequenceIndex.{closes_past_spacing}
use Rattle.markdown_notes.specs.TitleIndex.{closes, escapes, closes_resource, closers_from, closers_of, first_twice, rules_out, title_bytes, KnowsClosers}
use Rattle.markdown_notes.specs.declared.title_index.Closer.{Closer}
use Rattle.markdown_content.specs.Stretch.{past_stretch}
use Rattle.markdown_content.proofs.PlaceRules.{IsAhead, ahead_some, ahead_none, at_moved}
use Rattle.markdown_content.proofs.StretchLemmas.{kept, left-behind, left-past}

-- The walk.

-- with a parenthesis at this place before the others, if it is one
abbrev with_closer : Bool → ℕ → Bool → List Closer → List Closer
with_closer found at twice next = if found then record { at = at; twice = twice } ∷ next else next

-- what was found up to a place, and what is ahead of it, is what there is
pub record AreClosersFound (cs : List Code) (p : Place) (slash : Bool) (found : List Closer) : Type 0 where
  pub codes : p.codes ≡ cs
  pub whole : closers_of cs ≡ found ++ closers_from p.at slash (ahead_at p)

pub found-start : (p q : Place) (found : List Closer) → q ≡ record p { at = 0 } → found ≡ [] →
    AreClosersFound p.codes q false found
unfolding ahead_at
found-start p q found e none = grind (arith)

closers-here : (p q : Place) (v : ℕ) (slash : Bool) → code_at p ≡ Some v → q ≡ moved p →
    closers_from p.at slash (ahead_at p) ≡ with_closer (closes slash v) p.at (closes_past_spacing (ahead_at q)) (closers_from q.at (escapes slash v) (ahead_at q))
closers-here p q v slash h e =
    let a : IsAhead p v = ahead_some p v h in
    let next : suc p.at ≡ (moved p).at = omega (arith, at_moved p) in
    ap (closers_from p.at slash) a.codes
    ∙ ap (λ w. with_closer (closes slash w) p.at (closes_past_spacing (ahead_at (moved p))) (closers_from (suc p.at) (escapes slash w) (ahead_at (moved p)))) a.value
    ∙ ap (λ n. with_closer (closes slash v) p.at (closes_past_spacing (ahead_at (moved p))) (closers_from n (escapes slash v) (ahead_at (moved p)))) next
    ∙ ap (λ (x : Place). with_closer (closes slash v) p.at (closes_past_spacing (ahead_at x)) (closers_from x.at (escapes slash v) (ahead_at x))) (sym e)

moved-codes : (p q : Place) → q ≡ moved p → q.codes ≡ p.codes
unfolding moved
moved-codes p q e = ap (λ (x : Place). x.codes) e

-- past a code that is not such a parenthesis
pub found-other : (cs : List Code) (p q : Place) (v : ℕ) (slash next : Bool) (found : List Closer) →
    code_at p ≡ Some v → q ≡ moved p → closes slash v ≡ false → next ≡ escapes slash v → AreClosersFound cs p slash found →
    AreClosersFound cs q next found
found-other cs p q v slash next found h e other escaped k =
    record {
      codes = moved-codes p q e ∙ k.codes;
      whole = k.whole ∙ ap (λ xs. found ++ xs) (closers-here p q v slash h e ∙ ap (λ b. with_closer b p.at (closes_past_spacing (ahead_at q)) (closers_from q.at (escapes slash v) (ahead_at q))) other ∙ ap (λ b. closers_from q.at b (ahead_at q)) (sym escaped));
    }

-- past one
pub found-one : (cs : List Code) (p q : Place) (v : ℕ) (slash next : Bool) (found more : List Closer) →
    code_at p ≡ Some v → q ≡ moved p → closes slash v ≡ true → next ≡ escapes slash v →
    more ≡ found ++ record { at = p.at; twice = closes_past_spacing (ahead_at q) } ∷ [] → AreClosersFound cs p slash found →
    AreClosersFound cs q next more
found-one cs p q v slash next found more h e one escaped added k =
    let here : Closer = record { at = p.at; twice = closes_past_spacing (ahead_at q) } in
    let rest : List Closer = closers_from q.at next (ahead_at q) in
    record {
      codes = moved-codes p q e ∙ k.codes;
      whole = k.whole
          ∙ ap (λ xs. found ++ xs) (closers-here p q v slash h e ∙ ap (λ b. with_closer b p.at (closes_past_spacing (ahead_at q)) (closers_from q.at (escapes slash v) (ahead_at q))) one ∙ ap (λ b. here ∷ closers_from q.at b (ahead_at q)) (sym escaped))
          ∙ sym (append_assoc found (here ∷ []) rest)
          ∙ ap (λ xs. xs ++ rest) (sym added);
    }

-- past a code that is neither a closing parenthesis nor a backslash
pub found-free : (cs : List Code) (p q : Place) (v : ℕ) (found : List Closer) →
    code_at p ≡ Some v → q ≡ moved p → (v == 41) ≡ false → (v == 92) ≡ false → AreClosersFound cs p false found → AreClosersFound cs q false found
found-free cs p q v found h e closer slash k =
    found-other cs p q v false false found h e (rw closer refl) (rw slash refl) k

-- past a closing parenthesis that is not escaped
pub found-closer : (cs : List Code) (p q : Place) (v : ℕ) (found more : List Closer) → code_at p ≡ Some v → v ≡ 41 →
    q ≡ moved p → more ≡ found ++ record { at = p.at; twice = closes_past_spacing (ahead_at q) } ∷ [] → AreClosersFound cs p false found →
    AreClosersFound cs q false more
found-closer cs p q v found more h is e added k =
    found-one cs p q v false false found more h e (ap (closes false) is) (ap (escapes false) (sym is)) added k

-- past a stretch of such codes, of where it leads
pub found-at : (cs : List Code) (p q : Place) (found : List Closer) → q ≡ past_stretch title_bytes p →
    AreClosersFound cs p false found → AreClosersFound cs q false found
found-at cs p q found e k =
    subst (λ (x : Place). AreClosersFound cs x false found) (sym e)
    (kept title_bytes (λ x. AreClosersFound cs x false found) (λ x v h ending free k. found-free cs x (moved x) v found h refl (or_parts (v == 41) ((v == 92) || false) free).0 (or_parts (v == 92) false (or_parts (v == 41) ((v == 92) || false) free).1).0 k) p k)

-- past a backslash that is not escaped, and the code behind it, if there is one
pub found-escaped : (cs : List Code) (p q r : Place) (v : ℕ) (found : List Closer) →
    code_at p ≡ Some v → v ≡ 92 → q ≡ moved p → (IsSome (code_at q) → r ≡ moved q) → (code_at q ≡ None → r ≡ q) →
    AreClosersFound cs p false found → AreClosersFound cs r false found
found-escaped cs p q r v found h is e passed stays k =
    let behind : AreClosersFound cs q true found = found-other cs p q v false true found h e (ap (closes false) is) (ap (escapes false) (sym is)) k in
    elim (code_at q) as (λ o. code_at q ≡ o → AreClosersFound cs r false found) [
      | None ↦ λ none.
          subst (λ (x : Place). AreClosersFound cs x false found) (sym (stays none))
          (record { codes = behind.codes; whole = behind.whole ∙ ap (λ ds. found ++ closers_from q.at true ds) (ahead_none q none) ∙ ap (λ ds. found ++ closers_from q.at false ds) (sym (ahead_none q none)) })
      | Some w ↦ λ some.
          found-other cs q r w true false found some (passed (subst IsSome (sym some) refl)) (and-false (w == 41)) (sym (and-false (w == 92))) behind
    ] refl
  where
    and-false : (b : Bool) → (b && false) ≡ false
    and-false true = refl
    and-false false = refl

-- fewer codes are left past the code at which a stretch ends
pub left-stop : (p q r : Place) (v : ℕ) → q ≡ past_stretch title_bytes p → code_at q ≡ Some v → r ≡ moved q →
    length (ahead_at r) < length (ahead_at p)
left-stop p q r v e h past = grind (arith, left-past, left-behind)

-- no more are left past an escaped one
pub left-escaped : (q r : Place) → (IsSome (code_at q) → r ≡ moved q) → (code_at q ≡ None → r ≡ q) →
    length (ahead_at r) ≤ length (ahead_at q)
left-escaped q r passed stays = grind (arith, left-past)

-- at the end
pub found-all : (cs : List Code) (p : Place) (slash : Bool) (found : List Closer) → code_at p ≡ None →
    AreClosersFound cs p slash found → found ≡ closers_of cs
found-all cs p slash found h k =
    sym (k.whole ∙ ap (λ ds. found ++ closers_from p.at slash ds) (ahead_none p h) ∙ append-nil found)

-- Their order.

low-by : (found : Bool) (at : ℕ) (twice : Bool) (next : List Closer) →
    ((i : ℕ) (d : Closer) → i < length next → suc at ≤ (get_or next i d).at) → (i : ℕ) (d : Closer) →
    i < length (with_closer found at twice next) → at ≤ (get_or (with_closer found at twice next) i d).at
low-by true at twice next low zero d h = omega arith
low-by true at twice next low (suc i) d h = omega (arith, low i d (omega (arith, h)))
low-by false at twice next low i d h = omega (arith, low i d h)

closers-low : (at : ℕ) (slash : Bool) (cs : List Code) (i : ℕ) (d : Closer) → i < length (closers_from at slash cs) →
    at ≤ (get_or (closers_from at slash cs) i d).at
closers-low at slash [] i d h = absurd (omega (arith, h))
closers-low at slash (c ∷ cs) i d h =
    low-by (closes slash c.value) at (closes_past_spacing cs) _ (closers-low (suc at) (escapes slash c.value) cs) i d h

abbrev Rises : List Closer → Type 0
Rises found = IsNonDecreasingBy (λ (c : Closer). c.at) found

rises-by : (found : Bool) (at : ℕ) (twice : Bool) (next : List Closer) →
    ((i : ℕ) (d : Closer) → i < length next → suc at ≤ (get_or next i d).at) → Rises next →
    Rises (with_closer found at twice next)
rises-by true at twice next low up zero zero d le lt = omega arith
rises-by true at twice next low up zero (suc j) d le lt = omega (arith, low j d (omega (arith, lt)))
rises-by true at twice next low up (suc i) zero d le lt = absurd (omega (arith, le))
rises-by true at twice next low up (suc i) (suc j) d le lt = up i j d (omega (arith, le)) (omega (arith, lt))
rises-by false at twice next low up i j d le lt = up i j d le lt

closers-rise : (at : ℕ) (slash : Bool) (cs : List Code) → Rises (closers_from at slash cs)
closers-rise at slash [] = λ i j d le lt. absurd (omega (arith, lt))
closers-rise at slash (c ∷ cs) =
    rises-by (closes slash c.value) at (closes_past_spacing cs) _ (closers-low (suc at) (escapes slash c.value) cs) (closers-rise (suc at) (escapes slash c.value) cs)

pub found-rises : (cs : List Code) (found : List Closer) → found ≡ closers_of cs → Rises found
found-rises cs found e = subst Rises (sym e) (closers-rise 0 false cs)

-- The first one from a place on.

pub first-found : (at i : ℕ) (cs : List Closer) (d : Closer) →
    AllWithin (λ (c : Closer). nat_lt c.at at ≡ true) cs 0 i →
    AllWithin (λ (c : Closer). nat_lt c.at at ≡ false) cs i (length cs) → i < length cs →
    (get_or cs i d).twice ≡ first_twice at cs
first-found at i [] d before after h = absurd (omega (arith, h))
first-found at zero (c ∷ cs) d before after h =
    sym (ap (λ b. if b then first_twice at cs else c.twice) (after 0 d (omega arith) (omega arith)))
first-found at (suc i) (c ∷ cs) d before after h =
    first-found at i cs d (λ k e low high. before (suc k) e (omega arith) (omega (arith, high))) (λ k e low high. after (suc k) e (omega (arith, low)) (omega (arith, high))) (omega (arith, h))
    ∙ sym (ap (λ b. if b then first_twice at cs else c.twice) (before 0 d (omega arith) (omega arith)))

pub none-found : (at i : ℕ) (cs : List Closer) → AllWithin (λ (c : Closer). nat_lt c.at at ≡ true) cs 0 i →
    length cs ≤ i → first_twice at cs ≡ false
none-found at i [] before h = refl
none-found at zero (c ∷ cs) before h = absurd (omega (arith, h))
none-found at (suc i) (c ∷ cs) before h =
    ap (λ b. if b then first_twice at cs else c.twice) (before 0 c (omega arith) (omega arith))
    ∙ none-found at i cs (λ k e low high. before (suc k) e (omega arith) (omega (arith, high))) (omega (arith, h))

-- What it says of the codes.

-- none of these stands before the place
from-start : (m at : ℕ) (slash : Bool) (cs : List Code) → m ≤ at →
    first_twice m (closers_from at slash cs) ≡ closes_resource slash cs
from-start m at slash [] h = refl
from-start m at slash (c ∷ cs) h = by-found (closes slash c.value) (closers_from (suc at) (escapes slash c.value) cs) (closes_resource (escapes slash c.value) cs) (from-start m (suc at) (escapes slash c.value) cs (omega (arith, h)))
  where
    by-found : (found : Bool) (next : List Closer) (later : Bool) → first_twice m next ≡ later →
        first_twice m (with_closer found at (closes_past_spacing cs) next) ≡ (if found then closes_past_spacing cs else later)
    by-found true next later e = ap (λ b. if b then first_twice m next else closes_past_spacing cs) (le-ltb at m h)
    by-found false next later e = e

-- an opening parenthesis is neither escaped nor escapes
past-opening : (m at : ℕ) (slash : Bool) (c : Code) (cs : List Code) → c.value ≡ 40 → m ≤ at →
    first_twice m (closers_from at slash (c ∷ cs)) ≡ closes_resource false cs
past-opening m at slash c cs e h = grind (arith, from-start)

pub closer-behind : (k at : ℕ) (slash : Bool) (cs ds : List Code) (c : Code) → drop k cs ≡ c ∷ ds → c.value ≡ 40 →
    first_twice (at + k) (closers_from at slash cs) ≡ closes_resource false ds
closer-behind zero at slash cs ds c here e =
    ap (λ xs. first_twice (at + 0) (closers_from at slash xs)) here ∙ past-opening (at + 0) at slash c ds e (omega arith)
closer-behind (suc k) at slash [] ds c here e = cc
closer-behind (suc k) at slash (d ∷ cs) ds c here e =
    past-one (closes slash d.value)
    ∙ ap (λ n. first_twice n (closers_from (suc at) (escapes slash d.value) cs)) (omega arith)
    ∙ closer-behind k (suc at) (escapes slash d.value) cs ds c here e
  where
    past-one : (found : Bool) →
        first_twice (at + suc k) (with_closer found at (closes_past_spacing cs) (closers_from (suc at) (escapes slash d.value) cs)) ≡ first_twice (at + suc k) (closers_from (suc at) (escapes slash d.value) cs)
    past-one true =
        ap (λ b. if b then first_twice (at + suc k) (closers_from (suc at) (escapes slash d.value) cs) else closes_past_spacing cs) (lt-ltb at (at + suc k) (omega arith))
    past-one false = refl

-- where an index that is right for some codes rules a resource out behind a title that begins after so many, none ends there
pub ruled-out : (index : Option (List Closer)) (cs ds : List Code) (c : Code) (k : ℕ) → KnowsClosers cs index →
    rules_out index k ≡ true → drop k cs ≡ c ∷ ds → c.value ≡ 40 → closes_resource false ds ≡ false
ruled-out None cs ds c k right h here e = cc
ruled-out (Some closers) cs ds c k right h here e =
    sym (ap (first_twice k) (right closers refl) ∙ ap (λ n. first_twice n (closers_of cs)) (omega arith) ∙ closer-behind k 0 false cs ds c here e) ∙ not-true (first_twice k closers) h

-- nothing is right for all codes
pub right-unknown : (cs : List Code) (index : Option (List Closer)) → index ≡ None → KnowsClosers cs index
right-unknown cs index e closers known = absurd (absent (sym e ∙ known))
  where
    absent : None ≡ Some closers → ⊥
    absent x = cc
