-- The walks that find where no domain begins, and what is known by them.
use Rattle.std.proofs.Common.{◌≡◌, ℕ, zero, suc, ◌+◌, ◌-◌, ◌<◌, ◌≤◌, ◌==◌, ◌&&◌, ◌||◌, nat_le, nat_lt, cond, if◌then◌else◌, Bool, true, false, Option, Some, None, List, [], ◌∷◌, ◌++◌, length, drop, get_or, refl, sym, ap, subst, ◌∙◌, append-nil, arith}
use Rattle.std.specs.List.{list_any}
use Rattle.std.specs.List.Sorted.{IsNonDecreasing}
use Rattle.std.proofs.lemmas.Bool.{eqb-true, le-ltb, lt-ltb}
use Rattle.std.proofs.lemmas.Bool.Decides.{nat_tests}
use Rattle.std.proofs.lemmas.Grind.{common_steps}
use Rattle.std.proofs.lemmas.List.{append_assoc}
use Rattle.markdown_content.specs.Codes.{Code}
use Rattle.markdown_content.specs.Place.{Place, ahead_at, code_at, moved}
use Rattle.markdown_content.specs.PlaceInDocument.{IsPlaceOf}
use Rattle.markdown_event.specs.PlaceIndex.{is_kept}
use Rattle.markdown_content.specs.Stretch.{past_stretch}
use Rattle.markdown_event.specs.declared.event.Point.{Point}
use Rattle.markdown_content.proofs.PlaceRules.{IsAhead, ahead_none, ahead_some, at_moved, end_moved, code_at_ahead, code_at_end}
use Rattle.markdown_content.proofs.StretchLemmas.{kept}
use Rattle.markdown_model.specs.CodeTests.{next_is}
use Rattle.markdown_plan.specs.Characters.{IsText}
use Rattle.markdown_plan.proofs.CharactersAlongContent.{text-moved}
use Rattle.markdown_leaf_gfm.specs.DomainOutlook.{begins_www, opens_www, openings, is_barred, barred_from, no_domains, rules_out, KnowsNoDomains}
use Rattle.markdown_leaf_gfm.specs.DomainScans.{www_at, underscores, ReachesOver}
use Rattle.markdown_leaf_gfm.specs.declared.domain_outlook.Outlook.{Outlook}
use Rattle.markdown_leaf_gfm.proofs.DomainScanLemmas.{reaches-nothing, reaches-past}

-- Whether a literal may begin behind a code.

next-by : (q : Place) (cs : List Code) → ahead_at q ≡ cs →
    next_is (λ (d : Code). begins_www d.value) cs ≡ www_at (code_at q)
next-by q [] e = ap www_at (sym (code_at_end q e))
next-by q (c ∷ cs) e = ap www_at (sym (code_at_ahead q c cs e))

pub opens-here : (p : Place) (v : ℕ) → code_at p ≡ Some v →
    opens_www (ahead_at p) ≡ (v == 95 && www_at (code_at (moved p)))
opens-here p v here =
    let a : IsAhead p v = ahead_some p v here in
    ap opens_www a.codes
    ∙ ap (λ w. w == 95 && next_is (λ (d : Code). begins_www d.value) (ahead_at (moved p))) a.value
    ∙ ap (λ b. v == 95 && b) (next-by (moved p) (ahead_at (moved p)) refl)

no-opening : (v : ℕ) (b : Bool) → list_any (λ n. v == n) underscores ≡ false → v == 95 && b ≡ false
no-opening v b e = by_test (v == 95) e
  where
    by_test : (t : Bool) → t || false ≡ false → t && b ≡ false
    by_test true k = cc
    by_test false k = refl

-- How often.

-- so many are still to be found from a place on
abbrev pub OpeningsAreLeft : ℕ → List Code → ℕ → Place → Type 0
OpeningsAreLeft times cs left p = nat_le times (openings cs) ≡ nat_le left (openings (ahead_at p))

pub left-start : (times : ℕ) (p q : Place) → q ≡ record p { at = 0 } → OpeningsAreLeft times p.codes times q
unfolding ahead_at
left-start times p q e = ap (λ (x : Place). nat_le times (openings (ahead_at x))) (sym e)

count-here : (p : Place) (v : ℕ) → code_at p ≡ Some v →
    openings (ahead_at p) ≡ cond (opens_www (ahead_at p)) 1 0 + openings (ahead_at (moved p))
count-here p v here =
    let a : IsAhead p v = ahead_some p v here in
    ap openings a.codes ∙ ap (λ cs. cond (opens_www cs) 1 0 + openings (ahead_at (moved p))) (sym a.codes)

pub left-one : (times : ℕ) (cs : List Code) (left v : ℕ) (p q : Place) → OpeningsAreLeft times cs left p → 0 < left →
    code_at p ≡ Some v → opens_www (ahead_at p) ≡ true → q ≡ moved p → OpeningsAreLeft times cs (left - 1) q
left-one times cs left v p q k some here opens e =
    k
    ∙ ap (nat_le left) (count-here p v here ∙ ap (λ b. cond b 1 0 + openings (ahead_at (moved p))) opens)
    ∙ fewer left (openings (ahead_at (moved p))) some
    ∙ ap (λ (x : Place). nat_le (left - 1) (openings (ahead_at x))) (sym e)
  where
    fewer : (n m : ℕ) → 0 < n → nat_le n (1 + m) ≡ nat_le (n - 1) m
    fewer n m h = grind (arith, nat_tests, common_steps, h)

pub left-other : (times : ℕ) (cs : List Code) (left v : ℕ) (p q : Place) → OpeningsAreLeft times cs left p →
    code_at p ≡ Some v → opens_www (ahead_at p) ≡ false → q ≡ moved p → OpeningsAreLeft times cs left q
left-other times cs left v p q k here opens e =
    k
    ∙ ap (nat_le left) (count-here p v here ∙ ap (λ b. cond b 1 0 + openings (ahead_at (moved p))) opens ∙ none-more (openings (ahead_at (moved p))))
    ∙ ap (λ (x : Place). nat_le left (openings (ahead_at x))) (sym e)
  where
    none-more : (m : ℕ) → 0 + m ≡ m
    none-more m = omega arith

pub left-stretch : (times : ℕ) (cs : List Code) (left : ℕ) (p : Place) → OpeningsAreLeft times cs left p →
    OpeningsAreLeft times cs left (past_stretch underscores p)
left-stretch times cs left p k =
    kept underscores (λ q. OpeningsAreLeft times cs left q) (λ q v h ending free k. left-other times cs left v q (moved q) k h (opens-here q v h ∙ no-opening v _ free) refl) p k

pub left-none : (times : ℕ) (cs : List Code) (left : ℕ) (p : Place) → OpeningsAreLeft times cs left p → 0 < left →
    code_at p ≡ None → false ≡ nat_le times (openings cs)
left-none times cs left p k some h = sym (k ∙ ap (λ xs. nat_le left (openings xs)) (ahead_none p h) ∙ never left some)
  where
    never : (n : ℕ) → 0 < n → nat_le n 0 ≡ false
    never n h = grind (arith, nat_tests, common_steps, h)

-- Where no domain begins.

-- what was found up to a place, and what is ahead of it, is what there is
pub record Finding (bytes : List ℕ) (start p : Place) (found : List ℕ) (o : Outlook) : Type 0 where
  pub text : IsText bytes p
  pub whole : no_domains bytes start.end.index start.codes ≡ found ++ barred_from bytes p.end.index p.at (ahead_at p)
  pub reaches : ReachesOver bytes p o

first-place : {bytes : List ℕ} {start : Place} → IsPlaceOf bytes start → IsPlaceOf bytes (record start { at = 0 })
first-place k = record { pieces = k.pieces; content = k.content; place = ap (λ (p : Place). record p { at = 0 }) k.place }

restarted : (bytes : List ℕ) (start : Place) → IsText bytes start → IsText bytes (record start { at = 0 })
restarted bytes start k = record { text = k.text; own = first-place k.own; end = k.end; first = k.first; next = k.next; stop = k.stop; byte = k.byte; past = k.past; behind = k.behind }

pub finding-start : (bytes : List ℕ) (start p : Place) (found : List ℕ) (o : Outlook) → p ≡ record start { at = 0 } →
    found ≡ [] → o.end ≡ 0 → IsText bytes start → Finding bytes start p found o
unfolding ahead_at
finding-start bytes start p found o e none ends text =
    subst (λ (x : Place). Finding bytes start x found o) (sym e)
    (record {
      text = restarted bytes start text;
      whole = ap (λ xs. xs ++ barred_from bytes start.end.index 0 start.codes) (sym none);
      reaches = reaches-nothing bytes (record start { at = 0 }) o ends;
    })

-- with this place before the others, if it is barred
abbrev with_place : Bool → ℕ → List ℕ → List ℕ
with_place barred at next = if barred then at ∷ next else next

barred-here : (bytes : List ℕ) (p : Place) (v : ℕ) → code_at p ≡ Some v →
    barred_from bytes p.end.index p.at (ahead_at p) ≡ with_place (opens_www (ahead_at p) && is_barred bytes (moved p).end.index (ahead_at (moved p))) (moved p).at (barred_from bytes (moved p).end.index (moved p).at (ahead_at (moved p)))
barred-here bytes p v here =
    let a : IsAhead p v = ahead_some p v here in
    let step : suc p.at ≡ (moved p).at = omega (arith, at_moved p) in
    ap (barred_from bytes p.end.index p.at) a.codes
    ∙ ap (λ cs. with_place (opens_www cs && is_barred bytes p.end.index (ahead_at (moved p))) (suc p.at) (barred_from bytes p.end.index (suc p.at) (ahead_at (moved p)))) (sym a.codes)
    ∙ ap (λ n. with_place (opens_www (ahead_at p) && is_barred bytes p.end.index (ahead_at (moved p))) n (barred_from bytes p.end.index n (ahead_at (moved p)))) step
    ∙ ap (λ (q : Point). with_place (opens_www (ahead_at p) && is_barred bytes q.index (ahead_at (moved p))) (moved p).at (barred_from bytes q.index (moved p).at (ahead_at (moved p)))) (sym (end_moved p))

-- past a code behind which none is found
pub finding-other : (bytes : List ℕ) (start p q : Place) (v : ℕ) (found : List ℕ) (o next : Outlook) →
    code_at p ≡ Some v → q ≡ moved p → opens_www (ahead_at p) && is_barred bytes q.end.index (ahead_at q) ≡ false →
    ReachesOver bytes q next → Finding bytes start p found o → Finding bytes start q found next
finding-other bytes start p q v found o next here e other reaches k =
    record {
      text = subst (λ (x : Place). IsText bytes x) (sym e) (text-moved bytes p k.text);
      whole = k.whole
          ∙ ap (λ xs. found ++ xs)
          (barred-here bytes p v here
          ∙ ap (λ (x : Place). with_place (opens_www (ahead_at p) && is_barred bytes x.end.index (ahead_at x)) x.at (barred_from bytes x.end.index x.at (ahead_at x))) (sym e)
          ∙ ap (λ b. with_place b q.at (barred_from bytes q.end.index q.at (ahead_at q))) other);
      reaches = reaches;
    }

-- and past one behind which one is
pub finding-one : (bytes : List ℕ) (start p q : Place) (v : ℕ) (found more : List ℕ) (o next : Outlook) →
    code_at p ≡ Some v → q ≡ moved p → opens_www (ahead_at p) && is_barred bytes q.end.index (ahead_at q) ≡ true →
    more ≡ found ++ q.at ∷ [] → ReachesOver bytes q next → Finding bytes start p found o → Finding bytes start q more next
finding-one bytes start p q v found more o next here e one added reaches k =
    record {
      text = subst (λ (x : Place). IsText bytes x) (sym e) (text-moved bytes p k.text);
      whole = k.whole
          ∙ ap (λ xs. found ++ xs)
          (barred-here bytes p v here
          ∙ ap (λ (x : Place). with_place (opens_www (ahead_at p) && is_barred bytes x.end.index (ahead_at x)) x.at (barred_from bytes x.end.index x.at (ahead_at x))) (sym e)
          ∙ ap (λ b. with_place b q.at (barred_from bytes q.end.index q.at (ahead_at q))) one)
          ∙ sym (append_assoc found (q.at ∷ []) (barred_from bytes q.end.index q.at (ahead_at q)))
          ∙ ap (λ xs. xs ++ barred_from bytes q.end.index q.at (ahead_at q)) (sym added);
      reaches = reaches;
    }

second-of : (a b : Bool) → a ≡ false → a && b ≡ false
second-of true b e = cc
second-of false b e = refl

-- past a stretch
pub finding-stretch : (bytes : List ℕ) (start p : Place) (found : List ℕ) (o : Outlook) →
    Finding bytes start p found o → Finding bytes start (past_stretch underscores p) found o
finding-stretch bytes start p found o k =
    kept underscores (λ q. Finding bytes start q found o)
    (λ q v h ending free f. finding-other bytes start q (moved q) v found o o h refl (second-of _ _ (opens-here q v h ∙ no-opening v _ free)) (reaches-past bytes q (moved q) v o h refl f.reaches) f)
    p k

-- past a code, by what the walk tests there

opening-by : (q r : Place) (v : ℕ) (b : Bool) → code_at q ≡ Some v → r ≡ moved q → (v == 95 && www_at (code_at r)) ≡ b →
    opens_www (ahead_at q) ≡ b
opening-by q r v b here e h = opens-here q v here ∙ ap (λ (x : Place). v == 95 && www_at (code_at x)) (sym e) ∙ h

both-by : (a b c : Bool) → a ≡ true → b ≡ c → a && b ≡ c
both-by true b c e h = h
both-by false b c e h = cc

pub finding-closed : (bytes : List ℕ) (start q r : Place) (v : ℕ) (found : List ℕ) (o : Outlook) → code_at q ≡ Some v →
    r ≡ moved q → (v == 95 && www_at (code_at r)) ≡ false → Finding bytes start q found o →
    Finding bytes start r found o
finding-closed bytes start q r v found o here e closed k =
    finding-other bytes start q r v found o o here e (second-of _ _ (opening-by q r v false here e closed)) (reaches-past bytes q r v o here e k.reaches) k

pub finding-plain : (bytes : List ℕ) (start q r : Place) (v n : ℕ) (found : List ℕ) (o next : Outlook) →
    code_at q ≡ Some v → r ≡ moved q → (v == 95 && www_at (code_at r)) ≡ true → ReachesOver bytes r next →
    is_barred bytes r.end.index (ahead_at r) ≡ nat_lt r.at next.barred → n ≡ r.at → next.barred ≤ n →
    Finding bytes start q found o → Finding bytes start r found next
finding-plain bytes start q r v n found o next here e opens reaches known at low k =
    finding-other bytes start q r v found o next here e (both-by _ _ false (opening-by q r v true here e opens) (known ∙ le-ltb r.at next.barred (omega (arith, at, low)))) reaches k

pub finding-barred : (bytes : List ℕ) (start q r : Place) (v n : ℕ) (found more : List ℕ) (o next : Outlook) →
    code_at q ≡ Some v → r ≡ moved q → (v == 95 && www_at (code_at r)) ≡ true → ReachesOver bytes r next →
    is_barred bytes r.end.index (ahead_at r) ≡ nat_lt r.at next.barred → n ≡ r.at → n < next.barred →
    more ≡ found ++ n ∷ [] → Finding bytes start q found o → Finding bytes start r more next
finding-barred bytes start q r v n found more o next here e opens reaches known at high added k =
    finding-one bytes start q r v found more o next here e (both-by _ _ true (opening-by q r v true here e opens) (known ∙ lt-ltb r.at next.barred (omega (arith, at, high)))) (added ∙ ap (λ m. found ++ m ∷ []) at) reaches k

pub opening-one : (times : ℕ) (cs : List Code) (left v : ℕ) (q r : Place) → OpeningsAreLeft times cs left q → 0 < left →
    code_at q ≡ Some v → (v == 95 && www_at (code_at r)) ≡ true → r ≡ moved q → OpeningsAreLeft times cs (left - 1) r
opening-one times cs left v q r k some here opens e =
    left-one times cs left v q r k some here (opening-by q r v true here e opens) e

pub opening-none : (times : ℕ) (cs : List Code) (left v : ℕ) (q r : Place) → OpeningsAreLeft times cs left q →
    code_at q ≡ Some v → (v == 95 && www_at (code_at r)) ≡ false → r ≡ moved q → OpeningsAreLeft times cs left r
opening-none times cs left v q r k here closed e =
    left-other times cs left v q r k here (opening-by q r v false here e closed) e

-- at the end
pub finding-all : (bytes : List ℕ) (start p : Place) (found : List ℕ) (o : Outlook) → code_at p ≡ None →
    Finding bytes start p found o → found ≡ no_domains bytes start.end.index start.codes
finding-all bytes start p found o h k =
    sym (k.whole ∙ ap (λ cs. found ++ barred_from bytes p.end.index p.at cs) (ahead_none p h) ∙ append-nil found)

-- Their order.

low-by : (b : Bool) (at : ℕ) (next : List ℕ) → ((i d : ℕ) → i < length next → suc at < get_or next i d) → (i d : ℕ) →
    i < length (with_place b (suc at) next) → at < get_or (with_place b (suc at) next) i d
low-by true at next low zero d h = omega arith
low-by true at next low (suc i) d h = omega (arith, low i d (omega (arith, h)))
low-by false at next low i d h = omega (arith, low i d h)

places-low : (bytes : List ℕ) (end at : ℕ) (cs : List Code) (i d : ℕ) → i < length (barred_from bytes end at cs) →
    at < get_or (barred_from bytes end at cs) i d
places-low bytes end at [] i d h = absurd (omega (arith, h))
places-low bytes end at (c ∷ cs) i d h =
    low-by (opens_www (c ∷ cs) && is_barred bytes end cs) at (barred_from bytes end (suc at) cs) (places-low bytes end (suc at) cs) i d h

rises-by : (b : Bool) (at : ℕ) (next : List ℕ) → ((i d : ℕ) → i < length next → at < get_or next i d) →
    IsNonDecreasing next → IsNonDecreasing (with_place b at next)
rises-by true at next low up zero zero d le lt = omega arith
rises-by true at next low up zero (suc j) d le lt = omega (arith, low j d (omega (arith, lt)))
rises-by true at next low up (suc i) zero d le lt = absurd (omega (arith, le))
rises-by true at next low up (suc i) (suc j) d le lt = up i j d (omega (arith, le)) (omega (arith, lt))
rises-by false at next low up i j d le lt = up i j d le lt

places-rise : (bytes : List ℕ) (end at : ℕ) (cs : List Code) → IsNonDecreasing (barred_from bytes end at cs)
places-rise bytes end at [] = λ i j d le lt. absurd (omega (arith, lt))
places-rise bytes end at (c ∷ cs) =
    rises-by (opens_www (c ∷ cs) && is_barred bytes end cs) (suc at) (barred_from bytes end (suc at) cs) (places-low bytes end (suc at) cs) (places-rise bytes end (suc at) cs)

pub found-rises : (bytes : List ℕ) (end : ℕ) (cs : List Code) (found : List ℕ) → found ≡ no_domains bytes end cs →
    IsNonDecreasing found
found-rises bytes end cs found e = subst (λ xs. IsNonDecreasing xs) (sym e) (places-rise bytes end 0 cs)

-- What they say of the codes.

-- a place that stands before all of these is none of them
none-kept : (k : ℕ) (places : List ℕ) → ((i d : ℕ) → i < length places → k < get_or places i d) →
    is_kept k places ≡ false
none-kept k [] low = refl
none-kept k (n ∷ places) low = ap (λ b. b || is_kept k places) (unlike n k (low 0 0 (omega arith))) ∙ none-kept k places (λ i d h. low (suc i) d (omega (arith, h)))
  where
    unlike : (a b : ℕ) → b < a → (a == b) ≡ false
    unlike a b e = grind (arith, e)

kept-first : (bytes : List ℕ) (end at : ℕ) (c : Code) (cs : List Code) (k : ℕ) →
    (is_kept (at + suc k) (barred_from bytes end (suc at) cs) ≡ true → is_barred bytes end (drop k cs) ≡ true) →
    is_kept (at + suc k) (barred_from bytes end at (c ∷ cs)) ≡ true → is_barred bytes end (drop k cs) ≡ true
kept-first bytes end at c cs k later e = by_test (opens_www (c ∷ cs)) (is_barred bytes end cs) refl e
  where
    first : (m : ℕ) → is_barred bytes end cs ≡ true → suc at ≡ at + suc m → is_barred bytes end (drop m cs) ≡ true
    first zero h f = h
    first (suc m) h f = absurd (omega (arith, f))

    by_place : (b : Bool) → is_barred bytes end cs ≡ true → (suc at == at + suc k) ≡ b →
        b || is_kept (at + suc k) (barred_from bytes end (suc at) cs) ≡ true → is_barred bytes end (drop k cs) ≡ true
    by_place true here f h = first k here (eqb-true (suc at) (at + suc k) f)
    by_place false here f h = later h

    by_test : (o b : Bool) → is_barred bytes end cs ≡ b →
        is_kept (at + suc k) (with_place (o && b) (suc at) (barred_from bytes end (suc at) cs)) ≡ true →
        is_barred bytes end (drop k cs) ≡ true
    by_test true true here h = by_place (suc at == at + suc k) here refl h
    by_test true false here h = later h
    by_test false b here h = later h

-- a place behind so many of these codes that was found is barred
pub found-barred : (bytes : List ℕ) (end at : ℕ) (cs : List Code) (k : ℕ) →
    is_kept (at + k) (barred_from bytes end at cs) ≡ true → is_barred bytes end (drop k cs) ≡ true
found-barred bytes end at [] k e = cc
found-barred bytes end at (c ∷ cs) zero e = absurd (clash (sym (none-kept (at + 0) (barred_from bytes end at (c ∷ cs)) (λ i d h. omega (arith, places-low bytes end at (c ∷ cs) i d h))) ∙ e))
  where
    clash : false ≡ true → ⊥
    clash x = cc
found-barred bytes end at (c ∷ cs) (suc k) e =
    kept-first bytes end at c cs k (λ h. found-barred bytes end (suc at) cs k (ap (λ n. is_kept n (barred_from bytes end (suc at) cs)) (omega arith) ∙ h)) e

-- where what is known rules a domain out, what is read from there holds a `_` in one of its last two parts
pub ruled-out : (bytes : List ℕ) (end : ℕ) (cs : List Code) (index : Option (List ℕ)) (k : ℕ) →
    KnowsNoDomains bytes end cs index → rules_out index k ≡ true → is_barred bytes end (drop k cs) ≡ true
ruled-out bytes end cs None k right e = cc
ruled-out bytes end cs (Some places) k right e =
    found-barred bytes end 0 cs k (ap (λ n. is_kept n (no_domains bytes end cs)) (omega arith) ∙ ap (is_kept k) (sym (right places refl)) ∙ e)

-- nothing is right for all codes
pub right-unknown : (bytes : List ℕ) (end : ℕ) (cs : List Code) (index : Option (List ℕ)) → index ≡ None →
    KnowsNoDomains bytes end cs index
right-unknown bytes end cs index e places known = absurd (absent (sym e ∙ known))
  where
    absent : None ≡ Some places → ⊥
    absent x = cc
