-- The codes of a value that are passed are the bytes of the document just before the place.
use Rattle.std.proofs.Common.{◌≡◌, ℕ, zero, suc, ◌+◌, ◌-◌, ◌<◌, ◌≤◌, nat_lt, Bool, true, false, ◌&&◌, Option, Some, None, List, [], ◌∷◌, ◌++◌, length, take, drop, slice_get, add-one, refl, sym, ap, subst, ◌∙◌, arith, inl, inr}
use Rattle.std.specs.Prelude.{get_or}
use Rattle.std.proofs.lemmas.List.{take_more, length-take, length-drop, get_or_past, get_or-drop}
use Rattle.std.specs.List.{list_all, slice_range}
use Rattle.markdown_content.specs.Codes.{Code}
use Rattle.markdown_content.specs.PlaceInDocument.{IsPlaceOf}
use Rattle.markdown_content.specs.Place.{Place, moved, code_at, point_of, start_or, value_of}
use Rattle.markdown_engine.specs.Operations.{Consume, applied, current_of, done, scratched}
use Rattle.markdown_engine.specs.declared.tokenizer.Tokenizer.{Tokenizer}
use Rattle.markdown_leaf.specs.CharacterReference.{IsValue, read_of, sized}
use Rattle.markdown_util.specs.Reference.{IsReferenceMarker, is_value_byte}
use Rattle.std.proofs.lemmas.Grind.{common_steps}
use Rattle.markdown_model.proofs.GrammarSteps.{and-left, and-right}
use Rattle.markdown_model.specs.CodeTests.{is_between, is_later_byte, values_of}
use Rattle.markdown_plan.proofs.ContentCharacters.{content-text}
use Rattle.markdown_plan.specs.Characters.{IsText}

-- The document is read as characters.

pub place-text : (bytes : List ℕ) (p : Place) → IsPlaceOf bytes p → IsText bytes p
place-text bytes p k = subst (λ (q : Place). IsText bytes q) (sym k.place) (content-text bytes k.pieces p.at k.content)

later-high : (v : ℕ) → is_between 128 191 v ≡ true → 32 < v
later-high v e = grind arith

byte-inside : (bytes : List ℕ) (i v : ℕ) → get_or bytes i 0 ≡ v → 32 < v → i < length bytes
byte-inside bytes i v e h = by_size (nat_lt i (length bytes)) refl
  where
    by_size : (b : Bool) → nat_lt i (length bytes) ≡ b → i < length bytes
    by_size true k = grind arith
    by_size false k =
        let zero : get_or bytes i 0 ≡ 0 = get_or_past bytes i 0 (grind arith) in omega arith

pub point-inside : (bytes : List ℕ) (p : Place) → IsText bytes p → (point_of p).index ≤ length bytes
unfolding point_of
point-inside bytes p k = by_code (slice_get p.codes p.at) refl
  where
    by_test : (c : Code) (b : Bool) → slice_get p.codes p.at ≡ Some c → is_later_byte c ≡ b → c.start.index ≤ length bytes
    by_test c true e h = omega (arith, byte-inside bytes c.start.index c.value (k.byte p.at c e (later-high c.value h)) (later-high c.value h))
    by_test c false e h = (k.first p.at c e h).0

    by_code : (o : Option Code) → slice_get p.codes p.at ≡ o → (start_or o p.end).index ≤ length bytes
    by_code None e = k.end.0
    by_code (Some c) e = by_test c (is_later_byte c) e refl

-- Values of codes.

values-none : (cs : List Code) (m : ℕ) → slice_get cs m ≡ None → drop m (values_of cs) ≡ []
values-none [] zero e = refl
values-none [] (suc m) e = refl
values-none (c ∷ cs) zero e = cc
values-none (c ∷ cs) (suc m) e = values-none cs m e

values-some : (cs : List Code) (m : ℕ) (c : Code) → slice_get cs m ≡ Some c →
    drop m (values_of cs) ≡ c.value ∷ drop (suc m) (values_of cs)
values-some [] zero c e = cc
values-some [] (suc m) c e = cc
values-some (d ∷ cs) zero c e = cc
values-some (d ∷ cs) (suc m) c e = values-some cs m c e

drop-here : (bytes : List ℕ) (i : ℕ) → i < length bytes → drop i bytes ≡ get_or bytes i 0 ∷ drop (suc i) bytes
drop-here [] i h = absurd (omega (arith, h))
drop-here (b ∷ bytes) zero h = refl
drop-here (b ∷ bytes) (suc i) h = drop-here bytes i (omega (arith, h))

-- Codes above the space, one after another, are the bytes at the first of them.

abbrev pub is_high : ℕ → Bool
is_high v = nat_lt 32 v

high-above : (v : ℕ) → is_high v ≡ true → 32 < v
high-above v e = grind arith

start_at : Place → ℕ → ℕ
start_at p m = (start_or (slice_get p.codes m) p.end).index

AreBytes : List ℕ → Place → ℕ → ℕ → Type 0
AreBytes bytes p n m =
    (start_at p (m + n) ≡ start_at p m + n) × (take n (drop (start_at p m) bytes) ≡ take n (drop m (values_of p.codes)))

are-bytes : (bytes : List ℕ) (p : Place) → IsText bytes p → (n m : ℕ) →
    length (take n (drop m (values_of p.codes))) ≡ n → list_all is_high (take n (drop m (values_of p.codes))) ≡ true →
    AreBytes bytes p n m
unfolding AreBytes start_at
are-bytes bytes p k zero m l h =
    let none : m + 0 ≡ m = omega arith in
    (ap (start_at p) none ∙ omega arith, refl)
are-bytes bytes p k (suc n) m l h = by_code (slice_get p.codes m) (are-bytes bytes p k n (suc m)) refl
  where
    by_code : (o : Option Code) →
        (length (take n (drop (suc m) (values_of p.codes))) ≡ n → list_all is_high (take n (drop (suc m) (values_of p.codes))) ≡ true → AreBytes bytes p n (suc m)) →
        slice_get p.codes m ≡ o → AreBytes bytes p (suc n) m
    by_code None on e =
        let none : length (take (suc n) (drop m (values_of p.codes))) ≡ 0 = ap (λ vs. length (take (suc n) vs)) (values-none p.codes m e) in
        absurd (omega (arith, none, l))
    by_code (Some c) on e =
        let here : drop m (values_of p.codes) ≡ c.value ∷ drop (suc m) (values_of p.codes) = values-some p.codes m c e in
        let all : is_high c.value && list_all is_high (take n (drop (suc m) (values_of p.codes))) ≡ true = sym (ap (λ vs. list_all is_high (take (suc n) vs)) here) ∙ h in
        let size : suc (length (take n (drop (suc m) (values_of p.codes)))) ≡ suc n = sym (ap (λ vs. length (take (suc n) vs)) here) ∙ l in
        let above : 32 < c.value = high-above c.value (and-left _ _ all) in
        let byte : get_or bytes c.start.index 0 ≡ c.value = k.byte m c e above in
        let next : start_at p (suc m) ≡ c.start.index + 1 = k.behind m c e above in
        let first : start_at p m ≡ c.start.index = ap (λ (o : Option Code). (start_or o p.end).index) e in
        let fewer : length (take n (drop (suc m) (values_of p.codes))) ≡ n = omega (arith, size) in
        let last : start_at p (suc m) + n ≡ start_at p m + suc n = omega (arith, next, first) in
        let rest : AreBytes bytes p n (suc m) = on fewer (and-right _ _ all) in
        let moved : m + suc n ≡ suc m + n = omega arith in
        let front : drop c.start.index bytes ≡ c.value ∷ drop (c.start.index + 1) bytes = drop-here bytes c.start.index (byte-inside bytes c.start.index c.value byte above) ∙ ap (λ b. b ∷ drop (suc c.start.index) bytes) byte ∙ ap (λ i. c.value ∷ drop i bytes) (sym (add-one c.start.index)) in (
          ap (start_at p) moved ∙ rest.0 ∙ last,
          ap (λ i. take (suc n) (drop i bytes)) first
              ∙ ap (take (suc n)) front
              ∙ ap (λ i. c.value ∷ take n (drop i bytes)) (sym next)
              ∙ ap (λ vs. c.value ∷ vs) rest.1
              ∙ sym (ap (take (suc n)) here),
        )

-- The codes of a value are above the space.

-- a code of a value is above the space
value-high : (m c : ℕ) → IsReferenceMarker m → is_value_byte m c ≡ true → 32 < c
value-high m c (inl e) h = name-high c (subst (λ k. is_value_byte k c ≡ true) e h)
  where
    name-high : (c : ℕ) → is_value_byte 38 c ≡ true → 32 < c
    name-high c h = grind (arith, common_steps)
value-high m c (inr (inl e)) h = decimal-high c (subst (λ k. is_value_byte k c ≡ true) e h)
  where
    decimal-high : (c : ℕ) → is_value_byte 35 c ≡ true → 32 < c
    decimal-high c h = grind (arith, common_steps)
value-high m c (inr (inr e)) h = hexadecimal-high c (subst (λ k. is_value_byte k c ≡ true) e h)
  where
    hexadecimal-high : (c : ℕ) → is_value_byte 120 c ≡ true → 32 < c
    hexadecimal-high c h = grind (arith, common_steps)

all-high : (m : ℕ) (vs : List ℕ) → IsReferenceMarker m → list_all (is_value_byte m) vs ≡ true → list_all is_high vs ≡ true
all-high m [] k e = refl
all-high m (v ∷ vs) k e =
    ap (λ b. b && list_all is_high vs) (high-true v (value-high m v k (and-left _ _ e))) ∙ all-high m vs k (and-right _ _ e)
  where
    high-true : (v : ℕ) → 32 < v → nat_lt 32 v ≡ true
    high-true v h = grind arith

-- The bytes before a place.

pub record ReadsBack (bytes : List ℕ) (p : Place) (n : ℕ) : Type 0 where
  pub begins : n ≤ (point_of p).index
  pub inside : (point_of p).index ≤ length bytes
  pub same : slice_range bytes ((point_of p).index - n) (point_of p).index ≡ slice_range (values_of p.codes) (p.at - n) p.at

pub reads-back : (bytes : List ℕ) (p : Place) (n : ℕ) → IsPlaceOf bytes p →
    length (slice_range (values_of p.codes) (p.at - n) p.at) ≡ n →
    list_all is_high (slice_range (values_of p.codes) (p.at - n) p.at) ≡ true →
    ReadsBack bytes p n
unfolding point_of AreBytes start_at
reads-back bytes p n k l h =
    let text : IsText bytes p = place-text bytes p k in
    let m : ℕ = p.at - n in
    let size : p.at - m ≡ n = omega (arith, l, length-take (p.at - m) (drop m (values_of p.codes))) in
    let less : m + n ≡ p.at = omega (arith, size) in
    let vs : slice_range (values_of p.codes) m p.at ≡ take n (drop m (values_of p.codes)) = ap (λ x. take x (drop m (values_of p.codes))) size in
    let are : AreBytes bytes p n m = are-bytes bytes p text n m (sym (ap length vs) ∙ l) (sym (ap (list_all is_high) vs) ∙ h) in
    let i : ℕ = (point_of p).index in
    let there : i ≡ start_at p m + n = ap (start_at p) (sym less) ∙ are.0 in
    let from : i - n ≡ start_at p m = omega (arith, there) in
    let count : i - (i - n) ≡ n = omega (arith, there) in
    record {
      begins = omega (arith, there);
      inside = point-inside bytes p text;
      same = ap (λ x. take x (drop (i - n) bytes)) count ∙ ap (λ x. take n (drop x bytes)) from ∙ are.1 ∙ sym vs;
    }

-- The codes of a value.

pub read-none : (T : Tokenizer) → T.tokenize_state.size ≡ 0 → read_of T ≡ []
read-none T e =
    let i : ℕ = T.cursor.at in
    let none : i - (i - T.tokenize_state.size) ≡ 0 = omega (arith, e) in
    ap (λ m. take m (drop (i - T.tokenize_state.size) (values_of T.cursor.codes))) none

range-more : (xs : List ℕ) (a i : ℕ) → a ≤ i → i < length xs →
    slice_range xs a (i + 1) ≡ slice_range xs a i ++ get_or xs i 0 ∷ []
range-more xs a i h k =
    let size : (i + 1) - a ≡ (i - a) + 1 = omega (arith, h) in
    let room : i - a < length (drop a xs) = omega (arith, h, k, length-drop a xs) in
    let there : a + (i - a) ≡ i = omega (arith, h) in
    ap (λ m. take m (drop a xs)) size
    ∙ take_more (drop a xs) (i - a) 0 room
    ∙ ap (λ x. take (i - a) (drop a xs) ++ x ∷ []) (get_or-drop a xs (i - a) 0 ∙ ap (λ m. get_or xs m 0) there)

pub record IsValueHere (cs : List Code) (n v : ℕ) : Type 0 where
  pub inside : n < length (values_of cs)
  pub value : get_or (values_of cs) n 0 ≡ v

code-here : (cs : List Code) (n v : ℕ) → value_of (slice_get cs n) ≡ Some v → IsValueHere cs n v
code-here [] zero v e = cc
code-here [] (suc n) v e = cc
code-here (c ∷ cs) zero v e = record { inside = omega arith; value = cc }
code-here (c ∷ cs) (suc n) v e =
    let k : IsValueHere cs n v = code-here cs n v e in record { inside = omega (arith, k.inside); value = k.value }

-- one code further on
pub read-more : (T : Tokenizer) (c : ℕ) → current_of T ≡ Some c →
    read_of (scratched (sized (T.tokenize_state.size + 1) T.tokenize_state) (done (Consume ∷ []) T)) ≡ read_of T ++ c ∷ []
unfolding scratched applied moved code_at
read-more T c e =
    let k : IsValueHere T.cursor.codes T.cursor.at c = code-here T.cursor.codes T.cursor.at c e in
    let i : ℕ = T.cursor.at in
    let n : ℕ = T.tokenize_state.size in
    ap (λ a. slice_range (values_of T.cursor.codes) a (i + 1)) (omega arith)
    ∙ range-more (values_of T.cursor.codes) (i - n) i (omega arith) k.inside
    ∙ ap (λ x. read_of T ++ x ∷ []) k.value

pub value-back : (bytes : List ℕ) (T : Tokenizer) → IsValue T → IsPlaceOf bytes T.cursor →
    ReadsBack bytes T.cursor T.tokenize_state.size
value-back bytes T v k =
    reads-back bytes T.cursor T.tokenize_state.size k v.count (all-high T.tokenize_state.marker (read_of T) v.marker v.passed)
