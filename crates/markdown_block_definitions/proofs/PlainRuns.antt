-- Bytes above 13, each of which is a code.
use Rattle.std.proofs.Common.{◌≡◌, ℕ, zero, suc, ◌+◌, ◌-◌, ◌%◌, ◌≤◌, ◌<◌, refl, ap, ◌∙◌, sym, subst, List, [], ◌∷◌, ◌++◌, length, take, drop, get_or, Bool, true, false, ◌&&◌, ◌||◌, nat_lt, ◌==◌, arith, drop-cons, add-one}
use Rattle.std.specs.Prelude.{replicate, slice_range}
use Rattle.std.specs.List.{list_all}
use Rattle.std.proofs.lemmas.Bool.Decides.{nat_tests}
use Rattle.std.proofs.lemmas.List.{take_all}
use Rattle.markdown_content.specs.Codes.{Code, is_line_ending_byte}
use Rattle.markdown_content.specs.declared.parser.Piece.{Piece}
use Rattle.markdown_model.specs.CodeTests.{values_of}
use Rattle.markdown_block_line.proofs.LinesOfDocument.{first-column}
use Rattle.markdown_block_definitions.specs.TextReadings.{firsts_of}
use Rattle.markdown_block_definitions.specs.TextCopies.{IsSpot, IsRead, IsCopied, IsPlainRun, codes_left, point_of, spot_place, is_spot_before}
use Rattle.markdown_block_definitions.specs.declared.copy.Spot.{Spot}
use Rattle.markdown_block_definitions.proofs.SpotReads.{read-plain, spot-small}
use Rattle.markdown_block_definitions.proofs.TextPushes.{left-more, still-behind}

abbrev spot_on : Spot → ℕ → Spot
spot_on s n = record { index = s.index + n; vs = s.vs; phase = (s.phase + n % 4) % 4 }

-- so many of them
record ArePlain (bytes : List ℕ) (piece : Piece) (s : Spot) (n : ℕ) (t : Spot) : Type 0 where
  codes : List Code
  left : codes_left bytes piece (spot_place s) ≡ codes ++ codes_left bytes piece (spot_place t)
  values : values_of codes ≡ take n (drop s.index bytes)
  firsts : firsts_of codes ≡ replicate n true
  above : list_all (λ c. nat_lt 13 c.value) codes ≡ true
  stands : IsSpot bytes t
  started : is_spot_before t piece.start ≡ false

other : (b : ℕ) → 13 < b → is_line_ending_byte b ≡ false
other b l = grind (arith, nat_tests, l)

no-tab : (b : ℕ) → 13 < b → b ≡ 9 → ⊥
no-tab b l e = omega (arith, l, e)

beyond : (b : ℕ) → 13 < b → nat_lt 13 b ≡ true
beyond b l = grind (arith, nat_tests, l)

before-end : (i v : ℕ) (at : ℕ × ℕ) → i < at.0 → (nat_lt i at.0 || (i == at.0 && nat_lt v at.1)) ≡ true
before-end i v at l = grind (arith, nat_tests, l)

phase-on : (p n : ℕ) → ((p + 1) % 4 + n % 4) % 4 ≡ (p + suc n % 4) % 4
phase-on p n = omega arith

are-plain : (bytes : List ℕ) (piece : Piece) (n : ℕ) (s : Spot) → IsSpot bytes s → is_spot_before s piece.start ≡ false → s.index + n ≤ length bytes → s.index + n ≤ piece.end.0
    → ((i : ℕ) → s.index ≤ i → i < s.index + n → 13 < get_or bytes i 0) → ArePlain bytes piece s n (spot_on s n)
are-plain bytes piece zero s h on le within plain =
    let few : s.phase < 4 = (spot-small bytes s h).1 in
    let p : s.phase ≡ (s.phase + 0 % 4) % 4 = omega (arith, few) in
    let i : s.index ≡ s.index + 0 = omega arith in
    let same : s ≡ spot_on s 0 = ap (λ (x : ℕ). record { index = x; vs = s.vs; phase = s.phase }) i ∙ ap (λ (x : ℕ). record { index = s.index + 0; vs = s.vs; phase = x }) p in
    subst (λ (t : Spot). ArePlain bytes piece s 0 t) same (record { codes = []; left = refl; values = refl; firsts = refl; above = refl; stands = h; started = on })
are-plain bytes piece (suc n) s h on le within plain =
    let b : ℕ = get_or bytes s.index 0 in
    let lt : s.index < length bytes = omega (arith, le) in
    let big : 13 < b = plain s.index (omega arith) (omega arith) in
    let z : s.vs ≡ 0 = first-column bytes (point_of s h.line h.column) h.is_point (no-tab b big) in
    let t : Spot = record { index = s.index + 1; vs = 0; phase = (s.phase + 1) % 4 } in
    let r : IsRead bytes s b t = read-plain bytes s h lt (other b big) (no-tab b big) in
    let more : ArePlain bytes piece t n (spot_on t n) =
    are-plain bytes piece n t r.stands (still-behind bytes piece s t b r piece.start on) (omega (arith, le)) (omega (arith, within)) (λ i l k. plain i (omega (arith, l)) (omega (arith, k))) in
    let i : s.index + 1 + n ≡ s.index + suc n = omega arith in
    let same : spot_on t n ≡ spot_on s (suc n) =
    ap (λ (x : ℕ). record { index = x; vs = 0; phase = ((s.phase + 1) % 4 + n % 4) % 4 }) i ∙ ap (λ (x : ℕ). record { index = s.index + suc n; vs = 0; phase = x }) (phase-on s.phase n)
    ∙ ap (λ (x : ℕ). record { index = s.index + suc n; vs = x; phase = (s.phase + suc n % 4) % 4 }) (sym z) in
    subst (λ (u : Spot). ArePlain bytes piece s (suc n) u) same (record {
      codes = r.code ∷ more.codes;
      left = left-more bytes piece s t b r on (before-end s.index s.vs piece.end (omega (arith, within))) ∙ ap (λ (cs : List Code). r.code ∷ cs) more.left;
      values = ap (λ v. v ∷ values_of more.codes) r.values ∙ ap (λ (vs : List ℕ). b ∷ vs) more.values ∙ whole;
      firsts = ap (λ (x : ℕ × ℕ). (x.1 == 0) ∷ firsts_of more.codes) r.starts ∙ ap (λ v. (v == 0) ∷ firsts_of more.codes) z ∙ ap (λ (bs : List Bool). true ∷ bs) more.firsts;
      above = let here : nat_lt 13 r.code.value ≡ true = ap (nat_lt 13) r.values ∙ beyond b big in let rest = more.above in rw (here, rest) refl;
      stands = more.stands;
      started = more.started;
    })
  where
    whole : get_or bytes s.index 0 ∷ take n (drop (s.index + 1) bytes) ≡ take (suc n) (drop s.index bytes)
    whole = let lt : s.index < length bytes = omega (arith, le) in rw (drop-cons bytes s.index 0, ← add-one s.index) refl

-- the codes from a place to another
pub plain-run : (bytes : List ℕ) (piece : Piece) (s : Spot) (i : ℕ) → IsSpot bytes s → is_spot_before s piece.start ≡ false → s.index ≤ i → i ≤ length bytes → i ≤ piece.end.0
    → ((j : ℕ) → s.index ≤ j → j < i → 13 < get_or bytes j 0) → IsPlainRun bytes piece s (record { index = i; vs = s.vs; phase = (s.phase + (i - s.index) % 4) % 4 })
plain-run bytes piece s i h on low high within plain =
    let n : ℕ = i - s.index in
    let e : s.index + n ≡ i = omega (arith, low) in
    let run : ArePlain bytes piece s n (spot_on s n) = are-plain bytes piece n s h on (omega (arith, e, high)) (omega (arith, e, within)) (λ j l k. plain j l (omega (arith, e, k))) in
    let same : spot_on s n ≡ record { index = i; vs = s.vs; phase = (s.phase + n % 4) % 4 } = ap (λ (x : ℕ). record { index = x; vs = s.vs; phase = (s.phase + n % 4) % 4 }) e in
    record {
      codes = run.codes;
      left = run.left ∙ ap (λ (t : Spot). run.codes ++ codes_left bytes piece (spot_place t)) same;
      values = run.values;
      firsts = run.firsts;
      above = run.above;
      stands = subst (λ (t : Spot). IsSpot bytes t) same run.stands;
      started = ap (λ (t : Spot). is_spot_before t piece.start) (sym same) ∙ run.started;
      low = low;
      high = high;
    }

-- they are copied
pub copied-run : (bytes : List ℕ) (piece : Piece) (s t : Spot) (v : List ℕ) (b : List Bool) → IsSpot bytes s → IsPlainRun bytes piece s t → s.index < t.index
    → IsCopied bytes piece s t v b (v ++ slice_range bytes s.index t.index) (b ++ replicate (t.index - s.index) true)
copied-run bytes piece s t v b h r l = record {
  codes = r.codes;
  left = r.left;
  longer = record { values_more = ap (λ (x : List ℕ). v ++ x) (sym r.values); firsts_more = ap (λ (x : List Bool). b ++ x) (sym r.firsts) };
  stands = r.stands;
  started = r.started;
  later = omega (arith, l, (spot-small bytes s h).0);
}

-- a list of so many marks that is filled up
pub filled-up : (xs : List Bool) (m k n : ℕ) → m ≡ k → m ≡ length xs → take (m + n) xs ++ replicate (m + n - k) true ≡ xs ++ replicate n true
filled-up xs m k n d e =
    let j : m + n - k ≡ n = omega (arith, d) in
    let l : length xs ≤ m + n = omega (arith, e) in
    ap (λ (ys : List Bool). ys ++ replicate (m + n - k) true) (take_all (m + n) xs l) ∙ ap (λ (i : ℕ). xs ++ replicate i true) j
