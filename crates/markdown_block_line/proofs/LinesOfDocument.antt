-- A line of a document, code by code.
use Rattle.std.proofs.Common.{◌≡◌, ℕ, zero, suc, ◌+◌, ◌-◌, ◌*◌, ◌≤◌, ◌<◌, refl, ap, ◌∙◌, sym, subst, List, [], ◌∷◌, ◌++◌, length, take, drop, get_or, true, false, ◌||◌, ◌^◌, Some, inl, nat_lt, arith, length-drop, append_assoc}
use Rattle.std.specs.Prelude.{◌==◌, if◌then◌else◌, slice_range}
use Rattle.std.specs.List.{list_any}
use Rattle.std.proofs.lemmas.Bool.Decides.{nat_tests}
use Rattle.std.proofs.lemmas.List.{length-take-le}
use Rattle.std.proofs.lemmas.Option.{same_Some}
use Rattle.std.proofs.Math.Seq.{take-append_seam, drop-append_seam}
use Rattle.markdown_event.specs.declared.event.Point.{Point}
use Rattle.markdown_content.specs.Codes.{Code, stop_of, place_of, is_line_ending, tab_value, is_line_ending_byte, next_column, line_ending_len}
use Rattle.markdown_content.specs.DocumentWalk.{codes_after, IsPoint, next_point, value_from}
use Rattle.markdown_content.specs.Content.{document_limit}
use Rattle.markdown_content.specs.PlainBytes.{ArePlain}
use Rattle.markdown_content.specs.ContentTest.{columns_on}
use Rattle.markdown_content.proofs.ByteSetLemmas.{plain-parts}
use Rattle.markdown_content.proofs.AdjacentCodes.{head_same, tail_same, cons≢nil}
use Rattle.markdown_content.proofs.DocumentCodes.{code_here, stop_at, value_at}
use Rattle.markdown_content.proofs.DocumentWalkLemmas.{few-end, past-end, stop-ending, value-tab, value-plain}
use Rattle.markdown_content.proofs.DocumentPlaces.{next, IsNextPlace, stands-point, codes-point, vs-small}
use Rattle.markdown_content.proofs.NextPlace.{point_fits, value-is, next_ending, next_byte, value_byte, ending_byte, other_byte, value_ending}
use Rattle.markdown_content.proofs.WalkSteps.{codes_left_at, falls, few-less}
use Rattle.markdown_model.specs.CodeTests.{values_of}
use Rattle.markdown_block_model.specs.LineRests.{lines_of, onto_line}
use Rattle.markdown_block_line.specs.DocumentLines.{line_from, first_line, IsLineOf}
use Rattle.markdown_block_line.proofs.RestValues.{by_bool, values-length}

-- Lines of codes.

line-ending : (c : Code) (cs : List Code) → is_line_ending c ≡ true → lines_of (c ∷ cs) ≡ (c ∷ []) ∷ lines_of cs
line-ending c cs e = onto (lines_of cs)
  where
    onto : (ls : List (List Code)) → onto_line c ls ≡ (c ∷ []) ∷ ls
    onto [] = refl
    onto (l ∷ ls) = ap (λ b. if b then (c ∷ []) ∷ l ∷ ls else (c ∷ l) ∷ ls) e

line-more : (c : Code) (cs l : List Code) (ls : List (List Code)) → is_line_ending c ≡ false → lines_of cs ≡ l ∷ ls → lines_of (c ∷ cs) ≡ (c ∷ l) ∷ ls
line-more c cs l ls e h = ap (onto_line c) h ∙ ap (λ b. if b then (c ∷ []) ∷ l ∷ ls else (c ∷ l) ∷ ls) e

not-ending : (c : Code) (cs : List Code) → list_any is_line_ending (c ∷ cs) ≡ false → (is_line_ending c ≡ false) × (list_any is_line_ending cs ≡ false)
not-ending c cs h = by_bool (is_line_ending c)
    (λ (e : is_line_ending c ≡ true). absurd (off (sym (ap (λ b. b || list_any is_line_ending cs) e) ∙ h)))
    (λ (e : is_line_ending c ≡ false). (e, sym (ap (λ b. b || list_any is_line_ending cs) e) ∙ h))
  where
    off : true ≡ false → ⊥
    off h = grind (arith, h)

-- codes without a line ending, and one behind them
lines-ended : (front : List Code) (c : Code) (rest : List Code) → list_any is_line_ending front ≡ false → is_line_ending c ≡ true → lines_of (front ++ c ∷ rest) ≡ (front ++ c ∷ []) ∷ lines_of rest
lines-ended [] c rest h e = line-ending c rest e
lines-ended (d ∷ front) c rest h e =
    let n = not-ending d front h in
    line-more d (front ++ c ∷ rest) (front ++ c ∷ []) (lines_of rest) n.0 (lines-ended front c rest n.1 e)

-- codes without a line ending
lines-last : (c : Code) (front : List Code) → list_any is_line_ending (c ∷ front) ≡ false → lines_of (c ∷ front) ≡ (c ∷ front) ∷ []
lines-last c [] h = refl
lines-last c (d ∷ front) h =
    let n = not-ending c (d ∷ front) h in
    line-more c (d ∷ front) (d ∷ front) [] n.0 (lines-last d front n.1)

stop-more : (p : Point) (cs : List Code) (c : Code) → stop_of p (cs ++ c ∷ []) ≡ c.stop
stop-more p [] c = refl
stop-more p (d ∷ cs) c = stop-more d.stop cs c

values-more : (cs : List Code) (c : Code) → values_of (cs ++ c ∷ []) ≡ values_of cs ++ c.value ∷ []
values-more [] c = refl
values-more (d ∷ cs) c = ap (λ vs. d.value ∷ vs) (values-more cs c)

any-more : (cs : List Code) (c : Code) → list_any is_line_ending cs ≡ false → is_line_ending c ≡ false → list_any is_line_ending (cs ++ c ∷ []) ≡ false
any-more [] c h e = ap (λ b. b || false) e
any-more (d ∷ cs) c h e =
    let n = not-ending d cs h in
    ap (λ b. b || list_any is_line_ending (cs ++ c ∷ [])) n.0 ∙ any-more cs c n.1 e

-- The codes of a line from its start to a place in it; `front` are these codes.
pub record IsLinePart (bytes : List ℕ) (p q : Point) (values : List ℕ) : Type 0 where
  pub front : List Code
  pub point : IsPoint bytes q
  pub codes : codes_after bytes (place_of p) ≡ front ++ codes_after bytes (place_of q)
  pub stop : stop_of p front ≡ q
  pub inside : list_any is_line_ending front ≡ false
  pub forward : p.index ≤ q.index
  pub values_are : values_of front ≡ values

pub part-start : (bytes : List ℕ) (p : Point) → IsPoint bytes p → IsLinePart bytes p p []
part-start bytes p h = record { front = []; point = h; codes = refl; stop = refl; inside = refl; forward = omega arith; values_are = refl }

-- the code that begins at a place
here-value : (bytes : List ℕ) (p : Point) (v : ℕ) → IsPoint bytes p → p.index < length bytes → value_from bytes p ≡ Some v → value_at bytes p ≡ v
here-value bytes p v h lt e = same_Some (value_at bytes p) v (sym (value-is bytes p h lt) ∙ e)

ending-by : (v : ℕ) (c : Code) → c.value ≡ v → (v ≡ 10 → ⊥) → is_line_ending c ≡ false
ending-by v c e n = grind (arith, nat_tests)

index-later : (bytes : List ℕ) (p : Point) (q : Point) → IsPoint bytes q → 4 * p.index + p.vs + 1 ≤ 4 * q.index + q.vs → p.index ≤ q.index
index-later bytes p q h c =
    let small : q.vs ≤ 3 = vs-small bytes q (stands-point bytes q h) in
    omega (arith, small, c)

-- one code further
pub part-next : (bytes : List ℕ) (p q r : Point) (values : List ℕ) (v : ℕ) → IsLinePart bytes p q values → q.index < length bytes → value_from bytes q ≡ Some v → (v ≡ 10 → ⊥) → r ≡ next_point bytes q
    → IsLinePart bytes p r (values ++ v ∷ [])
part-next bytes p q r values v h lt e n s =
    let one : IsNextPlace bytes q = next bytes q h.point lt in
    let c : Code = code_here bytes q in
    let a : stop_at bytes q ≡ r = sym (s ∙ one.next) in
    let x : value_at bytes q ≡ v = here-value bytes q v h.point lt e in
    subst (λ (t : Point). IsLinePart bytes p t (values ++ v ∷ [])) a (record {
      front = h.front ++ c ∷ [];
      point = one.point;
      codes = h.codes ∙ ap (λ cs. h.front ++ cs) one.codes ∙ sym (append_assoc h.front (c ∷ []) (codes_after bytes (place_of (stop_at bytes q))));
      stop = stop-more p h.front c;
      inside = any-more h.front c h.inside (ending-by v c x n);
      forward = omega (arith, h.forward, index-later bytes q (stop_at bytes q) one.point one.counts);
      values_are = values-more h.front c ∙ ap (λ vs. vs ++ value_at bytes q ∷ []) h.values_are ∙ ap (λ w. values ++ w ∷ []) x;
    })

line-is : (bytes : List ℕ) (p q : Point) (line : List Code) (values : List ℕ) → IsPoint bytes q → lines_of (codes_after bytes (place_of p)) ≡ line ∷ lines_of (codes_after bytes (place_of q))
    → codes_after bytes (place_of p) ≡ line ++ codes_after bytes (place_of q) → stop_of p line ≡ q → p.index < q.index → values_of line ≡ values → IsLineOf bytes p q values
line-is bytes p q line values h l c s f v =
    let e : line_from bytes p ≡ line = ap first_line l in (
      record {
        is_point = h;
        lines = l ∙ ap (λ x. x ∷ lines_of (codes_after bytes (place_of q))) (sym e);
        codes = c ∙ ap (λ x. x ++ codes_after bytes (place_of q)) (sym e);
        stop = ap (stop_of p) e ∙ s;
        forward = f;
      },
      ap values_of e ∙ v,
    )

ending-here : (c : Code) → c.value ≡ 10 → is_line_ending c ≡ true
ending-here c e = grind (arith, nat_tests)

-- a line ending ends the line
pub part-ends : (bytes : List ℕ) (p q r : Point) (values : List ℕ) (v : ℕ) → IsLinePart bytes p q values → q.index < length bytes → value_from bytes q ≡ Some v → v ≡ 10 → r ≡ next_point bytes q → q.index < r.index
    → IsLineOf bytes p r (values ++ v ∷ [])
part-ends bytes p q r values v h lt e n s f =
    let one : IsNextPlace bytes q = next bytes q h.point lt in
    let c : Code = code_here bytes q in
    let a : stop_at bytes q ≡ r = sym (s ∙ one.next) in
    let x : value_at bytes q ≡ v = here-value bytes q v h.point lt e in
    let g : q.index < (stop_at bytes q).index = omega (arith, f, ap (λ (t : Point). t.index) a) in
    let w : codes_after bytes (place_of p) ≡ h.front ++ c ∷ codes_after bytes (place_of (stop_at bytes q)) = h.codes ∙ ap (λ cs. h.front ++ cs) one.codes in
    subst (λ (t : Point). IsLineOf bytes p t (values ++ v ∷ [])) a
    (line-is bytes p (stop_at bytes q) (h.front ++ c ∷ []) (values ++ v ∷ []) one.point
    (ap lines_of w ∙ lines-ended h.front c (codes_after bytes (place_of (stop_at bytes q))) h.inside (ending-here c (x ∙ n)))
    (w ∙ sym (append_assoc h.front (c ∷ []) (codes_after bytes (place_of (stop_at bytes q)))))
    (stop-more p h.front c)
    (omega (arith, h.forward, g))
    (values-more h.front c ∙ ap (λ vs. vs ++ value_at bytes q ∷ []) h.values_are ∙ ap (λ w. values ++ w ∷ []) x))

pub lines-end : (bytes : List ℕ) (p : Point) → IsPoint bytes p → length bytes ≤ p.index → codes_after bytes (place_of p) ≡ []
lines-end bytes p h l = sym (codes-point bytes p h) ∙ past-end bytes p (stands-point bytes p h) l

append-none : (cs : List Code) → cs ++ [] ≡ cs
append-none [] = refl
append-none (c ∷ cs) = ap (λ ds. c ∷ ds) (append-none cs)

-- the end of the document ends it too
pub part-stops : (bytes : List ℕ) (p q : Point) (values : List ℕ) → IsLinePart bytes p q values → p.index < length bytes → length bytes ≤ q.index → IsLineOf bytes p q values
part-stops bytes p q values h lt l =
    let z : codes_after bytes (place_of q) ≡ [] = lines-end bytes q h.point l in
    line-is bytes p q h.front values h.point (ap lines_of (h.codes ∙ ap (λ cs. h.front ++ cs) z ∙ append-none h.front) ∙ filled h.front h.stop h.inside ∙ ap (λ (cs : List Code). h.front ∷ lines_of cs) (sym z)) h.codes h.stop (omega (arith, lt, l)) h.values_are
  where
    filled : (front : List Code) → stop_of p front ≡ q → list_any is_line_ending front ≡ false → lines_of front ≡ front ∷ []
    filled [] s i = absurd (omega (arith, lt, l, ap (λ (t : Point). t.index) s))
    filled (c ∷ front) s i = lines-last c front i

-- Bytes that are codes.

above : (v c : ℕ) → 13 < v → c ≤ 13 → v ≡ c → ⊥
above v c h l e = omega arith

further : (p : Point) (m : ℕ) → next_column (columns_on p m) ((columns_on p m).index + 1) 0 ≡ columns_on p (suc m)
further p m = grind (arith)

range-more : (bytes : List ℕ) (i m : ℕ) → i + m < length bytes → slice_range bytes i (i + m) ++ get_or bytes (i + m) 0 ∷ [] ≡ slice_range bytes i (i + suc m)
range-more bytes i m h =
    let a : i + m - i ≡ m = omega arith in
    let b : i + suc m - i ≡ suc m = omega arith in
    ap (λ k. take k (drop i bytes) ++ get_or bytes (i + m) 0 ∷ []) a ∙ here bytes i m h ∙ ap (λ k. take k (drop i bytes)) (sym b)
  where
    here : (bytes : List ℕ) (i m : ℕ) → i + m < length bytes → take m (drop i bytes) ++ get_or bytes (i + m) 0 ∷ [] ≡ take (suc m) (drop i bytes)
    here [] i m h = absurd (omega arith)
    here (b ∷ bs) zero zero h = refl
    here (b ∷ bs) zero (suc m) h =
        let e : 0 + suc m ≡ suc m = omega arith in
        let f : 0 + m ≡ m = omega arith in
        ap (λ k. (b ∷ take m bs) ++ get_or (b ∷ bs) k 0 ∷ []) e ∙ ap (λ (xs : List ℕ). b ∷ xs) (ap (λ k. take m bs ++ get_or bs k 0 ∷ []) (sym f) ∙ here bs 0 m (omega (arith, h)))
    here (b ∷ bs) (suc i) m h =
        let e : suc i + m ≡ suc (i + m) = omega arith in
        ap (λ k. take m (drop i bs) ++ get_or (b ∷ bs) k 0 ∷ []) e ∙ here bs i m (omega (arith, h))

-- so many bytes above 13 behind the start of a line
pub part-plain : (bytes : List ℕ) (p : Point) (m : ℕ) → IsPoint bytes p → p.vs ≡ 0 → p.index + m ≤ length bytes → ((i : ℕ) → p.index ≤ i → i < p.index + m → 13 < get_or bytes i 0) → IsLinePart bytes p (columns_on p m) (slice_range bytes p.index (p.index + m))
part-plain bytes p zero h z l plain =
    let a : p ≡ columns_on p 0 = grind (arith, z) in
    let b : p.index + 0 - p.index ≡ 0 = omega arith in
    subst (λ (t : Point). IsLinePart bytes p t (slice_range bytes p.index (p.index + 0))) a (subst (λ (vs : List ℕ). IsLinePart bytes p p vs) (ap (λ k. take k (drop p.index bytes)) (sym b)) (part-start bytes p h))
part-plain bytes p (suc m) h z l plain =
    let q : Point = columns_on p m in
    let v : ℕ = get_or bytes q.index 0 in
    let lt : q.index < length bytes = omega (arith, l) in
    let more : IsLinePart bytes p q (slice_range bytes p.index (p.index + m)) = part-plain bytes p m h z (omega (arith, l)) (λ i low high. plain i low (omega (arith, high))) in
    let big : 13 < v = plain (p.index + m) (omega arith) (omega arith) in
    let other : is_line_ending_byte v ≡ false = other_byte v (above v 10 big (omega arith)) (above v 13 big (omega arith)) in
    let value : value_from bytes q ≡ Some v = value_byte bytes q more.point lt other (λ e. absurd (above v tab_value big (omega arith) e)) in
    let step : columns_on p (suc m) ≡ next_point bytes q = sym (further p m) ∙ next_byte bytes q more.point lt other (λ e. absurd (above v tab_value big (omega arith) e)) in
    subst (λ (vs : List ℕ). IsLinePart bytes p (columns_on p (suc m)) vs) (range-more bytes p.index m lt) (part-next bytes p q (columns_on p (suc m)) _ v more lt value (above v 10 big (omega arith)) step)

-- a byte above 13 begins no tab, nor does a line feed
pub first-column : (bytes : List ℕ) (p : Point) → IsPoint bytes p → (get_or bytes p.index 0 ≡ tab_value → ⊥) → p.vs ≡ 0
first-column bytes p h n = by_bool (nat_lt 0 p.vs)
    (λ (b : nat_lt 0 p.vs ≡ true).
    let l : 0 < p.vs = grind (arith, nat_tests, b) in
    absurd (n ((stands-point bytes p h).in_tab l).1))
    (λ (b : nat_lt 0 p.vs ≡ false). grind (arith, nat_tests, b))

-- the bytes before a place at which a line may end
pub plain-to : (set bytes : List ℕ) (p : Point) (end : ℕ) → IsPoint bytes p → p.index < length bytes → p.index ≤ end → end ≤ length bytes → ArePlain set bytes p.index end → (p.index ≡ end → get_or bytes end 0 ≡ 10)
    → IsLinePart bytes p (record { line = p.line; column = p.column + (end - p.index); index = end; vs = 0 }) (slice_range bytes p.index end)
plain-to set bytes p end h lt low high plain feed =
    let m : ℕ = end - p.index in
    let e : p.index + m ≡ end = omega arith in
    subst (λ (i : ℕ). IsLinePart bytes p (record { line = p.line; column = p.column + m; index = i; vs = 0 }) (slice_range bytes p.index i)) e
    (part-plain bytes p m h (first-column bytes p h tabless) (omega (arith, high)) (λ i l k. (plain-parts set _ (plain i l (omega (arith, k)))).0))
  where
    tabless : get_or bytes p.index 0 ≡ tab_value → ⊥
    tabless t = by_bool (nat_lt p.index end)
        (λ (b : nat_lt p.index end ≡ true).
        let l : p.index < end = grind (arith, nat_tests, b) in
        above (get_or bytes p.index 0) tab_value (plain-parts set _ (plain p.index (omega arith) l)).0 (omega arith) t)
        (λ (b : nat_lt p.index end ≡ false).
        let l : p.index ≡ end = grind (arith, nat_tests, b, low) in
        let f : get_or bytes end 0 ≡ 9 = ap (λ i. get_or bytes i 0) (sym l) ∙ t in
        omega (arith, f, feed l))

range-end : (bytes : List ℕ) (i end : ℕ) → i ≤ end → end < length bytes → slice_range bytes i end ++ get_or bytes end 0 ∷ [] ≡ slice_range bytes i (end + 1)
range-end bytes i end l h =
    let e : i + (end - i) ≡ end = omega arith in
    let f : i + suc (end - i) ≡ end + 1 = omega arith in
    ap (λ j. slice_range bytes i j ++ get_or bytes j 0 ∷ []) (sym e) ∙ range-more bytes i (end - i) (omega (arith, e, h)) ∙ ap (slice_range bytes i) f

feed-next : (bytes : List ℕ) (q r : Point) → IsPoint bytes q → q.index < length bytes → get_or bytes q.index 0 ≡ 10 → r ≡ next_point bytes q → r.index ≡ q.index + 1
feed-next bytes q r h lt e s =
    ap (λ (t : Point). t.index) (s ∙ sym (next_ending bytes q h lt (ending_byte (get_or bytes q.index 0) (inl e)))) ∙ ap (λ n. q.index + n) (feed-len (get_or bytes q.index 0) (drop (q.index + 1) bytes) e)
  where
    feed-len : (b : ℕ) (rest : List ℕ) → b ≡ 10 → line_ending_len b rest ≡ 1
    feed-len b [] e = refl
    feed-len b (c ∷ rest) e = rw e refl

-- such a line
pub plain-line : (bytes : List ℕ) (p q r : Point) → IsLinePart bytes p q (slice_range bytes p.index q.index) → q.index < length bytes → get_or bytes q.index 0 ≡ 10 → r ≡ next_point bytes q
    → IsLineOf bytes p r (slice_range bytes p.index r.index)
plain-line bytes p q r h lt e s =
    let i : r.index ≡ q.index + 1 = feed-next bytes q r h.point lt e s in
    let v : value_from bytes q ≡ Some 10 = value_ending bytes q h.point lt (ending_byte (get_or bytes q.index 0) (inl e)) in
    let w : slice_range bytes p.index q.index ++ 10 ∷ [] ≡ slice_range bytes p.index r.index =
    ap (λ b. slice_range bytes p.index q.index ++ b ∷ []) (sym e) ∙ range-end bytes p.index q.index h.forward lt ∙ ap (slice_range bytes p.index) (sym i) in
    subst (λ (vs : List ℕ). IsLineOf bytes p r vs) w (part-ends bytes p q r (slice_range bytes p.index q.index) 10 h lt v refl s (omega (arith, i)))

pub column-fits : (bytes : List ℕ) (p : Point) (end : ℕ) → IsPoint bytes p → length bytes ≤ document_limit → end ≤ length bytes → p.column + (end - p.index) < 2 ^ 64
column-fits bytes p end h fits l =
    let f = point_fits bytes p h fits in
    omega (arith, f.column, l, fits)

-- where a line ends
pub line-within : (bytes : List ℕ) (p q : Point) (values : List ℕ) → IsLineOf bytes p q values → (p.index ≤ q.index) × (q.index ≤ length bytes)
line-within bytes p q values h = (omega (arith, h.0.forward), (stands-point bytes q h.0.is_point).in_bytes)

ending-column : (bytes : List ℕ) (q : Point) → value_at bytes q ≡ 10 → (stop_at bytes q).vs ≡ 0
ending-column bytes q v = by_bool (is_line_ending_byte b)
    (λ (e : is_line_ending_byte b ≡ true). ap (λ (t : Point). t.vs) (sym (stop-ending bytes q e)))
    (λ (e : is_line_ending_byte b ≡ false). by_bool (b == tab_value)
    (λ (t : (b == tab_value) ≡ true). by_bool (nat_lt 0 q.vs)
    (λ (l : nat_lt 0 q.vs ≡ true).
    let x : 32 ≡ 10 = ap (λ w. if w then 32 else 9) (sym l) ∙ value-tab bytes q e t ∙ v in
    absurd (omega (arith, x)))
    (λ (l : nat_lt 0 q.vs ≡ false).
    let x : 9 ≡ 10 = ap (λ w. if w then 32 else 9) (sym l) ∙ value-tab bytes q e t ∙ v in
    absurd (omega (arith, x))))
    (λ (t : (b == tab_value) ≡ false).
    let x : b ≡ 10 = value-plain bytes q e t ∙ v in
    absurd (grind (arith, nat_tests, e, x))))
  where
    b : ℕ
    b = get_or bytes q.index 0

-- an ending is passed by a byte at least
pub ending-forward : (bytes : List ℕ) (q r : Point) → IsPoint bytes q → q.index < length bytes → value_from bytes q ≡ Some 10 → r ≡ next_point bytes q → q.index < r.index
ending-forward bytes q r h lt v s =
    let one : IsNextPlace bytes q = next bytes q h lt in
    let a : r ≡ stop_at bytes q = s ∙ one.next in
    let w : (stop_at bytes q).vs ≡ 0 = ending-column bytes q (here-value bytes q 10 h lt v) in
    omega (arith, one.counts, w, ap (λ (t : Point). t.index) a)

-- Walks over codes.

-- fewer codes are left behind one
pub next-fewer : (bytes : List ℕ) (q r : Point) → IsPoint bytes q → q.index < length bytes → r ≡ next_point bytes q → codes_left_at bytes r < codes_left_at bytes q
next-fewer bytes q r h lt s =
    let one : IsNextPlace bytes q = next bytes q h lt in
    let t : Point = stop_at bytes q in
    let few : 0 + 4 * t.index + t.vs ≤ 4 * length bytes = few-end bytes t (stands-point bytes t one.point) in
    let less : codes_left_at bytes t < codes_left_at bytes q = falls (4 * length bytes) (4 * q.index + q.vs) (4 * t.index + t.vs) one.counts (few-less (4 * t.index) t.vs (4 * length bytes) few) in
    subst (λ (x : Point). codes_left_at bytes x < codes_left_at bytes q) (sym (s ∙ one.next)) less

pub record IsBehind (bytes : List ℕ) (p q : Point) (k : ℕ) : Type 0 where
  pub point : IsPoint bytes q
  pub place : q ≡ stop_of p (take k (codes_after bytes (place_of p)))
  pub rest : drop k (codes_after bytes (place_of p)) ≡ codes_after bytes (place_of q)

pub behind-begins : (bytes : List ℕ) (p q : Point) (k : ℕ) → IsBehind bytes p q k → k < length (codes_after bytes (place_of p)) → q.index < length bytes
behind-begins bytes p q k h l = by_bool (nat_lt q.index (length bytes))
    (λ (b : nat_lt q.index (length bytes) ≡ true). grind (arith, nat_tests, b))
    (λ (b : nat_lt q.index (length bytes) ≡ false).
    let e : length bytes ≤ q.index = grind (arith, nat_tests, b) in
    let z : length (drop k (codes_after bytes (place_of p))) ≡ 0 = ap length (h.rest ∙ lines-end bytes q h.point e) in
    absurd (omega (arith, l, z, length-drop k (codes_after bytes (place_of p)))))

split-next : (k : ℕ) (cs ds : List Code) (c : Code) → drop k cs ≡ c ∷ ds → (take (suc k) cs ≡ take k cs ++ c ∷ []) × (drop (suc k) cs ≡ ds)
split-next zero [] ds c e = absurd (cons≢nil c ds (sym e))
split-next zero (d ∷ cs) ds c e = (ap (λ (x : Code). x ∷ []) (head_same d c cs ds e), tail_same d c cs ds e)
split-next (suc k) [] ds c e = absurd (cons≢nil c ds (sym e))
split-next (suc k) (d ∷ cs) ds c e =
    let r = split-next k cs ds c e in
    (ap (λ (xs : List Code). d ∷ xs) r.0, r.1)

pub behind-next : (bytes : List ℕ) (p q r : Point) (k : ℕ) → IsBehind bytes p q k → k < length (codes_after bytes (place_of p)) → r ≡ next_point bytes q → IsBehind bytes p r (suc k)
behind-next bytes p q r k h l s =
    let lt : q.index < length bytes = behind-begins bytes p q k h l in
    let one : IsNextPlace bytes q = next bytes q h.point lt in
    let a : stop_at bytes q ≡ r = sym (s ∙ one.next) in
    let c : Code = code_here bytes q in
    let split = split-next k (codes_after bytes (place_of p)) (codes_after bytes (place_of (stop_at bytes q))) c (h.rest ∙ one.codes) in
    subst (λ (t : Point). IsBehind bytes p t (suc k)) a (record {
      point = one.point;
      place = sym (ap (stop_of p) split.0 ∙ stop-more p (take k (codes_after bytes (place_of p))) c);
      rest = split.1;
    })

-- behind so many bytes above 13
pub plain-behind : (bytes : List ℕ) (p : Point) (m : ℕ) → IsPoint bytes p → p.index + m ≤ length bytes → ((i : ℕ) → p.index ≤ i → i < p.index + m → 13 < get_or bytes i 0)
    → IsBehind bytes p (record { line = p.line; column = p.column + m; index = p.index + m; vs = p.vs }) m
plain-behind bytes p zero h l plain =
    let e : p ≡ record { line = p.line; column = p.column + 0; index = p.index + 0; vs = p.vs } = grind arith in
    subst (λ (q : Point). IsBehind bytes p q 0) e (record { point = h; place = refl; rest = refl })
plain-behind bytes p (suc m) h l plain =
    let z : p.vs ≡ 0 = first-column bytes p h (above (get_or bytes p.index 0) tab_value (plain p.index (omega arith) (omega arith)) (omega arith)) in
    let part : IsLinePart bytes p (columns_on p (suc m)) (slice_range bytes p.index (p.index + suc m)) = part-plain bytes p (suc m) h z l plain in
    let rest : List Code = codes_after bytes (place_of (columns_on p (suc m))) in
    let same : p.index + suc m - p.index ≡ suc m = omega arith in
    let few : suc m ≤ length (drop p.index bytes) = omega (arith, l, length-drop p.index bytes) in
    let len : length part.front ≡ suc m =
    sym (values-length part.front) ∙ ap length part.values_are ∙ ap (λ n. length (take n (drop p.index bytes))) same ∙ length-take-le (suc m) (drop p.index bytes) few in
    subst (λ (v : ℕ). IsBehind bytes p (record { line = p.line; column = p.column + suc m; index = p.index + suc m; vs = v }) (suc m)) (sym z)
    (subst (λ (n : ℕ). IsBehind bytes p (columns_on p (suc m)) n) len (record {
      point = part.point;
      place = sym (ap (λ (cs : List Code). stop_of p (take (length part.front) cs)) part.codes ∙ ap (stop_of p) (take-append_seam part.front rest) ∙ part.stop);
      rest = ap (drop (length part.front)) part.codes ∙ drop-append_seam part.front rest;
    }))
