-- A table as one text is cut where a line starts, and the line there is parted from those behind it.
use Rattle.std.proofs.Common.{◌≡◌, ◌≢◌, ◌∙◌, sym, ap, refl, subst, ℕ, zero, suc, ◌<◌, ◌≤◌, ◌+◌, ◌-◌, ◌/◌, get_or, true, not, eqb, List, [], ◌∷◌, ◌++◌, length, take, drop, All, inl, inr, arith}
use Rattle.std.specs.List.{list_all}
use Rattle.std.specs.Str.{IsUtf8, IsCharBoundary}
use Rattle.std.proofs.Math.Seq.{take-append-add, drop-append-add}
use Rattle.std.proofs.lemmas.Bool.{and_from, and_parts}
use Rattle.std.proofs.lemmas.Bool.Decides.{nat_tests}
use Rattle.std.proofs.lemmas.List.{append_assoc, length-append, get_or-append-add}
use Rattle.std.proofs.Math.Seq.{get_or-append_seam}
use Rattle.std.proofs.lemmas.List.Elements.{All-tail}
use Rattle.std.proofs.lemmas.Str.{IsCharBoundary-start, IsCharBoundary-after_ascii}
use Rattle.std.proofs.lemmas.List.Folds.{list_all-append}
use Rattle.markdown_util.specs.Reference.{Table}
use Rattle.markdown_util.specs.TableText.{line_text, table_text, lacks, is_parted, IsTableText, StartsLine, IsSplitAtByte, IsLineOf}

other : (c b : ℕ) → not (eqb c b) ≡ true → c ≢ b
other c b h e = grind (arith, nat_tests)

-- a text is parted at its first such byte in one way
split-same : (b : ℕ) (x y behind back : List ℕ) → x ++ (b ∷ behind) ≡ y ++ (b ∷ back) → All (λ c. c ≢ b) x → lacks b y ≡ true →
    (x ≡ y) × (behind ≡ back)
split-same b [] [] behind back e h k = (refl, cc)
split-same b [] (c ∷ y) behind back e h k =
    let same : c ≡ b = cc in
    absurd (other c b (and_parts (not (eqb c b)) (lacks b y) k).0 same)
split-same b (c ∷ x) [] behind back e h k =
    let same : c ≡ b = cc in
    absurd (h 0 0 (omega arith) same)
split-same b (c ∷ x) (d ∷ y) behind back e h k =
    let rest : x ++ (b ∷ behind) ≡ y ++ (b ∷ back) = cc in
    let more = split-same b x y behind back rest (All-tail (λ a. a ≢ b) c x h) (and_parts (not (eqb d b)) (lacks b y) k).1 in
    let same : c ≡ d = cc in
    (ap (λ a. a ∷ x) same ∙ ap (λ xs. d ∷ xs) more.0, more.1)

-- where such a byte stands, what lacks it is passed
reach : (b : ℕ) (front rest : List ℕ) (k : ℕ) → lacks b front ≡ true → get_or (front ++ (b ∷ rest)) k 0 ≡ b → length front ≤ k
reach b [] rest k h e = omega arith
reach b (c ∷ front) rest zero h e = absurd (other c b (and_parts (not (eqb c b)) (lacks b front) h).0 e)
reach b (c ∷ front) rest (suc k) h e =
    let more = reach b front rest k (and_parts (not (eqb c b)) (lacks b front) h).1 e in
    omega arith

-- The bytes of a line that is parted.

record Parts (row : List ℕ × List ℕ) : Type 0 where
  name : lacks 59 row.0 ≡ true
  text : lacks 32 row.1 ≡ true
  both : lacks 32 (row.0 ++ (59 ∷ row.1)) ≡ true

parts-of : (row : List ℕ × List ℕ) → is_parted row ≡ true → Parts row
parts-of row h = grind (arith, and_parts, list_all-append, and_from)

-- a line and what stands behind it, cut at the `;`
line-parted : (row : List ℕ × List ℕ) (rest : List ℕ) → line_text row ++ rest ≡ row.0 ++ (59 ∷ (row.1 ++ (32 ∷ rest)))
line-parted row rest =
    append_assoc row.0 (59 ∷ (row.1 ++ (32 ∷ []))) rest ∙ ap (λ t. row.0 ++ (59 ∷ t)) (append_assoc row.1 (32 ∷ []) rest)

-- and cut in front of the space at the line's end
line-front : (row : List ℕ × List ℕ) (rest : List ℕ) → line_text row ++ rest ≡ (row.0 ++ (59 ∷ row.1)) ++ (32 ∷ rest)
line-front row rest = line-parted row rest ∙ sym (append_assoc row.0 (59 ∷ row.1) (32 ∷ rest))

-- a cut where a line starts: the lines before it, the line, and the lines behind it
record IsCutAt (rows : Table) (at : ℕ) : Type 0 where
  low : Table
  high : Table
  row : List ℕ × List ℕ
  is : rows ≡ low ++ (row ∷ high)
  front : take at (table_text rows) ≡ table_text low
  back : drop at (table_text rows) ≡ line_text row ++ table_text high
  parted : is_parted row ≡ true

-- a cut that is so far behind a line
shift : (row : List ℕ × List ℕ) (rows : Table) (at m : ℕ) → at ≡ length (line_text row) + m → IsCutAt rows m → IsCutAt (row ∷ rows) at
shift row rows at m e c = record {
  low = row ∷ c.low;
  high = c.high;
  row = c.row;
  is = ap (λ t. row ∷ t) c.is;
  front =
      ap (λ k. take k (line_text row ++ table_text rows)) e ∙ take-append-add (line_text row) (table_text rows) m
      ∙ ap (λ t. line_text row ++ t) c.front;
  back = ap (λ k. drop k (line_text row ++ table_text rows)) e ∙ drop-append-add (line_text row) (table_text rows) m ∙ c.back;
  parted = c.parted;
}

later : (line rest : List ℕ) (at m : ℕ) → at ≡ length line + m → get_or (line ++ rest) (at - 1) 0 ≡ 32 → StartsLine rest m
later line rest at zero e space = inl refl
later line rest at (suc m) e space =
    let back : at - 1 ≡ length line + m = omega arith in
    let one : suc m - 1 ≡ m = omega arith in
    inr (omega arith, ap (λ k. get_or rest k 0) one ∙ sym (get_or-append-add line rest m 0) ∙ ap (λ k. get_or (line ++ rest) k 0) (sym back) ∙ space)

cut : (rows : Table) (at : ℕ) → list_all is_parted rows ≡ true → at < length (table_text rows) → StartsLine (table_text rows) at →
    IsCutAt rows at
cut [] at p lt s = absurd (omega arith)
cut (row ∷ rows) at p lt (inl e) =
    record {
      low = [];
      high = rows;
      row = row;
      is = refl;
      front = ap (λ k. take k (table_text (row ∷ rows))) e;
      back = ap (λ k. drop k (table_text (row ∷ rows))) e;
      parted = (and_parts (is_parted row) (list_all is_parted rows) p).0;
    }
cut (row ∷ rows) at p lt (inr (some, space)) =
    let parts = and_parts (is_parted row) (list_all is_parted rows) p in
    let line = line_text row in
    let text = table_text rows in
    let front = row.0 ++ (59 ∷ row.1) in
    let read : get_or (front ++ (32 ∷ text)) (at - 1) 0 ≡ 32 = ap (λ t. get_or t (at - 1) 0) (sym (line-front row text)) ∙ space in
    let inside = reach 32 front text (at - 1) (parts-of row parts.0).both read in
    let size : length line ≡ length front + 1 =
    omega (arith, ap length (line-front row []), length-append line [], length-append front (32 ∷ [])) in
    let whole : at ≡ length line + (at - length line) = omega arith in
    let few : at - length line < length text = omega (arith, length-append line text) in
    shift row rows at (at - length line) whole (cut rows (at - length line) parts.1 few (later line text at _ whole space))

-- A place where a line starts, in the front half of a text.

pub record IsStart (text : List ℕ) (at : ℕ) : Type 0 where
  pub near : at ≤ length text / 2
  pub starts : StartsLine text at

halfway : {row : List ℕ × List ℕ} {rows : Table} {text : List ℕ} {at : ℕ} → IsTableText (row ∷ rows) text → IsStart text at →
    IsCutAt (row ∷ rows) at
halfway {row} {rows} {text} {at} t s = grind (arith, length-append, cut)

-- what stands behind a cut is a line, and then other lines
rest-is : {rows : Table} {text rest : List ℕ} {at : ℕ} → IsTableText rows text → rest ≡ drop at text → (c : IsCutAt rows at) →
    rest ≡ c.row.0 ++ (59 ∷ (c.row.1 ++ (32 ∷ table_text c.high)))
rest-is {rows} {text} {rest} {at} t e c = e ∙ ap (drop at) t.is ∙ c.back ∙ line-parted c.row (table_text c.high)

stands : (b : ℕ) (xs front back : List ℕ) → xs ≡ front ++ (b ∷ back) → All (λ c. c ≢ b) xs → ⊥
stands b xs front back e h =
    let inside : length front < length xs = omega (arith, ap length e, length-append front (b ∷ back)) in
    h (length front) 0 inside (ap (λ t. get_or t (length front) 0) e ∙ get_or-append_seam front b back 0)

-- where no `;` stands behind the cut there is no line
pub nameless : (rows : Table) {text rest : List ℕ} {at : ℕ} → IsTableText rows text → IsStart text at → rest ≡ drop at text →
    All (λ c. c ≢ 59) rest → rows ≡ []
nameless [] t s e h = refl
nameless (row ∷ rows) {rest = rest} t s e h =
    let c = halfway t s in
    absurd (stands 59 rest c.row.0 (c.row.1 ++ (32 ∷ table_text c.high)) (rest-is t e c) h)

behind-name : {rows : Table} {text rest name more : List ℕ} {at : ℕ} → IsTableText rows text → rest ≡ drop at text → (c : IsCutAt rows at) →
    IsSplitAtByte 59 rest name more → (name ≡ c.row.0) × (more ≡ c.row.1 ++ (32 ∷ table_text c.high))
behind-name {name = name} {more = more} t e c p =
    split-same 59 name c.row.0 more _ (sym p.is ∙ rest-is t e c) p.first (parts-of c.row c.parted).name

-- and where no space stands behind the name neither
pub textless : (rows : Table) {text rest name more : List ℕ} {at : ℕ} → IsTableText rows text → IsStart text at → rest ≡ drop at text →
    IsSplitAtByte 59 rest name more → All (λ c. c ≢ 32) more → rows ≡ []
textless [] t s e p h = refl
textless (row ∷ rows) {more = more} t s e p h =
    let c = halfway t s in
    absurd (stands 32 more c.row.1 (table_text c.high) (behind-name t e c p).1 h)

-- the line that is parted there, and the lines before it and behind it
pub line-of : (rows : Table) {text before rest name more line behind : List ℕ} {at : ℕ} → IsTableText rows text → IsStart text at →
    before ≡ take at text → rest ≡ drop at text → IsSplitAtByte 59 rest name more → IsSplitAtByte 32 more line behind →
    IsLineOf rows before name line behind
line-of [] {text} {name = name} {more = more} {at = at} t s f e p q =
    let near = s.near in
    let start : at ≡ 0 = omega (arith, ap length t.is) in
    let none : 0 ≡ length (name ++ (59 ∷ more)) = sym (ap length (sym p.is ∙ e ∙ ap (drop at) t.is ∙ ap (λ k. drop k []) start)) in
    absurd (omega (arith, length-append name (59 ∷ more)))
line-of (row ∷ rows) {name = name} {line = line} {behind = behind} {at = at} t s f e p q =
    let c = halfway t s in
    let first = behind-name t e c p in
    let second = split-same 32 line c.row.1 behind _ (sym q.is ∙ first.1) q.first (parts-of c.row c.parted).text in
    record {
      low = c.low;
      high = c.high;
      is = c.is ∙ ap (λ r. c.low ++ (r ∷ c.high)) (ap (λ n. (n, c.row.1)) (sym first.0) ∙ ap (λ l. (name, l)) (sym second.0));
      before_text = f ∙ ap (take at) t.is ∙ c.front;
      behind_text = second.1;
    }

-- and the text may be cut there
pub start-boundary : {text : List ℕ} {at : ℕ} → IsUtf8 text → IsStart text at → IsCharBoundary text at
start-boundary {text} {at} u s = go s.starts
  where
    near : at ≤ length text / 2
    near = s.near

    go : StartsLine text at → IsCharBoundary text at
    go (inl e) = subst (λ (k : ℕ). IsCharBoundary text k) (sym e) (IsCharBoundary-start text u)
    go (inr (some, space)) =
        let before : at - 1 + 1 ≡ at = omega arith in
        let fits = near in
        subst (λ (k : ℕ). IsCharBoundary text k) before (IsCharBoundary-after_ascii text (at - 1) u (omega arith) (omega (arith, space)))
