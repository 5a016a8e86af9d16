-- A content is read as characters.
use Rattle.std.proofs.Common.{◌≡◌, ℕ, zero, suc, ◌+◌, ◌<◌, ◌≤◌, ◌==◌, ◌&&◌, nat_lt, Bool, true, false, if◌then◌else◌, Option, Some, None, List, [], ◌∷◌, length, drop, get_or, slice_get, add-one, refl, sym, ap, subst, ◌∙◌, arith}
use Rattle.std.specs.List.{All}
use Rattle.std.specs.Str.{IsUtf8, IsCharBoundary}
use Rattle.std.proofs.lemmas.Bool.Decides.{nat_tests}
use Rattle.std.proofs.lemmas.Bool.{and_parts, eqb-true, not-false}
use Rattle.std.proofs.lemmas.List.{length-drop}
use Rattle.std.proofs.lemmas.Str.{IsCharBoundary-start, IsCharBoundary-before_ascii, IsCharBoundary-after_ascii}
use Rattle.markdown_content.specs.Codes.{Code, is_line_ending, is_line_ending_byte, line_ending_len, line_start, next_column, tab_value, place_of, point_at}
use Rattle.markdown_content.specs.Content.{IsContent, IsBetweenCharacters, are_pieces, is_place, content_of, content_end}
use Rattle.markdown_engine.specs.Operations.{scratched}
use Rattle.markdown_engine.specs.PastTree.{past, moved_by}
use Rattle.markdown_content.specs.Place.{Place, moved, start_of_content, start_or, value_of}
use Rattle.markdown_content.specs.PlaceInDocument.{IsStanding, is_open, first_point, followed, content_place}
use Rattle.markdown_content.specs.Tree.{Forest, leaf_codes}
use Rattle.markdown_event.specs.declared.event.Point.{Point}
use Rattle.markdown_content.specs.declared.parser.Piece.{Piece}
use Rattle.markdown_engine.specs.declared.tokenizer.TokenizeState.{TokenizeState}
use Rattle.markdown_engine.specs.declared.tokenizer.Tokenizer.{Tokenizer}
use Rattle.markdown_content.proofs.CursorInvariant.{IsOpenStanding, open-standing, closed-standing, standing-start, standing-next, standing-point}
use Rattle.markdown_content.proofs.DocumentPlaces.{there}
use Rattle.markdown_content.proofs.ContentCodes.{piece_row, open-row, line-last}
use Rattle.markdown_content.proofs.DocumentCodes.{tab_left, value_at, stop_at, code_here}
use Rattle.markdown_model.specs.CodeTests.{is_later_byte}
use Rattle.markdown_plan.specs.Characters.{later_value, at_later, IsText, ReadsText}
use Rattle.markdown_plan.proofs.CharactersAlongContent.{text-moved}

-- Values and bytes.

-- a code that is ASCII begins with an ASCII byte
low-byte : (b vs : ℕ) →
    nat_lt (if is_line_ending_byte b then 10 else (if b == 9 && nat_lt 0 vs then 32 else b)) 128 ≡ true → b < 128
low-byte b vs h = grind (arith, nat_tests)

-- a code is a later byte of a character where its byte is
later-byte : (b vs : ℕ) →
    later_value (if is_line_ending_byte b then 10 else (if b == 9 && nat_lt 0 vs then 32 else b)) ≡ later_value b
later-byte b vs = grind (arith, nat_tests)

not-later : (b : ℕ) → (128 ≤ b → 192 ≤ b) → later_value b ≡ false
not-later b h = grind (arith, nat_tests)

later-not : (b : ℕ) → later_value b ≡ false → 128 ≤ b → 192 ≤ b
later-not b h k = grind (arith, nat_tests)

-- Where a code begins, and where it ends.

begins-at : (bytes : List ℕ) (p : Point) → p.index < length bytes → later_value (value_at bytes p) ≡ false →
    IsCharBoundary bytes p.index
begins-at bytes p lt h =
    let byte : later_value (get_or bytes p.index 0) ≡ false = sym (later-byte (get_or bytes p.index 0) p.vs) ∙ h in
    (omega (arith, lt), λ _ k. later-not (get_or bytes p.index 0) byte k)

early-at : (bytes : List ℕ) (p : Point) → p.index < length bytes → IsCharBoundary bytes p.index →
    later_value (value_at bytes p) ≡ false
early-at bytes p lt b = later-byte (get_or bytes p.index 0) p.vs ∙ not-later (get_or bytes p.index 0) (b.1 lt)

get-drop : (n : ℕ) (xs : List ℕ) → get_or (drop n xs) 0 0 ≡ get_or xs n 0
get-drop zero [] = refl
get-drop zero (x ∷ xs) = refl
get-drop (suc n) [] = refl
get-drop (suc n) (x ∷ xs) = get-drop n xs

-- past a line ending
ending-at : (bytes : List ℕ) (i : ℕ) (b : ℕ) (t : Bool) (rest : List ℕ) → IsUtf8 bytes → IsCharBoundary bytes (i + 1) →
    drop (i + 1) bytes ≡ rest → IsCharBoundary bytes (i + line_ending_len b rest)
ending-at bytes i b t [] u one e = one
ending-at bytes i b t (c ∷ rest) u one e =
    elim (b == 13 && c == 10) as (λ x. (b == 13 && c == 10) ≡ x → IsCharBoundary bytes (i + (if x then 2 else 1))) [
      | true ↦ λ h. two h
      | false ↦ λ h. one
    ] refl
  where
    two : (b == 13 && c == 10) ≡ true → IsCharBoundary bytes (i + 2)
    two h =
        let lt : i + 1 < length bytes = omega (arith, ap length e, length-drop (i + 1) bytes) in
        let first : get_or bytes (i + 1) 0 ≡ c = sym (get-drop (i + 1) bytes) ∙ ap (λ xs. get_or xs 0 0) e in
        let feed : c ≡ 10 = eqb-true c 10 (and_parts (b == 13) (c == 10) h).1 in
        subst (λ n. IsCharBoundary bytes n) (omega arith) (IsCharBoundary-after_ascii bytes (i + 1) u lt (omega (arith, first, feed)))

stops-at : (bytes : List ℕ) (p : Point) → IsUtf8 bytes → p.index < length bytes → get_or bytes p.index 0 < 128 →
    IsCharBoundary bytes (stop_at bytes p).index
stops-at bytes p u lt low =
    let b : ℕ = get_or bytes p.index 0 in
    let one : IsCharBoundary bytes (p.index + 1) = IsCharBoundary-after_ascii bytes p.index u lt low in
    let P : Bool → Bool → Type 0 = λ x y. (let q : Point = if x then line_start (p.line + 1) (p.index + line_ending_len b (drop (p.index + 1) bytes)) else (if y then next_column p p.index (p.vs + 1) else next_column p (p.index + 1) 0) in IsCharBoundary bytes q.index) in
    elim (is_line_ending_byte b) as (λ x. P x (b == tab_value && nat_lt 0 (tab_left p))) [
      | true ↦ ending-at bytes p.index b true (drop (p.index + 1) bytes) u one refl
      | false ↦ elim (b == tab_value && nat_lt 0 (tab_left p)) as (λ y. P false y) [
        | true ↦ IsCharBoundary-before_ascii bytes p.index lt low
        | false ↦ one
      ]
    ]

-- Pieces.

-- both ends of each piece stand between characters
Between : List ℕ → List Piece → Type 0
Between bytes [] = Unit {0}
Between bytes (piece ∷ more) = IsBetweenCharacters bytes piece × Between bytes more

between-all : (bytes : List ℕ) (pieces : List Piece) → All (IsBetweenCharacters bytes) pieces → Between bytes pieces
unfolding Between
between-all bytes [] h = tt
between-all bytes (piece ∷ more) h =
    (h 0 piece (omega arith), between-all bytes more (λ k d lt. h (suc k) d (omega (arith, lt))))

between-drop : (bytes : List ℕ) (k : ℕ) (pieces : List Piece) → Between bytes pieces → Between bytes (drop k pieces)
unfolding Between
between-drop bytes zero [] h = h
between-drop bytes zero (piece ∷ more) h = h
between-drop bytes (suc k) [] h = h
between-drop bytes (suc k) (piece ∷ more) h = between-drop bytes k more h.1

-- a place of a piece that stands between characters
place-at : (bytes : List ℕ) (at : ℕ × ℕ) → is_place bytes at ≡ true → IsCharBoundary bytes at.0 →
    IsCharBoundary bytes (point_at bytes at).index
place-at bytes at h b = subst (λ (x : ℕ × ℕ). IsCharBoundary bytes x.0) (sym (there bytes at h).place) b

follows-at : (bytes : List ℕ) (k : ℕ) (q : Point) (left : List Piece) → Between bytes left →
    are_pieces bytes left ≡ true → IsCharBoundary bytes q.index → IsCharBoundary bytes (followed bytes k q left).1.index
unfolding Between
follows-at bytes k q [] h e b = b
follows-at bytes k q (piece ∷ []) h e b = b
follows-at bytes k q (piece ∷ next ∷ more) h e b =
    let others : are_pieces bytes (next ∷ more) ≡ true = (piece_row bytes piece (next ∷ more) e).others in
    let start : IsCharBoundary bytes (point_at bytes next.start).index = place-at bytes next.start (piece_row bytes next more others).start h.1.0.0 in
    elim (is_open (place_of q) (piece ∷ [])) as (λ x. (let r : ℕ × Point = if x then (k, q) else (k + 1, point_at bytes next.start) in IsCharBoundary bytes r.1.index)) [ true ↦ b | false ↦ start ]

end-at : (bytes : List ℕ) (pieces : List Piece) → IsUtf8 bytes → Between bytes pieces → are_pieces bytes pieces ≡ true →
    IsCharBoundary bytes (content_end bytes pieces).index
unfolding Between
end-at bytes [] u h e = IsCharBoundary-start bytes u
end-at bytes (piece ∷ []) u h e = place-at bytes piece.end (piece_row bytes piece [] e).end h.0.1
end-at bytes (piece ∷ next ∷ more) u h e =
    end-at bytes (next ∷ more) u h.1 (piece_row bytes piece (next ∷ more) e).others

-- Codes of a content.

-- the code of this number stands at an open place
pub record Reached (bytes : List ℕ) (pieces : List Piece) (n : ℕ) : Type 0 where
  pub piece : ℕ
  pub point : Point
  pub standing : IsStanding bytes pieces (drop piece pieces) point n
  pub opens : is_open (place_of point) (drop piece pieces) ≡ true

pub none-some : (o : Option Code) (c : Code) → o ≡ None → o ≡ Some c → ⊥
none-some o c e h = cc

reached-by : (bytes : List ℕ) (pieces : List Piece) (n k : ℕ) (p : Point) (c : Code) →
    IsStanding bytes pieces (drop k pieces) p n → slice_get (content_of bytes pieces) n ≡ Some c → (b : Bool) →
    is_open (place_of p) (drop k pieces) ≡ b → Reached bytes pieces n
reached-by bytes pieces n k p c s e true h = record { piece = k; point = p; standing = s; opens = h }
reached-by bytes pieces n k p c s e false h =
    absurd (none-some _ c (closed-standing bytes pieces (drop k pieces) p n s h).0 e)

-- a code before it
before-some : (n : ℕ) (cs : List Code) (c : Code) → slice_get cs (suc n) ≡ Some c →
    (d : Code) × (slice_get cs n ≡ Some d)
before-some n [] c e = cc
before-some zero (x ∷ xs) c e = (x, refl)
before-some (suc n) (x ∷ xs) c e = before-some n xs c e

pub reached : (bytes : List ℕ) (pieces : List Piece) → IsContent bytes pieces → (n : ℕ) (c : Code) →
    slice_get (content_of bytes pieces) n ≡ Some c → Reached bytes pieces n
reached bytes pieces content zero c e =
    reached-by bytes pieces 0 0 (first_point bytes pieces) c (standing-start bytes pieces content) e (is_open (place_of (first_point bytes pieces)) pieces) refl
reached bytes pieces content (suc n) c e =
    let d = before-some n (content_of bytes pieces) c e in
    let r : Reached bytes pieces n = reached bytes pieces content n d.0 d.1 in
    let f : ℕ × Point = followed bytes r.piece (stop_at bytes r.point) (drop r.piece pieces) in
    let s : IsStanding bytes pieces (drop f.0 pieces) f.1 (suc n) = subst (λ m. IsStanding bytes pieces (drop f.0 pieces) f.1 m) (add-one n) (standing-next bytes pieces r.point n r.piece r.standing r.opens) in
    reached-by bytes pieces (suc n) f.0 f.1 c s e (is_open (place_of f.1) (drop f.0 pieces)) refl

pub same-code : (o : Option Code) (c d : Code) → o ≡ Some c → o ≡ Some d → c ≡ d
same-code o c d e h = cc

after-at : (bytes : List ℕ) (pieces : List Piece) (n : ℕ) (c d : Code) → IsContent bytes pieces →
    slice_get (content_of bytes pieces) n ≡ Some c → slice_get (content_of bytes pieces) (suc n) ≡ Some d →
    nat_lt c.value 128 ≡ true → is_later_byte d ≡ false
after-at bytes pieces n c d content e f h =
    let r : Reached bytes pieces n = reached bytes pieces content n c e in
    let here : IsOpenStanding bytes pieces r.point n = open-standing bytes pieces (drop r.piece pieces) r.point n r.standing r.opens in
    let same : code_here bytes r.point ≡ c = same-code _ _ _ here.code e in
    let low : get_or bytes r.point.index 0 < 128 = low-byte (get_or bytes r.point.index 0) r.point.vs (ap (λ (x : Code). nat_lt x.value 128) same ∙ h) in
    let stop : IsCharBoundary bytes (stop_at bytes r.point).index = stops-at bytes r.point content.is_text here.in_bytes low in
    let left : List Piece = drop r.piece pieces in
    let next : ℕ × Point = followed bytes r.piece (stop_at bytes r.point) left in
    let start : IsCharBoundary bytes next.1.index = follows-at bytes r.piece (stop_at bytes r.point) left (between-drop bytes r.piece pieces (between-all bytes pieces content.between_characters)) r.standing.in_order stop in
    let s : IsStanding bytes pieces (drop next.0 pieces) next.1 (suc n) = subst (λ m. IsStanding bytes pieces (drop next.0 pieces) next.1 m) (add-one n) (standing-next bytes pieces r.point n r.piece r.standing r.opens) in
    early-by next.0 next.1 (is_open (place_of next.1) (drop next.0 pieces)) s start refl
  where
    early-by : (k : ℕ) (p : Point) (b : Bool) → IsStanding bytes pieces (drop k pieces) p (suc n) →
        IsCharBoundary bytes p.index → is_open (place_of p) (drop k pieces) ≡ b → is_later_byte d ≡ false
    early-by k p true s start o =
        let there : IsOpenStanding bytes pieces p (suc n) = open-standing bytes pieces (drop k pieces) p (suc n) s o in
        ap (λ (x : Code). is_later_byte x) (same-code _ _ _ f there.code) ∙ early-at bytes p there.in_bytes start
    early-by k p false s start o =
        absurd (none-some _ d (closed-standing bytes pieces (drop k pieces) p (suc n) s o).0 f)

first-at : (bytes : List ℕ) (pieces : List Piece) (n : ℕ) (c : Code) → IsContent bytes pieces →
    slice_get (content_of bytes pieces) n ≡ Some c → is_later_byte c ≡ false → IsCharBoundary bytes c.start.index
first-at bytes pieces n c content e h =
    let r : Reached bytes pieces n = reached bytes pieces content n c e in
    let here : IsOpenStanding bytes pieces r.point n = open-standing bytes pieces (drop r.piece pieces) r.point n r.standing r.opens in
    let same : code_here bytes r.point ≡ c = same-code _ _ _ here.code e in
    subst (λ (x : Code). IsCharBoundary bytes x.start.index) same (begins-at bytes r.point here.in_bytes (ap (λ (x : Code). is_later_byte x) same ∙ h))

-- where the next code goes on in the same piece
follow-open : (bytes : List ℕ) (k : ℕ) (q : Point) (left : List Piece) → is_open (place_of q) left ≡ true →
    followed bytes k q left ≡ (k, q)
follow-open bytes k q [] o = refl
follow-open bytes k q (piece ∷ []) o = refl
follow-open bytes k q (piece ∷ next ∷ more) o = ap (λ b. if b then (k, q) else (k + 1, point_at bytes next.start)) o

-- where a piece ends
piece-ends : (bytes : List ℕ) (q : Point) (left : List Piece) (p : ℕ × ℕ) → Between bytes left → is_open p left ≡ true →
    is_open (place_of q) left ≡ false → IsCharBoundary bytes q.index
unfolding Between
piece-ends bytes q [] p h o e = absurd (never o)
  where
    never : false ≡ true → ⊥
    never x = cc
piece-ends bytes q (piece ∷ more) p h o e =
    let same : q.index ≡ piece.end.0 = eqb-true q.index piece.end.0 (and_parts (q.index == piece.end.0) (q.vs == piece.end.1) (not-false _ e)).0 in
    subst (λ i. IsCharBoundary bytes i) (sym same) h.0.1

-- a code ends between characters, unless a later byte follows
ends-at : (bytes : List ℕ) (pieces : List Piece) (n : ℕ) (c : Code) → IsContent bytes pieces →
    slice_get (content_of bytes pieces) n ≡ Some c →
    at_later (value_of (slice_get (content_of bytes pieces) (suc n))) ≡ false → IsCharBoundary bytes c.stop.index
ends-at bytes pieces n c content e h =
    let r : Reached bytes pieces n = reached bytes pieces content n c e in
    let here : IsOpenStanding bytes pieces r.point n = open-standing bytes pieces (drop r.piece pieces) r.point n r.standing r.opens in
    let same : code_here bytes r.point ≡ c = same-code _ _ _ here.code e in
    let q : Point = stop_at bytes r.point in
    let left : List Piece = drop r.piece pieces in
    let f : ℕ × Point = followed bytes r.piece q left in
    let s : IsStanding bytes pieces (drop f.0 pieces) f.1 (suc n) = subst (λ m. IsStanding bytes pieces (drop f.0 pieces) f.1 m) (add-one n) (standing-next bytes pieces r.point n r.piece r.standing r.opens) in
    subst (λ (x : Code). IsCharBoundary bytes x.stop.index) same (by-open r.piece q (is_open (place_of q) left) (place_of r.point) s (between-drop bytes r.piece pieces (between-all bytes pieces content.between_characters)) r.opens refl)
  where
    by-open : (k : ℕ) (q : Point) (b : Bool) (p : ℕ × ℕ) →
        (let f : ℕ × Point = followed bytes k q (drop k pieces) in IsStanding bytes pieces (drop f.0 pieces) f.1 (suc n)) →
        Between bytes (drop k pieces) → is_open p (drop k pieces) ≡ true → is_open (place_of q) (drop k pieces) ≡ b →
        IsCharBoundary bytes q.index
    by-open k q true p s w o g =
        let f : ℕ × Point = followed bytes k q (drop k pieces) in
        let on : IsStanding bytes pieces (drop k pieces) q (suc n) = subst (λ (x : ℕ × Point). IsStanding bytes pieces (drop x.0 pieces) x.1 (suc n)) (follow-open bytes k q (drop k pieces) g) s in
        let there : IsOpenStanding bytes pieces q (suc n) = open-standing bytes pieces (drop k pieces) q (suc n) on g in
        begins-at bytes q there.in_bytes (ap (λ (x : Option Code). at_later (value_of x)) (sym there.code) ∙ h)
    by-open k q false p s w o g = piece-ends bytes q (drop k pieces) p w o g

-- A code above the space is its byte.

plain-value : (b vs : ℕ) → 32 < (if is_line_ending_byte b then 10 else (if b == 9 && nat_lt 0 vs then 32 else b)) →
    (if is_line_ending_byte b then 10 else (if b == 9 && nat_lt 0 vs then 32 else b)) ≡ b
plain-value b vs h = grind (arith, nat_tests)

plain-no-ending : (b : ℕ) → 32 < b → is_line_ending_byte b ≡ false
plain-no-ending b h = grind (arith, nat_tests)

plain-no-tab : (b vs : ℕ) → 32 < b → (b == 9 && nat_lt 0 vs) ≡ false
plain-no-tab b vs h = grind (arith, nat_tests)

-- it ends right behind its byte
plain-stop : (bytes : List ℕ) (p : Point) → 32 < get_or bytes p.index 0 → (stop_at bytes p).index ≡ p.index + 1
plain-stop bytes p h =
    let b : ℕ = get_or bytes p.index 0 in
    let P : Bool → Bool → Type 0 = λ x y. (let q : Point = if x then line_start (p.line + 1) (p.index + line_ending_len b (drop (p.index + 1) bytes)) else (if y then next_column p p.index (p.vs + 1) else next_column p (p.index + 1) 0) in q.index ≡ p.index + 1) in
    subst (λ x. P x (b == tab_value && nat_lt 0 (tab_left p))) (sym (plain-no-ending b h)) (subst (λ y. P false y) (sym (plain-no-tab b (tab_left p) h)) refl)

-- and the next code stands in the same piece
plain-followed : (bytes : List ℕ) (pieces : List Piece) (k n : ℕ) (p : Point) (left : List Piece) → IsStanding bytes pieces left p n →
    is_open (place_of p) left ≡ true → is_line_ending (code_here bytes p) ≡ false →
    (followed bytes k (stop_at bytes p) left).1 ≡ stop_at bytes p
plain-followed bytes pieces k n p [] s o e = refl
plain-followed bytes pieces k n p (piece ∷ []) s o e = refl
plain-followed bytes pieces k n p (piece ∷ next ∷ more) s o e =
    elim (is_open (place_of (stop_at bytes p)) (piece ∷ [])) as (λ x. is_open (place_of (stop_at bytes p)) (piece ∷ []) ≡ x → (let r : ℕ × Point = if x then (k, stop_at bytes p) else (k + 1, point_at bytes next.start) in r.1 ≡ stop_at bytes p)) [
      | true ↦ λ h. refl
      | false ↦ λ h. let ends : is_line_ending (code_here bytes p) ≡ true = line-last bytes p piece next more (open-row bytes p piece (next ∷ more) s.is_point s.in_order s.within o) s.line h in
          let no : false ≡ true = sym e ∙ ends in cc
    ] refl

no-ending : (c : Code) → 32 < c.value → is_line_ending c ≡ false
no-ending c h = grind (arith, nat_tests)

byte-at : (bytes : List ℕ) (pieces : List Piece) (n : ℕ) (c : Code) → IsContent bytes pieces →
    slice_get (content_of bytes pieces) n ≡ Some c → 32 < c.value →
    (get_or bytes c.start.index 0 ≡ c.value) × ((start_or (slice_get (content_of bytes pieces) (suc n)) (content_end bytes pieces)).index ≡ c.start.index + 1)
byte-at bytes pieces n c content e h =
    let r : Reached bytes pieces n = reached bytes pieces content n c e in
    let p : Point = r.point in
    let here : IsOpenStanding bytes pieces p n = open-standing bytes pieces (drop r.piece pieces) p n r.standing r.opens in
    let same : code_here bytes p ≡ c = same-code _ _ _ here.code e in
    let low : 32 < value_at bytes p = subst (λ (x : Code). 32 < x.value) (sym same) h in
    let byte : value_at bytes p ≡ get_or bytes p.index 0 = plain-value (get_or bytes p.index 0) p.vs low in
    let left : List Piece = drop r.piece pieces in
    let f : ℕ × Point = followed bytes r.piece (stop_at bytes p) left in
    let s : IsStanding bytes pieces (drop f.0 pieces) f.1 (suc n) = subst (λ m. IsStanding bytes pieces (drop f.0 pieces) f.1 m) (add-one n) (standing-next bytes pieces p n r.piece r.standing r.opens) in
    let stays : f.1 ≡ stop_at bytes p = plain-followed bytes pieces r.piece n p left r.standing r.opens (no-ending (code_here bytes p) low) in
    let next : (start_or (slice_get (content_of bytes pieces) (suc n)) (content_end bytes pieces)).index ≡ p.index + 1 =
    ap (λ (x : Point). x.index) (sym (standing-point bytes pieces (drop f.0 pieces) f.1 (suc n) s) ∙ stays) ∙ plain-stop bytes p (subst (λ v. 32 < v) byte low) in
    subst (λ (x : Code). (get_or bytes x.start.index 0 ≡ x.value) × ((start_or (slice_get (content_of bytes pieces) (suc n)) (content_end bytes pieces)).index ≡ x.start.index + 1)) same (sym byte, next)

past-at : (bytes : List ℕ) (pieces : List Piece) (n : ℕ) (c : Code) → IsContent bytes pieces →
    slice_get (content_of bytes pieces) n ≡ Some c → 32 < c.value → c.stop.index ≡ c.start.index + 1
past-at bytes pieces n c content e h =
    let r : Reached bytes pieces n = reached bytes pieces content n c e in
    let p : Point = r.point in
    let here : IsOpenStanding bytes pieces p n = open-standing bytes pieces (drop r.piece pieces) p n r.standing r.opens in
    let same : code_here bytes p ≡ c = same-code _ _ _ here.code e in
    let low : 32 < value_at bytes p = subst (λ (x : Code). 32 < x.value) (sym same) h in
    let byte : value_at bytes p ≡ get_or bytes p.index 0 = plain-value (get_or bytes p.index 0) p.vs low in
    subst (λ (x : Code). x.stop.index ≡ x.start.index + 1) same (plain-stop bytes p (subst (λ v. 32 < v) byte low))

-- at each place of a content the text is read as characters
pub content-text : (bytes : List ℕ) (pieces : List Piece) (n : ℕ) → IsContent bytes pieces →
    IsText bytes (content_place bytes pieces n)
unfolding start_of_content
content-text bytes pieces n content = record {
  text = content.is_text;
  own = record { pieces = pieces; content = content; place = refl };
  end = end-at bytes pieces content.is_text (between-all bytes pieces content.between_characters) content.in_order;
  first = λ k c e h. first-at bytes pieces k c content e h;
  next = λ k c d e f h. after-at bytes pieces k c d content e f h;
  stop = λ k c e h. ends-at bytes pieces k c content e h;
  byte = λ k c e h. (byte-at bytes pieces k c content e h).0;
  past = λ k c e h. past-at bytes pieces k c content e h;
  behind = λ k c e h. (byte-at bytes pieces k c content e h).1;
}

pub text-moved_by : (bytes : List ℕ) (cs : List Code) (p : Place) → IsText bytes p → IsText bytes (moved_by cs p)
text-moved_by bytes [] p k = k
text-moved_by bytes (c ∷ cs) p k = text-moved_by bytes cs (moved p) (text-moved bytes p k)

-- and so it is past a tree
pub text-past : (previous : Option ℕ) (tree : Forest) (s : TokenizeState) (T : Tokenizer) → ReadsText T →
    ReadsText (past previous tree (scratched s T))
unfolding past scratched
text-past previous tree s T k = text-moved_by _ (leaf_codes tree) T.cursor k
