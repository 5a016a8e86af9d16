-- The codes of a content: a marker stands for the byte at its place, and the code after it begins where it ends.
use Rattle.std.proofs.Common.{◌≡◌, ◌≢◌, ℕ, suc, ◌+◌, ◌*◌, ◌<◌, ◌≤◌, ◌==◌, Bool, true, false, List, ◌∷◌, ◌++◌, length, get_or, refl, sym, ap, subst, ◌∙◌, arith, inl, inr, Some, None, []}
use Rattle.std.specs.Prelude.{slice_index_or, IsUtf8}
use Rattle.std.specs.Str.{IsCharBoundary}
use Rattle.std.proofs.lemmas.Str.{IsCharBoundary-before_ascii, IsCharBoundary-after_ascii}
use Rattle.std.proofs.lemmas.Bool.{eqb-true, cases_lt, both_ways}
use Rattle.std.proofs.lemmas.List.{append-nil}
use Rattle.markdown_event.specs.declared.event.Point.{Point}
use Rattle.markdown_content.specs.declared.parser.Piece.{Piece}
use Rattle.markdown_content.specs.Codes.{Code, tab_value, is_line_ending, is_line_ending_byte, codes_of, document_start, stop_of}
use Rattle.markdown_content.specs.Content.{piece_codes, content_of, ends_line, are_pieces}
use Rattle.markdown_content.specs.Tree.{start_of}
use Rattle.markdown_content.specs.DocumentWalk.{codes_after}
use Rattle.markdown_content.proofs.AdjacentCodes.{IsChain, before_in, from_in, split-at, chain-back}
use Rattle.markdown_content.proofs.DocumentPlaces.{chain-document, document-split}
use Rattle.markdown_content.proofs.ContentCodes.{piece-codes-is, piece_row, followed_by}
use Rattle.markdown_content.proofs.DocumentCodes.{codes_at, value_at, stop_at, code_here, HasPlaceNumbers}
use Rattle.markdown_content.proofs.DocumentWalkLemmas.{IsFirstCode, first-of, stands-start, value-ending, value-plain, stop-plain, value-tab}
use Rattle.markdown_model.specs.CodeTests.{is_value, is_empty}
use Rattle.markdown_model.specs.Grammar.{span, some}
use Rattle.markdown_model.specs.Runs.{marker_of}
use Rattle.markdown_model.proofs.NoLinkInConstructs.{PassesValue}
use Rattle.markdown_attention.specs.OpenRuns.{IsMarker}
use Rattle.markdown_attention.specs.RunsRead.{IsRunPlace}
use Rattle.markdown_attention.specs.RunsOfTree.{IsRun}
use Rattle.markdown_attention.specs.RunEvents.{IsStripe, shifted}
use Rattle.markdown_attention.proofs.TokenEvents.{stripe-stop}

-- the first of these codes begins here, if there is one
abbrev pub StartAt : Point → List Code → Type 0
StartAt p [] = Unit {0}
StartAt p (c ∷ cs) = c.start ≡ p

pub record IsSingleByte (bytes : List ℕ) (c : Code) (cs : List Code) : Type 0 where
  pub within : c.start.index < length bytes
  pub column : c.start.column ≤ 4 * c.start.index + 1
  pub byte : slice_index_or bytes c.start.index 0 ≡ c.value
  pub stop : c.stop ≡ shifted c.start 1
  pub next : StartAt c.stop cs

-- each marker among these codes is one byte, and the code after it begins where it ends
abbrev pub AreSingles : List ℕ → List Code → Type 0
AreSingles bytes [] = Unit {0}
AreSingles bytes (c ∷ cs) = (IsMarker c.value → IsSingleByte bytes c cs) × AreSingles bytes cs

-- Parts.

pub singles-back : (bytes : List ℕ) (a b : List Code) → AreSingles bytes (a ++ b) → AreSingles bytes b
singles-back bytes [] b h = h
singles-back bytes (c ∷ cs) b h = singles-back bytes cs b h.1

start-front : (p : Point) (a b : List Code) → StartAt p (a ++ b) → StartAt p a
start-front p [] b h = tt
start-front p (c ∷ cs) b h = h

pub singles-front : (bytes : List ℕ) (a b : List Code) → AreSingles bytes (a ++ b) → AreSingles bytes a
singles-front bytes [] b h = tt
singles-front bytes (c ∷ cs) b h =
    (λ m. let one : IsSingleByte bytes c (cs ++ b) = h.0 m in record { within = one.within; column = one.column; byte = one.byte; stop = one.stop; next = start-front c.stop cs b one.next }, singles-front bytes cs b h.1)

-- no line ending, space or tab is a marker
other-marker : (n : ℕ) → n < 42 → IsMarker n → ⊥
other-marker n l (inl e) = omega (arith, l, e)
other-marker n l (inr (inl e)) = omega (arith, l, e)
other-marker n l (inr (inr e)) = omega (arith, l, e)

ending-marker : (c : Code) → is_line_ending c ≡ true → IsMarker c.value → ⊥
ending-marker c h m = let e : c.value ≡ 10 = eqb-true c.value 10 h in other-marker c.value (omega (arith, e)) m

pub singles-join : (bytes : List ℕ) (a b : List Code) → ends_line a ≡ true → AreSingles bytes a → AreSingles bytes b →
    AreSingles bytes (a ++ b)
singles-join bytes [] b e h k = k
singles-join bytes (c ∷ []) b e h k = ((λ m. absurd (ending-marker c e m)), k)
singles-join bytes (c ∷ d ∷ ds) b e h k =
    (λ m. let one : IsSingleByte bytes c (d ∷ ds) = h.0 m in record { within = one.within; column = one.column; byte = one.byte; stop = one.stop; next = one.next }, singles-join bytes (d ∷ ds) b e h.1 k)

-- The codes of a document.

chain-start : (p : Point) (cs : List Code) → IsChain p cs → StartAt p cs
chain-start p [] h = tt
chain-start p (c ∷ cs) h = h.0

-- a marker at a place
module _ (bytes : List ℕ) (p : Point) (s : HasPlaceNumbers bytes p) where
  by-tests : (e t : Bool) → is_line_ending_byte (get_or bytes p.index 0) ≡ e → (get_or bytes p.index 0 == tab_value) ≡ t → IsMarker (value_at bytes p)
      → (get_or bytes p.index 0 ≡ value_at bytes p) × (stop_at bytes p ≡ shifted p 1)
  by-tests true t h k m = absurd (other-marker 10 (omega arith) (subst IsMarker (sym (value-ending bytes p h)) m))
  by-tests false true h k m = grind (arith, value-tab, other-marker)
  by-tests false false h k m = grind (arith, value-plain, stop-plain, cases_lt, both_ways)

  pub marker-here : IsMarker (value_at bytes p) →
      (get_or bytes p.index 0 ≡ value_at bytes p) × (stop_at bytes p ≡ shifted p 1)
  marker-here = by-tests (is_line_ending_byte (get_or bytes p.index 0)) (get_or bytes p.index 0 == tab_value) refl refl

-- a marker is no column of a tab
no-tab : (bytes : List ℕ) (p : Point) → HasPlaceNumbers bytes p → IsMarker (value_at bytes p) → p.vs ≡ 0
no-tab bytes p s m = grind (arith, cases_lt, marker-here, other-marker)

single-first : (bytes : List ℕ) (p : Point) (c : Code) (cs : List Code) → HasPlaceNumbers bytes p → p.index < length bytes →
    c ≡ code_here bytes p → StartAt c.stop cs → IsMarker c.value → IsSingleByte bytes c cs
single-first bytes p c cs s w e n m = grind (arith, marker-here, no-tab)

singles-at : (bytes : List ℕ) (p : Point) (cs : List Code) → HasPlaceNumbers bytes p → codes_at bytes p ≡ cs → IsChain p cs →
    AreSingles bytes cs
singles-at bytes p [] s e h = tt
singles-at bytes p (c ∷ cs) s e h =
    let one : IsFirstCode bytes p c cs = first-of bytes p c cs s e in
    (λ m. single-first bytes p c cs s one.in_bytes one.code (chain-start c.stop cs h.2) m, singles-at bytes c.stop cs one.stands (sym one.rest) h.2)

singles-document : (bytes : List ℕ) → AreSingles bytes (codes_of bytes)
singles-document bytes =
    singles-at bytes document_start (codes_of bytes) (stands-start bytes) refl (chain-document bytes)

-- The codes of a content.

singles-piece : (bytes : List ℕ) (piece : Piece) → AreSingles bytes (piece_codes (codes_of bytes) piece)
singles-piece bytes piece =
    let front : List Code = before_in piece.start (codes_of bytes) in
    let back : List Code = codes_after bytes piece.start in
    let whole : codes_of bytes ≡ front ++ back = document-split bytes piece.start in
    let behind : AreSingles bytes back = singles-back bytes front back (subst (λ (x : List Code). AreSingles bytes x) whole (singles-document bytes)) in
    let chain : IsChain (stop_of document_start front) back = chain-back document_start front back (subst (λ (x : List Code). IsChain document_start x) whole (chain-document bytes)) in
    let parts : back ≡ before_in piece.end back ++ from_in piece.end back = split-at (stop_of document_start front) back piece.end chain in
    subst (λ (x : List Code). AreSingles bytes x) (sym (piece-codes-is bytes piece))
    (singles-front bytes (before_in piece.end back) (from_in piece.end back) (subst (λ (x : List Code). AreSingles bytes x) parts behind))

pub singles-content : (bytes : List ℕ) (pieces : List Piece) → are_pieces bytes pieces ≡ true →
    AreSingles bytes (content_of bytes pieces)
singles-content bytes [] h = tt
singles-content bytes (piece ∷ []) h =
    subst (λ (x : List Code). AreSingles bytes x) (sym (append-nil (piece_codes (codes_of bytes) piece))) (singles-piece bytes piece)
singles-content bytes (piece ∷ next ∷ more) h =
    singles-join bytes (piece_codes (codes_of bytes) piece) (content_of bytes (next ∷ more)) (followed_by bytes piece next more h).ends (singles-piece bytes piece)
    (singles-content bytes (next ∷ more) (piece_row bytes piece (next ∷ more) h).others)

-- Runs.

-- where it stands
abbrev pub IsPlaced : List ℕ → List Code → Type 0
IsPlaced bytes cs =
    IsUtf8 bytes → IsRunPlace bytes (start_of cs) (stop_of document_start cs) × ((stop_of document_start cs).column ≤ 4 * (stop_of document_start cs).index + 1)

-- what a leaf of a run covers
abbrev pub AreRunCodes : List ℕ → List Code → Type 0
AreRunCodes bytes cs = ((cs ≢ []) × IsStripe (marker_of cs) (start_of cs) cs) × (IsRun bytes cs × IsPlaced bytes cs)

pub marker-ascii : (n : ℕ) → IsMarker n → n < 128
marker-ascii n (inl e) = omega (arith, e)
marker-ascii n (inr (inl e)) = omega (arith, e)
marker-ascii n (inr (inr e)) = omega (arith, e)

-- a run ends between characters
run-between : (bytes : List ℕ) (m : ℕ) (p : Point) (cs : List Code) → IsUtf8 bytes → IsMarker m → AreSingles bytes cs →
    IsCharBoundary bytes p.index → IsCharBoundary bytes (stop_of p (span (is_value m) cs).0).index
run-between bytes m p [] u k h b = b
run-between bytes m p (c ∷ cs) u k h b = by_test (is_value m c) refl (λ x. run-between bytes m c.stop cs u k h.1 x)
  where
    by_test : (t : Bool) → is_value m c ≡ t → (IsCharBoundary bytes c.stop.index → IsCharBoundary bytes (stop_of c.stop (span (is_value m) cs).0).index)
        → let r : List Code × List Code = elim t [ true ↦ let s = span (is_value m) cs in (c ∷ s.0, s.1) | false ↦ ([], c ∷ cs) ] in IsCharBoundary bytes (stop_of p r.0).index
    by_test true e more =
        let same : c.value ≡ m = eqb-true c.value m e in
        let mark : IsMarker c.value = subst IsMarker (sym same) k in
        let one : IsSingleByte bytes c cs = h.0 mark in
        let low : get_or bytes c.start.index 0 < 128 = subst (λ (n : ℕ). n < 128) (sym one.byte) (marker-ascii c.value mark) in
        let stop : c.start.index + 1 ≡ c.stop.index = ap (λ (x : Point). x.index) (sym one.stop) in
        more (subst (λ (n : ℕ). IsCharBoundary bytes n) stop (IsCharBoundary-after_ascii bytes c.start.index u one.within low))
    by_test false e more = b

run-stripe : (bytes : List ℕ) (m : ℕ) (p : Point) (cs : List Code) → IsMarker m → AreSingles bytes cs → StartAt p cs →
    IsStripe m p (span (is_value m) cs).0
run-stripe bytes m p [] k h s = tt
run-stripe bytes m p (c ∷ cs) k h s = by_test (is_value m c) refl (λ n. run-stripe bytes m (shifted p 1) cs k h.1 n)
  where
    by_test : (b : Bool) → is_value m c ≡ b → (StartAt (shifted p 1) cs → IsStripe m (shifted p 1) (span (is_value m) cs).0)
        → let r : List Code × List Code = elim b [ true ↦ let s = span (is_value m) cs in (c ∷ s.0, s.1) | false ↦ ([], c ∷ cs) ] in IsStripe m p r.0
    by_test true e more =
        let same : c.value ≡ m = eqb-true c.value m e in
        let one : IsSingleByte bytes c cs = h.0 (subst IsMarker (sym same) k) in
        let stop : c.stop ≡ shifted p 1 = one.stop ∙ ap (λ (x : Point). shifted x 1) s in
        (same, (s, (stop, more (subst (λ (x : Point). StartAt x cs) stop one.next))))
    by_test false e more = tt

pub run-leaf : (bytes : List ℕ) (m : ℕ) (cs : List Code) → IsMarker m → AreSingles bytes cs →
    PassesValue (AreRunCodes bytes) (some (is_value m) cs)
unfolding some
run-leaf bytes m [] k h = tt
run-leaf bytes m (c ∷ cs) k h = by_test (is_value m c) refl (run-stripe bytes m c.start (c ∷ cs) k h refl) (λ u b. run-between bytes m c.start (c ∷ cs) u k h b)
  where
    leaf-of : (ds : List Code) → c.value ≡ m → IsStripe m c.start (c ∷ ds) →
        (IsUtf8 bytes → IsCharBoundary bytes c.start.index → IsCharBoundary bytes (stop_of c.stop ds).index) →
        AreRunCodes bytes (c ∷ ds)
    leaf-of ds e x y =
        let stop : stop_of c.stop ds ≡ shifted c.start (suc (length ds)) = stripe-stop m c.start c.start (c ∷ ds) x refl in
        let one : IsSingleByte bytes c cs = h.0 (subst IsMarker (sym e) k) in
        (((λ n. cons n), subst (λ n. IsStripe n c.start (c ∷ ds)) (sym e) x), ((one.byte, ap (λ (q : Point). q.index) stop), placed))
      where
        cons : c ∷ ds ≡ [] → ⊥
        cons n = cc

        mark : IsMarker c.value
        mark = subst IsMarker (sym e) k

        here : IsSingleByte bytes c cs
        here = h.0 mark

        low : get_or bytes c.start.index 0 < 128
        low = subst (λ (n : ℕ). n < 128) (sym here.byte) (marker-ascii c.value mark)

        from : IsCharBoundary bytes c.start.index
        from = IsCharBoundary-before_ascii bytes c.start.index here.within low

        later : (stop_of c.stop ds).index ≡ c.start.index + suc (length ds)
        later = ap (λ (q : Point). q.index) (stripe-stop m c.start c.start (c ∷ ds) x refl)

        further : (stop_of c.stop ds).column ≡ c.start.column + suc (length ds)
        further = ap (λ (q : Point). q.column) (stripe-stop m c.start c.start (c ∷ ds) x refl)

        placed : IsPlaced bytes (c ∷ ds)
        placed u = (record { from_between = from; to_between = y u from; within = here.within; marker = subst IsMarker (sym here.byte) mark; forward = omega (arith, later) }, omega (arith, later, further, here.column))

    by_test : (b : Bool) → is_value m c ≡ b
        → (let r : List Code × List Code = elim b [ true ↦ let s = span (is_value m) cs in (c ∷ s.0, s.1) | false ↦ ([], c ∷ cs) ] in IsStripe m c.start r.0)
        → (IsUtf8 bytes → IsCharBoundary bytes c.start.index
        → let r : List Code × List Code = elim b [ true ↦ let s = span (is_value m) cs in (c ∷ s.0, s.1) | false ↦ ([], c ∷ cs) ] in IsCharBoundary bytes (stop_of c.start r.0).index)
        → let r : List Code × List Code = elim b [ true ↦ let s = span (is_value m) cs in (c ∷ s.0, s.1) | false ↦ ([], c ∷ cs) ] in
        PassesValue (AreRunCodes bytes) (elim (is_empty r.0) [ true ↦ None | false ↦ Some r ])
    by_test true e x y = leaf-of (span (is_value m) cs).0 (eqb-true c.value m e) x y
    by_test false e x y = tt
