-- The leaves of a tree over a content stand one after another.
use Rattle.std.proofs.Common.{◌≡◌, ◌≢◌, ◌⊎◌, inl, inr, ℕ, Bool, true, false, not, cond, filter, IsTrue, List, [], ◌∷◌, ◌++◌, refl, sym, ap, subst, ◌∙◌, append_assoc, append-nil}
use Rattle.std.proofs.lemmas.Bool.{not-true}
use Rattle.std.specs.List.{All}
use Rattle.std.proofs.lemmas.List.Elements.{All-nil, All-cons}
use Rattle.markdown_content.specs.Codes.{Code, codes_of, document_start, is_at_or_after, is_code_before, place_of, stop_of}
use Rattle.markdown_content.specs.Content.{are_pieces, content_of, is_in_piece, piece_codes}
use Rattle.markdown_content.specs.Tree.{Forest, empty, leaf_then, group_then, leaf_codes, start_of}
use Rattle.markdown_event.specs.declared.event.Point.{Point}
use Rattle.markdown_content.specs.declared.parser.Piece.{Piece}
use Rattle.markdown_content.specs.DocumentWalk.{IsPoint}
use Rattle.markdown_content.proofs.AdjacentCodes.{IsChain}
use Rattle.markdown_event.proofs.AndParts.{and-left, and-right}
use Rattle.markdown_content.proofs.PlaceOrder.{is_before, before-self, not_before-trans, before-asym, before-reach}
use Rattle.markdown_content.proofs.DocumentPlaces.{chain-split}
use Rattle.markdown_content.proofs.ContentCodes.{IsPieceRow, piece_row, followed_by}
use Rattle.markdown_innermost.specs.InnermostEvents.{HasLeaves, Span, leaves_of}
use Rattle.markdown_model.specs.CodeTests.{is_empty}
use Rattle.markdown_passes.specs.TrimmedData.{between, IsStretch}
use Rattle.markdown_passes.proofs.TrimPassLaw.{IsStretchOf, part-of}
use Rattle.markdown_passes.proofs.TrimWalks.{forward-as, ended-of}
use Rattle.markdown_innermost.specs.LeafLaws.{filled, FollowOn}

-- Something said of each code.

abbrev pub EachCode : (Code → Type 0) → List Code → Type 0
EachCode P [] = Unit {0}
EachCode P (c ∷ cs) = P c × EachCode P cs

each-map : (P Q : Code → Type 0) → ((c : Code) → P c → Q c) → (cs : List Code) → EachCode P cs → EachCode Q cs
each-map P Q f [] h = tt
each-map P Q f (c ∷ cs) h = (f c h.0, each-map P Q f cs h.1)

each-both : (P Q : Code → Type 0) (cs : List Code) → EachCode P cs → EachCode Q cs → EachCode (λ c. P c × Q c) cs
each-both P Q [] h k = tt
each-both P Q (c ∷ cs) h k = ((h.0, k.0), each-both P Q cs h.1 k.1)

each-join : (P : Code → Type 0) (xs ys : List Code) → EachCode P xs → EachCode P ys → EachCode P (xs ++ ys)
each-join P [] ys h k = k
each-join P (c ∷ xs) ys h k = (h.0, each-join P xs ys h.1 k)

each-filter : (P : Code → Type 0) (p : Code → Bool) (cs : List Code) → EachCode P cs → EachCode P (filter p cs)
each-filter P p [] h = tt
each-filter P p (c ∷ cs) h = by_test (p c) (each-filter P p cs h.1)
  where
    by_test : (b : Bool) → EachCode P (filter p cs) → EachCode P (cond b (c ∷ filter p cs) (filter p cs))
    by_test true k = (h.0, k)
    by_test false k = k

filter-passes : (p : Code → Bool) (cs : List Code) → EachCode (λ c. p c ≡ true) (filter p cs)
filter-passes p [] = tt
filter-passes p (c ∷ cs) = by_test (p c) refl (filter-passes p cs)
  where
    by_test : (b : Bool) → p c ≡ b → EachCode (λ d. p d ≡ true) (filter p cs) →
        EachCode (λ d. p d ≡ true) (cond b (c ∷ filter p cs) (filter p cs))
    by_test true e k = (e, k)
    by_test false e k = k

each-pieces : (P : Code → Type 0) (bytes : List ℕ) (pieces : List Piece) → EachCode P (codes_of bytes) →
    EachCode P (content_of bytes pieces)
each-pieces P bytes [] h = tt
each-pieces P bytes (piece ∷ more) h =
    each-join P (piece_codes (codes_of bytes) piece) (content_of bytes more) (each-filter P (is_in_piece piece) (codes_of bytes) h) (each-pieces P bytes more h)

-- Places.

abbrev pub NotBefore : ℕ × ℕ → Code → Type 0
NotBefore at d = is_before (place_of d.start) at ≡ false

abbrev StartsAfter : Code → Code → Type 0
StartsAfter c d = is_before (place_of c.start) (place_of d.start) ≡ true

-- what begins behind a code begins where it has ended
abbrev Apart : Code → Code → Type 0
Apart c d = StartsAfter c d → NotBefore (place_of c.stop) d

abbrev Rise : List Code → Type 0
Rise [] = Unit {0}
Rise (c ∷ cs) = EachCode (StartsAfter c) cs × Rise cs

-- each later code begins where one before has ended, or after it
abbrev pub Later : List Code → Type 0
Later [] = Unit {0}
Later (c ∷ cs) = EachCode (NotBefore (place_of c.stop)) cs × Later cs

-- The codes of a document.

chain-starts : (p : Point) (cs : List Code) → IsChain p cs → EachCode (NotBefore (place_of p)) cs
chain-starts p [] h = tt
chain-starts p (c ∷ cs) h = (
  subst (λ (q : Point). is_before (place_of q) (place_of p) ≡ false) (sym h.0) (before-self (place_of p)),
  each-map (NotBefore (place_of c.stop)) (NotBefore (place_of p)) (λ d k. not_before-trans (place_of d.start) (place_of c.stop) (place_of p) k (before-asym (place_of p) (place_of c.stop) h.1)) cs (chain-starts c.stop cs h.2),
)

ends-later : (p : Point) (c : Code) (cs : List Code) → IsChain p (c ∷ cs) →
    is_before (place_of c.start) (place_of c.stop) ≡ true
ends-later p c cs h = subst (λ (q : Point). is_before (place_of q) (place_of c.stop) ≡ true) (sym h.0) h.1

chain-rise : (p : Point) (cs : List Code) → IsChain p cs → Rise cs
chain-rise p [] h = tt
chain-rise p (c ∷ cs) h = (
  each-map (NotBefore (place_of c.stop)) (StartsAfter c) (λ d k. before-reach (place_of c.start) (place_of c.stop) (place_of d.start) (ends-later p c cs h) k) cs (chain-starts c.stop cs h.2),
  chain-rise c.stop cs h.2,
)

chain-apart : (p : Point) (cs : List Code) → IsChain p cs → EachCode (λ c. EachCode (Apart c) cs) cs
chain-apart p [] h = tt
chain-apart p (c ∷ cs) h = (
  (λ k. absurd (let no : true ≡ false = sym k ∙ before-self (place_of c.start) in cc), each-map (NotBefore (place_of c.stop)) (Apart c) (λ d k _. k) cs behind),
  each-map (λ a. NotBefore (place_of c.stop) a × EachCode (Apart a) cs) (λ a. EachCode (Apart a) (c ∷ cs)) (λ a k. (λ l. absurd (none a k.0 l), k.1)) cs (each-both (NotBefore (place_of c.stop)) (λ a. EachCode (Apart a) cs) cs behind (chain-apart c.stop cs h.2)),
)
  where
    behind : EachCode (NotBefore (place_of c.stop)) cs
    behind = chain-starts c.stop cs h.2

    none : (a : Code) → NotBefore (place_of c.stop) a → StartsAfter a c → ⊥
    none a k l =
        let no : true ≡ false = sym l ∙ not_before-trans (place_of a.start) (place_of c.stop) (place_of c.start) k (before-asym (place_of c.start) (place_of c.stop) (ends-later p c cs h)) in
        cc

-- The codes of a content.

rise-filter : (p : Code → Bool) (cs : List Code) → Rise cs → Rise (filter p cs)
rise-filter p [] h = tt
rise-filter p (c ∷ cs) h = by_test (p c) (rise-filter p cs h.1)
  where
    by_test : (b : Bool) → Rise (filter p cs) → Rise (cond b (c ∷ filter p cs) (filter p cs))
    by_test true k = (each-filter (StartsAfter c) p cs h.0, k)
    by_test false k = k

rise-join : (xs ys : List Code) → Rise xs → Rise ys → EachCode (λ x. EachCode (StartsAfter x) ys) xs → Rise (xs ++ ys)
rise-join [] ys h k l = k
rise-join (c ∷ xs) ys h k l = (each-join (StartsAfter c) xs ys h.0 l.0, rise-join xs ys h.1 k l.1)

module _ (bytes : List ℕ) where
  abbrev codes-in : Piece → List Code
  codes-in piece = piece_codes (codes_of bytes) piece

  from-start : (piece : Piece) → EachCode (NotBefore piece.start) (codes-in piece)
  from-start piece =
      each-map (λ c. is_in_piece piece c ≡ true) (NotBefore piece.start) (λ c h. not-true (is_code_before piece.start c) (and-left _ _ h)) (codes-in piece) (filter-passes (is_in_piece piece) (codes_of bytes))

  to-end : (piece : Piece) → EachCode (λ c. is_before (place_of c.start) piece.end ≡ true) (codes-in piece)
  to-end piece =
      each-map (λ c. is_in_piece piece c ≡ true) (λ c. is_before (place_of c.start) piece.end ≡ true) (λ c h. and-right _ _ h) (codes-in piece) (filter-passes (is_in_piece piece) (codes_of bytes))

  content-starts : (piece : Piece) (more : List Piece) → are_pieces bytes (piece ∷ more) ≡ true →
      EachCode (NotBefore piece.start) (content_of bytes (piece ∷ more))
  content-starts piece [] h = each-join (NotBefore piece.start) (codes-in piece) [] (from-start piece) tt
  content-starts piece (next ∷ more) h =
      let row : IsPieceRow bytes piece (next ∷ more) = piece_row bytes piece (next ∷ more) h in
      each-join (NotBefore piece.start) (codes-in piece) (content_of bytes (next ∷ more)) (from-start piece)
      (each-map (NotBefore next.start) (NotBefore piece.start) (λ d k. not_before-trans (place_of d.start) next.start piece.start k (not_before-trans next.start piece.end piece.start (followed_by bytes piece next more h).after row.in_order)) (content_of bytes (next ∷ more)) (content-starts next more row.others))

  content-rise : (pieces : List Piece) → are_pieces bytes pieces ≡ true → Rise (content_of bytes pieces)
  content-rise [] h = tt
  content-rise (piece ∷ []) h =
      subst Rise (sym (append-nil (codes-in piece))) (rise-filter (is_in_piece piece) (codes_of bytes) (chain-rise document_start (codes_of bytes) (chain-split bytes [] (codes_of bytes) refl)))
  content-rise (piece ∷ next ∷ more) h =
      let row : IsPieceRow bytes piece (next ∷ more) = piece_row bytes piece (next ∷ more) h in
      rise-join (codes-in piece) (content_of bytes (next ∷ more)) (rise-filter (is_in_piece piece) (codes_of bytes) (chain-rise document_start (codes_of bytes) (chain-split bytes [] (codes_of bytes) refl))) (content-rise (next ∷ more) row.others)
      (each-map (λ c. is_before (place_of c.start) piece.end ≡ true) (λ c. EachCode (StartsAfter c) (content_of bytes (next ∷ more))) (λ c k.
      each-map (NotBefore next.start) (StartsAfter c) (λ d l. before-reach (place_of c.start) piece.end (place_of d.start) k (not_before-trans (place_of d.start) next.start piece.end l (followed_by bytes piece next more h).after)) (content_of bytes (next ∷ more)) (content-starts next more row.others)) (codes-in piece) (to-end piece))

  later-of : (cs : List Code) → Rise cs → EachCode (λ c. EachCode (Apart c) cs) cs → Later cs
  later-of [] h k = tt
  later-of (c ∷ cs) h k = (
    each-map (λ d. StartsAfter c d × Apart c d) (NotBefore (place_of c.stop)) (λ d l. l.1 l.0) cs (each-both (StartsAfter c) (Apart c) cs h.0 k.0.1),
    later-of cs h.1 (each-map (λ a. EachCode (Apart a) (c ∷ cs)) (λ a. EachCode (Apart a) cs) (λ a l. l.1) cs k.1),
  )

  -- each code of a content begins where the one before it has ended, or after it
  pub content-later : (pieces : List Piece) → are_pieces bytes pieces ≡ true → Later (content_of bytes pieces)
  content-later pieces h =
      let document : EachCode (λ c. EachCode (Apart c) (codes_of bytes)) (codes_of bytes) = chain-apart document_start (codes_of bytes) (chain-split bytes [] (codes_of bytes) refl) in
      later-of (content_of bytes pieces) (content-rise pieces h)
      (each-pieces (λ c. EachCode (Apart c) (content_of bytes pieces)) bytes pieces (each-map (λ c. EachCode (Apart c) (codes_of bytes)) (λ c. EachCode (Apart c) (content_of bytes pieces)) (λ c k. each-pieces (Apart c) bytes pieces k) (codes_of bytes) document))

  -- Spans with the codes of each.

  -- a span around these codes, or at one place
  record IsSpanOver (s : Span) (xs : List Code) : Type 0 where
    codes : between bytes s.start s.end ≡ xs
    places : ((xs ≡ []) × (s.start ≡ s.end)) ⊎ ((xs ≢ []) × (s.start ≡ start_of xs) × (s.end ≡ stop_of document_start xs))

  nothing : (a b : Point) → IsPoint bytes a → a ≡ b → between bytes a b ≡ []
  nothing a b h e =
      let self : IsStretch bytes a a = record { from_place = h; to_place = h; forward = forward-as a a (before-self (place_of a)) } in
      subst (λ (x : Point). between bytes a x ≡ []) e (ended-of bytes a a self (before-self (place_of a))).none

  abbrev AreSpansOver : List Span → List Code → Type 0
  AreSpansOver [] cs = cs ≡ []
  AreSpansOver (s ∷ ss) cs = (xs : List Code) × (ys : List Code) × (cs ≡ xs ++ ys) × IsSpanOver s xs × AreSpansOver ss ys

  row-join : (ss ts : List Span) (cs ds : List Code) → AreSpansOver ss cs → AreSpansOver ts ds → AreSpansOver (ss ++ ts) (cs ++ ds)
  row-join [] ts cs ds h k = subst (AreSpansOver ts) (ap (λ x. x ++ ds) (sym h)) k
  row-join (s ∷ ss) ts cs ds h k =
      (h.0, h.1 ++ ds, ap (λ x. x ++ ds) h.2 ∙ append_assoc h.0 h.1 ds, h.3, row-join ss ts h.1 ds h.4 k)

  leaves-row : (t : Forest) → HasLeaves bytes t → AreSpansOver (leaves_of t) (leaf_codes t)
  leaves-row empty h = refl
  leaves-row (leaf_then name link cs rest) h =
      let p : IsStretchOf bytes cs = part-of bytes cs h.0 in
      (cs, leaf_codes rest, refl, record { codes = p.codes; places = inr (h.0.some, refl, refl) }, leaves-row rest h.1)
  leaves-row (group_then name a b empty rest) h =
      ([], leaf_codes rest, refl, record { codes = nothing a b h.0.0 h.0.1; places = inl (refl, h.0.1) }, leaves-row rest h.1)
  leaves-row (group_then name a b (leaf_then m l cs more) rest) h =
      row-join (leaves_of (leaf_then m l cs more)) (leaves_of rest) (leaf_codes (leaf_then m l cs more)) (leaf_codes rest) (leaves-row (leaf_then m l cs more) h.0) (leaves-row rest h.1)
  leaves-row (group_then name a b (group_then m c d inner more) rest) h =
      row-join (leaves_of (group_then m c d inner more)) (leaves_of rest) (leaf_codes (group_then m c d inner more)) (leaf_codes rest) (leaves-row (group_then m c d inner more) h.0) (leaves-row rest h.1)

  -- In order.

  later-both : (xs ys : List Code) → Later (xs ++ ys) →
      Later ys × (xs ≢ [] → EachCode (NotBefore (place_of (stop_of document_start xs))) ys)
  later-both [] ys h = (h, λ some. absurd (some refl))
  later-both (c ∷ []) ys h = (h.1, λ some. h.0)
  later-both (c ∷ x ∷ xs) ys h =
      let rest : Later ys × (x ∷ xs ≢ [] → EachCode (NotBefore (place_of (stop_of document_start (x ∷ xs)))) ys) = later-both (x ∷ xs) ys h.1 in (rest.0, λ some. rest.1 (λ e. cc))

  each-first : (P : Code → Type 0) (xs ys : List Code) → EachCode P (xs ++ ys) → EachCode P ys
  each-first P [] ys h = h
  each-first P (c ∷ xs) ys h = each-first P xs ys h.1

  abbrev BeginsAfter : Point → Span → Type 0
  BeginsAfter p t = IsTrue (is_at_or_after (place_of p) (place_of t.start))

  abbrev pub has_none : Span → Bool
  has_none s = is_empty (between bytes s.start s.end)

  with-one : (Q : Span → Type 0) (s : Span) (ss : List Span) → (has_none s ≡ false → Q s) → All Q (filled bytes ss) →
      All Q (filled bytes (s ∷ ss))
  with-one Q s ss h k = by_test (has_none s) refl
    where
      by_test : (b : Bool) → has_none s ≡ b → All Q (cond (not b) (s ∷ filled bytes ss) (filled bytes ss))
      by_test true e = k
      by_test false e = All-cons Q s (filled bytes ss) (h e) k

  first-after : (p : Point) (xs ys : List Code) → is_empty xs ≡ false → EachCode (NotBefore (place_of p)) (xs ++ ys) →
      is_before (place_of (start_of xs)) (place_of p) ≡ false
  first-after p [] ys h k = cc
  first-after p (c ∷ xs) ys h k = k.0

  begins-after : (p : Point) (s : Span) (xs ys : List Code) → IsSpanOver s xs → EachCode (NotBefore (place_of p)) (xs ++ ys) →
      has_none s ≡ false → BeginsAfter p s
  begins-after p s xs ys one h e =
      let some : is_empty xs ≡ false = sym (ap is_empty one.codes) ∙ e in
      elim one.places [
        | inl k ↦ absurd (let no : true ≡ false = sym (ap is_empty k.0) ∙ some in cc)
        | inr k ↦ forward-as p s.start (ap (λ (q : Point). is_before (place_of q) (place_of p)) k.1 ∙ first-after p xs ys some h)
      ]

  starts-after : (p : Point) (ss : List Span) (cs : List Code) → AreSpansOver ss cs → EachCode (NotBefore (place_of p)) cs →
      All (BeginsAfter p) (filled bytes ss)
  starts-after p [] cs h k = All-nil (BeginsAfter p)
  starts-after p (s ∷ ss) cs h k =
      let all : EachCode (NotBefore (place_of p)) (h.0 ++ h.1) = subst (EachCode (NotBefore (place_of p))) h.2 k in
      with-one (BeginsAfter p) s ss (begins-after p s h.0 h.1 h.3 all) (starts-after p ss h.1 h.4 (each-first (NotBefore (place_of p)) h.0 h.1 all))

  ends-before : (s : Span) (xs ys : List Code) → IsSpanOver s xs → Later (xs ++ ys) → has_none s ≡ false →
      EachCode (NotBefore (place_of s.end)) ys
  ends-before s xs ys one h e =
      elim one.places [
        | inl k ↦ absurd (let no : true ≡ false = sym (ap is_empty (one.codes ∙ k.0)) ∙ e in cc)
        | inr k ↦ subst (λ (q : Point). EachCode (NotBefore (place_of q)) ys) (sym k.2) ((later-both xs ys h).1 k.0)
      ]

  follow-one : (s : Span) (ss : List Span) → (has_none s ≡ false → All (BeginsAfter s.end) (filled bytes ss)) →
      FollowOn (filled bytes ss) → FollowOn (filled bytes (s ∷ ss))
  follow-one s ss h k = by_test (has_none s) refl
    where
      by_test : (b : Bool) → has_none s ≡ b → FollowOn (cond (not b) (s ∷ filled bytes ss) (filled bytes ss))
      by_test true e = k
      by_test false e = (h e, k)

  follow-on : (ss : List Span) (cs : List Code) → AreSpansOver ss cs → Later cs → FollowOn (filled bytes ss)
  follow-on [] cs h k = tt
  follow-on (s ∷ ss) cs h k =
      let all : Later (h.0 ++ h.1) = subst Later h.2 k in
      follow-one s ss (λ e. starts-after s.end ss h.1 h.4 (ends-before s h.0 h.1 h.3 all e)) (follow-on ss h.1 h.4 (later-both h.0 h.1 all).0)

  abbrev pub StandsStill : Span → Type 0
  StandsStill s = has_none s ≡ true → s.start ≡ s.end

  stands-still : (s : Span) (xs : List Code) → IsSpanOver s xs → StandsStill s
  stands-still s xs one e =
      elim one.places [
        | inl k ↦ k.1
        | inr k ↦ absurd (k.0 (nothing-in xs (sym (ap is_empty one.codes) ∙ e)))
      ]
    where
      nothing-in : (ys : List Code) → is_empty ys ≡ true → ys ≡ []
      nothing-in [] h = refl
      nothing-in (c ∷ ys) h = cc

  still : (ss : List Span) (cs : List Code) → AreSpansOver ss cs → All StandsStill ss
  still [] cs h = All-nil StandsStill
  still (s ∷ ss) cs h = All-cons StandsStill s ss (stands-still s h.0 h.3) (still ss h.1 h.4)

  module _ (pieces : List Piece) (order : are_pieces bytes pieces ≡ true) (t : Forest) (leaves : HasLeaves bytes t) (codes : leaf_codes t ≡ content_of bytes pieces) where
    -- the leaves with a code stand one after another
    pub leaves-follow : FollowOn (filled bytes (leaves_of t))
    leaves-follow =
        follow-on (leaves_of t) (leaf_codes t) (leaves-row t leaves) (subst Later (sym codes) (content-later pieces order))

    -- and the others begin where they end
    pub leaves-still : All StandsStill (leaves_of t)
    leaves-still = still (leaves_of t) (leaf_codes t) (leaves-row t leaves)
