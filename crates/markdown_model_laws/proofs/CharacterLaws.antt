-- What is lent for a leaf is text, since it begins and ends between characters.
use Rattle.std.proofs.Common.{◌≡◌, ◌≢◌, ℕ, suc, ◌+◌, ◌<◌, ◌≤◌, ◌==◌, ◌&&◌, ◌||◌, nat_lt, nat_le, Bool, true, false, if◌then◌else◌, List, [], ◌∷◌, ◌++◌, get_or, slice_get, map, Some, refl, sym, ap, subst, ◌∙◌, arith, append_assoc, append-nil}
use Rattle.std.specs.List.{All}
use Rattle.std.specs.Str.{IsUtf8, IsCharBoundary}
use Rattle.std.proofs.lemmas.Bool.{ltb-true}
use Rattle.std.proofs.lemmas.Bool.Decides.{nat_tests}
use Rattle.std.proofs.lemmas.List.Elements.{All-cons, All-nil}
use Rattle.std.proofs.lemmas.Str.{IsUtf8-between, IsCharBoundary-after_ascii}
use Rattle.markdown_content.specs.Codes.{Code, document_start, is_line_ending_byte, place_of, stop_of}
use Rattle.markdown_content.specs.Content.{IsContent, content_of}
use Rattle.markdown_content.specs.DocumentWalk.{IsPoint}
use Rattle.markdown_content.specs.Place.{start_of_content, value_of}
use Rattle.markdown_content.specs.PlaceInDocument.{IsStanding, first_point, is_open, content_place}
use Rattle.markdown_content.specs.Slices.{position_bytes, byte_from}
use Rattle.markdown_content.specs.Tree.{Forest, empty, leaf_then, group_then, leaf_codes, events_of, start_of}
use Rattle.markdown_event.specs.declared.event.Point.{Point}
use Rattle.markdown_content.specs.declared.parser.Piece.{Piece}
use Rattle.markdown_content.proofs.ContentCodes.{piece_row}
use Rattle.markdown_content.proofs.CursorInvariant.{IsOpenStanding, open-standing, closed-standing, standing-start}
use Rattle.markdown_content.proofs.DocumentCodes.{code_here, HasPlaceNumbers}
use Rattle.markdown_content.proofs.DocumentPlaces.{there, stands-point}
use Rattle.markdown_model.specs.CodeTests.{is_between, is_later_byte}
use Rattle.markdown_model.specs.InlineTree.{text_tree, string_tree}
use Rattle.markdown_model.proofs.OneTree.{leaves_cover}
use Rattle.markdown_passes.specs.TrimmedData.{IsStretch}
use Rattle.markdown_passes.specs.TrimmedEvents.{AreDocumentCodes}
use Rattle.markdown_passes.proofs.TrimPassLaw.{part-of}
use Rattle.markdown_plan.specs.Characters.{IsText, at_later}
use Rattle.markdown_plan.proofs.ContentCharacters.{content-text, same-code, none-some}
use Rattle.markdown_innermost.specs.InnermostEvents.{HasLeaves, Span, lent, leaves_of}
use Rattle.markdown_innermost.proofs.InnermostEventsLaws.{lent-leaves}
use Rattle.markdown_innermost.proofs.LeavesAreStretches.{leaves-are-stretches}
use Rattle.markdown_model_laws.specs.LentTexts.{LendTexts, LeavesAreTexts}
use Rattle.markdown_model_laws.proofs.LentSlices.{slice-none}
use Rattle.markdown_model_laws.proofs.CharacterRows.{Early, HasNoStrays, Starts}
use Rattle.markdown_model_laws.proofs.CharacterPasses.{AreWhole, text-whole, string-whole}

-- The codes of a content.

sound-from : (cs : List Code) → ((n : ℕ) (c d : Code) → slice_get cs n ≡ Some c → slice_get cs (suc n) ≡ Some d → nat_lt c.value 128 ≡ true → is_later_byte d ≡ false) →
    HasNoStrays cs
sound-from [] h = tt
sound-from (c ∷ []) h = ((λ l. tt), tt)
sound-from (c ∷ d ∷ cs) h = ((λ l. h 0 c d refl refl l), sound-from (d ∷ cs) (λ n x y e k l. h (suc n) x y e k l))

-- something said of the places of each span
abbrev pub EachSpan : (Point → Point → Type 0) → List Span → Type 0
EachSpan P [] = Unit {0}
EachSpan P (s ∷ ss) = P s.start s.end × EachSpan P ss

module _ (bytes : List ℕ) where
  -- a code begins between characters unless it is a later byte of one, and ends so unless a later byte follows
  abbrev pub Bounds : List Code → Type 0
  Bounds [] = Unit {0}
  Bounds (c ∷ cs) = ((is_later_byte c ≡ false → IsCharBoundary bytes c.start.index) × (Early cs → IsCharBoundary bytes c.stop.index)) × Bounds cs

  none-later : (cs : List Code) → Early cs → at_later (value_of (slice_get cs 0)) ≡ false
  none-later [] e = refl
  none-later (c ∷ cs) e = e

  bounds-from : (cs : List Code) → ((n : ℕ) (c : Code) → slice_get cs n ≡ Some c → is_later_byte c ≡ false → IsCharBoundary bytes c.start.index)
      → ((n : ℕ) (c : Code) → slice_get cs n ≡ Some c → at_later (value_of (slice_get cs (suc n))) ≡ false → IsCharBoundary bytes c.stop.index) → Bounds cs
  bounds-from [] first stop = tt
  bounds-from (c ∷ cs) first stop =
      ((first 0 c refl, λ e. stop 0 c refl (none-later cs e)), bounds-from cs (λ n x e k. first (suc n) x e k) (λ n x e k. stop (suc n) x e k))

  bounds-back : (xs ys : List Code) → Bounds (xs ++ ys) → Bounds ys
  bounds-back [] ys h = h
  bounds-back (x ∷ xs) ys h = bounds-back xs ys h.1

  last-bound : (p : Point) (cs more : List Code) → cs ≢ [] → Bounds (cs ++ more) → Early more → IsCharBoundary bytes (stop_of p cs).index
  last-bound p [] more n h e = absurd (n refl)
  last-bound p (c ∷ []) more n h e = h.0.1 e
  last-bound p (c ∷ d ∷ cs) more n h e = last-bound c.stop (d ∷ cs) more (λ k. cc) h.1 e

  first-bound : (cs more : List Code) → cs ≢ [] → Bounds (cs ++ more) → Early cs → IsCharBoundary bytes (start_of cs).index
  first-bound [] more n h e = absurd (n refl)
  first-bound (c ∷ cs) more n h e = h.0.0 e

  -- Bytes between characters.

  module _ (utf8 : IsUtf8 bytes) where
    tab-low : (b : ℕ) → b ≡ 9 → b < 128
    tab-low b e = omega (arith, e)

    from-bound : (p : Point) → IsPoint bytes p → IsCharBoundary bytes p.index → IsCharBoundary bytes (byte_from p)
    from-bound p h b = by_test (nat_lt 0 p.vs) refl
      where
        s : HasPlaceNumbers bytes p
        s = stands-point bytes p h

        by_test : (t : Bool) → nat_lt 0 p.vs ≡ t → IsCharBoundary bytes (if t then p.index + 1 else p.index)
        by_test true e =
            let tab = s.in_tab (ltb-true 0 p.vs e) in IsCharBoundary-after_ascii bytes p.index utf8 tab.0 (tab-low (get_or bytes p.index 0) tab.1)
        by_test false e = b

    later-numbers : (i v j w : ℕ) → (nat_lt i j || (i == j && nat_le v w)) ≡ true →
        (if nat_lt 0 v then i + 1 else i) ≤ (if nat_lt 0 w then j + 1 else j)
    later-numbers i v j w k = grind (arith, nat_tests)

    text-between : (p q : Point) → IsStretch bytes p q → IsCharBoundary bytes p.index → IsCharBoundary bytes q.index →
        IsUtf8 (position_bytes bytes p q)
    text-between p q h b d =
        IsUtf8-between bytes (byte_from p) (byte_from q) utf8 (later-numbers p.index p.vs q.index q.vs h.forward) (from-bound p h.from_place b) (from-bound q h.to_place d)

    text-nowhere : (a b : Point) → a ≡ b → IsUtf8 (position_bytes bytes a b)
    text-nowhere a b e = grind (arith, slice-none)

    -- Trees.

    heads-early : (t : Forest) (after : List Code) → AreWhole t → Early after → Early (leaf_codes t ++ after)
    heads-early (group_then name a b inside rest) after h e =
        subst Early (sym (append_assoc (leaf_codes inside) (leaf_codes rest) after)) (heads-early inside (leaf_codes rest ++ after) h.0 (heads-early rest after h.1 e))
    heads-early t after h e = grind arith

    -- What holds of a leaf that begins and ends between characters, and of a group around nothing, holds of each span.

    module _ (P : Point → Point → Type 0) (over : (cs : List Code) → AreDocumentCodes bytes cs → IsCharBoundary bytes (start_of cs).index → IsCharBoundary bytes (stop_of document_start cs).index → P (start_of cs) (stop_of document_start cs)) (nowhere : (a b : Point) → a ≡ b → P a b) where
      spans-append : (ss ts : List Span) → EachSpan P ss → EachSpan P ts → EachSpan P (ss ++ ts)
      spans-append [] ts h k = k
      spans-append (s ∷ ss) ts h k = (h.0, spans-append ss ts h.1 k)

      abbrev SpansWholly : Forest → Type 0
      SpansWholly t = (after : List Code) → AreWhole t → HasLeaves bytes t → Bounds (leaf_codes t ++ after) → Early after → EachSpan P (leaves_of t)

      group-spans : (inside rest : Forest) → SpansWholly inside → SpansWholly rest → (after : List Code) → AreWhole inside → AreWhole rest → HasLeaves bytes inside → HasLeaves bytes rest
          → Bounds ((leaf_codes inside ++ leaf_codes rest) ++ after) → Early after → EachSpan P (leaves_of inside ++ leaves_of rest)
      group-spans inside rest in_spans rest_spans after h k l m b e =
          let bounds : Bounds (leaf_codes inside ++ (leaf_codes rest ++ after)) = subst Bounds (append_assoc (leaf_codes inside) (leaf_codes rest) after) b in
          spans-append (leaves_of inside) (leaves_of rest) (in_spans (leaf_codes rest ++ after) h l bounds (heads-early rest after k e)) (rest_spans after k m (bounds-back (leaf_codes inside) (leaf_codes rest ++ after) bounds) e)

      spans : (t : Forest) → SpansWholly t
      spans empty after h l b e = tt
      spans (leaf_then name link cs rest) after h l b e =
          let bounds : Bounds (cs ++ (leaf_codes rest ++ after)) = subst Bounds (append_assoc cs (leaf_codes rest) after) b in
          let next : Early (leaf_codes rest ++ after) = heads-early rest after h.1 e in (
            over cs l.0 (first-bound cs (leaf_codes rest ++ after) h.0.1 bounds h.0.0.0) (last-bound document_start cs (leaf_codes rest ++ after) h.0.1 bounds next),
            spans rest after h.1 l.1 (bounds-back cs (leaf_codes rest ++ after) bounds) e,
          )
      spans (group_then name a b empty rest) after h l bounds e =
          (nowhere a b l.0.1, spans rest after h.1 l.1 bounds e)
      spans (group_then name a b (leaf_then m k cs more) rest) after h l bounds e =
          group-spans (leaf_then m k cs more) rest (spans (leaf_then m k cs more)) (spans rest) after h.0 h.1 l.0 l.1 bounds e
      spans (group_then name a b (group_then m c d inner more) rest) after h l bounds e =
          group-spans (group_then m c d inner more) rest (spans (group_then m c d inner more)) (spans rest) after h.0 h.1 l.0 l.1 bounds e

      pub each-span : (t : Forest) → AreWhole t → HasLeaves bytes t → Bounds (leaf_codes t) → EachSpan P (leaves_of t)
      each-span t h l b = spans t [] h l (subst Bounds (sym (append-nil (leaf_codes t))) b) tt

    abbrev AreTexts : List Span → Type 0
    AreTexts ss = EachSpan (λ p q. IsUtf8 (position_bytes bytes p q)) ss

    texts : (t : Forest) → AreWhole t → HasLeaves bytes t → Bounds (leaf_codes t) → AreTexts (leaves_of t)
    texts t h l b =
        each-span (λ p q. IsUtf8 (position_bytes bytes p q)) (λ cs part first last. text-between (start_of cs) (stop_of document_start cs) (part-of bytes cs part).stretch first last) text-nowhere t h l b

    all-texts : (ss : List Span) → AreTexts ss → All (λ l. IsUtf8 l.bytes) (map (lent bytes) ss)
    unfolding lent
    all-texts [] h = All-nil (λ l. IsUtf8 l.bytes)
    all-texts (s ∷ ss) h = All-cons (λ l. IsUtf8 l.bytes) (lent bytes s) (map (lent bytes) ss) h.0 (all-texts ss h.1)

    tree-lends : (t : Forest) → AreWhole t → HasLeaves bytes t → Bounds (leaf_codes t) → LendTexts bytes (events_of t)
    tree-lends t h l b =
        subst (All (λ l. IsUtf8 l.bytes)) (sym (lent-leaves bytes t (events_of t) refl))
        (all-texts (leaves_of t) (texts t h l b))

-- The first code of a content begins a character.

early-value : (b vs : ℕ) → (128 ≤ b → 192 ≤ b) →
    is_between 128 191 (if is_line_ending_byte b then 10 else (if b == 9 && nat_lt 0 vs then 32 else b)) ≡ false
early-value b vs h = grind (arith, nat_tests)

first-early : (bytes : List ℕ) (pieces : List Piece) → IsContent bytes pieces → Early (content_of bytes pieces)
first-early bytes [] content = tt
first-early bytes (piece ∷ pieces) content = by_codes (content_of bytes (piece ∷ pieces)) refl (is_open (place_of p) (piece ∷ pieces)) refl
  where
    p : Point
    p = first_point bytes (piece ∷ pieces)

    standing : IsStanding bytes (piece ∷ pieces) (piece ∷ pieces) p 0
    standing = standing-start bytes (piece ∷ pieces) content

    begins : IsCharBoundary bytes p.index
    begins =
        subst (λ (x : ℕ × ℕ). IsCharBoundary bytes x.0) (sym (there bytes piece.start (piece_row bytes piece pieces content.in_order).start).place) (content.between_characters 0 piece (omega arith)).0

    by_codes : (cs : List Code) → content_of bytes (piece ∷ pieces) ≡ cs → (b : Bool) → is_open (place_of p) (piece ∷ pieces) ≡ b → Early cs
    by_codes [] e b o = tt
    by_codes (c ∷ cs) e true o =
        let here : IsOpenStanding bytes (piece ∷ pieces) p 0 = open-standing bytes (piece ∷ pieces) (piece ∷ pieces) p 0 standing o in
        let same : code_here bytes p ≡ c = same-code _ _ _ here.code (ap (λ xs. slice_get xs 0) e) in
        ap (λ (x : Code). is_later_byte x) (sym same) ∙ early-value (get_or bytes p.index 0) p.vs (begins.1 here.in_bytes)
    by_codes (c ∷ cs) e false o =
        absurd (none-some _ c (closed-standing bytes (piece ∷ pieces) (piece ∷ pieces) p 0 standing o).0 (ap (λ xs. slice_get xs 0) e))

-- a content's codes, and what of them are places between characters
pub content-starts : (bytes : List ℕ) (pieces : List Piece) → IsContent bytes pieces →
    Starts (content_of bytes pieces) × Bounds bytes (content_of bytes pieces)
unfolding start_of_content
content-starts bytes pieces content =
    let all : List Code = content_of bytes pieces in
    let text : IsText bytes (content_place bytes pieces 0) = content-text bytes pieces 0 content in (
      (first-early bytes pieces content, sound-from all (λ n c d e k l. text.next n c d e k l)),
      bounds-from bytes all (λ n c e k. text.first n c e k) (λ n c e k. text.stop n c e k),
    )

pub leaves-are-texts : LeavesAreTexts
leaves-are-texts s pieces content =
    let all : List Code = content_of s.bytes pieces in
    let known : Starts all × Bounds s.bytes all = content-starts s.bytes pieces content in
    let leaves = leaves-are-stretches s pieces content in
    let cover = leaves_cover s all in (
      tree-lends s.bytes content.is_text (text_tree s all) (text-whole s all known.0) leaves.0 (subst (Bounds s.bytes) (sym cover.0) known.1),
      tree-lends s.bytes content.is_text (string_tree s all) (string-whole s all known.0) leaves.1 (subst (Bounds s.bytes) (sym cover.1) known.1),
    )
