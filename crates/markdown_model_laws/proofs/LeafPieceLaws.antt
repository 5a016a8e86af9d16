-- The pieces that leaves of a content are: a content.
use Rattle.std.proofs.Common.{◌≡◌, ℕ, ◌-◌, true, false, if◌then◌else◌, List, [], ◌∷◌, ◌++◌, take, drop, map, refl, sym, ap, subst, ◌∙◌, append_assoc, arith}
use Rattle.std.specs.Prelude.{slice_range}
use Rattle.std.specs.Str.{IsCharBoundary}
use Rattle.std.proofs.lemmas.List.{map-append, take-append-drop}
use Rattle.std.proofs.lemmas.Bool.{and_from, both_ways, eq-eqb}
use Rattle.markdown_content.specs.Codes.{Code, document_start, place_of, stop_of}
use Rattle.markdown_content.specs.Content.{IsContent, content_of}
use Rattle.markdown_content.specs.Tree.{Forest, empty, leaf_then, group_then, leaf_codes, start_of}
use Rattle.markdown_event.specs.declared.event.Event.{Event}
use Rattle.markdown_event.specs.declared.event.Point.{Point}
use Rattle.markdown_content.specs.declared.parser.Piece.{Piece}
use Rattle.markdown_content.proofs.AdjacentCodes.{IsChain, chain-back, stop-later}
use Rattle.markdown_content.proofs.ContentCodes.{piece-codes-is}
use Rattle.markdown_content.proofs.DocumentPlaces.{chain-split}
use Rattle.markdown_content.proofs.PlaceOrder.{is_before, before-reach}
use Rattle.markdown_content.proofs.WalkTargets.{place-point}
use Rattle.markdown_model.specs.InlineTree.{text_tree, string_tree, text_events, string_events}
use Rattle.markdown_model.proofs.OneTree.{leaves_cover}
use Rattle.markdown_passes.specs.TrimmedData.{between}
use Rattle.markdown_passes.specs.TrimmedEvents.{AreDocumentCodes}
use Rattle.markdown_passes.proofs.TrimPassLaw.{IsStretchOf, part-of}
use Rattle.markdown_innermost.specs.InnermostEvents.{HasLeaves, Span, innermost, leaves_of, has_nothing_inside, span_of}
use Rattle.markdown_innermost.proofs.InnermostEventsLaws.{innermost-leaves}
use Rattle.markdown_innermost.proofs.LeavesAreStretches.{leaves-are-stretches}
use Rattle.markdown_model_laws.specs.LeafPieces.{meets, joined_pieces, piece_of, AreContents, LeavesAreContents}
use Rattle.markdown_model_laws.proofs.CharacterLaws.{Bounds, EachSpan, each-span, content-starts}
use Rattle.markdown_model_laws.proofs.CharacterPasses.{AreWhole, text-whole, string-whole}
use Rattle.markdown_model_laws.proofs.CharacterRows.{Starts}
use Rattle.markdown_model_laws.proofs.PieceBorders.{AreNext, next-parts, next-front, content-next}
use Rattle.markdown_model_laws.proofs.PieceRows.{IsFilledPiece, IsPieceOver, ArePiecesOver, joined-content, EachPieceMeets, each-joined}

-- The innermost of some of the events.

abbrev enters : Event → Event → List Span
enters e x = if has_nothing_inside e.kind x.kind then span_of e x ∷ [] else []

innermost-back : (xs ys : List Event) → (front : List Span) × (innermost (xs ++ ys) ≡ front ++ innermost ys)
innermost-back (e ∷ []) (y ∷ ys) = (enters e y, refl)
innermost-back (e ∷ x ∷ xs) ys =
    let (front, h) = innermost-back (x ∷ xs) ys in
    (enters e x ++ front, ap (λ ss. enters e x ++ ss) h ∙ sym (append_assoc (enters e x) front (innermost ys)))
innermost-back xs ys = ([], refl)

innermost-front : (xs ys : List Event) → (back : List Span) × (innermost (xs ++ ys) ≡ innermost xs ++ back)
innermost-front [] ys = (innermost ys, refl)
innermost-front (e ∷ []) ys = (innermost (e ∷ ys), refl)
innermost-front (e ∷ x ∷ xs) ys = grind (arith, innermost-front (x ∷ xs) ys, append_assoc)

-- they stand among those of all events
innermost-in : (es : List Event) (from to : ℕ) →
    (front : List Span) × (back : List Span) × (innermost es ≡ front ++ (innermost (slice_range es from to) ++ back))
innermost-in es from to =
    let rest : List Event = drop from es in
    let inner : List Event = slice_range es from to in
    let (front, h) = innermost-back (take from es) rest in
    let (back, k) = innermost-front inner (drop (to - from) rest) in
    (front, back, ap innermost (sym (take-append-drop from es)) ∙ h ∙ ap (λ ss. front ++ ss) (ap innermost (sym (take-append-drop (to - from) rest)) ∙ k))

-- The pieces of a tree's leaves.

module _ (bytes : List ℕ) where
  -- the codes of a leaf
  filled : (c : Code) (cs : List Code) → AreDocumentCodes bytes (c ∷ cs) →
      IsFilledPiece bytes (record { start = place_of c.start; end = place_of (stop_of c.stop cs) }) c cs
  unfolding between
  filled c cs h =
      let p : IsStretchOf bytes (c ∷ cs) = part-of bytes (c ∷ cs) h in
      let front : Point = stop_of document_start h.before in
      let chain : IsChain front (c ∷ (cs ++ h.after)) = chain-back document_start h.before (c ∷ (cs ++ h.after)) (chain-split bytes h.before (c ∷ (cs ++ h.after)) h.whole) in
      record {
        start = refl;
        end = refl;
        from_place = place-point bytes c.start p.stretch.from_place;
        to_place = place-point bytes (stop_of c.stop cs) p.stretch.to_place;
        in_order = ap (λ (x : Point). is_before (place_of x) (place_of (stop_of c.stop cs))) chain.0 ∙ before-reach (place_of front) (place_of c.stop) (place_of (stop_of c.stop cs)) chain.1 (stop-later c.stop cs h.after chain.2);
        codes = piece-codes-is bytes (record { start = place_of c.start; end = place_of (stop_of c.stop cs) }) ∙ p.codes;
      }

  abbrev ArePiecesOfSpans : List Span → List Code → Type 0
  ArePiecesOfSpans ss cs = ArePiecesOver bytes (map piece_of ss) cs

  row-join : (ps qs : List Piece) (cs ds : List Code) → ArePiecesOver bytes ps cs → ArePiecesOver bytes qs ds → ArePiecesOver bytes (ps ++ qs) (cs ++ ds)
  row-join [] qs cs ds h k = subst (ArePiecesOver bytes qs) (ap (λ x. x ++ ds) (sym h)) k
  row-join (p ∷ ps) qs cs ds h k = grind (arith, append_assoc, row-join ps qs h.1 ds h.4 k)

  row-parts : (ps qs : List Piece) (cs : List Code) → ArePiecesOver bytes (ps ++ qs) cs →
      (xs : List Code) × (ys : List Code) × (cs ≡ xs ++ ys) × ArePiecesOver bytes ps xs × ArePiecesOver bytes qs ys
  row-parts [] qs cs h = ([], cs, refl, refl, h)
  row-parts (p ∷ ps) qs cs (xs, ys, e, one, rest) =
      let (more, others, k, front, back) = row-parts ps qs ys rest in
      (xs ++ more, others, e ∙ ap (λ zs. xs ++ zs) k ∙ sym (append_assoc xs more others), (xs, more, refl, one, front), back)

  both-rows : (ss ts : List Span) (cs ds : List Code) → ArePiecesOfSpans ss cs → ArePiecesOfSpans ts ds → ArePiecesOfSpans (ss ++ ts) (cs ++ ds)
  both-rows ss ts cs ds h k = grind (arith, map-append, row-join)

  leaf-row : (name_cs : List Code) (ss : List Span) (s : Span) (ds : List Code) → piece_of s ≡ record { start = place_of (start_of name_cs); end = place_of (stop_of document_start name_cs) } →
      AreDocumentCodes bytes name_cs → ArePiecesOfSpans ss ds → ArePiecesOfSpans (s ∷ ss) (name_cs ++ ds)
  leaf-row [] ss s ds e h k = absurd (h.some refl)
  leaf-row (c ∷ cs) ss s ds e h k = (c ∷ cs, ds, refl, subst (λ p. IsPieceOver bytes p (c ∷ cs)) (sym e) (filled c cs h), k)

  still : (a b : Point) → a ≡ b → meets (record { start = place_of a; end = place_of b }) (record { start = place_of a; end = place_of b }) ≡ true
  still a b e = grind (arith, and_from, eq-eqb)

  leaves-row : (t : Forest) → HasLeaves bytes t → ArePiecesOfSpans (leaves_of t) (leaf_codes t)
  leaves-row empty h = refl
  leaves-row (leaf_then name link cs rest) h =
      leaf-row cs (leaves_of rest) (record { name = name; start = start_of cs; end = stop_of document_start cs }) (leaf_codes rest) refl h.0 (leaves-row rest h.1)
  leaves-row (group_then name a b empty rest) h = ([], leaf_codes rest, refl, still a b h.0.1, leaves-row rest h.1)
  leaves-row (group_then name a b (leaf_then m l cs more) rest) h =
      both-rows (leaves_of (leaf_then m l cs more)) (leaves_of rest) (leaf_codes (leaf_then m l cs more)) (leaf_codes rest) (leaves-row (leaf_then m l cs more) h.0) (leaves-row rest h.1)
  leaves-row (group_then name a b (group_then m c d inner more) rest) h = grind (arith, both-rows, leaves-row (group_then m c d inner more) h.0, leaves-row rest h.1)

  -- Between characters.

  abbrev IsBoundaryAt : ℕ × ℕ → Type 0
  IsBoundaryAt at = IsCharBoundary bytes at.0

  -- unless it ends where it begins
  abbrev BetweenCharacters : Point → Point → Type 0
  BetweenCharacters a b =
      meets (record { start = place_of a; end = place_of b }) (record { start = place_of a; end = place_of b }) ≡ false → IsCharBoundary bytes a.index × IsCharBoundary bytes b.index

  each-piece : (ss : List Span) → EachSpan BetweenCharacters ss → EachPieceMeets IsBoundaryAt (map piece_of ss)
  each-piece [] h = tt
  each-piece (s ∷ ss) h = (h.0, each-piece ss h.1)

  each-parts : (ps qs : List Piece) → EachPieceMeets IsBoundaryAt (ps ++ qs) → EachPieceMeets IsBoundaryAt ps × EachPieceMeets IsBoundaryAt qs
  each-parts [] qs h = (tt, h)
  each-parts (p ∷ ps) qs h = let parts = each-parts ps qs h.1 in ((h.0, parts.0), parts.1)

module _ (bytes : List ℕ) (pieces : List Piece) (content : IsContent bytes pieces) (t : Forest) (whole : AreWhole t) (leaves : HasLeaves bytes t) (cover : leaf_codes t ≡ content_of bytes pieces) (es : List Event) (events : innermost es ≡ leaves_of t) where
  bounds : EachPieceMeets (IsBoundaryAt bytes) (map piece_of (leaves_of t))
  bounds =
      each-piece bytes (leaves_of t)
      (each-span bytes content.is_text (BetweenCharacters bytes) (λ cs part first last off. (first, last)) (λ a b e off. absurd (both_ways _ off (still bytes a b e))) t whole leaves (subst (Bounds bytes) (sym cover) (content-starts bytes pieces content).1))

  -- of some of the leaves
  inner-content : (front inner back : List Piece) → map piece_of (leaves_of t) ≡ front ++ (inner ++ back) → IsContent bytes (joined_pieces inner)
  inner-content front inner back e =
      let (xs, ys, k, first, others) = row-parts bytes front (inner ++ back) (leaf_codes t) (subst (λ ps. ArePiecesOver bytes ps (leaf_codes t)) e (leaves-row bytes t leaves)) in
      let (zs, ws, l, own, last) = row-parts bytes inner back ys others in
      let next : AreNext bytes (xs ++ ys) = subst (AreNext bytes) (sym cover ∙ k) (content-next bytes pieces content.in_order) in
      let inside : AreNext bytes zs = next-front bytes zs ws (subst (AreNext bytes) l (next-parts bytes xs ys next).0) in
      record {
        is_text = content.is_text;
        fits = content.fits;
        between_characters = each-joined (IsBoundaryAt bytes) inner (each-parts bytes inner back (each-parts bytes front (inner ++ back) (subst (EachPieceMeets (IsBoundaryAt bytes)) e bounds)).1).0;
        in_order = joined-content bytes inner zs own inside;
      }

  tree-contents : AreContents bytes es
  tree-contents from to =
      let (front, back, e) = innermost-in es from to in
      let inner : List Span = innermost (slice_range es from to) in
      inner-content (map piece_of front) (map piece_of inner) (map piece_of back)
      (ap (map piece_of) (sym events ∙ e) ∙ map-append piece_of front (inner ++ back) ∙ ap (λ ps. map piece_of front ++ ps) (map-append piece_of inner back))

pub leaves-are-contents : LeavesAreContents
leaves-are-contents s pieces content =
    let all : List Code = content_of s.bytes pieces in
    let starts : Starts all = (content-starts s.bytes pieces content).0 in
    let leaves = leaves-are-stretches s pieces content in
    let cover = leaves_cover s all in (
      tree-contents s.bytes pieces content (text_tree s all) (text-whole s all starts) leaves.0 cover.0 (text_events s pieces) (innermost-leaves (text_tree s all)),
      tree-contents s.bytes pieces content (string_tree s all) (string-whole s all starts) leaves.1 cover.1 (string_events s pieces) (innermost-leaves (string_tree s all)),
    )
