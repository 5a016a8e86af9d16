-- What the next two of some events add to the pieces.
use Rattle.std.proofs.Common.{◌≡◌, ℕ, ◌+◌, ◌-◌, ◌<◌, ◌≤◌, Bool, true, false, if◌then◌else◌, List, [], ◌∷◌, ◌++◌, length, drop, get_or, map, refl, sym, ap, ◌∙◌, arith}
use Rattle.std.proofs.lemmas.List.{drop_more, length-drop}
use Rattle.markdown_event.specs.declared.event.Event.{Event}
use Rattle.markdown_content.specs.declared.parser.Piece.{Piece}
use Rattle.markdown_innermost.specs.InnermostEvents.{innermost, has_nothing_inside, span_of}
use Rattle.markdown_model_laws.specs.LeafPieces.{joined_pieces, piece_of}
use Rattle.markdown_inline.specs.LastPiece.{in_front, with_leaf}

abbrev pub pieces_from : ℕ → List Event → List Piece
pieces_from i es = joined_pieces (map piece_of (innermost (drop (i - 1) es)))

pub adds-leaf : (e x : Event) (es : List Event) →
    joined_pieces (map piece_of (innermost (e ∷ x ∷ es))) ≡ with_leaf e x (joined_pieces (map piece_of (innermost (x ∷ es))))
adds-leaf e x es = by_test (has_nothing_inside e.kind x.kind)
  where
    by_test : (b : Bool) → joined_pieces (map piece_of ((if b then span_of e x ∷ [] else []) ++ innermost (x ∷ es))) ≡ (if b then in_front (piece_of (span_of e x)) (joined_pieces (map piece_of (innermost (x ∷ es)))) else joined_pieces (map piece_of (innermost (x ∷ es))))
    by_test true = refl
    by_test false = refl

pub one-more : (es : List Event) (i n : ℕ) (enter exit : Event) → 0 < i → n ≡ length es → i < n → enter ≡ get_or es (i - 1) enter → exit ≡ get_or es i exit →
    pieces_from i es ≡ with_leaf enter exit (pieces_from (i + 1) es)
one-more es i n enter exit z whole l first second =
    let before : drop (i - 1) es ≡ enter ∷ drop (i - 1 + 1) es = drop_more es (i - 1) enter (omega (arith, z, l, whole)) ∙ ap (λ e. e ∷ drop (i - 1 + 1) es) (sym first) in
    let here : i - 1 + 1 ≡ i = omega (arith, z) in
    let behind : i + 1 - 1 ≡ i = omega arith in
    let at : drop i es ≡ exit ∷ drop (i + 1) es = drop_more es i exit (omega (arith, l, whole)) ∙ ap (λ e. e ∷ drop (i + 1) es) (sym second) in
    let all : drop (i - 1) es ≡ enter ∷ (exit ∷ drop (i + 1) es) = before ∙ ap (λ xs. enter ∷ xs) (ap (λ n. drop n es) here ∙ at) in
    ap (λ xs. joined_pieces (map piece_of (innermost xs))) all ∙ adds-leaf enter exit (drop (i + 1) es)
    ∙ ap (λ xs. with_leaf enter exit (joined_pieces (map piece_of (innermost xs)))) (sym at ∙ ap (λ n. drop n es) (sym behind))

pub none-left : (es : List Event) (i n : ℕ) → 0 < i → n ≡ length es → n ≤ i → pieces_from i es ≡ []
none-left es i n z whole l = few (drop (i - 1) es) (let d = length-drop (i - 1) es in omega (arith, d, l, whole))
  where
    few : (xs : List Event) → length xs ≤ 1 → joined_pieces (map piece_of (innermost xs)) ≡ []
    few [] h = refl
    few (e ∷ []) h = refl
    few (e ∷ x ∷ xs) h = absurd (omega (arith, h))
