-- Lists that grow by one.
use Rattle.std.proofs.Common.{◌≡◌, ◌∙◌, ap, sym, refl, subst, ℕ, suc, ◌+◌, ◌<◌, Bool, true, false, if◌then◌else◌, List, [], ◌∷◌, ◌++◌, All, None, Some, IfSome, map, ◌==◌, ◌||◌, drop, get_or, length, arith}
use Rattle.std.specs.List.{list_any}
use Rattle.std.proofs.lemmas.List.{drop_more}
use Rattle.std.proofs.lemmas.List.Elements.{All-head, All-tail, All-nil}
use Rattle.markdown_event.specs.declared.event.Event.{Event}
use Rattle.markdown_event.specs.declared.event.Kind.{Kind}
use Rattle.markdown_event.specs.declared.event.Kind.TheVariants.{Enter, Exit}
use Rattle.markdown_event.specs.declared.event.Point.{Point}
use Rattle.markdown_passes.specs.TrimmedData.{IsStretch}
use Rattle.markdown_html.specs.EventWalk.{exit_first}
use Rattle.markdown_innermost.specs.InnermostEvents.{Span, innermost, has_nothing_inside, span_of, IsSpanInOrder}

-- the places of an Enter and of the Exit right behind it
first_in_order : (bytes : List ℕ) (e x : Event) (es : List Event) → e.kind ≡ Enter → x.kind ≡ Exit → All (IsSpanInOrder bytes) (innermost (e ∷ x ∷ es)) → IsStretch bytes e.point x.point
first_in_order bytes e x es h g places =
    let t : has_nothing_inside e.kind x.kind ≡ true = ap (λ k. has_nothing_inside k x.kind) h ∙ ap (λ k. has_nothing_inside Enter k) g in
    All-head (IsSpanInOrder bytes) (span_of e x) (innermost (x ∷ es)) (subst (λ b. All (IsSpanInOrder bytes) ((if b then span_of e x ∷ [] else []) ++ innermost (x ∷ es))) t places)

exit_of : (k : Kind) (p b : Point) → (elim k [ Enter ↦ None | Exit ↦ Some p ]) ≡ Some b → (k ≡ Exit) × (p ≡ b)
exit_of Enter p b e = cc
exit_of Exit p b e = grind arith

pub ahead_in_order : (bytes : List ℕ) (e : Event) (rest : List Event) (b : Point) → e.kind ≡ Enter → exit_first rest ≡ Some b → All (IsSpanInOrder bytes) (innermost (e ∷ rest)) → IsStretch bytes e.point b
ahead_in_order bytes e [] b h f places = cc
ahead_in_order bytes e (x ∷ es) b h f places =
    let is = exit_of x.kind x.point b f in
    subst (λ p. IsStretch bytes e.point p) is.1 (first_in_order bytes e x es h is.0 places)

without_first : (bytes : List ℕ) (b : Bool) (s : Span) (more : List Span) → All (IsSpanInOrder bytes) ((if b then s ∷ [] else []) ++ more) → All (IsSpanInOrder bytes) more
without_first bytes true s more places = All-tail (IsSpanInOrder bytes) s more places
without_first bytes false s more places = places

-- the places of the events behind the first
pub later_in_order : (bytes : List ℕ) (e : Event) (es : List Event) → All (IsSpanInOrder bytes) (innermost (e ∷ es)) → All (IsSpanInOrder bytes) (innermost es)
later_in_order bytes e [] places = All-nil (IsSpanInOrder bytes)
later_in_order bytes e (x ∷ es) places = without_first bytes (has_nothing_inside e.kind x.kind) (span_of e x) (innermost (x ∷ es)) places

-- the places of an Enter, and of an Exit right behind it
pub first_within : (bytes : List ℕ) (e : Event) (rest : List Event) → e.kind ≡ Enter → All (IsSpanInOrder bytes) (innermost (e ∷ rest)) → IfSome (exit_first rest) (λ to. IsStretch bytes e.point to)
first_within bytes e rest h places = grind (arith, ahead_in_order)

-- the places of the events from an index on
pub places_from : (bytes : List ℕ) (i : ℕ) (es : List Event) → All (IsSpanInOrder bytes) (innermost es) → All (IsSpanInOrder bytes) (innermost (drop i es))
places_from bytes (suc i) (e ∷ es) places = places_from bytes i es (later_in_order bytes e es places)
places_from bytes i es places = places

-- the element at an index, and those behind it
pub drop_at : {X : Type 0} (xs : List X) (i : ℕ) (x : X) → i < length xs → x ≡ get_or xs i x → drop i xs ≡ x ∷ drop (i + 1) xs
drop_at xs i x low is = drop_more xs i x low ∙ ap (λ y. y ∷ drop (i + 1) xs) (sym is)

one-byte : (b : ℕ) (bs spaced : List ℕ) (t : Bool) → (b == 10) ≡ t → (t || list_any (λ b. b == 10) bs) ≡ false → (list_any (λ b. b == 10) bs ≡ false → spaced ≡ bs) → (if b == 10 then 32 else b) ∷ spaced ≡ b ∷ bs
one-byte b bs spaced true is e more = cc
one-byte b bs spaced false is e more = ap (λ x. (if x then 32 else b) ∷ spaced) is ∙ ap (λ x. b ∷ x) (more e)

-- a text without line feeds is on one line
pub no_line_feed : (text : List ℕ) → list_any (λ b. b == 10) text ≡ false → map (λ b. if b == 10 then 32 else b) text ≡ text
no_line_feed [] e = refl
no_line_feed (b ∷ bs) e = one-byte b bs _ (b == 10) refl e (no_line_feed bs)
