-- A whole document is a content.
use Rattle.std.proofs.Common.{◌≡◌, ℕ, zero, suc, ◌<◌, ◌≤◌, Bool, true, ◌&&◌, ◌||◌, ◌==◌, List, [], ◌∷◌, length, refl, sym, inl, inr, arith, append-nil}
use Rattle.std.specs.Prelude.{IsUtf8, All}
use Rattle.std.specs.List.{list_any}
use Rattle.std.specs.Str.{IsCharBoundary}
use Rattle.std.proofs.lemmas.Bool.{cases_lt, or_right}
use Rattle.std.proofs.lemmas.Bool.Decides.{nat_tests}
use Rattle.std.proofs.lemmas.Str.{IsCharBoundary-end, IsCharBoundary-from_drop}
use Rattle.markdown_event.specs.declared.event.Point.{Point}
use Rattle.markdown_content.specs.Codes.{Code, codes_of, document_start, stop_of, is_at_or_after}
use Rattle.markdown_content.specs.Content.{IsContent, document_limit, is_place, are_pieces, IsBetweenCharacters}
use Rattle.markdown_program.specs.ProgramWords.{whole_piece}
use Rattle.markdown_content.proofs.DocumentPlaces.{along}
use Rattle.markdown_content.proofs.DocumentCodes.{HasPlaceNumbers, codes_at}
use Rattle.markdown_content.proofs.DocumentWalkLemmas.{step, stands-start}

-- where the document's last code ends
end-of : List ℕ → Point
end-of bytes = stop_of document_start (codes_of bytes)

no-more : (c : Code) (cs xs : List Code) → xs ≡ [] → xs ≡ c ∷ cs → ⊥
no-more c cs xs e f = cc

-- no code follows there, so the bytes end
end-stands : (bytes : List ℕ) → (codes_at bytes (end-of bytes) ≡ []) × HasPlaceNumbers bytes (end-of bytes)
unfolding end-of
end-stands bytes =
    along bytes document_start (codes_of bytes) [] (stands-start bytes) (sym (append-nil (codes_of bytes)))

not-inside : (bytes : List ℕ) → (end-of bytes).index < length bytes → ⊥
not-inside bytes h =
    let e = end-stands bytes in
    no-more _ _ (codes_at bytes (end-of bytes)) e.0 (step bytes (end-of bytes) e.1 h).codes

end-index : (bytes : List ℕ) → (end-of bytes).index ≡ length bytes
end-index bytes =
    let s : HasPlaceNumbers bytes (end-of bytes) = (end-stands bytes).1 in
    elim (cases_lt (end-of bytes).index (length bytes)) [
      | inl k ↦ absurd (not-inside bytes k)
      | inr k ↦ omega (arith, s.in_bytes)
    ]

end-vs : (bytes : List ℕ) → (end-of bytes).vs ≡ 0
end-vs bytes =
    let s : HasPlaceNumbers bytes (end-of bytes) = (end-stands bytes).1 in
    elim (cases_lt 0 (end-of bytes).vs) [
      | inl k ↦ absurd (not-inside bytes (s.in_tab k).0)
      | inr k ↦ omega arith
    ]

-- a code ends at this index, at no code of a tab
ends-at : ℕ → Code → Bool
ends-at n c = c.stop.index == n && c.stop.vs == 0

last-ends : (n : ℕ) (p : Point) (c : Code) (cs : List Code) → (stop_of p (c ∷ cs)).index ≡ n →
    (stop_of p (c ∷ cs)).vs ≡ 0 → list_any (ends-at n) (c ∷ cs) ≡ true
unfolding ends-at
last-ends n p c [] e f = grind (arith, nat_tests)
last-ends n p c (d ∷ cs) e f = or_right (ends-at n c) (list_any (ends-at n) (d ∷ cs)) (last-ends n c.stop d cs e f)

end-place : (n : ℕ) (cs : List Code) → (stop_of document_start cs).index ≡ n → (stop_of document_start cs).vs ≡ 0 →
    ((n == 0 && 0 == 0) || list_any (ends-at n) cs) ≡ true
unfolding ends-at
end-place n [] e f = rw (← e) refl
end-place n (c ∷ cs) e f =
    or_right (n == 0 && 0 == 0) (list_any (ends-at n) (c ∷ cs)) (last-ends n document_start c cs e f)

whole-end : (bytes : List ℕ) → is_place bytes (length bytes, 0) ≡ true
unfolding ends-at end-of
whole-end bytes = end-place (length bytes) (codes_of bytes) (end-index bytes) (end-vs bytes)

after-start : (n : ℕ) → is_at_or_after (0, 0) (n, 0) ≡ true
after-start n = grind (arith, nat_tests)

pieces-whole : (bytes : List ℕ) → is_place bytes (length bytes, 0) ≡ true →
    is_at_or_after (0, 0) (length bytes, 0) ≡ true → are_pieces bytes (whole_piece bytes ∷ []) ≡ true
pieces-whole bytes e f = rw (e, f) refl

all-one : {X : Type 0} (P : X → Type 0) (x : X) → P x → All P (x ∷ [])
all-one P x p zero d h = p
all-one P x p (suc k) d h = absurd (omega arith)

pub whole-content : (bytes : List ℕ) → IsUtf8 bytes → length bytes ≤ document_limit →
    IsContent bytes (whole_piece bytes ∷ [])
whole-content bytes text fits =
    let start : IsCharBoundary bytes 0 = IsCharBoundary-from_drop bytes 0 (omega arith) text in
    let end : IsCharBoundary bytes (length bytes) = IsCharBoundary-end bytes in
    record {
      is_text = text;
      fits = fits;
      between_characters = all-one (IsBetweenCharacters bytes) (whole_piece bytes) (start, end);
      in_order = pieces-whole bytes (whole-end bytes) (after-start (length bytes));
    }
