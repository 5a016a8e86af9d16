-- How a text with references is parsed: what stands before an `&`, and the `&` itself.
use Rattle.std.proofs.Common.{◌≡◌, ◌≢◌, ◌∙◌, sym, ap, refl, ℕ, zero, suc, ◌+◌, false, eqb, List, [], ◌∷◌, ◌++◌, append-nil, append_assoc, drop, Some, None, arith}
use Rattle.std.specs.List.{All, after_first, position_or_len}
use Rattle.std.proofs.lemmas.List.Elements.{All-head, All-tail}
use Rattle.markdown_util.proofs.ValueBytes.{eqb_off}
use Rattle.markdown_util.specs.Reference.{Table, parsed_after, reference_text, is_semicolon}

pub parsed-plain : (table : Table) (xs ys : List ℕ) → All (λ b. b ≢ 38) xs →
    parsed_after table 0 (xs ++ ys) ≡ xs ++ parsed_after table 0 ys
parsed-plain table [] ys h = refl
parsed-plain table (x ∷ xs) ys h =
    let off : eqb x 38 ≡ false = eqb_off x 38 (All-head (λ b. b ≢ 38) x xs h) in
    rw (off, parsed_after) (ap (λ bs. x ∷ bs) (parsed-plain table xs ys (All-tail (λ b. b ≢ 38) x xs h)))

pub parsed-unchanged : (table : Table) (text : List ℕ) → All (λ b. b ≢ 38) text → parsed_after table 0 text ≡ text
parsed-unchanged table text h =
    ap (parsed_after table 0) (sym (append-nil text)) ∙ parsed-plain table text [] h ∙ append-nil text

parsed-skip : (table : Table) (n : ℕ) (bs : List ℕ) → parsed_after table n bs ≡ parsed_after table 0 (drop n bs)
parsed-skip table zero [] = refl
parsed-skip table (suc n) [] = refl
parsed-skip table zero (b ∷ bs) = refl
parsed-skip table (suc n) (b ∷ bs) = parsed-skip table n bs

-- an `&` that begins a whole reference gives its text, and the rest follows the `;`
pub parsed-reference : (table : Table) (after text : List ℕ) → reference_text table after ≡ Some text →
    parsed_after table 0 (38 ∷ after) ≡ text ++ parsed_after table 0 (after_first is_semicolon after)
parsed-reference table after text e =
    rw (e, parsed_after) (ap (λ bs. text ++ bs) (parsed-skip table (position_or_len is_semicolon after + 1) after))

-- any other `&` stays
pub parsed-lone : (table : Table) (after : List ℕ) → reference_text table after ≡ None →
    parsed_after table 0 (38 ∷ after) ≡ 38 ∷ parsed_after table 0 after
parsed-lone table after e = rw (e, parsed_after) refl

-- The text so far, and what is still to be parsed.

pub turn-plain : (table : Table) (done before after rest total : List ℕ) → done ++ parsed_after table 0 rest ≡ total → rest ≡ before ++ 38 ∷ after → All (λ b. b ≢ 38) before
    → (done ++ before) ++ parsed_after table 0 (38 ∷ after) ≡ total
turn-plain table done before after rest total h e plain = grind (arith, append_assoc, parsed-plain)

pub turn-reference : (table : Table) (done after text total : List ℕ) → done ++ parsed_after table 0 (38 ∷ after) ≡ total → reference_text table after ≡ Some text
    → (done ++ text) ++ parsed_after table 0 (after_first is_semicolon after) ≡ total
turn-reference table done after text total h e = grind (arith, append_assoc, parsed-reference)

pub turn-lone : (table : Table) (done after total : List ℕ) → done ++ parsed_after table 0 (38 ∷ after) ≡ total → reference_text table after ≡ None
    → (done ++ 38 ∷ []) ++ parsed_after table 0 after ≡ total
turn-lone table done after total h e = grind (arith, append_assoc, parsed-lone)

pub turn-end : (table : Table) (done rest total : List ℕ) → done ++ parsed_after table 0 rest ≡ total →
    All (λ b. b ≢ 38) rest → done ++ rest ≡ total
turn-end table done rest total h plain = ap (λ bs. done ++ bs) (sym (parsed-unchanged table rest plain)) ∙ h
