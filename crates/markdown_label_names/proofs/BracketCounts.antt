-- An identifier has as many opening brackets as its text.
use Rattle.std.proofs.Common.{◌≡◌, ◌∙◌, sym, ap, ap₂, refl, ℕ, suc, ◌+◌, ◌<◌, Bool, true, false, ◌==◌, cond, if◌then◌else◌, List, [], ◌∷◌, ◌++◌, length, get_or, map, inl, inr, IsUtf8, append-nil, arith}
use Rattle.std.specs.Prelude.{not}
use Rattle.std.specs.List.{list_all, filter, slice_split, onto_first, join_with_byte}
use Rattle.std.specs.Str.{chars, encode_utf8_all}
use Rattle.std.proofs.Math.Utf8.{encode}
use Rattle.std.proofs.lemmas.Bool.{cases_eq, and_parts, eqb-true, false≢true}
use Rattle.std.proofs.lemmas.List.Sums.{sum_by-append, sum_by-cons}
use Rattle.std.proofs.lemmas.List.Splits.{slice_split-cons_yes, slice_split-cons_no}
use Rattle.std.proofs.lemmas.Str.{inside_one, encode_ascii, encodes-chars}
use Rattle.ucd_table.proofs.RangedFacts.{values_ok, Stepped-at_values}
use Rattle.ucd_table.proofs.Computing.{tables}
use Rattle.ucd_case.specs.CaseFolding.{full_folding, or_itself, full_fold}
use Rattle.ucd_case.proofs.CaseFoldingLemmas.{full_folding_stepped, full_fold-ascii}
use Rattle.caseless.specs.Caseless.{default_case_fold}
use Rattle.markdown_notes.specs.BracketIndex.{brackets_of}
use Rattle.markdown_util.specs.Identifier.{separates_words, is_nonempty, joined_words, identifier_of, read_text, replaced_nul}
use Rattle.markdown_util.proofs.ValueBytes.{eqb_off}

abbrev count : Bool → ℕ
count b = cond b 1 0

abbrev one_of : ℕ → ℕ
one_of b = count (b == 91)

both : (xs ys : List ℕ) → brackets_of (xs ++ ys) ≡ brackets_of xs + brackets_of ys
both xs ys = sum_by-append one_of xs ys

first : (x : ℕ) (xs : List ℕ) → brackets_of (x ∷ xs) ≡ one_of x + brackets_of xs
first x xs = sum_by-cons one_of x xs

unlike : (c : ℕ) → (c ≡ 91 → ⊥) → one_of c ≡ 0
unlike c n = go (c == 91) refl
  where
    go : (b : Bool) → (c == 91) ≡ b → count b ≡ 0
    go true e = absurd (n (eqb-true c 91 e))
    go false e = refl

none : (xs : List ℕ) → ((k : ℕ) → k < length xs → get_or xs k 0 ≡ 91 → ⊥) → brackets_of xs ≡ 0
none [] h = refl
none (x ∷ xs) h =
    omega (arith, first x xs, unlike x (h 0 (omega arith)), none xs (λ k l e. h (suc k) (omega (arith, l)) e))

-- Characters.

of-char : (c : ℕ) → brackets_of (encode c) ≡ one_of c
of-char c = elim (cases_eq c 91) [
  | inl e ↦ ap (λ x. brackets_of (encode x)) e ∙ ap brackets_of (encode_ascii 91 (omega arith)) ∙ ap one_of (sym e)
  | inr n ↦ none (encode c) (λ k l e. n (inside_one c [] (encode c) k (sym (append-nil (encode c))) l (omega (arith, e)) ∙ e)) ∙ sym (unlike c n)
]

of-chars : (cs : List ℕ) → brackets_of (encode_utf8_all cs) ≡ brackets_of cs
of-chars [] = refl
of-chars (c ∷ cs) = both (encode c) (encode_utf8_all cs) ∙ ap₂ ◌+◌ (of-char c) (of-chars cs) ∙ sym (first c cs)

-- Case folding.

abbrev lacks : List ℕ → Bool
lacks xs = list_all (λ x. not (x == 91)) xs

all-lack : (c : ℕ) → lacks (full_folding c) ≡ true
unfolding tables values_ok full_folding_stepped
all-lack c = Stepped-at_values full_folding full_folding_stepped lacks refl c

lacks-none : (xs : List ℕ) → lacks xs ≡ true → brackets_of xs ≡ 0
lacks-none [] h = refl
lacks-none (x ∷ xs) h =
    let parts = and_parts (not (x == 91)) (lacks xs) h in
    omega (arith, first x xs, other (x == 91) parts.0, lacks-none xs parts.1)
  where
    other : (b : Bool) → not b ≡ true → count b ≡ 0
    other true e = cc
    other false e = refl

folded-one : (c : ℕ) → brackets_of (full_fold c) ≡ one_of c
folded-one c = elim (cases_eq c 91) [
  | inl e ↦ ap (λ x. brackets_of (full_fold x)) e ∙ ap brackets_of (full_fold-ascii 91 (omega arith)) ∙ ap one_of (sym e)
  | inr n ↦ other n (full_folding c) (all-lack c)
]
  where
    other : (c ≡ 91 → ⊥) → (xs : List ℕ) → lacks xs ≡ true → brackets_of (or_itself c xs) ≡ one_of c
    other n [] h = omega (arith, first c [])
    other n (x ∷ xs) h = lacks-none (x ∷ xs) h ∙ sym (unlike c n)

of-folded : (cs : List ℕ) → brackets_of (default_case_fold cs) ≡ brackets_of cs
unfolding default_case_fold
of-folded [] = refl
of-folded (c ∷ cs) =
    both (full_fold c) (default_case_fold cs) ∙ ap₂ ◌+◌ (folded-one c) (of-folded cs) ∙ sym (first c cs)

-- Words.

abbrev total : List (List ℕ) → ℕ
total [] = 0
total (p ∷ ps) = brackets_of p + total ps

of-parts : (cs : List ℕ) → total (slice_split separates_words cs) ≡ brackets_of cs
of-parts [] = refl
of-parts (c ∷ cs) = go (of-parts cs) (separates_words c) refl
  where
    onto : (ps : List (List ℕ)) → total (onto_first c ps) ≡ one_of c + total ps
    onto [] = omega (arith, first c [])
    onto (p ∷ ps) = omega (arith, first c p)

    space : separates_words c ≡ true → one_of c ≡ 0
    space e = unlike c (λ k. false≢true (ap separates_words (sym k) ∙ e))

    go : total (slice_split separates_words cs) ≡ brackets_of cs → (b : Bool) → separates_words c ≡ b →
        total (slice_split separates_words (c ∷ cs)) ≡ brackets_of (c ∷ cs)
    go rest true e = ap total (slice_split-cons_yes separates_words c cs e) ∙ omega (arith, rest, first c cs, space e)
    go rest false e =
        ap total (slice_split-cons_no separates_words c cs e) ∙ omega (arith, rest, first c cs, onto (slice_split separates_words cs))

of-words : (ps : List (List ℕ)) → total (filter is_nonempty ps) ≡ total ps
of-words [] = refl
of-words ([] ∷ ps) = omega (arith, of-words ps)
of-words ((c ∷ cs) ∷ ps) = omega (arith, of-words ps)

of-join : (ps : List (List ℕ)) → brackets_of (join_with_byte 32 ps) ≡ total ps
of-join [] = refl
of-join (p ∷ []) = omega arith
of-join (p ∷ q ∷ ps) =
    omega (arith, both p (32 ∷ join_with_byte 32 (q ∷ ps)), first 32 (join_with_byte 32 (q ∷ ps)), of-join (q ∷ ps))

of-joined : (cs : List ℕ) → brackets_of (joined_words cs) ≡ brackets_of cs
of-joined cs =
    of-join (filter is_nonempty (slice_split separates_words cs)) ∙ of-words (slice_split separates_words cs) ∙ of-parts cs

-- an identifier has as many opening brackets as its text
pub of-identifier : (bs : List ℕ) → IsUtf8 bs → brackets_of (identifier_of bs) ≡ brackets_of bs
unfolding identifier_of
of-identifier bs u =
    of-chars (default_case_fold (joined_words (chars bs))) ∙ of-folded (joined_words (chars bs)) ∙ of-joined (chars bs)
    ∙ sym (of-chars (chars bs)) ∙ ap brackets_of (encodes-chars bs u)

-- and so many when NUL is read as another character

of-replaced : (cs : List ℕ) → brackets_of (map replaced_nul cs) ≡ brackets_of cs
of-replaced [] = refl
of-replaced (c ∷ cs) = first (replaced_nul c) (map replaced_nul cs) ∙ (λ i. one c i + of-replaced cs i) ∙ sym (first c cs)
  where
    one : (c : ℕ) → one_of (replaced_nul c) ≡ one_of c
    one c = elim (cases_eq c 0) [
      | inl e ↦ ap (λ x. one_of (replaced_nul x)) e ∙ ap one_of (sym e)
      | inr n ↦ ap (λ b. one_of (if b then 0xFFFD else c)) (eqb_off c 0 n)
    ]

pub of-read : (replaced : Bool) (bs : List ℕ) → IsUtf8 bs → brackets_of (read_text replaced bs) ≡ brackets_of bs
of-read false bs u = refl
of-read true bs u =
    of-chars (map replaced_nul (chars bs)) ∙ of-replaced (chars bs) ∙ sym (of-chars (chars bs)) ∙ ap brackets_of (encodes-chars bs u)
