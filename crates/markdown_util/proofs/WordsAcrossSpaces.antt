-- The words of a text, through runs of spaces.
use Rattle.std.proofs.Common.{◌≡◌, ◌≢◌, ◌∙◌, sym, ap, refl, ℕ, Bool, true, false, ◌&&◌, List, [], ◌∷◌, ◌++◌, append-nil, length, arith}
use Rattle.std.specs.List.{All, list_all, slice_split, onto_first, filter, join_with_byte}
use Rattle.std.specs.Str.{chars, encode_utf8_all}
use Rattle.std.proofs.lemmas.Bool.{false≢true}
use Rattle.std.proofs.lemmas.List.Elements.{All-head, All-tail, filter-append}
use Rattle.std.proofs.lemmas.List.Splits.{slice_split-cons_yes, slice_split-cons_no, length-slice_split}
use Rattle.caseless.specs.Caseless.{default_case_fold}
use Rattle.markdown_util.specs.Identifier.{separates_words, is_nonempty, words, identifier_of}
use Rattle.markdown_util.specs.IdentifierLaws.{AreSpaces, Gap, AreRuns, left_text, right_text, IsBetweenSpaces, IdentifierLaw}

first_spaces : (x : ℕ) (xs : List ℕ) → AreSpaces (x ∷ xs) → (separates_words x ≡ true) × AreSpaces xs
first_spaces x xs h = go (separates_words x) refl h
  where
    go : (b : Bool) → separates_words x ≡ b → (b && list_all separates_words xs) ≡ true →
        (separates_words x ≡ true) × AreSpaces xs
    go true e h = (e, h)
    go false e h = absurd (false≢true h)

-- spaces in front add no word
words-spaces : (run xs : List ℕ) → AreSpaces run → words (run ++ xs) ≡ words xs
words-spaces [] xs h = refl
words-spaces (x ∷ run) xs h =
    let parts = first_spaces x run h in
    ap (filter is_nonempty) (slice_split-cons_yes separates_words x (run ++ xs) parts.0) ∙ words-spaces run xs parts.1

onto_first-append : (x : ℕ) (ps qs : List (List ℕ)) → ps ≢ [] → onto_first x (ps ++ qs) ≡ onto_first x ps ++ qs
onto_first-append x [] qs h = absurd (h refl)
onto_first-append x (p ∷ ps) qs h = refl

split_nonempty : (xs : List ℕ) → slice_split separates_words xs ≢ []
split_nonempty xs e = absurd (omega (arith, length-slice_split separates_words xs, ap length e))

-- a space parts a text
split-at_space : (xs : List ℕ) (s : ℕ) (ys : List ℕ) → separates_words s ≡ true →
    slice_split separates_words (xs ++ s ∷ ys) ≡ slice_split separates_words xs ++ slice_split separates_words ys
split-at_space [] s ys h = slice_split-cons_yes separates_words s ys h
split-at_space (x ∷ xs) s ys h = go (split-at_space xs s ys h) (separates_words x) refl
  where
    go : slice_split separates_words (xs ++ s ∷ ys) ≡ slice_split separates_words xs ++ slice_split separates_words ys → (b : Bool) → separates_words x ≡ b
        → slice_split separates_words (x ∷ (xs ++ s ∷ ys)) ≡ slice_split separates_words (x ∷ xs) ++ slice_split separates_words ys
    go rest true e =
        slice_split-cons_yes separates_words x (xs ++ s ∷ ys) e ∙ ap (λ ps. [] ∷ ps) rest
        ∙ ap (λ ps. ps ++ slice_split separates_words ys) (sym (slice_split-cons_yes separates_words x xs e))
    go rest false e =
        slice_split-cons_no separates_words x (xs ++ s ∷ ys) e ∙ ap (onto_first x) rest
        ∙ onto_first-append x (slice_split separates_words xs) (slice_split separates_words ys) (split_nonempty xs)
        ∙ ap (λ ps. ps ++ slice_split separates_words ys) (sym (slice_split-cons_no separates_words x xs e))

-- the words on both sides of a run
words-run : (xs run ys : List ℕ) → AreSpaces run → run ≢ [] → words (xs ++ (run ++ ys)) ≡ words xs ++ words ys
words-run xs [] ys h nonempty = absurd (nonempty refl)
words-run xs (s ∷ run) ys h nonempty =
    let parts = first_spaces s run h in
    ap (filter is_nonempty) (split-at_space xs s (run ++ ys) parts.0)
    ∙ filter-append is_nonempty (slice_split separates_words xs) (slice_split separates_words (run ++ ys))
    ∙ ap (λ ws. words xs ++ ws) (words-spaces run ys parts.1)

words-back : (xs run : List ℕ) → AreSpaces run → words (xs ++ run) ≡ words xs
words-back xs [] h = ap words (append-nil xs)
words-back xs (s ∷ run) h =
    ap (λ r. words (xs ++ r)) (sym (append-nil (s ∷ run))) ∙ words-run xs (s ∷ run) [] h (λ e. cc) ∙ append-nil (words xs)

words-between : (text whole : List ℕ) → IsBetweenSpaces text whole → words whole ≡ words text
words-between text whole h =
    ap words h.is ∙ words-spaces h.front (text ++ h.back) h.front_spaces ∙ words-back text h.back h.back_spaces

words-gaps : (gaps : List Gap) (end : List ℕ) → All AreRuns gaps →
    words (left_text gaps end) ≡ words (right_text gaps end)
words-gaps [] end h = refl
words-gaps (gap ∷ gaps) end h =
    let runs = All-head AreRuns gap gaps h in
    words-run gap.before gap.left (left_text gaps end) runs.left runs.left_nonempty
    ∙ ap (λ ws. words gap.before ++ ws) (words-gaps gaps end (All-tail AreRuns gap gaps h))
    ∙ sym (words-run gap.before gap.right (right_text gaps end) runs.right runs.right_nonempty)

pub identifier_law : IdentifierLaw
unfolding identifier_of
identifier_law xs ys h =
    let same : words (chars xs) ≡ words (chars ys) =
    words-between _ _ h.left ∙ words-gaps h.gaps h.end h.runs ∙ sym (words-between _ _ h.right) in
    ap (λ ws. encode_utf8_all (default_case_fold (join_with_byte 32 ws))) same
