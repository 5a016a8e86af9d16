-- The first word of a text.
use Rattle.std.proofs.Common.{◌≡◌, ℕ, zero, suc, ◌+◌, ◌-◌, ◌≤◌, ◌<◌, refl, sym, ap, ◌∙◌, List, [], ◌∷◌, length, take, drop, get_or, true, false, arith, drop-cons, add-one, length-drop}
use Rattle.std.specs.Char.{is_ascii_whitespace}
use Rattle.std.specs.List.{slice_split, onto_first, filter}
use Rattle.std.proofs.lemmas.List.Splits.{slice_split-cons_yes, slice_split-cons_no}
use Rattle.markdown_util.specs.Identifier.{is_nonempty}
use Rattle.markdown_page_model.specs.PageTexts.{first_word, first_of_words}

abbrev words : List ℕ → List (List ℕ)
words text = slice_split is_ascii_whitespace text

abbrev first : List (List ℕ) → List ℕ
first ws = first_of_words (filter is_nonempty ws)

-- a byte of whitespace before a text
space-first : (b : ℕ) (bs : List ℕ) → is_ascii_whitespace b ≡ true → first_word (b ∷ bs) ≡ first_word bs
space-first b bs e = ap first (slice_split-cons_yes is_ascii_whitespace b bs e)

pub past-space : (text : List ℕ) (i : ℕ) → i < length text → is_ascii_whitespace (get_or text i 0) ≡ true → first_word (drop (i + 1) text) ≡ first_word (drop i text)
past-space text i lt e = sym (ap first_word (drop-cons text i 0 lt ∙ ap (λ (k : ℕ). get_or text i 0 ∷ drop k text) (sym (add-one i))) ∙ space-first (get_or text i 0) (drop (i + 1) text) e)

-- the parts of a text of which so many bytes are no whitespace
record BeginsWith (ws : List (List ℕ)) (word : List ℕ) : Type 0 where
  others : List (List ℕ)
  is : ws ≡ word ∷ others

word-first : (n : ℕ) (text : List ℕ) → n ≤ length text → ((i : ℕ) → i < n → is_ascii_whitespace (get_or text i 0) ≡ false) → (n < length text → is_ascii_whitespace (get_or text n 0) ≡ true)
    → BeginsWith (words text) (take n text)
word-first zero [] le f e = record { others = []; is = refl }
word-first zero (b ∷ bs) le f e = record { others = words bs; is = slice_split-cons_yes is_ascii_whitespace b bs (e (omega arith)) }
word-first (suc n) [] le f e = absurd (omega arith)
word-first (suc n) (b ∷ bs) le f e =
    let h : BeginsWith (words bs) (take n bs) = word-first n bs (omega arith) (λ i l. f (suc i) (omega arith)) (λ l. e (omega arith)) in
    record { others = h.others; is = slice_split-cons_no is_ascii_whitespace b bs (f 0 (omega arith)) ∙ ap (onto_first b) h.is }

pub word-taken : (n : ℕ) (text : List ℕ) → (0 < length text → is_ascii_whitespace (get_or text 0 0) ≡ false) → n ≤ length text → ((i : ℕ) → i < n → is_ascii_whitespace (get_or text i 0) ≡ false)
    → (n < length text → is_ascii_whitespace (get_or text n 0) ≡ true) → take n text ≡ first_word text
word-taken zero [] g le f e = refl
word-taken (suc n) [] g le f e = absurd (omega arith)
word-taken zero (b ∷ bs) g le f e = let x = g (omega arith) in let y = e (omega arith) in absurd (cc)
word-taken (suc n) (b ∷ bs) g le f e = sym (ap first (word-first (suc n) (b ∷ bs) le f e).is)

-- the word of a text behind so many bytes
pub word-of : (text rest : List ℕ) (start n : ℕ) → rest ≡ drop start text → start ≤ length text → first_word (drop start text) ≡ first_word text → (start < length text → is_ascii_whitespace (get_or text start 0) ≡ false)
    → n ≤ length rest → ((i : ℕ) → i < n → is_ascii_whitespace (get_or rest i 0) ≡ false) → (n < length rest → is_ascii_whitespace (get_or rest n 0) ≡ true) → take n rest ≡ first_word text
word-of text rest start n e le same begins l f g =
    let size : length rest ≡ length text - start = ap length e ∙ length-drop start text in
    let head : 0 < length rest → is_ascii_whitespace (get_or rest 0 0) ≡ false =
    λ k. let lt : start < length text = omega (arith, k, size) in ap is_ascii_whitespace (ap (λ (xs : List ℕ). get_or xs 0 0) (e ∙ drop-cons text start 0 lt)) ∙ begins lt in
    word-taken n rest head l f g ∙ ap first_word e ∙ same
