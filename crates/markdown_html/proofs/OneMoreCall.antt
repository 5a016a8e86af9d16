-- What one more call changes of what is known of footnotes.
use Rattle.std.proofs.Common.{◌≡◌, ◌∙◌, ap, refl, ℕ, zero, suc, ◌+◌, ◌≤◌, arith, Bool, true, false, ◌||◌, cond, if◌then◌else◌, List, [], ◌∷◌, ◌++◌, map, reverse, length, Option, None, Some, string_bytes}
use Rattle.std.specs.Prelude.{String}
use Rattle.std.specs.Str.{bytes_eq}
use Rattle.std.proofs.lemmas.List.{map-append, reverse-append}
use Rattle.std.proofs.lemmas.Slice.Eq.{bytes_eq-Decides}
use Rattle.markdown_html_model.specs.Html.{footnote_number, footnotes_called, is_called, times_called}
use Rattle.markdown_html.specs.KnownFootnotes.{footnote_of, known_of}
use Rattle.markdown_html.specs.declared.footnotes.Footnote.{Footnote}

-- it is not zero
is_some : ℕ → Bool
is_some zero = false
is_some (suc n) = true

-- a footnote is called where it is called once or more
called-times : (q : List ℕ) (calls : List (List ℕ)) → is_called q calls ≡ is_some (times_called q calls)
unfolding is_some
called-times q [] = refl
called-times q (call ∷ before) = grind (arith, called-times q before)

never-called : (times : ℕ) → is_some times ≡ false → times ≡ 0
unfolding is_some
never-called zero e = refl
never-called (suc n) e = cc

next-number : (q : List ℕ) (calls : List (List ℕ)) → is_called q calls ≡ false → footnote_number q calls ≡ suc (footnotes_called calls)
next-number q [] e = refl
next-number q (call ∷ before) e = ap (λ b. if b then footnote_number q before else suc (footnotes_called (call ∷ before))) e

unknown : (q : List ℕ) (calls : List (List ℕ)) (called : Bool) → (if called then Some (footnote_of q calls) else None) ≡ None → called ≡ false
unknown q calls true e = cc
unknown q calls false e = refl

abbrev pub footnote_with : ℕ → ℕ → Footnote
footnote_with number calls = record { number = number; calls = calls }

-- a footnote of which nothing is known comes next
pub footnote-next : (q : List ℕ) (calls : List (List ℕ)) (next : ℕ) → known_of q calls ≡ None → next ≡ suc (footnotes_called calls) → footnote_with next 0 ≡ footnote_of q calls
footnote-next q calls next e is = grind (arith, unknown, next-number, never-called, called-times)

known-cases : (same called : Bool) (number next times : ℕ)
    → cond same (Some (footnote_with number (suc times))) (cond called (Some (footnote_with number times)) None)
    ≡ (if same || called then Some (footnote_with (if same || called then number else next) (if same then suc times else times)) else None)
known-cases same called number next times = grind arith

same-footnote : (x q : List ℕ) (calls : List (List ℕ)) (same : Bool) (old : Option Footnote) → (same ≡ true → x ≡ q)
    → cond same (Some (footnote_with (footnote_number x calls) (suc (times_called x calls)))) old ≡ cond same (Some (footnote_with (footnote_number q calls) (suc (times_called q calls)))) old
same-footnote x q calls true old f = ap (λ y. Some (footnote_with (footnote_number y calls) (suc (times_called y calls)))) (f refl)
same-footnote x q calls false old f = refl

plus-one : (n : ℕ) → n + 1 ≡ suc n
plus-one n = omega arith

-- one more call changes what is known of its footnote alone
pub known-after : (x q : List ℕ) (calls : List (List ℕ))
    → cond (bytes_eq x q) (Some (footnote_with (footnote_number x calls) (suc (times_called x calls)))) (known_of q calls) ≡ known_of q (x ∷ calls)
known-after x q calls = grind (arith, same-footnote, bytes_eq-Decides, known-cases)

-- and the number of the next, where it is the first of its footnote
pub first-after : (x : List ℕ) (calls : List (List ℕ)) → times_called x calls ≡ 0 → footnotes_called (x ∷ calls) ≡ suc (footnotes_called calls)
unfolding is_some
first-after x calls e = ap (λ b. if b then footnotes_called calls else suc (footnotes_called calls)) (called-times x calls ∙ ap is_some e)

pub later-after : (x : List ℕ) (calls : List (List ℕ)) → (times_called x calls ≡ 0 → ⊥) → footnotes_called (x ∷ calls) ≡ footnotes_called calls
unfolding is_some
later-after x calls f = grind (arith, called-times)

at-most : (same : Bool) (n m : ℕ) → n ≤ m → (if same then suc n else n) ≤ suc m
at-most true n m h = omega arith
at-most false n m h = omega arith

at-most-else : (same : Bool) (n m : ℕ) → n ≤ m → (if same then n else suc n) ≤ suc m
at-most-else true n m h = omega arith
at-most-else false n m h = omega arith

pub times-bounded : (q : List ℕ) (calls : List (List ℕ)) → times_called q calls ≤ length calls
times-bounded q [] = omega arith
times-bounded q (call ∷ before) = at-most (bytes_eq call q) (times_called q before) (length before) (times-bounded q before)

pub footnotes-bounded : (calls : List (List ℕ)) → footnotes_called calls ≤ length calls
footnotes-bounded [] = omega arith
footnotes-bounded (call ∷ before) = at-most-else (is_called call before) (footnotes_called before) (length before) (footnotes-bounded before)

-- what a map finds where the footnote of a call is set in it
pub known-set : (x key q : List ℕ) (calls all : List (List ℕ)) (number times : ℕ) (old new : Option Footnote) → key ≡ x → all ≡ x ∷ calls
    → number ≡ footnote_number x calls → times ≡ times_called x calls → old ≡ known_of q calls
    → new ≡ cond (bytes_eq key q) (Some (footnote_with number (times + 1))) old → new ≡ known_of q all
known-set x key q calls all number times old new is more numbered counted before after = grind (arith, plus-one, known-after)

-- the identifiers of calls behind one more, the latest first
pub one-later : {Z : Type 0} (calls more : List (String Z)) (call : String Z) → more ≡ calls ++ call ∷ []
    → reverse (map string_bytes more) ≡ string_bytes call ∷ reverse (map string_bytes calls)
one-later calls more call is = grind (arith, map-append, reverse-append)
