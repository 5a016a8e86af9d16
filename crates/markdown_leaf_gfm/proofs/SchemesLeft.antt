-- Schemes of which a front is passed: what is left of them reads as the next code says.
use Rattle.std.proofs.Common.{◌≡◌, ℕ, ◌+◌, ◌-◌, ◌≤◌, ◌==◌, ◌&&◌, ◌||◌, not, nat_lt, Bool, true, false, if◌then◌else◌, Option, Some, None, List, [], ◌∷◌, ◌++◌, length, refl, sym, ap, subst, ◌∙◌, arith}
use Rattle.std.specs.Prelude.{codes, filter}
use Rattle.std.proofs.Common.{cond}
use Rattle.std.specs.List.{list_all, list_any}
use Rattle.std.proofs.lemmas.Bool.{eqb-true, or_parts}
use Rattle.std.proofs.lemmas.Bool.Decides.{nat_tests}
use Rattle.std.proofs.lemmas.List.Folds.{list_any-append}
use Rattle.markdown_content.specs.Codes.{Code}
use Rattle.markdown_model.specs.CodeTests.{is_between}
use Rattle.markdown_model.specs.Grammar.{either, with_first}
use Rattle.markdown_model.specs.GfmAutolinkLiteral.{letters, one_word_of, in_both_cases, first_letters}
use Rattle.markdown_model.proofs.GrammarSteps.{and-left, and-right, either-some, either-second}
use Rattle.markdown_plan.specs.ByteTests.{letter_value}
use Rattle.markdown_leaf_gfm.specs.GfmAutolinkLiteral.{stands_for, behind_name, some_before, words_behind, is_named, one_named, name_size, longest, is_slashes, is_scheme, are_schemes}
use Rattle.markdown_leaf_gfm.proofs.LettersOfWords.{either-first-code, letters-more, letters-none}

-- Letters.

-- a code of a scheme
abbrev pub is_spelling : ℕ → Bool
is_spelling n = n == 58 || is_between 97 122 n

spelling-first : (n : ℕ) (ns : List ℕ) → is_scheme (n ∷ ns) ≡ true → is_spelling n ≡ true
spelling-first n ns h = by_test (n == 58) refl h
  where
    by_test : (b : Bool) → (n == 58) ≡ b → (if b then is_slashes ns else is_between 97 122 n && is_scheme ns) ≡ true →
        is_spelling n ≡ true
    by_test true e k = ap (λ b. b || is_between 97 122 n) e
    by_test false e k = ap (λ b. b || is_between 97 122 n) e ∙ and-left (is_between 97 122 n) (is_scheme ns) k

-- a code that is no letter stands for the colon only
pub other-for : (n v : ℕ) → is_spelling n ≡ true → letter_value v ≡ false → (v == 58) ≡ false → stands_for n v ≡ false
other-for n v h e f = grind (arith, nat_tests)

-- a letter stands for none
pub letter-for : (n v : ℕ) → (n == 58) ≡ true → letter_value v ≡ true → stands_for n v ≡ false
letter-for n v h e = grind (arith, nat_tests)

colon-is : (n : ℕ) → (n == 58) ≡ stands_for n 58
colon-is n = grind (arith, nat_tests)

spelling-low : (n : ℕ) → is_spelling n ≡ true → nat_lt n 129 ≡ true
spelling-low n h = grind (arith, nat_tests)

pub both-stand : (n v : ℕ) → nat_lt n 129 ≡ true → list_any (λ m. v == m) (in_both_cases n) ≡ stands_for n v
both-stand n v h = by_case (is_between 97 122 n) refl
  where
    by_case : (b : Bool) → is_between 97 122 n ≡ b →
        list_any (λ m. v == m) (if b then (n - 32) ∷ n ∷ [] else n ∷ []) ≡ stands_for n v
    by_case true e = grind (arith, nat_tests)
    by_case false e = grind (arith, nat_tests)

-- What is left behind a code.

abbrev pub tail_at : ℕ → List ℕ → Option (List ℕ)
tail_at v [] = None
tail_at v (n ∷ rest) = if stands_for n v then Some rest else None

abbrev pub tails : ℕ → List (List ℕ) → List (List ℕ)
tails v [] = []
tails v (word ∷ words) = some_before (tail_at v word) (tails v words)

tail_of : ℕ → Option (List ℕ) → Option (List ℕ)
tail_of v None = None
tail_of v (Some word) = tail_at v word

tails-before : (v : ℕ) (o : Option (List ℕ)) (words : List (List ℕ)) →
    tails v (some_before o words) ≡ some_before (tail_of v o) (tails v words)
unfolding tail_of
tails-before v None words = refl
tails-before v (Some word) words = refl

name-more : (vs : List ℕ) (v : ℕ) (word : List ℕ) → behind_name (vs ++ v ∷ []) word ≡ tail_of v (behind_name vs word)
unfolding tail_of
name-more [] v [] = refl
name-more [] v (n ∷ ns) = refl
name-more (x ∷ vs) v [] = refl
name-more (x ∷ vs) v (n ∷ ns) = by_test (stands_for n x) (name-more vs v ns)
  where
    by_test : (t : Bool) → behind_name (vs ++ v ∷ []) ns ≡ tail_of v (behind_name vs ns) →
        (if t then behind_name (vs ++ v ∷ []) ns else None) ≡ tail_of v (if t then behind_name vs ns else None)
    by_test true k = k
    by_test false k = refl

-- behind a further code of a name
pub words-more-behind : (vs : List ℕ) (v : ℕ) (words : List (List ℕ)) →
    words_behind (vs ++ v ∷ []) words ≡ tails v (words_behind vs words)
words-more-behind vs v [] = refl
words-more-behind vs v (word ∷ words) =
    ap (λ o. some_before o (words_behind (vs ++ v ∷ []) words)) (name-more vs v word)
    ∙ ap (some_before (tail_of v (behind_name vs word))) (words-more-behind vs v words)
    ∙ sym (tails-before v (behind_name vs word) (words_behind vs words))

-- behind letters they are schemes still
is_scheme_left : Option (List ℕ) → Bool
is_scheme_left None = true
is_scheme_left (Some word) = is_scheme word

scheme-behind : (vs word : List ℕ) → list_all letter_value vs ≡ true → is_scheme word ≡ true →
    is_scheme_left (behind_name vs word) ≡ true
unfolding is_scheme_left
scheme-behind [] word h e = e
scheme-behind (v ∷ vs) [] h e = refl
scheme-behind (v ∷ vs) (n ∷ ns) h e =
    by_test (n == 58) refl e (λ k. scheme-behind vs ns (and-right (letter_value v) (list_all letter_value vs) h) k)
  where
    by_test : (t : Bool) → (n == 58) ≡ t → (if t then is_slashes ns else is_between 97 122 n && is_scheme ns) ≡ true →
        (is_scheme ns ≡ true → is_scheme_left (behind_name vs ns) ≡ true) →
        is_scheme_left (if stands_for n v then behind_name vs ns else None) ≡ true
    by_test true f k more =
        ap (λ b. is_scheme_left (if b then behind_name vs ns else None)) (letter-for n v f (and-left (letter_value v) (list_all letter_value vs) h))
    by_test false f k more = by_stand (stands_for n v) (more (and-right (is_between 97 122 n) (is_scheme ns) k))
      where
        by_stand : (b : Bool) → is_scheme_left (behind_name vs ns) ≡ true →
            is_scheme_left (if b then behind_name vs ns else None) ≡ true
        by_stand true x = x
        by_stand false x = refl

pub schemes-behind : (vs : List ℕ) (words : List (List ℕ)) → list_all letter_value vs ≡ true → are_schemes words ≡ true →
    are_schemes (words_behind vs words) ≡ true
unfolding is_scheme_left
schemes-behind vs [] h e = refl
schemes-behind vs (word ∷ words) h e =
    before (behind_name vs word) (scheme-behind vs word h (and-left (is_scheme word) (are_schemes words) e)) (schemes-behind vs words h (and-right (is_scheme word) (are_schemes words) e))
  where
    before : (o : Option (List ℕ)) → is_scheme_left o ≡ true → are_schemes (words_behind vs words) ≡ true →
        are_schemes (some_before o (words_behind vs words)) ≡ true
    before None k more = more
    before (Some rest) k more = ap (λ b. b && are_schemes (words_behind vs words)) k ∙ more

abbrev pub no_words : List (List ℕ) → Bool
no_words [] = true
no_words (word ∷ words) = false

-- What is read.

-- a code that stands here
pub words-more : (words : List (List ℕ)) (c : Code) (cs : List Code) → are_schemes words ≡ true →
    one_word_of words (c ∷ cs) ≡ with_first c (one_word_of (tails c.value words) cs)
unfolding one_word_of
words-more [] c cs h = refl
words-more ([] ∷ words) c cs h = cc
words-more ((b ∷ rest) ∷ words) c cs h =
    by_test (stands_for b c.value) refl (words-more words c cs (and-right (is_scheme (b ∷ rest)) (are_schemes words) h))
  where
    by_test : (t : Bool) → stands_for b c.value ≡ t → one_word_of words (c ∷ cs) ≡ with_first c (one_word_of (tails c.value words) cs)
        → either (letters (b ∷ rest)) (one_word_of words) (c ∷ cs) ≡ with_first c (one_word_of (some_before (if t then Some rest else None) (tails c.value words)) cs)
    by_test true k more =
        either-first-code (letters (b ∷ rest)) (one_word_of words) (letters rest) (one_word_of (tails c.value words)) c cs (letters-more b rest c cs k) more
    by_test false k more =
        either-second (letters (b ∷ rest)) (one_word_of words) (c ∷ cs) (letters-none b rest (c ∷ cs) k) ∙ more

-- one of these words begins with this
abbrev pub begins : List ℕ → ℕ → Bool
begins [] v = false
begins (n ∷ ns) v = stands_for n v

abbrev pub one_begins : List (List ℕ) → ℕ → Bool
one_begins words v = list_any (λ word. begins word v) words

pub words-none : (words : List (List ℕ)) (c : Code) (cs : List Code) → are_schemes words ≡ true →
    one_begins words c.value ≡ false → one_word_of words (c ∷ cs) ≡ None
unfolding one_word_of
words-none [] c cs h e = refl
words-none ([] ∷ words) c cs h e = cc
words-none ((b ∷ rest) ∷ words) c cs h e =
    let k = or_parts (stands_for b c.value) (one_begins words c.value) e in
    either-second (letters (b ∷ rest)) (one_word_of words) (c ∷ cs) (letters-none b rest (c ∷ cs) k.0) ∙ words-none words c cs (and-right (is_scheme (b ∷ rest)) (are_schemes words) h) k.1

pub words-end : (words : List (List ℕ)) → are_schemes words ≡ true → one_word_of words [] ≡ None
unfolding one_word_of
words-end [] h = refl
words-end ([] ∷ words) h = cc
words-end ((b ∷ rest) ∷ words) h =
    either-second (letters (b ∷ rest)) (one_word_of words) [] (letters-none b rest [] refl) ∙ words-end words (and-right (is_scheme (b ∷ rest)) (are_schemes words) h)

-- Behind a colon stand the slashes.

AllSlashes : List (List ℕ) → Type 0
AllSlashes [] = Unit {0}
AllSlashes (word ∷ words) = (word ≡ codes "//") × AllSlashes words

two-slashes : (ns : List ℕ) → is_slashes ns ≡ true → ns ≡ codes "//"
two-slashes [] h = cc
two-slashes (n ∷ []) h = cc
two-slashes (n ∷ m ∷ []) h =
    λ i. eqb-true n 47 (and-left (n == 47) (m == 47) h) i ∷ eqb-true m 47 (and-right (n == 47) (m == 47) h) i ∷ []
two-slashes (n ∷ m ∷ l ∷ ns) h = cc

slashes-left : (words : List (List ℕ)) → are_schemes words ≡ true → AllSlashes (tails 58 words)
unfolding AllSlashes
slashes-left [] h = tt
slashes-left ([] ∷ words) h = cc
slashes-left ((b ∷ rest) ∷ words) h =
    by_test (b == 58) refl (and-left (is_scheme (b ∷ rest)) (are_schemes words) h) (slashes-left words (and-right (is_scheme (b ∷ rest)) (are_schemes words) h))
  where
    by_test : (t : Bool) → (b == 58) ≡ t →
        (if t then is_slashes rest else is_between 97 122 b && is_scheme rest) ≡ true → AllSlashes (tails 58 words) →
        AllSlashes (some_before (if stands_for b 58 then Some rest else None) (tails 58 words))
    by_test true e k more =
        subst (λ x. AllSlashes (some_before (if x then Some rest else None) (tails 58 words))) (sym e ∙ colon-is b) (two-slashes rest k, more)
    by_test false e k more =
        subst (λ x. AllSlashes (some_before (if x then Some rest else None) (tails 58 words))) (sym e ∙ colon-is b) more

slashes-none : (words : List (List ℕ)) (cs : List Code) → AllSlashes words → letters (codes "//") cs ≡ None →
    one_word_of words cs ≡ None
unfolding one_word_of AllSlashes
slashes-none [] cs h e = refl
slashes-none (word ∷ words) cs h e =
    either-second (letters word) (one_word_of words) cs (ap (λ w. letters w cs) h.0 ∙ e) ∙ slashes-none words cs h.1 e

slashes-read : (words : List (List ℕ)) (cs : List Code) → AllSlashes words → no_words words ≡ false →
    one_word_of words cs ≡ letters (codes "//") cs
unfolding one_word_of AllSlashes
slashes-read [] cs h k = cc
slashes-read (word ∷ words) cs h k = by_what (letters (codes "//") cs) refl
  where
    by_what : (o : Option (List Code × List Code)) → letters (codes "//") cs ≡ o →
        either (letters word) (one_word_of words) cs ≡ letters (codes "//") cs
    by_what None e = slashes-none (word ∷ words) cs h e ∙ sym e
    by_what (Some r) e = either-some (letters word) (one_word_of words) cs r (ap (λ w. letters w cs) h.0 ∙ e) ∙ sym e

-- behind a name there is a colon if one of the words has the name
begins_rest : Option (List ℕ) → ℕ → Bool
begins_rest None v = false
begins_rest (Some word) v = begins word v

begins-before : (o : Option (List ℕ)) (words : List (List ℕ)) (v : ℕ) →
    one_begins (some_before o words) v ≡ begins_rest o v || one_begins words v
unfolding begins_rest
begins-before None words v = refl
begins-before (Some word) words v = refl

named-begins : (vs word : List ℕ) → is_named vs word ≡ begins_rest (behind_name vs word) 58
unfolding begins_rest
named-begins [] [] = refl
named-begins [] (n ∷ ns) = colon-is n
named-begins (v ∷ vs) [] = refl
named-begins (v ∷ vs) (n ∷ ns) = by_test (stands_for n v) (named-begins vs ns)
  where
    by_test : (t : Bool) → is_named vs ns ≡ begins_rest (behind_name vs ns) 58 →
        (t && is_named vs ns) ≡ begins_rest (if t then behind_name vs ns else None) 58
    by_test true k = k
    by_test false k = refl

pub named-begin : (vs : List ℕ) (words : List (List ℕ)) → one_named words vs ≡ one_begins (words_behind vs words) 58
named-begin vs [] = refl
named-begin vs (word ∷ words) =
    ap (λ b. b || one_named words vs) (named-begins vs word)
    ∙ ap (λ b. begins_rest (behind_name vs word) 58 || b) (named-begin vs words)
    ∙ sym (begins-before (behind_name vs word) (words_behind vs words) 58)

some-tails : (words : List (List ℕ)) (v : ℕ) → one_begins words v ≡ true → no_words (tails v words) ≡ false
some-tails [] v e = cc
some-tails ([] ∷ words) v e = some-tails words v e
some-tails ((n ∷ ns) ∷ words) v e = by_test (stands_for n v) e (λ k. some-tails words v k)
  where
    by_test : (t : Bool) → (t || one_begins words v) ≡ true → (one_begins words v ≡ true → no_words (tails v words) ≡ false) →
        no_words (some_before (if t then Some ns else None) (tails v words)) ≡ false
    by_test true k more = refl
    by_test false k more = more k

pub colon-read : (words : List (List ℕ)) (cs : List Code) → are_schemes words ≡ true →
    one_begins words 58 ≡ true → one_word_of (tails 58 words) cs ≡ letters (codes "//") cs
colon-read words cs h k = slashes-read (tails 58 words) cs (slashes-left words h) (some-tails words 58 k)

-- Nothing that is left begins so: with a code that is no letter and no colon,
pub no-other : (words : List (List ℕ)) (v : ℕ) → are_schemes words ≡ true → letter_value v ≡ false → (v == 58) ≡ false →
    one_begins words v ≡ false
no-other [] v h e f = refl
no-other ([] ∷ words) v h e f = cc
no-other ((n ∷ ns) ∷ words) v h e f =
    ap (λ b. b || one_begins words v) (other-for n v (spelling-first n ns (and-left (is_scheme (n ∷ ns)) (are_schemes words) h)) e f) ∙ no-other words v (and-right (is_scheme (n ∷ ns)) (are_schemes words) h) e f

-- or with a letter, behind so many letters.
long-name : (vs word : List ℕ) (v : ℕ) → list_all letter_value vs ≡ true → letter_value v ≡ true →
    name_size word ≤ length vs → begins_rest (behind_name vs word) v ≡ false
unfolding begins_rest
long-name [] [] v h e k = refl
long-name [] (n ∷ ns) v h e k = by_test (n == 58) refl k
  where
    by_test : (t : Bool) → (n == 58) ≡ t → (if t then 0 else name_size ns + 1) ≤ 0 → stands_for n v ≡ false
    by_test true f m = letter-for n v f e
    by_test false f m = absurd (omega (arith, m))
long-name (x ∷ vs) [] v h e k = refl
long-name (x ∷ vs) (n ∷ ns) v h e k =
    by_test (n == 58) refl k (λ m. long-name vs ns v (and-right (letter_value x) (list_all letter_value vs) h) e m)
  where
    by_test : (t : Bool) → (n == 58) ≡ t → (if t then 0 else name_size ns + 1) ≤ length (x ∷ vs) →
        (name_size ns ≤ length vs → begins_rest (behind_name vs ns) v ≡ false) →
        begins_rest (if stands_for n x then behind_name vs ns else None) v ≡ false
    by_test true f m more =
        ap (λ b. begins_rest (if b then behind_name vs ns else None) v) (letter-for n x f (and-left (letter_value x) (list_all letter_value vs) h))
    by_test false f m more = by_stand (stands_for n x) (more (omega (arith, m)))
      where
        by_stand : (b : Bool) → begins_rest (behind_name vs ns) v ≡ false →
            begins_rest (if b then behind_name vs ns else None) v ≡ false
        by_stand true y = y
        by_stand false y = refl

longest-most : (word : List ℕ) (words : List (List ℕ)) →
    (name_size word ≤ longest (word ∷ words)) × (longest words ≤ longest (word ∷ words))
longest-most word words = by_test (nat_lt (longest words) (name_size word)) refl
  where
    by_test : (t : Bool) → nat_lt (longest words) (name_size word) ≡ t →
        (name_size word ≤ (if t then name_size word else longest words)) × (longest words ≤ (if t then name_size word else longest words))
    by_test true e = (omega arith, grind (arith, nat_tests))
    by_test false e = (grind (arith, nat_tests), omega arith)

pub no-longer : (vs : List ℕ) (words : List (List ℕ)) (v : ℕ) → list_all letter_value vs ≡ true → letter_value v ≡ true →
    longest words ≤ length vs → one_begins (words_behind vs words) v ≡ false
no-longer vs [] v h e k = refl
no-longer vs (word ∷ words) v h e k =
    let m = longest-most word words in
    begins-before (behind_name vs word) (words_behind vs words) v
    ∙ ap (λ b. b || one_begins (words_behind vs words) v) (long-name vs word v h e (omega (arith, k, m.0)))
    ∙ no-longer vs words v h e (omega (arith, k, m.1))

-- The first letters.

pub among-filter : (p : ℕ → Bool) (ns : List ℕ) (v : ℕ) →
    list_any (λ m. v == m) (filter p ns) ≡ list_any (λ m. v == m) ns && p v
among-filter p [] v = refl
among-filter p (n ∷ ns) v = by_test (p n) (v == n) refl refl (among-filter p ns v)
  where
    by_test : (t e : Bool) → p n ≡ t → (v == n) ≡ e → list_any (λ m. v == m) (filter p ns) ≡ list_any (λ m. v == m) ns && p v
        → list_any (λ m. v == m) (cond t (n ∷ filter p ns) (filter p ns)) ≡ (e || list_any (λ m. v == m) ns) && p v
    by_test true true k f more = ap (λ b. b || list_any (λ m. v == m) (filter p ns)) f ∙ sym (ap p (eqb-true v n f) ∙ k)
    by_test true false k f more = ap (λ b. b || list_any (λ m. v == m) (filter p ns)) f ∙ more
    by_test false true k f more = more ∙ ap (λ b. list_any (λ m. v == m) ns && b) (ap p (eqb-true v n f) ∙ k) ∙ none (list_any (λ m. v == m) ns) ∙ sym (ap p (eqb-true v n f) ∙ k)
      where
        none : (b : Bool) → (b && false) ≡ false
        none true = refl
        none false = refl
    by_test false false k f more = more

first-letters : (n : ℕ) (ns : List ℕ) (words : List (List ℕ)) (v : ℕ) →
    list_any (λ m. v == m) (first_letters ((n ∷ ns) ∷ words)) ≡ list_any (λ m. v == m) (in_both_cases n) || list_any (λ m. v == m) (first_letters words)
first-letters n ns words v =
    list_any-append (λ m. v == m) (in_both_cases n) (filter (λ m. not (list_any (λ k. m == k) (in_both_cases n))) (first_letters words))
    ∙ ap (λ b. list_any (λ m. v == m) (in_both_cases n) || b) (among-filter (λ m. not (list_any (λ k. m == k) (in_both_cases n))) (first_letters words) v)
    ∙ either-way (list_any (λ m. v == m) (in_both_cases n)) (list_any (λ m. v == m) (first_letters words))
  where
    either-way : (x y : Bool) → (x || (y && not x)) ≡ (x || y)
    either-way true y = refl
    either-way false true = refl
    either-way false false = refl

-- one of these words begins with a code if it is one of their first letters
pub begins-first-letters : (words : List (List ℕ)) (v : ℕ) → are_schemes words ≡ true →
    list_any (λ m. v == m) (first_letters words) ≡ one_begins words v
begins-first-letters [] v h = refl
begins-first-letters ([] ∷ words) v h = cc
begins-first-letters ((n ∷ ns) ∷ words) v h =
    first-letters n ns words v
    ∙ ap (λ b. b || list_any (λ m. v == m) (first_letters words)) (both-stand n v (spelling-low n (spelling-first n ns (and-left (is_scheme (n ∷ ns)) (are_schemes words) h))))
    ∙ ap (λ b. stands_for n v || b) (begins-first-letters words v (and-right (is_scheme (n ∷ ns)) (are_schemes words) h))
