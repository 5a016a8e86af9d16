-- Readings of codes among which no line ending stands.
use Rattle.std.proofs.Common.{◌≡◌, ◌≢◌, ◌+◌, ℕ, Bool, true, false, ◌&&◌, ◌||◌, ◌==◌, nat_lt, List, [], ◌∷◌, ◌++◌, Option, refl, sym, ap, ◌∙◌, arith}
use Rattle.std.specs.List.{list_any}
use Rattle.std.proofs.lemmas.Bool.{both_ways, eqb-true, or_parts, or_from}
use Rattle.std.proofs.lemmas.Bool.Decides.{nat_tests}
use Rattle.std.proofs.lemmas.List.Folds.{list_any-append}
use Rattle.markdown_content.specs.Codes.{Code, is_line_ending}
use Rattle.markdown_model.specs.CodeTests.{is_letter}
use Rattle.markdown_model.specs.Grammar.{Reading, one, some, any_number, span, with_first, word_of, ◌then_◌, repeatedly, escaped_from}
use Rattle.markdown_model.specs.GfmAutolinkLiteral.{letters, one_word_of}
use Rattle.markdown_model.proofs.GivenByReadings.{IfGiven, given-map, given-one, given-some, given-then, given-repeatedly, given-first, given-word, given-escaped}
use Rattle.markdown_model.proofs.NoLinkInConstructs.{PassesValue, Yields, yields_bind, yields_gives, yields_either}
use Rattle.markdown_model.proofs.GrammarSteps.{and-left, and-right}
use Rattle.markdown_model.specs.CodeLines.{IsLine, IsSomeLine, IsOnLine}

-- Codes.

pub line-both : (xs ys : List Code) → IsLine (xs ++ ys) → IsLine xs × IsLine ys
line-both xs ys h =
    let p = or_parts (list_any is_line_ending xs) (list_any is_line_ending ys) (sym (list_any-append is_line_ending xs ys) ∙ h) in (p.0, p.1)

pub line-join : (xs ys : List Code) → IsLine xs → IsLine ys → IsLine (xs ++ ys)
line-join xs ys h k =
    list_any-append is_line_ending xs ys ∙ or_from (list_any is_line_ending xs) (list_any is_line_ending ys) h k

pub on-line : (cs : List Code) → IsSomeLine cs → IsOnLine cs
on-line [] h = h.0 refl
on-line (c ∷ []) h = tt
on-line (c ∷ d ∷ cs) h = h.1

pub filled : (c : Code) (cs : List Code) → c ∷ cs ≢ []
filled c cs e = cc

-- some codes, and any number of them
pub some-join : (xs ys : List Code) → xs ≢ [] → xs ++ ys ≢ []
some-join [] ys h = absurd (h refl)
some-join (x ∷ xs) ys h = filled x (xs ++ ys)

-- Tests that no line ending passes.

-- a code with the value of a line ending
abbrev pub as_ending : Code → Code
as_ending c = record { value = 10; start = c.start; stop = c.stop }

abbrev pub Skips : (Code → Bool) → Type 0
Skips p = (c : Code) → p (as_ending c) ≡ false

pub not-ending : (p : Code → Bool) → Skips p → (c : Code) → p c ≡ true → is_line_ending c ≡ false
not-ending p skips c h = by_test (is_line_ending c) refl
  where
    by_test : (b : Bool) → is_line_ending c ≡ b → is_line_ending c ≡ false
    by_test true e =
        absurd (both_ways (p c) (ap p (λ i. record { value = eqb-true c.value 10 e i; start = c.start; stop = c.stop }) ∙ skips c) h)
    by_test false e = e

pub line-first : (c : Code) (cs : List Code) → is_line_ending c ≡ false → IsLine cs → IsLine (c ∷ cs)
line-first c cs h k = ap (λ b. b || list_any is_line_ending cs) h ∙ k

pub line-span : (p : Code → Bool) → Skips p → (cs : List Code) → IsLine (span p cs).0
line-span p skips [] = refl
line-span p skips (c ∷ cs) = by_test (p c) refl (line-span p skips cs)
  where
    by_test : (b : Bool) → p c ≡ b → IsLine (span p cs).0
        → (let s : List Code × List Code = elim b [ true ↦ (c ∷ (span p cs).0, (span p cs).1) | false ↦ ([], c ∷ cs) ] in IsLine s.0)
    by_test true h k = line-first c (span p cs).0 (not-ending p skips c h) k
    by_test false h k = refl

-- Readings.

pub yields-weaker : {A : Type 0} (P Q : A → Type 0) → ((x : A) → P x → Q x) → (a : Reading A) → Yields P a → Yields Q a
yields-weaker P Q w a h = record { at = λ cs. given-map (λ x _. P x) (λ x _. Q x) (a cs) (λ x rest k. w x k) (h.at cs) }

pub some-any : (a : Reading (List Code)) → Yields IsSomeLine a → Yields IsLine a
some-any a h = yields-weaker IsSomeLine IsLine (λ cs k. k.1) a h

-- one code, whatever it is
abbrev pub IsOneCode : List Code → Type 0
IsOneCode [] = ⊥
IsOneCode (c ∷ []) = Unit {0}
IsOneCode (c ∷ d ∷ cs) = ⊥

pub one-some : (cs : List Code) → IsOneCode cs → cs ≢ []
one-some [] h = absurd h
one-some (c ∷ cs) h = filled c cs

pub one-one : (p : Code → Bool) → Yields IsOneCode (one p)
one-one p = record { at = given-one (λ _ x _. IsOneCode x) p (λ c cs e. tt) }

pub one-line : (p : Code → Bool) → Skips p → Yields IsSomeLine (one p)
one-line p skips =
    record { at = given-one (λ _ x _. IsSomeLine x) p (λ c cs e. (filled c [], line-first c [] (not-ending p skips c e) refl)) }

pub some-line : (p : Code → Bool) → Skips p → Yields IsSomeLine (some p)
some-line p skips =
    record { at = λ cs. given-some (λ x _. IsLine x) (λ x _. IsSomeLine x) p cs (line-span p skips cs) (λ c x rest h. (filled c x, h)) }

pub any-line : (p : Code → Bool) → Skips p → Yields IsLine (any_number p)
unfolding any_number
any-line p skips = record { at = λ cs. line-span p skips cs }

pub then-line : (a b : Reading (List Code)) → Yields IsLine a → Yields IsLine b → Yields IsLine (a then_ b)
then-line a b ha hb =
    record { at = λ cs. given-then (λ x _. IsLine x) (λ x _. IsLine x) a b cs (ha.at cs) (λ x rest h. given-map (λ y _. IsLine y) (λ y _. IsLine (x ++ y)) (b rest) (λ y left k. line-join x y h k) (hb.at rest)) }

pub repeatedly-line : (a : Reading (List Code)) → Yields IsLine a → Yields IsLine (repeatedly a)
repeatedly-line a h =
    record { at = given-repeatedly (λ _ x _. IsLine x) (λ cs. refl) (λ cs x rest y left k l. line-join x y k l) a h.at }

pub with-first-line : (c : Code) (r : Option (List Code × List Code)) → is_line_ending c ≡ false → PassesValue IsLine r
    → PassesValue IsLine (with_first c r)
with-first-line c r h k = given-first (λ x _. IsLine x) (λ x _. IsLine x) c r (λ x rest l. line-first c x h l) k

-- the values of a word
abbrev is_ending_value : ℕ → Bool
is_ending_value n = n == 10

abbrev OfLineWord : List ℕ → List Code → List Code → Type 0
OfLineWord ns x rest = (ns ≢ [] → x ≢ []) × (list_any is_ending_value ns ≡ false → IsLine x)

word-given : (ns : List ℕ) (cs : List Code) → IfGiven (OfLineWord ns) (word_of ns cs)
word-given =
    given-word (λ ns cs. OfLineWord ns) (λ cs. (λ e. absurd (e refl), λ h. refl)) (λ n ns c cs x rest v k. (
      λ e. filled c x,
      λ h.
          let p = or_parts (n == 10) (list_any is_ending_value ns) h in line-first c x (ap (λ v. v == 10) (eqb-true c.value n v) ∙ p.0) (k.1 p.1),
    ))

-- a word without a line ending
pub word-some : (n : ℕ) (ns : List ℕ) → list_any (λ k. k == 10) (n ∷ ns) ≡ false → Yields IsSomeLine (word_of (n ∷ ns))
word-some n ns h =
    record { at = λ cs. given-map (OfLineWord (n ∷ ns)) (λ x _. IsSomeLine x) (word_of (n ∷ ns) cs) (λ x rest k. (k.0 (λ e. cc), k.1 h)) (word-given (n ∷ ns) cs) }

-- letters of a word, none of which is a line ending in either case
abbrev AreLineLetters : List ℕ → Type 0
AreLineLetters [] = Unit {0}
AreLineLetters (n ∷ ns) = Skips (λ c. c.value == n || (is_letter c && c.value + 32 == n)) × AreLineLetters ns

letters-line : (ns : List ℕ) → AreLineLetters ns → Yields IsLine (letters ns)
unfolding letters
letters-line [] h = yields_gives _ [] refl
letters-line (n ∷ ns) h =
    yields_bind IsSomeLine _ _ _ (one-line (λ c. c.value == n || (is_letter c && c.value + 32 == n)) h.0) λ a k. yields_bind IsLine _ _ _ (letters-line ns h.1) λ b l. yields_gives _ _ (line-join a b k.1 l)

-- a word of one letter at least
letters-some : (n : ℕ) (ns : List ℕ) → AreLineLetters (n ∷ ns) → Yields IsSomeLine (letters (n ∷ ns))
unfolding letters
letters-some n ns h =
    yields_bind IsSomeLine _ _ _ (one-line (λ c. c.value == n || (is_letter c && c.value + 32 == n)) h.0) λ a k.
    yields_bind IsLine _ _ _ (letters-line ns h.1) λ b l. yields_gives _ _ (some-join a b k.0, line-join a b k.1 l)

-- one of some words, none of which is empty, with values above the controls
abbrev are_above : List ℕ → Bool
are_above [] = true
are_above (n ∷ ns) = nat_lt 31 n && are_above ns

above-letters : (ns : List ℕ) → are_above ns ≡ true → AreLineLetters ns
above-letters [] h = tt
above-letters (n ∷ ns) h = ((λ c. skips n c (and-left (nat_lt 31 n) (are_above ns) h)), above-letters ns (and-right (nat_lt 31 n) (are_above ns) h))
  where
    skips : (m : ℕ) (c : Code) → nat_lt 31 m ≡ true →
        (as_ending c).value == m || (is_letter (as_ending c) && (as_ending c).value + 32 == m) ≡ false
    skips m c k = grind (arith, nat_tests)

abbrev pub are_words : List (List ℕ) → Bool
are_words [] = true
are_words ([] ∷ words) = false
are_words ((n ∷ ns) ∷ words) = are_above (n ∷ ns) && are_words words

pub one-word-some : (words : List (List ℕ)) → are_words words ≡ true → Yields IsSomeLine (one_word_of words)
unfolding one_word_of
one-word-some [] h = record { at = λ cs. tt }
one-word-some ([] ∷ words) h = absurd (no h)
  where
    no : false ≡ true → ⊥
    no e = cc
one-word-some ((n ∷ ns) ∷ words) h =
    yields_either _ _ _ (letters-some n ns (above-letters (n ∷ ns) (and-left (are_above (n ∷ ns)) (are_words words) h)))
    (one-word-some words (and-right (are_above (n ∷ ns)) (are_words words) h))

-- Up to a code that ends the text, with escapes: neither what is escaped nor what neither ends nor refuses it is a line ending.
module _ (stop takes refuses : Code → Bool) (skips : Skips takes) (others : (c : Code) → stop c ≡ false → refuses c ≡ false → is_line_ending c ≡ false) where
  pub escaped-lines : (slash : Bool) (cs : List Code) → PassesValue IsLine (escaped_from stop takes refuses slash cs)
  escaped-lines =
      given-escaped (λ _ x _. IsLine x) stop takes refuses (λ c cs s. refl) (λ c cs x rest t k. line-first c x (not-ending takes skips c t) k) (λ c cs x rest s r k. line-first c x (others c s r) k)
