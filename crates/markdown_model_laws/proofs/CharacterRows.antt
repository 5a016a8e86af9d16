-- Codes of texts: which begin a character, and readings that stop between two.
use Rattle.std.proofs.Common.{◌≡◌, ◌==◌, ◌||◌, nat_lt, ℕ, Bool, true, false, List, [], ◌∷◌, ◌++◌, Option, refl, ap, ◌∙◌, arith, rules}
use Rattle.std.specs.List.{list_all, list_any}
use Rattle.std.proofs.lemmas.Bool.{and_parts, eqb-true}
use Rattle.std.proofs.lemmas.Bool.Decides.{nat_tests}
use Rattle.markdown_content.specs.Codes.{Code}
use Rattle.markdown_model.specs.CodeTests.{is_value, is_among, is_later_byte}
use Rattle.markdown_model.specs.Grammar.{Reading, ◌>>=◌, ◌>>◌, gives, either, unless, if_next, provided, before, one, some, any_number, span}
use Rattle.markdown_model.proofs.DefinitionSteps.{span-all}
use Rattle.markdown_model.proofs.GivenByReadings.{IfGiven, given-map, given-both, given-bind, given-gives, given-passed, given-either, given-before, given-next, given-unless, given-one, given-some}
use Rattle.markdown_model.proofs.NoLinkInConstructs.{Yields, yields_any}
use Rattle.markdown_model.proofs.ReadingsCover.{Takes, takes_one, takes_some, takes_any_number}

-- Codes.

abbrev pub is_low : Code → Bool
is_low c = nat_lt c.value 128

pub low-early : (c : Code) → is_low c ≡ true → is_later_byte c ≡ false
low-early c h = grind (arith, nat_tests)

-- they do not begin with a later byte of a character
abbrev pub Early : List Code → Type 0
Early [] = Unit {0}
Early (c ∷ cs) = is_later_byte c ≡ false

-- no later byte follows an ASCII code
abbrev pub HasNoStrays : List Code → Type 0
HasNoStrays [] = Unit {0}
HasNoStrays (c ∷ cs) = (is_low c ≡ true → Early cs) × HasNoStrays cs

abbrev pub AllLow : List Code → Type 0
AllLow [] = Unit {0}
AllLow (c ∷ cs) = (is_low c ≡ true) × AllLow cs

-- some ASCII codes
abbrev pub Lows : List Code → Type 0
Lows [] = ⊥
Lows (c ∷ cs) = (is_low c ≡ true) × AllLow cs

-- the last is ASCII
abbrev pub EndsLow : List Code → Type 0
EndsLow [] = ⊥
EndsLow (c ∷ []) = is_low c ≡ true
EndsLow (c ∷ d ∷ cs) = EndsLow (d ∷ cs)

pub lows-all : (cs : List Code) → Lows cs → AllLow cs
lows-all [] h = tt
lows-all (c ∷ cs) h = h

pub all-early : (cs : List Code) → AllLow cs → Early cs
all-early [] h = tt
all-early (c ∷ cs) h = low-early c h.0

pub early-front : (xs ys : List Code) → Early (xs ++ ys) → Early xs
early-front [] ys h = tt
early-front (x ∷ xs) ys h = h

pub sound-back : (xs ys : List Code) → HasNoStrays (xs ++ ys) → HasNoStrays ys
sound-back [] ys h = h
sound-back (x ∷ xs) ys h = sound-back xs ys h.1

pub sound-front : (xs ys : List Code) → HasNoStrays (xs ++ ys) → HasNoStrays xs
sound-front [] ys h = tt
sound-front (x ∷ xs) ys h = ((λ l. early-front xs ys (h.0 l)), sound-front xs ys h.1)

-- behind ASCII codes no later byte stands
pub low-behind : (xs ys : List Code) → AllLow xs → HasNoStrays (xs ++ ys) → Early (xs ++ ys) → Early ys
low-behind [] ys l h e = e
low-behind (x ∷ xs) ys l h e = low-behind xs ys l.1 h.1 (h.0 l.0)

pub lows-behind : (xs ys : List Code) → Lows xs → HasNoStrays (xs ++ ys) → Early ys
lows-behind [] ys l h = absurd l
lows-behind (x ∷ xs) ys l h = low-behind xs ys l.1 h.1 (h.0 l.0)

pub ends-behind : (xs ys : List Code) → EndsLow xs → HasNoStrays (xs ++ ys) → Early ys
ends-behind [] ys l h = absurd l
ends-behind (x ∷ []) ys l h = h.0 l
ends-behind (x ∷ y ∷ xs) ys l h = ends-behind (y ∷ xs) ys l h.1

pub ends-cons : (c : Code) (cs : List Code) → EndsLow cs → EndsLow (c ∷ cs)
ends-cons c [] h = absurd h
ends-cons c (d ∷ cs) h = h

pub ends-more : (xs ys : List Code) → EndsLow ys → EndsLow (xs ++ ys)
ends-more [] ys h = h
ends-more (x ∷ xs) ys h = ends-cons x (xs ++ ys) (ends-more xs ys h)

pub all-join : (xs ys : List Code) → AllLow xs → AllLow ys → AllLow (xs ++ ys)
all-join [] ys h k = k
all-join (x ∷ xs) ys h k = (h.0, all-join xs ys h.1 k)

pub lows-ends : (cs : List Code) → Lows cs → EndsLow cs
lows-ends [] h = absurd h
lows-ends (c ∷ []) h = h.0
lows-ends (c ∷ d ∷ cs) h = lows-ends (d ∷ cs) h.1

-- Tests that ASCII codes alone pass.

abbrev pub IsLowTest : (Code → Bool) → Type 0
IsLowTest p = (c : Code) → p c ≡ true → is_low c ≡ true

pub value-low : (n : ℕ) → nat_lt n 128 ≡ true → IsLowTest (is_value n)
value-low n l c h = ap (λ v. nat_lt v 128) (eqb-true c.value n h) ∙ l

pub among-low : (ns : List ℕ) → list_all (λ n. nat_lt n 128) ns ≡ true → IsLowTest (is_among ns)
among-low [] l c h = cc
among-low (n ∷ ns) l c h = by_test (c.value == n) refl (among-low ns parts.1 c) h
  where
    parts : (nat_lt n 128 ≡ true) × (list_all (λ m. nat_lt m 128) ns ≡ true)
    parts = and_parts (nat_lt n 128) (list_all (λ m. nat_lt m 128) ns) l

    by_test : (b : Bool) → (c.value == n) ≡ b → (is_among ns c ≡ true → is_low c ≡ true) → (b || list_any (λ m. c.value == m) ns) ≡ true → is_low c ≡ true
    by_test true e more k = value-low n parts.0 c e
    by_test false e more k = more k

pub low-list : (p : Code → Bool) → IsLowTest p → (cs : List Code) → list_all p cs ≡ true → AllLow cs
low-list p test [] h = tt
low-list p test (c ∷ cs) h = let q = and_parts (p c) (list_all p cs) h in (test c q.0, low-list p test cs q.1)

-- Readings of ASCII codes.

pub one-lows : (p : Code → Bool) → IsLowTest p → Yields Lows (one p)
one-lows p test = record { at = given-one (λ _ x _. Lows x) p (λ c cs e. (test c e, tt)) }

pub some-lows : (p : Code → Bool) → IsLowTest p → Yields Lows (some p)
some-lows p test = record {
  at = λ cs. given-some (λ x _. AllLow x) (λ x _. Lows x) p cs (low-list p test (span p cs).0 (span-all p cs)) (λ c x rest h. h);
}

pub any-low : (p : Code → Bool) → IsLowTest p → Yields AllLow (any_number p)
unfolding any_number
any-low p test = record { at = λ cs. low-list p test (span p cs).0 (span-all p cs) }

-- Readings at sound codes: `from` says that no later byte stands at hand, `to` that none does behind.

abbrev pub Where : Bool → List Code → Type 0
Where true cs = Early cs
Where false cs = Unit {0}

abbrev pub ToSound : {A : Type 0} → Bool → (A → Type 0) → A → List Code → Type 0
ToSound to P x rest = P x × (HasNoStrays rest × Where to rest)

abbrev pub GoesTo : {A : Type 0} → Bool → (A → Type 0) → Option (A × List Code) → Type 0
GoesTo to P o = IfGiven (ToSound to P) o

pub record ReadsFrom {A : Type 0} (from to : Bool) (P : A → Type 0) (a : Reading A) : Type 0 where
  pub at : (cs : List Code) → HasNoStrays cs → Where from cs → GoesTo to P (a cs)

pub reads_bind : {A B : Type 0} (p q r : Bool) (Q : A → Type 0) (P : B → Type 0) (a : Reading A) (b : A → Reading B) → ReadsFrom p q Q a →
    ((x : A) → Q x → ReadsFrom q r P (b x)) → ReadsFrom p r P (a >>= b)
reads_bind p q r Q P a b ha hb =
    record { at = λ cs s w. given-bind (ToSound q Q) (ToSound r P) a b cs (ha.at cs s w) (λ x rest h. (hb x h.0).at rest h.1.0 h.1.1) }

module _ {A : Type 0} (P : A → Type 0) where
  pub reads_gives : (p : Bool) (x : A) → P x → ReadsFrom p p P (gives x)
  reads_gives p x h = record { at = λ cs s w. given-gives (ToSound p P) x cs (h, (s, w)) }

  module _ (p r : Bool) where
    pub reads_passed : (test : Bool) (b : Reading A) → ReadsFrom p r P b → ReadsFrom p r P (provided test >> b)
    reads_passed test b h = record { at = λ cs s w. given-passed (ToSound r P) test b cs (λ _. h.at cs s w) }

    pub reads_either : (a b : Reading A) → ReadsFrom p r P a → ReadsFrom p r P b → ReadsFrom p r P (either a b)
    reads_either a b h k = record { at = λ cs s w. given-either (ToSound r P) a b cs (h.at cs s w) (k.at cs s w) }

    pub reads_before : (a : Reading A) (test : List Code → Bool) → ReadsFrom p r P a → ReadsFrom p r P (before a test)
    reads_before a test h = record { at = λ cs s w. given-before (ToSound r P) a test cs (h.at cs s w) }

    pub reads_next : (t : Code → Bool) (a b : Reading A) → ReadsFrom p r P a → ReadsFrom p r P b → ReadsFrom p r P (if_next t a b)
    reads_next t a b h k = record { at = λ cs s w. given-next (ToSound r P) t a b cs (h.at cs s w) (k.at cs s w) }

    pub reads_unless : {B : Type 0} (a : Reading B) (b : Reading A) → ReadsFrom p r P b → ReadsFrom p r P (unless a b)
    reads_unless a b h = record { at = λ cs s w. given-unless (ToSound r P) a b cs (h.at cs s w) }

  -- where more is known in front, and less behind
  pub reads_weaker : (p r : Bool) (a : Reading A) → ReadsFrom p true P a → ReadsFrom p r P a
  reads_weaker p r a h = search (rules, given-map)

  pub reads_anywhere : (p r : Bool) (a : Reading A) → ReadsFrom false r P a → ReadsFrom p r P a
  reads_anywhere p r a h = record { at = λ cs s w. h.at cs s tt }

-- Readings of codes by what they take.

abbrev pub Starts : List Code → Type 0
Starts cs = Early cs × HasNoStrays cs

module _ (a : Reading (List Code)) (takes : Takes a) where
  -- what is known of the codes at hand as those that are given and those behind them
  by_parts : (from to : Bool) (P Q : List Code → Type 0) → Yields P a → ((xs ys : List Code) → HasNoStrays (xs ++ ys) → Where from (xs ++ ys) → P xs → Q xs × Where to ys)
      → ReadsFrom from to Q a
  by_parts from to P Q y split = grind (arith, given-both, sound-back)

  pub reads_lows : Yields Lows a → ReadsFrom false true Lows a
  reads_lows y = by_parts false true Lows Lows y (λ xs ys s w l. (l, lows-behind xs ys l s))

  pub reads_ends : Yields EndsLow a → ReadsFrom false true EndsLow a
  reads_ends y = by_parts false true EndsLow EndsLow y (λ xs ys s w l. (l, ends-behind xs ys l s))

  pub reads_some : (P : List Code → Type 0) → Yields P a → ReadsFrom false false P a
  reads_some P y = by_parts false false P P y (λ xs ys s w l. (l, tt))

  -- ASCII codes, or none
  pub reads_low : Yields AllLow a → ReadsFrom true true AllLow a
  reads_low y = by_parts true true AllLow AllLow y (λ xs ys s w l. (l, low-behind xs ys l s w))

  -- any codes
  pub reads_starts : ReadsFrom true false Starts a
  reads_starts =
      by_parts true false (λ _. Unit {0}) Starts (yields_any a) (λ xs ys s w l. ((early-front xs ys w, sound-front xs ys s), tt))

pub reads_one : (p : Code → Bool) → IsLowTest p → ReadsFrom false true Lows (one p)
reads_one p test = reads_lows (one p) (takes_one p) (one-lows p test)

pub reads_some_low : (p : Code → Bool) → IsLowTest p → ReadsFrom false true Lows (some p)
reads_some_low p test = reads_lows (some p) (takes_some p) (some-lows p test)

pub reads_any_low : (p : Code → Bool) → IsLowTest p → ReadsFrom true true AllLow (any_number p)
reads_any_low p test = reads_low (any_number p) (takes_any_number p) (any-low p test)
