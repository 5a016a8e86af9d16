-- Readings from one code on: what the definitions say, step by step.
use Rattle.std.proofs.Common.{◌≡◌, ℕ, zero, suc, ◌+◌, ◌-◌, ◌≤◌, Bool, true, false, ◌&&◌, ◌||◌, not, List, [], ◌∷◌, ◌++◌, length, take, reverse, refl, sym, ◌∙◌, ap, subst, arith, Option, Some, None}
use Rattle.std.specs.List.{list_all}
use Rattle.std.proofs.lemmas.List.{length-append}
use Rattle.std.proofs.Math.Seq.{take-append_seam}
use Rattle.markdown_event.specs.declared.event.Name.{Name}
use Rattle.markdown_content.specs.Codes.{Code, is_line_ending}
use Rattle.markdown_content.specs.Tree.{Forest, leaf, ◌⊕◌}
use Rattle.markdown_model.specs.CodeTests.{next_is, last_code}
use Rattle.markdown_model.specs.Grammar.{Reading, span, repeated, repeatedly}
use Rattle.markdown_model.specs.TextLines.{joins, onto_stretch, stretches, lines_of}
use Rattle.markdown_model.specs.GfmEmailLiteral.{is_local, is_xmpp, email_protocol, email_domain, email_at, email_leaves}
use Rattle.markdown_model.specs.Elements.{code_before}
use Rattle.markdown_model.proofs.ReadingsCover.{At, Covers}
use Rattle.markdown_model.proofs.ReadsACode.{Left, Consumes}
use Rattle.markdown_model.proofs.LiteralCodes.{domain_of_split}

-- Spans of codes.

pub span-all : (p : Code → Bool) (cs : List Code) → list_all p (span p cs).0 ≡ true
span-all p [] = refl
span-all p (c ∷ cs) = by_test (p c) refl (span-all p cs)
  where
    by_test : (b : Bool) → p c ≡ b → list_all p (span p cs).0 ≡ true
        → list_all p ((elim b as (λ _. List Code × List Code) [ true ↦ (c ∷ (span p cs).0, (span p cs).1) | false ↦ ([], c ∷ cs) ]).0) ≡ true
    by_test true e h = (λ i. e i && h i)
    by_test false e h = refl

pub span-stops : (p : Code → Bool) (cs : List Code) → next_is p (span p cs).1 ≡ false
span-stops p [] = refl
span-stops p (c ∷ cs) = by_test (p c) refl (span-stops p cs)
  where
    by_test : (b : Bool) → p c ≡ b → next_is p (span p cs).1 ≡ false
        → next_is p ((elim b as (λ _. List Code × List Code) [ true ↦ (c ∷ (span p cs).0, (span p cs).1) | false ↦ ([], c ∷ cs) ]).1) ≡ false
    by_test true e h = h
    by_test false e h = e

-- two tests that agree span alike
pub span-agrees : (p q : Code → Bool) → ((c : Code) → p c ≡ q c) → (cs : List Code) → span p cs ≡ span q cs
span-agrees p q same [] = refl
span-agrees p q same (c ∷ cs) =
    λ i. elim (same c i) as (λ _. List Code × List Code) [ true ↦ (c ∷ (span-agrees p q same cs i).0, (span-agrees p q same cs i).1) | false ↦ ([], c ∷ cs) ]

-- Stretches: the first one goes on as long as codes join its first code.

abbrev joined_by : Bool → Bool → Bool → Bool → Bool
joined_by a b x y = not (a || b) && ((x && y) || not (x || y))

-- codes that join have the same codes that join them
joins-same : (p : Code → Bool) (c d : Code) → joins p c d ≡ true → (e : Code) → joins p d e ≡ joins p c e
joins-same p c d h e = by_tests (is_line_ending c) (is_line_ending d) (is_line_ending e) (p c) (p d) (p e) h
  where
    by_tests : (a b l x y z : Bool) → joined_by a b x y ≡ true → joined_by b l y z ≡ joined_by a l x z
    by_tests true b l x y z k = absurd (cc)
    by_tests false true l x y z k = absurd (cc)
    by_tests false false l true true z k = refl
    by_tests false false l false false z k = refl
    by_tests false false l true false z k = absurd (cc)
    by_tests false false l false true z k = absurd (cc)

pub stretches-next : (p : Code → Bool) (c : Code) (cs : List Code) →
    stretches p (c ∷ cs) ≡ (c ∷ (span (joins p c) cs).0) ∷ stretches p (span (joins p c) cs).1
stretches-next p c [] = refl
stretches-next p c (d ∷ ds) = ap (onto_stretch p c) (stretches-next p d ds) ∙ by_test (joins p c d) refl (sym (stretches-next p d ds))
  where
    by_test : (b : Bool) → joins p c d ≡ b → (d ∷ (span (joins p d) ds).0) ∷ stretches p (span (joins p d) ds).1 ≡ stretches p (d ∷ ds)
        → elim b as (λ _. List (List Code)) [ true ↦ (c ∷ d ∷ (span (joins p d) ds).0) ∷ stretches p (span (joins p d) ds).1 | false ↦ (c ∷ []) ∷ (d ∷ (span (joins p d) ds).0) ∷ stretches p (span (joins p d) ds).1 ]
        ≡ (let s : List Code × List Code = elim b [ true ↦ (d ∷ (span (joins p c) ds).0, (span (joins p c) ds).1) | false ↦ ([], d ∷ ds) ] in (c ∷ s.0) ∷ stretches p s.1)
    by_test true e h =
        λ i. (c ∷ d ∷ (span-agrees (joins p d) (joins p c) (joins-same p c d e) ds i).0) ∷ stretches p (span-agrees (joins p d) (joins p c) (joins-same p c d e) ds i).1
    by_test false e h = ap (λ x. (c ∷ []) ∷ x) h

-- Lines, from the code at hand on.

abbrev pub is_in_line : Code → Bool
is_in_line c = not (is_line_ending c)

-- a line ending is a stretch of its own
pub lines_of-ending : (c : Code) (cs : List Code) → is_line_ending c ≡ true → lines_of (c ∷ cs) ≡ (c ∷ []) ∷ lines_of cs
lines_of-ending c cs h = stretches-next (λ x. true) c cs ∙ (λ i. (c ∷ (nothing cs i).0) ∷ lines_of (nothing cs i).1)
  where
    joins_none : (a b : Bool) → a ≡ true → joined_by a b true true ≡ false
    joins_none true b e = refl
    joins_none false b e = absurd (cc)

    nothing : (ds : List Code) → span (joins (λ x. true) c) ds ≡ ([], ds)
    nothing [] = refl
    nothing (d ∷ ds) =
        λ i. elim (joins_none (is_line_ending c) (is_line_ending d) h i) as (λ _. List Code × List Code) [ true ↦ (d ∷ (span (joins (λ x. true) c) ds).0, (span (joins (λ x. true) c) ds).1) | false ↦ ([], d ∷ ds) ]

-- another code begins a stretch up to the next line ending
pub lines_of-line : (c : Code) (cs : List Code) → is_line_ending c ≡ false →
    lines_of (c ∷ cs) ≡ (c ∷ (span is_in_line cs).0) ∷ lines_of (span is_in_line cs).1
lines_of-line c cs h = stretches-next (λ x. true) c cs ∙ (λ i. (c ∷ (alike i).0) ∷ lines_of (alike i).1)
  where
    joins_line : (a b : Bool) → a ≡ false → joined_by a b true true ≡ not b
    joins_line true b e = absurd (cc)
    joins_line false true e = refl
    joins_line false false e = refl

    alike : span (joins (λ x. true) c) cs ≡ span is_in_line cs
    alike = span-agrees (joins (λ x. true) c) is_in_line (λ d. joins_line (is_line_ending c) (is_line_ending d) h) cs

-- Repetition: as often as there are codes is as often as it holds.

-- what was read, and then what the rounds after it read
abbrev pub and_then : Reading (List Code) → List Code → Option (List Code × List Code) → Option (List Code × List Code)
and_then rounds cs None = Some ([], cs)
and_then rounds cs (Some x) = elim (rounds x.1) [ None ↦ Some x | Some y ↦ Some (x.0 ++ y.0, y.1) ]

module _ (a : Reading (List Code)) (takes : Consumes 1 a) where
  -- more rounds than codes change nothing
  pub repeated-more : (n m : ℕ) (cs : List Code) → length cs ≤ n → length cs ≤ m → repeated n a cs ≡ repeated m a cs
  unfolding repeated
  repeated-more zero zero cs h k = refl
  repeated-more zero (suc m) cs h k = by_answer (a cs) (takes.at cs)
    where
      by_answer : (r : Option (List Code × List Code)) → Left 1 cs r
          → ◌≡◌ {A = Option (List Code × List Code)} (Some ([], cs)) (and_then (repeated m a) cs r)
      by_answer None l = refl
      by_answer (Some x) l = absurd (omega arith)
  repeated-more (suc n) zero cs h k = by_answer (a cs) (takes.at cs)
    where
      by_answer : (r : Option (List Code × List Code)) → Left 1 cs r
          → and_then (repeated n a) cs r ≡ Some ([], cs)
      by_answer None l = refl
      by_answer (Some x) l = absurd (omega arith)
  repeated-more (suc n) (suc m) cs h k = by_answer (a cs) (takes.at cs) (λ ds. repeated-more n m ds)
    where
      by_answer : (r : Option (List Code × List Code)) → Left 1 cs r → ((ds : List Code) → length ds ≤ n → length ds ≤ m → repeated n a ds ≡ repeated m a ds)
          → and_then (repeated n a) cs r
          ≡ and_then (repeated m a) cs r
      by_answer None l more = refl
      by_answer (Some x) l more =
          ap (λ z. elim z as (λ _. Option (List Code × List Code)) [ None ↦ Some x | Some y ↦ Some (x.0 ++ y.0, y.1) ]) (more x.1 (omega arith) (omega arith))

  -- one round, and the rounds after it
  pub repeatedly-next : (cs : List Code)
      → repeatedly a cs ≡ and_then (repeatedly a) cs (a cs)
  unfolding repeatedly repeated
  repeatedly-next cs = repeated-more (length cs) (suc (length cs)) cs (omega arith) (omega arith) ∙ by_answer (a cs) (takes.at cs)
    where
      by_answer : (r : Option (List Code × List Code)) → Left 1 cs r
          → and_then (repeated (length cs) a) cs r
          ≡ and_then (repeatedly a) cs r
      by_answer None l = refl
      by_answer (Some x) l =
          ap (λ z. elim z as (λ _. Option (List Code × List Code)) [ None ↦ Some x | Some y ↦ Some (x.0 ++ y.0, y.1) ]) (repeated-more (length cs) (length x.1) x.1 (omega arith) (omega arith))

-- it always holds
pub record Holds (o : Option (List Code × List Code)) : Type 0 where
  pub codes : List Code
  pub rest : List Code
  pub is : o ≡ Some (codes, rest)

pub repeated-holds : (a : Reading (List Code)) (n : ℕ) (cs : List Code) → Holds (repeated n a cs)
unfolding repeated
repeated-holds a zero cs = record { codes = []; rest = cs; is = refl }
repeated-holds a (suc n) cs = by_answer (a cs)
  where
    by_answer : (r : Option (List Code × List Code)) → Holds (and_then (repeated n a) cs r)
    by_answer None = record { codes = []; rest = cs; is = refl }
    by_answer (Some x) =
        elim (repeated n a x.1) as (λ z. Holds (elim z as (λ _. Option (List Code × List Code)) [ None ↦ Some x | Some y ↦ Some (x.0 ++ y.0, y.1) ])) [
          | None ↦ record { codes = x.0; rest = x.1; is = refl }
          | Some y ↦ record { codes = x.0 ++ y.0; rest = y.1; is = refl }
        ]

pub repeatedly-holds : (a : Reading (List Code)) (cs : List Code) → Holds (repeatedly a cs)
unfolding repeatedly
repeatedly-holds a cs = repeated-holds a (length cs) cs

-- The code before.

pub code_before-append : (xs rest : List Code) → code_before (xs ++ rest) rest ≡ last_code xs
code_before-append xs rest = ap (λ n. last_code (take n (xs ++ rest))) count ∙ ap last_code (take-append_seam xs rest)
  where
    count : length (xs ++ rest) - length rest ≡ length xs
    count = omega (arith, length-append xs rest)

-- Emails: more steps than codes change nothing.

-- the codes after a literal are no more than those after its `@`
abbrev IsShorter : List Code → Option (List Code × Forest × List Code) → Type 0
IsShorter after None = Unit {0}
IsShorter after (Some r) = length r.2 ≤ length after

email_shortens : (before : List Code) (at : Code) (after : List Code) → IsShorter after (email_at before at after)
unfolding email_at
email_shortens before at after = by_test _
  where
    domain : List Code × List Code
    domain = email_domain (is_xmpp (email_protocol (span is_local before).1).0) after

    protocol : Name × List Code × List Code
    protocol = email_protocol (span is_local before).1

    by_test : (b : Bool) →
        IsShorter after (elim b [ true ↦ Some (reverse protocol.2, leaf protocol.0 (reverse ((span is_local before).0 ++ protocol.1) ++ at ∷ domain.0), domain.1) | false ↦ None ])
    by_test true =
        omega (arith, length-append domain.0 domain.1, ap length (domain_of_split (is_xmpp protocol.0) after))
    by_test false = tt

pub email_leaves-more : (n m : ℕ) (before cs : List Code) → length cs ≤ n → length cs ≤ m →
    email_leaves n before cs ≡ email_leaves m before cs
unfolding email_leaves
email_leaves-more n m before [] h k = refl
email_leaves-more zero m before (c ∷ cs) h k = absurd (omega arith)
email_leaves-more (suc n) zero before (c ∷ cs) h k = absurd (omega arith)
email_leaves-more (suc n) (suc m) before (c ∷ cs) h k = by_answer (email_at before c cs) (email_shortens before c cs) (email_leaves-more n m)
  where
    by_answer : (r : Option (List Code × Forest × List Code)) → IsShorter cs r
        → ((front ds : List Code) → length ds ≤ n → length ds ≤ m → email_leaves n front ds ≡ email_leaves m front ds)
        → elim r as (λ _. Forest) [ None ↦ email_leaves n (c ∷ before) cs | Some x ↦ leaf Name.Data x.0 ⊕ x.1 ⊕ email_leaves n [] x.2 ]
        ≡ elim r as (λ _. Forest) [ None ↦ email_leaves m (c ∷ before) cs | Some x ↦ leaf Name.Data x.0 ⊕ x.1 ⊕ email_leaves m [] x.2 ]
    by_answer None l more = more (c ∷ before) cs (omega arith) (omega arith)
    by_answer (Some x) l more = ap (λ z. leaf Name.Data x.0 ⊕ x.1 ⊕ z) (more [] x.2 (omega arith) (omega arith))

-- What was read, and how much.

pub read-codes : {A : Type 0} (f : A → List Code) (a : Reading A) → Covers f [] a → (cs rest : List Code) (x : A) →
    a cs ≡ Some (x, rest) → cs ≡ f x ++ rest
read-codes {A} f a h cs rest x e = sym (at_some (a cs) e (h.at cs))
  where
    at_some : (r : Option (A × List Code)) → r ≡ Some (x, rest) → At f [] cs r → f x ++ rest ≡ cs
    at_some r k z = subst (λ y. At f [] cs y) k z

pub read-shorter : {A : Type 0} (n : ℕ) (a : Reading A) → Consumes n a → (cs rest : List Code) (x : A) →
    a cs ≡ Some (x, rest) → n + length rest ≤ length cs
read-shorter {A} n a h cs rest x e = at_some (a cs) e (h.at cs)
  where
    at_some : (r : Option (A × List Code)) → r ≡ Some (x, rest) → Left n cs r → n + length rest ≤ length cs
    at_some r k z = subst (λ y. Left n cs y) k z
