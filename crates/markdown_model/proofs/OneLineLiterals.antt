-- Literals stand on a line, as whitespace stands at each line ending.
use Rattle.std.proofs.Common.{◌≡◌, ◌≢◌, ℕ, ◌||◌, Bool, true, false, List, [], ◌∷◌, ◌++◌, Option, Some, None, refl, ap, ◌∙◌}
use Rattle.std.proofs.lemmas.Bool.{both_ways, eqb-true}
use Rattle.markdown_content.specs.Codes.{Code, is_line_ending}
use Rattle.markdown_util.specs.Neighbours.{after_index, class_of}
use Rattle.markdown_util.specs.declared.util.char.Kind.{Kind}
use Rattle.markdown_model.specs.CodeLines.{IsLine, AreSpaced}
use Rattle.markdown_model.specs.GfmAutolinkLiteral.{is_other, is_space, is_domain, is_domain_code, domain_from, domain, count_if, ends_path, path_from, path}
use Rattle.markdown_model.proofs.NoLinkInConstructs.{PassesValue, Yields}
use Rattle.markdown_model.proofs.OneLineReadings.{as_ending, filled, line-first, line-join}

pub spaced-both : (bytes : List ℕ) (xs ys : List Code) → AreSpaced bytes (xs ++ ys) →
    AreSpaced bytes xs × AreSpaced bytes ys
spaced-both bytes [] ys h = (tt, h)
spaced-both bytes (c ∷ xs) ys h = let r = spaced-both bytes xs ys h.1 in ((h.0, r.0), r.1)

other-space : (k : Kind) → is_space k ≡ true → is_other k ≡ false
other-space Kind.Whitespace h = refl
other-space Kind.Punctuation h = refl
other-space Kind.Other h = cc

ending-is : (c : Code) → is_line_ending c ≡ true → c ≡ as_ending c
ending-is c e = λ i. record { value = eqb-true c.value 10 e i; start = c.start; stop = c.stop }

-- Codes of a line, where the document has whitespace at each line ending.
module _ (bytes : List ℕ) where
  abbrev pub IsLineThere : List Code → Type 0
  IsLineThere cs = AreSpaced bytes cs → IsLine cs

  abbrev pub IsSomeLineThere : List Code → Type 0
  IsSomeLineThere cs = (cs ≢ []) × IsLineThere cs

  pub join-there : (xs ys : List Code) → IsLineThere xs → IsLineThere ys → IsLineThere (xs ++ ys)
  join-there xs ys h k l = let p = spaced-both bytes xs ys l in line-join xs ys (h p.0) (k p.1)

module _ (bytes : List ℕ) (end : ℕ) where
  abbrev class_at : Code → Kind
  class_at c = class_of (after_index bytes c.start.index)

  domain-stops : (c : Code) (cs : List Code) → is_line_ending c ≡ true → is_space (class_at c) ≡ true
      → is_domain_code bytes end (c ∷ cs) ≡ false
  domain-stops c cs e h =
      ap (λ (x : Code). is_domain_code bytes end (x ∷ cs)) (ending-is c e) ∙ other-space (class_at c) h

  domain-lines : (cs : List Code) → AreSpaced bytes (domain_from bytes end cs).0 → IsLine (domain_from bytes end cs).0
  domain-lines [] h = refl
  domain-lines (c ∷ cs) h = by_test (is_domain_code bytes end (c ∷ cs)) refl h (domain-lines cs)
    where
      no-ending : is_domain_code bytes end (c ∷ cs) ≡ true → (is_line_ending c ≡ true → is_space (class_at c) ≡ true)
          → (b : Bool) → is_line_ending c ≡ b → is_line_ending c ≡ false
      no-ending e k true f = absurd (both_ways (is_domain_code bytes end (c ∷ cs)) (domain-stops c cs f (k f)) e)
      no-ending e k false f = f

      by_test : (b : Bool) → is_domain_code bytes end (c ∷ cs) ≡ b
          → AreSpaced bytes (let s : List Code × List Code = elim b [ true ↦ (c ∷ (domain_from bytes end cs).0, (domain_from bytes end cs).1) | false ↦ ([], c ∷ cs) ] in s.0) → (AreSpaced bytes (domain_from bytes end cs).0 → IsLine (domain_from bytes end cs).0)
          → IsLine (let s : List Code × List Code = elim b [ true ↦ (c ∷ (domain_from bytes end cs).0, (domain_from bytes end cs).1) | false ↦ ([], c ∷ cs) ] in s.0)
      by_test true e k more =
          line-first c (domain_from bytes end cs).0 (no-ending e k.0 (is_line_ending c) refl) (more k.1)
      by_test false e k more = refl

  path-stops : (o k : ℕ) (c : Code) (cs : List Code) → is_line_ending c ≡ true → is_space (class_at c) ≡ true
      → ends_path bytes end o k (c ∷ cs) ≡ true
  path-stops o k c cs e h = ap (λ (x : Code). ends_path bytes end o k (x ∷ cs)) (ending-is c e) ∙ ap (λ b. b || false) h

  path-lines : (o k : ℕ) (cs : List Code) → AreSpaced bytes (path_from bytes end o k cs).0 →
      IsLine (path_from bytes end o k cs).0
  path-lines o k [] h = refl
  path-lines o k (c ∷ cs) h = by_test (ends_path bytes end o k (c ∷ cs)) refl h (path-lines (count_if 40 c o) (count_if 41 c k) cs)
    where
      no-ending : ends_path bytes end o k (c ∷ cs) ≡ false → (is_line_ending c ≡ true → is_space (class_at c) ≡ true)
          → (b : Bool) → is_line_ending c ≡ b → is_line_ending c ≡ false
      no-ending e h true f = absurd (both_ways (ends_path bytes end o k (c ∷ cs)) e (path-stops o k c cs f (h f)))
      no-ending e h false f = f

      by_test : (b : Bool) → ends_path bytes end o k (c ∷ cs) ≡ b
          → AreSpaced bytes (let s : List Code × List Code = elim b [ true ↦ ([], c ∷ cs) | false ↦ (c ∷ (path_from bytes end (count_if 40 c o) (count_if 41 c k) cs).0, (path_from bytes end (count_if 40 c o) (count_if 41 c k) cs).1) ] in s.0) → (AreSpaced bytes (path_from bytes end (count_if 40 c o) (count_if 41 c k) cs).0 → IsLine (path_from bytes end (count_if 40 c o) (count_if 41 c k) cs).0)
          → IsLine (let s : List Code × List Code = elim b [ true ↦ ([], c ∷ cs) | false ↦ (c ∷ (path_from bytes end (count_if 40 c o) (count_if 41 c k) cs).0, (path_from bytes end (count_if 40 c o) (count_if 41 c k) cs).1) ] in s.0)
      by_test true e h more = refl
      by_test false e h more =
          line-first c (path_from bytes end (count_if 40 c o) (count_if 41 c k) cs).0 (no-ending e h.0 (is_line_ending c) refl) (more h.1)

  -- a domain holds a code
  pub domain-line : Yields (IsSomeLineThere bytes) (domain bytes end)
  unfolding domain
  domain-line = record { at = λ cs. by_front (domain_from bytes end cs) (domain-lines cs) }
    where
      by_test : (c : Code) (front rest : List Code) (b : Bool) → IsLineThere bytes (c ∷ front)
          → PassesValue (IsSomeLineThere bytes) (elim b as (λ _. Option (List Code × List Code)) [ true ↦ Some (c ∷ front, rest) | false ↦ None ])
      by_test c front rest true h = (filled c front, h)
      by_test c front rest false h = tt

      by_front : (s : List Code × List Code) → IsLineThere bytes s.0
          → PassesValue (IsSomeLineThere bytes) (elim (is_domain s.0) as (λ _. Option (List Code × List Code)) [ true ↦ Some s | false ↦ None ])
      by_front ([], rest) h = tt
      by_front (c ∷ front, rest) h = by_test c front rest (is_domain (c ∷ front)) h

  pub path-line : Yields (IsLineThere bytes) (path bytes end)
  unfolding path
  path-line = record { at = λ cs. path-lines 0 0 cs }
