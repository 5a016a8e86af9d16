-- Texts in which a backslash escapes: what their reading gives, by the number of backslashes before each code.
use Rattle.std.proofs.Common.{◌≡◌, ◌==◌, ◌&&◌, ◌||◌, not, Bool, true, false, Some, None, List, [], ◌∷◌, ◌++◌, length, reverse, refl, sym, ap, subst, ◌∙◌, arith}
use Rattle.std.proofs.lemmas.Bool.{or_right, or_left}
use Rattle.std.proofs.lemmas.List.{reverse-append, reverse-reverse}
use Rattle.markdown_content.specs.Codes.{Code}
use Rattle.markdown_model.specs.CodeTests.{is_value, next_is}
use Rattle.markdown_model.specs.Grammar.{escaped_from, span}
use Rattle.markdown_partial.proofs.EscapedTextReadings.{Behind, first-some, text-end, text-taken, text-stops, text-refused, text-next, text}
use Rattle.markdown_model_laws.specs.LinkParts.{is_odd, escapes_next}

-- Whether a code is escaped, from the front: after a code, by whether that one was.

abbrev pub turned : Bool → Code → Bool
turned slash c = is_value 92 c && not slash

abbrev pub slash_after : Bool → List Code → Bool
slash_after slash [] = slash
slash_after slash (c ∷ cs) = slash_after (turned slash c) cs

abbrev slash_back : List Code → Bool
slash_back [] = false
slash_back (c ∷ cs) = turned (slash_back cs) c

odd-span : (cs : List Code) → is_odd (length (span (is_value 92) cs).0) ≡ slash_back cs
odd-span [] = refl
odd-span (c ∷ cs) = grind (arith, odd-span cs)

pub after-last : (slash : Bool) (cs : List Code) (c : Code) →
    slash_after slash (cs ++ (c ∷ [])) ≡ turned (slash_after slash cs) c
after-last slash [] c = refl
after-last slash (d ∷ cs) c = after-last (turned slash d) cs c

after-back : (cs : List Code) → slash_after false (reverse cs) ≡ slash_back cs
after-back [] = refl
after-back (c ∷ cs) = grind (arith, reverse-append (c ∷ []) cs, after-last false (reverse cs) c, after-back cs)

pub escapes-after : (cs : List Code) → escapes_next cs ≡ slash_after false cs
escapes-after cs = odd-span (reverse cs) ∙ sym (after-back (reverse cs)) ∙ ap (slash_after false) (reverse-reverse cs)

-- Texts from a code on: `slash` says that the first is escaped.

pub record Escaped (marks takes : Code → Bool) (slash : Bool) (text : List Code) : Type 0 where
  pub inside : (before after : List Code) (c : Code) → text ≡ before ++ (c ∷ after) → marks c ≡ true →
      slash_after slash before && takes c ≡ true
  pub behind : slash_after slash text ≡ false

-- an escaped code does not escape
pub taken-turned : (takes : Code → Bool) (slash : Bool) (c : Code) → slash && takes c ≡ true → turned slash c ≡ false
taken-turned takes slash c h0 = grind arith

-- a backslash that is not escaped does
pub next-turned : (takes : Code → Bool) → ((c : Code) → is_value 92 c ≡ true → takes c ≡ true) →
    (slash : Bool) (c : Code) → slash && takes c ≡ false → turned slash c ≡ (c.value == 92)
next-turned takes slashes slash c e = grind arith

module _ (stop takes refuses : Code → Bool) (slashes : (c : Code) → is_value 92 c ≡ true → takes c ≡ true) (stops : (c : Code) → stop c ≡ true → takes c ≡ true) where
  abbrev marks : Code → Bool
  marks c = stop c || refuses c

  abbrev Is : Bool → List Code → Type 0
  Is slash text = Escaped marks takes slash text

  -- one code more in front
  before : (slash : Bool) (c : Code) (text : List Code) → (marks c ≡ true → slash && takes c ≡ true) →
      Is (turned slash c) text → Is slash (c ∷ text)
  before slash c text first h = record { inside = inside; behind = h.behind }
    where
      inside : (xs ys : List Code) (d : Code) → c ∷ text ≡ xs ++ (d ∷ ys) → marks d ≡ true →
          slash_after slash xs && takes d ≡ true
      inside [] ys d e k = grind arith
      inside (x ∷ xs) ys d e k = grind (arith, text)

  -- one code less
  behind_first : (slash : Bool) (c : Code) (text : List Code) → Is slash (c ∷ text) → Is (turned slash c) text
  behind_first slash c text h =
      record { inside = λ xs ys d e k. h.inside (c ∷ xs) ys d (ap (λ z. c ∷ z) e) k; behind = h.behind }

  stopped-plain : (slash : Bool) (c : Code) → slash && takes c ≡ false → stop c ≡ true → slash ≡ false
  stopped-plain true c e h = let no : takes c ≡ true = stops c h in cc
  stopped-plain false c e h = refl

  -- what the reading gives is such a text
  read-by : (x y z : Bool) (slash : Bool) (c : Code) (cs : List Code) (r : List Code × List Code) → slash && takes c ≡ x → stop c ≡ y → refuses c ≡ z
      → escaped_from stop takes refuses slash (c ∷ cs) ≡ Some r
      → ((b : Bool) (q : List Code × List Code) → escaped_from stop takes refuses b cs ≡ Some q → Is b q.0) → Is slash r.0
  read-by true y z slash c cs r e h k g f =
      let b : Behind c (escaped_from stop takes refuses false cs) r = first-some c (escaped_from stop takes refuses false cs) r (sym (text-taken stop takes refuses slash c cs e) ∙ g) in
      subst (λ (q : List Code × List Code). Is slash q.0) (sym b.is)
      (before slash c b.others.0 (λ _. e) (subst (λ s. Is s b.others.0) (sym (taken-turned takes slash c e)) (f false b.others b.gives)))
  read-by false true z slash c cs r e h k g f =
      let same : ([], c ∷ cs) ≡ r = (let s : Some ([], c ∷ cs) ≡ Some r = sym (text-stops stop takes refuses slash c cs e h) ∙ g in cc) in
      subst (λ (q : List Code × List Code). Is slash q.0) same (record { inside = none; behind = stopped-plain slash c e h })
    where
      none : (xs ys : List Code) (d : Code) → [] ≡ xs ++ (d ∷ ys) → marks d ≡ true →
          slash_after slash xs && takes d ≡ true
      none [] ys d p q = cc
      none (x ∷ xs) ys d p q = cc
  read-by false false true slash c cs r e h k g f = grind (arith, text-refused)
  read-by false false false slash c cs r e h k g f =
      let b : Behind c (escaped_from stop takes refuses (c.value == 92) cs) r = first-some c (escaped_from stop takes refuses (c.value == 92) cs) r (sym (text-next stop takes refuses slash c cs e h k) ∙ g) in
      let none : marks c ≡ false = rw (h, k) refl in
      subst (λ (q : List Code × List Code). Is slash q.0) (sym b.is)
      (before slash c b.others.0 (λ m. absurd (let no : true ≡ false = sym m ∙ none in cc)) (subst (λ s. Is s b.others.0) (sym (next-turned takes slashes slash c e)) (f (c.value == 92) b.others b.gives)))

  pub read : (slash : Bool) (cs : List Code) (r : List Code × List Code) →
      escaped_from stop takes refuses slash cs ≡ Some r → Is slash r.0
  read slash [] r e = let no : None ≡ Some r = sym (text-end stop takes refuses slash) ∙ e in cc
  read slash (c ∷ cs) r e =
      read-by (slash && takes c) (stop c) (refuses c) slash c cs r refl refl refl e (λ b q h. read b cs q h)

  -- and each such text is read, up to a code that stops it
  found-by : (x y z : Bool) (slash : Bool) (c : Code) (text rest : List Code) → slash && takes c ≡ x → stop c ≡ y → refuses c ≡ z → Is slash (c ∷ text)
      → ((b : Bool) → Is b text → escaped_from stop takes refuses b (text ++ rest) ≡ Some (text, rest))
      → escaped_from stop takes refuses slash (c ∷ (text ++ rest)) ≡ Some (c ∷ text, rest)
  found-by true y z slash c text rest e h k i f = grind (arith, text-taken, text, taken-turned, behind_first)
  found-by false true z slash c text rest e h k i f =
      let no : slash && takes c ≡ true = i.inside [] text c refl (or_left (stop c) (refuses c) h) in cc
  found-by false false true slash c text rest e h k i f =
      let no : slash && takes c ≡ true = i.inside [] text c refl (or_right (stop c) (refuses c) k) in cc
  found-by false false false slash c text rest e h k i f = grind (arith, text-next, text, next-turned, behind_first)

  pub found : (slash : Bool) (text rest : List Code) → Is slash text → next_is stop rest ≡ true →
      escaped_from stop takes refuses slash (text ++ rest) ≡ Some (text, rest)
  found slash [] [] i h = cc
  found slash [] (c ∷ rest) i h = text-stops stop takes refuses slash c rest (ap (λ b. b && takes c) i.behind) h
  found slash (c ∷ text) rest i h =
      found-by (slash && takes c) (stop c) (refuses c) slash c text rest refl refl refl i (λ b j. found b text rest j h)
