-- What holds of what a reading gives, and of the codes behind that, if it gives anything. Each fact on readings is a case of it.
use Rattle.std.proofs.Common.{◌≡◌, ◌==◌, ℕ, zero, suc, Bool, true, false, ◌&&◌, List, [], ◌∷◌, ◌++◌, length, refl, Option, Some, None}
use Rattle.markdown_content.specs.Codes.{Code}
use Rattle.markdown_model.specs.CodeTests.{is_empty, next_is}
use Rattle.markdown_model.specs.Grammar.{Reading, ◌>>=◌, ◌>>◌, gives, either, unless, if_next, provided, before, one, some, span, with_first, word_of, up_to_word, ◌then_◌, repeated, repeatedly, escaped_from}

abbrev pub IfGiven : {A : Type 0} → (A → List Code → Type 0) → Option (A × List Code) → Type 0
IfGiven P None = Unit {0}
IfGiven P (Some r) = P r.0 r.1

module _ {A : Type 0} (P Q : A → List Code → Type 0) where
  pub given-map : (o : Option (A × List Code)) → ((x : A) (rest : List Code) → P x rest → Q x rest) → IfGiven P o → IfGiven Q o
  given-map None w h = tt
  given-map (Some r) w h = w r.0 r.1 h

  -- from two facts
  pub given-both : (R : A → List Code → Type 0) (o : Option (A × List Code)) → ((x : A) (rest : List Code) → P x rest → Q x rest → R x rest)
      → IfGiven P o → IfGiven Q o → IfGiven R o
  given-both R None w h k = tt
  given-both R (Some r) w h k = w r.0 r.1 h k

pub given-any : {A : Type 0} (o : Option (A × List Code)) → IfGiven (λ x rest. Unit {0}) o
given-any None = tt
given-any (Some r) = tt

module _ {A B : Type 0} (P : A → List Code → Type 0) (Q : B → List Code → Type 0) where
  pub given-bind : (a : Reading A) (b : A → Reading B) (cs : List Code) → IfGiven P (a cs) → ((x : A) (rest : List Code) → P x rest → IfGiven Q (b x rest))
      → IfGiven Q ((a >>= b) cs)
  unfolding ◌>>=◌
  given-bind a b cs h k = by_answer (a cs) h
    where
      by_answer : (o : Option (A × List Code)) → IfGiven P o → IfGiven Q (elim o as (λ _. Option (B × List Code)) [ None ↦ None | Some x ↦ b x.0 x.1 ])
      by_answer None h = tt
      by_answer (Some x) h = k x.0 x.1 h

module _ {A : Type 0} (P : A → List Code → Type 0) where
  pub given-gives : (x : A) (cs : List Code) → P x cs → IfGiven P (gives x cs)
  unfolding gives
  given-gives x cs h = h

  pub given-passed : (test : Bool) (b : Reading A) (cs : List Code) → (test ≡ true → IfGiven P (b cs)) →
      IfGiven P ((provided test >> b) cs)
  unfolding provided ◌>>◌
  given-passed true b cs h = h refl
  given-passed false b cs h = tt

  pub given-either : (a b : Reading A) (cs : List Code) → IfGiven P (a cs) → IfGiven P (b cs) → IfGiven P (either a b cs)
  unfolding either
  given-either a b cs h k = by_answer (a cs) h
    where
      by_answer : (o : Option (A × List Code)) → IfGiven P o → IfGiven P (elim o as (λ _. Option (A × List Code)) [ None ↦ b cs | Some x ↦ Some x ])
      by_answer None h = k
      by_answer (Some x) h = h

  pub given-test : (o u : Option (A × List Code)) (b : Bool) → (b ≡ true → IfGiven P o) → (b ≡ false → IfGiven P u) →
      IfGiven P (elim b as (λ _. Option (A × List Code)) [ true ↦ o | false ↦ u ])
  given-test o u true h k = h refl
  given-test o u false h k = k refl

  pub given-before : (a : Reading A) (p : List Code → Bool) (cs : List Code) → IfGiven P (a cs) → IfGiven P (before a p cs)
  unfolding before
  given-before a p cs h = by_answer (a cs) h
    where
      by_answer : (o : Option (A × List Code)) → IfGiven P o →
          IfGiven P (elim o as (λ _. Option (A × List Code)) [ None ↦ None | Some x ↦ elim (p x.1) as (λ _. Option (A × List Code)) [ true ↦ Some x | false ↦ None ] ])
      by_answer None h = tt
      by_answer (Some x) h = given-test (Some x) None (p x.1) (λ _. h) (λ _. tt)

  pub given-next : (p : Code → Bool) (a b : Reading A) (cs : List Code) → IfGiven P (a cs) → IfGiven P (b cs) → IfGiven P (if_next p a b cs)
  unfolding if_next
  given-next p a b cs h k = given-test (a cs) (b cs) (next_is p cs) (λ _. h) (λ _. k)

  pub given-unless : {B : Type 0} (a : Reading B) (b : Reading A) (cs : List Code) → IfGiven P (b cs) → IfGiven P (unless a b cs)
  unfolding unless
  given-unless {B} a b cs h = by_answer (a cs)
    where
      by_answer : (o : Option (B × List Code)) → IfGiven P (elim o as (λ _. Option (A × List Code)) [ None ↦ b cs | Some x ↦ None ])
      by_answer None = h
      by_answer (Some x) = tt

-- CodesRead.

abbrev CodesRead : Type 0
CodesRead = Option (List Code × List Code)

module _ (P Q : List Code → List Code → Type 0) where
  pub given-first : (c : Code) (o : CodesRead) → ((x rest : List Code) → P x rest → Q (c ∷ x) rest) → IfGiven P o → IfGiven Q (with_first c o)
  given-first c None w h = tt
  given-first c (Some r) w h = w r.0 r.1 h

  pub given-then : (a b : Reading (List Code)) (cs : List Code) → IfGiven P (a cs) → ((x rest : List Code) → P x rest → IfGiven (λ y left. Q (x ++ y) left) (b rest))
      → IfGiven Q ((a then_ b) cs)
  unfolding ◌then_◌
  given-then a b cs h k = by_answer (a cs) h
    where
      by_second : (x : List Code) (o : CodesRead) → IfGiven (λ y left. Q (x ++ y) left) o →
          IfGiven Q (elim o as (λ _. CodesRead) [ None ↦ None | Some y ↦ Some (x ++ y.0, y.1) ])
      by_second x None h = tt
      by_second x (Some y) h = h

      by_answer : (o : CodesRead) → IfGiven P o →
          IfGiven Q (elim o as (λ _. CodesRead) [ None ↦ None | Some x ↦ elim (b x.1) as (λ _. CodesRead) [ None ↦ None | Some y ↦ Some (x.0 ++ y.0, y.1) ] ])
      by_answer None h = tt
      by_answer (Some x) h = by_second x.0 (b x.1) (k x.0 x.1 h)

  -- from what holds of the stretch of codes that pass
  pub given-some : (p : Code → Bool) (cs : List Code) → P (span p cs).0 (span p cs).1 → ((c : Code) (x rest : List Code) → P (c ∷ x) rest → Q (c ∷ x) rest)
      → IfGiven Q (some p cs)
  unfolding some
  given-some p cs h k = by_front (span p cs).0 (span p cs).1 h
    where
      by_front : (front back : List Code) → P front back → IfGiven Q (elim (is_empty front) as (λ _. CodesRead) [ true ↦ None | false ↦ Some (front, back) ])
      by_front [] back h = tt
      by_front (c ∷ front) back h = k c front back h

-- What holds of the codes at hand, those that are given and those behind them.
module _ (R : List Code → List Code → List Code → Type 0) where
  pub given-one : (p : Code → Bool) → ((c : Code) (cs : List Code) → p c ≡ true → R (c ∷ cs) (c ∷ []) cs) → (cs : List Code) → IfGiven (R cs) (one p cs)
  unfolding one
  given-one p h [] = tt
  given-one p h (c ∷ cs) = given-test (R (c ∷ cs)) (Some (c ∷ [], cs)) None (p c) (λ e. h c cs e) (λ _. tt)

  module _ (none : (cs : List Code) → R cs [] cs) (more : (cs x rest y left : List Code) → R cs x rest → R rest y left → R cs (x ++ y) left) (a : Reading (List Code)) (h : (cs : List Code) → IfGiven (R cs) (a cs)) where
    given-repeated : (n : ℕ) (cs : List Code) → IfGiven (R cs) (repeated n a cs)
    unfolding repeated
    given-repeated zero cs = none cs
    given-repeated (suc n) cs = by_answer (a cs) (h cs) (λ ds. given-repeated n ds)
      where
        by_second : (x rest : List Code) → R cs x rest → (o : CodesRead) → IfGiven (R rest) o →
            IfGiven (R cs) (elim o as (λ _. CodesRead) [ None ↦ Some (x, rest) | Some y ↦ Some (x ++ y.0, y.1) ])
        by_second x rest k None l = k
        by_second x rest k (Some y) l = more cs x rest y.0 y.1 k l

        by_answer : (o : CodesRead) → IfGiven (R cs) o → ((ds : List Code) → IfGiven (R ds) (repeated n a ds)) →
            IfGiven (R cs) (elim o as (λ _. CodesRead) [ None ↦ Some ([], cs) | Some x ↦ elim (repeated n a x.1) as (λ _. CodesRead) [ None ↦ Some x | Some y ↦ Some (x.0 ++ y.0, y.1) ] ])
        by_answer None k l = none cs
        by_answer (Some x) k l = by_second x.0 x.1 k (repeated n a x.1) (l x.1)

    pub given-repeatedly : (cs : List Code) → IfGiven (R cs) (repeatedly a cs)
    unfolding repeatedly
    given-repeatedly cs = given-repeated (length cs) cs

  pub given-up-to-word : (ns : List ℕ) → ((cs : List Code) → IfGiven (R cs) (word_of ns cs)) → ((c : Code) (cs x rest : List Code) → R cs x rest → R (c ∷ cs) (c ∷ x) rest) →
      (cs : List Code) → IfGiven (R cs) (up_to_word ns cs)
  unfolding up_to_word
  given-up-to-word ns word more [] = tt
  given-up-to-word ns word more (c ∷ cs) = by_answer (word_of ns (c ∷ cs)) (word (c ∷ cs)) (given-up-to-word ns word more cs)
    where
      by_answer : (o : CodesRead) → IfGiven (R (c ∷ cs)) o → IfGiven (R cs) (up_to_word ns cs) →
          IfGiven (R (c ∷ cs)) (elim o as (λ _. CodesRead) [ Some x ↦ Some x | None ↦ with_first c (up_to_word ns cs) ])
      by_answer (Some x) h k = h
      by_answer None h k = given-first (R cs) (R (c ∷ cs)) c (up_to_word ns cs) (λ x rest l. more c cs x rest l) k

  module _ (stop takes refuses : Code → Bool) (ends : (c : Code) (cs : List Code) → stop c ≡ true → R (c ∷ cs) [] (c ∷ cs)) (taken : (c : Code) (cs x rest : List Code) → takes c ≡ true → R cs x rest → R (c ∷ cs) (c ∷ x) rest)
      (kept : (c : Code) (cs x rest : List Code) → stop c ≡ false → refuses c ≡ false → R cs x rest → R (c ∷ cs) (c ∷ x) rest) where
    abbrev after : Bool → List Code → CodesRead
    after slash cs = escaped_from stop takes refuses slash cs

    pub given-escaped : (slash : Bool) (cs : List Code) → IfGiven (R cs) (escaped_from stop takes refuses slash cs)
    unfolding escaped_from
    given-escaped slash [] = tt
    given-escaped slash (c ∷ cs) = by_takes slash (takes c) refl (λ b. given-escaped b cs)
      where
        otherwise : ((a : Bool) → IfGiven (R cs) (after a cs)) → IfGiven (R (c ∷ cs)) (elim (stop c) as (λ _. CodesRead) [ true ↦ Some ([], c ∷ cs) | false ↦ elim (refuses c) as (λ _. CodesRead) [ true ↦ None | false ↦ with_first c (after (c.value == 92) cs) ] ])
        otherwise more =
            given-test (R (c ∷ cs)) (Some ([], c ∷ cs)) _ (stop c) (λ s. ends c cs s) (λ s.
            given-test (R (c ∷ cs)) None (with_first c (after (c.value == 92) cs)) (refuses c) (λ _. tt) (λ r. given-first (R cs) (R (c ∷ cs)) c (after (c.value == 92) cs) (λ x rest k. kept c cs x rest s r k) (more (c.value == 92))))

        by_takes : (a b : Bool) → takes c ≡ b → ((f : Bool) → IfGiven (R cs) (after f cs)) →
            IfGiven (R (c ∷ cs)) (elim (a && b) as (λ _. CodesRead) [ true ↦ with_first c (after false cs) | false ↦ elim (stop c) as (λ _. CodesRead) [ true ↦ Some ([], c ∷ cs) | false ↦ elim (refuses c) as (λ _. CodesRead) [ true ↦ None | false ↦ with_first c (after (c.value == 92) cs) ] ] ])
        by_takes true true e more = given-first (R cs) (R (c ∷ cs)) c (after false cs) (λ x rest k. taken c cs x rest e k) (more false)
        by_takes true false e more = otherwise more
        by_takes false b e more = otherwise more

-- Words: what holds of the values of the word too.
module _ (R : List ℕ → List Code → List Code → List Code → Type 0) (none : (cs : List Code) → R [] cs [] cs) (more : (n : ℕ) (ns : List ℕ) (c : Code) (cs x rest : List Code) → (c.value == n) ≡ true → R ns cs x rest → R (n ∷ ns) (c ∷ cs) (c ∷ x) rest) where
  pub given-word : (ns : List ℕ) (cs : List Code) → IfGiven (R ns cs) (word_of ns cs)
  unfolding word_of
  given-word [] cs = none cs
  given-word (n ∷ ns) [] = tt
  given-word (n ∷ ns) (c ∷ cs) = by_test (c.value == n) refl (given-word ns cs)
    where
      by_test : (b : Bool) → (c.value == n) ≡ b → IfGiven (R ns cs) (word_of ns cs) →
          IfGiven (R (n ∷ ns) (c ∷ cs)) (elim b as (λ _. CodesRead) [ true ↦ with_first c (word_of ns cs) | false ↦ None ])
      by_test true e h = given-first (R ns cs) (R (n ∷ ns) (c ∷ cs)) c (word_of ns cs) (λ x rest k. more n ns c cs x rest e k) h
      by_test false e h = tt
