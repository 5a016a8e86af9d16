-- What readings leave, one after the other.
use Rattle.std.proofs.Common.{◌≡◌, ℕ, refl, ap, ◌∙◌, sym, List, [], ◌∷◌, ◌++◌, take, drop, Bool, true, false, Some, None, Option, arith}
use Rattle.std.proofs.lemmas.List.{take-append-drop, append_cancel_right}
use Rattle.markdown_content.specs.Codes.{Code}
use Rattle.markdown_model.specs.CodeTests.{next_is}
use Rattle.markdown_model.specs.Grammar.{Reading, ◌>>=◌, ◌>>◌, gives, provided, either, before, one, if_next}
use Rattle.markdown_model.proofs.GivenByReadings.{IfGiven}
use Rattle.markdown_model.proofs.ReadingsCover.{Covers}
use Rattle.markdown_model.proofs.GrammarSteps.{bind-some, bind-none, after-some, after-none, one-here, one-not, before-some, before-other, before-none, either-some, either-second, provided-true, provided-false}
use Rattle.markdown_block_definitions.specs.TextReadings.{left_by}

some-same : {B : Type 0} (x y : B) → ◌≡◌ {A = Option B} (Some x) (Some y) → x ≡ y
some-same x y e = grind (arith, e)

none-other : {B : Type 0} (x : B) → ◌≡◌ {A = Option B} None (Some x) → ⊥
none-other x e = grind (arith, e)

-- what a reading gives where it leaves something
pub by-left : {A P : Type 0} (o : Option (A × List Code)) (rest : List Code) → left_by o ≡ Some rest → ((x : A) → o ≡ Some (x, rest) → P) → P
by-left None rest e f = absurd (none-other rest e)
by-left (Some r) rest e f = f r.0 (ap (λ (z : List Code). Some (r.0, z)) (some-same r.1 rest e))

pub by-none : {A : Type 0} (o : Option (A × List Code)) → left_by o ≡ None → o ≡ None
by-none None e = refl
by-none (Some r) e = absurd (none-other r.1 (sym e))

-- what covers its codes has those before what it leaves
taken-is : (xs cs : List Code) (k : ℕ) → xs ++ drop k cs ≡ cs → xs ≡ take k cs
taken-is xs cs k e = append_cancel_right xs (take k cs) (drop k cs) (e ∙ sym (take-append-drop k cs))

pub covered : {A : Type 0} (f : A → List Code) (a : Reading A) (cs : List Code) (k : ℕ) (x : A) → Covers f [] a → a cs ≡ Some (x, drop k cs) → f x ≡ take k cs
covered {A} f a cs k x h e = given (a cs) e (h.at cs)
  where
    given : (o : Option (A × List Code)) → o ≡ Some (x, drop k cs) → IfGiven (λ y rest. f y ++ rest ≡ [] ++ cs) o → f x ≡ take k cs
    given None e g = absurd (grind (arith, e))
    given (Some r) e g = taken-is (f x) cs k (ap (λ (z : A × List Code). f z.0 ++ z.1) (sym (some-same r (x, drop k cs) e)) ∙ g)

-- One reading and then another.

pub bind-left : {A B : Type 0} (f : A → List Code) (a : Reading A) (next : A → Reading B) (cs : List Code) (k : ℕ) (y : Option (B × List Code)) → Covers f [] a → left_by (a cs) ≡ Some (drop k cs)
    → ((x : A) → f x ≡ take k cs → next x (drop k cs) ≡ y) → (a >>= next) cs ≡ y
bind-left f a next cs k y h e g = by-left (a cs) (drop k cs) e (λ x i. bind-some a next cs x (drop k cs) y i (g x (covered f a cs k x h i)))

module _ {A B : Type 0} (a : Reading A) where
  pub left-bind : (f : A → List Code) (next : A → Reading B) (cs : List Code) (k : ℕ) (o : Option (List Code)) → Covers f [] a → left_by (a cs) ≡ Some (drop k cs)
      → ((x : A) → f x ≡ take k cs → left_by (next x (drop k cs)) ≡ o) → left_by ((a >>= next) cs) ≡ o
  left-bind f next cs k o h e g =
      by-left (a cs) (drop k cs) e (λ x i. ap left_by (bind-some a next cs x (drop k cs) (next x (drop k cs)) i refl) ∙ g x (covered f a cs k x h i))

  pub left-bind-none : (next : A → Reading B) (cs : List Code) → left_by (a cs) ≡ None → left_by ((a >>= next) cs) ≡ None
  left-bind-none next cs e = ap left_by (bind-none a next cs (by-none (a cs) e))

  -- whatever it gives
  pub left-any : (next : A → Reading B) (cs rest : List Code) (o : Option (List Code)) → left_by (a cs) ≡ Some rest → ((x : A) → left_by (next x rest) ≡ o) → left_by ((a >>= next) cs) ≡ o
  left-any next cs rest o e g = by-left (a cs) rest e (λ x i. ap left_by (bind-some a next cs x rest (next x rest) i refl) ∙ g x)

  pub left-after : (b : Reading B) (cs rest : List Code) (o : Option (List Code)) → left_by (a cs) ≡ Some rest → left_by (b rest) ≡ o → left_by ((a >> b) cs) ≡ o
  left-after b cs rest o e g = by-left (a cs) rest e (λ x i. ap left_by (after-some a b cs x rest (b rest) i refl) ∙ g)

  pub left-after-none : (b : Reading B) (cs : List Code) → left_by (a cs) ≡ None → left_by ((a >> b) cs) ≡ None
  left-after-none b cs e = ap left_by (after-none a b cs (by-none (a cs) e))

  pub after-left : (b : Reading B) (cs rest : List Code) (y : Option (B × List Code)) → left_by (a cs) ≡ Some rest → b rest ≡ y → (a >> b) cs ≡ y
  after-left b cs rest y e g = by-left (a cs) rest e (λ x i. after-some a b cs x rest y i g)

  pub none-after : (b : Reading B) (cs : List Code) → left_by (a cs) ≡ None → (a >> b) cs ≡ None
  none-after b cs e = after-none a b cs (by-none (a cs) e)

pub left-gives : {A : Type 0} (x : A) (cs : List Code) → left_by (gives x cs) ≡ Some cs
unfolding gives
left-gives x cs = refl

-- Conditions.

pub left-provided : {B : Type 0} (test : Bool) (b : Reading B) (cs : List Code) (o : Option (List Code)) → test ≡ true → left_by (b cs) ≡ o → left_by ((provided test >> b) cs) ≡ o
left-provided test b cs o e g = left-after (provided test) b cs cs o (ap left_by (provided-true test cs e)) g

pub left-refused : {B : Type 0} (test : Bool) (b : Reading B) (cs : List Code) → test ≡ false → left_by ((provided test >> b) cs) ≡ None
left-refused test b cs e = left-after-none (provided test) b cs (ap left_by (provided-false test cs e))

-- A choice.

module _ {A : Type 0} (a b : Reading A) (cs : List Code) where
  pub left-first : (rest : List Code) → left_by (a cs) ≡ Some rest → left_by (either a b cs) ≡ Some rest
  left-first rest e = by-left (a cs) rest e (λ x i. ap left_by (either-some a b cs (x, rest) i))

  pub left-second : (o : Option (List Code)) → left_by (a cs) ≡ None → left_by (b cs) ≡ o → left_by (either a b cs) ≡ o
  left-second o e g = ap left_by (either-second a b cs (by-none (a cs) e)) ∙ g

-- One code.

module _ (p : Code → Bool) where
  pub left-one : (cs : List Code) → next_is p cs ≡ true → left_by (one p cs) ≡ Some (drop 1 cs)
  left-one [] e = absurd (grind (arith, e))
  left-one (c ∷ cs) e = ap left_by (one-here p c cs e)

  pub left-one-none : (cs : List Code) → next_is p cs ≡ false → left_by (one p cs) ≡ None
  left-one-none cs e = ap left_by (one-not p cs e)

-- A reading before codes that pass a test.

module _ {A : Type 0} (a : Reading A) (p : List Code → Bool) (cs : List Code) where
  pub left-before : (rest : List Code) → left_by (a cs) ≡ Some rest → p rest ≡ true → left_by (before a p cs) ≡ Some rest
  left-before rest e g = by-left (a cs) rest e (λ x i. ap left_by (before-some a p cs x rest i g))

  pub left-before-other : (rest : List Code) → left_by (a cs) ≡ Some rest → p rest ≡ false → left_by (before a p cs) ≡ None
  left-before-other rest e g = by-left (a cs) rest e (λ x i. ap left_by (before-other a p cs x rest i g))

  pub left-before-none : left_by (a cs) ≡ None → left_by (before a p cs) ≡ None
  left-before-none e = ap left_by (before-none a p cs (by-none (a cs) e))

-- What the next code decides.

module _ {A : Type 0} (p : Code → Bool) (a b : Reading A) (cs : List Code) where
  pub next-first : next_is p cs ≡ true → if_next p a b cs ≡ a cs
  unfolding if_next
  next-first e = rw (e, if_next) refl

  pub next-second : next_is p cs ≡ false → if_next p a b cs ≡ b cs
  unfolding if_next
  next-second e = rw (e, if_next) refl
