-- Readings that take a code at least: what they leave is fewer codes.
use Rattle.std.proofs.Common.{◌≡◌, ◌≢◌, ℕ, suc, ◌+◌, ◌≤◌, Bool, List, [], ◌∷◌, ◌++◌, length, refl, sym, ap, subst, arith, Option}
use Rattle.std.specs.Prelude.{codes}
use Rattle.std.proofs.lemmas.List.{length-append}
use Prim.Native.String.{String}
use Rattle.markdown_content.specs.Codes.{Code}
use Rattle.markdown_model.specs.Grammar.{Reading, ◌>>=◌, gives, either, one, some, any_number, with_first, word_of, word, ◌then_◌}
use Rattle.markdown_model.specs.HtmlText.{html_codes, open_tag, closing_tag, comment, instruction, declaration, cdata}
use Rattle.markdown_model.proofs.NoLinkInConstructs.{Yields}
use Rattle.markdown_model.proofs.GivenByReadings.{IfGiven, given-map, given-both, given-bind, given-gives, given-either, given-one, given-some, given-then, given-first, given-word}
use Rattle.markdown_model.proofs.LeafCodes.{span-append}
use Rattle.markdown_model.proofs.ReadingsCover.{Splits, itself, Covers, Takes, takes_one, takes_any_number, takes_then, takes_optional, takes_repeatedly, takes_word, takes_through, takes_tag_name, takes_spaces, takes_optional_spaces, takes_attribute}

abbrev pub LeavesFewer : {A : Type 0} → ℕ → List Code → A → List Code → Type 0
LeavesFewer n cs x rest = n + length rest ≤ length cs

abbrev pub Left : {A : Type 0} → ℕ → List Code → Option (A × List Code) → Type 0
Left n cs o = IfGiven (LeavesFewer n cs) o

-- the reading takes n codes at least
pub record Consumes (n : ℕ) {A : Type 0} (a : Reading A) : Type 0 where
  pub at : (cs : List Code) → Left n cs (a cs)

module _ {A B : Type 0} where
  row : (n : ℕ) (a : Reading A) (b : A → Reading B) → Consumes n a → ((x : A) → Consumes 0 (b x)) → Consumes n (a >>= b)
  row n a b ha hb =
      record { at = λ cs. given-bind (LeavesFewer n cs) (LeavesFewer n cs) a b cs (ha.at cs) (λ x rest h. given-map (LeavesFewer 0 rest) (LeavesFewer n cs) (b x rest) (λ y left k. omega (arith, h, k)) ((hb x).at rest)) }

  -- the first reading takes one, and the second any number
  pub first_takes : (a : Reading A) (b : A → Reading B) → Consumes 1 a → ((x : A) → Consumes 0 (b x)) →
      Consumes 1 (a >>= b)
  first_takes a b ha hb = row 1 a b ha hb

  pub both_take : (a : Reading A) (b : A → Reading B) → Consumes 0 a → ((x : A) → Consumes 0 (b x)) →
      Consumes 0 (a >>= b)
  both_take a b ha hb = row 0 a b ha hb

module _ {A : Type 0} where
  pub takes_no_more : (f : A → List Code) (a : Reading A) → Covers f [] a → Consumes 0 a
  takes_no_more f a h =
      record { at = λ cs. given-map (Splits f cs) (LeavesFewer 0 cs) (a cs) (λ x rest k. omega (arith, length-append (f x) rest, ap length k)) (h.at cs) }

  pub gives_takes : (x : A) → Consumes 0 (gives x)
  gives_takes x = record { at = λ cs. given-gives (LeavesFewer 0 cs) x cs (omega arith) }

  pub either_takes : (n : ℕ) (a b : Reading A) → Consumes n a → Consumes n b → Consumes n (either a b)
  either_takes n a b h k = record { at = λ cs. given-either (LeavesFewer n cs) a b cs (h.at cs) (k.at cs) }

  pub weaker : (a : Reading A) → Consumes 1 a → Consumes 0 a
  weaker a h = record { at = λ cs. given-map (LeavesFewer 1 cs) (LeavesFewer 0 cs) (a cs) (λ x rest k. omega (arith, k)) (h.at cs) }

pub one_takes : (p : Code → Bool) → Consumes 1 (one p)
one_takes p = record { at = given-one (λ cs. LeavesFewer 1 cs) p (λ c cs e. omega arith) }

pub some_takes : (p : Code → Bool) → Consumes 1 (some p)
some_takes p =
    record { at = λ cs. given-some (Splits itself cs) (LeavesFewer 1 cs) p cs (span-append p cs) (λ c x rest e. omega (arith, length-append x rest, ap length e)) }

pub any_takes : (p : Code → Bool) → Consumes 0 (any_number p)
any_takes p = takes_no_more itself (any_number p) (takes_any_number p)

pub with_takes : (n : ℕ) (c : Code) (cs : List Code) (r : Option (List Code × List Code)) → Left n cs r →
    Left (suc n) (c ∷ cs) (with_first c r)
with_takes n c cs r h = given-first (LeavesFewer n cs) (LeavesFewer (suc n) (c ∷ cs)) c r (λ x rest k. omega (arith, k)) h

word_takes_at : (ns : List ℕ) (cs : List Code) → Left (length ns) cs (word_of ns cs)
word_takes_at =
    given-word (λ ns cs. LeavesFewer (length ns) cs) (λ cs. omega arith) (λ n ns c cs x rest v k. omega (arith, k))

pub word_takes : (n : ℕ) (ns : List ℕ) → Consumes 1 (word_of (n ∷ ns))
word_takes n ns =
    record { at = λ cs. given-map (LeavesFewer (suc (length ns)) cs) (LeavesFewer 1 cs) (word_of (n ∷ ns) cs) (λ x rest k. omega (arith, k)) (word_takes_at (n ∷ ns) cs) }

-- in a row of two, the first takes one code
pub then_takes : (a b : Reading (List Code)) → Consumes 1 a → Consumes 0 b → Consumes 1 (a then_ b)
then_takes a b ha hb =
    record { at = λ cs. given-then (LeavesFewer 1 cs) (LeavesFewer 1 cs) a b cs (ha.at cs) (λ x rest h. given-map (LeavesFewer 0 rest) (LeavesFewer 1 cs) (b rest) (λ y left k. omega (arith, h, k)) (hb.at rest)) }

-- so what it gives are some codes
abbrev pub SomeCodes : List Code → Type 0
SomeCodes cs = cs ≢ []

pub some_yields : (a : Reading (List Code)) → Takes a → Consumes 1 a → Yields SomeCodes a
some_yields a h k =
    record { at = λ cs. given-both (Splits itself cs) (LeavesFewer 1 cs) (λ x _. SomeCodes x) (a cs) (some cs) (h.at cs) (k.at cs) }
  where
    some : (cs x rest : List Code) → x ++ rest ≡ cs → 1 + length rest ≤ length cs → x ≢ []
    some cs [] rest e l = λ i. absurd (omega (arith, ap length e, l))
    some cs (c ∷ x) rest e l = λ i. cc

pub ruleset taking = (first_takes, gives_takes, one_takes, some_takes)

-- HTML: each kind begins with a word.

pub text_takes : (text : String) (n : ℕ) (ns : List ℕ) → codes text ≡ n ∷ ns → Consumes 1 (word text)
unfolding word
text_takes text n ns e = subst (λ x. Consumes 1 (word_of x)) (sym e) (word_takes n ns)

pub open_tag_takes : (slashes : Bool) → Consumes 1 (open_tag slashes)
unfolding open_tag
open_tag_takes slashes =
    then_takes _ _ (text_takes "<" _ _ refl) (takes_no_more _ _ (takes_then _ _ takes_tag_name (takes_then _ _ (takes_repeatedly _ (takes_then _ _ takes_spaces (takes_attribute slashes))) (takes_then _ _ takes_optional_spaces (takes_then _ _ (takes_optional _ (takes_word "/")) (takes_word ">"))))))

pub closing_tag_takes : Consumes 1 closing_tag
unfolding closing_tag
closing_tag_takes =
    then_takes _ _ (text_takes "</" _ _ refl) (takes_no_more _ _ (takes_then _ _ takes_tag_name (takes_then _ _ takes_optional_spaces (takes_word ">"))))

pub comment_takes : Consumes 1 comment
unfolding comment
comment_takes =
    either_takes _ _ _ (text_takes "<!-->" _ _ refl) (either_takes _ _ _ (text_takes "<!--->" _ _ refl) (then_takes _ _ (text_takes "<!--" _ _ refl) (takes_no_more _ _ (takes_through "-->"))))

pub instruction_takes : Consumes 1 instruction
unfolding instruction
instruction_takes = then_takes _ _ (text_takes "<?" _ _ refl) (takes_no_more _ _ (takes_through "?>"))

pub declaration_takes : Consumes 1 declaration
unfolding declaration
declaration_takes =
    then_takes _ _ (text_takes "<!" _ _ refl) (takes_no_more _ _ (takes_then _ _ (takes_one _) (takes_through ">")))

pub cdata_takes : Consumes 1 cdata
unfolding cdata
cdata_takes = then_takes _ _ (text_takes "<![CDATA[" _ _ refl) (takes_no_more _ _ (takes_through "]]>"))

pub html_text_takes : (slashes : Bool) → Consumes 1 (html_codes slashes)
unfolding html_codes
html_text_takes slashes =
    either_takes _ _ _ (open_tag_takes slashes) (either_takes _ _ _ closing_tag_takes (either_takes _ _ _ comment_takes (either_takes _ _ _ instruction_takes (either_takes _ _ _ declaration_takes cdata_takes))))
