-- Readings of codes from one code on.
use Rattle.std.proofs.Common.{◌≡◌, ℕ, ◌≤◌, ◌==◌, ◌&&◌, Bool, true, false, Option, Some, None, List, [], ◌∷◌, ◌++◌, length, refl, sym, ap, subst, ◌∙◌, append_assoc, arith}
use Rattle.std.proofs.lemmas.Bool.{eqb-true}
use Rattle.markdown_content.specs.Codes.{Code}
use Rattle.markdown_notes.specs.SequenceIndex.{stand_next, last_where}
use Rattle.markdown_notes.proofs.RunIndexFacts.{later-none}
use Rattle.markdown_model.specs.CodeTests.{is_value, is_whitespace_code, next_is}
use Rattle.markdown_model.specs.Grammar.{Reading, either, if_next, before, one, any_number, with_first, word_of, up_to_word, ◌then_◌}
use Rattle.markdown_model.proofs.ReadingsCover.{itself, takes_up_to_word}
use Rattle.markdown_model.proofs.ReadsACode.{Left, Consumes, with_takes, word_takes, takes_no_more}
use Rattle.markdown_plan.specs.PrecededReadings.{after}
use Rattle.markdown_plan.proofs.PrecededReadingLemmas.{then-after, after-more, after-none}
use Rattle.markdown_leaf_html.specs.HtmlByteTests.{whitespace_value}
use Rattle.markdown_leaf_html.proofs.HtmlLineBreaks.{PassesItsCodes}
use Rattle.markdown_model.proofs.GrammarSteps.{span-takes, span-none, one-here, one-not, then-none, either-second, either-some}

-- Codes before what a reading gives.

pub after-twice : (xs ys : List Code) (o : Option (List Code × List Code)) → after (xs ++ ys) o ≡ after xs (after ys o)
after-twice xs ys None = refl
after-twice xs ys (Some r) = ap (λ zs. Some (zs, r.1)) (append_assoc xs ys r.0)

-- One reading and then another.

then-by : (c : Code) (b : Reading (List Code)) (o : Option (List Code × List Code)) →
    elim (with_first c o) as (λ _. Option (List Code × List Code)) [ None ↦ None | Some r ↦ elim (b r.1) as (λ _. Option (List Code × List Code)) [ None ↦ None | Some s ↦ Some (r.0 ++ s.0, s.1) ] ] ≡ with_first c (elim o as (λ _. Option (List Code × List Code)) [ None ↦ None | Some r ↦ elim (b r.1) as (λ _. Option (List Code × List Code)) [ None ↦ None | Some s ↦ Some (r.0 ++ s.0, s.1) ] ])
then-by c b None = refl
then-by c b (Some r) =
    elim (b r.1) as (λ o. elim o as (λ _. Option (List Code × List Code)) [ None ↦ None | Some s ↦ Some ((c ∷ r.0) ++ s.0, s.1) ] ≡ with_first c (elim o as (λ _. Option (List Code × List Code)) [ None ↦ None | Some s ↦ Some (r.0 ++ s.0, s.1) ])) [ None ↦ refl | Some s ↦ refl ]

pub then-first : (a x b : Reading (List Code)) (c : Code) (cs : List Code) → a (c ∷ cs) ≡ with_first c (x cs) →
    (a then_ b) (c ∷ cs) ≡ with_first c ((x then_ b) cs)
unfolding ◌then_◌
then-first a x b c cs e =
    ap (λ (o : Option (List Code × List Code)). elim o as (λ _. Option (List Code × List Code)) [ None ↦ None | Some r ↦ elim (b r.1) as (λ _. Option (List Code × List Code)) [ None ↦ None | Some s ↦ Some (r.0 ++ s.0, s.1) ] ]) e ∙ then-by c b (x cs)

-- where the first reads nothing
pub then-nothing : (a b : Reading (List Code)) (cs : List Code) → a cs ≡ Some ([], cs) → (a then_ b) cs ≡ b cs
then-nothing a b cs e = then-after a b cs [] cs e ∙ after-none (b cs)

-- where they read the same, and the same follows
pub then-same : (a x b : Reading (List Code)) (cs : List Code) → a cs ≡ x cs → (a then_ b) cs ≡ (x then_ b) cs
unfolding ◌then_◌
then-same a x b cs e =
    ap (λ (o : Option (List Code × List Code)). elim o as (λ _. Option (List Code × List Code)) [ None ↦ None | Some r ↦ elim (b r.1) as (λ _. Option (List Code × List Code)) [ None ↦ None | Some s ↦ Some (r.0 ++ s.0, s.1) ] ]) e

-- Choices.

or_read : Option (List Code × List Code) → Option (List Code × List Code) → Option (List Code × List Code)
or_read None q = q
or_read (Some r) q = Some r

either-is : (a b : Reading (List Code)) (cs : List Code) → either a b cs ≡ or_read (a cs) (b cs)
unfolding either or_read
either-is a b cs =
    elim (a cs) as (λ o. elim o as (λ _. Option (List Code × List Code)) [ None ↦ b cs | Some r ↦ Some r ] ≡ or_read o (b cs)) [ None ↦ refl | Some r ↦ refl ]

or-first : (c : Code) (o q : Option (List Code × List Code)) →
    or_read (with_first c o) (with_first c q) ≡ with_first c (or_read o q)
unfolding or_read
or-first c None q = refl
or-first c (Some r) q = refl

or-none : (o : Option (List Code × List Code)) → or_read o None ≡ o
unfolding or_read
or-none None = refl
or-none (Some r) = refl

pub either-on : (a x b y : Reading (List Code)) (c : Code) (cs : List Code) → a (c ∷ cs) ≡ with_first c (x cs) →
    b (c ∷ cs) ≡ with_first c (y cs) → either a b (c ∷ cs) ≡ with_first c (either x y cs)
either-on a x b y c cs e h =
    either-is a b (c ∷ cs) ∙ ap (λ o. or_read o (b (c ∷ cs))) e ∙ ap (λ o. or_read (with_first c (x cs)) o) h ∙ or-first c (x cs) (y cs) ∙ ap (with_first c) (sym (either-is x y cs))

pub either-left : (a b : Reading (List Code)) (cs : List Code) → b cs ≡ None → either a b cs ≡ a cs
either-left a b cs e = either-is a b cs ∙ ap (λ o. or_read (a cs) o) e ∙ or-none (a cs)

pub either-right : (a b : Reading (List Code)) (cs : List Code) → a cs ≡ None → either a b cs ≡ b cs
either-right a b cs e = either-second a b cs e

pub either-none : (a b : Reading (List Code)) (cs : List Code) → a cs ≡ None → b cs ≡ None → either a b cs ≡ None
either-none a b cs e h = either-second a b cs e ∙ h

pub either-same : (a b y : Reading (List Code)) (cs : List Code) → b cs ≡ y cs → either a b cs ≡ either a y cs
either-same a b y cs e = either-is a b cs ∙ ap (λ o. or_read (a cs) o) e ∙ sym (either-is a y cs)

-- the first holds
pub either-here : (a b : Reading (List Code)) (cs : List Code) (r : List Code × List Code) →
    ◌≡◌ {A = Option (List Code × List Code)} (a cs) (Some r) → either a b cs ≡ a cs
either-here a b cs r e = either-some a b cs r e ∙ sym e

pub next-here : (p : Code → Bool) (a b : Reading (List Code)) (cs : List Code) → next_is p cs ≡ true →
    if_next p a b cs ≡ a cs
unfolding if_next
next-here p a b cs e =
    ap (λ (t : Bool). elim t as (λ _. Option (List Code × List Code)) [ true ↦ a cs | false ↦ b cs ]) e

pub next-other : (p : Code → Bool) (a b : Reading (List Code)) (cs : List Code) → next_is p cs ≡ false →
    if_next p a b cs ≡ b cs
unfolding if_next
next-other p a b cs e =
    ap (λ (t : Bool). elim t as (λ _. Option (List Code × List Code)) [ true ↦ a cs | false ↦ b cs ]) e

before-by : (p : List Code → Bool) (c : Code) (o : Option (List Code × List Code)) →
    elim (with_first c o) as (λ _. Option (List Code × List Code)) [ None ↦ None | Some r ↦ elim (p r.1) as (λ _. Option (List Code × List Code)) [ true ↦ Some r | false ↦ None ] ] ≡ with_first c (elim o as (λ _. Option (List Code × List Code)) [ None ↦ None | Some r ↦ elim (p r.1) as (λ _. Option (List Code × List Code)) [ true ↦ Some r | false ↦ None ] ])
before-by p c None = refl
before-by p c (Some r) =
    elim (p r.1) as (λ b. elim b as (λ _. Option (List Code × List Code)) [ true ↦ Some (c ∷ r.0, r.1) | false ↦ None ] ≡ with_first c (elim b as (λ _. Option (List Code × List Code)) [ true ↦ Some r | false ↦ None ])) [ true ↦ refl | false ↦ refl ]

pub before-first : (a x : Reading (List Code)) (p : List Code → Bool) (c : Code) (cs : List Code) →
    a (c ∷ cs) ≡ with_first c (x cs) → before a p (c ∷ cs) ≡ with_first c (before x p cs)
unfolding before
before-first a x p c cs e =
    ap (λ (o : Option (List Code × List Code)). elim o as (λ _. Option (List Code × List Code)) [ None ↦ None | Some r ↦ elim (p r.1) as (λ _. Option (List Code × List Code)) [ true ↦ Some r | false ↦ None ] ]) e ∙ before-by p c (x cs)

-- One code, and several.

pub one-on : (p : Code → Bool) (b : Reading (List Code)) (c : Code) (cs : List Code) → p c ≡ true →
    (one p then_ b) (c ∷ cs) ≡ with_first c (b cs)
one-on p b c cs e =
    then-after (one p) b (c ∷ cs) (c ∷ []) cs (one-here p c cs e) ∙ after-more c [] (b cs) ∙ ap (with_first c) (after-none (b cs))

pub one-none : (p : Code → Bool) (b : Reading (List Code)) (cs : List Code) → next_is p cs ≡ false →
    (one p then_ b) cs ≡ None
one-none p b cs e = then-none (one p) b cs (one-not p cs e)

pub any-on : (p : Code → Bool) (c : Code) (cs : List Code) → p c ≡ true →
    any_number p (c ∷ cs) ≡ with_first c (any_number p cs)
unfolding any_number
any-on p c cs e = ap (λ (s : List Code × List Code). Some s) (span-takes p c cs e)

pub any-none : (p : Code → Bool) (cs : List Code) → next_is p cs ≡ false → any_number p cs ≡ Some ([], cs)
unfolding any_number
any-none p cs e = ap (λ (s : List Code × List Code). Some s) (span-none p cs e)

-- Words.

pub word-on : (n : ℕ) (ns : List ℕ) (c : Code) (cs : List Code) → is_value n c ≡ true →
    word_of (n ∷ ns) (c ∷ cs) ≡ with_first c (word_of ns cs)
unfolding word_of
word-on n ns c cs e =
    ap (λ (b : Bool). elim b as (λ _. Option (List Code × List Code)) [ true ↦ with_first c (word_of ns cs) | false ↦ None ]) e

pub word-none : (n : ℕ) (ns : List ℕ) (cs : List Code) → next_is (is_value n) cs ≡ false → word_of (n ∷ ns) cs ≡ None
unfolding word_of
word-none n ns [] e = refl
word-none n ns (c ∷ cs) e =
    ap (λ (b : Bool). elim b as (λ _. Option (List Code × List Code)) [ true ↦ with_first c (word_of ns cs) | false ↦ None ]) e

pub word-end : (cs : List Code) → word_of [] cs ≡ Some ([], cs)
unfolding word_of
word-end cs = refl

-- a word of one code
pub word-here : (n : ℕ) (c : Code) (cs : List Code) → is_value n c ≡ true →
    word_of (n ∷ []) (c ∷ cs) ≡ Some (c ∷ [], cs)
word-here n c cs e = word-on n [] c cs e ∙ ap (with_first c) (word-end cs)

pub word-then : (n : ℕ) (ns : List ℕ) (b : Reading (List Code)) (c : Code) (cs : List Code) → is_value n c ≡ true →
    (word_of (n ∷ ns) then_ b) (c ∷ cs) ≡ with_first c ((word_of ns then_ b) cs)
word-then n ns b c cs e = then-first (word_of (n ∷ ns)) (word_of ns) b c cs (word-on n ns c cs e)

pub word-then-none : (n : ℕ) (ns : List ℕ) (b : Reading (List Code)) (cs : List Code) →
    next_is (is_value n) cs ≡ false → (word_of (n ∷ ns) then_ b) cs ≡ None
word-then-none n ns b cs e = then-none (word_of (n ∷ ns)) b cs (word-none n ns cs e)

-- a word of one code, and then more
pub last-then : (n : ℕ) (b : Reading (List Code)) (c : Code) (cs : List Code) → is_value n c ≡ true →
    (word_of (n ∷ []) then_ b) (c ∷ cs) ≡ with_first c (b cs)
last-then n b c cs e = word-then n [] b c cs e ∙ ap (with_first c) (then-nothing (word_of []) b cs (word-end cs))

-- Up to a word.

up-is : (ns : List ℕ) (c : Code) (cs : List Code) →
    up_to_word ns (c ∷ cs) ≡ or_read (word_of ns (c ∷ cs)) (with_first c (up_to_word ns cs))
unfolding up_to_word or_read
up-is ns c cs =
    elim (word_of ns (c ∷ cs)) as (λ o. elim o as (λ _. Option (List Code × List Code)) [ Some r ↦ Some r | None ↦ with_first c (up_to_word ns cs) ] ≡ or_read o (with_first c (up_to_word ns cs))) [ None ↦ refl | Some r ↦ refl ]

pub up-other : (n : ℕ) (ns : List ℕ) (c : Code) (cs : List Code) → is_value n c ≡ false →
    up_to_word (n ∷ ns) (c ∷ cs) ≡ with_first c (up_to_word (n ∷ ns) cs)
unfolding or_read
up-other n ns c cs e =
    up-is (n ∷ ns) c cs ∙ ap (λ o. or_read o (with_first c (up_to_word (n ∷ ns) cs))) (word-none n ns (c ∷ cs) e)

pub up-first : (n : ℕ) (ns : List ℕ) (c : Code) (cs : List Code) → is_value n c ≡ true →
    up_to_word (n ∷ ns) (c ∷ cs) ≡ with_first c (either (word_of ns) (up_to_word (n ∷ ns)) cs)
up-first n ns c cs e =
    up-is (n ∷ ns) c cs ∙ ap (λ o. or_read o (with_first c (up_to_word (n ∷ ns) cs))) (word-on n ns c cs e) ∙ or-first c (word_of ns cs) (up_to_word (n ∷ ns) cs)
    ∙ ap (with_first c) (sym (either-is (word_of ns) (up_to_word (n ∷ ns)) cs))

pub up-end : (ns : List ℕ) → up_to_word ns [] ≡ None
unfolding up_to_word
up-end ns = refl

pub up-here : (n : ℕ) (c : Code) (cs : List Code) → is_value n c ≡ true →
    up_to_word (n ∷ []) (c ∷ cs) ≡ word_of (n ∷ []) (c ∷ cs)
unfolding or_read
up-here n c cs e =
    up-is (n ∷ []) c cs ∙ ap (λ o. or_read o (with_first c (up_to_word (n ∷ []) cs))) (word-here n c cs e) ∙ sym (word-here n c cs e)

-- Where a word does not begin, nothing is read up to it.

pub word-absent : (ns : List ℕ) (cs : List Code) → stand_next ns cs ≡ false → word_of ns cs ≡ None
unfolding word_of
word-absent [] cs h = cc
word-absent (n ∷ ns) [] h = refl
word-absent (n ∷ ns) (c ∷ cs) h =
    elim (c.value == n) as (λ b. b && stand_next ns cs ≡ false → elim b as (λ _. Option (List Code × List Code)) [ true ↦ with_first c (word_of ns cs) | false ↦ None ] ≡ None) [
      | true ↦ λ e. ap (with_first c) (word-absent ns cs e)
      | false ↦ λ e. refl
    ] h

pub up-absent : (ns : List ℕ) (cs : List Code) → last_where (stand_next ns) cs ≡ None → up_to_word ns cs ≡ None
unfolding or_read
up-absent ns [] h = up-end ns
up-absent ns (c ∷ cs) h =
    let k = later-none (last_where (stand_next ns) cs) (stand_next ns (c ∷ cs)) h in
    up-is ns c cs ∙ ap (λ o. or_read o (with_first c (up_to_word ns cs))) (word-absent ns (c ∷ cs) k.1) ∙ ap (with_first c) (up-absent ns cs k.0)

-- How many codes they take.

pub second_takes : (a b : Reading (List Code)) → Consumes 0 a → Consumes 1 b → Consumes 1 (a then_ b)
unfolding ◌then_◌
second_takes a b ha hb = record { at = λ cs. by-first cs (a cs) (ha.at cs) }
  where
    by-second : (cs : List Code) (x : List Code × List Code) → length x.1 ≤ length cs →
        (o : Option (List Code × List Code)) → Left 1 x.1 o →
        Left {A = List Code} 1 cs (elim o as (λ _. Option (List Code × List Code)) [ None ↦ None | Some s ↦ Some (x.0 ++ s.0, s.1) ])
    by-second cs x h None l = tt
    by-second cs x h (Some s) l = omega (arith, h, l)

    by-first : (cs : List Code) (o : Option (List Code × List Code)) → Left 0 cs o →
        Left {A = List Code} 1 cs (elim o as (λ _. Option (List Code × List Code)) [ None ↦ None | Some r ↦ elim (b r.1) as (λ _. Option (List Code × List Code)) [ None ↦ None | Some s ↦ Some (r.0 ++ s.0, s.1) ] ])
    by-first cs None l = tt
    by-first cs (Some x) l = by-second cs x (omega (arith, l)) (b x.1) (hb.at x.1)

pub next_takes : (p : Code → Bool) (a b : Reading (List Code)) → Consumes 1 a → Consumes 1 b →
    Consumes 1 (if_next p a b)
unfolding if_next
next_takes p a b ha hb =
    record { at = λ cs. elim (next_is p cs) as (λ t. Left {A = List Code} 1 cs (elim t as (λ _. Option (List Code × List Code)) [ true ↦ a cs | false ↦ b cs ])) [ true ↦ ha.at cs | false ↦ hb.at cs ] }

or-takes : (cs : List Code) (o q : Option (List Code × List Code)) → Left 1 cs o → Left 1 cs q → Left 1 cs (or_read o q)
unfolding or_read
or-takes cs None q l k = k
or-takes cs (Some r) q l k = l

up-at : (n : ℕ) (ns : List ℕ) (cs : List Code) → Left 1 cs (up_to_word (n ∷ ns) cs)
up-at n ns [] = subst (λ o. Left 1 [] o) (sym (up-end (n ∷ ns))) tt
up-at n ns (c ∷ cs) =
    subst (λ o. Left 1 (c ∷ cs) o) (sym (up-is (n ∷ ns) c cs))
    (or-takes (c ∷ cs) (word_of (n ∷ ns) (c ∷ cs)) (with_first c (up_to_word (n ∷ ns) cs)) ((word_takes n ns).at (c ∷ cs)) (with_takes 0 c cs (up_to_word (n ∷ ns) cs) ((takes_no_more itself (up_to_word (n ∷ ns)) (takes_up_to_word (n ∷ ns))).at cs)))

pub up_takes : (n : ℕ) (ns : List ℕ) → Consumes 1 (up_to_word (n ∷ ns))
up_takes n ns = record { at = up-at n ns }

-- Whitespace.

whitespace-by : (n : ℕ) (c : Code) (b : Bool) → whitespace_value n ≡ false → is_whitespace_code c ≡ true →
    is_value n c ≡ b → b ≡ false
whitespace-by n c false e h k = refl
whitespace-by n c true e h k = let no : true ≡ false = sym h ∙ ap whitespace_value (eqb-true c.value n k) ∙ e in cc

-- whitespace is no other code
pub whitespace-other : (n : ℕ) (c : Code) → whitespace_value n ≡ false → is_whitespace_code c ≡ true →
    is_value n c ≡ false
whitespace-other n c e h = whitespace-by n c (is_value n c) e h refl

pub up-goes : (n : ℕ) (ns : List ℕ) → whitespace_value n ≡ false → PassesItsCodes (up_to_word (n ∷ ns))
up-goes n ns e =
    record { takes = takes_up_to_word (n ∷ ns); consumes = up_takes n ns; skips = λ c cs h. up-other n ns c cs (whitespace-other n c e h) }
