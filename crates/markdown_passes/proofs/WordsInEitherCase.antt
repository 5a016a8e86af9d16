-- a word in either case, letter by letter
use Rattle.std.proofs.Common.{◌≡◌, ℕ, ◌+◌, ◌<◌, ◌≤◌, ◌==◌, ◌&&◌, ◌||◌, Bool, true, false, if◌then◌else◌, Option, Some, None, List, [], ◌∷◌, ◌++◌, length, drop, get_or, refl, sym, ap, ◌∙◌}
use Rattle.std.specs.Prelude.{codes}
use Rattle.std.proofs.lemmas.List.{drop_more, drop_all}
use Rattle.markdown_content.specs.Codes.{Code}
use Rattle.markdown_content.specs.DocumentWalk.{next_point, value_from}
use Rattle.markdown_event.specs.declared.event.Name.TheVariants as N
use Rattle.markdown_event.specs.declared.event.Point.{Point}
use Rattle.markdown_content.proofs.DocumentCodes.{code_here, stop_at}
use Rattle.markdown_model.specs.CodeTests.{is_empty, is_letter}
use Rattle.markdown_model.specs.GfmEmailLiteral.{is_word}
use Rattle.markdown_model.specs.Grammar.{Reading, ◌>>=◌, gives, one}
use Rattle.markdown_model.specs.GfmAutolinkLiteral.{letters}
use Rattle.markdown_model.proofs.GrammarSteps.{bind-some, bind-none, one-here, one-other, one-end}
use Rattle.markdown_passes.specs.TrimmedData.{between, is_same_place, IsStretch}
use Rattle.markdown_passes.proofs.TrimWalks.{IsBegun, IsEnded, begun-where, ended-where}
use Rattle.markdown_passes.specs.EmailScan.{is_letter_of, is_word_of, word_name}

abbrev ends_there : Option (List Code × List Code) → Bool
ends_there o = elim o as (λ _. Bool) [ None ↦ false | Some r ↦ is_empty r.1 ]

abbrev letter_test : ℕ → Code → Bool
letter_test n c = c.value == n || (is_letter c && c.value + 32 == n)

word-nothing : (cs : List Code) → is_word_of [] cs ≡ is_empty cs
unfolding is_word_of letters gives
word-nothing cs = refl

word-ended : (n : ℕ) (ns : List ℕ) → is_word_of (n ∷ ns) [] ≡ false
unfolding is_word_of letters
word-ended n ns =
    ap ends_there (bind-none (one (letter_test n)) (λ a. letters ns >>= λ b. gives (a ++ b)) [] (one-end (letter_test n)))

word-other : (n : ℕ) (ns : List ℕ) (c : Code) (cs : List Code) → is_letter_of n c.value ≡ false →
    is_word_of (n ∷ ns) (c ∷ cs) ≡ false
unfolding is_word_of letters
word-other n ns c cs h =
    ap ends_there (bind-none (one (letter_test n)) (λ a. letters ns >>= λ b. gives (a ++ b)) (c ∷ cs) (one-other (letter_test n) c cs h))

word-letter : (n : ℕ) (ns : List ℕ) (c : Code) (cs : List Code) → is_letter_of n c.value ≡ true →
    is_word_of (n ∷ ns) (c ∷ cs) ≡ is_word_of ns cs
unfolding is_word_of letters gives
word-letter n ns c cs h = by (letters ns cs) refl
  where
    next : List Code → Reading (List Code)
    next a = letters ns >>= λ b. gives (a ++ b)

    by : (o : Option (List Code × List Code)) → letters ns cs ≡ o →
        ends_there ((one (letter_test n) >>= next) (c ∷ cs)) ≡ ends_there (letters ns cs)
    by None e =
        ap ends_there (bind-some (one (letter_test n)) next (c ∷ cs) (c ∷ []) cs None (one-here (letter_test n) c cs h) (bind-none (letters ns) (λ b. gives ((c ∷ []) ++ b)) cs e)) ∙ ap ends_there (sym e)
    by (Some r) e =
        ap ends_there (bind-some (one (letter_test n)) next (c ∷ cs) (c ∷ []) cs (Some ((c ∷ []) ++ r.0, r.1)) (one-here (letter_test n) c cs h) (bind-some (letters ns) (λ b. gives ((c ∷ []) ++ b)) cs r.0 r.1 (Some ((c ∷ []) ++ r.0, r.1)) e refl)) ∙ ap ends_there (sym e)

-- Along a stretch.

module _ (bytes : List ℕ) (word : List ℕ) (p q : Point) (i : ℕ) (within : i < length word) where
  abbrev n : ℕ
  n = get_or word i 0

  left : drop i word ≡ n ∷ drop (i + 1) word
  left = drop_more word i 0 within

  pub word-too_long : IsEnded bytes p q → is_word_of (drop i word) (between bytes p q) ≡ false
  word-too_long e =
      ap (λ w. is_word_of w (between bytes p q)) left ∙ ap (is_word_of (n ∷ drop (i + 1) word)) e.none ∙ word-ended n (drop (i + 1) word)

  value-is : (v : ℕ) → IsBegun bytes p q → value_from bytes p ≡ Some v → (code_here bytes p).value ≡ v
  value-is v b e = let same : Some (code_here bytes p).value ≡ Some v = sym b.value ∙ e in cc

  here : (v : ℕ) (b : IsBegun bytes p q) →
      is_word_of (drop i word) (between bytes p q) ≡ is_word_of (n ∷ drop (i + 1) word) (code_here bytes p ∷ between bytes (stop_at bytes p) q)
  here v b = ap (λ w. is_word_of w (between bytes p q)) left ∙ ap (is_word_of (n ∷ drop (i + 1) word)) b.codes

  pub word-differs : (v : ℕ) (t : Bool) → IsBegun bytes p q → value_from bytes p ≡ Some v → t ≡ is_letter_of n v →
      t ≡ false → is_word_of (drop i word) (between bytes p q) ≡ false
  word-differs v t b e f h =
      here v b ∙ word-other n (drop (i + 1) word) (code_here bytes p) (between bytes (stop_at bytes p) q) (ap (is_letter_of n) (value-is v b e) ∙ sym f ∙ h)

  pub word-goes_on : (v : ℕ) (t : Bool) (r : Point) → IsBegun bytes p q → value_from bytes p ≡ Some v →
      t ≡ is_letter_of n v → t ≡ true → r ≡ next_point bytes p →
      is_word_of (drop (i + 1) word) (between bytes r q) ≡ is_word_of (drop i word) (between bytes p q)
  word-goes_on v t r b e f h g =
      ap (λ (x : Point). is_word_of (drop (i + 1) word) (between bytes x q)) (g ∙ b.next)
      ∙ sym (here v b ∙ word-letter n (drop (i + 1) word) (code_here bytes p) (between bytes (stop_at bytes p) q) (ap (is_letter_of n) (value-is v b e) ∙ sym f ∙ h))

-- after the last letter
pub word-all : (bytes : List ℕ) (word : List ℕ) (p q : Point) (i : ℕ) (t : Bool) → IsStretch bytes p q →
    length word ≤ i → t ≡ is_same_place p q → t ≡ is_word_of (drop i word) (between bytes p q)
word-all bytes word p q i t s l e =
    by t e ∙ sym (ap (λ w. is_word_of w (between bytes p q)) (drop_all i word l) ∙ word-nothing (between bytes p q))
  where
    by : (b : Bool) → b ≡ is_same_place p q → b ≡ is_empty (between bytes p q)
    by true h = sym (ap is_empty (ended-where bytes p q s (sym h)).none)
    by false h = sym (ap is_empty (begun-where bytes p q s (sym h)).codes)

-- The name by the word.

pub name-mailto : (m : Bool) (cs : List Code) → m ≡ is_word_of (codes "mailto") cs → m ≡ true →
    N.GfmAutolinkLiteralMailto ≡ word_name cs
unfolding word_name is_word_of
name-mailto m cs e h =
    ap (λ b. if b then N.GfmAutolinkLiteralMailto else (if is_word "xmpp" cs then N.GfmAutolinkLiteralXmpp else N.GfmAutolinkLiteralEmail)) (sym h ∙ e)

pub name-second : (m x : Bool) (cs : List Code) → m ≡ is_word_of (codes "mailto") cs → m ≡ false →
    x ≡ is_word_of (codes "xmpp") cs →
    (if x then N.GfmAutolinkLiteralXmpp else N.GfmAutolinkLiteralEmail) ≡ word_name cs
unfolding word_name is_word_of
name-second m x cs e h f =
    ap (λ b. if b then N.GfmAutolinkLiteralXmpp else N.GfmAutolinkLiteralEmail) f
    ∙ ap (λ b. if b then N.GfmAutolinkLiteralMailto else (if is_word "xmpp" cs then N.GfmAutolinkLiteralXmpp else N.GfmAutolinkLiteralEmail)) (sym h ∙ e)
