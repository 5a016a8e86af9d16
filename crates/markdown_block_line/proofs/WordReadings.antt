-- Words in the rest of a line.
use Rattle.std.proofs.Common.{◌≡◌, ℕ, suc, ◌+◌, refl, ap, ◌∙◌, sym, List, [], ◌∷◌, length, take, drop, Bool, true, false, ◌&&◌, ◌||◌, Some, None, Option, is_some, arith}
use Rattle.std.specs.Prelude.{if◌then◌else◌, ◌==◌}
use Rattle.std.specs.List.{list_any, starts_with}
use Rattle.std.proofs.lemmas.Bool.Decides.{nat_tests}
use Rattle.markdown_content.specs.Codes.{Code}
use Rattle.markdown_model.specs.CodeTests.{values_of, is_letter}
use Rattle.markdown_model.specs.Grammar.{Reading, gives, either, one, with_first, word_of}
use Rattle.markdown_model.specs.GfmAutolinkLiteral.{letters, one_word_of}
use Rattle.markdown_model.proofs.GrammarSteps.{bind-some, bind-none, one-here, one-other, one-end, either-some, either-second}
use Rattle.markdown_block_model.specs.HtmlStarts.{leaves_nothing, is_named, holds_within}
use Rattle.markdown_block_line.specs.LineWords.{begins_in_any_case, is_word, holds_value}
use Rattle.markdown_block_line.proofs.RestValues.{by_bool}

-- Exact words.

abbrev pub is_same : ℕ → ℕ → Bool
is_same v n = v == n

same-turned : (v n : ℕ) → (v == n) ≡ (n == v)
same-turned v n = grind (arith, nat_tests)

pub word-is : (ns : List ℕ) (cs : List Code) → word_of ns cs ≡ (if starts_with is_same (values_of cs) ns then Some (take (length ns) cs, drop (length ns) cs) else None)
unfolding word_of
word-is [] cs = refl
word-is (n ∷ ns) [] = refl
word-is (n ∷ ns) (c ∷ cs) = by_bool (c.value == n)
    (λ (e : (c.value == n) ≡ true).
    let f : (n == c.value) ≡ true = same-turned n c.value ∙ e in
    rw (e, word_of) (ap (with_first c) (word-is ns cs) ∙ more (starts_with is_same (values_of cs) ns) ∙ ap (λ b. if b && starts_with is_same (values_of cs) ns then Some (c ∷ take (length ns) cs, drop (length ns) cs) else None) (sym f)))
    (λ (e : (c.value == n) ≡ false).
    let f : (n == c.value) ≡ false = same-turned n c.value ∙ e in
    rw (e, word_of) (ap (λ b. if b && starts_with is_same (values_of cs) ns then Some (c ∷ take (length ns) cs, drop (length ns) cs) else None) (sym f)))
  where
    more : (b : Bool) → with_first c (if b then Some (take (length ns) cs, drop (length ns) cs) else None) ≡ (if b then Some (c ∷ take (length ns) cs, drop (length ns) cs) else None)
    more true = refl
    more false = refl

pub word-here : (ns : List ℕ) (cs : List Code) (vs : List ℕ) (b : Bool) → values_of cs ≡ vs → b ≡ starts_with is_same vs ns → is_some (word_of ns cs) ≡ b
word-here ns cs vs b h e =
    ap (λ (o : Option (List Code × List Code)). is_some o) (word-is ns cs ∙ ap (λ v. if v then Some (take (length ns) cs, drop (length ns) cs) else None) (ap (λ us. starts_with is_same us ns) h ∙ sym e)) ∙ found b
  where
    found : (b : Bool) → is_some {T = List Code × List Code} (if b then Some (take (length ns) cs, drop (length ns) cs) else None) ≡ b
    found true = refl
    found false = refl

-- Words in either case.

abbrev is_letter_for : ℕ → Code → Bool
is_letter_for n c = c.value == n || (is_letter c && c.value + 32 == n)

letters-none : (n : ℕ) (ns : List ℕ) → letters (n ∷ ns) [] ≡ None
unfolding letters
letters-none n ns = bind-none (one (is_letter_for n)) _ [] (one-end (is_letter_for n))

letters-other : (n : ℕ) (ns : List ℕ) (c : Code) (cs : List Code) → is_letter_for n c ≡ false → letters (n ∷ ns) (c ∷ cs) ≡ None
unfolding letters
letters-other n ns c cs e = bind-none (one (is_letter_for n)) _ (c ∷ cs) (one-other (is_letter_for n) c cs e)

letters-more : (n : ℕ) (ns : List ℕ) (c : Code) (cs : List Code) (o : Option (List Code × List Code)) → is_letter_for n c ≡ true → letters ns cs ≡ o → letters (n ∷ ns) (c ∷ cs) ≡ with_first c o
unfolding letters gives
letters-more n ns c cs None e h = bind-some (one (is_letter_for n)) _ (c ∷ cs) (c ∷ []) cs None (one-here (is_letter_for n) c cs e) (bind-none (letters ns) _ cs h)
letters-more n ns c cs (Some r) e h = bind-some (one (is_letter_for n)) _ (c ∷ cs) (c ∷ []) cs (Some (c ∷ r.0, r.1)) (one-here (is_letter_for n) c cs e) (bind-some (letters ns) _ cs r.0 r.1 (Some (c ∷ r.0, r.1)) h refl)

letters-end : (cs : List Code) → letters [] cs ≡ Some ([], cs)
unfolding letters gives
letters-end cs = refl

some-first : (c : Code) (o : Option (List Code × List Code)) → is_some (with_first c o) ≡ is_some o
some-first c None = refl
some-first c (Some r) = refl

nothing-first : (c : Code) (o : Option (List Code × List Code)) → leaves_nothing (with_first c o) ≡ leaves_nothing o
nothing-first c None = refl
nothing-first c (Some r) = refl

letters-begin : (ns : List ℕ) (cs : List Code) → is_some (letters ns cs) ≡ begins_in_any_case ns (values_of cs)
letters-begin [] cs = ap is_some (letters-end cs)
letters-begin (n ∷ ns) [] = ap is_some (letters-none n ns)
letters-begin (n ∷ ns) (c ∷ cs) = by_bool (is_letter_for n c)
    (λ (e : is_letter_for n c ≡ true).
    ap is_some (letters-more n ns c cs (letters ns cs) e refl) ∙ some-first c (letters ns cs) ∙ letters-begin ns cs ∙ ap (λ b. b && begins_in_any_case ns (values_of cs)) (sym e))
    (λ (e : is_letter_for n c ≡ false). ap is_some (letters-other n ns c cs e) ∙ ap (λ b. b && begins_in_any_case ns (values_of cs)) (sym e))

letters-whole : (ns : List ℕ) (cs : List Code) → leaves_nothing (letters ns cs) ≡ (begins_in_any_case ns (values_of cs) && length (values_of cs) == length ns)
letters-whole [] [] = ap leaves_nothing (letters-end [])
letters-whole [] (c ∷ cs) = ap leaves_nothing (letters-end (c ∷ cs)) ∙ sym (longer (length (values_of cs)))
  where
    longer : (k : ℕ) → (suc k == 0) ≡ false
    longer k = grind (arith, nat_tests)
letters-whole (n ∷ ns) [] = ap leaves_nothing (letters-none n ns)
letters-whole (n ∷ ns) (c ∷ cs) = by_bool (is_letter_for n c)
    (λ (e : is_letter_for n c ≡ true).
    ap leaves_nothing (letters-more n ns c cs (letters ns cs) e refl) ∙ nothing-first c (letters ns cs) ∙ letters-whole ns cs
    ∙ ap (λ b. begins_in_any_case ns (values_of cs) && b) (both (length (values_of cs)) (length ns))
    ∙ ap (λ b. b && begins_in_any_case ns (values_of cs) && suc (length (values_of cs)) == suc (length ns)) (sym e))
    (λ (e : is_letter_for n c ≡ false).
    ap leaves_nothing (letters-other n ns c cs e) ∙ ap (λ b. b && begins_in_any_case ns (values_of cs) && suc (length (values_of cs)) == suc (length ns)) (sym e))
  where
    both : (a b : ℕ) → (a == b) ≡ (suc a == suc b)
    both a b = grind (arith, nat_tests)

any-same : {A : Type 0} (p q : A → Bool) (xs : List A) → ((x : A) → p x ≡ q x) → list_any p xs ≡ list_any q xs
any-same p q [] h = refl
any-same p q (x ∷ xs) h = ap (λ b. b || list_any p xs) (h x) ∙ ap (λ b. q x || b) (any-same p q xs h)

pub named-is : (words : List (List ℕ)) (cs : List Code) (vs : List ℕ) → values_of cs ≡ vs → is_named words cs ≡ list_any (is_word true vs) words
named-is words cs vs h =
    any-same (λ n. leaves_nothing (letters n cs)) (is_word true (values_of cs)) words (λ n. letters-whole n cs)
    ∙ ap (λ us. list_any (is_word true us) words) h

one-begins : (words : List (List ℕ)) (cs : List Code) → is_some (one_word_of words cs) ≡ list_any (is_word false (values_of cs)) words
unfolding one_word_of
one-begins [] cs = refl
one-begins (w ∷ ws) cs = by_found (letters w cs) refl (one-begins ws cs)
  where
    kept : (b : Bool) → b ≡ (b && true)
    kept true = refl
    kept false = refl

    by_found : (o : Option (List Code × List Code)) → letters w cs ≡ o → is_some (one_word_of ws cs) ≡ list_any (is_word false (values_of cs)) ws → is_some (either (letters w) (one_word_of ws) cs) ≡ (is_word false (values_of cs) w || list_any (is_word false (values_of cs)) ws)
    by_found None e more =
        let x : is_word false (values_of cs) w ≡ false = sym (kept (begins_in_any_case w (values_of cs))) ∙ sym (letters-begin w cs) ∙ ap is_some e in
        ap is_some (either-second (letters w) (one_word_of ws) cs e) ∙ more ∙ ap (λ b. b || list_any (is_word false (values_of cs)) ws) (sym x)
    by_found (Some r) e more =
        let x : is_word false (values_of cs) w ≡ true = sym (kept (begins_in_any_case w (values_of cs))) ∙ sym (letters-begin w cs) ∙ ap is_some e in
        ap is_some (either-some (letters w) (one_word_of ws) cs r e) ∙ ap (λ b. b || list_any (is_word false (values_of cs)) ws) (sym x)

-- Words somewhere.

holds-by : (a : Reading (List Code)) (p : List ℕ → Bool) (cs : List Code) → ((ds : List Code) → is_some (a ds) ≡ p (values_of ds)) → holds_within a cs ≡ holds_value p (values_of cs)
holds-by a p [] h = refl
holds-by a p (c ∷ cs) h = ap (λ b. b || holds_within a cs) (h (c ∷ cs)) ∙ ap (λ b. p (values_of (c ∷ cs)) || b) (holds-by a p cs h)

pub holds-word : (ns : List ℕ) (cs : List Code) (vs : List ℕ) → values_of cs ≡ vs → holds_within (word_of ns) cs ≡ holds_value (λ us. starts_with is_same us ns) vs
holds-word ns cs vs h = holds-by (word_of ns) (λ us. starts_with is_same us ns) cs (λ ds. word-here ns ds (values_of ds) _ refl refl) ∙ ap (holds_value (λ us. starts_with is_same us ns)) h

pub holds-one : (words : List (List ℕ)) (cs : List Code) (vs : List ℕ) → values_of cs ≡ vs → holds_within (one_word_of words) cs ≡ holds_value (λ us. list_any (is_word false us) words) vs
holds-one words cs vs h = holds-by (one_word_of words) (λ us. list_any (is_word false us) words) cs (one-begins words) ∙ ap (holds_value (λ us. list_any (is_word false us) words)) h
