-- What autolink literals read, by what stands there.
use Rattle.std.proofs.Common.{◌≡◌, ℕ, zero, suc, ◌+◌, ◌≤◌, ◌==◌, ◌&&◌, ◌||◌, not, Bool, true, false, if◌then◌else◌, Option, Some, None, List, [], ◌∷◌, ◌++◌, length, nat_lt, reverse, append_assoc, append-nil, refl, sym, ap, subst, ◌∙◌, arith}
use Rattle.std.specs.Prelude.{codes}
use Rattle.std.specs.List.{list_all, list_any}
use Rattle.std.proofs.lemmas.List.{reverse-append}
use Rattle.std.proofs.lemmas.Bool.Decides.{nat_tests}
use Rattle.std.proofs.lemmas.Bool.{eqb-true}
use Rattle.markdown_content.specs.Codes.{Code}
use Rattle.markdown_engine.specs.Operations.{Op, Consume}
use Rattle.markdown_engine.specs.TreeOps.{consumes}
use Rattle.markdown_engine.specs.declared.tokenizer.TokenizeState.{TokenizeState}
use Rattle.markdown_model.specs.CodeTests.{is_value, is_among, is_empty, next_is}
use Rattle.markdown_model.specs.Grammar.{◌then_◌, with_first}
use Rattle.markdown_model.specs.GfmAutolinkLiteral.{schemes, letters, one_word_of, last_parts_plain, is_domain, domain, domain_from, is_domain_code, path, path_from, ends_path, count_if}
use Rattle.markdown_plan.specs.ByteTests.{letter_value}
use Rattle.markdown_plan.specs.Plan.{preceded}
use Rattle.markdown_plan.specs.PrecededReadings.{after}
use Rattle.markdown_plan.proofs.PrecededReadingLemmas.{then-after}
use Rattle.markdown_plan.proofs.PlanSteps.{consumes-append}
use Rattle.markdown_leaf_gfm.specs.GfmAutolinkLiteral.{one_named, longest, words_behind, are_schemes, www_letter, www_test, rested, saw, underscored, dotted, is_well, passed_code, fields_after, pass_ops, path_plan, domain_plan, domain_after_plan, address, protocol_reading, slashes_plan, prefix_plan}
use Rattle.markdown_leaf_gfm.proofs.LettersOfWords.{letter_test, letters-more, letters-none, letters-nil}
use Rattle.markdown_leaf_gfm.proofs.SchemesLeft.{tails, one_begins, schemes-behind, words-more-behind, words-more, words-none, words-end, colon-read, named-begin, no-other, no-longer}
use Rattle.markdown_model.proofs.GrammarSteps.{then-some, then-none, if-true, if-false}

-- Domains: their fields, code by code.

-- whether a code of a domain is a character of class other
abbrev pub is_seen : Code → Bool
is_seen c = not (is_among (codes "._-") c)

or-here : (a b : Bool) → a || (true || b) ≡ true
or-here true b = refl
or-here false b = refl

-- what the fields say of the codes before, the last one first
record Says (s : TokenizeState) (before : List Code) : Type 0 where
  last : last_parts_plain 1 before ≡ not (s.marker == 95)
  both : last_parts_plain 0 before ≡ not (s.marker == 95) && not (s.marker_b == 95)

dot-says : (s : TokenizeState) (c : Code) (before : List Code) → (c.value == 46) ≡ true → Says s before →
    Says (dotted s) (c ∷ before)
dot-says s c before e k = record { last = rw (e, last_parts_plain) refl; both = rw (e, last_parts_plain) k.last }

underscore-says : (s : TokenizeState) (c : Code) (before : List Code) → (c.value == 46) ≡ false →
    (c.value == 95) ≡ true → Says s before → Says (underscored s) (c ∷ before)
underscore-says s c before e h k =
    record { last = rw (e, h, last_parts_plain) refl; both = rw (e, h, last_parts_plain) refl }

plain-says : (s : TokenizeState) (c : Code) (before : List Code) → (c.value == 46) ≡ false → (c.value == 95) ≡ false →
    Says s before → Says s (c ∷ before)
plain-says s c before e h k =
    record { last = rw (e, h, last_parts_plain) k.last; both = rw (e, h, last_parts_plain) k.both }

saw-says : (s : TokenizeState) (before : List Code) → Says s before → Says (saw s) before
saw-says s before k = record { last = k.last; both = k.both }

-- The fold over the codes of a domain is the definition's test.

-- a list the other way round, before another one
unfoldable pub turned : List Code → List Code → List Code
turned [] before = before
turned (c ∷ cs) before = turned cs (c ∷ before)

pub turned-is : (cs before : List Code) → turned cs before ≡ reverse cs ++ before
unfolding turned
turned-is [] before = refl
turned-is (c ∷ cs) before =
    turned-is cs (c ∷ before)
    ∙ sym (append_assoc (reverse cs) (c ∷ []) before)
    ∙ ap (λ xs. xs ++ before) (sym (reverse-append (c ∷ []) cs))

whole-test : TokenizeState → List Code → List Code → Bool
whole-test s cs before = (s.seen || list_any is_seen cs) && last_parts_plain 0 (turned cs before)

fold-by : (c : Code) (cs before : List Code) (s r : TokenizeState) → passed_code c s ≡ r →
    is_well (fields_after cs r) ≡ whole-test r cs (c ∷ before) →
    (r.seen || list_any is_seen cs) ≡ (s.seen || (is_seen c || list_any is_seen cs)) →
    is_well (fields_after (c ∷ cs) s) ≡ whole-test s (c ∷ cs) before
unfolding whole-test turned
fold-by c cs before s r e h k =
    ap (λ (q : TokenizeState). is_well (fields_after cs q)) e ∙ h ∙ ap (λ b. b && last_parts_plain 0 (turned cs (c ∷ before))) k

end-test : (a b x : Bool) → x ≡ b → a && b ≡ (a || false) && x
end-test true b x e = sym e
end-test false b x e = refl

fold-is : (cs before : List Code) (s : TokenizeState) → Says s before →
    is_well (fields_after cs s) ≡ whole-test s cs before
unfolding whole-test turned
fold-is [] before s k = end-test s.seen _ _ k.both
fold-is (c ∷ cs) before s k =
    let Goal : Type 0 = is_well (fields_after (c ∷ cs) s) ≡ whole-test s (c ∷ cs) before in
    let rest : Bool = list_any is_seen cs in
    elim (c.value == 46) as (λ b. (c.value == 46) ≡ b → Goal) [
      | true ↦ λ e. fold-by c cs before s (dotted s) (if-true _ _ _ e) (fold-is cs (c ∷ before) (dotted s) (dot-says s c before e k)) (ap (λ b. s.seen || (not (b || (c.value == 95 || (c.value == 45 || false))) || rest)) (sym e))
      | false ↦ λ e. elim (c.value == 95) as (λ b. (c.value == 95) ≡ b → Goal) [
        | true ↦ λ h. fold-by c cs before s (underscored s) (if-false _ _ _ e ∙ if-true _ _ _ h) (fold-is cs (c ∷ before) (underscored s) (underscore-says s c before e h k))
            (ap (λ b. s.seen || (not (false || (b || (c.value == 45 || false))) || rest)) (sym h) ∙ ap (λ b. s.seen || (not (b || (c.value == 95 || (c.value == 45 || false))) || rest)) (sym e))
        | false ↦ λ h. elim (c.value == 45) as (λ b. (c.value == 45) ≡ b → Goal) [
          | true ↦ λ f. fold-by c cs before s s (if-false _ _ _ e ∙ if-false _ _ _ h ∙ if-true _ _ _ f) (fold-is cs (c ∷ before) s (plain-says s c before e h k))
              (ap (λ b. s.seen || (not (false || (false || (b || false))) || rest)) (sym f) ∙ ap (λ b. s.seen || (not (false || (b || (c.value == 45 || false))) || rest)) (sym h) ∙ ap (λ b. s.seen || (not (b || (c.value == 95 || (c.value == 45 || false))) || rest)) (sym e))
          | false ↦ λ f. fold-by c cs before s (saw s) (if-false _ _ _ e ∙ if-false _ _ _ h ∙ if-false _ _ _ f) (fold-is cs (c ∷ before) (saw s) (saw-says s (c ∷ before) (plain-says s c before e h k)))
              (sym (or-here s.seen rest) ∙ ap (λ b. s.seen || (not (false || (false || (b || false))) || rest)) (sym f) ∙ ap (λ b. s.seen || (not (false || (b || (c.value == 45 || false))) || rest)) (sym h) ∙ ap (λ b. s.seen || (not (b || (c.value == 95 || (c.value == 45 || false))) || rest)) (sym e))
        ] refl
      ] refl
    ] refl

says-rested : (s : TokenizeState) → rested s ≡ s → Says s []
says-rested s e = subst (λ (q : TokenizeState). Says q []) e (record { last = refl; both = refl })

domain-test : (s : TokenizeState) (cs : List Code) → rested s ≡ s → is_well (fields_after cs s) ≡ is_domain cs
unfolding whole-test turned
domain-test s cs e =
    fold-is cs [] s (says-rested s e) ∙ ap (λ xs. (s.seen || list_any is_seen cs) && last_parts_plain 0 xs) (turned-is cs [] ∙ append-nil (reverse cs)) ∙ ap (λ (q : TokenizeState). (q.seen || list_any is_seen cs) && last_parts_plain 0 (reverse cs)) (sym e)

-- Domains and paths, code by code.

preceded-if : (o : Op) (b : Bool) (os : List Op) →
    (if b then Some (o ∷ os) else None) ≡ preceded (o ∷ []) (if b then Some os else None)
preceded-if o true os = refl
preceded-if o false os = refl

module _ (bytes : List ℕ) (end : ℕ) where
  -- the rest of a domain, from its front
  domain_of : TokenizeState → List Code × List Code → Option (List Op)
  domain_of s d =
      if is_well (fields_after d.0 s) then Some (consumes d.0 ++ consumes (path_from bytes end s.size s.size_b d.1).0) else None

  first_of : Bool → Code → List Code → List Code × List Code
  first_of b c cs =
      elim b [ true ↦ (c ∷ (domain_from bytes end cs).0, (domain_from bytes end cs).1) | false ↦ ([], c ∷ cs) ]

  more-of : (s r : TokenizeState) (c : Code) (d : List Code × List Code) → passed_code c s ≡ r → r.size ≡ s.size →
      r.size_b ≡ s.size_b → domain_of s (c ∷ d.0, d.1) ≡ preceded (Consume ∷ []) (domain_of r d)
  unfolding domain_of
  more-of s r c d e m n =
      ap (λ (q : TokenizeState). if is_well (fields_after d.0 q) then Some (Consume ∷ consumes d.0 ++ consumes (path_from bytes end s.size s.size_b d.1).0) else None) e
      ∙ ap (λ (k : ℕ). if is_well (fields_after d.0 r) then Some (Consume ∷ consumes d.0 ++ consumes (path_from bytes end k s.size_b d.1).0) else None) (sym m)
      ∙ ap (λ (k : ℕ). if is_well (fields_after d.0 r) then Some (Consume ∷ consumes d.0 ++ consumes (path_from bytes end r.size k d.1).0) else None) (sym n)
      ∙ preceded-if Consume (is_well (fields_after d.0 r)) _

  pub domain-more : (s r : TokenizeState) (c : Code) (cs : List Code) → is_domain_code bytes end (c ∷ cs) ≡ true →
      passed_code c s ≡ r → r.size ≡ s.size → r.size_b ≡ s.size_b →
      domain_plan bytes end s (c ∷ cs) ≡ preceded (Consume ∷ []) (domain_plan bytes end r cs)
  unfolding domain_of first_of
  domain-more s r c cs h e m n =
      ap (λ b. domain_of s (first_of b c cs)) h ∙ more-of s r c (domain_from bytes end cs) e m n

  pub domain-stop : (s : TokenizeState) (c : Code) (cs : List Code) → is_domain_code bytes end (c ∷ cs) ≡ false →
      domain_plan bytes end s (c ∷ cs) ≡ domain_after_plan bytes end s (c ∷ cs)
  unfolding domain_of first_of
  domain-stop s c cs h = ap (λ b. domain_of s (first_of b c cs)) h

  pub domain-end : (s : TokenizeState) → domain_plan bytes end s [] ≡ domain_after_plan bytes end s []
  domain-end s = refl

  -- a domain and a path, with the fields at rest
  tried : (s : TokenizeState) (cs : List Code) (b : Bool) → is_domain (domain_from bytes end cs).0 ≡ b →
      is_well (fields_after (domain_from bytes end cs).0 s) ≡ b → s.size ≡ 0 → s.size_b ≡ 0 →
      pass_ops (address bytes end cs) ≡ domain_plan bytes end s cs
  unfolding domain path ◌then_◌
  tried s cs true e h m n =
      let d : List Code × List Code = domain_from bytes end cs in
      let p : ℕ → ℕ → List Code = λ j k. (path_from bytes end j k d.1).0 in
      ap pass_ops (then-some (domain bytes end) (path bytes end) cs d.0 d.1 (p 0 0) (path_from bytes end 0 0 d.1).1 (rw (e, domain) refl) refl)
      ∙ ap (λ os. Some os) (consumes-append d.0 (p 0 0))
      ∙ ap (λ j. Some (consumes d.0 ++ consumes (p j 0))) (sym m)
      ∙ ap (λ j. Some (consumes d.0 ++ consumes (p s.size j))) (sym n)
      ∙ sym (if-true _ _ _ h)
  tried s cs false e h m n =
      ap pass_ops (then-none (domain bytes end) (path bytes end) cs (rw (e, domain) refl)) ∙ sym (if-false _ _ _ h)

  pub address-is : (s : TokenizeState) (cs : List Code) → rested s ≡ s →
      pass_ops (address bytes end cs) ≡ domain_plan bytes end s cs
  address-is s cs e =
      tried s cs (is_domain (domain_from bytes end cs).0) refl (domain-test s (domain_from bytes end cs).0 e) (ap (λ (q : TokenizeState). q.size) (sym e)) (ap (λ (q : TokenizeState). q.size_b) (sym e))

  path_split_by : Bool → ℕ → ℕ → Code → List Code → List Code × List Code
  path_split_by b o k c cs =
      elim b [ true ↦ ([], c ∷ cs) | false ↦ (let s = path_from bytes end (count_if 40 c o) (count_if 41 c k) cs in (c ∷ s.0, s.1)) ]

  pub path-more : (o k : ℕ) (c : Code) (cs : List Code) → ends_path bytes end o k (c ∷ cs) ≡ false →
      path_plan bytes end o k (c ∷ cs) ≡ preceded (Consume ∷ []) (path_plan bytes end (count_if 40 c o) (count_if 41 c k) cs)
  unfolding path_split_by
  path-more o k c cs e = ap (λ b. Some (consumes (path_split_by b o k c cs).0)) e

  pub path-stop : (o k : ℕ) (c : Code) (cs : List Code) → ends_path bytes end o k (c ∷ cs) ≡ true →
      path_plan bytes end o k (c ∷ cs) ≡ Some []
  unfolding path_split_by
  path-stop o k c cs e = ap (λ b. Some (consumes (path_split_by b o k c cs).0)) e

-- Words.

pub ops-first : (c : Code) (o : Option (List Code × List Code)) →
    pass_ops (with_first c o) ≡ preceded (Consume ∷ []) (pass_ops o)
ops-first c None = refl
ops-first c (Some r) = refl

-- The slashes behind a scheme.

case-slash : (v : ℕ) → (v == 47) ≡ (v == 47 || (letter_value v && v + 32 == 47))
case-slash v = grind (arith, nat_tests)

next-same : (p q : Code → Bool) → ((c : Code) → p c ≡ q c) → (cs : List Code) → next_is p cs ≡ next_is q cs
next-same p q h [] = refl
next-same p q h (c ∷ cs) = h c

letters-here : (n : ℕ) (ns : List ℕ) (c : Code) (cs : List Code) → letter_test n c ≡ true →
    pass_ops (letters (n ∷ ns) (c ∷ cs)) ≡ preceded (Consume ∷ []) (pass_ops (letters ns cs))
letters-here n ns c cs e = ap pass_ops (letters-more n ns c cs e) ∙ ops-first c (letters ns cs)

-- Behind a front of the name of a scheme.

-- the schemes are such
pub all-schemes : are_schemes schemes ≡ true
all-schemes = refl

module _ (vs : List ℕ) (names : list_all letter_value vs ≡ true) where
  left-schemes : are_schemes (words_behind vs schemes) ≡ true
  left-schemes = schemes-behind vs schemes names all-schemes

  prefix-at : (c : Code) (cs : List Code) →
      prefix_plan vs (c ∷ cs) ≡ preceded (Consume ∷ []) (pass_ops (one_word_of (tails c.value (words_behind vs schemes)) cs))
  prefix-at c cs =
      ap pass_ops (words-more (words_behind vs schemes) c cs left-schemes) ∙ ops-first c (one_word_of (tails c.value (words_behind vs schemes)) cs)

  pub prefix-more : (c : Code) (cs : List Code) →
      prefix_plan vs (c ∷ cs) ≡ preceded (Consume ∷ []) (prefix_plan (vs ++ c.value ∷ []) cs)
  prefix-more c cs =
      prefix-at c cs ∙ ap (λ ws. preceded (Consume ∷ []) (pass_ops (one_word_of ws cs))) (sym (words-more-behind vs c.value schemes))

  pub prefix-colon : (c : Code) (cs : List Code) → (c.value == 58) ≡ true → one_named schemes vs ≡ true →
      prefix_plan vs (c ∷ cs) ≡ preceded (Consume ∷ []) (slashes_plan 0 cs)
  prefix-colon c cs e h =
      prefix-at c cs
      ∙ ap (λ v. preceded (Consume ∷ []) (pass_ops (one_word_of (tails v (words_behind vs schemes)) cs))) (eqb-true c.value 58 e)
      ∙ ap (λ o. preceded (Consume ∷ []) (pass_ops o)) (colon-read (words_behind vs schemes) cs left-schemes (sym (named-begin vs schemes) ∙ h))

  pub prefix-none : (c : Code) (cs : List Code) → one_begins (words_behind vs schemes) c.value ≡ false →
      prefix_plan vs (c ∷ cs) ≡ None
  prefix-none c cs e = ap pass_ops (words-none (words_behind vs schemes) c cs left-schemes e)

  pub prefix-end : prefix_plan vs [] ≡ None
  prefix-end = ap pass_ops (words-end (words_behind vs schemes) left-schemes)

  -- no scheme goes on with a letter behind so many, or with a colon behind another name, or with another code
  pub prefix-other : (c : Code) (cs : List Code) → (letter_value c.value && nat_lt (length vs) (longest schemes)) ≡ false →
      ((c.value == 58) && one_named schemes vs) ≡ false → prefix_plan vs (c ∷ cs) ≡ None
  prefix-other c cs e h = prefix-none c cs (by_letter (letter_value c.value) refl e)
    where
      Goal : Type 0
      Goal = one_begins (words_behind vs schemes) c.value ≡ false

      many : nat_lt (length vs) (longest schemes) ≡ false → longest schemes ≤ length vs
      many k = grind (arith, nat_tests)

      by_colon : letter_value c.value ≡ false → (t : Bool) → (c.value == 58) ≡ t → (t && one_named schemes vs) ≡ false → Goal
      by_colon l true f k =
          ap (one_begins (words_behind vs schemes)) (eqb-true c.value 58 f) ∙ sym (named-begin vs schemes) ∙ k
      by_colon l false f k = no-other (words_behind vs schemes) c.value left-schemes l f

      by_letter : (t : Bool) → letter_value c.value ≡ t → (t && nat_lt (length vs) (longest schemes)) ≡ false → Goal
      by_letter true l k = no-longer vs schemes c.value names l (many k)
      by_letter false l k = by_colon l (c.value == 58) refl h

pub slashes-more : (n : ℕ) (c : Code) (cs : List Code) → (c.value == 47) ≡ true → (n == 0) ≡ true →
    slashes_plan n (c ∷ cs) ≡ preceded (Consume ∷ []) (slashes_plan 1 cs)
slashes-more n c cs e h =
    ap pass_ops (ap (λ ns. letters ns (c ∷ cs)) (if-true _ (codes "//") (codes "/") h)) ∙ letters-here 47 _ c cs (sym (case-slash c.value) ∙ e)

pub slashes-last : (n : ℕ) (c : Code) (cs : List Code) → (c.value == 47) ≡ true → (n == 0) ≡ false →
    slashes_plan n (c ∷ cs) ≡ Some (Consume ∷ [])
slashes-last n c cs e h =
    ap pass_ops (ap (λ ns. letters ns (c ∷ cs)) (if-false _ (codes "//") (codes "/") h))
    ∙ letters-here 47 [] c cs (sym (case-slash c.value) ∙ e)
    ∙ ap (λ o. preceded (Consume ∷ []) (pass_ops o)) (letters-nil cs)

none-by : (b : Bool) (cs : List Code) → next_is (is_value 47) cs ≡ false →
    pass_ops (letters (if b then codes "//" else codes "/") cs) ≡ None
none-by true cs e =
    ap pass_ops (letters-none 47 _ cs (next-same (letter_test 47) (is_value 47) (λ c. sym (case-slash c.value)) cs ∙ e))
none-by false cs e =
    ap pass_ops (letters-none 47 _ cs (next-same (letter_test 47) (is_value 47) (λ c. sym (case-slash c.value)) cs ∙ e))

pub slashes-none : (n : ℕ) (cs : List Code) → next_is (is_value 47) cs ≡ false → slashes_plan n cs ≡ None
slashes-none n cs e = none-by (n == 0) cs e

-- A scheme, and the address behind it.

ops-after : (x : List Code) (o : Option (List Code × List Code)) →
    pass_ops (after x o) ≡ preceded (consumes x) (pass_ops o)
ops-after x None = refl
ops-after x (Some r) = ap (λ os. Some os) (consumes-append x r.0)

module _ (bytes : List ℕ) (end : ℕ) where
  pub protocol-behind : (cs x rest : List Code) (s : TokenizeState) → one_word_of schemes cs ≡ Some (x, rest) →
      rested s ≡ s → pass_ops (protocol_reading bytes end cs) ≡ preceded (consumes x) (domain_plan bytes end s rest)
  protocol-behind cs x rest s e h =
      ap pass_ops (then-after (one_word_of schemes) (address bytes end) cs x rest e)
      ∙ ops-after x (address bytes end rest)
      ∙ ap (preceded (consumes x)) (address-is bytes end s rest h)

  pub protocol-none : (cs : List Code) → prefix_plan [] cs ≡ None → protocol_reading bytes end cs ≡ None
  protocol-none cs e = then-none (one_word_of schemes) (address bytes end) cs (read-none (one_word_of schemes cs) e)
    where
      read-none : (o : Option (List Code × List Code)) → pass_ops o ≡ None → o ≡ None
      read-none None k = refl
      read-none (Some r) k = cc

-- The word `www.`.

case-w : (v : ℕ) → (v == 119 || v == 87) ≡ (v == 119 || (letter_value v && v + 32 == 119))
case-w v = grind (arith, nat_tests)

case-dot : (v : ℕ) → (v == 46) ≡ (v == 46 || (letter_value v && v + 32 == 46))
case-dot v = grind (arith, nat_tests)

-- a code is left after it
left-after : Option (List Code × List Code) → Bool
left-after None = false
left-after (Some r) = not (is_empty r.1)

left-same : (o : Option (List Code × List Code)) →
    elim o as (λ _. Bool) [ None ↦ false | Some r ↦ not (is_empty r.1) ] ≡ left-after o
unfolding left-after
left-same None = refl
left-same (Some r) = refl

left-first : (c : Code) (o : Option (List Code × List Code)) → left-after (with_first c o) ≡ left-after o
unfolding left-after
left-first c None = refl
left-first c (Some r) = refl

word-more : (n : ℕ) (ns : List ℕ) (c : Code) (cs : List Code) → letter_test n c ≡ true →
    left-after (letters (n ∷ ns) (c ∷ cs)) ≡ left-after (letters ns cs)
word-more n ns c cs e = ap left-after (letters-more n ns c cs e) ∙ left-first c (letters ns cs)

word-none : (n : ℕ) (ns : List ℕ) (cs : List Code) → next_is (letter_test n) cs ≡ false →
    left-after (letters (n ∷ ns) cs) ≡ false
unfolding left-after
word-none n ns cs e = ap left-after (letters-none n ns cs e)

many-w : (n v : ℕ) → 4 ≤ n → www_letter n v ≡ false
many-w n v h = grind (arith, nat_tests)

pub www-more : (n : ℕ) (c : Code) (cs : List Code) → www_letter n c.value ≡ true →
    www_test n (c ∷ cs) ≡ www_test (n + 1) cs
www-more zero c cs e = left-same _ ∙ word-more 119 _ c cs (sym (case-w c.value) ∙ e) ∙ sym (left-same _)
www-more (suc zero) c cs e = left-same _ ∙ word-more 119 _ c cs (sym (case-w c.value) ∙ e) ∙ sym (left-same _)
www-more (suc (suc zero)) c cs e = left-same _ ∙ word-more 119 _ c cs (sym (case-w c.value) ∙ e) ∙ sym (left-same _)
www-more (suc (suc (suc zero))) c cs e =
    left-same _ ∙ word-more 46 _ c cs (sym (case-dot c.value) ∙ e) ∙ sym (left-same _)
www-more (suc (suc (suc (suc n)))) c cs e =
    let no : false ≡ true = sym (many-w (suc (suc (suc (suc n)))) c.value (omega arith)) ∙ e in cc

pub www-other : (n : ℕ) (cs : List Code) → n ≤ 3 → next_is (λ c. www_letter n c.value) cs ≡ false →
    www_test n cs ≡ false
www-other zero cs h e =
    left-same _ ∙ word-none 119 _ cs (next-same (letter_test 119) _ (λ c. sym (case-w c.value)) cs ∙ e)
www-other (suc zero) cs h e =
    left-same _ ∙ word-none 119 _ cs (next-same (letter_test 119) _ (λ c. sym (case-w c.value)) cs ∙ e)
www-other (suc (suc zero)) cs h e =
    left-same _ ∙ word-none 119 _ cs (next-same (letter_test 119) _ (λ c. sym (case-w c.value)) cs ∙ e)
www-other (suc (suc (suc zero))) cs h e =
    left-same _ ∙ word-none 46 _ cs (next-same (letter_test 46) _ (λ c. sym (case-dot c.value)) cs ∙ e)
www-other (suc (suc (suc (suc n)))) cs h e = absurd (omega (arith, h))

pub www-left : (cs : List Code) → www_test 4 cs ≡ not (is_empty cs)
www-left cs =
    ap (λ (o : Option (List Code × List Code)). elim o as (λ _. Bool) [ None ↦ false | Some r ↦ not (is_empty r.1) ]) (letters-nil cs)
