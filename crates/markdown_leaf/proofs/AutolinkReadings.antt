-- What the reading of an autolink gives, by what stands there.
use Rattle.std.proofs.Common.{◌≡◌, ℕ, ◌+◌, ◌<◌, ◌≤◌, Bool, true, false, ◌&&◌, ◌||◌, nat_le, if◌then◌else◌, Option, Some, None, List, [], ◌∷◌, ◌++◌, length, refl, sym, ap, ◌∙◌, arith}
use Rattle.std.proofs.lemmas.Bool.{eqb-true}
use Rattle.std.proofs.lemmas.Bool.Decides.{nat_tests}
use Rattle.std.proofs.lemmas.Grind.{common_steps}
use Rattle.markdown_content.specs.Codes.{Code}
use Rattle.markdown_engine.specs.Operations.{Op, Consume}
use Rattle.markdown_engine.specs.TreeOps.{consumes}
use Rattle.markdown_event.specs.declared.event.Name.{Name}
use Rattle.markdown_model.specs.CodeTests.{is_value, is_between, is_letter, is_alphanumeric, is_some_code, last_code, next_is, is_length_in}
use Rattle.markdown_model.specs.Grammar.{Reading, ◌>>◌, ◌then_◌, gives, one, some, provided, any_number, span, with_first}
use Rattle.markdown_model.specs.LeafConstructs.{scheme, uri, email_address, domain_label, is_scheme_code, is_uri_code, is_local_code}
use Rattle.markdown_plan.specs.PrecededReadings.{after}
use Rattle.markdown_leaf.specs.Autolink.{ended, up_to_bracket, or_else, ending, scheme_rest, local_rest, domains, more_labels, is_label_code, ends_well, label_rest, scheme_value, local_value}
use Rattle.markdown_plan.specs.LateNames.{preceded_by}
use Rattle.markdown_plan.proofs.PrecededReadingLemmas.{after-more, after-none, after-one, then-after}
use Rattle.markdown_leaf.proofs.RawTextReadings.{counted, none-more, one-more, some-here, some-none}
use Rattle.markdown_model.proofs.GrammarSteps.{bind-some, bind-none, one-here, one-not, some-span, some-nothing, any-number-is, then-some, then-none, then-other, switched-on, switched-off, span-takes, span-none}

-- The end of the link.

ended-more : (n : Name) (c : Code) (o : Option (List Code × List Code)) →
    ended n (with_first c o) ≡ preceded_by (Consume ∷ []) (ended n o)
ended-more n c None = refl
ended-more n c (Some r) =
    elim (next_is (is_value 62) r.1) as (λ b. (if b then Some (n, Consume ∷ (consumes r.0 ++ ending n)) else None) ≡ preceded_by (Consume ∷ []) (if b then Some (n, consumes r.0 ++ ending n) else None)) [
      | true ↦ refl
      | false ↦ refl
    ]

pub bracket-next : (n : Name) (a b : Reading (List Code)) (c : Code) (cs : List Code) →
    a (c ∷ cs) ≡ with_first c (b cs) → up_to_bracket n a (c ∷ cs) ≡ preceded_by (Consume ∷ []) (up_to_bracket n b cs)
bracket-next n a b c cs e = ap (ended n) e ∙ ended-more n c (b cs)

pub or-next : (os : List Op) (a b : Option (Name × List Op)) →
    or_else (preceded_by os a) (preceded_by os b) ≡ preceded_by os (or_else a b)
or-next os None b = refl
or-next os (Some x) b = refl

-- Schemes.

if-after : (b : Bool) (c : Code) (front : List Code) (o : Option (List Code × List Code)) →
    (if b then after (c ∷ front) o else None) ≡ with_first c (if b then after front o else None)
if-after true c front o = after-more c front o
if-after false c front o = refl

if-none : (b : Bool) (o : Option (List Code × List Code)) → o ≡ None → (if b then o else None) ≡ None
if-none true o e = e
if-none false o e = refl

-- NUL is read as U+FFFD or is not.
module _ (replaced : Bool) where
  abbrev colon : Reading (List Code)
  colon = one (is_value 58) then_ any_number (is_uri_code replaced)

  pub scheme-more : (k : ℕ) (c : Code) (cs : List Code) → is_scheme_code c ≡ true →
      scheme_rest replaced k (c ∷ cs) ≡ with_first c (scheme_rest replaced (k + 1) cs)
  scheme-more k c cs h =
      let s : List Code × List Code = span is_scheme_code cs in
      ap (λ (r : List Code × List Code). if is_between 2 32 (k + length r.0) then after r.0 (colon r.1) else None) (span-takes is_scheme_code c cs h)
      ∙ ap (λ n. if is_between 2 32 n then after (c ∷ s.0) (colon s.1) else None) (counted k s.0 c)
      ∙ if-after (is_between 2 32 (k + 1 + length s.0)) c s.0 (colon s.1)

  pub scheme-here : (k : ℕ) (cs : List Code) → next_is is_scheme_code cs ≡ false →
      scheme_rest replaced k cs ≡ (if is_between 2 32 k then after [] (colon cs) else None)
  scheme-here k cs h =
      ap (λ (r : List Code × List Code). if is_between 2 32 (k + length r.0) then after r.0 (colon r.1) else None) (span-none is_scheme_code cs h)
      ∙ ap (λ n. if is_between 2 32 n then after [] (colon cs) else None) (none-more k)

  colon-here : (c : Code) (cs : List Code) → is_value 58 c ≡ true →
      colon (c ∷ cs) ≡ with_first c (any_number (is_uri_code replaced) cs)
  colon-here c cs h =
      then-after (one (is_value 58)) (any_number (is_uri_code replaced)) (c ∷ cs) (c ∷ []) cs (one-here (is_value 58) c cs h) ∙ after-one c (any_number (is_uri_code replaced) cs)

  within-is : (a b k : ℕ) → a ≤ k → k ≤ b → is_between a b k ≡ true
  within-is a b k h l = grind (arith, nat_tests, common_steps)

  beyond-is : (a b k : ℕ) → b < k → is_between a b k ≡ false
  beyond-is a b k h = grind (arith, nat_tests, common_steps)

  pub scheme-colon : (k : ℕ) (c : Code) (cs : List Code) → is_value 58 c ≡ true → 2 ≤ k → k ≤ 32 →
      scheme_rest replaced k (c ∷ cs) ≡ with_first c (any_number (is_uri_code replaced) cs)
  scheme-colon k c cs h l m =
      scheme-here k (c ∷ cs) (ap scheme_value (eqb-true c.value 58 h))
      ∙ ap (λ b. if b then after [] (colon (c ∷ cs)) else None) (within-is 2 32 k l m)
      ∙ after-none (colon (c ∷ cs))
      ∙ colon-here c cs h

  pub scheme-other : (k : ℕ) (cs : List Code) → next_is is_scheme_code cs ≡ false → next_is (is_value 58) cs ≡ false →
      scheme_rest replaced k cs ≡ None
  scheme-other k cs h l =
      scheme-here k cs h ∙ if-none (is_between 2 32 k) (after [] (colon cs)) (ap (after []) (then-none (one (is_value 58)) (any_number (is_uri_code replaced)) cs (one-not (is_value 58) cs l)))

  longer : (k : ℕ) (c : Code) (cs : List Code) → 32 ≤ k → 32 < k + length (c ∷ cs)
  longer k c cs h = omega (arith, h)

  pub scheme-long : (k : ℕ) (c : Code) (cs : List Code) → is_scheme_code c ≡ true → 32 ≤ k → scheme_rest replaced k (c ∷ cs) ≡ None
  scheme-long k c cs h l =
      let s : List Code × List Code = span is_scheme_code cs in
      ap (λ (r : List Code × List Code). if is_between 2 32 (k + length r.0) then after r.0 (colon r.1) else None) (span-takes is_scheme_code c cs h)
      ∙ ap (λ b. if b then after (c ∷ s.0) (colon s.1) else None) (beyond-is 2 32 (k + length (c ∷ s.0)) (longer k c s.0 l))

  -- a scheme from its first letter on
  scheme-all : (c : Code) (cs : List Code) (r : List Code × List Code) → is_letter c ≡ true → span is_scheme_code cs ≡ r →
      scheme (c ∷ cs) ≡ (if is_between 2 32 (1 + length r.0) then Some (c ∷ r.0, r.1) else None)
  unfolding scheme gives
  scheme-all c cs ([], rest) h e =
      bind-none _ _ (c ∷ cs) (then-other (one is_letter) (some is_scheme_code) (c ∷ cs) (c ∷ []) cs (one-here is_letter c cs h) (some-nothing is_scheme_code cs rest e))
  scheme-all c cs (d ∷ ds, rest) h e =
      bind-some _ _ (c ∷ cs) (c ∷ d ∷ ds) rest _ (then-some (one is_letter) (some is_scheme_code) (c ∷ cs) (c ∷ []) cs (d ∷ ds) rest (one-here is_letter c cs h) (some-span is_scheme_code cs d ds rest e)) refl
      ∙ ap (λ n. (provided (is_between 2 32 n) >> gives (c ∷ d ∷ ds)) rest) (one-more (d ∷ ds) c)
      ∙ elim (is_between 2 32 (1 + length (d ∷ ds))) as (λ b. (provided b >> gives (c ∷ d ∷ ds)) rest ≡ (if b then Some (c ∷ d ∷ ds, rest) else None)) [
        | true ↦ switched-on (gives (c ∷ d ∷ ds)) true rest refl
        | false ↦ switched-off (gives (c ∷ d ∷ ds)) false rest refl
      ]

  uri-by : (b : Bool) (cs : List Code) (c : Code) (s : List Code × List Code) →
      scheme cs ≡ (if b then Some (c ∷ s.0, s.1) else None) →
      (scheme then_ colon) cs ≡ (if b then after (c ∷ s.0) (colon s.1) else None)
  uri-by true cs c s e = then-after scheme colon cs (c ∷ s.0) s.1 e
  uri-by false cs c s e = then-none scheme colon cs e

  pub uri-first : (c : Code) (cs : List Code) → is_letter c ≡ true → uri replaced (c ∷ cs) ≡ with_first c (scheme_rest replaced 1 cs)
  unfolding uri
  uri-first c cs h =
      let s : List Code × List Code = span is_scheme_code cs in
      uri-by (is_between 2 32 (1 + length s.0)) (c ∷ cs) c s (scheme-all c cs s h refl) ∙ if-after (is_between 2 32 (1 + length s.0)) c s.0 (colon s.1)

  scheme-none : (cs : List Code) → next_is is_letter cs ≡ false → scheme cs ≡ None
  unfolding scheme
  scheme-none cs h = bind-none _ _ cs (then-none (one is_letter) (some is_scheme_code) cs (one-not is_letter cs h))

  pub uri-none : (cs : List Code) → next_is is_letter cs ≡ false → uri replaced cs ≡ None
  unfolding uri
  uri-none cs h = then-none scheme colon cs (scheme-none cs h)

  -- URIs after the colon.

  pub url-more : (c : Code) (cs : List Code) → is_uri_code replaced c ≡ true →
      any_number (is_uri_code replaced) (c ∷ cs) ≡ with_first c (any_number (is_uri_code replaced) cs)
  url-more c cs h =
      any-number-is (is_uri_code replaced) (c ∷ cs) ∙ ap (λ (r : List Code × List Code). Some r) (span-takes (is_uri_code replaced) c cs h) ∙ ap (with_first c) (sym (any-number-is (is_uri_code replaced) cs))

  pub url-end : (cs : List Code) → next_is (is_uri_code replaced) cs ≡ false → any_number (is_uri_code replaced) cs ≡ Some ([], cs)
  url-end cs h = any-number-is (is_uri_code replaced) cs ∙ ap (λ (r : List Code × List Code). Some r) (span-none (is_uri_code replaced) cs h)

-- Addresses before the `@`.

abbrev at_sign : Reading (List Code)
at_sign = one (is_value 64) then_ domains

pub local-more : (all : Bool) (c : Code) (cs : List Code) → is_local_code all c ≡ true →
    local_rest all (c ∷ cs) ≡ with_first c (local_rest all cs)
local-more all c cs h =
    let s : List Code × List Code = span (is_local_code all) cs in
    ap (λ (r : List Code × List Code). after r.0 (at_sign r.1)) (span-takes (is_local_code all) c cs h) ∙ after-more c s.0 (at_sign s.1)

local-here : (all : Bool) (cs : List Code) → next_is (is_local_code all) cs ≡ false → local_rest all cs ≡ at_sign cs
local-here all cs h =
    ap (λ (r : List Code × List Code). after r.0 (at_sign r.1)) (span-none (is_local_code all) cs h) ∙ after-none (at_sign cs)

pub local-at : (all : Bool) (c : Code) (cs : List Code) → is_value 64 c ≡ true → local_rest all (c ∷ cs) ≡ with_first c (domains cs)
local-at all c cs h =
    local-here all (c ∷ cs) (ap (local_value all) (eqb-true c.value 64 h))
    ∙ then-after (one (is_value 64)) domains (c ∷ cs) (c ∷ []) cs (one-here (is_value 64) c cs h)
    ∙ after-one c (domains cs)

pub local-other : (all : Bool) (cs : List Code) → next_is (is_local_code all) cs ≡ false → next_is (is_value 64) cs ≡ false →
    local_rest all cs ≡ None
local-other all cs h l = local-here all cs h ∙ then-none (one (is_value 64)) domains cs (one-not (is_value 64) cs l)

pub email-first : (all : Bool) (c : Code) (cs : List Code) → is_local_code all c ≡ true →
    email_address all (c ∷ cs) ≡ with_first c (local_rest all cs)
unfolding email_address
email-first all c cs h =
    let s : List Code × List Code = span (is_local_code all) cs in
    then-after (some (is_local_code all)) at_sign (c ∷ cs) (c ∷ s.0) s.1 (some-here (is_local_code all) c cs h) ∙ after-more c s.0 (at_sign s.1)

pub email-none : (all : Bool) (cs : List Code) → next_is (is_local_code all) cs ≡ false → email_address all cs ≡ None
unfolding email_address
email-none all cs h = then-none (some (is_local_code all)) at_sign cs (some-none (is_local_code all) cs h)

-- Labels.

ends-first : (c : Code) (cs : List Code) →
    ends_well (is_alphanumeric c) cs ≡ is_some_code is_alphanumeric (last_code (c ∷ cs))
ends-first c [] = refl
ends-first c (d ∷ ds) = refl

pub label-more : (k : ℕ) (well : Bool) (c : Code) (cs : List Code) → is_label_code c ≡ true →
    label_rest k well (c ∷ cs) ≡ with_first c (label_rest (k + 1) (is_alphanumeric c) cs)
label-more k well c cs h =
    let s : List Code × List Code = span is_label_code cs in
    ap (λ (r : List Code × List Code). if nat_le (k + length r.0) 63 && ends_well well r.0 then after r.0 (more_labels r.1) else None) (span-takes is_label_code c cs h)
    ∙ ap (λ n. if nat_le n 63 && ends_well well (c ∷ s.0) then after (c ∷ s.0) (more_labels s.1) else None) (counted k s.0 c)
    ∙ ap (λ b. if nat_le (k + 1 + length s.0) 63 && b then after (c ∷ s.0) (more_labels s.1) else None) (sym (ends-first c s.0))
    ∙ if-after (nat_le (k + 1 + length s.0) 63 && ends_well (is_alphanumeric c) s.0) c s.0 (more_labels s.1)

too-many : (k : ℕ) (c : Code) (cs : List Code) → 63 ≤ k → nat_le (k + length (c ∷ cs)) 63 ≡ false
too-many k c cs h = let l : 63 < k + length (c ∷ cs) = omega (arith, h) in grind (arith, nat_tests, common_steps)

few-enough : (k : ℕ) → k ≤ 63 → nat_le k 63 ≡ true
few-enough k h = grind (arith, nat_tests, common_steps)

pub label-long : (k : ℕ) (well : Bool) (c : Code) (cs : List Code) → is_label_code c ≡ true → 63 ≤ k →
    label_rest k well (c ∷ cs) ≡ None
label-long k well c cs h l =
    let s : List Code × List Code = span is_label_code cs in
    ap (λ (r : List Code × List Code). if nat_le (k + length r.0) 63 && ends_well well r.0 then after r.0 (more_labels r.1) else None) (span-takes is_label_code c cs h)
    ∙ ap (λ b. if b && ends_well well (c ∷ s.0) then after (c ∷ s.0) (more_labels s.1) else None) (too-many k c s.0 l)

label-here : (k : ℕ) (well : Bool) (cs : List Code) → next_is is_label_code cs ≡ false →
    label_rest k well cs ≡ (if nat_le k 63 && well then after [] (more_labels cs) else None)
label-here k well cs h =
    ap (λ (r : List Code × List Code). if nat_le (k + length r.0) 63 && ends_well well r.0 then after r.0 (more_labels r.1) else None) (span-none is_label_code cs h)
    ∙ ap (λ n. if nat_le n 63 && well then after [] (more_labels cs) else None) (none-more k)

none-well : (b : Bool) (o : Option (List Code × List Code)) → (if b && false then o else None) ≡ None
none-well true o = refl
none-well false o = refl

pub label-unended : (k : ℕ) (cs : List Code) → next_is is_label_code cs ≡ false → label_rest k false cs ≡ None
label-unended k cs h = label-here k false cs h ∙ none-well (nat_le k 63) (after [] (more_labels cs))

pub label-ended : (k : ℕ) (cs : List Code) → next_is is_label_code cs ≡ false → k ≤ 63 →
    label_rest k true cs ≡ more_labels cs
label-ended k cs h l =
    label-here k true cs h ∙ ap (λ b. if b && true then after [] (more_labels cs) else None) (few-enough k l) ∙ after-none (more_labels cs)

-- Domains.

-- a label from its first code on
label-by : (b : Bool) (text rest : List Code) →
    is_length_in 1 63 text && next_is is_alphanumeric text && is_some_code is_alphanumeric (last_code text) ≡ b →
    (provided (is_length_in 1 63 text && next_is is_alphanumeric text && is_some_code is_alphanumeric (last_code text)) >> gives text) rest ≡ (if b then Some (text, rest) else None)
unfolding gives
label-by true text rest e = switched-on (gives text) _ rest e
label-by false text rest e = switched-off (gives text) _ rest e

label-test : (c : Code) (front : List Code) → is_alphanumeric c ≡ true →
    is_length_in 1 63 (c ∷ front) && next_is is_alphanumeric (c ∷ front) && is_some_code is_alphanumeric (last_code (c ∷ front)) ≡ nat_le (1 + length front) 63 && ends_well true front
label-test c front h = three (nat_le 1 (length (c ∷ front))) (nat_le (length (c ∷ front)) 63) (is_alphanumeric c) (is_some_code is_alphanumeric (last_code (c ∷ front))) (nat_le (1 + length front) 63) (ends_well true front) (some-length front c) h (ap (λ n. nat_le n 63) (one-more front c)) (sym (ends-first c front) ∙ ap (λ b. ends_well b front) h)
  where
    three : (a b x l m f : Bool) → a ≡ true → x ≡ true → b ≡ m → l ≡ f → (a && b) && x && l ≡ m && f
    three true b true l m f e h i j = two b l m f i j
      where
        two : (b l m f : Bool) → b ≡ m → l ≡ f → (b && true) && l ≡ m && f
        two true l m f i j = ap (λ z. z && l) i ∙ ap (λ z. m && z) j
        two false l m f i j = ap (λ z. z && l) i ∙ ap (λ z. m && z) j
    three true b false l m f e h i j = cc
    three false b x l m f e h i j = cc

    some-length : (front : List Code) (c : Code) → nat_le 1 (length (c ∷ front)) ≡ true
    some-length front c = let l : 1 ≤ length (c ∷ front) = omega arith in grind (arith, nat_tests, common_steps)

alphanumeric-label : (a b : Bool) → a ≡ true → a || b ≡ true
alphanumeric-label true b e = refl
alphanumeric-label false b e = cc

label-first : (c : Code) (cs : List Code) → is_alphanumeric c ≡ true →
    domain_label (c ∷ cs) ≡ (if nat_le (1 + length (span is_label_code cs).0) 63 && ends_well true (span is_label_code cs).0 then Some (c ∷ (span is_label_code cs).0, (span is_label_code cs).1) else None)
unfolding domain_label
label-first c cs h =
    let s : List Code × List Code = span is_label_code cs in
    bind-some _ _ (c ∷ cs) (c ∷ s.0) s.1 _ (some-here is_label_code c cs (alphanumeric-label (is_alphanumeric c) (is_value 45 c) h)) (label-by _ (c ∷ s.0) s.1 (label-test c s.0 h))

domains-by : (b : Bool) (cs : List Code) (c : Code) (s : List Code × List Code) →
    domain_label cs ≡ (if b then Some (c ∷ s.0, s.1) else None) →
    domains cs ≡ (if b then after (c ∷ s.0) (more_labels s.1) else None)
domains-by true cs c s e = then-after domain_label more_labels cs (c ∷ s.0) s.1 e
domains-by false cs c s e = then-none domain_label more_labels cs e

pub domains-first : (c : Code) (cs : List Code) → is_alphanumeric c ≡ true →
    domains (c ∷ cs) ≡ with_first c (label_rest 1 true cs)
domains-first c cs h =
    let s : List Code × List Code = span is_label_code cs in
    let b : Bool = nat_le (1 + length s.0) 63 && ends_well true s.0 in
    domains-by b (c ∷ cs) c s (label-first c cs h) ∙ if-after b c s.0 (more_labels s.1)

middle-false : (a x l : Bool) → x ≡ false → a && x && l ≡ false
middle-false true x l e = ap (λ b. b && l) e
middle-false false x l e = refl

label-none-by : (c : Code) (cs : List Code) (b : Bool) → is_alphanumeric c ≡ false → is_label_code c ≡ b →
    domain_label (c ∷ cs) ≡ None
unfolding domain_label
label-none-by c cs true h e =
    let s : List Code × List Code = span is_label_code cs in
    bind-some _ _ (c ∷ cs) (c ∷ s.0) s.1 _ (some-here is_label_code c cs e) (label-by false (c ∷ s.0) s.1 (middle-false (is_length_in 1 63 (c ∷ s.0)) (is_alphanumeric c) (is_some_code is_alphanumeric (last_code (c ∷ s.0))) h))
label-none-by c cs false h e = bind-none _ _ (c ∷ cs) (some-none is_label_code (c ∷ cs) e)

pub label-none : (cs : List Code) → next_is is_alphanumeric cs ≡ false → domain_label cs ≡ None
unfolding domain_label
label-none [] h = bind-none _ _ [] (some-none is_label_code [] refl)
label-none (c ∷ cs) h = label-none-by c cs (is_label_code c) h refl

pub domains-none : (cs : List Code) → next_is is_alphanumeric cs ≡ false → domains cs ≡ None
domains-none cs h = then-none domain_label more_labels cs (label-none cs h)
