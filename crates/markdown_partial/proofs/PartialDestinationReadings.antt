-- Destinations: what their readings give, by the next code.
use Rattle.std.proofs.Common.{◌≡◌, ◌≢◌, ℕ, zero, suc, ◌-◌, ◌==◌, ◌&&◌, ◌||◌, not, nat_lt, Bool, true, false, if◌then◌else◌, codes, Option, Some, None, List, [], ◌∷◌, ◌++◌, refl, sym, ap, ◌∙◌, arith}
use Rattle.std.proofs.lemmas.Bool.{eqb-true}
use Rattle.markdown_content.specs.Codes.{Code, is_line_ending}
use Rattle.markdown_engine.specs.Operations.{Op, Enter, Exit, Consume}
use Rattle.markdown_content.specs.Tree.{Forest, ◌⊕◌, leaf, linked, group}
use Rattle.markdown_engine.specs.TreeOps.{consumes}
use Rattle.markdown_event.specs.declared.event.Name.TheVariants as N
use Rattle.markdown_model.specs.CodeTests.{is_value, is_among, is_empty, is_whitespace_code, is_control, next_is}
use Rattle.markdown_model.specs.Grammar.{Reading, ◌>>=◌, gives, if_next, one, up_to, with_first}
use Rattle.markdown_model.specs.Resource.{DestinationNames, destination, literal_destination, raw_destination, raw_from, string_group}
use Rattle.markdown_plan.specs.Plan.{preceded}
use Rattle.markdown_model.proofs.GivenByReadings.{given-passed, given-gives}
use Rattle.markdown_model.proofs.NoLinkInConstructs.{Yields, yields_bind, yields_gives, yields_next, then_any}
use Rattle.markdown_model.proofs.OneLineReadings.{IsOneCode, one-one, one-some, some-join}
use Rattle.markdown_model.proofs.ReadingsCover.{covers_destination}
use Rattle.markdown_partial.specs.PartialDestination.{opening, raw_opening, text_opening, closing, ending, raw_ending, text_then, bracketed, enclosed_plan, before_plan, raw_plan}
use Rattle.markdown_partial.specs.LinkedTreeOps.{IsLinkedInOrder, linked_ops, tree_ops, plan_of}
use Rattle.markdown_partial.proofs.EscapedTextReadings.{Text, text-end, text-taken, text-stops, text-refused, text-next, text-bare, text}
use Rattle.markdown_partial.proofs.LinkedTreeLemmas.{ReadsLinked, Row-leaf, Row-last, Row-linked, Row-string, Row-whole}
use Rattle.markdown_model.proofs.GrammarSteps.{bind-some, bind-none, after-some, after-none, one-here, provided-true, provided-false}

-- Between the brackets.

pub text-first : (os : List Op) (c : Code) (o : Option (List Code × List Code)) →
    text_then os (with_first c o) ≡ preceded (Consume ∷ []) (text_then os o)
text-first os c None = refl
text-first os c (Some r) = refl

abbrev takes : Code → Bool
takes c = is_among (codes "<>\\") c

abbrev refuses : Code → Bool
refuses c = is_value 60 c || is_line_ending c

pub enclosed-none : (names : DestinationNames) (slash : Bool) → enclosed_plan names slash [] ≡ None
enclosed-none names slash = ap (text_then (ending names)) (text-end (is_value 62) takes refuses slash)

pub enclosed-close : (names : DestinationNames) (c : Code) (cs : List Code) → is_value 62 c ≡ true →
    enclosed_plan names false (c ∷ cs) ≡ Some (ending names)
enclosed-close names c cs h = ap (text_then (ending names)) (text-stops (is_value 62) takes refuses false c cs refl h)

pub enclosed-refused : (names : DestinationNames) (c : Code) (cs : List Code) → is_value 62 c ≡ false →
    refuses c ≡ true → enclosed_plan names false (c ∷ cs) ≡ None
enclosed-refused names c cs h k =
    ap (text_then (ending names)) (text-refused (is_value 62) takes refuses false c cs refl h k)

pub enclosed-next : (names : DestinationNames) (slash : Bool) (c : Code) (cs : List Code) → is_value 62 c ≡ false →
    refuses c ≡ false → (c.value == 92) ≡ slash →
    enclosed_plan names false (c ∷ cs) ≡ preceded (Consume ∷ []) (enclosed_plan names slash cs)
enclosed-next names slash c cs h k e =
    ap (text_then (ending names)) (text-next (is_value 62) takes refuses false c cs refl h k)
    ∙ text-first (ending names) c (bracketed (c.value == 92) cs)
    ∙ ap (λ b. preceded (Consume ∷ []) (enclosed_plan names b cs)) e

pub enclosed-taken : (names : DestinationNames) (c : Code) (cs : List Code) → takes c ≡ true →
    enclosed_plan names true (c ∷ cs) ≡ preceded (Consume ∷ []) (enclosed_plan names false cs)
enclosed-taken names c cs h =
    ap (text_then (ending names)) (text-taken (is_value 62) takes refuses true c cs h) ∙ text-first (ending names) c (bracketed false cs)

pub enclosed-bare : (names : DestinationNames) (c : Code) (cs : List Code) → takes c ≡ false →
    enclosed_plan names true (c ∷ cs) ≡ enclosed_plan names false (c ∷ cs)
enclosed-bare names c cs h = ap (text_then (ending names)) (text-bare (is_value 62) takes refuses c cs h)

-- From the opening bracket.

ending-ops : (names : DestinationNames) (os : List Op) →
    (((os ++ Exit N.Data ∷ []) ++ Exit names.text ∷ Enter names.marker ∷ Consume ∷ Exit names.marker ∷ []) ++ Exit names.literal ∷ []) ++ Exit names.whole ∷ [] ≡ os ++ ending names
ending-ops names [] = refl
ending-ops names (o ∷ os) = ap (λ xs. o ∷ xs) (ending-ops names os)

literal_tree : DestinationNames → List Code → List Code → List Code → Forest
literal_tree names front text back =
    group names.whole (group names.literal (leaf names.marker front ⊕ string_group names.text (linked N.Data text) ⊕ leaf names.marker back))

literal-ops : (names : DestinationNames) (c t d : Code) (text : List Code) →
    linked_ops false (literal_tree names (c ∷ []) (t ∷ text) (d ∷ [])) ≡ opening names ++ (text_opening names ++ (consumes (t ∷ text) ++ ending names))
unfolding literal_tree
literal-ops names c t d text =
    ap (λ os. opening names ++ (text_opening names ++ Consume ∷ os)) (ending-ops names (consumes text))

-- after the bracket
rest_of_literal : DestinationNames → Code → Reading Forest
rest_of_literal names c =
    up_to (is_value 62) takes refuses >>= λ text. one (is_value 62) >>= λ back. gives (literal_tree names (c ∷ []) text back)

rest-by : (names : DestinationNames) (c : Code) (cs : List Code) (b : Bool) (o : Option (List Code × List Code)) →
    next_is (is_value 62) cs ≡ b → bracketed false cs ≡ o →
    tree_ops (rest_of_literal names c cs) ≡ preceded (opening names) (if b then Some (closing names) else preceded (text_opening names) (text_then (ending names) o))
unfolding rest_of_literal literal_tree gives up_to
rest-by names c [] true o h e = cc
rest-by names c (d ∷ cs) true o h e =
    ap tree_ops (bind-some _ _ (d ∷ cs) [] (d ∷ cs) _ (text-stops (is_value 62) takes refuses false d cs refl h) (bind-some _ _ (d ∷ cs) (d ∷ []) cs _ (one-here (is_value 62) d cs h) refl))
rest-by names c cs false None h e = ap tree_ops (bind-none _ _ cs e)
rest-by names c cs false (Some ([], rest)) h e =
    let t : Text (is_value 62) cs ([], rest) = text (is_value 62) takes refuses false cs ([], rest) e in
    let no : true ≡ false = sym t.stops ∙ ap (next_is (is_value 62)) (sym t.whole) ∙ h in
    cc
rest-by names c cs false (Some (t ∷ text1, [])) h e =
    let no : false ≡ true = (text (is_value 62) takes refuses false cs (t ∷ text1, []) e).stops in
    cc
rest-by names c cs false (Some (t ∷ text1, d ∷ rest)) h e =
    let k : is_value 62 d ≡ true = (text (is_value 62) takes refuses false cs (t ∷ text1, d ∷ rest) e).stops in
    ap tree_ops (bind-some _ _ cs (t ∷ text1) (d ∷ rest) _ e (bind-some _ _ (d ∷ rest) (d ∷ []) rest _ (one-here (is_value 62) d rest k) refl))
    ∙ ap (λ os. Some os) (literal-ops names c t d text1)

literal-here : (names : DestinationNames) (c : Code) (cs : List Code) → is_value 60 c ≡ true →
    plan_of (literal_destination names) (c ∷ cs) ≡ preceded (opening names) (before_plan names cs)
unfolding literal_destination rest_of_literal literal_tree
literal-here names c cs h =
    ap tree_ops (bind-some _ _ (c ∷ cs) (c ∷ []) cs _ (one-here (is_value 60) c cs h) refl) ∙ rest-by names c cs (next_is (is_value 62) cs) (bracketed false cs) refl refl

pub if-here : {A : Type 0} (p : Code → Bool) (a b : Reading A) (cs : List Code) → next_is p cs ≡ true →
    if_next p a b cs ≡ a cs
unfolding if_next
if-here p a b cs e = rw (e, if_next) refl

pub if-other : {A : Type 0} (p : Code → Bool) (a b : Reading A) (cs : List Code) → next_is p cs ≡ false →
    if_next p a b cs ≡ b cs
unfolding if_next
if-other p a b cs e = rw (e, if_next) refl

pub destination-bracket : (max : ℕ) (names : DestinationNames) (c : Code) (cs : List Code) → is_value 60 c ≡ true →
    plan_of (destination max names) (c ∷ cs) ≡ preceded (opening names) (before_plan names cs)
unfolding destination
destination-bracket max names c cs h = ap tree_ops (if-here (is_value 60) _ _ (c ∷ cs) h) ∙ literal-here names c cs h

-- Without brackets.

some-open : (d : ℕ) → (suc d == 0) ≡ true → ⊥
some-open d e = let z : suc d ≡ 0 = eqb-true (suc d) 0 e in omega (arith, z)

module _ (max : ℕ) where
  pub raw-end : (slash : Bool) (depth : ℕ) → (depth == 0) ≡ true → raw_from max slash depth [] ≡ Some ([], [])
  unfolding raw_from
  raw-end slash zero e = refl
  raw-end slash (suc d) e = absurd (some-open d e)

  pub raw-open-end : (slash : Bool) (depth : ℕ) → (depth == 0) ≡ false → raw_from max slash depth [] ≡ None
  unfolding raw_from
  raw-open-end slash zero e = cc
  raw-open-end slash (suc d) e = refl

  pub raw-taken : (depth : ℕ) (c : Code) (cs : List Code) → is_among (codes "()\\") c ≡ true →
      raw_from max true depth (c ∷ cs) ≡ with_first c (raw_from max false depth cs)
  unfolding raw_from
  raw-taken depth c cs e = rw (e, raw_from) refl

  pub raw-bare : (depth : ℕ) (c : Code) (cs : List Code) → is_among (codes "()\\") c ≡ false →
      raw_from max true depth (c ∷ cs) ≡ raw_from max false depth (c ∷ cs)
  unfolding raw_from
  raw-bare depth c cs e = rw (e, raw_from) refl

  abbrev pub stops : ℕ → Code → Bool
  stops depth c = is_whitespace_code c || (is_value 41 c && depth == 0)

  raw-stop-by : (depth : ℕ) (c : Code) (cs : List Code) → stops depth c ≡ true →
      raw_from max false depth (c ∷ cs) ≡ elim depth as (λ _. Option (List Code × List Code)) [ zero ↦ Some ([], c ∷ cs) | suc d ↦ None ]
  unfolding raw_from
  raw-stop-by depth c cs e = rw (e, raw_from) refl

  pub raw-stop : (depth : ℕ) (c : Code) (cs : List Code) → stops depth c ≡ true → (depth == 0) ≡ true →
      raw_from max false depth (c ∷ cs) ≡ Some ([], c ∷ cs)
  raw-stop zero c cs e h = raw-stop-by zero c cs e
  raw-stop (suc d) c cs e h = absurd (some-open d h)

  pub raw-space : (depth : ℕ) (c : Code) (cs : List Code) → stops depth c ≡ true → (depth == 0) ≡ false →
      raw_from max false depth (c ∷ cs) ≡ None
  raw-space zero c cs e h = cc
  raw-space (suc d) c cs e h = raw-stop-by (suc d) c cs e

  pub raw-control : (depth : ℕ) (c : Code) (cs : List Code) → stops depth c ≡ false → is_control c ≡ true →
      raw_from max false depth (c ∷ cs) ≡ None
  unfolding raw_from
  raw-control depth c cs e h = rw (e, h, raw_from) refl

  pub raw-open : (depth : ℕ) (c : Code) (cs : List Code) → stops depth c ≡ false → is_control c ≡ false →
      is_value 40 c ≡ true → nat_lt depth max ≡ true →
      raw_from max false depth (c ∷ cs) ≡ with_first c (raw_from max false (suc depth) cs)
  unfolding raw_from
  raw-open depth c cs e h k l = rw (e, h, k, l, raw_from) refl

  pub raw-deep : (depth : ℕ) (c : Code) (cs : List Code) → stops depth c ≡ false → is_control c ≡ false →
      is_value 40 c ≡ true → nat_lt depth max ≡ false → raw_from max false depth (c ∷ cs) ≡ None
  unfolding raw_from
  raw-deep depth c cs e h k l = rw (e, h, k, l, raw_from) refl

  pub raw-close : (depth : ℕ) (c : Code) (cs : List Code) → stops depth c ≡ false → is_control c ≡ false →
      is_value 40 c ≡ false → is_value 41 c ≡ true →
      raw_from max false depth (c ∷ cs) ≡ with_first c (raw_from max false (depth - 1) cs)
  unfolding raw_from
  raw-close depth c cs e h k l = rw (e, h, k, l, raw_from) refl

  pub raw-next : (depth : ℕ) (c : Code) (cs : List Code) → stops depth c ≡ false → is_control c ≡ false →
      is_value 40 c ≡ false → is_value 41 c ≡ false →
      raw_from max false depth (c ∷ cs) ≡ with_first c (raw_from max (c.value == 92) depth cs)
  unfolding raw_from
  raw-next depth c cs e h k l = rw (e, h, k, l, raw_from) refl

-- The first code of a destination without brackets stands in it.

raw-first-by : (max : ℕ) (c : Code) (cs : List Code) (x y z : Bool) → stops max 0 c ≡ false → is_control c ≡ false →
    is_value 41 c ≡ false → is_value 40 c ≡ x → nat_lt 0 max ≡ y →
    (o : Option (List Code × List Code)) × (raw_from max false 0 (c ∷ cs) ≡ with_first c o)
raw-first-by max c cs true true z e h l k m = (raw_from max false 1 cs, raw-open max 0 c cs e h k m)
raw-first-by max c cs true false z e h l k m = (None, raw-deep max 0 c cs e h k m)
raw-first-by max c cs false y z e h l k m = (raw_from max (c.value == 92) 0 cs, raw-next max 0 c cs e h k l)

raw_tree : DestinationNames → List Code → Forest
raw_tree names text = group names.whole (group names.raw (group names.text (linked N.Data text)))

raw-ops-by : (names : DestinationNames) (os : List Op) →
    (((os ++ Exit N.Data ∷ []) ++ Exit names.text ∷ []) ++ Exit names.raw ∷ []) ++ Exit names.whole ∷ [] ≡ os ++ raw_ending names
raw-ops-by names [] = refl
raw-ops-by names (o ∷ os) = ap (λ xs. o ∷ xs) (raw-ops-by names os)

raw-by : (max : ℕ) (names : DestinationNames) (c : Code) (cs : List Code) (o : Option (List Code × List Code)) →
    raw_from max false 0 (c ∷ cs) ≡ with_first c o →
    plan_of (raw_destination max names) (c ∷ cs) ≡ preceded (raw_opening names) (text_then (raw_ending names) (with_first c o))
unfolding raw_destination gives raw_tree
raw-by max names c cs None e = ap tree_ops (bind-none _ _ (c ∷ cs) e)
raw-by max names c cs (Some r) e =
    ap tree_ops (bind-some _ _ (c ∷ cs) (c ∷ r.0) r.1 _ e (after-some _ _ r.1 [] r.1 _ (provided-true true r.1 refl) refl))
    ∙ ap (λ os. Some (raw_opening names ++ Consume ∷ os)) (raw-ops-by names (consumes r.0))

raw-here : (max : ℕ) (names : DestinationNames) (c : Code) (cs : List Code) → stops max 0 c ≡ false →
    is_control c ≡ false → is_value 41 c ≡ false →
    plan_of (raw_destination max names) (c ∷ cs) ≡ preceded (raw_opening names) (raw_plan names max false 0 (c ∷ cs))
raw-here max names c cs e h l =
    let f = raw-first-by max c cs (is_value 40 c) (nat_lt 0 max) true e h l refl refl in
    raw-by max names c cs f.0 f.1 ∙ ap (λ o. preceded (raw_opening names) (text_then (raw_ending names) o)) (sym f.1)

pub destination-raw : (max : ℕ) (names : DestinationNames) (c : Code) (cs : List Code) → is_value 60 c ≡ false →
    stops max 0 c ≡ false → is_control c ≡ false → is_value 41 c ≡ false →
    plan_of (destination max names) (c ∷ cs) ≡ preceded (raw_opening names) (raw_plan names max false 0 (c ∷ cs))
unfolding destination
destination-raw max names c cs k e h l =
    ap tree_ops (if-other (is_value 60) _ _ (c ∷ cs) k) ∙ raw-here max names c cs e h l

-- None stands there.

raw-nothing : (max : ℕ) (names : DestinationNames) (cs rest : List Code) → raw_from max false 0 cs ≡ Some ([], rest) →
    raw_destination max names cs ≡ None
unfolding raw_destination
raw-nothing max names cs rest e = bind-some _ _ cs [] rest _ e (after-none _ _ rest (provided-false false rest refl))

raw-none : (max : ℕ) (names : DestinationNames) (cs : List Code) → raw_from max false 0 cs ≡ None →
    raw_destination max names cs ≡ None
unfolding raw_destination
raw-none max names cs e = bind-none _ _ cs e

pub destination-end : (max : ℕ) (names : DestinationNames) → plan_of (destination max names) [] ≡ None
unfolding destination
destination-end max names =
    ap tree_ops (if-other (is_value 60) _ _ [] refl ∙ raw-nothing max names [] [] (raw-end max false 0 refl))

pub destination-stops : (max : ℕ) (names : DestinationNames) (c : Code) (cs : List Code) → is_value 60 c ≡ false →
    stops max 0 c ≡ true → plan_of (destination max names) (c ∷ cs) ≡ None
unfolding destination
destination-stops max names c cs k e =
    ap tree_ops (if-other (is_value 60) _ _ (c ∷ cs) k ∙ raw-nothing max names (c ∷ cs) (c ∷ cs) (raw-stop max 0 c cs e refl))

pub destination-control : (max : ℕ) (names : DestinationNames) (c : Code) (cs : List Code) → is_value 60 c ≡ false →
    stops max 0 c ≡ false → is_control c ≡ true → plan_of (destination max names) (c ∷ cs) ≡ None
unfolding destination
destination-control max names c cs k e h =
    ap tree_ops (if-other (is_value 60) _ _ (c ∷ cs) k ∙ raw-none max names (c ∷ cs) (raw-control max 0 c cs e h))

-- What the readings pass.

not-empty : (xs : List Code) → not (is_empty xs) ≡ true → xs ≢ []
not-empty [] e = cc
not-empty (x ∷ xs) e = λ h. cc

abbrev IsLinkedTree : Forest → Type 0
IsLinkedTree t = IsLinkedInOrder false t

raw-tree : (names : DestinationNames) (text : List Code) → text ≢ [] →
    IsLinkedTree (group names.whole (group names.raw (group names.text (linked N.Data text))))
raw-tree names text some =
    let inner : Forest = group names.text (linked N.Data text) in
    (Row-whole names.whole text (group names.raw inner) some (Row-whole names.raw text inner some (Row-whole names.text text (linked N.Data text) some (Row-linked N.Data text text refl)))).0

raw-linked : (max : ℕ) (names : DestinationNames) → Yields IsLinkedTree (raw_destination max names)
unfolding raw_destination
raw-linked max names =
    then_any _ _ _ λ text. record { at = λ cs. given-passed (λ t _. IsLinkedTree t) (not (is_empty text)) _ cs (λ e. given-gives (λ t _. IsLinkedTree t) _ cs (raw-tree names text (not-empty text e))) }

literal-linked : (names : DestinationNames) → Yields IsLinkedTree (literal_destination names)
unfolding literal_destination
literal-linked names =
    yields_bind IsOneCode _ _ _ (one-one _) λ front f. then_any _ _ _ λ text. then_any _ _ _ λ back. yields_gives _ _
    (let row : Forest = string_group names.text (linked N.Data text) ⊕ leaf names.marker back in
    let all : List Code = front ++ (text ++ (back ++ [])) in
    let some : all ≢ [] = some-join front (text ++ (back ++ [])) (one-some front f) in
    (Row-whole names.whole all (group names.literal (leaf names.marker front ⊕ row)) some
    (Row-whole names.literal all (leaf names.marker front ⊕ row) some
    (Row-leaf names.marker front front (text ++ (back ++ [])) row refl
    (Row-string names.text text (back ++ []) (linked N.Data text) (leaf names.marker back) (Row-linked N.Data text text refl) (Row-last names.marker back back refl))))).0)

pub destination-linked : (max : ℕ) (names : DestinationNames) → ReadsLinked (destination max names)
unfolding destination
destination-linked max names =
    record { covers = covers_destination max names; linked = yields_next _ _ _ _ (literal-linked names) (raw-linked max names) }
