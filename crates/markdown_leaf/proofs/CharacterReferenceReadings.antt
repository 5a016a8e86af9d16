-- What the definition of a character reference reads, by what stands there.
use Rattle.std.proofs.Common.{◌≡◌, ℕ, suc, ◌+◌, ◌≤◌, ◌==◌, ◌&&◌, ◌||◌, nat_le, nat_lt, Bool, true, false, if◌then◌else◌, Option, Some, None, List, [], ◌∷◌, ◌++◌, length, refl, sym, ap, ◌∙◌, arith, append_assoc, append-nil, length-append, not}
use Rattle.std.specs.Char.{is_ascii_alphanumeric}
use Rattle.std.specs.Prelude.{codes}
use Rattle.markdown_util.proofs.ValueBytes.{semicolon_stops}
use Rattle.std.proofs.Math.Bool.{and-false, and-true}
use Rattle.std.proofs.lemmas.Bool.{le-leb, eqb-true}
use Rattle.markdown_content.specs.Codes.{Code}
use Rattle.markdown_content.specs.ListFunctions.{rest_of}
use Rattle.markdown_engine.specs.Operations.{Op, Enter, Exit, Consume}
use Rattle.markdown_engine.specs.TreeOps.{consumes, ops_of}
use Rattle.markdown_content.specs.Tree.{Forest}
use Rattle.markdown_event.specs.declared.event.Name.TheVariants as N
use Rattle.markdown_model.specs.CodeTests.{is_value, is_among, is_between, is_alphanumeric, is_digit, is_hex_digit, is_empty, next_is, values_of}
use Rattle.markdown_model.specs.Grammar.{Reading, ◌>>◌, ◌>>=◌, either, provided, one, some, span, gives}
use Rattle.markdown_model.specs.LeafConstructs.{Parts, character_reference, reference_tree, named_parts, decimal_parts, hexadecimal_parts, is_name}
use Rattle.markdown_util.specs.Reference.{Table, IsTable, value_size_max, is_value_byte}
use Rattle.markdown_leaf.specs.CharacterReference.{opening, number_sign, hexadecimal_sign, value_start, closing, has_value, is_known, is_whole, is_value_code, is_taken, value_of, value_plan, numeric_plan, named_plan, open_plan}
use Rattle.markdown_plan.specs.Plan.{preceded, tree_ops, plan_of}
use Rattle.markdown_leaf.proofs.CharacterReferenceNames.{name-short, length-values, same-code}
use Rattle.markdown_plan.proofs.PlanSteps.{preceded-twice}
use Rattle.markdown_model.proofs.GrammarSteps.{bind-some, bind-none, after-some, after-none, provided-true, provided-false, one-here, one-not, some-span, some-nothing, either-first, either-second, switched-on, switched-off, and-right, left-true, right-true, if-true, if-false, span-takes, span-none}
use Rattle.markdown_model.proofs.DefinitionSteps.{span-agrees}

-- Values.

between-size : (n max : ℕ) → nat_lt 0 n ≡ true → n ≤ max → is_between 1 max n ≡ true
between-size n max e h = grind arith

-- what was passed is the value
passed-value : (names : Table) (m : ℕ) (read : List ℕ) (cs : List Code) →
    value_of names m read ([], cs) ≡ (if is_whole names m read && next_is (is_value 59) cs then Some closing else None)
passed-value names m read cs = ap (λ v. if is_whole names m v && next_is (is_value 59) cs then Some closing else None) (append-nil read)

pub value-close : (names : Table) (m : ℕ) (read : List ℕ) (c : Code) (cs : List Code) → (c.value == 59) ≡ true →
    nat_lt 0 (length read) ≡ true → is_known names m read ≡ true → length read ≤ value_size_max m →
    value_plan names m read (c ∷ cs) ≡ Some closing
value-close names m read c cs e h k l =
    let other : is_value_code m c ≡ false = ap (is_value_byte m) (eqb-true c.value 59 e) ∙ semicolon_stops m in
    let size : is_between 1 (value_size_max m) (length read) ≡ true = between-size (length read) (value_size_max m) h l in
    ap (value_of names m read) (span-none (is_value_code m) (c ∷ cs) other)
    ∙ passed-value names m read (c ∷ cs)
    ∙ if-true _ (Some closing) None (ap (λ b. (b && is_known names m read) && (c.value == 59)) size ∙ ap (λ b. b && (c.value == 59)) k ∙ e)

preceded-if : (os : List Op) (b : Bool) (x : List Op) →
    (if b then Some (os ++ x) else None) ≡ preceded os (if b then Some x else None)
preceded-if os true x = refl
preceded-if os false x = refl

pub value-more : (names : Table) (m : ℕ) (read : List ℕ) (c : Code) (cs : List Code) → is_taken m (length read) c.value ≡ true →
    value_plan names m read (c ∷ cs) ≡ preceded (Consume ∷ []) (value_plan names m (read ++ c.value ∷ []) cs)
unfolding is_taken
value-more names m read c cs e =
    let s : List Code × List Code = span (is_value_code m) cs in
    let more : read ++ c.value ∷ values_of s.0 ≡ (read ++ c.value ∷ []) ++ values_of s.0 = sym (append_assoc read (c.value ∷ []) (values_of s.0)) in
    ap (value_of names m read) (span-takes (is_value_code m) c cs (and-right _ _ e))
    ∙ ap (λ v. if is_whole names m v && next_is (is_value 59) s.1 then Some (Consume ∷ consumes s.0 ++ closing) else None) more
    ∙ preceded-if (Consume ∷ []) (is_whole names m ((read ++ c.value ∷ []) ++ values_of s.0) && next_is (is_value 59) s.1) (consumes s.0 ++ closing)

too-many : (n max k : ℕ) → nat_lt n max ≡ false → is_between 1 max (n + suc k) ≡ false
too-many n max k e = grind arith

none-yet : (n max : ℕ) → nat_lt 0 n ≡ false → is_between 1 max n ≡ false
none-yet n max e = grind arith

pub value-end : (names : Table) (m : ℕ) (read : List ℕ) → value_plan names m read [] ≡ None
value-end names m read = if-false _ _ _ (and-false (is_whole names m (read ++ [])))

no-value : (names : Table) (m : ℕ) (read : List ℕ) → nat_lt 0 (length read) && is_known names m read ≡ false → is_whole names m read ≡ false
no-value names m read h =
    let max : ℕ = value_size_max m in
    elim (nat_lt 0 (length read)) as (λ b. nat_lt 0 (length read) ≡ b → is_whole names m read ≡ false) [
      | true ↦ λ k. ap (λ b. is_between 1 max (length read) && b) (left-true _ _ h k) ∙ and-false _
      | false ↦ λ k. ap (λ b. b && is_known names m read) (none-yet (length read) max k)
    ] refl

full-value : (names : Table) (m : ℕ) (read : List ℕ) (c : Code) (cs : List Code) → nat_lt (length read) (value_size_max m) ≡ false →
    is_whole names m (read ++ values_of (c ∷ cs)) ≡ false
full-value names m read c cs h =
    let size : length (read ++ values_of (c ∷ cs)) ≡ length read + suc (length (values_of cs)) = length-append read (values_of (c ∷ cs)) in
    ap (λ b. b && is_known names m (read ++ values_of (c ∷ cs))) (ap (is_between 1 (value_size_max m)) size ∙ too-many (length read) (value_size_max m) (length (values_of cs)) h)

pub value-stop : (names : Table) (m : ℕ) (read : List ℕ) (c : Code) (cs : List Code) →
    ((c.value == 59) && nat_lt 0 (length read)) && is_known names m read ≡ false → is_taken m (length read) c.value ≡ false →
    value_plan names m read (c ∷ cs) ≡ None
unfolding is_taken
value-stop names m read c cs e h =
    elim (is_value_code m c) as (λ b. is_value_code m c ≡ b → value_plan names m read (c ∷ cs) ≡ None) [
      | true ↦ λ k. let s : List Code × List Code = span (is_value_code m) cs in
          ap (value_of names m read) (span-takes (is_value_code m) c cs k) ∙ if-false _ _ _ (ap (λ b. b && next_is (is_value 59) s.1) (full-value names m read c s.0 (right-true _ _ h k)))
      | false ↦ λ k. ap (value_of names m read) (span-none (is_value_code m) (c ∷ cs) k) ∙ passed-value names m read (c ∷ cs)
          ∙ (elim (c.value == 59) as (λ b. (c.value == 59) ≡ b → (if is_whole names m read && (c.value == 59) then Some closing else None) ≡ None) [
            | true ↦ λ t. if-false _ _ _ (ap (λ b. b && (c.value == 59)) (no-value names m read (sym (ap (λ b. (b && nat_lt 0 (length read)) && is_known names m read) t) ∙ e)))
            | false ↦ λ t. if-false _ _ _ (ap (λ b. is_whole names m read && b) t ∙ and-false _)
          ] refl)
    ] refl

-- The end of a reference: its value and the `;`.

module _ (p : Code → Bool) (ok : List Code → Bool) (f : List Code → List Code → Parts) where
  abbrev tail : Reading Parts
  tail = some p >>= λ value. provided (ok value) >> (one (is_value 59) >>= λ back. gives (f value back))

  tail-nothing : (cs r : List Code) → span p cs ≡ ([], r) → tail cs ≡ None
  tail-nothing cs r e = bind-none _ _ _ (some-nothing p cs r e)

  tail-refused : (cs : List Code) (v : Code) (vs r : List Code) → span p cs ≡ (v ∷ vs, r) → ok (v ∷ vs) ≡ false →
      tail cs ≡ None
  tail-refused cs v vs r e h =
      bind-some _ _ _ _ _ _ (some-span p cs v vs r e) (after-none _ _ _ (provided-false (ok (v ∷ vs)) r h))

  tail-open : (cs : List Code) (v : Code) (vs r : List Code) → span p cs ≡ (v ∷ vs, r) → ok (v ∷ vs) ≡ true →
      next_is (is_value 59) r ≡ false → tail cs ≡ None
  tail-open cs v vs r e h k =
      bind-some _ _ _ _ _ _ (some-span p cs v vs r e) (after-some _ _ _ _ _ _ (provided-true (ok (v ∷ vs)) r h) (bind-none _ _ _ (one-not (is_value 59) r k)))

  tail-whole : (cs : List Code) (v : Code) (vs : List Code) (b : Code) (r : List Code) → span p cs ≡ (v ∷ vs, b ∷ r) →
      ok (v ∷ vs) ≡ true → (b.value == 59) ≡ true → tail cs ≡ Some (f (v ∷ vs) (b ∷ []), r)
  unfolding gives
  tail-whole cs v vs b r e h k =
      bind-some _ _ _ _ _ _ (some-span p cs v vs (b ∷ r) e) (after-some _ _ _ _ _ _ (provided-true (ok (v ∷ vs)) (b ∷ r) h) (bind-some _ _ _ _ _ _ (one-here (is_value 59) b r k) refl))

-- the operations of the parts
abbrev part_ops : Option (Parts × List Code) → Option (List Op)
part_ops None = None
part_ops (Some r) = Some (ops_of (reference_tree r.0))

-- the parts whose value is not passed yet have these operations
abbrev HaveOpsBefore : List Op → (List Code → List Code → Parts) → Type 0
HaveOpsBefore os f =
    (v : Code) (vs : List Code) (b : Code) → Some (ops_of (reference_tree (f (v ∷ vs) (b ∷ [])))) ≡ preceded os (Some (consumes (v ∷ vs) ++ closing))

tail-by : (names : Table) (m : ℕ) (os : List Op) (p : Code → Bool) (ok : List Code → Bool) (f : List Code → List Code → Parts) →
    HaveOpsBefore os f → (cs w r : List Code) → span p cs ≡ (w, r) →
    (is_empty w ≡ false → ok w ≡ is_whole names m (values_of w)) →
    part_ops (tail p ok f cs) ≡ preceded os (value_of names m [] (w, r))
tail-by names m os p ok f g cs [] r e h = ap part_ops (tail-nothing p ok f cs r e)
tail-by names m os p ok f g cs (v ∷ vs) r e h =
    let fits : is_whole names m (values_of (v ∷ vs)) ≡ ok (v ∷ vs) = sym (h refl) in
    elim (ok (v ∷ vs)) as (λ b. ok (v ∷ vs) ≡ b → part_ops (tail p ok f cs) ≡ preceded os (value_of names m [] (v ∷ vs, r))) [
      | false ↦ λ k. ap part_ops (tail-refused p ok f cs v vs r e k) ∙ ap (preceded os) (sym (if-false _ _ _ (ap (λ b. b && next_is (is_value 59) r) (fits ∙ k))))
      | true ↦ λ k. elim (next_is (is_value 59) r) as (λ b. next_is (is_value 59) r ≡ b → part_ops (tail p ok f cs) ≡ preceded os (value_of names m [] (v ∷ vs, r))) [
        | false ↦ λ t. ap part_ops (tail-open p ok f cs v vs r e k t) ∙ ap (preceded os) (sym (if-false _ _ _ (ap (λ b. is_whole names m (values_of (v ∷ vs)) && b) t ∙ and-false _)))
        | true ↦ λ t. closed r e t (fits ∙ k) k
      ] refl
    ] refl
  where
    closed : (r : List Code) → span p cs ≡ (v ∷ vs, r) → next_is (is_value 59) r ≡ true →
        is_whole names m (values_of (v ∷ vs)) ≡ true → ok (v ∷ vs) ≡ true →
        part_ops (tail p ok f cs) ≡ preceded os (value_of names m [] (v ∷ vs, r))
    closed [] e t i k = cc
    closed (b ∷ r) e t i k =
        ap part_ops (tail-whole p ok f cs v vs b r e k t) ∙ g v vs b ∙ ap (preceded os) (sym (if-true _ _ _ (ap (λ x. x && (b.value == 59)) i ∙ t)))

tail-plan : (names : Table) (m : ℕ) (os : List Op) (p : Code → Bool) (ok : List Code → Bool) (f : List Code → List Code → Parts) →
    HaveOpsBefore os f → (cs : List Code) → ((c : Code) → p c ≡ is_value_code m c) →
    (is_empty (span p cs).0 ≡ false → ok (span p cs).0 ≡ is_whole names m (values_of (span p cs).0)) →
    part_ops (tail p ok f cs) ≡ preceded os (value_plan names m [] cs)
tail-plan names m os p ok f g cs same h =
    tail-by names m os p ok f g cs (span p cs).0 (span p cs).1 refl h ∙ ap (λ s. preceded os (value_of names m [] s)) (span-agrees p (is_value_code m) same cs)

-- Whole values.

between-some : (k max : ℕ) → is_between 1 max (suc k) ≡ nat_le (suc k) max
between-some k max = grind arith

-- of a number, any
number-whole : (names : Table) (m : ℕ) (w : List Code) → (m == 38) ≡ false → is_empty w ≡ false →
    nat_le (length w) (value_size_max m) ≡ is_whole names m (values_of w)
number-whole names m [] e h = cc
number-whole names m (c ∷ cs) e h =
    let max : ℕ = value_size_max m in
    let value : List ℕ = values_of (c ∷ cs) in
    ap (λ n. nat_le (suc n) max) (sym (length-values cs))
    ∙ sym (between-some (length (values_of cs)) max)
    ∙ sym (ap (λ b. is_between 1 max (length value) && (not b || has_value names value)) e ∙ and-true _)

-- of a name, one of the table
name-whole : (names : Table) → IsTable names → (w : List Code) → is_empty w ≡ false → is_name names w ≡ is_whole names 38 (values_of w)
name-whole names sound [] h = cc
name-whole names sound (c ∷ cs) h =
    let value : List ℕ = values_of (c ∷ cs) in
    elim (has_value names value) as (λ b. has_value names value ≡ b → has_value names value ≡ is_whole names 38 value) [
      | true ↦ λ k. sym (ap (λ b. b && has_value names value) (between-some (length (values_of cs)) 31 ∙ le-leb (length value) 31 (name-short names sound value k)))
      | false ↦ λ k. k ∙ sym (ap (λ b. is_between 1 31 (length value) && b) k ∙ and-false _)
    ] refl

-- The three kinds.

ops-of : (o : Option (Parts × List Code)) →
    tree_ops (elim o as (λ _. Option (Forest × List Code)) [ None ↦ None | Some r ↦ Some (reference_tree r.0, r.1) ]) ≡ part_ops o
ops-of None = refl
ops-of (Some r) = refl

reference-ops : (a : Reading Parts) (cs : List Code) →
    tree_ops ((a >>= λ parts. gives (reference_tree parts)) cs) ≡ part_ops (a cs)
unfolding ◌>>=◌ gives
reference-ops a cs = ops-of (a cs)

abbrev named_by : Code → List Code → List Code → Parts
named_by c value back = record { front = c ∷ []; number = []; hexadecimal = []; value = value; back = back }

abbrev decimal_by : Code → Code → List Code → List Code → Parts
decimal_by c d value back = record { front = c ∷ []; number = d ∷ []; hexadecimal = []; value = value; back = back }

abbrev hexadecimal_by : Code → Code → Code → List Code → List Code → Parts
hexadecimal_by c d x value back =
    record { front = c ∷ []; number = d ∷ []; hexadecimal = x ∷ []; value = value; back = back }

named-is : (names : Table) (c : Code) (cs : List Code) → (c.value == 38) ≡ true →
    named_parts names (c ∷ cs) ≡ tail is_alphanumeric (is_name names) (named_by c) cs
unfolding named_parts
named-is names c cs e = bind-some _ _ _ _ _ _ (one-here (is_value 38) c cs e) refl

decimal-is : (c d : Code) (cs : List Code) → (c.value == 38) ≡ true → (d.value == 35) ≡ true →
    decimal_parts (c ∷ d ∷ cs) ≡ tail is_digit (λ v. nat_le (length v) 7) (decimal_by c d) cs
unfolding decimal_parts
decimal-is c d cs e h =
    bind-some _ _ _ _ _ _ (one-here (is_value 38) c (d ∷ cs) e) (bind-some _ _ _ _ _ _ (one-here (is_value 35) d cs h) refl)

hexadecimal-is : (c d x : Code) (cs : List Code) → (c.value == 38) ≡ true → (d.value == 35) ≡ true →
    is_among (codes "xX") x ≡ true →
    hexadecimal_parts (c ∷ d ∷ x ∷ cs) ≡ tail is_hex_digit (λ v. nat_le (length v) 6) (hexadecimal_by c d x) cs
unfolding hexadecimal_parts
hexadecimal-is c d x cs e h k =
    bind-some _ _ _ _ _ _ (one-here (is_value 38) c (d ∷ x ∷ cs) e)
    (bind-some _ _ _ _ _ _ (one-here (is_value 35) d (x ∷ cs) h) (bind-some _ _ _ _ _ _ (one-here (is_among (codes "xX")) x cs k) refl))

no-decimal : (c : Code) (cs : List Code) → (c.value == 38) ≡ true → next_is (is_value 35) cs ≡ false →
    decimal_parts (c ∷ cs) ≡ None
unfolding decimal_parts
no-decimal c cs e h =
    bind-some _ _ _ _ _ _ (one-here (is_value 38) c cs e) (bind-none _ _ _ (one-not (is_value 35) cs h))

no-hexadecimal : (c : Code) (cs : List Code) → (c.value == 38) ≡ true → next_is (is_value 35) cs ≡ false →
    hexadecimal_parts (c ∷ cs) ≡ None
unfolding hexadecimal_parts
no-hexadecimal c cs e h =
    bind-some _ _ _ _ _ _ (one-here (is_value 38) c cs e) (bind-none _ _ _ (one-not (is_value 35) cs h))

no-sign : (c d : Code) (cs : List Code) → (c.value == 38) ≡ true → (d.value == 35) ≡ true →
    next_is (is_among (codes "xX")) cs ≡ false → hexadecimal_parts (c ∷ d ∷ cs) ≡ None
unfolding hexadecimal_parts
no-sign c d cs e h k =
    bind-some _ _ _ _ _ _ (one-here (is_value 38) c (d ∷ cs) e)
    (bind-some _ _ _ _ _ _ (one-here (is_value 35) d cs h) (bind-none _ _ _ (one-not (is_among (codes "xX")) cs k)))

letter-digit : (v : ℕ) → (v == 120) || (v == 88) ≡ true → nat_le 48 v && nat_le v 57 ≡ false
letter-digit v e = grind arith

either-eq : (a b : Bool) → (a || (b || false)) ≡ true → a || b ≡ true
either-eq true b e = refl
either-eq false true e = refl
either-eq false false e = cc

-- the last operations in a reference
abbrev value_end : List Op
value_end = Exit N.CharacterReferenceValue ∷ Enter N.CharacterReferenceMarkerSemi ∷ Consume ∷ Exit N.CharacterReferenceMarkerSemi ∷ []

begins-named : (c : Code) → HaveOpsBefore (opening ++ value_start) (named_by c)
begins-named c v vs b = rw (append_assoc (consumes vs) value_end (Exit N.CharacterReference ∷ [])) refl

begins-decimal : (c d : Code) → HaveOpsBefore (opening ++ number_sign ++ value_start) (decimal_by c d)
begins-decimal c d v vs b = rw (append_assoc (consumes vs) value_end (Exit N.CharacterReference ∷ [])) refl

begins-hexadecimal : (c d x : Code) → HaveOpsBefore (opening ++ number_sign ++ hexadecimal_sign) (hexadecimal_by c d x)
begins-hexadecimal c d x v vs b = rw (append_assoc (consumes vs) value_end (Exit N.CharacterReference ∷ [])) refl

named-here : (names : Table) → IsTable names → (c : Code) (cs : List Code) → (c.value == 38) ≡ true →
    part_ops (named_parts names (c ∷ cs)) ≡ preceded opening (named_plan names cs)
named-here names sound c cs e =
    ap part_ops (named-is names c cs e)
    ∙ tail-plan names 38 (opening ++ value_start) is_alphanumeric (is_name names) (named_by c) (begins-named c) cs same-code (name-whole names sound (span is_alphanumeric cs).0)
    ∙ preceded-twice opening value_start (value_plan names 38 [] cs)

decimal-here : (names : Table) (c d : Code) (cs : List Code) → (c.value == 38) ≡ true → (d.value == 35) ≡ true →
    part_ops (decimal_parts (c ∷ d ∷ cs)) ≡ preceded opening (preceded number_sign (preceded value_start (value_plan names 35 [] cs)))
decimal-here names c d cs e h =
    ap part_ops (decimal-is c d cs e h)
    ∙ tail-plan names 35 (opening ++ number_sign ++ value_start) is_digit (λ v. nat_le (length v) 7) (decimal_by c d) (begins-decimal c d) cs (λ k. refl) (number-whole names 35 (span is_digit cs).0 refl)
    ∙ preceded-twice opening (number_sign ++ value_start) (value_plan names 35 [] cs)
    ∙ ap (preceded opening) (preceded-twice number_sign value_start (value_plan names 35 [] cs))

hexadecimal-here : (names : Table) (c d x : Code) (cs : List Code) → (c.value == 38) ≡ true → (d.value == 35) ≡ true →
    is_among (codes "xX") x ≡ true →
    part_ops (hexadecimal_parts (c ∷ d ∷ x ∷ cs)) ≡ preceded opening (preceded number_sign (preceded hexadecimal_sign (value_plan names 120 [] cs)))
hexadecimal-here names c d x cs e h k =
    ap part_ops (hexadecimal-is c d x cs e h k)
    ∙ tail-plan names 120 (opening ++ number_sign ++ hexadecimal_sign) is_hex_digit (λ v. nat_le (length v) 6) (hexadecimal_by c d x) (begins-hexadecimal c d x) cs (λ y. refl) (number-whole names 120 (span is_hex_digit cs).0 refl)
    ∙ preceded-twice opening (number_sign ++ hexadecimal_sign) (value_plan names 120 [] cs)
    ∙ ap (preceded opening) (preceded-twice number_sign hexadecimal_sign (value_plan names 120 [] cs))

-- no digit is an `x`
no-digits : (c d x : Code) (cs : List Code) → (c.value == 38) ≡ true → (d.value == 35) ≡ true →
    is_among (codes "xX") x ≡ true → decimal_parts (c ∷ d ∷ x ∷ cs) ≡ None
no-digits c d x cs e h k =
    decimal-is c d (x ∷ cs) e h
    ∙ tail-nothing is_digit (λ v. nat_le (length v) 7) (decimal_by c d) (x ∷ cs) (x ∷ cs) (span-none is_digit (x ∷ cs) (letter-digit x.value (either-eq _ _ k)))

-- a number sign begins no name
sign-letter : (v : ℕ) → (v == 35) ≡ true → is_ascii_alphanumeric v ≡ false
sign-letter v e = ap is_ascii_alphanumeric (eqb-true v 35 e)

no-letters : (names : Table) (c d : Code) (cs : List Code) → (c.value == 38) ≡ true → (d.value == 35) ≡ true →
    named_parts names (c ∷ d ∷ cs) ≡ None
no-letters names c d cs e h =
    named-is names c (d ∷ cs) e
    ∙ tail-nothing is_alphanumeric (is_name names) (named_by c) (d ∷ cs) (d ∷ cs) (span-none is_alphanumeric (d ∷ cs) (same-code d ∙ sign-letter d.value h))

abbrev numbered : Reading Parts
numbered = either decimal_parts hexadecimal_parts

abbrev parts : Table → Reading Parts
parts names = either (named_parts names) numbered

-- a number
number-parts : (names : Table) → IsTable names → (c d : Code) (cs : List Code) → (c.value == 38) ≡ true → (d.value == 35) ≡ true →
    part_ops (parts names (c ∷ d ∷ cs)) ≡ preceded opening (preceded number_sign (numeric_plan names cs))
number-parts names sound c d cs e h =
    ap part_ops (either-second (named_parts names) numbered (c ∷ d ∷ cs) (no-letters names c d cs e h))
    ∙ elim (next_is (is_among (codes "xX")) cs) as (λ b. next_is (is_among (codes "xX")) cs ≡ b → part_ops (numbered (c ∷ d ∷ cs)) ≡ preceded opening (preceded number_sign (if b then preceded hexadecimal_sign (value_plan names 120 [] (rest_of cs)) else preceded value_start (value_plan names 35 [] cs)))) [
      | true ↦ λ k. signed cs k
      | false ↦ λ k. ap part_ops (either-first decimal_parts hexadecimal_parts (c ∷ d ∷ cs) (no-sign c d cs e h k)) ∙ decimal-here names c d cs e h
    ] refl
  where
    signed : (cs : List Code) → next_is (is_among (codes "xX")) cs ≡ true →
        part_ops (numbered (c ∷ d ∷ cs)) ≡ preceded opening (preceded number_sign (preceded hexadecimal_sign (value_plan names 120 [] (rest_of cs))))
    signed [] k = cc
    signed (x ∷ cs) k =
        ap part_ops (either-second decimal_parts hexadecimal_parts (c ∷ d ∷ x ∷ cs) (no-digits c d x cs e h k)) ∙ hexadecimal-here names c d x cs e h k

-- a name, or nothing
name-parts : (names : Table) → IsTable names → (c : Code) (cs : List Code) → (c.value == 38) ≡ true → next_is (is_value 35) cs ≡ false →
    part_ops (parts names (c ∷ cs)) ≡ preceded opening (named_plan names cs)
name-parts names sound c cs e h =
    ap part_ops (either-first (named_parts names) numbered (c ∷ cs) (either-second decimal_parts hexadecimal_parts (c ∷ cs) (no-decimal c cs e h) ∙ no-hexadecimal c cs e h))
    ∙ named-here names sound c cs e

reference-parts : (names : Table) → IsTable names → (c : Code) (cs : List Code) → (c.value == 38) ≡ true →
    part_ops (parts names (c ∷ cs)) ≡ preceded opening (open_plan names cs)
reference-parts names sound c cs e =
    elim (next_is (is_value 35) cs) as (λ b. next_is (is_value 35) cs ≡ b → part_ops (parts names (c ∷ cs)) ≡ preceded opening (if b then preceded number_sign (numeric_plan names (rest_of cs)) else named_plan names cs)) [
      | true ↦ λ h. numbered-here cs h
      | false ↦ λ h. name-parts names sound c cs e h
    ] refl
  where
    numbered-here : (cs : List Code) → next_is (is_value 35) cs ≡ true →
        part_ops (parts names (c ∷ cs)) ≡ preceded opening (preceded number_sign (numeric_plan names (rest_of cs)))
    numbered-here [] h = cc
    numbered-here (d ∷ cs) h = number-parts names sound c d cs e h

pub reference-start : (names : Table) → IsTable names → (on : Bool) (c : Code) (cs : List Code) → on ≡ true → (c.value == 38) ≡ true →
    plan_of (provided on >> character_reference names) (c ∷ cs) ≡ preceded opening (open_plan names cs)
unfolding character_reference
reference-start names sound on c cs o e =
    ap tree_ops (switched-on (character_reference names) on (c ∷ cs) o) ∙ reference-ops (parts names) (c ∷ cs) ∙ reference-parts names sound c cs e

-- no reference begins at another code
named-other : (names : Table) (cs : List Code) → next_is (is_value 38) cs ≡ false → parts names cs ≡ None
unfolding named_parts decimal_parts hexadecimal_parts
named-other names cs e =
    either-second (named_parts names) numbered cs (bind-none _ _ _ (one-not (is_value 38) cs e))
    ∙ either-second decimal_parts hexadecimal_parts cs (bind-none _ _ _ (one-not (is_value 38) cs e))
    ∙ bind-none _ _ _ (one-not (is_value 38) cs e)

pub no-reference : (names : Table) (on : Bool) (cs : List Code) → on && next_is (is_value 38) cs ≡ false →
    plan_of (provided on >> character_reference names) cs ≡ None
unfolding character_reference
no-reference names false cs e = ap tree_ops (switched-off (character_reference names) false cs refl)
no-reference names true cs e =
    ap tree_ops (switched-on (character_reference names) true cs refl) ∙ reference-ops (parts names) cs ∙ ap part_ops (named-other names cs e)
