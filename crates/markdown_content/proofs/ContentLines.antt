-- The lines of a text, code by code.
use Rattle.std.proofs.Common.{ℕ, Bool, true, false, not, ◌||◌, ◌==◌, ◌<◌, ◌≡◌, arith, List, [], ◌∷◌, refl, sym, ap, ◌∙◌, Option, Some, None, is_some, if◌then◌else◌}
use Rattle.std.proofs.lemmas.Bool.{eqb-true}
use Rattle.std.proofs.lemmas.Bool.Decides.{nat_tests}
use Rattle.markdown_content.specs.Codes.{Code, is_line_ending, is_blank}
use Rattle.markdown_content.specs.Content.{has_no_blank_line, is_text_codes}
use Rattle.markdown_content.specs.Place.{Place, ahead_at, moved, code_at}
use Rattle.markdown_content.specs.Stretch.{past_stretch}
use Rattle.markdown_content.proofs.StretchLemmas.{kept}
use Rattle.markdown_content.proofs.PlaceRules.{IsAhead, ahead_some, ahead_none, code_at_ahead, code_at_end}

pub not-swap : (a r : Bool) → a ≡ not r → r ≡ not a
not-swap a true h = ap not (sym h)
not-swap a false h = ap not (sym h)

text-start-by : (p : Place) (cs : List Code) (r : Bool) → ahead_at p ≡ cs → r ≡ not (is_some (code_at p)) →
    is_text_codes cs ≡ has_no_blank_line r cs
text-start-by p [] r e h = sym (h ∙ ap (λ (o : Option ℕ). not (is_some o)) (code_at_end p e))
text-start-by p (c ∷ cs) r e h =
    let none : r ≡ false = h ∙ ap (λ (o : Option ℕ). not (is_some o)) (code_at_ahead p c cs e) in
    ap (λ (b : Bool). has_no_blank_line b (c ∷ cs)) (sym none)

pub text-start : (p : Place) (r : Bool) → r ≡ not (is_some (code_at p)) →
    is_text_codes (ahead_at p) ≡ has_no_blank_line r (ahead_at p)
text-start p r h = text-start-by p (ahead_at p) r refl h

filled-by : (b : Bool) (c : Code) (cs : List Code) (t : Bool) → is_line_ending c ≡ t → (t ≡ true → b ≡ true) →
    has_no_blank_line b (c ∷ cs) ≡ has_no_blank_line (if t then false else (b || not (is_blank c))) cs
filled-by b c cs true h k = let yes : b ≡ true = k refl in rw (h, yes, has_no_blank_line) refl
filled-by b c cs false h k = rw (h, has_no_blank_line) refl

blank-by : (b : Bool) (c : Code) (cs : List Code) → is_line_ending c ≡ true → b ≡ false →
    has_no_blank_line b (c ∷ cs) ≡ false
blank-by b c cs h e = rw (h, e, has_no_blank_line) refl

-- one code further
pub text-next : (p : Place) (v : ℕ) (b r : Bool) → code_at p ≡ Some v → (v ≡ 10 → b ≡ true) →
    r ≡ (if v == 10 then false else (b || not (v == 32 || v == 9))) →
    has_no_blank_line b (ahead_at p) ≡ has_no_blank_line r (ahead_at (moved p))
text-next p v b r h k e =
    let a : IsAhead p v = ahead_some p v h in
    let ending : is_line_ending a.code ≡ (v == 10) = ap (λ (n : ℕ). n == 10) a.value in
    let blank : is_blank a.code ≡ (v == 32 || v == 9) = ap (λ (n : ℕ). n == 32 || n == 9) a.value in
    let whole : has_no_blank_line b (ahead_at p) ≡ has_no_blank_line (if v == 10 then false else (b || not (is_blank a.code))) (ahead_at (moved p)) =
    ap (λ (cs : List Code). has_no_blank_line b cs) a.codes ∙ filled-by b a.code (ahead_at (moved p)) (v == 10) ending (λ t. k (eqb-true v 10 t)) in
    whole ∙ ap (λ (x : Bool). has_no_blank_line (if v == 10 then false else (b || not x)) (ahead_at (moved p))) blank ∙ ap (λ (x : Bool). has_no_blank_line x (ahead_at (moved p))) (sym e)

pub text-end : (p : Place) (b : Bool) → code_at p ≡ None → has_no_blank_line b (ahead_at p) ≡ b
text-end p b h = ap (λ (cs : List Code). has_no_blank_line b cs) (ahead_none p h)

-- past the rest of a line that is filled
text-stretch : (ms : List ℕ) (p : Place) →
    has_no_blank_line true (ahead_at (past_stretch ms p)) ≡ has_no_blank_line true (ahead_at p)
text-stretch ms p =
    kept ms (λ x. has_no_blank_line true (ahead_at x) ≡ has_no_blank_line true (ahead_at p)) (λ x v h ending free k. sym (text-next x v true true h (λ t. refl) (ap (λ (y : Bool). if y then false else true) (sym ending))) ∙ k) p refl

-- between places from which it is as far to the end of the line
pub text-within : (ms : List ℕ) (p q : Place) → past_stretch ms q ≡ past_stretch ms p →
    has_no_blank_line true (ahead_at q) ≡ has_no_blank_line true (ahead_at p)
text-within ms p q e =
    sym (text-stretch ms q) ∙ ap (λ (x : Place). has_no_blank_line true (ahead_at x)) e ∙ text-stretch ms p

-- past the line ending of a line that is filled
pub text-ended : (p q : Place) → code_at p ≡ Some 10 → q ≡ moved p →
    has_no_blank_line false (ahead_at q) ≡ has_no_blank_line true (ahead_at p)
text-ended p q h e =
    ap (λ (x : Place). has_no_blank_line false (ahead_at x)) e ∙ sym (text-next p 10 true false h (λ _. refl) refl)

ink-fills : (v : ℕ) (b : Bool) → 32 < v → true ≡ (if v == 10 then false else (b || not (v == 32 || v == 9)))
ink-fills v b h = grind (arith, nat_tests)

not-ending : (v : ℕ) → 32 < v → v ≡ 10 → ⊥
not-ending v h e = omega (arith, h, e)

-- a line that goes on with a code that is neither a line ending nor blank
pub text-ink : (p : Place) (v : ℕ) → code_at p ≡ Some v → 32 < v →
    has_no_blank_line false (ahead_at p) ≡ has_no_blank_line true (ahead_at p)
text-ink p v h above =
    text-next p v false true h (λ e. absurd (not-ending v above e)) (ink-fills v false above) ∙ sym (text-next p v true true h (λ _. refl) (ink-fills v true above))

plain-keeps : (v : ℕ) → 13 < v → true ≡ (if v == 10 then false else (true || not (v == 32 || v == 9)))
plain-keeps v h = grind (arith, nat_tests)

-- a line that is filled, before its last code
pub text-last : (p : Place) (v : ℕ) → code_at p ≡ Some v → 13 < v → code_at (moved p) ≡ None →
    has_no_blank_line true (ahead_at p) ≡ true
text-last p v h above none =
    text-next p v true true h (λ _. refl) (plain-keeps v above) ∙ text-end (moved p) true none

-- a blank line
pub text-blank : (p : Place) (v : ℕ) (b : Bool) → code_at p ≡ Some v → v ≡ 10 → b ≡ false →
    has_no_blank_line b (ahead_at p) ≡ false
text-blank p v b h k e =
    let a : IsAhead p v = ahead_some p v h in
    let ending : is_line_ending a.code ≡ true = ap (λ (n : ℕ). n == 10) (a.value ∙ k) in
    ap (λ (cs : List Code). has_no_blank_line b cs) a.codes ∙ blank-by b a.code (ahead_at (moved p)) ending e
