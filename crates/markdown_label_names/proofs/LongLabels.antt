-- A count of characters that stops at the limit of a link label.
use Rattle.std.proofs.Common.{◌≡◌, ◌∙◌, sym, ap, ℕ, ◌+◌, ◌-◌, ◌<◌, ◌≤◌, Bool, true, false, ◌&&◌, ◌||◌, ◌==◌, if◌then◌else◌, List, [], ◌∷◌, ◌++◌, drop, length, get_or, refl, arith}
use mir.Val.{bool_byte}
use Rattle.std.proofs.lemmas.Bool.{le-ltb, lt-ltb, ltb-true}
use Rattle.std.proofs.lemmas.List.{at_drop_all, at_drop_more}
use Rattle.markdown_content.specs.Codes.{carriage_return, is_line_ending_byte}
use Rattle.markdown_content.specs.declared.label_kind.LabelKind.{LabelKind}
use Rattle.markdown_model.specs.LabelEnd.{begins_counted, characters_of, is_blank_byte, is_footnote, is_too_long, with_caret}
use Rattle.markdown_label_names.proofs.IdentifierFrontLemmas.{IsFrontOf}

-- so many characters may still come where these are counted
abbrev pub IsCounting : LabelKind → List ℕ → ℕ → ℕ → Bool → Bool → Type 0
IsCounting kind text i left indent returned = characters_of false false (with_caret kind text) + left ≡ 999 + characters_of indent returned (drop i text)

-- before the text, the caret of a footnote start alone is counted
pub counting-start : (kind : LabelKind) (text : List ℕ) (has_caret : Bool) → has_caret ≡ is_footnote kind →
    IsCounting kind text 0 (999 - bool_byte has_caret) false false
counting-start kind text has_caret e =
    ap (λ b. characters_of false false (with_caret kind text) + (999 - bool_byte b)) e ∙ go (is_footnote kind)
  where
    go : (b : Bool) →
        characters_of false false (elim b [ true ↦ 94 ∷ text | false ↦ text ]) + (999 - bool_byte b) ≡ 999 + characters_of false false text
    go true = let one : characters_of false false (94 ∷ text) ≡ 1 + characters_of false false text = refl in omega (arith, one)
    go false = omega arith

abbrev pub weight : Bool → ℕ
weight counts = if counts then 1 else 0

next : (text : List ℕ) (i : ℕ) (indent returned : Bool) → i < length text →
    characters_of indent returned (drop i text)
    ≡ weight (begins_counted indent returned (get_or text i 0)) + characters_of (is_line_ending_byte (get_or text i 0) || (indent && is_blank_byte (get_or text i 0))) (get_or text i 0 == carriage_return) (drop (i + 1) text)
next text i indent returned h = at_drop_more (characters_of indent returned) text i 0 h

pub counting-step : (kind : LabelKind) (text : List ℕ) (i left left' : ℕ) (indent returned indent' counts : Bool) → i < length text → IsCounting kind text i left indent returned →
    counts ≡ begins_counted indent returned (get_or text i 0) → left ≡ weight counts + left' →
    indent' ≡ (is_line_ending_byte (get_or text i 0) || (indent && is_blank_byte (get_or text i 0))) → IsCounting kind text (i + 1) left' indent' (get_or text i 0 == carriage_return)
counting-step kind text i left left' indent returned indent' counts h k e m n =
    let rest : ℕ = characters_of (is_line_ending_byte (get_or text i 0) || (indent && is_blank_byte (get_or text i 0))) (get_or text i 0 == carriage_return) (drop (i + 1) text) in
    let here : characters_of indent returned (drop i text) ≡ weight counts + rest = next text i indent returned h ∙ ap (λ b. weight b + rest) (sym e) in
    let sum : characters_of false false (with_caret kind text) + left' ≡ 999 + rest = omega (arith, k, here, m) in
    sum ∙ ap (λ b. 999 + characters_of b (get_or text i 0 == carriage_return) (drop (i + 1) text)) (sym n)

pub counting-past : (kind : LabelKind) (text : List ℕ) (i : ℕ) (indent returned : Bool) → i < length text → IsCounting kind text i 0 indent returned →
    true ≡ begins_counted indent returned (get_or text i 0) → true ≡ is_too_long (with_caret kind text)
counting-past kind text i indent returned h k e =
    let rest : ℕ = characters_of (is_line_ending_byte (get_or text i 0) || (indent && is_blank_byte (get_or text i 0))) (get_or text i 0 == carriage_return) (drop (i + 1) text) in
    let here : characters_of indent returned (drop i text) ≡ 1 + rest = next text i indent returned h ∙ ap (λ b. weight b + rest) (sym e) in
    sym (lt-ltb 999 (characters_of false false (with_caret kind text)) (omega (arith, k, here)))

pub counting-end : (kind : LabelKind) (text : List ℕ) (i left : ℕ) (indent returned : Bool) → length text ≤ i → IsCounting kind text i left indent returned → false ≡ is_too_long (with_caret kind text)
counting-end kind text i left indent returned h k =
    let none : characters_of indent returned (drop i text) ≡ 0 = at_drop_all (characters_of indent returned) text i h in
    sym (le-ltb 999 (characters_of false false (with_caret kind text)) (omega (arith, k, none)))

-- What has a front that is too long is too long.

front-least : (front more : List ℕ) (indent returned : Bool) → characters_of indent returned front ≤ characters_of indent returned (front ++ more)
front-least [] more indent returned = omega arith
front-least (b ∷ bs) more indent returned =
    omega (arith, front-least bs more (is_line_ending_byte b || (indent && is_blank_byte b)) (b == carriage_return))

pub long-front : (kind : LabelKind) (front text : List ℕ) → IsFrontOf front text → is_too_long (with_caret kind front) ≡ true → is_too_long (with_caret kind text) ≡ true
long-front kind front text b h = ap (λ xs. is_too_long (with_caret kind xs)) b.1 ∙ go (is_footnote kind) h
  where
    longer : (xs : List ℕ) → is_too_long xs ≡ true → is_too_long (xs ++ b.0) ≡ true
    longer xs k = lt-ltb 999 (characters_of false false (xs ++ b.0)) (omega (arith, ltb-true 999 (characters_of false false xs) k, front-least xs b.0 false false))

    go : (caret : Bool) → is_too_long (elim caret [ true ↦ 94 ∷ front | false ↦ front ]) ≡ true →
        is_too_long (elim caret [ true ↦ 94 ∷ (front ++ b.0) | false ↦ front ++ b.0 ]) ≡ true
    go true k = longer (94 ∷ front) k
    go false k = longer front k
