-- Which words define something.
use Rattle.std.proofs.Common.{◌≡◌, ℕ, ◌+◌, ◌<◌, Bool, true, false, List, [], ◌∷◌, ◌++◌, length, take, drop, None, Some, refl, sym, ap, subst, ◌∙◌, map, string_bytes, get_or, append_assoc, append-nil}
use Rattle.std.specs.Prelude.{nat_eq, if◌then◌else◌}
use Rattle.std.specs.List.{starts_with}
use Rattle.std.specs.Str.{IsCharBoundary}
use Rattle.std.specs.Str.Pattern.{FindsTextPrefix, StripsPrefix}
use Rattle.std.proofs.lemmas.Str.Pattern.{starts_text}
use Rattle.markdown_util.specs.Identifier.{identifier_of}
use Rattle.std.specs.declared.alloc.Global.{Global}
use Rattle.std.specs.declared.string.String.{String}
use Rattle.std.proofs.lemmas.List.{take_more, map-append}
use Rattle.markdown_program.specs.ProgramWords.{defined_word, defined_by, listed}

with-prefix : (b : Bool) (p w : List ℕ) → starts_with nat_eq w p ≡ b →
    defined_word p w ≡ (if b then Some (identifier_of (drop (length p) w)) else None)
with-prefix b p w e = ap (λ (x : Bool). if x then Some (identifier_of (drop (length p) w)) else None) e

pub defined-yes : (p w t : List ℕ) → StripsPrefix (FindsTextPrefix p) w t → Some (identifier_of t) ≡ defined_word p w
defined-yes p w t k =
    let boundary : IsCharBoundary w k.0 = subst (λ n. IsCharBoundary w n) (sym k.1.0) k.1.2 in
    let starts : starts_with nat_eq w p ≡ true = sym (starts_text true p w (k.0, k.1, boundary)) in
    ap (λ x. Some (identifier_of x)) (k.2 ∙ ap (λ n. drop n w) k.1.0) ∙ sym (with-prefix true p w starts)

pub defined-no : (p w : List ℕ) → FindsTextPrefix p w None → None ≡ defined_word p w
defined-no p w k = sym (with-prefix false p w (sym (starts_text false p w k)))

defined_by-append : (p : List ℕ) (xs ys : List (String Global)) →
    defined_by p (xs ++ ys) ≡ defined_by p xs ++ defined_by p ys
defined_by-append p [] ys = refl
defined_by-append p (x ∷ xs) ys =
    ap (λ zs. listed (defined_word p (string_bytes x)) ++ zs) (defined_by-append p xs ys) ∙ sym (append_assoc (listed (defined_word p (string_bytes x))) (defined_by p xs) (defined_by p ys))

defined-next : (p : List ℕ) (ws : List (String Global)) (i : ℕ) (w : String Global) → i < length ws →
    w ≡ get_or ws i w →
    defined_by p (take (i + 1) ws) ≡ defined_by p (take i ws) ++ listed (defined_word p (string_bytes w))
defined-next p ws i w h e =
    ap (defined_by p) (take_more ws i w h ∙ ap (λ x. take i ws ++ x ∷ []) (sym e))
    ∙ defined_by-append p (take i ws) (w ∷ [])
    ∙ ap (λ x. defined_by p (take i ws) ++ x) (append-nil (listed (defined_word p (string_bytes w))))

pub defined-more : (p : List ℕ) (ws : List (String Global)) (i : ℕ) (w : String Global) (found more : List (String Global)) →
    i < length ws → w ≡ get_or ws i w → map string_bytes found ≡ defined_by p (take i ws) →
    map string_bytes more ≡ listed (defined_word p (string_bytes w)) →
    map string_bytes (found ++ more) ≡ defined_by p (take (i + 1) ws)
defined-more p ws i w found more h e k l =
    map-append string_bytes found more ∙ ap (λ x. x ++ map string_bytes more) k ∙ ap (λ x. defined_by p (take i ws) ++ x) l ∙ sym (defined-next p ws i w h e)

-- nothing more where the word defines nothing
pub defined-same : (p : List ℕ) (ws : List (String Global)) (i : ℕ) (w : String Global) (found : List (String Global)) →
    i < length ws → w ≡ get_or ws i w → map string_bytes found ≡ defined_by p (take i ws) →
    None ≡ defined_word p (string_bytes w) → map string_bytes found ≡ defined_by p (take (i + 1) ws)
defined-same p ws i w found h e k l =
    k ∙ sym (append-nil (defined_by p (take i ws))) ∙ ap (λ x. defined_by p (take i ws) ++ listed x) l ∙ sym (defined-next p ws i w h e)
