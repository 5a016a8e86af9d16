-- Texts that are UTF-8, and texts behind a caret.
use Rattle.std.proofs.Common.{◌≡◌, ℕ, Bool, true, false, List, drop, None, Some, Bor, Result, Ok, Err, MatchResult, codes, if◌then◌else◌, refl, sym, ap, subst, ◌∙◌}
use Rattle.std.specs.List.{starts_with}
use Rattle.std.specs.Prelude.{nat_eq}
use Rattle.std.specs.Str.{is_utf8, IsUtf8, IsCharBoundary}
use Rattle.std.specs.Str.Pattern.{FindsTextPrefix, StripsPrefix}
use Rattle.std.proofs.lemmas.Str.{is_utf8-from_IsUtf8, IsUtf8-from_is_utf8}
use Rattle.std.proofs.lemmas.Str.Pattern.{starts_text}
use Rattle.markdown_tree.specs.Referred.{behind_caret, if_utf8}

pub utf8_read : {E : Type 0} (r : Result (Bor (List ℕ)) E) (x : Bor (List ℕ)) (text : List ℕ) (Q : E → Type 0) → MatchResult r (λ s. (s.now ≡ text) × IsUtf8 text) Q → r ≡ Ok x
    → Some x.now ≡ if_utf8 text
utf8_read r x text Q h e =
    let w = subst (λ r. MatchResult r (λ s. (s.now ≡ text) × IsUtf8 text) Q) e h in
    ap Some w.0 ∙ ap (λ b. if b then Some text else None) (sym (is_utf8-from_IsUtf8 text w.1))

unread : (b : Bool) (text : List ℕ) → (b ≡ true → ⊥) → None ≡ (if b then Some text else None)
unread true text h = absurd (h refl)
unread false text h = refl

pub utf8_unread : {E : Type 0} (r : Result (Bor (List ℕ)) E) (e : E) (text : List ℕ) (P : Bor (List ℕ) → Type 0) (Q : E → Type 0) → MatchResult r P (λ e. (IsUtf8 text → ⊥) × Q e) → r ≡ Err e
    → None ≡ if_utf8 text
utf8_unread r e text P Q h is =
    let w = subst (λ r. MatchResult r P (λ e. (IsUtf8 text → ⊥) × Q e)) is h in
    unread (is_utf8 text) text (λ u. w.0 (IsUtf8-from_is_utf8 text u))

with_caret : (b : Bool) (w : List ℕ) → starts_with nat_eq w (codes "^") ≡ b → behind_caret w ≡ (if b then Some (drop 1 w) else None)
with_caret b w e = ap (λ (x : Bool). if x then Some (drop 1 w) else None) e

pub caret_stripped : (w t : List ℕ) → StripsPrefix (FindsTextPrefix (codes "^")) w t → Some t ≡ behind_caret w
caret_stripped w t k =
    let boundary : IsCharBoundary w k.0 = subst (λ n. IsCharBoundary w n) (sym k.1.0) k.1.2 in
    let starts : starts_with nat_eq w (codes "^") ≡ true = sym (starts_text true (codes "^") w (k.0, k.1, boundary)) in
    ap Some (k.2 ∙ ap (λ n. drop n w) k.1.0) ∙ sym (with_caret true w starts)

pub no_caret : (w : List ℕ) → FindsTextPrefix (codes "^") w None → None ≡ behind_caret w
no_caret w k = sym (with_caret false w (sym (starts_text false (codes "^") w k)))
