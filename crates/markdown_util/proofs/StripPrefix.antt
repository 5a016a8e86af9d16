-- What `strip_prefix` at an ASCII character says of a text.
use Rattle.std.proofs.Common.{◌≡◌, ◌≢◌, ◌∙◌, refl, ap, subst, ℕ, ◌<◌, ◌+◌, lit<, List, [], ◌∷◌, ◌++◌, length, get_or, drop, Option, Some, None, Bor, MatchOption, arith}
use Rattle.std.specs.List.{All}
use Rattle.std.specs.Str.{IsUtf8}
use Rattle.std.specs.Str.Pattern.{FindsCharPrefix}
use Rattle.std.proofs.Math.Seq.{drop-append-add}
use Rattle.std.proofs.lemmas.List.{length-append, get_or_default}
use Rattle.std.proofs.lemmas.Str.{IsUtf8-drop, IsCharBoundary-after_ascii}
use Rattle.std.proofs.lemmas.Str.Pattern.{strip_prefix_char, IsSplitOnceResult, split_parts}
use Rattle.markdown_util.specs.ReferenceParts.{LacksFirst}

-- the clause of the call
abbrev pub Stripped : ℕ → List ℕ → Option (Bor (List ℕ)) → Type 0
Stripped b bs r =
    MatchOption r (FindsCharPrefix b bs None) (λ x. (n : ℕ) × FindsCharPrefix b bs (Some n) × (x.now ≡ drop n bs) × (length x.now + n ≡ length bs))

pub strip_prefix-none : (b : ℕ) (bs : List ℕ) (r : Option (Bor (List ℕ))) → b < 128 → Stripped b bs r → r ≡ None →
    LacksFirst b bs
strip_prefix-none b bs r low h e = go r (strip_prefix_char b bs r h low) e
  where
    go : (r : Option (Bor (List ℕ))) → MatchOption r ((rest : List ℕ) → bs ≢ b ∷ rest) (λ x. bs ≡ b ∷ x.now) →
        r ≡ None → LacksFirst b bs
    go None h e = h
    go (Some x) h e = cc

pub strip_prefix-some : (b : ℕ) (bs : List ℕ) (r : Option (Bor (List ℕ))) (x : Bor (List ℕ)) → b < 128 →
    Stripped b bs r → r ≡ Some x → bs ≡ b ∷ x.now
strip_prefix-some b bs r x low h e = go r (strip_prefix_char b bs r h low) e
  where
    go : (r : Option (Bor (List ℕ))) → MatchOption r ((rest : List ℕ) → bs ≢ b ∷ rest) (λ y. bs ≡ b ∷ y.now) →
        r ≡ Some x → bs ≡ b ∷ x.now
    go None h e = cc
    go (Some y) h e = cc

-- The first `&` of a text.
pub record IsFirstAmpersand (bs before after : List ℕ) : Type 0 where
  pub is : bs ≡ before ++ 38 ∷ after
  pub plain : All (λ b. b ≢ 38) before

apart : (bs : List ℕ) → ((i : ℕ) → i < length bs → get_or bs i 0 ≢ 38) → All (λ b. b ≢ 38) bs
apart bs h k d lt = λ e. h k lt (get_or_default bs k 0 d lt ∙ e)

pub split_once-none : (bs : List ℕ) (r : Option (Bor (List ℕ) × Bor (List ℕ))) → IsSplitOnceResult 38 bs r → r ≡ None →
    All (λ b. b ≢ 38) bs
split_once-none bs r h e = go r (split_parts 38 bs r h (lit< tt)) e
  where
    go : (r : Option (Bor (List ℕ) × Bor (List ℕ))) → MatchOption r ((i : ℕ) → i < length bs → get_or bs i 0 ≢ 38) (λ x. (bs ≡ x.0.now ++ 38 ∷ x.1.now) × ((i : ℕ) → i < length x.0.now → get_or x.0.now i 0 ≢ 38)) → r ≡ None
        → All (λ b. b ≢ 38) bs
    go None h e = apart bs h
    go (Some x) h e = cc

pub split_once-some : (bs : List ℕ) (r : Option (Bor (List ℕ) × Bor (List ℕ))) (before after : Bor (List ℕ)) →
    IsSplitOnceResult 38 bs r → r ≡ Some (before, after) → IsFirstAmpersand bs before.now after.now
split_once-some bs r before after h e = grind (arith, split_parts, lit<, apart)

get_or-seam : (front : List ℕ) (b : ℕ) (back : List ℕ) → get_or (front ++ b ∷ back) (length front) 0 ≡ b
get_or-seam [] b back = refl
get_or-seam (x ∷ front) b back = get_or-seam front b back

-- what stands behind an ASCII byte of a text is a text
pub utf8-behind : (b : ℕ) (bs front back : List ℕ) → b < 128 → IsUtf8 bs → bs ≡ front ++ b ∷ back → IsUtf8 back
utf8-behind b bs front back low u e =
    let read : get_or bs (length front) 0 ≡ b = ap (λ xs. get_or xs (length front) 0) e ∙ get_or-seam front b back in
    let inside : length front < length bs = omega (arith, ap length e, length-append front (b ∷ back)) in
    let cut = IsCharBoundary-after_ascii bs (length front) u inside (omega (arith, read)) in
    subst IsUtf8 (ap (drop (length front + 1)) e ∙ drop-append-add front (b ∷ back) 1) (IsUtf8-drop bs (length front + 1) u cut)
