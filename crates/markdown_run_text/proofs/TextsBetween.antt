-- The text from one index to another is that up to the later of the two: where the second is not behind the first, it is empty.
use Rattle.std.proofs.Common.{◌≡◌, ℕ, ◌-◌, ◌++◌, List, [], ◌∷◌, take, drop, refl, ap, ◌∙◌, arith}
use Rattle.std.specs.Prelude.{max, min}
use Rattle.std.proofs.Math.Nat.{le-max_left, min-le_left, sub-add-eq-max}
use Rattle.markdown_content.specs.Codes.{Code}
use Rattle.markdown_content.specs.ContentBytes.{bytes_of_code, bytes_within}
use Rattle.markdown_content.specs.declared.label_kind.LabelKind.{LabelKind}
use Rattle.markdown_model.specs.LabelEnd.{label_name, name_between, text_between}
use Rattle.markdown_model.specs.Setting.{Setting, rules}
use Rattle.markdown_util.specs.Identifier.{identifier_by}

min-size : (i j a b : ℕ) → min (max j i) b - max i a ≡ min j b - max i a
min-size i j a b = grind (arith, sub-add-eq-max, min-le_left, le-max_left)

of-code : (bs : List ℕ) (i j : ℕ) (c : Code) → bytes_of_code bs i (max j i) c ≡ bytes_of_code bs i j c
of-code bs i j c = ap (λ n. take n (drop (max i c.start.index) bs)) (min-size i j c.start.index c.stop.index)

of-codes : (bs : List ℕ) (i j : ℕ) (cs : List Code) → bytes_within bs i (max j i) cs ≡ bytes_within bs i j cs
of-codes bs i j [] = refl
of-codes bs i j (c ∷ cs) = λ k. of-code bs i j c k ++ of-codes bs i j cs k

text-max : (s : Setting) (i j : ℕ) → text_between s i (max j i) ≡ text_between s i j
text-max s i j = grind (arith, of-codes, sub-add-eq-max)

text-between : (s : Setting) (i j start end : ℕ) → start ≡ i → end ≡ max j start → text_between s start end ≡ text_between s i j
text-between s i j start end e h = (λ k. text_between s (e k) ((h ∙ ap (max j) e) k)) ∙ text-max s i j

pub name-between : (s : Setting) (i j start end : ℕ) → start ≡ i → end ≡ max j start →
    name_between s start end ≡ name_between s i j
name-between s i j start end e h = ap (identifier_by (rules s).nul_is_replaced) (text-between s i j start end e h)

pub label-between : (s : Setting) (kind : LabelKind) (i j start end : ℕ) → start ≡ i → end ≡ max j start →
    label_name s kind start end ≡ label_name s kind i j
label-between s kind i j start end e h = grind (arith, text-between)
