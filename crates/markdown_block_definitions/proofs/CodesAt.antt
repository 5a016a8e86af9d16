-- The code at a place, by the value there.
use Rattle.std.proofs.Common.{◌≡◌, ℕ, zero, suc, ◌+◌, ◌<◌, refl, ap, ◌∙◌, sym, List, [], ◌∷◌, length, take, drop, get_or, ◌-◌, drop-drop, length-drop, add-one, Bool, false, Option, Some, None, arith}
use Rattle.std.proofs.Math.Seq.{take-length}
use Rattle.markdown_content.specs.Codes.{Code}
use Rattle.markdown_model.specs.CodeTests.{values_of}
use Rattle.markdown_model.specs.Grammar.{with_first}
use Rattle.markdown_block_line.proofs.RestValues.{rest-values}
use Rattle.markdown_block_definitions.specs.TextReadings.{left_by, is_first, firsts_of}

by-here : {P : Type 0} (cs : List Code) (k d : ℕ) (e : Bool) → k < length (values_of cs) → ((c : Code) → drop k cs ≡ c ∷ drop (suc k) cs → c.value ≡ get_or (values_of cs) k d → is_first c ≡ get_or (firsts_of cs) k e → P) → P
by-here [] k d e l f = absurd (omega arith)
by-here (c ∷ cs) zero d e l f = f c refl refl refl
by-here (c ∷ cs) (suc k) d e l f = by-here cs k d e (omega arith) f

pub by-both : {P : Type 0} (cs : List Code) (vs : List ℕ) (bs : List Bool) (k d : ℕ) (e : Bool) → values_of cs ≡ vs → firsts_of cs ≡ bs → k < length vs
    → ((c : Code) → drop k cs ≡ c ∷ drop (k + 1) cs → c.value ≡ get_or vs k d → is_first c ≡ get_or bs k e → P) → P
by-both cs vs bs k d e h b l f = by-here cs k d e (omega (arith, l, ap length h)) (λ c i v w.
    f c (i ∙ ap (λ (m : ℕ). c ∷ drop m cs) (sym (add-one k))) (v ∙ ap (λ (x : List ℕ). get_or x k d) h) (w ∙ ap (λ (x : List Bool). get_or x k e) b))

pub by-code : {P : Type 0} (cs : List Code) (vs : List ℕ) (k d : ℕ) → values_of cs ≡ vs → k < length vs → ((c : Code) → drop k cs ≡ c ∷ drop (k + 1) cs → c.value ≡ get_or vs k d → P) → P
by-code cs vs k d h l f = by-both cs vs (firsts_of cs) k d false h refl l (λ c i v w. f c i v)

pub left-with : (c : Code) (o : Option (List Code × List Code)) → left_by (with_first c o) ≡ left_by o
left-with c None = refl
left-with c (Some r) = refl

-- the rest behind two parts
pub rest-twice : (s n : ℕ) (cs : List Code) (vs : List ℕ) → values_of cs ≡ vs → values_of (drop n (drop s cs)) ≡ take (length vs - (s + n)) (drop (s + n) vs)
rest-twice s n cs vs h = ap values_of (drop-drop n s cs) ∙ rest-values (s + n) cs vs h

pub firsts-drop : (k : ℕ) (cs : List Code) → firsts_of (drop k cs) ≡ drop k (firsts_of cs)
firsts-drop zero cs = refl
firsts-drop (suc k) [] = refl
firsts-drop (suc k) (c ∷ cs) = firsts-drop k cs

pub rest-firsts : (k : ℕ) (cs : List Code) (bs : List Bool) → firsts_of cs ≡ bs → firsts_of (drop k cs) ≡ take (length bs - k) (drop k bs)
rest-firsts k cs bs h = firsts-drop k cs ∙ ap (drop k) h ∙ sym (simp (← length-drop k bs) (take-length (drop k bs)))
