-- A content has exactly one list of elements.
use Rattle.std.proofs.Common.{◌≡◌, ℕ, zero, suc, ◌≤◌, List, [], ◌∷◌, length, refl, sym, ◌∙◌, ap, subst, arith, Option, Some, None}
use Rattle.markdown_content.specs.Codes.{Code}
use Rattle.markdown_model.specs.Setting.{Setting, within}
use Rattle.markdown_model.specs.LabelEnd.{Element}
use Rattle.markdown_model.specs.Elements.{Choice, AreElementsFrom, elements_from, code_before, text_choice, string_choice, AreElements, AreStringElements, elements_of, string_elements_of}
use Rattle.markdown_model.proofs.ReadsACode.{Left, Consumes}
use Rattle.markdown_model.proofs.ElementsReadACode.{GivesSome, text_element_takes, string_element_takes, text_element_holds, string_element_holds}

none_some : {A : Type 0} (x : A) → None ≡ Some x → ⊥
none_some x e = cc

-- a choice that takes a code wherever there is one, and holds nowhere else
module _ (choice : Choice) (takes : (earlier : List Element) (previous : Option Code) → Consumes 1 (choice earlier previous))
    (holds : (earlier : List Element) (previous : Option Code) (c : Code) (cs : List Code) → GivesSome (choice earlier previous (c ∷ cs))) where
  same_elements : (earlier : List Element) (previous : Option Code) (cs : List Code) (es fs : List Element)
      → AreElementsFrom choice earlier previous cs es → AreElementsFrom choice earlier previous cs fs → es ≡ fs
  same_elements earlier previous cs [] [] a b = refl
  same_elements earlier previous cs [] (f ∷ fs) a b = absurd (at_end (choice earlier previous cs) b.1 ((takes earlier previous).at cs))
    where
      at_end : (r : Option (Element × List Code)) → r ≡ Some (f, b.0) → Left 1 cs r → ⊥
      at_end None k x = none_some _ k
      at_end (Some y) k x = omega (arith, ap length a)
  same_elements earlier previous cs (e ∷ es) [] a b = absurd (at_end (choice earlier previous cs) a.1 ((takes earlier previous).at cs))
    where
      at_end : (r : Option (Element × List Code)) → r ≡ Some (e, a.0) → Left 1 cs r → ⊥
      at_end None k x = none_some _ k
      at_end (Some y) k x = omega (arith, ap length b)
  same_elements earlier previous cs (e ∷ es) (f ∷ fs) a b =
      let both : (e, a.0) ≡ (f, b.0) = some_injective (e, a.0) (f, b.0) (sym a.1 ∙ b.1) in
      let after : AreElementsFrom choice (e ∷ earlier) (code_before cs a.0) a.0 fs =
      subst (λ p. AreElementsFrom choice (p.0 ∷ earlier) (code_before cs p.1) p.1 fs) (sym both) b.2 in
      λ i. (both i).0 ∷ same_elements (e ∷ earlier) (code_before cs a.0) a.0 es fs a.2 after i
    where
      or_else : (Element × List Code) → Option (Element × List Code) → Element × List Code
      or_else d None = d
      or_else d (Some x) = x

      some_injective : (x y : Element × List Code) → Some x ≡ Some y → x ≡ y
      some_injective x y h = ap (or_else x) h

  some_elements : (n : ℕ) (earlier : List Element) (previous : Option Code) (cs : List Code) → length cs ≤ n
      → AreElementsFrom choice earlier previous cs (elements_from choice n earlier previous cs)
  unfolding elements_from
  some_elements zero earlier previous [] h = refl
  some_elements zero earlier previous (c ∷ cs) h = absurd (omega arith)
  some_elements (suc n) earlier previous [] h = at_end (choice earlier previous []) ((takes earlier previous).at [])
    where
      at_end : (r : Option (Element × List Code)) → Left 1 [] r
          → AreElementsFrom choice earlier previous [] (elim r [ None ↦ [] | Some x ↦ x.0 ∷ elements_from choice n (x.0 ∷ earlier) (code_before [] x.1) x.1 ])
      at_end None k = refl
      at_end (Some x) k = absurd (omega arith)
  some_elements (suc n) earlier previous (c ∷ cs) h =
      at_code (choice earlier previous (c ∷ cs)) refl (holds earlier previous c cs) ((takes earlier previous).at (c ∷ cs))
      (λ e rest. some_elements n (e ∷ earlier) (code_before (c ∷ cs) rest) rest)
    where
      at_code : (r : Option (Element × List Code)) → choice earlier previous (c ∷ cs) ≡ r → GivesSome r → Left 1 (c ∷ cs) r
          → ((e : Element) (rest : List Code) → length rest ≤ n → AreElementsFrom choice (e ∷ earlier) (code_before (c ∷ cs) rest) rest (elements_from choice n (e ∷ earlier) (code_before (c ∷ cs) rest) rest))
          → AreElementsFrom choice earlier previous (c ∷ cs) (elim r [ None ↦ [] | Some x ↦ x.0 ∷ elements_from choice n (x.0 ∷ earlier) (code_before (c ∷ cs) x.1) x.1 ])
      at_code None k x y more = absurd x
      at_code (Some z) k x y more = (z.1, k, more z.0 z.1 (omega arith))

pub text_elements : (s : Setting) (cs : List Code) → AreElements s cs (elements_of s cs)
unfolding elements_of
text_elements s cs =
    some_elements (text_choice s cs) (text_element_takes (within cs s) _) (text_element_holds (within cs s) _) (length cs) [] None cs (omega arith)

pub same_text_elements : (s : Setting) (cs : List Code) (es fs : List Element) → AreElements s cs es →
    AreElements s cs fs → es ≡ fs
same_text_elements s cs es fs =
    same_elements (text_choice s cs) (text_element_takes (within cs s) _) (text_element_holds (within cs s) _) [] None cs es fs

pub string_elements : (s : Setting) (cs : List Code) → AreStringElements s cs (string_elements_of s cs)
unfolding string_elements_of
string_elements s cs =
    some_elements (string_choice s) (λ earlier previous. string_element_takes s) (λ earlier previous. string_element_holds s) (length cs) [] None cs (omega arith)

pub same_string_elements : (s : Setting) (cs : List Code) (es fs : List Element) → AreStringElements s cs es →
    AreStringElements s cs fs → es ≡ fs
same_string_elements s cs es fs =
    same_elements (string_choice s) (λ earlier previous. string_element_takes s) (λ earlier previous. string_element_holds s) [] None cs es fs
