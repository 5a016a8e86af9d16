-- Which blank codes of data are set apart, and which of them are a hard break.
use Rattle.std.proofs.Common.{◌≡◌, nat_le, Bool, true, false, ◌&&◌, ◌||◌, not, List, [], ◌∷◌, ◌++◌, length, reverse, refl, sym, ap, ◌∙◌, arith}
use Rattle.std.proofs.lemmas.List.{reverse-append, reverse-reverse}
use Rattle.std.proofs.lemmas.Bool.Decides.{nat_tests}
use Rattle.std.specs.List.{list_all}
use Rattle.std.proofs.lemmas.List.Folds.{list_all-append}
use Rattle.markdown_event.specs.declared.event.Name.{Name}
use Rattle.markdown_content.specs.Codes.{Code, is_blank}
use Rattle.markdown_content.specs.Tree.{Forest, leaf, ◌⊕◌}
use Rattle.markdown_model.specs.CodeTests.{is_real_space}
use Rattle.markdown_model.specs.Grammar.{span}
use Rattle.markdown_model.specs.Passes.{HardBreaks, is_hard_break_trailing, blank_name, trimmed_data}
use Rattle.markdown_model_laws.specs.BlanksApart.{EndsIn, IsHardBreak, BlanksAreSetApart}
use Rattle.markdown_model_laws.proofs.CodesAtEnds.{end-cut, end-found}

-- Hard breaks, of the codes last one first.

abbrev begins_two : List Code → Bool
begins_two (a ∷ b ∷ rest) = is_real_space a && is_real_space b
begins_two _ = false

is-break : (two_last : Bool) (cs : List Code) → is_hard_break_trailing two_last cs ≡ (two_last || list_all is_real_space cs) && begins_two (reverse cs)
is-break two_last cs = ap (λ b. (two_last || list_all is_real_space cs) && b) (two-first (reverse cs))
  where
    two-first : (rs : List Code) → nat_le 2 (length (span is_real_space rs).0) ≡ begins_two rs
    two-first [] = refl
    two-first (a ∷ []) = grind arith
    two-first (a ∷ b ∷ cs) = grind (arith, nat_tests)

break-back : (two_last : Bool) (cs rs : List Code) → reverse cs ≡ rs → (two_last || list_all is_real_space cs) && begins_two rs ≡ true → IsHardBreak two_last cs
break-back two_last cs (b ∷ a ∷ rs) e h =
    let whole : cs ≡ reverse rs ++ (a ∷ b ∷ []) = sym (reverse-reverse cs) ∙ ap reverse e ∙ reverse-append (b ∷ a ∷ []) rs in
    record { front = reverse rs; space = a; last = b; stands = whole; two = (grind arith, grind arith); others = λ k. grind (arith, list_all-append is_real_space (reverse rs) (a ∷ b ∷ [])) }
break-back two_last cs rs e h = absurd (grind arith)

break-found : (two_last : Bool) (cs : List Code) → IsHardBreak two_last cs → (two_last || list_all is_real_space cs) && begins_two (reverse cs) ≡ true
break-found two_last cs b = grind (arith, b.stands, reverse-append, list_all-append)

-- The codes that a line's end or start sets apart.

span-if : (p : Code → Bool) (b : Bool) (cs : List Code) → span (λ c. b && p c) cs ≡ elim b as (λ _. List Code × List Code) [ true ↦ span p cs | false ↦ ([], cs) ]
span-if p true cs = refl
span-if p false [] = refl
span-if p false (c ∷ cs) = refl

data-cut : (starts ends : Bool) (hard : HardBreaks) (cs kept back front text : List Code) → EndsIn (λ c. (ends && not hard.keeps) && is_blank c) cs kept back → span (λ c. starts && is_blank c) kept ≡ (front, text)
    → trimmed_data starts ends hard cs ≡ leaf Name.SpaceOrTab front ⊕ leaf Name.Data text ⊕ leaf (blank_name hard back) back
data-cut starts ends hard cs kept back front text e h =
    (λ i. with_back (cut i)) ∙ (λ i. leaf Name.SpaceOrTab (lead i).0 ⊕ leaf Name.Data (lead i).1 ⊕ leaf (blank_name hard (reverse-reverse back i)) (reverse-reverse back i))
  where
    by_start : List Code → List Code × List Code
    by_start xs = elim starts [ true ↦ span is_blank xs | false ↦ ([], xs) ]

    with_back : List Code × List Code → Forest
    with_back s = leaf Name.SpaceOrTab (by_start (reverse s.1)).0 ⊕ leaf Name.Data (by_start (reverse s.1)).1 ⊕ leaf (blank_name hard (reverse s.0)) (reverse s.0)

    cut : elim (ends && not hard.keeps) as (λ _. List Code × List Code) [ true ↦ span is_blank (reverse cs) | false ↦ ([], reverse cs) ] ≡ (reverse back, reverse kept)
    cut = sym (span-if is_blank (ends && not hard.keeps) (reverse cs)) ∙ end-found _ cs kept back e

    lead : by_start (reverse (reverse kept)) ≡ (front, text)
    lead = ap by_start (reverse-reverse kept) ∙ sym (span-if is_blank starts kept) ∙ h

pub blanks_are_set_apart : BlanksAreSetApart
blanks_are_set_apart = record {
  breaks = λ two_last cs. (λ e. break-back two_last cs (reverse cs) refl (sym (is-break two_last cs) ∙ e), λ b. is-break two_last cs ∙ break-found two_last cs b);
  parts = data-cut;
  each = λ p cs. (reverse (span p (reverse cs)).1, reverse (span p (reverse cs)).0, end-cut p cs);
}
