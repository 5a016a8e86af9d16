-- Where a text is cut into lines.
use Rattle.std.proofs.Common.{◌≡◌, ◌⊎◌, inl, inr, Bool, true, false, ◌&&◌, not, List, [], ◌∷◌, ◌++◌, refl, sym, ap, ◌∙◌, append_assoc, append-nil, Option, arith}
use Rattle.std.specs.List.{list_all, list_any}
use Rattle.std.proofs.lemmas.List.Folds.{list_all-append, list_any-append}
use Rattle.std.proofs.lemmas.Bool.{both_ways}
use Rattle.std.proofs.lemmas.Bool.Decides.{nat_tests}
use Rattle.markdown_event.specs.declared.event.Name.{Name}
use Rattle.markdown_event.specs.declared.event.Content.{Content}
use Rattle.markdown_event.proofs.AndParts.{and-left, and-right}
use Rattle.markdown_content.specs.Codes.{Code, is_line_ending, is_blank}
use Rattle.markdown_content.specs.Tree.{Forest, ◌⊕◌}
use Rattle.markdown_model.specs.CodeTests.{next_is}
use Rattle.markdown_model.specs.Grammar.{span}
use Rattle.markdown_model.specs.TextLines.{joins, stretches, linked_leaf, lines_of, lines_from, lines}
use Rattle.markdown_model.proofs.LeafCodes.{span-append}
use Rattle.markdown_model.proofs.DefinitionSteps.{span-all, span-stops, stretches-next, is_in_line, lines_of-ending, lines_of-line}
use Rattle.markdown_model_laws.specs.LinesCut.{IsUnmixed, StretchesAreCut, LinesAreCut}
use Rattle.markdown_model_laws.proofs.CodesAtEnds.{span-of}

in-line : (cs : List Code) → list_any is_line_ending cs ≡ false → list_all is_in_line cs ≡ true
in-line [] h = refl
in-line (c ∷ cs) h = grind (arith, in-line cs)

blank-in-line : (c : Code) → is_blank c ≡ true → is_in_line c ≡ true
blank-in-line c h = grind (arith, nat_tests)

blanks-in-line : (cs : List Code) → list_all is_blank cs ≡ true → list_all is_in_line cs ≡ true
blanks-in-line [] h = refl
blanks-in-line (c ∷ cs) h = grind (arith, blank-in-line, blanks-in-line cs)

-- a line is cut off before what does not go on with it
line-first : (c : Code) (cs rest : List Code) → list_all is_in_line (c ∷ cs) ≡ true → next_is is_in_line rest ≡ false → lines_of ((c ∷ cs) ++ rest) ≡ (c ∷ cs) ∷ lines_of rest
line-first c cs rest h k =
    lines_of-line c (cs ++ rest) (not-false _ (and-left _ _ h))
    ∙ ap (λ (s : List Code × List Code). (c ∷ s.0) ∷ lines_of s.1) (span-of is_in_line cs rest (and-right _ _ h) k)
  where
    not-false : (b : Bool) → not b ≡ true → b ≡ false
    not-false b e = grind arith

module _ (name : Name) (link : Option Content) where
  abbrev leaves : Bool → List Code → Forest
  leaves later cs = lines_from name link later (lines_of cs)

  -- the line at hand, which is the first
  first-line : (cs rest : List Code) → list_all is_in_line cs ≡ true → next_is is_in_line rest ≡ false →
      leaves false (cs ++ rest) ≡ linked_leaf name link cs ⊕ leaves false rest
  first-line [] rest h k = refl
  first-line (c ∷ cs) rest h k = ap (lines_from name link false) (line-first c cs rest h k) ∙ grind arith

  at-ending : (later : Bool) (c : Code) (cs : List Code) → is_line_ending c ≡ true → leaves later (c ∷ cs) ≡ linked_leaf Name.LineEnding link (c ∷ []) ⊕ leaves true cs
  at-ending later c cs e = ap (lines_from name link later) (lines_of-ending c cs e) ∙ grind arith

  later-line : (cs rest : List Code) → list_all is_in_line cs ≡ true → next_is is_in_line rest ≡ false →
      leaves true (cs ++ rest) ≡ linked_leaf Name.SpaceOrTab link (span is_blank cs).0 ⊕ linked_leaf name link (span is_blank cs).1 ⊕ leaves false rest
  later-line [] [] h k = refl
  later-line [] (c ∷ rest) h k = at-ending true c rest (not-not _ k) ∙ sym (at-ending false c rest (not-not _ k))
    where
      not-not : (b : Bool) → not b ≡ false → b ≡ true
      not-not b e = grind arith
  later-line (c ∷ cs) rest h k = ap (lines_from name link true) (line-first c cs rest h k) ∙ grind arith

  -- blank codes, and what does not begin with one, on a later line
  blanks-first : (blank rest : List Code) → list_all is_blank blank ≡ true → next_is is_blank rest ≡ false →
      leaves true (blank ++ rest) ≡ linked_leaf Name.SpaceOrTab link blank ⊕ leaves false rest
  blanks-first blank rest h k =
      let s : List Code × List Code = span is_in_line rest in
      ap (leaves true) (ap (λ xs. blank ++ xs) (sym (span-append is_in_line rest)) ∙ sym (append_assoc blank s.0 s.1))
      ∙ later-line (blank ++ s.0) s.1 (list_all-append is_in_line blank s.0 ∙ (λ i. blanks-in-line blank h i && span-all is_in_line rest i)) (span-stops is_in_line rest)
      ∙ (λ i. linked_leaf Name.SpaceOrTab link (span-of is_blank blank s.0 h (first-fails rest k) i).0 ⊕ linked_leaf name link (span-of is_blank blank s.0 h (first-fails rest k) i).1 ⊕ leaves false s.1)
      ∙ ap (λ t. linked_leaf Name.SpaceOrTab link blank ⊕ t) (sym (first-line s.0 s.1 (span-all is_in_line rest) (span-stops is_in_line rest)) ∙ ap (leaves false) (span-append is_in_line rest))
    where
      first-fails : (cs : List Code) → next_is is_blank cs ≡ false → next_is is_blank (span is_in_line cs).0 ≡ false
      first-fails [] e = refl
      first-fails (c ∷ cs) e = grind arith

  last-line : (line : List Code) → list_any is_line_ending line ≡ false → lines name link line ≡ linked_leaf name link line
  last-line [] h = refl
  last-line (c ∷ cs) h = ap (leaves false) (sym (append-nil (c ∷ cs))) ∙ first-line (c ∷ cs) [] (in-line (c ∷ cs) h) refl

-- codes of one line that are alike
abbrev AreAlike : (Code → Bool) → List Code → Type 0
AreAlike p cs = (list_any is_line_ending cs ≡ false) × ((list_all p cs ≡ true) ⊎ (list_any p cs ≡ false))

alike-join : (p : Code → Bool) (c d : Code) (cs : List Code) → AreAlike p (c ∷ d ∷ cs) → joins p c d ≡ true
alike-join p c d cs h = grind arith

alike-fewer : (p : Code → Bool) (c d : Code) (cs : List Code) → AreAlike p (c ∷ d ∷ cs) → AreAlike p (c ∷ cs)
alike-fewer p c d cs h = grind arith

-- one more that joins
alike-more : (p : Code → Bool) (c d : Code) (cs : List Code) → AreAlike p (c ∷ cs) → joins p c d ≡ true → AreAlike p (c ∷ (cs ++ (d ∷ [])))
alike-more p c d cs h e = grind (arith, list_any-append, list_all-append)

ending-alone : (p : Code → Bool) (c d : Code) → is_line_ending c ≡ true → joins p c d ≡ false
ending-alone p c d e = grind arith

stretch-more : (p : Code → Bool) (c d : Code) (cs : List Code) → IsUnmixed p (c ∷ cs) → joins p c d ≡ true → IsUnmixed p (c ∷ (cs ++ (d ∷ [])))
stretch-more p c d cs (inl h) e =
    let same : c ≡ h.0 = cc (h.1) in
    absurd (both_ways _ (ending-alone p c d (ap is_line_ending same ∙ h.2)) e)
stretch-more p c d cs (inr h) e = inr (alike-more p c d cs h e)

stretches-cut : StretchesAreCut
stretches-cut p c cs rest h most =
    stretches-next p c (cs ++ rest) ∙ ap (λ (s : List Code × List Code). (c ∷ s.0) ∷ stretches p s.1) (span-of (joins p c) cs rest (all-join cs h) (stops rest most))
  where
    all-join : (cs : List Code) → IsUnmixed p (c ∷ cs) → list_all (joins p c) cs ≡ true
    all-join [] h = refl
    all-join (d ∷ cs) (inl e) = absurd (longer e.1)
      where
        longer : {x : Code} → c ∷ d ∷ cs ≡ x ∷ [] → ⊥
        longer k = cc
    all-join (d ∷ cs) (inr h) = λ i. alike-join p c d cs h i && all-join cs (inr (alike-fewer p c d cs h)) i

    stops : (rest : List Code) → ((d : Code) (ds : List Code) → rest ≡ d ∷ ds → IsUnmixed p (c ∷ (cs ++ (d ∷ []))) → ⊥) → next_is (joins p c) rest ≡ false
    stops [] m = refl
    stops (d ∷ ds) m = by_test (joins p c d) refl
      where
        by_test : (b : Bool) → joins p c d ≡ b → b ≡ false
        by_test false e = refl
        by_test true e = absurd (m d ds refl (stretch-more p c d cs h e))

pub lines_are_cut : LinesAreCut
lines_are_cut = record {
  stretch = stretches-cut;
  last = last-line;
  line = λ name link line blank rest ending h e b k.
      first-line name link line (ending ∷ (blank ++ rest)) (in-line line h) (ap not e)
      ∙ ap (λ t. linked_leaf name link line ⊕ t) (at-ending name link false ending (blank ++ rest) e ∙ ap (λ t. linked_leaf Name.LineEnding link (ending ∷ []) ⊕ t) (blanks-first name link blank rest b k));
}
