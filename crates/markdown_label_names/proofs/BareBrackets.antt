-- By CommonMark nothing is defined that has a bare bracket.
use Rattle.std.proofs.Common.{◌≡◌, ◌∙◌, ap, refl, ◌||◌, ◌&&◌, ◌==◌, ℕ, Bool, true, false, not, if◌then◌else◌, List, [], ◌∷◌, ◌++◌, Some, None}
use Rattle.markdown_content.specs.declared.label_kind.LabelKind.{LabelKind}
use Rattle.markdown_label_names.proofs.IdentifierFrontLemmas.{IsFrontOf}
use Rattle.markdown_label_names.specs.LabelNames.{link_as}
use Rattle.markdown_model.specs.LabelEnd.{is_footnote, is_too_long, label_name, name_between, text_between, with_caret}
use Rattle.markdown_model.specs.Setting.{Setting, brackets_are_escaped, is_defined, is_of_label, rules}

front-bare : (taken : Bool) (front more : List ℕ) → brackets_are_escaped taken front ≡ false → brackets_are_escaped taken (front ++ more) ≡ false
front-bare taken [] more h = absurd (both taken h)
  where
    both : (taken : Bool) → brackets_are_escaped taken [] ≡ false → ⊥
    both taken h = cc
front-bare true (b ∷ bs) more h = front-bare false bs more h
front-bare false (b ∷ bs) more h = go (not (b == 91 || b == 93)) (λ k. front-bare (b == 92) bs more k) h
  where
    go : (first : Bool) → (brackets_are_escaped (b == 92) bs ≡ false → brackets_are_escaped (b == 92) (bs ++ more) ≡ false) →
        (first && brackets_are_escaped (b == 92) bs) ≡ false → (first && brackets_are_escaped (b == 92) (bs ++ more)) ≡ false
    go true rest k = rest k
    go false rest k = refl

-- a text is bare where a front of it is
pub bare-front : (front text : List ℕ) → IsFrontOf front text → brackets_are_escaped false front ≡ false → brackets_are_escaped false text ≡ false
bare-front front text b h = ap (brackets_are_escaped false) b.1 ∙ front-bare false front b.0 h

unlabelled : (name : List ℕ) → brackets_are_escaped false name ≡ false → is_of_label name ≡ false
unlabelled [] h = refl
unlabelled (b ∷ bs) h = h

and-false : (b : Bool) → (b && false) ≡ false
and-false true = refl
and-false false = refl

no-link : (s : Setting) (kind : LabelKind) (name : List ℕ) → is_footnote kind ≡ false → (rules s).definitions_have_labels ≡ true →
    brackets_are_escaped false name ≡ false → link_as s kind (Some name) ≡ Some false
no-link s kind name k limited bare =
    (λ i. if k i && is_defined s.footnotes name then None else Some (is_defined s.definitions (elim (k i) [ true ↦ 94 ∷ name | false ↦ name ]) && (not (limited i) || is_of_label (elim (k i) [ true ↦ 94 ∷ name | false ↦ name ]))))
    ∙ ap (λ b. Some (is_defined s.definitions name && b)) (unlabelled name bare) ∙ ap Some (and-false (is_defined s.definitions name))

-- so no link's label is defined whose text is bare, whether it is too long or not
pub bare-label : (s : Setting) (kind : LabelKind) (start end : ℕ) → is_footnote kind ≡ false → (rules s).definitions_have_labels ≡ true →
    brackets_are_escaped false (name_between s start end) ≡ false → link_as s kind (label_name s kind start end) ≡ Some false
bare-label s kind start end k limited bare = go ((rules s).definitions_have_labels && is_too_long (with_caret kind (text_between s start end)))
  where
    go : (long : Bool) → link_as s kind (if long then None else Some (name_between s start end)) ≡ Some false
    go true = λ i. if k i && false then None else Some false
    go false = no-link s kind (name_between s start end) k limited bare
