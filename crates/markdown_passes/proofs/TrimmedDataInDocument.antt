-- What is left of data that is trimmed is part of the document, as the data was.
use Rattle.std.proofs.Common.{◌≡◌, ◌≢◌, ℕ, ◌&&◌, ◌||◌, Bool, true, false, List, [], ◌∷◌, ◌++◌, Some, None, refl, sym, ap, subst, ◌∙◌, append_assoc, not}
use Rattle.std.proofs.lemmas.Bool.{both_ways}
use Rattle.markdown_content.specs.Codes.{Code}
use Rattle.markdown_content.specs.Tree.{Forest, empty, leaf_then, group_then, leaf, ◌⊕◌}
use Rattle.markdown_event.specs.declared.event.Name.{Name}
use Rattle.markdown_event.specs.declared.event.Name.TheVariants as N
use Rattle.markdown_model.specs.Passes.{HardBreaks, breaks_where, trimmed, trimmed_data, is_hard_break_trailing, blank_name, begins_line_ending, is_nothing}
use Rattle.markdown_passes.specs.MergedEvents.{is_data}
use Rattle.markdown_passes.specs.TrimmedEvents.{is_ending, AreDocumentCodes, HasParts}
use Rattle.markdown_passes.proofs.TrimPassLaw.{trimmed-data, trimmed-other, trimmed-linked, trimmed-group, data-name}
use Rattle.markdown_passes.proofs.TrimmedLeaves.{kept_of, tail_of, lead_of, kept-parts, lead-parts}

parts-row : (bytes : List ℕ) (t u : Forest) → HasParts bytes t → HasParts bytes u → HasParts bytes (t ⊕ u)
parts-row bytes empty u h k = k
parts-row bytes (leaf_then name link cs rest) u h k = (h.0, parts-row bytes rest u h.1 k)
parts-row bytes (group_then name a b inside rest) u h k = (h.0, (h.1.0, parts-row bytes rest u h.1.1 k))

-- codes of a part are a part, if they are some
part-inside : (bytes : List ℕ) (a b c : List Code) → AreDocumentCodes bytes (a ++ (b ++ c)) → b ≢ [] → AreDocumentCodes bytes b
part-inside bytes a b c h some = record {
  before = h.before ++ a;
  after = c ++ h.after;
  whole = h.whole
      ∙ ap (λ xs. h.before ++ xs) (append_assoc a (b ++ c) h.after ∙ ap (λ xs. a ++ xs) (append_assoc b c h.after))
      ∙ sym (append_assoc h.before a (b ++ (c ++ h.after)));
  some = some;
}

filled : (c : Code) (cs : List Code) → (c ∷ cs) ≢ []
filled c cs e = cc

parts-other : (bytes : List ℕ) (name : Name) (cs : List Code) → is_data name ≡ false → HasParts bytes (leaf name cs)
parts-other bytes name [] h = tt
parts-other bytes name (c ∷ cs) h = (λ e l. absurd (both_ways (is_data name) h e), tt)

parts-data : (bytes : List ℕ) (a b c : List Code) → AreDocumentCodes bytes (a ++ (b ++ c)) → HasParts bytes (leaf N.Data b)
parts-data bytes a [] c h = tt
parts-data bytes a (d ∷ ds) c h = (λ e l. part-inside bytes a (d ∷ ds) c h (filled d ds), tt)

blank-other : (hard : HardBreaks) (cs : List Code) → is_data (blank_name hard cs) ≡ false
blank-other hard cs = by (hard.on && is_hard_break_trailing hard.two_last cs)
  where
    by : (b : Bool) → is_data (elim b as (λ _. Name) [ true ↦ N.HardBreakTrailing | false ↦ N.SpaceOrTab ]) ≡ false
    by true = refl
    by false = refl

parts-trimmed : (bytes : List ℕ) (front back : Bool) (hard : HardBreaks) (cs : List Code) → AreDocumentCodes bytes cs →
    HasParts bytes (trimmed_data front back hard cs)
parts-trimmed bytes front back hard cs h =
    let goes : Bool = back && not hard.keeps in
    let kept : List Code = kept_of goes cs in
    let tail : List Code = tail_of goes cs in
    let lead : List Code × List Code = lead_of front kept in
    let apart : cs ≡ lead.0 ++ (lead.1 ++ tail) = kept-parts goes cs ∙ ap (λ xs. xs ++ tail) (lead-parts front kept) ∙ append_assoc lead.0 lead.1 tail in
    parts-row bytes (leaf N.SpaceOrTab lead.0) (leaf N.Data lead.1 ⊕ leaf (blank_name hard tail) tail) (parts-other bytes N.SpaceOrTab lead.0 refl)
    (parts-row bytes (leaf N.Data lead.1) (leaf (blank_name hard tail) tail) (parts-data bytes lead.0 lead.1 tail (subst (AreDocumentCodes bytes) apart h)) (parts-other bytes (blank_name hard tail) tail (blank-other hard tail)))

module _ (bytes : List ℕ) (hard : HardBreaks) where
  abbrev KeepsParts : Forest → Type 0
  KeepsParts t = (front whole : Bool) → HasParts bytes t → HasParts bytes (trimmed hard front whole t)

  keeps-plain : (name : Name) (cs : List Code) (rest : Forest) (b : Bool) → is_data name ≡ b → KeepsParts rest →
      KeepsParts (leaf_then name None cs rest)
  keeps-plain name cs rest true e more = subst (λ (n : Name). KeepsParts (leaf_then n None cs rest)) (sym (data-name name e)) keeps-data
    where
      keeps-data : KeepsParts (leaf_then N.Data None cs rest)
      keeps-data front whole h =
          let back : Bool = begins_line_ending rest || (whole && is_nothing rest) in
          subst (HasParts bytes) (sym (trimmed-data hard front whole cs rest))
          (parts-row bytes (trimmed_data front back (breaks_where hard (begins_line_ending rest)) cs) (trimmed hard false whole rest) (parts-trimmed bytes front back (breaks_where hard (begins_line_ending rest)) cs (h.0 refl refl)) (more false whole h.1))
  keeps-plain name cs rest false e more = keeps-other
    where
      keeps-other : KeepsParts (leaf_then name None cs rest)
      keeps-other front whole h =
          subst (HasParts bytes) (sym (trimmed-other hard front whole name cs rest e)) (h.0, more (is_ending name) whole h.1)

  -- trimming keeps data part of the document
  pub parts-kept : (t : Forest) → KeepsParts t
  unfolding trimmed
  parts-kept empty front whole h = tt
  parts-kept (leaf_then name None cs rest) front whole h =
      keeps-plain name cs rest (is_data name) refl (parts-kept rest) front whole h
  parts-kept (leaf_then name (Some c) cs rest) front whole h =
      subst (HasParts bytes) (sym (trimmed-linked hard front whole name c cs rest)) (h.0, parts-kept rest (is_ending name) whole h.1)
  parts-kept (group_then name a b inside rest) front whole h =
      subst (HasParts bytes) (sym (trimmed-group hard front whole name a b inside rest)) (h.0, (parts-kept inside false false h.1.0, parts-kept rest false whole h.1.1))
