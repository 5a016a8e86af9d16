-- Nothing in the inline tree is empty but the texts of labels.
use Rattle.std.proofs.Common.{◌≡◌, Bool, true, false, ◌&&◌, ◌||◌, List, [], ◌∷◌, ◌++◌, length, refl, sym, ap, ◌∙◌, None, subst, arith}
use Rattle.std.proofs.lemmas.Bool.{both_ways}
use Rattle.markdown_event.specs.declared.event.Name.{Name}
use Rattle.markdown_content.specs.Codes.{Code}
use Rattle.markdown_content.specs.Tree.{Forest, leaf_then, ◌⊕◌}
use Rattle.markdown_model.specs.CodeTests.{is_empty}
use Rattle.markdown_model.specs.GfmEmailLiteral.{email_leaves, with_emails}
use Rattle.markdown_model.specs.Elements.{string_elements_of}
use Rattle.markdown_model.specs.Passes.{HardBreaks, breaks_where, data_onto, merged, begins_line_ending, is_nothing, trimmed_data, trimmed, with_emails_apart, labels_of}
use Rattle.markdown_model.proofs.PassesKeepCodes.{codes-trimmed_data}
use Rattle.markdown_model.proofs.PassedTrees.{walks-merged, walks-trimmed, walks-mailed, trimmed_data-has, with_emails-has}
use Rattle.markdown_model_laws.specs.TreesFilled.{IsFilled, TreesAreFilled}
use Rattle.markdown_model_laws.proofs.EachPass.{labels_in, trees-have}
use Rattle.markdown_model_laws.proofs.FilledTrees.{filled, filled-leaf, filled-join, made-filled, nothing-codes}
use Rattle.markdown_model_laws.proofs.PairSides.{right-paired}
use Rattle.markdown_model_laws.proofs.LabelTreeRuns.{apart-text-labels}
use Rattle.markdown_model_laws.proofs.PairGroupsOfText.{no-groups}
use Rattle.markdown_model_laws.proofs.MadeElements.{made-text-labels, made-string-labels}
use Rattle.markdown_model_laws.proofs.DataIsTightLaws.{emails-begin}
use Rattle.markdown_model.proofs.PairListsWithin.{whole-pairs}

-- Merging.

pub more-codes : (cs ds : List Code) → is_empty cs ≡ false → is_empty (cs ++ ds) ≡ false
more-codes [] ds h = cc
more-codes (c ∷ cs) ds h = refl

nothing-data_onto : (cs : List Code) (f : Forest) → is_nothing (data_onto cs f) ≡ false
nothing-data_onto cs (leaf_then Name.Data None more rest) = refl
nothing-data_onto cs rest = refl

nothing-merged : (f : Forest) → is_nothing (merged f) ≡ is_nothing f
unfolding merged
nothing-merged f = grind (arith, nothing-data_onto)

filled-merged : (f : Forest) → IsFilled f → IsFilled (merged f)
filled-merged f h =
    walks-merged filled (λ cs ds k _. more-codes cs ds k) (λ name a b inside _ g e. g (sym (nothing-merged inside) ∙ e)) f h

-- Trimming.

nothing-before : (a f : Forest) → is_nothing (a ⊕ f) ≡ true → is_nothing a ≡ true
nothing-before a f h = grind arith

nothing-trimmed : (hard : HardBreaks) (front whole : Bool) (f : Forest) → IsFilled f → is_nothing (trimmed hard front whole f) ≡ true →
    is_nothing f ≡ true
unfolding trimmed
nothing-trimmed hard front whole (leaf_then Name.Data None cs rest) h e =
    absurd (both_ways (is_empty cs) h.0 (ap is_empty (sym (codes-trimmed_data front back (breaks_where hard (begins_line_ending rest)) cs) ∙ nothing-codes piece (nothing-before piece (trimmed hard false whole rest) e))))
  where
    back : Bool
    back = begins_line_ending rest || (whole && is_nothing rest)

    piece : Forest
    piece = trimmed_data front back (breaks_where hard (begins_line_ending rest)) cs
nothing-trimmed hard front whole f h e = cc

filled-trimmed : (hard : HardBreaks) (front whole : Bool) (f : Forest) → IsFilled f → IsFilled (trimmed hard front whole f)
filled-trimmed hard front whole f h =
    walks-trimmed filled hard (λ x y z cs _. trimmed_data-has IsFilled filled-join (filled-leaf Name.Data) (filled-leaf Name.HardBreakTrailing) (filled-leaf Name.SpaceOrTab) x y z cs)
    (λ name a b inside k g e. g (nothing-trimmed hard false false inside k e)) front whole f h

-- Emails.

nothing-mailed : (f : Forest) → IsFilled f → is_nothing (with_emails_apart f) ≡ true → is_nothing f ≡ true
unfolding with_emails_apart with_emails
nothing-mailed (leaf_then Name.Data None cs rest) h e =
    absurd (both_ways (is_nothing (email_leaves (length cs) [] cs ⊕ with_emails_apart rest)) (emails-begin (length cs) [] cs (with_emails_apart rest) h.0).1 e)
nothing-mailed f h e = grind arith

filled-mailed : (f : Forest) → IsFilled f → IsFilled (with_emails_apart f)
filled-mailed f h =
    walks-mailed filled (λ cs _. with_emails-has IsFilled filled-join (filled-leaf Name.Data) (λ before ds. filled-leaf _ ds) cs) (λ name a b inside k g e. g (nothing-mailed inside k e)) f h

pub trees_are_filled : TreesAreFilled
trees_are_filled s cs =
    let labels : Forest = labels_in s cs in
    let text = made-text-labels s cs in
    trees-have IsFilled (record { merging = filled-merged; trimming = filled-trimmed; mailing = filled-mailed }) s cs
    (subst IsFilled (sym (whole-pairs s labels)) (right-paired s labels (no-groups labels text) (made-filled labels text) (apart-text-labels s cs)).1)
    (made-filled (labels_of (string_elements_of s cs)) (made-string-labels s cs))
