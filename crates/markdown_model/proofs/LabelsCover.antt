-- What label ends read covers it, and grouping labels keeps the codes of a content's elements.
use Rattle.std.proofs.Common.{◌≡◌, ℕ, zero, suc, ◌≤◌, Bool, not, List, [], ◌∷◌, ◌++◌, length, take, drop, map, refl, ◌∙◌, ap, arith, Option, Some, None}
use Rattle.std.proofs.lemmas.List.{append_assoc, append-nil, take-append-drop}
use Rattle.markdown_event.specs.declared.event.Name.{Name}
use Rattle.markdown_content.specs.declared.label_kind.LabelKind.{LabelKind}
use Rattle.markdown_content.specs.Codes.{Code, stop_of, document_start}
use Rattle.markdown_content.specs.Tree.{Forest, empty, leaf, ◌⊕◌, group, text_group, start_of, leaf_codes}
use Rattle.markdown_model.specs.Grammar.{◌>>=◌, ◌>>◌, gives, either, provided}
use Rattle.markdown_model.specs.Resource.{reference_names}
use Rattle.markdown_model.specs.Setting.{Setting}
use Rattle.markdown_model.specs.LabelEnd.{Element, plain, starts, ends, Label, label_back, label_before, is_barred, full_reference, collapsed_reference, shortcut, shortcut_before_bracket, reference_after_label, after_label, footnote_call, link_or_image, link_kind, outcome_of, label_end}
use Rattle.markdown_model.specs.BracketGroups.{joined}
use Rattle.markdown_model.specs.Passes.{Start, End, as_bracket, start_marker, start_tree, label_group, loose_start, loose_end, labelled, labels_of}
use Rattle.markdown_model.proofs.LeafCodes.{codes-leaf}
use Rattle.markdown_model.proofs.ReadingsCover.{Covers, codes_laws, bind, given, if_passed, one_of, by_next, where_not, takes_one, covers_resource, covers_label}
use Rattle.markdown_model.proofs.BracketSums.{codes_add, codes_of_all, codes-joined, sum-append, sum-nested, word_sum}
use Rattle.markdown_model.proofs.PassesKeepCodes.{codes-loose}
use Rattle.markdown_content.proofs.TreeCodes.{leaf_codes-row}

-- How many starts are unused: each end uses up one, if there is one.

abbrev pub depth_after : ℕ → Element → ℕ
depth_after d (plain tree) = d
depth_after d (starts kind marker) = suc d
depth_after zero (ends marker outcome) = zero
depth_after (suc d) (ends marker outcome) = d

-- after these elements, last one first
abbrev pub unused : List Element → ℕ
unused [] = zero
unused (e ∷ earlier) = depth_after (unused earlier) e

one_more : (marker : List Code) (outcome : Option (LabelKind × Forest)) (u d : ℕ) →
    depth_after u (ends marker outcome) ≤ d → u ≤ suc d
one_more marker outcome zero d h = omega arith
one_more marker outcome (suc u) d h = omega arith

no_label_back : (d : ℕ) (inside earlier : List Element) → unused earlier ≤ d → label_back d inside earlier ≡ None
no_label_back d inside [] h = refl
no_label_back zero inside (starts kind marker ∷ earlier) h = absurd (omega arith)
no_label_back (suc d) inside (starts kind marker ∷ earlier) h =
    no_label_back d (starts kind marker ∷ inside) earlier (omega arith)
no_label_back d inside (ends marker outcome ∷ earlier) h =
    no_label_back (suc d) (ends marker outcome ∷ inside) earlier (one_more marker outcome (unused earlier) d h)
no_label_back d inside (plain tree ∷ earlier) h = no_label_back d (plain tree ∷ inside) earlier h

-- without an unused start there is no label
no_label : (earlier : List Element) → unused earlier ≡ zero → label_before earlier ≡ None
unfolding label_before
no_label earlier h = no_label_back zero [] earlier (omega arith)

-- the codes of an element before which so many starts are unused; an end without one is a `]` alone
abbrev pub element_codes : ℕ → Element → List Code
element_codes d (plain t) = leaf_codes t
element_codes d (starts kind marker) = marker
element_codes d (ends marker None) = marker
element_codes zero (ends marker (Some outcome)) = marker
element_codes (suc d) (ends marker (Some outcome)) = marker ++ leaf_codes outcome.1

abbrev pub elements_codes : ℕ → List Element → List Code
elements_codes d [] = []
elements_codes d (e ∷ es) = element_codes d e ++ elements_codes (depth_after d e) es

-- Label ends.

pub covers_full_reference : (s : Setting) → Covers leaf_codes [] (full_reference s)
unfolding full_reference
covers_full_reference s = bind _ _ _ _ _ (covers_label _ reference_names) λ tree. if_passed _ _ _ _ (given _ _ tree refl)

pub covers_collapsed : Covers leaf_codes [] collapsed_reference
unfolding collapsed_reference
covers_collapsed =
    bind _ _ _ _ _ (takes_one _) λ front. bind _ _ _ _ _ (takes_one _) λ back. given _ _ _ (simp codes_laws)

pub covers_shortcut : (defined : Bool) → Covers leaf_codes [] (shortcut defined)
unfolding shortcut
covers_shortcut defined = if_passed _ _ _ _ (given _ _ empty refl)

pub covers_after_label : (s : Setting) (defined : Bool) → Covers leaf_codes [] (after_label s defined)
unfolding after_label reference_after_label shortcut_before_bracket
covers_after_label s defined = grind (arith, by_next, one_of, covers_resource, covers_shortcut, covers_full_reference, if_passed, covers_collapsed, where_not)

abbrev pub outcome_codes : LabelKind × Forest → List Code
outcome_codes o = leaf_codes o.1

pub covers_footnote_call : (s : Setting) (l : Label) (back : List Code) →
    Covers outcome_codes [] (footnote_call s l back)
unfolding footnote_call
covers_footnote_call s l back = if_passed _ _ _ _ (given _ _ (LabelKind.GfmFootnote, empty) refl)

pub covers_link_or_image : (s : Setting) (l : Label) (back : List Code) →
    Covers outcome_codes [] (link_or_image s l back)
unfolding link_or_image
covers_link_or_image s l back = bind _ _ _ _ _ (covers_after_label s _) λ tail. given _ _ (link_kind l.kind, tail) refl

pub covers_outcome : (s : Setting) (l : Option Label) (back : List Code) → Covers outcome_codes [] (outcome_of s l back)
unfolding outcome_of
covers_outcome s None back = record { at = λ cs. tt }
covers_outcome s (Some l) back = record { at = λ cs. (inside).at cs }
  where
    inside : Covers outcome_codes [] (provided (not (is_barred l)) >> either (footnote_call s l back) (link_or_image s l back))
    inside = if_passed _ _ _ _ (one_of _ _ _ _ (covers_footnote_call s l back) (covers_link_or_image s l back))

pub covers_ended : (s : Setting) (l : Option Label) (d : ℕ) (back : List Code) → (d ≡ zero → l ≡ None)
    → Covers (element_codes d) back (outcome_of s l back >>= λ outcome. gives (ends back (Some outcome)))
unfolding outcome_of ◌>>=◌
covers_ended s None d back h = record { at = λ cs. tt }
covers_ended s (Some l) zero back h = absurd (none (h refl))
  where
    none : Some l ≡ None → ⊥
    none e = cc
covers_ended s (Some l) (suc d) back h =
    bind outcome_codes (element_codes (suc d)) back (outcome_of s (Some l) back) _ (covers_outcome s (Some l) back) λ outcome. given _ _ (ends back (Some outcome)) refl

pub covers_label_end : (s : Setting) (earlier : List Element) →
    Covers (element_codes (unused earlier)) [] (label_end s earlier)
unfolding label_end
covers_label_end s earlier =
    bind _ _ _ _ _ (takes_one _) λ back.
    one_of _ _ _ _ (covers_ended s (label_before earlier) (unused earlier) back (no_label earlier)) (given _ _ (ends back None) refl)

-- Groups of labels.

abbrev opened : Start → List Code
opened start = start.1

abbrev closed : End → List Code
closed (marker, None) = marker
closed (marker, Some outcome) = marker ++ leaf_codes outcome.1

pub codes-start_tree : (kind : LabelKind) (cs : List Code) → leaf_codes (start_tree kind cs) ≡ cs
codes-start_tree LabelKind.Image cs =
    append-nil _ ∙ leaf_codes-row (leaf Name.LabelImageMarker (take 1 cs)) (leaf Name.LabelMarker (drop 1 cs)) ∙ (λ i. codes-leaf Name.LabelImageMarker (take 1 cs) i ++ codes-leaf Name.LabelMarker (drop 1 cs) i) ∙ take-append-drop 1 cs
codes-start_tree LabelKind.GfmFootnote cs =
    append-nil _ ∙ leaf_codes-row (leaf Name.LabelMarker (take 1 cs)) (leaf Name.GfmFootnoteCallMarker (drop 1 cs)) ∙ (λ i. codes-leaf Name.LabelMarker (take 1 cs) i ++ codes-leaf Name.GfmFootnoteCallMarker (drop 1 cs) i) ∙ take-append-drop 1 cs
codes-start_tree LabelKind.Link cs = append-nil _ ∙ codes-leaf Name.LabelMarker cs
codes-start_tree LabelKind.GfmUndefinedFootnote cs = append-nil _ ∙ codes-leaf Name.LabelMarker cs

pub nothing_after : (cs : List Code) → cs ++ drop (length cs) cs ≡ cs
nothing_after [] = refl
nothing_after (c ∷ cs) = ap (λ x. c ∷ x) (nothing_after cs)

-- a marker is its start and its caret
pub whole_marker : (kind : LabelKind) (marker : List Code) →
    start_marker kind marker ++ drop (length (start_marker kind marker)) marker ≡ marker
whole_marker LabelKind.GfmUndefinedFootnote [] = refl
whole_marker LabelKind.GfmUndefinedFootnote (c ∷ cs) = refl
whole_marker LabelKind.Image marker = nothing_after marker
whole_marker LabelKind.Link marker = nothing_after marker
whole_marker LabelKind.GfmFootnote marker = nothing_after marker

pub codes-label_group : (kind : LabelKind) (marker : List Code) (inside : Forest) (back : List Code) (tail : Forest)
    → leaf_codes (label_group kind marker inside back tail) ≡ marker ++ (leaf_codes inside ++ (back ++ leaf_codes tail))
codes-label_group kind marker inside back tail =
    append-nil _
    ∙ leaf_codes-row (group Name.Label (start_tree kind front ⊕ text_group Name.LabelText (stop_of document_start front) (start_of back) (leaf Name.Data caret ⊕ inside) ⊕ group Name.LabelEnd (leaf Name.LabelMarker back))) tail
    ∙ ap (λ x. x ++ leaf_codes tail) (append-nil _ ∙ leaf_codes-row (start_tree kind front) _ ∙ (λ i. codes-start_tree kind front i ++ (inner i ++ (append-nil _ ∙ codes-leaf Name.LabelMarker back) i)))
    ∙ regroup front caret (leaf_codes inside) back (leaf_codes tail)
    ∙ ap (λ x. x ++ (leaf_codes inside ++ (back ++ leaf_codes tail))) (whole_marker kind marker)
  where
    front : List Code
    front = start_marker kind marker

    caret : List Code
    caret = drop (length front) marker

    inner : leaf_codes (leaf Name.Data caret ⊕ inside) ≡ caret ++ leaf_codes inside
    inner = leaf_codes-row (leaf Name.Data caret) inside ∙ ap (λ x. x ++ leaf_codes inside) (codes-leaf Name.Data caret)

    regroup : (a b c d e : List Code) → (a ++ ((b ++ c) ++ d)) ++ e ≡ (a ++ b) ++ (c ++ (d ++ e))
    regroup a b c d e = simp append_assoc

pub codes-loose_start : (start : Start) → codes_of_all (loose_start start) ≡ opened start
codes-loose_start start = codes-loose start.1

pub codes-labelled : (start : Start) (inside : List Forest) (end : End) →
    codes_of_all (labelled start inside end) ≡ opened start ++ (codes_of_all inside ++ closed end)
codes-labelled start inside (marker, None) =
    sum-append codes_add (loose_start start) (inside ++ loose_end (marker, None))
    ∙ (λ i. codes-loose_start start i ++ (sum-append codes_add inside (loose_end (marker, None)) ∙ ap (λ x. codes_of_all inside ++ x) (codes-loose marker)) i)
codes-labelled start inside (marker, Some outcome) =
    append-nil _ ∙ codes-label_group outcome.0 start.1 (joined inside) marker outcome.1
    ∙ ap (λ x. start.1 ++ (x ++ (marker ++ leaf_codes outcome.1))) (codes-joined inside)

word-element : (d : ℕ) (es : List Element) →
    word_sum codes_add loose_end opened closed d (map as_bracket es) ≡ elements_codes d es
word-element d [] = refl
word-element d (plain t ∷ es) = ap (λ x. leaf_codes t ++ x) (word-element d es)
word-element d (starts kind marker ∷ es) = ap (λ x. marker ++ x) (word-element (suc d) es)
word-element zero (ends marker None ∷ es) = λ i. codes-loose marker i ++ word-element zero es i
word-element zero (ends marker (Some outcome) ∷ es) = λ i. codes-loose marker i ++ word-element zero es i
word-element (suc d) (ends marker None ∷ es) = ap (λ x. marker ++ x) (word-element d es)
word-element (suc d) (ends marker (Some outcome) ∷ es) =
    ap (λ x. (marker ++ leaf_codes outcome.1) ++ x) (word-element d es)

pub codes-labels_of : (es : List Element) → leaf_codes (labels_of es) ≡ elements_codes zero es
unfolding labels_of
codes-labels_of es = grind (arith, codes-joined, sum-nested, codes-labelled, codes-loose_start, word-element)
