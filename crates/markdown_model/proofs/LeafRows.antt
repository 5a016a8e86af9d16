-- Rows of leaves: what is said of each leaf, of texts that are cut into stretches and lines too.
use Rattle.std.proofs.Common.{◌≡◌, ◌≢◌, Bool, true, false, ◌&&◌, ◌||◌, not, List, [], ◌∷◌, Option, None, refl, ap, ◌∙◌}
use Rattle.std.specs.List.{list_any}
use Rattle.std.proofs.lemmas.Bool.{and_parts}
use Rattle.markdown_content.specs.Codes.{Code, is_blank, is_line_ending}
use Rattle.markdown_content.specs.Tree.{Forest, empty, leaf_then, group_then, leaf, ◌⊕◌}
use Rattle.markdown_event.specs.declared.event.Content.{Content}
use Rattle.markdown_event.specs.declared.event.Name.{Name}
use Rattle.markdown_model.specs.CodeTests.{next_is}
use Rattle.markdown_model.specs.CodeLines.{IsLine, IsSomeLine, IsOnLine}
use Rattle.markdown_model.specs.Grammar.{span}
use Rattle.markdown_model.specs.TextLines.{joins, onto_stretch, stretches, lines_of, linked_leaf, line_leaf, line_leaves, lines_from, lines}
use Rattle.markdown_model.proofs.LeafCodes.{span-append}
use Rattle.markdown_model.proofs.OneLineReadings.{filled, line-both, line-first}

-- Stretches.

abbrev pub IsOnLineIfAny : List Code → Type 0
IsOnLineIfAny [] = Unit {0}
IsOnLineIfAny (c ∷ cs) = IsOnLine (c ∷ cs)

abbrev pub AreFine : List (List Code) → Type 0
AreFine [] = Unit {0}
AreFine (s ∷ ss) = IsOnLineIfAny s × AreFine ss

-- codes on a line whose first is no line ending
on-first : (c : Code) (cs : List Code) → IsOnLine (c ∷ cs) → is_line_ending c ≡ false → IsLine (c ∷ cs)
on-first c [] h k = line-first c [] k refl
on-first c (d ∷ cs) h k = h

-- some codes that begin with no line ending
fine-line : (s : List Code) → IsOnLineIfAny s → next_is is_line_ending s ≡ false → IsLine s
fine-line [] h e = refl
fine-line (c ∷ cs) h e = on-first c cs h e

neither : (a b : Bool) → not (a || b) ≡ true → (a ≡ false) × (b ≡ false)
neither true b h = cc
neither false true h = cc
neither false false h = (refl, refl)

pub fine-onto : (p : Code → Bool) (c : Code) (ss : List (List Code)) → AreFine ss → AreFine (onto_stretch p c ss)
fine-onto p c [] h = (tt, tt)
fine-onto p c ([] ∷ more) h = (tt, h.1)
fine-onto p c ((d ∷ ds) ∷ more) h = by_test (joins p c d) refl
  where
    by_test : (b : Bool) → joins p c d ≡ b →
        AreFine (elim b [ true ↦ (c ∷ d ∷ ds) ∷ more | false ↦ (c ∷ []) ∷ (d ∷ ds) ∷ more ])
    by_test true e =
        let apart = neither (is_line_ending c) (is_line_ending d) (and_parts (not (is_line_ending c || is_line_ending d)) ((p c && p d) || not (p c || p d)) e).0 in
        (line-first c (d ∷ ds) apart.0 (on-first d ds h.0 apart.1), h.1)
    by_test false e = (tt, h)

pub fine-stretches : (p : Code → Bool) (cs : List Code) → AreFine (stretches p cs)
fine-stretches p [] = tt
fine-stretches p (c ∷ cs) = fine-onto p c (stretches p cs) (fine-stretches p cs)

-- Rows.

module _ (L : Name → Option Content → List Code → Type 0) where
  -- leaves alone, and this of each
  abbrev pub Leaves : Forest → Type 0
  Leaves empty = Unit {0}
  Leaves (leaf_then name link cs rest) = L name link cs × Leaves rest
  Leaves (group_then name enter exit inside rest) = ⊥

  pub leaves-row : (t u : Forest) → Leaves t → Leaves u → Leaves (t ⊕ u)
  leaves-row empty u h k = k
  leaves-row (leaf_then name link cs rest) u h k = (h.0, leaves-row rest u h.1 k)
  leaves-row (group_then name enter exit inside rest) u h k = absurd h

  -- a leaf over some codes, and none over none
  pub leaves-leaf : (name : Name) (cs : List Code) → (cs ≢ [] → L name None cs) → Leaves (leaf name cs)
  leaves-leaf name [] h = tt
  leaves-leaf name (c ∷ cs) h = (h (filled c cs), tt)

  pub leaves-linked : (name : Name) (link : Option Content) (cs : List Code) → (cs ≢ [] → L name link cs)
      → Leaves (linked_leaf name link cs)
  leaves-linked name link [] h = tt
  leaves-linked name link (c ∷ cs) h = (h (filled c cs), tt)

  -- Texts: what is said of a stretch, and of a line ending.

  module _ (name : Name) (link : Option Content) (line : (s : List Code) → IsSomeLine s → L name link s) (ending : (s : List Code) → s ≢ [] → IsOnLine s → L Name.LineEnding link s) where
    leaves-line : (s : List Code) → IsOnLineIfAny s → Leaves (line_leaf name link s)
    leaves-line [] h = tt
    leaves-line (c ∷ cs) h = by_test (is_line_ending c) refl
      where
        by_test : (b : Bool) → is_line_ending c ≡ b
            → Leaves (elim b as (λ _. Forest) [ true ↦ linked_leaf Name.LineEnding link (c ∷ cs) | false ↦ linked_leaf name link (c ∷ cs) ])
        by_test true e = (ending (c ∷ cs) (filled c cs) h, tt)
        by_test false e = (line (c ∷ cs) (filled c cs, on-first c cs h e), tt)

    -- also where the blank codes at the start of a later line stand apart
    module _ (space : (s : List Code) → IsSomeLine s → L Name.SpaceOrTab link s) where
      leaves-lines-from : (later : Bool) (ss : List (List Code)) → AreFine ss → Leaves (lines_from name link later ss)
      leaves-lines-from later [] h = tt
      leaves-lines-from later (s ∷ ss) h = by_test later (next_is is_line_ending s) refl (λ b. leaves-lines-from b ss h.1)
        where
          by_test : (a b : Bool) → next_is is_line_ending s ≡ b → ((f : Bool) → Leaves (lines_from name link f ss))
              → Leaves (elim (a && not b) as (λ _. Forest) [
                | true ↦ linked_leaf Name.SpaceOrTab link (span is_blank s).0 ⊕ linked_leaf name link (span is_blank s).1 ⊕ lines_from name link false ss
                | false ↦ line_leaf name link s ⊕ lines_from name link (next_is is_line_ending s) ss
              ])
          by_test true false e more =
              let p = line-both (span is_blank s).0 (span is_blank s).1 (ap (list_any is_line_ending) (span-append is_blank s) ∙ fine-line s h.0 e) in
              leaves-row _ _ (leaves-linked Name.SpaceOrTab link (span is_blank s).0 (λ some. space (span is_blank s).0 (some, p.0)))
              (leaves-row _ _ (leaves-linked name link (span is_blank s).1 (λ some. line (span is_blank s).1 (some, p.1))) (more false))
          by_test true true e more = leaves-row _ _ (leaves-line s h.0) (more (next_is is_line_ending s))
          by_test false b e more = leaves-row _ _ (leaves-line s h.0) (more (next_is is_line_ending s))

      pub leaves-lines : (cs : List Code) → Leaves (lines name link cs)
      leaves-lines cs = leaves-lines-from false (lines_of cs) (fine-stretches (λ c. true) cs)

  -- a leaf for each stretch
  pub leaves-stretches : (name : Name) → ((s : List Code) → IsSomeLine s → L name None s)
      → ((s : List Code) → s ≢ [] → IsOnLine s → L Name.LineEnding None s) → (ss : List (List Code)) → AreFine ss → Leaves (line_leaves name ss)
  leaves-stretches name line ending [] h = tt
  leaves-stretches name line ending (s ∷ ss) h =
      leaves-row _ _ (leaves-line name None line ending s h.0) (leaves-stretches name line ending ss h.1)
