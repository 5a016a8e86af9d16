-- The tree of labels of elements on lines: the text of a label without a code stands between its markers.
use Rattle.std.proofs.Common.{◌≡◌, ◌≢◌, List, [], ◌∷◌, ◌++◌, length, drop, Option, Some, None, inl, inr, refl, sym, ap, ◌∙◌, append-nil, append_assoc}
use Rattle.std.specs.List.{list_any}
use Rattle.markdown_content.specs.Codes.{Code, document_start, is_line_ending, stop_of}
use Rattle.markdown_content.specs.Tree.{Forest, empty, leaf, leaf_codes, ◌⊕◌, group, text_group, start_of}
use Rattle.markdown_event.specs.declared.event.Name.TheVariants as N
use Rattle.markdown_event.specs.declared.event.Point.{Point}
use Rattle.markdown_content.specs.declared.label_kind.LabelKind.{LabelKind}
use Rattle.markdown_content.proofs.TreeCodes.{leaf_codes-row}
use Rattle.markdown_model.specs.BracketGroups.{joined, loose}
use Rattle.markdown_model.specs.LabelEnd.{Element, ends}
use Rattle.markdown_model.specs.Passes.{start_marker, start_tree, label_group, labels_of}
use Rattle.markdown_model.proofs.ElementCases.{AllAre}
use Rattle.markdown_model.proofs.LabelTreeFacts.{labels-have}
use Rattle.markdown_model.proofs.LabelsCover.{codes-label_group, codes-start_tree, whole_marker}
use Rattle.markdown_model.proofs.LeafCodes.{codes-leaf}
use Rattle.markdown_model.specs.CodeLines.{IsLine, IsSomeLine}
use Rattle.markdown_innermost.specs.OneLineLeaves.{IsIn, IsLined, AtStart, StandsBetween, HoldsOrIsBetween, IsApartTree, IsLinedElement}
use Rattle.markdown_model.proofs.OneLineReadings.{line-both}
use Rattle.markdown_innermost.proofs.OneLineTrees.{none-left, lined-weaker, lined-row, lined-leaf, lined-group}
use Rattle.markdown_model.proofs.BracketGroupFacts.{AllHave, joined-has}

-- Parts of a list.

pub in-more : (xs ys cs : List Code) (before after : List Code) → cs ≡ before ++ (ys ++ after) → IsIn xs ys → IsIn xs cs
in-more xs ys cs before after e (a, b, k) =
    (before ++ a, b ++ after, e ∙ ap (λ x. before ++ (x ++ after)) k ∙ ap (λ x. before ++ x) (append_assoc a (xs ++ b) after ∙ ap (λ x. a ++ x) (append_assoc xs b after)) ∙ sym (append_assoc before a (xs ++ (b ++ after))))

pub between-more : (ys cs : List Code) (before after : List Code) → cs ≡ before ++ (ys ++ after) → (a b : Point) →
    StandsBetween ys a b → StandsBetween cs a b
between-more ys cs before after e a b h =
    record { front = h.front; next = h.next; line = h.line; stands = in-more (h.front ++ h.next ∷ []) ys cs before after e h.stands; from = h.from; to = h.to }

stands-more : (B : Point → Point → Type 0) (ys cs : List Code) (before after : List Code) →
    cs ≡ before ++ (ys ++ after) → (a b : Point) → HoldsOrIsBetween B ys a b → HoldsOrIsBetween B cs a b
stands-more B ys cs before after e a b (inl h) = inl h
stands-more B ys cs before after e a b (inr h) = inr (between-more ys cs before after e a b h)

-- a tree that is apart stands in a longer one as it is
pub apart-in : (B : Point → Point → Type 0) (cs before after : List Code) (t : Forest) →
    cs ≡ before ++ (leaf_codes t ++ after) → IsApartTree B t → IsLined (HoldsOrIsBetween B cs) t
apart-in B cs before after t e h =
    lined-weaker (HoldsOrIsBetween B (leaf_codes t)) (HoldsOrIsBetween B cs) (stands-more B (leaf_codes t) cs before after e) t h

module _ (B : Point → Point → Type 0) where
  pub apart-row : (t u : Forest) → IsApartTree B t → IsApartTree B u → IsApartTree B (t ⊕ u)
  apart-row t u h k =
      lined-row (HoldsOrIsBetween B (leaf_codes (t ⊕ u))) t u (apart-in B (leaf_codes (t ⊕ u)) [] (leaf_codes u) t (leaf_codes-row t u) h)
      (apart-in B (leaf_codes (t ⊕ u)) (leaf_codes t) [] u (leaf_codes-row t u ∙ ap (λ x. leaf_codes t ++ x) (sym (append-nil (leaf_codes u)))) k)

  pub apart-joined : (ts : List Forest) → AllHave (IsApartTree B) ts → IsApartTree B (joined ts)
  apart-joined ts h = joined-has (IsApartTree B) tt apart-row ts h

  pub apart-loose : (cs : List Code) → IsLine cs → AllHave (IsApartTree B) (loose cs)
  apart-loose cs h = (lined-leaf (HoldsOrIsBetween B (leaf_codes (leaf N.Data cs))) N.Data cs h, tt)

  -- between some codes of a line and the codes behind them
  pub stands-between : (cs before front back after : List Code) → cs ≡ before ++ (front ++ (back ++ after)) →
      IsSomeLine front → back ≢ [] → HoldsOrIsBetween B cs (stop_of document_start front) (start_of back)
  stands-between cs before front [] after e l k = absurd (k refl)
  stands-between cs before front (c ∷ back) after e l k =
      inr (record { front = front; next = c; line = l; stands = (before, back ++ after, e ∙ ap (λ x. before ++ x) (sym (append_assoc front (c ∷ []) (back ++ after)))); from = refl; to = refl })

-- Labels.

start-some : (kind : LabelKind) (marker : List Code) → IsSomeLine marker → start_marker kind marker ≢ []
start-some kind [] h = absurd (h.0 refl)
start-some LabelKind.GfmUndefinedFootnote (c ∷ cs) h = λ e. cc
start-some LabelKind.Image (c ∷ cs) h = λ e. cc
start-some LabelKind.Link (c ∷ cs) h = λ e. cc
start-some LabelKind.GfmFootnote (c ∷ cs) h = λ e. cc

module _ (E : Point → Point → Type 0) where
  lined-start_tree : (kind : LabelKind) (cs : List Code) → IsSomeLine cs → IsLined E (start_tree kind cs)
  lined-start_tree kind [] h = absurd (h.0 refl)
  lined-start_tree LabelKind.Image (c ∷ cs) h =
      let p = line-both (c ∷ []) cs h.1 in
      lined-group E N.LabelImage _ _ N.LabelImageMarker (c ∷ []) (leaf N.LabelMarker cs) (λ e. cc) (lined-row E (leaf N.LabelImageMarker (c ∷ [])) (leaf N.LabelMarker cs) (lined-leaf E N.LabelImageMarker (c ∷ []) p.0) (lined-leaf E N.LabelMarker cs p.1))
  lined-start_tree LabelKind.GfmFootnote (c ∷ cs) h =
      let p = line-both (c ∷ []) cs h.1 in
      lined-group E N.GfmFootnoteCallLabel _ _ N.LabelMarker (c ∷ []) (leaf N.GfmFootnoteCallMarker cs) (λ e. cc) (lined-row E (leaf N.LabelMarker (c ∷ [])) (leaf N.GfmFootnoteCallMarker cs) (lined-leaf E N.LabelMarker (c ∷ []) p.0) (lined-leaf E N.GfmFootnoteCallMarker cs p.1))
  lined-start_tree LabelKind.Link (c ∷ cs) h =
      lined-group E N.LabelLink _ _ N.LabelMarker (c ∷ cs) empty (λ e. cc) (lined-leaf E N.LabelMarker (c ∷ cs) h.1)
  lined-start_tree LabelKind.GfmUndefinedFootnote (c ∷ cs) h =
      lined-group E N.LabelLink _ _ N.LabelMarker (c ∷ cs) empty (λ e. cc) (lined-leaf E N.LabelMarker (c ∷ cs) h.1)

  lined-back : (back : List Code) → IsSomeLine back → IsLined E (group N.LabelEnd (leaf N.LabelMarker back))
  lined-back [] h = absurd (h.0 refl)
  lined-back (c ∷ cs) h =
      lined-group E N.LabelEnd _ _ N.LabelMarker (c ∷ cs) empty (λ e. cc) (lined-leaf E N.LabelMarker (c ∷ cs) h.1)

module _ (kind : LabelKind) (marker : List Code) (inside : Forest) (back : List Code) (tail : Forest)
    (m : IsSomeLine marker) (i : IsApartTree AtStart inside) (b : IsSomeLine back) (t : IsLined AtStart tail) where
  abbrev front : List Code
  front = start_marker kind marker

  abbrev caret : List Code
  caret = drop (length front) marker

  abbrev whole_label : Forest
  whole_label = label_group kind marker inside back tail

  abbrev F : Point → Point → Type 0
  F = HoldsOrIsBetween AtStart (leaf_codes whole_label)

  codes : leaf_codes whole_label ≡ marker ++ (leaf_codes inside ++ (back ++ leaf_codes tail))
  codes = codes-label_group kind marker inside back tail

  parts : IsLine front × IsLine caret
  parts = line-both front caret (ap (λ xs. list_any is_line_ending xs) (whole_marker kind marker) ∙ m.1)

  no-code : leaf_codes (leaf N.Data caret ⊕ inside) ≡ [] → (caret ≡ []) × (leaf_codes inside ≡ [])
  no-code e = none-left caret (leaf_codes inside) (sym (leaf_codes-row (leaf N.Data caret) inside ∙ ap (λ x. x ++ leaf_codes inside) (codes-leaf N.Data caret)) ∙ e)

  text-stands : leaf_codes (leaf N.Data caret ⊕ inside) ≡ [] → F (stop_of document_start front) (start_of back)
  text-stands e =
      let none = no-code e in
      let all : front ≡ marker = sym (append-nil front) ∙ ap (λ x. front ++ x) (sym none.0) ∙ whole_marker kind marker in
      stands-between AtStart (leaf_codes whole_label) [] front back (leaf_codes tail) (codes ∙ ap (λ x. marker ++ (x ++ (back ++ leaf_codes tail))) none.1 ∙ ap (λ x. x ++ (back ++ leaf_codes tail)) (sym all)) (start-some kind marker m, parts.0) b.0

  text : IsLined F (text_group N.LabelText (stop_of document_start front) (start_of back) (leaf N.Data caret ⊕ inside))
  text = (
    text-stands,
    (
      lined-row F (leaf N.Data caret) inside (lined-leaf F N.Data caret parts.1) (apart-in AtStart (leaf_codes whole_label) marker (back ++ leaf_codes tail) inside codes i),
      tt,
    ),
  )

  some-code : (cs : List Code) → leaf_codes whole_label ≡ cs → cs ≡ [] → ⊥
  some-code cs e k = m.0 (none-left marker (leaf_codes inside ++ (back ++ leaf_codes tail)) (sym codes ∙ e ∙ k)).0

  abbrev label_row : Forest
  label_row = start_tree kind front ⊕ text_group N.LabelText (stop_of document_start front) (start_of back) (leaf N.Data caret ⊕ inside) ⊕ group N.LabelEnd (leaf N.LabelMarker back)

  label-row : IsLined F label_row
  label-row =
      lined-row F (start_tree kind front) _ (lined-start_tree F kind front (start-some kind marker m, parts.0)) (lined-row F (text_group N.LabelText (stop_of document_start front) (start_of back) (leaf N.Data caret ⊕ inside)) (group N.LabelEnd (leaf N.LabelMarker back)) text (lined-back F back b))

  abbrev row_behind : Forest
  row_behind = text_group N.LabelText (stop_of document_start front) (start_of back) (leaf N.Data caret ⊕ inside) ⊕ group N.LabelEnd (leaf N.LabelMarker back)

  label-some : leaf_codes label_row ≡ [] → ⊥
  label-some e =
      start-some kind marker m (none-left front (leaf_codes row_behind) (sym (leaf_codes-row (start_tree kind front) row_behind ∙ ap (λ x. x ++ leaf_codes row_behind) (codes-start_tree kind front)) ∙ e)).0

  pub apart-label : IsApartTree AtStart whole_label
  apart-label = (
    (λ e. absurd (some-code (leaf_codes whole_label) refl (append-nil _ ∙ e))),
    (lined-row F (group N.Label label_row) tail ((λ e. absurd (label-some e)), (label-row, tt)) (lined-weaker AtStart F (λ a b h. inl h) tail t), tt),
  )

-- The tree of labels.

end-line : (marker : List Code) (outcome : Option (LabelKind × Forest)) → IsLinedElement (ends marker outcome) →
    IsLine marker
end-line marker None e = e.1
end-line marker (Some outcome) e = e.0.1

pub apart-labels : (es : List Element) → AllAre IsLinedElement es → IsApartTree AtStart (labels_of es)
apart-labels es h =
    labels-have (IsApartTree AtStart) IsLinedElement tt (apart-row AtStart)
    (λ t k. lined-weaker AtStart (HoldsOrIsBetween AtStart (leaf_codes t)) (λ a b l. inl l) t k)
    (λ kind marker k. (apart-loose AtStart marker k.1).0) (λ marker outcome k. (apart-loose AtStart marker (end-line marker outcome k)).0)
    (λ kind marker inside back outcome m i e. apart-label outcome.0 marker inside back outcome.1 m i e.0 e.1) es h
