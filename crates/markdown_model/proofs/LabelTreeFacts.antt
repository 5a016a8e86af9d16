-- What holds of the trees of elements, of their markers as data, of groups of labels and of rows of these, holds of the tree of labels.
use Rattle.std.proofs.Common.{List, [], ◌∷◌, ◌++◌, map, Option, Some, None, arith}
use Rattle.markdown_event.specs.declared.event.Name.{Name}
use Rattle.markdown_content.specs.declared.label_kind.LabelKind.{LabelKind}
use Rattle.markdown_content.specs.Codes.{Code}
use Rattle.markdown_content.specs.Tree.{Forest, empty, leaf, ◌⊕◌}
use Rattle.markdown_model.specs.LabelEnd.{Element, plain, starts, ends}
use Rattle.markdown_model.specs.BracketGroups.{joined, loose}
use Rattle.markdown_model.specs.Passes.{Start, End, as_bracket, label_group, labelled, labels_of}
use Rattle.markdown_model.proofs.ElementCases.{AllAre}
use Rattle.markdown_model.proofs.BracketGroupFacts.{AllHave, all-append, joined-has, WordHas, nested-has}

-- `Q` is what is said of elements
module _ (P : Forest → Type 0) (Q : Element → Type 0) (none : P empty) (row : (t u : Forest) → P t → P u → P (t ⊕ u))
    (tree : (t : Forest) → Q (plain t) → P t)
    (start : (kind : LabelKind) (marker : List Code) → Q (starts kind marker) → P (leaf Name.Data marker))
    (end : (marker : List Code) (outcome : Option (LabelKind × Forest)) → Q (ends marker outcome) → P (leaf Name.Data marker))
    (label : (kind : LabelKind) (marker : List Code) (inside : Forest) (back : List Code) (outcome : LabelKind × Forest)
    → Q (starts kind marker) → P inside → Q (ends back (Some outcome)) → P (label_group outcome.0 marker inside back outcome.1)) where
  abbrev StartHolds : Start → Type 0
  StartHolds o = Q (starts o.0 o.1)

  abbrev IsEnd : End → Type 0
  IsEnd c = Q (ends c.0 c.1)

  labelled-has : (o : Start) (inside : List Forest) (c : End) → StartHolds o → AllHave P inside → IsEnd c →
      AllHave P (labelled o inside c)
  labelled-has o inside (back, None) s h e =
      all-append P (loose o.1) (inside ++ loose back) (start o.0 o.1 s, tt) (all-append P inside (loose back) h (end back None e, tt))
  labelled-has o inside (back, Some outcome) s h e =
      (label o.0 o.1 (joined inside) back outcome s (joined-has P none row inside h) e, tt)

  word-has : (es : List Element) → AllAre Q es → WordHas P StartHolds IsEnd (map as_bracket es)
  word-has [] h = tt
  word-has (plain t ∷ es) h = (tree t h.0, word-has es h.1)
  word-has (starts kind marker ∷ es) h = (h.0, word-has es h.1)
  word-has (ends marker outcome ∷ es) h = (h.0, word-has es h.1)

  pub labels-have : (es : List Element) → AllAre Q es → P (labels_of es)
  unfolding labels_of
  labels-have es h = grind (arith, joined-has, nested-has, labelled-has, word-has)
